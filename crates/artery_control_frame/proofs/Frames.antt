-- The bytes of a control message's frame, part by part.
use Rattle.std.proofs.Common.{◌≡◌, ℕ, ◌+◌, true, List, [], ◌∷◌, ◌++◌, length, take, refl, sym, ap, ◌∙◌, append_assoc}
use Rattle.std.proofs.lemmas.List.{take_at, append-nil}
use Rattle.byteorder.specs.Endian.{little_bytes}
use Rattle.artery_header.specs.Envelope.{is_text, numbers, tags, canonical, IsFrontOf}
use Rattle.artery_control.specs.declared.control.Control.{Control}
use Rattle.artery_control.specs.declared.control.Control.TheVariants as controls
use Rattle.artery_control.specs.Payload.{payload_of, letter_of}
use Rattle.artery_control_frame.specs.ControlFrame.{control_envelope, control_head, control_frame, EnvelopeHasLength}

pub letter_is_text : (control : Control) → is_text (letter_of control ∷ []) ≡ true
letter_is_text (controls.Quarantined from to) = refl
letter_is_text (controls.Terminating from) = refl
letter_is_text (controls.TerminatingAck from) = refl
letter_is_text (controls.HandshakeReq from to _) = refl
letter_is_text (controls.HandshakeRsp from for_uid _) = refl
letter_is_text (controls.RefsTable from origin version keys values sequence) = refl
letter_is_text (controls.RefsAck from version sequence) = refl
letter_is_text (controls.ManifestsTable from origin version keys values sequence) = refl
letter_is_text (controls.ManifestsAck from version sequence) = refl
letter_is_text (controls.Numbered n message reply_to) = refl
letter_is_text (controls.Ack n from) = refl
letter_is_text (controls.Nack n from) = refl
letter_is_text controls.Heartbeat = refl
letter_is_text (controls.HeartbeatRsp uid) = refl

-- ---- writing

-- the payload stands at the end
whole_is : (control : Control) (uid : ℕ) → canonical (control_envelope control uid) ≡ canonical (control_head control uid) ++ payload_of control
unfolding numbers tags
whole_is control uid = simp append_assoc refl

pub frame_is : EnvelopeHasLength → (control : Control) (uid len : ℕ) (old one two new : List ℕ) → len ≡ length (payload_of control)
    → one ≡ old ++ little_bytes 4 (35 + len) → two ≡ one ++ canonical (control_head control uid) → new ≡ two ++ payload_of control → new ≡ old ++ control_frame control uid
frame_is told control uid len old one two new l a b c =
    let size : 35 + len ≡ length (canonical (control_envelope control uid)) = ap (λ (n : ℕ). 35 + n) l ∙ sym (told control uid) in
    let envelope : List ℕ = canonical (control_envelope control uid) in
    c
    ∙ ap (λ (t : List ℕ). t ++ payload_of control) b
    ∙ append_assoc one (canonical (control_head control uid)) (payload_of control)
    ∙ ap (λ (t : List ℕ). one ++ t) (sym (whole_is control uid))
    ∙ ap (λ (t : List ℕ). t ++ envelope) a
    ∙ append_assoc old (little_bytes 4 (35 + len)) envelope
    ∙ ap (λ (n : ℕ). old ++ (little_bytes 4 n ++ envelope)) size

pub front_same : (old : List ℕ) → IsFrontOf old old
front_same old = ap (λ (t : List ℕ). take (length old) t) (sym (append-nil old)) ∙ take_at old [] (length old) refl

pub front_more : (old new more : List ℕ) → new ≡ old ++ more → IsFrontOf old new
front_more old new more e = ap (λ (t : List ℕ). take (length old) t) e ∙ take_at old more (length old) refl

pub front_then : (old one more two rest : List ℕ) → one ≡ old ++ more → two ≡ one ++ rest → IsFrontOf old two
front_then old one more two rest a b = front_more old two (more ++ rest) (b ∙ ap (λ (t : List ℕ). t ++ rest) a ∙ append_assoc old more rest)

pub ruleset frame_steps = (frame_is, front_same, front_more, front_then)
