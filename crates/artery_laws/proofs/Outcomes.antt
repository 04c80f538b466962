-- Each frame has exactly one outcome.
use Rattle.std.proofs.Common.{◌≡◌, ℕ, Bool, true, false, cond, List, [], ◌∷◌, refl, ap, sym, ◌∙◌, subst}
use Rattle.std.specs.Prelude.{◌||◌, ◌&&◌, not, is_some, Option, Some, None, Result, Ok, Err}
use Rattle.artery_base.specs.declared.address.UniqueAddress.{UniqueAddress}
use Rattle.artery_base.specs.Words.{◌>>=◌}
use Rattle.artery_codec.specs.declared.message.DropRule.{DropRule}
use Rattle.artery_codec.specs.Meaning.{Meaning}
use Rattle.artery_frame.specs.declared.stream.Stream.{Stream}
use Rattle.artery_header.specs.declared.fault.HeaderFault.{HeaderFault}
use Rattle.artery_header.specs.Envelope.{EnvelopeOf, read_of}
use Rattle.artery_control.specs.declared.control.Control.TheVariants as controls
use Rattle.artery_journal.specs.declared.line.Line.TheVariants as lines
use Rattle.artery_journal.specs.declared.rule.Rule.{Rule}
use Rattle.artery_journal.specs.declared.rule.Rule.TheVariants as rules
use Rattle.artery_machine.specs.Deeds.{Tells, Writes, Controls}
use Rattle.artery_machine.specs.Parts.{Parts}
use Rattle.artery_machine.specs.Node.{Node, Inbound, speaker_in}
use Rattle.artery_machine.specs.Closing.{control_dial, quarantines}
use Rattle.artery_machine.specs.Doing.{listed, Doing, where_true, writes_on}
use Rattle.artery_machine.specs.Handshaking.{drops}
use Rattle.artery_machine.specs.Hearing.{is_told_closed, by_speaker, drops_closed, heard_as, hears_on}
use Rattle.artery_machine.specs.Verdict.{Content, Verdict, Dropped, OfClosed, Says, header_rule, codec_rule, is_uid_of, meaning_or_rule, meant, tables_for, belongs, content_of, is_handshake, is_from, is_shut, rule_of, judged, unless_dropped, said_by, read_said, content_in, verdict}
use Rattle.artery_laws.specs.Outcome.{IsEnvelope, IsMessage, IsInPlace, HasContent, HasSpeaker, IsSaid, IsOutcome, NoEnvelope, OtherUid, NoMeaning, OutOfPlace, NoContent, NoSpeaker, NotFrom, Shut, Said, TellsDropped}

module _ {P : Parts} (stream : Option Stream) (n : Node P) (i : Inbound P) (frame : List ℕ) where
  -- the rules from the one on the speaker on
  abbrev from_on : EnvelopeOf → Content → Result Content Rule
  from_on e c = unless_dropped (is_from e.uid i.state c) rules.From c

  abbrev speaker_on : EnvelopeOf → Content → Result Content Rule
  speaker_on e c = unless_dropped (is_some (speaker_in i.state) || is_handshake c) rules.NoHandshake c >>= (λ handshake. from_on e c)

  abbrev content_on : EnvelopeOf → Result Content Rule → Result Content Rule
  content_on e x = x >>= (λ c. speaker_on e c)

  abbrev place_on : EnvelopeOf → Meaning → Result Content Rule
  place_on e m = unless_dropped (belongs stream m) rules.Stream m >>= (λ on_stream. content_on e (content_of e m))

  said_is : (e : EnvelopeOf) (m : Meaning) → said_by i.state stream e (Ok m) ≡ place_on e m
  unfolding said_by
  said_is e m = refl

  said_not : (e : EnvelopeOf) (rule : Rule) → said_by i.state stream e (Err rule) ≡ Err rule
  unfolding said_by
  said_not e rule = refl

  abbrev Is : Verdict → Type 0
  Is = IsOutcome stream n i frame

  by_shut : (e : EnvelopeOf) (m : Meaning) (c : Content) → IsSaid stream n i frame e m c → (b : Bool) → (is_shut n (speaker_in i.state) && not (is_handshake c)) ≡ b
      → Is (cond b (OfClosed c) (Says c))
  by_shut e m c h true x = Shut e m c h x
  by_shut e m c h false x = Said e m c h x

  by_from : (e : EnvelopeOf) (m : Meaning) (c : Content) → HasSpeaker stream n i frame e m c → (b : Bool) → is_from e.uid i.state c ≡ b
      → Is (judged (is_shut n (speaker_in i.state)) (unless_dropped b rules.From c))
  by_from e m c h true x = by_shut e m c (record { content = h; from = x }) (is_shut n (speaker_in i.state) && not (is_handshake c)) refl
  by_from e m c h false x = NotFrom e m c h x

  by_handshake : (e : EnvelopeOf) (m : Meaning) (c : Content) → HasContent stream n i frame e m c → (b : Bool) → (is_some (speaker_in i.state) || is_handshake c) ≡ b
      → Is (judged (is_shut n (speaker_in i.state)) (unless_dropped b rules.NoHandshake c >>= (λ handshake. from_on e c)))
  by_handshake e m c h true x = by_from e m c (record { content = h; speaker = x }) (is_from e.uid i.state c) refl
  by_handshake e m c h false x = NoSpeaker e m c h x

  by_content : (e : EnvelopeOf) (m : Meaning) → IsInPlace stream n i frame e m → (r : Result Content Rule) → content_of e m ≡ r
      → Is (judged (is_shut n (speaker_in i.state)) (content_on e r))
  by_content e m h (Ok c) x = by_handshake e m c (record { message = h; content = x }) (is_some (speaker_in i.state) || is_handshake c) refl
  by_content e m h (Err rule) x = NoContent e m rule h x

  by_place : (e : EnvelopeOf) (m : Meaning) → IsMessage stream n i frame e m → (b : Bool) → belongs stream m ≡ b
      → Is (judged (is_shut n (speaker_in i.state)) (unless_dropped b rules.Stream m >>= (λ on_stream. content_on e (content_of e m))))
  by_place e m h true x = by_content e m (record { message = h; place = x }) (content_of e m) refl
  by_place e m h false x = OutOfPlace e m h x

  by_meaning : (e : EnvelopeOf) → IsEnvelope stream n i frame e → (r : Result Meaning DropRule) → meant P (tables_for i.state n) e ≡ r
      → Is (judged (is_shut n (speaker_in i.state)) (said_by i.state stream e (meaning_or_rule r)))
  by_meaning e h (Ok m) x = subst (λ r. Is (judged (is_shut n (speaker_in i.state)) r)) (sym (said_is e m)) (by_place e m (record { envelope = h; meaning = x }) (belongs stream m) refl)
  by_meaning e h (Err rule) x = subst (λ r. Is (judged (is_shut n (speaker_in i.state)) r)) (sym (said_not e (codec_rule rule))) (NoMeaning e rule h x)

  by_uid : (e : EnvelopeOf) → read_of frame ≡ Ok e → (b : Bool) → is_uid_of i.state e.uid ≡ b
      → Is (judged (is_shut n (speaker_in i.state)) (cond b (said_by i.state stream e (meaning_or_rule (meant P (tables_for i.state n) e))) (Err rules.Uid)))
  by_uid e r true x = by_meaning e (record { read = r; uid = x }) (meant P (tables_for i.state n) e) refl
  by_uid e r false x = OtherUid e r x

  by_read : (r : Result EnvelopeOf HeaderFault) → read_of frame ≡ r → Is (judged (is_shut n (speaker_in i.state)) (read_said stream n i r))
  by_read (Ok e) x = by_uid e x (is_uid_of i.state e.uid) refl
  by_read (Err fault) x = NoEnvelope fault x

  pub has_one : Is (verdict stream n i frame)
  has_one = by_read (read_of frame) refl

  -- ---- and no other

  abbrev At : Result Content Rule → Verdict
  At r = judged (is_shut n (speaker_in i.state)) r

  at_envelope : (e : EnvelopeOf) → IsEnvelope stream n i frame e → content_in stream n i frame ≡ said_by i.state stream e (meaning_or_rule (meant P (tables_for i.state n) e))
  at_envelope e h =
      ap (λ r. read_said stream n i r) h.read
      ∙ ap (λ b. cond b (said_by i.state stream e (meaning_or_rule (meant P (tables_for i.state n) e))) (Err rules.Uid)) h.uid

  at_message : (e : EnvelopeOf) (m : Meaning) → IsMessage stream n i frame e m → content_in stream n i frame ≡ place_on e m
  at_message e m h = at_envelope e h.envelope ∙ ap (λ r. said_by i.state stream e (meaning_or_rule r)) h.meaning ∙ said_is e m

  at_place : (e : EnvelopeOf) (m : Meaning) → IsInPlace stream n i frame e m → content_in stream n i frame ≡ content_on e (content_of e m)
  at_place e m h = at_message e m h.message ∙ ap (λ b. unless_dropped b rules.Stream m >>= (λ on_stream. content_on e (content_of e m))) h.place

  at_content : (e : EnvelopeOf) (m : Meaning) (c : Content) → HasContent stream n i frame e m c → content_in stream n i frame ≡ speaker_on e c
  at_content e m c h = at_place e m h.message ∙ ap (λ r. content_on e r) h.content

  at_speaker : (e : EnvelopeOf) (m : Meaning) (c : Content) → HasSpeaker stream n i frame e m c → content_in stream n i frame ≡ from_on e c
  at_speaker e m c h = at_content e m c h.content ∙ ap (λ b. unless_dropped b rules.NoHandshake c >>= (λ handshake. from_on e c)) h.speaker

  at_said : (e : EnvelopeOf) (m : Meaning) (c : Content) → IsSaid stream n i frame e m c → content_in stream n i frame ≡ Ok c
  at_said e m c h = at_speaker e m c h.content ∙ ap (λ b. unless_dropped b rules.From c) h.from

  dropped : (rule : Rule) → content_in stream n i frame ≡ Err rule → Dropped rule ≡ verdict stream n i frame
  dropped rule e = sym (ap (judged (is_shut n (speaker_in i.state))) e)

  pub has_no_other : (x : Verdict) → Is x → x ≡ verdict stream n i frame
  has_no_other _ (NoEnvelope fault x) = dropped (header_rule fault) (ap (λ r. read_said stream n i r) x)
  has_no_other _ (OtherUid e r x) = dropped rules.Uid (ap (λ r. read_said stream n i r) r ∙ ap (λ b. cond b (said_by i.state stream e (meaning_or_rule (meant P (tables_for i.state n) e))) (Err rules.Uid)) x)
  has_no_other _ (NoMeaning e rule h x) = dropped (codec_rule rule) (at_envelope e h ∙ ap (λ r. said_by i.state stream e (meaning_or_rule r)) x ∙ said_not e (codec_rule rule))
  has_no_other _ (OutOfPlace e m h x) = dropped rules.Stream (at_message e m h ∙ ap (λ b. unless_dropped b rules.Stream m >>= (λ on_stream. content_on e (content_of e m))) x)
  has_no_other _ (NoContent e m rule h x) = dropped rule (at_place e m h ∙ ap (λ r. content_on e r) x)
  has_no_other _ (NoSpeaker e m c h x) = dropped rules.NoHandshake (at_content e m c h ∙ ap (λ b. unless_dropped b rules.NoHandshake c >>= (λ handshake. from_on e c)) x)
  has_no_other _ (NotFrom e m c h x) = dropped rules.From (at_speaker e m c h ∙ ap (λ b. unless_dropped b rules.From c) x)
  has_no_other _ (Shut e m c h x) = sym (ap (judged (is_shut n (speaker_in i.state))) (at_said e m c h) ∙ ap (λ b. cond b (OfClosed c) (Says c)) x)
  has_no_other _ (Said e m c h x) = sym (ap (judged (is_shut n (speaker_in i.state))) (at_said e m c h) ∙ ap (λ b. cond b (OfClosed c) (Says c)) x)

  -- ---- and what is dropped is told

  abbrev idle : Doing P listed
  idle = record { node = n; deeds = [] }

  by_told : (v : UniqueAddress) (told : Bool) → TellsDropped n i.number rules.Closed (where_true told (quarantines v) (drops i.number rules.Closed idle))
  by_told v false = record { behind = []; deeds = refl }
  by_told v true = written (control_dial v n)
    where
      written : (dial : Option ℕ) → TellsDropped n i.number rules.Closed (writes_on dial (Controls (controls.Quarantined n.me v)) (drops i.number rules.Closed idle))
      written None = record { behind = []; deeds = refl }
      written (Some dial) = record { behind = Writes dial (Controls (controls.Quarantined n.me v)) ∷ []; deeds = refl }

  open_says : (c : Content) (r : Result Content Rule) → judged false r ≡ OfClosed c → ⊥
  open_says c (Ok x) e = absurd cc
  open_says c (Err rule) e = absurd cc

  by_known : (c : Content) (v : Option UniqueAddress) → judged (is_shut n v) (content_in stream n i frame) ≡ OfClosed c → TellsDropped n i.number rules.Closed (by_speaker v (λ w. drops_closed i.number w c) idle)
  by_known c None e = absurd (open_says c (content_in stream n i frame) e)
  by_known c (Some v) e = by_told v (is_told_closed c)

  by_verdict : (rule : Rule) (x : Verdict) → verdict stream n i frame ≡ x → rule_of x ≡ Some rule → TellsDropped n i.number rule (heard_as i x idle)
  by_verdict rule (Dropped r) e t = (let s : r ≡ rule = cc in record { behind = []; deeds = ap (λ x. Tells (lines.Dropped n.me i.number x) ∷ []) s })
  by_verdict rule (OfClosed c) e t = (let s : rules.Closed ≡ rule = cc in subst (λ x. TellsDropped n i.number x (heard_as i (OfClosed c) idle)) s (by_known c (speaker_in i.state) e))
  by_verdict rule (Says c) e t = absurd cc

  pub tells_dropped : (rule : Rule) → rule_of (verdict stream n i frame) ≡ Some rule → TellsDropped n i.number rule (hears_on stream (Some i) frame idle)
  tells_dropped rule t = by_verdict rule (verdict stream n i frame) refl t
