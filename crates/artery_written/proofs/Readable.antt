-- What holds of a writing makes it read back, and what holds of frames that were written holds of what they say.
use Rattle.std.proofs.Common.{◌≡◌, ℕ, ◌+◌, ◌<◌, ◌≤◌, ◌^◌, Bool, true, false, cond, List, [], ◌∷◌, length, refl, sym, ◌∙◌, ap, subst, arith, Result, Ok, Err}
use Rattle.std.specs.Prelude.{Option, None, Some, nat_lt, slice_get}
use Rattle.std.proofs.lemmas.Bool.Decides.{nat_tests}
use Rattle.artery_control.specs.declared.control.Control.{Control}
use Rattle.artery_control.specs.declared.fault.ControlFault.{ControlFault}
use Rattle.artery_control.specs.Message.{message_of}
use Rattle.artery_control.specs.Payload.{payload_of}
use Rattle.artery_control_frame.specs.ControlFrame.{control_envelope, most_payload}
use Rattle.artery_codec.specs.Meaning.{Meaning}
use Rattle.artery_frame.specs.declared.stream.Stream.{Stream}
use Rattle.artery_frame.specs.Stream.{IsShort}
use Rattle.artery_header.specs.declared.fault.HeaderFault.{HeaderFault}
use Rattle.artery_header.specs.declared.fault.EncodeFault.{EncodeFault}
use Rattle.artery_header.specs.Envelope.{EnvelopeOf, HasTexts, canonical, canonical_len, envelope_limit, is_long, refusal, read_of}
use Rattle.artery_header.proofs.Layouts.{read_laid_out, laid_out_texts}
use Rattle.artery_header.proofs.Written.{canonical_length}
use Rattle.artery_journal.specs.declared.rule.Rule.{Rule as DropRule}
use Rattle.artery_machine.specs.Deeds.{Writing, Begins, Controls, Sends}
use Rattle.artery_machine.specs.Parts.{whole}
use Rattle.artery_machine.specs.Ways.{Wrote}
use Rattle.artery_machine.specs.Connections.{is_inward}
use Rattle.artery_machine.specs.Node.{Node, Inbound}
use Rattle.artery_machine.specs.Verdict.{Content, Controls as SaysControl, Ordinary as SaysOrdinary, is_control_serializer, control_read, content_of, read_said, content_in}
use Rattle.artery_flight.specs.Flight.{ControlIsReadBack, OrdinaryIsReadBack}
use Rattle.artery_flight.specs.Answers.{IsReadBack}
use Rattle.artery_flight.proofs.Lists.{Each, each_weaker, each_get}
use Rattle.artery_flight.proofs.Grow.{Conn, AllRead, one_weaker, one_both, one_here}
use Rattle.artery_flight.proofs.Reading.{IsSaidBy, HasFrame, Framed, envelope_ok, content_is}
use Rattle.artery_written.proofs.Facts.{ControlFacts, EnvelopeFacts, WritingFacts, ContentFacts}
use Rattle.artery_written.proofs.Hearing.{FrameFacts}

-- The laws by which a frame is read back.
pub record Laws : Type 0 where
  pub control : ControlIsReadBack
  pub ordinary : OrdinaryIsReadBack

-- ---- a writing

control_short : (control : Control) (uid : ℕ) → length (payload_of control) ≤ most_payload → IsShort (canonical (control_envelope control uid))
control_short control uid h =
    let e : length (canonical (control_envelope control uid)) ≡ canonical_len (control_envelope control uid) = canonical_length (control_envelope control uid) in
    let k : canonical_len (control_envelope control uid) ≡ 35 + length (payload_of control) = omega arith in
    omega arith

last_test : (a b c d : Bool) (w x y z : EncodeFault) → cond a (Some w) (cond b (Some x) (cond c (Some y) (cond d (Some z) None))) ≡ None → d ≡ false
last_test true b c d w x y z h = absurd (cc)
last_test false true c d w x y z h = absurd (cc)
last_test false false true d w x y z h = absurd (cc)
last_test false false false true w x y z h = absurd (cc)
last_test false false false false w x y z h = refl

at_most : (n : ℕ) → nat_lt envelope_limit n ≡ false → n ≤ 262144
at_most n h = grind (arith, nat_tests)

ordinary_short : (e : EnvelopeOf) → refusal e ≡ None → IsShort (canonical e)
ordinary_short e h =
    let k : canonical_len e ≤ 262144 = at_most (canonical_len e) (last_test (is_long e.sender) (is_long e.recipient) (is_long e.manifest) (nat_lt envelope_limit (canonical_len e)) _ _ _ _ h) in
    let l : length (canonical e) ≡ canonical_len e = canonical_length e in
    omega arith

pub read_back : Laws → (uid : ℕ) (x : Writing) → uid < 2 ^ 64 → WritingFacts x → IsReadBack uid x
read_back laws uid (Begins stream) small f = tt
read_back laws uid (Controls control) small f = (let r = laws.control control uid f.valid small f.room in (control_short control uid f.room, r.0, r.1))
read_back laws uid (Sends envelope) small f = (ordinary_short envelope f.room, laws.ordinary envelope uid f.fits f.texts f.room, f.ordinary)

-- ---- what a frame says

not_ok : {X E P : Type 0} {e : E} {y : X} (r : Result X E) → r ≡ Err e → r ≡ Ok y → P
not_ok r h k = cc

same_envelope : (e : EnvelopeOf) (m : Meaning) (d : EnvelopeOf) (k : Meaning) → SaysOrdinary e m ≡ SaysOrdinary d k → e ≡ d
same_envelope e m d k h = cc

not_control : {P : Type 0} (c : Control) (d : EnvelopeOf) (k : Meaning) → SaysControl c ≡ SaysOrdinary d k → P
not_control c d k h = cc

ok_same : {X E : Type 0} {x y : X} (r : Result X E) → r ≡ Ok x → r ≡ Ok y → x ≡ y
ok_same r h k = cc

control_not : {P : Type 0} (r : Result Control ControlFault) (d : EnvelopeOf) (k : Meaning) → control_read r ≡ Ok (SaysOrdinary d k) → P
control_not (Ok c) d k h = not_control c d k (ok_same (control_read (Ok c)) refl h)
control_not (Err fault) d k h = not_ok (control_read (Err fault)) refl h

texts_of : (e : EnvelopeOf) (m : Meaning) (d : EnvelopeOf) (k : Meaning) → content_of e m ≡ Ok (SaysOrdinary d k) → e ≡ d
texts_of e m d k h = by (is_control_serializer m.serializer) h
  where
    by : (b : Bool) → cond b (control_read (message_of m.manifest m.payload)) (Ok (SaysOrdinary e m)) ≡ Ok (SaysOrdinary d k) → e ≡ d
    by true q = control_not (message_of m.manifest m.payload) d k q
    by false q = same_envelope e m d k (ok_same (content_of_ordinary e m) refl q)
      where
        content_of_ordinary : (e : EnvelopeOf) (m : Meaning) → Result Content DropRule
        content_of_ordinary e m = Ok (SaysOrdinary e m)

-- an ordinary message has texts, whoever wrote it
ordinary_texts : (stream : Option Stream) (n : Node whole) (i : Inbound whole) (frame : List ℕ) (d : EnvelopeOf) (k : Meaning) → content_in stream n i frame ≡ Ok (SaysOrdinary d k) → HasTexts d
ordinary_texts stream n i frame d k h = by (read_of frame) refl h
  where
    by : (r : Result EnvelopeOf HeaderFault) → read_of frame ≡ r → read_said stream n i r ≡ Ok (SaysOrdinary d k) → HasTexts d
    by (Ok e) q g =
        let a = envelope_ok stream n i e (SaysOrdinary d k) g in
        subst HasTexts (texts_of e a.0 d k a.2) (laid_out_texts frame e (read_laid_out frame e q))
    by (Err fault) q g = not_ok (read_said stream n i (Err fault)) refl g

-- What was written on a connection is sound, and who dialed it has a number.
pub record ConnSound (c : Conn) : Type 0 where
  pub dialer : c.dialer < 2 ^ 64
  pub wrote : Each (λ (x : Wrote). WritingFacts x.writing) c.way.all

pub conn_read : Laws → (c : Conn) → ConnSound c → Each (λ (x : Wrote). IsReadBack c.dialer x.writing) c.way.all
conn_read laws c s = each_weaker (λ (x : Wrote). WritingFacts x.writing) (λ (x : Wrote). IsReadBack c.dialer x.writing) (λ x f. read_back laws c.dialer x.writing s.dialer f) c.way.all s.wrote

pub all_read : Laws → (cs : List Conn) → Each ConnSound cs → AllRead cs
all_read laws cs h = each_weaker ConnSound (λ (c : Conn). Each (λ (x : Wrote). IsReadBack c.dialer x.writing) c.way.all) (λ c s. conn_read laws c s) cs h

abbrev HasTextsIfOrdinary : Content → Type 0
HasTextsIfOrdinary (SaysControl control) = Unit {0}
HasTextsIfOrdinary (SaysOrdinary e m) = HasTexts e

said_facts : (x : Writing) (content : Content) → HasTextsIfOrdinary content → WritingFacts x → IsSaidBy x content → ContentFacts content
said_facts x (SaysControl control) t f s = subst WritingFacts s f
said_facts x (SaysOrdinary e m) t f s = t

framed_one : Laws → (c : Conn) (frame : List ℕ) → ConnSound c → HasFrame c frame → FrameFacts frame
framed_one laws c frame s h = record {
  says = λ stream n i content e. said_facts h.wrote.writing content (texts stream n i content e)
      (each_get (λ (x : Wrote). WritingFacts x.writing) c.way.all h.place h.wrote s.wrote h.here)
      (content_is stream n i c.dialer h.wrote.writing content h.framed
      (each_get (λ (x : Wrote). IsReadBack c.dialer x.writing) c.way.all h.place h.wrote (conn_read laws c s) h.here) (ap (content_in stream n i) h.bytes ∙ e));
}
  where
    texts : (stream : Option Stream) (n : Node whole) (i : Inbound whole) (content : Content) → content_in stream n i frame ≡ Ok content → HasTextsIfOrdinary content
    texts stream n i (SaysControl control) e = tt
    texts stream n i (SaysOrdinary d k) e = ordinary_texts stream n i frame d k e

pub framed_facts : Laws → (u k : ℕ) (cs : List Conn) (frame : List ℕ) → Each ConnSound cs → Framed u k frame cs → FrameFacts frame
framed_facts laws u k cs frame s o =
    one_here (is_inward u k) (λ (c : Conn). FrameFacts frame) cs
    (one_weaker (is_inward u k) (λ (c : Conn). ConnSound c × HasFrame c frame) (λ (c : Conn). FrameFacts frame) cs (λ c t h. framed_one laws c frame h.0 h.1) (one_both (is_inward u k) ConnSound (λ (c : Conn). HasFrame c frame) cs s o))
