-- What a frame says to the node that hears it, where the frames on its connection are read back.
use Rattle.std.proofs.Common.{◌≡◌, ℕ, Bool, true, false, ◌&&◌, cond, List, [], ◌∷◌, Result, Ok, Err, refl, sym, ◌∙◌, ap, subst}
use Rattle.std.specs.Prelude.{◌==◌, Option, Some, not, is_some, ◌||◌, slice_get}
use Rattle.artery_base.specs.Words.{◌>>=◌}
use Rattle.artery_base.specs.declared.address.Address.{Address}
use Rattle.artery_base.specs.declared.address.UniqueAddress.{UniqueAddress}
use Rattle.artery_codec.specs.declared.message.DropRule.{DropRule as CodecRule}
use Rattle.artery_codec.specs.Meaning.{Meaning, Entries, name_meaning, envelope_meaning}
use Rattle.artery_control.specs.declared.control.Control.{Control}
use Rattle.artery_control.specs.declared.control.Control.TheVariants as controls
use Rattle.artery_control.specs.Message.{message_of}
use Rattle.artery_control.specs.Payload.{payload_of, letter_of}
use Rattle.artery_control_frame.specs.ControlFrame.{control_envelope}
use Rattle.artery_frame.specs.declared.stream.Stream.{Stream}
use Rattle.artery_handshake.specs.declared.in_conn.InState.{InState}
use Rattle.artery_header.specs.declared.envelope.Which.TheVariants.{Sender, Recipient, Manifest}
use Rattle.artery_header.specs.Envelope.{EnvelopeOf, read_of}
use Rattle.artery_journal.specs.declared.rule.Rule.{Rule}
use Rattle.artery_journal.specs.declared.rule.Rule.TheVariants as rules
use Rattle.artery_machine.specs.Deeds.{Writing, Begins, Controls, Sends}
use Rattle.artery_machine.specs.Parts.{whole}
use Rattle.artery_machine.specs.Ways.{Wrote}
use Rattle.artery_machine.specs.Connections.{is_inward}
use Rattle.artery_machine.specs.Node.{same_unique, Node, Inbound, speaker_in}
use Rattle.artery_machine.specs.Verdict.{is_from, is_the_known, agrees_with, Content, Controls as SaysControl, Ordinary as SaysOrdinary, Dropped, OfClosed, Says, is_control_serializer, belongs, content_of, control_read, is_handshake, is_uid_of, unless_dropped, meaning_or_rule, meant, said_by, tables_for, envelope_said, read_said, content_in, judged, is_shut, verdict}
use Rattle.artery_flight.specs.Flight.{is_frame, frame_of}
use Rattle.artery_flight.specs.Answers.{IsReadBack}
use Rattle.artery_base.specs.declared.message.SysMsg.{SysMsg}
use Rattle.std.specs.Cmp.Rules.{comparing}
use Rattle.std.proofs.Common.{rules}
use Rattle.artery_header.specs.declared.fault.HeaderFault.{HeaderFault}
use Rattle.artery_handshake.specs.declared.in_conn.InState.TheVariants.{Known}
use Rattle.artery_machine.specs.declared.world.Outcome.{Outcome}
use Rattle.artery_flight.proofs.Lines.{IsOwn, IsNamed, IsAmong, sent_in}
use Rattle.artery_flight.proofs.Lists.{get_front, eq_true, and_left, Placed, not_both, Each, each_get}
use Rattle.artery_flight.proofs.Facts.{Conn, Grow, inward_same, AllRead, TheOne, ComesFrom, IsAnswerFor, IsTrue, ConnFacts}
use Rattle.artery_flight.proofs.Grow.{one_weaker, one_grow, one_both, one_here, one_placed}

unique_is : (a b : UniqueAddress) → same_unique a b ≡ true → a ≡ b
unique_is a b h = search (comparing, rules)

-- ---- answers one after the other

ok_same : {X E : Type 0} {x y : X} (r : Result X E) → r ≡ Ok x → r ≡ Ok y → x ≡ y
ok_same r h k = cc

not_ok : {X E P : Type 0} {e : E} {y : X} (r : Result X E) → r ≡ Err e → r ≡ Ok y → P
not_ok r h k = cc

-- the first gave something, and the second what came out
bind_ok : {A B E : Type 0} (r : Result A E) (f : A → Result B E) (y : B) → (r >>= f) ≡ Ok y → (x : A) × (r ≡ Ok x) × (f x ≡ Ok y)
bind_ok (Ok x) f y h = (x, refl, h)
bind_ok (Err e) f y h = not_ok ((Err e) >>= f) refl h

unless_ok : {X : Type 0} (b : Bool) (rule : Rule) (x y : X) → unless_dropped b rule x ≡ Ok y → x ≡ y
unless_ok true rule x y h = ok_same (unless_dropped true rule x) refl h
unless_ok false rule x y h = not_ok (unless_dropped false rule x) refl h

unless_true : {X : Type 0} (b : Bool) (rule : Rule) (x y : X) → unless_dropped b rule x ≡ Ok y → b ≡ true
unless_true true rule x y h = refl
unless_true false rule x y h = not_ok (unless_dropped false rule x) refl h

-- ---- what an envelope says

said_content : (state : InState) (stream : Option Stream) (e : EnvelopeOf) (meaning : Result Meaning Rule) (content : Content) → said_by state stream e meaning ≡ Ok content → (m : Meaning) × (meaning ≡ Ok m) × (content_of e m ≡ Ok content) × (is_from e.uid state content ≡ true)
unfolding said_by
said_content state stream e meaning content h =
    let a = bind_ok meaning _ content h in
    let b = bind_ok (unless_dropped (belongs stream a.0) rules.Stream a.0) _ content a.2 in
    let c = bind_ok (content_of e a.0) _ content b.2 in
    let d = bind_ok (unless_dropped (is_some (speaker_in state) || is_handshake c.0) rules.NoHandshake c.0) _ content c.2 in
    let same : c.0 ≡ content = unless_ok _ rules.From c.0 content d.2 in
    (a.0, a.1, c.1 ∙ ap Ok same, subst (λ (x : Content). is_from e.uid state x ≡ true) same (unless_true _ rules.From c.0 content d.2))

meaning_ok : (r : Result Meaning CodecRule) (m : Meaning) → meaning_or_rule r ≡ Ok m → r ≡ Ok m
meaning_ok (Ok x) m h = ap Ok (ok_same (meaning_or_rule (Ok x)) refl h)
meaning_ok (Err e) m h = not_ok (meaning_or_rule (Err e)) refl h

-- the message of an envelope with these names
abbrev named : EnvelopeOf → List ℕ → List ℕ → List ℕ → Meaning
named c sender recipient manifest = record { uid = c.uid; serializer = c.serializer; sender = sender; recipient = recipient; manifest = manifest; payload = c.payload }

-- what an envelope means has its serializer
abbrev joined_names : EnvelopeOf → Result (List ℕ) CodecRule → Result (List ℕ) CodecRule → Result (List ℕ) CodecRule → Result Meaning CodecRule
joined_names c sender recipient manifest = sender >>= (λ s. recipient >>= (λ r. manifest >>= (λ k. Ok (named c s r k))))

by_names : (c : EnvelopeOf) (sender recipient manifest : Result (List ℕ) CodecRule) (m : Meaning) → joined_names c sender recipient manifest ≡ Ok m → m.serializer ≡ c.serializer
by_names c (Ok s) (Ok r) (Ok k) m h = ap (λ (x : Meaning). x.serializer) (sym (ok_same (joined_names c (Ok s) (Ok r) (Ok k)) refl h))
by_names c (Ok s) (Ok r) (Err e) m h = not_ok (joined_names c (Ok s) (Ok r) (Err e)) refl h
by_names c (Ok s) (Err e) manifest m h = not_ok (joined_names c (Ok s) (Err e) manifest) refl h
by_names c (Err e) recipient manifest m h = not_ok (joined_names c (Err e) recipient manifest) refl h

serializer_stays : (refs manifests : Entries) (c : EnvelopeOf) (m : Meaning) → envelope_meaning refs manifests c ≡ Ok m → m.serializer ≡ c.serializer
unfolding envelope_meaning
serializer_stays refs manifests c m h = by_names c (name_meaning refs Sender c.refs_version c.sender) (name_meaning refs Recipient c.refs_version c.recipient) (name_meaning manifests Manifest c.manifests_version c.manifest) m h

-- a control message means itself
control_meaning : (refs manifests : Entries) (control : Control) (uid : ℕ) (m : Meaning) → envelope_meaning refs manifests (control_envelope control uid) ≡ Ok m → named (control_envelope control uid) [] [] (letter_of control ∷ []) ≡ m
unfolding envelope_meaning
control_meaning refs manifests control uid m h = ok_same (envelope_meaning refs manifests (control_envelope control uid)) refl h

-- ---- what was written

-- What a frame says is what was written, where it is a control message.
abbrev pub IsSaidBy : Writing → Content → Type 0
IsSaidBy x (SaysControl control) = x ≡ Controls control
IsSaidBy x (SaysOrdinary e m) = Unit {0}

control_said : (control : Control) (uid : ℕ) (m : Meaning) (content : Content) → message_of (letter_of control ∷ []) (payload_of control) ≡ Ok control → named (control_envelope control uid) [] [] (letter_of control ∷ []) ≡ m → content_of (control_envelope control uid) m ≡ Ok content
    → IsSaidBy (Controls control) content
control_said control uid m content read same h =
    let P : Meaning → Type 0 = λ (y : Meaning). content_of (control_envelope control uid) y ≡ Ok content in
    let e : content_of (control_envelope control uid) (named (control_envelope control uid) [] [] (letter_of control ∷ [])) ≡ Ok content = subst P (sym same) h in
    let f : control_read (message_of (letter_of control ∷ []) (payload_of control)) ≡ Ok content = e in
    let g : control_read (Ok control) ≡ Ok content = ap control_read (sym read) ∙ f in
    subst (IsSaidBy (Controls control)) (ok_same (control_read (Ok control)) refl g) refl

ordinary_said : (envelope : EnvelopeOf) (m : Meaning) (content : Content) → is_control_serializer m.serializer ≡ false → content_of envelope m ≡ Ok content → IsSaidBy (Sends envelope) content
ordinary_said envelope m content other h =
    let e : cond (is_control_serializer m.serializer) (control_read (message_of m.manifest m.payload)) (Ok (SaysOrdinary envelope m)) ≡ Ok content = h in
    let f : cond false (control_read (message_of m.manifest m.payload)) (Ok (SaysOrdinary envelope m)) ≡ Ok content = ap (λ (b : Bool). cond b (control_read (message_of m.manifest m.payload)) (Ok (SaysOrdinary envelope m))) (sym other) ∙ e in
    subst (IsSaidBy (Sends envelope)) (ok_same (cond false (control_read (message_of m.manifest m.payload)) (Ok (SaysOrdinary envelope m))) refl f) tt

pub envelope_ok : (stream : Option Stream) (n : Node whole) (i : Inbound whole) (e : EnvelopeOf) (content : Content) → envelope_said stream n i e ≡ Ok content
    → (m : Meaning) × (envelope_meaning (whole.entries (tables_for i.state n).refs) (whole.entries (tables_for i.state n).manifests) e ≡ Ok m) × (content_of e m ≡ Ok content) × (is_from e.uid i.state content ≡ true)
envelope_ok stream n i e content h = by (is_uid_of i.state e.uid) h
  where
    by : (b : Bool) → cond b (said_by i.state stream e (meaning_or_rule (meant whole (tables_for i.state n) e))) (Err rules.Uid) ≡ Ok content
        → (m : Meaning) × (envelope_meaning (whole.entries (tables_for i.state n).refs) (whole.entries (tables_for i.state n).manifests) e ≡ Ok m) × (content_of e m ≡ Ok content) × (is_from e.uid i.state content ≡ true)
    by true k = (let a = said_content i.state stream e (meaning_or_rule (meant whole (tables_for i.state n) e)) content k in (a.0, meaning_ok (meant whole (tables_for i.state n) e) a.0 a.1, a.2, a.3))
    by false k = not_ok (cond false (said_by i.state stream e (meaning_or_rule (meant whole (tables_for i.state n) e))) (Err rules.Uid)) refl k

pub content_is : (stream : Option Stream) (n : Node whole) (i : Inbound whole) (uid : ℕ) (x : Writing) (content : Content) → is_frame x ≡ true → IsReadBack uid x → content_in stream n i (frame_of uid x) ≡ Ok content → IsSaidBy x content
content_is stream n i uid (Begins s) content f r h = not_both refl (sym f)
content_is stream n i uid (Controls control) content f r h =
    let e : envelope_said stream n i (control_envelope control uid) ≡ Ok content = ap (read_said stream n i) (sym r.1) ∙ h in
    let a = envelope_ok stream n i (control_envelope control uid) content e in
    control_said control uid a.0 content r.2 (control_meaning (whole.entries (tables_for i.state n).refs) (whole.entries (tables_for i.state n).manifests) control uid a.0 a.1) a.2
content_is stream n i uid (Sends envelope) content f r h =
    let e : envelope_said stream n i envelope ≡ Ok content = ap (read_said stream n i) (sym r.1) ∙ h in
    let a = envelope_ok stream n i envelope content e in
    ordinary_said envelope a.0 content (ap is_control_serializer (serializer_stays (whole.entries (tables_for i.state n).refs) (whole.entries (tables_for i.state n).manifests) envelope a.0 a.1) ∙ r.2) a.2

-- who says that it speaks is the one that is known
pub speaker_is : (stream : Option Stream) (n : Node whole) (i : Inbound whole) (frame : List ℕ) (k : ℕ) (m : SysMsg) (from who : UniqueAddress) (its_nonce : Option ℕ) → content_in stream n i frame ≡ Ok (SaysControl (controls.Numbered k m from)) → i.state ≡ Known who its_nonce → from ≡ who
speaker_is stream n i frame k m from who its_nonce h known = by (read_of frame) h
  where
    and_right : (b c : Bool) → (b && c) ≡ true → c ≡ true
    and_right true c e = e
    and_right false c e = not_both e refl

    by : (r : Result EnvelopeOf HeaderFault) → read_said stream n i r ≡ Ok (SaysControl (controls.Numbered k m from)) → from ≡ who
    by (Ok e) q =
        let a = envelope_ok stream n i e (SaysControl (controls.Numbered k m from)) q in
        let b : is_the_known i.state (Some from) ≡ true = and_right (agrees_with e.uid (Some from.uid)) (is_the_known i.state (Some from)) a.3 in
        let c : same_unique from who ≡ true = ap (λ (x : InState). is_the_known x (Some from)) (sym known) ∙ b in
        unique_is from who c
    by (Err fault) q = not_ok (read_said stream n i (Err fault)) refl q

pub judged_says : (b : Bool) (r : Result Content Rule) (content : Content) → judged b r ≡ Says content → r ≡ Ok content
judged_says b (Err rule) content h = not_says h
  where
    not_says : {P : Type 0} → Dropped rule ≡ Says content → P
    not_says k = cc
judged_says b (Ok said) content h = ap Ok (by (b && not (is_handshake said)) h)
  where
    by : (c : Bool) → cond c (OfClosed said) (Says said) ≡ Says content → said ≡ content
    by true k = cc
    by false k = cc

-- ---- on a connection

-- A frame is one that was written on a connection.
pub record HasFrame (c : Conn) (frame : List ℕ) : Type 0 where
  pub place : ℕ
  pub wrote : Wrote
  pub here : slice_get c.way.all place ≡ Some wrote
  pub framed : is_frame wrote.writing ≡ true
  pub bytes : frame_of c.dialer wrote.writing ≡ frame

-- What a frame says was written on a connection.
pub record HasContent (c : Conn) (content : Content) : Type 0 where
  pub place : ℕ
  pub wrote : Wrote
  pub here : slice_get c.way.all place ≡ Some wrote
  pub says : IsSaidBy wrote.writing content

abbrev pub Framed : ℕ → ℕ → List ℕ → List Conn → Type 0
Framed u k frame cs = TheOne (is_inward u k) (λ (c : Conn). HasFrame c frame) cs

abbrev pub Said : ℕ → ℕ → Content → List Conn → Type 0
Said u k content cs = TheOne (is_inward u k) (λ (c : Conn). HasContent c content) cs

pub framed_grow : (W : ℕ → Type 0) (u k : ℕ) (frame : List ℕ) (cs ds : List Conn) → Grow W cs ds → Framed u k frame cs → Framed u k frame ds
framed_grow W u k frame cs ds g o = one_grow W (is_inward u k) _ _ (inward_same W u k)
    (λ c d t h. record { place = h.place; wrote = h.wrote; here = get_front c.way.all d.way.all h.place h.wrote t.more h.here; framed = h.framed; bytes = ap (λ (x : ℕ). frame_of x h.wrote.writing) t.dialer ∙ h.bytes }) cs ds g o

pub said_grow : (W : ℕ → Type 0) (u k : ℕ) (content : Content) (cs ds : List Conn) → Grow W cs ds → Said u k content cs → Said u k content ds
said_grow W u k content cs ds g o = one_grow W (is_inward u k) _ _ (inward_same W u k)
    (λ c d t h. record { place = h.place; wrote = h.wrote; here = get_front c.way.all d.way.all h.place h.wrote t.more h.here; says = h.says }) cs ds g o

-- what the verdict says of a frame was written
pub decoded : (u k : ℕ) (cs : List Conn) (stream : Option Stream) (n : Node whole) (i : Inbound whole) (frame : List ℕ) (content : Content) → AllRead cs → Framed u k frame cs → verdict stream n i frame ≡ Says content → Said u k content cs
decoded u k cs stream n i frame content a o v =
    let e : content_in stream n i frame ≡ Ok content = judged_says (is_shut n (speaker_in i.state)) (content_in stream n i frame) content v in
    one_weaker (is_inward u k) _ _ cs (λ c t h. record {
      place = h.1.place;
      wrote = h.1.wrote;
      here = h.1.here;
      says = content_is stream n i c.dialer h.1.wrote.writing content h.1.framed (each_get (λ (x : Wrote). IsReadBack c.dialer x.writing) c.way.all h.1.place h.1.wrote h.0 h.1.here) (ap (content_in stream n i) h.1.bytes ∙ e);
    }) (one_both (is_inward u k) _ _ cs a o)

-- what was written is true
said_true : (u k : ℕ) (cs : List Conn) (control : Control) → Each (ConnFacts cs) cs → Said u k (SaysControl control) cs → TheOne (is_inward u k) (λ (c : Conn). IsTrue cs c (Controls control)) cs
said_true u k cs control h o = one_weaker (is_inward u k) _ _ cs (λ c t q. (let P : Writing → Type 0 = λ (y : Writing). IsTrue cs c y in
    subst P q.1.says (each_get (λ (x : Wrote). IsTrue cs c x.writing) c.way.all q.1.place q.1.wrote q.0.said q.1.here))) (one_both (is_inward u k) (ConnFacts cs) _ cs h o)

pub asked_from : (u k : ℕ) (cs : List Conn) (from : UniqueAddress) (to : Address) (its_nonce : Option ℕ) → Each (ConnFacts cs) cs → Said u k (SaysControl (controls.HandshakeReq from to its_nonce)) cs → ComesFrom u k from.uid its_nonce cs
asked_from u k cs from to its_nonce h o = one_weaker (is_inward u k) _ _ cs (λ c t q. (q.from, q.nonce)) (said_true u k cs (controls.HandshakeReq from to its_nonce) h o)

pub answered_from : (u k : ℕ) (cs : List Conn) (from : UniqueAddress) (for_uid its_nonce : Option ℕ) → AllRead cs → Each (ConnFacts cs) cs → Said u k (SaysControl (controls.HandshakeRsp from for_uid its_nonce)) cs → IsAnswerFor from.uid for_uid its_nonce cs
answered_from u k cs from for_uid its_nonce a h o = (one_here (is_inward u k) _ cs (said_true u k cs (controls.HandshakeRsp from for_uid its_nonce) h o) a).1

-- what was written is what was told
said_own : (u k : ℕ) (cs : List Conn) (os : List Outcome) (control : Control) → Each (λ (c : Conn). Each (λ (x : Wrote). IsOwn os c.far x.writing) c.way.all) cs → Said u k (SaysControl control) cs → TheOne (is_inward u k) (λ (c : Conn). IsOwn os c.far (Controls control)) cs
said_own u k cs os control h o = one_weaker (is_inward u k) _ _ cs (λ c t q. (let P : Writing → Type 0 = λ (y : Writing). IsOwn os c.far y in
    subst P q.1.says (each_get (λ (x : Wrote). IsOwn os c.far x.writing) c.way.all q.1.place q.1.wrote q.0 q.1.here))) (one_both (is_inward u k) (λ (c : Conn). Each (λ (x : Wrote). IsOwn os c.far x.writing) c.way.all) _ cs h o)

pub named_from : (u k : ℕ) (cs : List Conn) (os : List Outcome) (from : UniqueAddress) (for_uid its_nonce : Option ℕ) → Each (λ (c : Conn). Each (λ (x : Wrote). IsOwn os c.far x.writing) c.way.all) cs → Said u k (SaysControl (controls.HandshakeRsp from for_uid its_nonce)) cs
    → IsNamed from os
named_from u k cs os from for_uid its_nonce h o = one_here (is_inward u k) _ cs (said_own u k cs os (controls.HandshakeRsp from for_uid its_nonce) h o)

-- A message was told as sent to the incarnation with a UID.
abbrev pub WasSent : ℕ → UniqueAddress → ℕ → SysMsg → List Outcome → Type 0
WasSent u v n m os = (t : UniqueAddress) × (t.uid ≡ u) × IsNamed t os × IsAmong (n, m) (sent_in v t os)

pub sent_from : (u k : ℕ) (cs : List Conn) (os : List Outcome) (n : ℕ) (m : SysMsg) (from : UniqueAddress) → Each (λ (c : Conn). Each (λ (x : Wrote). IsOwn os c.far x.writing) c.way.all) cs → Said u k (SaysControl (controls.Numbered n m from)) cs → WasSent u from n m os
sent_from u k cs os n m from h o =
    let own : TheOne (is_inward u k) (λ (c : Conn). IsOwn os c.far (Controls (controls.Numbered n m from))) cs = said_own u k cs os (controls.Numbered n m from) h o in
    let spot : Placed (is_inward u k) cs = one_placed (is_inward u k) _ cs own in
    let t : IsOwn os spot.element.far (Controls (controls.Numbered n m from)) = one_here (is_inward u k) (λ (c : Conn). IsOwn os c.far (Controls (controls.Numbered n m from))) cs own in
    (t.0, t.1 ∙ eq_true spot.element.far u (and_left (spot.element.far == u) (spot.element.number == k) spot.passes), t.2, t.3)
