-- A frame is heard: the facts stay true, and it was given.
use Rattle.std.proofs.Common.{◌≡◌, ℕ, zero, suc, ◌≤◌, ◌<◌, Bool, true, false, ◌&&◌, List, [], ◌∷◌, ◌++◌, length, refl, sym, ◌∙◌, ap, subst, arith}
use Rattle.std.specs.Prelude.{Option, None, Some, nat_lt, slice_get}
use Rattle.artery_base.specs.Words.{IsPrefix}
use Rattle.artery_base.specs.declared.address.UniqueAddress.{UniqueAddress}
use Rattle.artery_base.specs.declared.message.SysMsg.{SysMsg}
use Rattle.artery_codec.specs.Meaning.{Meaning}
use Rattle.artery_control.specs.declared.control.Control.{Control}
use Rattle.artery_control.specs.declared.control.Control.TheVariants as controls
use Rattle.artery_delivery.specs.declared.outbound.Acked.{Acked}
use Rattle.artery_delivery.specs.declared.outbound.Acked.TheVariants.{Cleared, Past}
use Rattle.artery_delivery.specs.declared.inbound.Take.{Take}
use Rattle.artery_delivery.specs.declared.inbound.Take.TheVariants.{Taken, Again, Gap}
use Rattle.artery_frame.specs.declared.stream.Stream.{Stream}
use Rattle.artery_header.specs.Envelope.{EnvelopeOf}
use Rattle.artery_journal.specs.declared.line.Line.TheVariants as lines
use Rattle.artery_journal.specs.declared.rule.Rule.{Rule as DropRule}
use Rattle.artery_journal.specs.declared.rule.Rule.TheVariants as rules
use Rattle.artery_machine.specs.Deeds.{Writing, Begins, Controls, Sends}
use Rattle.artery_machine.specs.Parts.{whole}
use Rattle.artery_machine.specs.Ways.{Wrote}
use Rattle.artery_machine.specs.Connections.{is_dialed, is_inward}
use Rattle.artery_machine.specs.Node.{Node, Inbound, same_unique, peer_at}
use Rattle.artery_machine.specs.Doing.{Rule, becomes, tells_of, peer_becomes}
use Rattle.artery_machine.specs.Closing.{control_dial, quarantines}
use Rattle.artery_machine.specs.Watching.{watches_at}
use Rattle.artery_machine.specs.Handshaking.{drops}
use Rattle.artery_machine.specs.Verdict.{Content}
use Rattle.artery_machine.specs.Hearing.{is_told_closed, owes_ack, with_taken, is_now, heard_back, heard_at, acknowledges_on, acknowledges, numbered_as, numbered, acked_as, of_current, acked, nacked, hears_beat, beats_back, noticed, drops_closed, by_speaker}
use Rattle.artery_flight.specs.Flight.{is_frame, frame_of}
use Rattle.artery_flight.specs.Answers.{IsReadBack}
use Rattle.artery_names.proofs.Lists.{some_same, not_some, Each, each_back, get_prefix}
use Rattle.artery_names.proofs.Said.{all_said, carried}
use Rattle.artery_names.proofs.Facts.{Conn, Has, Made, sent_in}
use Rattle.artery_names.proofs.Growing.{Grown, Along, made_grows, dialed_same, inward_same, sent_same}
use Rattle.artery_names.proofs.Plain.{Same}
use Rattle.artery_names.proofs.Outside.{outward}
use Rattle.artery_names.proofs.Rules.{Plain, ◌▹◌, kept_plain, stays_plain, if_plain, where_plain, origin_plain}
use Rattle.artery_names.proofs.Keeping.{plain_keeps, Keeps, ◌▻◌}
use Rattle.artery_names.proofs.Silence.{is_plain}
use Rattle.artery_names.proofs.Making.{other_plain, out_plain, pumps_plain, control_plain, quarantines_plain}
use Rattle.artery_names.proofs.Sending.{line_plain, acts_keep}
use Rattle.artery_names.proofs.Meant.{place_within}
use Rattle.artery_names.proofs.Frames.{IsOrdinary, Comes}

-- ---- what a frame says is true

-- An answer is for a connection that was made, and that reaches who answers.
pub record IsMeant (cs : List Conn) (f : ℕ) (for_uid its_nonce : Option ℕ) : Type 0 where
  pub uid : ℕ
  pub dial : ℕ
  pub asked : for_uid ≡ Some uid
  pub nonce : its_nonce ≡ Some dial
  pub far : (i : ℕ) (c : Conn) → slice_get cs i ≡ Some c → is_dialed uid dial c ≡ true → c.far ≡ f
  pub made : Made cs uid dial

abbrev pub IsToldBy : List Conn → Conn → Control → Type 0
IsToldBy cs c (controls.HandshakeReq from to its_nonce) = its_nonce ≡ Some c.dial
IsToldBy cs c (controls.HandshakeRsp from for_uid its_nonce) = IsMeant cs from.uid for_uid its_nonce
IsToldBy cs c _ = Unit {0}

abbrev pub IsTold : List Conn → Conn → Writing → Type 0
IsTold cs c (Begins stream) = Unit {0}
IsTold cs c (Controls control) = IsToldBy cs c control
IsTold cs c (Sends envelope) = Unit {0}

told_by_grows : (cs ds : List Conn) → Along Grown cs ds → (c d : Conn) → Grown c d → (x : Control) → IsToldBy cs c x → IsToldBy ds d x
told_by_grows cs ds l c d g (controls.HandshakeReq from to its_nonce) h = h ∙ ap Some (sym g.dial)
told_by_grows cs ds l c d g (controls.HandshakeRsp from for_uid its_nonce) h = record {
  uid = h.uid;
  dial = h.dial;
  asked = h.asked;
  nonce = h.nonce;
  far = λ i x e t. (let b = l.back i x e in b.so.far ∙ h.far i b.was b.is (sym (dialed_same h.uid h.dial b.was x b.so) ∙ t));
  made = made_grows cs ds l h.uid h.dial h.made;
}
told_by_grows cs ds l c d g (controls.Quarantined from to) h = h
told_by_grows cs ds l c d g (controls.Terminating from) h = h
told_by_grows cs ds l c d g (controls.TerminatingAck from) h = h
told_by_grows cs ds l c d g (controls.RefsTable from origin_uid version keys values sequence) h = h
told_by_grows cs ds l c d g (controls.RefsAck from version sequence) h = h
told_by_grows cs ds l c d g (controls.ManifestsTable from origin_uid version keys values sequence) h = h
told_by_grows cs ds l c d g (controls.ManifestsAck from version sequence) h = h
told_by_grows cs ds l c d g (controls.Numbered n message reply_to) h = h
told_by_grows cs ds l c d g (controls.Ack n from) h = h
told_by_grows cs ds l c d g (controls.Nack n from) h = h
told_by_grows cs ds l c d g controls.Heartbeat h = h
told_by_grows cs ds l c d g (controls.HeartbeatRsp uid) h = h

told_grows : (cs ds : List Conn) → Along Grown cs ds → (c d : Conn) → Grown c d → (x : Writing) → IsTold cs c x → IsTold ds d x
told_grows cs ds l c d g (Begins stream) h = h
told_grows cs ds l c d g (Controls control) h = told_by_grows cs ds l c d g control h
told_grows cs ds l c d g (Sends envelope) h = h

carried_same : (xs ys : List Wrote) (p : ℕ) (x : Wrote) → slice_get xs p ≡ Some x → IsPrefix xs ys → carried ys ≡ carried xs
carried_same [] ys p x h q = not_some h
carried_same (y ∷ xs) ys p x h q = ap carried (sym q.1)

-- A frame was written at a place on the connection that reaches the node under this number, it is read back, and what it says is true.
pub record Frame (u k p : ℕ) (stream : Option Stream) (frame : List ℕ) (cs : List Conn) : Type 0 where
  pub place : ℕ
  pub conn : Conn
  pub is : slice_get cs place ≡ Some conn
  pub inward : is_inward u k conn ≡ true
  pub wrote : Wrote
  pub here : slice_get conn.way.all p ≡ Some wrote
  pub framed : is_frame wrote.writing ≡ true
  pub bytes : frame_of conn.dialer wrote.writing ≡ frame
  pub carries : stream ≡ carried conn.way.all
  pub begins : sent_in 1 conn ≡ 0
  pub read : IsReadBack conn.dialer wrote.writing
  pub told : IsTold cs conn wrote.writing

pub frame_grows : (u k p : ℕ) (stream : Option Stream) (frame : List ℕ) (cs ds : List Conn) → Along Grown cs ds → Frame u k p stream frame cs → Frame u k p stream frame ds
frame_grows u k p stream frame cs ds l h =
    let f = l.forth h.place h.conn h.is in
    let some : 1 ≤ length h.conn.way.all = (let a : p < length h.conn.way.all = place_within h.conn.way.all p h.wrote h.here in omega arith) in
    record {
      place = h.place;
      conn = f.next;
      is = f.is;
      inward = inward_same u k h.conn f.next f.so ∙ h.inward;
      wrote = h.wrote;
      here = get_prefix h.conn.way.all f.next.way.all p h.wrote f.so.more h.here;
      framed = h.framed;
      bytes = ap (λ (x : ℕ). frame_of x h.wrote.writing) f.so.dialer ∙ h.bytes;
      carries = h.carries ∙ sym (carried_same h.conn.way.all f.next.way.all p h.wrote h.here f.so.more);
      begins = sent_same 1 h.conn f.next f.so some ∙ h.begins;
      read = subst (λ (x : ℕ). IsReadBack x h.wrote.writing) (sym f.so.dialer) h.read;
      told = told_grows cs ds l h.conn f.next f.so h.wrote.writing h.told;
    }

-- So many were given before a frame at a place: all before it, or nothing where only the preamble is before it.
pub data Before (g p : ℕ) : Type 0 where
  Behind : g ≡ p → Before g p
  AtFirst : g ≡ 0 → p ≡ 1 → Before g p

pub comes_next : (u k g p : ℕ) (stream : Option Stream) (frame : List ℕ) (cs : List Conn) → Before g p → Frame u k p stream frame cs → Comes u k g p stream frame cs
comes_next u k g p stream frame cs b f = record {
  place = f.place;
  conn = f.conn;
  is = f.is;
  inward = f.inward;
  wrote = f.wrote;
  here = f.here;
  framed = f.framed;
  bytes = f.bytes;
  carries = f.carries;
  later = later b;
  quiet = quiet b;
}
  where
    later : Before g p → g ≤ p
    later (Behind e) = omega arith
    later (AtFirst a e) = omega arith

    quiet : Before g p → sent_in p f.conn ≡ sent_in g f.conn
    quiet (Behind e) = ap (λ (x : ℕ). sent_in x f.conn) (sym e)
    quiet (AtFirst a e) = ap (λ (x : ℕ). sent_in x f.conn) e ∙ f.begins ∙ sym (ap (λ (x : ℕ). sent_in x f.conn) a)

-- and says an ordinary message
pub comes_ordinary : (u k g p : ℕ) (stream : Option Stream) (frame : List ℕ) (n : Node whole) (i : Inbound whole) (e : EnvelopeOf) (m : Meaning) (cs : List Conn) → Before g p → (f : Frame u k p stream frame cs) → IsOrdinary stream n i f.wrote.writing e m
    → (c : Comes u k g p stream frame cs) × IsOrdinary stream n i c.wrote.writing e m
unfolding comes_next
comes_ordinary u k g p stream frame n i e m cs b f o = (comes_next u k g p stream frame cs b f, o)

-- ---- what was said at a place

pub said_each : {X : Type 0} (says : Writing → List X) (P : X → Type 0) (ws : List Wrote) (p : ℕ) (x : Wrote) → slice_get ws p ≡ Some x → Each P (all_said says ws) → Each P (says x.writing)
said_each says P [] p x h k = not_some h
said_each {X} says P (w ∷ ws) zero x h k = subst (λ (y : Wrote). Each P (says y.writing)) (some_same h) (front (says w.writing) k)
  where
    front : (xs : List X) → Each P (xs ++ all_said says ws) → Each P xs
    front [] q = tt
    front (y ∷ xs) q = (q.0, front xs q.1)
said_each says P (w ∷ ws) (suc p) x h k = said_each says P ws p x h (each_back P (says w.writing) (all_said says ws) k)

pub said_has : {X : Type 0} (says : Writing → List X) (ws : List Wrote) (p : ℕ) (x : Wrote) (y : X) → slice_get ws p ≡ Some x → says x.writing ≡ y ∷ [] → Has y (all_said says ws)
said_has says [] p x y h e = not_some h
said_has {X} says (w ∷ ws) zero x y h e =
    let is : says w.writing ≡ y ∷ [] = ap (λ (z : Wrote). says z.writing) (some_same h) ∙ e in
    record { place = 0; is = ap (λ l. slice_get (l ++ all_said says ws) 0) is }
said_has {X} says (w ∷ ws) (suc p) x y h e = behind (says w.writing) (said_has says ws p x y h e)
  where
    behind : (xs : List X) → Has y (all_said says ws) → Has y (xs ++ all_said says ws)
    behind [] k = k
    behind (z ∷ xs) k = (let r = behind xs k in record { place = suc r.place; is = r.is })

-- ---- rules that say nothing of these

module _ {u m : ℕ} where
  pub drops_plain : (k : ℕ) (rule : DropRule) → Plain u m (drops k rule)
  drops_plain k rule = line_plain (λ me. lines.Dropped me k rule) (λ me. refl)

  acks_plain : (v : UniqueAddress) (ack : ℕ → UniqueAddress → Control) → ((n : ℕ) (me : UniqueAddress) → is_plain (ack n me) ≡ true) → (x : Option ℕ) → Plain u m (acknowledges_on v ack x)
  acks_plain v ack o None = record { on = λ d. (origin_plain v (owes_ack true) (λ x. record { who = refl; stories = λ kind. refl })).on d }
  acks_plain v ack o (Some dial) = record { on = λ d. (origin_plain v (owes_ack false) (λ x. record { who = refl; stories = λ kind. refl }) ▹ control_plain v (ack (whole.last_taken v d.node.taken) d.node.me) (o (whole.last_taken v d.node.taken) d.node.me)).on d }

  ack_plain : (v : UniqueAddress) (ack : ℕ → UniqueAddress → Control) → ((n : ℕ) (me : UniqueAddress) → is_plain (ack n me) ≡ true) → Plain u m (acknowledges v ack)
  ack_plain v ack o = record { on = λ d. (acks_plain v ack o (control_dial v d.node)).on d }

  taken_plain : (v : UniqueAddress) (n : ℕ) (message : SysMsg) → Plain u m (becomes (with_taken v n message))
  taken_plain v n message = kept_plain (with_taken v n message) (λ k. record { me = refl; peers = refl; inbound = refl; origins = refl })

  acked_as_plain : (k : ℕ) (v : UniqueAddress) (g : whole.Out → whole.Out) (again : Bool) (x : Acked) → Plain u m (acked_as k v g again x)
  acked_as_plain k v g again Past = record { on = λ d. (drops_plain k rules.AckRange).on d }
  acked_as_plain k v g again (Cleared count) = record {
    on = λ d. (out_plain v.address g ▹ other_plain v.address (heard_back (nat_lt 0 count) again d.node.moment) (λ p. record { known = refl; tables = refl; control = Same refl; ordinary = Same refl }) ▹ pumps_plain v.address).on d;
  }

  pub current_plain : (k : ℕ) (v : UniqueAddress) (r : Rule whole (outward u m)) → Plain u m r → Plain u m (of_current k v r)
  current_plain k v r a = record { on = λ d. (if_plain (is_now v d.node) r (drops k rules.NotCurrent) a (drops_plain k rules.NotCurrent)).on d }

  pub acked_plain : (k : ℕ) (v : UniqueAddress) (n : ℕ) → Plain u m (acked k v n)
  acked_plain k v n = record { on = λ d. (acked_as_plain k v (whole.acknowledged n) false (whole.acknowledgement n (peer_at v.address d.node).out)).on d }

  pub nacked_plain : (k : ℕ) (v : UniqueAddress) (n : ℕ) → Plain u m (nacked k v n)
  nacked_plain k v n = record { on = λ d. (acked_as_plain k v (whole.refused n) true (whole.acknowledgement n (peer_at v.address d.node).out)).on d }

  pub beat_plain : (v : UniqueAddress) → Plain u m (hears_beat v)
  beat_plain v = record { on = λ d. (where_plain (is_now v d.node && watches_at v.address d.node) (peer_becomes v.address (heard_at d.node.moment)) (other_plain v.address (heard_at d.node.moment) (λ p. record { known = refl; tables = refl; control = Same refl; ordinary = Same refl }))).on d }

  pub back_plain : (v : UniqueAddress) → Plain u m (beats_back v)
  back_plain v = record { on = λ d. (control_plain v (controls.HeartbeatRsp d.node.me.uid) refl).on d }

  pub noticed_plain : (k : ℕ) (v to : UniqueAddress) → Plain u m (noticed k v to)
  noticed_plain k v to = record { on = λ d. (if_plain (same_unique to d.node.me) (tells_of (λ me. lines.Notice me v)) (drops k rules.NotMe) (line_plain (λ me. lines.Notice me v) (λ me. refl)) (drops_plain k rules.NotMe)).on d }

  pub shut_plain : (k : ℕ) (v : UniqueAddress) (content : Content) → Plain u m (drops_closed k v content)
  shut_plain k v content = drops_plain k rules.Closed ▹ where_plain (is_told_closed content) (quarantines v) (quarantines_plain v)

  pub speaker_plain : (x : Option UniqueAddress) (r : UniqueAddress → Rule whole (outward u m)) → ((v : UniqueAddress) → Plain u m (r v)) → Plain u m (by_speaker x r)
  speaker_plain None r a = stays_plain
  speaker_plain (Some v) r a = a v

module _ {nobody : UniqueAddress} {u m : ℕ} {given : ℕ → ℕ} where
  numbered_as_keeps : (v : UniqueAddress) (n : ℕ) (message : SysMsg) (x : Take) → Keeps nobody u m given (numbered_as v n message x)
  numbered_as_keeps v n message Taken =
      plain_keeps _ (taken_plain v n message) ▻ plain_keeps _ (line_plain (λ me. lines.Took me v n message) (λ me. refl)) ▻ plain_keeps _ (ack_plain v controls.Ack (λ n me. refl)) ▻ acts_keep v message
  numbered_as_keeps v n message (Again last) = plain_keeps _ (line_plain (λ me. lines.Again me v n) (λ me. refl) ▹ ack_plain v controls.Ack (λ n me. refl))
  numbered_as_keeps v n message (Gap last) = plain_keeps _ (line_plain (λ me. lines.Gap me v n) (λ me. refl) ▹ ack_plain v controls.Nack (λ n me. refl))

  pub numbered_keeps : (v : UniqueAddress) (n : ℕ) (message : SysMsg) → Keeps nobody u m given (numbered v n message)
  numbered_keeps v n message = record { on = λ d g. (numbered_as_keeps v n message (whole.taking v n d.node.taken)).on d g }
