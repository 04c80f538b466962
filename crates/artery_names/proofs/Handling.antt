-- What a frame does keeps the facts, whatever it says.
use Rattle.std.proofs.Common.{◌≡◌, ℕ, ◌+◌, ◌≤◌, Bool, true, false, List, [], ◌∷◌, length, refl, sym, ◌∙◌, ap, subst, arith, cond}
use Rattle.std.specs.Prelude.{Option, None, Some, Ok, ◌==◌}
use Rattle.std.specs.List.{find}
use Rattle.artery_base.specs.declared.address.UniqueAddress.{UniqueAddress}
use Rattle.artery_base.specs.declared.address.Address.{Address}
use Rattle.artery_codec.specs.Meaning.{Meaning}
use Rattle.artery_control.specs.declared.control.Control.{Control}
use Rattle.artery_control.specs.declared.control.Control.TheVariants as controls
use Rattle.artery_frame.specs.declared.stream.Stream.{Stream}
use Rattle.artery_handshake.specs.declared.in_conn.InState.{InState}
use Rattle.artery_handshake.specs.declared.in_conn.InState.TheVariants.{Raw, Known}
use Rattle.artery_header.specs.Envelope.{EnvelopeOf}
use Rattle.artery_journal.specs.declared.line.Line.{Line}
use Rattle.artery_journal.specs.declared.rule.Rule.TheVariants as rules
use Rattle.artery_journal.specs.declared.words.Kind.{Kind}
use Rattle.artery_journal.specs.declared.words.Kind.TheVariants.{Refs, Manifests}
use Rattle.artery_machine.specs.Deeds.{Writing, Controls}
use Rattle.artery_machine.specs.Parts.{whole}
use Rattle.artery_machine.specs.Connections.{is_inward}
use Rattle.artery_machine.specs.Node.{Node, Inbound, of_kind, is_number, inbound_at, speaker_in}
use Rattle.artery_machine.specs.Doing.{Rule, ◌▸◌}
use Rattle.artery_machine.specs.Making.{uses}
use Rattle.artery_machine.specs.Verdict.{Content, Ordinary, Controls as SaysControl, Verdict, Dropped, OfClosed, Says, content_in, is_shut, verdict}
use Rattle.artery_machine.specs.Hearing.{table_number, acked, nacked, controlled, drops_closed, by_speaker, spoken, handles, heard_as, hears_on, hears, confirms, tabled}
use Rattle.artery_machine.specs.Ticking.{numbers_from}
use Rattle.artery_flight.proofs.Reading.{content_is, judged_says}
use Rattle.artery_names.proofs.Lists.{eq_true, and_left, some_same, not_some, Each}
use Rattle.artery_names.proofs.Said.{Tabling, Acking, tables_said, acks_said, answers_said, speakers_said, answers_by}
use Rattle.artery_names.proofs.Talks.{adopted_by, name_by, told_by}
use Rattle.artery_names.proofs.Facts.{Conn, journal, Has, tables_on, Announced, ConnFacts, Out, IsState, Heard, stories_of, NodeFacts, Good}
use Rattle.artery_names.proofs.Outside.{outward}
use Rattle.artery_names.proofs.Rules.{Work, Plain}
use Rattle.artery_names.proofs.Keeping.{nowhere, Kept, kept_self, plain_keeps, ◌▻◌, stays_keep}
use Rattle.artery_names.proofs.Making.{uses_plain}
use Rattle.artery_names.proofs.Asking.{AskedBy, requested_keeps}
use Rattle.artery_names.proofs.Binding.{Meant, answered_keeps}
use Rattle.artery_names.proofs.Premises.{◌▷◌, always_keeps}
use Rattle.artery_names.proofs.Frames.{ordinary_is, then_given, comes_good, one_inward}
use Rattle.artery_names.proofs.Adopting.{tabled_keeps, confirms_kept}
use Rattle.artery_names.proofs.Shown.{then_here, got_keeps}
use Rattle.artery_names.proofs.Hearing.{IsTold, Frame, Before, comes_next, comes_ordinary, said_each, said_has, drops_plain, acked_plain, nacked_plain, beat_plain, back_plain, noticed_plain, shut_plain, speaker_plain, current_plain, numbered_keeps}

-- ---- who speaks on a connection

-- The ends of a connection on which it is known who speaks.
pub record Ends (nobody : UniqueAddress) (u : ℕ) (who me : UniqueAddress) (c : Conn) (ls : List Line) : Type 0 where
  pub near : who ≡ name_by nobody c.dialer ls
  pub dialer : who.uid ≡ c.dialer
  pub far : c.far ≡ u
  pub reached : name_by nobody c.far ls ≡ me

module _ (nobody : UniqueAddress) (u k p : ℕ) (given : ℕ → ℕ) (stream : Option Stream) (frame : List ℕ) (n : Node whole) (cs : List Conn) (ls : List Line) (out : Out nobody cs ls) (h : NodeFacts nobody u given nowhere n cs ls) (f : Frame u k p stream frame cs) where
  at_conn : ConnFacts cs (name_by nobody f.conn.dialer ls) (name_by nobody f.conn.far ls) ls f.conn
  at_conn = out.conns f.place f.conn f.is

  far_is : f.conn.far ≡ u
  far_is = eq_true f.conn.far u (and_left (f.conn.far == u) (f.conn.number == k) f.inward)

  far_me : name_by nobody f.conn.far ls ≡ n.me
  far_me = ap (λ (z : ℕ). name_by nobody z ls) far_is ∙ h.me

  ends_of : (i : Inbound whole) (who : UniqueAddress) (its_nonce : Option ℕ) → inbound_at k n ≡ Some i → i.state ≡ Known who its_nonce → Ends nobody u who n.me f.conn ls
  ends_of i who its_nonce at known =
      let y : Heard nobody n.me (given k) (stories_of n) cs ls k i = h.inbound k i at in
      let same : y.conn ≡ f.conn = one_inward nobody cs ls out u k y.place f.place y.conn f.conn y.is f.is (subst (λ (z : ℕ). is_inward z k y.conn ≡ true) h.uid y.inward) f.inward in
      let P : InState → Type 0 = λ s. IsState (name_by nobody y.conn.dialer ls) y.conn.dial (told_by (name_by nobody y.conn.dialer ls) n.me y.conn.dial ls) s in
      let state : P (Known who its_nonce) = subst P known y.facts.state in
      let near : who ≡ name_by nobody f.conn.dialer ls = state.0 ∙ ap (λ (z : Conn). name_by nobody z.dialer ls) same in
      record { near = near; dialer = ap (λ (z : UniqueAddress). z.uid) near ∙ at_conn.near; far = far_is; reached = far_me }

  -- a handshake request
  asked_by : (from : UniqueAddress) (to : Address) (its_nonce : Option ℕ) → f.wrote.writing ≡ Controls (controls.HandshakeReq from to its_nonce) → AskedBy nobody u k from its_nonce cs ls
  asked_by from to its_nonce w =
      let says : Each (λ (v : UniqueAddress). v ≡ name_by nobody f.conn.dialer ls) (speakers_said (Controls (controls.HandshakeReq from to its_nonce))) =
      subst (λ (x : Writing). Each (λ (v : UniqueAddress). v ≡ name_by nobody f.conn.dialer ls) (speakers_said x)) w (said_each speakers_said (λ (v : UniqueAddress). v ≡ name_by nobody f.conn.dialer ls) f.conn.way.all p f.wrote f.here at_conn.says) in
      let told : IsTold cs f.conn (Controls (controls.HandshakeReq from to its_nonce)) = subst (IsTold cs f.conn) w f.told in
      record { place = f.place; conn = f.conn; is = f.is; inward = f.inward; from = says.0; nonce = told }

  -- a handshake answer
  meant_for : (from : UniqueAddress) (for_uid its_nonce : Option ℕ) → f.wrote.writing ≡ Controls (controls.HandshakeRsp from for_uid its_nonce) → Meant nobody u from for_uid its_nonce cs ls
  meant_for from for_uid its_nonce w =
      let says : Each (λ (v : UniqueAddress). v ≡ name_by nobody f.conn.dialer ls) (speakers_said (Controls (controls.HandshakeRsp from for_uid its_nonce))) =
      subst (λ (x : Writing). Each (λ (v : UniqueAddress). v ≡ name_by nobody f.conn.dialer ls) (speakers_said x)) w (said_each speakers_said (λ (v : UniqueAddress). v ≡ name_by nobody f.conn.dialer ls) f.conn.way.all p f.wrote f.here at_conn.says) in
      let told : IsTold cs f.conn (Controls (controls.HandshakeRsp from for_uid its_nonce)) = subst (IsTold cs f.conn) w f.told in
      let near : from.uid ≡ f.conn.dialer = ap (λ (z : UniqueAddress). z.uid) says.0 ∙ at_conn.near in
      let is : answers_said f.wrote.writing ≡ record { uid = told.uid; dial = told.dial } ∷ [] = ap answers_said w ∙ ap (λ (x : Option ℕ). answers_by x its_nonce) told.asked ∙ ap (answers_by (Some told.uid)) told.nonce in
      record {
        name = ap (λ (z : ℕ). name_by nobody z ls) near ∙ sym says.0;
        uid = told.uid;
        dial = told.dial;
        asked = told.asked;
        nonce = told.nonce;
        far = told.far;
        answered = record { place = f.place; conn = f.conn; is = f.is; near = sym near; said = said_has answers_said f.conn.way.all p f.wrote (record { uid = told.uid; dial = told.dial }) f.here is };
        made = told.made;
      }

  -- a table
  table_there : (i : Inbound whole) (who : UniqueAddress) (its_nonce : Option ℕ) (kind : Kind) (number : ℕ) (keys : List (List ℕ)) (values : List ℕ) → inbound_at k n ≡ Some i → i.state ≡ Known who its_nonce → tables_said f.wrote.writing ≡ record { kind = kind; number = number; keys = keys; values = values } ∷ []
      → Announced cs who.uid u kind number keys × (values ≡ numbers_from 0 (length keys))
  table_there i who its_nonce kind number keys values at known w =
      let e : Ends nobody u who n.me f.conn ls = ends_of i who its_nonce at known in
      let t : Tabling = record { kind = kind; number = number; keys = keys; values = values } in
      let places : Each (λ (x : Tabling). x.values ≡ numbers_from 0 (length x.keys)) (t ∷ []) =
      subst (Each (λ (x : Tabling). x.values ≡ numbers_from 0 (length x.keys))) w (said_each tables_said (λ (x : Tabling). x.values ≡ numbers_from 0 (length x.keys)) f.conn.way.all p f.wrote f.here at_conn.places) in
      let said : Has t (tables_on f.conn) = said_has tables_said f.conn.way.all p f.wrote t f.here w in
      let Q : List ℕ → Type 0 = λ z. Has (record { kind = kind; number = number; keys = keys; values = z }) (tables_on f.conn) in
      (record { place = f.place; conn = f.conn; is = f.is; near = sym e.dialer; far = e.far; said = subst Q places.0 said }, places.0)

  -- the acknowledgement of a table
  ack_below : (i : Inbound whole) (who : UniqueAddress) (its_nonce : Option ℕ) (kind : Kind) (number : ℕ) → inbound_at k n ≡ Some i → i.state ≡ Known who its_nonce → acks_said f.wrote.writing ≡ record { kind = kind; number = number } ∷ []
      → number ≤ of_kind kind (adopted_by who n.me ls)
  ack_below i who its_nonce kind number at known w =
      let e : Ends nobody u who n.me f.conn ls = ends_of i who its_nonce at known in
      let below : Each (λ (x : Acking). x.number ≤ of_kind x.kind (adopted_by (name_by nobody f.conn.dialer ls) (name_by nobody f.conn.far ls) ls)) (record { kind = kind; number = number } ∷ []) =
      subst (Each (λ (x : Acking). x.number ≤ of_kind x.kind (adopted_by (name_by nobody f.conn.dialer ls) (name_by nobody f.conn.far ls) ls))) w
      (said_each acks_said (λ (x : Acking). x.number ≤ of_kind x.kind (adopted_by (name_by nobody f.conn.dialer ls) (name_by nobody f.conn.far ls) ls)) f.conn.way.all p f.wrote f.here at_conn.acks) in
      let P : UniqueAddress → UniqueAddress → Type 0 = λ a b. number ≤ of_kind kind (adopted_by a b ls) in
      subst (λ (a : UniqueAddress). P a n.me) (sym e.near) (subst (λ (b : UniqueAddress). P (name_by nobody f.conn.dialer ls) b) e.reached below.0)

-- ---- what it says

module _ {nobody : UniqueAddress} {u m : ℕ} (given : ℕ → ℕ) (k p : ℕ) (stream : Option Stream) (frame : List ℕ) (d : Work u m) (b : Before (given k) p) (f : d.deeds.ended ≡ None → Frame u k p stream frame d.deeds.connections) (g : Good nobody u given nowhere d.node d.deeds)
    (i : Inbound whole) (at : inbound_at k d.node ≡ Some i) where
  number_is : i.number ≡ k
  number_is = by d.node.inbound at
    where
      by : (is : List (Inbound whole)) → find (is_number k) is ≡ Some i → i.number ≡ k
      by [] e = not_some e
      by (j ∷ is) e = at_it (is_number k j) refl e (by is)
        where
          at_it : (c : Bool) → is_number k j ≡ c → cond c (Some j) (find (is_number k) is) ≡ Some i → (find (is_number k) is ≡ Some i → i.number ≡ k) → i.number ≡ k
          at_it true t q rest = subst (λ (x : Inbound whole). x.number ≡ k) (some_same q) (eq_true j.number k t)
          at_it false t q rest = rest q

  now_given : Good nobody u (then_given given k (p + 1)) nowhere d.node d.deeds
  now_given = comes_good nobody u given k p stream frame d.node d.deeds (λ live. comes_next u k (given k) p stream frame d.deeds.connections b (f live)) g

  -- what was written is what is said
  writing_is : (control : Control) → content_in stream d.node i frame ≡ Ok (SaysControl control) → (live : d.deeds.ended ≡ None) → (f live).wrote.writing ≡ Controls control
  writing_is control e live = content_is stream d.node i (f live).conn.dialer (f live).wrote.writing (SaysControl control) (f live).framed (f live).read (ap (content_in stream d.node i) (f live).bytes ∙ e)

  abbrev Then : Rule whole (outward u m) → Type 0
  Then r = Kept nobody u (then_given given k (p + 1)) nowhere d.deeds (r d).node (r d).deeds

  some_given : 1 ≤ then_given given k (p + 1) i.number
  some_given = subst (λ (x : ℕ). 1 ≤ then_given given k (p + 1) x) (sym number_is) (subst (λ (x : ℕ). 1 ≤ x) (sym (then_here given k (p + 1))) (omega arith))

  asks_kept : (from : UniqueAddress) (to : Address) (its_nonce : Option ℕ) → content_in stream d.node i frame ≡ Ok (SaysControl (controls.HandshakeReq from to its_nonce)) → Then (handles i (SaysControl (controls.HandshakeReq from to its_nonce)))
  asks_kept from to its_nonce e = (requested_keeps i from to its_nonce some_given).on d
      (λ live. subst (λ (x : ℕ). AskedBy nobody u x from its_nonce d.deeds.connections (journal d.deeds)) (sym number_is)
      (asked_by nobody u k p given stream frame d.node d.deeds.connections (journal d.deeds) (g.out live) (g.node live) (f live) from to its_nonce (writing_is (controls.HandshakeReq from to its_nonce) e live)))
      now_given

  answers_kept : (from : UniqueAddress) (for_uid its_nonce : Option ℕ) → content_in stream d.node i frame ≡ Ok (SaysControl (controls.HandshakeRsp from for_uid its_nonce)) → Then (handles i (SaysControl (controls.HandshakeRsp from for_uid its_nonce)))
  answers_kept from for_uid its_nonce e = (answered_keeps from for_uid its_nonce).on d
      (λ live. meant_for nobody u k p given stream frame d.node d.deeds.connections (journal d.deeds) (g.out live) (g.node live) (f live) from for_uid its_nonce (writing_is (controls.HandshakeRsp from for_uid its_nonce) e live))
      now_given

  module _ (who : UniqueAddress) (its_nonce : Option ℕ) (known : i.state ≡ Known who its_nonce) where
    tables_kept : (kind : Kind) (uid number : ℕ) (keys : List (List ℕ)) (values : List ℕ) → ((live : d.deeds.ended ≡ None) → tables_said (f live).wrote.writing ≡ record { kind = kind; number = number; keys = keys; values = values } ∷ [])
        → Then (uses who.address ▸ tabled i.number who kind uid number keys values)
    tables_kept kind uid number keys values w = (always_keeps (uses who.address) (plain_keeps (uses who.address) (uses_plain who.address)) ▷ tabled_keeps i.number who kind uid number keys values).on d
        (λ live. table_there nobody u k p given stream frame d.node d.deeds.connections (journal d.deeds) (g.out live) (g.node live) (f live) i who its_nonce kind number keys values at known (w live)) now_given

    confirmed_kept : (kind : Kind) (number : ℕ) → ((live : d.deeds.ended ≡ None) → acks_said (f live).wrote.writing ≡ record { kind = kind; number = number } ∷ []) → Then (confirms i.number who kind number)
    confirmed_kept kind number w = confirms_kept i.number who kind number d
        (λ live. ack_below nobody u k p given stream frame d.node d.deeds.connections (journal d.deeds) (g.out live) (g.node live) (f live) i who its_nonce kind number at known (w live)) now_given

    plainly : (r : Rule whole (outward u m)) → Plain u m r → Then r
    plainly r q = (plain_keeps r q).on d now_given

    controlled_kept : (c : Control) → content_in stream d.node i frame ≡ Ok (SaysControl c) → Then (controlled i.number who c)
    controlled_kept (controls.Quarantined from to) e = plainly _ (noticed_plain i.number who to)
    controlled_kept (controls.Terminating from) e = plainly _ (drops_plain i.number rules.Unused)
    controlled_kept (controls.TerminatingAck from) e = plainly _ (drops_plain i.number rules.Unused)
    controlled_kept (controls.HandshakeReq from to its) e = (stays_keep {nobody = nobody} {u = u} {m = m}).on d now_given
    controlled_kept (controls.HandshakeRsp from for_uid its) e = (stays_keep {nobody = nobody} {u = u} {m = m}).on d now_given
    controlled_kept (controls.RefsTable from uid version keys values sequence) e = tables_kept Refs uid (table_number version sequence) keys values (λ live. ap tables_said (writing_is (controls.RefsTable from uid version keys values sequence) e live))
    controlled_kept (controls.RefsAck from version sequence) e = confirmed_kept Refs (table_number version sequence) (λ live. ap acks_said (writing_is (controls.RefsAck from version sequence) e live))
    controlled_kept (controls.ManifestsTable from uid version keys values sequence) e = tables_kept Manifests uid (table_number version sequence) keys values (λ live. ap tables_said (writing_is (controls.ManifestsTable from uid version keys values sequence) e live))
    controlled_kept (controls.ManifestsAck from version sequence) e = confirmed_kept Manifests (table_number version sequence) (λ live. ap acks_said (writing_is (controls.ManifestsAck from version sequence) e live))
    controlled_kept (controls.Numbered n message reply_to) e = (plain_keeps (uses who.address) (uses_plain who.address) ▻ numbered_keeps who n message).on d now_given
    controlled_kept (controls.Ack n from) e = plainly _ (current_plain i.number who (acked i.number who n) (acked_plain i.number who n))
    controlled_kept (controls.Nack n from) e = plainly _ (current_plain i.number who (nacked i.number who n) (nacked_plain i.number who n))
    controlled_kept controls.Heartbeat e = (plain_keeps (uses who.address) (uses_plain who.address) ▻ plain_keeps _ (back_plain who)).on d now_given
    controlled_kept (controls.HeartbeatRsp uid) e = plainly _ (beat_plain who)

    ordinary_kept : (e : EnvelopeOf) (s : Meaning) → content_in stream d.node i frame ≡ Ok (Ordinary e s) → Then (spoken i who (Ordinary e s))
    ordinary_kept e s q = got_keeps k p stream frame i who its_nonce e s d at number_is known
        (λ live. comes_ordinary u k (given k) p stream frame d.node i e s d.deeds.connections b (f live)
        (ordinary_is stream d.node i (f live).conn.dialer (f live).wrote.writing e s (f live).framed (f live).read (ap (content_in stream d.node i) (f live).bytes ∙ q))) g

    spoken_kept : (content : Content) → content_in stream d.node i frame ≡ Ok content → Then (spoken i who content)
    spoken_kept (Ordinary e s) q = ordinary_kept e s q
    spoken_kept (SaysControl c) q = controlled_kept c q

  by_kept : (content : Content) → content_in stream d.node i frame ≡ Ok content → (s : InState) → i.state ≡ s → Then (by_speaker (speaker_in s) (λ v. spoken i v content))
  by_kept content q Raw e = (stays_keep {nobody = nobody} {u = u} {m = m}).on d now_given
  by_kept content q (Known who its_nonce) e = spoken_kept who its_nonce e content q

  handles_kept : (content : Content) → content_in stream d.node i frame ≡ Ok content → Then (handles i content)
  handles_kept (Ordinary e s) q = by_kept (Ordinary e s) q i.state refl
  handles_kept (SaysControl (controls.HandshakeReq from to its_nonce)) q = asks_kept from to its_nonce q
  handles_kept (SaysControl (controls.HandshakeRsp from for_uid its_nonce)) q = answers_kept from for_uid its_nonce q
  handles_kept (SaysControl (controls.Quarantined from to)) q = by_kept (SaysControl (controls.Quarantined from to)) q i.state refl
  handles_kept (SaysControl (controls.Terminating from)) q = by_kept (SaysControl (controls.Terminating from)) q i.state refl
  handles_kept (SaysControl (controls.TerminatingAck from)) q = by_kept (SaysControl (controls.TerminatingAck from)) q i.state refl
  handles_kept (SaysControl (controls.RefsTable from uid version keys values sequence)) q = by_kept (SaysControl (controls.RefsTable from uid version keys values sequence)) q i.state refl
  handles_kept (SaysControl (controls.RefsAck from version sequence)) q = by_kept (SaysControl (controls.RefsAck from version sequence)) q i.state refl
  handles_kept (SaysControl (controls.ManifestsTable from uid version keys values sequence)) q = by_kept (SaysControl (controls.ManifestsTable from uid version keys values sequence)) q i.state refl
  handles_kept (SaysControl (controls.ManifestsAck from version sequence)) q = by_kept (SaysControl (controls.ManifestsAck from version sequence)) q i.state refl
  handles_kept (SaysControl (controls.Numbered n message reply_to)) q = by_kept (SaysControl (controls.Numbered n message reply_to)) q i.state refl
  handles_kept (SaysControl (controls.Ack n from)) q = by_kept (SaysControl (controls.Ack n from)) q i.state refl
  handles_kept (SaysControl (controls.Nack n from)) q = by_kept (SaysControl (controls.Nack n from)) q i.state refl
  handles_kept (SaysControl controls.Heartbeat) q = by_kept (SaysControl controls.Heartbeat) q i.state refl
  handles_kept (SaysControl (controls.HeartbeatRsp uid)) q = by_kept (SaysControl (controls.HeartbeatRsp uid)) q i.state refl

  as_kept : (v : Verdict) → verdict stream d.node i frame ≡ v → Then (heard_as i v)
  as_kept (Dropped rule) e = (plain_keeps _ (drops_plain i.number rule)).on d now_given
  as_kept (OfClosed content) e = (plain_keeps _ (speaker_plain (speaker_in i.state) (λ v. drops_closed i.number v content) (λ v. shut_plain i.number v content))).on d now_given
  as_kept (Says content) e = handles_kept content (judged_says (is_shut d.node (speaker_in i.state)) (content_in stream d.node i frame) content e)

module _ {nobody : UniqueAddress} {u m : ℕ} {given : ℕ → ℕ} where
  -- a frame is heard, and was given
  pub hears_kept : (k p : ℕ) (stream : Option Stream) (frame : List ℕ) (d : Work u m) → Before (given k) p → (d.deeds.ended ≡ None → Frame u k p stream frame d.deeds.connections) → Good nobody u given nowhere d.node d.deeds
      → Kept nobody u (then_given given k (p + 1)) nowhere d.deeds (hears k stream frame d).node (hears k stream frame d).deeds
  hears_kept k p stream frame d b f g = by (inbound_at k d.node) refl
    where
      by : (x : Option (Inbound whole)) → inbound_at k d.node ≡ x → Kept nobody u (then_given given k (p + 1)) nowhere d.deeds (hears_on stream x frame d).node (hears_on stream x frame d).deeds
      by None e = kept_self nobody u (then_given given k (p + 1)) nowhere d.node d.deeds
          (comes_good nobody u given k p stream frame d.node d.deeds (λ live. comes_next u k (given k) p stream frame d.deeds.connections b (f live)) g)
      by (Some i) e = as_kept given k p stream frame d b f g i e (verdict stream d.node i frame) refl
