-- The verdict on a frame, and the rules of the handshake, are the same under maps of parts.
use Rattle.std.proofs.Common.{◌≡◌, ℕ, ◌+◌, Bool, true, false, cond, List, [], ◌∷◌, refl, ap, ◌∙◌}
use Rattle.std.specs.Prelude.{◌&&◌, ◌||◌, not, Option, Some, None, map, is_some}
use Rattle.std.specs.Option.{option_map}
use Rattle.artery_base.specs.declared.address.Address.{Address}
use Rattle.artery_base.specs.declared.address.UniqueAddress.{UniqueAddress}
use Rattle.artery_base.specs.declared.message.SysMsg.{SysMsg}
use Rattle.artery_assoc.specs.Peer.{learning}
use Rattle.artery_assoc.specs.declared.peer.Learn.{Learn}
use Rattle.artery_assoc.specs.declared.peer.Learn.TheVariants.{Learnt, Same, WasClosed, ClosedFull}
use Rattle.artery_control.specs.declared.control.Control.TheVariants as controls
use Rattle.artery_frame.specs.declared.stream.Stream.{Stream}
use Rattle.artery_frame.specs.declared.stream.Stream.TheVariants as streams
use Rattle.artery_handshake.specs.declared.out_conn.OnRsp.{OnRsp}
use Rattle.artery_handshake.specs.declared.out_conn.OnRsp.TheVariants.{Bind, Repeat, Stray}
use Rattle.artery_handshake.specs.Outgoing.{conn_dialed, conn_answered}
use Rattle.artery_handshake.specs.declared.in_conn.InState.{InState}
use Rattle.artery_handshake.specs.declared.in_conn.InState.TheVariants.{Raw, Known}
use Rattle.artery_journal.specs.declared.line.Line.TheVariants as lines
use Rattle.artery_journal.specs.declared.words.Reason.TheVariants as reasons
use Rattle.artery_journal.specs.declared.words.Cause.TheVariants as causes
use Rattle.artery_journal.specs.declared.rule.Rule.{Rule as DropRule}
use Rattle.artery_machine.specs.declared.input.Conn.TheVariants.{Outward}
use Rattle.artery_machine.specs.Deeds.{Begins, Controls, Hangs, Writes}
use Rattle.artery_machine.specs.Parts.{Parts}
use Rattle.artery_machine.specs.declared.link.Answer.{Answer}
use Rattle.artery_machine.specs.Node.{Peer, Node, Inbound, Origin, same_address, address_of, conn_of, peer_at, peer_dialed, stream_dialed, dial_asked, dialed_as, has_origin, origin_at}
use Rattle.artery_machine.specs.Doing.{Sink, Rule, ◌▸◌, where_true, does, becomes, hangs_up, peer_becomes, inbound_becomes, origin_becomes, each}
use Rattle.artery_machine.specs.Making.{loses, dials}
use Rattle.artery_machine.specs.Closing.{dial_of, on_control}
use Rattle.artery_machine.specs.Handshaking.{answer_to, response, change_conn, quiet_now, asks_on, writes_answer, owes_no_answer, answers_owed, answers_all, answers_after, begins, waits_for_dial, dialed_of, dialed, lost_of, lost, gives_up, request_rule, with_origin, makes_origin, known_as, owing, answers_on, answers, is_asked, drops, drops_or, requested, with_learnt, tells_all_sent, tells_waiting, owes_no_ack, writes_owed_ack, dials_ordinary, goes_on, learns_new, learns_as, learns, binds_ordinary, ordinary_dial, binds, answer_on, answer_at, is_met, answered_as, takes_answer, answered_by, answered_to, strays_unless, then_ordinary, answered_plainly, answered}
use Rattle.artery_laws.proofs.Over.{Over, SinkOver, peer_over, inbound_over, origin_over, node_over, peer_at_over, peer_dialed_over, has_origin_over, origin_at_over, new_origin_over, push_over, length_over, seen, ◌▹◌, if_over, becomes_over, peer_becomes_over, inbound_becomes_over, origin_becomes_over}
use Rattle.artery_laws.proofs.OverSending.{Alike, stays_here, does_here, tells_here, writes_here, hangs_here, links_over, conn_over, may_have_over, makes_missing_over, uses_over, loses_over, dials_over, on_control_over, closes_current_over, rewinds_over, pumps_over, tells_sent_over}
use Rattle.artery_laws.proofs.OverTelling.{tells_held_over, where_over}

module _ {P Q : Parts} (h : Over P Q) {E F : Sink} (s : SinkOver E F) where
  -- ---- dials

  pub asks_on_over : (a : Address) (x : ℕ) → Alike h s (asks_on a x) (asks_on a x)
  asks_on_over a x = record { on = λ d. (writes_here h s (Some x) (Controls (controls.HandshakeReq d.node.me a (Some x)))).on d }

  pub writes_answer_over : (x : ℕ) (o : Option Answer) → Alike h s (writes_answer x o) (writes_answer x o)
  writes_answer_over x None = stays_here h s
  writes_answer_over x (Some answer) = record { on = λ d. (writes_here h s (Some x) (Controls (response d.node.me answer))).on d }

  pub no_answer_over : (k : ℕ) → Alike h s (inbound_becomes k owes_no_answer) (inbound_becomes k owes_no_answer)
  no_answer_over k = inbound_becomes_over k owes_no_answer owes_no_answer (λ i. refl)

  pub answers_owed_over : (a : Address) (x : ℕ) (i : Inbound P) (state : InState) → Alike h s (answers_owed a x i state) (answers_owed a x (inbound_over h i) state)
  answers_owed_over a x i Raw = stays_here h s
  answers_owed_over a x i (Known who its_nonce) = where_over h s (same_address who.address a) _ _ (no_answer_over i.number ▹ writes_answer_over x i.owed)

  pub answers_all_over : (a : Address) (x : ℕ) → Alike h s (answers_all a x) (answers_all a x)
  answers_all_over a x = record { on = λ d. (all_of d.node.inbound).on d }
    where
      all_of : (is : List (Inbound P)) → Alike h s (each is (λ i. answers_owed a x i i.state)) (each (map (inbound_over h) is) (λ i. answers_owed a x i i.state))
      all_of [] = stays_here h s
      all_of (i ∷ is) = answers_owed_over a x i i.state ▹ all_of is

  pub answers_after_over : (stream : Stream) (a : Address) (x : ℕ) → Alike h s (answers_after stream a x) (answers_after stream a x)
  answers_after_over streams.Control a x = answers_all_over a x
  answers_after_over streams.Ordinary a x = stays_here h s

  pub begins_over : (stream : Stream) (a : Address) (x : ℕ) → Alike h s (begins stream a x) (begins stream a x)
  begins_over stream a x = record {
    on = λ d. (links_over h s stream a (change_conn (conn_dialed d.node.moment)) ▹ does_here h s (Writes x (Begins stream)) ▹ asks_on_over a x ▹ answers_after_over stream a x).on d;
  }

  pub dialed_of_over : (x : ℕ) (p : Option (Peer P)) → Alike h s (dialed_of x p) (dialed_of x (option_map (peer_over h) p))
  dialed_of_over x None = does_here h s (Hangs (Outward x))
  dialed_of_over x (Some p) = record {
    on = λ d. ap (λ c. cond (waits_for_dial c) (begins (stream_dialed x p) (address_of p) x) (does (Hangs (Outward x))) (seen h s d)) (conn_over h s (stream_dialed x p) p)
        ∙ (if_over (waits_for_dial (conn_of (stream_dialed x p) p)) _ _ _ _ (begins_over (stream_dialed x p) (address_of p) x) (does_here h s (Hangs (Outward x)))).on d;
  }

  pub dialed_over : (x : ℕ) → Alike h s (dialed x) (dialed x)
  dialed_over x = record { on = λ d. ap (λ p. dialed_of x p (seen h s d)) (peer_dialed_over h x d.node) ∙ (dialed_of_over x (peer_dialed x d.node)).on d }

  pub lost_of_over : (x : ℕ) (p : Option (Peer P)) → Alike h s (lost_of x p) (lost_of x (option_map (peer_over h) p))
  lost_of_over x None = stays_here h s
  lost_of_over x (Some p) = loses_over h s (stream_dialed x p) (address_of p)

  pub lost_over : (x : ℕ) → Alike h s (lost x) (lost x)
  lost_over x = record { on = λ d. ap (λ p. lost_of x p (seen h s d)) (peer_dialed_over h x d.node) ∙ (lost_of_over x (peer_dialed x d.node)).on d }

  pub gives_up_over : (stream : Stream) (a : Address) → Alike h s (gives_up stream a) (gives_up stream a)
  gives_up_over stream a = record {
    on = λ d. ap (λ (p : Peer Q). (hangs_up (dial_of (conn_of stream p)) ▸ loses stream a) (seen h s d)) (peer_at_over h a d.node)
        ∙ ap (λ c. (hangs_up (dial_of c) ▸ loses stream a) (seen h s d)) (conn_over h s stream (peer_at a d.node))
        ∙ (hangs_here h s (dial_of (conn_of stream (peer_at a d.node))) ▹ loses_over h s stream a).on d;
  }

  -- ---- requests

  pub drops_over : (k : ℕ) (rule : DropRule) → Alike h s (drops k rule) (drops k rule)
  drops_over k rule = tells_here h s (λ me. lines.Dropped me k rule)

  pub request_rule_over : (n : Node P) (i : Inbound P) (v : UniqueAddress) (to : Address) (its_nonce : Option ℕ) → request_rule (node_over h n) (inbound_over h i) v to its_nonce ≡ request_rule n i v to its_nonce
  request_rule_over n i v to its_nonce = rw (may_have_over h s v.address n, has_origin_over h v n, length_over (origin_over h) n.origins) refl

  pub makes_origin_over : (v : UniqueAddress) → Alike h s (makes_origin v) (makes_origin v)
  makes_origin_over v = record {
    on = λ d. ap (λ b. where_true (not b) (becomes (with_origin v)) (seen h s d)) (has_origin_over h v d.node)
        ∙ (where_over h s (not (has_origin v d.node)) _ _ new_one).on d;
  }
    where
      new_one : Alike h s (becomes (with_origin v)) (becomes (with_origin v))
      new_one = becomes_over (with_origin v) (with_origin v)
          (λ n. ap (λ os. record (node_over h n) { origins = os; taken = Q.opened v (h.ins n.taken) }) (push_over (origin_over h) n.origins _ _ (new_origin_over h n.moment v))
          ∙ ap (λ t. record (node_over h (with_origin v n)) { taken = t }) (h.opened v n.taken))

  pub answers_on_over : (k : ℕ) (answer : Answer) (x : Option ℕ) → Alike h s (answers_on k answer x) (answers_on k answer x)
  answers_on_over k answer None = inbound_becomes_over k (owing answer) (owing answer) (λ i. refl)
  answers_on_over k answer (Some x) = no_answer_over k ▹ writes_answer_over x (Some answer)

  pub answers_over : (k : ℕ) (v : UniqueAddress) (its_nonce : Option ℕ) → Alike h s (answers k v its_nonce) (answers k v its_nonce)
  answers_over k v its_nonce = record {
    on = λ d. ap (λ (p : Peer Q). answers_on k (answer_to v its_nonce) (dial_asked (conn_of streams.Control p)) (seen h s d)) (peer_at_over h v.address d.node)
        ∙ (answers_on_over k (answer_to v its_nonce) (dial_asked (conn_of streams.Control (peer_at v.address d.node)))).on d;
  }

  pub is_asked_over : (k : ℕ) (v : UniqueAddress) (its_nonce : Option ℕ) → Alike h s (is_asked k v its_nonce) (is_asked k v its_nonce)
  is_asked_over k v its_nonce = makes_missing_over h s v.address ▹ uses_over h s v.address ▹ known_over ▹ makes_origin_over v ▹ answers_over k v its_nonce
    where
      known_over : Alike h s (inbound_becomes k (known_as v its_nonce)) (inbound_becomes k (known_as v its_nonce))
      known_over = inbound_becomes_over k (known_as v its_nonce) (known_as v its_nonce) (λ i. refl)

  pub drops_or_over : (k : ℕ) (rule : Option DropRule) (r : Rule P E) (q : Rule Q F) → Alike h s r q → Alike h s (drops_or k rule r) (drops_or k rule q)
  drops_or_over k None r q e = e
  drops_or_over k (Some rule) r q e = drops_over k rule

  pub requested_over : (i : Inbound P) (v : UniqueAddress) (to : Address) (its_nonce : Option ℕ) → Alike h s (requested i v to its_nonce) (requested (inbound_over h i) v to its_nonce)
  requested_over i v to its_nonce = record {
    on = λ d. ap (λ x. drops_or i.number x (is_asked i.number v its_nonce) (seen h s d)) (request_rule_over d.node i v to its_nonce)
        ∙ (drops_or_over i.number (request_rule d.node i v to its_nonce) _ _ (is_asked_over i.number v its_nonce)).on d;
  }

  -- ---- binding

  pub tells_all_sent_over : (a : Address) (uid n : ℕ) (ms : List SysMsg) → Alike h s (tells_all_sent a uid n ms) (tells_all_sent a uid n ms)
  tells_all_sent_over a uid n [] = stays_here h s
  tells_all_sent_over a uid n (m ∷ ms) = tells_sent_over h s a (Some uid) n m ▹ tells_all_sent_over a uid (n + 1) ms

  pub tells_waiting_over : (a : Address) (uid : ℕ) → Alike h s (tells_waiting a uid) (tells_waiting a uid)
  tells_waiting_over a uid = record {
    on = λ d. ap (λ (p : Peer Q). tells_all_sent a uid 1 (Q.unacknowledged p.out) (seen h s d)) (peer_at_over h a d.node)
        ∙ ap (λ ms. tells_all_sent a uid 1 ms (seen h s d)) (h.unacknowledged (peer_at a d.node).out)
        ∙ (tells_all_sent_over a uid 1 (P.unacknowledged (peer_at a d.node).out)).on d;
  }

  pub quiet_over : (a : Address) (now : ℕ) → Alike h s (peer_becomes a (quiet_now now)) (peer_becomes a (quiet_now now))
  quiet_over a now = peer_becomes_over a (quiet_now now) (quiet_now now) (λ p. refl)

  pub writes_owed_ack_over : (v : UniqueAddress) → Alike h s (writes_owed_ack v) (writes_owed_ack v)
  writes_owed_ack_over v = record {
    on = λ d. ap (λ (o : Origin Q). where_true o.owes (origin_becomes v owes_no_ack ▸ on_control v (controls.Ack (Q.last_taken v (h.ins d.node.taken)) d.node.me)) (seen h s d)) (origin_at_over h v d.node)
        ∙ ap (λ n. where_true (origin_at v d.node).owes (origin_becomes v owes_no_ack ▸ on_control v (controls.Ack n d.node.me)) (seen h s d)) (h.last_taken v d.node.taken)
        ∙ (where_over h s (origin_at v d.node).owes _ _ (no_ack ▹ on_control_over h s v (controls.Ack (P.last_taken v d.node.taken) d.node.me))).on d;
  }
    where
      no_ack : Alike h s (origin_becomes v owes_no_ack) (origin_becomes v owes_no_ack)
      no_ack = origin_becomes_over v owes_no_ack owes_no_ack (λ o. refl)

  pub dials_ordinary_over : (a : Address) → Alike h s (dials_ordinary a) (dials_ordinary a)
  dials_ordinary_over a = record {
    on = λ d. ap (λ (p : Peer Q). where_true (not (is_some (conn_of streams.Ordinary p))) (dials streams.Ordinary a) (seen h s d)) (peer_at_over h a d.node)
        ∙ (where_over h s (not (is_some (conn_of streams.Ordinary (peer_at a d.node)))) _ _ (dials_over h s streams.Ordinary a)).on d;
  }

  pub goes_on_over : (v : UniqueAddress) → Alike h s (goes_on v) (goes_on v)
  goes_on_over v = record {
    on = λ d. (quiet_over v.address d.node.moment ▹ writes_owed_ack_over v ▹ rewinds_over h s v.address ▹ pumps_over h s v.address ▹ dials_ordinary_over v.address).on d;
  }

  pub learns_new_over : (v : UniqueAddress) (former : Option ℕ) → Alike h s (learns_new v former) (learns_new v former)
  learns_new_over v former = record {
    on = λ d. (closes_current_over h s v.address causes.Superseded former _ _ (stays_here h s) ▹ learnt_over d.node.moment ▹ tells_here h s (λ me. lines.Learnt me v) ▹ tells_waiting_over v.address v.uid ▹ goes_on_over v).on d;
  }
    where
      learnt_over : (now : ℕ) → Alike h s (peer_becomes v.address (with_learnt now v.uid)) (peer_becomes v.address (with_learnt now v.uid))
      learnt_over now = peer_becomes_over v.address (with_learnt now v.uid) (with_learnt now v.uid) (λ p. ap (λ (o : Q.Out). record (peer_over h (with_learnt now v.uid p)) { out = o }) (h.learnt p.out))

  pub learns_as_over : (v : UniqueAddress) (x : Learn) → Alike h s (learns_as v x) (learns_as v x)
  learns_as_over v WasClosed = tells_here h s (λ me. lines.Barred me v)
  learns_as_over v ClosedFull = tells_here h s (λ me. lines.Refused me reasons.ClosedUids) ▹ gives_up_over streams.Control v.address
  learns_as_over v Same = goes_on_over v
  learns_as_over v (Learnt former) = learns_new_over v former

  pub learns_over : (v : UniqueAddress) → Alike h s (learns v) (learns v)
  learns_over v = record {
    on = λ d. ap (λ (p : Peer Q). learns_as v (learning v.uid p.incarnations) (seen h s d)) (peer_at_over h v.address d.node)
        ∙ (learns_as_over v (learning v.uid (peer_at v.address d.node).incarnations)).on d;
  }

  pub binds_ordinary_over : (v : UniqueAddress) (its_nonce x : Option ℕ) → Alike h s (binds_ordinary v its_nonce x) (binds_ordinary v its_nonce x)
  binds_ordinary_over v its_nonce None = tells_here h s (λ me. lines.Stray me v its_nonce) ▹ gives_up_over streams.Ordinary v.address
  binds_ordinary_over v its_nonce (Some x) = tells_held_over h s v.address x

  pub binds_over : (stream : Stream) (v : UniqueAddress) (its_nonce : Option ℕ) → Alike h s (binds stream v its_nonce) (binds stream v its_nonce)
  binds_over streams.Control v its_nonce = record { on = λ d. (uses_over h s v.address ▹ learns_over v).on d }
  binds_over streams.Ordinary v its_nonce = record {
    on = λ d. ap (λ (p : Peer Q). binds_ordinary v its_nonce (ordinary_dial v p) (seen h s d)) (peer_at_over h v.address d.node)
        ∙ (binds_ordinary_over v its_nonce (ordinary_dial v (peer_at v.address d.node))).on d;
  }

  pub answer_at_over : (stream : Stream) (n : Node P) (v : UniqueAddress) (for its_nonce : Option ℕ) → answer_at stream (node_over h n) v for its_nonce ≡ answer_at stream n v for its_nonce
  answer_at_over stream n v for its_nonce =
      ap (λ (p : Peer Q). answer_on n.me.uid v for its_nonce (conn_of stream p)) (peer_at_over h v.address n)
      ∙ ap (answer_on n.me.uid v for its_nonce) (conn_over h s stream (peer_at v.address n))

  pub answered_as_over : (stream : Stream) (v : UniqueAddress) (for its_nonce : Option ℕ) (x : OnRsp) → Alike h s (answered_as stream v for its_nonce x) (answered_as stream v for its_nonce x)
  answered_as_over stream v for its_nonce (Bind uid) = record {
    on = λ d. (links_over h s stream v.address (change_conn (conn_answered d.node.me.uid v.uid for its_nonce)) ▹ binds_over stream v its_nonce).on d;
  }
  answered_as_over stream v for its_nonce Repeat = stays_here h s
  answered_as_over stream v for its_nonce Stray = stays_here h s

  pub takes_answer_over : (stream : Stream) (v : UniqueAddress) (for its_nonce : Option ℕ) → Alike h s (takes_answer stream v for its_nonce) (takes_answer stream v for its_nonce)
  takes_answer_over stream v for its_nonce = record {
    on = λ d. ap (λ x. answered_as stream v for its_nonce x (seen h s d)) (answer_at_over stream d.node v for its_nonce)
        ∙ (answered_as_over stream v for its_nonce (answer_at stream d.node v for its_nonce)).on d;
  }

  pub answered_by_over : (stream : Stream) (v : UniqueAddress) (for its_nonce : ℕ) (b : Bool) → Alike h s (answered_by stream v for its_nonce b) (answered_by stream v for its_nonce b)
  answered_by_over stream v for its_nonce true = takes_answer_over stream v (Some for) (Some its_nonce)
  answered_by_over stream v for its_nonce false = tells_here h s (λ me. lines.Stray me v (Some its_nonce))

  pub answered_to_over : (v : UniqueAddress) (for its_nonce : ℕ) → Alike h s (answered_to v for its_nonce) (answered_to v for its_nonce)
  answered_to_over v for its_nonce = record {
    on = λ d. ap (λ (p : Peer Q). answered_by (stream_dialed its_nonce p) v for its_nonce (dialed_as its_nonce p && is_met (answer_at (stream_dialed its_nonce p) (node_over h d.node) v (Some for) (Some its_nonce))) (seen h s d)) (peer_at_over h v.address d.node)
        ∙ ap (λ x. answered_by (stream_dialed its_nonce (peer_at v.address d.node)) v for its_nonce (dialed_as its_nonce (peer_at v.address d.node) && is_met x) (seen h s d)) (answer_at_over (stream_dialed its_nonce (peer_at v.address d.node)) d.node v (Some for) (Some its_nonce))
        ∙ (answered_by_over (stream_dialed its_nonce (peer_at v.address d.node)) v for its_nonce (dialed_as its_nonce (peer_at v.address d.node) && is_met (answer_at (stream_dialed its_nonce (peer_at v.address d.node)) d.node v (Some for) (Some its_nonce)))).on d;
  }

  pub strays_unless_over : (b : Bool) (v : UniqueAddress) → Alike h s (strays_unless b v) (strays_unless b v)
  strays_unless_over true v = stays_here h s
  strays_unless_over false v = tells_here h s (λ me. lines.Stray me v None)

  pub then_ordinary_over : (met : Bool) (v : UniqueAddress) (for its_nonce : Option ℕ) → Alike h s (then_ordinary met v for its_nonce) (then_ordinary met v for its_nonce)
  then_ordinary_over met v for its_nonce = record {
    on = λ d. ap (λ x. (takes_answer streams.Ordinary v for its_nonce ▸ strays_unless (met || is_met x) v) (seen h s d)) (answer_at_over streams.Ordinary d.node v for its_nonce)
        ∙ (takes_answer_over streams.Ordinary v for its_nonce ▹ strays_unless_over (met || is_met (answer_at streams.Ordinary d.node v for its_nonce)) v).on d;
  }

  pub answered_plainly_over : (v : UniqueAddress) (for its_nonce : Option ℕ) → Alike h s (answered_plainly v for its_nonce) (answered_plainly v for its_nonce)
  answered_plainly_over v for its_nonce = record {
    on = λ d. ap (λ x. (takes_answer streams.Control v for its_nonce ▸ then_ordinary (is_met x) v for its_nonce) (seen h s d)) (answer_at_over streams.Control d.node v for its_nonce)
        ∙ (takes_answer_over streams.Control v for its_nonce ▹ then_ordinary_over (is_met (answer_at streams.Control d.node v for its_nonce)) v for its_nonce).on d;
  }

  pub answered_over : (v : UniqueAddress) (for its_nonce : Option ℕ) → Alike h s (answered v for its_nonce) (answered v for its_nonce)
  answered_over v (Some for) (Some its_nonce) = answered_to_over v for its_nonce
  answered_over v (Some for) None = answered_plainly_over v (Some for) None
  answered_over v None its_nonce = answered_plainly_over v None its_nonce
