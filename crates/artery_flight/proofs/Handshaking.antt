-- The rules of the handshake keep the facts: a connection begins to speak by its preamble.
use Rattle.std.proofs.Common.{◌≡◌, ℕ, ◌+◌, ◌≤◌, arith, Bool, true, false, cond, List, [], ◌∷◌, refl, sym, ◌∙◌, ap, subst}
use Rattle.std.specs.Prelude.{◌==◌, ◌||◌, ◌&&◌, not, is_some, is_none, Option, Some, None}
use Rattle.std.specs.List.{find}
use Rattle.artery_base.specs.declared.address.Address.{Address}
use Rattle.artery_base.specs.declared.address.UniqueAddress.{UniqueAddress}
use Rattle.artery_assoc.specs.Peer.{learning}
use Rattle.artery_assoc.specs.declared.peer.Learn.{Learn}
use Rattle.artery_assoc.specs.declared.peer.Learn.TheVariants.{Learnt, Same, WasClosed, ClosedFull}
use Rattle.artery_control.specs.declared.control.Control.TheVariants as controls
use Rattle.artery_frame.specs.declared.stream.Stream.{Stream}
use Rattle.artery_frame.specs.declared.stream.Stream.TheVariants as streams
use Rattle.artery_handshake.specs.declared.in_conn.InState.{InState}
use Rattle.artery_handshake.specs.declared.in_conn.InState.TheVariants.{Raw, Known}
use Rattle.artery_handshake.specs.declared.out_conn.OutConn.{OutConn}
use Rattle.artery_handshake.specs.declared.out_conn.OutState.{OutState}
use Rattle.artery_handshake.specs.declared.out_conn.OutState.TheVariants.{Dialing, Asked, Bound}
use Rattle.artery_handshake.specs.declared.out_conn.OnRsp.TheVariants.{Bind, Repeat, Stray}
use Rattle.artery_handshake.specs.Outgoing.{state_dialed, conn_dialed, answer_in, is_meant, conn_answered, state_after_rsp}
use Rattle.artery_journal.specs.declared.line.Line.{Line}
use Rattle.artery_journal.specs.declared.line.Line.TheVariants as lines
use Rattle.artery_journal.specs.declared.rule.Rule.{Rule as DropRule}
use Rattle.artery_journal.specs.declared.words.Cause.TheVariants as causes
use Rattle.artery_journal.specs.declared.words.Reason.TheVariants as reasons
use Rattle.artery_machine.specs.declared.input.Conn.TheVariants.{Outward}
use Rattle.artery_machine.specs.declared.link.Link.{Link}
use Rattle.artery_machine.specs.declared.link.Answer.{Answer}
use Rattle.artery_machine.specs.Lists.{change_first}
use Rattle.artery_machine.specs.Deeds.{Writing, Begins, Controls, Writes, Hangs}
use Rattle.artery_machine.specs.Parts.{whole}
use Rattle.artery_machine.specs.Connections.{is_dialed, is_inward}
use Rattle.artery_machine.specs.Node.{incarnation, Node, Peer, Inbound, Origin, is_peer, same_address, address_of, conn_of, link_of, with_link, peer_at, peer_dialed, stream_dialed, dialed_as, has_dial, has_origin, origin_at}
use Rattle.artery_machine.specs.Doing.{Rule, ◌▸◌, stays, where_true, does, becomes, tells_of, writes_on, hangs_up, peer_becomes, origin_becomes, each}
use Rattle.artery_machine.specs.Making.{dials, makes_missing, uses, loses}
use Rattle.artery_machine.specs.Closing.{dial_of, on_control, closes_current}
use Rattle.artery_machine.specs.World.{is_pending, does as does_outside}
use Rattle.artery_machine.specs.Handshaking.{answer_to, response, change_conn, waits_for_dial, quiet_now, owes_no_answer, with_origin, with_learnt, owes_no_ack, asks_on, writes_answer, answers_owed, answers_all, answers_after, begins, dialed_of, dialed, lost_of, lost, gives_up, makes_origin, drops, drops_or, tells_waiting, writes_owed_ack, dials_ordinary, goes_on, learns_new, learns_as, learns, strays, binds}
use Rattle.artery_flight.specs.Flight.{is_frame}
use Rattle.artery_flight.proofs.Lists.{on_cond, eq_true, eq_self, and_left, and_right, and_both, some_same, Each, each_weaker, count, count_here, Placed, single_each, find_passes, find_single}
use Rattle.artery_flight.proofs.Grow.{one_placed, one_here}
use Rattle.artery_flight.proofs.Facts.{ConnNamed, Network, Conn, Reaches, ComesFrom, comes_grow, IsAnswerFor, answer_grow, OwedFacts, InboundFacts, owed_later, Out, IsTrue, Speaks, IsSilent, StateFacts, OutConnFacts, NodeFacts, later_self, dialer_of, node_later}
use Rattle.artery_flight.proofs.Deeds.{outward, only, Changes, IsNext, MayWrite, writes_changes, writes_speaks}
use Rattle.artery_flight.proofs.Lines.{IsPlainLine, IsOwn, IsNamed, named_more}
use Rattle.artery_flight.proofs.Rules.{Good, Kept, Premise, Work, Keeps, always, speaking, where_read, where_known, both, keeps_from, link_named, link_sent, IsSameInbound, kept_self, kept_then, none_is, none_not, ◌▹◌, address_self, peers_facts, link_facts, link_at, may_say, write_kept, stays_keep, quiet_keeps, tells_keep, hangs_keep, becomes_keep, inbound_keep, origin_keep, peer_keep, where_keeps}
use Rattle.artery_flight.proofs.Controlling.{each_own, on_control_keeps, dials_keep}
use Rattle.artery_flight.proofs.Sending.{makes_missing_keeps, uses_keeps, loses_keeps, pumps_keep, rewinds_keep}
use Rattle.artery_flight.proofs.Peers.{learns_former}
use Rattle.artery_flight.proofs.Learning.{Readied, readied, learnt_kept}
use Rattle.artery_machine.specs.declared.world.Outcome.{Outcome}

-- ---- a connection begins

-- what follows where a preamble was written
pub record Begun (u x : ℕ) (o : Node whole) (w : Network) (n : Node whole) (v : Network) : Type 0 where
  pub kept : Kept u o w n v
  pub speaks : v.ended ≡ None → Speaks u x v.connections

pub may_begin : (u x : ℕ) (cs : List Conn) (os : List Outcome) (stream : Stream) → IsSilent u x cs → MayWrite u x cs os (Begins stream)
may_begin u x cs os stream s = record { own = λ r. each_own u x os (Begins stream) (λ far. tt) cs; next = each_weaker _ _ (λ c k i o. subst (λ ws. IsNext ws (Begins stream)) (sym (k i)) (stream, refl)) cs s.nothing; said = all cs }
  where
    all : (ds : List Conn) → Each (λ (c : Conn). is_dialed u x c ≡ true → IsTrue cs c (Begins stream)) ds
    all [] = tt
    all (c ∷ ds) = ((λ t. tt), all ds)

pub up_facts : (u x : ℕ) (cs : List Conn) (now : ℕ) (l : Link) → has_dial x l.conn ≡ true → Speaks u x cs → OutConnFacts u cs l.conn → OutConnFacts u cs (change_conn (conn_dialed now) l).conn
up_facts u x cs now l e s h = by l.conn e h
  where
    by : (c : Option OutConn) → has_dial x c ≡ true → OutConnFacts u cs c → OutConnFacts u cs (change_conn (conn_dialed now) (record l { conn = c })).conn
    by None f k = tt
    by (Some c) f k = at_state c.state k
      where
        at_state : (t : OutState) → StateFacts u cs c.dial t → StateFacts u cs c.dial (state_dialed now t)
        at_state Dialing k = subst (λ (y : ℕ). Speaks u y cs) (sym (eq_true c.dial x f)) s
        at_state (Asked begun last) k = k
        at_state (Bound uid) k = k

-- a state is bound only where it was
pub dialed_named : (os : List Outcome) (a : Address) (now : ℕ) (l : Link) → ConnNamed os a l.conn → ConnNamed os a (change_conn (conn_dialed now) l).conn
dialed_named os a now l h = by l.conn h
  where
    by : (c : Option OutConn) → ConnNamed os a c → ConnNamed os a (change_conn (conn_dialed now) (record l { conn = c })).conn
    by None k = tt
    by (Some c) k = λ uid e. k uid (at_state c.state uid e)
      where
        not_bound : {P : Type 0} {uid : ℕ} → Asked now now ≡ Bound uid → P
        not_bound e = cc

        at_state : (s : OutState) (uid : ℕ) → state_dialed now s ≡ Bound uid → s ≡ Bound uid
        at_state Dialing uid e = not_bound e
        at_state (Asked begun last) uid e = e
        at_state (Bound bound) uid e = e

pub answered_named : (os : List Outcome) (a : Address) (me from : ℕ) (for its_nonce : Option ℕ) → IsNamed (incarnation a from) os → (l : Link) → ConnNamed os a l.conn → ConnNamed os a (change_conn (conn_answered me from for its_nonce) l).conn
answered_named os a me from for its_nonce named l h = by l.conn h
  where
    by : (c : Option OutConn) → ConnNamed os a c → ConnNamed os a (change_conn (conn_answered me from for its_nonce) (record l { conn = c })).conn
    by None k = tt
    by (Some c) k = λ uid e. at_state c.state (is_meant me c.dial for its_nonce) uid k e
      where
        bound_is : {uid : ℕ} → Bound from ≡ Bound uid → from ≡ uid
        bound_is e = cc

        at_state : (s : OutState) (meant : Bool) (uid : ℕ) → ((y : ℕ) → s ≡ Bound y → IsNamed (incarnation a y) os) → state_after_rsp (answer_in s from meant) s ≡ Bound uid → IsNamed (incarnation a uid) os
        at_state Dialing meant uid q e = q uid e
        at_state (Asked begun last) true uid q e = subst (λ (y : ℕ). IsNamed (incarnation a y) os) (bound_is e) named
        at_state (Asked begun last) false uid q e = q uid e
        at_state (Bound bound) meant uid q e = q uid (same (meant && (bound == from)) e)
          where
            same : (b : Bool) → state_after_rsp (cond b Repeat Stray) (Bound bound) ≡ Bound uid → Bound bound ≡ Bound uid
            same true f = f
            same false f = f

pub dial_is : (x : ℕ) (p : Peer whole) → dialed_as x p ≡ true → has_dial x (conn_of (stream_dialed x p) p) ≡ true
dial_is x p h = by (has_dial x p.control.conn) refl h
  where
    by : (b : Bool) → has_dial x p.control.conn ≡ b → (b || has_dial x p.ordinary.conn) ≡ true → has_dial x (conn_of (cond b streams.Control streams.Ordinary) p) ≡ true
    by true e k = e
    by false e k = k

pub link_conn : (stream : Stream) (p : Peer whole) → (link_of stream p).conn ≡ conn_of stream p
link_conn stream p = refl

pub begun_kept : (u m x : ℕ) (p : Peer whole) (d : Work u m) → find (dialed_as x) d.node.peers ≡ Some p → (d.deeds.ended ≡ None → IsSilent u x d.deeds.connections) → Good u d.node d.deeds
    → Begun u x d.node d.deeds ((peer_becomes (address_of p) (with_link (stream_dialed x p) (change_conn (conn_dialed d.node.moment))) ▸ does (Writes x (Begins (stream_dialed x p)))) d).node
    ((peer_becomes (address_of p) (with_link (stream_dialed x p) (change_conn (conn_dialed d.node.moment))) ▸ does (Writes x (Begins (stream_dialed x p)))) d).deeds
begun_kept u m x p d found silent g = on_cond (λ (v : Network). Begun u x d.node w k v) (is_none w.ended) (does_outside u m (Writes x (Begins stream)) w) w
    (λ t. going (none_is w.ended t))
    (λ t. record { kept = record { good = record { out = g.out; node = λ e. none_not w.ended t e }; later = later_self (only u) w; bytes = λ j. refl }; speaks = λ e. none_not w.ended t e })
  where
    w : Network
    w = d.deeds

    stream : Stream
    stream = stream_dialed x p

    f : Link → Link
    f = change_conn (conn_dialed d.node.moment)

    k : Node whole
    k = record d.node { peers = change_first (is_peer (address_of p)) (with_link (stream_dialed x p) (change_conn (conn_dialed d.node.moment))) d.node.peers }

    going : w.ended ≡ None → Begun u x d.node w k (does_outside u m (Writes x (Begins (stream_dialed x p))) w)
    going e =
        let v : Network = does_outside u m (Writes x (Begins (stream_dialed x p))) w in
        let s : IsSilent u x w.connections = silent e in
        let c : Changes u w v = writes_changes u m x (Begins (stream_dialed x p)) w g.out (may_begin u x w.connections w.outcomes (stream_dialed x p) s) in
        let speaks : v.ended ≡ None → Speaks u x v.connections = writes_speaks u m x (Begins (stream_dialed x p)) w s in
        record {
          kept = record {
            good = record {
              out = c.out;
              node = λ live. (let h : NodeFacts u d.node v = node_later (only u) u d.node w v c.later.conns c.later.told (λ y. c.sent d.node.me y) c.pending (g.node e) in
                  let one : find (is_peer (address_of p)) d.node.peers ≡ Some p = find_single (is_peer (address_of p)) (dialed_as x) d.node.peers p (h.alone (address_of p)) found (address_self (address_of p)) in
                  peers_facts u d.node v (address_of p) (with_link (stream_dialed x p) f) (link_at (stream_dialed x p) f)
                  (λ q i r. link_facts u v.connections (stream_dialed x p) f q
                  (λ z. up_facts u x v.connections d.node.moment (link_of (stream_dialed x p) q)
                  (subst (λ (y : Peer whole). has_dial x (link_of (stream_dialed x p) y).conn ≡ true) (some_same (sym one ∙ i)) (dial_is x p (find_passes (dialed_as x) d.node.peers p found)))
                  (speaks live) z) r)
                  (λ r q i t. link_named v.outcomes (stream_dialed x p) f q (λ z. dialed_named v.outcomes q.incarnations.address d.node.moment q.control z) t)
                  (λ q i t. link_sent d.node.me v.outcomes (stream_dialed x p) f q t) h);
            };
            later = c.later;
            bytes = λ j. refl;
          };
          speaks = speaks;
        }

-- the answer that is owed is one for a connection that reaches this node
abbrev pub owing_one : (u : ℕ) (o : Option Answer) → Premise u
owing_one u o = where_read u (λ cs. OwedFacts u cs o) (λ cs ds g h. owed_later (only u) u cs ds g o h)

abbrev pub owing_each : (u : ℕ) (is : List (Inbound whole)) → Premise u
owing_each u is = where_read u (λ cs. Each (λ (i : Inbound whole). OwedFacts u cs i.owed) is) (λ cs ds g h. each_weaker _ _ (λ (i : Inbound whole) q. owed_later (only u) u cs ds g i.owed q) is h)

pub owes_nothing : IsSameInbound owes_no_answer
owes_nothing = record { number = λ i. refl; bytes = λ i. refl }

-- who asks on an inbound connection is the one that dialed it
abbrev pub asking : (u k v : ℕ) (its_nonce : Option ℕ) → Premise u
asking u k v its_nonce = where_read u (λ cs. ComesFrom u k v its_nonce cs) (λ cs ds g h. comes_grow (only u) u k v its_nonce cs ds g h)

-- an answer came to this node, and it is one for a connection that reaches who answers
abbrev pub answering : (u me : ℕ) (v : UniqueAddress) (for_uid its_nonce : Option ℕ) → Premise u
answering u me v for_uid its_nonce = where_known u (λ w. (me ≡ u) × IsAnswerFor v.uid for_uid its_nonce w.connections × IsNamed v w.outcomes)
    (λ w x l h. (h.0, answer_grow (only u) v.uid for_uid its_nonce w.connections x.connections l.conns h.1, named_more v w.outcomes x.outcomes l.told h.2))

-- an answer that came is one for a connection that reaches who answers
abbrev pub meeting : (u : ℕ) (v : UniqueAddress) (for_uid its_nonce : Option ℕ) → Premise u
meeting u v for_uid its_nonce = where_known u (λ w. IsAnswerFor v.uid for_uid its_nonce w.connections × IsNamed v w.outcomes)
    (λ w x l h. (answer_grow (only u) v.uid for_uid its_nonce w.connections x.connections l.conns h.0, named_more v w.outcomes x.outcomes l.told h.1))

-- the answer to one that dialed a connection is one for that
pub asked_answer : (u k : ℕ) (v : UniqueAddress) (its_nonce : Option ℕ) (w : Network) → Out w → ComesFrom u k v.uid its_nonce w.connections → IsAnswerFor u (answer_to v its_nonce).for_uid (answer_to v its_nonce).nonce w.connections
asked_answer u k v its_nonce w out o =
    let spot : Placed (is_inward u k) w.connections = one_placed (is_inward u k) _ w.connections o in
    let c : Conn = spot.element in
    let here : (v.uid ≡ c.dialer) × (its_nonce ≡ Some c.dial) = one_here (is_inward u k) _ w.connections o in
    let named : is_dialed v.uid c.dial c ≡ true = and_both (c.dialer == v.uid) (c.dial == c.dial) (ap (λ (x : ℕ). x == v.uid) (sym here.0) ∙ eq_self v.uid) (eq_self c.dial) in
    let some : 1 ≤ count (is_dialed v.uid c.dial) w.connections = count_here (is_dialed v.uid c.dial) w.connections spot.place c spot.here named in
    let all : count (is_pending v.uid c.dial) w.pending + count (is_dialed v.uid c.dial) w.connections ≤ 1 = out.once v.uid c.dial in
    let far : c.far ≡ u = eq_true c.far u (and_left (c.far == u) (c.number == k) spot.passes) in
    let r : Reaches v.uid c.dial u w.connections = record { made = (let e : count (is_dialed v.uid c.dial) w.connections ≡ 1 = omega arith in e); holds = single_each (is_dialed v.uid c.dial) (λ (x : Conn). x.far ≡ u) w.connections spot.place c (omega arith) spot.here named far } in
    let P : Option ℕ → Type 0 = λ (y : Option ℕ). IsAnswerFor u (answer_to v y).for_uid (answer_to v y).nonce w.connections in
    subst P (sym here.1) (record { uid = v.uid; nonce = c.dial; asked = refl; its = refl; reaches = r })

-- where the connection with the dial number speaks
module _ {u m x : ℕ} where
  pub says_here : (w : (d : Work u m) → Writing) (f : (d : Work u m) → is_frame (w d) ≡ true) → ((d : Work u m) → NodeFacts u d.node d.deeds → (cs : List Conn) (c : Conn) → is_dialed u x c ≡ true → IsTrue cs c (w d)) → ((d : Work u m) (os : List Outcome) (far : ℕ) → IsOwn os far (w d)) → Keeps u m (speaking u x) (λ d. writes_on (Some x) (w d) d)
  says_here w f t o = record {
    on = λ d h g. write_kept u m x d.node d.deeds (w d) g (λ live. may_say u x d.deeds.connections d.deeds.outcomes (w d) (f d) (t d (g.node live) d.deeds.connections) (λ r. each_own u x d.deeds.outcomes (w d) (o d d.deeds.outcomes) d.deeds.connections) (h live));
  }

  pub asks_on_keeps : (a : Address) → Keeps u m (speaking u x) (asks_on a x)
  asks_on_keeps a = says_here (λ d. Controls (controls.HandshakeReq d.node.me a (Some x))) (λ d. refl)
      (λ d h cs c t. record { from = h.me ∙ sym (dialer_of u x c t); nonce = ap Some (sym (eq_true c.dial x (and_right (c.dialer == u) (c.dial == x) t))) })
      (λ d os far. tt)

  -- the answer is one for a connection that reaches this node
  pub writes_answer_keeps : (answer : Option Answer) → Keeps u m (both u (speaking u x) (owing_one u answer)) (writes_answer x answer)
  writes_answer_keeps None = record { on = λ d h g. kept_self u d.node d.deeds g }
  writes_answer_keeps (Some answer) = record {
    on = λ d h g. write_kept u m x d.node d.deeds (Controls (response d.node.me answer)) g (λ live. may_say u x d.deeds.connections d.deeds.outcomes (Controls (response d.node.me answer)) refl
        (λ c t a. ((g.node live).me ∙ sym (dialer_of u x c t), subst (λ (f : ℕ). IsAnswerFor f answer.for_uid answer.nonce d.deeds.connections) (sym (g.node live).me) (h.1 live a))) (λ r. each_own u x d.deeds.outcomes (Controls (response d.node.me answer)) (λ far. (g.node live).named) d.deeds.connections) (h.0 live));
  }

  pub answers_owed_keep : (a : Address) (i : Inbound whole) (s : InState) → Keeps u m (both u (speaking u x) (owing_one u i.owed)) (answers_owed a x i s)
  answers_owed_keep a i Raw = stays_keep
  answers_owed_keep a i (Known who its_nonce) = where_keeps (same_address who.address a) _ (inbound_keep i.number owes_no_answer owes_nothing (λ w h e j t q. record { owed = λ b. tt; known = q.known }) ▹ writes_answer_keeps i.owed)

  pub all_answered : (a : Address) (is : List (Inbound whole)) → Keeps u m (both u (speaking u x) (owing_each u is)) (each is (λ i. answers_owed a x i i.state))
  all_answered a [] = stays_keep
  all_answered a (i ∷ is) =
      keeps_from _ (both u (speaking u x) (owing_one u i.owed)) _ (λ d h g. (h.0, λ e b. (h.1 e b).0)) (answers_owed_keep a i i.state)
      ▹ keeps_from _ (both u (speaking u x) (owing_each u is)) _ (λ d h g. (h.0, λ e b. (h.1 e b).1)) (all_answered a is)

  pub answers_all_keep : (a : Address) → Keeps u m (speaking u x) (answers_all a x)
  answers_all_keep a = record {
    on = λ d h g. (all_answered a d.node.inbound).on d (h, λ e b. each_weaker (InboundFacts u d.deeds.connections) _ (λ i q. q.owed b) d.node.inbound (g.node e).inbound) g;
  }

  pub answers_after_keep : (stream : Stream) (a : Address) → Keeps u m (speaking u x) (answers_after stream a x)
  answers_after_keep streams.Control a = answers_all_keep a
  answers_after_keep streams.Ordinary a = stays_keep

  pub asks_and_answers : (stream : Stream) (a : Address) → Keeps u m (speaking u x) (asks_on a x ▸ answers_after stream a x)
  asks_and_answers stream a = asks_on_keeps a ▹ answers_after_keep stream a

-- a dial is up, and nothing was written on its connection
pub dialed_kept : (u m x : ℕ) (d : Work u m) → (d.deeds.ended ≡ None → IsSilent u x d.deeds.connections) → Good u d.node d.deeds → Kept u d.node d.deeds (dialed x d).node (dialed x d).deeds
dialed_kept u m x d silent g = by (peer_dialed x d.node) refl
  where
    hangs : Keeps u m (speaking u x) (does (Hangs (Outward x)))
    hangs = quiet_keeps (Hangs (Outward x)) tt

    hung : Kept u d.node d.deeds (does (Hangs (Outward x)) d).node (does (Hangs (Outward x)) d).deeds
    hung = (quiet_keeps {u = u} {m = m} {p = always u} (Hangs (Outward x)) tt).on d tt g

    by : (p : Option (Peer whole)) → peer_dialed x d.node ≡ p → Kept u d.node d.deeds (dialed_of x p d).node (dialed_of x p d).deeds
    by None e = hung
    by (Some p) e = on_cond (λ (r : Rule whole (outward u m)). Kept u d.node d.deeds (r d).node (r d).deeds) (waits_for_dial (conn_of (stream_dialed x p) p)) (begins (stream_dialed x p) (address_of p) x) (does (Hangs (Outward x)))
        (λ t. (let b = begun_kept u m x p d e silent g in
        let d1 : Work u m = (peer_becomes (address_of p) (with_link (stream_dialed x p) (change_conn (conn_dialed d.node.moment))) ▸ does (Writes x (Begins (stream_dialed x p)))) d in
        let r : Rule whole (outward u m) = asks_on (address_of p) x ▸ answers_after (stream_dialed x p) (address_of p) x in
        kept_then u d.node d.deeds d1.deeds (r d1).deeds d1.node (r d1).node b.kept ((asks_and_answers (stream_dialed x p) (address_of p)).on d1 b.speaks b.kept.good)))
        (λ t. hung)

-- ---- answers that bind

pub bind_speaks : (u : ℕ) (cs : List Conn) (c : OutConn) (from uid : ℕ) (meant : Bool) → StateFacts u cs c.dial c.state → answer_in c.state from meant ≡ Bind uid → Speaks u c.dial cs
bind_speaks u cs c from uid meant h e = by c.state meant h e
  where
    by : (s : OutState) (meant : Bool) → StateFacts u cs c.dial s → answer_in s from meant ≡ Bind uid → Speaks u c.dial cs
    by Dialing meant k f = not_bind f
      where
        not_bind : {P : Type 0} → Stray ≡ Bind uid → P
        not_bind g = cc
    by (Asked begun last) meant k f = k
    by (Bound bound) meant k f = k.0

-- the dial number of the ordinary connection that was bound, where there is one
pub record BoundOrdinary (u : ℕ) (v : UniqueAddress) (n : Node whole) (cs : List Conn) : Type 0 where
  pub speaks : (x : ℕ) → dial_of (conn_of streams.Ordinary (peer_at v.address n)) ≡ Some x → Speaks u x cs

module _ {u m : ℕ} {p : Premise u} where
  pub stays_here : Keeps u m p stays
  stays_here = stays_keep

  pub tells_here : (line : UniqueAddress → Line) → ((me : UniqueAddress) → IsPlainLine (line me)) → Keeps u m p (tells_of line)
  tells_here line s = tells_keep line s

  pub hangs_here : (x : Option ℕ) → Keeps u m p (hangs_up x)
  hangs_here x = hangs_keep x

  pub origin_here : (v : UniqueAddress) (f : Origin whole → Origin whole) → Keeps u m p (origin_becomes v f)
  origin_here v f = origin_keep v f

  pub where_here : (b : Bool) (r : Rule whole (outward u m)) → Keeps u m p r → Keeps u m p (where_true b r)
  where_here b r k = where_keeps b r k

  pub loses_here : (stream : Stream) (a : Address) → Keeps u m p (loses stream a)
  loses_here stream a = loses_keeps stream a

  pub uses_here : (a : Address) → Keeps u m p (uses a)
  uses_here a = uses_keeps a

  pub lost_of_keeps : (x : ℕ) (q : Option (Peer whole)) → Keeps u m p (lost_of x q)
  lost_of_keeps x None = stays_here
  lost_of_keeps x (Some q) = loses_here (stream_dialed x q) (address_of q)

  pub lost_keeps : (x : ℕ) → Keeps u m p (lost x)
  lost_keeps x = record { on = λ d h g. (lost_of_keeps x (peer_dialed x d.node)).on d h g }

  pub gives_up_keeps : (stream : Stream) (a : Address) → Keeps u m p (gives_up stream a)
  gives_up_keeps stream a = record { on = λ d h g. (hangs_here (dial_of (conn_of stream (peer_at a d.node))) ▹ loses_here stream a).on d h g }

  -- ---- requests

  pub drops_keep : (k : ℕ) (rule : DropRule) → Keeps u m p (drops k rule)
  drops_keep k rule = tells_here (λ me. lines.Dropped me k rule) (λ me. (refl, refl, refl))

  pub makes_origin_keeps : (v : UniqueAddress) → Keeps u m p (makes_origin v)
  makes_origin_keeps v = record { on = λ d h g. (where_here (not (has_origin v d.node)) _ made).on d h g }
    where
      made : Keeps u m p (becomes (with_origin v))
      made = becomes_keep (with_origin v) (λ n. record { me = refl; dials = refl; peers = refl; inbound = refl })

  pub made_here : (a : Address) → Keeps u m p (makes_missing a)
  made_here a = makes_missing_keeps a

  pub drops_or_keeps : (k : ℕ) (rule : Option DropRule) (r : Rule whole (outward u m)) → Keeps u m p r → Keeps u m p (drops_or k rule r)
  drops_or_keeps k None r a = a
  drops_or_keeps k (Some rule) r a = drops_keep k rule

  -- ---- binding

  pub quiet_keep : (a : Address) (now : ℕ) → Keeps u m p (peer_becomes a (quiet_now now))
  quiet_keep a now = peer_keep a (quiet_now now) (record { incarnations = λ q. refl; out = λ q. refl; control = λ q. refl; ordinary = λ q. refl })

  pub control_here : (v : UniqueAddress) (n : ℕ) (me : UniqueAddress) → Keeps u m p (on_control v (controls.Ack n me))
  control_here v n me = on_control_keeps v (controls.Ack n me) tt

  pub owed_keeps : (v : UniqueAddress) → Keeps u m p (writes_owed_ack v)
  owed_keeps v = record { on = λ d h g. (where_here (origin_at v d.node).owes _ (origin_here v owes_no_ack ▹ control_here v (whole.last_taken v d.node.taken) d.node.me)).on d h g }

  pub dials_here : (stream : Stream) (a : Address) → Keeps u m p (dials stream a)
  dials_here stream a = dials_keep stream a

  pub ordinary_keeps : (a : Address) → Keeps u m p (dials_ordinary a)
  ordinary_keeps a = record { on = λ d h g. (where_here (not (is_some (conn_of streams.Ordinary (peer_at a d.node)))) _ (dials_here streams.Ordinary a)).on d h g }

  pub goes_on_keeps : (v : UniqueAddress) → Keeps u m p (goes_on v)
  goes_on_keeps v = record { on = λ d h g. (quiet_keep v.address d.node.moment ▹ owed_keeps v ▹ rewinds_keep v.address ▹ pumps_keep v.address ▹ ordinary_keeps v.address).on d h g }

module _ {u m : ℕ} where
  pub new_kept : (p : Premise u) (v : UniqueAddress) (former : Option ℕ) (d : Work u m) → p.holds d.deeds → Good u d.node d.deeds → learning v.uid (peer_at v.address d.node).incarnations ≡ Learnt former → Kept u d.node d.deeds (learns_new v former d).node (learns_new v former d).deeds
  new_kept p v former d h g e =
      let d1 : Work u m = closes_current v.address causes.Superseded former stays d in
      let r : Readied v d d1 = readied p v former d h g e (learns_former v.uid (peer_at v.address d.node).incarnations former e) in
      let learnt : Rule whole (outward u m) = peer_becomes v.address (with_learnt d.node.moment v.uid) ▸ tells_of (λ me. lines.Learnt me v) ▸ tells_waiting v.address v.uid in
      let d2 : Work u m = learnt d1 in
      let k2 : Kept u d1.node d1.deeds d2.node d2.deeds = learnt_kept d.node.moment v d1 r.ready r.kept.good in
      let k : Kept u d.node d.deeds d2.node d2.deeds = kept_then u d.node d.deeds d1.deeds d2.deeds d1.node d2.node r.kept k2 in
      kept_then u d.node d.deeds d2.deeds (goes_on v d2).deeds d2.node (goes_on v d2).node k ((goes_on_keeps {p = p} v).on d2 (p.stays d.deeds d2.deeds k.later h) k.good)

module _ {u m : ℕ} {p : Premise u} where
  pub learns_keep : (v : UniqueAddress) → Keeps u m p (learns v)
  learns_keep v = record { on = λ d h g. by d h g (learning v.uid (peer_at v.address d.node).incarnations) refl }
    where
      full : Keeps u m p (tells_of (λ me. lines.Refused me reasons.ClosedUids) ▸ gives_up streams.Control v.address)
      full = tells_here (λ me. lines.Refused me reasons.ClosedUids) (λ me. (refl, refl, refl)) ▹ gives_up_keeps streams.Control v.address

      barred : Keeps u m p (tells_of (λ me. lines.Barred me v))
      barred = tells_here (λ me. lines.Barred me v) (λ me. (refl, refl, refl))

      by : (d : Work u m) → p.holds d.deeds → Good u d.node d.deeds → (x : Learn) → learning v.uid (peer_at v.address d.node).incarnations ≡ x → Kept u d.node d.deeds (learns_as v x d).node (learns_as v x d).deeds
      by d h g WasClosed e = barred.on d h g
      by d h g ClosedFull e = full.on d h g
      by d h g Same e = (goes_on_keeps {p = p} v).on d h g
      by d h g (Learnt former) e = new_kept p v former d h g e

  pub strays_keep : (v : UniqueAddress) (its_nonce : Option ℕ) → Keeps u m p (strays v its_nonce)
  strays_keep v its_nonce = tells_here (λ me. lines.Stray me v its_nonce) (λ me. (refl, refl, refl))

  pub binds_control_keeps : (v : UniqueAddress) (its_nonce : Option ℕ) → Keeps u m p (binds streams.Control v its_nonce)
  binds_control_keeps v its_nonce = record { on = λ d h g. (uses_here {p = p} v.address ▹ learns_keep v).on d h g }
