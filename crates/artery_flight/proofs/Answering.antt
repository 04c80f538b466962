-- Requests and answers of the handshake keep the facts.
use Rattle.std.proofs.Common.{◌≡◌, ℕ, Bool, true, false, cond, List, refl, sym, ◌∙◌, ap, subst}
use Rattle.std.specs.Prelude.{◌||◌, ◌&&◌, Option, Some, None}
use Rattle.std.specs.List.{find}
use Rattle.artery_base.specs.declared.address.Address.{Address}
use Rattle.artery_base.specs.declared.address.UniqueAddress.{UniqueAddress}
use Rattle.artery_frame.specs.declared.stream.Stream.{Stream}
use Rattle.artery_frame.specs.declared.stream.Stream.TheVariants as streams
use Rattle.artery_handshake.specs.declared.in_conn.InState.{InState}
use Rattle.artery_handshake.specs.declared.in_conn.InState.TheVariants.{Raw, Known}
use Rattle.artery_handshake.specs.declared.out_conn.OutConn.{OutConn}
use Rattle.artery_handshake.specs.declared.out_conn.OnRsp.{OnRsp}
use Rattle.artery_handshake.specs.declared.out_conn.OnRsp.TheVariants.{Bind, Repeat, Stray}
use Rattle.artery_handshake.specs.Incoming.{state_after_req}
use Rattle.artery_handshake.specs.Outgoing.{is_meant, conn_answered}
use Rattle.artery_machine.specs.declared.link.Link.{Link}
use Rattle.artery_machine.specs.Lists.{or_else, change_first}
use Rattle.artery_machine.specs.Parts.{whole}
use Rattle.artery_machine.specs.Node.{Node, Peer, Inbound, new_peer, is_peer, is_number, conn_of, with_link, peer_at, stream_dialed, dial_asked, dialed_as}
use Rattle.artery_machine.specs.Doing.{◌▸◌, peer_becomes, inbound_becomes}
use Rattle.artery_machine.specs.Closing.{dial_of}
use Rattle.artery_machine.specs.Handshaking.{answer_to, change_conn, answer_on, is_met, owes_no_answer, request_rule, known_as, owing, ordinary_dial, answer_at, writes_answer, gives_up, answers_on, answers, is_asked, requested, strays, binds_ordinary, binds, answered_as, takes_answer, answered_by, answered_to, strays_unless, then_ordinary, answered_plainly, answered}
use Rattle.artery_flight.proofs.Lists.{eq_true, some_same, not_some, find_change}
use Rattle.artery_flight.proofs.Facts.{Conn, ComesFrom, KnownFacts, Speaks, OutConnFacts, PeerFacts, NodeFacts}
use Rattle.artery_flight.proofs.Rules.{Good, Kept, Premise, Work, Keeps, always, speaking, both, kept_self, kept_then, ◌▹◌, changed_conn, answered_facts, peer_facts_at, stays_keep, inbound_keep, link_keeps}
use Rattle.artery_flight.proofs.Controlling.{asked_speaks}
use Rattle.artery_flight.proofs.Sending.{tells_held_keeps}
use Rattle.artery_flight.proofs.Handshaking.{answered_named, owing_one, owes_nothing, asking, answering, meeting, asked_answer, bind_speaks, BoundOrdinary, writes_answer_keeps, uses_here, gives_up_keeps, makes_origin_keeps, made_here, drops_or_keeps, strays_keep, binds_control_keeps}

-- where who asks dialed the connection
module _ {u m : ℕ} where
  pub answers_keep : (k : ℕ) (v : UniqueAddress) (its_nonce : Option ℕ) → Keeps u m (asking u k v.uid its_nonce) (answers k v its_nonce)
  answers_keep k v its_nonce = record { on = λ d h g. by d (λ e a. asked_answer u k v its_nonce d.deeds g.out (h e a)) g (dial_asked (conn_of streams.Control (peer_at v.address d.node))) refl }
    where
      owing_it : Keeps u m (owing_one u (Some (answer_to v its_nonce))) (inbound_becomes k (owing (answer_to v its_nonce)))
      owing_it = inbound_keep k (owing (answer_to v its_nonce)) (record { number = λ i. refl; bytes = λ i. refl }) (λ w h e i t q. record { owed = λ a. h e a; known = q.known })

      quiet_then : (x : ℕ) → Keeps u m (both u (speaking u x) (owing_one u (Some (answer_to v its_nonce)))) (inbound_becomes k owes_no_answer ▸ writes_answer x (Some (answer_to v its_nonce)))
      quiet_then x = inbound_keep k owes_no_answer owes_nothing (λ w h e i t q. record { owed = λ a. tt; known = q.known }) ▹ writes_answer_keeps (Some (answer_to v its_nonce))

      by : (d : Work u m) → (owing_one u (Some (answer_to v its_nonce))).holds d.deeds → Good u d.node d.deeds → (x : Option ℕ) → dial_asked (conn_of streams.Control (peer_at v.address d.node)) ≡ x → Kept u d.node d.deeds (answers_on k (answer_to v its_nonce) x d).node (answers_on k (answer_to v its_nonce) x d).deeds
      by d h g None e = owing_it.on d h g
      by d h g (Some x) e = (quiet_then x).on d
          ((λ live. asked_speaks u d.deeds.connections (conn_of streams.Control (peer_at v.address d.node)) x (peer_facts_at u d.node d.deeds v.address (g.node live)).control e), h) g

  pub known_here : (k : ℕ) (v : UniqueAddress) (its_nonce : Option ℕ) → Keeps u m (asking u k v.uid its_nonce) (inbound_becomes k (known_as v its_nonce))
  known_here k v its_nonce = inbound_keep k (known_as v its_nonce) (record { number = λ i. refl; bytes = λ i. refl }) (λ w h e i t q. record { owed = q.owed; known = λ a. after w.connections i t (h e a) i.state (q.known a) })
    where
      after : (cs : List Conn) (i : Inbound whole) → is_number k i ≡ true → ComesFrom u k v.uid its_nonce cs → (s : InState) → KnownFacts u cs i.number s → KnownFacts u cs i.number (state_after_req v its_nonce s)
      after cs i t c Raw q = subst (λ (x : ℕ). ComesFrom u x v.uid its_nonce cs) (sym (eq_true i.number k t)) c
      after cs i t c (Known who shown) q = q

  pub is_asked_keeps : (k : ℕ) (v : UniqueAddress) (its_nonce : Option ℕ) → Keeps u m (asking u k v.uid its_nonce) (is_asked k v its_nonce)
  is_asked_keeps k v its_nonce = made_here v.address ▹ uses_here v.address ▹ known_here k v its_nonce ▹ makes_origin_keeps v ▹ answers_keep k v its_nonce

pub requested_keeps : {u m : ℕ} (i : Inbound whole) (v : UniqueAddress) (to : Address) (its_nonce : Option ℕ) → Keeps u m (asking u i.number v.uid its_nonce) (requested i v to its_nonce)
requested_keeps {u} {m} i v to its_nonce = record { on = λ d h g. (drops_or_keeps i.number (request_rule d.node i v to its_nonce) _ (is_asked_keeps i.number v its_nonce)).on d h g }

module _ {u m : ℕ} where
  pub answered_bind : (stream : Stream) (v : UniqueAddress) (me : ℕ) (for its_nonce : Option ℕ) → Keeps u m (answering u me v for its_nonce) (peer_becomes v.address (with_link stream (change_conn (conn_answered me v.uid for its_nonce))))
  answered_bind stream v me for its_nonce = link_keeps stream v.address (change_conn (conn_answered me v.uid for its_nonce))
      (λ w h e l q. changed_conn u w.connections (conn_answered me v.uid for its_nonce) (answered_facts u w.connections me v.uid for its_nonce (λ b. ((h e b).0, (h e b).1))) l q)
      (λ w h e b l q. answered_named w.outcomes v.address me v.uid for its_nonce (h e b).2 l q)

  pub binds_bind : (me : ℕ) (v : UniqueAddress) (for its_nonce : Option ℕ) → Keeps u m (answering u me v for its_nonce) (binds streams.Control v its_nonce)
  binds_bind me v for its_nonce = binds_control_keeps v its_nonce

  -- the ordinary connection that was bound speaks
  pub binds_ordinary_kept : (v : UniqueAddress) (its_nonce : Option ℕ) (d : Work u m) → Good u d.node d.deeds → (d.deeds.ended ≡ None → BoundOrdinary u v d.node d.deeds.connections)
      → Kept u d.node d.deeds (binds streams.Ordinary v its_nonce d).node (binds streams.Ordinary v its_nonce d).deeds
  binds_ordinary_kept v its_nonce d g b = by (ordinary_dial v (peer_at v.address d.node)) refl
    where
      none : Keeps u m (always u) (strays v its_nonce ▸ gives_up streams.Ordinary v.address)
      none = strays_keep v its_nonce ▹ gives_up_keeps streams.Ordinary v.address

      is_dial : (c : Bool) (x : ℕ) (y : Option ℕ) → cond c y None ≡ Some x → y ≡ Some x
      is_dial true x y e = e
      is_dial false x y e = not_some e

      by : (x : Option ℕ) → ordinary_dial v (peer_at v.address d.node) ≡ x → Kept u d.node d.deeds (binds_ordinary v its_nonce x d).node (binds_ordinary v its_nonce x d).deeds
      by None e = none.on d tt g
      by (Some x) e = (tells_held_keeps {u = u} {m = m} {x = x} v.address).on d (λ live. (b live).speaks x (is_dial _ x _ e)) g

  -- an answer that binds a connection
  pub bound_kept : (stream : Stream) (v : UniqueAddress) (for its_nonce : Option ℕ) (uid : ℕ) (d : Work u m) → answer_at stream d.node v for its_nonce ≡ Bind uid → (answering u d.node.me.uid v for its_nonce).holds d.deeds → Good u d.node d.deeds
      → Kept u d.node d.deeds (answered_as stream v for its_nonce (Bind uid) d).node (answered_as stream v for its_nonce (Bind uid) d).deeds
  bound_kept streams.Control v for its_nonce uid d e h g = (answered_bind streams.Control v d.node.me.uid for its_nonce ▹ binds_bind d.node.me.uid v for its_nonce).on d h g
  bound_kept streams.Ordinary v for its_nonce uid d e h g =
      let c : Kept u d.node d.deeds (peer_becomes v.address (with_link streams.Ordinary f) d).node d.deeds = (answered_bind streams.Ordinary v d.node.me.uid for its_nonce).on d h g in
      let d1 : Work u m = peer_becomes v.address (with_link streams.Ordinary f) d in
      kept_then u d.node d.deeds d.deeds (binds streams.Ordinary v its_nonce d1).deeds d1.node (binds streams.Ordinary v its_nonce d1).node c
      (binds_ordinary_kept v its_nonce d1 c.good (λ live. bound (find (is_peer v.address) d.node.peers) refl e (g.node live)))
    where
      f : Link → Link
      f = change_conn (conn_answered d.node.me.uid v.uid for its_nonce)

      changed : Node whole
      changed = record d.node { peers = change_first (is_peer v.address) (with_link streams.Ordinary (change_conn (conn_answered d.node.me.uid v.uid for its_nonce))) d.node.peers }

      not_bind : {X : Type 0} {uid : ℕ} → Stray ≡ Bind uid → X
      not_bind k = cc

      at_conn : (q : Peer whole) (c : Option OutConn) → answer_on d.node.me.uid v for its_nonce c ≡ Bind uid → OutConnFacts u d.deeds.connections c
          → (x : ℕ) → dial_of (change_conn (conn_answered d.node.me.uid v.uid for its_nonce) (record q.ordinary { conn = c })).conn ≡ Some x → Speaks u x d.deeds.connections
      at_conn q None k t x i = not_bind k
      at_conn q (Some c) k t x i = subst (λ (y : ℕ). Speaks u y d.deeds.connections) (some_same i) (bind_speaks u d.deeds.connections c v.uid uid (is_meant d.node.me.uid c.dial for its_nonce) t k)

      bound : (q : Option (Peer whole)) → find (is_peer v.address) d.node.peers ≡ q → answer_on d.node.me.uid v for its_nonce (or_else (new_peer v.address) q).ordinary.conn ≡ Bind uid → NodeFacts u d.node d.deeds
          → BoundOrdinary u v changed d.deeds.connections
      bound None i k t = not_bind k
      bound (Some q) i k t = record {
        speaks = λ x j. (let facts : PeerFacts u d.deeds.connections q = subst (λ (o : Option (Peer whole)). PeerFacts u d.deeds.connections (or_else (new_peer v.address) o)) i (peer_facts_at u d.node d.deeds v.address t) in
            let now : find (is_peer v.address) changed.peers ≡ Some (with_link streams.Ordinary f q) = find_change (is_peer v.address) (with_link streams.Ordinary f) (λ y z. z) d.node.peers q i in
            at_conn q q.ordinary.conn k facts.ordinary x (sym (ap (λ (o : Option (Peer whole)). dial_of (or_else (new_peer v.address) o).ordinary.conn) now) ∙ j));
      }

-- where the answer is one for a connection that reaches who answers
module _ {u m : ℕ} where
  pub strays_met : {p : Premise u} (v : UniqueAddress) (its_nonce : Option ℕ) → Keeps u m p (strays v its_nonce)
  strays_met v its_nonce = strays_keep v its_nonce

  pub takes_keep : (stream : Stream) (v : UniqueAddress) (for its_nonce : Option ℕ) → Keeps u m (meeting u v for its_nonce) (takes_answer stream v for its_nonce)
  takes_keep stream v for its_nonce = record { on = λ d h g. by d h g (answer_at stream d.node v for its_nonce) refl }
    where
      by : (d : Work u m) → (meeting u v for its_nonce).holds d.deeds → Good u d.node d.deeds → (x : OnRsp) → answer_at stream d.node v for its_nonce ≡ x
          → Kept u d.node d.deeds (answered_as stream v for its_nonce x d).node (answered_as stream v for its_nonce x d).deeds
      by d h g (Bind uid) e = bound_kept stream v for its_nonce uid d e (λ live a. ((g.node live).me, (h live a).0, (h live a).1)) g
      by d h g Repeat e = kept_self u d.node d.deeds g
      by d h g Stray e = kept_self u d.node d.deeds g

  pub answered_by_keeps : (stream : Stream) (v : UniqueAddress) (for its_nonce : ℕ) (b : Bool) → Keeps u m (meeting u v (Some for) (Some its_nonce)) (answered_by stream v for its_nonce b)
  answered_by_keeps stream v for its_nonce true = takes_keep stream v (Some for) (Some its_nonce)
  answered_by_keeps stream v for its_nonce false = strays_met v (Some its_nonce)

  pub answered_to_keeps : (v : UniqueAddress) (for its_nonce : ℕ) → Keeps u m (meeting u v (Some for) (Some its_nonce)) (answered_to v for its_nonce)
  answered_to_keeps v for its_nonce = record {
    on = λ d h g. (answered_by_keeps (stream_dialed its_nonce (peer_at v.address d.node)) v for its_nonce
        (dialed_as its_nonce (peer_at v.address d.node) && is_met (answer_at (stream_dialed its_nonce (peer_at v.address d.node)) d.node v (Some for) (Some its_nonce)))).on d h g;
  }

  pub unless_keeps : {p : Premise u} (b : Bool) (v : UniqueAddress) → Keeps u m p (strays_unless b v)
  unless_keeps true v = stays_keep
  unless_keeps false v = strays_met v None

  pub then_keeps : (met : Bool) (v : UniqueAddress) (for its_nonce : Option ℕ) → Keeps u m (meeting u v for its_nonce) (then_ordinary met v for its_nonce)
  then_keeps met v for its_nonce = record { on = λ d h g. (takes_keep streams.Ordinary v for its_nonce ▹ unless_keeps (met || is_met (answer_at streams.Ordinary d.node v for its_nonce)) v).on d h g }

  pub plainly_keeps : (v : UniqueAddress) (for its_nonce : Option ℕ) → Keeps u m (meeting u v for its_nonce) (answered_plainly v for its_nonce)
  plainly_keeps v for its_nonce = record { on = λ d h g. (takes_keep streams.Control v for its_nonce ▹ then_keeps (is_met (answer_at streams.Control d.node v for its_nonce)) v for its_nonce).on d h g }

  pub answered_keeps : (v : UniqueAddress) (for its_nonce : Option ℕ) → Keeps u m (meeting u v for its_nonce) (answered v for its_nonce)
  answered_keeps v (Some for) (Some its_nonce) = answered_to_keeps v for its_nonce
  answered_keeps v (Some for) None = plainly_keeps v (Some for) None
  answered_keeps v None its_nonce = plainly_keeps v None its_nonce
