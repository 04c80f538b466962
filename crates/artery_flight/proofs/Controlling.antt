-- Control messages, dials and new peers: small rules that keep the facts.
use Rattle.std.proofs.Common.{◌≡◌, ℕ, ◌+◌, ◌≤◌, ◌<◌, Bool, true, false, ◌&&◌, cond, List, [], ◌∷◌, ◌++◌, refl, sym, ◌∙◌, ap, subst, arith}
use Rattle.std.specs.Prelude.{Option, None, Some, ◌==◌, ◌||◌, nat_lt, is_none}
use Rattle.std.specs.List.{find, list_any}
use Rattle.artery_base.specs.declared.address.Address.{Address}
use Rattle.artery_base.specs.declared.address.UniqueAddress.{UniqueAddress}
use Rattle.artery_control.specs.declared.control.Control.{Control}
use Rattle.artery_control.specs.declared.control.Control.TheVariants as controls
use Rattle.artery_frame.specs.declared.stream.Stream.{Stream}
use Rattle.artery_frame.specs.declared.stream.Stream.TheVariants as streams
use Rattle.artery_handshake.specs.declared.out_conn.OutConn.{OutConn}
use Rattle.artery_handshake.specs.declared.out_conn.OutState.{OutState}
use Rattle.artery_handshake.specs.declared.out_conn.OutState.TheVariants.{Dialing, Asked, Bound}
use Rattle.artery_machine.specs.Lists.{or_else, change_first}
use Rattle.artery_machine.specs.Deeds.{Writing, Controls}
use Rattle.artery_machine.specs.Parts.{whole}
use Rattle.artery_machine.specs.Connections.{is_dialed}
use Rattle.artery_machine.specs.Node.{incarnation, Node, Peer, is_peer, same_address, has_peer, peer_at, new_peer, conn_of, with_link, dial_to, bound_dial, dial_to_current, dial_asked, speaking_dial}
use Rattle.artery_machine.specs.Doing.{Rule, stays, writes_on}
use Rattle.artery_machine.specs.Making.{link_dialing, with_peer_at, dials_as, dials, last_dial}
use Rattle.artery_machine.specs.Closing.{control_dial, on_control}
use Rattle.artery_machine.specs.World.{is_pending, dials as dials_outside}
use Rattle.artery_flight.proofs.Lists.{by_test, on_cond, not_both, eq_true, eq_false, find_passes, some_same, not_some, Each, each_find, each_push, count, count_no, count_yes, count_none}
use Rattle.artery_machine.specs.declared.world.Outcome.{Outcome}
use Rattle.artery_flight.proofs.Lines.{IsOwn, IsNamed}
use Rattle.artery_flight.proofs.Peers.{SentFacts, view}
use Rattle.artery_flight.proofs.Facts.{ConnNamed, Network, Conn, AllRead, Reaches, IsTrueControl, Speaks, StateFacts, OutConnFacts, PeerFacts, NodeFacts, later_self}
use Rattle.artery_flight.proofs.Deeds.{outward, only, MayWrite, dials_later, dials_out}
use Rattle.artery_flight.proofs.Rules.{address_is, Good, Kept, Premise, Work, Keeps, kept_self, none_is, none_not, peers_facts, link_named, link_sent, link_at, link_facts, peer_facts_at, may_say, write_kept}

-- ---- control messages

-- A message that says nothing of the handshake, and has no number.
abbrev pub IsOther : Control → Type 0
IsOther (controls.HandshakeReq from to its_nonce) = ⊥
IsOther (controls.HandshakeRsp from for_uid its_nonce) = ⊥
IsOther (controls.Numbered n message reply_to) = ⊥
IsOther _ = Unit {0}

pub other_true : (cs : List Conn) (c : Conn) (x : Control) → IsOther x → IsTrueControl cs c x
other_true cs c (controls.HandshakeReq from to its_nonce) h = absurd h
other_true cs c (controls.HandshakeRsp from for_uid its_nonce) h = absurd h
other_true cs c (controls.Quarantined from to) h = tt
other_true cs c (controls.Terminating from) h = tt
other_true cs c (controls.TerminatingAck from) h = tt
other_true cs c (controls.RefsTable from origin_uid version keys values sequence) h = tt
other_true cs c (controls.RefsAck from version sequence) h = tt
other_true cs c (controls.ManifestsTable from origin_uid version keys values sequence) h = tt
other_true cs c (controls.ManifestsAck from version sequence) h = tt
other_true cs c (controls.Numbered n message reply_to) h = tt
other_true cs c (controls.Ack n from) h = tt
other_true cs c (controls.Nack n from) h = tt
other_true cs c controls.Heartbeat h = tt
other_true cs c (controls.HeartbeatRsp uid) h = tt

pub other_own : (os : List Outcome) (far : ℕ) (x : Control) → IsOther x → IsOwn os far (Controls x)
other_own os far (controls.HandshakeReq from to its_nonce) h = absurd h
other_own os far (controls.HandshakeRsp from for_uid its_nonce) h = absurd h
other_own os far (controls.Quarantined from to) h = tt
other_own os far (controls.Terminating from) h = tt
other_own os far (controls.TerminatingAck from) h = tt
other_own os far (controls.RefsTable from origin_uid version keys values sequence) h = tt
other_own os far (controls.RefsAck from version sequence) h = tt
other_own os far (controls.ManifestsTable from origin_uid version keys values sequence) h = tt
other_own os far (controls.ManifestsAck from version sequence) h = tt
other_own os far (controls.Numbered n message reply_to) h = absurd h
other_own os far (controls.Ack n from) h = tt
other_own os far (controls.Nack n from) h = tt
other_own os far controls.Heartbeat h = tt
other_own os far (controls.HeartbeatRsp uid) h = tt

-- what says the same of each connection
pub each_own : (u d : ℕ) (os : List Outcome) (x : Writing) → ((far : ℕ) → IsOwn os far x) → (cs : List Conn) → Each (λ (c : Conn). is_dialed u d c ≡ true → IsOwn os c.far x) cs
each_own u d os x f [] = tt
each_own u d os x f (c ∷ cs) = ((λ t. f c.far), each_own u d os x f cs)

-- the connection that is bound to a UID reaches that
pub bound_reaches : (u : ℕ) (cs : List Conn) (uid : ℕ) (c : Option OutConn) (x : ℕ) → OutConnFacts u cs c → dial_to uid c ≡ Some x → AllRead cs → Reaches u x uid cs
bound_reaches u cs uid None x h e a = not_some e
bound_reaches u cs uid (Some c) x h e a = by c.state h e
  where
    by : (s : OutState) → StateFacts u cs c.dial s → bound_dial uid c.dial s ≡ Some x → Reaches u x uid cs
    by Dialing k f = not_some f
    by (Asked begun last) k f = not_some f
    by (Bound bound) k f = at_test (bound == uid) refl f
      where
        at_test : (b : Bool) → (bound == uid) ≡ b → cond b (Some c.dial) None ≡ Some x → Reaches u x uid cs
        at_test true q g = subst (λ (y : ℕ). Reaches u y uid cs) (some_same g) (subst (λ (y : ℕ). Reaches u c.dial y cs) (eq_true bound uid q) (k.1 a))
        at_test false q g = not_some g

-- and that has a name
pub bound_named : (os : List Outcome) (a : Address) (uid : ℕ) (c : Option OutConn) (x : ℕ) → ConnNamed os a c → dial_to uid c ≡ Some x → IsNamed (incarnation a uid) os
bound_named os a uid None x h e = not_some e
bound_named os a uid (Some c) x h e = by c.state h e
  where
    by : (s : OutState) → ((y : ℕ) → s ≡ Bound y → IsNamed (incarnation a y) os) → bound_dial uid c.dial s ≡ Some x → IsNamed (incarnation a uid) os
    by Dialing k f = not_some f
    by (Asked begun last) k f = not_some f
    by (Bound bound) k f = at_test (bound == uid) refl f
      where
        at_test : (b : Bool) → (bound == uid) ≡ b → cond b (Some c.dial) None ≡ Some x → IsNamed (incarnation a uid) os
        at_test true q g = subst (λ (y : ℕ). IsNamed (incarnation a y) os) (eq_true bound uid q) (k bound refl)
        at_test false q g = not_some g

-- of the peer that is read at an address
pub named_at : (u : ℕ) (n : Node whole) (w : Network) (a : Address) → NodeFacts u n w → AllRead w.connections → ConnNamed w.outcomes a (peer_at a n).control.conn
named_at u n w a h r = by (find (is_peer a) n.peers) refl
  where
    by : (x : Option (Peer whole)) → find (is_peer a) n.peers ≡ x → ConnNamed w.outcomes a (or_else (new_peer a) x).control.conn
    by None e = tt
    by (Some p) e = subst (λ (y : Address). ConnNamed w.outcomes y p.control.conn) (address_is p.incarnations.address a (find_passes (is_peer a) n.peers p e)) (each_find (λ (q : Peer whole). ConnNamed w.outcomes q.incarnations.address q.control.conn) (is_peer a) n.peers p (h.bound r) e)

-- the connection that is bound to a UID speaks
pub bound_speaks : (u : ℕ) (cs : List Conn) (uid : ℕ) (c : Option OutConn) (x : ℕ) → OutConnFacts u cs c → dial_to uid c ≡ Some x → Speaks u x cs
bound_speaks u cs uid None x h e = not_some e
bound_speaks u cs uid (Some c) x h e = by c.state h e
  where
    by : (s : OutState) → StateFacts u cs c.dial s → bound_dial uid c.dial s ≡ Some x → Speaks u x cs
    by Dialing k f = not_some f
    by (Asked begun last) k f = not_some f
    by (Bound bound) k f = at_test (bound == uid) f
      where
        at_test : (b : Bool) → cond b (Some c.dial) None ≡ Some x → Speaks u x cs
        at_test true g = subst (λ (y : ℕ). Speaks u y cs) (some_same g) k.0
        at_test false g = not_some g

pub current_speaks : (u : ℕ) (cs : List Conn) (uid : Option ℕ) (c : Option OutConn) (x : ℕ) → OutConnFacts u cs c → dial_to_current uid c ≡ Some x → Speaks u x cs
current_speaks u cs None c x h e = not_some e
current_speaks u cs (Some uid) c x h e = bound_speaks u cs uid c x h e

pub asked_speaks : (u : ℕ) (cs : List Conn) (c : Option OutConn) (x : ℕ) → OutConnFacts u cs c → dial_asked c ≡ Some x → Speaks u x cs
asked_speaks u cs None x h e = not_some e
asked_speaks u cs (Some c) x h e = by c.state h e
  where
    by : (s : OutState) → StateFacts u cs c.dial s → speaking_dial c.dial s ≡ Some x → Speaks u x cs
    by Dialing k f = not_some f
    by (Asked begun last) k f = subst (λ (y : ℕ). Speaks u y cs) (some_same f) k
    by (Bound uid) k f = subst (λ (y : ℕ). Speaks u y cs) (some_same f) k.0

-- something is written on a connection that may be there
pub writes_on_kept : (u m : ℕ) (d : Work u m) (x : Option ℕ) (y : Writing) → Good u d.node d.deeds → ((i : ℕ) → x ≡ Some i → d.deeds.ended ≡ None → MayWrite u i d.deeds.connections d.deeds.outcomes y) → Kept u d.node d.deeds (writes_on x y d).node (writes_on x y d).deeds
writes_on_kept u m d None y g f = kept_self u d.node d.deeds g
writes_on_kept u m d (Some i) y g f = write_kept u m i d.node d.deeds y g (f i refl)

pub on_control_keeps : {u m : ℕ} {p : Premise u} (v : UniqueAddress) (x : Control) → IsOther x → Keeps u m p (on_control v x)
on_control_keeps {u} {m} v x o = record {
  on = λ d h g. writes_on_kept u m d (control_dial v d.node) (Controls x) g (λ i e live.
      may_say u i d.deeds.connections d.deeds.outcomes (Controls x) refl (λ c k. other_true d.deeds.connections c x o) (λ r. each_own u i d.deeds.outcomes (Controls x) (λ far. other_own d.deeds.outcomes far x o) d.deeds.connections)
      (bound_speaks u d.deeds.connections v.uid (conn_of streams.Control (peer_at v.address d.node)) i (peer_facts_at u d.node d.deeds v.address (g.node live)).control e));
}

-- ---- dials

pub dialed_facts : (u : ℕ) (stream : Stream) (a : Address) (n : Node whole) (w : Network) → NodeFacts u n w → NodeFacts u (record n { dials = n.dials + 1; peers = change_first (is_peer a) (with_link stream (link_dialing stream (n.dials + 1))) n.peers }) (dials_outside u (n.dials + 1) a w)
dialed_facts u stream a n w h =
    let x : ℕ = n.dials + 1 in
    let k : NodeFacts u (record n { peers = change_first (is_peer a) (with_link stream (link_dialing stream x)) n.peers }) w =
    peers_facts u n w a (with_link stream (link_dialing stream x)) (link_at stream (link_dialing stream x)) (λ q e t. link_facts u w.connections stream (link_dialing stream x) q (λ s. tt) t)
    (λ r q e t. link_named w.outcomes stream (link_dialing stream x) q (λ k uid j. not_dialing j) t) (λ q e t. link_sent n.me w.outcomes stream (link_dialing stream x) q t) h in
    record {
      me = k.me;
      fresh = λ d b. (let y : n.dials + 1 < d = b in
          let z : n.dials < d = omega arith in
          let f = h.fresh d z in
          record {
            pending = count_no (is_pending u d) w.pending (record { dialer = u; dial = x; address = a }) (ap (λ (c : Bool). (u == u) && c) (eq_false x d (λ i. (let j : n.dials + 1 ≡ d = i in omega arith))) ∙ and_false (u == u)) ∙ f.pending;
            made = f.made;
          });
      alone = k.alone;
      peers = k.peers;
      inbound = k.inbound;
      named = k.named;
      bound = k.bound;
      sent = k.sent;
    }
  where
    not_dialing : {P : Type 0} {uid : ℕ} → Dialing ≡ Bound uid → P
    not_dialing j = cc

    and_false : (b : Bool) → (b && false) ≡ false
    and_false true = refl
    and_false false = refl

pub dials_as_keeps : {u m : ℕ} (stream : Stream) (a : Address) (d : Work u m) → Good u d.node d.deeds → Kept u d.node d.deeds (dials_as stream a (d.node.dials + 1) d).node (dials_as stream a (d.node.dials + 1) d).deeds
dials_as_keeps {u} {m} stream a d g = on_cond (λ (v : Network). Kept u d.node w k v) (is_none w.ended) (dials_outside u x a w) w
    (λ t. (let e : w.ended ≡ None = none_is w.ended t in
    let f : NodeFacts u d.node w = g.node e in
    record {
      good = record { out = dials_out u x a w (f.fresh x (omega arith)) g.out; node = λ c. dialed_facts u stream a d.node w f };
      later = dials_later u x a w;
      bytes = λ j. refl;
    }))
    (λ t. record { good = record { out = g.out; node = λ e. none_not w.ended t e }; later = later_self (only u) w; bytes = λ j. refl })
  where
    w : Network
    w = d.deeds

    x : ℕ
    x = d.node.dials + 1

    k : Node whole
    k = record d.node { dials = x; peers = change_first (is_peer a) (with_link stream (link_dialing stream x)) d.node.peers }

module _ {u m : ℕ} {p : Premise u} where
  pub dials_keep : (stream : Stream) (a : Address) → Keeps u m p (dials stream a)
  dials_keep stream a = record {
    on = λ d h g. on_cond (λ (r : Rule whole (outward u m)). Kept u d.node d.deeds (r d).node (r d).deeds) (nat_lt d.node.dials last_dial) (dials_as stream a (d.node.dials + 1)) stays
        (λ t. dials_as_keeps stream a d g) (λ t. kept_self u d.node d.deeds g);
  }

-- ---- a peer is made

pub or_left : (a b : Bool) → (a || b) ≡ false → a ≡ false
or_left true b h = h
or_left false b h = refl

pub or_right : (a b : Bool) → (a || b) ≡ false → b ≡ false
or_right true b h = not_both refl h
or_right false b h = h

pub nobody_there : (a : Address) (ps : List (Peer whole)) → list_any (is_peer a) ps ≡ false → count (is_peer a) ps ≡ 0
nobody_there a ps h = count_none (is_peer a) ps (by ps h)
  where
    by : (qs : List (Peer whole)) → list_any (is_peer a) qs ≡ false → Each (λ q. is_peer a q ≡ false) qs
    by [] k = tt
    by (q ∷ qs) k = (or_left (is_peer a q) _ k, by qs (or_right (is_peer a q) _ k))

-- a new peer reads as what was read where there was none
pub made_view : (x a : Address) (ps : List (Peer whole)) → view (or_else (new_peer x) (find (is_peer x) (ps ++ new_peer a ∷ []))) ≡ view (or_else (new_peer x) (find (is_peer x) ps))
made_view x a [] = by (same_address a x) refl
  where
    by : (b : Bool) → same_address a x ≡ b → view (or_else (new_peer x) (cond b (Some (new_peer {P = whole} a)) None)) ≡ view (new_peer x)
    by true e = ap (λ (y : Address). view (new_peer y)) (address_is a x e)
    by false e = refl
made_view x a (p ∷ ps) = by (is_peer x p) (made_view x a ps)
  where
    by : (b : Bool) → view (or_else (new_peer x) (find (is_peer x) (ps ++ new_peer a ∷ []))) ≡ view (or_else (new_peer x) (find (is_peer x) ps))
        → view (or_else (new_peer x) (cond b (Some p) (find (is_peer x) (ps ++ new_peer a ∷ [])))) ≡ view (or_else (new_peer x) (cond b (Some p) (find (is_peer x) ps)))
    by true r = refl
    by false r = r

pub made_facts : (u : ℕ) (a : Address) (n : Node whole) (w : Network) → has_peer a n ≡ false → NodeFacts u n w → NodeFacts u (with_peer_at a n) w
made_facts u a n w none h = record {
  me = h.me;
  fresh = h.fresh;
  alone = λ b. by_test (same_address a b)
      (λ t. (let e : a ≡ b = address_is a b t in
      let k : count (is_peer b) n.peers ≡ 0 = nobody_there b n.peers (subst (λ (x : Address). list_any (is_peer x) n.peers ≡ false) e none) in
      let c : count (is_peer b) (n.peers ++ new_peer a ∷ []) ≡ count (is_peer b) n.peers + 1 = count_yes (is_peer b) n.peers (new_peer a) t in omega arith))
      (λ t. (let c : count (is_peer b) (n.peers ++ new_peer a ∷ []) ≡ count (is_peer b) n.peers = count_no (is_peer b) n.peers (new_peer a) t in
      let k : count (is_peer b) n.peers ≤ 1 = h.alone b in omega arith));
  peers = each_push (PeerFacts u w.connections) n.peers (new_peer a) h.peers (record { control = tt; ordinary = tt });
  inbound = h.inbound;
  named = h.named;
  bound = λ r. each_push (λ (p : Peer whole). ConnNamed w.outcomes p.incarnations.address p.control.conn) n.peers (new_peer a) (h.bound r) tt;
  sent = λ x. subst (SentFacts n.me w.outcomes) (sym (made_view x a n.peers)) (h.sent x);
}
