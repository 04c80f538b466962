-- Small rules of a node whose deeds are done outside at once: each keeps the facts.
use Rattle.std.proofs.Common.{◌≡◌, ℕ, zero, suc, ◌≤◌, ◌<◌, Bool, true, false, ◌&&◌, cond, List, [], ◌∷◌, refl, sym, ◌∙◌, ap, subst, arith}
use Rattle.std.specs.Prelude.{Option, None, Some, ◌==◌, is_none}
use Rattle.std.specs.List.{find}
use Rattle.std.specs.Cmp.Rules.{comparing}
use Rattle.std.proofs.Common.{rules}
use Rattle.artery_base.specs.declared.address.Address.{Address}
use Rattle.artery_base.specs.declared.address.UniqueAddress.{UniqueAddress}
use Rattle.artery_frame.specs.declared.stream.Stream.{Stream}
use Rattle.artery_frame.specs.declared.stream.Stream.TheVariants as streams
use Rattle.artery_handshake.specs.declared.out_conn.OutConn.{OutConn}
use Rattle.artery_handshake.specs.declared.out_conn.OutState.{OutState}
use Rattle.artery_handshake.specs.declared.out_conn.OutState.TheVariants.{Dialing, Asked, Bound}
use Rattle.artery_handshake.specs.declared.out_conn.OnRsp.TheVariants.{Repeat, Stray}
use Rattle.artery_handshake.specs.declared.out_conn.OnTick.{OnTick}
use Rattle.artery_handshake.specs.declared.out_conn.OnTick.TheVariants.{Nothing, AskAgain, GiveUp}
use Rattle.artery_handshake.specs.Outgoing.{state_after_tick, answer_to_tick, conn_ticked, answer_in, is_meant, state_after_rsp, conn_answered}
use Rattle.artery_journal.specs.declared.line.Line.{Line}
use Rattle.artery_watch.specs.Watcher.{Kept as Watching}
use Rattle.artery_machine.specs.declared.input.Conn.TheVariants.{Outward}
use Rattle.artery_machine.specs.declared.link.Link.{Link}
use Rattle.artery_machine.specs.Lists.{or_else, change_first}
use Rattle.artery_machine.specs.Deeds.{Writing, Deed, Writes, Hangs, Tells}
use Rattle.artery_machine.specs.Parts.{whole}
use Rattle.artery_machine.specs.Ways.{Wrote}
use Rattle.artery_machine.specs.Connections.{is_dialed}
use Rattle.artery_machine.specs.Node.{Node, Peer, Inbound, Origin, is_peer, is_number, inbound_at, same_address, peer_at, new_peer, conn_of, link_of, with_link}
use Rattle.artery_machine.specs.Doing.{Doing, Rule, ◌▸◌, stays, where_true, does, becomes, tells_of, hangs_up, peer_becomes, inbound_becomes, origin_becomes, each, times}
use Rattle.artery_machine.specs.Making.{link_gone, link_lost}
use Rattle.artery_machine.specs.Handshaking.{change_conn}
use Rattle.artery_machine.specs.World.{going_on, does as does_outside}
use Rattle.artery_flight.specs.Flight.{is_frame}
use Rattle.artery_flight.proofs.Lists.{on_cond, not_both, eq_true, and_left, and_right, find_passes, Each, each_weaker, each_find, each_change, count, count_change}
use Rattle.artery_assoc.specs.Peer.{PeerState}
use Rattle.artery_delivery.specs.Outbound.{State}
use Rattle.artery_machine.specs.declared.world.Outcome.{Outcome}
use Rattle.artery_flight.proofs.Lines.{IsPlainLine, IsOwn, IsNamed}
use Rattle.artery_flight.proofs.Peers.{SentFacts, view, view_at, view_change}
use Rattle.artery_flight.proofs.Facts.{ConnNamed, Network, Conn, Grow, AllRead, read_before, Reaches, IsAnswerFor, InboundFacts, IsTrue, Out, IsBegun, Speaks, StateFacts, OutConnFacts, PeerFacts, NodeFacts, Later, later_self, later_trans, later_wider, speaks_grow, node_later}
use Rattle.artery_flight.proofs.Deeds.{outward, only, nobody, Changes, Quietly, IsQuietDeed, deed_quietly, IsNext, MayWrite, writes_changes}

pub address_is : (a b : Address) → same_address a b ≡ true → a ≡ b
address_is a b h = search (comparing, rules)

pub address_self : (a : Address) → same_address a a ≡ true
address_self a = search (comparing, rules)

-- ---- keeping

pub record Good (u : ℕ) (n : Node whole) (w : Network) : Type 0 where
  pub out : Out w
  pub node : w.ended ≡ None → NodeFacts u n w

abbrev pub bytes_in : Option (Inbound whole) → Option (List ℕ)
bytes_in None = None
bytes_in (Some i) = Some i.bytes

-- The bytes of an inbound connection, where there is one with this number.
abbrev pub bytes_at : ℕ → Node whole → Option (List ℕ)
bytes_at k n = bytes_in (inbound_at k n)

-- what was made of a good node and its outside is good, and later than that outside; and the bytes of inbound connections stay
pub record Kept (u : ℕ) (o : Node whole) (w : Network) (n : Node whole) (v : Network) : Type 0 where
  pub good : Good u n v
  pub later : Later (only u) w v
  pub bytes : (k : ℕ) → bytes_at k n ≡ bytes_at k o

-- what is true outside before a rule, and stays true
pub record Premise (u : ℕ) : Type 1 where
  pub holds : Network → Type 0
  pub stays : (w v : Network) → Later (only u) w v → holds w → holds v

abbrev pub Work : ℕ → ℕ → Type 0
Work u m = Doing whole (outward u m)

pub record Keeps (u m : ℕ) (p : Premise u) (r : Rule whole (outward u m)) : Type 0 where
  pub on : (d : Work u m) → p.holds d.deeds → Good u d.node d.deeds → Kept u d.node d.deeds (r d).node (r d).deeds

-- where nothing need be true
abbrev pub always : (u : ℕ) → Premise u
always u = record { holds = λ w. Unit {0}; stays = λ w v l h. tt }

-- where a connection has begun to speak
abbrev pub speaking : (u d : ℕ) → Premise u
speaking u d = record {
  holds = λ w. w.ended ≡ None → Speaks u d w.connections;
  stays = λ w v l h e. speaks_grow (only u) u d w.connections v.connections l.conns (h (l.going e));
}

-- what is true of the connections where all frames are read back
abbrev pub where_read : (u : ℕ) (Q : List Conn → Type 0) → ((cs ds : List Conn) → Grow (only u) cs ds → Q cs → Q ds) → Premise u
where_read u Q f = record {
  holds = λ w. w.ended ≡ None → AllRead w.connections → Q w.connections;
  stays = λ w v l h e a. f w.connections v.connections l.conns (h (l.going e) (read_before (only u) w.connections v.connections l.conns a));
}

-- what is true of the network where all frames are read back
abbrev pub where_known : (u : ℕ) (Q : Network → Type 0) → ((w v : Network) → Later (only u) w v → Q w → Q v) → Premise u
where_known u Q f = record {
  holds = λ w. w.ended ≡ None → AllRead w.connections → Q w;
  stays = λ w v l h e a. f w v l (h (l.going e) (read_before (only u) w.connections v.connections l.conns a));
}

-- two at once
abbrev pub both : (u : ℕ) → Premise u → Premise u → Premise u
both u p q = record { holds = λ w. p.holds w × q.holds w; stays = λ w v l h. (p.stays w v l h.0, q.stays w v l h.1) }

-- another premise that follows
pub keeps_from : {u m : ℕ} (p q : Premise u) (r : Rule whole (outward u m)) → ((d : Work u m) → p.holds d.deeds → Good u d.node d.deeds → q.holds d.deeds) → Keeps u m q r → Keeps u m p r
keeps_from p q r f k = record { on = λ d h g. k.on d (f d h g) g }

pub kept_then : (u : ℕ) (o : Node whole) (w v x : Network) (n k : Node whole) → Kept u o w n v → Kept u n v k x → Kept u o w k x
kept_then u o w v x n k a b = record { good = b.good; later = later_trans (only u) w v x a.later b.later; bytes = λ j. b.bytes j ∙ a.bytes j }

infixr 35 ◌▹◌
pub ◌▹◌ : {u m : ℕ} {p : Premise u} {r s : Rule whole (outward u m)} → Keeps u m p r → Keeps u m p s → Keeps u m p (r ▸ s)
◌▹◌ {u} {m} {p} {r} {s} a b = record {
  on = λ d h g. (let k : Kept u d.node d.deeds (r d).node (r d).deeds = a.on d h g in
      kept_then u d.node d.deeds (r d).deeds (s (r d)).deeds (r d).node (s (r d)).node k (b.on (r d) (p.stays d.deeds (r d).deeds k.later h) k.good));
}

pub kept_self : (u : ℕ) (n : Node whole) (w : Network) → Good u n w → Kept u n w n w
kept_self u n w g = record { good = g; later = later_self (only u) w; bytes = λ k. refl }

pub none_is : {X : Type 0} (o : Option X) → is_none o ≡ true → o ≡ None
none_is None h = refl
none_is (Some x) h = not_both h refl

pub none_not : {X P : Type 0} (o : Option X) → is_none o ≡ false → o ≡ None → P
none_not o h e = not_both (ap is_none e) h

-- ---- a node changes

-- a change of the node by itself
pub kept_node : (u : ℕ) (n k : Node whole) (w : Network) → Good u n w → ((j : ℕ) → bytes_at j k ≡ bytes_at j n) → (w.ended ≡ None → NodeFacts u n w → NodeFacts u k w) → Kept u n w k w
kept_node u n k w g s f = record { good = record { out = g.out; node = λ e. f e (g.node e) }; later = later_self (only u) w; bytes = s }

-- a change that leaves who the node is, its dials, its peers and its inbound connections
pub record IsPlain (n k : Node whole) : Type 0 where
  pub me : k.me ≡ n.me
  pub dials : k.dials ≡ n.dials
  pub peers : k.peers ≡ n.peers
  pub inbound : k.inbound ≡ n.inbound

pub plain_facts : (u : ℕ) (n k : Node whole) (w : Network) → IsPlain n k → NodeFacts u n w → NodeFacts u k w
plain_facts u n k w s h = record {
  me = ap (λ (v : UniqueAddress). v.uid) s.me ∙ h.me;
  fresh = λ d b. h.fresh d (let x : n.dials < d = subst (λ (y : ℕ). y < d) s.dials b in x);
  alone = λ a. subst (λ ps. count (is_peer a) ps ≤ 1) (sym s.peers) (h.alone a);
  peers = subst (λ ps. Each (PeerFacts u w.connections) ps) (sym s.peers) h.peers;
  inbound = subst (λ is. Each (InboundFacts u w.connections) is) (sym s.inbound) h.inbound;
  named = subst (λ (v : UniqueAddress). IsNamed v w.outcomes) (sym s.me) h.named;
  bound = λ a. subst (λ ps. Each (λ (p : Peer whole). ConnNamed w.outcomes p.incarnations.address p.control.conn) ps) (sym s.peers) (h.bound a);
  sent = λ a. subst (λ ps. SentFacts k.me w.outcomes (view (or_else (new_peer a) (find (is_peer a) ps)))) (sym s.peers) (subst (λ (v : UniqueAddress). SentFacts v w.outcomes (view_at a n)) (sym s.me) (h.sent a));
}

-- a peer changes
pub peers_facts : (u : ℕ) (n : Node whole) (w : Network) (a : Address) (g : Peer whole → Peer whole) → ((p : Peer whole) → (g p).incarnations.address ≡ p.incarnations.address)
    → ((p : Peer whole) → find (is_peer a) n.peers ≡ Some p → PeerFacts u w.connections p → PeerFacts u w.connections (g p))
    → (AllRead w.connections → (p : Peer whole) → find (is_peer a) n.peers ≡ Some p → ConnNamed w.outcomes p.incarnations.address p.control.conn → ConnNamed w.outcomes (g p).incarnations.address (g p).control.conn)
    → ((p : Peer whole) → find (is_peer a) n.peers ≡ Some p → SentFacts n.me w.outcomes (view p) → SentFacts n.me w.outcomes (view (g p))) → NodeFacts u n w → NodeFacts u (record n { peers = change_first (is_peer a) g n.peers }) w
peers_facts u n w a g at_same f bound sent h = record {
  me = h.me;
  fresh = h.fresh;
  alone = λ b. (let e : count (is_peer b) (change_first (is_peer a) g n.peers) ≡ count (is_peer b) n.peers = count_change (is_peer b) (is_peer a) g (λ p. ap (λ (x : Address). same_address x b) (at_same p)) n.peers in
      let k : count (is_peer b) n.peers ≤ 1 = h.alone b in omega arith);
  peers = each_change (PeerFacts u w.connections) (is_peer a) g n.peers f h.peers;
  inbound = h.inbound;
  named = h.named;
  bound = λ r. each_change (λ (p : Peer whole). ConnNamed w.outcomes p.incarnations.address p.control.conn) (is_peer a) g n.peers (bound r) (h.bound r);
  sent = λ x. view_change x a g at_same (SentFacts n.me w.outcomes) n.peers (h.sent x) (λ p e t k. sent p e k);
}

-- a change of an inbound connection that leaves its number and its bytes
pub record IsSameInbound (f : Inbound whole → Inbound whole) : Type 0 where
  pub number : (i : Inbound whole) → (f i).number ≡ i.number
  pub bytes : (i : Inbound whole) → (f i).bytes ≡ i.bytes

pub inbound_bytes : (k j : ℕ) (f : Inbound whole → Inbound whole) → IsSameInbound f → (is : List (Inbound whole)) → bytes_in (find (is_number j) (change_first (is_number k) f is)) ≡ bytes_in (find (is_number j) is)
inbound_bytes k j f s [] = refl
inbound_bytes k j f s (i ∷ is) = by (is_number k i) (is_number j i) refl (inbound_bytes k j f s is)
  where
    changed : List (Inbound whole)
    changed = change_first (is_number k) f is

    at_it : (b : Bool) → bytes_in (cond b (Some (f i)) (find (is_number j) is)) ≡ bytes_in (cond b (Some i) (find (is_number j) is))
    at_it true = ap Some (s.bytes i)
    at_it false = refl

    behind : (b : Bool) → bytes_in (find (is_number j) (change_first (is_number k) f is)) ≡ bytes_in (find (is_number j) is) → bytes_in (cond b (Some i) (find (is_number j) (change_first (is_number k) f is))) ≡ bytes_in (cond b (Some i) (find (is_number j) is))
    behind true r = refl
    behind false r = r

    by : (a b : Bool) → is_number j i ≡ b → bytes_in (find (is_number j) (change_first (is_number k) f is)) ≡ bytes_in (find (is_number j) is)
        → bytes_in (find (is_number j) (cond a (f i ∷ is) (i ∷ change_first (is_number k) f is))) ≡ bytes_in (cond b (Some i) (find (is_number j) is))
    by true b e r = ap (λ (c : Bool). bytes_in (cond c (Some (f i)) (find (is_number j) is))) (ap (λ (x : ℕ). x == j) (s.number i) ∙ e) ∙ at_it b
    by false b e r = ap (λ (c : Bool). bytes_in (cond c (Some i) (find (is_number j) (change_first (is_number k) f is)))) e ∙ behind b r

-- an inbound connection changes
pub inbound_facts : (u : ℕ) (n : Node whole) (w : Network) (k : ℕ) (f : Inbound whole → Inbound whole) → ((i : Inbound whole) → is_number k i ≡ true → InboundFacts u w.connections i → InboundFacts u w.connections (f i))
    → NodeFacts u n w → NodeFacts u (record n { inbound = change_first (is_number k) f n.inbound }) w
inbound_facts u n w k f g h = record {
  me = h.me;
  fresh = h.fresh;
  alone = h.alone;
  peers = h.peers;
  inbound = each_change (InboundFacts u w.connections) (is_number k) f n.inbound (λ i e q. g i (find_passes (is_number k) n.inbound i e) q) h.inbound;
  named = h.named;
  bound = h.bound;
  sent = h.sent;
}

-- a change of a peer that leaves what is known of its incarnations, the messages to it and its connections
pub record IsSamePeer (g : Peer whole → Peer whole) : Type 0 where
  pub incarnations : (p : Peer whole) → (g p).incarnations ≡ p.incarnations
  pub out : (p : Peer whole) → (g p).out ≡ p.out
  pub control : (p : Peer whole) → (g p).control ≡ p.control
  pub ordinary : (p : Peer whole) → (g p).ordinary ≡ p.ordinary

pub same_peer_facts : (u : ℕ) (cs : List Conn) (g : Peer whole → Peer whole) → IsSamePeer g → (p : Peer whole) → PeerFacts u cs p → PeerFacts u cs (g p)
same_peer_facts u cs g s p h = record {
  control = subst (λ (l : Link). OutConnFacts u cs l.conn) (sym (s.control p)) h.control;
  ordinary = subst (λ (l : Link). OutConnFacts u cs l.conn) (sym (s.ordinary p)) h.ordinary;
}

pub same_address_of : (g : Peer whole → Peer whole) → IsSamePeer g → (p : Peer whole) → (g p).incarnations.address ≡ p.incarnations.address
same_address_of g s p = ap (λ (x : PeerState). x.address) (s.incarnations p)

pub same_view : (g : Peer whole → Peer whole) → IsSamePeer g → (p : Peer whole) → view (g p) ≡ view p
same_view g s p = ap (λ (x : PeerState). record { incarnations = x; out = (g p).out }) (s.incarnations p) ∙ ap (λ (x : State). record { incarnations = p.incarnations; out = x }) (s.out p)

pub same_named : (os : List Outcome) (g : Peer whole → Peer whole) → IsSamePeer g → (p : Peer whole) → ConnNamed os p.incarnations.address p.control.conn → ConnNamed os (g p).incarnations.address (g p).control.conn
same_named os g s p h = subst (λ (l : Link). ConnNamed os (g p).incarnations.address l.conn) (sym (s.control p)) (subst (λ (a : Address). ConnNamed os a p.control.conn) (sym (same_address_of g s p)) h)

pub link_view : (stream : Stream) (f : Link → Link) (p : Peer whole) → view (with_link stream f p) ≡ view p
link_view streams.Control f p = refl
link_view streams.Ordinary f p = refl

pub link_named : (os : List Outcome) (stream : Stream) (f : Link → Link) (p : Peer whole) → (ConnNamed os p.incarnations.address p.control.conn → ConnNamed os p.incarnations.address (f p.control).conn)
    → ConnNamed os p.incarnations.address p.control.conn → ConnNamed os (with_link stream f p).incarnations.address (with_link stream f p).control.conn
link_named os streams.Control f p k h = k h
link_named os streams.Ordinary f p k h = h

-- the sent messages where a link changes
pub link_sent : (me : UniqueAddress) (os : List Outcome) (stream : Stream) (f : Link → Link) (p : Peer whole) → SentFacts me os (view p) → SentFacts me os (view (with_link stream f p))
link_sent me os stream f p h = subst (SentFacts me os) (sym (link_view stream f p)) h

pub link_at : (stream : Stream) (f : Link → Link) (p : Peer whole) → (with_link stream f p).incarnations.address ≡ p.incarnations.address
link_at streams.Control f p = refl
link_at streams.Ordinary f p = refl

-- a link of a peer changes
pub link_facts : (u : ℕ) (cs : List Conn) (stream : Stream) (f : Link → Link) (p : Peer whole) → (OutConnFacts u cs (conn_of stream p) → OutConnFacts u cs (f (link_of stream p)).conn) → PeerFacts u cs p → PeerFacts u cs (with_link stream f p)
link_facts u cs streams.Control f p k h = record { control = k h.control; ordinary = h.ordinary }
link_facts u cs streams.Ordinary f p k h = record { control = h.control; ordinary = k h.ordinary }

pub conn_facts_of : (u : ℕ) (cs : List Conn) (stream : Stream) (p : Peer whole) → PeerFacts u cs p → OutConnFacts u cs (conn_of stream p)
conn_facts_of u cs streams.Control p h = h.control
conn_facts_of u cs streams.Ordinary p h = h.ordinary

-- the peer that is read at an address
pub peer_facts_at : (u : ℕ) (n : Node whole) (w : Network) (a : Address) → NodeFacts u n w → PeerFacts u w.connections (peer_at a n)
peer_facts_at u n w a h = by (find (is_peer a) n.peers) refl
  where
    by : (x : Option (Peer whole)) → find (is_peer a) n.peers ≡ x → PeerFacts u w.connections (or_else (new_peer a) x)
    by None e = record { control = tt; ordinary = tt }
    by (Some p) e = each_find (PeerFacts u w.connections) (is_peer a) n.peers p h.peers e

-- a change of a connection keeps what is known of its state
pub changed_conn : (u : ℕ) (cs : List Conn) (g : OutConn → OutConn) → ((c : OutConn) → StateFacts u cs c.dial c.state → StateFacts u cs (g c).dial (g c).state) → (l : Link) → OutConnFacts u cs l.conn → OutConnFacts u cs (change_conn g l).conn
changed_conn u cs g f l h = by l.conn h
  where
    by : (x : Option OutConn) → OutConnFacts u cs x → OutConnFacts u cs (change_conn g (record l { conn = x })).conn
    by None k = tt
    by (Some c) k = f c k

pub ticked_facts : (u : ℕ) (cs : List Conn) (now : ℕ) (c : OutConn) → StateFacts u cs c.dial c.state → StateFacts u cs (conn_ticked now c).dial (conn_ticked now c).state
ticked_facts u cs now c h = by (answer_to_tick now c) c.state h
  where
    by : (x : OnTick) (s : OutState) → StateFacts u cs c.dial s → StateFacts u cs c.dial (state_after_tick x now s)
    by Nothing s k = k
    by AskAgain Dialing k = k
    by AskAgain (Asked begun last) k = k
    by AskAgain (Bound uid) k = k
    by GiveUp s k = k

-- an answer that is meant for a connection of this node is one for it
pub meant_reaches : (u : ℕ) (cs : List Conn) (me from dial : ℕ) (for_uid its_nonce : Option ℕ) → is_meant me dial for_uid its_nonce ≡ true → (me ≡ u) × IsAnswerFor from for_uid its_nonce cs → Reaches u dial from cs
meant_reaches u cs me from dial for_uid its_nonce e t =
    let both : ((t.1.uid == me) && (t.1.nonce == dial)) ≡ true = sym (ap (λ (x : Option ℕ). is_meant me dial x its_nonce) t.1.asked ∙ ap (λ (x : Option ℕ). is_meant me dial (Some t.1.uid) x) t.1.its) ∙ e in
    let a : t.1.uid ≡ u = eq_true t.1.uid me (and_left (t.1.uid == me) (t.1.nonce == dial) both) ∙ t.0 in
    let b : t.1.nonce ≡ dial = eq_true t.1.nonce dial (and_right (t.1.uid == me) (t.1.nonce == dial) both) in
    subst (λ (x : ℕ). Reaches u x from cs) b (subst (λ (x : ℕ). Reaches x t.1.nonce from cs) a t.1.reaches)

pub answered_facts : (u : ℕ) (cs : List Conn) (me from : ℕ) (for_uid its_nonce : Option ℕ) → (AllRead cs → (me ≡ u) × IsAnswerFor from for_uid its_nonce cs) → (c : OutConn) → StateFacts u cs c.dial c.state
    → StateFacts u cs (conn_answered me from for_uid its_nonce c).dial (conn_answered me from for_uid its_nonce c).state
answered_facts u cs me from for_uid its_nonce t c h = by c.state (is_meant me c.dial for_uid its_nonce) refl h
  where
    bound : (uid : ℕ) (b : Bool) → StateFacts u cs c.dial (Bound uid) → StateFacts u cs c.dial (state_after_rsp (cond b Repeat Stray) (Bound uid))
    bound uid true k = k
    bound uid false k = k

    by : (s : OutState) (meant : Bool) → is_meant me c.dial for_uid its_nonce ≡ meant → StateFacts u cs c.dial s → StateFacts u cs c.dial (state_after_rsp (answer_in s from meant) s)
    by Dialing meant e k = tt
    by (Asked begun last) true e k = (k, λ a. meant_reaches u cs me from c.dial for_uid its_nonce e (t a))
    by (Asked begun last) false e k = k
    by (Bound uid) meant e k = bound uid (meant && (uid == from)) k

-- ---- deeds

pub told_kept : (u m : ℕ) (n : Node whole) (w : Network) (deed : Deed) → Good u n w → (w.ended ≡ None → Changes u w (does_outside u m deed w)) → Kept u n w n (going_on (does_outside u m deed) w)
told_kept u m n w deed g f = on_cond (λ (v : Network). Kept u n w n v) (is_none w.ended) (does_outside u m deed w) w
    (λ t. (let e : w.ended ≡ None = none_is w.ended t in
    let c : Changes u w (does_outside u m deed w) = f e in
    record {
      good = record { out = c.out; node = λ k. node_later (only u) u n w (does_outside u m deed w) c.later.conns c.later.told (λ y. c.sent n.me y) c.pending (g.node e) };
      later = c.later;
      bytes = λ k. refl;
    }))
    (λ t. kept_self u n w g)

pub quiet_kept : (u m : ℕ) (n : Node whole) (w : Network) (deed : Deed) → IsQuietDeed deed → Good u n w → Kept u n w n (going_on (does_outside u m deed) w)
quiet_kept u m n w deed q g = told_kept u m n w deed g (λ e.
    let s : Quietly w (does_outside u m deed w) = deed_quietly u m deed w q in
    record { later = later_wider nobody (only u) (λ x k. absurd k) w (does_outside u m deed w) s.later; pending = λ d. s.later.pending u d (λ k. k); sent = λ x y. s.later.sent x y (λ k. k); out = s.out g.out })

-- what a node that speaks may write
pub may_say : (u d : ℕ) (cs : List Conn) (os : List Outcome) (x : Writing) → is_frame x ≡ true → ((c : Conn) → is_dialed u d c ≡ true → IsTrue cs c x) → (AllRead cs → Each (λ (c : Conn). is_dialed u d c ≡ true → IsOwn os c.far x) cs) → Speaks u d cs
    → MayWrite u d cs os x
may_say u d cs os x f t o s = record { next = each_weaker _ _ (λ c k i p. next c.way.all (k i p)) cs s.begun; said = all cs; own = o }
  where
    next : (ws : List Wrote) → IsBegun ws → IsNext ws x
    next [] b = absurd b
    next (y ∷ ys) b = f

    all : (ds : List Conn) → Each (λ (c : Conn). is_dialed u d c ≡ true → IsTrue cs c x) ds
    all [] = tt
    all (c ∷ ds) = (t c, all ds)

pub write_kept : (u m d : ℕ) (n : Node whole) (w : Network) (x : Writing) → Good u n w → (w.ended ≡ None → MayWrite u d w.connections w.outcomes x) → Kept u n w n (going_on (does_outside u m (Writes d x)) w)
write_kept u m d n w x g may = told_kept u m n w (Writes d x) g (λ e. writes_changes u m d x w g.out (may e))

-- ---- rules

module _ {u m : ℕ} {p : Premise u} where
  pub stays_keep : Keeps u m p stays
  stays_keep = record { on = λ d h g. kept_self u d.node d.deeds g }

  pub quiet_keeps : (deed : Deed) → IsQuietDeed deed → Keeps u m p (does deed)
  quiet_keeps deed q = record { on = λ d h g. quiet_kept u m d.node d.deeds deed q g }

  pub tells_keep : (line : UniqueAddress → Line) → ((me : UniqueAddress) → IsPlainLine (line me)) → Keeps u m p (tells_of line)
  tells_keep line s = record { on = λ d h g. quiet_kept u m d.node d.deeds (Tells (line d.node.me)) (s d.node.me) g }

  pub hangs_keep : (x : Option ℕ) → Keeps u m p (hangs_up x)
  hangs_keep None = stays_keep
  hangs_keep (Some d) = quiet_keeps (Hangs (Outward d)) tt

  pub becomes_keep : (g : Node whole → Node whole) → ((n : Node whole) → IsPlain n (g n)) → Keeps u m p (becomes g)
  becomes_keep f s = record { on = λ d h g. kept_node u d.node (f d.node) d.deeds g (λ j. ap (λ is. bytes_in (find (is_number j) is)) (s d.node).inbound) (λ e. plain_facts u d.node (f d.node) d.deeds (s d.node)) }

  pub watching_keep : (f : Watching → Watching) → Keeps u m p (becomes (λ n. record n { watching = f n.watching }))
  watching_keep f = becomes_keep _ (λ n. record { me = refl; dials = refl; peers = refl; inbound = refl })

  pub inbound_keep : (k : ℕ) (f : Inbound whole → Inbound whole) → IsSameInbound f
      → ((w : Network) → p.holds w → w.ended ≡ None → (i : Inbound whole) → is_number k i ≡ true → InboundFacts u w.connections i → InboundFacts u w.connections (f i)) → Keeps u m p (inbound_becomes k f)
  inbound_keep k f s t = record {
    on = λ d h g. kept_node u d.node _ d.deeds g (λ j. inbound_bytes k j f s d.node.inbound) (λ e. inbound_facts u d.node d.deeds k f (λ i b q. t d.deeds h e i b q));
  }

  pub origin_keep : (v : UniqueAddress) (f : Origin whole → Origin whole) → Keeps u m p (origin_becomes v f)
  origin_keep v f = becomes_keep _ (λ n. record { me = refl; dials = refl; peers = refl; inbound = refl })

  pub peer_keep : (a : Address) (f : Peer whole → Peer whole) → IsSamePeer f → Keeps u m p (peer_becomes a f)
  peer_keep a f s = record {
    on = λ d h g. kept_node u d.node _ d.deeds g (λ j. refl) (λ live. peers_facts u d.node d.deeds a f (same_address_of f s) (λ q e k. same_peer_facts u d.deeds.connections f s q k) (λ r q e k. same_named d.deeds.outcomes f s q k)
        (λ q e k. subst (SentFacts d.node.me d.deeds.outcomes) (sym (same_view f s q)) k));
  }

  pub link_keeps : (stream : Stream) (a : Address) (f : Link → Link) → ((w : Network) → p.holds w → w.ended ≡ None → (l : Link) → OutConnFacts u w.connections l.conn → OutConnFacts u w.connections (f l).conn)
      → ((w : Network) → p.holds w → w.ended ≡ None → AllRead w.connections → (l : Link) → ConnNamed w.outcomes a l.conn → ConnNamed w.outcomes a (f l).conn) → Keeps u m p (peer_becomes a (with_link stream f))
  link_keeps stream a f k b = record {
    on = λ d h g. kept_node u d.node _ d.deeds g (λ j. refl) (λ live. peers_facts u d.node d.deeds a (with_link stream f) (link_at stream f) (λ q e t. link_facts u d.deeds.connections stream f q (k d.deeds h live (link_of stream q)) t)
        (λ r q e t. link_named d.deeds.outcomes stream f q (λ x. (let same : q.incarnations.address ≡ a = address_is q.incarnations.address a (find_passes (is_peer a) d.node.peers q e) in
        let P : Address → Type 0 = λ (y : Address). ConnNamed d.deeds.outcomes y (f q.control).conn in
        subst P (sym same) (b d.deeds h live r q.control (subst (λ (y : Address). ConnNamed d.deeds.outcomes y q.control.conn) same x)))) t)
        (λ q e t. link_sent d.node.me d.deeds.outcomes stream f q t));
  }

  pub gone_keeps : (stream : Stream) (a : Address) → Keeps u m p (peer_becomes a (with_link stream link_gone))
  gone_keeps stream a = link_keeps stream a link_gone (λ w t e l h. tt) (λ w t e r l h. tt)

  pub lost_keeps : (stream : Stream) (a : Address) (now : ℕ) → Keeps u m p (peer_becomes a (with_link stream (link_lost now)))
  lost_keeps stream a now = link_keeps stream a (link_lost now) (λ w t e l h. tt) (λ w t e r l h. tt)

  pub if_keeps : (b : Bool) (r s : Rule whole (outward u m)) → Keeps u m p r → Keeps u m p s → Keeps u m p (cond b r s)
  if_keeps true r s x y = x
  if_keeps false r s x y = y

  pub where_keeps : (b : Bool) (r : Rule whole (outward u m)) → Keeps u m p r → Keeps u m p (where_true b r)
  where_keeps true r x = x
  where_keeps false r x = stays_keep

  pub each_keeps : {X : Type 0} (xs : List X) (r : X → Rule whole (outward u m)) → ((x : X) → Keeps u m p (r x)) → Keeps u m p (each xs r)
  each_keeps [] r a = stays_keep
  each_keeps (x ∷ xs) r a = a x ▹ each_keeps xs r a

  pub times_keep : (k : ℕ) (r : Rule whole (outward u m)) → Keeps u m p r → Keeps u m p (times k r)
  times_keep zero r a = stays_keep
  times_keep (suc k) r a = a ▹ times_keep k r a
