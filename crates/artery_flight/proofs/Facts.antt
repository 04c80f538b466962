-- What holds of the outside of the nodes and of a node in it, by name; and what stays true while one node acts.
use Rattle.std.proofs.Common.{◌≡◌, ℕ, ◌+◌, ◌≤◌, ◌<◌, true, List, [], ◌∷◌, ◌++◌, refl, sym, ◌∙◌, ap, subst, append-nil, append_assoc}
use Rattle.std.specs.Prelude.{Option, None, Some, ◌==◌}
use Rattle.artery_base.specs.Words.{IsPrefix}
use Rattle.artery_base.specs.declared.address.Address.{Address}
use Rattle.artery_control.specs.declared.control.Control.{Control}
use Rattle.artery_control.specs.declared.control.Control.TheVariants as controls
use Rattle.artery_handshake.specs.declared.out_conn.OutConn.{OutConn}
use Rattle.artery_handshake.specs.declared.out_conn.OutState.{OutState}
use Rattle.artery_handshake.specs.declared.out_conn.OutState.TheVariants.{Dialing, Asked, Bound}
use Rattle.artery_handshake.specs.declared.in_conn.InState.{InState}
use Rattle.artery_handshake.specs.declared.in_conn.InState.TheVariants.{Raw, Known}
use Rattle.artery_machine.specs.declared.link.Answer.{Answer}
use Rattle.artery_machine.specs.Deeds.{Writing, Begins, Controls, Sends}
use Rattle.artery_machine.specs.Parts.{whole}
use Rattle.artery_machine.specs.Ways.{Wrote}
use Rattle.artery_machine.specs.Connections.{is_dialed, is_inward}
use Rattle.artery_machine.specs.Node.{incarnation, Node, Peer, Inbound, is_peer}
use Rattle.artery_machine.specs.World.{is_pending}
use Rattle.artery_flight.specs.Flight.{IsInFlight, IsRequestOn}
use Rattle.artery_machine.specs.declared.world.Outcome.{Outcome}
use Rattle.artery_base.specs.declared.address.UniqueAddress.{UniqueAddress}
use Rattle.artery_base.specs.declared.message.SysMsg.{SysMsg}
use Rattle.artery_flight.proofs.Lines.{IsOwn, sent_in, numbered, lines_in, TookSent, IsNamed, name_in, named_more}
use Rattle.artery_flight.proofs.Peers.{SentFacts, view_at, sent_later}
use Rattle.artery_flight.proofs.Lists.{eq_true, and_left, Each, each_weaker, count}
pub use Rattle.artery_flight.proofs.Grow.{Network, Conn, is_far, Grows, Grow, grows_self, grow_self, grows_trans, grow_trans, grow_wider, grow_set, grow_map, grow_count, grow_each, dialed_same, inward_same, far_same, Stay, stay_self, stay_trans, stay_set, stay_map, AllRead, read_before, read_front, TheOne, Reaches, reaches_grow, ComesFrom, comes_grow, IsAnswerFor, answer_grow}

-- ---- the outside

-- A control message that was written on a connection is true.
abbrev pub IsTrueControl : List Conn → Conn → Control → Type 0
IsTrueControl cs c (controls.HandshakeReq from to its_nonce) = IsRequestOn c from its_nonce
IsTrueControl cs c (controls.HandshakeRsp from for_uid its_nonce) = AllRead cs → (from.uid ≡ c.dialer) × IsAnswerFor from.uid for_uid its_nonce cs
IsTrueControl cs c _ = Unit {0}

-- What was written on a connection is true.
abbrev pub IsTrue : List Conn → Conn → Writing → Type 0
IsTrue cs c (Begins stream) = Unit {0}
IsTrue cs c (Controls control) = IsTrueControl cs c control
IsTrue cs c (Sends envelope) = Unit {0}

pub record ConnFacts (cs : List Conn) (c : Conn) : Type 0 where
  pub flies : IsInFlight c
  pub said : Each (λ (x : Wrote). IsTrue cs c x.writing) c.way.all

-- What was written on connections is what was told: the messages that were sent are numbered from 1 on, and those that were taken were sent before.
pub record LineFacts (cs : List Conn) (os : List Outcome) : Type 0 where
  pub own : AllRead cs → Each (λ (c : Conn). Each (λ (x : Wrote). IsOwn os c.far x.writing) c.way.all) cs
  pub sent : (a b : UniqueAddress) → (ms : List SysMsg) × (sent_in a b os ≡ numbered 1 ms)
  pub took : AllRead cs → TookSent (lines_in os)

pub record Out (w : Network) : Type 0 where
  pub conns : Each (ConnFacts w.connections) w.connections
  pub once : (u d : ℕ) → count (is_pending u d) w.pending + count (is_dialed u d) w.connections ≤ 1
  pub single : (f k : ℕ) → count (is_inward f k) w.connections ≤ 1
  pub numbered : Each (λ (c : Conn). c.number ≤ count (is_far c.far) w.connections) w.connections
  pub told : LineFacts w.connections w.outcomes

-- ---- a node

-- Something was written.
abbrev pub IsBegun : List Wrote → Type 0
IsBegun [] = ⊥
IsBegun (x ∷ xs) = Unit {0}

-- There is a connection with this dialer and dial number, and something was written on it, unless its near side has ended.
pub record Speaks (u d : ℕ) (cs : List Conn) : Type 0 where
  pub made : count (is_dialed u d) cs ≡ 1
  pub begun : Each (λ (c : Conn). is_dialed u d c ≡ true → c.near_open ≡ true → IsBegun c.way.all) cs

-- There is a connection with this dialer and dial number, and nothing was written on it.
pub record IsSilent (u d : ℕ) (cs : List Conn) : Type 0 where
  pub made : count (is_dialed u d) cs ≡ 1
  pub nothing : Each (λ (c : Conn). is_dialed u d c ≡ true → c.way.all ≡ []) cs

abbrev pub StateFacts : ℕ → List Conn → ℕ → OutState → Type 0
StateFacts u cs d Dialing = Unit {0}
StateFacts u cs d (Asked begun last) = Speaks u d cs
StateFacts u cs d (Bound uid) = Speaks u d cs × (AllRead cs → Reaches u d uid cs)

abbrev pub OutConnFacts : ℕ → List Conn → Option OutConn → Type 0
OutConnFacts u cs None = Unit {0}
OutConnFacts u cs (Some c) = StateFacts u cs c.dial c.state

pub record PeerFacts (u : ℕ) (cs : List Conn) (p : Peer whole) : Type 0 where
  pub control : OutConnFacts u cs p.control.conn
  pub ordinary : OutConnFacts u cs p.ordinary.conn

-- The answer that is owed is one for a connection that reaches the node.
abbrev pub OwedFacts : ℕ → List Conn → Option Answer → Type 0
OwedFacts u cs None = Unit {0}
OwedFacts u cs (Some answer) = IsAnswerFor u answer.for_uid answer.nonce cs

-- An inbound connection was dialed by the one that is known on it, with the nonce.
abbrev pub KnownFacts : ℕ → List Conn → ℕ → InState → Type 0
KnownFacts u cs k Raw = Unit {0}
KnownFacts u cs k (Known who its_nonce) = ComesFrom u k who.uid its_nonce cs

pub record InboundFacts (u : ℕ) (cs : List Conn) (i : Inbound whole) : Type 0 where
  pub owed : AllRead cs → OwedFacts u cs i.owed
  pub known : AllRead cs → KnownFacts u cs i.number i.state

-- The incarnation to which a connection of the peer at an address is bound bears its name.
abbrev pub ConnNamed : List Outcome → Address → Option OutConn → Type 0
ConnNamed os a None = Unit {0}
ConnNamed os a (Some c) = (uid : ℕ) → c.state ≡ Bound uid → IsNamed (incarnation a uid) os

-- A dial number was not given yet.
pub record IsFresh (u d : ℕ) (w : Network) : Type 0 where
  pub pending : count (is_pending u d) w.pending ≡ 0
  pub made : count (is_dialed u d) w.connections ≡ 0

pub record NodeFacts (u : ℕ) (n : Node whole) (w : Network) : Type 0 where
  pub me : n.me.uid ≡ u
  pub fresh : (d : ℕ) → n.dials < d → IsFresh u d w
  pub alone : (a : Address) → count (is_peer a) n.peers ≤ 1
  pub peers : Each (PeerFacts u w.connections) n.peers
  pub inbound : Each (InboundFacts u w.connections) n.inbound
  pub named : IsNamed n.me w.outcomes
  pub bound : AllRead w.connections → Each (λ (p : Peer whole). ConnNamed w.outcomes p.incarnations.address p.control.conn) n.peers
  pub sent : (a : Address) → SentFacts n.me w.outcomes (view_at a n)

begun_more : (xs ys : List Wrote) → IsPrefix xs ys → IsBegun xs → IsBegun ys
begun_more [] ys p h = absurd h
begun_more (x ∷ xs) [] p h = not_cons p.1
  where
    not_cons : {P : Type 0} {z : Wrote} {zs : List Wrote} → z ∷ zs ≡ [] → P
    not_cons e = cc
begun_more (x ∷ xs) (y ∷ ys) p h = tt

pub speaks_grow : (W : ℕ → Type 0) (u x : ℕ) (cs ds : List Conn) → Grow W cs ds → Speaks u x cs → Speaks u x ds
speaks_grow W u x cs ds g s = record {
  made = grow_count W (is_dialed u x) (dialed_same W u x) cs ds g ∙ s.made;
  begun = grow_each W _ _ (λ c d k h t o. begun_more c.way.all d.way.all k.more (h (sym (dialed_same W u x c d k) ∙ t) (k.near o))) cs ds g s.begun;
}

pub dialer_of : (u x : ℕ) (c : Conn) → is_dialed u x c ≡ true → c.dialer ≡ u
dialer_of u x c h = eq_true c.dialer u (and_left (c.dialer == u) (c.dial == x) h)

pub silent_grow : (W : ℕ → Type 0) (u x : ℕ) (cs ds : List Conn) → (W u → ⊥) → Grow W cs ds → IsSilent u x cs → IsSilent u x ds
silent_grow W u x cs ds n g s = record {
  made = grow_count W (is_dialed u x) (dialed_same W u x) cs ds g ∙ s.made;
  nothing = grow_each W _ _ (λ c d k h t.
      (let was : is_dialed u x c ≡ true = sym (dialed_same W u x c d k) ∙ t in
      k.others (λ o. n (subst W (dialer_of u x c was) o)) ∙ h was)) cs ds g s.nothing;
}

-- ---- from a network to a later one, by those of whom that holds

pub record Later (W : ℕ → Type 0) (w v : Network) : Type 0 where
  pub conns : Grow W w.connections v.connections
  pub still : Stay w.connections v.connections
  pub told : IsPrefix w.outcomes v.outcomes
  pub sent : (x y : UniqueAddress) → (W x.uid → ⊥) → sent_in x y v.outcomes ≡ sent_in x y w.outcomes
  pub unnamed : (x : ℕ) → name_in x w.outcomes ≡ None → name_in x v.outcomes ≡ None
  pub pending : (x d : ℕ) → (W x → ⊥) → count (is_pending x d) v.pending ≡ count (is_pending x d) w.pending
  pub going : v.ended ≡ None → w.ended ≡ None

pub later_self : (W : ℕ → Type 0) (w : Network) → Later W w w
later_self W w = record { conns = grow_self W w.connections; still = stay_self w.connections; told = ([], append-nil w.outcomes); sent = λ x y n. refl; unnamed = λ x n. n; pending = λ x d n. refl; going = λ h. h }

pub later_trans : (W : ℕ → Type 0) (a b c : Network) → Later W a b → Later W b c → Later W a c
later_trans W a b c f g = record {
  conns = grow_trans W a.connections b.connections c.connections f.conns g.conns;
  still = stay_trans a.connections b.connections c.connections f.still g.still;
  told = (f.told.0 ++ g.told.0, sym (append_assoc a.outcomes f.told.0 g.told.0) ∙ ap (λ l. l ++ g.told.0) f.told.1 ∙ g.told.1);
  sent = λ x y n. g.sent x y n ∙ f.sent x y n;
  unnamed = λ x n. g.unnamed x (f.unnamed x n);
  pending = λ x d n. g.pending x d n ∙ f.pending x d n;
  going = λ h. f.going (g.going h);
}

pub later_wider : (W V : ℕ → Type 0) → ((x : ℕ) → W x → V x) → (a b : Network) → Later W a b → Later V a b
later_wider W V i a b f = record { conns = grow_wider W V i a.connections b.connections f.conns; still = f.still; told = f.told; sent = λ x y n. f.sent x y (λ k. n (i x.uid k)); unnamed = f.unnamed; pending = λ x d n. f.pending x d (λ k. n (i x k)); going = f.going }

-- ---- what is true stays true

control_true_later : (W : ℕ → Type 0) (cs ds : List Conn) → Grow W cs ds → (c d : Conn) → Grows W c d → (m : Control) → IsTrueControl cs c m → IsTrueControl ds d m
control_true_later W cs ds g c d k (controls.HandshakeReq from to its_nonce) h = record { from = h.from ∙ sym k.dialer; nonce = h.nonce ∙ ap Some (sym k.dial) }
control_true_later W cs ds g c d k (controls.HandshakeRsp from for_uid its_nonce) h = λ a. (let t = h (read_before W cs ds g a) in (t.0 ∙ sym k.dialer, answer_grow W from.uid for_uid its_nonce cs ds g t.1))
control_true_later W cs ds g c d k (controls.Quarantined from to) h = h
control_true_later W cs ds g c d k (controls.Terminating from) h = h
control_true_later W cs ds g c d k (controls.TerminatingAck from) h = h
control_true_later W cs ds g c d k (controls.RefsTable from origin_uid version keys values sequence) h = h
control_true_later W cs ds g c d k (controls.RefsAck from version sequence) h = h
control_true_later W cs ds g c d k (controls.ManifestsTable from origin_uid version keys values sequence) h = h
control_true_later W cs ds g c d k (controls.ManifestsAck from version sequence) h = h
control_true_later W cs ds g c d k (controls.Numbered n message reply_to) h = h
control_true_later W cs ds g c d k (controls.Ack n from) h = h
control_true_later W cs ds g c d k (controls.Nack n from) h = h
control_true_later W cs ds g c d k controls.Heartbeat h = h
control_true_later W cs ds g c d k (controls.HeartbeatRsp uid) h = h

pub true_later : (W : ℕ → Type 0) (cs ds : List Conn) → Grow W cs ds → (c d : Conn) → Grows W c d → (x : Writing) → IsTrue cs c x → IsTrue ds d x
true_later W cs ds g c d k (Begins stream) h = h
true_later W cs ds g c d k (Controls control) h = control_true_later W cs ds g c d k control h
true_later W cs ds g c d k (Sends envelope) h = h

pub conn_facts_later : (W : ℕ → Type 0) (cs ds : List Conn) → Grow W cs ds → (c : Conn) → ConnFacts cs c → ConnFacts ds c
conn_facts_later W cs ds g c h = record { flies = h.flies; said = each_weaker _ _ (λ x t. true_later W cs ds g c c (grows_self W c) x.writing t) c.way.all h.said }

out_conn_later : (W : ℕ → Type 0) (u : ℕ) (cs ds : List Conn) → Grow W cs ds → (c : Option OutConn) → OutConnFacts u cs c → OutConnFacts u ds c
out_conn_later W u cs ds g None h = tt
out_conn_later W u cs ds g (Some c) h = by c.state h
  where
    by : (s : OutState) → StateFacts u cs c.dial s → StateFacts u ds c.dial s
    by Dialing k = tt
    by (Asked begun last) k = speaks_grow W u c.dial cs ds g k
    by (Bound uid) k = (speaks_grow W u c.dial cs ds g k.0, λ a. reaches_grow W u c.dial uid cs ds g (k.1 (read_before W cs ds g a)))

pub peer_later : (W : ℕ → Type 0) (u : ℕ) (cs ds : List Conn) → Grow W cs ds → (p : Peer whole) → PeerFacts u cs p → PeerFacts u ds p
peer_later W u cs ds g p h = record { control = out_conn_later W u cs ds g p.control.conn h.control; ordinary = out_conn_later W u cs ds g p.ordinary.conn h.ordinary }

pub owed_later : (W : ℕ → Type 0) (u : ℕ) (cs ds : List Conn) → Grow W cs ds → (o : Option Answer) → OwedFacts u cs o → OwedFacts u ds o
owed_later W u cs ds g None h = tt
owed_later W u cs ds g (Some answer) h = answer_grow W u answer.for_uid answer.nonce cs ds g h

known_later : (W : ℕ → Type 0) (u : ℕ) (cs ds : List Conn) → Grow W cs ds → (k : ℕ) (s : InState) → KnownFacts u cs k s → KnownFacts u ds k s
known_later W u cs ds g k Raw h = tt
known_later W u cs ds g k (Known who its_nonce) h = comes_grow W u k who.uid its_nonce cs ds g h

pub inbound_later : (W : ℕ → Type 0) (u : ℕ) (cs ds : List Conn) → Grow W cs ds → (i : Inbound whole) → InboundFacts u cs i → InboundFacts u ds i
inbound_later W u cs ds g i h = record { owed = λ a. owed_later W u cs ds g i.owed (h.owed (read_before W cs ds g a)); known = λ a. known_later W u cs ds g i.number i.state (h.known (read_before W cs ds g a)) }

named_later : (os us : List Outcome) → IsPrefix os us → (a : Address) (c : Option OutConn) → ConnNamed os a c → ConnNamed us a c
named_later os us p a None h = tt
named_later os us p a (Some c) h = λ uid e. named_more (incarnation a uid) os us p (h uid e)

pub bound_later : (os us : List Outcome) → IsPrefix os us → (ps : List (Peer whole)) → Each (λ (p : Peer whole). ConnNamed os p.incarnations.address p.control.conn) ps → Each (λ (p : Peer whole). ConnNamed us p.incarnations.address p.control.conn) ps
bound_later os us p ps h = each_weaker _ _ (λ (q : Peer whole) k. named_later os us p q.incarnations.address q.control.conn k) ps h

-- the facts of a node, where it made no dial and told nothing as sent
pub node_later : (W : ℕ → Type 0) (u : ℕ) (n : Node whole) (w v : Network) → Grow W w.connections v.connections → IsPrefix w.outcomes v.outcomes → ((y : UniqueAddress) → sent_in n.me y v.outcomes ≡ sent_in n.me y w.outcomes)
    → ((d : ℕ) → count (is_pending u d) v.pending ≡ count (is_pending u d) w.pending) → NodeFacts u n w → NodeFacts u n v
node_later W u n w v l told sent same h = record {
  me = h.me;
  fresh = λ d b. (let f = h.fresh d b in record { pending = same d ∙ f.pending; made = grow_count W (is_dialed u d) (dialed_same W u d) w.connections v.connections l ∙ f.made });
  alone = h.alone;
  peers = each_weaker _ _ (λ p k. peer_later W u w.connections v.connections l p k) n.peers h.peers;
  inbound = each_weaker _ _ (λ i k. inbound_later W u w.connections v.connections l i k) n.inbound h.inbound;
  named = named_more n.me w.outcomes v.outcomes told h.named;
  bound = λ a. bound_later w.outcomes v.outcomes told n.peers (h.bound (read_before W w.connections v.connections l a));
  sent = λ a. sent_later n.me w.outcomes v.outcomes (view_at a n) (λ uid. sent (incarnation (view_at a n).incarnations.address uid)) (h.sent a);
}
