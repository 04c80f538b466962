-- A dial is answered: a connection is made, and told to both.
use Rattle.std.proofs.Common.{◌≡◌, ℕ, zero, suc, ◌+◌, ◌≤◌, ◌<◌, Bool, true, false, ◌&&◌, cond, List, [], ◌∷◌, ◌++◌, length, take, refl, sym, ◌∙◌, ap, subst, arith, append-nil}
use Rattle.std.specs.Prelude.{Option, None, Some, ◌==◌, nat_lt, is_none, position, remove, slice_get}
use Rattle.std.specs.List.{find}
use Rattle.std.proofs.lemmas.Bool.Decides.{nat_tests}
use Rattle.artery_control.specs.declared.control.Control.{Control}
use Rattle.artery_control.specs.declared.control.Control.TheVariants as controls
use Rattle.artery_handshake.specs.declared.out_conn.OutConn.{OutConn}
use Rattle.artery_handshake.specs.declared.out_conn.OutState.{OutState}
use Rattle.artery_handshake.specs.declared.out_conn.OutState.TheVariants.{Dialing, Asked, Bound}
use Rattle.artery_journal.specs.declared.line.Line.TheVariants as lines
use Rattle.artery_journal.specs.declared.words.Reason.TheVariants as reasons
use Rattle.artery_machine.specs.declared.input.Conn.TheVariants.{Inward}
use Rattle.artery_machine.specs.declared.input.Input.TheVariants as inputs
use Rattle.artery_machine.specs.declared.world.WorldLimit.TheVariants as limits
use Rattle.artery_machine.specs.Deeds.{Writing, Begins, Controls, Sends, Deed, Hangs}
use Rattle.artery_machine.specs.Parts.{whole}
use Rattle.artery_machine.specs.Ways.{Wrote, bytes_on, whole_ways}
use Rattle.artery_machine.specs.Connections.{connected, is_dialed, is_inward}
use Rattle.artery_handshake.specs.declared.in_conn.InState.{InState}
use Rattle.artery_handshake.specs.declared.in_conn.InState.TheVariants.{Raw, Known}
use Rattle.artery_machine.specs.declared.link.Answer.{Answer}
use Rattle.artery_machine.specs.Node.{Node, Peer, Inbound}
use Rattle.artery_machine.specs.Doing.{listed, Rule, ◌▸◌, becomes, tells_of, does as node_does}
use Rattle.artery_machine.specs.Reacting.{most_inbound, with_inbound, step}
use Rattle.artery_machine.specs.World.{Live, Pending, Change, ◌⟫◌, going_on, ends, each, times, has_uid, lives_at, is_pending, one_more, live_of, live_at, by_found, does, node_becomes, follows, gives, was_started, joins, connects, settled, settles, no_longer, by_pending_at, by_pending, fails, settles_first, settles_next, most_connections}
use Rattle.artery_flight.proofs.Lists.{by_test, on_cond, not_both, eq_true, eq_self, eq_false, eq_not, and_left, and_right, and_both, Each, each_weaker, each_find, each_push, each_single, count, count_yes, count_no, count_found, count_change, count_none, none_count, count_remove, find_passes}
use Rattle.artery_flight.proofs.Grow.{one_pushed, place_apart, answer_pushed}
use Rattle.artery_flight.proofs.Facts.{AllRead, read_front, stay_self, OwedFacts, KnownFacts, InboundFacts, Network, Conn, IsTrue, IsTrueControl, ConnFacts, is_far, Speaks, IsSilent, StateFacts, OutConnFacts, PeerFacts, IsFresh, NodeFacts, Grow, grow_self, grow_trans, silent_grow}
use Rattle.artery_flight.proofs.Deeds.{nobody, IsQuietDeed, deed_quietly}
use Rattle.artery_flight.proofs.Rules.{none_is, bytes_at}
use Rattle.artery_flight.proofs.Feeding.{nothing_left, IsHeard}
use Rattle.artery_flight.proofs.Networks.{LiveFacts, Unstarted, Going, Holds, holds_less}
use Rattle.artery_flight.proofs.Coming.{Came, gives_came}
use Rattle.artery_flight.proofs.Starting.{ends_holds, gives_holds}

-- ---- a dial is no longer pending

-- the name of a dial that is no longer pending and has no connection yet
pub record Offered (p : Pending) (w : Network) : Type 0 where
  pub fresh : IsFresh p.dialer p.dial w
  pub given : Each (λ (l : Live whole). has_uid p.dialer l ≡ true → p.dial ≤ l.node.dials) w.live
  pub started : was_started p.dialer w ≡ true

pub record Removed (p : Pending) (w : Network) : Type 0 where
  pub holds : Holds w
  pub offered : w.ended ≡ None → Offered p w

pub removed : (w : Network) (place : ℕ) (p : Pending) → slice_get w.pending place ≡ Some p → Holds w → Removed p (no_longer place w)
removed w place p e h = record {
  holds = holds_less w w1 (record {
    conns = grow_self nobody w.connections;
    still = stay_self w.connections;
    told = ([], append-nil w.outcomes);
    sent = λ x y. refl;
    unnamed = λ x n. n;
    lines = h.out.told;
    facts = h.out.conns;
    pending = λ u d. (let a : count (is_pending u d) w1.pending + cond (is_pending u d p) 1 0 ≡ count (is_pending u d) w.pending = count_remove (is_pending u d) w.pending place p e in omega arith);
    live = λ P k. k;
    uids = λ u. omega arith;
    started = refl;
    ended = λ k. k;
  }) h;
  offered = λ k. (let g : Going nothing_left w = h.going k in record {
    fresh = record {
      pending = (let a : count (is_pending p.dialer p.dial) w.pending + count (is_dialed p.dialer p.dial) w.connections ≤ 1 = h.out.once p.dialer p.dial in let b : count (is_pending p.dialer p.dial) w1.pending + 1 ≡ count (is_pending p.dialer p.dial) w.pending = less in omega arith);
      made = (let a : count (is_pending p.dialer p.dial) w.pending + count (is_dialed p.dialer p.dial) w.connections ≤ 1 = h.out.once p.dialer p.dial in let b : count (is_pending p.dialer p.dial) w1.pending + 1 ≡ count (is_pending p.dialer p.dial) w.pending = less in omega arith);
    };
    given = each_weaker (LiveFacts nothing_left w) _ (λ l f t. by_test (nat_lt l.node.dials p.dial)
        (λ s. (let x : l.node.dials < p.dial = below l.node.dials p.dial s in
        let y : IsFresh l.node.me.uid p.dial w = f.node.fresh p.dial x in
        let z : count (is_pending p.dialer p.dial) w.pending ≡ 0 = subst (λ (q : ℕ). count (is_pending q p.dial) w.pending ≡ 0) (eq_true l.node.me.uid p.dialer t) y.pending in
        let b : count (is_pending p.dialer p.dial) w1.pending + 1 ≡ count (is_pending p.dialer p.dial) w.pending = less in omega arith))
        (λ s. above l.node.dials p.dial s)) w.live g.live;
    started = by_test (was_started p.dialer w) (λ t. t)
        (λ t. (let y : IsFresh p.dialer p.dial w = (g.unstarted p.dialer t).fresh p.dial in
        let z : count (is_pending p.dialer p.dial) w.pending ≡ 0 = y.pending in
        let b : count (is_pending p.dialer p.dial) w1.pending + 1 ≡ count (is_pending p.dialer p.dial) w.pending = less in absurd (let c : ⊥ = omega arith in c)));
  });
}
  where
    w1 : Network
    w1 = no_longer place w

    less : count (is_pending p.dialer p.dial) (no_longer place w).pending + 1 ≡ count (is_pending p.dialer p.dial) w.pending
    less =
        ap (λ (b : Bool). count (is_pending p.dialer p.dial) (no_longer place w).pending + cond b 1 0) (sym (and_both (p.dialer == p.dialer) (p.dial == p.dial) (eq_self p.dialer) (eq_self p.dial)))
        ∙ count_remove (is_pending p.dialer p.dial) w.pending place p e

    below : (a b : ℕ) → nat_lt a b ≡ true → a < b
    below a b t = grind (arith, nat_tests)

    above : (a b : ℕ) → nat_lt a b ≡ false → b ≤ a
    above a b t = grind (arith, nat_tests)

-- ---- a connection is made

pub control_true_pushed : (cs : List Conn) (k c : Conn) → count (is_dialed k.dialer k.dial) cs ≡ 0 → (x : Control) → IsTrueControl cs c x → IsTrueControl (cs ++ k ∷ []) c x
control_true_pushed cs k c none (controls.HandshakeReq from to its_nonce) h = h
control_true_pushed cs k c none (controls.HandshakeRsp from for_uid its_nonce) h = λ a. (let t = h (read_front cs k a) in (t.0, answer_pushed from.uid for_uid its_nonce cs k none t.1))
control_true_pushed cs k c none (controls.Quarantined from to) h = h
control_true_pushed cs k c none (controls.Terminating from) h = h
control_true_pushed cs k c none (controls.TerminatingAck from) h = h
control_true_pushed cs k c none (controls.RefsTable from origin_uid version keys values sequence) h = h
control_true_pushed cs k c none (controls.RefsAck from version sequence) h = h
control_true_pushed cs k c none (controls.ManifestsTable from origin_uid version keys values sequence) h = h
control_true_pushed cs k c none (controls.ManifestsAck from version sequence) h = h
control_true_pushed cs k c none (controls.Numbered n message reply_to) h = h
control_true_pushed cs k c none (controls.Ack n from) h = h
control_true_pushed cs k c none (controls.Nack n from) h = h
control_true_pushed cs k c none controls.Heartbeat h = h
control_true_pushed cs k c none (controls.HeartbeatRsp uid) h = h

pub true_pushed : (cs : List Conn) (k c : Conn) → count (is_dialed k.dialer k.dial) cs ≡ 0 → (x : Writing) → IsTrue cs c x → IsTrue (cs ++ k ∷ []) c x
true_pushed cs k c none (Begins stream) h = h
true_pushed cs k c none (Controls control) h = control_true_pushed cs k c none control h
true_pushed cs k c none (Sends envelope) h = h

pub conn_facts_pushed : (cs : List Conn) (k c : Conn) → count (is_dialed k.dialer k.dial) cs ≡ 0 → ConnFacts cs c → ConnFacts (cs ++ k ∷ []) c
conn_facts_pushed cs k c none h = record { flies = h.flies; said = each_weaker _ _ (λ (x : Wrote) t. true_pushed cs k c none x.writing t) c.way.all h.said }

-- a connection with another name
pub speaks_pushed : (u x : ℕ) (cs : List Conn) (k : Conn) → is_dialed u x k ≡ false → Speaks u x cs → Speaks u x (cs ++ k ∷ [])
speaks_pushed u x cs k n s = record { made = count_no (is_dialed u x) cs k n ∙ s.made; begun = each_push _ cs k s.begun (λ t. not_both t n) }

-- a name of which there is a connection is not that of one that is new
pub apart_from : (u x : ℕ) (cs : List Conn) (k : Conn) → count (is_dialed k.dialer k.dial) cs ≡ 0 → Speaks u x cs → is_dialed u x k ≡ false
apart_from u x cs k none s = by_test (is_dialed u x k)
    (λ t. (let a : k.dialer ≡ u = eq_true k.dialer u (and_left (k.dialer == u) (k.dial == x) t) in
    let b : k.dial ≡ x = eq_true k.dial x (and_right (k.dialer == u) (k.dial == x) t) in
    let z : count (is_dialed u x) cs ≡ 0 = subst (λ (y : ℕ). count (is_dialed u y) cs ≡ 0) b (subst (λ (y : ℕ). count (is_dialed y k.dial) cs ≡ 0) a none) in
    let y : count (is_dialed u x) cs ≡ 1 = s.made in absurd (let c : ⊥ = omega arith in c)))
    (λ t. t)

pub out_conn_pushed : (u : ℕ) (cs : List Conn) (k : Conn) → count (is_dialed k.dialer k.dial) cs ≡ 0 → (c : Option OutConn) → OutConnFacts u cs c → OutConnFacts u (cs ++ k ∷ []) c
out_conn_pushed u cs k none None h = tt
out_conn_pushed u cs k none (Some c) h = by c.state h
  where
    by : (s : OutState) → StateFacts u cs c.dial s → StateFacts u (cs ++ k ∷ []) c.dial s
    by Dialing t = tt
    by (Asked begun last) t = speaks_pushed u c.dial cs k (apart_from u c.dial cs k none t) t
    by (Bound uid) t = (speaks_pushed u c.dial cs k (apart_from u c.dial cs k none t.0) t.0, λ a. one_pushed (is_dialed u c.dial) _ cs k (apart_from u c.dial cs k none t.0) (t.1 (read_front cs k a)))

pub peer_pushed : (u : ℕ) (cs : List Conn) (k : Conn) → count (is_dialed k.dialer k.dial) cs ≡ 0 → (q : Peer whole) → PeerFacts u cs q → PeerFacts u (cs ++ k ∷ []) q
peer_pushed u cs k none q h = record { control = out_conn_pushed u cs k none q.control.conn h.control; ordinary = out_conn_pushed u cs k none q.ordinary.conn h.ordinary }

pub owed_pushed : (u : ℕ) (cs : List Conn) (k : Conn) → count (is_dialed k.dialer k.dial) cs ≡ 0 → (o : Option Answer) → OwedFacts u cs o → OwedFacts u (cs ++ k ∷ []) o
owed_pushed u cs k none None h = tt
owed_pushed u cs k none (Some answer) h = answer_pushed u answer.for_uid answer.nonce cs k none h

pub known_pushed : (u : ℕ) (cs : List Conn) (k : Conn) → count (is_inward k.far k.number) cs ≡ 0 → (n : ℕ) (s : InState) → KnownFacts u cs n s → KnownFacts u (cs ++ k ∷ []) n s
known_pushed u cs k none n Raw h = tt
known_pushed u cs k none n (Known who its_nonce) h = one_pushed (is_inward u n) _ cs k (place_apart u n cs k none h.made) h

pub inbound_pushed : (u : ℕ) (cs : List Conn) (k : Conn) → count (is_dialed k.dialer k.dial) cs ≡ 0 → count (is_inward k.far k.number) cs ≡ 0 → (i : Inbound whole) → InboundFacts u cs i → InboundFacts u (cs ++ k ∷ []) i
inbound_pushed u cs k none free i h = record { owed = λ a. owed_pushed u cs k none i.owed (h.owed (read_front cs k a)); known = λ a. known_pushed u cs k free i.number i.state (h.known (read_front cs k a)) }

-- what follows where a connection is made
pub record Joined (p : Pending) (f n : ℕ) (w : Network) : Type 0 where
  pub holds : Holds w
  pub come : w.ended ≡ None → IsHeard f n [] [] w.connections
  pub silent : w.ended ≡ None → IsSilent p.dialer p.dial w.connections

pub joined : (p : Pending) (w : Network) (l : Live whole) (t : Live whole → Bool) → find t w.live ≡ Some l → w.ended ≡ None → Offered p w → Holds w → Joined p l.node.me.uid (l.accepted + 1) (joins p.dialer p.dial l.node.me.uid (l.accepted + 1) w)
joined p w l t found live o h = record {
  holds = record {
    out = record {
      conns = each_push (ConnFacts ds) cs k (each_weaker (ConnFacts cs) (ConnFacts ds) (λ c f. conn_facts_pushed cs k c o.fresh.made f) cs h.out.conns) (record { flies = record { written = tt; delivered = omega arith }; said = tt });
      once = λ u d. by_test (is_dialed u d k)
          (λ s. (let a : count (is_dialed u d) ds ≡ count (is_dialed u d) cs + 1 = count_yes (is_dialed u d) cs k s in
          let i : p.dialer ≡ u = eq_true p.dialer u (and_left (p.dialer == u) (p.dial == d) s) in
          let j : p.dial ≡ d = eq_true p.dial d (and_right (p.dialer == u) (p.dial == d) s) in
          let b : count (is_dialed u d) cs ≡ 0 = subst (λ (y : ℕ). count (is_dialed u y) cs ≡ 0) j (subst (λ (y : ℕ). count (is_dialed y p.dial) cs ≡ 0) i o.fresh.made) in
          let c : count (is_pending u d) w.pending ≡ 0 = subst (λ (y : ℕ). count (is_pending u y) w.pending ≡ 0) j (subst (λ (y : ℕ). count (is_pending y p.dial) w.pending ≡ 0) i o.fresh.pending) in omega arith))
          (λ s. (let a : count (is_dialed u d) ds ≡ count (is_dialed u d) cs = count_no (is_dialed u d) cs k s in let b : count (is_pending u d) w.pending + count (is_dialed u d) cs ≤ 1 = h.out.once u d in omega arith));
      single = λ f n. by_test (is_inward f n k)
          (λ s. (let a : count (is_inward f n) ds ≡ count (is_inward f n) cs + 1 = count_yes (is_inward f n) cs k s in
          let i : far ≡ f = eq_true far f (and_left (far == f) (number == n) s) in
          let j : number ≡ n = eq_true number n (and_right (far == f) (number == n) s) in
          let b : count (is_inward f n) cs ≡ 0 = subst (λ (y : ℕ). count (is_inward f y) cs ≡ 0) j (subst (λ (y : ℕ). count (is_inward y number) cs ≡ 0) i free) in omega arith))
          (λ s. (let a : count (is_inward f n) ds ≡ count (is_inward f n) cs = count_no (is_inward f n) cs k s in let b : count (is_inward f n) cs ≤ 1 = h.out.single f n in omega arith));
      numbered = each_push (λ (c : Conn). c.number ≤ count (is_far c.far) ds) cs k (each_weaker (λ (c : Conn). c.number ≤ count (is_far c.far) cs) (λ (c : Conn). c.number ≤ count (is_far c.far) ds) (λ c q. (let a : count (is_far c.far) cs ≤ count (is_far c.far) ds = more c.far in let b : c.number ≤ count (is_far c.far) cs = q in omega arith)) cs h.out.numbered)
          (let a : count (is_far far) ds ≡ count (is_far far) cs + 1 = count_yes (is_far far) cs k (eq_self far) in let v : number ≡ count (is_far far) cs + 1 = is_next in omega arith);
      told = record { own = λ a. each_push _ cs k (h.out.told.own (read_front cs k a)) tt; sent = h.out.told.sent; took = λ a. h.out.told.took (read_front cs k a) };
    };
    going = λ e. record {
      live = each_single (λ (x : Live whole). LiveFacts nothing_left w x × Given x) (LiveFacts nothing_left w1) (has_uid far) one_more w.live (g.alone far)
          (λ x i f. record {
            node = node_joined x f.0 f.1;
            accepted = (let a : count (is_far x.node.me.uid) ds ≡ count (is_far x.node.me.uid) cs + 1 = count_yes (is_far x.node.me.uid) cs k (ap (λ (y : ℕ). far == y) (eq_true x.node.me.uid far (find_passes (has_uid far) w.live x i)) ∙ eq_self far) in
                let b : x.accepted ≡ count (is_far x.node.me.uid) cs = f.0.accepted in omega arith);
            heard = heard_joined x f.0;
          })
          (λ x i f. record {
            node = node_joined x f.0 f.1;
            accepted = f.0.accepted ∙ sym (count_no (is_far x.node.me.uid) cs k (eq_false far x.node.me.uid (λ j. eq_not x.node.me.uid far i (sym j))));
            heard = heard_joined x f.0;
          }) (Each_and w.live g.live o.given);
      alone = λ u. (let a : count (has_uid u) w1.live ≡ count (has_uid u) w.live = count_change (has_uid u) (has_uid far) one_more (λ x. refl) w.live in let b : count (has_uid u) w.live ≤ 1 = g.alone u in omega arith);
      unstarted = λ u s. (let f : Unstarted u w = g.unstarted u s in record {
        fresh = λ d. record {
          pending = (f.fresh d).pending;
          made = count_no (is_dialed u d) cs k (ap (λ (b : Bool). b && (p.dial == d)) (eq_false p.dialer u (λ i. not_both (ap (λ (y : ℕ). was_started y w) (sym i) ∙ o.started) s))) ∙ (f.fresh d).made;
        };
        far = count_no (is_far u) cs k (eq_false far u (λ i. (let c : 1 ≤ count (has_uid u) w.live = count_found (has_uid u) t w.live l found (ap (λ (y : ℕ). y == u) i ∙ eq_self u) in let z : count (has_uid u) w.live ≡ 0 = f.live in omega arith))) ∙ f.far;
        live = count_change (has_uid u) (has_uid far) one_more (λ x. refl) w.live ∙ f.live;
        unnamed = f.unnamed;
        silent = f.silent;
      });
    };
  };
  come = λ e. record {
    made = (let a : count (is_inward far number) ds ≡ count (is_inward far number) cs + 1 = count_yes (is_inward far number) cs k (and_both (far == far) (number == number) (eq_self far) (eq_self number)) in let b : count (is_inward far number) cs ≡ 0 = free in omega arith);
    holds = each_push Nothing_came cs k (each_weaker (λ (c : Conn). is_inward far number c ≡ false) Nothing_came (λ c q r. not_both r q) cs (none_count (is_inward far number) cs free)) (λ r. refl);
  };
  silent = λ e. record {
    made = (let a : count (is_dialed p.dialer p.dial) ds ≡ count (is_dialed p.dialer p.dial) cs + 1 = count_yes (is_dialed p.dialer p.dial) cs k (and_both (p.dialer == p.dialer) (p.dial == p.dial) (eq_self p.dialer) (eq_self p.dial)) in let b : count (is_dialed p.dialer p.dial) cs ≡ 0 = o.fresh.made in omega arith);
    nothing = each_push Nothing_on cs k (each_weaker (λ (c : Conn). is_dialed p.dialer p.dial c ≡ false) Nothing_on (λ c q r. not_both r q) cs (none_count (is_dialed p.dialer p.dial) cs o.fresh.made)) (λ r. refl);
  };
}
  where
    far : ℕ
    far = l.node.me.uid

    number : ℕ
    number = l.accepted + 1

    k : Conn
    k = connected p.dialer p.dial l.node.me.uid (l.accepted + 1)

    cs : List Conn
    cs = w.connections

    ds : List Conn
    ds = w.connections ++ connected p.dialer p.dial l.node.me.uid (l.accepted + 1) ∷ []

    w1 : Network
    w1 = joins p.dialer p.dial l.node.me.uid (l.accepted + 1) w

    g : Going nothing_left w
    g = h.going live

    is_next : l.accepted + 1 ≡ count (is_far l.node.me.uid) w.connections + 1
    is_next = ap (λ (n : ℕ). n + 1) (each_find (LiveFacts nothing_left w) t w.live l (h.going live).live found).accepted

    free : count (is_inward l.node.me.uid (l.accepted + 1)) w.connections ≡ 0
    free = count_none (is_inward l.node.me.uid (l.accepted + 1)) w.connections (each_weaker (λ (c : Conn). c.number ≤ count (is_far c.far) w.connections) (λ (c : Conn). is_inward l.node.me.uid (l.accepted + 1) c ≡ false)
        (λ c q. by_test (is_inward l.node.me.uid (l.accepted + 1) c)
        (λ s. (let x : c.far ≡ l.node.me.uid = eq_true c.far l.node.me.uid (and_left (c.far == l.node.me.uid) (c.number == l.accepted + 1) s) in
        let y : c.number ≡ l.accepted + 1 = eq_true c.number (l.accepted + 1) (and_right (c.far == l.node.me.uid) (c.number == l.accepted + 1) s) in
        let z : c.number ≤ count (is_far l.node.me.uid) w.connections = subst (λ (v : ℕ). c.number ≤ count (is_far v) w.connections) x q in
        let v : l.accepted + 1 ≡ count (is_far l.node.me.uid) w.connections + 1 = is_next in absurd (let e : ⊥ = omega arith in e)))
        (λ s. s)) w.connections h.out.numbered)

    Nothing_came : Conn → Type 0
    Nothing_came c = is_inward l.node.me.uid (l.accepted + 1) c ≡ true → [] ++ [] ≡ take c.way.delivered (bytes_on c.way)

    more : (u : ℕ) → count (is_far u) w.connections ≤ count (is_far u) (w.connections ++ connected p.dialer p.dial l.node.me.uid (l.accepted + 1) ∷ [])
    more u = by_test (is_far u (connected {W = whole_ways} p.dialer p.dial l.node.me.uid (l.accepted + 1)))
        (λ s. (let a : count (is_far u) (w.connections ++ connected p.dialer p.dial l.node.me.uid (l.accepted + 1) ∷ []) ≡ count (is_far u) w.connections + 1 = count_yes (is_far u) w.connections _ s in omega arith))
        (λ s. (let a : count (is_far u) (w.connections ++ connected p.dialer p.dial l.node.me.uid (l.accepted + 1) ∷ []) ≡ count (is_far u) w.connections = count_no (is_far u) w.connections _ s in omega arith))

    Nothing_on : Conn → Type 0
    Nothing_on c = is_dialed p.dialer p.dial c ≡ true → c.way.all ≡ []

    Given : Live whole → Type 0
    Given x = has_uid p.dialer x ≡ true → p.dial ≤ x.node.dials

    Each_and : (ls : List (Live whole)) → Each (LiveFacts nothing_left w) ls → Each (λ (x : Live whole). has_uid p.dialer x ≡ true → p.dial ≤ x.node.dials) ls → Each (λ (x : Live whole). LiveFacts nothing_left w x × (has_uid p.dialer x ≡ true → p.dial ≤ x.node.dials)) ls
    Each_and [] a b = tt
    Each_and (x ∷ ls) a b = ((a.0, b.0), Each_and ls a.1 b.1)

    heard_joined : (x : Live whole) → LiveFacts nothing_left w x → AllRead (w.connections ++ connected p.dialer p.dial l.node.me.uid (l.accepted + 1) ∷ []) → (j : ℕ) (bytes : List ℕ) → bytes_at j x.node ≡ Some bytes
        → IsHeard x.node.me.uid j bytes [] (w.connections ++ connected p.dialer p.dial l.node.me.uid (l.accepted + 1) ∷ [])
    heard_joined x f a j bytes b =
        let old : IsHeard x.node.me.uid j bytes [] w.connections = f.heard (read_front w.connections (connected p.dialer p.dial l.node.me.uid (l.accepted + 1)) a) j bytes b in
        one_pushed (is_inward x.node.me.uid j) _ w.connections (connected p.dialer p.dial l.node.me.uid (l.accepted + 1)) (place_apart x.node.me.uid j w.connections (connected p.dialer p.dial l.node.me.uid (l.accepted + 1)) free old.made) old

    node_joined : (x : Live whole) → LiveFacts nothing_left w x → (has_uid p.dialer x ≡ true → p.dial ≤ x.node.dials) → NodeFacts x.node.me.uid x.node (joins p.dialer p.dial l.node.me.uid (l.accepted + 1) w)
    node_joined x f given = record {
      me = f.node.me;
      fresh = λ d b. (let y : IsFresh x.node.me.uid d w = f.node.fresh d b in
          let c : x.node.dials < d = b in
          record {
            pending = y.pending;
            made = count_no (is_dialed x.node.me.uid d) w.connections (connected p.dialer p.dial l.node.me.uid (l.accepted + 1)) (by_test ((p.dialer == x.node.me.uid) && (p.dial == d))
                (λ t. (let i : p.dialer ≡ x.node.me.uid = eq_true p.dialer x.node.me.uid (and_left (p.dialer == x.node.me.uid) (p.dial == d) t) in
                let j : p.dial ≡ d = eq_true p.dial d (and_right (p.dialer == x.node.me.uid) (p.dial == d) t) in
                let q : p.dial ≤ x.node.dials = given (ap (λ (z : ℕ). x.node.me.uid == z) i ∙ eq_self x.node.me.uid) in absurd (let z : ⊥ = omega arith in z)))
                (λ t. t)) ∙ y.made;
          });
      alone = f.node.alone;
      peers = each_weaker _ _ (λ q h. peer_pushed x.node.me.uid w.connections (connected p.dialer p.dial l.node.me.uid (l.accepted + 1)) o.fresh.made q h) x.node.peers f.node.peers;
      inbound = each_weaker _ _ (λ q h. inbound_pushed x.node.me.uid w.connections (connected p.dialer p.dial l.node.me.uid (l.accepted + 1)) o.fresh.made free q h) x.node.inbound f.node.inbound;
      named = f.node.named;
      bound = λ r. f.node.bound (read_front w.connections (connected p.dialer p.dial l.node.me.uid (l.accepted + 1)) r);
      sent = f.node.sent;
    }

-- ---- a connection is told to both

pub quiet_later : (u m : ℕ) (deeds : List Deed) (w : Network) → Each IsQuietDeed deeds → Grow nobody w.connections (each deeds (does u m) w).connections
quiet_later u m [] w q = grow_self nobody w.connections
quiet_later u m (x ∷ deeds) w q =
    grow_trans nobody w.connections (going_on (does u m x) w).connections (each deeds (does u m) (going_on (does u m x) w)).connections
    (on_cond (λ (v : Network). Grow nobody w.connections v.connections) (is_none w.ended) (does u m x w) w (λ t. (deed_quietly u m x w q.0).later.conns) (λ t. grow_self nobody w.connections))
    (quiet_later u m deeds (going_on (does u m x) w) q.1)

pub accepts_quietly : (k : ℕ) (n : Node whole) → Each IsQuietDeed (step (inputs.Accepted k) n).deeds
accepts_quietly k n = on_cond (λ (r : Rule whole listed). Each IsQuietDeed (r (record { node = n; deeds = [] })).deeds) (nat_lt (length n.inbound) most_inbound) (becomes (with_inbound k))
    (tells_of (λ me. lines.Refused me reasons.Connections) ▸ node_does (Hangs (Inward k))) (λ t. tt) (λ t. ((refl, refl, refl), (tt, tt)))

pub accepted_later : (u k : ℕ) (w : Network) → Grow nobody w.connections (gives u (inputs.Accepted k) w).connections
accepted_later u k w = by (live_of u w)
  where
    by : (x : Option (Live whole)) → Grow nobody w.connections (by_found (λ l. follows u (step (inputs.Accepted k) l.node)) x w).connections
    by None = grow_self nobody w.connections
    by (Some l) = quiet_later u (step (inputs.Accepted k) l.node).node.moment (step (inputs.Accepted k) l.node).deeds (node_becomes u (step (inputs.Accepted k) l.node).node w) (accepts_quietly k l.node)

pub connects_hold : (p : Pending) (w : Network) (l : Live whole) (t : Live whole → Bool) → find t w.live ≡ Some l → w.ended ≡ None → Offered p w → Holds w → Holds (connects p.dialer p.dial l.node.me.uid (l.accepted + 1) w)
connects_hold p w l t found live o h =
    let w1 : Network = joins p.dialer p.dial l.node.me.uid (l.accepted + 1) w in
    let j : Joined p l.node.me.uid (l.accepted + 1) w1 = joined p w l t found live o h in
    let w2 : Network = gives l.node.me.uid (inputs.Accepted (l.accepted + 1)) w1 in
    let c : Came nothing_left l.node.me.uid w1 w2 = gives_came l.node.me.uid (inputs.Accepted (l.accepted + 1)) nothing_left nothing_left w1 (λ q e. j.come) (λ e. j.holds) (λ f k. refl) j.holds in
    on_cond Holds (is_none w2.ended) (gives p.dialer (inputs.Dialed p.dial) w2) w2
    (λ s. (gives_came p.dialer (inputs.Dialed p.dial) nothing_left nothing_left w2
    (λ q i e. silent_grow nobody p.dialer p.dial w1.connections w2.connections (λ n. n) (accepted_later l.node.me.uid (l.accepted + 1) w1) (j.silent (c.going e))) (λ e. c.holds) (λ f k. refl) c.holds).holds)
    (λ s. c.holds)

-- ---- pending dials

pub settled_holds : (p : Pending) (w : Network) → w.ended ≡ None → Removed p w → Holds (settles p w)
settled_holds p w live r = by (live_at p.address w) refl
  where
    by : (x : Option (Live whole)) → live_at p.address w ≡ x → Holds (settled p x w)
    by None e = gives_holds p.dialer (inputs.DialFailed p.dial) tt w r.holds
    by (Some l) e = on_cond (λ (c : Change whole whole_ways). Holds (c w)) (nat_lt (length w.connections) most_connections) (connects p.dialer p.dial l.node.me.uid (l.accepted + 1)) (ends limits.Connections)
        (λ t. connects_hold p w l (lives_at p.address) e live (r.offered live) r.holds)
        (λ t. ends_holds limits.Connections w r.holds)

pub settles_hold : (p : Pending) (w : Network) → w.ended ≡ None → Removed p w → Holds (settles p w)
settles_hold p w live r = settled_holds p w live r

pub by_pending_holds : (u d : ℕ) (c : Pending → Change whole whole_ways) → ((p : Pending) (w : Network) → w.ended ≡ None → Removed p w → Holds (c p w)) → (w : Network) → w.ended ≡ None → Holds w → Holds (by_pending u d c w)
by_pending_holds u d c a w live h = by (position (is_pending u d) w.pending)
  where
    at_place : (i : ℕ) (x : Option Pending) → slice_get w.pending i ≡ x → Holds (by_found (λ p. no_longer i ⟫ c p) x w)
    at_place i None e = h
    at_place i (Some p) e = a p (no_longer i w) live (removed w i p e h)

    by : (i : Option ℕ) → Holds (by_found (by_pending_at c) i w)
    by None = h
    by (Some i) = at_place i (slice_get w.pending i) refl

pub fails_hold : (p : Pending) (w : Network) → w.ended ≡ None → Removed p w → Holds (fails p w)
fails_hold p w live r = gives_holds p.dialer (inputs.DialFailed p.dial) tt w r.holds

pub next_holds : (w : Network) → w.ended ≡ None → Holds w → Holds (settles_next w)
next_holds w live h = by w.pending refl
  where
    by : (ps : List Pending) → w.pending ≡ ps → Holds (settles_first ps w)
    by [] e = h
    by (p ∷ rest) e =
        let place : slice_get w.pending 0 ≡ Some p = ap (λ ps. slice_get ps 0) e in
        let r : Removed p (no_longer 0 w) = removed w 0 p place h in
        let same_one : no_longer 0 w ≡ record w { pending = rest } = ap (λ ps. record w { pending = remove ps 0 }) e in
        subst (λ (v : Network). Holds (settles p v)) same_one (settles_hold p (no_longer 0 w) live r)

pub settling : (n : ℕ) (w : Network) → Holds w → Holds (times n settles_next w)
settling zero w h = h
settling (suc n) w h = settling n (going_on settles_next w) (on_cond Holds (is_none w.ended) (settles_next w) w (λ t. next_holds w (none_is w.ended t) h) (λ t. h))
