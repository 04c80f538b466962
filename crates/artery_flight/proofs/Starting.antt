-- Small changes of a network, and incarnations that start and stop.
use Rattle.std.proofs.Common.{◌≡◌, ℕ, zero, suc, ◌+◌, ◌≤◌, Bool, true, false, cond, List, [], ◌∷◌, ◌++◌, length, refl, sym, ◌∙◌, ap, subst, arith, append-nil}
use Rattle.std.specs.Prelude.{Option, None, Some, ◌==◌, ◌||◌, not, nat_lt, is_none, slice_get}
use Rattle.std.specs.List.{list_any}
use Rattle.artery_base.specs.declared.address.UniqueAddress.{UniqueAddress}
use Rattle.artery_journal.specs.declared.line.Line.TheVariants as lines
use Rattle.artery_machine.specs.declared.input.Input.{Input}
use Rattle.artery_machine.specs.declared.input.Input.TheVariants as inputs
use Rattle.artery_machine.specs.declared.world.Outcome.{Outcome}
use Rattle.artery_machine.specs.declared.world.Outcome.TheVariants as outcomes
use Rattle.artery_machine.specs.declared.world.WorldLimit.{WorldLimit}
use Rattle.artery_machine.specs.declared.world.WorldLimit.TheVariants as limits
use Rattle.artery_machine.specs.Parts.{whole}
use Rattle.artery_machine.specs.Ways.{Wrote, whole_ways}
use Rattle.artery_machine.specs.Connections.{near_ended, far_ended, ended_with}
use Rattle.artery_machine.specs.Node.{Node, new_node, incarnation}
use Rattle.artery_machine.specs.Reacting.{starts}
use Rattle.artery_machine.specs.World.{Live, Change, ◌⟫◌, stays, going_on, ends, each, each_place, times, has_uid, is_pending, connection_at, connection_becomes, by_found, by_connection, comes_out, does, gives, was_started, with_started, starts_with, gone, stops_one, most_nodes}
use Rattle.artery_laws.proofs.Same.{same}
use Rattle.artery_flight.proofs.Lists.{by_test, on_cond, not_both, eq_true, eq_self, not_some, Each, each_weaker, each_filter, each_push, each_map, count, count_yes, count_no, count_filter}
use Rattle.artery_base.specs.declared.message.SysMsg.{SysMsg}
use Rattle.artery_flight.proofs.Lines.{IsPlain, own_more, sent_in, sent_silent, numbered as numbers, named_more, name_push, took_line}
use Rattle.artery_flight.proofs.Peers.{view_at, sent_later}
use Rattle.artery_flight.proofs.Deeds.{lines_grow}
use Rattle.artery_flight.proofs.Facts.{bound_later, stay_map, Network, Conn, ConnFacts, Out, IsFresh, NodeFacts, Grows, Grow, grows_self, grows_trans, grow_map, conn_facts_later}
use Rattle.artery_flight.proofs.Deeds.{nobody, IsQuiet, near_quiet, far_quiet, Quietly, becomes_quietly, outcome_quietly, ends_out}
use Rattle.artery_flight.proofs.Rules.{none_not}
use Rattle.artery_flight.proofs.Feeding.{nothing_left}
use Rattle.artery_flight.proofs.Networks.{LiveFacts, Unstarted, Going, Holds, Safe, holds_less}
use Rattle.artery_flight.proofs.Coming.{Leaves, Gave, Arrives, gives_came}

-- ---- small changes

abbrev pub by_holds : (w v : Network) → Holds v → Holds v
by_holds w v h = h

pub quiet_holds : (w v : Network) → Quietly w v → Leaves w v → ((u d : ℕ) → count (is_pending u d) v.pending ≡ count (is_pending u d) w.pending) → Holds w → Holds v
quiet_holds w v q leaves same h = holds_less w v (record {
  conns = q.later.conns;
  still = q.later.still;
  told = q.later.told;
  sent = λ x y. q.later.sent x y (λ n. n);
  unnamed = q.later.unnamed;
  lines = (q.out h.out).told;
  facts = (q.out h.out).conns;
  pending = λ u d. (let e : count (is_pending u d) v.pending ≡ count (is_pending u d) w.pending = same u d in omega arith);
  live = λ P k. subst (λ ls. Each P ls) (sym leaves.live) k;
  uids = λ u. (let e : count (has_uid u) v.live ≡ count (has_uid u) w.live = ap (λ ls. count (has_uid u) ls) leaves.live in omega arith);
  started = leaves.started;
  ended = q.later.going;
}) h

pub becomes_holds : (g : Conn → Conn) → IsQuiet g → (i : ℕ) → Safe (connection_becomes g i)
becomes_holds g q i w h =
    let k : Quietly w (connection_becomes g i w) = becomes_quietly g q i w in
    quiet_holds w (connection_becomes g i w) k (record { live = refl; started = refl }) (λ u d. k.later.pending u d (λ x. x)) h

pub stays_holds : Safe stays
stays_holds w h = h

pub ends_holds : (limit : WorldLimit) → Safe (ends limit)
ends_holds limit w h = record { out = ends_out limit w h.out; going = λ e. not_some (sym e) }

pub then_holds : (c d : Change whole whole_ways) → Safe c → Safe d → Safe (c ⟫ d)
then_holds c d a b w h = b (c w) (a w h)

pub going_holds : (c : Change whole whole_ways) → Safe c → Safe (going_on c)
going_holds c a w h = on_cond Holds (is_none w.ended) (c w) w (λ t. a w h) (λ t. h)

pub each_holds : {X : Type 0} (xs : List X) (c : X → Change whole whole_ways) → ((x : X) → Safe (c x)) → Safe (each xs c)
each_holds [] c a w h = h
each_holds (x ∷ xs) c a w h = each_holds xs c a (going_on (c x) w) (going_holds (c x) (a x) w h)

pub places_hold : (first n : ℕ) (c : ℕ → Change whole whole_ways) → ((place : ℕ) → Safe (c place)) → Safe (each_place first n c)
places_hold first zero c a w h = h
places_hold first (suc n) c a w h = places_hold (first + 1) n c a (going_on (c first) w) (going_holds (c first) (a first) w h)

pub times_hold : (n : ℕ) (c : Change whole whole_ways) → Safe c → Safe (times n c)
times_hold zero c a w h = h
times_hold (suc n) c a w h = times_hold n c a (going_on c w) (going_holds c a w h)

pub found_holds : {X : Type 0} (c : X → Change whole whole_ways) → ((x : X) → Safe (c x)) → (x : Option X) → Safe (by_found c x)
found_holds c a None w h = h
found_holds c a (Some x) w h = a x w h

-- a change by the connection at a place
abbrev pub SafeAt : (ℕ → Conn → Change whole whole_ways) → Type 0
SafeAt c = (i : ℕ) (x : Conn) (w : Network) → slice_get w.connections i ≡ Some x → Holds w → Holds (c i x w)

pub at_place_holds : (c : ℕ → Conn → Change whole whole_ways) → SafeAt c → (i : ℕ) → Safe (by_connection c i)
at_place_holds c a i w h = by (connection_at i w) refl
  where
    by : (x : Option Conn) → connection_at i w ≡ x → Holds (by_found (c i) x w)
    by None e = h
    by (Some x) e = a i x w e h

-- what comes to a node and needs nothing
abbrev pub NeedsNothing : Input → Type 0
NeedsNothing (inputs.Dialed x) = ⊥
NeedsNothing (inputs.Request request) = Unit {0}
NeedsNothing (inputs.Accepted k) = ⊥
NeedsNothing (inputs.DialFailed x) = Unit {0}
NeedsNothing (inputs.Bytes k piece) = ⊥
NeedsNothing (inputs.Ended c) = Unit {0}
NeedsNothing (inputs.Tick now) = Unit {0}

pub gives_holds : (u : ℕ) (input : Input) → NeedsNothing input → Safe (gives u input)
gives_holds u input n w h = (gives_came u input nothing_left nothing_left w (λ q e. needs u input w n) (λ e. h) (same_left u input n) h).holds
  where
    needs : (u : ℕ) (input : Input) (w : Network) → NeedsNothing input → Arrives u input nothing_left w
    needs u (inputs.Dialed x) w n = absurd n
    needs u (inputs.Request request) w n = tt
    needs u (inputs.Accepted k) w n = absurd n
    needs u (inputs.DialFailed x) w n = tt
    needs u (inputs.Bytes k piece) w n = absurd n
    needs u (inputs.Ended c) w n = tt
    needs u (inputs.Tick now) w n = tt

    same_left : (u : ℕ) (input : Input) → NeedsNothing input → Gave u input nothing_left nothing_left
    same_left u (inputs.Dialed x) n = absurd n
    same_left u (inputs.Request request) n = λ f j. refl
    same_left u (inputs.Accepted k) n = absurd n
    same_left u (inputs.DialFailed x) n = λ f j. refl
    same_left u (inputs.Bytes k piece) n = absurd n
    same_left u (inputs.Ended c) n = λ f j. refl
    same_left u (inputs.Tick now) n = λ f j. refl

-- ---- starting and stopping

pub or_left : (a b : Bool) → (a || b) ≡ false → a ≡ false
or_left true b h = h
or_left false b h = refl

pub or_right : (a b : Bool) → (a || b) ≡ false → b ≡ false
or_right true b h = not_both refl h
or_right false b h = h

pub any_push : {X : Type 0} (p : X → Bool) (xs : List X) (y : X) → list_any p (xs ++ y ∷ []) ≡ false → (list_any p xs ≡ false) × (p y ≡ false)
any_push p [] y h = (refl, or_left (p y) false h)
any_push {X} p (x ∷ xs) y h = (let r : (list_any p xs ≡ false) × (p y ≡ false) = any_push p xs y (or_right (p x) (list_any p (xs ++ y ∷ [])) h) in (both (p x) (or_left (p x) (list_any p (xs ++ y ∷ [])) h) r.0, r.1))
  where
    both : (a : Bool) {b : Bool} → a ≡ false → b ≡ false → (a || b) ≡ false
    both true e f = e
    both false e f = f

pub started_out : (v : UniqueAddress) (w : Network) → Out w → Out (comes_out (outcomes.Line 0 (lines.Started v)) w)
started_out v w h = record {
  conns = h.conns;
  once = h.once;
  single = h.single;
  numbered = h.numbered;
  told = record {
    own = λ a. each_weaker _ _ (λ (c : Conn) q. each_weaker _ _ (λ (z : Wrote) s. own_more w.outcomes (w.outcomes ++ outcomes.Line 0 (lines.Started v) ∷ []) c.far z.writing (outcomes.Line 0 (lines.Started v) ∷ [], refl) s) c.way.all q) w.connections (h.told.own a);
    sent = λ x y. (let k : (ms : List SysMsg) × (sent_in x y w.outcomes ≡ numbers 1 ms) = h.told.sent x y in (k.0, sent_silent x y w.outcomes 0 (lines.Started v) refl ∙ k.1));
    took = λ a. took_line w.outcomes 0 (lines.Started v) tt (h.told.took a);
  };
}

pub started_alone : (v : UniqueAddress) (w : Network) → Out w → Out (with_started v (new_node v) w)
started_alone v w h = record { conns = h.conns; once = h.once; single = h.single; numbered = h.numbered; told = h.told }

-- an incarnation that starts, and its line
pub started_holds : (v : UniqueAddress) (w : Network) → was_started v.uid w ≡ false → Holds w → Holds (comes_out (outcomes.Line 0 (lines.Started v)) (with_started v (new_node v) w))
started_holds v w new h = record {
  out = started_out v w1 (started_alone v w h.out);
  going = λ e. (let g : Going nothing_left w = h.going e in
      let f : Unstarted v.uid w = g.unstarted v.uid new in
      record {
        live = each_push (LiveFacts nothing_left w2) w.live (record { node = new_node v; accepted = 0 })
            (each_weaker (LiveFacts nothing_left w) (LiveFacts nothing_left w2) (λ x k. record { node = again x.node.me.uid x.node k.node; accepted = k.accepted; heard = k.heard }) w.live g.live)
            (record {
              node = record {
                me = refl;
                fresh = λ d b. (let y : IsFresh v.uid d w = f.fresh d in record { pending = y.pending; made = y.made });
                alone = λ a. omega arith;
                peers = tt;
                inbound = tt;
                named = name_push v.uid w.outcomes o f.unnamed ∙ ap (λ (b : Bool). cond b (Some v) None) (eq_self v.uid);
                bound = λ r. tt;
                sent = λ a. record {
                  alive = λ uid c. not_some c;
                  quiet = λ c. refl;
                  sent = λ uid c. not_some c;
                  none = λ uid c s. sent_silent v (incarnation a uid) w.outcomes 0 (lines.Started v) refl ∙ f.silent v (incarnation a uid) refl;
                };
              };
              accepted = sym f.far;
              heard = λ a k bytes b. not_some b;
            });
        alone = λ u. by_test (v.uid == u)
            (λ t. (let a : count (has_uid u) w1.live ≡ count (has_uid u) w.live + 1 = count_yes (has_uid u) w.live (record { node = new_node v; accepted = 0 }) t in
            let b : count (has_uid u) w.live ≡ 0 = subst (λ (x : ℕ). count (has_uid x) w.live ≡ 0) (eq_true v.uid u t) f.live in omega arith))
            (λ t. (let a : count (has_uid u) w1.live ≡ count (has_uid u) w.live = count_no (has_uid u) w.live (record { node = new_node v; accepted = 0 }) t in
            let b : count (has_uid u) w.live ≤ 1 = g.alone u in omega arith));
        unstarted = λ u s. (let r : (was_started u w ≡ false) × ((v.uid == u) ≡ false) = any_push (λ other. other == u) w.started v.uid s in
            let k : Unstarted u w = g.unstarted u r.0 in
            record {
              fresh = λ d. (let y : IsFresh u d w = k.fresh d in record { pending = y.pending; made = y.made });
              far = k.far;
              live = count_no (has_uid u) w.live (record { node = new_node v; accepted = 0 }) r.1 ∙ k.live;
              unnamed = name_push u w.outcomes o k.unnamed ∙ ap (λ (b : Bool). cond b (Some v) None) r.1;
              silent = λ x y q. sent_silent x y w.outcomes 0 (lines.Started v) refl ∙ k.silent x y q;
            });
      });
}
  where
    o : Outcome
    o = outcomes.Line 0 (lines.Started v)

    w1 : Network
    w1 = with_started v (new_node v) w

    w2 : Network
    w2 = comes_out (outcomes.Line 0 (lines.Started v)) (with_started v (new_node v) w)

    again : (u : ℕ) (n : Node whole) → NodeFacts u n w → NodeFacts u n (comes_out (outcomes.Line 0 (lines.Started v)) (with_started v (new_node v) w))
    again u n k = record {
      me = k.me;
      fresh = λ d b. (let y : IsFresh u d w = k.fresh d b in record { pending = y.pending; made = y.made });
      alone = k.alone;
      peers = k.peers;
      inbound = k.inbound;
      named = named_more n.me w.outcomes (w.outcomes ++ outcomes.Line 0 (lines.Started v) ∷ []) (outcomes.Line 0 (lines.Started v) ∷ [], refl) k.named;
      bound = λ r. bound_later w.outcomes (w.outcomes ++ outcomes.Line 0 (lines.Started v) ∷ []) (outcomes.Line 0 (lines.Started v) ∷ [], refl) n.peers (k.bound r);
      sent = λ a. sent_later n.me w.outcomes (w.outcomes ++ outcomes.Line 0 (lines.Started v) ∷ []) (view_at a n) (λ uid. sent_silent n.me (incarnation (view_at a n).incarnations.address uid) w.outcomes 0 (lines.Started v) refl) (k.sent a);
    }

pub starts_hold : (v : UniqueAddress) (w : Network) → was_started v.uid w ≡ false → Holds w → Holds (starts_with v (starts v) w)
starts_hold v w new h = on_cond (λ (c : Change whole whole_ways). Holds (c w)) (nat_lt (length w.live) most_nodes) (with_started v (new_node v) ⟫ each (starts {P = whole} v).deeds (does v.uid 0)) (ends limits.Nodes)
    (λ t. on_cond Holds (is_none w.ended) (comes_out (outcomes.Line 0 (lines.Started v)) (with_started v (new_node v) w)) (with_started v (new_node v) w)
    (λ s. started_holds v w new h)
    (λ s. record { out = started_alone v w h.out; going = λ e. none_not w.ended s e }))
    (λ t. ends_holds limits.Nodes w h)

abbrev pub near_of : ℕ → Conn → Conn
near_of uid c = cond (c.dialer == uid) (near_ended c) c

abbrev pub far_of : ℕ → Conn → Conn
far_of uid c = cond (c.far == uid) (far_ended c) c

pub if_quiet : (b : Conn → Bool) (g : Conn → Conn) → IsQuiet g → IsQuiet (λ c. cond (b c) (g c) c)
if_quiet b g q = record {
  still = λ c. on_cond (λ (d : Conn). d.way.delivered ≡ c.way.delivered) (b c) (g c) c (λ t. q.still c) (λ t. refl);
  grows = λ c. on_cond (λ (d : Conn). Grows nobody c d) (b c) (g c) c (λ t. q.grows c) (λ t. grows_self nobody c);
  facts = λ cs c h. on_cond (λ (d : Conn). ConnFacts cs d) (b c) (g c) c (λ t. q.facts cs c h) (λ t. h);
}

pub gone_holds : (uid : ℕ) → Safe (gone uid)
gone_holds uid w h = holds_less w (gone uid w) (record {
  conns = g;
  still = stay_map (ended_with uid) (λ c. near.still (far_of uid c) ∙ far.still c) w.connections;
  told = ([], append-nil w.outcomes);
  sent = λ x y. refl;
  unnamed = λ x n. n;
  lines = lines_grow w.connections (gone uid w).connections w.outcomes g h.out.told;
  facts = each_map (ConnFacts w.connections) (ConnFacts (gone uid w).connections) (ended_with uid)
      (λ c k. near.facts (gone uid w).connections (far_of uid c) (far.facts (gone uid w).connections c (conn_facts_later nobody w.connections (gone uid w).connections g c k))) w.connections h.out.conns;
  pending = λ u d. count_filter (is_pending u d) (λ q. not (q.dialer == uid)) w.pending;
  live = λ P k. each_filter P (λ l. not (has_uid uid l)) w.live k;
  uids = λ u. count_filter (has_uid u) (λ l. not (has_uid uid l)) w.live;
  started = refl;
  ended = λ e. e;
}) h
  where
    near : IsQuiet (near_of uid)
    near = if_quiet (λ c. c.dialer == uid) near_ended near_quiet

    far : IsQuiet (far_of uid)
    far = if_quiet (λ c. c.far == uid) far_ended far_quiet

    g : Grow nobody w.connections (gone uid w).connections
    g = grow_map nobody (ended_with uid) (λ c. grows_trans nobody c (far_of uid c) (near_of uid (far_of uid c))
        (on_cond (λ (d : Conn). Grows nobody c d) (c.far == uid) (far_ended c) c (λ t. far_quiet.grows c) (λ t. grows_self nobody c))
        (on_cond (λ (d : Conn). Grows nobody (far_of uid c) d) ((far_of uid c).dialer == uid) (near_ended (far_of uid c)) (far_of uid c) (λ t. near_quiet.grows (far_of uid c)) (λ t. grows_self nobody (far_of uid c)))) w.connections

pub outcome_holds : (o : Outcome) → IsPlain o → Safe (comes_out o)
outcome_holds o p w h = quiet_holds w (comes_out o w) (outcome_quietly o w p) (record { live = refl; started = refl }) (λ u d. refl) h

pub stops_hold : (l : Live whole) → Safe (stops_one l)
stops_hold l = then_holds (comes_out (outcomes.Line l.node.moment (lines.Stopped l.node.me))) (gone l.node.me.uid) (outcome_holds (outcomes.Line l.node.moment (lines.Stopped l.node.me)) (refl, refl, refl)) (gone_holds l.node.me.uid)
