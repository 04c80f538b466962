-- Something comes to a node of a network, and what it does is done outside.
use Rattle.std.proofs.Common.{◌≡◌, ℕ, ◌≤◌, Bool, true, false, ◌&&◌, List, [], ◌∷◌, ◌++◌, length, refl, sym, ◌∙◌, ap, subst, arith}
use Rattle.std.specs.Prelude.{Option, None, Some, ◌==◌, not, is_none, slice_get}
use Rattle.std.specs.List.{list_any}
use Rattle.artery_machine.specs.declared.input.Conn.TheVariants.{Outward, Inward}
use Rattle.artery_machine.specs.declared.input.Input.{Input}
use Rattle.artery_machine.specs.declared.input.Input.TheVariants as inputs
use Rattle.artery_machine.specs.declared.world.WorldLimit.TheVariants as limits
use Rattle.artery_machine.specs.Lists.{change_first}
use Rattle.artery_machine.specs.Deeds.{Writing, Deed, Dials, Writes, Hangs, Tells, bytes_of}
use Rattle.artery_machine.specs.Parts.{whole}
use Rattle.artery_machine.specs.Ways.{whole_ways}
use Rattle.artery_machine.specs.Connections.{is_dialed, near_ended, far_ended, place_dialed, place_inward}
use Rattle.artery_machine.specs.Node.{Node, incarnation}
use Rattle.artery_machine.specs.Doing.{listed, Doing}
use Rattle.artery_machine.specs.Reacting.{reacts, step}
use Rattle.artery_machine.specs.World.{Live, Change, stays, going_on, ends, each, has_uid, with_node, live_of, connection_becomes, by_found, by_connection, is_too_much, writes, does, node_becomes, follows, gives, was_started}
use Rattle.artery_laws.proofs.Over.{SinkOver}
use Rattle.artery_laws.proofs.OverTicking.{reacts_over}
use Rattle.artery_laws.proofs.Same.{same, node_same}
use Rattle.artery_flight.proofs.Lists.{on_cond, eq_true, eq_self, eq_false, eq_not, Each, each_weaker, each_find, each_single, count, count_found, count_changed, find_passes}
use Rattle.artery_flight.proofs.Lines.{named_more}
use Rattle.artery_flight.proofs.Peers.{view_at, sent_later}
use Rattle.artery_flight.proofs.Facts.{bound_later, AllRead, read_before, inbound_later, Network, Conn, is_far, Out, IsSilent, IsFresh, NodeFacts, Grow, grow_self, grow_count, dialed_same, far_same, Later, peer_later}
use Rattle.artery_flight.proofs.Deeds.{outward, only}
use Rattle.artery_flight.proofs.Rules.{Good, Work, bytes_at}
use Rattle.artery_flight.proofs.Inward.{BytesFrom, Reacted}
use Rattle.artery_flight.proofs.Feeding.{Rest, IsHeard, heard_later, heard_left, piece_frames, piece_heard}
use Rattle.artery_flight.proofs.Ticking.{Comes, reacts_kept}
use Rattle.artery_flight.proofs.Networks.{LiveFacts, Unstarted, Going, HoldsBut}

-- ---- deeds and the outside

-- deeds leave who lives and who was started
pub record Leaves (w v : Network) : Type 0 where
  pub live : v.live ≡ w.live
  pub started : v.started ≡ w.started

pub leaves_self : (w : Network) → Leaves w w
leaves_self w = record { live = refl; started = refl }

pub leaves_then : (a b c : Network) → Leaves a b → Leaves b c → Leaves a c
leaves_then a b c f g = record { live = g.live ∙ f.live; started = g.started ∙ f.started }

pub found_leaves : (g : Conn → Conn) (i : Option ℕ) (w : Network) → Leaves w (by_found (connection_becomes g) i w)
found_leaves g None w = leaves_self w
found_leaves g (Some i) w = record { live = refl; started = refl }

pub writes_leave : (u d : ℕ) (x : Writing) (bytes : List ℕ) (i : ℕ) (c : Conn) (w : Network) → Leaves w (writes u d x bytes i c w)
writes_leave u d x bytes i c w = on_cond (λ (change : Change whole whole_ways). Leaves w (change w)) (not c.near_open) stays _ (λ t. leaves_self w)
    (λ t. on_cond (λ (change : Change whole whole_ways). Leaves w (change w)) (is_too_much (length bytes) c w) (ends limits.Undelivered) _ (λ k. record { live = refl; started = refl }) (λ k. record { live = refl; started = refl }))

pub deed_leaves : (u m : ℕ) (deed : Deed) (w : Network) → Leaves w (does u m deed w)
deed_leaves u m (Dials dial address) w = record { live = refl; started = refl }
deed_leaves u m (Writes dial x) w = by (place_dialed u dial w.connections)
  where
    at_place : (i : ℕ) (c : Option Conn) → Leaves w (by_found (writes u dial x (bytes_of u x) i) c w)
    at_place i None = leaves_self w
    at_place i (Some c) = writes_leave u dial x _ i c w

    by : (i : Option ℕ) → Leaves w (by_found (by_connection (writes u dial x (bytes_of u x))) i w)
    by None = leaves_self w
    by (Some i) = at_place i (slice_get w.connections i)
deed_leaves u m (Hangs (Outward dial)) w = found_leaves near_ended (place_dialed u dial w.connections) w
deed_leaves u m (Hangs (Inward number)) w = found_leaves far_ended (place_inward u number w.connections) w
deed_leaves u m (Tells line) w = record { live = refl; started = refl }

pub deeds_leave : (u m : ℕ) (deeds : List Deed) (w : Network) → Leaves w (each deeds (does u m) w)
deeds_leave u m [] w = leaves_self w
deeds_leave u m (x ∷ deeds) w =
    leaves_then w (going_on (does u m x) w) (each deeds (does u m) (going_on (does u m x) w))
    (on_cond (Leaves w) (is_none w.ended) (does u m x w) w (λ t. deed_leaves u m x w) (λ t. leaves_self w))
    (deeds_leave u m deeds (going_on (does u m x) w))

-- what is listed is done outside afterwards
pub push_deed : (u m : ℕ) (deeds : List Deed) (x : Deed) (w : Network) → going_on (does u m x) (each deeds (does u m) w) ≡ each (deeds ++ x ∷ []) (does u m) w
push_deed u m [] x w = refl
push_deed u m (y ∷ deeds) x w = push_deed u m deeds x (going_on (does u m y) w)

abbrev pub afterwards : (u m : ℕ) (w : Network) → SinkOver listed (outward u m)
afterwards u m w = record { to = λ deeds. each deeds (does u m) w; told = λ deed deeds. push_deed u m deeds deed w }

pub go_outside : (u m : ℕ) (input : Input) (n : Node whole) (w : Network) → reacts {P = whole} {E = outward u m} input (record { node = n; deeds = w }) ≡ record { node = (step input n).node; deeds = each (step input n).deeds (does u m) w }
go_outside u m input n w =
    ap (λ (k : Node whole). reacts {P = whole} {E = outward u m} input (record { node = k; deeds = w })) (sym (node_same whole n))
    ∙ (reacts_over (same whole) (afterwards u m w) input).on (record { node = n; deeds = [] })
    ∙ ap (λ (k : Node whole). record { node = k; deeds = each (step input n).deeds (does u m) w }) (node_same whole (step input n).node)

-- ---- something comes to a node

pub moved_out : (w : Network) (ls : List (Live whole)) → Out w → Out (record w { live = ls })
moved_out w ls h = record { conns = h.conns; once = h.once; single = h.single; numbered = h.numbered; told = h.told }

pub moved_node : (u : ℕ) (n : Node whole) (w : Network) (ls : List (Live whole)) → NodeFacts u n w → NodeFacts u n (record w { live = ls })
moved_node u n w ls h = record { me = h.me; fresh = λ d b. (let f : IsFresh u d w = h.fresh d b in record { pending = f.pending; made = f.made }); alone = h.alone; peers = h.peers; inbound = h.inbound; named = h.named; bound = h.bound; sent = h.sent }

-- the facts of another node, and what was accepted
pub other_later : (u : ℕ) (w v : Network) → Later (only u) w v → (n : Node whole) → (n.me.uid ≡ u → ⊥) → NodeFacts n.me.uid n w → NodeFacts n.me.uid n v
other_later u w v l n apart h = record {
  me = h.me;
  fresh = λ d b. (let f : IsFresh n.me.uid d w = h.fresh d b in record {
    pending = l.pending n.me.uid d apart ∙ f.pending;
    made = grow_count (only u) (is_dialed n.me.uid d) (dialed_same (only u) n.me.uid d) w.connections v.connections l.conns ∙ f.made;
  });
  alone = h.alone;
  peers = each_weaker _ _ (λ q k. peer_later (only u) n.me.uid w.connections v.connections l.conns q k) n.peers h.peers;
  inbound = each_weaker _ _ (λ i k. inbound_later (only u) n.me.uid w.connections v.connections l.conns i k) n.inbound h.inbound;
  named = named_more n.me w.outcomes v.outcomes l.told h.named;
  bound = λ a. bound_later w.outcomes v.outcomes l.told n.peers (h.bound (read_before (only u) w.connections v.connections l.conns a));
  sent = λ a. sent_later n.me w.outcomes v.outcomes (view_at a n) (λ uid. l.sent n.me (incarnation (view_at a n).incarnations.address uid) apart) (h.sent a);
}

-- What is left to be given once this came to a node: a piece that was given is not left any more.
abbrev pub Gave : ℕ → Input → Rest → Rest → Type 0
Gave u (inputs.Request request) r s = (f j : ℕ) → r f j ≡ s f j
Gave u (inputs.Accepted k) r s = (f j : ℕ) → r f j ≡ s f j
Gave u (inputs.Dialed dial) r s = (f j : ℕ) → r f j ≡ s f j
Gave u (inputs.DialFailed dial) r s = (f j : ℕ) → r f j ≡ s f j
Gave u (inputs.Bytes k piece) r s = (r u k ≡ piece ++ s u k) × ((f j : ℕ) → ((u == f) && (k == j)) ≡ false → r f j ≡ s f j)
Gave u (inputs.Ended side) r s = (f j : ℕ) → r f j ≡ s f j
Gave u (inputs.Tick now) r s = (f j : ℕ) → r f j ≡ s f j

-- What must be true outside where something comes to a node: nothing was written yet on the connection of a dial that is up, and nothing was delivered on one that comes in.
abbrev pub Arrives : ℕ → Input → Rest → Network → Type 0
Arrives u (inputs.Request request) s w = Unit {0}
Arrives u (inputs.Accepted k) s w = w.ended ≡ None → IsHeard u k [] (s u k) w.connections
Arrives u (inputs.Dialed dial) s w = w.ended ≡ None → IsSilent u dial w.connections
Arrives u (inputs.DialFailed dial) s w = Unit {0}
Arrives u (inputs.Bytes k piece) s w = Unit {0}
Arrives u (inputs.Ended side) s w = Unit {0}
Arrives u (inputs.Tick now) s w = Unit {0}

-- what is left for other nodes stays
pub left_others : (u : ℕ) (input : Input) (r s : Rest) → Gave u input r s → (f j : ℕ) → (f ≡ u → ⊥) → r f j ≡ s f j
left_others u (inputs.Request request) r s g f j n = g f j
left_others u (inputs.Accepted k) r s g f j n = g f j
left_others u (inputs.Dialed dial) r s g f j n = g f j
left_others u (inputs.DialFailed dial) r s g f j n = g f j
left_others u (inputs.Bytes k piece) r s g f j n = g.1 f j (ap (λ (b : Bool). b && (k == j)) (eq_false u f (λ e. n (sym e))))
left_others u (inputs.Ended side) r s g f j n = g f j
left_others u (inputs.Tick now) r s g f j n = g f j

-- the facts of the bytes of one node
abbrev pub Heard : ℕ → Node whole → Rest → Network → Type 0
Heard u n r w = AllRead w.connections → (k : ℕ) (bytes : List ℕ) → bytes_at k n ≡ Some bytes → IsHeard u k bytes (r u k) w.connections

pub comes_in : (u : ℕ) (input : Input) (r s : Rest) (n : Node whole) (w : Network) → Arrives u input s w → Gave u input r s → Out w → (w.ended ≡ None → Heard u n r w) → Comes u input n w
comes_in u (inputs.Request request) r s n w a g o h = tt
comes_in u (inputs.Accepted k) r s n w a g o h = tt
comes_in u (inputs.Dialed dial) r s n w a g o h = a
comes_in u (inputs.DialFailed dial) r s n w a g o h = tt
comes_in u (inputs.Bytes k piece) r s n w a g o h = λ live all bytes b. piece_frames u k bytes piece (s u k) w.connections all o.conns (heard_left u k bytes (r u k) (piece ++ s u k) w.connections g.0 (h live all k bytes b))
comes_in u (inputs.Ended side) r s n w a g o h = tt
comes_in u (inputs.Tick now) r s n w a g o h = tt

-- what came there is had then
pub heard_then : (u : ℕ) (input : Input) (r s : Rest) (n : Node whole) (w : Network) → Arrives u input s w → Gave u input r s → Out w → w.ended ≡ None → AllRead w.connections → Heard u n r w → (j : ℕ) (bytes : List ℕ) → BytesFrom input j bytes n
    → IsHeard u j bytes (s u j) w.connections
heard_then u (inputs.Request request) r s n w a g o live all h j bytes b = heard_left u j bytes (r u j) (s u j) w.connections (g u j) (h all j bytes b)
heard_then u (inputs.Accepted k) r s n w a g o live all h j bytes (true, b) = subst (λ (x : ℕ). IsHeard u x bytes (s u x) w.connections) (sym b.0) (subst (λ bs. IsHeard u k bs (s u k) w.connections) (sym b.1) (a live))
heard_then u (inputs.Accepted k) r s n w a g o live all h j bytes (false, b) = heard_left u j bytes (r u j) (s u j) w.connections (g u j) (h all j bytes b)
heard_then u (inputs.Dialed dial) r s n w a g o live all h j bytes b = heard_left u j bytes (r u j) (s u j) w.connections (g u j) (h all j bytes b)
heard_then u (inputs.DialFailed dial) r s n w a g o live all h j bytes b = heard_left u j bytes (r u j) (s u j) w.connections (g u j) (h all j bytes b)
heard_then u (inputs.Bytes k piece) r s n w a g o live all h j bytes (true, b) =
    subst (λ (x : ℕ). IsHeard u x bytes (s u x) w.connections) (sym b.0) (subst (λ bs. IsHeard u k bs (s u k) w.connections) (sym b.3)
    (piece_heard u k b.1 piece (s u k) w.connections all o.conns (heard_left u k b.1 (r u k) (piece ++ s u k) w.connections g.0 (h all k b.1 b.2))))
heard_then u (inputs.Bytes k piece) r s n w a g o live all h j bytes (false, b) =
    heard_left u j bytes (r u j) (s u j) w.connections (g.1 u j (ap (λ (x : Bool). (u == u) && x) (eq_false k j (λ e. b.0 (sym e))) ∙ and_false (u == u))) (h all j bytes b.1)
  where
    and_false : (b : Bool) → (b && false) ≡ false
    and_false true = refl
    and_false false = refl
heard_then u (inputs.Ended side) r s n w a g o live all h j bytes b = heard_left u j bytes (r u j) (s u j) w.connections (g u j) (h all j bytes b)
heard_then u (inputs.Tick now) r s n w a g o live all h j bytes b = heard_left u j bytes (r u j) (s u j) w.connections (g u j) (h all j bytes b)

-- what came of it, and that it is later
pub record Came (r : Rest) (u : ℕ) (w v : Network) : Type 0 where
  pub holds : HoldsBut r v
  pub conns : Grow (only u) w.connections v.connections
  pub going : v.ended ≡ None → w.ended ≡ None

-- what a live node made of what came
pub step_kept : (u : ℕ) (input : Input) (r s : Rest) (w : Network) (l : Live whole) → live_of u w ≡ Some l → Arrives u input s w → Gave u input r s → HoldsBut r w
    → Reacted u input l.node (node_becomes u (step input l.node).node w) (step input l.node).node (each (step input l.node).deeds (does u (step input l.node).node.moment) (node_becomes u (step input l.node).node w))
step_kept u input r s w l found a g h =
    let is_u : l.node.me.uid ≡ u = eq_true l.node.me.uid u (find_passes (has_uid u) w.live l found) in
    let done : Doing whole listed = step input l.node in
    let m : ℕ = done.node.moment in
    let w1 : Network = node_becomes u done.node w in
    let good : Good u l.node w1 = record { out = moved_out w w1.live h.out; node = λ e. moved_node u l.node w w1.live (subst (λ (x : ℕ). NodeFacts x l.node w) is_u ((each_find (LiveFacts r w) (has_uid u) w.live l (h.going e).live found).node)) } in
    let c : Comes u input l.node w = comes_in u input r s l.node w a g h.out (λ e. subst (λ (x : ℕ). Heard x l.node r w) is_u (each_find (LiveFacts r w) (has_uid u) w.live l (h.going e).live found).heard) in
    subst (λ (d : Work u m). Reacted u input l.node w1 d.node d.deeds) (go_outside u m input l.node w1) (reacts_kept u m input (record { node = l.node; deeds = w1 }) (comes_moved u input l.node w w1.live c) good)
  where
    comes_moved : (u : ℕ) (input : Input) (n : Node whole) (w : Network) (ls : List (Live whole)) → Comes u input n w → Comes u input n (record w { live = ls })
    comes_moved u (inputs.Dialed x) n w ls c = c
    comes_moved u (inputs.Request request) n w ls c = tt
    comes_moved u (inputs.Accepted k) n w ls c = tt
    comes_moved u (inputs.DialFailed x) n w ls c = tt
    comes_moved u (inputs.Bytes k piece) n w ls c = c
    comes_moved u (inputs.Ended c) n w ls k = tt
    comes_moved u (inputs.Tick now) n w ls c = tt

pub follows_came : (u : ℕ) (input : Input) (r s : Rest) (w : Network) (l : Live whole) → live_of u w ≡ Some l → Arrives u input s w → Gave u input r s → HoldsBut r w → Came s u w (follows u (step input l.node) w)
follows_came u input r s w l found a gave h =
    let is_u : l.node.me.uid ≡ u = eq_true l.node.me.uid u (find_passes (has_uid u) w.live l found) in
    let done : Doing whole listed = step input l.node in
    let m : ℕ = done.node.moment in
    let w1 : Network = node_becomes u done.node w in
    let v : Network = each done.deeds (does u m) w1 in
    let k : Reacted u input l.node w1 done.node v = step_kept u input r s w l found a gave h in
    let leaves : Leaves w1 v = deeds_leave u m done.deeds w1 in
    let later : Later (only u) w1 v = k.later in
    record {
      holds = record {
        out = k.good.out;
        going = λ e.
            (let live : w.ended ≡ None = later.going e in
            let g : Going r w = h.going live in
            let n : NodeFacts u done.node v = k.good.node e in
            let was : LiveFacts r w l = each_find (LiveFacts r w) (has_uid u) w.live l g.live found in
            let had : Heard u l.node r w = subst (λ (x : ℕ). Heard x l.node r w) is_u was.heard in
            let same_count : (x : ℕ) → count (is_far x) v.connections ≡ count (is_far x) w.connections = λ x. grow_count (only u) (is_far x) (far_same (only u) x) w.connections v.connections later.conns in
            let before : AllRead v.connections → AllRead w.connections = read_before (only u) w.connections v.connections later.conns in
            let has : Heard u done.node s v = λ all j bytes b. heard_later (only u) w.connections v.connections later.conns later.still h.out.conns u j bytes (s u j) (heard_then u input r s l.node w a gave h.out live (before all) had j bytes (k.bytes j bytes b)) in
            let lives : Each (LiveFacts s v) w1.live = each_single (LiveFacts r w) (LiveFacts s v) (has_uid u) (with_node done.node) w.live (g.alone u)
            (λ x i f. record {
              node = subst (λ (y : ℕ). NodeFacts y done.node v) (sym n.me) n;
              accepted = (let x_is : x.node.me.uid ≡ u = eq_true x.node.me.uid u (find_passes (has_uid u) w.live x i) in f.accepted ∙ sym (same_count x.node.me.uid) ∙ ap (λ (y : ℕ). count (is_far y) v.connections) (x_is ∙ sym n.me));
              heard = subst (λ (y : ℕ). Heard y done.node s v) (sym n.me) has;
            })
            (λ x i f. record {
              node = other_later u w1 v later x.node (λ j. eq_not x.node.me.uid u i j) (moved_node x.node.me.uid x.node w w1.live f.node);
              accepted = f.accepted ∙ sym (same_count x.node.me.uid);
              heard = λ all j bytes b. heard_left x.node.me.uid j bytes (r x.node.me.uid j) (s x.node.me.uid j) v.connections (left_others u input r s gave x.node.me.uid j (λ q. eq_not x.node.me.uid u i q))
                  (heard_later (only u) w.connections v.connections later.conns later.still h.out.conns x.node.me.uid j bytes (r x.node.me.uid j) (f.heard (before all) j bytes b));
            }) g.live in
            record {
              live = subst (λ ls. Each (LiveFacts s v) ls) (sym leaves.live) lives;
              alone = λ y. subst (λ ls. count (has_uid y) ls ≤ 1) (sym leaves.live) (subst (λ (c : ℕ). c ≤ 1) (sym (uids y n.me)) (g.alone y));
              unstarted = λ y t.
                  (let was_not : was_started y w ≡ false = ap (λ us. list_any (λ other. other == y) us) (sym leaves.started) ∙ t in
                  let f : Unstarted y w = g.unstarted y was_not in
                  let apart : y ≡ u → ⊥ = λ j. (let c : 1 ≤ count (has_uid y) w.live = count_found (has_uid y) (has_uid u) w.live l found (ap (λ (x : ℕ). x == y) is_u ∙ ap (λ (x : ℕ). x == y) (sym j) ∙ eq_self y) in let z : count (has_uid y) w.live ≡ 0 = f.live in omega arith) in
                  record {
                    fresh = λ d. (let q : IsFresh y d w = f.fresh d in record {
                      pending = later.pending y d apart ∙ q.pending;
                      made = grow_count (only u) (is_dialed y d) (dialed_same (only u) y d) w.connections v.connections later.conns ∙ q.made;
                    });
                    far = same_count y ∙ f.far;
                    live = subst (λ ls. count (has_uid y) ls ≡ 0) (sym leaves.live) (uids y n.me ∙ f.live);
                    unnamed = later.unnamed y f.unnamed;
                    silent = λ x z q. later.sent x z (λ o. apart (sym q ∙ o)) ∙ f.silent x z q;
                  });
            });
      };
      conns = later.conns;
      going = later.going;
    }
  where
    uids : (y : ℕ) → (step input l.node).node.me.uid ≡ u → count (has_uid y) (change_first (has_uid u) (with_node (step input l.node).node) w.live) ≡ count (has_uid y) w.live
    uids y e = count_changed (has_uid y) (has_uid u) (with_node (step input l.node).node) w.live
        (λ x i. ap (λ (z : ℕ). z == y) (e ∙ sym (eq_true x.node.me.uid u (find_passes (has_uid u) w.live x i))))

pub gives_came : (u : ℕ) (input : Input) (r s : Rest) (w : Network) → ((q : Live whole) → live_of u w ≡ Some q → Arrives u input s w) → (live_of u w ≡ None → HoldsBut s w) → Gave u input r s → HoldsBut r w → Came s u w (gives u input w)
gives_came u input r s w a absent gave h = by (live_of u w) refl
  where
    by : (x : Option (Live whole)) → live_of u w ≡ x → Came s u w (by_found (λ l. follows u (step input l.node)) x w)
    by None e = record { holds = absent e; conns = grow_self (only u) w.connections; going = λ k. k }
    by (Some l) e = follows_came u input r s w l e (a l e) gave h
