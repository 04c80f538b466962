-- Walks over the connections of a network, and rounds.
use Rattle.std.proofs.Common.{◌≡◌, ℕ, zero, suc, ◌+◌, ◌-◌, ◌<◌, ◌≤◌, Bool, true, false, cond, refl, sym, ◌∙◌, ap, arith}
use Rattle.std.specs.Prelude.{Option, None, Some, IfSome, is_some, is_none, slice_get, ◌&&◌, ◌==◌}
use Rattle.artery_machine.specs.declared.world.WorldLimit.{WorldLimit}
use Rattle.artery_machine.specs.Parts.{kept}
use Rattle.artery_machine.specs.Ways.{kept_ways}
use Rattle.artery_machine.specs.Connections.{Connection, is_loaded, far_open}
use Rattle.artery_machine.specs.World.{World, going_on, times, each_place, by_found, by_connection, where_it, carries_all, cuts, ends_far}
use Rattle.artery_connections.specs.Next.{IsNext}
use Rattle.artery_world.specs.Acting.{KeptChange, is_near_of, is_far_of}

abbrev Net : Type 0
Net = World kept kept_ways

-- One time more.
pub once_more : (k : ℕ) (f : KeptChange) (w v : Net) → 0 < k → v ≡ going_on f w → times (k - 1) f v ≡ times k f w
once_more zero f w v h e = absurd (omega arith)
once_more (suc k) f w v h e =
    let less : suc k - 1 ≡ k = omega arith in
    ap (λ n. times n f v) less ∙ ap (times k f) e

-- A network that has ended stays as it is.
going_stays : (f : KeptChange) (w : Net) → is_some w.ended ≡ true → going_on f w ≡ w
going_stays f w h = by w.ended h
  where
    by : (o : Option WorldLimit) → is_some o ≡ true → cond (is_none o) (f w) w ≡ w
    by None h0 = absurd cc
    by (Some limit) e = refl

going_on_is : (f : KeptChange) (w : Net) → is_some w.ended ≡ false → going_on f w ≡ f w
going_on_is f w h = by w.ended h
  where
    by : (o : Option WorldLimit) → is_some o ≡ false → cond (is_none o) (f w) w ≡ f w
    by None e = refl
    by (Some limit) h0 = absurd cc

pub ended_stays : (from count : ℕ) (f : ℕ → KeptChange) (w : Net) → is_some w.ended ≡ true → each_place from count f w ≡ w
ended_stays from zero f w h = refl
ended_stays from (suc count) f w h = ap (each_place (from + 1) count f) (going_stays (f from) w h) ∙ ended_stays (from + 1) count f w h

-- A connection that does not pass the test changes nothing.
not_it : (test : Connection kept_ways → Bool) (change : ℕ → Connection kept_ways → KeptChange) (place : ℕ) (w : Net)
    → IfSome (slice_get w.connections place) (λ c. test c ≡ false) → going_on (by_connection (where_it test change) place) w ≡ w
not_it test change place w h = at_end w.ended (by (slice_get w.connections place) h)
  where
    by : (o : Option (Connection kept_ways)) → IfSome o (λ c. test c ≡ false) → by_found (where_it test change place) o w ≡ w
    by None e = refl
    by (Some c) e = ap (λ (b : Bool). cond b (change place c) (λ v. v) w) e

    at_end : (o : Option WorldLimit) {x : Net} → x ≡ w → cond (is_none o) x w ≡ w
    at_end None e = e
    at_end (Some limit) e = refl

-- Places at which the test fails are passed over.
skips : (test : Connection kept_ways → Bool) (change : ℕ → Connection kept_ways → KeptChange) (k from n : ℕ) (w : Net)
    → ((j : ℕ) → from ≤ j → j < from + k → IfSome (slice_get w.connections j) (λ c. test c ≡ false))
    → each_place from (k + n) (by_connection (where_it test change)) w ≡ each_place (from + k) n (by_connection (where_it test change)) w
skips test change zero from n w h =
    let none : 0 + n ≡ n = omega arith in
    let e : from ≡ from + 0 = omega arith in
    ap (λ m. each_place from m (by_connection (where_it test change)) w) none ∙ ap (λ m. each_place m n (by_connection (where_it test change)) w) e
skips test change (suc k) from n w h =
    let e : (from + 1) + k ≡ from + suc k = omega arith in
    let one : suc k + n ≡ suc (k + n) = omega arith in
    ap (λ m. each_place from m (by_connection (where_it test change)) w) one
    ∙ ap (each_place (from + 1) (k + n) (by_connection (where_it test change))) (not_it test change from w (h from (omega arith) (omega arith)))
    ∙ skips test change k (from + 1) n w (λ j a b. h j (omega arith) (omega arith))
    ∙ ap (λ m. each_place m n (by_connection (where_it test change)) w) e

implied : (test0 test : Connection kept_ways → Bool) → ((c : Connection kept_ways) → test0 c ≡ false → test c ≡ false)
    → (o : Option (Connection kept_ways)) → IfSome o (λ c. test0 c ≡ false) → IfSome o (λ c. test c ≡ false)
implied test0 test imp None h = h
implied test0 test imp (Some c) h = imp c h

-- The next turn of a walk, at the first place where something passes.
turn : (test0 test : Connection kept_ways → Bool) (change : ℕ → Connection kept_ways → KeptChange) → ((c : Connection kept_ways) → test0 c ≡ false → test c ≡ false)
    → (from made place : ℕ) (w v : Net) → IsNext test0 from w.connections (Some place) → place < made → is_some w.ended ≡ false
    → v ≡ by_connection (where_it test change) place w
    → each_place (place + 1) (made - (place + 1)) (by_connection (where_it test change)) v ≡ each_place from (made - from) (by_connection (where_it test change)) w
turn test0 test change imp from made place w v first below on is =
    let later : from ≤ place = first.later in
    let far : from + (place - from) ≡ place = omega arith in
    let count : (place - from) + suc (made - (place + 1)) ≡ made - from = omega arith in
    ap (each_place (place + 1) (made - (place + 1)) step) (is ∙ sym (going_on_is (step place) w on))
    ∙ ap (λ m. each_place m (suc (made - (place + 1))) step w) (sym far)
    ∙ sym (skips test change (place - from) from (suc (made - (place + 1))) w (λ j a b. implied test0 test imp (slice_get w.connections j) (first.first j a (omega arith))))
    ∙ ap (λ n. each_place from n step w) count
  where
    step : ℕ → KeptChange
    step = by_connection (where_it test change)

-- A walk is done where nothing passes any more.
done : (test0 test : Connection kept_ways → Bool) (change : ℕ → Connection kept_ways → KeptChange) → ((c : Connection kept_ways) → test0 c ≡ false → test c ≡ false)
    → (from made : ℕ) (w : Net) → ((j : ℕ) → from ≤ j → j < made → IfSome (slice_get w.connections j) (λ c. test0 c ≡ false)) → from ≤ made
    → w ≡ each_place from (made - from) (by_connection (where_it test change)) w
done test0 test change imp from made w none within =
    let count : (made - from) + 0 ≡ made - from = omega arith in
    sym (ap (λ n. each_place from n (by_connection (where_it test change)) w) (sym count)
    ∙ skips test change (made - from) from 0 w (λ j a b. implied test0 test imp (slice_get w.connections j) (none j a (omega arith))))

none_left : (test : Connection kept_ways → Bool) (from made : ℕ) (w : Net) → IsNext test from w.connections None
    → (j : ℕ) → from ≤ j → j < made → IfSome (slice_get w.connections j) (λ c. test c ≡ false)
none_left test from made w next j a b = next j a

none_before : (test : Connection kept_ways → Bool) (from made place : ℕ) (w : Net) → IsNext test from w.connections (Some place) → made ≤ place
    → (j : ℕ) → from ≤ j → j < made → IfSome (slice_get w.connections j) (λ c. test c ≡ false)
none_before test from made place w next past j a b = next.first j a (omega arith)

and_false : (a b : Bool) → b ≡ false → (a && b) ≡ false
and_false true b e = e
and_false false b e = refl

-- ---- connections with undelivered bytes

pub loaded_turn : (from made place : ℕ) (w v : Net) → IsNext is_loaded from w.connections (Some place) → place < made → is_some w.ended ≡ false
    → v ≡ by_connection (where_it is_loaded carries_all) place w
    → each_place (place + 1) (made - (place + 1)) (by_connection (where_it is_loaded carries_all)) v ≡ each_place from (made - from) (by_connection (where_it is_loaded carries_all)) w
loaded_turn = turn is_loaded is_loaded carries_all (λ c e. e)

pub loaded_done : (from made : ℕ) (w : Net) → IsNext is_loaded from w.connections None → from ≤ made
    → w ≡ each_place from (made - from) (by_connection (where_it is_loaded carries_all)) w
loaded_done from made w next within = done is_loaded is_loaded carries_all (λ c e. e) from made w (none_left is_loaded from made w next) within

pub loaded_past : (from made place : ℕ) (w : Net) → IsNext is_loaded from w.connections (Some place) → made ≤ place → from ≤ made
    → w ≡ each_place from (made - from) (by_connection (where_it is_loaded carries_all)) w
loaded_past from made place w next past within = done is_loaded is_loaded carries_all (λ c e. e) from made w (none_before is_loaded from made place w next past) within

-- ---- open near sides

pub near_turn : (uid from made place : ℕ) (w v : Net) → IsNext (λ (c : Connection kept_ways). c.near_open) from w.connections (Some place) → place < made → is_some w.ended ≡ false
    → v ≡ by_connection (where_it (is_near_of uid) cuts) place w
    → each_place (place + 1) (made - (place + 1)) (by_connection (where_it (is_near_of uid) cuts)) v ≡ each_place from (made - from) (by_connection (where_it (is_near_of uid) cuts)) w
near_turn uid = turn (λ (c : Connection kept_ways). c.near_open) (is_near_of uid) cuts (λ c e. and_false (c.dialer == uid) c.near_open e)

pub near_done : (uid from made : ℕ) (w : Net) → IsNext (λ (c : Connection kept_ways). c.near_open) from w.connections None → from ≤ made
    → w ≡ each_place from (made - from) (by_connection (where_it (is_near_of uid) cuts)) w
near_done uid from made w next within =
    done (λ (c : Connection kept_ways). c.near_open) (is_near_of uid) cuts (λ c e. and_false (c.dialer == uid) c.near_open e) from made w (none_left (λ (c : Connection kept_ways). c.near_open) from made w next) within

pub near_past : (uid from made place : ℕ) (w : Net) → IsNext (λ (c : Connection kept_ways). c.near_open) from w.connections (Some place) → made ≤ place → from ≤ made
    → w ≡ each_place from (made - from) (by_connection (where_it (is_near_of uid) cuts)) w
near_past uid from made place w next past within =
    done (λ (c : Connection kept_ways). c.near_open) (is_near_of uid) cuts (λ c e. and_false (c.dialer == uid) c.near_open e) from made w (none_before (λ (c : Connection kept_ways). c.near_open) from made place w next past) within

-- ---- open far sides

pub far_turn : (uid from made place : ℕ) (w v : Net) → IsNext far_open from w.connections (Some place) → place < made → is_some w.ended ≡ false
    → v ≡ by_connection (where_it (is_far_of uid) ends_far) place w
    → each_place (place + 1) (made - (place + 1)) (by_connection (where_it (is_far_of uid) ends_far)) v ≡ each_place from (made - from) (by_connection (where_it (is_far_of uid) ends_far)) w
far_turn uid = turn far_open (is_far_of uid) ends_far (λ c e. and_false (c.dialer == uid) (far_open c) e)

pub far_done : (uid from made : ℕ) (w : Net) → IsNext far_open from w.connections None → from ≤ made
    → w ≡ each_place from (made - from) (by_connection (where_it (is_far_of uid) ends_far)) w
far_done uid from made w next within =
    done far_open (is_far_of uid) ends_far (λ c e. and_false (c.dialer == uid) (far_open c) e) from made w (none_left far_open from made w next) within

pub far_past : (uid from made place : ℕ) (w : Net) → IsNext far_open from w.connections (Some place) → made ≤ place → from ≤ made
    → w ≡ each_place from (made - from) (by_connection (where_it (is_far_of uid) ends_far)) w
far_past uid from made place w next past within =
    done far_open (is_far_of uid) ends_far (λ c e. and_false (c.dialer == uid) (far_open c) e) from made w (none_before far_open from made place w next past) within
