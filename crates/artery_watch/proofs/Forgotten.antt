-- Actors whose remote watches from an origin are removed one actor after the other.
use Rattle.std.proofs.Common.{◌≡◌, ℕ, zero, suc, ◌+◌, ◌≤◌, Bool, true, false, List, [], ◌∷◌, ◌++◌, length, take, drop, ap, sym, ◌∙◌, true≢false, arith}
use Rattle.std.specs.Prelude.{Option, Some, None, is_some, not, slice_get, if◌then◌else◌}
use Rattle.std.specs.Map.{values_of}
use Rattle.indexmap.specs.Layout.{set_value_at, length-set_value_at}
use Rattle.artery_base.specs.declared.address.UniqueAddress.{UniqueAddress}
use Rattle.artery_watch.specs.declared.remote.RemoteWatcher.{RemoteWatcher}
use Rattle.artery_watch.specs.Keys.{same_origin}
use Rattle.artery_watch.specs.Watcher.{Actors, remote_count, not_from, forgotten}

-- the first i actors are done
abbrev pub done_to : UniqueAddress → Actors → ℕ → Actors
done_to o old i = forgotten o (take i old) ++ drop i old

some_is : {X : Type 0} (x y : X) → Some x ≡ Some y → x ≡ y
some_is x y e = ap (λ (o : Option _). elim o [ None ↦ x | Some z ↦ z ]) e

set_step : (o : UniqueAddress) (old : Actors) (i : ℕ) (v : List RemoteWatcher) → slice_get (values_of (done_to o old i)) i ≡ Some v
    → set_value_at (done_to o old i) i (not_from o v) ≡ done_to o old (suc i)
set_step o [] zero v h = absurd (true≢false (sym (ap is_some h)))
set_step o [] (suc i) v h = absurd (true≢false (sym (ap is_some h)))
set_step o (a ∷ old) zero v h = ap (λ (r : List RemoteWatcher). (a.0, not_from o r) ∷ old) (sym (some_is a.1 v h))
set_step o (a ∷ old) (suc i) v h = ap (λ (r : Actors). (a.0, not_from o a.1) ∷ r) (set_step o old i v h)

add_step : (o : UniqueAddress) (old : Actors) (i : ℕ) (v : List RemoteWatcher) → slice_get (values_of (done_to o old i)) i ≡ Some v
    → remote_count (forgotten o (take i old)) + length (not_from o v) ≡ remote_count (forgotten o (take (suc i) old))
add_step o [] zero v h = absurd (true≢false (sym (ap is_some h)))
add_step o [] (suc i) v h = absurd (true≢false (sym (ap is_some h)))
add_step o (a ∷ old) zero v h = omega (arith, ap (λ (r : List RemoteWatcher). length (not_from o r)) (some_is a.1 v h))
add_step o (a ∷ old) (suc i) v h = omega (arith, add_step o old i v h)

next : (i : ℕ) → suc i ≡ i + 1
next i = omega arith

pub forget_step : (o : UniqueAddress) (old now : Actors) (i : ℕ) (v w : List RemoteWatcher) → now ≡ forgotten o (take i old) ++ drop i old → slice_get (values_of now) i ≡ Some v → w ≡ not_from o v
    → set_value_at now i w ≡ forgotten o (take (i + 1) old) ++ drop (i + 1) old
forget_step o old now i v w is at new =
    ap (λ r. set_value_at now i r) new
    ∙ ap (λ (r : Actors). set_value_at r i (not_from o v)) is
    ∙ set_step o old i v (ap (λ (r : Actors). slice_get (values_of r) i) (sym is) ∙ at)
    ∙ ap (done_to o old) (next i)

pub count_step : (o : UniqueAddress) (old now : Actors) (i : ℕ) (v : List RemoteWatcher) → now ≡ forgotten o (take i old) ++ drop i old → slice_get (values_of now) i ≡ Some v
    → remote_count (forgotten o (take i old)) + length (not_from o v) ≡ remote_count (forgotten o (take (i + 1) old))
count_step o old now i v is at =
    add_step o old i v (ap (λ (r : Actors). slice_get (values_of r) i) (sym is) ∙ at) ∙ ap (λ n. remote_count (forgotten o (take n old))) (next i)

fewer : (o : UniqueAddress) (remotes : List RemoteWatcher) → length (not_from o remotes) ≤ length remotes
fewer o [] = omega arith
fewer o (r ∷ rs) = by (not (same_origin o r.origin)) (fewer o rs)
  where
    by : (b : Bool) → length (not_from o rs) ≤ length rs → length (if b then r ∷ not_from o rs else not_from o rs) ≤ length (r ∷ rs)
    by true h = omega (arith, h)
    by false h = omega (arith, h)

pub count_room : (o : UniqueAddress) (old : Actors) (i : ℕ) → remote_count (forgotten o (take i old)) ≤ remote_count old
count_room o [] zero = omega arith
count_room o [] (suc i) = omega arith
count_room o (a ∷ old) zero = omega arith
count_room o (a ∷ old) (suc i) = omega (arith, fewer o a.1, count_room o old i)

pub same_length : (actors : Actors) (i : ℕ) (w : List RemoteWatcher) → length (set_value_at actors i w) ≡ length actors
same_length actors i w = length-set_value_at actors i w
