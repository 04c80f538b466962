-- Places where an origin is forgotten one after the other.
use Rattle.std.proofs.Common.{◌≡◌, ℕ, zero, suc, ◌+◌, ◌<◌, ◌≤◌, Bool, true, false, [], ◌∷◌, ◌++◌, length, take, drop, refl, ap, sym, ◌∙◌, true≢false, arith}
use Rattle.std.specs.Prelude.{Option, Some, None, is_some, ◌&&◌, ◌==◌, slice_get}
use Rattle.indexmap.specs.Layout.{set_value_at, length-set_value_at}
use Rattle.artery_base.specs.declared.address.UniqueAddress.{UniqueAddress}
use Rattle.artery_watch.specs.declared.remote.RemoteWatcher.{RemoteWatcher}
use Rattle.artery_watch.specs.Keys.{same_origin, same_address}
use Rattle.artery_watch.specs.Standing.{Places, left, left_of, one_of, count}

commute : (a b : Bool) → (a && b) ≡ (b && a)
commute true true = refl
commute true false = refl
commute false true = refl
commute false false = refl

pub both_ways : (a b : UniqueAddress) → ((a.uid == b.uid) && same_address a.address b.address) ≡ same_origin a b
both_ways a b = commute (a.uid == b.uid) (same_address a.address b.address)

-- the first i places are done
abbrev done_to : UniqueAddress → Places → ℕ → Places
done_to o old i = left_of o (take i old) ++ drop i old

some_is : (x y : RemoteWatcher × Option ℕ) → Some x ≡ Some y → x ≡ y
some_is x y e = ap (λ (o : Option (RemoteWatcher × Option ℕ)). elim o [ None ↦ x | Some z ↦ z ]) e

set_step : (o : UniqueAddress) (old : Places) (i : ℕ) (e : RemoteWatcher × Option ℕ) → slice_get (done_to o old i) i ≡ Some e → set_value_at (done_to o old i) i (left o e) ≡ done_to o old (suc i)
set_step o [] zero e h = absurd (true≢false (sym (ap is_some h)))
set_step o [] (suc i) e h = absurd (true≢false (sym (ap is_some h)))
set_step o (a ∷ old) zero e h = ap (λ (x : RemoteWatcher × Option ℕ). (a.0, left o x) ∷ old) (sym (some_is a e h))
set_step o (a ∷ old) (suc i) e h = ap (λ (r : Places). (a.0, left o a) ∷ r) (set_step o old i e h)

add_step : (o : UniqueAddress) (old : Places) (i : ℕ) (e : RemoteWatcher × Option ℕ) → slice_get (done_to o old i) i ≡ Some e → count (left_of o (take i old)) + one_of (left o e) ≡ count (left_of o (take (suc i) old))
add_step o [] zero e h = absurd (true≢false (sym (ap is_some h)))
add_step o [] (suc i) e h = absurd (true≢false (sym (ap is_some h)))
add_step o (a ∷ old) zero e h = omega (arith, ap (λ (x : RemoteWatcher × Option ℕ). one_of (left o x)) (some_is a e h))
add_step o (a ∷ old) (suc i) e h = omega (arith, add_step o old i e h)

next : (i : ℕ) → suc i ≡ i + 1
next i = omega arith

-- there is a place
found_at : (es : Places) (i : ℕ) → i + 1 ≤ length es → (e : RemoteWatcher × Option ℕ) × (slice_get es i ≡ Some e)
found_at [] i h = absurd (omega (arith, h))
found_at (e ∷ es) zero h = (e, refl)
found_at (e ∷ es) (suc i) h = found_at es i (omega (arith, h))

-- one place more is done
pub leave_step : (o : UniqueAddress) (old now new : Places) (i end : ℕ) → now ≡ left_of o (take i old) ++ drop i old → i < end → end ≡ length old → length now ≡ length old
    → ((e : RemoteWatcher × Option ℕ) → slice_get now i ≡ Some e → new ≡ set_value_at now i (left o e)) → new ≡ left_of o (take (i + 1) old) ++ drop (i + 1) old
leave_step o old now new i end is less len size set =
    let at = found_at now i (omega (arith, less, len, size)) in
    set at.0 at.1
    ∙ ap (λ (es : Places). set_value_at es i (left o at.0)) is
    ∙ set_step o old i at.0 (ap (λ (es : Places). slice_get es i) (sym is) ∙ at.1)
    ∙ ap (done_to o old) (next i)

pub count_step : (o : UniqueAddress) (old now : Places) (i end n m : ℕ) → now ≡ left_of o (take i old) ++ drop i old → i < end → end ≡ length old → length now ≡ length old → n ≡ count (left_of o (take i old))
    → ((e : RemoteWatcher × Option ℕ) → slice_get now i ≡ Some e → m ≡ one_of (left o e)) → n + m ≡ count (left_of o (take (i + 1) old))
count_step o old now i end n m is less len size c one =
    let at = found_at now i (omega (arith, less, len, size)) in
    omega (arith, c, one at.0 at.1, add_step o old i at.0 (ap (λ (es : Places). slice_get es i) (sym is) ∙ at.1), ap (λ n. count (left_of o (take n old))) (next i))

pub size_step : (o : UniqueAddress) (old now new : Places) (i end : ℕ) → i < end → end ≡ length old → length now ≡ length old → ((e : RemoteWatcher × Option ℕ) → slice_get now i ≡ Some e → new ≡ set_value_at now i (left o e)) → length new ≡ length old
size_step o old now new i end less len size set =
    let at = found_at now i (omega (arith, less, len, size)) in
    ap (λ (es : Places). length es) (set at.0 at.1) ∙ length-set_value_at now i (left o at.0) ∙ size

one_at_most : (v : Option ℕ) → one_of v ≤ 1
one_at_most None = omega arith
one_at_most (Some n) = omega arith

room : (o : UniqueAddress) (old : Places) (i : ℕ) → count (left_of o (take i old)) ≤ i
room o [] zero = omega arith
room o [] (suc i) = omega arith
room o (a ∷ old) zero = omega arith
room o (a ∷ old) (suc i) = omega (arith, one_at_most (left o a), room o old i)

pub count_fits : (o : UniqueAddress) (old now : Places) (i end n m : ℕ) → i < end → end ≡ length old → length now ≡ length old → n ≡ count (left_of o (take i old))
    → ((e : RemoteWatcher × Option ℕ) → slice_get now i ≡ Some e → m ≡ one_of (left o e)) → n + m ≤ end
count_fits o old now i end n m less len size c one =
    let at = found_at now i (omega (arith, less, len, size)) in
    omega (arith, less, c, one at.0 at.1, one_at_most (left o at.0), room o old i)
