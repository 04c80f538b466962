-- Connections on which the sides of one incarnation end, one after the other.
use Rattle.std.proofs.Common.{◌≡◌, ℕ, zero, suc, ◌+◌, ◌<◌, ◌==◌, true, false, List, [], ◌∷◌, ◌++◌, length, map, take, drop, set, slice_get, Some, None, refl, sym, ◌∙◌, ap, arith, add-one, set-set}
use Rattle.std.specs.Prelude.{Option}
use Rattle.std.proofs.lemmas.List.{set-get_or}
use Rattle.std.proofs.lemmas.Option.{slice_get_within, get_or_from_slice_get}
use Rattle.artery_machine.specs.Lists.{change_at, put_at}
use Rattle.artery_machine.specs.Ways.{kept_ways}
use Rattle.artery_machine.specs.Connections.{Connection, near_ended, far_ended, ended_with}
use Rattle.artery_connections.proofs.Changed.{there}

change_found : {X : Type 0} (f : X → X) (xs : List X) (i : ℕ) (x : X) → slice_get xs i ≡ Some x → change_at i f xs ≡ set xs i (f x)
change_found f xs i x at = ap (put_at i f xs) at

module _ (uid : ℕ) (cs : List (Connection kept_ways)) (i : ℕ) (x : Connection kept_ways) (at : slice_get cs i ≡ Some x) where
  pub both_end : (x.far == uid) ≡ true → (x.dialer == uid) ≡ true → change_at i near_ended (change_at i far_ended cs) ≡ change_at i (ended_with uid) cs
  both_end a b =
      ap (change_at i near_ended) (change_found far_ended cs i x at)
      ∙ change_found near_ended (set cs i (far_ended x)) i (far_ended x) (there cs i i (far_ended x) (slice_get_within cs i x at) refl)
      ∙ set-set cs i (far_ended x) (near_ended (far_ended x))
      ∙ sym (change_found (ended_with uid) cs i x at ∙ rw (a, b) refl)

  pub far_ends : (x.far == uid) ≡ true → (x.dialer == uid) ≡ false → change_at i far_ended cs ≡ change_at i (ended_with uid) cs
  far_ends a b = change_found far_ended cs i x at ∙ sym (change_found (ended_with uid) cs i x at ∙ rw (a, b) refl)

  pub near_ends : (x.far == uid) ≡ false → (x.dialer == uid) ≡ true → change_at i near_ended cs ≡ change_at i (ended_with uid) cs
  near_ends a b = change_found near_ended cs i x at ∙ sym (change_found (ended_with uid) cs i x at ∙ rw (a, b) refl)

  pub none_ends : (x.far == uid) ≡ false → (x.dialer == uid) ≡ false → cs ≡ change_at i (ended_with uid) cs
  none_ends a b =
      sym (change_found (ended_with uid) cs i x at ∙ rw (a, b) refl ∙ ap (set cs i) (sym (get_or_from_slice_get cs i x x at)) ∙ set-get_or cs i x)

behind : {X : Type 0} (f : X → X) (y : X) (ys : List X) (i : ℕ) → change_at (suc i) f (y ∷ ys) ≡ y ∷ change_at i f ys
behind {X} f y ys i = by (slice_get ys i)
  where
    by : (o : Option X) → put_at (suc i) f (y ∷ ys) o ≡ y ∷ put_at i f ys o
    by None = refl
    by (Some x) = refl

next_done : {X : Type 0} (f : X → X) (old : List X) (i : ℕ) → i < length old → change_at i f (map f (take i old) ++ drop i old) ≡ map f (take (suc i) old) ++ drop (suc i) old
next_done f [] i within = absurd (omega arith)
next_done f (x ∷ xs) zero within = refl
next_done f (x ∷ xs) (suc i) within =
    behind f (f x) (map f (take i xs) ++ drop i xs) i ∙ ap (λ (ys : List _). f x ∷ ys) (next_done f xs i (omega arith))

-- one connection more
pub one_more : {X : Type 0} (f : X → X) (old xs new : List X) (i : ℕ) → xs ≡ map f (take i old) ++ drop i old → i < length old → new ≡ change_at i f xs → new ≡ map f (take (i + 1) old) ++ drop (i + 1) old
one_more f old xs new i done within is =
    is ∙ ap (change_at i f) done ∙ next_done f old i within ∙ ap (λ (n : ℕ). map f (take n old) ++ drop n old) (sym (add-one i))
