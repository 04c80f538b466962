-- A rule for each of a list, one after the other.
use Rattle.std.proofs.Common.{◌≡◌, ℕ, zero, suc, ◌+◌, ◌<◌, List, [], ◌∷◌, ◌++◌, length, drop, get_or, refl, ap, sym, ◌∙◌, arith}
use Rattle.artery_machine.specs.Parts.{kept}
use Rattle.artery_machine.specs.Doing.{Doing, Rule, in_bytes, each}

pub drop_one : {X : Type 0} (i : ℕ) (xs : List X) (x other : X) → i < length xs → x ≡ get_or xs i other → drop i xs ≡ x ∷ drop (suc i) xs
drop_one i [] x other h e = absurd (omega arith)
drop_one zero (y ∷ ys) x other h e = ap (λ z. z ∷ ys) (sym e)
drop_one (suc i) (y ∷ ys) x other h e = drop_one i ys x other (omega arith) e

-- The next of them, read with another where there is none.
pub each_at : {X : Type 0} (i : ℕ) (xs : List X) (other : X) (r : X → Rule kept in_bytes) (d e : Doing kept in_bytes) → i < length xs → e ≡ r (get_or xs i other) d → each (drop (i + 1) xs) r e ≡ each (drop i xs) r d
each_at i xs other r d e h is =
    let step : i + 1 ≡ suc i = omega arith in
    rw step (ap (each (drop (suc i) xs) r) is ∙ ap (λ ys. each ys r d) (sym (drop_one i xs (get_or xs i other) other h refl)))

-- The next of them.
pub each_next : {X : Type 0} (i : ℕ) (xs : List X) (x : X) (r : X → Rule kept in_bytes) (d : Doing kept in_bytes) → i < length xs → x ≡ get_or xs i x → each (drop (i + 1) xs) r (r x d) ≡ each (drop i xs) r d
each_next i xs x r d h e =
    let step : i + 1 ≡ suc i = omega arith in
    rw step (ap (λ ys. each ys r d) (sym (drop_one i xs x x h e)))

-- One more, behind the others.
pub each_last : {X : Type 0} (xs : List X) (x : X) (r : X → Rule kept in_bytes) (d : Doing kept in_bytes) → each (xs ++ x ∷ []) r d ≡ r x (each xs r d)
each_last [] x r d = refl
each_last (y ∷ ys) x r d = each_last ys x r (r y d)
