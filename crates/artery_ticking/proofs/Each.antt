-- Rules that follow one another, and a rule for each of a list.
use Rattle.std.proofs.Common.{◌≡◌, ℕ, zero, suc, ◌+◌, ◌<◌, List, [], ◌∷◌, ◌++◌, length, drop, get_or, refl, ap, sym, ◌∙◌, arith}
use Rattle.artery_machine.specs.Parts.{kept}
use Rattle.artery_machine.specs.Doing.{Doing, Rule, in_bytes, ◌▸◌, each}

drop_one : {X : Type 0} (i : ℕ) (xs : List X) (x other : X) → i < length xs → x ≡ get_or xs i other → drop i xs ≡ x ∷ drop (suc i) xs
drop_one i [] x other h e = absurd (omega arith)
drop_one zero (y ∷ ys) x other h e = ap (λ z. z ∷ ys) (sym e)
drop_one (suc i) (y ∷ ys) x other h e = drop_one i ys x other (omega arith) e

-- The next of them.
pub each_next : {X : Type 0} (i : ℕ) (xs : List X) (x : X) (r : X → Rule kept in_bytes) (d e : Doing kept in_bytes) → i < length xs → x ≡ get_or xs i x → e ≡ r x d → each (drop (i + 1) xs) r e ≡ each (drop i xs) r d
each_next i xs x r d e h at is =
    let step : i + 1 ≡ suc i = omega arith in
    rw step (ap (each (drop (suc i) xs) r) is ∙ ap (λ ys. each ys r d) (sym (drop_one i xs x x h at)))

-- Six rules, one after the other.
pub six : (r s t u v w : Rule kept in_bytes) (d d1 d2 d3 d4 d5 d6 : Doing kept in_bytes)
    → d1 ≡ r d → d2 ≡ s d1 → d3 ≡ t d2 → d4 ≡ u d3 → d5 ≡ v d4 → d6 ≡ w d5 → d6 ≡ (r ▸ s ▸ t ▸ u ▸ v ▸ w) d
six r s t u v w d d1 d2 d3 d4 d5 d6 e1 e2 e3 e4 e5 e6 = e6 ∙ ap w (e5 ∙ ap v (e4 ∙ ap u (e3 ∙ ap t (e2 ∙ ap s e1))))
