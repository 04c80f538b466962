-- Numbers that are listed one after the other.
use Rattle.std.proofs.Common.{◌≡◌, ℕ, zero, suc, ◌+◌, ◌-◌, ◌<◌, List, [], ◌∷◌, ◌++◌, refl, ap, sym, ◌∙◌, arith}
use Rattle.std.proofs.lemmas.List.{append_assoc}
use Rattle.artery_machine.specs.Ticking.{numbers_from}

first_of : (i n : ℕ) → 0 < n → numbers_from i n ≡ i ∷ numbers_from (i + 1) (n - 1)
first_of i zero h = absurd (omega arith)
first_of i (suc n) h = let less : suc n - 1 ≡ n = omega arith in rw less refl

-- Once another one is listed, those that follow begin one later.
pub one_more : (xs : List ℕ) (i n : ℕ) → i < n → (xs ++ i ∷ []) ++ numbers_from (i + 1) (n - (i + 1)) ≡ xs ++ numbers_from i (n - i)
one_more xs i n h =
    let less : n - (i + 1) ≡ (n - i) - 1 = omega arith in
    rw less (append_assoc xs (i ∷ []) _ ∙ ap (λ ys. xs ++ ys) (sym (first_of i (n - i) (omega arith))))
