-- The first place at which a test passes, and tests of numbers.
use Rattle.std.proofs.Common.{◌≡◌, ℕ, suc, ◌+◌, ◌≤◌, Bool, true, false, not, cond, eqb, ltb, List, [], ◌∷◌, length, Some, None, refl, arith}
use Rattle.std.specs.Prelude.{position}
use Rattle.std.specs.List.{list_all, prefix_len, position_or_len}
use Rattle.std.proofs.lemmas.Bool.{ltb-false}
use Rattle.std.proofs.lemmas.Bool.Decides.{nat_tests}

full_step : (t : Bool) (n k : ℕ) → suc n ≤ cond t (1 + k) 0 → (t ≡ true) × (n ≤ k)
full_step true n k h = (refl, omega arith)
full_step false n k h = absurd (omega arith)

full_prefix : (q : ℕ → Bool) (xs : List ℕ) → length xs ≤ prefix_len q xs → list_all q xs ≡ true
full_prefix q [] h = refl
full_prefix q (x ∷ xs) h =
    let s = full_step (q x) (length xs) (prefix_len q xs) h in
    rw (s.0, full_prefix q xs s.1) refl

no_some : (t : Bool) (n : ℕ) → cond t (Some n) None ≡ None → t ≡ false
no_some true n h = absurd cc
no_some false n h = refl

-- a test that passes nowhere
pub position_none : (p : ℕ → Bool) (xs : List ℕ) → position p xs ≡ None → list_all (λ x. not (p x)) xs ≡ true
position_none p xs h =
    full_prefix (λ x. not (p x)) xs (ltb-false _ _ (no_some (ltb (position_or_len p xs) (length xs)) (position_or_len p xs) h))

-- a value that stands where a test passes
pub when_some : {X : Type 0} (b : Bool) (m n : X) → cond b (Some m) None ≡ Some n → (b ≡ true) × (m ≡ n)
when_some true m n h = (refl, cc)
when_some false m n h = absurd cc

pub not_zero : (n : ℕ) → eqb (suc n) 0 ≡ false
not_zero n = grind (arith, nat_tests)
