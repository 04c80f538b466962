-- The next place from one place on at which a test is passed.
use Rattle.std.specs.Prelude.{◌≡◌, ℕ, ◌<◌, ◌≤◌, Bool, true, false, List, length, slice_get, Option, None, Some, IfSome}

-- Nothing that stands from one place on passes the test.
abbrev pub NonePasses : {X : Type 0} → (X → Bool) → ℕ → List X → Type 0
NonePasses test from xs = (k : ℕ) → from ≤ k → IfSome (slice_get xs k) (λ x. test x ≡ false)

-- What stands at a place passes the test, and nothing that stands before it, from one place on, does.
pub record IsFirst {X : Type 0} (test : X → Bool) (from : ℕ) (xs : List X) (at : ℕ) : Type 0 where
  pub later : from ≤ at
  pub within : at < length xs
  pub passes : IfSome (slice_get xs at) (λ x. test x ≡ true)
  pub first : (k : ℕ) → from ≤ k → k < at → IfSome (slice_get xs k) (λ x. test x ≡ false)

-- The answer is the first place from one place on at which the test is passed, and None where it is passed at none.
abbrev pub IsNext : {X : Type 0} → (X → Bool) → ℕ → List X → Option ℕ → Type 0
IsNext test from xs None = NonePasses test from xs
IsNext test from xs (Some at) = IsFirst test from xs at
