-- Names, and tests of them.
use Rattle.std.specs.Prelude.{ℕ, Bool, nat_eq, List}
use Rattle.std.specs.Cmp.Lexicographic.{pointwise}

-- Whether two names have the same bytes.
abbrev pub same_name : List ℕ → List ℕ → Bool
same_name = pointwise nat_eq

-- Whether two tables have the same names in the same order.
abbrev pub same_names : List (List ℕ) → List (List ℕ) → Bool
same_names = pointwise same_name
