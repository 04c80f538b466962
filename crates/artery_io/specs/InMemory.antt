-- Objects in memory, of which the calls with given numbers fail.
use Rattle.std.specs.Prelude.{ℕ, ◌+◌, ◌-◌, ◌^◌, ◌==◌, min, Bool, List}
use Rattle.std.specs.List.{list_any}

-- a source in memory: the bytes that are left, the numbers of the reads that fail, how many reads there were, and how many failed
pub record Reading : Type 0 where
  pub left : List ℕ
  pub failing : List ℕ
  pub calls : ℕ
  pub faults : ℕ

-- a sink in memory: the bytes that it holds, the numbers of the writes that fail, how many writes there were, and how many failed
pub record Writing : Type 0 where
  pub held : List ℕ
  pub failing : List ℕ
  pub calls : ℕ
  pub faults : ℕ

-- a count goes on by one, and stays at the end of its type
abbrev pub one_more : ℕ → ℕ
one_more count = min (count + 1) (2 ^ 64 - 1)

-- calls count from 1; the next one fails where its number is listed
abbrev pub next_fails : List ℕ → ℕ → Bool
next_fails failing calls = list_any (λ n. n == one_more calls) failing
