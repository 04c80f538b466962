-- The top table of the names that were counted.
use Rattle.std.specs.Prelude.{ℕ, Bool, not, ◌+◌, nat_lt, min, List, [], ◌∷◌, length, take, map, if◌then◌else◌}
use Rattle.std.specs.List.{filter}
use Rattle.artery_tables.specs.Names.{same_name}

-- The distinct names of a list, in the order of their first places.
abbrev pub distinct : List (List ℕ) → List (List ℕ)
distinct [] = []
distinct (name ∷ names) = name ∷ filter (λ other. not (same_name name other)) (distinct names)

-- How often a name stands in a list, at most 4,294,967,295.
abbrev pub frequency : List (List ℕ) → List ℕ → ℕ
frequency uses name = min 4294967295 (length (filter (same_name name) uses))

-- Each distinct name with its frequency, in the order of their first places.
abbrev pub frequencies : List (List ℕ) → List (List ℕ × ℕ)
frequencies uses = map (λ name. (name, frequency uses name)) (distinct uses)

-- An entry in a list by frequency: before the first one that is not more frequent.
abbrev pub placed : {N : Type 0} → N × ℕ → List (N × ℕ) → List (N × ℕ)
placed entry [] = entry ∷ []
placed entry (other ∷ others) = if nat_lt entry.1 other.1 then other ∷ placed entry others else entry ∷ other ∷ others

-- The entries by frequency, the greatest first. Those that are as frequent as each other keep their order.
abbrev pub ranked : {N : Type 0} → List (N × ℕ) → List (N × ℕ)
ranked [] = []
ranked (entry ∷ entries) = placed entry (ranked entries)

-- The names of the first 256 entries by frequency.
abbrev pub first_ranked : List (List ℕ × ℕ) → List (List ℕ)
first_ranked entries = map (λ entry. entry.0) (take 256 (ranked entries))

-- The top table: the distinct names counted, the more frequent first, ties by first use, the first 256 of them.
abbrev pub top_table : List (List ℕ) → List (List ℕ)
top_table uses = first_ranked (frequencies uses)
