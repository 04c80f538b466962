-- The map of the counts, which is made when the first name is counted.
use Rattle.std.specs.Prelude.{ℕ, List, [], Option, Some, None}
use Rattle.indexmap.specs.IndexMap.{IndexMap}

-- The entries of a map of names, if there is one.
abbrev pub entries_in : {S : Type 0} → Option (IndexMap (List ℕ) ℕ S) → List (List ℕ × ℕ)
entries_in None = []
entries_in (Some map) = map.entries
