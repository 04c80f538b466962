-- The map of a value that is made with its first entry.
use Rattle.std.specs.Prelude.{List, [], Option, Some, None}
use Rattle.indexmap.specs.IndexMap.{IndexMap}

-- The entries of the map, if there is one.
abbrev pub entries_in : {K V S : Type 0} → Option (IndexMap K V S) → List (K × V)
entries_in None = []
entries_in (Some map) = map.entries
