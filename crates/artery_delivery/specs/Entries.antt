-- The map of an Inbound, which is made when the first origin is opened.
use Rattle.std.specs.Prelude.{ℕ, List, [], Option, Some, None}
use Rattle.indexmap.specs.IndexMap.{IndexMap}
use Rattle.artery_base.specs.declared.address.UniqueAddress.{UniqueAddress}

-- The entries of the map, if there is one.
abbrev pub entries_in : {S : Type 0} → Option (IndexMap UniqueAddress ℕ S) → List (UniqueAddress × ℕ)
entries_in None = []
entries_in (Some map) = map.entries
