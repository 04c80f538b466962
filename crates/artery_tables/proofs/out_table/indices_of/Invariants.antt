use Rattle.std.proofs.Common.{◌≡◌, drop}
use Rattle.std.specs.List.{zip}
use Rattle.indexmap.specs.IndexMap.{insert_all}
use Rattle.artery_tables.specs.Names.{same_name}
use Rattle.artery_tables.specs.OutTable.{indices_of}
use Rattle.artery_tables.proofs.out_table.indices_of.Given as goal

abbrev pub invariant-loop-at : goal.invariant-loop-at
invariant-loop-at l = insert_all same_name l.indices.entries (zip (drop l.at l.keys) (drop l.at l.values)) ≡ indices_of l.keys l.values
