use Rattle.std.proofs.Common.{◌≡◌, ◌++◌, drop}
use Rattle.std.specs.Prelude.{map}
use Rattle.artery_wire.specs.Writing.{record_bytes, uint_field, BeginsWith}
use Rattle.artery_control.proofs.writing.append_values.Given as goal

abbrev pub invariant-loop-value : goal.invariant-loop-value
invariant-loop-value l = record {
  whole : l.out ++ record_bytes (map (uint_field 5) (drop l.value-index l.values)) ≡ l.fn.out ++ record_bytes (map (uint_field 5) l.values);
  kept : BeginsWith l.fn.out l.out;
}
