use Rattle.std.proofs.Common.{◌≡◌, ◌++◌, drop}
use Rattle.std.specs.Prelude.{map}
use Rattle.artery_wire.specs.Writing.{record_bytes, bytes_field, BeginsWith}
use Rattle.artery_control.proofs.writing.append_keys.Given as goal

abbrev pub invariant-loop-key : goal.invariant-loop-key
invariant-loop-key l = record {
  whole : l.out ++ record_bytes (map (bytes_field 4) (drop l.key-index l.keys)) ≡ l.fn.out ++ record_bytes (map (bytes_field 4) l.keys);
  kept : BeginsWith l.fn.out l.out;
}
