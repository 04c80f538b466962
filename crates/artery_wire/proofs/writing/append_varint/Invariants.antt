use Rattle.std.proofs.Common.{◌≡◌, ◌++◌}
use Rattle.artery_wire.specs.Writing.{varint_of, BeginsWith}
use Rattle.artery_wire.proofs.writing.append_varint.Given as goal

abbrev pub decreases-loop-left : goal.decreases-loop-left
decreases-loop-left l = l.left

abbrev pub invariant-loop-left : goal.invariant-loop-left
invariant-loop-left l = record {
  whole : l.out ++ varint_of l.left ≡ l.fn.out ++ varint_of l.value;
  kept : BeginsWith l.fn.out l.out;
}
