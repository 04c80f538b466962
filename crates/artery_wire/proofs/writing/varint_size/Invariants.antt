use Rattle.std.proofs.Common.{◌≡◌, ◌+◌, length}
use Rattle.artery_wire.specs.Writing.{varint_of}
use Rattle.artery_wire.proofs.writing.varint_size.Given as goal

abbrev pub decreases-loop-left : goal.decreases-loop-left
decreases-loop-left l = l.left

abbrev pub invariant-loop-left : goal.invariant-loop-left
invariant-loop-left l = l.size + length (varint_of l.left) ≡ length (varint_of l.value) + 1
