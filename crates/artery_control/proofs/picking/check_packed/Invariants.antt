use Rattle.std.proofs.Common.{◌≡◌, length}
use Rattle.artery_wire.specs.Reader.{numbers_left}
use Rattle.artery_wire.specs.Reading.{numbers_of}
use Rattle.artery_control.proofs.picking.check_packed.Given as goal

abbrev pub decreases-loop-fault : goal.decreases-loop-fault
decreases-loop-fault l = length (numbers_left l.cursor).0

abbrev pub invariant-loop-fault : goal.invariant-loop-fault
invariant-loop-fault l = (numbers_left l.cursor).1 ≡ (numbers_of l.bytes).1
