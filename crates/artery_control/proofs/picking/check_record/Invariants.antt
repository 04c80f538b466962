use Rattle.std.proofs.Common.{◌≡◌, length}
use Rattle.artery_wire.specs.Reader.{fields_left}
use Rattle.artery_wire.specs.Reading.{fields_of}
use Rattle.artery_control.proofs.picking.check_record.Given as goal

abbrev pub decreases-loop-fault : goal.decreases-loop-fault
decreases-loop-fault l = length (fields_left l.cursor).0

abbrev pub invariant-loop-fault : goal.invariant-loop-fault
invariant-loop-fault l = (fields_left l.cursor).1 ≡ (fields_of l.bytes).1
