use Rattle.std.proofs.Common.{◌≡◌}
use Rattle.artery_machine.specs.Doing.{times}
use Rattle.artery_machine.specs.Sending.{pumps_one, pumps}
use Rattle.artery_node.proofs.work.Work.pumps.Given as goal

abbrev pub invariant-loop-left : goal.invariant-loop-left
invariant-loop-left l = times l.left (pumps_one l.address) l.self ≡ pumps l.fn.address l.fn.self

abbrev pub decreases-loop-left : goal.decreases-loop-left
decreases-loop-left l = l.left
