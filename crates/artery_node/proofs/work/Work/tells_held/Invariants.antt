use Rattle.std.proofs.Common.{◌≡◌}
use Rattle.artery_machine.specs.Doing.{each, peer_becomes}
use Rattle.artery_machine.specs.Sending.{tells_on, without_held}
use Rattle.artery_node.proofs.work.Work.tells_held.Given as goal

abbrev pub invariant-loop-message : goal.invariant-loop-message
invariant-loop-message l = l.self ≡ each l.yielded (tells_on l.address l.dial) (peer_becomes l.fn.address without_held l.fn.self)
