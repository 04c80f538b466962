use Rattle.std.proofs.Common.{◌≡◌}
use Rattle.artery_machine.specs.World.{times, settles_next}
use Rattle.artery_world.proofs.network.Network.settles_most.Given as goal

abbrev pub invariant-loop-left : goal.invariant-loop-left
invariant-loop-left l = times l.left settles_next l.self ≡ times l.fn.count settles_next l.fn.self

abbrev pub decreases-loop-left : goal.decreases-loop-left
decreases-loop-left l = l.left
