use Rattle.std.proofs.Common.{◌≡◌}
use Rattle.artery_machine.specs.World.{times, passes_once}
use Rattle.artery_world.proofs.network.Network.passes.Given as goal

abbrev pub invariant-loop-left : goal.invariant-loop-left
invariant-loop-left l = times l.left passes_once l.self ≡ times l.fn.rounds passes_once l.fn.self

abbrev pub decreases-loop-left : goal.decreases-loop-left
decreases-loop-left l = l.left
