use Rattle.std.proofs.Common.{◌≡◌, length}
use Rattle.artery_machine.specs.World.{each}
use Rattle.artery_world.specs.Acting.{acts}
use Rattle.artery_world.proofs.network.Network.acts_all.Given as goal

abbrev pub invariant-loop-left : goal.invariant-loop-left
invariant-loop-left l = each l.left.items (acts l.fn.uid l.fn.moment) l.self ≡ each l.fn.effects.items (acts l.fn.uid l.fn.moment) l.fn.self

abbrev pub decreases-loop-left : goal.decreases-loop-left
decreases-loop-left l = length l.left.items
