use Rattle.std.proofs.Common.{◌≡◌, drop}
use Rattle.artery_machine.specs.Doing.{each}
use Rattle.artery_machine.specs.Ticking.{ticks_origin}
use Rattle.artery_ticking.proofs.tick.ticks_each_origin.Given as goal

abbrev pub invariant-loop-v : goal.invariant-loop-v
invariant-loop-v l = each (drop l.v-index l.origins) ticks_origin l.work ≡ each l.fn.origins ticks_origin l.fn.work
