use Rattle.std.proofs.Common.{◌≡◌, ◌++◌}
use Rattle.artery_generator.specs.Scripts.{last_up_to}
use Rattle.artery_generator.proofs.generator.settle_all.Given as goal

abbrev pub invariant-loop-done : goal.invariant-loop-done
invariant-loop-done l = (l.events.items ≡ l.fn.events.items ++ last_up_to l.n l.live l.done)
