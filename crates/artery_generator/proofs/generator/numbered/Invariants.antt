use Rattle.std.proofs.Common.{◌≡◌, ◌+◌, ◌^◌, ◌<◌, ◌++◌, length}
use Rattle.artery_generator.specs.Scripts.{numbered_from}
use Rattle.artery_generator.proofs.generator.numbered.Given as goal

abbrev pub invariant-loop-event : goal.invariant-loop-event
invariant-loop-event l = record {
  so_far : l.script ++ numbered_from (l.line + 1) l.left.items ≡ numbered_from 1 l.fn.events.items;
  count : l.line + length l.left.items ≡ length l.fn.events.items;
  few : length l.fn.events.items < 2 ^ 64;
}

abbrev pub decreases-loop-event : goal.decreases-loop-event
decreases-loop-event l = length l.left.items
