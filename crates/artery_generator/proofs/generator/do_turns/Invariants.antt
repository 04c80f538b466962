use Rattle.std.proofs.Common.{◌≡◌, ◌++◌}
use Rattle.artery_generator.specs.Turns.{drawn, live_after_turns}
use Rattle.artery_generator.specs.Scripts.{turns_up_to}
use Rattle.artery_generator.proofs.generator.do_turns.Given as goal

abbrev pub invariant-loop-done : goal.invariant-loop-done
invariant-loop-done l = record {
  drawn_so_far : l.generator.drawn ≡ drawn l.n l.done;
  live : l.generator.live ≡ live_after_turns l.n l.done;
  so_far : l.events.items ≡ l.fn.events.items ++ turns_up_to l.n l.done;
}
