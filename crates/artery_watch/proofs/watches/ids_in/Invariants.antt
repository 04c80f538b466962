use Rattle.std.proofs.Common.{◌≡◌, ◌++◌}
use Rattle.artery_watch.specs.Watcher.{ids_at}
use Rattle.artery_watch.proofs.watches.ids_in.Given as goal

abbrev pub invariant-loop-pair : goal.invariant-loop-pair
invariant-loop-pair l = l.found ++ ids_at l.address l.pair-iterator ≡ ids_at l.address l.ids.entries
