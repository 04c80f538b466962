use Rattle.std.proofs.Common.{◌≡◌, ◌+◌, length}
use Rattle.artery_watch.specs.Watcher.{ids_at}
use Rattle.artery_watch.proofs.watches.count_in.Given as goal

abbrev pub invariant-loop-pair : goal.invariant-loop-pair
invariant-loop-pair l = l.count + length (ids_at l.address l.pair-iterator) ≡ length (ids_at l.address l.ids.entries)
