use Rattle.std.proofs.Common.{◌≡◌, ◌++◌, take, drop, length}
use Rattle.artery_watch.specs.Watcher.{forgotten, remote_count}
use Rattle.artery_watch.proofs.actors.forget_in.Given as goal

abbrev pub invariant-loop-at : goal.invariant-loop-at
invariant-loop-at l = record {
  entries : l.map.entries ≡ forgotten l.origin (take l.at l.fn.map.entries) ++ drop l.at l.fn.map.entries;
  count : l.count ≡ remote_count (forgotten l.origin (take l.at l.fn.map.entries));
  len : l.at-end ≡ length l.fn.map.entries;
  size : length l.map.entries ≡ length l.fn.map.entries;
}
