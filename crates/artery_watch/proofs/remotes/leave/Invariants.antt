use Rattle.std.proofs.Common.{◌≡◌, ◌++◌, take, drop, length}
use Rattle.artery_watch.specs.Standing.{left_of, count}
use Rattle.artery_watch.proofs.remotes.leave.Given as goal

abbrev pub invariant-loop-at : goal.invariant-loop-at
invariant-loop-at l = record {
  entries : l.places.entries ≡ left_of l.origin (take l.at l.fn.places.entries) ++ drop l.at l.fn.places.entries;
  count : l.standing ≡ count (left_of l.origin (take l.at l.fn.places.entries));
  len : l.at-end ≡ length l.fn.places.entries;
  size : length l.places.entries ≡ length l.fn.places.entries;
}
