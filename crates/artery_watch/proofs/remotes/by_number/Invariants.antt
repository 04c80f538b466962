use Rattle.std.proofs.Common.{◌≡◌, ◌≤◌, drop, length}
use Rattle.artery_watch.specs.Standing.{in_order, watchers_by}
use Rattle.artery_watch.proofs.remotes.by_number.Given as goal

abbrev pub decreases-loop-at : goal.decreases-loop-at
decreases-loop-at l = l.at

abbrev pub invariant-loop-at : goal.invariant-loop-at
invariant-loop-at l = record {
  within : l.at ≤ length l.places.entries;
  found : l.found.entries ≡ watchers_by (in_order (drop l.at l.places.entries));
}
