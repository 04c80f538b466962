use Rattle.std.proofs.Common.{◌≤◌, drop, length}
use Rattle.artery_watch.specs.Standing.{IsRising}
use Rattle.artery_watch.proofs.remotes.are_in_order.Given as goal

abbrev pub decreases-loop-at : goal.decreases-loop-at
decreases-loop-at l = l.at

abbrev pub invariant-loop-at : goal.invariant-loop-at
invariant-loop-at l = record { within : l.at ≤ length l.places.entries; rising : IsRising l.low (drop l.at l.places.entries) }
