use Rattle.std.proofs.Common.{◌≡◌, ℕ, List, length, take}
use Rattle.artery_frame.specs.Standing.{Stands}
use Rattle.artery_capture.proofs.Showing.{UnderWay}
use Rattle.artery_capture.proofs.capture.put_frames.Given as goal

abbrev pub invariant-loop-progress : goal.invariant-loop-progress
invariant-loop-progress l = record {
  room : l.deframer.has_room ≡ l.fn.deframer.has_room;
  under_way : (fed : List ℕ) (given : List (List ℕ)) → Stands l.fn.deframer fed given → UnderWay l.deframer fed given l.fn.out l.out;
  kept : take (length l.fn.out) l.out ≡ l.fn.out;
}

abbrev pub decreases-loop-progress : goal.decreases-loop-progress
decreases-loop-progress l = length l.deframer.rest
