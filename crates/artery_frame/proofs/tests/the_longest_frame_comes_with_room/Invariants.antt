use Rattle.std.proofs.Common.{◌≡◌, true}
use Rattle.artery_frame.proofs.tests.the_longest_frame_comes_with_room.Given as goal

abbrev pub invariant-loop-piece : goal.invariant-loop-piece
invariant-loop-piece g l = l.deframer.has_room ≡ true
