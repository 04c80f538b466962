use Rattle.std.proofs.Common.{length}
use Rattle.artery_frame.proofs.preamble.+mismatch.Given as goal

abbrev pub decreases-mismatch : goal.decreases-mismatch
decreases-mismatch l = length l.wanted.now
