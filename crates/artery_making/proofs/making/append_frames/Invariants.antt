use Rattle.std.proofs.Common.{◌≡◌, ◌+◌, ◌≤◌, length}
use Rattle.artery_lines.specs.Lines.{most_lines}
use Rattle.artery_making.specs.Made.{before_others, frames_from}
use Rattle.artery_making.proofs.making.append_frames.Given as goal

abbrev pub invariant-loop-line : goal.invariant-loop-line
invariant-loop-line l = record {
  so_far : before_others l.out (frames_from (l.n + 1) l.left) ≡ before_others l.fn.front (frames_from 2 l.fn.lines);
  few : l.n + length l.left ≤ most_lines + 1;
}

abbrev pub decreases-loop-line : goal.decreases-loop-line
decreases-loop-line l = length l.left
