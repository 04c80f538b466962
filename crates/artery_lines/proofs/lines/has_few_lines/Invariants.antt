use Rattle.std.proofs.Common.{◌≡◌, ◌+◌, ◌≤◌, length}
use Rattle.artery_lines.specs.Lines.{most_lines}
use Rattle.artery_lines.specs.Lines.{lines_of}
use Rattle.artery_lines.proofs.lines.has_few_lines.Given as goal

abbrev pub invariant-loop-line : goal.invariant-loop-line
invariant-loop-line l = record {
  counted : l.count + length l.left ≡ length (lines_of l.fn.text);
  few : l.count ≤ most_lines;
}

abbrev pub decreases-loop-line : goal.decreases-loop-line
decreases-loop-line l = length l.left
