use Rattle.std.proofs.Common.{◌≡◌, ◌+◌, ◌≤◌, [], length}
use Rattle.artery_lines.specs.Lines.{lines_of, most_lines}
use Rattle.artery_parts_reading.specs.Gathering.{IsGathering}
use Rattle.artery_parts_reading.proofs.Turns.{parts_from as going_on}
use Rattle.artery_parts_reading.proofs.reading.parts_from.Given as goal

abbrev pub invariant-loop-told : goal.invariant-loop-told
invariant-loop-told l = record {
  gathering : IsGathering l.gathered;
  so_far : going_on l.gathered.parts (l.n + 1) l.left ≡ going_on [] 1 (lines_of l.fn.text);
  few : l.n + length l.left ≤ most_lines;
}

abbrev pub decreases-loop-told : goal.decreases-loop-told
decreases-loop-told l = length l.left
