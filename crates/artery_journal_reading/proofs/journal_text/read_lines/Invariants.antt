use Rattle.std.proofs.Common.{◌≡◌, ◌+◌, ◌≤◌, length}
use Rattle.artery_lines.specs.Lines.{lines_of, most_lines}
use Rattle.artery_journal_reading.specs.Reading.{line_of}
use Rattle.artery_journal_reading.specs.Journals.{items_from}
use Rattle.artery_journal_reading.proofs.Items.{behind}
use Rattle.artery_journal_reading.proofs.journal_text.read_lines.Given as goal

abbrev pub invariant-loop-told : goal.invariant-loop-told
invariant-loop-told l = record {
  so_far : behind l.lines (items_from line_of (l.n + 1) l.left) ≡ items_from line_of 1 (lines_of l.fn.text);
  few : l.n + length l.left ≤ most_lines;
}

abbrev pub decreases-loop-told : goal.decreases-loop-told
decreases-loop-told l = length l.left
