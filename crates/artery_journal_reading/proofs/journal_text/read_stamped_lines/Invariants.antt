use Rattle.std.proofs.Common.{◌≡◌, ◌+◌, ◌≤◌, length}
use Rattle.artery_lines.specs.Lines.{most_lines}
use Rattle.artery_journal_reading.specs.Reading.{stamped_of}
use Rattle.artery_journal_reading.specs.Journals.{items_from}
use Rattle.artery_journal_reading.proofs.Items.{behind}
use Rattle.artery_journal_reading.proofs.journal_text.read_stamped_lines.Given as goal

abbrev pub invariant-loop-told : goal.invariant-loop-told
invariant-loop-told l = record {
  so_far : behind l.lines (items_from stamped_of (l.n + 1) l.left) ≡ items_from stamped_of 2 l.fn.left;
  few : l.n + length l.left ≤ most_lines + 1;
}

abbrev pub decreases-loop-told : goal.decreases-loop-told
decreases-loop-told l = length l.left
