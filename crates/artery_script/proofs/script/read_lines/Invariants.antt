use Rattle.std.proofs.Common.{◌≡◌, ◌+◌, ◌≤◌, length}
use Rattle.artery_lines.specs.Lines.{lines_of}
use Rattle.artery_script.specs.Scripts.{most_lines, script_line, items_from}
use Rattle.artery_script.proofs.Items.{behind}
use Rattle.artery_script.proofs.script.read_lines.Given as goal

abbrev pub invariant-loop-line : goal.invariant-loop-line
invariant-loop-line l = record {
  so_far : behind l.script (items_from script_line (l.n + 1) l.left) ≡ items_from script_line 1 (lines_of l.fn.text);
  few : l.n + length l.left ≤ most_lines;
}

abbrev pub decreases-loop-line : goal.decreases-loop-line
decreases-loop-line l = length l.left
