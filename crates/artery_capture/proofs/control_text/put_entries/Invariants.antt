use Rattle.std.proofs.Common.{◌≡◌, ◌-◌, ◌++◌, length, take, drop}
use Rattle.artery_capture.specs.ControlText.{entries_text}
use Rattle.artery_capture.proofs.control_text.put_entries.Given as goal

abbrev pub invariant-loop-at : goal.invariant-loop-at
invariant-loop-at l = record {
  so_far : l.out ++ entries_text (drop l.at l.keys) (drop l.at l.values) ≡ l.fn.out ++ entries_text l.keys l.values;
  kept : take (length l.fn.out) l.out ≡ l.fn.out;
}

abbrev pub decreases-loop-at : goal.decreases-loop-at
decreases-loop-at l = length l.keys - l.at
