use Rattle.std.proofs.Common.{◌≡◌, ◌-◌, ◌≤◌, length, drop}
use Rattle.artery_text.specs.Reading.{later, scheme_end}
use Rattle.artery_text.proofs.address_text.find_scheme.Given as goal

abbrev pub invariant-loop-at : goal.invariant-loop-at
invariant-loop-at l = record {
  within : l.at ≤ length l.text;
  so_far : later l.at (scheme_end (drop l.at l.text)) ≡ scheme_end l.text;
}

abbrev pub decreases-loop-at : goal.decreases-loop-at
decreases-loop-at l = length l.text - l.at
