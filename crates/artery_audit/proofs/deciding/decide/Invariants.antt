use Rattle.std.proofs.Common.{◌≡◌, length}
use Rattle.artery_audit.specs.Parts.{are_parts}
use Rattle.artery_audit.proofs.deciding.decide.Given as goal

abbrev pub invariant-loop-left : goal.invariant-loop-left
invariant-loop-left l = record {
  same : are_parts l.left ≡ are_parts l.fn.parts;
}

abbrev pub decreases-loop-left : goal.decreases-loop-left
decreases-loop-left l = length l.left
