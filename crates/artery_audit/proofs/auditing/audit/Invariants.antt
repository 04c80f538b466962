use Rattle.std.proofs.Common.{◌≡◌}
use Rattle.artery_audit.specs.Merging.{IsUnder, unmerged}
use Rattle.artery_audit.proofs.auditing.audit.Given as goal

abbrev pub invariant-loop-merging : goal.invariant-loop-merging
invariant-loop-merging l = record {
  under : IsUnder l.merging;
  parts : l.merging.parts ≡ l.parts;
}

abbrev pub decreases-loop-merging : goal.decreases-loop-merging
decreases-loop-merging l = unmerged l.merging.parts l.merging.taken
