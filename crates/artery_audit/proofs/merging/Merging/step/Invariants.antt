use Rattle.std.proofs.Common.{◌≡◌, drop}
use Rattle.artery_audit.specs.Answers.{first_fitting}
use Rattle.artery_audit.specs.Merging.{IsUnder}
use Rattle.artery_audit.proofs.merging.Merging.step.Given as goal

abbrev pub invariant-loop-k : goal.invariant-loop-k
invariant-loop-k l = record {
  under : IsUnder l.self;
  parts : l.self.parts ≡ l.fn.self.parts;
  taken : l.self.taken ≡ l.fn.self.taken;
  passed : first_fitting l.self.merge l.self.parts ≡ first_fitting l.self.merge (drop l.k l.self.parts);
}
