use Rattle.std.proofs.Common.{◌≡◌, drop}
use Rattle.artery_audit.specs.Answers.{first_left}
use Rattle.artery_audit.specs.Merging.{cut_of}
use Rattle.artery_audit.proofs.merging.Merging.first_stuck.Given as goal

abbrev pub invariant-loop-k : goal.invariant-loop-k
invariant-loop-k l = record {
  used : first_left (cut_of l.self.merge) l.self.parts ≡ first_left (cut_of l.self.merge) (drop l.k l.self.parts);
}
