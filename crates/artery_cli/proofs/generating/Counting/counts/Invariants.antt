use Rattle.std.proofs.Common.{drop}
use Rattle.artery_cli.proofs.Counted.{CountedSoFar}
use Rattle.artery_cli.proofs.generating.Counting.counts.Given as goal

abbrev pub invariant-loop-line : goal.invariant-loop-line
invariant-loop-line l = record {
  so_far : CountedSoFar l.script (drop l.line-index l.script) l.self.world l.self.tally;
}
