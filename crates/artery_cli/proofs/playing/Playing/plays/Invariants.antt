use Rattle.std.proofs.Common.{◌≤◌, drop}
use Rattle.artery_cli.proofs.PlayingLemmas.{PlayedSoFar}
use Rattle.artery_cli.proofs.playing.Playing.plays.Given as goal

abbrev pub invariant-loop-line : goal.invariant-loop-line
invariant-loop-line g l = record {
  so_far : PlayedSoFar l.form l.script (drop l.line-index l.script) l.self.world (g.K.Sink.held l.fn.output) (g.K.Sink.held l.output);
  later : g.K.Sink.faults l.fn.output ≤ g.K.Sink.faults l.output;
}
