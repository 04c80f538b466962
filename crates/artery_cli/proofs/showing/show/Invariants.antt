use Rattle.std.proofs.Common.{◌≤◌, ◌<◌, length}
use Rattle.artery_cli.proofs.ShownSoFar.{ShownSoFar}
use Rattle.artery_cli.proofs.showing.show.Given as goal

abbrev pub invariant-loop : goal.invariant-loop
invariant-loop g l = record {
  so_far : ShownSoFar (g.S.Source.left l.fn.input) (g.S.Source.left l.input) (g.K.Sink.held l.fn.output) (g.K.Sink.held l.output) l.capture l.seen;
  reads : g.S.Source.faults l.fn.input ≤ g.S.Source.faults l.input;
  later : g.K.Sink.faults l.fn.output ≤ g.K.Sink.faults l.output;
  room : 0 < length l.buffer;
}
