use Rattle.std.specs.Prelude.{[], Some}
use Rattle.artery_cli.specs.declared.stop.Stop.TheVariants as stops
use Rattle.artery_cli.proofs.Results.{stops_with}
use Rattle.artery_cli.proofs.Stopping.{leaves_nothing_here}
use Rattle.artery_cli.proofs.top.obey.Goals as goal

pub returns-in_err-buffer-clause-left : goal.returns-in_err-buffer-clause-left
returns-in_err-buffer-clause-left g c = stops_with c.from_residual.result stops.NoMemory _ c.from_residual.ensures (leaves_nothing_here c.nothing_told.ensures.lines (g.S.Source.left c.args.input.now) (Some c.args.command.now) (g.K.Sink.held c.args.output.now))

pub returns-in_err-buffer-clause-left_alone : goal.returns-in_err-buffer-clause-left_alone
returns-in_err-buffer-clause-left_alone g c = λ alone. stops_with c.from_residual.result stops.NoMemory _ c.from_residual.ensures (leaves_nothing_here c.nothing_told.ensures.lines (Some []) (Some c.args.command.now) (g.K.Sink.held c.args.output.now))
