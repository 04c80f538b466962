use Rattle.std.specs.Prelude.{[], Some}
use Rattle.artery_cli.proofs.Generated.{generate_stops}
use Rattle.artery_cli.proofs.top.generate.Goals as goal

pub returns-clause-left : goal.returns-clause-left
returns-clause-left g c =
    generate_stops (g.S.Source.left c.args.input.now) c.args.number c.tell_generated.result (g.K.Sink.held c.args.output.now) (g.K.Sink.held c.tell_generated.new.output) c.tell_generated.ensures.left

pub returns-clause-left_alone : goal.returns-clause-left_alone
returns-clause-left_alone g c =
    generate_stops (Some []) c.args.number c.tell_generated.result (g.K.Sink.held c.args.output.now) (g.K.Sink.held c.tell_generated.new.output) c.tell_generated.ensures.left
