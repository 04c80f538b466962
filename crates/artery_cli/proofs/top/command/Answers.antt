use Rattle.std.proofs.Common.{sym, ◌∙◌}
use Rattle.std.specs.Prelude.{[], Some}
use Rattle.artery_cli.specs.Command.{command_of}
use Rattle.artery_cli.specs.declared.stop.Stop.TheVariants as stops
use Rattle.artery_cli.proofs.Results.{if_err, stops_with}
use Rattle.artery_cli.proofs.Stopping.{leaves_nothing_here, words_stop, words_answer}
use Rattle.artery_cli.proofs.top.command.Goals as goal

pub returns-in_err-command_of-clause-left : goal.returns-in_err-command_of-clause-left
returns-in_err-command_of-clause-left g c = stops_with c.from_residual.result stops.NoMemory _ c.from_residual.ensures (leaves_nothing_here c.nothing_told.ensures.lines (g.S.Source.left c.args.input.now) (command_of c.args.words.now) (g.K.Sink.held c.args.output.now))

pub returns-in-None-clause-answers : goal.returns-in-None-clause-answers
returns-in-None-clause-answers g c = words_answer (g.S.Source.left c.args.input.now) (command_of c.args.words.now) c.tell.result _ _ (sym c.in_ok-command_of.ensures ∙ c.in-None.is) c.tell.ensures.written c.tell.ensures.is_status

pub returns-in-None-clause-left : goal.returns-in-None-clause-left
returns-in-None-clause-left g c = if_err c.tell.result _ _ (λ stop w. words_stop (g.S.Source.left c.args.input.now) (command_of c.args.words.now) stop _ _ (sym c.in_ok-command_of.ensures ∙ c.in-None.is) w) c.tell.ensures.left

pub returns-in_err-command_of-clause-left_alone : goal.returns-in_err-command_of-clause-left_alone
returns-in_err-command_of-clause-left_alone g c = λ alone. stops_with c.from_residual.result stops.NoMemory _ c.from_residual.ensures (leaves_nothing_here c.nothing_told.ensures.lines (Some []) (command_of c.args.words.now) (g.K.Sink.held c.args.output.now))

pub returns-in-None-clause-left_alone : goal.returns-in-None-clause-left_alone
returns-in-None-clause-left_alone g c = λ alone. if_err c.tell.result _ _ (λ stop w. words_stop (Some []) (command_of c.args.words.now) stop _ _ (sym c.in_ok-command_of.ensures ∙ c.in-None.is) w) c.tell.ensures.left
