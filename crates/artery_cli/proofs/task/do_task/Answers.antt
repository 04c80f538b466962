use Rattle.std.proofs.Common.{subst}
use Rattle.std.specs.Prelude.{IfSome}
use Rattle.artery_cli.specs.declared.input.Gathered.{Gathered}
use Rattle.artery_cli.specs.Reading.{Gathers}
use Rattle.artery_cli.proofs.Results.{if_err}
use Rattle.artery_cli.proofs.Stopping.{long_stops}
use Rattle.artery_cli.proofs.task.do_task.Goals as goal

pub returns-in-TooLong-clause-left : goal.returns-in-TooLong-clause-left
returns-in-TooLong-clause-left g c =
    let P : Gathered → Type 0 = λ x. IfSome (g.S.Source.left c.args.input.now) (λ text. Gathers x text) in
    if_err c.refuse.result _ _ (λ stop w. long_stops (g.S.Source.left c.args.input.now) stop c.args.task.now _ _ (subst P c.in-TooLong.is c.in_ok-text.ensures.whole) w) c.refuse.ensures.left
