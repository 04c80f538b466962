use Rattle.std.proofs.Common.{◌∙◌}
use Rattle.artery_cli.specs.declared.stop.Stop.TheVariants as stops
use Rattle.artery_cli.proofs.Replayed.{all_told, end_missing}
use Rattle.artery_cli.proofs.Results.{if_ok, stops_with}
use Rattle.artery_cli.proofs.replaying.replay.Goals as goal

pub returns-in_err-text-clause-left : goal.returns-in_err-text-clause-left
returns-in_err-text-clause-left g c =
    stops_with c.from_residual-in_err-text.result stops.NoMemory _ c.from_residual-in_err-text.ensures
    (end_missing c.a_network_is_whole.ensures c.args.form c.args.script.now c.in_ok-stop.stop c.plays.new.self.world c.as_slice.result.now _ _ _
    (c.as_slice.ensures ∙ c.in_ok-front.ensures) c.in_ok-put.ensures.written c.in_ok-stop.ensures.plays)

pub returns-clause-answers : goal.returns-clause-answers
returns-clause-answers g c =
    if_ok c.tell.result _ _ (λ answer a.
    all_told c.a_network_is_whole.ensures c.args.form c.args.script.now c.in_ok-stop.stop c.plays.new.self.world c.as_slice.result.now c.as_slice-2.result.now c.status_of.result answer _ _ _ _
    (c.as_slice.ensures ∙ c.in_ok-front.ensures) c.in_ok-put.ensures.written c.in_ok-stop.ensures.plays (c.as_slice-2.ensures ∙ c.in_ok-text.ensures) a.written c.status_of.ensures.value a.is_status)
    (c.tell.ensures.ends c.status_of.ensures.plain).answers
