use Rattle.std.proofs.Common.{◌∙◌, subst}
use Rattle.artery_cli.specs.Answers.{Answer}
use Rattle.artery_cli.specs.Telling.{AnswersOrStops}
use Rattle.artery_cli.proofs.Counted.{summed_so}
use Rattle.artery_cli.proofs.generating.tell_sum.Goals as goal

pub returns : goal.returns
returns g c =
    subst (λ (a : Answer). AnswersOrStops a c.tell.result (g.K.Sink.held c.args.output.now) (g.K.Sink.held c.tell.new.output) (g.K.Sink.faults c.args.output.now) (g.K.Sink.faults c.tell.new.output))
    (summed_so c.a_network_is_whole.ensures c.args.script.now c.in_ok-stop.stop c.counts.new.self.tally c.as_slice.result.now c.status_of.result
    c.in_ok-stop.ensures.counts (c.as_slice.ensures ∙ c.in_ok-text.ensures) c.status_of.ensures.value)
    (c.tell.ensures.ends c.status_of.ensures.plain)
