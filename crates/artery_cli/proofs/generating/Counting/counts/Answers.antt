use Rattle.std.proofs.Common.{◌+◌, drop, subst}
use Rattle.std.specs.Prelude.{Option}
use Rattle.artery_script.specs.declared.event.Event.{Event}
use Rattle.artery_machine.specs.declared.world.WorldFault.{WorldFault}
use Rattle.artery_cli.specs.Playing.{CountsOne}
use Rattle.artery_cli.proofs.Counted.{counts_first, counts_next, counts_stop}
use Rattle.artery_cli.proofs.PlayingLemmas.{line_is_first}
use Rattle.artery_cli.proofs.generating.Counting.counts.Goals as goal

pub loop-line-init : goal.loop-line-init
loop-line-init c = record { so_far = counts_first c.args.script.now c.args.self.now.world c.args.self.now.tally c.requires.new c.requires.none }

pub returns-in-Ok-Some-clause-counts : goal.returns-in-Ok-Some-clause-counts
returns-in-Ok-Some-clause-counts c =
    let P : Option WorldFault → Type 0 = λ o. CountsOne c.line-item.result.event o c.loop-line.self.world c.counts_one.new.self.world c.loop-line.self.tally c.counts_one.new.self.tally in
    let Q : Event → Type 0 = λ e. CountsOne e c.in-Ok-Some.field-0 c.loop-line.self.world c.counts_one.new.self.world c.loop-line.self.tally c.counts_one.new.self.tally in
    counts_stop (record { event = c.a_network_goes_on.ensures.event; refusal = c.a_network_goes_on.ensures.refusal; script = c.a_network_goes_on.ensures.script })
    c.args.script.now (drop c.loop-line.line-index c.args.script.now) (drop (c.loop-line.line-index + 1) c.args.script.now) c.line-item.result c.loop-line.self.world c.counts_one.new.self.world c.loop-line.self.tally c.counts_one.new.self.tally c.in-Ok-Some.fault
    c.loop-line.invariant.so_far
    (line_is_first c.as_slice-line-items.result.now c.args.script.now c.loop-line.line-index c.line-item.result c.as_slice-line-items.ensures c.loop-line-test.true c.line-item.is)
    (subst P c.in-Ok-Some.field-0-is (subst Q c.in_ok-event.ensures c.in-Ok-Some.ensures.counts))

pub loop-line-preserved : goal.loop-line-preserved
loop-line-preserved c =
    let P : Option WorldFault → Type 0 = λ o. CountsOne c.line-item.result.event o c.loop-line.self.world c.counts_one.new.self.world c.loop-line.self.tally c.counts_one.new.self.tally in
    let Q : Event → Type 0 = λ e. CountsOne e c.in-Ok-None.field-0 c.loop-line.self.world c.counts_one.new.self.world c.loop-line.self.tally c.counts_one.new.self.tally in
    record {
      so_far = counts_next (record { event = c.a_network_goes_on.ensures.event; refusal = c.a_network_goes_on.ensures.refusal; script = c.a_network_goes_on.ensures.script })
          c.args.script.now (drop c.loop-line.line-index c.args.script.now) (drop (c.loop-line.line-index + 1) c.args.script.now) c.line-item.result c.loop-line.self.world c.counts_one.new.self.world c.loop-line.self.tally c.counts_one.new.self.tally
          c.loop-line.invariant.so_far
          (line_is_first c.as_slice-line-items.result.now c.args.script.now c.loop-line.line-index c.line-item.result c.as_slice-line-items.ensures c.loop-line-test.true c.line-item.is)
          (subst P c.in-Ok-None.field-0-is (subst Q c.in_ok-event.ensures c.in-Ok-None.ensures.counts));
    }
