use Rattle.std.proofs.Common.{◌+◌, drop, subst, arith}
use Rattle.std.specs.Prelude.{Option}
use Rattle.artery_script.specs.declared.event.Event.{Event}
use Rattle.artery_machine.specs.declared.world.WorldFault.{WorldFault}
use Rattle.artery_cli.specs.declared.stop.Stop.TheVariants as stops
use Rattle.artery_cli.specs.Playing.{PlaysOne, StopsOne}
use Rattle.artery_cli.proofs.PlayingLemmas.{plays_first, plays_next, plays_no_further, plays_stop, plays_stopped, line_is_first}
use Rattle.artery_cli.proofs.Results.{stops_with}
use Rattle.artery_cli.proofs.playing.Playing.plays.Goals as goal

pub loop-line-init : goal.loop-line-init
loop-line-init g c = record {
  so_far = plays_first c.args.form c.args.script.now c.args.self.now.world (g.K.Sink.held c.args.output.now) c.requires.new;
  later = omega arith;
}

pub returns-in_err-event-clause-left : goal.returns-in_err-event-clause-left
returns-in_err-event-clause-left g c =
    stops_with c.from_residual.result stops.NoMemory _ c.from_residual.ensures
    (plays_no_further (record { event = c.a_network_goes_on.ensures.event; refusal = c.a_network_goes_on.ensures.refusal; script = c.a_network_goes_on.ensures.script })
    c.args.form c.args.script.now (drop c.loop-line.line-index c.args.script.now) c.loop-line.self.world _ _ c.loop-line.invariant.so_far)

pub returns-in-Ok-Some-clause-plays : goal.returns-in-Ok-Some-clause-plays
returns-in-Ok-Some-clause-plays g c =
    let P : Option WorldFault → Type 0 = λ o. PlaysOne c.args.form c.line-item.result.event o c.loop-line.self.world c.plays_one.new.self.world (g.K.Sink.held c.loop-line.output) (g.K.Sink.held c.plays_one.new.output) in
    let Q : Event → Type 0 = λ e. PlaysOne c.args.form e c.in-Ok-Some.field-0 c.loop-line.self.world c.plays_one.new.self.world (g.K.Sink.held c.loop-line.output) (g.K.Sink.held c.plays_one.new.output) in
    plays_stop (record { event = c.a_network_goes_on.ensures.event; refusal = c.a_network_goes_on.ensures.refusal; script = c.a_network_goes_on.ensures.script })
    c.args.form c.args.script.now (drop c.loop-line.line-index c.args.script.now) (drop (c.loop-line.line-index + 1) c.args.script.now) c.line-item.result c.loop-line.self.world c.plays_one.new.self.world _ _ _ c.in-Ok-Some.fault
    c.loop-line.invariant.so_far
    (line_is_first c.as_slice-line-items.result.now c.args.script.now c.loop-line.line-index c.line-item.result c.as_slice-line-items.ensures c.loop-line-test.true c.line-item.is)
    (subst P c.in-Ok-Some.field-0-is (subst Q c.in_ok-event.ensures c.in-Ok-Some.ensures.plays))

pub returns-in-Err-clause-left : goal.returns-in-Err-clause-left
returns-in-Err-clause-left g c =
    let Q : Event → Type 0 = λ e. StopsOne c.in-Err.stop c.args.form e c.loop-line.self.world (g.K.Sink.held c.loop-line.output) (g.K.Sink.held c.plays_one.new.output) in
    plays_stopped (record { event = c.a_network_goes_on.ensures.event; refusal = c.a_network_goes_on.ensures.refusal; script = c.a_network_goes_on.ensures.script })
    c.args.form c.args.script.now (drop c.loop-line.line-index c.args.script.now) (drop (c.loop-line.line-index + 1) c.args.script.now) c.line-item.result c.loop-line.self.world _ _ _ c.in-Err.stop
    c.loop-line.invariant.so_far
    (line_is_first c.as_slice-line-items.result.now c.args.script.now c.loop-line.line-index c.line-item.result c.as_slice-line-items.ensures c.loop-line-test.true c.line-item.is)
    (subst Q c.in_ok-event.ensures c.in-Err.ensures.left)

pub loop-line-preserved : goal.loop-line-preserved
loop-line-preserved g c =
    let P : Option WorldFault → Type 0 = λ o. PlaysOne c.args.form c.line-item.result.event o c.loop-line.self.world c.plays_one.new.self.world (g.K.Sink.held c.loop-line.output) (g.K.Sink.held c.plays_one.new.output) in
    let Q : Event → Type 0 = λ e. PlaysOne c.args.form e c.in-Ok-None.field-0 c.loop-line.self.world c.plays_one.new.self.world (g.K.Sink.held c.loop-line.output) (g.K.Sink.held c.plays_one.new.output) in
    record {
      so_far = plays_next (record { event = c.a_network_goes_on.ensures.event; refusal = c.a_network_goes_on.ensures.refusal; script = c.a_network_goes_on.ensures.script })
          c.args.form c.args.script.now (drop c.loop-line.line-index c.args.script.now) (drop (c.loop-line.line-index + 1) c.args.script.now) c.line-item.result c.loop-line.self.world c.plays_one.new.self.world _ _ _
          c.loop-line.invariant.so_far
          (line_is_first c.as_slice-line-items.result.now c.args.script.now c.loop-line.line-index c.line-item.result c.as_slice-line-items.ensures c.loop-line-test.true c.line-item.is)
          (subst P c.in-Ok-None.field-0-is (subst Q c.in_ok-event.ensures c.in-Ok-None.ensures.plays));
      later = omega (arith, c.in-Ok-None.ensures.later);
    }
