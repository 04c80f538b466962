use Rattle.std.proofs.Common.{◌∙◌}
use Rattle.artery_machine.specs.Ticking.{ticks_origin}
use Rattle.artery_ticking.proofs.Each.{each_next}
use Rattle.artery_ticking.proofs.tick.ticks_each_origin.Goals as goal

-- the next origin
pub loop-v-preserved : goal.loop-v-preserved
loop-v-preserved c =
    each_next c.loop-v.v-index c.args.origins.now c.v-item.result ticks_origin c.loop-v.work c.ticks_origin.new.work
    c.loop-v-test.true c.v-item.is c.in_ok-ticks_origin.ensures ∙ c.loop-v.invariant
