use Rattle.std.proofs.Common.{◌∙◌}
use Rattle.artery_machine.specs.Ticking.{ticks_peer}
use Rattle.artery_ticking.proofs.Each.{each_next}
use Rattle.artery_ticking.proofs.tick.ticks_each_peer.Goals as goal

-- the next address
pub loop-address-preserved : goal.loop-address-preserved
loop-address-preserved c =
    each_next c.loop-address.address-index c.args.addresses.now c.address-item.result ticks_peer c.loop-address.work c.ticks_peer.new.work
    c.loop-address-test.true c.address-item.is c.in_ok-ticks_peer.ensures ∙ c.loop-address.invariant
