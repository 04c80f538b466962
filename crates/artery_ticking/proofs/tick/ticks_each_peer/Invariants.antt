use Rattle.std.proofs.Common.{◌≡◌, drop}
use Rattle.artery_machine.specs.Doing.{each}
use Rattle.artery_machine.specs.Ticking.{ticks_peer}
use Rattle.artery_ticking.proofs.tick.ticks_each_peer.Given as goal

abbrev pub invariant-loop-address : goal.invariant-loop-address
invariant-loop-address l = each (drop l.address-index l.addresses) ticks_peer l.work ≡ each l.fn.addresses ticks_peer l.fn.work
