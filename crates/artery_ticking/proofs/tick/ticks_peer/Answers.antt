use Rattle.artery_machine.specs.Ticking.{tends_control, tends_ordinary, loses_patience, resends, detects, sleeps}
use Rattle.artery_ticking.proofs.Each.{six}
use Rattle.artery_ticking.proofs.tick.ticks_peer.Goals as goal

-- each rule follows the one before
pub returns : goal.returns
returns c =
    six (tends_control c.args.address.now) (tends_ordinary c.args.address.now) (loses_patience c.args.address.now)
    (resends c.args.address.now) (detects c.args.address.now) (sleeps c.args.address.now) c.args.work.now
    c.tends_control.new.work c.tends_ordinary.new.work c.loses_patience.new.work c.resends.new.work c.detects.new.work c.sleeps.new.work
    c.in_ok-tends_control.ensures c.in_ok-tends_ordinary.ensures c.in_ok-loses_patience.ensures c.in_ok-resends.ensures
    c.in_ok-detects.ensures c.in_ok-sleeps.ensures
