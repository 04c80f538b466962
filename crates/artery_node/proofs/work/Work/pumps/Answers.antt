use Rattle.std.proofs.Common.{◌∙◌, sym}
use Rattle.artery_machine.specs.Sending.{pumps}
use Rattle.artery_node.proofs.Pumping.{stops}
use Rattle.artery_node.proofs.work.Work.pumps.Goals as goal

-- none is next, so all are written
pub returns-then-not-branch : goal.returns-then-not-branch
returns-then-not-branch c =
    stops c.loop-left.left c.args.address.now c.loop-left.self c.pumps_one.new.self (pumps c.args.address.now c.args.self.now)
    (sym c.in_ok-pumps_one.ensures.more ∙ c.if-not-branch.true) c.in_ok-pumps_one.ensures.work c.loop-left.invariant
