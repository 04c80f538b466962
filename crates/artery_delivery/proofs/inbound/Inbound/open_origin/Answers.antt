use Rattle.artery_delivery.proofs.Histories.{opening_stands}
use Rattle.artery_delivery.proofs.Origins.{opened_is_known}
use Rattle.artery_delivery.proofs.inbound.Inbound.open_origin.Goals as goal

pub returns-in_ok-add-in-Opened-clause-known : goal.returns-in_ok-add-in-Opened-clause-known
returns-in_ok-add-in-Opened-clause-known c =
    opened_is_known c.args.origin.now c.args.self.now c.add.new.self (cc) (cc (c.in_ok-add-in-Opened.ensures.ok, c.in_ok-copy_of-in-Opened.ensures))

pub returns-in_ok-add-in-Opened-clause-history : goal.returns-in_ok-add-in-Opened-clause-history
returns-in_ok-add-in-Opened-clause-history c =
    λ all s. opening_stands c.args.origin.now c.args.self.now c.add.new.self _ all s (cc) (cc (c.in_ok-add-in-Opened.ensures.ok, c.in_ok-copy_of-in-Opened.ensures))
