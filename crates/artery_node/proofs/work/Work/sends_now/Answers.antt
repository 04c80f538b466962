use Rattle.artery_delivery.specs.Outbound.{acceptance}
use Rattle.artery_machine.specs.Node.{peer_at}
use Rattle.artery_node.proofs.Sent.{current_stays}
use Rattle.artery_node.proofs.work.Work.sends_now.Goals as goal

-- the incarnation that is current stays so
pub sent_after-requires : goal.sent_after-requires
sent_after-requires c =
    current_stays c.args.address.now c.args.message c.args.self.now c.accept.new.self
    (acceptance c.args.message (peer_at c.args.address.now c.args.self.now.node).out) c.current_at-current.result
    c.current_at-current.ensures c.in_ok-answer.ensures.work
