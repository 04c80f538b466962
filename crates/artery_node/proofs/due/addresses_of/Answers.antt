use Rattle.std.proofs.Common.{◌∙◌}
use Rattle.artery_machine.specs.Node.{address_of}
use Rattle.artery_node.proofs.Mapping.{one_mapped}
use Rattle.artery_node.proofs.due.addresses_of.Goals as goal

-- the next address
pub loop-peer-preserved : goal.loop-peer-preserved
loop-peer-preserved c =
    one_mapped address_of c.loop-peer.peer-index c.args.peers.now c.peer-item.result c.loop-peer.all.items c.put_address.new.all.items
    c.loop-peer-test.true c.peer-item.is c.in_ok-put_address.ensures ∙ c.loop-peer.invariant
