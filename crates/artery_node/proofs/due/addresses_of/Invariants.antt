use Rattle.std.proofs.Common.{◌≡◌, ◌++◌, drop, map}
use Rattle.artery_machine.specs.Node.{address_of}
use Rattle.artery_node.proofs.due.addresses_of.Given as goal

abbrev pub invariant-loop-peer : goal.invariant-loop-peer
invariant-loop-peer l = l.all.items ++ map address_of (drop l.peer-index l.peers) ≡ map address_of l.fn.peers
