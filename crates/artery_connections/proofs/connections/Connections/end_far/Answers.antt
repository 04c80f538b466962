use Rattle.std.proofs.Common.{rules}
use Rattle.artery_connections.proofs.Changed.{far_ends}
use Rattle.artery_connections.proofs.connections.Connections.end_far.Goals as goal

pub invariant_of-self : goal.invariant_of-self
invariant_of-self c =
    rw c.load.ensures (far_ends _ _ _ _ _ _ _ _ _ _ c.index_mut-connection.result.now _ c.self.invariant (search rules) c.index_mut-connection.ensures.value c.end_far.ensures c.remove-there.ensures.updates.0 c.remove-there-2.ensures.updates.0)
