use Rattle.std.proofs.Common.{rules}
use Rattle.artery_connections.proofs.Changed.{near_ends}
use Rattle.artery_connections.proofs.connections.Connections.end_near.Goals as goal

pub invariant_of-self : goal.invariant_of-self
invariant_of-self c =
    near_ends _ _ _ _ _ _ _ _ _ c.index_mut-connection.result.now _ c.self.invariant (search rules) c.index_mut-connection.ensures.value c.end_near.ensures c.remove-there.ensures.updates.0
