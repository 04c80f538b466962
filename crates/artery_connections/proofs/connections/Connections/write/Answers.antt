use Rattle.std.proofs.Common.{rules}
use Rattle.artery_connections.proofs.Changed.{is_written, is_same}
use Rattle.artery_connections.proofs.connections.Connections.write.Goals as goal

pub invariant_of-self-2 : goal.invariant_of-self-2
invariant_of-self-2 c =
    is_written _ _ _ _ _ _ _ _ _ _ c.args.bytes.now c.index_mut-connection.result.now _ c.self.invariant (search rules) c.index_mut-connection.ensures.value c.in_ok-write_on.ensures.ok c.in_ok-write_on.ensures.loaded (search rules)

pub invariant_of-self-in_err-write_on : goal.invariant_of-self-in_err-write_on
invariant_of-self-in_err-write_on c =
    is_same _ _ _ _ _ _ _ _ _ c.index_mut-connection.result.now _ c.self.invariant (search rules) c.index_mut-connection.ensures.value c.in_err-write_on.ensures.err c.in_err-write_on.ensures.loaded
