use Rattle.std.proofs.Common.{rules, ◌∙◌, sym, ap, length, arith}
use Rattle.artery_connections.proofs.Changed.{takes, part_within, part_is}
use Rattle.artery_connections.proofs.connections.Connections.take.Goals as goal

pub overflow_sub-self : goal.overflow_sub-self
overflow_sub-self c =
    let fits = part_within _ c.args.place c.args.count c.index_mut-connection.result.now (search rules) c.index_mut-connection.ensures.value in
    let size = c.len-2.ensures ∙ ap length c.in_ok-taken.ensures.bytes in
    omega (arith, c.self.invariant.sum)

pub invariant_of-self-2 : goal.invariant_of-self-2
invariant_of-self-2 c =
    takes _ _ _ _ _ _ _ _ _ c.args.count c.index_mut-connection.result.now _ _ c.self.invariant (search rules) c.index_mut-connection.ensures.value c.in_ok-taken.ensures.ok c.unload.ensures (c.len-2.ensures ∙ ap length c.in_ok-taken.ensures.bytes)

pub returns-clause-bytes : goal.returns-clause-bytes
returns-clause-bytes c =
    rw (sym c.self.view_is) (c.in_ok-taken.ensures.bytes ∙ part_is _ c.args.place c.args.count c.index_mut-connection.result.now (search rules) c.index_mut-connection.ensures.value)
