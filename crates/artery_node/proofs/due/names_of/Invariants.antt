use Rattle.std.proofs.Common.{◌≡◌, ◌++◌, drop, map}
use Rattle.artery_node.proofs.due.names_of.Given as goal

abbrev pub invariant-loop-origin : goal.invariant-loop-origin
invariant-loop-origin l = l.all.items ++ map (λ o. o.who) (drop l.origin-index l.origins) ≡ map (λ o. o.who) l.fn.origins
