use Rattle.std.proofs.Common.{◌∙◌}
use Rattle.artery_node.proofs.Mapping.{one_mapped}
use Rattle.artery_node.proofs.due.names_of.Goals as goal

-- the next origin
pub loop-origin-preserved : goal.loop-origin-preserved
loop-origin-preserved c =
    one_mapped (λ o. o.who) c.loop-origin.origin-index c.args.origins.now c.origin-item.result c.loop-origin.all.items c.put_who.new.all.items
    c.loop-origin-test.true c.origin-item.is c.in_ok-put_who.ensures ∙ c.loop-origin.invariant
