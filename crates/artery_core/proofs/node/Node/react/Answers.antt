use Rattle.std.proofs.Common.{◌≡◌, ap, subst}
use Rattle.artery_machine.specs.Parts.{kept}
use Rattle.artery_machine.specs.Node.{Node as NodeOf}
use Rattle.artery_core.specs.Running.{Running, DoesAsWhole}
use Rattle.artery_core.proofs.Told.{does_as_whole}
use Rattle.artery_core.proofs.node.Node.react.Goals as goal

pub returns-in-Ok-clause-whole : goal.returns-in-Ok-clause-whole
returns-in-Ok-clause-whole c =
    subst (λ (n : NodeOf kept). DoesAsWhole c.args.input n c.reacts_and_tells.new.work.node c.args.effects.now.items c.reacts_and_tells.new.effects.items)
    (ap (λ (r : Running). r.node) c.self.view_is)
    (does_as_whole c.keeping_stands.ensures.step c.args.input c.self.inside.work.node c.reacts_and_tells.new.work.node c.args.effects.now.items c.reacts_and_tells.new.effects.items c.in-Ok.ensures.node c.in-Ok.ensures.effects)
