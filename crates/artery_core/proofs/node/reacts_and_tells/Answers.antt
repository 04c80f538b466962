use Rattle.std.proofs.Common.{◌≡◌, ◌++◌, List, ap, ◌∙◌}
use Rattle.artery_machine.specs.declared.effect.Effect.{Effect}
use Rattle.artery_machine.specs.Parts.{kept}
use Rattle.artery_machine.specs.Doing.{Doing, in_bytes}
use Rattle.artery_core.proofs.Told.{same_node, own_effects}
use Rattle.artery_core.proofs.node.reacts_and_tells.Goals as goal

pub returns-clause-node : goal.returns-clause-node
returns-clause-node c =
    ap (λ (d : Doing kept in_bytes). d.node) c.in_ok-hand_out.ensures.work
    ∙ same_node c.deeds_have_their_bytes.ensures c.args.input c.args.work.now c.reacts.new.work c.requires.none c.writes_as_itself.ensures c.in_ok-reacts.ensures

pub returns-clause-effects : goal.returns-clause-effects
returns-clause-effects c =
    c.in_ok-hand_out.ensures.effects
    ∙ ap (λ (es : List Effect). c.args.effects.now.items ++ es)
    (own_effects c.deeds_have_their_bytes.ensures c.args.input c.args.work.now c.reacts.new.work c.requires.none c.writes_as_itself.ensures c.in_ok-reacts.ensures)
