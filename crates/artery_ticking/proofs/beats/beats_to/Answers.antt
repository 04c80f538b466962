use Rattle.std.proofs.Common.{ap, ◌∙◌}
use Rattle.artery_machine.specs.Ticking.{beats}
use Rattle.artery_ticking.proofs.beats.beats_to.Goals as goal

-- the incarnation is this one
pub returns : goal.returns
returns c = c.in_ok-beats.ensures ∙ ap (λ v. beats v c.args.work.now) c.in_ok-v.ensures
