use Rattle.std.proofs.Common.{rules, ◌≡◌, ℕ, ap, ◌∙◌, ◌++◌}
use Rattle.artery_generator.specs.Scripts.{last_up_to}
use Rattle.artery_generator.proofs.generator.settle_all.Goals as goal

pub returns : goal.returns
returns c =
    let all : c.loop-done.done ≡ 3 = search rules in
    c.loop-done.invariant ∙ ap (λ (k : ℕ). c.args.events.now.items ++ last_up_to c.args.n c.args.live.now k) all
