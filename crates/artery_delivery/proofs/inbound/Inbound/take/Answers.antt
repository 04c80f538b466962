use Rattle.std.proofs.Common.{arith}
use Rattle.std.proofs.lemmas.Grind.{common_steps}
use Rattle.std.proofs.lemmas.Map.Steps.{set_value_same}
use Rattle.artery_delivery.proofs.Histories.{taking_stands}
use Rattle.artery_delivery.proofs.inbound.Inbound.take.Goals as goal

pub returns-then-n-expected-clause-history : goal.returns-then-n-expected-clause-history
returns-then-n-expected-clause-history c =
    λ all m s. taking_stands c.args.origin.now c.args.n c.args.self.now _ _ all m s (grind (arith, common_steps)) (grind (arith, common_steps, set_value_same))

pub returns-then-n-expected-2-clause-history : goal.returns-then-n-expected-2-clause-history
returns-then-n-expected-2-clause-history c =
    λ all m s. taking_stands c.args.origin.now c.args.n c.args.self.now _ _ all m s (grind (arith, common_steps)) (grind (arith, common_steps, set_value_same))

pub returns-clause-history : goal.returns-clause-history
returns-clause-history c =
    λ all m s. taking_stands c.args.origin.now c.args.n c.args.self.now _ _ all m s (grind (arith, common_steps)) (grind (arith, common_steps))
