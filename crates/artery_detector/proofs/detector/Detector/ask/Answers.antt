use Rattle.std.proofs.Common.{arith}
use Rattle.std.proofs.lemmas.Grind.{common_steps}
use Rattle.artery_detector.proofs.Beats.{ask_goes_on}
use Rattle.artery_detector.proofs.detector.Detector.ask.Goals as goal

pub returns-in-None-clause-history : goal.returns-in-None-clause-history
returns-in-None-clause-history c =
    λ beats s. ask_goes_on c.args.now c.args.self.now _ beats s (grind (arith, common_steps, c.self.view_is))

pub returns-then-is_past-clause-history : goal.returns-then-is_past-clause-history
returns-then-is_past-clause-history c =
    λ beats s. ask_goes_on c.args.now c.args.self.now _ beats s (grind (arith, common_steps, c.self.view_is))

pub returns-else-is_none-clause-history : goal.returns-else-is_none-clause-history
returns-else-is_none-clause-history c =
    λ beats s. ask_goes_on c.args.now c.args.self.now _ beats s (grind (arith, common_steps, c.self.view_is))
