use Rattle.std.proofs.Common.{arith}
use Rattle.std.proofs.lemmas.Grind.{common_steps}
use Rattle.artery_detector.proofs.Beats.{heartbeat_goes_on}
use Rattle.artery_detector.proofs.detector.Detector.heartbeat.Goals as goal

pub returns-clause-history : goal.returns-clause-history
returns-clause-history c =
    λ beats s. heartbeat_goes_on c.args.now c.args.self.now _ beats s (grind (arith, common_steps, c.self.view_is))
