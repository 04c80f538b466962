use Rattle.std.proofs.Common.{rules}
use Rattle.artery_lanes.proofs.GateSteps.{loads}
use Rattle.artery_lanes.proofs.gate.Gate.state.Goals as goal

pub load-number-requires : goal.load-number-requires
load-number-requires c = (search rules, search rules, loads _ _ _ _)
