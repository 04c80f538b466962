use Rattle.std.proofs.Common.{rules}
use Rattle.artery_lanes.proofs.GateSteps.{steps}
use Rattle.artery_lanes.proofs.gate.Gate.step.Goals as goal

pub fetch_add-requires : goal.fetch_add-requires
fetch_add-requires c = (search rules, search rules, steps _ _ c.seat.inside.inner.me c.args.word (search rules) (search rules))
