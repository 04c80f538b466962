use Rattle.artery_lanes.proofs.LaneSteps.{pushes_of, learns}
use Rattle.artery_lanes.proofs.lane.put.Goals as goal

pub push_as-requires-clause-rule : goal.push_as-requires-clause-rule
push_as-requires-clause-rule g c = (pushes_of _ _ _ _ _ _ c.pass.invariant.1 c.pass.invariant.2, learns _ _)
