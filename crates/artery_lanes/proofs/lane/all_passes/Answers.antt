use Rattle.std.proofs.Common.{rules}
use Rattle.artery_lanes.proofs.LaneSteps.{forks_of}
use Rattle.artery_lanes.proofs.lane.all_passes.Goals as goal

pub another-inner-requires-clause-rule : goal.another-inner-requires-clause-rule
another-inner-requires-clause-rule c = forks_of _ _ (search rules)
