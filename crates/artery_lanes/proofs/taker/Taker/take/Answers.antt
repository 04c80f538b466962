use Rattle.std.proofs.Common.{rules}
use Rattle.artery_lanes.proofs.FeedSteps.{popped_marks}
use Rattle.artery_lanes.proofs.LaneSteps.{pops_of, learns}
use Rattle.artery_lanes.proofs.taker.Taker.take.Goals as goal

pub pop_as-requires-clause-rule : goal.pop_as-requires-clause-rule
pop_as-requires-clause-rule g c = (pops_of _ _ c.self.invariant.1, learns _ _)

pub invariant_of-self-2 : goal.invariant_of-self-2
invariant_of-self-2 g c = (search rules, search rules, popped_marks _ _ _ _ _ c.in_ok-entry.ensures.rule c.self.invariant.2 c.mark.ensures)
