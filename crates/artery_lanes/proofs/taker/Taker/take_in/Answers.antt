use Rattle.artery_lanes.proofs.LaneSteps.{merges_of, learns, first_of}
use Rattle.artery_lanes.proofs.taker.Taker.take_in.Goals as goal

pub absorb-requires-clause-rule : goal.absorb-requires-clause-rule
absorb-requires-clause-rule c = merges_of _ _ _ _ _ c.self.invariant.1 c.ended.invariant.1

pub learn_as-requires-clause-rule : goal.learn_as-requires-clause-rule
learn_as-requires-clause-rule c = learns _ _

pub returns-clause-first : goal.returns-clause-first
returns-clause-first c = rw (← c.self.view_is, ← c.ended.view_is) (first_of _ _ _ c.ended.inside.sender c.self.invariant.1 c.ended.invariant.1 c.absorb.ensures.rule c.learn_as.ensures.rule)
