use Rattle.artery_laws.proofs.Outcomes.{has_one, has_no_other, tells_dropped}
use Rattle.artery_laws.proofs.laws.each_frame_has_one_outcome.Goals as goal

pub returns-clause-one : goal.returns-clause-one
returns-clause-one c = λ stream n i frame. has_one stream n i frame

pub returns-clause-only : goal.returns-clause-only
returns-clause-only c = λ stream n i frame x h. has_no_other stream n i frame x h

pub returns-clause-told : goal.returns-clause-told
returns-clause-told c = λ stream n i frame rule h. tells_dropped stream n i frame rule h
