use Rattle.artery_laws.proofs.Networks.{applies_behind, refusal_behind, plays_behind}
use Rattle.artery_laws.proofs.laws.a_network_goes_on.Goals as goal

pub returns-clause-event : goal.returns-clause-event
returns-clause-event c = λ before event w. applies_behind before event w

pub returns-clause-refusal : goal.returns-clause-refusal
returns-clause-refusal c = λ before event w. refusal_behind before event w

pub returns-clause-script : goal.returns-clause-script
returns-clause-script c = λ before script w. plays_behind before script w
