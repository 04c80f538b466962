use Rattle.artery_machine.specs.Parts.{kept, whole}
use Rattle.artery_alone.proofs.Taking.{kept_counting, whole_counting}
use Rattle.artery_alone.proofs.Stories.{keeps_moment}
use Rattle.artery_alone.proofs.laws.a_node_keeps_the_moment_law.Goals as goal

pub returns-clause-kept : goal.returns-clause-kept
returns-clause-kept c = λ me inputs o. keeps_moment kept kept_counting me inputs o

pub returns-clause-whole : goal.returns-clause-whole
returns-clause-whole c = λ me inputs o. keeps_moment whole whole_counting me inputs o
