use Rattle.artery_machine.specs.Parts.{kept, whole}
use Rattle.artery_alone.proofs.Taking.{kept_counting, whole_counting}
use Rattle.artery_alone.proofs.Stories.{takes_in_order}
use Rattle.artery_alone.proofs.laws.a_node_takes_in_order.Goals as goal

pub returns-clause-kept : goal.returns-clause-kept
returns-clause-kept c = λ me inputs other. takes_in_order kept kept_counting me inputs other

pub returns-clause-whole : goal.returns-clause-whole
returns-clause-whole c = λ me inputs other. takes_in_order whole whole_counting me inputs other
