use Rattle.artery_machine.specs.Parts.{kept, whole}
use Rattle.artery_machine.specs.Ways.{kept_ways, whole_ways}
use Rattle.artery_alone.proofs.Taking.{kept_counting, whole_counting}
use Rattle.artery_prefix.proofs.Prefixes.{numbers_in_order}
use Rattle.artery_prefix.proofs.laws.a_network_takes_in_order.Goals as goal

pub returns-clause-kept : goal.returns-clause-kept
returns-clause-kept c = λ script me other. numbers_in_order kept kept_ways kept_counting script me other

pub returns-clause-whole : goal.returns-clause-whole
returns-clause-whole c = λ script me other. numbers_in_order whole whole_ways whole_counting script me other
