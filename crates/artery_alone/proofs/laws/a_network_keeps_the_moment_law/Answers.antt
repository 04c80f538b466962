use Rattle.artery_machine.specs.Parts.{kept, whole}
use Rattle.artery_machine.specs.Ways.{kept_ways, whole_ways}
use Rattle.artery_alone.proofs.Taking.{kept_counting, whole_counting}
use Rattle.artery_alone.proofs.Networks.{network_moment}
use Rattle.artery_alone.proofs.laws.a_network_keeps_the_moment_law.Goals as goal

pub returns-clause-kept : goal.returns-clause-kept
returns-clause-kept c = λ script. network_moment kept kept_ways kept_counting script

pub returns-clause-whole : goal.returns-clause-whole
returns-clause-whole c = λ script. network_moment whole whole_ways whole_counting script
