use Rattle.artery_wire.proofs.ReadingLaws.{fault_is_read}
use Rattle.artery_wire.proofs.laws.fields_stand.Goals as goal

pub returns-clause-fault : goal.returns-clause-fault
returns-clause-fault c = fault_is_read
