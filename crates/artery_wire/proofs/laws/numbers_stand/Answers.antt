use Rattle.artery_wire.proofs.ReadingLaws.{packed_fault_is_read}
use Rattle.artery_wire.proofs.laws.numbers_stand.Goals as goal

pub returns-clause-fault : goal.returns-clause-fault
returns-clause-fault c = packed_fault_is_read
