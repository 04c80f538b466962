use Rattle.artery_control.proofs.Belongs.{belonging, valid}
use Rattle.artery_control.proofs.laws.belonging_is_read.Goals as goal

pub returns-clause-read : goal.returns-clause-read
returns-clause-read c = belonging c.fields_stand.ensures.whole c.fields_stand.ensures.fault c.numbers_stand.ensures.whole

pub returns-clause-valid : goal.returns-clause-valid
returns-clause-valid c = valid c.fields_stand.ensures.whole c.fields_stand.ensures.fault c.numbers_stand.ensures.whole
