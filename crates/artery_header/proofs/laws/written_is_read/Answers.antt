use Rattle.artery_header.proofs.Written.{written_read, canonical_length}
use Rattle.artery_header.proofs.laws.written_is_read.Goals as goal

pub returns-clause-read : goal.returns-clause-read
returns-clause-read c = written_read

pub returns-clause-length : goal.returns-clause-length
returns-clause-length c = canonical_length
