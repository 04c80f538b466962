use Rattle.artery_header.specs.Envelope.{envelope_of}
use Rattle.artery_header.proofs.Canonical.{number_cells}
use Rattle.artery_header.proofs.write.numbers_of.Goals as goal

pub returns-clause-bytes : goal.returns-clause-bytes
returns-clause-bytes c = number_cells (envelope_of c.args.envelope.now) c.to_le_bytes-uid.result c.serializer_of-serializer.result c.to_le_bytes-uid.ensures c.serializer_of-serializer.ensures.bytes
