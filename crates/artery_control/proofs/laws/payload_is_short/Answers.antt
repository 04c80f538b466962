use Rattle.artery_control.proofs.Lengths.{payload_short}
use Rattle.artery_control.proofs.laws.payload_is_short.Goals as goal

pub returns : goal.returns
returns c = payload_short c.written_is_read.ensures.varint c.written_is_read.ensures.shortest
