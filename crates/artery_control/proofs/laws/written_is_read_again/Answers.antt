use Rattle.artery_control.proofs.Again.{message_again}
use Rattle.artery_control.proofs.laws.written_is_read_again.Goals as goal

pub returns : goal.returns
returns c = message_again c.written_is_read.ensures.read c.written_is_read.ensures.varint c.written_is_read.ensures.shortest
