use Rattle.std.proofs.Common.{true}
use Rattle.artery_frame.proofs.Stood.{starts_so}
use Rattle.artery_frame.proofs.deframer.Deframer.with_room.Goals as goal

pub returns-clause-stands : goal.returns-clause-stands
returns-clause-stands c = starts_so c.with_buffer.result true c.with_buffer.ensures
