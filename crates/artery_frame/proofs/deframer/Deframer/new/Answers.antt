use Rattle.std.proofs.Common.{false}
use Rattle.artery_frame.proofs.Stood.{starts_so}
use Rattle.artery_frame.proofs.deframer.Deframer.new.Goals as goal

pub returns-clause-stands : goal.returns-clause-stands
returns-clause-stands c = starts_so c.with_buffer.result false c.with_buffer.ensures
