use Rattle.artery_written.proofs.Readable.{Laws}
use Rattle.artery_written.proofs.Worlds.{run_read}
use Rattle.artery_written.proofs.laws.what_is_written_is_read_back.Goals as goal

pub returns : goal.returns
returns c = λ script told. run_read (record { control = c.frames_are_read_back.ensures.control; ordinary = c.frames_are_read_back.ensures.ordinary }) script told
