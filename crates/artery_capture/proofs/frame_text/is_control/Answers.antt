use Rattle.artery_capture.proofs.Faults.{is_seventeen}
use Rattle.artery_capture.proofs.frame_text.is_control.Goals as goal

pub returns : goal.returns
returns c = is_seventeen c.args.serializer c.ranges.serializer
