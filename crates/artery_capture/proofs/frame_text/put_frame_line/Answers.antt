use Rattle.std.specs.Prelude.{codes}
use Rattle.artery_header.specs.Envelope.{envelope_of as contents}
use Rattle.artery_capture.specs.FrameText.{contents_text}
use Rattle.artery_capture.proofs.Appending.{three_parts}
use Rattle.artery_capture.proofs.frame_text.put_frame_line.Goals as goal

pub returns-clause-ok : goal.returns-clause-ok
returns-clause-ok c =
    three_parts c.push.result c.args.out.now (codes "frame ") (contents_text (contents c.args.envelope.now)) (codes "\n") c.extend_from_slice.new.self c.put_contents.new.out c.push.new.self c.in_ok-extend_from_slice.ensures.ok c.in_ok-put_contents.ensures.ok c.push.ensures.ok
