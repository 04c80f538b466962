use Rattle.std.specs.Prelude.{codes}
use Rattle.artery_capture.specs.FrameText.{header_fault_text}
use Rattle.artery_capture.proofs.Appending.{three_parts}
use Rattle.artery_capture.proofs.frame_text.put_drop_line.Goals as goal

pub returns-clause-ok : goal.returns-clause-ok
returns-clause-ok c =
    three_parts c.push.result c.args.out.now (codes "drop ") (header_fault_text c.args.fault) (codes "\n") c.extend_from_slice.new.self c.put_header_fault.new.out c.push.new.self c.in_ok-extend_from_slice.ensures.ok c.in_ok-put_header_fault.ensures.ok c.push.ensures.ok
