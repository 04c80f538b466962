use Rattle.std.specs.Prelude.{codes}
use Rattle.artery_capture.specs.ControlText.{control_text}
use Rattle.artery_capture.proofs.Appending.{three_parts}
use Rattle.artery_capture.proofs.frame_text.put_control_line.Goals as goal

pub returns-clause-ok : goal.returns-clause-ok
returns-clause-ok c =
    three_parts c.push.result c.args.out.now (codes "control ") (control_text c.args.control.now) (codes "\n") c.extend_from_slice.new.self c.print_control.new.out c.push.new.self c.in_ok-extend_from_slice.ensures.ok c.in_ok-print_control.ensures.ok c.push.ensures.ok
