use Rattle.std.specs.Prelude.{codes, decimal}
use Rattle.artery_capture.proofs.Appending.{two_parts}
use Rattle.artery_capture.proofs.control_text.put_heartbeat_answer.Goals as goal

pub returns-clause-ok : goal.returns-clause-ok
returns-clause-ok c =
    two_parts c.print_number.result c.args.out.now (codes "heartbeat-rsp ") (decimal c.args.uid) c.extend_from_slice.new.self c.print_number.new.out c.in_ok-extend_from_slice.ensures.ok c.print_number.ensures.ok
