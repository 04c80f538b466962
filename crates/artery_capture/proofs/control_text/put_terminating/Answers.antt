use Rattle.std.specs.Prelude.{codes}
use Rattle.artery_text.specs.Spelling.{unique_text}
use Rattle.artery_capture.proofs.Appending.{two_parts}
use Rattle.artery_capture.proofs.control_text.put_terminating.Goals as goal

pub returns-clause-ok : goal.returns-clause-ok
returns-clause-ok c =
    two_parts c.print_unique.result c.args.out.now (codes "terminating ") (unique_text c.args.from.now) c.extend_from_slice.new.self c.print_unique.new.out c.in_ok-extend_from_slice.ensures.ok c.print_unique.ensures.ok
