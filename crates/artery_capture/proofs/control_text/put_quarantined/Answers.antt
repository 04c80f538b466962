use Rattle.std.specs.Prelude.{codes}
use Rattle.std.specs.Prelude.{◌++◌}
use Rattle.artery_text.specs.Spelling.{unique_text}
use Rattle.artery_capture.proofs.Appending.{two_parts}
use Rattle.artery_capture.proofs.control_text.put_quarantined.Goals as goal

pub returns-clause-ok : goal.returns-clause-ok
returns-clause-ok c =
    two_parts c.put_quarantined_fields.result c.args.out.now (codes "quarantined ") (unique_text c.args.from.now ++ codes " " ++ unique_text c.args.to.now) c.extend_from_slice.new.self c.put_quarantined_fields.new.out c.in_ok-extend_from_slice.ensures.ok c.put_quarantined_fields.ensures.ok
