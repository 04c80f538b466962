use Rattle.std.specs.Prelude.{codes}
use Rattle.artery_text.specs.Spelling.{unique_text}
use Rattle.std.specs.Prelude.{◌++◌}
use Rattle.artery_capture.specs.ControlText.{version_text}
use Rattle.artery_capture.proofs.Appending.{two_parts}
use Rattle.artery_capture.proofs.control_text.put_manifests_ack.Goals as goal

pub returns-clause-ok : goal.returns-clause-ok
returns-clause-ok c =
    two_parts c.put_adopted.result c.args.out.now (codes "manifests-ack ") (unique_text c.args.from.now ++ codes " " ++ version_text c.args.version c.args.sequence) c.extend_from_slice.new.self c.put_adopted.new.out c.in_ok-extend_from_slice.ensures.ok c.put_adopted.ensures.ok
