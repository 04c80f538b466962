use Rattle.std.specs.Prelude.{codes}
use Rattle.artery_capture.specs.ControlText.{version_text, table_text}
use Rattle.artery_capture.proofs.Appending.{two_parts}
use Rattle.artery_capture.proofs.control_text.put_refs_table.Goals as goal

pub returns-clause-ok : goal.returns-clause-ok
returns-clause-ok c =
    two_parts c.put_table.result c.args.out.now (codes "refs-table ") (table_text c.args.from.now c.args.origin_uid (version_text c.args.version c.args.sequence) c.args.keys.now c.args.values.now) c.extend_from_slice.new.self c.put_table.new.out c.in_ok-extend_from_slice.ensures.ok c.put_table.ensures.ok
