use Rattle.artery_capture.specs.ControlText.{origin_text, version_text, counted_text}
use Rattle.artery_capture.proofs.Appending.{three_parts}
use Rattle.artery_capture.proofs.control_text.put_table.Goals as goal

pub returns-clause-ok : goal.returns-clause-ok
returns-clause-ok c =
    three_parts c.put_table_entries.result c.args.out.now (origin_text c.args.from.now c.args.origin_uid) (version_text c.args.version c.args.sequence) (counted_text c.args.keys.now c.args.values.now) c.put_table_origin.new.out c.put_version.new.out c.put_table_entries.new.out c.in_ok-put_table_origin.ensures.ok c.in_ok-put_version.ensures.ok c.put_table_entries.ensures.ok
