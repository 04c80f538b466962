use Rattle.std.specs.Prelude.{codes}
use Rattle.std.specs.Prelude.{◌++◌, decimal}
use Rattle.artery_text.specs.Spelling.{unique_text, message_text}
use Rattle.artery_capture.proofs.Appending.{two_parts}
use Rattle.artery_capture.proofs.control_text.put_numbered.Goals as goal

pub returns-clause-ok : goal.returns-clause-ok
returns-clause-ok c =
    two_parts c.put_numbered_fields.result c.args.out.now (codes "numbered ") (decimal c.args.n ++ codes " " ++ message_text c.args.message.now ++ codes " " ++ unique_text c.args.reply_to.now) c.extend_from_slice.new.self c.put_numbered_fields.new.out c.in_ok-extend_from_slice.ensures.ok c.put_numbered_fields.ensures.ok
