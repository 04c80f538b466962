use Rattle.std.specs.Prelude.{codes}
use Rattle.artery_capture.specs.FrameText.{which_word}
use Rattle.artery_capture.proofs.Appending.{two_parts}
use Rattle.artery_capture.proofs.frame_text.put_literal_past.Goals as goal

pub returns-clause-ok : goal.returns-clause-ok
returns-clause-ok c =
    two_parts c.put_which.result c.args.out.now (codes "literal-past ") (which_word c.args.which) c.extend_from_slice.new.self c.put_which.new.out c.in_ok-extend_from_slice.ensures.ok c.put_which.ensures.ok
