use Rattle.artery_journal.specs.Texts.{stamped_text}
use Rattle.artery_journal.specs.Valid.{IsStamped, HasBytes}
use Rattle.artery_journal_reading.specs.Reading.{stamped_of}
use Rattle.artery_script.proofs.Found.{found, only}
use Rattle.artery_journal_reading.proofs.line_text.read_stamped.Goals as goal

pub returns-clause-found : goal.returns-clause-found
returns-clause-found c = found stamped_of stamped_text IsStamped c.lines_are_spelled.ensures.stamped_read c.args.text.now c.stamped_from.result c.stamped_from.ensures

pub returns-clause-only : goal.returns-clause-only
returns-clause-only c s v b same = only stamped_of stamped_text IsStamped (λ s. HasBytes s.line) c.lines_are_spelled.ensures.stamped_told c.args.text.now s c.stamped_from.result c.stamped_from.ensures v b same
