use Rattle.artery_journal.specs.Texts.{line_text}
use Rattle.artery_journal.specs.Valid.{IsLine, HasBytes}
use Rattle.artery_journal_reading.specs.Reading.{line_of}
use Rattle.artery_script.proofs.Found.{found, only}
use Rattle.artery_journal_reading.proofs.line_text.read_line.Goals as goal

pub returns-clause-found : goal.returns-clause-found
returns-clause-found c = found line_of line_text IsLine c.lines_are_spelled.ensures.read c.args.text.now c.line_from.result c.line_from.ensures

pub returns-clause-only : goal.returns-clause-only
returns-clause-only c l v b same = only line_of line_text IsLine HasBytes c.lines_are_spelled.ensures.told c.args.text.now l c.line_from.result c.line_from.ensures v b same
