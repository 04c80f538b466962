use Rattle.std.proofs.Common.{arith}
use Rattle.std.proofs.lemmas.Grind.{common_steps}
use Rattle.artery_journal_reading.proofs.PlainWords.{own_word}
use Rattle.artery_journal_reading.proofs.fields.is_own_word.Goals as goal

pub returns : goal.returns
returns c = λ plain. own_word c.args.text.now c.spellings_are_read.ensures.words (grind (arith, common_steps)) (grind (arith, common_steps)) (grind (arith, common_steps)) (grind (arith, common_steps))
