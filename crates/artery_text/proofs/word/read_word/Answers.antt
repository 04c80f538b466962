use Rattle.artery_text.proofs.WordPieces.{word_found, word_again}
use Rattle.artery_text.proofs.word.read_word.Goals as goal

pub returns-clause-found : goal.returns-clause-found
returns-clause-found c = word_found c.args.text.now c.bytes_in.result c.bytes_in.ensures

pub returns-clause-only : goal.returns-clause-only
returns-clause-only c bytes h e = word_again c.args.text.now bytes c.bytes_in.result c.bytes_in.ensures h e
