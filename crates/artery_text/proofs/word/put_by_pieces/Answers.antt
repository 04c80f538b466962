use Rattle.artery_base.proofs.Appending.{keeps_on}
use Rattle.artery_text.proofs.word.put_by_pieces.Goals as goal

pub returns-clause-kept : goal.returns-clause-kept
returns-clause-kept c = keeps_on c.args.out.now c.put_first.new.out _ c.put_pieces.new.out c.in_ok-put_first.ensures.ok c.put_pieces.ensures.kept
