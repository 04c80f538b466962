use Rattle.artery_codec.proofs.Texts.{written_ascii}
use Rattle.artery_codec.proofs.laws.written_is_meant.Goals as goal

pub returns-clause-texts : goal.returns-clause-texts
returns-clause-texts c = written_ascii
