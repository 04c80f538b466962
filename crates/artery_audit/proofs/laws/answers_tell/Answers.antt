use Rattle.artery_audit.proofs.Telling.{lawful_where, merge_where}
use Rattle.artery_audit.proofs.laws.answers_tell.Goals as goal

pub returns : goal.returns
returns c = record { lawful = lawful_where; some = merge_where }
