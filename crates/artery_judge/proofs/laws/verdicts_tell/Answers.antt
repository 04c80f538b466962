use Rattle.artery_judge.proofs.Verdicts.{is_broken}
use Rattle.artery_judge.proofs.laws.verdicts_tell.Goals as goal

pub returns-clause-broken : goal.returns-clause-broken
returns-clause-broken c = is_broken
