use Rattle.artery_detector.proofs.Counted.{is_counted}
use Rattle.artery_detector.proofs.laws.one_ask_counts.Goals as goal

pub returns-clause-only : goal.returns-clause-only
returns-clause-only c = is_counted
