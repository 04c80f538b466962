use Rattle.artery_audit.proofs.Turns.{begins}
use Rattle.artery_audit.proofs.merging.Merging.new.Goals as goal

pub returns-clause-under : goal.returns-clause-under
returns-clause-under c = begins _ c.requires c.new.ensures c.new-2.ensures c.in_ok-taken.ensures c.in_ok-ready.ensures
