use Rattle.artery_watch.proofs.Places.{at_exact}
use Rattle.artery_watch.proofs.place.is_at.Goals as goal

pub returns-clause-exact : goal.returns-clause-exact
returns-clause-exact c = at_exact c.has_path.result c.args.address.now c.args.text.now c.has_path.ensures
