use Rattle.artery_tables.proofs.Histories.{advertised_alike, confirmed_alike}
use Rattle.artery_tables.proofs.laws.keeping_stands.Goals as goal

pub returns-clause-advertise : goal.returns-clause-advertise
returns-clause-advertise c = advertised_alike

pub returns-clause-confirm : goal.returns-clause-confirm
returns-clause-confirm c = confirmed_alike
