use Rattle.std.proofs.Common.{rules}
use Rattle.artery_tables.proofs.Histories.{advertising_stands}
use Rattle.artery_tables.proofs.in_tables.InTables.advertise.Goals as goal

pub returns-then-is_some-clause-history : goal.returns-then-is_some-clause-history
returns-then-is_some-clause-history c = λ s h. advertising_stands c.args.settled c.args.self.now _ _ s h (search rules) (search rules)

pub returns-then-ne-clause-history : goal.returns-then-ne-clause-history
returns-then-ne-clause-history c = λ s h. advertising_stands c.args.settled c.args.self.now _ _ s h (search rules) (search rules)

pub returns-clause-history : goal.returns-clause-history
returns-clause-history c = λ s h. advertising_stands c.args.settled c.args.self.now _ _ s h (search rules) (search rules)
