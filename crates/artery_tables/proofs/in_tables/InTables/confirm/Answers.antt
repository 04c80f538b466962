use Rattle.std.proofs.Common.{rules}
use Rattle.artery_tables.proofs.Histories.{confirming_stands}
use Rattle.artery_tables.proofs.in_tables.InTables.confirm.Goals as goal

pub returns-in_default-clause-history : goal.returns-in_default-clause-history
returns-in_default-clause-history c = λ s h. confirming_stands c.args.number c.args.self.now _ _ s h (search rules) (search rules)

pub returns-clause-history : goal.returns-clause-history
returns-clause-history c = λ s h. confirming_stands c.args.number c.args.self.now _ _ s h (search rules) (search rules)
