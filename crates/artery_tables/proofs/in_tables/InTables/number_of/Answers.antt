use Rattle.std.proofs.Common.{rules}
use Rattle.artery_tables.proofs.Histories.{numbering_stands}
use Rattle.artery_tables.proofs.in_tables.InTables.number_of.Goals as goal

pub returns-in-Some-clause-history : goal.returns-in-Some-clause-history
returns-in-Some-clause-history c = λ s h. numbering_stands c.args.version c.args.self.now _ s h (search rules)

pub returns-in-None-clause-history : goal.returns-in-None-clause-history
returns-in-None-clause-history c = λ s h. numbering_stands c.args.version c.args.self.now _ s h (search rules)
