use Rattle.std.proofs.Common.{rules}
use Rattle.artery_tables.proofs.Pairs.{adopting_alike}
use Rattle.artery_tables.proofs.out_table.OutTable.adopt.Goals as goal

pub returns-clause-history : goal.returns-clause-history
returns-clause-history c = λ s h. adopting_alike c.args.number c.args.keys c.args.values c.args.self.now _ _ s h (search rules) (search rules)
