use Rattle.std.proofs.Common.{rules, arith}
use Rattle.std.proofs.lemmas.Grind.{common_steps}
use Rattle.artery_tables.proofs.Uses.{inserted_last}
use Rattle.artery_tables.proofs.Histories.{counting_stands}
use Rattle.artery_tables.proofs.in_tables.InTables.count.Goals as goal

pub returns-in-Some-get_mut-clause-history : goal.returns-in-Some-get_mut-clause-history
returns-in-Some-get_mut-clause-history c = λ s h. counting_stands c.args.name.now c.args.self.now _ _ s h (search rules) (search rules)

pub returns-then-len-ge-MOST_COUNTED-clause-history : goal.returns-then-len-ge-MOST_COUNTED-clause-history
returns-then-len-ge-MOST_COUNTED-clause-history c = λ s h. counting_stands c.args.name.now c.args.self.now _ _ s h (search rules) (search rules)

pub returns-in_ok-insert-in-Some-clause-history : goal.returns-in_ok-insert-in-Some-clause-history
returns-in_ok-insert-in-Some-clause-history c = λ s h. counting_stands c.args.name.now c.args.self.now _ _ s h (search rules) (search (rules, inserted_last))

pub returns-in_ok-insert-in-None-clause-history : goal.returns-in_ok-insert-in-None-clause-history
returns-in_ok-insert-in-None-clause-history c = λ s h. counting_stands c.args.name.now c.args.self.now _ _ s h (search rules) (search rules)
