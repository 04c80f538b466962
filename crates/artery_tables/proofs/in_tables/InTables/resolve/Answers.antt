use Rattle.std.proofs.Common.{◌∙◌, sym, rules}
use Rattle.artery_tables.proofs.Stories.{entries_alike, entry_named, entry_past}
use Rattle.artery_tables.proofs.in_tables.InTables.resolve.Goals as goal

pub returns-in_default-clause-history : goal.returns-in_default-clause-history
returns-in_default-clause-history c = λ s h. sym (entries_alike c.args.version c.args.index c.args.self.now s h) ∙ search rules

pub returns-in-Some-name_at-clause-history : goal.returns-in-Some-name_at-clause-history
returns-in-Some-name_at-clause-history c =
    λ s h. sym (entries_alike c.args.version c.args.index c.args.self.now s h) ∙ entry_named c.args.version c.args.index c.args.self.now c.in-Some.table.now c.in-Some-name_at.name.now (search rules) (search rules) (search rules)

pub returns-in-None-clause-history : goal.returns-in-None-clause-history
returns-in-None-clause-history c =
    λ s h. sym (entries_alike c.args.version c.args.index c.args.self.now s h) ∙ entry_past c.args.version c.args.index c.args.self.now c.in-Some.table.now (search rules) (search rules) (search rules)
