use Rattle.std.proofs.Common.{◌≡◌, ◌++◌, sym, subst}
use Rattle.std.specs.Prelude.{OnOk}
use Rattle.artery_journal.specs.declared.line.Line.{Line}
use Rattle.artery_journal.specs.Texts.{line_text}
use Rattle.artery_journal.proofs.Grouped.{grouped}
use Rattle.artery_journal.proofs.line_printing.put_line.Goals as goal

pub returns-in-Terminated-clause-ok : goal.returns-in-Terminated-clause-ok
returns-in-Terminated-clause-ok c =
    subst (λ (line : Line). OnOk c.put_verb_count-in-Terminated.result (c.put_verb_count-in-Terminated.new.out ≡ c.args.out.now ++ line_text line)) (sym c.in-Terminated.is)
    (grouped c.put_verb_count-in-Terminated.result c.args.out.now _ _ _ c.put_verb_count-in-Terminated.ensures.ok)
