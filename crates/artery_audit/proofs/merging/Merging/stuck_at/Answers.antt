use Rattle.std.proofs.Common.{sym, ◌∙◌}
use Rattle.artery_audit.proofs.Turns.{finds_one, must_break}
use Rattle.artery_audit.proofs.merging.Merging.stuck_at.Goals as goal

pub returns-in-Some : goal.returns-in-Some
returns-in-Some c =
    finds_one c.args.k c.args.self.now c.in_ok-part.part.now c.in_ok-next.next.line.now c.in_ok-next.next.number c.in-Some.law c.requires.under (sym c.in_ok-part.ensures) (sym c.in_ok-next.ensures)
    (sym (c.law.ensures c.args.self.now.merge c.requires.under.judged) ∙ c.in-Some.is)

pub returns-in-None : goal.returns-in-None
returns-in-None c = λ p at.
    absurd (must_break c.args.k c.args.self.now c.in_ok-next.next.line.now c.in_ok-next.next.number c.requires.under c.requires.within c.requires.ended (sym c.in_ok-next.ensures)
    (sym (c.law.ensures c.args.self.now.merge c.requires.under.judged) ∙ c.in-None.is))
