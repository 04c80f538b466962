use Rattle.std.proofs.Common.{sym, subst, ◌∙◌, false}
use Rattle.artery_audit.specs.Merging.{Turned}
use Rattle.artery_audit.proofs.Turns.{turns_idle, turns_none, turns_back, turns_on}
use Rattle.artery_audit.proofs.merging.Merging.turn.Goals as goal

pub returns-then-not-is_ready : goal.returns-then-not-is_ready
returns-then-not-is_ready c = turns_idle c.args.k c.args.self.now c.requires.under c.requires.within c.requires.first (sym c.is_ready.ensures ∙ c.if-not-is_ready.true)

pub returns-in_default : goal.returns-in_default
returns-in_default c = subst (λ m. Turned c.args.k false c.args.self.now m) (sym c.rest.ensures) (turns_none c.args.k c.args.self.now c.requires.under c.requires.within c.requires.first (sym c.in_default.ensures))

pub returns-then-breaks : goal.returns-then-breaks
returns-then-breaks c =
    subst (λ m. Turned c.args.k false c.args.self.now m) (sym c.rest-then-breaks.ensures)
    (turns_back c.args.k c.args.self.now c.in-Some.next.line.now c.in-Some.next.number c.requires.under c.requires.within c.requires.first (sym c.in-Some.ensures) (sym (c.breaks.ensures c.args.self.now.merge c.requires.under.judged) ∙ c.if-breaks.true))

pub returns : goal.returns
returns c =
    turns_on c.args.k c.args.self.now c.take.new.self c.in-Some.next.line.now c.in-Some.next.number c.requires.under c.requires.within c.requires.first (sym c.is_ready.ensures ∙ c.if-not-is_ready.false) (sym c.in-Some.ensures)
    (sym (c.breaks.ensures c.args.self.now.merge c.requires.under.judged) ∙ c.if-breaks.false) c.in_ok-take.ensures
