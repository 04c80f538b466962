use Rattle.std.proofs.Common.{◌≡◌, drop}
use Rattle.artery_journal.specs.declared.line.Line.TheVariants as lines
use Rattle.artery_machine.specs.Doing.{each, tells_of}
use Rattle.artery_node.proofs.work.Work.tells_terminated.Given as goal

abbrev pub invariant-loop-id : goal.invariant-loop-id
invariant-loop-id l = each (drop l.id-index l.ids) (λ id. tells_of (λ me. lines.Terminated me id)) l.self ≡ each l.fn.ids (λ id. tells_of (λ me. lines.Terminated me id)) l.fn.self
