use Rattle.std.proofs.Common.{◌∙◌}
use Rattle.artery_machine.specs.Doing.{tells_of}
use Rattle.artery_journal.specs.declared.line.Line.TheVariants as lines
use Rattle.artery_node.proofs.Each.{each_at}
use Rattle.artery_node.proofs.work.Work.tells_terminated.Goals as goal

-- the line of the next id
pub loop-id-preserved : goal.loop-id-preserved
loop-id-preserved c =
    each_at c.loop-id.id-index c.args.ids.now 0 (λ id. tells_of (λ me. lines.Terminated me id)) c.loop-id.self c.tells_end.new.self c.loop-id-test.true (c.in_ok-tells_end.ensures) ∙ c.loop-id.invariant
