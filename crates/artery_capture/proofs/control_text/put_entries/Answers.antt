use Rattle.artery_capture.proofs.Entries.{values_end}
use Rattle.artery_capture.proofs.control_text.put_entries.Goals as goal

pub returns-else-at-values-clause-ok : goal.returns-else-at-values-clause-ok
returns-else-at-values-clause-ok c = values_end c.args.keys.now c.args.values.now c.loop-at.at c.loop-at.out _ c.if-at-values.false c.loop-at.invariant.so_far
