use Rattle.std.proofs.Common.{arith}
use Rattle.std.proofs.lemmas.Grind.{common_steps}
use Rattle.artery_judge.proofs.KeyTests.{told_skipped}
use Rattle.artery_judge.proofs.told.Told.skip_past.Goals as goal

pub returns : goal.returns
returns c = told_skipped (record { of = c.args.other; other = c.args.of; dial = c.args.dial }) c.args.message.now c.args.self.now _ c.in-Some.queue.now c.skip_past.new.self (grind (arith, common_steps)) (grind (arith, common_steps)) (grind (arith, common_steps))
