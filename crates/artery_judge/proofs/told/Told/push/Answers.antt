use Rattle.std.proofs.Common.{arith}
use Rattle.std.proofs.lemmas.Grind.{common_steps}
use Rattle.artery_judge.proofs.KeyTests.{told_there, told_new}
use Rattle.artery_judge.proofs.told.Told.push.Goals as goal

pub returns-in-Some : goal.returns-in-Some
returns-in-Some c = told_there (record { of = c.args.of; other = c.args.other; dial = c.args.dial }) c.args.self.now _ c.in-Some.queue.now c.push.new.self c.args.message.now (grind (arith, common_steps)) (grind (arith, common_steps)) (grind (arith, common_steps))

pub returns : goal.returns
returns c = told_new (record { of = c.args.of; other = c.args.other; dial = c.args.dial }) c.args.self.now _ c.push-2.new.self c.args.message.now (grind (arith, common_steps)) (grind (arith, common_steps)) (grind (arith, common_steps))
