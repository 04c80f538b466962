use Rattle.std.proofs.Common.{arith}
use Rattle.std.proofs.lemmas.Grind.{common_steps}
use Rattle.artery_judge.proofs.KeyTests.{sent_there, sent_new}
use Rattle.artery_judge.proofs.sent.Sent.push.Goals as goal

pub returns-in-Some : goal.returns-in-Some
returns-in-Some c = sent_there (record { of = c.args.of; other = c.args.other }) c.args.self.now _ c.in-Some.queue.now c.push.new.self (c.args.n, c.args.message.now) (grind (arith, common_steps)) (grind (arith, common_steps)) (grind (arith, common_steps))

pub returns : goal.returns
returns c = sent_new (record { of = c.args.of; other = c.args.other }) c.args.self.now _ c.push-2.new.self (c.args.n, c.args.message.now) (grind (arith, common_steps)) (grind (arith, common_steps)) (grind (arith, common_steps))
