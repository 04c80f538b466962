use Rattle.std.proofs.Common.{arith}
use Rattle.std.proofs.lemmas.Grind.{common_steps}
use Rattle.artery_judge.proofs.KeyTests.{sent_popped}
use Rattle.artery_judge.proofs.sent.Sent.pop.Goals as goal

pub returns : goal.returns
returns c = sent_popped (record { of = c.args.other; other = c.args.of }) c.args.self.now _ c.in-Some.queue.now c.pop.new.self (grind (arith, common_steps)) (grind (arith, common_steps)) (grind (arith, common_steps))
