use Rattle.std.proofs.Common.{arith}
use Rattle.std.proofs.lemmas.Grind.{common_steps}
use Rattle.artery_judge.proofs.KeyTests.{watch_added}
use Rattle.artery_judge.proofs.sets.Watches.add.Goals as goal

pub returns : goal.returns
returns c = watch_added (record { of = c.args.of; id = c.args.id }) c.args.self.now _ (grind (arith, common_steps))
