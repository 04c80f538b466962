use Rattle.std.proofs.Common.{arith}
use Rattle.std.proofs.lemmas.Grind.{common_steps}
use Rattle.artery_judge.proofs.KeyTests.{pair_added}
use Rattle.artery_judge.proofs.sets.ClosedPairs.add.Goals as goal

pub returns : goal.returns
returns c = pair_added (record { of = c.args.of; other = c.args.other }) c.args.self.now _ (grind (arith, common_steps))
