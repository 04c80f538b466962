use Rattle.std.proofs.Common.{arith}
use Rattle.std.proofs.lemmas.Grind.{common_steps}
use Rattle.artery_judge.proofs.KeyTests.{node_there, node_new}
use Rattle.artery_judge.proofs.nodes.Nodes.note.Goals as goal

pub returns-in-Some : goal.returns-in-Some
returns-in-Some c = node_there (record { of = c.args.of }) c.args.self.now _ c.in-Some.node.now c.note.new.self c.args.stopped c.args.moment (grind (arith, common_steps)) (grind (arith, common_steps)) (grind (arith, common_steps))

pub returns : goal.returns
returns c = node_new (record { of = c.args.of }) c.args.self.now _ c.args.stopped c.args.moment (grind (arith, common_steps)) (grind (arith, common_steps))
