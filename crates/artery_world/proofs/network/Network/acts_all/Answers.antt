use Rattle.std.proofs.Common.{rules, ◌∙◌}
use Rattle.artery_world.proofs.Coming.{no_act}
use Rattle.artery_world.proofs.network.Network.acts_all.Goals as goal

pub returns : goal.returns
returns c = no_act c.args.uid c.args.moment c.loop-left.left.items c.loop-left.self (search rules) ∙ c.loop-left.invariant
