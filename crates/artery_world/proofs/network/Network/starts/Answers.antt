use Rattle.std.proofs.Common.{rules}
use Rattle.artery_world.proofs.Starting.{started}
use Rattle.artery_world.proofs.network.Network.starts.Goals as goal

pub returns : goal.returns
returns c =
    started c.args.unique c.args.self.now c.acts_all.new.self c.insert.new.self.keys c.in_ok-node.node.node c.start.new.effects.items c.moment-moment.result
    (search rules) (search rules) (search rules) (search rules) (search rules) (search rules) (search rules)
