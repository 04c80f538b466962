use Rattle.std.proofs.Common.{rules}
use Rattle.artery_world.proofs.Starting.{stopped}
use Rattle.artery_world.proofs.network.Network.stops.Goals as goal

pub returns : goal.returns
returns c =
    stopped c.args.uid c.args.self.now c.comes_out.new.self c.is_gone.new.self c.in-Some.live.now (search rules) (search rules) (search rules)
