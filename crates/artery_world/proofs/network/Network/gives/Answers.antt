use Rattle.std.proofs.Common.{rules, refl, set}
use Rattle.artery_world.proofs.Coming.{given}
use Rattle.artery_world.proofs.network.Network.gives.Goals as goal

pub returns : goal.returns
returns c =
    given c.args.uid c.args.input c.args.self.now (record c.args.self.now { live = set c.args.self.now.live c.in-Some.at c.takes.new.self }) c.acts_all.new.self
    c.in-Some.at c.moment-moment.result c.index_mut-live.result.now c.takes.new.self c.takes.new.effects.items
    (search rules) (search rules) (search rules) (search rules) (search rules) refl (search rules)
