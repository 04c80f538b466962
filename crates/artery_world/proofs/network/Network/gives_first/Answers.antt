use Rattle.std.proofs.Common.{rules}
use Rattle.artery_world.proofs.Coming.{first_given}
use Rattle.artery_world.proofs.network.Network.gives_first.Goals as goal

pub returns-clause-network : goal.returns-clause-network
returns-clause-network c =
    first_given c.args.far c.args.number c.in_ok-piece.piece c.args.rest.now c.min-size.result c.args.self.now c.gives_piece.new.self (search rules) (search rules) (search rules)
