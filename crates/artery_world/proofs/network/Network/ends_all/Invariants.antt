use Rattle.std.proofs.Common.{◌≡◌, ◌-◌, ◌≤◌, length}
use Rattle.artery_machine.specs.World.{each_place, by_connection, where_it, ends_far}
use Rattle.artery_world.specs.Acting.{is_far_of}
use Rattle.artery_world.proofs.network.Network.ends_all.Given as goal

abbrev pub invariant-loop-self : goal.invariant-loop-self
invariant-loop-self l = record {
  rest : each_place l.from (l.made - l.from) (by_connection (where_it (is_far_of l.fn.uid) ends_far)) l.self ≡ each_place 0 l.made (by_connection (where_it (is_far_of l.fn.uid) ends_far)) l.fn.self;
  within : l.from ≤ l.made;
  made : l.made ≡ length l.fn.self.connections;
}

abbrev pub decreases-loop-self : goal.decreases-loop-self
decreases-loop-self l = l.made - l.from
