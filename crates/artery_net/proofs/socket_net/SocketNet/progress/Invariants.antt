use Rattle.std.proofs.Common.{◌≡◌}
use Rattle.artery_net.specs.Counting.{counts}
use Rattle.artery_net.proofs.socket_net.SocketNet.progress.Given as goal

abbrev pub invariant-loop : goal.invariant-loop
invariant-loop g l = counts l.self ≡ counts l.fn.self
