use Rattle.std.proofs.Common.{◌≤◌, length}
use Rattle.artery_net.proofs.socket_peer.send_front.Given as goal

abbrev pub invariant-loop : goal.invariant-loop
invariant-loop l = l.sent ≤ length l.bytes
