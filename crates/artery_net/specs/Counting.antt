-- What a net over sockets counts.
use Rattle.std.specs.Prelude.{ℕ}
use Rattle.artery_net.specs.declared.socket_net.SocketNet.{SocketNet}

-- Its counts of calls of `next` and of faults, and the moment of the last tick.
pub record Counts : Type 0 where
  pub asked : ℕ
  pub faults : ℕ
  pub next_faults : ℕ
  pub moment : ℕ

-- The counts of a net over sockets.
abbrev pub counts : {R : Type 0} → SocketNet R → Counts
counts n = record { asked = n.asked; faults = n.faults; next_faults = n.next_faults; moment = n.moment }
