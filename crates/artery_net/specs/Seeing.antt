-- What a look at a connection may find.
use Rattle.std.specs.Prelude.{ℕ, ◌<◌, ◌≤◌}
use Rattle.artery_net.specs.declared.socket_peer.Seen.{Seen}
use Rattle.artery_net.specs.declared.socket_peer.Seen.TheVariants.{Nothing, Up, Piece, Gone}

-- A piece has at least one byte, and no more than the buffer has room for.
abbrev pub Sees : Seen → ℕ → Type 0
Sees Nothing room = Unit {0}
Sees Up room = Unit {0}
Sees (Piece count) room = (0 < count) × (count ≤ room)
Sees Gone room = Unit {0}
