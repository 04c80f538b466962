-- What is written on a kept connection and taken from it, byte by byte.
use Rattle.std.specs.Prelude.{ℕ, List, [], length, take, Option, None, Some, if◌then◌else◌}
use Rattle.artery_machine.specs.Ways.{kept_ways, kept_wrote}
use Rattle.artery_machine.specs.Connections.{Connection, far_open, undelivered_on}
use Rattle.artery_connections.specs.declared.connection.Counts.{Counts}

-- These bytes were written on a connection.
abbrev pub with_bytes : List ℕ → Connection kept_ways → Connection kept_ways
with_bytes more c = record c { way = kept_wrote more c.way }

-- How many of these bytes are on their way once they are written: all where the far side is open, and else none.
abbrev pub gained : List ℕ → Connection kept_ways → ℕ
gained more c = if far_open c then length more else 0

-- The first so many of the bytes that are on their way, at most all; none where there is no connection.
abbrev pub taken : ℕ → Option (Connection kept_ways) → List ℕ
taken count None = []
taken count (Some c) = take count (undelivered_on c)

-- Who dialed a connection and by which dial, and how many bytes were written on it and delivered.
abbrev pub counts_of : Connection kept_ways → Counts
counts_of c = record { uid = c.dialer; dial = c.dial; written = c.way.written; delivered = c.way.delivered }
