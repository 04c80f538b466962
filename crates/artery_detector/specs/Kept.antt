-- The two moments that a detector keeps, and the list of asks and heartbeats that they stand for.
use Rattle.std.specs.Prelude.{◌≡◌, ℕ, ◌+◌, Bool, nat_le, List, Option, Some, None, if◌then◌else◌}
use Rattle.artery_detector.specs.Availability.{Beat, asks, heartbeats, head_of, last_of, is_recent}

-- The moment of the first ask, and that of the last heartbeat, where there was one.
pub record Kept : Type 0 where
  pub first_ask : Option ℕ
  pub last_heartbeat : Option ℕ

-- A new detector keeps nothing.
abbrev pub nothing_kept : Kept
nothing_kept = record { first_ask = None; last_heartbeat = None }

-- The last heartbeat after a later ask: one that was seen, else the ask itself where it is 1,000 ms or more after the first.
abbrev pub heard_after : ℕ → ℕ → Option ℕ → Option ℕ
heard_after now first None = if nat_le (first + 1000) now then Some now else None
heard_after now first (Some last) = Some last

-- The first ask is noted, and a later one may be the last heartbeat.
abbrev pub asked_after : ℕ → Option ℕ → Option ℕ → Kept
asked_after now None last = record { first_ask = Some now; last_heartbeat = last }
asked_after now (Some first) last = record { first_ask = Some first; last_heartbeat = heard_after now first last }

-- What is kept after an ask.
abbrev pub kept_asked : ℕ → Kept → Kept
kept_asked now k = asked_after now k.first_ask k.last_heartbeat

-- What is kept after a heartbeat.
abbrev pub kept_heard : ℕ → Kept → Kept
kept_heard now k = record k { last_heartbeat = Some now }

-- Whether the peer is available, by what is kept.
abbrev pub kept_available : ℕ → Kept → Bool
kept_available now k = is_recent now k.last_heartbeat

-- What is kept stands for a list of asks and heartbeats: for its first ask and its last heartbeat.
pub record Stands (k : Kept) (beats : List Beat) : Type 0 where
  pub first_ask : k.first_ask ≡ head_of (asks beats)
  pub last_heartbeat : k.last_heartbeat ≡ last_of (heartbeats beats)
