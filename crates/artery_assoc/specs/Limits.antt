-- Limits of a peer.
use Rattle.std.specs.Prelude.{ℕ}

-- At most 1,024 UIDs are known of one address, the closed ones and the current one.
abbrev pub most_incarnations : ℕ
most_incarnations = 1024
