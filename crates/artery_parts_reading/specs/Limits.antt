-- The limit of an audit.
use Rattle.std.specs.Prelude.{ℕ}

-- at most 64 parts
abbrev pub most_parts : ℕ
most_parts = 64
