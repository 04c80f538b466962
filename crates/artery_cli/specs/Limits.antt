-- Limits of the input.
use Rattle.std.specs.Prelude.{ℕ}

-- At most 67,108,864 bytes are read as an input.
abbrev pub most_bytes : ℕ
most_bytes = 67108864

-- The scripts that `gen` plays are numbered from 1 to 10,000.
abbrev pub most_scripts : ℕ
most_scripts = 10000
