-- Limits of scripts and requests.
use Rattle.std.specs.Prelude.{ℕ, ◌^◌}

-- Moments are below 2^62.
abbrev pub moment_end : ℕ
moment_end = 2 ^ 62

-- One line lets at most 1,000 rounds pass.
abbrev pub most_rounds : ℕ
most_rounds = 1000

-- A payload has at most 131,072 bytes.
abbrev pub most_payload : ℕ
most_payload = 131072

-- A sender, a recipient or a manifest has at most 4,096 bytes.
abbrev pub most_name : ℕ
most_name = 4096

-- An actor of another system, its address and its path together, has at most 4,096 bytes.
abbrev pub most_reference : ℕ
most_reference = 4096

-- The path of an actor has at most 1,024 bytes.
abbrev pub most_path : ℕ
most_path = 1024
