-- Numbers of tables and their versions.
use Rattle.std.specs.Prelude.{ℕ, ◌+◌, ◌<◌}

-- Versions go round after 127 numbers.
abbrev pub versions : ℕ
versions = 127

-- A number is 0, or less than 127 below that of the last table announced.
abbrev pub Fits : ℕ → ℕ → Type 0
Fits last number = 0 < number → last < number + versions
