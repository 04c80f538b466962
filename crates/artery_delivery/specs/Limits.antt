-- Limits of delivery.
use Rattle.std.specs.Prelude.{ℕ}

-- At most 20,000 messages to a peer are kept.
abbrev pub most_kept : ℕ
most_kept = 20000

-- At most 1,024 messages are written above the last acknowledged number.
abbrev pub window : ℕ
window = 1024

-- The last number that a message can have.
abbrev pub last_number : ℕ
last_number = 18446744073709551614

-- Room is made for 16 messages at first.
abbrev pub first_room : ℕ
first_room = 16

-- At most 1,024 origins are known.
abbrev pub most_origins : ℕ
most_origins = 1024

-- The number that is never expected: the last of 64 bits.
abbrev pub never_expected : ℕ
never_expected = 18446744073709551615
