-- The shortest bytes of a field.
use Rattle.std.specs.Prelude.{◌≡◌, ℕ, zero, suc, ◌+◌, ◌*◌, ◌/◌, ◌%◌, ◌≤◌, List, [], ◌∷◌, ◌++◌, length, take, nat_lt, if◌then◌else◌}
use Rattle.std.specs.Int.{w32, w64, to_le_bytes}
use Rattle.std.specs.List.{flat_map}
use Rattle.artery_wire.specs.Record.{ValueOf, Varint, Fixed64, Bytes, Fixed32, FieldOf, max_number}

-- the digits of a number to base 128 from the lowest, at most so many, all but the last with the high bit
unfoldable pub digits_within : ℕ → ℕ → List ℕ
digits_within zero n = []
digits_within (suc left) n = if nat_lt n 128 then n ∷ [] else (n % 128 + 128) ∷ digits_within left (n / 128)

-- the shortest varint of a number below 2 ^ 64
unfoldable pub varint_of : ℕ → List ℕ
varint_of n = digits_within 10 n

-- the numbers that a field may have
abbrev pub IsNumber : ℕ → Type 0
IsNumber n = (1 ≤ n) × (n ≤ max_number)

-- what stands before a payload of this length: the key and the length
abbrev pub head_bytes : ℕ → ℕ → List ℕ
head_bytes number size = varint_of (number * 8 + 2) ++ varint_of size

-- the key of this number and wire type, and the value
abbrev pub value_bytes : ℕ → ValueOf → List ℕ
value_bytes number (Varint n) = varint_of (number * 8 + 0) ++ varint_of n
value_bytes number (Fixed64 n) = varint_of (number * 8 + 1) ++ to_le_bytes w64 n
value_bytes number (Bytes payload) = head_bytes number (length payload) ++ payload
value_bytes number (Fixed32 n) = varint_of (number * 8 + 5) ++ to_le_bytes w32 n

-- the shortest bytes of a field
unfoldable pub field_bytes : FieldOf → List ℕ
field_bytes f = value_bytes f.number f.value

-- the fields one after the other, each in its shortest form
abbrev pub record_bytes : List FieldOf → List ℕ
record_bytes fs = flat_map field_bytes fs

-- a field whose value is a number
abbrev pub uint_field : ℕ → ℕ → FieldOf
uint_field number n = record { number = number; value = Varint n }

-- a field whose value is a payload
abbrev pub bytes_field : ℕ → List ℕ → FieldOf
bytes_field number payload = record { number = number; value = Bytes payload }

-- new begins with all of old
abbrev pub BeginsWith : List ℕ → List ℕ → Type 0
BeginsWith old new = take (length old) new ≡ old
