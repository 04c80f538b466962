-- What a record is: fields one after the other, in the wire format of Protocol Buffers.
use Rattle.std.specs.Prelude.{◌≡◌, ℕ, ◌+◌, ◌*◌, ◌%◌, ◌^◌, ◌<◌, ◌≤◌, List, [], ◌∷◌, ◌++◌, length}
use Rattle.std.specs.Int.{w32, w64, from_le_bytes}
use Rattle.artery_wire.specs.declared.field.Value.{Value}
use Rattle.artery_wire.specs.declared.field.Value.TheVariants as values
use Rattle.artery_wire.specs.declared.field.Field.{Field}

-- the value of a field, without where it lies in memory
pub data ValueOf : Type 0 where
  Varint : (number : ℕ) → ValueOf
  Fixed64 : (number : ℕ) → ValueOf
  Bytes : (payload : List ℕ) → ValueOf
  Fixed32 : (number : ℕ) → ValueOf

-- a field, without where it lies in memory
pub record FieldOf : Type 0 where
  pub number : ℕ
  pub value : ValueOf

-- the value, without where its payload lies
abbrev pub value_of : Value → ValueOf
value_of (values.Varint n) = Varint n
value_of (values.Fixed64 n) = Fixed64 n
value_of (values.Bytes payload) = Bytes payload.now
value_of (values.Fixed32 n) = Fixed32 n

-- the field, without where its payload lies
abbrev pub field_of : Field → FieldOf
field_of f = record { number = f.number; value = value_of f.value }

-- all bytes but the last have the high bit
abbrev pub Continues : List ℕ → Type 0
Continues [] = ⊥
Continues (b ∷ []) = b < 128
Continues (b ∷ c ∷ bs) = (128 ≤ b) × Continues (c ∷ bs)

-- the sum of (byte mod 128) * 128 ^ place, places from 0
abbrev pub digits_sum : List ℕ → ℕ
digits_sum [] = 0
digits_sum (b ∷ bs) = b % 128 + 128 * digits_sum bs

-- A varint is one to ten bytes of which all but the last have the high bit. It stands for its sum modulo 2 ^ 64.
pub record IsVarint (n : ℕ) (bytes : List ℕ) : Type 0 where
  pub continues : Continues bytes
  pub ten : length bytes ≤ 10
  pub value : n ≡ digits_sum bytes % 2 ^ 64

-- a varint, and so many bytes after it
pub record IsPayload (payload bytes : List ℕ) : Type 0 where
  pub size : List ℕ
  pub size_is : IsVarint (length payload) size
  pub parts : bytes ≡ size ++ payload

-- Bytes of this wire type that stand for this value: 0 a varint, 1 eight bytes from the lowest,
-- 2 a varint and so many bytes, 5 four bytes from the lowest.
abbrev pub IsValue : ℕ → ValueOf → List ℕ → Type 0
IsValue kind (Varint n) bytes = (kind ≡ 0) × IsVarint n bytes
IsValue kind (Fixed64 n) bytes = (kind ≡ 1) × (length bytes ≡ 8) × (n ≡ from_le_bytes w64 bytes)
IsValue kind (Bytes payload) bytes = (kind ≡ 2) × IsPayload payload bytes
IsValue kind (Fixed32 n) bytes = (kind ≡ 5) × (length bytes ≡ 4) × (n ≡ from_le_bytes w32 bytes)

-- the largest number of a field; the smallest is 1
abbrev pub max_number : ℕ
max_number = 536870911

-- A field is a key, the varint of its number * 8 + its wire type, and then its value.
pub record IsField (f : FieldOf) (bytes : List ℕ) : Type 0 where
  pub kind : ℕ
  pub key : List ℕ
  pub rest : List ℕ
  pub parts : bytes ≡ key ++ rest
  pub key_is : IsVarint (f.number * 8 + kind) key
  pub above : 1 ≤ f.number
  pub below : f.number ≤ max_number
  pub value_is : IsValue kind f.value rest

-- the bytes are those of the items, one after the other
abbrev pub OneAfterOther : {X : Type 0} → (X → List ℕ → Type 0) → List X → List ℕ → Type 0
OneAfterOther Is [] bytes = bytes ≡ []
OneAfterOther Is (x ∷ xs) bytes = (front : List ℕ) × (rest : List ℕ) × (bytes ≡ front ++ rest) × Is x front × OneAfterOther Is xs rest

-- A list of fields stands for bytes where the bytes are its fields one after the other.
abbrev pub StandFor : List FieldOf → List ℕ → Type 0
StandFor = OneAfterOther IsField

-- A list of numbers stands for the bytes of a packed field where the bytes are their varints one after the other.
abbrev pub ArePacked : List ℕ → List ℕ → Type 0
ArePacked = OneAfterOther IsVarint
