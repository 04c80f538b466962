-- Reading a record from left to right, with the first fault that is met.
use Rattle.std.specs.Prelude.{ℕ, zero, suc, ◌+◌, ◌-◌, ◌*◌, ◌/◌, ◌%◌, ◌^◌, List, [], ◌∷◌, length, take, drop, Option, Some, None, Result, Ok, Err, nat_lt, ◌==◌, ◌||◌, if◌then◌else◌}
use Rattle.std.specs.Int.{Width, w32, w64, byte_len, from_le_bytes}
use Rattle.artery_wire.specs.declared.fault.FaultKind.{FaultKind}
use Rattle.artery_wire.specs.declared.fault.FaultKind.TheVariants as kinds
use Rattle.artery_wire.specs.declared.fault.WireFault.{WireFault}
use Rattle.artery_base.specs.Words.{◌>>=◌}
use Rattle.artery_wire.specs.Fault.{fault_at}
use Rattle.artery_wire.specs.Record.{ValueOf, Varint, Fixed64, Bytes, Fixed32, FieldOf, max_number}

-- one more digit below a number, modulo 2 ^ 64
abbrev pub with_low : ℕ → ℕ → ℕ
with_low low high = ((high * 128) % 2 ^ 64 + low) % 2 ^ 64

-- the varint at the front, of at most so many bytes, and the bytes after it
unfoldable pub digits_at : ℕ → List ℕ → Result (ℕ × List ℕ) FaultKind
digits_at zero bytes = Err kinds.Varint
digits_at (suc left) [] = Err kinds.Truncated
digits_at (suc left) (b ∷ bs) = if nat_lt b 128 then Ok (b, bs) else (digits_at left bs >>= λ high. Ok (with_low (b % 128) high.0, high.1))

-- the varint at the front, which has at most ten bytes, and the bytes after it
unfoldable pub varint_at : List ℕ → Result (ℕ × List ℕ) FaultKind
varint_at bytes = digits_at 10 bytes

-- so many bytes from the front, and the bytes after them
abbrev pub split_at : ℕ → List ℕ → Result (List ℕ × List ℕ) FaultKind
split_at n bytes = if nat_lt (length bytes) n then Err kinds.Truncated else Ok (take n bytes, drop n bytes)

-- the number of this width at the front, whose bytes stand from the lowest on, and the bytes after it
abbrev pub fixed_at : Width → List ℕ → Result (ℕ × List ℕ) FaultKind
fixed_at w bytes = split_at (byte_len w) bytes >>= λ x. Ok (from_le_bytes w x.0, x.1)

-- a varint says how many bytes the payload behind it has; the payload, and the bytes after it
unfoldable pub payload_at : List ℕ → Result (List ℕ × List ℕ) FaultKind
payload_at bytes = varint_at bytes >>= λ size. split_at size.0 size.1

-- the value of this wire type at the front, and the bytes after it
unfoldable pub value_at : ℕ → List ℕ → Result (ValueOf × List ℕ) FaultKind
value_at zero bytes = varint_at bytes >>= λ x. Ok (Varint x.0, x.1)
value_at (suc zero) bytes = fixed_at w64 bytes >>= λ x. Ok (Fixed64 x.0, x.1)
value_at (suc (suc zero)) bytes = payload_at bytes >>= λ x. Ok (Bytes x.0, x.1)
value_at (suc (suc (suc (suc (suc zero))))) bytes = fixed_at w32 bytes >>= λ x. Ok (Fixed32 x.0, x.1)
value_at _ bytes = Err kinds.WireType

-- the field at the front, and the bytes after it
unfoldable pub field_at : List ℕ → Result (FieldOf × List ℕ) FaultKind
field_at bytes =
    varint_at bytes >>= λ key.
    if (key.0 / 8 == 0) || nat_lt max_number (key.0 / 8) then Err kinds.FieldNumber
    else (value_at (key.0 % 8) key.1 >>= λ x. Ok (record { number = key.0 / 8; value = x.0 }, x.1))

-- what is read one after the other, and the fault after it if there is one
abbrev pub with_first : {X : Type 0} → X → List X × Option WireFault → List X × Option WireFault
with_first x read = (x ∷ read.0, read.1)

-- what is read from a place on: an item and what comes after it, or the fault
abbrev pub goes_on : {X : Type 0} → ℕ → ℕ → Result (X × List ℕ) FaultKind → (ℕ → List ℕ → List X × Option WireFault) → List X × Option WireFault
goes_on len place (Ok x) others = with_first x.0 (others (place + (len - length x.1)) x.1)
goes_on len place (Err kind) others = ([], Some (fault_at kind place))

-- one after the other, at most so many, from a place on
unfoldable pub all_within : {X : Type 0} → (List ℕ → Result (X × List ℕ) FaultKind) → ℕ → ℕ → List ℕ → List X × Option WireFault
all_within one zero place bytes = ([], None)
all_within one (suc n) place [] = ([], None)
all_within one (suc n) place (b ∷ bs) = goes_on (length (b ∷ bs)) place (one (b ∷ bs)) (λ after rest. all_within one n after rest)

-- all fields of the bytes, or those before the first fault and that fault
abbrev pub fields_of : List ℕ → List FieldOf × Option WireFault
fields_of bytes = all_within field_at (length bytes) 0 bytes

-- all varints of the bytes, or those before the first fault and that fault
abbrev pub numbers_of : List ℕ → List ℕ × Option WireFault
numbers_of bytes = all_within varint_at (length bytes) 0 bytes
