-- The numbers and the lengths that a record tells have 64 bits.
use Rattle.std.proofs.Common.{◌≡◌, ℕ, ◌%◌, ◌^◌, ◌<◌, Bool, true, false, cond, List, [], ◌∷◌, ◌++◌, length, Option, Some, None, refl, subst, arith}
use Rattle.std.specs.Option.{unwrap_or}
use Rattle.std.specs.List.{AllByRecursion}
use Rattle.artery_wire.specs.declared.fault.WireFault.{WireFault}
use Rattle.artery_wire.specs.Record.{ValueOf, Varint, Fixed64, Bytes, Fixed32, FieldOf, digits_sum, IsValue, StandFor}
use Rattle.artery_wire.specs.Reading.{fields_of}
use Rattle.artery_wire.specs.Laws.{FieldsAreRead, FaultIsRead}
use Rattle.artery_control.specs.Picking.{fields_in, varint_value, bytes_value, varint_in, bytes_in}
use Rattle.artery_control.specs.Belonging.{IsLast, MayBeLast}
use Rattle.artery_control.specs.Valid.{IsNumber, IsOptional}

abbrev pub Fits : ValueOf → Type 0
Fits (Varint n) = n < 2 ^ 64
Fits (Bytes payload) = length payload < 2 ^ 64
Fits _ = Unit {0}

abbrev pub AllFit : List FieldOf → Type 0
AllFit fs = AllByRecursion (λ f. Fits f.value) fs

low_fits : (n m : ℕ) → n ≡ m % 2 ^ 64 → n < 2 ^ 64
low_fits n m e = omega (arith, e)

value_fits : (kind : ℕ) (v : ValueOf) (bytes : List ℕ) → IsValue kind v bytes → Fits v
value_fits kind (Varint n) bytes v = low_fits n (digits_sum bytes) v.1.value
value_fits kind (Fixed64 n) bytes v = tt
value_fits kind (Bytes payload) bytes v = low_fits (length payload) (digits_sum v.1.size) v.1.size_is.value
value_fits kind (Fixed32 n) bytes v = tt

stand_fits : (fs : List FieldOf) (bytes : List ℕ) → StandFor fs bytes → AllFit fs
stand_fits [] bytes s = tt
stand_fits (f ∷ fs) bytes s = (value_fits s.3.kind f.value s.3.rest s.3.value_is, stand_fits fs s.1 s.4)

fits_by : FieldsAreRead → FaultIsRead → (bytes : List ℕ) (fs : List FieldOf) (o : Option WireFault) → fields_of bytes ≡ (fs, o) → AllFit fs
fits_by w w' bytes fs None e = stand_fits fs bytes ((w fs bytes).1 e)
fits_by w w' bytes fs (Some fault) e = let f = (w' fs bytes fault).1 e in stand_fits fs f.whole f.whole_is

-- whatever the bytes are
pub all_fit : FieldsAreRead → FaultIsRead → (bytes : List ℕ) → AllFit (fields_in bytes)
all_fit w w' bytes = fits_by w w' bytes (fields_of bytes).0 (fields_of bytes).1 refl

fits_at : (before : List FieldOf) (f : FieldOf) (after : List FieldOf) → AllFit (before ++ f ∷ after) → Fits f.value
fits_at [] f after all = all.0
fits_at (b ∷ bs) f after all = fits_at bs f after all.1

some_same : {X : Type 0} (x y : X) → (let o : Option X = Some x in o) ≡ Some y → x ≡ y
some_same x y e = cc

number_one : (b : Bool) (v : ValueOf) (n : ℕ) → cond b (varint_value v) None ≡ Some n → Fits v → n < 2 ^ 64
number_one false v n e fits = absurd cc
number_one true (Varint m) n e fits = subst (λ (t : ℕ). t < 2 ^ 64) (some_same m n e) fits
number_one true (Fixed64 m) n e fits = absurd cc
number_one true (Bytes payload) n e fits = absurd cc
number_one true (Fixed32 m) n e fits = absurd cc

payload_one : (b : Bool) (v : ValueOf) (payload : List ℕ) → cond b (bytes_value v) None ≡ Some payload → Fits v → length payload < 2 ^ 64
payload_one false v payload e fits = absurd cc
payload_one true (Varint m) payload e fits = absurd cc
payload_one true (Fixed64 m) payload e fits = absurd cc
payload_one true (Bytes p) payload e fits = subst (λ (t : List ℕ). length t < 2 ^ 64) (some_same p payload e) fits
payload_one true (Fixed32 m) payload e fits = absurd cc

pub number_fits : (k n : ℕ) (fs : List FieldOf) → AllFit fs → IsLast (varint_in k) n fs → IsNumber n
number_fits k n fs all l = number_one _ l.field.value n l.here (fits_at l.before l.field l.after (subst AllFit l.parts all))

pub payload_fits : (k : ℕ) (payload : List ℕ) (fs : List FieldOf) → AllFit fs → IsLast (bytes_in k) payload fs → IsNumber (length payload)
payload_fits k payload fs all l = payload_one _ l.field.value payload l.here (fits_at l.before l.field l.after (subst AllFit l.parts all))

pub optional_fits : (k : ℕ) (o : Option ℕ) (fs : List FieldOf) → AllFit fs → MayBeLast (varint_in k) o fs → IsOptional o
optional_fits k None fs all m = tt
optional_fits k (Some n) fs all m = number_fits k n fs all m

pub manifest_fits : (k : ℕ) (o : Option (List ℕ)) (fs : List FieldOf) → AllFit fs → MayBeLast (bytes_in k) o fs → IsNumber (length (unwrap_or o []))
manifest_fits k None fs all m = omega arith
manifest_fits k (Some payload) fs all m = payload_fits k payload fs all m
