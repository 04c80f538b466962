-- What readers and writers of records keep to.
use Rattle.std.specs.Prelude.{◌≡◌, ℕ, ◌^◌, ◌<◌, ◌≤◌, ◌↔◌, List, ◌++◌, length, Some, None}
use Rattle.std.specs.List.{AllByRecursion}
use Rattle.artery_wire.specs.declared.fault.WireFault.{WireFault}
use Rattle.artery_wire.specs.Record.{ValueOf, Varint, Fixed64, Bytes, Fixed32, FieldOf, IsVarint, StandFor, ArePacked}
use Rattle.artery_wire.specs.FirstFault.{IsFirstFault, IsFirstPackedFault}
use Rattle.artery_wire.specs.Reading.{fields_of, numbers_of}
use Rattle.artery_wire.specs.Writing.{IsNumber, varint_of, record_bytes}

-- a list of fields stands for the bytes exactly where it is read from them with no fault
abbrev pub FieldsAreRead : Type 0
FieldsAreRead = (fs : List FieldOf) (bytes : List ℕ) → StandFor fs bytes ↔ (fields_of bytes ≡ (fs, None))

-- these are the longest list of whole fields and the first fault exactly where they are read
abbrev pub FaultIsRead : Type 0
FaultIsRead = (fs : List FieldOf) (bytes : List ℕ) (fault : WireFault) → IsFirstFault bytes fs fault ↔ (fields_of bytes ≡ (fs, Some fault))

-- a list of fields that stands for a front of the bytes begins what is read from them
abbrev pub FieldsAreLongest : Type 0
FieldsAreLongest =
    (fs : List FieldOf) (front rest : List ℕ) → StandFor fs front → (others : List FieldOf) × ((fields_of (front ++ rest)).0 ≡ fs ++ others)

-- a list of numbers stands for a packed field exactly where it is read from it with no fault
abbrev pub NumbersAreRead : Type 0
NumbersAreRead = (ns : List ℕ) (bytes : List ℕ) → ArePacked ns bytes ↔ (numbers_of bytes ≡ (ns, None))

-- these are the longest list of whole numbers and the first fault exactly where they are read
abbrev pub PackedFaultIsRead : Type 0
PackedFaultIsRead = (ns : List ℕ) (bytes : List ℕ) (fault : WireFault) → IsFirstPackedFault bytes ns fault ↔ (numbers_of bytes ≡ (ns, Some fault))

-- the value of a field is one that its bytes can tell
abbrev pub FitsValue : ValueOf → Type 0
FitsValue (Varint n) = n < 2 ^ 64
FitsValue (Fixed64 n) = n < 2 ^ 64
FitsValue (Bytes payload) = length payload < 2 ^ 64
FitsValue (Fixed32 n) = n < 2 ^ 32

-- the field is one that can be written
pub record FitsField (f : FieldOf) : Type 0 where
  pub number : IsNumber f.number
  pub value : FitsValue f.value

-- fields that were written are read
abbrev pub WrittenIsRead : Type 0
WrittenIsRead = (fs : List FieldOf) → AllByRecursion FitsField fs → fields_of (record_bytes fs) ≡ (fs, None)

-- what is written of a number is a varint of it
abbrev pub VarintIsWritten : Type 0
VarintIsWritten = (n : ℕ) → n < 2 ^ 64 → IsVarint n (varint_of n)

-- and none of its varints is shorter
abbrev pub VarintIsShortest : Type 0
VarintIsShortest = (n : ℕ) (bytes : List ℕ) → IsVarint n bytes → length (varint_of n) ≤ length bytes
