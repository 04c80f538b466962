-- The first fault of bytes that no list of fields stands for.
use Rattle.std.specs.Prelude.{◌≡◌, ℕ, zero, suc, ◌/◌, ◌%◌, ◌<◌, ◌≤◌, ◌⊎◌, List, [], ◌∷◌, ◌++◌, length}
use Rattle.artery_wire.specs.declared.fault.FaultKind.{FaultKind}
use Rattle.artery_wire.specs.declared.fault.FaultKind.TheVariants as kinds
use Rattle.artery_wire.specs.declared.fault.WireFault.{WireFault}
use Rattle.artery_wire.specs.Fault.{fault_at}
use Rattle.artery_wire.specs.Record.{FieldOf, IsVarint, IsField, OneAfterOther, max_number}

-- each byte has the high bit
abbrev pub AllContinue : List ℕ → Type 0
AllContinue [] = Unit {0}
AllContinue (b ∷ bs) = (128 ≤ b) × AllContinue bs

-- so many bytes at the front that all continue
pub record IsLong (many : ℕ) (bytes : List ℕ) : Type 0 where
  pub front : List ℕ
  pub rest : List ℕ
  pub parts : bytes ≡ front ++ rest
  pub length_is : length front ≡ many
  pub continue : AllContinue front

-- Bytes that begin with no varint: ten that all continue, or fewer that all continue and then the end.
abbrev pub VarintFault : FaultKind → List ℕ → Type 0
VarintFault kinds.Varint bytes = IsLong 10 bytes
VarintFault kinds.WireType bytes = ⊥
VarintFault kinds.Truncated bytes = (length bytes < 10) × AllContinue bytes
VarintFault kinds.FieldNumber bytes = ⊥

-- the varint of a length, and fewer bytes after it
pub record IsCutPayload (bytes : List ℕ) : Type 0 where
  pub size : List ℕ
  pub rest : List ℕ
  pub number : ℕ
  pub parts : bytes ≡ size ++ rest
  pub size_is : IsVarint number size
  pub cut : length rest < number

-- bytes that begin with no payload
abbrev pub PayloadFault : FaultKind → List ℕ → Type 0
PayloadFault kind bytes = VarintFault kind bytes ⊎ ((kind ≡ kinds.Truncated) × IsCutPayload bytes)

-- Bytes that begin with no value of this wire type. The types 3, 4, 6 and 7 have none.
abbrev pub ValueFault : ℕ → FaultKind → List ℕ → Type 0
ValueFault zero kind bytes = VarintFault kind bytes
ValueFault (suc zero) kind bytes = (kind ≡ kinds.Truncated) × (length bytes < 8)
ValueFault (suc (suc zero)) kind bytes = PayloadFault kind bytes
ValueFault (suc (suc (suc (suc (suc zero))))) kind bytes = (kind ≡ kinds.Truncated) × (length bytes < 4)
ValueFault _ kind bytes = kind ≡ kinds.WireType

-- what is wrong after a key: first its number, then its wire type and value
abbrev pub AfterKey : ℕ → FaultKind → List ℕ → Type 0
AfterKey key kind bytes =
    ((kind ≡ kinds.FieldNumber) × ((key / 8 ≡ 0) ⊎ (max_number < key / 8)))
    ⊎ ((1 ≤ key / 8) × (key / 8 ≤ max_number) × ValueFault (key % 8) kind bytes)

-- a key, and something wrong after it
pub record IsFaultyField (kind : FaultKind) (bytes : List ℕ) : Type 0 where
  pub key : List ℕ
  pub rest : List ℕ
  pub number : ℕ
  pub parts : bytes ≡ key ++ rest
  pub key_is : IsVarint number key
  pub fault : AfterKey number kind rest

-- Bytes that begin with no field, and what is wrong with them: first the key's varint.
abbrev pub FieldFault : FaultKind → List ℕ → Type 0
FieldFault kind bytes = VarintFault kind bytes ⊎ IsFaultyField kind bytes

-- After the longest front that items stand for comes what begins with no item. The fault has the place of its first byte.
pub record FaultsAfter {X : Type 0} (Is : X → List ℕ → Type 0) (Faulty : FaultKind → List ℕ → Type 0) (bytes : List ℕ) (items : List X) (fault : WireFault) : Type 0 where
  pub whole : List ℕ
  pub rest : List ℕ
  pub parts : bytes ≡ whole ++ rest
  pub whole_is : OneAfterOther Is items whole
  pub some : 0 < length rest
  pub kind : FaultKind
  pub faulty : Faulty kind rest
  pub fault_is : fault ≡ fault_at kind (length whole)

-- the longest list of whole fields, and the first fault
abbrev pub IsFirstFault : List ℕ → List FieldOf → WireFault → Type 0
IsFirstFault = FaultsAfter IsField FieldFault

-- the longest list of whole numbers of a packed field, and the first fault
abbrev pub IsFirstPackedFault : List ℕ → List ℕ → WireFault → Type 0
IsFirstPackedFault = FaultsAfter IsVarint VarintFault
