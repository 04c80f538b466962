-- What the fields of a record say about one number.
use Rattle.std.specs.Prelude.{ℕ, ◌==◌, List, [], ◌∷◌, ◌++◌, Option, Some, None, Result, Ok, Err, if◌then◌else◌}
use Rattle.std.specs.Option.{option_or, unwrap_or}
use Rattle.artery_wire.specs.declared.fault.WireFault.{WireFault}
use Rattle.artery_wire.specs.Record.{ValueOf, Varint, Bytes, FieldOf}
use Rattle.artery_wire.specs.Reading.{fields_of, numbers_of}
use Rattle.artery_control.specs.declared.fault.ControlFault.{ControlFault}
use Rattle.artery_control.specs.declared.fault.ControlFault.TheVariants as faults
use Rattle.artery_control.specs.declared.path.Path.{Path}
use Rattle.artery_control.specs.declared.picking.Form.{Form}
use Rattle.artery_control.specs.declared.picking.Form.TheVariants as forms
use Rattle.artery_base.specs.Words.{◌>>=◌}
use Rattle.artery_control.specs.Outcome.{to_field}

-- the fields of a record, up to its first fault
abbrev pub fields_in : List ℕ → List FieldOf
fields_in bytes = (fields_of bytes).0

-- the number that a value is, where it is a varint
abbrev pub varint_value : ValueOf → Option ℕ
varint_value (Varint n) = Some n
varint_value _ = None

-- the payload that a value is, where it is bytes with their length
abbrev pub bytes_value : ValueOf → Option (List ℕ)
bytes_value (Bytes payload) = Some payload
bytes_value _ = None

-- the number of a field with this field number; other fields are passed over, and those of another wire type
abbrev pub varint_in : ℕ → FieldOf → Option ℕ
varint_in k f = if f.number == k then varint_value f.value else None

-- the payload of a field with this field number
abbrev pub bytes_in : ℕ → FieldOf → Option (List ℕ)
bytes_in k f = if f.number == k then bytes_value f.value else None

-- the last that is picked, where there is one
abbrev pub last_picked : {X : Type 0} → (FieldOf → Option X) → List FieldOf → Option X
last_picked pick [] = None
last_picked pick (f ∷ fs) = option_or (last_picked pick fs) (pick f)

-- the last number of this field
abbrev pub last_number : ℕ → List ℕ → Option ℕ
last_number k bytes = last_picked (varint_in k) (fields_in bytes)

-- the last payload of this field
abbrev pub last_payload : ℕ → List ℕ → Option (List ℕ)
last_payload k bytes = last_picked (bytes_in k) (fields_in bytes)

-- ---- the occurrences of an embedded message

-- a record with no fault, or its first one
abbrev pub well_formed : Path → Option WireFault → Result (Unit {0}) ControlFault
well_formed path None = Ok tt
well_formed path (Some fault) = Err (faults.Wire path fault)

-- the bytes are a record
unfoldable pub sound : Path → List ℕ → Result (Unit {0}) ControlFault
sound path bytes = well_formed path (fields_of bytes).1

-- the bytes are a packed list of numbers
unfoldable pub packed_sound : Path → List ℕ → Result (Unit {0}) ControlFault
packed_sound path bytes = well_formed path (numbers_of bytes).1

-- the bytes have this form
abbrev pub sound_as : Form → Path → List ℕ → Result (Unit {0}) ControlFault
sound_as forms.Record path = sound path
sound_as forms.Packed path = packed_sound path

-- a value that is there passes the test, and one that is absent passes any
abbrev pub where_present : {X : Type 0} → (X → Result (Unit {0}) ControlFault) → Option X → Result (Unit {0}) ControlFault
where_present test None = Ok tt
where_present test (Some x) = test x

-- each payload of this field passes a test by itself
unfoldable pub each_payload : (List ℕ → Result (Unit {0}) ControlFault) → ℕ → List FieldOf → Result (Unit {0}) ControlFault
each_payload test k [] = Ok tt
each_payload test k (f ∷ fs) = where_present test (bytes_in k f) >>= λ _. each_payload test k fs

-- the payloads of all occurrences of this field, one after the other
unfoldable pub joined : ℕ → List FieldOf → List ℕ
joined k [] = []
joined k (f ∷ fs) = unwrap_or (bytes_in k f) [] ++ joined k fs

-- a required value
abbrev pub required : {X : Type 0} → Path → Option X → Result X ControlFault
required path None = Err (faults.Missing path)
required path (Some x) = Ok x

-- An embedded message is read from the bytes of all its occurrences, each of which is a record by itself.
unfoldable pub embedded : Path → ℕ → List ℕ → Result (List ℕ) ControlFault
embedded path k bytes = do
  one ← required (to_field path k) (last_payload k bytes)
  sound_ones ← each_payload (sound (to_field path k)) k (fields_in bytes)
  Ok (joined k (fields_in bytes))
