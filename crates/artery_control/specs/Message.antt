-- The control message of a payload, or its first fault: first the record's own, then the fields in ascending order.
use Rattle.std.specs.Prelude.{ℕ, ◌+◌, ◌-◌, ◌%◌, ◌^◌, ◌==◌, ◌&&◌, Bool, nat_le, List, [], ◌∷◌, length, map, Option, Some, None, Result, Ok, Err, if◌then◌else◌}
use Rattle.std.specs.Option.{unwrap_or}
use Rattle.std.specs.List.{filter_map, flat_map}
use Rattle.std.specs.Int.{w32, cast_signed}
use Rattle.artery_base.specs.declared.address.Address.{Address}
use Rattle.artery_base.specs.declared.address.UniqueAddress.{UniqueAddress}
use Rattle.artery_base.specs.declared.message.SysMsg.{SysMsg}
use Rattle.artery_wire.specs.Record.{ValueOf, Varint, Bytes, FieldOf}
use Rattle.artery_wire.specs.Reading.{numbers_of}
use Rattle.artery_control.specs.declared.control.Control.{Control}
use Rattle.artery_control.specs.declared.control.Control.TheVariants as controls
use Rattle.artery_control.specs.declared.reading.Table.{Table}
use Rattle.artery_control.specs.declared.reading.TableAck.{TableAck}
use Rattle.artery_control.specs.declared.reading.Counted.{Counted}
use Rattle.artery_control.specs.declared.fault.ControlFault.{ControlFault}
use Rattle.artery_control.specs.declared.fault.ControlFault.TheVariants as faults
use Rattle.artery_control.specs.declared.path.Path.{Path}
use Rattle.artery_control.specs.declared.path.Path.TheVariants as paths
use Rattle.artery_base.specs.Words.{◌>>=◌}
use Rattle.artery_control.specs.Outcome.{to_field, each_of}
use Rattle.artery_control.specs.Picking.{fields_in, bytes_in, last_number, last_payload, required, sound, packed_sound, each_payload, embedded}
use Rattle.artery_control.specs.Parts.{is_part, is_key}

-- ---- numbers and texts

-- the number of the required field k: its last varint
unfoldable pub number_at : Path → ℕ → List ℕ → Result ℕ ControlFault
number_at path k bytes = required (to_field path k) (last_number k bytes)

-- a 32-bit number is the low 32 bits of its varint
abbrev pub low32 : ℕ → ℕ
low32 n = n % 2 ^ 32

-- the low 32 bits of a varint, where they are of this range, else out of range
abbrev pub ranged : Path → ℕ → ℕ → ℕ → Result ℕ ControlFault
ranged path least most n = if nat_le least (low32 n) && nat_le (low32 n) most then Ok (low32 n) else Err (faults.Range path)

-- the required field k as a 32-bit number of this range
unfoldable pub ranged_at : Path → ℕ → ℕ → ℕ → List ℕ → Result ℕ ControlFault
ranged_at path k least most bytes = number_at path k bytes >>= ranged (to_field path k) least most

-- a text that may be a part of an address, else a bad text
abbrev pub part_text : Path → List ℕ → Result (List ℕ) ControlFault
part_text path text = if is_part text then Ok text else Err (faults.BadText path)

-- a part of an address in the required field k: its last payload
unfoldable pub part_at : Path → ℕ → List ℕ → Result (List ℕ) ControlFault
part_at path k bytes = required (to_field path k) (last_payload k bytes) >>= part_text (to_field path k)

-- ---- addresses

-- an address is four required fields: its protocol 1, its system 2, its host 3 and its port 4, from 1 to 65,535
unfoldable pub address_in : Path → List ℕ → Result Address ControlFault
address_in path bytes = do
  protocol ← part_at path 1 bytes
  system ← part_at path 2 bytes
  host ← part_at path 3 bytes
  port ← ranged_at path 4 1 65535 bytes
  Ok (record { protocol = protocol; system = system; host = host; port = port })

-- an address in the required field k, an embedded message
unfoldable pub address_at : Path → ℕ → List ℕ → Result Address ControlFault
address_at path k bytes = embedded path k bytes >>= address_in (to_field path k)

-- a unique address is two required fields: its address 1 and its UID 2
unfoldable pub unique_in : Path → List ℕ → Result UniqueAddress ControlFault
unique_in path bytes = do
  address ← address_at path 1 bytes
  uid ← number_at path 2 bytes
  Ok (record { address = address; uid = uid })

-- a unique address in the required field k, an embedded message
unfoldable pub unique_at : Path → ℕ → List ℕ → Result UniqueAddress ControlFault
unique_at path k bytes = embedded path k bytes >>= unique_in (to_field path k)

-- ---- tables

-- the version of the table with this number: versions go round from 1 to 127
abbrev pub version_of : ℕ → ℕ
version_of sequence = (sequence - 1) % 127 + 1

-- a sequence, where there is one, is at least 1 and has the version
abbrev pub agreeing : Path → ℕ → Option ℕ → Result (Option ℕ) ControlFault
agreeing path version None = Ok None
agreeing path version (Some sequence) = if nat_le 1 sequence && (version == version_of sequence) then Ok (Some sequence) else Err (faults.Range path)

-- the sequence of a table in the optional field k, which must agree with this version
unfoldable pub sequence_at : Path → ℕ → ℕ → List ℕ → Result (Option ℕ) ControlFault
sequence_at path k version bytes = agreeing (to_field path k) version (last_number k bytes)

-- the keys of a table: all payloads of the field k, in order, each of which must be a key
unfoldable pub keys_at : Path → ℕ → List ℕ → Result (List (List ℕ)) ControlFault
keys_at path k bytes = each_of is_key (faults.BadText (to_field path k)) (filter_map (bytes_in k) (fields_in bytes))

-- a value of a table is at most 65,535
abbrev pub is_value : ℕ → Bool
is_value n = nat_le n 65535

-- the 32-bit numbers of one occurrence of a repeated number: one, or a packed list of them
abbrev pub numbers_in : ValueOf → List ℕ
numbers_in (Varint n) = low32 n ∷ []
numbers_in (Bytes packed) = map low32 (numbers_of packed).0
numbers_in _ = []

-- the numbers that a field gives to the repeated field k; another field gives none
abbrev pub repeated_in : ℕ → FieldOf → List ℕ
repeated_in k f = if f.number == k then numbers_in f.value else []

-- the values of a table: each packed occurrence of the field k is a packed list by itself, and then all its numbers, in order, each of which must be a value
unfoldable pub values_at : Path → ℕ → List ℕ → Result (List ℕ) ControlFault
values_at path k bytes = do
  sound_ones ← each_payload (packed_sound (to_field path k)) k (fields_in bytes)
  each_of is_value (faults.Range (to_field path k)) (flat_map (repeated_in k) (fields_in bytes))

-- there are as many keys as values
abbrev pub equally_many : Table → Result Table ControlFault
equally_many t = if length t.keys == length t.values then Ok t else Err (faults.Unequal (length t.keys) (length t.values))

-- a table is three required fields, the unique address 1 of who announces it, its origin's UID 2 and its version 3, from 0 to 255; then its keys 4, as many values 5, and its optional sequence 6
unfoldable pub table_in : List ℕ → Result Table ControlFault
table_in bytes = do
  from ← unique_at paths.Message 1 bytes
  origin ← number_at paths.Message 2 bytes
  version ← ranged_at paths.Message 3 0 255 bytes
  keys ← keys_at paths.Message 4 bytes
  values ← values_at paths.Message 5 bytes
  sequence ← sequence_at paths.Message 6 version bytes
  equally_many (record { from = from; origin_uid = origin; version = version; keys = keys; values = values; sequence = sequence })

-- the answer to a table is the unique address 1 of who adopted it and its version 2, from 0 to 255, both required, and its optional sequence 3
unfoldable pub table_ack_in : List ℕ → Result TableAck ControlFault
table_ack_in bytes = do
  from ← unique_at paths.Message 1 bytes
  version ← ranged_at paths.Message 2 0 255 bytes
  sequence ← sequence_at paths.Message 3 version bytes
  Ok (record { from = from; version = version; sequence = sequence })

-- ---- messages

-- a Quarantined message is two required unique addresses: who quarantined 1, and who is quarantined 2
unfoldable pub quarantined_in : List ℕ → Result Control ControlFault
quarantined_in bytes = do
  from ← unique_at paths.Message 1 bytes
  to ← unique_at paths.Message 2 bytes
  Ok (controls.Quarantined from to)

-- a Terminating message is one required field: the unique address 1 of the system that is about to end
abbrev pub terminating_in : List ℕ → Result Control ControlFault
terminating_in bytes = unique_at paths.Message 1 bytes >>= λ from. Ok (controls.Terminating from)

-- a TerminatingAck message is one required field: the unique address 1 of who answers
abbrev pub terminating_ack_in : List ℕ → Result Control ControlFault
terminating_ack_in bytes = unique_at paths.Message 1 bytes >>= λ from. Ok (controls.TerminatingAck from)

-- a HandshakeReq message is the unique address 1 of who asks and the address 2 that is asked, both required, and the optional nonce 15
unfoldable pub request_in : List ℕ → Result Control ControlFault
request_in bytes = do
  from ← unique_at paths.Message 1 bytes
  to ← address_at paths.Message 2 bytes
  Ok (controls.HandshakeReq from to (last_number 15 bytes))

-- a HandshakeRsp message is the required unique address 1 of who answers, and two optional numbers: the UID 14 that the answer is for, and the nonce 15
unfoldable pub answer_in : List ℕ → Result Control ControlFault
answer_in bytes = do
  from ← unique_at paths.Message 1 bytes
  Ok (controls.HandshakeRsp from (last_number 14 bytes) (last_number 15 bytes))

-- a system message of its serializer, the low 32 bits as a signed number, its manifest, empty where it is absent, and its payload
abbrev pub system_message_of : ℕ → Option (List ℕ) → List ℕ → SysMsg
system_message_of serializer manifest payload = record { serializer = cast_signed w32 (low32 serializer); manifest = unwrap_or manifest []; payload = payload }

-- a Numbered message is its payload 1, its serializer 2, whose low 32 bits are a signed number, its manifest 3, its number 4 and the unique address 5 of who is to be answered; all but the manifest are required, and an absent manifest is empty
unfoldable pub numbered_in : List ℕ → Result Control ControlFault
numbered_in bytes = do
  payload ← required (to_field paths.Message 1) (last_payload 1 bytes)
  serializer ← number_at paths.Message 2 bytes
  n ← number_at paths.Message 4 bytes
  reply_to ← unique_at paths.Message 5 bytes
  Ok (controls.Numbered n (system_message_of serializer (last_payload 3 bytes) payload) reply_to)

-- a counted message is two required fields: a number 1, and the unique address 2 of who tells it
unfoldable pub counted_in : List ℕ → Result Counted ControlFault
counted_in bytes = do
  n ← number_at paths.Message 1 bytes
  from ← unique_at paths.Message 2 bytes
  Ok (record { n = n; from = from })

-- an Ack message is a counted message, whose number is that of the last message taken
abbrev pub ack_in : List ℕ → Result Control ControlFault
ack_in bytes = counted_in bytes >>= λ c. Ok (controls.Ack c.n c.from)

-- a Nack message is a counted message, whose number is that of the last message before the missing one
abbrev pub nack_in : List ℕ → Result Control ControlFault
nack_in bytes = counted_in bytes >>= λ c. Ok (controls.Nack c.n c.from)

-- a HeartbeatRsp message is one required field: the UID 1 of who answers
abbrev pub heartbeat_answer_in : List ℕ → Result Control ControlFault
heartbeat_answer_in bytes = number_at paths.Message 1 bytes >>= λ uid. Ok (controls.HeartbeatRsp uid)

-- a RefsTable message is a table
unfoldable pub refs_table_in : List ℕ → Result Control ControlFault
refs_table_in bytes = table_in bytes >>= λ t. Ok (controls.RefsTable t.from t.origin_uid t.version t.keys t.values t.sequence)

-- a RefsAck message is the answer to a table
unfoldable pub refs_ack_in : List ℕ → Result Control ControlFault
refs_ack_in bytes = table_ack_in bytes >>= λ t. Ok (controls.RefsAck t.from t.version t.sequence)

-- a ManifestsTable message is a table
unfoldable pub manifests_table_in : List ℕ → Result Control ControlFault
manifests_table_in bytes = table_in bytes >>= λ t. Ok (controls.ManifestsTable t.from t.origin_uid t.version t.keys t.values t.sequence)

-- a ManifestsAck message is the answer to a table
unfoldable pub manifests_ack_in : List ℕ → Result Control ControlFault
manifests_ack_in bytes = table_ack_in bytes >>= λ t. Ok (controls.ManifestsAck t.from t.version t.sequence)

-- the message of this letter
unfoldable pub message_in : ℕ → List ℕ → Result Control ControlFault
message_in letter bytes =
    if letter == 97 then quarantined_in bytes
    else if letter == 98 then terminating_in bytes
    else if letter == 99 then terminating_ack_in bytes
    else if letter == 100 then request_in bytes
    else if letter == 101 then answer_in bytes
    else if letter == 102 then refs_table_in bytes
    else if letter == 103 then refs_ack_in bytes
    else if letter == 104 then manifests_table_in bytes
    else if letter == 105 then manifests_ack_in bytes
    else if letter == 106 then numbered_in bytes
    else if letter == 107 then ack_in bytes
    else if letter == 108 then nack_in bytes
    else if letter == 109 then Ok controls.Heartbeat
    else if letter == 110 then heartbeat_answer_in bytes
    else Err faults.UnknownManifest

-- the letters of messages
abbrev pub is_letter : ℕ → Bool
is_letter letter = nat_le 97 letter && nat_le letter 110

-- The message of a manifest of one letter and a payload: first the manifest, then the record's own fault, then the fields.
abbrev pub message_of : List ℕ → List ℕ → Result Control ControlFault
message_of [] bytes = Err faults.UnknownManifest
message_of (letter ∷ []) bytes = if is_letter letter then (sound paths.Message bytes >>= λ _. message_in letter bytes) else Err faults.UnknownManifest
message_of (letter ∷ more ∷ rest) bytes = Err faults.UnknownManifest
