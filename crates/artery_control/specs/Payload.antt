-- The canonical payload of a control message: ascending fields, shortest varints, unpacked numbers, no empty manifest.
use Rattle.std.specs.Prelude.{ℕ, Bool, true, false, List, [], ◌∷◌, ◌++◌, map, Option, Some, None}
use Rattle.std.specs.Int.{w64, cast_unsigned}
use Rattle.artery_base.specs.declared.address.Address.{Address}
use Rattle.artery_base.specs.declared.address.UniqueAddress.{UniqueAddress}
use Rattle.artery_base.specs.declared.message.SysMsg.{SysMsg}
use Rattle.artery_wire.specs.Record.{FieldOf}
use Rattle.artery_wire.specs.Writing.{uint_field, bytes_field, record_bytes}
use Rattle.artery_control.specs.declared.control.Control.{Control}
use Rattle.artery_control.specs.declared.control.Control.TheVariants as controls

-- a number that may be absent
abbrev pub optional_field : ℕ → Option ℕ → List FieldOf
optional_field k None = []
optional_field k (Some n) = uint_field k n ∷ []

-- bytes that are not written where they are empty
abbrev pub present_field : ℕ → List ℕ → List FieldOf
present_field k [] = []
present_field k (b ∷ bs) = bytes_field k (b ∷ bs) ∷ []

-- an address has four fields: its protocol 1, its system 2, its host 3 and its port 4
abbrev pub address_fields : Address → List FieldOf
address_fields a = bytes_field 1 a.protocol ∷ bytes_field 2 a.system ∷ bytes_field 3 a.host ∷ uint_field 4 a.port ∷ []

-- an address as the payload of a field: the record of its fields
unfoldable pub address_bytes : Address → List ℕ
address_bytes a = record_bytes (address_fields a)

-- a unique address has two fields: its address 1, a record of its own, and its UID 2
abbrev pub unique_fields : UniqueAddress → List FieldOf
unique_fields u = bytes_field 1 (address_bytes u.address) ∷ uint_field 2 u.uid ∷ []

-- a unique address as the payload of a field: the record of its fields
unfoldable pub unique_bytes : UniqueAddress → List ℕ
unique_bytes u = record_bytes (unique_fields u)

-- a unique address in the field k
abbrev pub unique_field : ℕ → UniqueAddress → FieldOf
unique_field k u = bytes_field k (unique_bytes u)

-- a table has the unique address 1 of who announces it, its origin's UID 2, its version 3, a field 4 for each key, a field 5 for each value, and its sequence 6, where there is one
abbrev pub table_fields : UniqueAddress → ℕ → ℕ → List (List ℕ) → List ℕ → Option ℕ → List FieldOf
table_fields from origin version keys values sequence =
    (unique_field 1 from ∷ uint_field 2 origin ∷ uint_field 3 version ∷ [])
    ++ (map (bytes_field 4) keys ++ (map (uint_field 5) values ++ optional_field 6 sequence))

-- the answer to a table has the unique address 1 of who adopted it, its version 2, and its sequence 3, where there is one
abbrev pub table_ack_fields : UniqueAddress → ℕ → Option ℕ → List FieldOf
table_ack_fields from version sequence = unique_field 1 from ∷ uint_field 2 version ∷ optional_field 3 sequence

-- a system message has its payload 1, its serializer 2, sign-extended to 64 bits, and its manifest 3, where it is not empty
abbrev pub message_fields : SysMsg → List FieldOf
message_fields m = bytes_field 1 m.payload ∷ uint_field 2 (cast_unsigned w64 m.serializer) ∷ present_field 3 m.manifest

-- a numbered message has the fields 1 to 3 of the system message, then its number 4 and the unique address 5 of who is to be answered
abbrev pub numbered_fields : ℕ → SysMsg → UniqueAddress → List FieldOf
numbered_fields n m reply_to = message_fields m ++ (uint_field 4 n ∷ unique_field 5 reply_to ∷ [])

-- the fields of a message, in ascending order
abbrev pub control_fields : Control → List FieldOf
control_fields (controls.Quarantined from to) = unique_field 1 from ∷ unique_field 2 to ∷ []
control_fields (controls.Terminating from) = unique_field 1 from ∷ []
control_fields (controls.TerminatingAck from) = unique_field 1 from ∷ []
control_fields (controls.HandshakeReq from to nonce) = unique_field 1 from ∷ bytes_field 2 (address_bytes to) ∷ optional_field 15 nonce
control_fields (controls.HandshakeRsp from for_uid nonce) = unique_field 1 from ∷ (optional_field 14 for_uid ++ optional_field 15 nonce)
control_fields (controls.RefsTable from origin version keys values sequence) = table_fields from origin version keys values sequence
control_fields (controls.RefsAck from version sequence) = table_ack_fields from version sequence
control_fields (controls.ManifestsTable from origin version keys values sequence) = table_fields from origin version keys values sequence
control_fields (controls.ManifestsAck from version sequence) = table_ack_fields from version sequence
control_fields (controls.Numbered n message reply_to) = numbered_fields n message reply_to
control_fields (controls.Ack n from) = uint_field 1 n ∷ unique_field 2 from ∷ []
control_fields (controls.Nack n from) = uint_field 1 n ∷ unique_field 2 from ∷ []
control_fields controls.Heartbeat = []
control_fields (controls.HeartbeatRsp uid) = uint_field 1 uid ∷ []

-- whether a message announces a table, or answers one
abbrev pub is_about_table : Control → Bool
is_about_table (controls.RefsTable from origin version keys values sequence) = true
is_about_table (controls.RefsAck from version sequence) = true
is_about_table (controls.ManifestsTable from origin version keys values sequence) = true
is_about_table (controls.ManifestsAck from version sequence) = true
is_about_table _ = false

-- the canonical payload
abbrev pub payload_of : Control → List ℕ
payload_of control = record_bytes (control_fields control)

-- the letter of a message
abbrev pub letter_of : Control → ℕ
letter_of (controls.Quarantined from to) = 97
letter_of (controls.Terminating from) = 98
letter_of (controls.TerminatingAck from) = 99
letter_of (controls.HandshakeReq from to _) = 100
letter_of (controls.HandshakeRsp from for_uid _) = 101
letter_of (controls.RefsTable from origin version keys values sequence) = 102
letter_of (controls.RefsAck from version sequence) = 103
letter_of (controls.ManifestsTable from origin version keys values sequence) = 104
letter_of (controls.ManifestsAck from version sequence) = 105
letter_of (controls.Numbered n message reply_to) = 106
letter_of (controls.Ack n from) = 107
letter_of (controls.Nack n from) = 108
letter_of controls.Heartbeat = 109
letter_of (controls.HeartbeatRsp uid) = 110
