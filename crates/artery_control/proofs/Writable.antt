-- The fields of a valid message can be written.
use Rattle.std.proofs.Common.{◌≡◌, true, ℕ, ◌^◌, ◌<◌, ◌≤◌, List, [], ◌∷◌, ◌++◌, length, map, Option, Some, None, arith}
use Rattle.std.specs.Int.{w64, cast_unsigned}
use Rattle.std.specs.List.{AllByRecursion}
use Rattle.artery_base.specs.declared.address.Address.{Address}
use Rattle.artery_base.specs.declared.address.UniqueAddress.{UniqueAddress}
use Rattle.artery_base.specs.Valid.{IsAddress, IsUniqueAddress}
use Rattle.artery_wire.specs.Record.{FieldOf}
use Rattle.artery_wire.specs.Writing.{uint_field, bytes_field}
use Rattle.artery_wire.specs.Laws.{FitsField}
use Rattle.artery_control.specs.declared.control.Control.{Control}
use Rattle.artery_control.specs.declared.control.Control.TheVariants as controls
use Rattle.artery_control.specs.Parts.{is_key}
use Rattle.artery_control.specs.Payload.{optional_field, present_field, address_fields, address_bytes, unique_fields, unique_bytes, unique_field, table_fields, table_ack_fields, message_fields, control_fields}
use Rattle.artery_control.specs.Valid.{IsOptional, IsVersion, IsTable, IsNumber, IsValid}
use Rattle.artery_control.proofs.Lengths.{Varints, address_length, unique_length, key_short, serializer_number, version_number, sequence_number}

-- each field can be written
abbrev pub AreWritable : List FieldOf → Type 0
AreWritable fs = AllByRecursion FitsField fs

uint_fits : (k n : ℕ) → 1 ≤ k → k ≤ 15 → n < 2 ^ 64 → FitsField (uint_field k n)
uint_fits k n least most small = record { number = (least, omega (arith, most)); value = small }

bytes_fits : (k : ℕ) (payload : List ℕ) → 1 ≤ k → k ≤ 15 → length payload < 2 ^ 64 → FitsField (bytes_field k payload)
bytes_fits k payload least most small = record { number = (least, omega (arith, most)); value = small }

then_fits : (fs gs : List FieldOf) → AreWritable fs → AreWritable gs → AreWritable (fs ++ gs)
then_fits [] gs a b = b
then_fits (f ∷ fs) gs a b = (a.0, then_fits fs gs a.1 b)

pub address_writable : (a : Address) → IsAddress a → AreWritable (address_fields a)
address_writable a is =
    let protocol : length a.protocol ≤ 255 = is.protocol.short in
    let system : length a.system ≤ 255 = is.system.short in
    let host : length a.host ≤ 255 = is.host.short in
    let port : a.port ≤ 65535 = is.port.1 in (
      bytes_fits 1 a.protocol (omega arith) (omega arith) (omega (arith, protocol)),
      (
        bytes_fits 2 a.system (omega arith) (omega arith) (omega (arith, system)),
        (bytes_fits 3 a.host (omega arith) (omega arith) (omega (arith, host)), (uint_fits 4 a.port (omega arith) (omega arith) (omega (arith, port)), tt)),
      ),
    )

address_field_fits : Varints → (k : ℕ) (a : Address) → 1 ≤ k → k ≤ 15 → IsAddress a → FitsField (bytes_field k (address_bytes a))
address_field_fits w k a least most is =
    let short : length (address_bytes a) ≤ 781 = address_length w a is in
    bytes_fits k (address_bytes a) least most (omega (arith, short))

pub unique_writable : Varints → (u : UniqueAddress) → IsUniqueAddress u → AreWritable (unique_fields u)
unique_writable w u is = (address_field_fits w 1 u.address (omega arith) (omega arith) is.address, (uint_fits 2 u.uid (omega arith) (omega arith) is.uid, tt))

unique_fits : Varints → (k : ℕ) (u : UniqueAddress) → 1 ≤ k → k ≤ 15 → IsUniqueAddress u → FitsField (unique_field k u)
unique_fits w k u least most is =
    let short : length (unique_bytes u) ≤ 796 = unique_length w u is in
    bytes_fits k (unique_bytes u) least most (omega (arith, short))

optional_fits : (k : ℕ) (o : Option ℕ) → 1 ≤ k → k ≤ 15 → IsOptional o → AreWritable (optional_field k o)
optional_fits k None least most is = tt
optional_fits k (Some n) least most is = (uint_fits k n least most is, tt)

present_fits : (bytes : List ℕ) → length bytes < 2 ^ 64 → AreWritable (present_field 3 bytes)
present_fits [] small = tt
present_fits (b ∷ bs) small = (bytes_fits 3 (b ∷ bs) (omega arith) (omega arith) small, tt)

keys_fit : (keys : List (List ℕ)) → AllByRecursion (λ text. is_key text ≡ true) keys → AreWritable (map (bytes_field 4) keys)
keys_fit [] each = tt
keys_fit (key ∷ keys) each =
    let short : length key ≤ 65535 = key_short key each.0 in
    (bytes_fits 4 key (omega arith) (omega arith) (omega (arith, short)), keys_fit keys each.1)

values_fit : (values : List ℕ) → AllByRecursion (λ n. n ≤ 65535) values → AreWritable (map (uint_field 5) values)
values_fit [] each = tt
values_fit (n ∷ values) each =
    let small : n ≤ 65535 = each.0 in
    (uint_fits 5 n (omega arith) (omega arith) (omega (arith, small)), values_fit values each.1)

table_fits : Varints → (from : UniqueAddress) (origin version : ℕ) (keys : List (List ℕ)) (values : List ℕ) (sequence : Option ℕ)
    → IsUniqueAddress from → IsNumber origin → IsVersion version sequence → IsTable keys values → AreWritable (table_fields from origin version keys values sequence)
table_fits w from origin version keys values sequence is small fine table =
    let version_small : version ≤ 255 = version_number version sequence fine in (
      unique_fits w 1 from (omega arith) (omega arith) is,
      (
        uint_fits 2 origin (omega arith) (omega arith) small,
        (
          uint_fits 3 version (omega arith) (omega arith) (omega (arith, version_small)),
          then_fits (map (bytes_field 4) keys) (map (uint_field 5) values ++ optional_field 6 sequence) (keys_fit keys table.each_key)
              (then_fits (map (uint_field 5) values) (optional_field 6 sequence) (values_fit values table.each_value) (optional_fits 6 sequence (omega arith) (omega arith) (sequence_number version sequence fine))),
        ),
      ),
    )

ack_fits : Varints → (from : UniqueAddress) (version : ℕ) (sequence : Option ℕ) → IsUniqueAddress from → IsVersion version sequence → AreWritable (table_ack_fields from version sequence)
ack_fits w from version sequence is fine =
    let version_small : version ≤ 255 = version_number version sequence fine in
    (unique_fits w 1 from (omega arith) (omega arith) is, (uint_fits 2 version (omega arith) (omega arith) (omega (arith, version_small)), optional_fits 3 sequence (omega arith) (omega arith) (sequence_number version sequence fine)))

pub writable : Varints → (control : Control) → IsValid control → AreWritable (control_fields control)
writable w (controls.Quarantined from to) is = (unique_fits w 1 from (omega arith) (omega arith) is.0, (unique_fits w 2 to (omega arith) (omega arith) is.1, tt))
writable w (controls.Terminating from) is = (unique_fits w 1 from (omega arith) (omega arith) is, tt)
writable w (controls.TerminatingAck from) is = (unique_fits w 1 from (omega arith) (omega arith) is, tt)
writable w (controls.HandshakeReq from to nonce) is =
    (unique_fits w 1 from (omega arith) (omega arith) is.0, (address_field_fits w 2 to (omega arith) (omega arith) is.1, optional_fits 15 nonce (omega arith) (omega arith) is.2))
writable w (controls.HandshakeRsp from for_uid nonce) is = (
  unique_fits w 1 from (omega arith) (omega arith) is.0,
  then_fits (optional_field 14 for_uid) (optional_field 15 nonce) (optional_fits 14 for_uid (omega arith) (omega arith) is.1) (optional_fits 15 nonce (omega arith) (omega arith) is.2),
)
writable w (controls.RefsTable from origin version keys values sequence) is = table_fits w from origin version keys values sequence is.0 is.1 is.2 is.3
writable w (controls.RefsAck from version sequence) is = ack_fits w from version sequence is.0 is.1
writable w (controls.ManifestsTable from origin version keys values sequence) is = table_fits w from origin version keys values sequence is.0 is.1 is.2 is.3
writable w (controls.ManifestsAck from version sequence) is = ack_fits w from version sequence is.0 is.1
writable w (controls.Numbered n message reply_to) is =
    then_fits (message_fields message) (uint_field 4 n ∷ unique_field 5 reply_to ∷ []) (
      bytes_fits 1 message.payload (omega arith) (omega arith) is.1.payload,
      (uint_fits 2 (cast_unsigned w64 message.serializer) (omega arith) (omega arith) (serializer_number message.serializer is.1.serializer), present_fits message.manifest is.1.manifest),
    )
    (uint_fits 4 n (omega arith) (omega arith) is.0, (unique_fits w 5 reply_to (omega arith) (omega arith) is.2, tt))
writable w (controls.Ack n from) is = (uint_fits 1 n (omega arith) (omega arith) is.0, (unique_fits w 2 from (omega arith) (omega arith) is.1, tt))
writable w (controls.Nack n from) is = (uint_fits 1 n (omega arith) (omega arith) is.0, (unique_fits w 2 from (omega arith) (omega arith) is.1, tt))
writable w controls.Heartbeat is = tt
writable w (controls.HeartbeatRsp uid) is = (uint_fits 1 uid (omega arith) (omega arith) is, tt)
