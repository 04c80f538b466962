-- How long the fields of a valid message are.
use Rattle.std.proofs.Common.{◌≡◌, true, ℕ, ◌+◌, ◌*◌, ◌/◌, ◌%◌, ◌^◌, ◌<◌, ◌≤◌, List, [], ◌∷◌, ◌++◌, length, map, Option, Some, None, refl, ap, ◌∙◌, arith}
use Rattle.std.specs.Prelude.{ℤ, pos, negsuc, FitsSigned}
use Rattle.std.specs.Int.{w32, w64, cast_unsigned}
use Rattle.std.specs.List.{AllByRecursion}
use Rattle.std.proofs.lemmas.List.{length-append}
use Rattle.std.proofs.lemmas.List.Concat.{flat_map-cons}
use Rattle.std.proofs.lemmas.Bool.{and_parts, leb-true}
use Rattle.artery_base.specs.declared.address.Address.{Address}
use Rattle.artery_base.specs.declared.address.UniqueAddress.{UniqueAddress}
use Rattle.artery_base.specs.declared.message.SysMsg.{SysMsg}
use Rattle.artery_base.specs.Valid.{IsAddress, IsUniqueAddress}
use Rattle.artery_wire.specs.Record.{FieldOf, IsVarint}
use Rattle.artery_wire.specs.Writing.{varint_of, field_bytes, uint_field, bytes_field, head_bytes, record_bytes}
use Rattle.artery_wire.specs.Laws.{VarintIsWritten, VarintIsShortest}
use Rattle.artery_control.specs.declared.control.Control.TheVariants as controls
use Rattle.artery_control.specs.Parts.{is_key}
use Rattle.artery_control.specs.Payload.{optional_field, present_field, address_bytes, unique_bytes, unique_field, table_fields, table_ack_fields, message_fields, numbered_fields}
use Rattle.artery_control.specs.Valid.{IsNumber, IsOptional, IsVersion, IsTable, IsSystemMessage}
use Rattle.artery_control.specs.Lengths.{keys_length, PayloadIsShort}
use Rattle.artery_control.proofs.Writes.{record_then}

-- what is known of varints
pub record Varints : Type 0 where
  pub written : VarintIsWritten
  pub shortest : VarintIsShortest

-- ---- numbers

ten_bytes : Varints → (n : ℕ) → n < 2 ^ 64 → length (varint_of n) ≤ 10
ten_bytes w n small = (w.written n small).ten

one_byte : Varints → (n : ℕ) → n < 128 → length (varint_of n) ≤ 1
one_byte w n small =
    let is : IsVarint n (n ∷ []) = record { continues = small; ten = omega arith; value = omega (arith, small) } in
    w.shortest n (n ∷ []) is

three_bytes : Varints → (n : ℕ) → n < 2097152 → length (varint_of n) ≤ 3
three_bytes w n small =
    let is : IsVarint n ((n % 128 + 128) ∷ (n / 128 % 128 + 128) ∷ (n / 16384) ∷ []) =
    record { continues = (omega arith, (omega arith, omega (arith, small))); ten = omega arith; value = omega (arith, small) } in
    w.shortest n ((n % 128 + 128) ∷ (n / 128 % 128 + 128) ∷ (n / 16384) ∷ []) is

-- ---- fields

uint_length : Varints → (k n most : ℕ) → k < 16 → length (varint_of n) ≤ most → length (field_bytes (uint_field k n)) ≤ 1 + most
unfolding field_bytes
uint_length w k n most small short =
    let key : length (varint_of (k * 8 + 0)) ≤ 1 = one_byte w (k * 8 + 0) (omega (arith, small)) in
    omega (arith, key, short, length-append (varint_of (k * 8 + 0)) (varint_of n))

bytes_length : Varints → (k : ℕ) (payload : List ℕ) (most : ℕ) → k < 15 → length (varint_of (length payload)) ≤ most → length (field_bytes (bytes_field k payload)) ≤ 1 + most + length payload
unfolding field_bytes
bytes_length w k payload most small short =
    let key : length (varint_of (k * 8 + 2)) ≤ 1 = one_byte w (k * 8 + 2) (omega (arith, small)) in
    omega (arith, key, short, length-append (head_bytes k (length payload)) payload, length-append (varint_of (k * 8 + 2)) (varint_of (length payload)))

small_length : Varints → (k : ℕ) (payload : List ℕ) → k < 15 → length payload < 2097152 → length (field_bytes (bytes_field k payload)) ≤ 4 + length payload
small_length w k payload small short = let f = bytes_length w k payload 3 small (three_bytes w (length payload) short) in omega (arith, f)

number_length : Varints → (k n : ℕ) → k < 16 → n < 2 ^ 64 → length (field_bytes (uint_field k n)) ≤ 11
number_length w k n small short = let f = uint_length w k n 10 small (ten_bytes w n short) in omega (arith, f)

-- ---- records

cons_length : (f : FieldOf) (fs : List FieldOf) → length (record_bytes (f ∷ fs)) ≡ length (field_bytes f) + length (record_bytes fs)
cons_length f fs = ap length (flat_map-cons field_bytes f fs) ∙ length-append (field_bytes f) (record_bytes fs)

then_length : (fs gs : List FieldOf) → length (record_bytes (fs ++ gs)) ≡ length (record_bytes fs) + length (record_bytes gs)
then_length fs gs = ap length (record_then fs gs) ∙ length-append (record_bytes fs) (record_bytes gs)

none_length : length (record_bytes []) ≡ 0
none_length = refl

pub address_length : Varints → (a : Address) → IsAddress a → length (address_bytes a) ≤ 781
unfolding address_bytes
address_length w a is =
    let protocol_short : length a.protocol ≤ 255 = is.protocol.short in
    let system_short : length a.system ≤ 255 = is.system.short in
    let host_short : length a.host ≤ 255 = is.host.short in
    let port_small : a.port ≤ 65535 = is.port.1 in
    let protocol = small_length w 1 a.protocol (omega arith) (omega (arith, protocol_short)) in
    let system = small_length w 2 a.system (omega arith) (omega (arith, system_short)) in
    let host = small_length w 3 a.host (omega arith) (omega (arith, host_short)) in
    let port = uint_length w 4 a.port 3 (omega arith) (three_bytes w a.port (omega (arith, port_small))) in
    let first = cons_length (bytes_field 1 a.protocol) (bytes_field 2 a.system ∷ bytes_field 3 a.host ∷ uint_field 4 a.port ∷ []) in
    let second = cons_length (bytes_field 2 a.system) (bytes_field 3 a.host ∷ uint_field 4 a.port ∷ []) in
    let third = cons_length (bytes_field 3 a.host) (uint_field 4 a.port ∷ []) in
    let fourth = cons_length (uint_field 4 a.port) [] in
    omega (arith, protocol_short, system_short, host_short, protocol, system, host, port, first, second, third, fourth, none_length)

pub unique_length : Varints → (u : UniqueAddress) → IsUniqueAddress u → length (unique_bytes u) ≤ 796
unfolding unique_bytes
unique_length w u is =
    let inner : length (address_bytes u.address) ≤ 781 = address_length w u.address is.address in
    let address = small_length w 1 (address_bytes u.address) (omega arith) (omega (arith, inner)) in
    let uid = number_length w 2 u.uid (omega arith) is.uid in
    let first = cons_length (bytes_field 1 (address_bytes u.address)) (uint_field 2 u.uid ∷ []) in
    let second = cons_length (uint_field 2 u.uid) [] in
    omega (arith, inner, address, uid, first, second, none_length)

-- a field that is a unique address
unique_field_length : Varints → (k : ℕ) (u : UniqueAddress) → k < 15 → IsUniqueAddress u → length (field_bytes (unique_field k u)) ≤ 800
unique_field_length w k u small is =
    let inner : length (unique_bytes u) ≤ 796 = unique_length w u is in
    let f = small_length w k (unique_bytes u) small (omega (arith, inner)) in
    omega (arith, inner, f)

-- a number that may be absent
optional_length : Varints → (k : ℕ) (o : Option ℕ) → k < 16 → IsOptional o → length (record_bytes (optional_field k o)) ≤ 11
optional_length w k None small is = omega (arith, none_length)
optional_length w k (Some n) small is =
    let f = number_length w k n small is in
    omega (arith, f, cons_length (uint_field k n) [], none_length)

-- ---- tables

pub version_number : (version : ℕ) (sequence : Option ℕ) → IsVersion version sequence → version ≤ 255
version_number version None is = is
version_number version (Some n) is = is.0

pub sequence_number : (version : ℕ) (sequence : Option ℕ) → IsVersion version sequence → IsOptional sequence
sequence_number version None is = tt
sequence_number version (Some n) is = is.3

pub key_short : (key : List ℕ) → is_key key ≡ true → length key ≤ 65535
unfolding is_key
key_short key h = leb-true _ _ (and_parts _ _ h).0

keys_are_short : Varints → (keys : List (List ℕ)) → AllByRecursion (λ text. is_key text ≡ true) keys → length (record_bytes (map (bytes_field 4) keys)) ≤ keys_length keys + 4 * length keys
keys_are_short w [] each = omega (arith, none_length)
keys_are_short w (key ∷ keys) each =
    let short : length key ≤ 65535 = key_short key each.0 in
    let f = small_length w 4 key (omega arith) (omega (arith, short)) in
    let more = keys_are_short w keys each.1 in
    omega (arith, f, more, cons_length (bytes_field 4 key) (map (bytes_field 4) keys))

values_are_short : Varints → (values : List ℕ) → AllByRecursion (λ n. n ≤ 65535) values → length (record_bytes (map (uint_field 5) values)) ≤ 4 * length values
values_are_short w [] each = omega (arith, none_length)
values_are_short w (n ∷ values) each =
    let small : n ≤ 65535 = each.0 in
    let f = uint_length w 5 n 3 (omega arith) (three_bytes w n (omega (arith, small))) in
    let more = values_are_short w values each.1 in
    omega (arith, f, more, cons_length (uint_field 5 n) (map (uint_field 5) values))

table_length : Varints → (from : UniqueAddress) (origin version : ℕ) (keys : List (List ℕ)) (values : List ℕ) (sequence : Option ℕ)
    → IsUniqueAddress from → IsNumber origin → IsVersion version sequence → IsTable keys values
    → length (record_bytes (table_fields from origin version keys values sequence)) ≤ keys_length keys + 8 * length keys + 850
table_length w from origin version keys values sequence is small fine table =
    let names : List FieldOf = map (bytes_field 4) keys in
    let numbers : List FieldOf = map (uint_field 5) values in
    let last : List FieldOf = optional_field 6 sequence in
    let head : List FieldOf = unique_field 1 from ∷ uint_field 2 origin ∷ uint_field 3 version ∷ [] in
    let version_small : version ≤ 255 = version_number version sequence fine in
    let first = unique_field_length w 1 from (omega arith) is in
    let second = number_length w 2 origin (omega arith) small in
    let third = number_length w 3 version (omega arith) (omega (arith, version_small)) in
    let each_key = keys_are_short w keys table.each_key in
    let each_value = values_are_short w values table.each_value in
    let sixth = optional_length w 6 sequence (omega arith) (sequence_number version sequence fine) in
    let same : length keys ≡ length values = table.equal in
    let a = then_length head (names ++ (numbers ++ last)) in
    let b = then_length names (numbers ++ last) in
    let c = then_length numbers last in
    let d = cons_length (unique_field 1 from) (uint_field 2 origin ∷ uint_field 3 version ∷ []) in
    let e = cons_length (uint_field 2 origin) (uint_field 3 version ∷ []) in
    let f = cons_length (uint_field 3 version) [] in
    omega (arith, first, second, third, each_key, each_value, sixth, same, a, b, c, d, e, f, none_length)

ack_length : Varints → (from : UniqueAddress) (version : ℕ) (sequence : Option ℕ) → IsUniqueAddress from → IsVersion version sequence
    → length (record_bytes (table_ack_fields from version sequence)) ≤ 1600
ack_length w from version sequence is fine =
    let version_small : version ≤ 255 = version_number version sequence fine in
    let first = unique_field_length w 1 from (omega arith) is in
    let second = number_length w 2 version (omega arith) (omega (arith, version_small)) in
    let third = optional_length w 3 sequence (omega arith) (sequence_number version sequence fine) in
    let a = cons_length (unique_field 1 from) (uint_field 2 version ∷ optional_field 3 sequence) in
    let b = cons_length (uint_field 2 version) (optional_field 3 sequence) in
    omega (arith, first, second, third, a, b)

-- ---- system messages

pub serializer_number : (z : ℤ) → FitsSigned w32 z → cast_unsigned w64 z < 2 ^ 64
serializer_number (pos n) fits = let small : n < 2147483648 = fits.sfits in omega (arith, small)
serializer_number (negsuc n) fits = let small : n < 2147483648 = fits.sfits in omega (arith, small)

present_length : Varints → (bytes : List ℕ) → length bytes < 2 ^ 64 → length (record_bytes (present_field 3 bytes)) ≤ 11 + length bytes
present_length w [] small = omega (arith, none_length)
present_length w (b ∷ bs) small =
    let f = bytes_length w 3 (b ∷ bs) 10 (omega arith) (ten_bytes w (length (b ∷ bs)) small) in
    omega (arith, f, cons_length (bytes_field 3 (b ∷ bs)) [], none_length)

numbered_length : Varints → (n : ℕ) (m : SysMsg) (reply_to : UniqueAddress) → IsNumber n → IsSystemMessage m → IsUniqueAddress reply_to
    → length (record_bytes (numbered_fields n m reply_to)) ≤ length m.manifest + length m.payload + 850
numbered_length w n m reply_to small is unique =
    let serializer : ℕ = cast_unsigned w64 m.serializer in
    let tail : List FieldOf = uint_field 4 n ∷ unique_field 5 reply_to ∷ [] in
    let first = bytes_length w 1 m.payload 10 (omega arith) (ten_bytes w (length m.payload) is.payload) in
    let second = number_length w 2 serializer (omega arith) (serializer_number m.serializer is.serializer) in
    let third = present_length w m.manifest is.manifest in
    let fourth = number_length w 4 n (omega arith) small in
    let fifth = unique_field_length w 5 reply_to (omega arith) unique in
    let a = then_length (message_fields m) tail in
    let b = cons_length (bytes_field 1 m.payload) (uint_field 2 serializer ∷ present_field 3 m.manifest) in
    let c = cons_length (uint_field 2 serializer) (present_field 3 m.manifest) in
    let d = cons_length (uint_field 4 n) (unique_field 5 reply_to ∷ []) in
    let e = cons_length (unique_field 5 reply_to) [] in
    omega (arith, first, second, third, fourth, fifth, a, b, c, d, e, none_length)

-- ---- messages

single_length : Varints → (from : UniqueAddress) → IsUniqueAddress from → length (record_bytes (unique_field 1 from ∷ [])) ≤ 1600
single_length w from is =
    let first = unique_field_length w 1 from (omega arith) is in
    omega (arith, first, cons_length (unique_field 1 from) [], none_length)

counted_length : Varints → (n : ℕ) (from : UniqueAddress) → IsNumber n → IsUniqueAddress from → length (record_bytes (uint_field 1 n ∷ unique_field 2 from ∷ [])) ≤ 1600
counted_length w n from small is =
    let first = number_length w 1 n (omega arith) small in
    let second = unique_field_length w 2 from (omega arith) is in
    omega (arith, first, second, cons_length (uint_field 1 n) (unique_field 2 from ∷ []), cons_length (unique_field 2 from) [], none_length)

message_short : Varints → PayloadIsShort
message_short w (controls.Quarantined from to) is =
    let first = unique_field_length w 1 from (omega arith) is.0 in
    let second = unique_field_length w 2 to (omega arith) is.1 in
    omega (arith, first, second, cons_length (unique_field 1 from) (unique_field 2 to ∷ []), cons_length (unique_field 2 to) [], none_length)
message_short w (controls.Terminating from) is = single_length w from is
message_short w (controls.TerminatingAck from) is = single_length w from is
message_short w (controls.HandshakeReq from to nonce) is =
    let inner : length (address_bytes to) ≤ 781 = address_length w to is.1 in
    let first = unique_field_length w 1 from (omega arith) is.0 in
    let second = small_length w 2 (address_bytes to) (omega arith) (omega (arith, inner)) in
    let third = optional_length w 15 nonce (omega arith) is.2 in
    omega (arith, inner, first, second, third, cons_length (unique_field 1 from) (bytes_field 2 (address_bytes to) ∷ optional_field 15 nonce), cons_length (bytes_field 2 (address_bytes to)) (optional_field 15 nonce))
message_short w (controls.HandshakeRsp from for_uid nonce) is =
    let first = unique_field_length w 1 from (omega arith) is.0 in
    let second = optional_length w 14 for_uid (omega arith) is.1 in
    let third = optional_length w 15 nonce (omega arith) is.2 in
    omega (arith, first, second, third, cons_length (unique_field 1 from) (optional_field 14 for_uid ++ optional_field 15 nonce), then_length (optional_field 14 for_uid) (optional_field 15 nonce))
message_short w (controls.RefsTable from origin version keys values sequence) is = table_length w from origin version keys values sequence is.0 is.1 is.2 is.3
message_short w (controls.RefsAck from version sequence) is = ack_length w from version sequence is.0 is.1
message_short w (controls.ManifestsTable from origin version keys values sequence) is = table_length w from origin version keys values sequence is.0 is.1 is.2 is.3
message_short w (controls.ManifestsAck from version sequence) is = ack_length w from version sequence is.0 is.1
message_short w (controls.Numbered n message reply_to) is = numbered_length w n message reply_to is.0 is.1 is.2
message_short w (controls.Ack n from) is = counted_length w n from is.0 is.1
message_short w (controls.Nack n from) is = counted_length w n from is.0 is.1
message_short w controls.Heartbeat is = omega (arith, none_length)
message_short w (controls.HeartbeatRsp uid) is =
    let first = number_length w 1 uid (omega arith) is in
    omega (arith, first, cons_length (uint_field 1 uid) [], none_length)

pub payload_short : VarintIsWritten → VarintIsShortest → PayloadIsShort
payload_short written shortest control is = message_short (record { written = written; shortest = shortest }) control is
