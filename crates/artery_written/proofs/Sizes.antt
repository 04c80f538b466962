-- How many bytes a control message takes at most, and that each which a node writes is valid and has room in a frame.
use Rattle.std.proofs.Common.{◌≡◌, ℕ, zero, suc, ◌+◌, ◌*◌, ◌-◌, ◌%◌, ◌<◌, ◌≤◌, ◌^◌, Bool, true, false, cond, List, [], ◌∷◌, ◌++◌, length, map, refl, sym, ◌∙◌, ap, subst, arith}
use Rattle.std.specs.Prelude.{Option, None, Some, nat_le, nat_lt}
use Rattle.std.specs.Int.{w32, w64, to_le_bytes, cast_unsigned}
use Rattle.std.specs.List.{AllByRecursion, list_all, flat_map}
use Rattle.std.proofs.lemmas.List.{length-append}
use Rattle.artery_base.specs.declared.address.Address.{Address}
use Rattle.artery_base.specs.declared.address.UniqueAddress.{UniqueAddress}
use Rattle.artery_base.specs.declared.message.SysMsg.{SysMsg}
use Rattle.artery_base.specs.Valid.{IsAddress, IsUniqueAddress}
use Rattle.artery_wire.specs.Record.{FieldOf, ValueOf, Varint, Fixed64, Bytes, Fixed32}
use Rattle.artery_wire.specs.Writing.{varint_of, value_bytes, field_bytes, record_bytes, uint_field, bytes_field}
use Rattle.artery_wire.proofs.Appends.{varint_short}
use Rattle.artery_control.specs.declared.control.Control.{Control}
use Rattle.artery_control.specs.declared.control.Control.TheVariants as controls
use Rattle.artery_control.specs.Message.{version_of as version_told}
use Rattle.artery_control.specs.Parts.{is_key}
use Rattle.artery_control.specs.Payload.{payload_of, control_fields, optional_field, present_field, address_fields, address_bytes, unique_fields, unique_bytes, unique_field, table_fields, table_ack_fields, message_fields, numbered_fields}
use Rattle.artery_control.specs.Valid.{IsNumber, IsOptional, IsVersion, IsTable, IsSystemMessage, IsValid}
use Rattle.artery_control_frame.specs.ControlFrame.{most_payload}
use Rattle.artery_header.specs.Envelope.{is_text}
use Rattle.artery_journal.specs.declared.words.Kind.{Kind}
use Rattle.artery_journal.specs.declared.words.Kind.TheVariants.{Refs, Manifests}
use Rattle.artery_tables.specs.declared.table.Table.{Table}
use Rattle.artery_tables.specs.Story.{version_of, table_of}
use Rattle.artery_machine.specs.Hearing.{sequence_of, table_ack}
use Rattle.artery_machine.specs.Ticking.{numbers_from, advertisement}
use Rattle.artery_flight.proofs.Lists.{by_test, Each, flat_append, and_both}
use Rattle.artery_written.proofs.Facts.{MessageFacts, MessageIn, ControlFacts, NameFacts, TableFacts}
use Rattle.std.proofs.lemmas.Bool.{le-leb}

-- ---- fields

abbrev value_most : ValueOf → ℕ
value_most (Varint n) = 20
value_most (Fixed64 n) = 10 + length (to_le_bytes w64 n)
value_most (Bytes payload) = 20 + length payload
value_most (Fixed32 n) = 10 + length (to_le_bytes w32 n)

abbrev most_of : List FieldOf → ℕ
most_of [] = 0
most_of (f ∷ fs) = value_most f.value + most_of fs

pub two_short : (xs ys : List ℕ) (a b : ℕ) → length xs ≤ a → length ys ≤ b → length (xs ++ ys) ≤ a + b
two_short xs ys a b h k = omega (arith, length-append xs ys)

value_short : (number : ℕ) (v : ValueOf) → length (value_bytes number v) ≤ value_most v
value_short number (Varint n) = two_short (varint_of (number * 8 + 0)) (varint_of n) 10 10 (varint_short (number * 8 + 0)) (varint_short n)
value_short number (Fixed64 n) = two_short (varint_of (number * 8 + 1)) (to_le_bytes w64 n) 10 (length (to_le_bytes w64 n)) (varint_short (number * 8 + 1)) (omega arith)
value_short number (Bytes payload) =
    two_short (varint_of (number * 8 + 2) ++ varint_of (length payload)) payload 20 (length payload)
    (two_short (varint_of (number * 8 + 2)) (varint_of (length payload)) 10 10 (varint_short (number * 8 + 2)) (varint_short (length payload))) (omega arith)
value_short number (Fixed32 n) = two_short (varint_of (number * 8 + 5)) (to_le_bytes w32 n) 10 (length (to_le_bytes w32 n)) (varint_short (number * 8 + 5)) (omega arith)

field_short : (f : FieldOf) → length (field_bytes f) ≤ value_most f.value
unfolding field_bytes
field_short f = value_short f.number f.value

fields_short : (fs : List FieldOf) → length (record_bytes fs) ≤ most_of fs
fields_short [] = omega arith
fields_short (f ∷ fs) = two_short (field_bytes f) (record_bytes fs) (value_most f.value) (most_of fs) (field_short f) (fields_short fs)

both_short : (fs gs : List FieldOf) (a b : ℕ) → length (record_bytes fs) ≤ a → length (record_bytes gs) ≤ b → length (record_bytes (fs ++ gs)) ≤ a + b
both_short fs gs a b h k = subst (λ (bs : List ℕ). length bs ≤ a + b) (sym (flat_append field_bytes fs gs)) (two_short (record_bytes fs) (record_bytes gs) a b h k)

optional_short : (k : ℕ) (n : Option ℕ) → length (record_bytes (optional_field k n)) ≤ 20
optional_short k None = omega arith
optional_short k (Some n) = fields_short (uint_field k n ∷ [])

present_short : (k : ℕ) (bytes : List ℕ) → length (record_bytes (present_field k bytes)) ≤ 20 + length bytes
present_short k [] = omega arith
present_short k (b ∷ bs) = (let e : length (record_bytes (bytes_field k (b ∷ bs) ∷ [])) ≤ (20 + length (b ∷ bs)) + 0 = fields_short (bytes_field k (b ∷ bs) ∷ []) in omega arith)

-- ---- addresses

address_short : (a : Address) → IsAddress a → length (address_bytes a) ≤ 845
unfolding address_bytes
address_short a h =
    let e : length (record_bytes (address_fields a)) ≤ (20 + length a.protocol) + ((20 + length a.system) + ((20 + length a.host) + (20 + 0))) = fields_short (address_fields a) in
    let x : length a.protocol ≤ 255 = h.protocol.short in
    let y : length a.system ≤ 255 = h.system.short in
    let z : length a.host ≤ 255 = h.host.short in
    omega arith

unique_short : (u : UniqueAddress) → IsUniqueAddress u → length (unique_bytes u) ≤ 885
unfolding unique_bytes
unique_short u h =
    let e : length (record_bytes (unique_fields u)) ≤ (20 + length (address_bytes u.address)) + (20 + 0) = fields_short (unique_fields u) in
    let x : length (address_bytes u.address) ≤ 845 = address_short u.address h.address in
    omega arith

one_unique : (k : ℕ) (u : UniqueAddress) → IsUniqueAddress u → length (record_bytes (unique_field k u ∷ [])) ≤ 905
one_unique k u h =
    let e : length (record_bytes (unique_field k u ∷ [])) ≤ (20 + length (unique_bytes u)) + 0 = fields_short (unique_field k u ∷ []) in
    let x : length (unique_bytes u) ≤ 885 = unique_short u h in
    omega arith

-- ---- messages about a node

pub quarantined_good : (from to : UniqueAddress) → IsUniqueAddress from → IsUniqueAddress to → ControlFacts (controls.Quarantined from to)
quarantined_good from to h k = record {
  valid = (h, k);
  room = (let e : length (record_bytes (unique_field 1 from ∷ unique_field 2 to ∷ [])) ≤ 905 + 905 = both_short (unique_field 1 from ∷ []) (unique_field 2 to ∷ []) 905 905 (one_unique 1 from h) (one_unique 2 to k) in omega arith);
  message = tt;
}

pub request_good : (from : UniqueAddress) (to : Address) (dial : ℕ) → IsUniqueAddress from → IsAddress to → dial < 2 ^ 64 → ControlFacts (controls.HandshakeReq from to (Some dial))
request_good from to dial h k n = record {
  valid = (h, k, n);
  room = (let e : length (record_bytes (bytes_field 2 (address_bytes to) ∷ uint_field 15 dial ∷ [])) ≤ (20 + length (address_bytes to)) + (20 + 0) = fields_short (bytes_field 2 (address_bytes to) ∷ uint_field 15 dial ∷ []) in
      let x : length (address_bytes to) ≤ 845 = address_short to k in
      let f : length (record_bytes (unique_field 1 from ∷ bytes_field 2 (address_bytes to) ∷ uint_field 15 dial ∷ [])) ≤ 905 + 885 = both_short (unique_field 1 from ∷ []) (bytes_field 2 (address_bytes to) ∷ uint_field 15 dial ∷ []) 905 885 (one_unique 1 from h) (omega arith) in
      omega arith);
  message = tt;
}

pub response_good : (from : UniqueAddress) (for_uid its_nonce : Option ℕ) → IsUniqueAddress from → IsOptional for_uid → IsOptional its_nonce → ControlFacts (controls.HandshakeRsp from for_uid its_nonce)
response_good from for_uid its_nonce h k n = record {
  valid = (h, k, n);
  room = (let f : length (record_bytes (unique_field 1 from ∷ (optional_field 14 for_uid ++ optional_field 15 its_nonce))) ≤ 905 + (20 + 20) =
      both_short (unique_field 1 from ∷ []) (optional_field 14 for_uid ++ optional_field 15 its_nonce) 905 (20 + 20) (one_unique 1 from h) (both_short (optional_field 14 for_uid) (optional_field 15 its_nonce) 20 20 (optional_short 14 for_uid) (optional_short 15 its_nonce)) in
      omega arith);
  message = tt;
}

numbered_one : (n : ℕ) (from : UniqueAddress) → IsUniqueAddress from → length (record_bytes (uint_field 1 n ∷ unique_field 2 from ∷ [])) ≤ 20 + 905
numbered_one n from h = both_short (uint_field 1 n ∷ []) (unique_field 2 from ∷ []) 20 905 (fields_short (uint_field 1 n ∷ [])) (one_unique 2 from h)

pub ack_good : (n : ℕ) (from : UniqueAddress) → n < 2 ^ 64 → IsUniqueAddress from → ControlFacts (controls.Ack n from)
ack_good n from k h = record { valid = (k, h); room = (let e : length (record_bytes (uint_field 1 n ∷ unique_field 2 from ∷ [])) ≤ 20 + 905 = numbered_one n from h in omega arith); message = tt }

pub nack_good : (n : ℕ) (from : UniqueAddress) → n < 2 ^ 64 → IsUniqueAddress from → ControlFacts (controls.Nack n from)
nack_good n from k h = record { valid = (k, h); room = (let e : length (record_bytes (uint_field 1 n ∷ unique_field 2 from ∷ [])) ≤ 20 + 905 = numbered_one n from h in omega arith); message = tt }

pub beat_good : ControlFacts controls.Heartbeat
beat_good = record { valid = tt; room = omega arith; message = tt }

pub back_good : (uid : ℕ) → uid < 2 ^ 64 → ControlFacts (controls.HeartbeatRsp uid)
back_good uid h = record { valid = h; room = (let e : length (record_bytes (uint_field 1 uid ∷ [])) ≤ 20 + 0 = fields_short (uint_field 1 uid ∷ []) in omega arith); message = tt }

pub numbered_good : (n : ℕ) (m : SysMsg) (from : UniqueAddress) → n < 2 ^ 64 → MessageFacts m → IsUniqueAddress from → ControlFacts (controls.Numbered n m from)
numbered_good n m from k f h = record {
  valid = (k, record { serializer = f.serializer; manifest = (let x : length m.manifest ≤ 4096 = f.manifest in omega arith); payload = (let x : length m.payload ≤ 140000 = f.payload in omega arith) }, h);
  room = (let x : length m.manifest ≤ 4096 = f.manifest in
      let y : length m.payload ≤ 140000 = f.payload in
      let a : length (record_bytes (bytes_field 1 m.payload ∷ uint_field 2 (cast_unsigned w64 m.serializer) ∷ [])) ≤ (20 + length m.payload) + (20 + 0) = fields_short (bytes_field 1 m.payload ∷ uint_field 2 (cast_unsigned w64 m.serializer) ∷ []) in
      let b : length (record_bytes (message_fields m)) ≤ ((20 + length m.payload) + (20 + 0)) + (20 + length m.manifest) =
      both_short (bytes_field 1 m.payload ∷ uint_field 2 (cast_unsigned w64 m.serializer) ∷ []) (present_field 3 m.manifest) ((20 + length m.payload) + (20 + 0)) (20 + length m.manifest) a (present_short 3 m.manifest) in
      let c : length (record_bytes (uint_field 4 n ∷ unique_field 5 from ∷ [])) ≤ 20 + 905 = both_short (uint_field 4 n ∷ []) (unique_field 5 from ∷ []) 20 905 (fields_short (uint_field 4 n ∷ [])) (one_unique 5 from h) in
      let d : length (record_bytes (numbered_fields n m from)) ≤ (((20 + length m.payload) + (20 + 0)) + (20 + length m.manifest)) + (20 + 905) =
      both_short (message_fields m) (uint_field 4 n ∷ unique_field 5 from ∷ []) (((20 + length m.payload) + (20 + 0)) + (20 + length m.manifest)) (20 + 905) b c in
      omega arith);
  message = f;
}

-- ---- messages about a table

version_small : (n : ℕ) → version_of n ≤ 255
version_small zero = omega arith
version_small (suc n) = omega arith

version_same : (n : ℕ) → 1 ≤ n → version_of n ≡ version_told n
version_same zero h = absurd (let c : ⊥ = (let e : 1 ≤ 0 = h in omega arith) in c)
version_same (suc n) h = ap (λ (k : ℕ). k % 127 + 1) (let e : n ≡ suc n - 1 = omega arith in e)

sequence_good : (n : ℕ) → 1 ≤ n → n < 2 ^ 64 → IsVersion (version_of n) (sequence_of n)
sequence_good n h k = by (nat_le 128 n)
  where
    by : (b : Bool) → IsVersion (version_of n) (cond b (Some n) None)
    by true = (version_small n, h, version_same n h, k)
    by false = version_small n

-- the number 0 has none
none_of : (n : ℕ) → n < 1 → sequence_of n ≡ None
none_of zero h = refl
none_of (suc n) h = absurd (let c : ⊥ = (let e : suc n < 1 = h in omega arith) in c)

any_sequence : (n : ℕ) → n < 2 ^ 64 → IsVersion (version_of n) (sequence_of n)
any_sequence zero k = version_small 0
any_sequence (suc n) k = sequence_good (suc n) (let e : 1 ≤ suc n = omega arith in e) k

ack_short : (from : UniqueAddress) (version : ℕ) (sequence : Option ℕ) → IsUniqueAddress from → length (record_bytes (table_ack_fields from version sequence)) ≤ 905 + (20 + 20)
ack_short from version sequence h =
    both_short (unique_field 1 from ∷ []) (uint_field 2 version ∷ optional_field 3 sequence) 905 (20 + 20) (one_unique 1 from h)
    (both_short (uint_field 2 version ∷ []) (optional_field 3 sequence) 20 20 (fields_short (uint_field 2 version ∷ [])) (optional_short 3 sequence))

pub table_ack_good : (kind : Kind) (from : UniqueAddress) (n : ℕ) → IsUniqueAddress from → n < 2 ^ 64 → ControlFacts (table_ack kind from n)
table_ack_good Refs from n h k = record { valid = (h, any_sequence n k); room = (let e : length (record_bytes (table_ack_fields from (version_of n) (sequence_of n))) ≤ 905 + (20 + 20) = ack_short from (version_of n) (sequence_of n) h in omega arith); message = tt }
table_ack_good Manifests from n h k = record { valid = (h, any_sequence n k); room = (let e : length (record_bytes (table_ack_fields from (version_of n) (sequence_of n))) ≤ 905 + (20 + 20) = ack_short from (version_of n) (sequence_of n) h in omega arith); message = tt }

keys_short : (keys : List (List ℕ)) → Each NameFacts keys → length (record_bytes (map (bytes_field 4) keys)) ≤ 276 * length keys
keys_short [] h = omega arith
keys_short (key ∷ keys) h =
    let x : length key ≤ 256 = h.0.short in
    let a : length (record_bytes (bytes_field 4 key ∷ [])) ≤ (20 + length key) + 0 = fields_short (bytes_field 4 key ∷ []) in
    let b : length (record_bytes (bytes_field 4 key ∷ map (bytes_field 4) keys)) ≤ 276 + 276 * length keys = both_short (bytes_field 4 key ∷ []) (map (bytes_field 4) keys) 276 (276 * length keys) (omega arith) (keys_short keys h.1) in
    let c : length (key ∷ keys) ≡ suc (length keys) = refl in
    omega arith

values_short : (values : List ℕ) → length (record_bytes (map (uint_field 5) values)) ≤ 20 * length values
values_short [] = omega arith
values_short (v ∷ values) =
    let b : length (record_bytes (uint_field 5 v ∷ map (uint_field 5) values)) ≤ 20 + 20 * length values = both_short (uint_field 5 v ∷ []) (map (uint_field 5) values) 20 (20 * length values) (fields_short (uint_field 5 v ∷ [])) (values_short values) in
    let c : length (v ∷ values) ≡ suc (length values) = refl in
    omega arith

key_good : (name : List ℕ) → NameFacts name → is_key name ≡ true
unfolding is_key
key_good name f = and_both (nat_le (length name) 65535) (list_all (λ b. nat_lt b 128) name) (le-leb (length name) 65535 (let x : length name ≤ 256 = f.short in omega arith)) f.ascii

keys_good : (keys : List (List ℕ)) → Each NameFacts keys → AllByRecursion (λ text. is_key text ≡ true) keys
keys_good [] h = tt
keys_good (key ∷ keys) h = (key_good key h.0, keys_good keys h.1)

values_good : (first k : ℕ) → first + k ≤ 65536 → AllByRecursion (λ n. n ≤ 65535) (numbers_from first k)
values_good first zero h = tt
values_good first (suc k) h = ((let e : first ≤ 65535 = omega arith in e), values_good (first + 1) k (let e : first + 1 + k ≤ 65536 = omega arith in e))

so_many : (first k : ℕ) → length (numbers_from first k) ≡ k
so_many first zero = refl
so_many first (suc k) = ap suc (so_many (first + 1) k)

table_short : (from : UniqueAddress) (origin version : ℕ) (names : List (List ℕ)) (sequence : Option ℕ) → IsUniqueAddress from → TableFacts names
    → length (record_bytes (table_fields from origin version names (numbers_from 0 (length names)) sequence)) ≤ most_payload
table_short from origin version names sequence h f =
    let x : length names ≤ 256 = f.few in
    let y : length (numbers_from 0 (length names)) ≡ length names = so_many 0 (length names) in
    let a : length (record_bytes (uint_field 2 origin ∷ uint_field 3 version ∷ [])) ≤ 20 + (20 + 0) = fields_short (uint_field 2 origin ∷ uint_field 3 version ∷ []) in
    let b : length (record_bytes (unique_field 1 from ∷ uint_field 2 origin ∷ uint_field 3 version ∷ [])) ≤ 905 + 40 = both_short (unique_field 1 from ∷ []) (uint_field 2 origin ∷ uint_field 3 version ∷ []) 905 40 (one_unique 1 from h) (omega arith) in
    let c : length (record_bytes (map (uint_field 5) (numbers_from 0 (length names)) ++ optional_field 6 sequence)) ≤ 20 * length (numbers_from 0 (length names)) + 20 =
    both_short (map (uint_field 5) (numbers_from 0 (length names))) (optional_field 6 sequence) (20 * length (numbers_from 0 (length names))) 20 (values_short (numbers_from 0 (length names))) (optional_short 6 sequence) in
    let d : length (record_bytes (map (bytes_field 4) names ++ (map (uint_field 5) (numbers_from 0 (length names)) ++ optional_field 6 sequence))) ≤ 276 * length names + (20 * length (numbers_from 0 (length names)) + 20) =
    both_short (map (bytes_field 4) names) (map (uint_field 5) (numbers_from 0 (length names)) ++ optional_field 6 sequence) (276 * length names) (20 * length (numbers_from 0 (length names)) + 20) (keys_short names f.each) c in
    let e : length (record_bytes (table_fields from origin version names (numbers_from 0 (length names)) sequence)) ≤ (905 + 40) + (276 * length names + (20 * length (numbers_from 0 (length names)) + 20)) =
    both_short (unique_field 1 from ∷ uint_field 2 origin ∷ uint_field 3 version ∷ []) (map (bytes_field 4) names ++ (map (uint_field 5) (numbers_from 0 (length names)) ++ optional_field 6 sequence)) (905 + 40) (276 * length names + (20 * length (numbers_from 0 (length names)) + 20)) b d in
    omega arith

names_good : (names : List (List ℕ)) → TableFacts names → IsTable names (numbers_from 0 (length names))
names_good names f = record {
  each_key = keys_good names f.each;
  each_value = values_good 0 (length names) (let x : length names ≤ 256 = f.few in omega arith);
  equal = sym (so_many 0 (length names));
}

pub table_good : (kind : Kind) (me v : UniqueAddress) (n : ℕ) (names : List (List ℕ)) → IsUniqueAddress me → IsUniqueAddress v → 1 ≤ n → n < 2 ^ 64 → TableFacts names → ControlFacts (advertisement kind me v (table_of n names))
table_good Refs me v n names h k one small f = record { valid = (h, k.uid, sequence_good n one small, names_good names f); room = table_short me v.uid (version_of n) names (sequence_of n) h f; message = tt }
table_good Manifests me v n names h k one small f = record { valid = (h, k.uid, sequence_good n one small, names_good names f); room = table_short me v.uid (version_of n) names (sequence_of n) h f; message = tt }
