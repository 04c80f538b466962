-- Reading the fields that were written.
use Rattle.std.proofs.Common.{◌≡◌, ℕ, ◌%◌, ◌^◌, ◌<◌, ◌≤◌, Bool, true, false, cond, leb, eqb, List, [], ◌∷◌, ◌++◌, length, map, Option, Some, None, Result, Ok, refl, ap, append_assoc, ◌∙◌, arith}
use Rattle.std.specs.Prelude.{◌&&◌, ℤ, pos, negsuc, FitsSigned}
use Rattle.std.specs.Int.{w32, w64, cast_signed, cast_unsigned}
use Rattle.std.proofs.lemmas.Int.{to_z-of_z}
use Rattle.artery_base.specs.declared.message.SysMsg.{SysMsg}
use Rattle.std.specs.Option.{unwrap_or}
use Rattle.std.specs.List.{AllByRecursion, list_all, filter_map, flat_map, cons_option}
use Rattle.std.proofs.lemmas.Bool.{le-leb, eq-eqb, and_from}
use Rattle.std.proofs.lemmas.List.{append-nil}
use Rattle.std.proofs.lemmas.List.Concat.{flat_map-cons}
use Rattle.artery_base.specs.declared.address.Address.{Address}
use Rattle.artery_base.specs.declared.address.UniqueAddress.{UniqueAddress}
use Rattle.artery_wire.specs.declared.fault.WireFault.{WireFault}
use Rattle.artery_wire.specs.Record.{FieldOf}
use Rattle.artery_wire.specs.Writing.{uint_field, bytes_field, record_bytes}
use Rattle.artery_wire.specs.Laws.{WrittenIsRead, VarintIsWritten, VarintIsShortest}
use Rattle.artery_control.specs.declared.control.Control.{Control}
use Rattle.artery_control.specs.declared.control.Control.TheVariants as controls
use Rattle.artery_control.specs.declared.fault.ControlFault.{ControlFault}
use Rattle.artery_control.specs.declared.path.Path.{Path}
use Rattle.artery_control.specs.declared.path.Path.TheVariants as paths
use Rattle.artery_base.specs.Words.{◌>>=◌}
use Rattle.artery_base.specs.Valid.{IsAddress, IsUniqueAddress}
use Rattle.artery_control.specs.Outcome.{to_field, each_of}
use Rattle.artery_control.specs.Picking.{fields_in, varint_in, bytes_in, last_picked, last_number, last_payload, well_formed, sound, packed_sound, where_present, each_payload, joined, embedded}
use Rattle.artery_control.specs.Parts.{is_part, is_key}
use Rattle.artery_control.specs.Message.{number_at, ranged_at, part_at, address_in, address_at, unique_in, unique_at, agreeing, sequence_at, table_ack_in, counted_in, quarantined_in, request_in, answer_in, refs_ack_in, manifests_ack_in, refs_table_in, manifests_table_in, numbered_in, keys_at, is_value, repeated_in, values_at, table_in, message_in, is_letter, message_of}
use Rattle.artery_control.specs.Payload.{optional_field, present_field, address_fields, address_bytes, unique_fields, unique_bytes, unique_field, table_fields, table_ack_fields, numbered_fields, control_fields, payload_of, letter_of}
use Rattle.artery_control.specs.Belonging.{NonePicked}
use Rattle.artery_control.specs.Valid.{IsVersion, IsTable, IsValid}
use Rattle.artery_control.specs.RoundTrip.{WrittenIsReadAgain}
use Rattle.artery_control.proofs.Lengths.{Varints}
use Rattle.artery_control.proofs.Writable.{AreWritable, address_writable, unique_writable, writable}
use Rattle.artery_control.proofs.Told.{part_from, agreeing_from, version_small, keys_pass, values_pass}
use Rattle.artery_control.proofs.Picks.{last_none, last_at, none_then}

-- what is known of records
record Laws : Type 0 where
  pub read : WrittenIsRead
  pub varints : Varints

-- ---- the fields of a record that was written

fields_again : Laws → (fs : List FieldOf) → AreWritable fs → fields_in (record_bytes fs) ≡ fs
fields_again w fs fits = ap (λ (r : List FieldOf × Option WireFault). r.0) (w.read fs fits)

sound_again : Laws → (path : Path) (fs : List FieldOf) → AreWritable fs → sound path (record_bytes fs) ≡ Ok tt
unfolding sound
sound_again w path fs fits = ap (λ (r : List FieldOf × Option WireFault). well_formed path r.1) (w.read fs fits)

-- ---- what is picked

each_none : (test : List ℕ → Result (Unit {0}) ControlFault) (k : ℕ) (fs : List FieldOf) → NonePicked (bytes_in k) fs → each_payload test k fs ≡ Ok tt
unfolding each_payload
each_none test k [] none = refl
each_none test k (f ∷ fs) none = ap (λ (o : Option (List ℕ)). where_present test o >>= λ _. each_payload test k fs) none.0 ∙ each_none test k fs none.1

each_at : (test : List ℕ → Result (Unit {0}) ControlFault) (k : ℕ) (before : List FieldOf) (f : FieldOf) (after : List FieldOf) (payload : List ℕ)
    → bytes_in k f ≡ Some payload → test payload ≡ Ok tt → NonePicked (bytes_in k) before → NonePicked (bytes_in k) after → each_payload test k (before ++ f ∷ after) ≡ Ok tt
unfolding each_payload
each_at test k [] f after payload here passes none none' =
    ap (λ (o : Option (List ℕ)). where_present test o >>= λ _. each_payload test k after) here
    ∙ ap (λ (r : Result (Unit {0}) ControlFault). r >>= λ _. each_payload test k after) passes
    ∙ each_none test k after none'
each_at test k (b ∷ bs) f after payload here passes none none' =
    ap (λ (o : Option (List ℕ)). where_present test o >>= λ _. each_payload test k (bs ++ f ∷ after)) none.0 ∙ each_at test k bs f after payload here passes none.1 none'

joined_none : (k : ℕ) (fs : List FieldOf) → NonePicked (bytes_in k) fs → joined k fs ≡ []
unfolding joined
joined_none k [] none = refl
joined_none k (f ∷ fs) none = ap (λ (o : Option (List ℕ)). unwrap_or o [] ++ joined k fs) none.0 ∙ joined_none k fs none.1

joined_at : (k : ℕ) (before : List FieldOf) (f : FieldOf) (after : List FieldOf) (payload : List ℕ)
    → bytes_in k f ≡ Some payload → NonePicked (bytes_in k) before → NonePicked (bytes_in k) after → joined k (before ++ f ∷ after) ≡ payload
unfolding joined
joined_at k [] f after payload here none none' =
    ap (λ (o : Option (List ℕ)). unwrap_or o [] ++ joined k after) here ∙ ap (λ (t : List ℕ). payload ++ t) (joined_none k after none') ∙ append-nil payload
joined_at k (b ∷ bs) f after payload here none none' =
    ap (λ (o : Option (List ℕ)). unwrap_or o [] ++ joined k (bs ++ f ∷ after)) none.0 ∙ joined_at k bs f after payload here none.1 none'

-- ---- an embedded message that stands once

record StandsOnce (k : ℕ) (bytes payload : List ℕ) : Type 0 where
  pub before : List FieldOf
  pub after : List FieldOf
  pub parts : fields_in bytes ≡ before ++ bytes_field k payload ∷ after
  pub here : bytes_in k (bytes_field k payload) ≡ Some payload
  pub none : NonePicked (bytes_in k) before
  pub none_after : NonePicked (bytes_in k) after

embedded_again : (path : Path) (k : ℕ) (bytes payload : List ℕ) → StandsOnce k bytes payload → sound (to_field path k) payload ≡ Ok tt → embedded path k bytes ≡ Ok payload
unfolding embedded
embedded_again path k bytes payload s fine =
    let f : FieldOf = bytes_field k payload in
    let last : last_payload k bytes ≡ Some payload = ap (last_picked (bytes_in k)) s.parts ∙ last_at (bytes_in k) s.before f s.after payload s.here s.none_after in
    let each : each_payload (sound (to_field path k)) k (fields_in bytes) ≡ Ok tt =
    ap (each_payload (sound (to_field path k)) k) s.parts ∙ each_at (sound (to_field path k)) k s.before f s.after payload s.here fine s.none s.none_after in
    let whole : joined k (fields_in bytes) ≡ payload = ap (joined k) s.parts ∙ joined_at k s.before f s.after payload s.here s.none s.none_after in
    rw (last, each, whole) refl

-- ---- numbers and parts

number_again : (path : Path) (k : ℕ) (bytes : List ℕ) (n : ℕ) → last_number k bytes ≡ Some n → number_at path k bytes ≡ Ok n
unfolding number_at
number_again path k bytes n e = rw e refl

ranged_again : (path : Path) (k least most : ℕ) (bytes : List ℕ) (n : ℕ) → last_number k bytes ≡ Some n → least ≤ n → n ≤ most → most < 2 ^ 32 → ranged_at path k least most bytes ≡ Ok n
unfolding ranged_at
ranged_again path k least most bytes n e low high small =
    let same : n % 2 ^ 32 ≡ n = omega (arith, high, small) in
    let test : (leb least n && leb n most) ≡ true = and_from _ _ (le-leb _ _ low) (le-leb _ _ high) in
    rw (number_again path k bytes n e, same, test) refl

part_again : (path : Path) (k : ℕ) (bytes text : List ℕ) → last_payload k bytes ≡ Some text → is_part text ≡ true → part_at path k bytes ≡ Ok text
unfolding part_at
part_again path k bytes text e fine = rw (e, fine) refl

-- ---- addresses

address_in_again : Laws → (path : Path) (a : Address) → IsAddress a → address_in path (address_bytes a) ≡ Ok a
unfolding address_in address_bytes
address_in_again w path a is =
    let bytes : List ℕ = record_bytes (address_fields a) in
    let fields : fields_in bytes ≡ address_fields a = fields_again w (address_fields a) (address_writable a is) in
    let protocol : part_at path 1 bytes ≡ Ok a.protocol = part_again path 1 bytes a.protocol (ap (last_picked (bytes_in 1)) fields) (part_from a.protocol is.protocol) in
    let system : part_at path 2 bytes ≡ Ok a.system = part_again path 2 bytes a.system (ap (last_picked (bytes_in 2)) fields) (part_from a.system is.system) in
    let host : part_at path 3 bytes ≡ Ok a.host = part_again path 3 bytes a.host (ap (last_picked (bytes_in 3)) fields) (part_from a.host is.host) in
    let port : ranged_at path 4 1 65535 bytes ≡ Ok a.port = ranged_again path 4 1 65535 bytes a.port (ap (last_picked (varint_in 4)) fields) is.port.0 is.port.1 (omega arith) in
    rw (protocol, system, host, port) refl

address_again : Laws → (path : Path) (k : ℕ) (bytes : List ℕ) (a : Address) → StandsOnce k bytes (address_bytes a) → IsAddress a → address_at path k bytes ≡ Ok a
unfolding address_at address_bytes
address_again w path k bytes a s is =
    ap (λ (r : Result (List ℕ) ControlFault). r >>= address_in (to_field path k)) (embedded_again path k bytes (address_bytes a) s (sound_again w (to_field path k) (address_fields a) (address_writable a is)))
    ∙ address_in_again w (to_field path k) a is

unique_in_again : Laws → (path : Path) (u : UniqueAddress) → IsUniqueAddress u → unique_in path (unique_bytes u) ≡ Ok u
unfolding unique_in unique_bytes
unique_in_again w path u is =
    let bytes : List ℕ = record_bytes (unique_fields u) in
    let fields : fields_in bytes ≡ unique_fields u = fields_again w (unique_fields u) (unique_writable w.varints u is) in
    let once : StandsOnce 1 bytes (address_bytes u.address) = record { before = []; after = uint_field 2 u.uid ∷ []; parts = fields; here = refl; none = tt; none_after = (refl, tt) } in
    let address : address_at path 1 bytes ≡ Ok u.address = address_again w path 1 bytes u.address once is.address in
    let uid : number_at path 2 bytes ≡ Ok u.uid = number_again path 2 bytes u.uid (ap (last_picked (varint_in 2)) fields) in
    rw (address, uid) refl

unique_again : Laws → (path : Path) (k : ℕ) (bytes : List ℕ) (u : UniqueAddress) → StandsOnce k bytes (unique_bytes u) → IsUniqueAddress u → unique_at path k bytes ≡ Ok u
unfolding unique_at unique_bytes
unique_again w path k bytes u s is =
    ap (λ (r : Result (List ℕ) ControlFault). r >>= unique_in (to_field path k)) (embedded_again path k bytes (unique_bytes u) s (sound_again w (to_field path k) (unique_fields u) (unique_writable w.varints u is)))
    ∙ unique_in_again w (to_field path k) u is

-- ---- messages

-- a message whose letter and fields are read is read
starts : Laws → (control : Control) (letter : ℕ) → is_letter letter ≡ true → AreWritable (control_fields control) → message_in letter (payload_of control) ≡ Ok control
    → message_of (letter ∷ []) (payload_of control) ≡ Ok control
starts w control letter is fits e =
    rw is (ap (λ (r : Result (Unit {0}) ControlFault). r >>= λ _. message_in letter (payload_of control)) (sound_again w paths.Message (control_fields control) fits) ∙ e)

-- ---- optional fields

cond_none : {X : Type 0} (b : Bool) (x : Option X) → x ≡ None → cond b x None ≡ None
cond_none true x e = e
cond_none false x e = refl

-- an optional number is no payload
none_bytes : (k j : ℕ) (o : Option ℕ) → NonePicked (bytes_in k) (optional_field j o)
none_bytes k j None = tt
none_bytes k j (Some n) = (cond_none {X = List ℕ} (eqb j k) None refl, tt)

-- and no number of another field
none_varint : (k j : ℕ) (o : Option ℕ) → eqb j k ≡ false → NonePicked (varint_in k) (optional_field j o)
none_varint k j None e = tt
none_varint k j (Some n) e = (ap (λ b. cond b (Some n) None) e, tt)

last_optional : (j : ℕ) (before : List FieldOf) (o : Option ℕ) → eqb j j ≡ true → NonePicked (varint_in j) before → last_picked (varint_in j) (before ++ optional_field j o) ≡ o
last_optional j before None e none = ap (last_picked (varint_in j)) (append-nil before) ∙ last_none (varint_in j) before none
last_optional j before (Some n) e none = last_at (varint_in j) before (uint_field j n) [] n (ap (λ b. cond b (Some n) None) e) tt

last_optional_then : (j : ℕ) (before after : List FieldOf) (o : Option ℕ) → eqb j j ≡ true → NonePicked (varint_in j) before → NonePicked (varint_in j) after
    → last_picked (varint_in j) (before ++ (optional_field j o ++ after)) ≡ o
last_optional_then j before after None e none none' = last_none (varint_in j) (before ++ after) (none_then (varint_in j) before after none none')
last_optional_then j before after (Some n) e none none' = last_at (varint_in j) before (uint_field j n) after n (ap (λ b. cond b (Some n) None) e) none'

sequence_again : (path : Path) (k version : ℕ) (bytes : List ℕ) (sequence : Option ℕ) → last_number k bytes ≡ sequence → IsVersion version sequence → sequence_at path k version bytes ≡ Ok sequence
unfolding sequence_at
sequence_again path k version bytes sequence e is = ap (agreeing (to_field path k) version) e ∙ agreeing_from (to_field path k) version sequence is

table_ack_again : Laws → (from : UniqueAddress) (version : ℕ) (sequence : Option ℕ) → IsUniqueAddress from → IsVersion version sequence → AreWritable (table_ack_fields from version sequence)
    → table_ack_in (record_bytes (table_ack_fields from version sequence)) ≡ Ok (record { from = from; version = version; sequence = sequence })
unfolding table_ack_in
table_ack_again w from version sequence is fine fits =
    let bytes : List ℕ = record_bytes (table_ack_fields from version sequence) in
    let fields : fields_in bytes ≡ table_ack_fields from version sequence = fields_again w (table_ack_fields from version sequence) fits in
    let first : unique_at paths.Message 1 bytes ≡ Ok from =
    unique_again w paths.Message 1 bytes from (record { before = []; after = uint_field 2 version ∷ optional_field 3 sequence; parts = fields; here = refl; none = tt; none_after = (refl, none_bytes 1 3 sequence) }) is in
    let number : last_number 2 bytes ≡ Some version =
    ap (last_picked (varint_in 2)) fields ∙ last_at (varint_in 2) (unique_field 1 from ∷ []) (uint_field 2 version) (optional_field 3 sequence) version refl (none_varint 2 3 sequence refl) in
    let second : ranged_at paths.Message 2 0 255 bytes ≡ Ok version = ranged_again paths.Message 2 0 255 bytes version number (omega arith) (version_small version sequence fine) (omega arith) in
    let last : last_number 3 bytes ≡ sequence =
    ap (last_picked (varint_in 3)) fields ∙ last_optional 3 (unique_field 1 from ∷ uint_field 2 version ∷ []) sequence refl (refl, (refl, tt)) in
    let third : sequence_at paths.Message 3 version bytes ≡ Ok sequence = sequence_again paths.Message 3 version bytes sequence last fine in
    rw (first, second, third) refl

-- ---- tables

none_keys : (k : ℕ) (keys : List (List ℕ)) → eqb 4 k ≡ false → NonePicked (bytes_in k) (map (bytes_field 4) keys)
none_keys k [] e = tt
none_keys k (x ∷ xs) e = (ap (λ b. cond b (Some x) None) e, none_keys k xs e)

none_keys_varint : (k : ℕ) (keys : List (List ℕ)) → NonePicked (varint_in k) (map (bytes_field 4) keys)
none_keys_varint k [] = tt
none_keys_varint k (x ∷ xs) = (cond_none {X = ℕ} (eqb 4 k) None refl, none_keys_varint k xs)

none_values : (k : ℕ) (values : List ℕ) → NonePicked (bytes_in k) (map (uint_field 5) values)
none_values k [] = tt
none_values k (n ∷ ns) = (cond_none {X = List ℕ} (eqb 5 k) None refl, none_values k ns)

none_values_varint : (k : ℕ) (values : List ℕ) → eqb 5 k ≡ false → NonePicked (varint_in k) (map (uint_field 5) values)
none_values_varint k [] e = tt
none_values_varint k (n ∷ ns) e = (ap (λ b. cond b (Some n) None) e, none_values_varint k ns e)

keys_none : (fs : List FieldOf) → NonePicked (bytes_in 4) fs → filter_map (bytes_in 4) fs ≡ []
keys_none [] none = refl
keys_none (f ∷ fs) none = ap (λ (o : Option (List ℕ)). cons_option o (filter_map (bytes_in 4) fs)) none.0 ∙ keys_none fs none.1

keys_all : (keys : List (List ℕ)) (after : List FieldOf) → NonePicked (bytes_in 4) after → filter_map (bytes_in 4) (map (bytes_field 4) keys ++ after) ≡ keys
keys_all [] after none = keys_none after none
keys_all (x ∷ xs) after none = ap (λ (t : List (List ℕ)). x ∷ t) (keys_all xs after none)

abbrev NoneRepeated : List FieldOf → Type 0
NoneRepeated fs = AllByRecursion (λ f. repeated_in 5 f ≡ []) fs

values_none : (fs : List FieldOf) → NoneRepeated fs → flat_map (repeated_in 5) fs ≡ []
values_none [] none = refl
values_none (f ∷ fs) none = flat_map-cons (repeated_in 5) f fs ∙ ap (λ (ns : List ℕ). ns ++ flat_map (repeated_in 5) fs) none.0 ∙ values_none fs none.1

values_skip : (before after : List FieldOf) → NoneRepeated before → flat_map (repeated_in 5) (before ++ after) ≡ flat_map (repeated_in 5) after
values_skip [] after none = refl
values_skip (f ∷ fs) after none =
    flat_map-cons (repeated_in 5) f (fs ++ after) ∙ ap (λ (ns : List ℕ). ns ++ flat_map (repeated_in 5) (fs ++ after)) none.0 ∙ values_skip fs after none.1

values_all : (values : List ℕ) (after : List FieldOf) → AllByRecursion (λ n. n ≤ 65535) values → NoneRepeated after → flat_map (repeated_in 5) (map (uint_field 5) values ++ after) ≡ values
values_all [] after fine none = values_none after none
values_all (n ∷ ns) after fine none =
    let small : n ≤ 65535 = fine.0 in
    let same : n % 2 ^ 32 ≡ n = omega (arith, small) in
    flat_map-cons (repeated_in 5) (uint_field 5 n) (map (uint_field 5) ns ++ after) ∙ rw same (ap (λ (t : List ℕ). n ∷ t) (values_all ns after fine.1 none))

repeated_keys : (keys : List (List ℕ)) → NoneRepeated (map (bytes_field 4) keys)
repeated_keys [] = tt
repeated_keys (x ∷ xs) = (refl, repeated_keys xs)

repeated_optional : (o : Option ℕ) → NoneRepeated (optional_field 6 o)
repeated_optional None = tt
repeated_optional (Some n) = (refl, tt)

table_again : Laws → (from : UniqueAddress) (origin version : ℕ) (keys : List (List ℕ)) (values : List ℕ) (sequence : Option ℕ) → IsUniqueAddress from → IsVersion version sequence → IsTable keys values
    → AreWritable (table_fields from origin version keys values sequence)
    → table_in (record_bytes (table_fields from origin version keys values sequence)) ≡ Ok (record { from = from; origin_uid = origin; version = version; keys = keys; values = values; sequence = sequence })
unfolding table_in keys_at values_at each_of
table_again w from origin version keys values sequence is fine table fits =
    let bytes : List ℕ = record_bytes (table_fields from origin version keys values sequence) in
    let names : List FieldOf = map (bytes_field 4) keys in
    let numbers : List FieldOf = map (uint_field 5) values in
    let last : List FieldOf = optional_field 6 sequence in
    let head : List FieldOf = unique_field 1 from ∷ uint_field 2 origin ∷ uint_field 3 version ∷ [] in
    let fields : fields_in bytes ≡ head ++ (names ++ (numbers ++ last)) = fields_again w (table_fields from origin version keys values sequence) fits in
    let no_bytes : (k : ℕ) → eqb 4 k ≡ false → NonePicked (bytes_in k) (names ++ (numbers ++ last)) =
    λ k e. none_then (bytes_in k) names (numbers ++ last) (none_keys k keys e) (none_then (bytes_in k) numbers last (none_values k values) (none_bytes k 6 sequence)) in
    let no_number : (k : ℕ) → eqb 5 k ≡ false → eqb 6 k ≡ false → NonePicked (varint_in k) (names ++ (numbers ++ last)) =
    λ k e e'. none_then (varint_in k) names (numbers ++ last) (none_keys_varint k keys) (none_then (varint_in k) numbers last (none_values_varint k values e) (none_varint k 6 sequence e')) in
    let first : unique_at paths.Message 1 bytes ≡ Ok from =
    unique_again w paths.Message 1 bytes from (record { before = []; after = uint_field 2 origin ∷ uint_field 3 version ∷ (names ++ (numbers ++ last)); parts = fields; here = refl; none = tt; none_after = (refl, (refl, no_bytes 1 refl)) }) is in
    let second : number_at paths.Message 2 bytes ≡ Ok origin =
    number_again paths.Message 2 bytes origin (ap (last_picked (varint_in 2)) fields ∙ last_at (varint_in 2) (unique_field 1 from ∷ []) (uint_field 2 origin) (uint_field 3 version ∷ (names ++ (numbers ++ last))) origin refl (refl, no_number 2 refl refl)) in
    let third : ranged_at paths.Message 3 0 255 bytes ≡ Ok version =
    ranged_again paths.Message 3 0 255 bytes version (ap (last_picked (varint_in 3)) fields ∙ last_at (varint_in 3) (unique_field 1 from ∷ uint_field 2 origin ∷ []) (uint_field 3 version) (names ++ (numbers ++ last)) version refl (no_number 3 refl refl)) (omega arith) (version_small version sequence fine) (omega arith) in
    let fourth : filter_map (bytes_in 4) (fields_in bytes) ≡ keys =
    ap (filter_map (bytes_in 4)) fields ∙ keys_all keys (numbers ++ last) (none_then (bytes_in 4) numbers last (none_values 4 values) (none_bytes 4 6 sequence)) in
    let each_key : list_all is_key keys ≡ true = keys_pass keys table.each_key in
    let packed : each_payload (packed_sound (paths.Field 5)) 5 (fields_in bytes) ≡ Ok tt =
    ap (each_payload (packed_sound (paths.Field 5)) 5) fields ∙ each_none (packed_sound (paths.Field 5)) 5 (head ++ (names ++ (numbers ++ last))) (refl, (refl, (refl, no_bytes 5 refl))) in
    let fifth : flat_map (repeated_in 5) (fields_in bytes) ≡ values =
    ap (flat_map (repeated_in 5)) fields
    ∙ values_skip head (names ++ (numbers ++ last)) (refl, (refl, (refl, tt)))
    ∙ values_skip names (numbers ++ last) (repeated_keys keys)
    ∙ values_all values last table.each_value (repeated_optional sequence) in
    let each_value : list_all is_value values ≡ true = values_pass values table.each_value in
    let grouped : head ++ (names ++ (numbers ++ last)) ≡ (head ++ (names ++ numbers)) ++ last = simp append_assoc in
    let sixth : last_number 6 bytes ≡ sequence =
    ap (last_picked (varint_in 6)) (fields ∙ grouped)
    ∙ last_optional 6 (head ++ (names ++ numbers)) sequence refl (refl, (refl, (refl, none_then (varint_in 6) names numbers (none_keys_varint 6 keys) (none_values_varint 6 values refl)))) in
    let seventh : sequence_at paths.Message 6 version bytes ≡ Ok sequence = sequence_again paths.Message 6 version bytes sequence sixth fine in
    let equal : eqb (length keys) (length values) ≡ true = eq-eqb _ _ table.equal in
    rw (first, second, third, fourth, each_key, packed, fifth, each_value, seventh, equal) refl

-- ---- system messages

none_present : (k : ℕ) (bytes : List ℕ) → eqb 3 k ≡ false → NonePicked (bytes_in k) (present_field 3 bytes)
none_present k [] e = tt
none_present k (b ∷ bs) e = (ap (λ t. cond t (Some (b ∷ bs)) None) e, tt)

none_present_varint : (k : ℕ) (bytes : List ℕ) → NonePicked (varint_in k) (present_field 3 bytes)
none_present_varint k [] = tt
none_present_varint k (b ∷ bs) = (cond_none {X = ℕ} (eqb 3 k) None refl, tt)

present_again : (before after : List FieldOf) (bytes : List ℕ) → NonePicked (bytes_in 3) before → NonePicked (bytes_in 3) after
    → unwrap_or (last_picked (bytes_in 3) (before ++ (present_field 3 bytes ++ after))) [] ≡ bytes
present_again before after [] none none' = ap (λ (o : Option (List ℕ)). unwrap_or o []) (last_none (bytes_in 3) (before ++ after) (none_then (bytes_in 3) before after none none'))
present_again before after (b ∷ bs) none none' = ap (λ (o : Option (List ℕ)). unwrap_or o []) (last_at (bytes_in 3) before (bytes_field 3 (b ∷ bs)) after (b ∷ bs) refl none')

low_again : (z : ℤ) → FitsSigned w32 z → cast_unsigned w64 z % 2 ^ 32 ≡ cast_unsigned w32 z
low_again (pos n) fits = let small : n < 2147483648 = fits.sfits in omega (arith, small)
low_again (negsuc n) fits = let small : n < 2147483648 = fits.sfits in omega (arith, small)

int_again : (z : ℤ) → FitsSigned w32 z → cast_signed w32 (cast_unsigned w64 z % 2 ^ 32) ≡ z
int_again z fits = ap (cast_signed w32) (low_again z fits) ∙ to_z-of_z w32 z fits

numbered_again : Laws → (n : ℕ) (message : SysMsg) (reply_to : UniqueAddress) → IsUniqueAddress reply_to → FitsSigned w32 message.serializer → AreWritable (numbered_fields n message reply_to)
    → numbered_in (record_bytes (numbered_fields n message reply_to)) ≡ Ok (controls.Numbered n message reply_to)
unfolding numbered_in
numbered_again w n message reply_to is int fits =
    let bytes : List ℕ = record_bytes (numbered_fields n message reply_to) in
    let serializer : ℕ = cast_unsigned w64 message.serializer in
    let head : List FieldOf = bytes_field 1 message.payload ∷ uint_field 2 serializer ∷ [] in
    let manifest : List FieldOf = present_field 3 message.manifest in
    let tail : List FieldOf = uint_field 4 n ∷ unique_field 5 reply_to ∷ [] in
    let fields : fields_in bytes ≡ head ++ (manifest ++ tail) = fields_again w (numbered_fields n message reply_to) fits in
    let first : last_payload 1 bytes ≡ Some message.payload =
    ap (last_picked (bytes_in 1)) fields ∙ last_at (bytes_in 1) [] (bytes_field 1 message.payload) (uint_field 2 serializer ∷ (manifest ++ tail)) message.payload refl (refl, none_then (bytes_in 1) manifest tail (none_present 1 message.manifest refl) (refl, (refl, tt))) in
    let second : number_at paths.Message 2 bytes ≡ Ok serializer =
    number_again paths.Message 2 bytes serializer (ap (last_picked (varint_in 2)) fields ∙ last_at (varint_in 2) (bytes_field 1 message.payload ∷ []) (uint_field 2 serializer) (manifest ++ tail) serializer refl (none_then (varint_in 2) manifest tail (none_present_varint 2 message.manifest) (refl, (refl, tt)))) in
    let third : unwrap_or (last_payload 3 bytes) [] ≡ message.manifest =
    ap (λ (fs : List FieldOf). unwrap_or (last_picked (bytes_in 3) fs) []) fields ∙ present_again head tail message.manifest (refl, (refl, tt)) (refl, (refl, tt)) in
    let early : head ++ (manifest ++ tail) ≡ (head ++ manifest) ++ (uint_field 4 n ∷ unique_field 5 reply_to ∷ []) = simp append_assoc in
    let fourth : number_at paths.Message 4 bytes ≡ Ok n =
    number_again paths.Message 4 bytes n (ap (last_picked (varint_in 4)) (fields ∙ early) ∙ last_at (varint_in 4) (head ++ manifest) (uint_field 4 n) (unique_field 5 reply_to ∷ []) n refl (refl, tt)) in
    let late : head ++ (manifest ++ tail) ≡ (head ++ (manifest ++ uint_field 4 n ∷ [])) ++ (unique_field 5 reply_to ∷ []) = simp append_assoc in
    let fifth : unique_at paths.Message 5 bytes ≡ Ok reply_to =
    unique_again w paths.Message 5 bytes reply_to (record {
      before = head ++ (manifest ++ uint_field 4 n ∷ []);
      after = [];
      parts = fields ∙ late;
      here = refl;
      none = (refl, (refl, none_then (bytes_in 5) manifest (uint_field 4 n ∷ []) (none_present 5 message.manifest refl) (refl, tt)));
      none_after = tt;
    }) is in
    let whole : cast_signed w32 (serializer % 2 ^ 32) ≡ message.serializer = int_again message.serializer int in
    rw (first, second, fourth, fifth, third, whole) refl

again : Laws → (control : Control) → IsValid control → AreWritable (control_fields control) → message_of (letter_of control ∷ []) (payload_of control) ≡ Ok control
unfolding message_in quarantined_in request_in answer_in refs_table_in refs_ack_in manifests_table_in manifests_ack_in counted_in
again w (controls.Quarantined from to) is fits =
    let bytes : List ℕ = payload_of (controls.Quarantined from to) in
    let fields : fields_in bytes ≡ unique_field 1 from ∷ unique_field 2 to ∷ [] = fields_again w _ fits in
    let first : unique_at paths.Message 1 bytes ≡ Ok from =
    unique_again w paths.Message 1 bytes from (record { before = []; after = unique_field 2 to ∷ []; parts = fields; here = refl; none = tt; none_after = (refl, tt) }) is.0 in
    let second : unique_at paths.Message 2 bytes ≡ Ok to =
    unique_again w paths.Message 2 bytes to (record { before = unique_field 1 from ∷ []; after = []; parts = fields; here = refl; none = (refl, tt); none_after = tt }) is.1 in
    starts w (controls.Quarantined from to) 97 refl fits (rw (first, second) refl)
again w (controls.Terminating from) is fits =
    let bytes : List ℕ = payload_of (controls.Terminating from) in
    let first : unique_at paths.Message 1 bytes ≡ Ok from =
    unique_again w paths.Message 1 bytes from (record { before = []; after = []; parts = fields_again w _ fits; here = refl; none = tt; none_after = tt }) is in
    starts w (controls.Terminating from) 98 refl fits (rw first refl)
again w (controls.TerminatingAck from) is fits =
    let bytes : List ℕ = payload_of (controls.TerminatingAck from) in
    let first : unique_at paths.Message 1 bytes ≡ Ok from =
    unique_again w paths.Message 1 bytes from (record { before = []; after = []; parts = fields_again w _ fits; here = refl; none = tt; none_after = tt }) is in
    starts w (controls.TerminatingAck from) 99 refl fits (rw first refl)
again w (controls.HandshakeReq from to nonce) is fits =
    let bytes : List ℕ = payload_of (controls.HandshakeReq from to nonce) in
    let fields : fields_in bytes ≡ unique_field 1 from ∷ bytes_field 2 (address_bytes to) ∷ optional_field 15 nonce = fields_again w _ fits in
    let first : unique_at paths.Message 1 bytes ≡ Ok from =
    unique_again w paths.Message 1 bytes from (record { before = []; after = bytes_field 2 (address_bytes to) ∷ optional_field 15 nonce; parts = fields; here = refl; none = tt; none_after = (refl, none_bytes 1 15 nonce) }) is.0 in
    let second : address_at paths.Message 2 bytes ≡ Ok to =
    address_again w paths.Message 2 bytes to (record { before = unique_field 1 from ∷ []; after = optional_field 15 nonce; parts = fields; here = refl; none = (refl, tt); none_after = none_bytes 2 15 nonce }) is.1 in
    let last : last_number 15 bytes ≡ nonce =
    ap (last_picked (varint_in 15)) fields ∙ last_optional 15 (unique_field 1 from ∷ bytes_field 2 (address_bytes to) ∷ []) nonce refl (refl, (refl, tt)) in
    starts w (controls.HandshakeReq from to nonce) 100 refl fits (rw (first, second, last) refl)
again w (controls.HandshakeRsp from for_uid nonce) is fits =
    let bytes : List ℕ = payload_of (controls.HandshakeRsp from for_uid nonce) in
    let fields : fields_in bytes ≡ unique_field 1 from ∷ (optional_field 14 for_uid ++ optional_field 15 nonce) = fields_again w _ fits in
    let first : unique_at paths.Message 1 bytes ≡ Ok from =
    unique_again w paths.Message 1 bytes from (record {
      before = [];
      after = optional_field 14 for_uid ++ optional_field 15 nonce;
      parts = fields;
      here = refl;
      none = tt;
      none_after = none_then (bytes_in 1) (optional_field 14 for_uid) (optional_field 15 nonce) (none_bytes 1 14 for_uid) (none_bytes 1 15 nonce);
    }) is.0 in
    let second : last_number 14 bytes ≡ for_uid =
    ap (last_picked (varint_in 14)) fields ∙ last_optional_then 14 (unique_field 1 from ∷ []) (optional_field 15 nonce) for_uid refl (refl, tt) (none_varint 14 15 nonce refl) in
    let last : last_number 15 bytes ≡ nonce =
    ap (last_picked (varint_in 15)) fields ∙ last_optional 15 (unique_field 1 from ∷ optional_field 14 for_uid) nonce refl (refl, none_varint 15 14 for_uid refl) in
    starts w (controls.HandshakeRsp from for_uid nonce) 101 refl fits (rw (first, second, last) refl)
again w (controls.RefsTable from origin version keys values sequence) is fits =
    starts w (controls.RefsTable from origin version keys values sequence) 102 refl fits (rw (table_again w from origin version keys values sequence is.0 is.2 is.3 fits) refl)
again w (controls.RefsAck from version sequence) is fits =
    starts w (controls.RefsAck from version sequence) 103 refl fits (rw (table_ack_again w from version sequence is.0 is.1 fits) refl)
again w (controls.ManifestsTable from origin version keys values sequence) is fits =
    starts w (controls.ManifestsTable from origin version keys values sequence) 104 refl fits (rw (table_again w from origin version keys values sequence is.0 is.2 is.3 fits) refl)
again w (controls.ManifestsAck from version sequence) is fits =
    starts w (controls.ManifestsAck from version sequence) 105 refl fits (rw (table_ack_again w from version sequence is.0 is.1 fits) refl)
again w (controls.Numbered n message reply_to) is fits =
    starts w (controls.Numbered n message reply_to) 106 refl fits (numbered_again w n message reply_to is.2 is.1.serializer fits)
again w (controls.Ack n from) is fits =
    let bytes : List ℕ = payload_of (controls.Ack n from) in
    let fields : fields_in bytes ≡ uint_field 1 n ∷ unique_field 2 from ∷ [] = fields_again w _ fits in
    let number : number_at paths.Message 1 bytes ≡ Ok n = number_again paths.Message 1 bytes n (ap (last_picked (varint_in 1)) fields) in
    let second : unique_at paths.Message 2 bytes ≡ Ok from =
    unique_again w paths.Message 2 bytes from (record { before = uint_field 1 n ∷ []; after = []; parts = fields; here = refl; none = (refl, tt); none_after = tt }) is.1 in
    starts w (controls.Ack n from) 107 refl fits (rw (number, second) refl)
again w (controls.Nack n from) is fits =
    let bytes : List ℕ = payload_of (controls.Nack n from) in
    let fields : fields_in bytes ≡ uint_field 1 n ∷ unique_field 2 from ∷ [] = fields_again w _ fits in
    let number : number_at paths.Message 1 bytes ≡ Ok n = number_again paths.Message 1 bytes n (ap (last_picked (varint_in 1)) fields) in
    let second : unique_at paths.Message 2 bytes ≡ Ok from =
    unique_again w paths.Message 2 bytes from (record { before = uint_field 1 n ∷ []; after = []; parts = fields; here = refl; none = (refl, tt); none_after = tt }) is.1 in
    starts w (controls.Nack n from) 108 refl fits (rw (number, second) refl)
again w controls.Heartbeat is fits = starts w controls.Heartbeat 109 refl fits refl
again w (controls.HeartbeatRsp uid) is fits =
    let bytes : List ℕ = payload_of (controls.HeartbeatRsp uid) in
    let fields : fields_in bytes ≡ uint_field 1 uid ∷ [] = fields_again w _ fits in
    let number : number_at paths.Message 1 bytes ≡ Ok uid = number_again paths.Message 1 bytes uid (ap (last_picked (varint_in 1)) fields) in
    starts w (controls.HeartbeatRsp uid) 110 refl fits (rw number refl)

pub message_again : WrittenIsRead → VarintIsWritten → VarintIsShortest → WrittenIsReadAgain
message_again read written shortest control is =
    let w : Laws = record { read = read; varints = record { written = written; shortest = shortest } } in
    again w control is (writable w.varints control is)
