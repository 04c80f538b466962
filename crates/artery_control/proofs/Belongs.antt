-- A message is read exactly where it belongs together with the manifest and the payload.
use Rattle.std.proofs.Common.{◌≡◌, ℕ, Bool, true, false, cond, eqb, List, [], ◌∷◌, length, Option, Some, Ok, refl, sym, ap, subst, ◌∙◌, arith}
use Rattle.std.specs.Option.{unwrap_or}
use Rattle.std.specs.Int.{w32, cast_signed}
use Rattle.std.proofs.lemmas.Bool.{eqb-true, eq-eqb}
use Rattle.artery_base.specs.declared.address.UniqueAddress.{UniqueAddress}
use Rattle.artery_base.specs.declared.message.SysMsg.{SysMsg}
use Rattle.artery_base.specs.Valid.{IsUniqueAddress}
use Rattle.artery_wire.specs.Record.{FieldOf}
use Rattle.artery_wire.specs.Laws.{FieldsAreRead, FaultIsRead, NumbersAreRead}
use Rattle.artery_control.specs.declared.control.Control.{Control}
use Rattle.artery_control.specs.declared.control.Control.TheVariants as controls
use Rattle.artery_control.specs.declared.reading.Table.{Table}
use Rattle.artery_control.specs.declared.reading.TableAck.{TableAck}
use Rattle.artery_control.specs.declared.reading.Counted.{Counted}
use Rattle.artery_control.specs.declared.fault.ControlFault.{ControlFault}
use Rattle.artery_control.specs.declared.fault.ControlFault.TheVariants as faults
use Rattle.artery_control.specs.declared.path.Path.TheVariants as paths
use Rattle.artery_base.specs.Words.{◌>>=◌}
use Rattle.artery_control.specs.Outcome.{to_field}
use Rattle.artery_control.specs.Picking.{fields_in, varint_in, bytes_in, last_number, last_payload, required, sound}
use Rattle.artery_control.specs.Message.{low32, number_at, ranged_at, address_at, unique_at, sequence_at, keys_at, values_at, equally_many, table_in, table_ack_in, quarantined_in, terminating_in, terminating_ack_in, request_in, answer_in, system_message_of, numbered_in, counted_in, ack_in, nack_in, heartbeat_answer_in, refs_table_in, refs_ack_in, manifests_table_in, manifests_ack_in, message_in, is_letter, message_of}
use Rattle.artery_control.specs.Payload.{letter_of}
use Rattle.artery_control.specs.Valid.{IsNumber, IsVersion, IsTable, IsSystemMessage, IsValid}
use Rattle.artery_control.specs.Belonging.{TellsTable, TellsTableAck, TellsSystemMessage, Tells, HasUnique, IsLast, BelongTogether, BelongingIsRead, ReadIsValid}
use Rattle.artery_control.proofs.Steps.{Read, ok, bad, ok_same, cond_ok, required_ok, bind_ok, one_ok, two_ok, three_ok, four_ok, three_then}
use Rattle.artery_control.proofs.Picks.{last_is, last_from, may_is, may_from}
use Rattle.artery_control.proofs.Fits.{all_fit, number_fits, payload_fits, optional_fits, manifest_fits}
use Rattle.artery_control.proofs.Merging.{fields_are, sound_is, sound_from}
use Rattle.artery_control.proofs.Told.{number_is, number_from, ranged_is, ranged_from, address_is, address_from, unique_is, unique_from, sequence_is, sequence_from, version_small, keys_are, keys_from, values_are, values_from, signed_fits}

record Laws : Type 0 where
  pub whole : FieldsAreRead
  pub faulty : FaultIsRead
  pub packed : NumbersAreRead

-- ---- tables

abbrev IsReadTable : List FieldOf → Table → Type 0
IsReadTable fs t =
    TellsTable t.from t.origin_uid t.version t.keys t.values t.sequence fs × IsUniqueAddress t.from × IsNumber t.origin_uid × IsVersion t.version t.sequence × IsTable t.keys t.values

table_is : Laws → (bytes : List ℕ) (t : Table) → table_in bytes ≡ Ok t → IsReadTable (fields_in bytes) t
unfolding table_in
table_is w bytes t e =
    let fs : List FieldOf = fields_in bytes in
    let made : UniqueAddress → ℕ → ℕ → List (List ℕ) → List ℕ → Option ℕ → Table =
    λ from origin version keys values sequence. record { from = from; origin_uid = origin; version = version; keys = keys; values = values; sequence = sequence } in
    let first = three_then (unique_at paths.Message 1 bytes) (number_at paths.Message 2 bytes) (ranged_at paths.Message 3 0 255 bytes)
    (λ from origin version. keys_at paths.Message 4 bytes >>= λ keys. values_at paths.Message 5 bytes >>= λ values. sequence_at paths.Message 6 version bytes >>= λ sequence. equally_many (made from origin version keys values sequence))
    t e in
    let then = three_then (keys_at paths.Message 4 bytes) (values_at paths.Message 5 bytes) (sequence_at paths.Message 6 first.2 bytes)
    (λ keys values sequence. equally_many (made first.0 first.1 first.2 keys values sequence))
    t first.6 in
    let whole : Table = made first.0 first.1 first.2 then.0 then.1 then.2 in
    let last = cond_ok (eqb (length whole.keys) (length whole.values)) whole t (faults.Unequal (length whole.keys) (length whole.values)) then.6 in
    let from = unique_is w.whole w.faulty paths.Message 1 bytes first.0 first.3 in
    let origin = number_is paths.Message 2 bytes first.1 first.4 in
    let version = ranged_is paths.Message 3 0 255 bytes first.2 first.5 in
    let keys = keys_are paths.Message 4 bytes then.0 then.3 in
    let values = values_are w.packed paths.Message 5 bytes then.1 then.4 in
    let sequence = sequence_is paths.Message 6 first.2 bytes then.2 then.5 (all_fit w.whole w.faulty bytes) version.most_is in
    let tells : TellsTable whole.from whole.origin_uid whole.version whole.keys whole.values whole.sequence fs =
    record { from_is = from.0; origin_is = origin; version_is = version.low; keys_are = keys.0; values_are = values.0; sequence_is = sequence.0 } in
    let is : IsTable whole.keys whole.values = record { each_key = keys.1; each_value = values.1; equal = eqb-true _ _ last.0 } in
    subst (IsReadTable fs) last.1 (tells, from.1, number_fits 2 first.1 fs (all_fit w.whole w.faulty bytes) origin, sequence.1, is)

table_from : Laws → (bytes : List ℕ) (t : Table) → IsReadTable (fields_in bytes) t → table_in bytes ≡ Ok t
unfolding table_in
table_from w bytes t r =
    let tells = r.0 in
    let from : unique_at paths.Message 1 bytes ≡ Ok t.from = unique_from w.whole paths.Message 1 bytes t.from tells.from_is r.1 in
    let origin : number_at paths.Message 2 bytes ≡ Ok t.origin_uid = number_from paths.Message 2 bytes t.origin_uid tells.origin_is in
    let version : ranged_at paths.Message 3 0 255 bytes ≡ Ok t.version = ranged_from paths.Message 3 0 255 bytes t.version tells.version_is (omega arith) (version_small t.version t.sequence r.3) in
    let keys : keys_at paths.Message 4 bytes ≡ Ok t.keys = keys_from paths.Message 4 bytes t.keys tells.keys_are r.4.each_key in
    let values : values_at paths.Message 5 bytes ≡ Ok t.values = values_from w.packed paths.Message 5 bytes t.values tells.values_are r.4.each_value in
    let sequence : sequence_at paths.Message 6 t.version bytes ≡ Ok t.sequence = sequence_from paths.Message 6 t.version bytes t.sequence tells.sequence_is r.3 in
    let equal : eqb (length t.keys) (length t.values) ≡ true = eq-eqb _ _ r.4.equal in
    rw (from, origin, version, keys, values, sequence, equal) refl

abbrev IsReadAck : List FieldOf → TableAck → Type 0
IsReadAck fs t = TellsTableAck t.from t.version t.sequence fs × IsUniqueAddress t.from × IsVersion t.version t.sequence

table_ack_is : Laws → (bytes : List ℕ) (t : TableAck) → table_ack_in bytes ≡ Ok t → IsReadAck (fields_in bytes) t
unfolding table_ack_in
table_ack_is w bytes t e =
    let made : UniqueAddress → ℕ → Option ℕ → TableAck = λ from version sequence. record { from = from; version = version; sequence = sequence } in
    let s = three_ok (unique_at paths.Message 1 bytes) (ranged_at paths.Message 2 0 255 bytes) (λ version. sequence_at paths.Message 3 version bytes) made t e in
    let from = unique_is w.whole w.faulty paths.Message 1 bytes s.0 s.3 in
    let version = ranged_is paths.Message 2 0 255 bytes s.1 s.4 in
    let sequence = sequence_is paths.Message 3 s.1 bytes s.2 s.5 (all_fit w.whole w.faulty bytes) version.most_is in
    let tells : TellsTableAck s.0 s.1 s.2 (fields_in bytes) = record { from_is = from.0; version_is = version.low; sequence_is = sequence.0 } in
    subst (IsReadAck (fields_in bytes)) s.6 (tells, from.1, sequence.1)

table_ack_from : Laws → (bytes : List ℕ) (t : TableAck) → IsReadAck (fields_in bytes) t → table_ack_in bytes ≡ Ok t
unfolding table_ack_in
table_ack_from w bytes t r =
    let from : unique_at paths.Message 1 bytes ≡ Ok t.from = unique_from w.whole paths.Message 1 bytes t.from r.0.from_is r.1 in
    let version : ranged_at paths.Message 2 0 255 bytes ≡ Ok t.version = ranged_from paths.Message 2 0 255 bytes t.version r.0.version_is (omega arith) (version_small t.version t.sequence r.2) in
    let sequence : sequence_at paths.Message 3 t.version bytes ≡ Ok t.sequence = sequence_from paths.Message 3 t.version bytes t.sequence r.0.sequence_is r.2 in
    rw (from, version, sequence) refl

-- ---- counted messages

abbrev IsReadCounted : List FieldOf → Counted → Type 0
IsReadCounted fs t = IsLast (varint_in 1) t.n fs × HasUnique 2 t.from fs × IsNumber t.n × IsUniqueAddress t.from

counted_is : Laws → (bytes : List ℕ) (t : Counted) → counted_in bytes ≡ Ok t → IsReadCounted (fields_in bytes) t
unfolding counted_in
counted_is w bytes t e =
    let made : ℕ → UniqueAddress → Counted = λ n from. record { n = n; from = from } in
    let s = two_ok (number_at paths.Message 1 bytes) (unique_at paths.Message 2 bytes) made t e in
    let n = number_is paths.Message 1 bytes s.0 s.2 in
    let from = unique_is w.whole w.faulty paths.Message 2 bytes s.1 s.3 in
    subst (IsReadCounted (fields_in bytes)) s.4 (n, from.0, number_fits 1 s.0 (fields_in bytes) (all_fit w.whole w.faulty bytes) n, from.1)

counted_from : Laws → (bytes : List ℕ) (t : Counted) → IsReadCounted (fields_in bytes) t → counted_in bytes ≡ Ok t
unfolding counted_in
counted_from w bytes t r =
    let n : number_at paths.Message 1 bytes ≡ Ok t.n = number_from paths.Message 1 bytes t.n r.0 in
    let from : unique_at paths.Message 2 bytes ≡ Ok t.from = unique_from w.whole paths.Message 2 bytes t.from r.1 r.3 in
    rw (n, from) refl

-- ---- messages

-- a message of this letter that these fields tell, and which is valid
abbrev IsReadMessage : ℕ → List FieldOf → Control → Type 0
IsReadMessage letter fs c = (letter ≡ letter_of c) × Tells c fs × IsValid c

quarantined_is : Laws → (bytes : List ℕ) (c : Control) → quarantined_in bytes ≡ Ok c → IsReadMessage 97 (fields_in bytes) c
unfolding quarantined_in
quarantined_is w bytes c e =
    let s = two_ok (unique_at paths.Message 1 bytes) (unique_at paths.Message 2 bytes) (λ from to. controls.Quarantined from to) c e in
    let from = unique_is w.whole w.faulty paths.Message 1 bytes s.0 s.2 in
    let to = unique_is w.whole w.faulty paths.Message 2 bytes s.1 s.3 in
    subst (IsReadMessage 97 (fields_in bytes)) s.4 (refl, (from.0, to.0), (from.1, to.1))

terminating_is : Laws → (bytes : List ℕ) (c : Control) → terminating_in bytes ≡ Ok c → IsReadMessage 98 (fields_in bytes) c
terminating_is w bytes c e =
    let s = one_ok (unique_at paths.Message 1 bytes) (λ from. controls.Terminating from) c e in
    let from = unique_is w.whole w.faulty paths.Message 1 bytes s.0 s.1 in
    subst (IsReadMessage 98 (fields_in bytes)) s.2 (refl, from.0, from.1)

terminating_ack_is : Laws → (bytes : List ℕ) (c : Control) → terminating_ack_in bytes ≡ Ok c → IsReadMessage 99 (fields_in bytes) c
terminating_ack_is w bytes c e =
    let s = one_ok (unique_at paths.Message 1 bytes) (λ from. controls.TerminatingAck from) c e in
    let from = unique_is w.whole w.faulty paths.Message 1 bytes s.0 s.1 in
    subst (IsReadMessage 99 (fields_in bytes)) s.2 (refl, from.0, from.1)

request_is : Laws → (bytes : List ℕ) (c : Control) → request_in bytes ≡ Ok c → IsReadMessage 100 (fields_in bytes) c
unfolding request_in
request_is w bytes c e =
    let fs : List FieldOf = fields_in bytes in
    let s = two_ok (unique_at paths.Message 1 bytes) (address_at paths.Message 2 bytes) (λ from to. controls.HandshakeReq from to (last_number 15 bytes)) c e in
    let from = unique_is w.whole w.faulty paths.Message 1 bytes s.0 s.2 in
    let to = address_is w.whole paths.Message 2 bytes s.1 s.3 in
    let nonce = may_is (varint_in 15) fs (last_number 15 bytes) refl in
    subst (IsReadMessage 100 fs) s.4 (refl, (from.0, to.0, nonce), (from.1, to.1, optional_fits 15 (last_number 15 bytes) fs (all_fit w.whole w.faulty bytes) nonce))

answer_is : Laws → (bytes : List ℕ) (c : Control) → answer_in bytes ≡ Ok c → IsReadMessage 101 (fields_in bytes) c
unfolding answer_in
answer_is w bytes c e =
    let fs : List FieldOf = fields_in bytes in
    let s = one_ok (unique_at paths.Message 1 bytes) (λ from. controls.HandshakeRsp from (last_number 14 bytes) (last_number 15 bytes)) c e in
    let from = unique_is w.whole w.faulty paths.Message 1 bytes s.0 s.1 in
    let for_uid = may_is (varint_in 14) fs (last_number 14 bytes) refl in
    let nonce = may_is (varint_in 15) fs (last_number 15 bytes) refl in
    let fits = all_fit w.whole w.faulty bytes in
    subst (IsReadMessage 101 fs) s.2 (refl, (from.0, for_uid, nonce), (from.1, optional_fits 14 (last_number 14 bytes) fs fits for_uid, optional_fits 15 (last_number 15 bytes) fs fits nonce))

refs_table_is : Laws → (bytes : List ℕ) (c : Control) → refs_table_in bytes ≡ Ok c → IsReadMessage 102 (fields_in bytes) c
unfolding refs_table_in
refs_table_is w bytes c e =
    let s = one_ok (table_in bytes) (λ t. controls.RefsTable t.from t.origin_uid t.version t.keys t.values t.sequence) c e in
    let t = table_is w bytes s.0 s.1 in
    subst (IsReadMessage 102 (fields_in bytes)) s.2 (refl, t.0, (t.1, t.2, t.3, t.4))

refs_ack_is : Laws → (bytes : List ℕ) (c : Control) → refs_ack_in bytes ≡ Ok c → IsReadMessage 103 (fields_in bytes) c
unfolding refs_ack_in
refs_ack_is w bytes c e =
    let s = one_ok (table_ack_in bytes) (λ t. controls.RefsAck t.from t.version t.sequence) c e in
    let t = table_ack_is w bytes s.0 s.1 in
    subst (IsReadMessage 103 (fields_in bytes)) s.2 (refl, t.0, (t.1, t.2))

manifests_table_is : Laws → (bytes : List ℕ) (c : Control) → manifests_table_in bytes ≡ Ok c → IsReadMessage 104 (fields_in bytes) c
unfolding manifests_table_in
manifests_table_is w bytes c e =
    let s = one_ok (table_in bytes) (λ t. controls.ManifestsTable t.from t.origin_uid t.version t.keys t.values t.sequence) c e in
    let t = table_is w bytes s.0 s.1 in
    subst (IsReadMessage 104 (fields_in bytes)) s.2 (refl, t.0, (t.1, t.2, t.3, t.4))

manifests_ack_is : Laws → (bytes : List ℕ) (c : Control) → manifests_ack_in bytes ≡ Ok c → IsReadMessage 105 (fields_in bytes) c
unfolding manifests_ack_in
manifests_ack_is w bytes c e =
    let s = one_ok (table_ack_in bytes) (λ t. controls.ManifestsAck t.from t.version t.sequence) c e in
    let t = table_ack_is w bytes s.0 s.1 in
    subst (IsReadMessage 105 (fields_in bytes)) s.2 (refl, t.0, (t.1, t.2))

numbered_is : Laws → (bytes : List ℕ) (c : Control) → numbered_in bytes ≡ Ok c → IsReadMessage 106 (fields_in bytes) c
unfolding numbered_in
numbered_is w bytes c e =
    let fs : List FieldOf = fields_in bytes in
    let fits = all_fit w.whole w.faulty bytes in
    let manifest : Option (List ℕ) = last_payload 3 bytes in
    let s = four_ok (required (to_field paths.Message 1) (last_payload 1 bytes)) (number_at paths.Message 2 bytes) (number_at paths.Message 4 bytes) (unique_at paths.Message 5 bytes)
    (λ payload serializer n reply_to. controls.Numbered n (system_message_of serializer manifest payload) reply_to) c e in
    let payload = last_is (bytes_in 1) fs s.0 (required_ok (to_field paths.Message 1) (last_payload 1 bytes) s.0 s.4) in
    let serializer = number_is paths.Message 2 bytes s.1 s.5 in
    let n = number_is paths.Message 4 bytes s.2 s.6 in
    let reply_to = unique_is w.whole w.faulty paths.Message 5 bytes s.3 s.7 in
    let there = may_is (bytes_in 3) fs manifest refl in
    let message : SysMsg = system_message_of s.1 manifest s.0 in
    let tells : TellsSystemMessage message fs = record { payload = payload; serializer = (s.1, serializer, refl); manifest = (manifest, there, refl) } in
    let is : IsSystemMessage message = record { serializer = signed_fits s.1; manifest = manifest_fits 3 manifest fs fits there; payload = payload_fits 1 s.0 fs fits payload } in
    subst (IsReadMessage 106 fs) s.8 (refl, (tells, n, reply_to.0), (number_fits 4 s.2 fs fits n, is, reply_to.1))

ack_is : Laws → (bytes : List ℕ) (c : Control) → ack_in bytes ≡ Ok c → IsReadMessage 107 (fields_in bytes) c
ack_is w bytes c e =
    let s = one_ok (counted_in bytes) (λ t. controls.Ack t.n t.from) c e in
    let t = counted_is w bytes s.0 s.1 in
    subst (IsReadMessage 107 (fields_in bytes)) s.2 (refl, (t.0, t.1), (t.2, t.3))

nack_is : Laws → (bytes : List ℕ) (c : Control) → nack_in bytes ≡ Ok c → IsReadMessage 108 (fields_in bytes) c
nack_is w bytes c e =
    let s = one_ok (counted_in bytes) (λ t. controls.Nack t.n t.from) c e in
    let t = counted_is w bytes s.0 s.1 in
    subst (IsReadMessage 108 (fields_in bytes)) s.2 (refl, (t.0, t.1), (t.2, t.3))

heartbeat_is : (bytes : List ℕ) (c : Control) → ok controls.Heartbeat ≡ Ok c → IsReadMessage 109 (fields_in bytes) c
heartbeat_is bytes c e = subst (IsReadMessage 109 (fields_in bytes)) (ok_same controls.Heartbeat c e) (refl, tt, tt)

heartbeat_answer_is : Laws → (bytes : List ℕ) (c : Control) → heartbeat_answer_in bytes ≡ Ok c → IsReadMessage 110 (fields_in bytes) c
heartbeat_answer_is w bytes c e =
    let s = one_ok (number_at paths.Message 1 bytes) (λ uid. controls.HeartbeatRsp uid) c e in
    let uid = number_is paths.Message 1 bytes s.0 s.1 in
    subst (IsReadMessage 110 (fields_in bytes)) s.2 (refl, uid, number_fits 1 s.0 (fields_in bytes) (all_fit w.whole w.faulty bytes) uid)

-- the message of this letter, or of one of the others
chosen : {P : Type 0} (b : Bool) (x y : Read Control) (c : Control) → cond b x y ≡ Ok c → (b ≡ true → x ≡ Ok c → P) → (y ≡ Ok c → P) → P
chosen true x y c e f g = f refl e
chosen false x y c e f g = g e

choose : {P : Type 0} (letter one : ℕ) (x y : Read Control) (c : Control) → cond (eqb letter one) x y ≡ Ok c → (letter ≡ one → x ≡ Ok c → P) → (y ≡ Ok c → P) → P
choose letter one x y c e f g = chosen (eqb letter one) x y c e (λ h. f (eqb-true letter one h)) g

of_letter : (letter one : ℕ) (fs : List FieldOf) (c : Control) → letter ≡ one → IsReadMessage one fs c → IsReadMessage letter fs c
of_letter letter one fs c e r = (e ∙ r.0, r.1, r.2)

message_is : Laws → (letter : ℕ) (bytes : List ℕ) (c : Control) → message_in letter bytes ≡ Ok c → IsReadMessage letter (fields_in bytes) c
unfolding message_in
message_is w letter bytes c e =
    let fs : List FieldOf = fields_in bytes in
    choose letter 97 (quarantined_in bytes) _ c e (λ l h. of_letter letter 97 fs c l (quarantined_is w bytes c h)) (λ e.
    choose letter 98 (terminating_in bytes) _ c e (λ l h. of_letter letter 98 fs c l (terminating_is w bytes c h)) (λ e.
    choose letter 99 (terminating_ack_in bytes) _ c e (λ l h. of_letter letter 99 fs c l (terminating_ack_is w bytes c h)) (λ e.
    choose letter 100 (request_in bytes) _ c e (λ l h. of_letter letter 100 fs c l (request_is w bytes c h)) (λ e.
    choose letter 101 (answer_in bytes) _ c e (λ l h. of_letter letter 101 fs c l (answer_is w bytes c h)) (λ e.
    choose letter 102 (refs_table_in bytes) _ c e (λ l h. of_letter letter 102 fs c l (refs_table_is w bytes c h)) (λ e.
    choose letter 103 (refs_ack_in bytes) _ c e (λ l h. of_letter letter 103 fs c l (refs_ack_is w bytes c h)) (λ e.
    choose letter 104 (manifests_table_in bytes) _ c e (λ l h. of_letter letter 104 fs c l (manifests_table_is w bytes c h)) (λ e.
    choose letter 105 (manifests_ack_in bytes) _ c e (λ l h. of_letter letter 105 fs c l (manifests_ack_is w bytes c h)) (λ e.
    choose letter 106 (numbered_in bytes) _ c e (λ l h. of_letter letter 106 fs c l (numbered_is w bytes c h)) (λ e.
    choose letter 107 (ack_in bytes) _ c e (λ l h. of_letter letter 107 fs c l (ack_is w bytes c h)) (λ e.
    choose letter 108 (nack_in bytes) _ c e (λ l h. of_letter letter 108 fs c l (nack_is w bytes c h)) (λ e.
    choose letter 109 (ok controls.Heartbeat) _ c e (λ l h. of_letter letter 109 fs c l (heartbeat_is bytes c h)) (λ e.
    choose letter 110 (heartbeat_answer_in bytes) (bad faults.UnknownManifest) c e (λ l h. of_letter letter 110 fs c l (heartbeat_answer_is w bytes c h)) (λ e. absurd cc))))))))))))))

-- ---- and the other way round

message_from : Laws → (c : Control) (bytes : List ℕ) → Tells c (fields_in bytes) → IsValid c → message_in (letter_of c) bytes ≡ Ok c
unfolding message_in quarantined_in request_in answer_in refs_table_in refs_ack_in manifests_table_in manifests_ack_in numbered_in
message_from w (controls.Quarantined from to) bytes t v =
    let first : unique_at paths.Message 1 bytes ≡ Ok from = unique_from w.whole paths.Message 1 bytes from t.0 v.0 in
    let second : unique_at paths.Message 2 bytes ≡ Ok to = unique_from w.whole paths.Message 2 bytes to t.1 v.1 in
    rw (first, second) refl
message_from w (controls.Terminating from) bytes t v =
    let first : unique_at paths.Message 1 bytes ≡ Ok from = unique_from w.whole paths.Message 1 bytes from t v in
    rw first refl
message_from w (controls.TerminatingAck from) bytes t v =
    let first : unique_at paths.Message 1 bytes ≡ Ok from = unique_from w.whole paths.Message 1 bytes from t v in
    rw first refl
message_from w (controls.HandshakeReq from to nonce) bytes t v =
    let first : unique_at paths.Message 1 bytes ≡ Ok from = unique_from w.whole paths.Message 1 bytes from t.0 v.0 in
    let second : address_at paths.Message 2 bytes ≡ Ok to = address_from w.whole paths.Message 2 bytes to t.1 v.1 in
    let last : last_number 15 bytes ≡ nonce = may_from (varint_in 15) (fields_in bytes) nonce t.2 in
    rw (first, second, last) refl
message_from w (controls.HandshakeRsp from for_uid nonce) bytes t v =
    let first : unique_at paths.Message 1 bytes ≡ Ok from = unique_from w.whole paths.Message 1 bytes from t.0 v.0 in
    let second : last_number 14 bytes ≡ for_uid = may_from (varint_in 14) (fields_in bytes) for_uid t.1 in
    let last : last_number 15 bytes ≡ nonce = may_from (varint_in 15) (fields_in bytes) nonce t.2 in
    rw (first, second, last) refl
message_from w (controls.RefsTable from origin version keys values sequence) bytes t v =
    let table : table_in bytes ≡ Ok (record { from = from; origin_uid = origin; version = version; keys = keys; values = values; sequence = sequence }) =
    table_from w bytes (record { from = from; origin_uid = origin; version = version; keys = keys; values = values; sequence = sequence }) (t, v.0, v.1, v.2, v.3) in
    rw table refl
message_from w (controls.RefsAck from version sequence) bytes t v =
    let ack : table_ack_in bytes ≡ Ok (record { from = from; version = version; sequence = sequence }) =
    table_ack_from w bytes (record { from = from; version = version; sequence = sequence }) (t, v.0, v.1) in
    rw ack refl
message_from w (controls.ManifestsTable from origin version keys values sequence) bytes t v =
    let table : table_in bytes ≡ Ok (record { from = from; origin_uid = origin; version = version; keys = keys; values = values; sequence = sequence }) =
    table_from w bytes (record { from = from; origin_uid = origin; version = version; keys = keys; values = values; sequence = sequence }) (t, v.0, v.1, v.2, v.3) in
    rw table refl
message_from w (controls.ManifestsAck from version sequence) bytes t v =
    let ack : table_ack_in bytes ≡ Ok (record { from = from; version = version; sequence = sequence }) =
    table_ack_from w bytes (record { from = from; version = version; sequence = sequence }) (t, v.0, v.1) in
    rw ack refl
message_from w (controls.Numbered n message reply_to) bytes t v =
    let fs : List FieldOf = fields_in bytes in
    let payload : last_payload 1 bytes ≡ Some message.payload = last_from (bytes_in 1) fs message.payload t.0.payload in
    let serializer : number_at paths.Message 2 bytes ≡ Ok t.0.serializer.0 = number_from paths.Message 2 bytes t.0.serializer.0 t.0.serializer.1 in
    let number : number_at paths.Message 4 bytes ≡ Ok n = number_from paths.Message 4 bytes n t.1 in
    let last : unique_at paths.Message 5 bytes ≡ Ok reply_to = unique_from w.whole paths.Message 5 bytes reply_to t.2 v.2 in
    let there : last_payload 3 bytes ≡ t.0.manifest.0 = may_from (bytes_in 3) fs t.0.manifest.0 t.0.manifest.1 in
    let signed : cast_signed w32 (low32 t.0.serializer.0) ≡ message.serializer = sym t.0.serializer.2 in
    let manifest : unwrap_or t.0.manifest.0 [] ≡ message.manifest = sym t.0.manifest.2 in
    rw (payload, serializer, number, last, there, signed, manifest) refl
message_from w (controls.Ack n from) bytes t v =
    let counted : counted_in bytes ≡ Ok (record { n = n; from = from }) = counted_from w bytes (record { n = n; from = from }) (t.0, t.1, v.0, v.1) in
    rw counted refl
message_from w (controls.Nack n from) bytes t v =
    let counted : counted_in bytes ≡ Ok (record { n = n; from = from }) = counted_from w bytes (record { n = n; from = from }) (t.0, t.1, v.0, v.1) in
    rw counted refl
message_from w controls.Heartbeat bytes t v = refl
message_from w (controls.HeartbeatRsp uid) bytes t v =
    let number : number_at paths.Message 1 bytes ≡ Ok uid = number_from paths.Message 1 bytes uid t in
    rw number refl

letter_fine : (c : Control) → is_letter (letter_of c) ≡ true
letter_fine (controls.Quarantined from to) = refl
letter_fine (controls.Terminating from) = refl
letter_fine (controls.TerminatingAck from) = refl
letter_fine (controls.HandshakeReq from to _) = refl
letter_fine (controls.HandshakeRsp from for_uid _) = refl
letter_fine (controls.RefsTable from origin version keys values sequence) = refl
letter_fine (controls.RefsAck from version sequence) = refl
letter_fine (controls.ManifestsTable from origin version keys values sequence) = refl
letter_fine (controls.ManifestsAck from version sequence) = refl
letter_fine (controls.Numbered n message reply_to) = refl
letter_fine (controls.Ack n from) = refl
letter_fine (controls.Nack n from) = refl
letter_fine controls.Heartbeat = refl
letter_fine (controls.HeartbeatRsp uid) = refl

-- ---- the law

cond_left : (b : Bool) (x : Read Control) (fault : ControlFault) (c : Control) → cond b x (bad fault) ≡ Ok c → (b ≡ true) × (x ≡ Ok c)
cond_left true x fault c e = (refl, e)
cond_left false x fault c e = absurd cc

read_belongs : Laws → (c : Control) (manifest bytes : List ℕ) → message_of manifest bytes ≡ Ok c → BelongTogether c manifest bytes
read_belongs w c [] bytes e = absurd cc
read_belongs w c (letter ∷ []) bytes e =
    let b = cond_left (is_letter letter) (sound paths.Message bytes >>= λ _. message_in letter bytes) faults.UnknownManifest c e in
    let s = bind_ok (sound paths.Message bytes) (λ _. message_in letter bytes) c b.1 in
    let m = message_is w letter bytes c s.2 in
    record {
      letter = ap (λ (t : ℕ). t ∷ []) m.0;
      fields = fields_in bytes;
      stand = sound_is w.whole paths.Message bytes s.1;
      told = m.1;
      valid = m.2;
    }
read_belongs w c (letter ∷ more ∷ rest) bytes e = absurd cc

belongs_read : Laws → (c : Control) (manifest bytes : List ℕ) → BelongTogether c manifest bytes → message_of manifest bytes ≡ Ok c
belongs_read w c manifest bytes b =
    let same : fields_in bytes ≡ b.fields = fields_are w.whole b.fields bytes b.stand in
    let told : Tells c (fields_in bytes) = subst (Tells c) (sym same) b.told in
    ap (λ (m : List ℕ). message_of m bytes) b.letter
    ∙ ap (λ (t : Bool). cond t (sound paths.Message bytes >>= λ _. message_in (letter_of c) bytes) (bad faults.UnknownManifest)) (letter_fine c)
    ∙ ap (λ (r : Read (Unit {0})). r >>= λ _. message_in (letter_of c) bytes) (sound_from w.whole paths.Message b.fields bytes b.stand)
    ∙ message_from w c bytes told b.valid

pub belonging : FieldsAreRead → FaultIsRead → NumbersAreRead → BelongingIsRead
belonging whole faulty packed control manifest bytes =
    let w : Laws = record { whole = whole; faulty = faulty; packed = packed } in
    (λ b. belongs_read w control manifest bytes b, λ e. read_belongs w control manifest bytes e)

pub valid : FieldsAreRead → FaultIsRead → NumbersAreRead → ReadIsValid
valid whole faulty packed control manifest bytes e =
    let w : Laws = record { whole = whole; faulty = faulty; packed = packed } in
    (read_belongs w control manifest bytes e).valid
