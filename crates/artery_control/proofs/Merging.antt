-- Embedded messages and repeated numbers, whose occurrences are merged.
use Rattle.std.proofs.Common.{◌≡◌, ℕ, Bool, true, false, cond, eqb, List, [], ◌∷◌, ◌++◌, map, Option, Some, None, Ok, refl, sym, ap, subst, ◌∙◌, append_assoc}
use Rattle.std.specs.Option.{unwrap_or}
use Rattle.std.specs.List.{flat_map}
use Rattle.std.proofs.lemmas.List.Concat.{flat_map-cons}
use Rattle.artery_wire.specs.declared.fault.WireFault.{WireFault}
use Rattle.artery_wire.specs.Record.{ValueOf, Varint, Fixed64, Bytes, Fixed32, FieldOf, StandFor, ArePacked}
use Rattle.artery_wire.specs.Reading.{fields_of, numbers_of}
use Rattle.artery_wire.specs.Laws.{FieldsAreRead, NumbersAreRead}
use Rattle.artery_control.specs.declared.path.Path.{Path}
use Rattle.artery_base.specs.Words.{◌>>=◌}
use Rattle.artery_control.specs.Outcome.{to_field}
use Rattle.artery_control.specs.Picking.{fields_in, bytes_value, bytes_in, last_payload, required, well_formed, sound, packed_sound, where_present, each_payload, joined, embedded}
use Rattle.artery_control.specs.Message.{low32, numbers_in, repeated_in}
use Rattle.artery_control.specs.Belonging.{GivesValues, AreValues, IsOccurrence, AreMerged, IsEmbedded}
use Rattle.artery_control.proofs.Steps.{Read, bind_ok, required_ok, ok_same}
use Rattle.artery_control.proofs.Picks.{last_is, last_from}

-- ---- records

pub fields_are : FieldsAreRead → (fs : List FieldOf) (bytes : List ℕ) → StandFor fs bytes → fields_in bytes ≡ fs
fields_are w fs bytes s = ap (λ (r : List FieldOf × Option WireFault). r.0) ((w fs bytes).0 s)

well_formed_is : (path : Path) (o : Option WireFault) → well_formed path o ≡ Ok tt → o ≡ None
well_formed_is path None e = refl
well_formed_is path (Some fault) e = absurd cc

pub sound_is : FieldsAreRead → (path : Path) (bytes : List ℕ) → sound path bytes ≡ Ok tt → StandFor (fields_in bytes) bytes
unfolding sound
sound_is w path bytes e =
    (w (fields_in bytes) bytes).1 (ap (λ (o : Option WireFault). let r : List FieldOf × Option WireFault = (fields_in bytes, o) in r) (well_formed_is path (fields_of bytes).1 e))

pub sound_from : FieldsAreRead → (path : Path) (fs : List FieldOf) (bytes : List ℕ) → StandFor fs bytes → sound path bytes ≡ Ok tt
unfolding sound
sound_from w path fs bytes s = ap (λ (r : List FieldOf × Option WireFault). well_formed path r.1) ((w fs bytes).0 s)

stand_append : (fs gs : List FieldOf) (a b : List ℕ) → StandFor fs a → StandFor gs b → StandFor (fs ++ gs) (a ++ b)
stand_append [] gs a b s t = subst (λ (x : List ℕ). StandFor gs (x ++ b)) (sym s) t
stand_append (f ∷ fs) gs a b s t = (s.0, s.1 ++ b, ap (λ (x : List ℕ). x ++ b) s.2 ∙ append_assoc s.0 s.1 b, s.3, stand_append fs gs s.1 b s.4 t)

-- ---- embedded messages

occurrence_is : FieldsAreRead → (path : Path) (o : Option (List ℕ)) → where_present (sound path) o ≡ Ok tt → (part : List FieldOf) × IsOccurrence o part × StandFor part (unwrap_or o [])
occurrence_is w path None e = ([], refl, refl)
occurrence_is w path (Some payload) e = let s = sound_is w path payload e in (fields_in payload, s, s)

merged_is : FieldsAreRead → (path : Path) (k : ℕ) (fs : List FieldOf) → each_payload (sound path) k fs ≡ Ok tt → (inner : List FieldOf) × AreMerged k fs inner × StandFor inner (joined k fs)
unfolding each_payload joined
merged_is w path k [] e = ([], refl, refl)
merged_is w path k (f ∷ fs) e =
    let b = bind_ok (where_present (sound path) (bytes_in k f)) (λ _. each_payload (sound path) k fs) tt e in
    let one = occurrence_is w path (bytes_in k f) b.1 in
    let more = merged_is w path k fs b.2 in
    (one.0 ++ more.0, (one.0, more.0, refl, one.1, more.1), stand_append one.0 more.0 (unwrap_or (bytes_in k f) []) (joined k fs) one.2 more.2)

occurrence_from : FieldsAreRead → (path : Path) (o : Option (List ℕ)) (part : List FieldOf) → IsOccurrence o part → (where_present (sound path) o ≡ Ok tt) × StandFor part (unwrap_or o [])
occurrence_from w path None part is = (refl, subst (λ (t : List FieldOf). StandFor t []) (sym is) refl)
occurrence_from w path (Some payload) part is = (sound_from w path part payload is, is)

merged_from : FieldsAreRead → (path : Path) (k : ℕ) (fs inner : List FieldOf) → AreMerged k fs inner → (each_payload (sound path) k fs ≡ Ok tt) × StandFor inner (joined k fs)
unfolding each_payload joined
merged_from w path k [] inner m = (refl, subst (λ (t : List FieldOf). StandFor t []) (sym m) refl)
merged_from w path k (f ∷ fs) inner m =
    let one = occurrence_from w path (bytes_in k f) m.0 m.3 in
    let more = merged_from w path k fs m.1 m.4 in (
      ap (λ (r : Read (Unit {0})). r >>= λ _. each_payload (sound path) k fs) one.0 ∙ more.0,
      subst (λ (t : List FieldOf). StandFor t (unwrap_or (bytes_in k f) [] ++ joined k fs)) (sym m.2) (stand_append m.0 m.1 (unwrap_or (bytes_in k f) []) (joined k fs) one.1 more.1),
    )

pub embedded_is : FieldsAreRead → (path : Path) (k : ℕ) (bytes record_of : List ℕ) → embedded path k bytes ≡ Ok record_of → IsEmbedded k (fields_in record_of) (fields_in bytes)
unfolding embedded
embedded_is w path k bytes record_of e =
    let whole : List ℕ = joined k (fields_in bytes) in
    let b = bind_ok (required (to_field path k) (last_payload k bytes)) (λ _. each_payload (sound (to_field path k)) k (fields_in bytes) >>= λ _. Ok whole) record_of e in
    let c = bind_ok (each_payload (sound (to_field path k)) k (fields_in bytes)) (λ _. Ok whole) record_of b.2 in
    let m = merged_is w (to_field path k) k (fields_in bytes) c.1 in
    let same : fields_in record_of ≡ m.0 = ap fields_in (sym (ok_same whole record_of c.2)) ∙ fields_are w m.0 whole m.2 in
    record {
      last = b.0;
      there = last_is (bytes_in k) (fields_in bytes) b.0 (required_ok (to_field path k) (last_payload k bytes) b.0 b.1);
      merged = subst (λ (t : List FieldOf). AreMerged k (fields_in bytes) t) (sym same) m.1;
    }

pub embedded_from : FieldsAreRead → (path : Path) (k : ℕ) (bytes : List ℕ) (inner : List FieldOf) → IsEmbedded k inner (fields_in bytes)
    → (embedded path k bytes ≡ Ok (joined k (fields_in bytes))) × (fields_in (joined k (fields_in bytes)) ≡ inner)
unfolding embedded
embedded_from w path k bytes inner is =
    let last : last_payload k bytes ≡ Some is.last = last_from (bytes_in k) (fields_in bytes) is.last is.there in
    let m = merged_from w (to_field path k) k (fields_in bytes) inner is.merged in
    let each : each_payload (sound (to_field path k)) k (fields_in bytes) ≡ Ok tt = m.0 in
    (rw (last, each) refl, fields_are w inner (joined k (fields_in bytes)) m.1)

-- ---- repeated numbers

packed_is : NumbersAreRead → (path : Path) (bytes : List ℕ) → packed_sound path bytes ≡ Ok tt → ArePacked (numbers_of bytes).0 bytes
unfolding packed_sound
packed_is w path bytes e =
    (w (numbers_of bytes).0 bytes).1 (ap (λ (o : Option WireFault). let r : List ℕ × Option WireFault = ((numbers_of bytes).0, o) in r) (well_formed_is path (numbers_of bytes).1 e))

gives_is : NumbersAreRead → (path : Path) (b : Bool) (v : ValueOf) → where_present (packed_sound path) (cond b (bytes_value v) None) ≡ Ok tt → GivesValues (cond b (Some v) None) (cond b (numbers_in v) [])
gives_is w path false v e = refl
gives_is w path true (Varint n) e = refl
gives_is w path true (Fixed64 n) e = refl
gives_is w path true (Bytes packed) e = ((numbers_of packed).0, packed_is w path packed e, refl)
gives_is w path true (Fixed32 n) e = refl

pub values_is : NumbersAreRead → (path : Path) (k : ℕ) (fs : List FieldOf) → each_payload (packed_sound path) k fs ≡ Ok tt → AreValues k fs (flat_map (repeated_in k) fs)
unfolding each_payload
values_is w path k [] e = refl
values_is w path k (f ∷ fs) e =
    let b = bind_ok (where_present (packed_sound path) (bytes_in k f)) (λ _. each_payload (packed_sound path) k fs) tt e in
    (repeated_in k f, flat_map (repeated_in k) fs, flat_map-cons (repeated_in k) f fs, gives_is w path (eqb f.number k) f.value b.1, values_is w path k fs b.2)

gives_from : NumbersAreRead → (path : Path) (b : Bool) (v : ValueOf) (ns : List ℕ) → GivesValues (cond b (Some v) None) ns
    → (where_present (packed_sound path) (cond b (bytes_value v) None) ≡ Ok tt) × (ns ≡ cond b (numbers_in v) [])
unfolding packed_sound
gives_from w path false v ns g = (refl, g)
gives_from w path true (Varint n) ns g = (refl, g)
gives_from w path true (Fixed64 n) ns g = (refl, g)
gives_from w path true (Bytes packed) ns g =
    let read : numbers_of packed ≡ (g.0, None) = (w g.0 packed).0 g.1 in
    (ap (λ (r : List ℕ × Option WireFault). well_formed path r.1) read, g.2 ∙ ap (λ (r : List ℕ × Option WireFault). map low32 r.0) (sym read))
gives_from w path true (Fixed32 n) ns g = (refl, g)

pub values_from_fields : NumbersAreRead → (path : Path) (k : ℕ) (fs : List FieldOf) (ns : List ℕ) → AreValues k fs ns → (each_payload (packed_sound path) k fs ≡ Ok tt) × (ns ≡ flat_map (repeated_in k) fs)
unfolding each_payload
values_from_fields w path k [] ns v = (refl, v)
values_from_fields w path k (f ∷ fs) ns v =
    let one = gives_from w path (eqb f.number k) f.value v.0 v.3 in
    let more = values_from_fields w path k fs v.1 v.4 in (
      ap (λ (r : Read (Unit {0})). r >>= λ _. each_payload (packed_sound path) k fs) one.0 ∙ more.0,
      v.2 ∙ ap (λ (t : List ℕ). t ++ v.1) one.1 ∙ ap (λ (t : List ℕ). repeated_in k f ++ t) more.1 ∙ sym (flat_map-cons (repeated_in k) f fs),
    )
