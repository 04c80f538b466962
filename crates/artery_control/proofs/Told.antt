-- What a field of a message reads as is what the fields of its record tell, and the other way round.
use Rattle.std.proofs.Common.{◌≡◌, ℕ, ◌%◌, ◌^◌, ◌<◌, ◌≤◌, Bool, true, cond, leb, eqb, List, [], ◌∷◌, length, Option, Some, None, Ok, refl, sym, ap, subst, ◌∙◌, arith}
use Rattle.std.specs.Prelude.{◌&&◌, FitsSigned}
use Rattle.std.specs.List.{AllByRecursion, list_all, filter_map, flat_map}
use Rattle.std.specs.Int.{w32, cast_signed}
use Rattle.std.proofs.Math.Facts.{sfits_to_z, Fits-of_lt}
use Rattle.std.proofs.lemmas.Bool.{and_parts, and_from, leb-true, le-leb, eqb-true, eq-eqb}
use Rattle.artery_base.specs.declared.address.Address.{Address}
use Rattle.artery_base.specs.declared.address.UniqueAddress.{UniqueAddress}
use Rattle.artery_base.specs.Valid.{is_part_byte, IsPart, IsAddress, IsUniqueAddress}
use Rattle.artery_wire.specs.Record.{FieldOf}
use Rattle.artery_wire.specs.Laws.{FieldsAreRead, FaultIsRead, NumbersAreRead}
use Rattle.artery_control.specs.declared.fault.ControlFault.{ControlFault}
use Rattle.artery_control.specs.declared.fault.ControlFault.TheVariants as faults
use Rattle.artery_control.specs.declared.path.Path.{Path}
use Rattle.artery_base.specs.Words.{◌>>=◌}
use Rattle.artery_control.specs.Outcome.{to_field, each_of}
use Rattle.artery_control.specs.Picking.{fields_in, varint_in, bytes_in, last_number, last_payload, required, packed_sound, each_payload, joined, embedded}
use Rattle.artery_control.specs.Parts.{is_part, is_key}
use Rattle.artery_control.specs.Message.{low32, number_at, ranged, ranged_at, part_text, part_at, address_in, address_at, unique_in, unique_at, version_of, agreeing, sequence_at, keys_at, is_value, repeated_in, values_at}
use Rattle.artery_control.specs.Valid.{IsOptional, IsVersion}
use Rattle.artery_control.specs.Belonging.{IsLast, MayBeLast, IsLow, AreValues, TellsAddress, HasAddress, TellsUnique, HasUnique}
use Rattle.artery_control.proofs.Steps.{Read, ok, bad, ok_same, cond_ok, required_ok, bind_ok, two_ok, four_ok}
use Rattle.artery_control.proofs.Picks.{last_is, last_from, may_is, may_from}
use Rattle.artery_control.proofs.Fits.{AllFit, all_fit, number_fits, optional_fits}
use Rattle.artery_control.proofs.Merging.{embedded_is, embedded_from, values_is, values_from_fields}

-- ---- texts and numbers

pub part_is : (text : List ℕ) → is_part text ≡ true → IsPart text
unfolding is_part
part_is text h =
    let both = and_parts (leb 1 (length text) && leb (length text) 255) (list_all is_part_byte text) h in
    let ends = and_parts (leb 1 (length text)) (leb (length text) 255) both.0 in
    record { some = leb-true _ _ ends.0; short = leb-true _ _ ends.1; made_of = both.1 }

pub part_from : (text : List ℕ) → IsPart text → is_part text ≡ true
unfolding is_part
part_from text p = and_from _ _ (and_from _ _ (le-leb _ _ p.some) (le-leb _ _ p.short)) p.made_of

text_ok : (path : Path) (o : Option (List ℕ)) (text : List ℕ) → (required path o >>= part_text path) ≡ Ok text → (o ≡ Some text) × (is_part text ≡ true)
text_ok path o text e =
    let b = bind_ok (required path o) (part_text path) text e in
    let c = cond_ok (is_part b.0) b.0 text (faults.BadText path) b.2 in
    (required_ok path o b.0 b.1 ∙ ap (λ t. Some t) c.1, ap is_part (sym c.1) ∙ c.0)

part_at_is : (path : Path) (k : ℕ) (bytes text : List ℕ) → part_at path k bytes ≡ Ok text → IsLast (bytes_in k) text (fields_in bytes) × IsPart text
unfolding part_at
part_at_is path k bytes text e =
    let t = text_ok (to_field path k) (last_payload k bytes) text e in
    (last_is (bytes_in k) (fields_in bytes) text t.0, part_is text t.1)

part_at_from : (path : Path) (k : ℕ) (bytes text : List ℕ) → IsLast (bytes_in k) text (fields_in bytes) → IsPart text → part_at path k bytes ≡ Ok text
unfolding part_at
part_at_from path k bytes text l p =
    let last : last_payload k bytes ≡ Some text = last_from (bytes_in k) (fields_in bytes) text l in
    let fine : is_part text ≡ true = part_from text p in
    rw (last, fine) refl

pub number_is : (path : Path) (k : ℕ) (bytes : List ℕ) (n : ℕ) → number_at path k bytes ≡ Ok n → IsLast (varint_in k) n (fields_in bytes)
unfolding number_at
number_is path k bytes n e = last_is (varint_in k) (fields_in bytes) n (required_ok (to_field path k) (last_number k bytes) n e)

pub number_from : (path : Path) (k : ℕ) (bytes : List ℕ) (n : ℕ) → IsLast (varint_in k) n (fields_in bytes) → number_at path k bytes ≡ Ok n
unfolding number_at
number_from path k bytes n l = ap (required (to_field path k)) (last_from (varint_in k) (fields_in bytes) n l)

-- what is in a range
pub record Ranged (k least most v : ℕ) (fs : List FieldOf) : Type 0 where
  pub low : IsLow k v fs
  pub least_is : least ≤ v
  pub most_is : v ≤ most

pub ranged_is : (path : Path) (k least most : ℕ) (bytes : List ℕ) (v : ℕ) → ranged_at path k least most bytes ≡ Ok v → Ranged k least most v (fields_in bytes)
unfolding ranged_at
ranged_is path k least most bytes v e =
    let b = bind_ok (number_at path k bytes) (ranged (to_field path k) least most) v e in
    let c = cond_ok (leb least (low32 b.0) && leb (low32 b.0) most) (low32 b.0) v (faults.Range (to_field path k)) b.2 in
    let ends = and_parts (leb least (low32 b.0)) (leb (low32 b.0) most) c.0 in
    record {
      low = (b.0, number_is path k bytes b.0 b.1, sym c.1);
      least_is = subst (λ (t : ℕ). least ≤ t) c.1 (leb-true _ _ ends.0);
      most_is = subst (λ (t : ℕ). t ≤ most) c.1 (leb-true _ _ ends.1);
    }

ranged_there : (path : Path) (least most n v : ℕ) → v ≡ low32 n → least ≤ v → v ≤ most → ranged path least most n ≡ Ok v
ranged_there path least most n v e least_is most_is =
    let test : (leb least (low32 n) && leb (low32 n) most) ≡ true =
    and_from _ _ (le-leb _ _ (subst (λ (t : ℕ). least ≤ t) e least_is)) (le-leb _ _ (subst (λ (t : ℕ). t ≤ most) e most_is)) in
    ap (λ (b : Bool). cond b (ok (low32 n)) (bad (faults.Range path))) test ∙ ap (λ (t : ℕ). ok t) (sym e)

pub ranged_from : (path : Path) (k least most : ℕ) (bytes : List ℕ) (v : ℕ) → IsLow k v (fields_in bytes) → least ≤ v → v ≤ most → ranged_at path k least most bytes ≡ Ok v
unfolding ranged_at
ranged_from path k least most bytes v l least_is most_is =
    ap (λ (r : Read ℕ). r >>= ranged (to_field path k) least most) (number_from path k bytes l.0 l.1) ∙ ranged_there (to_field path k) least most l.0 v l.2 least_is most_is

-- ---- addresses

address_in_is : (path : Path) (bytes : List ℕ) (a : Address) → address_in path bytes ≡ Ok a → TellsAddress a (fields_in bytes) × IsAddress a
unfolding address_in
address_in_is path bytes a e =
    let s = four_ok (part_at path 1 bytes) (part_at path 2 bytes) (part_at path 3 bytes) (ranged_at path 4 1 65535 bytes)
    (λ protocol system host port. let made : Address = record { protocol = protocol; system = system; host = host; port = port } in made) a e in
    let protocol = part_at_is path 1 bytes s.0 s.4 in
    let system = part_at_is path 2 bytes s.1 s.5 in
    let host = part_at_is path 3 bytes s.2 s.6 in
    let port = ranged_is path 4 1 65535 bytes s.3 s.7 in
    let tells : TellsAddress (record { protocol = s.0; system = s.1; host = s.2; port = s.3 }) (fields_in bytes) =
    record { protocol = protocol.0; system = system.0; host = host.0; port = port.low } in
    let is : IsAddress (record { protocol = s.0; system = s.1; host = s.2; port = s.3 }) =
    record { protocol = protocol.1; system = system.1; host = host.1; port = (port.least_is, port.most_is) } in
    subst (λ (t : Address). TellsAddress t (fields_in bytes) × IsAddress t) s.8 (tells, is)

address_in_from : (path : Path) (bytes : List ℕ) (a : Address) → TellsAddress a (fields_in bytes) → IsAddress a → address_in path bytes ≡ Ok a
unfolding address_in
address_in_from path bytes a t is =
    let protocol : part_at path 1 bytes ≡ Ok a.protocol = part_at_from path 1 bytes a.protocol t.protocol is.protocol in
    let system : part_at path 2 bytes ≡ Ok a.system = part_at_from path 2 bytes a.system t.system is.system in
    let host : part_at path 3 bytes ≡ Ok a.host = part_at_from path 3 bytes a.host t.host is.host in
    let port : ranged_at path 4 1 65535 bytes ≡ Ok a.port = ranged_from path 4 1 65535 bytes a.port t.port is.port.0 is.port.1 in
    rw (protocol, system, host, port) refl

pub address_is : FieldsAreRead → (path : Path) (k : ℕ) (bytes : List ℕ) (a : Address) → address_at path k bytes ≡ Ok a → HasAddress k a (fields_in bytes) × IsAddress a
unfolding address_at
address_is w path k bytes a e =
    let b = bind_ok (embedded path k bytes) (address_in (to_field path k)) a e in
    let inner = address_in_is (to_field path k) b.0 a b.2 in
    ((fields_in b.0, embedded_is w path k bytes b.0 b.1, inner.0), inner.1)

pub address_from : FieldsAreRead → (path : Path) (k : ℕ) (bytes : List ℕ) (a : Address) → HasAddress k a (fields_in bytes) → IsAddress a → address_at path k bytes ≡ Ok a
unfolding address_at
address_from w path k bytes a h is =
    let m = embedded_from w path k bytes h.0 h.1 in
    ap (λ (r : Read (List ℕ)). r >>= address_in (to_field path k)) m.0
    ∙ address_in_from (to_field path k) (joined k (fields_in bytes)) a (subst (λ (t : List FieldOf). TellsAddress a t) (sym m.1) h.2) is

unique_in_is : FieldsAreRead → FaultIsRead → (path : Path) (bytes : List ℕ) (u : UniqueAddress) → unique_in path bytes ≡ Ok u → TellsUnique u (fields_in bytes) × IsUniqueAddress u
unfolding unique_in
unique_in_is w w' path bytes u e =
    let s = two_ok (address_at path 1 bytes) (number_at path 2 bytes) (λ address uid. let made : UniqueAddress = record { address = address; uid = uid } in made) u e in
    let address = address_is w path 1 bytes s.0 s.2 in
    let uid = number_is path 2 bytes s.1 s.3 in
    let tells : TellsUnique (record { address = s.0; uid = s.1 }) (fields_in bytes) = record { address = address.0; uid = uid } in
    let is : IsUniqueAddress (record { address = s.0; uid = s.1 }) = record { address = address.1; uid = number_fits 2 s.1 (fields_in bytes) (all_fit w w' bytes) uid } in
    subst (λ (t : UniqueAddress). TellsUnique t (fields_in bytes) × IsUniqueAddress t) s.4 (tells, is)

unique_in_from : FieldsAreRead → (path : Path) (bytes : List ℕ) (u : UniqueAddress) → TellsUnique u (fields_in bytes) → IsUniqueAddress u → unique_in path bytes ≡ Ok u
unfolding unique_in
unique_in_from w path bytes u t is =
    let address : address_at path 1 bytes ≡ Ok u.address = address_from w path 1 bytes u.address t.address is.address in
    let uid : number_at path 2 bytes ≡ Ok u.uid = number_from path 2 bytes u.uid t.uid in
    rw (address, uid) refl

pub unique_is : FieldsAreRead → FaultIsRead → (path : Path) (k : ℕ) (bytes : List ℕ) (u : UniqueAddress) → unique_at path k bytes ≡ Ok u → HasUnique k u (fields_in bytes) × IsUniqueAddress u
unfolding unique_at
unique_is w w' path k bytes u e =
    let b = bind_ok (embedded path k bytes) (unique_in (to_field path k)) u e in
    let inner = unique_in_is w w' (to_field path k) b.0 u b.2 in
    ((fields_in b.0, embedded_is w path k bytes b.0 b.1, inner.0), inner.1)

pub unique_from : FieldsAreRead → (path : Path) (k : ℕ) (bytes : List ℕ) (u : UniqueAddress) → HasUnique k u (fields_in bytes) → IsUniqueAddress u → unique_at path k bytes ≡ Ok u
unfolding unique_at
unique_from w path k bytes u h is =
    let m = embedded_from w path k bytes h.0 h.1 in
    ap (λ (r : Read (List ℕ)). r >>= unique_in (to_field path k)) m.0
    ∙ unique_in_from w (to_field path k) (joined k (fields_in bytes)) u (subst (λ (t : List FieldOf). TellsUnique u t) (sym m.1) h.2) is

-- ---- versions, keys and values

agreeing_ok : (path : Path) (version : ℕ) (o s : Option ℕ) → agreeing path version o ≡ Ok s → (o ≡ s) × (IsOptional o → version ≤ 255 → IsVersion version s)
agreeing_ok path version None s e = let same : None ≡ s = ok_same None s e in (same, λ fits small. subst (IsVersion version) same small)
agreeing_ok path version (Some n) s e =
    let c = cond_ok (leb 1 n && eqb version (version_of n)) (Some n) s (faults.Range path) e in
    let both = and_parts (leb 1 n) (eqb version (version_of n)) c.0 in
    (c.1, λ fits small. subst (IsVersion version) c.1 (small, leb-true _ _ both.0, eqb-true _ _ both.1, fits))

optional_back : (o s : Option ℕ) → o ≡ s → IsOptional s → IsOptional o
optional_back o s e h = subst IsOptional (sym e) h

pub sequence_is : (path : Path) (k version : ℕ) (bytes : List ℕ) (s : Option ℕ) → sequence_at path k version bytes ≡ Ok s → AllFit (fields_in bytes) → version ≤ 255
    → MayBeLast (varint_in k) s (fields_in bytes) × IsVersion version s
unfolding sequence_at
sequence_is path k version bytes s e fits small =
    let a = agreeing_ok (to_field path k) version (last_number k bytes) s e in
    let last : MayBeLast (varint_in k) s (fields_in bytes) = may_is (varint_in k) (fields_in bytes) s a.0 in
    (last, a.1 (optional_back (last_number k bytes) s a.0 (optional_fits k s (fields_in bytes) fits last)) small)

pub agreeing_from : (path : Path) (version : ℕ) (s : Option ℕ) → IsVersion version s → agreeing path version s ≡ Ok s
agreeing_from path version None is = refl
agreeing_from path version (Some n) is =
    let test : (leb 1 n && eqb version (version_of n)) ≡ true = and_from _ _ (le-leb _ _ is.1) (eq-eqb _ _ is.2) in
    rw test refl

pub sequence_from : (path : Path) (k version : ℕ) (bytes : List ℕ) (s : Option ℕ) → MayBeLast (varint_in k) s (fields_in bytes) → IsVersion version s → sequence_at path k version bytes ≡ Ok s
unfolding sequence_at
sequence_from path k version bytes s m is = ap (agreeing (to_field path k) version) (may_from (varint_in k) (fields_in bytes) s m) ∙ agreeing_from (to_field path k) version s is

pub version_small : (version : ℕ) (s : Option ℕ) → IsVersion version s → version ≤ 255
version_small version None is = is
version_small version (Some n) is = is.0

keys_each : (keys : List (List ℕ)) → list_all is_key keys ≡ true → AllByRecursion (λ text. is_key text ≡ true) keys
keys_each [] h = tt
keys_each (x ∷ xs) h = let b = and_parts (is_key x) (list_all is_key xs) h in (b.0, keys_each xs b.1)

pub keys_pass : (keys : List (List ℕ)) → AllByRecursion (λ text. is_key text ≡ true) keys → list_all is_key keys ≡ true
keys_pass [] h = refl
keys_pass (x ∷ xs) h = and_from _ _ h.0 (keys_pass xs h.1)

values_each : (values : List ℕ) → list_all is_value values ≡ true → AllByRecursion (λ n. n ≤ 65535) values
values_each [] h = tt
values_each (x ∷ xs) h = let b = and_parts (is_value x) (list_all is_value xs) h in (leb-true _ _ b.0, values_each xs b.1)

pub values_pass : (values : List ℕ) → AllByRecursion (λ n. n ≤ 65535) values → list_all is_value values ≡ true
values_pass [] h = refl
values_pass (x ∷ xs) h = and_from _ _ (le-leb _ _ h.0) (values_pass xs h.1)

pub keys_are : (path : Path) (k : ℕ) (bytes : List ℕ) (keys : List (List ℕ)) → keys_at path k bytes ≡ Ok keys
    → (keys ≡ filter_map (bytes_in k) (fields_in bytes)) × AllByRecursion (λ text. is_key text ≡ true) keys
unfolding keys_at each_of
keys_are path k bytes keys e =
    let all : List (List ℕ) = filter_map (bytes_in k) (fields_in bytes) in
    let c = cond_ok (list_all is_key all) all keys (faults.BadText (to_field path k)) e in
    (sym c.1, keys_each keys (ap (list_all is_key) (sym c.1) ∙ c.0))

pub keys_from : (path : Path) (k : ℕ) (bytes : List ℕ) (keys : List (List ℕ)) → keys ≡ filter_map (bytes_in k) (fields_in bytes) → AllByRecursion (λ text. is_key text ≡ true) keys
    → keys_at path k bytes ≡ Ok keys
unfolding keys_at each_of
keys_from path k bytes keys e each =
    ap (λ (all : List (List ℕ)). cond (list_all is_key all) (ok all) (bad (faults.BadText (to_field path k)))) (sym e)
    ∙ ap (λ (b : Bool). cond b (ok keys) (bad (faults.BadText (to_field path k)))) (keys_pass keys each)

pub values_are : NumbersAreRead → (path : Path) (k : ℕ) (bytes values : List ℕ) → values_at path k bytes ≡ Ok values
    → AreValues k (fields_in bytes) values × AllByRecursion (λ n. n ≤ 65535) values
unfolding values_at each_of
values_are w path k bytes values e =
    let all : List ℕ = flat_map (repeated_in k) (fields_in bytes) in
    let fault : ControlFault = faults.Range (to_field path k) in
    let b = bind_ok (each_payload (packed_sound (to_field path k)) k (fields_in bytes)) (λ _. cond (list_all is_value all) (ok all) (bad fault)) values e in
    let c = cond_ok (list_all is_value all) all values fault b.2 in
    (subst (λ (t : List ℕ). AreValues k (fields_in bytes) t) c.1 (values_is w (to_field path k) k (fields_in bytes) b.1), values_each values (ap (list_all is_value) (sym c.1) ∙ c.0))

pub values_from : NumbersAreRead → (path : Path) (k : ℕ) (bytes values : List ℕ) → AreValues k (fields_in bytes) values → AllByRecursion (λ n. n ≤ 65535) values
    → values_at path k bytes ≡ Ok values
unfolding values_at each_of
values_from w path k bytes values are each =
    let fault : ControlFault = faults.Range (to_field path k) in
    let v = values_from_fields w (to_field path k) k (fields_in bytes) values are in
    ap (λ (r : Read (Unit {0})). r >>= λ _. cond (list_all is_value (flat_map (repeated_in k) (fields_in bytes))) (ok (flat_map (repeated_in k) (fields_in bytes))) (bad fault)) v.0
    ∙ ap (λ (all : List ℕ). cond (list_all is_value all) (ok all) (bad fault)) (sym v.1)
    ∙ ap (λ (b : Bool). cond b (ok values) (bad fault)) (values_pass values each)

-- ---- serializers

pub signed_fits : (n : ℕ) → FitsSigned w32 (cast_signed w32 (low32 n))
signed_fits n = let small : n % 2 ^ 32 < 2 ^ 32 = omega arith in sfits_to_z {w = w32} (Fits-of_lt {w = w32} small)
