-- What was written is read again.
use Rattle.std.proofs.Common.{◌≡◌, ℕ, ◌+◌, ◌<◌, ◌≤◌, Bool, true, false, cond, ℤ, List, [], ◌∷◌, ◌++◌, length, take, drop, refl, sym, ap, subst, ◌∙◌, arith, lit<, Some, None, Ok, FitsSigned, length-append, append_assoc}
use Rattle.std.proofs.lemmas.List.{take_at, drop_at}
use Rattle.std.proofs.lemmas.Bool.{ltb-false}
use Rattle.std.proofs.lemmas.Int.{ints, to_z-of_z}
use Rattle.std.specs.Int.{cast_signed, cast_unsigned, w32}
use Rattle.byteorder.specs.Endian.{little_bytes, little_number}
use Rattle.byteorder.specs.Numbers.{little_number-reads_back}
use Rattle.artery_header.specs.declared.fault.EncodeFault.{EncodeFault}
use Rattle.artery_header.specs.Envelope.{NameOf, Literal, Index, EnvelopeOf, IsLaidOut, HasTag, AreTexts, IsName, IsEnvelope, HasTexts, IsAsciiName, numbers, tags, header, header_len, first_index_tag, tag_of, recipient_at, manifest_at, spelled, spelled_len, canonical, canonical_len, refusal, is_long, literal_limit, read_of}
use Rattle.artery_header.proofs.Layouts.{laid_out_read}

-- a name that is not too long stands in front of what follows
names_written : (n : NameOf) (names : List NameOf) (payload rest : List ℕ) → is_long n ≡ false → IsAsciiName n → AreTexts names payload rest → AreTexts (n ∷ names) payload (spelled n ++ rest)
names_written (Index i) names payload rest l a t = t
names_written (Literal text) names payload rest l a t =
    let short : length text ≤ literal_limit = ltb-false _ _ l in
    let group : (little_bytes 2 (length text) ++ text) ++ rest ≡ little_bytes 2 (length text) ++ (text ++ rest) = append_assoc (little_bytes 2 (length text)) text rest in
    let P : List ℕ → Type 0 = AreTexts names payload in (
      record {
        whole = omega (arith, length-append (little_bytes 2 (length text) ++ text) rest, length-append (little_bytes 2 (length text)) text);
        spelled = ap (little_number 2) group ∙ little_number-reads_back 2 (length text) (text ++ rest) (omega arith);
        same = ap (λ (w : List ℕ). take (length text) (drop 2 w)) group ∙ take_at text rest (length text) refl;
        ascii = a;
      },
      subst P (sym (drop_at (little_bytes 2 (length text) ++ text) rest (2 + length text) (length-append (little_bytes 2 (length text)) text))) t,
    )

has_tag : (at : ℕ) (n : NameOf) → at < first_index_tag → IsName n → HasTag (tag_of at n) n
has_tag at (Literal text) h f = h
has_tag at (Index i) h f = (omega arith, omega arith)

tag_fits : (at : ℕ) (n : NameOf) → at < first_index_tag → IsName n → tag_of at n < 4294967296
tag_fits at (Literal text) h f = omega arith
tag_fits at (Index i) h f = omega arith

small_name : (n : NameOf) → is_long n ≡ false → spelled_len n ≤ 65537
small_name (Literal text) l = omega (arith, ltb-false literal_limit (length text) l)
small_name (Index i) l = omega arith

-- what is not refused has no long name
none_long : (a b d e : Bool) (w x y z : EncodeFault) → cond a (Some w) (cond b (Some x) (cond d (Some y) (cond e (Some z) None))) ≡ None → (a ≡ false) × (b ≡ false) × (d ≡ false)
none_long true b d e w x y z h = absurd (cc)
none_long false true d e w x y z h = absurd (cc)
none_long false false true e w x y z h = absurd (cc)
none_long false false false e w x y z h = (refl, refl, refl)

pub short_names : (c : EnvelopeOf) → refusal c ≡ None → (is_long c.sender ≡ false) × (is_long c.recipient ≡ false) × (is_long c.manifest ≡ false)
short_names c h = none_long (is_long c.sender) (is_long c.recipient) (is_long c.manifest) _ _ _ _ _ h

-- the signed number is read again
signed_again : (z : ℤ) → FitsSigned w32 z → cast_signed w32 (cast_unsigned w32 z) ≡ z
signed_again z f = to_z-of_z w32 z f

unsigned_fits : (z : ℤ) → FitsSigned w32 z → cast_unsigned w32 z < 4294967296
unsigned_fits z f = omega (arith, ints)

canonical_laid_out : (c : EnvelopeOf) → IsEnvelope c → HasTexts c → (is_long c.sender ≡ false) × (is_long c.recipient ≡ false) × (is_long c.manifest ≡ false) → IsLaidOut (canonical c) c
unfolding numbers tags
canonical_laid_out c v t s =
    let at_recipient : recipient_at c < first_index_tag = omega (arith, small_name c.sender s.0) in
    let at_manifest : manifest_at c < first_index_tag = omega (arith, small_name c.sender s.0, small_name c.recipient s.1) in
    let tag = λ (at : ℕ) (n : NameOf) (h : at < first_index_tag) (f : IsName n). let P : ℕ → Type 0 = λ k. HasTag k n in subst P (sym (little_number-reads_back 4 (tag_of at n) [] (tag_fits at n h f))) (has_tag at n h f) in
    let texts : List ℕ = spelled c.sender ++ (spelled c.recipient ++ (spelled c.manifest ++ c.payload)) in
    let P : List ℕ → Type 0 = AreTexts (c.sender ∷ c.recipient ∷ c.manifest ∷ []) c.payload in
    let group : texts ≡ ((spelled c.sender ++ spelled c.recipient) ++ spelled c.manifest) ++ c.payload = simp append_assoc in
    record {
      whole = omega (arith, length-append (((header c ++ spelled c.sender) ++ spelled c.recipient) ++ spelled c.manifest) c.payload, length-append ((header c ++ spelled c.sender) ++ spelled c.recipient) (spelled c.manifest), length-append (header c ++ spelled c.sender) (spelled c.recipient), length-append (header c) (spelled c.sender));
      version = refl;
      metadata = refl;
      refs_version = refl;
      manifests_version = refl;
      uid = little_number-reads_back 8 c.uid [] v.uid;
      serializer = ap (cast_signed w32) (little_number-reads_back 4 (cast_unsigned w32 c.serializer) [] (unsigned_fits c.serializer v.serializer)) ∙ signed_again c.serializer v.serializer;
      sender = tag header_len c.sender (lit< tt) v.sender;
      recipient = tag (recipient_at c) c.recipient at_recipient v.recipient;
      manifest = tag (manifest_at c) c.manifest at_manifest v.manifest;
      rest = subst P group (names_written c.sender _ c.payload _ s.0 t.sender (names_written c.recipient _ c.payload _ s.1 t.recipient (names_written c.manifest [] c.payload c.payload s.2 t.manifest refl)));
    }

-- the canonical bytes of an envelope that is not refused are read as it
pub written_read : (c : EnvelopeOf) → IsEnvelope c → HasTexts c → refusal c ≡ None → read_of (canonical c) ≡ Ok c
written_read c v t n = laid_out_read (canonical c) c (canonical_laid_out c v t (short_names c n))

-- the same, for what was appended
pub read_back : (old new : List ℕ) (c : EnvelopeOf) → new ≡ old ++ canonical c → IsEnvelope c → HasTexts c → refusal c ≡ None → read_of (drop (length old) new) ≡ Ok c
read_back old new c e v t n = ap (λ (w : List ℕ). read_of (drop (length old) w)) e ∙ ap read_of (drop_at old (canonical c) (length old) refl) ∙ written_read c v t n

-- so many bytes are written
spelled_is : (n : NameOf) → length (spelled n) ≡ spelled_len n
spelled_is (Literal text) = omega (arith, length-append (little_bytes 2 (length text)) text)
spelled_is (Index i) = refl

header_is : (c : EnvelopeOf) → length (header c) ≡ 28
unfolding numbers tags
header_is c = refl

pub canonical_length : (c : EnvelopeOf) → length (canonical c) ≡ canonical_len c
canonical_length c =
    let group : canonical c ≡ header c ++ (spelled c.sender ++ (spelled c.recipient ++ (spelled c.manifest ++ c.payload))) = simp append_assoc in
    omega (
      arith,
      ap length group,
      header_is c,
      length-append (header c) (spelled c.sender ++ (spelled c.recipient ++ (spelled c.manifest ++ c.payload))),
      length-append (spelled c.sender) (spelled c.recipient ++ (spelled c.manifest ++ c.payload)),
      length-append (spelled c.recipient) (spelled c.manifest ++ c.payload),
      length-append (spelled c.manifest) c.payload,
      spelled_is c.sender,
      spelled_is c.recipient,
      spelled_is c.manifest,
    )
