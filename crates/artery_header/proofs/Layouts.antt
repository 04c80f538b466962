-- What is read is laid out so, and what is laid out so is read.
use Rattle.std.proofs.Common.{◌≡◌, ℕ, ◌+◌, ◌%◌, ◌<◌, ◌≤◌, Bool, true, false, cond, eqb, ltb, ℤ, List, [], ◌∷◌, length, take, drop, get_or, refl, sym, ap, subst, ◌∙◌, ◌⊎◌, inl, inr, arith, Result, Ok, Err, length-drop}
use Rattle.std.proofs.lemmas.Bool.{eqb-true, eq-eqb, lt-ltb, le-ltb, ltb-true, ltb-false, cond-true, cond-false}
use Rattle.std.proofs.lemmas.List.{length-take-le, drop-drop}
use Rattle.std.specs.Int.{cast_signed, w32}
use Rattle.byteorder.specs.Endian.{little_number}
use Rattle.artery_base.specs.Words.{◌>>=◌}
use Rattle.artery_header.specs.declared.envelope.Which.{Which}
use Rattle.artery_header.specs.declared.envelope.Which.TheVariants.{Sender, Recipient, Manifest}
use Rattle.artery_header.specs.declared.fault.HeaderFault.{HeaderFault}
use Rattle.artery_header.specs.declared.fault.HeaderFault.TheVariants.{Short, Version, Metadata, LiteralPast, NotAscii}
use Rattle.artery_header.specs.Envelope.{NameOf, Literal, Index, EnvelopeOf, IsLaidOut, HasTag, BeginsWithText, AreTexts, HasTexts, IsAsciiName, is_text, first_index_tag, text_by, text_at, name_at, body_of, read_of}

-- a good header is read on
pub read_on : (bytes : List ℕ) → 28 ≤ length bytes → get_or bytes 0 0 ≡ 0 → get_or bytes 1 0 % 2 ≡ 0 → read_of bytes ≡ body_of bytes (drop 28 bytes)
unfolding read_of
read_on bytes h v m = rw (le-ltb (length bytes) 28 h, eq-eqb (get_or bytes 0 0) 0 v, eq-eqb (get_or bytes 1 0 % 2) 0 m) refl

-- a guard that let through
guard : {X : Type 0} (b : Bool) (fault : HeaderFault) (y : Result X HeaderFault) (x : X) → cond b (Err fault) y ≡ Ok x → (b ≡ false) × (y ≡ Ok x)
guard true fault y x e = absurd (cc)
guard false fault y x e = (refl, e)

keep : {X : Type 0} (b : Bool) (fault : HeaderFault) (y : Result X HeaderFault) (x : X) → cond b y (Err fault) ≡ Ok x → (b ≡ true) × (y ≡ Ok x)
keep true fault y x e = (refl, e)
keep false fault y x e = absurd (cc)

pub chosen : {X : Type 0} (b : Bool) (x y z : X) → cond b x y ≡ z → ((b ≡ true) × (x ≡ z)) ⊎ ((b ≡ false) × (y ≡ z))
chosen true x y z e = inl (refl, e)
chosen false x y z e = inr (refl, e)

bound : {A B : Type 0} (r : Result A HeaderFault) (f : A → Result B HeaderFault) (y : B) → (r >>= f) ≡ Ok y → (x : A) × (r ≡ Ok x) × (f x ≡ Ok y)
bound (Ok x) f y e = (x, refl, e)
bound (Err fault) f y e = absurd (cc)

-- The name with this tag stands at the front, and this is behind it.
abbrev pub IsName : ℕ → List ℕ → NameOf → List ℕ → Type 0
IsName tag bytes (Literal text) rest = (tag < first_index_tag) × BeginsWithText text bytes × (rest ≡ drop (2 + length text) bytes)
IsName tag bytes (Index i) rest = (first_index_tag ≤ tag) × (i ≡ tag % 65536) × (rest ≡ bytes)

text_is : (which : Which) (tag : ℕ) (bytes : List ℕ) (x : NameOf × List ℕ) → tag < first_index_tag → text_at which bytes ≡ Ok x → IsName tag bytes x.0 x.1
unfolding text_at
text_is which tag bytes x t e =
    let len = little_number 2 bytes in
    let more = drop 2 bytes in
    let two = guard (ltb (length bytes) 2) (LiteralPast which) (text_by which len more) x e in
    let within = guard (ltb (length more) len) (LiteralPast which) _ x two.1 in
    let text = keep (is_text (take len more)) (NotAscii which) (Ok (Literal (take len more), drop len more)) x within.1 in
    let size : length (take len more) ≡ len = length-take-le len more (ltb-false _ _ within.0) in
    let same : (Literal (take len more), drop len more) ≡ x = cc in
    let P : NameOf × List ℕ → Type 0 = λ y. IsName tag bytes y.0 y.1 in
    subst P same (
      t,
      record {
        whole = rw size (omega (arith, ltb-false _ _ within.0, ltb-false _ _ two.0, length-drop 2 bytes));
        spelled = sym size;
        same = rw size refl;
        ascii = text.0;
      },
      rw size (drop-drop len 2 bytes),
    )

pub name_is : (which : Which) (tag : ℕ) (bytes : List ℕ) (x : NameOf × List ℕ) → name_at which tag bytes ≡ Ok x → IsName tag bytes x.0 x.1
unfolding name_at
name_is which tag bytes x e = elim (chosen (ltb tag first_index_tag) (text_at which bytes) (Ok (Index (tag % 65536), bytes)) (Ok x) e) [
  | inl h ↦ text_is which tag bytes x (ltb-true _ _ h.0) h.1
  | inr h ↦ (let same : (Index (tag % 65536), bytes) ≡ x = cc in let P : NameOf × List ℕ → Type 0 = λ y. IsName tag bytes y.0 y.1 in subst P same (ltb-false _ _ h.0, refl, refl))
]

text_made : (which : Which) (bytes text : List ℕ) → BeginsWithText text bytes → text_at which bytes ≡ Ok (Literal text, drop (2 + length text) bytes)
unfolding text_at
text_made which bytes text b =
    let same : take (little_number 2 bytes) (drop 2 bytes) ≡ text = ap (λ (n : ℕ). take n (drop 2 bytes)) b.spelled ∙ b.same in
    cond-false _ _ _ (le-ltb (length bytes) 2 (omega (arith, b.whole)))
    ∙ cond-false _ _ _ (le-ltb (length (drop 2 bytes)) (little_number 2 bytes) (omega (arith, b.spelled, b.whole, length-drop 2 bytes)))
    ∙ cond-true _ _ _ (ap is_text same ∙ b.ascii)
    ∙ ap (λ (w : List ℕ). Ok (Literal w, drop (little_number 2 bytes) (drop 2 bytes))) same
    ∙ ap (λ (w : List ℕ). Ok (Literal text, w)) (ap (λ (n : ℕ). drop n (drop 2 bytes)) b.spelled ∙ drop-drop (length text) 2 bytes)

pub name_made : (which : Which) (tag : ℕ) (bytes : List ℕ) (n : NameOf) (rest : List ℕ) → IsName tag bytes n rest → name_at which tag bytes ≡ Ok (n, rest)
unfolding name_at
name_made which tag bytes (Literal text) rest h =
    cond-true _ _ _ (lt-ltb tag first_index_tag h.0) ∙ text_made which bytes text h.1 ∙ ap (λ (w : List ℕ). Ok (Literal text, w)) (sym h.2)
name_made which tag bytes (Index i) rest h =
    cond-false _ _ _ (le-ltb tag first_index_tag h.0) ∙ ap (λ (k : ℕ). Ok (Index k, bytes)) (sym h.1) ∙ ap (λ (w : List ℕ). Ok (Index i, w)) (sym h.2)

-- a name stands in front of the others
pub names_more : (tag : ℕ) (bytes : List ℕ) (n : NameOf) (rest : List ℕ) → IsName tag bytes n rest → (names : List NameOf) (payload : List ℕ) → AreTexts names payload rest → HasTag tag n × AreTexts (n ∷ names) payload bytes
names_more tag bytes (Literal text) rest h names payload a = (h.0, (h.1, (let P : List ℕ → Type 0 = AreTexts names payload in subst P h.2 a)))
names_more tag bytes (Index i) rest h names payload a = ((h.0, h.1), (let P : List ℕ → Type 0 = AreTexts names payload in subst P h.2 a))

pub names_less : (tag : ℕ) (bytes : List ℕ) (n : NameOf) (names : List NameOf) (payload : List ℕ) → HasTag tag n → AreTexts (n ∷ names) payload bytes → (rest : List ℕ) × IsName tag bytes n rest × AreTexts names payload rest
names_less tag bytes (Literal text) names payload t a = (drop (2 + length text) bytes, (t, a.0, refl), a.1)
names_less tag bytes (Index i) names payload t a = (bytes, (t.0, t.1, refl), a)

-- an envelope by its parts
abbrev of_parts : ℕ → ℕ → ℕ → ℤ → NameOf → NameOf → NameOf → List ℕ → EnvelopeOf
of_parts uid refs manifests serializer sender recipient manifest payload = record {
  uid = uid;
  refs_version = refs;
  manifests_version = manifests;
  serializer = serializer;
  sender = sender;
  recipient = recipient;
  manifest = manifest;
  payload = payload;
}

abbrev fields : List ℕ → NameOf → NameOf → NameOf → List ℕ → EnvelopeOf
fields bytes sender recipient manifest payload =
    of_parts (little_number 8 (drop 4 bytes)) (get_or bytes 2 0) (get_or bytes 3 0) (cast_signed w32 (little_number 4 (drop 12 bytes))) sender recipient manifest payload

body_made : (bytes texts : List ℕ) (s r m : NameOf) (behind_s behind_r payload : List ℕ)
    → name_at Sender (little_number 4 (drop 16 bytes)) texts ≡ Ok (s, behind_s)
    → name_at Recipient (little_number 4 (drop 20 bytes)) behind_s ≡ Ok (r, behind_r)
    → name_at Manifest (little_number 4 (drop 24 bytes)) behind_r ≡ Ok (m, payload)
    → body_of bytes texts ≡ Ok (fields bytes s r m payload)
unfolding body_of
body_made bytes texts s r m behind_s behind_r payload a b d = rw (a, b, d) refl

-- what is laid out so is read
pub laid_out_read : (bytes : List ℕ) (c : EnvelopeOf) → IsLaidOut bytes c → read_of bytes ≡ Ok c
laid_out_read bytes c h =
    let s = names_less (little_number 4 (drop 16 bytes)) (drop 28 bytes) c.sender _ c.payload h.sender h.rest in
    let r = names_less (little_number 4 (drop 20 bytes)) s.0 c.recipient _ c.payload h.recipient s.2 in
    let m = names_less (little_number 4 (drop 24 bytes)) r.0 c.manifest [] c.payload h.manifest r.2 in
    let last : name_at Manifest (little_number 4 (drop 24 bytes)) r.0 ≡ Ok (c.manifest, c.payload) = name_made Manifest _ r.0 c.manifest m.0 m.1 ∙ ap (λ (w : List ℕ). Ok (c.manifest, w)) m.2 in
    read_on bytes h.whole h.version h.metadata
    ∙ body_made bytes (drop 28 bytes) c.sender c.recipient c.manifest s.0 r.0 c.payload (name_made Sender _ _ c.sender s.0 s.1) (name_made Recipient _ _ c.recipient r.0 r.1) last
    ∙ ap (λ (n : ℕ). Ok (of_parts n (get_or bytes 2 0) (get_or bytes 3 0) (cast_signed w32 (little_number 4 (drop 12 bytes))) c.sender c.recipient c.manifest c.payload)) h.uid
    ∙ ap (λ (n : ℕ). Ok (of_parts c.uid n (get_or bytes 3 0) (cast_signed w32 (little_number 4 (drop 12 bytes))) c.sender c.recipient c.manifest c.payload)) h.refs_version
    ∙ ap (λ (n : ℕ). Ok (of_parts c.uid c.refs_version n (cast_signed w32 (little_number 4 (drop 12 bytes))) c.sender c.recipient c.manifest c.payload)) h.manifests_version
    ∙ ap (λ (z : ℤ). Ok (of_parts c.uid c.refs_version c.manifests_version z c.sender c.recipient c.manifest c.payload)) h.serializer

abbrev okay : EnvelopeOf → Result EnvelopeOf HeaderFault
okay c = Ok c

-- what is read is laid out so
body_laid_out : (bytes : List ℕ) (c : EnvelopeOf) → 28 ≤ length bytes → get_or bytes 0 0 ≡ 0 → get_or bytes 1 0 % 2 ≡ 0 → body_of bytes (drop 28 bytes) ≡ Ok c → IsLaidOut bytes c
unfolding body_of
body_laid_out bytes c whole version metadata e =
    let s = bound (name_at Sender (little_number 4 (drop 16 bytes)) (drop 28 bytes)) _ c e in
    let r = bound (name_at Recipient (little_number 4 (drop 20 bytes)) s.0.1) _ c s.2 in
    let m = bound (name_at Manifest (little_number 4 (drop 24 bytes)) r.0.1) _ c r.2 in
    let same : fields bytes s.0.0 r.0.0 m.0.0 m.0.1 ≡ c = (let e : okay (fields bytes s.0.0 r.0.0 m.0.0 m.0.1) ≡ Ok c = m.2 in cc) in
    let nm = names_more _ _ m.0.0 m.0.1 (name_is Manifest _ r.0.1 m.0 m.1) [] m.0.1 refl in
    let nr = names_more _ _ r.0.0 r.0.1 (name_is Recipient _ s.0.1 r.0 r.1) _ m.0.1 nm.1 in
    let ns = names_more _ _ s.0.0 s.0.1 (name_is Sender _ (drop 28 bytes) s.0 s.1) _ m.0.1 nr.1 in
    let P : EnvelopeOf → Type 0 = IsLaidOut bytes in
    subst P same (record {
      whole = whole;
      version = version;
      metadata = metadata;
      refs_version = refl;
      manifests_version = refl;
      uid = refl;
      serializer = refl;
      sender = ns.0;
      recipient = nr.0;
      manifest = nm.0;
      rest = ns.1;
    })

pub read_laid_out : (bytes : List ℕ) (c : EnvelopeOf) → read_of bytes ≡ Ok c → IsLaidOut bytes c
unfolding read_of
read_laid_out bytes c e =
    let whole = guard (ltb (length bytes) 28) (Short (length bytes)) _ c e in
    let version = keep (eqb (get_or bytes 0 0) 0) (Version (get_or bytes 0 0)) _ c whole.1 in
    let metadata = keep (eqb (get_or bytes 1 0 % 2) 0) Metadata (body_of bytes (drop 28 bytes)) c version.1 in
    body_laid_out bytes c (ltb-false _ _ whole.0) (eqb-true _ _ version.0) (eqb-true _ _ metadata.0) metadata.1

-- the texts that are laid out are ASCII
text_first : (n : NameOf) (names : List NameOf) (payload bytes : List ℕ) → AreTexts (n ∷ names) payload bytes → IsAsciiName n × ((rest : List ℕ) × AreTexts names payload rest)
text_first (Literal text) names payload bytes h = (h.0.ascii, (drop (2 + length text) bytes, h.1))
text_first (Index i) names payload bytes h = (tt, (bytes, h))

pub laid_out_texts : (bytes : List ℕ) (c : EnvelopeOf) → IsLaidOut bytes c → HasTexts c
laid_out_texts bytes c h =
    let s = text_first c.sender (c.recipient ∷ c.manifest ∷ []) c.payload (drop 28 bytes) h.rest in
    let r = text_first c.recipient (c.manifest ∷ []) c.payload s.1.0 s.1.1 in
    let m = text_first c.manifest [] c.payload r.1.0 r.1.1 in
    record { sender = s.0; recipient = r.0; manifest = m.0 }
