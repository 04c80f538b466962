-- What is faulty is read as its first fault, and the fault that is read is the first.
use Rattle.std.proofs.Common.{◌≡◌, ◌≢◌, ℕ, ◌+◌, ◌%◌, ◌<◌, ◌≤◌, Bool, true, false, cond, eqb, ltb, List, [], ◌∷◌, length, take, drop, get_or, refl, sym, ap, subst, ◌∙◌, ◌⊎◌, inl, inr, arith, Result, Ok, Err, length-drop}
use Rattle.std.proofs.lemmas.Bool.{eqb-true, eqb-false, eq-eqb, ne_eqb, lt-ltb, le-ltb, ltb-true, ltb-false, cond-true, cond-false}
use Rattle.byteorder.specs.Endian.{little_number}
use Rattle.artery_base.specs.Words.{◌>>=◌}
use Rattle.artery_header.specs.declared.envelope.Which.{Which}
use Rattle.artery_header.specs.declared.envelope.Which.TheVariants.{Sender, Recipient, Manifest}
use Rattle.artery_header.specs.declared.fault.HeaderFault.{HeaderFault}
use Rattle.artery_header.specs.declared.fault.HeaderFault.TheVariants.{Short, Version, Metadata, LiteralPast, NotAscii}
use Rattle.artery_header.specs.Envelope.{NameOf, Literal, Index, AreTexts, is_text, first_index_tag, text_by, text_at, name_at, body_of, read_of}
use Rattle.artery_header.specs.FirstFault.{tag_in, names_before, HaveTags, HasHeader, GoesPast, IsForeign, HasFaultyLiteral, IsFirstFault}
use Rattle.artery_header.proofs.Layouts.{read_on, chosen, name_is, name_made, names_more, names_less}

-- the fault of the literal at the front
abbrev TextFault : Which → List ℕ → HeaderFault → Type 0
TextFault which bytes (Short len) = ⊥
TextFault which bytes (Version v) = ⊥
TextFault which bytes Metadata = ⊥
TextFault which bytes (LiteralPast w) = (which ≡ w) × GoesPast bytes
TextFault which bytes (NotAscii w) = (which ≡ w) × IsForeign bytes

failed : {X : Type 0} → HeaderFault → Result X HeaderFault
failed fault = Err fault

text_fault : (which : Which) (bytes : List ℕ) (fault : HeaderFault) → text_at which bytes ≡ Err fault → TextFault which bytes fault
unfolding text_at
text_fault which bytes fault e =
    let len = little_number 2 bytes in
    let more = drop 2 bytes in
    let P : HeaderFault → Type 0 = TextFault which bytes in
    elim (chosen (ltb (length bytes) 2) (Err (LiteralPast which)) (text_by which len more) (Err fault) e) [
      | inl short ↦ (let same : LiteralPast which ≡ fault = (let f = short.1 in cc) in subst P same (refl, inl (ltb-true _ _ short.0)))
      | inr two ↦ elim (chosen (ltb (length more) len) (Err (LiteralPast which)) _ (Err fault) two.1) [
        | inl past ↦
            (let same : LiteralPast which ≡ fault = (let f = past.1 in cc) in
            let cut : length more < len = ltb-true _ _ past.0 in
            let long : 2 ≤ length bytes = ltb-false _ _ two.0 in
            subst P same (refl, inr (omega (arith, cut, long, length-drop 2 bytes))))
        | inr within ↦ elim (chosen (is_text (take len more)) (Ok (Literal (take len more), drop len more)) (Err (NotAscii which)) (Err fault) within.1) [
          | inl never ↦ absurd (let f = never.1 in cc)
          | inr foreign ↦
              (let same : NotAscii which ≡ fault = (let f = foreign.1 in cc) in
              let whole : len ≤ length more = ltb-false _ _ within.0 in
              let long : 2 ≤ length bytes = ltb-false _ _ two.0 in
              subst P same (refl, (omega (arith, whole, long, length-drop 2 bytes), foreign.0)))
        ]
      ]
    ]

past_made : (which : Which) (bytes : List ℕ) → GoesPast bytes → text_at which bytes ≡ Err (LiteralPast which)
unfolding text_at
past_made which bytes h = by_test (ltb (length bytes) 2) refl where
  by_test : (b : Bool) → ltb (length bytes) 2 ≡ b → cond b (Err (LiteralPast which)) (text_by which (little_number 2 bytes) (drop 2 bytes)) ≡ Err (LiteralPast which)
  by_test true e = refl
  by_test false e =
      let long : 2 ≤ length bytes = ltb-false _ _ e in
      let cut : length bytes < 2 + little_number 2 bytes = elim h [ inl short ↦ omega (arith, short) | inr past ↦ past ] in
      cond-true _ _ _ (lt-ltb (length (drop 2 bytes)) (little_number 2 bytes) (omega (arith, cut, long, length-drop 2 bytes)))

foreign_made : (which : Which) (bytes : List ℕ) → IsForeign bytes → text_at which bytes ≡ Err (NotAscii which)
unfolding text_at
foreign_made which bytes h =
    cond-false _ _ _ (le-ltb (length bytes) 2 (omega (arith, h.0)))
    ∙ cond-false _ _ _ (le-ltb (length (drop 2 bytes)) (little_number 2 bytes) (omega (arith, h.0, length-drop 2 bytes)))
    ∙ cond-false _ _ _ h.1

-- the fault of a name: only a literal has one
name_fault : (which : Which) (tag : ℕ) (bytes : List ℕ) (fault : HeaderFault) → name_at which tag bytes ≡ Err fault → (tag < first_index_tag) × TextFault which bytes fault
unfolding name_at
name_fault which tag bytes fault e = elim (chosen (ltb tag first_index_tag) (text_at which bytes) (Ok (Index (tag % 65536), bytes)) (Err fault) e) [
  | inl text ↦ (ltb-true _ _ text.0, text_fault which bytes fault text.1)
  | inr never ↦ absurd (let f = never.1 in cc)
]

past_name : (which : Which) (tag : ℕ) (bytes : List ℕ) → tag < first_index_tag → GoesPast bytes → name_at which tag bytes ≡ Err (LiteralPast which)
unfolding name_at
past_name which tag bytes t h = cond-true _ _ _ (lt-ltb tag first_index_tag t) ∙ past_made which bytes h

foreign_name : (which : Which) (tag : ℕ) (bytes : List ℕ) → tag < first_index_tag → IsForeign bytes → name_at which tag bytes ≡ Err (NotAscii which)
unfolding name_at
foreign_name which tag bytes t h = cond-true _ _ _ (lt-ltb tag first_index_tag t) ∙ foreign_made which bytes h

-- what stands before a fault makes it the first
first_by : (which : Which) (bytes : List ℕ) (names : List NameOf) (rest : List ℕ) (fault : HeaderFault) → HasHeader bytes → HaveTags bytes (names_before which) names → AreTexts names rest (drop 28 bytes)
    → (tag_in bytes which < first_index_tag) × TextFault which rest fault → IsFirstFault bytes fault
first_by which bytes names rest (Short len) h t a f = absurd f.1
first_by which bytes names rest (Version v) h t a f = absurd f.1
first_by which bytes names rest Metadata h t a f = absurd f.1
first_by which bytes names rest (LiteralPast w) h t a f =
    let P : Which → Type 0 = λ x. HasFaultyLiteral x GoesPast bytes in
    subst P f.1.0 (record { header = h; names = names; rest = rest; tags = t; texts = a; literal = f.0; faulty = f.1.1 })
first_by which bytes names rest (NotAscii w) h t a f =
    let P : Which → Type 0 = λ x. HasFaultyLiteral x IsForeign bytes in
    subst P f.1.0 (record { header = h; names = names; rest = rest; tags = t; texts = a; literal = f.0; faulty = f.1.1 })

-- where a step failed
stopped : {A B : Type 0} (r : Result A HeaderFault) (f : A → Result B HeaderFault) (fault : HeaderFault) → (r >>= f) ≡ Err fault → (r ≡ Err fault) ⊎ ((x : A) × (r ≡ Ok x) × (f x ≡ Err fault))
stopped (Ok x) f fault e = inr (x, refl, e)
stopped (Err d) f fault e = inl cc

body_fault : (bytes : List ℕ) (fault : HeaderFault) → HasHeader bytes → body_of bytes (drop 28 bytes) ≡ Err fault → IsFirstFault bytes fault
unfolding body_of
body_fault bytes fault h e = elim (stopped (name_at Sender (tag_in bytes Sender) (drop 28 bytes)) _ fault e) [
  | inl s ↦ first_by Sender bytes [] (drop 28 bytes) fault h tt refl (name_fault Sender (tag_in bytes Sender) (drop 28 bytes) fault s)
  | inr s ↦
      let sender = name_is Sender (tag_in bytes Sender) (drop 28 bytes) s.0 s.1 in
      elim (stopped (name_at Recipient (tag_in bytes Recipient) s.0.1) _ fault s.2) [
        | inl r ↦
            (let first = names_more _ _ s.0.0 s.0.1 sender [] s.0.1 refl in
            first_by Recipient bytes (s.0.0 ∷ []) s.0.1 fault h (first.0, tt) first.1 (name_fault Recipient (tag_in bytes Recipient) s.0.1 fault r))
        | inr r ↦
            let recipient = name_is Recipient (tag_in bytes Recipient) s.0.1 r.0 r.1 in
            elim (stopped (name_at Manifest (tag_in bytes Manifest) r.0.1) _ fault r.2) [
              | inl m ↦
                  (let second = names_more _ _ r.0.0 r.0.1 recipient [] r.0.1 refl in
                  let first = names_more _ _ s.0.0 s.0.1 sender (r.0.0 ∷ []) r.0.1 second.1 in
                  first_by Manifest bytes (s.0.0 ∷ r.0.0 ∷ []) r.0.1 fault h (first.0, (second.0, tt)) first.1 (name_fault Manifest (tag_in bytes Manifest) r.0.1 fault m))
              | inr never ↦ absurd (let f = never.2 in cc)
            ]
      ]
]

-- the fault that is read is the first
pub fault_first : (bytes : List ℕ) (fault : HeaderFault) → read_of bytes ≡ Err fault → IsFirstFault bytes fault
unfolding read_of
fault_first bytes fault e =
    let P : HeaderFault → Type 0 = IsFirstFault bytes in
    elim (chosen (ltb (length bytes) 28) (Err (Short (length bytes))) _ (Err fault) e) [
      | inl short ↦ (let same : Short (length bytes) ≡ fault = (let f = short.1 in cc) in subst P same (ltb-true _ _ short.0, refl))
      | inr whole ↦ elim (chosen (eqb (get_or bytes 0 0) 0) _ (Err (Version (get_or bytes 0 0))) (Err fault) whole.1) [
        | inl zero ↦ elim (chosen (eqb (get_or bytes 1 0 % 2) 0) (body_of bytes (drop 28 bytes)) (Err Metadata) (Err fault) zero.1) [
          | inl none ↦ body_fault bytes fault (record { whole = ltb-false _ _ whole.0; version = eqb-true _ _ zero.0; metadata = eqb-true _ _ none.0 }) none.1
          | inr some ↦ (let same : Metadata ≡ fault = (let f = some.1 in cc) in subst P same (ltb-false _ _ whole.0, eqb-true _ _ zero.0, eqb-false _ _ some.0))
        ]
        | inr other ↦ (let same : Version (get_or bytes 0 0) ≡ fault = (let f = other.1 in cc) in subst P same (ltb-false _ _ whole.0, refl, eqb-false _ _ other.0))
      ]
    ]

-- ---- and the first fault is read

sender_read : (bytes : List ℕ) (fault : HeaderFault) → name_at Sender (tag_in bytes Sender) (drop 28 bytes) ≡ Err fault → body_of bytes (drop 28 bytes) ≡ Err fault
unfolding body_of
sender_read bytes fault a = rw a refl

recipient_read : (bytes : List ℕ) (s : NameOf × List ℕ) (fault : HeaderFault) → name_at Sender (tag_in bytes Sender) (drop 28 bytes) ≡ Ok s
    → name_at Recipient (tag_in bytes Recipient) s.1 ≡ Err fault → body_of bytes (drop 28 bytes) ≡ Err fault
unfolding body_of
recipient_read bytes s fault a b = rw (a, b) refl

manifest_read : (bytes : List ℕ) (s r : NameOf × List ℕ) (fault : HeaderFault) → name_at Sender (tag_in bytes Sender) (drop 28 bytes) ≡ Ok s
    → name_at Recipient (tag_in bytes Recipient) s.1 ≡ Ok r → name_at Manifest (tag_in bytes Manifest) r.1 ≡ Err fault → body_of bytes (drop 28 bytes) ≡ Err fault
unfolding body_of
manifest_read bytes s r fault a b d = rw (a, b, d) refl

-- a literal that is read as faulty makes the bytes so, where those before it stand
body_stops : (which : Which) (bytes : List ℕ) (names : List NameOf) (rest : List ℕ) (fault : HeaderFault) → HaveTags bytes (names_before which) names → AreTexts names rest (drop 28 bytes)
    → name_at which (tag_in bytes which) rest ≡ Err fault → body_of bytes (drop 28 bytes) ≡ Err fault
body_stops Sender bytes [] rest fault t a e = sender_read bytes fault (ap (name_at Sender (tag_in bytes Sender)) a ∙ e)
body_stops Sender bytes (n ∷ names) rest fault t a e = absurd t
body_stops Recipient bytes [] rest fault t a e = absurd t
body_stops Recipient bytes (s ∷ []) rest fault t a e =
    let first = names_less (tag_in bytes Sender) (drop 28 bytes) s [] rest t.0 a in
    recipient_read bytes (s, first.0) fault (name_made Sender _ _ s first.0 first.1) (ap (name_at Recipient (tag_in bytes Recipient)) first.2 ∙ e)
body_stops Recipient bytes (s ∷ n ∷ names) rest fault t a e = absurd t.1
body_stops Manifest bytes [] rest fault t a e = absurd t
body_stops Manifest bytes (s ∷ []) rest fault t a e = absurd t.1
body_stops Manifest bytes (s ∷ r ∷ []) rest fault t a e =
    let first = names_less (tag_in bytes Sender) (drop 28 bytes) s (r ∷ []) rest t.0 a in
    let second = names_less (tag_in bytes Recipient) first.0 r [] rest t.1.0 first.2 in
    manifest_read bytes (s, first.0) (r, second.0) fault (name_made Sender _ _ s first.0 first.1) (name_made Recipient _ _ r second.0 second.1) (ap (name_at Manifest (tag_in bytes Manifest)) second.2 ∙ e)
body_stops Manifest bytes (s ∷ r ∷ n ∷ names) rest fault t a e = absurd t.1.1

pub first_read : (bytes : List ℕ) (fault : HeaderFault) → IsFirstFault bytes fault → read_of bytes ≡ Err fault
unfolding read_of
first_read bytes (Short len) f = cond-true _ _ _ (lt-ltb (length bytes) 28 f.0) ∙ ap (λ (n : ℕ). Err (Short n)) (sym f.1)
first_read bytes (Version v) f =
    let other : get_or bytes 0 0 ≢ 0 = λ z. f.2 (f.1 ∙ z) in
    cond-false _ _ _ (le-ltb (length bytes) 28 f.0) ∙ cond-false _ _ _ (ne_eqb (get_or bytes 0 0) 0 other) ∙ ap (λ (n : ℕ). Err (Version n)) (sym f.1)
first_read bytes Metadata f =
    cond-false _ _ _ (le-ltb (length bytes) 28 f.0) ∙ cond-true _ _ _ (eq-eqb (get_or bytes 0 0) 0 f.1) ∙ cond-false _ _ _ (ne_eqb (get_or bytes 1 0 % 2) 0 f.2)
first_read bytes (LiteralPast which) f =
    read_on bytes f.header.whole f.header.version f.header.metadata
    ∙ body_stops which bytes f.names f.rest (LiteralPast which) f.tags f.texts (past_name which (tag_in bytes which) f.rest f.literal f.faulty)
first_read bytes (NotAscii which) f =
    read_on bytes f.header.whole f.header.version f.header.metadata
    ∙ body_stops which bytes f.names f.rest (NotAscii which) f.tags f.texts (foreign_name which (tag_in bytes which) f.rest f.literal f.faulty)
