-- The line of an envelope is read as that envelope.
use Rattle.std.proofs.Common.{◌≡◌, ℕ, zero, suc, ◌^◌, ◌<◌, ◌≤◌, Bool, true, false, not, cond, eqb, List, [], ◌∷◌, ◌++◌, Some, Ok, refl, ap, ◌∙◌, arith, append_assoc}
use Rattle.std.specs.Prelude.{ℤ, FitsSigned, codes, decimal, flat_map, nat_lt, ◌||◌}
use Rattle.std.specs.Fmt.{signed_decimal}
use Rattle.std.specs.Int.{w32}
use Rattle.std.specs.List.{list_all, onto_first}
use Rattle.std.proofs.lemmas.Bool.{and_parts}
use Rattle.std.proofs.lemmas.Bool.Decides.{nat_tests}
use Rattle.std.proofs.lemmas.List.Splits.{slice_split-cons_no, slice_split-cons_yes}
use Rattle.artery_base.specs.Valid.{AreBytes, IsToken, is_visible}
use Rattle.artery_text.specs.Spelling.{word_text, hex_text, is_plain, is_reserved, escaped, word_piece}
use Rattle.artery_text.specs.Reading.{number_of, int32_of, word_of, hex_of}
use Rattle.artery_lines.specs.Lines.{is_space, tokens_of}
use Rattle.artery_header.specs.Envelope.{NameOf, Literal, Index, EnvelopeOf, is_text, IsName, IsAsciiName}
use Rattle.artery_capture.specs.FrameText.{name_text, numbers_text, names_text, contents_text}
use Rattle.artery_making.specs.Made.{literal_told, name_told, version_told, payload_told, fields_told, contents_in, contents_told}
use Rattle.artery_cli.specs.Lines.{CanBeTold}

-- what is promised of the texts of the parts
pub record Spellings : Type 0 where
  pub numbers_read : (n : ℕ) → n < 2 ^ 64 → number_of (decimal n) ≡ Some n
  pub int32s_read : (z : ℤ) → FitsSigned w32 z → int32_of (signed_decimal z) ≡ Some z
  pub hex_read : (bytes : List ℕ) → AreBytes bytes → hex_of (hex_text bytes) ≡ Ok bytes
  pub words_read : (bytes : List ℕ) → AreBytes bytes → word_of (word_text bytes) ≡ Ok bytes
  pub number_tokens : (n : ℕ) → n < 2 ^ 64 → IsToken (decimal n)
  pub int32_tokens : (z : ℤ) → FitsSigned w32 z → IsToken (signed_decimal z)
  pub hex_tokens : (bytes : List ℕ) → AreBytes bytes → IsToken (hex_text bytes)
  pub word_tokens : (bytes : List ℕ) → AreBytes bytes → IsToken (word_text bytes)

-- ---- names

ascii_bytes : (text : List ℕ) → is_text text ≡ true → AreBytes text
ascii_bytes [] h k = omega arith
ascii_bytes (b ∷ bs) h zero =
    let s = and_parts (nat_lt b 128) (is_text bs) h in
    grind (arith, nat_tests, s.0)
ascii_bytes (b ∷ bs) h (suc k) = ascii_bytes bs (and_parts (nat_lt b 128) (is_text bs) h).1 k

is_literal : (b : ℕ) (rest : List ℕ) → eqb b 64 ≡ false → name_told (b ∷ rest) ≡ literal_told (b ∷ rest)
is_literal b rest h = rw h refl

not_first : (x y : Bool) → (x || y) ≡ false → x ≡ false
not_first true y h = absurd cc
not_first false y h = refl

-- a word never begins with `@`
word_is_literal : (text : List ℕ) → name_told (word_text text) ≡ literal_told (word_text text)
word_is_literal [] = refl
word_is_literal (b ∷ bs) = by (is_reserved b bs) refl
  where
    plain : (p : Bool) → eqb b 64 ≡ false → name_told (cond p (b ∷ []) (escaped b) ++ flat_map word_piece bs) ≡ literal_told (cond p (b ∷ []) (escaped b) ++ flat_map word_piece bs)
    plain true e = is_literal b (flat_map word_piece bs) e
    plain false e = refl

    by : (r : Bool) → is_reserved b bs ≡ r → name_told (cond r (escaped b) (word_piece b) ++ flat_map word_piece bs) ≡ literal_told (cond r (escaped b) (word_piece b) ++ flat_map word_piece bs)
    by true e = refl
    by false e = plain (is_plain b) (not_first (eqb b 64) _ e)

small : (n most : ℕ) → n ≤ most → nat_lt most n ≡ false
small n most h = grind (arith, nat_tests, h)

name_back : Spellings → (name : NameOf) → IsName name → IsAsciiName name → name_told (name_text name) ≡ Some name
name_back l (Literal text) v a = word_is_literal text ∙ rw (l.words_read text (ascii_bytes text a), a) refl
name_back l (Index i) v a = rw (l.numbers_read i (omega (arith, v)), small i 65535 (omega (arith, v))) refl

version_back : Spellings → (n : ℕ) → n ≤ 255 → version_told (decimal n) ≡ Some n
version_back l n v = rw (l.numbers_read n (omega (arith, v)), small n 255 v) refl

payload_back : Spellings → (bytes : List ℕ) → AreBytes bytes → payload_told (hex_text bytes) ≡ Some bytes
payload_back l bytes v = rw (l.hex_read bytes v) refl

-- ---- tokens

abbrev NoSpace : List ℕ → Type 0
NoSpace text = list_all (λ b. not (is_space b)) text ≡ true

visible_no_space : (b : ℕ) → is_visible b ≡ true → not (is_space b) ≡ true
visible_no_space b h = grind (arith, nat_tests)

visible_all : (text : List ℕ) → list_all is_visible text ≡ true → NoSpace text
visible_all [] h = refl
visible_all (b ∷ bs) h =
    let s = and_parts (is_visible b) (list_all is_visible bs) h in
    rw (visible_no_space b s.0, visible_all bs s.1) refl

token_no_space : (text : List ℕ) → IsToken text → NoSpace text
token_no_space text h = visible_all text h.visible

name_no_space : Spellings → (name : NameOf) → IsName name → IsAsciiName name → NoSpace (name_text name)
name_no_space l (Literal text) v a = token_no_space (word_text text) (l.word_tokens text (ascii_bytes text a))
name_no_space l (Index i) v a = token_no_space (decimal i) (l.number_tokens i (omega (arith, v)))

not_is : (b : Bool) → not b ≡ true → b ≡ false
not_is true h = absurd cc
not_is false h = refl

last_token : (text : List ℕ) → NoSpace text → tokens_of text ≡ text ∷ []
last_token [] h = refl
last_token (x ∷ xs) h =
    let s = and_parts (not (is_space x)) (list_all (λ b. not (is_space b)) xs) h in
    slice_split-cons_no is_space x xs (not_is (is_space x) s.0) ∙ ap (onto_first x) (last_token xs s.1)

token : (text rest : List ℕ) → NoSpace text → tokens_of (text ++ 32 ∷ rest) ≡ text ∷ tokens_of rest
token [] rest h = slice_split-cons_yes is_space 32 rest refl
token (x ∷ xs) rest h =
    let s = and_parts (not (is_space x)) (list_all (λ b. not (is_space b)) xs) h in
    slice_split-cons_no is_space x (xs ++ 32 ∷ rest) (not_is (is_space x) s.0) ∙ ap (onto_first x) (token xs rest s.1)

-- a token, and the tokens of what stands behind it
then_tokens : (text rest : List ℕ) (ts : List (List ℕ)) → NoSpace text → tokens_of rest ≡ ts → tokens_of (text ++ 32 ∷ rest) ≡ text ∷ ts
then_tokens text rest ts h e = token text rest h ∙ ap (λ (left : List (List ℕ)). text ∷ left) e

-- ---- the line

two : (x y rest : List ℕ) → ((x ++ codes " ") ++ y) ++ rest ≡ x ++ 32 ∷ (y ++ rest)
two x y rest = append_assoc (x ++ codes " ") y rest ∙ append_assoc x (codes " ") (y ++ rest)

numbers_row : (u r v s rest : List ℕ) → (u ++ codes " " ++ r ++ codes " " ++ v ++ codes " " ++ s) ++ rest ≡ u ++ 32 ∷ (r ++ 32 ∷ (v ++ 32 ∷ (s ++ rest)))
numbers_row u r v s rest = two (u ++ codes " " ++ r ++ codes " " ++ v) s rest ∙ two (u ++ codes " " ++ r) v (32 ∷ (s ++ rest)) ∙ two u r (32 ∷ (v ++ 32 ∷ (s ++ rest)))

names_row : (a b d rest : List ℕ) → (a ++ codes " " ++ b ++ codes " " ++ d) ++ rest ≡ a ++ 32 ∷ (b ++ 32 ∷ (d ++ rest))
names_row a b d rest = two (a ++ codes " " ++ b) d rest ∙ two a b (32 ∷ (d ++ rest))

three_row : (n m h : List ℕ) → n ++ codes " " ++ m ++ codes " " ++ h ≡ n ++ 32 ∷ (m ++ 32 ∷ h)
three_row n m h = append_assoc (n ++ codes " " ++ m) (codes " ") h ∙ two n m (32 ∷ h)

contents_row : (e : EnvelopeOf) → contents_text e ≡ decimal e.uid ++ 32 ∷ (decimal e.refs_version ++ 32 ∷ (decimal e.manifests_version ++ 32 ∷ (signed_decimal e.serializer
    ++ 32 ∷ (name_text e.sender ++ 32 ∷ (name_text e.recipient ++ 32 ∷ (name_text e.manifest ++ 32 ∷ hex_text e.payload))))))
contents_row e =
    three_row (numbers_text e) (names_text e) (hex_text e.payload)
    ∙ ap (λ (t : List ℕ). numbers_text e ++ 32 ∷ t) (names_row (name_text e.sender) (name_text e.recipient) (name_text e.manifest) (32 ∷ hex_text e.payload))
    ∙ numbers_row (decimal e.uid) (decimal e.refs_version) (decimal e.manifests_version) (signed_decimal e.serializer)
    (32 ∷ (name_text e.sender ++ 32 ∷ (name_text e.recipient ++ 32 ∷ (name_text e.manifest ++ 32 ∷ hex_text e.payload))))

abbrev fields_of : EnvelopeOf → List (List ℕ)
fields_of e = decimal e.uid ∷ decimal e.refs_version ∷ decimal e.manifests_version ∷ signed_decimal e.serializer
    ∷ name_text e.sender ∷ name_text e.recipient ∷ name_text e.manifest ∷ hex_text e.payload ∷ []

number_no_space : Spellings → (n : ℕ) → n < 2 ^ 64 → NoSpace (decimal n)
number_no_space l n v = token_no_space (decimal n) (l.number_tokens n v)

contents_tokens : Spellings → (e : EnvelopeOf) → CanBeTold e → tokens_of (contents_text e) ≡ fields_of e
contents_tokens l e h =
    ap tokens_of (contents_row e)
    ∙ then_tokens (decimal e.uid) _ _ (number_no_space l e.uid h.numbers.uid)
    (then_tokens (decimal e.refs_version) _ _ (number_no_space l e.refs_version (omega (arith, h.refs)))
    (then_tokens (decimal e.manifests_version) _ _ (number_no_space l e.manifests_version (omega (arith, h.manifests)))
    (then_tokens (signed_decimal e.serializer) _ _ (token_no_space (signed_decimal e.serializer) (l.int32_tokens e.serializer h.numbers.serializer))
    (then_tokens (name_text e.sender) _ _ (name_no_space l e.sender h.numbers.sender h.texts.sender)
    (then_tokens (name_text e.recipient) _ _ (name_no_space l e.recipient h.numbers.recipient h.texts.recipient)
    (then_tokens (name_text e.manifest) _ _ (name_no_space l e.manifest h.numbers.manifest h.texts.manifest)
    (last_token (hex_text e.payload) (token_no_space (hex_text e.payload) (l.hex_tokens e.payload h.payload)))))))))

fields_back : Spellings → (e : EnvelopeOf) → CanBeTold e → fields_told (fields_of e) ≡ Some e
unfolding fields_told
fields_back l e h = rw (
  l.numbers_read e.uid h.numbers.uid,
  version_back l e.refs_version h.refs,
  version_back l e.manifests_version h.manifests,
  l.int32s_read e.serializer h.numbers.serializer,
  name_back l e.sender h.numbers.sender h.texts.sender,
  name_back l e.recipient h.numbers.recipient h.texts.recipient,
  name_back l e.manifest h.numbers.manifest h.texts.manifest,
  payload_back l e.payload h.payload,
) refl

-- the line of an envelope tells it
pub frame_back : Spellings → (e : EnvelopeOf) → CanBeTold e → contents_told (codes "frame " ++ contents_text e) ≡ Some e
frame_back l e h =
    ap contents_in (then_tokens (codes "frame") (contents_text e) (fields_of e) refl (contents_tokens l e h))
    ∙ fields_back l e h
