-- Bytes as a word, piece by piece.
use Rattle.std.proofs.Common.{◌≡◌, ℕ, suc, ◌+◌, ◌-◌, ◌/◌, ◌%◌, ◌<◌, ◌≤◌, Bool, true, false, not, cond, eqb, List, [], ◌∷◌, ◌++◌, length, get_or, take, drop, Option, Some, None, Result, Ok, Err, refl, sym, ap, ◌∙◌, arith, append_assoc, subst, inl, inr, ◌⊎◌}
use Rattle.std.specs.Prelude.{◌&&◌, ◌||◌, nat_eq, flat_map, codes, bytes_eq, IfOk}
use Rattle.std.specs.List.{starts_with, list_all}
use Rattle.std.proofs.lemmas.Bool.{cases_eq, eqb-true, and_parts}
use Rattle.std.proofs.lemmas.Bool.Decides.{nat_tests}
use Rattle.std.proofs.lemmas.List.{append-nil, length-drop, take_all}
use Rattle.std.proofs.lemmas.Slice.Eq.{bytes_eq-Decides}
use Rattle.artery_text.specs.declared.fault.WordFault.{WordFault}
use Rattle.artery_text.specs.declared.fault.WordFault.TheVariants as word_faults
use Rattle.artery_text.specs.Spelling.{AreBytes, hex_digit, hex_pair, is_plain, escaped, word_piece, is_reserved, word_text}
use Rattle.artery_text.specs.Reading.{later, bytes_or_fault, is_hex_digit, pair_value, is_escape, escape_of, bad_piece, pieces_value, pieces_from, bad_word, word_of, Gives, word_memory}
use Rattle.artery_text.proofs.HexPairs.{later_later, zero_add, bad_at, when_some, when_none, pair_back, pair_spelled, rest_bytes, later_none, fault_none, if_text, not_zero}

-- a plain byte in front
pub plain_bad : (a : ℕ) (rest : List ℕ) → is_plain a ≡ true → bad_piece (a ∷ rest) ≡ later 1 (bad_piece rest)
plain_bad a [] h = rw h refl
plain_bad a (b ∷ []) h = rw h refl
plain_bad a (b ∷ c ∷ rest) h = rw h refl

plain_mark : (a : ℕ) → is_plain a ≡ true → eqb a 37 ≡ false
plain_mark a h = grind (arith, nat_tests)

pub plain_value : (a : ℕ) (rest : List ℕ) → is_plain a ≡ true → pieces_value (a ∷ rest) ≡ a ∷ pieces_value rest
plain_value a [] h = refl
plain_value a (b ∷ []) h = refl
plain_value a (b ∷ c ∷ rest) h = rw (plain_mark a h) refl

plain_goes : (bytes : List ℕ) (at a : ℕ) (rest : List ℕ) → is_plain a ≡ true → pieces_from (bytes ++ a ∷ []) (at + 1) rest ≡ pieces_from bytes at (a ∷ rest)
plain_goes bytes at a rest h =
    rw (plain_value a rest h, plain_bad a rest h, append_assoc bytes (a ∷ []) (pieces_value rest), later_later at 1 (bad_piece rest)) refl

-- an escape in front
record Escape (a b c v : ℕ) : Type 0 where
  mark : eqb a 37 ≡ true
  plain : is_plain a ≡ false
  test : is_escape a b c ≡ true
  value : pair_value b c ≡ v

mark_not_plain : (a : ℕ) → eqb a 37 ≡ true → is_plain a ≡ false
mark_not_plain a h = grind (arith, nat_tests)

escape_parts : (a b c v : ℕ) → cond (is_escape a b c) (Some (pair_value b c)) None ≡ Some v → Escape a b c v
escape_parts a b c v h =
    let w = when_some (is_escape a b c) (pair_value b c) v h in
    let p = and_parts (eqb a 37 && is_hex_digit b && is_hex_digit c) _ w.0 in
    let q = and_parts (eqb a 37 && is_hex_digit b) (is_hex_digit c) p.0 in
    let r = and_parts (eqb a 37) (is_hex_digit b) q.0 in
    record { mark = r.0; plain = mark_not_plain a r.0; test = w.0; value = w.1 }

escape_goes : (bytes : List ℕ) (at v : ℕ) (text : List ℕ) → escape_of text ≡ Some v → pieces_from (bytes ++ v ∷ []) (at + 3) (drop 3 text) ≡ pieces_from bytes at text
escape_goes bytes at v [] h = absurd cc
escape_goes bytes at v (a ∷ []) h = absurd cc
escape_goes bytes at v (a ∷ b ∷ []) h = absurd cc
escape_goes bytes at v (a ∷ b ∷ c ∷ rest) h =
    let e = escape_parts a b c v h in
    rw (e.plain, e.test, e.mark, e.value, append_assoc bytes (v ∷ []) (pieces_value rest), later_later at 3 (bad_piece rest)) refl

pub escape_long : (text : List ℕ) (v : ℕ) → escape_of text ≡ Some v → 3 ≤ length text
escape_long [] v h = absurd cc
escape_long (a ∷ []) v h = absurd cc
escape_long (a ∷ b ∷ []) v h = absurd cc
escape_long (a ∷ b ∷ c ∷ rest) v h = omega arith

-- neither
pub piece_fails : (bytes : List ℕ) (at : ℕ) (text : List ℕ) → 0 < length text → is_plain (get_or text 0 0) ≡ false → escape_of text ≡ None → pieces_from bytes at text ≡ Err (word_faults.BadWord at)
piece_fails bytes at [] lt h e = absurd (omega arith)
piece_fails bytes at (a ∷ []) lt h e = rw h (ap bad_at (zero_add at))
piece_fails bytes at (a ∷ b ∷ []) lt h e = rw h (ap bad_at (zero_add at))
piece_fails bytes at (a ∷ b ∷ c ∷ rest) lt h e = rw (h, when_none (is_escape a b c) (pair_value b c) e) (ap bad_at (zero_add at))

pub pieces_end : (bytes : List ℕ) (at : ℕ) (rest : List ℕ) → length rest ≡ 0 → pieces_from bytes at rest ≡ Ok bytes
pieces_end bytes at [] h = ap (λ (bs : List ℕ). Ok bs) (append-nil bytes)
pieces_end bytes at (a ∷ rest) h = absurd (omega arith)

-- the turns of the loop
pub plain_on : (bytes : List ℕ) (at : ℕ) (rest new : List ℕ) (total : Result (List ℕ) WordFault) → 0 < length rest → is_plain (get_or rest 0 0) ≡ true
    → new ≡ bytes ++ get_or rest 0 0 ∷ [] → pieces_from bytes at rest ≡ total → pieces_from new (at + 1) (take (length rest - 1) (drop 1 rest)) ≡ total
plain_on bytes at [] new total lt h e so_far = absurd (omega arith)
plain_on bytes at (a ∷ rest) new total lt h e so_far =
    let whole : take (length (a ∷ rest) - 1) rest ≡ rest = take_all (length (a ∷ rest) - 1) rest (omega arith) in
    rw (whole, e) (plain_goes bytes at a rest h ∙ so_far)

pub escape_on : (bytes : List ℕ) (at v : ℕ) (rest new : List ℕ) (total : Result (List ℕ) WordFault) → escape_of rest ≡ Some v
    → new ≡ bytes ++ v ∷ [] → pieces_from bytes at rest ≡ total → pieces_from new (at + 3) (take (length rest - 3) (drop 3 rest)) ≡ total
escape_on bytes at v rest new total h e so_far =
    let whole : take (length rest - 3) (drop 3 rest) ≡ drop 3 rest = take_all (length rest - 3) (drop 3 rest) (omega (arith, length-drop 3 rest)) in
    rw (whole, e) (escape_goes bytes at v rest h ∙ so_far)

-- ---- what is spelled is read

false_when : (t : Bool) → (t ≡ true → ⊥) → t ≡ false
false_when true h = absurd (h refl)
false_when false h = refl

some_none : {n : ℕ} → Some n ≡ None → ⊥
some_none h = absurd cc

not_true : (t : Bool) → not t ≡ true → t ≡ false
not_true true h = absurd cc
not_true false h = refl

if_none_true : (t : Bool) (o : Option ℕ) → cond t o (Some 0) ≡ None → t ≡ true
if_none_true true o h = refl
if_none_true false o h = absurd cc

-- bytes as pieces
record Pieces (text bytes : List ℕ) : Type 0 where
  good : bad_piece text ≡ None
  value : pieces_value text ≡ bytes

escape_made : (a b c v : ℕ) (rest : List ℕ) (bytes : List ℕ) → Escape a b c v → Pieces rest bytes → Pieces (a ∷ b ∷ c ∷ rest) (v ∷ bytes)
escape_made a b c v rest bytes e p = record { good = rw (e.plain, e.test, p.good) refl; value = rw (e.mark, e.value, p.value) refl }

escaped_parts : (b : ℕ) → b < 256 → is_plain b ≡ false → Escape 37 (hex_digit (b / 16)) (hex_digit (b % 16)) b
escaped_parts b h n =
    let w = when_some (is_hex_digit (hex_digit (b / 16)) && is_hex_digit (hex_digit (b % 16))) (pair_value (hex_digit (b / 16)) (hex_digit (b % 16))) b (pair_back b h) in
    let p = and_parts (is_hex_digit (hex_digit (b / 16))) (is_hex_digit (hex_digit (b % 16))) w.0 in
    record { mark = refl; plain = refl; test = rw (p.0, p.1, w.1, n) refl; value = w.1 }

piece_made : (b : ℕ) (rest bytes : List ℕ) (t : Bool) → is_plain b ≡ t → b < 256 → Pieces rest bytes → Pieces (cond t (b ∷ []) (escaped b) ++ rest) (b ∷ bytes)
piece_made b rest bytes true h small p = record { good = plain_bad b rest h ∙ ap (later 1) p.good; value = plain_value b rest h ∙ ap (λ (bs : List ℕ). b ∷ bs) p.value }
piece_made b rest bytes false h small p = escape_made 37 (hex_digit (b / 16)) (hex_digit (b % 16)) b rest bytes (escaped_parts b small h) p

pieces_back : (bytes : List ℕ) → AreBytes bytes → Pieces (flat_map word_piece bytes) bytes
pieces_back [] h = record { good = refl; value = refl }
pieces_back (b ∷ bytes) h = piece_made b (flat_map word_piece bytes) bytes (is_plain b) refl (h 0) (pieces_back bytes (rest_bytes b bytes h))

-- ---- what is read was spelled so

plain_word : (a : ℕ) (rest : List ℕ) → is_plain a ≡ true → flat_map word_piece (a ∷ rest) ≡ a ∷ flat_map word_piece rest
plain_word a rest h = rw h refl

escaped_word : (a : ℕ) (rest : List ℕ) → is_plain a ≡ false → flat_map word_piece (a ∷ rest) ≡ 37 ∷ (hex_pair a ++ flat_map word_piece rest)
escaped_word a rest h = rw h refl

abbrev Spelled : List ℕ → Type 0
Spelled text = bad_piece text ≡ None → flat_map word_piece (pieces_value text) ≡ text

plain_spelled : (a : ℕ) (rest : List ℕ) → is_plain a ≡ true → Spelled rest → Spelled (a ∷ rest)
plain_spelled a rest p ih h =
    ap (flat_map word_piece) (plain_value a rest p) ∙ plain_word a (pieces_value rest) p
    ∙ ap (λ (bs : List ℕ). a ∷ bs) (ih (later_none 1 (bad_piece rest) (sym (plain_bad a rest p) ∙ h)))

escape_whole : (a b c v : ℕ) → is_escape a b c ≡ true → Escape a b c (pair_value b c) × (is_plain (pair_value b c) ≡ false) × (hex_pair (pair_value b c) ≡ b ∷ c ∷ []) × (a ≡ 37)
escape_whole a b c v h =
    let p = and_parts (eqb a 37 && is_hex_digit b && is_hex_digit c) (not (is_plain (pair_value b c))) h in
    let q = and_parts (eqb a 37 && is_hex_digit b) (is_hex_digit c) p.0 in
    let r = and_parts (eqb a 37) (is_hex_digit b) q.0 in
    let both : (is_hex_digit b && is_hex_digit c) ≡ true = rw (r.1, q.1) refl in
    (escape_parts a b c (pair_value b c) (rw h refl), not_true (is_plain (pair_value b c)) p.1, (pair_spelled b c both).0, eqb-true a 37 r.0)

escape_spelled : (a b c : ℕ) (rest : List ℕ) → is_escape a b c ≡ true → Spelled rest → Spelled (a ∷ b ∷ c ∷ rest)
escape_spelled a b c rest t ih h =
    let e = escape_whole a b c 0 t in
    let one : bad_piece (a ∷ b ∷ c ∷ rest) ≡ later 3 (bad_piece rest) = rw (e.0.plain, t) refl in
    let value : pieces_value (a ∷ b ∷ c ∷ rest) ≡ pair_value b c ∷ pieces_value rest = rw e.0.mark refl in
    ap (flat_map word_piece) value ∙ escaped_word (pair_value b c) (pieces_value rest) e.1
    ∙ ap (λ (digits : List ℕ). 37 ∷ (digits ++ flat_map word_piece (pieces_value rest))) e.2
    ∙ ap (λ (bs : List ℕ). 37 ∷ b ∷ c ∷ bs) (ih (later_none 3 (bad_piece rest) (sym one ∙ h)))
    ∙ ap (λ (k : ℕ). k ∷ b ∷ c ∷ rest) (sym e.3)

neither_spelled : (a b c : ℕ) (rest : List ℕ) (t : Bool) → is_plain a ≡ false → is_escape a b c ≡ t → Spelled rest → Spelled (a ∷ b ∷ c ∷ rest)
neither_spelled a b c rest true n t ih h = escape_spelled a b c rest t ih h
neither_spelled a b c rest false n t ih h =
    let one : bad_piece (a ∷ b ∷ c ∷ rest) ≡ Some 0 = rw (n, t) refl in
    absurd (some_none (sym one ∙ h))

spelled_three : (a b c : ℕ) (rest : List ℕ) (t : Bool) → is_plain a ≡ t → Spelled (b ∷ c ∷ rest) → Spelled rest → Spelled (a ∷ b ∷ c ∷ rest)
spelled_three a b c rest true p ih ih3 h = plain_spelled a (b ∷ c ∷ rest) p ih h
spelled_three a b c rest false p ih ih3 h = neither_spelled a b c rest (is_escape a b c) p refl ih3 h

pieces_spelled : (text : List ℕ) → Spelled text
pieces_spelled [] h = refl
pieces_spelled (a ∷ []) h = plain_spelled a [] (if_none_true (is_plain a) None h) (pieces_spelled []) h
pieces_spelled (a ∷ b ∷ []) h = plain_spelled a (b ∷ []) (if_none_true (is_plain a) (later 1 (bad_piece (b ∷ []))) h) (pieces_spelled (b ∷ [])) h
pieces_spelled (a ∷ b ∷ c ∷ rest) h = spelled_three a b c rest (is_plain a) refl (pieces_spelled (b ∷ c ∷ rest)) (pieces_spelled rest) h

-- ---- whole words

first_value : (text : List ℕ) (b : ℕ) (bytes : List ℕ) → get_or text 0 0 ≡ 64 → pieces_value text ≡ b ∷ bytes → b ≡ 64
first_value [] b bytes h e = absurd cc
first_value (x ∷ []) b bytes h e = cc
first_value (x ∷ y ∷ []) b bytes h e = cc
first_value (x ∷ y ∷ z ∷ rest) b bytes h e =
    let other : eqb x 37 ≡ false = grind (arith, nat_tests) in
    let value : pieces_value (x ∷ y ∷ z ∷ rest) ≡ x ∷ pieces_value (y ∷ z ∷ rest) = rw other refl in
    let same : x ∷ pieces_value (y ∷ z ∷ rest) ≡ b ∷ bytes = sym value ∙ e in
    cc

reserved_at : (b : ℕ) (bytes : List ℕ) → b ≡ 64 → is_reserved b bytes ≡ true
reserved_at b bytes h = rw h refl

reserved_dash : (b : ℕ) (bytes : List ℕ) → b ≡ 45 → bytes ≡ [] → is_reserved b bytes ≡ true
reserved_dash b bytes h e = rw (h, e) refl

true_false : (t : Bool) → t ≡ true → t ≡ false → ⊥
true_false t h e = absurd cc

empty_value : (text : List ℕ) (b : ℕ) (bytes : List ℕ) → length text ≡ 0 → pieces_value text ≡ b ∷ bytes → ⊥
empty_value [] b bytes h e = absurd cc
empty_value (x ∷ text) b bytes h e = absurd (omega arith)

at_front : (text : List ℕ) → codes "%40" ≡ take 3 text → bad_piece text ≡ None → ⊥
at_front [] e good = absurd cc
at_front (x ∷ []) e good = absurd cc
at_front (x ∷ y ∷ []) e good = absurd cc
at_front (x ∷ y ∷ z ∷ rest) e good =
    let same : 37 ∷ 52 ∷ 48 ∷ [] ≡ x ∷ y ∷ z ∷ [] = e in
    let bad : bad_piece (37 ∷ 52 ∷ 48 ∷ rest) ≡ Some 0 = refl in
    let moved : bad_piece (x ∷ y ∷ z ∷ rest) ≡ Some 0 = subst (λ (bs : List ℕ). bad_piece (bs ++ rest) ≡ Some 0) same bad in
    some_none (sym moved ∙ good)

at_first : (text : List ℕ) → starts_with nat_eq text (codes "%40") ≡ true → bad_piece text ≡ None → ⊥
at_first text t good =
    let front : codes "%40" ≡ take 3 text = (bytes_eq-Decides (codes "%40") (take 3 text)).0 t in
    at_front text front good

at_word : (text bytes : List ℕ) → Pieces text bytes → word_of (37 ∷ 52 ∷ 48 ∷ text) ≡ Ok (64 ∷ bytes)
at_word text bytes p = rw (not_zero (suc (suc (length text))), p.good, p.value) refl

dash_alone : (b : ℕ) (bytes : List ℕ) → is_reserved b bytes ≡ true → (b ≡ 64 → ⊥) → (b ≡ 45) × (bytes ≡ [])
dash_alone b [] h n = (grind (arith, nat_tests), refl)
dash_alone b (x ∷ bytes) h n = absurd (grind (arith, nat_tests))

reserved_word : (b : ℕ) (bytes : List ℕ) → AreBytes (b ∷ bytes) → is_reserved b bytes ≡ true → word_of (escaped b ++ flat_map word_piece bytes) ≡ Ok (b ∷ bytes)
reserved_word b bytes h e = elim (cases_eq b 64) [
  | inl at ↦ rw at (at_word (flat_map word_piece bytes) bytes (pieces_back bytes (rest_bytes b bytes h)))
  | inr other ↦
      let d = dash_alone b bytes e other in
      rw (d.0, d.1) refl
]

-- a text of pieces that no rule on a whole word concerns
plain_word_of : (text : List ℕ) (b : ℕ) (bytes : List ℕ) → bad_piece text ≡ None → pieces_value text ≡ b ∷ bytes → is_reserved b bytes ≡ false → word_of text ≡ Ok (b ∷ bytes)
plain_word_of text b bytes good value free =
    let dash : bytes_eq text (codes "-") ≡ false = false_when _ (λ t.
    let e : text ≡ codes "-" = (bytes_eq-Decides text (codes "-")).0 t in
    let v : 45 ∷ [] ≡ b ∷ bytes = ap pieces_value (sym e) ∙ value in
    let e1 : b ≡ 45 = cc in
    let e2 : bytes ≡ [] = cc in
    true_false (is_reserved b bytes) (reserved_dash b bytes e1 e2) free) in
    let some : eqb (length text) 0 ≡ false = false_when _ (λ t. empty_value text b bytes (eqb-true (length text) 0 t) value) in
    let at : eqb (get_or text 0 0) 64 ≡ false = false_when _ (λ t. true_false (is_reserved b bytes) (reserved_at b bytes (first_value text b bytes (eqb-true (get_or text 0 0) 64 t) value)) free) in
    let lone : bytes_eq text (codes "%2d") ≡ false = false_when _ (λ t. some_none (ap bad_piece (sym ((bytes_eq-Decides text (codes "%2d")).0 t)) ∙ good)) in
    let mark : starts_with nat_eq text (codes "%40") ≡ false = false_when _ (λ t. at_first text t good) in
    rw (dash, some, at, lone, mark, good, value) refl

spelled_word : (b : ℕ) (bytes : List ℕ) (t : Bool) → AreBytes (b ∷ bytes) → is_reserved b bytes ≡ t → word_of (cond t (escaped b) (word_piece b) ++ flat_map word_piece bytes) ≡ Ok (b ∷ bytes)
spelled_word b bytes false h e =
    let p = pieces_back (b ∷ bytes) h in
    plain_word_of (flat_map word_piece (b ∷ bytes)) b bytes p.good p.value e
spelled_word b bytes true h e = reserved_word b bytes h e

-- the word of bytes reads as them
pub word_of-word_text : (bytes : List ℕ) → AreBytes bytes → word_of (word_text bytes) ≡ Ok bytes
word_of-word_text [] h = refl
word_of-word_text (b ∷ bytes) h = spelled_word b bytes (is_reserved b bytes) h refl

three : (text : List ℕ) → codes "%40" ≡ take 3 text → text ≡ 37 ∷ 52 ∷ 48 ∷ drop 3 text
three [] e = absurd cc
three (x ∷ []) e = absurd cc
three (x ∷ y ∷ []) e = absurd cc
three (x ∷ y ∷ z ∷ rest) e =
    let same : 37 ∷ 52 ∷ 48 ∷ [] ≡ x ∷ y ∷ z ∷ [] = e in
    ap (λ (bs : List ℕ). bs ++ rest) (sym same)

three_at : (text : List ℕ) → starts_with nat_eq text (codes "%40") ≡ true → text ≡ 37 ∷ 52 ∷ 48 ∷ drop 3 text
three_at text t = three text ((bytes_eq-Decides (codes "%40") (take 3 text)).0 t)

at_reads : (rest : List ℕ) → word_of (37 ∷ 52 ∷ 48 ∷ rest) ≡ pieces_from (64 ∷ []) 3 rest
at_reads rest = rw (not_zero (suc (suc (length rest)))) refl

-- the calls that read pieces give what the word reads as
pub at_given : (result : Result (List ℕ) WordFault) (text front rest : List ℕ) → starts_with nat_eq text (codes "%40") ≡ true → front ≡ 64 ∷ [] → rest ≡ drop 3 text
    → Gives word_memory result (pieces_from front 3 rest) → Gives word_memory result (word_of text)
at_given result text front rest t f r given =
    let same : pieces_from front 3 rest ≡ word_of text = rw (f, r) (sym (at_reads (drop 3 text)) ∙ ap word_of (sym (three_at text t))) in
    subst (λ (x : Result (List ℕ) WordFault). Gives word_memory result x) same given

later_zero : (o : Option ℕ) → later 0 o ≡ o
later_zero None = refl
later_zero (Some at) = ap (λ (k : ℕ). Some k) (omega arith)

pub other_given : (result : Result (List ℕ) WordFault) (text front : List ℕ) → bytes_eq text (codes "-") ≡ false → eqb (length text) 0 ≡ false → eqb (get_or text 0 0) 64 ≡ false
    → bytes_eq text (codes "%2d") ≡ false → starts_with nat_eq text (codes "%40") ≡ false → front ≡ []
    → Gives word_memory result (pieces_from front 0 text) → Gives word_memory result (word_of text)
other_given result text front dash some at lone mark f given =
    let same : pieces_from front 0 text ≡ word_of text = rw (f, dash, some, at, lone, mark, later_zero (bad_piece text)) refl in
    subst (λ (x : Result (List ℕ) WordFault). Gives word_memory result x) same given

-- ---- the other direction

reserved_not : (text : List ℕ) (b : ℕ) (bytes : List ℕ) → is_reserved b bytes ≡ true → eqb (get_or text 0 0) 64 ≡ false → bytes_eq text (codes "-") ≡ false → flat_map word_piece (b ∷ bytes) ≡ text → ⊥
reserved_not text b bytes t at dash e = elim (cases_eq b 64) [
  | inl same ↦
      let front : get_or text 0 0 ≡ 64 = rw (← e, same) refl in
      true_false (eqb (get_or text 0 0) 64) (rw front refl) at
  | inr other ↦
      let d = dash_alone b bytes t other in
      let whole : text ≡ codes "-" = rw (← e, d.0, d.1) refl in
      true_false (bytes_eq text (codes "-")) (rw whole refl) dash
]

word_of_pieces : (text bytes : List ℕ) → eqb (length text) 0 ≡ false → eqb (get_or text 0 0) 64 ≡ false → bytes_eq text (codes "-") ≡ false → flat_map word_piece bytes ≡ text → text ≡ word_text bytes
word_of_pieces text [] some at dash e = absurd (true_false (eqb (length text) 0) (rw (← e) refl) some)
word_of_pieces text (b ∷ bytes) some at dash e =
    let free : is_reserved b bytes ≡ false = false_when _ (λ t. reserved_not text b bytes t at dash e) in
    rw free (sym e)

if_else : (t : Bool) (o p : Option ℕ) → cond t o p ≡ None → ((t ≡ true) × (o ≡ None)) ⊎ ((t ≡ false) × (p ≡ None))
if_else true o p h = inl (refl, h)
if_else false o p h = inr (refl, h)

pub parts_false : (x y : Bool) → (x || y) ≡ false → (x ≡ false) × (y ≡ false)
parts_false true y h = absurd cc
parts_false false y h = (refl, h)

dash_word : (text bytes : List ℕ) → text ≡ codes "%2d" → pieces_value text ≡ bytes → text ≡ word_text bytes
dash_word text bytes e v =
    let b : 45 ∷ [] ≡ bytes = ap pieces_value (sym e) ∙ v in
    e ∙ ap word_text b

at_spelled : (text bytes : List ℕ) → text ≡ 37 ∷ 52 ∷ 48 ∷ drop 3 text → bad_piece (drop 3 text) ≡ None → pieces_value text ≡ bytes → text ≡ word_text bytes
at_spelled text bytes e good v =
    let b : 64 ∷ pieces_value (drop 3 text) ≡ bytes = sym (ap pieces_value e) ∙ v in
    e ∙ ap (λ (bs : List ℕ). 37 ∷ 52 ∷ 48 ∷ bs) (sym (pieces_spelled (drop 3 text) good)) ∙ ap word_text b

good_word : (text bytes : List ℕ) → bytes_eq text (codes "-") ≡ false → bad_word text ≡ None → pieces_value text ≡ bytes → text ≡ word_text bytes
good_word text bytes dash good value = elim (if_else (eqb (length text) 0 || eqb (get_or text 0 0) 64) (Some 0) _ good) [
  | inl e ↦ absurd (some_none e.1)
  | inr e ↦
      let first = parts_false (eqb (length text) 0) (eqb (get_or text 0 0) 64) e.0 in
      elim (if_else (bytes_eq text (codes "%2d")) None _ e.1) [
        | inl d ↦ dash_word text bytes ((bytes_eq-Decides text (codes "%2d")).0 d.0) value
        | inr d ↦ elim (if_else (starts_with nat_eq text (codes "%40")) (later 3 (bad_piece (drop 3 text))) (bad_piece text) d.1) [
          | inl m ↦ at_spelled text bytes (three_at text m.0) (later_none 3 (bad_piece (drop 3 text)) m.1) value
          | inr m ↦ word_of_pieces text bytes first.0 first.1 dash (ap (flat_map word_piece) (sym value) ∙ pieces_spelled text m.1)
        ]
      ]
]

-- what reads as bytes is their word
pub word_of-Ok : (text bytes : List ℕ) → word_of text ≡ Ok bytes → text ≡ word_text bytes
word_of-Ok text bytes h = elim (if_text (bytes_eq text (codes "-")) bytes (bytes_or_fault (pieces_value text) (bad_word text)) h) [
  | inl e ↦ rw e.1 ((bytes_eq-Decides text (codes "-")).0 e.0)
  | inr e ↦
      let f = fault_none (pieces_value text) bytes (bad_word text) e.1 in
      good_word text bytes e.0 f.0 f.1
]

pub word_found : (text : List ℕ) (result : Result (List ℕ) WordFault) → Gives word_memory result (word_of text) → IfOk result (λ b. text ≡ word_text b)
word_found text (Ok b) h = word_of-Ok text b h
word_found text (Err e) h = tt

pub word_again : (text bytes : List ℕ) (result : Result (List ℕ) WordFault) → Gives word_memory result (word_of text) → AreBytes bytes → text ≡ word_text bytes → Gives word_memory result (Ok bytes)
word_again text bytes result h small e = subst (λ (r : Result (List ℕ) WordFault). Gives word_memory result r) (ap word_of e ∙ word_of-word_text bytes small) h

plain_pieces : (bytes : List ℕ) → list_all is_plain bytes ≡ true → flat_map word_piece bytes ≡ bytes
plain_pieces [] h = refl
plain_pieces (b ∷ bytes) h =
    let t = and_parts (is_plain b) (list_all is_plain bytes) h in
    rw t.0 (ap (λ (rest : List ℕ). b ∷ rest) (plain_pieces bytes t.1))

-- a word of plain bytes, the first of them not reserved, is the bytes themselves
pub word_as_it_is : (b : ℕ) (bytes : List ℕ) → is_reserved b bytes ≡ false → list_all is_plain (b ∷ bytes) ≡ true → word_text (b ∷ bytes) ≡ b ∷ bytes
word_as_it_is b bytes r h =
    let t = and_parts (is_plain b) (list_all is_plain bytes) h in
    rw (r, t.0) (ap (λ (rest : List ℕ). b ∷ rest) (plain_pieces bytes t.1))
