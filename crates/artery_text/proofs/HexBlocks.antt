-- Digits written in place.
use Rattle.std.proofs.Common.{◌≡◌, ℕ, zero, suc, ◌+◌, ◌*◌, ◌/◌, ◌%◌, ◌<◌, ◌≤◌, List, [], ◌∷◌, ◌++◌, length, take, drop, slice_index, get_or, slice_set, refl, sym, ap, ◌∙◌, arith}
use Rattle.std.specs.Prelude.{flat_map}
use Rattle.std.proofs.lemmas.List.{append_assoc, append-nil, drop_all, drop_more, take_all, take_more_set, length-set}
use Rattle.std.specs.Prelude.{◌&&◌, Bool, true, Option, Some, None, Result, Ok, Err}
use Rattle.std.specs.List.{list_all}
use Rattle.std.proofs.lemmas.Bool.{and_parts}
use Rattle.artery_text.specs.Spelling.{hex_digit, hex_pair}
use Rattle.artery_text.specs.Reading.{later, is_hex_digit, hex_value, pair_value, bad_pair, pairs_value, pairs_from}

abbrev pub pairs : List ℕ → List ℕ
pairs bytes = flat_map hex_pair bytes

-- two writes in a row, seen from the front
pub two_writes : (xs : List ℕ) (o x y : ℕ) → o + 1 < length xs
    → take (o + 2) (slice_set (slice_set xs o x) (o + 1) y) ≡ take o xs ++ (x ∷ y ∷ [])
two_writes xs o x y fits =
    let len : length (slice_set xs o x) ≡ length xs = length-set xs o x in
    let two : o + 2 ≡ o + 1 + 1 = omega arith in
    let second = take_more_set (slice_set xs o x) (o + 1) y (omega (arith, len)) in
    let first = take_more_set xs o x (omega arith) in
    rw (two, second, first) (append_assoc (take o xs) (x ∷ []) (y ∷ []))

-- the digits of what is left of the bytes, from one byte on
pub pairs-drop : (bytes : List ℕ) (i : ℕ) → i < length bytes
    → flat_map hex_pair (drop i bytes) ≡ hex_digit (get_or bytes i 0 / 16) ∷ hex_digit (get_or bytes i 0 % 16) ∷ flat_map hex_pair (drop (i + 1) bytes)
pairs-drop bytes i h = rw (drop_more bytes i 0 h) refl

-- one byte more is written
pub pair_written : (bytes text : List ℕ) (i x y : ℕ) → i < length bytes → length text ≡ 2 * length bytes
    → x ≡ hex_digit (get_or bytes i 0 / 16) → y ≡ hex_digit (get_or bytes i 0 % 16)
    → take (2 * i) text ++ flat_map hex_pair (drop i bytes) ≡ flat_map hex_pair bytes
    → take (2 * (i + 1)) (slice_set (slice_set text (2 * i) x) (2 * i + 1) y) ++ flat_map hex_pair (drop (i + 1) bytes) ≡ flat_map hex_pair bytes
pair_written bytes text i x y h len ex ey inv =
    let two : 2 * (i + 1) ≡ 2 * i + 2 = omega arith in
    let front = two_writes text (2 * i) x y (omega (arith, len)) in
    let rest = pairs-drop bytes i h in
    rw (two, front, append_assoc (take (2 * i) text) (x ∷ y ∷ []) (flat_map hex_pair (drop (i + 1) bytes)), ex, ey) (rw rest at inv)

-- every byte is written
pub all_written : (bytes text : List ℕ) (i : ℕ) → length bytes ≤ i → length text ≡ 2 * length bytes
    → take (2 * i) text ++ flat_map hex_pair (drop i bytes) ≡ flat_map hex_pair bytes
    → text ≡ flat_map hex_pair bytes
all_written bytes text i h len inv =
    let d = drop_all i bytes h in
    let a = take_all (2 * i) text (omega (arith, len)) in
    rw (d, a, append-nil) at inv

pub pairs-append : (front rest : List ℕ) → flat_map hex_pair (front ++ rest) ≡ flat_map hex_pair front ++ flat_map hex_pair rest
pairs-append [] rest = refl
pairs-append (b ∷ front) rest = ap (λ (t : List ℕ). hex_digit (b / 16) ∷ hex_digit (b % 16) ∷ t) (pairs-append front rest)

-- a block more is appended
pub block_goes : (first out new bytes rest front more : List ℕ) → rest ≡ front ++ more → new ≡ out ++ flat_map hex_pair front
    → out ++ flat_map hex_pair rest ≡ first ++ flat_map hex_pair bytes
    → new ++ flat_map hex_pair more ≡ first ++ flat_map hex_pair bytes
block_goes first out new bytes rest front more e n inv =
    rw (n, append_assoc out (flat_map hex_pair front) (flat_map hex_pair more), sym (pairs-append front more), sym e) inv

-- ---- reading

pub digit_at : (text : List ℕ) (k : ℕ) → list_all is_hex_digit text ≡ true → k < length text → is_hex_digit (get_or text k 0) ≡ true
digit_at [] k h lt = absurd (omega (arith, lt))
digit_at (a ∷ rest) zero h lt = (and_parts (is_hex_digit a) (list_all is_hex_digit rest) h).0
digit_at (a ∷ rest) (suc k) h lt = digit_at rest k (and_parts (is_hex_digit a) (list_all is_hex_digit rest) h).1 (omega (arith, lt))

pub pair_front : (s : List ℕ) (i : ℕ) → 2 * i + 1 < length s
    → drop (2 * i) s ≡ get_or s (2 * i) 0 ∷ get_or s (2 * i + 1) 0 ∷ drop (2 * (i + 1)) s
pair_front s i fits =
    let a = drop_more s (2 * i) 0 (omega arith) in
    let b = drop_more s (2 * i + 1) 0 (omega arith) in
    let two : 2 * i + 1 + 1 ≡ 2 * (i + 1) = omega arith in
    rw (a, b, two) refl

-- one byte more is read
pub byte_read : (text bytes : List ℕ) (i v : ℕ) → i < length bytes → length text ≡ 2 * length bytes
    → v ≡ 16 * hex_value (get_or text (2 * i) 0) + hex_value (get_or text (2 * i + 1) 0)
    → take i bytes ++ pairs_value (drop (2 * i) text) ≡ pairs_value text
    → take (i + 1) (slice_set bytes i v) ++ pairs_value (drop (2 * (i + 1)) text) ≡ pairs_value text
byte_read text bytes i v room len e inv =
    let front = take_more_set bytes i v room in
    let rest = pair_front text i (omega (arith, len)) in
    rw (front, append_assoc (take i bytes) (v ∷ []) (pairs_value (drop (2 * (i + 1)) text)), e) (rw rest at inv)

-- every byte is read
pub all_read : (text bytes : List ℕ) (i : ℕ) → length bytes ≤ i → length text ≡ 2 * length bytes
    → take i bytes ++ pairs_value (drop (2 * i) text) ≡ pairs_value text
    → bytes ≡ pairs_value text
all_read text bytes i h len inv =
    let d = drop_all (2 * i) text (omega (arith, len, h)) in
    let a = take_all i bytes h in
    rw (d, a, append-nil) at inv

no_bad : (text : List ℕ) → length text % 2 ≡ 0 → list_all is_hex_digit text ≡ true → bad_pair text ≡ None
no_bad [] even h = refl
no_bad (a ∷ []) even h = absurd (omega (arith, even))
no_bad (a ∷ b ∷ rest) even h =
    let t = and_parts (is_hex_digit a) (list_all is_hex_digit (b ∷ rest)) h in
    let u = and_parts (is_hex_digit b) (list_all is_hex_digit rest) t.1 in
    let more = no_bad rest (omega (arith, even)) u.1 in
    rw (t.0, u.0, more) refl

pub digits_read : (text bytes : List ℕ) → length text % 2 ≡ 0 → list_all is_hex_digit text ≡ true → bytes ≡ pairs_value text → pairs_from [] 0 text ≡ Ok bytes
digits_read text bytes even h e =
    let none = no_bad text even h in
    rw (none, e) refl
