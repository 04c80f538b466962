-- Bytes in hexadecimal, pair by pair.
use Rattle.std.proofs.Common.{◌≡◌, ℕ, suc, ◌+◌, ◌-◌, ◌*◌, ◌/◌, ◌%◌, ◌<◌, Bool, true, false, cond, eqb, List, [], ◌∷◌, ◌++◌, length, get_or, take, drop, Option, Some, None, Result, Ok, Err, refl, sym, ap, ◌∙◌, arith, append_assoc, subst, inl, inr, ◌⊎◌}
use Rattle.std.specs.Prelude.{◌&&◌, flat_map, codes, bytes_eq, IfOk}
use Rattle.std.proofs.lemmas.Bool.{and_parts}
use Rattle.std.proofs.lemmas.Bool.Decides.{nat_tests}
use Rattle.std.proofs.lemmas.List.{append-nil, length-drop, take_all}
use Rattle.std.proofs.lemmas.Slice.Eq.{bytes_eq-Decides}
use Rattle.artery_text.specs.declared.fault.WordFault.{WordFault}
use Rattle.artery_text.specs.declared.fault.WordFault.TheVariants as word_faults
use Rattle.artery_text.specs.Spelling.{AreBytes, hex_digit, hex_pair, hex_text}
use Rattle.artery_text.specs.Reading.{later, bytes_or_fault, is_hex_digit, hex_value, pair_value, pair_of, bad_pair, pairs_value, pairs_from, bad_hex, hex_of, Gives, word_memory}

pub later_later : (m n : ℕ) (o : Option ℕ) → later m (later n o) ≡ later (m + n) o
later_later m n None = refl
later_later m n (Some at) = ap (λ (k : ℕ). Some k) (omega arith)

pub when_some : {X : Type 0} (b : Bool) (m n : X) → cond b (Some m) None ≡ Some n → (b ≡ true) × (m ≡ n)
when_some true m n h = (refl, cc)
when_some false m n h = absurd cc

pub when_none : {X : Type 0} (b : Bool) (m : X) → cond b (Some m) None ≡ None → b ≡ false
when_none true m h = absurd cc
when_none false m h = refl

-- one pair more is read
pub pair_goes : (bytes : List ℕ) (at high low v : ℕ) (after : List ℕ) → pair_of high low ≡ Some v
    → pairs_from (bytes ++ v ∷ []) (at + 2) after ≡ pairs_from bytes at (high ∷ low ∷ after)
pair_goes bytes at high low v after h =
    let w = when_some (is_hex_digit high && is_hex_digit low) (pair_value high low) v h in
    rw (w.0, w.1, append_assoc bytes (v ∷ []) (pairs_value after), later_later at 2 (bad_pair after)) refl

abbrev pub bad_at : ℕ → Result (List ℕ) WordFault
bad_at k = Err (word_faults.BadWord k)

pub zero_add : (n : ℕ) → 0 + n ≡ n
zero_add n = omega arith

-- a pair that is none is the fault
pub pair_fails : (bytes : List ℕ) (at high low : ℕ) (after : List ℕ) → pair_of high low ≡ None
    → pairs_from bytes at (high ∷ low ∷ after) ≡ Err (word_faults.BadWord at)
pair_fails bytes at high low after h = rw (when_none (is_hex_digit high && is_hex_digit low) (pair_value high low) h) (ap bad_at (zero_add at))

pub front_goes : (bytes : List ℕ) (at v : ℕ) (rest : List ℕ) → 1 < length rest → pair_of (get_or rest 0 0) (get_or rest 1 0) ≡ Some v
    → pairs_from (bytes ++ v ∷ []) (at + 2) (drop 2 rest) ≡ pairs_from bytes at rest
front_goes bytes at v [] lt h = absurd (omega arith)
front_goes bytes at v (a ∷ []) lt h = absurd (omega arith)
front_goes bytes at v (a ∷ b ∷ rest) lt h = pair_goes bytes at a b v rest h

pub front_fails : (bytes : List ℕ) (at : ℕ) (rest : List ℕ) → 1 < length rest → pair_of (get_or rest 0 0) (get_or rest 1 0) ≡ None
    → pairs_from bytes at rest ≡ Err (word_faults.BadWord at)
front_fails bytes at [] lt h = absurd (omega arith)
front_fails bytes at (a ∷ []) lt h = absurd (omega arith)
front_fails bytes at (a ∷ b ∷ rest) lt h = pair_fails bytes at a b rest h

-- a turn of the loop
pub read_on : (bytes : List ℕ) (at v : ℕ) (rest new : List ℕ) (total : Result (List ℕ) WordFault) → 1 < length rest → pair_of (get_or rest 0 0) (get_or rest 1 0) ≡ Some v
    → new ≡ bytes ++ v ∷ [] → pairs_from bytes at rest ≡ total → pairs_from new (at + 2) (take (length rest - 2) (drop 2 rest)) ≡ total
read_on bytes at v rest new total lt h e so_far =
    let whole : take (length rest - 2) (drop 2 rest) ≡ drop 2 rest = take_all (length rest - 2) (drop 2 rest) (omega (arith, length-drop 2 rest)) in
    rw (whole, e) (front_goes bytes at v rest lt h ∙ so_far)

pub lone_fails : (bytes : List ℕ) (at : ℕ) (rest : List ℕ) → length rest ≡ 1 → pairs_from bytes at rest ≡ Err (word_faults.BadWord at)
lone_fails bytes at [] h = absurd (omega arith)
lone_fails bytes at (a ∷ []) h = ap bad_at (zero_add at)
lone_fails bytes at (a ∷ b ∷ rest) h = absurd (omega arith)

pub pairs_end : (bytes : List ℕ) (at : ℕ) (rest : List ℕ) → length rest ≡ 0 → pairs_from bytes at rest ≡ Ok bytes
pairs_end bytes at [] h = ap (λ (bs : List ℕ). Ok bs) (append-nil bytes)
pairs_end bytes at (a ∷ rest) h = absurd (omega arith)

-- ---- what is spelled is read

digit_back : (d : ℕ) → d < 16 → (is_hex_digit (hex_digit d) ≡ true) × (hex_value (hex_digit d) ≡ d)
digit_back d h = (grind (arith, nat_tests), grind (arith, nat_tests))

digit_spelled : (c : ℕ) → is_hex_digit c ≡ true → (hex_digit (hex_value c) ≡ c) × (hex_value c < 16)
digit_spelled c h = (grind (arith, nat_tests), grind (arith, nat_tests))

pub pair_back : (b : ℕ) → b < 256 → pair_of (hex_digit (b / 16)) (hex_digit (b % 16)) ≡ Some b
pair_back b h =
    let high = digit_back (b / 16) (omega arith) in
    let low = digit_back (b % 16) (omega arith) in
    let whole : 16 * (b / 16) + b % 16 ≡ b = omega arith in
    rw (high.0, low.0, high.1, low.1) (ap (λ (v : ℕ). Some v) whole)

pub pair_spelled : (high low : ℕ) → (is_hex_digit high && is_hex_digit low) ≡ true → (hex_pair (pair_value high low) ≡ high ∷ low ∷ []) × (pair_value high low < 256)
pair_spelled high low h =
    let t = and_parts (is_hex_digit high) (is_hex_digit low) h in
    let a = digit_spelled high t.0 in
    let b = digit_spelled low t.1 in
    let up : pair_value high low / 16 ≡ hex_value high = omega (arith, a.1, b.1) in
    let down : pair_value high low % 16 ≡ hex_value low = omega (arith, a.1, b.1) in
    (rw (up, down, a.0, b.0) refl, omega (arith, a.1, b.1))

-- the pairs of bytes
record Pairs (text bytes : List ℕ) : Type 0 where
  good : bad_pair text ≡ None
  value : pairs_value text ≡ bytes

pub rest_bytes : (b : ℕ) (bytes : List ℕ) → AreBytes (b ∷ bytes) → AreBytes bytes
rest_bytes b bytes h k = h (suc k)

pairs_back : (bytes : List ℕ) → AreBytes bytes → Pairs (flat_map hex_pair bytes) bytes
pairs_back [] h = record { good = refl; value = refl }
pairs_back (b ∷ bytes) h =
    let rest = pairs_back bytes (rest_bytes b bytes h) in
    let w = when_some _ _ _ (pair_back b (h 0)) in
    record { good = rw (w.0, rest.good) refl; value = rw (w.1, rest.value) refl }

pub if_none : (b : Bool) (o : Option ℕ) (n : ℕ) → cond b o (Some n) ≡ None → (b ≡ true) × (o ≡ None)
if_none true o n h = (refl, h)
if_none false o n h = absurd cc

pub later_none : (n : ℕ) (o : Option ℕ) → later n o ≡ None → o ≡ None
later_none n None h = refl
later_none n (Some at) h = absurd cc

pairs_spelled : (text : List ℕ) → bad_pair text ≡ None → flat_map hex_pair (pairs_value text) ≡ text
pairs_spelled [] h = refl
pairs_spelled (a ∷ []) h = absurd cc
pairs_spelled (a ∷ b ∷ rest) h =
    let t = if_none (is_hex_digit a && is_hex_digit b) (later 2 (bad_pair rest)) 0 h in
    let p = pair_spelled a b t.0 in
    ap (λ (digits : List ℕ). digits ++ flat_map hex_pair (pairs_value rest)) p.0
    ∙ ap (λ (digits : List ℕ). a ∷ b ∷ digits) (pairs_spelled rest (later_none 2 (bad_pair rest) t.1))

-- what is read, but for want of memory
pub given : (result read : Result (List ℕ) WordFault) → Gives word_memory result read → IfOk result (λ b. read ≡ Ok b)
given (Ok b) read h = h
given (Err e) read h = tt

pub fault_none : (bytes bs : List ℕ) (o : Option ℕ) → bytes_or_fault bytes o ≡ Ok bs → (o ≡ None) × (bytes ≡ bs)
fault_none bytes bs None h = (refl, cc)
fault_none bytes bs (Some at) h = absurd cc

pub if_text : (b : Bool) (bs : List ℕ) (r : Result (List ℕ) WordFault) → cond b (Ok []) r ≡ Ok bs → ((b ≡ true) × (bs ≡ [])) ⊎ ((b ≡ false) × (r ≡ Ok bs))
if_text true bs r h = inl (refl, cc)
if_text false bs r h = inr (refl, h)

abbrev some_pairs : List ℕ → List ℕ
some_pairs bytes = flat_map hex_pair bytes

not_empty : (b : Bool) (o : Option ℕ) → cond b (Some 0) o ≡ None → (b ≡ false) × (o ≡ None)
not_empty true o h = absurd cc
not_empty false o h = (refl, h)

pub not_zero : (n : ℕ) → eqb (suc n) 0 ≡ false
not_zero n = grind (arith, nat_tests)

value_some : (text : List ℕ) → bad_pair text ≡ None → eqb (length text) 0 ≡ false → eqb (length (pairs_value text)) 0 ≡ false
value_some [] h e = absurd cc
value_some (a ∷ []) h e = absurd cc
value_some (a ∷ b ∷ rest) h e = not_zero (length (pairs_value rest))

-- what reads as bytes is their spelling
pub hex_of-Ok : (text bytes : List ℕ) → hex_of text ≡ Ok bytes → text ≡ hex_text bytes
hex_of-Ok text bytes h = elim (if_text (bytes_eq text (codes "-")) bytes (bytes_or_fault (pairs_value text) (bad_hex text)) h) [
  | inl e ↦ rw e.1 ((bytes_eq-Decides text (codes "-")).0 e.0)
  | inr e ↦
      let f = fault_none (pairs_value text) bytes (bad_hex text) e.1 in
      let n = not_empty (eqb (length text) 0) (bad_pair text) f.0 in
      rw (← f.1, value_some text n.1 n.0) (sym (pairs_spelled text n.1))
]

no_dash : (b : ℕ) (bytes : List ℕ) → b < 256 → bytes_eq (flat_map hex_pair (b ∷ bytes)) (codes "-") ≡ false
no_dash b bytes h = grind (arith, nat_tests)

pub hex_text-some : (b : ℕ) (bytes : List ℕ) → hex_text (b ∷ bytes) ≡ flat_map hex_pair (b ∷ bytes)
hex_text-some b bytes = rw (not_zero (length bytes)) refl

read_as : (text bytes : List ℕ) → bytes_eq text (codes "-") ≡ false → eqb (length text) 0 ≡ false → bad_pair text ≡ None → pairs_value text ≡ bytes → hex_of text ≡ Ok bytes
read_as text bytes dash some good value = rw (dash, some, good, value) refl

-- the spelling of bytes reads as them
pub hex_of-hex_text : (bytes : List ℕ) → AreBytes bytes → hex_of (hex_text bytes) ≡ Ok bytes
hex_of-hex_text [] h = refl
hex_of-hex_text (b ∷ bytes) h =
    let p = pairs_back (b ∷ bytes) h in
    ap hex_of (hex_text-some b bytes) ∙ read_as (flat_map hex_pair (b ∷ bytes)) (b ∷ bytes) (no_dash b bytes (h 0)) (not_zero _) p.good p.value

pub hex_found : (text : List ℕ) (result : Result (List ℕ) WordFault) → Gives word_memory result (hex_of text) → IfOk result (λ b. text ≡ hex_text b)
hex_found text (Ok b) h = hex_of-Ok text b h
hex_found text (Err e) h = tt

pub hex_again : (text bytes : List ℕ) (result : Result (List ℕ) WordFault) → Gives word_memory result (hex_of text) → AreBytes bytes → text ≡ hex_text bytes → Gives word_memory result (Ok bytes)
hex_again text bytes result h small e = subst (λ (r : Result (List ℕ) WordFault). Gives word_memory result r) (ap hex_of e ∙ hex_of-hex_text bytes small) h
