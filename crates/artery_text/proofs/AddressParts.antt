-- The parts of an address.
use Rattle.std.proofs.Common.{◌≡◌, ℕ, suc, ◌+◌, ◌-◌, ◌<◌, ◌≤◌, Bool, true, false, not, eqb, List, [], ◌∷◌, ◌++◌, length, get_or, take, drop, Option, Some, None, Ok, Err, refl, sym, ap, ◌∙◌, arith, drop-cons}
use Rattle.std.specs.Prelude.{codes, position, nat_eq, IsAscii}
use Rattle.std.specs.List.{list_all, starts_with}
use Rattle.std.specs.Option.{option_or}
use Rattle.std.proofs.lemmas.Bool.{and_parts}
use Rattle.std.proofs.lemmas.Bool.Decides.{nat_tests}
use Rattle.std.proofs.lemmas.List.{length-take, length-drop, take-append-drop, take_all, take_more}
use Rattle.std.proofs.lemmas.Slice.Eq.{bytes_eq-Decides}
use Rattle.std.proofs.lemmas.Str.Ascii.{IsAscii-nil, IsAscii-cons}
use Rattle.artery_text.specs.declared.fault.AddressFault.TheVariants as address_faults
use Rattle.artery_text.specs.Spelling.{is_part_byte}
use Rattle.artery_text.specs.Reading.{later, scheme_end, Parts, parts_of, bad_byte, bad_char, last_hash}
use Rattle.artery_text.proofs.HexPairs.{later_later, zero_add, later_none}
use Rattle.artery_text.proofs.Places.{position_none, position_at, none_position, all_weaker}

-- ---- `://`

pub whole_drop : (text : List ℕ) (at : ℕ) → at < length text → drop at text ≡ get_or text at 0 ∷ drop (at + 1) text
whole_drop text at lt =
    let e : suc at ≡ at + 1 = omega arith in
    drop-cons text at 0 lt ∙ ap (λ (k : ℕ). get_or text at 0 ∷ drop k text) e

pub scheme_next : (b : ℕ) (rest : List ℕ) → starts_with nat_eq (b ∷ rest) (codes "://") ≡ false → scheme_end (b ∷ rest) ≡ later 1 (scheme_end rest)
scheme_next b rest h = rw h refl

pub scheme_here : (b : ℕ) (rest : List ℕ) → starts_with nat_eq (b ∷ rest) (codes "://") ≡ true → scheme_end (b ∷ rest) ≡ Some 0
scheme_here b rest h = rw h refl

pub scheme_step : (text : List ℕ) (at : ℕ) (total : Option ℕ) → at < length text → starts_with nat_eq (drop at text) (codes "://") ≡ false
    → later at (scheme_end (drop at text)) ≡ total → later (at + 1) (scheme_end (drop (at + 1) text)) ≡ total
scheme_step text at total lt h so_far =
    let d = whole_drop text at lt in
    let t : starts_with nat_eq (get_or text at 0 ∷ drop (at + 1) text) (codes "://") ≡ false = ap (λ (xs : List ℕ). starts_with nat_eq xs (codes "://")) (sym d) ∙ h in
    sym (later_later at 1 (scheme_end (drop (at + 1) text))) ∙ ap (later at) (sym (ap scheme_end d ∙ scheme_next (get_or text at 0) (drop (at + 1) text) t)) ∙ so_far

pub scheme_hit : (text : List ℕ) (at : ℕ) (total : Option ℕ) → at < length text → starts_with nat_eq (drop at text) (codes "://") ≡ true
    → later at (scheme_end (drop at text)) ≡ total → Some at ≡ total
scheme_hit text at total lt h so_far =
    let d = whole_drop text at lt in
    let t : starts_with nat_eq (get_or text at 0 ∷ drop (at + 1) text) (codes "://") ≡ true = ap (λ (xs : List ℕ). starts_with nat_eq xs (codes "://")) (sym d) ∙ h in
    ap (λ (k : ℕ). Some k) (sym (zero_add at)) ∙ ap (later at) (sym (ap scheme_end d ∙ scheme_here (get_or text at 0) (drop (at + 1) text) t)) ∙ so_far

pub starts_is : (text : List ℕ) → starts_with nat_eq text (codes "://") ≡ true → codes "://" ≡ take 3 text
starts_is text h = (bytes_eq-Decides (codes "://") (take 3 text)).0 h

pub scheme_room : (text : List ℕ) (at : ℕ) → at < length text → starts_with nat_eq (drop at text) (codes "://") ≡ true → at + 3 ≤ length text
scheme_room text at lt h =
    let len : 3 ≡ length (take 3 (drop at text)) = ap length (starts_is (drop at text) h) in
    omega (arith, len, length-take 3 (drop at text), length-drop at text)

empty : (xs : List ℕ) → length xs ≡ 0 → xs ≡ []
empty [] h = refl
empty (x ∷ xs) h = absurd (omega arith)

drop_all : (text : List ℕ) (at : ℕ) → length text ≤ at → drop at text ≡ []
drop_all text at h = empty (drop at text) (omega (arith, length-drop at text))

pub scheme_none : (text : List ℕ) (at : ℕ) (total : Option ℕ) → length text ≤ at → later at (scheme_end (drop at text)) ≡ total → None ≡ total
scheme_none text at total h so_far = sym (ap (λ (xs : List ℕ). later at (scheme_end xs)) (drop_all text at h)) ∙ so_far

-- ---- bytes of a part

pub bad_first : (part : List ℕ) (at : ℕ) → at < length part → list_all is_part_byte (take at part) ≡ true → is_part_byte (get_or part at 0) ≡ false
    → position (λ b. not (is_part_byte b)) part ≡ Some at
bad_first part at lt good bad =
    let twice : list_all (λ b. not (not (is_part_byte b))) (take at part) ≡ true = all_weaker is_part_byte (λ b. not (not (is_part_byte b))) (λ b h. rw h refl) (take at part) good in
    let whole : take at part ++ get_or part at 0 ∷ drop (at + 1) part ≡ part = ap (λ (xs : List ℕ). take at part ++ xs) (sym (whole_drop part at lt)) ∙ take-append-drop at part in
    let len : length (take at part) ≡ at = omega (arith, length-take at part) in
    let here = position_at (λ b. not (is_part_byte b)) (take at part) (get_or part at 0) (drop (at + 1) part) twice (rw bad refl) in
    ap (position (λ b. not (is_part_byte b))) (sym whole) ∙ here ∙ ap (λ (k : ℕ). Some k) len

pub none_bad : (part : List ℕ) (at : ℕ) → length part ≤ at → list_all is_part_byte (take at part) ≡ true → position (λ b. not (is_part_byte b)) part ≡ None
none_bad part at h good =
    let all : list_all is_part_byte part ≡ true = ap (list_all is_part_byte) (sym (take_all at part h)) ∙ good in
    none_position (λ b. not (is_part_byte b)) part (all_weaker is_part_byte (λ b. not (not (is_part_byte b))) (λ b e. rw e refl) part all)

twice_true : (t : Bool) → not (not t) ≡ true → t ≡ true
twice_true true h = refl
twice_true false h = absurd cc

no_bad : (part : List ℕ) → position (λ b. not (is_part_byte b)) part ≡ None → list_all is_part_byte part ≡ true
no_bad part h = all_weaker (λ b. not (not (is_part_byte b))) is_part_byte (λ b. twice_true (is_part_byte b)) part (position_none (λ b. not (is_part_byte b)) part h)

either_none : (o p : Option ℕ) → option_or o p ≡ None → (o ≡ None) × (p ≡ None)
either_none None p h = (refl, h)
either_none (Some x) p h = absurd cc

pub chars_good : (p : Parts) → bad_char p ≡ None → (list_all is_part_byte p.protocol ≡ true) × (list_all is_part_byte p.system ≡ true) × (list_all is_part_byte p.host ≡ true)
chars_good p h =
    let a = either_none (bad_byte 0 p.protocol) (option_or (bad_byte (length p.protocol + 3) p.system) (bad_byte (length p.protocol + 3 + length p.system + 1) p.host)) h in
    let b = either_none (bad_byte (length p.protocol + 3) p.system) (bad_byte (length p.protocol + 3 + length p.system + 1) p.host) a.1 in
    (no_bad p.protocol (later_none 0 _ a.0), no_bad p.system (later_none (length p.protocol + 3) _ b.0), no_bad p.host (later_none (length p.protocol + 3 + length p.system + 1) _ b.1))

part_small : (b : ℕ) → is_part_byte b ≡ true → b < 128
part_small b h = grind (arith, nat_tests)

pub part_ascii : (xs : List ℕ) → list_all is_part_byte xs ≡ true → IsAscii xs
part_ascii [] h = IsAscii-nil
part_ascii (x ∷ xs) h =
    let s = and_parts (is_part_byte x) (list_all is_part_byte xs) h in
    let small : x < 128 = part_small x s.0 in
    IsAscii-cons x xs small (part_ascii xs s.1)

-- ---- the last `#`

hash_last : (xs : List ℕ) (b : ℕ) → eqb b 35 ≡ true → last_hash (xs ++ b ∷ []) ≡ Some (length xs)
hash_last [] b h = rw h refl
hash_last (x ∷ xs) b h = rw (hash_last xs b h) (ap (λ (k : ℕ). Some k) (omega arith))

hash_other : (xs : List ℕ) (b : ℕ) → eqb b 35 ≡ false → last_hash (xs ++ b ∷ []) ≡ last_hash xs
hash_other [] b h = rw h refl
hash_other (x ∷ xs) b h = rw (hash_other xs b h) refl

one_more : (text : List ℕ) (at : ℕ) → at < length text → take (at + 1) text ≡ take at text ++ get_or text at 0 ∷ []
one_more text at lt = take_more text at 0 lt

pub hash_hit : (text : List ℕ) (end : ℕ) (total : Option ℕ) → 0 < end → end ≤ length text → get_or text (end - 1) 0 ≡ 35 → last_hash (take end text) ≡ total → Some (end - 1) ≡ total
hash_hit text end total some within h so_far =
    let e : end ≡ end - 1 + 1 = omega arith in
    let front : take end text ≡ take (end - 1) text ++ get_or text (end - 1) 0 ∷ [] = ap (λ (k : ℕ). take k text) e ∙ one_more text (end - 1) (omega arith) in
    let len : length (take (end - 1) text) ≡ end - 1 = omega (arith, length-take (end - 1) text) in
    sym (ap (λ (k : ℕ). Some k) len) ∙ sym (ap last_hash front ∙ hash_last (take (end - 1) text) (get_or text (end - 1) 0) (grind (arith, nat_tests, h))) ∙ so_far

pub hash_step : (text : List ℕ) (end : ℕ) (total : Option ℕ) → 0 < end → end ≤ length text → (get_or text (end - 1) 0 ≡ 35 → ⊥) → last_hash (take end text) ≡ total → last_hash (take (end - 1) text) ≡ total
hash_step text end total some within h so_far =
    let e : end ≡ end - 1 + 1 = omega arith in
    let front : take end text ≡ take (end - 1) text ++ get_or text (end - 1) 0 ∷ [] = ap (λ (k : ℕ). take k text) e ∙ one_more text (end - 1) (omega arith) in
    sym (hash_other (take (end - 1) text) (get_or text (end - 1) 0) (grind (arith, nat_tests, h))) ∙ sym (ap last_hash front) ∙ so_far

pub hash_start : (text : List ℕ) (n : ℕ) → n ≡ length text → last_hash (take n text) ≡ last_hash text
hash_start text n h = ap last_hash (take_all n text (omega arith))

-- ---- the split

pub split_fails : (text r1 r2 : List ℕ) (at1 at2 : ℕ) → scheme_end text ≡ Some at1 → r1 ≡ drop (at1 + 3) text → position (λ b. eqb b 64) r1 ≡ Some at2 → r2 ≡ drop (at2 + 1) r1
    → position (λ b. eqb b 58) r2 ≡ None → Err address_faults.NoPort ≡ parts_of text
split_fails text r1 r2 at1 at2 h1 e1 h2 e2 h3 =
    let k2 = rw e1 at h2 in
    let k3 = rw e1 at (rw e2 at h3) in
    rw (h1, k2, k3) refl

pub split_done : (text r1 r2 : List ℕ) (at1 at2 at3 : ℕ) (x0 x1 x2 x3 : List ℕ) → scheme_end text ≡ Some at1 → r1 ≡ drop (at1 + 3) text → position (λ b. eqb b 64) r1 ≡ Some at2 → r2 ≡ drop (at2 + 1) r1
    → position (λ b. eqb b 58) r2 ≡ Some at3 → x0 ≡ take at1 text → x1 ≡ take at2 r1 → x2 ≡ take at3 r2 → x3 ≡ drop (at3 + 1) r2
    → Ok (record { protocol = x0; system = x1; host = x2; port = x3 }) ≡ parts_of text
split_done text r1 r2 at1 at2 at3 x0 x1 x2 x3 h1 e1 h2 e2 h3 p0 p1 p2 p3 =
    let k2 = rw e1 at h2 in
    let k3 = rw e1 at (rw e2 at h3) in
    rw (p0, p1, p2, p3, e2, e1, h1, k2, k3) refl
