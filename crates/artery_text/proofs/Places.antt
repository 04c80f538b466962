-- The first place at which a test passes.
use Rattle.std.proofs.Common.{◌≡◌, ℕ, suc, ◌+◌, ◌<◌, ◌≤◌, Bool, true, false, not, cond, ltb, List, [], ◌∷◌, ◌++◌, length, get_or, Some, None, refl, arith}
use Rattle.std.specs.Prelude.{position, nat_lt, IsAscii}
use Rattle.std.specs.List.{list_all, prefix_len, position_or_len}
use Rattle.std.proofs.lemmas.Bool.{and_parts, ltb-true, ltb-false, lt-ltb, le-ltb}
use Rattle.std.proofs.lemmas.Bool.Decides.{nat_tests}
use Rattle.std.proofs.lemmas.List.{length-append}
use Rattle.std.proofs.lemmas.List.Quantifiers.{position-Some}
use Rattle.std.proofs.lemmas.Str.Ascii.{IsAscii-nil, IsAscii-cons}

full_step : (t : Bool) (n k : ℕ) → suc n ≤ cond t (1 + k) 0 → (t ≡ true) × (n ≤ k)
full_step true n k h = (refl, omega arith)
full_step false n k h = absurd (omega arith)

full_prefix : (q : ℕ → Bool) (xs : List ℕ) → length xs ≤ prefix_len q xs → list_all q xs ≡ true
full_prefix q [] h = refl
full_prefix q (x ∷ xs) h =
    let s = full_step (q x) (length xs) (prefix_len q xs) h in
    rw (s.0, full_prefix q xs s.1) refl

no_some : (t : Bool) (n : ℕ) → cond t (Some n) None ≡ None → t ≡ false
no_some true n h = absurd cc
no_some false n h = refl

-- a test that passes nowhere
pub position_none : (p : ℕ → Bool) (xs : List ℕ) → position p xs ≡ None → list_all (λ x. not (p x)) xs ≡ true
position_none p xs h =
    full_prefix (λ x. not (p x)) xs (ltb-false _ _ (no_some (ltb (position_or_len p xs) (length xs)) (position_or_len p xs) h))

prefix_all : (q : ℕ → Bool) (xs : List ℕ) → list_all q xs ≡ true → prefix_len q xs ≡ length xs
prefix_all q [] h = refl
prefix_all q (x ∷ xs) h =
    let p = and_parts (q x) (list_all q xs) h in
    let ih = prefix_all q xs p.1 in
    rw p.0 (omega (arith, ih))

pub none_position : (p : ℕ → Bool) (xs : List ℕ) → list_all (λ x. not (p x)) xs ≡ true → position p xs ≡ None
none_position p xs h =
    rw (le-ltb (position_or_len p xs) (length xs) (omega (arith, prefix_all (λ x. not (p x)) xs h))) refl

prefix_stops : (q : ℕ → Bool) (xs : List ℕ) (m : ℕ) (ys : List ℕ) → list_all q xs ≡ true → q m ≡ false → prefix_len q (xs ++ m ∷ ys) ≡ length xs
prefix_stops q [] m ys h e = rw e refl
prefix_stops q (x ∷ xs) m ys h e =
    let p = and_parts (q x) (list_all q xs) h in
    let ih = prefix_stops q xs m ys p.1 e in
    rw p.0 (omega (arith, ih))

-- the first place is where the first that passes stands
pub position_at : (p : ℕ → Bool) (xs : List ℕ) (m : ℕ) (ys : List ℕ) → list_all (λ x. not (p x)) xs ≡ true → p m ≡ true → position p (xs ++ m ∷ ys) ≡ Some (length xs)
position_at p xs m ys h e =
    let stop : position_or_len p (xs ++ m ∷ ys) ≡ length xs = prefix_stops (λ x. not (p x)) xs m ys h (rw e refl) in
    let lt : ltb (length xs) (length (xs ++ m ∷ ys)) ≡ true = lt-ltb _ _ (omega (arith, length-append xs (m ∷ ys))) in
    rw (stop, lt) refl

-- a weaker test
pub all_weaker : (p q : ℕ → Bool) → ((b : ℕ) → p b ≡ true → q b ≡ true) → (xs : List ℕ) → list_all p xs ≡ true → list_all q xs ≡ true
all_weaker p q w [] h = refl
all_weaker p q w (x ∷ xs) h =
    let s = and_parts (p x) (list_all p xs) h in
    rw (w x s.0, all_weaker p q w xs s.1) refl

pub all_ascii : (xs : List ℕ) → list_all (λ b. not (ltb 127 b)) xs ≡ true → IsAscii xs
all_ascii [] h = IsAscii-nil
all_ascii (x ∷ xs) h =
    let s = and_parts (not (ltb 127 x)) (list_all (λ b. not (ltb 127 b)) xs) h in
    let small : x < 128 = grind (arith, nat_tests, s.0) in
    IsAscii-cons x xs small (all_ascii xs s.1)

-- no byte above 127
pub no_high : (xs : List ℕ) → position (nat_lt 127) xs ≡ None → IsAscii xs
no_high xs h = all_ascii xs (position_none (nat_lt 127) xs h)

pub high_not_ascii : (xs : List ℕ) (at : ℕ) → position (nat_lt 127) xs ≡ Some at → IsAscii xs → ⊥
high_not_ascii xs at h a =
    let s = position-Some (nat_lt 127) xs at 0 h in
    let small = a at in
    let high : 127 < get_or xs at 0 = ltb-true _ _ s.1 in
    absurd (omega (arith, small, high))
