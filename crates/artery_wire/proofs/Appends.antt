-- Appending varints and fields.
use Rattle.std.proofs.Common.{◌≡◌, ℕ, zero, suc, ◌+◌, ◌/◌, ◌%◌, ◌^◌, ◌<◌, ◌≤◌, true, false, ltb, List, [], ◌∷◌, ◌++◌, length, take, refl, sym, ap, subst, ◌∙◌, append_assoc, arith, inl, inr}
use Rattle.std.proofs.Math.Nat.{pow-suc}
use Rattle.std.proofs.lemmas.Nat.{div_below}
use Rattle.std.proofs.lemmas.Bool.{lt-ltb, le-ltb, cases_lt}
use Rattle.std.proofs.lemmas.List.{length-append, length-take, take-take, take_at, append-nil}
use Rattle.artery_wire.specs.Writing.{digits_within, varint_of, BeginsWith}

-- ---- the shortest varint

pub digits_last : (left n : ℕ) → n < 128 → digits_within (suc left) n ≡ n ∷ []
unfolding digits_within
digits_last left n small = let test : ltb n 128 ≡ true = lt-ltb _ _ small in rw test refl

pub digits_more : (left n : ℕ) → 128 ≤ n → digits_within (suc left) n ≡ (n % 128 + 128) ∷ digits_within left (n / 128)
unfolding digits_within
digits_more left n big = let test : ltb n 128 ≡ false = le-ltb _ _ big in rw test refl

-- more room gives no other digits
pub same_digits : (left n : ℕ) → n < 128 ^ suc left → digits_within (suc left) n ≡ digits_within (suc (suc left)) n
same_digits zero n small =
    let n_small : n < 128 = omega (arith, small, pow-suc 128 0) in
    digits_last zero n n_small ∙ sym (digits_last 1 n n_small)
same_digits (suc left) n small =
    elim (cases_lt n 128) [
      | inl last ↦ digits_last (suc left) n last ∙ sym (digits_last (suc (suc left)) n last)
      | inr more ↦
          let below : n / 128 < 128 ^ suc left = div_below n 128 (128 ^ suc left) (omega arith) (subst (λ (k : ℕ). n < k) (pow-suc 128 (suc left)) small) in
          digits_more (suc left) n more ∙ ap (λ (t : List ℕ). (n % 128 + 128) ∷ t) (same_digits left (n / 128) below) ∙ sym (digits_more (suc (suc left)) n more)
    ]

pub varint_last : (n : ℕ) → n < 128 → varint_of n ≡ n ∷ []
unfolding varint_of
varint_last n small = digits_last 9 n small

pub varint_more : (n : ℕ) → 128 ≤ n → n < 2 ^ 64 → varint_of n ≡ (n % 128 + 128) ∷ varint_of (n / 128)
unfolding varint_of
varint_more n big small =
    let below : n / 128 < 128 ^ 9 = omega (arith, small) in
    digits_more 9 n big ∙ ap (λ (t : List ℕ). (n % 128 + 128) ∷ t) (same_digits 8 (n / 128) below)

-- ---- how long it is

pub digits_short : (left n : ℕ) → length (digits_within left n) ≤ left
unfolding digits_within
digits_short zero n = omega arith
digits_short (suc left) n =
    elim (cases_lt n 128) [
      | inl last ↦ rw (digits_last left n last) (omega arith)
      | inr more ↦ let others : length (digits_within left (n / 128)) ≤ left = digits_short left (n / 128) in rw (digits_more left n more) (omega (arith, others))
    ]

pub varint_short : (n : ℕ) → length (varint_of n) ≤ 10
unfolding varint_of
varint_short n = digits_short 10 n

pub length_last : (n : ℕ) → n < 128 → length (varint_of n) ≡ 1
length_last n small = ap length (varint_last n small)

pub length_more : (n : ℕ) → 128 ≤ n → n < 2 ^ 64 → length (varint_of n) ≡ suc (length (varint_of (n / 128)))
length_more n big small = ap length (varint_more n big small)

pub ruleset size_steps = (varint_short, length_last, length_more, length-append)

-- ---- what appending keeps

pub begins_same : (old : List ℕ) → BeginsWith old old
begins_same old = ap (λ (t : List ℕ). take (length old) t) (sym (append-nil old)) ∙ take_at old [] (length old) refl

pub begins_more : (old new more : List ℕ) → new ≡ old ++ more → BeginsWith old new
begins_more old new more e = ap (λ (t : List ℕ). take (length old) t) e ∙ take_at old more (length old) refl

pub begins_then : (old middle new : List ℕ) → BeginsWith old middle → BeginsWith middle new → BeginsWith old new
begins_then old middle new a b =
    let shorter : length old ≤ length middle = omega (arith, length-take (length old) middle, ap length a) in
    sym (take-take (length old) (length middle) new shorter) ∙ ap (λ (t : List ℕ). take (length old) t) b ∙ a

pub varint_goes_on : (out out' whole : List ℕ) (n : ℕ) → out' ≡ out ++ (n % 128 + 128) ∷ [] → 128 ≤ n → n < 2 ^ 64 → out ++ varint_of n ≡ whole → out' ++ varint_of (n / 128) ≡ whole
varint_goes_on out out' whole n pushed big small so_far =
    ap (λ (t : List ℕ). t ++ varint_of (n / 128)) pushed
    ∙ append_assoc out ((n % 128 + 128) ∷ []) (varint_of (n / 128))
    ∙ ap (λ (t : List ℕ). out ++ t) (sym (varint_more n big small))
    ∙ so_far

pub begins_goes_on : (old out out' more : List ℕ) → out' ≡ out ++ more → BeginsWith old out → BeginsWith old out'
begins_goes_on old out out' more e b = begins_then old out out' b (begins_more out out' more e)

pub ruleset varint_steps = (varint_last, varint_more, begins_same, begins_more, begins_then, begins_goes_on, varint_goes_on)

pub ruleset append_steps = (begins_same, begins_more, begins_then)
