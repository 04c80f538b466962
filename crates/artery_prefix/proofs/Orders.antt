-- Messages with numbers that follow one another, and when such a list is the first of another.
use Rattle.std.proofs.Common.{◌≡◌, ℕ, zero, suc, ◌+◌, ◌<◌, true, List, [], ◌∷◌, ◌++◌, length, map, refl, sym, ◌∙◌, ap, subst, arith, rules}
use Rattle.std.specs.Prelude.{Some, slice_get}
use Rattle.std.specs.Cmp.Rules.{comparing}
use Rattle.artery_judge.specs.Lines.{Rest}
use Rattle.artery_judge.specs.Laws.{same_rest, is_prefix}
use Rattle.artery_machine.specs.Ticking.{numbers_from}
use Rattle.artery_flight.proofs.Lists.{some_same, not_some, and_both, Each}
use Rattle.artery_flight.proofs.Lines.{IsAmong}

-- Numbers follow one another, from one on.
abbrev pub AreFrom : ℕ → List Rest → Type 0
AreFrom k [] = Unit {0}
AreFrom k (x ∷ xs) = (x.0 ≡ k) × AreFrom (k + 1) xs

abbrev pub firsts : List Rest → List ℕ
firsts xs = map (λ (r : Rest). r.0) xs

number_head : {x y : ℕ} {xs ys : List ℕ} → x ∷ xs ≡ y ∷ ys → x ≡ y
number_head h = cc

number_tail : {x y : ℕ} {xs ys : List ℕ} → x ∷ xs ≡ y ∷ ys → xs ≡ ys
number_tail h = cc

pub from_numbers : (k : ℕ) (xs : List Rest) → firsts xs ≡ numbers_from k (length (firsts xs)) → AreFrom k xs
from_numbers k [] h = tt
from_numbers k (x ∷ xs) h = (number_head h, from_numbers (k + 1) xs (number_tail h))

pub to_numbers : (k : ℕ) (xs : List Rest) → AreFrom k xs → firsts xs ≡ numbers_from k (length (firsts xs))
to_numbers k [] h = refl
to_numbers k (x ∷ xs) h = ap (λ (n : ℕ). n ∷ firsts xs) h.0 ∙ ap (λ ns. k ∷ ns) (to_numbers (k + 1) xs h.1)

pub from_front : (k : ℕ) (xs ys : List Rest) → AreFrom k (xs ++ ys) → AreFrom k xs
from_front k [] ys h = tt
from_front k (x ∷ xs) ys h = (h.0, from_front (k + 1) xs ys h.1)

number_at : (k : ℕ) (xs : List Rest) (i : ℕ) (x : Rest) → AreFrom k xs → slice_get xs i ≡ Some x → x.0 ≡ k + i
number_at k [] i x h e = not_some e
number_at k (y ∷ xs) zero x h e = ap (λ (r : Rest). r.0) (sym (some_same e)) ∙ h.0 ∙ (let q : k ≡ k + 0 = omega arith in q)
number_at k (y ∷ xs) (suc i) x h e = number_at (k + 1) xs i x h.1 e ∙ (let q : k + 1 + i ≡ k + suc i = omega arith in q)

pub same_self : (x : Rest) → same_rest x x ≡ true
same_self x = search (comparing, rules)

-- those with greater numbers are behind the first
behind : (k j : ℕ) (y : Rest) (xs ys : List Rest) → k < j → y.0 ≡ k → AreFrom j xs → Each (λ (x : Rest). IsAmong x (y ∷ ys)) xs → Each (λ (x : Rest). IsAmong x ys) xs
behind k j y [] ys l e h a = tt
behind k j y (x ∷ xs) ys l e h a = (one a.0.place a.0.here, behind k (j + 1) y xs ys (omega arith) e h.1 a.1)
  where
    one : (i : ℕ) → slice_get (y ∷ ys) i ≡ Some x → IsAmong x ys
    one zero f = absurd (let p : y.0 ≡ x.0 = ap (λ (r : Rest). r.0) (some_same f) in let q : x.0 ≡ j = h.0 in let r : y.0 ≡ k = e in let s : k < j = l in (let c : ⊥ = omega arith in c))
    one (suc i) f = record { place = i; here = f }

-- numbers from the same one on, and each is among the others: they are the first of those
pub is_front : (k : ℕ) (xs ys : List Rest) → AreFrom k xs → AreFrom k ys → Each (λ (x : Rest). IsAmong x ys) xs → is_prefix xs ys ≡ true
is_front k [] ys h g a = refl
is_front k (x ∷ xs) [] h g a = not_some a.0.here
is_front k (x ∷ xs) (y ∷ ys) h g a =
    and_both (same_rest y x) (is_prefix xs ys) (subst (λ (z : Rest). same_rest y z ≡ true) (one a.0.place a.0.here) (same_self y))
    (is_front (k + 1) xs ys h.1 g.1 (behind k (k + 1) y xs ys (omega arith) g.0 h.1 a.1))
  where
    one : (i : ℕ) → slice_get (y ∷ ys) i ≡ Some x → y ≡ x
    one zero f = some_same f
    one (suc i) f = absurd (let p : x.0 ≡ k + 1 + i = number_at (k + 1) ys i x g.1 f in let q : x.0 ≡ k = h.0 in (let c : ⊥ = omega arith in c))
