-- The two conditions on parts, and the test that decides them.
use Rattle.std.proofs.Common.{◌≡◌, ℕ, zero, suc, Bool, true, false, not, ◌&&◌, ◌||◌, List, [], ◌∷◌, refl, ap, sym, ◌∙◌, true≢false}
use Rattle.std.specs.Prelude.{Some, slice_get, IsTrue, ◌↔◌}
use Rattle.std.specs.List.{list_any, list_all}
use Rattle.artery_journal.specs.declared.line.Line.{Line}
use Rattle.artery_judge.specs.Lines.{same, of}
use Rattle.artery_audit.specs.declared.part.Part.{Part}
use Rattle.artery_audit.specs.Parts.{AreApart, AreParts, has_part, is_own, are_parts}
use Rattle.artery_audit.proofs.Lines.{opened, closed, same_turned, some_is}
use Rattle.artery_audit.proofs.Building.{none_is}

both : (b c : Bool) → (b && c) ≡ true → (b ≡ true) × (c ≡ true)
both true c h = (refl, h)
both false c h = cc

not_true : (b : Bool) → not b ≡ true → b ≡ false
not_true true h = cc
not_true false h = refl

-- where all pass a test, each does, and the other way round
each_is : {X : Type 0} (t : X → Bool) (xs : List X) (k : ℕ) (x : X) → list_all t xs ≡ true → slice_get xs k ≡ Some x → t x ≡ true
each_is t [] k x all at = cc
each_is t (y ∷ ys) zero x all at = ap t (sym (some_is at)) ∙ (both (t y) (list_all t ys) all).0
each_is t (y ∷ ys) (suc k) x all at = each_is t ys k x (both (t y) (list_all t ys) all).1 at

all_are : {X : Type 0} (t : X → Bool) (xs : List X) → ((k : ℕ) (x : X) → slice_get xs k ≡ Some x → t x ≡ true) → list_all t xs ≡ true
all_are t [] each = refl
all_are t (x ∷ xs) each = by (t x) (each 0 x refl) (all_are t xs (λ k y at. each (suc k) y at))
  where
    by : (b : Bool) → b ≡ true → list_all t xs ≡ true → (b && list_all t xs) ≡ true
    by true is rest = rest
    by false is rest = is

-- where some element passes a test, one stands at a place
there_is_one : (t : Part → Bool) (parts : List Part) → list_any t parts ≡ true → (k : ℕ) × (p : Part) × (slice_get parts k ≡ Some p) × (t p ≡ true)
there_is_one t [] h = cc
there_is_one t (p ∷ ps) h = by (t p) refl h (there_is_one t ps)
  where
    by : (b : Bool) → t p ≡ b → (b || list_any t ps) ≡ true → (list_any t ps ≡ true → (k : ℕ) × (q : Part) × (slice_get ps k ≡ Some q) × (t q ≡ true)) → (k : ℕ) × (q : Part) × (slice_get (p ∷ ps) k ≡ Some q) × (t q ≡ true)
    by true is some rest = (0, p, refl, is)
    by false is some rest = let r = rest some in (suc r.0, r.1, r.2, r.3)

apart_more : (p : Part) (ps : List Part) → has_part p.of ps ≡ false → is_own p ≡ true → AreApart ps → AreApart (p ∷ ps)
apart_more p ps new mine rest = record {
  apart = apart;
  own = own;
}
  where
    other : (j : ℕ) (q : Part) → slice_get ps j ≡ Some q → same q.of p.of ≡ false
    other j q at = none_is (λ r. same r.of p.of) ps j q new at

    apart : (i j : ℕ) (a b : Part) → slice_get (p ∷ ps) i ≡ Some a → slice_get (p ∷ ps) j ≡ Some b → same a.of b.of ≡ true → i ≡ j
    apart zero zero a b at there alike = refl
    apart zero (suc j) a b at there alike = absurd (true≢false (sym alike ∙ same_turned a.of b.of ∙ ap (λ (r : Part). same b.of r.of) (sym (some_is at)) ∙ other j b there))
    apart (suc i) zero a b at there alike = absurd (true≢false (sym alike ∙ ap (λ (r : Part). same a.of r.of) (sym (some_is there)) ∙ other i a at))
    apart (suc i) (suc j) a b at there alike = ap suc (rest.apart i j a b at there alike)

    own : (i k : ℕ) (a : Part) (line : Line) → slice_get (p ∷ ps) i ≡ Some a → slice_get a.lines k ≡ Some line → same a.of (of line) ≡ true
    own zero k a line at there = each_is (λ l. same a.of (of l)) a.lines k line (ap is_own (sym (some_is at)) ∙ mine) there
    own (suc i) k a line at there = rest.own i k a line at there

apart_from : (parts : List Part) → are_parts parts ≡ true → AreApart parts
apart_from [] h = record { apart = λ i j p q at there alike. cc; own = λ i k p line at there. cc }
apart_from (p ∷ ps) h =
    let tests = both (not (has_part p.of ps)) (is_own p && are_parts ps) h in
    let mine = both (is_own p) (are_parts ps) tests.1 in
    apart_more p ps (not_true (has_part p.of ps) tests.0) mine.0 (apart_from ps mine.1)

apart_so : (parts : List Part) → AreApart parts → are_parts parts ≡ true
apart_so [] ok = refl
apart_so (p ∷ ps) ok = by (has_part p.of ps) refl (is_own p) own (are_parts ps) (apart_so ps rest)
  where
    rest : AreApart ps
    rest = record {
      apart = λ i j a b at there alike. less (ok.apart (suc i) (suc j) a b at there alike);
      own = λ i k a line at there. ok.own (suc i) k a line at there;
    }
      where
        less : {i j : ℕ} → suc i ≡ suc j → i ≡ j
        less e = cc

    own : is_own p ≡ true
    own = all_are (λ l. same p.of (of l)) p.lines (λ k line at. ok.own 0 k p line refl at)

    never : (k : ℕ) → 0 ≡ suc k → ⊥
    never k e = cc

    by : (b : Bool) → has_part p.of ps ≡ b → (c : Bool) → c ≡ true → (d : Bool) → d ≡ true → (not b && (c && d)) ≡ true
    by true is c cs d ds =
        let q = there_is_one (λ r. same r.of p.of) ps is in
        absurd (never q.0 (ok.apart 0 (suc q.0) p q.1 refl q.2 (same_turned p.of q.1.of ∙ q.3)))
    by false is true cs true ds = refl
    by false is true cs false ds = ds
    by false is false cs d ds = cs

pub decides : (parts : List Part) → IsTrue (are_parts parts) ↔ AreParts parts
decides parts = (λ h. closed parts (apart_from parts h), λ ok. apart_so parts (opened parts ok))
