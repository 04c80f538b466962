-- Parts with a part more, or with a line more.
use Rattle.std.proofs.Common.{◌≡◌, ℕ, zero, suc, ◌-◌, ◌<◌, Bool, true, false, ◌||◌, List, [], ◌∷◌, ◌++◌, length, refl, ap, sym, ◌∙◌, true≢false, inl, inr, arith}
use Rattle.std.proofs.lemmas.Bool.{cases_eq}
use Rattle.std.specs.Prelude.{Option, Some, None, slice_get, slice_set, is_some, ◌⊎◌}
use Rattle.std.specs.List.{list_any}
use Rattle.artery_base.specs.declared.address.UniqueAddress.{UniqueAddress}
use Rattle.artery_journal.specs.declared.line.Line.{Line}
use Rattle.artery_judge.specs.Lines.{same, of}
use Rattle.artery_audit.specs.declared.part.Part.{Part}
use Rattle.artery_audit.specs.Parts.{AreParts, last_is, last_part, takes, has_part, begun, lined, lined_at, with_line}
use Rattle.artery_audit.proofs.Lines.{opened, closed, same_turned, some_is, set_there, set_elsewhere}

-- an element of a list and one more
one_of : {X : Type 0} (xs : List X) (y x : X) (i : ℕ) → slice_get (xs ++ y ∷ []) i ≡ Some x → (slice_get xs i ≡ Some x) ⊎ ((i ≡ length xs) × (x ≡ y))
one_of [] y x zero at = inr (refl, sym (some_is at))
one_of [] y x (suc i) at = cc
one_of (z ∷ zs) y x zero at = inl at
one_of (z ∷ zs) y x (suc i) at = by (one_of zs y x i at)
  where
    by : (slice_get zs i ≡ Some x) ⊎ ((i ≡ length zs) × (x ≡ y)) → (slice_get zs i ≡ Some x) ⊎ ((suc i ≡ suc (length zs)) × (x ≡ y))
    by (inl e) = inl e
    by (inr e) = inr (ap suc e.0, e.1)

pub none_is : (t : Part → Bool) (parts : List Part) (i : ℕ) (p : Part) → list_any t parts ≡ false → slice_get parts i ≡ Some p → t p ≡ false
none_is t [] i p none at = cc
none_is t (q ∷ qs) i p none at = by (t q) refl none i at (none_is t qs)
  where
    by : (b : Bool) → t q ≡ b → (b || list_any t qs) ≡ false → (i : ℕ) → slice_get (q ∷ qs) i ≡ Some p → ((j : ℕ) (r : Part) → list_any t qs ≡ false → slice_get qs j ≡ Some r → t r ≡ false) → t p ≡ false
    by true is none i at rest = absurd (true≢false none)
    by false is none zero at rest = ap t (sym (some_is at)) ∙ is
    by false is none (suc i) at rest = rest i p none at

pub part_more : (parts : List Part) (new : Part) → AreParts parts → list_any (λ p. same p.of new.of) parts ≡ false → new.lines ≡ [] → AreParts (parts ++ new ∷ [])
part_more parts new ok none empty = closed (parts ++ new ∷ []) (record {
  apart = λ i j p q at there alike. apart i j p q alike (one_of parts new p i at) (one_of parts new q j there);
  own = λ i k p line at there. own i k p line there (one_of parts new p i at);
})
  where
    apart : (i j : ℕ) (p q : Part) → same p.of q.of ≡ true → (slice_get parts i ≡ Some p) ⊎ ((i ≡ length parts) × (p ≡ new)) → (slice_get parts j ≡ Some q) ⊎ ((j ≡ length parts) × (q ≡ new)) → i ≡ j
    apart i j p q alike (inl at) (inl there) = (opened parts ok).apart i j p q at there alike
    apart i j p q alike (inl at) (inr there) = absurd (true≢false (sym alike ∙ ap (λ (r : Part). same p.of r.of) there.1 ∙ none_is (λ r. same r.of new.of) parts i p none at))
    apart i j p q alike (inr at) (inl there) = absurd (true≢false (sym alike ∙ ap (λ (r : Part). same r.of q.of) at.1 ∙ same_turned new.of q.of ∙ none_is (λ r. same r.of new.of) parts j q none there))
    apart i j p q alike (inr at) (inr there) = at.0 ∙ sym there.0

    own : (i k : ℕ) (p : Part) (line : Line) → slice_get p.lines k ≡ Some line → (slice_get parts i ≡ Some p) ⊎ ((i ≡ length parts) × (p ≡ new)) → same p.of (of line) ≡ true
    own i k p line there (inl at) = (opened parts ok).own i k p line at there
    own i k p line there (inr at) = absurd (nothing (sym there ∙ ap (λ (r : Part). slice_get r.lines k) at.1 ∙ ap (λ (l : List Line). slice_get l k) empty))
      where
        nothing : Some line ≡ None → ⊥
        nothing e = cc

-- where one part is changed, and keeps its name
pub part_changed : (parts : List Part) (k : ℕ) (old new : Part) → AreParts parts → slice_get parts k ≡ Some old → new.of ≡ old.of → ((n : ℕ) (line : Line) → slice_get new.lines n ≡ Some line → same old.of (of line) ≡ true) → AreParts (slice_set parts k new)
part_changed parts k old new ok at name mine = closed (slice_set parts k new) (record {
  apart = λ i j p q there here alike. apart i j p q alike (was i p there) (was j q here);
  own = λ i n p line there here. own i n p line here there (cases_eq k i);
})
  where
    -- each part has the name of the one that stood there
    was : (i : ℕ) (p : Part) → slice_get (slice_set parts k new) i ≡ Some p → (q : Part) × (slice_get parts i ≡ Some q) × (p.of ≡ q.of)
    was i p there = by (cases_eq k i)
      where
        by : (k ≡ i) ⊎ (k ≡ i → ⊥) → (q : Part) × (slice_get parts i ≡ Some q) × (p.of ≡ q.of)
        by (inl e) =
            let it : new ≡ p = some_is (sym (set_there parts k old new at) ∙ ap (slice_get (slice_set parts k new)) e ∙ there) in
            (old, ap (slice_get parts) (sym e) ∙ at, ap (λ (r : Part). r.of) (sym it) ∙ name)
        by (inr e) = (p, sym (set_elsewhere parts k i new e) ∙ there, refl)

    apart : (i j : ℕ) (p q : Part) → same p.of q.of ≡ true → ((r : Part) × (slice_get parts i ≡ Some r) × (p.of ≡ r.of)) → ((r : Part) × (slice_get parts j ≡ Some r) × (q.of ≡ r.of)) → i ≡ j
    apart i j p q alike one other = (opened parts ok).apart i j one.0 other.0 one.1 other.1 hcom_alike
      where
        hcom_alike : same one.0.of other.0.of ≡ true
        hcom_alike = ap (λ (u : UniqueAddress). same u other.0.of) (sym one.2) ∙ ap (same p.of) (sym other.2) ∙ alike

    own : (i n : ℕ) (p : Part) (line : Line) → slice_get p.lines n ≡ Some line → slice_get (slice_set parts k new) i ≡ Some p → (k ≡ i) ⊎ (k ≡ i → ⊥) → same p.of (of line) ≡ true
    own i n p line here there (inl e) =
        let it : new ≡ p = some_is (sym (set_there parts k old new at) ∙ ap (slice_get (slice_set parts k new)) e ∙ there) in
        ap (λ (r : Part). same r.of (of line)) (sym it) ∙ ap (λ (u : UniqueAddress). same u (of line)) name ∙ mine n line (ap (λ (r : Part). slice_get r.lines n) it ∙ here)
    own i n p line here there (inr e) = (opened parts ok).own i n p line (sym (set_elsewhere parts k i new e) ∙ there) here

-- a line more at the end of a part
pub line_more : (parts : List Part) (k : ℕ) (old new : Part) (line : Line) → AreParts parts → slice_get parts k ≡ Some old → new.of ≡ old.of → new.lines ≡ old.lines ++ line ∷ [] → same old.of (of line) ≡ true → AreParts (slice_set parts k new)
line_more parts k old new line ok at name more mine = part_changed parts k old new ok at name (λ n l there. by n l (one_of old.lines line l n (ap (λ (xs : List Line). slice_get xs n) (sym more) ∙ there)))
  where
    by : (n : ℕ) (l : Line) → (slice_get old.lines n ≡ Some l) ⊎ ((n ≡ length old.lines) × (l ≡ line)) → same old.of (of l) ≡ true
    by n l (inl there) = (opened parts ok).own k n old l at there
    by n l (inr there) = ap (λ (x : Line). same old.of (of x)) there.1 ∙ mine

-- no parts
pub no_parts : AreParts []
no_parts = closed [] (record { apart = λ i j p q at there alike. none i p at; own = λ i k p line at there. none i p at })
  where
    none : {P : Type 0} (i : ℕ) (p : Part) → slice_get {X = Part} [] i ≡ Some p → P
    none i p at = absurd (true≢false (sym (ap is_some at)))

-- the part that is given a line, or not for want of memory
pub line_pushed : (parts : List Part) (k : ℕ) (old new : Part) (line : Line) → AreParts parts → slice_get parts k ≡ Some old → last_is (of line) (slice_get parts k) ≡ true → new.of ≡ old.of → new.lines ≡ old.lines ++ line ∷ [] → AreParts (slice_set parts k new)
line_pushed parts k old new line ok at mine name more = line_more parts k old new line ok at name more (sym (ap (last_is (of line)) at) ∙ mine)

pub line_not_pushed : (parts : List Part) (k : ℕ) (old new : Part) → AreParts parts → slice_get parts k ≡ Some old → new.of ≡ old.of → new.lines ≡ old.lines → AreParts (slice_set parts k new)
line_not_pushed parts k old new ok at name same_lines = part_changed parts k old new ok at name (λ n l there. (opened parts ok).own k n old l at (ap (λ (xs : List Line). slice_get xs n) (sym same_lines) ∙ there))

-- the part of an incarnation more, which has none
pub part_begun : (parts : List Part) (u : UniqueAddress) → AreParts parts → has_part u parts ≡ false → AreParts (parts ++ begun u ∷ [])
part_begun parts u ok none = part_more parts (begun u) ok none refl

-- a line of the last part's incarnation more
pub line_added : (parts : List Part) (line : Line) → AreParts parts → takes line parts ≡ true → AreParts (with_line line parts)
line_added parts line ok mine = by (last_part parts) refl mine
  where
    by : (o : Option Part) → last_part parts ≡ o → last_is (of line) o ≡ true → AreParts (lined_at (length parts - 1) line parts o)
    by None at own = ok
    by (Some p) at own = line_more parts (length parts - 1) p (lined line p) line ok at refl refl own

-- parts that take a line are some
pub has_last : (line : Line) (parts : List Part) → takes line parts ≡ true → 0 < length parts
has_last line [] h = absurd cc
has_last line (p ∷ ps) h = omega arith

-- and one is the last
pub there_is_last : (line : Line) (parts : List Part) → takes line parts ≡ true → (p : Part) × (slice_get parts (length parts - 1) ≡ Some p)
there_is_last line parts h = by (last_part parts) refl h
  where
    by : (o : Option Part) → last_part parts ≡ o → last_is (of line) o ≡ true → (p : Part) × (slice_get parts (length parts - 1) ≡ Some p)
    by None at own = absurd cc
    by (Some p) at own = (p, at)
