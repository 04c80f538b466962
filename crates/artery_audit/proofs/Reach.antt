-- Where no part has a next line that breaks no law, no lawful merge reaches further.
use Rattle.std.proofs.Common.{◌≡◌, ℕ, ◌≤◌, Bool, true, false, List, [], ◌∷◌, ◌++◌, length, take, drop, refl, ap, sym, subst, ◌∙◌, append_assoc, true≢false, arith}
use Rattle.std.proofs.lemmas.List.{append-nil, append_cancel_left, length-append, take_at, length-take-le, take-append-drop}
use Rattle.std.specs.Prelude.{Option, Some, None, is_some, slice_get, if◌then◌else◌}
use Rattle.artery_base.specs.Words.{IsPrefix}
use Rattle.artery_base.specs.declared.address.UniqueAddress.{UniqueAddress}
use Rattle.artery_journal.specs.declared.line.Line.{Line}
use Rattle.artery_judge.specs.declared.verdict.Law.{Law}
use Rattle.artery_judge.specs.Lines.{same, of}
use Rattle.artery_audit.specs.declared.part.Part.{Part}
use Rattle.artery_audit.specs.Parts.{lines_by, part_of}
use Rattle.artery_audit.specs.Merges.{law_after, IsLawful, IsFront, Cut, Reaches, IsGreatest}
use Rattle.artery_audit.specs.Answers.{allowed, fitting, or_else, first_fitting}
use Rattle.artery_audit.specs.Merging.{cut_of}
use Rattle.artery_audit.proofs.Lines.{head_is, one_more, by_more, by_other, by_alike, at_length}
use Rattle.artery_audit.proofs.Allowing.{law_more, more_for}

-- of the lines of each incarnation one list has a front
abbrev pub IsWithin : List Line → List Line → Type 0
IsWithin one other = (u : UniqueAddress) → IsPrefix (lines_by u one) (lines_by u other)

-- the line that is not allowed breaks a law
not_allowed : (before : List Line) (line : Line) (o : Option Law) → (if is_some o then None else Some line) ≡ None → is_some o ≡ true
not_allowed before line None h = cc
not_allowed before line (Some law) h = refl

pub not_one : (o other : Option Line) → or_else o other ≡ None → o ≡ None
not_one None other h = refl
not_one (Some x) other h = h

pub not_other : (o other : Option Line) → or_else o other ≡ None → other ≡ None
not_other None other h = h
not_other (Some x) other h = cc

-- a line that stands next in a part breaks a law, where no part has one that breaks none
pub breaks_next : (lines : List Line) (parts : List Part) (u : UniqueAddress) (x : Line) (more : List Line) → first_fitting lines parts ≡ None → part_of u parts ≡ lines_by u lines ++ x ∷ more → is_some (law_after lines x) ≡ true
breaks_next lines [] u x more ended is = none (lines_by u lines) is
  where
    none : (xs : List Line) → [] ≡ xs ++ x ∷ more → is_some (law_after lines x) ≡ true
    none [] e = cc
    none (y ∷ ys) e = cc
breaks_next lines (p ∷ ps) u x more ended is = by (breaks_next lines ps u x more (not_other (fitting lines p) (first_fitting lines ps) ended)) (same u p.of) refl is
  where
    by : (part_of u ps ≡ lines_by u lines ++ x ∷ more → is_some (law_after lines x) ≡ true) → (b : Bool) → same u p.of ≡ b → (if b then p.lines else part_of u ps) ≡ lines_by u lines ++ x ∷ more → is_some (law_after lines x) ≡ true
    by rest true own at =
        let here : fitting lines p ≡ None = not_one (fitting lines p) (first_fitting lines ps) ended in
        let next : slice_get p.lines (length (lines_by p.of lines)) ≡ Some x = ap (λ (l : List Line). slice_get p.lines (length l)) (sym (by_alike u p.of lines own)) ∙ ap (λ (l : List Line). slice_get l (length (lines_by u lines))) at ∙ at_length (lines_by u lines) more x in
        not_allowed lines x (law_after lines x) (ap (allowed lines) (sym next) ∙ here)
    by rest false other at = rest at

-- one line further
one_within : (lines m : List Line) (parts : List Part) (x : Line) → IsFront parts lines → first_fitting lines parts ≡ None → IsFront parts (m ++ x ∷ []) → law_after m x ≡ None → IsWithin m lines → IsWithin (m ++ x ∷ []) lines
one_within lines m parts x front ended within allowed so_far u = by (same u (of x)) refl
  where
    longer : (own : same u (of x) ≡ true) (left right after : List Line) → (lines_by u m ++ x ∷ []) ++ right ≡ part_of u parts → lines_by u lines ++ after ≡ part_of u parts → lines_by u m ++ left ≡ lines_by u lines → IsPrefix (lines_by u m ++ x ∷ []) (lines_by u lines)
    longer own [] right after part has is =
        let level : lines_by u m ≡ lines_by u lines = sym (append-nil (lines_by u m)) ∙ is in
        let next : part_of u parts ≡ lines_by u lines ++ x ∷ right = sym part ∙ one_more (lines_by u m) right x ∙ ap (λ (l : List Line). l ++ x ∷ right) level in
        let broken : is_some (law_after lines x) ≡ true = breaks_next lines parts u x right ended next in
        let level_too : lines_by (of x) m ≡ lines_by (of x) lines = sym (by_alike u (of x) m own) ∙ level ∙ by_alike u (of x) lines own in
        let free : law_after lines x ≡ None = law_more m lines x (more_for m lines x level_too so_far) allowed in
        absurd (true≢false (sym broken ∙ ap is_some free))
    longer own (y ∷ ys) right after part has is =
        let both : lines_by u m ++ (x ∷ right) ≡ lines_by u m ++ (y ∷ ys ++ after) = sym (one_more (lines_by u m) right x) ∙ part ∙ sym has ∙ ap (λ (l : List Line). l ++ after) (sym is) ∙ append_assoc (lines_by u m) (y ∷ ys) after in
        let first : x ≡ y = head_is (append_cancel_left (lines_by u m) (x ∷ right) (y ∷ ys ++ after) both) in
        (ys, one_more (lines_by u m) ys x ∙ ap (λ z. lines_by u m ++ z ∷ ys) first ∙ is)

    by : (b : Bool) → same u (of x) ≡ b → IsPrefix (lines_by u (m ++ x ∷ [])) (lines_by u lines)
    by true own = subst (λ (l : List Line). IsPrefix l (lines_by u lines)) (sym (by_more u m x own))
        (longer own (so_far u).0 (within u).0 (front u).0 (ap (λ (l : List Line). l ++ (within u).0) (sym (by_more u m x own)) ∙ (within u).1) (front u).1 (so_far u).1)
    by false other = subst (λ (l : List Line). IsPrefix l (lines_by u lines)) (sym (by_other u m x other)) (so_far u)

-- a front of a front
front_of : (parts : List Part) (m rest : List Line) → IsFront parts (m ++ rest) → IsFront parts m
front_of parts m rest h u = by (h u)
  where
    by : IsPrefix (lines_by u (m ++ rest)) (part_of u parts) → IsPrefix (lines_by u m) (part_of u parts)
    by (more, is) = (lines_by u rest ++ more, sym (append_assoc (lines_by u m) (lines_by u rest) more) ∙ ap (λ (l : List Line). l ++ more) (sym (split m)) ∙ is)
      where
        split : (xs : List Line) → lines_by u (xs ++ rest) ≡ lines_by u xs ++ lines_by u rest
        split [] = refl
        split (x ∷ xs) = on (same u (of x)) (split xs)
          where
            on : (b : Bool) → lines_by u (xs ++ rest) ≡ lines_by u xs ++ lines_by u rest → (if b then x ∷ lines_by u (xs ++ rest) else lines_by u (xs ++ rest)) ≡ (if b then x ∷ lines_by u xs else lines_by u xs) ++ lines_by u rest
            on true e = ap (λ (l : List Line). x ∷ l) e
            on false e = e

-- all lines of a lawful list
all_within : (lines m rest : List Line) (parts : List Part) → IsFront parts lines → first_fitting lines parts ≡ None → IsFront parts (m ++ rest) → IsLawful (m ++ rest) → IsWithin m lines → IsWithin (m ++ rest) lines
all_within lines m [] parts front ended within lawful so_far = subst (λ l. IsWithin l lines) (sym (append-nil m)) so_far
all_within lines m (x ∷ xs) parts front ended within lawful so_far =
    let shift : (m ++ x ∷ []) ++ xs ≡ m ++ x ∷ xs = one_more m xs x in
    let within_too : IsFront parts ((m ++ x ∷ []) ++ xs) = subst (IsFront parts) (sym shift) within in
    let step = one_within lines m parts x front ended (front_of parts (m ++ x ∷ []) xs within_too) (lawful m xs x refl) so_far in
    subst (λ l. IsWithin l lines) shift (all_within lines (m ++ x ∷ []) xs parts front ended within_too (subst IsLawful (sym shift) lawful) step)

pub none_further : (lines other : List Line) (parts : List Part) → IsFront parts lines → first_fitting lines parts ≡ None → IsFront parts other → IsLawful other → IsWithin other lines
none_further lines other parts front ended within lawful = all_within lines [] other parts front ended within lawful (λ u. (lines_by u lines, refl))

-- ---- cuts

front_length : (xs ys : List Line) → IsPrefix xs ys → length xs ≤ length ys
front_length xs ys (more, is) = omega (arith, sym (ap length is) ∙ length-append xs more)

front_take : (xs ys : List Line) → IsPrefix xs ys → xs ≡ take (length xs) ys
front_take xs ys (more, is) = sym (take_at xs more (length xs) refl) ∙ ap (take (length xs)) is

take_front : (n : ℕ) (xs ys : List Line) → xs ≡ take n ys → IsPrefix xs ys
take_front n xs ys is = (drop n ys, ap (λ (l : List Line). l ++ drop n ys) is ∙ take-append-drop n ys)

pub reaches_own : (lines : List Line) (parts : List Part) → IsFront parts lines → IsLawful lines → Reaches parts (cut_of lines) lines
reaches_own lines parts front lawful = record {
  within = λ u. front_length (lines_by u lines) (part_of u parts) (front u);
  merge = λ u. front_take (lines_by u lines) (part_of u parts) (front u);
  lawful = lawful;
}

pub reaching_front : (lines : List Line) (parts : List Part) (cut : Cut) → Reaches parts cut lines → IsFront parts lines
reaching_front lines parts cut r u = take_front (cut u) (lines_by u lines) (part_of u parts) (r.merge u)

cut_length : (lines : List Line) (parts : List Part) (cut : Cut) → Reaches parts cut lines → (u : UniqueAddress) → cut u ≡ length (lines_by u lines)
cut_length lines parts cut r u = sym (ap length (r.merge u) ∙ length-take-le (cut u) (part_of u parts) (r.within u))

pub greatest : (lines : List Line) (parts : List Part) → IsFront parts lines → IsLawful lines → first_fitting lines parts ≡ None → IsGreatest parts (cut_of lines)
greatest lines parts front lawful ended = record {
  reached = (lines, reaches_own lines parts front lawful);
  greatest = λ other is u.
      let within = none_further lines is.0 parts front ended (reaching_front is.0 parts other is.1) is.1.lawful u in
      let long = front_length (lines_by u is.0) (lines_by u lines) within in
      omega (arith, cut_length is.0 parts other is.1 u, long);
}
