-- What is found where no part has a next line that breaks no law.
use Rattle.std.proofs.Common.{◌≡◌, ℕ, zero, suc, ◌+◌, ◌≤◌, Bool, true, false, List, [], ◌∷◌, ◌++◌, length, drop, refl, ap, sym, ◌∙◌, arith}
use Rattle.std.proofs.lemmas.List.{length-append, append-nil}
use Rattle.std.specs.Prelude.{Option, Some, None, slice_get, if◌then◌else◌}
use Rattle.artery_base.specs.Words.{IsPrefix}
use Rattle.artery_base.specs.declared.address.UniqueAddress.{UniqueAddress}
use Rattle.artery_journal.specs.declared.line.Line.{Line}
use Rattle.artery_judge.specs.declared.verdict.Law.{Law}
use Rattle.artery_judge.specs.Lines.{same, of}
use Rattle.artery_audit.specs.declared.part.Part.{Part}
use Rattle.artery_audit.specs.Parts.{lines_by, part_of}
use Rattle.artery_audit.specs.Merges.{law_after, Cut, Reaches}
use Rattle.artery_audit.specs.Answers.{first_fitting, IsMergeInTurn, Left, left_at, first_left, IsStuck}
use Rattle.artery_audit.specs.Merging.{Under, IsUnder, cut_of}
use Rattle.artery_audit.proofs.Lines.{some_is, by_alike, past_end}
use Rattle.artery_audit.proofs.Allowing.{law_same, same_for}
use Rattle.artery_audit.proofs.Reach.{greatest, reaches_own}
use Rattle.artery_audit.proofs.Steps.{in_turn_lawful}

-- ---- the first part that is left

left_of_suc : (cut : Cut) (parts : List Part) (k : ℕ) (p : Part) → slice_get parts k ≡ Some p → first_left cut (drop k parts) ≡ left_at p (cut p.of) (slice_get p.lines (cut p.of)) (first_left cut (drop (suc k) parts))
left_of_suc cut [] k p at = cc
left_of_suc cut (q ∷ qs) zero p at = ap (λ (r : Part). left_at r (cut r.of) (slice_get r.lines (cut r.of)) (first_left cut qs)) (some_is at)
left_of_suc cut (q ∷ qs) (suc k) p at = left_of_suc cut qs k p at

plus_one : (k : ℕ) → suc k ≡ k + 1
plus_one k = omega arith

left_of_rest : (cut : Cut) (parts : List Part) (k : ℕ) (p : Part) → slice_get parts k ≡ Some p → first_left cut (drop k parts) ≡ left_at p (cut p.of) (slice_get p.lines (cut p.of)) (first_left cut (drop (k + 1) parts))
left_of_rest cut parts k p at = left_of_suc cut parts k p at ∙ ap (λ n. left_at p (cut p.of) (slice_get p.lines (cut p.of)) (first_left cut (drop n parts))) (plus_one k)

pub used : (cut : Cut) (parts : List Part) (k : ℕ) (p : Part) → slice_get parts k ≡ Some p → slice_get p.lines (cut p.of) ≡ None → first_left cut parts ≡ first_left cut (drop k parts) → first_left cut parts ≡ first_left cut (drop (k + 1) parts)
used cut parts k p at none so_far = so_far ∙ left_of_rest cut parts k p at ∙ ap (λ (o : Option Line). left_at p (cut p.of) o (first_left cut (drop (k + 1) parts))) none

pub left_there : (cut : Cut) (parts : List Part) (k : ℕ) (p : Part) (line : Line) → slice_get parts k ≡ Some p → slice_get p.lines (cut p.of) ≡ Some line → first_left cut parts ≡ first_left cut (drop k parts) → first_left cut parts ≡ Some (record { of = p.of; number = cut p.of + 1; line = line })
left_there cut parts k p line at some so_far = so_far ∙ left_of_rest cut parts k p at ∙ ap (λ (o : Option Line). left_at p (cut p.of) o (first_left cut (drop (k + 1) parts))) some

-- ---- lawful

none_left : (p : Part) (n : ℕ) (o : Option Line) (others : Option Left) → left_at p n o others ≡ None → o ≡ None
none_left p n None others h = refl
none_left p n (Some line) others h = cc

none_left_after : (p : Part) (n : ℕ) (o : Option Line) (others : Option Left) → left_at p n o others ≡ None → others ≡ None
none_left_after p n None others h = h
none_left_after p n (Some line) others h = cc

used_up : (lines : List Line) (parts : List Part) (u : UniqueAddress) → first_left (cut_of lines) parts ≡ None → length (part_of u parts) ≤ length (lines_by u lines)
used_up lines [] u h = omega arith
used_up lines (p ∷ ps) u h = by (used_up lines ps u (none_left_after p (cut_of lines p.of) (slice_get p.lines (cut_of lines p.of)) (first_left (cut_of lines) ps) h)) (same u p.of) refl
  where
    by : length (part_of u ps) ≤ length (lines_by u lines) → (b : Bool) → same u p.of ≡ b → length (if b then p.lines else part_of u ps) ≤ length (lines_by u lines)
    by rest true own =
        let long = past_end p.lines (length (lines_by p.of lines)) (none_left p (cut_of lines p.of) (slice_get p.lines (cut_of lines p.of)) (first_left (cut_of lines) ps) h) in
        let e : length (lines_by u lines) ≡ length (lines_by p.of lines) = ap length (by_alike u p.of lines own) in
        omega (arith, long, e)
    by rest false other = rest

whole : (xs ys : List Line) → IsPrefix xs ys → length ys ≤ length xs → xs ≡ ys
whole xs ys (more, is) long = by more is
  where
    by : (more : List Line) → xs ++ more ≡ ys → xs ≡ ys
    by [] is = sym (append-nil xs) ∙ is
    by (m ∷ ms) is = absurd (omega (arith, long, sym (ap length is) ∙ length-append xs (m ∷ ms)))

pub is_merge : (m : Under) → IsUnder m → first_left (cut_of m.merge) m.parts ≡ None → IsMergeInTurn m.parts m.merge
is_merge m u none = record {
  merge = λ v. whole (lines_by v m.merge) (part_of v m.parts) (u.front v) (used_up m.merge m.parts v none);
  lawful = in_turn_lawful m.parts m.merge u.in_turn;
  in_turn = u.in_turn;
}

-- ---- stuck

-- lines that reach the same cut break the same law
same_reach : (parts : List Part) (cut : Cut) (one other : List Line) → Reaches parts cut one → Reaches parts cut other → (u : UniqueAddress) → lines_by u one ≡ lines_by u other
same_reach parts cut one other r s u = r.merge u ∙ sym (s.merge u)

pub is_stuck : (m : Under) (of : UniqueAddress) (number : ℕ) (line : Line) (law : Law) → IsUnder m → first_fitting m.merge m.parts ≡ None → first_left (cut_of m.merge) m.parts ≡ Some (record { of = of; number = number; line = line }) → law_after m.merge line ≡ Some law → IsStuck m.parts of number law
is_stuck m of number line law u ended first breaks =
    let lawful = in_turn_lawful m.parts m.merge u.in_turn in
    record {
      cut = cut_of m.merge;
      line = line;
      greatest = greatest m.merge m.parts u.front lawful ended;
      first = first;
      breaks = λ lines r. law_same lines m.merge line (same_for lines m.merge line (same_reach m.parts (cut_of m.merge) lines m.merge r (reaches_own m.merge m.parts u.front lawful))) ∙ breaks;
    }
