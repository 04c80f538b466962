-- Turns of one part, and the beginning.
use Rattle.std.proofs.Common.{◌≡◌, ℕ, zero, suc, ◌+◌, ◌<◌, Bool, true, false, List, [], ◌∷◌, ◌++◌, length, drop, replicate, refl, ap, sym, subst, ◌∙◌, true≢false, arith}
use Rattle.std.proofs.lemmas.List.{length-replicate}
use Rattle.std.specs.Prelude.{Option, Some, None, is_some, slice_get, if◌then◌else◌}
use Rattle.artery_base.specs.declared.address.UniqueAddress.{UniqueAddress}
use Rattle.artery_journal.specs.declared.line.Line.{Line}
use Rattle.artery_judge.specs.declared.verdict.Law.{Law}
use Rattle.artery_judge.specs.Laws.{plain}
use Rattle.artery_judge.specs.Kept.{Stands}
use Rattle.artery_judge.specs.Views.{kept}
use Rattle.artery_audit.specs.declared.part.Part.{Part}
use Rattle.artery_audit.specs.Parts.{AreParts, lines_by, part_of}
use Rattle.artery_audit.specs.Merges.{law_after}
use Rattle.artery_audit.specs.Answers.{allowed, fitting, first_fitting, first_left, IsStuck}
use Rattle.artery_audit.specs.Merging.{Under, IsUnder, Took, Turned, IsFound, cut_of, numbered, next_at, is_ready, rested, unmerged}
use Rattle.artery_audit.proofs.Lines.{some_is, before_end}
use Rattle.artery_audit.proofs.Reach.{not_one, not_other}
use Rattle.artery_audit.proofs.Steps.{next_is, passes, is_first, rests_under, takes_under, fewer}
use Rattle.artery_audit.proofs.Answering.{used, left_there, is_stuck}

at_within : {X : Type 0} (xs : List X) (k : ℕ) → k < length xs → (x : X) × (slice_get xs k ≡ Some x)
at_within [] k h = absurd (omega (arith, h))
at_within (x ∷ xs) zero h = (x, refl)
at_within (x ∷ xs) (suc k) h = at_within xs k (omega (arith, h))

at_replicate : {X : Type 0} (n k : ℕ) (x : X) → k < n → slice_get (replicate n x) k ≡ Some x
at_replicate zero k x h = absurd (omega (arith, h))
at_replicate (suc n) zero x h = refl
at_replicate (suc n) (suc k) x h = at_replicate n k x (omega (arith, h))

-- nothing is merged yet
pub begins : (m : Under) → AreParts m.parts → m.merge ≡ [] → Stands (kept m.judge) [] → m.taken ≡ replicate (length m.parts) 0 → m.ready ≡ replicate (length m.parts) true → IsUnder m
begins m ok empty st taken ready = record {
  parts = ok;
  front = λ u. (part_of u m.parts, ap (λ l. lines_by u l ++ part_of u m.parts) empty);
  in_turn = λ before after line is. none before after line (sym empty ∙ is);
  judged = subst (λ l. Stands (kept m.judge) (plain l)) (sym empty) st;
  taken = λ k p at. ap (λ (l : List ℕ). slice_get l k) taken ∙ at_replicate (length m.parts) k 0 (before_end m.parts k p at) ∙ ap (λ l. Some (length (lines_by p.of l))) (sym empty);
  long = ap length ready ∙ length-replicate (length m.parts) true;
  waiting = λ k p at not_ready. absurd (true≢false (sym (ap is_ready (ap (λ (l : List Bool). slice_get l k) ready ∙ at_replicate (length m.parts) k true (before_end m.parts k p at))) ∙ not_ready));
}
  where
    none : (before after : List Line) (line : Line) → [] ≡ before ++ line ∷ after → first_fitting before m.parts ≡ Some line
    none [] after line e = cc
    none (x ∷ xs) after line e = cc

-- what stands next fits, or does not
numbered_is : (n : ℕ) (o : Option Line) (line : Line) (i : ℕ) → numbered n o ≡ Some (line, i) → (o ≡ Some line) × (i ≡ n + 1)
numbered_is n None line i h = cc
numbered_is n (Some x) line i h = (ap (λ (q : Option (Line × ℕ)). elim q [ None ↦ Some x | Some y ↦ Some y.0 ]) h, sym (ap (λ (q : Option (Line × ℕ)). elim q [ None ↦ 0 | Some y ↦ y.1 ]) h))

numbered_none : (n : ℕ) (o : Option Line) → numbered n o ≡ None → o ≡ None
numbered_none n None h = refl
numbered_none n (Some x) h = cc

kept_out : (line : Line) (o : Option Law) → is_some o ≡ true → (if is_some o then None else Some line) ≡ None
kept_out line o h = rw h refl

let_in : (line : Line) (o : Option Law) → is_some o ≡ false → (if is_some o then None else Some line) ≡ Some line
let_in line o h = rw h refl

-- a part that is passed over
passed_over : (k : ℕ) (m new : Under) (p : Part) → IsUnder new → slice_get m.parts k ≡ Some p → fitting m.merge p ≡ None → first_fitting m.merge m.parts ≡ first_fitting m.merge (drop k m.parts) → new.parts ≡ m.parts → new.merge ≡ m.merge → new.taken ≡ m.taken → Turned k false m new
passed_over k m new p under at none so_far parts merge taken = record {
  under = under;
  parts = parts;
  fewer = λ e. absurd (true≢false (sym e));
  taken = λ e. taken;
  passed = λ e. ap (λ b. first_fitting b new.parts) merge ∙ ap (first_fitting m.merge) parts ∙ passes m.merge m.parts k p at none so_far ∙ sym (ap (λ b. first_fitting b (drop (k + 1) new.parts)) merge ∙ ap (λ ps. first_fitting m.merge (drop (k + 1) ps)) parts);
}

pub turns_idle : (k : ℕ) (m : Under) → IsUnder m → k < length m.parts → first_fitting m.merge m.parts ≡ first_fitting m.merge (drop k m.parts) → is_ready (slice_get m.ready k) ≡ false → Turned k false m m
turns_idle k m u within so_far idle =
    let p = at_within m.parts k within in
    passed_over k m m p.0 u p.1 (u.waiting k p.0 p.1 idle) so_far refl refl refl

pub turns_none : (k : ℕ) (m : Under) → IsUnder m → k < length m.parts → first_fitting m.merge m.parts ≡ first_fitting m.merge (drop k m.parts) → next_at k m ≡ None → Turned k false m (rested k m)
turns_none k m u within so_far none =
    let p = at_within m.parts k within in
    let gone = numbered_none (length (lines_by p.0.of m.merge)) (slice_get p.0.lines (length (lines_by p.0.of m.merge))) (sym (next_is m k p.0 u p.1) ∙ none) in
    let fits : fitting m.merge p.0 ≡ None = ap (allowed m.merge) gone in
    passed_over k m (rested k m) p.0 (rests_under m k p.0 u p.1 fits) p.1 fits so_far refl refl refl

pub turns_back : (k : ℕ) (m : Under) (line : Line) (n : ℕ) → IsUnder m → k < length m.parts → first_fitting m.merge m.parts ≡ first_fitting m.merge (drop k m.parts) → next_at k m ≡ Some (line, n) → is_some (law_after m.merge line) ≡ true → Turned k false m (rested k m)
turns_back k m line n u within so_far next breaks =
    let p = at_within m.parts k within in
    let there = numbered_is (length (lines_by p.0.of m.merge)) (slice_get p.0.lines (length (lines_by p.0.of m.merge))) line n (sym (next_is m k p.0 u p.1) ∙ next) in
    let fits : fitting m.merge p.0 ≡ None = ap (allowed m.merge) there.0 ∙ kept_out line (law_after m.merge line) breaks in
    passed_over k m (rested k m) p.0 (rests_under m k p.0 u p.1 fits) p.1 fits so_far refl refl refl

pub turns_on : (k : ℕ) (m new : Under) (line : Line) (n : ℕ) → IsUnder m → k < length m.parts → first_fitting m.merge m.parts ≡ first_fitting m.merge (drop k m.parts) → is_ready (slice_get m.ready k) ≡ true → next_at k m ≡ Some (line, n) → is_some (law_after m.merge line) ≡ false → Took k line n m new → Turned k true m new
turns_on k m new line n u within so_far ready next free took =
    let p = at_within m.parts k within in
    let count = length (lines_by p.0.of m.merge) in
    let there = numbered_is count (slice_get p.0.lines count) line n (sym (next_is m k p.0 u p.1) ∙ next) in
    let fits : fitting m.merge p.0 ≡ Some line = ap (allowed m.merge) there.0 ∙ let_in line (law_after m.merge line) free in
    let took_next : Took k line (count + 1) m new = subst (λ i. Took k line i m new) there.1 took in
    record {
      under = takes_under m new k p.0 line u p.1 there.0 (is_first m.merge m.parts k p.0 line p.1 fits so_far) ready took_next;
      parts = took.parts;
      fewer = λ e. subst (λ (ps : List Part). unmerged ps new.taken < unmerged m.parts m.taken) (sym took.parts) (subst (λ (ns : List ℕ). unmerged m.parts ns < unmerged m.parts m.taken) (sym took_next.taken) (fewer m.parts m.taken k p.0 count line p.1 (u.taken k p.0 p.1) there.0));
      taken = λ e. absurd (true≢false e);
      passed = λ e. absurd (true≢false e);
    }

-- ---- what is found at a place

pub finds_none : (k : ℕ) (m : Under) → IsUnder m → next_at k m ≡ None → (p : Part) → slice_get m.parts k ≡ Some p → slice_get p.lines (cut_of m.merge p.of) ≡ None
finds_none k m u none p at = numbered_none (length (lines_by p.of m.merge)) (slice_get p.lines (length (lines_by p.of m.merge))) (sym (next_is m k p u at) ∙ none)

pub finds_one : (k : ℕ) (m : Under) (p : Part) (line : Line) (n : ℕ) (law : Law) → IsUnder m → slice_get m.parts k ≡ Some p → next_at k m ≡ Some (line, n) → law_after m.merge line ≡ Some law → IsFound k m p.of n law
finds_one k m p line n law u at next breaks =
    let there = numbered_is (length (lines_by p.of m.merge)) (slice_get p.lines (length (lines_by p.of m.merge))) line n (sym (next_is m k p u at) ∙ next) in
    record { part = p; line = line; at = at; next = there.0; of = refl; number = there.1; breaks = breaks }

none_fits : (before : List Line) (parts : List Part) (k : ℕ) (p : Part) → slice_get parts k ≡ Some p → first_fitting before parts ≡ None → fitting before p ≡ None
none_fits before [] k p at none = cc
none_fits before (q ∷ qs) zero p at none = ap (fitting before) (sym (some_is at)) ∙ not_one (fitting before q) (first_fitting before qs) none
none_fits before (q ∷ qs) (suc k) p at none = none_fits before qs k p at (not_other (fitting before q) (first_fitting before qs) none)

-- where no next line breaks no law, one that is there breaks one
pub must_break : (k : ℕ) (m : Under) (line : Line) (n : ℕ) → IsUnder m → k < length m.parts → first_fitting m.merge m.parts ≡ None → next_at k m ≡ Some (line, n) → law_after m.merge line ≡ None → ⊥
must_break k m line n u within ended next free =
    let p = at_within m.parts k within in
    let there = numbered_is (length (lines_by p.0.of m.merge)) (slice_get p.0.lines (length (lines_by p.0.of m.merge))) line n (sym (next_is m k p.0 u p.1) ∙ next) in
    let fits : fitting m.merge p.0 ≡ Some line = ap (allowed m.merge) there.0 ∙ let_in line (law_after m.merge line) (ap is_some free) in
    never (sym (none_fits m.merge m.parts k p.0 p.1 ended) ∙ fits)
  where
    never : None ≡ Some line → ⊥
    never e = cc

pub found_first : (k : ℕ) (m : Under) (named : UniqueAddress) (counted : ℕ) (law : Law) → IsUnder m → first_fitting m.merge m.parts ≡ None → first_left (cut_of m.merge) m.parts ≡ first_left (cut_of m.merge) (drop k m.parts) → IsFound k m named counted law → IsStuck m.parts named counted law
found_first k m named counted law u ended so_far f =
    let first = left_there (cut_of m.merge) m.parts k f.part f.line f.at f.next so_far in
    let stuck = is_stuck m f.part.of (cut_of m.merge f.part.of + 1) f.line law u ended first f.breaks in
    subst (λ v. IsStuck m.parts v counted law) (sym f.of) (subst (λ n. IsStuck m.parts f.part.of n law) (sym f.number) stuck)

pub found_none : (k : ℕ) (m : Under) → k < length m.parts → ((p : Part) → slice_get m.parts k ≡ Some p → slice_get p.lines (cut_of m.merge p.of) ≡ None) → first_left (cut_of m.merge) m.parts ≡ first_left (cut_of m.merge) (drop k m.parts) → first_left (cut_of m.merge) m.parts ≡ first_left (cut_of m.merge) (drop (k + 1) m.parts)
found_none k m within none so_far =
    let p = at_within m.parts k within in
    used (cut_of m.merge) m.parts k p.0 p.1 (none p.0 p.1) so_far
