-- What an audit finds is a function of the parts.
use Rattle.std.proofs.Common.{◌≡◌, ℕ, zero, suc, ◌+◌, ◌-◌, ◌<◌, ◌≤◌, Bool, true, false, List, [], ◌∷◌, ◌++◌, length, refl, ap, sym, subst, ◌∙◌, arith}
use Rattle.std.proofs.lemmas.List.{append-nil, length-append}
use Rattle.std.specs.Prelude.{Option, Some, None, option_map, unwrap_or, slice_get, Err}
use Rattle.artery_base.specs.declared.address.UniqueAddress.{UniqueAddress}
use Rattle.artery_journal.specs.declared.line.Line.{Line}
use Rattle.artery_judge.specs.declared.verdict.Law.{Law}
use Rattle.artery_judge.specs.Lines.{same, of}
use Rattle.artery_audit.specs.declared.part.Part.{Part}
use Rattle.artery_audit.specs.declared.audited.Audited.{Audited}
use Rattle.artery_audit.specs.declared.audited.Audited.TheVariants.{Lawful, Broken}
use Rattle.artery_audit.specs.Parts.{AreParts, lines_by, part_of}
use Rattle.artery_audit.specs.Merges.{law_after, IsLawful, IsMerge, IsFront, Cut, Reaches, IsGreatest}
use Rattle.artery_audit.specs.Answers.{allowed, fitting, or_else, first_fitting, IsInTurn, first_left, IsAnswer}
use Rattle.artery_audit.specs.Merging.{cut_of}
use Rattle.artery_audit.specs.Outcome.{all_lines, going_on, merged, found, outcome, told}
use Rattle.artery_audit.proofs.Lines.{opened, same_self, some_is, one_more, each_more, by_more, by_other, before_end}
use Rattle.artery_audit.proofs.Reach.{greatest, reaches_own}
use Rattle.artery_audit.proofs.Steps.{own_part, allowed_is, front_more, in_turn_lawful}
use Rattle.artery_audit.proofs.Telling.{nothing_left}

-- ---- the part from which a next line comes

-- the next line of a part, which breaks no law
fits_next : (before : List Line) (p : Part) (x : Line) → fitting before p ≡ Some x → slice_get p.lines (length (lines_by p.of before)) ≡ Some x
fits_next before p x h = by (slice_get p.lines (length (lines_by p.of before))) h
  where
    by : (o : Option Line) → allowed before o ≡ Some x → o ≡ Some x
    by None h = cc
    by (Some line) h = ap Some (allowed_is line x (law_after before line) h).1

-- a part and its place, whose next line this is
abbrev pub Next : List Line → List Part → Line → Type 0
Next before parts x = (k : ℕ) × (p : Part) × (slice_get parts k ≡ Some p) × (slice_get p.lines (length (lines_by p.of before)) ≡ Some x)

from_part : (before : List Line) (parts : List Part) (x : Line) → first_fitting before parts ≡ Some x → Next before parts x
from_part before [] x h = cc
from_part before (p ∷ ps) x h = by (fitting before p) refl h (from_part before ps x)
  where
    by : (o : Option Line) → fitting before p ≡ o → or_else o (first_fitting before ps) ≡ Some x → (first_fitting before ps ≡ Some x → Next before ps x) → Next before (p ∷ ps) x
    by None is some rest = let r = rest some in (suc r.0, r.1, r.2, r.3)
    by (Some line) is some rest = (0, p, refl, fits_next before p x (is ∙ some))

-- ---- how many lines are left

-- how many lines are left of the parts behind others
abbrev left_of : List Line → List Part → ℕ
left_of before [] = 0
left_of before (p ∷ ps) = length p.lines - length (lines_by p.of before) + left_of before ps

no_more_left : (before : List Line) (x : Line) (u : UniqueAddress) → length (lines_by u before) ≤ length (lines_by u (before ++ x ∷ []))
no_more_left before x u = by (same u (of x)) refl
  where
    by : (b : Bool) → same u (of x) ≡ b → length (lines_by u before) ≤ length (lines_by u (before ++ x ∷ []))
    by true own = omega (arith, ap length (by_more u before x own) ∙ length-append (lines_by u before) (x ∷ []))
    by false other = omega (arith, ap length (by_other u before x other))

not_more : (before : List Line) (x : Line) (parts : List Part) → left_of (before ++ x ∷ []) parts ≤ left_of before parts
not_more before x [] = omega arith
not_more before x (p ∷ ps) = omega (arith, no_more_left before x p.of, not_more before x ps)

one_fewer : (before : List Line) (x : Line) (parts : List Part) (k : ℕ) (p : Part) → slice_get parts k ≡ Some p → slice_get p.lines (length (lines_by p.of before)) ≡ Some x → same p.of (of x) ≡ true → left_of (before ++ x ∷ []) parts < left_of before parts
one_fewer before x [] k p at next own = cc
one_fewer before x (q ∷ qs) zero p at next own = subst (λ (r : Part). length r.lines - length (lines_by r.of (before ++ x ∷ [])) + left_of (before ++ x ∷ []) qs < length r.lines - length (lines_by r.of before) + left_of before qs) (sym (some_is at))
    (omega (arith, before_end p.lines (length (lines_by p.of before)) x next, ap length (by_more p.of before x own) ∙ length-append (lines_by p.of before) (x ∷ []), not_more before x qs))
one_fewer before x (q ∷ qs) (suc k) p at next own = omega (arith, one_fewer before x qs k p at next own, no_more_left before x q.of)

all_left : (parts : List Part) → left_of [] parts ≤ all_lines parts
all_left [] = omega arith
all_left (p ∷ ps) = omega (arith, all_left ps)

-- ---- lines merged in turn

-- first lines of each part, taken in turn, and where they end
pub record IsTurns (parts : List Part) (lines : List Line) : Type 0 where
  pub front : IsFront parts lines
  pub in_turn : IsInTurn parts lines
  pub ended : first_fitting lines parts ≡ None

one_turn : (parts : List Part) (before : List Line) (x : Line) → AreParts parts → first_fitting before parts ≡ Some x → IsFront parts before → IsInTurn parts before → IsFront parts (before ++ x ∷ []) × IsInTurn parts (before ++ x ∷ []) × (left_of (before ++ x ∷ []) parts < left_of before parts)
one_turn parts before x ok first front turns =
    let n = from_part before parts x first in
    let own : same n.1.of (of x) ≡ true = (opened parts ok).own n.0 (length (lines_by n.1.of before)) n.1 x n.2 n.3 in (
      front_more parts n.0 n.1 x before ok n.2 n.3 front,
      each_more (λ b line. first_fitting b parts ≡ Some line) before x turns first,
      one_fewer before x parts n.0 n.1 n.2 n.3 own,
    )

turns : (n : ℕ) (parts : List Part) (before : List Line) → AreParts parts → left_of before parts ≤ n → IsFront parts before → IsInTurn parts before → IsTurns parts (going_on n parts before)
turns zero parts before ok few front in_turn = record { front = front; in_turn = in_turn; ended = by (first_fitting before parts) refl }
  where
    by : (o : Option Line) → first_fitting before parts ≡ o → o ≡ None
    by None first = refl
    by (Some x) first = absurd (omega (arith, few, (one_turn parts before x ok first front in_turn).2))
turns (suc n) parts before ok few front in_turn = by (first_fitting before parts) refl (λ b. turns n parts b ok)
  where
    by : (o : Option Line) → first_fitting before parts ≡ o → ((b : List Line) → left_of b parts ≤ n → IsFront parts b → IsInTurn parts b → IsTurns parts (going_on n parts b)) → IsTurns parts (unwrap_or (option_map (λ line. going_on n parts (before ++ line ∷ [])) o) before)
    by None first rest = record { front = front; in_turn = in_turn; ended = first }
    by (Some x) first rest =
        let t = one_turn parts before x ok first front in_turn in
        rest (before ++ x ∷ []) (omega (arith, few, t.2)) t.0 t.1

merged_turns : (parts : List Part) → AreParts parts → IsTurns parts (merged parts)
merged_turns parts ok = turns (all_lines parts) parts [] ok (all_left parts) (λ u. (part_of u parts, refl)) (λ before after line is. none before after line is)
  where
    none : (before after : List Line) (line : Line) → [] ≡ before ++ line ∷ after → first_fitting before parts ≡ Some line
    none [] after line e = cc
    none (x ∷ xs) after line e = cc

-- lines that are taken in turn as far as they go are the same
same_turns : (parts : List Part) (before one other : List Line) → IsInTurn parts (before ++ one) → IsInTurn parts (before ++ other) → first_fitting (before ++ one) parts ≡ None → first_fitting (before ++ other) parts ≡ None → one ≡ other
same_turns parts before [] [] h k e f = refl
same_turns parts before [] (y ∷ ys) h k e f = never (sym (ap (λ b. first_fitting b parts) (append-nil before) ∙ refl) ∙ e) (k before ys y refl)
  where
    never : first_fitting before parts ≡ None → first_fitting before parts ≡ Some y → [] ≡ y ∷ ys
    never n s = absurd (nothing (sym n ∙ s))
      where
        nothing : None ≡ Some y → ⊥
        nothing e = cc
same_turns parts before (x ∷ xs) [] h k e f = never (sym (ap (λ b. first_fitting b parts) (append-nil before)) ∙ f) (h before xs x refl)
  where
    never : first_fitting before parts ≡ None → first_fitting before parts ≡ Some x → x ∷ xs ≡ []
    never n s = absurd (nothing (sym n ∙ s))
      where
        nothing : None ≡ Some x → ⊥
        nothing e = cc
same_turns parts before (x ∷ xs) (y ∷ ys) h k e f =
    let first : x ≡ y = some_is (sym (h before xs x refl) ∙ k before ys y refl) in
    let shift : (zs : List Line) (z : Line) → before ++ z ∷ zs ≡ (before ++ z ∷ []) ++ zs = λ zs z. sym (one_more before zs z) in
    let other : before ++ y ∷ ys ≡ (before ++ x ∷ []) ++ ys = shift ys y ∙ ap (λ z. (before ++ z ∷ []) ++ ys) (sym first) in
    let rest : xs ≡ ys = same_turns parts (before ++ x ∷ []) xs ys (subst (IsInTurn parts) (shift xs x) h) (subst (IsInTurn parts) other k)
    (ap (λ b. first_fitting b parts) (sym (shift xs x)) ∙ e) (ap (λ b. first_fitting b parts) (sym other) ∙ f) in
    (λ i. first i ∷ rest i)

-- ---- a merge

used_up : (parts : List Part) (lines : List Line) (k : ℕ) (p : Part) → AreParts parts → IsMerge parts lines → slice_get parts k ≡ Some p → length p.lines ≤ length (lines_by p.of lines)
used_up parts lines k p ok merge at = omega (arith, ap length (merge p.of) ∙ ap length (own_part parts k p p.of ok at (same_self p.of)))

none_fits : (before : List Line) (parts : List Part) → ((k : ℕ) (p : Part) → slice_get parts k ≡ Some p → length p.lines ≤ length (lines_by p.of before)) → first_fitting before parts ≡ None
none_fits before parts all = by (first_fitting before parts) refl
  where
    by : (o : Option Line) → first_fitting before parts ≡ o → o ≡ None
    by None first = refl
    by (Some x) first =
        let n = from_part before parts x first in
        absurd (omega (arith, all n.0 n.1 n.2, before_end n.1.lines (length (lines_by n.1.of before)) x n.3))

-- ---- cuts

at_most_both : (i j : ℕ) → i ≤ j → j ≤ i → i ≡ j
at_most_both i j h k = omega (arith, h, k)

-- there is one greatest reached cut
one_greatest : (parts : List Part) (one other : Cut) → IsGreatest parts one → IsGreatest parts other → one ≡ other
one_greatest parts one other g h = λ i u. at_most_both (one u) (other u) (h.greatest one g.reached u) (g.greatest other h.reached u) i

pub one_outcome : (parts : List Part) (answer : Audited) → AreParts parts → IsAnswer parts answer → told answer ≡ outcome parts
one_outcome parts (Lawful merge) ok is =
    let all : (k : ℕ) (p : Part) → slice_get parts k ≡ Some p → length p.lines ≤ length (lines_by p.of merge) = λ k p at. used_up parts merge k p ok is.merge at in
    let t = merged_turns parts ok in
    let same_lines : merge ≡ merged parts = same_turns parts [] merge (merged parts) is.in_turn t.in_turn (none_fits merge parts all) t.ended in
    let none : first_left (cut_of merge) parts ≡ None = nothing_left (cut_of merge) parts all in
    sym (ap (found merge) none) ∙ ap (λ l. found l (first_left (cut_of l) parts)) same_lines
one_outcome parts (Broken of line law) ok is =
    let t = merged_turns parts ok in
    let lawful : IsLawful (merged parts) = in_turn_lawful parts (merged parts) t.in_turn in
    let cuts : is.cut ≡ cut_of (merged parts) = one_greatest parts is.cut (cut_of (merged parts)) is.greatest (greatest (merged parts) parts t.front lawful t.ended) in
    let first : first_left (cut_of (merged parts)) parts ≡ Some (record { of = of.now; number = line; line = is.line }) = ap (λ (c : Cut). first_left c parts) (sym cuts) ∙ is.first in
    let broken : law_after (merged parts) is.line ≡ Some law = is.breaks (merged parts) (subst (λ (c : Cut). Reaches parts c (merged parts)) (sym cuts) (reaches_own (merged parts) parts t.front lawful)) in
    ap (λ (o : Option Law). Err (record { of = of.now; number = line; law = o })) (sym broken) ∙ sym (ap (found (merged parts)) first)
