-- What an answer tells of all merges.
use Rattle.std.proofs.Common.{◌≡◌, ℕ, suc, ◌≤◌, true, List, [], ◌∷◌, length, refl, sym, subst, ◌∙◌, true≢false, arith}
use Rattle.std.proofs.lemmas.List.{take_all}
use Rattle.std.specs.Prelude.{Option, Some, None, slice_get}
use Rattle.artery_base.specs.declared.address.UniqueAddress.{UniqueAddress}
use Rattle.artery_journal.specs.declared.line.Line.{Line}
use Rattle.artery_judge.specs.declared.verdict.Law.{Law}
use Rattle.artery_audit.specs.declared.part.Part.{Part}
use Rattle.artery_audit.specs.declared.audited.Audited.{Audited}
use Rattle.artery_audit.specs.declared.audited.Audited.TheVariants.{Lawful, Broken}
use Rattle.artery_audit.specs.Parts.{AreParts, part_of}
use Rattle.artery_audit.specs.Merges.{IsLawful, IsMerge, Cut, IsReached}
use Rattle.artery_audit.specs.Answers.{left_at, first_left, IsStuck, IsAnswer, is_lawful}
use Rattle.artery_audit.proofs.Lines.{same_self, before_end}
use Rattle.artery_audit.proofs.Steps.{own_part}

-- a cut that uses up each part leaves none
pub nothing_left : (cut : Cut) (parts : List Part) → ((k : ℕ) (p : Part) → slice_get parts k ≡ Some p → length p.lines ≤ cut p.of) → first_left cut parts ≡ None
nothing_left cut [] all = refl
nothing_left cut (p ∷ ps) all = by (slice_get p.lines (cut p.of)) refl (nothing_left cut ps (λ k q at. all (suc k) q at))
  where
    by : (o : Option Line) → slice_get p.lines (cut p.of) ≡ o → first_left cut ps ≡ None → left_at p (cut p.of) o (first_left cut ps) ≡ None
    by None is rest = rest
    by (Some line) is rest = absurd (omega (arith, all 0 p refl, before_end p.lines (cut p.of) line is))

whole_reached : (parts : List Part) (lines : List Line) → IsMerge parts lines → IsLawful lines → IsReached parts (λ u. length (part_of u parts))
whole_reached parts lines merge lawful = (
  lines,
  record {
    within = λ u. omega arith;
    merge = λ u. merge u ∙ sym (take_all (length (part_of u parts)) (part_of u parts) (omega arith));
    lawful = lawful;
  },
)

pub none_lawful : (parts : List Part) (of : UniqueAddress) (number : ℕ) (law : Law) (lines : List Line) → AreParts parts → IsStuck parts of number law → IsMerge parts lines → IsLawful lines → ⊥
none_lawful parts of number law lines ok stuck merge lawful =
    let all : (k : ℕ) (p : Part) → slice_get parts k ≡ Some p → length p.lines ≤ stuck.cut p.of = λ k p at.
    let whole = stuck.greatest.greatest (λ u. length (part_of u parts)) (whole_reached parts lines merge lawful) p.of in
    subst (λ (l : List Line). length l ≤ stuck.cut p.of) (own_part parts k p p.of ok at (same_self p.of)) whole in
    never (sym (nothing_left stuck.cut parts all) ∙ stuck.first)
  where
    never : {X : Type 0} {x : X} → None ≡ Some x → ⊥
    never e = cc

pub lawful_where : (parts : List Part) (answer : Audited) (lines : List Line) → AreParts parts → IsAnswer parts answer → IsMerge parts lines → IsLawful lines → is_lawful answer ≡ true
lawful_where parts (Lawful merge) lines ok is one lawful = refl
lawful_where parts (Broken of number law) lines ok is one lawful = absurd (none_lawful parts of.now number law lines ok is one lawful)

pub merge_where : (parts : List Part) (answer : Audited) → IsAnswer parts answer → is_lawful answer ≡ true → (lines : List Line) × IsMerge parts lines × IsLawful lines
merge_where parts (Lawful merge) is h = (merge, is.merge, is.lawful)
merge_where parts (Broken of number law) is h = absurd (true≢false (sym h))
