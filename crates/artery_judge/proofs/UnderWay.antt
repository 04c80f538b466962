-- The judge under way through a journal.
use Rattle.std.proofs.Common.{◌≡◌, ℕ, ◌+◌, ◌<◌, List, [], ◌∷◌, ◌++◌, length, drop, refl, ap, sym, subst, ◌∙◌, arith, get_or, length-append}
use Rattle.std.proofs.lemmas.List.{at_drop_more}
use Rattle.std.specs.Prelude.{Option, Some, None}
use Rattle.artery_journal.specs.declared.line.Line.{Line}
use Rattle.artery_journal.specs.declared.stamped.Stamped.{Stamped}
use Rattle.artery_judge.specs.declared.verdict.Law.{Law}
use Rattle.artery_judge.specs.declared.verdict.Verdict.{Verdict}
use Rattle.artery_judge.specs.declared.verdict.Verdict.TheVariants.{Lawful, Broken}
use Rattle.artery_judge.specs.Lines.{Entry}
use Rattle.artery_judge.specs.Laws.{broken_law, at_line, verdict_after, verdict, plain, stamped}
use Rattle.artery_judge.specs.Kept.{Kept, Stands}

-- the judge stands for n lines, and the verdict is that on the lines left
pub record IsUnderWay (k : Kept) (n : ℕ) (all left : List Entry) : Type 0 where
  pub before : List Entry
  pub stands : Stands k before
  pub verdict : verdict_after before left ≡ verdict all
  pub count : length before ≡ n

pub begins : (k : Kept) (all : List Entry) → Stands k [] → IsUnderWay k 0 all all
begins k all st = record { before = []; stands = st; verdict = refl; count = refl }

goes_on : (old new : Kept) (n : ℕ) (all rest : List Entry) (e : Entry) → IsUnderWay old n all (e ∷ rest)
    → ((before : List Entry) → Stands old before → None ≡ broken_law before e) → ((before : List Entry) → Stands old before → Stands new (before ++ e ∷ [])) → IsUnderWay new (n + 1) all rest
goes_on old new n all rest e u none more = record {
  before = u.before ++ e ∷ [];
  stands = more u.before u.stands;
  verdict = ap (λ o. at_line u.before o (verdict_after (u.before ++ e ∷ []) rest)) (none u.before u.stands) ∙ u.verdict;
  count = rw (length-append u.before (e ∷ [])) (ap (λ m. m + 1) u.count);
}

stops : (old : Kept) (n : ℕ) (all rest : List Entry) (e : Entry) (law : Law) → IsUnderWay old n all (e ∷ rest) → ((before : List Entry) → Stands old before → Some law ≡ broken_law before e) → Broken (n + 1) law ≡ verdict all
stops old n all rest e law u is = ap (λ m. Broken (m + 1) law) (sym u.count) ∙ ap (λ o. at_line u.before o (verdict_after (u.before ++ e ∷ []) rest)) (is u.before u.stands) ∙ u.verdict

ends : (k : Kept) (n : ℕ) (all left : List Entry) → IsUnderWay k n all left → left ≡ [] → Lawful ≡ verdict all
ends k n all left u none = sym (ap (verdict_after u.before) none) ∙ u.verdict

pub goes_on_plain : (old new : Kept) (lines : List Line) (i : ℕ) (line : Line) → IsUnderWay old i (plain lines) (plain (drop i lines)) → i < length lines → line ≡ get_or lines i line
    → ((before : List Entry) → Stands old before → None ≡ broken_law before (None, line)) → ((before : List Entry) → Stands old before → Stands new (before ++ (None, line) ∷ [])) → IsUnderWay new (i + 1) (plain lines) (plain (drop (i + 1) lines))
goes_on_plain old new lines i line u within is none more =
    let left : plain (drop i lines) ≡ (None, line) ∷ plain (drop (i + 1) lines) = at_drop_more plain lines i line within ∙ ap (λ (l : Line). (None, l) ∷ plain (drop (i + 1) lines)) (sym is) in
    goes_on old new i (plain lines) (plain (drop (i + 1) lines)) (None, line) (subst (IsUnderWay old i (plain lines)) left u) none more

pub stops_plain : (old : Kept) (lines : List Line) (i : ℕ) (line : Line) (law : Law) → IsUnderWay old i (plain lines) (plain (drop i lines)) → i < length lines → line ≡ get_or lines i line
    → ((before : List Entry) → Stands old before → Some law ≡ broken_law before (None, line)) → Broken (i + 1) law ≡ verdict (plain lines)
stops_plain old lines i line law u within is broken =
    let left : plain (drop i lines) ≡ (None, line) ∷ plain (drop (i + 1) lines) = at_drop_more plain lines i line within ∙ ap (λ (l : Line). (None, l) ∷ plain (drop (i + 1) lines)) (sym is) in
    stops old i (plain lines) (plain (drop (i + 1) lines)) (None, line) law (subst (IsUnderWay old i (plain lines)) left u) broken

pub goes_on_stamped : (old new : Kept) (lines : List Stamped) (i : ℕ) (s : Stamped) → IsUnderWay old i (stamped lines) (stamped (drop i lines)) → i < length lines → s ≡ get_or lines i s
    → ((before : List Entry) → Stands old before → None ≡ broken_law before (Some s.moment, s.line)) → ((before : List Entry) → Stands old before → Stands new (before ++ (Some s.moment, s.line) ∷ [])) → IsUnderWay new (i + 1) (stamped lines) (stamped (drop (i + 1) lines))
goes_on_stamped old new lines i s u within is none more =
    let left : stamped (drop i lines) ≡ (Some s.moment, s.line) ∷ stamped (drop (i + 1) lines) = at_drop_more stamped lines i s within ∙ ap (λ (l : Stamped). (Some l.moment, l.line) ∷ stamped (drop (i + 1) lines)) (sym is) in
    goes_on old new i (stamped lines) (stamped (drop (i + 1) lines)) (Some s.moment, s.line) (subst (IsUnderWay old i (stamped lines)) left u) none more

pub stops_stamped : (old : Kept) (lines : List Stamped) (i : ℕ) (s : Stamped) (law : Law) → IsUnderWay old i (stamped lines) (stamped (drop i lines)) → i < length lines → s ≡ get_or lines i s
    → ((before : List Entry) → Stands old before → Some law ≡ broken_law before (Some s.moment, s.line)) → Broken (i + 1) law ≡ verdict (stamped lines)
stops_stamped old lines i s law u within is broken =
    let left : stamped (drop i lines) ≡ (Some s.moment, s.line) ∷ stamped (drop (i + 1) lines) = at_drop_more stamped lines i s within ∙ ap (λ (l : Stamped). (Some l.moment, l.line) ∷ stamped (drop (i + 1) lines)) (sym is) in
    stops old i (stamped lines) (stamped (drop (i + 1) lines)) (Some s.moment, s.line) law (subst (IsUnderWay old i (stamped lines)) left u) broken
