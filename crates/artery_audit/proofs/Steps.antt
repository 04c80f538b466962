-- Parts under way, one line further.
use Rattle.std.proofs.Common.{◌≡◌, ℕ, zero, suc, ◌+◌, ◌-◌, ◌<◌, Bool, true, false, not, List, [], ◌∷◌, ◌++◌, length, take, drop, refl, ap, sym, subst, ◌∙◌, true≢false, arith, inl, inr}
use Rattle.std.proofs.lemmas.Bool.{cases_eq, lt-ltb}
use Rattle.std.proofs.lemmas.List.{length-append, map-append, take_at, length-set}
use Rattle.std.specs.Prelude.{Option, Some, None, is_some, slice_get, slice_set, if◌then◌else◌, ◌⊎◌}
use Rattle.std.specs.List.{position, prefix_len}
use Rattle.artery_base.specs.Words.{IsPrefix}
use Rattle.artery_base.specs.declared.address.UniqueAddress.{UniqueAddress}
use Rattle.artery_journal.specs.declared.line.Line.{Line}
use Rattle.artery_judge.specs.declared.verdict.Law.{Law}
use Rattle.artery_judge.specs.Lines.{same, of, is_said}
use Rattle.artery_judge.specs.Laws.{plain}
use Rattle.artery_judge.specs.Kept.{Stands}
use Rattle.artery_judge.specs.Views.{kept}
use Rattle.artery_audit.specs.declared.part.Part.{Part}
use Rattle.artery_audit.specs.Parts.{AreParts, lines_by, part_of}
use Rattle.artery_audit.specs.Merges.{law_after, IsLawful, IsFront}
use Rattle.artery_audit.specs.Answers.{allowed, fitting, or_else, first_fitting, IsInTurn}
use Rattle.artery_audit.specs.Merging.{Under, IsUnder, Took, receiver_of, numbered, next_of, next_at, is_ready, rested, unmerged, looked_at, woken as awoken}
use Rattle.artery_audit.proofs.Lines.{opened, same_alike, same_turned, some_is, one_more, each_more, by_more, by_other, by_alike, is_front, before_end, set_there, set_elsewhere}
use Rattle.artery_audit.proofs.Allowing.{law_same, same_with}

-- ---- parts by name

abbrev AtPlace : List Part → Part → UniqueAddress → Type 0
AtPlace parts p u = (i : ℕ) → slice_get parts i ≡ Some p → ((j : ℕ) (r : Part) → slice_get parts j ≡ Some r → same u r.of ≡ true → j ≡ i) → part_of u parts ≡ p.lines

-- the part at a place is that of its incarnation
part_at : (parts : List Part) (k : ℕ) (p : Part) (u : UniqueAddress) → slice_get parts k ≡ Some p → same u p.of ≡ true → ((j : ℕ) (q : Part) → slice_get parts j ≡ Some q → same u q.of ≡ true → j ≡ k) → part_of u parts ≡ p.lines
part_at [] k p u at own one = cc
part_at (q ∷ qs) k p u at own one = by (same u q.of) refl
    (λ i there. part_at qs i p u there own)
  where
    here : (k : ℕ) → slice_get (q ∷ qs) k ≡ Some p → 0 ≡ k → q.lines ≡ p.lines
    here zero at e = ap (λ (r : Part). r.lines) (some_is at)
    here (suc k) at e = absurd (omega arith)

    later : (k : ℕ) → AtPlace qs p u → slice_get (q ∷ qs) k ≡ Some p → ((j : ℕ) (r : Part) → slice_get (q ∷ qs) j ≡ Some r → same u r.of ≡ true → j ≡ k) → same u q.of ≡ false → part_of u qs ≡ p.lines
    later zero rest at one other = absurd (true≢false (sym own ∙ ap (λ (r : Part). same u r.of) (sym (some_is at)) ∙ other))
    later (suc k) rest at one other = rest k at (λ j r there alike. omega (arith, one (suc j) r there alike))

    by : (b : Bool) → same u q.of ≡ b → AtPlace qs p u → (if b then q.lines else part_of u qs) ≡ p.lines
    by true alike rest = here k at (one 0 q refl alike)
    by false other rest = later k rest at one other

alike_by : (u v w : UniqueAddress) → same u v ≡ true → same u w ≡ same v w
alike_by u v w h = λ i. same_alike u v h i w

pub own_part : (parts : List Part) (k : ℕ) (p : Part) (u : UniqueAddress) → AreParts parts → slice_get parts k ≡ Some p → same u p.of ≡ true → part_of u parts ≡ p.lines
own_part parts k p u ok at own = part_at parts k p u at own (λ j q there alike. sym ((opened parts ok).apart k j p q at there (sym (alike_by u p.of q.of own) ∙ alike)))

-- ---- what a part has next

pub next_is : (m : Under) (k : ℕ) (p : Part) → IsUnder m → slice_get m.parts k ≡ Some p → next_at k m ≡ numbered (length (lines_by p.of m.merge)) (slice_get p.lines (length (lines_by p.of m.merge)))
next_is m k p u at = λ i. next_of (at i) (u.taken k p at i)

-- ---- turns

first_of_suc : (before : List Line) (parts : List Part) (k : ℕ) (p : Part) → slice_get parts k ≡ Some p → first_fitting before (drop k parts) ≡ or_else (fitting before p) (first_fitting before (drop (suc k) parts))
first_of_suc before [] k p at = cc
first_of_suc before (q ∷ qs) zero p at = ap (λ (r : Part). or_else (fitting before r) (first_fitting before qs)) (some_is at)
first_of_suc before (q ∷ qs) (suc k) p at = first_of_suc before qs k p at

plus_one : (k : ℕ) → suc k ≡ k + 1
plus_one k = omega arith

first_of_rest : (before : List Line) (parts : List Part) (k : ℕ) (p : Part) → slice_get parts k ≡ Some p → first_fitting before (drop k parts) ≡ or_else (fitting before p) (first_fitting before (drop (k + 1) parts))
first_of_rest before parts k p at = first_of_suc before parts k p at ∙ ap (λ n. or_else (fitting before p) (first_fitting before (drop n parts))) (plus_one k)

pub passes : (before : List Line) (parts : List Part) (k : ℕ) (p : Part) → slice_get parts k ≡ Some p → fitting before p ≡ None → first_fitting before parts ≡ first_fitting before (drop k parts) → first_fitting before parts ≡ first_fitting before (drop (k + 1) parts)
passes before parts k p at none so_far = so_far ∙ first_of_rest before parts k p at ∙ ap (λ (o : Option Line). or_else o (first_fitting before (drop (k + 1) parts))) none

pub is_first : (before : List Line) (parts : List Part) (k : ℕ) (p : Part) (line : Line) → slice_get parts k ≡ Some p → fitting before p ≡ Some line → first_fitting before parts ≡ first_fitting before (drop k parts) → first_fitting before parts ≡ Some line
is_first before parts k p line at some so_far = so_far ∙ first_of_rest before parts k p at ∙ ap (λ (o : Option Line). or_else o (first_fitting before (drop (k + 1) parts))) some

-- what fits breaks no law
pub allowed_is : (line x : Line) (o : Option Law) → (if is_some o then None else Some line) ≡ Some x → (o ≡ None) × (line ≡ x)
allowed_is line x None h = (refl, some_is h)
allowed_is line x (Some law) h = cc

fits_lawfully : (before : List Line) (p : Part) (x : Line) → fitting before p ≡ Some x → law_after before x ≡ None
fits_lawfully before p x h = by (slice_get p.lines (length (lines_by p.of before))) h
  where
    by : (o : Option Line) → allowed before o ≡ Some x → law_after before x ≡ None
    by None h = cc
    by (Some line) h = let a = allowed_is line x (law_after before line) h in subst (λ l. law_after before l ≡ None) a.1 a.0

pub first_lawfully : (before : List Line) (parts : List Part) (x : Line) → first_fitting before parts ≡ Some x → law_after before x ≡ None
first_lawfully before [] x h = cc
first_lawfully before (p ∷ ps) x h = by (first_lawfully before ps x) (fitting before p) refl h
  where
    by : (first_fitting before ps ≡ Some x → law_after before x ≡ None) → (o : Option Line) → fitting before p ≡ o → or_else o (first_fitting before ps) ≡ Some x → law_after before x ≡ None
    by rest None is h = rest h
    by rest (Some line) is h = fits_lawfully before p x (is ∙ h)

-- lines in turn are lawful
pub in_turn_lawful : (parts : List Part) (lines : List Line) → IsInTurn parts lines → IsLawful lines
in_turn_lawful parts lines h before after line is = first_lawfully before parts line (h before after line is)

-- ---- a part that need not be looked at

pub rests_under : (m : Under) (k : ℕ) (p : Part) → IsUnder m → slice_get m.parts k ≡ Some p → fitting m.merge p ≡ None → IsUnder (rested k m)
rests_under m k p u at none = record {
  parts = u.parts;
  front = u.front;
  in_turn = u.in_turn;
  judged = u.judged;
  taken = u.taken;
  long = length-set m.ready k false ∙ u.long;
  waiting = λ j q there not_ready. by j q there not_ready (cases_eq k j);
}
  where
    by : (j : ℕ) (q : Part) → slice_get m.parts j ≡ Some q → is_ready (slice_get (slice_set m.ready k false) j) ≡ false → (k ≡ j) ⊎ (k ≡ j → ⊥) → fitting m.merge q ≡ None
    by j q there not_ready (inl e) = subst (λ r. fitting m.merge r ≡ None) (some_is (sym at ∙ ap (slice_get m.parts) e ∙ there)) none
    by j q there not_ready (inr e) = u.waiting j q there (ap is_ready (sym (set_elsewhere m.ready k j false e)) ∙ not_ready)

-- ---- parts that are looked at again

past : {X : Type 0} (x : X) (xs : List X) (n : ℕ) → slice_get (x ∷ xs) (1 + n) ≡ slice_get xs n
past x xs n = let e : 1 + n ≡ suc n = omega arith in ap (slice_get (x ∷ xs)) e

abbrev Found : (Part → Bool) → List Part → Type 0
Found t xs = (prefix_len (λ y. not (t y)) xs < length xs) × ((q : Part) × (slice_get xs (prefix_len (λ y. not (t y)) xs) ≡ Some q) × (t q ≡ true))

at_place : (t : Part → Bool) (parts : List Part) (j : ℕ) (p : Part) → slice_get parts j ≡ Some p → t p ≡ true
    → (prefix_len (λ x. not (t x)) parts < length parts) × ((q : Part) × (slice_get parts (prefix_len (λ x. not (t x)) parts) ≡ Some q) × (t q ≡ true))
at_place t [] j p at is = cc
at_place t (x ∷ xs) j p at is = by (t x) refl (λ i there. at_place t xs i p there is)
  where
    later : ((i : ℕ) → slice_get xs i ≡ Some p → Found t xs) → (j : ℕ) → slice_get (x ∷ xs) j ≡ Some p → t x ≡ false → Found t xs
    later rest zero at other = absurd (true≢false (sym is ∙ ap t (sym (some_is at)) ∙ other))
    later rest (suc j) at other = rest j at

    by : (b : Bool) → t x ≡ b → ((i : ℕ) → slice_get xs i ≡ Some p → Found t xs) → (prefix_len (λ y. not (t y)) (x ∷ xs) < length (x ∷ xs)) × ((q : Part) × (slice_get (x ∷ xs) (prefix_len (λ y. not (t y)) (x ∷ xs)) ≡ Some q) × (t q ≡ true))
    by true e rest = rw e (omega arith, (x, refl, e))
    by false e rest = let r = later rest j at e in rw e (omega (arith, r.0), (r.1.0, past x xs (prefix_len (λ y. not (t y)) xs) ∙ r.1.1, r.1.2))

-- ready flags where a part is to be looked at
abbrev woken_at : Option ℕ → List Bool → List Bool
woken_at None ready = ready
woken_at (Some k) ready = slice_set ready k true

abbrev woken : Option UniqueAddress → List Part → List Bool → List Bool
woken None parts ready = ready
woken (Some u) parts ready = woken_at (position (λ p. same p.of u) parts) ready

place_found : (t : Part → Bool) (parts : List Part) (j : ℕ) (p : Part) → slice_get parts j ≡ Some p → t p ≡ true → (k : ℕ) × (position t parts ≡ Some k) × ((q : Part) × (slice_get parts k ≡ Some q) × (t q ≡ true))
place_found t parts j p at is =
    let a = at_place t parts j p at is in
    (prefix_len (λ x. not (t x)) parts, rw (lt-ltb (prefix_len (λ x. not (t x)) parts) (length parts) a.0) refl, a.1)

there_is : {X : Type 0} {Y : Type 0} (xs : List X) (ys : List Y) (k : ℕ) (x : X) → length ys ≡ length xs → slice_get xs k ≡ Some x → (y : Y) × (slice_get ys k ≡ Some y)
there_is [] ys k x long at = cc
there_is (x ∷ xs) [] k z long at = absurd (omega (arith, long))
there_is (x ∷ xs) (y ∷ ys) zero z long at = (y, refl)
there_is (x ∷ xs) (y ∷ ys) (suc k) z long at = there_is xs ys k z (omega (arith, long)) at

-- setting a place keeps the others, and what is ready stays so
still_waits : (o : Option ℕ) (ready : List Bool) (j : ℕ) → is_ready (slice_get (woken_at o ready) j) ≡ false → is_ready (slice_get ready j) ≡ false
still_waits None ready j h = h
still_waits (Some k) ready j h = by (cases_eq k j)
  where
    past : (xs : List Bool) (k : ℕ) → is_ready (slice_get (slice_set xs k true) k) ≡ false → is_ready (slice_get xs k) ≡ false
    past [] k h = h
    past (x ∷ xs) zero h = absurd (true≢false h)
    past (x ∷ xs) (suc k) h = past xs k h

    by : (k ≡ j) ⊎ (k ≡ j → ⊥) → is_ready (slice_get ready j) ≡ false
    by (inl e) = past ready j (subst (λ n. is_ready (slice_get (slice_set ready n true) j) ≡ false) e h)
    by (inr e) = ap is_ready (sym (set_elsewhere ready k j true e)) ∙ h

waits_before : (r : Option UniqueAddress) (parts : List Part) (ready : List Bool) (j : ℕ) → is_ready (slice_get (woken r parts ready) j) ≡ false → is_ready (slice_get ready j) ≡ false
waits_before None parts ready j h = h
waits_before (Some u) parts ready j h = still_waits (position (λ p. same p.of u) parts) ready j h

-- a part that is not looked at again was sent and told nothing
not_receiving : (r : Option UniqueAddress) (parts : List Part) (ready : List Bool) (j : ℕ) (p : Part) → AreParts parts → length ready ≡ length parts → slice_get parts j ≡ Some p → is_ready (slice_get (woken r parts ready) j) ≡ false → is_said (same p.of) r ≡ false
not_receiving None parts ready j p ok long at h = refl
not_receiving (Some u) parts ready j p ok long at h = by (same p.of u) refl
  where
    by : (b : Bool) → same p.of u ≡ b → b ≡ false
    by false is = refl
    by true is =
        let found = place_found (λ q. same q.of u) parts j p at is in
        let q = found.2.0 in
        let alike : same p.of q.of ≡ true = alike_by p.of u q.of is ∙ same_turned u q.of ∙ found.2.2 in
        let place : j ≡ found.0 = (opened parts ok).apart j found.0 p q at found.2.1 alike in
        let y = there_is parts ready j p long at in
        let woke : slice_get (woken (Some u) parts ready) j ≡ Some true = ap (λ o. slice_get (woken_at o ready) j) (found.1 ∙ ap Some (sym place)) ∙ set_there ready j y.0 true y.1 in
        absurd (true≢false (ap is_ready (sym woke) ∙ h))

woken_ready : (r : Option UniqueAddress) (m : Under) → (awoken r m).ready ≡ woken r m.parts m.ready
woken_ready None m = refl
woken_ready (Some u) m = by (position (λ p. same p.of u) m.parts)
  where
    by : (o : Option ℕ) → (looked_at o m).ready ≡ woken_at o m.ready
    by None = refl
    by (Some k) = refl

-- ---- one line more of a part

-- a part with the name of a line is that line's part
named_by : (p : Part) (x : Line) → same p.of (of x) ≡ true → (v : UniqueAddress) → same v (of x) ≡ true → same v p.of ≡ true
named_by p x own v h = alike_by v (of x) p.of h ∙ same_turned (of x) p.of ∙ own

-- the next line of a part, behind first lines of each part
pub front_more : (parts : List Part) (k : ℕ) (p : Part) (x : Line) (merge : List Line) → AreParts parts → slice_get parts k ≡ Some p → slice_get p.lines (length (lines_by p.of merge)) ≡ Some x → IsFront parts merge → IsFront parts (merge ++ x ∷ [])
front_more parts k p x merge ok at next so_far v = by (same v (of x)) refl
  where
    own : same p.of (of x) ≡ true
    own = (opened parts ok).own k (length (lines_by p.of merge)) p x at next

    longer : (named : same v (of x) ≡ true) → IsPrefix (lines_by v merge) (part_of v parts) → IsPrefix (lines_by v merge ++ x ∷ []) (part_of v parts)
    longer named (more, is) =
        let n : ℕ = length (lines_by p.of merge) in
        let mine : part_of v parts ≡ p.lines = own_part parts k p v ok at (named_by p x own v named) in
        let same_length : length (lines_by v merge) ≡ n = ap length (by_alike v p.of merge (named_by p x own v named)) in
        let front : lines_by v merge ≡ take n p.lines = sym (take_at (lines_by v merge) more n same_length) ∙ ap (take n) (is ∙ mine) in
        (drop (suc n) p.lines, one_more (lines_by v merge) (drop (suc n) p.lines) x ∙ ap (λ (l : List Line). l ++ x ∷ drop (suc n) p.lines) front ∙ sym (is_front p.lines n x next) ∙ sym mine)

    by : (b : Bool) → same v (of x) ≡ b → IsPrefix (lines_by v (merge ++ x ∷ [])) (part_of v parts)
    by true named = subst (λ (l : List Line). IsPrefix l (part_of v parts)) (sym (by_more v merge x named)) (longer named (so_far v))
    by false other = subst (λ (l : List Line). IsPrefix l (part_of v parts)) (sym (by_other v merge x other)) (so_far v)

-- ---- a line taken

length_more : {X : Type 0} (xs : List X) (x : X) → length (xs ++ x ∷ []) ≡ length xs + 1
length_more xs x = length-append xs (x ∷ [])

long_woken : (r : Option UniqueAddress) (parts : List Part) (ready : List Bool) → length (woken r parts ready) ≡ length ready
long_woken None parts ready = refl
long_woken (Some u) parts ready = by (position (λ p. same p.of u) parts)
  where
    by : (o : Option ℕ) → length (woken_at o ready) ≡ length ready
    by None = refl
    by (Some k) = length-set ready k true

-- the next line of a part, merged
pub takes_under : (old new : Under) (k : ℕ) (p : Part) (x : Line) → IsUnder old → slice_get old.parts k ≡ Some p → slice_get p.lines (length (lines_by p.of old.merge)) ≡ Some x → first_fitting old.merge old.parts ≡ Some x
    → is_ready (slice_get old.ready k) ≡ true → Took k x (length (lines_by p.of old.merge) + 1) old new → IsUnder new
takes_under old new k p x u at next first ready took = record {
  parts = subst AreParts (sym took.parts) u.parts;
  front = subst (λ l. IsFront l new.merge) (sym took.parts) (subst (IsFront old.parts) (sym took.merge) front);
  in_turn = subst (λ l. IsInTurn l new.merge) (sym took.parts) (subst (IsInTurn old.parts) (sym took.merge) (each_more (λ before line. first_fitting before old.parts ≡ Some line) old.merge x u.in_turn first));
  judged = subst (λ l. Stands (kept new.judge) (plain l)) (sym took.merge)
      (subst (Stands (kept new.judge)) (sym (map-append (λ (l : Line). (None, l)) old.merge (x ∷ []))) (took.judged (plain old.merge) u.judged (first_lawfully old.merge old.parts x first)));
  taken = λ j q there. subst (λ l. slice_get new.taken j ≡ Some (length (lines_by q.of l))) (sym took.merge) (subst (λ l. slice_get l j ≡ Some (length (lines_by q.of (old.merge ++ x ∷ [])))) (sym took.taken) (taken j q (sym (ap (λ l. slice_get l j) took.parts) ∙ there)));
  long = ap length (took.ready ∙ woken_ready (receiver_of x) old) ∙ long_woken (receiver_of x) old.parts old.ready ∙ u.long ∙ ap length (sym took.parts);
  waiting = λ j q there not_ready. subst (λ l. fitting l q ≡ None) (sym took.merge)
      (waiting j q (sym (ap (λ l. slice_get l j) took.parts) ∙ there) (sym (ap (λ l. is_ready (slice_get l j)) (took.ready ∙ woken_ready (receiver_of x) old)) ∙ not_ready));
}
  where
    own : same p.of (of x) ≡ true
    own = (opened old.parts u.parts).own k (length (lines_by p.of old.merge)) p x at next

    -- a part with the name of the line is this part
    by_name : (v : UniqueAddress) → same v (of x) ≡ true → same v p.of ≡ true
    by_name v h = named_by p x own v h

    front : IsFront old.parts (old.merge ++ x ∷ [])
    front = front_more old.parts k p x old.merge u.parts at next u.front

    -- another part is of another incarnation
    apart : (j : ℕ) (q : Part) → slice_get old.parts j ≡ Some q → (k ≡ j → ⊥) → same q.of (of x) ≡ false
    apart j q there elsewhere = by (same q.of (of x)) refl
      where
        by : (b : Bool) → same q.of (of x) ≡ b → b ≡ false
        by false is = refl
        by true is = absurd (elsewhere ((opened old.parts u.parts).apart k j p q at there (same_turned p.of q.of ∙ by_name q.of is)))

    taken : (j : ℕ) (q : Part) → slice_get old.parts j ≡ Some q → slice_get (slice_set old.taken k (length (lines_by p.of old.merge) + 1)) j ≡ Some (length (lines_by q.of (old.merge ++ x ∷ [])))
    taken j q there = by (cases_eq k j)
      where
        by : (k ≡ j) ⊎ (k ≡ j → ⊥) → slice_get (slice_set old.taken k (length (lines_by p.of old.merge) + 1)) j ≡ Some (length (lines_by q.of (old.merge ++ x ∷ [])))
        by (inl e) =
            let it : p ≡ q = some_is (sym at ∙ ap (slice_get old.parts) e ∙ there) in
            let here = set_there old.taken k (length (lines_by p.of old.merge)) (length (lines_by p.of old.merge) + 1) (u.taken k p at) in
            ap (λ n. slice_get (slice_set old.taken k (length (lines_by p.of old.merge) + 1)) n) (sym e) ∙ here
            ∙ ap Some (sym (ap length (by_more p.of old.merge x own) ∙ length_more (lines_by p.of old.merge) x)) ∙ ap (λ (r : Part). Some (length (lines_by r.of (old.merge ++ x ∷ [])))) it
        by (inr e) = set_elsewhere old.taken k j (length (lines_by p.of old.merge) + 1) e ∙ u.taken j q there ∙ ap (λ (l : List Line). Some (length l)) (sym (by_other q.of old.merge x (apart j q there e)))

    waiting : (j : ℕ) (q : Part) → slice_get old.parts j ≡ Some q → is_ready (slice_get (woken (receiver_of x) old.parts old.ready) j) ≡ false → fitting (old.merge ++ x ∷ []) q ≡ None
    waiting j q there not_ready = by (cases_eq k j)
      where
        before : is_ready (slice_get old.ready j) ≡ false
        before = waits_before (receiver_of x) old.parts old.ready j not_ready

        unsaid : is_said (same q.of) (receiver_of x) ≡ false
        unsaid = not_receiving (receiver_of x) old.parts old.ready j q u.parts u.long there not_ready

        same_next : (k ≡ j → ⊥) → slice_get q.lines (length (lines_by q.of (old.merge ++ x ∷ []))) ≡ slice_get q.lines (length (lines_by q.of old.merge))
        same_next e = ap (λ (l : List Line). slice_get q.lines (length l)) (by_other q.of old.merge x (apart j q there e))

        still : (k ≡ j → ⊥) → (o : Option Line) → slice_get q.lines (length (lines_by q.of old.merge)) ≡ o → allowed old.merge o ≡ None → allowed (old.merge ++ x ∷ []) o ≡ None
        still e None is h = refl
        still e (Some y) is h =
            let mine : same q.of (of y) ≡ true = (opened old.parts u.parts).own j (length (lines_by q.of old.merge)) q y there is in
            let other : same (of y) (of x) ≡ false = sym (alike_by q.of (of y) (of x) mine) ∙ apart j q there e in
            let none : is_said (same (of y)) (receiver_of x) ≡ false = subst (λ (t : UniqueAddress → Bool). is_said t (receiver_of x) ≡ false) (same_alike q.of (of y) mine) unsaid in
            ap (λ (o : Option Law). if is_some o then None else Some y) (law_same (old.merge ++ x ∷ []) old.merge y (same_with old.merge x y other none)) ∙ h

        by : (k ≡ j) ⊎ (k ≡ j → ⊥) → fitting (old.merge ++ x ∷ []) q ≡ None
        by (inl e) = absurd (true≢false (sym ready ∙ ap (λ n. is_ready (slice_get old.ready n)) e ∙ before))
        by (inr e) = ap (allowed (old.merge ++ x ∷ [])) (same_next e) ∙ still e (slice_get q.lines (length (lines_by q.of old.merge))) refl (u.waiting j q there before)

-- ---- the lines that are left grow fewer

pub fewer : (ps : List Part) (ns : List ℕ) (k : ℕ) (p : Part) (n : ℕ) (x : Line) → slice_get ps k ≡ Some p → slice_get ns k ≡ Some n → slice_get p.lines n ≡ Some x → unmerged ps (slice_set ns k (n + 1)) < unmerged ps ns
fewer [] ns k p n x at count there = cc
fewer (q ∷ qs) [] k p n x at count there = cc
fewer (q ∷ qs) (m ∷ ms) zero p n x at count there =
    let short : n < length q.lines = subst (λ (r : Part). n < length r.lines) (sym (some_is at)) (before_end p.lines n x there) in
    let e : m ≡ n = some_is count in
    subst (λ i. length q.lines - (n + 1) + unmerged qs ms < length q.lines - i + unmerged qs ms) (sym e) (omega (arith, short))
fewer (q ∷ qs) (m ∷ ms) (suc k) p n x at count there = omega (arith, fewer qs ms k p n x at count there)
