-- The story of a net in memory goes on by what is marked last.
use Rattle.std.proofs.Common.{◌≡◌, ℕ, suc, ◌+◌, Bool, true, false, List, [], ◌∷◌, ◌++◌, ◌≤◌, ◌<◌, ◌⊎◌, inl, inr, min, subst, length, drop, ap, ◌∙◌, sym, zero, arith, refl}
use Rattle.std.proofs.lemmas.List.{length_push}
use Rattle.std.proofs.Math.Seq.{drop-nil, drop-length}
use Rattle.std.proofs.Math.Nat.{eq-or-lt_of_le}
use Rattle.artery_net.specs.declared.event.NetEvent.{NetEvent}
use Rattle.artery_net.specs.declared.event.Act.{Act}
use Rattle.artery_net.specs.declared.event.Step.TheVariants.{Gave, Did}
use Rattle.artery_net.specs.InMemory.{first, rest, woven, left_behind, acts_marked, told, marked, AreMarked, AreFit}
use Rattle.artery_net.specs.Story.{acts_of, GoesOn, IsFit, moment_after}

-- an event that is marked last is the next one of those left
pub event_last : (marks : List Bool) (es : List NetEvent) (done : List Act) → woven (marks ++ true ∷ []) es done ≡ woven marks es done ++ Gave (first (left_behind marks es)) ∷ []
event_last [] es done = refl
event_last (true ∷ marks) es done = ap (λ steps. Gave (first es) ∷ steps) (event_last marks (rest es) done)
event_last (false ∷ marks) es [] = event_last marks es []
event_last (false ∷ marks) es (a ∷ done) = ap (λ steps. Did a ∷ steps) (event_last marks es done)

-- what is left behind it
pub left_last : (marks : List Bool) (es : List NetEvent) → left_behind (marks ++ true ∷ []) es ≡ rest (left_behind marks es)
left_last [] es = refl
left_last (true ∷ marks) es = left_last marks (rest es)
left_last (false ∷ marks) es = left_last marks es

-- an act that is marked last is the last one
pub act_last : (marks : List Bool) (es : List NetEvent) (done : List Act) (a : Act) → acts_marked marks ≡ length done → woven (marks ++ false ∷ []) es (done ++ a ∷ []) ≡ woven marks es done ++ Did a ∷ []
act_last [] es [] a h = refl
act_last [] es (x ∷ done) a h = absurd (omega (arith, h))
act_last (true ∷ marks) es done a h = ap (λ steps. Gave (first es) ∷ steps) (act_last marks (rest es) done a h)
act_last (false ∷ marks) es [] a h = absurd (omega (arith, h))
act_last (false ∷ marks) es (x ∷ done) a h = ap (λ steps. Did x ∷ steps) (act_last marks es done a (omega (arith, h)))

-- which leaves the same events
pub left_same : (marks : List Bool) (es : List NetEvent) → left_behind (marks ++ false ∷ []) es ≡ left_behind marks es
left_same [] es = refl
left_same (true ∷ marks) es = left_same marks (rest es)
left_same (false ∷ marks) es = left_same marks es

-- and has its mark
pub marked_last : (marks : List Bool) → acts_marked (marks ++ false ∷ []) ≡ acts_marked marks + 1
marked_last [] = refl
marked_last (true ∷ marks) = marked_last marks
marked_last (false ∷ marks) = ap (λ n. n + 1) (marked_last marks)

-- an event that is marked last is no act
pub marked_same : (marks : List Bool) → acts_marked (marks ++ true ∷ []) ≡ acts_marked marks
marked_same [] = refl
marked_same (true ∷ marks) = marked_same marks
marked_same (false ∷ marks) = ap (λ n. n + 1) (marked_same marks)

-- the acts of the story are the acts
pub acts_are : (marks : List Bool) (es : List NetEvent) (done : List Act) → acts_marked marks ≡ length done → acts_of (woven marks es done) ≡ done
acts_are [] es [] h = refl
acts_are [] es (x ∷ done) h = absurd (omega (arith, h))
acts_are (true ∷ marks) es done h = acts_are marks (rest es) done h
acts_are (false ∷ marks) es [] h = absurd (omega (arith, h))
acts_are (false ∷ marks) es (x ∷ done) h = ap (λ more. x ∷ more) (acts_are marks es done (omega (arith, h)))

-- behind one more of those that were given is the rest
drop_next : (es : List NetEvent) (at : ℕ) → drop (suc at) es ≡ rest (drop at es)
drop_next [] n = drop-nil (suc n) ∙ sym (ap rest (drop-nil {A = NetEvent} n))
drop_next (e ∷ es) zero = refl
drop_next (e ∷ es) (suc n) = drop_next es n

-- and so it is behind the last one
drop_by : (es : List NetEvent) (at : ℕ) → (at ≡ length es) ⊎ (at < length es) → drop (min (at + 1) (length es)) es ≡ rest (drop at es)
drop_by es at (inl e) =
    let end : min (at + 1) (length es) ≡ length es = omega (arith, e) in
    let none : drop at es ≡ [] = ap (λ n. drop n es) e ∙ drop-length es in
    ap (λ n. drop n es) end ∙ drop-length es ∙ sym (ap rest none)
drop_by es at (inr l) =
    let next : min (at + 1) (length es) ≡ suc at = omega (arith, l) in
    ap (λ n. drop n es) next ∙ drop_next es at

-- whichever it is
pub drop_after : (es : List NetEvent) (at : ℕ) → at ≤ length es → drop (min (at + 1) (length es)) es ≡ rest (drop at es)
drop_after es at h = drop_by es at (eq-or-lt_of_le h)

-- a net that gives the next event of those left marks it where it tells its story
pub event_marked : (telling : Bool) (marks after : List Bool) (es : List NetEvent) (at next : ℕ) (done : List Act) → at ≤ length es → AreMarked telling marks es (drop at es) done → after ≡ marked telling true marks → next ≡ min (at + 1) (length es) → AreMarked telling after es (drop next es) done
event_marked true marks after es at next done b h e n =
    let kept : left_behind after es ≡ drop next es = ap (λ m. left_behind m es) e ∙ left_last marks es ∙ ap rest h.0 ∙ sym (ap (λ k. drop k es) n ∙ drop_after es at b) in
    let same : acts_marked after ≡ length done = ap acts_marked e ∙ marked_same marks ∙ h.1 in
    (kept, same)
event_marked false marks after es at next done b h e n = tt

-- by which its story goes on
pub event_told : (telling : Bool) (marks after : List Bool) (es left : List NetEvent) (done : List Act) (event : NetEvent) → AreMarked telling marks es left done → after ≡ marked telling true marks → event ≡ first left → GoesOn (told telling (woven marks es done)) (told telling (woven after es done)) (Gave event)
event_told true marks after es left done event h e f = ap (λ m. woven m es done) e ∙ event_last marks es done ∙ ap (λ l. woven marks es done ++ Gave (first l) ∷ []) h.0 ∙ sym (ap (λ x. woven marks es done ++ Gave x ∷ []) f)
event_told false marks after es left done event h e f = tt

-- the next event obeys the bounds
pub fit_first : (moment : ℕ) (left : List NetEvent) (event : NetEvent) → AreFit moment left → event ≡ first left → IsFit moment event
fit_first moment [] event h e = subst (IsFit moment) (sym e) tt
fit_first moment (x ∷ left) event h e = subst (IsFit moment) (sym e) h.0

-- and so do those behind it
fit_rest : (moment : ℕ) (left : List NetEvent) → AreFit moment left → AreFit (moment_after moment (first left)) (rest left)
fit_rest moment [] h = tt
fit_rest moment (x ∷ left) h = h.1

-- of all that are left then
pub fit_after : (moment later : ℕ) (es : List NetEvent) (at next : ℕ) (event : NetEvent) → at ≤ length es → AreFit moment (drop at es) → event ≡ first (drop at es) → later ≡ moment_after moment event → next ≡ min (at + 1) (length es) → AreFit later (drop next es)
fit_after moment later es at next event b h e l n = subst (λ m. AreFit m (drop next es)) (sym (l ∙ ap (moment_after moment) e)) (subst (AreFit (moment_after moment (first (drop at es)))) (sym (ap (λ k. drop k es) n ∙ drop_after es at b)) (fit_rest moment (drop at es) h))

-- a net that tells its story marks an act that it keeps
pub act_marked : (telling : Bool) (marks after : List Bool) (es left : List NetEvent) (done more : List Act) (a : Act) → telling ≡ true → AreMarked telling marks es left done → after ≡ marks ++ false ∷ [] → more ≡ done ++ a ∷ [] → AreMarked telling after es left more
act_marked true marks after es left done more a t h e f =
    let kept : left_behind after es ≡ left = ap (λ m. left_behind m es) e ∙ left_same marks es ∙ h.0 in
    let count : acts_marked after ≡ length more = ap acts_marked e ∙ marked_last marks ∙ ap (λ n. n + 1) h.1 ∙ sym (ap length f ∙ length_push done a) in
    (kept, count)
act_marked false marks after es left done more a t h e f = tt

-- by which its story goes on
pub act_told : (telling : Bool) (marks after : List Bool) (es left : List NetEvent) (done more : List Act) (a : Act) → telling ≡ true → AreMarked telling marks es left done → after ≡ marks ++ false ∷ [] → more ≡ done ++ a ∷ [] → GoesOn (told telling (woven marks es done)) (told telling (woven after es more)) (Did a)
act_told true marks after es left done more a t h e f = ap (λ m. woven m es more) e ∙ ap (λ m. woven (marks ++ false ∷ []) es m) f ∙ act_last marks es done a h.1
act_told false marks after es left done more a t h e f = tt
