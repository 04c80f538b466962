-- The frames that a deframer gives one after the other.
use Rattle.std.proofs.Common.{◌≡◌, ℕ, zero, suc, ◌+◌, ◌-◌, ◌<◌, ◌≤◌, Bool, true, false, cond, List, [], ◌∷◌, ◌++◌, length, refl, sym, ◌∙◌, ap, subst, arith}
use Rattle.std.specs.Prelude.{None, Some, Option, is_some, Result, Ok, Err}
use Rattle.artery_frame.specs.declared.stream.Stream.{Stream}
use Rattle.artery_frame.specs.declared.fault.FrameFault.{FrameFault}
use Rattle.artery_frame.specs.Kept.{Kept, kept_answer, kept_given, unless_broken, given_by, answer_by, LeavesHeld}
use Rattle.artery_machine.specs.Parts.{kept, answers, frames_given, frames_gone, given_before}
use Rattle.artery_machine.specs.Doing.{Doing, Rule, in_bytes, each}
use Rattle.artery_core.specs.declared.coming.Next.{Next}
use Rattle.artery_core.specs.declared.coming.Next.TheVariants.{Frame, Nothing, Broken}
use Rattle.artery_core.specs.Coming.{next_told, frame_in, TellsFault}

-- ---- one answer

-- An answer with neither frame nor fault comes where no fault was told.
unbroken : (k : Kept) → kept_answer k ≡ Ok None → k.fault ≡ None
unbroken k e = by k.fault refl
  where
    by : (f : Option FrameFault) → k.fault ≡ f → k.fault ≡ None
    by None h = h
    by (Some fault) h = (let t : answer_by (Some fault) k.stream k.rest ≡ Ok None = ap (λ x. answer_by x k.stream k.rest) (sym h) ∙ e in absurd cc)

-- It leaves what is kept as it was.
same_kept : (k : Kept) → kept_answer k ≡ Ok None → kept_given k ≡ k
same_kept k e = ap (λ f. unless_broken f k (given_by k (kept_answer k))) (unbroken k e) ∙ ap (given_by k) e

-- A fault that was told stays.
pub broken_same : (k : Kept) (fault : FrameFault) → k.fault ≡ Some fault → kept_given k ≡ k
broken_same k fault e = ap (λ f. unless_broken f k (given_by k (kept_answer k))) e

pub nothing_told : (k new : Kept) → kept_answer k ≡ Ok None → new ≡ kept_given k → None ≡ new.fault
nothing_told k new e is = sym (ap (λ (x : Kept). x.fault) (is ∙ same_kept k e) ∙ unbroken k e)

fault_kept : (k : Kept) (fault : FrameFault) → kept_answer k ≡ Err fault → (kept_given k).fault ≡ Some fault
fault_kept k fault e = by k.fault refl
  where
    by : (f : Option FrameFault) → k.fault ≡ f → (kept_given k).fault ≡ Some fault
    by None h = ap (λ (x : Kept). x.fault) (ap (λ f. unless_broken f k (given_by k (kept_answer k))) h ∙ ap (given_by k) e)
    by (Some g) h = (let t : answer_by (Some g) k.stream k.rest ≡ Err fault = ap (λ x. answer_by x k.stream k.rest) (sym h) ∙ e in let s : g ≡ fault = cc in ap (λ (x : Kept). x.fault) (broken_same k g h) ∙ h ∙ ap Some s)

pub fault_told : (k new : Kept) (fault : FrameFault) → kept_answer k ≡ Err fault → new ≡ kept_given k → Some fault ≡ new.fault
fault_told k new fault e is = sym (ap (λ (x : Kept). x.fault) is ∙ fault_kept k fault e)

-- ---- one after the other

gone_same : (n : ℕ) (k : Kept) → kept_given k ≡ k → frames_gone n k ≡ k
gone_same zero k e = refl
gone_same (suc n) k e = ap (frames_gone n) e ∙ gone_same n k e

-- One more frame was heard.
pub one_heard : (n : ℕ) (k new : Kept) (r : List ℕ → Rule kept in_bytes) (d e : Doing kept in_bytes) → 0 < n → Frame ≡ next_told (kept_answer k) → new ≡ kept_given k → e ≡ each (frame_in (kept_answer k)) r d
    → each (frames_given (n - 1 + 1) new) r e ≡ each (frames_given (n + 1) k) r d
one_heard n k new r d e h next is heard = by (kept_answer k) refl
  where
    by : (a : Result (Option (List ℕ)) FrameFault) → kept_answer k ≡ a → each (frames_given (n - 1 + 1) new) r e ≡ each (frames_given (n + 1) k) r d
    by (Ok (Some frame)) q =
        let more : n + 1 ≡ suc n = omega arith in
        let less : n - 1 + 1 ≡ n = omega (arith, h) in
        let did : e ≡ r frame d = heard ∙ ap (λ a. each (frame_in a) r d) q in
        let gives : frames_given (suc n) k ≡ frame ∷ frames_given n (kept_given k) = ap (given_before (frames_given n (kept_given k))) q in
        ap (λ (m : ℕ). each (frames_given m new) r e) less ∙ ap (λ x. each (frames_given n x) r e) is ∙ ap (each (frames_given n (kept_given k)) r) did
        ∙ sym (ap (λ (m : ℕ). each (frames_given m k) r d) more ∙ ap (λ xs. each xs r d) gives)
    by (Ok None) q = (let t : Frame ≡ Nothing = next ∙ ap next_told q in absurd cc)
    by (Err fault) q = (let t : Frame ≡ Broken fault = next ∙ ap next_told q in absurd cc)

-- One more frame is gone.
pub one_gone : (n : ℕ) (k new : Kept) → 0 < n → new ≡ kept_given k → frames_gone (n - 1 + 1) new ≡ frames_gone (n + 1) k
one_gone n k new h is =
    let more : n + 1 ≡ suc n = omega arith in
    let less : n - 1 + 1 ≡ n = omega (arith, h) in
    ap (λ (m : ℕ). frames_gone m new) less ∙ ap (frames_gone n) is ∙ sym (ap (λ (m : ℕ). frames_gone m k) more)

-- What gives a frame leaves less.
pub less_left : (n : ℕ) (k new : Kept) → length k.rest ≤ n → Frame ≡ next_told (kept_answer k) → LeavesHeld (kept_answer k) k.rest new.rest → (0 < n) × (length new.rest ≤ n - 1)
less_left n k new h next held = by (kept_answer k) next held
  where
    by : (a : Result (Option (List ℕ)) FrameFault) → Frame ≡ next_told a → LeavesHeld a k.rest new.rest → (0 < n) × (length new.rest ≤ n - 1)
    by (Ok (Some frame)) q l = (omega (arith, h, l), omega (arith, h, l))
    by (Ok None) q l = absurd cc
    by (Err fault) q l = absurd cc

-- Whether an answer gives no frame.
abbrev NoFrame : Result (Option (List ℕ)) FrameFault → Type 0
NoFrame a = frame_in a ≡ []

none_more : (n : ℕ) (k : Kept) → NoFrame (kept_answer k) → frames_given (n + 1) k ≡ []
none_more n k h =
    let more : n + 1 ≡ suc n = omega arith in
    ap (λ (m : ℕ). frames_given m k) more ∙ by (kept_answer k) h
  where
    by : (a : Result (Option (List ℕ)) FrameFault) → NoFrame a → given_before (frames_given n (kept_given k)) a ≡ []
    by (Ok (Some frame)) e = absurd cc
    by (Ok None) e = refl
    by (Err fault) e = refl

no_frame_at : (k : Kept) (next : Next) → next ≡ next_told (kept_answer k) → ((Frame ≡ next) → ⊥) → NoFrame (kept_answer k)
no_frame_at k next is other = by (kept_answer k) is
  where
    by : (a : Result (Option (List ℕ)) FrameFault) → next ≡ next_told a → NoFrame a
    by (Ok (Some frame)) e = absurd (other (sym e))
    by (Ok None) e = refl
    by (Err fault) e = refl

given_twice : (k : Kept) → NoFrame (kept_answer k) → kept_given (kept_given k) ≡ kept_given k
given_twice k h = by (kept_answer k) refl
  where
    by : (a : Result (Option (List ℕ)) FrameFault) → kept_answer k ≡ a → kept_given (kept_given k) ≡ kept_given k
    by (Ok (Some frame)) e = (let t : frame ∷ [] ≡ [] = sym (ap frame_in e) ∙ h in absurd cc)
    by (Ok None) e = ap kept_given (same_kept k e)
    by (Err fault) e = broken_same (kept_given k) fault (fault_kept k fault e)

-- Where none is next, all were heard, and all are gone.
pub record Ends (n : ℕ) (k new : Kept) (r : List ℕ → Rule kept in_bytes) (d e : Doing kept in_bytes) : Type 0 where
  pub heard : e ≡ each (frames_given (n + 1) k) r d
  pub gone : new ≡ frames_gone (n + 1) k

pub all_heard : (n : ℕ) (k new : Kept) (next : Next) (r : List ℕ → Rule kept in_bytes) (d e : Doing kept in_bytes) → ((Frame ≡ next) → ⊥) → next ≡ next_told (kept_answer k) → new ≡ kept_given k → e ≡ each (frame_in (kept_answer k)) r d
    → Ends n k new r d e
all_heard n k new next r d e other told is heard =
    let none : NoFrame (kept_answer k) = no_frame_at k next told other in
    let more : n + 1 ≡ suc n = omega arith in
    record {
      heard = heard ∙ ap (λ xs. each xs r d) none ∙ sym (ap (λ xs. each xs r d) (none_more n k none));
      gone = is ∙ sym (ap (λ (m : ℕ). frames_gone m k) more ∙ gone_same n (kept_given k) (given_twice k none));
    }

-- ---- the stream

given_stream : (k : Kept) → (kept_given k).stream ≡ k.stream
given_stream k = by k.fault (kept_answer k)
  where
    by : (f : Option FrameFault) (a : Result (Option (List ℕ)) FrameFault) → (unless_broken f k (given_by k a)).stream ≡ k.stream
    by (Some fault) a = refl
    by None (Ok (Some frame)) = refl
    by None (Ok None) = refl
    by None (Err fault) = refl

-- What is given leaves the stream as it is known.
pub stream_stays : (n : ℕ) (k : Kept) → (frames_gone n k).stream ≡ k.stream
stream_stays zero k = refl
stream_stays (suc n) k = stream_stays n (kept_given k) ∙ given_stream k
