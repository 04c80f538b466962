-- What was shown stands for the bytes that came.
use Rattle.std.proofs.Common.{◌≡◌, ℕ, zero, suc, ◌+◌, ◌≤◌, List, [], ◌∷◌, ◌++◌, length, take, drop, refl, sym, ap, subst, ◌∙◌, arith, Option, Some, None, Result, Ok, Err, length-append, append_assoc, append-nil}
use Rattle.std.specs.Prelude.{slice_get, flat_map}
use Rattle.std.proofs.lemmas.List.{drop_more, drop_all, take_all}
use Rattle.std.proofs.lemmas.Option.{slice_get_within, get_or_from_slice_get}
use Rattle.artery_frame.specs.declared.fault.FrameFault.{FrameFault}
use Rattle.artery_frame.specs.Stream.{Reading, reading_of, reading_by, preamble_of}
use Rattle.artery_frame.specs.Kept.{Kept, told, kept_answer, kept_given, unless_broken, given_by, answer_by}
use Rattle.artery_frame.specs.Standing.{Stands, StandsBy, after_all, next_of, with_answer, place_after}
use Rattle.artery_capture.specs.declared.progress.Progress.{Progress}
use Rattle.artery_capture.specs.declared.progress.Progress.TheVariants.{GoingOn, Faulty}
use Rattle.artery_capture.specs.FrameText.{frame_lines}
use Rattle.artery_capture.specs.Shown.{front_lines, reading_lines}
use Rattle.artery_capture.specs.Captured.{ShowsBy, answer_lines, end_of, lines_behind, AllShown}

-- no bytes have no stream, no frames and no fault
nothing_read : reading_of [] ≡ reading_by [] (Ok None)
unfolding reading_of preamble_of
nothing_read = refl

-- of nothing no line is told
pub nothing_told : front_lines [] ≡ []
nothing_told = ap reading_lines nothing_read

pub nothing_shown : (d : Kept) → Stands d [] [] → ShowsBy GoingOn d []
nothing_shown d h =
    let P : Reading → Type 0 = λ r. StandsBy d r [] r.frames × (r.end ≡ None) in
    let Q : Reading → Type 0 = λ r. StandsBy d r [] [] in
    subst P (sym nothing_read) (subst Q nothing_read h, refl)

-- the laws of what a deframer keeps, as they are stated of it: its answers, and what they leave
pub record Keeping : Type 0 where
  pub answer : (k : Kept) (fed : List ℕ) (given : List (List ℕ)) → Stands k fed given → kept_answer k ≡ next_of (reading_of fed) given
  pub given : (k : Kept) (fed : List ℕ) (given : List (List ℕ)) → Stands k fed given → Stands (kept_given k) fed (with_answer given (kept_answer k))

-- what was shown by now of the bytes that came, behind the frames given before
pub record UnderWay (k : Kept) (fed : List ℕ) (given : List (List ℕ)) (old_out out : List ℕ) : Type 0 where
  pub shown : List (List ℕ)
  pub stands : Stands k fed shown
  pub lines : out ++ lines_behind shown fed ≡ old_out ++ lines_behind given fed

pub begins : (k : Kept) (fed : List ℕ) (given : List (List ℕ)) (out : List ℕ) → Stands k fed given → UnderWay k fed given out out
begins k fed given out h = record { shown = given; stands = h; lines = refl }

-- the next frame
is_next : (end : Option FrameFault) (next : Option (List ℕ)) (frame : List ℕ) → after_all end next ≡ Ok (Some frame) → next ≡ Some frame
is_next end (Some f) frame e = cc
is_next None None frame e = absurd (cc)
is_next (Some fault) None frame e = absurd (cc)

next_lines : (frames : List (List ℕ)) (n : ℕ) (frame : List ℕ) → slice_get frames n ≡ Some frame
    → flat_map frame_lines (drop n frames) ≡ frame_lines frame ++ flat_map frame_lines (drop (n + 1) frames)
next_lines frames n frame e =
    ap (flat_map frame_lines) (drop_more frames n frame (slice_get_within frames n frame e))
    ∙ ap (λ (f : List ℕ). frame_lines f ++ flat_map frame_lines (drop (n + 1) frames)) (get_or_from_slice_get frames n frame frame e)

frame_on : Keeping → (k new : Kept) (fed : List ℕ) (given : List (List ℕ)) (old_out out out' frame : List ℕ) → UnderWay k fed given old_out out → kept_answer k ≡ Ok (Some frame)
    → new ≡ kept_given k → out' ≡ out ++ frame_lines frame → UnderWay new fed given old_out out'
frame_on laws k new fed given old_out out out' frame u a e w =
    let frames = (reading_of fed).frames in
    let next : slice_get frames (length u.shown) ≡ Some frame = is_next (reading_of fed).end _ frame (sym (laws.answer k fed u.shown u.stands) ∙ a) in
    let P : Result (Option (List ℕ)) FrameFault → Type 0 = λ x. Stands (kept_given k) fed (with_answer u.shown x) in
    let Q : Kept → Type 0 = λ m. Stands m fed (u.shown ++ frame ∷ []) in
    let count : length (u.shown ++ frame ∷ []) ≡ length u.shown + 1 = omega (arith, length-append u.shown (frame ∷ [])) in
    record {
      shown = u.shown ++ frame ∷ [];
      stands = subst Q (sym e) (subst P a (laws.given k fed u.shown u.stands));
      lines = ap (λ (o : List ℕ). o ++ lines_behind (u.shown ++ frame ∷ []) fed) w
          ∙ append_assoc out (frame_lines frame) (lines_behind (u.shown ++ frame ∷ []) fed)
          ∙ ap (λ (n : ℕ). out ++ (frame_lines frame ++ flat_map frame_lines (drop n frames))) count
          ∙ ap (λ (x : List ℕ). out ++ x) (sym (next_lines frames (length u.shown) frame next))
          ∙ u.lines;
    }

on_by : Keeping → (k new : Kept) (fed : List ℕ) (given : List (List ℕ)) (old_out out out' : List ℕ) (a : Result (Option (List ℕ)) FrameFault) → kept_answer k ≡ a → UnderWay k fed given old_out out
    → None ≡ end_of a → new ≡ kept_given k → out' ≡ out ++ answer_lines a → UnderWay new fed given old_out out'
on_by laws k new fed given old_out out out' (Ok (Some frame)) w u n e l = frame_on laws k new fed given old_out out out' frame u w e l
on_by laws k new fed given old_out out out' (Ok None) w u n e l = absurd (cc)
on_by laws k new fed given old_out out out' (Err fault) w u n e l = absurd (cc)

pub goes_on : Keeping → (k new : Kept) (fed : List ℕ) (given : List (List ℕ)) (old_out out out' : List ℕ) → UnderWay k fed given old_out out
    → None ≡ end_of (kept_answer k) → new ≡ kept_given k → out' ≡ out ++ answer_lines (kept_answer k) → UnderWay new fed given old_out out'
goes_on laws k new fed given old_out out out' u n e l = on_by laws k new fed given old_out out out' (kept_answer k) refl u n e l

-- behind the last frame
no_next : (end : Option FrameFault) (next : Option (List ℕ)) → after_all end next ≡ Ok None → (end ≡ None) × (next ≡ None)
no_next end (Some f) e = absurd (cc)
no_next None None e = (refl, refl)
no_next (Some fault) None e = absurd (cc)

fault_next : (end : Option FrameFault) (next : Option (List ℕ)) (fault : FrameFault) → after_all end next ≡ Err fault → (end ≡ Some fault) × (next ≡ None)
fault_next end (Some f) fault e = absurd (cc)
fault_next None None fault e = absurd (cc)
fault_next (Some x) None fault e = let same : x ≡ fault = cc in (ap (λ (f : FrameFault). Some f) same, refl)

none_past : (frames : List (List ℕ)) (n : ℕ) → slice_get frames n ≡ None → length frames ≤ n
none_past [] n e = omega arith
none_past (x ∷ xs) zero e = absurd (cc)
none_past (x ∷ xs) (suc n) e = omega (arith, none_past xs n e)

all_shown : (frames shown : List (List ℕ)) → shown ≡ take (length shown) frames → slice_get frames (length shown) ≡ None → shown ≡ frames
all_shown frames shown f e = f ∙ take_all (length shown) frames (none_past frames (length shown) e)

nothing_behind : (fed : List ℕ) (shown : List (List ℕ)) → slice_get (reading_of fed).frames (length shown) ≡ None → lines_behind shown fed ≡ []
nothing_behind fed shown e = ap (flat_map frame_lines) (drop_all (length shown) (reading_of fed).frames (none_past (reading_of fed).frames (length shown) e))

out_is : (fed : List ℕ) (shown given : List (List ℕ)) (old_out out : List ℕ) → lines_behind shown fed ≡ [] → out ++ lines_behind shown fed ≡ old_out ++ lines_behind given fed
    → out ≡ old_out ++ lines_behind given fed
out_is fed shown given old_out out n l = sym (append-nil out) ∙ ap (λ (x : List ℕ). out ++ x) (sym n) ∙ l

ends_well : Keeping → (k new : Kept) (fed : List ℕ) (given : List (List ℕ)) (old_out out : List ℕ) → UnderWay k fed given old_out out → kept_answer k ≡ Ok None → new ≡ kept_given k
    → AllShown GoingOn new fed given old_out out
ends_well laws k new fed given old_out out u a e =
    let next = no_next (reading_of fed).end _ (sym (laws.answer k fed u.shown u.stands) ∙ a) in
    let P : Result (Option (List ℕ)) FrameFault → Type 0 = λ x. Stands (kept_given k) fed (with_answer u.shown x) in
    let Q : Kept → Type 0 = λ m. Stands m fed u.shown in
    let R : List (List ℕ) → Type 0 = λ fs. Stands new fed fs in
    record {
      shows = (subst R (all_shown (reading_of fed).frames u.shown u.stands.first next.1) (subst Q (sym e) (subst P a (laws.given k fed u.shown u.stands))), next.0);
      lines = out_is fed u.shown given old_out out (nothing_behind fed u.shown next.1) u.lines;
    }

-- the fault that was answered is noted
fault_noted : (k : Kept) (f : Option FrameFault) (fault : FrameFault) → k.fault ≡ f → answer_by f k.stream k.rest ≡ Err fault → (unless_broken f k (given_by k (Err fault))).fault ≡ Some fault
fault_noted k (Some x) fault w a = let same : x ≡ fault = cc in w ∙ ap (λ (y : FrameFault). Some y) same
fault_noted k None fault w a = refl

ends_badly : Keeping → (k new : Kept) (fed : List ℕ) (given : List (List ℕ)) (old_out out : List ℕ) (fault : FrameFault) → UnderWay k fed given old_out out → kept_answer k ≡ Err fault → new ≡ kept_given k
    → AllShown (Faulty fault) new fed given old_out out
ends_badly laws k new fed given old_out out fault u a e =
    let next = fault_next (reading_of fed).end _ fault (sym (laws.answer k fed u.shown u.stands) ∙ a) in
    let P : Result (Option (List ℕ)) FrameFault → Type 0 = λ x. Stands (kept_given k) fed (with_answer u.shown x) in
    let Q : Kept → Type 0 = λ m. Stands m fed u.shown in
    let stands : Stands new fed u.shown = subst Q (sym e) (subst P a (laws.given k fed u.shown u.stands)) in
    let noted : new.fault ≡ Some fault
    = ap (λ (m : Kept). m.fault) e ∙ ap (λ (x : Result (Option (List ℕ)) FrameFault). (unless_broken k.fault k (given_by k x)).fault) a ∙ fault_noted k k.fault fault refl a in
    record {
      shows = (next.0, stands.place ∙ ap (λ (f : Option FrameFault). told (place_after f (reading_of fed) u.shown)) noted);
      lines = out_is fed u.shown given old_out out (nothing_behind fed u.shown next.1) u.lines;
    }

ends_by : Keeping → (k new : Kept) (fed : List ℕ) (given : List (List ℕ)) (old_out out out' : List ℕ) (end : Progress) (a : Result (Option (List ℕ)) FrameFault) → kept_answer k ≡ a → UnderWay k fed given old_out out
    → Some end ≡ end_of a → new ≡ kept_given k → out' ≡ out ++ answer_lines a → AllShown end new fed given old_out out'
ends_by laws k new fed given old_out out out' end (Ok (Some frame)) w u n e l = absurd (cc)
ends_by laws k new fed given old_out out out' end (Ok None) w u n e l =
    let is : GoingOn ≡ end = cc in
    let P : Progress → Type 0 = λ p. AllShown p new fed given old_out out' in
    let Q : List ℕ → Type 0 = λ o. AllShown GoingOn new fed given old_out o in
    subst P is (subst Q (sym (l ∙ append-nil out)) (ends_well laws k new fed given old_out out u w e))
ends_by laws k new fed given old_out out out' end (Err fault) w u n e l =
    let is : Faulty fault ≡ end = cc in
    let P : Progress → Type 0 = λ p. AllShown p new fed given old_out out' in
    let Q : List ℕ → Type 0 = λ o. AllShown (Faulty fault) new fed given old_out o in
    subst P is (subst Q (sym (l ∙ append-nil out)) (ends_badly laws k new fed given old_out out fault u w e))

pub all_told : Keeping → (k new : Kept) (fed : List ℕ) (given : List (List ℕ)) (old_out out out' : List ℕ) (end : Progress) → UnderWay k fed given old_out out
    → Some end ≡ end_of (kept_answer k) → new ≡ kept_given k → out' ≡ out ++ answer_lines (kept_answer k) → AllShown end new fed given old_out out'
all_told laws k new fed given old_out out out' end u n e l = ends_by laws k new fed given old_out out out' end (kept_answer k) refl u n e l
