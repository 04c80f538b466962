-- The whole frames at the front of some bytes.
use Rattle.std.proofs.Common.{◌≡◌, ◌≢◌, ℕ, zero, suc, ◌+◌, ◌≤◌, List, [], ◌∷◌, ◌++◌, length, take, drop, refl, sym, ap, ◌∙◌, arith, Option, Some, None, Result, Ok, Err, length-drop, length-append}
use Rattle.std.proofs.lemmas.List.{drop-drop, drop-append-le, take_all}
use Rattle.std.proofs.lemmas.Option.{slice_get_past}
use Rattle.std.specs.Prelude.{slice_get}
use Rattle.artery_frame.specs.declared.fault.FrameFault.{FrameFault}
use Rattle.artery_frame.specs.Stream.{front_of, frames_in, frames_by, span, fault_of, AreFrames, Ends}
use Rattle.artery_frame.specs.Standing.{after_all}
use Rattle.artery_frame.proofs.Fronts.{Says, front_says, begins_front, front_begins, begins_stays, no_frame_ends}

-- the frames, where the front is known
frames_at : (n : ℕ) (bytes : List ℕ) (front : Result (Option (List ℕ)) FrameFault) → front_of bytes ≡ front
    → frames_in (suc n) bytes ≡ frames_by (λ rest. frames_in n rest) bytes front
frames_at n bytes front e = ap (frames_by (λ rest. frames_in n rest) bytes) e

-- behind one frame less is left
shorter : (n : ℕ) (bytes frame : List ℕ) → length bytes ≤ suc n → length (drop (4 + length frame) bytes) ≤ n
shorter n bytes frame h = omega (arith, length-drop (4 + length frame) bytes)

-- what stands at the front of nothing
front_of_nothing : (bytes : List ℕ) → length bytes ≤ 0 → (frame : List ℕ) → front_of bytes ≢ Ok (Some frame)
front_of_nothing bytes h frame e = omega (arith, (begins_front frame bytes e).whole)

-- The frames that were given are the first ones.
abbrev pub AreFirst : List (List ℕ) → List (List ℕ) → Type 0
AreFirst given frames = given ≡ take (length given) frames

-- behind the last frame is no other
not_whole : (front : Result (Option (List ℕ)) FrameFault) → ((frame : List ℕ) → front ≢ Ok (Some frame)) → front ≡ after_all (fault_of front) None
not_whole (Ok None) h = refl
not_whole (Ok (Some frame)) h = absurd (h frame refl)
not_whole (Err fault) h = refl

-- behind the frames given stands what comes next
pub front_next : (n : ℕ) (bytes : List ℕ) (given : List (List ℕ)) → length bytes ≤ n → AreFirst given (frames_in n bytes)
    → front_of (drop (span given) bytes) ≡ after_all (fault_of (front_of (drop (span (frames_in n bytes)) bytes))) (slice_get (frames_in n bytes) (length given))
front_next zero bytes [] h f = not_whole (front_of bytes) (front_of_nothing bytes h)
front_next zero bytes (g ∷ gs) h f = absurd (cc)
front_next (suc n) bytes given h f = by_front (λ bytes given. front_next n bytes given) (front_of bytes) refl given f where
  by_front : ((bytes : List ℕ) (given : List (List ℕ)) → length bytes ≤ n → AreFirst given (frames_in n bytes)
      → front_of (drop (span given) bytes) ≡ after_all (fault_of (front_of (drop (span (frames_in n bytes)) bytes))) (slice_get (frames_in n bytes) (length given)))
      → (front : Result (Option (List ℕ)) FrameFault) → front_of bytes ≡ front → (given : List (List ℕ)) → AreFirst given (frames_in (suc n) bytes)
      → front_of (drop (span given) bytes) ≡ after_all (fault_of (front_of (drop (span (frames_in (suc n) bytes)) bytes))) (slice_get (frames_in (suc n) bytes) (length given))
  by_front next (Ok None) e [] f = rw (frames_at n bytes (Ok None) e, e) refl
  by_front next (Err fault) e [] f = rw (frames_at n bytes (Err fault) e, e) refl
  by_front next (Ok None) e (g ∷ gs) f = absurd (let k = frames_at n bytes (Ok None) e in let m : g ∷ gs ≡ [] = f ∙ ap (take (suc (length gs))) k in cc)
  by_front next (Err fault) e (g ∷ gs) f = absurd (let k = frames_at n bytes (Err fault) e in let m : g ∷ gs ≡ [] = f ∙ ap (take (suc (length gs))) k in cc)
  by_front next (Ok (Some frame)) e [] f = rw (frames_at n bytes (Ok (Some frame)) e) e
  by_front next (Ok (Some frame)) e (g ∷ gs) f =
      let k = frames_at n bytes (Ok (Some frame)) e in
      let m : g ∷ gs ≡ frame ∷ take (length gs) (frames_in n (drop (4 + length frame) bytes)) = f ∙ ap (take (suc (length gs))) k in
      let same : g ≡ frame = cc in
      let rest : AreFirst gs (frames_in n (drop (4 + length frame) bytes)) = cc in
      let ih = next (drop (4 + length frame) bytes) gs (shorter n bytes frame h) rest in
      rw (k, same) (rw (drop-drop (span gs) (4 + length frame) bytes, drop-drop (span (frames_in n (drop (4 + length frame) bytes))) (4 + length frame) bytes) at ih)

-- the frames given are not longer than the bytes
pub span_within : (n : ℕ) (bytes : List ℕ) (given : List (List ℕ)) → AreFirst given (frames_in n bytes) → span given ≤ length bytes
span_within n bytes [] f = omega arith
span_within zero bytes (g ∷ gs) f = absurd (cc)
span_within (suc n) bytes (g ∷ gs) f = by_front (λ bytes given. span_within n bytes given) (front_of bytes) refl where
  by_front : ((bytes : List ℕ) (given : List (List ℕ)) → AreFirst given (frames_in n bytes) → span given ≤ length bytes)
      → (front : Result (Option (List ℕ)) FrameFault) → front_of bytes ≡ front → span (g ∷ gs) ≤ length bytes
  by_front within (Ok None) e = absurd (let k = frames_at n bytes (Ok None) e in let m : g ∷ gs ≡ [] = f ∙ ap (take (suc (length gs))) k in cc)
  by_front within (Err fault) e = absurd (let k = frames_at n bytes (Err fault) e in let m : g ∷ gs ≡ [] = f ∙ ap (take (suc (length gs))) k in cc)
  by_front within (Ok (Some frame)) e =
      let k = frames_at n bytes (Ok (Some frame)) e in
      let m : g ∷ gs ≡ frame ∷ take (length gs) (frames_in n (drop (4 + length frame) bytes)) = f ∙ ap (take (suc (length gs))) k in
      let same : g ≡ frame = cc in
      let rest : AreFirst gs (frames_in n (drop (4 + length frame) bytes)) = cc in
      let ih = within (drop (4 + length frame) bytes) gs rest in
      rw same (omega (arith, ih, length-drop (4 + length frame) bytes, (begins_front frame bytes e).whole))

-- the first frames stay so, whatever follows
pub first_stay : (n m : ℕ) (bytes more : List ℕ) (given : List (List ℕ)) → length (bytes ++ more) ≤ m → AreFirst given (frames_in n bytes)
    → AreFirst given (frames_in m (bytes ++ more))
first_stay n m bytes more [] h f = refl
first_stay zero m bytes more (g ∷ gs) h f = absurd (cc)
first_stay (suc n) m bytes more (g ∷ gs) h f = by_front (λ m bytes given. first_stay n m bytes more given) m h (front_of bytes) refl where
  by_front : ((m : ℕ) (bytes : List ℕ) (given : List (List ℕ)) → length (bytes ++ more) ≤ m → AreFirst given (frames_in n bytes) → AreFirst given (frames_in m (bytes ++ more)))
      → (m : ℕ) → length (bytes ++ more) ≤ m → (front : Result (Option (List ℕ)) FrameFault) → front_of bytes ≡ front → AreFirst (g ∷ gs) (frames_in m (bytes ++ more))
  by_front stay m h (Ok None) e = absurd (let k = frames_at n bytes (Ok None) e in let m : g ∷ gs ≡ [] = f ∙ ap (take (suc (length gs))) k in cc)
  by_front stay m h (Err fault) e = absurd (let k = frames_at n bytes (Err fault) e in let m : g ∷ gs ≡ [] = f ∙ ap (take (suc (length gs))) k in cc)
  by_front stay zero h (Ok (Some frame)) e = absurd (omega (arith, (begins_front frame bytes e).whole, length-append bytes more))
  by_front stay (suc m) h (Ok (Some frame)) e =
      let b = begins_front frame bytes e in
      let k = frames_at n bytes (Ok (Some frame)) e in
      let w : g ∷ gs ≡ frame ∷ take (length gs) (frames_in n (drop (4 + length frame) bytes)) = f ∙ ap (take (suc (length gs))) k in
      let same : g ≡ frame = cc in
      let rest : AreFirst gs (frames_in n (drop (4 + length frame) bytes)) = cc in
      let cut = drop-append-le (4 + length frame) bytes more b.whole in
      let ih = stay m (drop (4 + length frame) bytes) gs (rw (← cut) (shorter m (bytes ++ more) frame h)) rest in
      let after : frames_in (suc m) (bytes ++ more) ≡ frame ∷ frames_in m (drop (4 + length frame) bytes ++ more)
      = frames_at m (bytes ++ more) (Ok (Some frame)) (front_begins frame (bytes ++ more) (begins_stays frame bytes more b)) ∙ ap (λ (w : List ℕ). frame ∷ frames_in m w) cut in
      rw (after, same) (ap (λ (w : List (List ℕ)). frame ∷ w) ih)

-- the frames are frames
pub are_frames : (n : ℕ) (bytes : List ℕ) → AreFrames (frames_in n bytes) bytes
are_frames zero bytes = tt
are_frames (suc n) bytes = by_front (λ bytes. are_frames n bytes) (front_of bytes) refl where
  by_front : ((bytes : List ℕ) → AreFrames (frames_in n bytes) bytes) → (front : Result (Option (List ℕ)) FrameFault) → front_of bytes ≡ front → AreFrames (frames_in (suc n) bytes) bytes
  by_front are (Ok None) e = rw (frames_at n bytes (Ok None) e) tt
  by_front are (Err fault) e = rw (frames_at n bytes (Err fault) e) tt
  by_front are (Ok (Some frame)) e = rw (frames_at n bytes (Ok (Some frame)) e) (begins_front frame bytes e, are (drop (4 + length frame) bytes))

-- and stay so, whatever follows
pub frames_stay : (frames : List (List ℕ)) (bytes more : List ℕ) → AreFrames frames bytes → AreFrames frames (bytes ++ more)
frames_stay [] bytes more a = tt
frames_stay (f ∷ fs) bytes more a = (begins_stays f bytes more a.0, rw (drop-append-le (4 + length f) bytes more a.0.whole) (frames_stay fs (drop (4 + length f) bytes) more a.1))

-- and no others are
pub only_frames : (n : ℕ) (bytes : List ℕ) (frames : List (List ℕ)) (end : Option FrameFault) → length bytes ≤ n → AreFrames frames bytes → Ends (drop (span frames) bytes) end
    → frames ≡ frames_in n bytes
only_frames zero bytes [] end h a e = refl
only_frames (suc n) bytes [] end h a e = by_front (front_of bytes) refl where
  by_front : (front : Result (Option (List ℕ)) FrameFault) → front_of bytes ≡ front → [] ≡ frames_in (suc n) bytes
  by_front (Ok None) k = sym (frames_at n bytes (Ok None) k)
  by_front (Err fault) k = sym (frames_at n bytes (Err fault) k)
  by_front (Ok (Some frame)) k = absurd (no_frame_ends bytes end e (front_of bytes) (front_says bytes) frame k)
only_frames zero bytes (f ∷ fs) end h a e = absurd (omega (arith, h, a.0.whole))
only_frames (suc n) bytes (f ∷ fs) end h a e =
    let ih = only_frames n (drop (4 + length f) bytes) fs end (shorter n bytes f h) a.1 (rw (drop-drop (span fs) (4 + length f) bytes) e) in
    sym (frames_at n bytes (Ok (Some f)) (front_begins f bytes a.0) ∙ ap (λ (w : List (List ℕ)). f ∷ w) (sym ih))

never_whole : (end : Option FrameFault) (frame : List ℕ) → after_all end None ≢ Ok (Some frame)
never_whole None frame e = cc
never_whole (Some fault) frame e = cc

-- all frames are the first ones
pub all_first : (frames : List (List ℕ)) → AreFirst frames frames
all_first frames = sym (take_all (length frames) frames (omega arith))

-- behind all frames stands no other
pub none_behind : (n : ℕ) (bytes : List ℕ) → length bytes ≤ n → (frame : List ℕ) → front_of (drop (span (frames_in n bytes)) bytes) ≢ Ok (Some frame)
none_behind n bytes h frame w =
    let next = front_next n bytes (frames_in n bytes) h (all_first (frames_in n bytes)) in
    let past = slice_get_past (frames_in n bytes) (length (frames_in n bytes)) (omega arith) in
    never_whole _ frame (sym (rw past at next) ∙ w)

-- behind the frames the bytes end so
pub frames_end : (n : ℕ) (bytes : List ℕ) → length bytes ≤ n → Ends (drop (span (frames_in n bytes)) bytes) (fault_of (front_of (drop (span (frames_in n bytes)) bytes)))
frames_end n bytes h = by_front (front_of (drop (span (frames_in n bytes)) bytes)) (front_says _) (none_behind n bytes h) where
  by_front : (front : Result (Option (List ℕ)) FrameFault) → Says (drop (span (frames_in n bytes)) bytes) front → ((frame : List ℕ) → front ≢ Ok (Some frame)) → Ends (drop (span (frames_in n bytes)) bytes) (fault_of front)
  by_front (Ok None) s w = s
  by_front (Ok (Some frame)) s w = absurd (w frame refl)
  by_front (Err fault) s w = s
