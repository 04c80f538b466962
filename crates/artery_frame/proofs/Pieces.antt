-- What pieces of a stream complete, and what the front of a written stream is read as.
use Rattle.std.proofs.Common.{◌≡◌, ℕ, suc, ◌+◌, ◌<◌, ◌≤◌, Bool, true, false, cond, eqb, List, [], ◌∷◌, ◌++◌, length, drop, refl, sym, ap, subst, ◌∙◌, arith, Option, Some, None, Result, Ok, Err, length-drop, append_assoc}
use Rattle.std.proofs.lemmas.List.{drop_at}
use Rattle.std.proofs.lemmas.Option.{slice_get_within}
use Rattle.std.specs.Prelude.{IfSome}
use Rattle.std.specs.List.{AllByRecursion}
use Rattle.artery_base.specs.Words.{IsPrefix}
use Rattle.artery_frame.specs.declared.stream.Stream.{Stream}
use Rattle.artery_frame.specs.declared.fault.FrameFault.{FrameFault}
use Rattle.artery_frame.specs.declared.fault.FrameFault.TheVariants.{BadMagic, BadStream, TooLong}
use Rattle.artery_frame.specs.Stream.{Reading, reading_of, reading_by, preamble_of, frames_in, mismatch, magic, GoesOn, new_frames, written, IsShort, whole_reading, IsFrontReading}
use Rattle.artery_frame.specs.Standing.{given_out}
use Rattle.artery_frame.proofs.Frames.{all_first, span_within}
use Rattle.artery_frame.proofs.Preambles.{Tells, preamble_tells, preamble_len}
use Rattle.artery_frame.proofs.Readings.{reading_at, longer_reading, written_reading}

-- ---- what a piece completes

-- the frames with a piece are those before it and those that it completes
pub frames_with : (fed piece : List ℕ) → (reading_of (fed ++ piece)).frames ≡ (reading_of fed).frames ++ new_frames fed piece
frames_with fed piece =
    let frames = (reading_of fed).frames in
    let more = (longer_reading fed piece).frames in
    let behind : new_frames fed piece ≡ more.0 = ap (drop (length frames)) more.1 ∙ drop_at frames more.0 (length frames) refl in
    more.1 ∙ ap (λ (fs : List (List ℕ)). frames ++ fs) (sym behind)

-- a joined piece completes what its parts complete, one after the other
pub joined_frames : (fed piece next : List ℕ) → new_frames fed (piece ++ next) ≡ new_frames fed piece ++ new_frames (fed ++ piece) next
joined_frames fed piece next =
    let frames = (reading_of fed).frames in
    let whole : (reading_of (fed ++ (piece ++ next))).frames ≡ frames ++ (new_frames fed piece ++ new_frames (fed ++ piece) next)
    = ap (λ (bytes : List ℕ). (reading_of bytes).frames) (sym (append_assoc fed piece next))
    ∙ frames_with (fed ++ piece) next
    ∙ ap (λ (fs : List (List ℕ)). fs ++ new_frames (fed ++ piece) next) (frames_with fed piece)
    ∙ append_assoc frames (new_frames fed piece) (new_frames (fed ++ piece) next) in
    ap (drop (length frames)) whole ∙ drop_at frames (new_frames fed piece ++ new_frames (fed ++ piece) next) (length frames) refl

nothing_told : preamble_of [] ≡ Ok None
unfolding preamble_of
nothing_told = refl

-- nothing has no frames, so the first piece completes its own
pub first_frames : (piece : List ℕ) → new_frames [] piece ≡ (reading_of piece).frames
first_frames piece = ap (λ (r : Reading). drop (length r.frames) (reading_of piece).frames) (reading_at [] (Ok None) nothing_told)

-- ---- the front of what was written

carried_by : (s : Option Stream) (stream : Stream) → IfSome s (λ x. Some stream ≡ Some x) → IfSome s (λ x. x ≡ stream)
carried_by None stream h = tt
carried_by (Some x) stream h = let e : Some stream ≡ Some x = h in cc

sound_by : (end : Option FrameFault) (stream : Stream) (frames : List (List ℕ)) (r : Reading) → r.end ≡ end → IfSome end (λ _. whole_reading stream frames ≡ r) → end ≡ None
sound_by None stream frames r e h = refl
sound_by (Some fault) stream frames r e h = absurd (let same : None ≡ r.end = ap (λ (x : Reading). x.end) h in cc)

by_longer : (stream : Stream) (frames : List (List ℕ)) (r : Reading) → GoesOn r (whole_reading stream frames) → IsFrontReading stream frames r
by_longer stream frames r h = record {
  carried = carried_by r.stream stream h.stream;
  first = (h.frames.0, sym h.frames.1);
  sound = sound_by r.end stream frames r refl h.fault;
}

pub front_reading : (stream : Stream) (frames : List (List ℕ)) (bytes : List ℕ) → AllByRecursion IsShort frames → IsPrefix bytes (written stream frames) → IsFrontReading stream frames (reading_of bytes)
front_reading stream frames bytes short (rest, whole) =
    let P : Reading → Type 0 = GoesOn (reading_of bytes) in
    let same : reading_of (bytes ++ rest) ≡ whole_reading stream frames = ap reading_of whole ∙ written_reading stream frames short in
    by_longer stream frames (reading_of bytes) (subst P same (longer_reading bytes rest))

-- ---- the place of a reading

mismatch_within : (at : ℕ) (wanted bytes : List ℕ) (place : ℕ) → mismatch at wanted bytes ≡ Some place → place < at + length bytes
mismatch_within at [] bytes place e = absurd cc
mismatch_within at (w ∷ wanted) [] place e = absurd cc
mismatch_within at (w ∷ wanted) (byte ∷ bytes) place e = by_test (eqb byte w) (mismatch_within (at + 1) wanted bytes place) e where
  by_test : (b : Bool) → (mismatch (at + 1) wanted bytes ≡ Some place → place < (at + 1) + length bytes)
      → cond b (mismatch (at + 1) wanted bytes) (Some at) ≡ Some place → place < at + suc (length bytes)
  by_test true f e = omega (arith, f e)
  by_test false f e = let s : at ≡ place = cc in omega arith

fault_within : (bytes : List ℕ) (fault : FrameFault) → Tells bytes (Err fault) → (reading_by bytes (Err fault)).offset ≤ length bytes
fault_within bytes (BadMagic at) t = omega (arith, mismatch_within 0 magic bytes at t.0)
fault_within bytes (BadStream id) t = let h = slice_get_within bytes 4 id t.1 in omega arith
fault_within bytes (TooLong len) t = absurd t

within_by : (bytes : List ℕ) (p : Result (Option Stream) FrameFault) → preamble_of bytes ≡ p → Tells bytes p → (reading_by bytes p).offset ≤ length bytes
within_by bytes (Ok None) e t = omega arith
within_by bytes (Err fault) e t = fault_within bytes fault t
within_by bytes (Ok (Some stream)) e t =
    let frames = frames_in (length bytes) (drop 5 bytes) in
    omega (arith, span_within (length bytes) (drop 5 bytes) frames (all_first frames), length-drop 5 bytes, preamble_len bytes stream e)

-- it is within the bytes
pub offset_within : (bytes : List ℕ) → (reading_of bytes).offset ≤ length bytes
offset_within bytes =
    let P : Reading → Type 0 = λ r. r.offset ≤ length bytes in
    subst P (sym (reading_at bytes (preamble_of bytes) refl)) (within_by bytes (preamble_of bytes) refl (preamble_tells bytes))

open_by : (bytes : List ℕ) (p : Result (Option Stream) FrameFault) → (reading_by bytes p).end ≡ None → (reading_by bytes p).offset ≡ given_out (reading_by bytes p).stream (reading_by bytes p).frames
open_by bytes (Ok None) e = refl
open_by bytes (Ok (Some stream)) e = refl
open_by bytes (Err fault) e = absurd cc

-- without a fault it is that behind the preamble and the frames
pub offset_open : (bytes : List ℕ) → (reading_of bytes).end ≡ None → (reading_of bytes).offset ≡ given_out (reading_of bytes).stream (reading_of bytes).frames
offset_open bytes =
    let P : Reading → Type 0 = λ r. r.end ≡ None → r.offset ≡ given_out r.stream r.frames in
    subst P (sym (reading_at bytes (preamble_of bytes) refl)) (open_by bytes (preamble_of bytes))

frames_by_id : (bytes : List ℕ) (p : Result (Option Stream) FrameFault) → (reading_by bytes p).stream ≡ None → (reading_by bytes p).frames ≡ []
frames_by_id bytes (Ok None) e = refl
frames_by_id bytes (Ok (Some stream)) e = absurd cc
frames_by_id bytes (Err fault) e = refl

-- without an id there are no frames
pub no_frames : (bytes : List ℕ) → (reading_of bytes).stream ≡ None → (reading_of bytes).frames ≡ []
no_frames bytes =
    let P : Reading → Type 0 = λ r. r.stream ≡ None → r.frames ≡ [] in
    subst P (sym (reading_at bytes (preamble_of bytes) refl)) (frames_by_id bytes (preamble_of bytes))
