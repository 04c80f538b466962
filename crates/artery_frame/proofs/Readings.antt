-- Every list of bytes has one reading, and a longer one keeps what it tells.
use Rattle.std.proofs.Common.{◌≡◌, ℕ, ◌+◌, ◌≤◌, List, [], ◌∷◌, ◌++◌, length, take, drop, refl, sym, ap, subst, ◌∙◌, arith, Option, Some, None, Result, Ok, Err, length-drop, length-append, append_assoc}
use Rattle.std.proofs.lemmas.List.{take-append-drop, take_at, drop_at, drop-drop, drop-append-le}
use Rattle.std.specs.Prelude.{IfSome}
use Rattle.std.specs.List.{flat_map, AllByRecursion}
use Rattle.byteorder.specs.Endian.{little_bytes, little_number}
use Rattle.byteorder.specs.Numbers.{little_number-reads_back}
use Rattle.artery_frame.specs.declared.stream.Stream.{Stream}
use Rattle.artery_frame.specs.declared.stream.Stream.TheVariants.{Control, Ordinary}
use Rattle.artery_frame.specs.declared.fault.FrameFault.{FrameFault}
use Rattle.artery_frame.specs.declared.fault.FrameFault.TheVariants.{BadMagic, BadStream, TooLong}
use Rattle.artery_frame.specs.Stream.{Reading, IsReading, IsReadingBy, HasNoId, HasFrames, reading_of, reading_by, framed_reading, preamble_of, GoesOn, BeginsWith, AreFrames, Ends, preamble, framed, IsShort, whole_reading, front_of, frames_in, span}
use Rattle.artery_frame.proofs.Fronts.{front_says, front_ends, long_stays}
use Rattle.artery_frame.proofs.Frames.{are_frames, frames_stay, only_frames, span_within, frames_end, first_stay, all_first}
use Rattle.artery_frame.proofs.Preambles.{Tells, preamble_tells, preamble_none, preamble_made, preamble_magic, preamble_stream, preamble_stays, preamble_whole, fault_stays, preamble_len}

-- the reading, where the preamble is known
pub reading_at : (bytes : List ℕ) (p : Result (Option Stream) FrameFault) → preamble_of bytes ≡ p → reading_of bytes ≡ reading_by bytes p
unfolding reading_of
reading_at bytes p e = ap (reading_by bytes) e

pub fits_behind : (bytes : List ℕ) (n : ℕ) → length (drop n bytes) ≤ length bytes
fits_behind bytes n = omega (arith, length-drop n bytes)

is_by : (bytes : List ℕ) (p : Result (Option Stream) FrameFault) → Tells bytes p → IsReading bytes (reading_by bytes p)
is_by bytes (Ok None) t = (refl, t)
is_by bytes (Err fault) t = (refl, t)
is_by bytes (Ok (Some stream)) t = (t.0, t.1, are_frames (length bytes) (drop 5 bytes), frames_end (length bytes) (drop 5 bytes) (fits_behind bytes 5), refl)

-- it is one
pub is_reading : (bytes : List ℕ) → IsReading bytes (reading_of bytes)
is_reading bytes =
    let P : Reading → Type 0 = IsReading bytes in
    subst P (sym (reading_at bytes (preamble_of bytes) refl)) (is_by bytes (preamble_of bytes) (preamble_tells bytes))

abbrev reading : Option Stream → List (List ℕ) → ℕ → Option FrameFault → Reading
reading stream frames offset end = record { stream = stream; frames = frames; offset = offset; end = end }

no_id : (bytes : List ℕ) (offset : ℕ) (end : Option FrameFault) → HasNoId bytes offset end → reading None [] offset end ≡ reading_of bytes
no_id bytes offset None h = ap (λ (n : ℕ). reading None [] n None) h.2 ∙ sym (reading_at bytes (Ok None) (preamble_none bytes h.0 h.1))
no_id bytes offset (Some (BadMagic at)) h = ap (λ (n : ℕ). reading None [] n (Some (BadMagic at))) h.1 ∙ sym (reading_at bytes (Err (BadMagic at)) (preamble_magic bytes at h.0))
no_id bytes offset (Some (BadStream id)) h = ap (λ (n : ℕ). reading None [] n (Some (BadStream id))) h.4 ∙ sym (reading_at bytes (Err (BadStream id)) (preamble_stream bytes id h.0 h.1 h.2 h.3))
no_id bytes offset (Some (TooLong len)) h = absurd h

has_frames : (bytes : List ℕ) (stream : Stream) (frames : List (List ℕ)) (offset : ℕ) (end : Option FrameFault) → HasFrames bytes stream frames offset end
    → reading (Some stream) frames offset end ≡ reading_of bytes
has_frames bytes stream frames offset end h =
    let same = only_frames (length bytes) (drop 5 bytes) frames end (fits_behind bytes 5) h.2 h.3 in
    let last = front_ends (drop (span frames) (drop 5 bytes)) end h.3 (front_of (drop (span frames) (drop 5 bytes))) (front_says _) in
    ap (λ (n : ℕ). reading (Some stream) frames n end) h.4
    ∙ ap (λ (e : Option FrameFault). reading (Some stream) frames (5 + span frames) e) (sym last)
    ∙ ap (λ (fs : List (List ℕ)). framed_reading stream (drop 5 bytes) fs) same
    ∙ sym (reading_at bytes (Ok (Some stream)) (preamble_made bytes stream h.0 h.1))

only_by : (bytes : List ℕ) (stream : Option Stream) (frames : List (List ℕ)) (offset : ℕ) (end : Option FrameFault) → IsReadingBy bytes stream frames offset end
    → reading stream frames offset end ≡ reading_of bytes
only_by bytes None frames offset end h = ap (λ (fs : List (List ℕ)). reading None fs offset end) h.0 ∙ no_id bytes offset end h.1
only_by bytes (Some stream) frames offset end h = has_frames bytes stream frames offset end h

-- and no other is
pub only_reading : (bytes : List ℕ) (r : Reading) → IsReading bytes r → r ≡ reading_of bytes
only_reading bytes r h = only_by bytes r.stream r.frames r.offset r.end h

-- what has a fault behind its frames keeps it
fault_stays_by : (bytes more : List ℕ) (stream : Stream) → preamble_of bytes ≡ Ok (Some stream) → (end : Option FrameFault) → (reading_by bytes (Ok (Some stream))).end ≡ end
    → IfSome end (λ _. reading_of (bytes ++ more) ≡ reading_by bytes (Ok (Some stream)))
fault_stays_by bytes more stream e None f = tt
fault_stays_by bytes more stream e (Some fault) f =
    let again = preamble_whole (bytes ++ more) stream (preamble_stays bytes more stream e) in
    let cut : drop 5 (bytes ++ more) ≡ drop 5 bytes ++ more = drop-append-le 5 bytes more (preamble_len bytes stream e) in
    let frames = frames_in (length bytes) (drop 5 bytes) in
    let behind : drop (span frames) (drop 5 bytes ++ more) ≡ drop (span frames) (drop 5 bytes) ++ more
    = drop-append-le (span frames) (drop 5 bytes) more (span_within (length bytes) (drop 5 bytes) frames (all_first frames)) in
    let are : AreFrames frames (drop 5 (bytes ++ more)) = rw cut (frames_stay frames (drop 5 bytes) more (are_frames (length bytes) (drop 5 bytes))) in
    let ends = long_stays (drop (span frames) (drop 5 bytes)) more _ fault f (frames_end (length bytes) (drop 5 bytes) (fits_behind bytes 5)) in
    sym (only_reading (bytes ++ more) (reading_by bytes (Ok (Some stream))) (again.0, again.1, are, rw cut (rw behind ends), refl))

longer_by : (bytes more : List ℕ) (p : Result (Option Stream) FrameFault) → preamble_of bytes ≡ p → GoesOn (reading_by bytes p) (reading_of (bytes ++ more))
longer_by bytes more (Ok None) e = record { stream = tt; frames = ((reading_of (bytes ++ more)).frames, refl); fault = tt }
longer_by bytes more (Err fault) e = record {
  stream = tt;
  frames = ((reading_of (bytes ++ more)).frames, refl);
  fault = reading_at (bytes ++ more) (Err fault) (fault_stays bytes more fault e);
}
longer_by bytes more (Ok (Some stream)) e =
    let w = reading_at (bytes ++ more) (Ok (Some stream)) (preamble_stays bytes more stream e) in
    let cut : drop 5 (bytes ++ more) ≡ drop 5 bytes ++ more = drop-append-le 5 bytes more (preamble_len bytes stream e) in
    let frames = frames_in (length bytes) (drop 5 bytes) in
    let all = frames_in (length (bytes ++ more)) (drop 5 bytes ++ more) in
    let stay : frames ≡ take (length frames) all = first_stay (length bytes) (length (bytes ++ more)) (drop 5 bytes) more frames (rw (← cut) (fits_behind (bytes ++ more) 5)) (all_first frames) in
    record {
      stream = ap (λ (r : Reading). r.stream) w;
      frames = (drop (length frames) all, ap (λ (r : Reading). r.frames) w ∙ ap (frames_in (length (bytes ++ more))) cut ∙ sym (ap (λ (fs : List (List ℕ)). fs ++ drop (length frames) all) stay ∙ take-append-drop (length frames) all));
      fault = fault_stays_by bytes more stream e _ refl;
    }

-- what was read stays, whatever follows
pub longer_reading : (bytes more : List ℕ) → GoesOn (reading_of bytes) (reading_of (bytes ++ more))
longer_reading bytes more =
    let P : Reading → Type 0 = λ r. GoesOn r (reading_of (bytes ++ more)) in
    subst P (sym (reading_at bytes (preamble_of bytes) refl)) (longer_by bytes more (preamble_of bytes) refl)

-- a frame that was written stands at the front
framed_begins : (frame more : List ℕ) → IsShort frame → BeginsWith frame (framed frame ++ more)
framed_begins frame more h =
    let rest : framed frame ++ more ≡ little_bytes 4 (length frame) ++ (frame ++ more) = append_assoc (little_bytes 4 (length frame)) frame more in
    record {
      limit = h;
      spelled = ap (little_number 4) rest ∙ little_number-reads_back 4 (length frame) (frame ++ more) (omega arith);
      whole = omega (arith, length-append (framed frame) more, length-append (little_bytes 4 (length frame)) frame);
      same = ap (λ (w : List ℕ). take (length frame) (drop 4 w)) rest ∙ take_at frame more (length frame) refl;
    }

behind_framed : (frame more : List ℕ) → drop (4 + length frame) (framed frame ++ more) ≡ more
behind_framed frame more = drop_at (framed frame) more (4 + length frame) (length-append (little_bytes 4 (length frame)) frame)

framed_all : (frames : List (List ℕ)) → AllByRecursion IsShort frames → AreFrames frames (flat_map framed frames) × (drop (span frames) (flat_map framed frames) ≡ [])
framed_all [] h = (tt, refl)
framed_all (f ∷ fs) h =
    let ih = framed_all fs h.1 in
    let behind = behind_framed f (flat_map framed fs) in
    ((framed_begins f (flat_map framed fs) h.0, rw behind ih.0), sym (drop-drop (span fs) (4 + length f) (framed f ++ flat_map framed fs)) ∙ ap (drop (span fs)) behind ∙ ih.1)

nothing_ends : (rest : List ℕ) → rest ≡ [] → Ends rest None
nothing_ends rest e four = absurd (omega (arith, ap length e))

written_by : (stream : Stream) (frames : List (List ℕ)) → AllByRecursion IsShort frames → IsReading (preamble stream ++ flat_map framed frames) (whole_reading stream frames)
written_by Control frames h = (refl, refl, (framed_all frames h).0, nothing_ends _ (framed_all frames h).1, refl)
written_by Ordinary frames h = (refl, refl, (framed_all frames h).0, nothing_ends _ (framed_all frames h).1, refl)

-- what was written is read again
pub written_reading : (stream : Stream) (frames : List (List ℕ)) → AllByRecursion IsShort frames → reading_of (preamble stream ++ flat_map framed frames) ≡ whole_reading stream frames
written_reading stream frames h = sym (only_reading (preamble stream ++ flat_map framed frames) (whole_reading stream frames) (written_by stream frames h))
