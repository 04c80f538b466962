-- The bytes of a connection, and the frames that a beginning of them completes.
use Rattle.std.proofs.Common.{◌≡◌, ℕ, zero, suc, ◌+◌, ◌≤◌, true, List, [], ◌∷◌, ◌++◌, length, take, drop, refl, sym, ◌∙◌, ap, subst, arith, append_assoc}
use Rattle.std.specs.Prelude.{None, Some, min, slice_get}
use Rattle.std.specs.List.{flat_map, AllByRecursion}
use Rattle.artery_base.specs.Words.{IsPrefix}
use Rattle.artery_frame.specs.declared.stream.Stream.TheVariants as streams
use Rattle.artery_frame.specs.Stream.{preamble, framed, written, IsShort, IsFrontReading, reading_of}
use Rattle.artery_frame.proofs.Pieces.{front_reading}
use Rattle.artery_machine.specs.Deeds.{Writing, Begins, Controls, Sends, bytes_of}
use Rattle.artery_machine.specs.Ways.{Wrote, bytes_on}
use Rattle.artery_flight.specs.Flight.{is_frame, frame_of, AreFramesBy, IsStreamBy, frames_by, AreBytesOf}
use Rattle.artery_flight.specs.Answers.{IsReadBack}
use Rattle.artery_flight.proofs.Lists.{not_both, Each}
use Rattle.artery_flight.proofs.Facts.{Conn}
use Rattle.artery_flight.proofs.Grow.{each_front}
use Rattle.artery_flight.proofs.Reading.{HasFrame}

-- ---- lists

pub take_front : {X : Type 0} (n : ℕ) (xs ys : List X) → n ≤ length xs → take n (xs ++ ys) ≡ take n xs
take_front zero xs ys h = refl
take_front (suc n) [] ys h = absurd (let c : ⊥ = (let e : suc n ≤ 0 = h in omega arith) in c)
take_front (suc n) (x ∷ xs) ys h = ap (λ zs. x ∷ zs) (take_front n xs ys (let e : suc n ≤ suc (length xs) = h in omega arith))

pub each_drop : {X : Type 0} (P : X → Type 0) (n : ℕ) (xs : List X) → Each P xs → Each P (drop n xs)
each_drop P zero xs h = h
each_drop P (suc n) [] h = tt
each_drop P (suc n) (x ∷ xs) h = each_drop P n xs h.1

take_some : {X : Type 0} (n : ℕ) (xs : List X) → take (min n (length xs)) xs ≡ take n xs
take_some zero xs = ap (λ (k : ℕ). take k xs) (let e : min 0 (length xs) ≡ 0 = omega arith in e)
take_some (suc n) [] = ap (λ (k : ℕ). take k []) (let e : min (suc n) 0 ≡ 0 = omega arith in e)
take_some (suc n) (x ∷ xs) = ap (λ (k : ℕ). take k (x ∷ xs)) (let e : min (suc n) (suc (length xs)) ≡ suc (min n (length xs)) = omega arith in e) ∙ ap (λ zs. x ∷ zs) (take_some n xs)

-- so many, and then so many of those behind them
pub take_more : {X : Type 0} (a n : ℕ) (xs : List X) → take (a + min n (length (drop a xs))) xs ≡ take a xs ++ take n (drop a xs)
take_more zero n xs = ap (λ (k : ℕ). take k xs) (let e : 0 + min n (length xs) ≡ min n (length xs) = omega arith in e) ∙ take_some n xs
take_more {X} (suc a) n [] = nothing (suc a + min n 0) ∙ sym (nothing n)
  where
    none : List X
    none = []

    nothing : (k : ℕ) → take k [] ≡ none
    nothing zero = refl
    nothing (suc k) = refl
take_more (suc a) n (x ∷ xs) = ap (λ (k : ℕ). take k (x ∷ xs)) (let e : suc a + min n (length (drop a xs)) ≡ suc (a + min n (length (drop a xs))) = omega arith in e) ∙ ap (λ zs. x ∷ zs) (take_more a n xs)

-- ---- bytes

frame_bytes : (uid : ℕ) (x : Writing) → is_frame x ≡ true → bytes_of uid x ≡ framed (frame_of uid x)
frame_bytes uid (Begins stream) h = not_both refl (sym h)
frame_bytes uid (Controls control) h = refl
frame_bytes uid (Sends envelope) h = refl

frames_bytes : (uid : ℕ) (ws : List Wrote) → AreFramesBy uid ws → flat_map (λ (x : Wrote). x.bytes) ws ≡ flat_map framed (frames_by uid ws)
frames_bytes uid [] h = refl
frames_bytes uid (w ∷ ws) h =
    ap (λ bs. bs ++ flat_map (λ (x : Wrote). x.bytes) ws) (h.0.bytes ∙ frame_bytes uid w.writing h.0.frame)
    ∙ ap (λ bs. framed (frame_of uid w.writing) ++ bs) (frames_bytes uid ws h.1)

pub bytes_are : (uid : ℕ) (ws : List Wrote) → IsStreamBy uid ws → AreBytesOf uid (flat_map (λ (x : Wrote). x.bytes) ws) ws
bytes_are uid [] h = refl
bytes_are uid (w ∷ ws) h = (h.0.stream, h.0.writing, ap (λ bs. bs ++ flat_map (λ (x : Wrote). x.bytes) ws) h.0.bytes ∙ ap (λ bs. preamble h.0.stream ++ bs) (frames_bytes uid ws h.1))

-- ---- frames

-- frames that are read back are not too long
short_one : (uid : ℕ) (x : Writing) → is_frame x ≡ true → IsReadBack uid x → IsShort (frame_of uid x)
short_one uid (Begins stream) f r = not_both refl (sym f)
short_one uid (Controls control) f r = r.0
short_one uid (Sends envelope) f r = r.0

are_short : (uid : ℕ) (ws : List Wrote) → AreFramesBy uid ws → Each (λ (x : Wrote). IsReadBack uid x.writing) ws → AllByRecursion IsShort (frames_by uid ws)
are_short uid [] h r = tt
are_short uid (w ∷ ws) h r = (short_one uid w.writing h.0.frame r.0, are_short uid ws h.1 r.1)

-- each of the frames of a connection was written on it
have_frames : (c : Conn) (us : List Wrote) → ((i : ℕ) (x : Wrote) → slice_get us i ≡ Some x → (place : ℕ) × (slice_get c.way.all place ≡ Some x)) → AreFramesBy c.dialer us → Each (HasFrame c) (frames_by c.dialer us)
have_frames c [] here h = tt
have_frames c (x ∷ us) here h =
    let spot : (place : ℕ) × (slice_get c.way.all place ≡ Some x) = here 0 x refl in
    (record { place = spot.0; wrote = x; here = spot.1; framed = h.0.frame; bytes = refl }, have_frames c us (λ i y e. here (suc i) y e) h.1)

-- what the beginning of the bytes of a connection reads as: frames that were written there, and no fault
pub record Reads (c : Conn) (bytes : List ℕ) : Type 0 where
  pub frames : Each (HasFrame c) (reading_of bytes).frames
  pub sound : (reading_of bytes).end ≡ None

pub reads : (c : Conn) (bytes : List ℕ) → IsStreamBy c.dialer c.way.all → Each (λ (x : Wrote). IsReadBack c.dialer x.writing) c.way.all → IsPrefix bytes (bytes_on c.way) → Reads c bytes
reads c bytes h r p = by c.way.all (λ i x e. (i, e)) h r (subst (λ bs. IsPrefix bytes bs) refl p)
  where
    none : List (List ℕ)
    none = []

    by : (ws : List Wrote) → ((i : ℕ) (x : Wrote) → slice_get ws i ≡ Some x → (place : ℕ) × (slice_get c.way.all place ≡ Some x)) → IsStreamBy c.dialer ws → Each (λ (x : Wrote). IsReadBack c.dialer x.writing) ws
        → IsPrefix bytes (flat_map (λ (x : Wrote). x.bytes) ws) → Reads c bytes
    by [] here s k q =
        let f : IsFrontReading streams.Control [] (reading_of bytes) = front_reading streams.Control [] bytes tt (q.0 ++ written streams.Control [], sym (append_assoc bytes q.0 (written streams.Control [])) ∙ ap (λ bs. bs ++ written streams.Control []) q.1) in
        record { frames = each_front (HasFrame c) (reading_of bytes).frames none f.first tt; sound = f.sound }
    by (w ∷ ws) here s k q =
        let are : AreBytesOf c.dialer (flat_map (λ (x : Wrote). x.bytes) (w ∷ ws)) (w ∷ ws) = bytes_are c.dialer (w ∷ ws) s in
        let f : IsFrontReading are.0 (frames_by c.dialer ws) (reading_of bytes) = front_reading are.0 (frames_by c.dialer ws) bytes (are_short c.dialer ws s.1 k.1) (subst (λ bs. IsPrefix bytes bs) are.2 q) in
        record { frames = each_front (HasFrame c) (reading_of bytes).frames (frames_by c.dialer ws) f.first (have_frames c ws (λ i x e. here (suc i) x e) s.1); sound = f.sound }
