-- The frames of what comes were written on its connection, at places one after the other.
use Rattle.std.proofs.Common.{◌≡◌, ℕ, zero, suc, ◌+◌, ◌≤◌, true, List, [], ◌∷◌, ◌++◌, length, take, drop, map, refl, sym, ◌∙◌, ap, subst, arith, append_assoc, cond}
use Rattle.std.specs.Prelude.{Option, None, Some, slice_get, IfSome, is_some}
use Rattle.std.specs.List.{flat_map, AllByRecursion}
use Rattle.artery_base.specs.Words.{IsPrefix}
use Rattle.artery_control.specs.declared.control.Control.{Control}
use Rattle.artery_control.specs.declared.control.Control.TheVariants as controls
use Rattle.artery_frame.specs.declared.stream.Stream.{Stream}
use Rattle.artery_frame.specs.declared.stream.Stream.TheVariants as streams
use Rattle.artery_frame.specs.Stream.{written, IsShort, IsFrontReading, reading_of, new_frames}
use Rattle.artery_frame.proofs.Pieces.{front_reading, no_frames}
use Rattle.artery_machine.specs.Deeds.{Writing, Begins, Controls, Sends}
use Rattle.artery_machine.specs.Parts.{whole}
use Rattle.artery_machine.specs.Ways.{Wrote, bytes_on}
use Rattle.artery_machine.specs.Connections.{is_dialed, is_inward}
use Rattle.artery_machine.specs.Ticking.{is_ordinary}
use Rattle.artery_flight.specs.Flight.{is_frame, frame_of, AreFramesBy, IsStreamBy, frames_by, AreBytesOf}
use Rattle.artery_flight.specs.Answers.{IsReadBack}
use Rattle.artery_flight.proofs.Grow.{AllRead, IsAnswerFor, one_placed}
use Rattle.artery_flight.proofs.Facts.{IsTrue, IsTrueControl}
use Rattle.artery_flight.proofs.Streams.{bytes_are}
use Rattle.artery_names.proofs.Lists.{Each, each_weaker, each_get, not_some, Or, First, Second, not_both}
use Rattle.artery_names.proofs.Said.{all_said, sends_said, carried, stream_said}
use Rattle.artery_names.proofs.Facts.{Conn, sent_in}
use Rattle.artery_names.proofs.Hearing.{IsToldBy, IsTold}
use Rattle.artery_names.proofs.Giving.{AllFrames}
use Rattle.artery_names.proofs.Reacting.{frames_in, had_by, Arrives}

-- ---- what was written is true

told_control : (cs : List Conn) (c : Conn) (x : Control) → AllRead cs → IsTrueControl cs c x → IsToldBy cs c x
told_control cs c (controls.HandshakeReq from to its_nonce) a h = h.nonce
told_control cs c (controls.HandshakeRsp from for_uid its_nonce) a h =
    let k : IsAnswerFor from.uid for_uid its_nonce cs = (h a).1 in
    let spot = one_placed (is_dialed k.uid k.nonce) (λ (x : Conn). x.far ≡ from.uid) cs k.reaches in
    record {
      uid = k.uid;
      dial = k.nonce;
      asked = k.asked;
      nonce = k.its;
      far = λ i x e t. each_get (λ (y : Conn). is_dialed k.uid k.nonce y ≡ true → y.far ≡ from.uid) cs i x k.reaches.holds e t;
      made = record { place = spot.place; conn = spot.element; is = spot.here; dialed = spot.passes };
    }
told_control cs c (controls.Quarantined from to) a h = h
told_control cs c (controls.Terminating from) a h = h
told_control cs c (controls.TerminatingAck from) a h = h
told_control cs c (controls.RefsTable from origin_uid version keys values sequence) a h = h
told_control cs c (controls.RefsAck from version sequence) a h = h
told_control cs c (controls.ManifestsTable from origin_uid version keys values sequence) a h = h
told_control cs c (controls.ManifestsAck from version sequence) a h = h
told_control cs c (controls.Numbered n message reply_to) a h = h
told_control cs c (controls.Ack n from) a h = h
told_control cs c (controls.Nack n from) a h = h
told_control cs c controls.Heartbeat a h = h
told_control cs c (controls.HeartbeatRsp uid) a h = h

told_true : (cs : List Conn) (c : Conn) (x : Writing) → AllRead cs → IsTrue cs c x → IsTold cs c x
told_true cs c (Begins stream) a h = h
told_true cs c (Controls control) a h = told_control cs c control a h
told_true cs c (Sends envelope) a h = h

-- ---- lists

each_dropped : {X : Type 0} (P : X → Type 0) (n : ℕ) (xs : List X) → Each P xs → Each P (drop n xs)
each_dropped P zero xs h = h
each_dropped P (suc n) [] h = tt
each_dropped P (suc n) (x ∷ xs) h = each_dropped P n xs h.1

frames_dropped : (uid n : ℕ) (ws : List Wrote) → AreFramesBy uid ws → AreFramesBy uid (drop n ws)
frames_dropped uid zero ws h = h
frames_dropped uid (suc n) [] h = tt
frames_dropped uid (suc n) (w ∷ ws) h = frames_dropped uid n ws h.1

map_dropped : {X Y : Type 0} (f : X → Y) (n : ℕ) (xs : List X) → map f (drop n xs) ≡ drop n (map f xs)
map_dropped f zero xs = refl
map_dropped f (suc n) [] = refl
map_dropped f (suc n) (x ∷ xs) = map_dropped f n xs

place_dropped : {X : Type 0} (n i : ℕ) (xs : List X) (x : X) → slice_get (drop n xs) i ≡ Some x → slice_get xs (n + i) ≡ Some x
place_dropped zero i xs x h = ap (slice_get xs) (let e : 0 + i ≡ i = omega arith in e) ∙ h
place_dropped (suc n) i [] x h = not_some h
place_dropped (suc n) i (y ∷ xs) x h = ap (slice_get (y ∷ xs)) (let e : suc n + i ≡ suc (n + i) = omega arith in e) ∙ place_dropped n i xs x h

cons_first : {X : Type 0} {x y : X} {xs ys : List X} → x ∷ xs ≡ y ∷ ys → x ≡ y
cons_first h = cc

cons_rest : {X : Type 0} {x y : X} {xs ys : List X} → x ∷ xs ≡ y ∷ ys → xs ≡ ys
cons_rest h = cc

prefix_dropped : {X : Type 0} (n : ℕ) (xs ys : List X) → IsPrefix xs ys → IsPrefix (drop n xs) (drop n ys)
prefix_dropped zero xs ys p = p
prefix_dropped (suc n) [] ys p = (drop (suc n) ys, refl)
prefix_dropped {X} (suc n) (x ∷ xs) [] p = nothing p.1
  where
    nothing : {P : Type 0} {zs : List X} → x ∷ zs ≡ [] → P
    nothing e = cc
prefix_dropped (suc n) (x ∷ xs) (y ∷ ys) p = prefix_dropped n xs ys (p.0, cons_rest p.1)

-- ---- frames at places

-- a connection on which a preamble was written and then frames
module _ (u k : ℕ) (cs : List Conn) (place : ℕ) (c : Conn) (is : slice_get cs place ≡ Some c) (inward : is_inward u k c ≡ true) (stream : Option Stream) (carries : stream ≡ carried c.way.all) (begins : sent_in 1 c ≡ 0) where
  all_frames : (p : ℕ) (frames : List (List ℕ)) (us : List Wrote) → IsPrefix frames (frames_by c.dialer us) → ((i : ℕ) (x : Wrote) → slice_get us i ≡ Some x → slice_get c.way.all (p + i) ≡ Some x)
      → AreFramesBy c.dialer us → Each (λ (x : Wrote). IsReadBack c.dialer x.writing) us → Each (λ (x : Wrote). IsTold cs c x.writing) us → AllFrames u k p stream frames cs
  all_frames p [] us f here a r t = tt
  all_frames p (frame ∷ frames) [] f here a r t = nothing f.1
    where
      nothing : {P : Type 0} {zs : List (List ℕ)} → frame ∷ zs ≡ [] → P
      nothing e = cc
  all_frames p (frame ∷ frames) (x ∷ us) f here a r t = (
    record {
      place = place;
      conn = c;
      is = is;
      inward = inward;
      wrote = x;
      here = ap (slice_get c.way.all) (let e : p ≡ p + 0 = omega arith in e) ∙ here 0 x refl;
      framed = a.0.frame;
      bytes = sym (cons_first f.1);
      carries = carries;
      begins = begins;
      read = r.0;
      told = t.0;
    },
    all_frames (p + 1) frames us (f.0, cons_rest f.1) (λ i y e. ap (slice_get c.way.all) (let q : p + 1 + i ≡ p + suc i = omega arith in q) ∙ here (suc i) y e) a.1 r.1 t.1,
  )

-- ---- what comes on a connection

nothing_sent : (w : Wrote) (stream : Stream) → w.writing ≡ Begins stream → (ws : List Wrote) → length (all_said sends_said (take 1 (w ∷ ws))) ≡ 0
nothing_sent w stream e ws = ap (λ (x : Writing). length (sends_said x ++ [])) e

-- frames that are read back are not too long
short_one : (uid : ℕ) (x : Writing) → is_frame x ≡ true → IsReadBack uid x → IsShort (frame_of uid x)
short_one uid (Begins stream) f r = not_both refl (sym f)
short_one uid (Controls control) f r = r.0
short_one uid (Sends envelope) f r = r.0

are_short : (uid : ℕ) (ws : List Wrote) → AreFramesBy uid ws → Each (λ (x : Wrote). IsReadBack uid x.writing) ws → AllByRecursion IsShort (frames_by uid ws)
are_short uid [] h r = tt
are_short uid (w ∷ ws) h r = (short_one uid w.writing h.0.frame r.0, are_short uid ws h.1 r.1)

abbrev none : List (List ℕ)
none = []

-- the reading of the beginning of the bytes of a connection on which nothing was written
pub nothing_read : (bytes : List ℕ) → IsPrefix bytes [] → IsFrontReading streams.Control [] (reading_of bytes)
nothing_read bytes q = front_reading streams.Control [] bytes tt (q.0 ++ written streams.Control [], sym (append_assoc bytes q.0 (written streams.Control [])) ∙ ap (λ bs. bs ++ written streams.Control []) q.1)

-- and where a preamble and frames were
pub front_read : (uid : ℕ) (w : Wrote) (ws : List Wrote) (bytes : List ℕ) → (s : IsStreamBy uid (w ∷ ws)) → Each (λ (x : Wrote). IsReadBack uid x.writing) ws → IsPrefix bytes (flat_map (λ (x : Wrote). x.bytes) (w ∷ ws))
    → (stream : Stream) × (w.writing ≡ Begins stream) × IsFrontReading stream (frames_by uid ws) (reading_of bytes)
front_read uid w ws bytes s r q =
    let are : AreBytesOf uid (flat_map (λ (x : Wrote). x.bytes) (w ∷ ws)) (w ∷ ws) = bytes_are uid (w ∷ ws) s in
    (are.0, are.1, front_reading are.0 (frames_by uid ws) bytes (are_short uid ws s.1 r) (subst (λ bs. IsPrefix bytes bs) are.2 q))

no_prefix : (frames : List (List ℕ)) → IsPrefix frames none → frames ≡ none
no_prefix [] p = refl
no_prefix (x ∷ frames) p = nothing p.1
  where
    nothing : {P : Type 0} {zs : List (List ℕ)} → x ∷ zs ≡ [] → P
    nothing e = cc

nothing_dropped : (n : ℕ) → drop n none ≡ none
nothing_dropped zero = refl
nothing_dropped (suc n) = refl

-- the frames that a piece completes, on the connection to which they come
module _ (u k : ℕ) (cs : List Conn) (place : ℕ) (c : Conn) (is : slice_get cs place ≡ Some c) (inward : is_inward u k c ≡ true) (read : AllRead cs) (s : IsStreamBy c.dialer c.way.all) (r : Each (λ (x : Wrote). IsReadBack c.dialer x.writing) c.way.all)
    (t : Each (λ (x : Wrote). IsTrue cs c x.writing) c.way.all) (bytes piece left : List ℕ) (p : IsPrefix (bytes ++ piece) (bytes_on c.way)) where
  abbrev AllOf : List (List ℕ) → Option Stream → Type 0
  AllOf frames stream = AllFrames u k (frames_in bytes + 1) stream frames cs

  frames_come : AllFrames u k (frames_in bytes + 1) (reading_of (bytes ++ piece)).stream (new_frames bytes piece) cs
  frames_come = by c.way.all refl s r t (subst (λ bs. IsPrefix (bytes ++ piece) bs) refl p)
    where
      empty : (frames : List (List ℕ)) (stream : Option Stream) → frames ≡ none → AllOf (drop (frames_in bytes) frames) stream
      empty frames stream e = subst (λ l. AllOf l stream) (sym (ap (drop (frames_in bytes)) e ∙ nothing_dropped (frames_in bytes))) tt

      by : (ws : List Wrote) → c.way.all ≡ ws → IsStreamBy c.dialer ws → Each (λ (x : Wrote). IsReadBack c.dialer x.writing) ws → Each (λ (x : Wrote). IsTrue cs c x.writing) ws → IsPrefix (bytes ++ piece) (flat_map (λ (x : Wrote). x.bytes) ws)
          → AllOf (new_frames bytes piece) (reading_of (bytes ++ piece)).stream
      by [] all a b d q = empty (reading_of (bytes ++ piece)).frames (reading_of (bytes ++ piece)).stream (no_prefix (reading_of (bytes ++ piece)).frames (nothing_read (bytes ++ piece) q).first)
      by (w ∷ ws) all a b d q = at_stream (reading_of (bytes ++ piece)).stream refl
        where
          f : (stream : Stream) × (w.writing ≡ Begins stream) × IsFrontReading stream (frames_by c.dialer ws) (reading_of (bytes ++ piece))
          f = front_read c.dialer w ws (bytes ++ piece) a b.1 q

          at_stream : (x : Option Stream) → (reading_of (bytes ++ piece)).stream ≡ x → AllOf (new_frames bytes piece) (reading_of (bytes ++ piece)).stream
          at_stream None e = empty (reading_of (bytes ++ piece)).frames (reading_of (bytes ++ piece)).stream (no_frames (bytes ++ piece) e)
          at_stream (Some x) e =
              let same : x ≡ f.0 = subst (λ (o : Option Stream). IfSome o (λ y. y ≡ f.0)) e f.2.carried in
              let carries : (reading_of (bytes ++ piece)).stream ≡ carried c.way.all = e ∙ ap Some same ∙ sym (ap carried all ∙ ap stream_said f.1) in
              all_frames u k cs place c is inward (reading_of (bytes ++ piece)).stream carries
              (ap (λ (xs : List Wrote). length (all_said sends_said (take 1 xs))) all ∙ nothing_sent w f.0 f.1 ws)
              (frames_in bytes + 1) (new_frames bytes piece) (drop (frames_in bytes) ws)
              (subst (λ l. IsPrefix (new_frames bytes piece) l) (sym (map_dropped (λ (y : Wrote). frame_of c.dialer y.writing) (frames_in bytes) ws)) (prefix_dropped (frames_in bytes) (reading_of (bytes ++ piece)).frames (frames_by c.dialer ws) f.2.first))
              (λ i y h. ap (λ (xs : List Wrote). slice_get xs (frames_in bytes + 1 + i)) all
              ∙ ap (slice_get (w ∷ ws)) (let n : frames_in bytes + 1 + i ≡ suc (frames_in bytes + i) = omega arith in n) ∙ place_dropped (frames_in bytes) i ws y h)
              (frames_dropped c.dialer (frames_in bytes) ws a.1)
              (each_dropped _ (frames_in bytes) ws b.1)
              (each_dropped (λ (y : Wrote). IsTold cs c y.writing) (frames_in bytes) ws (each_weaker _ _ (λ (y : Wrote) h. told_true cs c y.writing read h) ws d.1))

  read_sound : (reading_of bytes).end ≡ None
  read_sound = by c.way.all s r (front (subst (λ bs. IsPrefix (bytes ++ piece) bs) refl p))
    where
      front : {all : List ℕ} → IsPrefix (bytes ++ piece) all → IsPrefix bytes all
      front q = (piece ++ q.0, sym (append_assoc bytes piece q.0) ∙ q.1)

      by : (ws : List Wrote) → IsStreamBy c.dialer ws → Each (λ (x : Wrote). IsReadBack c.dialer x.writing) ws → IsPrefix bytes (flat_map (λ (x : Wrote). x.bytes) ws) → (reading_of bytes).end ≡ None
      by [] a b q = (nothing_read bytes q).sound
      by (w ∷ ws) a b q = (front_read c.dialer w ws bytes a b.1 q).2.sound

  pub arrives_so : Arrives u k piece bytes cs
  arrives_so = record {
    sound = read_sound;
    frames = subst (λ (bs : List ℕ). AllOf (new_frames bytes piece) (reading_of bs).stream) (sym (ap (λ x. cond (is_some x) bytes (bytes ++ piece)) read_sound)) frames_come;
  }

-- what came on a connection says what it carries
pub carries_so : (c : Conn) → IsStreamBy c.dialer c.way.all → Each (λ (x : Wrote). IsReadBack c.dialer x.writing) c.way.all → (bytes : List ℕ) → IsPrefix bytes (bytes_on c.way) → 1 ≤ had_by (frames_in bytes)
    → Or (carried c.way.all ≡ Some streams.Control) (is_ordinary (whole.carries bytes) ≡ true)
carries_so c s r bytes p some = by c.way.all s r (subst (λ bs. IsPrefix bytes bs) refl p)
  where
    not_none : (reading_of bytes).frames ≡ none → ⊥
    not_none e = (let z : had_by (frames_in bytes) ≡ 0 = ap (λ l. had_by (length l)) e in let f : ⊥ = omega arith in f)

    by : (ws : List Wrote) → IsStreamBy c.dialer ws → Each (λ (x : Wrote). IsReadBack c.dialer x.writing) ws → IsPrefix bytes (flat_map (λ (x : Wrote). x.bytes) ws) → Or (carried ws ≡ Some streams.Control) (is_ordinary (whole.carries bytes) ≡ true)
    by [] a b q = absurd (not_none (no_prefix (reading_of bytes).frames (nothing_read bytes q).first))
    by (w ∷ ws) a b q = at_stream (reading_of bytes).stream refl
      where
        f : (stream : Stream) × (w.writing ≡ Begins stream) × IsFrontReading stream (frames_by c.dialer ws) (reading_of bytes)
        f = front_read c.dialer w ws bytes a b.1 q

        which : (x : Stream) → x ≡ f.0 → (reading_of bytes).stream ≡ Some x → Or (stream_said w.writing ≡ Some streams.Control) (is_ordinary (reading_of bytes).stream ≡ true)
        which streams.Control e h = First (ap stream_said f.1 ∙ ap Some (sym e))
        which streams.Ordinary e h = Second (ap is_ordinary h)

        at_stream : (x : Option Stream) → (reading_of bytes).stream ≡ x → Or (stream_said w.writing ≡ Some streams.Control) (is_ordinary (reading_of bytes).stream ≡ true)
        at_stream None e = absurd (not_none (no_frames bytes e))
        at_stream (Some x) e = which x (subst (λ (o : Option Stream). IfSome o (λ y. y ≡ f.0)) e f.2.carried) e
