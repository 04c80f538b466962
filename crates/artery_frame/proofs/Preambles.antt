-- What the first five bytes of a stream say.
use Rattle.std.proofs.Common.{◌≡◌, ◌≢◌, ℕ, zero, suc, ◌+◌, ◌<◌, ◌≤◌, Bool, true, false, cond, eqb, List, [], ◌∷◌, ◌++◌, length, refl, ap, subst, ◌∙◌, inl, inr, arith, Option, Some, None, Result, Ok, Err}
use Rattle.std.proofs.lemmas.Bool.{cond_both, eqb-true, eqb-false, ne_eqb, cases_lt}
use Rattle.std.proofs.lemmas.Option.{slice_get_past, slice_get_within, slice_get-get_or}
use Rattle.std.specs.Prelude.{slice_get}
use Rattle.artery_frame.specs.declared.stream.Stream.{Stream}
use Rattle.artery_frame.specs.declared.stream.Stream.TheVariants.{Control, Ordinary}
use Rattle.artery_frame.specs.declared.fault.FrameFault.{FrameFault}
use Rattle.artery_frame.specs.declared.fault.FrameFault.TheVariants.{BadMagic, BadStream, TooLong}
use Rattle.artery_frame.specs.Stream.{magic, id_of, mismatch, preamble_of, preamble_by, place_of, HasNoId}
use Rattle.artery_frame.specs.Kept.{told, fault_place}

-- what the first bytes say
abbrev pub Tells : List ℕ → Result (Option Stream) FrameFault → Type 0
Tells bytes (Ok None) = HasNoId bytes 0 None
Tells bytes (Err fault) = HasNoId bytes (place_of fault) (Some fault)
Tells bytes (Ok (Some stream)) = (mismatch 0 magic bytes ≡ None) × (slice_get bytes 4 ≡ Some (id_of stream))

none_short : (bytes : List ℕ) (n : ℕ) → slice_get bytes n ≡ None → length bytes < n + 1
none_short bytes n e = elim (cases_lt n (length bytes)) [ inl h ↦ absurd (let s = slice_get-get_or bytes n 0 h in cc) | inr h ↦ omega arith ]

tells_by : (bytes : List ℕ) (m i : Option ℕ) → mismatch 0 magic bytes ≡ m → slice_get bytes 4 ≡ i → Tells bytes (preamble_by m i)
tells_by bytes (Some at) i m e = (m, refl)
tells_by bytes None None m e = (m, none_short bytes 4 e, refl)
tells_by bytes None (Some id) m e =
    cond_both (eqb id 1) (Ok (Some Control)) _ (Tells bytes)
    (λ one. (m, e ∙ ap (λ (n : ℕ). Some n) (eqb-true id 1 one)))
    (λ not_one. cond_both (eqb id 2) (Ok (Some Ordinary)) (Err (BadStream id)) (Tells bytes)
    (λ two. (m, e ∙ ap (λ (n : ℕ). Some n) (eqb-true id 2 two)))
    (λ not_two. (m, e, eqb-false id 1 not_one, eqb-false id 2 not_two, refl)))

pub preamble_tells : (bytes : List ℕ) → Tells bytes (preamble_of bytes)
unfolding preamble_of
preamble_tells bytes = tells_by bytes (mismatch 0 magic bytes) (slice_get bytes 4) refl refl

-- which is all that they can say
pub preamble_none : (bytes : List ℕ) → mismatch 0 magic bytes ≡ None → length bytes < 5 → preamble_of bytes ≡ Ok None
unfolding preamble_of
preamble_none bytes m h = rw (m, slice_get_past bytes 4 (omega arith)) refl

made_by : (stream : Stream) (m i : Option ℕ) → m ≡ None → i ≡ Some (id_of stream) → preamble_by m i ≡ Ok (Some stream)
made_by Control m i e f = rw (e, f) refl
made_by Ordinary m i e f = rw (e, f) refl

pub preamble_made : (bytes : List ℕ) (stream : Stream) → mismatch 0 magic bytes ≡ None → slice_get bytes 4 ≡ Some (id_of stream) → preamble_of bytes ≡ Ok (Some stream)
unfolding preamble_of
preamble_made bytes stream m i = made_by stream (mismatch 0 magic bytes) (slice_get bytes 4) m i

pub preamble_magic : (bytes : List ℕ) (at : ℕ) → mismatch 0 magic bytes ≡ Some at → preamble_of bytes ≡ Err (BadMagic at)
unfolding preamble_of
preamble_magic bytes at m = rw m refl

pub preamble_stream : (bytes : List ℕ) (id : ℕ) → mismatch 0 magic bytes ≡ None → slice_get bytes 4 ≡ Some id → id ≢ 1 → id ≢ 2 → preamble_of bytes ≡ Err (BadStream id)
unfolding preamble_of
preamble_stream bytes id m i one two = rw (m, i, ne_eqb id 1 one, ne_eqb id 2 two) refl

-- a whole preamble
pub preamble_whole : (bytes : List ℕ) (stream : Stream) → preamble_of bytes ≡ Ok (Some stream) → Tells bytes (Ok (Some stream))
preamble_whole bytes stream e = let P : Result (Option Stream) FrameFault → Type 0 = Tells bytes in subst P e (preamble_tells bytes)

pub preamble_len : (bytes : List ℕ) (stream : Stream) → preamble_of bytes ≡ Ok (Some stream) → 5 ≤ length bytes
preamble_len bytes stream e = let h = slice_get_within bytes 4 _ (preamble_whole bytes stream e).1 in omega arith

pub preamble_short : (bytes : List ℕ) → preamble_of bytes ≡ Ok None → length bytes < 5
preamble_short bytes e = let P : Result (Option Stream) FrameFault → Type 0 = Tells bytes in (subst P e (preamble_tells bytes)).1

-- what was told stays, whatever follows
mismatch_stays : (at : ℕ) (wanted bytes more : List ℕ) → length wanted ≤ length bytes → mismatch at wanted (bytes ++ more) ≡ mismatch at wanted bytes
mismatch_stays at [] bytes more h = refl
mismatch_stays at (w ∷ wanted) [] more h = absurd (omega arith)
mismatch_stays at (w ∷ wanted) (byte ∷ bytes) more h = ap (λ (o : Option ℕ). cond (eqb byte w) o (Some at)) (mismatch_stays (at + 1) wanted bytes more (omega arith))

place_stays : (at : ℕ) (wanted bytes more : List ℕ) (place : ℕ) → mismatch at wanted bytes ≡ Some place → mismatch at wanted (bytes ++ more) ≡ Some place
place_stays at [] bytes more place e = cc
place_stays at (w ∷ wanted) [] more place e = absurd (cc)
place_stays at (w ∷ wanted) (byte ∷ bytes) more place e = by_test (eqb byte w) (place_stays (at + 1) wanted bytes more place) e where
  by_test : (b : Bool) → (mismatch (at + 1) wanted bytes ≡ Some place → mismatch (at + 1) wanted (bytes ++ more) ≡ Some place)
      → cond b (mismatch (at + 1) wanted bytes) (Some at) ≡ Some place → cond b (mismatch (at + 1) wanted (bytes ++ more)) (Some at) ≡ Some place
  by_test true f e = f e
  by_test false f e = e

slice_get_stays : (bytes more : List ℕ) (i x : ℕ) → slice_get bytes i ≡ Some x → slice_get (bytes ++ more) i ≡ Some x
slice_get_stays [] more i x e = absurd (cc)
slice_get_stays (b ∷ bytes) more zero x e = e
slice_get_stays (b ∷ bytes) more (suc i) x e = slice_get_stays bytes more i x e

pub preamble_stays : (bytes more : List ℕ) (stream : Stream) → preamble_of bytes ≡ Ok (Some stream) → preamble_of (bytes ++ more) ≡ Ok (Some stream)
preamble_stays bytes more stream e =
    let w = preamble_whole bytes stream e in
    preamble_made (bytes ++ more) stream (mismatch_stays 0 magic bytes more (omega (arith, preamble_len bytes stream e)) ∙ w.0) (slice_get_stays bytes more 4 _ w.1)

fault_by : (bytes more : List ℕ) (fault : FrameFault) → Tells bytes (Err fault) → preamble_of (bytes ++ more) ≡ Err fault
fault_by bytes more (BadMagic at) t = preamble_magic (bytes ++ more) at (place_stays 0 magic bytes more at t.0)
fault_by bytes more (BadStream id) t =
    preamble_stream (bytes ++ more) id (mismatch_stays 0 magic bytes more (let h = slice_get_within bytes 4 id t.1 in omega arith) ∙ t.0) (slice_get_stays bytes more 4 id t.1) t.2 t.3
fault_by bytes more (TooLong len) t = absurd t

pub fault_stays : (bytes more : List ℕ) (fault : FrameFault) → preamble_of bytes ≡ Err fault → preamble_of (bytes ++ more) ≡ Err fault
fault_stays bytes more fault e = let P : Result (Option Stream) FrameFault → Type 0 = Tells bytes in fault_by bytes more fault (subst P e (preamble_tells bytes))

-- the place of a fault is told whole
mismatch_below : (at : ℕ) (wanted bytes : List ℕ) (place : ℕ) → mismatch at wanted bytes ≡ Some place → place < at + length wanted
mismatch_below at [] bytes place e = absurd (cc)
mismatch_below at (w ∷ wanted) [] place e = absurd (cc)
mismatch_below at (w ∷ wanted) (byte ∷ bytes) place e = by_test (eqb byte w) (mismatch_below (at + 1) wanted bytes place) e where
  by_test : (b : Bool) → (mismatch (at + 1) wanted bytes ≡ Some place → place < (at + 1) + length wanted)
      → cond b (mismatch (at + 1) wanted bytes) (Some at) ≡ Some place → place < at + suc (length wanted)
  by_test true f e = omega (arith, f e)
  by_test false f e = let s : at ≡ place = cc in omega arith

place_by : (bytes : List ℕ) (fault : FrameFault) → Tells bytes (Err fault) → (place : ℕ) → fault_place fault place ≡ told (place_of fault)
place_by bytes (BadMagic at) t place = omega (arith, mismatch_below 0 magic bytes at t.0)
place_by bytes (BadStream id) t place = refl
place_by bytes (TooLong len) t place = absurd t

pub preamble_place : (bytes : List ℕ) (fault : FrameFault) → preamble_of bytes ≡ Err fault → (place : ℕ) → fault_place fault place ≡ told (place_of fault)
preamble_place bytes fault e = let P : Result (Option Stream) FrameFault → Type 0 = Tells bytes in place_by bytes fault (subst P e (preamble_tells bytes))
