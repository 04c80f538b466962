-- What stands at the front of some bytes.
use Rattle.std.proofs.Common.{◌≡◌, ◌≢◌, ℕ, ◌≤◌, ltb, List, ◌++◌, length, take, drop, refl, sym, ap, subst, ◌∙◌, arith, Option, Some, None, Result, Ok, Err, length-drop, length-append}
use Rattle.std.proofs.lemmas.List.{length-take-le, get_or_append_left, drop-append-le, take-append-le}
use Rattle.std.proofs.lemmas.Bool.{cond_both, le-ltb, ltb-true, ltb-false, cond-false}
use Rattle.byteorder.specs.Endian.{little_number}
use Rattle.artery_frame.specs.declared.fault.FrameFault.{FrameFault}
use Rattle.artery_frame.specs.declared.fault.FrameFault.TheVariants.{BadMagic, BadStream, TooLong}
use Rattle.artery_frame.specs.Stream.{frame_limit, front_of, front_by, BeginsWith, Ends, fault_of}

-- what a front says
abbrev pub Says : List ℕ → Result (Option (List ℕ)) FrameFault → Type 0
Says bytes (Ok (Some frame)) = BeginsWith frame bytes
Says bytes (Ok None) = Ends bytes None
Says bytes (Err fault) = Ends bytes (Some fault)

-- it says so
pub front_says : (bytes : List ℕ) → Says bytes (front_of bytes)
unfolding front_of
front_says bytes =
    cond_both (ltb (length bytes) 4) (Ok None) (front_by (little_number 4 bytes) (drop 4 bytes)) (Says bytes)
    (λ short four. absurd (omega (arith, ltb-true _ _ short)))
    (λ four. cond_both (ltb frame_limit (little_number 4 bytes)) (Err (TooLong (little_number 4 bytes))) _ (Says bytes)
    (λ long. (ltb-false _ _ four, refl, ltb-true _ _ long))
    (λ fits. cond_both (ltb (length (drop 4 bytes)) (little_number 4 bytes)) (Ok None) (Ok (Some (take (little_number 4 bytes) (drop 4 bytes)))) (Says bytes)
    (λ part _. (ltb-false _ _ fits, omega (arith, ltb-true _ _ part, length-drop 4 bytes, ltb-false _ _ four)))
    (λ whole.
    let size : length (take (little_number 4 bytes) (drop 4 bytes)) ≡ little_number 4 bytes = length-take-le (little_number 4 bytes) (drop 4 bytes) (ltb-false _ _ whole) in
    record {
      limit = rw size (ltb-false _ _ fits);
      spelled = sym size;
      whole = rw size (omega (arith, ltb-false _ _ whole, length-drop 4 bytes, ltb-false _ _ four));
      same = rw size refl;
    })))

-- a frame that stands there is the front
pub front_begins : (frame bytes : List ℕ) → BeginsWith frame bytes → front_of bytes ≡ Ok (Some frame)
unfolding front_of
front_begins frame bytes b =
    cond-false _ _ _ (le-ltb (length bytes) 4 (omega (arith, b.whole)))
    ∙ cond-false _ _ _ (le-ltb frame_limit (little_number 4 bytes) (rw b.spelled b.limit))
    ∙ cond-false _ _ _ (le-ltb (length (drop 4 bytes)) (little_number 4 bytes) (rw b.spelled (omega (arith, b.whole, length-drop 4 bytes))))
    ∙ ap (λ (f : List ℕ). Ok (Some f)) (rw b.spelled b.same)

-- what ends so has no whole frame at its front
pub front_ends : (bytes : List ℕ) (end : Option FrameFault) → Ends bytes end → (front : Result (Option (List ℕ)) FrameFault) → Says bytes front → fault_of front ≡ end
front_ends bytes None e (Ok None) s = refl
front_ends bytes None e (Ok (Some frame)) s = absurd (let h = e (omega (arith, s.whole)) in omega (arith, h.0, h.1, s.whole, s.spelled))
front_ends bytes None e (Err (TooLong len)) s = absurd (let h = e s.0 in omega (arith, h.0, s.1, s.2))
front_ends bytes None e (Err (BadMagic at)) s = absurd s
front_ends bytes None e (Err (BadStream id)) s = absurd s
front_ends bytes (Some (BadMagic at)) e front s = absurd e
front_ends bytes (Some (BadStream id)) e front s = absurd e
front_ends bytes (Some (TooLong len)) e (Ok None) s = absurd (let h = s e.0 in omega (arith, h.0, e.1, e.2))
front_ends bytes (Some (TooLong len)) e (Ok (Some frame)) s = absurd (omega (arith, s.limit, s.spelled, e.1, e.2))
front_ends bytes (Some (TooLong len)) e (Err (TooLong n)) s = ap (λ (m : ℕ). Some (TooLong m)) (sym s.1 ∙ e.1)
front_ends bytes (Some (TooLong len)) e (Err (BadMagic at)) s = absurd s
front_ends bytes (Some (TooLong len)) e (Err (BadStream id)) s = absurd s

pub no_frame_ends : (bytes : List ℕ) (end : Option FrameFault) → Ends bytes end → (front : Result (Option (List ℕ)) FrameFault) → Says bytes front → (frame : List ℕ) → front ≢ Ok (Some frame)
no_frame_ends bytes None e (Ok (Some f)) s frame h = let k = e (omega (arith, s.whole)) in omega (arith, k.0, k.1, s.whole, s.spelled)
no_frame_ends bytes None e (Ok None) s frame h = cc
no_frame_ends bytes None e (Err fault) s frame h = cc
no_frame_ends bytes (Some (BadMagic at)) e front s frame h = e
no_frame_ends bytes (Some (BadStream id)) e front s frame h = e
no_frame_ends bytes (Some (TooLong len)) e (Ok (Some f)) s frame h = omega (arith, s.limit, s.spelled, e.1, e.2)
no_frame_ends bytes (Some (TooLong len)) e (Ok None) s frame h = cc
no_frame_ends bytes (Some (TooLong len)) e (Err fault) s frame h = cc

-- the number at the front stays, whatever follows
number_stays : (bytes more : List ℕ) → 4 ≤ length bytes → little_number 4 (bytes ++ more) ≡ little_number 4 bytes
number_stays bytes more h =
    rw (get_or_append_left bytes more 0 0 (omega arith), get_or_append_left bytes more 0 1 (omega arith), get_or_append_left bytes more 0 2 (omega arith), get_or_append_left bytes more 0 3 (omega arith)) refl

-- so does too long a length
pub long_stays : (rest more : List ℕ) (end : Option FrameFault) (fault : FrameFault) → end ≡ Some fault → Ends rest end → Ends (rest ++ more) end
long_stays rest more None fault e h = absurd (cc)
long_stays rest more (Some (TooLong len)) fault e h = (omega (arith, h.0, length-append rest more), number_stays rest more h.0 ∙ h.1, h.2)
long_stays rest more (Some (BadMagic at)) fault e h = h
long_stays rest more (Some (BadStream id)) fault e h = h

-- a frame at the front stays, whatever follows
pub begins_stays : (frame bytes more : List ℕ) → BeginsWith frame bytes → BeginsWith frame (bytes ++ more)
begins_stays frame bytes more b = record {
  limit = b.limit;
  spelled = number_stays bytes more (omega (arith, b.whole)) ∙ b.spelled;
  whole = omega (arith, b.whole, length-append bytes more);
  same = ap (take (length frame)) (drop-append-le 4 bytes more (omega (arith, b.whole)))
      ∙ take-append-le (length frame) (drop 4 bytes) more (omega (arith, b.whole, length-drop 4 bytes)) ∙ b.same;
}

-- the frame that is the front stands there
pub begins_front : (frame bytes : List ℕ) → front_of bytes ≡ Ok (Some frame) → BeginsWith frame bytes
begins_front frame bytes e = let P : Result (Option (List ℕ)) FrameFault → Type 0 = Says bytes in subst P e (front_says bytes)

-- a fault of the front is too long a length
pub front_fault : (bytes : List ℕ) (fault : FrameFault) → front_of bytes ≡ Err fault → (len : ℕ) × (fault ≡ TooLong len)
front_fault bytes fault e = let P : Result (Option (List ℕ)) FrameFault → Type 0 = Says bytes in by_fault fault (subst P e (front_says bytes)) where
  by_fault : (f : FrameFault) → Ends bytes (Some f) → (len : ℕ) × (f ≡ TooLong len)
  by_fault (TooLong len) h = (len, refl)
  by_fault (BadMagic at) h = absurd h
  by_fault (BadStream id) h = absurd h
