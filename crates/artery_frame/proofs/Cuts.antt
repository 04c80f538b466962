-- What is left of the bytes once something at their front was given out.
use Rattle.std.proofs.Common.{Bool, subst, ◌≡◌, ℕ, ◌+◌, ◌-◌, ◌≤◌, List, length, take, drop, refl, sym, ap, ◌∙◌, arith, Option, Some, None, Ok, length-drop}
use Rattle.std.proofs.lemmas.List.{drop-drop, length-take-le}
use Rattle.artery_frame.specs.declared.stream.Stream.{Stream}
use Rattle.artery_frame.specs.declared.fault.FrameFault.{FrameFault}
use Rattle.artery_frame.specs.Stream.{preamble_of}
use Rattle.artery_frame.specs.Kept.{Kept, settled, kept_answer, kept_given, given_by, unless_broken, answer_by, told}

abbrev pub kept : List ℕ → ℕ → ℕ → Option Stream → Option FrameFault → Bool → Kept
kept items from place stream fault room = record { rest = drop from items; place = place; stream = stream; fault = fault; has_room = room }

-- a whole preamble is cut off the front
pub preamble_cut_off : (k : Kept) (items : List ℕ) (from place : ℕ) (stream : Option Stream) (fault : Option FrameFault) (room : Bool) (s : Stream)
    → kept items from place stream fault room ≡ k → stream ≡ None → preamble_of (drop from items) ≡ Ok (Some s)
    → kept items (from + 5) 5 (Some s) fault room ≡ settled k
preamble_cut_off k items from place stream fault room s v n p =
    let P : Kept → Type 0 = λ w. kept items (from + 5) 5 (Some s) fault room ≡ settled w in
    subst P v (rw (n, p) (ap (λ (w : List ℕ). record { rest = w; place = 5; stream = Some s; fault = fault; has_room = room }) (sym (drop-drop 5 from items))))

-- the frame that was found has the length that was found
length_found : (rest : List ℕ) (len : ℕ) → 4 + len ≤ length rest → length (take len (drop 4 rest)) ≡ len
length_found rest len h = length-take-le len (drop 4 rest) (omega (arith, length-drop 4 rest))

found_by : (k : Kept) (fault : Option FrameFault) (frame : List ℕ) → answer_by fault k.stream k.rest ≡ Ok (Some frame)
    → unless_broken fault k (given_by k (answer_by fault k.stream k.rest)) ≡ given_by k (Ok (Some frame))
found_by k (Some f) frame a = cc
found_by k None frame a = rw a refl

-- a frame that was given is cut off the front
pub frame_cut_off : (k : Kept) (items : List ℕ) (from len : ℕ) → k.rest ≡ drop from items
    → kept_answer k ≡ Ok (Some (take len (drop 4 k.rest))) → 4 + len ≤ length k.rest
    → kept_given k ≡ record k { rest = drop (from + 4 + len) items; place = told (k.place + (4 + len)) }
frame_cut_off k items from len r a h =
    found_by k k.fault (take len (drop 4 k.rest)) a
    ∙ (let n = length_found k.rest len h in rw (n, r)
    (let e : drop (4 + len) (drop from items) ≡ drop (from + 4 + len) items = drop-drop (4 + len) from items ∙ ap (λ (i : ℕ). drop i items) (omega arith) in
    ap (λ (w : List ℕ). record k { rest = w; place = told (k.place + (4 + len)) }) e))

-- the frame stands behind its length
pub frame_shown : (items : List ℕ) (from len : ℕ) → take ((from + 4 + len) - (from + 4)) (drop (from + 4) items) ≡ take len (drop 4 (drop from items))
frame_shown items from len =
    ap (λ (i : ℕ). take i (drop (from + 4) items)) (let e : (from + 4 + len) - (from + 4) ≡ len = omega arith in e)
    ∙ ap (take len) (sym (drop-drop 4 from items))
