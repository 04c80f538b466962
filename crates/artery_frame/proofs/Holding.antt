-- How much is held: no whole preamble, and where nothing is given less than a frame with its length.
use Rattle.std.proofs.Common.{◌≡◌, ℕ, ◌+◌, ◌<◌, ◌≤◌, Bool, false, List, [], ◌++◌, length, drop, refl, sym, ap, subst, ◌∙◌, arith, inl, inr, Option, Some, None, Result, Ok, Err, length-drop}
use Rattle.std.proofs.lemmas.Bool.{cases_lt}
use Rattle.std.proofs.lemmas.List.{drop-drop}
use Rattle.artery_frame.specs.declared.stream.Stream.{Stream}
use Rattle.artery_frame.specs.declared.fault.FrameFault.{FrameFault}
use Rattle.artery_frame.specs.Stream.{preamble_of, front_of}
use Rattle.artery_frame.specs.Kept.{Kept, nothing_kept, IsSettledBy, IsSettled, new_stream, after_preamble, settled_by, settled, kept_fed, preamble_answer, answer_by, kept_answer, given_by, unless_broken, kept_given, LeavesHeld}
use Rattle.artery_frame.proofs.Fronts.{Says, front_says, begins_front}
use Rattle.artery_frame.proofs.Preambles.{preamble_short}

abbrev pub of_parts : List ℕ → ℕ → Option Stream → Option FrameFault → Bool → Kept
of_parts rest place stream fault room = record { rest = rest; place = place; stream = stream; fault = fault; has_room = room }

-- nothing says nothing
nothing_told : preamble_of [] ≡ Ok None
unfolding preamble_of
nothing_told = refl

pub nothing_settled : (rest : List ℕ) → rest ≡ [] → IsSettledBy None rest
nothing_settled rest e stream p = let k : preamble_of [] ≡ Ok (Some stream) = ap preamble_of (sym e) ∙ p in let n = nothing_told in cc

pub starts_settled : (room : Bool) → IsSettled (nothing_kept room)
starts_settled room = nothing_settled [] refl

-- where no stream is told now, all stays and is settled
settled_same : (k : Kept) (p : Result (Option Stream) FrameFault) (known : Option Stream) → preamble_of k.rest ≡ p → k.stream ≡ known → new_stream known p ≡ None
    → (settled_by k known ≡ k) × IsSettledBy known k.rest
settled_same k p (Some known) e s n = (refl, tt)
settled_same k (Ok None) None e s n = (ap (after_preamble k) e, λ stream f. absurd cc)
settled_same k (Ok (Some x)) None e s n = absurd cc
settled_same k (Err fault) None e s n = (ap (after_preamble k) e, λ stream f. absurd cc)

pub none_told : (k : Kept) → new_stream k.stream (preamble_of k.rest) ≡ None → settled k ≡ k
none_told k n = (settled_same k (preamble_of k.rest) k.stream refl refl n).0

pub none_settled : (known : Option Stream) (rest : List ℕ) → new_stream known (preamble_of rest) ≡ None → IsSettledBy known rest
none_settled known rest n = (settled_same (of_parts rest 0 known None false) (preamble_of rest) known refl refl n).1

-- where one is told, the preamble is given out
told_by : (k : Kept) (p : Result (Option Stream) FrameFault) (known : Option Stream) (stream : Stream) → preamble_of k.rest ≡ p → new_stream known p ≡ Some stream
    → settled_by k known ≡ record k { rest = drop 5 k.rest; place = 5; stream = Some stream }
told_by k p (Some known) stream e n = absurd cc
told_by k (Ok None) None stream e n = absurd cc
told_by k (Ok (Some x)) None stream e n = let same : x ≡ stream = cc in ap (after_preamble k) e ∙ ap (λ (s : Stream). record k { rest = drop 5 k.rest; place = 5; stream = Some s }) same
told_by k (Err fault) None stream e n = absurd cc

pub one_told : (k : Kept) (stream : Stream) → new_stream k.stream (preamble_of k.rest) ≡ Some stream → settled k ≡ record k { rest = drop 5 k.rest; place = 5; stream = Some stream }
one_told k stream n = told_by k (preamble_of k.rest) k.stream stream refl n

pub piece_told : (k : Kept) (piece items : List ℕ) (from place : ℕ) (known : Option Stream) (fault : Option FrameFault) (room : Bool) (stream : Stream)
    → of_parts (drop from items) place known fault room ≡ record k { rest = k.rest ++ piece } → new_stream known (preamble_of (drop from items)) ≡ Some stream
    → of_parts (drop (from + 5) items) 5 (Some stream) fault room ≡ kept_fed piece k
piece_told k piece items from place known fault room stream view told =
    let P : Kept → Type 0 = λ w. of_parts (drop (from + 5) items) 5 (Some stream) fault room ≡ settled w in
    subst P view (ap (λ (rest : List ℕ). of_parts rest 5 (Some stream) fault room) (sym (drop-drop 5 from items)) ∙ sym (one_told (of_parts (drop from items) place known fault room) stream told))

-- a piece that was taken has been looked at
settled_so : (k : Kept) (p : Result (Option Stream) FrameFault) → preamble_of k.rest ≡ p → k.stream ≡ None → IsSettled (after_preamble k p)
settled_so k (Ok (Some s)) e n = tt
settled_so k (Ok None) e n = rw n (λ stream f. absurd cc)
settled_so k (Err x) e n = rw n (λ stream f. absurd cc)

settled_from : (rest : List ℕ) (place : ℕ) (known : Option Stream) (fault : Option FrameFault) (room : Bool) → IsSettled (settled_by (of_parts rest place known fault room) known)
settled_from rest place (Some s) fault room = tt
settled_from rest place None fault room = settled_so (of_parts rest place None fault room) (preamble_of rest) refl refl

pub fed_settled : (k : Kept) (piece : List ℕ) → IsSettled (kept_fed piece k)
fed_settled k piece = settled_from (k.rest ++ piece) k.place k.stream k.fault k.has_room

-- and stays so
given_from : (rest : List ℕ) (place : ℕ) (known : Option Stream) (fault : Option FrameFault) (room : Bool) → IsSettledBy known rest → IsSettled (kept_given (of_parts rest place known fault room))
given_from rest place known (Some f) room h = h
given_from rest place None None room h = by_preamble (preamble_of rest) where
  by_preamble : (p : Result (Option Stream) FrameFault) → IsSettled (given_by (of_parts rest place None None room) (preamble_answer p))
  by_preamble (Ok x) = h
  by_preamble (Err x) = h
given_from rest place (Some s) None room h = by_front (front_of rest) where
  by_front : (a : Result (Option (List ℕ)) FrameFault) → IsSettled (given_by (of_parts rest place (Some s) None room) a)
  by_front (Ok (Some frame)) = tt
  by_front (Ok None) = tt
  by_front (Err fault) = tt

pub given_settled : (k : Kept) → IsSettled k → IsSettled (kept_given k)
given_settled k h = given_from k.rest k.place k.stream k.fault k.has_room h

-- a frame is given only of a stream that is known
frame_known : (rest : List ℕ) (known : Option Stream) (fault : Option FrameFault) (frame : List ℕ) → answer_by fault known rest ≡ Ok (Some frame) → (stream : Stream) × (known ≡ Some stream)
frame_known rest known (Some f) frame e = absurd cc
frame_known rest (Some s) None frame e = (s, refl)
frame_known rest None None frame e = absurd (never (preamble_of rest) e) where
  never : (p : Result (Option Stream) FrameFault) → preamble_answer p ≡ Ok (Some frame) → ⊥
  never (Ok x) w = cc
  never (Err x) w = cc

pub frame_settled : (k : Kept) (frame rest : List ℕ) → kept_answer k ≡ Ok (Some frame) → IsSettledBy k.stream rest
frame_settled k frame rest e = let s = frame_known k.rest k.stream k.fault frame e in rw s.1 tt

-- a frame that was given is no longer held
whole_frame : (rest : List ℕ) (known : Option Stream) (fault : Option FrameFault) (frame : List ℕ) → answer_by fault known rest ≡ Ok (Some frame) → 4 + length frame ≤ length rest
whole_frame rest known (Some f) frame e = absurd cc
whole_frame rest (Some s) None frame e = (begins_front frame rest e).whole
whole_frame rest None None frame e = absurd (let s = frame_known rest None None frame e in let n = s.1 in cc)

leaves_by : (k : Kept) (fault : Option FrameFault) (answer : Result (Option (List ℕ)) FrameFault) → answer_by fault k.stream k.rest ≡ answer
    → LeavesHeld answer k.rest (unless_broken fault k (given_by k answer)).rest
leaves_by k (Some f) (Ok x) e = absurd cc
leaves_by k (Some f) (Err x) e = refl
leaves_by k None (Ok None) e = refl
leaves_by k None (Err x) e = refl
leaves_by k None (Ok (Some frame)) e = omega (arith, whole_frame k.rest k.stream None frame e, length-drop (4 + length frame) k.rest)

pub leaves : (k : Kept) → LeavesHeld (kept_answer k) k.rest (kept_given k).rest
leaves k = leaves_by k k.fault (kept_answer k) refl

-- where nothing is given, less than a frame with its length is held
small_front : (rest : List ℕ) → front_of rest ≡ Ok None → length rest < 262148
small_front rest e =
    let P : Result (Option (List ℕ)) FrameFault → Type 0 = Says rest in
    let s : Says rest (Ok None) = subst P e (front_says rest) in
    elim (cases_lt (length rest) 4) [ inl h ↦ omega arith | inr h ↦ (let t = s h in omega (arith, t.0, t.1)) ]

small_first : (rest : List ℕ) (p : Result (Option Stream) FrameFault) → preamble_of rest ≡ p → IsSettledBy None rest → preamble_answer p ≡ Ok None → length rest < 262148
small_first rest (Ok None) e h a = let short : length rest < 5 = preamble_short rest e in omega arith
small_first rest (Ok (Some s)) e h a = absurd (h s e)
small_first rest (Err x) e h a = absurd cc

small_from : (rest : List ℕ) (known : Option Stream) (fault : Option FrameFault) → IsSettledBy known rest → answer_by fault known rest ≡ Ok None → length rest < 262148
small_from rest known (Some f) h a = absurd cc
small_from rest (Some s) None h a = small_front rest a
small_from rest None None h a = small_first rest (preamble_of rest) refl h a

pub held_small : (k : Kept) → IsSettled k → kept_answer k ≡ Ok None → length k.rest < 262148
held_small k h a = small_from k.rest k.stream k.fault h a

-- the same, for what a call answered
pub small_so : (k : Kept) (answer : Result (Option (List ℕ)) FrameFault) → answer ≡ kept_answer k → IsSettled k → answer ≡ Ok None → length k.rest < 262148
small_so k answer e h n = held_small k h (sym e ∙ n)
