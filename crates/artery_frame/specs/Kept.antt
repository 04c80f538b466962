-- What a `Deframer` keeps of a stream, and what that stands for.
use Rattle.std.specs.Prelude.{◌≡◌, ◌≢◌, ℕ, ◌+◌, ◌-◌, ◌^◌, ◌≤◌, min, Bool, List, [], ◌++◌, length, take, drop, Option, Some, None, Result, Ok, Err}
use Rattle.std.specs.Borrow.{Bor}
use Rattle.std.specs.Option.{option_copied}
use Rattle.artery_frame.specs.declared.stream.Stream.{Stream}
use Rattle.artery_frame.specs.declared.fault.FrameFault.{FrameFault}
use Rattle.artery_frame.specs.declared.fault.FrameFault.TheVariants.{BadMagic, BadStream, TooLong}
use Rattle.artery_frame.specs.Stream.{preamble_of, front_of}

-- The bytes fed and not yet given out, the place of the first of them (or of the fault that was
-- answered), what the stream carries, the fault that was answered, and whether there is room.
pub record Kept : Type 0 where
  pub rest : List ℕ
  pub place : ℕ
  pub stream : Option Stream
  pub fault : Option FrameFault
  pub has_room : Bool

-- A place is told as at most the largest number of its type.
abbrev pub told : ℕ → ℕ
told place = min place (2 ^ 64 - 1)

-- A new one has taken nothing.
abbrev pub nothing_kept : Bool → Kept
nothing_kept room = record { rest = []; place = 0; stream = None; fault = None; has_room = room }

-- The five bytes of the preamble are given out once they are whole.
abbrev pub after_preamble : Kept → Result (Option Stream) FrameFault → Kept
after_preamble k (Ok (Some stream)) = record k { rest = drop 5 k.rest; place = 5; stream = Some stream }
after_preamble k (Ok None) = k
after_preamble k (Err fault) = k

-- A preamble is looked for only as long as no id is known.
abbrev pub settled_by : Kept → Option Stream → Kept
settled_by k None = after_preamble k (preamble_of k.rest)
settled_by k (Some stream) = k

-- What is kept once the preamble is given out, where it is whole.
abbrev pub settled : Kept → Kept
settled k = settled_by k k.stream

-- No whole preamble is held while no id is known.
abbrev pub IsSettledBy : Option Stream → List ℕ → Type 0
IsSettledBy None rest = (stream : Stream) → preamble_of rest ≢ Ok (Some stream)
IsSettledBy (Some stream) rest = Unit {0}

-- What every `Deframer` keeps: the preamble was given out as soon as it was whole.
abbrev pub IsSettled : Kept → Type 0
IsSettled k = IsSettledBy k.stream k.rest

-- The stream that is told now: by a whole preamble, while none is known.
abbrev pub new_stream : Option Stream → Result (Option Stream) FrameFault → Option Stream
new_stream (Some known) p = None
new_stream None (Ok stream) = stream
new_stream None (Err fault) = None

-- With the next piece at most so many bytes are held: less than a whole frame with its length, and a piece.
abbrev pub held_limit : ℕ
held_limit = 327684

-- A piece comes behind what is held.
abbrev pub kept_fed : List ℕ → Kept → Kept
kept_fed piece k = settled (record k { rest = k.rest ++ piece })

-- Before the preamble is whole there is no frame to answer, but its fault is answered.
abbrev pub preamble_answer : Result (Option Stream) FrameFault → Result (Option (List ℕ)) FrameFault
preamble_answer (Ok stream) = Ok None
preamble_answer (Err fault) = Err fault

-- The fault that was answered before is answered again; else what the preamble says as long as no id is known, and then what stands at the front.
abbrev pub answer_by : Option FrameFault → Option Stream → List ℕ → Result (Option (List ℕ)) FrameFault
answer_by (Some fault) stream rest = Err fault
answer_by None None rest = preamble_answer (preamble_of rest)
answer_by None (Some stream) rest = front_of rest

-- What a call of `next` answers.
abbrev pub kept_answer : Kept → Result (Option (List ℕ)) FrameFault
kept_answer k = answer_by k.fault k.stream k.rest

-- The place of a fault, where the first byte that was not given out has this place.
abbrev pub fault_place : FrameFault → ℕ → ℕ
fault_place (BadMagic at) place = at
fault_place (BadStream id) place = 4
fault_place (TooLong len) place = place

-- What an answer leaves: all but the frame that it gives, and the fault that it tells, with its place.
abbrev pub given_by : Kept → Result (Option (List ℕ)) FrameFault → Kept
given_by k (Ok (Some frame)) = record k { rest = drop (4 + length frame) k.rest; place = told (k.place + (4 + length frame)) }
given_by k (Ok None) = k
given_by k (Err fault) = record k { fault = Some fault; place = fault_place fault k.place }

-- Once a fault was answered, what is kept stays as it is.
abbrev pub unless_broken : Option FrameFault → Kept → Kept → Kept
unless_broken (Some fault) k next = k
unless_broken None k next = next

-- What a call of `next` leaves.
abbrev pub kept_given : Kept → Kept
kept_given k = unless_broken k.fault k (given_by k (kept_answer k))

-- A frame that was given is no longer held, nor is its length; any other answer leaves what is held.
abbrev pub LeavesHeld : Result (Option (List ℕ)) FrameFault → List ℕ → List ℕ → Type 0
LeavesHeld (Ok (Some frame)) old new = length old ≡ length new + (4 + length frame)
LeavesHeld (Ok None) old new = new ≡ old
LeavesHeld (Err fault) old new = new ≡ old

-- The length of the whole frame at the front is found, with the frame in the bytes.
abbrev pub FindsFront : Result (Option ℕ) FrameFault → List ℕ → Type 0
FindsFront (Ok (Some len)) bytes = (front_of bytes ≡ Ok (Some (take len (drop 4 bytes)))) × (4 + len ≤ length bytes)
FindsFront (Ok None) bytes = front_of bytes ≡ Ok None
FindsFront (Err fault) bytes = front_of bytes ≡ Err fault

-- An answer without where its frame lies in memory.
abbrev pub seen : Result (Option (Bor (List ℕ))) FrameFault → Result (Option (List ℕ)) FrameFault
seen (Ok frame) = Ok (option_copied frame)
seen (Err fault) = Err fault

-- The preamble has no fault yet, or this one.
abbrev pub FindsNone : Result (Option ℕ) FrameFault → List ℕ → Type 0
FindsNone (Ok (Some len)) bytes = ⊥
FindsNone (Ok None) bytes = preamble_answer (preamble_of bytes) ≡ Ok None
FindsNone (Err fault) bytes = preamble_answer (preamble_of bytes) ≡ Err fault

-- What `next` will give is found: a frame's length, with the frame in what is held; a fault is kept.
abbrev pub Looks : Result (Option ℕ) FrameFault → Kept → Kept → Type 0
Looks (Ok (Some len)) old new = (new ≡ old) × (kept_answer old ≡ Ok (Some (take len (drop 4 old.rest)))) × (4 + len ≤ length old.rest)
Looks (Ok None) old new = (new ≡ old) × (kept_answer old ≡ Ok None)
Looks (Err fault) old new = (new ≡ kept_given old) × (kept_answer old ≡ Err fault)
