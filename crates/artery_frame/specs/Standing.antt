-- What a `Deframer` stands for: bytes that were fed, and frames that were given.
use Rattle.std.specs.Prelude.{◌≡◌, ℕ, ◌+◌, List, [], ◌∷◌, ◌++◌, length, take, drop, slice_get, Option, Some, None, Result, Ok, Err}
use Rattle.artery_frame.specs.declared.stream.Stream.{Stream}
use Rattle.artery_frame.specs.declared.fault.FrameFault.{FrameFault}
use Rattle.artery_frame.specs.Stream.{Reading, reading_of, span}
use Rattle.artery_frame.specs.Kept.{Kept, told, kept_given, LeavesHeld}

-- So many bytes were given out: none before the id is known, then the preamble and the frames given.
abbrev pub given_out : Option Stream → List (List ℕ) → ℕ
given_out None given = 0
given_out (Some stream) given = 5 + span given

-- The place told is that of the first byte not given out, and once a fault was answered the reading's.
abbrev pub place_after : Option FrameFault → Reading → List (List ℕ) → ℕ
place_after None r given = given_out r.stream given
place_after (Some fault) r given = r.offset

-- A fault was answered only after all frames, and is the reading's.
abbrev pub HasEnded : Option FrameFault → Reading → List (List ℕ) → Type 0
HasEnded None r given = Unit {0}
HasEnded (Some fault) r given = (given ≡ r.frames) × (r.end ≡ Some fault)

-- What is kept after these bytes, which have this reading, and after these frames were given, the first of it.
pub record StandsBy (k : Kept) (r : Reading) (fed : List ℕ) (given : List (List ℕ)) : Type 0 where
  pub stream : k.stream ≡ r.stream
  pub first : given ≡ take (length given) r.frames
  pub rest : k.rest ≡ drop (given_out k.stream given) fed
  pub place : k.place ≡ told (place_after k.fault r given)
  pub fault : HasEnded k.fault r given

-- What is kept stands for the bytes that were fed, by their one reading, and for the frames that were given.
abbrev pub Stands : Kept → List ℕ → List (List ℕ) → Type 0
Stands k fed given = StandsBy k (reading_of fed) fed given

-- What comes after these frames: the next frame, and behind the last nothing yet, or the fault.
abbrev pub after_all : Option FrameFault → Option (List ℕ) → Result (Option (List ℕ)) FrameFault
after_all end (Some frame) = Ok (Some frame)
after_all None None = Ok None
after_all (Some fault) None = Err fault

-- The next answer after these frames: the frame of the reading whose number is theirs, or what comes after all.
abbrev pub next_of : Reading → List (List ℕ) → Result (Option (List ℕ)) FrameFault
next_of r given = after_all r.end (slice_get r.frames (length given))

-- The frames given once this was answered.
abbrev pub with_answer : List (List ℕ) → Result (Option (List ℕ)) FrameFault → List (List ℕ)
with_answer given (Ok (Some frame)) = given ++ frame ∷ []
with_answer given (Ok None) = given
with_answer given (Err fault) = given

-- A call of `next` leaves what is kept without what it gave, with room as before, and less is held by a frame
-- given; what it leaves stands for that frame too.
pub record AfterNext (old new : Kept) (answer : Result (Option (List ℕ)) FrameFault) : Type 0 where
  pub kept : new ≡ kept_given old
  pub room : new.has_room ≡ old.has_room
  pub held : LeavesHeld answer old.rest new.rest
  pub stands : (fed : List ℕ) (given : List (List ℕ)) → Stands old fed given → Stands new fed (with_answer given answer)
