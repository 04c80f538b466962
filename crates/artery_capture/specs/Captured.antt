-- What a capture keeps, and the bytes that it stands for.
use Rattle.std.specs.Prelude.{◌≡◌, ℕ, ◌<◌, List, [], ◌++◌, length, drop, flat_map, Option, Some, None, Result, Ok, Err}
use Rattle.artery_frame.specs.declared.stream.Stream.{Stream}
use Rattle.artery_frame.specs.declared.fault.FrameFault.{FrameFault}
use Rattle.artery_frame.specs.Stream.{reading_of}
use Rattle.artery_frame.specs.Kept.{Kept, told}
use Rattle.artery_frame.specs.Standing.{Stands}
use Rattle.artery_capture.specs.declared.progress.Progress.{Progress}
use Rattle.artery_capture.specs.declared.progress.Progress.TheVariants.{GoingOn, Faulty, Lost}
use Rattle.artery_capture.specs.FrameText.{frame_lines}
use Rattle.artery_capture.specs.Shown.{stream_line, front_lines}

-- a capture keeps what its deframer keeps, and how far it has come
pub record KeptCapture : Type 0 where
  pub deframer : Kept
  pub progress : Progress

-- While it goes on, the deframer stands for all bytes with all their frames given, and the bytes have no fault. Behind a
-- fault, it is that of the bytes, and its place was noted. Once memory ran out it stands for no bytes.
abbrev pub ShowsBy : Progress → Kept → List ℕ → Type 0
ShowsBy GoingOn deframer fed = Stands deframer fed (reading_of fed).frames × ((reading_of fed).end ≡ None)
ShowsBy (Faulty fault) deframer fed = ((reading_of fed).end ≡ Some fault) × (deframer.place ≡ told (reading_of fed).offset)
ShowsBy Lost deframer fed = ⊥

-- the capture stands for these bytes, and the lines of all their whole frames were appended
abbrev pub Shows : KeptCapture → List ℕ → Type 0
Shows k fed = ShowsBy k.progress k.deframer fed

-- with the piece, the capture stands for all bytes so far, and their lines are those from before and what was appended
pub record TellsMore (new : KeptCapture) (fed piece old_out new_out : List ℕ) : Type 0 where
  pub shows : Shows new (fed ++ piece)
  pub added : List ℕ
  pub appended : new_out ≡ old_out ++ added
  pub lines : front_lines (fed ++ piece) ≡ front_lines fed ++ added

-- while it goes on, less than a whole frame with its length is held between two pieces
abbrev pub HoldsLittle : Progress → ℕ → Type 0
HoldsLittle GoingOn held = held < 262148
HoldsLittle (Faulty fault) held = Unit {0}
HoldsLittle Lost held = Unit {0}

-- ---- the parts of one piece

-- the stream's line, where the piece has brought the end of the preamble
abbrev pub new_stream_line : Option Stream → Option Stream → List ℕ
new_stream_line None now = stream_line now
new_stream_line (Some stream) now = []

-- the lines of what comes next: those of a frame
abbrev pub answer_lines : Result (Option (List ℕ)) FrameFault → List ℕ
answer_lines (Ok (Some frame)) = frame_lines frame
answer_lines (Ok None) = []
answer_lines (Err fault) = []

-- how far a capture is, once no frame comes next
abbrev pub end_of : Result (Option (List ℕ)) FrameFault → Option Progress
end_of (Ok (Some frame)) = None
end_of (Ok None) = Some GoingOn
end_of (Err fault) = Some (Faulty fault)

-- the lines of the frames behind the first ones
abbrev pub lines_behind : List (List ℕ) → List ℕ → List ℕ
lines_behind given fed = flat_map frame_lines (drop (length given) (reading_of fed).frames)

-- all frames behind those given before were shown
pub record AllShown (progress : Progress) (new : Kept) (fed : List ℕ) (given : List (List ℕ)) (old_out new_out : List ℕ) : Type 0 where
  pub shows : ShowsBy progress new fed
  pub lines : new_out ≡ old_out ++ lines_behind given fed
