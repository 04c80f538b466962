-- The reading of a stream: what it carries, its frames, and how it ends.
use Rattle.std.specs.Prelude.{◌≡◌, ◌≢◌, ℕ, zero, suc, ◌+◌, ◌<◌, ◌≤◌, ◌==◌, nat_lt, if◌then◌else◌, List, [], ◌∷◌, ◌++◌, length, take, drop, slice_get, codes, Option, Some, None, IfSome, Result, Ok, Err}
use Rattle.std.specs.List.{flat_map}
use Rattle.byteorder.specs.Endian.{little_number, little_bytes}
use Rattle.artery_base.specs.Words.{IsPrefix}
use Rattle.artery_frame.specs.declared.stream.Stream.{Stream}
use Rattle.artery_frame.specs.declared.stream.Stream.TheVariants.{Control, Ordinary}
use Rattle.artery_frame.specs.declared.fault.FrameFault.{FrameFault}
use Rattle.artery_frame.specs.declared.fault.FrameFault.TheVariants.{BadMagic, BadStream, TooLong}

-- A frame has at most so many bytes.
abbrev pub frame_limit : ℕ
frame_limit = 262144

-- A piece of a stream has at most so many bytes.
abbrev pub piece_limit : ℕ
piece_limit = 65536

-- Every stream begins with these bytes.
abbrev pub magic : List ℕ
magic = codes "AKKA"

-- The byte after them says what the stream carries.
abbrev pub id_of : Stream → ℕ
id_of Control = 1
id_of Ordinary = 2

-- The place of the first byte that differs from the wanted one, counted on from `at`.
abbrev pub mismatch : ℕ → List ℕ → List ℕ → Option ℕ
mismatch at [] bytes = None
mismatch at (w ∷ wanted) [] = None
mismatch at (w ∷ wanted) (byte ∷ bytes) = if byte == w then mismatch (at + 1) wanted bytes else Some at

-- What a stream is: what it carries, or none where no id has come, its whole frames in order, the place
-- of the first byte behind them or of the fault, and its fault, or none where it may go on.
pub record Reading : Type 0 where
  pub stream : Option Stream
  pub frames : List (List ℕ)
  pub offset : ℕ
  pub end : Option FrameFault

-- The frame stands at the front of the bytes: four bytes spell its length, the lowest first, and it follows.
pub record BeginsWith (frame bytes : List ℕ) : Type 0 where
  pub limit : length frame ≤ frame_limit
  pub spelled : little_number 4 bytes ≡ length frame
  pub whole : 4 + length frame ≤ length bytes
  pub same : take (length frame) (drop 4 bytes) ≡ frame

-- The bytes begin with these frames, one after the other.
abbrev pub AreFrames : List (List ℕ) → List ℕ → Type 0
AreFrames [] bytes = Unit {0}
AreFrames (frame ∷ frames) bytes = BeginsWith frame bytes × AreFrames frames (drop (4 + length frame) bytes)

-- So many bytes do the frames take, with their lengths.
abbrev pub span : List (List ℕ) → ℕ
span [] = 0
span (frame ∷ frames) = (4 + length frame) + span frames

-- The bytes behind the whole frames begin no whole frame: fewer than four, or fewer than these spell.
-- Or four of them spell too long a frame.
abbrev pub Ends : List ℕ → Option FrameFault → Type 0
Ends rest None = 4 ≤ length rest → (little_number 4 rest ≤ frame_limit) × (length rest < 4 + little_number 4 rest)
Ends rest (Some (TooLong len)) = (4 ≤ length rest) × (little_number 4 rest ≡ len) × (frame_limit < len)
Ends rest (Some (BadMagic at)) = ⊥
Ends rest (Some (BadStream id)) = ⊥

-- No id has come: fewer than five bytes, or a byte that differs from `AKKA`, or an id that there is not.
abbrev pub HasNoId : List ℕ → ℕ → Option FrameFault → Type 0
HasNoId bytes offset None = (mismatch 0 magic bytes ≡ None) × (length bytes < 5) × (offset ≡ 0)
HasNoId bytes offset (Some (BadMagic at)) = (mismatch 0 magic bytes ≡ Some at) × (offset ≡ at)
HasNoId bytes offset (Some (BadStream id)) = (mismatch 0 magic bytes ≡ None) × (slice_get bytes 4 ≡ Some id) × (id ≢ 1) × (id ≢ 2) × (offset ≡ 4)
HasNoId bytes offset (Some (TooLong len)) = ⊥

-- The bytes are `AKKA`, the id, these frames, and then what ends so.
abbrev pub HasFrames : List ℕ → Stream → List (List ℕ) → ℕ → Option FrameFault → Type 0
HasFrames bytes stream frames offset end =
    (mismatch 0 magic bytes ≡ None) × (slice_get bytes 4 ≡ Some (id_of stream)) × AreFrames frames (drop 5 bytes)
    × Ends (drop (span frames) (drop 5 bytes)) end × (offset ≡ 5 + span frames)

-- Bytes of which no id is known have no frames; the others have the id, the frames, and what ends so.
abbrev pub IsReadingBy : List ℕ → Option Stream → List (List ℕ) → ℕ → Option FrameFault → Type 0
IsReadingBy bytes None frames offset end = (frames ≡ []) × HasNoId bytes offset end
IsReadingBy bytes (Some stream) frames offset end = HasFrames bytes stream frames offset end

-- The bytes have this reading.
abbrev pub IsReading : List ℕ → Reading → Type 0
IsReading bytes r = IsReadingBy bytes r.stream r.frames r.offset r.end

-- What the first bytes of a stream tell: what it carries, nothing yet, or a fault.
abbrev pub preamble_by : Option ℕ → Option ℕ → Result (Option Stream) FrameFault
preamble_by (Some at) id = Err (BadMagic at)
preamble_by None None = Ok None
preamble_by None (Some id) = if id == 1 then Ok (Some Control) else if id == 2 then Ok (Some Ordinary) else Err (BadStream id)

-- The first byte that differs from `AKKA` is the fault; else the fifth byte says what the stream carries.
unfoldable pub preamble_of : List ℕ → Result (Option Stream) FrameFault
preamble_of bytes = preamble_by (mismatch 0 magic bytes) (slice_get bytes 4)

-- What stands at the front of the bytes: a whole frame, nothing whole yet, or too long a frame.
abbrev pub front_by : ℕ → List ℕ → Result (Option (List ℕ)) FrameFault
front_by len more = if nat_lt frame_limit len then Err (TooLong len) else if nat_lt (length more) len then Ok None else Ok (Some (take len more))

-- Fewer than four bytes hold no frame; four spell the length of what follows, the lowest first.
unfoldable pub front_of : List ℕ → Result (Option (List ℕ)) FrameFault
front_of bytes = if nat_lt (length bytes) 4 then Ok None else front_by (little_number 4 bytes) (drop 4 bytes)

-- A frame at the front comes first, and then the others of the bytes behind it; else there is none.
abbrev pub frames_by : (List ℕ → List (List ℕ)) → List ℕ → Result (Option (List ℕ)) FrameFault → List (List ℕ)
frames_by others bytes (Ok (Some frame)) = frame ∷ others (drop (4 + length frame) bytes)
frames_by others bytes (Ok None) = []
frames_by others bytes (Err fault) = []

-- The whole frames at the front of the bytes, at most so many.
abbrev pub frames_in : ℕ → List ℕ → List (List ℕ)
frames_in zero bytes = []
frames_in (suc n) bytes = frames_by (λ rest. frames_in n rest) bytes (front_of bytes)

-- The fault of an answer.
abbrev pub fault_of : {X : Type 0} → Result X FrameFault → Option FrameFault
fault_of (Ok x) = None
fault_of (Err fault) = Some fault

-- The place of a fault of the first five bytes.
abbrev pub place_of : FrameFault → ℕ
place_of (BadMagic at) = at
place_of (BadStream id) = 4
place_of (TooLong len) = 0

-- The reading of a stream whose id is known, with these bytes and frames behind it: it ends where the frames end, with the fault that stands there.
abbrev pub framed_reading : Stream → List ℕ → List (List ℕ) → Reading
framed_reading stream bytes frames = record {
  stream = Some stream;
  frames = frames;
  offset = 5 + span frames;
  end = fault_of (front_of (drop (span frames) bytes));
}

-- The reading, where the first bytes tell this: a fault at its place, nothing yet, or a stream and its frames.
abbrev pub reading_by : List ℕ → Result (Option Stream) FrameFault → Reading
reading_by bytes (Err fault) = record { stream = None; frames = []; offset = place_of fault; end = Some fault }
reading_by bytes (Ok None) = record { stream = None; frames = []; offset = 0; end = None }
reading_by bytes (Ok (Some stream)) = framed_reading stream (drop 5 bytes) (frames_in (length bytes) (drop 5 bytes))

-- The one reading of the bytes.
unfoldable pub reading_of : List ℕ → Reading
reading_of bytes = reading_by bytes (preamble_of bytes)

-- More bytes keep what a reading tells: its stream once it is known, its frames, and all of it once it has a fault.
pub record GoesOn (r other : Reading) : Type 0 where
  pub stream : IfSome r.stream (λ stream. other.stream ≡ Some stream)
  pub frames : (more : List (List ℕ)) × (other.frames ≡ r.frames ++ more)
  pub fault : IfSome r.end (λ _. other ≡ r)

-- The frames that a piece completes, where these bytes came before it.
abbrev pub new_frames : List ℕ → List ℕ → List (List ℕ)
new_frames fed piece = drop (length (reading_of fed).frames) (reading_of (fed ++ piece)).frames

-- What is written before the first frame.
abbrev pub preamble : Stream → List ℕ
preamble stream = magic ++ id_of stream ∷ []

-- What is written of a frame: its length in four bytes, the lowest first, and then its bytes.
abbrev pub framed : List ℕ → List ℕ
framed frame = little_bytes 4 (length frame) ++ frame

-- What is written of a stream with these frames.
abbrev pub written : Stream → List (List ℕ) → List ℕ
written stream frames = preamble stream ++ flat_map framed frames

-- The frame is not too long.
abbrev pub IsShort : List ℕ → Type 0
IsShort frame = length frame ≤ frame_limit

-- The reading of what was written of a stream with these frames.
abbrev pub whole_reading : Stream → List (List ℕ) → Reading
whole_reading stream frames = record { stream = Some stream; frames = frames; offset = 5 + span frames; end = None }

-- The reading is that of bytes which begin what is written of a stream with these frames: no other stream, no fault,
-- and the first of the frames.
pub record IsFrontReading (stream : Stream) (frames : List (List ℕ)) (r : Reading) : Type 0 where
  pub carried : IfSome r.stream (λ s. s ≡ stream)
  pub first : IsPrefix r.frames frames
  pub sound : r.end ≡ None
