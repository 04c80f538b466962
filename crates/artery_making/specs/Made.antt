-- The bytes of a connection that lines describe.
use Rattle.std.specs.Prelude.{◌≡◌, ℕ, ◌+◌, ◌==◌, nat_lt, if◌then◌else◌, Bool, true, false, List, [], ◌∷◌, ◌++◌, length, codes, bytes_eq, Option, Some, None, option_map, Result, Ok, Err}
use Rattle.std.specs.Result.{result_ok}
use Rattle.artery_text.specs.Reading.{number_of, int32_of, hex_of, word_of}
use Rattle.artery_frame.specs.declared.stream.Stream.{Stream}
use Rattle.artery_frame.specs.declared.stream.Stream.TheVariants.{Control, Ordinary}
use Rattle.artery_frame.specs.Stream.{preamble, framed}
use Rattle.artery_header.specs.declared.fault.EncodeFault.{EncodeFault}
use Rattle.artery_header.specs.declared.fault.EncodeFault.TheVariants as encode_faults
use Rattle.artery_header.specs.Envelope.{NameOf, Literal, Index, EnvelopeOf, is_text, canonical, refusal}
use Rattle.artery_lines.specs.Lines.{lines_of, tokens_of, at_end, ◌>>=◌}
use Rattle.artery_lines.specs.declared.fault.LineFault.{LineFault}
use Rattle.artery_lines.specs.declared.fault.LineFault.TheVariants as line_faults
use Rattle.artery_making.specs.declared.told.ToldName.{ToldName}
use Rattle.artery_making.specs.declared.told.ToldName.TheVariants as told_names
use Rattle.artery_making.specs.declared.told.ToldFrame.{ToldFrame}
use Rattle.artery_lines.specs.Lines.{most_lines}
use Rattle.artery_making.specs.declared.fault.MakeFault.{MakeFault}
use Rattle.artery_making.specs.declared.fault.MakeFault.TheVariants.{BadLine, TooManyLines, NoMemory}

-- a number that is no more than this
abbrev pub at_most : ℕ → ℕ → Option ℕ
at_most most n = if nat_lt most n then None else Some n

-- a text, where it is ASCII
abbrev pub ascii_name : List ℕ → Option NameOf
ascii_name text = if is_text text then Some (Literal text) else None

-- a place in a table that digits tell: at most 65,535
abbrev pub index_told : List ℕ → Option NameOf
index_told digits = number_of digits >>= at_most 65535 >>= λ i. Some (Index i)

-- a literal that a token tells: a word of ASCII bytes
abbrev pub literal_told : List ℕ → Option NameOf
literal_told text = result_ok (word_of text) >>= ascii_name

-- a name that a token tells: `@` and its place in a table, or a literal
abbrev pub name_told : List ℕ → Option NameOf
name_told [] = None
name_told (b ∷ rest) = if b == 64 then index_told rest else literal_told (b ∷ rest)

-- the version of a table that a token tells: at most 255
abbrev pub version_told : List ℕ → Option ℕ
version_told text = number_of text >>= at_most 255

-- what the next token tells, and the tokens behind it
abbrev pub next_told : {A : Type 0} → (List ℕ → Option A) → List (List ℕ) → Option (A × List (List ℕ))
next_told read [] = None
next_told read (token ∷ left) = read token >>= λ x. Some (x, left)

-- the payload that a token tells in hexadecimal
abbrev pub payload_told : List ℕ → Option (List ℕ)
payload_told text = result_ok (hex_of text)

-- `UID REFSVERSION MANIFESTSVERSION SERIALIZER SENDER RECIPIENT MANIFEST HEX`, and no more
unfoldable pub fields_told : List (List ℕ) → Option EnvelopeOf
fields_told tokens = do
  uid ← next_told number_of tokens
  refs ← next_told version_told uid.1
  manifests ← next_told version_told refs.1
  serializer ← next_told int32_of manifests.1
  sender ← next_told name_told serializer.1
  recipient ← next_told name_told sender.1
  manifest ← next_told name_told recipient.1
  payload ← next_told payload_told manifest.1
  at_end payload.1 (Some (record { uid = uid.0; refs_version = refs.0; manifests_version = manifests.0; serializer = serializer.0; sender = sender.0; recipient = recipient.0; manifest = manifest.0; payload = payload.0 }))

-- the envelope that tokens tell: `frame` and its fields
abbrev pub contents_in : List (List ℕ) → Option EnvelopeOf
contents_in [] = None
contents_in (word ∷ fields) = if bytes_eq word (codes "frame") then fields_told fields else None

-- the envelope that a line tells
abbrev pub contents_told : List ℕ → Option EnvelopeOf
contents_told line = contents_in (tokens_of line)

-- the bytes of an envelope, unless a literal or the whole is too long
abbrev pub canonical_unless : EnvelopeOf → Option EncodeFault → Option (List ℕ)
canonical_unless c None = Some (canonical c)
canonical_unless c (Some fault) = None

-- the bytes of the envelope that a line tells
abbrev pub envelope_told : List ℕ → Option (List ℕ)
envelope_told line = contents_told line >>= λ c. canonical_unless c (refusal c)

-- the frame that a line tells: its envelope behind its length
abbrev pub frame_told : List ℕ → Option (List ℕ)
frame_told line = option_map framed (envelope_told line)

-- what a connection carries, as the first line tells it
abbrev pub stream_told : List ℕ → Option Stream
stream_told line = if bytes_eq line (codes "stream 1") then Some Control else if bytes_eq line (codes "stream 2") then Some Ordinary else None

-- bytes before others, unless a line among those is bad
abbrev pub before_others : List ℕ → Result (List ℕ) MakeFault → Result (List ℕ) MakeFault
before_others bytes (Ok others) = Ok (bytes ++ others)
before_others bytes (Err fault) = Err fault

-- what the line with this number tells, before the others; a line that tells nothing is bad
abbrev pub at_line : ℕ → Option (List ℕ) → Result (List ℕ) MakeFault → Result (List ℕ) MakeFault
at_line n None others = Err (BadLine n)
at_line n (Some bytes) others = before_others bytes others

-- the frames that lines tell, which are numbered from n on; or the number of the first that tells none
abbrev pub frames_from : ℕ → List (List ℕ) → Result (List ℕ) MakeFault
frames_from n [] = Ok []
frames_from n (line ∷ lines) = at_line n (frame_told line) (frames_from (n + 1) lines)

-- the bytes that lines tell: the first is the stream's, and each other a frame's
abbrev pub stream_from : List (List ℕ) → Result (List ℕ) MakeFault
stream_from [] = Err (BadLine 1)
stream_from (line ∷ lines) = at_line 1 (option_map preamble (stream_told line)) (frames_from 2 lines)

-- the bytes that a text tells, or its first fault
abbrev pub stream_made : List ℕ → Result (List ℕ) MakeFault
stream_made text = if nat_lt most_lines (length (lines_of text)) then Err TooManyLines else stream_from (lines_of text)

-- whether a fault says that memory ran out
abbrev pub make_memory : MakeFault → Bool
make_memory (BadLine line) = false
make_memory TooManyLines = false
make_memory NoMemory = true

-- ---- what the code reads and adds

-- a name that was read, as one of an envelope
abbrev pub told_name : ToldName → NameOf
told_name (told_names.Literal text) = Literal text
told_name (told_names.Index i) = Index i

-- a line's frame that was read, as the contents of an envelope
abbrev pub told_contents : ToldFrame → EnvelopeOf
told_contents f = record {
  uid = f.uid;
  refs_version = f.refs_version;
  manifests_version = f.manifests_version;
  serializer = f.serializer;
  sender = told_name f.sender;
  recipient = told_name f.recipient;
  manifest = told_name f.manifest;
  payload = f.payload;
}

-- reading gives what is told, seen by view, unless memory ran out
abbrev pub TellsAs : {X A : Type 0} → (X → A) → Result X LineFault → Option A → Type 0
TellsAs view (Ok x) told = told ≡ Some (view x)
TellsAs view (Err line_faults.BadLine) told = told ≡ None
TellsAs view (Err line_faults.NoMemory) told = Unit {0}

-- reading the next token gives what it tells and leaves the tokens behind it, unless memory ran out
abbrev pub TellsNext : {X A : Type 0} → (X → A) → Result X LineFault → List (List ℕ) → Option (A × List (List ℕ)) → Type 0
TellsNext view (Ok x) left told = told ≡ Some (view x, left)
TellsNext view (Err line_faults.BadLine) left told = told ≡ None
TellsNext view (Err line_faults.NoMemory) left told = Unit {0}

-- the bytes that are told were added to the old ones, unless memory ran out
abbrev pub Adds : Result Unit LineFault → List ℕ → List ℕ → Option (List ℕ) → Type 0
Adds (Ok done) old new told = option_map (λ bytes. old ++ bytes) told ≡ Some new
Adds (Err line_faults.BadLine) old new told = told ≡ None
Adds (Err line_faults.NoMemory) old new told = Unit {0}

-- whether a fault of writing an envelope says that memory ran out
abbrev pub encode_memory : EncodeFault → Bool
encode_memory (encode_faults.LiteralLong which) = false
encode_memory (encode_faults.FrameLong len) = false
encode_memory encode_faults.NoMemory = true

-- what the line with this number tells, or that it is bad
abbrev pub told_at : ℕ → Option (List ℕ) → Result (List ℕ) MakeFault
told_at n None = Err (BadLine n)
told_at n (Some bytes) = Ok bytes

-- the bytes as they are after adding to them, unless that failed
abbrev pub added : Result Unit MakeFault → List ℕ → Result (List ℕ) MakeFault
added (Ok done) new = Ok new
added (Err fault) new = Err fault
