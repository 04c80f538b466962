-- The layout of an envelope, its first fault, and its canonical bytes.
use Rattle.std.specs.Prelude.{◌≡◌, ℕ, ◌+◌, ◌%◌, ◌<◌, ◌≤◌, Bool, true, false, ◌==◌, nat_lt, if◌then◌else◌, ℤ, List, [], ◌∷◌, ◌++◌, length, take, drop, slice_index, Option, Some, None, Result, Ok, Err}
use Rattle.std.specs.List.{list_all}
use Rattle.std.specs.Int.{cast_signed, cast_unsigned, w32}
use Rattle.std.specs.Prelude.{◌^◌, FitsSigned}
use Rattle.byteorder.specs.Endian.{little_number, little_bytes}
use Rattle.artery_base.specs.Words.{◌>>=◌}
use Rattle.artery_header.specs.declared.envelope.Which.{Which}
use Rattle.artery_header.specs.declared.envelope.Which.TheVariants.{Sender, Recipient, Manifest}
use Rattle.artery_header.specs.declared.envelope.Name.{Name}
use Rattle.artery_header.specs.declared.envelope.Name.TheVariants as names
use Rattle.artery_header.specs.declared.envelope.Envelope.{Envelope}
use Rattle.artery_header.specs.declared.fault.HeaderFault.{HeaderFault}
use Rattle.artery_header.specs.declared.fault.HeaderFault.TheVariants.{Short, Version, Metadata, LiteralPast, NotAscii}
use Rattle.artery_header.specs.declared.fault.EncodeFault.{EncodeFault}
use Rattle.artery_header.specs.declared.fault.EncodeFault.TheVariants.{LiteralLong, FrameLong}

-- A name without where its text lies: a text, or a number in a table.
pub data NameOf : Type 0 where
  Literal : List ℕ → NameOf
  Index : ℕ → NameOf

-- An envelope without where its texts lie.
pub record EnvelopeOf : Type 0 where
  pub uid : ℕ
  pub refs_version : ℕ
  pub manifests_version : ℕ
  pub serializer : ℤ
  pub sender : NameOf
  pub recipient : NameOf
  pub manifest : NameOf
  pub payload : List ℕ

-- The name, without where its text lies.
abbrev pub name_of : Name → NameOf
name_of (names.Literal text) = Literal text.now
name_of (names.Index i) = Index i

-- The envelope, without where its texts and its payload lie.
abbrev pub envelope_of : Envelope → EnvelopeOf
envelope_of e = record {
  uid = e.uid;
  refs_version = e.refs_version;
  manifests_version = e.manifests_version;
  serializer = e.serializer;
  sender = name_of e.sender;
  recipient = name_of e.recipient;
  manifest = name_of e.manifest;
  payload = e.payload.now;
}

-- The header has 28 bytes.
abbrev pub header_len : ℕ
header_len = 28

-- A tag with a bit of 0xFF000000, which is one from this number on, means a number in a table.
abbrev pub first_index_tag : ℕ
first_index_tag = 16777216

-- The tag of the name: with no such bit for a text, whatever else it says; else the number is the tag
-- modulo 65,536.
abbrev pub HasTag : ℕ → NameOf → Type 0
HasTag tag (Literal text) = tag < first_index_tag
HasTag tag (Index i) = (first_index_tag ≤ tag) × (i ≡ tag % 65536)

-- All bytes are ASCII: below 128.
abbrev pub is_text : List ℕ → Bool
is_text bytes = list_all (λ byte. nat_lt byte 128) bytes

-- The text stands at the front: two bytes spell its length, the lowest first, and it follows.
pub record BeginsWithText (text bytes : List ℕ) : Type 0 where
  pub whole : 2 + length text ≤ length bytes
  pub spelled : little_number 2 bytes ≡ length text
  pub same : take (length text) (drop 2 bytes) ≡ text
  pub ascii : is_text text ≡ true

-- The bytes are the texts among the names, in order, and then the payload.
abbrev pub AreTexts : List NameOf → List ℕ → List ℕ → Type 0
AreTexts [] payload bytes = bytes ≡ payload
AreTexts (Index i ∷ names) payload bytes = AreTexts names payload bytes
AreTexts (Literal text ∷ names) payload bytes = BeginsWithText text bytes × AreTexts names payload (drop (2 + length text) bytes)

-- The bytes are laid out as this envelope.
pub record IsLaidOut (bytes : List ℕ) (e : EnvelopeOf) : Type 0 where
  pub whole : header_len ≤ length bytes
  pub version : slice_index bytes 0 ≡ 0
  pub metadata : slice_index bytes 1 % 2 ≡ 0
  pub refs_version : slice_index bytes 2 ≡ e.refs_version
  pub manifests_version : slice_index bytes 3 ≡ e.manifests_version
  pub uid : little_number 8 (drop 4 bytes) ≡ e.uid
  pub serializer : cast_signed w32 (little_number 4 (drop 12 bytes)) ≡ e.serializer
  pub sender : HasTag (little_number 4 (drop 16 bytes)) e.sender
  pub recipient : HasTag (little_number 4 (drop 20 bytes)) e.recipient
  pub manifest : HasTag (little_number 4 (drop 24 bytes)) e.manifest
  pub rest : AreTexts (e.sender ∷ e.recipient ∷ e.manifest ∷ []) e.payload (drop 28 bytes)

-- The text at the front, and what is behind it.
abbrev pub text_by : Which → ℕ → List ℕ → Result (NameOf × List ℕ) HeaderFault
text_by which len more =
    if nat_lt (length more) len then Err (LiteralPast which)
    else if is_text (take len more) then Ok (Literal (take len more), drop len more)
    else Err (NotAscii which)

-- Two bytes spell the length of the text at the front, the lowest first; where they are not there, the text goes past the end.
unfoldable pub text_at : Which → List ℕ → Result (NameOf × List ℕ) HeaderFault
text_at which bytes = if nat_lt (length bytes) 2 then Err (LiteralPast which) else text_by which (little_number 2 bytes) (drop 2 bytes)

-- The name with this tag: a number stands in the tag itself, a text at the front.
unfoldable pub name_at : Which → ℕ → List ℕ → Result (NameOf × List ℕ) HeaderFault
name_at which tag bytes = if nat_lt tag first_index_tag then text_at which bytes else Ok (Index (tag % 65536), bytes)

-- The envelope with this header and what follows it, or the first fault among its texts.
unfoldable pub body_of : List ℕ → List ℕ → Result EnvelopeOf HeaderFault
body_of bytes texts = do
  sender ← name_at Sender (little_number 4 (drop 16 bytes)) texts
  recipient ← name_at Recipient (little_number 4 (drop 20 bytes)) sender.1
  manifest ← name_at Manifest (little_number 4 (drop 24 bytes)) recipient.1
  Ok (record {
    uid = little_number 8 (drop 4 bytes);
    refs_version = slice_index bytes 2;
    manifests_version = slice_index bytes 3;
    serializer = cast_signed w32 (little_number 4 (drop 12 bytes));
    sender = sender.0;
    recipient = recipient.0;
    manifest = manifest.0;
    payload = manifest.1;
  })

-- The envelope that the bytes stand for, or their first fault.
unfoldable pub read_of : List ℕ → Result EnvelopeOf HeaderFault
read_of bytes =
    if nat_lt (length bytes) header_len then Err (Short (length bytes))
    else if slice_index bytes 0 == 0 then
    (if slice_index bytes 1 % 2 == 0 then body_of bytes (drop 28 bytes) else Err Metadata)
    else Err (Version (slice_index bytes 0))

-- Two bytes of length and the text; a number needs none, since it stands in the tag.
abbrev pub spelled : NameOf → List ℕ
spelled (Literal text) = little_bytes 2 (length text) ++ text
spelled (Index i) = []

-- So many bytes does a name take behind the header.
abbrev pub spelled_len : NameOf → ℕ
spelled_len (Literal text) = 2 + length text
spelled_len (Index i) = 0

-- The tag of a text is its place in the envelope, and that of a number is 0xFF000000 and the number.
abbrev pub tag_of : ℕ → NameOf → ℕ
tag_of at (Literal text) = at
tag_of at (Index i) = 4278190080 + i

-- The recipient's text stands behind the header and the sender's.
abbrev pub recipient_at : EnvelopeOf → ℕ
recipient_at e = header_len + spelled_len e.sender

-- The manifest's text stands behind the recipient's.
abbrev pub manifest_at : EnvelopeOf → ℕ
manifest_at e = recipient_at e + spelled_len e.recipient

-- The payload stands behind the manifest's text.
abbrev pub payload_at : EnvelopeOf → ℕ
payload_at e = manifest_at e + spelled_len e.manifest

-- The first 16 bytes of the header: two zeros, the versions of the tables, the UID and the serializer.
unfoldable pub numbers : EnvelopeOf → List ℕ
numbers e =
    (0 ∷ 0 ∷ e.refs_version ∷ e.manifests_version ∷ []) ++ little_bytes 8 e.uid ++ little_bytes 4 (cast_unsigned w32 e.serializer)

-- The other 12: the tags of the three names.
unfoldable pub tags : EnvelopeOf → List ℕ
tags e =
    little_bytes 4 (tag_of header_len e.sender) ++ little_bytes 4 (tag_of (recipient_at e) e.recipient) ++ little_bytes 4 (tag_of (manifest_at e) e.manifest)

-- The 28 bytes of the header.
abbrev pub header : EnvelopeOf → List ℕ
header e = numbers e ++ tags e

-- The one canonical spelling of an envelope.
abbrev pub canonical : EnvelopeOf → List ℕ
canonical e = header e ++ spelled e.sender ++ spelled e.recipient ++ spelled e.manifest ++ e.payload

-- So many bytes does it have.
abbrev pub canonical_len : EnvelopeOf → ℕ
canonical_len e = payload_at e + length e.payload

-- The most bytes of a literal.
abbrev pub literal_limit : ℕ
literal_limit = 65535

-- The most bytes of an envelope.
abbrev pub envelope_limit : ℕ
envelope_limit = 262144

-- The text has more bytes than its two bytes of length can say.
abbrev pub is_long : NameOf → Bool
is_long (Literal text) = nat_lt literal_limit (length text)
is_long (Index i) = false

-- Why an envelope can't be written: its first literal that is too long, or else its length.
abbrev pub refusal : EnvelopeOf → Option EncodeFault
refusal e =
    if is_long e.sender then Some (LiteralLong Sender)
    else if is_long e.recipient then Some (LiteralLong Recipient)
    else if is_long e.manifest then Some (LiteralLong Manifest)
    else if nat_lt envelope_limit (canonical_len e) then Some (FrameLong (canonical_len e))
    else None

-- The literal is ASCII.
abbrev pub IsAsciiName : NameOf → Type 0
IsAsciiName (Literal text) = is_text text ≡ true
IsAsciiName (Index i) = Unit {0}

-- The literals of the envelope are ASCII.
pub record HasTexts (e : EnvelopeOf) : Type 0 where
  pub sender : IsAsciiName e.sender
  pub recipient : IsAsciiName e.recipient
  pub manifest : IsAsciiName e.manifest

-- The new list begins with the old one.
abbrev pub IsFrontOf : List ℕ → List ℕ → Type 0
IsFrontOf old new = take (length old) new ≡ old

-- The number of a name fits into its two bytes.
abbrev pub IsName : NameOf → Type 0
IsName (Literal text) = Unit {0}
IsName (Index i) = i < 65536

-- The numbers of the envelope fit into their fields.
pub record IsEnvelope (e : EnvelopeOf) : Type 0 where
  pub uid : e.uid < 2 ^ 64
  pub serializer : FitsSigned w32 e.serializer
  pub sender : IsName e.sender
  pub recipient : IsName e.recipient
  pub manifest : IsName e.manifest
