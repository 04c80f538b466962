-- The first fault of bytes that stand for no envelope.
use Rattle.std.specs.Prelude.{◌≡◌, ◌≢◌, ℕ, ◌+◌, ◌%◌, ◌<◌, ◌≤◌, ◌⊎◌, false, List, [], ◌∷◌, length, take, drop, slice_index}
use Rattle.byteorder.specs.Endian.{little_number}
use Rattle.artery_header.specs.declared.envelope.Which.{Which}
use Rattle.artery_header.specs.declared.envelope.Which.TheVariants.{Sender, Recipient, Manifest}
use Rattle.artery_header.specs.declared.fault.HeaderFault.{HeaderFault}
use Rattle.artery_header.specs.declared.fault.HeaderFault.TheVariants.{Short, Version, Metadata, LiteralPast, NotAscii}
use Rattle.artery_header.specs.Envelope.{NameOf, header_len, first_index_tag, HasTag, AreTexts, is_text}

-- The header tells the tag of each name: four bytes from 16, from 20 and from 24, the lowest first.
abbrev pub tag_in : List ℕ → Which → ℕ
tag_in bytes Sender = little_number 4 (drop 16 bytes)
tag_in bytes Recipient = little_number 4 (drop 20 bytes)
tag_in bytes Manifest = little_number 4 (drop 24 bytes)

-- The names whose literals stand before that of this one.
abbrev pub names_before : Which → List Which
names_before Sender = []
names_before Recipient = Sender ∷ []
names_before Manifest = Sender ∷ Recipient ∷ []

-- These are the names with those tags.
abbrev pub HaveTags : List ℕ → List Which → List NameOf → Type 0
HaveTags bytes [] [] = Unit {0}
HaveTags bytes (which ∷ others) (name ∷ names) = HasTag (tag_in bytes which) name × HaveTags bytes others names
HaveTags bytes [] (name ∷ names) = ⊥
HaveTags bytes (which ∷ others) [] = ⊥

-- The fixed bytes are those of an envelope: all 28, of version 0, and with no metadata.
pub record HasHeader (bytes : List ℕ) : Type 0 where
  pub whole : header_len ≤ length bytes
  pub version : slice_index bytes 0 ≡ 0
  pub metadata : slice_index bytes 1 % 2 ≡ 0

-- The literal at the front goes past the end: its length does, or its text.
abbrev pub GoesPast : List ℕ → Type 0
GoesPast rest = (length rest < 2) ⊎ (length rest < 2 + little_number 2 rest)

-- The literal at the front is whole, and a byte of its text is above 127.
abbrev pub IsForeign : List ℕ → Type 0
IsForeign rest = (2 + little_number 2 rest ≤ length rest) × (is_text (take (little_number 2 rest) (drop 2 rest)) ≡ false)

-- The name is a literal. All literals before it are whole and ASCII, and behind them stands a faulty one.
pub record HasFaultyLiteral (which : Which) (IsFaulty : List ℕ → Type 0) (bytes : List ℕ) : Type 0 where
  pub header : HasHeader bytes
  pub names : List NameOf
  pub rest : List ℕ
  pub tags : HaveTags bytes (names_before which) names
  pub texts : AreTexts names rest (drop 28 bytes)
  pub literal : tag_in bytes which < first_index_tag
  pub faulty : IsFaulty rest

-- The first fault, in this order: fewer than 28 bytes; another version than 0; metadata; and then for the literal
-- of the sender, the recipient and the manifest in turn that it goes past the end, or is not ASCII.
abbrev pub IsFirstFault : List ℕ → HeaderFault → Type 0
IsFirstFault bytes (Short len) = (length bytes < header_len) × (len ≡ length bytes)
IsFirstFault bytes (Version v) = (header_len ≤ length bytes) × (v ≡ slice_index bytes 0) × (v ≢ 0)
IsFirstFault bytes Metadata = (header_len ≤ length bytes) × (slice_index bytes 0 ≡ 0) × (slice_index bytes 1 % 2 ≢ 0)
IsFirstFault bytes (LiteralPast which) = HasFaultyLiteral which GoesPast bytes
IsFirstFault bytes (NotAscii which) = HasFaultyLiteral which IsForeign bytes
