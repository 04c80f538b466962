-- The same as relations: when a frame means a message, and when a rule is the first that drops it.
use Rattle.std.specs.Prelude.{◌≡◌, ℕ, ◌≤◌, List, length, slice_get, Some}
use Rattle.artery_header.specs.declared.envelope.Which.{Which}
use Rattle.artery_header.specs.declared.envelope.Which.TheVariants.{Sender, Recipient, Manifest}
use Rattle.artery_header.specs.Envelope.{NameOf, Literal, Index, EnvelopeOf, IsLaidOut}
use Rattle.artery_header.specs.FirstFault.{IsFirstFault}
use Rattle.artery_tables.specs.declared.table.TableFault.{TableFault}
use Rattle.artery_tables.specs.declared.table.TableFault.TheVariants.{UnknownVersion, UnknownIndex}
use Rattle.artery_tables.specs.Story.{Story, IsKnown, version_of, numbered, names_in}
use Rattle.artery_codec.specs.declared.message.DropRule.{DropRule}
use Rattle.artery_codec.specs.declared.message.DropRule.TheVariants.{Header, Table}
use Rattle.artery_codec.specs.Meaning.{Meaning}

-- The known table of the story with this number has this version.
pub record HasVersion (story : Story) (number v : ℕ) : Type 0 where
  pub known : IsKnown story number
  pub version : version_of number ≡ v

-- The names of a table of the story.
abbrev pub table_names : Story → ℕ → List (List ℕ)
table_names story number = names_in (numbered story number)

-- The name means this text: it is the text, or the known table with the version has the text at its number, counted from 0.
abbrev pub Means : Story → ℕ → NameOf → List ℕ → Type 0
Means story version (Literal text) name = text ≡ name
Means story version (Index i) name = (number : ℕ) × HasVersion story number version × (slice_get (table_names story number) i ≡ Some name)

-- The name means nothing: no known table has the version, or its number is not below the table's length.
abbrev pub MeansNothing : Story → ℕ → NameOf → TableFault → Type 0
MeansNothing story version (Literal text) fault = ⊥
MeansNothing story version (Index i) (UnknownVersion v) = (v ≡ version) × ((number : ℕ) → ¬ HasVersion story number version)
MeansNothing story version (Index i) (UnknownIndex v at) =
    (v ≡ version) × (at ≡ i) × ((number : ℕ) × HasVersion story number version × (length (table_names story number) ≤ i))

-- The name means something.
abbrev pub MeansSome : Story → ℕ → NameOf → Type 0
MeansSome story version n = (name : List ℕ) × Means story version n name

-- The frame means this message: it is laid out as an envelope with its numbers and its payload, whose names mean its names.
pub record IsMeaning (refs manifests : Story) (frame : List ℕ) (m : Meaning) : Type 0 where
  pub envelope : EnvelopeOf
  pub laid_out : IsLaidOut frame envelope
  pub uid : envelope.uid ≡ m.uid
  pub serializer : envelope.serializer ≡ m.serializer
  pub sender : Means refs envelope.refs_version envelope.sender m.sender
  pub recipient : Means refs envelope.refs_version envelope.recipient m.recipient
  pub manifest : Means manifests envelope.manifests_version envelope.manifest m.manifest
  pub payload : envelope.payload ≡ m.payload

-- This is the first name of the envelope that means nothing, and why.
abbrev pub IsFirstLost : Story → Story → EnvelopeOf → Which → TableFault → Type 0
IsFirstLost refs manifests c Sender fault = MeansNothing refs c.refs_version c.sender fault
IsFirstLost refs manifests c Recipient fault = MeansSome refs c.refs_version c.sender × MeansNothing refs c.refs_version c.recipient fault
IsFirstLost refs manifests c Manifest fault =
    MeansSome refs c.refs_version c.sender × MeansSome refs c.refs_version c.recipient × MeansNothing manifests c.manifests_version c.manifest fault

-- This is the first rule that drops the frame: its fault as an envelope, or the first name that means nothing.
abbrev pub IsFirstRule : Story → Story → List ℕ → DropRule → Type 0
IsFirstRule refs manifests frame (Header fault) = IsFirstFault frame fault
IsFirstRule refs manifests frame (Table which fault) = (c : EnvelopeOf) × IsLaidOut frame c × IsFirstLost refs manifests c which fault
