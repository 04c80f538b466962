-- What a message is written as.
use Rattle.std.specs.Prelude.{◌≡◌, ℕ, List, [], ◌∷◌, ◌++◌, Option, Some, None, Result, Ok, Err, IfSome, OnOk, OnErr, IsOkUnless}
use Rattle.artery_header.specs.declared.fault.EncodeFault.{EncodeFault}
use Rattle.artery_header.specs.declared.fault.EncodeFault.TheVariants.{NoMemory}
use Rattle.artery_header.specs.Envelope.{NameOf, Literal, Index, EnvelopeOf, canonical, refusal}
use Rattle.artery_tables.specs.Story.{version_of}
use Rattle.artery_tables.specs.OutTable.{Held, State, index_in, last_value}
use Rattle.artery_codec.specs.Meaning.{Meaning, Entries}

-- A table to write with: its version, and the index of each name that it has.
pub record Indices : Type 0 where
  pub version : ℕ
  pub index_of : List ℕ → Option ℕ

-- The table that is held.
abbrev pub held_indices : Held → Indices
held_indices held = record { version = version_of held.number; index_of = index_in held }

-- The table that came with these pairs: the last index that a name is paired with counts.
abbrev pub paired_indices : State → Indices
paired_indices s = record { version = version_of s.number; index_of = λ name. last_value name s.pairs }

-- A name with an index is written as it, and any other in full.
abbrev pub indexed : List ℕ → Option ℕ → NameOf
indexed name None = Literal name
indexed name (Some i) = Index i

-- A name is written as an index exactly where it is not empty and the table has it.
abbrev pub written_name : Indices → List ℕ → NameOf
written_name table [] = Literal []
written_name table (byte ∷ bytes) = indexed (byte ∷ bytes) (table.index_of (byte ∷ bytes))

-- The envelope that a message is written as: sender and recipient by the table of references, the manifest by that of manifests.
abbrev pub written : Indices → Indices → Meaning → EnvelopeOf
written refs manifests m = record {
  uid = m.uid;
  refs_version = refs.version;
  manifests_version = manifests.version;
  serializer = m.serializer;
  sender = written_name refs m.sender;
  recipient = written_name refs m.recipient;
  manifest = written_name manifests m.manifest;
  payload = m.payload;
}

-- The envelope of a message, by the pairs that the tables came with.
abbrev pub envelope_paired : Meaning → State → State → EnvelopeOf
envelope_paired m refs manifests = written (paired_indices refs) (paired_indices manifests) m

-- The envelope of a message, by the tables that are held.
abbrev pub envelope_held : Meaning → Held → Held → EnvelopeOf
envelope_held m refs manifests = written (held_indices refs) (held_indices manifests) m

-- The version of the table names its own entries to the receiver.
abbrev pub NamesItsEntries : Indices → Entries → Type 0
NamesItsEntries table entries = (name : List ℕ) (i : ℕ) → table.index_of name ≡ Some i → entries table.version i ≡ Ok name

-- The canonical bytes of the envelope were appended. A refused one, and want of memory, changed nothing.
pub record Writes {T : Type 0} (result : Result T EncodeFault) (old new : List ℕ) (c : EnvelopeOf) : Type 0 where
  pub refused : IfSome (refusal c) (λ fault. result ≡ Err fault)
  pub memory : refusal c ≡ None → IsOkUnless result NoMemory
  pub ok : OnOk result (new ≡ old ++ canonical c)
  pub err : OnErr result (new ≡ old)
