-- What a frame means: its message, with each name replaced by what it means; else the first rule that drops it.
use Rattle.std.specs.Prelude.{ℕ, ℤ, List, Result, Ok, Err}
use Rattle.std.specs.Str.{IsAscii}
use Rattle.artery_base.specs.Words.{◌>>=◌}
use Rattle.artery_header.specs.declared.envelope.Which.{Which}
use Rattle.artery_header.specs.declared.envelope.Which.TheVariants.{Sender, Recipient, Manifest}
use Rattle.artery_header.specs.declared.fault.HeaderFault.{HeaderFault}
use Rattle.artery_header.specs.Envelope.{NameOf, Literal, Index, EnvelopeOf, read_of}
use Rattle.artery_tables.specs.declared.table.TableFault.{TableFault}
use Rattle.artery_tables.specs.Story.{Story, entry_of}
use Rattle.artery_tables.specs.InTables.{Kept, entry_kept}
use Rattle.artery_codec.specs.declared.message.Message.{Message}
use Rattle.artery_codec.specs.declared.message.DropRule.{DropRule}
use Rattle.artery_codec.specs.declared.message.DropRule.TheVariants.{Header, Table}

-- A message without where its names and its payload lie.
pub record Meaning : Type 0 where
  pub uid : ℕ
  pub serializer : ℤ
  pub sender : List ℕ
  pub recipient : List ℕ
  pub manifest : List ℕ
  pub payload : List ℕ

-- What a message means.
abbrev pub meaning : Message → Meaning
meaning m = record {
  uid = m.uid;
  serializer = m.serializer;
  sender = m.sender.now;
  recipient = m.recipient.now;
  manifest = m.manifest.now;
  payload = m.payload.now;
}

-- The names of the message are ASCII.
pub record HasAsciiNames (m : Meaning) : Type 0 where
  pub sender : IsAscii m.sender
  pub recipient : IsAscii m.recipient
  pub manifest : IsAscii m.manifest

-- What the tables of one kind hold: under a version and at an index the entry, or why there is none.
abbrev pub Entries : Type 0
Entries = ℕ → ℕ → Result (List ℕ) TableFault

-- Where the tables have no entry for a name, that is the rule that drops the frame.
abbrev pub ruled : Which → Result (List ℕ) TableFault → Result (List ℕ) DropRule
ruled which (Ok name) = Ok name
ruled which (Err fault) = Err (Table which fault)

-- A name means itself where it is a text, and else the entry at its number under the envelope's version.
abbrev pub name_meaning : Entries → Which → ℕ → NameOf → Result (List ℕ) DropRule
name_meaning entries which version (Literal text) = Ok text
name_meaning entries which version (Index i) = ruled which (entries version i)

-- The message of an envelope: sender and recipient by the tables of references, the manifest by those of manifests. Where some of these
-- names mean nothing, the first of them in this order drops the frame.
unfoldable pub envelope_meaning : Entries → Entries → EnvelopeOf → Result Meaning DropRule
envelope_meaning refs manifests c = do
  sender ← name_meaning refs Sender c.refs_version c.sender
  recipient ← name_meaning refs Recipient c.refs_version c.recipient
  manifest ← name_meaning manifests Manifest c.manifests_version c.manifest
  Ok (record {
    uid = c.uid;
    serializer = c.serializer;
    sender = sender;
    recipient = recipient;
    manifest = manifest;
    payload = c.payload;
  })

-- Bytes that are no envelope are dropped for their first fault.
abbrev pub read_meaning : Entries → Entries → Result EnvelopeOf HeaderFault → Result Meaning DropRule
read_meaning refs manifests (Ok c) = envelope_meaning refs manifests c
read_meaning refs manifests (Err fault) = Err (Header fault)

-- The message that a frame means, or the first rule that drops it.
abbrev pub frame_meaning : Entries → Entries → List ℕ → Result Meaning DropRule
frame_meaning refs manifests frame = read_meaning refs manifests (read_of frame)

-- The meaning of a frame, by the stories of the tables of references and of manifests.
abbrev pub meaning_of : List ℕ → Story → Story → Result Meaning DropRule
meaning_of frame refs manifests = frame_meaning (entry_of refs) (entry_of manifests) frame

-- The meaning of a frame, by what is kept of the tables.
abbrev pub meaning_kept : List ℕ → Kept → Kept → Result Meaning DropRule
meaning_kept frame refs manifests = frame_meaning (entry_kept refs) (entry_kept manifests) frame
