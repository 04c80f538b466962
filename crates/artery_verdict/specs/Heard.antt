-- What is told of a frame, and what a frame says by the state of its connection and by its tables.
use Rattle.std.specs.Prelude.{◌≡◌, ℕ, List, Option, Result, Ok, Err, if◌then◌else◌}
use Rattle.artery_base.specs.declared.message.Tell.{Tell}
use Rattle.artery_codec.specs.Meaning.{Meaning}
use Rattle.artery_frame.specs.declared.stream.Stream.{Stream}
use Rattle.artery_handshake.specs.declared.in_conn.InState.{InState}
use Rattle.artery_header.specs.declared.fault.HeaderFault.{HeaderFault}
use Rattle.artery_header.specs.Envelope.{EnvelopeOf, envelope_of, read_of}
use Rattle.artery_journal.specs.declared.rule.Rule.{Rule}
use Rattle.artery_journal.specs.declared.rule.Rule.TheVariants as rules
use Rattle.artery_tables.specs.InTables.{Kept}
use Rattle.artery_machine.specs.Parts.{kept}
use Rattle.artery_machine.specs.Node.{OfKinds}
use Rattle.artery_machine.specs.Verdict.{Content, Controls, Ordinary, header_rule, is_uid_of, meaning_or_rule, meant, said_by}
use Rattle.artery_verdict.specs.declared.content.Content.{Content as Told}
use Rattle.artery_verdict.specs.declared.content.Content.TheVariants as told
use Rattle.artery_verdict.specs.declared.content.NotSaid.{NotSaid}
use Rattle.artery_verdict.specs.declared.content.NotSaid.TheVariants as reasons

-- ---- what is told

-- The meaning of a message that came from this UID.
abbrev pub tell_meaning : ℕ → Tell → Meaning
tell_meaning uid m = record {
  uid = uid;
  serializer = m.serializer;
  sender = m.sender;
  recipient = m.recipient;
  manifest = m.manifest;
  payload = m.payload;
}

-- What is told of a frame, without where its envelope lies.
abbrev pub content_told : Told → Content
content_told (told.Control control) = Controls control
content_told (told.Ordinary envelope message) = Ordinary (envelope_of envelope) (tell_meaning envelope.uid message)

-- A rule drops a frame where it says nothing but this rule. Want of memory claims nothing.
abbrev pub IsUnsaid : NotSaid → Result Content Rule → Type 0
IsUnsaid (reasons.Dropped rule) said = said ≡ Err rule
IsUnsaid reasons.NoMemory said = Unit {0}

-- What is told is what the frame says, or the rule that drops it.
abbrev pub IsSaid : Result Told NotSaid → Result Content Rule → Type 0
IsSaid (Ok content) said = said ≡ Ok (content_told content)
IsSaid (Err reason) said = IsUnsaid reason said

-- ---- what a frame says

-- What an envelope says on a connection in this state, by these tables: one whose UID is not the origin's is dropped before its names are read.
abbrev pub envelope_heard : InState → Option Stream → OfKinds Kept → EnvelopeOf → Result Content Rule
envelope_heard state stream tables envelope =
    if is_uid_of state envelope.uid
    then said_by state stream envelope (meaning_or_rule (meant kept tables envelope))
    else Err rules.Uid

-- What is read of a frame says that; a frame that is no envelope is dropped for its fault.
abbrev pub read_heard : InState → Option Stream → OfKinds Kept → Result EnvelopeOf HeaderFault → Result Content Rule
read_heard state stream tables (Ok envelope) = envelope_heard state stream tables envelope
read_heard state stream tables (Err fault) = Err (header_rule fault)

-- What a frame says, or the first of the rules that drops it.
abbrev pub frame_heard : InState → Option Stream → OfKinds Kept → List ℕ → Result Content Rule
frame_heard state stream tables frame = read_heard state stream tables (read_of frame)
