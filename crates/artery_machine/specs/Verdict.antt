-- What a frame on an inbound connection is: the first rule that drops it, or what it says.
use Rattle.std.specs.Prelude.{ℕ, ◌==◌, Bool, true, false, ◌&&◌, ◌||◌, not, is_some, if◌then◌else◌, ℤ, pos, List, Option, None, Some, Result, Ok, Err, bytes_eq, codes}
use Rattle.artery_base.specs.declared.address.UniqueAddress.{UniqueAddress}
use Rattle.artery_base.specs.Words.{◌>>=◌}
use Rattle.artery_control.specs.declared.control.Control.{Control}
use Rattle.artery_control.specs.declared.control.Control.TheVariants as controls
use Rattle.artery_control.specs.declared.fault.ControlFault.{ControlFault}
use Rattle.artery_control.specs.declared.fault.ControlFault.TheVariants as control_faults
use Rattle.artery_control.specs.declared.path.Path.{Path as ControlPath}
use Rattle.artery_control.specs.declared.path.Path.TheVariants as control_paths
use Rattle.artery_control.specs.Message.{message_of}
use Rattle.artery_wire.specs.declared.fault.WireFault.{WireFault}
use Rattle.artery_wire.specs.declared.fault.WireFault.TheVariants as wire_faults
use Rattle.artery_codec.specs.declared.message.DropRule.{DropRule}
use Rattle.artery_codec.specs.declared.message.DropRule.TheVariants as codec_rules
use Rattle.artery_codec.specs.Meaning.{Meaning, envelope_meaning}
use Rattle.artery_header.specs.declared.envelope.Which.{Which as HeaderWhich}
use Rattle.artery_header.specs.declared.envelope.Which.TheVariants as header_names
use Rattle.artery_header.specs.declared.fault.HeaderFault.{HeaderFault}
use Rattle.artery_header.specs.declared.fault.HeaderFault.TheVariants as header_faults
use Rattle.artery_header.specs.Envelope.{EnvelopeOf, read_of}
use Rattle.artery_tables.specs.declared.table.TableFault.{TableFault}
use Rattle.artery_tables.specs.declared.table.TableFault.TheVariants as table_faults
use Rattle.artery_frame.specs.declared.stream.Stream.{Stream}
use Rattle.artery_frame.specs.declared.stream.Stream.TheVariants as streams
use Rattle.artery_handshake.specs.declared.in_conn.InState.{InState}
use Rattle.artery_handshake.specs.declared.in_conn.InState.TheVariants.{Raw, Known}
use Rattle.artery_journal.specs.declared.fault.Fault.{Fault}
use Rattle.artery_journal.specs.declared.fault.Fault.TheVariants as faults
use Rattle.artery_journal.specs.declared.path.Path.{Path}
use Rattle.artery_journal.specs.declared.path.Path.TheVariants as paths
use Rattle.artery_journal.specs.declared.rule.Rule.{Rule}
use Rattle.artery_journal.specs.declared.rule.Rule.TheVariants as rules
use Rattle.artery_journal.specs.declared.words.Which.{Which}
use Rattle.artery_journal.specs.declared.words.Which.TheVariants as names
use Rattle.artery_machine.specs.Parts.{Parts}
use Rattle.artery_machine.specs.Node.{Node, Inbound, origin_at, same_unique, has_closed, OfKinds, of_each, speaker_in}

-- ---- the words of a fault

-- Which name of a header it is.
abbrev pub name_word : HeaderWhich → Which
name_word header_names.Sender = names.Sender
name_word header_names.Recipient = names.Recipient
name_word header_names.Manifest = names.Manifest

-- The rule for the fault of a header.
abbrev pub header_rule : HeaderFault → Rule
header_rule (header_faults.Short len) = rules.Short len
header_rule (header_faults.Version v) = rules.Version v
header_rule header_faults.Metadata = rules.Metadata
header_rule (header_faults.LiteralPast which) = rules.LiteralPast (name_word which)
header_rule (header_faults.NotAscii which) = rules.NotAscii (name_word which)

-- The rule for a name that means nothing.
abbrev pub table_rule : Which → TableFault → Rule
table_rule which (table_faults.UnknownVersion v) = rules.UnknownVersion which v
table_rule which (table_faults.UnknownIndex v i) = rules.UnknownIndex which v i

-- The rule for an envelope that has no meaning.
abbrev pub codec_rule : DropRule → Rule
codec_rule (codec_rules.Header fault) = header_rule fault
codec_rule (codec_rules.Table which fault) = table_rule (name_word which) fault

-- The path of a field.
abbrev pub path_word : ControlPath → Path
path_word control_paths.Message = paths.Message
path_word (control_paths.Field a) = paths.Field a
path_word (control_paths.Inner a b) = paths.Inner a b
path_word (control_paths.Innermost a b c) = paths.Innermost a b c

-- The fault of a record at its place.
abbrev pub wire_word : Path → WireFault → Fault
wire_word path (wire_faults.Varint at) = faults.Varint at path
wire_word path (wire_faults.WireType at) = faults.WireType at path
wire_word path (wire_faults.Truncated at) = faults.Truncated at path
wire_word path (wire_faults.FieldNumber at) = faults.FieldNumber at path

-- The fault of a control message. Want of memory is no fault of a message, and never comes of one: it would read as an unknown manifest.
abbrev pub control_word : ControlFault → Fault
control_word control_faults.UnknownManifest = faults.UnknownManifest
control_word (control_faults.Wire path fault) = wire_word (path_word path) fault
control_word (control_faults.Missing path) = faults.Missing (path_word path)
control_word (control_faults.BadText path) = faults.BadText (path_word path)
control_word (control_faults.Range path) = faults.Range (path_word path)
control_word (control_faults.Unequal keys values) = faults.Unequal keys values
control_word control_faults.NoMemory = faults.UnknownManifest

-- ---- what a frame says

-- What a frame says: a control message, or an ordinary one with the envelope in which it came.
pub data Content : Type 0 where
  Controls : Control → Content
  Ordinary : EnvelopeOf → Meaning → Content

-- Control messages have serializer 17.
abbrev pub is_control_serializer : ℤ → Bool
is_control_serializer (pos n) = n == 17
is_control_serializer _ = false

-- The manifest of a handshake request.
abbrev pub is_request_letter : List ℕ → Bool
is_request_letter manifest = bytes_eq manifest (codes "d")

-- Whether a message belongs on a stream: on the control stream control messages, on the ordinary stream all others and handshake requests.
abbrev pub belongs_on : Stream → Meaning → Bool
belongs_on streams.Control m = is_control_serializer m.serializer
belongs_on streams.Ordinary m = not (is_control_serializer m.serializer) || is_request_letter m.manifest

-- The same where no stream is known, which never is so once a frame came.
abbrev pub belongs : Option Stream → Meaning → Bool
belongs None m = true
belongs (Some stream) m = belongs_on stream m

-- What is read of a control message, or the rule for its fault.
abbrev pub control_read : Result Control ControlFault → Result Content Rule
control_read (Ok control) = Ok (Controls control)
control_read (Err fault) = Err (rules.Control (control_word fault))

-- What a message says: by its serializer a control message, or else an ordinary one.
abbrev pub content_of : EnvelopeOf → Meaning → Result Content Rule
content_of envelope m = if is_control_serializer m.serializer then control_read (message_of m.manifest m.payload) else Ok (Ordinary envelope m)

-- Whether it is a handshake request or its answer.
abbrev pub is_handshake : Content → Bool
is_handshake (Controls (controls.HandshakeReq from to its_nonce)) = true
is_handshake (Controls (controls.HandshakeRsp from for_uid its_nonce)) = true
is_handshake _ = false

-- Who says that it speaks, where a message says so.
abbrev pub speaker_of : Control → Option UniqueAddress
speaker_of (controls.Quarantined from to) = Some from
speaker_of (controls.Terminating from) = Some from
speaker_of (controls.TerminatingAck from) = Some from
speaker_of (controls.HandshakeReq from to its_nonce) = Some from
speaker_of (controls.HandshakeRsp from for_uid its_nonce) = Some from
speaker_of (controls.RefsTable from origin_uid version keys values sequence) = Some from
speaker_of (controls.RefsAck from version sequence) = Some from
speaker_of (controls.ManifestsTable from origin_uid version keys values sequence) = Some from
speaker_of (controls.ManifestsAck from version sequence) = Some from
speaker_of (controls.Numbered n message reply_to) = Some reply_to
speaker_of (controls.Ack n from) = Some from
speaker_of (controls.Nack n from) = Some from
speaker_of controls.Heartbeat = None
speaker_of (controls.HeartbeatRsp uid) = None

-- The UID that a message says is its sender's, where it says so.
abbrev pub uid_said : Control → Option UniqueAddress → Option ℕ
uid_said (controls.HeartbeatRsp uid) speaker = Some uid
uid_said control None = None
uid_said control (Some v) = Some v.uid

-- Whether a UID is that one, where there is one.
abbrev pub agrees_with : ℕ → Option ℕ → Bool
agrees_with uid None = true
agrees_with uid (Some said) = said == uid

-- Whether a speaker is the origin that is known on the connection, where both are there.
abbrev pub is_the_known : InState → Option UniqueAddress → Bool
is_the_known Raw speaker = true
is_the_known (Known who its_nonce) None = true
is_the_known (Known who its_nonce) (Some v) = same_unique v who

-- Whether a message comes from the one that it says: its UID is the header's, and on a known connection it is the origin.
abbrev pub is_from : ℕ → InState → Content → Bool
is_from uid state (Ordinary envelope m) = true
is_from uid state (Controls control) = agrees_with uid (uid_said control (speaker_of control)) && is_the_known state (speaker_of control)

-- Whether the UID of a header is that of the origin, where one is known.
abbrev pub is_uid_of : InState → ℕ → Bool
is_uid_of Raw uid = true
is_uid_of (Known who its_nonce) uid = uid == who.uid

-- What a frame is: dropped by a rule; dropped, whatever it says, since its origin was closed; or what it says.
pub data Verdict : Type 0 where
  Dropped : Rule → Verdict
  OfClosed : Content → Verdict
  Says : Content → Verdict

-- The rule that drops a frame, where one does.
abbrev pub rule_of : Verdict → Option Rule
rule_of (Dropped rule) = Some rule
rule_of (OfClosed content) = Some rules.Closed
rule_of (Says content) = None

-- What is said, unless a rule drops it before; of a closed origin all but a handshake is dropped.
abbrev pub judged : Bool → Result Content Rule → Verdict
judged shut (Err rule) = Dropped rule
judged shut (Ok content) = if shut && not (is_handshake content) then OfClosed content else Says content

-- ---- the rules in their order

-- Nothing, or the rule that drops a frame.
abbrev pub unless_dropped : {X : Type 0} → Bool → Rule → X → Result X Rule
unless_dropped good rule x = if good then Ok x else Err rule

-- What an envelope means, or the rule for a name that means nothing.
abbrev pub meaning_or_rule : Result Meaning DropRule → Result Meaning Rule
meaning_or_rule (Ok m) = Ok m
meaning_or_rule (Err rule) = Err (codec_rule rule)

-- The meaning of an envelope by these tables.
abbrev pub meant : (P : Parts) → OfKinds P.Announced → EnvelopeOf → Result Meaning DropRule
meant P tables envelope = envelope_meaning (P.entries tables.refs) (P.entries tables.manifests) envelope

-- What an envelope with this meaning says on a connection, or the first of these rules that drops it: a name means nothing; it does not belong on the stream; it is no control message; nobody is known to speak yet and it is no handshake; it is not from the one that it says.
unfoldable pub said_by : InState → Option Stream → EnvelopeOf → Result Meaning Rule → Result Content Rule
said_by state stream envelope meaning = do
  m ← meaning
  on_stream ← unless_dropped (belongs stream m) rules.Stream m
  content ← content_of envelope m
  handshake ← unless_dropped (is_some (speaker_in state) || is_handshake content) rules.NoHandshake content
  unless_dropped (is_from envelope.uid state content) rules.From content

module _ {P : Parts} where
  -- The tables by which the names on a connection are read: those announced to its origin, and empty ones where none is known.
  abbrev pub tables_for : InState → Node P → OfKinds P.Announced
  tables_for Raw n = of_each P.nothing_announced
  tables_for (Known who its_nonce) n = (origin_at who n).tables

  -- What an envelope on this stream says: one whose UID is not the origin's is dropped before its names are read.
  abbrev pub envelope_said : Option Stream → Node P → Inbound P → EnvelopeOf → Result Content Rule
  envelope_said stream n i envelope =
      if is_uid_of i.state envelope.uid
      then said_by i.state stream envelope (meaning_or_rule (meant P (tables_for i.state n) envelope))
      else Err rules.Uid

  -- What is read of a frame says that; a frame that is no envelope is dropped for its fault.
  abbrev pub read_said : Option Stream → Node P → Inbound P → Result EnvelopeOf HeaderFault → Result Content Rule
  read_said stream n i (Ok envelope) = envelope_said stream n i envelope
  read_said stream n i (Err fault) = Err (header_rule fault)

  -- What a frame on this stream says, or the first of the rules that drops it.
  abbrev pub content_in : Option Stream → Node P → Inbound P → List ℕ → Result Content Rule
  content_in stream n i frame = read_said stream n i (read_of frame)

  -- Whether the origin that is known on a connection was closed.
  abbrev pub is_shut : Node P → Option UniqueAddress → Bool
  is_shut n None = false
  is_shut n (Some v) = has_closed v n

  -- The verdict on a frame: the first rule that drops it, or what it says. Behind the rules above, all but a handshake is dropped where the origin was closed.
  abbrev pub verdict : Option Stream → Node P → Inbound P → List ℕ → Verdict
  verdict stream n i frame = judged (is_shut n (speaker_in i.state)) (content_in stream n i frame)
