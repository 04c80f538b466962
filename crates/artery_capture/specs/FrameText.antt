-- The lines of a frame: what it carries, or why it is dropped, and behind a control frame its message.
use Rattle.std.specs.Prelude.{ℕ, ℤ, pos, negsuc, Bool, false, ◌==◌, if◌then◌else◌, List, [], ◌++◌, codes, decimal, Result, Ok, Err}
use Rattle.std.specs.Fmt.{signed_decimal}
use Rattle.artery_text.specs.Spelling.{word_text, hex_text}
use Rattle.artery_control.specs.Message.{message_of}
use Rattle.artery_header.specs.declared.envelope.Which.{Which}
use Rattle.artery_header.specs.declared.envelope.Which.TheVariants.{Sender, Recipient, Manifest}
use Rattle.artery_header.specs.declared.fault.HeaderFault.{HeaderFault}
use Rattle.artery_header.specs.declared.fault.HeaderFault.TheVariants.{Short, Version, Metadata, LiteralPast, NotAscii}
use Rattle.artery_header.specs.Envelope.{NameOf as Named, Literal as Text, Index as Number, EnvelopeOf as Contents, read_of}
use Rattle.artery_capture.specs.ControlText.{control_line}

-- a name: a word, or `@` and its number in a table
abbrev pub name_text : Named → List ℕ
name_text (Text text) = word_text text
name_text (Number i) = codes "@" ++ decimal i

-- the numbers of an envelope: who sent it, the versions of its tables of references and of manifests, its serializer
abbrev pub numbers_text : Contents → List ℕ
numbers_text c = decimal c.uid ++ codes " " ++ decimal c.refs_version ++ codes " " ++ decimal c.manifests_version ++ codes " " ++ signed_decimal c.serializer

-- the names of an envelope
abbrev pub names_text : Contents → List ℕ
names_text c = name_text c.sender ++ codes " " ++ name_text c.recipient ++ codes " " ++ name_text c.manifest

-- what an envelope carries: its numbers, its names and its payload in hexadecimal
abbrev pub contents_text : Contents → List ℕ
contents_text c = numbers_text c ++ codes " " ++ names_text c ++ codes " " ++ hex_text c.payload

-- the line of an envelope
abbrev pub frame_line : Contents → List ℕ
frame_line c = codes "frame " ++ contents_text c ++ codes "\n"

-- the word for one of the three names
abbrev pub which_word : Which → List ℕ
which_word Sender = codes "sender"
which_word Recipient = codes "recipient"
which_word Manifest = codes "manifest"

-- why a frame is no envelope
abbrev pub header_fault_text : HeaderFault → List ℕ
header_fault_text (Short len) = codes "short " ++ decimal len
header_fault_text (Version v) = codes "version " ++ decimal v
header_fault_text Metadata = codes "metadata"
header_fault_text (LiteralPast which) = codes "literal-past " ++ which_word which
header_fault_text (NotAscii which) = codes "not-ascii " ++ which_word which

-- the line of a frame that is no envelope
abbrev pub drop_line : HeaderFault → List ℕ
drop_line fault = codes "drop " ++ header_fault_text fault ++ codes "\n"

-- control messages have a serializer of their own, 17
abbrev pub is_control_serializer : ℤ → Bool
is_control_serializer (pos n) = n == 17
is_control_serializer (negsuc n) = false

-- a payload with a literal manifest is read as a control message
abbrev pub literal_lines : Named → List ℕ → List ℕ
literal_lines (Text manifest) payload = control_line (message_of manifest payload)
literal_lines (Number i) payload = []

-- behind a frame of control messages' serializer stands its message
abbrev pub message_lines : Contents → List ℕ
message_lines c = if is_control_serializer c.serializer then literal_lines c.manifest c.payload else []

-- a frame's lines, where its bytes are read so
abbrev pub read_lines : Result Contents HeaderFault → List ℕ
read_lines (Ok c) = frame_line c ++ message_lines c
read_lines (Err fault) = drop_line fault

-- the lines of a frame with these bytes
abbrev pub frame_lines : List ℕ → List ℕ
frame_lines bytes = read_lines (read_of bytes)
