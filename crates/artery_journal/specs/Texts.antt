-- The texts of journal lines. Each line has one.
use Rattle.std.specs.Prelude.{ℕ, List, [], ◌∷◌, ◌++◌, codes, decimal, flat_map, Option, Some, None}
use Rattle.std.specs.Fmt.{signed_decimal}
use Rattle.artery_base.specs.declared.address.UniqueAddress.{UniqueAddress}
use Rattle.artery_base.specs.declared.message.SysMsg.{SysMsg}
use Rattle.artery_base.specs.declared.message.Tell.{Tell}
use Rattle.artery_text.specs.Spelling.{unique_text, word_text, hex_text}
use Rattle.artery_journal.specs.declared.words.Cause.{Cause}
use Rattle.artery_journal.specs.declared.words.Cause.TheVariants as causes
use Rattle.artery_journal.specs.declared.words.Kind.{Kind}
use Rattle.artery_journal.specs.declared.words.Kind.TheVariants as kinds
use Rattle.artery_journal.specs.declared.words.Reason.{Reason}
use Rattle.artery_journal.specs.declared.words.Reason.TheVariants as reasons
use Rattle.artery_journal.specs.declared.words.Which.{Which}
use Rattle.artery_journal.specs.declared.words.Which.TheVariants as whiches
use Rattle.artery_journal.specs.declared.path.Path.{Path}
use Rattle.artery_journal.specs.declared.path.Path.TheVariants as paths
use Rattle.artery_journal.specs.declared.fault.Fault.{Fault}
use Rattle.artery_journal.specs.declared.fault.Fault.TheVariants as faults
use Rattle.artery_journal.specs.declared.rule.Rule.{Rule}
use Rattle.artery_journal.specs.declared.rule.Rule.TheVariants as rules
use Rattle.artery_journal.specs.declared.line.Line.{Line}
use Rattle.artery_journal.specs.declared.line.Line.TheVariants as lines
use Rattle.artery_journal.specs.declared.stamped.Stamped.{Stamped}

-- ---- words

-- an incarnation: its unique address
unfoldable pub who : UniqueAddress → List ℕ
who u = unique_text u

-- why an incarnation was closed
abbrev pub cause_text : Cause → List ℕ
cause_text causes.Superseded = codes "superseded"
cause_text causes.Quarantined = codes "quarantined"
cause_text causes.Unreachable = codes "unreachable"
cause_text causes.Overflow = codes "overflow"
cause_text causes.Undelivered = codes "undelivered"

-- which table
abbrev pub kind_text : Kind → List ℕ
kind_text kinds.Refs = codes "refs"
kind_text kinds.Manifests = codes "manifests"

-- why something was refused
abbrev pub reason_text : Reason → List ℕ
reason_text reasons.Peers = codes "peers"
reason_text reasons.Connections = codes "connections"
reason_text reasons.Waiting = codes "waiting"
reason_text reasons.Held = codes "held"
reason_text reasons.Watching = codes "watching"
reason_text reasons.Watches = codes "watches"
reason_text reasons.NotWatched = codes "not-watched"
reason_text reasons.Exists = codes "exists"
reason_text reasons.Actors = codes "actors"
reason_text reasons.NotThere = codes "not-there"
reason_text reasons.NotCurrent = codes "not-current"
reason_text reasons.ClosedUids = codes "closed-uids"
reason_text reasons.RemoteWatches = codes "remote-watches"

-- which name of an envelope
abbrev pub which_text : Which → List ℕ
which_text whiches.Sender = codes "sender"
which_text whiches.Recipient = codes "recipient"
which_text whiches.Manifest = codes "manifest"

-- where a field is: the numbers of the fields that lead there, joined by dots; `-` for the message itself
abbrev pub path_text : Path → List ℕ
path_text paths.Message = codes "-"
path_text (paths.Field a) = decimal a
path_text (paths.Inner a b) = decimal a ++ codes "." ++ decimal b
path_text (paths.Innermost a b c) = decimal a ++ codes "." ++ decimal b ++ codes "." ++ decimal c

-- a nonce, `-` where it is absent
abbrev pub nonce_text : Option ℕ → List ℕ
nonce_text None = codes "-"
nonce_text (Some n) = decimal n

-- ---- fields

-- the first fault of a payload: its word, then its place where it has one, and where the field is
abbrev pub fault_fields : Fault → List (List ℕ)
fault_fields faults.UnknownManifest = codes "unknown-manifest" ∷ []
fault_fields (faults.Varint at path) = codes "varint" ∷ decimal at ∷ path_text path ∷ []
fault_fields (faults.WireType at path) = codes "wire-type" ∷ decimal at ∷ path_text path ∷ []
fault_fields (faults.Truncated at path) = codes "truncated" ∷ decimal at ∷ path_text path ∷ []
fault_fields (faults.FieldNumber at path) = codes "field-number" ∷ decimal at ∷ path_text path ∷ []
fault_fields (faults.Missing path) = codes "missing" ∷ path_text path ∷ []
fault_fields (faults.BadText path) = codes "bad-text" ∷ path_text path ∷ []
fault_fields (faults.Range path) = codes "range" ∷ path_text path ∷ []
fault_fields (faults.Unequal keys values) = codes "unequal" ∷ decimal keys ∷ decimal values ∷ []

-- a rule: its word, and what it tells more
abbrev pub rule_fields : Rule → List (List ℕ)
rule_fields (rules.Short len) = codes "short" ∷ decimal len ∷ []
rule_fields (rules.Version version) = codes "version" ∷ decimal version ∷ []
rule_fields rules.Metadata = codes "metadata" ∷ []
rule_fields (rules.LiteralPast which) = codes "literal-past" ∷ which_text which ∷ []
rule_fields (rules.NotAscii which) = codes "not-ascii" ∷ which_text which ∷ []
rule_fields (rules.UnknownVersion which version) = codes "unknown-version" ∷ which_text which ∷ decimal version ∷ []
rule_fields (rules.UnknownIndex which version index) = codes "unknown-index" ∷ which_text which ∷ decimal version ∷ decimal index ∷ []
rule_fields rules.BadMagic = codes "bad-magic" ∷ []
rule_fields rules.BadStream = codes "bad-stream" ∷ []
rule_fields rules.TooLong = codes "too-long" ∷ []
rule_fields (rules.Control fault) = codes "control" ∷ fault_fields fault
rule_fields rules.Uid = codes "uid" ∷ []
rule_fields rules.Stream = codes "stream" ∷ []
rule_fields rules.NoHandshake = codes "no-handshake" ∷ []
rule_fields rules.NotMe = codes "not-me" ∷ []
rule_fields rules.From = codes "from" ∷ []
rule_fields rules.Itself = codes "self" ∷ []
rule_fields rules.Origin = codes "origin" ∷ []
rule_fields rules.Peers = codes "peers" ∷ []
rule_fields rules.Origins = codes "origins" ∷ []
rule_fields rules.Closed = codes "closed" ∷ []
rule_fields rules.NotCurrent = codes "not-current" ∷ []
rule_fields rules.OldTable = codes "old-table" ∷ []
rule_fields rules.AckRange = codes "ack-range" ∷ []
rule_fields rules.Unused = codes "unused" ∷ []

-- a system message: its serializer, its manifest as a word, its payload in hexadecimal
abbrev pub message_fields : SysMsg → List (List ℕ)
message_fields m = signed_decimal m.serializer ∷ word_text m.manifest ∷ hex_text m.payload ∷ []

-- an ordinary message: sender and recipient as words, and then as a system message
abbrev pub tell_fields : Tell → List (List ℕ)
tell_fields m = word_text m.sender ∷ word_text m.recipient ∷ signed_decimal m.serializer ∷ word_text m.manifest ∷ hex_text m.payload ∷ []

-- ---- lines

-- the incarnation that a line is of
abbrev pub author : Line → UniqueAddress
author (lines.Started of) = of
author (lines.Stopped of) = of
author (lines.Learnt of other) = of
author (lines.Closed of other cause) = of
author (lines.Sent of other n message) = of
author (lines.Took of other n message) = of
author (lines.Again of other n) = of
author (lines.Gap of other n) = of
author (lines.Told of other dial message) = of
author (lines.Got of other its_nonce message) = of
author (lines.Dropped of conn rule) = of
author (lines.Stray of other its_nonce) = of
author (lines.Barred of other) = of
author (lines.Notice of other) = of
author (lines.Watched of id watcher watchee) = of
author (lines.Unwatched of id) = of
author (lines.Terminated of id) = of
author (lines.Refused of reason) = of
author (lines.Spawned of path) = of
author (lines.Ended of path) = of
author (lines.Advertised of other kind version count) = of
author (lines.Adopted of other kind version) = of
author (lines.Skipped of sender k seen now) = of
author (lines.Idle of other) = of

-- what it did: a word, and what the line tells more
abbrev pub deed : Line → List (List ℕ)
deed (lines.Started of) = codes "started" ∷ []
deed (lines.Stopped of) = codes "stopped" ∷ []
deed (lines.Learnt of other) = codes "learnt" ∷ who other ∷ []
deed (lines.Closed of other cause) = codes "closed" ∷ who other ∷ cause_text cause ∷ []
deed (lines.Sent of other n message) = codes "sent" ∷ who other ∷ decimal n ∷ message_fields message
deed (lines.Took of other n message) = codes "took" ∷ who other ∷ decimal n ∷ message_fields message
deed (lines.Again of other n) = codes "again" ∷ who other ∷ decimal n ∷ []
deed (lines.Gap of other n) = codes "gap" ∷ who other ∷ decimal n ∷ []
deed (lines.Told of other dial message) = codes "told" ∷ who other ∷ decimal dial ∷ tell_fields message
deed (lines.Got of other its_nonce message) = codes "got" ∷ who other ∷ nonce_text its_nonce ∷ tell_fields message
deed (lines.Dropped of conn rule) = codes "dropped" ∷ decimal conn ∷ rule_fields rule
deed (lines.Stray of other its_nonce) = codes "stray" ∷ who other ∷ nonce_text its_nonce ∷ []
deed (lines.Barred of other) = codes "barred" ∷ who other ∷ []
deed (lines.Notice of other) = codes "notice" ∷ who other ∷ []
deed (lines.Watched of id watcher watchee) = codes "watched" ∷ decimal id ∷ watcher ∷ watchee ∷ []
deed (lines.Unwatched of id) = codes "unwatched" ∷ decimal id ∷ []
deed (lines.Terminated of id) = codes "terminated" ∷ decimal id ∷ []
deed (lines.Refused of reason) = codes "refused" ∷ reason_text reason ∷ []
deed (lines.Spawned of path) = codes "spawned" ∷ path ∷ []
deed (lines.Ended of path) = codes "ended" ∷ path ∷ []
deed (lines.Advertised of other kind version count) = codes "advertised" ∷ who other ∷ kind_text kind ∷ decimal version ∷ decimal count ∷ []
deed (lines.Adopted of other kind version) = codes "adopted" ∷ who other ∷ kind_text kind ∷ decimal version ∷ []
deed (lines.Skipped of sender k seen now) = codes "skipped" ∷ decimal sender ∷ decimal k ∷ decimal seen ∷ decimal now ∷ []
deed (lines.Idle of other) = codes "idle" ∷ who other ∷ []

-- fields, each behind one space
abbrev pub spaced : List (List ℕ) → List ℕ
spaced [] = []
spaced (field ∷ fields) = 32 ∷ (field ++ spaced fields)

-- a line, without its line feed: whose it is, and what it did
abbrev pub line_text : Line → List ℕ
line_text line = who (author line) ++ spaced (deed line)

-- a line of a journal of form 2: its moment, a space, and the line
abbrev pub stamped_text : Stamped → List ℕ
stamped_text s = decimal s.moment ++ codes " " ++ line_text s.line
