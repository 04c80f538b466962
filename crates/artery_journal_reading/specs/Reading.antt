-- What is read from the fields of a journal line.
use Rattle.std.specs.Prelude.{◌≡◌, ℕ, ℤ, ◌+◌, Bool, ◌==◌, if◌then◌else◌, List, [], ◌∷◌, take, drop, position, codes, bytes_eq, Option, None, Some}
use Rattle.std.specs.Int.{is_in_range}
use Rattle.std.specs.Result.{result_ok}
use Rattle.artery_base.specs.declared.address.UniqueAddress.{UniqueAddress}
use Rattle.artery_base.specs.declared.message.SysMsg.{SysMsg}
use Rattle.artery_base.specs.declared.message.Tell.{Tell}
use Rattle.artery_text.specs.Reading.{number_of, int32_of, unique_of}
use Rattle.artery_lines.specs.Lines.{◌>>=◌, tokens_of}
use Rattle.artery_script.specs.Reading.{with_rest, field, both, made, ended, by_word, word_told, hex_told, ascii_told, moment_told, actor_path_told, actor_told}
use Rattle.artery_journal.specs.declared.words.Cause.{Cause}
use Rattle.artery_journal.specs.declared.words.Cause.TheVariants as causes
use Rattle.artery_journal.specs.declared.words.Kind.{Kind}
use Rattle.artery_journal.specs.declared.words.Kind.TheVariants as kinds
use Rattle.artery_journal.specs.declared.words.Reason.{Reason}
use Rattle.artery_journal.specs.declared.words.Reason.TheVariants as reasons
use Rattle.artery_journal.specs.declared.words.Which.{Which}
use Rattle.artery_journal.specs.declared.words.Which.TheVariants as whiches
use Rattle.artery_journal.specs.declared.path.Path.{Path}
use Rattle.artery_journal.specs.declared.path.Path.TheVariants as paths
use Rattle.artery_journal.specs.declared.fault.Fault.{Fault}
use Rattle.artery_journal.specs.declared.fault.Fault.TheVariants as faults
use Rattle.artery_journal.specs.declared.rule.Rule.{Rule}
use Rattle.artery_journal.specs.declared.rule.Rule.TheVariants as rules
use Rattle.artery_journal.specs.declared.line.Line.{Line}
use Rattle.artery_journal.specs.declared.line.Line.TheVariants as lines
use Rattle.artery_journal.specs.declared.stamped.Stamped.{Stamped}

-- ---- one field

-- an incarnation
abbrev pub unique_told : List ℕ → Option UniqueAddress
unique_told text = result_ok (unique_of text)

-- a name of an ordinary message: a word of ASCII bytes
abbrev pub name_told : List ℕ → Option (List ℕ)
name_told text = word_told text >>= ascii_told

-- a nonce, `-` where it is absent
abbrev pub nonce_told : List ℕ → Option (Option ℕ)
nonce_told text = if bytes_eq text (codes "-") then Some None else (number_of text >>= λ n. Some (Some n))

-- which table
abbrev pub kind_told : List ℕ → Option Kind
kind_told text = if bytes_eq text (codes "refs") then Some kinds.Refs
    else if bytes_eq text (codes "manifests") then Some kinds.Manifests
    else None

-- which name of an envelope
abbrev pub which_told : List ℕ → Option Which
which_told text = if bytes_eq text (codes "sender") then Some whiches.Sender
    else if bytes_eq text (codes "recipient") then Some whiches.Recipient
    else if bytes_eq text (codes "manifest") then Some whiches.Manifest
    else None

-- why an incarnation was closed
abbrev pub cause_told : List ℕ → Option Cause
cause_told text = if bytes_eq text (codes "superseded") then Some causes.Superseded
    else if bytes_eq text (codes "quarantined") then Some causes.Quarantined
    else if bytes_eq text (codes "unreachable") then Some causes.Unreachable
    else if bytes_eq text (codes "overflow") then Some causes.Overflow
    else if bytes_eq text (codes "undelivered") then Some causes.Undelivered
    else None

-- why something was refused of an actor, or of an address
unfoldable pub actor_reason_told : List ℕ → Option Reason
actor_reason_told text = if bytes_eq text (codes "exists") then Some reasons.Exists
    else if bytes_eq text (codes "actors") then Some reasons.Actors
    else if bytes_eq text (codes "not-there") then Some reasons.NotThere
    else if bytes_eq text (codes "not-current") then Some reasons.NotCurrent
    else if bytes_eq text (codes "closed-uids") then Some reasons.ClosedUids
    else if bytes_eq text (codes "remote-watches") then Some reasons.RemoteWatches
    else None

-- why something was refused
unfoldable pub reason_told : List ℕ → Option Reason
reason_told text = if bytes_eq text (codes "peers") then Some reasons.Peers
    else if bytes_eq text (codes "connections") then Some reasons.Connections
    else if bytes_eq text (codes "waiting") then Some reasons.Waiting
    else if bytes_eq text (codes "held") then Some reasons.Held
    else if bytes_eq text (codes "watching") then Some reasons.Watching
    else if bytes_eq text (codes "watches") then Some reasons.Watches
    else if bytes_eq text (codes "not-watched") then Some reasons.NotWatched
    else actor_reason_told text

-- ---- where a field of a control message is

-- whether a byte is `.`
abbrev pub is_dot : ℕ → Bool
is_dot b = b == 46

-- a number that is one of a field
abbrev pub as_field_number : ℕ → Option ℕ
as_field_number n = if is_in_range 1 255 n then Some n else None

-- the number of a field, 1 to 255
abbrev pub field_number_told : List ℕ → Option ℕ
field_number_told text = number_of text >>= as_field_number

-- the number behind two others, where no dot is left to part it
abbrev pub innermost_told : ℕ → ℕ → List ℕ → Option Path
innermost_told a b text = field_number_told text >>= λ c. Some (paths.Innermost a b c)

-- what stands behind the first number, parted at its first dot
abbrev pub inner_told : ℕ → List ℕ → Option ℕ → Option Path
inner_told a text None = field_number_told text >>= λ b. Some (paths.Inner a b)
inner_told a text (Some at) = field_number_told (take at text) >>= λ b. innermost_told a b (drop (at + 1) text)

-- numbers, parted at the first dot
abbrev pub numbers_told : List ℕ → Option ℕ → Option Path
numbers_told text None = field_number_told text >>= λ a. Some (paths.Field a)
numbers_told text (Some at) = field_number_told (take at text) >>= λ a. inner_told a (drop (at + 1) text) (position is_dot (drop (at + 1) text))

-- where a field is: one to three numbers with a dot between each two, or `-`
unfoldable pub path_told : List ℕ → Option Path
path_told text = if bytes_eq text (codes "-") then Some paths.Message else numbers_told text (position is_dot text)

-- ---- faults and rules

-- a place and a path
abbrev pub place_path : List (List ℕ) → Option ((ℕ × Path) × List (List ℕ))
place_path = both (field number_of) (field path_told)

-- two numbers
abbrev pub two_numbers : List (List ℕ) → Option ((ℕ × ℕ) × List (List ℕ))
two_numbers = both (field number_of) (field number_of)

-- faults of a field, and the others, by their word
unfoldable pub field_fault_named : List ℕ → List (List ℕ) → Option (Fault × List (List ℕ))
field_fault_named word fields = if bytes_eq word (codes "missing") then made (λ p. faults.Missing p) (field path_told) fields
    else if bytes_eq word (codes "bad-text") then made (λ p. faults.BadText p) (field path_told) fields
    else if bytes_eq word (codes "range") then made (λ p. faults.Range p) (field path_told) fields
    else if bytes_eq word (codes "unequal") then made (λ p. faults.Unequal p.0 p.1) two_numbers fields
    else if bytes_eq word (codes "unknown-manifest") then Some (faults.UnknownManifest, fields)
    else None

-- faults of the bytes of a message, by their word; then those above
unfoldable pub fault_named : List ℕ → List (List ℕ) → Option (Fault × List (List ℕ))
fault_named word fields = if bytes_eq word (codes "varint") then made (λ p. faults.Varint p.0 p.1) place_path fields
    else if bytes_eq word (codes "wire-type") then made (λ p. faults.WireType p.0 p.1) place_path fields
    else if bytes_eq word (codes "truncated") then made (λ p. faults.Truncated p.0 p.1) place_path fields
    else if bytes_eq word (codes "field-number") then made (λ p. faults.FieldNumber p.0 p.1) place_path fields
    else field_fault_named word fields

-- the fault of a payload that is no control message
abbrev pub fault_in : List (List ℕ) → Option (Fault × List (List ℕ))
fault_in = by_word fault_named

-- rules about who speaks with whom, which are a word alone
unfoldable pub peer_rule_told : List ℕ → Option Rule
peer_rule_told word = if bytes_eq word (codes "not-me") then Some rules.NotMe
    else if bytes_eq word (codes "from") then Some rules.From
    else if bytes_eq word (codes "self") then Some rules.Itself
    else if bytes_eq word (codes "origin") then Some rules.Origin
    else if bytes_eq word (codes "peers") then Some rules.Peers
    else if bytes_eq word (codes "origins") then Some rules.Origins
    else if bytes_eq word (codes "closed") then Some rules.Closed
    else if bytes_eq word (codes "not-current") then Some rules.NotCurrent
    else None

-- the other rules that are a word alone; then those above
unfoldable pub plain_rule_told : List ℕ → Option Rule
plain_rule_told word = if bytes_eq word (codes "metadata") then Some rules.Metadata
    else if bytes_eq word (codes "bad-magic") then Some rules.BadMagic
    else if bytes_eq word (codes "bad-stream") then Some rules.BadStream
    else if bytes_eq word (codes "too-long") then Some rules.TooLong
    else if bytes_eq word (codes "uid") then Some rules.Uid
    else if bytes_eq word (codes "stream") then Some rules.Stream
    else if bytes_eq word (codes "no-handshake") then Some rules.NoHandshake
    else if bytes_eq word (codes "old-table") then Some rules.OldTable
    else if bytes_eq word (codes "ack-range") then Some rules.AckRange
    else if bytes_eq word (codes "unused") then Some rules.Unused
    else peer_rule_told word

-- a name of an envelope and a version
abbrev pub which_version : List (List ℕ) → Option ((Which × ℕ) × List (List ℕ))
which_version = both (field which_told) (field number_of)

-- rules of tables and of control messages, by their word; then those above
unfoldable pub table_rule_named : List ℕ → List (List ℕ) → Option (Rule × List (List ℕ))
table_rule_named word fields = if bytes_eq word (codes "unknown-version") then made (λ p. rules.UnknownVersion p.0 p.1) which_version fields
    else if bytes_eq word (codes "unknown-index") then made (λ p. rules.UnknownIndex p.0.0 p.0.1 p.1) (both which_version (field number_of)) fields
    else if bytes_eq word (codes "control") then made (λ f. rules.Control f) fault_in fields
    else with_rest fields (plain_rule_told word)

-- rules of envelopes, by their word; then those above
unfoldable pub rule_named : List ℕ → List (List ℕ) → Option (Rule × List (List ℕ))
rule_named word fields = if bytes_eq word (codes "short") then made (λ n. rules.Short n) (field number_of) fields
    else if bytes_eq word (codes "version") then made (λ n. rules.Version n) (field number_of) fields
    else if bytes_eq word (codes "literal-past") then made (λ w. rules.LiteralPast w) (field which_told) fields
    else if bytes_eq word (codes "not-ascii") then made (λ w. rules.NotAscii w) (field which_told) fields
    else table_rule_named word fields

-- the rule by which something was dropped
abbrev pub rule_in : List (List ℕ) → Option (Rule × List (List ℕ))
rule_in = by_word rule_named

-- ---- messages

-- a system message
unfoldable pub message_in : List (List ℕ) → Option (SysMsg × List (List ℕ))
message_in = made (λ p. record { serializer = p.0; manifest = p.1.0; payload = p.1.1 }) (both (field int32_of) (both (field word_told) (field hex_told)))

-- who sends, and to whom
unfoldable pub names_in : List (List ℕ) → Option ((List ℕ × List ℕ) × List (List ℕ))
names_in = both (field name_told) (field name_told)

-- what an ordinary message says
unfoldable pub content_in : List (List ℕ) → Option ((ℤ × (List ℕ × List ℕ)) × List (List ℕ))
content_in = both (field int32_of) (both (field name_told) (field hex_told))

-- an ordinary message
unfoldable pub tell_in : List (List ℕ) → Option (Tell × List (List ℕ))
tell_in = made (λ p. record { sender = p.0.0; recipient = p.0.1; serializer = p.1.0; manifest = p.1.1.0; payload = p.1.1.1 }) (both names_in content_in)

-- ---- lines

-- another incarnation and a number
unfoldable pub other_number : List (List ℕ) → Option ((UniqueAddress × ℕ) × List (List ℕ))
other_number = both (field unique_told) (field number_of)

-- another incarnation and a nonce
unfoldable pub other_nonce : List (List ℕ) → Option ((UniqueAddress × Option ℕ) × List (List ℕ))
other_nonce = both (field unique_told) (field nonce_told)

-- another incarnation and a table of its
unfoldable pub other_table : List (List ℕ) → Option ((UniqueAddress × (Kind × ℕ)) × List (List ℕ))
other_table = both (field unique_told) (both (field kind_told) (field number_of))

-- lines of tables and of what was dropped, by their word
unfoldable pub table_named : UniqueAddress → List ℕ → List (List ℕ) → Option (Line × List (List ℕ))
table_named of word fields = if bytes_eq word (codes "advertised") then made (λ p. lines.Advertised of p.0.0 p.0.1.0 p.0.1.1 p.1) (both other_table (field number_of)) fields
    else if bytes_eq word (codes "adopted") then made (λ p. lines.Adopted of p.0 p.1.0 p.1.1) other_table fields
    else if bytes_eq word (codes "skipped") then made (λ p. lines.Skipped of p.0.0 p.0.1 p.1.0 p.1.1) (both two_numbers two_numbers) fields
    else if bytes_eq word (codes "dropped") then made (λ p. lines.Dropped of p.0 p.1) (both (field number_of) rule_in) fields
    else None

-- lines of messages, by their word; then those above
unfoldable pub message_named : UniqueAddress → List ℕ → List (List ℕ) → Option (Line × List (List ℕ))
message_named of word fields = if bytes_eq word (codes "sent") then made (λ p. lines.Sent of p.0.0 p.0.1 p.1) (both other_number message_in) fields
    else if bytes_eq word (codes "took") then made (λ p. lines.Took of p.0.0 p.0.1 p.1) (both other_number message_in) fields
    else if bytes_eq word (codes "told") then made (λ p. lines.Told of p.0.0 p.0.1 p.1) (both other_number tell_in) fields
    else if bytes_eq word (codes "got") then made (λ p. lines.Got of p.0.0 p.0.1 p.1) (both other_nonce tell_in) fields
    else table_named of word fields

-- lines of another incarnation and one thing more, by their word; then those above
unfoldable pub other_more_named : UniqueAddress → List ℕ → List (List ℕ) → Option (Line × List (List ℕ))
other_more_named of word fields = if bytes_eq word (codes "again") then made (λ p. lines.Again of p.0 p.1) other_number fields
    else if bytes_eq word (codes "gap") then made (λ p. lines.Gap of p.0 p.1) other_number fields
    else if bytes_eq word (codes "stray") then made (λ p. lines.Stray of p.0 p.1) other_nonce fields
    else if bytes_eq word (codes "closed") then made (λ p. lines.Closed of p.0 p.1) (both (field unique_told) (field cause_told)) fields
    else message_named of word fields

-- lines of another incarnation alone, by their word; then those above
unfoldable pub other_named : UniqueAddress → List ℕ → List (List ℕ) → Option (Line × List (List ℕ))
other_named of word fields = if bytes_eq word (codes "learnt") then made (λ v. lines.Learnt of v) (field unique_told) fields
    else if bytes_eq word (codes "barred") then made (λ v. lines.Barred of v) (field unique_told) fields
    else if bytes_eq word (codes "notice") then made (λ v. lines.Notice of v) (field unique_told) fields
    else if bytes_eq word (codes "idle") then made (λ v. lines.Idle of v) (field unique_told) fields
    else other_more_named of word fields

-- lines of actors and of what was refused, by their word; then those above
unfoldable pub actor_named : UniqueAddress → List ℕ → List (List ℕ) → Option (Line × List (List ℕ))
actor_named of word fields = if bytes_eq word (codes "watched") then made (λ p. lines.Watched of p.0 p.1.0 p.1.1) (both (field number_of) (both (field actor_told) (field actor_told))) fields
    else if bytes_eq word (codes "refused") then made (λ r. lines.Refused of r) (field reason_told) fields
    else if bytes_eq word (codes "spawned") then made (λ p. lines.Spawned of p) (field actor_path_told) fields
    else if bytes_eq word (codes "ended") then made (λ p. lines.Ended of p) (field actor_path_told) fields
    else other_named of word fields

-- lines of an incarnation, from the fields behind it, by their word
unfoldable pub line_named : UniqueAddress → List ℕ → List (List ℕ) → Option (Line × List (List ℕ))
line_named of word fields = if bytes_eq word (codes "started") then Some (lines.Started of, fields)
    else if bytes_eq word (codes "stopped") then Some (lines.Stopped of, fields)
    else if bytes_eq word (codes "unwatched") then made (λ n. lines.Unwatched of n) (field number_of) fields
    else if bytes_eq word (codes "terminated") then made (λ n. lines.Terminated of n) (field number_of) fields
    else actor_named of word fields

-- what an incarnation did: a word, and what the line tells more
abbrev pub deed_in : UniqueAddress → List (List ℕ) → Option (Line × List (List ℕ))
deed_in of = by_word (line_named of)

-- a line: whose it is, and what it did
abbrev pub line_in : List (List ℕ) → Option (Line × List (List ℕ))
line_in fields = field unique_told fields >>= λ u. deed_in u.0 u.1

-- the line that a text tells, if it tells one
unfoldable pub line_of : List ℕ → Option Line
line_of text = line_in (tokens_of text) >>= ended

-- a moment, and a line behind it
abbrev pub moment_line : List (List ℕ) → Option ((ℕ × Line) × List (List ℕ))
moment_line = both (field moment_told) line_in

-- a line with its moment
abbrev pub stamped_in : List (List ℕ) → Option (Stamped × List (List ℕ))
stamped_in = made (λ p. record { moment = p.0; line = p.1 }) moment_line

-- the line of a journal of form 2 that a text tells, if it tells one
unfoldable pub stamped_of : List ℕ → Option Stamped
stamped_of text = stamped_in (tokens_of text) >>= ended
