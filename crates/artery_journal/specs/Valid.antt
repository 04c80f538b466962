-- Which journal lines have a text.
use Rattle.std.specs.Prelude.{◌≡◌, ℕ, ◌^◌, ◌<◌, ◌≤◌, Bool, ◌&&◌, ◌==◌, nat_lt, IsTrue, List, ◌++◌, length, slice_index, Option, Some, None, FitsSigned, IsAscii}
use Rattle.std.specs.Int.{w32}
use Rattle.std.specs.List.{list_all}
use Rattle.artery_base.specs.declared.address.Address.{Address}
use Rattle.artery_base.specs.declared.message.SysMsg.{SysMsg}
use Rattle.artery_base.specs.declared.message.Tell.{Tell}
use Rattle.artery_base.specs.Valid.{AreBytes, is_visible, IsAddress, IsUniqueAddress}
use Rattle.artery_text.specs.Spelling.{address_text, is_plain}
use Rattle.artery_journal.specs.declared.path.Path.{Path}
use Rattle.artery_journal.specs.declared.path.Path.TheVariants as paths
use Rattle.artery_journal.specs.declared.fault.Fault.{Fault}
use Rattle.artery_journal.specs.declared.fault.Fault.TheVariants as faults
use Rattle.artery_journal.specs.declared.rule.Rule.{Rule}
use Rattle.artery_journal.specs.declared.rule.Rule.TheVariants as rules
use Rattle.artery_journal.specs.declared.line.Line.{Line}
use Rattle.artery_journal.specs.declared.line.Line.TheVariants as lines
use Rattle.artery_journal.specs.declared.stamped.Stamped.{Stamped}
use Rattle.artery_journal.specs.Texts.{author}

-- a number for which no other range is given
abbrev pub IsNumber : ℕ → Type 0
IsNumber n = n < 2 ^ 64

-- the number of a field that a path names
abbrev pub IsFieldNumber : ℕ → Type 0
IsFieldNumber n = (1 ≤ n) × (n ≤ 255)

-- one to three of them, or none
abbrev pub IsPath : Path → Type 0
IsPath paths.Message = Unit {0}
IsPath (paths.Field a) = IsFieldNumber a
IsPath (paths.Inner a b) = IsFieldNumber a × IsFieldNumber b
IsPath (paths.Innermost a b c) = IsFieldNumber a × IsFieldNumber b × IsFieldNumber c

-- a fault whose numbers have texts
abbrev pub IsFault : Fault → Type 0
IsFault faults.UnknownManifest = Unit {0}
IsFault (faults.Varint at path) = IsNumber at × IsPath path
IsFault (faults.WireType at path) = IsNumber at × IsPath path
IsFault (faults.Truncated at path) = IsNumber at × IsPath path
IsFault (faults.FieldNumber at path) = IsNumber at × IsPath path
IsFault (faults.Missing path) = IsPath path
IsFault (faults.BadText path) = IsPath path
IsFault (faults.Range path) = IsPath path
IsFault (faults.Unequal keys values) = IsNumber keys × IsNumber values

-- a rule whose numbers have texts
abbrev pub IsRule : Rule → Type 0
IsRule (rules.Short len) = IsNumber len
IsRule (rules.Version version) = IsNumber version
IsRule (rules.UnknownVersion which version) = IsNumber version
IsRule (rules.UnknownIndex which version index) = IsNumber version × IsNumber index
IsRule (rules.Control fault) = IsFault fault
IsRule _ = Unit {0}

-- an absent nonce, or a number
abbrev pub IsNonce : Option ℕ → Type 0
IsNonce None = Unit {0}
IsNonce (Some n) = IsNumber n

-- a system message with an int32 for its serializer
abbrev pub IsMessage : SysMsg → Type 0
IsMessage m = FitsSigned w32 m.serializer

-- an ordinary message with an int32 for its serializer, whose names are ASCII
pub record IsTell (m : Tell) : Type 0 where
  pub sender : IsAscii m.sender
  pub recipient : IsAscii m.recipient
  pub serializer : FitsSigned w32 m.serializer
  pub manifest : IsAscii m.manifest

-- whether this is the path of an actor: `/`, and at least one visible byte other than `%`
abbrev pub is_actor_path : List ℕ → Bool
is_actor_path path = nat_lt 1 (length path) && slice_index path 0 == 47 && list_all is_plain path

-- an actor of a system: the system's address, and behind it the actor's path
pub record IsRef (text : List ℕ) : Type 0 where
  pub address : Address
  pub path : List ℕ
  pub spelled : text ≡ address_text address ++ path
  pub address_good : IsAddress address
  pub path_good : IsTrue (is_actor_path path)

-- what a line tells behind the incarnation that it is of, has a text
abbrev pub IsDeed : Line → Type 0
IsDeed (lines.Started of) = Unit {0}
IsDeed (lines.Stopped of) = Unit {0}
IsDeed (lines.Learnt of other) = IsUniqueAddress other
IsDeed (lines.Closed of other cause) = IsUniqueAddress other
IsDeed (lines.Sent of other n message) = IsUniqueAddress other × IsNumber n × IsMessage message
IsDeed (lines.Took of other n message) = IsUniqueAddress other × IsNumber n × IsMessage message
IsDeed (lines.Again of other n) = IsUniqueAddress other × IsNumber n
IsDeed (lines.Gap of other n) = IsUniqueAddress other × IsNumber n
IsDeed (lines.Told of other dial message) = IsUniqueAddress other × IsNumber dial × IsTell message
IsDeed (lines.Got of other its_nonce message) = IsUniqueAddress other × IsNonce its_nonce × IsTell message
IsDeed (lines.Dropped of conn rule) = IsNumber conn × IsRule rule
IsDeed (lines.Stray of other its_nonce) = IsUniqueAddress other × IsNonce its_nonce
IsDeed (lines.Barred of other) = IsUniqueAddress other
IsDeed (lines.Notice of other) = IsUniqueAddress other
IsDeed (lines.Watched of id watcher watchee) = IsNumber id × IsRef watcher × IsRef watchee
IsDeed (lines.Unwatched of id) = IsNumber id
IsDeed (lines.Terminated of id) = IsNumber id
IsDeed (lines.Refused of reason) = Unit {0}
IsDeed (lines.Spawned of path) = IsTrue (is_actor_path path)
IsDeed (lines.Ended of path) = IsTrue (is_actor_path path)
IsDeed (lines.Advertised of other kind version count) = IsUniqueAddress other × IsNumber version × IsNumber count
IsDeed (lines.Adopted of other kind version) = IsUniqueAddress other × IsNumber version
IsDeed (lines.Skipped of sender k seen now) = IsNumber sender × IsNumber k × IsNumber seen × IsNumber now
IsDeed (lines.Idle of other) = IsUniqueAddress other

-- a line that has a text
pub record IsLine (line : Line) : Type 0 where
  pub author : IsUniqueAddress (author line)
  pub deed : IsDeed line

-- a line of a journal of form 2 that has a text: its moment is below 2^62
pub record IsStamped (s : Stamped) : Type 0 where
  pub moment : s.moment < 2 ^ 62
  pub line : IsLine s.line

-- a system message whose manifest and payload are bytes, as those of a value that a program holds are
pub record MessageHasBytes (m : SysMsg) : Type 0 where
  pub manifest : AreBytes m.manifest
  pub payload : AreBytes m.payload

-- the same of the message of a line; a line without one has no bytes
abbrev pub HasBytes : Line → Type 0
HasBytes (lines.Sent of other n message) = MessageHasBytes message
HasBytes (lines.Took of other n message) = MessageHasBytes message
HasBytes (lines.Told of other dial message) = AreBytes message.payload
HasBytes (lines.Got of other its_nonce message) = AreBytes message.payload
HasBytes _ = Unit {0}
