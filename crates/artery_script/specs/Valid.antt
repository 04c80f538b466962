-- Which events and requests a line can tell.
use Rattle.std.specs.Prelude.{◌≡◌, ℕ, ℤ, pos, ◌^◌, ◌<◌, ◌≤◌, Bool, true, false, ◌&&◌, ◌==◌, nat_lt, IsTrue, List, ◌++◌, length, slice_index, Option, Some, None, FitsSigned, IsAscii}
use Rattle.std.specs.Ordering.{int_eq}
use Rattle.std.specs.Int.{w32}
use Rattle.std.specs.List.{list_all}
use Rattle.artery_base.specs.declared.address.Address.{Address}
use Rattle.artery_base.specs.declared.message.SysMsg.{SysMsg}
use Rattle.artery_base.specs.declared.message.Tell.{Tell}
use Rattle.artery_base.specs.declared.message.Request.{Request}
use Rattle.artery_base.specs.declared.message.Request.TheVariants as requests
use Rattle.artery_base.specs.Valid.{AreBytes, IsAddress, IsUniqueAddress}
use Rattle.artery_text.specs.Spelling.{address_text, is_plain}
use Rattle.artery_script.specs.declared.event.Event.{Event}
use Rattle.artery_script.specs.declared.event.Event.TheVariants as events
use Rattle.artery_script.specs.Limits.{moment_end, most_rounds, most_payload, most_name, most_reference, most_path}

-- a number for which no other range is given
abbrev pub IsNumber : ℕ → Type 0
IsNumber n = n < 2 ^ 64

-- a moment
abbrev pub IsMoment : ℕ → Type 0
IsMoment n = n < moment_end

-- how many bytes arrive: at least one
abbrev pub IsCount : ℕ → Type 0
IsCount n = (1 ≤ n) × (n < 2 ^ 64)

-- how many rounds pass: 1 to 1,000
abbrev pub IsRounds : ℕ → Type 0
IsRounds n = (1 ≤ n) × (n ≤ most_rounds)

-- one dial's number, or all dials
abbrev pub IsDials : Option ℕ → Type 0
IsDials None = Unit {0}
IsDials (Some dial) = IsNumber dial

-- the serializer of control messages
abbrev pub control_serializer : ℤ
control_serializer = pos 17

-- the serializer of an ordinary message: an int32 other than that of control messages
abbrev pub IsOrdinary : ℤ → Type 0
IsOrdinary z = FitsSigned w32 z × (int_eq z control_serializer ≡ false)

-- a payload of at most 131,072 bytes
abbrev pub IsPayload : List ℕ → Type 0
IsPayload payload = length payload ≤ most_payload

-- the manifest of a system message: at most 4,096 bytes
abbrev pub IsManifest : List ℕ → Type 0
IsManifest manifest = length manifest ≤ most_name

-- a sender, a recipient or a manifest of an ordinary message: at most 4,096 bytes of ASCII
abbrev pub IsName : List ℕ → Type 0
IsName name = IsAscii name × (length name ≤ most_name)

-- a system message that a line can tell
pub record IsMessage (m : SysMsg) : Type 0 where
  pub serializer : FitsSigned w32 m.serializer
  pub manifest : IsManifest m.manifest
  pub payload : IsPayload m.payload

-- an ordinary message that a line can tell
pub record IsTell (m : Tell) : Type 0 where
  pub sender : IsName m.sender
  pub recipient : IsName m.recipient
  pub serializer : IsOrdinary m.serializer
  pub manifest : IsName m.manifest
  pub payload : IsPayload m.payload

-- whether this is the path of an actor: `/`, and at least one visible byte other than `%`
abbrev pub is_actor_path : List ℕ → Bool
is_actor_path path = nat_lt 1 (length path) && slice_index path 0 == 47 && list_all is_plain path

-- the path of an actor, of at most 1,024 bytes
abbrev pub IsPath : List ℕ → Type 0
IsPath path = IsTrue (is_actor_path path) × (length path ≤ most_path)

-- an actor of a system: the system's address, and behind it the actor's path
pub record IsActor (text : List ℕ) : Type 0 where
  pub address : Address
  pub path : List ℕ
  pub spelled : text ≡ address_text address ++ path
  pub address_good : IsAddress address
  pub path_good : IsTrue (is_actor_path path)

-- an actor of a system, of at most 4,096 bytes as a whole
abbrev pub IsReference : List ℕ → Type 0
IsReference text = IsActor text × (length text ≤ most_reference)

-- a request that a line can tell
abbrev pub IsRequest : Request → Type 0
IsRequest (requests.Pair address) = IsAddress address
IsRequest (requests.Send address message) = IsAddress address × IsMessage message
IsRequest (requests.Tell address message) = IsAddress address × IsTell message
IsRequest (requests.Watch path watchee) = IsPath path × IsReference watchee
IsRequest (requests.Unwatch path watchee) = IsPath path × IsReference watchee
IsRequest (requests.Spawn path) = IsPath path
IsRequest (requests.Kill path) = IsPath path
IsRequest (requests.Quarantine address) = IsAddress address

-- a request that bears a message
abbrev pub BearsMessage : Request → Type 0
BearsMessage (requests.Send address message) = Unit {0}
BearsMessage (requests.Tell address message) = Unit {0}
BearsMessage _ = ⊥

-- a request line of a node: `same` stands before a request that bears a message alone
abbrev pub IsAsked : Bool × Request → Type 0
IsAsked (false, request) = IsRequest request
IsAsked (true, request) = IsRequest request × BearsMessage request

-- an event that a line can tell
abbrev pub IsEvent : Event → Type 0
IsEvent (events.Start unique) = IsUniqueAddress unique
IsEvent (events.Stop uid) = IsNumber uid
IsEvent (events.At uid request) = IsNumber uid × IsRequest request
IsEvent (events.Tick uid moment) = IsNumber uid × IsMoment moment
IsEvent (events.Answer uid dial) = IsNumber uid × IsNumber dial
IsEvent (events.Fail uid dial) = IsNumber uid × IsNumber dial
IsEvent (events.Carry uid dial count) = IsNumber uid × IsNumber dial × IsCount count
IsEvent (events.Cut uid dial) = IsNumber uid × IsNumber dial
IsEvent (events.End uid dial) = IsNumber uid × IsNumber dial
IsEvent (events.CutAll uid) = IsNumber uid
IsEvent (events.EndAll uid) = IsNumber uid
IsEvent (events.Pass rounds) = IsRounds rounds

-- a system message whose manifest and payload are bytes, as those of a value that a program holds are
pub record MessageHasBytes (m : SysMsg) : Type 0 where
  pub manifest : AreBytes m.manifest
  pub payload : AreBytes m.payload

-- the same of the message of a request; one without a message has no bytes
abbrev pub RequestHasBytes : Request → Type 0
RequestHasBytes (requests.Send address message) = MessageHasBytes message
RequestHasBytes (requests.Tell address message) = AreBytes message.payload
RequestHasBytes _ = Unit {0}

-- the same of an event
abbrev pub EventHasBytes : Event → Type 0
EventHasBytes (events.At uid request) = RequestHasBytes request
EventHasBytes _ = Unit {0}
