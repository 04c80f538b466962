-- A numbered message that bears the expected number and meets no rule is taken, and its acknowledgement is written or owed.
use Rattle.std.specs.Prelude.{◌≡◌, ◌<◌, ℕ, ◌+◌, true, List, [], ◌∷◌, ◌++◌, length, Option, None, Some, IsSome}
use Rattle.artery_base.specs.declared.address.UniqueAddress.{UniqueAddress}
use Rattle.artery_base.specs.declared.message.SysMsg.{SysMsg}
use Rattle.artery_control.specs.declared.control.Control.TheVariants as controls
use Rattle.artery_delivery.specs.Inbound.{taken_of, messages_from}
use Rattle.artery_delivery.specs.Limits.{never_expected}
use Rattle.artery_frame.specs.declared.stream.Stream.{Stream}
use Rattle.artery_journal.specs.declared.line.Line.TheVariants as lines
use Rattle.artery_machine.specs.Deeds.{Deed, Writes, Tells, Controls as ControlsWritten}
use Rattle.artery_machine.specs.Parts.{whole}
use Rattle.artery_machine.specs.Node.{Node, Inbound, speaker_in, has_origin, origin_at}
use Rattle.artery_machine.specs.Verdict.{Controls, Says, verdict}
use Rattle.artery_machine.specs.Closing.{control_dial}
use Rattle.artery_machine.specs.Making.{uses}
use Rattle.artery_machine.specs.Doing.{listed, Doing}

-- A node at work that did nothing yet.
abbrev pub at_work : Node whole → Doing whole listed
at_work n = record { node = n; deeds = [] }

-- A frame on the connection of an origin says a numbered message, no rule drops it, the origin is known, and the number is the one behind those of the messages taken from it.
pub record IsExpected (stream : Option Stream) (n : Node whole) (i : Inbound whole) (frame : List ℕ) (v : UniqueAddress) (number : ℕ) (message : SysMsg) : Type 0 where
  pub speaker : speaker_in i.state ≡ Some v
  pub reply_to : UniqueAddress
  pub says : verdict stream n i frame ≡ Says (Controls (controls.Numbered number message reply_to))
  pub opened : IsSome (taken_of v n.taken)
  pub origin : has_origin v n ≡ true
  pub next : number ≡ length (messages_from v n.taken) + 1
  pub limit : number < never_expected

-- A line tells that the message was taken, and right behind it its acknowledgement is written on the connection with this dial number.
pub record IsAcknowledged (dial : ℕ) (n : Node whole) (v : UniqueAddress) (number : ℕ) (message : SysMsg) (after : Doing whole listed) : Type 0 where
  pub before : List Deed
  pub behind : List Deed
  pub deeds : after.deeds ≡ before ++ Tells (lines.Took n.me v number message) ∷ Writes dial (ControlsWritten (controls.Ack number n.me)) ∷ behind

-- A line tells that the message was taken, and an acknowledgement is owed to its origin.
pub record IsOwed (n : Node whole) (v : UniqueAddress) (number : ℕ) (message : SysMsg) (after : Doing whole listed) : Type 0 where
  pub before : List Deed
  pub behind : List Deed
  pub deeds : after.deeds ≡ before ++ Tells (lines.Took n.me v number message) ∷ behind
  pub owes : (origin_at v after.node).owes ≡ true

-- The acknowledgement is written where the control connection is bound to the origin, and owed where it is not.
abbrev pub IsWrittenOrOwed : Option ℕ → Node whole → UniqueAddress → ℕ → SysMsg → Doing whole listed → Type 0
IsWrittenOrOwed (Some dial) n v number message after = IsAcknowledged dial n v number message after
IsWrittenOrOwed None n v number message after = IsOwed n v number message after

-- The message is the last of those taken from its origin; a line tells so; and its acknowledgement is written or owed, by the control connection that there is once the peer was used.
pub record IsTaken (n : Node whole) (v : UniqueAddress) (number : ℕ) (message : SysMsg) (after : Doing whole listed) : Type 0 where
  pub taken : messages_from v after.node.taken ≡ messages_from v n.taken ++ message ∷ []
  pub told : IsWrittenOrOwed (control_dial v (uses v.address (at_work n)).node) n v number message after
