-- What a node does at an input.
use Rattle.std.specs.Prelude.{ℕ, nat_lt, Bool, not, if◌then◌else◌, List, [], ◌∷◌, length, Option, None, Some}
use Rattle.std.specs.List.{filter, list_any}
use Rattle.artery_base.specs.declared.address.Address.{Address}
use Rattle.artery_base.specs.declared.address.UniqueAddress.{UniqueAddress}
use Rattle.artery_base.specs.declared.message.Request.{Request}
use Rattle.artery_base.specs.declared.message.Request.TheVariants as requests
use Rattle.artery_frame.specs.declared.fault.FrameFault.{FrameFault}
use Rattle.artery_frame.specs.declared.fault.FrameFault.TheVariants as frame_faults
use Rattle.artery_journal.specs.declared.line.Line.TheVariants as lines
use Rattle.artery_journal.specs.declared.words.Reason.TheVariants as reasons
use Rattle.artery_journal.specs.declared.words.Cause.TheVariants as causes
use Rattle.artery_journal.specs.declared.rule.Rule.{Rule as DropRule}
use Rattle.artery_journal.specs.declared.rule.Rule.TheVariants as rules
use Rattle.artery_machine.specs.declared.input.Conn.{Conn}
use Rattle.artery_machine.specs.declared.input.Conn.TheVariants.{Outward, Inward}
use Rattle.artery_machine.specs.declared.input.Input.{Input}
use Rattle.artery_machine.specs.declared.input.Input.TheVariants as inputs
use Rattle.artery_machine.specs.Deeds.{Tells, Hangs}
use Rattle.artery_machine.specs.Parts.{Parts}
use Rattle.artery_machine.specs.Node.{Node, Inbound, new_node, accepted_as, put_inbound, inbound_at, is_number, peer_at, current_of}
use Rattle.artery_machine.specs.Making.{at_request}
use Rattle.artery_machine.specs.Closing.{closes_current}
use Rattle.artery_machine.specs.Sending.{sends, tells_message}
use Rattle.artery_machine.specs.Watching.{watches, unwatches, spawns, kills}
use Rattle.artery_machine.specs.Handshaking.{drops, dialed, lost}
use Rattle.artery_machine.specs.Hearing.{hears}
use Rattle.artery_machine.specs.Ticking.{ticks, owes_nothing}
use Rattle.artery_machine.specs.Doing.{Sink, listed, Doing, Rule, ◌▸◌, stays, does, becomes, tells_of, inbound_becomes, each}

-- At most 256 connections come in.
abbrev pub most_inbound : ℕ
most_inbound = 256

-- The rule for the fault of a stream.
abbrev pub stream_rule : FrameFault → DropRule
stream_rule (frame_faults.BadMagic at) = rules.BadMagic
stream_rule (frame_faults.BadStream id) = rules.BadStream
stream_rule (frame_faults.TooLong len) = rules.TooLong

module _ {P : Parts} where
  -- A connection that came in stands among the others.
  abbrev pub with_inbound : ℕ → Node P → Node P
  with_inbound number n = record n { inbound = put_inbound (accepted_as number) n.inbound }

  -- An inbound connection is gone.
  abbrev pub without_inbound : ℕ → Node P → Node P
  without_inbound number n = record n { inbound = filter (λ i. not (is_number number i)) n.inbound }

  -- An inbound connection on which these bytes came.
  abbrev pub with_bytes : P.Bytes → Inbound P → Inbound P
  with_bytes bytes i = record i { bytes = bytes }

module _ {P : Parts} {E : Sink} where
  -- ---- inbound connections

  -- A connection came in. Beside 256 others it is refused and hung up.
  abbrev pub accepts : ℕ → Rule P E
  accepts number d =
      (if nat_lt (length d.node.inbound) most_inbound then becomes (with_inbound number)
      else tells_of (λ me. lines.Refused me reasons.Connections) ▸ does (Hangs (Inward number))) d

  -- A stream that is broken is dropped and hung up.
  abbrev pub ends_broken : ℕ → Option FrameFault → Rule P E
  ends_broken number None = stays
  ends_broken number (Some fault) = drops number (stream_rule fault) ▸ does (Hangs (Inward number)) ▸ becomes (without_inbound number)

  -- Bytes came on an inbound connection: each frame that is whole now is heard, in order, and a broken stream ends. While its frames are heard what came is set aside. Where there is no such connection, it is hung up.
  abbrev pub comes_on : ℕ → List ℕ → Option (Inbound P) → Rule P E
  comes_on number piece None = does (Hangs (Inward number))
  comes_on number piece (Some i) =
      inbound_becomes number (with_bytes P.nothing_came)
      ▸ each (P.frames piece i.bytes) (hears number (P.carries (P.came piece i.bytes)))
      ▸ inbound_becomes number (with_bytes (P.came piece i.bytes))
      ▸ ends_broken number (P.fault (P.came piece i.bytes))

  -- Bytes came on the inbound connection with a number.
  abbrev pub comes : ℕ → List ℕ → Rule P E
  comes number piece d = comes_on number piece (inbound_at number d.node) d

  -- A connection ended at the other side.
  abbrev pub ended : Conn → Rule P E
  ended (Outward dial) = lost dial
  ended (Inward number) = becomes (without_inbound number)

  -- ---- requests

  -- The current incarnation at an address is closed for ever, where there is one. It makes no peer.
  abbrev pub quarantined : Address → Rule P E
  quarantined address d =
      closes_current address causes.Quarantined (current_of (peer_at address d.node)) (tells_of (λ me. lines.Refused me reasons.NotCurrent)) d

  -- A user asks for something.
  abbrev pub asked_for : Request → Rule P E
  asked_for (requests.Pair address) = at_request address stays
  asked_for (requests.Send address message) = at_request address (sends address message)
  asked_for (requests.Tell address message) = at_request address (tells_message address message)
  asked_for (requests.Watch path watchee) = watches path watchee
  asked_for (requests.Unwatch path watchee) = unwatches path watchee
  asked_for (requests.Spawn path) = spawns path
  asked_for (requests.Kill path) = kills path
  asked_for (requests.Quarantine address) = quarantined address

  -- ---- the step

  -- What a node does at an input.
  abbrev pub reacts : Input → Rule P E
  reacts (inputs.Request request) = asked_for request
  reacts (inputs.Accepted conn) = accepts conn
  reacts (inputs.Dialed dial) = dialed dial
  reacts (inputs.DialFailed dial) = lost dial
  reacts (inputs.Bytes conn piece) = comes conn piece
  reacts (inputs.Ended conn) = ended conn
  reacts (inputs.Tick now) = ticks now

-- A node starts, and tells so.
abbrev pub starts : {P : Parts} → UniqueAddress → Doing P listed
starts me = record { node = new_node me; deeds = Tells (lines.Started me) ∷ [] }

-- What a node does at an input, with its deeds in order.
abbrev pub step : {P : Parts} → Input → Node P → Doing P listed
step input n = reacts input (record { node = n; deeds = [] })

-- Whether a node owes its peers messages: some are kept, wait or are held.
abbrev pub owes : {P : Parts} → Node P → Bool
owes n = list_any (λ p. not (owes_nothing p)) n.peers
