-- System messages to a peer: accepting, numbering, writing and writing again; and ordinary messages, told or held.
use Rattle.std.specs.Prelude.{ℕ, ◌==◌, nat_lt, Bool, if◌then◌else◌, [], ◌∷◌, ◌++◌, length, Option, None, Some}
use Rattle.artery_base.specs.declared.address.Address.{Address}
use Rattle.artery_base.specs.declared.message.SysMsg.{SysMsg}
use Rattle.artery_base.specs.declared.message.Tell.{Tell}
use Rattle.artery_control.specs.declared.control.Control.TheVariants as controls
use Rattle.artery_codec.specs.Meaning.{Meaning}
use Rattle.artery_codec.specs.Writing.{written}
use Rattle.artery_delivery.specs.declared.outbound.Accept.{Accept}
use Rattle.artery_delivery.specs.declared.outbound.Accept.TheVariants.{Accepted, Waiting, Overflow}
use Rattle.artery_frame.specs.declared.stream.Stream.TheVariants.{Ordinary}
use Rattle.artery_journal.specs.declared.line.Line.TheVariants as lines
use Rattle.artery_journal.specs.declared.words.Reason.TheVariants as reasons
use Rattle.artery_journal.specs.declared.words.Cause.TheVariants as causes
use Rattle.artery_machine.specs.Deeds.{Writing, Sends}
use Rattle.artery_machine.specs.Parts.{Parts}
use Rattle.artery_machine.specs.Node.{Peer, peer_at, current_of, current_dial, incarnation}
use Rattle.artery_machine.specs.Making.{uses}
use Rattle.artery_machine.specs.Closing.{on_control_to, closes_current}
use Rattle.artery_machine.specs.Doing.{Sink, Rule, ◌▸◌, stays, tells_of, writes_on, peer_becomes, each, times}

-- At most 3,072 ordinary messages are held for a peer.
abbrev pub most_held : ℕ
most_held = 3072

-- What an ordinary message of the incarnation with this UID means.
abbrev pub meaning_of : ℕ → Tell → Meaning
meaning_of uid message = record {
  uid = uid;
  serializer = message.serializer;
  sender = message.sender;
  recipient = message.recipient;
  manifest = message.manifest;
  payload = message.payload;
}

module _ {P : Parts} where
  -- The messages to a peer change.
  abbrev pub with_out : (P.Out → P.Out) → Peer P → Peer P
  with_out change p = record p { out = change p.out }

  -- Whether no system message is kept for a peer or waits.
  abbrev pub keeps_nothing : Peer P → Bool
  keeps_nothing p = length (P.unacknowledged p.out) == 0

  -- Where nothing was kept before, the peer is quiet and patience runs from now on.
  abbrev pub begins_waiting : ℕ → Peer P → Peer P
  begins_waiting now p = if keeps_nothing p then record p { quiet = now; patience = now } else p

  -- How an ordinary message to a peer is written: with the tables adopted from it.
  abbrev pub told_as : ℕ → Peer P → Tell → Writing
  told_as uid p message = Sends (written (P.indices p.tables.refs) (P.indices p.tables.manifests) (meaning_of uid message))

  -- A message is held behind the others.
  abbrev pub with_held : Tell → Peer P → Peer P
  with_held message p = record p { held = p.held ++ message ∷ [] }

  -- Nothing is held.
  abbrev pub without_held : Peer P → Peer P
  without_held p = record p { held = [] }

module _ {P : Parts} {E : Sink} where
  -- ---- writing

  -- The next message is written with its number on the control connection to the current incarnation, and counts as written. Where that is not bound to it nothing is written, and it counts all the same.
  abbrev pub pumps_next : Address → Option (ℕ × SysMsg) → Rule P E
  pumps_next address None d = d
  pumps_next address (Some next) d =
      (peer_becomes address (with_out P.pumped)
      ▸ on_control_to address (current_of (peer_at address d.node)) (controls.Numbered next.0 next.1 d.node.me)) d

  -- One message is written, if one is next.
  abbrev pub pumps_one : Address → Rule P E
  pumps_one address d = pumps_next address (P.next (peer_at address d.node).out) d

  -- All messages that may be written are written: none of those kept is next twice.
  abbrev pub pumps : Address → Rule P E
  pumps address d = times (length (P.unacknowledged (peer_at address d.node).out)) (pumps_one address) d

  -- The writing begins anew at the first message that is kept.
  abbrev pub rewinds : Address → Rule P E
  rewinds address = peer_becomes address (with_out P.rewound)

  -- ---- sending

  -- A message was sent to the current incarnation, with this number.
  abbrev pub tells_sent : Address → Option ℕ → ℕ → SysMsg → Rule P E
  tells_sent address None n message = stays
  tells_sent address (Some uid) n message = tells_of (λ me. lines.Sent me (incarnation address uid) n message)

  -- An accepted message is told, kept and written. One that waits is kept. One too many closes the incarnation, and is given up with the others; where none is current, it is refused.
  abbrev pub sent_as : Address → SysMsg → Accept → Rule P E
  sent_as address message (Accepted n) d =
      (peer_becomes address (begins_waiting d.node.moment)
      ▸ peer_becomes address (with_out (P.accepted message))
      ▸ tells_sent address (current_of (peer_at address d.node)) n message
      ▸ pumps address) d
  sent_as address message (Waiting place) d = peer_becomes address (with_out (P.accepted message)) d
  sent_as address message (Overflow back) d =
      closes_current address causes.Overflow (current_of (peer_at address d.node)) (tells_of (λ me. lines.Refused me reasons.Waiting)) d

  -- A system message goes to the peer at an address.
  abbrev pub sends_now : Address → SysMsg → Rule P E
  sends_now address message d = sent_as address message (P.acceptance message (peer_at address d.node).out) d

  -- The peer at an address is used, and a system message goes to it.
  abbrev pub sends : Address → SysMsg → Rule P E
  sends address message = uses address ▸ sends_now address message

  -- ---- telling

  -- A line tells that an ordinary message is written to the current incarnation on the connection with this dial number.
  abbrev pub tells_told : Address → Option ℕ → ℕ → Tell → Rule P E
  tells_told address None dial message = stays
  tells_told address (Some uid) dial message = tells_of (λ me. lines.Told me (incarnation address uid) dial message)

  -- An ordinary message is told and written on the connection with this dial number.
  abbrev pub tells_on : Address → ℕ → Tell → Rule P E
  tells_on address dial message d =
      (tells_told address (current_of (peer_at address d.node)) dial message
      ▸ writes_on (Some dial) (told_as d.node.me.uid (peer_at address d.node) message)) d

  -- A message is held, or refused beside 3,072 others.
  abbrev pub holds : Address → Tell → Rule P E
  holds address message d =
      (if nat_lt (length (peer_at address d.node).held) most_held then peer_becomes address (with_held message)
      else tells_of (λ me. lines.Refused me reasons.Held)) d

  -- A message is told where the ordinary connection is bound to the current UID, and else held.
  abbrev pub tells_or_holds : Address → Tell → Option ℕ → Rule P E
  tells_or_holds address message (Some dial) = tells_on address dial message
  tells_or_holds address message None = holds address message

  -- An ordinary message to the peer at an address.
  abbrev pub tells_message : Address → Tell → Rule P E
  tells_message address message d = tells_or_holds address message (current_dial Ordinary (peer_at address d.node)) d

  -- All messages that are held are told, in order, on the connection with this dial number.
  abbrev pub tells_held : Address → ℕ → Rule P E
  tells_held address dial d =
      (peer_becomes address without_held ▸ each (peer_at address d.node).held (tells_on address dial)) d
