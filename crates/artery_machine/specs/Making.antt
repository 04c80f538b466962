-- Peers and dials: when a peer is made, when it is dialed, and when it wakes.
use Rattle.std.specs.Prelude.{ℕ, ◌+◌, nat_lt, Bool, true, false, ◌||◌, if◌then◌else◌, [], ◌∷◌, ◌++◌, length, None, Some}
use Rattle.artery_base.specs.declared.address.Address.{Address}
use Rattle.artery_frame.specs.declared.stream.Stream.{Stream}
use Rattle.artery_frame.specs.declared.stream.Stream.TheVariants.{Control}
use Rattle.artery_handshake.specs.declared.out_conn.OutConn.{OutConn}
use Rattle.artery_handshake.specs.declared.out_conn.OutState.TheVariants.{Dialing}
use Rattle.artery_journal.specs.declared.line.Line.TheVariants as lines
use Rattle.artery_journal.specs.declared.words.Reason.TheVariants as reasons
use Rattle.artery_machine.specs.Deeds.{Dials}
use Rattle.artery_machine.specs.Parts.{Parts}
use Rattle.artery_machine.specs.Node.{Node, Peer, Link, new_peer, has_peer, peer_at, with_link}
use Rattle.artery_machine.specs.Doing.{Sink, Rule, ◌▸◌, stays, does, becomes, tells_of, peer_becomes}

-- At most 64 peers are made.
abbrev pub most_peers : ℕ
most_peers = 64

-- The last dial number.
abbrev pub last_dial : ℕ
last_dial = 18446744073709551615

-- A lost connection is dialed again after 1,000 ms at the earliest.
abbrev pub redial_after : ℕ
redial_after = 1000

-- A connection of this kind that was just dialed with this number.
abbrev pub dialing : Stream → ℕ → OutConn
dialing stream dial = record { dial = dial; stream = stream; state = Dialing }

-- The connection is being dialed.
abbrev pub link_dialing : Stream → ℕ → Link → Link
link_dialing stream dial l = record l { conn = Some (dialing stream dial) }

-- The connection is gone.
abbrev pub link_gone : Link → Link
link_gone l = record l { conn = None }

-- The connection is gone, and may be dialed again 1,000 ms from now.
abbrev pub link_lost : ℕ → Link → Link
link_lost now l = record { conn = None; redial = now + redial_after }

module _ {P : Parts} where
  -- Whether a node has a peer at an address or may make one.
  abbrev pub may_have : Address → Node P → Bool
  may_have address n = has_peer address n || nat_lt (length n.peers) most_peers

  -- One more dial was made.
  abbrev pub one_more_dial : Node P → Node P
  one_more_dial n = record n { dials = n.dials + 1 }

  -- A peer is the last of a node's peers.
  abbrev pub with_peer_at : Address → Node P → Node P
  with_peer_at address n = record n { peers = n.peers ++ new_peer address ∷ [] }

  -- A peer that is used now, and awake.
  abbrev pub used_now : ℕ → Peer P → Peer P
  used_now now p = record p { used = now; asleep = false }

module _ {P : Parts} {E : Sink} where
  -- A connection to the address is dialed with this number.
  abbrev pub dials_as : Stream → Address → ℕ → Rule P E
  dials_as stream address dial =
      becomes one_more_dial ▸ peer_becomes address (with_link stream (link_dialing stream dial)) ▸ does (Dials dial address)

  -- A connection is dialed with the next number. Once the last number was taken, no dial is made.
  abbrev pub dials : Stream → Address → Rule P E
  dials stream address d = (if nat_lt d.node.dials last_dial then dials_as stream address (d.node.dials + 1) else stays) d

  -- A peer that is missing is made, and its control connection is dialed.
  abbrev pub makes_missing : Address → Rule P E
  makes_missing address d = (if has_peer address d.node then stays else becomes (with_peer_at address) ▸ dials Control address) d

  -- A peer that was asleep is dialed.
  abbrev pub wakes : Bool → Address → Rule P E
  wakes true address = dials Control address
  wakes false address = stays

  -- A peer is used: the time without use begins anew, and where it was asleep it wakes, with a dial of its control connection.
  abbrev pub uses : Address → Rule P E
  uses address d = (peer_becomes address (used_now d.node.moment) ▸ wakes (peer_at address d.node).asleep address) d

  -- A request that names an address: the peer is made where it is missing, it is used, and the rest follows. Beside 64 peers no other is made, and the request is refused.
  abbrev pub at_request : Address → Rule P E → Rule P E
  at_request address rest d =
      (if may_have address d.node then makes_missing address ▸ uses address ▸ rest
      else tells_of (λ me. lines.Refused me reasons.Peers)) d

  -- An own connection of the peer at an address is gone, and may be dialed again 1,000 ms from now.
  abbrev pub loses : Stream → Address → Rule P E
  loses stream address d = peer_becomes address (with_link stream (link_lost d.node.moment)) d
