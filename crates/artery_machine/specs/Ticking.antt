-- What a node does at a moment: for each peer in the order made, and then for each origin.
use Rattle.std.specs.Prelude.{ℕ, zero, suc, ◌+◌, ◌-◌, ◌==◌, nat_le, Bool, true, false, ◌&&◌, not, is_some, if◌then◌else◌, List, [], ◌∷◌, length, map, Option, None, Some}
use Rattle.std.specs.List.{list_all}
use Rattle.artery_base.specs.declared.address.Address.{Address}
use Rattle.artery_base.specs.declared.address.UniqueAddress.{UniqueAddress}
use Rattle.artery_control.specs.declared.control.Control.{Control}
use Rattle.artery_control.specs.declared.control.Control.TheVariants as controls
use Rattle.artery_frame.specs.declared.stream.Stream.{Stream}
use Rattle.artery_frame.specs.declared.stream.Stream.TheVariants as streams
use Rattle.artery_handshake.specs.declared.out_conn.OutConn.{OutConn}
use Rattle.artery_handshake.specs.declared.out_conn.OnTick.{OnTick}
use Rattle.artery_handshake.specs.declared.out_conn.OnTick.TheVariants.{Nothing, AskAgain, GiveUp}
use Rattle.artery_handshake.specs.Outgoing.{answer_to_tick, conn_ticked}
use Rattle.artery_journal.specs.declared.line.Line.TheVariants as lines
use Rattle.artery_journal.specs.declared.words.Cause.TheVariants as causes
use Rattle.artery_journal.specs.declared.words.Kind.{Kind}
use Rattle.artery_journal.specs.declared.words.Kind.TheVariants.{Refs, Manifests}
use Rattle.artery_tables.specs.declared.table.Table.{Table}
use Rattle.artery_tables.specs.declared.in_tables.Advertised.{Advertised}
use Rattle.artery_tables.specs.declared.in_tables.Advertised.TheVariants as advertising
use Rattle.artery_machine.specs.Parts.{Parts}
use Rattle.artery_machine.specs.Node.{Node, Peer, Inbound, Origin, of_kind, change_kind, same_unique, incarnation, address_of, current_of, conn_of, link_of, with_link, current_dial, peer_at, origin_at, has_closed, speaker_in}
use Rattle.artery_machine.specs.Making.{dials, link_gone}
use Rattle.artery_machine.specs.Closing.{dial_of, on_control, control_dial, closes_current, drops_ordinary}
use Rattle.artery_machine.specs.Sending.{keeps_nothing, rewinds, pumps}
use Rattle.artery_machine.specs.Watching.{watches_at}
use Rattle.artery_machine.specs.Handshaking.{quiet_now, change_conn, asks_on, gives_up}
use Rattle.artery_machine.specs.Hearing.{sequence_of}
use Rattle.artery_machine.specs.Doing.{Sink, Rule, ◌▸◌, stays, where_true, becomes, tells_of, hangs_up, peer_becomes, origin_becomes, each}

-- Kept messages are written again once the peer was quiet for 1,000 ms.
abbrev pub resend_after : ℕ
resend_after = 1000

-- A heartbeat is written 1,000 ms after the last.
abbrev pub heartbeat_after : ℕ
heartbeat_after = 1000

-- Patience with a peer that acknowledges nothing ends after six hours.
abbrev pub patience_ends_after : ℕ
patience_ends_after = 21600000

-- A peer that is not used is asleep after five minutes.
abbrev pub asleep_after : ℕ
asleep_after = 300000

-- Tables are announced once a minute.
abbrev pub advertise_after : ℕ
advertise_after = 60000

-- Whether so long has gone by since a moment.
abbrev pub is_due : ℕ → ℕ → ℕ → Bool
is_due span since now = nat_le (since + span) now

-- Whether so long has gone by since a moment, if there was one.
abbrev pub is_due_since : ℕ → Option ℕ → ℕ → Bool
is_due_since span None now = true
is_due_since span (Some since) now = is_due span since now

-- So many numbers, one after the other, from the first on.
abbrev pub numbers_from : ℕ → ℕ → List ℕ
numbers_from first zero = []
numbers_from first (suc k) = first ∷ numbers_from (first + 1) k

-- The announcement of a table to an origin, with the names in their order and their places from 0 on.
abbrev pub advertisement : Kind → UniqueAddress → UniqueAddress → Table → Control
advertisement Refs me v table =
    controls.RefsTable me v.uid table.version table.names (numbers_from 0 (length table.names)) (sequence_of table.number)
advertisement Manifests me v table =
    controls.ManifestsTable me v.uid table.version table.names (numbers_from 0 (length table.names)) (sequence_of table.number)

-- Whether what is shown on a connection is at least that number.
abbrev pub shows : ℕ → Option ℕ → Bool
shows least None = false
shows least (Some number) = nat_le least number

-- Whether an origin speaks on a connection.
abbrev pub is_by : UniqueAddress → Option UniqueAddress → Bool
is_by v None = false
is_by v (Some who) = same_unique who v

-- Whether a connection carries ordinary messages.
abbrev pub is_ordinary : Option Stream → Bool
is_ordinary (Some streams.Ordinary) = true
is_ordinary _ = false

module _ {P : Parts} where
  -- Whether nothing is kept or held for a peer.
  abbrev pub owes_nothing : Peer P → Bool
  owes_nothing p = keeps_nothing p && (length p.held == 0)

  -- Whether the control connection of a peer is bound to its current UID.
  abbrev pub is_bound : Peer P → Bool
  is_bound p = is_some (current_dial streams.Control p)

  -- Whether messages are kept, or wait, and patience has run for six hours.
  abbrev pub is_lost : ℕ → Peer P → Bool
  is_lost now p = not (keeps_nothing p) && is_due patience_ends_after p.patience now

  -- Whether the kept messages of a peer that is bound are to be written again.
  abbrev pub is_quiet : ℕ → Peer P → Bool
  is_quiet now p = not (keeps_nothing p) && is_bound p && is_due resend_after p.quiet now

  -- A peer that was asked for a heartbeat.
  abbrev pub asked_at : ℕ → Peer P → Peer P
  asked_at now p = record p { beats = P.asked now p.beats }

  -- A heartbeat was written to a peer.
  abbrev pub beaten_at : ℕ → Peer P → Peer P
  beaten_at now p = record p { last_beat = Some now }

  -- Whether a peer is idle: it is bound to its current UID, nothing is kept or held for it, and it was not used for five minutes.
  abbrev pub is_idle : ℕ → Peer P → Bool
  is_idle now p = is_bound p && owes_nothing p && is_due asleep_after p.used now

  -- A peer is asleep.
  abbrev pub asleep_now : Peer P → Peer P
  asleep_now p = record p { asleep = true }

  -- Whether a connection, where it carries ordinary messages of an origin, shows at least that number.
  abbrev pub shows_if_by : UniqueAddress → Kind → ℕ → Inbound P → Bool
  shows_if_by v kind least i =
      if is_ordinary (P.carries i.bytes) && is_by v (speaker_in i.state) then shows least (of_kind kind i.shown) else true

  -- An origin is settled for a kind where each open connection with its ordinary messages shows a number at most two below that of the table confirmed last.
  abbrev pub is_settled : UniqueAddress → Kind → Node P → Bool
  is_settled v kind n = list_all (shows_if_by v kind (P.current_number (of_kind kind (origin_at v n).tables) - 2)) n.inbound

  -- The table that is announced to an origin and not confirmed.
  abbrev pub unconfirmed_of : UniqueAddress → Kind → Node P → Option Table
  unconfirmed_of v kind n = P.unconfirmed (of_kind kind (origin_at v n).tables)

  -- The tables of one kind after they were advertised.
  abbrev pub with_advertised : Kind → Bool → Origin P → Origin P
  with_advertised kind settled o = record o { tables = change_kind kind (P.advertised settled) o.tables }

  -- The moment of the tables is now.
  abbrev pub advertised_now : ℕ → Origin P → Origin P
  advertised_now now o = record o { advertised = now }

  -- Whether tables are to be advertised to an origin: it is not closed, the control connection is bound to it, and a minute has gone by.
  abbrev pub is_to_advertise : UniqueAddress → Node P → Bool
  is_to_advertise v n =
      not (has_closed v n) && is_some (control_dial v n) && is_due advertise_after (origin_at v n).advertised n.moment

  -- The moment is set.
  abbrev pub at_moment : ℕ → Node P → Node P
  at_moment now n = record n { moment = now }

module _ {P : Parts} {E : Sink} where
  -- ---- connections

  -- An absent connection is dialed, where it may be and its moment has come.
  abbrev pub redials : Stream → Address → Bool → Rule P E
  redials stream address may d =
      where_true (may && nat_le (link_of stream (peer_at address d.node)).redial d.node.moment) (dials stream address) d

  -- What is due on a connection: it asks again, or is given up.
  abbrev pub due_as : Stream → Address → ℕ → OnTick → Rule P E
  due_as stream address dial Nothing d = d
  due_as stream address dial AskAgain d =
      (peer_becomes address (with_link stream (change_conn (conn_ticked d.node.moment))) ▸ asks_on address dial) d
  due_as stream address dial GiveUp d = gives_up stream address d

  -- A connection that is absent, or not.
  abbrev pub tends_as : Stream → Address → Bool → Option OutConn → Rule P E
  tends_as stream address may None d = redials stream address may d
  tends_as stream address may (Some c) d = due_as stream address c.dial (answer_to_tick d.node.moment c) d

  -- A connection is tended: where it is absent it is dialed, where it was asked it asks again or is given up.
  abbrev pub tends : Stream → Address → Bool → Rule P E
  tends stream address may d = tends_as stream address may (conn_of stream (peer_at address d.node)) d

  -- The control connection is tended: it may be dialed unless the peer is asleep.
  abbrev pub tends_control : Address → Rule P E
  tends_control address d = tends streams.Control address (not (peer_at address d.node).asleep) d

  -- The ordinary connection is tended: it may be dialed where the control connection is bound to the current UID.
  abbrev pub tends_ordinary : Address → Rule P E
  tends_ordinary address d = tends streams.Ordinary address (is_bound (peer_at address d.node)) d

  -- ---- messages

  -- An incarnation that has acknowledged none for six hours is closed.
  abbrev pub loses_patience : Address → Rule P E
  loses_patience address d =
      where_true (is_lost d.node.moment (peer_at address d.node))
      (closes_current address causes.Undelivered (current_of (peer_at address d.node)) stays) d

  -- Messages that are kept are written again, and the peer is quiet from now on.
  abbrev pub resends : Address → Rule P E
  resends address d =
      where_true (is_quiet d.node.moment (peer_at address d.node))
      (rewinds address ▸ pumps address ▸ peer_becomes address (quiet_now d.node.moment)) d

  -- ---- heartbeats

  -- A heartbeat is written on the control connection, where that is bound to the incarnation.
  abbrev pub beats_on : UniqueAddress → Option ℕ → Rule P E
  beats_on v None d = d
  beats_on v (Some dial) d = (on_control v controls.Heartbeat ▸ peer_becomes v.address (beaten_at d.node.moment)) d

  -- A heartbeat is written where none was written since the detector is new, or the last was 1,000 ms ago.
  abbrev pub beats : UniqueAddress → Rule P E
  beats v d =
      where_true (is_due_since heartbeat_after (peer_at v.address d.node).last_beat d.node.moment)
      (λ e. beats_on v (control_dial v e.node) e) d

  -- An incarnation that is not available is closed; to one that is, heartbeats are written.
  abbrev pub detects_of : Address → ℕ → Rule P E
  detects_of address uid d =
      (if P.available d.node.moment (peer_at address d.node).beats then beats (incarnation address uid)
      else closes_current address causes.Unreachable (Some uid) stays) d

  -- The current incarnation is asked for a heartbeat.
  abbrev pub detects_as : Address → Option ℕ → Rule P E
  detects_as address None d = d
  detects_as address (Some uid) d = (peer_becomes address (asked_at d.node.moment) ▸ detects_of address uid) d

  -- Where an actor at the address is watched, the current incarnation is asked for a heartbeat.
  abbrev pub detects : Address → Rule P E
  detects address d = where_true (watches_at address d.node) (detects_as address (current_of (peer_at address d.node))) d

  -- ---- sleep

  -- The control connection of a peer is hung up and gone.
  abbrev pub drops_control : Address → Rule P E
  drops_control address d =
      (hangs_up (dial_of (conn_of streams.Control (peer_at address d.node))) ▸ peer_becomes address (with_link streams.Control link_gone)) d

  -- The line that a peer is idle names its current incarnation.
  abbrev pub tells_idle : Address → Option ℕ → Rule P E
  tells_idle address None = stays
  tells_idle address (Some uid) = tells_of (λ me. lines.Idle me (incarnation address uid))

  -- An idle peer is put to sleep: it is told, and its ordinary connection is hung up, and then its control connection.
  abbrev pub sleeps : Address → Rule P E
  sleeps address d =
      where_true (is_idle d.node.moment (peer_at address d.node) && not (watches_at address d.node))
      (tells_idle address (current_of (peer_at address d.node)) ▸ drops_ordinary address ▸ drops_control address ▸ peer_becomes address asleep_now) d

  -- What is due for the peer at an address, in this order: its control connection; its ordinary connection; patience; writing again; heartbeats; sleep.
  abbrev pub ticks_peer : Address → Rule P E
  ticks_peer address =
      tends_control address ▸ tends_ordinary address ▸ loses_patience address ▸ resends address ▸ detects address ▸ sleeps address

  -- ---- tables

  -- The table that is announced and not confirmed is written to an origin, if there is one.
  abbrev pub announces : UniqueAddress → Kind → Option Table → Rule P E
  announces v kind None d = d
  announces v kind (Some table) d = on_control v (advertisement kind d.node.me v table) d

  -- A new table is told.
  abbrev pub tells_advertised : UniqueAddress → Kind → Option Table → Rule P E
  tells_advertised v kind None = stays
  tells_advertised v kind (Some table) = tells_of (λ me. lines.Advertised me v kind table.number (length table.names))

  -- A new table is told and announced; one that is not confirmed yet is announced again.
  abbrev pub advertises_as : UniqueAddress → Kind → Advertised → Rule P E
  advertises_as v kind advertising.New d =
      (tells_advertised v kind (unconfirmed_of v kind d.node) ▸ announces v kind (unconfirmed_of v kind d.node)) d
  advertises_as v kind advertising.Again d = announces v kind (unconfirmed_of v kind d.node) d
  advertises_as v kind advertising.Same d = d
  advertises_as v kind advertising.Spent d = d
  advertises_as v kind advertising.Unsettled d = d

  -- The tables of one kind are advertised to an origin.
  abbrev pub advertises_settled : UniqueAddress → Kind → Bool → Rule P E
  advertises_settled v kind settled d =
      (origin_becomes v (with_advertised kind settled)
      ▸ advertises_as v kind (P.advertising settled (of_kind kind (origin_at v d.node).tables))) d

  -- Tables of one kind are advertised, with whether the origin is settled.
  abbrev pub advertises : UniqueAddress → Kind → Rule P E
  advertises v kind d = advertises_settled v kind (is_settled v kind d.node) d

  -- What is due for an origin: references are advertised, and then manifests.
  abbrev pub ticks_origin : UniqueAddress → Rule P E
  ticks_origin v d =
      where_true (is_to_advertise v d.node)
      (advertises v Refs ▸ advertises v Manifests ▸ origin_becomes v (advertised_now d.node.moment)) d

  -- ---- the tick

  -- What is due for each peer, in the order made.
  abbrev pub ticks_peers : Rule P E
  ticks_peers d = each (map address_of d.node.peers) ticks_peer d

  -- What is due for each origin, in the order made.
  abbrev pub ticks_origins : Rule P E
  ticks_origins d = each (map (λ o. o.who) d.node.origins) ticks_origin d

  -- It is this moment: it is set, and then what is due is done for each peer and for each origin, in the orders made.
  abbrev pub ticks : ℕ → Rule P E
  ticks now = becomes (at_moment now) ▸ ticks_peers ▸ ticks_origins
