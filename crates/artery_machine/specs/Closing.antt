-- Writing on control, and what follows where an incarnation is closed for ever.
use Rattle.std.specs.Prelude.{ℕ, Bool, true, false, if◌then◌else◌, Option, None, Some}
use Rattle.artery_base.specs.declared.address.Address.{Address}
use Rattle.artery_base.specs.declared.address.UniqueAddress.{UniqueAddress}
use Rattle.artery_assoc.specs.Peer.{peer_closed}
use Rattle.artery_control.specs.declared.control.Control.{Control}
use Rattle.artery_control.specs.declared.control.Control.TheVariants as controls
use Rattle.artery_frame.specs.declared.stream.Stream.TheVariants.{Control as OnControl, Ordinary}
use Rattle.artery_journal.specs.declared.line.Line.TheVariants as lines
use Rattle.artery_journal.specs.declared.words.Cause.{Cause}
use Rattle.artery_journal.specs.declared.words.Cause.TheVariants as causes
use Rattle.artery_handshake.specs.declared.out_conn.OutConn.{OutConn}
use Rattle.artery_watch.specs.Watcher.{kept_closed, kept_forgotten, ids_at}
use Rattle.artery_machine.specs.Deeds.{Controls}
use Rattle.artery_machine.specs.Parts.{Parts}
use Rattle.artery_machine.specs.Node.{Node, Peer, peer_at, conn_of, dial_to, of_each, incarnation, with_link}
use Rattle.artery_machine.specs.Making.{link_gone}
use Rattle.artery_machine.specs.Doing.{Sink, Rule, ◌▸◌, stays, becomes, tells_of, writes_on, hangs_up, peer_becomes, each}

-- The dial number of a connection, where there is one.
abbrev pub dial_of : Option OutConn → Option ℕ
dial_of None = None
dial_of (Some c) = Some c.dial

-- Whether a closed incarnation is told so: it is not where another one took its place.
abbrev pub is_told : Cause → Bool
is_told causes.Superseded = false
is_told causes.Quarantined = true
is_told causes.Unreachable = true
is_told causes.Overflow = true
is_told causes.Undelivered = true

module _ {P : Parts} where
  -- The dial number of the control connection to an incarnation, where it is bound to its UID.
  abbrev pub control_dial : UniqueAddress → Node P → Option ℕ
  control_dial v n = dial_to v.uid (conn_of OnControl (peer_at v.address n))

  -- A peer without its detector: nothing was asked, heard or written.
  abbrev pub without_detector : Peer P → Peer P
  without_detector p = record p { beats = P.no_beats; last_beat = None }

  -- A peer whose incarnation with this UID is closed: no UID is current, and what was kept for it is given up.
  abbrev pub with_closed : ℕ → Peer P → Peer P
  with_closed uid p = record p { incarnations = peer_closed uid p.incarnations; out = P.forgotten }

  -- A peer whose tables are new.
  abbrev pub with_new_tables : Peer P → Peer P
  with_new_tables p = record p { tables = of_each P.nothing_adopted }

module _ {P : Parts} {E : Sink} where
  -- A control message is written on the control connection to an incarnation, where that is bound to its UID; else nothing is written.
  abbrev pub on_control : UniqueAddress → Control → Rule P E
  on_control v control d = writes_on (control_dial v d.node) (Controls control) d

  -- The same to the incarnation at an address that is current, if one is.
  abbrev pub on_control_to : Address → Option ℕ → Control → Rule P E
  on_control_to address None control = stays
  on_control_to address (Some uid) control = on_control (incarnation address uid) control

  -- An incarnation that was closed is told so.
  abbrev pub quarantines : UniqueAddress → Rule P E
  quarantines v d = on_control v (controls.Quarantined d.node.me v) d

  -- The own connection of a peer that carries ordinary messages is hung up and gone, where there is one.
  abbrev pub drops_ordinary : Address → Rule P E
  drops_ordinary address d =
      (hangs_up (dial_of (conn_of Ordinary (peer_at address d.node))) ▸ peer_becomes address (with_link Ordinary link_gone)) d

  -- The remote watches that an incarnation told are removed.
  abbrev pub forgets_watches_of : UniqueAddress → Rule P E
  forgets_watches_of v = becomes (λ n. record n { watching = kept_forgotten v n.watching })

  -- The watches at an address end.
  abbrev pub ends_watches_at : Address → Rule P E
  ends_watches_at address = becomes (λ n. record n { watching = kept_closed address n.watching })

  -- Each watch at an address is terminated, by ascending id.
  abbrev pub terminates_at : Address → Rule P E
  terminates_at address d =
      (each (ids_at address d.node.watching.watches.list) (λ id. tells_of (λ me. lines.Terminated me id)) ▸ ends_watches_at address) d

  -- The incarnation with this UID at an address is closed. In this order: the line; what was kept for it is given up; it is told so, unless another one took its place; the ordinary connection is hung up; its remote watches are removed; each watch at the address is terminated and the detector removed; both tables adopted from it are gone. The control connection stays.
  abbrev pub closes : Address → Cause → ℕ → Rule P E
  closes address cause uid =
      tells_of (λ me. lines.Closed me (incarnation address uid) cause)
      ▸ peer_becomes address (with_closed uid)
      ▸ (if is_told cause then quarantines (incarnation address uid) else stays)
      ▸ drops_ordinary address
      ▸ forgets_watches_of (incarnation address uid)
      ▸ terminates_at address
      ▸ peer_becomes address without_detector
      ▸ peer_becomes address with_new_tables

  -- The current incarnation is closed, where there is one; else another rule.
  abbrev pub closes_current : Address → Cause → Option ℕ → Rule P E → Rule P E
  closes_current address cause None other = other
  closes_current address cause (Some uid) other = closes address cause uid
