-- What a node knows, over any parts.
use Rattle.std.specs.Prelude.{ℕ, ◌==◌, nat_lt, Bool, false, ◌||◌, if◌then◌else◌, List, [], ◌∷◌, Option, None, Some}
use Rattle.std.specs.List.{find, list_any}
use Rattle.artery_base.specs.declared.address.Address.{Address}
use Rattle.artery_base.specs.declared.address.UniqueAddress.{UniqueAddress}
use Rattle.artery_base.specs.declared.message.Tell.{Tell}
use Rattle.artery_base.specs.contracts.address.AddressPartialEq.TheImpl as address_eq
use Rattle.artery_base.specs.contracts.address.UniqueAddressPartialEq.TheImpl as unique_eq
use Rattle.artery_assoc.specs.Peer.{PeerState, new_peer as no_incarnation, is_closed}
use Rattle.artery_frame.specs.declared.stream.Stream.{Stream}
use Rattle.artery_frame.specs.declared.stream.Stream.TheVariants.{Control, Ordinary}
use Rattle.artery_handshake.specs.declared.out_conn.OutConn.{OutConn}
use Rattle.artery_handshake.specs.declared.out_conn.OutState.{OutState}
use Rattle.artery_handshake.specs.declared.out_conn.OutState.TheVariants.{Dialing, Asked, Bound}
use Rattle.artery_handshake.specs.declared.in_conn.InState.{InState}
use Rattle.artery_handshake.specs.declared.in_conn.InState.TheVariants.{Raw, Known}
use Rattle.artery_journal.specs.declared.words.Kind.{Kind}
use Rattle.artery_journal.specs.declared.words.Kind.TheVariants.{Refs, Manifests}
use Rattle.artery_watch.specs.Watcher.{Kept as Watching, nothing_kept as nothing_watched}
pub use Rattle.artery_machine.specs.declared.link.Link.{Link}
pub use Rattle.artery_machine.specs.declared.link.Answer.{Answer}
use Rattle.artery_machine.specs.Lists.{or_else}
use Rattle.artery_machine.specs.Parts.{Parts}

-- Whether two addresses are the same.
abbrev pub same_address : Address → Address → Bool
same_address = (address_eq.ghosts).eq

-- Whether two unique addresses are the same.
abbrev pub same_unique : UniqueAddress → UniqueAddress → Bool
same_unique = (unique_eq.ghosts).eq

-- The incarnation with a UID at an address.
abbrev pub incarnation : Address → ℕ → UniqueAddress
incarnation address uid = record { address = address; uid = uid }

-- Something of each of the two kinds of tables.
pub record OfKinds (T : Type 0) : Type 0 where
  pub refs : T
  pub manifests : T

-- That of one kind.
abbrev pub of_kind : {T : Type 0} → Kind → OfKinds T → T
of_kind Refs both = both.refs
of_kind Manifests both = both.manifests

-- The same of both kinds.
abbrev pub of_each : {T : Type 0} → T → OfKinds T
of_each t = record { refs = t; manifests = t }

-- That of one kind is changed.
abbrev pub change_kind : {T : Type 0} → Kind → (T → T) → OfKinds T → OfKinds T
change_kind Refs change both = record both { refs = change both.refs }
change_kind Manifests change both = record both { manifests = change both.manifests }

-- No connection was made yet.
abbrev pub no_link : Link
no_link = record { conn = None; redial = 0 }

-- A peer: its address with the UIDs known there; the system messages to it; the ordinary messages that are held for it; the tables adopted from it; its control and its ordinary connection; the moments since when it is quiet, patience runs and it is unused; whether it is asleep; its asks and heartbeats; and the moment of the last heartbeat written to it.
pub record Peer (P : Parts) : Type 0 where
  pub incarnations : PeerState
  pub out : P.Out
  pub held : List Tell
  pub tables : OfKinds P.Adopted
  pub control : Link
  pub ordinary : Link
  pub quiet : ℕ
  pub patience : ℕ
  pub used : ℕ
  pub asleep : Bool
  pub beats : P.Beats
  pub last_beat : Option ℕ

-- A peer that was just made.
abbrev pub new_peer : {P : Parts} → Address → Peer P
new_peer {P} address = record {
  incarnations = no_incarnation address;
  out = P.nothing_sent;
  held = [];
  tables = of_each P.nothing_adopted;
  control = no_link;
  ordinary = no_link;
  quiet = 0;
  patience = 0;
  used = 0;
  asleep = false;
  beats = P.no_beats;
  last_beat = None;
}

-- An inbound connection: its number, its bytes, who is known to speak on it, the answer that is owed, and for each kind the number of the table that was last seen to be used on it.
pub record Inbound (P : Parts) : Type 0 where
  pub number : ℕ
  pub bytes : P.Bytes
  pub state : InState
  pub owed : Option Answer
  pub shown : OfKinds (Option ℕ)

-- An inbound connection that was just accepted.
abbrev pub accepted_as : {P : Parts} → ℕ → Inbound P
accepted_as {P} number = record { number = number; bytes = P.nothing_came; state = Raw; owed = None; shown = of_each None }

-- An origin: who it is, the tables announced to it, the moment at which they were last due (at first that at which it became known), and whether an acknowledgement is owed.
pub record Origin (P : Parts) : Type 0 where
  pub who : UniqueAddress
  pub tables : OfKinds P.Announced
  pub advertised : ℕ
  pub owes : Bool

-- An origin that is new at this moment.
abbrev pub new_origin : {P : Parts} → ℕ → UniqueAddress → Origin P
new_origin {P} now who = record { who = who; tables = of_each P.nothing_announced; advertised = now; owes = false }

-- A node: who it is, the moment, how many dials it made, its peers in the order made, its inbound connections by ascending number, its origins in the order made, the system messages taken from them, and who watches whom.
pub record Node (P : Parts) : Type 0 where
  pub me : UniqueAddress
  pub moment : ℕ
  pub dials : ℕ
  pub peers : List (Peer P)
  pub inbound : List (Inbound P)
  pub origins : List (Origin P)
  pub taken : P.In
  pub watching : Watching

-- A node that has just started.
abbrev pub new_node : {P : Parts} → UniqueAddress → Node P
new_node {P} me = record {
  me = me;
  moment = 0;
  dials = 0;
  peers = [];
  inbound = [];
  origins = [];
  taken = P.nothing_taken;
  watching = nothing_watched;
}

-- ---- own connections

-- Whether a connection has this dial number.
abbrev pub has_dial : ℕ → Option OutConn → Bool
has_dial dial None = false
has_dial dial (Some c) = c.dial == dial

-- The dial number of a connection in this state, where it is bound to the UID.
abbrev pub bound_dial : ℕ → ℕ → OutState → Option ℕ
bound_dial uid dial Dialing = None
bound_dial uid dial (Asked begun last) = None
bound_dial uid dial (Bound bound) = if bound == uid then Some dial else None

-- The dial number of a connection, where there is one that is bound to the UID.
abbrev pub dial_to : ℕ → Option OutConn → Option ℕ
dial_to uid None = None
dial_to uid (Some c) = bound_dial uid c.dial c.state

-- The same for the UID that is current, where one is.
abbrev pub dial_to_current : Option ℕ → Option OutConn → Option ℕ
dial_to_current None c = None
dial_to_current (Some uid) c = dial_to uid c

-- The dial number of a connection in this state, where it has begun to speak: it was asked or is bound.
abbrev pub speaking_dial : ℕ → OutState → Option ℕ
speaking_dial dial Dialing = None
speaking_dial dial (Asked begun last) = Some dial
speaking_dial dial (Bound uid) = Some dial

-- The dial number of a connection, where there is one that was asked or is bound.
abbrev pub dial_asked : Option OutConn → Option ℕ
dial_asked None = None
dial_asked (Some c) = speaking_dial c.dial c.state

-- ---- inbound connections

-- The origin that is known to speak on an inbound connection.
abbrev pub speaker_in : InState → Option UniqueAddress
speaker_in Raw = None
speaker_in (Known who its_nonce) = Some who

-- The nonce with which an inbound connection was made known.
abbrev pub nonce_in : InState → Option ℕ
nonce_in Raw = None
nonce_in (Known who its_nonce) = its_nonce

module _ {P : Parts} where
  -- The address of a peer.
  abbrev pub address_of : Peer P → Address
  address_of p = p.incarnations.address

  -- The UID that is current at a peer.
  abbrev pub current_of : Peer P → Option ℕ
  current_of p = p.incarnations.current

  -- The connection of a peer that carries this.
  abbrev pub link_of : Stream → Peer P → Link
  link_of Control p = p.control
  link_of Ordinary p = p.ordinary

  -- A peer whose connection of this kind is changed.
  abbrev pub with_link : Stream → (Link → Link) → Peer P → Peer P
  with_link Control change p = record p { control = change p.control }
  with_link Ordinary change p = record p { ordinary = change p.ordinary }

  -- The own connection of a peer that carries this, if there is one.
  abbrev pub conn_of : Stream → Peer P → Option OutConn
  conn_of stream p = (link_of stream p).conn

  -- The dial number of a peer's connection of this kind, where it is bound to the UID that is current.
  abbrev pub current_dial : Stream → Peer P → Option ℕ
  current_dial stream p = dial_to_current (current_of p) (conn_of stream p)

  -- ---- finding by name

  -- Whether a peer is the one at an address.
  abbrev pub is_peer : Address → Peer P → Bool
  is_peer address p = same_address (address_of p) address

  -- Whether a node has a peer at an address.
  abbrev pub has_peer : Address → Node P → Bool
  has_peer address n = list_any (is_peer address) n.peers

  -- The peer at an address. Where there is none, it reads as a new one.
  abbrev pub peer_at : Address → Node P → Peer P
  peer_at address n = or_else (new_peer address) (find (is_peer address) n.peers)

  -- Whether one of a peer's two connections has this dial number.
  abbrev pub dialed_as : ℕ → Peer P → Bool
  dialed_as dial p = has_dial dial p.control.conn || has_dial dial p.ordinary.conn

  -- The peer with a connection of this dial number.
  abbrev pub peer_dialed : ℕ → Node P → Option (Peer P)
  peer_dialed dial n = find (dialed_as dial) n.peers

  -- Which of a peer's connections has this dial number, where one of them has it.
  abbrev pub stream_dialed : ℕ → Peer P → Stream
  stream_dialed dial p = if has_dial dial p.control.conn then Control else Ordinary

  -- Whether an inbound connection has this number.
  abbrev pub is_number : ℕ → Inbound P → Bool
  is_number number i = i.number == number

  -- The inbound connection with this number, if there is one.
  abbrev pub inbound_at : ℕ → Node P → Option (Inbound P)
  inbound_at number n = find (is_number number) n.inbound

  -- An inbound connection takes the place of that with its number, or its own place among the others.
  abbrev pub put_inbound : Inbound P → List (Inbound P) → List (Inbound P)
  put_inbound i [] = i ∷ []
  put_inbound i (j ∷ js) =
      if j.number == i.number then i ∷ js
      else if nat_lt i.number j.number then i ∷ j ∷ js else j ∷ put_inbound i js

  -- Whether an origin is this one.
  abbrev pub is_origin : UniqueAddress → Origin P → Bool
  is_origin who o = same_unique o.who who

  -- Whether a node has this origin.
  abbrev pub has_origin : UniqueAddress → Node P → Bool
  has_origin who n = list_any (is_origin who) n.origins

  -- This origin. Where a node does not have it, it reads as a new one.
  abbrev pub origin_at : UniqueAddress → Node P → Origin P
  origin_at who n = or_else (new_origin n.moment who) (find (is_origin who) n.origins)

  -- Whether an incarnation was closed.
  abbrev pub has_closed : UniqueAddress → Node P → Bool
  has_closed v n = is_closed v.uid (peer_at v.address n).incarnations
