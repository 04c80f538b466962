-- What holds of the values that a node keeps and writes: each text is short enough, each number within its range, so that what is written is read back.
use Rattle.std.specs.Prelude.{◌≡◌, ◌≤◌, ◌<◌, ◌+◌, ◌^◌, ℕ, false, true, FitsSigned, List, length, Option, Some, None, bytes_eq}
use Rattle.std.specs.Int.{w32}
use Rattle.artery_base.specs.declared.address.Address.{Address}
use Rattle.artery_base.specs.declared.address.UniqueAddress.{UniqueAddress}
use Rattle.artery_base.specs.declared.message.SysMsg.{SysMsg}
use Rattle.artery_base.specs.declared.message.Tell.{Tell}
use Rattle.artery_base.specs.Valid.{IsAddress, IsUniqueAddress}
use Rattle.artery_script.specs.Valid.{IsTell}
use Rattle.artery_control.specs.declared.control.Control.{Control}
use Rattle.artery_control.specs.declared.control.Control.TheVariants as controls
use Rattle.artery_control.specs.Payload.{payload_of}
use Rattle.artery_control.specs.Valid.{IsNumber, IsOptional, IsValid}
use Rattle.artery_control_frame.specs.ControlFrame.{most_payload}
use Rattle.artery_header.specs.Envelope.{EnvelopeOf, IsEnvelope, HasTexts, is_text, refusal}
use Rattle.artery_delivery.specs.Outbound.{State}
use Rattle.artery_tables.specs.InTables.{State as Announced}
use Rattle.artery_tables.specs.OutTable.{State as Adopted}
use Rattle.artery_handshake.specs.declared.out_conn.OutConn.{OutConn}
use Rattle.artery_handshake.specs.declared.in_conn.InState.{InState}
use Rattle.artery_handshake.specs.declared.in_conn.InState.TheVariants.{Raw, Known}
use Rattle.artery_watch.specs.declared.remote.RemoteWatcher.{RemoteWatcher}
use Rattle.artery_machine.specs.declared.link.Answer.{Answer}
use Rattle.artery_machine.specs.Deeds.{Writing, Begins, Controls, Sends, Deed, Dials, Writes, Hangs, Tells}
use Rattle.artery_machine.specs.Parts.{whole}
use Rattle.artery_machine.specs.Node.{Node, Peer, Inbound, Origin}
use Rattle.artery_machine.specs.Doing.{Doing, listed}
use Rattle.artery_machine.specs.Verdict.{Content, Controls as SaysControl, Ordinary as SaysOrdinary, is_control_serializer}
use Rattle.artery_machine.specs.Watching.{watch_kind}
use Rattle.artery_flight.proofs.Lists.{Each}

-- ---- messages

-- A system message has a short manifest, and a payload of at most 131,072 bytes, as a user may send, or one of a notice with a longer text; but one of the kind that begins a watch has none longer.
pub record MessageFacts (m : SysMsg) : Type 0 where
  pub serializer : FitsSigned w32 m.serializer
  pub manifest : length m.manifest ≤ 4096
  pub payload : length m.payload ≤ 140000
  pub begins : bytes_eq m.manifest watch_kind ≡ true → length m.payload ≤ 131072

abbrev pub MessageIn : Control → Type 0
MessageIn (controls.Numbered n message reply_to) = MessageFacts message
MessageIn _ = Unit {0}

-- A control message is valid, and its payload has room in a frame.
pub record ControlFacts (c : Control) : Type 0 where
  pub valid : IsValid c
  pub room : length (payload_of c) ≤ most_payload
  pub message : MessageIn c

-- An envelope is that of an ordinary message, and is not refused.
pub record EnvelopeFacts (e : EnvelopeOf) : Type 0 where
  pub fits : IsEnvelope e
  pub texts : HasTexts e
  pub room : refusal e ≡ None
  pub ordinary : is_control_serializer e.serializer ≡ false

abbrev pub WritingFacts : Writing → Type 0
WritingFacts (Begins stream) = Unit {0}
WritingFacts (Controls control) = ControlFacts control
WritingFacts (Sends envelope) = EnvelopeFacts envelope

abbrev pub DeedFacts : Deed → Type 0
DeedFacts (Dials dial address) = Unit {0}
DeedFacts (Writes dial writing) = WritingFacts writing
DeedFacts (Hangs conn) = Unit {0}
DeedFacts (Tells line) = Unit {0}

-- What a frame says is a control message with these facts, or an ordinary message whose envelope has texts.
abbrev pub ContentFacts : Content → Type 0
ContentFacts (SaysControl control) = ControlFacts control
ContentFacts (SaysOrdinary e m) = HasTexts e

-- ---- a node

-- The messages to one peer: each has these facts, and no more are sent or wait than there are numbers.
pub record OutFacts (s : State) : Type 0 where
  pub sent : Each MessageFacts s.sent
  pub waiting : Each MessageFacts s.waiting
  pub many : length s.sent < 2 ^ 64
  pub few : length s.waiting < 2 ^ 64

-- Each pair of an adopted table has an index of two bytes.
abbrev pub PairFacts : Adopted → Type 0
PairFacts s = Each (λ q. q.1 ≤ 65535) s.pairs

abbrev pub ConnFacts : Option OutConn → Type 0
ConnFacts None = Unit {0}
ConnFacts (Some c) = c.dial < 2 ^ 64

pub record PeerFacts (p : Peer whole) : Type 0 where
  pub address : IsAddress p.incarnations.address
  pub current : IsOptional p.incarnations.current
  pub out : OutFacts p.out
  pub held : Each IsTell p.held
  pub refs : PairFacts p.tables.refs
  pub manifests : PairFacts p.tables.manifests
  pub control : ConnFacts p.control.conn
  pub ordinary : ConnFacts p.ordinary.conn

abbrev pub KnownFacts : InState → Type 0
KnownFacts Raw = Unit {0}
KnownFacts (Known who its_nonce) = IsUniqueAddress who

abbrev pub OwedFacts : Option Answer → Type 0
OwedFacts None = Unit {0}
OwedFacts (Some answer) = IsOptional answer.for_uid × IsOptional answer.nonce

pub record InboundFacts (i : Inbound whole) : Type 0 where
  pub known : KnownFacts i.state
  pub owed : OwedFacts i.owed

-- A name that is counted is ASCII, and has at most 256 bytes.
pub record NameFacts (name : List ℕ) : Type 0 where
  pub ascii : is_text name ≡ true
  pub short : length name ≤ 256

-- A table has at most 256 such names.
pub record TableFacts (names : List (List ℕ)) : Type 0 where
  pub each : Each NameFacts names
  pub few : length names ≤ 256

-- The tables that are announced to one origin: all but the last are confirmed, and no more are announced than there are numbers.
pub record AnnouncedFacts (s : Announced) : Type 0 where
  pub uses : Each NameFacts s.uses
  pub tables : Each TableFacts s.story.tables
  pub announced : s.story.confirmed ≤ length s.story.tables
  pub numbers : length s.story.tables < 2 ^ 64

pub record OriginFacts (o : Origin whole) : Type 0 where
  pub who : IsUniqueAddress o.who
  pub refs : AnnouncedFacts o.tables.refs
  pub manifests : AnnouncedFacts o.tables.manifests

-- No more messages were taken from an origin than there are numbers.
abbrev pub TakenFacts : UniqueAddress × List SysMsg → Type 0
TakenFacts e = length e.1 < 2 ^ 64

-- Those that watch an own actor from elsewhere have names that came in a notice.
abbrev pub WatcherFacts : RemoteWatcher → Type 0
WatcherFacts r = length r.watcher ≤ 131072

abbrev pub ActorFacts : List ℕ × List RemoteWatcher → Type 0
ActorFacts a = Each WatcherFacts a.1

pub record NodeFacts (n : Node whole) : Type 0 where
  pub me : IsUniqueAddress n.me
  pub dials : n.dials < 2 ^ 64
  pub peers : Each PeerFacts n.peers
  pub inbound : Each InboundFacts n.inbound
  pub origins : Each OriginFacts n.origins
  pub taken : Each TakenFacts n.taken
  pub actors : Each ActorFacts n.watching.actors

abbrev pub Work : Type 0
Work = Doing whole listed

-- A node at work, and what it did so far.
pub record WorkFacts (d : Work) : Type 0 where
  pub node : NodeFacts d.node
  pub deeds : Each DeedFacts d.deeds
