-- What holds of the outside of the nodes and of a node in it, of ordinary messages and tables.
use Rattle.std.proofs.Common.{◌≡◌, ℕ, ◌+◌, ◌≤◌, Bool, true, false, List, [], ◌∷◌, ◌++◌, length, take, drop, map}
use Rattle.std.specs.Prelude.{Option, None, Some, slice_get}
use Rattle.std.specs.List.{zip}
use Rattle.artery_base.specs.declared.address.Address.{Address}
use Rattle.artery_base.specs.declared.address.UniqueAddress.{UniqueAddress}
use Rattle.artery_base.specs.declared.message.Tell.{Tell}
use Rattle.artery_assoc.specs.Peer.{is_closed, is_that}
use Rattle.artery_frame.specs.declared.stream.Stream.TheVariants as streams
use Rattle.artery_handshake.specs.declared.out_conn.OutConn.{OutConn}
use Rattle.artery_handshake.specs.declared.out_conn.OutState.{OutState}
use Rattle.artery_handshake.specs.declared.out_conn.OutState.TheVariants.{Dialing, Asked, Bound}
use Rattle.artery_handshake.specs.declared.in_conn.InState.{InState}
use Rattle.artery_handshake.specs.declared.in_conn.InState.TheVariants.{Raw, Known}
use Rattle.artery_header.specs.Envelope.{NameOf, Literal, Index, EnvelopeOf}
use Rattle.artery_journal.specs.declared.line.Line.{Line}
use Rattle.artery_journal.specs.declared.words.Kind.{Kind}
use Rattle.artery_journal.specs.declared.words.Kind.TheVariants.{Refs, Manifests}
use Rattle.artery_tables.specs.Story.{Story, IsStory, version_of}
use Rattle.artery_tables.specs.OutTable.{State as Adopted}
use Rattle.artery_judge.specs.Lines.{Way, says_got}
use Rattle.artery_machine.specs.declared.link.Answer.{Answer}
use Rattle.artery_machine.specs.Parts.{whole}
use Rattle.artery_machine.specs.Ways.{whole_ways}
use Rattle.artery_machine.specs.Connections.{Connection, is_dialed, is_inward}
use Rattle.artery_machine.specs.Node.{Node, Peer, Inbound, OfKinds, of_kind, of_each, incarnation, peer_at, inbound_at, origin_at}
use Rattle.artery_machine.specs.Ticking.{numbers_from}
use Rattle.artery_machine.specs.World.{World}
use Rattle.artery_names.specs.Versions.{Fits}
use Rattle.artery_names.proofs.Lists.{Each, Or, Within}
use Rattle.artery_names.proofs.Said.{Tabling, Acking, Answering, sends_said, tables_said, acks_said, answers_said, speakers_said, all_said, carried}
use Rattle.artery_names.proofs.Talks.{Told, adopted_by, told_by, got_by, name_by, messages, newest}

abbrev pub Network : Type 0
Network = World whole whole_ways

abbrev pub Conn : Type 0
Conn = Connection whole_ways

-- The lines of a network, the newest first.
abbrev pub journal : Network → List Line
journal w = newest w.outcomes []

-- ---- what is on a connection

abbrev pub sends_on : Conn → List EnvelopeOf
sends_on c = all_said sends_said c.way.all

abbrev pub tables_on : Conn → List Tabling
tables_on c = all_said tables_said c.way.all

abbrev pub acks_on : Conn → List Acking
acks_on c = all_said acks_said c.way.all

abbrev pub answers_on : Conn → List Answering
answers_on c = all_said answers_said c.way.all

abbrev pub speakers_on : Conn → List UniqueAddress
speakers_on c = all_said speakers_said c.way.all

-- An element stands in a list.
pub record Has {X : Type 0} (x : X) (xs : List X) : Type 0 where
  pub place : ℕ
  pub is : slice_get xs place ≡ Some x

-- One incarnation announced a table with this number and these names to another, in order, on a connection that reaches it.
pub record Announced (cs : List Conn) (by to : ℕ) (kind : Kind) (number : ℕ) (keys : List (List ℕ)) : Type 0 where
  pub place : ℕ
  pub conn : Conn
  pub is : slice_get cs place ≡ Some conn
  pub near : conn.dialer ≡ by
  pub far : conn.far ≡ to
  pub said : Has (record { kind = kind; number = number; keys = keys; values = numbers_from 0 (length keys) }) (tables_on conn)

-- One incarnation answered the request of another on its connection with a dial number.
pub record Answered (cs : List Conn) (by uid dial : ℕ) : Type 0 where
  pub place : ℕ
  pub conn : Conn
  pub is : slice_get cs place ≡ Some conn
  pub near : conn.dialer ≡ by
  pub said : Has (record { uid = uid; dial = dial }) (answers_on conn)

-- A connection with this dialer and dial number was made.
pub record Made (cs : List Conn) (u dial : ℕ) : Type 0 where
  pub place : ℕ
  pub conn : Conn
  pub is : slice_get cs place ≡ Some conn
  pub dialed : is_dialed u dial conn ≡ true

-- An entry of a table that was announced.
pub record Entry (cs : List Conn) (by to : ℕ) (kind : Kind) (number index : ℕ) (name : List ℕ) : Type 0 where
  pub keys : List (List ℕ)
  pub table : Announced cs by to kind number keys
  pub entry : slice_get keys index ≡ Some name

-- A name is written as itself, or as a place in the table with this number that the far end announced to the near one.
abbrev pub IsNamed : List Conn → ℕ → ℕ → Kind → ℕ → NameOf → List ℕ → Type 0
IsNamed cs near far kind number (Literal text) name = text ≡ name
IsNamed cs near far kind number (Index i) name = Entry cs far near kind number i name

-- A message that was told is written so.
pub record IsWritten (cs : List Conn) (near far : ℕ) (e : EnvelopeOf) (t : Told) : Type 0 where
  pub refs_version : e.refs_version ≡ version_of t.numbers.refs
  pub manifests_version : e.manifests_version ≡ version_of t.numbers.manifests
  pub sender : IsNamed cs near far Refs t.numbers.refs e.sender t.message.sender
  pub recipient : IsNamed cs near far Refs t.numbers.refs e.recipient t.message.recipient
  pub manifest : IsNamed cs near far Manifests t.numbers.manifests e.manifest t.message.manifest
  pub serializer : e.serializer ≡ t.message.serializer
  pub payload : e.payload ≡ t.message.payload

-- What was written are the first of those that were told, in order.
abbrev pub AreWritten : List Conn → ℕ → ℕ → List EnvelopeOf → List Told → Type 0
AreWritten cs near far [] ts = Unit {0}
AreWritten cs near far (e ∷ es) [] = ⊥
AreWritten cs near far (e ∷ es) (t ∷ ts) = IsWritten cs near far e t × AreWritten cs near far es ts

-- ---- numbers of both kinds

abbrev pub AtMost : OfKinds ℕ → OfKinds ℕ → Type 0
AtMost x y = (kind : Kind) → of_kind kind x ≤ of_kind kind y

-- They do not fall.
abbrev pub AreRising : List Told → Type 0
AreRising [] = Unit {0}
AreRising (t ∷ ts) = Each (λ (s : Told). AtMost t.numbers s.numbers) ts × AreRising ts

-- ---- the outside

-- Of what one told another on a connection: the numbers do not fall, and are at most the last one adopted.
pub record TalkFacts (a b : UniqueAddress) (d : ℕ) (ls : List Line) : Type 0 where
  pub rising : AreRising (told_by a b d ls)
  pub below : Each (λ (t : Told). AtMost t.numbers (adopted_by a b ls)) (told_by a b d ls)

-- Of a connection from a to b.
pub record ConnFacts (cs : List Conn) (a b : UniqueAddress) (ls : List Line) (c : Conn) : Type 0 where
  pub near : a.uid ≡ c.dialer
  pub far : b.uid ≡ c.far
  pub told : AreWritten cs c.dialer c.far (sends_on c) (told_by a b c.dial ls)
  pub all : c.near_open ≡ true → length (sends_on c) ≡ length (told_by a b c.dial ls)
  pub acks : Each (λ (k : Acking). k.number ≤ of_kind k.kind (adopted_by a b ls)) (acks_on c)
  pub says : Each (λ (v : UniqueAddress). v ≡ a) (speakers_on c)
  pub places : Each (λ (t : Tabling). t.values ≡ numbers_from 0 (length t.keys)) (tables_on c)

-- What was got is what is left of what was told.
abbrev pub KeepsOrdinary : List Line → Option ((Way × Option ℕ) × Tell) → Type 0
KeepsOrdinary ls None = Unit {0}
KeepsOrdinary ls (Some ((way, None), message)) = ⊥
KeepsOrdinary ls (Some (((b, a), Some d), message)) = Within (got_by a b d ls ++ message ∷ []) (messages (told_by a b d ls))

abbrev pub IsLawful : List Line → Type 0
IsLawful [] = Unit {0}
IsLawful (l ∷ ls) = KeepsOrdinary ls (says_got l) × IsLawful ls

module _ (nobody : UniqueAddress) where
  -- Who bears a UID.
  abbrev pub named : List Line → ℕ → UniqueAddress
  named ls uid = name_by nobody uid ls

  -- The last table that was adopted is one that was announced.
  abbrev pub IsAnnounced : List Conn → UniqueAddress → UniqueAddress → Kind → ℕ → Type 0
  IsAnnounced cs a b kind number = Or (number ≡ 0) ((keys : List (List ℕ)) × Announced cs b.uid a.uid kind number keys)

  pub record Out (cs : List Conn) (ls : List Line) : Type 0 where
    pub adopts : (a b : UniqueAddress) (kind : Kind) → IsAnnounced cs a b kind (of_kind kind (adopted_by a b ls))
    pub dialed : (i j : ℕ) (c k : Conn) → slice_get cs i ≡ Some c → slice_get cs j ≡ Some k → c.dialer ≡ k.dialer → c.dial ≡ k.dial → i ≡ j
    pub reached : (i j : ℕ) (c k : Conn) → slice_get cs i ≡ Some c → slice_get cs j ≡ Some k → c.far ≡ k.far → c.number ≡ k.number → i ≡ j
    pub untold : (a b : UniqueAddress) (d : ℕ) → Or (told_by a b d ls ≡ []) (Made cs a.uid d)
    pub talks : (a b : UniqueAddress) (d : ℕ) → TalkFacts a b d ls
    pub conns : (i : ℕ) (c : Conn) → slice_get cs i ≡ Some c → ConnFacts cs (named ls c.dialer) (named ls c.far) ls c

-- ---- a peer of the node who is me

-- The pairs of a table that is held: none of number 0, and else those of the table with that number that was announced.
abbrev pub IsHeld : List Conn → ℕ → ℕ → Kind → ℕ → List (List ℕ × ℕ) → Type 0
IsHeld cs by to kind number [] = Unit {0}
IsHeld cs by to kind number (p ∷ ps) = (keys : List (List ℕ)) × Announced cs by to kind number keys × (p ∷ ps ≡ zip keys (numbers_from 0 (length keys)))

pub record Holds (cs : List Conn) (by to : ℕ) (kind : Kind) (adopted : ℕ) (s : Adopted) : Type 0 where
  pub number : s.number ≡ adopted
  pub held : IsHeld cs by to kind s.number s.pairs

-- The tables adopted from the current incarnation; without one there are none.
abbrev pub AreHeld : List Conn → UniqueAddress → Address → List Line → OfKinds Adopted → Option ℕ → Type 0
AreHeld cs me a ls tables None = tables ≡ of_each (record { number = 0; pairs = [] })
AreHeld cs me a ls tables (Some uid) = (kind : Kind) → Holds cs uid me.uid kind (of_kind kind (adopted_by me (incarnation a uid) ls)) (of_kind kind tables)

module _ (nobody : UniqueAddress) where
  -- A connection with this dial number that is bound to a UID at an address reaches who bears it, who answered it.
  pub record BoundTo (me : UniqueAddress) (cs : List Conn) (ls : List Line) (a : Address) (dial uid : ℕ) : Type 0 where
    pub name : name_by nobody uid ls ≡ incarnation a uid
    pub far : (i : ℕ) (c : Conn) → slice_get cs i ≡ Some c → is_dialed me.uid dial c ≡ true → c.far ≡ uid
    pub answered : Answered cs uid me.uid dial
    pub made : Made cs me.uid dial

  abbrev pub IsBound : UniqueAddress → List Conn → List Line → Address → Option (ℕ × ℕ) → Type 0
  IsBound me cs ls a None = Unit {0}
  IsBound me cs ls a (Some (dial, uid)) = BoundTo me cs ls a dial uid

-- The dial number and the UID of a connection in this state, where it is bound.
abbrev pub bound_as : ℕ → OutState → Option (ℕ × ℕ)
bound_as dial Dialing = None
bound_as dial (Asked begun last) = None
bound_as dial (Bound uid) = Some (dial, uid)

abbrev pub bound_in : Option OutConn → Option (ℕ × ℕ)
bound_in None = None
bound_in (Some c) = bound_as c.dial c.state

pub record PeerFacts (nobody me : UniqueAddress) (cs : List Conn) (ls : List Line) (a : Address) (p : Peer whole) : Type 0 where
  pub alive : (uid : ℕ) → p.incarnations.current ≡ Some uid → is_closed uid p.incarnations ≡ false
  pub unspoken : (uid : ℕ) → is_that uid p.incarnations.current ≡ false → is_closed uid p.incarnations ≡ false → adopted_by me (incarnation a uid) ls ≡ of_each 0
  pub control : IsBound nobody me cs ls a (bound_in p.control.conn)
  pub ordinary : IsBound nobody me cs ls a (bound_in p.ordinary.conn)

-- ---- an origin of the node who is me

pub record StoryFacts (s : Story) (adopted : ℕ) : Type 0 where
  pub story : IsStory s
  pub below : s.confirmed ≤ adopted

-- A table that was announced is that of the story.
pub record IsFramed (s : Story) (t : Tabling) : Type 0 where
  pub before : ℕ
  pub number : t.number ≡ before + 1
  pub names : slice_get s.tables before ≡ Some t.keys
  pub places : t.values ≡ numbers_from 0 (length t.keys)

abbrev pub story_of : Kind → UniqueAddress → Node whole → Story
story_of kind v n = (of_kind kind (origin_at v n).tables).story

abbrev pub stories_of : Node whole → UniqueAddress → Kind → Story
stories_of n v kind = story_of kind v n

-- ---- an inbound connection of the node who is me, from a

abbrev pub IsShown : Option ℕ → Kind → OfKinds ℕ → List Told → Type 0
IsShown None kind adopted later = Unit {0}
IsShown (Some number) kind adopted later = (number ≤ of_kind kind adopted) × Each (λ (t : Told). number ≤ of_kind kind t.numbers) later

abbrev pub IsState : UniqueAddress → ℕ → List Told → InState → Type 0
IsState a dial told Raw = told ≡ []
IsState a dial told (Known who its_nonce) = (who ≡ a) × (its_nonce ≡ Some dial)

-- An answer that is owed is to the request on this connection, and that was heard.
abbrev pub IsKnown : InState → Type 0
IsKnown Raw = ⊥
IsKnown (Known who its_nonce) = Unit {0}

pub record IsOwed (c : Conn) (state : InState) (x : Answer) : Type 0 where
  pub uid : x.for_uid ≡ Some c.dialer
  pub nonce : x.nonce ≡ Some c.dial
  pub known : IsKnown state

abbrev pub MayOwe : Conn → InState → Option Answer → Type 0
MayOwe c state None = Unit {0}
MayOwe c state (Some x) = IsOwed c state x

-- How many of the ordinary messages on a connection are among the first so many of all that was written.
abbrev pub sent_in : ℕ → Conn → ℕ
sent_in given c = length (all_said sends_said (take given c.way.all))

-- So many things that were written on the connection were given to the node.
pub record InFacts (me a : UniqueAddress) (given : ℕ) (story : Kind → Story) (ls : List Line) (i : Inbound whole) (c : Conn) : Type 0 where
  pub had : given ≤ length c.way.all
  pub begun : IsKnown i.state → 1 ≤ given
  pub state : IsState a c.dial (told_by a me c.dial ls) i.state
  pub owed : MayOwe c i.state i.owed
  pub got : Within (got_by a me c.dial ls) (messages (take (sent_in given c) (told_by a me c.dial ls)))
  pub fits : (carried c.way.all ≡ Some streams.Control → ⊥) → (kind : Kind)
      → Each (λ (t : Told). Fits (length (story kind).tables) (of_kind kind t.numbers)) (drop (sent_in given c) (told_by a me c.dial ls))
  pub shown : (kind : Kind) → IsShown (of_kind kind i.shown) kind (adopted_by a me ls) (drop (sent_in given c) (told_by a me c.dial ls))

pub record Heard (nobody me : UniqueAddress) (given : ℕ) (stories : UniqueAddress → Kind → Story) (cs : List Conn) (ls : List Line) (k : ℕ) (i : Inbound whole) : Type 0 where
  pub place : ℕ
  pub conn : Conn
  pub is : slice_get cs place ≡ Some conn
  pub inward : is_inward me.uid k conn ≡ true
  pub facts : InFacts me (name_by nobody conn.dialer ls) given (stories (name_by nobody conn.dialer ls)) ls i conn

-- ---- a node

-- Numbers that rise.
abbrev pub Rises : ℕ → List ℕ → Type 0
Rises least [] = Unit {0}
Rises least (k ∷ ks) = (least ≤ k) × Rises (k + 1) ks

abbrev pub numbers_in : List (Inbound whole) → List ℕ
numbers_in is = map (λ (i : Inbound whole). i.number) is

-- The facts of a node, but for the tables of peers at these addresses, where no incarnation is current.
pub record NodeFacts (nobody : UniqueAddress) (u : ℕ) (given : ℕ → ℕ) (away : Address → Bool) (n : Node whole) (cs : List Conn) (ls : List Line) : Type 0 where
  pub uid : n.me.uid ≡ u
  pub me : name_by nobody u ls ≡ n.me
  pub ordered : Rises 0 (numbers_in n.inbound)
  pub peers : (a : Address) → PeerFacts nobody n.me cs ls a (peer_at a n)
  pub tables : (a : Address) → away a ≡ false → AreHeld cs n.me a ls (peer_at a n).tables (peer_at a n).incarnations.current
  pub gone : (a : Address) → away a ≡ true → (peer_at a n).incarnations.current ≡ None
  pub origins : (v : UniqueAddress) (kind : Kind) → StoryFacts (story_of kind v n) (of_kind kind (adopted_by v n.me ls))
  pub framed : (i : ℕ) (c : Conn) → slice_get cs i ≡ Some c → c.dialer ≡ u → Each (λ (t : Tabling). IsFramed (story_of t.kind (name_by nobody c.far ls) n) t) (tables_on c)
  pub inbound : (k : ℕ) (i : Inbound whole) → inbound_at k n ≡ Some i → Heard nobody n.me (given k) (stories_of n) cs ls k i
  pub opened : (j : ℕ) (c : Conn) → slice_get cs j ≡ Some c → c.dialer ≡ u → Each (λ (x : Answering). (p : ℕ) (k : Conn) → slice_get cs p ≡ Some k → is_dialed x.uid x.dial k ≡ true
      → (k.far ≡ u) × ((i : Inbound whole) → inbound_at k.number n ≡ Some i → IsKnown i.state)) (answers_on c)

-- ---- both

pub record Good (nobody : UniqueAddress) (u : ℕ) (given : ℕ → ℕ) (away : Address → Bool) (n : Node whole) (w : Network) : Type 0 where
  pub lawful : IsLawful (journal w)
  pub out : w.ended ≡ None → Out nobody w.connections (journal w)
  pub node : w.ended ≡ None → NodeFacts nobody u given away n w.connections (journal w)
