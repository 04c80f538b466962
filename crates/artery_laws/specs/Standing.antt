-- What a node keeps stands for whole histories.
use Rattle.std.specs.Prelude.{◌≡◌, ℕ, List, [], ◌∷◌}
use Rattle.artery_delivery.specs.Outbound.{Stands as SentStands}
use Rattle.artery_delivery.specs.Inbound.{Stands as TakenStands}
use Rattle.artery_tables.specs.InTables.{Stands as AnnouncedStands}
use Rattle.artery_tables.specs.OutTable.{Stands as AdoptedStands}
use Rattle.artery_detector.specs.Kept.{Stands as BeatsStand}
use Rattle.artery_frame.specs.Kept.{Kept}
use Rattle.artery_frame.specs.Stream.{reading_of}
use Rattle.artery_frame.specs.Standing.{Stands as FedStands}
use Rattle.artery_machine.specs.Parts.{kept, whole}
use Rattle.artery_machine.specs.Node.{Peer, Inbound, Origin, Node}
use Rattle.artery_machine.specs.Doing.{listed, Doing}

-- What is kept of a stream stands for all its bytes: their frames were given, and the fault was told where there is one.
pub record BytesStand (k : Kept) (bytes : List ℕ) : Type 0 where
  pub stands : FedStands k bytes (reading_of bytes).frames
  pub fault : k.fault ≡ (reading_of bytes).end

-- A peer stands for another: the same, but for what has a whole history, which what is kept stands for.
pub record PeerStands (p : Peer kept) (q : Peer whole) : Type 0 where
  pub incarnations : p.incarnations ≡ q.incarnations
  pub out : SentStands p.out q.out
  pub held : p.held ≡ q.held
  pub refs : AdoptedStands p.tables.refs q.tables.refs
  pub manifests : AdoptedStands p.tables.manifests q.tables.manifests
  pub control : p.control ≡ q.control
  pub ordinary : p.ordinary ≡ q.ordinary
  pub quiet : p.quiet ≡ q.quiet
  pub patience : p.patience ≡ q.patience
  pub used : p.used ≡ q.used
  pub asleep : p.asleep ≡ q.asleep
  pub beats : BeatsStand p.beats q.beats
  pub last_beat : p.last_beat ≡ q.last_beat

-- An inbound connection stands for another.
pub record InboundStands (i : Inbound kept) (j : Inbound whole) : Type 0 where
  pub number : i.number ≡ j.number
  pub bytes : BytesStand i.bytes j.bytes
  pub state : i.state ≡ j.state
  pub owed : i.owed ≡ j.owed
  pub shown : i.shown ≡ j.shown

-- An origin stands for another.
pub record OriginStands (o : Origin kept) (q : Origin whole) : Type 0 where
  pub who : o.who ≡ q.who
  pub refs : AnnouncedStands o.tables.refs q.tables.refs
  pub manifests : AnnouncedStands o.tables.manifests q.tables.manifests
  pub advertised : o.advertised ≡ q.advertised
  pub owes : o.owes ≡ q.owes

-- Each of a list stands for the one at its place in another, and there are as many.
abbrev pub EachStands : {K S : Type 0} → (K → S → Type 0) → List K → List S → Type 0
EachStands Stands [] [] = Unit {0}
EachStands Stands [] (s ∷ ss) = ⊥
EachStands Stands (k ∷ ks) [] = ⊥
EachStands Stands (k ∷ ks) (s ∷ ss) = Stands k s × EachStands Stands ks ss

-- What a node keeps stands for whole histories.
pub record NodeStands (n : Node kept) (w : Node whole) : Type 0 where
  pub me : n.me ≡ w.me
  pub moment : n.moment ≡ w.moment
  pub dials : n.dials ≡ w.dials
  pub peers : EachStands PeerStands n.peers w.peers
  pub inbound : EachStands InboundStands n.inbound w.inbound
  pub origins : EachStands OriginStands n.origins w.origins
  pub taken : TakenStands n.taken w.taken
  pub watching : n.watching ≡ w.watching

-- A node that keeps and one with whole histories did the same, and the one stands for the other then.
pub record DoSame (d : Doing kept listed) (e : Doing whole listed) : Type 0 where
  pub deeds : d.deeds ≡ e.deeds
  pub stands : NodeStands d.node e.node
