-- Rules that take a node further, wherever its deeds go.
use Rattle.std.specs.Prelude.{ℕ, zero, suc, Bool, if◌then◌else◌, List, [], ◌∷◌, ◌++◌, Option, None, Some}
use Rattle.artery_base.specs.declared.address.Address.{Address}
use Rattle.artery_base.specs.declared.address.UniqueAddress.{UniqueAddress}
use Rattle.artery_journal.specs.declared.line.Line.{Line}
use Rattle.artery_machine.specs.declared.input.Conn.TheVariants.{Outward}
use Rattle.artery_machine.specs.Lists.{change_first}
use Rattle.artery_machine.specs.declared.effect.Effect.{Effect}
use Rattle.artery_machine.specs.Deeds.{Writing, Deed, Writes, Hangs, Tells, effect_of}
use Rattle.artery_machine.specs.Parts.{Parts}
use Rattle.artery_machine.specs.Node.{Node, Peer, Inbound, Origin, is_peer, is_number, is_origin}

-- Where deeds go, one after the other.
pub record Sink : Type 1 where
  pub Deeds : Type 0
  pub told : Deed → Deeds → Deeds

-- They are listed in the order told.
abbrev pub listed : Sink
listed = record { Deeds = List Deed; told = λ deed deeds. deeds ++ deed ∷ [] }

-- What the node with this UID did, in the order told, with what it writes as bytes.
pub record InBytes : Type 0 where
  pub uid : ℕ
  pub effects : List Effect

-- They are listed in the order told, each with its bytes.
abbrev pub in_bytes : Sink
in_bytes = record { Deeds = InBytes; told = λ deed done. record done { effects = done.effects ++ effect_of done.uid deed ∷ [] } }

-- A node at work: what it is by now, and its deeds so far.
pub record Doing (P : Parts) (E : Sink) : Type 0 where
  pub node : Node P
  pub deeds : E.Deeds

-- A rule takes a node at work further.
abbrev pub Rule : Parts → Sink → Type 0
Rule P E = Doing P E → Doing P E

infixr 35 ◌▸◌
-- One rule, and then another.
abbrev pub ◌▸◌ : {P : Parts} {E : Sink} → Rule P E → Rule P E → Rule P E
(r ▸ s) d = s (r d)

module _ {P : Parts} {E : Sink} where
  -- Nothing is done.
  abbrev pub stays : Rule P E
  stays d = d

  -- A rule, where something holds.
  abbrev pub where_true : Bool → Rule P E → Rule P E
  where_true b r = if b then r else stays

  -- A deed comes after those so far.
  abbrev pub does : Deed → Rule P E
  does deed d = record d { deeds = E.told deed d.deeds }

  -- The node changes, and nothing is done.
  abbrev pub becomes : (Node P → Node P) → Rule P E
  becomes change d = record d { node = change d.node }

  -- A line is told.
  abbrev pub tells : Line → Rule P E
  tells line = does (Tells line)

  -- A line of the node itself is told.
  abbrev pub tells_of : (UniqueAddress → Line) → Rule P E
  tells_of line d = tells (line d.node.me) d

  -- Something is written on the own connection with this dial number, where there is one.
  abbrev pub writes_on : Option ℕ → Writing → Rule P E
  writes_on None writing = stays
  writes_on (Some dial) writing = does (Writes dial writing)

  -- The own connection with this dial number is hung up, where there is one.
  abbrev pub hangs_up : Option ℕ → Rule P E
  hangs_up None = stays
  hangs_up (Some dial) = does (Hangs (Outward dial))

  -- The peer at an address changes, where there is one.
  abbrev pub peer_becomes : Address → (Peer P → Peer P) → Rule P E
  peer_becomes address change = becomes (λ n. record n { peers = change_first (is_peer address) change n.peers })

  -- The inbound connection with a number changes, where there is one.
  abbrev pub inbound_becomes : ℕ → (Inbound P → Inbound P) → Rule P E
  inbound_becomes number change = becomes (λ n. record n { inbound = change_first (is_number number) change n.inbound })

  -- An origin changes, where the node has it.
  abbrev pub origin_becomes : UniqueAddress → (Origin P → Origin P) → Rule P E
  origin_becomes who change = becomes (λ n. record n { origins = change_first (is_origin who) change n.origins })

  -- A rule for each of a list, in its order.
  abbrev pub each : {X : Type 0} → List X → (X → Rule P E) → Rule P E
  each [] r = stays
  each (x ∷ xs) r = r x ▸ each xs r

  -- A rule so many times.
  abbrev pub times : ℕ → Rule P E → Rule P E
  times zero r = stays
  times (suc k) r = r ▸ times k r
