-- A network: the incarnations that live, the dials that are pending, the connections between them, and what each event of a script makes of it.
use Rattle.std.specs.Prelude.{ℕ, zero, suc, ◌+◌, ◌==◌, nat_lt, nat_le, Bool, ◌&&◌, not, is_some, is_none, if◌then◌else◌, List, [], ◌∷◌, ◌++◌, length, take, drop, map, remove, position, slice_get, Option, None, Some}
use Rattle.std.specs.List.{find, filter, list_any}
use Rattle.artery_base.specs.declared.address.Address.{Address}
use Rattle.artery_base.specs.declared.address.UniqueAddress.{UniqueAddress}
use Rattle.artery_base.specs.declared.message.Request.{Request}
use Rattle.artery_base.specs.declared.message.Request.TheVariants as requests
use Rattle.artery_journal.specs.declared.line.Line.TheVariants as lines
use Rattle.artery_script.specs.declared.event.Event.{Event}
use Rattle.artery_script.specs.declared.event.Event.TheVariants as events
use Rattle.artery_machine.specs.declared.input.Conn.TheVariants.{Outward, Inward}
use Rattle.artery_machine.specs.declared.input.Input.{Input}
use Rattle.artery_machine.specs.declared.input.Input.TheVariants as inputs
use Rattle.artery_machine.specs.declared.world.Outcome.{Outcome}
use Rattle.artery_machine.specs.declared.world.Outcome.TheVariants as outcomes
use Rattle.artery_machine.specs.declared.world.Why.{Why}
use Rattle.artery_machine.specs.declared.world.Why.TheVariants as why
use Rattle.artery_machine.specs.declared.world.WorldLimit.{WorldLimit}
use Rattle.artery_machine.specs.declared.world.WorldLimit.TheVariants as limits
use Rattle.artery_machine.specs.Lists.{change_first, change_at, at_place}
use Rattle.artery_machine.specs.Deeds.{Writing, Deed, Dials, Writes, Hangs, Tells, bytes_of}
use Rattle.artery_machine.specs.Parts.{Parts}
use Rattle.artery_machine.specs.Ways.{Ways}
use Rattle.artery_machine.specs.Connections.{Connection, connected, far_open, undelivered_on, is_loaded, load, loads, near_ended, far_ended, ended_with, with_writing, with_delivered, place_dialed, place_inward}
use Rattle.artery_machine.specs.Node.{Node, same_address}
use Rattle.artery_machine.specs.Doing.{listed, Doing}
use Rattle.artery_machine.specs.Watching.{address_in}
use Rattle.artery_machine.specs.Reacting.{starts, step}

-- At most 64 incarnations live.
abbrev pub most_nodes : ℕ
most_nodes = 64

-- At most 268,435,456 bytes are undelivered.
abbrev pub most_undelivered : ℕ
most_undelivered = 268435456

-- At most 100,000 connections are made.
abbrev pub most_connections : ℕ
most_connections = 100000

-- Bytes are given in pieces of at most 65,536.
abbrev pub piece_size : ℕ
piece_size = 65536

-- ---- the network

-- A dial that is pending.
pub record Pending : Type 0 where
  pub dialer : ℕ
  pub dial : ℕ
  pub address : Address

-- Whether a pending dial has this dialer and this number.
abbrev pub is_pending : ℕ → ℕ → Pending → Bool
is_pending uid dial p = (p.dialer == uid) && (p.dial == dial)

-- A live incarnation, and how many connections reached it.
pub record Live (P : Parts) : Type 0 where
  pub node : Node P
  pub accepted : ℕ

-- A network: the UIDs that were started, the live incarnations in the order started, the pending dials and the connections in the order made, what came of all, and the limit at which it ended.
pub record World (P : Parts) (W : Ways) : Type 0 where
  pub started : List ℕ
  pub live : List (Live P)
  pub pending : List Pending
  pub connections : List (Connection W)
  pub outcomes : List Outcome
  pub ended : Option WorldLimit

-- Nothing has happened.
abbrev pub nothing : {P : Parts} {W : Ways} → World P W
nothing = record { started = []; live = []; pending = []; connections = []; outcomes = []; ended = None }

-- What becomes of a network.
abbrev pub Change : Parts → Ways → Type 0
Change P W = World P W → World P W

infixr 34 ◌⟫◌
-- One change, and then another.
abbrev pub ◌⟫◌ : {P : Parts} {W : Ways} → Change P W → Change P W → Change P W
(f ⟫ g) w = g (f w)

-- Bytes in pieces of at most 65,536, at most so many pieces.
abbrev pub pieces : ℕ → List ℕ → List (List ℕ)
pieces zero bytes = []
pieces (suc most) bytes = if length bytes == 0 then [] else take piece_size bytes ∷ pieces most (drop piece_size bytes)

-- The address that a request names, if it names one.
abbrev pub address_named : Request → Option Address
address_named (requests.Pair address) = Some address
address_named (requests.Send address message) = Some address
address_named (requests.Tell address message) = Some address
address_named (requests.Watch path watchee) = address_in watchee
address_named (requests.Unwatch path watchee) = address_in watchee
address_named (requests.Spawn path) = None
address_named (requests.Kill path) = None
address_named (requests.Quarantine address) = Some address

-- The first of two that there is.
abbrev pub first_of : Option Why → Option Why → Option Why
first_of None later = later
first_of (Some first) later = Some first

-- A condition that fails, or none.
abbrev pub unless : Bool → Why → Option Why
unless holds reason = if holds then None else Some reason

-- A condition on a pending dial, which must be there.
abbrev pub of_pending : Option Pending → (Pending → Option Why) → Option Why
of_pending None rest = Some why.NoDial
of_pending (Some p) rest = rest p

-- A request does not name the own address.
abbrev pub of_address : Option Address → Address → Option Why
of_address None own = None
of_address (Some address) own = unless (not (same_address address own)) why.OwnAddress

-- A condition on a connection, which must have been made.
abbrev pub of_connection : {W : Ways} → Option (Connection W) → (Connection W → Option Why) → Option Why
of_connection None rest = Some why.NoConnection
of_connection (Some c) rest = rest c

module _ {P : Parts} where
  -- Whether a live incarnation has this UID.
  abbrev pub has_uid : ℕ → Live P → Bool
  has_uid uid l = l.node.me.uid == uid

  -- Whether a live incarnation has this address.
  abbrev pub lives_at : Address → Live P → Bool
  lives_at address l = same_address l.node.me.address address

  -- The node of a live incarnation becomes another.
  abbrev pub with_node : Node P → Live P → Live P
  with_node node l = record l { node = node }

  -- One more connection reached an incarnation.
  abbrev pub one_more : Live P → Live P
  one_more l = record l { accepted = l.accepted + 1 }

  -- A condition on the live incarnation with a UID, which must live.
  abbrev pub of_live : Option (Live P) → (Live P → Option Why) → Option Why
  of_live None rest = Some why.NotLive
  of_live (Some l) rest = rest l

module _ {P : Parts} {W : Ways} where
  -- A change, unless the network has ended.
  abbrev pub going_on : Change P W → Change P W
  going_on change w = if is_none w.ended then change w else w

  -- The network has ended at a limit.
  abbrev pub ends : WorldLimit → Change P W
  ends limit w = record w { ended = Some limit }

  -- Nothing changes.
  abbrev pub stays : Change P W
  stays w = w

  -- A change by what was found, where something was.
  abbrev pub by_found : {X : Type 0} → (X → Change P W) → Option X → Change P W
  by_found change None = stays
  by_found change (Some x) = change x

  -- A change for each of a list, in its order.
  abbrev pub each : {X : Type 0} → List X → (X → Change P W) → Change P W
  each [] change = stays
  each (x ∷ xs) change = going_on (change x) ⟫ each xs change

  -- A change for each of so many places, from a first one on.
  abbrev pub each_place : ℕ → ℕ → (ℕ → Change P W) → Change P W
  each_place first zero change = stays
  each_place first (suc count) change = going_on (change first) ⟫ each_place (first + 1) count change

  -- A change so many times.
  abbrev pub times : ℕ → Change P W → Change P W
  times zero change = stays
  times (suc count) change = going_on change ⟫ times count change

  -- ---- finding

  -- The live incarnation with this UID.
  abbrev pub live_of : ℕ → World P W → Option (Live P)
  live_of uid w = find (has_uid uid) w.live

  -- The live incarnation at this address.
  abbrev pub live_at : Address → World P W → Option (Live P)
  live_at address w = find (lives_at address) w.live

  -- The first pending dial with this dialer and number.
  abbrev pub pending_of : ℕ → ℕ → World P W → Option Pending
  pending_of uid dial w = find (is_pending uid dial) w.pending

  -- The connection at a place among those made, counted from 0.
  abbrev pub connection_at : ℕ → World P W → Option (Connection W)
  connection_at place w = slice_get w.connections place

  -- The first connection with this dialer and dial number.
  abbrev pub connection_of : ℕ → ℕ → World P W → Option (Connection W)
  connection_of uid dial w = at_place w.connections (place_dialed uid dial w.connections)

  -- How many bytes are undelivered.
  abbrev pub undelivered : World P W → ℕ
  undelivered w = loads w.connections

  -- ---- deeds

  -- The connection at a place changes, where there is one.
  abbrev pub connection_becomes : (Connection W → Connection W) → ℕ → Change P W
  connection_becomes change place w = record w { connections = change_at place change w.connections }

  -- A change by the connection at a place as it is now, where there is one.
  abbrev pub by_connection : (ℕ → Connection W → Change P W) → ℕ → Change P W
  by_connection change place w = by_found (change place) (connection_at place w) w

  -- Something came of an event.
  abbrev pub comes_out : Outcome → Change P W
  comes_out outcome w = record w { outcomes = w.outcomes ++ outcome ∷ [] }

  -- Whether a write of so many bytes would bring the undelivered bytes above the limit. One to a far side that has ended is lost and does not count so.
  abbrev pub is_too_much : ℕ → Connection W → World P W → Bool
  is_too_much count c w = far_open c && nat_lt most_undelivered (undelivered w + count)

  -- The node with this UID writes something with these bytes on its connection with this dial number, and that is told. After the near side has ended this is left out. What would bring the undelivered bytes above the limit is not written, and the network ends.
  abbrev pub writes : ℕ → ℕ → Writing → List ℕ → ℕ → Connection W → Change P W
  writes uid dial writing bytes place c w =
      (if not c.near_open then stays
      else if is_too_much (length bytes) c w then ends limits.Undelivered
      else connection_becomes (with_writing writing bytes) place ⟫ comes_out (outcomes.Wrote uid dial bytes)) w

  -- A dial is pending behind the others.
  abbrev pub dials : ℕ → ℕ → Address → Change P W
  dials uid dial address w = record w { pending = w.pending ++ record { dialer = uid; dial = dial; address = address } ∷ [] }

  -- A deed of the node with this UID, at its moment. A hang-up of an own connection ends its near side, one of an inbound connection its far side, and nobody is told; a dial that is pending stays so. What is written to a connection that was not made is left out.
  abbrev pub does : ℕ → ℕ → Deed → Change P W
  does uid moment (Dials dial address) w = dials uid dial address w
  does uid moment (Writes dial writing) w =
      by_found (by_connection (writes uid dial writing (bytes_of uid writing))) (place_dialed uid dial w.connections) w
  does uid moment (Hangs (Outward dial)) w = by_found (connection_becomes near_ended) (place_dialed uid dial w.connections) w
  does uid moment (Hangs (Inward number)) w = by_found (connection_becomes far_ended) (place_inward uid number w.connections) w
  does uid moment (Tells line) w = comes_out (outcomes.Line moment line) w

  -- The node of the live incarnation with this UID becomes another.
  abbrev pub node_becomes : ℕ → Node P → Change P W
  node_becomes uid node w = record w { live = change_first (has_uid uid) (with_node node) w.live }

  -- What a node made of itself, and then its deeds in order.
  abbrev pub follows : ℕ → Doing P listed → Change P W
  follows uid done = node_becomes uid done.node ⟫ each done.deeds (does uid done.node.moment)

  -- Something comes to the incarnation with this UID as it is now, where it lives.
  abbrev pub gives : ℕ → Input → Change P W
  gives uid input w = by_found (λ l. follows uid (step input l.node)) (live_of uid w) w

  -- ---- events

  -- A UID is among those started.
  abbrev pub was_started : ℕ → World P W → Bool
  was_started uid w = list_any (λ other. other == uid) w.started

  -- An incarnation lives from now on.
  abbrev pub with_started : UniqueAddress → Node P → Change P W
  with_started unique node w =
      record w { started = w.started ++ unique.uid ∷ []; live = w.live ++ record { node = node; accepted = 0 } ∷ [] }

  -- An incarnation starts, and does what a node does at its start. Where 64 others live it does not start, and the network ends.
  abbrev pub starts_with : UniqueAddress → Doing P listed → Change P W
  starts_with unique begun w =
      (if nat_lt (length w.live) most_nodes
      then with_started unique begun.node ⟫ each begun.deeds (does unique.uid begun.node.moment)
      else ends limits.Nodes) w

  -- The incarnation with this UID lives no more; its pending dials are gone; its own connections end at their near sides and those made to it at their far sides; and no node is told.
  abbrev pub gone : ℕ → Change P W
  gone uid w = record w {
    live = filter (λ l. not (has_uid uid l)) w.live;
    pending = filter (λ p. not (p.dialer == uid)) w.pending;
    connections = map (ended_with uid) w.connections;
  }

  -- A live incarnation stops: a line tells so, with its own moment, and it is gone.
  abbrev pub stops_one : Live P → Change P W
  stops_one l = comes_out (outcomes.Line l.node.moment (lines.Stopped l.node.me)) ⟫ gone l.node.me.uid

  -- A connection is made: the far incarnation counts one more.
  abbrev pub joins : ℕ → ℕ → ℕ → ℕ → Change P W
  joins uid dial far number w = record w {
    live = change_first (has_uid far) one_more w.live;
    connections = w.connections ++ connected uid dial far number ∷ [];
  }

  -- A connection is made and told to both: the far incarnation gets it with its next number, and then the dialer is told.
  abbrev pub connects : ℕ → ℕ → ℕ → ℕ → Change P W
  connects uid dial far number =
      joins uid dial far number ⟫ gives far (inputs.Accepted number) ⟫ going_on (gives uid (inputs.Dialed dial))

  -- A pending dial is answered by a live incarnation. Where 100,000 connections were made it is not, and the network ends.
  abbrev pub answers : Pending → Live P → Change P W
  answers p l w =
      (if nat_lt (length w.connections) most_connections then connects p.dialer p.dial l.node.me.uid (l.accepted + 1)
      else ends limits.Connections) w

  -- A dial fails where nobody was found, and is answered by a live incarnation else.
  abbrev pub settled : Pending → Option (Live P) → Change P W
  settled p None = gives p.dialer (inputs.DialFailed p.dial)
  settled p (Some l) = answers p l

  -- A dial that is no longer pending is answered where a live incarnation has its address, and fails else.
  abbrev pub settles : Pending → Change P W
  settles p w = settled p (live_at p.address w) w

  -- The pending dial at a place is no longer pending.
  abbrev pub no_longer : ℕ → Change P W
  no_longer place w = record w { pending = remove w.pending place }

  -- A change by the pending dial at a place, which is no longer pending.
  abbrev pub by_pending_at : (Pending → Change P W) → ℕ → Change P W
  by_pending_at change place w = by_found (λ p. no_longer place ⟫ change p) (slice_get w.pending place) w

  -- A change by the first pending dial with this dialer and number, which is no longer pending.
  abbrev pub by_pending : ℕ → ℕ → (Pending → Change P W) → Change P W
  by_pending uid dial change w = by_found (by_pending_at change) (position (is_pending uid dial) w.pending) w

  -- A pending dial fails.
  abbrev pub fails : Pending → Change P W
  fails p = gives p.dialer (inputs.DialFailed p.dial)

  -- So many bytes arrive: all count as delivered, and then the far node is given them piece by piece.
  abbrev pub carries : ℕ → ℕ → Connection W → Change P W
  carries count place c =
      connection_becomes (with_delivered count) place
      ⟫ each (pieces count (take count (undelivered_on c))) (λ piece. gives c.far (inputs.Bytes c.number piece))

  -- The near side of a connection ends, and its dialer is told where it lives.
  abbrev pub cuts : ℕ → Connection W → Change P W
  cuts place c = connection_becomes near_ended place ⟫ gives c.dialer (inputs.Ended (Outward c.dial))

  -- The far side of a connection ends, its undelivered bytes are lost, and the far node is told where it lives.
  abbrev pub ends_far : ℕ → Connection W → Change P W
  ends_far place c = connection_becomes far_ended place ⟫ gives c.far (inputs.Ended (Inward c.number))

  -- A change by a connection, where it passes a test.
  abbrev pub where_it : (Connection W → Bool) → (ℕ → Connection W → Change P W) → ℕ → Connection W → Change P W
  where_it test change place c = if test c then change place c else stays

  -- Each connection made by now that passes a test at its turn, in the order made.
  abbrev pub for_each : (Connection W → Bool) → (ℕ → Connection W → Change P W) → Change P W
  for_each test change w = each_place 0 (length w.connections) (by_connection (where_it test change)) w

  -- A connection carries all its undelivered bytes.
  abbrev pub carries_all : ℕ → Connection W → Change P W
  carries_all place c = carries (load c) place c

  -- The first of these pending dials is settled, and the rest stay pending.
  abbrev pub settles_first : List Pending → Change P W
  settles_first [] = stays
  settles_first (p ∷ rest) = (λ w. record w { pending = rest }) ⟫ settles p

  -- The first of the dials that are pending is settled, where there is one.
  abbrev pub settles_next : Change P W
  settles_next w = settles_first w.pending w

  -- A round: the dials that are pending at its beginning are settled, and then each connection made by then carries all its undelivered bytes, in the orders made.
  abbrev pub passes_once : Change P W
  passes_once = (λ w. times (length w.pending) settles_next w) ⟫ going_on (for_each is_loaded carries_all)

  -- ---- what is allowed

  -- The first condition of an event that fails.
  abbrev pub refusal : Event → World P W → Option Why
  refusal (events.Start unique) w =
      first_of (unless (not (was_started unique.uid w)) why.UsedUid) (unless (not (is_some (live_at unique.address w))) why.AddressLive)
  refusal (events.Stop uid) w = of_live (live_of uid w) (λ l. None)
  refusal (events.At uid request) w = of_live (live_of uid w) (λ l. of_address (address_named request) l.node.me.address)
  refusal (events.Tick uid moment) w = of_live (live_of uid w) (λ l. unless (nat_le l.node.moment moment) why.MomentBack)
  refusal (events.Answer uid dial) w = of_pending (pending_of uid dial w) (λ p. unless (is_some (live_at p.address w)) why.Nobody)
  refusal (events.Fail uid dial) w = of_pending (pending_of uid dial w) (λ p. None)
  refusal (events.Carry uid dial count) w =
      of_connection (connection_of uid dial w)
      (λ c. first_of (unless (far_open c) why.FarEnded) (unless (nat_le count (load c)) why.TooMany))
  refusal (events.Cut uid dial) w = of_connection (connection_of uid dial w) (λ c. unless c.near_open why.NearEnded)
  refusal (events.End uid dial) w = of_connection (connection_of uid dial w) (λ c. unless (far_open c) why.FarEnded)
  refusal (events.CutAll uid) w = unless (was_started uid w) why.NotStarted
  refusal (events.EndAll uid) w = unless (was_started uid w) why.NotStarted
  refusal (events.Pass rounds) w = None

  -- An allowed event happens.
  abbrev pub happens : Event → Change P W
  happens (events.Start unique) w = starts_with unique (starts unique) w
  happens (events.Stop uid) w = by_found stops_one (live_of uid w) w
  happens (events.At uid request) w = gives uid (inputs.Request request) w
  happens (events.Tick uid moment) w = gives uid (inputs.Tick moment) w
  happens (events.Answer uid dial) w = by_pending uid dial settles w
  happens (events.Fail uid dial) w = by_pending uid dial fails w
  happens (events.Carry uid dial count) w = by_found (by_connection (carries count)) (place_dialed uid dial w.connections) w
  happens (events.Cut uid dial) w = by_found (by_connection cuts) (place_dialed uid dial w.connections) w
  happens (events.End uid dial) w = by_found (by_connection ends_far) (place_dialed uid dial w.connections) w
  happens (events.CutAll uid) w = for_each (λ c. (c.dialer == uid) && c.near_open) cuts w
  happens (events.EndAll uid) w = for_each (λ c. (c.dialer == uid) && far_open c) ends_far w
  happens (events.Pass rounds) w = times rounds passes_once w

  -- An event happens where nothing refuses it.
  abbrev pub unless_refused : Option Why → Event → Change P W
  unless_refused None event = happens event
  unless_refused (Some reason) event = stays

  -- An event comes to a network. Where it is not allowed nothing changes, nor once the network has ended at a limit.
  abbrev pub applies : Event → Change P W
  applies event = going_on (λ w. unless_refused (refusal event w) event w)
