-- What a node does in a network, with what it writes as bytes.
use Rattle.std.specs.Prelude.{ℕ, ◌+◌, ◌==◌, ◌&&◌, nat_lt, Bool, not, if◌then◌else◌, List, length}
use Rattle.artery_machine.specs.Lists.{change_first}
use Rattle.artery_machine.specs.declared.effect.Effect.{Effect}
use Rattle.artery_machine.specs.declared.effect.Effect.TheVariants as effects
use Rattle.artery_machine.specs.declared.input.Conn.TheVariants.{Outward, Inward}
use Rattle.artery_machine.specs.declared.world.Outcome.TheVariants as outcomes
use Rattle.artery_machine.specs.declared.world.WorldLimit.TheVariants as limits
use Rattle.artery_machine.specs.Parts.{kept}
use Rattle.artery_machine.specs.Ways.{kept_ways}
use Rattle.artery_machine.specs.Connections.{Connection, far_open, near_ended, far_ended, place_dialed, place_inward}
use Rattle.artery_machine.specs.World.{Change, ◌⟫◌, stays, ends, by_found, by_connection, connection_becomes, comes_out, is_too_much, dials, Pending, has_uid, one_more, connects, most_connections}
use Rattle.artery_connections.specs.Change.{with_bytes}

-- A change of a network as it is kept.
abbrev pub KeptChange : Type 0
KeptChange = Change kept kept_ways

-- The node with this UID writes bytes on its connection with this dial number.
abbrev pub writes_bytes : ℕ → ℕ → List ℕ → ℕ → Connection kept_ways → KeptChange
writes_bytes uid dial bytes place c w =
    (if not c.near_open then stays
    else if is_too_much (length bytes) c w then ends limits.Undelivered
    else connection_becomes (with_bytes bytes) place ⟫ comes_out (outcomes.Wrote uid dial bytes)) w

-- What the node with this UID does, at its moment.
abbrev pub acts : ℕ → ℕ → Effect → KeptChange
acts uid moment (effects.Dial dial address) w = dials uid dial address w
acts uid moment (effects.Write dial bytes) w = by_found (by_connection (writes_bytes uid dial bytes)) (place_dialed uid dial w.connections) w
acts uid moment (effects.Hang (Outward dial)) w = by_found (connection_becomes near_ended) (place_dialed uid dial w.connections) w
acts uid moment (effects.Hang (Inward number)) w = by_found (connection_becomes far_ended) (place_inward uid number w.connections) w
acts uid moment (effects.Line line) w = comes_out (outcomes.Line moment line) w

-- One more connection reached the incarnation with this UID.
abbrev pub counts_one : ℕ → KeptChange
counts_one far w = record w { live = change_first (has_uid far) one_more w.live }

-- A dial is answered by the live incarnation with this UID, which so many connections reached before.
abbrev pub answers_by : Pending → ℕ → ℕ → KeptChange
answers_by p far accepted w =
    (if nat_lt (length w.connections) most_connections then connects p.dialer p.dial far (accepted + 1) else ends limits.Connections) w

-- Whether this UID dialed a connection whose near side is open.
abbrev pub is_near_of : ℕ → Connection kept_ways → Bool
is_near_of uid c = (c.dialer == uid) && c.near_open

-- Whether this UID dialed a connection whose far side is open.
abbrev pub is_far_of : ℕ → Connection kept_ways → Bool
is_far_of uid c = (c.dialer == uid) && far_open c
