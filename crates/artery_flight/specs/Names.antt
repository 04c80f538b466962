-- The names of connections and of dials in a network.
use Rattle.std.specs.Prelude.{◌≡◌, ◌≤◌, ℕ, ◌==◌, List, length, slice_get, Some}
use Rattle.std.specs.List.{filter}
use Rattle.artery_machine.specs.Parts.{whole}
use Rattle.artery_machine.specs.Ways.{whole_ways}
use Rattle.artery_machine.specs.Connections.{Connection}
use Rattle.artery_machine.specs.World.{World, Pending, Live}

-- How many of these connections reach the incarnation with this UID.
abbrev pub reaching : ℕ → List (Connection whole_ways) → ℕ
reaching uid cs = length (filter (λ (c : Connection whole_ways). c.far == uid) cs)

-- Who dialed and the number of the dial name one connection or one pending dial; whom it reaches and its number there name one connection; and no connection has a number above that of the connections that reach its far end.
pub record AreSingle (w : World whole whole_ways) : Type 0 where
  pub dialed : (i j : ℕ) (c k : Connection whole_ways) → slice_get w.connections i ≡ Some c → slice_get w.connections j ≡ Some k → c.dialer ≡ k.dialer → c.dial ≡ k.dial → i ≡ j
  pub reached : (i j : ℕ) (c k : Connection whole_ways) → slice_get w.connections i ≡ Some c → slice_get w.connections j ≡ Some k → c.far ≡ k.far → c.number ≡ k.number → i ≡ j
  pub pending : (i j : ℕ) (p q : Pending) → slice_get w.pending i ≡ Some p → slice_get w.pending j ≡ Some q → p.dialer ≡ q.dialer → p.dial ≡ q.dial → i ≡ j
  pub apart : (i j : ℕ) (p : Pending) (c : Connection whole_ways) → slice_get w.pending i ≡ Some p → slice_get w.connections j ≡ Some c → p.dialer ≡ c.dialer → p.dial ≡ c.dial → ⊥
  pub counted : (i : ℕ) (c : Connection whole_ways) → slice_get w.connections i ≡ Some c → c.number ≤ reaching c.far w.connections

-- What a live incarnation counts: the connections that reached it, and its dials, of which each has a number up to that count.
pub record Counts (w : World whole whole_ways) (l : Live whole) : Type 0 where
  pub accepted : l.accepted ≡ reaching l.node.me.uid w.connections
  pub dialed : (i : ℕ) (c : Connection whole_ways) → slice_get w.connections i ≡ Some c → c.dialer ≡ l.node.me.uid → c.dial ≤ l.node.dials
  pub pending : (i : ℕ) (p : Pending) → slice_get w.pending i ≡ Some p → p.dialer ≡ l.node.me.uid → p.dial ≤ l.node.dials
