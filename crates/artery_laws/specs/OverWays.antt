-- Ways that lie over others: a map of what is on a connection, under which each operation is the same; and a network seen through such maps, with outcomes that came before.
use Rattle.std.specs.Prelude.{◌≡◌, ℕ, List, ◌++◌, map}
use Rattle.artery_machine.specs.declared.world.Outcome.{Outcome}
use Rattle.artery_machine.specs.Deeds.{Writing}
use Rattle.artery_machine.specs.Parts.{Parts}
use Rattle.artery_machine.specs.Ways.{Ways}
use Rattle.artery_machine.specs.Connections.{Connection}
use Rattle.artery_machine.specs.World.{Live, World}
use Rattle.artery_machine.specs.Playing.{Run}
use Rattle.artery_laws.specs.Over.{Over, node_over}

-- Ways over which others lie: a map of what is on a connection, and for each operation that it is the same before and after the map.
pub record WaysOver (V W : Ways) : Type 0 where
  pub way : V.Way → W.Way
  pub nothing_written : W.nothing_written ≡ way V.nothing_written
  pub wrote : (writing : Writing) (bytes : List ℕ) (x : V.Way) → W.wrote writing bytes (way x) ≡ way (V.wrote writing bytes x)
  pub delivered_more : (count : ℕ) (x : V.Way) → W.delivered_more count (way x) ≡ way (V.delivered_more count x)
  pub ended : (x : V.Way) → W.ended (way x) ≡ way (V.ended x)
  pub is_open : (x : V.Way) → W.is_open (way x) ≡ V.is_open x
  pub undelivered : (x : V.Way) → W.undelivered (way x) ≡ V.undelivered x
  pub written : (x : V.Way) → W.written (way x) ≡ V.written x
  pub delivered : (x : V.Way) → W.delivered (way x) ≡ V.delivered x

-- A live incarnation, its node seen through the maps.
abbrev pub live_over : {P Q : Parts} (h : Over P Q) → Live P → Live Q
live_over h l = record { node = node_over h l.node; accepted = l.accepted }

-- A connection, what is on it seen through the map.
abbrev pub connection_over : {V W : Ways} (g : WaysOver V W) → Connection V → Connection W
connection_over g c = record { dialer = c.dialer; dial = c.dial; far = c.far; number = c.number; near_open = c.near_open; way = g.way c.way }

module _ {P Q : Parts} {V W : Ways} (h : Over P Q) (g : WaysOver V W) (before : List Outcome) where
  -- A network, seen through the maps, with outcomes that came before its own.
  abbrev pub world_over : World P V → World Q W
  world_over w = record {
    started = w.started;
    live = map (live_over h) w.live;
    pending = w.pending;
    connections = map (connection_over g) w.connections;
    outcomes = before ++ w.outcomes;
    ended = w.ended;
  }

  -- What a run led to, seen through the maps, and where it stopped.
  abbrev pub run_over : Run P V → Run Q W
  run_over r = record { world = world_over r.world; stop = r.stop }
