-- A network of what is kept beside the same network of whole histories, and a network that has come somewhere.
use Rattle.std.specs.Prelude.{◌≡◌, ℕ, List, ◌++◌, map}
use Rattle.artery_machine.specs.declared.world.Outcome.{Outcome}
use Rattle.artery_machine.specs.Parts.{Parts, kept, whole}
use Rattle.artery_machine.specs.Ways.{Ways, kept_ways, whole_ways}
use Rattle.artery_machine.specs.Connections.{Connection}
use Rattle.artery_machine.specs.World.{World}
use Rattle.artery_machine.specs.Playing.{Run}

-- What is told of a connection: who dialed it, with which number, and how many bytes were written on it and delivered.
pub record Counted : Type 0 where
  -- the UID of who dialed it
  pub uid : ℕ
  -- the number of that dial
  pub dial : ℕ
  -- how many bytes were written, at most 18,446,744,073,709,551,615 as told
  pub written : ℕ
  -- how many of them were delivered, told in the same way
  pub delivered : ℕ

-- The counts of a connection.
abbrev pub counts_of : {W : Ways} → Connection W → Counted
counts_of {W} c = record { uid = c.dialer; dial = c.dial; written = W.written c.way; delivered = W.delivered c.way }

-- A run over what is kept shows what one over whole histories shows: the same came of it, it stopped where the other did, and its connections count the same.
pub record IsSameRun (k : Run kept kept_ways) (w : Run whole whole_ways) : Type 0 where
  pub outcomes : k.world.outcomes ≡ w.world.outcomes
  pub stop : k.stop ≡ w.stop
  pub counts : map counts_of k.world.connections ≡ map counts_of w.world.connections

module _ {P : Parts} {W : Ways} where
  -- A network of which other outcomes came before its own.
  abbrev pub with_outcomes_before : List Outcome → World P W → World P W
  with_outcomes_before before w = record w { outcomes = before ++ w.outcomes }

  -- A run of which other outcomes came before its own.
  abbrev pub run_with_outcomes_before : List Outcome → Run P W → Run P W
  run_with_outcomes_before before r = record r { world = with_outcomes_before before r.world }
