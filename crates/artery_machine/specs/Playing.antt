-- A script is played: its events come to a network, in order, until one does not happen or not to its end.
use Rattle.std.specs.Prelude.{ℕ, List, [], ◌∷◌, Option, None, Some}
use Rattle.std.specs.Option.{option_map}
use Rattle.artery_script.specs.declared.event.Event.{Event}
use Rattle.artery_script.specs.declared.script.ScriptLine.{ScriptLine}
use Rattle.artery_machine.specs.declared.world.Why.{Why}
use Rattle.artery_machine.specs.declared.world.WorldFault.{WorldFault}
use Rattle.artery_machine.specs.declared.world.WorldFault.TheVariants as faults
use Rattle.artery_machine.specs.declared.world.WorldLimit.{WorldLimit}
use Rattle.artery_machine.specs.Parts.{Parts}
use Rattle.artery_machine.specs.Ways.{Ways}
use Rattle.artery_machine.specs.World.{World, nothing, refusal, applies}

-- Where a run stopped: the number of its line, and why.
pub record Stop : Type 0 where
  pub line : ℕ
  pub fault : WorldFault

-- What a run led to, and where it stopped, if it did.
pub record Run (P : Parts) (W : Ways) : Type 0 where
  pub world : World P W
  pub stop : Option Stop

-- The limit at which a network has ended, if it has, or else the first condition of an event that fails.
abbrev pub fault_before : Option WorldLimit → Option Why → Option WorldFault
fault_before (Some limit) refused = Some (faults.Limit limit)
fault_before None refused = option_map faults.NotAllowed refused

-- The first of two that there is.
abbrev pub first_fault : Option WorldFault → Option WorldFault → Option WorldFault
first_fault None later = later
first_fault (Some fault) later = Some fault

module _ {P : Parts} {W : Ways} where
  -- Why an event does not happen, or not to its end.
  abbrev pub fault_of : Event → World P W → Option WorldFault
  fault_of event w = first_fault (fault_before w.ended (refusal event w)) (option_map faults.Limit (applies event w).ended)

  -- A run goes on, unless an event did not happen or not to its end: it stopped at the line of that event.
  abbrev pub goes_on : ℕ → World P W → Option WorldFault → Run P W → Run P W
  goes_on line w None later = later
  goes_on line w (Some fault) later = record { world = w; stop = Some (record { line = line; fault = fault }) }

  -- The events of a script come to a network, in order, up to the first that does not happen or not to its end.
  abbrev pub plays : List ScriptLine → World P W → Run P W
  plays [] w = record { world = w; stop = None }
  plays (l ∷ ls) w = goes_on l.line (applies l.event w) (fault_of l.event w) (plays ls (applies l.event w))

  -- A script is played on a network in which nothing has happened.
  abbrev pub run : List ScriptLine → Run P W
  run script = plays script nothing
