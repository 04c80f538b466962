-- The script with a number.
use Rattle.std.specs.Prelude.{ℕ, zero, suc, ◌+◌, List, [], ◌∷◌, ◌++◌}
use Rattle.artery_script.specs.declared.event.Event.{Event}
use Rattle.artery_script.specs.declared.script.ScriptLine.{ScriptLine}
use Rattle.artery_generator.specs.declared.live.Live.{Live}
use Rattle.artery_generator.specs.Places.{first_live}
use Rattle.artery_generator.specs.Turns.{live_after_turns, turn_behind}
use Rattle.artery_generator.specs.Events.{events_of_turn, first_events, last_round}

-- What the first k steps of script n make happen, one after the other.
abbrev pub turns_up_to : ℕ → ℕ → List Event
turns_up_to n zero = []
turns_up_to n (suc k) = turns_up_to n k ++ events_of_turn (turn_behind n k (live_after_turns n k))

-- What the first t rounds behind step n make happen when these live: round t is at the time of a step n + t.
abbrev pub last_up_to : ℕ → Live → ℕ → List Event
last_up_to n live zero = []
last_up_to n live (suc t) = last_up_to n live t ++ last_round (n + t + 1) live

-- What happens in script n: the beginning, n steps, and three rounds.
abbrev pub events_of_script : ℕ → List Event
events_of_script n = first_events first_live ++ turns_up_to n n ++ last_up_to n (live_after_turns n n) 3

-- Events on lines of their own, numbered from this number on.
abbrev pub numbered_from : ℕ → List Event → List ScriptLine
numbered_from line [] = []
numbered_from line (e ∷ es) = record { line = line; event = e } ∷ numbered_from (line + 1) es

-- The script n: its events on lines from 1 on.
abbrev pub script_of : ℕ → List ScriptLine
script_of n = numbered_from 1 (events_of_script n)
