-- What the numbers that are drawn decide: the steps of a script.
use Rattle.std.specs.Prelude.{ℕ, zero, suc, ◌+◌, ◌*◌, ◌/◌, ◌%◌, ◌^◌, Bool, ◌&&◌, ◌==◌, if◌then◌else◌}
use Rattle.artery_generator.specs.declared.live.Live.{Live}
use Rattle.artery_generator.specs.declared.turn.Turn.{Turn}
use Rattle.artery_generator.specs.Places.{place, first_live, uid_at, with_uid}

-- The number drawn after x.
abbrev pub next_drawn : ℕ → ℕ
next_drawn x = (x * 1103515245 + 12345) % 2 ^ 31

-- The numbers drawn for script n: first n itself, and then one for each step.
abbrev pub drawn : ℕ → ℕ → ℕ
drawn n zero = n
drawn n (suc k) = next_drawn (drawn n k)

-- The part of a drawn number that decides.
abbrev pub high : ℕ → ℕ
high x = x / 65536

-- The number of the place that acts.
abbrev pub from_of : ℕ → ℕ
from_of x = high x % 3

-- The number of the place that is concerned: one of the two others, the next or the one behind it.
abbrev pub to_of : ℕ → ℕ
to_of x = (from_of x + 1 + (high x / 3) % 2) % 3

-- What is done, 0 to 9.
abbrev pub deed_of : ℕ → ℕ
deed_of x = (high x / 6) % 10

-- The step with this number for which x was drawn, when these live.
abbrev pub turn_of : ℕ → ℕ → Live → Turn
turn_of k x live = record { number = k; from = place (from_of x); to = place (to_of x); deed = deed_of x; live = live }

-- Where the deed is 9 and 7 divides the step's number, the place that acts stops and starts again.
abbrev pub restarts : Turn → Bool
restarts t = t.deed == 9 && t.number % 7 == 0

-- The UID that starts then is the step's number and 3 more.
abbrev pub successor : Turn → ℕ
successor t = t.number + 3

-- Who lives after a step: those who did before, but for a place that starts again.
abbrev pub live_after : Turn → Live
live_after t = if restarts t then with_uid t.from (successor t) t.live else t.live

-- Step k + 1 of script n, where these live before it.
abbrev pub turn_behind : ℕ → ℕ → Live → Turn
turn_behind n k live = turn_of (k + 1) (drawn n (k + 1)) live

-- Who lives after the first k steps of script n.
abbrev pub live_after_turns : ℕ → ℕ → Live
live_after_turns n zero = first_live
live_after_turns n (suc k) = live_after (turn_behind n k (live_after_turns n k))
