-- What the steps of a script make happen.
use Rattle.std.specs.Prelude.{ℕ, pos, ◌+◌, ◌*◌, ◌==◌, nat_lt, if◌then◌else◌, List, [], ◌∷◌, ◌++◌, codes}
use Rattle.std.specs.Int.{w32, to_be_bytes}
use Rattle.artery_base.specs.declared.message.SysMsg.{SysMsg}
use Rattle.artery_base.specs.declared.message.Tell.{Tell}
use Rattle.artery_base.specs.declared.message.Request.TheVariants as requests
use Rattle.artery_script.specs.declared.event.Event.{Event}
use Rattle.artery_script.specs.declared.event.Event.TheVariants as events
use Rattle.artery_generator.specs.declared.place.Place.{Place}
use Rattle.artery_generator.specs.declared.place.Place.TheVariants.{A, B, C}
use Rattle.artery_generator.specs.declared.live.Live.{Live}
use Rattle.artery_generator.specs.declared.turn.Turn.{Turn}
use Rattle.artery_generator.specs.Places.{address_of, actor_at, watching_path, watched_path, first_other, second_other, first_live, uid_at}
use Rattle.artery_generator.specs.Turns.{restarts, successor}

-- The UID that acts in a step.
abbrev pub actor : Turn → ℕ
actor t = uid_at t.from t.live

-- The UID starts at a place.
abbrev pub starts : Place → ℕ → Event
starts p uid = events.Start (record { address = address_of p; uid = uid })

-- The UID has an actor spawned.
abbrev pub spawns : ℕ → Event
spawns uid = events.At uid (requests.Spawn watched_path)

-- The system message of a step: its payload is the step's number as four bytes, the highest first.
abbrev pub message_of : Turn → SysMsg
message_of t = record { serializer = pos 5; manifest = codes "x"; payload = to_be_bytes w32 t.number }

-- The ordinary message of a step, with the same payload.
abbrev pub tell_of : Turn → Tell
tell_of t = record {
  sender = actor_at t.from watching_path;
  recipient = actor_at t.to watched_path;
  serializer = pos 4;
  manifest = codes "T";
  payload = to_be_bytes w32 t.number;
}

-- A system message is sent.
abbrev pub sends : Turn → Event
sends t = events.At (actor t) (requests.Send (address_of t.to) (message_of t))

-- An ordinary message is told.
abbrev pub tells : Turn → Event
tells t = events.At (actor t) (requests.Tell (address_of t.to) (tell_of t))

-- A watch is asked for.
abbrev pub watches : Turn → Event
watches t = events.At (actor t) (requests.Watch watching_path (actor_at t.to watched_path))

-- All three are told the time: 1,000 milliseconds a step.
abbrev pub ticks : ℕ → Live → List Event
ticks k live = events.Tick live.a (1000 * k) ∷ events.Tick live.b (1000 * k) ∷ events.Tick live.c (1000 * k) ∷ []

-- Both sides end of all that the UID dialed.
abbrev pub breaks : ℕ → List Event
breaks uid = events.CutAll uid ∷ events.EndAll uid ∷ []

-- So many rounds pass.
abbrev pub passes : ℕ → Event
passes rounds = events.Pass rounds

-- The UID that acts stops; the far sides of what it dialed end, and both sides of what the others dialed.
abbrev pub stops : Turn → List Event
stops t = events.Stop (actor t) ∷ events.EndAll (actor t) ∷ (breaks (uid_at (first_other t.from) t.live) ++ breaks (uid_at (second_other t.from) t.live))

-- Then its successor starts at the same place, and has an actor spawned.
abbrev pub stops_and_starts : Turn → List Event
stops_and_starts t = stops t ++ starts t.from (successor t) ∷ spawns (successor t) ∷ []

-- What a step makes happen, by its deed.
abbrev pub events_of_turn : Turn → List Event
events_of_turn t = if nat_lt t.deed 3 then sends t ∷ []
    else if nat_lt t.deed 5 then tells t ∷ []
    else if t.deed == 5 then passes 3 ∷ []
    else if t.deed == 6 then watches t ∷ []
    else if t.deed == 7 then ticks t.number t.live
    else if t.deed == 8 then breaks (actor t)
    else if restarts t then stops_and_starts t
    else passes 1 ∷ []

-- At the beginning all start, and then each has an actor spawned.
abbrev pub first_events : Live → List Event
first_events live = starts A live.a ∷ starts B live.b ∷ starts C live.c ∷ spawns live.a ∷ spawns live.b ∷ spawns live.c ∷ []

-- A round behind the last step, as though it were a step of this number: all are told the time, and nine rounds pass.
abbrev pub last_round : ℕ → Live → List Event
last_round k live = ticks k live ++ passes 9 ∷ []
