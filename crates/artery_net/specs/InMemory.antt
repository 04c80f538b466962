-- A net in memory.
use Rattle.std.specs.Prelude.{◌≡◌, ℕ, ◌+◌, Bool, true, false, List, [], ◌∷◌, ◌++◌, length, Option, Some, None, Result, Ok, Err}
use Rattle.artery_io.specs.InMemory.{next_fails}
use Rattle.artery_net.specs.declared.event.NetEvent.{NetEvent}
use Rattle.artery_net.specs.declared.event.NetEvent.TheVariants as events
use Rattle.artery_net.specs.declared.event.NetFault.{NetFault}
use Rattle.artery_net.specs.declared.event.NetFault.TheVariants as fault
use Rattle.artery_net.specs.declared.event.Act.{Act}
use Rattle.artery_net.specs.declared.event.Step.{Step}
use Rattle.artery_net.specs.declared.event.Step.TheVariants.{Gave, Did}
use Rattle.artery_net.specs.Story.{IsFit, moment_after, acts_of}

-- A net in memory: the events that are left, the numbers of the calls that fail, how many calls of `next`, `dial` and `write` there were, its story, its counts of faults, how many calls of `next` there were, and the moment of the last tick.
pub record MemState : Type 0 where
  pub left : List NetEvent
  pub failing : List ℕ
  pub calls : ℕ
  pub story : Option (List Step)
  pub faults : ℕ
  pub next_faults : ℕ
  pub asked : ℕ
  pub moment : ℕ

-- Events whose pieces and moments obey the bounds, after this moment.
abbrev pub AreFit : ℕ → List NetEvent → Type 0
AreFit last [] = Unit {0}
AreFit last (e ∷ es) = IsFit last e × AreFit (moment_after last e) es

-- The next event of those that are left: the first, or Idle where none is.
abbrev pub first : List NetEvent → NetEvent
first [] = events.Idle
first (e ∷ es) = e

-- What is left behind it.
abbrev pub rest : List NetEvent → List NetEvent
rest [] = []
rest (e ∷ es) = es

-- A net in memory that has given nothing.
abbrev pub new_net : List NetEvent → List ℕ → MemState
new_net es failing = record { left = es; failing = failing; calls = 0; story = Some []; faults = 0; next_faults = 0; asked = 0; moment = 0 }

-- A call fails exactly where its number is listed; else it does what it is to, unless memory runs out.
abbrev pub FailsAsListed : {T : Type 0} → MemState → Result T NetFault → Type 0
FailsAsListed n (Ok _) = next_fails n.failing n.calls ≡ false
FailsAsListed n (Err fault.Failed) = next_fails n.failing n.calls ≡ true
FailsAsListed n (Err fault.NoMemory) = Unit {0}

-- What `next` gives is the next event of those that are left, and the rest is left behind it. Where it gives nothing they all are.
abbrev pub GivesNext : List NetEvent → List NetEvent → Result NetEvent NetFault → Type 0
GivesNext old new (Ok e) = (e ≡ first old) × (new ≡ rest old)
GivesNext old new (Err f) = new ≡ old

-- The acts of a story, where it is told.
abbrev pub acts_told : Option (List Step) → Option (List Act)
acts_told None = None
acts_told (Some steps) = Some (acts_of steps)

-- The story of a net in memory: for each of these marks, in order, an event that it gave (true) or an act that it received (false). The events are those of its list and then Idle.
abbrev pub woven : List Bool → List NetEvent → List Act → List Step
woven [] es done = []
woven (true ∷ marks) es done = Gave (first es) ∷ woven marks (rest es) done
woven (false ∷ marks) es [] = woven marks es []
woven (false ∷ marks) es (a ∷ done) = Did a ∷ woven marks es done

-- The story, where it is told.
abbrev pub told : Bool → List Step → Option (List Step)
told true steps = Some steps
told false steps = None

-- The events that are left behind those that were given.
abbrev pub left_behind : List Bool → List NetEvent → List NetEvent
left_behind [] es = es
left_behind (true ∷ marks) es = left_behind marks (rest es)
left_behind (false ∷ marks) es = left_behind marks es

-- How many of the marks are acts.
abbrev pub acts_marked : List Bool → ℕ
acts_marked [] = 0
acts_marked (true ∷ marks) = acts_marked marks
acts_marked (false ∷ marks) = acts_marked marks + 1

-- While the story is told, the marks tell which events are left, and that each act has its mark.
abbrev pub AreMarked : Bool → List Bool → List NetEvent → List NetEvent → List Act → Type 0
AreMarked true marks es left done = (left_behind marks es ≡ left) × (acts_marked marks ≡ length done)
AreMarked false marks es left done = Unit {0}

-- The marks with one more, where the story is told.
abbrev pub marked : Bool → Bool → List Bool → List Bool
marked true mark marks = marks ++ mark ∷ []
marked false mark marks = marks
