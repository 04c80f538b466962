-- What the calls of a net tell.
use Rattle.std.specs.Prelude.{◌≡◌, ℕ, ◌^◌, ◌<◌, ◌≤◌, Bool, true, false, List, [], ◌∷◌, ◌++◌, length, Option, Some, None, Result, Ok, Err, IsErrOf}
use Rattle.artery_io.specs.Faults.{Rose}
use Rattle.artery_base.specs.declared.address.Address.{Address}
use Rattle.artery_net.specs.declared.event.NetEvent.{NetEvent}
use Rattle.artery_net.specs.declared.event.NetEvent.TheVariants as events
use Rattle.artery_net.specs.declared.event.NetFault.{NetFault}
use Rattle.artery_net.specs.declared.event.NetFault.TheVariants as fault
use Rattle.artery_net.specs.declared.event.Act.{Act}
use Rattle.artery_net.specs.declared.event.Act.TheVariants as acts
use Rattle.artery_net.specs.declared.event.Step.{Step}
use Rattle.artery_net.specs.declared.event.Step.TheVariants.{Gave, Did}

-- The count did not fall, and rose where the call answered Failed.
pub record HasNetCause {T : Type 0} (before now : ℕ) (result : Result T NetFault) : Type 0 where
  pub later : before ≤ now
  pub failed : IsErrOf result fault.Failed → Rose before now

-- A story goes on by exactly this step. One that is not told says nothing, and stays untold.
abbrev pub GoesOn : Option (List Step) → Option (List Step) → Step → Type 0
GoesOn None None s = Unit {0}
GoesOn None (Some new) s = ⊥
GoesOn (Some old) None s = ⊥
GoesOn (Some old) (Some new) s = new ≡ old ++ s ∷ []

-- A story goes on by exactly this step, or is told no more.
abbrev pub MayGoOn : Option (List Step) → Option (List Step) → Step → Type 0
MayGoOn old None s = Unit {0}
MayGoOn old (Some new) s = GoesOn old (Some new) s

-- What an act adds to the story, by whether it failed: itself where it was done, itself as failed where it answered Failed, and nothing for want of memory.
abbrev pub Acted : Option (List Step) → Option (List Step) → (Bool → Act) → Result Unit NetFault → Type 0
Acted old new act (Ok _) = GoesOn old new (Did (act false))
Acted old new act (Err fault.Failed) = GoesOn old new (Did (act true))
Acted old new act (Err fault.NoMemory) = new ≡ old

-- A dial, by whether it failed.
abbrev pub dialing : ℕ → Address → Bool → Act
dialing dial address failed = acts.Dial dial address failed

-- A write, by whether it failed.
abbrev pub writing : ℕ → List ℕ → Bool → Act
writing dial bytes failed = acts.Write dial bytes failed

-- The moment of the last tick, once an event was given.
abbrev pub moment_after : ℕ → NetEvent → ℕ
moment_after last (events.Accepted conn) = last
moment_after last (events.Dialed dial) = last
moment_after last (events.DialFailed dial) = last
moment_after last (events.Bytes conn piece) = last
moment_after last (events.Ended conn) = last
moment_after last (events.Tick now) = now
moment_after last events.Idle = last

-- A piece has 1 to 65,536 bytes, and a moment is at least that of the last tick and below 2^62.
abbrev pub IsFit : ℕ → NetEvent → Type 0
IsFit last (events.Accepted conn) = Unit {0}
IsFit last (events.Dialed dial) = Unit {0}
IsFit last (events.DialFailed dial) = Unit {0}
IsFit last (events.Bytes conn piece) = (0 < length piece) × (length piece ≤ 65536)
IsFit last (events.Ended conn) = Unit {0}
IsFit last (events.Tick now) = (last ≤ now) × (now < 2 ^ 62)
IsFit last events.Idle = Unit {0}

-- The acts of a story, in order.
abbrev pub acts_of : List Step → List Act
acts_of [] = []
acts_of (Gave e ∷ steps) = acts_of steps
acts_of (Did a ∷ steps) = a ∷ acts_of steps
