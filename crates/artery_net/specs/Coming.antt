-- What comes on the connections of a net.
use Rattle.std.specs.Prelude.{◌≡◌, ℕ, Option, None, Some}
use Rattle.artery_net.specs.declared.event.NetEvent.{NetEvent}
use Rattle.artery_net.specs.Story.{IsFit, moment_after}

-- An event that is no tick, where there is one: a piece has 1 to 65,536 bytes.
abbrev pub NoTick : ℕ → Option NetEvent → Type 0
NoTick last None = Unit {0}
NoTick last (Some e) = IsFit last e × (moment_after last e ≡ last)
