-- It does not matter where a stream is cut.
use Rattle.std.specs.Prelude.{◌≡◌, ℕ, [], ◌∷◌, ◌++◌, Option, None, Some}
use Rattle.artery_frame.specs.declared.fault.FrameFault.{FrameFault}
use Rattle.artery_machine.specs.declared.input.Conn.TheVariants.{Inward}
use Rattle.artery_machine.specs.Deeds.{Hangs}
use Rattle.artery_machine.specs.Parts.{whole}
use Rattle.artery_machine.specs.Doing.{listed, Doing}

-- What two pieces made a node do one after the other is what the joined piece makes it do. Where the first breaks the stream, its connection is gone, and the second piece hangs it up once more.
abbrev pub IsJoined : Option FrameFault → ℕ → Doing whole listed → Doing whole listed → Type 0
IsJoined None number apart joined = apart ≡ joined
IsJoined (Some fault) number apart joined = apart ≡ record joined { deeds = joined.deeds ++ Hangs (Inward number) ∷ [] }
