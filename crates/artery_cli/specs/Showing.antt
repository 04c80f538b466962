-- What `show` does with a piece of a connection, and at its end.
use Rattle.std.specs.Prelude.{◌≡◌, ℕ, List, ◌++◌, Option, if◌then◌else◌}
use Rattle.std.specs.Io.KnownBytes.{Appends, Keeps}
use Rattle.artery_io.specs.Written.{TakesFront}
use Rattle.artery_capture.specs.Captured.{KeptCapture, Shows}
use Rattle.artery_capture.specs.Shown.{front_lines, last_line, has_fault}
use Rattle.artery_cli.specs.declared.stop.Stop.{Stop}
use Rattle.artery_cli.specs.declared.stop.Stop.TheVariants as stops

-- with the piece these lines are added to those of the bytes before it
abbrev pub AddsLines : List ℕ → List ℕ → List ℕ → Type 0
AddsLines fed piece added = front_lines (fed ++ piece) ≡ front_lines fed ++ added

-- the lines that the piece adds were written, and the capture stands for all bytes so far
pub record WritesLines (new : KeptCapture) (fed piece : List ℕ) (held held' : Option (List ℕ)) : Type 0 where
  pub shows : Shows new (fed ++ piece)
  pub added : List ℕ
  pub lines : AddsLines fed piece added
  pub written : Appends held held' added

-- the sink failed as the lines that the piece adds were written: it took a front of them
pub record CutsLines (fed piece : List ℕ) (held held' : Option (List ℕ)) : Type 0 where
  pub added : List ℕ
  pub lines : AddsLines fed piece added
  pub taken : TakesFront held held' added

-- a piece at which showing stopped: memory ran out before its lines were written, or the sink failed as they were
abbrev pub StopsInPiece : Stop → List ℕ → List ℕ → Option (List ℕ) → Option (List ℕ) → Type 0
StopsInPiece stops.Read fed piece held held' = ⊥
StopsInPiece stops.Write fed piece held held' = CutsLines fed piece held held'
StopsInPiece stops.NoMemory fed piece held held' = Keeps held held'

-- the last line was written, and the status tells whether the stream has a fault
pub record Ends (status : ℕ) (fed : List ℕ) (held held' : Option (List ℕ)) : Type 0 where
  pub written : Appends held held' (last_line fed)
  pub is_status : status ≡ (if has_fault fed then 1 else 0)
