-- Parts under way: what is kept while lines are read.
use Rattle.std.specs.Prelude.{◌≡◌, ℕ, List, ◌∷◌, ◌++◌, [], map, Option, None, Some, Result, Ok, Err, if◌then◌else◌}
use Rattle.artery_base.specs.Words.{Unless}
use Rattle.artery_base.specs.declared.address.UniqueAddress.{UniqueAddress}
use Rattle.artery_audit.specs.declared.part.Part.{Part}
use Rattle.artery_audit.specs.Parts.{AreParts, has_part, takes, begun, with_line}
use Rattle.artery_parts_reading.specs.declared.told.Told.{Told}
use Rattle.artery_parts_reading.specs.declared.told.Told.TheVariants as says
use Rattle.artery_parts_reading.specs.declared.fault.PartsFault.{PartsFault}
use Rattle.artery_parts_reading.specs.Lines.{told_of}
use Rattle.artery_parts_reading.specs.Parts.{at_line, parts_memory}

-- What is kept: the parts, and the incarnations that have one.
pub record Gathering : Type 0 where
  pub parts : List Part
  pub names : List UniqueAddress

-- The names are those of the parts, which are such as an audit takes.
pub record IsGathering (g : Gathering) : Type 0 where
  pub names : g.names ≡ map (λ p. p.of) g.parts
  pub apart : AreParts g.parts

-- The parts with what a line tells, unless it is bad behind them.
abbrev pub with_told : List Part → Told → Option (List Part)
with_told parts (says.Of u) = if has_part u parts then None else Some (parts ++ begun u ∷ [])
with_told parts (says.Line line) = if takes line parts then Some (with_line line parts) else None

-- The same of what a line tells, if it tells something.
abbrev pub with_said : List Part → Option Told → Option (List Part)
with_said parts None = None
with_said parts (Some t) = with_told parts t

-- The parts with what the line of a text with this number tells, or that it is bad.
abbrev pub with_text : ℕ → List ℕ → List Part → Result (List Part) PartsFault
with_text n text parts = at_line n (with_said parts (told_of text))

-- What was made is kept now, or the fault is told, unless it says that memory ran out.
abbrev pub Keeps : {X : Type 0} → Result X PartsFault → Gathering → Result (List Part) PartsFault → Type 0
Keeps (Ok x) g made = (made ≡ Ok g.parts) × IsGathering g
Keeps (Err fault) g made = Unless (parts_memory fault) (made ≡ Err fault)
