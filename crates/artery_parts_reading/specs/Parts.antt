-- What a whole text tells as the parts of an audit.
use Rattle.std.specs.Prelude.{ℕ, ◌+◌, Bool, true, false, nat_lt, if◌then◌else◌, List, [], ◌∷◌, ◌++◌, length, Option, None, Some, Result, Ok, Err}
use Rattle.artery_base.specs.Words.{◌>>=◌}
use Rattle.artery_lines.specs.Lines.{lines_of, most_lines}
use Rattle.artery_journal.specs.declared.line.Line.{Line}
use Rattle.artery_audit.specs.declared.part.Part.{Part}
use Rattle.artery_parts_reading.specs.declared.told.Told.{Told}
use Rattle.artery_parts_reading.specs.declared.told.Told.TheVariants as says
use Rattle.artery_parts_reading.specs.declared.fault.PartsFault.{PartsFault}
use Rattle.artery_parts_reading.specs.declared.fault.PartsFault.TheVariants as parts_faults
use Rattle.artery_parts_reading.specs.Limits.{most_parts}
use Rattle.artery_parts_reading.specs.Lines.{told_of, good_behind}

-- what the line with this number gives, or that it is bad
abbrev pub at_line : {X : Type 0} → ℕ → Option X → Result X PartsFault
at_line n None = Err (parts_faults.BadLine n)
at_line n (Some x) = Ok x

-- what lines tell behind others, numbered from n on, or the number of the first bad one
abbrev pub told_from : List Told → ℕ → List (List ℕ) → Result (List Told) PartsFault
told_from before n [] = Ok before
told_from before n (line ∷ lines) = at_line n (good_behind before (told_of line)) >>= λ t. told_from (before ++ t ∷ []) (n + 1) lines

-- the lines of journals before the next part begins
abbrev pub lines_in : List Told → List Line
lines_in [] = []
lines_in (says.Of u ∷ ts) = []
lines_in (says.Line line ∷ ts) = line ∷ lines_in ts

-- the parts that lines tell: each incarnation whose part begins, with the lines behind
abbrev pub parts_in : List Told → List Part
parts_in [] = []
parts_in (says.Of u ∷ ts) = record { of = u; lines = lines_in ts } ∷ parts_in ts
parts_in (says.Line line ∷ ts) = parts_in ts

-- the parts of lines, however many, or the first bad line
abbrev pub parts_told : List (List ℕ) → Result (List Part) PartsFault
parts_told lines = told_from [] 1 lines >>= λ ts. Ok (parts_in ts)

-- at most 64 parts
abbrev pub limited : List Part → Result (List Part) PartsFault
limited parts = if nat_lt most_parts (length parts) then Err parts_faults.TooManyParts else Ok parts

-- the parts that a text tells; else that its lines are too many, the first bad line, or that the parts are too many, in this order
unfoldable pub parts_of : List ℕ → Result (List Part) PartsFault
parts_of text = if nat_lt most_lines (length (lines_of text)) then Err parts_faults.TooManyLines else parts_told (lines_of text) >>= limited

-- whether a fault says that memory ran out
abbrev pub parts_memory : PartsFault → Bool
parts_memory (parts_faults.BadLine line) = false
parts_memory parts_faults.TooManyLines = false
parts_memory parts_faults.TooManyParts = false
parts_memory parts_faults.NoMemory = true
