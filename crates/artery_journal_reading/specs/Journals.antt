-- What a whole text tells as a journal.
use Rattle.std.specs.Prelude.{◌≡◌, ℕ, ◌+◌, Bool, true, false, nat_lt, if◌then◌else◌, List, [], ◌∷◌, length, map, codes, bytes_eq, Option, None, Some, Result, Ok, Err}
use Rattle.artery_lines.specs.Lines.{lines_of, most_lines}
use Rattle.artery_journal.specs.declared.line.Line.{Line}
use Rattle.artery_journal.specs.declared.stamped.Stamped.{Stamped}
use Rattle.artery_journal.specs.declared.journal.Journal.{Journal}
use Rattle.artery_journal.specs.declared.journal.Journal.TheVariants as journals
use Rattle.artery_journal_reading.specs.declared.fault.JournalFault.{JournalFault}
use Rattle.artery_journal_reading.specs.declared.fault.JournalFault.TheVariants as journal_faults
use Rattle.artery_journal_reading.specs.Reading.{line_of, stamped_of}

-- what a line tells before what the lines behind it do, unless there is a bad line among them
abbrev pub before_others : {X : Type 0} → X → Result (List X) JournalFault → Result (List X) JournalFault
before_others x (Ok others) = Ok (x ∷ others)
before_others x (Err fault) = Err fault

-- the same of a line with this number; where it tells nothing, it is the first bad one
abbrev pub at_line : {X : Type 0} → ℕ → Option X → Result (List X) JournalFault → Result (List X) JournalFault
at_line n None others = Err (journal_faults.BadLine n)
at_line n (Some x) others = before_others x others

-- what the line with this number tells
abbrev pub told_at : {X : Type 0} → ℕ → Option X → Result X JournalFault
told_at n None = Err (journal_faults.BadLine n)
told_at n (Some x) = Ok x

-- what lines tell that are numbered from n on, or the number of the first that tells nothing
abbrev pub items_from : {X : Type 0} → (List ℕ → Option X) → ℕ → List (List ℕ) → Result (List X) JournalFault
items_from told n [] = Ok []
items_from told n (line ∷ lines) = at_line n (told line) (items_from told (n + 1) lines)

-- a journal of form 1
abbrev pub as_plain : Result (List Line) JournalFault → Result Journal JournalFault
as_plain (Ok lines) = Ok (journals.Plain lines)
as_plain (Err fault) = Err fault

-- a journal of form 2
abbrev pub as_stamped : Result (List Stamped) JournalFault → Result Journal JournalFault
as_stamped (Ok lines) = Ok (journals.Stamped lines)
as_stamped (Err fault) = Err fault

-- what lines tell as journal: where the first is `journal 2`, in form 2 what the others tell, else in form 1 what all do
abbrev pub journal_in : List (List ℕ) → Result Journal JournalFault
journal_in [] = Ok (journals.Plain [])
journal_in (line ∷ lines) = if bytes_eq line (codes "journal 2") then as_stamped (items_from stamped_of 2 lines) else as_plain (items_from line_of 1 (line ∷ lines))

-- the journal that a text tells, where its lines are not too many, or its first fault
unfoldable pub journal_of : List ℕ → Result Journal JournalFault
journal_of text = if nat_lt most_lines (length (lines_of text)) then Err journal_faults.TooManyLines else journal_in (lines_of text)

-- whether a fault says that memory ran out
abbrev pub journal_memory : JournalFault → Bool
journal_memory (journal_faults.BadLine line) = false
journal_memory journal_faults.TooManyLines = false
journal_memory journal_faults.NoMemory = true
