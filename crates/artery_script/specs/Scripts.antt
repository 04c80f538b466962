-- What a whole text tells: a script its events, a node's input its requests.
use Rattle.std.specs.Prelude.{ℕ, ◌+◌, Bool, true, false, ◌==◌, nat_lt, if◌then◌else◌, List, [], ◌∷◌, length, slice_index, Option, None, Some, Result, Ok, Err}
use Rattle.artery_lines.specs.Lines.{◌>>=◌, lines_of}
use Rattle.artery_script.specs.declared.script.ScriptLine.{ScriptLine}
use Rattle.artery_script.specs.declared.script.ScriptFault.{ScriptFault}
use Rattle.artery_script.specs.declared.script.ScriptFault.TheVariants as script_faults
use Rattle.artery_script.specs.declared.requests.RequestLine.{RequestLine}
use Rattle.artery_script.specs.Reading.{event_of, asked_of}

-- empty lines and remarks are passed over
abbrev pub is_passed_over : List ℕ → Bool
is_passed_over line = if length line == 0 then true else slice_index line 0 == 35

-- what is told before what the other lines tell, unless there is a bad line among them
abbrev pub before_others : {X : Type 0} → X → Result (List X) ScriptFault → Result (List X) ScriptFault
before_others x (Ok others) = Ok (x ∷ others)
before_others x (Err fault) = Err fault

-- what is told from this line on: what it tells before what the lines behind it do; a line that tells nothing is the first bad one
abbrev pub at_line : {X : Type 0} → ℕ → Option X → Result (List X) ScriptFault → Result (List X) ScriptFault
at_line n None others = Err (script_faults.BadLine n)
at_line n (Some x) others = before_others x others

-- what the line with this number tells
abbrev pub told_at : {X : Type 0} → ℕ → Option X → Result X ScriptFault
told_at n None = Err (script_faults.BadLine n)
told_at n (Some x) = Ok x

-- what lines tell that are numbered from n on, or the number of the first that is bad; lines passed over are numbered too
abbrev pub items_from : {X : Type 0} → (ℕ → List ℕ → Option X) → ℕ → List (List ℕ) → Result (List X) ScriptFault
items_from told n [] = Ok []
items_from told n (line ∷ lines) = if is_passed_over line then items_from told (n + 1) lines else at_line n (told n line) (items_from told (n + 1) lines)

-- the event of a line, with the line's number
abbrev pub script_line : ℕ → List ℕ → Option ScriptLine
script_line n text = event_of text >>= λ e. Some (record { line = n; event = e })

-- the request of a line, with the line's number
abbrev pub request_line : ℕ → List ℕ → Option RequestLine
request_line n text = asked_of text >>= λ a. Some (record { line = n; same = a.0; request = a.1 })

-- a text has at most 1,000,000 lines
abbrev pub most_lines : ℕ
most_lines = 1000000

-- what the lines of a text tell, numbered from 1, where they are not too many
abbrev pub all_of : {X : Type 0} → (ℕ → List ℕ → Option X) → List ℕ → Result (List X) ScriptFault
all_of told text = if nat_lt most_lines (length (lines_of text)) then Err script_faults.TooManyLines else items_from told 1 (lines_of text)

-- a script: its events with the numbers of their lines
abbrev pub script_of : List ℕ → Result (List ScriptLine) ScriptFault
script_of text = all_of script_line text

-- the input of a node: its requests with the numbers of their lines
abbrev pub requests_of : List ℕ → Result (List RequestLine) ScriptFault
requests_of text = all_of request_line text

-- whether a fault says that memory ran out
abbrev pub script_memory : ScriptFault → Bool
script_memory (script_faults.BadLine line) = false
script_memory script_faults.TooManyLines = false
script_memory script_faults.NoMemory = true
