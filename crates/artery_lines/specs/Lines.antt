-- The lines of a text, the tokens of a line, and what is read from them.
use Rattle.std.specs.Prelude.{◌≡◌, ℕ, Bool, ◌==◌, if◌then◌else◌, List, [], ◌∷◌, length, Option, None, Some, Result, Ok, Err}
use Rattle.std.specs.List.{slice_split}
use Rattle.artery_lines.specs.declared.fault.LineFault.{LineFault}
use Rattle.artery_lines.specs.declared.fault.LineFault.TheVariants as line_faults

-- ---- tokens

-- a token ends at each space
abbrev pub is_space : ℕ → Bool
is_space b = b == 32

-- the tokens of a line: what stands before, between and behind its spaces
abbrev pub tokens_of : List ℕ → List (List ℕ)
tokens_of text = slice_split is_space text

-- ---- lines

-- a line ends at each line feed
abbrev pub is_feed : ℕ → Bool
is_feed b = b == 10

-- the parts of a text, where an empty last part counts for none
abbrev pub without_empty_end : List (List ℕ) → List (List ℕ)
without_empty_end [] = []
without_empty_end (line ∷ []) = if length line == 0 then [] else line ∷ []
without_empty_end (line ∷ next ∷ rest) = line ∷ without_empty_end (next ∷ rest)

-- the lines of a text; the last may lack its line feed
abbrev pub lines_of : List ℕ → List (List ℕ)
lines_of text = without_empty_end (slice_split is_feed text)

-- at most 1,000,000 lines are read
abbrev pub most_lines : ℕ
most_lines = 1000000

-- ---- what a line tells

-- what was read, where no token is left; with a token too many the line tells nothing
abbrev pub at_end : {X : Type 0} → List (List ℕ) → Option X → Option X
at_end left o = if length left == 0 then o else None

infixl 10 ◌>>=◌
-- reading goes on with what was read; where nothing was read, nothing is told
abbrev pub ◌>>=◌ : {A B : Type 0} → Option A → (A → Option B) → Option B
None >>= f = None
(Some x) >>= f = f x

-- reading gives what is told, unless memory ran out
abbrev pub Tells : {X : Type 0} → Result X LineFault → Option X → Type 0
Tells (Ok x) told = told ≡ Some x
Tells (Err line_faults.BadLine) told = told ≡ None
Tells (Err line_faults.NoMemory) told = Unit {0}

-- a fault of a part as one of the line: a bad line, or want of memory where that was the part's fault
abbrev pub line_fault : Bool → LineFault
line_fault is_memory = if is_memory then line_faults.NoMemory else line_faults.BadLine
