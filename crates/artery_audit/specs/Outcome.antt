-- What an audit finds, as a function of the parts.
use Rattle.std.specs.Prelude.{ℕ, zero, suc, ◌+◌, List, [], ◌∷◌, ◌++◌, length, Option, None, Some, option_map, unwrap_or, Result, Ok, Err}
use Rattle.artery_base.specs.declared.address.UniqueAddress.{UniqueAddress}
use Rattle.artery_journal.specs.declared.line.Line.{Line}
use Rattle.artery_judge.specs.declared.verdict.Law.{Law}
use Rattle.artery_audit.specs.declared.part.Part.{Part}
use Rattle.artery_audit.specs.declared.audited.Audited.{Audited}
use Rattle.artery_audit.specs.declared.audited.Audited.TheVariants.{Lawful, Broken}
use Rattle.artery_audit.specs.Merges.{law_after}
use Rattle.artery_audit.specs.Answers.{first_fitting, Left, first_left}
use Rattle.artery_audit.specs.Merging.{cut_of}

-- How many lines the parts have.
abbrev pub all_lines : List Part → ℕ
all_lines [] = 0
all_lines (p ∷ ps) = length p.lines + all_lines ps

-- Lines, and behind them at most n more, each that of the first part whose next line breaks no law after the lines before.
abbrev pub going_on : ℕ → List Part → List Line → List Line
going_on zero parts before = before
going_on (suc n) parts before = unwrap_or (option_map (λ line. going_on n parts (before ++ line ∷ [])) (first_fitting before parts)) before

-- All lines that are merged in turn.
abbrev pub merged : List Part → List Line
merged parts = going_on (all_lines parts) parts []

-- A part that is stuck: whose it is, the number of its next line, counted from 1, and the first law that this line breaks.
pub record StuckAt : Type 0 where
  pub of : UniqueAddress
  pub number : ℕ
  pub law : Option Law

-- Lines that use up each part, or the first part that they leave.
abbrev pub found : List Line → Option Left → Result (List Line) StuckAt
found lines None = Ok lines
found lines (Some left) = Err (record { of = left.of; number = left.number; law = law_after lines left.line })

-- What an audit of the parts finds: the merge in turn, or the first part that it does not use up.
abbrev pub outcome : List Part → Result (List Line) StuckAt
outcome parts = found (merged parts) (first_left (cut_of (merged parts)) parts)

-- The same as an answer tells it.
abbrev pub told : Audited → Result (List Line) StuckAt
told (Lawful merge) = Ok merge
told (Broken of line law) = Err (record { of = of.now; number = line; law = Some law })
