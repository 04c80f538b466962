-- What an audit answers.
use Rattle.std.specs.Prelude.{◌≡◌, ℕ, ◌+◌, Bool, true, false, List, [], ◌∷◌, length, slice_get, Option, None, Some, is_some, if◌then◌else◌}
use Rattle.artery_base.specs.declared.address.UniqueAddress.{UniqueAddress}
use Rattle.artery_journal.specs.declared.line.Line.{Line}
use Rattle.artery_judge.specs.declared.verdict.Law.{Law}
use Rattle.artery_audit.specs.declared.part.Part.{Part}
use Rattle.artery_audit.specs.declared.audited.Audited.{Audited}
use Rattle.artery_audit.specs.declared.audited.Audited.TheVariants.{Lawful, Broken}
use Rattle.artery_audit.specs.Parts.{lines_by}
use Rattle.artery_audit.specs.Merges.{law_after, Each, IsLawful, IsMerge, Cut, Reaches, IsGreatest}

-- A line, unless it breaks a law after the lines before.
abbrev pub allowed : List Line → Option Line → Option Line
allowed before None = None
allowed before (Some line) = if is_some (law_after before line) then None else Some line

-- The next line of a part after the lines before, if it is there and breaks no law.
abbrev pub fitting : List Line → Part → Option Line
fitting before p = allowed before (slice_get p.lines (length (lines_by p.of before)))

-- The first of two that is there.
abbrev pub or_else : {X : Type 0} → Option X → Option X → Option X
or_else None other = other
or_else (Some x) other = Some x

-- The next line of the first part, in the order given, whose next line breaks no law after the lines before.
abbrev pub first_fitting : List Line → List Part → Option Line
first_fitting before [] = None
first_fitting before (p ∷ ps) = or_else (fitting before p) (first_fitting before ps)

-- Lines are taken in turn where each is that of the first part whose next line breaks no law after the lines before.
abbrev pub IsInTurn : List Part → List Line → Type 0
IsInTurn parts lines = Each (λ before line. first_fitting before parts ≡ Some line) lines

-- The lawful merge that is answered.
pub record IsMergeInTurn (parts : List Part) (lines : List Line) : Type 0 where
  pub merge : IsMerge parts lines
  pub lawful : IsLawful lines
  pub in_turn : IsInTurn parts lines

-- A part that a cut does not use up: whose it is, the number of its next line counted from 1, and that line.
pub record Left : Type 0 where
  pub of : UniqueAddress
  pub number : ℕ
  pub line : Line

-- What a cut leaves of a part that has this next line, or what it leaves of the others.
abbrev pub left_at : Part → ℕ → Option Line → Option Left → Option Left
left_at p n None others = others
left_at p n (Some line) others = Some (record { of = p.of; number = n + 1; line = line })

-- The first part in the order given that a cut does not use up.
abbrev pub first_left : Cut → List Part → Option Left
first_left cut [] = None
first_left cut (p ∷ ps) = left_at p (cut p.of) (slice_get p.lines (cut p.of)) (first_left cut ps)

-- The first part that the greatest reached cut does not use up is of this incarnation, its next line has this number, and this is the
-- first law that it breaks after that cut.
pub record IsStuck (parts : List Part) (of : UniqueAddress) (number : ℕ) (law : Law) : Type 0 where
  pub cut : Cut
  pub line : Line
  pub greatest : IsGreatest parts cut
  pub first : first_left cut parts ≡ Some (record { of = of; number = number; line = line })
  pub breaks : (lines : List Line) → Reaches parts cut lines → law_after lines line ≡ Some law

-- The answer of an audit of the parts.
abbrev pub IsAnswer : List Part → Audited → Type 0
IsAnswer parts (Lawful merge) = IsMergeInTurn parts merge
IsAnswer parts (Broken of line law) = IsStuck parts of.now line law

-- Whether an answer is Lawful.
abbrev pub is_lawful : Audited → Bool
is_lawful (Lawful merge) = true
is_lawful (Broken of line law) = false
