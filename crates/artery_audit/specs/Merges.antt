-- Merges of parts, and how far a lawful merge reaches.
use Rattle.std.specs.Prelude.{◌≡◌, ℕ, ◌≤◌, max, List, ◌∷◌, ◌++◌, length, take, Option, None}
use Rattle.artery_base.specs.Words.{IsPrefix}
use Rattle.artery_base.specs.declared.address.UniqueAddress.{UniqueAddress}
use Rattle.artery_journal.specs.declared.line.Line.{Line}
use Rattle.artery_judge.specs.declared.verdict.Law.{Law}
use Rattle.artery_judge.specs.Laws.{broken_law, plain}
use Rattle.artery_audit.specs.declared.part.Part.{Part}
use Rattle.artery_audit.specs.Parts.{lines_by, part_of}

-- The first law that a line breaks after the lines before it, if it breaks one.
abbrev pub law_after : List Line → Line → Option Law
law_after before line = broken_law (plain before) (None, line)

-- Something holds of each line and the lines before it.
abbrev pub Each : (List Line → Line → Type 0) → List Line → Type 0
Each P lines = (before after : List Line) (line : Line) → lines ≡ before ++ line ∷ after → P before line

-- A list of lines is lawful where none of them breaks a law.
abbrev pub IsLawful : List Line → Type 0
IsLawful lines = Each (λ before line. law_after before line ≡ None) lines

-- A merge of the parts: a list of all their lines and no others, in which each part's lines stand in its order.
abbrev pub IsMerge : List Part → List Line → Type 0
IsMerge parts lines = (u : UniqueAddress) → lines_by u lines ≡ part_of u parts

-- The lines of each incarnation are the first of its part.
abbrev pub IsFront : List Part → List Line → Type 0
IsFront parts lines = (u : UniqueAddress) → IsPrefix (lines_by u lines) (part_of u parts)

-- A cut: how many of its first lines of the part of each incarnation.
abbrev pub Cut : Type 0
Cut = UniqueAddress → ℕ

-- Lines reach a cut where they are a lawful merge of these first lines.
pub record Reaches (parts : List Part) (cut : Cut) (lines : List Line) : Type 0 where
  pub within : (u : UniqueAddress) → cut u ≤ length (part_of u parts)
  pub merge : (u : UniqueAddress) → lines_by u lines ≡ take (cut u) (part_of u parts)
  pub lawful : IsLawful lines

-- A cut is reached where some lines reach it.
abbrev pub IsReached : List Part → Cut → Type 0
IsReached parts cut = (lines : List Line) × Reaches parts cut lines

-- The greatest reached cut: it is reached, and no other that is reached has more lines of any part.
pub record IsGreatest (parts : List Part) (cut : Cut) : Type 0 where
  pub reached : IsReached parts cut
  pub greatest : (other : Cut) → IsReached parts other → (u : UniqueAddress) → other u ≤ cut u

-- Of two cuts the greater number for each part.
abbrev pub greater : Cut → Cut → Cut
greater one other u = max (one u) (other u)
