-- Parts under way into a merge.
use Rattle.std.specs.Prelude.{◌≡◌, ℕ, ◌+◌, ◌-◌, ◌<◌, drop, Bool, true, false, List, [], ◌∷◌, ◌++◌, length, slice_get, slice_set, Option, None, Some}
use Rattle.std.specs.List.{position}
use Rattle.artery_base.specs.declared.address.UniqueAddress.{UniqueAddress}
use Rattle.artery_journal.specs.declared.line.Line.{Line}
use Rattle.artery_journal.specs.declared.line.Line.TheVariants.{Sent, Told}
use Rattle.artery_judge.specs.declared.verdict.Law.{Law}
use Rattle.artery_judge.specs.Lines.{Entry, same}
use Rattle.artery_judge.specs.Laws.{broken_law, plain}
use Rattle.artery_judge.specs.Kept.{Stands}
use Rattle.artery_judge.specs.Views.{Tables, kept}
use Rattle.artery_audit.specs.declared.part.Part.{Part}
use Rattle.artery_audit.specs.Parts.{AreParts, lines_by}
use Rattle.artery_audit.specs.Merges.{law_after, IsFront, Cut}
use Rattle.artery_audit.specs.Answers.{fitting, first_fitting, IsInTurn}

-- The incarnation that a line sends or tells something.
abbrev pub receiver_of : Line → Option UniqueAddress
receiver_of (Sent a b n message) = Some b
receiver_of (Told a b dial message) = Some b
receiver_of line = None

-- What is under way: the parts, the lines merged so far, what the judge keeps of them, how many lines of each part were merged, and
-- whether each part is to be looked at.
pub record Under : Type 0 where
  pub parts : List Part
  pub merge : List Line
  pub judge : Tables
  pub taken : List ℕ
  pub ready : List Bool

-- A line behind n others with its number, counted from 1.
abbrev pub numbered : ℕ → Option Line → Option (Line × ℕ)
numbered n None = None
numbered n (Some line) = Some (line, n + 1)

-- The next line of a part of which so many lines were merged.
abbrev pub next_of : Option Part → Option ℕ → Option (Line × ℕ)
next_of None taken = None
next_of (Some p) None = None
next_of (Some p) (Some n) = numbered n (slice_get p.lines n)

-- The next line of the part at a place.
abbrev pub next_at : ℕ → Under → Option (Line × ℕ)
next_at k m = next_of (slice_get m.parts k) (slice_get m.taken k)

-- Whether a part is to be looked at.
abbrev pub is_ready : Option Bool → Bool
is_ready None = false
is_ready (Some ready) = ready

-- A part that need not be looked at.
abbrev pub rested : ℕ → Under → Under
rested k m = record m { ready = slice_set m.ready k false }

-- A part that is to be looked at.
abbrev pub looked : ℕ → Under → Under
looked k m = record m { ready = slice_set m.ready k true }

-- The same of the part at a place, if there is one.
abbrev pub looked_at : Option ℕ → Under → Under
looked_at None m = m
looked_at (Some k) m = looked k m

-- The place of the part of an incarnation.
abbrev pub place_of : UniqueAddress → List Part → Option ℕ
place_of u parts = position (λ p. same p.of u) parts

-- The part of an incarnation is to be looked at, if there is one.
abbrev pub woken : Option UniqueAddress → Under → Under
woken None m = m
woken (Some u) m = looked_at (place_of u m.parts) m

-- So many lines of the part at a place are merged.
abbrev pub counted : ℕ → ℕ → Under → Under
counted k n m = record m { taken = slice_set m.taken k n }

-- What was merged are the first lines of each part, taken in turn; the judge stands for them, and of a part that need not be looked at
-- the next line is not there or breaks a law.
pub record IsUnder (m : Under) : Type 0 where
  pub parts : AreParts m.parts
  pub front : IsFront m.parts m.merge
  pub in_turn : IsInTurn m.parts m.merge
  pub judged : Stands (kept m.judge) (plain m.merge)
  pub taken : (k : ℕ) (p : Part) → slice_get m.parts k ≡ Some p → slice_get m.taken k ≡ Some (length (lines_by p.of m.merge))
  pub long : length m.ready ≡ length m.parts
  pub waiting : (k : ℕ) (p : Part) → slice_get m.parts k ≡ Some p → is_ready (slice_get m.ready k) ≡ false → fitting m.merge p ≡ None

-- The next line of the part at a place was merged, and has this number.
pub record Took (k : ℕ) (line : Line) (number : ℕ) (old new : Under) : Type 0 where
  pub parts : new.parts ≡ old.parts
  pub merge : new.merge ≡ old.merge ++ line ∷ []
  pub taken : new.taken ≡ slice_set old.taken k number
  pub ready : new.ready ≡ (woken (receiver_of line) old).ready
  pub judged : (before : List Entry) → Stands (kept old.judge) before → broken_law before (None, line) ≡ None → Stands (kept new.judge) (before ++ (None, line) ∷ [])

-- How many lines of the parts are not merged, where so many of each are.
abbrev pub unmerged : List Part → List ℕ → ℕ
unmerged [] taken = 0
unmerged (p ∷ ps) [] = 0
unmerged (p ∷ ps) (n ∷ ns) = length p.lines - n + unmerged ps ns

-- A turn of the part at a place: either its next line was merged, the first that breaks no law; or nothing was, and those of the parts
-- up to this one all break a law.
pub record Turned (k : ℕ) (merged : Bool) (old new : Under) : Type 0 where
  pub under : IsUnder new
  pub parts : new.parts ≡ old.parts
  pub fewer : merged ≡ true → unmerged new.parts new.taken < unmerged old.parts old.taken
  pub taken : merged ≡ false → new.taken ≡ old.taken
  pub passed : merged ≡ false → first_fitting new.merge new.parts ≡ first_fitting new.merge (drop (k + 1) new.parts)

-- How many lines of each incarnation there are.
abbrev pub cut_of : List Line → Cut
cut_of lines u = length (lines_by u lines)

-- The part at a place, its next line, and that it breaks this law.
pub record IsFound (k : ℕ) (m : Under) (named : UniqueAddress) (counted : ℕ) (law : Law) : Type 0 where
  pub part : Part
  pub line : Line
  pub at : slice_get m.parts k ≡ Some part
  pub next : slice_get part.lines (cut_of m.merge part.of) ≡ Some line
  pub of : named ≡ part.of
  pub number : counted ≡ cut_of m.merge part.of + 1
  pub breaks : law_after m.merge line ≡ Some law

-- What is found at a place: the part's next line, which breaks a law, or that it is used up.
abbrev pub Found : ℕ → Under → Option (UniqueAddress × ℕ × Law) → Type 0
Found k m None = (p : Part) → slice_get m.parts k ≡ Some p → slice_get p.lines (cut_of m.merge p.of) ≡ None
Found k m (Some (of, number, law)) = IsFound k m of number law
