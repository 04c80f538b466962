-- The parts of an audit.
use Rattle.std.specs.Prelude.{◌≡◌, ℕ, ◌-◌, Bool, true, false, not, ◌&&◌, List, [], ◌∷◌, ◌++◌, length, slice_get, slice_set, filter, Option, None, Some, if◌then◌else◌}
use Rattle.std.specs.List.{list_any, list_all}
use Rattle.artery_base.specs.declared.address.UniqueAddress.{UniqueAddress}
use Rattle.artery_journal.specs.declared.line.Line.{Line}
use Rattle.artery_judge.specs.Lines.{same, of}
use Rattle.artery_audit.specs.declared.part.Part.{Part}

-- No two parts are of the same incarnation, and each line of a part is of the part's incarnation.
pub record AreApart (parts : List Part) : Type 0 where
  pub apart : (i j : ℕ) (p q : Part) → slice_get parts i ≡ Some p → slice_get parts j ≡ Some q → same p.of q.of ≡ true → i ≡ j
  pub own : (i k : ℕ) (p : Part) (line : Line) → slice_get parts i ≡ Some p → slice_get p.lines k ≡ Some line → same p.of (of line) ≡ true

-- The same, as a word that proofs open only where they say so.
unfoldable pub AreParts : List Part → Type 0
AreParts parts = AreApart parts

-- The lines of an incarnation, in their order.
abbrev pub lines_by : UniqueAddress → List Line → List Line
lines_by u lines = filter (λ line. same u (of line)) lines

-- The lines of the part of an incarnation; none where it has no part.
abbrev pub part_of : UniqueAddress → List Part → List Line
part_of u [] = []
part_of u (p ∷ ps) = if same u p.of then p.lines else part_of u ps

-- Whether a part is there and is of this incarnation.
abbrev pub last_is : UniqueAddress → Option Part → Bool
last_is u None = false
last_is u (Some p) = same p.of u

-- The last part.
abbrev pub last_part : List Part → Option Part
last_part parts = slice_get parts (length parts - 1)

-- Whether a line is of the last part's incarnation.
abbrev pub takes : Line → List Part → Bool
takes line parts = last_is (of line) (last_part parts)

-- Whether one of the parts is of this incarnation.
abbrev pub has_part : UniqueAddress → List Part → Bool
has_part u parts = list_any (λ p. same p.of u) parts

-- A part with a line more at its end.
abbrev pub lined : Line → Part → Part
lined line p = record { of = p.of; lines = p.lines ++ line ∷ [] }

-- Parts in which the one at a place is replaced, if it is there.
abbrev pub lined_at : ℕ → Line → List Part → Option Part → List Part
lined_at k line parts None = parts
lined_at k line parts (Some p) = slice_set parts k (lined line p)

-- Parts with a line more at the end of the last one.
abbrev pub with_line : Line → List Part → List Part
with_line line parts = lined_at (length parts - 1) line parts (last_part parts)

-- The part of an incarnation, with no line yet.
abbrev pub begun : UniqueAddress → Part
begun u = record { of = u; lines = [] }

-- Whether each line of a part is of the part's incarnation.
abbrev pub is_own : Part → Bool
is_own p = list_all (λ line. same p.of (of line)) p.lines

-- Whether no two parts are of the same incarnation, and each line of a part is of the part's incarnation.
abbrev pub are_parts : List Part → Bool
are_parts [] = true
are_parts (p ∷ ps) = not (has_part p.of ps) && (is_own p && are_parts ps)
