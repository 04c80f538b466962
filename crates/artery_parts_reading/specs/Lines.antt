-- What a line tells, and whether it is good behind the lines before it.
use Rattle.std.specs.Prelude.{ℕ, Bool, false, not, List, [], ◌∷◌, codes, bytes_eq, Option, None, Some, option_map, unwrap_or, if◌then◌else◌}
use Rattle.std.specs.List.{list_any}
use Rattle.artery_base.specs.declared.address.UniqueAddress.{UniqueAddress}
use Rattle.artery_lines.specs.Lines.{tokens_of}
use Rattle.artery_journal_reading.specs.Reading.{unique_told, line_of}
use Rattle.artery_judge.specs.Lines.{same, of as of_line}
use Rattle.artery_parts_reading.specs.declared.told.Told.{Told}
use Rattle.artery_parts_reading.specs.declared.told.Told.TheVariants as says

-- behind the word `of`: the part of the one incarnation that is named begins
abbrev pub begun_in : List (List ℕ) → Option Told
begun_in [] = None
begun_in (name ∷ []) = option_map (λ u. says.Of u) (unique_told name)
begun_in (name ∷ next ∷ fields) = None

-- a line of a journal of form 1
abbrev pub line_in : List ℕ → Option Told
line_in text = option_map (λ l. says.Line l) (line_of text)

-- by its first word: a part begins, or it is a line of a journal
abbrev pub told_by : List ℕ → List (List ℕ) → Option Told
told_by text [] = None
told_by text (word ∷ fields) = if bytes_eq word (codes "of") then begun_in fields else line_in text

-- what a line tells, if it tells something
unfoldable pub told_of : List ℕ → Option Told
told_of text = told_by text (tokens_of text)

-- whether this begins the part of an incarnation
abbrev pub is_begin : UniqueAddress → Told → Bool
is_begin u (says.Of v) = same v u
is_begin u (says.Line line) = false

-- the incarnation whose part lines begin last, if they begin one
abbrev pub last_begun : List Told → Option UniqueAddress
last_begun [] = None
last_begun (says.Of u ∷ ts) = Some (unwrap_or (last_begun ts) u)
last_begun (says.Line line ∷ ts) = last_begun ts

-- whether an incarnation is there, and this one
abbrev pub is_the : UniqueAddress → Option UniqueAddress → Bool
is_the u None = false
is_the u (Some v) = same v u

-- whether a line is good behind what the lines before it tell: it begins the part of an incarnation that has none, or is a line of the
-- incarnation whose part was begun last
abbrev pub is_good : List Told → Told → Bool
is_good before (says.Of u) = not (list_any (is_begin u) before)
is_good before (says.Line line) = is_the (of_line line) (last_begun before)

-- what a line tells, if it is good
abbrev pub good_behind : List Told → Option Told → Option Told
good_behind before None = None
good_behind before (Some t) = if is_good before t then Some t else None
