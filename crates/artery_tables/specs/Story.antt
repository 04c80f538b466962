-- The table story of one receiver for one origin: all tables that it ever announced, and which of them a version names.
use Rattle.std.specs.Prelude.{◌≡◌, ℕ, zero, suc, ◌+◌, ◌-◌, ◌≤◌, ◌%◌, ◌==◌, List, [], ◌∷◌, length, slice_get, Option, None, Some, Result, Ok, Err}
use Rattle.std.specs.List.{find}
use Rattle.std.specs.Option.{option_map}
use Rattle.artery_tables.specs.declared.table.Table.{Table}
use Rattle.artery_tables.specs.declared.table.TableFault.{TableFault}
use Rattle.artery_tables.specs.declared.table.TableFault.TheVariants.{UnknownVersion, UnknownIndex}

-- A number from 1 on has the version ((number - 1) mod 127) + 1, and number 0 has version 0.
abbrev pub version_of : ℕ → ℕ
version_of zero = 0
version_of (suc n) = n % 127 + 1

-- A table with its number and its version.
abbrev pub table_of : ℕ → List (List ℕ) → Table
table_of number names = record { number = number; version = version_of number; names = names }

-- A story: the names of all tables announced, the first announced first, never shortened; and how many of them were confirmed.
pub record Story : Type 0 where
  pub tables : List (List (List ℕ))
  pub confirmed : ℕ

-- The story before the first table.
abbrev pub nothing_announced : Story
nothing_announced = record { tables = []; confirmed = 0 }

-- All tables but the last are confirmed, and that one may be.
pub record IsStory (story : Story) : Type 0 where
  pub announced : story.confirmed ≤ length story.tables
  pub one_open : length story.tables ≤ story.confirmed + 1

-- The table with a number: from 1 on the one announced at that place. Number 0 names none that was announced.
abbrev pub numbered : Story → ℕ → Option Table
numbered story zero = None
numbered story (suc n) = option_map (table_of (suc n)) (slice_get story.tables n)

-- Known are number 0 and the numbers from the greater of 1 and three below the confirmed one up to the last announced.
pub data IsKnown (story : Story) : ℕ → Type 0 where
  Nothing : IsKnown story 0
  Announced : (number : ℕ) → 1 ≤ number → story.confirmed - 3 ≤ number → number ≤ length story.tables → IsKnown story number

-- So many numbers down from a number, without 0.
abbrev pub numbers_down : ℕ → ℕ → List ℕ
numbers_down zero n = []
numbers_down (suc k) zero = []
numbers_down (suc k) (suc n) = suc n ∷ numbers_down k n

-- The known numbers, in a list.
abbrev pub known_numbers : Story → List ℕ
known_numbers story = 0 ∷ numbers_down (length story.tables + 4 - story.confirmed) (length story.tables)

-- The known number that has a version, if one has it.
abbrev pub number_of : Story → ℕ → Option ℕ
number_of story version = find (λ number. version_of number == version) (known_numbers story)

-- The names of a table, which are none where there is no table.
abbrev pub names_in : Option Table → List (List ℕ)
names_in None = []
names_in (Some table) = table.names

-- The names that a version stands for: those of the known table that has it, and none for version 0.
abbrev pub names_of : Story → ℕ → Option (List (List ℕ))
names_of story version = option_map (λ number. names_in (numbered story number)) (number_of story version)

-- The name at an index, if there is one, under a version.
abbrev pub name_or_fault : ℕ → ℕ → Option (List ℕ) → Result (List ℕ) TableFault
name_or_fault version index None = Err (UnknownIndex version index)
name_or_fault version index (Some name) = Ok name

-- An index, from 0, in the names that a version stands for: the version is unknown where it stands for none, and else the index
-- is where it is not below their number.
abbrev pub entry_in : ℕ → ℕ → Option (List (List ℕ)) → Result (List ℕ) TableFault
entry_in version index None = Err (UnknownVersion version)
entry_in version index (Some names) = name_or_fault version index (slice_get names index)

-- What an index under a version means in a story.
abbrev pub entry_of : Story → ℕ → ℕ → Result (List ℕ) TableFault
entry_of story version index = entry_in version index (names_of story version)
