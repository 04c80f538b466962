-- The tables that a receiver announces to one origin: what is kept of them, and the whole story that it stands for.
use Rattle.std.specs.Prelude.{◌≡◌, ℕ, ◌+◌, ◌-◌, ◌≤◌, Bool, false, not, ◌&&◌, ◌||◌, ◌==◌, nat_lt, nat_le, min, List, [], ◌∷◌, ◌++◌, length, Option, None, Some, is_some, Result, if◌then◌else◌}
use Rattle.std.specs.List.{list_any}
use Rattle.std.specs.Option.{option_map, option_or}
use Rattle.std.specs.Map.{lookup, set_value}
use Rattle.artery_tables.specs.declared.table.Table.{Table}
use Rattle.artery_tables.specs.declared.table.TableFault.{TableFault}
use Rattle.artery_tables.specs.declared.in_tables.Counted.{Counted}
use Rattle.artery_tables.specs.declared.in_tables.Counted.TheVariants.{Counted as IsCounted, Full, Long}
use Rattle.artery_tables.specs.declared.in_tables.Advertised.{Advertised}
use Rattle.artery_tables.specs.declared.in_tables.Advertised.TheVariants.{New, Again, Same, Spent, Unsettled}
use Rattle.artery_tables.specs.declared.in_tables.Confirmed.{Confirmed}
use Rattle.artery_tables.specs.declared.in_tables.Confirmed.TheVariants.{Confirmed as IsConfirmed, NotAnnounced}
use Rattle.artery_tables.specs.Names.{same_name, same_names}
use Rattle.artery_tables.specs.Story.{Story, nothing_announced, IsStory, version_of, table_of, numbered, names_in, entry_in}
use Rattle.artery_tables.specs.TopTable.{frequencies, first_ranked, top_table}

-- What an InTables keeps: the names counted, each with its count, in the order in which they were counted first; the table that is
-- announced and not confirmed; the current one, which was confirmed last; and the three that were current before it.
pub record Kept : Type 0 where
  pub counts : List (List ℕ × ℕ)
  pub announced : Option Table
  pub current : Option Table
  pub first_older : Option Table
  pub second_older : Option Table
  pub third_older : Option Table

-- Nothing is counted, and no table was announced.
abbrev pub nothing_kept : Kept
nothing_kept = record { counts = []; announced = None; current = None; first_older = None; second_older = None; third_older = None }

-- The count of a name, if it is counted.
abbrev pub count_of : List ℕ → Kept → Option ℕ
count_of name k = lookup (same_name name) k.counts

-- Whether a name is counted: not one of more than 256 bytes, and not a new one beside 1,024 others.
abbrev pub counting : List ℕ → Kept → Counted
counting name k =
    if nat_lt 256 (length name) then Long
    else if is_some (count_of name k) then IsCounted
    else if nat_le 1024 (length k.counts) then Full else IsCounted

-- The entries after a name with this count was counted: one more, at most 4,294,967,295; a new name is the last, with 1.
abbrev pub bumped : List ℕ → Option ℕ → List (List ℕ × ℕ) → List (List ℕ × ℕ)
bumped name None counts = counts ++ (name, 1) ∷ []
bumped name (Some count) counts = set_value (same_name name) counts (min 4294967295 (count + 1))

-- The entries after an answer: those with the name counted, or as before.
abbrev pub counts_after : Counted → List ℕ → Kept → List (List ℕ × ℕ)
counts_after IsCounted name k = bumped name (count_of name k) k.counts
counts_after Full name k = k.counts
counts_after Long name k = k.counts

-- What is kept after a name came.
abbrev pub kept_counted : List ℕ → Kept → Kept
kept_counted name k = record k { counts = counts_after (counting name k) name k }

-- The number of a table, and 0 where there is none.
abbrev pub number_in : Option Table → ℕ
number_in None = 0
number_in (Some table) = table.number

-- Whether the top table is empty, or the current one with the same names in the same order.
abbrev pub is_nothing_new : List (List ℕ) → List (List ℕ) → Bool
is_nothing_new top current = (length top == 0) || same_names top current

-- What is answered where no table waits for its confirmation: by the current number, the current names and the next ones.
abbrev pub answer_by : ℕ → List (List ℕ) → List (List ℕ) → Bool → Advertised
answer_by number current top settled =
    if is_nothing_new top current then Same
    else if number == 18446744073709551615 then Spent
    else if nat_le 128 (number + 1) && not settled then Unsettled
    else New

-- A table is announced where none waits for its confirmation, the top table is not empty and another than the current one, there
-- is a next number, and that is below 128 or the origin is settled.
abbrev pub advertising : Bool → Kept → Advertised
advertising settled k =
    if is_some k.announced then Again
    else answer_by (number_in k.current) (names_in k.current) (first_ranked k.counts) settled

-- The table that is announced next.
abbrev pub next_table : Kept → Table
next_table k = table_of (number_in k.current + 1) (first_ranked k.counts)

-- What is kept after an answer: a new table is announced, or nothing changes.
abbrev pub kept_after : Advertised → Kept → Kept
kept_after New k = record k { announced = Some (next_table k) }
kept_after Again k = k
kept_after Same k = k
kept_after Spent k = k
kept_after Unsettled k = k

-- What is kept after tables were advertised.
abbrev pub kept_advertised : Bool → Kept → Kept
kept_advertised settled k = kept_after (advertising settled k) k

-- Whether a number is that of a table, if there is one.
abbrev pub is_number : ℕ → Option Table → Bool
is_number number None = false
is_number number (Some table) = table.number == number

-- Only the announced number is confirmed.
abbrev pub confirming : ℕ → Kept → Confirmed
confirming number k = if is_number number k.announced then IsConfirmed else NotAnnounced

-- A confirmed table becomes the current one, and the former current one the first of the three older.
abbrev pub kept_confirmed : ℕ → Kept → Kept
kept_confirmed number k =
    if is_number number k.announced
    then record k { announced = None; current = k.announced; first_older = k.current; second_older = k.first_older; third_older = k.second_older }
    else k

-- A table, if it has the version.
abbrev pub if_version : ℕ → Option Table → Option Table
if_version version None = None
if_version version (Some table) = if table.version == version then Some table else None

-- The kept table with a version.
abbrev pub table_kept : ℕ → Kept → Option Table
table_kept version k =
    option_or (if_version version k.announced)
    (option_or (if_version version k.current)
    (option_or (if_version version k.first_older)
    (option_or (if_version version k.second_older) (if_version version k.third_older))))

-- The number of the kept table with a version, and 0 for version 0.
abbrev pub number_kept : Kept → ℕ → Option ℕ
number_kept k version = if version == 0 then Some 0 else option_map (λ table. table.number) (table_kept version k)

-- The names of the kept table with a version, and none for version 0.
abbrev pub names_kept : Kept → ℕ → Option (List (List ℕ))
names_kept k version = if version == 0 then Some [] else option_map (λ table. table.names) (table_kept version k)

-- What an index under a version means, by what is kept.
abbrev pub entry_kept : Kept → ℕ → ℕ → Result (List ℕ) TableFault
entry_kept k version index = entry_in version index (names_kept k version)

-- The whole history: all names counted, in order, and the story of the tables.
pub record State : Type 0 where
  pub uses : List (List ℕ)
  pub story : Story

-- The history before the first name.
abbrev pub nothing_used : State
nothing_used = record { uses = []; story = nothing_announced }

-- A name of more than 256 bytes is Long; a new one beside 1,024 others is Full; else it is counted.
abbrev pub answer_to_use : List ℕ → State → Counted
answer_to_use name s =
    if nat_lt 256 (length name) then Long
    else if list_any (same_name name) s.uses then IsCounted
    else if nat_le 1024 (length (frequencies s.uses)) then Full else IsCounted

-- The names counted after an answer.
abbrev pub uses_after : Counted → List ℕ → List (List ℕ) → List (List ℕ)
uses_after IsCounted name uses = uses ++ name ∷ []
uses_after Full name uses = uses
uses_after Long name uses = uses

-- The history after a name came.
abbrev pub used : List ℕ → State → State
used name s = record s { uses = uses_after (answer_to_use name s) name s.uses }

-- Again where a table is not confirmed yet; else by the last confirmed table and the top table.
abbrev pub answer_to_advertise : Bool → State → Advertised
answer_to_advertise settled s =
    if nat_lt s.story.confirmed (length s.story.tables) then Again
    else answer_by s.story.confirmed (names_in (numbered s.story s.story.confirmed)) (top_table s.uses) settled

-- The story after an answer: a new table is the top table, announced as the last.
abbrev pub story_after : Advertised → State → Story
story_after New s = record s.story { tables = s.story.tables ++ top_table s.uses ∷ [] }
story_after Again s = s.story
story_after Same s = s.story
story_after Spent s = s.story
story_after Unsettled s = s.story

-- The history after tables were advertised.
abbrev pub advertised : Bool → State → State
advertised settled s = record s { story = story_after (answer_to_advertise settled s) s }

-- The table that is announced and not confirmed, if there is one.
abbrev pub announced_in : Story → Option Table
announced_in story = numbered story (story.confirmed + 1)

-- Confirmed is exactly the number of the table that is announced and not confirmed.
abbrev pub is_announced : ℕ → Story → Bool
is_announced number story = (number == story.confirmed + 1) && (length story.tables == story.confirmed + 1)

-- A number is confirmed where it is the announced one.
abbrev pub answer_to_confirm : ℕ → State → Confirmed
answer_to_confirm number s = if is_announced number s.story then IsConfirmed else NotAnnounced

-- One more table is confirmed where its number is.
abbrev pub confirmed : ℕ → State → State
confirmed number s = if is_announced number s.story then record s { story = record s.story { confirmed = s.story.confirmed + 1 } } else s

-- What is kept stands for a history: the counts are the frequencies of the names counted; the announced, the current and the older
-- tables are those of the story with the numbers from the next one down to three below the confirmed one.
pub record Stands (k : Kept) (s : State) : Type 0 where
  pub counts : k.counts ≡ frequencies s.uses
  pub announced : k.announced ≡ numbered s.story (s.story.confirmed + 1)
  pub current : k.current ≡ numbered s.story s.story.confirmed
  pub first_older : k.first_older ≡ numbered s.story (s.story.confirmed - 1)
  pub second_older : k.second_older ≡ numbered s.story (s.story.confirmed - 2)
  pub third_older : k.third_older ≡ numbered s.story (s.story.confirmed - 3)
  pub story : IsStory s.story
