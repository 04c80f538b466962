-- The table that was adopted last: what is kept of it, and the list of pairs that it stands for.
use Rattle.std.specs.Prelude.{◌≡◌, ℕ, ◌==◌, nat_lt, List, [], ◌∷◌, Option, None, Some, if◌then◌else◌}
use Rattle.std.specs.List.{zip}
use Rattle.std.specs.Option.{option_or}
use Rattle.std.specs.Map.{lookup}
use Rattle.indexmap.specs.IndexMap.{insert_all}
use Rattle.artery_tables.specs.declared.out_table.Adopted.{Adopted}
use Rattle.artery_tables.specs.declared.out_table.Adopted.TheVariants.{Adopted as IsAdopted, Same, Older}
use Rattle.artery_tables.specs.Names.{same_name}

-- An OutTable: the number of the table that is held, and the index of each of its names.
pub record Held : Type 0 where
  pub number : ℕ
  pub indices : List (List ℕ × ℕ)

-- The empty table, which has number 0.
abbrev pub nothing_held : Held
nothing_held = record { number = 0; indices = [] }

-- The held number is the same, a lower one is older, and a higher one is adopted.
abbrev pub adopting : ℕ → ℕ → Adopted
adopting number held = if number == held then Same else if nat_lt number held then Older else IsAdopted

-- The index of each key, which is the last value beside it.
abbrev pub indices_of : List (List ℕ) → List ℕ → List (List ℕ × ℕ)
indices_of keys values = insert_all same_name [] (zip keys values)

-- What is held after an answer: the new table, or the one before.
abbrev pub held_after : Adopted → ℕ → List (List ℕ) → List ℕ → Held → Held
held_after IsAdopted number keys values held = record { number = number; indices = indices_of keys values }
held_after Same number keys values held = held
held_after Older number keys values held = held

-- What is held after a table came.
abbrev pub held_adopted : ℕ → List (List ℕ) → List ℕ → Held → Held
held_adopted number keys values held = held_after (adopting number held.number) number keys values held

-- The index of a name, if the table has it.
abbrev pub index_in : Held → List ℕ → Option ℕ
index_in held name = lookup (same_name name) held.indices

-- The number of a table, and all pairs of a name and an index that it came with, in order.
pub record State : Type 0 where
  pub number : ℕ
  pub pairs : List (List ℕ × ℕ)

-- No table has come.
abbrev pub nothing_adopted : State
nothing_adopted = record { number = 0; pairs = [] }

-- The last value that a name is paired with.
abbrev pub last_value : List ℕ → List (List ℕ × ℕ) → Option ℕ
last_value name [] = None
last_value name (pair ∷ pairs) = option_or (last_value name pairs) (if same_name name pair.0 then Some pair.1 else None)

-- The table after an answer.
abbrev pub table_after : Adopted → ℕ → List (List ℕ) → List ℕ → State → State
table_after IsAdopted number keys values s = record { number = number; pairs = zip keys values }
table_after Same number keys values s = s
table_after Older number keys values s = s

-- The table after one came: only a number above the held one is adopted.
abbrev pub adopted : ℕ → List (List ℕ) → List ℕ → State → State
adopted number keys values s = table_after (adopting number s.number) number keys values s

-- What is held stands for a table: its number, and for each name the last value that it is paired with.
pub record Stands (held : Held) (s : State) : Type 0 where
  pub number : held.number ≡ s.number
  pub indices : (name : List ℕ) → index_in held name ≡ last_value name s.pairs
