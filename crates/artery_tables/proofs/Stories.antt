-- What is kept of the tables, and the story that it stands for.
use Rattle.std.proofs.Common.{◌≡◌, ℕ, zero, suc, ◌+◌, ◌≤◌, ◌<◌, Bool, true, false, cond, List, [], ◌∷◌, ◌++◌, length, get_or, refl, sym, ◌∙◌, ap, subst, arith}
use Rattle.std.specs.Prelude.{◌-◌, Option, None, Some, ◌==◌, slice_get, Result, Ok, Err, if◌then◌else◌}
use Rattle.std.specs.List.{find}
use Rattle.std.specs.Option.{option_map, option_or}
use Rattle.std.proofs.lemmas.Option.{slice_get_past, slice_get-get_or}
use Rattle.std.proofs.lemmas.Bool.Decides.{nat_tests}
use Rattle.artery_tables.specs.declared.table.Table.{Table}
use Rattle.artery_tables.specs.declared.table.TableFault.{TableFault}
use Rattle.artery_tables.specs.declared.table.TableFault.TheVariants.{UnknownIndex}
use Rattle.artery_tables.specs.Story.{Story, IsStory, version_of, table_of, numbered, names_in, numbers_down, known_numbers, number_of, names_of, name_or_fault, entry_in, entry_of}
use Rattle.artery_tables.specs.InTables.{Kept, State, Stands, if_version, table_kept, number_kept, names_kept, entry_kept}

-- the tables with a version among so many numbers down from one
abbrev tables_down : Story → ℕ → ℕ → ℕ → Option Table
tables_down story v zero n = None
tables_down story v (suc k) n = option_or (if_version v (numbered story n)) (tables_down story v k (n - 1))

no_numbers : (k : ℕ) → numbers_down k 0 ≡ []
no_numbers zero = refl
no_numbers (suc k) = refl

none_down : (story : Story) (v k : ℕ) → tables_down story v k 0 ≡ None
none_down story v zero = refl
none_down story v (suc k) = none_down story v k

pub or_none : {X : Type 0} (o : Option X) → option_or o None ≡ o
or_none None = refl
or_none (Some x) = refl

-- two readings of a table agree where one reads the table and the other its number
module _ {Y : Type 0} (story : Story) (v : ℕ) (f : Table → Y) (g : ℕ → Y)
    (agree : (m : ℕ) (names : List (List ℕ)) → slice_get story.tables m ≡ Some names → f (table_of (suc m) names) ≡ g (suc m)) where
  down_step : (k m : ℕ) (names : List (List ℕ)) → slice_get story.tables m ≡ Some names → (b : Bool)
      → option_map f (tables_down story v k m) ≡ option_map g (find (λ n. version_of n == v) (numbers_down k m))
      → option_map f (option_or (cond b (Some (table_of (suc m) names)) None) (tables_down story v k m)) ≡ option_map g (cond b (Some (suc m)) (find (λ n. version_of n == v) (numbers_down k m)))
  down_step k m names is true rest = ap Some (agree m names is)
  down_step k m names is false rest = rest

  pub down_same : (k n : ℕ) → n ≤ length story.tables → option_map f (tables_down story v k n) ≡ option_map g (find (λ n. version_of n == v) (numbers_down k n))
  down_same zero n h = refl
  down_same (suc k) zero h = ap (option_map f) (none_down story v k)
  down_same (suc k) (suc m) h =
      let within : m < length story.tables = omega arith in
      let is : slice_get story.tables m ≡ Some (get_or story.tables m []) = slice_get-get_or story.tables m [] within in
      let less : suc m - 1 ≡ m = omega arith in
      ap (λ (n : ℕ). option_map f (option_or (if_version v (numbered story (suc m))) (tables_down story v k n))) less
      ∙ ap (λ (o : Option (List (List ℕ))). option_map f (option_or (if_version v (option_map (table_of (suc m)) o)) (tables_down story v k m))) is
      ∙ down_step k m (get_or story.tables m []) is (version_of (suc m) == v) (down_same k m (omega arith))

-- the table after so many
pub next_numbered : (story : Story) (m : ℕ) → numbered story (m + 1) ≡ option_map (table_of (m + 1)) (slice_get story.tables m)
next_numbered story m = let e : suc m ≡ m + 1 = omega arith in subst (λ z. numbered story z ≡ option_map (table_of z) (slice_get story.tables m)) e refl

pub numbered_past : (story : Story) (m : ℕ) → length story.tables ≤ m → numbered story (m + 1) ≡ None
numbered_past story m h = next_numbered story m ∙ ap (option_map (table_of (m + 1))) (slice_get_past story.tables m h)

pub numbered_within : (story : Story) (m : ℕ) → m < length story.tables → numbered story (m + 1) ≡ Some (table_of (m + 1) (get_or story.tables m []))
numbered_within story m h = next_numbered story m ∙ ap (option_map (table_of (m + 1))) (slice_get-get_or story.tables m [] h)

module _ (story : Story) (v : ℕ) where
  abbrev at : ℕ → Option Table
  at n = if_version v (numbered story n)

  four : (a b c d : ℕ) → a - 1 ≡ b → b - 1 ≡ c → c - 1 ≡ d → tables_down story v 4 a ≡ option_or (at a) (option_or (at b) (option_or (at c) (at d)))
  four a b c d e f g =
      ap (λ (x : ℕ). option_or (at a) (tables_down story v 3 x)) e
      ∙ ap (λ (x : ℕ). option_or (at a) (option_or (at b) (tables_down story v 2 x))) f
      ∙ ap (λ (x : ℕ). option_or (at a) (option_or (at b) (option_or (at c) (tables_down story v 1 x)))) g
      ∙ ap (λ (o : Option Table). option_or (at a) (option_or (at b) (option_or (at c) o))) (or_none (at d))

  five : (z a b c d : ℕ) → z - 1 ≡ a → a - 1 ≡ b → b - 1 ≡ c → c - 1 ≡ d → tables_down story v 5 z ≡ option_or (at z) (option_or (at a) (option_or (at b) (option_or (at c) (at d))))
  five z a b c d h e f g = ap (λ (x : ℕ). option_or (at z) (tables_down story v 4 x)) h ∙ ap (option_or (at z)) (four a b c d e f g)

  -- the known tables are the five with the numbers from the next one down
  known_down : IsStory story → tables_down story v (length story.tables + 4 - story.confirmed) (length story.tables)
      ≡ option_or (at (story.confirmed + 1)) (option_or (at story.confirmed) (option_or (at (story.confirmed - 1)) (option_or (at (story.confirmed - 2)) (at (story.confirmed - 3)))))
  known_down i = by (length story.tables == story.confirmed) refl
    where
      near : length story.tables ≤ story.confirmed + 1
      near = i.one_open

      within : story.confirmed ≤ length story.tables
      within = i.announced

      by : (b : Bool) → (length story.tables == story.confirmed) ≡ b → tables_down story v (length story.tables + 4 - story.confirmed) (length story.tables)
          ≡ option_or (at (story.confirmed + 1)) (option_or (at story.confirmed) (option_or (at (story.confirmed - 1)) (option_or (at (story.confirmed - 2)) (at (story.confirmed - 3)))))
      by true e =
          let all : length story.tables ≡ story.confirmed = grind (arith, nat_tests) in
          let many : length story.tables + 4 - story.confirmed ≡ 4 = omega arith in
          ap (λ (n : ℕ). tables_down story v n (length story.tables)) many
          ∙ ap (tables_down story v 4) all
          ∙ four story.confirmed (story.confirmed - 1) (story.confirmed - 2) (story.confirmed - 3) refl (omega arith) (omega arith)
          ∙ ap (λ (o : Option Table). option_or (if_version v o) (option_or (at story.confirmed) (option_or (at (story.confirmed - 1)) (option_or (at (story.confirmed - 2)) (at (story.confirmed - 3)))))) (sym (numbered_past story story.confirmed (omega arith)))
      by false e =
          let other : length story.tables ≡ story.confirmed → ⊥ = λ (q : length story.tables ≡ story.confirmed). grind (arith, nat_tests) in
          let one : length story.tables ≡ story.confirmed + 1 = omega arith in
          let many : length story.tables + 4 - story.confirmed ≡ 5 = omega arith in
          ap (λ (n : ℕ). tables_down story v n (length story.tables)) many
          ∙ ap (tables_down story v 5) one
          ∙ five (story.confirmed + 1) story.confirmed (story.confirmed - 1) (story.confirmed - 2) (story.confirmed - 3) (omega arith) refl (omega arith) (omega arith)

kept_down : (v : ℕ) (k : Kept) (s : State) → Stands k s → table_kept v k ≡ tables_down s.story v (length s.story.tables + 4 - s.story.confirmed) (length s.story.tables)
kept_down v k s h = rw (h.announced, h.current, h.first_older, h.second_older, h.third_older) (sym (known_down s.story v h.story))

same_option : {X : Type 0} (o : Option X) → option_map (λ x. x) o ≡ o
same_option None = refl
same_option (Some x) = refl

not_zero : (w : ℕ) → (suc w == 0) ≡ false
not_zero w = grind (arith, nat_tests)

zero_not : (w : ℕ) → (0 == suc w) ≡ false
zero_not w = grind (arith, nat_tests)

-- number 0 does not have a version from 1 on
number_past_none : (w : ℕ) (story : Story) → number_of story (suc w) ≡ find (λ n. version_of n == suc w) (numbers_down (length story.tables + 4 - story.confirmed) (length story.tables))
number_past_none w story = ap (λ (b : Bool). cond b (Some 0) (find (λ n. version_of n == suc w) (numbers_down (length story.tables + 4 - story.confirmed) (length story.tables)))) (zero_not w)

-- a version has the same number by what is kept and by the story
pub numbers_alike : (v : ℕ) (k : Kept) (s : State) → Stands k s → number_kept k v ≡ number_of s.story v
numbers_alike zero k s h = refl
numbers_alike (suc w) k s h =
    ap (λ (b : Bool). if b then Some 0 else option_map (λ t. t.number) (table_kept (suc w) k)) (not_zero w)
    ∙ ap (option_map (λ t. t.number)) (kept_down (suc w) k s h)
    ∙ down_same s.story (suc w) (λ t. t.number) (λ n. n) (λ m names is. refl) (length s.story.tables + 4 - s.story.confirmed) (length s.story.tables) (omega arith)
    ∙ same_option (find (λ n. version_of n == suc w) (numbers_down (length s.story.tables + 4 - s.story.confirmed) (length s.story.tables)))
    ∙ sym (number_past_none w s.story)

-- and the same names
pub names_alike : (v : ℕ) (k : Kept) (s : State) → Stands k s → names_kept k v ≡ names_of s.story v
names_alike zero k s h = refl
names_alike (suc w) k s h =
    ap (λ (b : Bool). if b then Some [] else option_map (λ t. t.names) (table_kept (suc w) k)) (not_zero w)
    ∙ ap (option_map (λ t. t.names)) (kept_down (suc w) k s h)
    ∙ down_same s.story (suc w) (λ t. t.names) (λ n. names_in (numbered s.story n)) (λ m names is. sym (ap (λ (o : Option (List (List ℕ))). names_in (option_map (table_of (suc m)) o)) is)) (length s.story.tables + 4 - s.story.confirmed) (length s.story.tables) (omega arith)
    ∙ sym (ap (option_map (λ number. names_in (numbered s.story number))) (number_past_none w s.story))

-- so an index means the same
pub entries_alike : (v i : ℕ) (k : Kept) (s : State) → Stands k s → entry_kept k v i ≡ entry_of s.story v i
entries_alike v i k s h = ap (entry_in v i) (names_alike v k s h)

-- an index in the kept table that has the version
known_names : (v : ℕ) (k : Kept) (table : Table) → (v == 0) ≡ false → table_kept v k ≡ Some table → names_kept k v ≡ Some table.names
known_names v k table e is = ap (λ (b : Bool). if b then Some [] else option_map (λ t. t.names) (table_kept v k)) e ∙ ap (option_map (λ t. t.names)) is

pub entry_named : (v i : ℕ) (k : Kept) (table : Table) (name : List ℕ) → (v == 0) ≡ false → table_kept v k ≡ Some table → slice_get table.names i ≡ Some name → entry_kept k v i ≡ Ok name
entry_named v i k table name e is named = ap (entry_in v i) (known_names v k table e is) ∙ ap (name_or_fault v i) named

pub entry_past : (v i : ℕ) (k : Kept) (table : Table) → (v == 0) ≡ false → table_kept v k ≡ Some table → slice_get table.names i ≡ None → entry_kept k v i ≡ Err (UnknownIndex v i)
entry_past v i k table e is past = ap (entry_in v i) (known_names v k table e is) ∙ ap (name_or_fault v i) past
