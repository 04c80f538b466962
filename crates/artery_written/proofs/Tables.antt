-- The tables that are announced to an origin: names that were counted, and the top table of them.
use Rattle.std.proofs.Common.{◌≡◌, ℕ, zero, suc, ◌+◌, ◌<◌, ◌≤◌, ◌^◌, Bool, true, false, ◌&&◌, cond, List, [], ◌∷◌, ◌++◌, length, map, take, refl, sym, ◌∙◌, ap, subst, arith}
use Rattle.std.specs.Prelude.{Option, None, Some, ◌==◌, ◌||◌, not, nat_lt, nat_le, slice_get, filter}
use Rattle.std.specs.List.{list_any}
use Rattle.std.specs.Option.{option_map}
use Rattle.std.proofs.lemmas.Bool.Decides.{nat_tests}
use Rattle.std.proofs.lemmas.List.{length-append}
use Rattle.artery_base.specs.declared.address.UniqueAddress.{UniqueAddress}
use Rattle.artery_base.specs.Valid.{IsUniqueAddress}
use Rattle.artery_header.specs.Envelope.{is_text}
use Rattle.artery_journal.specs.declared.words.Kind.{Kind}
use Rattle.artery_tables.specs.declared.table.Table.{Table}
use Rattle.artery_tables.specs.declared.in_tables.Counted.{Counted}
use Rattle.artery_tables.specs.declared.in_tables.Counted.TheVariants.{Counted as IsCounted, Full, Long}
use Rattle.artery_tables.specs.declared.in_tables.Advertised.{Advertised}
use Rattle.artery_tables.specs.declared.in_tables.Advertised.TheVariants.{New, Again, Same, Spent, Unsettled}
use Rattle.artery_tables.specs.Names.{same_name}
use Rattle.artery_tables.specs.Story.{Story, table_of, numbered, names_in}
use Rattle.artery_tables.specs.TopTable.{distinct, frequency, frequencies, placed, ranked, first_ranked, top_table}
use Rattle.artery_tables.specs.InTables.{State, answer_to_use, uses_after, used, is_nothing_new, answer_by, answer_to_advertise, story_after, advertised, announced_in, is_announced, confirmed}
use Rattle.artery_machine.specs.Ticking.{advertisement}
use Rattle.artery_flight.proofs.Lists.{by_test, on_cond, not_both, not_some, eq_true, and_left, and_right, Each, each_push, each_get, each_filter}
use Rattle.artery_written.proofs.Facts.{ControlFacts, NameFacts, TableFacts, AnnouncedFacts}
use Rattle.artery_written.proofs.Sizes.{table_good}

-- ---- names that are counted

counted_uses : (name : List ℕ) (uses : List (List ℕ)) (x : Counted) → is_text name ≡ true → length name ≤ 256 → Each NameFacts uses → Each NameFacts (uses_after x name uses)
counted_uses name uses IsCounted h k e = each_push NameFacts uses name e (record { ascii = h; short = k })
counted_uses name uses Full h k e = e
counted_uses name uses Long h k e = e

not_long : (n : ℕ) → nat_lt 256 n ≡ false → n ≤ 256
not_long n h = grind (arith, nat_tests)

used_uses : (name : List ℕ) (s : State) → is_text name ≡ true → Each NameFacts s.uses → Each NameFacts (uses_after (answer_to_use name s) name s.uses)
used_uses name s h e = by_test (nat_lt 256 (length name))
    (λ b. subst (λ (x : Counted). Each NameFacts (uses_after x name s.uses)) (sym (ap (λ (c : Bool). cond c Long rest) b)) e)
    (λ b. counted_uses name s.uses (answer_to_use name s) h (not_long (length name) b) e)
  where
    rest : Counted
    rest = cond (list_any (same_name name) s.uses) IsCounted (cond (nat_le 1024 (length (frequencies s.uses))) Full IsCounted)

pub used_facts : (name : List ℕ) (s : State) → is_text name ≡ true → AnnouncedFacts s → AnnouncedFacts (used name s)
used_facts name s h f = record { uses = used_uses name s h f.uses; tables = f.tables; announced = f.announced; numbers = f.numbers }

-- ---- the top table

distinct_facts : (names : List (List ℕ)) → Each NameFacts names → Each NameFacts (distinct names)
distinct_facts [] h = tt
distinct_facts (name ∷ names) h = (h.0, each_filter NameFacts (λ other. not (same_name name other)) (distinct names) (distinct_facts names h.1))

abbrev EntryFacts : List ℕ × ℕ → Type 0
EntryFacts e = NameFacts e.0

with_counts : (uses names : List (List ℕ)) → Each NameFacts names → Each EntryFacts (map (λ name. (name, frequency uses name)) names)
with_counts uses [] h = tt
with_counts uses (name ∷ names) h = (h.0, with_counts uses names h.1)

placed_facts : (e : List ℕ × ℕ) (es : List (List ℕ × ℕ)) → EntryFacts e → Each EntryFacts es → Each EntryFacts (placed e es)
placed_facts e [] h k = (h, tt)
placed_facts e (o ∷ es) h k = on_cond (Each EntryFacts) (nat_lt e.1 o.1) (o ∷ placed e es) (e ∷ o ∷ es) (λ b. (k.0, placed_facts e es h k.1)) (λ b. (h, k))

ranked_facts : (es : List (List ℕ × ℕ)) → Each EntryFacts es → Each EntryFacts (ranked es)
ranked_facts [] h = tt
ranked_facts (e ∷ es) h = placed_facts e (ranked es) h.0 (ranked_facts es h.1)

first_facts : (n : ℕ) (es : List (List ℕ × ℕ)) → Each EntryFacts es → Each NameFacts (map (λ e. e.0) (take n es))
first_facts zero es h = tt
first_facts (suc n) [] h = tt
first_facts (suc n) (e ∷ es) h = (h.0, first_facts n es h.1)

first_few : (n : ℕ) (es : List (List ℕ × ℕ)) → length (map (λ e. e.0) (take n es)) ≤ n
first_few zero es = omega arith
first_few (suc n) [] = omega arith
first_few (suc n) (e ∷ es) = (let k : length (map (λ x. x.0) (take n es)) ≤ n = first_few n es in let g : suc (length (map (λ x. x.0) (take n es))) ≤ suc n = omega arith in g)

top_facts : (uses : List (List ℕ)) → Each NameFacts uses → TableFacts (top_table uses)
top_facts uses h = record {
  each = first_facts 256 (ranked (frequencies uses)) (ranked_facts (frequencies uses) (with_counts uses (distinct uses) (distinct_facts uses h)));
  few = first_few 256 (ranked (frequencies uses));
}

-- ---- what is announced

-- A new table has a number where there is one.
abbrev Numbered : Story → Advertised → Type 0
Numbered s New = length s.tables + 1 < 2 ^ 64
Numbered s Again = Unit {0}
Numbered s Same = Unit {0}
Numbered s Spent = Unit {0}
Numbered s Unsettled = Unit {0}

not_spent : (n : ℕ) → (n == 18446744073709551615) ≡ false → n < 2 ^ 64 → n + 1 < 2 ^ 64
not_spent n h k = grind (arith, nat_tests)

all_confirmed : (a b : ℕ) → nat_lt a b ≡ false → a ≤ b → a ≡ b
all_confirmed a b h k = grind (arith, nat_tests)

answered_numbered : (s : Story) (n : ℕ) (current top : List (List ℕ)) (settled : Bool) → n ≡ length s.tables → length s.tables < 2 ^ 64 → Numbered s (answer_by n current top settled)
answered_numbered s n current top settled e k = on_cond (Numbered s) (is_nothing_new top current) Same (cond (n == 18446744073709551615) Spent (cond (nat_le 128 (n + 1) && not settled) Unsettled New)) (λ b. tt)
    (λ b. on_cond (Numbered s) (n == 18446744073709551615) Spent (cond (nat_le 128 (n + 1) && not settled) Unsettled New) (λ c. tt)
    (λ c. on_cond (Numbered s) (nat_le 128 (n + 1) && not settled) Unsettled New (λ g. tt) (λ g. subst (λ (x : ℕ). x + 1 < 2 ^ 64) e (not_spent n c (subst (λ (x : ℕ). x < 2 ^ 64) (sym e) k)))))

advertise_numbered : (settled : Bool) (s : State) → AnnouncedFacts s → Numbered s.story (answer_to_advertise settled s)
advertise_numbered settled s f = on_cond (Numbered s.story) (nat_lt s.story.confirmed (length s.story.tables)) Again (answer_by s.story.confirmed (names_in (numbered s.story s.story.confirmed)) (top_table s.uses) settled) (λ b. tt)
    (λ b. answered_numbered s.story s.story.confirmed (names_in (numbered s.story s.story.confirmed)) (top_table s.uses) settled (all_confirmed s.story.confirmed (length s.story.tables) b f.announced) f.numbers)

after_facts : (s : State) (x : Advertised) → Numbered s.story x → AnnouncedFacts s → AnnouncedFacts (record s { story = story_after x s })
after_facts s New k f =
    let e : length (s.story.tables ++ top_table s.uses ∷ []) ≡ length s.story.tables + 1 = length-append s.story.tables (top_table s.uses ∷ []) in
    record {
      uses = f.uses;
      tables = each_push TableFacts s.story.tables (top_table s.uses) f.tables (top_facts s.uses f.uses);
      announced = (let a : s.story.confirmed ≤ length s.story.tables = f.announced in omega arith);
      numbers = (let a : length s.story.tables + 1 < 2 ^ 64 = k in omega arith);
    }
after_facts s Again k f = record { uses = f.uses; tables = f.tables; announced = f.announced; numbers = f.numbers }
after_facts s Same k f = record { uses = f.uses; tables = f.tables; announced = f.announced; numbers = f.numbers }
after_facts s Spent k f = record { uses = f.uses; tables = f.tables; announced = f.announced; numbers = f.numbers }
after_facts s Unsettled k f = record { uses = f.uses; tables = f.tables; announced = f.announced; numbers = f.numbers }

pub advertised_facts : (settled : Bool) (s : State) → AnnouncedFacts s → AnnouncedFacts (advertised settled s)
advertised_facts settled s f = after_facts s (answer_to_advertise settled s) (advertise_numbered settled s f) f

pub confirmed_facts : (number : ℕ) (s : State) → AnnouncedFacts s → AnnouncedFacts (confirmed number s)
confirmed_facts number s f = on_cond AnnouncedFacts (is_announced number s.story) (record s { story = record s.story { confirmed = s.story.confirmed + 1 } }) s
    (λ b. record {
      uses = f.uses;
      tables = f.tables;
      announced = (let e : length s.story.tables ≡ s.story.confirmed + 1 = eq_true (length s.story.tables) (s.story.confirmed + 1) (and_right (number == s.story.confirmed + 1) (length s.story.tables == s.story.confirmed + 1) b) in omega arith);
      numbers = f.numbers;
    })
    (λ b. f)

-- The table that is announced and not confirmed may be written to an origin.
abbrev pub AdvertFacts : Option Table → Type 0
AdvertFacts None = Unit {0}
AdvertFacts (Some table) = (kind : Kind) (me v : UniqueAddress) → IsUniqueAddress me → IsUniqueAddress v → ControlFacts (advertisement kind me v table)

inside : {X : Type 0} (xs : List X) (i : ℕ) (x : X) → slice_get xs i ≡ Some x → i < length xs
inside [] i x e = not_some e
inside (y ∷ xs) zero x e = (let k : 0 < suc (length xs) = omega arith in k)
inside (y ∷ xs) (suc i) x e = (let h : i < length xs = inside xs i x e in let k : suc i < suc (length xs) = omega arith in k)

pub advert_facts : (s : State) → AnnouncedFacts s → AdvertFacts (announced_in s.story)
advert_facts s f = subst (λ (n : ℕ). AdvertFacts (numbered s.story n)) (let e : suc s.story.confirmed ≡ s.story.confirmed + 1 = omega arith in e) (by (slice_get s.story.tables s.story.confirmed) refl)
  where
    by : (x : Option (List (List ℕ))) → slice_get s.story.tables s.story.confirmed ≡ x → AdvertFacts (option_map (table_of (suc s.story.confirmed)) x)
    by None e = tt
    by (Some names) e = λ kind me v h k. table_good kind me v (suc s.story.confirmed) names h k (omega arith)
        (let a : s.story.confirmed < length s.story.tables = inside s.story.tables s.story.confirmed names e in let b : length s.story.tables < 2 ^ 64 = f.numbers in let c : suc s.story.confirmed < 2 ^ 64 = omega arith in c)
        (each_get TableFacts s.story.tables s.story.confirmed names f.tables e)
