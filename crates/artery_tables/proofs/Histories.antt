-- Every call keeps what is kept standing for the whole history, and has the answer of the history's step.
use Rattle.std.proofs.Common.{◌≡◌, ℕ, zero, suc, ◌+◌, ◌-◌, ◌≤◌, ◌<◌, Bool, true, false, cond, List, [], ◌∷◌, ◌++◌, length, get_or, refl, sym, ◌∙◌, ap, subst, arith, length-append}
use Rattle.std.specs.Borrow.{Bor}
use Rattle.artery_base.specs.Words.{Shows}
use Rattle.artery_tables.specs.declared.table.TableFault.{TableFault}
use Rattle.std.specs.Prelude.{Option, None, Some, Result, is_some, ◌==◌, ◌&&◌, nat_lt, nat_le, slice_get, if◌then◌else◌}
use Rattle.std.specs.List.{list_any}
use Rattle.std.specs.Option.{option_map}
use Rattle.std.proofs.lemmas.Bool.Decides.{nat_tests}
use Rattle.artery_tables.specs.declared.in_tables.Counted.{Counted}
use Rattle.artery_tables.specs.declared.in_tables.Counted.TheVariants.{Counted as IsCounted, Full, Long}
use Rattle.artery_tables.specs.declared.in_tables.Advertised.{Advertised}
use Rattle.artery_tables.specs.declared.in_tables.Advertised.TheVariants.{New, Again, Same, Spent, Unsettled}
use Rattle.artery_tables.specs.declared.in_tables.Confirmed.{Confirmed}
use Rattle.artery_tables.specs.declared.in_tables.Confirmed.TheVariants.{Confirmed as IsConfirmed, NotAnnounced}
use Rattle.artery_tables.specs.Names.{same_name}
use Rattle.artery_tables.specs.Story.{Story, IsStory, table_of, numbered, names_in, number_of, entry_of}
use Rattle.artery_tables.specs.TopTable.{frequency, frequencies, first_ranked, top_table}
use Rattle.artery_tables.specs.InTables.{Kept, State, Stands, count_of, counting, bumped, counts_after, kept_counted, number_in, answer_by, advertising, next_table, kept_after, kept_advertised, is_number, confirming, kept_confirmed, answer_to_use, uses_after, used, answer_to_advertise, story_after, advertised, is_announced, answer_to_confirm, confirmed, number_kept, entry_kept}
use Rattle.artery_tables.proofs.Uses.{count_is, bumped_is}
use Rattle.artery_tables.proofs.Stories.{numbered_past, numbered_within, next_numbered, numbers_alike, entries_alike}

-- ---- counting

some_if : (b : Bool) (n : ℕ) → is_some (cond b (Some n) None) ≡ b
some_if true n = refl
some_if false n = refl

is_counted : (name : List ℕ) (k : Kept) (s : State) → Stands k s → is_some (count_of name k) ≡ list_any (same_name name) s.uses
is_counted name k s h = rw (h.counts, count_is name s.uses) (some_if (list_any (same_name name) s.uses) (frequency s.uses name))

pub counts_alike : (name : List ℕ) (k : Kept) (s : State) → Stands k s → counting name k ≡ answer_to_use name s
counts_alike name k s h = rw (is_counted name k s h, h.counts) refl

after_count : (answer : Counted) (name : List ℕ) (k : Kept) (s : State) → Stands k s → counts_after answer name k ≡ frequencies (uses_after answer name s.uses)
after_count IsCounted name k s h = rw h.counts (bumped_is name s.uses)
after_count Full name k s h = h.counts
after_count Long name k s h = h.counts

pub counted_alike : (name : List ℕ) (k : Kept) (s : State) → Stands k s → Stands (kept_counted name k) (used name s)
counted_alike name k s h = record {
  counts = ap (λ (a : Counted). counts_after a name k) (counts_alike name k s h) ∙ after_count (answer_to_use name s) name k s h;
  announced = h.announced;
  current = h.current;
  first_older = h.first_older;
  second_older = h.second_older;
  third_older = h.third_older;
  story = h.story;
}

-- ---- advertising

open_is : (story : Story) → IsStory story → is_some (numbered story (story.confirmed + 1)) ≡ nat_lt story.confirmed (length story.tables)
open_is story i = by (nat_lt story.confirmed (length story.tables)) refl
  where
    by : (b : Bool) → nat_lt story.confirmed (length story.tables) ≡ b → is_some (numbered story (story.confirmed + 1)) ≡ b
    by true e = let lt : story.confirmed < length story.tables = grind (arith, nat_tests) in ap is_some (numbered_within story story.confirmed lt)
    by false e = let le : length story.tables ≤ story.confirmed = grind (arith, nat_tests) in ap is_some (numbered_past story story.confirmed le)

number_is : (story : Story) (n : ℕ) → n ≤ length story.tables → number_in (numbered story n) ≡ n
number_is story zero h = refl
number_is story (suc m) h =
    let e : m + 1 ≡ suc m = omega arith in
    ap (λ (n : ℕ). number_in (numbered story n)) (sym e) ∙ ap number_in (numbered_within story m (omega arith)) ∙ e

pub advertises_alike : (settled : Bool) (k : Kept) (s : State) → Stands k s → advertising settled k ≡ answer_to_advertise settled s
advertises_alike settled k s h =
    let within : s.story.confirmed ≤ length s.story.tables = h.story.announced in
    rw (h.announced, h.current, h.counts, open_is s.story h.story, number_is s.story s.story.confirmed within) refl

slice_get_front : {X : Type 0} (xs ys : List X) (i : ℕ) → i < length xs → slice_get (xs ++ ys) i ≡ slice_get xs i
slice_get_front [] ys i h = (let f : ⊥ = omega arith in absurd f)
slice_get_front (x ∷ xs) ys zero h = refl
slice_get_front (x ∷ xs) ys (suc i) h = slice_get_front xs ys i (omega arith)

slice_get_last : {X : Type 0} (xs : List X) (x : X) → slice_get (xs ++ x ∷ []) (length xs) ≡ Some x
slice_get_last [] x = refl
slice_get_last (y ∷ xs) x = slice_get_last xs x

with_table : Story → List (List ℕ) → Story
with_table story names = record story { tables = story.tables ++ names ∷ [] }

numbered_before : (story : Story) (names : List (List ℕ)) (n : ℕ) → n ≤ length story.tables → numbered story n ≡ numbered (record story { tables = story.tables ++ names ∷ [] }) n
numbered_before story names zero h = refl
numbered_before story names (suc m) h = sym (ap (option_map (table_of (suc m))) (slice_get_front story.tables (names ∷ []) m (omega arith)))

numbered_last : (story : Story) (names : List (List ℕ)) (c : ℕ) → length story.tables ≡ c → Some (table_of (c + 1) names) ≡ numbered (record story { tables = story.tables ++ names ∷ [] }) (c + 1)
numbered_last story names c e =
    sym (next_numbered (record story { tables = story.tables ++ names ∷ [] }) c
    ∙ ap (option_map (table_of (c + 1))) (ap (slice_get (story.tables ++ names ∷ [])) (sym e) ∙ slice_get_last story.tables names))

new_is_open : (b : Bool) (a : Advertised) → cond b Again a ≡ New → b ≡ false
new_is_open true a e = cc
new_is_open false a e = refl

advertise_stands : (a : Advertised) (k : Kept) (s : State) → Stands k s → (a ≡ New → length s.story.tables ≡ s.story.confirmed) → Stands (kept_after a k) (record s { story = story_after a s })
advertise_stands New k s h f =
    let all : length s.story.tables ≡ s.story.confirmed = f refl in
    let long : length (s.story.tables ++ top_table s.uses ∷ []) ≡ length s.story.tables + 1 = length-append s.story.tables (top_table s.uses ∷ []) in
    let top : first_ranked k.counts ≡ top_table s.uses = ap first_ranked h.counts in
    let number : number_in k.current ≡ s.story.confirmed = ap number_in h.current ∙ number_is s.story s.story.confirmed (omega arith) in
    record {
      counts = h.counts;
      announced = ap (λ (n : ℕ). Some (table_of (n + 1) (first_ranked k.counts))) number ∙ ap (λ (l : List (List ℕ)). Some (table_of (s.story.confirmed + 1) l)) top ∙ numbered_last s.story (top_table s.uses) s.story.confirmed all;
      current = h.current ∙ numbered_before s.story (top_table s.uses) s.story.confirmed (omega arith);
      first_older = h.first_older ∙ numbered_before s.story (top_table s.uses) (s.story.confirmed - 1) (omega arith);
      second_older = h.second_older ∙ numbered_before s.story (top_table s.uses) (s.story.confirmed - 2) (omega arith);
      third_older = h.third_older ∙ numbered_before s.story (top_table s.uses) (s.story.confirmed - 3) (omega arith);
      story = record { announced = omega arith; one_open = omega arith };
    }
advertise_stands Again k s h f = h
advertise_stands Same k s h f = h
advertise_stands Spent k s h f = h
advertise_stands Unsettled k s h f = h

pub advertised_alike : (settled : Bool) (k : Kept) (s : State) → Stands k s → Stands (kept_advertised settled k) (advertised settled s)
advertised_alike settled k s h =
    rw (advertises_alike settled k s h)
    (advertise_stands (answer_to_advertise settled s) k s h
    (λ e. let none_open : nat_lt s.story.confirmed (length s.story.tables) ≡ false = new_is_open _ _ e in
    let within : s.story.confirmed ≤ length s.story.tables = h.story.announced in grind (arith, nat_tests)))

-- ---- confirming

other_side : (n c l : ℕ) → l ≡ c + 1 → (c + 1 == n) ≡ ((n == c + 1) && (l == c + 1))
other_side n c l e = grind (arith, nat_tests)

none_waits : (n c l : ℕ) → l ≤ c → false ≡ ((n == c + 1) && (l == c + 1))
none_waits n c l e = grind (arith, nat_tests)

number_waits : (n : ℕ) (story : Story) → IsStory story → is_number n (numbered story (story.confirmed + 1)) ≡ is_announced n story
number_waits n story i = by (nat_lt story.confirmed (length story.tables)) refl
  where
    near : length story.tables ≤ story.confirmed + 1
    near = i.one_open

    by : (b : Bool) → nat_lt story.confirmed (length story.tables) ≡ b → is_number n (numbered story (story.confirmed + 1)) ≡ is_announced n story
    by true e =
        let lt : story.confirmed < length story.tables = grind (arith, nat_tests) in
        ap (is_number n) (numbered_within story story.confirmed lt) ∙ other_side n story.confirmed (length story.tables) (omega arith)
    by false e =
        let le : length story.tables ≤ story.confirmed = grind (arith, nat_tests) in
        ap (is_number n) (numbered_past story story.confirmed le) ∙ none_waits n story.confirmed (length story.tables) le

pub confirms_alike : (n : ℕ) (k : Kept) (s : State) → Stands k s → confirming n k ≡ answer_to_confirm n s
confirms_alike n k s h = rw (h.announced, number_waits n s.story h.story) refl

confirm_stands : (b : Bool) (k : Kept) (s : State) → Stands k s → (b ≡ true → length s.story.tables ≡ s.story.confirmed + 1)
    → Stands (if b then record k { announced = None; current = k.announced; first_older = k.current; second_older = k.first_older; third_older = k.second_older } else k)
    (if b then record s { story = record s.story { confirmed = s.story.confirmed + 1 } } else s)
confirm_stands true k s h f =
    let all : length s.story.tables ≡ s.story.confirmed + 1 = f refl in
    let one : s.story.confirmed ≡ s.story.confirmed + 1 - 1 = omega arith in
    let two : s.story.confirmed - 1 ≡ s.story.confirmed + 1 - 2 = omega arith in
    let three : s.story.confirmed - 2 ≡ s.story.confirmed + 1 - 3 = omega arith in
    record {
      counts = h.counts;
      announced = sym (numbered_past s.story (s.story.confirmed + 1) (omega arith));
      current = h.announced;
      first_older = h.current ∙ ap (numbered s.story) one;
      second_older = h.first_older ∙ ap (numbered s.story) two;
      third_older = h.second_older ∙ ap (numbered s.story) three;
      story = record { announced = omega arith; one_open = omega arith };
    }
confirm_stands false k s h f = h

waits_last : (n c l : ℕ) → ((n == c + 1) && (l == c + 1)) ≡ true → l ≡ c + 1
waits_last n c l e = grind (arith, nat_tests)

pub confirmed_alike : (n : ℕ) (k : Kept) (s : State) → Stands k s → Stands (kept_confirmed n k) (confirmed n s)
confirmed_alike n k s h =
    let same : is_number n k.announced ≡ is_announced n s.story = ap (is_number n) h.announced ∙ number_waits n s.story h.story in
    rw same (confirm_stands (is_announced n s.story) k s h (waits_last n s.story.confirmed (length s.story.tables)))

-- ---- what a call answered and left

pub counting_stands : (name : List ℕ) (old new : Kept) (answer : Counted) (s : State) → Stands old s
    → answer ≡ counting name old → new ≡ kept_counted name old → (answer ≡ answer_to_use name s) × Stands new (used name s)
counting_stands name old new answer s h is left = (is ∙ counts_alike name old s h, rw left (counted_alike name old s h))

pub advertising_stands : (settled : Bool) (old new : Kept) (answer : Advertised) (s : State) → Stands old s
    → answer ≡ advertising settled old → new ≡ kept_advertised settled old → (answer ≡ answer_to_advertise settled s) × Stands new (advertised settled s)
advertising_stands settled old new answer s h is left = (is ∙ advertises_alike settled old s h, rw left (advertised_alike settled old s h))

pub confirming_stands : (n : ℕ) (old new : Kept) (answer : Confirmed) (s : State) → Stands old s
    → answer ≡ confirming n old → new ≡ kept_confirmed n old → (answer ≡ answer_to_confirm n s) × Stands new (confirmed n s)
confirming_stands n old new answer s h is left = (is ∙ confirms_alike n old s h, rw left (confirmed_alike n old s h))

pub numbering_stands : (version : ℕ) (k : Kept) (answer : Option ℕ) (s : State) → Stands k s → answer ≡ number_kept k version → answer ≡ number_of s.story version
numbering_stands version k answer s h is = is ∙ numbers_alike version k s h

pub resolving_stands : (version index : ℕ) (k : Kept) (answer : Result (Bor (List ℕ)) TableFault) (s : State) → Stands k s
    → Shows (λ name. name.now) answer (entry_kept k version index) → Shows (λ name. name.now) answer (entry_of s.story version index)
resolving_stands version index k answer s h is = subst (Shows (λ name. name.now) answer) (entries_alike version index k s h) is

pub current_stands : (k : Kept) (s : State) (n : ℕ) → Stands k s → n ≡ number_in k.current → n ≡ s.story.confirmed
current_stands k s n h is =
    let within : s.story.confirmed ≤ length s.story.tables = h.story.announced in
    is ∙ ap number_in h.current ∙ number_is s.story s.story.confirmed within
