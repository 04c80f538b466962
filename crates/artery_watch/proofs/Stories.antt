-- Ids over any list of calls.
use Rattle.std.proofs.Common.{◌≡◌, ℕ, ◌+◌, ◌<◌, ◌≤◌, zero, suc, Bool, true, false, List, [], ◌∷◌, ◌++◌, refl, ap, sym, ◌∙◌, subst, arith, append_assoc}
use Rattle.std.specs.Prelude.{Option, Some, None, not, ◌&&◌, ◌==◌, nat_lt, nat_le, map, filter, if◌then◌else◌}
use Rattle.std.specs.Map.{lookup, remove_entry}
use Rattle.std.proofs.lemmas.Bool.Decides.{nat_tests}
use Rattle.std.proofs.lemmas.List.{map-append}
use Rattle.artery_watch.specs.declared.pair.Pair.{Pair}
use Rattle.artery_watch.specs.declared.answers.Watch.{Watch}
use Rattle.artery_watch.specs.declared.answers.Watch.TheVariants.{Watching, Already, Full}
use Rattle.artery_watch.specs.Keys.{same_pair}
use Rattle.artery_watch.specs.Watcher.{Watches, Kept, nothing_kept, id_of, is_full, ids_at, watching, watching_by, watched_by, watches_one_at}
use Rattle.artery_watch.specs.Story.{Call, watches, unwatches, hears_of_end, closes, spawns, stops, watches_from_elsewhere, unwatches_from_elsewhere, forgets, called, after, Told, gives, ends, given_by, ended_by, told_by, told_from, story, times_given, times_ended, times_in, IsLawfulAfter, IsLawful, IsAscendingAbove, ids_of, once_up_to}

-- the ids in a list of watches
abbrev ids_in : List (Pair × ℕ) → List ℕ
ids_in list = map (λ watch. watch.1) list

abbrev one : ℕ → ℕ → ℕ
one id other = if other == id then 1 else 0

-- ---- counting

in_append : (id : ℕ) (xs ys : List ℕ) → times_in id (xs ++ ys) ≡ times_in id xs + times_in id ys
in_append id [] ys = omega arith
in_append id (x ∷ xs) ys = omega (arith, in_append id xs ys)

given_append : (id : ℕ) (xs ys : List Told) → times_given id (xs ++ ys) ≡ times_given id xs + times_given id ys
given_append id [] ys = omega arith
given_append id (gives x ∷ xs) ys = omega (arith, given_append id xs ys)
given_append id (ends x ∷ xs) ys = given_append id xs ys

ended_append : (id : ℕ) (xs ys : List Told) → times_ended id (xs ++ ys) ≡ times_ended id xs + times_ended id ys
ended_append id [] ys = omega arith
ended_append id (gives x ∷ xs) ys = ended_append id xs ys
ended_append id (ends x ∷ xs) ys = omega (arith, ended_append id xs ys)

ended_map : (id : ℕ) (ids : List ℕ) → times_ended id (map ends ids) ≡ times_in id ids
ended_map id [] = refl
ended_map id (x ∷ xs) = ap (λ n. one id x + n) (ended_map id xs)

given_map : (id : ℕ) (ids : List ℕ) → times_given id (map ends ids) ≡ 0
given_map id [] = refl
given_map id (x ∷ xs) = given_map id xs

-- a list falls into two parts
parts : (id : ℕ) (test : Pair × ℕ → Bool) (list : List (Pair × ℕ)) → times_in id (ids_in (filter (λ watch. not (test watch)) list)) + times_in id (ids_in (filter test list)) ≡ times_in id (ids_in list)
parts id test [] = refl
parts id test (w ∷ ws) = by (test w) (parts id test ws)
  where
    by : (b : Bool) → times_in id (ids_in (filter (λ watch. not (test watch)) ws)) + times_in id (ids_in (filter test ws)) ≡ times_in id (ids_in ws)
        → times_in id (ids_in (if not b then w ∷ filter (λ watch. not (test watch)) ws else filter (λ watch. not (test watch)) ws)) + times_in id (ids_in (if b then w ∷ filter test ws else filter test ws)) ≡ one id w.1 + times_in id (ids_in ws)
    by true h = omega (arith, h)
    by false h = omega (arith, h)

-- what is removed was there
removed : (id : ℕ) (test : Pair → Bool) (list : List (Pair × ℕ)) → times_in id (ids_in (remove_entry test list)) + times_ended id (ended_by (lookup test list)) ≡ times_in id (ids_in list)
removed id test [] = refl
removed id test (w ∷ ws) = by (test w.0) (removed id test ws)
  where
    by : (b : Bool) → times_in id (ids_in (remove_entry test ws)) + times_ended id (ended_by (lookup test ws)) ≡ times_in id (ids_in ws)
        → times_in id (ids_in (if b then ws else w ∷ remove_entry test ws)) + times_ended id (ended_by (if b then Some w.1 else lookup test ws)) ≡ one id w.1 + times_in id (ids_in ws)
    by true h = omega arith
    by false h = omega (arith, h)

no_gives : (id : ℕ) (o : Option ℕ) → times_given id (ended_by o) ≡ 0
no_gives id None = refl
no_gives id (Some x) = refl

-- ---- one call

-- each id that is watched or ends was watched before or is given
abbrev Balances : ℕ → List (Pair × ℕ) → List Told → List (Pair × ℕ) → Type 0
Balances id old told new = times_in id (ids_in new) + times_ended id told ≡ times_in id (ids_in old) + times_given id told

watch_balances : (id : ℕ) (p : Pair) (w : Watches) (answer : Watch) → Balances id w.list (given_by answer) (watched_by answer p w).list
watch_balances id p w (Watching x) = omega (arith, ap (times_in id) (map-append (λ (watch : Pair × ℕ). watch.1) w.list ((p, x) ∷ [])), in_append id (ids_in w.list) (x ∷ []))
watch_balances id p w (Already x) = refl
watch_balances id p w Full = refl

unwatch_balances : (id : ℕ) (p : Pair) (w : Watches) → Balances id w.list (ended_by (id_of p w)) (remove_entry (same_pair p) w.list)
unwatch_balances id p w = omega (arith, removed id (same_pair p) w.list, no_gives id (id_of p w))

balances : (id : ℕ) (call : Call) (k : Kept) → Balances id k.watches.list (told_by call k) (called call k).watches.list
balances id (watches p) k = watch_balances id p k.watches (watching p k.watches)
balances id (unwatches p) k = unwatch_balances id p k.watches
balances id (hears_of_end p) k = unwatch_balances id p k.watches
balances id (closes address) k = omega (arith, parts id (watches_one_at address) k.watches.list, ended_map id (ids_at address k.watches.list), given_map id (ids_at address k.watches.list))
balances id (spawns path) k = refl
balances id (stops path) k = refl
balances id (watches_from_elsewhere path r) k = refl
balances id (unwatches_from_elsewhere path r) k = refl
balances id (forgets origin) k = refl

-- one more id is given
next_once : (id n : ℕ) → one id (n + 1) + once_up_to id n ≡ once_up_to id (n + 1)
next_once id n = grind (arith, nat_tests)

-- each id that was given is one of the first
abbrev Counts : ℕ → ℕ → List Told → ℕ → Type 0
Counts id old told new = times_given id told + once_up_to id old ≡ once_up_to id new

watch_counts : (id : ℕ) (p : Pair) (w : Watches) (o : Option ℕ) (full : Bool) → Counts id w.given (given_by (elim o [ Some x ↦ Already x | None ↦ if full then Full else Watching (w.given + 1) ])) (watched_by (elim o [ Some x ↦ Already x | None ↦ if full then Full else Watching (w.given + 1) ]) p w).given
watch_counts id p w (Some x) full = omega arith
watch_counts id p w None true = omega arith
watch_counts id p w None false = omega (arith, next_once id w.given)

watch_counts_by : (id : ℕ) (p : Pair) (w : Watches) (o : Option ℕ) → Counts id w.given (given_by (watching_by o w)) (watched_by (watching_by o w) p w).given
watch_counts_by id p w (Some x) = omega arith
watch_counts_by id p w None = watch_counts id p w None (is_full w)

counts : (id : ℕ) (call : Call) (k : Kept) → Counts id k.watches.given (told_by call k) (called call k).watches.given
counts id (watches p) k = watch_counts_by id p k.watches (id_of p k.watches)
counts id (unwatches p) k = omega (arith, no_gives id (id_of p k.watches))
counts id (hears_of_end p) k = omega (arith, no_gives id (id_of p k.watches))
counts id (closes address) k = omega (arith, given_map id (ids_at address k.watches.list))
counts id (spawns path) k = omega arith
counts id (stops path) k = omega arith
counts id (watches_from_elsewhere path r) k = omega arith
counts id (unwatches_from_elsewhere path r) k = omega arith
counts id (forgets origin) k = omega arith

-- ---- all calls

-- what was told before stands for what is kept
record Good (before : List Told) (k : Kept) : Type 0 where
  stands : (id : ℕ) → times_in id (ids_of k) + times_ended id before ≡ times_given id before
  given : (id : ℕ) → times_given id before ≡ once_up_to id k.watches.given

first_good : Good [] nothing_kept
first_good = record { stands = λ id. refl; given = λ id. none_up_to id }
  where
    none_up_to : (id : ℕ) → 0 ≡ once_up_to id 0
    none_up_to zero = refl
    none_up_to (suc id) = grind (arith, nat_tests)

stays_good : (before : List Told) (call : Call) (k : Kept) → Good before k → Good (before ++ told_by call k) (called call k)
stays_good before call k good = record {
  stands = λ id. omega (arith, good.stands id, balances id call k, ended_append id before (told_by call k), given_append id before (told_by call k));
  given = λ id. omega (arith, good.given id, counts id call k, given_append id before (told_by call k));
}

good_after : (before : List Told) (calls : List Call) (k : Kept) → Good before k → Good (before ++ told_from calls k) (after calls k)
good_after before [] k good = subst (λ told. Good told k) (sym (append_nil before)) good
  where
    append_nil : (told : List Told) → told ++ [] ≡ told
    append_nil [] = refl
    append_nil (t ∷ ts) = ap (λ (rest : List Told). t ∷ rest) (append_nil ts)
good_after before (call ∷ calls) k good =
    subst (λ told. Good told (after calls (called call k))) (append_assoc before (told_by call k) (told_from calls (called call k))) (good_after (before ++ told_by call k) calls (called call k) (stays_good before call k good))

good_story : (calls : List Call) → Good (story calls) (after calls nothing_kept)
good_story calls = good_after [] calls nothing_kept first_good

at_most_one : (id n : ℕ) → once_up_to id n ≤ 1
at_most_one id n = by (nat_lt 0 id && nat_le id n)
  where
    by : (b : Bool) → (if b then 1 else 0) ≤ 1
    by true = omega arith
    by false = omega arith

pub story_given : (id : ℕ) (calls : List Call) → times_given id (story calls) ≡ once_up_to id (after calls nothing_kept).watches.given
story_given id calls = (good_story calls).given id

pub story_stands : (id : ℕ) (calls : List Call) → times_in id (ids_of (after calls nothing_kept)) + times_ended id (story calls) ≡ times_given id (story calls)
story_stands id calls = (good_story calls).stands id

pub story_once : (id : ℕ) (calls : List Call) → times_given id (story calls) ≤ 1
story_once id calls = omega (arith, story_given id calls, at_most_one id (after calls nothing_kept).watches.given)

pub story_ends : (id : ℕ) (calls : List Call) → times_ended id (story calls) ≤ times_given id (story calls)
story_ends id calls = omega (arith, story_stands id calls)

-- ---- the law

-- it holds of two lists in a row where it holds of each
both : (before first second : List Told) → IsLawfulAfter before first → IsLawfulAfter (before ++ first) second → IsLawfulAfter before (first ++ second)
both before [] second h g = subst (λ told. IsLawfulAfter told second) (append_nil before) g
  where
    append_nil : (told : List Told) → told ++ [] ≡ told
    append_nil [] = refl
    append_nil (t ∷ ts) = ap (λ (rest : List Told). t ∷ rest) (append_nil ts)
both before (gives id ∷ first) second h g = (h.0, both (before ++ gives id ∷ []) first second h.1 (subst (λ told. IsLawfulAfter told second) (sym (append_assoc before (gives id ∷ []) first)) g))
both before (ends id ∷ first) second h g = (h.0, h.1, both (before ++ ends id ∷ []) first second h.2 (subst (λ told. IsLawfulAfter told second) (sym (append_assoc before (ends id ∷ []) first)) g))

same_one : (id : ℕ) → one id id ≡ 1
same_one id = grind (arith, nat_tests)

-- ids that end in a row
ends_lawful : (before : List Told) (ids : List ℕ) → ((id : ℕ) → times_ended id before + times_in id ids ≤ times_given id before) → ((id : ℕ) → times_given id before ≤ 1) → IsLawfulAfter before (map ends ids)
ends_lawful before [] room once = tt
ends_lawful before (x ∷ xs) room once = (
  omega (arith, room x, once x, same_one x),
  omega (arith, room x, once x, same_one x),
  ends_lawful (before ++ ends x ∷ []) xs
      (λ id. omega (arith, room id, ended_append id before (ends x ∷ []), given_append id before (ends x ∷ [])))
      (λ id. omega (arith, once id, given_append id before (ends x ∷ []))),
)

abbrev ended_ids : Option ℕ → List ℕ
ended_ids None = []
ended_ids (Some id) = id ∷ []

ended_is : (o : Option ℕ) → ended_by o ≡ map ends (ended_ids o)
ended_is None = refl
ended_is (Some id) = refl

once_given : (before : List Told) (k : Kept) → Good before k → (id : ℕ) → times_given id before ≤ 1
once_given before k good id = omega (arith, good.given id, at_most_one id k.watches.given)

-- ids of watches end
watched_end : (before : List Told) (k : Kept) (ids : List ℕ) → Good before k → ((id : ℕ) → times_in id ids ≤ times_in id (ids_of k)) → IsLawfulAfter before (map ends ids)
watched_end before k ids good among = ends_lawful before ids (λ id. omega (arith, good.stands id, among id)) (once_given before k good)

found_among : (p : Pair) (k : Kept) (id : ℕ) → times_in id (ended_ids (id_of p k.watches)) ≤ times_in id (ids_of k)
found_among p k id = omega (arith, removed id (same_pair p) k.watches.list, ap (times_ended id) (ended_is (id_of p k.watches)), ended_map id (ended_ids (id_of p k.watches)))

unwatch_lawful : (before : List Told) (p : Pair) (k : Kept) → Good before k → IsLawfulAfter before (ended_by (id_of p k.watches))
unwatch_lawful before p k good = subst (λ told. IsLawfulAfter before told) (sym (ended_is (id_of p k.watches))) (watched_end before k (ended_ids (id_of p k.watches)) good (found_among p k))

next_is_new : (n : ℕ) → once_up_to (n + 1) n ≡ 0
next_is_new n = grind (arith, nat_tests)

watch_lawful : (before : List Told) (k : Kept) (o : Option ℕ) (full : Bool) → Good before k → IsLawfulAfter before (given_by (elim o [ Some x ↦ Already x | None ↦ if full then Full else Watching (k.watches.given + 1) ]))
watch_lawful before k (Some x) full good = tt
watch_lawful before k None true good = tt
watch_lawful before k None false good = (good.given (k.watches.given + 1) ∙ next_is_new k.watches.given, tt)

watch_lawful_by : (before : List Told) (k : Kept) (o : Option ℕ) → Good before k → IsLawfulAfter before (given_by (watching_by o k.watches))
watch_lawful_by before k (Some x) good = tt
watch_lawful_by before k None good = watch_lawful before k None (is_full k.watches) good

call_lawful : (before : List Told) (call : Call) (k : Kept) → Good before k → IsLawfulAfter before (told_by call k)
call_lawful before (watches p) k good = watch_lawful_by before k (id_of p k.watches) good
call_lawful before (unwatches p) k good = unwatch_lawful before p k good
call_lawful before (hears_of_end p) k good = unwatch_lawful before p k good
call_lawful before (closes address) k good = watched_end before k (ids_at address k.watches.list) good (λ id. omega (arith, parts id (watches_one_at address) k.watches.list))
call_lawful before (spawns path) k good = tt
call_lawful before (stops path) k good = tt
call_lawful before (watches_from_elsewhere path r) k good = tt
call_lawful before (unwatches_from_elsewhere path r) k good = tt
call_lawful before (forgets origin) k good = tt

lawful_from : (before : List Told) (calls : List Call) (k : Kept) → Good before k → IsLawfulAfter before (told_from calls k)
lawful_from before [] k good = tt
lawful_from before (call ∷ calls) k good =
    both before (told_by call k) (told_from calls (called call k)) (call_lawful before call k good)
    (lawful_from (before ++ told_by call k) calls (called call k) (stays_good before call k good))

pub lawful_story : (calls : List Call) → IsLawful (story calls)
lawful_story calls = lawful_from [] calls nothing_kept first_good

-- ---- ascending

-- the ids rise, from above one number and up to another
abbrev IsWithin : ℕ → ℕ → List ℕ → Type 0
IsWithin low high [] = low ≤ high
IsWithin low high (id ∷ ids) = (low < id) × IsWithin id high ids

lower : (low mid high : ℕ) (ids : List ℕ) → low ≤ mid → IsWithin mid high ids → IsWithin low high ids
lower low mid high [] le h = omega (arith, le, h)
lower low mid high (id ∷ ids) le h = (omega (arith, le, h.0), h.1)

rises : (low high : ℕ) (ids : List ℕ) → IsWithin low high ids → IsWithin low (high + 1) (ids ++ (high + 1) ∷ [])
rises low high [] h = (omega (arith, h), omega arith)
rises low high (id ∷ ids) h = (h.0, rises id high ids h.1)

filtered : (low high : ℕ) (test : Pair × ℕ → Bool) (list : List (Pair × ℕ)) → IsWithin low high (ids_in list) → IsWithin low high (ids_in (filter test list))
filtered low high test [] h = h
filtered low high test (w ∷ ws) h = by (test w) (filtered w.1 high test ws h.1)
  where
    by : (b : Bool) → IsWithin w.1 high (ids_in (filter test ws)) → IsWithin low high (ids_in (if b then w ∷ filter test ws else filter test ws))
    by true rest = (h.0, rest)
    by false rest = lower low w.1 high (ids_in (filter test ws)) (omega (arith, h.0)) rest

without : (low high : ℕ) (test : Pair → Bool) (list : List (Pair × ℕ)) → IsWithin low high (ids_in list) → IsWithin low high (ids_in (remove_entry test list))
without low high test [] h = h
without low high test (w ∷ ws) h = by (test w.0) (without w.1 high test ws h.1)
  where
    by : (b : Bool) → IsWithin w.1 high (ids_in (remove_entry test ws)) → IsWithin low high (ids_in (if b then ws else w ∷ remove_entry test ws))
    by true rest = lower low w.1 high (ids_in ws) (omega (arith, h.0)) h.1
    by false rest = (h.0, rest)

-- the ids of the watches rise up to the number of ids given
abbrev Rises : Watches → Type 0
Rises w = IsWithin 0 w.given (ids_in w.list)

watch_rises : (p : Pair) (w : Watches) (full : Bool) → Rises w → Rises (watched_by (if full then Full else Watching (w.given + 1)) p w)
watch_rises p w true h = h
watch_rises p w false h = subst (λ ids. IsWithin 0 (w.given + 1) ids) (sym (map-append (λ (watch : Pair × ℕ). watch.1) w.list ((p, w.given + 1) ∷ []))) (rises 0 w.given (ids_in w.list) h)

watch_rises_by : (p : Pair) (w : Watches) (o : Option ℕ) → Rises w → Rises (watched_by (watching_by o w) p w)
watch_rises_by p w (Some x) h = h
watch_rises_by p w None h = watch_rises p w (is_full w) h

call_rises : (call : Call) (k : Kept) → Rises k.watches → Rises (called call k).watches
call_rises (watches p) k h = watch_rises_by p k.watches (id_of p k.watches) h
call_rises (unwatches p) k h = without 0 k.watches.given (same_pair p) k.watches.list h
call_rises (hears_of_end p) k h = without 0 k.watches.given (same_pair p) k.watches.list h
call_rises (closes address) k h = filtered 0 k.watches.given (λ watch. not (watches_one_at address watch)) k.watches.list h
call_rises (spawns path) k h = h
call_rises (stops path) k h = h
call_rises (watches_from_elsewhere path r) k h = h
call_rises (unwatches_from_elsewhere path r) k h = h
call_rises (forgets origin) k h = h

rises_after : (calls : List Call) (k : Kept) → Rises k.watches → Rises (after calls k).watches
rises_after [] k h = h
rises_after (call ∷ calls) k h = rises_after calls (called call k) (call_rises call k h)

ascends : (low high : ℕ) (ids : List ℕ) → IsWithin low high ids → IsAscendingAbove low ids
ascends low high [] h = tt
ascends low high (id ∷ ids) h = (h.0, ascends id high ids h.1)

pub story_ascends : (calls : List Call) → IsAscendingAbove 0 (ids_of (after calls nothing_kept))
story_ascends calls = ascends 0 (after calls nothing_kept).watches.given (ids_of (after calls nothing_kept)) (rises_after calls nothing_kept (omega arith))
