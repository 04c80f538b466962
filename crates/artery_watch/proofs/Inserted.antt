-- What the maps' own words say of watches, actors and remote watches.
use Rattle.std.proofs.Common.{◌≡◌, ℕ, ◌+◌, ◌≤◌, ◌<◌, Bool, true, false, List, [], ◌∷◌, ◌++◌, length, refl, ap, sym, ◌∙◌, true≢false, arith, ◌-◌, length-append}
use Rattle.artery_base.specs.declared.address.Address.{Address}
use Rattle.std.specs.Prelude.{map, filter, Option, Some, None, is_some, unwrap_or, ◌||◌, if◌then◌else◌, nat_le}
use Rattle.std.specs.List.{list_any}
use Rattle.std.specs.Map.{lookup, set_value, remove_entry}
use Rattle.std.specs.Set.{remove_key}
use Rattle.std.proofs.lemmas.Bool.Decides.{nat_tests}
use Rattle.std.proofs.lemmas.Map.Made.{length-remove_key}
use Rattle.std.proofs.lemmas.Map.Steps.{set_value_same}
use Rattle.indexmap.specs.IndexMap.{insert_entry}
use Rattle.artery_watch.specs.contracts.pair.PairPartialEq.TheImpl as pair_eq
use Rattle.artery_watch.specs.declared.pair.Pair.{Pair}
use Rattle.artery_watch.specs.declared.remote.RemoteWatcher.{RemoteWatcher}
use Rattle.artery_watch.specs.declared.answers.Watch.TheVariants.{Watching}
use Rattle.artery_watch.specs.declared.answers.Spawn.TheVariants.{Spawned, Exists, Full as SpawnFull}
use Rattle.artery_watch.specs.declared.answers.RemoteWatch.TheVariants.{Added, There, Full as RemoteFull}
use Rattle.artery_watch.specs.Keys.{same_text, same_pair, same_remote}
use Rattle.artery_watch.specs.Watcher.{Watches, Actors, ids_at, watches_one_at, id_of, watching, watching_by, watched, watchers_of, watchers_at, spawning, spawned, remote_count, is_among, remote_watching, remote_watching_by, remote_watched, remote_watched_by, remote_unwatching, remote_unwatched, most_remote, most_actors}

module _ {K V : Type 0} (eq : K → K → Bool) where
  pub inserted_last : (k : K) (v : V) (es : List (K × V)) → is_some (lookup (eq k) es) ≡ false → insert_entry eq es k v ≡ es ++ (k, v) ∷ []
  inserted_last k v [] h = refl
  inserted_last k v (e ∷ es) h = by (eq k e.0) h (inserted_last k v es)
    where
      by : (b : Bool) → is_some (if b then Some e.1 else lookup (eq k) es) ≡ false → (is_some (lookup (eq k) es) ≡ false → insert_entry eq es k v ≡ es ++ (k, v) ∷ []) → (if b then (e.0, v) ∷ es else e ∷ insert_entry eq es k v) ≡ e ∷ es ++ (k, v) ∷ []
      by true here rest = absurd (true≢false here)
      by false there rest = ap (λ (r : List (K × V)). e ∷ r) (rest there)

-- what is not there can't be removed
pub remove_absent : {K V : Type 0} (test : K → Bool) (es : List (K × V)) → lookup test es ≡ None → remove_entry test es ≡ es
remove_absent test [] h = refl
remove_absent {K} {V} test (e ∷ es) h = by (test e.0) h (remove_absent test es)
  where
    by : (b : Bool) → (if b then Some e.1 else lookup test es) ≡ None → (lookup test es ≡ None → remove_entry test es ≡ es) → (if b then es else e ∷ remove_entry test es) ≡ e ∷ es
    by true here rest = absurd (true≢false (ap is_some here))
    by false there rest = ap (λ (r : List (K × V)). e ∷ r) (rest there)

-- ---- watches

new_pair : (o : Option ℕ) (id : ℕ) (w : Watches) → watching_by o w ≡ Watching id → is_some o ≡ false
new_pair None id w h = refl
new_pair (Some known) id w h = cc

-- a new pair is inserted actors the last
pub watch_adds : (p : Pair) (id : ℕ) (w : Watches) (new : List (Pair × ℕ)) → watching p w ≡ Watching id → new ≡ insert_entry (pair_eq.ghosts).eq w.list p id → record { list = new; given = id } ≡ watched p w
watch_adds p id w new h is = rw (h, is, inserted_last same_pair p id w.list (new_pair (id_of p w) id w h)) refl

-- no more ids are at an address than are in the list
pub ids_few : (address : Address) (list : List (Pair × ℕ)) → length (ids_at address list) ≤ length list
ids_few address [] = omega arith
ids_few address (w ∷ ws) = by (watches_one_at address w) (ids_few address ws)
  where
    by : (b : Bool) → length (ids_at address ws) ≤ length ws → length (map (λ (watch : Pair × ℕ). watch.1) (if b then w ∷ filter (watches_one_at address) ws else filter (watches_one_at address) ws)) ≤ length (w ∷ ws)
    by true h = omega (arith, h)
    by false h = omega (arith, h)

-- ---- actors

new_actor : (known full : Bool) → (if known then Exists else if full then SpawnFull else Spawned) ≡ Spawned → known ≡ false
new_actor true full h = cc
new_actor false full h = refl

-- a new actor is inserted actors the last
pub spawn_is : (path : List ℕ) (old new : Actors) → spawning path old ≡ Spawned → new ≡ insert_entry same_text old path [] → new ≡ spawned path old
spawn_is path old new h is = rw (h, is) (inserted_last same_text path [] old (new_actor (is_some (watchers_of path old)) (nat_le most_actors (length old)) h))

count_last : (path : List ℕ) (actors : Actors) → remote_count (actors ++ (path, []) ∷ []) ≡ remote_count actors
count_last path [] = refl
count_last path (a ∷ actors) = ap (λ n. length a.1 + n) (count_last path actors)

-- and adds no remote watch
pub spawn_counts : (path : List ℕ) (old new : Actors) (n : ℕ) → n ≡ remote_count old → spawning path old ≡ Spawned → new ≡ insert_entry same_text old path [] → n ≡ remote_count new
spawn_counts path old new n c h is = c ∙ sym (ap remote_count is ∙ ap remote_count (inserted_last same_text path [] old (new_actor (is_some (watchers_of path old)) (nat_le most_actors (length old)) h)) ∙ count_last path old)

some_is : (x y : List RemoteWatcher) → Some x ≡ Some y → x ≡ y
some_is x y e = ap (λ (o : Option (List RemoteWatcher)). elim o [ None ↦ x | Some z ↦ z ]) e

module _ (test : List ℕ → Bool) where
  removed_count : (actors : Actors) (remotes : List RemoteWatcher) → lookup test actors ≡ Some remotes → remote_count (remove_entry test actors) + length remotes ≡ remote_count actors
  removed_count [] remotes h = absurd (true≢false (sym (ap is_some h)))
  removed_count (a ∷ actors) remotes h = by (test a.0) h (removed_count actors remotes)
    where
      by : (b : Bool) → (if b then Some a.1 else lookup test actors) ≡ Some remotes → (lookup test actors ≡ Some remotes → remote_count (remove_entry test actors) + length remotes ≡ remote_count actors)
          → remote_count (if b then actors else a ∷ remove_entry test actors) + length remotes ≡ length a.1 + remote_count actors
      by true here rest = omega (arith, ap (λ (r : List RemoteWatcher). length r) (some_is a.1 remotes here))
      by false there rest = omega (arith, rest there)

  set_count : (actors : Actors) (old new : List RemoteWatcher) → lookup test actors ≡ Some old → remote_count (set_value test actors new) + length old ≡ remote_count actors + length new
  set_count [] old new h = absurd (true≢false (sym (ap is_some h)))
  set_count (a ∷ actors) old new h = by (test a.0) h (set_count actors old new)
    where
      by : (b : Bool) → (if b then Some a.1 else lookup test actors) ≡ Some old → (lookup test actors ≡ Some old → remote_count (set_value test actors new) + length old ≡ remote_count actors + length new)
          → remote_count (if b then (a.0, new) ∷ actors else a ∷ set_value test actors new) + length old ≡ length a.1 + remote_count actors + length new
      by true here rest = omega (arith, ap (λ (r : List RemoteWatcher). length r) (some_is a.1 old here))
      by false there rest = omega (arith, rest there)

-- an actor that is gone takes its remote watches with it
pub stop_counts : (path : List ℕ) (actors : Actors) (remotes : List RemoteWatcher) → lookup (same_text path) actors ≡ Some remotes → remote_count (remove_entry (same_text path) actors) + length remotes ≡ remote_count actors
stop_counts path actors remotes h = removed_count (same_text path) actors remotes h

-- ---- remote watches

-- where one is added, there is room
room_at : (among full : Bool) → (if among then There else if full then RemoteFull else Added) ≡ Added → (among ≡ false) × (full ≡ false)
room_at true full h = absurd (cc)
room_at false true h = absurd (cc)
room_at false false h = (refl, refl)

added_by : (o : Option (List RemoteWatcher)) (remotes : List RemoteWatcher) (r : RemoteWatcher) (actors : Actors) → o ≡ Some remotes → remote_watching_by o r actors ≡ Added → (is_among r remotes ≡ false) × (nat_le most_remote (remote_count actors) ≡ false)
added_by o remotes r actors e h = room_at (is_among r remotes) (nat_le most_remote (remote_count actors)) (ap (λ o. remote_watching_by o r actors) (sym e) ∙ h)

pub added_room : (path : List ℕ) (r : RemoteWatcher) (actors : Actors) (remotes : List RemoteWatcher) → watchers_of path actors ≡ Some remotes → remote_watching path r actors ≡ Added → (is_among r remotes ≡ false) × (remote_count actors < most_remote)
added_room path r actors remotes e h =
    let room = added_by (watchers_of path actors) remotes r actors e h in
    (room.0, (let full = room.1 in grind (arith, nat_tests, full)))

pub added_at : (path : List ℕ) (r : RemoteWatcher) (actors : Actors) (remotes : List RemoteWatcher) → watchers_of path actors ≡ Some remotes → remote_watching path r actors ≡ Added → remote_watched path r actors ≡ set_value (same_text path) actors (remotes ++ r ∷ [])
added_at path r actors remotes e h = rw (h, e) refl

-- where one stands, it is removed, and else nothing changes
pub removed_at : (path : List ℕ) (r : RemoteWatcher) (actors : Actors) (remotes : List RemoteWatcher) → watchers_of path actors ≡ Some remotes → remote_unwatched path r actors ≡ set_value (same_text path) actors (remove_key (same_remote r) remotes)
removed_at path r actors remotes e = rw e refl

pub kept_absent : (test : RemoteWatcher → Bool) (remotes : List RemoteWatcher) → list_any test remotes ≡ false → remove_key test remotes ≡ remotes
kept_absent test [] h = refl
kept_absent test (r ∷ rs) h = by (test r) h (kept_absent test rs)
  where
    by : (b : Bool) → (b || list_any test rs) ≡ false → (list_any test rs ≡ false → remove_key test rs ≡ rs) → (if b then rs else r ∷ remove_key test rs) ≡ r ∷ rs
    by true here rest = absurd (true≢false here)
    by false there rest = ap (λ (xs : List RemoteWatcher). r ∷ xs) (rest there)

set_absent : {K V : Type 0} (test : K → Bool) (es : List (K × V)) (v : V) → lookup test es ≡ None → set_value test es v ≡ es
set_absent test [] v h = refl
set_absent {K} {V} test (e ∷ es) v h = by (test e.0) h (set_absent test es v)
  where
    by : (b : Bool) → (if b then Some e.1 else lookup test es) ≡ None → (lookup test es ≡ None → set_value test es v ≡ es) → (if b then (e.0, v) ∷ es else e ∷ set_value test es v) ≡ e ∷ es
    by true here rest = absurd (true≢false (ap is_some here))
    by false there rest = ap (λ (r : List (K × V)). e ∷ r) (rest there)

pub unwatched_nowhere : (path : List ℕ) (r : RemoteWatcher) (actors : Actors) → watchers_of path actors ≡ None → remote_unwatched path r actors ≡ actors
unwatched_nowhere path r actors h = set_absent (same_text path) actors (remove_key (same_remote r) (watchers_at path actors)) h

-- ---- the count

added_count : (o : Option (List RemoteWatcher)) (path : List ℕ) (r : RemoteWatcher) (actors : Actors) → watchers_of path actors ≡ o → remote_watching_by o r actors ≡ Added → remote_count (set_value (same_text path) actors (unwrap_or o [] ++ r ∷ [])) ≡ remote_count actors + 1
added_count None path r actors is h = cc
added_count (Some remotes) path r actors is h = omega (arith, set_count (same_text path) actors remotes (remotes ++ r ∷ []) is, length-append remotes (r ∷ []))

-- one more where one is added
pub added_counts : (path : List ℕ) (r : RemoteWatcher) (actors new : Actors) (n : ℕ) → n ≡ remote_count actors → remote_watching path r actors ≡ Added → new ≡ remote_watched path r actors → n + 1 ≡ remote_count new
added_counts path r actors new n c h is =
    let after : remote_watched path r actors ≡ set_value (same_text path) actors (watchers_at path actors ++ r ∷ []) = ap (λ answer. remote_watched_by answer path r actors) h in
    let more : remote_count (set_value (same_text path) actors (watchers_at path actors ++ r ∷ [])) ≡ remote_count actors + 1 = added_count (watchers_of path actors) path r actors refl h in
    ap (λ m. m + 1) c ∙ sym (ap remote_count is ∙ ap remote_count after ∙ more)

pub added_few : (path : List ℕ) (r : RemoteWatcher) (actors : Actors) (n : ℕ) → n ≡ remote_count actors → remote_watching path r actors ≡ Added → n < 262144
added_few path r actors n c h = by (watchers_of path actors) h
  where
    by : (o : Option (List RemoteWatcher)) → remote_watching_by o r actors ≡ Added → n < 262144
    by None h = absurd (cc)
    by (Some remotes) h = let full = (room_at (is_among r remotes) (nat_le most_remote (remote_count actors)) h).1 in grind (arith, nat_tests, full, c)

dropped_count : (o : Option (List RemoteWatcher)) (path : List ℕ) (r : RemoteWatcher) (actors : Actors) → watchers_of path actors ≡ o → is_among r (unwrap_or o []) ≡ true → remote_count (set_value (same_text path) actors (remove_key (same_remote r) (unwrap_or o []))) + 1 ≡ remote_count actors
dropped_count None path r actors is h = absurd (true≢false (sym h))
dropped_count (Some remotes) path r actors is h = omega (arith, set_count (same_text path) actors remotes (remove_key (same_remote r) remotes) is, length-remove_key (same_remote r) remotes h)

-- one less where one is removed
pub dropped_counts : (path : List ℕ) (r : RemoteWatcher) (actors new : Actors) (n : ℕ) → n ≡ remote_count actors → remote_unwatching path r actors ≡ true → new ≡ remote_unwatched path r actors → n - 1 ≡ remote_count new
dropped_counts path r actors new n c h is = omega (arith, c, ap remote_count is, dropped_count (watchers_of path actors) path r actors refl h)

pub dropped_room : (path : List ℕ) (r : RemoteWatcher) (actors : Actors) (n : ℕ) → n ≡ remote_count actors → remote_unwatching path r actors ≡ true → 1 ≤ n
dropped_room path r actors n c h = omega (arith, c, dropped_count (watchers_of path actors) path r actors refl h)

-- where it does not stand, nothing changes
unwatched_by : (o : Option (List RemoteWatcher)) (path : List ℕ) (r : RemoteWatcher) (actors : Actors) → watchers_of path actors ≡ o → is_among r (unwrap_or o []) ≡ false → set_value (same_text path) actors (remove_key (same_remote r) (unwrap_or o [])) ≡ actors
unwatched_by None path r actors is h = set_absent (same_text path) actors [] is
unwatched_by (Some remotes) path r actors is h = ap (set_value (same_text path) actors) (kept_absent (same_remote r) remotes h) ∙ set_value_same (same_text path) actors remotes is

pub unwatched_nothing : (path : List ℕ) (r : RemoteWatcher) (actors : Actors) → remote_unwatching path r actors ≡ false → remote_unwatched path r actors ≡ actors
unwatched_nothing path r actors h = unwatched_by (watchers_of path actors) path r actors refl h
