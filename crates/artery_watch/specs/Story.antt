-- The story of the ids of a watcher, over any list of calls.
use Rattle.std.specs.Prelude.{◌≡◌, ℕ, ◌+◌, ◌<◌, ◌&&◌, ◌==◌, nat_lt, nat_le, List, [], ◌∷◌, ◌++◌, map, Option, Some, None, if◌then◌else◌}
use Rattle.artery_base.specs.declared.address.Address.{Address}
use Rattle.artery_base.specs.declared.address.UniqueAddress.{UniqueAddress}
use Rattle.artery_watch.specs.declared.pair.Pair.{Pair}
use Rattle.artery_watch.specs.declared.remote.RemoteWatcher.{RemoteWatcher}
use Rattle.artery_watch.specs.declared.answers.Watch.{Watch}
use Rattle.artery_watch.specs.declared.answers.Watch.TheVariants.{Watching, Already, Full}
use Rattle.artery_watch.specs.Watcher.{Kept, nothing_kept, id_of, ids_at, watching, kept_watched, kept_unwatched, kept_closed, kept_spawned, kept_stopped, kept_remote_watched, kept_remote_unwatched, kept_forgotten}

-- A call that changes a watcher.
pub data Call : Type 0 where
  watches : Pair → Call
  unwatches : Pair → Call
  hears_of_end : Pair → Call
  closes : Address → Call
  spawns : List ℕ → Call
  stops : List ℕ → Call
  watches_from_elsewhere : List ℕ → RemoteWatcher → Call
  unwatches_from_elsewhere : List ℕ → RemoteWatcher → Call
  forgets : UniqueAddress → Call

-- What a watcher knows after a call.
abbrev pub called : Call → Kept → Kept
called (watches p) k = kept_watched p k
called (unwatches p) k = kept_unwatched p k
called (hears_of_end p) k = kept_unwatched p k
called (closes address) k = kept_closed address k
called (spawns path) k = kept_spawned path k
called (stops path) k = kept_stopped path k
called (watches_from_elsewhere path remote) k = kept_remote_watched path remote k
called (unwatches_from_elsewhere path remote) k = kept_remote_unwatched path remote k
called (forgets origin) k = kept_forgotten origin k

-- What a watcher knows after a list of calls, the first of them first.
abbrev pub after : List Call → Kept → Kept
after [] k = k
after (call ∷ calls) k = after calls (called call k)

-- An answer tells that an id is given, or that it ends.
pub data Told : Type 0 where
  gives : ℕ → Told
  ends : ℕ → Told

-- An answer to `watch` gives an id where the pair is watched from then on.
abbrev pub given_by : Watch → List Told
given_by (Watching id) = gives id ∷ []
given_by (Already id) = []
given_by Full = []

-- An id that is found ends.
abbrev pub ended_by : Option ℕ → List Told
ended_by None = []
ended_by (Some id) = ends id ∷ []

-- What the answer of a call tells of ids: `watch` gives one; `unwatch`, a notice and a closed address end some.
abbrev pub told_by : Call → Kept → List Told
told_by (watches p) k = given_by (watching p k.watches)
told_by (unwatches p) k = ended_by (id_of p k.watches)
told_by (hears_of_end p) k = ended_by (id_of p k.watches)
told_by (closes address) k = map ends (ids_at address k.watches.list)
told_by (spawns path) k = []
told_by (stops path) k = []
told_by (watches_from_elsewhere path remote) k = []
told_by (unwatches_from_elsewhere path remote) k = []
told_by (forgets origin) k = []

-- All that the answers of a list of calls tell of ids, in order.
abbrev pub told_from : List Call → Kept → List Told
told_from [] k = []
told_from (call ∷ calls) k = told_by call k ++ told_from calls (called call k)

-- The story of a watcher: it begins with nothing.
abbrev pub story : List Call → List Told
story calls = told_from calls nothing_kept

-- How often an id is given.
abbrev pub times_given : ℕ → List Told → ℕ
times_given id [] = 0
times_given id (gives other ∷ told) = (if other == id then 1 else 0) + times_given id told
times_given id (ends other ∷ told) = times_given id told

-- How often an id ends.
abbrev pub times_ended : ℕ → List Told → ℕ
times_ended id [] = 0
times_ended id (gives other ∷ told) = times_ended id told
times_ended id (ends other ∷ told) = (if other == id then 1 else 0) + times_ended id told

-- How often a number stands in a list.
abbrev pub times_in : ℕ → List ℕ → ℕ
times_in id [] = 0
times_in id (other ∷ ids) = (if other == id then 1 else 0) + times_in id ids

-- The law on ids, after these have been told: an id is given that was not given before; an id ends that was given before and has not ended.
abbrev pub IsLawfulAfter : List Told → List Told → Type 0
IsLawfulAfter before [] = Unit {0}
IsLawfulAfter before (gives id ∷ told) = (times_given id before ≡ 0) × IsLawfulAfter (before ++ gives id ∷ []) told
IsLawfulAfter before (ends id ∷ told) = (times_given id before ≡ 1) × (times_ended id before ≡ 0) × IsLawfulAfter (before ++ ends id ∷ []) told

-- The law on ids: each is given once, ends at most once, and not before it was given.
abbrev pub IsLawful : List Told → Type 0
IsLawful told = IsLawfulAfter [] told

-- The numbers rise, and all are above a number.
abbrev pub IsAscendingAbove : ℕ → List ℕ → Type 0
IsAscendingAbove low [] = Unit {0}
IsAscendingAbove low (id ∷ ids) = (low < id) × IsAscendingAbove id ids

-- The ids of all watches.
abbrev pub ids_of : Kept → List ℕ
ids_of k = map (λ watch. watch.1) k.watches.list

-- One where this id is among the first so many, which are the numbers from 1 on, else none.
abbrev pub once_up_to : ℕ → ℕ → ℕ
once_up_to id n = if nat_lt 0 id && nat_le id n then 1 else 0
