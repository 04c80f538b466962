-- What a watcher knows, and what each call makes of it.
use Rattle.std.specs.Prelude.{ℕ, ◌+◌, ◌-◌, ◌^◌, Bool, not, ◌||◌, nat_le, List, [], ◌∷◌, ◌++◌, length, map, filter, Option, Some, None, is_some, unwrap_or, if◌then◌else◌}
use Rattle.std.specs.List.{list_any}
use Rattle.std.specs.Map.{lookup, set_value, remove_entry}
use Rattle.std.specs.Set.{remove_key}
use Rattle.artery_base.specs.declared.address.Address.{Address}
use Rattle.artery_base.specs.declared.address.UniqueAddress.{UniqueAddress}
use Rattle.artery_watch.specs.Keys.{same_text, same_origin, same_pair, same_remote}
use Rattle.artery_watch.specs.Place.{is_at}
use Rattle.artery_watch.specs.declared.pair.Pair.{Pair}
use Rattle.artery_watch.specs.declared.remote.RemoteWatcher.{RemoteWatcher}
use Rattle.artery_watch.specs.declared.answers.Watch.{Watch}
use Rattle.artery_watch.specs.declared.answers.Watch.TheVariants.{Watching, Already, Full as WatchFull}
use Rattle.artery_watch.specs.declared.answers.Unwatch.{Unwatch}
use Rattle.artery_watch.specs.declared.answers.Unwatch.TheVariants.{Unwatched, NotWatched}
use Rattle.artery_watch.specs.declared.answers.Spawn.{Spawn}
use Rattle.artery_watch.specs.declared.answers.Spawn.TheVariants.{Spawned, Exists, Full as SpawnFull}
use Rattle.artery_watch.specs.declared.answers.Stop.{Stop}
use Rattle.artery_watch.specs.declared.answers.Stop.TheVariants.{Stopped, NotThere as NoSuchActor}
use Rattle.artery_watch.specs.declared.answers.RemoteWatch.{RemoteWatch}
use Rattle.artery_watch.specs.declared.answers.RemoteWatch.TheVariants.{Added, There, NotThere, Full as RemoteFull}

-- The watched pairs with their ids, in the order in which they were given, and the number of ids given.
pub record Watches : Type 0 where
  pub list : List (Pair × ℕ)
  pub given : ℕ

-- The actors in the order spawned, each with its remote watches in the order added.
abbrev pub Actors : Type 0
Actors = List (List ℕ × List RemoteWatcher)

-- All that a watcher knows.
pub record Kept : Type 0 where
  pub watches : Watches
  pub actors : Actors

-- Nothing is watched, no id was given.
abbrev pub no_watches : Watches
no_watches = record { list = []; given = 0 }

-- A new watcher knows nothing.
abbrev pub nothing_kept : Kept
nothing_kept = record { watches = no_watches; actors = [] }

-- At most so many pairs are watched.
abbrev pub most_watches : ℕ
most_watches = 4096

-- At most so many actors are there.
abbrev pub most_actors : ℕ
most_actors = 4096

-- At most so many remote watches stand.
abbrev pub most_remote : ℕ
most_remote = 262144

-- The last id below 2^64.
abbrev pub last_id : ℕ
last_id = 2 ^ 64 - 1

-- ---- watches

-- The id of a pair, if it is watched.
abbrev pub id_of : Pair → Watches → Option ℕ
id_of p w = lookup (same_pair p) w.list

-- No further pair is watched beside 4,096 others, nor with no id left.
abbrev pub is_full : Watches → Bool
is_full w = nat_le most_watches (length w.list) || nat_le last_id w.given

-- A watched pair keeps its id; a new one gets the next id, unless it is full.
abbrev pub watching_by : Option ℕ → Watches → Watch
watching_by (Some id) w = Already id
watching_by None w = if is_full w then WatchFull else Watching (w.given + 1)

-- What watching a pair answers.
abbrev pub watching : Pair → Watches → Watch
watching p w = watching_by (id_of p w) w

-- The watches after an answer: a new one is the last; else nothing changes.
abbrev pub watched_by : Watch → Pair → Watches → Watches
watched_by (Watching id) p w = record { list = w.list ++ (p, id) ∷ []; given = id }
watched_by (Already id) p w = w
watched_by WatchFull p w = w

-- The watches after a pair is to be watched.
abbrev pub watched : Pair → Watches → Watches
watched p w = watched_by (watching p w) p w

-- The watches but that of this pair. Where it is not watched, nothing changes.
abbrev pub unwatched : Pair → Watches → Watches
unwatched p w = record w { list = remove_entry (same_pair p) w.list }

-- What the end of a watch answers.
abbrev pub unwatching_by : Option ℕ → Unwatch
unwatching_by (Some id) = Unwatched id
unwatching_by None = NotWatched

-- What unwatching a pair answers.
abbrev pub unwatching : Pair → Watches → Unwatch
unwatching p w = unwatching_by (id_of p w)

-- Whether what is watched is at the address.
abbrev pub watches_one_at : Address → Pair × ℕ → Bool
watches_one_at address watch = is_at address watch.0.watchee

-- The ids of all watches of those at the address, in the order given.
abbrev pub ids_at : Address → List (Pair × ℕ) → List ℕ
ids_at address list = map (λ watch. watch.1) (filter (watches_one_at address) list)

-- The watches of those that are elsewhere.
abbrev pub closed : Address → Watches → Watches
closed address w = record w { list = filter (λ watch. not (watches_one_at address watch)) w.list }

-- ---- actors and remote watches

-- The remote watches of an actor, if it is there.
abbrev pub watchers_of : List ℕ → Actors → Option (List RemoteWatcher)
watchers_of path actors = lookup (same_text path) actors

-- An actor that is there stays; a new one is refused beside 4,096 others, and else spawned.
abbrev pub spawning : List ℕ → Actors → Spawn
spawning path actors =
    if is_some (watchers_of path actors) then Exists
    else if nat_le most_actors (length actors) then SpawnFull else Spawned

-- The actors after an answer: a new one is the last, and nobody elsewhere watches it; else nothing changes.
abbrev pub spawned_by : Spawn → List ℕ → Actors → Actors
spawned_by Spawned path actors = actors ++ (path, []) ∷ []
spawned_by Exists path actors = actors
spawned_by SpawnFull path actors = actors

-- The actors after one is to be spawned.
abbrev pub spawned : List ℕ → Actors → Actors
spawned path actors = spawned_by (spawning path actors) path actors

-- The watchers of an actor that is there, one for each remote watch.
abbrev pub stopping_by : Option (List RemoteWatcher) → Stop
stopping_by (Some remotes) = Stopped (map (λ remote. remote.watcher) remotes)
stopping_by None = NoSuchActor

-- What stopping an actor answers.
abbrev pub stopping : List ℕ → Actors → Stop
stopping path actors = stopping_by (watchers_of path actors)

-- The actors but this one. Where it is not there, nothing changes.
abbrev pub stopped : List ℕ → Actors → Actors
stopped path actors = remove_entry (same_text path) actors

-- How many remote watches stand.
abbrev pub remote_count : Actors → ℕ
remote_count [] = 0
remote_count (actor ∷ actors) = length actor.1 + remote_count actors

-- Whether this remote watch is among those of an actor.
abbrev pub is_among : RemoteWatcher → List RemoteWatcher → Bool
is_among remote remotes = list_any (same_remote remote) remotes

-- A remote watch needs its actor; one that stands stays; a new one is refused beside 262,144 others, and else added.
abbrev pub remote_watching_by : Option (List RemoteWatcher) → RemoteWatcher → Actors → RemoteWatch
remote_watching_by None remote actors = NotThere
remote_watching_by (Some remotes) remote actors =
    if is_among remote remotes then There
    else if nat_le most_remote (remote_count actors) then RemoteFull else Added

-- What a remote watch of the actor with this path answers.
abbrev pub remote_watching : List ℕ → RemoteWatcher → Actors → RemoteWatch
remote_watching path remote actors = remote_watching_by (watchers_of path actors) remote actors

-- The actors with these remote watches of the one with this path. Where it is not there, nothing changes.
abbrev pub with_watchers : List ℕ → List RemoteWatcher → Actors → Actors
with_watchers path remotes actors = set_value (same_text path) actors remotes

-- The remote watches of an actor. One that is not there has none.
abbrev pub watchers_at : List ℕ → Actors → List RemoteWatcher
watchers_at path actors = unwrap_or (watchers_of path actors) []

-- The actors after an answer: a remote watch that is added is the last of its actor's; else nothing changes.
abbrev pub remote_watched_by : RemoteWatch → List ℕ → RemoteWatcher → Actors → Actors
remote_watched_by Added path remote actors = with_watchers path (watchers_at path actors ++ remote ∷ []) actors
remote_watched_by There path remote actors = actors
remote_watched_by NotThere path remote actors = actors
remote_watched_by RemoteFull path remote actors = actors

-- The actors after a remote watch.
abbrev pub remote_watched : List ℕ → RemoteWatcher → Actors → Actors
remote_watched path remote actors = remote_watched_by (remote_watching path remote actors) path remote actors

-- Whether this remote watch of the actor with this path stands.
abbrev pub remote_unwatching : List ℕ → RemoteWatcher → Actors → Bool
remote_unwatching path remote actors = is_among remote (watchers_at path actors)

-- The actors without this remote watch of the one with this path. Where it does not stand, nothing changes.
abbrev pub remote_unwatched : List ℕ → RemoteWatcher → Actors → Actors
remote_unwatched path remote actors = with_watchers path (remove_key (same_remote remote) (watchers_at path actors)) actors

-- The remote watches that came from other origins.
abbrev pub not_from : UniqueAddress → List RemoteWatcher → List RemoteWatcher
not_from origin remotes = filter (λ remote. not (same_origin origin remote.origin)) remotes

-- The actors with no remote watch from this origin.
abbrev pub forgotten : UniqueAddress → Actors → Actors
forgotten origin actors = map (λ actor. (actor.0, not_from origin actor.1)) actors

-- ---- all that a watcher knows, after each call

-- After a pair is to be watched.
abbrev pub kept_watched : Pair → Kept → Kept
kept_watched p k = record k { watches = watched p k.watches }

-- After the watch of a pair is to end.
abbrev pub kept_unwatched : Pair → Kept → Kept
kept_unwatched p k = record k { watches = unwatched p k.watches }

-- After an address is closed.
abbrev pub kept_closed : Address → Kept → Kept
kept_closed address k = record k { watches = closed address k.watches }

-- After an actor is to be spawned.
abbrev pub kept_spawned : List ℕ → Kept → Kept
kept_spawned path k = record k { actors = spawned path k.actors }

-- After an actor is to be stopped.
abbrev pub kept_stopped : List ℕ → Kept → Kept
kept_stopped path k = record k { actors = stopped path k.actors }

-- After a remote watch is to be added.
abbrev pub kept_remote_watched : List ℕ → RemoteWatcher → Kept → Kept
kept_remote_watched path remote k = record k { actors = remote_watched path remote k.actors }

-- After a remote watch is to be removed.
abbrev pub kept_remote_unwatched : List ℕ → RemoteWatcher → Kept → Kept
kept_remote_unwatched path remote k = record k { actors = remote_unwatched path remote k.actors }

-- After an origin is forgotten.
abbrev pub kept_forgotten : UniqueAddress → Kept → Kept
kept_forgotten origin k = record k { actors = forgotten origin k.actors }
