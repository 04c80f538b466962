-- The rules of watches.
use Rattle.std.proofs.Common.{◌≡◌, ℕ, ◌+◌, ◌<◌, ◌≤◌, Bool, true, false, cond, List, [], ◌∷◌, ◌++◌, length, map, refl, sym, ap, subst, arith}
use Rattle.std.specs.Prelude.{Option, None, Some, not, is_some, nat_le, unwrap_or}
use Rattle.std.specs.Map.{lookup, set_value, remove_entry}
use Rattle.std.specs.Set.{remove_key}
use Rattle.artery_base.specs.declared.address.Address.{Address}
use Rattle.artery_base.specs.declared.address.UniqueAddress.{UniqueAddress}
use Rattle.artery_base.specs.declared.message.SysMsg.{SysMsg}
use Rattle.artery_base.specs.Valid.{IsAddress, IsUniqueAddress}
use Rattle.artery_text.specs.Spelling.{address_text}
use Rattle.artery_journal.specs.declared.line.Line.TheVariants as lines
use Rattle.artery_journal.specs.declared.words.Reason.TheVariants as reasons
use Rattle.artery_watch.specs.declared.notice.Notice.{Notice}
use Rattle.artery_watch.specs.declared.pair.Pair.{Pair}
use Rattle.artery_watch.specs.declared.remote.RemoteWatcher.{RemoteWatcher}
use Rattle.artery_watch.specs.declared.answers.Watch.{Watch}
use Rattle.artery_watch.specs.declared.answers.Watch.TheVariants.{Watching as WatchAs, Already, Full as WatchesFull}
use Rattle.artery_watch.specs.declared.answers.Unwatch.{Unwatch}
use Rattle.artery_watch.specs.declared.answers.Unwatch.TheVariants.{Unwatched, NotWatched}
use Rattle.artery_watch.specs.declared.answers.RemoteWatch.{RemoteWatch}
use Rattle.artery_watch.specs.declared.answers.RemoteWatch.TheVariants.{Added, There, NotThere, Full as RemoteFull}
use Rattle.artery_watch.specs.declared.answers.Spawn.{Spawn}
use Rattle.artery_watch.specs.declared.answers.Spawn.TheVariants.{Spawned, Exists, Full as ActorsFull}
use Rattle.artery_watch.specs.declared.answers.Stop.{Stop}
use Rattle.artery_watch.specs.declared.answers.Stop.TheVariants.{Stopped, NotThere as NoSuchActor}
use Rattle.artery_watch.specs.Keys.{same_text, same_remote, pair_of, remote_of}
use Rattle.artery_watch.specs.Place.{is_at, after}
use Rattle.artery_watch.specs.Watcher.{Kept as Watching, Actors, watchers_of, watchers_at, spawned_by, spawning, stopping, stopping_by, stopped, remote_watched_by, remote_watching, remote_unwatched, watching, unwatching, kept_watched, kept_unwatched, kept_spawned, kept_stopped, kept_remote_watched, kept_remote_unwatched}
use Rattle.artery_machine.specs.Lists.{or_else}
use Rattle.artery_machine.specs.Parts.{whole}
use Rattle.artery_machine.specs.Node.{peer_at, current_of}
use Rattle.artery_machine.specs.Doing.{Rule, listed, stays, where_true, tells_of, peer_becomes, each}
use Rattle.artery_machine.specs.Closing.{without_detector}
use Rattle.artery_machine.specs.Watching.{reference, Told, Begins, Ends, HasEnded, Nothing, told_of, watches_at, would_overflow, notice, watch_kind, unwatch_kind, ended_kind, address_in, after_last_watch, begins_watch, watches_as, watches_pair, ends_watch, unwatches_as, unwatches_pair, at_reference, watches, unwatches, spawns_as, spawns, sends_to_reference, tells_ended, kills_as, kills, is_watched_as, is_watched, is_unwatched, at_own, terminates_as, terminates, acts_as, acts}
use Rattle.artery_flight.proofs.Lists.{on_cond, Each, each_push}
use Rattle.artery_written.proofs.Facts.{MessageFacts, WatcherFacts, ActorFacts, WorkFacts}
use Rattle.artery_written.proofs.Naming.{reference_good, reference_short, ended_good, short_good, ToldFacts, told_facts}
use Rattle.artery_written.proofs.Rules.{Keeps, ◌▹◌, stays_keep, tells_keep, if_keeps, where_keeps, each_keeps, at_request_keeps}
use Rattle.artery_written.proofs.Sending.{watches_keep, detector_keeps, sends_keep}

-- ---- actors and their watchers

watchers_facts : (path : List ℕ) (actors : Actors) → Each ActorFacts actors → Each WatcherFacts (watchers_at path actors)
watchers_facts path [] h = tt
watchers_facts path (a ∷ actors) h = on_cond (λ (x : Option (List RemoteWatcher)). Each WatcherFacts (unwrap_or x [])) (same_text path a.0) (Some a.1) (watchers_of path actors) (λ b. h.0) (λ b. watchers_facts path actors h.1)

set_facts : (path : List ℕ) (actors : Actors) (remotes : List RemoteWatcher) → Each ActorFacts actors → Each WatcherFacts remotes → Each ActorFacts (set_value (same_text path) actors remotes)
set_facts path [] remotes h k = tt
set_facts path (a ∷ actors) remotes h k = on_cond (Each ActorFacts) (same_text path a.0) ((a.0, remotes) ∷ actors) (a ∷ set_value (same_text path) actors remotes) (λ b. (k, h.1)) (λ b. (h.0, set_facts path actors remotes h.1 k))

removed_facts : (path : List ℕ) (actors : Actors) → Each ActorFacts actors → Each ActorFacts (stopped path actors)
removed_facts path [] h = tt
removed_facts path (a ∷ actors) h = on_cond (Each ActorFacts) (same_text path a.0) actors (a ∷ stopped path actors) (λ b. h.1) (λ b. (h.0, removed_facts path actors h.1))

less_facts : (remote : RemoteWatcher) (remotes : List RemoteWatcher) → Each WatcherFacts remotes → Each WatcherFacts (remove_key (same_remote remote) remotes)
less_facts remote [] h = tt
less_facts remote (r ∷ rs) h = on_cond (Each WatcherFacts) (same_remote remote r) rs (r ∷ remove_key (same_remote remote) rs) (λ b. h.1) (λ b. (h.0, less_facts remote rs h.1))

spawned_facts : (x : Spawn) (path : List ℕ) (actors : Actors) → Each ActorFacts actors → Each ActorFacts (spawned_by x path actors)
spawned_facts Spawned path actors h = each_push ActorFacts actors (path, []) h tt
spawned_facts Exists path actors h = h
spawned_facts ActorsFull path actors h = h

added_facts : (x : RemoteWatch) (path : List ℕ) (remote : RemoteWatcher) (actors : Actors) → WatcherFacts remote → Each ActorFacts actors → Each ActorFacts (remote_watched_by x path remote actors)
added_facts Added path remote actors k h = set_facts path actors (watchers_at path actors ++ remote ∷ []) h (each_push WatcherFacts (watchers_at path actors) remote (watchers_facts path actors h) k)
added_facts There path remote actors k h = h
added_facts NotThere path remote actors k h = h
added_facts RemoteFull path remote actors k h = h

-- what stopping an actor answers
abbrev NameShort : List ℕ → Type 0
NameShort watcher = length watcher ≤ 131072

abbrev StopFacts : Stop → Type 0
StopFacts (Stopped watchers) = Each NameShort watchers
StopFacts NoSuchActor = Unit {0}

names_short : (remotes : List RemoteWatcher) → Each WatcherFacts remotes → Each NameShort (map (λ remote. remote.watcher) remotes)
names_short [] h = tt
names_short (r ∷ rs) h = (h.0, names_short rs h.1)

stop_facts : (path : List ℕ) (actors : Actors) → Each ActorFacts actors → StopFacts (stopping path actors)
stop_facts path [] h = tt
stop_facts path (a ∷ actors) h = on_cond (λ (x : Option (List RemoteWatcher)). StopFacts (stopping_by x)) (same_text path a.0) (Some a.1) (watchers_of path actors) (λ b. names_short a.1 h.0) (λ b. stop_facts path actors h.1)

-- ---- watching

-- a pair of references that are short
record PairShort (p : Pair) : Type 0 where
  watcher : length p.watcher ≤ 2048
  watchee : length p.watchee ≤ 4096

last_watch_keeps : (a : Address) → Keeps (after_last_watch a)
last_watch_keeps a = record { on = λ d f. (where_keeps (not (watches_at a d.node)) (peer_becomes a without_detector) (detector_keeps a)).on d f }

pair_good : (kind : List ℕ) (p : Pair) → length kind ≤ 4096 → PairShort p → MessageFacts (notice kind p.watchee p.watcher)
pair_good kind p k h = (let a : length p.watcher ≤ 2048 = h.watcher in let b : length p.watchee ≤ 4096 = h.watchee in short_good kind p.watchee p.watcher k (omega arith))

begins_watch_keeps : (a : Address) (p : Pair) (id : ℕ) → IsAddress a → PairShort p → Keeps (begins_watch a p id)
begins_watch_keeps a p id h k = watches_keep (kept_watched p) (λ w q. q) ▹ tells_keep (λ me. lines.Watched me id p.watcher p.watchee) ▹ sends_keep a (notice watch_kind p.watchee p.watcher) h (pair_good watch_kind p (omega arith) k)

watches_as_keeps : (a : Address) (p : Pair) (x : Watch) → IsAddress a → PairShort p → Keeps (watches_as a p x)
watches_as_keeps a p (Already id) h k = record { on = λ d f. (tells_keep (λ me. lines.Refused me reasons.Watching)).on d f }
watches_as_keeps a p WatchesFull h k = record { on = λ d f. (tells_keep (λ me. lines.Refused me reasons.Watches)).on d f }
watches_as_keeps a p (WatchAs id) h k = record {
  on = λ d f. (if_keeps (would_overflow (whole.acceptance (notice watch_kind p.watchee p.watcher) (peer_at a d.node).out) (current_of (peer_at a d.node))) (tells_of (λ me. lines.Refused me reasons.Waiting)) (begins_watch a p id)
      (tells_keep (λ me. lines.Refused me reasons.Waiting)) (begins_watch_keeps a p id h k)).on d f;
}

watches_pair_keeps : (a : Address) (p : Pair) → IsAddress a → PairShort p → Keeps (watches_pair a p)
watches_pair_keeps a p h k = record { on = λ d f. (watches_as_keeps a p (watching p d.node.watching.watches) h k).on d f }

ends_watch_keeps : (a : Address) (p : Pair) (id : ℕ) → IsAddress a → PairShort p → Keeps (ends_watch a p id)
ends_watch_keeps a p id h k = watches_keep (kept_unwatched p) (λ w q. q) ▹ tells_keep (λ me. lines.Unwatched me id) ▹ sends_keep a (notice unwatch_kind p.watchee p.watcher) h (pair_good unwatch_kind p (omega arith) k) ▹ last_watch_keeps a

unwatches_as_keeps : (a : Address) (p : Pair) (x : Unwatch) → IsAddress a → PairShort p → Keeps (unwatches_as a p x)
unwatches_as_keeps a p NotWatched h k = tells_keep (λ me. lines.Refused me reasons.NotWatched)
unwatches_as_keeps a p (Unwatched id) h k = ends_watch_keeps a p id h k

unwatches_pair_keeps : (a : Address) (p : Pair) → IsAddress a → PairShort p → Keeps (unwatches_pair a p)
unwatches_pair_keeps a p h k = record { on = λ d f. (unwatches_as_keeps a p (unwatching p d.node.watching.watches) h k).on d f }

at_reference_keeps : (text : List ℕ) (x : Option Address) (r : Address → Rule whole listed) → address_in text ≡ x → ((a : Address) → IsAddress a → Keeps (r a)) → Keeps (at_reference x r)
at_reference_keeps text None r e k = stays_keep
at_reference_keeps text (Some a) r e k = (let h : IsAddress a = reference_good text a e in at_request_keeps a (r a) h (k a h))

own_pair : (own : Address) (path watchee : List ℕ) → IsAddress own → length path ≤ 1024 → length watchee ≤ 4096 → PairShort (pair_of (reference own path) watchee)
own_pair own path watchee h k l = record { watcher = reference_short own path h k; watchee = l }

pub watches_keeps : (path watchee : List ℕ) → length path ≤ 1024 → length watchee ≤ 4096 → Keeps (watches path watchee)
watches_keeps path watchee k l = record {
  on = λ d f. (at_reference_keeps watchee (address_in watchee) (λ a. watches_pair a (pair_of (reference d.node.me.address path) watchee)) refl
      (λ a h. watches_pair_keeps a (pair_of (reference d.node.me.address path) watchee) h (own_pair d.node.me.address path watchee f.node.me.address k l))).on d f;
}

pub unwatches_keeps : (path watchee : List ℕ) → length path ≤ 1024 → length watchee ≤ 4096 → Keeps (unwatches path watchee)
unwatches_keeps path watchee k l = record {
  on = λ d f. (at_reference_keeps watchee (address_in watchee) (λ a. unwatches_pair a (pair_of (reference d.node.me.address path) watchee)) refl
      (λ a h. unwatches_pair_keeps a (pair_of (reference d.node.me.address path) watchee) h (own_pair d.node.me.address path watchee f.node.me.address k l))).on d f;
}

-- ---- actors

spawns_as_keeps : (path : List ℕ) (x : Spawn) → Keeps (spawns_as path x)
spawns_as_keeps path Spawned = watches_keep (kept_spawned path) (λ w q. spawned_facts (spawning path w.actors) path w.actors q) ▹ tells_keep (λ me. lines.Spawned me path)
spawns_as_keeps path Exists = tells_keep (λ me. lines.Refused me reasons.Exists)
spawns_as_keeps path ActorsFull = tells_keep (λ me. lines.Refused me reasons.Actors)

pub spawns_keep : (path : List ℕ) → Keeps (spawns path)
spawns_keep path = record { on = λ d f. (spawns_as_keeps path (spawning path d.node.watching.actors)).on d f }

to_reference_keeps : (text : List ℕ) (x : Option Address) (m : SysMsg) → address_in text ≡ x → MessageFacts m → Keeps (sends_to_reference x m)
to_reference_keeps text None m e k = stays_keep
to_reference_keeps text (Some a) m e k = sends_keep a m (reference_good text a e) k

tells_ended_keeps : (path watcher : List ℕ) → length path ≤ 1024 → NameShort watcher → Keeps (tells_ended path watcher)
tells_ended_keeps path watcher k l = record {
  on = λ d f. (to_reference_keeps watcher (address_in watcher) (notice ended_kind (reference d.node.me.address path) watcher) refl
      (ended_good (reference d.node.me.address path) watcher (let e : length (reference d.node.me.address path) ≤ 2048 = reference_short d.node.me.address path f.node.me.address k in omega arith))).on d f;
}

kills_as_keeps : (path : List ℕ) (x : Stop) → length path ≤ 1024 → StopFacts x → Keeps (kills_as path x)
kills_as_keeps path NoSuchActor k h = tells_keep (λ me. lines.Refused me reasons.NotThere)
kills_as_keeps path (Stopped watchers) k h =
    watches_keep (kept_stopped path) (λ w q. removed_facts path w.actors q) ▹ tells_keep (λ me. lines.Ended me path) ▹ each_keeps NameShort watchers (tells_ended path) h (λ w l. tells_ended_keeps path w k l)

pub kills_keep : (path : List ℕ) → length path ≤ 1024 → Keeps (kills path)
kills_keep path k = record { on = λ d f. (kills_as_keeps path (stopping path d.node.watching.actors) k (stop_facts path d.node.watching.actors f.node.actors)).on d f }

-- ---- notices that came

watched_as_keeps : (v : UniqueAddress) (n : Notice) (path : List ℕ) (x : RemoteWatch) → IsUniqueAddress v → length n.actor + length n.watcher ≤ 131068 → Keeps (is_watched_as v n path x)
watched_as_keeps v n path NotThere h k = sends_keep v.address (notice ended_kind n.actor n.watcher) h.address (ended_good n.actor n.watcher (omega arith))
watched_as_keeps v n path RemoteFull h k = tells_keep (λ me. lines.Refused me reasons.RemoteWatches)
watched_as_keeps v n path There h k = stays_keep
watched_as_keeps v n path Added h k = watches_keep (kept_remote_watched path (remote_of n.watcher v)) (λ w q. added_facts (remote_watching path (remote_of n.watcher v) w.actors) path (remote_of n.watcher v) w.actors (let e : length n.watcher ≤ 131072 = omega arith in e) q)

watched_keeps : (v : UniqueAddress) (n : Notice) (path : List ℕ) → IsUniqueAddress v → length n.actor + length n.watcher ≤ 131068 → Keeps (is_watched v n path)
watched_keeps v n path h k = record { on = λ d f. (watched_as_keeps v n path (remote_watching path (remote_of n.watcher v) d.node.watching.actors) h k).on d f }

own_keeps : (a : Address) (text : List ℕ) (r : List ℕ → Rule whole listed) → ((path : List ℕ) → Keeps (r path)) → Keeps (at_own a text r)
own_keeps a text r k = if_keeps (is_at a text) (r (or_else [] (after (address_text a) text))) stays (k (or_else [] (after (address_text a) text))) stays_keep

unwatched_facts : (path : List ℕ) (remote : RemoteWatcher) (actors : Actors) → Each ActorFacts actors → Each ActorFacts (remote_unwatched path remote actors)
unwatched_facts path remote actors h = set_facts path actors (remove_key (same_remote remote) (watchers_at path actors)) h (less_facts remote (watchers_at path actors) (watchers_facts path actors h))

terminates_as_keeps : (a : Address) (p : Pair) (x : Unwatch) → Keeps (terminates_as a p x)
terminates_as_keeps a p NotWatched = stays_keep
terminates_as_keeps a p (Unwatched id) = watches_keep (kept_unwatched p) (λ w q. q) ▹ tells_keep (λ me. lines.Terminated me id) ▹ last_watch_keeps a

terminates_keeps : (a : Address) (p : Pair) → Keeps (terminates a p)
terminates_keeps a p = record { on = λ d f. (terminates_as_keeps a p (unwatching p d.node.watching.watches)).on d f }

acts_as_keeps : (v : UniqueAddress) (own : Address) (x : Told) → IsUniqueAddress v → ToldFacts x → Keeps (acts_as v own x)
acts_as_keeps v own (Begins n) h k = where_keeps (is_at v.address n.watcher) (at_own own n.actor (is_watched v n)) (own_keeps own n.actor (is_watched v n) (λ path. watched_keeps v n path h k))
acts_as_keeps v own (Ends n) h k = own_keeps own n.actor (is_unwatched v n) (λ path. watches_keep (kept_remote_unwatched path (remote_of n.watcher v)) (λ w q. unwatched_facts path (remote_of n.watcher v) w.actors q))
acts_as_keeps v own (HasEnded n) h k = where_keeps (is_at v.address n.actor) (terminates v.address (pair_of n.watcher n.actor)) (terminates_keeps v.address (pair_of n.watcher n.actor))
acts_as_keeps v own Nothing h k = stays_keep

pub acts_keep : (v : UniqueAddress) (m : SysMsg) → IsUniqueAddress v → MessageFacts m → Keeps (acts v m)
acts_keep v m h k = record { on = λ d f. (acts_as_keeps v d.node.me.address (told_of m) h (told_facts m k)).on d f }
