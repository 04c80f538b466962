-- Watches of actors elsewhere, actors, and the notices that nodes send each other about them.
use Rattle.std.specs.Prelude.{ℕ, ◌==◌, nat_lt, Bool, true, false, not, if◌then◌else◌, ℤ, pos, List, [], ◌++◌, length, take, Option, None, Some, Result, Ok, Err, codes, bytes_eq}
use Rattle.artery_base.specs.declared.address.Address.{Address}
use Rattle.artery_base.specs.declared.address.UniqueAddress.{UniqueAddress}
use Rattle.artery_base.specs.declared.message.SysMsg.{SysMsg}
use Rattle.artery_lines.specs.Lines.{◌>>=◌}
use Rattle.artery_text.specs.Spelling.{address_text}
use Rattle.artery_text.specs.Reading.{address_of as address_read}
use Rattle.artery_script.specs.Reading.{path_start}
use Rattle.artery_delivery.specs.declared.outbound.Accept.{Accept}
use Rattle.artery_delivery.specs.declared.outbound.Accept.TheVariants.{Accepted, Waiting, Overflow}
use Rattle.artery_journal.specs.declared.line.Line.TheVariants as lines
use Rattle.artery_journal.specs.declared.words.Reason.TheVariants as reasons
use Rattle.artery_watch.specs.declared.notice.Notice.{Notice}
use Rattle.artery_watch.specs.declared.pair.Pair.{Pair}
use Rattle.artery_watch.specs.declared.answers.Watch.{Watch}
use Rattle.artery_watch.specs.declared.answers.Watch.TheVariants.{Watching, Already, Full as WatchesFull}
use Rattle.artery_watch.specs.declared.answers.Unwatch.{Unwatch}
use Rattle.artery_watch.specs.declared.answers.Unwatch.TheVariants.{Unwatched, NotWatched}
use Rattle.artery_watch.specs.declared.answers.Spawn.{Spawn}
use Rattle.artery_watch.specs.declared.answers.Spawn.TheVariants.{Spawned, Exists, Full as ActorsFull}
use Rattle.artery_watch.specs.declared.answers.Stop.{Stop}
use Rattle.artery_watch.specs.declared.answers.Stop.TheVariants.{Stopped, NotThere as NoSuchActor}
use Rattle.artery_watch.specs.declared.answers.RemoteWatch.{RemoteWatch}
use Rattle.artery_watch.specs.declared.answers.RemoteWatch.TheVariants.{Added, There, NotThere, Full as RemoteFull}
use Rattle.artery_watch.specs.Keys.{pair_of, remote_of}
use Rattle.artery_watch.specs.Place.{is_at, after}
use Rattle.artery_watch.specs.Notice.{notice_of, notice_bytes}
use Rattle.artery_watch.specs.Watcher.{watching, unwatching, spawning, stopping, remote_watching, ids_at, kept_watched, kept_unwatched, kept_spawned, kept_stopped, kept_remote_watched, kept_remote_unwatched}
use Rattle.artery_watch.specs.Watcher.{Kept as Watches}
use Rattle.artery_machine.specs.Lists.{or_else}
use Rattle.artery_machine.specs.Parts.{Parts}
use Rattle.artery_machine.specs.Node.{Node, peer_at, current_of}
use Rattle.artery_machine.specs.Making.{at_request}
use Rattle.artery_machine.specs.Closing.{without_detector}
use Rattle.artery_machine.specs.Sending.{sends}
use Rattle.artery_machine.specs.Doing.{Sink, Rule, ◌▸◌, stays, where_true, becomes, tells_of, peer_becomes, each}

-- ---- names of actors

-- The reference of the actor with this path in the system at this address.
abbrev pub reference : Address → List ℕ → List ℕ
reference address path = address_text address ++ path

-- The address of the text before the path that begins at this place.
abbrev pub address_before : List ℕ → ℕ → Option Address
address_before text at = found (address_read (take at text))
  where
    found : {E : Type 0} → Result Address E → Option Address
    found (Ok address) = Some address
    found (Err fault) = None

-- The address in a reference: what stands before the first `/` behind `://`.
abbrev pub address_in : List ℕ → Option Address
address_in text = path_start text >>= address_before text

-- ---- notices

-- Notices of watches have this serializer.
abbrev pub notice_serializer : ℤ
notice_serializer = pos 9001

-- Whether a serializer is that of notices.
abbrev pub is_notice_serializer : ℤ → Bool
is_notice_serializer (pos n) = n == 9001
is_notice_serializer _ = false

-- A notice of this kind, of an actor and a watcher.
abbrev pub notice : List ℕ → List ℕ → List ℕ → SysMsg
notice kind actor watcher = record {
  serializer = notice_serializer;
  manifest = kind;
  payload = notice_bytes (record { actor = actor; watcher = watcher });
}

-- The kind of a notice that a watch begins.
abbrev pub watch_kind : List ℕ
watch_kind = codes "W"

-- The kind of a notice that a watch ends.
abbrev pub unwatch_kind : List ℕ
unwatch_kind = codes "U"

-- The kind of a notice that an actor has ended.
abbrev pub ended_kind : List ℕ
ended_kind = codes "D"

-- What a message tells of a watch: that it begins, that it ends, that an actor has ended; or nothing.
pub data Told : Type 0 where
  Begins : Notice → Told
  Ends : Notice → Told
  HasEnded : Notice → Told
  Nothing : Told

-- A notice by its kind, which is one letter.
abbrev pub told_by : List ℕ → Notice → Told
told_by kind n =
    if bytes_eq kind watch_kind then Begins n
    else if bytes_eq kind unwatch_kind then Ends n
    else if bytes_eq kind ended_kind then HasEnded n else Nothing

-- The same of a payload that may be no notice.
abbrev pub told_in : List ℕ → Option Notice → Told
told_in kind None = Nothing
told_in kind (Some n) = told_by kind n

-- What a system message tells of a watch: nothing, unless it has the serializer of notices and its payload is one.
abbrev pub told_of : SysMsg → Told
told_of message = if is_notice_serializer message.serializer then told_in message.manifest (notice_of message.payload) else Nothing

-- Whether a message to the peer would be one too many, with no incarnation to close for it.
abbrev pub would_overflow : Accept → Option ℕ → Bool
would_overflow (Overflow back) None = true
would_overflow (Overflow back) (Some uid) = false
would_overflow (Waiting place) current = false
would_overflow (Accepted n) current = false

module _ {P : Parts} where
  -- Whether an actor at the address is watched.
  abbrev pub watches_at : Address → Node P → Bool
  watches_at address n = nat_lt 0 (length (ids_at address n.watching.watches.list))

module _ {P : Parts} {E : Sink} where
  -- What is known of watches changes.
  abbrev pub watches_become : (Watches → Watches) → Rule P E
  watches_become change = becomes (λ n. record n { watching = change n.watching })

  -- Where no actor at the address is watched any more, the detector is removed.
  abbrev pub after_last_watch : Address → Rule P E
  after_last_watch address d = where_true (not (watches_at address d.node)) (peer_becomes address without_detector) d

  -- ---- watching

  -- A watch begins: it is told, and the other system is asked to tell of the actor's end.
  abbrev pub begins_watch : Address → Pair → ℕ → Rule P E
  begins_watch address p id =
      watches_become (kept_watched p)
      ▸ tells_of (λ me. lines.Watched me id p.watcher p.watchee)
      ▸ sends address (notice watch_kind p.watchee p.watcher)

  -- A pair that is watched is refused; so is one more beside 4,096 others or with no id left; and one whose notice would have to wait beside 20,000 others. Else the watch begins.
  abbrev pub watches_as : Address → Pair → Watch → Rule P E
  watches_as address p (Already id) d = tells_of (λ me. lines.Refused me reasons.Watching) d
  watches_as address p WatchesFull d = tells_of (λ me. lines.Refused me reasons.Watches) d
  watches_as address p (Watching id) d =
      (if would_overflow (P.acceptance (notice watch_kind p.watchee p.watcher) (peer_at address d.node).out) (current_of (peer_at address d.node))
      then tells_of (λ me. lines.Refused me reasons.Waiting)
      else begins_watch address p id) d

  -- A pair is to be watched.
  abbrev pub watches_pair : Address → Pair → Rule P E
  watches_pair address p d = watches_as address p (watching p d.node.watching.watches) d

  -- A watch ends: it is told, and the other system is told so. With the last one at the address the detector is removed.
  abbrev pub ends_watch : Address → Pair → ℕ → Rule P E
  ends_watch address p id =
      watches_become (kept_unwatched p)
      ▸ tells_of (λ me. lines.Unwatched me id)
      ▸ sends address (notice unwatch_kind p.watchee p.watcher)
      ▸ after_last_watch address

  -- A pair that is not watched is refused.
  abbrev pub unwatches_as : Address → Pair → Unwatch → Rule P E
  unwatches_as address p NotWatched = tells_of (λ me. lines.Refused me reasons.NotWatched)
  unwatches_as address p (Unwatched id) = ends_watch address p id

  -- The watch of a pair is to end.
  abbrev pub unwatches_pair : Address → Pair → Rule P E
  unwatches_pair address p d = unwatches_as address p (unwatching p d.node.watching.watches) d

  -- A request about the actor of a reference names the address in it.
  abbrev pub at_reference : Option Address → (Address → Rule P E) → Rule P E
  at_reference None rest = stays
  at_reference (Some address) rest = at_request address (rest address)

  -- The own actor with this path is to watch another one.
  abbrev pub watches : List ℕ → List ℕ → Rule P E
  watches path watchee d = at_reference (address_in watchee) (λ address. watches_pair address (pair_of (reference d.node.me.address path) watchee)) d

  -- The own actor with this path is to watch another one no longer.
  abbrev pub unwatches : List ℕ → List ℕ → Rule P E
  unwatches path watchee d = at_reference (address_in watchee) (λ address. unwatches_pair address (pair_of (reference d.node.me.address path) watchee)) d

  -- ---- actors

  -- An actor is there from now on, unless it is there already or 4,096 others are.
  abbrev pub spawns_as : List ℕ → Spawn → Rule P E
  spawns_as path Spawned = watches_become (kept_spawned path) ▸ tells_of (λ me. lines.Spawned me path)
  spawns_as path Exists = tells_of (λ me. lines.Refused me reasons.Exists)
  spawns_as path ActorsFull = tells_of (λ me. lines.Refused me reasons.Actors)

  -- An actor is to be there.
  abbrev pub spawns : List ℕ → Rule P E
  spawns path d = spawns_as path (spawning path d.node.watching.actors) d

  -- A system message to the address in a reference.
  abbrev pub sends_to_reference : Option Address → SysMsg → Rule P E
  sends_to_reference None message = stays
  sends_to_reference (Some address) message = sends address message

  -- A watcher elsewhere is told that the own actor with this path has ended.
  abbrev pub tells_ended : List ℕ → List ℕ → Rule P E
  tells_ended path watcher d = sends_to_reference (address_in watcher) (notice ended_kind (reference d.node.me.address path) watcher) d

  -- An actor ends: it is told, and each of its watchers elsewhere is told so, in the order in which they came.
  abbrev pub kills_as : List ℕ → Stop → Rule P E
  kills_as path NoSuchActor = tells_of (λ me. lines.Refused me reasons.NotThere)
  kills_as path (Stopped watchers) =
      watches_become (kept_stopped path) ▸ tells_of (λ me. lines.Ended me path) ▸ each watchers (tells_ended path)

  -- An actor is to end.
  abbrev pub kills : List ℕ → Rule P E
  kills path d = kills_as path (stopping path d.node.watching.actors) d

  -- ---- notices that came

  -- A watch elsewhere of an own actor is added. Where the actor is not there, the watcher is told that it has ended.
  abbrev pub is_watched_as : UniqueAddress → Notice → List ℕ → RemoteWatch → Rule P E
  is_watched_as v n path NotThere = sends v.address (notice ended_kind n.actor n.watcher)
  is_watched_as v n path RemoteFull = tells_of (λ me. lines.Refused me reasons.RemoteWatches)
  is_watched_as v n path There = stays
  is_watched_as v n path Added = watches_become (kept_remote_watched path (remote_of n.watcher v))

  -- An own actor is to be watched from elsewhere.
  abbrev pub is_watched : UniqueAddress → Notice → List ℕ → Rule P E
  is_watched v n path d = is_watched_as v n path (remote_watching path (remote_of n.watcher v) d.node.watching.actors) d

  -- A watch elsewhere of an own actor is removed.
  abbrev pub is_unwatched : UniqueAddress → Notice → List ℕ → Rule P E
  is_unwatched v n path = watches_become (kept_remote_unwatched path (remote_of n.watcher v))

  -- A rule about the own actor that a text names, where it names one at this address.
  abbrev pub at_own : Address → List ℕ → (List ℕ → Rule P E) → Rule P E
  at_own address text rest = if is_at address text then rest (or_else [] (after (address_text address) text)) else stays

  -- The watch of an actor that has ended is terminated, where it stands. With the last one at the address the detector is removed.
  abbrev pub terminates_as : Address → Pair → Unwatch → Rule P E
  terminates_as address p NotWatched = stays
  terminates_as address p (Unwatched id) =
      watches_become (kept_unwatched p) ▸ tells_of (λ me. lines.Terminated me id) ▸ after_last_watch address

  -- A watched actor has ended.
  abbrev pub terminates : Address → Pair → Rule P E
  terminates address p d = terminates_as address p (unwatching p d.node.watching.watches) d

  -- What an origin told of a watch acts: a watch begins where the actor is the node's own and the watcher the origin's; it ends where the actor is the node's own; an actor has ended where it is the origin's.
  abbrev pub acts_as : UniqueAddress → Address → Told → Rule P E
  acts_as v own (Begins n) = where_true (is_at v.address n.watcher) (at_own own n.actor (is_watched v n))
  acts_as v own (Ends n) = at_own own n.actor (is_unwatched v n)
  acts_as v own (HasEnded n) = where_true (is_at v.address n.actor) (terminates v.address (pair_of n.watcher n.actor))
  acts_as v own Nothing = stays

  -- A system message that was taken from an origin acts.
  abbrev pub acts : UniqueAddress → SysMsg → Rule P E
  acts v message d = acts_as v d.node.me.address (told_of message) d
