-- The rules of watches keep the facts.
use Rattle.std.proofs.Common.{◌≡◌, ℕ, Bool, cond, List, [], refl}
use Rattle.std.specs.Prelude.{not, Option, Some, None}
use Rattle.artery_base.specs.declared.address.Address.{Address}
use Rattle.artery_base.specs.declared.address.UniqueAddress.{UniqueAddress}
use Rattle.artery_base.specs.declared.message.SysMsg.{SysMsg}
use Rattle.artery_base.specs.declared.message.Tell.{Tell}
use Rattle.artery_frame.specs.declared.stream.Stream.TheVariants as streams
use Rattle.artery_journal.specs.declared.line.Line.{Line}
use Rattle.artery_journal.specs.declared.line.Line.TheVariants as lines
use Rattle.artery_journal.specs.declared.words.Reason.TheVariants as reasons
use Rattle.artery_watch.specs.declared.notice.Notice.{Notice}
use Rattle.artery_watch.specs.declared.pair.Pair.{Pair}
use Rattle.artery_watch.specs.declared.answers.Watch.{Watch}
use Rattle.artery_watch.specs.declared.answers.Watch.TheVariants.{Watching as WatchAs, Already, Full as WatchesFull}
use Rattle.artery_watch.specs.declared.answers.Unwatch.{Unwatch}
use Rattle.artery_watch.specs.declared.answers.Unwatch.TheVariants.{Unwatched, NotWatched}
use Rattle.artery_watch.specs.declared.answers.RemoteWatch.{RemoteWatch}
use Rattle.artery_watch.specs.declared.answers.RemoteWatch.TheVariants.{Added, There, NotThere, Full as RemoteFull}
use Rattle.artery_watch.specs.declared.answers.Spawn.{Spawn}
use Rattle.artery_watch.specs.declared.answers.Spawn.TheVariants.{Spawned, Exists, Full as ActorsFull}
use Rattle.artery_watch.specs.declared.answers.Stop.{Stop}
use Rattle.artery_watch.specs.declared.answers.Stop.TheVariants.{Stopped, NotThere as NoSuchActor}
use Rattle.artery_watch.specs.Keys.{pair_of, remote_of}
use Rattle.artery_watch.specs.Place.{is_at, after}
use Rattle.artery_watch.specs.Watcher.{Kept as Watching, watching, unwatching, spawning, stopping, remote_watching, kept_watched, kept_unwatched, kept_spawned, kept_stopped, kept_remote_watched, kept_remote_unwatched}
use Rattle.artery_text.specs.Spelling.{address_text}
use Rattle.artery_machine.specs.Lists.{or_else}
use Rattle.artery_machine.specs.Parts.{whole}
use Rattle.artery_machine.specs.Node.{peer_at, conn_of, current_of, current_dial}
use Rattle.artery_machine.specs.Doing.{Rule, stays, where_true, tells_of, peer_becomes, each}
use Rattle.artery_machine.specs.Closing.{without_detector}
use Rattle.artery_machine.specs.Sending.{sends, holds, tells_or_holds, tells_message}
use Rattle.artery_machine.specs.Watching.{reference, Told, Begins, Ends, HasEnded, Nothing, told_of, watches_at, would_overflow, notice, watch_kind, unwatch_kind, ended_kind, address_in, watches_become, after_last_watch, begins_watch, watches_as, watches_pair, ends_watch, unwatches_as, unwatches_pair, at_reference, watches, unwatches, spawns_as, spawns, sends_to_reference, tells_ended, kills_as, kills, is_watched_as, is_watched, is_unwatched, at_own, terminates_as, terminates, acts_as, acts}
use Rattle.artery_flight.proofs.Deeds.{outward}
use Rattle.artery_flight.proofs.Lines.{IsPlainLine}
use Rattle.artery_flight.proofs.Rules.{Good, Kept, Premise, Work, Keeps, ◌▹◌, stays_keep, tells_keep, watching_keep, peer_keep, if_keeps, where_keeps, each_keeps, peer_facts_at}
use Rattle.artery_flight.proofs.Controlling.{current_speaks}
use Rattle.artery_flight.proofs.Sending.{at_request_keeps, sends_keeps, holds_keeps, tells_on_keeps}

module _ {u m : ℕ} {p : Premise u} where
  pub holding_here : (a : Address) (y : Tell) → Keeps u m p (holds a y)
  holding_here a y = holds_keeps a y

  pub tells_message_keeps : (a : Address) (y : Tell) → Keeps u m p (tells_message a y)
  tells_message_keeps a y = record { on = λ d h g. by d h g (current_dial streams.Ordinary (peer_at a d.node)) refl }
    where
      by : (d : Work u m) → p.holds d.deeds → Good u d.node d.deeds → (z : Option ℕ) → current_dial streams.Ordinary (peer_at a d.node) ≡ z → Kept u d.node d.deeds (tells_or_holds a y z d).node (tells_or_holds a y z d).deeds
      by d h g None e = (holding_here a y).on d h g
      by d h g (Some x) e = (tells_on_keeps {u = u} {m = m} {x = x} a y).on d
          (λ live. current_speaks u d.deeds.connections (current_of (peer_at a d.node)) (conn_of streams.Ordinary (peer_at a d.node)) x (peer_facts_at u d.node d.deeds a (g.node live)).ordinary e) g

  -- ---- watching

  pub sends_here : (a : Address) (x : SysMsg) → Keeps u m p (sends a x)
  sends_here a x = sends_keeps a x

  pub telling_here : (line : UniqueAddress → Line) → ((me : UniqueAddress) → IsPlainLine (line me)) → Keeps u m p (tells_of line)
  telling_here line s = tells_keep line s

  pub watches_here : (f : Watching → Watching) → Keeps u m p (watches_become f)
  watches_here f = watching_keep f

  pub rest_here : Keeps u m p stays
  rest_here = stays_keep

  pub choice_here : (b : Bool) (r s : Rule whole (outward u m)) → Keeps u m p r → Keeps u m p s → Keeps u m p (cond b r s)
  choice_here b r s x y = if_keeps b r s x y

  pub last_watch_keeps : (a : Address) → Keeps u m p (after_last_watch a)
  last_watch_keeps a = record { on = λ d h g. (quiet (not (watches_at a d.node))).on d h g }
    where
      quiet : (b : Bool) → Keeps u m p (where_true b (peer_becomes a without_detector))
      quiet b = where_keeps b (peer_becomes a without_detector) (peer_keep a without_detector (record { incarnations = λ q. refl; out = λ q. refl; control = λ q. refl; ordinary = λ q. refl }))

  pub begins_watch_keeps : (a : Address) (q : Pair) (id : ℕ) → Keeps u m p (begins_watch a q id)
  begins_watch_keeps a q id = watches_here (kept_watched q) ▹ telling_here (λ me. lines.Watched me id q.watcher q.watchee) (λ me. (refl, refl, refl)) ▹ sends_here a (notice watch_kind q.watchee q.watcher)

  pub watches_as_keeps : (a : Address) (q : Pair) (x : Watch) → Keeps u m p (watches_as a q x)
  watches_as_keeps a q (Already id) = record { on = λ d h g. (telling_here (λ me. lines.Refused me reasons.Watching) (λ me. (refl, refl, refl))).on d h g }
  watches_as_keeps a q WatchesFull = record { on = λ d h g. (telling_here (λ me. lines.Refused me reasons.Watches) (λ me. (refl, refl, refl))).on d h g }
  watches_as_keeps a q (WatchAs id) = record {
    on = λ d h g. (choice_here (would_overflow (whole.acceptance (notice watch_kind q.watchee q.watcher) (peer_at a d.node).out) (current_of (peer_at a d.node))) _ _
        (telling_here (λ me. lines.Refused me reasons.Waiting) (λ me. (refl, refl, refl))) (begins_watch_keeps a q id)).on d h g;
  }

  pub watches_pair_keeps : (a : Address) (q : Pair) → Keeps u m p (watches_pair a q)
  watches_pair_keeps a q = record { on = λ d h g. (watches_as_keeps a q (watching q d.node.watching.watches)).on d h g }

  pub ends_watch_keeps : (a : Address) (q : Pair) (id : ℕ) → Keeps u m p (ends_watch a q id)
  ends_watch_keeps a q id = watches_here (kept_unwatched q) ▹ telling_here (λ me. lines.Unwatched me id) (λ me. (refl, refl, refl)) ▹ sends_here a (notice unwatch_kind q.watchee q.watcher) ▹ last_watch_keeps a

  pub unwatches_as_keeps : (a : Address) (q : Pair) (x : Unwatch) → Keeps u m p (unwatches_as a q x)
  unwatches_as_keeps a q NotWatched = telling_here (λ me. lines.Refused me reasons.NotWatched) (λ me. (refl, refl, refl))
  unwatches_as_keeps a q (Unwatched id) = ends_watch_keeps a q id

  pub unwatches_pair_keeps : (a : Address) (q : Pair) → Keeps u m p (unwatches_pair a q)
  unwatches_pair_keeps a q = record { on = λ d h g. (unwatches_as_keeps a q (unwatching q d.node.watching.watches)).on d h g }

  pub at_reference_keeps : (a : Option Address) (r : Address → Rule whole (outward u m)) → ((a : Address) → Keeps u m p (r a)) → Keeps u m p (at_reference a r)
  at_reference_keeps None r k = rest_here
  at_reference_keeps (Some a) r k = at_request_keeps a (r a) (k a)

  pub watches_keep : (path watchee : List ℕ) → Keeps u m p (watches path watchee)
  watches_keep path watchee = record { on = λ d h g. (at_reference_keeps (address_in watchee) _ (λ a. watches_pair_keeps a (pair_of (reference d.node.me.address path) watchee))).on d h g }

  pub unwatches_keep : (path watchee : List ℕ) → Keeps u m p (unwatches path watchee)
  unwatches_keep path watchee = record { on = λ d h g. (at_reference_keeps (address_in watchee) _ (λ a. unwatches_pair_keeps a (pair_of (reference d.node.me.address path) watchee))).on d h g }

  pub spawns_as_keeps : (path : List ℕ) (x : Spawn) → Keeps u m p (spawns_as path x)
  spawns_as_keeps path Spawned = watches_here (kept_spawned path) ▹ telling_here (λ me. lines.Spawned me path) (λ me. (refl, refl, refl))
  spawns_as_keeps path Exists = telling_here (λ me. lines.Refused me reasons.Exists) (λ me. (refl, refl, refl))
  spawns_as_keeps path ActorsFull = telling_here (λ me. lines.Refused me reasons.Actors) (λ me. (refl, refl, refl))

  pub spawns_keep : (path : List ℕ) → Keeps u m p (spawns path)
  spawns_keep path = record { on = λ d h g. (spawns_as_keeps path (spawning path d.node.watching.actors)).on d h g }

  pub to_reference_keeps : (a : Option Address) (x : SysMsg) → Keeps u m p (sends_to_reference a x)
  to_reference_keeps None x = rest_here
  to_reference_keeps (Some a) x = sends_here a x

  pub tells_ended_keeps : (path watcher : List ℕ) → Keeps u m p (tells_ended path watcher)
  tells_ended_keeps path watcher = record { on = λ d h g. (to_reference_keeps (address_in watcher) (notice ended_kind (reference d.node.me.address path) watcher)).on d h g }

  pub kills_as_keeps : (path : List ℕ) (x : Stop) → Keeps u m p (kills_as path x)
  kills_as_keeps path NoSuchActor = telling_here (λ me. lines.Refused me reasons.NotThere) (λ me. (refl, refl, refl))
  kills_as_keeps path (Stopped watchers) = watches_here (kept_stopped path) ▹ telling_here (λ me. lines.Ended me path) (λ me. (refl, refl, refl)) ▹ all_ended watchers
    where
      all_ended : (ws : List (List ℕ)) → Keeps u m p (each ws (tells_ended path))
      all_ended ws = each_keeps ws (tells_ended path) (λ w. tells_ended_keeps path w)

  pub kills_keep : (path : List ℕ) → Keeps u m p (kills path)
  kills_keep path = record { on = λ d h g. (kills_as_keeps path (stopping path d.node.watching.actors)).on d h g }

  pub watched_as_keeps : (v : UniqueAddress) (n : Notice) (path : List ℕ) (x : RemoteWatch) → Keeps u m p (is_watched_as v n path x)
  watched_as_keeps v n path NotThere = sends_here v.address (notice ended_kind n.actor n.watcher)
  watched_as_keeps v n path RemoteFull = telling_here (λ me. lines.Refused me reasons.RemoteWatches) (λ me. (refl, refl, refl))
  watched_as_keeps v n path There = rest_here
  watched_as_keeps v n path Added = watches_here (kept_remote_watched path (remote_of n.watcher v))

  pub watched_keeps : (v : UniqueAddress) (n : Notice) (path : List ℕ) → Keeps u m p (is_watched v n path)
  watched_keeps v n path = record { on = λ d h g. (watched_as_keeps v n path (remote_watching path (remote_of n.watcher v) d.node.watching.actors)).on d h g }

  pub own_keeps : (a : Address) (text : List ℕ) (r : List ℕ → Rule whole (outward u m)) → ((path : List ℕ) → Keeps u m p (r path)) → Keeps u m p (at_own a text r)
  own_keeps a text r k = choice_here (is_at a text) _ _ (k (or_else [] (after (address_text a) text))) rest_here

  pub terminates_as_keeps : (a : Address) (q : Pair) (x : Unwatch) → Keeps u m p (terminates_as a q x)
  terminates_as_keeps a q NotWatched = rest_here
  terminates_as_keeps a q (Unwatched id) = watches_here (kept_unwatched q) ▹ telling_here (λ me. lines.Terminated me id) (λ me. (refl, refl, refl)) ▹ last_watch_keeps a

  pub terminates_keeps : (a : Address) (q : Pair) → Keeps u m p (terminates a q)
  terminates_keeps a q = record { on = λ d h g. (terminates_as_keeps a q (unwatching q d.node.watching.watches)).on d h g }

  pub if_so : (b : Bool) (r : Rule whole (outward u m)) → Keeps u m p r → Keeps u m p (where_true b r)
  if_so b r k = where_keeps b r k

  pub acts_as_keeps : (v : UniqueAddress) (own : Address) (x : Told) → Keeps u m p (acts_as v own x)
  acts_as_keeps v own (Begins n) = if_so (is_at v.address n.watcher) _ (own_keeps own n.actor (is_watched v n) (watched_keeps v n))
  acts_as_keeps v own (Ends n) = own_keeps own n.actor (is_unwatched v n) (λ path. watches_here (kept_remote_unwatched path (remote_of n.watcher v)))
  acts_as_keeps v own (HasEnded n) = if_so (is_at v.address n.actor) _ (terminates_keeps v.address (pair_of n.watcher n.actor))
  acts_as_keeps v own Nothing = rest_here

  pub acts_keep : (v : UniqueAddress) (x : SysMsg) → Keeps u m p (acts v x)
  acts_keep v x = record { on = λ d h g. (acts_as_keeps v d.node.me.address (told_of x)).on d h g }
