-- System messages, watches and actors keep the facts.
use Rattle.std.proofs.Common.{◌≡◌, ℕ, true, List, [], length, refl}
use Rattle.std.specs.Prelude.{nat_lt, not, Option, Some, None}
use Rattle.artery_base.specs.declared.address.Address.{Address}
use Rattle.artery_base.specs.declared.address.UniqueAddress.{UniqueAddress}
use Rattle.artery_base.specs.declared.message.SysMsg.{SysMsg}
use Rattle.artery_base.specs.declared.message.Tell.{Tell}
use Rattle.artery_delivery.specs.declared.outbound.Accept.{Accept}
use Rattle.artery_delivery.specs.declared.outbound.Accept.TheVariants.{Accepted, Waiting, Overflow}
use Rattle.artery_journal.specs.declared.line.Line.{Line}
use Rattle.artery_journal.specs.declared.line.Line.TheVariants as lines
use Rattle.artery_journal.specs.declared.words.Reason.{Reason}
use Rattle.artery_journal.specs.declared.words.Reason.TheVariants as reasons
use Rattle.artery_journal.specs.declared.words.Cause.TheVariants as causes
use Rattle.artery_watch.specs.declared.notice.Notice.{Notice}
use Rattle.artery_watch.specs.declared.pair.Pair.{Pair}
use Rattle.artery_watch.specs.declared.answers.Watch.{Watch}
use Rattle.artery_watch.specs.declared.answers.Watch.TheVariants.{Watching as WatchAs, Already, Full as WatchesFull}
use Rattle.artery_watch.specs.declared.answers.Unwatch.{Unwatch}
use Rattle.artery_watch.specs.declared.answers.Unwatch.TheVariants.{Unwatched, NotWatched}
use Rattle.artery_watch.specs.declared.answers.RemoteWatch.{RemoteWatch}
use Rattle.artery_watch.specs.declared.answers.RemoteWatch.TheVariants.{Added, There, NotThere, Full as RemoteFull}
use Rattle.artery_watch.specs.declared.answers.Spawn.{Spawn}
use Rattle.artery_watch.specs.declared.answers.Spawn.TheVariants.{Spawned, Exists, Full as ActorsFull}
use Rattle.artery_watch.specs.declared.answers.Stop.{Stop}
use Rattle.artery_watch.specs.declared.answers.Stop.TheVariants.{Stopped, NotThere as NoSuchActor}
use Rattle.artery_watch.specs.Keys.{pair_of, remote_of}
use Rattle.artery_watch.specs.Place.{is_at, after}
use Rattle.artery_watch.specs.Watcher.{Kept as Watching, watching, unwatching, spawning, stopping, remote_watching, kept_watched, kept_unwatched, kept_spawned, kept_stopped, kept_remote_watched, kept_remote_unwatched}
use Rattle.artery_text.specs.Spelling.{address_text}
use Rattle.artery_machine.specs.Lists.{or_else}
use Rattle.artery_machine.specs.Parts.{whole}
use Rattle.artery_machine.specs.Node.{peer_at, current_of}
use Rattle.artery_machine.specs.Doing.{Rule, stays, tells_of, peer_becomes, each}
use Rattle.artery_machine.specs.Making.{uses}
use Rattle.artery_machine.specs.Closing.{without_detector}
use Rattle.artery_machine.specs.Sending.{with_out, begins_waiting, with_held, sent_as, sends_now, sends, holds, most_held}
use Rattle.artery_machine.specs.Watching.{reference, Told, Begins, Ends, HasEnded, Nothing, told_of, watches_at, would_overflow, notice, watch_kind, unwatch_kind, ended_kind, address_in, watches_become, after_last_watch, begins_watch, watches_as, watches_pair, ends_watch, unwatches_as, unwatches_pair, at_reference, watches, unwatches, spawns_as, spawns, sends_to_reference, tells_ended, kills_as, kills, is_watched_as, is_watched, is_unwatched, at_own, terminates_as, terminates, acts_as, acts}
use Rattle.artery_names.proofs.Plain.{Same}
use Rattle.artery_names.proofs.Outside.{outward}
use Rattle.artery_names.proofs.Rules.{Plain, tells_plain, if_plain, where_plain}
use Rattle.artery_names.proofs.Keeping.{Keeps, ◌▻◌, plain_keeps, stays_keep, if_keeps, where_keeps, each_keeps}
use Rattle.artery_names.proofs.Silence.{is_silent, silent}
use Rattle.artery_names.proofs.Making.{other_plain, uses_plain, out_plain, waiting_plain, pumps_plain, tells_sent_plain, at_request_keeps}
use Rattle.artery_names.proofs.Closing.{watching_plain, without_detector_plain, closes_current_kept}

module _ {u m : ℕ} where
  -- a line that says nothing of these
  pub line_plain : (line : UniqueAddress → Line) → ((me : UniqueAddress) → is_silent (line me) ≡ true) → Plain u m (tells_of line)
  line_plain line s = tells_plain line (λ me. silent (line me) (s me))

  pub refused_plain : (r : Reason) → Plain u m (tells_of (λ me. lines.Refused me r))
  refused_plain r = line_plain (λ me. lines.Refused me r) (λ me. refl)

  pub holds_plain : (a : Address) (y : Tell) → Plain u m (holds a y)
  holds_plain a y = record {
    on = λ d. (if_plain (nat_lt (length (peer_at a d.node).held) most_held) (peer_becomes a (with_held y)) (tells_of (λ me. lines.Refused me reasons.Held))
        (other_plain a (with_held y) (λ p. record { known = refl; tables = refl; control = Same refl; ordinary = Same refl })) (refused_plain reasons.Held)).on d;
  }

  pub last_watch_plain : (a : Address) → Plain u m (after_last_watch a)
  last_watch_plain a = record { on = λ d. (where_plain (not (watches_at a d.node)) (peer_becomes a without_detector) (without_detector_plain a)).on d }

module _ {nobody : UniqueAddress} {u m : ℕ} {given : ℕ → ℕ} where
  pub quiet : (r : Rule whole (outward u m)) → Plain u m r → Keeps nobody u m given r
  quiet r p = plain_keeps r p

  telling : (line : UniqueAddress → Line) → ((me : UniqueAddress) → is_silent (line me) ≡ true) → Keeps nobody u m given (tells_of line)
  telling line s = quiet (tells_of line) (line_plain line s)

  refusing : (r : Reason) → Keeps nobody u m given (tells_of (λ me. lines.Refused me r))
  refusing r = quiet _ (refused_plain r)

  watches_here : (f : Watching → Watching) → Keeps nobody u m given (watches_become f)
  watches_here f = quiet (watches_become f) (watching_plain f)

  rest_here : Keeps nobody u m given stays
  rest_here = stays_keep

  sent_as_keeps : (a : Address) (x : SysMsg) (y : Accept) → Keeps nobody u m given (sent_as a x y)
  sent_as_keeps a x (Accepted n) = record {
    on = λ d g. (quiet (peer_becomes a (begins_waiting d.node.moment)) (waiting_plain a d.node.moment)
        ▻ quiet (peer_becomes a (with_out (whole.accepted x))) (out_plain a (whole.accepted x))
        ▻ quiet _ (tells_sent_plain a (current_of (peer_at a d.node)) n x) ▻ quiet _ (pumps_plain a)).on d g;
  }
  sent_as_keeps a x (Waiting place) = record { on = λ d g. (quiet (peer_becomes a (with_out (whole.accepted x))) (out_plain a (whole.accepted x))).on d g }
  sent_as_keeps a x (Overflow back) = record { on = λ d g. closes_current_kept a causes.Overflow (tells_of (λ me. lines.Refused me reasons.Waiting)) (refusing reasons.Waiting) d g }

  sends_now_keeps : (a : Address) (x : SysMsg) → Keeps nobody u m given (sends_now a x)
  sends_now_keeps a x = record { on = λ d g. (sent_as_keeps a x (whole.acceptance x (peer_at a d.node).out)).on d g }

  pub sends_keeps : (a : Address) (x : SysMsg) → Keeps nobody u m given (sends a x)
  sends_keeps a x = quiet (uses a) (uses_plain a) ▻ sends_now_keeps a x

  -- ---- watching

  begins_watch_keeps : (a : Address) (q : Pair) (id : ℕ) → Keeps nobody u m given (begins_watch a q id)
  begins_watch_keeps a q id = watches_here (kept_watched q) ▻ telling (λ me. lines.Watched me id q.watcher q.watchee) (λ me. refl) ▻ sends_keeps a (notice watch_kind q.watchee q.watcher)

  watches_as_keeps : (a : Address) (q : Pair) (x : Watch) → Keeps nobody u m given (watches_as a q x)
  watches_as_keeps a q (Already id) = record { on = λ d g. (refusing reasons.Watching).on d g }
  watches_as_keeps a q WatchesFull = record { on = λ d g. (refusing reasons.Watches).on d g }
  watches_as_keeps a q (WatchAs id) = record {
    on = λ d g. (if_keeps (would_overflow (whole.acceptance (notice watch_kind q.watchee q.watcher) (peer_at a d.node).out) (current_of (peer_at a d.node)))
        (tells_of (λ me. lines.Refused me reasons.Waiting)) (begins_watch a q id) (refusing reasons.Waiting) (begins_watch_keeps a q id)).on d g;
  }

  watches_pair_keeps : (a : Address) (q : Pair) → Keeps nobody u m given (watches_pair a q)
  watches_pair_keeps a q = record { on = λ d g. (watches_as_keeps a q (watching q d.node.watching.watches)).on d g }

  ends_watch_keeps : (a : Address) (q : Pair) (id : ℕ) → Keeps nobody u m given (ends_watch a q id)
  ends_watch_keeps a q id = watches_here (kept_unwatched q) ▻ telling (λ me. lines.Unwatched me id) (λ me. refl) ▻ sends_keeps a (notice unwatch_kind q.watchee q.watcher) ▻ quiet (after_last_watch a) (last_watch_plain a)

  unwatches_as_keeps : (a : Address) (q : Pair) (x : Unwatch) → Keeps nobody u m given (unwatches_as a q x)
  unwatches_as_keeps a q NotWatched = refusing reasons.NotWatched
  unwatches_as_keeps a q (Unwatched id) = ends_watch_keeps a q id

  unwatches_pair_keeps : (a : Address) (q : Pair) → Keeps nobody u m given (unwatches_pair a q)
  unwatches_pair_keeps a q = record { on = λ d g. (unwatches_as_keeps a q (unwatching q d.node.watching.watches)).on d g }

  at_reference_keeps : (a : Option Address) (r : Address → Rule whole (outward u m)) → ((a : Address) → Keeps nobody u m given (r a)) → Keeps nobody u m given (at_reference a r)
  at_reference_keeps None r k = rest_here
  at_reference_keeps (Some a) r k = at_request_keeps a (r a) (k a)

  pub watches_keep : (path watchee : List ℕ) → Keeps nobody u m given (watches path watchee)
  watches_keep path watchee = record { on = λ d g. (at_reference_keeps (address_in watchee) _ (λ a. watches_pair_keeps a (pair_of (reference d.node.me.address path) watchee))).on d g }

  pub unwatches_keep : (path watchee : List ℕ) → Keeps nobody u m given (unwatches path watchee)
  unwatches_keep path watchee = record { on = λ d g. (at_reference_keeps (address_in watchee) _ (λ a. unwatches_pair_keeps a (pair_of (reference d.node.me.address path) watchee))).on d g }

  -- ---- actors

  spawns_as_keeps : (path : List ℕ) (x : Spawn) → Keeps nobody u m given (spawns_as path x)
  spawns_as_keeps path Spawned = watches_here (kept_spawned path) ▻ telling (λ me. lines.Spawned me path) (λ me. refl)
  spawns_as_keeps path Exists = refusing reasons.Exists
  spawns_as_keeps path ActorsFull = refusing reasons.Actors

  pub spawns_keep : (path : List ℕ) → Keeps nobody u m given (spawns path)
  spawns_keep path = record { on = λ d g. (spawns_as_keeps path (spawning path d.node.watching.actors)).on d g }

  to_reference_keeps : (a : Option Address) (x : SysMsg) → Keeps nobody u m given (sends_to_reference a x)
  to_reference_keeps None x = rest_here
  to_reference_keeps (Some a) x = sends_keeps a x

  tells_ended_keeps : (path watcher : List ℕ) → Keeps nobody u m given (tells_ended path watcher)
  tells_ended_keeps path watcher = record { on = λ d g. (to_reference_keeps (address_in watcher) (notice ended_kind (reference d.node.me.address path) watcher)).on d g }

  kills_as_keeps : (path : List ℕ) (x : Stop) → Keeps nobody u m given (kills_as path x)
  kills_as_keeps path NoSuchActor = refusing reasons.NotThere
  kills_as_keeps path (Stopped watchers) = watches_here (kept_stopped path) ▻ telling (λ me. lines.Ended me path) (λ me. refl) ▻ all_ended watchers
    where
      all_ended : (ws : List (List ℕ)) → Keeps nobody u m given (each ws (tells_ended path))
      all_ended ws = each_keeps ws (tells_ended path) (λ w. tells_ended_keeps path w)

  pub kills_keep : (path : List ℕ) → Keeps nobody u m given (kills path)
  kills_keep path = record { on = λ d g. (kills_as_keeps path (stopping path d.node.watching.actors)).on d g }

  -- ---- notices that came

  watched_as_keeps : (v : UniqueAddress) (n : Notice) (path : List ℕ) (x : RemoteWatch) → Keeps nobody u m given (is_watched_as v n path x)
  watched_as_keeps v n path NotThere = sends_keeps v.address (notice ended_kind n.actor n.watcher)
  watched_as_keeps v n path RemoteFull = refusing reasons.RemoteWatches
  watched_as_keeps v n path There = rest_here
  watched_as_keeps v n path Added = watches_here (kept_remote_watched path (remote_of n.watcher v))

  watched_keeps : (v : UniqueAddress) (n : Notice) (path : List ℕ) → Keeps nobody u m given (is_watched v n path)
  watched_keeps v n path = record { on = λ d g. (watched_as_keeps v n path (remote_watching path (remote_of n.watcher v) d.node.watching.actors)).on d g }

  own_keeps : (a : Address) (text : List ℕ) (r : List ℕ → Rule whole (outward u m)) → ((path : List ℕ) → Keeps nobody u m given (r path)) → Keeps nobody u m given (at_own a text r)
  own_keeps a text r k = if_keeps (is_at a text) (r (or_else [] (after (address_text a) text))) stays (k (or_else [] (after (address_text a) text))) rest_here

  terminates_as_keeps : (a : Address) (q : Pair) (x : Unwatch) → Keeps nobody u m given (terminates_as a q x)
  terminates_as_keeps a q NotWatched = rest_here
  terminates_as_keeps a q (Unwatched id) = watches_here (kept_unwatched q) ▻ telling (λ me. lines.Terminated me id) (λ me. refl) ▻ quiet (after_last_watch a) (last_watch_plain a)

  terminates_keeps : (a : Address) (q : Pair) → Keeps nobody u m given (terminates a q)
  terminates_keeps a q = record { on = λ d g. (terminates_as_keeps a q (unwatching q d.node.watching.watches)).on d g }

  acts_as_keeps : (v : UniqueAddress) (own : Address) (x : Told) → Keeps nobody u m given (acts_as v own x)
  acts_as_keeps v own (Begins n) = where_keeps (is_at v.address n.watcher) (at_own own n.actor (is_watched v n)) (own_keeps own n.actor (is_watched v n) (watched_keeps v n))
  acts_as_keeps v own (Ends n) = own_keeps own n.actor (is_unwatched v n) (λ path. watches_here (kept_remote_unwatched path (remote_of n.watcher v)))
  acts_as_keeps v own (HasEnded n) = where_keeps (is_at v.address n.actor) (terminates v.address (pair_of n.watcher n.actor)) (terminates_keeps v.address (pair_of n.watcher n.actor))
  acts_as_keeps v own Nothing = rest_here

  pub acts_keep : (v : UniqueAddress) (x : SysMsg) → Keeps nobody u m given (acts v x)
  acts_keep v x = record { on = λ d g. (acts_as_keeps v d.node.me.address (told_of x)).on d g }
