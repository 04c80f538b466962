-- The rules of telling and watching are the same under maps of parts.
use Rattle.std.proofs.Common.{◌≡◌, ℕ, Bool, true, false, cond, List, [], ◌∷◌, refl, ap, ◌∙◌}
use Rattle.std.specs.Prelude.{nat_lt, not, Option, Some, None, length}
use Rattle.artery_base.specs.declared.address.Address.{Address}
use Rattle.artery_base.specs.declared.address.UniqueAddress.{UniqueAddress}
use Rattle.artery_base.specs.declared.message.SysMsg.{SysMsg}
use Rattle.artery_base.specs.declared.message.Tell.{Tell}
use Rattle.artery_codec.specs.Meaning.{Meaning}
use Rattle.artery_codec.specs.Writing.{written, written_name, indexed}
use Rattle.artery_frame.specs.declared.stream.Stream.TheVariants as streams
use Rattle.artery_journal.specs.declared.line.Line.TheVariants as lines
use Rattle.artery_journal.specs.declared.words.Reason.TheVariants as reasons
use Rattle.artery_watch.specs.declared.notice.Notice.{Notice}
use Rattle.artery_watch.specs.declared.pair.Pair.{Pair}
use Rattle.artery_watch.specs.declared.answers.Watch.{Watch}
use Rattle.artery_watch.specs.declared.answers.Watch.TheVariants.{Watching, Already, Full as WatchesFull}
use Rattle.artery_watch.specs.declared.answers.Unwatch.{Unwatch}
use Rattle.artery_watch.specs.declared.answers.Unwatch.TheVariants.{Unwatched, NotWatched}
use Rattle.artery_watch.specs.declared.answers.Spawn.{Spawn}
use Rattle.artery_watch.specs.declared.answers.Spawn.TheVariants.{Spawned, Exists, Full as ActorsFull}
use Rattle.artery_watch.specs.declared.answers.Stop.{Stop}
use Rattle.artery_watch.specs.declared.answers.Stop.TheVariants.{Stopped, NotThere as NoSuchActor}
use Rattle.artery_watch.specs.declared.answers.RemoteWatch.{RemoteWatch}
use Rattle.artery_watch.specs.declared.answers.RemoteWatch.TheVariants.{Added, There, NotThere, Full as RemoteFull}
use Rattle.artery_watch.specs.Keys.{pair_of, remote_of}
use Rattle.artery_watch.specs.Place.{is_at, after}
use Rattle.artery_watch.specs.Watcher.{Kept as Watches, watching, unwatching, spawning, stopping, remote_watching, kept_watched, kept_unwatched, kept_spawned, kept_stopped, kept_remote_watched, kept_remote_unwatched}
use Rattle.artery_text.specs.Spelling.{address_text}
use Rattle.artery_machine.specs.Lists.{or_else}
use Rattle.artery_machine.specs.Deeds.{Sends}
use Rattle.artery_machine.specs.Parts.{Parts}
use Rattle.artery_machine.specs.Node.{Peer, peer_at, current_of, current_dial, incarnation}
use Rattle.artery_machine.specs.Doing.{Sink, Rule, ◌▸◌, where_true, tells_of, writes_on, peer_becomes, each}
use Rattle.artery_machine.specs.Closing.{without_detector}
use Rattle.artery_machine.specs.Sending.{most_held, meaning_of, told_as, tells_told, tells_on, with_held, holds, tells_or_holds, tells_message, without_held, tells_held}
use Rattle.artery_machine.specs.Watching.{reference, address_in, notice, watch_kind, ended_kind, Told, Begins, Ends, HasEnded, Nothing, told_of, would_overflow, watches_at, watches_become, after_last_watch, begins_watch, watches_as, watches_pair, ends_watch, unwatches_as, unwatches_pair, at_reference, watches, unwatches, spawns_as, spawns, sends_to_reference, tells_ended, kills_as, kills, is_watched_as, is_watched, is_unwatched, at_own, terminates_as, terminates, acts_as, acts}
use Rattle.artery_laws.proofs.Over.{Over, SinkOver, peer_over, peer_at_over, seen, ◌▹◌, if_over, each_over, peer_becomes_over}
use Rattle.artery_laws.proofs.OverSending.{Alike, stays_here, tells_here, writes_here, watching_here, at_request_over, sends_over}

module _ {P Q : Parts} (h : Over P Q) {E F : Sink} (s : SinkOver E F) where
  -- ---- telling

  pub written_name_over : (t : P.Adopted) (name : List ℕ) → written_name (Q.indices (h.adopted t)) name ≡ written_name (P.indices t) name
  written_name_over t [] = refl
  written_name_over t (b ∷ bs) = ap (indexed (b ∷ bs)) (h.indices_index t (b ∷ bs))

  pub written_over : (r m : P.Adopted) (x : Meaning) → written (Q.indices (h.adopted r)) (Q.indices (h.adopted m)) x ≡ written (P.indices r) (P.indices m) x
  written_over r m x = rw (h.indices_version r, h.indices_version m, written_name_over r x.sender, written_name_over r x.recipient, written_name_over m x.manifest) refl

  pub told_as_over : (uid : ℕ) (p : Peer P) (m : Tell) → told_as uid (peer_over h p) m ≡ told_as uid p m
  told_as_over uid p m = ap Sends (written_over p.tables.refs p.tables.manifests (meaning_of uid m))

  pub tells_told_over : (a : Address) (uid : Option ℕ) (x : ℕ) (m : Tell) → Alike h s (tells_told a uid x m) (tells_told a uid x m)
  tells_told_over a None x m = stays_here h s
  tells_told_over a (Some uid) x m = tells_here h s (λ me. lines.Told me (incarnation a uid) x m)

  pub tells_on_over : (a : Address) (x : ℕ) (m : Tell) → Alike h s (tells_on a x m) (tells_on a x m)
  tells_on_over a x m = record {
    on = λ d. ap (λ (p : Peer Q). (tells_told a (current_of p) x m ▸ writes_on (Some x) (told_as d.node.me.uid p m)) (seen h s d)) (peer_at_over h a d.node)
        ∙ ap (λ w. (tells_told a (current_of (peer_at a d.node)) x m ▸ writes_on (Some x) w) (seen h s d)) (told_as_over d.node.me.uid (peer_at a d.node) m)
        ∙ (tells_told_over a (current_of (peer_at a d.node)) x m ▹ writes_here h s (Some x) (told_as d.node.me.uid (peer_at a d.node) m)).on d;
  }

  pub holds_over : (a : Address) (m : Tell) → Alike h s (holds a m) (holds a m)
  holds_over a m = record {
    on = λ d. ap (λ (p : Peer Q). cond (nat_lt (length p.held) most_held) (peer_becomes a (with_held m)) (tells_of (λ me. lines.Refused me reasons.Held)) (seen h s d)) (peer_at_over h a d.node)
        ∙ (if_over (nat_lt (length (peer_at a d.node).held) most_held) _ _ _ _ (held_over m) (tells_here h s (λ me. lines.Refused me reasons.Held))).on d;
  }
    where
      held_over : (m : Tell) → Alike h s (peer_becomes a (with_held m)) (peer_becomes a (with_held m))
      held_over m = peer_becomes_over a (with_held m) (with_held m) (λ p. refl)

  pub tells_or_holds_over : (a : Address) (m : Tell) (x : Option ℕ) → Alike h s (tells_or_holds a m x) (tells_or_holds a m x)
  tells_or_holds_over a m (Some x) = tells_on_over a x m
  tells_or_holds_over a m None = holds_over a m

  pub tells_message_over : (a : Address) (m : Tell) → Alike h s (tells_message a m) (tells_message a m)
  tells_message_over a m = record {
    on = λ d. ap (λ (p : Peer Q). tells_or_holds a m (current_dial streams.Ordinary p) (seen h s d)) (peer_at_over h a d.node)
        ∙ (tells_or_holds_over a m (current_dial streams.Ordinary (peer_at a d.node))).on d;
  }

  pub tells_held_over : (a : Address) (x : ℕ) → Alike h s (tells_held a x) (tells_held a x)
  tells_held_over a x = record {
    on = λ d. ap (λ (p : Peer Q). (peer_becomes a without_held ▸ each p.held (tells_on a x)) (seen h s d)) (peer_at_over h a d.node)
        ∙ (emptied ▹ all_over (peer_at a d.node).held).on d;
  }
    where
      emptied : Alike h s (peer_becomes a without_held) (peer_becomes a without_held)
      emptied = peer_becomes_over a without_held without_held (λ p. refl)

      all_over : (ms : List Tell) → Alike h s (each ms (tells_on a x)) (each ms (tells_on a x))
      all_over ms = each_over ms (tells_on a x) (tells_on a x) (λ m. tells_on_over a x m)

  -- ---- watching

  pub watches_become_over : (g : Watches → Watches) → Alike h s (watches_become g) (watches_become g)
  watches_become_over g = watching_here h s g

  pub detector_over : (a : Address) → Alike h s (peer_becomes a without_detector) (peer_becomes a without_detector)
  detector_over a = peer_becomes_over a without_detector without_detector (λ p. ap (λ (b : Q.Beats). record (peer_over h (without_detector p)) { beats = b }) h.no_beats)

  pub where_over : (b : Bool) (r : Rule P E) (q : Rule Q F) → Alike h s r q → Alike h s (where_true b r) (where_true b q)
  where_over true r q e = e
  where_over false r q e = stays_here h s

  pub after_last_watch_over : (a : Address) → Alike h s (after_last_watch a) (after_last_watch a)
  after_last_watch_over a = record { on = λ d. (where_over (not (watches_at a d.node)) _ _ (detector_over a)).on d }

  pub begins_watch_over : (a : Address) (p : Pair) (id : ℕ) → Alike h s (begins_watch a p id) (begins_watch a p id)
  begins_watch_over a p id = watches_become_over (kept_watched p) ▹ tells_here h s (λ me. lines.Watched me id p.watcher p.watchee) ▹ sends_over h s a _

  pub watches_as_over : (a : Address) (p : Pair) (x : Watch) → Alike h s (watches_as a p x) (watches_as a p x)
  watches_as_over a p (Already id) = record { on = λ d. (tells_here h s (λ me. lines.Refused me reasons.Watching)).on d }
  watches_as_over a p WatchesFull = record { on = λ d. (tells_here h s (λ me. lines.Refused me reasons.Watches)).on d }
  watches_as_over a p (Watching id) = record {
    on = λ d. ap (λ (x : Peer Q). cond (would_overflow (Q.acceptance (notice watch_kind p.watchee p.watcher) x.out) (current_of x)) (tells_of (λ me. lines.Refused me reasons.Waiting)) (begins_watch a p id) (seen h s d)) (peer_at_over h a d.node)
        ∙ ap (λ x. cond (would_overflow x (current_of (peer_at a d.node))) (tells_of (λ me. lines.Refused me reasons.Waiting)) (begins_watch a p id) (seen h s d)) (h.acceptance (notice watch_kind p.watchee p.watcher) (peer_at a d.node).out)
        ∙ (if_over (would_overflow (P.acceptance (notice watch_kind p.watchee p.watcher) (peer_at a d.node).out) (current_of (peer_at a d.node))) _ _ _ _ (tells_here h s (λ me. lines.Refused me reasons.Waiting)) (begins_watch_over a p id)).on d;
  }

  pub watches_pair_over : (a : Address) (p : Pair) → Alike h s (watches_pair a p) (watches_pair a p)
  watches_pair_over a p = record { on = λ d. (watches_as_over a p (watching p d.node.watching.watches)).on d }

  pub ends_watch_over : (a : Address) (p : Pair) (id : ℕ) → Alike h s (ends_watch a p id) (ends_watch a p id)
  ends_watch_over a p id = watches_become_over (kept_unwatched p) ▹ tells_here h s (λ me. lines.Unwatched me id) ▹ sends_over h s a _ ▹ after_last_watch_over a

  pub unwatches_as_over : (a : Address) (p : Pair) (x : Unwatch) → Alike h s (unwatches_as a p x) (unwatches_as a p x)
  unwatches_as_over a p NotWatched = tells_here h s (λ me. lines.Refused me reasons.NotWatched)
  unwatches_as_over a p (Unwatched id) = ends_watch_over a p id

  pub unwatches_pair_over : (a : Address) (p : Pair) → Alike h s (unwatches_pair a p) (unwatches_pair a p)
  unwatches_pair_over a p = record { on = λ d. (unwatches_as_over a p (unwatching p d.node.watching.watches)).on d }

  pub at_reference_over : (a : Option Address) (r : Address → Rule P E) (q : Address → Rule Q F) → ((a : Address) → Alike h s (r a) (q a)) → Alike h s (at_reference a r) (at_reference a q)
  at_reference_over None r q e = stays_here h s
  at_reference_over (Some a) r q e = at_request_over h s a (r a) (q a) (e a)

  pub watches_over : (path watchee : List ℕ) → Alike h s (watches path watchee) (watches path watchee)
  watches_over path watchee = record {
    on = λ d. (at_reference_over (address_in watchee)
        (λ a. watches_pair a (pair_of (reference d.node.me.address path) watchee)) (λ a. watches_pair a (pair_of (reference d.node.me.address path) watchee))
        (λ a. watches_pair_over a (pair_of (reference d.node.me.address path) watchee))).on d;
  }

  pub unwatches_over : (path watchee : List ℕ) → Alike h s (unwatches path watchee) (unwatches path watchee)
  unwatches_over path watchee = record {
    on = λ d. (at_reference_over (address_in watchee)
        (λ a. unwatches_pair a (pair_of (reference d.node.me.address path) watchee)) (λ a. unwatches_pair a (pair_of (reference d.node.me.address path) watchee))
        (λ a. unwatches_pair_over a (pair_of (reference d.node.me.address path) watchee))).on d;
  }

  pub spawns_as_over : (path : List ℕ) (x : Spawn) → Alike h s (spawns_as path x) (spawns_as path x)
  spawns_as_over path Spawned = watches_become_over (kept_spawned path) ▹ tells_here h s (λ me. lines.Spawned me path)
  spawns_as_over path Exists = tells_here h s (λ me. lines.Refused me reasons.Exists)
  spawns_as_over path ActorsFull = tells_here h s (λ me. lines.Refused me reasons.Actors)

  pub spawns_over : (path : List ℕ) → Alike h s (spawns path) (spawns path)
  spawns_over path = record { on = λ d. (spawns_as_over path (spawning path d.node.watching.actors)).on d }

  pub sends_to_reference_over : (a : Option Address) (m : SysMsg) → Alike h s (sends_to_reference a m) (sends_to_reference a m)
  sends_to_reference_over None m = stays_here h s
  sends_to_reference_over (Some a) m = sends_over h s a m

  pub tells_ended_over : (path watcher : List ℕ) → Alike h s (tells_ended path watcher) (tells_ended path watcher)
  tells_ended_over path watcher = record { on = λ d. (sends_to_reference_over (address_in watcher) (notice ended_kind (reference d.node.me.address path) watcher)).on d }

  pub kills_as_over : (path : List ℕ) (x : Stop) → Alike h s (kills_as path x) (kills_as path x)
  kills_as_over path NoSuchActor = tells_here h s (λ me. lines.Refused me reasons.NotThere)
  kills_as_over path (Stopped watchers) = watches_become_over (kept_stopped path) ▹ tells_here h s (λ me. lines.Ended me path) ▹ each_over watchers (tells_ended path) (tells_ended path) (λ w. tells_ended_over path w)

  pub kills_over : (path : List ℕ) → Alike h s (kills path) (kills path)
  kills_over path = record { on = λ d. (kills_as_over path (stopping path d.node.watching.actors)).on d }

  -- ---- notices that came

  pub is_watched_as_over : (v : UniqueAddress) (n : Notice) (path : List ℕ) (x : RemoteWatch) → Alike h s (is_watched_as v n path x) (is_watched_as v n path x)
  is_watched_as_over v n path NotThere = sends_over h s v.address _
  is_watched_as_over v n path RemoteFull = tells_here h s (λ me. lines.Refused me reasons.RemoteWatches)
  is_watched_as_over v n path There = stays_here h s
  is_watched_as_over v n path Added = watches_become_over (kept_remote_watched path (remote_of n.watcher v))

  pub is_watched_over : (v : UniqueAddress) (n : Notice) (path : List ℕ) → Alike h s (is_watched v n path) (is_watched v n path)
  is_watched_over v n path = record { on = λ d. (is_watched_as_over v n path (remote_watching path (remote_of n.watcher v) d.node.watching.actors)).on d }

  pub at_own_over : (a : Address) (text : List ℕ) (r : List ℕ → Rule P E) (q : List ℕ → Rule Q F) → ((path : List ℕ) → Alike h s (r path) (q path)) → Alike h s (at_own a text r) (at_own a text q)
  at_own_over a text r q e = if_over (is_at a text) _ _ _ _ (e (or_else [] (after (address_text a) text))) (stays_here h s)

  pub terminates_as_over : (a : Address) (p : Pair) (x : Unwatch) → Alike h s (terminates_as a p x) (terminates_as a p x)
  terminates_as_over a p NotWatched = stays_here h s
  terminates_as_over a p (Unwatched id) = watches_become_over (kept_unwatched p) ▹ tells_here h s (λ me. lines.Terminated me id) ▹ after_last_watch_over a

  pub terminates_over : (a : Address) (p : Pair) → Alike h s (terminates a p) (terminates a p)
  terminates_over a p = record { on = λ d. (terminates_as_over a p (unwatching p d.node.watching.watches)).on d }

  pub acts_as_over : (v : UniqueAddress) (own : Address) (x : Told) → Alike h s (acts_as v own x) (acts_as v own x)
  acts_as_over v own (Begins n) = where_over (is_at v.address n.watcher) _ _ (at_own_over own n.actor (is_watched v n) (is_watched v n) (is_watched_over v n))
  acts_as_over v own (Ends n) = at_own_over own n.actor (is_unwatched v n) (is_unwatched v n) (λ path. watches_become_over (kept_remote_unwatched path (remote_of n.watcher v)))
  acts_as_over v own (HasEnded n) = where_over (is_at v.address n.actor) _ _ (terminates_over v.address (pair_of n.watcher n.actor))
  acts_as_over v own Nothing = stays_here h s

  pub acts_over : (v : UniqueAddress) (m : SysMsg) → Alike h s (acts v m) (acts v m)
  acts_over v m = record { on = λ d. (acts_as_over v d.node.me.address (told_of m)).on d }
