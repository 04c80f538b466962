-- Rules of peers, watches and deeds leave the inbound connections, the origins, and what was taken from them, as they were.
use Rattle.std.proofs.Common.{◌≡◌, ℕ, zero, suc, ◌+◌, Bool, true, false, cond, List, [], ◌∷◌, length, refl, ◌∙◌}
use Rattle.std.specs.Prelude.{nat_lt, not, Option, Some, None}
use Rattle.artery_base.specs.declared.address.Address.{Address}
use Rattle.artery_base.specs.declared.address.UniqueAddress.{UniqueAddress}
use Rattle.artery_base.specs.declared.message.SysMsg.{SysMsg}
use Rattle.artery_control.specs.declared.control.Control.{Control}
use Rattle.artery_control.specs.declared.control.Control.TheVariants as controls
use Rattle.artery_delivery.specs.declared.outbound.Accept.{Accept}
use Rattle.artery_delivery.specs.declared.outbound.Accept.TheVariants.{Accepted, Waiting, Overflow}
use Rattle.artery_frame.specs.declared.stream.Stream.{Stream}
use Rattle.artery_frame.specs.declared.stream.Stream.TheVariants as streams
use Rattle.artery_journal.specs.declared.line.Line.{Line}
use Rattle.artery_journal.specs.declared.line.Line.TheVariants as lines
use Rattle.artery_journal.specs.declared.words.Reason.TheVariants as reasons
use Rattle.artery_journal.specs.declared.words.Cause.{Cause}
use Rattle.artery_journal.specs.declared.words.Cause.TheVariants as causes
use Rattle.artery_watch.specs.declared.notice.Notice.{Notice}
use Rattle.artery_watch.specs.declared.pair.Pair.{Pair}
use Rattle.artery_watch.specs.declared.answers.Unwatch.{Unwatch}
use Rattle.artery_watch.specs.declared.answers.Unwatch.TheVariants.{Unwatched, NotWatched}
use Rattle.artery_watch.specs.declared.answers.RemoteWatch.{RemoteWatch}
use Rattle.artery_watch.specs.declared.answers.RemoteWatch.TheVariants.{Added, There, NotThere, Full as RemoteFull}
use Rattle.artery_watch.specs.Keys.{pair_of, remote_of}
use Rattle.artery_watch.specs.Place.{is_at, after}
use Rattle.artery_watch.specs.Watcher.{Kept as Watching, ids_at, unwatching, remote_watching, kept_closed, kept_forgotten}
use Rattle.artery_text.specs.Spelling.{address_text}
use Rattle.artery_machine.specs.Lists.{or_else}
use Rattle.artery_machine.specs.Deeds.{Deed, Writing, Controls}
use Rattle.artery_machine.specs.Parts.{Parts}
use Rattle.artery_machine.specs.Node.{Node, Peer, Inbound, Origin, with_link, peer_at, conn_of, current_of, incarnation}
use Rattle.artery_machine.specs.Doing.{Sink, Doing, Rule, ◌▸◌, stays, where_true, does, becomes, tells_of, writes_on, hangs_up, peer_becomes, each, times}
use Rattle.artery_machine.specs.Making.{link_gone, used_now, dials_as, dials, last_dial, wakes, uses}
use Rattle.artery_machine.specs.Closing.{dial_of, is_told, control_dial, without_detector, with_closed, with_new_tables, on_control, on_control_to, quarantines, drops_ordinary, terminates_at, closes, closes_current}
use Rattle.artery_machine.specs.Sending.{with_out, begins_waiting, pumps_next, pumps_one, pumps, tells_sent, sent_as, sends_now, sends}
use Rattle.artery_machine.specs.Watching.{Told, Begins, Ends, HasEnded, Nothing, told_of, watches_at, after_last_watch, is_watched_as, is_watched, is_unwatched, at_own, terminates_as, terminates, acts_as, acts}

-- What these rules leave.
pub record Left (P : Parts) : Type 0 where
  pub me : UniqueAddress
  pub origins : List (Origin P)
  pub taken : P.In
  pub inbound : List (Inbound P)

abbrev pub left : {P : Parts} → Node P → Left P
left n = record { me = n.me; origins = n.origins; taken = n.taken; inbound = n.inbound }

module _ {P : Parts} {E : Sink} where
  pub record Leaves (r : Rule P E) : Type 0 where
    pub on : (d : Doing P E) → left (r d).node ≡ left d.node

infixr 35 ◌▹◌
pub ◌▹◌ : {P : Parts} {E : Sink} {r t : Rule P E} → Leaves r → Leaves t → Leaves (r ▸ t)
◌▹◌ {P} {E} {r} {t} a b = record { on = λ d. b.on (r d) ∙ a.on d }

module _ {P : Parts} {E : Sink} where
  stays_leaves : Leaves {P = P} {E = E} stays
  stays_leaves = record { on = λ d. refl }

  does_leaves : (deed : Deed) → Leaves {P = P} {E = E} (does deed)
  does_leaves deed = record { on = λ d. refl }

  pub tells_leave : (line : UniqueAddress → Line) → Leaves {P = P} {E = E} (tells_of line)
  tells_leave line = record { on = λ d. refl }

  pub peer_leaves : (a : Address) (g : Peer P → Peer P) → Leaves {P = P} {E = E} (peer_becomes a g)
  peer_leaves a g = record { on = λ d. refl }

  watching_leaves : (g : Watching → Watching) → Leaves {P = P} {E = E} (becomes (λ n. record n { watching = g n.watching }))
  watching_leaves g = record { on = λ d. refl }

  if_leaves : (b : Bool) (r t : Rule P E) → Leaves r → Leaves t → Leaves (cond b r t)
  if_leaves true r t a c = a
  if_leaves false r t a c = c

  where_leaves : (b : Bool) (r : Rule P E) → Leaves r → Leaves (where_true b r)
  where_leaves true r a = a
  where_leaves false r a = stays_leaves

  each_leaves : {X : Type 0} (xs : List X) (r : X → Rule P E) → ((x : X) → Leaves (r x)) → Leaves (each xs r)
  each_leaves [] r a = stays_leaves
  each_leaves (x ∷ xs) r a = a x ▹ each_leaves xs r a

  times_leave : (k : ℕ) (r : Rule P E) → Leaves r → Leaves (times k r)
  times_leave zero r a = stays_leaves
  times_leave (suc k) r a = a ▹ times_leave k r a

  pub writes_leave : (dial : Option ℕ) (w : Writing) → Leaves {P = P} {E = E} (writes_on dial w)
  writes_leave None w = stays_leaves
  writes_leave (Some dial) w = record { on = λ d. refl }

  pub hangs_leave : (dial : Option ℕ) → Leaves {P = P} {E = E} (hangs_up dial)
  hangs_leave None = stays_leaves
  hangs_leave (Some dial) = record { on = λ d. refl }

  dials_as_leaves : (stream : Stream) (a : Address) (x : ℕ) → Leaves {P = P} {E = E} (dials_as stream a x)
  dials_as_leaves stream a x = record { on = λ d. refl }

  pub dials_leave : (stream : Stream) (a : Address) → Leaves {P = P} {E = E} (dials stream a)
  dials_leave stream a = record { on = λ d. (if_leaves (nat_lt d.node.dials last_dial) _ _ (dials_as_leaves stream a (d.node.dials + 1)) stays_leaves).on d }

  wakes_leaves : (b : Bool) (a : Address) → Leaves {P = P} {E = E} (wakes b a)
  wakes_leaves true a = dials_leave streams.Control a
  wakes_leaves false a = stays_leaves

  pub uses_leaves : (a : Address) → Leaves {P = P} {E = E} (uses a)
  uses_leaves a = record { on = λ d. (peer_leaves a (used_now d.node.moment) ▹ wakes_leaves (peer_at a d.node).asleep a).on d }

  pub on_control_leaves : (v : UniqueAddress) (c : Control) → Leaves {P = P} {E = E} (on_control v c)
  on_control_leaves v c = record { on = λ d. (writes_leave (control_dial v d.node) (Controls c)).on d }

  on_control_to_leaves : (a : Address) (uid : Option ℕ) (c : Control) → Leaves {P = P} {E = E} (on_control_to a uid c)
  on_control_to_leaves a None c = stays_leaves
  on_control_to_leaves a (Some uid) c = on_control_leaves (incarnation a uid) c

  pub quarantines_leaves : (v : UniqueAddress) → Leaves {P = P} {E = E} (quarantines v)
  quarantines_leaves v = record { on = λ d. (on_control_leaves v (controls.Quarantined d.node.me v)).on d }

  drops_leave : (a : Address) → Leaves {P = P} {E = E} (drops_ordinary a)
  drops_leave a = record { on = λ d. (hangs_leave (dial_of (conn_of streams.Ordinary (peer_at a d.node))) ▹ peer_leaves a (with_link streams.Ordinary link_gone)).on d }

  terminated_leave : (ids : List ℕ) → Leaves {P = P} {E = E} (each ids (λ id. tells_of (λ me. lines.Terminated me id)))
  terminated_leave ids = each_leaves ids (λ id. tells_of (λ me. lines.Terminated me id)) (λ id. tells_leave (λ me. lines.Terminated me id))

  terminates_at_leaves : (a : Address) → Leaves {P = P} {E = E} (terminates_at a)
  terminates_at_leaves a = record { on = λ d. (terminated_leave (ids_at a d.node.watching.watches.list) ▹ watching_leaves (kept_closed a)).on d }

  closes_leaves : (a : Address) (c : Cause) (uid : ℕ) → Leaves {P = P} {E = E} (closes a c uid)
  closes_leaves a c uid =
      tells_leave _
      ▹ peer_leaves a (with_closed uid)
      ▹ if_leaves (is_told c) _ _ (quarantines_leaves (incarnation a uid)) stays_leaves
      ▹ drops_leave a
      ▹ watching_leaves (kept_forgotten (incarnation a uid))
      ▹ terminates_at_leaves a
      ▹ peer_leaves a without_detector
      ▹ peer_leaves a with_new_tables

  pub closes_current_leaves : (a : Address) (c : Cause) (uid : Option ℕ) (other : Rule P E) → Leaves other → Leaves (closes_current a c uid other)
  closes_current_leaves a c None other x = x
  closes_current_leaves a c (Some uid) other x = closes_leaves a c uid

  pumps_next_leaves : (a : Address) (x : Option (ℕ × SysMsg)) → Leaves {P = P} {E = E} (pumps_next a x)
  pumps_next_leaves a None = record { on = λ d. refl }
  pumps_next_leaves a (Some x) = record { on = λ d. (peer_leaves a (with_out P.pumped) ▹ on_control_to_leaves a (current_of (peer_at a d.node)) (controls.Numbered x.0 x.1 d.node.me)).on d }

  pumps_one_leaves : (a : Address) → Leaves {P = P} {E = E} (pumps_one a)
  pumps_one_leaves a = record { on = λ d. (pumps_next_leaves a (P.next (peer_at a d.node).out)).on d }

  pub pumps_leave : (a : Address) → Leaves {P = P} {E = E} (pumps a)
  pumps_leave a = record { on = λ d. (times_leave (length (P.unacknowledged (peer_at a d.node).out)) (pumps_one a) (pumps_one_leaves a)).on d }

  pub sent_leaves : (a : Address) (uid : Option ℕ) (n : ℕ) (m : SysMsg) → Leaves {P = P} {E = E} (tells_sent a uid n m)
  sent_leaves a None n m = stays_leaves
  sent_leaves a (Some uid) n m = tells_leave _

  sent_as_leaves : (a : Address) (m : SysMsg) (x : Accept) → Leaves {P = P} {E = E} (sent_as a m x)
  sent_as_leaves a m (Accepted n) = record { on = λ d. (peer_leaves a (begins_waiting d.node.moment) ▹ peer_leaves a (with_out (P.accepted m)) ▹ sent_leaves a (current_of (peer_at a d.node)) n m ▹ pumps_leave a).on d }
  sent_as_leaves a m (Waiting place) = record { on = λ d. refl }
  sent_as_leaves a m (Overflow back) = record { on = λ d. (closes_current_leaves a causes.Overflow (current_of (peer_at a d.node)) _ (tells_leave (λ me. lines.Refused me reasons.Waiting))).on d }

  sends_now_leaves : (a : Address) (m : SysMsg) → Leaves {P = P} {E = E} (sends_now a m)
  sends_now_leaves a m = record { on = λ d. (sent_as_leaves a m (P.acceptance m (peer_at a d.node).out)).on d }

  sends_leaves : (a : Address) (m : SysMsg) → Leaves {P = P} {E = E} (sends a m)
  sends_leaves a m = uses_leaves a ▹ sends_now_leaves a m

  last_watch_leaves : (a : Address) → Leaves {P = P} {E = E} (after_last_watch a)
  last_watch_leaves a = record { on = λ d. (where_leaves (not (watches_at a d.node)) _ (peer_leaves a without_detector)).on d }

  watched_as_leaves : (v : UniqueAddress) (n : Notice) (path : List ℕ) (x : RemoteWatch) → Leaves {P = P} {E = E} (is_watched_as v n path x)
  watched_as_leaves v n path NotThere = sends_leaves v.address _
  watched_as_leaves v n path RemoteFull = tells_leave _
  watched_as_leaves v n path There = stays_leaves
  watched_as_leaves v n path Added = record { on = λ d. refl }

  watched_leaves : (v : UniqueAddress) (n : Notice) (path : List ℕ) → Leaves {P = P} {E = E} (is_watched v n path)
  watched_leaves v n path = record { on = λ d. (watched_as_leaves v n path (remote_watching path (remote_of n.watcher v) d.node.watching.actors)).on d }

  own_leaves : (a : Address) (text : List ℕ) (r : List ℕ → Rule P E) → ((path : List ℕ) → Leaves (r path)) → Leaves (at_own a text r)
  own_leaves a text r x = if_leaves (is_at a text) _ _ (x (or_else [] (after (address_text a) text))) stays_leaves

  terminates_as_leaves : (a : Address) (p : Pair) (x : Unwatch) → Leaves {P = P} {E = E} (terminates_as a p x)
  terminates_as_leaves a p NotWatched = stays_leaves
  terminates_as_leaves a p (Unwatched id) = watching_leaves _ ▹ tells_leave (λ me. lines.Terminated me id) ▹ last_watch_leaves a

  terminates_leaves : (a : Address) (p : Pair) → Leaves {P = P} {E = E} (terminates a p)
  terminates_leaves a p = record { on = λ d. (terminates_as_leaves a p (unwatching p d.node.watching.watches)).on d }

  acts_as_leaves : (v : UniqueAddress) (own : Address) (x : Told) → Leaves {P = P} {E = E} (acts_as v own x)
  acts_as_leaves v own (Begins n) = where_leaves (is_at v.address n.watcher) _ (own_leaves own n.actor (is_watched v n) (watched_leaves v n))
  acts_as_leaves v own (Ends n) = own_leaves own n.actor (is_unwatched v n) (λ path. record { on = λ d. refl })
  acts_as_leaves v own (HasEnded n) = where_leaves (is_at v.address n.actor) _ (terminates_leaves v.address (pair_of n.watcher n.actor))
  acts_as_leaves v own Nothing = stays_leaves

  pub acts_leave : (v : UniqueAddress) (m : SysMsg) → Leaves {P = P} {E = E} (acts v m)
  acts_leave v m = record { on = λ d. (acts_as_leaves v d.node.me.address (told_of m)).on d }
