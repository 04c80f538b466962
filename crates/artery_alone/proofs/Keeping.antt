-- Each rule keeps what holds of a node and its lines.
use Rattle.std.proofs.Common.{◌≡◌, ℕ, ◌+◌, Bool, true, false, cond, List, [], ◌∷◌, ◌++◌, map, refl, ap, sym, ◌∙◌, subst, arith}
use Rattle.std.specs.Prelude.{if◌then◌else◌, ◌&&◌, ◌||◌, ◌==◌, nat_lt, not, filter, length, Option, Some, None, Result, Ok, Err}
use Rattle.artery_base.specs.declared.address.Address.{Address}
use Rattle.artery_base.specs.declared.address.UniqueAddress.{UniqueAddress}
use Rattle.artery_base.specs.declared.message.Request.{Request}
use Rattle.artery_base.specs.declared.message.Request.TheVariants as requests
use Rattle.artery_base.specs.declared.message.SysMsg.{SysMsg}
use Rattle.artery_base.specs.declared.message.Tell.{Tell}
use Rattle.artery_assoc.specs.Peer.{PeerState, is_that, peer_closed, learning}
use Rattle.artery_assoc.specs.declared.peer.Learn.{Learn}
use Rattle.artery_assoc.specs.declared.peer.Learn.TheVariants.{Learnt, Same as IsSame, WasClosed, ClosedFull}
use Rattle.artery_codec.specs.Meaning.{Meaning}
use Rattle.artery_control.specs.declared.control.Control.{Control}
use Rattle.artery_control.specs.declared.control.Control.TheVariants as controls
use Rattle.artery_delivery.specs.declared.outbound.Accept.{Accept}
use Rattle.artery_delivery.specs.declared.outbound.Accept.TheVariants.{Accepted, Waiting, Overflow}
use Rattle.artery_delivery.specs.declared.inbound.Take.{Take}
use Rattle.artery_delivery.specs.declared.inbound.Take.TheVariants.{Taken, Again, Gap}
use Rattle.artery_frame.specs.declared.stream.Stream.{Stream}
use Rattle.artery_frame.specs.declared.stream.Stream.TheVariants as streams
use Rattle.artery_frame.specs.declared.fault.FrameFault.{FrameFault}
use Rattle.artery_handshake.specs.declared.out_conn.OnRsp.{OnRsp}
use Rattle.artery_handshake.specs.declared.out_conn.OnRsp.TheVariants.{Bind, Repeat, Stray}
use Rattle.artery_handshake.specs.Outgoing.{conn_answered}
use Rattle.artery_header.specs.Envelope.{EnvelopeOf}
use Rattle.artery_journal.specs.declared.line.Line.{Line}
use Rattle.artery_journal.specs.declared.line.Line.TheVariants as lines
use Rattle.artery_journal.specs.declared.rule.Rule.{Rule as DropRule}
use Rattle.artery_journal.specs.declared.rule.Rule.TheVariants as rules
use Rattle.artery_journal.specs.declared.words.Cause.{Cause}
use Rattle.artery_journal.specs.declared.words.Cause.TheVariants as causes
use Rattle.artery_journal.specs.declared.words.Kind.TheVariants.{Refs, Manifests}
use Rattle.artery_journal.specs.declared.words.Reason.TheVariants as reasons
use Rattle.artery_judge.specs.Lines.{Entry, same, of, is_way, says_closed, says_took, deals, says_watched, says_unwatched, is_started, is_stopped, is_said}
use Rattle.artery_judge.specs.Laws.{taken_from, has_closed, breaks_closed, watches_again, ends_nothing}
use Rattle.artery_alone.specs.Alone.{moment_then, watch_law}
use Rattle.artery_text.specs.Spelling.{address_text}
use Rattle.artery_watch.specs.declared.notice.Notice.{Notice}
use Rattle.artery_watch.specs.declared.pair.Pair.{Pair}
use Rattle.artery_watch.specs.declared.answers.Watch.{Watch}
use Rattle.artery_watch.specs.declared.answers.Watch.TheVariants.{Watching, Already, Full as WatchesFull}
use Rattle.artery_watch.specs.declared.answers.Unwatch.{Unwatch}
use Rattle.artery_watch.specs.declared.answers.Unwatch.TheVariants.{Unwatched, NotWatched}
use Rattle.artery_watch.specs.declared.answers.Stop.{Stop}
use Rattle.artery_watch.specs.declared.answers.Stop.TheVariants.{Stopped, NotThere as NoSuchActor}
use Rattle.artery_watch.specs.declared.answers.RemoteWatch.{RemoteWatch}
use Rattle.artery_watch.specs.declared.answers.RemoteWatch.TheVariants.{Added, There, NotThere, Full as RemoteFull}
use Rattle.artery_watch.specs.Keys.{pair_of, remote_of, same_pair}
use Rattle.artery_watch.specs.Place.{is_at, after}
use Rattle.artery_watch.specs.Watcher.{Watches, id_of, is_full, watching, watching_by, watched_by, unwatching, unwatching_by, stopping, remote_watching, ids_at, kept_watched, kept_unwatched, kept_stopped, kept_closed, kept_forgotten, kept_remote_watched, watches_one_at}
use Rattle.std.specs.Map.{lookup, remove_entry}
use Rattle.artery_machine.specs.Lists.{or_else, change_first}
use Rattle.artery_machine.specs.declared.input.Conn.{Conn}
use Rattle.artery_machine.specs.declared.input.Conn.TheVariants.{Outward, Inward}
use Rattle.artery_machine.specs.declared.input.Input.{Input}
use Rattle.artery_machine.specs.declared.input.Input.TheVariants as inputs
use Rattle.artery_machine.specs.Parts.{Parts}
use Rattle.artery_handshake.specs.Incoming.{answer_to_req}
use Rattle.artery_machine.specs.Node.{same_address, is_number, put_inbound, accepted_as, Node, Peer, Inbound, has_origin, origin_at, peer_at, inbound_at, current_of, current_dial, stream_dialed, dialed_as, speaker_in, nonce_in, incarnation, address_of}
use Rattle.artery_machine.specs.Doing.{Doing, Rule, ◌▸◌, stays, where_true, becomes, tells_of, peer_becomes, inbound_becomes, each}
use Rattle.artery_machine.specs.Making.{may_have, makes_missing, uses, at_request}
use Rattle.artery_machine.specs.Closing.{is_told, without_detector, with_closed, with_new_tables, quarantines, drops_ordinary, forgets_watches_of, terminates_at, closes, closes_current}
use Rattle.artery_machine.specs.Sending.{with_out, keeps_nothing, begins_waiting, told_as, without_held, tells_sent, sent_as, sends_now, sends, tells_told, tells_on, tells_or_holds, tells_message, tells_held}
use Rattle.artery_machine.specs.Watching.{notice, watch_kind, unwatch_kind, ended_kind, reference, address_in, Told, Begins, Ends, HasEnded, Nothing, told_of, would_overflow, watches_become, begins_watch, watches_as, watches_pair, unwatches_as, unwatches_pair, at_reference, watches, unwatches, sends_to_reference, tells_ended, kills_as, kills, is_watched_as, is_watched, is_unwatched, at_own, terminates_as, terminates, acts_as, acts}
use Rattle.artery_machine.specs.Verdict.{Content, Controls, Ordinary, OfClosed, Says, judged, is_shut, is_handshake, content_in}
use Rattle.artery_machine.specs.Handshaking.{most_origins, is_other, request_rule, with_origin, known_as, with_learnt, ordinary_dial, answer_at, is_met, change_conn, makes_origin, is_asked, drops_or, requested, tells_all_sent, tells_waiting, learns_new, learns_as, learns, binds_ordinary, binds, answered_as, takes_answer, answered_by, answered_to, then_ordinary, answered_plainly, answered}
use Rattle.artery_machine.specs.Hearing.{table_number, tell_of, with_taken, with_shown, numbered_as, numbered, got, controlled, spoken, by_speaker, handles, heard_as, hears_on, hears, drops_closed}
use Rattle.artery_machine.specs.Ticking.{is_lost, asked_at, loses_patience, detects_of, detects_as, detects, ticks_peer, ticks_peers, beats}
use Rattle.artery_machine.specs.Watching.{watches_at}
use Rattle.artery_machine.specs.Reacting.{most_inbound, stream_rule, with_inbound, without_inbound, with_bytes, accepts, ends_broken, comes_on, comes, ended, quarantined, asked_for, reacts}
use Rattle.artery_alone.proofs.Names.{unique_self}
use Rattle.artery_alone.proofs.Journals.{noting, AllOf, Sound, sound_on}
use Rattle.artery_alone.proofs.Taking.{Counting, Took, is_known, took_line, took_alike, took_more, took_speakers, took_origin, last_known, found_known, known_as_known, put_known, filter_known, has_is_known, whos_length, whos_more}
use Rattle.artery_alone.proofs.Quiet.{whos, speakers, Known, known_of, known_at, Quiet, stays_quiet, tells_quiet, writes_quiet, inward_quiet, peer_quiet, inbound_quiet, watching_quiet, if_quiet, link_quiet, missing_quiet, uses_quiet, quarantines_quiet, drops_ordinary_quiet, pumps_quiet, holds_quiet, refuses_quiet, last_watch_quiet, spawns_quiet, unwatched_quiet, dialed_quiet, lost_quiet, gives_up_quiet, answers_quiet, drops_quiet, goes_on_quiet, strays_quiet, unless_quiet, ack_quiet, current_quiet, acked_quiet, nacked_quiet, tabled_quiet, confirms_quiet, beat_quiet, back_quiet, noticed_quiet, counts_quiet, closed_quiet, tends_control_quiet, tends_ordinary_quiet, resends_quiet, beats_quiet, sleeps_quiet, ticks_origins_quiet, ◌▹◌}
use Rattle.artery_alone.proofs.Watches.{one, count, count_ids, count_more, count_less, count_apart, Stand, one_more, new_is_lawful, one_less, end_is_lawful}
use Rattle.artery_alone.proofs.Facts.{stand_still, is_among, Good, IsOpen, Keeps, KeepsTo, ◌▻◌, good_same, open_same, quietly, to_then, to_one, stays_keep, if_keeps, where_keeps, each_keeps, DealsWith, tells_to, known_by, shuts, closed_address, closed_change, learnt_new, IsNew, learns_keeps, learns_open}

-- ---- watches

stand_as : (me : UniqueAddress) (given : ℕ) (s t : ℕ → ℕ) (ls : List Entry) → ((id : ℕ) → s id ≡ t id) → Stand me given s ls → Stand me given t ls
stand_as me given s t ls e h = subst (λ (x : ℕ → ℕ). Stand me given x ls) (λ i id. e id i) h

watching_is : (p : Pair) (w : Watches) (id : ℕ) → watching p w ≡ Watching id → w.given + 1 ≡ id
watching_is p w id e = by (id_of p w) (is_full w) refl e
  where
    number : Watch → ℕ
    number (Watching x) = x
    number (Already x) = x
    number WatchesFull = id

    by : (o : Option ℕ) (b : Bool) → is_full w ≡ b → watching_by o w ≡ Watching id → w.given + 1 ≡ id
    by (Some x) b t h = absurd cc
    by None true t h = absurd (let z : WatchesFull ≡ Watching id = sym (ap (λ c. cond c WatchesFull (Watching (w.given + 1))) t) ∙ h in cc)
    by None false t h = let z : Watching (w.given + 1) ≡ Watching id = sym (ap (λ c. cond c WatchesFull (Watching (w.given + 1))) t) ∙ h in ap number z

unwatching_is : (p : Pair) (w : Watches) (id : ℕ) → unwatching p w ≡ Unwatched id → lookup (same_pair p) w.list ≡ Some id
unwatching_is p w id e = by (id_of p w) e
  where
    number : Unwatch → ℕ
    number (Unwatched x) = x
    number NotWatched = id

    by : (o : Option ℕ) → unwatching_by o ≡ Unwatched id → o ≡ Some id
    by (Some x) h = ap (λ u. Some (number u)) h
    by None h = absurd cc

-- A line that a watch has ended.
pub record EndsWatch (id : ℕ) (line : UniqueAddress → Line) : Type 0 where
  pub unwatched : (me : UniqueAddress) → says_unwatched (line me) ≡ Some (me, id)
  pub deals : (me : UniqueAddress) → deals (line me) ≡ None
  pub closed : (me : UniqueAddress) → says_closed (line me) ≡ None
  pub took : (me : UniqueAddress) → says_took (line me) ≡ None
  pub own : (me : UniqueAddress) → of (line me) ≡ me
  pub watched : (me : UniqueAddress) → says_watched (line me) ≡ None
  pub started : (me : UniqueAddress) → is_started (line me) ≡ false
  pub stopped : (me : UniqueAddress) → is_stopped (line me) ≡ false

terminated_is : (id : ℕ) → EndsWatch id (λ me. lines.Terminated me id)
terminated_is id = record { unwatched = λ me. refl; deals = λ me. refl; closed = λ me. refl; took = λ me. refl; own = λ me. refl; watched = λ me. refl; started = λ me. refl; stopped = λ me. refl }

unwatched_is : (id : ℕ) → EndsWatch id (λ me. lines.Unwatched me id)
unwatched_is id = record { unwatched = λ me. refl; deals = λ me. refl; closed = λ me. refl; took = λ me. refl; own = λ me. refl; watched = λ me. refl; started = λ me. refl; stopped = λ me. refl }

ended_sound : (me : UniqueAddress) (given m id : ℕ) (stands rest : ℕ → ℕ) (ls : List Entry) (line : UniqueAddress → Line) → EndsWatch id line → (who : UniqueAddress) → who ≡ me → ((i : ℕ) → stands i ≡ one (id == i) + rest i) → Stand me given stands ls → Sound ls → Sound ((Some m, line who) ∷ ls)
ended_sound me given m id stands rest ls line l who e less s h = sound_on m ls (line who) h (l.started who) (l.stopped who) (ap (breaks_closed ls) (l.deals who))
    (ap (λ o. watches_again ls o || ends_nothing ls (says_unwatched (line who))) (l.watched who)
    ∙ ap (ends_nothing ls) (l.unwatched who ∙ ap (λ v. Some (v, id)) e)
    ∙ end_is_lawful id rest less s)

-- Lines that watches with these ids have ended, before others.
abbrev ended_lines : ℕ → UniqueAddress → List ℕ → List Entry → List Entry
ended_lines m who [] ls = ls
ended_lines m who (id ∷ ids) ls = ended_lines m who ids ((Some m, lines.Terminated who id) ∷ ls)

record AllEnded (me : UniqueAddress) (given : ℕ) (rest : ℕ → ℕ) (ls ks : List Entry) : Type 0 where
  pub stand : Stand me given rest ks
  pub sound : Sound ks
  pub closed : (v : UniqueAddress) → has_closed me v ks ≡ has_closed me v ls
  pub took : (b : UniqueAddress) → taken_from b me ks ≡ taken_from b me ls
  pub own : AllOf me ls → AllOf me ks

all_ended : (me : UniqueAddress) (given m : ℕ) (rest : ℕ → ℕ) (ids : List ℕ) (ls : List Entry) → Stand me given (λ i. count_ids i ids + rest i) ls → Sound ls → AllEnded me given rest ls (ended_lines m me ids ls)
all_ended me given m rest [] ls s h = record { stand = stand_as me given (λ i. 0 + rest i) rest ls (λ i. omega arith) s; sound = h; closed = λ v. refl; took = λ b. refl; own = λ o. o }
all_ended me given m rest (id ∷ ids) ls s h =
    let less : (i : ℕ) → (one (id == i) + count_ids i ids) + rest i ≡ one (id == i) + (count_ids i ids + rest i) = λ i. omega arith in
    let t : Stand me given (λ i. count_ids i ids + rest i) ((Some m, lines.Terminated me id) ∷ ls) = one_less m id (λ i. count_ids i ids + rest i) (lines.Terminated me id) refl refl less s in
    let u : Sound ((Some m, lines.Terminated me id) ∷ ls) = ended_sound me given m id (λ i. (one (id == i) + count_ids i ids) + rest i) (λ i. count_ids i ids + rest i) ls (λ who. lines.Terminated who id) (terminated_is id) me refl less s h in
    let r : AllEnded me given rest ((Some m, lines.Terminated me id) ∷ ls) (ended_lines m me ids ((Some m, lines.Terminated me id) ∷ ls)) = all_ended me given m rest ids ((Some m, lines.Terminated me id) ∷ ls) t u in
    record { stand = r.stand; sound = r.sound; closed = r.closed; took = r.took; own = λ o. r.own (unique_self me, o) }

module _ {P : Parts} {m : ℕ} where
  ends_one_by_one : (ids : List ℕ) (d : Doing P (noting m)) → each ids (λ id. tells_of (λ who. lines.Terminated who id)) d ≡ record { node = d.node; deeds = ended_lines m d.node.me ids d.deeds }
  ends_one_by_one [] d = refl
  ends_one_by_one (id ∷ ids) d = ends_one_by_one ids (tells_of (λ who. lines.Terminated who id) d)

  -- The watches at an address end, one by one.
  terminated_as : (a : Address) (d : Doing P (noting m)) → terminates_at a d ≡ record { node = record d.node { watching = kept_closed a d.node.watching }; deeds = ended_lines m d.node.me (ids_at a d.node.watching.watches.list) d.deeds }
  terminated_as a d = ap (becomes (λ n. record n { watching = kept_closed a n.watching })) (ends_one_by_one (ids_at a d.node.watching.watches.list) d)

module _ {P : Parts} {m : ℕ} {tally : Counting P} {me : UniqueAddress} where
  -- A watch begins, and a line tells so.
  begun_keeps : (p : Pair) (id : ℕ) (d : Doing P (noting m)) → watching p d.node.watching.watches ≡ Watching id → Good tally me d
      → Good tally me ((watches_become (kept_watched p) ▸ tells_of (λ who. lines.Watched who id p.watcher p.watchee)) d)
  begun_keeps p id d e g =
      let w : Watches = d.node.watching.watches in
      let after : Watches = record { list = w.list ++ (p, id) ∷ []; given = id } in
      let n : w.given + 1 ≡ id = watching_is p w id e in
      let line : ℕ → UniqueAddress → List Entry = λ x who. (Some m, lines.Watched who x p.watcher p.watchee) ∷ d.deeds in
      let s : Stand me (w.given + 1) (λ i. count i w.list + one (w.given + 1 == i)) (line (w.given + 1) me) = one_more m p.watcher p.watchee g.stand in
      let t : Stand me id (λ i. count i w.list + one (id == i)) (line id me) = subst (λ x. Stand me x (λ i. count i w.list + one (x == i)) (line x me)) n s in
      let u : Stand me id (λ i. count i after.list) (line id me) = stand_as me id (λ i. count i w.list + one (id == i)) (λ i. count i after.list) (line id me) (λ i. sym (count_more i p id w.list)) t in
      record {
        mine = g.mine;
        moment = g.moment;
        alive = g.alive;
        shut = g.shut;
        stand = subst (λ (x : Watches). Stand me x.given (λ i. count i x.list) (line id d.node.me)) (ap (λ x. watched_by x p w) (sym e)) (subst (λ who. Stand me id (λ i. count i after.list) (line id who)) (sym g.mine) u);
        sound = sound_on m d.deeds (lines.Watched d.node.me id p.watcher p.watchee) g.sound refl refl refl (lawful n);
        own = (ap (same me) g.mine ∙ unique_self me, g.own);
        took = took_line m (lines.Watched d.node.me id p.watcher p.watchee) refl g.took;
      }
    where
      lawful : d.node.watching.watches.given + 1 ≡ id → watch_law d.deeds (Some m, lines.Watched d.node.me id p.watcher p.watchee) ≡ false
      lawful n =
          ap (λ v. watches_again d.deeds (Some (v, id)) || false) g.mine
          ∙ ap (λ y. watches_again d.deeds (Some (me, y)) || false) (sym n)
          ∙ new_is_lawful g.stand

  -- A watch that stands ends, and a line tells so.
  gone_keeps : (p : Pair) (id : ℕ) (line : UniqueAddress → Line) → EndsWatch id line → (d : Doing P (noting m)) → unwatching p d.node.watching.watches ≡ Unwatched id → Good tally me d
      → Good tally me ((watches_become (kept_unwatched p) ▸ tells_of line) d)
  gone_keeps p id line l d e g =
      let w : Watches = d.node.watching.watches in
      let less : (i : ℕ) → count i w.list ≡ one (id == i) + count i (remove_entry (same_pair p) w.list) = λ i. count_less i p id w.list (unwatching_is p w id e) in
      record {
        mine = g.mine;
        moment = g.moment;
        alive = g.alive;
        shut = λ v h. ap (λ o. is_said (is_way me v) o || has_closed me v d.deeds) (l.closed d.node.me) ∙ g.shut v h;
        stand = one_less m id (λ i. count i (remove_entry (same_pair p) w.list)) (line d.node.me) (l.watched d.node.me) (l.unwatched d.node.me ∙ ap (λ who. Some (who, id)) g.mine) less g.stand;
        sound = ended_sound me w.given m id (λ i. count i w.list) (λ i. count i (remove_entry (same_pair p) w.list)) d.deeds line l d.node.me g.mine less g.stand g.sound;
        own = (ap (same me) (l.own d.node.me ∙ g.mine) ∙ unique_self me, g.own);
        took = took_line m (line d.node.me) (l.took d.node.me) g.took;
      }

  -- All watches at an address end, and lines tell so.
  terminates_at_keeps : (a : Address) → Keeps {P = P} {m = m} tally me (terminates_at a)
  terminates_at_keeps a = record { on = λ d g. subst (Good tally me) (sym (terminated_as a d)) (all d g) }
    where
      all : (d : Doing P (noting m)) → Good tally me d → Good {P = P} {m = m} tally me (record { node = record d.node { watching = kept_closed a d.node.watching }; deeds = ended_lines m d.node.me (ids_at a d.node.watching.watches.list) d.deeds })
      all d g =
          let w : Watches = d.node.watching.watches in
          let left : List (Pair × ℕ) = filter (λ x. not (watches_one_at a x)) w.list in
          let s : Stand me w.given (λ i. count_ids i (ids_at a w.list) + count i left) d.deeds = stand_as me w.given (λ i. count i w.list) (λ i. count_ids i (ids_at a w.list) + count i left) d.deeds (λ i. count_apart i a w.list) g.stand in
          let r : AllEnded me w.given (λ i. count i left) d.deeds (ended_lines m me (ids_at a w.list) d.deeds) = all_ended me w.given m (λ i. count i left) (ids_at a w.list) d.deeds s g.sound in
          let t : AllEnded me w.given (λ i. count i left) d.deeds (ended_lines m d.node.me (ids_at a w.list) d.deeds) = subst (λ who. AllEnded me w.given (λ i. count i left) d.deeds (ended_lines m who (ids_at a w.list) d.deeds)) (sym g.mine) r in
          record {
            mine = g.mine;
            moment = g.moment;
            alive = g.alive;
            shut = λ v h. t.closed v ∙ g.shut v h;
            stand = t.stand;
            sound = t.sound;
            own = t.own g.own;
            took = took_alike (ended_lines m d.node.me (ids_at a w.list) d.deeds) t.took g.took;
          }

-- ---- closing

among_other : (x uid : ℕ) (k : Known) → is_among x k.closed ≡ false → (uid == x) ≡ false → (i : PeerState) → known_of i ≡ k → is_among x (peer_closed uid i).closed ≡ false
among_other x uid k h n i e = closed_change uid x i (ap (λ (y : Known). is_among x y.closed) e ∙ h) n

module _ {P : Parts} {m : ℕ} where
  -- What is done behind the line that an incarnation is closed.
  abbrev behind_closed : Address → Cause → ℕ → Rule P (noting m)
  behind_closed a cause uid =
      (if is_told cause then quarantines (incarnation a uid) else stays)
      ▸ drops_ordinary a
      ▸ forgets_watches_of (incarnation a uid)
      ▸ terminates_at a
      ▸ peer_becomes a without_detector
      ▸ peer_becomes a with_new_tables

  before_end : (a : Address) (cause : Cause) (uid : ℕ) → Quiet {P = P} {m = m} ((if is_told cause then quarantines (incarnation a uid) else stays) ▸ drops_ordinary a ▸ forgets_watches_of (incarnation a uid))
  before_end a cause uid = if_quiet (is_told cause) _ _ (quarantines_quiet (incarnation a uid)) stays_quiet ▹ drops_ordinary_quiet a ▹ watching_quiet (kept_forgotten (incarnation a uid)) (λ w. refl)

  after_end : (a : Address) → Quiet {P = P} {m = m} (peer_becomes a without_detector ▸ peer_becomes a with_new_tables)
  after_end a = peer_quiet a without_detector (λ p. refl) ▹ peer_quiet a with_new_tables (λ p. refl)

  terminates_open : (v : UniqueAddress) (a : Address) (d : Doing P (noting m)) → IsOpen v d → IsOpen v (terminates_at a d)
  terminates_open v a d h = subst (IsOpen v) (sym (terminated_as a d)) h

  behind_open : (v : UniqueAddress) (a : Address) (cause : Cause) (uid : ℕ) (d : Doing P (noting m)) → IsOpen v d → IsOpen v (behind_closed a cause uid d)
  behind_open v a cause uid d h =
      let e : Doing P (noting m) = ((if is_told cause then quarantines (incarnation a uid) else stays) ▸ drops_ordinary a ▸ forgets_watches_of (incarnation a uid)) d in
      open_same v (terminates_at a e) ((peer_becomes a without_detector ▸ peer_becomes a with_new_tables) (terminates_at a e)) ((after_end a).on (terminates_at a e))
      (terminates_open v a e (open_same v d e ((before_end a cause uid).on d) h))

  -- Another incarnation than the one that is closed is as open as it was.
  closes_open : (v : UniqueAddress) (a : Address) (cause : Cause) (uid : ℕ) (d : Doing P (noting m)) → (uid == v.uid) ≡ false → IsOpen v d → IsOpen v (closes a cause uid d)
  closes_open v a cause uid d n h = behind_open v a cause uid ((tells_of (λ who. lines.Closed who (incarnation a uid) cause) ▸ peer_becomes a (with_closed uid)) d)
      (known_by a v.address (with_closed uid) (peer_closed uid) (λ p. refl) (closed_address uid) (λ (k : Known). is_among v.uid k.closed ≡ false) d.node.peers
      (λ i e. among_other v.uid uid (known_at v.address d.node) h n i e) h)

module _ {P : Parts} {m : ℕ} {tally : Counting P} {me : UniqueAddress} where
  behind_keeps : (a : Address) (cause : Cause) (uid : ℕ) → Keeps {P = P} {m = m} tally me (behind_closed a cause uid)
  behind_keeps a cause uid = record {
    on = λ d g.
        let e : Doing P (noting m) = ((if is_told cause then quarantines (incarnation a uid) else stays) ▸ drops_ordinary a ▸ forgets_watches_of (incarnation a uid)) d in
        (quietly _ (after_end a)).on (terminates_at a e) ((terminates_at_keeps a).on e ((quietly _ (before_end a cause uid)).on d g));
  }

  -- The current incarnation at an address is closed, where there is one.
  pub closes_keep : (a : Address) (cause : Cause) (uid : Option ℕ) (other : Rule P (noting m)) → Keeps tally me other → (d : Doing P (noting m)) → (known_at a d.node).current ≡ uid → Good tally me d → Good tally me (closes_current a cause uid other d)
  closes_keep a cause None other k d c g = k.on d g
  closes_keep a cause (Some uid) other k d c g = (behind_keeps a cause uid).on ((tells_of (λ who. lines.Closed who (incarnation a uid) cause) ▸ peer_becomes a (with_closed uid)) d) (shuts a cause uid d c g)

-- ---- sending and telling

sent_to : (v : UniqueAddress) (n : ℕ) (x : SysMsg) → DealsWith v (λ me. lines.Sent me v n x)
sent_to v n x = record { deals = λ me. refl; closed = λ me. refl; took = λ me. refl; own = λ me. refl; watched = λ me. refl; unwatched = λ me. refl; started = λ me. refl; stopped = λ me. refl }

told_to_one : (v : UniqueAddress) (dial : ℕ) (x : Tell) → DealsWith v (λ me. lines.Told me v dial x)
told_to_one v dial x = record { deals = λ me. refl; closed = λ me. refl; took = λ me. refl; own = λ me. refl; watched = λ me. refl; unwatched = λ me. refl; started = λ me. refl; stopped = λ me. refl }

learnt_to : (v : UniqueAddress) → DealsWith v (λ me. lines.Learnt me v)
learnt_to v = record { deals = λ me. refl; closed = λ me. refl; took = λ me. refl; own = λ me. refl; watched = λ me. refl; unwatched = λ me. refl; started = λ me. refl; stopped = λ me. refl }

again_from : (v : UniqueAddress) (n : ℕ) → DealsWith v (λ me. lines.Again me v n)
again_from v n = record { deals = λ me. refl; closed = λ me. refl; took = λ me. refl; own = λ me. refl; watched = λ me. refl; unwatched = λ me. refl; started = λ me. refl; stopped = λ me. refl }

gap_from : (v : UniqueAddress) (n : ℕ) → DealsWith v (λ me. lines.Gap me v n)
gap_from v n = record { deals = λ me. refl; closed = λ me. refl; took = λ me. refl; own = λ me. refl; watched = λ me. refl; unwatched = λ me. refl; started = λ me. refl; stopped = λ me. refl }

got_from_one : (v : UniqueAddress) (n : Option ℕ) (x : Tell) → DealsWith v (λ me. lines.Got me v n x)
got_from_one v n x = record { deals = λ me. refl; closed = λ me. refl; took = λ me. refl; own = λ me. refl; watched = λ me. refl; unwatched = λ me. refl; started = λ me. refl; stopped = λ me. refl }

module _ {P : Parts} where
  waits_alike : (now : ℕ) (p : Peer P) → (begins_waiting now p).incarnations ≡ p.incarnations
  waits_alike now p = by (keeps_nothing p)
    where
      by : (b : Bool) → (cond b (record p { quiet = now; patience = now }) p).incarnations ≡ p.incarnations
      by true = refl
      by false = refl

module _ {P : Parts} {m : ℕ} {tally : Counting P} {me : UniqueAddress} where
  sent_keeps : (a : Address) (uid : Option ℕ) (n : ℕ) (x : SysMsg) (d : Doing P (noting m)) → (known_at a d.node).current ≡ uid → Good tally me d → Good tally me (tells_sent a uid n x d)
  sent_keeps a None n x d c g = g
  sent_keeps a (Some uid) n x d c g = (tells_to (incarnation a uid) (λ who. lines.Sent who (incarnation a uid) n x) (sent_to (incarnation a uid) n x)).on d (g.alive a uid c) g

  sent_as_keeps : (a : Address) (x : SysMsg) (answer : Accept) → Keeps {P = P} {m = m} tally me (sent_as a x answer)
  sent_as_keeps a x (Accepted n) = record {
    on = λ d g.
        let q : Quiet {P = P} {m = m} (peer_becomes a (begins_waiting d.node.moment) ▸ peer_becomes a (with_out (P.accepted x))) = peer_quiet a (begins_waiting d.node.moment) (waits_alike d.node.moment) ▹ peer_quiet a (with_out (P.accepted x)) (λ p. refl) in
        let e : Doing P (noting m) = (peer_becomes a (begins_waiting d.node.moment) ▸ peer_becomes a (with_out (P.accepted x))) d in
        (quietly _ (pumps_quiet a)).on (tells_sent a (current_of (peer_at a d.node)) n x e)
        (sent_keeps a (current_of (peer_at a d.node)) n x e (ap (λ (k : Known). k.current) ((q.on d).known a)) (good_same d e (q.on d) g));
  }
  sent_as_keeps a x (Waiting place) = record { on = λ d g. (quietly _ (peer_quiet a (with_out (P.accepted x)) (λ p. refl))).on d g }
  sent_as_keeps a x (Overflow back) = record { on = λ d g. closes_keep a causes.Overflow (current_of (peer_at a d.node)) (tells_of (λ who. lines.Refused who reasons.Waiting)) (quietly _ (refuses_quiet reasons.Waiting)) d refl g }

  sends_now_keeps : (a : Address) (x : SysMsg) → Keeps {P = P} {m = m} tally me (sends_now a x)
  sends_now_keeps a x = record { on = λ d g. (sent_as_keeps a x (P.acceptance x (peer_at a d.node).out)).on d g }

  sends_keep : (a : Address) (x : SysMsg) → Keeps {P = P} {m = m} tally me (sends a x)
  sends_keep a x = quietly _ (uses_quiet a) ▻ sends_now_keeps a x

  told_keeps : (a : Address) (uid : Option ℕ) (dial : ℕ) (x : Tell) (d : Doing P (noting m)) → (known_at a d.node).current ≡ uid → Good tally me d → Good tally me (tells_told a uid dial x d)
  told_keeps a None dial x d c g = g
  told_keeps a (Some uid) dial x d c g = (tells_to (incarnation a uid) (λ who. lines.Told who (incarnation a uid) dial x) (told_to_one (incarnation a uid) dial x)).on d (g.alive a uid c) g

  tells_on_keeps : (a : Address) (dial : ℕ) (x : Tell) → Keeps {P = P} {m = m} tally me (tells_on a dial x)
  tells_on_keeps a dial x = record { on = λ d g. (quietly _ (writes_quiet (Some dial) (told_as d.node.me.uid (peer_at a d.node) x))).on (tells_told a (current_of (peer_at a d.node)) dial x d) (told_keeps a (current_of (peer_at a d.node)) dial x d refl g) }

  tells_or_holds_keeps : (a : Address) (x : Tell) (dial : Option ℕ) → Keeps {P = P} {m = m} tally me (tells_or_holds a x dial)
  tells_or_holds_keeps a x None = quietly _ (holds_quiet a x)
  tells_or_holds_keeps a x (Some dial) = tells_on_keeps a dial x

  tells_message_keeps : (a : Address) (x : Tell) → Keeps {P = P} {m = m} tally me (tells_message a x)
  tells_message_keeps a x = record { on = λ d g. (tells_or_holds_keeps a x (current_dial streams.Ordinary (peer_at a d.node))).on d g }

  tells_held_keeps : (a : Address) (dial : ℕ) → Keeps {P = P} {m = m} tally me (tells_held a dial)
  tells_held_keeps a dial = record { on = λ d g. (quietly _ (peer_quiet a without_held (λ p. refl)) ▻ each_keeps (peer_at a d.node).held (tells_on a dial) (λ x. tells_on_keeps a dial x)).on d g }

  -- ---- watches and actors

  watches_as_keeps : (a : Address) (p : Pair) (answer : Watch) (d : Doing P (noting m)) → watching p d.node.watching.watches ≡ answer → Good tally me d → Good tally me (watches_as a p answer d)
  watches_as_keeps a p (Already id) d e g = (quietly _ (refuses_quiet reasons.Watching)).on d g
  watches_as_keeps a p WatchesFull d e g = (quietly _ (refuses_quiet reasons.Watches)).on d g
  watches_as_keeps a p (Watching id) d e g = by (would_overflow (P.acceptance (notice watch_kind p.watchee p.watcher) (peer_at a d.node).out) (current_of (peer_at a d.node)))
    where
      by : (b : Bool) → Good {P = P} {m = m} tally me (cond b (tells_of (λ who. lines.Refused who reasons.Waiting)) (begins_watch a p id) d)
      by true = (quietly _ (refuses_quiet reasons.Waiting)).on d g
      by false = (sends_keep a (notice watch_kind p.watchee p.watcher)).on ((watches_become (kept_watched p) ▸ tells_of (λ who. lines.Watched who id p.watcher p.watchee)) d) (begun_keeps p id d e g)

  watches_pair_keeps : (a : Address) (p : Pair) → Keeps {P = P} {m = m} tally me (watches_pair a p)
  watches_pair_keeps a p = record { on = λ d g. watches_as_keeps a p (watching p d.node.watching.watches) d refl g }

  unwatches_as_keeps : (a : Address) (p : Pair) (answer : Unwatch) (d : Doing P (noting m)) → unwatching p d.node.watching.watches ≡ answer → Good tally me d → Good tally me (unwatches_as a p answer d)
  unwatches_as_keeps a p NotWatched d e g = (quietly _ (refuses_quiet reasons.NotWatched)).on d g
  unwatches_as_keeps a p (Unwatched id) d e g =
      (sends_keep a (notice unwatch_kind p.watchee p.watcher) ▻ quietly _ (last_watch_quiet a)).on ((watches_become (kept_unwatched p) ▸ tells_of (λ who. lines.Unwatched who id)) d)
      (gone_keeps p id (λ who. lines.Unwatched who id) (unwatched_is id) d e g)

  unwatches_pair_keeps : (a : Address) (p : Pair) → Keeps {P = P} {m = m} tally me (unwatches_pair a p)
  unwatches_pair_keeps a p = record { on = λ d g. unwatches_as_keeps a p (unwatching p d.node.watching.watches) d refl g }

  at_request_keeps : (a : Address) (r : Rule P (noting m)) → Keeps tally me r → Keeps tally me (at_request a r)
  at_request_keeps a r k = record { on = λ d g. (if_keeps (may_have a d.node) _ _ (quietly _ (missing_quiet a) ▻ quietly _ (uses_quiet a) ▻ k) (quietly _ (refuses_quiet reasons.Peers))).on d g }

  at_reference_keeps : (a : Option Address) (r : Address → Rule P (noting m)) → ((b : Address) → Keeps tally me (r b)) → Keeps tally me (at_reference a r)
  at_reference_keeps None r k = stays_keep
  at_reference_keeps (Some a) r k = at_request_keeps a (r a) (k a)

  watches_keep : (path watchee : List ℕ) → Keeps {P = P} {m = m} tally me (watches path watchee)
  watches_keep path watchee = record { on = λ d g. (at_reference_keeps (address_in watchee) (λ a. watches_pair a (pair_of (reference d.node.me.address path) watchee)) (λ a. watches_pair_keeps a (pair_of (reference d.node.me.address path) watchee))).on d g }

  unwatches_keep : (path watchee : List ℕ) → Keeps {P = P} {m = m} tally me (unwatches path watchee)
  unwatches_keep path watchee = record { on = λ d g. (at_reference_keeps (address_in watchee) (λ a. unwatches_pair a (pair_of (reference d.node.me.address path) watchee)) (λ a. unwatches_pair_keeps a (pair_of (reference d.node.me.address path) watchee))).on d g }

  to_reference_keeps : (a : Option Address) (x : SysMsg) → Keeps {P = P} {m = m} tally me (sends_to_reference a x)
  to_reference_keeps None x = stays_keep
  to_reference_keeps (Some a) x = sends_keep a x

  tells_ended_keeps : (path watcher : List ℕ) → Keeps {P = P} {m = m} tally me (tells_ended path watcher)
  tells_ended_keeps path watcher = record { on = λ d g. (to_reference_keeps (address_in watcher) (notice ended_kind (reference d.node.me.address path) watcher)).on d g }

  kills_as_keeps : (path : List ℕ) (answer : Stop) → Keeps {P = P} {m = m} tally me (kills_as path answer)
  kills_as_keeps path NoSuchActor = quietly _ (refuses_quiet reasons.NotThere)
  kills_as_keeps path (Stopped watchers) =
      quietly _ (watching_quiet (kept_stopped path) (λ w. refl)) ▻ quietly _ (tells_quiet (λ who. lines.Ended who path) (λ who. refl) (λ who. refl)) ▻ each_keeps watchers (tells_ended path) (tells_ended_keeps path)

  kills_keep : (path : List ℕ) → Keeps {P = P} {m = m} tally me (kills path)
  kills_keep path = record { on = λ d g. (kills_as_keeps path (stopping path d.node.watching.actors)).on d g }

  -- ---- notices that came

  watched_as_keeps : (v : UniqueAddress) (n : Notice) (path : List ℕ) (answer : RemoteWatch) → Keeps {P = P} {m = m} tally me (is_watched_as v n path answer)
  watched_as_keeps v n path NotThere = sends_keep v.address (notice ended_kind n.actor n.watcher)
  watched_as_keeps v n path RemoteFull = quietly _ (refuses_quiet reasons.RemoteWatches)
  watched_as_keeps v n path There = stays_keep
  watched_as_keeps v n path Added = quietly _ (watching_quiet (kept_remote_watched path (remote_of n.watcher v)) (λ w. refl))

  watched_keeps : (v : UniqueAddress) (n : Notice) (path : List ℕ) → Keeps {P = P} {m = m} tally me (is_watched v n path)
  watched_keeps v n path = record { on = λ d g. (watched_as_keeps v n path (remote_watching path (remote_of n.watcher v) d.node.watching.actors)).on d g }

  own_keeps : (a : Address) (text : List ℕ) (r : List ℕ → Rule P (noting m)) → ((path : List ℕ) → Keeps tally me (r path)) → Keeps tally me (at_own a text r)
  own_keeps a text r k = if_keeps (is_at a text) _ _ (k (or_else [] (after (address_text a) text))) stays_keep

  terminates_as_keeps : (a : Address) (p : Pair) (answer : Unwatch) (d : Doing P (noting m)) → unwatching p d.node.watching.watches ≡ answer → Good tally me d → Good tally me (terminates_as a p answer d)
  terminates_as_keeps a p NotWatched d e g = g
  terminates_as_keeps a p (Unwatched id) d e g =
      (quietly _ (last_watch_quiet a)).on ((watches_become (kept_unwatched p) ▸ tells_of (λ who. lines.Terminated who id)) d)
      (gone_keeps p id (λ who. lines.Terminated who id) (terminated_is id) d e g)

  terminates_keep : (a : Address) (p : Pair) → Keeps {P = P} {m = m} tally me (terminates a p)
  terminates_keep a p = record { on = λ d g. terminates_as_keeps a p (unwatching p d.node.watching.watches) d refl g }

  acts_as_keeps : (v : UniqueAddress) (own : Address) (x : Told) → Keeps {P = P} {m = m} tally me (acts_as v own x)
  acts_as_keeps v own (Begins n) = where_keeps (is_at v.address n.watcher) _ (own_keeps own n.actor (is_watched v n) (watched_keeps v n))
  acts_as_keeps v own (Ends n) = own_keeps own n.actor (is_unwatched v n) (λ path. quietly _ (unwatched_quiet v n path))
  acts_as_keeps v own (HasEnded n) = where_keeps (is_at v.address n.actor) _ (terminates_keep v.address (pair_of n.watcher n.actor))
  acts_as_keeps v own Nothing = stays_keep

  acts_keep : (v : UniqueAddress) (x : SysMsg) → Keeps {P = P} {m = m} tally me (acts v x)
  acts_keep v x = record { on = λ d g. (acts_as_keeps v d.node.me.address (told_of x)).on d g }

-- A rule about an origin that is known and not closed.
record KeepsBy {P : Parts} {m : ℕ} (tally : Counting P) (me v : UniqueAddress) (r : Rule P (noting m)) : Type 0 where
  pub on : (d : Doing P (noting m)) → is_known v (whos d.node.origins) ≡ true → IsOpen v d → Good tally me d → Good tally me (r d)

module _ {P : Parts} {m : ℕ} {tally : Counting P} {me : UniqueAddress} where
  by_one : (v : UniqueAddress) (r : Rule P (noting m)) → KeepsTo tally me v r → KeepsBy tally me v r
  by_one v r a = record { on = λ d w h g. a.on d h g }

  quiet_by : (v : UniqueAddress) (r t : Rule P (noting m)) → Quiet r → KeepsBy tally me v t → KeepsBy tally me v (r ▸ t)
  quiet_by v r t q a = record { on = λ d w h g. a.on (r d) (ap (is_known v) (q.on d).origins ∙ w) (open_same v d (r d) (q.on d) h) (good_same d (r d) (q.on d) g) }

-- ---- binding

and_true : (b : Bool) → (b && true) ≡ b
and_true true = refl
and_true false = refl

module _ {P : Parts} {m : ℕ} where
  former_open : (v : UniqueAddress) (former : Option ℕ) (d : Doing P (noting m)) → IsNew v.uid (known_at v.address d.node) former → IsOpen v (closes_current v.address causes.Superseded former stays d)
  former_open v None d n = n.closed
  former_open v (Some uid) d n = closes_open v v.address causes.Superseded uid d (ap (is_that v.uid) n.was ∙ n.current) n.closed

-- An origin is known, or there is room for one more.
abbrev HasRoom : UniqueAddress → List UniqueAddress → Type 0
HasRoom v ws = (is_known v ws || nat_lt (length ws) most_origins) ≡ true

module _ {P : Parts} where
  -- A request that no rule drops is of an origin that is known, or for which there is room.
  room_for : (n : Node P) (i : Inbound P) (v : UniqueAddress) (to : Address) (its_nonce : Option ℕ) → request_rule n i v to its_nonce ≡ None → HasRoom v (whos n.origins)
  room_for n i v to its_nonce e =
      ap (λ l. is_known v (whos n.origins) || nat_lt l most_origins) (sym (whos_length n.origins))
      ∙ ap (λ b. b || nat_lt (length n.origins) most_origins) (sym (has_is_known v n.origins))
      ∙ by (same_address to n.me.address) (same_address v.address n.me.address) (is_other (answer_to_req v its_nonce i.state)) (may_have v.address n) (has_origin v n || nat_lt (length n.origins) most_origins) e
    where
      by : (a b c d room : Bool)
          → (if not a then Some rules.NotMe else if b then Some rules.Itself else if c then Some rules.Origin else if not d then Some rules.Peers else if not room then Some rules.Origins else None) ≡ None
          → room ≡ true
      by a b c d true h = refl
      by false b c d false h = absurd cc
      by true true c d false h = absurd cc
      by true false true d false h = absurd cc
      by true false false false false h = absurd cc
      by true false false true false h = absurd cc

module _ {P : Parts} {m : ℕ} {tally : Counting P} {me : UniqueAddress} where
  all_sent_keep : (a : Address) (uid n : ℕ) (xs : List SysMsg) (d : Doing P (noting m)) → IsOpen (incarnation a uid) d → Good tally me d → Good tally me (tells_all_sent a uid n xs d)
  all_sent_keep a uid n [] d h g = g
  all_sent_keep a uid n (x ∷ xs) d h g = all_sent_keep a uid (n + 1) xs (tells_sent a (Some uid) n x d) h ((tells_to (incarnation a uid) (λ who. lines.Sent who (incarnation a uid) n x) (sent_to (incarnation a uid) n x)).on d h g)

  new_keeps : (v : UniqueAddress) (former : Option ℕ) (d : Doing P (noting m)) → learning v.uid (peer_at v.address d.node).incarnations ≡ Learnt former → Good tally me d → Good tally me (learns_new v former d)
  new_keeps v former d e g =
      let n : IsNew v.uid (known_at v.address d.node) former = learnt_new v.uid (peer_at v.address d.node).incarnations former e in
      let d1 : Doing P (noting m) = closes_current v.address causes.Superseded former stays d in
      let g1 : Good tally me d1 = closes_keep v.address causes.Superseded former stays stays_keep d (sym n.was) g in
      let d2 : Doing P (noting m) = peer_becomes v.address (with_learnt d.node.moment v.uid) d1 in
      let g2 : Good tally me d2 = (learns_keeps v.address v.uid (with_learnt d.node.moment v.uid) (λ p. refl)).on d1 g1 in
      let h2 : IsOpen v d2 = learns_open v (with_learnt d.node.moment v.uid) (λ p. refl) d1 (former_open v former d n) in
      let d3 : Doing P (noting m) = tells_of (λ who. lines.Learnt who v) d2 in
      let g3 : Good tally me d3 = (tells_to v (λ who. lines.Learnt who v) (learnt_to v)).on d2 h2 g2 in
      (quietly _ (goes_on_quiet v)).on (tells_waiting v.address v.uid d3) (all_sent_keep v.address v.uid 1 (P.unacknowledged (peer_at v.address d3.node).out) d3 h2 g3)

  learns_as_keeps : (v : UniqueAddress) (answer : Learn) (d : Doing P (noting m)) → learning v.uid (peer_at v.address d.node).incarnations ≡ answer → Good tally me d → Good tally me (learns_as v answer d)
  learns_as_keeps v WasClosed d e g = (quietly _ (tells_quiet (λ who. lines.Barred who v) (λ who. refl) (λ who. refl))).on d g
  learns_as_keeps v ClosedFull d e g = (quietly _ (refuses_quiet reasons.ClosedUids ▹ gives_up_quiet streams.Control v.address)).on d g
  learns_as_keeps v IsSame d e g = (quietly _ (goes_on_quiet v)).on d g
  learns_as_keeps v (Learnt former) d e g = new_keeps v former d e g

  learns_keep : (v : UniqueAddress) → Keeps {P = P} {m = m} tally me (learns v)
  learns_keep v = record { on = λ d g. learns_as_keeps v (learning v.uid (peer_at v.address d.node).incarnations) d refl g }

  binds_ordinary_keeps : (v : UniqueAddress) (its_nonce dial : Option ℕ) → Keeps {P = P} {m = m} tally me (binds_ordinary v its_nonce dial)
  binds_ordinary_keeps v its_nonce None = quietly _ (strays_quiet v its_nonce ▹ gives_up_quiet streams.Ordinary v.address)
  binds_ordinary_keeps v its_nonce (Some dial) = tells_held_keeps v.address dial

  binds_keep : (stream : Stream) (v : UniqueAddress) (its_nonce : Option ℕ) → Keeps {P = P} {m = m} tally me (binds stream v its_nonce)
  binds_keep streams.Control v its_nonce = record { on = λ d g. (quietly _ (uses_quiet v.address) ▻ learns_keep v).on d g }
  binds_keep streams.Ordinary v its_nonce = record { on = λ d g. (binds_ordinary_keeps v its_nonce (ordinary_dial v (peer_at v.address d.node))).on d g }

  answered_as_keeps : (stream : Stream) (v : UniqueAddress) (for its_nonce : Option ℕ) (x : OnRsp) → Keeps {P = P} {m = m} tally me (answered_as stream v for its_nonce x)
  answered_as_keeps stream v for its_nonce (Bind uid) = record { on = λ d g. (quietly _ (link_quiet stream v.address (change_conn (conn_answered d.node.me.uid v.uid for its_nonce))) ▻ binds_keep stream v its_nonce).on d g }
  answered_as_keeps stream v for its_nonce Repeat = record { on = λ d g. g }
  answered_as_keeps stream v for its_nonce Stray = record { on = λ d g. g }

  takes_keep : (stream : Stream) (v : UniqueAddress) (for its_nonce : Option ℕ) → Keeps {P = P} {m = m} tally me (takes_answer stream v for its_nonce)
  takes_keep stream v for its_nonce = record { on = λ d g. (answered_as_keeps stream v for its_nonce (answer_at stream d.node v for its_nonce)).on d g }

  answered_by_keeps : (stream : Stream) (v : UniqueAddress) (for its_nonce : ℕ) (b : Bool) → Keeps {P = P} {m = m} tally me (answered_by stream v for its_nonce b)
  answered_by_keeps stream v for its_nonce true = takes_keep stream v (Some for) (Some its_nonce)
  answered_by_keeps stream v for its_nonce false = quietly _ (strays_quiet v (Some its_nonce))

  answered_to_keeps : (v : UniqueAddress) (for its_nonce : ℕ) → Keeps {P = P} {m = m} tally me (answered_to v for its_nonce)
  answered_to_keeps v for its_nonce = record {
    on = λ d g. (answered_by_keeps (stream_dialed its_nonce (peer_at v.address d.node)) v for its_nonce
        (dialed_as its_nonce (peer_at v.address d.node) && is_met (answer_at (stream_dialed its_nonce (peer_at v.address d.node)) d.node v (Some for) (Some its_nonce)))).on d g;
  }

  then_keeps : (met : Bool) (v : UniqueAddress) (for its_nonce : Option ℕ) → Keeps {P = P} {m = m} tally me (then_ordinary met v for its_nonce)
  then_keeps met v for its_nonce = record { on = λ d g. (takes_keep streams.Ordinary v for its_nonce ▻ quietly _ (unless_quiet (met || is_met (answer_at streams.Ordinary d.node v for its_nonce)) v)).on d g }

  plainly_keeps : (v : UniqueAddress) (for its_nonce : Option ℕ) → Keeps {P = P} {m = m} tally me (answered_plainly v for its_nonce)
  plainly_keeps v for its_nonce = record { on = λ d g. (takes_keep streams.Control v for its_nonce ▻ then_keeps (is_met (answer_at streams.Control d.node v for its_nonce)) v for its_nonce).on d g }

  answered_keeps : (v : UniqueAddress) (for its_nonce : Option ℕ) → Keeps {P = P} {m = m} tally me (answered v for its_nonce)
  answered_keeps v (Some for) (Some its_nonce) = answered_to_keeps v for its_nonce
  answered_keeps v (Some for) None = plainly_keeps v (Some for) None
  answered_keeps v None its_nonce = plainly_keeps v None its_nonce

  -- ---- requests

  -- It is known who speaks, and the origin is made where it is new.
  opens_keep : (conn : ℕ) (v : UniqueAddress) (its_nonce : Option ℕ) (d : Doing P (noting m)) → HasRoom v (whos d.node.origins) → Good tally me d → Good tally me ((inbound_becomes conn (known_as v its_nonce) ▸ makes_origin v) d)
  opens_keep conn v its_nonce d room g = by (has_origin v d.node) refl
    where
      after : List (Inbound P)
      after = change_first (is_number conn) (known_as v its_nonce) d.node.inbound

      by : (b : Bool) → has_origin v d.node ≡ b → Good {P = P} {m = m} tally me (where_true (not b) (becomes (with_origin v)) (inbound_becomes conn (known_as v its_nonce) d))
      by true e =
          let w : is_known v (whos d.node.origins) ≡ true = sym (has_is_known v d.node.origins) ∙ e in
          record {
            mine = g.mine;
            moment = g.moment;
            alive = g.alive;
            shut = g.shut;
            stand = g.stand;
            sound = g.sound;
            own = g.own;
            took = took_speakers (speakers after) (known_as_known (whos d.node.origins) conn v its_nonce d.node.inbound w g.took.known) g.took;
          }
      by false e =
          let w : is_known v (whos d.node.origins) ≡ false = sym (has_is_known v d.node.origins) ∙ e in
          let l : nat_lt (length (whos d.node.origins)) most_origins ≡ true = sym (ap (λ b. b || nat_lt (length (whos d.node.origins)) most_origins) w) ∙ room in
          let t : Took tally me (P.opened v d.node.taken) (whos d.node.origins ++ v ∷ []) (speakers d.node.inbound) d.deeds = took_origin v w l g.took in
          let u : Took tally me (P.opened v d.node.taken) (whos d.node.origins ++ v ∷ []) (speakers after) d.deeds = took_speakers (speakers after) (known_as_known (whos d.node.origins ++ v ∷ []) conn v its_nonce d.node.inbound (last_known v (whos d.node.origins)) t.known) t in
          record {
            mine = g.mine;
            moment = g.moment;
            alive = g.alive;
            shut = g.shut;
            stand = g.stand;
            sound = g.sound;
            own = g.own;
            took = subst (λ (ws : List UniqueAddress). Took tally me (P.opened v d.node.taken) ws (speakers after) d.deeds) (sym (whos_more d.node.origins d.node.moment v)) u;
          }

  asked_keeps : (conn : ℕ) (v : UniqueAddress) (its_nonce : Option ℕ) (d : Doing P (noting m)) → HasRoom v (whos d.node.origins) → Good tally me d → Good tally me (is_asked conn v its_nonce d)
  asked_keeps conn v its_nonce d room g =
      let q : Quiet {P = P} {m = m} (makes_missing v.address ▸ uses v.address) = missing_quiet v.address ▹ uses_quiet v.address in
      let e : Doing P (noting m) = (makes_missing v.address ▸ uses v.address) d in
      (quietly _ (answers_quiet conn v its_nonce)).on ((inbound_becomes conn (known_as v its_nonce) ▸ makes_origin v) e)
      (opens_keep conn v its_nonce e (subst (HasRoom v) (sym (q.on d).origins) room) (good_same d e (q.on d) g))

  requested_keeps : (i : Inbound P) (v : UniqueAddress) (to : Address) (its_nonce : Option ℕ) → Keeps {P = P} {m = m} tally me (requested i v to its_nonce)
  requested_keeps i v to its_nonce = record { on = λ d g. by d (request_rule d.node i v to its_nonce) refl g }
    where
      by : (d : Doing P (noting m)) (rule : Option DropRule) → request_rule d.node i v to its_nonce ≡ rule → Good tally me d → Good {P = P} {m = m} tally me (drops_or i.number rule (is_asked i.number v its_nonce) d)
      by d (Some rule) e g = (quietly _ (drops_quiet i.number rule)).on d g
      by d None e g = asked_keeps i.number v its_nonce d (room_for d.node i v to its_nonce e) g

  -- ---- what a known origin says

  taken_keeps : (v : UniqueAddress) (n : ℕ) (x : SysMsg) (d : Doing P (noting m)) → IsOpen v d → is_known v (whos d.node.origins) ≡ true → P.taking v n d.node.taken ≡ Taken → Good tally me d
      → Good tally me ((becomes (with_taken v n x) ▸ tells_of (λ who. lines.Took who v n x)) d)
  taken_keeps v n x d h w e g = record {
    mine = g.mine;
    moment = g.moment;
    alive = g.alive;
    shut = g.shut;
    stand = stand_still me m d.node.watching.watches.given (λ id. count id d.node.watching.watches.list) d.deeds (lines.Took d.node.me v n x) refl refl g.stand;
    sound = sound_on m d.deeds (lines.Took d.node.me v n x) g.sound refl refl (ap (λ who. breaks_closed d.deeds (Some (who, v))) g.mine ∙ g.shut v h) refl;
    own = (ap (same me) g.mine ∙ unique_self me, g.own);
    took = subst (λ who. Took tally me (P.taken v n x d.node.taken) (whos d.node.origins) (speakers d.node.inbound) ((Some m, lines.Took who v n x) ∷ d.deeds)) (sym g.mine) (took_more m v n x w e g.took);
  }

  numbered_as_keeps : (v : UniqueAddress) (n : ℕ) (x : SysMsg) (t : Take) (d : Doing P (noting m)) → P.taking v n d.node.taken ≡ t → is_known v (whos d.node.origins) ≡ true → IsOpen v d → Good tally me d → Good tally me (numbered_as v n x t d)
  numbered_as_keeps v n x Taken d e w h g = (quietly _ (ack_quiet v controls.Ack) ▻ acts_keep v x).on ((becomes (with_taken v n x) ▸ tells_of (λ who. lines.Took who v n x)) d) (taken_keeps v n x d h w e g)
  numbered_as_keeps v n x (Again last) d e w h g = (to_then v _ _ (tells_to v (λ who. lines.Again who v n) (again_from v n)) (quietly _ (ack_quiet v controls.Ack))).on d h g
  numbered_as_keeps v n x (Gap last) d e w h g = (to_then v _ _ (tells_to v (λ who. lines.Gap who v n) (gap_from v n)) (quietly _ (ack_quiet v controls.Nack))).on d h g

  numbered_keeps : (v : UniqueAddress) (n : ℕ) (x : SysMsg) → KeepsBy {P = P} {m = m} tally me v (numbered v n x)
  numbered_keeps v n x = record { on = λ d w h g. numbered_as_keeps v n x (P.taking v n d.node.taken) d refl w h g }

  got_keeps : (i : Inbound P) (v : UniqueAddress) (e : EnvelopeOf) (x : Meaning) → KeepsTo {P = P} {m = m} tally me v (got i v e x)
  got_keeps i v e x = record {
    on = λ d h g. (to_then v _ _ (tells_to v (λ who. lines.Got who v (nonce_in i.state) (tell_of x)) (got_from_one v (nonce_in i.state) (tell_of x)))
        (quietly _ (inbound_quiet i.number (with_shown (origin_at v d.node).tables e) (λ j. refl) ▹ counts_quiet v e))).on d h g;
  }

  controlled_keeps : (k : ℕ) (v : UniqueAddress) (c : Control) → KeepsBy {P = P} {m = m} tally me v (controlled k v c)
  controlled_keeps k v (controls.Quarantined from to) = by_one v _ (to_one v _ (quietly _ (noticed_quiet k v to)))
  controlled_keeps k v (controls.Terminating from) = by_one v _ (to_one v _ (quietly _ (drops_quiet k rules.Unused)))
  controlled_keeps k v (controls.TerminatingAck from) = by_one v _ (to_one v _ (quietly _ (drops_quiet k rules.Unused)))
  controlled_keeps k v (controls.HandshakeReq from to its_nonce) = by_one v _ (to_one v _ stays_keep)
  controlled_keeps k v (controls.HandshakeRsp from for_uid its_nonce) = by_one v _ (to_one v _ stays_keep)
  controlled_keeps k v (controls.RefsTable from uid version keys values sequence) = by_one v _ (to_one v _ (quietly _ (uses_quiet v.address ▹ tabled_quiet k v Refs uid (table_number version sequence) keys values)))
  controlled_keeps k v (controls.RefsAck from version sequence) = by_one v _ (to_one v _ (quietly _ (confirms_quiet k v Refs (table_number version sequence))))
  controlled_keeps k v (controls.ManifestsTable from uid version keys values sequence) = by_one v _ (to_one v _ (quietly _ (uses_quiet v.address ▹ tabled_quiet k v Manifests uid (table_number version sequence) keys values)))
  controlled_keeps k v (controls.ManifestsAck from version sequence) = by_one v _ (to_one v _ (quietly _ (confirms_quiet k v Manifests (table_number version sequence))))
  controlled_keeps k v (controls.Numbered n x reply_to) = quiet_by v _ _ (uses_quiet v.address) (numbered_keeps v n x)
  controlled_keeps k v (controls.Ack n from) = by_one v _ (to_one v _ (quietly _ (current_quiet k v _ (acked_quiet k v n))))
  controlled_keeps k v (controls.Nack n from) = by_one v _ (to_one v _ (quietly _ (current_quiet k v _ (nacked_quiet k v n))))
  controlled_keeps k v controls.Heartbeat = by_one v _ (to_one v _ (quietly _ (uses_quiet v.address ▹ back_quiet v)))
  controlled_keeps k v (controls.HeartbeatRsp uid) = by_one v _ (to_one v _ (quietly _ (beat_quiet v)))

  spoken_keeps : (i : Inbound P) (v : UniqueAddress) (c : Content) → KeepsBy {P = P} {m = m} tally me v (spoken i v c)
  spoken_keeps i v (Ordinary e x) = quiet_by v _ _ (uses_quiet v.address) (by_one v _ (got_keeps i v e x))
  spoken_keeps i v (Controls c) = controlled_keeps i.number v c

  -- ---- a frame

  speaker_keeps : (v : Option UniqueAddress) (r : UniqueAddress → Rule P (noting m)) → ((v : UniqueAddress) → Keeps tally me (r v)) → Keeps tally me (by_speaker v r)
  speaker_keeps None r a = stays_keep
  speaker_keeps (Some v) r a = a v

  by_open : (i : Inbound P) (c : Content) (o : Option UniqueAddress) (d : Doing P (noting m)) → ((v : UniqueAddress) → o ≡ Some v → is_known v (whos d.node.origins) ≡ true) → is_shut d.node o ≡ false → Good tally me d → Good tally me (by_speaker o (λ v. spoken i v c) d)
  by_open i c None d w h g = g
  by_open i c (Some v) d w h g = (spoken_keeps i v c).on d (w v refl) h g

  by_it : (i : Inbound P) (c : Content) (d : Doing P (noting m)) → ((v : UniqueAddress) → speaker_in i.state ≡ Some v → is_known v (whos d.node.origins) ≡ true) → (is_shut d.node (speaker_in i.state) && true) ≡ false → Good tally me d → Good tally me (by_speaker (speaker_in i.state) (λ v. spoken i v c) d)
  by_it i c d w h g = by_open i c (speaker_in i.state) d w (sym (and_true (is_shut d.node (speaker_in i.state))) ∙ h) g

  handles_keep : (i : Inbound P) (c : Content) (d : Doing P (noting m)) → ((v : UniqueAddress) → speaker_in i.state ≡ Some v → is_known v (whos d.node.origins) ≡ true) → (is_shut d.node (speaker_in i.state) && not (is_handshake c)) ≡ false → Good tally me d → Good tally me (handles i c d)
  handles_keep i (Ordinary e x) d w h g = by_it i (Ordinary e x) d w h g
  handles_keep i (Controls (controls.HandshakeReq from to its_nonce)) d w h g = (requested_keeps i from to its_nonce).on d g
  handles_keep i (Controls (controls.HandshakeRsp from for its_nonce)) d w h g = (answered_keeps from for its_nonce).on d g
  handles_keep i (Controls (controls.Quarantined from to)) d w h g = by_it i (Controls (controls.Quarantined from to)) d w h g
  handles_keep i (Controls (controls.Terminating from)) d w h g = by_it i (Controls (controls.Terminating from)) d w h g
  handles_keep i (Controls (controls.TerminatingAck from)) d w h g = by_it i (Controls (controls.TerminatingAck from)) d w h g
  handles_keep i (Controls (controls.RefsTable from uid version keys values sequence)) d w h g = by_it i (Controls (controls.RefsTable from uid version keys values sequence)) d w h g
  handles_keep i (Controls (controls.RefsAck from version sequence)) d w h g = by_it i (Controls (controls.RefsAck from version sequence)) d w h g
  handles_keep i (Controls (controls.ManifestsTable from uid version keys values sequence)) d w h g = by_it i (Controls (controls.ManifestsTable from uid version keys values sequence)) d w h g
  handles_keep i (Controls (controls.ManifestsAck from version sequence)) d w h g = by_it i (Controls (controls.ManifestsAck from version sequence)) d w h g
  handles_keep i (Controls (controls.Numbered n x reply_to)) d w h g = by_it i (Controls (controls.Numbered n x reply_to)) d w h g
  handles_keep i (Controls (controls.Ack n from)) d w h g = by_it i (Controls (controls.Ack n from)) d w h g
  handles_keep i (Controls (controls.Nack n from)) d w h g = by_it i (Controls (controls.Nack n from)) d w h g
  handles_keep i (Controls controls.Heartbeat) d w h g = by_it i (Controls controls.Heartbeat) d w h g
  handles_keep i (Controls (controls.HeartbeatRsp uid)) d w h g = by_it i (Controls (controls.HeartbeatRsp uid)) d w h g

  judged_keeps : (i : Inbound P) (x : Result Content DropRule) (d : Doing P (noting m)) → ((v : UniqueAddress) → speaker_in i.state ≡ Some v → is_known v (whos d.node.origins) ≡ true) → Good tally me d → Good tally me (heard_as i (judged (is_shut d.node (speaker_in i.state)) x) d)
  judged_keeps i (Err rule) d w g = (quietly _ (drops_quiet i.number rule)).on d g
  judged_keeps i (Ok c) d w g = by (is_shut d.node (speaker_in i.state) && not (is_handshake c)) refl
    where
      by : (b : Bool) → (is_shut d.node (speaker_in i.state) && not (is_handshake c)) ≡ b → Good {P = P} {m = m} tally me (heard_as i (cond b (OfClosed c) (Says c)) d)
      by true e = (speaker_keeps (speaker_in i.state) (λ v. drops_closed i.number v c) (λ v. quietly _ (closed_quiet i.number v c))).on d g
      by false e = handles_keep i c d w e g

  hears_keep : (conn : ℕ) (stream : Option Stream) (frame : List ℕ) → Keeps {P = P} {m = m} tally me (hears conn stream frame)
  hears_keep conn stream frame = record { on = λ d g. by d (inbound_at conn d.node) refl g }
    where
      by : (d : Doing P (noting m)) (i : Option (Inbound P)) → inbound_at conn d.node ≡ i → Good tally me d → Good {P = P} {m = m} tally me (hears_on stream i frame d)
      by d None e g = g
      by d (Some i) e g = judged_keeps i (content_in stream d.node i frame) d (found_known (whos d.node.origins) (is_number conn) d.node.inbound i g.took.known e) g

  -- ---- inbound connections

  accepts_keep : (k : ℕ) → Keeps {P = P} {m = m} tally me (accepts k)
  accepts_keep k = record { on = λ d g. (if_keeps (nat_lt (length d.node.inbound) most_inbound) _ _ made (quietly _ (refuses_quiet reasons.Connections ▹ inward_quiet k))).on d g }
    where
      made : Keeps {P = P} {m = m} tally me (becomes (with_inbound k))
      made = record { on = λ d g. record { mine = g.mine; moment = g.moment; alive = g.alive; shut = g.shut; stand = g.stand; sound = g.sound; own = g.own; took = took_speakers (speakers (put_inbound (accepted_as k) d.node.inbound)) (put_known (whos d.node.origins) k d.node.inbound g.took.known) g.took } }

  without_keeps : (k : ℕ) → Keeps {P = P} {m = m} tally me (becomes (without_inbound k))
  without_keeps k = record { on = λ d g. record { mine = g.mine; moment = g.moment; alive = g.alive; shut = g.shut; stand = g.stand; sound = g.sound; own = g.own; took = took_speakers (speakers (filter (λ i. not (is_number k i)) d.node.inbound)) (filter_known (whos d.node.origins) (λ i. not (is_number k i)) d.node.inbound g.took.known) g.took } }

  broken_keeps : (k : ℕ) (fault : Option FrameFault) → Keeps {P = P} {m = m} tally me (ends_broken k fault)
  broken_keeps k None = stays_keep
  broken_keeps k (Some fault) = quietly _ (drops_quiet k (stream_rule fault)) ▻ quietly _ (inward_quiet k) ▻ without_keeps k

  comes_on_keeps : (k : ℕ) (piece : List ℕ) (i : Option (Inbound P)) → Keeps {P = P} {m = m} tally me (comes_on k piece i)
  comes_on_keeps k piece None = quietly _ (inward_quiet k)
  comes_on_keeps k piece (Some i) =
      quietly _ (inbound_quiet k (with_bytes P.nothing_came) (λ j. refl))
      ▻ each_keeps (P.frames piece i.bytes) (hears k (P.carries (P.came piece i.bytes))) (λ frame. hears_keep k (P.carries (P.came piece i.bytes)) frame)
      ▻ quietly _ (inbound_quiet k (with_bytes (P.came piece i.bytes)) (λ j. refl))
      ▻ broken_keeps k (P.fault (P.came piece i.bytes))

  comes_keep : (k : ℕ) (piece : List ℕ) → Keeps {P = P} {m = m} tally me (comes k piece)
  comes_keep k piece = record { on = λ d g. (comes_on_keeps k piece (inbound_at k d.node)).on d g }

  ended_keeps : (c : Conn) → Keeps {P = P} {m = m} tally me (ended c)
  ended_keeps (Outward dial) = quietly _ (lost_quiet dial)
  ended_keeps (Inward k) = without_keeps k

  -- ---- requests of users

  quarantined_keeps : (a : Address) → Keeps {P = P} {m = m} tally me (quarantined a)
  quarantined_keeps a = record { on = λ d g. closes_keep a causes.Quarantined (current_of (peer_at a d.node)) (tells_of (λ who. lines.Refused who reasons.NotCurrent)) (quietly _ (refuses_quiet reasons.NotCurrent)) d refl g }

  asked_for_keeps : (request : Request) → Keeps {P = P} {m = m} tally me (asked_for request)
  asked_for_keeps (requests.Pair a) = at_request_keeps a stays stays_keep
  asked_for_keeps (requests.Send a x) = at_request_keeps a (sends a x) (sends_keep a x)
  asked_for_keeps (requests.Tell a x) = at_request_keeps a (tells_message a x) (tells_message_keeps a x)
  asked_for_keeps (requests.Watch path watchee) = watches_keep path watchee
  asked_for_keeps (requests.Unwatch path watchee) = unwatches_keep path watchee
  asked_for_keeps (requests.Spawn path) = quietly _ (spawns_quiet path)
  asked_for_keeps (requests.Kill path) = kills_keep path
  asked_for_keeps (requests.Quarantine a) = quarantined_keeps a

  -- ---- the tick

  patience_keeps : (a : Address) → Keeps {P = P} {m = m} tally me (loses_patience a)
  patience_keeps a = record { on = λ d g. by d (is_lost d.node.moment (peer_at a d.node)) g }
    where
      by : (d : Doing P (noting m)) (b : Bool) → Good tally me d → Good {P = P} {m = m} tally me (where_true b (closes_current a causes.Undelivered (current_of (peer_at a d.node)) stays) d)
      by d true g = closes_keep a causes.Undelivered (current_of (peer_at a d.node)) stays stays_keep d refl g
      by d false g = g

  detects_of_keeps : (a : Address) (uid : ℕ) (d : Doing P (noting m)) → (known_at a d.node).current ≡ Some uid → Good tally me d → Good tally me (detects_of a uid d)
  detects_of_keeps a uid d c g = by (P.available d.node.moment (peer_at a d.node).beats)
    where
      by : (b : Bool) → Good {P = P} {m = m} tally me (cond b (beats (incarnation a uid)) (closes_current a causes.Unreachable (Some uid) stays) d)
      by true = (quietly _ (beats_quiet (incarnation a uid))).on d g
      by false = closes_keep a causes.Unreachable (Some uid) stays stays_keep d c g

  detects_as_keeps : (a : Address) (uid : Option ℕ) (d : Doing P (noting m)) → (known_at a d.node).current ≡ uid → Good tally me d → Good tally me (detects_as a uid d)
  detects_as_keeps a None d c g = g
  detects_as_keeps a (Some uid) d c g =
      let q : Quiet {P = P} {m = m} (peer_becomes a (asked_at d.node.moment)) = peer_quiet a (asked_at d.node.moment) (λ p. refl) in
      let e : Doing P (noting m) = peer_becomes a (asked_at d.node.moment) d in
      detects_of_keeps a uid e (ap (λ (k : Known). k.current) ((q.on d).known a) ∙ c) (good_same d e (q.on d) g)

  detects_keep : (a : Address) → Keeps {P = P} {m = m} tally me (detects a)
  detects_keep a = record { on = λ d g. by d (watches_at a d.node) g }
    where
      by : (d : Doing P (noting m)) (b : Bool) → Good tally me d → Good {P = P} {m = m} tally me (where_true b (detects_as a (current_of (peer_at a d.node))) d)
      by d true g = detects_as_keeps a (current_of (peer_at a d.node)) d refl g
      by d false g = g

  ticks_peer_keeps : (a : Address) → Keeps {P = P} {m = m} tally me (ticks_peer a)
  ticks_peer_keeps a = quietly _ (tends_control_quiet a) ▻ quietly _ (tends_ordinary_quiet a) ▻ patience_keeps a ▻ quietly _ (resends_quiet a) ▻ detects_keep a ▻ quietly _ (sleeps_quiet a)

  ticks_peers_keep : Keeps {P = P} {m = m} tally me ticks_peers
  ticks_peers_keep = record { on = λ d g. (each_keeps (map address_of d.node.peers) ticks_peer ticks_peer_keeps).on d g }

-- ---- the step

module _ {P : Parts} {tally : Counting P} {me : UniqueAddress} where
  -- What holds of a node and its lines holds after each input.
  pub reacts_keeps : (input : Input) (n : Node P) (ls : List Entry) → Good {P = P} {m = n.moment} tally me (record { node = n; deeds = ls })
      → Good {P = P} {m = moment_then input n.moment} tally me (reacts {P = P} {E = noting (moment_then input n.moment)} input (record { node = n; deeds = ls }))
  reacts_keeps (inputs.Request request) n ls g = (asked_for_keeps request).on (record { node = n; deeds = ls }) g
  reacts_keeps (inputs.Accepted conn) n ls g = (accepts_keep conn).on (record { node = n; deeds = ls }) g
  reacts_keeps (inputs.Dialed dial) n ls g = (quietly _ (dialed_quiet dial)).on (record { node = n; deeds = ls }) g
  reacts_keeps (inputs.DialFailed dial) n ls g = (quietly _ (lost_quiet dial)).on (record { node = n; deeds = ls }) g
  reacts_keeps (inputs.Bytes conn piece) n ls g = (comes_keep conn piece).on (record { node = n; deeds = ls }) g
  reacts_keeps (inputs.Ended conn) n ls g = (ended_keeps conn).on (record { node = n; deeds = ls }) g
  reacts_keeps (inputs.Tick now) n ls g = (ticks_peers_keep ▻ quietly _ ticks_origins_quiet).on (record { node = record n { moment = now }; deeds = ls })
      (record { mine = g.mine; moment = refl; alive = g.alive; shut = g.shut; stand = g.stand; sound = g.sound; own = g.own; took = g.took })
