-- The rules of making, closing, sending, telling and watching keep the facts.
use Rattle.std.proofs.Common.{◌≡◌, ℕ, Bool, true, false, ◌&&◌, cond, List, [], ◌∷◌, ◌++◌, length, refl, sym, ◌∙◌, ap, subst}
use Rattle.std.specs.Prelude.{nat_lt, ◌==◌, Option, Some, None}
use Rattle.std.specs.List.{find}
use Rattle.artery_judge.specs.Lines.{same}
use Rattle.artery_base.specs.declared.address.Address.{Address}
use Rattle.artery_base.specs.declared.address.UniqueAddress.{UniqueAddress}
use Rattle.artery_base.specs.declared.message.SysMsg.{SysMsg}
use Rattle.artery_base.specs.declared.message.Tell.{Tell}
use Rattle.artery_assoc.specs.Peer.{is_that, PeerState, learning, closing, peer_after_learn, peer_after_close, peer_learnt}
use Rattle.artery_assoc.specs.declared.peer.Learn.{Learn}
use Rattle.artery_assoc.specs.declared.peer.Learn.TheVariants.{Learnt, Same, WasClosed, ClosedFull}
use Rattle.artery_assoc.specs.declared.peer.Close.{Close}
use Rattle.artery_assoc.specs.declared.peer.Close.TheVariants.{Closed, AlreadyClosed, NotCurrent}
use Rattle.artery_control.specs.declared.control.Control.{Control}
use Rattle.artery_control.specs.declared.control.Control.TheVariants as controls
use Rattle.artery_delivery.specs.declared.outbound.Accept.{Accept}
use Rattle.artery_delivery.specs.declared.outbound.Accept.TheVariants.{Accepted, Waiting, Overflow}
use Rattle.artery_frame.specs.declared.stream.Stream.{Stream}
use Rattle.artery_frame.specs.declared.stream.Stream.TheVariants as streams
use Rattle.artery_journal.specs.declared.line.Line.{Line}
use Rattle.artery_journal.specs.declared.line.Line.TheVariants as lines
use Rattle.artery_journal.specs.declared.words.Reason.TheVariants as reasons
use Rattle.artery_journal.specs.declared.words.Cause.{Cause}
use Rattle.artery_journal.specs.declared.words.Cause.TheVariants as causes
use Rattle.artery_watch.specs.Watcher.{Kept as Watching, ids_at, kept_closed, kept_forgotten}
use Rattle.artery_machine.specs.Lists.{or_else, change_first}
use Rattle.artery_machine.specs.Deeds.{Writing, Controls}
use Rattle.artery_machine.specs.Parts.{whole}
use Rattle.artery_machine.specs.Node.{Peer, is_peer, new_peer, same_address, with_link, has_peer, peer_at, conn_of, current_of, incarnation}
use Rattle.artery_machine.specs.Doing.{Rule, ◌▸◌, stays, where_true, becomes, tells_of, writes_on, hangs_up, peer_becomes, each, times}
use Rattle.artery_machine.specs.Making.{link_gone, link_lost, used_now, dials, with_peer_at, makes_missing, may_have, wakes, uses, at_request, loses}
use Rattle.artery_machine.specs.Closing.{control_dial, forgets_watches_of, dial_of, is_told, without_detector, with_closed, with_new_tables, on_control, on_control_to, quarantines, drops_ordinary, terminates_at, closes, closes_current}
use Rattle.artery_machine.specs.Sending.{with_out, keeps_nothing, begins_waiting, with_held, without_held, told_as, pumps_next, pumps_one, pumps, rewinds, tells_sent, sent_as, sends_now, sends, tells_told, tells_on, holds, tells_held, most_held}
use Rattle.artery_machine.specs.Watching.{watches_become}
use Rattle.artery_machine.specs.Handshaking.{with_learnt}
use Rattle.artery_flight.proofs.Lists.{on_cond, not_both, eq_false, eq_not, some_same, not_some, each_weaker}
use Rattle.artery_flight.specs.Flight.{is_frame}
use Rattle.artery_machine.specs.Connections.{is_dialed}
use Rattle.artery_flight.proofs.Facts.{Network, Conn, IsTrue, PeerFacts, NodeFacts, later_self, later_trans}
use Rattle.artery_flight.proofs.Peers.{View, view, view_at, SentFacts, sent_out, IsSameSent, rewound_same, pumped_same, IsAccepted, accepted_is, waiting_is, next_among, closed_sent}
use Rattle.artery_flight.proofs.Telling.{IsLinked, Told as WasTold, Telling, tell_one, told_kept, linked_kept, same_peer_view, found_view, found_now, view_address}
use Rattle.artery_delivery.specs.Outbound.{State, accepted}
use Rattle.artery_machine.specs.declared.world.Outcome.{Outcome}
use Rattle.artery_flight.proofs.Deeds.{outward, only}
use Rattle.artery_flight.proofs.Lines.{IsPlainLine, IsOwn, IsAmong, sent_in, numbered}
use Rattle.artery_flight.proofs.Rules.{Good, Kept, Premise, Work, Keeps, speaking, kept_self, kept_node, kept_then, ◌▹◌, IsSamePeer, stays_keep, tells_keep, hangs_keep, watching_keep, peer_keep, gone_keeps, lost_keeps, if_keeps, where_keeps, each_keeps, times_keep, may_say, write_kept, peer_facts_at}
use Rattle.artery_flight.proofs.Controlling.{IsOther, on_control_keeps, dials_keep, made_facts, each_own, writes_on_kept, bound_speaks, bound_reaches, bound_named, named_at}

-- ---- changes of a peer that leave its address and its connections

pub learn_stays : (x : Learn) (uid : ℕ) (s : PeerState) → (peer_after_learn x uid s).address ≡ s.address
learn_stays (Learnt former) uid s = refl
learn_stays Same uid s = refl
learn_stays WasClosed uid s = refl
learn_stays ClosedFull uid s = refl

pub learnt_stays : (uid : ℕ) (s : PeerState) → (peer_learnt uid s).address ≡ s.address
learnt_stays uid s = learn_stays (learning uid s) uid s

pub close_stays : (x : Close) (uid : ℕ) (s : PeerState) → (peer_after_close x uid s).address ≡ s.address
close_stays Closed uid s = refl
close_stays AlreadyClosed uid s = refl
close_stays NotCurrent uid s = refl

pub closed_linked : (uid : ℕ) → IsLinked (with_closed uid)
closed_linked uid = record { address = λ q. close_stays (closing uid q.incarnations) uid q.incarnations; control = λ q. refl; ordinary = λ q. refl }

pub out_linked : (f : whole.Out → whole.Out) → IsLinked (with_out f)
out_linked f = record { address = λ q. refl; control = λ q. refl; ordinary = λ q. refl }

pub learnt_linked : (now uid : ℕ) → IsLinked (with_learnt now uid)
learnt_linked now uid = record { address = λ q. learnt_stays uid q.incarnations; control = λ q. refl; ordinary = λ q. refl }

-- other UIDs are other incarnations
pub eq_turned : (x y : ℕ) → (x == y) ≡ false → (y == x) ≡ false
eq_turned x y h = eq_false y x (λ e. eq_not x y h (sym e))

pub other_uid : (a b : Address) (x y : ℕ) → (x == y) ≡ false → same (incarnation a x) (incarnation b y) ≡ false
other_uid a b x y h = by (same_address a b)
  where
    by : (c : Bool) → (c && (x == y)) ≡ false
    by true = h
    by false = refl

pub waiting_same : (now : ℕ) → IsSamePeer (begins_waiting {P = whole} now)
waiting_same now = record {
  out = λ p. on_cond (λ (q : Peer whole). q.out ≡ p.out) (keeps_nothing p) (record p { quiet = now; patience = now }) p (λ e. refl) (λ e. refl);
  incarnations = λ p. on_cond (λ (q : Peer whole). q.incarnations ≡ p.incarnations) (keeps_nothing p) (record p { quiet = now; patience = now }) p (λ e. refl) (λ e. refl);
  control = λ p. on_cond (λ (q : Peer whole). q.control ≡ p.control) (keeps_nothing p) (record p { quiet = now; patience = now }) p (λ e. refl) (λ e. refl);
  ordinary = λ p. on_cond (λ (q : Peer whole). q.ordinary ≡ p.ordinary) (keeps_nothing p) (record p { quiet = now; patience = now }) p (λ e. refl) (λ e. refl);
}

module _ {u m : ℕ} {p : Premise u} where
  -- the small rules, here
  pub stays_here : Keeps u m p stays
  stays_here = stays_keep

  pub tells_here : (line : UniqueAddress → Line) → ((me : UniqueAddress) → IsPlainLine (line me)) → Keeps u m p (tells_of line)
  tells_here line s = tells_keep line s

  pub hangs_here : (x : Option ℕ) → Keeps u m p (hangs_up x)
  hangs_here x = hangs_keep x

  pub watching_here : (f : Watching → Watching) → Keeps u m p (watches_become f)
  watching_here f = watching_keep f

  pub control_here : (v : UniqueAddress) (x : Control) → IsOther x → Keeps u m p (on_control v x)
  control_here v x o = on_control_keeps v x o

  pub dials_here : (stream : Stream) (a : Address) → Keeps u m p (dials stream a)
  dials_here stream a = dials_keep stream a

  pub peer_here : (a : Address) (f : Peer whole → Peer whole) → IsSamePeer f → Keeps u m p (peer_becomes a f)
  peer_here a f s = peer_keep a f s

  pub gone_here : (stream : Stream) (a : Address) → Keeps u m p (peer_becomes a (with_link stream link_gone))
  gone_here stream a = gone_keeps stream a

  pub if_here : (b : Bool) (r s : Rule whole (outward u m)) → Keeps u m p r → Keeps u m p s → Keeps u m p (cond b r s)
  if_here b r s x y = if_keeps b r s x y

  pub where_here : (b : Bool) (r : Rule whole (outward u m)) → Keeps u m p r → Keeps u m p (where_true b r)
  where_here b r x = where_keeps b r x

  pub each_here : {X : Type 0} (xs : List X) (r : X → Rule whole (outward u m)) → ((x : X) → Keeps u m p (r x)) → Keeps u m p (each xs r)
  each_here xs r a = each_keeps xs r a

  -- ---- making

  pub makes_missing_keeps : (a : Address) → Keeps u m p (makes_missing a)
  makes_missing_keeps a = record {
    on = λ d h g. on_cond (λ (r : Rule whole (outward u m)). Kept u d.node d.deeds (r d).node (r d).deeds) (has_peer a d.node) stays (becomes (with_peer_at a) ▸ dials streams.Control a)
        (λ t. kept_self u d.node d.deeds g)
        (λ t. (let k : Kept u d.node d.deeds (with_peer_at a d.node) d.deeds = kept_node u d.node (with_peer_at a d.node) d.deeds g (λ j. refl) (λ e. made_facts u a d.node d.deeds t) in
        let e : Work u m = becomes (with_peer_at a) d in
        kept_then u d.node d.deeds d.deeds (dials streams.Control a e).deeds (with_peer_at a d.node) (dials streams.Control a e).node k ((dials_here streams.Control a).on e h k.good)));
  }

  pub wakes_keeps : (b : Bool) (a : Address) → Keeps u m p (wakes b a)
  wakes_keeps true a = dials_here streams.Control a
  wakes_keeps false a = stays_here

  pub uses_keeps : (a : Address) → Keeps u m p (uses a)
  uses_keeps a = record { on = λ d h g. (peer_here a (used_now d.node.moment) (record { incarnations = λ q. refl; out = λ q. refl; control = λ q. refl; ordinary = λ q. refl }) ▹ wakes_keeps (peer_at a d.node).asleep a).on d h g }

  pub at_request_keeps : (a : Address) (r : Rule whole (outward u m)) → Keeps u m p r → Keeps u m p (at_request a r)
  at_request_keeps a r k = record { on = λ d h g. (if_here (may_have a d.node) _ _ (makes_missing_keeps a ▹ uses_keeps a ▹ k) (tells_here (λ me. lines.Refused me reasons.Peers) (λ me. (refl, refl, refl)))).on d h g }

  pub loses_keeps : (stream : Stream) (a : Address) → Keeps u m p (loses stream a)
  loses_keeps stream a = record { on = λ d h g. (lost d.node.moment).on d h g }
    where
      lost : (now : ℕ) → Keeps u m p (peer_becomes a (with_link stream (link_lost now)))
      lost now = lost_keeps stream a now

  -- ---- closing

  pub quarantines_keeps : (v : UniqueAddress) → Keeps u m p (quarantines v)
  quarantines_keeps v = record { on = λ d h g. (control_here v (controls.Quarantined d.node.me v) tt).on d h g }

  pub drops_ordinary_keeps : (a : Address) → Keeps u m p (drops_ordinary a)
  drops_ordinary_keeps a = record { on = λ d h g. (hangs_here (dial_of (conn_of streams.Ordinary (peer_at a d.node))) ▹ gone_here streams.Ordinary a).on d h g }

  pub terminated_keep : (ids : List ℕ) → Keeps u m p (each ids (λ id. tells_of (λ me. lines.Terminated me id)))
  terminated_keep ids = each_here ids (λ id. tells_of (λ me. lines.Terminated me id)) (λ id. tells_here (λ me. lines.Terminated me id) (λ me. (refl, refl, refl)))

  pub terminates_at_keeps : (a : Address) → Keeps u m p (terminates_at a)
  terminates_at_keeps a = record { on = λ d h g. (terminated_keep (ids_at a d.node.watching.watches.list) ▹ watching_here (kept_closed a)).on d h g }

  -- what follows where an incarnation was closed
  pub closes_rest : (a : Address) (c : Cause) (uid : ℕ) → Keeps u m p ((cond (is_told c) (quarantines (incarnation a uid)) stays) ▸ drops_ordinary a ▸ forgets_watches_of (incarnation a uid) ▸ terminates_at a ▸ peer_becomes a without_detector ▸ peer_becomes a with_new_tables)
  closes_rest a c uid =
      if_here (is_told c) _ _ (quarantines_keeps (incarnation a uid)) stays_here
      ▹ drops_ordinary_keeps a
      ▹ watching_here (kept_forgotten (incarnation a uid))
      ▹ terminates_at_keeps a
      ▹ peer_here a without_detector (record { incarnations = λ q. refl; out = λ q. refl; control = λ q. refl; ordinary = λ q. refl })
      ▹ peer_here a with_new_tables (record { incarnations = λ q. refl; out = λ q. refl; control = λ q. refl; ordinary = λ q. refl })

module _ {u m : ℕ} where
  -- the current incarnation is closed
  pub closes_kept : (p : Premise u) (a : Address) (c : Cause) (uid : ℕ) (d : Work u m) → p.holds d.deeds → current_of (peer_at a d.node) ≡ Some uid → Good u d.node d.deeds → Kept u d.node d.deeds (closes a c uid d).node (closes a c uid d).deeds
  closes_kept p a c uid d h now g =
      let d1 : Work u m = tells_of (λ me. lines.Closed me (incarnation a uid) c) d in
      let k1 : Kept u d.node d.deeds d1.node d1.deeds = (tells_here {p = p} (λ me. lines.Closed me (incarnation a uid) c) (λ me. (refl, refl, refl))).on d h g in
      let d2 : Work u m = peer_becomes a (with_closed uid) d1 in
      let k2 : Kept u d1.node d1.deeds d2.node d2.deeds = linked_kept u a (with_closed uid) (closed_linked uid) d1.node d1.deeds
      (λ live q e f. closed_sent d1.node.me d1.deeds.outcomes uid (view q) (ap (λ (x : View). x.incarnations.current) (sym (found_view a d1.node q e)) ∙ now) f) k1.good in
      kept_then u d.node d.deeds d2.deeds (closes a c uid d).deeds d2.node (closes a c uid d).node
      (kept_then u d.node d.deeds d1.deeds d2.deeds d1.node d2.node k1 k2)
      ((closes_rest {p = p} a c uid).on d2 (p.stays d.deeds d2.deeds (later_trans (only u) d.deeds d1.deeds d2.deeds k1.later k2.later) h) k2.good)

module _ {u m : ℕ} {p : Premise u} where
  pub closing_keeps : (a : Address) (c : Cause) (r : Rule whole (outward u m)) → Keeps u m p r → Keeps u m p (λ d. closes_current a c (current_of (peer_at a d.node)) r d)
  closing_keeps a c r k = record { on = λ d h g. by d h g (current_of (peer_at a d.node)) refl }
    where
      by : (d : Work u m) → p.holds d.deeds → Good u d.node d.deeds → (o : Option ℕ) → current_of (peer_at a d.node) ≡ o → Kept u d.node d.deeds (closes_current a c o r d).node (closes_current a c o r d).deeds
      by d h g None e = k.on d h g
      by d h g (Some uid) e = closes_kept p a c uid d h e g

  -- ---- sending

  pub out_keeps : (a : Address) (f : whole.Out → whole.Out) → IsSameSent f → Keeps u m p (peer_becomes a (with_out f))
  out_keeps a f s = record {
    on = λ d h g. linked_kept u a (with_out f) (out_linked f) d.node d.deeds (λ live q e k. sent_out d.node.me d.deeds.outcomes (view q) (f q.out) (s.sent q.out) (s.learnt q.out) k) g;
  }

module _ {u m : ℕ} where
  -- a message is written that was told as sent
  pub numbered_kept : (p : Premise u) (a : Address) (x : ℕ × SysMsg) (d : Work u m) → p.holds d.deeds → Good u d.node d.deeds → whole.next (peer_at a d.node).out ≡ Some x → (o : Option ℕ) → current_of (peer_at a d.node) ≡ o
      → Kept u d.node d.deeds ((peer_becomes a (with_out whole.pumped) ▸ on_control_to a o (controls.Numbered x.0 x.1 d.node.me)) d).node ((peer_becomes a (with_out whole.pumped) ▸ on_control_to a o (controls.Numbered x.0 x.1 d.node.me)) d).deeds
  numbered_kept p a x d h g next None e = (out_keeps {p = p} a whole.pumped pumped_same).on d h g
  numbered_kept p a x d h g next (Some uid) e =
      let d1 : Work u m = peer_becomes a (with_out whole.pumped) d in
      let k1 : Kept u d.node d.deeds d1.node d1.deeds = (out_keeps {p = p} a whole.pumped pumped_same).on d h g in
      let w : Network = d.deeds in
      let y : Writing = Controls (controls.Numbered x.0 x.1 d.node.me) in
      let among : w.ended ≡ None → IsAmong x (sent_in d.node.me (incarnation a uid) w.outcomes) = λ live.
      (let f : SentFacts d.node.me w.outcomes (view_at a d.node) = (g.node live).sent a in
      subst (λ (b : Address). IsAmong x (sent_in d.node.me (incarnation b uid) w.outcomes)) (view_address a d.node) (subst (λ rs. IsAmong x rs) (sym (f.sent uid e)) (next_among (view_at a d.node).out x next))) in
      kept_then u d.node d.deeds d1.deeds (on_control_to a (Some uid) (controls.Numbered x.0 x.1 d.node.me) d1).deeds d1.node (on_control_to a (Some uid) (controls.Numbered x.0 x.1 d.node.me) d1).node k1
      (writes_on_kept u m d1 (control_dial (incarnation a uid) d1.node) y k1.good (λ i f live.
      (let facts : PeerFacts u w.connections (peer_at a d1.node) = peer_facts_at u d1.node d1.deeds a (k1.good.node live) in
      may_say u i w.connections w.outcomes y refl (λ c t. tt)
      (λ r. each_weaker (λ (c : Conn). is_dialed u i c ≡ true → c.far ≡ uid) (λ (c : Conn). is_dialed u i c ≡ true → IsOwn w.outcomes c.far y) (λ c q t. (incarnation a uid, sym (q t), bound_named w.outcomes a uid (conn_of streams.Control (peer_at a d1.node)) i (named_at u d1.node d1.deeds a (k1.good.node live) r) f, among live)) w.connections
      (bound_reaches u w.connections uid (conn_of streams.Control (peer_at a d1.node)) i facts.control f r).holds)
      (bound_speaks u w.connections uid (conn_of streams.Control (peer_at a d1.node)) i facts.control f))))

module _ {u m : ℕ} {p : Premise u} where
  pub pumps_one_keeps : (a : Address) → Keeps u m p (pumps_one a)
  pumps_one_keeps a = record { on = λ d h g. by d h g (whole.next (peer_at a d.node).out) refl }
    where
      by : (d : Work u m) → p.holds d.deeds → Good u d.node d.deeds → (x : Option (ℕ × SysMsg)) → whole.next (peer_at a d.node).out ≡ x → Kept u d.node d.deeds (pumps_next a x d).node (pumps_next a x d).deeds
      by d h g None e = kept_self u d.node d.deeds g
      by d h g (Some x) e = numbered_kept p a x d h g e (current_of (peer_at a d.node)) refl

  pub pumps_keep : (a : Address) → Keeps u m p (pumps a)
  pumps_keep a = record { on = λ d h g. (all_pumped (length (whole.unacknowledged (peer_at a d.node).out))).on d h g }
    where
      all_pumped : (k : ℕ) → Keeps u m p (times k (pumps_one a))
      all_pumped k = times_keep k (pumps_one a) (pumps_one_keeps a)

  pub rewinds_keep : (a : Address) → Keeps u m p (rewinds a)
  rewinds_keep a = out_keeps a whole.rewound rewound_same

module _ {u m : ℕ} where
  -- a message is accepted and told as sent
  pub accepted_told : (a : Address) (x : SysMsg) (n : ℕ) (d : Work u m) → Good u d.node d.deeds → whole.acceptance x (peer_at a d.node).out ≡ Accepted n → (o : Option ℕ) → current_of (peer_at a d.node) ≡ o
      → Kept u d.node d.deeds ((peer_becomes a (with_out (whole.accepted x)) ▸ tells_sent a o n x) d).node ((peer_becomes a (with_out (whole.accepted x)) ▸ tells_sent a o n x) d).deeds
  accepted_told a x n d g acc None e = linked_kept u a (with_out (whole.accepted x)) (out_linked (whole.accepted x)) d.node d.deeds
      (λ live q f k. not_both (accepted_is x (view_at a d.node).out n acc).learnt (((g.node live).sent a).quiet e)) g
  accepted_told a x n d g acc (Some uid) e =
      let w : Network = d.deeds in
      let me : UniqueAddress = d.node.me in
      let v : UniqueAddress = incarnation a uid in
      let s : View = view_at a d.node in
      let is : IsAccepted x s.out n = accepted_is x s.out n acc in
      let begun : Telling u me v s.out.sent w w = record {
        out = g.out;
        later = later_self (only u) w;
        going = λ live. record {
          conns = refl;
          pending = refl;
          mine = subst (λ (b : Address). sent_in me (incarnation b uid) w.outcomes ≡ numbered 1 s.out.sent) (view_address a d.node) (((g.node live).sent a).sent uid e);
          other = λ y t. refl;
        };
      } in
      let d1 : Work u m = (peer_becomes a (with_out (whole.accepted x)) ▸ tells_sent a (Some uid) n x) d in
      let told : Telling u me v (s.out.sent ++ x ∷ []) w d1.deeds = tell_one u m me v s.out.sent n x w w (λ live. (g.node live).me) is.count begun in
      told_kept u a uid (with_out (whole.accepted x)) (out_linked (whole.accepted x)) d.node w d1.deeds (s.out.sent ++ x ∷ []) told (λ live t f. found live t f (find (is_peer a) d.node.peers) refl) g
    where
      found : {y : Network} → y.ended ≡ None → WasTold d.node.me (incarnation a uid) ((view_at a d.node).out.sent ++ x ∷ []) d.deeds y → NodeFacts u d.node d.deeds → (o : Option (Peer whole)) → find (is_peer a) d.node.peers ≡ o
          → SentFacts d.node.me y.outcomes (view_at a (record d.node { peers = change_first (is_peer a) (with_out (whole.accepted x)) d.node.peers }))
      found {y} live t f None i = not_both (subst (λ (z : View). z.out.learnt ≡ true) (ap (λ (o : Option (Peer whole)). view (or_else (new_peer a) o)) i) (accepted_is x (view_at a d.node).out n acc).learnt) refl
      found {y} live t f (Some q) i =
          let same : view_at a d.node ≡ view q = found_view a d.node q i in
          let h : SentFacts d.node.me d.deeds.outcomes (view q) = subst (SentFacts d.node.me d.deeds.outcomes) same (f.sent a) in
          let now : accepted x q.out ≡ record q.out { sent = q.out.sent ++ x ∷ [] } = subst (λ (z : View). accepted x z.out ≡ record z.out { sent = z.out.sent ++ x ∷ [] }) same (accepted_is x (view_at a d.node).out n acc).now in
          let cur : q.incarnations.current ≡ Some uid = ap (λ (z : View). z.incarnations.current) (sym same) ∙ e in
          let at : q.incarnations.address ≡ a = ap (λ (z : View). z.incarnations.address) (sym same) ∙ view_address a d.node in
          let mine : sent_in d.node.me (incarnation q.incarnations.address uid) y.outcomes ≡ numbered 1 (q.out.sent ++ x ∷ []) = ap (λ (b : Address). sent_in d.node.me (incarnation b uid) y.outcomes) at ∙ t.mine ∙ ap (λ (z : View). numbered 1 (z.out.sent ++ x ∷ [])) same in
          subst (SentFacts d.node.me y.outcomes) (sym (found_now a (with_out (whole.accepted x)) (out_linked (whole.accepted x)) d.node q i))
          (subst (λ (o : State). SentFacts d.node.me y.outcomes (record { incarnations = q.incarnations; out = o })) (sym now) (record {
            alive = h.alive;
            quiet = λ z. not_some (sym z ∙ cur);
            sent = λ z c. subst (λ (k : ℕ). sent_in d.node.me (incarnation q.incarnations.address k) y.outcomes ≡ numbered 1 (q.out.sent ++ x ∷ [])) (some_same (sym cur ∙ c)) mine;
            none = λ z c b. t.other (incarnation q.incarnations.address z) (other_uid q.incarnations.address a z uid (eq_turned uid z (ap (is_that z) (sym cur) ∙ c))) ∙ h.none z c b;
          }))

  pub sent_as_keeps : (p : Premise u) (a : Address) (x : SysMsg) (y : Accept) (d : Work u m) → p.holds d.deeds → Good u d.node d.deeds → whole.acceptance x (peer_at a d.node).out ≡ y → Kept u d.node d.deeds (sent_as a x y d).node (sent_as a x y d).deeds
  sent_as_keeps p a x (Accepted n) d h g e =
      let d0 : Work u m = peer_becomes a (begins_waiting d.node.moment) d in
      let k0 : Kept u d.node d.deeds d0.node d0.deeds = (peer_here {p = p} a (begins_waiting d.node.moment) (waiting_same d.node.moment)).on d h g in
      let same : view_at a d0.node ≡ view_at a d.node = same_peer_view a a (begins_waiting d.node.moment) (waiting_same d.node.moment) d.node in
      let r : Rule whole (outward u m) = peer_becomes a (with_out (whole.accepted x)) ▸ tells_sent a (current_of (peer_at a d.node)) n x in
      let d1 : Work u m = r d0 in
      let k1 : Kept u d0.node d0.deeds d1.node d1.deeds = accepted_told a x n d0 k0.good (ap (λ (z : View). whole.acceptance x z.out) same ∙ e) (current_of (peer_at a d.node)) (ap (λ (z : View). z.incarnations.current) same) in
      let k : Kept u d.node d.deeds d1.node d1.deeds = kept_then u d.node d.deeds d0.deeds d1.deeds d0.node d1.node k0 k1 in
      kept_then u d.node d.deeds d1.deeds (pumps a d1).deeds d1.node (pumps a d1).node k ((pumps_keep {p = p} a).on d1 (p.stays d.deeds d1.deeds k.later h) k.good)
  sent_as_keeps p a x (Waiting place) d h g e = linked_kept u a (with_out (whole.accepted x)) (out_linked (whole.accepted x)) d.node d.deeds
      (λ live q i k. (let now : accepted x q.out ≡ record q.out { waiting = q.out.waiting ++ x ∷ [] } = waiting_is x q.out place (ap (λ (z : View). whole.acceptance x z.out) (sym (found_view a d.node q i)) ∙ e) in
      sent_out d.node.me d.deeds.outcomes (view q) (accepted x q.out) (ap (λ (z : State). z.sent) now) (ap (λ (z : State). z.learnt) now) k)) g
  sent_as_keeps p a x (Overflow back) d h g e = (closing_keeps {p = p} a causes.Overflow _ (tells_here (λ me. lines.Refused me reasons.Waiting) (λ me. (refl, refl, refl)))).on d h g

module _ {u m : ℕ} {p : Premise u} where
  pub sends_now_keeps : (a : Address) (x : SysMsg) → Keeps u m p (sends_now a x)
  sends_now_keeps a x = record { on = λ d h g. sent_as_keeps p a x (whole.acceptance x (peer_at a d.node).out) d h g refl }

  pub sends_keeps : (a : Address) (x : SysMsg) → Keeps u m p (sends a x)
  sends_keeps a x = uses_keeps a ▹ sends_now_keeps a x

  -- ---- telling

  pub tells_told_keeps : (a : Address) (uid : Option ℕ) (x : ℕ) (y : Tell) → Keeps u m p (tells_told a uid x y)
  tells_told_keeps a None x y = stays_here
  tells_told_keeps a (Some uid) x y = tells_here (λ me. lines.Told me (incarnation a uid) x y) (λ me. (refl, refl, refl))

  pub holds_keeps : (a : Address) (y : Tell) → Keeps u m p (holds a y)
  holds_keeps a y = record {
    on = λ d h g. (if_here {p = p} (nat_lt (length (peer_at a d.node).held) most_held) _ _
        (peer_here a (with_held y) (record { incarnations = λ q. refl; out = λ q. refl; control = λ q. refl; ordinary = λ q. refl })) (tells_here (λ me. lines.Refused me reasons.Held) (λ me. (refl, refl, refl)))).on d h g;
  }

-- where the connection with the dial number speaks
module _ {u m x : ℕ} where
  pub frame_here : (w : Writing) (f : is_frame w ≡ true) → ((cs : List Conn) (c : Conn) → is_dialed u x c ≡ true → IsTrue cs c w) → ((os : List Outcome) (far : ℕ) → IsOwn os far w) → Keeps u m (speaking u x) (writes_on (Some x) w)
  frame_here w f t o = record { on = λ d h g. write_kept u m x d.node d.deeds w g (λ live. may_say u x d.deeds.connections d.deeds.outcomes w f (t d.deeds.connections) (λ r. each_own u x d.deeds.outcomes w (o d.deeds.outcomes) d.deeds.connections) (h live)) }

  pub told_here : (a : Address) (uid : Option ℕ) (y : Tell) → Keeps u m (speaking u x) (tells_told a uid x y)
  told_here a uid y = tells_told_keeps a uid x y

  pub tells_on_keeps : (a : Address) (y : Tell) → Keeps u m (speaking u x) (tells_on a x y)
  tells_on_keeps a y = record { on = λ d h g. (told_here a (current_of (peer_at a d.node)) y ▹ frame_here (told_as d.node.me.uid (peer_at a d.node) y) refl (λ cs c t. tt) (λ os far. tt)).on d h g }

  pub tells_held_keeps : (a : Address) → Keeps u m (speaking u x) (tells_held a x)
  tells_held_keeps a = record { on = λ d h g. (nothing_held ▹ all_told (peer_at a d.node).held).on d h g }
    where
      nothing_held : Keeps u m (speaking u x) (peer_becomes a without_held)
      nothing_held = peer_keep a without_held (record { incarnations = λ q. refl; out = λ q. refl; control = λ q. refl; ordinary = λ q. refl })

      all_told : (ys : List Tell) → Keeps u m (speaking u x) (each ys (tells_on a x))
      all_told ys = each_keeps ys (tells_on a x) (λ y. tells_on_keeps a y)
