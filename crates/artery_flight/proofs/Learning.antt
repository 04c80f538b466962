-- An incarnation is learnt: the former one is closed, and those messages that waited are told as sent.
use Rattle.std.proofs.Common.{◌≡◌, ℕ, Bool, true, false, cond, List, [], ◌∷◌, refl, sym, ◌∙◌, ap, subst}
use Rattle.std.specs.Prelude.{Option, None, Some, ◌==◌, is_none}
use Rattle.std.specs.List.{find}
use Rattle.artery_base.specs.declared.address.Address.{Address}
use Rattle.artery_base.specs.declared.address.UniqueAddress.{UniqueAddress}
use Rattle.artery_base.specs.declared.message.SysMsg.{SysMsg}
use Rattle.artery_assoc.specs.Peer.{is_that, learning, peer_closed}
use Rattle.artery_assoc.specs.declared.peer.Learn.TheVariants.{Learnt}
use Rattle.artery_delivery.specs.Outbound.{nothing_sent, unacknowledged}
use Rattle.artery_frame.specs.declared.stream.Stream.{Stream}
use Rattle.artery_frame.specs.declared.stream.Stream.TheVariants as streams
use Rattle.artery_control.specs.declared.control.Control.TheVariants as controls
use Rattle.artery_journal.specs.declared.line.Line.TheVariants as lines
use Rattle.artery_journal.specs.declared.words.Cause.{Cause}
use Rattle.artery_journal.specs.declared.words.Cause.TheVariants as causes
use Rattle.artery_watch.specs.Watcher.{ids_at}
use Rattle.artery_machine.specs.declared.link.Link.{Link}
use Rattle.artery_machine.specs.declared.world.Outcome.TheVariants as outcomes
use Rattle.artery_machine.specs.Lists.{or_else, change_first}
use Rattle.artery_machine.specs.Deeds.{Writing, Controls, Tells}
use Rattle.artery_machine.specs.Parts.{whole}
use Rattle.artery_machine.specs.Node.{Node, Peer, is_peer, new_peer, peer_at, conn_of, current_of, with_link, incarnation}
use Rattle.artery_machine.specs.Doing.{Rule, ◌▸◌, stays, tells_of, writes_on, hangs_up, peer_becomes, each}
use Rattle.artery_machine.specs.Making.{link_gone}
use Rattle.artery_machine.specs.Closing.{control_dial, dial_of, is_told, without_detector, with_closed, with_new_tables, quarantines, drops_ordinary, forgets_watches_of, terminates_at, closes, closes_current}
use Rattle.artery_machine.specs.Handshaking.{with_learnt, tells_all_sent, tells_waiting}
use Rattle.artery_machine.specs.World.{going_on, comes_out, does as does_outside}
use Rattle.artery_flight.proofs.Lists.{by_test, on_cond, eq_true, not_some}
use Rattle.artery_flight.proofs.Lines.{sent_in, sent_plain, numbered}
use Rattle.artery_flight.proofs.Peers.{View, view, view_at, view_change, SentFacts, sent_later, IsReady, ready_first, ready_then, IsLearnt, learnt_is, learnt_sent}
use Rattle.artery_flight.proofs.Facts.{Network, NodeFacts, later_self}
use Rattle.artery_flight.proofs.Deeds.{outward, only, outcome_later, outcome_out}
use Rattle.artery_flight.proofs.Rules.{Good, Kept, Premise, Work, kept_self, none_is, none_not, IsSamePeer, link_view, link_at}
use Rattle.artery_flight.proofs.Telling.{Told, Telling, all_told, all_told_node, told_kept, same_peer_view, found_view, found_now, view_address}
use Rattle.artery_flight.proofs.Sending.{closes_kept, closed_linked, learnt_linked, eq_turned, other_uid}

-- ---- rules that leave what is known of incarnations and the messages to them

pub record Still {u m : ℕ} (r : Rule whole (outward u m)) : Type 0 where
  pub on : (d : Work u m) (y : Address) → view_at y (r d).node ≡ view_at y d.node

module _ {u m : ℕ} where
  still_then : (r s : Rule whole (outward u m)) → Still {u = u} {m = m} r → Still {u = u} {m = m} s → Still {u = u} {m = m} (r ▸ s)
  still_then r s a b = record { on = λ d y. b.on (r d) y ∙ a.on d y }

  still_writes : (x : Option ℕ) (y : Writing) (d : Work u m) (z : Address) → view_at z (writes_on x y d).node ≡ view_at z d.node
  still_writes None y d z = refl
  still_writes (Some i) y d z = refl

  still_hangs : (x : Option ℕ) (d : Work u m) (z : Address) → view_at z (hangs_up x d).node ≡ view_at z d.node
  still_hangs None d z = refl
  still_hangs (Some i) d z = refl

  still_link : (stream : Stream) (a : Address) (f : Link → Link) → Still {u = u} {m = m} (peer_becomes a (with_link stream f))
  still_link stream a f = record { on = λ d y. view_change y a (with_link stream f) (link_at stream f) (λ x. x ≡ view_at y d.node) d.node.peers refl (λ p e t k. link_view stream f p ∙ k) }

  still_peer : (a : Address) (f : Peer whole → Peer whole) → IsSamePeer f → Still {u = u} {m = m} (peer_becomes a f)
  still_peer a f s = record { on = λ d y. same_peer_view y a f s d.node }

  still_quarantines : (v : UniqueAddress) → Still {u = u} {m = m} (quarantines v)
  still_quarantines v = record { on = λ d y. still_writes (control_dial v d.node) (Controls (controls.Quarantined d.node.me v)) d y }

  still_told : (b : Bool) (v : UniqueAddress) → Still {u = u} {m = m} (cond b (quarantines v) stays)
  still_told true v = still_quarantines v
  still_told false v = record { on = λ d y. refl }

  still_ordinary : (a : Address) → Still {u = u} {m = m} (drops_ordinary a)
  still_ordinary a = record { on = λ d y. (still_link streams.Ordinary a link_gone).on (hangs_up (dial_of (conn_of streams.Ordinary (peer_at a d.node))) d) y ∙ still_hangs (dial_of (conn_of streams.Ordinary (peer_at a d.node))) d y }

  still_ids : (ids : List ℕ) (d : Work u m) (y : Address) → view_at y (each ids (λ id. tells_of (λ me. lines.Terminated me id)) d).node ≡ view_at y d.node
  still_ids [] d y = refl
  still_ids (id ∷ ids) d y = still_ids ids (tells_of (λ me. lines.Terminated me id) d) y

  still_terminates : (a : Address) → Still {u = u} {m = m} (terminates_at a)
  still_terminates a = record { on = λ d y. still_ids (ids_at a d.node.watching.watches.list) d y }

  still_forgets : (v : UniqueAddress) → Still {u = u} {m = m} (forgets_watches_of v)
  still_forgets v = record { on = λ d y. refl }

  -- what is known once the current incarnation was closed
  closes_view : (a : Address) (c : Cause) (uid : ℕ) (d : Work u m) → current_of (peer_at a d.node) ≡ Some uid → view_at a (closes a c uid d).node ≡ record { incarnations = peer_closed uid (view_at a d.node).incarnations; out = nothing_sent }
  closes_view a c uid d now = by (find (is_peer a) d.node.peers) refl
    where
      still_rest : Still {u = u} {m = m} ((cond (is_told c) (quarantines (incarnation a uid)) stays) ▸ drops_ordinary a ▸ forgets_watches_of (incarnation a uid) ▸ terminates_at a ▸ peer_becomes a without_detector ▸ peer_becomes a with_new_tables)
      still_rest = still_then _ _ (still_told (is_told c) (incarnation a uid)) (still_then _ _ (still_ordinary a) (still_then _ _ (still_forgets (incarnation a uid)) (still_then _ _ (still_terminates a)
          (still_then _ _ (still_peer a without_detector (record { incarnations = λ q. refl; out = λ q. refl; control = λ q. refl; ordinary = λ q. refl })) (still_peer a with_new_tables (record { incarnations = λ q. refl; out = λ q. refl; control = λ q. refl; ordinary = λ q. refl }))))))

      by : (o : Option (Peer whole)) → find (is_peer a) d.node.peers ≡ o → view_at a (closes a c uid d).node ≡ record { incarnations = peer_closed uid (view_at a d.node).incarnations; out = nothing_sent }
      by None e = not_some (sym (ap (λ (o : Option (Peer whole)). current_of (or_else (new_peer a) o)) e) ∙ now)
      by (Some q) e =
          still_rest.on (peer_becomes a (with_closed uid) (tells_of (λ me. lines.Closed me (incarnation a uid) c) d)) a
          ∙ found_now a (with_closed uid) (closed_linked uid) d.node q e
          ∙ ap (λ (x : View). record { incarnations = peer_closed uid x.incarnations; out = nothing_sent }) (sym (found_view a d.node q e))

-- ---- learning

-- the former incarnation is closed, and a UID may be learnt
pub record Readied {u m : ℕ} (v : UniqueAddress) (d e : Work u m) : Type 0 where
  pub kept : Kept u d.node d.deeds e.node e.deeds
  pub ready : e.deeds.ended ≡ None → IsReady v.uid (view_at v.address e.node)

module _ {u m : ℕ} where
  pub readied : (p : Premise u) (v : UniqueAddress) (former : Option ℕ) (d : Work u m) → p.holds d.deeds → Good u d.node d.deeds → learning v.uid (peer_at v.address d.node).incarnations ≡ Learnt former → current_of (peer_at v.address d.node) ≡ former
      → Readied v d (closes_current v.address causes.Superseded former stays d)
  readied p v None d h g e now = record { kept = kept_self u d.node d.deeds g; ready = λ live. ready_first d.node.me d.deeds.outcomes v.uid (view_at v.address d.node) e ((g.node live).sent v.address) }
  readied p v (Some f) d h g e now =
      let k : Kept u d.node d.deeds (closes v.address causes.Superseded f d).node (closes v.address causes.Superseded f d).deeds = closes_kept p v.address causes.Superseded f d h now g in
      record {
        kept = k;
        ready = λ live. subst (IsReady v.uid) (sym (closes_view v.address causes.Superseded f d now)) (ready_then d.node.me d.deeds.outcomes v.uid f (view_at v.address d.node) e ((g.node (k.later.going live)).sent v.address));
      }

module _ {u : ℕ} where
  -- the line that it is learnt comes first
  begun : (m : ℕ) (v : UniqueAddress) (n : Node whole) (w : Network) → (w.ended ≡ None → IsReady v.uid (view_at v.address n)) → Good u n w → Telling u n.me (incarnation v.address v.uid) [] w (going_on (does_outside u m (Tells (lines.Learnt n.me v))) w)
  begun m v n w ready g = on_cond (λ (x : Network). Telling u n.me (incarnation v.address v.uid) [] w x) (is_none w.ended) (comes_out (outcomes.Line m (lines.Learnt n.me v)) w) w
      (λ t. record {
        out = outcome_out (outcomes.Line m (lines.Learnt n.me v)) w (refl, refl, refl) g.out;
        later = outcome_later (only u) (outcomes.Line m (lines.Learnt n.me v)) w (refl, refl, refl);
        going = λ e. record {
          conns = refl;
          pending = refl;
          mine = sent_plain n.me (incarnation v.address v.uid) w.outcomes (outcomes.Line m (lines.Learnt n.me v)) (refl, refl, refl) ∙ nothing_yet (none_is w.ended t);
          other = λ y s. sent_plain n.me y w.outcomes (outcomes.Line m (lines.Learnt n.me v)) (refl, refl, refl);
        };
      })
      (λ t. record { out = g.out; later = later_self (only u) w; going = λ e. none_not w.ended t e })
    where
      nothing_yet : w.ended ≡ None → sent_in n.me (incarnation v.address v.uid) w.outcomes ≡ []
      nothing_yet live =
          let f : SentFacts n.me w.outcomes (view_at v.address n) = (g.node live).sent v.address in
          let r : IsLearnt v.uid (view_at v.address n) = learnt_is v.uid (view_at v.address n) (ready live) in
          ap (λ (a : Address). sent_in n.me (incarnation a v.uid) w.outcomes) (sym (view_address v.address n)) ∙ f.none v.uid (ap (is_that v.uid) r.nobody) r.free

module _ {u m : ℕ} where
  -- it is learnt, and those that waited are told
  pub learnt_kept : (now : ℕ) (v : UniqueAddress) (d : Work u m) → (d.deeds.ended ≡ None → IsReady v.uid (view_at v.address d.node)) → Good u d.node d.deeds
      → Kept u d.node d.deeds ((peer_becomes v.address (with_learnt now v.uid) ▸ tells_of (λ me. lines.Learnt me v) ▸ tells_waiting v.address v.uid) d).node ((peer_becomes v.address (with_learnt now v.uid) ▸ tells_of (λ me. lines.Learnt me v) ▸ tells_waiting v.address v.uid) d).deeds
  learnt_kept now v d ready g =
      let a : Address = v.address in
      let w : Network = d.deeds in
      let n : Node whole = record d.node { peers = change_first (is_peer v.address) (with_learnt now v.uid) d.node.peers } in
      let d1 : Work u m = tells_of (λ me. lines.Learnt me v) (peer_becomes v.address (with_learnt now v.uid) d) in
      let ms : List SysMsg = whole.unacknowledged (peer_at v.address d1.node).out in
      let start : Telling u d.node.me (incarnation v.address v.uid) [] w d1.deeds = begun m v d.node w ready g in
      let told : Telling u d.node.me (incarnation v.address v.uid) ms w (tells_all_sent v.address v.uid 1 ms d1).deeds = all_told v.address v.uid 1 ms [] w d1 (λ live. (g.node (start.later.going live)).me) refl start in
      let x : Network = (tells_all_sent v.address v.uid 1 ms d1).deeds in
      let k : Kept u d.node w n x = told_kept u v.address v.uid (with_learnt now v.uid) (learnt_linked now v.uid) d.node w x ms told
      (λ live t f. found x (ready (told.later.going live)) t f (find (is_peer v.address) d.node.peers) refl) g in
      subst (λ (y : Node whole). Kept u d.node w y x) (sym (all_told_node v.address v.uid 1 ms d1)) k
    where
      changed : Node whole
      changed = record d.node { peers = change_first (is_peer v.address) (with_learnt now v.uid) d.node.peers }

      found : (x : Network) → IsReady v.uid (view_at v.address d.node) → Told d.node.me (incarnation v.address v.uid) (whole.unacknowledged (peer_at v.address changed).out) d.deeds x → NodeFacts u d.node d.deeds → (o : Option (Peer whole)) → find (is_peer v.address) d.node.peers ≡ o
          → SentFacts d.node.me x.outcomes (view_at v.address (record d.node { peers = change_first (is_peer v.address) (with_learnt now v.uid) d.node.peers }))
      found x r t f None i =
          let is : IsLearnt v.uid (view_at v.address d.node) = learnt_is v.uid (view_at v.address d.node) r in
          let h : SentFacts d.node.me d.deeds.outcomes (view_at v.address d.node) = f.sent v.address in
          let same : view_at v.address changed ≡ view_at v.address d.node = view_change v.address v.address (with_learnt now v.uid) (learnt_linked now v.uid).address (λ z. z ≡ view_at v.address d.node) d.node.peers refl (λ q e s k. not_some (sym i ∙ e)) in
          let none : whole.unacknowledged (view_at v.address changed).out ≡ [] = ap (λ (z : View). unacknowledged z.out) same ∙ ap (λ (o : Option (Peer whole)). unacknowledged (view (or_else (new_peer v.address) o)).out) i in
          subst (SentFacts d.node.me x.outcomes) (sym same) (sent_later d.node.me d.deeds.outcomes x.outcomes (view_at v.address d.node) (λ uid. by_test (uid == v.uid)
          (λ s. (let same_uid : uid ≡ v.uid = eq_true uid v.uid s in
          let P : ℕ → Type 0 = λ (y : ℕ). sent_in d.node.me (incarnation (view_at v.address d.node).incarnations.address y) x.outcomes ≡ sent_in d.node.me (incarnation (view_at v.address d.node).incarnations.address y) d.deeds.outcomes in
          subst P (sym same_uid)
          (ap (λ (a : Address). sent_in d.node.me (incarnation a v.uid) x.outcomes) (view_address v.address d.node) ∙ t.mine ∙ ap (numbered 1) none ∙ sym (h.none v.uid (ap (is_that v.uid) is.nobody) is.free))))
          (λ s. t.other (incarnation (view_at v.address d.node).incarnations.address uid) (other_uid (view_at v.address d.node).incarnations.address v.address uid v.uid s))) h)
      found x r t f (Some q) i =
          let same : view_at v.address d.node ≡ view q = found_view v.address d.node q i in
          let is : IsLearnt v.uid (view q) = learnt_is v.uid (view q) (subst (IsReady v.uid) same r) in
          let h : SentFacts d.node.me d.deeds.outcomes (view q) = subst (SentFacts d.node.me d.deeds.outcomes) same (f.sent v.address) in
          let at : q.incarnations.address ≡ v.address = ap (λ (z : View). z.incarnations.address) (sym same) ∙ view_address v.address d.node in
          let changes : view_at v.address changed ≡ view (with_learnt now v.uid q) = found_now v.address (with_learnt now v.uid) (learnt_linked now v.uid) d.node q i in
          let waited : whole.unacknowledged (view_at v.address changed).out ≡ q.out.waiting = ap (λ (z : View). unacknowledged z.out) changes ∙ ap unacknowledged is.out in
          subst (SentFacts d.node.me x.outcomes) (sym changes) (learnt_sent d.node.me d.deeds.outcomes x.outcomes v.uid (view q) is
          (ap (λ (a : Address). sent_in d.node.me (incarnation a v.uid) x.outcomes) at ∙ t.mine ∙ ap (numbered 1) waited)
          (λ y s. t.other (incarnation q.incarnations.address y) (other_uid q.incarnations.address v.address y v.uid (eq_turned v.uid y s))) h)
