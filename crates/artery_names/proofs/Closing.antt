-- An incarnation is closed: its tables are gone; and a UID is learnt.
use Rattle.std.proofs.Common.{◌≡◌, ℕ, Bool, true, false, cond, List, [], ◌∷◌, ◌++◌, refl, sym, ◌∙◌, ap, subst}
use Rattle.std.specs.Prelude.{Option, None, Some, ◌==◌, ◌||◌}
use Rattle.std.specs.List.{find}
use Rattle.artery_base.specs.declared.address.Address.{Address}
use Rattle.artery_base.specs.declared.address.UniqueAddress.{UniqueAddress}
use Rattle.artery_assoc.specs.Peer.{PeerState, is_closed, is_that, closing, peer_after_close, peer_closed}
use Rattle.artery_assoc.specs.declared.peer.Close.{Close}
use Rattle.artery_assoc.specs.declared.peer.Close.TheVariants.{Closed, AlreadyClosed, NotCurrent}
use Rattle.artery_journal.specs.declared.line.Line.{Line}
use Rattle.artery_journal.specs.declared.line.Line.TheVariants as lines
use Rattle.artery_journal.specs.declared.words.Cause.{Cause}
use Rattle.artery_watch.specs.Watcher.{Kept as Watching, ids_at, kept_closed, kept_forgotten}
use Rattle.artery_machine.specs.Lists.{or_else, change_first}
use Rattle.artery_machine.specs.Parts.{whole}
use Rattle.artery_machine.specs.Node.{Node, Peer, same_address, is_peer, new_peer, peer_at, current_of, incarnation, of_each}
use Rattle.artery_machine.specs.Doing.{Rule, ◌▸◌, stays, becomes, tells_of, peer_becomes, each}
use Rattle.artery_machine.specs.Closing.{is_told, without_detector, with_closed, with_new_tables, quarantines, drops_ordinary, forgets_watches_of, terminates_at, closes, closes_current}
use Rattle.artery_names.proofs.Lists.{not_both, not_some, eq_self}
use Rattle.artery_names.proofs.Facts.{Network, Conn, journal, AreHeld, PeerFacts, NodeFacts, Good}
use Rattle.artery_names.proofs.Plain.{Same}
use Rattle.artery_names.proofs.Outside.{outward}
use Rattle.artery_names.proofs.Rules.{Work, Plain, ◌▹◌, kept_plain, stays_plain, tells_plain, if_plain, each_plain}
use Rattle.artery_names.proofs.Keeping.{nowhere, Kept, kept_self, plain_later, Keeps}
use Rattle.artery_names.proofs.Keeping as keeping
use Rattle.artery_names.proofs.Peers.{address_self, on_changed}
use Rattle.artery_names.proofs.Silence.{silent}
use Rattle.artery_names.proofs.Making.{other_plain, quarantines_plain, drops_ordinary_plain}

-- ---- UIDs

closed_state : (uid : ℕ) (i : PeerState) → i.current ≡ Some uid → is_closed uid i ≡ false → peer_closed uid i ≡ record i { current = None; closed = i.closed ++ uid ∷ [] }
closed_state uid i c h =
    let e : closing uid i ≡ Closed = ap (λ b. cond b AlreadyClosed (cond (is_that uid i.current) Closed NotCurrent)) h ∙ ap (λ (o : Option ℕ). cond (is_that uid o) Closed NotCurrent) c ∙ ap (λ b. cond b Closed NotCurrent) (eq_self uid) in
    ap (λ x. peer_after_close x uid i) e

close_address : (uid : ℕ) (i : PeerState) → (peer_closed uid i).address ≡ i.address
close_address uid i = by (closing uid i)
  where
    by : (x : Close) → (peer_after_close x uid i).address ≡ i.address
    by Closed = refl
    by AlreadyClosed = refl
    by NotCurrent = refl

-- a UID that is not among the closed ones and one more is not among them, and not that one
pub record NotAmong (uid x : ℕ) (i : PeerState) : Type 0 where
  pub before : is_closed x i ≡ false
  pub other : (uid == x) ≡ false

not_among : (uid x : ℕ) (i : PeerState) → is_closed x (record i { current = None; closed = i.closed ++ uid ∷ [] }) ≡ false → NotAmong uid x i
not_among uid x i h = by i.closed h
  where
    or_no : (b c : Bool) → (b || c) ≡ false → b ≡ false
    or_no true c k = k
    or_no false c k = refl

    or_too : (b c : Bool) → (b || c) ≡ false → c ≡ false
    or_too true c k = not_both refl k
    or_too false c k = k

    by : (xs : List ℕ) → is_closed x (record i { closed = xs ++ uid ∷ [] }) ≡ false → NotAmong uid x (record i { closed = xs })
    by [] k = record { before = refl; other = or_no (uid == x) false k }
    by (y ∷ xs) k = (let r : NotAmong uid x (record i { closed = xs }) = by xs (or_too (y == x) _ k) in
        record { before = ap (λ b. b || is_closed x (record i { closed = xs })) (or_no (y == x) _ k) ∙ r.before; other = r.other })

-- ---- closing

-- The addresses that are the same as this one.
abbrev pub at : Address → Address → Bool
at a b = same_address a b

module _ (nobody : UniqueAddress) (u : ℕ) (given : ℕ → ℕ) where
  -- the facts of peers and tables change, and nothing else
  pub peers_change : (away after : Address → Bool) (n : Node whole) (a : Address) (g : Peer whole → Peer whole) (w : Network) → Good nobody u given away n w
      → (NodeFacts nobody u given away n w.connections (journal w) → (b : Address) →
      PeerFacts nobody n.me w.connections (journal w) b (or_else (new_peer b) (find (is_peer b) (change_first (is_peer a) g n.peers)))
      × (after b ≡ false → AreHeld w.connections n.me b (journal w) (or_else (new_peer b) (find (is_peer b) (change_first (is_peer a) g n.peers))).tables (or_else (new_peer b) (find (is_peer b) (change_first (is_peer a) g n.peers))).incarnations.current)
      × (after b ≡ true → (or_else (new_peer b) (find (is_peer b) (change_first (is_peer a) g n.peers))).incarnations.current ≡ None))
      → Good nobody u given after (record n { peers = change_first (is_peer a) g n.peers }) w
  peers_change away after n a g w h f = record {
    lawful = h.lawful;
    out = h.out;
    node = λ e. (let k = h.node e in let x = f k in record {
      uid = k.uid;
      me = k.me;
      ordered = k.ordered;
      peers = λ b. (x b).0;
      tables = λ b. (x b).1;
      gone = λ b. (x b).2;
      origins = k.origins;
      framed = k.framed;
      inbound = k.inbound;
      opened = k.opened;
    });
  }

  nobody_there : (me : UniqueAddress) (cs : List Conn) (ls : List Line) (a : Address) (n : Node whole) → find (is_peer a) n.peers ≡ None → (uid : ℕ) → current_of (peer_at a n) ≡ Some uid → ⊥
  nobody_there me cs ls a n e uid c = not_some (sym (ap (λ x. current_of (or_else (new_peer {P = whole} a) x)) e) ∙ c)

  shut_good : (a : Address) (uid : ℕ) (n : Node whole) (w : Network) → current_of (peer_at a n) ≡ Some uid → Good nobody u given nowhere n w
      → Good nobody u given (at a) (record n { peers = change_first (is_peer a) (with_closed uid) n.peers }) w
  shut_good a uid n w c h = peers_change nowhere (at a) n a (with_closed uid) w h (λ k b. (
    on_changed a b (with_closed uid) (λ p. close_address uid p.incarnations) (PeerFacts nobody n.me w.connections (journal w) b) n.peers
        (λ e p f. shut_peer k b e p f) (λ e f. absurd (nobody_there n.me w.connections (journal w) a n f uid c)) (λ t. k.peers b),
    λ t. on_changed a b (with_closed uid) (λ p. close_address uid p.incarnations) (λ q. AreHeld w.connections n.me b (journal w) q.tables q.incarnations.current) n.peers
        (λ e p f. not_both (subst (λ (x : Address). same_address a x ≡ true) (sym e) (address_self a)) t) (λ e f. absurd (nobody_there n.me w.connections (journal w) a n f uid c)) (λ s. k.tables b refl),
    λ t. on_changed a b (with_closed uid) (λ p. close_address uid p.incarnations) (λ q. q.incarnations.current ≡ None) n.peers
        (λ e p f. ap (λ (i : PeerState). i.current) (shut_state k b e p f)) (λ e f. refl) (λ s. not_both t s),
  ))
    where
      peer_is : (p : Peer whole) → find (is_peer a) n.peers ≡ Some p → peer_at a n ≡ p
      peer_is p f = ap (or_else (new_peer a)) f

      shut_state : NodeFacts nobody u given nowhere n w.connections (journal w) → (b : Address) → b ≡ a → (p : Peer whole) → find (is_peer a) n.peers ≡ Some p
          → peer_closed uid p.incarnations ≡ record p.incarnations { current = None; closed = p.incarnations.closed ++ uid ∷ [] }
      shut_state k b e p f =
          let now : p.incarnations.current ≡ Some uid = sym (ap (λ (q : Peer whole). q.incarnations.current) (peer_is p f)) ∙ c in
          closed_state uid p.incarnations now (sym (ap (λ (q : Peer whole). is_closed uid q.incarnations) (peer_is p f)) ∙ (k.peers a).alive uid c)

      shut_peer : NodeFacts nobody u given nowhere n w.connections (journal w) → (b : Address) → b ≡ a → (p : Peer whole) → find (is_peer a) n.peers ≡ Some p → PeerFacts nobody n.me w.connections (journal w) b (with_closed uid p)
      shut_peer k b e p f =
          let was : PeerFacts nobody n.me w.connections (journal w) b p = subst (λ (x : Address). PeerFacts nobody n.me w.connections (journal w) x p) (sym e) (subst (PeerFacts nobody n.me w.connections (journal w) a) (peer_is p f) (k.peers a)) in
          let now : p.incarnations.current ≡ Some uid = sym (ap (λ (q : Peer whole). q.incarnations.current) (peer_is p f)) ∙ c in
          let is : peer_closed uid p.incarnations ≡ record p.incarnations { current = None; closed = p.incarnations.closed ++ uid ∷ [] } = shut_state k b e p f in
          record {
            alive = λ x y. not_some (sym (ap (λ (i : PeerState). i.current) is) ∙ y);
            unspoken = λ x t y.
                (let z : NotAmong uid x p.incarnations = not_among uid x p.incarnations (sym (ap (λ (i : PeerState). is_closed x i) is) ∙ y) in
                was.unspoken x (ap (is_that x) now ∙ z.other) z.before);
            control = was.control;
            ordinary = was.ordinary;
          }

  new_tables_good : (a : Address) (n : Node whole) (w : Network) → Good nobody u given (at a) n w → Good nobody u given nowhere (record n { peers = change_first (is_peer a) with_new_tables n.peers }) w
  new_tables_good a n w h = peers_change (at a) nowhere n a with_new_tables w h (λ k b. (
    on_changed a b with_new_tables (λ p. refl) (PeerFacts nobody n.me w.connections (journal w) b) n.peers
        (λ e p f. (let was : PeerFacts nobody n.me w.connections (journal w) b p = subst (λ (x : Address). PeerFacts nobody n.me w.connections (journal w) x p) (sym e) (subst (PeerFacts nobody n.me w.connections (journal w) a) (ap (or_else (new_peer a)) f) (k.peers a)) in
        record { alive = was.alive; unspoken = was.unspoken; control = was.control; ordinary = was.ordinary }))
        (λ e f. subst (PeerFacts nobody n.me w.connections (journal w) b) (subst (λ (x : Address). peer_at x n ≡ new_peer x) (sym e) (ap (or_else (new_peer a)) f)) (k.peers b)) (λ t. k.peers b),
    λ t. on_changed a b with_new_tables (λ p. refl) (λ q. AreHeld w.connections n.me b (journal w) q.tables q.incarnations.current) n.peers
        (λ e p f. (let none : p.incarnations.current ≡ None = sym (ap (λ (x : Option (Peer whole)). (or_else (new_peer a) x).incarnations.current) f) ∙ k.gone a (address_self a) in
        subst (AreHeld w.connections n.me b (journal w) (of_each whole.nothing_adopted)) (sym none) refl))
        (λ e f. refl) (λ s. k.tables b s),
    λ t. not_both t refl,
  ))

-- ---- the whole

module _ {u m : ℕ} where
  pub watching_plain : (f : Watching → Watching) → Plain u m (becomes (λ n. record n { watching = f n.watching }))
  watching_plain f = kept_plain _ (λ n. record { me = refl; peers = refl; inbound = refl; origins = refl })

  pub without_detector_plain : (a : Address) → Plain u m (peer_becomes a without_detector)
  without_detector_plain a = other_plain a without_detector (λ p. record { known = refl; tables = refl; control = Same refl; ordinary = Same refl })

  terminated_plain : (ids : List ℕ) → Plain u m (each ids (λ id. tells_of (λ me. lines.Terminated me id)))
  terminated_plain ids = each_plain ids (λ id. tells_of (λ me. lines.Terminated me id)) (λ id. tells_plain (λ me. lines.Terminated me id) (λ me. silent (lines.Terminated me id) refl))

  terminates_at_plain : (a : Address) → Plain u m (terminates_at a)
  terminates_at_plain a = record { on = λ d. (terminated_plain (ids_at a d.node.watching.watches.list) ▹ watching_plain (kept_closed a)).on d }

  -- what is done between the closing and the new tables
  abbrev between : Address → Cause → ℕ → Rule whole (outward u m)
  between a cause uid = cond (is_told cause) (quarantines (incarnation a uid)) stays ▸ drops_ordinary a ▸ forgets_watches_of (incarnation a uid) ▸ terminates_at a ▸ peer_becomes a without_detector

  between_plain : (a : Address) (cause : Cause) (uid : ℕ) → Plain u m (between a cause uid)
  between_plain a cause uid =
      if_plain (is_told cause) (quarantines (incarnation a uid)) stays (quarantines_plain (incarnation a uid)) stays_plain
      ▹ drops_ordinary_plain a ▹ watching_plain (kept_forgotten (incarnation a uid)) ▹ terminates_at_plain a ▹ without_detector_plain a

  closed_plain : (a : Address) (cause : Cause) (uid : ℕ) → Plain u m (tells_of (λ me. lines.Closed me (incarnation a uid) cause))
  closed_plain a cause uid = tells_plain (λ me. lines.Closed me (incarnation a uid) cause) (λ me. silent (lines.Closed me (incarnation a uid) cause) refl)

  -- and then no incarnation is current
  pub closes_away : (a : Address) (cause : Cause) (uid : ℕ) (d : Work u m) → current_of (peer_at a d.node) ≡ Some uid → is_closed uid (peer_at a d.node).incarnations ≡ false
      → (peer_at a (closes a cause uid d).node).incarnations ≡ record (peer_at a d.node).incarnations { current = None; closed = (peer_at a d.node).incarnations.closed ++ uid ∷ [] }
  closes_away a cause uid d c alive =
      let e : Work u m = tells_of (λ me. lines.Closed me (incarnation a uid) cause) d in
      let f : Work u m = peer_becomes a (with_closed uid) e in
      let h : Work u m = between a cause uid f in
      on_changed a a with_new_tables (λ p. refl) (λ (q : Peer whole). q.incarnations ≡ record (peer_at a d.node).incarnations { current = None; closed = (peer_at a d.node).incarnations.closed ++ uid ∷ [] }) h.node.peers
      (λ s p t. sym (ap (λ (x : Option (Peer whole)). (or_else (new_peer a) x).incarnations) t) ∙ ((between_plain a cause uid).on f).node.known a ∙ shut)
      (λ s t. sym (ap (λ (x : Option (Peer whole)). (or_else (new_peer a) x).incarnations) t) ∙ ((between_plain a cause uid).on f).node.known a ∙ shut)
      (λ t. not_both (address_self a) t)
    where
      shut : (or_else (new_peer {P = whole} a) (find (is_peer a) (change_first (is_peer a) (with_closed uid) d.node.peers))).incarnations ≡ record (peer_at a d.node).incarnations { current = None; closed = (peer_at a d.node).incarnations.closed ++ uid ∷ [] }
      shut = on_changed a a (with_closed uid) (λ p. close_address uid p.incarnations) (λ (q : Peer whole). q.incarnations ≡ record (peer_at a d.node).incarnations { current = None; closed = (peer_at a d.node).incarnations.closed ++ uid ∷ [] }) d.node.peers
          (λ s p t. (let is : peer_at a d.node ≡ p = ap (or_else (new_peer a)) t in
          subst (λ (q : Peer whole). peer_closed uid p.incarnations ≡ record q.incarnations { current = None; closed = q.incarnations.closed ++ uid ∷ [] }) (sym is)
          (closed_state uid p.incarnations (sym (ap (λ (q : Peer whole). q.incarnations.current) is) ∙ c) (sym (ap (λ (q : Peer whole). is_closed uid q.incarnations) is) ∙ alive))))
          (λ s t. absurd (not_some (sym (ap (λ x. current_of (or_else (new_peer {P = whole} a) x)) t) ∙ c)))
          (λ t. not_both (address_self a) t)

module _ {nobody : UniqueAddress} {u m : ℕ} {given : ℕ → ℕ} where
  pub closes_kept : (a : Address) (cause : Cause) (uid : ℕ) (d : Work u m) → current_of (peer_at a d.node) ≡ Some uid → Good nobody u given nowhere d.node d.deeds
      → Kept nobody u given nowhere d.deeds (closes a cause uid d).node (closes a cause uid d).deeds
  closes_kept a cause uid d c g =
      let e : Work u m = tells_of (λ me. lines.Closed me (incarnation a uid) cause) d in
      let k = keeping.kept_plain d.deeds d.node d.deeds (tells_of (λ me. lines.Closed me (incarnation a uid) cause)) (closed_plain a cause uid) (kept_self nobody u given nowhere d.node d.deeds g) in
      let f : Work u m = peer_becomes a (with_closed uid) e in
      let s = shut_good nobody u given a uid e.node e.deeds c k.good in
      let j = keeping.kept_plain d.deeds f.node f.deeds (between a cause uid) (between_plain a cause uid) (record { good = s; later = k.later }) in
      let h : Work u m = between a cause uid f in
      record { good = new_tables_good nobody u given a h.node h.deeds j.good; later = j.later }

  pub closes_current_kept : (a : Address) (cause : Cause) (r : Rule whole (outward u m)) → Keeps nobody u m given r → (d : Work u m) → Good nobody u given nowhere d.node d.deeds
      → Kept nobody u given nowhere d.deeds (closes_current a cause (current_of (peer_at a d.node)) r d).node (closes_current a cause (current_of (peer_at a d.node)) r d).deeds
  closes_current_kept a cause r k d g = by (current_of (peer_at a d.node)) refl
    where
      by : (x : Option ℕ) → current_of (peer_at a d.node) ≡ x → Kept nobody u given nowhere d.deeds (closes_current a cause x r d).node (closes_current a cause x r d).deeds
      by None e = k.on d g
      by (Some uid) e = closes_kept a cause uid d e g
