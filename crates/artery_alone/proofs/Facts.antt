-- What holds of a node at work and of the lines that it has told, and the small rules that keep it.
use Rattle.std.proofs.Common.{◌≡◌, ℕ, ◌+◌, Bool, true, false, cond, List, [], ◌∷◌, ◌++◌, refl, ap, sym, ◌∙◌, subst, true≢false}
use Rattle.std.specs.Prelude.{◌&&◌, ◌||◌, ◌==◌, nat_le, Option, None, Some, length, option_to_list}
use Rattle.std.specs.List.{find, list_any}
use Rattle.artery_base.specs.declared.address.Address.{Address}
use Rattle.artery_base.specs.declared.address.UniqueAddress.{UniqueAddress}
use Rattle.artery_assoc.specs.Limits.{most_incarnations}
use Rattle.artery_assoc.specs.Peer.{PeerState, is_that, peer_after_learn, peer_after_close, peer_learnt, peer_closed, learning, closing}
use Rattle.artery_assoc.specs.declared.peer.Learn.{Learn}
use Rattle.artery_assoc.specs.declared.peer.Learn.TheVariants.{Learnt, Same as IsSame, WasClosed, ClosedFull}
use Rattle.artery_assoc.specs.declared.peer.Close.{Close}
use Rattle.artery_assoc.specs.declared.peer.Close.TheVariants.{Closed, AlreadyClosed, NotCurrent}
use Rattle.artery_journal.specs.declared.line.Line.{Line}
use Rattle.artery_journal.specs.declared.line.Line.TheVariants as lines
use Rattle.artery_journal.specs.declared.words.Cause.{Cause}
use Rattle.artery_judge.specs.Lines.{Entry, same, of, is_way, says_closed, says_took, deals, says_watched, says_unwatched, is_started, is_stopped, is_said}
use Rattle.artery_judge.specs.Laws.{has_closed, has_watched, has_ended, is_watch, breaks_closed, watches_again, ends_nothing}
use Rattle.artery_watch.specs.Watcher.{Watches}
use Rattle.artery_machine.specs.Lists.{or_else, change_first}
use Rattle.artery_machine.specs.Parts.{Parts}
use Rattle.artery_machine.specs.Node.{Peer, new_peer, same_address, is_peer, incarnation}
use Rattle.artery_machine.specs.Doing.{Doing, Rule, ◌▸◌, stays, where_true, tells_of, peer_becomes, each}
use Rattle.artery_machine.specs.Closing.{with_closed}
use Rattle.artery_alone.specs.Alone.{watch_law}
use Rattle.artery_alone.proofs.Names.{unique_is, unique_self, number_self}
use Rattle.artery_alone.proofs.Journals.{noting, AllOf, Sound, sound_on, Quietly}
use Rattle.artery_alone.proofs.Taking.{Counting, Took, took_line, took_alike}
use Rattle.artery_alone.proofs.Quiet.{whos, speakers, Known, known_of, known_in, known_at, Same, Quiet}
use Rattle.artery_alone.proofs.Watches.{count, Stand}

-- ---- what holds

abbrev pub is_among : ℕ → List ℕ → Bool
is_among uid closed = list_any (λ c. c == uid) closed

-- An incarnation that is current is not closed.
abbrev pub IsAlive : Known → Type 0
IsAlive k = (uid : ℕ) → k.current ≡ Some uid → is_among uid k.closed ≡ false

pub record Good {P : Parts} {m : ℕ} (tally : Counting P) (me : UniqueAddress) (d : Doing P (noting m)) : Type 0 where
  pub mine : d.node.me ≡ me
  pub moment : d.node.moment ≡ m
  pub alive : (a : Address) → IsAlive (known_at a d.node)
  pub shut : (v : UniqueAddress) → is_among v.uid (known_at v.address d.node).closed ≡ false → has_closed me v d.deeds ≡ false
  pub stand : Stand me d.node.watching.watches.given (λ id. count id d.node.watching.watches.list) d.deeds
  pub sound : Sound d.deeds
  pub own : AllOf me d.deeds
  pub took : Took tally me d.node.taken (whos d.node.origins) (speakers d.node.inbound) d.deeds

-- An incarnation is not closed.
abbrev pub IsOpen : {P : Parts} {m : ℕ} → UniqueAddress → Doing P (noting m) → Type 0
IsOpen v d = is_among v.uid (known_at v.address d.node).closed ≡ false

-- ---- rules

pub record Keeps {P : Parts} {m : ℕ} (tally : Counting P) (me : UniqueAddress) (r : Rule P (noting m)) : Type 0 where
  pub on : (d : Doing P (noting m)) → Good tally me d → Good tally me (r d)

-- A rule about an incarnation that is not closed.
pub record KeepsTo {P : Parts} {m : ℕ} (tally : Counting P) (me v : UniqueAddress) (r : Rule P (noting m)) : Type 0 where
  pub on : (d : Doing P (noting m)) → IsOpen v d → Good tally me d → Good tally me (r d)

infixr 35 ◌▻◌
pub ◌▻◌ : {P : Parts} {m : ℕ} {tally : Counting P} {me : UniqueAddress} {r t : Rule P (noting m)} → Keeps tally me r → Keeps tally me t → Keeps tally me (r ▸ t)
◌▻◌ {P} {m} {tally} {me} {r} {t} a b = record { on = λ d g. b.on (r d) (a.on d g) }

stand_same : (me who : UniqueAddress) (m : ℕ) (w u : Watches) (ls ks : List Entry) → u ≡ w → Quietly who m ls ks → Stand me w.given (λ id. count id w.list) ls → Stand me u.given (λ id. count id u.list) ks
stand_same me who m w u ls ks e q s = subst (λ (x : Watches). Stand me x.given (λ id. count id x.list) ks) (sym e) (record {
  once = s.once;
  told = λ id h. q.watched me id ∙ s.told id h;
  goes_on = λ id h. q.ended me id ∙ s.goes_on id h;
  fresh = λ id h. q.watched me id ∙ s.fresh id h;
  unended = λ id h. q.ended me id ∙ s.unended id h;
})

module _ {P : Parts} {m : ℕ} where
  pub open_same : (v : UniqueAddress) (d e : Doing P (noting m)) → Same d e → IsOpen v d → IsOpen v e
  open_same v d e s h = ap (λ (k : Known). is_among v.uid k.closed) (s.known v.address) ∙ h

module _ {P : Parts} {m : ℕ} {tally : Counting P} {me : UniqueAddress} where
  took_same : (d e : Doing P (noting m)) → Same d e → Took tally me d.node.taken (whos d.node.origins) (speakers d.node.inbound) d.deeds → Took tally me e.node.taken (whos e.node.origins) (speakers e.node.inbound) e.deeds
  took_same d e s t =
      subst (λ (i : P.In). Took tally me i (whos e.node.origins) (speakers e.node.inbound) e.deeds) (sym s.taken)
      (subst (λ (ws : List UniqueAddress). Took tally me d.node.taken ws (speakers e.node.inbound) e.deeds) (sym s.origins)
      (subst (λ (os : List (Option UniqueAddress)). Took tally me d.node.taken (whos d.node.origins) os e.deeds) (sym s.speakers)
      (took_alike e.deeds (λ b. s.lines.took b me) t)))

  pub good_same : (d e : Doing P (noting m)) → Same d e → Good tally me d → Good tally me e
  good_same d e s g = record {
    mine = s.me ∙ g.mine;
    moment = s.moment ∙ g.moment;
    alive = λ a. subst IsAlive (sym (s.known a)) (g.alive a);
    shut = λ v h. s.lines.closed me v ∙ g.shut v (ap (λ (k : Known). is_among v.uid k.closed) (sym (s.known v.address)) ∙ h);
    stand = stand_same me d.node.me m d.node.watching.watches e.node.watching.watches d.deeds e.deeds s.watches s.lines g.stand;
    sound = s.lines.sound g.sound;
    own = subst (λ w. AllOf w e.deeds) g.mine (s.lines.own (subst (λ w. AllOf w d.deeds) (sym g.mine) g.own));
    took = took_same d e s g.took;
  }

  pub quietly : (r : Rule P (noting m)) → Quiet r → Keeps tally me r
  quietly r q = record { on = λ d g. good_same d (r d) (q.on d) g }

  pub to_one : (v : UniqueAddress) (r : Rule P (noting m)) → Keeps tally me r → KeepsTo tally me v r
  to_one v r k = record { on = λ d h g. k.on d g }

  -- A quiet rule, and then one about an incarnation that is not closed.
  pub quiet_then : (v : UniqueAddress) (r t : Rule P (noting m)) → Quiet r → KeepsTo tally me v t → KeepsTo tally me v (r ▸ t)
  quiet_then v r t q k = record { on = λ d h g. k.on (r d) (open_same v d (r d) (q.on d) h) (good_same d (r d) (q.on d) g) }

  -- A rule about one that is not closed, and then any.
  pub to_then : (v : UniqueAddress) (r t : Rule P (noting m)) → KeepsTo tally me v r → Keeps tally me t → KeepsTo tally me v (r ▸ t)
  to_then v r t k q = record { on = λ d h g. q.on (r d) (k.on d h g) }

  pub stays_keep : Keeps {P = P} {m = m} tally me stays
  stays_keep = record { on = λ d g. g }

  pub if_keeps : (b : Bool) (r t : Rule P (noting m)) → Keeps tally me r → Keeps tally me t → Keeps tally me (cond b r t)
  if_keeps true r t a c = a
  if_keeps false r t a c = c

  pub where_keeps : (b : Bool) (r : Rule P (noting m)) → Keeps tally me r → Keeps tally me (where_true b r)
  where_keeps true r a = a
  where_keeps false r a = stays_keep

  pub each_keeps : {X : Type 0} (xs : List X) (r : X → Rule P (noting m)) → ((x : X) → Keeps tally me (r x)) → Keeps tally me (each xs r)
  each_keeps [] r a = stays_keep
  each_keeps (x ∷ xs) r a = a x ▻ each_keeps xs r a

-- ---- a line to an incarnation

-- A line that deals with an incarnation, and says nothing else that a law reads.
pub record DealsWith (v : UniqueAddress) (line : UniqueAddress → Line) : Type 0 where
  pub deals : (me : UniqueAddress) → deals (line me) ≡ Some (me, v)
  pub closed : (me : UniqueAddress) → says_closed (line me) ≡ None
  pub took : (me : UniqueAddress) → says_took (line me) ≡ None
  pub own : (me : UniqueAddress) → of (line me) ≡ me
  pub watched : (me : UniqueAddress) → says_watched (line me) ≡ None
  pub unwatched : (me : UniqueAddress) → says_unwatched (line me) ≡ None
  pub started : (me : UniqueAddress) → is_started (line me) ≡ false
  pub stopped : (me : UniqueAddress) → is_stopped (line me) ≡ false

pub stand_still : (me : UniqueAddress) (m given : ℕ) (stands : ℕ → ℕ) (ls : List Entry) (line : Line) → says_watched line ≡ None → says_unwatched line ≡ None → Stand me given stands ls → Stand me given stands ((Some m, line) ∷ ls)
stand_still me m given stands ls line w u s = record {
  once = s.once;
  told = λ id h. ap (λ o. is_said (is_watch me id) o || has_watched me id ls) w ∙ s.told id h;
  goes_on = λ id h. ap (λ o. is_said (is_watch me id) o || has_ended me id ls) u ∙ s.goes_on id h;
  fresh = λ id h. ap (λ o. is_said (is_watch me id) o || has_watched me id ls) w ∙ s.fresh id h;
  unended = λ id h. ap (λ o. is_said (is_watch me id) o || has_ended me id ls) u ∙ s.unended id h;
}

still_lawful : (m : ℕ) (ls : List Entry) (line : Line) → says_watched line ≡ None → says_unwatched line ≡ None → watch_law ls (Some m, line) ≡ false
still_lawful m ls line w u = ap (λ o. watches_again ls o || ends_nothing ls (says_unwatched line)) w ∙ ap (ends_nothing ls) u

module _ {P : Parts} {m : ℕ} {tally : Counting P} {me : UniqueAddress} where
  pub tells_to : (v : UniqueAddress) (line : UniqueAddress → Line) → DealsWith v line → KeepsTo {P = P} {m = m} tally me v (tells_of line)
  tells_to v line t = record {
    on = λ d h g. record {
      mine = g.mine;
      moment = g.moment;
      alive = g.alive;
      shut = λ u k. ap (λ o. is_said (is_way me u) o || has_closed me u d.deeds) (t.closed d.node.me) ∙ g.shut u k;
      stand = stand_still me m d.node.watching.watches.given (λ id. count id d.node.watching.watches.list) d.deeds (line d.node.me) (t.watched d.node.me) (t.unwatched d.node.me) g.stand;
      sound = sound_on m d.deeds (line d.node.me) g.sound (t.started d.node.me) (t.stopped d.node.me)
          (ap (breaks_closed d.deeds) (t.deals d.node.me) ∙ ap (λ x. has_closed x v d.deeds) g.mine ∙ g.shut v h)
          (still_lawful m d.deeds (line d.node.me) (t.watched d.node.me) (t.unwatched d.node.me));
      own = (ap (same me) (t.own d.node.me ∙ g.mine) ∙ unique_self me, g.own);
      took = took_line m (line d.node.me) (t.took d.node.me) g.took;
    };
  }

-- ---- peers that know other incarnations

-- What is known at an address, by the peer that was found there.
abbrev seen : {P : Parts} → Address → Option (Peer P) → Known
seen b x = known_of (or_else (new_peer b) x).incarnations

module _ {P : Parts} where
  -- What holds of what is known at an address holds where a peer changes, if it holds of what it then knows.
  pub known_by : (a b : Address) (g : Peer P → Peer P) (f : PeerState → PeerState) → ((p : Peer P) → (g p).incarnations ≡ f p.incarnations) → ((i : PeerState) → (f i).address ≡ i.address) → (R : Known → Type 0) (ps : List (Peer P))
      → ((i : PeerState) → known_of i ≡ known_in b ps → R (known_of (f i))) → R (known_in b ps) → R (known_in b (change_first (is_peer a) g ps))
  known_by a b g f e s R [] new old = old
  known_by a b g f e s R (p ∷ ps) new old = by (is_peer a p) (is_peer b p) refl (known_by a b g f e s R ps)
    where
      changed : (c : Bool) → is_peer b p ≡ c → R (seen b (cond c (Some (g p)) (find (is_peer b) ps)))
      changed true t = subst (λ (i : PeerState). R (known_of i)) (sym (e p)) (new p.incarnations (sym (ap (λ c. seen b (cond c (Some p) (find (is_peer b) ps))) t)))
      changed false t = subst R (ap (λ c. seen b (cond c (Some p) (find (is_peer b) ps))) t) old

      later : (c : Bool) → is_peer b p ≡ c → (((i : PeerState) → known_of i ≡ known_in b ps → R (known_of (f i))) → R (known_in b ps) → R (known_in b (change_first (is_peer a) g ps)))
          → R (seen b (cond c (Some p) (find (is_peer b) (change_first (is_peer a) g ps))))
      later true t rest = subst R (ap (λ c. seen b (cond c (Some p) (find (is_peer b) ps))) t) old
      later false t rest =
          let here : known_in b (p ∷ ps) ≡ known_in b ps = ap (λ c. seen b (cond c (Some p) (find (is_peer b) ps))) t in
          rest (λ i k. new i (k ∙ sym here)) (subst R here old)

      by : (c x : Bool) → is_peer b p ≡ x → (((i : PeerState) → known_of i ≡ known_in b ps → R (known_of (f i))) → R (known_in b ps) → R (known_in b (change_first (is_peer a) g ps)))
          → R (known_in b (cond c (g p ∷ ps) (p ∷ change_first (is_peer a) g ps)))
      by true x t rest =
          let at : is_peer b (g p) ≡ is_peer b p = ap (λ (i : PeerState). same_address i.address b) (e p) ∙ ap (λ y. same_address y b) (s p.incarnations) in
          subst (λ c. R (seen b (cond c (Some (g p)) (find (is_peer b) ps)))) (sym at) (subst (λ c. R (seen b (cond c (Some (g p)) (find (is_peer b) ps)))) (sym t) (changed x t))
      by false x t rest = subst (λ c. R (seen b (cond c (Some p) (find (is_peer b) (change_first (is_peer a) g ps))))) (sym t) (later x t rest)

-- ---- closing

pub closed_address : (uid : ℕ) (i : PeerState) → (peer_closed uid i).address ≡ i.address
closed_address uid i = by (closing uid i)
  where
    by : (x : Close) → (peer_after_close x uid i).address ≡ i.address
    by Closed = refl
    by AlreadyClosed = refl
    by NotCurrent = refl

closed_alive : (uid : ℕ) (i : PeerState) → IsAlive (known_of i) → IsAlive (known_of (peer_closed uid i))
closed_alive uid i h = by (closing uid i)
  where
    by : (x : Close) → IsAlive (known_of (peer_after_close x uid i))
    by Closed = λ u e. absurd cc
    by AlreadyClosed = h
    by NotCurrent = h

among_more : (x : ℕ) (xs ys : List ℕ) → is_among x (xs ++ ys) ≡ false → is_among x xs ≡ false
among_more x [] ys h = refl
among_more x (y ∷ xs) ys h = by (y == x) h (among_more x xs ys)
  where
    by : (b : Bool) → (b || is_among x (xs ++ ys)) ≡ false → (is_among x (xs ++ ys) ≡ false → is_among x xs ≡ false) → (b || is_among x xs) ≡ false
    by true e rest = e
    by false e rest = rest e

among_last : (x : ℕ) (xs : List ℕ) → is_among x (xs ++ x ∷ []) ≡ true
among_last x [] = ap (λ b. b || false) (number_self x)
among_last x (y ∷ xs) = by (y == x) (among_last x xs)
  where
    by : (b : Bool) → is_among x (xs ++ x ∷ []) ≡ true → (b || is_among x (xs ++ x ∷ [])) ≡ true
    by true rest = refl
    by false rest = rest

closed_grows : (uid x : ℕ) (i : PeerState) → is_among x (known_of (peer_closed uid i)).closed ≡ false → is_among x (known_of i).closed ≡ false
closed_grows uid x i h = by (closing uid i) h
  where
    by : (c : Close) → is_among x (peer_after_close c uid i).closed ≡ false → is_among x i.closed ≡ false
    by Closed e = among_more x i.closed (uid ∷ []) e
    by AlreadyClosed e = e
    by NotCurrent e = e

closed_is : (uid : ℕ) (i : PeerState) → i.current ≡ Some uid → is_among uid i.closed ≡ false → is_among uid (peer_closed uid i).closed ≡ true
closed_is uid i c h =
    let e : closing uid i ≡ Closed = ap (λ b. cond b AlreadyClosed (cond (is_that uid i.current) Closed NotCurrent)) h ∙ ap (λ (o : Option ℕ). cond (is_that uid o) Closed NotCurrent) c ∙ ap (λ b. cond b Closed NotCurrent) (number_self uid) in
    ap (λ x. is_among uid (peer_after_close x uid i).closed) e ∙ among_last uid i.closed

among_both : (x : ℕ) (xs ys : List ℕ) → is_among x xs ≡ false → is_among x ys ≡ false → is_among x (xs ++ ys) ≡ false
among_both x [] ys h k = k
among_both x (y ∷ xs) ys h k = by (y == x) h (λ e. among_both x xs ys e k)
  where
    by : (b : Bool) → (b || is_among x xs) ≡ false → (is_among x xs ≡ false → is_among x (xs ++ ys) ≡ false) → (b || is_among x (xs ++ ys)) ≡ false
    by true e rest = e
    by false e rest = rest e

pub closed_change : (uid x : ℕ) (i : PeerState) → is_among x i.closed ≡ false → (uid == x) ≡ false → is_among x (peer_closed uid i).closed ≡ false
closed_change uid x i h n = by (closing uid i)
  where
    by : (c : Close) → is_among x (peer_after_close c uid i).closed ≡ false
    by Closed = among_both x i.closed (uid ∷ []) h (ap (λ b. b || false) n)
    by AlreadyClosed = h
    by NotCurrent = h

module _ {P : Parts} where
  -- The incarnation that is current at an address and is closed is among the closed ones there.
  pub closed_there : (a : Address) (uid : ℕ) (ps : List (Peer P)) → (known_in a ps).current ≡ Some uid → is_among uid (known_in a ps).closed ≡ false → is_among uid (known_in a (change_first (is_peer a) (with_closed uid) ps)).closed ≡ true
  closed_there a uid [] c h = absurd cc
  closed_there a uid (p ∷ ps) c h = by (is_peer a p) refl (closed_there a uid ps)
    where
      here : (b : Bool) → is_peer a p ≡ b → known_in a (p ∷ ps) ≡ seen a (cond b (Some p) (find (is_peer a) ps))
      here b t = ap (λ x. seen a (cond x (Some p) (find (is_peer a) ps))) t

      by : (b : Bool) → is_peer a p ≡ b → ((known_in a ps).current ≡ Some uid → is_among uid (known_in a ps).closed ≡ false → is_among uid (known_in a (change_first (is_peer a) (with_closed uid) ps)).closed ≡ true)
          → is_among uid (known_in a (cond b (with_closed uid p ∷ ps) (p ∷ change_first (is_peer a) (with_closed uid) ps))).closed ≡ true
      by true t rest =
          let at : is_peer a (with_closed uid p) ≡ true = ap (λ y. same_address y a) (closed_address uid p.incarnations) ∙ t in
          ap (λ x. is_among uid (seen a (cond x (Some (with_closed uid p)) (find (is_peer a) ps))).closed) at
          ∙ closed_is uid p.incarnations (sym (ap (λ (k : Known). k.current) (here true t)) ∙ c) (sym (ap (λ (k : Known). is_among uid k.closed) (here true t)) ∙ h)
      by false t rest =
          ap (λ x. is_among uid (seen a (cond x (Some p) (find (is_peer a) (change_first (is_peer a) (with_closed uid) ps)))).closed) t
          ∙ rest (sym (ap (λ (k : Known). k.current) (here false t)) ∙ c) (sym (ap (λ (k : Known). is_among uid k.closed) (here false t)) ∙ h)

module _ {P : Parts} {m : ℕ} {tally : Counting P} {me : UniqueAddress} where
  -- A line tells that the current incarnation is closed, and it is.
  pub shuts : (a : Address) (cause : Cause) (uid : ℕ) (d : Doing P (noting m)) → (known_at a d.node).current ≡ Some uid → Good tally me d → Good tally me ((tells_of (λ who. lines.Closed who (incarnation a uid) cause) ▸ peer_becomes a (with_closed uid)) d)
  shuts a cause uid d c g = record {
    mine = g.mine;
    moment = g.moment;
    alive = λ b. known_by a b (with_closed uid) (peer_closed uid) (λ p. refl) (closed_address uid) IsAlive d.node.peers (λ i e. closed_alive uid i (subst IsAlive (sym e) (g.alive b))) (g.alive b);
    shut = λ v h. shut_by v (same v (incarnation a uid)) refl h;
    stand = stand_still me m d.node.watching.watches.given (λ id. count id d.node.watching.watches.list) d.deeds (lines.Closed d.node.me (incarnation a uid) cause) refl refl g.stand;
    sound = sound_on m d.deeds (lines.Closed d.node.me (incarnation a uid) cause) g.sound refl refl (ap (λ x. has_closed x (incarnation a uid) d.deeds) g.mine ∙ g.shut (incarnation a uid) still) refl;
    own = (ap (same me) g.mine ∙ unique_self me, g.own);
    took = took_line m (lines.Closed d.node.me (incarnation a uid) cause) refl g.took;
  }
    where
      still : is_among uid (known_at a d.node).closed ≡ false
      still = g.alive a uid c

      after : List (Peer P)
      after = change_first (is_peer a) (with_closed uid) d.node.peers

      before : (v : UniqueAddress) → is_among v.uid (known_in v.address after).closed ≡ false → is_among v.uid (known_at v.address d.node).closed ≡ false
      before v = known_by a v.address (with_closed uid) (peer_closed uid) (λ p. refl) (closed_address uid)
          (λ (k : Known). is_among v.uid k.closed ≡ false → is_among v.uid (known_at v.address d.node).closed ≡ false) d.node.peers
          (λ i e h. ap (λ (k : Known). is_among v.uid k.closed) (sym e) ∙ closed_grows uid v.uid i h) (λ h. h)

      shut_by : (v : UniqueAddress) (b : Bool) → same v (incarnation a uid) ≡ b → is_among v.uid (known_in v.address after).closed ≡ false → has_closed me v ((Some m, lines.Closed d.node.me (incarnation a uid) cause) ∷ d.deeds) ≡ false
      shut_by v true t h =
          absurd (true≢false (sym (closed_there a uid d.node.peers c still) ∙ ap (λ (u : UniqueAddress). is_among u.uid (known_in u.address after).closed) (sym (unique_is v (incarnation a uid) t)) ∙ h))
      shut_by v false t h =
          ap (λ x. (same me x && same v (incarnation a uid)) || has_closed me v d.deeds) g.mine
          ∙ ap (λ b. (same me me && b) || has_closed me v d.deeds) t
          ∙ ap (λ b. (b && false) || has_closed me v d.deeds) (unique_self me)
          ∙ g.shut v (before v h)

-- ---- learning

learnt_address : (uid : ℕ) (i : PeerState) → (peer_learnt uid i).address ≡ i.address
learnt_address uid i = by (learning uid i)
  where
    by : (x : Learn) → (peer_after_learn x uid i).address ≡ i.address
    by (Learnt former) = refl
    by IsSame = refl
    by WasClosed = refl
    by ClosedFull = refl

-- One that is learnt was neither closed nor current.
pub record IsNew (uid : ℕ) (k : Known) (former : Option ℕ) : Type 0 where
  pub closed : is_among uid k.closed ≡ false
  pub current : is_that uid k.current ≡ false
  pub was : former ≡ k.current

some_former : (x y : Option ℕ) → Learnt x ≡ Learnt y → x ≡ y
some_former x y e = ap (λ (l : Learn). elim l [ Learnt z ↦ z | IsSame ↦ x | WasClosed ↦ x | ClosedFull ↦ x ]) e

pub learnt_new : (uid : ℕ) (i : PeerState) (former : Option ℕ) → learning uid i ≡ Learnt former → IsNew uid (known_of i) former
learnt_new uid i former e = by (is_among uid i.closed) (is_that uid i.current) (nat_le most_incarnations (length i.closed + length (option_to_list i.current))) refl refl e
  where
    by : (b c f : Bool) → is_among uid i.closed ≡ b → is_that uid i.current ≡ c → cond b WasClosed (cond c IsSame (cond f ClosedFull (Learnt i.current))) ≡ Learnt former → IsNew uid (known_of i) former
    by true c f s t h = absurd cc
    by false true f s t h = absurd cc
    by false false true s t h = absurd cc
    by false false false s t h = record { closed = s; current = t; was = sym (some_former i.current former h) }

among_one : (uid : ℕ) (xs : List ℕ) (o : Option ℕ) → is_among uid xs ≡ false → is_that uid o ≡ false → is_among uid (xs ++ option_to_list o) ≡ false
among_one uid [] None h k = refl
among_one uid [] (Some x) h k = ap (λ b. b || false) k
among_one uid (x ∷ xs) o h k = by (x == uid) h (λ e. among_one uid xs o e k)
  where
    by : (b : Bool) → (b || is_among uid xs) ≡ false → (is_among uid xs ≡ false → is_among uid (xs ++ option_to_list o) ≡ false) → (b || is_among uid (xs ++ option_to_list o)) ≡ false
    by true e rest = e
    by false e rest = rest e

some_number : (x y : ℕ) → Some x ≡ Some y → x ≡ y
some_number x y e = ap (λ (o : Option ℕ). elim o [ None ↦ x | Some z ↦ z ]) e

learnt_open : (uid : ℕ) (i : PeerState) → is_among uid i.closed ≡ false → is_among uid (peer_learnt uid i).closed ≡ false
learnt_open uid i h = by (learning uid i) refl
  where
    by : (x : Learn) → learning uid i ≡ x → is_among uid (peer_after_learn x uid i).closed ≡ false
    by (Learnt former) e =
        let n : IsNew uid (known_of i) former = learnt_new uid i former e in
        ap (λ o. is_among uid (i.closed ++ option_to_list o)) n.was ∙ among_one uid i.closed i.current n.closed n.current
    by IsSame e = h
    by WasClosed e = h
    by ClosedFull e = h

learnt_alive : (uid : ℕ) (i : PeerState) → IsAlive (known_of i) → IsAlive (known_of (peer_learnt uid i))
learnt_alive uid i h = by (learning uid i) refl
  where
    by : (x : Learn) → learning uid i ≡ x → IsAlive (known_of (peer_after_learn x uid i))
    by (Learnt former) e = λ u c.
        let n : IsNew uid (known_of i) former = learnt_new uid i former e in
        ap (λ y. is_among y (i.closed ++ option_to_list former)) (sym (some_number uid u c))
        ∙ ap (λ o. is_among uid (i.closed ++ option_to_list o)) n.was ∙ among_one uid i.closed i.current n.closed n.current
    by IsSame e = h
    by WasClosed e = h
    by ClosedFull e = h

learnt_grows : (uid x : ℕ) (i : PeerState) → is_among x (peer_learnt uid i).closed ≡ false → is_among x i.closed ≡ false
learnt_grows uid x i h = by (learning uid i) h
  where
    by : (c : Learn) → is_among x (peer_after_learn c uid i).closed ≡ false → is_among x i.closed ≡ false
    by (Learnt former) e = among_more x i.closed (option_to_list former) e
    by IsSame e = e
    by WasClosed e = e
    by ClosedFull e = e

module _ {P : Parts} {m : ℕ} {tally : Counting P} {me : UniqueAddress} where
  -- A UID is learnt at an address.
  pub learns_keeps : (a : Address) (uid : ℕ) (g : Peer P → Peer P) → ((p : Peer P) → (g p).incarnations ≡ peer_learnt uid p.incarnations) → Keeps {P = P} {m = m} tally me (peer_becomes a g)
  learns_keeps a uid f is = record {
    on = λ d g. record {
      mine = g.mine;
      moment = g.moment;
      alive = λ b. known_by a b f (peer_learnt uid) is (learnt_address uid) IsAlive d.node.peers (λ i e. learnt_alive uid i (subst IsAlive (sym e) (g.alive b))) (g.alive b);
      shut = λ v h. g.shut v (known_by a v.address f (peer_learnt uid) is (learnt_address uid)
          (λ (k : Known). is_among v.uid k.closed ≡ false → is_among v.uid (known_at v.address d.node).closed ≡ false) d.node.peers
          (λ i e h. ap (λ (k : Known). is_among v.uid k.closed) (sym e) ∙ learnt_grows uid v.uid i h) (λ h. h) h);
      stand = g.stand;
      sound = g.sound;
      own = g.own;
      took = g.took;
    };
  }

module _ {P : Parts} {m : ℕ} where
  -- It is not closed, where it was not.
  pub learns_open : (v : UniqueAddress) (f : Peer P → Peer P) → ((p : Peer P) → (f p).incarnations ≡ peer_learnt v.uid p.incarnations) → (d : Doing P (noting m)) → IsOpen v d → IsOpen v (peer_becomes v.address f d)
  learns_open v f is d h = known_by v.address v.address f (peer_learnt v.uid) is (learnt_address v.uid) (λ (k : Known). is_among v.uid k.closed ≡ false) d.node.peers
      (λ i e. learnt_open v.uid i (ap (λ (k : Known). is_among v.uid k.closed) e ∙ h)) h
