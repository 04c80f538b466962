-- What a node knows of the incarnations at an address, and the messages that it told it sent there.
use Rattle.std.proofs.Common.{◌≡◌, ℕ, ◌+◌, Bool, true, false, cond, List, [], ◌∷◌, ◌++◌, length, refl, sym, ◌∙◌, ap, subst, arith, append-nil, length-append}
use Rattle.std.specs.Prelude.{Option, None, Some, ◌==◌, ◌||◌, nat_lt, nat_le, is_some, slice_get, option_to_list}
use Rattle.std.specs.Option.{option_map}
use Rattle.std.specs.List.{find, list_any}
use Rattle.artery_base.specs.declared.address.Address.{Address}
use Rattle.artery_base.specs.declared.address.UniqueAddress.{UniqueAddress}
use Rattle.artery_base.specs.declared.message.SysMsg.{SysMsg}
use Rattle.artery_assoc.specs.Limits.{most_incarnations}
use Rattle.artery_assoc.specs.Peer.{PeerState, is_closed, is_that, is_current, is_full, learning, peer_after_learn, peer_learnt, peer_after_close, peer_closed}
use Rattle.artery_assoc.specs.declared.peer.Learn.{Learn}
use Rattle.artery_assoc.specs.declared.peer.Learn.TheVariants.{Learnt, Same as IsSame, WasClosed, ClosedFull}
use Rattle.artery_assoc.specs.declared.peer.Close.{Close}
use Rattle.artery_assoc.specs.declared.peer.Close.TheVariants.{Closed, AlreadyClosed, NotCurrent}
use Rattle.artery_delivery.specs.Limits.{window}
use Rattle.artery_delivery.specs.declared.outbound.Accept.TheVariants.{Accepted, Waiting, Overflow}
use Rattle.artery_delivery.specs.Outbound.{State, nothing_sent, has_no_room, answer_to, accepted, learnt, acknowledged, refused, rewound, pumped, next_sent}
use Rattle.artery_machine.specs.Lists.{or_else, change_first}
use Rattle.artery_machine.specs.declared.world.Outcome.{Outcome}
use Rattle.artery_machine.specs.Parts.{whole}
use Rattle.artery_machine.specs.Node.{Node, Peer, is_peer, new_peer, peer_at, same_address, incarnation}
use Rattle.artery_flight.proofs.Lists.{on_cond, not_both, eq_self, some_same, not_some}
use Rattle.artery_flight.proofs.Lines.{sent_in, numbered, numbered_get, IsAmong}

pub record View : Type 0 where
  pub incarnations : PeerState
  pub out : State

abbrev pub view : Peer whole → View
view p = record { incarnations = p.incarnations; out = p.out }

-- What is known at an address; a new peer's where there is none.
abbrev pub view_at : Address → Node whole → View
view_at a n = view (peer_at a n)

-- The messages that were told as sent to the current incarnation are those of the list; nothing was to one that is neither current nor closed; and no UID is learnt where none is current.
pub record SentFacts (me : UniqueAddress) (os : List Outcome) (x : View) : Type 0 where
  pub alive : (uid : ℕ) → x.incarnations.current ≡ Some uid → is_closed uid x.incarnations ≡ false
  pub quiet : x.incarnations.current ≡ None → x.out.learnt ≡ false
  pub sent : (uid : ℕ) → x.incarnations.current ≡ Some uid → sent_in me (incarnation x.incarnations.address uid) os ≡ numbered 1 x.out.sent
  pub none : (uid : ℕ) → is_current uid x.incarnations ≡ false → is_closed uid x.incarnations ≡ false → sent_in me (incarnation x.incarnations.address uid) os ≡ []

-- where nothing more was told as sent there
pub sent_later : (me : UniqueAddress) (os us : List Outcome) (x : View) → ((uid : ℕ) → sent_in me (incarnation x.incarnations.address uid) us ≡ sent_in me (incarnation x.incarnations.address uid) os) → SentFacts me os x → SentFacts me us x
sent_later me os us x e h = record {
  alive = h.alive;
  quiet = h.quiet;
  sent = λ uid c. e uid ∙ h.sent uid c;
  none = λ uid c s. e uid ∙ h.none uid c s;
}

-- other messages that are kept, of the same that were sent
pub sent_out : (me : UniqueAddress) (os : List Outcome) (x : View) (o : State) → o.sent ≡ x.out.sent → o.learnt ≡ x.out.learnt → SentFacts me os x → SentFacts me os (record x { out = o })
sent_out me os x o e l h = record {
  alive = h.alive;
  quiet = λ c. l ∙ h.quiet c;
  sent = λ uid c. h.sent uid c ∙ ap (numbered 1) (sym e);
  none = h.none;
}

-- A change of the messages that leaves those that were sent.
pub record IsSameSent (g : State → State) : Type 0 where
  pub sent : (s : State) → (g s).sent ≡ s.sent
  pub learnt : (s : State) → (g s).learnt ≡ s.learnt

or_left : (a b : Bool) → (a || b) ≡ false → a ≡ false
or_left true b h = h
or_left false b h = refl

or_right : (a b : Bool) → (a || b) ≡ false → b ≡ false
or_right true b h = not_both refl h
or_right false b h = h

pub acknowledged_same : (n : ℕ) → IsSameSent (acknowledged n)
acknowledged_same n = record {
  sent = λ s. on_cond (λ (t : State). t.sent ≡ s.sent) (nat_lt (length s.sent) n) s _ (λ e. refl) (λ e. refl);
  learnt = λ s. on_cond (λ (t : State). t.learnt ≡ s.learnt) (nat_lt (length s.sent) n) s _ (λ e. refl) (λ e. refl);
}

pub rewound_same : IsSameSent rewound
rewound_same = record { sent = λ s. refl; learnt = λ s. refl }

pub refused_same : (n : ℕ) → IsSameSent (refused n)
refused_same n = record {
  sent = λ s. on_cond (λ (t : State). t.sent ≡ s.sent) (nat_lt (length s.sent) n) s (rewound (acknowledged n s)) (λ e. refl) (λ e. (acknowledged_same n).sent s);
  learnt = λ s. on_cond (λ (t : State). t.learnt ≡ s.learnt) (nat_lt (length s.sent) n) s (rewound (acknowledged n s)) (λ e. refl) (λ e. (acknowledged_same n).learnt s);
}

pub pumped_same : IsSameSent pumped
pumped_same = record {
  sent = λ s. on_cond (λ (t : State). t.sent ≡ s.sent) (is_some (next_sent s)) (record s { written = s.written + 1 }) s (λ e. refl) (λ e. refl);
  learnt = λ s. on_cond (λ (t : State). t.learnt ≡ s.learnt) (is_some (next_sent s)) (record s { written = s.written + 1 }) s (λ e. refl) (λ e. refl);
}

-- ---- a peer changes

pub view_change : (a b : Address) (f : Peer whole → Peer whole) → ((p : Peer whole) → (f p).incarnations.address ≡ p.incarnations.address) → (P : View → Type 0) (ps : List (Peer whole)) → P (view (or_else (new_peer a) (find (is_peer a) ps)))
    → ((p : Peer whole) → find (is_peer b) ps ≡ Some p → is_peer a p ≡ true → P (view p) → P (view (f p))) → P (view (or_else (new_peer a) (find (is_peer a) (change_first (is_peer b) f ps))))
view_change a b f s P [] h g = h
view_change a b f s P (p ∷ ps) h g = by (is_peer b p) (is_peer a p) refl refl (λ k t. view_change a b f s P ps k t)
  where
    at_view : Option (Peer whole) → Type 0
    at_view o = P (view (or_else (new_peer a) o))

    Rest : Type 0
    Rest = P (view (or_else (new_peer a) (find (is_peer a) ps))) → ((q : Peer whole) → find (is_peer b) ps ≡ Some q → is_peer a q ≡ true → P (view q) → P (view (f q))) → P (view (or_else (new_peer a) (find (is_peer a) (change_first (is_peer b) f ps))))

    is_it : (y : Bool) → is_peer a p ≡ y → at_view (cond y (Some p) (find (is_peer a) ps))
    is_it y e = subst (λ (c : Bool). at_view (cond c (Some p) (find (is_peer a) ps))) e h

    by : (x y : Bool) → is_peer b p ≡ x → is_peer a p ≡ y → Rest → at_view (find (is_peer a) (cond x (f p ∷ ps) (p ∷ change_first (is_peer b) f ps)))
    by true true d e rest = subst (λ (c : Bool). at_view (cond c (Some (f p)) (find (is_peer a) ps))) (sym (ap (λ (x : Address). same_address x a) (s p) ∙ e)) (g p (ap (λ (c : Bool). cond c (Some p) (find (is_peer b) ps)) d) e (is_it true e))
    by true false d e rest = subst (λ (c : Bool). at_view (cond c (Some (f p)) (find (is_peer a) ps))) (sym (ap (λ (x : Address). same_address x a) (s p) ∙ e)) (is_it false e)
    by false true d e rest = subst (λ (c : Bool). at_view (cond c (Some p) (find (is_peer a) (change_first (is_peer b) f ps)))) (sym e) (is_it true e)
    by false false d e rest = subst (λ (c : Bool). at_view (cond c (Some p) (find (is_peer a) (change_first (is_peer b) f ps)))) (sym e) (rest (is_it false e) (λ q k. g q (ap (λ (c : Bool). cond c (Some p) (find (is_peer b) ps)) d ∙ k)))

-- ---- messages that are accepted, and the next to write

pub record IsAccepted (m : SysMsg) (s : State) (n : ℕ) : Type 0 where
  pub learnt : s.learnt ≡ true
  pub count : n ≡ length s.sent + 1
  pub now : accepted m s ≡ record s { sent = s.sent ++ m ∷ [] }

pub accepted_is : (m : SysMsg) (s : State) (n : ℕ) → answer_to m s ≡ Accepted n → IsAccepted m s n
accepted_is m s n e = by (has_no_room s) s.learnt refl refl e
  where
    not_overflow : {P : Type 0} → Overflow m ≡ Accepted n → P
    not_overflow h = cc

    not_waiting : {P : Type 0} {place : ℕ} → Waiting place ≡ Accepted n → P
    not_waiting h = cc

    number : Accepted (length s.sent + 1) ≡ Accepted n → n ≡ length s.sent + 1
    number h = cc

    by : (full learnt : Bool) → has_no_room s ≡ full → s.learnt ≡ learnt → cond full (Overflow m) (cond learnt (Accepted (length s.sent + 1)) (Waiting (length s.waiting + 1))) ≡ Accepted n → IsAccepted m s n
    by true learnt f l h = not_overflow h
    by false false f l h = not_waiting h
    by false true f l h = record {
      learnt = l;
      count = number h;
      now = ap (λ (b : Bool). cond b s (cond s.learnt (record s { sent = s.sent ++ m ∷ [] }) (record s { waiting = s.waiting ++ m ∷ [] }))) f
          ∙ ap (λ (b : Bool). cond b (record s { sent = s.sent ++ m ∷ [] }) (record s { waiting = s.waiting ++ m ∷ [] })) l;
    }

-- one that waits leaves those that were sent
pub waiting_is : (m : SysMsg) (s : State) (place : ℕ) → answer_to m s ≡ Waiting place → accepted m s ≡ record s { waiting = s.waiting ++ m ∷ [] }
waiting_is m s place e = by (has_no_room s) s.learnt refl refl e
  where
    not_overflow : {P : Type 0} → Overflow m ≡ Waiting place → P
    not_overflow h = cc

    not_accepted : {P : Type 0} {n : ℕ} → Accepted n ≡ Waiting place → P
    not_accepted h = cc

    by : (full learnt : Bool) → has_no_room s ≡ full → s.learnt ≡ learnt → cond full (Overflow m) (cond learnt (Accepted (length s.sent + 1)) (Waiting (length s.waiting + 1))) ≡ Waiting place → accepted m s ≡ record s { waiting = s.waiting ++ m ∷ [] }
    by true learnt f l h = not_overflow h
    by false true f l h = not_accepted h
    by false false f l h =
        ap (λ (b : Bool). cond b s (cond s.learnt (record s { sent = s.sent ++ m ∷ [] }) (record s { waiting = s.waiting ++ m ∷ [] }))) f
        ∙ ap (λ (b : Bool). cond b (record s { sent = s.sent ++ m ∷ [] }) (record s { waiting = s.waiting ++ m ∷ [] })) l

-- the next to write is among those sent
pub next_among : (s : State) (x : ℕ × SysMsg) → next_sent s ≡ Some x → IsAmong x (numbered 1 s.sent)
next_among s x e = by (nat_lt s.written (s.acknowledged + window)) (slice_get s.sent s.written) refl e
  where
    found : (m : SysMsg) → slice_get s.sent s.written ≡ Some m → Some (s.written + 1, m) ≡ Some x → IsAmong x (numbered 1 s.sent)
    found m f h = record { place = s.written; here = numbered_get 1 s.sent s.written m f ∙ ap (λ (k : ℕ). Some (k, m)) (let g : 1 + s.written ≡ s.written + 1 = omega arith in g) ∙ h }

    by : (b : Bool) (o : Option SysMsg) → slice_get s.sent s.written ≡ o → cond b (option_map (λ m. (s.written + 1, m)) o) None ≡ Some x → IsAmong x (numbered 1 s.sent)
    by true None f h = not_some h
    by true (Some m) f h = found m f h
    by false o f h = not_some h

-- ---- an incarnation is closed or learnt

list_any_push : (uid other : ℕ) (cs : List ℕ) → list_any (λ c. c == uid) (cs ++ other ∷ []) ≡ false → (list_any (λ c. c == uid) cs ≡ false) × ((other == uid) ≡ false)
list_any_push uid other [] h = (refl, or_left (other == uid) false h)
list_any_push uid other (c ∷ cs) h = (let r : (list_any (λ c. c == uid) cs ≡ false) × ((other == uid) ≡ false) = list_any_push uid other cs (or_right (c == uid) (list_any (λ c. c == uid) (cs ++ other ∷ [])) h) in
    (both (c == uid) (or_left (c == uid) (list_any (λ c. c == uid) (cs ++ other ∷ [])) h) r.0, r.1))
  where
    both : (a : Bool) {b : Bool} → a ≡ false → b ≡ false → (a || b) ≡ false
    both true e f = e
    both false e f = f

-- what is known once the current incarnation is closed
pub closed_now : (uid : ℕ) (s : PeerState) → s.current ≡ Some uid → is_closed uid s ≡ false → peer_closed uid s ≡ record s { current = None; closed = s.closed ++ uid ∷ [] }
closed_now uid s c a =
    ap (λ (x : Close). peer_after_close x uid s)
    (ap (λ (b : Bool). cond b AlreadyClosed (cond (is_current uid s) Closed NotCurrent)) a
    ∙ ap (λ (o : Option ℕ). cond (is_that uid o) Closed NotCurrent) c
    ∙ ap (λ (b : Bool). cond b Closed NotCurrent) (eq_self uid))

pub closed_sent : (me : UniqueAddress) (os : List Outcome) (uid : ℕ) (x : View) → x.incarnations.current ≡ Some uid → SentFacts me os x → SentFacts me os (record { incarnations = peer_closed uid x.incarnations; out = nothing_sent })
closed_sent me os uid x c h = subst (λ (s : PeerState). SentFacts me os (record { incarnations = s; out = nothing_sent })) (sym (closed_now uid x.incarnations c (h.alive uid c))) (record {
  alive = λ y e. not_some e;
  quiet = λ e. refl;
  sent = λ y e. not_some e;
  none = λ y e f. (let r : (list_any (λ z. z == y) x.incarnations.closed ≡ false) × ((uid == y) ≡ false) = list_any_push y uid x.incarnations.closed f in
      h.none y (ap (is_that y) c ∙ r.1) r.0);
})

-- what is to be known where a UID is learnt
pub record IsReady (uid : ℕ) (x : View) : Type 0 where
  pub learning : learning uid x.incarnations ≡ Learnt None
  pub learnt : x.out.learnt ≡ false

record Learns (uid : ℕ) (s : PeerState) (former : Option ℕ) : Type 0 where
  closed : is_closed uid s ≡ false
  other : is_current uid s ≡ false
  room : is_full s ≡ false
  was : s.current ≡ former

learns_is : (uid : ℕ) (s : PeerState) (former : Option ℕ) → learning uid s ≡ Learnt former → Learns uid s former
learns_is uid s former e = by (is_closed uid s) (is_current uid s) (is_full s) refl refl refl e
  where
    not_closed : {P : Type 0} → WasClosed ≡ Learnt former → P
    not_closed h = cc

    not_same : {P : Type 0} → IsSame ≡ Learnt former → P
    not_same h = cc

    not_full : {P : Type 0} → ClosedFull ≡ Learnt former → P
    not_full h = cc

    is_former : Learnt s.current ≡ Learnt former → s.current ≡ former
    is_former h = cc

    by : (a b c : Bool) → is_closed uid s ≡ a → is_current uid s ≡ b → is_full s ≡ c → cond a WasClosed (cond b IsSame (cond c ClosedFull (Learnt s.current))) ≡ Learnt former → Learns uid s former
    by true b c x y z h = not_closed h
    by false true c x y z h = not_same h
    by false false true x y z h = not_full h
    by false false false x y z h = record { closed = x; other = y; room = z; was = is_former h }

pub learns_former : (uid : ℕ) (s : PeerState) (former : Option ℕ) → learning uid s ≡ Learnt former → s.current ≡ former
learns_former uid s former e = (learns_is uid s former e).was

learns_so : (uid : ℕ) (s : PeerState) → is_closed uid s ≡ false → is_current uid s ≡ false → is_full s ≡ false → learning uid s ≡ Learnt s.current
learns_so uid s x y z =
    ap (λ (b : Bool). cond b WasClosed (cond (is_current uid s) IsSame (cond (is_full s) ClosedFull (Learnt s.current)))) x
    ∙ ap (λ (b : Bool). cond b IsSame (cond (is_full s) ClosedFull (Learnt s.current))) y
    ∙ ap (λ (b : Bool). cond b ClosedFull (Learnt s.current)) z

-- where no incarnation was current
pub ready_first : (me : UniqueAddress) (os : List Outcome) (uid : ℕ) (x : View) → learning uid x.incarnations ≡ Learnt None → SentFacts me os x → IsReady uid x
ready_first me os uid x e h = record { learning = e; learnt = h.quiet (learns_is uid x.incarnations None e).was }

-- where the former one was closed
pub ready_then : (me : UniqueAddress) (os : List Outcome) (uid former : ℕ) (x : View) → learning uid x.incarnations ≡ Learnt (Some former) → SentFacts me os x → IsReady uid (record { incarnations = peer_closed former x.incarnations; out = nothing_sent })
ready_then me os uid former x e h =
    let l : Learns uid x.incarnations (Some former) = learns_is uid x.incarnations (Some former) e in
    let s : PeerState = record x.incarnations { current = None; closed = x.incarnations.closed ++ former ∷ [] } in
    let apart : (former == uid) ≡ false = ap (is_that uid) (sym l.was) ∙ l.other in
    let closed : is_closed uid s ≡ false = any_push uid former x.incarnations.closed l.closed apart in
    let room : is_full s ≡ false = ap (nat_le most_incarnations) (let a : length (x.incarnations.closed ++ former ∷ []) ≡ length x.incarnations.closed + 1 = length-append x.incarnations.closed (former ∷ []) in
    let b : length (x.incarnations.closed ++ former ∷ []) + 0 ≡ length x.incarnations.closed + 1 = omega arith in b) ∙ ap (λ (o : Option ℕ). nat_le most_incarnations (length x.incarnations.closed + length (option_to_list o))) (sym l.was) ∙ l.room in
    record { learning = ap (learning uid) (closed_now former x.incarnations l.was (h.alive former l.was)) ∙ learns_so uid s closed refl room; learnt = refl }
  where
    any_push : (uid other : ℕ) (cs : List ℕ) → list_any (λ c. c == uid) cs ≡ false → (other == uid) ≡ false → list_any (λ c. c == uid) (cs ++ other ∷ []) ≡ false
    any_push uid other [] h k = ap (λ (b : Bool). b || false) k
    any_push uid other (c ∷ cs) h k = both (c == uid) (or_left (c == uid) (list_any (λ c. c == uid) cs) h) (any_push uid other cs (or_right (c == uid) (list_any (λ c. c == uid) cs) h) k)
      where
        both : (a : Bool) {b : Bool} → a ≡ false → b ≡ false → (a || b) ≡ false
        both true e f = e
        both false e f = f

-- once it is learnt, those that waited are the first ones sent
pub record IsLearnt (uid : ℕ) (x : View) : Type 0 where
  pub incarnations : peer_learnt uid x.incarnations ≡ record x.incarnations { current = Some uid; closed = x.incarnations.closed ++ [] }
  pub out : whole.learnt x.out ≡ learnt x.out
  pub free : is_closed uid x.incarnations ≡ false
  pub nobody : x.incarnations.current ≡ None

pub learnt_is : (uid : ℕ) (x : View) → IsReady uid x → IsLearnt uid x
learnt_is uid x r =
    let l : Learns uid x.incarnations None = learns_is uid x.incarnations None r.learning in
    record {
      incarnations = ap (λ (y : Learn). peer_after_learn y uid x.incarnations) r.learning;
      out = ap (λ (b : Bool). cond b x.out (learnt x.out)) r.learnt;
      free = l.closed;
      nobody = l.was;
    }

pub learnt_sent : (me : UniqueAddress) (os us : List Outcome) (uid : ℕ) (x : View) → IsLearnt uid x → sent_in me (incarnation x.incarnations.address uid) us ≡ numbered 1 x.out.waiting
    → ((y : ℕ) → (uid == y) ≡ false → sent_in me (incarnation x.incarnations.address y) us ≡ sent_in me (incarnation x.incarnations.address y) os) → SentFacts me os x
    → SentFacts me us (record { incarnations = peer_learnt uid x.incarnations; out = whole.learnt x.out })
learnt_sent me os us uid x r told other h =
    subst (λ (s : PeerState). SentFacts me us (record { incarnations = s; out = whole.learnt x.out })) (sym r.incarnations) (subst (λ (o : State). SentFacts me us (record { incarnations = record x.incarnations { current = Some uid; closed = x.incarnations.closed ++ [] }; out = o })) (sym r.out) (record {
      alive = λ y e. subst (λ (z : ℕ). list_any (λ c. c == z) (x.incarnations.closed ++ []) ≡ false) (some_same e) (ap (list_any (λ c. c == uid)) (append-nil x.incarnations.closed) ∙ r.free);
      quiet = λ e. not_some (sym e);
      sent = λ y e. subst (λ (z : ℕ). sent_in me (incarnation x.incarnations.address z) us ≡ numbered 1 x.out.waiting) (some_same e) told;
      none = λ y e f. other y e ∙ h.none y (ap (is_that y) r.nobody) (ap (list_any (λ c. c == y)) (sym (append-nil x.incarnations.closed)) ∙ f);
    }))
