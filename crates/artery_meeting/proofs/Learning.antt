-- What stays of a UID that would be learnt, once the former incarnation is closed.
use Rattle.std.proofs.Common.{◌≡◌, ℕ, Bool, true, false, cond, List, [], ◌∷◌, ◌++◌, length, ◌+◌, refl, ap, sym, ◌∙◌, arith}
use Rattle.std.specs.Prelude.{Option, Some, None, find, ◌==◌, ◌||◌, nat_le, if◌then◌else◌}
use Rattle.std.specs.List.{list_any}
use Rattle.std.proofs.lemmas.List.Folds.{list_any-append}
use Rattle.std.proofs.lemmas.Bool.Decides.{nat_tests}
use Rattle.std.proofs.lemmas.List.{length-append}
use Rattle.artery_base.specs.declared.address.Address.{Address}
use Rattle.artery_base.specs.declared.address.UniqueAddress.{UniqueAddress}
use Rattle.artery_assoc.specs.Peer.{PeerState, is_closed, is_current, is_that, is_full, learning, closing, peer_closed, peer_after_close}
use Rattle.artery_assoc.specs.Limits.{most_incarnations}
use Rattle.artery_assoc.specs.declared.peer.Learn.TheVariants.{Learnt, Same, WasClosed, ClosedFull}
use Rattle.artery_assoc.specs.declared.peer.Close.{Close}
use Rattle.artery_assoc.specs.declared.peer.Close.TheVariants.{Closed, AlreadyClosed, NotCurrent}
use Rattle.artery_frame.specs.declared.stream.Stream.TheVariants.{Ordinary}
use Rattle.artery_journal.specs.declared.line.Line.TheVariants as lines
use Rattle.artery_journal.specs.declared.words.Cause.TheVariants as causes
use Rattle.artery_machine.specs.Lists.{or_else, change_first}
use Rattle.artery_machine.specs.Parts.{kept}
use Rattle.artery_machine.specs.Node.{Peer, Node, new_peer, is_peer, same_address, peer_at, current_of, conn_of, incarnation, with_link}
use Rattle.artery_machine.specs.Making.{link_gone}
use Rattle.artery_machine.specs.Doing.{Doing, in_bytes, stays, each, tells_of, hangs_up, peer_becomes}
use Rattle.artery_machine.specs.Closing.{dial_of, with_closed, without_detector, with_new_tables, drops_ordinary, forgets_watches_of, terminates_at, closes, closes_current}
use Rattle.artery_watch.specs.Watcher.{ids_at}

-- A UID is learnt, and not the same, closed or refused.
abbrev pub Learns : ℕ → PeerState → Type 0
Learns uid p = learning uid p ≡ Learnt p.current

-- The answer tells the former UID, which is the current one.
former_in : (closed current full : Bool) (former now : Option ℕ) → (if closed then WasClosed else if current then Same else if full then ClosedFull else Learnt now) ≡ Learnt former → former ≡ now
former_in true current full former now h = cc
former_in false true full former now h = cc
former_in false false true former now h = cc
former_in false false false former now h = cc

pub former_is_current : (uid : ℕ) (p : PeerState) (former : Option ℕ) → learning uid p ≡ Learnt former → former ≡ p.current
former_is_current uid p former h = former_in (is_closed uid p) (is_current uid p) (is_full p) former p.current h

-- A UID that is learnt is not closed, not current, and there is room.
record Room (uid : ℕ) (p : PeerState) : Type 0 where
  closed : is_closed uid p ≡ false
  current : is_that uid p.current ≡ false
  full : is_full p ≡ false

room_of : (uid : ℕ) (p : PeerState) → Learns uid p → Room uid p
room_of uid p h = by (is_closed uid p) (is_current uid p) (is_full p) refl refl refl h
  where
    by : (closed current full : Bool) → is_closed uid p ≡ closed → is_current uid p ≡ current → is_full p ≡ full
        → (if closed then WasClosed else if current then Same else if full then ClosedFull else Learnt p.current) ≡ Learnt p.current → Room uid p
    by true current full a b c h = absurd cc
    by false true full a b c h = absurd cc
    by false false true a b c h = absurd cc
    by false false false a b c h = record { closed = a; current = b; full = c }

with_room : (uid : ℕ) (p : PeerState) → Room uid p → Learns uid p
with_room uid p r = by (is_closed uid p) (is_current uid p) (is_full p) r.closed r.current r.full
  where
    by : (closed current full : Bool) → closed ≡ false → current ≡ false → full ≡ false → (if closed then WasClosed else if current then Same else if full then ClosedFull else Learnt p.current) ≡ Learnt p.current
    by true current full a b c = absurd cc
    by false true full a b c = absurd cc
    by false false true a b c = absurd cc
    by false false false a b c = refl

length_last : (x : ℕ) (xs : List ℕ) → length (xs ++ x ∷ []) ≡ length xs + 1
length_last x xs = length-append xs (x ∷ [])

-- Closing a former UID leaves that so.
closed_keeps : (uid former : ℕ) (address : Address) (current : Option ℕ) (closed : List ℕ)
    → Room uid (record { address = address; current = current; closed = closed })
    → Room uid (peer_closed former (record { address = address; current = current; closed = closed }))
closed_keeps uid former address None closed r = by (list_any (λ c. c == former) closed)
  where
    by : (b : Bool) → Room uid (peer_after_close (if b then AlreadyClosed else if false then Closed else NotCurrent) former (record { address = address; current = None; closed = closed }))
    by true = r
    by false = r
closed_keeps uid former address (Some c) closed r = by (list_any (λ c. c == former) closed) (c == former) refl
  where
    by : (b e : Bool) → (c == former) ≡ e → Room uid (peer_after_close (if b then AlreadyClosed else if e then Closed else NotCurrent) former (record { address = address; current = Some c; closed = closed }))
    by true e h = r
    by false false h = r
    by false true h =
        let same : c ≡ former = grind (arith, nat_tests) in
        let other : (former == uid) ≡ false = ap (λ x. x == uid) (sym same) ∙ r.current in
        record {
          closed = list_any-append (λ x. x == uid) closed (former ∷ []) ∙ ap (λ b. b || ((former == uid) || false)) r.closed ∙ ap (λ b. b || false) other;
          current = refl;
          full = let as_many : length (closed ++ former ∷ []) + 0 ≡ length closed + 1 = omega (arith, length_last former closed) in ap (nat_le most_incarnations) as_many ∙ r.full;
        }

peer_keeps : (uid former : ℕ) (p : PeerState) → Room uid p → Room uid (peer_closed former p)
peer_keeps uid former p r = closed_keeps uid former p.address p.current p.closed r

stays_there : (address : Address) (former : ℕ) (p : Peer kept) → is_peer address (with_closed former p) ≡ is_peer address p
stays_there address former p = by (closing former p.incarnations)
  where
    by : (answer : Close) → same_address (peer_after_close answer former p.incarnations).address address ≡ same_address p.incarnations.address address
    by Closed = refl
    by AlreadyClosed = refl
    by NotCurrent = refl

-- A peer that is changed, and stays at its address and ready to learn.
found_keeps : (address : Address) (uid : ℕ) (f : Peer kept → Peer kept) (ps : List (Peer kept)) (other : Peer kept)
    → ((p : Peer kept) → is_peer address (f p) ≡ is_peer address p) → ((p : Peer kept) → Room uid p.incarnations → Room uid (f p).incarnations)
    → Room uid (or_else other (find (is_peer address) ps)).incarnations
    → Room uid (or_else other (find (is_peer address) (change_first (is_peer address) f ps))).incarnations
found_keeps address uid f [] other there keep r = r
found_keeps address uid f (p ∷ ps) other there keep r = by (is_peer address p) refl r (found_keeps address uid f ps other there keep)
  where
    by : (b : Bool) → is_peer address p ≡ b → Room uid (or_else other (cond b (Some p) (find (is_peer address) ps))).incarnations
        → (Room uid (or_else other (find (is_peer address) ps)).incarnations → Room uid (or_else other (find (is_peer address) (change_first (is_peer address) f ps))).incarnations)
        → Room uid (or_else other (find (is_peer address) (cond b (f p ∷ ps) (p ∷ change_first (is_peer address) f ps)))).incarnations
    by true e r rest = let passes : is_peer address (f p) ≡ true = there p ∙ e in rw passes (keep p r)
    by false e r rest = rw e (rest r)

abbrev RoomAt : ℕ → Address → Node kept → Type 0
RoomAt uid address n = Room uid (peer_at address n).incarnations

moved : (uid : ℕ) (address : Address) (n m : Node kept) → m ≡ n → RoomAt uid address n → RoomAt uid address m
moved uid address n m same r = rw same r

hangs_node : (o : Option ℕ) (d : Doing kept in_bytes) → (hangs_up o d).node ≡ d.node
hangs_node None d = refl
hangs_node (Some dial) d = refl

tells_node : (ids : List ℕ) (d : Doing kept in_bytes) → (each ids (λ id. tells_of (λ me. lines.Terminated me id)) d).node ≡ d.node
tells_node [] d = refl
tells_node (id ∷ ids) d = tells_node ids (tells_of (λ me. lines.Terminated me id) d)

drops_keeps : (uid : ℕ) (address : Address) (d : Doing kept in_bytes) → RoomAt uid address d.node → RoomAt uid address (drops_ordinary address d).node
drops_keeps uid address d r =
    let dial : Option ℕ = dial_of (conn_of Ordinary (peer_at address d.node)) in
    found_keeps address uid (with_link Ordinary link_gone) (hangs_up dial d).node.peers (new_peer address) (λ p. refl) (λ p r. r)
    (moved uid address d.node (hangs_up dial d).node (hangs_node dial d) r)

ends_keeps : (uid : ℕ) (address : Address) (d : Doing kept in_bytes) → RoomAt uid address d.node → RoomAt uid address (terminates_at address d).node
ends_keeps uid address d r =
    let ids : List ℕ = ids_at address d.node.watching.watches.list in
    moved uid address d.node (each ids (λ id. tells_of (λ me. lines.Terminated me id)) d).node (tells_node ids d) r

closes_keeps : (uid : ℕ) (address : Address) (former : ℕ) (d : Doing kept in_bytes) → RoomAt uid address d.node → RoomAt uid address (closes address causes.Superseded former d).node
closes_keeps uid address former d r =
    let told : Doing kept in_bytes = tells_of (λ me. lines.Closed me (incarnation address former) causes.Superseded) d in
    let closed : Doing kept in_bytes = peer_becomes address (with_closed former) told in
    let dropped : Doing kept in_bytes = drops_ordinary address closed in
    let forgot : Doing kept in_bytes = forgets_watches_of (incarnation address former) dropped in
    let ended : Doing kept in_bytes = terminates_at address forgot in
    let undetected : Doing kept in_bytes = peer_becomes address without_detector ended in
    found_keeps address uid with_new_tables undetected.node.peers (new_peer address) (λ p. refl) (λ p r. r)
    (found_keeps address uid without_detector ended.node.peers (new_peer address) (λ p. refl) (λ p r. r)
    (ends_keeps uid address forgot
    (drops_keeps uid address closed
    (found_keeps address uid (with_closed former) told.node.peers (new_peer address) (stays_there address former) (λ p. peer_keeps uid former p.incarnations) r))))

-- A UID that would be learnt still is, once the former one is closed.
pub learns_still : (v : UniqueAddress) (former : Option ℕ) (d w : Doing kept in_bytes) → learning v.uid (peer_at v.address d.node).incarnations ≡ Learnt former
    → w ≡ closes_current v.address causes.Superseded former stays d
    → learning v.uid (peer_at v.address w.node).incarnations ≡ Learnt (current_of (peer_at v.address w.node))
learns_still v None d w h is = rw is (h ∙ ap Learnt (former_is_current v.uid (peer_at v.address d.node).incarnations None h))
learns_still v (Some former) d w h is =
    let p : PeerState = (peer_at v.address d.node).incarnations in
    rw is (with_room v.uid (peer_at v.address (closes v.address causes.Superseded former d).node).incarnations
    (closes_keeps v.uid v.address former d (room_of v.uid p (h ∙ ap Learnt (former_is_current v.uid p (Some former) h)))))
