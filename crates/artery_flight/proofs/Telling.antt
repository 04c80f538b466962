-- Messages that are told as sent to one incarnation, one after the other.
use Rattle.std.proofs.Common.{◌≡◌, ℕ, ◌+◌, ◌≤◌, Bool, true, false, ◌&&◌, cond, List, [], ◌∷◌, ◌++◌, length, refl, sym, ◌∙◌, ap, subst, arith, append-nil, append_assoc, length-append}
use Rattle.std.specs.Prelude.{Option, None, Some, ◌==◌, is_none}
use Rattle.std.specs.List.{find}
use Rattle.std.specs.Cmp.Rules.{comparing}
use Rattle.std.proofs.Common.{rules}
use Rattle.artery_base.specs.declared.address.Address.{Address}
use Rattle.artery_base.specs.declared.address.UniqueAddress.{UniqueAddress}
use Rattle.artery_base.specs.declared.message.SysMsg.{SysMsg}
use Rattle.artery_journal.specs.declared.line.Line.TheVariants as lines
use Rattle.artery_judge.specs.Lines.{same, is_way}
use Rattle.artery_machine.specs.declared.link.Link.{Link}
use Rattle.artery_machine.specs.declared.world.Outcome.{Outcome}
use Rattle.artery_machine.specs.declared.world.Outcome.TheVariants as outcomes
use Rattle.artery_machine.specs.Lists.{or_else, change_first}
use Rattle.artery_machine.specs.Deeds.{Tells}
use Rattle.artery_machine.specs.Parts.{whole}
use Rattle.artery_machine.specs.Ways.{Wrote}
use Rattle.artery_machine.specs.Connections.{is_dialed}
use Rattle.artery_machine.specs.Node.{Node, Peer, is_peer, new_peer, same_address, incarnation}
use Rattle.artery_machine.specs.Sending.{tells_sent}
use Rattle.artery_machine.specs.Handshaking.{tells_all_sent}
use Rattle.artery_machine.specs.World.{is_pending, going_on, comes_out, does as does_outside}
use Rattle.artery_flight.proofs.Lists.{by_test, on_cond, not_both, and_left, and_right, and_both, each_weaker, each_change, count, count_change, find_passes, find_change}
use Rattle.artery_flight.proofs.Lines.{own_more, sent_in, sent_line, numbered, numbered_push, name_push, took_line, named_more}
use Rattle.artery_flight.proofs.Peers.{SentFacts, view, view_at, view_change, sent_later}
use Rattle.artery_flight.proofs.Facts.{Network, Conn, grow_self, stay_self, Out, OutConnFacts, PeerFacts, ConnNamed, IsFresh, NodeFacts, Later, later_trans, peer_later, inbound_later, bound_later, read_before}
use Rattle.artery_flight.proofs.Deeds.{only}
use Rattle.artery_flight.proofs.Rules.{Good, Kept, Work, none_is, none_not, address_is, address_self, kept_node, peers_facts, IsSamePeer, same_address_of, same_view}

pub unique_is : (a b : UniqueAddress) → same a b ≡ true → a ≡ b
unique_is a b h = search (comparing, rules)

pub unique_self : (a : UniqueAddress) → same a a ≡ true
unique_self a = search (comparing, rules)

-- ---- what was told

-- Where the network goes on: the messages that one told as sent to another are these; and nothing else was told as sent, nor done.
pub record Told (me v : UniqueAddress) (done : List SysMsg) (w x : Network) : Type 0 where
  pub conns : x.connections ≡ w.connections
  pub pending : x.pending ≡ w.pending
  pub mine : sent_in me v x.outcomes ≡ numbered 1 done
  pub other : (y : UniqueAddress) → same y v ≡ false → sent_in me y x.outcomes ≡ sent_in me y w.outcomes

pub record Telling (u : ℕ) (me v : UniqueAddress) (done : List SysMsg) (w x : Network) : Type 0 where
  pub out : Out x
  pub later : Later (only u) w x
  pub going : x.ended ≡ None → Told me v done w x

-- one message more
sent_more : (me v a b : UniqueAddress) (done : List SysMsg) (n t : ℕ) (m : SysMsg) (os : List Outcome) → n ≡ length done + 1 → sent_in me v os ≡ numbered 1 done → (ms : List SysMsg) × (sent_in a b os ≡ numbered 1 ms)
    → (ms : List SysMsg) × (sent_in a b (os ++ outcomes.Line t (lines.Sent me v n m) ∷ []) ≡ numbered 1 ms)
sent_more me v a b done n t m os count mine old = by_test (is_way a b (me, v))
    (λ s. (let x : a ≡ me = unique_is a me (and_left (same a me) (same b v) s) in
    let y : b ≡ v = unique_is b v (and_right (same a me) (same b v) s) in (
      done ++ m ∷ [],
      sent_line a b os t me v n m
          ∙ ap (λ (c : Bool). sent_in a b os ++ cond c ((n, m) ∷ []) []) s
          ∙ ap (λ rs. rs ++ (n, m) ∷ []) (ap (λ (z : UniqueAddress). sent_in z b os) x ∙ ap (λ (z : UniqueAddress). sent_in me z os) y ∙ mine)
          ∙ ap (λ (k : ℕ). numbered 1 done ++ (k, m) ∷ []) (count ∙ (let e : length done + 1 ≡ 1 + length done = omega arith in e))
          ∙ sym (numbered_push 1 done m),
    )))
    (λ s. (old.0, sent_line a b os t me v n m ∙ ap (λ (c : Bool). sent_in a b os ++ cond c ((n, m) ∷ []) []) s ∙ append-nil (sent_in a b os) ∙ old.1))

sent_mine : (me v : UniqueAddress) (done : List SysMsg) (n t : ℕ) (m : SysMsg) (os : List Outcome) → n ≡ length done + 1 → sent_in me v os ≡ numbered 1 done → sent_in me v (os ++ outcomes.Line t (lines.Sent me v n m) ∷ []) ≡ numbered 1 (done ++ m ∷ [])
sent_mine me v done n t m os count mine =
    sent_line me v os t me v n m
    ∙ ap (λ (c : Bool). sent_in me v os ++ cond c ((n, m) ∷ []) []) (and_both (same me me) (same v v) (unique_self me) (unique_self v))
    ∙ ap (λ rs. rs ++ (n, m) ∷ []) mine
    ∙ ap (λ (k : ℕ). numbered 1 done ++ (k, m) ∷ []) (count ∙ (let e : length done + 1 ≡ 1 + length done = omega arith in e))
    ∙ sym (numbered_push 1 done m)

sent_other : (me v a b : UniqueAddress) (n t : ℕ) (m : SysMsg) (os : List Outcome) → is_way a b (me, v) ≡ false → sent_in a b (os ++ outcomes.Line t (lines.Sent me v n m) ∷ []) ≡ sent_in a b os
sent_other me v a b n t m os s = sent_line a b os t me v n m ∙ ap (λ (c : Bool). sent_in a b os ++ cond c ((n, m) ∷ []) []) s ∙ append-nil (sent_in a b os)

pub tell_one : (u t : ℕ) (me v : UniqueAddress) (done : List SysMsg) (n : ℕ) (m : SysMsg) (w x : Network) → (x.ended ≡ None → me.uid ≡ u) → n ≡ length done + 1 → Telling u me v done w x → Telling u me v (done ++ m ∷ []) w (going_on (does_outside u t (Tells (lines.Sent me v n m))) x)
tell_one u t me v done n m w x is_u count k = on_cond (λ (y : Network). Telling u me v (done ++ m ∷ []) w y) (is_none x.ended) (comes_out o x) x
    (λ s. going (none_is x.ended s))
    (λ s. record { out = k.out; later = k.later; going = λ e. none_not x.ended s e })
  where
    o : Outcome
    o = outcomes.Line t (lines.Sent me v n m)

    and_false : (b : Bool) → (b && false) ≡ false
    and_false true = refl
    and_false false = refl

    going : x.ended ≡ None → Telling u me v (done ++ m ∷ []) w (comes_out (outcomes.Line t (lines.Sent me v n m)) x)
    going e =
        let f : Told me v done w x = k.going e in
        record {
          out = record {
            conns = k.out.conns;
            once = k.out.once;
            single = k.out.single;
            numbered = k.out.numbered;
            told = record {
              own = λ a. each_weaker _ _ (λ (c : Conn) q. each_weaker _ _ (λ (z : Wrote) s. own_more x.outcomes (x.outcomes ++ outcomes.Line t (lines.Sent me v n m) ∷ []) c.far z.writing (outcomes.Line t (lines.Sent me v n m) ∷ [], refl) s) c.way.all q) x.connections (k.out.told.own a);
              sent = λ a b. sent_more me v a b done n t m x.outcomes count f.mine (k.out.told.sent a b);
              took = λ a. took_line x.outcomes t (lines.Sent me v n m) tt (k.out.told.took a);
            };
          };
          later = later_trans (only u) w x (comes_out (outcomes.Line t (lines.Sent me v n m)) x) k.later (record {
            conns = grow_self (only u) x.connections;
            still = stay_self x.connections;
            told = (outcomes.Line t (lines.Sent me v n m) ∷ [], refl);
            sent = λ a b q. sent_other me v a b n t m x.outcomes (ap (λ (c : Bool). c && same b v) (by_test (same a me) (λ s. absurd (q (ap (λ (z : UniqueAddress). z.uid) (unique_is a me s) ∙ is_u e))) (λ s. s)));
            unnamed = λ y q. name_push y x.outcomes (outcomes.Line t (lines.Sent me v n m)) q;
            pending = λ y d q. refl;
            going = λ q. q;
          });
          going = λ q. record {
            conns = f.conns;
            pending = f.pending;
            mine = sent_mine me v done n t m x.outcomes count f.mine;
            other = λ y s. sent_other me v me y n t m x.outcomes (ap (λ (c : Bool). same me me && c) s ∙ and_false (same me me)) ∙ f.other y s;
          };
        }

-- all of a list
pub all_told_node : {u t : ℕ} (a : Address) (uid n : ℕ) (ms : List SysMsg) (d : Work u t) → (tells_all_sent a uid n ms d).node ≡ d.node
all_told_node a uid n [] d = refl
all_told_node a uid n (m ∷ ms) d = all_told_node a uid (n + 1) ms (tells_sent a (Some uid) n m d)

pub all_told : {u t : ℕ} (a : Address) (uid n : ℕ) (ms done : List SysMsg) (w : Network) (d : Work u t) → (d.deeds.ended ≡ None → d.node.me.uid ≡ u) → n ≡ length done + 1 → Telling u d.node.me (incarnation a uid) done w d.deeds
    → Telling u d.node.me (incarnation a uid) (done ++ ms) w (tells_all_sent a uid n ms d).deeds
all_told {u} {t} a uid n [] done w d is_u count k = subst (λ (xs : List SysMsg). Telling u d.node.me (incarnation a uid) xs w d.deeds) (sym (append-nil done)) k
all_told {u} {t} a uid n (m ∷ ms) done w d is_u count k =
    let e : Work u t = tells_sent a (Some uid) n m d in
    let one : Telling u d.node.me (incarnation a uid) (done ++ m ∷ []) w e.deeds = tell_one u t d.node.me (incarnation a uid) done n m w d.deeds is_u count k in
    let next : n + 1 ≡ length (done ++ m ∷ []) + 1 = (let x : length (done ++ m ∷ []) ≡ length done + 1 = length-append done (m ∷ []) in let y : n ≡ length done + 1 = count in omega arith) in
    subst (λ (xs : List SysMsg). Telling u d.node.me (incarnation a uid) xs w (tells_all_sent a uid (n + 1) ms e).deeds) (append_assoc done (m ∷ []) ms)
    (all_told a uid (n + 1) ms (done ++ m ∷ []) w e (λ q. is_u (was_going q)) next one)
  where
    was_going : (going_on (does_outside u t (Tells (lines.Sent d.node.me (incarnation a uid) n m))) d.deeds).ended ≡ None → d.deeds.ended ≡ None
    was_going q = on_cond (λ (y : Network). y.ended ≡ None → d.deeds.ended ≡ None) (is_none d.deeds.ended) (comes_out (outcomes.Line t (lines.Sent d.node.me (incarnation a uid) n m)) d.deeds) d.deeds (λ s r. r) (λ s r. r) q

-- ---- and what the node keeps of it

-- A change of a peer that leaves its address and its connections.
pub record IsLinked (g : Peer whole → Peer whole) : Type 0 where
  pub address : (p : Peer whole) → (g p).incarnations.address ≡ p.incarnations.address
  pub control : (p : Peer whole) → (g p).control ≡ p.control
  pub ordinary : (p : Peer whole) → (g p).ordinary ≡ p.ordinary

pub linked_facts : (u : ℕ) (cs : List Conn) (g : Peer whole → Peer whole) → IsLinked g → (p : Peer whole) → PeerFacts u cs p → PeerFacts u cs (g p)
linked_facts u cs g s p h = record {
  control = subst (λ (l : Link). OutConnFacts u cs l.conn) (sym (s.control p)) h.control;
  ordinary = subst (λ (l : Link). OutConnFacts u cs l.conn) (sym (s.ordinary p)) h.ordinary;
}

pub linked_named : (os : List Outcome) (g : Peer whole → Peer whole) → IsLinked g → (p : Peer whole) → ConnNamed os p.incarnations.address p.control.conn → ConnNamed os (g p).incarnations.address (g p).control.conn
linked_named os g s p h = subst (λ (l : Link). ConnNamed os (g p).incarnations.address l.conn) (sym (s.control p)) (subst (λ (a : Address). ConnNamed os a p.control.conn) (sym (s.address p)) h)

pub view_address : (a : Address) (n : Node whole) → (view_at a n).incarnations.address ≡ a
view_address a n = by (find (is_peer a) n.peers) refl
  where
    by : (o : Option (Peer whole)) → find (is_peer a) n.peers ≡ o → (view (or_else (new_peer a) o)).incarnations.address ≡ a
    by None e = refl
    by (Some p) e = address_is p.incarnations.address a (find_passes (is_peer a) n.peers p e)

-- what is read at another address stays
pub other_view : (y a : Address) (g : Peer whole → Peer whole) → IsLinked g → (n : Node whole) → same_address a y ≡ false → view_at y (record n { peers = change_first (is_peer a) g n.peers }) ≡ view_at y n
other_view y a g s n apart = view_change y a g s.address (λ x. x ≡ view_at y n) n.peers refl
    (λ p e t k. (let i : p.incarnations.address ≡ a = address_is p.incarnations.address a (find_passes (is_peer a) n.peers p e) in
    not_both (subst (λ (z : Address). same_address z y ≡ true) i t) apart))

apart_turned : (a y : Address) → same_address a y ≡ false → same_address y a ≡ false
apart_turned a y h = by_test (same_address y a) (λ t. not_both (let e : y ≡ a = address_is y a t in subst (λ (z : Address). same_address a z ≡ true) (sym e) (address_self a)) h) (λ t. t)

not_same : (x v : UniqueAddress) → same_address x.address v.address ≡ false → same x v ≡ false
not_same x v h = ap (λ (b : Bool). b && (x.uid == v.uid)) h

pub told_facts : (u : ℕ) (a : Address) (uid : ℕ) (g : Peer whole → Peer whole) → IsLinked g → (n : Node whole) (w x : Network) (done : List SysMsg) → Later (only u) w x → Told n.me (incarnation a uid) done w x
    → SentFacts n.me x.outcomes (view_at a (record n { peers = change_first (is_peer a) g n.peers })) → NodeFacts u n w → NodeFacts u (record n { peers = change_first (is_peer a) g n.peers }) x
told_facts u a uid g s n w x done later t new h = record {
  me = h.me;
  fresh = λ d b. (let f : IsFresh u d w = h.fresh d b in record { pending = ap (count (is_pending u d)) t.pending ∙ f.pending; made = ap (count (is_dialed u d)) t.conns ∙ f.made });
  alone = λ b. (let e : count (is_peer b) (change_first (is_peer a) g n.peers) ≡ count (is_peer b) n.peers = count_change (is_peer b) (is_peer a) g (λ p. ap (λ (y : Address). same_address y b) (s.address p)) n.peers in
      let k : count (is_peer b) n.peers ≤ 1 = h.alone b in omega arith);
  peers = each_change (PeerFacts u x.connections) (is_peer a) g n.peers (λ p e k. linked_facts u x.connections g s p k) (each_weaker _ _ (λ p k. peer_later (only u) u w.connections x.connections later.conns p k) n.peers h.peers);
  inbound = each_weaker _ _ (λ i k. inbound_later (only u) u w.connections x.connections later.conns i k) n.inbound h.inbound;
  named = named_more n.me w.outcomes x.outcomes later.told h.named;
  bound = λ r. each_change (λ (p : Peer whole). ConnNamed x.outcomes p.incarnations.address p.control.conn) (is_peer a) g n.peers (λ p e k. linked_named x.outcomes g s p k)
      (bound_later w.outcomes x.outcomes later.told n.peers (h.bound (read_before (only u) w.connections x.connections later.conns r)));
  sent = λ y. by_test (same_address a y)
      (λ e. subst (λ (z : Address). SentFacts n.me x.outcomes (view_at z (record n { peers = change_first (is_peer a) g n.peers }))) (address_is a y e) new)
      (λ e. subst (SentFacts n.me x.outcomes) (sym (other_view y a g s n e))
      (sent_later n.me w.outcomes x.outcomes (view_at y n) (λ z. t.other (incarnation (view_at y n).incarnations.address z)
      (not_same (incarnation (view_at y n).incarnations.address z) (incarnation a uid) (ap (λ (q : Address). same_address q a) (view_address y n) ∙ apart_turned a y e))) (h.sent y)));
}

-- a node that told messages as sent, and the peer of which they are
pub told_kept : (u : ℕ) (a : Address) (uid : ℕ) (g : Peer whole → Peer whole) → IsLinked g → (n : Node whole) (w x : Network) (done : List SysMsg) → Telling u n.me (incarnation a uid) done w x
    → (x.ended ≡ None → Told n.me (incarnation a uid) done w x → NodeFacts u n w → SentFacts n.me x.outcomes (view_at a (record n { peers = change_first (is_peer a) g n.peers }))) → Good u n w
    → Kept u n w (record n { peers = change_first (is_peer a) g n.peers }) x
told_kept u a uid g s n w x done t new h = record {
  good = record {
    out = t.out;
    node = λ live. (let f : NodeFacts u n w = h.node (t.later.going live) in told_facts u a uid g s n w x done t.later (t.going live) (new live (t.going live) f) f);
  };
  later = t.later;
  bytes = λ k. refl;
}

-- a peer changes, and the messages to it with it
pub linked_kept : (u : ℕ) (a : Address) (g : Peer whole → Peer whole) → IsLinked g → (n : Node whole) (w : Network)
    → (w.ended ≡ None → (p : Peer whole) → find (is_peer a) n.peers ≡ Some p → SentFacts n.me w.outcomes (view p) → SentFacts n.me w.outcomes (view (g p))) → Good u n w → Kept u n w (record n { peers = change_first (is_peer a) g n.peers }) w
linked_kept u a g s n w f h = kept_node u n (record n { peers = change_first (is_peer a) g n.peers }) w h (λ j. refl)
    (λ live k. peers_facts u n w a g s.address (λ p e q. linked_facts u w.connections g s p q) (λ r p e q. linked_named w.outcomes g s p q) (λ p e q. f live p e q) k)

-- what is read at an address where a change leaves what is known there
pub same_peer_view : (y a : Address) (g : Peer whole → Peer whole) → IsSamePeer g → (n : Node whole) → view_at y (record n { peers = change_first (is_peer a) g n.peers }) ≡ view_at y n
same_peer_view y a g s n = view_change y a g (same_address_of g s) (λ x. x ≡ view_at y n) n.peers refl (λ p e t k. same_view g s p ∙ k)

-- the peer that is found is the one that is read
pub found_view : (a : Address) (n : Node whole) (p : Peer whole) → find (is_peer a) n.peers ≡ Some p → view_at a n ≡ view p
found_view a n p e = ap (λ (o : Option (Peer whole)). view (or_else (new_peer a) o)) e

pub found_now : (a : Address) (g : Peer whole → Peer whole) → IsLinked g → (n : Node whole) (p : Peer whole) → find (is_peer a) n.peers ≡ Some p → view_at a (record n { peers = change_first (is_peer a) g n.peers }) ≡ view (g p)
found_now a g s n p e = ap (λ (o : Option (Peer whole)). view (or_else (new_peer a) o)) (find_change (is_peer a) g (λ q t. ap (λ (y : Address). same_address y a) (s.address q) ∙ t) n.peers p e)
