-- Each event keeps the facts of a network.
use Rattle.std.proofs.Common.{◌≡◌, ℕ, ◌≤◌, false, List, [], sym, ◌∙◌, ap, arith}
use Rattle.std.specs.Prelude.{None, Some, ◌==◌}
use Rattle.std.specs.List.{list_any}
use Rattle.artery_base.specs.declared.address.UniqueAddress.{UniqueAddress}
use Rattle.artery_machine.specs.Parts.{whole}
use Rattle.artery_machine.specs.Ways.{whole_ways}
use Rattle.artery_machine.specs.Connections.{is_dialed}
use Rattle.artery_machine.specs.Node.{Node, incarnation}
use Rattle.artery_machine.specs.World.{Live, Change, has_uid, is_pending, was_started}
use Rattle.artery_flight.proofs.Lists.{Each, each_weaker, count}
use Rattle.artery_base.specs.Words.{IsPrefix}
use Rattle.artery_flight.proofs.Lines.{sent_in, named_more, name_in}
use Rattle.artery_flight.proofs.Peers.{view_at, sent_later}
use Rattle.artery_flight.proofs.Facts.{LineFacts, bound_later, AllRead, read_before, Stay, inbound_later, Network, ConnFacts, is_far, Out, IsFresh, NodeFacts, Grow, grow_count, dialed_same, far_same, peer_later}
use Rattle.artery_flight.proofs.Deeds.{nobody, grow_out}
use Rattle.artery_flight.proofs.Rules.{bytes_at}
use Rattle.artery_flight.proofs.Feeding.{Rest, nothing_left, IsHeard, heard_later, heard_left}

-- ---- what holds of a network

pub record LiveFacts (r : Rest) (w : Network) (l : Live whole) : Type 0 where
  pub node : NodeFacts l.node.me.uid l.node w
  pub accepted : l.accepted ≡ count (is_far l.node.me.uid) w.connections
  pub heard : AllRead w.connections → (k : ℕ) (bytes : List ℕ) → bytes_at k l.node ≡ Some bytes → IsHeard l.node.me.uid k bytes (r l.node.me.uid k) w.connections

-- nothing bears a UID yet
pub record Unstarted (u : ℕ) (w : Network) : Type 0 where
  pub fresh : (d : ℕ) → IsFresh u d w
  pub far : count (is_far u) w.connections ≡ 0
  pub live : count (has_uid u) w.live ≡ 0
  pub unnamed : name_in u w.outcomes ≡ None
  pub silent : (x y : UniqueAddress) → x.uid ≡ u → sent_in x y w.outcomes ≡ []

-- what holds until the network has ended
pub record Going (r : Rest) (w : Network) : Type 0 where
  pub live : Each (LiveFacts r w) w.live
  pub alone : (u : ℕ) → count (has_uid u) w.live ≤ 1
  pub unstarted : (u : ℕ) → was_started u w ≡ false → Unstarted u w

-- what holds where some bytes that were delivered are still to be given
pub record HoldsBut (r : Rest) (w : Network) : Type 0 where
  pub out : Out w
  pub going : w.ended ≡ None → Going r w

abbrev pub Holds : Network → Type 0
Holds w = HoldsBut nothing_left w

abbrev pub Safe : Change whole whole_ways → Type 0
Safe change = (w : Network) → Holds w → Holds (change w)

-- where as much is left to be given
pub holds_same : (r s : Rest) (w : Network) → ((u k : ℕ) → r u k ≡ s u k) → HoldsBut r w → HoldsBut s w
holds_same r s w e h = record {
  out = h.out;
  going = λ live. (let g : Going r w = h.going live in record {
    live = each_weaker (LiveFacts r w) (LiveFacts s w) (λ l f. record {
      node = f.node;
      accepted = f.accepted;
      heard = λ a k bytes b. heard_left l.node.me.uid k bytes (r l.node.me.uid k) (s l.node.me.uid k) w.connections (e l.node.me.uid k) (f.heard a k bytes b);
    }) w.live g.live;
    alone = g.alone;
    unstarted = g.unstarted;
  });
}

-- ---- changes where nobody dials or writes

pub record Less (w v : Network) : Type 1 where
  pub conns : Grow nobody w.connections v.connections
  pub still : Stay w.connections v.connections
  pub facts : Each (ConnFacts v.connections) v.connections
  pub told : IsPrefix w.outcomes v.outcomes
  pub sent : (x y : UniqueAddress) → sent_in x y v.outcomes ≡ sent_in x y w.outcomes
  pub unnamed : (x : ℕ) → name_in x w.outcomes ≡ None → name_in x v.outcomes ≡ None
  pub lines : LineFacts v.connections v.outcomes
  pub pending : (u d : ℕ) → count (is_pending u d) v.pending ≤ count (is_pending u d) w.pending
  pub live : (P : Live whole → Type 0) → Each P w.live → Each P v.live
  pub uids : (u : ℕ) → count (has_uid u) v.live ≤ count (has_uid u) w.live
  pub started : v.started ≡ w.started
  pub ended : v.ended ≡ None → w.ended ≡ None

pub fresh_less : (w v : Network) → Less w v → (u d : ℕ) → IsFresh u d w → IsFresh u d v
fresh_less w v l u d f = record {
  pending = (let a : count (is_pending u d) v.pending ≤ count (is_pending u d) w.pending = l.pending u d in let b : count (is_pending u d) w.pending ≡ 0 = f.pending in omega arith);
  made = grow_count nobody (is_dialed u d) (dialed_same nobody u d) w.connections v.connections l.conns ∙ f.made;
}

pub node_less : (w v : Network) → Less w v → (u : ℕ) (n : Node whole) → NodeFacts u n w → NodeFacts u n v
node_less w v l u n h = record {
  me = h.me;
  fresh = λ d b. fresh_less w v l u d (h.fresh d b);
  alone = h.alone;
  peers = each_weaker _ _ (λ q k. peer_later nobody u w.connections v.connections l.conns q k) n.peers h.peers;
  inbound = each_weaker _ _ (λ i k. inbound_later nobody u w.connections v.connections l.conns i k) n.inbound h.inbound;
  named = named_more n.me w.outcomes v.outcomes l.told h.named;
  bound = λ a. bound_later w.outcomes v.outcomes l.told n.peers (h.bound (read_before nobody w.connections v.connections l.conns a));
  sent = λ a. sent_later n.me w.outcomes v.outcomes (view_at a n) (λ uid. l.sent n.me (incarnation (view_at a n).incarnations.address uid)) (h.sent a);
}

pub holds_less : (w v : Network) → Less w v → Holds w → Holds v
holds_less w v l h = record {
  out = grow_out nobody w v l.conns l.pending l.facts l.lines h.out;
  going = λ e. (let g : Going nothing_left w = h.going (l.ended e) in record {
    live = each_weaker (LiveFacts nothing_left w) (LiveFacts nothing_left v) (λ x k. record {
      node = node_less w v l x.node.me.uid x.node k.node;
      accepted = k.accepted ∙ sym (grow_count nobody (is_far x.node.me.uid) (far_same nobody x.node.me.uid) w.connections v.connections l.conns);
      heard = λ a j bytes b. heard_later nobody w.connections v.connections l.conns l.still h.out.conns x.node.me.uid j bytes [] (k.heard (read_before nobody w.connections v.connections l.conns a) j bytes b);
    }) v.live (l.live (LiveFacts nothing_left w) g.live);
    alone = λ u. (let a : count (has_uid u) v.live ≤ count (has_uid u) w.live = l.uids u in let b : count (has_uid u) w.live ≤ 1 = g.alone u in omega arith);
    unstarted = λ u s. (let k : Unstarted u w = g.unstarted u (ap (λ us. list_any (λ other. other == u) us) (sym l.started) ∙ s) in record {
      fresh = λ d. fresh_less w v l u d (k.fresh d);
      far = grow_count nobody (is_far u) (far_same nobody u) w.connections v.connections l.conns ∙ k.far;
      live = (let a : count (has_uid u) v.live ≤ count (has_uid u) w.live = l.uids u in let b : count (has_uid u) w.live ≡ 0 = k.live in omega arith);
      unnamed = l.unnamed u k.unnamed;
      silent = λ x y e. l.sent x y ∙ k.silent x y e;
    });
  });
}
