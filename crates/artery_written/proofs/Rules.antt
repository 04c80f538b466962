-- Small rules of a node: each keeps what holds of its values, and what it writes is sound.
use Rattle.std.proofs.Common.{◌≡◌, ℕ, zero, suc, ◌+◌, ◌<◌, ◌≤◌, ◌^◌, Bool, true, false, cond, List, [], ◌∷◌, ◌++◌, length, refl, sym, ◌∙◌, ap, subst, arith}
use Rattle.std.specs.Prelude.{Option, None, Some, ◌==◌, ◌||◌, nat_lt}
use Rattle.std.specs.List.{find}
use Rattle.std.proofs.lemmas.Bool.Decides.{nat_tests}
use Rattle.artery_base.specs.declared.address.Address.{Address}
use Rattle.artery_base.specs.declared.address.UniqueAddress.{UniqueAddress}
use Rattle.artery_base.specs.Valid.{IsAddress, IsUniqueAddress}
use Rattle.artery_control.specs.declared.control.Control.{Control}
use Rattle.artery_control.specs.declared.control.Control.TheVariants as controls
use Rattle.artery_control.specs.Valid.{IsOptional}
use Rattle.artery_frame.specs.declared.stream.Stream.{Stream}
use Rattle.artery_frame.specs.declared.stream.Stream.TheVariants as streams
use Rattle.artery_handshake.specs.declared.out_conn.OutConn.{OutConn}
use Rattle.artery_journal.specs.declared.line.Line.{Line}
use Rattle.artery_journal.specs.declared.line.Line.TheVariants as lines
use Rattle.artery_journal.specs.declared.words.Reason.TheVariants as reasons
use Rattle.artery_machine.specs.declared.input.Conn.TheVariants.{Outward}
use Rattle.artery_machine.specs.declared.link.Link.{Link}
use Rattle.artery_machine.specs.Lists.{or_else, change_first}
use Rattle.artery_machine.specs.Deeds.{Writing, Controls, Deed, Dials, Writes, Hangs, Tells}
use Rattle.artery_machine.specs.Parts.{whole}
use Rattle.artery_machine.specs.Node.{Node, Peer, Inbound, Origin, is_peer, is_number, is_origin, has_peer, peer_at, origin_at, new_peer, new_origin, conn_of, link_of, with_link, current_of, incarnation}
use Rattle.artery_machine.specs.Doing.{Doing, Rule, listed, ◌▸◌, stays, where_true, does, becomes, tells_of, writes_on, hangs_up, peer_becomes, inbound_becomes, origin_becomes, each, times}
use Rattle.artery_machine.specs.Making.{dialing, link_dialing, link_gone, link_lost, may_have, one_more_dial, with_peer_at, used_now, dials_as, dials, makes_missing, wakes, uses, at_request, loses, last_dial}
use Rattle.artery_machine.specs.Closing.{control_dial, on_control, on_control_to, quarantines, dial_of}
use Rattle.artery_machine.specs.Handshaking.{change_conn}
use Rattle.artery_flight.proofs.Lists.{by_test, on_cond, not_some, Each, each_push, each_find, each_change}
use Rattle.artery_written.proofs.Facts.{ControlFacts, WritingFacts, DeedFacts, OutFacts, ConnFacts, PeerFacts, KnownFacts, OwedFacts, InboundFacts, AnnouncedFacts, OriginFacts, NodeFacts, Work, WorkFacts}
use Rattle.artery_written.proofs.Sizes.{quarantined_good}

-- a rule keeps what holds
pub record Keeps (r : Rule whole listed) : Type 0 where
  pub on : (d : Work) → WorkFacts d → WorkFacts (r d)

infixr 35 ◌▹◌
pub ◌▹◌ : {r s : Rule whole listed} → Keeps r → Keeps s → Keeps (r ▸ s)
◌▹◌ {r} {s} a b = record { on = λ d f. b.on (r d) (a.on d f) }

-- a rule that depends on the work at hand
pub by_work : {r : Rule whole listed} (s : Work → Rule whole listed) → ((d : Work) → r d ≡ s d d) → ((d : Work) → WorkFacts d → Keeps (s d)) → Keeps r
by_work s e k = record { on = λ d f. subst WorkFacts (sym (e d)) ((k d f).on d f) }

pub stays_keep : Keeps stays
stays_keep = record { on = λ d f. f }

pub does_keep : (deed : Deed) → DeedFacts deed → Keeps (does deed)
does_keep deed k = record { on = λ d f. record { node = f.node; deeds = each_push DeedFacts d.deeds deed f.deeds k } }

pub tells_keep : (line : UniqueAddress → Line) → Keeps (tells_of line)
tells_keep line = record { on = λ d f. (does_keep (Tells (line d.node.me)) tt).on d f }

pub hangs_keep : (x : Option ℕ) → Keeps (hangs_up x)
hangs_keep None = stays_keep
hangs_keep (Some dial) = does_keep (Hangs (Outward dial)) tt

pub writes_keep : (x : Option ℕ) (w : Writing) → WritingFacts w → Keeps (writes_on x w)
writes_keep None w k = record { on = λ d f. f }
writes_keep (Some dial) w k = record { on = λ d f. (does_keep (Writes dial w) k).on d f }

pub becomes_keep : (g : Node whole → Node whole) → ((n : Node whole) → NodeFacts n → NodeFacts (g n)) → Keeps (becomes g)
becomes_keep g k = record { on = λ d f. record { node = k d.node f.node; deeds = f.deeds } }

pub peer_keep : (a : Address) (g : Peer whole → Peer whole) → ((p : Peer whole) → PeerFacts p → PeerFacts (g p)) → Keeps (peer_becomes a g)
peer_keep a g k = becomes_keep (λ n. record n { peers = change_first (is_peer a) g n.peers })
    (λ n f. record { me = f.me; dials = f.dials; peers = each_change PeerFacts (is_peer a) g n.peers (λ p e q. k p q) f.peers; inbound = f.inbound; origins = f.origins; taken = f.taken; actors = f.actors })

pub inbound_keep : (number : ℕ) (g : Inbound whole → Inbound whole) → ((i : Inbound whole) → InboundFacts i → InboundFacts (g i)) → Keeps (inbound_becomes number g)
inbound_keep number g k = becomes_keep (λ n. record n { inbound = change_first (is_number number) g n.inbound })
    (λ n f. record { me = f.me; dials = f.dials; peers = f.peers; inbound = each_change InboundFacts (is_number number) g n.inbound (λ i e q. k i q) f.inbound; origins = f.origins; taken = f.taken; actors = f.actors })

pub origin_keep : (v : UniqueAddress) (g : Origin whole → Origin whole) → ((o : Origin whole) → OriginFacts o → OriginFacts (g o)) → Keeps (origin_becomes v g)
origin_keep v g k = becomes_keep (λ n. record n { origins = change_first (is_origin v) g n.origins })
    (λ n f. record { me = f.me; dials = f.dials; peers = f.peers; inbound = f.inbound; origins = each_change OriginFacts (is_origin v) g n.origins (λ o e q. k o q) f.origins; taken = f.taken; actors = f.actors })

pub if_keeps : (b : Bool) (r s : Rule whole listed) → Keeps r → Keeps s → Keeps (cond b r s)
if_keeps true r s x y = x
if_keeps false r s x y = y

pub where_keeps : (b : Bool) (r : Rule whole listed) → Keeps r → Keeps (where_true b r)
where_keeps true r x = x
where_keeps false r x = stays_keep

pub each_keeps : {X : Type 0} (P : X → Type 0) (xs : List X) (r : X → Rule whole listed) → Each P xs → ((x : X) → P x → Keeps (r x)) → Keeps (each xs r)
each_keeps P [] r h a = stays_keep
each_keeps P (x ∷ xs) r h a = a x h.0 ▹ each_keeps P xs r h.1 a

pub times_keep : (k : ℕ) (r : Rule whole listed) → Keeps r → Keeps (times k r)
times_keep zero r a = stays_keep
times_keep (suc k) r a = a ▹ times_keep k r a

-- ---- what is read of a node

pub nothing_out : OutFacts whole.nothing_sent
nothing_out = record { sent = tt; waiting = tt; many = omega arith; few = omega arith }

pub new_facts : (a : Address) → IsAddress a → PeerFacts (new_peer a)
new_facts a h = record { address = h; current = tt; out = nothing_out; held = tt; refs = tt; manifests = tt; control = tt; ordinary = tt }

pub peer_facts : (a : Address) (n : Node whole) → IsAddress a → NodeFacts n → PeerFacts (peer_at a n)
peer_facts a n h f = by (find (is_peer a) n.peers) refl
  where
    by : (x : Option (Peer whole)) → find (is_peer a) n.peers ≡ x → PeerFacts (or_else (new_peer a) x)
    by None e = new_facts a h
    by (Some p) e = each_find PeerFacts (is_peer a) n.peers p f.peers e

pub nothing_announced : AnnouncedFacts whole.nothing_announced
nothing_announced = record { uses = tt; tables = tt; announced = omega arith; numbers = omega arith }

pub new_origin_facts : (now : ℕ) (v : UniqueAddress) → IsUniqueAddress v → OriginFacts (new_origin now v)
new_origin_facts now v h = record { who = h; refs = nothing_announced; manifests = nothing_announced }

pub origin_facts : (v : UniqueAddress) (n : Node whole) → IsUniqueAddress v → NodeFacts n → OriginFacts (origin_at v n)
origin_facts v n h f = by (find (is_origin v) n.origins) refl
  where
    by : (x : Option (Origin whole)) → find (is_origin v) n.origins ≡ x → OriginFacts (or_else (new_origin n.moment v) x)
    by None e = new_origin_facts n.moment v h
    by (Some o) e = each_find OriginFacts (is_origin v) n.origins o f.origins e

pub conn_facts : (stream : Stream) (p : Peer whole) → PeerFacts p → ConnFacts (conn_of stream p)
conn_facts streams.Control p f = f.control
conn_facts streams.Ordinary p f = f.ordinary

-- a change that leaves all that the facts speak of
pub record IsSamePeer (g : Peer whole → Peer whole) : Type 0 where
  pub same : (p : Peer whole) → PeerFacts p → PeerFacts (g p)

pub link_keeps : (stream : Stream) (a : Address) (g : Link → Link) → ((l : Link) → ConnFacts l.conn → ConnFacts (g l).conn) → Keeps (peer_becomes a (with_link stream g))
link_keeps stream a g k = peer_keep a (with_link stream g) (by stream)
  where
    by : (s : Stream) (p : Peer whole) → PeerFacts p → PeerFacts (with_link s g p)
    by streams.Control p f = record { address = f.address; current = f.current; out = f.out; held = f.held; refs = f.refs; manifests = f.manifests; control = k p.control f.control; ordinary = f.ordinary }
    by streams.Ordinary p f = record { address = f.address; current = f.current; out = f.out; held = f.held; refs = f.refs; manifests = f.manifests; control = f.control; ordinary = k p.ordinary f.ordinary }

pub changed_keeps : (stream : Stream) (a : Address) (g : OutConn → OutConn) → ((c : OutConn) → (g c).dial ≡ c.dial) → Keeps (peer_becomes a (with_link stream (change_conn g)))
changed_keeps stream a g same = link_keeps stream a (change_conn g) (λ l h. by l.conn h)
  where
    by : (x : Option OutConn) → ConnFacts x → ConnFacts (change_conn g (record { conn = x; redial = 0 })).conn
    by None k = tt
    by (Some c) k = subst (λ (x : ℕ). x < 2 ^ 64) (sym (same c)) k

pub gone_keeps : (stream : Stream) (a : Address) → Keeps (peer_becomes a (with_link stream link_gone))
gone_keeps stream a = link_keeps stream a link_gone (λ l h. tt)

pub loses_keeps : (stream : Stream) (a : Address) → Keeps (loses stream a)
loses_keeps stream a = record { on = λ d f. (link_keeps stream a (link_lost d.node.moment) (λ l h. tt)).on d f }

-- ---- control messages

pub control_keeps : (v : UniqueAddress) (c : Control) → ControlFacts c → Keeps (on_control v c)
control_keeps v c k = record { on = λ d f. (writes_keep (control_dial v d.node) (Controls c) k).on d f }

pub control_to_keeps : (a : Address) (x : Option ℕ) (c : Control) → ControlFacts c → Keeps (on_control_to a x c)
control_to_keeps a None c k = stays_keep
control_to_keeps a (Some uid) c k = control_keeps (incarnation a uid) c k

pub quarantines_keeps : (v : UniqueAddress) → IsUniqueAddress v → Keeps (quarantines v)
quarantines_keeps v h = record { on = λ d f. (control_keeps v (controls.Quarantined d.node.me v) (quarantined_good d.node.me v f.node.me h)).on d f }

-- ---- peers and dials

dials_as_keep : (stream : Stream) (a : Address) (x : ℕ) (d : Work) → x < 2 ^ 64 → d.node.dials + 1 < 2 ^ 64 → WorkFacts d → WorkFacts (dials_as stream a x d)
dials_as_keep stream a x d small more f =
    let n : Node whole = one_more_dial d.node in
    let k : WorkFacts (record { node = one_more_dial d.node; deeds = d.deeds }) = record {
      node = record { me = f.node.me; dials = more; peers = f.node.peers; inbound = f.node.inbound; origins = f.node.origins; taken = f.node.taken; actors = f.node.actors };
      deeds = f.deeds;
    } in
    (link_keeps stream a (link_dialing stream x) (λ l h. small) ▹ does_keep (Dials x a) tt).on (record { node = one_more_dial d.node; deeds = d.deeds }) k

below_last : (n : ℕ) → nat_lt n last_dial ≡ true → n + 1 < 2 ^ 64
below_last n h = grind (arith, nat_tests)

pub dials_keep : (stream : Stream) (a : Address) → Keeps (dials stream a)
dials_keep stream a = record {
  on = λ d f. on_cond (λ (r : Rule whole listed). WorkFacts (r d)) (nat_lt d.node.dials last_dial) (dials_as stream a (d.node.dials + 1)) stays
      (λ b. dials_as_keep stream a (d.node.dials + 1) d (below_last d.node.dials b) (below_last d.node.dials b) f) (λ b. f);
}

with_peer_keeps : (a : Address) → IsAddress a → Keeps (becomes (with_peer_at a))
with_peer_keeps a h = becomes_keep (with_peer_at a)
    (λ n f. record { me = f.me; dials = f.dials; peers = each_push PeerFacts n.peers (new_peer a) f.peers (new_facts a h); inbound = f.inbound; origins = f.origins; taken = f.taken; actors = f.actors })

pub makes_missing_keeps : (a : Address) → IsAddress a → Keeps (makes_missing a)
makes_missing_keeps a h = record { on = λ d f. (if_keeps (has_peer a d.node) stays (becomes (with_peer_at a) ▸ dials streams.Control a) stays_keep (with_peer_keeps a h ▹ dials_keep streams.Control a)).on d f }

wakes_keep : (b : Bool) (a : Address) → Keeps (wakes b a)
wakes_keep true a = dials_keep streams.Control a
wakes_keep false a = stays_keep

pub uses_keep : (a : Address) → Keeps (uses a)
uses_keep a = record {
  on = λ d f. (peer_keep a (used_now d.node.moment) (λ p q. record { address = q.address; current = q.current; out = q.out; held = q.held; refs = q.refs; manifests = q.manifests; control = q.control; ordinary = q.ordinary })
      ▹ wakes_keep (peer_at a d.node).asleep a).on d f;
}

pub at_request_keeps : (a : Address) (r : Rule whole listed) → IsAddress a → Keeps r → Keeps (at_request a r)
at_request_keeps a r h k = record {
  on = λ d f. (if_keeps (may_have a d.node) (makes_missing a ▸ uses a ▸ r) (tells_of (λ me. lines.Refused me reasons.Peers)) (makes_missing_keeps a h ▹ uses_keep a ▹ k) (tells_keep (λ me. lines.Refused me reasons.Peers))).on d f;
}
