-- The rules of the handshake.
use Rattle.std.proofs.Common.{◌≡◌, ℕ, ◌+◌, ◌<◌, ◌≤◌, ◌^◌, Bool, true, false, cond, List, [], ◌∷◌, ◌++◌, length, refl, sym, ap, subst, arith}
use Rattle.std.specs.Prelude.{Option, None, Some, ◌==◌, ◌||◌, ◌&&◌, not, is_some, unwrap_or}
use Rattle.std.specs.List.{find}
use Rattle.artery_base.specs.declared.address.Address.{Address}
use Rattle.artery_base.specs.declared.address.UniqueAddress.{UniqueAddress}
use Rattle.artery_base.specs.declared.message.SysMsg.{SysMsg}
use Rattle.artery_base.specs.Valid.{IsAddress, IsUniqueAddress}
use Rattle.artery_assoc.specs.Peer.{PeerState, is_closed, is_current, is_full, learning, peer_after_learn, peer_learnt}
use Rattle.artery_assoc.specs.declared.peer.Learn.{Learn}
use Rattle.artery_assoc.specs.declared.peer.Learn.TheVariants.{Learnt, Same, WasClosed, ClosedFull}
use Rattle.artery_control.specs.declared.control.Control.TheVariants as controls
use Rattle.artery_control.specs.Valid.{IsOptional}
use Rattle.artery_delivery.specs.declared.inbound.Opened.{Opened}
use Rattle.artery_delivery.specs.declared.inbound.Opened.TheVariants.{Opened as NewlyOpened, Known as KnownOrigin, OriginsFull}
use Rattle.artery_delivery.specs.Inbound.{same_origin, answer_to_open, lists_after, messages_from, taken_of}
use Rattle.artery_frame.specs.declared.stream.Stream.{Stream}
use Rattle.artery_frame.specs.declared.stream.Stream.TheVariants as streams
use Rattle.artery_handshake.specs.declared.in_conn.InState.{InState}
use Rattle.artery_handshake.specs.declared.in_conn.InState.TheVariants.{Raw, Known}
use Rattle.artery_handshake.specs.Incoming.{state_after_req}
use Rattle.artery_handshake.specs.declared.out_conn.OutConn.{OutConn}
use Rattle.artery_handshake.specs.declared.out_conn.OnRsp.{OnRsp}
use Rattle.artery_handshake.specs.declared.out_conn.OnRsp.TheVariants.{Bind, Repeat, Stray}
use Rattle.artery_handshake.specs.Outgoing.{conn_dialed, conn_answered}
use Rattle.artery_journal.specs.declared.line.Line.TheVariants as lines
use Rattle.artery_journal.specs.declared.rule.Rule.{Rule as DropRule}
use Rattle.artery_journal.specs.declared.words.Cause.TheVariants as causes
use Rattle.artery_journal.specs.declared.words.Reason.TheVariants as reasons
use Rattle.artery_machine.specs.declared.input.Conn.TheVariants.{Outward}
use Rattle.artery_machine.specs.declared.link.Answer.{Answer}
use Rattle.artery_machine.specs.Deeds.{Begins, Controls, Writes, Hangs}
use Rattle.artery_machine.specs.Parts.{whole}
use Rattle.artery_machine.specs.Node.{Node, Peer, Inbound, same_address, address_of, conn_of, link_of, with_link, peer_at, peer_dialed, stream_dialed, dial_asked, dialed_as, has_dial, has_origin, origin_at, new_origin}
use Rattle.artery_machine.specs.Doing.{Rule, listed, ◌▸◌, stays, where_true, does, becomes, tells_of, writes_on, peer_becomes, inbound_becomes, each}
use Rattle.artery_machine.specs.Making.{dials}
use Rattle.artery_machine.specs.Closing.{dial_of}
use Rattle.artery_machine.specs.Handshaking.{answer_to, response, change_conn, waits_for_dial, is_met, quiet_now, owes_no_answer, request_rule, with_origin, known_as, owing, with_learnt, owes_no_ack, ordinary_dial, answer_at, asks_on, writes_answer, answers_owed, answers_all, answers_after, begins, dialed_of, dialed, lost_of, lost, gives_up, makes_origin, answers_on, answers, is_asked, drops, drops_or, requested, tells_all_sent, tells_waiting, writes_owed_ack, dials_ordinary, goes_on, learns_new, learns_as, learns, strays, binds_ordinary, binds, answered_as, takes_answer, answered_by, answered_to, strays_unless, then_ordinary, answered_plainly, answered}
use Rattle.artery_flight.proofs.Lists.{by_test, on_cond, not_both, eq_true, find_passes, Each, each_push, each_find}
use Rattle.artery_written.proofs.Facts.{ConnFacts, PeerFacts, KnownFacts, OwedFacts, InboundFacts, OriginFacts, TakenFacts, NodeFacts, Work, WorkFacts}
use Rattle.artery_written.proofs.Sizes.{request_good, response_good, ack_good}
use Rattle.artery_written.proofs.Rules.{Keeps, ◌▹◌, stays_keep, does_keep, tells_keep, hangs_keep, writes_keep, becomes_keep, peer_keep, inbound_keep, origin_keep, if_keeps, where_keeps, each_keeps, peer_facts, new_origin_facts, changed_keeps, loses_keeps, control_keeps, dials_keep, makes_missing_keeps, uses_keep}
use Rattle.artery_written.proofs.Sending.{closes_current_keeps, learnt_facts, pumps_keep, rewinds_keep, tells_sent_keeps, tells_held_keeps}

-- ---- dials

has_small : (dial : ℕ) (c : Option OutConn) → ConnFacts c → has_dial dial c ≡ true → dial < 2 ^ 64
has_small dial None k e = not_both e refl
has_small dial (Some c) k e = subst (λ (x : ℕ). x < 2 ^ 64) (eq_true c.dial dial e) k

dial_small : (dial : ℕ) (p : Peer whole) → PeerFacts p → dialed_as dial p ≡ true → dial < 2 ^ 64
dial_small dial p f e = by (has_dial dial p.control.conn) refl e
  where
    by : (b : Bool) → has_dial dial p.control.conn ≡ b → (b || has_dial dial p.ordinary.conn) ≡ true → dial < 2 ^ 64
    by true g k = has_small dial p.control.conn f.control g
    by false g k = has_small dial p.ordinary.conn f.ordinary k

pub asks_on_keeps : (a : Address) (dial : ℕ) → IsAddress a → dial < 2 ^ 64 → Keeps (asks_on a dial)
asks_on_keeps a dial h small = record { on = λ d f. (writes_keep (Some dial) (Controls (controls.HandshakeReq d.node.me a (Some dial))) (request_good d.node.me a dial f.node.me h small)).on d f }

writes_answer_keeps : (dial : ℕ) (x : Option Answer) → OwedFacts x → Keeps (writes_answer dial x)
writes_answer_keeps dial None k = record { on = λ d f. f }
writes_answer_keeps dial (Some answer) k = record {
  on = λ d f. (writes_keep (Some dial) (Controls (response d.node.me answer)) (response_good d.node.me answer.for_uid answer.nonce f.node.me k.0 k.1)).on d f;
}

no_answer_keeps : (number : ℕ) → Keeps (inbound_becomes number owes_no_answer)
no_answer_keeps number = inbound_keep number owes_no_answer (λ i q. record { known = q.known; owed = tt })

answers_owed_keep : (a : Address) (dial : ℕ) (i : Inbound whole) (s : InState) → InboundFacts i → Keeps (answers_owed a dial i s)
answers_owed_keep a dial i Raw k = stays_keep
answers_owed_keep a dial i (Known who its_nonce) k = where_keeps (same_address who.address a) (inbound_becomes i.number owes_no_answer ▸ writes_answer dial i.owed) (no_answer_keeps i.number ▹ writes_answer_keeps dial i.owed k.owed)

answers_all_keep : (a : Address) (dial : ℕ) → Keeps (answers_all a dial)
answers_all_keep a dial = record { on = λ d f. (each_keeps InboundFacts d.node.inbound (λ i. answers_owed a dial i i.state) f.node.inbound (λ i k. answers_owed_keep a dial i i.state k)).on d f }

answers_after_keep : (stream : Stream) (a : Address) (dial : ℕ) → Keeps (answers_after stream a dial)
answers_after_keep streams.Control a dial = answers_all_keep a dial
answers_after_keep streams.Ordinary a dial = stays_keep

begins_keep : (stream : Stream) (a : Address) (dial : ℕ) → IsAddress a → dial < 2 ^ 64 → Keeps (begins stream a dial)
begins_keep stream a dial h small = record {
  on = λ d f. (changed_keeps stream a (conn_dialed d.node.moment) (λ c. refl) ▹ does_keep (Writes dial (Begins stream)) tt ▹ asks_on_keeps a dial h small ▹ answers_after_keep stream a dial).on d f;
}

pub dialed_keeps : (dial : ℕ) → Keeps (dialed dial)
dialed_keeps dial = record { on = λ d f. (by d f (peer_dialed dial d.node) refl).on d f }
  where
    by : (d : Work) → WorkFacts d → (x : Option (Peer whole)) → peer_dialed dial d.node ≡ x → Keeps (dialed_of dial x)
    by d f None e = does_keep (Hangs (Outward dial)) tt
    by d f (Some p) e =
        let g : PeerFacts p = each_find PeerFacts (dialed_as dial) d.node.peers p f.node.peers e in
        if_keeps (waits_for_dial (conn_of (stream_dialed dial p) p)) (begins (stream_dialed dial p) (address_of p) dial) (does (Hangs (Outward dial)))
        (begins_keep (stream_dialed dial p) (address_of p) dial g.address (dial_small dial p g (find_passes (dialed_as dial) d.node.peers p e))) (does_keep (Hangs (Outward dial)) tt)

lost_of_keeps : (dial : ℕ) (x : Option (Peer whole)) → Keeps (lost_of dial x)
lost_of_keeps dial None = stays_keep
lost_of_keeps dial (Some p) = loses_keeps (stream_dialed dial p) (address_of p)

pub lost_keeps : (dial : ℕ) → Keeps (lost dial)
lost_keeps dial = record { on = λ d f. (lost_of_keeps dial (peer_dialed dial d.node)).on d f }

pub gives_up_keeps : (stream : Stream) (a : Address) → Keeps (gives_up stream a)
gives_up_keeps stream a = record { on = λ d f. (hangs_keep (dial_of (conn_of stream (peer_at a d.node))) ▹ loses_keeps stream a).on d f }

-- ---- requests

opened_facts : (x : Opened) (v : UniqueAddress) (all : List (UniqueAddress × List SysMsg)) → Each TakenFacts all → Each TakenFacts (lists_after x v all)
opened_facts NewlyOpened v all h = each_push TakenFacts all (v, []) h (let e : 0 < 2 ^ 64 = omega arith in e)
opened_facts KnownOrigin v all h = h
opened_facts OriginsFull v all h = h

makes_origin_keeps : (v : UniqueAddress) → IsUniqueAddress v → Keeps (makes_origin v)
makes_origin_keeps v h = record { on = λ d f. (where_keeps (not (has_origin v d.node)) (becomes (with_origin v)) made).on d f }
  where
    made : Keeps (becomes (with_origin v))
    made = becomes_keep (with_origin v) (λ n f. record {
      me = f.me;
      dials = f.dials;
      peers = f.peers;
      inbound = f.inbound;
      origins = each_push OriginFacts n.origins (new_origin n.moment v) f.origins (new_origin_facts n.moment v h);
      taken = opened_facts (answer_to_open v n.taken) v n.taken f.taken;
      actors = f.actors;
    })

answer_facts : (v : UniqueAddress) (its_nonce : Option ℕ) → IsUniqueAddress v → IsOptional its_nonce → OwedFacts (Some (answer_to v its_nonce))
answer_facts v None h k = (tt, tt)
answer_facts v (Some n) h k = (h.uid, k)

answers_on_keep : (number : ℕ) (answer : Answer) (x : Option ℕ) → OwedFacts (Some answer) → Keeps (answers_on number answer x)
answers_on_keep number answer None k = inbound_keep number (owing answer) (λ i q. record { known = q.known; owed = k })
answers_on_keep number answer (Some dial) k = no_answer_keeps number ▹ writes_answer_keeps dial (Some answer) k

answers_keep : (number : ℕ) (v : UniqueAddress) (its_nonce : Option ℕ) → IsUniqueAddress v → IsOptional its_nonce → Keeps (answers number v its_nonce)
answers_keep number v its_nonce h k = record { on = λ d f. (answers_on_keep number (answer_to v its_nonce) (dial_asked (conn_of streams.Control (peer_at v.address d.node))) (answer_facts v its_nonce h k)).on d f }

known_after : (v : UniqueAddress) (its_nonce : Option ℕ) (s : InState) → IsUniqueAddress v → KnownFacts s → KnownFacts (state_after_req v its_nonce s)
known_after v its_nonce Raw h k = h
known_after v its_nonce (Known who shown) h k = k

is_asked_keeps : (number : ℕ) (v : UniqueAddress) (its_nonce : Option ℕ) → IsUniqueAddress v → IsOptional its_nonce → Keeps (is_asked number v its_nonce)
is_asked_keeps number v its_nonce h k =
    makes_missing_keeps v.address h.address
    ▹ uses_keep v.address
    ▹ inbound_keep number (known_as v its_nonce) (λ i q. record { known = known_after v its_nonce i.state h q.known; owed = q.owed })
    ▹ makes_origin_keeps v h
    ▹ answers_keep number v its_nonce h k

pub drops_keep : (number : ℕ) (rule : DropRule) → Keeps (drops number rule)
drops_keep number rule = tells_keep (λ me. lines.Dropped me number rule)

drops_or_keeps : (number : ℕ) (x : Option DropRule) (r : Rule whole listed) → Keeps r → Keeps (drops_or number x r)
drops_or_keeps number None r k = k
drops_or_keeps number (Some rule) r k = drops_keep number rule

pub requested_keeps : (i : Inbound whole) (v : UniqueAddress) (to : Address) (its_nonce : Option ℕ) → IsUniqueAddress v → IsOptional its_nonce → Keeps (requested i v to its_nonce)
requested_keeps i v to its_nonce h k = record { on = λ d f. (drops_or_keeps i.number (request_rule d.node i v to its_nonce) (is_asked i.number v its_nonce) (is_asked_keeps i.number v its_nonce h k)).on d f }

-- ---- binding

all_sent_keep : (a : Address) (uid n : ℕ) (ms : List SysMsg) → Keeps (tells_all_sent a uid n ms)
all_sent_keep a uid n [] = stays_keep
all_sent_keep a uid n (m ∷ ms) = tells_sent_keeps a (Some uid) n m ▹ all_sent_keep a uid (n + 1) ms

tells_waiting_keeps : (a : Address) (uid : ℕ) → Keeps (tells_waiting a uid)
tells_waiting_keeps a uid = record { on = λ d f. (all_sent_keep a uid 1 (whole.unacknowledged (peer_at a d.node).out)).on d f }

-- the last message taken
pub taken_facts : (v : UniqueAddress) (all : List (UniqueAddress × List SysMsg)) → Each TakenFacts all → length (messages_from v all) < 2 ^ 64
taken_facts v [] h = (let e : 0 < 2 ^ 64 = omega arith in e)
taken_facts v (e ∷ all) h = on_cond (λ (x : Option (List SysMsg)). length (unwrap_or x []) < 2 ^ 64) (same_origin v e.0) (Some e.1) (taken_of v all) (λ b. h.0) (λ b. taken_facts v all h.1)

owed_ack_keeps : (v : UniqueAddress) → Keeps (writes_owed_ack v)
owed_ack_keeps v = record {
  on = λ d f. (where_keeps (origin_at v d.node).owes _
      (origin_keep v owes_no_ack (λ o q. record { who = q.who; refs = q.refs; manifests = q.manifests })
      ▹ control_keeps v (controls.Ack (whole.last_taken v d.node.taken) d.node.me) (ack_good (whole.last_taken v d.node.taken) d.node.me (taken_facts v d.node.taken f.node.taken) f.node.me))).on d f;
}

dials_ordinary_keeps : (a : Address) → Keeps (dials_ordinary a)
dials_ordinary_keeps a = record { on = λ d f. (where_keeps (not (is_some (conn_of streams.Ordinary (peer_at a d.node)))) (dials streams.Ordinary a) (dials_keep streams.Ordinary a)).on d f }

pub quiet_keeps : (a : Address) (now : ℕ) → Keeps (peer_becomes a (quiet_now now))
quiet_keeps a now = peer_keep a (quiet_now now) (λ p q. record { address = q.address; current = q.current; out = q.out; held = q.held; refs = q.refs; manifests = q.manifests; control = q.control; ordinary = q.ordinary })

goes_on_keeps : (v : UniqueAddress) → IsUniqueAddress v → Keeps (goes_on v)
goes_on_keeps v h = record { on = λ d f. (quiet_keeps v.address d.node.moment ▹ owed_ack_keeps v ▹ rewinds_keep v.address ▹ pumps_keep v.address h.address ▹ dials_ordinary_keeps v.address).on d f }

learnt_address : (x : Learn) (uid : ℕ) (s : PeerState) → (peer_after_learn x uid s).address ≡ s.address
learnt_address (Learnt former) uid s = refl
learnt_address Same uid s = refl
learnt_address WasClosed uid s = refl
learnt_address ClosedFull uid s = refl

learnt_current : (x : Learn) (uid : ℕ) (s : PeerState) → uid < 2 ^ 64 → IsOptional s.current → IsOptional (peer_after_learn x uid s).current
learnt_current (Learnt former) uid s k h = k
learnt_current Same uid s k h = h
learnt_current WasClosed uid s k h = h
learnt_current ClosedFull uid s k h = h

with_learnt_facts : (now uid : ℕ) → uid < 2 ^ 64 → (p : Peer whole) → PeerFacts p → PeerFacts (with_learnt now uid p)
with_learnt_facts now uid small p f = record {
  address = subst IsAddress (sym (learnt_address (learning uid p.incarnations) uid p.incarnations)) f.address;
  current = learnt_current (learning uid p.incarnations) uid p.incarnations small f.current;
  out = learnt_facts p.out f.out;
  held = f.held;
  refs = f.refs;
  manifests = f.manifests;
  control = f.control;
  ordinary = f.ordinary;
}

-- a former incarnation has a number
abbrev LearnFacts : Learn → Type 0
LearnFacts (Learnt former) = IsOptional former
LearnFacts Same = Unit {0}
LearnFacts WasClosed = Unit {0}
LearnFacts ClosedFull = Unit {0}

learn_facts : (uid : ℕ) (s : PeerState) → IsOptional s.current → LearnFacts (learning uid s)
learn_facts uid s h = on_cond LearnFacts (is_closed uid s) WasClosed (cond (is_current uid s) Same (cond (is_full s) ClosedFull (Learnt s.current))) (λ b. tt)
    (λ b. on_cond LearnFacts (is_current uid s) Same (cond (is_full s) ClosedFull (Learnt s.current)) (λ c. tt) (λ c. on_cond LearnFacts (is_full s) ClosedFull (Learnt s.current) (λ g. tt) (λ g. h)))

learns_new_keeps : (v : UniqueAddress) (former : Option ℕ) → IsUniqueAddress v → IsOptional former → Keeps (learns_new v former)
learns_new_keeps v former h k = record {
  on = λ d f. (closes_current_keeps v.address causes.Superseded former stays h.address k stays_keep
      ▹ peer_keep v.address (with_learnt d.node.moment v.uid) (with_learnt_facts d.node.moment v.uid h.uid)
      ▹ tells_keep (λ me. lines.Learnt me v)
      ▹ tells_waiting_keeps v.address v.uid
      ▹ goes_on_keeps v h).on d f;
}

learns_as_keep : (v : UniqueAddress) (x : Learn) → IsUniqueAddress v → LearnFacts x → Keeps (learns_as v x)
learns_as_keep v WasClosed h k = tells_keep (λ me. lines.Barred me v)
learns_as_keep v ClosedFull h k = tells_keep (λ me. lines.Refused me reasons.ClosedUids) ▹ gives_up_keeps streams.Control v.address
learns_as_keep v Same h k = goes_on_keeps v h
learns_as_keep v (Learnt former) h k = learns_new_keeps v former h k

learns_keep : (v : UniqueAddress) → IsUniqueAddress v → Keeps (learns v)
learns_keep v h = record { on = λ d f. (learns_as_keep v (learning v.uid (peer_at v.address d.node).incarnations) h (learn_facts v.uid (peer_at v.address d.node).incarnations (peer_facts v.address d.node h.address f.node).current)).on d f }

-- ---- answers

strays_keep : (v : UniqueAddress) (its_nonce : Option ℕ) → Keeps (strays v its_nonce)
strays_keep v its_nonce = tells_keep (λ me. lines.Stray me v its_nonce)

binds_ordinary_keeps : (v : UniqueAddress) (its_nonce x : Option ℕ) → IsUniqueAddress v → Keeps (binds_ordinary v its_nonce x)
binds_ordinary_keeps v its_nonce None h = strays_keep v its_nonce ▹ gives_up_keeps streams.Ordinary v.address
binds_ordinary_keeps v its_nonce (Some dial) h = tells_held_keeps v.address dial h.address

binds_keep : (stream : Stream) (v : UniqueAddress) (its_nonce : Option ℕ) → IsUniqueAddress v → Keeps (binds stream v its_nonce)
binds_keep streams.Control v its_nonce h = record { on = λ d f. (uses_keep v.address ▹ learns_keep v h).on d f }
binds_keep streams.Ordinary v its_nonce h = record { on = λ d f. (binds_ordinary_keeps v its_nonce (ordinary_dial v (peer_at v.address d.node)) h).on d f }

answered_as_keeps : (stream : Stream) (v : UniqueAddress) (for_uid its_nonce : Option ℕ) (x : OnRsp) → IsUniqueAddress v → Keeps (answered_as stream v for_uid its_nonce x)
answered_as_keeps stream v for_uid its_nonce (Bind uid) h = record { on = λ d f. (changed_keeps stream v.address (conn_answered d.node.me.uid v.uid for_uid its_nonce) (λ c. refl) ▹ binds_keep stream v its_nonce h).on d f }
answered_as_keeps stream v for_uid its_nonce Repeat h = record { on = λ d f. f }
answered_as_keeps stream v for_uid its_nonce Stray h = record { on = λ d f. f }

takes_answer_keeps : (stream : Stream) (v : UniqueAddress) (for_uid its_nonce : Option ℕ) → IsUniqueAddress v → Keeps (takes_answer stream v for_uid its_nonce)
takes_answer_keeps stream v for_uid its_nonce h = record { on = λ d f. (answered_as_keeps stream v for_uid its_nonce (answer_at stream d.node v for_uid its_nonce) h).on d f }

answered_by_keeps : (stream : Stream) (v : UniqueAddress) (for_uid its_nonce : ℕ) (b : Bool) → IsUniqueAddress v → Keeps (answered_by stream v for_uid its_nonce b)
answered_by_keeps stream v for_uid its_nonce true h = takes_answer_keeps stream v (Some for_uid) (Some its_nonce) h
answered_by_keeps stream v for_uid its_nonce false h = strays_keep v (Some its_nonce)

answered_to_keeps : (v : UniqueAddress) (for_uid its_nonce : ℕ) → IsUniqueAddress v → Keeps (answered_to v for_uid its_nonce)
answered_to_keeps v for_uid its_nonce h = record {
  on = λ d f. (answered_by_keeps (stream_dialed its_nonce (peer_at v.address d.node)) v for_uid its_nonce
      (dialed_as its_nonce (peer_at v.address d.node) && is_met (answer_at (stream_dialed its_nonce (peer_at v.address d.node)) d.node v (Some for_uid) (Some its_nonce))) h).on d f;
}

strays_unless_keeps : (b : Bool) (v : UniqueAddress) → Keeps (strays_unless b v)
strays_unless_keeps true v = stays_keep
strays_unless_keeps false v = strays_keep v None

then_ordinary_keeps : (met : Bool) (v : UniqueAddress) (for_uid its_nonce : Option ℕ) → IsUniqueAddress v → Keeps (then_ordinary met v for_uid its_nonce)
then_ordinary_keeps met v for_uid its_nonce h = record {
  on = λ d f. (takes_answer_keeps streams.Ordinary v for_uid its_nonce h ▹ strays_unless_keeps (met || is_met (answer_at streams.Ordinary d.node v for_uid its_nonce)) v).on d f;
}

answered_plainly_keeps : (v : UniqueAddress) (for_uid its_nonce : Option ℕ) → IsUniqueAddress v → Keeps (answered_plainly v for_uid its_nonce)
answered_plainly_keeps v for_uid its_nonce h = record {
  on = λ d f. (takes_answer_keeps streams.Control v for_uid its_nonce h ▹ then_ordinary_keeps (is_met (answer_at streams.Control d.node v for_uid its_nonce)) v for_uid its_nonce h).on d f;
}

pub answered_keeps : (v : UniqueAddress) (for_uid its_nonce : Option ℕ) → IsUniqueAddress v → Keeps (answered v for_uid its_nonce)
answered_keeps v (Some for_uid) (Some its_nonce) h = answered_to_keeps v for_uid its_nonce h
answered_keeps v (Some for_uid) None h = answered_plainly_keeps v (Some for_uid) None h
answered_keeps v None its_nonce h = answered_plainly_keeps v None its_nonce h
