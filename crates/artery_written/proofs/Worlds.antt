-- Each event keeps what holds of the values in a network: what its nodes keep, and what was written on its connections.
use Rattle.std.proofs.Common.{take-append-drop, ◌≡◌, ℕ, zero, suc, ◌+◌, ◌-◌, ◌<◌, ◌≤◌, ◌^◌, Bool, true, false, ◌&&◌, cond, List, [], ◌∷◌, ◌++◌, length, take, drop, refl, sym, ◌∙◌, ap, subst, arith, length-drop}
use Rattle.std.specs.Prelude.{Option, None, Some, ◌==◌, not, nat_lt, is_none, filter, position, remove, slice_get}
use Rattle.std.specs.List.{find}
use Rattle.artery_base.specs.declared.address.UniqueAddress.{UniqueAddress}
use Rattle.artery_base.specs.Valid.{IsUniqueAddress}
use Rattle.artery_frame.specs.Stream.{new_frames}
use Rattle.artery_journal.specs.declared.line.Line.TheVariants as lines
use Rattle.artery_script.specs.declared.event.Event.{Event}
use Rattle.artery_script.specs.declared.event.Event.TheVariants as events
use Rattle.artery_script.specs.declared.script.ScriptLine.{ScriptLine}
use Rattle.artery_script.specs.Valid.{IsEvent}
use Rattle.artery_machine.specs.declared.input.Conn.TheVariants.{Outward, Inward}
use Rattle.artery_machine.specs.declared.input.Input.{Input}
use Rattle.artery_machine.specs.declared.input.Input.TheVariants as inputs
use Rattle.artery_machine.specs.declared.world.Outcome.TheVariants as outcomes
use Rattle.artery_machine.specs.declared.world.Why.{Why}
use Rattle.artery_machine.specs.declared.world.WorldFault.{WorldFault}
use Rattle.artery_machine.specs.declared.world.WorldLimit.TheVariants as limits
use Rattle.artery_machine.specs.Lists.{put_at, change_at}
use Rattle.artery_machine.specs.Deeds.{Writing, Deed, Dials, Writes, Hangs, Tells, bytes_of}
use Rattle.artery_machine.specs.Parts.{whole}
use Rattle.artery_machine.specs.Ways.{Wrote, whole_ways}
use Rattle.artery_machine.specs.Connections.{is_inward, far_open, undelivered_on, is_loaded, load, connected, near_ended, far_ended, ended_with, with_writing, with_delivered, place_dialed, place_inward}
use Rattle.artery_machine.specs.Node.{Node, new_node}
use Rattle.artery_machine.specs.Reacting.{starts, step}
use Rattle.artery_machine.specs.World.{World, Pending, Live, Change, ◌⟫◌, stays, going_on, ends, each, each_place, times, has_uid, is_pending, with_node, one_more, most_nodes, most_connections, piece_size, is_too_much, live_of, live_at, connection_at, connection_becomes, by_found, by_connection, comes_out, writes, does, node_becomes, follows, gives, with_started, starts_with, gone, stops_one, joins, connects, answers, settled, settles, no_longer, by_pending_at, by_pending, fails, pieces, carries, cuts, ends_far, where_it, for_each, carries_all, settles_first, settles_next, passes_once, refusal, happens, unless_refused, applies, nothing}
use Rattle.artery_machine.specs.Playing.{fault_of, goes_on, plays, run}
use Rattle.artery_flight.specs.Answers.{IsReadBack, AreReadBack}
use Rattle.artery_flight.proofs.Lists.{on_cond, eq_true, eq_self, and_both, find_passes, Each, each_weaker, each_push, each_get, each_set, each_find, each_filter, each_map, each_change}
use Rattle.artery_flight.proofs.Facts.{Network, Conn}
use Rattle.artery_flight.proofs.Rules.{bytes_at, none_is}
use Rattle.artery_flight.proofs.Feeding.{nothing_left, left_to, heard_left, piece_frames}
use Rattle.artery_flight.proofs.Networks.{LiveFacts, HoldsBut, Holds, Safe}
use Rattle.artery_flight.proofs.Starting.{SafeAt, going_holds, at_place_holds}
use Rattle.artery_flight.proofs.Joining.{settling}
use Rattle.artery_flight.proofs.Playing.{delivered_holds, piece_holds, no_bytes, shorter, take_within, all_hold, cuts_hold, ends_far_hold, where_holds, passes_hold, applies_holds, nothing_holds}
use Rattle.artery_written.specs.Told.{AreTold}
use Rattle.artery_written.proofs.Facts.{WritingFacts, DeedFacts, NodeFacts, WorkFacts}
use Rattle.artery_written.proofs.Hearing.{FrameFacts}
use Rattle.artery_written.proofs.Reacting.{InputFacts, reacts_keep}
use Rattle.artery_written.proofs.Readable.{Laws, ConnSound, conn_read, all_read, framed_facts}

abbrev Dialed : Pending → Type 0
Dialed p = p.dialer < 2 ^ 64

abbrev Lives : Live whole → Type 0
Lives l = NodeFacts l.node

-- ---- what holds of a network

record WorldFacts (w : Network) : Type 0 where
  live : Each Lives w.live
  pending : Each Dialed w.pending
  conns : Each ConnSound w.connections

-- a change that keeps it
abbrev Plain : Change whole whole_ways → Type 0
Plain change = (w : Network) → WorldFacts w → WorldFacts (change w)

stays_plain : Plain stays
stays_plain w f = f

going_plain : (c : Change whole whole_ways) → Plain c → Plain (going_on c)
going_plain c a w f = on_cond WorldFacts (is_none w.ended) (c w) w (λ t. a w f) (λ t. f)

times_plain : (n : ℕ) (c : Change whole whole_ways) → Plain c → Plain (times n c)
times_plain zero c a w f = f
times_plain (suc n) c a w f = times_plain n c a (going_on c w) (going_plain c a w f)

found_plain : {X : Type 0} (c : X → Change whole whole_ways) → ((x : X) → Plain (c x)) → (x : Option X) → Plain (by_found c x)
found_plain c a None w f = f
found_plain c a (Some x) w f = a x w f

-- ---- deeds

changed_at : (i : ℕ) (g : Conn → Conn) (cs : List Conn) → ((c : Conn) → slice_get cs i ≡ Some c → ConnSound c → ConnSound (g c)) → Each ConnSound cs → Each ConnSound (change_at i g cs)
changed_at i g cs k h = by (slice_get cs i) refl
  where
    by : (x : Option Conn) → slice_get cs i ≡ x → Each ConnSound (put_at i g cs x)
    by None e = h
    by (Some c) e = each_set ConnSound cs i (g c) h (k c e (each_get ConnSound cs i c h e))

conn_plain : (g : Conn → Conn) → ((c : Conn) → ConnSound c → ConnSound (g c)) → (i : ℕ) → Plain (connection_becomes g i)
conn_plain g k i w f = record { live = f.live; pending = f.pending; conns = changed_at i g w.connections (λ c e s. k c s) f.conns }

near_sound : (c : Conn) → ConnSound c → ConnSound (near_ended c)
near_sound c s = record { dialer = s.dialer; wrote = s.wrote }

far_sound : (c : Conn) → ConnSound c → ConnSound (far_ended c)
far_sound c s = record { dialer = s.dialer; wrote = s.wrote }

delivered_sound : (n : ℕ) (c : Conn) → ConnSound c → ConnSound (with_delivered n c)
delivered_sound n c s = record { dialer = s.dialer; wrote = s.wrote }

written_sound : (x : Writing) (bytes : List ℕ) → WritingFacts x → (c : Conn) → ConnSound c → ConnSound (with_writing x bytes c)
written_sound x bytes k c s = record { dialer = s.dialer; wrote = each_push (λ (y : Wrote). WritingFacts y.writing) c.way.all (record { writing = x; bytes = bytes }) s.wrote k }

writes_plain : (u dial : ℕ) (x : Writing) (bytes : List ℕ) (i : ℕ) (c : Conn) → WritingFacts x → Plain (writes u dial x bytes i c)
writes_plain u dial x bytes i c k w f = on_cond (λ (change : Change whole whole_ways). WorldFacts (change w)) (not c.near_open) stays (cond (is_too_much (length bytes) c w) (ends limits.Undelivered) (connection_becomes (with_writing x bytes) i ⟫ comes_out (outcomes.Wrote u dial bytes))) (λ t. f)
    (λ t. on_cond (λ (change : Change whole whole_ways). WorldFacts (change w)) (is_too_much (length bytes) c w) (ends limits.Undelivered) (connection_becomes (with_writing x bytes) i ⟫ comes_out (outcomes.Wrote u dial bytes))
    (λ s. record { live = f.live; pending = f.pending; conns = f.conns })
    (λ s. (let v : WorldFacts (connection_becomes (with_writing x bytes) i w) = conn_plain (with_writing x bytes) (written_sound x bytes k) i w f in record { live = v.live; pending = v.pending; conns = v.conns })))

at_plain : (c : ℕ → Conn → Change whole whole_ways) → ((i : ℕ) (x : Conn) → Plain (c i x)) → (i : ℕ) → Plain (by_connection c i)
at_plain c a i w f = found_plain (c i) (a i) (connection_at i w) w f

deed_plain : (u m : ℕ) (deed : Deed) → u < 2 ^ 64 → DeedFacts deed → Plain (does u m deed)
deed_plain u m (Dials dial address) small k w f = record { live = f.live; pending = each_push Dialed w.pending (record { dialer = u; dial = dial; address = address }) f.pending small; conns = f.conns }
deed_plain u m (Writes dial x) small k w f = found_plain (by_connection (writes u dial x (bytes_of u x))) (λ i. at_plain (writes u dial x (bytes_of u x)) (λ j c. writes_plain u dial x (bytes_of u x) j c k) i) (place_dialed u dial w.connections) w f
deed_plain u m (Hangs (Outward dial)) small k w f = found_plain (connection_becomes near_ended) (λ i. conn_plain near_ended near_sound i) (place_dialed u dial w.connections) w f
deed_plain u m (Hangs (Inward number)) small k w f = found_plain (connection_becomes far_ended) (λ i. conn_plain far_ended far_sound i) (place_inward u number w.connections) w f
deed_plain u m (Tells line) small k w f = record { live = f.live; pending = f.pending; conns = f.conns }

deeds_plain : (u m : ℕ) (deeds : List Deed) → u < 2 ^ 64 → Each DeedFacts deeds → Plain (each deeds (does u m))
deeds_plain u m [] small k w f = f
deeds_plain u m (deed ∷ deeds) small k w f = deeds_plain u m deeds small k.1 (going_on (does u m deed) w) (going_plain (does u m deed) (deed_plain u m deed small k.0) w f)

-- ---- something comes to a node

moved : (u : ℕ) (n : Node whole) → NodeFacts n → Plain (node_becomes u n)
moved u n k w f = record { live = each_change Lives (has_uid u) (with_node n) w.live (λ l e q. k) f.live; pending = f.pending; conns = f.conns }

gives_kept : (u : ℕ) (input : Input) (w : Network) → ((l : Live whole) → live_of u w ≡ Some l → InputFacts input l.node) → WorldFacts w → WorldFacts (gives u input w)
gives_kept u input w k f = by (live_of u w) refl
  where
    by : (x : Option (Live whole)) → live_of u w ≡ x → WorldFacts (by_found (λ l. follows u (step input l.node)) x w)
    by None e = f
    by (Some l) e =
        let n : NodeFacts l.node = each_find Lives (has_uid u) w.live l f.live e in
        let small : u < 2 ^ 64 = subst (λ (x : ℕ). x < 2 ^ 64) (eq_true l.node.me.uid u (find_passes (has_uid u) w.live l e)) n.me.uid in
        let d : WorkFacts (step input l.node) = reacts_keep input (record { node = l.node; deeds = [] }) (k l e) (record { node = n; deeds = tt }) in
        deeds_plain u (step input l.node).node.moment (step input l.node).deeds small d.deeds (node_becomes u (step input l.node).node w) (moved u (step input l.node).node d.node w f)

-- what needs nothing
abbrev Free : Input → Type 0
Free input = (n : Node whole) → InputFacts input n

gives_plain : (u : ℕ) (input : Input) → Free input → Plain (gives u input)
gives_plain u input k w f = gives_kept u input w (λ l e. k l.node) f

-- ---- starting and stopping

starts_plain : (v : UniqueAddress) → IsUniqueAddress v → Plain (starts_with v (starts v))
starts_plain v h w f = on_cond (λ (c : Change whole whole_ways). WorldFacts (c w)) (nat_lt (length w.live) most_nodes) (with_started v (new_node v) ⟫ each (starts {P = whole} v).deeds (does v.uid 0)) (ends limits.Nodes)
    (λ t. deeds_plain v.uid 0 (starts {P = whole} v).deeds h.uid (tt, tt) (with_started v (new_node v) w)
    (record { live = each_push Lives w.live (record { node = new_node v; accepted = 0 }) f.live new; pending = f.pending; conns = f.conns }))
    (λ t. record { live = f.live; pending = f.pending; conns = f.conns })
  where
    new : NodeFacts (new_node v)
    new = record { me = h; dials = (let e : 0 < 2 ^ 64 = omega arith in e); peers = tt; inbound = tt; origins = tt; taken = tt; actors = tt }

ended_sound : (u : ℕ) (c : Conn) → ConnSound c → ConnSound (ended_with u c)
ended_sound u c s =
    on_cond ConnSound ((cond (c.far == u) (far_ended c) c).dialer == u) (near_ended (cond (c.far == u) (far_ended c) c)) (cond (c.far == u) (far_ended c) c)
    (λ t. near_sound (cond (c.far == u) (far_ended c) c) far) (λ t. far)
  where
    far : ConnSound (cond (c.far == u) (far_ended c) c)
    far = on_cond ConnSound (c.far == u) (far_ended c) c (λ t. far_sound c s) (λ t. s)

gone_plain : (u : ℕ) → Plain (gone u)
gone_plain u w f = record {
  live = each_filter Lives (λ l. not (has_uid u l)) w.live f.live;
  pending = each_filter Dialed (λ p. not (p.dialer == u)) w.pending f.pending;
  conns = each_map ConnSound ConnSound (ended_with u) (ended_sound u) w.connections f.conns;
}

stops_plain : (l : Live whole) → Plain (stops_one l)
stops_plain l w f = gone_plain l.node.me.uid (comes_out (outcomes.Line l.node.moment (lines.Stopped l.node.me)) w) (record { live = f.live; pending = f.pending; conns = f.conns })

-- ---- pending dials

joins_plain : (p : Pending) (far number : ℕ) → Dialed p → Plain (joins p.dialer p.dial far number)
joins_plain p far number k w f = record {
  live = each_change Lives (has_uid far) one_more w.live (λ l e q. q) f.live;
  pending = f.pending;
  conns = each_push ConnSound w.connections (connected p.dialer p.dial far number) f.conns (record { dialer = k; wrote = tt });
}

connects_plain : (p : Pending) (far number : ℕ) → Dialed p → Plain (connects p.dialer p.dial far number)
connects_plain p far number k w f =
    going_plain (gives p.dialer (inputs.Dialed p.dial)) (gives_plain p.dialer (inputs.Dialed p.dial) (λ n. tt)) (gives far (inputs.Accepted number) (joins p.dialer p.dial far number w))
    (gives_plain far (inputs.Accepted number) (λ n. tt) (joins p.dialer p.dial far number w) (joins_plain p far number k w f))

settled_plain : (p : Pending) (x : Option (Live whole)) → Dialed p → Plain (settled p x)
settled_plain p None k w f = gives_plain p.dialer (inputs.DialFailed p.dial) (λ n. tt) w f
settled_plain p (Some l) k w f = on_cond (λ (c : Change whole whole_ways). WorldFacts (c w)) (nat_lt (length w.connections) most_connections) (connects p.dialer p.dial l.node.me.uid (l.accepted + 1)) (ends limits.Connections)
    (λ t. connects_plain p l.node.me.uid (l.accepted + 1) k w f) (λ t. record { live = f.live; pending = f.pending; conns = f.conns })

settles_plain : (p : Pending) → Dialed p → Plain (settles p)
settles_plain p k w f = settled_plain p (live_at p.address w) k w f

fails_plain : (p : Pending) → Dialed p → Plain (fails p)
fails_plain p k w f = gives_plain p.dialer (inputs.DialFailed p.dial) (λ n. tt) w f

removed_each : (i : ℕ) (ps : List Pending) → Each Dialed ps → Each Dialed (remove ps i)
removed_each zero [] h = tt
removed_each (suc i) [] h = tt
removed_each zero (p ∷ ps) h = h.1
removed_each (suc i) (p ∷ ps) h = (h.0, removed_each i ps h.1)

by_pending_plain : (u d : ℕ) (c : Pending → Change whole whole_ways) → ((p : Pending) → Dialed p → Plain (c p)) → Plain (by_pending u d c)
by_pending_plain u d c a w f = by (position (is_pending u d) w.pending)
  where
    at_place : (i : ℕ) (x : Option Pending) → slice_get w.pending i ≡ x → WorldFacts (by_found (λ p. no_longer i ⟫ c p) x w)
    at_place i None e = f
    at_place i (Some p) e = a p (each_get Dialed w.pending i p f.pending e) (no_longer i w) (record { live = f.live; pending = removed_each i w.pending f.pending; conns = f.conns })

    by : (i : Option ℕ) → WorldFacts (by_found (by_pending_at c) i w)
    by None = f
    by (Some i) = at_place i (slice_get w.pending i) refl

next_plain : Plain settles_next
next_plain w f = by w.pending f.pending
  where
    by : (ps : List Pending) → Each Dialed ps → WorldFacts (settles_first ps w)
    by [] k = f
    by (p ∷ rest) k = settles_plain p k.0 (record w { pending = rest }) (record { live = f.live; pending = k.1; conns = f.conns })

-- ---- bytes that arrive

-- a change that keeps it in a network whose facts of connections hold
abbrev Both : Change whole whole_ways → Type 0
Both change = (w : Network) → Holds w → WorldFacts w → WorldFacts (change w)

abbrev BothAt : (ℕ → Conn → Change whole whole_ways) → Type 0
BothAt c = (i : ℕ) (x : Conn) (w : Network) → slice_get w.connections i ≡ Some x → Holds w → WorldFacts w → WorldFacts (c i x w)

going_both : (c : Change whole whole_ways) → Both c → Both (going_on c)
going_both c a w h f = on_cond WorldFacts (is_none w.ended) (c w) w (λ t. a w h f) (λ t. f)

at_place_both : (c : ℕ → Conn → Change whole whole_ways) → BothAt c → (i : ℕ) → Both (by_connection c i)
at_place_both c a i w h f = by (connection_at i w) refl
  where
    by : (x : Option Conn) → connection_at i w ≡ x → WorldFacts (by_found (c i) x w)
    by None e = f
    by (Some x) e = a i x w e h f

places_both : (first n : ℕ) (c : ℕ → Change whole whole_ways) → ((place : ℕ) → Safe (c place)) → ((place : ℕ) → Both (c place)) → Both (each_place first n c)
places_both first zero c s a w h f = f
places_both first (suc n) c s a w h f = places_both (first + 1) n c s a (going_on (c first) w) (going_holds (c first) (s first) w h) (going_both (c first) (a first) w h f)

where_both : (test : Conn → Bool) (c : ℕ → Conn → Change whole whole_ways) → BothAt c → BothAt (where_it test c)
where_both test c a i x w e h f = on_cond (λ (d : Change whole whole_ways). WorldFacts (d w)) (test x) (c i x) stays (λ t. a i x w e h f) (λ t. f)

for_each_both : (test : Conn → Bool) (c : ℕ → Conn → Change whole whole_ways) → SafeAt c → BothAt c → Both (for_each test c)
for_each_both test c s a w h f = places_both 0 (length w.connections) (by_connection (where_it test c)) (λ i. at_place_holds (where_it test c) (where_holds test c s) i) (λ i. at_place_both (where_it test c) (where_both test c a) i) w h f

times_both : (n : ℕ) (c : Change whole whole_ways) → Safe c → Both c → Both (times n c)
times_both zero c s a w h f = f
times_both (suc n) c s a w h f = times_both n c s a (going_on c w) (going_holds c s w h) (going_both c a w h f)

module _ (laws : Laws) where
  -- the frames that a piece completes were written, so they are sound
  piece_input : (c : Conn) (piece rest : List ℕ) (w : Network) → HoldsBut (left_to c (piece ++ rest)) w → w.ended ≡ None → WorldFacts w → (l : Live whole) → live_of c.far w ≡ Some l → InputFacts (inputs.Bytes c.number piece) l.node
  piece_input c piece rest w h live f l e = λ bytes b.
      (let is_far : l.node.me.uid ≡ c.far = eq_true l.node.me.uid c.far (find_passes (has_uid c.far) w.live l e) in
      let k : LiveFacts (left_to c (piece ++ rest)) w l = each_find (LiveFacts (left_to c (piece ++ rest)) w) (has_uid c.far) w.live l (h.going live).live e in
      let here : left_to c (piece ++ rest) l.node.me.uid c.number ≡ piece ++ rest = ap (λ (x : ℕ). left_to c (piece ++ rest) x c.number) is_far ∙ ap (λ (x : Bool). cond x (piece ++ rest) []) (and_both (c.far == c.far) (c.number == c.number) (eq_self c.far) (eq_self c.number)) in
      let heard = heard_left l.node.me.uid c.number bytes (left_to c (piece ++ rest) l.node.me.uid c.number) (piece ++ rest) w.connections here (k.heard (all_read laws w.connections f.conns) c.number bytes b) in
      each_weaker _ FrameFacts (λ frame o. framed_facts laws l.node.me.uid c.number w.connections frame f.conns o) (new_frames bytes piece) (piece_frames l.node.me.uid c.number bytes piece rest w.connections (all_read laws w.connections f.conns) h.out.conns heard))

  piece_both : (c : Conn) (piece rest : List ℕ) (w : Network) → HoldsBut (left_to c (piece ++ rest)) w → WorldFacts w → WorldFacts (going_on (gives c.far (inputs.Bytes c.number piece)) w)
  piece_both c piece rest w h f = on_cond WorldFacts (is_none w.ended) (gives c.far (inputs.Bytes c.number piece) w) w
      (λ t. gives_kept c.far (inputs.Bytes c.number piece) w (piece_input c piece rest w h (none_is w.ended t) f) f) (λ t. f)

  pieces_both : (most : ℕ) (c : Conn) (bytes : List ℕ) (w : Network) → length bytes ≤ most → HoldsBut (left_to c bytes) w → WorldFacts w → WorldFacts (each (pieces most bytes) (λ piece. gives c.far (inputs.Bytes c.number piece)) w)
  pieces_both zero c bytes w n h f = f
  pieces_both (suc most) c bytes w n h f = by (length bytes == 0) (λ v k g. pieces_both most c (drop piece_size bytes) v (let e : length (drop piece_size bytes) ≡ length bytes - piece_size = length-drop piece_size bytes in subst (λ (x : ℕ). x ≤ most) (sym e) (shorter (length bytes) piece_size most n one_at_least)) k g)
    where
      one_at_least : 1 ≤ piece_size
      one_at_least = omega arith

      by : (b : Bool) → ((v : Network) → HoldsBut (left_to c (drop piece_size bytes)) v → WorldFacts v → WorldFacts (each (pieces most (drop piece_size bytes)) (λ piece. gives c.far (inputs.Bytes c.number piece)) v))
          → WorldFacts (each (cond b [] (take piece_size bytes ∷ pieces most (drop piece_size bytes))) (λ piece. gives c.far (inputs.Bytes c.number piece)) w)
      by true go = f
      by false go =
          let split : HoldsBut (left_to c (take piece_size bytes ++ drop piece_size bytes)) w = subst (λ bs. HoldsBut (left_to c bs) w) (sym (take-append-drop piece_size bytes)) h in
          go (going_on (gives c.far (inputs.Bytes c.number (take piece_size bytes))) w) (piece_holds c (take piece_size bytes) (drop piece_size bytes) w split) (piece_both c (take piece_size bytes) (drop piece_size bytes) w split f)

  carries_both : (n : ℕ) → BothAt (carries n)
  carries_both n i c w e h f =
      pieces_both n c (take n (undelivered_on c)) (connection_becomes (with_delivered n) i w) (take_within n (undelivered_on c)) (delivered_holds n i c w e h) (conn_plain (with_delivered n) (delivered_sound n) i w f)

  cuts_both : BothAt cuts
  cuts_both i c w e h f = gives_plain c.dialer (inputs.Ended (Outward c.dial)) (λ n. tt) (connection_becomes near_ended i w) (conn_plain near_ended near_sound i w f)

  ends_far_both : BothAt ends_far
  ends_far_both i c w e h f = gives_plain c.far (inputs.Ended (Inward c.number)) (λ n. tt) (connection_becomes far_ended i w) (conn_plain far_ended far_sound i w f)

  all_both : BothAt carries_all
  all_both i c w e h f = carries_both (load c) i c w e h f

  passes_both : Both passes_once
  passes_both w h f = going_both (for_each is_loaded carries_all) (for_each_both is_loaded carries_all all_hold all_both) (times (length w.pending) settles_next w) (settling (length w.pending) w h) (times_plain (length w.pending) settles_next next_plain w f)

  -- ---- events

  placed_both : (c : ℕ → Conn → Change whole whole_ways) → BothAt c → (x : Option ℕ) → Both (by_found (by_connection c) x)
  placed_both c a None w h f = f
  placed_both c a (Some i) w h f = at_place_both c a i w h f

  happens_both : (event : Event) (w : Network) → IsEvent event → Holds w → WorldFacts w → WorldFacts (happens event w)
  happens_both (events.Start v) w k h f = starts_plain v k w f
  happens_both (events.Stop uid) w k h f = found_plain stops_one stops_plain (live_of uid w) w f
  happens_both (events.At uid request) w k h f = gives_plain uid (inputs.Request request) (λ n. k.1) w f
  happens_both (events.Tick uid moment) w k h f = gives_plain uid (inputs.Tick moment) (λ n. tt) w f
  happens_both (events.Answer uid dial) w k h f = by_pending_plain uid dial settles settles_plain w f
  happens_both (events.Fail uid dial) w k h f = by_pending_plain uid dial fails fails_plain w f
  happens_both (events.Carry uid dial n) w k h f = placed_both (carries n) (carries_both n) (place_dialed uid dial w.connections) w h f
  happens_both (events.Cut uid dial) w k h f = placed_both cuts cuts_both (place_dialed uid dial w.connections) w h f
  happens_both (events.End uid dial) w k h f = placed_both ends_far ends_far_both (place_dialed uid dial w.connections) w h f
  happens_both (events.CutAll uid) w k h f = for_each_both (λ c. (c.dialer == uid) && c.near_open) cuts cuts_hold cuts_both w h f
  happens_both (events.EndAll uid) w k h f = for_each_both (λ c. (c.dialer == uid) && far_open c) ends_far ends_far_hold ends_far_both w h f
  happens_both (events.Pass rounds) w k h f = times_both rounds passes_once passes_hold passes_both w h f

  applies_both : (event : Event) (w : Network) → IsEvent event → Holds w → WorldFacts w → WorldFacts (applies event w)
  applies_both event w k h f = on_cond WorldFacts (is_none w.ended) (unless_refused (refusal event w) event w) w (λ t. by (refusal event w)) (λ t. f)
    where
      by : (x : Option Why) → WorldFacts (unless_refused x event w)
      by None = happens_both event w k h f
      by (Some reason) = f

  nothing_facts : WorldFacts nothing
  nothing_facts = record { live = tt; pending = tt; conns = tt }

  plays_both : (script : List ScriptLine) (w : Network) → AreTold script → Holds w → WorldFacts w → WorldFacts (plays script w).world
  plays_both [] w k h f = f
  plays_both (l ∷ ls) w k h f = by (fault_of l.event w) (plays_both ls (applies l.event w) k.1 (applies_holds l.event w h) (applies_both l.event w k.0 h f))
    where
      by : (x : Option WorldFault) → WorldFacts (plays ls (applies l.event w)).world → WorldFacts (goes_on l.line (applies l.event w) x (plays ls (applies l.event w))).world
      by None g = g
      by (Some fault) g = applies_both l.event w k.0 h f

  pub run_read : (script : List ScriptLine) → AreTold script → AreReadBack (run {P = whole} {W = whole_ways} script).world.connections
  run_read script k = λ i j c x e g. (let f : WorldFacts (run {P = whole} {W = whole_ways} script).world = plays_both script nothing k nothing_holds nothing_facts in
      each_get (λ (y : Wrote). IsReadBack c.dialer y.writing) c.way.all j x (conn_read laws c (each_get ConnSound (run {P = whole} {W = whole_ways} script).world.connections i c f.conns e)) g)
