-- Answers, connections that are bound, and inbound connections that are known, at the end of a script.
use Rattle.std.proofs.Common.{◌≡◌, ℕ, List, [], sym, ◌∙◌, ap, subst, append-nil}
use Rattle.std.specs.Prelude.{Option, None, Some, ◌==◌, slice_get}
use Rattle.artery_base.specs.declared.address.UniqueAddress.{UniqueAddress}
use Rattle.artery_control.specs.declared.control.Control.TheVariants as controls
use Rattle.artery_frame.specs.declared.stream.Stream.{Stream}
use Rattle.artery_handshake.specs.declared.out_conn.OutConn.{OutConn}
use Rattle.artery_handshake.specs.declared.out_conn.OutState.{OutState}
use Rattle.artery_handshake.specs.declared.out_conn.OutState.TheVariants.{Bound}
use Rattle.artery_handshake.specs.declared.in_conn.InState.{InState}
use Rattle.artery_handshake.specs.declared.in_conn.InState.TheVariants.{Known}
use Rattle.artery_script.specs.declared.script.ScriptLine.{ScriptLine}
use Rattle.artery_machine.specs.Deeds.{Writing, Controls}
use Rattle.artery_machine.specs.Parts.{whole}
use Rattle.artery_machine.specs.Ways.{Wrote, whole_ways}
use Rattle.artery_machine.specs.Connections.{is_dialed, is_inward}
use Rattle.artery_machine.specs.Node.{Peer, Inbound, conn_of, inbound_at}
use Rattle.artery_machine.specs.World.{Live}
use Rattle.artery_machine.specs.Playing.{run}
use Rattle.artery_flight.specs.Answers.{IsReadBack, AreReadBack, Reaches as ReachesThere, WasDialed, IsAnswerOn, WereDelivered}
use Rattle.artery_flight.proofs.Lists.{eq_true, and_left, and_right, Each, each_get, each_of, Placed}
use Rattle.artery_flight.proofs.Facts.{Network, Conn, AllRead, Reaches, ComesFrom, IsAnswerFor, IsTrue, ConnFacts, StateFacts, OutConnFacts, PeerFacts, KnownFacts, InboundFacts}
use Rattle.artery_flight.proofs.Grow.{one_placed, one_here}
use Rattle.artery_flight.proofs.Rules.{bytes_in, conn_facts_of}
use Rattle.artery_flight.proofs.Feeding.{nothing_left, IsHeard}
use Rattle.artery_flight.proofs.Networks.{LiveFacts, Holds}
use Rattle.artery_flight.proofs.Playing.{run_holds}

reaches_there : (u d f : ℕ) (cs : List Conn) → Reaches u d f cs → ReachesThere cs u d f
reaches_there u d f cs o =
    let spot : Placed (is_dialed u d) cs = one_placed (is_dialed u d) (λ (c : Conn). c.far ≡ f) cs o in
    record {
      place = spot.place;
      connection = spot.element;
      there = spot.here;
      dialer = eq_true spot.element.dialer u (and_left (spot.element.dialer == u) (spot.element.dial == d) spot.passes);
      number = eq_true spot.element.dial d (and_right (spot.element.dialer == u) (spot.element.dial == d) spot.passes);
      reaches = one_here (is_dialed u d) (λ (c : Conn). c.far ≡ f) cs o;
    }

was_dialed : (u k : ℕ) (who : UniqueAddress) (its_nonce : Option ℕ) (cs : List Conn) → ComesFrom u k who.uid its_nonce cs → WasDialed cs u k who its_nonce
was_dialed u k who its_nonce cs o =
    let spot : Placed (is_inward u k) cs = one_placed (is_inward u k) _ cs o in
    let here : (who.uid ≡ spot.element.dialer) × (its_nonce ≡ Some spot.element.dial) = one_here (is_inward u k) (λ (c : Conn). (who.uid ≡ c.dialer) × (its_nonce ≡ Some c.dial)) cs o in
    record {
      place = spot.place;
      connection = spot.element;
      there = spot.here;
      far = eq_true spot.element.far u (and_left (spot.element.far == u) (spot.element.number == k) spot.passes);
      inward = eq_true spot.element.number k (and_right (spot.element.far == u) (spot.element.number == k) spot.passes);
      dialer = here.0;
      dial = here.1;
    }

were_delivered : (u k : ℕ) (bytes : List ℕ) (cs : List Conn) → IsHeard u k bytes [] cs → WereDelivered cs u k bytes
were_delivered u k bytes cs o =
    let spot : Placed (is_inward u k) cs = one_placed (is_inward u k) _ cs o in
    record {
      place = spot.place;
      connection = spot.element;
      there = spot.here;
      far = eq_true spot.element.far u (and_left (spot.element.far == u) (spot.element.number == k) spot.passes);
      inward = eq_true spot.element.number k (and_right (spot.element.far == u) (spot.element.number == k) spot.passes);
      had = sym (append-nil bytes) ∙ one_here (is_inward u k) _ cs o;
    }

pub all_read : (cs : List Conn) → AreReadBack cs → AllRead cs
all_read cs r = each_of (λ (c : Conn). Each (λ (x : Wrote). IsReadBack c.dialer x.writing) c.way.all) cs (λ i c e. each_of (λ (x : Wrote). IsReadBack c.dialer x.writing) c.way.all (λ j x f. r i j c x e f))

module _ (script : List ScriptLine) where
  abbrev at_end : Network
  at_end = (run {P = whole} {W = whole_ways} script).world

  holds : Holds at_end
  holds = run_holds script

  pub answer_on : AreReadBack at_end.connections → (i j : ℕ) (c : Conn) (x : Wrote) (from : UniqueAddress) (for_uid its_nonce : Option ℕ) → slice_get at_end.connections i ≡ Some c → slice_get c.way.all j ≡ Some x
      → x.writing ≡ Controls (controls.HandshakeRsp from for_uid its_nonce) → IsAnswerOn at_end.connections c from for_uid its_nonce
  answer_on r i j c x from for_uid its_nonce e f k =
      let said : IsTrue at_end.connections c x.writing = each_get (λ (y : Wrote). IsTrue at_end.connections c y.writing) c.way.all j x (each_get (ConnFacts at_end.connections) at_end.connections i c holds.out.conns e).said f in
      let t : AllRead at_end.connections → (from.uid ≡ c.dialer) × IsAnswerFor from.uid for_uid its_nonce at_end.connections = subst (λ (y : Writing). IsTrue at_end.connections c y) k said in
      let a : (from.uid ≡ c.dialer) × IsAnswerFor from.uid for_uid its_nonce at_end.connections = t (all_read at_end.connections r) in
      record { from = a.0; uid = a.1.uid; dial = a.1.nonce; asked = a.1.asked; nonce = a.1.its; reaches = reaches_there a.1.uid a.1.nonce from.uid at_end.connections a.1.reaches }

  live_facts : at_end.ended ≡ None → (i : ℕ) (l : Live whole) → slice_get at_end.live i ≡ Some l → LiveFacts nothing_left at_end l
  live_facts live i l e = each_get (LiveFacts nothing_left at_end) at_end.live i l (holds.going live).live e

  pub bound_to : at_end.ended ≡ None → AreReadBack at_end.connections → (i j : ℕ) (l : Live whole) (p : Peer whole) (stream : Stream) (c : OutConn) (uid : ℕ) → slice_get at_end.live i ≡ Some l → slice_get l.node.peers j ≡ Some p
      → conn_of stream p ≡ Some c → c.state ≡ Bound uid → ReachesThere at_end.connections l.node.me.uid c.dial uid
  bound_to live r i j l p stream c uid e f k b =
      let u : ℕ = l.node.me.uid in
      let cs : List Conn = at_end.connections in
      let q : PeerFacts u cs p = each_get (PeerFacts u cs) l.node.peers j p (live_facts live i l e).node.peers f in
      let o : StateFacts u cs c.dial c.state = subst (λ (x : Option OutConn). OutConnFacts u cs x) k (conn_facts_of u cs stream p q) in
      let t : StateFacts u cs c.dial (Bound uid) = subst (λ (x : OutState). StateFacts u cs c.dial x) b o in
      reaches_there u c.dial uid cs (t.1 (all_read cs r))

  pub known_on : at_end.ended ≡ None → AreReadBack at_end.connections → (i j : ℕ) (l : Live whole) (k : Inbound whole) (who : UniqueAddress) (its_nonce : Option ℕ) → slice_get at_end.live i ≡ Some l → slice_get l.node.inbound j ≡ Some k
      → k.state ≡ Known who its_nonce → WasDialed at_end.connections l.node.me.uid k.number who its_nonce
  known_on live r i j l k who its_nonce e f b =
      let u : ℕ = l.node.me.uid in
      let cs : List Conn = at_end.connections in
      let q : InboundFacts u cs k = each_get (InboundFacts u cs) l.node.inbound j k (live_facts live i l e).node.inbound f in
      was_dialed u k.number who its_nonce cs (subst (λ (x : InState). KnownFacts u cs k.number x) b (q.known (all_read cs r)))

  pub delivered_to : at_end.ended ≡ None → AreReadBack at_end.connections → (i k : ℕ) (l : Live whole) (n : Inbound whole) → slice_get at_end.live i ≡ Some l → inbound_at k l.node ≡ Some n
      → WereDelivered at_end.connections l.node.me.uid k n.bytes
  delivered_to live r i k l n e f = were_delivered l.node.me.uid k n.bytes at_end.connections ((live_facts live i l e).heard (all_read at_end.connections r) k n.bytes (ap bytes_in f))
