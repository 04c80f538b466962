-- What is in flight on a connection, by its bytes and frames; and the names of connections.
use Rattle.std.proofs.Common.{◌≡◌, ℕ, zero, suc, ◌+◌, ◌≤◌, ◌<◌, Bool, true, false, ◌&&◌, cond, List, [], ◌∷◌, length, take, drop, refl, sym, ◌∙◌, ap, subst, arith, take-append-drop}
use Rattle.std.specs.Prelude.{None, Some, ◌==◌, nat_lt, slice_get, Option}
use Rattle.std.specs.List.{filter, AllByRecursion}
use Rattle.std.proofs.lemmas.Bool.Decides.{nat_tests}
use Rattle.artery_base.specs.declared.address.Address.{Address}
use Rattle.artery_base.specs.declared.address.UniqueAddress.{UniqueAddress}
use Rattle.artery_control.specs.declared.control.Control.TheVariants as controls
use Rattle.artery_base.specs.Words.{IsPrefix}
use Rattle.artery_frame.specs.declared.stream.Stream.{Stream}
use Rattle.artery_frame.specs.Stream.{written, IsShort, IsFrontReading, reading_of}
use Rattle.artery_script.specs.declared.script.ScriptLine.{ScriptLine}
use Rattle.artery_machine.specs.Deeds.{Writing, Controls}
use Rattle.artery_machine.specs.Parts.{whole}
use Rattle.artery_machine.specs.Ways.{Wrote, bytes_on, whole_ways}
use Rattle.artery_machine.specs.Connections.{is_dialed, is_inward}
use Rattle.artery_machine.specs.World.{Live, is_pending}
use Rattle.artery_machine.specs.Playing.{run}
use Rattle.artery_flight.specs.Flight.{IsInFlight, had_on, frames_by, AreBytesOf, WereHadOf, IsRequestOn}
use Rattle.artery_flight.specs.Names.{reaching, AreSingle, Counts}
use Rattle.artery_flight.proofs.Lists.{by_test, eq_self, and_both, each_get, count, count_here, place_single}
use Rattle.artery_flight.proofs.Streams.{bytes_are}
use Rattle.artery_flight.proofs.Facts.{Network, Conn, ConnFacts, is_far, Out, IsFresh, IsTrue}
use Rattle.artery_flight.proofs.Feeding.{nothing_left}
use Rattle.artery_flight.proofs.Networks.{LiveFacts, Going, Holds}
use Rattle.artery_flight.proofs.Playing.{run_holds}

-- the law of the readings of beginnings
abbrev pub Fronts : Type 0
Fronts = (stream : Stream) (frames : List (List ℕ)) (bytes : List ℕ) → AllByRecursion IsShort frames → IsPrefix bytes (written stream frames) → IsFrontReading stream frames (reading_of bytes)

were_had : Fronts → (uid : ℕ) (bytes : List ℕ) (n : ℕ) (ws : List Wrote) → AreBytesOf uid bytes ws → WereHadOf uid (take n bytes) ws
were_had law uid bytes n [] h = ap (take n) h ∙ nothing n
  where
    none : List ℕ
    none = []

    nothing : (k : ℕ) → take k [] ≡ none
    nothing zero = refl
    nothing (suc k) = refl
were_had law uid bytes n (w ∷ ws) h = λ short.
    let r : IsFrontReading h.0 (frames_by uid ws) (reading_of (take n bytes)) = law h.0 (frames_by uid ws) (take n bytes) short (drop n bytes, take-append-drop n bytes ∙ h.2) in
    (r.sound, r.first)

-- ---- the laws of a run

module _ (script : List ScriptLine) where
  abbrev at_end : Network
  at_end = (run {P = whole} {W = whole_ways} script).world

  holds : Holds at_end
  holds = run_holds script

  pub in_flight : (i : ℕ) (c : Conn) → slice_get at_end.connections i ≡ Some c → IsInFlight c
  in_flight i c e = (each_get (ConnFacts at_end.connections) at_end.connections i c holds.out.conns e).flies

  pub bytes_of_connection : (i : ℕ) (c : Conn) → slice_get at_end.connections i ≡ Some c → AreBytesOf c.dialer (bytes_on c.way) c.way.all
  bytes_of_connection i c e = bytes_are c.dialer c.way.all (in_flight i c e).written

  pub had_of_connection : Fronts → (i : ℕ) (c : Conn) → slice_get at_end.connections i ≡ Some c → WereHadOf c.dialer (had_on c) c.way.all
  had_of_connection law i c e = were_had law c.dialer (bytes_on c.way) c.way.delivered c.way.all (bytes_of_connection i c e)

  pub request_on : (i j : ℕ) (c : Conn) (x : Wrote) (from : UniqueAddress) (to : Address) (its_nonce : Option ℕ) → slice_get at_end.connections i ≡ Some c → slice_get c.way.all j ≡ Some x
      → x.writing ≡ Controls (controls.HandshakeReq from to its_nonce) → IsRequestOn c from its_nonce
  request_on i j c x from to its_nonce e f k =
      let said : IsTrue at_end.connections c x.writing = each_get (λ (y : Wrote). IsTrue at_end.connections c y.writing) c.way.all j x (each_get (ConnFacts at_end.connections) at_end.connections i c holds.out.conns e).said f in
      subst (λ (y : Writing). IsTrue at_end.connections c y) k said

-- ---- names

count_reaching : (u : ℕ) (cs : List Conn) → reaching u cs ≡ count (is_far u) cs
count_reaching u [] = refl
count_reaching u (c ∷ cs) = by (c.far == u) (count_reaching u cs)
  where
    by : (b : Bool) → length (filter (λ (d : Conn). d.far == u) cs) ≡ count (is_far u) cs → length (cond b (c ∷ filter (λ (d : Conn). d.far == u) cs) (filter (λ (d : Conn). d.far == u) cs)) ≡ cond b (suc (count (is_far u) cs)) (count (is_far u) cs)
    by true h = ap suc h
    by false h = h

named : (a b x y : ℕ) → a ≡ x → b ≡ y → ((a == x) && (b == y)) ≡ true
named a b x y p q = and_both (a == x) (b == y) (ap (λ (z : ℕ). z == x) p ∙ eq_self x) (ap (λ (z : ℕ). z == y) q ∙ eq_self y)

pub are_single : (w : Network) → Out w → AreSingle w
are_single w h = record {
  dialed = λ i j c k e f p q. (let n : count (is_dialed k.dialer k.dial) w.connections ≤ 1 = (let a : count (is_pending k.dialer k.dial) w.pending + count (is_dialed k.dialer k.dial) w.connections ≤ 1 = h.once k.dialer k.dial in omega arith) in
      place_single (is_dialed k.dialer k.dial) w.connections i j c k n e f (named c.dialer c.dial k.dialer k.dial p q) (named k.dialer k.dial k.dialer k.dial refl refl));
  reached = λ i j c k e f p q. place_single (is_inward k.far k.number) w.connections i j c k (h.single k.far k.number) e f (named c.far c.number k.far k.number p q) (named k.far k.number k.far k.number refl refl);
  pending = λ i j p q e f a b. (let n : count (is_pending q.dialer q.dial) w.pending ≤ 1 = (let x : count (is_pending q.dialer q.dial) w.pending + count (is_dialed q.dialer q.dial) w.connections ≤ 1 = h.once q.dialer q.dial in omega arith) in
      place_single (is_pending q.dialer q.dial) w.pending i j p q n e f (named p.dialer p.dial q.dialer q.dial a b) (named q.dialer q.dial q.dialer q.dial refl refl));
  apart = λ i j p c e f a b.
      (let x : count (is_pending c.dialer c.dial) w.pending + count (is_dialed c.dialer c.dial) w.connections ≤ 1 = h.once c.dialer c.dial in
      let y : 1 ≤ count (is_pending c.dialer c.dial) w.pending = count_here (is_pending c.dialer c.dial) w.pending i p e (named p.dialer p.dial c.dialer c.dial a b) in
      let z : 1 ≤ count (is_dialed c.dialer c.dial) w.connections = count_here (is_dialed c.dialer c.dial) w.connections j c f (named c.dialer c.dial c.dialer c.dial refl refl) in
      omega arith);
  counted = λ i c e. subst (λ (n : ℕ). c.number ≤ n) (sym (count_reaching c.far w.connections)) (each_get (λ (x : Conn). x.number ≤ count (is_far x.far) w.connections) w.connections i c h.numbered e);
}

at_most : (a b : ℕ) → (a < b → ⊥) → b ≤ a
at_most a b h = by_test (nat_lt a b) (λ t. absurd (h (below t))) (λ t. above t)
  where
    below : nat_lt a b ≡ true → a < b
    below t = grind (arith, nat_tests)

    above : nat_lt a b ≡ false → b ≤ a
    above t = grind (arith, nat_tests)

pub counts_hold : (w : Network) → Going nothing_left w → (i : ℕ) (l : Live whole) → slice_get w.live i ≡ Some l → Counts w l
counts_hold w g i l e =
    let f : LiveFacts nothing_left w l = each_get (LiveFacts nothing_left w) w.live i l g.live e in
    record {
      accepted = f.accepted ∙ sym (count_reaching l.node.me.uid w.connections);
      dialed = λ j c k p. at_most l.node.dials c.dial (λ b. (let x : IsFresh l.node.me.uid c.dial w = f.node.fresh c.dial b in
          let y : 1 ≤ count (is_dialed l.node.me.uid c.dial) w.connections = count_here (is_dialed l.node.me.uid c.dial) w.connections j c k (named c.dialer c.dial l.node.me.uid c.dial p refl) in
          let z : count (is_dialed l.node.me.uid c.dial) w.connections ≡ 0 = x.made in omega arith));
      pending = λ j q k p. at_most l.node.dials q.dial (λ b. (let x : IsFresh l.node.me.uid q.dial w = f.node.fresh q.dial b in
          let y : 1 ≤ count (is_pending l.node.me.uid q.dial) w.pending = count_here (is_pending l.node.me.uid q.dial) w.pending j q k (named q.dialer q.dial l.node.me.uid q.dial p refl) in
          let z : count (is_pending l.node.me.uid q.dial) w.pending ≡ 0 = x.pending in omega arith));
    }

pub run_is_single : (script : List ScriptLine) → AreSingle (run {P = whole} {W = whole_ways} script).world
run_is_single script = are_single _ (run_holds script).out

pub run_counts : (script : List ScriptLine) (i : ℕ) (l : Live whole) → (run {P = whole} {W = whole_ways} script).world.ended ≡ None → slice_get (run {P = whole} {W = whole_ways} script).world.live i ≡ Some l → Counts (run {P = whole} {W = whole_ways} script).world l
run_counts script i l live e = counts_hold _ ((run_holds script).going live) i l e
