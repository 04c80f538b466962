-- Bytes that arrive, connections that end, and the events of a script.
use Rattle.std.proofs.Common.{take-append-drop, ◌≡◌, ℕ, zero, suc, ◌+◌, ◌-◌, ◌≤◌, Bool, true, false, ◌&&◌, cond, List, [], ◌∷◌, ◌++◌, length, take, drop, refl, sym, ◌∙◌, ap, subst, arith, append-nil, length-drop}
use Rattle.std.specs.Prelude.{Option, None, Some, ◌==◌, not, min, is_none, is_some, slice_get, slice_set}
use Rattle.artery_base.specs.declared.address.UniqueAddress.{UniqueAddress}
use Rattle.artery_script.specs.declared.event.Event.{Event}
use Rattle.artery_script.specs.declared.event.Event.TheVariants as events
use Rattle.artery_script.specs.declared.script.ScriptLine.{ScriptLine}
use Rattle.artery_machine.specs.declared.input.Conn.TheVariants.{Outward, Inward}
use Rattle.artery_machine.specs.declared.input.Input.TheVariants as inputs
use Rattle.artery_machine.specs.declared.world.Why.{Why}
use Rattle.artery_machine.specs.declared.world.Why.TheVariants as why
use Rattle.artery_machine.specs.declared.world.WorldFault.{WorldFault}
use Rattle.artery_machine.specs.Parts.{whole}
use Rattle.artery_machine.specs.Ways.{Wrote, Written, bytes_on, left_on, whole_ways}
use Rattle.artery_machine.specs.Connections.{is_dialed, is_inward, far_open, undelivered_on, is_loaded, load, near_ended, far_ended, with_delivered, place_dialed}
use Rattle.artery_machine.specs.World.{Change, stays, going_on, each, times, has_uid, unless, first_of, live_of, live_at, connection_becomes, by_connection, gives, was_started, stops_one, settles, fails, pieces, carries, cuts, ends_far, where_it, for_each, carries_all, settles_next, passes_once, refusal, happens, unless_refused, applies, nothing, piece_size}
use Rattle.artery_machine.specs.Playing.{fault_of, goes_on, plays, run}
use Rattle.artery_flight.proofs.Lists.{on_cond, eq_true, eq_self, eq_false, and_both, not_some, each_weaker, no_place, each_get, each_of}
use Rattle.artery_flight.proofs.Lines.{took_none}
use Rattle.artery_flight.proofs.Deeds.{lines_grow}
use Rattle.artery_flight.proofs.Facts.{read_before, grow_set, node_later, Network, Conn, ConnFacts, is_far, Grows, Grow, grow_count, dialed_same, far_same, true_later}
use Rattle.artery_flight.proofs.Deeds.{nobody, near_quiet, far_quiet, set_conn, set_out, becomes_set}
use Rattle.artery_flight.proofs.Rules.{none_is, none_not}
use Rattle.artery_flight.proofs.Feeding.{Rest, nothing_left, left_to, heard_left, delivered_heard}
use Rattle.artery_flight.proofs.Networks.{LiveFacts, Unstarted, Going, HoldsBut, Holds, Safe, holds_same}
use Rattle.artery_flight.proofs.Coming.{gives_came}
use Rattle.artery_flight.proofs.Starting.{becomes_holds, then_holds, going_holds, places_hold, times_hold, found_holds, SafeAt, at_place_holds, gives_holds, starts_hold, stops_hold}
use Rattle.artery_flight.proofs.Joining.{settles_hold, by_pending_holds, fails_hold, settling}

-- ---- bytes and ends

pub min_less : (a b : ℕ) → min a b ≤ b
min_less a b = omega arith

pub left_less : (w : Written) → w.delivered ≤ length (bytes_on w) → w.delivered + length (left_on w) ≤ length (bytes_on w)
left_less w h = on_cond (λ (bs : List ℕ). w.delivered + length bs ≤ length (bytes_on w)) w.is_open (drop w.delivered (bytes_on w)) []
    (λ t. (let a : length (drop w.delivered (bytes_on w)) ≡ length (bytes_on w) - w.delivered = length-drop w.delivered (bytes_on w) in let b : w.delivered ≤ length (bytes_on w) = h in omega arith))
    (λ t. (let b : w.delivered ≤ length (bytes_on w) = h in omega arith))

-- more bytes are delivered, and are left to be given
pub delivered_holds : (n i : ℕ) (c : Conn) (w : Network) → slice_get w.connections i ≡ Some c → Holds w → HoldsBut (left_to c (take n (undelivered_on c))) (connection_becomes (with_delivered n) i w)
delivered_holds n i c w e h = subst (HoldsBut (left_to c (take n (undelivered_on c)))) (sym (becomes_set (with_delivered n) i w c e)) (record {
  out = set_out nobody w i c (with_delivered n c) e grows (lines_grow w.connections (slice_set w.connections i (with_delivered n c)) w.outcomes g h.out.told) h.out (λ l. record {
    flies = record {
      written = was.flies.written;
      delivered = (let a : c.way.delivered + length (left_on c.way) ≤ length (bytes_on c.way) = left_less c.way was.flies.delivered in let b : min n (length (left_on c.way)) ≤ length (left_on c.way) = min_less n (length (left_on c.way)) in omega arith);
    };
    said = each_weaker _ _ (λ (x : Wrote) t. true_later nobody w.connections v.connections l c (with_delivered n c) grows x.writing t) c.way.all was.said;
  });
  going = λ live. (let k : Going nothing_left w = h.going live in record {
    live = each_weaker (LiveFacts nothing_left w) (LiveFacts left v) (λ x f. record {
      node = node_later nobody x.node.me.uid x.node w v g ([], append-nil w.outcomes) (λ y. refl) (λ d. refl) f.node;
      accepted = f.accepted ∙ sym (grow_count nobody (is_far x.node.me.uid) (far_same nobody x.node.me.uid) w.connections v.connections g);
      heard = λ a j bytes b. delivered_heard n i c w.connections e x.node.me.uid j bytes (f.heard (read_before nobody w.connections v.connections g a) j bytes b);
    }) w.live k.live;
    alone = k.alone;
    unstarted = λ u s. (let f : Unstarted u w = k.unstarted u s in record {
      fresh = λ d. record { pending = (f.fresh d).pending; made = grow_count nobody (is_dialed u d) (dialed_same nobody u d) w.connections v.connections g ∙ (f.fresh d).made };
      far = grow_count nobody (is_far u) (far_same nobody u) w.connections v.connections g ∙ f.far;
      live = f.live;
      unnamed = f.unnamed;
      silent = f.silent;
    });
  });
})
  where
    left : Rest
    left = left_to c (take n (undelivered_on c))

    v : Network
    v = set_conn i (with_delivered n c) w

    grows : Grows nobody c (with_delivered n c)
    grows = record { dialer = refl; dial = refl; far = refl; number = refl; near = λ h. h; others = λ h. refl; more = ([], append-nil c.way.all) }

    g : Grow nobody w.connections (slice_set w.connections i (with_delivered n c))
    g = grow_set nobody w.connections i c (with_delivered n c) e grows

    was : ConnFacts w.connections c
    was = each_get (ConnFacts w.connections) w.connections i c h.out.conns e

-- pieces are given one after the other
pub piece_holds : (c : Conn) (piece rest : List ℕ) (w : Network) → HoldsBut (left_to c (piece ++ rest)) w → HoldsBut (left_to c rest) (going_on (gives c.far (inputs.Bytes c.number piece)) w)
piece_holds c piece rest w h = on_cond (HoldsBut (left_to c rest)) (is_none w.ended) (gives c.far (inputs.Bytes c.number piece) w) w
    (λ t. (gives_came c.far (inputs.Bytes c.number piece) (left_to c (piece ++ rest)) (left_to c rest) w (λ q e. tt) nobody_lives
    ((at_it (piece ++ rest) ∙ ap (λ bs. piece ++ bs) (sym (at_it rest))), (λ f j o. ap (λ (b : Bool). cond b (piece ++ rest) []) o ∙ sym (ap (λ (b : Bool). cond b rest []) o))) h).holds)
    (λ t. record { out = h.out; going = λ e. none_not w.ended t e })
  where
    at_it : (bs : List ℕ) → left_to c bs c.far c.number ≡ bs
    at_it bs = ap (λ (b : Bool). cond b bs []) (and_both (c.far == c.far) (c.number == c.number) (eq_self c.far) (eq_self c.number))

    -- nobody had anything of it
    nobody_lives : live_of c.far w ≡ None → HoldsBut (left_to c rest) w
    nobody_lives e = record {
      out = h.out;
      going = λ live. (let k : Going (left_to c (piece ++ rest)) w = h.going live in record {
        live = each_of (LiveFacts (left_to c rest) w) w.live (λ i x f. (let q : LiveFacts (left_to c (piece ++ rest)) w x = each_get (LiveFacts (left_to c (piece ++ rest)) w) w.live i x k.live f in record {
          node = q.node;
          accepted = q.accepted;
          heard = λ a j bytes b. heard_left x.node.me.uid j bytes (left_to c (piece ++ rest) x.node.me.uid j) (left_to c rest x.node.me.uid j) w.connections
              (let o : ((c.far == x.node.me.uid) && (c.number == j)) ≡ false = ap (λ (d : Bool). d && (c.number == j)) (eq_false c.far x.node.me.uid (λ y. no_place (has_uid c.far) w.live i x e f (ap (λ (z : ℕ). x.node.me.uid == z) y ∙ eq_self x.node.me.uid))) in
              ap (λ (d : Bool). cond d (piece ++ rest) []) o ∙ sym (ap (λ (d : Bool). cond d rest []) o)) (q.heard a j bytes b);
        }));
        alone = k.alone;
        unstarted = k.unstarted;
      });
    }

pub no_bytes : (xs : List ℕ) → (length xs == 0) ≡ true → xs ≡ []
no_bytes [] h = refl
no_bytes (x ∷ xs) h = absurd (let e : suc (length xs) ≡ 0 = eq_true (suc (length xs)) 0 h in (let c : ⊥ = omega arith in c))

pub shorter : (a s m : ℕ) → a ≤ suc m → 1 ≤ s → a - s ≤ m
shorter a s m h k = omega arith

pub nothing_to : (c : Conn) (bytes : List ℕ) (w : Network) → bytes ≡ [] → HoldsBut (left_to c bytes) w → Holds w
nothing_to c bytes w e h = holds_same (left_to c bytes) nothing_left w (λ u k. ap (λ bs. cond (is_inward u k c) bs []) e ∙ none (is_inward u k c)) h
  where
    nil : List ℕ
    nil = []

    none : (b : Bool) → cond b nil [] ≡ nil
    none true = refl
    none false = refl

pub pieces_hold : (most : ℕ) (c : Conn) (bytes : List ℕ) (w : Network) → length bytes ≤ most → HoldsBut (left_to c bytes) w → Holds (each (pieces most bytes) (λ piece. gives c.far (inputs.Bytes c.number piece)) w)
pieces_hold zero c bytes w n h = nothing_to c bytes w (no_bytes bytes (let e : length bytes ≡ 0 = omega arith in ap (λ (x : ℕ). x == 0) e ∙ eq_self 0)) h
pieces_hold (suc most) c bytes w n h = by (length bytes == 0) refl (λ v k. pieces_hold most c (drop piece_size bytes) v (let e : length (drop piece_size bytes) ≡ length bytes - piece_size = length-drop piece_size bytes in subst (λ (x : ℕ). x ≤ most) (sym e) (shorter (length bytes) piece_size most n one_at_least)) k)
  where
    one_at_least : 1 ≤ piece_size
    one_at_least = omega arith

    by : (b : Bool) → (length bytes == 0) ≡ b → ((v : Network) → HoldsBut (left_to c (drop piece_size bytes)) v → Holds (each (pieces most (drop piece_size bytes)) (λ piece. gives c.far (inputs.Bytes c.number piece)) v))
        → Holds (each (cond b [] (take piece_size bytes ∷ pieces most (drop piece_size bytes))) (λ piece. gives c.far (inputs.Bytes c.number piece)) w)
    by true e rest = nothing_to c bytes w (no_bytes bytes e) h
    by false e rest = rest (going_on (gives c.far (inputs.Bytes c.number (take piece_size bytes))) w)
        (piece_holds c (take piece_size bytes) (drop piece_size bytes) w (subst (λ bs. HoldsBut (left_to c bs) w) (sym (take-append-drop piece_size bytes)) h))

pub take_within : (n : ℕ) (xs : List ℕ) → length (take n xs) ≤ n
take_within zero xs = omega arith
take_within (suc n) [] = omega arith
take_within (suc n) (x ∷ xs) = (let a : length (take n xs) ≤ n = take_within n xs in let b : suc (length (take n xs)) ≤ suc n = omega arith in b)

pub carries_hold : (n : ℕ) → SafeAt (carries n)
carries_hold n i c w e h = pieces_hold n c (take n (undelivered_on c)) (connection_becomes (with_delivered n) i w) (take_within n (undelivered_on c)) (delivered_holds n i c w e h)

pub cuts_hold : SafeAt cuts
cuts_hold i c w e h = then_holds (connection_becomes near_ended i) (gives c.dialer (inputs.Ended (Outward c.dial))) (becomes_holds near_ended near_quiet i) (gives_holds c.dialer (inputs.Ended (Outward c.dial)) tt) w h

pub ends_far_hold : SafeAt ends_far
ends_far_hold i c w e h = then_holds (connection_becomes far_ended i) (gives c.far (inputs.Ended (Inward c.number))) (becomes_holds far_ended far_quiet i) (gives_holds c.far (inputs.Ended (Inward c.number)) tt) w h

pub where_holds : (test : Conn → Bool) (c : ℕ → Conn → Change whole whole_ways) → SafeAt c → SafeAt (where_it test c)
where_holds test c a i x w e h = on_cond (λ (d : Change whole whole_ways). Holds (d w)) (test x) (c i x) stays (λ t. a i x w e h) (λ t. h)

pub for_each_holds : (test : Conn → Bool) (c : ℕ → Conn → Change whole whole_ways) → SafeAt c → Safe (for_each test c)
for_each_holds test c a w h = places_hold 0 (length w.connections) (by_connection (where_it test c)) (λ i. at_place_holds (where_it test c) (where_holds test c a) i) w h

pub all_hold : SafeAt carries_all
all_hold i c w e h = carries_hold (load c) i c w e h

pub passes_hold : Safe passes_once
passes_hold w h = going_holds (for_each is_loaded carries_all) (for_each_holds is_loaded carries_all all_hold) (times (length w.pending) settles_next w) (settling (length w.pending) w h)

-- ---- events

pub not_started : (v : UniqueAddress) (w : Network) → refusal (events.Start v) w ≡ None → was_started v.uid w ≡ false
not_started v w e = by (was_started v.uid w) e
  where
    by : (b : Bool) → first_of (unless (not b) why.UsedUid) (unless (not (is_some (live_at v.address w))) why.AddressLive) ≡ None → b ≡ false
    by true k = absurd (not_some (sym k))
    by false k = refl

pub happens_holds : (event : Event) (w : Network) → refusal event w ≡ None → w.ended ≡ None → Holds w → Holds (happens event w)
happens_holds (events.Start v) w e live h = starts_hold v w (not_started v w e) h
happens_holds (events.Stop uid) w e live h = found_holds stops_one stops_hold (live_of uid w) w h
happens_holds (events.At uid request) w e live h = gives_holds uid (inputs.Request request) tt w h
happens_holds (events.Tick uid moment) w e live h = gives_holds uid (inputs.Tick moment) tt w h
happens_holds (events.Answer uid dial) w e live h = by_pending_holds uid dial settles settles_hold w live h
happens_holds (events.Fail uid dial) w e live h = by_pending_holds uid dial fails fails_hold w live h
happens_holds (events.Carry uid dial n) w e live h = found_holds (by_connection (carries n)) (λ i. at_place_holds (carries n) (carries_hold n) i) (place_dialed uid dial w.connections) w h
happens_holds (events.Cut uid dial) w e live h = found_holds (by_connection cuts) (λ i. at_place_holds cuts cuts_hold i) (place_dialed uid dial w.connections) w h
happens_holds (events.End uid dial) w e live h = found_holds (by_connection ends_far) (λ i. at_place_holds ends_far ends_far_hold i) (place_dialed uid dial w.connections) w h
happens_holds (events.CutAll uid) w e live h = for_each_holds (λ c. (c.dialer == uid) && c.near_open) cuts cuts_hold w h
happens_holds (events.EndAll uid) w e live h = for_each_holds (λ c. (c.dialer == uid) && far_open c) ends_far ends_far_hold w h
happens_holds (events.Pass rounds) w e live h = times_hold rounds passes_once passes_hold w h

pub applies_holds : (event : Event) (w : Network) → Holds w → Holds (applies event w)
applies_holds event w h = on_cond Holds (is_none w.ended) (unless_refused (refusal event w) event w) w (λ t. by (none_is w.ended t) (refusal event w) refl) (λ t. h)
  where
    by : w.ended ≡ None → (x : Option Why) → refusal event w ≡ x → Holds (unless_refused x event w)
    by live None e = happens_holds event w e live h
    by live (Some reason) e = h

pub nothing_holds : Holds nothing
nothing_holds = record {
  out = record { conns = tt; once = λ u d. omega arith; single = λ f k. omega arith; numbered = tt; told = record { own = λ a. tt; sent = λ a b. ([], refl); took = λ a. took_none } };
  going = λ e. record { live = tt; alone = λ u. omega arith; unstarted = λ u s. record { fresh = λ d. record { pending = refl; made = refl }; far = refl; live = refl; unnamed = refl; silent = λ x y e. refl } };
}

pub plays_hold : (script : List ScriptLine) (w : Network) → Holds w → Holds (plays script w).world
plays_hold [] w h = h
plays_hold (l ∷ script) w h = by (fault_of l.event w) (plays_hold script (applies l.event w) (applies_holds l.event w h))
  where
    by : (x : Option WorldFault) → Holds (plays script (applies l.event w)).world → Holds (goes_on l.line (applies l.event w) x (plays script (applies l.event w))).world
    by None later = later
    by (Some fault) later = applies_holds l.event w h

pub run_holds : (script : List ScriptLine) → Holds (run {P = whole} {W = whole_ways} script).world
run_holds script = plays_hold script nothing nothing_holds
