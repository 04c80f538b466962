-- What a node does outside keeps the facts, deed by deed.
use Rattle.std.proofs.Common.{◌≡◌, ℕ, ◌+◌, ◌≤◌, Bool, true, false, ◌&&◌, List, [], ◌∷◌, ◌++◌, length, refl, sym, ◌∙◌, ap, subst, arith, append-nil, length-append}
use Rattle.std.specs.Prelude.{Option, None, Some, ◌==◌, not, flat_map, slice_get, slice_set}
use Rattle.artery_base.specs.declared.address.Address.{Address}
use Rattle.artery_frame.specs.declared.stream.Stream.{Stream}
use Rattle.artery_machine.specs.declared.input.Conn.TheVariants.{Outward, Inward}
use Rattle.artery_machine.specs.declared.world.Outcome.{Outcome}
use Rattle.artery_machine.specs.declared.world.Outcome.TheVariants as outcomes
use Rattle.artery_machine.specs.declared.world.WorldLimit.{WorldLimit}
use Rattle.artery_machine.specs.declared.world.WorldLimit.TheVariants as limits
use Rattle.artery_machine.specs.Lists.{put_at}
use Rattle.artery_machine.specs.Deeds.{Writing, Begins, Deed, Dials, Writes, Hangs, Tells, bytes_of}
use Rattle.artery_machine.specs.Parts.{whole}
use Rattle.artery_machine.specs.Ways.{Wrote, Written, bytes_on, whole_ways}
use Rattle.artery_machine.specs.Connections.{is_dialed, is_inward, near_ended, far_ended, with_writing, place_dialed, place_inward}
use Rattle.artery_machine.specs.Doing.{Sink}
use Rattle.artery_machine.specs.World.{is_pending, Change, stays, going_on, ends, by_found, by_connection, connection_becomes, comes_out, is_too_much, writes, dials, does as does_outside}
use Rattle.artery_flight.specs.Flight.{is_frame, AreFramesBy, IsStreamBy, IsInFlight}
use Rattle.artery_base.specs.declared.address.UniqueAddress.{UniqueAddress}
use Rattle.artery_base.specs.declared.message.SysMsg.{SysMsg}
use Rattle.artery_flight.proofs.Lines.{IsPlain, IsPlainLine, IsOwn, own_more, sent_in, sent_plain, numbered, plain_unnamed, took_plain}
use Rattle.artery_flight.proofs.Lists.{by_test, by_option, on_cond, not_both, eq_true, eq_self, and_left, and_right, and_both, not_some, Each, each_weaker, each_get, each_set, each_push, count, count_set, count_yes, count_no, position_passes, Placed, placed, single_each, single_set}
use Rattle.artery_flight.proofs.Facts.{AllRead, read_before, LineFacts, Network, Conn, IsTrue, ConnFacts, is_far, Out, IsBegun, Speaks, IsSilent, IsFresh, Grows, Grow, grow_self, grow_set, grow_count, grow_each, stay_self, stay_set, dialed_same, inward_same, far_same, Later, later_self, later_trans, true_later, conn_facts_later}

-- The outside of the node with this UID at a moment: a deed is done there at once, unless the network has ended.
abbrev pub outward : ℕ → ℕ → Sink
outward u m = record { Deeds = Network; told = λ deed w. going_on (does_outside u m deed) w }

-- Those who may write are this one alone.
abbrev pub only : ℕ → ℕ → Type 0
only u x = x ≡ u

-- Nobody may write.
abbrev pub nobody : ℕ → Type 0
nobody x = ⊥

-- ---- lines

-- lines that say nothing of messages and names
pub lines_plain : (cs : List Conn) (os : List Outcome) (o : Outcome) → IsPlain o → LineFacts cs os → LineFacts cs (os ++ o ∷ [])
lines_plain cs os o p h = record {
  own = λ a. each_weaker _ _ (λ (c : Conn) k. each_weaker _ _ (λ (x : Wrote) t. own_more os (os ++ o ∷ []) c.far x.writing (o ∷ [], refl) t) c.way.all k) cs (h.own a);
  sent = λ a b. (let k : (ms : List SysMsg) × (sent_in a b os ≡ numbered 1 ms) = h.sent a b in (k.0, sent_plain a b os o p ∙ k.1));
  took = λ a. took_plain os o p (h.took a);
}

-- connections on which nobody writes
pub lines_grow : (cs ds : List Conn) (os : List Outcome) → Grow nobody cs ds → LineFacts cs os → LineFacts ds os
lines_grow cs ds os g h = record {
  own = λ a. grow_each nobody (λ (c : Conn). Each (λ (x : Wrote). IsOwn os c.far x.writing) c.way.all) (λ (c : Conn). Each (λ (x : Wrote). IsOwn os c.far x.writing) c.way.all) own_same cs ds g (h.own (read_before nobody cs ds g a));
  sent = h.sent;
  took = λ a. h.took (read_before nobody cs ds g a);
}
  where
    own_same : (c d : Conn) → Grows nobody c d → Each (λ (x : Wrote). IsOwn os c.far x.writing) c.way.all → Each (λ (x : Wrote). IsOwn os d.far x.writing) d.way.all
    own_same c d k t = subst (λ ws. Each (λ (x : Wrote). IsOwn os d.far x.writing) ws) (sym (k.others (λ o. o))) (subst (λ (f : ℕ). Each (λ (x : Wrote). IsOwn os f x.writing) c.way.all) (sym k.far) t)

-- something more is written on one of them
pub lines_set : (cs : List Conn) (os : List Outcome) (i : ℕ) (c d : Conn) (z : Wrote) → slice_get cs i ≡ Some c → d.far ≡ c.far → d.way.all ≡ c.way.all ++ z ∷ [] → (AllRead (slice_set cs i d) → AllRead cs) → (AllRead cs → IsOwn os c.far z.writing) → LineFacts cs os → LineFacts (slice_set cs i d) os
lines_set cs os i c d z e f k r own h = record {
  own = λ a. (let before : Each (λ (b : Conn). Each (λ (x : Wrote). IsOwn os b.far x.writing) b.way.all) cs = h.own (r a) in
      each_set (λ (b : Conn). Each (λ (x : Wrote). IsOwn os b.far x.writing) b.way.all) cs i d before
      (subst (λ ws. Each (λ (x : Wrote). IsOwn os d.far x.writing) ws) (sym k) (subst (λ (y : ℕ). Each (λ (x : Wrote). IsOwn os y x.writing) (c.way.all ++ z ∷ [])) (sym f)
      (each_push (λ (x : Wrote). IsOwn os c.far x.writing) c.way.all z (each_get (λ (b : Conn). Each (λ (x : Wrote). IsOwn os b.far x.writing) b.way.all) cs i c before e) (own (r a))))));
  sent = h.sent;
  took = λ a. h.took (r a);
}

-- ---- an outcome, and the end

pub outcome_later : (W : ℕ → Type 0) (o : Outcome) (w : Network) → IsPlain o → Later W w (comes_out o w)
outcome_later W o w p = record { conns = grow_self W w.connections; still = stay_self w.connections; told = (o ∷ [], refl); sent = λ x y n. sent_plain x y w.outcomes o p; unnamed = λ x n. plain_unnamed x w.outcomes o p n; pending = λ x d n. refl; going = λ h. h }

pub outcome_out : (o : Outcome) (w : Network) → IsPlain o → Out w → Out (comes_out o w)
outcome_out o w p h = record { conns = h.conns; once = h.once; single = h.single; numbered = h.numbered; told = lines_plain w.connections w.outcomes o p h.told }

pub ends_later : (W : ℕ → Type 0) (limit : WorldLimit) (w : Network) → Later W w (ends limit w)
ends_later W limit w = record { conns = grow_self W w.connections; still = stay_self w.connections; told = ([], append-nil w.outcomes); sent = λ x y n. refl; unnamed = λ x n. n; pending = λ x d n. refl; going = λ h. not_some (sym h) }

pub ends_out : (limit : WorldLimit) (w : Network) → Out w → Out (ends limit w)
ends_out limit w h = record { conns = h.conns; once = h.once; single = h.single; numbered = h.numbered; told = h.told }

-- ---- a connection changes

abbrev pub set_conn : ℕ → Conn → Network → Network
set_conn i d w = record w { connections = slice_set w.connections i d }

set_later : (W : ℕ → Type 0) (w : Network) (i : ℕ) (c d : Conn) → slice_get w.connections i ≡ Some c → d.way.delivered ≡ c.way.delivered → Grows W c d → Later W w (set_conn i d w)
set_later W w i c d e s g = record { conns = grow_set W w.connections i c d e g; still = stay_set w.connections i c d e s; told = ([], append-nil w.outcomes); sent = λ x y n. refl; unnamed = λ x n. n; pending = λ x y n. refl; going = λ h. h }

numbered_grow : (W : ℕ → Type 0) (cs ds : List Conn) → Grow W cs ds → Each (λ (c : Conn). c.number ≤ count (is_far c.far) cs) cs → Each (λ (c : Conn). c.number ≤ count (is_far c.far) ds) ds
numbered_grow W cs ds g h = grow_each W _ _ (λ c d k le.
    (let far : count (is_far d.far) ds ≡ count (is_far c.far) cs = ap (λ (x : ℕ). count (is_far x) ds) k.far ∙ grow_count W (is_far c.far) (far_same W c.far) cs ds g in
    let number : d.number ≡ c.number = k.number in
    let was : c.number ≤ count (is_far c.far) cs = le in omega arith)) cs ds g h

-- connections that go on keep their names
pub grow_out : (W : ℕ → Type 0) (w v : Network) → Grow W w.connections v.connections → ((u d : ℕ) → count (is_pending u d) v.pending ≤ count (is_pending u d) w.pending) → Each (ConnFacts v.connections) v.connections → LineFacts v.connections v.outcomes → Out w → Out v
grow_out W w v l fewer conns told h = record {
  conns = conns;
  once = λ u d. (let a : count (is_dialed u d) v.connections ≡ count (is_dialed u d) w.connections = grow_count W (is_dialed u d) (dialed_same W u d) w.connections v.connections l in
      let b : count (is_pending u d) v.pending ≤ count (is_pending u d) w.pending = fewer u d in
      let c : count (is_pending u d) w.pending + count (is_dialed u d) w.connections ≤ 1 = h.once u d in omega arith);
  single = λ f k. (let a : count (is_inward f k) v.connections ≡ count (is_inward f k) w.connections = grow_count W (is_inward f k) (inward_same W f k) w.connections v.connections l in
      let b : count (is_inward f k) w.connections ≤ 1 = h.single f k in omega arith);
  numbered = numbered_grow W w.connections v.connections l h.numbered;
  told = told;
}

pub set_out : (W : ℕ → Type 0) (w : Network) (i : ℕ) (c d : Conn) → slice_get w.connections i ≡ Some c → Grows W c d → LineFacts (slice_set w.connections i d) w.outcomes → Out w → (Grow W w.connections (slice_set w.connections i d) → ConnFacts (slice_set w.connections i d) d) → Out (set_conn i d w)
set_out W w i c d e g told h f =
    let l : Grow W w.connections (slice_set w.connections i d) = grow_set W w.connections i c d e g in
    grow_out W w (set_conn i d w) l (λ u x. omega arith)
    (each_set (ConnFacts (slice_set w.connections i d)) w.connections i d
    (each_weaker _ _ (λ x k. conn_facts_later W w.connections (slice_set w.connections i d) l x k) w.connections h.conns) (f l)) told h

pub becomes_set : (g : Conn → Conn) (i : ℕ) (w : Network) (c : Conn) → slice_get w.connections i ≡ Some c → connection_becomes g i w ≡ set_conn i (g c) w
becomes_set g i w c e = ap (λ (x : Option Conn). record w { connections = put_at i g w.connections x }) e

-- a connection ends at one of its sides: its name and what was written on it stay
pub record IsQuiet (g : Conn → Conn) : Type 0 where
  pub grows : (c : Conn) → Grows nobody c (g c)
  pub still : (c : Conn) → (g c).way.delivered ≡ c.way.delivered
  pub facts : (cs : List Conn) (c : Conn) → ConnFacts cs c → ConnFacts cs (g c)

pub near_quiet : IsQuiet near_ended
near_quiet = record {
  grows = λ c. record { dialer = refl; dial = refl; far = refl; number = refl; near = λ h. not_both h refl; others = λ h. refl; more = ([], append-nil c.way.all) };
  still = λ c. refl;
  facts = λ cs c h. record { flies = record { written = h.flies.written; delivered = h.flies.delivered }; said = each_weaker _ _ (λ x t. said_same cs c x.writing t) c.way.all h.said };
}
  where
    said_same : (cs : List Conn) (c : Conn) (x : Writing) → IsTrue cs c x → IsTrue cs (near_ended c) x
    said_same cs c x t = true_later nobody cs cs (grow_self nobody cs) c (near_ended c)
        (record { dialer = refl; dial = refl; far = refl; number = refl; near = λ h. not_both h refl; others = λ h. refl; more = ([], append-nil c.way.all) }) x t

pub far_quiet : IsQuiet far_ended
far_quiet = record {
  grows = λ c. record { dialer = refl; dial = refl; far = refl; number = refl; near = λ h. h; others = λ h. refl; more = ([], append-nil c.way.all) };
  still = λ c. refl;
  facts = λ cs c h. record { flies = record { written = h.flies.written; delivered = h.flies.delivered }; said = each_weaker _ _ (λ x t. said_same cs c x.writing t) c.way.all h.said };
}
  where
    said_same : (cs : List Conn) (c : Conn) (x : Writing) → IsTrue cs c x → IsTrue cs (far_ended c) x
    said_same cs c x t = true_later nobody cs cs (grow_self nobody cs) c (far_ended c)
        (record { dialer = refl; dial = refl; far = refl; number = refl; near = λ h. h; others = λ h. refl; more = ([], append-nil c.way.all) }) x t

-- what a change of the outside leaves, where nobody dials or writes
pub record Quietly (w v : Network) : Type 0 where
  pub later : Later nobody w v
  pub out : Out w → Out v

pub quietly_self : (w : Network) → Quietly w w
quietly_self w = record { later = later_self nobody w; out = λ h. h }

pub becomes_quietly : (g : Conn → Conn) → IsQuiet g → (i : ℕ) (w : Network) → Quietly w (connection_becomes g i w)
becomes_quietly g q i w = by_option (slice_get w.connections i)
    (λ e. subst (Quietly w) (sym (ap (λ (x : Option Conn). record w { connections = put_at i g w.connections x }) e)) (quietly_self w))
    (λ c e. subst (Quietly w) (sym (becomes_set g i w c e)) (record {
      later = set_later nobody w i c (g c) e (q.still c) (q.grows c);
      out = λ h. set_out nobody w i c (g c) e (q.grows c) (lines_grow w.connections (slice_set w.connections i (g c)) w.outcomes (grow_set nobody w.connections i c (g c) e (q.grows c)) h.told) h (λ k. q.facts _ c (conn_facts_later nobody w.connections (slice_set w.connections i (g c)) k c (each_get (ConnFacts w.connections) w.connections i c h.conns e)));
    }))

found_quietly : (g : Conn → Conn) → IsQuiet g → (i : Option ℕ) (w : Network) → Quietly w (by_found (connection_becomes g) i w)
found_quietly g q None w = quietly_self w
found_quietly g q (Some i) w = becomes_quietly g q i w

pub outcome_quietly : (o : Outcome) (w : Network) → IsPlain o → Quietly w (comes_out o w)
outcome_quietly o w p = record { later = outcome_later nobody o w p; out = outcome_out o w p }

-- a deed that neither dials nor writes, and tells nothing of messages and names
abbrev pub IsQuietDeed : Deed → Type 0
IsQuietDeed (Dials dial address) = ⊥
IsQuietDeed (Writes dial writing) = ⊥
IsQuietDeed (Hangs conn) = Unit {0}
IsQuietDeed (Tells line) = IsPlainLine line

pub deed_quietly : (u m : ℕ) (deed : Deed) (w : Network) → IsQuietDeed deed → Quietly w (does_outside u m deed w)
deed_quietly u m (Dials dial address) w q = absurd q
deed_quietly u m (Writes dial writing) w q = absurd q
deed_quietly u m (Hangs (Outward dial)) w q = found_quietly near_ended near_quiet (place_dialed u dial w.connections) w
deed_quietly u m (Hangs (Inward number)) w q = found_quietly far_ended far_quiet (place_inward u number w.connections) w
deed_quietly u m (Tells line) w q = outcome_quietly (outcomes.Line m line) w q

-- ---- something is written

-- What may be written behind that: first a preamble, then frames.
abbrev pub IsNext : List Wrote → Writing → Type 0
IsNext [] x = (stream : Stream) × (x ≡ Begins stream)
IsNext (y ∷ ys) x = is_frame x ≡ true

-- A node may write this on its connection with a dial number.
pub record MayWrite (u d : ℕ) (cs : List Conn) (os : List Outcome) (x : Writing) : Type 0 where
  pub next : Each (λ (c : Conn). is_dialed u d c ≡ true → c.near_open ≡ true → IsNext c.way.all x) cs
  pub said : Each (λ (c : Conn). is_dialed u d c ≡ true → IsTrue cs c x) cs
  pub own : AllRead cs → Each (λ (c : Conn). is_dialed u d c ≡ true → IsOwn os c.far x) cs

stream_more : (u : ℕ) (xs : List Wrote) (x : Writing) → IsStreamBy u xs → IsNext xs x → IsStreamBy u (xs ++ record { writing = x; bytes = bytes_of u x } ∷ [])
stream_more u [] x h n = (record { stream = n.0; writing = n.1; bytes = ap (bytes_of u) n.1 }, tt)
stream_more u (y ∷ ys) x h n = (h.0, more ys h.1)
  where
    more : (ys : List Wrote) → AreFramesBy u ys → AreFramesBy u (ys ++ record { writing = x; bytes = bytes_of u x } ∷ [])
    more [] k = (record { frame = n; bytes = refl }, tt)
    more (z ∷ zs) k = (k.0, more zs k.1)

bytes_more : (w : Written) (x : Wrote) → length (bytes_on w) ≤ length (bytes_on (record w { all = w.all ++ x ∷ [] }))
bytes_more w x = by w.all
  where
    by : (xs : List Wrote) → length (flat_map (λ (y : Wrote). y.bytes) xs) ≤ length (flat_map (λ (y : Wrote). y.bytes) (xs ++ x ∷ []))
    by [] = omega arith
    by (y ∷ ys) = (let a : length (flat_map (λ (z : Wrote). z.bytes) ys) ≤ length (flat_map (λ (z : Wrote). z.bytes) (ys ++ x ∷ [])) = by ys in
        let b : length (y.bytes ++ flat_map (λ (z : Wrote). z.bytes) ys) ≡ length y.bytes + length (flat_map (λ (z : Wrote). z.bytes) ys) = length-append y.bytes _ in
        let c : length (y.bytes ++ flat_map (λ (z : Wrote). z.bytes) (ys ++ x ∷ [])) ≡ length y.bytes + length (flat_map (λ (z : Wrote). z.bytes) (ys ++ x ∷ [])) = length-append y.bytes _ in omega arith)

pub record Changes (u : ℕ) (w v : Network) : Type 0 where
  pub later : Later (only u) w v
  pub pending : (d : ℕ) → count (is_pending u d) v.pending ≡ count (is_pending u d) w.pending
  pub sent : (x y : UniqueAddress) → sent_in x y v.outcomes ≡ sent_in x y w.outcomes
  pub out : Out v

writes_at : (u d : ℕ) (x : Writing) (i : ℕ) (c : Conn) (w : Network) → slice_get w.connections i ≡ Some c → is_dialed u d c ≡ true → Out w → MayWrite u d w.connections w.outcomes x → Changes u w (writes u d x (bytes_of u x) i c w)
writes_at u d x i c w e named h may =
    on_cond K (not c.near_open) stays _ (λ t. record { later = later_self (only u) w; pending = λ y. refl; sent = λ y k. refl; out = h })
    (λ t. on_cond K (is_too_much (length (bytes_of u x)) c w) (ends limits.Undelivered) _
    (λ s. record { later = ends_later (only u) limits.Undelivered w; pending = λ y. refl; sent = λ y k. refl; out = ends_out limits.Undelivered w h })
    (λ s. written (is_open c.near_open t)))
  where
    K : Change whole whole_ways → Type 0
    K change = Changes u w (change w)

    is_open : (b : Bool) → not b ≡ false → b ≡ true
    is_open true k = refl
    is_open false k = not_both refl k

    z : Wrote
    z = record { writing = x; bytes = bytes_of u x }

    o : Outcome
    o = outcomes.Wrote u d (bytes_of u x)

    d1 : Conn
    d1 = with_writing x (bytes_of u x) c

    grows : Grows (only u) c d1
    grows = record {
      dialer = refl;
      dial = refl;
      far = refl;
      number = refl;
      near = λ k. k;
      others = λ n. absurd (n (eq_true c.dialer u (and_left (c.dialer == u) (c.dial == d) named)));
      more = (z ∷ [], refl);
    }

    written : c.near_open ≡ true → Changes u w (comes_out o (connection_becomes (with_writing x (bytes_of u x)) i w))
    written near =
        let was : ConnFacts w.connections c = each_get (ConnFacts w.connections) w.connections i c h.conns e in
        let is_u : c.dialer ≡ u = eq_true c.dialer u (and_left (c.dialer == u) (c.dial == d) named) in
        let next : IsNext c.way.all x = each_get _ w.connections i c may.next e named near in
        let said : IsTrue w.connections c x = each_get _ w.connections i c may.said e named in
        let stream : IsStreamBy c.dialer (c.way.all ++ z ∷ []) = (let P : ℕ → Type 0 = λ y. IsStreamBy y (c.way.all ++ z ∷ []) in let Q : ℕ → Type 0 = λ y. IsStreamBy y c.way.all in subst P (sym is_u) (stream_more u c.way.all x (subst Q is_u was.flies.written) next)) in
        let flies : IsInFlight d1 = record { written = stream; delivered = (let a : c.way.delivered ≤ length (bytes_on c.way) = was.flies.delivered in let b : length (bytes_on c.way) ≤ length (bytes_on d1.way) = bytes_more c.way z in omega arith) } in
        let v : Network = set_conn i d1 w in
        let l : Later (only u) w v = set_later (only u) w i c d1 e refl grows in
        let own : AllRead w.connections → IsOwn w.outcomes c.far x = λ a. each_get _ w.connections i c (may.own a) e named in
        let told : LineFacts v.connections w.outcomes = lines_set w.connections w.outcomes i c d1 z e refl refl (λ a. read_before (only u) w.connections v.connections l.conns a) own h.told in
        let out : Out v = set_out (only u) w i c d1 e grows told h (λ k. record {
          flies = flies;
          said = each_push _ c.way.all z (each_weaker _ _ (λ y t. true_later (only u) w.connections v.connections k c d1 grows y.writing t) c.way.all was.said) (true_later (only u) w.connections v.connections k c d1 grows x said);
        }) in
        let P : Network → Type 0 = λ y. Changes u w (comes_out o y) in
        subst P (sym (becomes_set (with_writing x (bytes_of u x)) i w c e)) (record {
          later = later_trans (only u) w v (comes_out o v) l (outcome_later (only u) o v tt);
          pending = λ y. refl;
          sent = λ y k. sent_plain y k w.outcomes o tt;
          out = outcome_out o v tt out;
        })

pub writes_changes : (u m d : ℕ) (x : Writing) (w : Network) → Out w → MayWrite u d w.connections w.outcomes x → Changes u w (does_outside u m (Writes d x) w)
writes_changes u m d x w h may = by (place_dialed u d w.connections) refl
  where
    still : Changes u w w
    still = record { later = later_self (only u) w; pending = λ y. refl; sent = λ y k. refl; out = h }

    at_place : (i : ℕ) → place_dialed u d w.connections ≡ Some i → (c : Option Conn) → slice_get w.connections i ≡ c → Changes u w (by_found (writes u d x (bytes_of u x) i) c w)
    at_place i e None g = still
    at_place i e (Some c) g = writes_at u d x i c w g (position_passes (is_dialed u d) w.connections i c e g) h may

    by : (i : Option ℕ) → place_dialed u d w.connections ≡ i → Changes u w (by_found (by_connection (writes u d x (bytes_of u x))) i w)
    by None e = still
    by (Some i) e = at_place i e (slice_get w.connections i) refl

begun_push : (xs : List Wrote) (x : Wrote) → IsBegun (xs ++ x ∷ [])
begun_push [] x = tt
begun_push (y ∷ ys) x = tt

-- where nothing was written, the connection speaks then
pub writes_speaks : (u m d : ℕ) (x : Writing) (w : Network) → IsSilent u d w.connections → (does_outside u m (Writes d x) w).ended ≡ None → Speaks u d (does_outside u m (Writes d x) w).connections
writes_speaks u m d x w s =
    subst (λ (i : Option ℕ). K (by_found (by_connection (writes u d x (bytes_of u x))) i w)) (sym spot.found)
    (subst (λ (c : Option Conn). K (by_found (writes u d x (bytes_of u x) spot.place) c w)) (sym spot.here)
    (on_cond (λ (change : Change whole whole_ways). K (change w)) (not spot.element.near_open) stays _
    (λ t e. record { made = s.made; begun = single_each (is_dialed u d) IsBegunIfOpen cs spot.place spot.element alone spot.here spot.passes (λ o. not_both t (ap not o)) })
    (λ t. on_cond (λ (change : Change whole whole_ways). K (change w)) (is_too_much (length (bytes_of u x)) spot.element w) (ends limits.Undelivered) _
    (λ k e. not_some (sym e))
    (λ k. subst (λ (v : Network). K (comes_out told v)) (sym (becomes_set (with_writing x (bytes_of u x)) spot.place w spot.element spot.here))
    (λ e. record {
      made = count_set (is_dialed u d) cs spot.place spot.element d1 spot.here refl ∙ s.made;
      begun = single_set (is_dialed u d) IsBegunIfOpen cs spot.place spot.element d1 alone spot.here spot.passes (λ n. begun_push spot.element.way.all _);
    })))))
  where
    K : Network → Type 0
    K v = v.ended ≡ None → Speaks u d v.connections

    IsBegunIfOpen : Conn → Type 0
    IsBegunIfOpen c = c.near_open ≡ true → IsBegun c.way.all

    cs : List Conn
    cs = w.connections

    alone : count (is_dialed u d) w.connections ≤ 1
    alone = (let k : count (is_dialed u d) w.connections ≡ 1 = s.made in omega arith)

    spot : Placed (is_dialed u d) w.connections
    spot = placed (is_dialed u d) w.connections (let k : count (is_dialed u d) w.connections ≡ 1 = s.made in omega arith)

    d1 : Conn
    d1 = with_writing x (bytes_of u x) spot.element

    told : Outcome
    told = outcomes.Wrote u d (bytes_of u x)

-- ---- a dial

pub dials_later : (u d : ℕ) (a : Address) (w : Network) → Later (only u) w (dials u d a w)
dials_later u d a w = record {
  conns = grow_self (only u) w.connections;
  still = stay_self w.connections;
  told = ([], append-nil w.outcomes);
  sent = λ x y n. refl;
  unnamed = λ x n. n;
  pending = λ x y n. count_no (is_pending x y) w.pending _ (by_test (u == x) (λ t. absurd (n (sym (eq_true u x t)))) (λ t. ap (λ (b : Bool). b && (d == y)) t));
  going = λ h. h;
}

pub dials_out : (u d : ℕ) (a : Address) (w : Network) → IsFresh u d w → Out w → Out (dials u d a w)
dials_out u d a w f h = record {
  conns = h.conns;
  once = λ x y. by_test ((u == x) && (d == y))
      (λ t. (let p : u ≡ x = eq_true u x (and_left (u == x) (d == y) t) in
      let q : d ≡ y = eq_true d y (and_right (u == x) (d == y) t) in
      let P : ℕ → Type 0 = λ z. count (is_pending z y) (dials u d a w).pending + count (is_dialed z y) w.connections ≤ 1 in
      let Q : ℕ → Type 0 = λ z. count (is_pending u z) (dials u d a w).pending + count (is_dialed u z) w.connections ≤ 1 in
      subst P p (subst Q q
      (let r : count (is_pending u d) (dials u d a w).pending ≡ count (is_pending u d) w.pending + 1 = count_yes (is_pending u d) w.pending _ (and_both (u == u) (d == d) (eq_self u) (eq_self d)) in
      let s : count (is_pending u d) w.pending ≡ 0 = f.pending in
      let k : count (is_dialed u d) w.connections ≡ 0 = f.made in omega arith))))
      (λ t. (let r : count (is_pending x y) (dials u d a w).pending ≡ count (is_pending x y) w.pending = count_no (is_pending x y) w.pending _ t in
      let s : count (is_pending x y) w.pending + count (is_dialed x y) w.connections ≤ 1 = h.once x y in omega arith));
  single = h.single;
  numbered = h.numbered;
  told = h.told;
}
