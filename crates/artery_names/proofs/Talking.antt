-- The rules by which ordinary messages are told keep the facts.
use Rattle.std.proofs.Common.{◌≡◌, ℕ, Bool, true, false, cond, List, [], ◌∷◌, length, refl, sym, ◌∙◌, ap, subst}
use Rattle.std.specs.Prelude.{Option, None, Some, ◌==◌, not, is_none, slice_get, slice_set}
use Rattle.artery_base.specs.declared.address.Address.{Address}
use Rattle.artery_base.specs.declared.address.UniqueAddress.{UniqueAddress}
use Rattle.artery_base.specs.declared.message.Tell.{Tell}
use Rattle.artery_frame.specs.declared.stream.Stream.TheVariants as streams
use Rattle.artery_handshake.specs.declared.out_conn.OutConn.{OutConn}
use Rattle.artery_handshake.specs.declared.out_conn.OutState.{OutState}
use Rattle.artery_handshake.specs.declared.out_conn.OutState.TheVariants.{Dialing, Asked, Bound}
use Rattle.artery_header.specs.Envelope.{EnvelopeOf}
use Rattle.artery_codec.specs.Writing.{paired_indices, written}
use Rattle.artery_journal.specs.declared.line.Line.{Line}
use Rattle.artery_journal.specs.declared.line.Line.TheVariants as lines
use Rattle.artery_judge.specs.Laws.{is_dial}
use Rattle.artery_machine.specs.declared.world.Outcome.TheVariants as outcomes
use Rattle.artery_machine.specs.declared.world.WorldLimit.TheVariants as limits
use Rattle.artery_machine.specs.Deeds.{Writing, Sends, Writes, Tells, bytes_of}
use Rattle.artery_machine.specs.Parts.{whole}
use Rattle.artery_machine.specs.Ways.{whole_ways}
use Rattle.artery_machine.specs.Connections.{is_dialed, with_writing, place_dialed}
use Rattle.artery_machine.specs.Node.{Peer, incarnation, peer_at, current_of, conn_of, current_dial, dial_to, dial_to_current, bound_dial}
use Rattle.artery_machine.specs.Doing.{writes_on}
use Rattle.artery_machine.specs.Sending.{meaning_of, told_as, tells_told, tells_on, holds, tells_or_holds, tells_message}
use Rattle.artery_machine.specs.World.{Change, stays, going_on, ends, by_found, by_connection, comes_out, is_too_much, writes, does as does_outside}
use Rattle.artery_names.proofs.Lists.{by_test, none_is, on_cond, not_both, not_some, some_same, eq_true, eq_not, and_left, and_right, none_passes, found_there, position_passes, Put, There, Elsewhere, get_set, set_here, set_away, Or, First, Second}
use Rattle.artery_names.proofs.Said.{said_append, sends_said, tables_said, acks_said, answers_said, speakers_said}
use Rattle.artery_names.proofs.Talks.{adopted_by, told_by, got_by, name_by, newest_line, newest_wrote}
use Rattle.artery_names.proofs.Facts.{Network, Conn, journal, Answered, AtMost, IsLawful, Out, AreHeld, BoundTo, IsBound, bound_in, bound_as, IsWritten, NodeFacts, Good}
use Rattle.artery_names.proofs.Growing.{still_self, Stepped, stepped_self, Back, Forth, Along, along_self, along_set, answered_grows}
use Rattle.artery_names.proofs.Outside.{silent_lawful, writing_grown, writing_stepped, said_nothing, set_at, dialer_is}
use Rattle.artery_names.proofs.Rules.{Work}
use Rattle.artery_names.proofs.Later.{Later, More, at_most_self, no_more, along_grown}
use Rattle.artery_names.proofs.Keeping.{nowhere, Kept, kept_self, Keeps, plain_keeps}
use Rattle.artery_names.proofs.Sending.{holds_plain}
use Rattle.artery_names.proofs.Held.{told_written}
use Rattle.artery_names.proofs.Telling.{Spoke, Quiet, Said, now_told, told_yes, told_no, it, out_told, node_told}

-- ---- the outside

-- A line was told, and something may have been written on the connection of the node with this dial number.
pub record Spoken (u dial : ℕ) (line : Line) (e : EnvelopeOf) (w v : Network) : Type 0 where
  pub lines : journal v ≡ line ∷ journal w
  pub conns : v.ended ≡ None → Along (Spoke u dial e) w.connections v.connections
  pub steps : Along (Stepped u) w.connections v.connections
  pub going : v.ended ≡ None → w.ended ≡ None

abbrev IsSingle : ℕ → ℕ → List Conn → Type 0
IsSingle u dial cs = (i j : ℕ) (c k : Conn) → slice_get cs i ≡ Some c → slice_get cs j ≡ Some k → is_dialed u dial c ≡ true → is_dialed u dial k ≡ true → i ≡ j

-- nothing is written on connections whose near sides have ended
quiet_along : (u dial : ℕ) (e : EnvelopeOf) (cs : List Conn) → ((i : ℕ) (c : Conn) → slice_get cs i ≡ Some c → is_dialed u dial c ≡ true → c.near_open ≡ false) → Along (Spoke u dial e) cs cs
quiet_along u dial e cs f = record {
  back = λ i d x. record { was = d; is = x; so = Quiet (still_self d) (f i d x) };
  forth = λ i c x. record { next = c; is = x; so = Quiet (still_self c) (f i c x) };
}

written_here : (u dial : ℕ) (e : EnvelopeOf) (bytes : List ℕ) (c : Conn) → c.near_open ≡ true → is_dialed u dial c ≡ true → Spoke u dial e c (with_writing (Sends e) bytes c)
written_here u dial e bytes c o t = Said (writing_grown (Sends e) bytes c)
    (said_append sends_said c.way.all (record { writing = Sends e; bytes = bytes } ∷ []))
    (said_nothing tables_said c.way.all (Sends e) bytes refl) (said_nothing acks_said c.way.all (Sends e) bytes refl) (said_nothing answers_said c.way.all (Sends e) bytes refl) (said_nothing speakers_said c.way.all (Sends e) bytes refl) o t

said_along : (u dial : ℕ) (e : EnvelopeOf) (bytes : List ℕ) (cs : List Conn) (i : ℕ) (c : Conn) → IsSingle u dial cs → slice_get cs i ≡ Some c → c.near_open ≡ true → is_dialed u dial c ≡ true
    → Along (Spoke u dial e) cs (slice_set cs i (with_writing (Sends e) bytes c))
said_along u dial e bytes cs i c single at o t = record {
  back = λ j d x. back_by j d (get_set cs i j (with_writing (Sends e) bytes c) d x);
  forth = λ j k x. forth_by j k x (i == j) refl;
}
  where
    away : (j : ℕ) (k : Conn) → (i ≡ j → ⊥) → slice_get cs j ≡ Some k → Spoke u dial e k k
    away j k n x = Quiet (still_self k) (λ s. absurd (n (single i j c k at x t s)))

    back_by : (j : ℕ) (d : Conn) → Put cs i j (with_writing (Sends e) bytes c) d → Back (Spoke u dial e) cs j d
    back_by j d (There q is) = record { was = c; is = ap (λ (n : ℕ). slice_get cs n) (sym q) ∙ at; so = subst (Spoke u dial e c) (sym is) (written_here u dial e bytes c o t) }
    back_by j d (Elsewhere n x) = record { was = d; is = x; so = away j d n x }

    forth_by : (j : ℕ) (k : Conn) → slice_get cs j ≡ Some k → (b : Bool) → (i == j) ≡ b → Forth (Spoke u dial e) (slice_set cs i (with_writing (Sends e) bytes c)) j k
    forth_by j k x true q =
        let same : i ≡ j = eq_true i j q in
        let is : c ≡ k = some_same (sym at ∙ ap (λ (n : ℕ). slice_get cs n) same ∙ x) in
        record { next = with_writing (Sends e) bytes c; is = ap (λ (n : ℕ). slice_get (slice_set cs i (with_writing (Sends e) bytes c)) n) (sym same) ∙ set_here cs i c (with_writing (Sends e) bytes c) at; so = subst (λ (y : Conn). Spoke u dial e y (with_writing (Sends e) bytes c)) is (written_here u dial e bytes c o t) }
    forth_by j k x false q = record { next = k; is = set_away cs i j (with_writing (Sends e) bytes c) (λ y. eq_not i j q y) ∙ x; so = away j k (λ y. eq_not i j q y) x }

module _ (u m dial : ℕ) (line : Line) (e : EnvelopeOf) (w : Network) (live : w.ended ≡ None) (single : IsSingle u dial w.connections) where
  abbrev w1 : Network
  w1 = comes_out (outcomes.Line m line) w

  abbrev bytes : List ℕ
  bytes = bytes_of u (Sends e)

  told_alone : ((i : ℕ) (c : Conn) → slice_get w.connections i ≡ Some c → is_dialed u dial c ≡ true → c.near_open ≡ false) → Spoken u dial line e w w1
  told_alone f = record {
    lines = newest_line w.outcomes [] m line;
    conns = λ x. quiet_along u dial e w.connections f;
    steps = along_self (Stepped u) (stepped_self u) w.connections;
    going = λ h. h;
  }

  shut_there : (i : ℕ) (c : Conn) → slice_get w.connections i ≡ Some c → is_dialed u dial c ≡ true → not c.near_open ≡ true → (j : ℕ) (k : Conn) → slice_get w.connections j ≡ Some k → is_dialed u dial k ≡ true → k.near_open ≡ false
  shut_there i c at t n j k x s =
      let is : c ≡ k = some_same (sym at ∙ ap (λ (y : ℕ). slice_get w.connections y) (single i j c k at x t s) ∙ x) in
      subst (λ (y : Conn). y.near_open ≡ false) is (shut c.near_open n)
    where
      shut : (b : Bool) → not b ≡ true → b ≡ false
      shut true q = not_both q refl
      shut false q = refl

  written_spoken : (i : ℕ) (c : Conn) → slice_get w.connections i ≡ Some c → is_dialed u dial c ≡ true → Spoken u dial line e w (writes u dial (Sends e) bytes i c w1)
  written_spoken i c at t =
      on_cond K (not c.near_open) stays _ (λ n. told_alone (shut_there i c at t n))
      (λ n. on_cond K (is_too_much (length bytes) c w1) (ends limits.Undelivered) _
      (λ k. record { lines = newest_line w.outcomes [] m line; conns = λ x. not_some (sym x); steps = along_self (Stepped u) (stepped_self u) w.connections; going = λ x. not_some (sym x) })
      (λ k. subst (λ (y : Network). Spoken u dial line e w (comes_out (outcomes.Wrote u dial bytes) y)) (sym (set_at (with_writing (Sends e) bytes) i w1 c at)) (record {
        lines = newest_wrote w1.outcomes [] u dial bytes ∙ newest_line w.outcomes [] m line;
        conns = λ x. said_along u dial e bytes w.connections i c single at (is_open c.near_open n) t;
        steps = along_set (Stepped u) (stepped_self u) w.connections i c (with_writing (Sends e) bytes c) at (writing_stepped u (Sends e) bytes c (dialer_is u dial c t));
        going = λ x. x;
      })))
    where
      K : Change whole whole_ways → Type 0
      K change = Spoken u dial line e w (change w1)

      is_open : (b : Bool) → not b ≡ false → b ≡ true
      is_open true q = refl
      is_open false q = not_both refl q

  pub spoken_outside : Spoken u dial line e w (does_outside u m (Writes dial (Sends e)) w1)
  spoken_outside = by (place_dialed u dial w.connections) refl
    where
      at_place : (i : ℕ) → place_dialed u dial w.connections ≡ Some i → (c : Option Conn) → slice_get w.connections i ≡ c → Spoken u dial line e w (by_found (writes u dial (Sends e) (bytes_of u (Sends e)) i) c w1)
      at_place i f None g = found_there (is_dialed u dial) w.connections i f g
      at_place i f (Some c) g = written_spoken i c g (position_passes (is_dialed u dial) w.connections i c f g)

      by : (i : Option ℕ) → place_dialed u dial w.connections ≡ i → Spoken u dial line e w (by_found (by_connection (writes u dial (Sends e) (bytes_of u (Sends e)))) i w1)
      by None f = told_alone (λ i c at t. none_passes (is_dialed u dial) w.connections i c f at t)
      by (Some i) f = at_place i f (slice_get w.connections i) refl

-- ---- the rules

-- what was told alone is later, where the far end has answered
module _ (nobody : UniqueAddress) (u dial uid : ℕ) (me : UniqueAddress) (a : Address) (message : Tell) (e : EnvelopeOf) (w v : Network) (s : Spoken u dial (lines.Told me (incarnation a uid) dial message) e w v) (y : Answered w.connections uid me.uid dial) where
  abbrev told_line : Line
  told_line = lines.Told me (incarnation a uid) dial message

  abbrev told_lines : List Line
  told_lines = told_line ∷ journal w

  spoken_later : Later nobody u w v
  spoken_later = record {
    conns = s.steps;
    name = λ x. ap (name_by nobody x) s.lines;
    adopted = λ x z n. ap (adopted_by x z) s.lines;
    rises = λ x z. subst (λ ls. AtMost (adopted_by x z (journal w)) (adopted_by x z ls)) (sym s.lines) (at_most_self (adopted_by x z (journal w)));
    got = λ x z d n. ap (got_by x z d) s.lines;
    told = λ x z d. subst (λ ls. More (adopted_by x z (journal w)) (told_by x z d (journal w)) (told_by x z d ls)) (sym s.lines)
        (by_test (is_dial x z d ((me, incarnation a uid), dial))
        (λ t. record { rest = now_told me (incarnation a uid) dial message (journal w) x z ∷ []; is = told_yes me (incarnation a uid) dial message (journal w) x z d t; numbers = (at_most_self (adopted_by x z (journal w)), tt) })
        (λ t. no_more _ _ _ (told_no me (incarnation a uid) dial message (journal w) x z d t)));
    spoken = λ x z d. subst (λ ls. Or (told_by x z d ls ≡ told_by x z d (journal w)) (Answered v.connections z.uid x.uid d)) (sym s.lines)
        (by_test (is_dial x z d ((me, incarnation a uid), dial))
        (λ t. (let i = it me (incarnation a uid) dial message (journal w) x z d t in
        let k : Answered v.connections uid me.uid dial = answered_grows w.connections v.connections (along_grown u w.connections v.connections s.steps) uid me.uid dial y in
        Second (subst (λ (b : UniqueAddress). Answered v.connections b.uid x.uid d) (sym i.far) (subst (λ (b : UniqueAddress). Answered v.connections uid b.uid d) (sym i.near) (subst (λ (b : ℕ). Answered v.connections uid me.uid b) (sym i.dial) k)))))
        (λ t. First (told_no me (incarnation a uid) dial message (journal w) x z d t)));
    going = s.going;
  }

-- A peer's ordinary connection with this dial number is bound to its current UID.
pub record Speaks (p : Peer whole) (dial uid : ℕ) : Type 0 where
  pub current : current_of p ≡ Some uid
  pub bound : bound_in p.ordinary.conn ≡ Some (dial, uid)

-- a connection that is bound to the current UID
pub speaks_current : (p : Peer whole) (dial : ℕ) → current_dial streams.Ordinary p ≡ Some dial → (uid : ℕ) × Speaks p dial uid
speaks_current p dial h = by (current_of p) refl h
  where
    at_state : (uid : ℕ) (x : ℕ) (s : OutState) → bound_dial uid x s ≡ Some dial → bound_as x s ≡ Some (dial, uid)
    at_state uid x Dialing k = not_some k
    at_state uid x (Asked begun last) k = not_some k
    at_state uid x (Bound to) k = at_test (to == uid) refl k
      where
        at_test : (b : Bool) → (to == uid) ≡ b → cond b (Some x) None ≡ Some dial → bound_as x (Bound to) ≡ Some (dial, uid)
        at_test true e q = (let P : ℕ → Option (ℕ × ℕ) = λ z. Some (x, z) in let Q : ℕ → Option (ℕ × ℕ) = λ z. Some (z, uid) in ap P (eq_true to uid e) ∙ ap Q (some_same q))
        at_test false e q = not_some q

    at_conn : (uid : ℕ) (c : Option OutConn) → dial_to uid c ≡ Some dial → bound_in c ≡ Some (dial, uid)
    at_conn uid None k = not_some k
    at_conn uid (Some c) k = at_state uid c.dial c.state k

    by : (x : Option ℕ) → current_of p ≡ x → dial_to_current x (conn_of streams.Ordinary p) ≡ Some dial → (uid : ℕ) × Speaks p dial uid
    by None e k = not_some k
    by (Some uid) e k = (uid, record { current = e; bound = at_conn uid p.ordinary.conn k })

module _ {nobody : UniqueAddress} {u m : ℕ} {given : ℕ → ℕ} where
  pub tells_on_kept : (a : Address) (dial uid : ℕ) (message : Tell) (d : Work u m) → Speaks (peer_at a d.node) dial uid → Good nobody u given nowhere d.node d.deeds
      → Kept nobody u given nowhere d.deeds (tells_on a dial message d).node (tells_on a dial message d).deeds
  tells_on_kept a dial uid message d b g =
      subst (λ (c : Option ℕ). Kept nobody u given nowhere d.deeds (writes_on (Some dial) x (tells_told a c dial message d)).node (writes_on (Some dial) x (tells_told a c dial message d)).deeds) (sym b.current)
      (by_test (is_none d.deeds.ended) (λ t. subst (λ (v : Network). Kept nobody u given nowhere d.deeds d.node v) (sym (goes t)) (live (none_is d.deeds.ended t)))
      (λ t. subst (λ (v : Network). Kept nobody u given nowhere d.deeds d.node v) (sym (stopped t)) (kept_self nobody u given nowhere d.node d.deeds g)))
    where
      e : EnvelopeOf
      e = written (paired_indices (peer_at a d.node).tables.refs) (paired_indices (peer_at a d.node).tables.manifests) (meaning_of d.node.me.uid message)

      x : Writing
      x = told_as d.node.me.uid (peer_at a d.node) message

      line : Line
      line = lines.Told d.node.me (incarnation a uid) dial message

      after : Network
      after = going_on (does_outside u m (Writes dial x)) (going_on (does_outside u m (Tells line)) d.deeds)

      stopped : is_none d.deeds.ended ≡ false → after ≡ d.deeds
      stopped t = ap (λ (c : Bool). going_on (does_outside u m (Writes dial x)) (cond c (does_outside u m (Tells line) d.deeds) d.deeds)) t ∙ ap (λ (c : Bool). cond c (does_outside u m (Writes dial x) d.deeds) d.deeds) t

      spoken : Network
      spoken = does_outside u m (Writes dial x) (comes_out (outcomes.Line m line) d.deeds)

      goes : is_none d.deeds.ended ≡ true → after ≡ spoken
      goes t = ap (λ (c : Bool). going_on (does_outside u m (Writes dial x)) (cond c (does_outside u m (Tells line) d.deeds) d.deeds)) t ∙ ap (λ (c : Bool). cond c spoken (comes_out (outcomes.Line m line) d.deeds)) t

      live : d.deeds.ended ≡ None → Kept nobody u given nowhere d.deeds d.node spoken
      live n =
          let o : Out nobody d.deeds.connections (journal d.deeds) = g.out n in
          let f : NodeFacts nobody u given nowhere d.node d.deeds.connections (journal d.deeds) = g.node n in
          let is_u : (c : Conn) → is_dialed u dial c ≡ true → c.dialer ≡ u = λ c t. eq_true c.dialer u (and_left (c.dialer == u) (c.dial == dial) t) in
          let dial_is : (c : Conn) → is_dialed u dial c ≡ true → c.dial ≡ dial = λ c t. eq_true c.dial dial (and_right (c.dialer == u) (c.dial == dial) t) in
          let single : IsSingle u dial d.deeds.connections = λ i j c k p q t r. o.dialed i j c k p q (is_u c t ∙ sym (is_u k r)) (dial_is c t ∙ sym (dial_is k r)) in
          let s : Spoken u dial line e d.deeds spoken = spoken_outside u m dial line e d.deeds n single in
          let bound : BoundTo nobody d.node.me d.deeds.connections (journal d.deeds) a dial uid = subst (IsBound nobody d.node.me d.deeds.connections (journal d.deeds) a) b.bound (f.peers a).ordinary in
          let held : AreHeld d.deeds.connections d.node.me a (journal d.deeds) (peer_at a d.node).tables (Some uid) = subst (AreHeld d.deeds.connections d.node.me a (journal d.deeds) (peer_at a d.node).tables) b.current (f.tables a refl) in
          let so : IsWritten d.deeds.connections d.node.me.uid uid e (record { message = message; numbers = adopted_by d.node.me (incarnation a uid) (journal d.deeds) }) = told_written d.deeds.connections uid d.node.me.uid (adopted_by d.node.me (incarnation a uid) (journal d.deeds)) (peer_at a d.node).tables message held in
          record {
            good = record {
              lawful = subst IsLawful (sym s.lines) (silent_lawful line (journal d.deeds) refl g.lawful);
              out = λ q. subst (Out nobody spoken.connections) (sym s.lines) (out_told nobody u d.node given nowhere a dial uid message e d.deeds.connections spoken.connections (journal d.deeds) o f bound so (s.conns q));
              node = λ q. subst (NodeFacts nobody u given nowhere d.node spoken.connections) (sym s.lines) (node_told nobody u d.node given nowhere a dial uid message e d.deeds.connections spoken.connections (journal d.deeds) o f bound so (s.conns q));
            };
            later = spoken_later nobody u dial uid d.node.me a message e d.deeds spoken s bound.answered;
          }

  pub tells_message_keeps : (a : Address) (message : Tell) → Keeps nobody u m given (tells_message a message)
  tells_message_keeps a message = record { on = λ d g. by d g (current_dial streams.Ordinary (peer_at a d.node)) refl }
    where
      by : (d : Work u m) → Good nobody u given nowhere d.node d.deeds → (x : Option ℕ) → current_dial streams.Ordinary (peer_at a d.node) ≡ x → Kept nobody u given nowhere d.deeds (tells_or_holds a message x d).node (tells_or_holds a message x d).deeds
      by d g None e = (plain_keeps (holds a message) (holds_plain a message)).on d g
      by d g (Some dial) e = (let s = speaks_current (peer_at a d.node) dial e in tells_on_kept a dial s.0 message d s.1 g)
