-- A table, the acknowledgement of one, or an answer is written: the facts stay true.
use Rattle.std.proofs.Common.{◌≡◌, ℕ, ◌≤◌, Bool, true, List, [], ◌∷◌, ◌++◌, length, refl, sym, ◌∙◌, ap, subst, append-nil}
use Rattle.std.specs.Prelude.{Option, None, Some, not, is_none, slice_get}
use Rattle.artery_base.specs.declared.address.Address.{Address}
use Rattle.artery_base.specs.declared.address.UniqueAddress.{UniqueAddress}
use Rattle.artery_journal.specs.declared.line.Line.{Line}
use Rattle.artery_machine.specs.declared.world.Outcome.TheVariants as outcomes
use Rattle.artery_machine.specs.declared.world.WorldLimit.TheVariants as limits
use Rattle.artery_machine.specs.Deeds.{Writing, Writes, bytes_of}
use Rattle.artery_machine.specs.Parts.{whole}
use Rattle.artery_machine.specs.Ways.{whole_ways}
use Rattle.artery_machine.specs.Connections.{is_dialed, with_writing, place_dialed}
use Rattle.artery_machine.specs.Node.{Node, Inbound, of_kind, peer_at, inbound_at}
use Rattle.artery_machine.specs.Doing.{writes_on}
use Rattle.artery_machine.specs.Ticking.{numbers_from}
use Rattle.artery_machine.specs.World.{Change, stays, going_on, ends, by_found, by_connection, comes_out, is_too_much, writes, does as does_outside}
use Rattle.artery_names.proofs.Lists.{on_cond, not_some, position_passes, Each, each_weaker, each_both, Or, First, Second}
use Rattle.artery_names.proofs.Said.{Tabling, Acking, Answering, all_said, said_append, sends_said, tables_said, acks_said, answers_said, speakers_said}
use Rattle.artery_names.proofs.Talks.{adopted_by, told_by, got_by, name_by, newest_wrote, same_talk}
use Rattle.artery_names.proofs.Facts.{Network, Conn, journal, sends_on, tables_on, answers_on, Made, AreWritten, ConnFacts, IsLawful, Out, IsFramed, story_of, stories_of, IsKnown, bound_in, InFacts, Heard, NodeFacts, Good}
use Rattle.artery_names.proofs.Growing.{Grown, still_self, Stepped, stepped_self, Along, along_self, along_set, along_wider, dialed_same, inward_same, made_grows, all_written_grow}
use Rattle.artery_names.proofs.Plain.{Same, in_plain, announced_more, bound_grows, all_held_grow}
use Rattle.artery_names.proofs.Outside.{writing_grown, writing_stepped, set_at, dialer_is}
use Rattle.artery_names.proofs.Rules.{Work}
use Rattle.artery_names.proofs.Later.{at_most_same, no_more}
use Rattle.artery_names.proofs.Keeping.{nowhere, Kept, kept_self}

-- A connection on which this may have been written.
pub data Wrote (u dial : ℕ) (x : Writing) (c d : Conn) : Type 0 where
  Idle : c ≡ d → Wrote u dial x c d
  Added : is_dialed u dial c ≡ true → Grown c d → (bytes : List ℕ) → d.way.all ≡ c.way.all ++ record { writing = x; bytes = bytes } ∷ [] → Wrote u dial x c d

added_said : {X : Type 0} (says : Writing → List X) (x : Writing) (bytes : List ℕ) (c d : Conn) → d.way.all ≡ c.way.all ++ record { writing = x; bytes = bytes } ∷ [] → all_said says d.way.all ≡ all_said says c.way.all ++ (says x ++ [])
added_said says x bytes c d e = ap (all_said says) e ∙ said_append says c.way.all (record { writing = x; bytes = bytes } ∷ [])

wrote_grown : (u dial : ℕ) (x : Writing) (c d : Conn) → Wrote u dial x c d → Grown c d
wrote_grown u dial x c d (Idle e) = subst (Grown c) e (still_self c).grown
wrote_grown u dial x c d (Added t g bytes s) = g

-- what holds of each thing that is said on it
wrote_each : {X : Type 0} (u dial : ℕ) (x : Writing) (c d : Conn) → Wrote u dial x c d → (says : Writing → List X) (P : X → Type 0) → Each P (all_said says c.way.all) → (is_dialed u dial c ≡ true → Each P (says x)) → Each P (all_said says d.way.all)
wrote_each u dial x c d (Idle e) says P h k = subst (λ (y : Conn). Each P (all_said says y.way.all)) e h
wrote_each u dial x c d (Added t g bytes s) says P h k = subst (Each P) (sym (added_said says x bytes c d s)) (each_both P (all_said says c.way.all) (says x ++ []) h (subst (Each P) (sym (append-nil (says x))) (k t)))

wrote_sends : (u dial : ℕ) (x : Writing) (c d : Conn) → Wrote u dial x c d → sends_said x ≡ [] → sends_on d ≡ sends_on c
wrote_sends u dial x c d (Idle e) n = ap (λ (y : Conn). sends_on y) (sym e)
wrote_sends u dial x c d (Added t g bytes s) n = added_said sends_said x bytes c d s ∙ ap (λ l. sends_on c ++ (l ++ [])) n ∙ append-nil (sends_on c)

-- An answer names a connection that reaches this node, and that is known where it is there.
abbrev pub IsOpened : ℕ → Node whole → List Conn → Answering → Type 0
IsOpened u n cs y = (p : ℕ) (k : Conn) → slice_get cs p ≡ Some k → is_dialed y.uid y.dial k ≡ true → (k.far ≡ u) × ((i : Inbound whole) → inbound_at k.number n ≡ Some i → IsKnown i.state)

-- The node with this UID may write this on its connection with a dial number.
pub record May (nobody : UniqueAddress) (u dial : ℕ) (x : Writing) (n : Node whole) (cs : List Conn) (ls : List Line) : Type 0 where
  pub sends : sends_said x ≡ []
  pub tables : (i : ℕ) (c : Conn) → slice_get cs i ≡ Some c → is_dialed u dial c ≡ true → Each (λ (t : Tabling). IsFramed (story_of t.kind (name_by nobody c.far ls) n) t) (tables_said x)
  pub acks : (i : ℕ) (c : Conn) → slice_get cs i ≡ Some c → is_dialed u dial c ≡ true → Each (λ (k : Acking). k.number ≤ of_kind k.kind (adopted_by (name_by nobody c.dialer ls) (name_by nobody c.far ls) ls)) (acks_said x)
  pub answers : Each (IsOpened u n cs) (answers_said x)
  pub speakers : Each (λ (v : UniqueAddress). v ≡ name_by nobody u ls) (speakers_said x)

module _ (nobody : UniqueAddress) (u dial : ℕ) (x : Writing) (n : Node whole) (given : ℕ → ℕ) (away : Address → Bool) (cs ds : List Conn) (ls : List Line) (wrote : Along (Wrote u dial x) cs ds) (may : May nobody u dial x n cs ls) where
  grow : Along Grown cs ds
  grow = along_wider (Wrote u dial x) Grown (wrote_grown u dial x) cs ds wrote

  conn_wrote : (a b : UniqueAddress) (i : ℕ) (c d : Conn) → slice_get cs i ≡ Some c → name_by nobody c.dialer ls ≡ a → name_by nobody c.far ls ≡ b → Wrote u dial x c d → ConnFacts cs a b ls c → ConnFacts ds a b ls d
  conn_wrote a b i c d at p q s h =
      let g : Grown c d = wrote_grown u dial x c d s in
      record {
        near = h.near ∙ sym g.dialer;
        far = h.far ∙ sym g.far;
        told = subst (λ (z : ℕ). AreWritten ds z d.far (sends_on d) (told_by a b d.dial ls)) (sym g.dialer) (subst (λ (z : ℕ). AreWritten ds c.dialer z (sends_on d) (told_by a b d.dial ls)) (sym g.far)
            (subst (λ (z : ℕ). AreWritten ds c.dialer c.far (sends_on d) (told_by a b z ls)) (sym g.dial)
            (subst (λ es. AreWritten ds c.dialer c.far es (told_by a b c.dial ls)) (sym (wrote_sends u dial x c d s may.sends)) (all_written_grow cs ds grow c.dialer c.far (sends_on c) (told_by a b c.dial ls) h.told))));
        all = λ o. ap (λ l. length l) (wrote_sends u dial x c d s may.sends) ∙ h.all (g.near o) ∙ ap (λ (z : ℕ). length (told_by a b z ls)) (sym g.dial);
        acks = wrote_each u dial x c d s acks_said _ h.acks (λ t. subst (λ (y : UniqueAddress). Each (λ (k : Acking). k.number ≤ of_kind k.kind (adopted_by y b ls)) (acks_said x)) p
            (subst (λ (y : UniqueAddress). Each (λ (k : Acking). k.number ≤ of_kind k.kind (adopted_by (name_by nobody c.dialer ls) y ls)) (acks_said x)) q (may.acks i c at t)));
        says = wrote_each u dial x c d s speakers_said (λ (v : UniqueAddress). v ≡ a) h.says (λ t. each_weaker _ _ (λ v z. z ∙ ap (λ (y : ℕ). name_by nobody y ls) (sym (dialer_is u dial c t)) ∙ p) (speakers_said x) may.speakers);
        places = wrote_each u dial x c d s tables_said (λ (t : Tabling). t.values ≡ numbers_from 0 (length t.keys)) h.places (λ t. each_weaker _ _ (λ (y : Tabling) z. z.places) (tables_said x) (may.tables i c at t));
      }

  untold_wrote : (a b : UniqueAddress) (d : ℕ) → Or (told_by a b d ls ≡ []) (Made cs a.uid d) → Or (told_by a b d ls ≡ []) (Made ds a.uid d)
  untold_wrote a b d (First e) = First e
  untold_wrote a b d (Second m) = Second (made_grows cs ds grow a.uid d m)

  out_wrote : Out nobody cs ls → Out nobody ds ls
  out_wrote out = record {
    adopts = λ a b kind. announced_more nobody cs ds grow a b kind (of_kind kind (adopted_by a b ls)) (out.adopts a b kind);
    dialed = λ i j c k e f p q. (let a = wrote.back i c e in let b = wrote.back j k f in
        let ag = wrote_grown u dial x a.was c a.so in let bg = wrote_grown u dial x b.was k b.so in out.dialed i j a.was b.was a.is b.is (sym ag.dialer ∙ p ∙ bg.dialer) (sym ag.dial ∙ q ∙ bg.dial));
    reached = λ i j c k e f p q. (let a = wrote.back i c e in let b = wrote.back j k f in
        let ag = wrote_grown u dial x a.was c a.so in let bg = wrote_grown u dial x b.was k b.so in out.reached i j a.was b.was a.is b.is (sym ag.far ∙ p ∙ bg.far) (sym ag.number ∙ q ∙ bg.number));
    untold = λ a b d. untold_wrote a b d (out.untold a b d);
    talks = out.talks;
    conns = λ i c e. (let a = wrote.back i c e in
        let ag = wrote_grown u dial x a.was c a.so in
        conn_wrote (name_by nobody c.dialer ls) (name_by nobody c.far ls) i a.was c a.is (ap (λ (z : ℕ). name_by nobody z ls) (sym ag.dialer)) (ap (λ (z : ℕ). name_by nobody z ls) (sym ag.far)) a.so
        (subst (λ (z : ℕ). ConnFacts cs (name_by nobody z ls) (name_by nobody c.far ls) ls a.was) (sym ag.dialer) (subst (λ (z : ℕ). ConnFacts cs (name_by nobody a.was.dialer ls) (name_by nobody z ls) ls a.was) (sym ag.far) (out.conns i a.was a.is))));
  }

  heard_wrote : (me : UniqueAddress) (k : ℕ) (i : Inbound whole) → Heard nobody me (given k) (stories_of n) cs ls k i → Heard nobody me (given k) (stories_of n) ds ls k i
  heard_wrote me k i h =
      let f = wrote.forth h.place h.conn h.is in
      let g : Grown h.conn f.next = wrote_grown u dial x h.conn f.next f.so in
      record {
        place = h.place;
        conn = f.next;
        is = f.is;
        inward = inward_same me.uid k h.conn f.next g ∙ h.inward;
        facts = subst (λ (z : ℕ). InFacts me (name_by nobody z ls) (given k) (stories_of n (name_by nobody z ls)) ls i f.next) (sym g.dialer)
            (in_plain nobody me (name_by nobody h.conn.dialer ls) (given k) (stories_of n (name_by nobody h.conn.dialer ls)) (stories_of n (name_by nobody h.conn.dialer ls)) ls ls i i h.conn f.next (λ kind. refl) (same_talk ls) g (record { state = refl; shown = refl; owed = Same refl }) h.facts);
      }

  pub node_wrote : NodeFacts nobody u given away n cs ls → NodeFacts nobody u given away n ds ls
  node_wrote h = record {
    uid = h.uid;
    me = h.me;
    ordered = h.ordered;
    peers = λ a. (let p = h.peers a in record {
      alive = p.alive;
      unspoken = p.unspoken;
      control = bound_grows nobody n.me cs ds ls ls a (bound_in (peer_at a n).control.conn) grow (λ y z. z) p.control;
      ordinary = bound_grows nobody n.me cs ds ls ls a (bound_in (peer_at a n).ordinary.conn) grow (λ y z. z) p.ordinary;
    });
    tables = λ a e. all_held_grow nobody cs ds n.me a ls ls (peer_at a n).tables (peer_at a n).incarnations.current grow (λ y z. refl) (h.tables a e);
    gone = h.gone;
    origins = h.origins;
    framed = λ i c e o. (let a = wrote.back i c e in
        let ag = wrote_grown u dial x a.was c a.so in
        subst (λ (z : ℕ). Each (λ (t : Tabling). IsFramed (story_of t.kind (name_by nobody z ls) n) t) (tables_on c)) (sym ag.far)
        (wrote_each u dial x a.was c a.so tables_said _ (h.framed i a.was a.is (sym ag.dialer ∙ o)) (may.tables i a.was a.is)));
    inbound = λ k i at. heard_wrote n.me k i (h.inbound k i at);
    opened = λ j c e o. (let a = wrote.back j c e in
        let ag = wrote_grown u dial x a.was c a.so in
        each_weaker (IsOpened u n cs) (IsOpened u n ds) (λ y z p k at t. (let b = wrote.back p k at in
        let bg = wrote_grown u dial x b.was k b.so in
        let r = z p b.was b.is (sym (dialed_same y.uid y.dial b.was k bg) ∙ t) in
        (bg.far ∙ r.0, λ i q. r.1 i (sym (ap (λ (v : ℕ). inbound_at v n) bg.number) ∙ q)))) (answers_on c)
        (wrote_each u dial x a.was c a.so answers_said (IsOpened u n cs) (h.opened j a.was a.is (sym ag.dialer ∙ o)) (λ t. may.answers)));
  }

-- ---- the rule

abbrev IsAlone : ℕ → ℕ → List Conn → Type 0
IsAlone u dial cs = (i j : ℕ) (c k : Conn) → slice_get cs i ≡ Some c → slice_get cs j ≡ Some k → is_dialed u dial c ≡ true → is_dialed u dial k ≡ true → i ≡ j

-- What became of the outside where that was written, or not.
pub record Writ (u dial : ℕ) (x : Writing) (w v : Network) : Type 0 where
  pub lines : journal v ≡ journal w
  pub conns : v.ended ≡ None → Along (Wrote u dial x) w.connections v.connections
  pub steps : Along (Stepped u) w.connections v.connections
  pub going : v.ended ≡ None → w.ended ≡ None

module _ (u m dial : ℕ) (x : Writing) (w : Network) where
  unwritten : Writ u dial x w w
  unwritten = record { lines = refl; conns = λ e. along_self (Wrote u dial x) (λ c. Idle refl) w.connections; steps = along_self (Stepped u) (stepped_self u) w.connections; going = λ e. e }

  written_at : (i : ℕ) (c : Conn) → slice_get w.connections i ≡ Some c → is_dialed u dial c ≡ true → Writ u dial x w (writes u dial x (bytes_of u x) i c w)
  written_at i c at t =
      on_cond K (not c.near_open) stays _ (λ n. unwritten)
      (λ n. on_cond K (is_too_much (length (bytes_of u x)) c w) (ends limits.Undelivered) _
      (λ k. record { lines = refl; conns = λ e. not_some (sym e); steps = along_self (Stepped u) (stepped_self u) w.connections; going = λ e. not_some (sym e) })
      (λ k. subst (λ (y : Network). Writ u dial x w (comes_out (outcomes.Wrote u dial (bytes_of u x)) y)) (sym (set_at (with_writing x (bytes_of u x)) i w c at)) (record {
        lines = newest_wrote w.outcomes [] u dial (bytes_of u x);
        conns = λ e. along_set (Wrote u dial x) (λ c. Idle refl) w.connections i c (with_writing x (bytes_of u x) c) at (Added t (writing_grown x (bytes_of u x) c) (bytes_of u x) refl);
        steps = along_set (Stepped u) (stepped_self u) w.connections i c (with_writing x (bytes_of u x) c) at (writing_stepped u x (bytes_of u x) c (dialer_is u dial c t));
        going = λ e. e;
      })))
    where
      K : Change whole whole_ways → Type 0
      K change = Writ u dial x w (change w)

  written_outside : Writ u dial x w (does_outside u m (Writes dial x) w)
  written_outside = by (place_dialed u dial w.connections) refl
    where
      at_place : (i : ℕ) → place_dialed u dial w.connections ≡ Some i → (c : Option Conn) → slice_get w.connections i ≡ c → Writ u dial x w (by_found (writes u dial x (bytes_of u x) i) c w)
      at_place i f None g = unwritten
      at_place i f (Some c) g = written_at i c g (position_passes (is_dialed u dial) w.connections i c f g)

      by : (i : Option ℕ) → place_dialed u dial w.connections ≡ i → Writ u dial x w (by_found (by_connection (writes u dial x (bytes_of u x))) i w)
      by None f = unwritten
      by (Some i) f = at_place i f (slice_get w.connections i) refl

  pub written_going : Writ u dial x w (going_on (does_outside u m (Writes dial x)) w)
  written_going = on_cond (Writ u dial x w) (is_none w.ended) (does_outside u m (Writes dial x) w) w (λ t. written_outside) (λ t. unwritten)

pub writ_kept : (nobody : UniqueAddress) (u dial : ℕ) (x : Writing) (n : Node whole) (given : ℕ → ℕ) (away : Address → Bool) (w v : Network) → Writ u dial x w v → (w.ended ≡ None → Out nobody w.connections (journal w) → NodeFacts nobody u given away n w.connections (journal w) → May nobody u dial x n w.connections (journal w))
    → Good nobody u given away n w → Kept nobody u given away w n v
writ_kept nobody u dial x n given away w v s may g = record {
  good = record {
    lawful = subst IsLawful (sym s.lines) g.lawful;
    out = λ e. subst (Out nobody v.connections) (sym s.lines) (out_wrote nobody u dial x n given away w.connections v.connections (journal w) (s.conns e) (may (s.going e) (g.out (s.going e)) (g.node (s.going e))) (g.out (s.going e)));
    node = λ e. subst (NodeFacts nobody u given away n v.connections) (sym s.lines) (node_wrote nobody u dial x n given away w.connections v.connections (journal w) (s.conns e) (may (s.going e) (g.out (s.going e)) (g.node (s.going e))) (g.node (s.going e)));
  };
  later = record {
    conns = s.steps;
    name = λ uid. ap (name_by nobody uid) s.lines;
    adopted = λ a b k. ap (adopted_by a b) s.lines;
    rises = λ a b. at_most_same _ _ (ap (adopted_by a b) s.lines);
    got = λ a b d k. ap (got_by a b d) s.lines;
    told = λ a b d. no_more _ _ _ (ap (told_by a b d) s.lines);
    spoken = λ a b d. First (ap (told_by a b d) s.lines);
    going = s.going;
  };
}

module _ {nobody : UniqueAddress} {u m : ℕ} {given : ℕ → ℕ} where
  pub write_kept : (dial : Option ℕ) (x : Writing) (d : Work u m) → ((k : ℕ) → dial ≡ Some k → d.deeds.ended ≡ None → Out nobody d.deeds.connections (journal d.deeds) → NodeFacts nobody u given nowhere d.node d.deeds.connections (journal d.deeds) → May nobody u k x d.node d.deeds.connections (journal d.deeds))
      → Good nobody u given nowhere d.node d.deeds → Kept nobody u given nowhere d.deeds (writes_on dial x d).node (writes_on dial x d).deeds
  write_kept None x d may g = kept_self nobody u given nowhere d.node d.deeds g
  write_kept (Some k) x d may g = writ_kept nobody u k x d.node given nowhere d.deeds (going_on (does_outside u m (Writes k x)) d.deeds) (written_going u m k x d.deeds) (may k refl) g
