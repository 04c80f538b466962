-- An ordinary message is told and written: the facts stay true.
use Rattle.std.proofs.Common.{◌≡◌, ℕ, ◌+◌, ◌≤◌, Bool, true, false, ◌&&◌, cond, List, [], ◌∷◌, ◌++◌, length, refl, sym, ◌∙◌, ap, subst, arith, rules, length-append}
use Rattle.std.specs.Prelude.{Some, ◌==◌, slice_get}
use Rattle.std.specs.Cmp.Rules.{comparing}
use Rattle.artery_base.specs.declared.address.Address.{Address}
use Rattle.artery_base.specs.declared.address.UniqueAddress.{UniqueAddress}
use Rattle.artery_base.specs.declared.message.Tell.{Tell}
use Rattle.artery_header.specs.Envelope.{EnvelopeOf}
use Rattle.artery_journal.specs.declared.line.Line.{Line}
use Rattle.artery_journal.specs.declared.line.Line.TheVariants as lines
use Rattle.artery_judge.specs.Lines.{same}
use Rattle.artery_judge.specs.Laws.{is_dial}
use Rattle.artery_machine.specs.Parts.{whole}
use Rattle.artery_machine.specs.Connections.{is_dialed}
use Rattle.artery_machine.specs.Node.{Node, Peer, Inbound, of_kind, incarnation, peer_at, inbound_at}
use Rattle.artery_machine.specs.Ticking.{numbers_from}
use Rattle.artery_handshake.specs.declared.in_conn.InState.TheVariants.{Raw}
use Rattle.artery_names.proofs.Lists.{by_test, not_both, eq_true, eq_self, and_left, and_right, and_both, Each, each_get, each_weaker, each_push, Or, First, Second}
use Rattle.artery_names.proofs.Said.{Tabling, Acking, Answering}
use Rattle.artery_names.proofs.Talks.{Told, adopted_by, told_by, name_by, same_talk}
use Rattle.artery_names.proofs.Facts.{Conn, sends_on, tables_on, acks_on, answers_on, speakers_on, Answered, Made, IsWritten, AreWritten, AtMost, AreRising, TalkFacts, ConnFacts, Out, BoundTo, bound_in, PeerFacts, IsFramed, story_of, stories_of, IsKnown, InFacts, Heard, NodeFacts}
use Rattle.artery_names.proofs.Growing.{Grown, Still, dialed_same, inward_same, Along, along_wider, made_grows, written_grows, all_written_grow, all_written_more, all_written_push}
use Rattle.artery_names.proofs.Plain.{Same, in_plain, announced_more, bound_grows, all_held_grow}
use Rattle.artery_names.proofs.Later.{More, at_most_self, no_more, in_talk}

pub same_is : (a b : UniqueAddress) → same a b ≡ true → a ≡ b
same_is a b h = search (comparing, rules)

pub same_self : (a : UniqueAddress) → same a a ≡ true
same_self a = search (comparing, rules)

-- numbers that do not fall, and one more that is not below them
pub rising_push : (ts : List Told) (t : Told) → AreRising ts → Each (λ (s : Told). AtMost s.numbers t.numbers) ts → AreRising (ts ++ t ∷ [])
rising_push [] t h k = (tt, tt)
rising_push (s ∷ ts) t h k = (each_push (λ (r : Told). AtMost s.numbers r.numbers) ts t h.0 k.0, rising_push ts t h.1 k.1)

-- The node who is me told a message to b on its connection d.
module _ (me b : UniqueAddress) (d : ℕ) (message : Tell) (ls : List Line) where
  abbrev line : Line
  line = lines.Told me b d message

  pub record IsIt (x y : UniqueAddress) (e : ℕ) : Type 0 where
    pub near : x ≡ me
    pub far : y ≡ b
    pub dial : e ≡ d

  pub it : (x y : UniqueAddress) (e : ℕ) → is_dial x y e ((me, b), d) ≡ true → IsIt x y e
  it x y e h =
      let way : (same x me && same y b) ≡ true = and_left (same x me && same y b) (e == d) h in
      record { near = same_is x me (and_left (same x me) (same y b) way); far = same_is y b (and_right (same x me) (same y b) way); dial = eq_true e d (and_right (same x me && same y b) (e == d) h) }

  pub is_it : is_dial me b d ((me, b), d) ≡ true
  is_it = and_both (same me me && same b b) (d == d) (and_both (same me me) (same b b) (same_self me) (same_self b)) (eq_self d)

  -- what was told with it
  abbrev pub now_told : UniqueAddress → UniqueAddress → Told
  now_told x y = record { message = message; numbers = adopted_by x y ls }

  pub told_yes : (x y : UniqueAddress) (e : ℕ) → is_dial x y e ((me, b), d) ≡ true → told_by x y e (line ∷ ls) ≡ told_by x y e ls ++ now_told x y ∷ []
  told_yes x y e h = ap (λ (c : Bool). cond c (told_by x y e ls ++ now_told x y ∷ []) (told_by x y e ls)) h

  pub told_no : (x y : UniqueAddress) (e : ℕ) → is_dial x y e ((me, b), d) ≡ false → told_by x y e (line ∷ ls) ≡ told_by x y e ls
  told_no x y e h = ap (λ (c : Bool). cond c (told_by x y e ls ++ now_told x y ∷ []) (told_by x y e ls)) h

  pub talks_told : (x y : UniqueAddress) (e : ℕ) → TalkFacts x y e ls → TalkFacts x y e (line ∷ ls)
  talks_told x y e h = by_test (is_dial x y e ((me, b), d))
      (λ t. record {
        rising = subst AreRising (sym (told_yes x y e t)) (rising_push (told_by x y e ls) (now_told x y) h.rising h.below);
        below = subst (λ ts. Each (λ (s : Told). AtMost s.numbers (adopted_by x y ls)) ts) (sym (told_yes x y e t)) (each_push (λ (s : Told). AtMost s.numbers (adopted_by x y ls)) (told_by x y e ls) (now_told x y) h.below (at_most_self (adopted_by x y ls)));
      })
      (λ t. record { rising = subst AreRising (sym (told_no x y e t)) h.rising; below = subst (λ ts. Each (λ (s : Told). AtMost s.numbers (adopted_by x y ls)) ts) (sym (told_no x y e t)) h.below })

-- A connection on which this may have been written: it was, or its near side has ended, or it is another one.
pub data Spoke (u dial : ℕ) (e : EnvelopeOf) (c d : Conn) : Type 0 where
  Quiet : Still c d → (is_dialed u dial c ≡ true → d.near_open ≡ false) → Spoke u dial e c d
  Said : Grown c d → sends_on d ≡ sends_on c ++ e ∷ [] → tables_on d ≡ tables_on c → acks_on d ≡ acks_on c → answers_on d ≡ answers_on c → speakers_on d ≡ speakers_on c → c.near_open ≡ true → is_dialed u dial c ≡ true → Spoke u dial e c d

pub spoke_grown : (u dial : ℕ) (e : EnvelopeOf) (c d : Conn) → Spoke u dial e c d → Grown c d
spoke_grown u dial e c d (Quiet s n) = s.grown
spoke_grown u dial e c d (Said g s t a w v o i) = g

spoke_tables : (u dial : ℕ) (e : EnvelopeOf) (c d : Conn) → Spoke u dial e c d → tables_on d ≡ tables_on c
spoke_tables u dial e c d (Quiet s n) = s.tables
spoke_tables u dial e c d (Said g s t a w v o i) = t

spoke_acks : (u dial : ℕ) (e : EnvelopeOf) (c d : Conn) → Spoke u dial e c d → acks_on d ≡ acks_on c
spoke_acks u dial e c d (Quiet s n) = s.acks
spoke_acks u dial e c d (Said g s t a w v o i) = a

spoke_answers : (u dial : ℕ) (e : EnvelopeOf) (c d : Conn) → Spoke u dial e c d → answers_on d ≡ answers_on c
spoke_answers u dial e c d (Quiet s n) = s.answers
spoke_answers u dial e c d (Said g s t a w v o i) = w

spoke_speakers : (u dial : ℕ) (e : EnvelopeOf) (c d : Conn) → Spoke u dial e c d → speakers_on d ≡ speakers_on c
spoke_speakers u dial e c d (Quiet s n) = s.speakers
spoke_speakers u dial e c d (Said g s t a w v o i) = v

-- a connection, with who is at its ends
conn_told : (me b : UniqueAddress) (d : ℕ) (message : Tell) (ls : List Line) (u : ℕ) (e : EnvelopeOf) (cs ds : List Conn) → Along Grown cs ds → (x y : UniqueAddress) (c k : Conn) → ConnFacts cs x y ls c → Spoke u d e c k
    → (is_dialed u d c ≡ true → is_dial x y c.dial ((me, b), d) ≡ true) → (is_dial x y c.dial ((me, b), d) ≡ true → is_dialed u d c ≡ true)
    → (is_dial x y c.dial ((me, b), d) ≡ true → IsWritten ds c.dialer c.far e (now_told me b d message ls x y)) → ConnFacts ds x y (lines.Told me b d message ∷ ls) k
conn_told me b d message ls u e cs ds grow x y c k h s there here written = record {
  near = h.near ∙ sym g.dialer;
  far = h.far ∙ sym g.far;
  told = subst (λ (z : ℕ). AreWritten ds z k.far (sends_on k) (told_by x y k.dial ks)) (sym g.dialer) (subst (λ (z : ℕ). AreWritten ds c.dialer z (sends_on k) (told_by x y k.dial ks)) (sym g.far)
      (subst (λ (z : ℕ). AreWritten ds c.dialer c.far (sends_on k) (told_by x y z ks)) (sym g.dial) (by_test (is_dial x y c.dial ((me, b), d)) (yes s) (no s))));
  all = λ o. subst (λ (z : ℕ). length (sends_on k) ≡ length (told_by x y z ks)) (sym g.dial) (by_test (is_dial x y c.dial ((me, b), d)) (all_yes s o) (all_no s o));
  acks = subst (λ xs. Each (λ (j : Acking). j.number ≤ of_kind j.kind (adopted_by x y ls)) xs) (sym (spoke_acks u d e c k s)) h.acks;
  says = subst (λ vs. Each (λ (v : UniqueAddress). v ≡ x) vs) (sym (spoke_speakers u d e c k s)) h.says;
  places = subst (λ ts. Each (λ (j : Tabling). j.values ≡ numbers_from 0 (length j.keys)) ts) (sym (spoke_tables u d e c k s)) h.places;
}
  where
    ks : List Line
    ks = lines.Told me b d message ∷ ls

    g : Grown c k
    g = spoke_grown u d e c k s

    was : AreWritten ds c.dialer c.far (sends_on c) (told_by x y c.dial ls)
    was = all_written_grow cs ds grow c.dialer c.far (sends_on c) (told_by x y c.dial ls) h.told

    t : Told
    t = now_told me b d message ls x y

    yes : Spoke u d e c k → is_dial x y c.dial ((me, b), d) ≡ true → AreWritten ds c.dialer c.far (sends_on k) (told_by x y c.dial ks)
    yes (Quiet q m) p = subst (λ ts. AreWritten ds c.dialer c.far (sends_on k) ts) (sym (told_yes me b d message ls x y c.dial p))
        (subst (λ es. AreWritten ds c.dialer c.far es (told_by x y c.dial ls ++ t ∷ [])) (sym q.sends) (all_written_more ds c.dialer c.far (sends_on c) (told_by x y c.dial ls) (t ∷ []) was))
    yes (Said q sends f j w v o m) p = subst (λ ts. AreWritten ds c.dialer c.far (sends_on k) ts) (sym (told_yes me b d message ls x y c.dial p))
        (subst (λ es. AreWritten ds c.dialer c.far es (told_by x y c.dial ls ++ t ∷ [])) (sym sends) (all_written_push ds c.dialer c.far (sends_on c) (told_by x y c.dial ls) e t (h.all o) was (written p)))

    no : Spoke u d e c k → is_dial x y c.dial ((me, b), d) ≡ false → AreWritten ds c.dialer c.far (sends_on k) (told_by x y c.dial ks)
    no (Quiet q m) p = subst (λ ts. AreWritten ds c.dialer c.far (sends_on k) ts) (sym (told_no me b d message ls x y c.dial p)) (subst (λ es. AreWritten ds c.dialer c.far es (told_by x y c.dial ls)) (sym q.sends) was)
    no (Said q sends f j w v o m) p = not_both (there m) p

    all_yes : Spoke u d e c k → k.near_open ≡ true → is_dial x y c.dial ((me, b), d) ≡ true → length (sends_on k) ≡ length (told_by x y c.dial ks)
    all_yes (Quiet q m) o p = not_both o (m (here p))
    all_yes (Said q sends f j w v r m) o p =
        let same : length (sends_on c) ≡ length (told_by x y c.dial ls) = h.all r in
        let left : length (sends_on k) ≡ length (sends_on c) + 1 = ap (λ (es : List EnvelopeOf). length es) sends ∙ length-append (sends_on c) (e ∷ []) in
        let right : length (told_by x y c.dial ks) ≡ length (told_by x y c.dial ls) + 1 = ap (λ (ts : List Told). length ts) (told_yes me b d message ls x y c.dial p) ∙ length-append (told_by x y c.dial ls) (t ∷ []) in omega arith

    all_no : Spoke u d e c k → k.near_open ≡ true → is_dial x y c.dial ((me, b), d) ≡ false → length (sends_on k) ≡ length (told_by x y c.dial ks)
    all_no (Quiet q m) o p = ap (λ (es : List EnvelopeOf). length es) q.sends ∙ h.all (q.grown.near o) ∙ sym (ap (λ (ts : List Told). length ts) (told_no me b d message ls x y c.dial p))
    all_no (Said q sends f j w v r m) o p = not_both (there m) p

module _ (nobody : UniqueAddress) (u : ℕ) (n : Node whole) (given : ℕ → ℕ) (away : Address → Bool) (a : Address) (dial uid : ℕ) (message : Tell) (e : EnvelopeOf) (cs ds : List Conn) (ls : List Line)
    (out : Out nobody cs ls) (facts : NodeFacts nobody u given away n cs ls) (bound : BoundTo nobody n.me cs ls a dial uid)
    (written : IsWritten cs n.me.uid uid e (record { message = message; numbers = adopted_by n.me (incarnation a uid) ls })) (spoke : Along (Spoke u dial e) cs ds) where
  abbrev pub v : UniqueAddress
  v = incarnation a uid

  abbrev pub ks : List Line
  ks = lines.Told n.me v dial message ∷ ls

  grow : Along Grown cs ds
  grow = along_wider (Spoke u dial e) Grown (spoke_grown u dial e) cs ds spoke

  -- a connection that is the one on which it is told
  mine : (i : ℕ) (c : Conn) → slice_get cs i ≡ Some c → is_dialed u dial c ≡ true → IsIt n.me v dial message ls (name_by nobody c.dialer ls) (name_by nobody c.far ls) c.dial
  mine i c at t =
      let near : c.dialer ≡ u = eq_true c.dialer u (and_left (c.dialer == u) (c.dial == dial) t) in
      let far : c.far ≡ uid = bound.far i c at (subst (λ (x : ℕ). is_dialed x dial c ≡ true) (sym facts.uid) t) in
      record {
        near = ap (λ (x : ℕ). name_by nobody x ls) near ∙ facts.me;
        far = ap (λ (x : ℕ). name_by nobody x ls) far ∙ bound.name;
        dial = eq_true c.dial dial (and_right (c.dialer == u) (c.dial == dial) t);
      }

  -- and that is the only one of that name
  named_so : (i : ℕ) (c : Conn) → slice_get cs i ≡ Some c → is_dial (name_by nobody c.dialer ls) (name_by nobody c.far ls) c.dial ((n.me, v), dial) ≡ true → is_dialed u dial c ≡ true
  named_so i c at t =
      let s = it n.me v dial message ls (name_by nobody c.dialer ls) (name_by nobody c.far ls) c.dial t in
      let near : c.dialer ≡ u = sym (out.conns i c at).near ∙ ap (λ (x : UniqueAddress). x.uid) s.near ∙ facts.uid in
      and_both (c.dialer == u) (c.dial == dial) (subst (λ (x : ℕ). (c.dialer == x) ≡ true) near (eq_self c.dialer)) (subst (λ (x : ℕ). (c.dial == x) ≡ true) s.dial (eq_self c.dial))

  it_is : (i : ℕ) (c : Conn) → slice_get cs i ≡ Some c → is_dialed u dial c ≡ true → is_dial (name_by nobody c.dialer ls) (name_by nobody c.far ls) c.dial ((n.me, v), dial) ≡ true
  it_is i c at t =
      let r = mine i c at t in
      subst (λ (x : UniqueAddress). is_dial x (name_by nobody c.far ls) c.dial ((n.me, v), dial) ≡ true) (sym r.near)
      (subst (λ (x : UniqueAddress). is_dial n.me x c.dial ((n.me, v), dial) ≡ true) (sym r.far)
      (subst (λ (x : ℕ). is_dial n.me v x ((n.me, v), dial) ≡ true) (sym r.dial) (is_it n.me v dial message ls)))

  written_so : (i : ℕ) (c : Conn) → slice_get cs i ≡ Some c → is_dial (name_by nobody c.dialer ls) (name_by nobody c.far ls) c.dial ((n.me, v), dial) ≡ true
      → IsWritten ds c.dialer c.far e (now_told n.me v dial message ls (name_by nobody c.dialer ls) (name_by nobody c.far ls))
  written_so i c at t =
      let s = it n.me v dial message ls (name_by nobody c.dialer ls) (name_by nobody c.far ls) c.dial t in
      let near : c.dialer ≡ n.me.uid = sym (out.conns i c at).near ∙ ap (λ (x : UniqueAddress). x.uid) s.near in
      let far : c.far ≡ uid = sym (out.conns i c at).far ∙ ap (λ (x : UniqueAddress). x.uid) s.far in
      subst (λ (x : UniqueAddress). IsWritten ds c.dialer c.far e (now_told n.me v dial message ls x (name_by nobody c.far ls))) (sym s.near)
      (subst (λ (x : UniqueAddress). IsWritten ds c.dialer c.far e (now_told n.me v dial message ls n.me x)) (sym s.far)
      (subst (λ (x : ℕ). IsWritten ds x c.far e (now_told n.me v dial message ls n.me v)) (sym near)
      (subst (λ (x : ℕ). IsWritten ds n.me.uid x e (now_told n.me v dial message ls n.me v)) (sym far)
      (written_grows cs ds grow n.me.uid uid e (now_told n.me v dial message ls n.me v) written))))

  untold_told : (x y : UniqueAddress) (z : ℕ) → Or (told_by x y z ls ≡ []) (Made cs x.uid z) → Or (told_by x y z ks ≡ []) (Made ds x.uid z)
  untold_told x y z (Second m) = Second (made_grows cs ds grow x.uid z m)
  untold_told x y z (First k) = by_test (is_dial x y z ((n.me, v), dial))
      (λ t. (let s = it n.me v dial message ls x y z t in
      Second (subst (λ (b : ℕ). Made ds x.uid b) (sym s.dial) (subst (λ (b : UniqueAddress). Made ds b.uid dial) (sym s.near) (made_grows cs ds grow n.me.uid dial bound.made)))))
      (λ t. First (told_no n.me v dial message ls x y z t ∙ k))

  pub out_told : Out nobody ds ks
  out_told = record {
    adopts = λ x y kind. announced_more nobody cs ds grow x y kind (of_kind kind (adopted_by x y ls)) (out.adopts x y kind);
    dialed = λ i j c k x y p q. (let f = spoke.back i c x in let g = spoke.back j k y in
        let fg = spoke_grown u dial e f.was c f.so in let gg = spoke_grown u dial e g.was k g.so in
        out.dialed i j f.was g.was f.is g.is (sym fg.dialer ∙ p ∙ gg.dialer) (sym fg.dial ∙ q ∙ gg.dial));
    reached = λ i j c k x y p q. (let f = spoke.back i c x in let g = spoke.back j k y in
        let fg = spoke_grown u dial e f.was c f.so in let gg = spoke_grown u dial e g.was k g.so in
        out.reached i j f.was g.was f.is g.is (sym fg.far ∙ p ∙ gg.far) (sym fg.number ∙ q ∙ gg.number));
    untold = λ x y z. untold_told x y z (out.untold x y z);
    talks = λ x y z. talks_told n.me v dial message ls x y z (out.talks x y z);
    conns = λ i c x. (let f = spoke.back i c x in
        let fg = spoke_grown u dial e f.was c f.so in
        subst (λ (z : ℕ). ConnFacts ds (name_by nobody z ls) (name_by nobody c.far ls) ks c) (sym fg.dialer)
        (subst (λ (z : ℕ). ConnFacts ds (name_by nobody f.was.dialer ls) (name_by nobody z ls) ks c) (sym fg.far)
        (conn_told n.me v dial message ls u e cs ds grow (name_by nobody f.was.dialer ls) (name_by nobody f.was.far ls) f.was c (out.conns i f.was f.is) f.so (it_is i f.was f.is) (named_so i f.was f.is) (written_so i f.was f.is))));
  }

  peer_told : (b : Address) (p : Peer whole) → PeerFacts nobody n.me cs ls b p → PeerFacts nobody n.me ds ks b p
  peer_told b p h = record {
    alive = h.alive;
    unspoken = h.unspoken;
    control = bound_grows nobody n.me cs ds ls ks b (bound_in p.control.conn) grow (λ x y. y) h.control;
    ordinary = bound_grows nobody n.me cs ds ls ks b (bound_in p.ordinary.conn) grow (λ x y. y) h.ordinary;
  }

  -- what is told on a connection that reaches this node itself is told where it is known who speaks
  still_raw : (k : ℕ) (i : Inbound whole) → inbound_at k n ≡ Some i → (h : Heard nobody n.me (given k) (stories_of n) cs ls k i) → i.state ≡ Raw
      → told_by (name_by nobody h.conn.dialer ls) n.me h.conn.dial ls ≡ [] → told_by (name_by nobody h.conn.dialer ls) n.me h.conn.dial ks ≡ []
  still_raw k i at h raw none = by_test (is_dial x n.me h.conn.dial ((n.me, v), dial))
      (λ t. (let s = it n.me v dial message ls x n.me h.conn.dial t in
      let near : h.conn.dialer ≡ n.me.uid = sym (out.conns h.place h.conn h.is).near ∙ ap (λ (y : UniqueAddress). y.uid) s.near in
      let self : n.me.uid ≡ uid = ap (λ (y : UniqueAddress). y.uid) s.far in
      let y : Answered cs uid n.me.uid dial = bound.answered in
      let f = each_get _ (answers_on y.conn) y.said.place _ (facts.opened y.place y.conn y.is (y.near ∙ sym self ∙ facts.uid)) y.said.is in
      let g = f h.place h.conn h.is (and_both (h.conn.dialer == n.me.uid) (h.conn.dial == dial) (subst (λ (z : ℕ). (h.conn.dialer == z) ≡ true) near (eq_self h.conn.dialer)) (subst (λ (z : ℕ). (h.conn.dial == z) ≡ true) s.dial (eq_self h.conn.dial))) in
      let number : h.conn.number ≡ k = eq_true h.conn.number k (and_right (h.conn.far == n.me.uid) (h.conn.number == k) h.inward) in
      absurd (subst IsKnown raw (g.1 i (ap (λ (z : ℕ). inbound_at z n) number ∙ at)))))
      (λ t. told_no n.me v dial message ls x n.me h.conn.dial t ∙ none)
    where
      x : UniqueAddress
      x = name_by nobody h.conn.dialer ls

  -- on a connection that reaches this node
  in_told : (k : ℕ) (i : Inbound whole) → inbound_at k n ≡ Some i → Heard nobody n.me (given k) (stories_of n) cs ls k i → Heard nobody n.me (given k) (stories_of n) ds ks k i
  in_told k i at h =
      let f = spoke.forth h.place h.conn h.is in
      let g : Grown h.conn f.next = spoke_grown u dial e h.conn f.next f.so in
      let x : UniqueAddress = name_by nobody h.conn.dialer ls in
      let more : More (adopted_by x n.me ls) (told_by x n.me h.conn.dial ls) (told_by x n.me h.conn.dial ks) = by_test (is_dial x n.me h.conn.dial ((n.me, v), dial))
      (λ t. record { rest = now_told n.me v dial message ls x n.me ∷ []; is = told_yes n.me v dial message ls x n.me h.conn.dial t; numbers = (at_most_self (adopted_by x n.me ls), tt) })
      (λ t. no_more (adopted_by x n.me ls) _ _ (told_no n.me v dial message ls x n.me h.conn.dial t)) in
      let new : InFacts n.me x (given k) (stories_of n x) ks i h.conn = in_talk n.me x (given k) (stories_of n x) ls ks i h.conn refl (at_most_self (adopted_by x n.me ls)) more (facts.origins x) (still_raw k i at h) h.facts in
      record {
        place = h.place;
        conn = f.next;
        is = f.is;
        inward = inward_same n.me.uid k h.conn f.next g ∙ h.inward;
        facts = subst (λ (z : ℕ). InFacts n.me (name_by nobody z ls) (given k) (stories_of n (name_by nobody z ls)) ks i f.next) (sym g.dialer)
            (in_plain nobody n.me x (given k) (stories_of n x) (stories_of n x) ks ks i i h.conn f.next (λ kind. refl) (same_talk ks) g (record { state = refl; shown = refl; owed = Same refl }) new);
      }

  pub node_told : NodeFacts nobody u given away n ds ks
  node_told = record {
    uid = facts.uid;
    me = facts.me;
    ordered = facts.ordered;
    peers = λ b. peer_told b (peer_at b n) (facts.peers b);
    tables = λ b x. all_held_grow nobody cs ds n.me b ls ks (peer_at b n).tables (peer_at b n).incarnations.current grow (λ y z. refl) (facts.tables b x);
    gone = facts.gone;
    origins = facts.origins;
    framed = λ i c x o. (let f = spoke.back i c x in
        let fg = spoke_grown u dial e f.was c f.so in
        subst (λ xs. Each (λ (t : Tabling). IsFramed (story_of t.kind (name_by nobody c.far ls) n) t) xs) (sym (spoke_tables u dial e f.was c f.so))
        (subst (λ (z : ℕ). Each (λ (t : Tabling). IsFramed (story_of t.kind (name_by nobody z ls) n) t) (tables_on f.was)) (sym fg.far) (facts.framed i f.was f.is (sym fg.dialer ∙ o))));
    inbound = λ k i at. in_told k i at (facts.inbound k i at);
    opened = λ j c x o. (let f = spoke.back j c x in
        let fg = spoke_grown u dial e f.was c f.so in
        subst (λ xs. Each (λ (y : Answering). (p : ℕ) (k : Conn) → slice_get ds p ≡ Some k → is_dialed y.uid y.dial k ≡ true → (k.far ≡ u) × ((i : Inbound whole) → inbound_at k.number n ≡ Some i → IsKnown i.state)) xs) (sym (spoke_answers u dial e f.was c f.so))
        (each_weaker _ _ (λ y z p k at t.
        (let g = spoke.back p k at in
        let gg = spoke_grown u dial e g.was k g.so in
        let r = z p g.was g.is (sym (dialed_same y.uid y.dial g.was k gg) ∙ t) in
        (gg.far ∙ r.0, λ i q. r.1 i (sym (ap (λ (w : ℕ). inbound_at w n) gg.number) ∙ q)))) (answers_on f.was) (facts.opened j f.was f.is (sym fg.dialer ∙ o))));
  }
