-- What a step of one node leaves to the others: their facts stay true.
use Rattle.std.proofs.Common.{◌≡◌, ℕ, zero, suc, ◌+◌, ◌≤◌, Bool, true, List, [], ◌∷◌, ◌++◌, length, take, drop, refl, sym, ◌∙◌, ap, subst, arith, append_assoc, append-nil}
use Rattle.std.specs.Prelude.{Option, None, Some, ◌==◌, slice_get}
use Rattle.artery_base.specs.declared.address.Address.{Address}
use Rattle.artery_base.specs.declared.address.UniqueAddress.{UniqueAddress}
use Rattle.artery_base.specs.declared.message.Tell.{Tell}
use Rattle.artery_handshake.specs.declared.in_conn.InState.{InState}
use Rattle.artery_handshake.specs.declared.in_conn.InState.TheVariants.{Raw, Known}
use Rattle.artery_journal.specs.declared.line.Line.{Line}
use Rattle.artery_journal.specs.declared.words.Kind.{Kind}
use Rattle.artery_tables.specs.Story.{Story}
use Rattle.artery_machine.specs.Parts.{whole}
use Rattle.artery_machine.specs.Ways.{Wrote}
use Rattle.artery_machine.specs.Connections.{is_dialed, is_inward}
use Rattle.artery_machine.specs.Node.{Node, Peer, Inbound, OfKinds, of_kind, incarnation, peer_at, inbound_at}
use Rattle.artery_names.specs.Versions.{Fits}
use Rattle.artery_names.proofs.Lists.{eq_true, eq_self, and_right, and_both, Each, each_weaker, each_both, each_get, Or, First, Second, Within, within_more}
use Rattle.artery_names.proofs.Said.{Tabling, Answering, tables_said, answers_said, all_said}
use Rattle.artery_names.proofs.Talks.{Told, adopted_by, told_by, got_by, name_by, messages, same_talk}
use Rattle.artery_names.proofs.Facts.{Network, Conn, journal, tables_on, answers_on, Answered, AtMost, Out, bound_in, PeerFacts, StoryFacts, IsFramed, story_of, stories_of, IsShown, IsState, IsKnown, sent_in, InFacts, Heard, NodeFacts}
use Rattle.artery_names.proofs.Growing.{Grown, Stepped, stepped_self, stepped_trans, dialed_same, inward_same, Along, along_self, along_trans, along_wider, answered_grows}
use Rattle.artery_names.proofs.Plain.{Same, in_plain, bound_grows, all_held_grow}

-- ---- a step

-- More was told, by tables with numbers that are not below the last ones adopted before.
pub record More (least : OfKinds ℕ) (before after : List Told) : Type 0 where
  pub rest : List Told
  pub is : after ≡ before ++ rest
  pub numbers : Each (λ (t : Told). AtMost least t.numbers) rest

pub record Later (nobody : UniqueAddress) (u : ℕ) (w v : Network) : Type 0 where
  pub conns : Along (Stepped u) w.connections v.connections
  pub name : (uid : ℕ) → name_by nobody uid (journal v) ≡ name_by nobody uid (journal w)
  pub adopted : (a b : UniqueAddress) → (a.uid ≡ u → ⊥) → adopted_by a b (journal v) ≡ adopted_by a b (journal w)
  pub rises : (a b : UniqueAddress) → AtMost (adopted_by a b (journal w)) (adopted_by a b (journal v))
  pub got : (a b : UniqueAddress) (d : ℕ) → (b.uid ≡ u → ⊥) → got_by a b d (journal v) ≡ got_by a b d (journal w)
  pub told : (a b : UniqueAddress) (d : ℕ) → More (adopted_by a b (journal w)) (told_by a b d (journal w)) (told_by a b d (journal v))
  pub spoken : (a b : UniqueAddress) (d : ℕ) → Or (told_by a b d (journal v) ≡ told_by a b d (journal w)) (Answered v.connections b.uid a.uid d)
  pub going : v.ended ≡ None → w.ended ≡ None

pub at_most_self : (x : OfKinds ℕ) → AtMost x x
at_most_self x kind = omega arith

pub at_most_same : (x y : OfKinds ℕ) → y ≡ x → AtMost x y
at_most_same x y e = subst (AtMost x) (sym e) (at_most_self x)

pub at_most_trans : (x y z : OfKinds ℕ) → AtMost x y → AtMost y z → AtMost x z
at_most_trans x y z f g kind = (let a : of_kind kind x ≤ of_kind kind y = f kind in let b : of_kind kind y ≤ of_kind kind z = g kind in omega arith)

pub no_more : (least : OfKinds ℕ) (before after : List Told) → after ≡ before → More least before after
no_more least before after e = record { rest = []; is = e ∙ sym (append-nil before); numbers = tt }

more_trans : (x y : OfKinds ℕ) (ps qs rs : List Told) → AtMost x y → More x ps qs → More y qs rs → More x ps rs
more_trans x y ps qs rs le f g = record {
  rest = f.rest ++ g.rest;
  is = g.is ∙ ap (λ l. l ++ g.rest) f.is ∙ append_assoc ps f.rest g.rest;
  numbers = each_both _ f.rest g.rest f.numbers (each_weaker _ _ (λ t k. at_most_trans x y t.numbers le k) g.rest g.numbers);
}

pub later_self : (nobody : UniqueAddress) (u : ℕ) (w : Network) → Later nobody u w w
later_self nobody u w = record {
  conns = along_self (Stepped u) (stepped_self u) w.connections;
  name = λ uid. refl;
  adopted = λ a b n. refl;
  rises = λ a b. at_most_self _;
  got = λ a b d n. refl;
  told = λ a b d. no_more _ _ _ refl;
  spoken = λ a b d. First refl;
  going = λ h. h;
}

pub along_grown : (u : ℕ) (cs ds : List Conn) → Along (Stepped u) cs ds → Along Grown cs ds
along_grown u cs ds l = along_wider (Stepped u) Grown (λ c d s. s.grown) cs ds l

pub later_trans : (nobody : UniqueAddress) (u : ℕ) (w v x : Network) → Later nobody u w v → Later nobody u v x → Later nobody u w x
later_trans nobody u w v x f g = record {
  conns = along_trans (Stepped u) (stepped_trans u) w.connections v.connections x.connections f.conns g.conns;
  name = λ uid. g.name uid ∙ f.name uid;
  adopted = λ a b n. g.adopted a b n ∙ f.adopted a b n;
  rises = λ a b. at_most_trans _ _ _ (f.rises a b) (g.rises a b);
  got = λ a b d n. g.got a b d n ∙ f.got a b d n;
  told = λ a b d. more_trans _ _ _ _ _ (f.rises a b) (f.told a b d) (g.told a b d);
  spoken = λ a b d. by a b d (f.spoken a b d) (g.spoken a b d);
  going = λ h. f.going (g.going h);
}
  where
    by : (a b : UniqueAddress) (d : ℕ) → Or (told_by a b d (journal v) ≡ told_by a b d (journal w)) (Answered v.connections b.uid a.uid d) → Or (told_by a b d (journal x) ≡ told_by a b d (journal v)) (Answered x.connections b.uid a.uid d)
        → Or (told_by a b d (journal x) ≡ told_by a b d (journal w)) (Answered x.connections b.uid a.uid d)
    by a b d p (Second k) = Second k
    by a b d (Second k) (First e) = Second (answered_grows v.connections x.connections (along_grown u v.connections x.connections g.conns) b.uid a.uid d k)
    by a b d (First k) (First e) = First (e ∙ k)

-- ---- what is told later

pub within_take : (xs : List Tell) (g : ℕ) (ts us : List Told) → Within xs (messages (take g ts)) → Within xs (messages (take g (ts ++ us)))
within_take xs g ts us h = subst (λ (l : List Tell). Within xs l) (sym (split g ts).1) (within_more xs (messages (take g ts)) (split g ts).0 h)
  where
    split : (g : ℕ) (ts : List Told) → (rest : List Tell) × (messages (take g (ts ++ us)) ≡ messages (take g ts) ++ rest)
    split zero [] = (messages (take zero us), refl)
    split (suc g) [] = (messages (take (suc g) us), refl)
    split zero (t ∷ ts) = ([], refl)
    split (suc g) (t ∷ ts) = (let k = split g ts in (k.0, ap (λ (l : List Tell). t.message ∷ l) k.1))

pub each_drop : (P : Told → Type 0) (g : ℕ) (ts us : List Told) → Each P (drop g ts) → Each P us → Each P (drop g (ts ++ us))
each_drop P zero [] us h k = k
each_drop P (suc g) [] us h k = dropped (suc g) us k
  where
    dropped : (g : ℕ) (us : List Told) → Each P us → Each P (drop g us)
    dropped zero us k = k
    dropped (suc g) [] k = tt
    dropped (suc g) (u ∷ us) k = dropped g us k.1
each_drop P zero (t ∷ ts) us h k = (h.0, each_both P ts us h.1 k)
each_drop P (suc g) (t ∷ ts) us h k = each_drop P g ts us h k

-- what is told later by newer tables is within reach of a story that is hardly longer than what was adopted
fits_later : (s : Story) (kind : Kind) (adopted : OfKinds ℕ) (us : List Told) → StoryFacts s (of_kind kind adopted) → Each (λ (t : Told). AtMost adopted t.numbers) us → Each (λ (t : Told). Fits (length s.tables) (of_kind kind t.numbers)) us
fits_later s kind adopted us f h = each_weaker _ _ (λ t k p.
    (let a : of_kind kind adopted ≤ of_kind kind t.numbers = k kind in
    let b : length s.tables ≤ s.confirmed + 1 = f.story.one_open in
    let c : s.confirmed ≤ of_kind kind adopted = f.below in omega arith)) us h

shown_later : (x : Option ℕ) (kind : Kind) (old new : OfKinds ℕ) (g : ℕ) (ts us : List Told) → AtMost old new → Each (λ (t : Told). AtMost old t.numbers) us → IsShown x kind old (drop g ts) → IsShown x kind new (drop g (ts ++ us))
shown_later None kind old new g ts us le h k = tt
shown_later (Some x) kind old new g ts us le h k = (
  (let a : x ≤ of_kind kind old = k.0 in let b : of_kind kind old ≤ of_kind kind new = le kind in omega arith),
  each_drop _ g ts us k.1 (each_weaker _ _ (λ t m. (let a : x ≤ of_kind kind old = k.0 in let b : of_kind kind old ≤ of_kind kind t.numbers = m kind in omega arith)) us h),
)

pub in_talk : (me a : UniqueAddress) (given : ℕ) (n : Kind → Story) (ls ks : List Line) (i : Inbound whole) (c : Conn) → got_by a me c.dial ks ≡ got_by a me c.dial ls → AtMost (adopted_by a me ls) (adopted_by a me ks)
    → More (adopted_by a me ls) (told_by a me c.dial ls) (told_by a me c.dial ks) → ((kind : Kind) → StoryFacts (n kind) (of_kind kind (adopted_by a me ls)))
    → (i.state ≡ Raw → told_by a me c.dial ls ≡ [] → told_by a me c.dial ks ≡ []) → InFacts me a given n ls i c → InFacts me a given n ks i c
in_talk me a given n ls ks i c same rises m story raw h = record {
  had = h.had;
  begun = h.begun;
  state = by i.state refl h.state;
  owed = h.owed;
  got = subst (λ (y : List Tell). Within y (messages (take (sent_in given c) (told_by a me c.dial ks)))) (sym same)
      (subst (λ (y : List Told). Within (got_by a me c.dial ls) (messages (take (sent_in given c) y))) (sym m.is) (within_take (got_by a me c.dial ls) (sent_in given c) (told_by a me c.dial ls) m.rest h.got));
  fits = λ u kind. subst (λ (y : List Told). Each (λ (z : Told). Fits (length (n kind).tables) (of_kind kind z.numbers)) (drop (sent_in given c) y)) (sym m.is)
      (each_drop _ (sent_in given c) (told_by a me c.dial ls) m.rest (h.fits u kind) (fits_later (n kind) kind (adopted_by a me ls) m.rest (story kind) m.numbers));
  shown = λ kind. subst (λ (y : List Told). IsShown (of_kind kind i.shown) kind (adopted_by a me ks) (drop (sent_in given c) y)) (sym m.is)
      (shown_later (of_kind kind i.shown) kind (adopted_by a me ls) (adopted_by a me ks) (sent_in given c) (told_by a me c.dial ls) m.rest rises m.numbers (h.shown kind));
}
  where
    by : (s : InState) → i.state ≡ s → IsState a c.dial (told_by a me c.dial ls) s → IsState a c.dial (told_by a me c.dial ks) s
    by Raw e k = raw e k
    by (Known who its_nonce) e k = k

-- ---- another node

module _ (nobody : UniqueAddress) (u : ℕ) (w v : Network) (l : Later nobody u w v) where
  grow : Along Grown w.connections v.connections
  grow = along_grown u w.connections v.connections l.conns

  -- a connection was answered by another node before
  answered_before : (x uid dial : ℕ) → (x ≡ u → ⊥) → Answered v.connections x uid dial → Answered w.connections x uid dial
  answered_before x uid dial n h =
      let b = l.conns.back h.place h.conn h.is in
      let near : b.was.dialer ≡ x = sym b.so.grown.dialer ∙ h.near in
      record {
        place = h.place;
        conn = b.was;
        is = b.is;
        near = near;
        said = record { place = h.said.place; is = ap (λ (ws : List Wrote). slice_get (all_said answers_said ws) h.said.place) (sym (b.so.others (λ e. n (sym near ∙ e)))) ∙ h.said.is };
      }

  -- where nobody is known to speak yet, nothing is told
  raw_later : (x : ℕ) (given : ℕ → ℕ) (away : Address → Bool) (n : Node whole) → (x ≡ u → ⊥) → Out nobody w.connections (journal w) → NodeFacts nobody x given away n w.connections (journal w)
      → (k : ℕ) (i : Inbound whole) → inbound_at k n ≡ Some i → (p : ℕ) (c : Conn) → slice_get w.connections p ≡ Some c → is_inward n.me.uid k c ≡ true → i.state ≡ Raw
      → told_by (name_by nobody c.dialer (journal w)) n.me c.dial (journal w) ≡ [] → told_by (name_by nobody c.dialer (journal w)) n.me c.dial (journal v) ≡ []
  raw_later x given away n other out h k i at p c e t raw none = by (l.spoken a n.me c.dial)
    where
      a : UniqueAddress
      a = name_by nobody c.dialer (journal w)

      answered : Answered w.connections x a.uid c.dial → told_by a n.me c.dial (journal v) ≡ []
      answered y =
          let f = each_get _ (answers_on y.conn) y.said.place _ (h.opened y.place y.conn y.is y.near) y.said.is in
          let named : c.dialer ≡ a.uid = sym (out.conns p c e).near in
          let g = f p c e (and_both (c.dialer == a.uid) (c.dial == c.dial) (subst (λ (z : ℕ). (c.dialer == z) ≡ true) named (eq_self c.dialer)) (eq_self c.dial)) in
          let number : c.number ≡ k = eq_true c.number k (and_right (c.far == n.me.uid) (c.number == k) t) in
          absurd (subst IsKnown raw (g.1 i (ap (λ (z : ℕ). inbound_at z n) number ∙ at)))

      by : Or (told_by a n.me c.dial (journal v) ≡ told_by a n.me c.dial (journal w)) (Answered v.connections n.me.uid a.uid c.dial) → told_by a n.me c.dial (journal v) ≡ []
      by (First same) = same ∙ none
      by (Second y) = answered (answered_before x a.uid c.dial other (subst (λ (z : ℕ). Answered v.connections z a.uid c.dial) h.uid y))

  -- an inbound connection of another node
  in_later : (x : ℕ) (given : ℕ → ℕ) (away : Address → Bool) (n : Node whole) → (x ≡ u → ⊥) → Out nobody w.connections (journal w) → NodeFacts nobody x given away n w.connections (journal w)
      → (k : ℕ) (i : Inbound whole) → inbound_at k n ≡ Some i → Heard nobody n.me (given k) (stories_of n) w.connections (journal w) k i → Heard nobody n.me (given k) (stories_of n) v.connections (journal v) k i
  in_later x given away n other out h k i at y =
      let f = l.conns.forth y.place y.conn y.is in
      let a : UniqueAddress = name_by nobody y.conn.dialer (journal w) in
      let name : name_by nobody f.next.dialer (journal v) ≡ a = l.name f.next.dialer ∙ ap (λ (z : ℕ). name_by nobody z (journal w)) f.so.grown.dialer in
      let new : InFacts n.me a (given k) (stories_of n a) (journal v) i y.conn = in_talk n.me a (given k) (stories_of n a) (journal w) (journal v) i y.conn (l.got a n.me y.conn.dial (λ q. other (sym h.uid ∙ q))) (l.rises a n.me) (l.told a n.me y.conn.dial) (h.origins a)
      (raw_later x given away n other out h k i at y.place y.conn y.is y.inward) y.facts in
      record {
        place = y.place;
        conn = f.next;
        is = f.is;
        inward = inward_same n.me.uid k y.conn f.next f.so.grown ∙ y.inward;
        facts = subst (λ (z : UniqueAddress). InFacts n.me z (given k) (stories_of n z) (journal v) i f.next) (sym name)
            (in_plain nobody n.me a (given k) (stories_of n a) (stories_of n a) (journal v) (journal v) i i y.conn f.next (λ kind. refl) (same_talk (journal v)) f.so.grown (record { state = refl; shown = refl; owed = Same refl }) new);
      }

  peer_later : (x : ℕ) (me : UniqueAddress) → me.uid ≡ x → (x ≡ u → ⊥) → (a : Address) (p : Peer whole) → PeerFacts nobody me w.connections (journal w) a p → PeerFacts nobody me v.connections (journal v) a p
  peer_later x me is other a p h = record {
    alive = h.alive;
    unspoken = λ uid t f. l.adopted me (incarnation a uid) (λ q. other (sym is ∙ q)) ∙ h.unspoken uid t f;
    control = bound_grows nobody me w.connections v.connections (journal w) (journal v) a (bound_in p.control.conn) grow (λ uid e. l.name uid ∙ e) h.control;
    ordinary = bound_grows nobody me w.connections v.connections (journal w) (journal v) a (bound_in p.ordinary.conn) grow (λ uid e. l.name uid ∙ e) h.ordinary;
  }

  pub others_later : (x : ℕ) (given : ℕ → ℕ) (away : Address → Bool) (n : Node whole) → (x ≡ u → ⊥) → Out nobody w.connections (journal w)
      → NodeFacts nobody x given away n w.connections (journal w) → NodeFacts nobody x given away n v.connections (journal v)
  others_later x given away n other out h = record {
    uid = h.uid;
    me = l.name x ∙ h.me;
    ordered = h.ordered;
    peers = λ a. peer_later x n.me h.uid other a (peer_at a n) (h.peers a);
    tables = λ a e. all_held_grow nobody w.connections v.connections n.me a (journal w) (journal v) (peer_at a n).tables (peer_at a n).incarnations.current grow
        (λ uid c. l.adopted n.me (incarnation a uid) (λ q. other (sym h.uid ∙ q))) (h.tables a e);
    gone = h.gone;
    origins = λ y kind. record { story = (h.origins y kind).story; below = (let a : (story_of kind y n).confirmed ≤ of_kind kind (adopted_by y n.me (journal w)) = (h.origins y kind).below in let b : of_kind kind (adopted_by y n.me (journal w)) ≤ of_kind kind (adopted_by y n.me (journal v)) = l.rises y n.me kind in omega arith) };
    framed = λ i c e near. (let b = l.conns.back i c e in
        let is : b.was.dialer ≡ x = sym b.so.grown.dialer ∙ near in
        let same : c.way.all ≡ b.was.way.all = b.so.others (λ q. other (sym is ∙ q)) in
        let far : name_by nobody c.far (journal v) ≡ name_by nobody b.was.far (journal w) = l.name c.far ∙ ap (λ (z : ℕ). name_by nobody z (journal w)) b.so.grown.far in
        subst (λ (ws : List Wrote). Each (λ (t : Tabling). IsFramed (story_of t.kind (name_by nobody c.far (journal v)) n) t) (all_said tables_said ws)) (sym same)
        (subst (λ (z : UniqueAddress). Each (λ (t : Tabling). IsFramed (story_of t.kind z n) t) (tables_on b.was)) (sym far) (h.framed i b.was b.is is)));
    inbound = λ k i at. in_later x given away n other out h k i at (h.inbound k i at);
    opened = λ j c e near. (let b = l.conns.back j c e in
        let is : b.was.dialer ≡ x = sym b.so.grown.dialer ∙ near in
        let same : c.way.all ≡ b.was.way.all = b.so.others (λ q. other (sym is ∙ q)) in
        subst (λ (ws : List Wrote). Each (λ (y : Answering). (p : ℕ) (k : Conn) → slice_get v.connections p ≡ Some k → is_dialed y.uid y.dial k ≡ true → (k.far ≡ x) × ((i : Inbound whole) → inbound_at k.number n ≡ Some i → IsKnown i.state)) (all_said answers_said ws)) (sym same)
        (each_weaker _ _ (λ y f p k g t.
        (let d = l.conns.back p k g in
        let o = f p d.was d.is (sym (dialed_same y.uid y.dial d.was k d.so.grown) ∙ t) in
        (d.so.grown.far ∙ o.0, λ i z. o.1 i (sym (ap (λ (q : ℕ). inbound_at q n) d.so.grown.number) ∙ z)))) (answers_on b.was) (h.opened j b.was b.is is)));
  }
