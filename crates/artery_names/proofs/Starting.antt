-- An incarnation starts: the facts of the others stay true, and its own are true.
use Rattle.std.proofs.Common.{◌≡◌, ℕ, ◌≤◌, Bool, true, false, ◌||◌, cond, List, [], ◌∷◌, ◌++◌, length, refl, sym, ◌∙◌, ap, subst, arith}
use Rattle.std.specs.Prelude.{Option, None, Some, ◌==◌, nat_lt, is_none, slice_get}
use Rattle.std.specs.List.{list_any}
use Rattle.artery_base.specs.declared.address.Address.{Address}
use Rattle.artery_base.specs.declared.address.UniqueAddress.{UniqueAddress}
use Rattle.artery_journal.specs.declared.line.Line.{Line}
use Rattle.artery_journal.specs.declared.line.Line.TheVariants as lines
use Rattle.artery_journal.specs.declared.words.Kind.{Kind}
use Rattle.artery_journal.specs.declared.words.Kind.TheVariants.{Refs, Manifests}
use Rattle.artery_tables.specs.Story.{Story, nothing_announced}
use Rattle.artery_machine.specs.declared.world.Outcome.TheVariants as outcomes
use Rattle.artery_machine.specs.declared.world.WorldLimit.{WorldLimit}
use Rattle.artery_machine.specs.declared.world.WorldLimit.TheVariants as limits
use Rattle.artery_machine.specs.Parts.{whole}
use Rattle.artery_machine.specs.Connections.{is_dialed}
use Rattle.artery_machine.specs.Node.{Node, Peer, Inbound, of_kind, of_each, incarnation, new_node, peer_at}
use Rattle.artery_machine.specs.Reacting.{starts}
use Rattle.artery_machine.specs.World.{Live, ◌⟫◌, ends, each, does, comes_out, was_started, with_started, starts_with, most_nodes, has_uid}
use Rattle.artery_flight.proofs.Lists.{each_push, count, count_here, each_of}
use Rattle.artery_flight.proofs.Grow.{AllRead, is_far}
use Rattle.artery_flight.proofs.Feeding.{nothing_left}
use Rattle.artery_flight.proofs.Networks.{Unstarted, Holds}
use Rattle.artery_flight.proofs.Starting.{any_push, starts_hold}
use Rattle.artery_names.proofs.Lists.{by_test, not_both, not_some, eq_true, eq_self, and_both, Each, each_get}
use Rattle.artery_names.proofs.Said.{Tabling}
use Rattle.artery_names.proofs.Talks.{adopted_by, name_by, newest_line}
use Rattle.artery_names.proofs.Facts.{Network, Conn, journal, tables_on, ConnFacts, IsLawful, Out, IsBound, bound_in, PeerFacts, StoryFacts, IsFramed, story_of, stories_of, InFacts, Heard, NodeFacts}
use Rattle.artery_names.proofs.Outside.{silent_lawful}
use Rattle.artery_names.proofs.Keeping.{nowhere}
use Rattle.artery_names.proofs.Worlds.{NodeNames, Names, Both}

module _ (nobody v : UniqueAddress) (cs : List Conn) (ls : List Line) (apart : (i : ℕ) (c : Conn) → slice_get cs i ≡ Some c → (c.dialer ≡ v.uid → ⊥) × (c.far ≡ v.uid → ⊥)) where
  name_other : (x : ℕ) → (x ≡ v.uid → ⊥) → name_by nobody x (lines.Started v ∷ ls) ≡ name_by nobody x ls
  name_other x n = by_test (v.uid == x) (λ t. absurd (n (sym (eq_true v.uid x t)))) (λ t. ap (λ (b : Bool). cond b v (name_by nobody x ls)) t)

  conn_started : (a b : UniqueAddress) (c : Conn) → ConnFacts cs a b ls c → ConnFacts cs a b (lines.Started v ∷ ls) c
  conn_started a b c f = record { near = f.near; far = f.far; told = f.told; all = f.all; acks = f.acks; says = f.says; places = f.places }

  pub out_started : Out nobody cs ls → Out nobody cs (lines.Started v ∷ ls)
  out_started out = record {
    adopts = out.adopts;
    dialed = out.dialed;
    reached = out.reached;
    untold = out.untold;
    talks = λ a b d. (let t = out.talks a b d in record { rising = t.rising; below = t.below });
    conns = λ i c e. (let x = apart i c e in
        subst (λ (a : UniqueAddress). ConnFacts cs a (name_by nobody c.far (lines.Started v ∷ ls)) (lines.Started v ∷ ls) c) (sym (name_other c.dialer x.0))
        (subst (λ (b : UniqueAddress). ConnFacts cs (name_by nobody c.dialer ls) b (lines.Started v ∷ ls) c) (sym (name_other c.far x.1)) (conn_started (name_by nobody c.dialer ls) (name_by nobody c.far ls) c (out.conns i c e))));
  }

  bound_started : (me : UniqueAddress) (a : Address) (x : Option (ℕ × ℕ)) → IsBound nobody me cs ls a x → IsBound nobody me cs (lines.Started v ∷ ls) a x
  bound_started me a None h = tt
  bound_started me a (Some (dial, uid)) h =
      let far : h.made.conn.far ≡ uid = h.far h.made.place h.made.conn h.made.is h.made.dialed in
      record { name = name_other uid (λ e. (apart h.made.place h.made.conn h.made.is).1 (far ∙ e)) ∙ h.name; far = h.far; answered = h.answered; made = h.made }

  peer_started : (me : UniqueAddress) (a : Address) (p : Peer whole) → PeerFacts nobody me cs ls a p → PeerFacts nobody me cs (lines.Started v ∷ ls) a p
  peer_started me a p h = record { alive = h.alive; unspoken = h.unspoken; control = bound_started me a (bound_in p.control.conn) h.control; ordinary = bound_started me a (bound_in p.ordinary.conn) h.ordinary }

  heard_started : (me : UniqueAddress) (given : ℕ) (stories : UniqueAddress → Kind → Story) (k : ℕ) (i : Inbound whole) → Heard nobody me given stories cs ls k i → Heard nobody me given stories cs (lines.Started v ∷ ls) k i
  heard_started me given stories k i h =
      let f = h.facts in
      let a : UniqueAddress = name_by nobody h.conn.dialer ls in
      let new : InFacts me a given (stories a) (lines.Started v ∷ ls) i h.conn = record { had = f.had; begun = f.begun; state = f.state; owed = f.owed; got = f.got; fits = f.fits; shown = f.shown } in
      record {
        place = h.place;
        conn = h.conn;
        is = h.is;
        inward = h.inward;
        facts = subst (λ (x : UniqueAddress). InFacts me x given (stories x) (lines.Started v ∷ ls) i h.conn) (sym (name_other h.conn.dialer (apart h.place h.conn h.is).0)) new;
      }

  pub node_started : (u : ℕ) (given : ℕ → ℕ) (n : Node whole) → (u ≡ v.uid → ⊥) → NodeFacts nobody u given nowhere n cs ls → NodeFacts nobody u given nowhere n cs (lines.Started v ∷ ls)
  node_started u given n other h = record {
    uid = h.uid;
    me = name_other u other ∙ h.me;
    ordered = h.ordered;
    peers = λ a. peer_started n.me a (peer_at a n) (h.peers a);
    tables = h.tables;
    gone = h.gone;
    origins = h.origins;
    framed = λ i c e o. subst (λ (x : UniqueAddress). Each (λ (t : Tabling). IsFramed (story_of t.kind x n) t) (tables_on c)) (sym (name_other c.far (apart i c e).1)) (h.framed i c e o);
    inbound = λ k i at. heard_started n.me (given k) (stories_of n) k i (h.inbound k i at);
    opened = h.opened;
  }

  -- the facts of the new one
  pub node_new : ((a b : UniqueAddress) → a.uid ≡ v.uid → adopted_by a b ls ≡ of_each 0) → NodeFacts nobody v.uid (λ k. 0) nowhere (new_node v) cs (lines.Started v ∷ ls)
  node_new silent = record {
    uid = refl;
    me = ap (λ (b : Bool). cond b v (name_by nobody v.uid ls)) (eq_self v.uid);
    ordered = tt;
    peers = λ a. record { alive = λ uid c. not_some c; unspoken = λ uid t f. silent v (incarnation a uid) refl; control = tt; ordinary = tt };
    tables = λ a e. refl;
    gone = λ a e. refl;
    origins = λ x kind. first x kind;
    framed = λ i c e o. absurd ((apart i c e).0 o);
    inbound = λ k i at. not_some at;
    opened = λ j c e o. absurd ((apart j c e).0 o);
  }
    where
      nothing : StoryFacts nothing_announced 0
      nothing = record { story = record { announced = omega arith; one_open = omega arith }; below = omega arith }

      more : (adopted : ℕ) → StoryFacts nothing_announced adopted
      more adopted = record { story = nothing.story; below = omega arith }

      first : (x : UniqueAddress) (kind : Kind) → StoryFacts (story_of kind x (new_node v)) (of_kind kind (adopted_by x v (lines.Started v ∷ ls)))
      first x Refs = more (of_kind Refs (adopted_by x v ls))
      first x Manifests = more (of_kind Manifests (adopted_by x v ls))

-- ---- the network

pub started_names : (nobody v : UniqueAddress) (w : Network) → was_started v.uid w ≡ false → w.ended ≡ None → Holds w → Names nobody w → Names nobody (comes_out (outcomes.Line 0 (lines.Started v)) (with_started v (new_node v) w))
started_names nobody v w new live h names = record {
  lawful = subst IsLawful (sym is) (silent_lawful (lines.Started v) (journal w) refl names.lawful);
  out = λ e. subst (Out nobody w.connections) (sym is) (out_started nobody v w.connections (journal w) apart (names.out live));
  lives = λ e. each_push (λ (l : Live whole). NodeNames nobody w.connections (journal w2) l.node) w.live (record { node = new_node v; accepted = 0 })
      (each_of (λ (l : Live whole). NodeNames nobody w.connections (journal w2) l.node) w.live (λ i l q.
      (let k : NodeNames nobody w.connections (journal w) l.node = each_get (λ (x : Live whole). NodeNames nobody w.connections (journal w) x.node) w.live i l (names.lives live) q in
      record {
        given = k.given;
        facts = subst (NodeFacts nobody l.node.me.uid k.given nowhere l.node w.connections) (sym is) (node_started nobody v w.connections (journal w) apart l.node.me.uid k.given l.node (unlike i l q) k.facts);
        counts = k.counts;
      })))
      (record {
        given = λ k. 0;
        facts = subst (NodeFacts nobody v.uid (λ k. 0) nowhere (new_node v) w.connections) (sym is) (node_new nobody v w.connections (journal w) apart (names.silent live v.uid new));
        counts = λ k bytes b. not_some b;
      });
  silent = λ e y t a b q. (let r : (was_started y w ≡ false) × ((v.uid == y) ≡ false) = any_push (λ other. other == y) w.started v.uid t in
      ap (adopted_by a b) is ∙ names.silent live y r.0 a b q);
  named = λ e y t. ap (λ ks. (name_by nobody y ks).uid) is ∙ by_test (v.uid == y)
      (λ s. ap (λ (b : Bool). (cond b v (name_by nobody y (journal w))).uid) s ∙ eq_true v.uid y s)
      (λ s. ap (λ (b : Bool). (cond b v (name_by nobody y (journal w))).uid) s ∙ names.named live y (before (λ other. other == y) w.started v.uid t s));
}
  where
    w2 : Network
    w2 = comes_out (outcomes.Line 0 (lines.Started v)) (with_started v (new_node v) w)

    is : journal (comes_out (outcomes.Line 0 (lines.Started v)) (with_started v (new_node v) w)) ≡ lines.Started v ∷ journal w
    is = newest_line w.outcomes [] 0 (lines.Started v)

    k : Unstarted v.uid w
    k = (h.going live).unstarted v.uid new

    apart : (i : ℕ) (c : Conn) → slice_get w.connections i ≡ Some c → (c.dialer ≡ v.uid → ⊥) × (c.far ≡ v.uid → ⊥)
    apart i c e = (
      (λ q. (let a : 1 ≤ count (is_dialed v.uid c.dial) w.connections = count_here (is_dialed v.uid c.dial) w.connections i c e (and_both (c.dialer == v.uid) (c.dial == c.dial) (ap (λ (x : ℕ). x == v.uid) q ∙ eq_self v.uid) (eq_self c.dial)) in
          let b : count (is_dialed v.uid c.dial) w.connections ≡ 0 = (k.fresh c.dial).made in let f : ⊥ = omega arith in f)),
      (λ q. (let a : 1 ≤ count (is_far v.uid) w.connections = count_here (is_far v.uid) w.connections i c e (ap (λ (x : ℕ). x == v.uid) q ∙ eq_self v.uid) in
          let b : count (is_far v.uid) w.connections ≡ 0 = k.far in let f : ⊥ = omega arith in f)),
    )

    unlike : (i : ℕ) (l : Live whole) → slice_get w.live i ≡ Some l → l.node.me.uid ≡ v.uid → ⊥
    unlike i l e q =
        let a : 1 ≤ count (has_uid v.uid) w.live = count_here (has_uid v.uid) w.live i l e (ap (λ (x : ℕ). x == v.uid) q ∙ eq_self v.uid) in
        let b : count (has_uid v.uid) w.live ≡ 0 = k.live in (let f : ⊥ = omega arith in f)

    before : (p : ℕ → Bool) (xs : List ℕ) (y : ℕ) → list_any p (xs ++ y ∷ []) ≡ true → p y ≡ false → list_any p xs ≡ true
    before p [] y t s = not_both t (ap (λ (z : Bool). z || false) s)
    before p (x ∷ xs) y t s = by (p x) t (λ q. before p xs y q s)
      where
        by : (b : Bool) → (b || list_any p (xs ++ y ∷ [])) ≡ true → (list_any p (xs ++ y ∷ []) ≡ true → list_any p xs ≡ true) → (b || list_any p xs) ≡ true
        by true q rest = refl
        by false q rest = rest q

pub ends_names : (nobody : UniqueAddress) (limit : WorldLimit) (w : Network) → Names nobody w → Names nobody (ends limit w)
ends_names nobody limit w h = record { lawful = h.lawful; out = λ e. not_some (sym e); lives = λ e. not_some (sym e); silent = λ e. not_some (sym e); named = λ e. not_some (sym e) }

pub starts_both : (nobody v : UniqueAddress) (w : Network) → was_started v.uid w ≡ false → w.ended ≡ None → Both nobody nothing_left w → Both nobody nothing_left (starts_with v (starts v) w)
starts_both nobody v w new live b = record { holds = starts_hold v w new b.holds; names = by (nat_lt (length w.live) most_nodes) }
  where
    by : (x : Bool) → AllRead (cond x (with_started v (new_node v) ⟫ each (starts {P = whole} v).deeds (does v.uid 0)) (ends limits.Nodes) w).connections
        → Names nobody (cond x (with_started v (new_node v) ⟫ each (starts {P = whole} v).deeds (does v.uid 0)) (ends limits.Nodes) w)
    by true all = begun (is_none w.ended) (ap is_none live) all
      where
        begun : (y : Bool) → y ≡ true → AllRead (cond y (comes_out (outcomes.Line 0 (lines.Started v)) (with_started v (new_node v) w)) (with_started v (new_node v) w)).connections
            → Names nobody (cond y (comes_out (outcomes.Line 0 (lines.Started v)) (with_started v (new_node v) w)) (with_started v (new_node v) w))
        begun true e a = started_names nobody v w new live b.holds (b.names a)
        begun false e a = not_both refl (sym e)
    by false all = ends_names nobody limits.Nodes w (b.names all)
