-- An origin that is changed: its stories go on.
use Rattle.std.proofs.Common.{◌≡◌, ℕ, ◌+◌, ◌≤◌, Bool, true, false, cond, List, [], ◌∷◌, length, drop, refl, sym, ◌∙◌, ap, subst, arith}
use Rattle.std.specs.Prelude.{None, Some, ◌==◌}
use Rattle.std.specs.List.{find}
use Rattle.artery_base.specs.Words.{IsPrefix}
use Rattle.artery_base.specs.declared.address.Address.{Address}
use Rattle.artery_base.specs.declared.address.UniqueAddress.{UniqueAddress}
use Rattle.artery_frame.specs.declared.stream.Stream.TheVariants as streams
use Rattle.artery_journal.specs.declared.line.Line.{Line}
use Rattle.artery_journal.specs.declared.words.Kind.{Kind}
use Rattle.artery_journal.specs.declared.words.Kind.TheVariants.{Refs, Manifests}
use Rattle.artery_tables.specs.Story.{Story}
use Rattle.artery_tables.specs.InTables.{State as Announcing, is_announced, confirmed}
use Rattle.artery_machine.specs.Lists.{or_else, change_first}
use Rattle.artery_machine.specs.Parts.{whole}
use Rattle.artery_machine.specs.Node.{Node, Inbound, Origin, OfKinds, of_kind, change_kind, same_unique, new_origin, is_origin, origin_at, inbound_at}
use Rattle.artery_machine.specs.Hearing.{with_confirmed}
use Rattle.artery_names.specs.Versions.{Fits}
use Rattle.artery_names.proofs.Lists.{by_test, on_cond, not_both, eq_true, and_left, and_right, Each, each_weaker, get_prefix, prefix_self}
use Rattle.artery_names.proofs.Said.{Tabling, carried}
use Rattle.artery_names.proofs.Talks.{Told, adopted_by, told_by, name_by}
use Rattle.artery_names.proofs.Facts.{Network, Conn, journal, tables_on, StoryFacts, IsFramed, story_of, stories_of, sent_in, Heard, NodeFacts, Good}
use Rattle.artery_names.proofs.Keeping.{nowhere}
use Rattle.artery_names.proofs.Peers.{unique_is}

-- what holds of the origin that is read by a name, once the first of another one, or that, changed
pub on_origin : (v w : UniqueAddress) (m : ℕ) (g : Origin whole → Origin whole) → ((o : Origin whole) → (g o).who ≡ o.who) → (K : Origin whole → Type 0) (os : List (Origin whole))
    → (w ≡ v → (o : Origin whole) → find (is_origin v) os ≡ Some o → K (g o)) → (w ≡ v → find (is_origin v) os ≡ None → K (new_origin m w))
    → (same_unique v w ≡ false → K (or_else (new_origin m w) (find (is_origin w) os))) → K (or_else (new_origin m w) (find (is_origin w) (change_first (is_origin v) g os)))
on_origin v w m g s K [] here none away = by_test (same_unique v w) (λ t. none (sym (unique_is v w t)) refl) (λ t. away t)
on_origin v w m g s K (o ∷ os) here none away = by (is_origin v o) refl (is_origin w o) refl here none away (on_origin v w m g s K os)
  where
    Here : List (Origin whole) → Type 0
    Here xs = w ≡ v → (x : Origin whole) → find (is_origin v) xs ≡ Some x → K (g x)

    Missing : List (Origin whole) → Type 0
    Missing xs = w ≡ v → find (is_origin v) xs ≡ None → K (new_origin m w)

    Away : List (Origin whole) → Type 0
    Away xs = same_unique v w ≡ false → K (or_else (new_origin m w) (find (is_origin w) xs))

    found : (x : Origin whole) (c : Bool) → is_origin w x ≡ c → or_else (new_origin m w) (find (is_origin w) (x ∷ os)) ≡ or_else (new_origin m w) (cond c (Some x) (find (is_origin w) os))
    found x c e = ap (λ (b : Bool). or_else (new_origin m w) (cond b (Some x) (find (is_origin w) os))) e

    by : (x : Bool) → is_origin v o ≡ x → (y : Bool) → is_origin w o ≡ y → Here (o ∷ os) → Missing (o ∷ os) → Away (o ∷ os) → (Here os → Missing os → Away os → K (or_else (new_origin m w) (find (is_origin w) (change_first (is_origin v) g os))))
        → K (or_else (new_origin m w) (find (is_origin w) (cond x (g o ∷ os) (o ∷ change_first (is_origin v) g os))))
    by true e true f h n a rest =
        let same : w ≡ v = sym (unique_is o.who w f) ∙ unique_is o.who v e in
        subst K (sym (found (g o) true (ap (λ (x : UniqueAddress). same_unique x w) (s o) ∙ f))) (h same o (ap (λ (x : Bool). cond x (Some o) (find (is_origin v) os)) e))
    by true e false f h n a rest =
        let apart : same_unique v w ≡ false = ap (λ (x : UniqueAddress). same_unique x w) (sym (unique_is o.who v e)) ∙ f in
        subst K (sym (found (g o) false (ap (λ (x : UniqueAddress). same_unique x w) (s o) ∙ f))) (subst K (found o false f) (a apart))
    by false e true f h n a rest =
        let apart : same_unique v w ≡ false = by_test (same_unique v w)
        (λ t. not_both (ap (λ (x : UniqueAddress). same_unique o.who x) (unique_is v w t) ∙ f) e) (λ t. t) in
        subst K (sym (ap (λ (x : Bool). or_else (new_origin m w) (cond x (Some o) (find (is_origin w) (change_first (is_origin v) g os)))) f)) (subst K (found o true f) (a apart))
    by false e false f h n a rest =
        let skip : find (is_origin v) (o ∷ os) ≡ find (is_origin v) os = ap (λ (x : Bool). cond x (Some o) (find (is_origin v) os)) e in
        subst K (sym (ap (λ (x : Bool). or_else (new_origin m w) (cond x (Some o) (find (is_origin w) (change_first (is_origin v) g os)))) f))
        (rest (λ same x k. h same x (skip ∙ k)) (λ same k. n same (skip ∙ k)) (λ t. subst K (found o false f) (a t)))

-- that of one kind is changed, and that of the other is not
pub kind_changed : {T : Type 0} (P : T → Type 0) (kind other : Kind) (g : T → T) (both : OfKinds T) → (kind ≡ other → P (g (of_kind other both))) → P (of_kind other both) → P (of_kind other (change_kind kind g both))
kind_changed P Refs Refs g both here away = here refl
kind_changed P Refs Manifests g both here away = away
kind_changed P Manifests Refs g both here away = away
kind_changed P Manifests Manifests g both here away = here refl

pub framed_more : (s t : Story) (x : Tabling) → IsPrefix s.tables t.tables → IsFramed s x → IsFramed t x
framed_more s t x p h = record { before = h.before; number = h.number; names = get_prefix s.tables t.tables h.before x.keys p h.names; places = h.places }

-- ---- stories that go on

pub record Restory (nobody : UniqueAddress) (given : ℕ → ℕ) (n k : Node whole) (cs : List Conn) (ls : List Line) : Type 0 where
  pub facts : (v : UniqueAddress) (kind : Kind) → StoryFacts (story_of kind v k) (of_kind kind (adopted_by v n.me ls))
  pub more : (v : UniqueAddress) (kind : Kind) → IsPrefix (story_of kind v n).tables (story_of kind v k).tables
  pub fits : (x : ℕ) (i : Inbound whole) → inbound_at x n ≡ Some i → (h : Heard nobody n.me (given x) (stories_of n) cs ls x i) → (carried h.conn.way.all ≡ Some streams.Control → ⊥) → (kind : Kind)
      → Each (λ (t : Told). Fits (length (story_of kind (name_by nobody h.conn.dialer ls) k).tables) (of_kind kind t.numbers)) (drop (sent_in (given x) h.conn) (told_by (name_by nobody h.conn.dialer ls) n.me h.conn.dial ls))

pub restory_good : (nobody : UniqueAddress) (u : ℕ) (given : ℕ → ℕ) (away : Address → Bool) (n : Node whole) (os : List (Origin whole)) (w : Network)
    → (w.ended ≡ None → NodeFacts nobody u given away n w.connections (journal w) → Restory nobody given n (record n { origins = os }) w.connections (journal w))
    → Good nobody u given away n w → Good nobody u given away (record n { origins = os }) w
restory_good nobody u given away n os w f g = record {
  lawful = g.lawful;
  out = g.out;
  node = λ e. (let h = g.node e in let r = f e h in record {
    uid = h.uid;
    me = h.me;
    ordered = h.ordered;
    peers = h.peers;
    tables = h.tables;
    gone = h.gone;
    origins = r.facts;
    framed = λ i c at o. each_weaker _ _ (λ x q. framed_more (story_of x.kind (name_by nobody c.far (journal w)) n) (story_of x.kind (name_by nobody c.far (journal w)) (record n { origins = os })) x (r.more (name_by nobody c.far (journal w)) x.kind) q) (tables_on c) (h.framed i c at o);
    inbound = λ k i at. (let y = h.inbound k i at in record {
      place = y.place;
      conn = y.conn;
      is = y.is;
      inward = y.inward;
      facts = record { had = y.facts.had; begun = y.facts.begun; state = y.facts.state; owed = y.facts.owed; got = y.facts.got; fits = r.fits k i at y; shown = y.facts.shown };
    });
    opened = h.opened;
  });
}

-- ---- a table is confirmed

-- the tables are the same, and the number confirmed is at most the last one adopted
abbrev Confirms : Story → ℕ → Story → Type 0
Confirms s adopted t = (t.tables ≡ s.tables) × (StoryFacts s adopted → StoryFacts t adopted)

confirmed_story : (number adopted : ℕ) (s : Announcing) → number ≤ adopted → Confirms s.story adopted (confirmed number s).story
confirmed_story number adopted s le = on_cond (λ (t : Announcing). Confirms s.story adopted t.story) (is_announced number s.story) (record s { story = record s.story { confirmed = s.story.confirmed + 1 } }) s
    (λ t. (let a : number ≡ s.story.confirmed + 1 = eq_true number (s.story.confirmed + 1) (and_left (number == s.story.confirmed + 1) _ t) in
    let b : length s.story.tables ≡ s.story.confirmed + 1 = eq_true (length s.story.tables) (s.story.confirmed + 1) (and_right (number == s.story.confirmed + 1) _ t) in
    (refl, λ f. record { story = record { announced = omega arith; one_open = omega arith }; below = omega arith })))
    (λ t. (refl, λ f. f))

pub confirmed_good : (nobody : UniqueAddress) (u : ℕ) (given : ℕ → ℕ) (v : UniqueAddress) (kind : Kind) (number : ℕ) (n : Node whole) (w : Network) → (w.ended ≡ None → number ≤ of_kind kind (adopted_by v n.me (journal w)))
    → Good nobody u given nowhere n w → Good nobody u given nowhere (record n { origins = change_first (is_origin v) (with_confirmed kind number) n.origins }) w
confirmed_good nobody u given v kind number n w le g = restory_good nobody u given nowhere n (change_first (is_origin v) (with_confirmed kind number) n.origins) w (λ e h. record {
  facts = λ x other. (each_one e x other).1 (h.origins x other);
  more = λ x other. subst (λ (t : List (List (List ℕ))). IsPrefix (story_of other x n).tables t) (sym (each_one e x other).0) (prefix_self (story_of other x n).tables);
  fits = λ k i at y c other. subst (λ (t : List (List (List ℕ))). Each (λ (z : Told). Fits (length t) (of_kind other z.numbers)) (drop (sent_in (given k) y.conn) (told_by (name_by nobody y.conn.dialer (journal w)) n.me y.conn.dial (journal w))))
      (sym (each_one e (name_by nobody y.conn.dialer (journal w)) other).0) (y.facts.fits c other);
}) g
  where
    each_one : w.ended ≡ None → (x : UniqueAddress) (other : Kind) → Confirms (story_of other x n) (of_kind other (adopted_by x n.me (journal w))) (story_of other x (record n { origins = change_first (is_origin v) (with_confirmed kind number) n.origins }))
    each_one e x other = on_origin v x n.moment (with_confirmed kind number) (λ o. refl) (λ (o : Origin whole). Confirms (story_of other x n) (of_kind other (adopted_by x n.me (journal w))) (of_kind other o.tables).story) n.origins
        (λ s o f. (let is : origin_at x n ≡ o = ap (λ (y : UniqueAddress). or_else (new_origin {P = whole} n.moment x) (find (is_origin y) n.origins)) s ∙ ap (or_else (new_origin {P = whole} n.moment x)) f in
        subst (λ (y : Origin whole). Confirms (of_kind other y.tables).story (of_kind other (adopted_by x n.me (journal w))) (of_kind other (with_confirmed kind number o).tables).story) (sym is)
        (kind_changed (λ (y : Announcing). Confirms (of_kind other o.tables).story (of_kind other (adopted_by x n.me (journal w))) y.story) kind other (confirmed number) o.tables
        (λ q. confirmed_story number (of_kind other (adopted_by x n.me (journal w))) (of_kind other o.tables)
        (subst (λ (y : UniqueAddress). number ≤ of_kind other (adopted_by y n.me (journal w))) (sym s) (subst (λ (y : Kind). number ≤ of_kind y (adopted_by v n.me (journal w))) q (le e))))
        (refl, λ z. z))))
        (λ s f. (let is : origin_at x n ≡ new_origin {P = whole} n.moment x = ap (λ (y : UniqueAddress). or_else (new_origin {P = whole} n.moment x) (find (is_origin y) n.origins)) s ∙ ap (or_else (new_origin {P = whole} n.moment x)) f in
        subst (λ (y : Origin whole). Confirms (of_kind other y.tables).story (of_kind other (adopted_by x n.me (journal w))) (of_kind other (new_origin {P = whole} n.moment x).tables).story) (sym is) (refl, λ z. z)))
        (λ s. (refl, λ z. z))
