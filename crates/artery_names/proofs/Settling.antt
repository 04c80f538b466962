-- A table is announced to an origin that is settled: what is in flight still fits its story.
use Rattle.std.proofs.Common.{◌≡◌, ℕ, zero, suc, ◌+◌, ◌-◌, ◌≤◌, ◌<◌, Bool, true, false, ◌&&◌, cond, List, [], ◌∷◌, ◌++◌, length, drop, refl, sym, ◌∙◌, ap, subst, arith, length-append}
use Rattle.std.specs.Prelude.{Option, None, Some, ◌==◌, nat_lt, nat_le, not}
use Rattle.std.specs.List.{find, list_all}
use Rattle.std.proofs.lemmas.Bool.Decides.{nat_tests}
use Rattle.artery_base.specs.Words.{IsPrefix}
use Rattle.artery_base.specs.declared.address.UniqueAddress.{UniqueAddress}
use Rattle.artery_frame.specs.declared.stream.Stream.TheVariants as streams
use Rattle.artery_handshake.specs.declared.in_conn.InState.{InState}
use Rattle.artery_handshake.specs.declared.in_conn.InState.TheVariants.{Raw, Known}
use Rattle.artery_journal.specs.declared.line.Line.{Line}
use Rattle.artery_journal.specs.declared.words.Kind.{Kind}
use Rattle.artery_tables.specs.declared.in_tables.Advertised.TheVariants.{New, Again, Same as IsSame, Spent, Unsettled}
use Rattle.artery_tables.specs.Story.{Story, names_in, numbered}
use Rattle.artery_tables.specs.TopTable.{top_table}
use Rattle.artery_tables.specs.InTables.{State as Announcing, is_nothing_new, story_after, advertised}
use Rattle.artery_machine.specs.Lists.{or_else, change_first}
use Rattle.artery_machine.specs.Parts.{whole}
use Rattle.artery_machine.specs.Node.{Node, Inbound, Origin, OfKinds, of_kind, new_origin, is_origin, origin_at, is_number, inbound_at, speaker_in}
use Rattle.artery_machine.specs.Ticking.{shows, is_by, is_ordinary, shows_if_by, is_settled, with_advertised}
use Rattle.artery_names.specs.Versions.{Fits}
use Rattle.artery_names.proofs.Lists.{by_test, not_both, not_some, some_same, and_left, and_right, Each, each_weaker, prefix_self}
use Rattle.artery_names.proofs.Said.{carried}
use Rattle.artery_names.proofs.Talks.{Told, adopted_by, told_by, name_by}
use Rattle.artery_names.proofs.Facts.{Network, Conn, journal, StoryFacts, story_of, stories_of, IsShown, IsState, IsKnown, sent_in, Heard, NodeFacts, Good}
use Rattle.artery_names.proofs.Keeping.{nowhere}
use Rattle.artery_names.proofs.Peers.{unique_self}
use Rattle.artery_names.proofs.Origins.{on_origin, kind_changed, Restory, restory_good}

-- ---- a story

-- It is as it was, or one table longer, where none waited and, from number 128 on, where the origin is settled.
pub data Advances (settled : Bool) (s t : Story) : Type 0 where
  Still : t ≡ s → Advances settled s t
  Longer : (top : List (List ℕ)) → t ≡ record s { tables = s.tables ++ top ∷ [] } → length s.tables ≤ s.confirmed → (128 ≤ s.confirmed + 1 → settled ≡ true) → Advances settled s t

pub advance_is : (settled : Bool) (s : Announcing) → Advances settled s.story (advertised settled s).story
advance_is settled s =
    by (nat_lt s.story.confirmed (length s.story.tables)) refl (is_nothing_new (top_table s.uses) (names_in (numbered s.story s.story.confirmed))) (s.story.confirmed == 18446744073709551615) (nat_le 128 (s.story.confirmed + 1) && not settled) refl
  where
    waits : (b : Bool) → nat_lt s.story.confirmed (length s.story.tables) ≡ b → b ≡ false → length s.story.tables ≤ s.story.confirmed
    waits b e f = grind (arith, nat_tests)

    settles : (b c : Bool) → nat_le 128 (s.story.confirmed + 1) ≡ b → (b && not c) ≡ false → c ≡ settled → 128 ≤ s.story.confirmed + 1 → settled ≡ true
    settles true true e f g h = sym g
    settles true false e f g h = not_both refl f
    settles false c e f g h = absurd (let k : nat_le 128 (s.story.confirmed + 1) ≡ true = grind (arith, nat_tests) in not_both k e)

    by : (b1 : Bool) → nat_lt s.story.confirmed (length s.story.tables) ≡ b1 → (b2 b3 b4 : Bool) → (nat_le 128 (s.story.confirmed + 1) && not settled) ≡ b4
        → Advances settled s.story (story_after (cond b1 Again (cond b2 IsSame (cond b3 Spent (cond b4 Unsettled New)))) s)
    by true e b2 b3 b4 f = Still refl
    by false e true b3 b4 f = Still refl
    by false e false true b4 f = Still refl
    by false e false false true f = Still refl
    by false e false false false f = Longer (top_table s.uses) refl (waits false e refl) (λ h. settles (nat_le 128 (s.story.confirmed + 1)) settled refl f refl h)

-- ---- settled

all_found : {X : Type 0} (p t : X → Bool) (xs : List X) (x : X) → list_all p xs ≡ true → find t xs ≡ Some x → p x ≡ true
all_found p t [] x h e = not_some e
all_found {X} p t (y ∷ xs) x h e = by (t y) e (λ g. all_found p t xs x (and_right (p y) (list_all p xs) h) g)
  where
    by : (b : Bool) → cond b (Some y) (find t xs) ≡ Some x → (find t xs ≡ Some x → p x ≡ true) → p x ≡ true
    by true g rest = subst (λ (z : X). p z ≡ true) (some_same g) (and_left (p y) (list_all p xs) h)
    by false g rest = rest g

-- Of each inbound connection on which somebody is known to speak: unless it begins with the control preamble, what came of its bytes says that it carries ordinary messages.
abbrev pub CarriesOrdinary : UniqueAddress → (ℕ → ℕ) → Node whole → List Conn → List Line → Type 0
CarriesOrdinary nobody given n cs ls = (x : ℕ) (i : Inbound whole) → inbound_at x n ≡ Some i → IsKnown i.state → (h : Heard nobody n.me (given x) (stories_of n) cs ls x i)
    → (carried h.conn.way.all ≡ Some streams.Control → ⊥) → is_ordinary (whole.carries i.bytes) ≡ true

settled_shows : (v : UniqueAddress) (kind : Kind) (n : Node whole) (x : ℕ) (i : Inbound whole) (its_nonce : Option ℕ) → is_settled v kind n ≡ true → inbound_at x n ≡ Some i → i.state ≡ Known v its_nonce → is_ordinary (whole.carries i.bytes) ≡ true
    → shows ((story_of kind v n).confirmed - 2) (of_kind kind i.shown) ≡ true
settled_shows v kind n x i its_nonce s at known ordinary =
    let h : shows_if_by v kind ((story_of kind v n).confirmed - 2) i ≡ true = all_found (shows_if_by v kind ((story_of kind v n).confirmed - 2)) (is_number x) n.inbound i s at in
    sym (ap (λ (b : Bool). cond b (shows ((story_of kind v n).confirmed - 2) (of_kind kind i.shown)) true)
    (ap (λ (b : Bool). b && is_by v (speaker_in i.state)) ordinary ∙ ap (λ (t : InState). is_by v (speaker_in t)) known ∙ unique_self v)) ∙ h

-- what is told later has numbers that are hardly below what is confirmed
shows_fits : (c l : ℕ) (kind : Kind) (shown : Option ℕ) (adopted : OfKinds ℕ) (ts : List Told) → shows (c - 2) shown ≡ true → l ≤ c → IsShown shown kind adopted ts → Each (λ (t : Told). Fits (l + 1) (of_kind kind t.numbers)) ts
shows_fits c l kind None adopted ts s le h = not_both s refl
shows_fits c l kind (Some number) adopted ts s le h = each_weaker _ _ (λ t k p.
    (let a : number ≤ of_kind kind t.numbers = k in
    let b : c - 2 ≤ number = grind (arith, nat_tests) in omega arith)) ts h.1

low_fits : (l : ℕ) (kind : Kind) (ts : List Told) → l + 1 < 128 → Each (λ (t : Told). Fits (l + 1) (of_kind kind t.numbers)) ts
low_fits l kind [] h = tt
low_fits l kind (t ∷ ts) h = (λ p. omega arith, low_fits l kind ts h)

-- ---- it is announced

-- the story of one origin for one kind has advanced, and no other
data Announces (v : UniqueAddress) (kind : Kind) (settled : Bool) (x : UniqueAddress) (other : Kind) (s t : Story) : Type 0 where
  Unmoved : t ≡ s → Announces v kind settled x other s t
  Ahead : x ≡ v → kind ≡ other → Advances settled s t → Announces v kind settled x other s t

module _ (nobody : UniqueAddress) (u : ℕ) (given : ℕ → ℕ) (v : UniqueAddress) (kind : Kind) (n : Node whole) (w : Network) where
  abbrev settled : Bool
  settled = is_settled v kind n

  abbrev os : List (Origin whole)
  os = change_first (is_origin v) (with_advertised kind settled) n.origins

  abbrev after : Node whole
  after = record n { origins = os }

  each_story : (x : UniqueAddress) (other : Kind) → Announces v kind settled x other (story_of other x n) (story_of other x after)
  each_story x other = on_origin v x n.moment (with_advertised kind settled) (λ o. refl) (λ (o : Origin whole). Announces v kind settled x other (story_of other x n) (of_kind other o.tables).story) n.origins
      (λ s o f. (let is : origin_at x n ≡ o = ap (λ (y : UniqueAddress). or_else (new_origin {P = whole} n.moment x) (find (is_origin y) n.origins)) s ∙ ap (or_else (new_origin {P = whole} n.moment x)) f in
      subst (λ (y : Origin whole). Announces v kind settled x other (of_kind other y.tables).story (of_kind other (with_advertised kind settled o).tables).story) (sym is)
      (kind_changed (λ (y : Announcing). Announces v kind settled x other (of_kind other o.tables).story y.story) kind other (advertised settled) o.tables (λ q. Ahead s q (advance_is settled (of_kind other o.tables))) (Unmoved refl))))
      (λ s f. (let is : origin_at x n ≡ new_origin {P = whole} n.moment x = ap (λ (y : UniqueAddress). or_else (new_origin {P = whole} n.moment x) (find (is_origin y) n.origins)) s ∙ ap (or_else (new_origin {P = whole} n.moment x)) f in
      subst (λ (y : Origin whole). Announces v kind settled x other (of_kind other y.tables).story (of_kind other (new_origin {P = whole} n.moment x).tables).story) (sym is) (Unmoved refl)))
      (λ s. Unmoved refl)

  advanced_facts : (adopted : ℕ) (s t : Story) → Advances settled s t → StoryFacts s adopted → StoryFacts t adopted
  advanced_facts adopted s t (Still e) f = subst (λ (y : Story). StoryFacts y adopted) (sym e) f
  advanced_facts adopted s t (Longer top e le h) f = subst (λ (y : Story). StoryFacts y adopted) (sym e)
      (let a : s.confirmed ≤ length s.tables = f.story.announced in
      let b : length (s.tables ++ top ∷ []) ≡ length s.tables + 1 = length-append s.tables (top ∷ []) in
      record { story = record { announced = omega arith; one_open = omega arith }; below = f.below })

  advanced_more : (s t : Story) → Advances settled s t → IsPrefix s.tables t.tables
  advanced_more s t (Still e) = subst (λ (y : Story). IsPrefix s.tables y.tables) (sym e) (prefix_self s.tables)
  advanced_more s t (Longer top e le h) = subst (λ (y : Story). IsPrefix s.tables y.tables) (sym e) (top ∷ [], refl)

  module _ (cs : List Conn) (ls : List Line) (h : NodeFacts nobody u given nowhere n cs ls) (c : CarriesOrdinary nobody given n cs ls) where
    -- what stands in the way of a story that is one longer
    longer_fits : (x : ℕ) (i : Inbound whole) → inbound_at x n ≡ Some i → (y : Heard nobody n.me (given x) (stories_of n) cs ls x i) → (carried y.conn.way.all ≡ Some streams.Control → ⊥) → name_by nobody y.conn.dialer ls ≡ v
        → length (story_of kind v n).tables ≤ (story_of kind v n).confirmed → (128 ≤ (story_of kind v n).confirmed + 1 → settled ≡ true)
        → Each (λ (t : Told). Fits (length (story_of kind v n).tables + 1) (of_kind kind t.numbers)) (drop (sent_in (given x) y.conn) (told_by (name_by nobody y.conn.dialer ls) n.me y.conn.dial ls))
    longer_fits x i at y ord name le ready = by_test (nat_le 128 ((story_of kind v n).confirmed + 1))
        (λ t. by_state i.state refl y.facts.state (ready (grind (arith, nat_tests))))
        (λ t. low_fits (length (story_of kind v n).tables) kind _ (let k : (story_of kind v n).confirmed + 1 < 128 = grind (arith, nat_tests) in omega arith))
      where
        none : (g : ℕ) → Each (λ (t : Told). Fits (length (story_of kind v n).tables + 1) (of_kind kind t.numbers)) (drop g [])
        none zero = tt
        none (suc g) = tt

        by_state : (s : InState) → i.state ≡ s → IsState (name_by nobody y.conn.dialer ls) y.conn.dial (told_by (name_by nobody y.conn.dialer ls) n.me y.conn.dial ls) s → settled ≡ true → Each (λ (t : Told). Fits (length (story_of kind v n).tables + 1) (of_kind kind t.numbers)) (drop (sent_in (given x) y.conn) (told_by (name_by nobody y.conn.dialer ls) n.me y.conn.dial ls))
        by_state Raw e f set = subst (λ ts. Each (λ (t : Told). Fits (length (story_of kind v n).tables + 1) (of_kind kind t.numbers)) (drop (sent_in (given x) y.conn) ts)) (sym f) (none (sent_in (given x) y.conn))
        by_state (Known who its_nonce) e f set =
            let known : i.state ≡ Known v its_nonce = e ∙ ap (λ (z : UniqueAddress). Known z its_nonce) (f.0 ∙ name) in
            let ordinary : is_ordinary (whole.carries i.bytes) ≡ true = c x i at (subst IsKnown (sym e) tt) y ord in
            shows_fits (story_of kind v n).confirmed (length (story_of kind v n).tables) kind (of_kind kind i.shown) (adopted_by (name_by nobody y.conn.dialer ls) n.me ls) (drop (sent_in (given x) y.conn) (told_by (name_by nobody y.conn.dialer ls) n.me y.conn.dial ls))
            (settled_shows v kind n x i its_nonce set at known ordinary) le (y.facts.shown kind)

    restory : Restory nobody given n after cs ls
    restory = record {
      facts = λ x other. by_facts x other (each_story x other) (h.origins x other);
      more = λ x other. by_more x other (each_story x other);
      fits = λ k i at y ord other. by_fits k i at y ord other (each_story (name_by nobody y.conn.dialer ls) other) (y.facts.fits ord other);
    }
      where
        by_facts : (x : UniqueAddress) (other : Kind) → Announces v kind settled x other (story_of other x n) (story_of other x after) → StoryFacts (story_of other x n) (of_kind other (adopted_by x n.me ls)) → StoryFacts (story_of other x after) (of_kind other (adopted_by x n.me ls))
        by_facts x other (Unmoved e) f = subst (λ (y : Story). StoryFacts y (of_kind other (adopted_by x n.me ls))) (sym e) f
        by_facts x other (Ahead p q a) f = advanced_facts (of_kind other (adopted_by x n.me ls)) (story_of other x n) (story_of other x after) a f

        by_more : (x : UniqueAddress) (other : Kind) → Announces v kind settled x other (story_of other x n) (story_of other x after) → IsPrefix (story_of other x n).tables (story_of other x after).tables
        by_more x other (Unmoved e) = subst (λ (y : Story). IsPrefix (story_of other x n).tables y.tables) (sym e) (prefix_self (story_of other x n).tables)
        by_more x other (Ahead p q a) = advanced_more (story_of other x n) (story_of other x after) a

        by_fits : (k : ℕ) (i : Inbound whole) → inbound_at k n ≡ Some i → (y : Heard nobody n.me (given k) (stories_of n) cs ls k i) → (carried y.conn.way.all ≡ Some streams.Control → ⊥) → (other : Kind)
            → Announces v kind settled (name_by nobody y.conn.dialer ls) other (story_of other (name_by nobody y.conn.dialer ls) n) (story_of other (name_by nobody y.conn.dialer ls) after)
            → Each (λ (t : Told). Fits (length (story_of other (name_by nobody y.conn.dialer ls) n).tables) (of_kind other t.numbers)) (drop (sent_in (given k) y.conn) (told_by (name_by nobody y.conn.dialer ls) n.me y.conn.dial ls))
            → Each (λ (t : Told). Fits (length (story_of other (name_by nobody y.conn.dialer ls) after).tables) (of_kind other t.numbers)) (drop (sent_in (given k) y.conn) (told_by (name_by nobody y.conn.dialer ls) n.me y.conn.dial ls))
        by_fits k i at y ord other (Unmoved e) f = subst (λ (z : Story). Each (λ (t : Told). Fits (length z.tables) (of_kind other t.numbers)) (drop (sent_in (given k) y.conn) (told_by (name_by nobody y.conn.dialer ls) n.me y.conn.dial ls))) (sym e) f
        by_fits k i at y ord other (Ahead p q (Still e)) f = subst (λ (z : Story). Each (λ (t : Told). Fits (length z.tables) (of_kind other t.numbers)) (drop (sent_in (given k) y.conn) (told_by (name_by nobody y.conn.dialer ls) n.me y.conn.dial ls))) (sym e) f
        by_fits k i at y ord other (Ahead p q (Longer top e le ready)) f =
            let a : UniqueAddress = name_by nobody y.conn.dialer ls in
            let size : length (story_of other a after).tables ≡ length (story_of other a n).tables + 1 = ap (λ (z : Story). length z.tables) e ∙ length-append (story_of other a n).tables (top ∷ []) in
            let L : UniqueAddress → Kind → Type 0 = λ x z. length (story_of z x n).tables ≤ (story_of z x n).confirmed in
            let R : UniqueAddress → Kind → Type 0 = λ x z. 128 ≤ (story_of z x n).confirmed + 1 → settled ≡ true in
            let F : UniqueAddress → Kind → Type 0 = λ x z. Each (λ (t : Told). Fits (length (story_of z x n).tables + 1) (of_kind z t.numbers)) (drop (sent_in (given k) y.conn) (told_by (name_by nobody y.conn.dialer ls) n.me y.conn.dial ls)) in
            let new : F v kind = longer_fits k i at y ord p (subst (λ (z : Kind). L v z) (sym q) (subst (λ (x : UniqueAddress). L x other) p le)) (subst (λ (z : Kind). R v z) (sym q) (subst (λ (x : UniqueAddress). R x other) p ready)) in
            subst (λ (z : ℕ). Each (λ (t : Told). Fits z (of_kind other t.numbers)) (drop (sent_in (given k) y.conn) (told_by (name_by nobody y.conn.dialer ls) n.me y.conn.dial ls))) (sym size)
            (subst (λ (x : UniqueAddress). F x other) (sym p) (subst (λ (z : Kind). F v z) q new))

  -- a table is announced, or not
  pub advertised_good : (w.ended ≡ None → CarriesOrdinary nobody given n w.connections (journal w)) → Good nobody u given nowhere n w → Good nobody u given nowhere after w
  advertised_good c g = restory_good nobody u given nowhere n os w (λ e h. restory w.connections (journal w) h (c e)) g
