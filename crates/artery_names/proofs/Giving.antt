-- Frames are heard one after the other; inbound connections come and go.
use Rattle.std.proofs.Common.{◌≡◌, ℕ, suc, ◌+◌, ◌≤◌, ◌<◌, Bool, true, false, ◌&&◌, cond, List, [], ◌∷◌, ◌++◌, length, take, drop, refl, sym, ◌∙◌, ap, subst, arith}
use Rattle.std.specs.Prelude.{Option, None, Some, ◌==◌, nat_lt, not, slice_get}
use Rattle.std.specs.List.{find, filter}
use Rattle.std.proofs.lemmas.Bool.Decides.{nat_tests}
use Rattle.artery_base.specs.declared.address.UniqueAddress.{UniqueAddress}
use Rattle.artery_base.specs.declared.message.Tell.{Tell}
use Rattle.artery_frame.specs.declared.stream.Stream.{Stream}
use Rattle.artery_frame.specs.declared.fault.FrameFault.{FrameFault}
use Rattle.artery_journal.specs.declared.line.Line.{Line}
use Rattle.artery_journal.specs.declared.line.Line.TheVariants as lines
use Rattle.artery_journal.specs.declared.words.Kind.{Kind}
use Rattle.artery_journal.specs.declared.words.Kind.TheVariants.{Refs, Manifests}
use Rattle.artery_judge.specs.Lines.{Way, says_got, says_told, same}
use Rattle.artery_machine.specs.declared.input.Conn.TheVariants.{Inward}
use Rattle.artery_machine.specs.Deeds.{Hangs}
use Rattle.artery_machine.specs.Parts.{whole}
use Rattle.artery_machine.specs.Connections.{is_dialed, is_inward}
use Rattle.artery_machine.specs.Node.{Node, Inbound, of_kind, is_number, inbound_at, accepted_as, put_inbound}
use Rattle.artery_machine.specs.Doing.{becomes, does, inbound_becomes, each}
use Rattle.artery_machine.specs.Hearing.{hears}
use Rattle.artery_machine.specs.Reacting.{stream_rule, with_inbound, without_inbound, with_bytes, ends_broken}
use Rattle.artery_names.proofs.Lists.{by_test, on_cond, not_some, some_same, eq_true, eq_self, eq_not, and_left, and_right, Each, each_weaker, Within, within_more}
use Rattle.artery_names.proofs.Said.{Answering}
use Rattle.artery_names.proofs.Talks.{Told, adopted_by, told_by, got_by, told_more, got_more, name_by, messages}
use Rattle.artery_names.proofs.Facts.{Network, Conn, journal, answers_on, KeepsOrdinary, IsLawful, IsKnown, IsShown, InFacts, Heard, stories_of, Rises, numbers_in, NodeFacts, Good}
use Rattle.artery_names.proofs.Growing.{Grown, Along}
use Rattle.artery_names.proofs.Plain.{Same}
use Rattle.artery_names.proofs.Rules.{Work, deed_plain, inbound_plain}
use Rattle.artery_names.proofs.Later.{later_self, along_grown, later_trans}
use Rattle.artery_names.proofs.Keeping.{nowhere, Kept, kept_self, Keeps, ◌▻◌, plain_keeps, stays_keep}
use Rattle.artery_names.proofs.Frames.{then_given}
use Rattle.artery_names.proofs.Shown.{then_here}
use Rattle.artery_names.proofs.Hearing.{Frame, frame_grows, Before, Behind, drops_plain}
use Rattle.artery_names.proofs.Handling.{hears_kept}
use Rattle.artery_names.proofs.Writes.{IsOpened}
use Rattle.artery_names.proofs.Telling.{same_is}
use Rattle.artery_names.specs.Versions.{Fits}
use Rattle.artery_judge.specs.Laws.{is_dial, is_nonce}

-- ---- frames, one after the other

-- Frames that were written at places from a first one on.
abbrev pub AllFrames : ℕ → ℕ → ℕ → Option Stream → List (List ℕ) → List Conn → Type 0
AllFrames u k p stream [] cs = Unit {0}
AllFrames u k p stream (frame ∷ frames) cs = Frame u k p stream frame cs × AllFrames u k (p + 1) stream frames cs

pub frames_grow : (u k p : ℕ) (stream : Option Stream) (frames : List (List ℕ)) (cs ds : List Conn) → Along Grown cs ds → AllFrames u k p stream frames cs → AllFrames u k p stream frames ds
frames_grow u k p stream [] cs ds l h = tt
frames_grow u k p stream (frame ∷ frames) cs ds l h = (frame_grows u k p stream frame cs ds l h.0, frames_grow u k (p + 1) stream frames cs ds l h.1)

-- How many were given once these were.
abbrev pub last : ℕ → ℕ → List (List ℕ) → ℕ
last g p [] = g
last g p (frame ∷ frames) = last (p + 1) (p + 1) frames

pub last_is : (g p : ℕ) (frames : List (List ℕ)) → last g p frames ≡ cond (length frames == 0) g (p + length frames)
last_is g p [] = sym (ap (λ (b : Bool). cond b g (p + 0)) (eq_self 0))
last_is g p (frame ∷ frames) = last_is (p + 1) (p + 1) frames ∙ on_cond (λ (x : ℕ). x ≡ p + suc (length frames)) (length frames == 0) (p + 1) (p + 1 + length frames)
    (λ t. (let e : length frames ≡ 0 = eq_true (length frames) 0 t in omega arith)) (λ t. omega arith) ∙ sym (ap (λ (b : Bool). cond b g (p + suc (length frames))) no)
  where
    no : (suc (length frames) == 0) ≡ false
    no = grind (arith, nat_tests)

pub then_away : (given : ℕ → ℕ) (k g x : ℕ) → (x ≡ k → ⊥) → then_given given k g x ≡ given x
then_away given k g x n = by_test (x == k) (λ t. absurd (n (eq_true x k t))) (λ t. ap (λ (b : Bool). cond b g (given x)) t)

-- What was given changes on one connection alone.
pub record Given (nobody : UniqueAddress) (u k g : ℕ) (given : ℕ → ℕ) (w : Network) (n : Node whole) (v : Network) : Type 0 where
  pub after : ℕ → ℕ
  pub away : (x : ℕ) → (x ≡ k → ⊥) → after x ≡ given x
  pub here : after k ≡ g
  pub kept : Kept nobody u after nowhere w n v

module _ {nobody : UniqueAddress} {u m : ℕ} where
  pub all_heard : (k p : ℕ) (stream : Option Stream) (frames : List (List ℕ)) (given : ℕ → ℕ) (d : Work u m) → Before (given k) p → (d.deeds.ended ≡ None → AllFrames u k p stream frames d.deeds.connections) → Good nobody u given nowhere d.node d.deeds
      → Given nobody u k (last (given k) p frames) given d.deeds (each frames (hears k stream) d).node (each frames (hears k stream) d).deeds
  all_heard k p stream [] given d b f g = record { after = given; away = λ x n. refl; here = refl; kept = kept_self nobody u given nowhere d.node d.deeds g }
  all_heard k p stream (frame ∷ frames) given d b f g =
      let one : Kept nobody u (then_given given k (p + 1)) nowhere d.deeds (hears k stream frame d).node (hears k stream frame d).deeds = hears_kept k p stream frame d b (λ live. (f live).0) g in
      let rest : Given nobody u k (last (then_given given k (p + 1) k) (p + 1) frames) (then_given given k (p + 1)) (hears k stream frame d).deeds (each frames (hears k stream) (hears k stream frame d)).node (each frames (hears k stream) (hears k stream frame d)).deeds =
      all_heard k (p + 1) stream frames (then_given given k (p + 1)) (hears k stream frame d) (Behind (then_here given k (p + 1)))
      (λ live. frames_grow u k (p + 1) stream frames d.deeds.connections (hears k stream frame d).deeds.connections (along_grown u d.deeds.connections (hears k stream frame d).deeds.connections one.later.conns) (f (one.later.going live)).1) one.good in
      record {
        after = rest.after;
        away = λ x n. rest.away x n ∙ then_away given k (p + 1) x n;
        here = rest.here ∙ ap (λ (x : ℕ). last x (p + 1) frames) (then_here given k (p + 1));
        kept = record { good = rest.kept.good; later = later_trans nobody u d.deeds (hears k stream frame d).deeds (each frames (hears k stream) (hears k stream frame d)).deeds one.later rest.kept.later };
      }

-- ---- an inbound connection goes

none_left : (k : ℕ) (is : List (Inbound whole)) (j : Inbound whole) {P : Type 0} → find (is_number k) (filter (λ i. not (is_number k i)) is) ≡ Some j → P
none_left k [] j h = not_some h
none_left k (i ∷ is) j {P} h = by (is_number k i) refl h (λ g. none_left k is j g)
  where
    by : (a : Bool) → is_number k i ≡ a → find (is_number k) (cond (not a) (i ∷ filter (λ i. not (is_number k i)) is) (filter (λ i. not (is_number k i)) is)) ≡ Some j → (find (is_number k) (filter (λ i. not (is_number k i)) is) ≡ Some j → P) → P
    by true p g rest = rest g
    by false p g rest = rest (sym (ap (λ (c : Bool). cond c (Some i) (find (is_number k) (filter (λ i. not (is_number k i)) is))) p) ∙ g)

pub left_found : (x k : ℕ) (j : Inbound whole) (is : List (Inbound whole)) → find (is_number x) (filter (λ i. not (is_number k i)) is) ≡ Some j → find (is_number x) is ≡ Some j
left_found x k j [] h = h
left_found x k j (i ∷ is) h = by (is_number k i) (is_number x i) refl refl h (λ g. left_found x k j is g)
  where
    by : (a b : Bool) → is_number k i ≡ a → is_number x i ≡ b → find (is_number x) (cond (not a) (i ∷ filter (λ i. not (is_number k i)) is) (filter (λ i. not (is_number k i)) is)) ≡ Some j
        → (find (is_number x) (filter (λ i. not (is_number k i)) is) ≡ Some j → find (is_number x) is ≡ Some j) → cond b (Some i) (find (is_number x) is) ≡ Some j
    by true true p q g rest =
        let same : x ≡ k = sym (eq_true i.number x q) ∙ eq_true i.number k p in
        none_left k is j (subst (λ (z : ℕ). find (is_number z) (filter (λ i. not (is_number k i)) is) ≡ Some j) same g)
    by true false p q g rest = rest g
    by false true p q g rest = sym (ap (λ (c : Bool). cond c (Some i) (find (is_number x) (filter (λ i. not (is_number k i)) is))) q) ∙ g
    by false false p q g rest = rest (sym (ap (λ (c : Bool). cond c (Some i) (find (is_number x) (filter (λ i. not (is_number k i)) is))) q) ∙ g)

rises_less : (a b : ℕ) (ks : List ℕ) → a ≤ b → Rises b ks → Rises a ks
rises_less a b [] l h = tt
rises_less a b (k ∷ ks) l h = ((let x : b ≤ k = h.0 in omega arith), h.1)

rises_left : (p : Inbound whole → Bool) (least : ℕ) (is : List (Inbound whole)) → Rises least (numbers_in is) → Rises least (numbers_in (filter p is))
rises_left p least [] h = tt
rises_left p least (i ∷ is) h = on_cond (λ (xs : List (Inbound whole)). Rises least (numbers_in xs)) (p i) (i ∷ filter p is) (filter p is) (λ t. (h.0, rises_left p (i.number + 1) is h.1))
    (λ t. rises_less least (i.number + 1) (numbers_in (filter p is)) (let x : least ≤ i.number = h.0 in omega arith) (rises_left p (i.number + 1) is h.1))

module _ (nobody : UniqueAddress) (u : ℕ) (given : ℕ → ℕ) where
  pub without_good : (k : ℕ) (n : Node whole) (w : Network) → Good nobody u given nowhere n w → Good nobody u given nowhere (without_inbound k n) w
  without_good k n w g = record {
    lawful = g.lawful;
    out = g.out;
    node = λ e. (let h = g.node e in record {
      uid = h.uid;
      me = h.me;
      ordered = rises_left (λ i. not (is_number k i)) 0 n.inbound h.ordered;
      peers = h.peers;
      tables = h.tables;
      gone = h.gone;
      origins = h.origins;
      framed = h.framed;
      inbound = λ x i at. (let y = h.inbound x i (left_found x k i n.inbound at) in record { place = y.place; conn = y.conn; is = y.is; inward = y.inward; facts = y.facts });
      opened = λ j c at o. each_weaker (IsOpened u n w.connections) (IsOpened u (without_inbound k n) w.connections) (λ y q p z b r. (let v = q p z b r in (v.0, λ i d. v.1 i (left_found z.number k i n.inbound d)))) (answers_on c) (h.opened j c at o);
    });
  }

module _ {nobody : UniqueAddress} {u m : ℕ} {given : ℕ → ℕ} where
  pub without_keeps : (k : ℕ) → Keeps nobody u m given (becomes (without_inbound k))
  without_keeps k = record { on = λ d g. record { good = without_good nobody u given k d.node d.deeds g; later = later_self nobody u d.deeds } }

  pub hangs_keeps : (k : ℕ) → Keeps nobody u m given (does (Hangs (Inward k)))
  hangs_keeps k = plain_keeps _ (deed_plain (Hangs (Inward k)) tt)

  pub broken_keeps : (k : ℕ) (x : Option FrameFault) → Keeps nobody u m given (ends_broken k x)
  broken_keeps k None = stays_keep
  broken_keeps k (Some fault) = plain_keeps _ (drops_plain k (stream_rule fault)) ▻ hangs_keeps k ▻ without_keeps k

  pub bytes_keep : (k : ℕ) (bytes : List ℕ) → Keeps nobody u m given (inbound_becomes k (with_bytes bytes))
  bytes_keep k bytes = plain_keeps _ (inbound_plain k (with_bytes bytes) (λ i. record { number = refl; still = record { state = refl; shown = refl; owed = Same refl } }))

-- ---- an inbound connection comes

pub data Put (x k : ℕ) (is : List (Inbound whole)) (j : Inbound whole) : Type 0 where
  New : x ≡ k → j ≡ accepted_as k → Put x k is j
  Old : (x ≡ k → ⊥) → find (is_number x) is ≡ Some j → Put x k is j

pub put_found : (x k : ℕ) (is : List (Inbound whole)) (j : Inbound whole) → find (is_number x) (put_inbound (accepted_as k) is) ≡ Some j → Put x k is j
put_found x k [] j h = by (k == x) refl h
  where
    by : (a : Bool) → (k == x) ≡ a → cond a (Some (accepted_as {P = whole} k)) None ≡ Some j → Put x k [] j
    by true p g = New (sym (eq_true k x p)) (sym (some_same g))
    by false p g = not_some g
put_found x k (i ∷ is) j h = by (i.number == k) refl (nat_lt k i.number) h (λ g. put_found x k is j g)
  where
    first : (rest : List (Inbound whole)) → cond (k == x) (Some (accepted_as {P = whole} k)) (find (is_number x) rest) ≡ Some j → ((k == x) ≡ false → find (is_number x) rest ≡ Some j → Put x k (i ∷ is) j) → Put x k (i ∷ is) j
    first rest g other = at_test (k == x) refl g
      where
        at_test : (a : Bool) → (k == x) ≡ a → cond a (Some (accepted_as {P = whole} k)) (find (is_number x) rest) ≡ Some j → Put x k (i ∷ is) j
        at_test true p f = New (sym (eq_true k x p)) (sym (some_same f))
        at_test false p f = other p f

    Rest : Type 0
    Rest = find (is_number x) (put_inbound (accepted_as k) is) ≡ Some j → Put x k is j

    behind : (i.number == k) ≡ false → (b : Bool) → is_number x i ≡ b → cond b (Some i) (find (is_number x) (put_inbound (accepted_as k) is)) ≡ Some j → Rest → Put x k (i ∷ is) j
    behind n true q g rest = Old (λ e. eq_not i.number k n (eq_true i.number x q ∙ e)) (ap (λ (c : Bool). cond c (Some i) (find (is_number x) is)) q ∙ g)
    behind n false q g rest = again (rest g)
      where
        again : Put x k is j → Put x k (i ∷ is) j
        again (New a b) = New a b
        again (Old a b) = Old a (ap (λ (c : Bool). cond c (Some i) (find (is_number x) is)) q ∙ b)

    by : (a : Bool) → (i.number == k) ≡ a → (b : Bool) → find (is_number x) (cond a (accepted_as k ∷ is) (cond b (accepted_as k ∷ i ∷ is) (i ∷ put_inbound (accepted_as k) is))) ≡ Some j → Rest → Put x k (i ∷ is) j
    by true p b g rest = first is g (λ n f. Old (λ e. eq_not k x n (sym e)) (ap (λ (c : Bool). cond c (Some i) (find (is_number x) is)) (ap (λ (z : ℕ). z == x) (eq_true i.number k p) ∙ n) ∙ f))
    by false p true g rest = first (i ∷ is) g (λ n f. Old (λ e. eq_not k x n (sym e)) f)
    by false p false g rest = behind p (is_number x i) refl g rest

pub rises_put : (least k : ℕ) (is : List (Inbound whole)) → least ≤ k → Rises least (numbers_in is) → Rises least (numbers_in (put_inbound (accepted_as k) is))
rises_put least k [] l h = (l, tt)
rises_put least k (i ∷ is) l h =
    on_cond (λ (xs : List (Inbound whole)). Rises least (numbers_in xs)) (i.number == k) (accepted_as k ∷ is) _ (λ t. (l, subst (λ (x : ℕ). Rises (x + 1) (numbers_in is)) (eq_true i.number k t) h.1))
    (λ t. on_cond (λ (xs : List (Inbound whole)). Rises least (numbers_in xs)) (nat_lt k i.number) (accepted_as k ∷ i ∷ is) (i ∷ put_inbound (accepted_as k) is)
    (λ s. (l, ((let a : k < i.number = grind (arith, nat_tests) in omega arith), h.1)))
    (λ s. (h.0, rises_put (i.number + 1) k is (above t s) h.1)))
  where
    above : (i.number == k) ≡ false → nat_lt k i.number ≡ false → i.number + 1 ≤ k
    above t s = grind (arith, nat_tests)

-- what was got is what is left of what was told
pub lawful_within : (a b : UniqueAddress) (d : ℕ) (ls : List Line) → IsLawful ls → Within (got_by a b d ls) (messages (told_by a b d ls))
lawful_within a b d [] h = tt
lawful_within a b d (l ∷ ls) h = by l h.0 (lawful_within a b d ls h.1)
  where
    more : (ts us : List Told) → Within (got_by a b d ls) (messages ts) → Within (got_by a b d ls) (messages (ts ++ us))
    more ts us w = subst (λ xs. Within (got_by a b d ls) xs) (sym (split ts)) (within_more (got_by a b d ls) (messages ts) (messages us) w)
      where
        split : (xs : List Told) → messages (xs ++ us) ≡ messages xs ++ messages us
        split [] = refl
        split (x ∷ xs) = ap (λ l. x.message ∷ l) (split xs)

    told : (x : Option ((Way × ℕ) × Tell)) → Within (got_by a b d ls) (messages (told_by a b d ls)) → Within (got_by a b d ls) (messages (told_more a b d x (adopted_by a b ls) (told_by a b d ls)))
    told None w = w
    told (Some (key, message)) w = on_cond (λ ts. Within (got_by a b d ls) (messages ts)) (is_dial a b d key) (told_by a b d ls ++ record { message = message; numbers = adopted_by a b ls } ∷ []) (told_by a b d ls)
        (λ t. more (told_by a b d ls) (record { message = message; numbers = adopted_by a b ls } ∷ []) w) (λ t. w)

    got : (x : Option ((Way × Option ℕ) × Tell)) → KeepsOrdinary ls x → Within (got_by a b d ls) (messages (told_by a b d ls)) → Within (got_more a b d x (got_by a b d ls)) (messages (told_by a b d ls))
    got None k w = w
    got (Some ((way, None), message)) k w = absurd k
    got (Some (((y, x), Some e), message)) k w = on_cond (λ gs. Within gs (messages (told_by a b d ls))) (is_nonce b a d ((y, x), Some e)) (got_by a b d ls ++ message ∷ []) (got_by a b d ls)
        (λ t. (let s : (same b y && same a x) ≡ true = and_left (same b y && same a x) (d == e) t in
        let yb : b ≡ y = same_is b y (and_left (same b y) (same a x) s) in
        let xa : a ≡ x = same_is a x (and_right (same b y) (same a x) s) in
        let de : d ≡ e = eq_true d e (and_right (same b y && same a x) (d == e) t) in
        let P : UniqueAddress → UniqueAddress → ℕ → Type 0 = λ p q r. Within (got_by p q r ls ++ message ∷ []) (messages (told_by p q r ls)) in
        subst (λ (r : ℕ). P a b r) (sym de) (subst (λ (q : UniqueAddress). P a q e) (sym yb) (subst (λ (p : UniqueAddress). P p y e) (sym xa) k))))
        (λ t. w)

    -- a line tells one of both at most
    by : (z : Line) → KeepsOrdinary ls (says_got z) → Within (got_by a b d ls) (messages (told_by a b d ls)) → Within (got_more a b d (says_got z) (got_by a b d ls)) (messages (told_more a b d (says_told z) (adopted_by a b ls) (told_by a b d ls)))
    by (lines.Got p q r s) k w = got (says_got (lines.Got p q r s)) k w
    by (lines.Told p q r s) k w = told (says_told (lines.Told p q r s)) w
    by (lines.Started p) k w = w
    by (lines.Stopped p) k w = w
    by (lines.Learnt p q) k w = w
    by (lines.Closed p q r) k w = w
    by (lines.Sent p q r s) k w = w
    by (lines.Took p q r s) k w = w
    by (lines.Again p q r) k w = w
    by (lines.Gap p q r) k w = w
    by (lines.Dropped p q r) k w = w
    by (lines.Stray p q r) k w = w
    by (lines.Barred p q) k w = w
    by (lines.Notice p q) k w = w
    by (lines.Watched p q r s) k w = w
    by (lines.Unwatched p q) k w = w
    by (lines.Terminated p q) k w = w
    by (lines.Refused p q) k w = w
    by (lines.Spawned p q) k w = w
    by (lines.Ended p q) k w = w
    by (lines.Advertised p q r s t) k w = w
    by (lines.Adopted p q r s) k w = w
    by (lines.Skipped p q r s t) k w = w
    by (lines.Idle p q) k w = w

-- A connection that was made just now reaches the node under this number: nothing was told on it, and no answer names it.
pub record MadeJustNow (nobody : UniqueAddress) (u k : ℕ) (cs : List Conn) (ls : List Line) : Type 0 where
  pub place : ℕ
  pub conn : Conn
  pub is : slice_get cs place ≡ Some conn
  pub inward : is_inward u k conn ≡ true
  pub untold : told_by (name_by nobody conn.dialer ls) (name_by nobody u ls) conn.dial ls ≡ []
  pub unanswered : (j : ℕ) (c : Conn) → slice_get cs j ≡ Some c → c.dialer ≡ u → Each (λ (y : Answering). is_dialed y.uid y.dial conn ≡ true → ⊥) (answers_on c)

nothing_within : (xs : List Tell) → Within xs [] → xs ≡ []
nothing_within [] h = refl
nothing_within (x ∷ xs) h = absurd h

module _ (nobody : UniqueAddress) (u : ℕ) (given : ℕ → ℕ) where
  pub with_good : (k : ℕ) (n : Node whole) (w : Network) → (w.ended ≡ None → MadeJustNow nobody u k w.connections (journal w)) → Good nobody u given nowhere n w → Good nobody u (then_given given k 0) nowhere (with_inbound k n) w
  with_good k n w f g = record {
    lawful = g.lawful;
    out = g.out;
    node = λ e. (let h = g.node e in record {
      uid = h.uid;
      me = h.me;
      ordered = rises_put 0 k n.inbound (omega arith) h.ordered;
      peers = h.peers;
      tables = h.tables;
      gone = h.gone;
      origins = h.origins;
      framed = h.framed;
      inbound = λ x i at. heard e h x i (put_found x k n.inbound i at);
      opened = λ j c at o. opened e h j c at o;
    });
  }
    where
      cs : List Conn
      cs = w.connections

      ls : List Line
      ls = journal w

      new_facts : w.ended ≡ None → NodeFacts nobody u given nowhere n w.connections (journal w) → (c : MadeJustNow nobody u k w.connections (journal w))
          → InFacts n.me (name_by nobody c.conn.dialer (journal w)) 0 (stories_of n (name_by nobody c.conn.dialer (journal w))) (journal w) (accepted_as k) c.conn
      new_facts e h c =
          let a : UniqueAddress = name_by nobody c.conn.dialer (journal w) in
          let none : told_by a n.me c.conn.dial (journal w) ≡ [] = subst (λ (x : UniqueAddress). told_by a x c.conn.dial (journal w) ≡ []) h.me c.untold in
          let within : Within (got_by a n.me c.conn.dial (journal w)) (messages (told_by a n.me c.conn.dial (journal w))) = lawful_within a n.me c.conn.dial (journal w) g.lawful in
          let nothing : got_by a n.me c.conn.dial (journal w) ≡ [] = nothing_within (got_by a n.me c.conn.dial (journal w)) (subst (λ ts. Within (got_by a n.me c.conn.dial (journal w)) (messages ts)) none within) in
          record {
            had = omega arith;
            begun = λ x. absurd x;
            state = none;
            owed = tt;
            got = subst (λ xs. Within xs (messages (take 0 (told_by a n.me c.conn.dial (journal w))))) (sym nothing) tt;
            fits = λ y kind. subst (λ ts. Each (λ (t : Told). Fits (length (stories_of n a kind).tables) (of_kind kind t.numbers)) (drop 0 ts)) (sym none) tt;
            shown = shown;
          }
        where
          shown : (kind : Kind) → IsShown (of_kind kind (accepted_as {P = whole} k).shown) kind (adopted_by (name_by nobody c.conn.dialer (journal w)) n.me (journal w)) (drop 0 (told_by (name_by nobody c.conn.dialer (journal w)) n.me c.conn.dial (journal w)))
          shown Refs = tt
          shown Manifests = tt

      heard : w.ended ≡ None → NodeFacts nobody u given nowhere n w.connections (journal w) → (x : ℕ) (i : Inbound whole) → Put x k n.inbound i → Heard nobody n.me (then_given given k 0 x) (stories_of n) w.connections (journal w) x i
      heard e h x i (Old p at) =
          let y = h.inbound x i at in
          subst (λ (z : ℕ). Heard nobody n.me z (stories_of n) w.connections (journal w) x i) (sym (then_away given k 0 x p)) y
      heard e h x i (New p q) =
          let c = f e in
          let Q : ℕ → ℕ → Inbound whole → Type 0 = λ z r j. Heard nobody n.me r (stories_of n) w.connections (journal w) z j in
          let fresh : Q k 0 (accepted_as k) = record { place = c.place; conn = c.conn; is = c.is; inward = subst (λ (z : ℕ). is_inward z k c.conn ≡ true) (sym h.uid) c.inward; facts = new_facts e h c } in
          subst (λ (j : Inbound whole). Q x (then_given given k 0 x) j) (sym q)
          (subst (λ (z : ℕ). Q z (then_given given k 0 z) (accepted_as k)) (sym p) (subst (λ (r : ℕ). Q k r (accepted_as k)) (sym (then_here given k 0)) fresh))

      opened : w.ended ≡ None → NodeFacts nobody u given nowhere n w.connections (journal w) → (j : ℕ) (c : Conn) → slice_get w.connections j ≡ Some c → c.dialer ≡ u → Each (IsOpened u (with_inbound k n) w.connections) (answers_on c)
      opened e h j c at o = both (answers_on c) (h.opened j c at o) ((f e).unanswered j c at o)
        where
          both : (ys : List Answering) → Each (IsOpened u n w.connections) ys → Each (λ (y : Answering). is_dialed y.uid y.dial (f e).conn ≡ true → ⊥) ys → Each (IsOpened u (with_inbound k n) w.connections) ys
          both [] a b = tt
          both (y ∷ ys) a b = ((λ p z q r. (let v = a.0 p z q r in (v.0, λ i d. known p z q r v.0 v.1 i (put_found z.number k n.inbound i d)))), both ys a.1 b.1)
            where
              known : (p : ℕ) (z : Conn) → slice_get w.connections p ≡ Some z → is_dialed y.uid y.dial z ≡ true → z.far ≡ u → ((i : Inbound whole) → inbound_at z.number n ≡ Some i → IsKnown i.state) → (i : Inbound whole) → Put z.number k n.inbound i → IsKnown i.state
              known p z q r far was i (Old s d) = was i d
              known p z q r far was i (New s d) =
                  let made = f e in
                  let same : p ≡ made.place = (g.out e).reached p made.place z made.conn q made.is (far ∙ sym (eq_true made.conn.far u (and_left (made.conn.far == u) (made.conn.number == k) made.inward))) (s ∙ sym (eq_true made.conn.number k (and_right (made.conn.far == u) (made.conn.number == k) made.inward))) in
                  let is : z ≡ made.conn = some_same (sym q ∙ ap (λ (x : ℕ). slice_get w.connections x) same ∙ made.is) in
                  absurd (b.0 (subst (λ (x : Conn). is_dialed y.uid y.dial x ≡ true) is r))
