-- Each step keeps the law of a lane.
use Rattle.std.proofs.Common.{◌≡◌, ◌≢◌, ◌⊎◌, ℕ, zero, suc, ◌+◌, ◌<◌, ◌≤◌, Bool, true, false, cond, eqb, List, [], ◌∷◌, ◌++◌, length, set, inl, inr, sym, refl, ap, ◌∙◌, subst, ⊎_elim, append_assoc, eq-eqb, ne_eqb, lt_of_not-le, arith}
use mathlib.Core.Option.{Option, some, none, some-injective, some-ne-none}
use mathlib.Core.Logic.{dite}
use native.Mathlib.Decide.{ℕ_discrete}
use lib.ListN.{get_elem?}
use Rattle.crossbeam_queue.specs.Fifo.{Pushes, Pops, Forks, Merges, Learns}
use Rattle.crossbeam_queue.proofs.Lists.{at_set}
use Rattle.artery_lanes.specs.declared.entry.Entry.{Entry}
use Rattle.artery_lanes.specs.declared.entry.Item.{Item}
use Rattle.artery_lanes.specs.declared.lane_view.LaneView.{LaneView}
use Rattle.artery_lanes.specs.declared.lane_view.LaneView.TheVariants.{Sender, Taker, Spent}
use Rattle.artery_lanes.specs.Lane.{entry, of, numbered, AllEnded, Fits, IsLane, AllTold, Told, IsNext, offers, takes, taken_in, one_more, new_sender, accepted_of, made_of, got_of, ended_of}

module _ {A : Type 0} where
  snoc_cases : (l : List A) (a b : A) (j : ℕ) → get_elem? (l ++ a ∷ []) j ≡ some b → (get_elem? l j ≡ some b) ⊎ ((j ≡ length l) × (a ≡ b))
  snoc_cases [] a b zero e = inr (refl, some-injective a b e)
  snoc_cases [] a b (suc j) e = absurd (some-ne-none b (sym e))
  snoc_cases (x ∷ xs) a b zero e = inl e
  snoc_cases (x ∷ xs) a b (suc j) e = ⊎_elim (λ t. inl t) (λ t. inr (ap suc t.0, t.1)) (snoc_cases xs a b j e)

  abbrev upd : ℕ → A → (ℕ → A) → ℕ → A
  upd i a f j = cond (eqb j i) a (f j)

  upd_here : (i : ℕ) (a : A) (f : ℕ → A) → upd i a f i ≡ a
  upd_here i a f = ap (λ b. cond b a (f i)) (eq-eqb i i refl)

  upd_else : (i : ℕ) (a : A) (f : ℕ → A) (j : ℕ) → j ≢ i → upd i a f j ≡ f j
  upd_else i a f j n = ap (λ b. cond b a (f j)) (ne_eqb j i n)

  upd_cases : (P : A → Type 0) (i : ℕ) (a : A) (f : ℕ → A) (j : ℕ) → (j ≡ i → P a) → (j ≢ i → P (f j)) → P (upd i a f j)
  upd_cases P i a f j hit miss = dite (ℕ_discrete j i) (λ e. subst (λ b. P (cond b a (f j))) (sym (eq-eqb j i e)) (hit e)) (λ ne. subst (λ b. P (cond b a (f j))) (sym (ne_eqb j i ne)) (miss ne))

either_way : (b : Bool) (x : Entry) (whole xs ys : List Entry) → whole ≡ xs ++ ys → cond b (x ∷ whole) whole ≡ cond b (x ∷ xs) xs ++ ys
either_way true x whole xs ys e = λ i. x ∷ e i
either_way false x whole xs ys e = e

of_append : (s : ℕ) (xs ys : List Entry) → of s (xs ++ ys) ≡ of s xs ++ of s ys
of_append s [] ys = refl
of_append s (x ∷ xs) ys = either_way (eqb x.sender s) x (of s (xs ++ ys)) (of s xs) (of s ys) (of_append s xs ys)

of_here : (s : ℕ) (e : Entry) → e.sender ≡ s → of s (e ∷ []) ≡ e ∷ []
of_here s e is = ap (λ b. cond b (e ∷ []) []) (eq-eqb e.sender s is)

of_else : (s : ℕ) (e : Entry) → e.sender ≢ s → of s (e ∷ []) ≡ []
of_else s e other = ap (λ b. cond b (e ∷ []) []) (ne_eqb e.sender s other)

numbered_snoc : (s k : ℕ) (xs : List Item) (x : Item) → numbered s k (xs ++ x ∷ []) ≡ numbered s k xs ++ entry s (k + length xs) x ∷ []
numbered_snoc s k [] x = let e : k ≡ k + 0 = omega arith in ap (λ n. entry s n x ∷ []) e
numbered_snoc s k (y ∷ ys) x = let e : (k + 1) + length ys ≡ k + suc (length ys) = omega arith in λ i. entry s k y ∷ ((numbered_snoc s (k + 1) ys x ∙ ap (λ n. numbered s (k + 1) ys ++ entry s n x ∷ []) e) i)

append_none : (xs : List Entry) → xs ++ [] ≡ xs
append_none [] = refl
append_none (x ∷ xs) = λ i. x ∷ append_none xs i

abbrev All : (ℕ → LaneView → Type 0) → List LaneView → Type 0
All F views = (id : ℕ) (v : LaneView) → get_elem? views id ≡ some v → F id v

all_set : (F : ℕ → LaneView → Type 0) (views : List LaneView) (id : ℕ) (w : LaneView) → F id w → ((j : ℕ) (u : LaneView) → j ≢ id → get_elem? views j ≡ some u → F j u) → All F (set views id w)
all_set F views id w mine others j u e = ⊎_elim (λ (x : (j ≡ id) × (w ≡ u)). subst (λ (y : ℕ × LaneView). F y.0 y.1) (λ i. (sym x.0 i, x.1 i)) mine)
    (λ (x : (j ≢ id) × (get_elem? views j ≡ some u)). others j u x.0 x.1) (at_set views id j w u e)

pub begins : IsLane [] (Taker 0 [] [] ∷ [])
begins = record {
  taker = 0;
  count = 0;
  seat = λ s. none;
  accepted = λ s. [];
  got = [];
  story = λ s. refl;
  unused = λ s _. (refl, refl);
  each = first;
}
  where
    first : (id : ℕ) (v : LaneView) → get_elem? (Taker 0 [] [] ∷ []) id ≡ some v → Fits 0 0 (λ s. none) (λ s. []) [] id v
    first zero v e = subst (λ y. Fits 0 0 (λ s. none) (λ s. []) [] zero y) (some-injective (Taker 0 [] []) v e) (refl, refl, refl, tt)
    first (suc id) v e = absurd (some-ne-none v (sym e))

-- a list of ended senders stays when one that has a pass accepts more
ended_put : (made from id : ℕ) (list : List Item) (seat : ℕ → Option ℕ) (accepted : ℕ → List Item) → seat from ≡ some id
    → (es : List (ℕ × List Item)) → AllEnded made seat accepted es → AllEnded made seat (upd from list accepted) es
ended_put made from id list seat accepted has [] h = tt
ended_put made from id list seat accepted has (e ∷ es) h = (
  (
    h.0.0,
    h.0.1,
    upd_else from list accepted e.0 (λ (is : e.0 ≡ from). some-ne-none id (sym has ∙ ap seat (sym is) ∙ h.0.1)) ∙ h.0.2,
  ),
  ended_put made from id list seat accepted has es h.1,
)

pub pushes : (n id from : ℕ) (list : List Item) (x : Item)
    → Pushes IsLane n id (Sender from list) (entry from (length list) x) (offers (Sender from list) (entry from (length list) x))
pushes n id from list x items views room h at =
    let e : Entry = entry from (length list) x in let list' : List Item = list ++ x ∷ [] in let mine = h.each id (Sender from list) at in
    let accepted : ℕ → List Item = upd from list' h.accepted in let zeroth : length list ≡ 0 + length list = omega arith in (
      Sender from list',
      record {
        taker = h.taker;
        count = h.count;
        seat = h.seat;
        accepted = accepted;
        got = h.got;
        story = λ s. ap (of s) (sym (append_assoc h.got items (e ∷ []))) ∙ of_append s (h.got ++ items) (e ∷ []) ∙ ap (λ l. l ++ of s (e ∷ [])) (h.story s)
            ∙ upd_cases (λ l. numbered s 0 (h.accepted s) ++ of s (e ∷ []) ≡ numbered s 0 l) from list' h.accepted s
            (λ is. (λ i. numbered s 0 ((ap h.accepted is ∙ sym mine.1) i) ++ of_here s e (sym is) i) ∙ ap (λ z. numbered s 0 list ++ entry z (length list) x ∷ []) (sym is) ∙ ap (λ n. numbered s 0 list ++ entry s n x ∷ []) zeroth ∙ sym (numbered_snoc s 0 list x))
            (λ no. ap (λ l. numbered s 0 (h.accepted s) ++ l) (of_else s e (λ y. no (sym y))) ∙ append_none (numbered s 0 (h.accepted s)));
        unused = λ s above. ((h.unused s above).0, upd_else from list' h.accepted s (λ is. some-ne-none id (sym mine.0 ∙ ap h.seat (sym is) ∙ (h.unused s above).0)) ∙ (h.unused s above).1);
        each = all_set (Fits h.taker h.count h.seat accepted h.got) views id (Sender from list') (mine.0, sym (upd_here from list' h.accepted)) (λ j u apart f. other j u apart (h.each j u f));
      },
      refl,
    )
  where
    other : (j : ℕ) (u : LaneView) → j ≢ id → Fits h.taker h.count h.seat h.accepted h.got j u → Fits h.taker h.count h.seat (upd from (list ++ x ∷ []) h.accepted) h.got j u
    other j (Sender f l) apart fit = (
      fit.0,
      fit.1 ∙ sym (upd_else from (list ++ x ∷ []) h.accepted f (λ is. apart (some-injective j id (sym fit.0 ∙ ap h.seat is ∙ (h.each id (Sender from list) at).0)))),
    )
    other j (Taker m g es) apart fit = (fit.0, fit.1, fit.2, ended_put m from id (list ++ x ∷ []) h.seat h.accepted (h.each id (Sender from list) at).0 es fit.3)
    other j Spent apart fit = tt

abbrev first_place : List Entry → ℕ
first_place [] = 0
first_place (e ∷ es) = e.k

abbrev behind : List Entry → List Entry
behind [] = []
behind (e ∷ es) = es

holds_one : (xs ys : List Entry) (e : Entry) → xs ++ e ∷ ys ≡ [] → ⊥
holds_one [] ys e is = let n : suc (length ys) ≡ 0 = ap length is in omega arith
holds_one (x ∷ xs) ys e is = let n : suc (length (xs ++ e ∷ ys)) ≡ 0 = ap length is in omega arith

-- an entry behind others of numbered ones bears the number of those before it
place : (s k : ℕ) (list : List Item) (xs ys : List Entry) (e : Entry) → xs ++ e ∷ ys ≡ numbered s k list → e.k ≡ k + length xs
place s k [] xs ys e is = absurd (holds_one xs ys e is)
place s k (x ∷ list) [] ys e is = let n : e.k ≡ k = ap first_place is in omega arith
place s k (x ∷ list) (y ∷ xs) ys e is = let n : e.k ≡ (k + 1) + length xs = place s (k + 1) list xs ys e (ap behind is) in omega arith

-- the entry at the front of the queue is the next of its sender
next_of : (count : ℕ) (accepted : ℕ → List Item) (got items : List Entry) (e : Entry) → ((s : ℕ) → count ≤ s → accepted s ≡ []) → ((s : ℕ) → of s (got ++ e ∷ items) ≡ numbered s 0 (accepted s))
    → IsNext count got e
next_of count accepted got items e unused story =
    let s : ℕ = e.sender in
    let front : of s (e ∷ items) ≡ e ∷ of s items = ap (λ b. cond b (e ∷ of s items) (of s items)) (eq-eqb s s refl) in
    let whole : of s got ++ e ∷ of s items ≡ numbered s 0 (accepted s) = ap (λ l. of s got ++ l) (sym front) ∙ sym (of_append s got (e ∷ items)) ∙ story s in (
      lt_of_not-le (λ above. holds_one (of s got) (of s items) e (whole ∙ ap (numbered s 0) (unused s above))),
      let n : e.k ≡ 0 + length (of s got) = place s 0 (accepted s) (of s got) (of s items) e whole in omega arith,
    )

pub pops : (id made : ℕ) (got : List Entry) (ended : List (ℕ × List Item)) → Pops IsLane id (Taker made got ended) (takes (Taker made got ended))
pops id made got ended x items views h at =
    let mine = h.each id (Taker made got ended) at in let got' : List Entry = h.got ++ x ∷ [] in
    let next : IsNext h.count h.got x = next_of h.count h.accepted h.got items x (λ s above. (h.unused s above).1) h.story in (
      Taker made (got ++ x ∷ []) ended,
      record {
        taker = h.taker;
        count = h.count;
        seat = h.seat;
        accepted = h.accepted;
        got = got';
        story = λ s. ap (of s) (append_assoc h.got (x ∷ []) items) ∙ h.story s;
        unused = h.unused;
        each = all_set (Fits h.taker h.count h.seat h.accepted got') views id (Taker made (got ++ x ∷ []) ended) (mine.0, mine.1, ap (λ l. l ++ x ∷ []) mine.2, mine.3) (λ j u apart f. other j u apart (h.each j u f));
      },
      (subst (λ (y : ℕ × List Entry). IsNext y.0 y.1 x) (λ i. (sym mine.1 i, sym mine.2 i)) next, refl),
    )
  where
    other : (j : ℕ) (u : LaneView) → j ≢ id → Fits h.taker h.count h.seat h.accepted h.got j u → Fits h.taker h.count h.seat h.accepted (h.got ++ x ∷ []) j u
    other j (Sender f l) apart fit = fit
    other j (Taker m g es) apart fit = absurd (apart (fit.0 ∙ sym (h.each id (Taker made got ended) at).0))
    other j Spent apart fit = tt

-- the list of ended senders stays when the next sender's pass is made
ended_made : (made n : ℕ) (seat : ℕ → Option ℕ) (accepted : ℕ → List Item) (es : List (ℕ × List Item)) → AllEnded made seat accepted es → AllEnded (made + 1) (upd made (some n) seat) accepted es
ended_made made n seat accepted [] h = tt
ended_made made n seat accepted (e ∷ es) h = let less = h.0.0 in ((omega arith, upd_else made (some n) seat e.0 (λ is. omega arith) ∙ h.0.1, h.0.2), ended_made made n seat accepted es h.1)

pub forks : (id made : ℕ) (got : List Entry) (ended : List (ℕ × List Item)) → Forks IsLane id (Taker made got ended) (Taker (made + 1) got ended) (Sender made [])
forks id made got ended items views h at =
    let mine = h.each id (Taker made got ended) at in let count = mine.1 in let left : LaneView = Taker (made + 1) got ended in let n : ℕ = length (set views id left) in
    let free = h.unused made (omega arith) in let seat : ℕ → Option ℕ = upd made (some n) h.seat in record {
      taker = h.taker;
      count = h.count + 1;
      seat = seat;
      accepted = h.accepted;
      got = h.got;
      story = h.story;
      unused = λ s above. (upd_else made (some n) h.seat s (λ is. omega arith) ∙ (h.unused s (omega arith)).0, (h.unused s (omega arith)).1);
      each = λ j u e. ⊎_elim
          (λ was. all_set (Fits h.taker (h.count + 1) seat h.accepted h.got) views id left (mine.0, ap (λ k. k + 1) mine.1, mine.2, ended_made made n h.seat h.accepted ended mine.3)
          (λ k v apart f. other n k v apart (h.each k v f)) j u was)
          (λ (x : (j ≡ n) × (Sender made [] ≡ u)). subst (λ (y : ℕ × LaneView). Fits h.taker (h.count + 1) seat h.accepted h.got y.0 y.1) (λ i. (sym x.0 i, x.1 i)) (upd_here made (some n) h.seat, sym free.1))
          (snoc_cases (set views id left) (Sender made []) u j e);
    }
  where
    other : (n j : ℕ) (u : LaneView) → j ≢ id → Fits h.taker h.count h.seat h.accepted h.got j u → Fits h.taker (h.count + 1) (upd made (some n) h.seat) h.accepted h.got j u
    other n j (Sender f l) apart fit = (
      upd_else made (some n) h.seat f (λ is. some-ne-none j (sym fit.0 ∙ ap h.seat is ∙ (h.unused made (let count = (h.each id (Taker made got ended) at).1 in omega arith)).0)) ∙ fit.0,
      fit.1,
    )
    other n j (Taker m g es) apart fit = absurd (apart (fit.0 ∙ sym (h.each id (Taker made got ended) at).0))
    other n j Spent apart fit = tt

ended_none : (made from : ℕ) (seat : ℕ → Option ℕ) (accepted : ℕ → List Item) (es : List (ℕ × List Item)) → AllEnded made seat accepted es → AllEnded made (upd from none seat) accepted es
ended_none made from seat accepted [] h = tt
ended_none made from seat accepted (e ∷ es) h = ((h.0.0, upd_cases (λ o. o ≡ none) from none seat e.0 (λ _. refl) (λ _. h.0.1), h.0.2), ended_none made from seat accepted es h.1)

pub merges : (id made : ℕ) (got : List Entry) (ended : List (ℕ × List Item)) (other from : ℕ) (list : List Item)
    → Merges IsLane id (Taker made got ended) other (Sender from list) (Taker made got ((from, list) ∷ ended)) Spent
merges id made got ended other from list items views h at two at' =
    let both : LaneView = Taker made got ((from, list) ∷ ended) in let mine = h.each id (Taker made got ended) at in let count = mine.1 in
    let was : get_elem? views other ≡ some (Sender from list) = ⊎_elim (λ x. absurd (two x.0)) (λ x. x.1) (at_set views id other both (Sender from list) at') in
    let theirs = h.each other (Sender from list) was in let seat : ℕ → Option ℕ = upd from none h.seat in
    let less : from < h.count = lt_of_not-le (λ above. some-ne-none other (sym theirs.0 ∙ (h.unused from above).0)) in
    let F : ℕ → LaneView → Type 0 = Fits h.taker h.count seat h.accepted h.got in record {
      taker = h.taker;
      count = h.count;
      seat = seat;
      accepted = h.accepted;
      got = h.got;
      story = h.story;
      unused = λ s above. (upd_cases (λ o. o ≡ none) from none h.seat s (λ _. refl) (λ _. (h.unused s above).0), (h.unused s above).1);
      each = all_set F (set views id both) other Spent tt
          (λ j u apart e. all_set (λ k v. k ≢ other → F k v) views id both
          (λ _. (mine.0, mine.1, mine.2, ((omega arith, upd_here from none h.seat, sym theirs.1), ended_none made from h.seat h.accepted ended mine.3)))
          (λ k v apart' f away. rest theirs.0 k v apart' away (h.each k v f)) j u e apart);
    }
  where
    rest : h.seat from ≡ some other → (j : ℕ) (u : LaneView) → j ≢ id → j ≢ other → Fits h.taker h.count h.seat h.accepted h.got j u → Fits h.taker h.count (upd from none h.seat) h.accepted h.got j u
    rest has j (Sender f l) apart away fit = (upd_else from none h.seat f (λ is. away (some-injective j other (sym fit.0 ∙ ap h.seat is ∙ has))) ∙ fit.0, fit.1)
    rest has j (Taker m g es) apart away fit = absurd (apart (fit.0 ∙ sym (h.each id (Taker made got ended) at).0))
    rest has j Spent apart away fit = tt

all_told : (items : List Entry) (made : ℕ) (seat : ℕ → Option ℕ) (accepted : ℕ → List Item) (got : List Entry) → ((s : ℕ) → of s (got ++ items) ≡ numbered s 0 (accepted s))
    → (es : List (ℕ × List Item)) → AllEnded made seat accepted es → AllTold got items es
all_told items made seat accepted got story [] h = tt
all_told items made seat accepted got story (e ∷ es) h = (sym (of_append e.0 got items) ∙ story e.0 ∙ ap (numbered e.0 0) h.0.2, all_told items made seat accepted got story es h.1)

pub learns : (id : ℕ) (v : LaneView) → Learns IsLane id v (Told v)
learns id (Sender from list) items views h at = let mine = h.each id (Sender from list) at in (of from h.got, sym (of_append from h.got items) ∙ h.story from ∙ ap (numbered from 0) (sym mine.1))
learns id (Taker made got ended) items views h at = let mine = h.each id (Taker made got ended) at in
    subst (λ g. AllTold g items ended) (sym mine.2) (all_told items made h.seat h.accepted h.got h.story ended mine.3)
learns id Spent items views h at = tt

-- The same at a view that is known by an equation.
pub pushes_of : (n id : ℕ) (v : LaneView) (s k : ℕ) (x : Item) → v ≡ Sender s (accepted_of v) → k ≡ length (accepted_of v) → Pushes IsLane n id v (entry s k x) (offers v (entry s k x))
pushes_of n id v s k x is at = subst (λ (y : ℕ × LaneView). Pushes IsLane n id y.1 (entry s y.0 x) (offers y.1 (entry s y.0 x))) (λ i. (sym at i, sym is i)) (pushes n id s (accepted_of v) x)

pub pops_of : (id : ℕ) (v : LaneView) → v ≡ Taker (made_of v) (got_of v) (ended_of v) → Pops IsLane id v (takes v)
pops_of id v is = subst (λ y. Pops IsLane id y (takes y)) (sym is) (pops id (made_of v) (got_of v) (ended_of v))

pub forks_of : (id : ℕ) (v : LaneView) → v ≡ Taker (made_of v) (got_of v) (ended_of v) → Forks IsLane id v (one_more v) (new_sender v)
forks_of id v is = subst (λ y. Forks IsLane id y (one_more y) (new_sender y)) (sym is) (forks id (made_of v) (got_of v) (ended_of v))

pub merges_of : (id : ℕ) (v : LaneView) (other : ℕ) (w : LaneView) (s : ℕ) → v ≡ Taker (made_of v) (got_of v) (ended_of v) → w ≡ Sender s (accepted_of w) → Merges IsLane id v other w (taken_in v w) Spent
merges_of id v other w s is its = subst (λ (y : LaneView × LaneView). Merges IsLane id y.0 other y.1 (taken_in y.0 y.1) Spent) (λ i. (sym is i, sym its i)) (merges id (made_of v) (got_of v) (ended_of v) other s (accepted_of w))

-- what the taker learns of a sender that it has just taken in
pub first_of : (v w u : LaneView) (s : ℕ) → v ≡ Taker (made_of v) (got_of v) (ended_of v) → w ≡ Sender s (accepted_of w) → u ≡ taken_in v w → (items : List Entry) × Told u items
    → (rest : List Entry) × (of s (got_of v) ++ rest ≡ numbered s 0 (accepted_of w))
first_of v w u s is its after told = let list : List Item = accepted_of w in
    let known : u ≡ Taker (made_of v) (got_of v) ((s, list) ∷ ended_of v) = after ∙ (λ i. taken_in (is i) (its i)) in
    (of s told.0, (subst (λ y. Told y told.0) known told.1).0)
