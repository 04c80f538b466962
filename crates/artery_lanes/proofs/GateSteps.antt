-- Each kind of step keeps the law of a gate.
use Rattle.std.proofs.Common.{◌≡◌, ◌≢◌, ◌⊎◌, ℕ, zero, suc, ◌+◌, ◌%◌, ◌^◌, ◌<◌, ◌≤◌, max, true, false, true≢false, List, [], ◌∷◌, set, slice_index, inl, inr, sym, refl, ap, ◌∙◌, subst, ⊎_elim, zero-le, arith}
use Rattle.std.proofs.Math.Nat.{mod-eq_of_lt, max-eq_left}
use Rattle.std.proofs.lemmas.List.{set-get_or}
use mathlib.Core.Option.{some}
use lib.ListN.{get_elem?}
use Rattle.atomic_table.specs.Table.{Me, keeps, Allows, Splits, Joins}
use Rattle.atomic_table.proofs.Lists.{at_set, at_snoc, set_again}
use Rattle.artery_lanes.specs.declared.gate_view.SeatView.{SeatView}
use Rattle.artery_lanes.specs.Gate.{stepped, loaded, observer, greater, joined, spent, IsBelow, FitsSeat, IsLawful}

set_cases : (l : List ℕ) (i j a : ℕ) → (slice_index (set l i a) j ≡ slice_index l j) ⊎ ((j ≡ i) × (slice_index (set l i a) j ≡ a))
set_cases [] i j a = inl refl
set_cases (x ∷ xs) zero zero a = inr (refl, refl)
set_cases (x ∷ xs) zero (suc j) a = inl refl
set_cases (x ∷ xs) (suc i) zero a = inl refl
set_cases (x ∷ xs) (suc i) (suc j) a = ⊎_elim (λ e. inl e) (λ t. inr (ap suc t.0, t.1)) (set_cases xs i j a)

-- a load shows no more than the word
below_load : (seen words : List ℕ) (i : ℕ) → IsBelow seen words → IsBelow (set seen i (slice_index words i)) words
below_load seen words i h j = ⊎_elim (λ (e : slice_index (set seen i (slice_index words i)) j ≡ slice_index seen j). let b = h j in omega arith)
    (λ (t : (j ≡ i) × (slice_index (set seen i (slice_index words i)) j ≡ slice_index words i)). let e = t.1 in let q : slice_index words j ≡ slice_index words i = ap (slice_index words) t.0 in omega arith)
    (set_cases seen i j (slice_index words i))

-- a word that rises stays above what was seen
below_rise : (seen words : List ℕ) (i n : ℕ) → IsBelow seen words → slice_index words i ≤ n → IsBelow seen (set words i n)
below_rise seen words i n h up j = ⊎_elim (λ (e : slice_index (set words i n) j ≡ slice_index words j). let b = h j in omega arith)
    (λ (t : (j ≡ i) × (slice_index (set words i n) j ≡ n)). let e = t.1 in let b = h j in let q : slice_index words j ≡ slice_index words i = ap (slice_index words) t.0 in omega arith)
    (set_cases words i j n)

greater_at : (xs ys : List ℕ) (j : ℕ) → slice_index (greater xs ys) j ≤ max (slice_index xs j) (slice_index ys j)
greater_at [] ys j = zero-le
greater_at (x ∷ xs) [] zero = omega arith
greater_at (x ∷ xs) [] (suc j) = omega arith
greater_at (x ∷ xs) (y ∷ ys) zero = omega arith
greater_at (x ∷ xs) (y ∷ ys) (suc j) = greater_at xs ys j

greater_same : (words ys : List ℕ) → IsBelow ys words → greater words ys ≡ words
greater_same [] ys h = refl
greater_same (w ∷ ws) [] h = refl
greater_same (w ∷ ws) (y ∷ ys) h = λ k. max-eq_left (h 0) k ∷ greater_same ws ys (λ j. h (suc j)) k

abbrev Fit : List ℕ → ℕ → List SeatView → Type 0
Fit words owner views = (id : ℕ) (v : SeatView) → get_elem? views id ≡ some v → FitsSeat words owner id v

-- one seat's view changes
fit_set : (words words' : List ℕ) (owner : ℕ) (views : List SeatView) (id : ℕ) (w : SeatView) → FitsSeat words' owner id w
    → ((j : ℕ) (u : SeatView) → j ≢ id → get_elem? views j ≡ some u → FitsSeat words' owner j u) → Fit words' owner (set views id w)
fit_set words words' owner views id w mine others j u e = ⊎_elim (λ (t : (j ≡ id) × (w ≡ u)). subst (λ (y : ℕ × SeatView). FitsSeat words' owner y.0 y.1) (λ i. (sym t.0 i, t.1 i)) mine)
    (λ (t : (j ≢ id) × (get_elem? views j ≡ some u)). others j u t.0 t.1) (at_set views id j w u e)

pub loads : (slots id : ℕ) (me : Me ℕ SeatView) (word : ℕ)
    → Allows IsLawful slots id me word (λ n. n) (λ n k. (k.1 ≡ me.1) × (k.0 ≡ loaded word n me.0) × (slice_index me.0.seen word ≤ n))
loads slots id me word s h size at small =
    let n : ℕ = slice_index s.words word in let w : SeatView = loaded word n me.0 in let old = h.1 id me.0 at in
    let same : set s.words word n ≡ s.words = set-get_or s.words word 0 in
    let mine : FitsSeat s.words h.0 id w = record { below = below_load me.0.seen s.words word old.below; owner_is = λ o. ((old.owner_is o).0, ap (λ l. set l word n) (old.owner_is o).1 ∙ same) } in (
      w,
      keeps,
      tt,
      (h.0, subst (λ ws. Fit ws h.0 (set s.views id w)) (sym same) (fit_set s.words s.words h.0 s.views id w mine (λ j u other e. h.1 j u e))),
      (refl, refl, old.below word),
    )

pub steps : (slots id : ℕ) (me : Me ℕ SeatView) (word : ℕ) → me.0.owns ≡ true → slice_index me.0.seen word < 2048
    → Allows IsLawful slots id me word (λ n. (n + 1) % 2 ^ 64) (λ n k. (k.1 ≡ me.1) × (k.0 ≡ stepped word me.0))
steps slots id me word owns few s h size at small =
    let n : ℕ = slice_index s.words word in let w : SeatView = stepped word me.0 in let old = (h.1 id me.0 at).owner_is owns in
    let known : slice_index me.0.seen word ≡ n = ap (λ l. slice_index l word) old.1 in
    let next : (n + 1) % 2 ^ 64 ≡ n + 1 = mod-eq_of_lt (omega arith) in
    let words' : List ℕ = set s.words word ((n + 1) % 2 ^ 64) in
    let is : w.seen ≡ words' = λ i. set (old.1 i) word ((ap (λ k. k + 1) known ∙ sym next) i) in
    let mine : FitsSeat words' h.0 id w = record { below = λ j. omega (arith, ap (λ l. slice_index l j) is); owner_is = λ o. (old.0, is) } in (
      w,
      keeps,
      tt,
      (
        h.0,
        fit_set s.words words' h.0 s.views id w mine
            (λ j u other e. let theirs = h.1 j u e in record { below = below_rise u.seen s.words word ((n + 1) % 2 ^ 64) theirs.below (omega (arith, next)); owner_is = λ o. absurd (other ((theirs.owner_is o).0 ∙ sym old.0)) }),
      ),
      (refl, refl),
    )

pub splits : (id : ℕ) (v : SeatView) → Splits IsLawful id v v (observer v)
splits id v s h at = (
  h.0,
  λ j u e. ⊎_elim (λ was. h.1 j u (subst (λ l. get_elem? l j ≡ some u) (set_again s.views id v at) was))
      (λ (is : observer v ≡ u). subst (λ (y : SeatView). FitsSeat s.words h.0 j y) is record { below = (h.1 id v at).below; owner_is = λ o. absurd (true≢false (sym o)) }) (at_snoc (set s.views id v) (observer v) u j e),
)

pub joins : (id : ℕ) (v : SeatView) (other : ℕ) (w : SeatView) → w.owns ≡ false → Joins IsLawful id v other w (joined v w) spent
joins id v other w plain s h at two at' =
    let both : SeatView = joined v w in let mine = h.1 id v at in
    let was : get_elem? s.views other ≡ some w = ⊎_elim (λ x. absurd (two x.0)) (λ x. x.1) (at_set s.views id other both w at') in let theirs = h.1 other w was in
    let now : FitsSeat s.words h.0 id both = record {
      below = λ j. let g = greater_at v.seen w.seen j in let a = mine.below j in let b = theirs.below j in omega arith;
      owner_is = λ o. ((mine.owner_is o).0, ap (λ l. greater l w.seen) (mine.owner_is o).1 ∙ greater_same s.words w.seen theirs.below);
    } in (
      h.0,
      fit_set s.words s.words h.0 (set s.views id both) other spent record { below = λ j. zero-le; owner_is = λ o. absurd (true≢false (sym o)) }
          (λ j u apart e. fit_set s.words s.words h.0 s.views id both now (λ k y _ f. h.1 k y f) j u e),
    )
