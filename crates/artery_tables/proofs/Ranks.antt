-- A stable sort by counts gives the entries as the definition ranks them.
use Rattle.std.proofs.Common.{◌≡◌, ℕ, zero, suc, ◌+◌, ◌≤◌, ◌<◌, Bool, true, false, cond, List, [], ◌∷◌, ◌++◌, length, get_or, drop, refl, sym, ◌∙◌, ap, subst, arith, true≢false}
use Rattle.std.specs.Prelude.{map, not, ◌&&◌, nat_lt, take}
use Rattle.std.specs.List.{filter, take-map}
use Rattle.std.specs.List.Sorted.{IsSortedBy, IsStableBy, ties}
use Rattle.std.specs.Cmp.{IsStrictWeakOrder}
use Rattle.std.proofs.lemmas.Bool.Decides.{nat_tests}
use Rattle.std.proofs.lemmas.List.Sorted.{IsStrictWeakOrder-by_number, IsStrictWeakOrder-flip, sorted_far}
use Rattle.std.specs.Borrow.{Bor}
use Rattle.std.specs.Fn.{Mut, Called, ComparesAs}
use Rattle.std.specs.Ordering.{is_lt, nat_cmp}
use Rattle.std.specs.declared.cmp.Ordering.{Ordering}
use Rattle.std.proofs.lemmas.Fn.{always_returns_same}
use Rattle.std.proofs.lemmas.List.{map-append, append_assoc}
use Rattle.artery_tables.specs.TopTable.{placed, ranked, first_ranked}

-- the first of two entries stands before the second where it is more frequent
abbrev pub before : {N : Type 0} → N × ℕ → N × ℕ → Bool
before x y = nat_lt y.1 x.1

pub before_orders : {N : Type 0} → IsStrictWeakOrder (before {N = N})
before_orders {N} = IsStrictWeakOrder-flip (λ (x y : N × ℕ). nat_lt x.1 y.1) (IsStrictWeakOrder-by_number (λ (x : N × ℕ). x.1))

module _ {X : Type 0} (lt : X → X → Bool) where
  -- none of them stands before x
  abbrev Under : X → List X → Type 0
  Under x [] = Unit {0}
  Under x (y ∷ ys) = (lt y x ≡ false) × Under x ys

  -- each is under those before it
  abbrev pub Falls : List X → Type 0
  Falls [] = Unit {0}
  Falls (x ∷ xs) = Under x xs × Falls xs

  under_of : (x : X) (xs : List X) → ((k : ℕ) → k < length xs → lt (get_or xs k x) x ≡ false) → Under x xs
  under_of x [] h = tt
  under_of x (y ∷ ys) h = (h 0 (omega arith), under_of x ys (λ k p. h (suc k) (omega arith)))

  falls_of : (xs : List X) → ((i j : ℕ) (d : X) → i ≤ j → j < length xs → lt (get_or xs j d) (get_or xs i d) ≡ false) → Falls xs
  falls_of [] h = tt
  falls_of (x ∷ xs) h = (under_of x xs (λ k p. h 0 (suc k) x (omega arith) (omega arith)), falls_of xs (λ i j d p q. h (suc i) (suc j) d (omega arith) (omega arith)))

  -- one that a test keeps is under x too
  kept_under : (x w : X) (test : X → Bool) (xs r : List X) → Under x xs → filter test xs ≡ w ∷ r → lt w x ≡ false
  kept_under x w test [] r u e = absurd (no_cons e)
    where
      no_cons : [] ≡ w ∷ r → ⊥
      no_cons q = cc
  kept_under x w test (y ∷ ys) r u e = by (test y) e (kept_under x w test ys r u.1)
    where
      by : (b : Bool) → cond b (y ∷ filter test ys) (filter test ys) ≡ w ∷ r → (filter test ys ≡ w ∷ r → lt w x ≡ false) → lt w x ≡ false
      by true q rest = (let is : y ≡ w = cc in subst (λ z. lt z x ≡ false) is u.0)
      by false q rest = rest q

  ties_both : (x y : X) → lt x y ≡ false → lt y x ≡ false → ties lt x y ≡ true
  ties_both x y p q = λ i. not (p i) && not (q i)

  module _ (order : IsStrictWeakOrder lt) where
    not_self : (x : X) → lt x x ≡ false
    not_self x = by (lt x x) refl
      where
        by : (b : Bool) → lt x x ≡ b → b ≡ false
        by true e = (let f : lt x x ≡ false = order.one_way x x e in sym e ∙ f)
        by false e = refl

    ties_self : (x : X) → ties lt x x ≡ true
    ties_self x = ties_both x x (not_self x) (not_self x)

    -- two falling lists with the same elements of each rank are one
    pub one_falling : (ys zs : List X) → Falls ys → Falls zs → ((x : X) → filter (ties lt x) ys ≡ filter (ties lt x) zs) → ys ≡ zs
    one_falling [] [] p q h = refl
    one_falling [] (z ∷ zs) p q h = absurd (no_cons (h z ∙ ap (λ (b : Bool). cond b (z ∷ filter (ties lt z) zs) (filter (ties lt z) zs)) (ties_self z)))
      where
        no_cons : [] ≡ z ∷ filter (ties lt z) zs → ⊥
        no_cons e = cc
    one_falling (y ∷ ys) [] p q h = absurd (no_cons (sym (h y) ∙ ap (λ (b : Bool). cond b (y ∷ filter (ties lt y) ys) (filter (ties lt y) ys)) (ties_self y)))
      where
        no_cons : [] ≡ y ∷ filter (ties lt y) ys → ⊥
        no_cons e = cc
    one_falling (y ∷ ys) (z ∷ zs) p q h = by (ties lt y z) refl (one_falling ys zs p.1 q.1)
      where
        own_y : filter (ties lt y) (y ∷ ys) ≡ y ∷ filter (ties lt y) ys
        own_y = ap (λ (b : Bool). cond b (y ∷ filter (ties lt y) ys) (filter (ties lt y) ys)) (ties_self y)

        own_z : filter (ties lt z) (z ∷ zs) ≡ z ∷ filter (ties lt z) zs
        own_z = ap (λ (b : Bool). cond b (z ∷ filter (ties lt z) zs) (filter (ties lt z) zs)) (ties_self z)

        tail_of : {a b : X} {us vs : List X} → a ∷ us ≡ b ∷ vs → us ≡ vs
        tail_of e = cc

        head_of : {a b : X} {us vs : List X} → a ∷ us ≡ b ∷ vs → a ≡ b
        head_of e = cc

        uncond : (b : Bool) (us vs : List X) → cond b (y ∷ us) us ≡ cond b (y ∷ vs) vs → us ≡ vs
        uncond true us vs e = tail_of e
        uncond false us vs e = e

        flip : (a b : Bool) → (not a && not b) ≡ false → (not b && not a) ≡ false
        flip true true k = refl
        flip true false k = refl
        flip false true k = refl
        flip false false k = k

        by : (b : Bool) → ties lt y z ≡ b → (((x : X) → filter (ties lt x) ys ≡ filter (ties lt x) zs) → ys ≡ zs) → y ∷ ys ≡ z ∷ zs
        by true e tails_of =
            let there : filter (ties lt y) (z ∷ zs) ≡ z ∷ filter (ties lt y) zs = ap (λ (b : Bool). cond b (z ∷ filter (ties lt y) zs) (filter (ties lt y) zs)) e in
            let is : y ≡ z = head_of (sym own_y ∙ h y ∙ there) in
            let rest : (x : X) → filter (ties lt x) ys ≡ filter (ties lt x) zs = λ x. uncond (ties lt x y) _ _ (h x ∙ ap (λ (w : X). cond (ties lt x w) (w ∷ filter (ties lt x) zs) (filter (ties lt x) zs)) (sym is)) in
            let tails : ys ≡ zs = tails_of rest in
            ap (λ (w : X). w ∷ ys) is ∙ ap (λ (l : List X). z ∷ l) tails
        by false e tails_of =
            let away : filter (ties lt y) (z ∷ zs) ≡ filter (ties lt y) zs = ap (λ (b : Bool). cond b (z ∷ filter (ties lt y) zs) (filter (ties lt y) zs)) e in
            let below : lt y z ≡ false = kept_under z y (ties lt y) zs _ q.0 (sym away ∙ sym (h y) ∙ own_y) in
            let back : ties lt z y ≡ false = flip (lt y z) (lt z y) e in
            let away_z : filter (ties lt z) (y ∷ ys) ≡ filter (ties lt z) ys = ap (λ (b : Bool). cond b (y ∷ filter (ties lt z) ys) (filter (ties lt z) ys)) back in
            let above : lt z y ≡ false = kept_under y z (ties lt z) ys _ p.0 (sym away_z ∙ h z ∙ own_z) in
            absurd (true≢false (sym (ties_both y z below above) ∙ e))

compared : (a b : ℕ) → is_lt (nat_cmp a b) ≡ nat_lt a b
compared a b = grind (arith, nat_tests)

module _ {N : Type 0} where
  under_placed : (x e : N × ℕ) (es : List (N × ℕ)) → before e x ≡ false → Under before x es → Under before x (placed e es)
  under_placed x e [] h u = (h, tt)
  under_placed x e (o ∷ os) h u = by (nat_lt e.1 o.1) (under_placed x e os h u.1)
    where
      by : (b : Bool) → Under before x (placed e os) → Under before x (cond b (o ∷ placed e os) (e ∷ o ∷ os))
      by true r = (u.0, r)
      by false r = (h, u)

  under_less : (x e : N × ℕ) (es : List (N × ℕ)) → before e x ≡ false → Under before e es → Under before x es
  under_less x e [] h u = tt
  under_less x e (o ∷ os) h u = ((let a : before o e ≡ false = u.0 in grind (arith, nat_tests)), under_less x e os h u.1)

  falls_placed : (e : N × ℕ) (es : List (N × ℕ)) → Falls before es → Falls before (placed e es)
  falls_placed e [] f = (tt, tt)
  falls_placed e (o ∷ os) f = by (nat_lt e.1 o.1) refl (falls_placed e os f.1)
    where
      by : (b : Bool) → nat_lt e.1 o.1 ≡ b → Falls before (placed e os) → Falls before (cond b (o ∷ placed e os) (e ∷ o ∷ os))
      by true q r = (under_placed o e os (grind (arith, nat_tests)) f.0, r)
      by false q r = ((q, under_less e o os q f.0), f)

  pub falls_ranked : (es : List (N × ℕ)) → Falls before (ranked es)
  falls_ranked [] = tt
  falls_ranked (e ∷ es) = falls_placed e (ranked es) (falls_ranked es)

  swap_kept : (a b : Bool) (e o : N × ℕ) (l : List (N × ℕ)) → ((a ≡ true) → (b ≡ true) → ⊥) → cond b (o ∷ cond a (e ∷ l) l) (cond a (e ∷ l) l) ≡ cond a (e ∷ cond b (o ∷ l) l) (cond b (o ∷ l) l)
  swap_kept true true e o l h = absurd (h refl refl)
  swap_kept true false e o l h = refl
  swap_kept false true e o l h = refl
  swap_kept false false e o l h = refl

  same_rank : (x y : N × ℕ) → ties before x y ≡ true → x.1 ≡ y.1
  same_rank x y h = grind (arith, nat_tests)

  kept_placed : (x e : N × ℕ) (es : List (N × ℕ)) → filter (ties before x) (placed e es) ≡ filter (ties before x) (e ∷ es)
  kept_placed x e [] = refl
  kept_placed x e (o ∷ os) = by (nat_lt e.1 o.1) refl (kept_placed x e os)
    where
      l : List (N × ℕ)
      l = filter (ties before x) os

      by : (b : Bool) → nat_lt e.1 o.1 ≡ b → filter (ties before x) (placed e os) ≡ filter (ties before x) (e ∷ os) → filter (ties before x) (cond b (o ∷ placed e os) (e ∷ o ∷ os)) ≡ filter (ties before x) (e ∷ o ∷ os)
      by true q rest =
          ap (λ (r : List (N × ℕ)). cond (ties before x o) (o ∷ r) r) rest
          ∙ swap_kept (ties before x e) (ties before x o) e o l (λ a b. let p : x.1 ≡ e.1 = same_rank x e a in let r : x.1 ≡ o.1 = same_rank x o b in grind (arith, nat_tests))
      by false q rest = refl

  pub kept_ranked : (x : N × ℕ) (es : List (N × ℕ)) → filter (ties before x) (ranked es) ≡ filter (ties before x) es
  kept_ranked x [] = refl
  kept_ranked x (e ∷ es) = kept_placed x e (ranked es) ∙ ap (λ (r : List (N × ℕ)). cond (ties before x e) (e ∷ r) r) (kept_ranked x es)

  -- a stable sort ranks
  pub sort_ranks : (xs ys : List (N × ℕ)) → IsSortedBy before ys → IsStableBy before xs ys → ys ≡ ranked xs
  sort_ranks xs ys up stable =
      one_falling before before_orders ys (ranked xs) (falls_of before ys (sorted_far before before_orders ys up)) (falls_ranked xs) (λ x. stable x ∙ sym (kept_ranked x xs))

  -- so does `sort_by` with a closure that compares the counts, the greater first
  pub sort_by_ranks : {F : Type 0} {g : Mut F (Bor (N × ℕ) × (Bor (N × ℕ) × Unit {0})) Ordering} {f : F} (xs ys : List (N × ℕ))
      → ((lt : N × ℕ → N × ℕ → Bool) → IsStrictWeakOrder lt → ComparesAs g lt f → IsSortedBy lt ys)
      → ((lt : N × ℕ → N × ℕ → Bool) → IsStrictWeakOrder lt → ComparesAs g lt f → IsStableBy lt xs ys)
      → ((a : Bor (N × ℕ) × (Bor (N × ℕ) × Unit {0})) (r : Ordering) (f' : F) → Called g f a r f' → (r ≡ nat_cmp a.1.0.now.1 a.0.now.1) × (f' ≡ f)) → ys ≡ ranked xs
  sort_by_ranks {g = g} {f = f} xs ys up stable h =
      let by = always_returns_same g (λ a r. is_lt r ≡ before a.0.now a.1.0.now) f (λ a r f' k. (ap is_lt (h a r f' k).0 ∙ compared a.1.0.now.1 a.0.now.1, (h a r f' k).1)) in
      sort_ranks xs ys (up before before_orders by) (stable before before_orders by)

-- ranking looks at the counts alone
module _ {M N : Type 0} (f : M → N) where
  abbrev on_name : M × ℕ → N × ℕ
  on_name e = (f e.0, e.1)

  map_placed : (e : M × ℕ) (es : List (M × ℕ)) → map on_name (placed e es) ≡ placed (on_name e) (map on_name es)
  map_placed e [] = refl
  map_placed e (o ∷ os) = by (nat_lt e.1 o.1) (map_placed e os)
    where
      by : (b : Bool) → map on_name (placed e os) ≡ placed (on_name e) (map on_name os) → map on_name (cond b (o ∷ placed e os) (e ∷ o ∷ os)) ≡ cond b (on_name o ∷ placed (on_name e) (map on_name os)) (on_name e ∷ on_name o ∷ map on_name os)
      by true rest = ap (λ (r : List (N × ℕ)). on_name o ∷ r) rest
      by false rest = refl

  pub map_ranked : (es : List (M × ℕ)) → map on_name (ranked es) ≡ ranked (map on_name es)
  map_ranked [] = refl
  map_ranked (e ∷ es) = map_placed e (ranked es) ∙ ap (placed (on_name e)) (map_ranked es)

-- a loop's step: the first of what is left goes to the end of what is done
pub one_more : {M N : Type 0} (f : M → N) (done : List M) (x : M) (left rest all : List N) → map f done ++ left ≡ all → left ≡ f x ∷ rest → map f (done ++ x ∷ []) ++ rest ≡ all
one_more f done x left rest all h is =
    ap (λ l. l ++ rest) (map-append f done (x ∷ [])) ∙ append_assoc (map f done) (f x ∷ []) rest ∙ ap (λ l. map f done ++ l) (sym is) ∙ h

-- the names of the first entries that a sort left
pub first_names : (names : List (Bor (List ℕ) × ℕ)) (entries : List (List ℕ × ℕ)) → map (λ (e : Bor (List ℕ) × ℕ). (e.0.now, e.1)) names ≡ ranked entries
    → map (λ (e : Bor (List ℕ) × ℕ). e.0.now) (take 256 names) ≡ first_ranked entries
first_names names entries h =
    sym (ap (λ (l : List (List ℕ × ℕ)). map (λ (e : List ℕ × ℕ). e.0) (take 256 l)) (sym h) ∙ ap (map (λ (e : List ℕ × ℕ). e.0)) (take-map (λ (e : Bor (List ℕ) × ℕ). (e.0.now, e.1)) 256 names) ∙ map_map (take 256 names))
  where
    map_map : (l : List (Bor (List ℕ) × ℕ)) → map (λ (e : List ℕ × ℕ). e.0) (map (λ (e : Bor (List ℕ) × ℕ). (e.0.now, e.1)) l) ≡ map (λ (e : Bor (List ℕ) × ℕ). e.0.now) l
    map_map [] = refl
    map_map (x ∷ l) = ap (λ r. x.0.now ∷ r) (map_map l)

drop_at : {X : Type 0} (xs : List X) (i : ℕ) (x : X) → i < length xs → x ≡ get_or xs i x → drop i xs ≡ x ∷ drop (suc i) xs
drop_at [] i x h e = (let f : ⊥ = omega arith in absurd f)
drop_at (y ∷ ys) zero x h e = ap (λ z. z ∷ ys) (sym e)
drop_at (y ∷ ys) (suc i) x h e = drop_at ys i x (omega arith) e

-- a loop's step: the name at an index goes to the end of the copies
pub one_copy : (ranked : List (Bor (List ℕ) × ℕ)) (names left : List (List ℕ)) (i : ℕ) (named : Bor (List ℕ) × ℕ) → i < length ranked → named ≡ get_or ranked i named → left ≡ names ++ named.0.now ∷ []
    → names ++ map (λ (e : Bor (List ℕ) × ℕ). e.0.now) (drop i ranked) ≡ map (λ (e : Bor (List ℕ) × ℕ). e.0.now) ranked
    → left ++ map (λ (e : Bor (List ℕ) × ℕ). e.0.now) (drop (i + 1) ranked) ≡ map (λ (e : Bor (List ℕ) × ℕ). e.0.now) ranked
one_copy ranked names left i named h at is so_far =
    let g : Bor (List ℕ) × ℕ → List ℕ = λ e. e.0.now in
    let next : i + 1 ≡ suc i = omega arith in
    ap (λ (n : ℕ). left ++ map g (drop n ranked)) next
    ∙ ap (λ (l : List (List ℕ)). l ++ map g (drop (suc i) ranked)) is
    ∙ append_assoc names (named.0.now ∷ []) (map g (drop (suc i) ranked))
    ∙ ap (λ (l : List (Bor (List ℕ) × ℕ)). names ++ map g l) (sym (drop_at ranked i named h at))
    ∙ so_far
