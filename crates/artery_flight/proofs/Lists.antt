-- Lists that are searched, counted and changed by name.
use Rattle.std.proofs.Common.{◌≡◌, ℕ, zero, suc, ◌+◌, ◌≤◌, Bool, true, false, ◌&&◌, cond, List, [], ◌∷◌, ◌++◌, length, map, refl, sym, ◌∙◌, ap, subst, arith, append_assoc}
use Rattle.std.specs.Prelude.{Option, None, Some, ◌==◌, nat_lt, not, find, filter, flat_map, remove, position, slice_get, slice_set}
use Rattle.std.specs.List.{position_or_len}
use Rattle.artery_base.specs.Words.{IsPrefix}
use Rattle.artery_machine.specs.Lists.{change_first}
use Rattle.std.proofs.lemmas.Bool.Decides.{nat_tests}

-- ---- cases

pub by_test : {P : Type 0} (b : Bool) → (b ≡ true → P) → (b ≡ false → P) → P
by_test true f g = f refl
by_test false f g = g refl

pub by_option : {X P : Type 0} (o : Option X) → (o ≡ None → P) → ((x : X) → o ≡ Some x → P) → P
by_option None f g = f refl
by_option (Some x) f g = g x refl

pub on_cond : {X : Type 0} (P : X → Type 0) (b : Bool) (x y : X) → (b ≡ true → P x) → (b ≡ false → P y) → P (cond b x y)
on_cond P true x y f g = f refl
on_cond P false x y f g = g refl

pub not_both : {P : Type 0} {b : Bool} → b ≡ true → b ≡ false → P
not_both h k = cc

pub eq_true : (x y : ℕ) → (x == y) ≡ true → x ≡ y
eq_true x y h = grind (arith, nat_tests)

pub eq_self : (x : ℕ) → (x == x) ≡ true
eq_self x = grind (arith, nat_tests)

pub eq_false : (x y : ℕ) → (x ≡ y → ⊥) → (x == y) ≡ false
eq_false x y h = by_test (x == y) (λ e. absurd (h (eq_true x y e))) (λ e. e)

pub eq_not : {P : Type 0} (x y : ℕ) → (x == y) ≡ false → x ≡ y → P
eq_not x y h e = not_both (let t : (x == y) ≡ true = subst (λ (z : ℕ). (x == z) ≡ true) e (eq_self x) in t) h

pub and_left : (a b : Bool) → (a && b) ≡ true → a ≡ true
and_left true b h = refl
and_left false b h = h

pub and_right : (a b : Bool) → (a && b) ≡ true → b ≡ true
and_right true b h = h
and_right false b h = cc

pub and_both : (a b : Bool) → a ≡ true → b ≡ true → (a && b) ≡ true
and_both a b h k = ap (λ (x : Bool). x && b) h ∙ k

pub some_same : {X : Type 0} {x y : X} → Some x ≡ Some y → x ≡ y
some_same h = cc

pub not_some : {X P : Type 0} {x : X} → None ≡ Some x → P
not_some h = cc

-- ---- a fact of each element

abbrev pub Each : {X : Type 0} → (X → Type 0) → List X → Type 0
Each P [] = Unit {0}
Each P (x ∷ xs) = P x × Each P xs

pub each_weaker : {X : Type 0} (P Q : X → Type 0) → ((x : X) → P x → Q x) → (xs : List X) → Each P xs → Each Q xs
each_weaker P Q f [] h = tt
each_weaker P Q f (x ∷ xs) h = (f x h.0, each_weaker P Q f xs h.1)

pub each_push : {X : Type 0} (P : X → Type 0) (xs : List X) (y : X) → Each P xs → P y → Each P (xs ++ y ∷ [])
each_push P [] y h k = (k, tt)
each_push P (x ∷ xs) y h k = (h.0, each_push P xs y h.1 k)

pub each_get : {X : Type 0} (P : X → Type 0) (xs : List X) (i : ℕ) (x : X) → Each P xs → slice_get xs i ≡ Some x → P x
each_get P [] i x h e = not_some e
each_get P (y ∷ xs) zero x h e = subst P (some_same e) h.0
each_get P (y ∷ xs) (suc i) x h e = each_get P xs i x h.1 e

pub each_set : {X : Type 0} (P : X → Type 0) (xs : List X) (i : ℕ) (y : X) → Each P xs → P y → Each P (slice_set xs i y)
each_set P [] i y h k = tt
each_set P (x ∷ xs) zero y h k = (k, h.1)
each_set P (x ∷ xs) (suc i) y h k = (h.0, each_set P xs i y h.1 k)

pub each_find : {X : Type 0} (P : X → Type 0) (t : X → Bool) (xs : List X) (x : X) → Each P xs → find t xs ≡ Some x → P x
each_find P t [] x h e = not_some e
each_find {X} P t (y ∷ xs) x h e = by (t y) e (λ g. each_find P t xs x h.1 g)
  where
    by : (b : Bool) → cond b (Some y) (find t xs) ≡ Some x → (find t xs ≡ Some x → P x) → P x
    by true g rest = subst P (some_same g) h.0
    by false g rest = rest g

pub each_filter : {X : Type 0} (P : X → Type 0) (t : X → Bool) (xs : List X) → Each P xs → Each P (filter t xs)
each_filter P t [] h = tt
each_filter P t (x ∷ xs) h = on_cond (Each P) (t x) (x ∷ filter t xs) (filter t xs) (λ e. (h.0, each_filter P t xs h.1)) (λ e. each_filter P t xs h.1)

pub each_map : {X : Type 0} (P Q : X → Type 0) (g : X → X) → ((x : X) → P x → Q (g x)) → (xs : List X) → Each P xs → Each Q (map g xs)
each_map P Q g f [] h = tt
each_map P Q g f (x ∷ xs) h = (f x h.0, each_map P Q g f xs h.1)

-- each element stands at a place
pub each_of : {X : Type 0} (P : X → Type 0) (xs : List X) → ((i : ℕ) (x : X) → slice_get xs i ≡ Some x → P x) → Each P xs
each_of P [] f = tt
each_of P (x ∷ xs) f = (f 0 x refl, each_of P xs (λ i y e. f (suc i) y e))

-- the first that passes is changed
pub each_change : {X : Type 0} (P : X → Type 0) (t : X → Bool) (g : X → X) (xs : List X) → ((x : X) → find t xs ≡ Some x → P x → P (g x)) → Each P xs → Each P (change_first t g xs)
each_change P t g [] f h = tt
each_change {X} P t g (x ∷ xs) f h = by (t x) refl (λ k. each_change P t g xs k h.1)
  where
    by : (b : Bool) → t x ≡ b → (((y : X) → find t xs ≡ Some y → P y → P (g y)) → Each P (change_first t g xs)) → Each P (cond b (g x ∷ xs) (x ∷ change_first t g xs))
    by true e rest = (f x (ap (λ (b : Bool). cond b (Some x) (find t xs)) e) h.0, h.1)
    by false e rest = (h.0, rest (λ y k. f y (ap (λ (b : Bool). cond b (Some x) (find t xs)) e ∙ k)))

-- ---- how many pass a test

abbrev pub count : {X : Type 0} → (X → Bool) → List X → ℕ
count p [] = 0
count p (x ∷ xs) = cond (p x) (suc (count p xs)) (count p xs)

pub count_yes : {X : Type 0} (p : X → Bool) (xs : List X) (y : X) → p y ≡ true → count p (xs ++ y ∷ []) ≡ count p xs + 1
count_yes p [] y h = ap (λ (b : Bool). cond b 1 0) h
count_yes {X} p (x ∷ xs) y h = by (p x) (count_yes p xs y h)
  where
    by : (b : Bool) → count p (xs ++ y ∷ []) ≡ count p xs + 1 → cond b (suc (count p (xs ++ y ∷ []))) (count p (xs ++ y ∷ [])) ≡ cond b (suc (count p xs)) (count p xs) + 1
    by true k = omega arith
    by false k = k

pub count_no : {X : Type 0} (p : X → Bool) (xs : List X) (y : X) → p y ≡ false → count p (xs ++ y ∷ []) ≡ count p xs
count_no p [] y h = ap (λ (b : Bool). cond b 1 0) h
count_no {X} p (x ∷ xs) y h = ap (λ (n : ℕ). cond (p x) (suc n) n) (count_no p xs y h)

pub count_set : {X : Type 0} (p : X → Bool) (xs : List X) (i : ℕ) (x y : X) → slice_get xs i ≡ Some x → p y ≡ p x → count p (slice_set xs i y) ≡ count p xs
count_set p [] i x y e h = refl
count_set p (z ∷ xs) zero x y e h = ap (λ (b : Bool). cond b (suc (count p xs)) (count p xs)) (h ∙ ap p (sym (some_same e)))
count_set p (z ∷ xs) (suc i) x y e h = ap (λ (n : ℕ). cond (p z) (suc n) n) (count_set p xs i x y e h)

pub count_map : {X : Type 0} (p : X → Bool) (g : X → X) → ((x : X) → p (g x) ≡ p x) → (xs : List X) → count p (map g xs) ≡ count p xs
count_map p g h [] = refl
count_map p g h (x ∷ xs) = ap (λ (b : Bool). cond b (suc (count p (map g xs))) (count p (map g xs))) (h x) ∙ ap (λ (n : ℕ). cond (p x) (suc n) n) (count_map p g h xs)

pub count_filter : {X : Type 0} (p f : X → Bool) (xs : List X) → count p (filter f xs) ≤ count p xs
count_filter p f [] = omega arith
count_filter {X} p f (x ∷ xs) = by (f x) (p x) refl (count_filter p f xs)
  where
    by : (b c : Bool) → p x ≡ c → count p (filter f xs) ≤ count p xs → count p (cond b (x ∷ filter f xs) (filter f xs)) ≤ cond c (suc (count p xs)) (count p xs)
    by true true e k = (let t : count p (x ∷ filter f xs) ≡ suc (count p (filter f xs)) = ap (λ (b : Bool). cond b (suc (count p (filter f xs))) (count p (filter f xs))) e in omega arith)
    by true false e k = (let t : count p (x ∷ filter f xs) ≡ count p (filter f xs) = ap (λ (b : Bool). cond b (suc (count p (filter f xs))) (count p (filter f xs))) e in omega arith)
    by false true e k = omega arith
    by false false e k = k

pub count_change : {X : Type 0} (p t : X → Bool) (g : X → X) → ((x : X) → p (g x) ≡ p x) → (xs : List X) → count p (change_first t g xs) ≡ count p xs
count_change p t g h [] = refl
count_change {X} p t g h (x ∷ xs) = by (t x) (count_change p t g h xs)
  where
    by : (b : Bool) → count p (change_first t g xs) ≡ count p xs → count p (cond b (g x ∷ xs) (x ∷ change_first t g xs)) ≡ count p (x ∷ xs)
    by true k = ap (λ (b : Bool). cond b (suc (count p xs)) (count p xs)) (h x)
    by false k = ap (λ (n : ℕ). cond (p x) (suc n) n) k

pub count_none : {X : Type 0} (p : X → Bool) (xs : List X) → Each (λ x. p x ≡ false) xs → count p xs ≡ 0
count_none p [] h = refl
count_none p (x ∷ xs) h = ap (λ (b : Bool). cond b (suc (count p xs)) (count p xs)) h.0 ∙ count_none p xs h.1

pub none_count : {X : Type 0} (p : X → Bool) (xs : List X) → count p xs ≡ 0 → Each (λ x. p x ≡ false) xs
none_count p [] h = tt
none_count {X} p (x ∷ xs) h = by (p x) refl h (λ g. none_count p xs g)
  where
    by : (b : Bool) → p x ≡ b → cond b (suc (count p xs)) (count p xs) ≡ 0 → (count p xs ≡ 0 → Each (λ y. p y ≡ false) xs) → (p x ≡ false) × Each (λ y. p y ≡ false) xs
    by true e g rest = absurd (let t : suc (count p xs) ≡ 0 = g in omega arith)
    by false e g rest = (e, rest g)

pub count_here : {X : Type 0} (p : X → Bool) (xs : List X) (i : ℕ) (x : X) → slice_get xs i ≡ Some x → p x ≡ true → 1 ≤ count p xs
count_here p [] i x e h = not_some e
count_here p (y ∷ xs) zero x e h = (let t : count p (y ∷ xs) ≡ suc (count p xs) = ap (λ (b : Bool). cond b (suc (count p xs)) (count p xs)) (ap p (some_same e) ∙ h) in omega arith)
count_here {X} p (y ∷ xs) (suc i) x e h = by (p y) (count_here p xs i x e h)
  where
    by : (b : Bool) → 1 ≤ count p xs → 1 ≤ cond b (suc (count p xs)) (count p xs)
    by true k = omega arith
    by false k = k

pub count_found : {X : Type 0} (p q : X → Bool) (xs : List X) (x : X) → find q xs ≡ Some x → p x ≡ true → 1 ≤ count p xs
count_found p q [] x e h = not_some e
count_found {X} p q (y ∷ xs) x e h = by (q y) (p y) refl e (λ g. count_found p q xs x g h)
  where
    by : (b c : Bool) → p y ≡ c → cond b (Some y) (find q xs) ≡ Some x → (find q xs ≡ Some x → 1 ≤ count p xs) → 1 ≤ cond c (suc (count p xs)) (count p xs)
    by true true g k rest = omega arith
    by true false g k rest = not_both (ap p (some_same k) ∙ h) g
    by false true g k rest = omega arith
    by false false g k rest = rest k

-- one that passes both tests is the first that passes the one, where only one passes that
pub find_single : {X : Type 0} (p q : X → Bool) (xs : List X) (x : X) → count p xs ≤ 1 → find q xs ≡ Some x → p x ≡ true → find p xs ≡ Some x
find_single p q [] x n e h = not_some e
find_single {X} p q (y ∷ xs) x n e h = by (q y) (p y) refl n e (λ m k. find_single p q xs x m k h)
  where
    by : (b c : Bool) → p y ≡ c → cond c (suc (count p xs)) (count p xs) ≤ 1 → cond b (Some y) (find q xs) ≡ Some x → (count p xs ≤ 1 → find q xs ≡ Some x → find p xs ≡ Some x) → find p (y ∷ xs) ≡ Some x
    by true true g m k rest = ap (λ (b : Bool). cond b (Some y) (find p xs)) g ∙ k
    by true false g m k rest = not_both (ap p (some_same k) ∙ h) g
    by false true g m k rest = absurd (let t : 1 ≤ count p xs = count_found p q xs x k h in let s : suc (count p xs) ≤ 1 = m in omega arith)
    by false false g m k rest = ap (λ (b : Bool). cond b (Some y) (find p xs)) g ∙ rest m k

-- where only one passes, two places of those that pass are the same
pub place_single : {X : Type 0} (p : X → Bool) (xs : List X) (i j : ℕ) (x y : X) → count p xs ≤ 1 → slice_get xs i ≡ Some x → slice_get xs j ≡ Some y → p x ≡ true → p y ≡ true → i ≡ j
place_single p [] i j x y n e f h k = not_some e
place_single p (z ∷ xs) zero zero x y n e f h k = refl
place_single p (z ∷ xs) zero (suc j) x y n e f h k =
    absurd (let s : 1 ≤ count p xs = count_here p xs j y f k in
    let t : count p (z ∷ xs) ≡ suc (count p xs) = ap (λ (b : Bool). cond b (suc (count p xs)) (count p xs)) (ap p (some_same e) ∙ h) in
    let u : count p (z ∷ xs) ≤ 1 = n in omega arith)
place_single p (z ∷ xs) (suc i) zero x y n e f h k =
    absurd (let s : 1 ≤ count p xs = count_here p xs i x e h in
    let t : count p (z ∷ xs) ≡ suc (count p xs) = ap (λ (b : Bool). cond b (suc (count p xs)) (count p xs)) (ap p (some_same f) ∙ k) in
    let u : count p (z ∷ xs) ≤ 1 = n in omega arith)
place_single {X} p (z ∷ xs) (suc i) (suc j) x y n e f h k = ap suc (place_single p xs i j x y (by (p z) n) e f h k)
  where
    by : (b : Bool) → cond b (suc (count p xs)) (count p xs) ≤ 1 → count p xs ≤ 1
    by true m = (let t : suc (count p xs) ≤ 1 = m in omega arith)
    by false m = m

count_append : {X : Type 0} (p : X → Bool) (xs ys : List X) → count p (xs ++ ys) ≡ count p xs + count p ys
count_append p [] ys = omega arith
count_append {X} p (x ∷ xs) ys = by (p x) (count_append p xs ys)
  where
    by : (b : Bool) → count p (xs ++ ys) ≡ count p xs + count p ys → cond b (suc (count p (xs ++ ys))) (count p (xs ++ ys)) ≡ cond b (suc (count p xs)) (count p xs) + count p ys
    by true h = omega arith
    by false h = h

-- one is taken away
pub count_remove : {X : Type 0} (p : X → Bool) (xs : List X) (i : ℕ) (x : X) → slice_get xs i ≡ Some x → count p (remove xs i) + cond (p x) 1 0 ≡ count p xs
count_remove p [] i x e = not_some e
count_remove {X} p (y ∷ xs) zero x e = subst (λ (z : X). count p xs + cond (p z) 1 0 ≡ count p (y ∷ xs)) (some_same e) (by (p y))
  where
    by : (b : Bool) → count p xs + cond b 1 0 ≡ cond b (suc (count p xs)) (count p xs)
    by true = omega arith
    by false = omega arith
count_remove {X} p (y ∷ xs) (suc i) x e = by (p y) (count_remove p xs i x e)
  where
    by : (b : Bool) → count p (remove xs i) + cond (p x) 1 0 ≡ count p xs → cond b (suc (count p (remove xs i))) (count p (remove xs i)) + cond (p x) 1 0 ≡ cond b (suc (count p xs)) (count p xs)
    by true h = omega arith
    by false h = h

-- ---- finding

pub find_passes : {X : Type 0} (p : X → Bool) (xs : List X) (x : X) → find p xs ≡ Some x → p x ≡ true
find_passes p [] x h = cc
find_passes {X} p (y ∷ ys) x h = by (p y) refl h (find_passes p ys x)
  where
    by : (b : Bool) → p y ≡ b → cond b (Some y) (find p ys) ≡ Some x → (find p ys ≡ Some x → p x ≡ true) → p x ≡ true
    by true e g rest = let same : y ≡ x = cc in subst (λ (z : X). p z ≡ true) same e
    by false e g rest = rest g

at_front : {X : Type 0} (p : X → Bool) (ys : List X) (y : X) → slice_get ys (position_or_len p ys) ≡ Some y → p y ≡ true
at_front p [] y g = not_some g
at_front {X} p (z ∷ ys) y g = front (p z) refl g (λ f. at_front p ys y f)
  where
    front : (b : Bool) → p z ≡ b → slice_get (z ∷ ys) (cond (not b) (1 + position_or_len p ys) 0) ≡ Some y → (slice_get ys (position_or_len p ys) ≡ Some y → p y ≡ true) → p y ≡ true
    front true k f rest = subst (λ (w : X). p w ≡ true) (some_same f) k
    front false k f rest = rest (ap (slice_get (z ∷ ys)) (let e : suc (position_or_len p ys) ≡ 1 + position_or_len p ys = omega arith in e) ∙ f)

-- where none is found, none passes
pub no_place : {X P : Type 0} (t : X → Bool) (xs : List X) (i : ℕ) (x : X) → find t xs ≡ None → slice_get xs i ≡ Some x → t x ≡ true → P
no_place t [] i x h e g = not_some e
no_place {X} {P} t (y ∷ xs) i x h e g = by (t y) refl h i e (λ k j f. no_place t xs j x k f g)
  where
    by : (b : Bool) → t y ≡ b → cond b (Some y) (find t xs) ≡ None → (j : ℕ) → slice_get (y ∷ xs) j ≡ Some x → (find t xs ≡ None → (k : ℕ) → slice_get xs k ≡ Some x → P) → P
    by true q k j f rest = not_some (sym k)
    by false q k zero f rest = not_both (subst (λ (z : X). t z ≡ true) (sym (some_same f)) g) q
    by false q k (suc j) f rest = rest k j f

-- the first that passes is found again once it changed
pub find_change : {X : Type 0} (t : X → Bool) (g : X → X) → ((x : X) → t x ≡ true → t (g x) ≡ true) → (xs : List X) (x : X) → find t xs ≡ Some x → find t (change_first t g xs) ≡ Some (g x)
find_change t g h [] x e = not_some e
find_change {X} t g h (y ∷ xs) x e = by (t y) refl e (λ k. find_change t g h xs x k)
  where
    by : (b : Bool) → t y ≡ b → cond b (Some y) (find t xs) ≡ Some x → (find t xs ≡ Some x → find t (change_first t g xs) ≡ Some (g x)) → find t (cond b (g y ∷ xs) (y ∷ change_first t g xs)) ≡ Some (g x)
    by true k f rest = ap (λ (b : Bool). cond b (Some (g y)) (find t xs)) (h y k) ∙ ap (λ (z : X). Some (g z)) (some_same f)
    by false k f rest = ap (λ (b : Bool). cond b (Some y) (find t (change_first t g xs))) k ∙ rest f

-- what stands at the place of the first that passes, passes
pub position_passes : {X : Type 0} (p : X → Bool) (xs : List X) (i : ℕ) (x : X) → position p xs ≡ Some i → slice_get xs i ≡ Some x → p x ≡ true
position_passes {X} p xs i x h e = by_cond (nat_lt (position_or_len p xs) (length xs)) h
  where
    by_cond : (b : Bool) → cond b (Some (position_or_len p xs)) None ≡ Some i → p x ≡ true
    by_cond true g = at_front p xs x (ap (slice_get xs) (some_same g) ∙ e)
    by_cond false g = not_some g

-- the only one that passes changes, and the others stay
pub each_single : {X : Type 0} (P Q : X → Type 0) (t : X → Bool) (g : X → X) (xs : List X) → count t xs ≤ 1 → ((x : X) → find t xs ≡ Some x → P x → Q (g x)) → ((x : X) → t x ≡ false → P x → Q x) → Each P xs → Each Q (change_first t g xs)
each_single P Q t g [] n f k h = tt
each_single {X} P Q t g (x ∷ xs) n f k h = by (t x) refl n (λ m s. each_single P Q t g xs m s k h.1)
  where
    rest_of : (ys : List X) → Each (λ y. t y ≡ false) ys → Each P ys → Each Q ys
    rest_of [] a b = tt
    rest_of (y ∷ ys) a b = (k y a.0 b.0, rest_of ys a.1 b.1)

    by : (b : Bool) → t x ≡ b → cond b (suc (count t xs)) (count t xs) ≤ 1 → (count t xs ≤ 1 → ((y : X) → find t xs ≡ Some y → P y → Q (g y)) → Each Q (change_first t g xs)) → Each Q (cond b (g x ∷ xs) (x ∷ change_first t g xs))
    by true e m rest = (f x (ap (λ (b : Bool). cond b (Some x) (find t xs)) e) h.0, rest_of xs (none_count t xs (let c : suc (count t xs) ≤ 1 = m in omega arith)) h.1)
    by false e m rest = (k x e h.0, rest m (λ y z. f y (ap (λ (b : Bool). cond b (Some x) (find t xs)) e ∙ z)))

pub count_changed : {X : Type 0} (p t : X → Bool) (g : X → X) (xs : List X) → ((x : X) → find t xs ≡ Some x → p (g x) ≡ p x) → count p (change_first t g xs) ≡ count p xs
count_changed p t g [] h = refl
count_changed {X} p t g (x ∷ xs) h = by (t x) refl (λ k. count_changed p t g xs k)
  where
    by : (b : Bool) → t x ≡ b → (((y : X) → find t xs ≡ Some y → p (g y) ≡ p y) → count p (change_first t g xs) ≡ count p xs) → count p (cond b (g x ∷ xs) (x ∷ change_first t g xs)) ≡ count p (x ∷ xs)
    by true e k = ap (λ (b : Bool). cond b (suc (count p xs)) (count p xs)) (h x (ap (λ (b : Bool). cond b (Some x) (find t xs)) e))
    by false e k = ap (λ (n : ℕ). cond (p x) (suc n) n) (k (λ y z. h y (ap (λ (b : Bool). cond b (Some x) (find t xs)) e ∙ z)))

-- ---- the only one that passes

none_passes : {X : Type 0} (p : X → Bool) (Q : X → Type 0) (xs : List X) → Each (λ x. p x ≡ false) xs → Each (λ x. p x ≡ true → Q x) xs
none_passes p Q [] h = tt
none_passes p Q (x ∷ xs) h = ((λ t. not_both t h.0), none_passes p Q xs h.1)

-- what holds of the only one that passes holds of each that passes
pub single_each : {X : Type 0} (p : X → Bool) (Q : X → Type 0) (xs : List X) (i : ℕ) (x : X) → count p xs ≤ 1 → slice_get xs i ≡ Some x → p x ≡ true → Q x → Each (λ y. p y ≡ true → Q y) xs
single_each p Q [] i x n e h q = tt
single_each {X} p Q (z ∷ xs) zero x n e h q =
    let c : count p (z ∷ xs) ≡ suc (count p xs) = ap (λ (b : Bool). cond b (suc (count p xs)) (count p xs)) (ap p (some_same e) ∙ h) in
    let m : count p (z ∷ xs) ≤ 1 = n in
    let none : count p xs ≡ 0 = omega arith in
    ((λ t. subst Q (sym (some_same e)) q), none_passes p Q xs (none_count p xs none))
single_each {X} p Q (z ∷ xs) (suc i) x n e h q = by (p z) refl n (count_here p xs i x e h) (λ m. single_each p Q xs i x m e h q)
  where
    by : (b : Bool) → p z ≡ b → cond b (suc (count p xs)) (count p xs) ≤ 1 → 1 ≤ count p xs → (count p xs ≤ 1 → Each (λ y. p y ≡ true → Q y) xs) → (p z ≡ true → Q z) × Each (λ y. p y ≡ true → Q y) xs
    by true g m k rest = absurd (let t : suc (count p xs) ≤ 1 = m in omega arith)
    by false g m k rest = ((λ t. not_both t g), rest m)

-- the same once another takes its place
pub single_set : {X : Type 0} (p : X → Bool) (Q : X → Type 0) (xs : List X) (i : ℕ) (x y : X) → count p xs ≤ 1 → slice_get xs i ≡ Some x → p x ≡ true → Q y → Each (λ z. p z ≡ true → Q z) (slice_set xs i y)
single_set p Q [] i x y n e h q = tt
single_set {X} p Q (z ∷ xs) zero x y n e h q =
    let c : count p (z ∷ xs) ≡ suc (count p xs) = ap (λ (b : Bool). cond b (suc (count p xs)) (count p xs)) (ap p (some_same e) ∙ h) in
    let m : count p (z ∷ xs) ≤ 1 = n in
    let none : count p xs ≡ 0 = omega arith in
    ((λ t. q), none_passes p Q xs (none_count p xs none))
single_set {X} p Q (z ∷ xs) (suc i) x y n e h q = by (p z) refl n (count_here p xs i x e h) (λ m. single_set p Q xs i x y m e h q)
  where
    by : (b : Bool) → p z ≡ b → cond b (suc (count p xs)) (count p xs) ≤ 1 → 1 ≤ count p xs → (count p xs ≤ 1 → Each (λ w. p w ≡ true → Q w) (slice_set xs i y)) → (p z ≡ true → Q z) × Each (λ w. p w ≡ true → Q w) (slice_set xs i y)
    by true g m k rest = absurd (let t : suc (count p xs) ≤ 1 = m in omega arith)
    by false g m k rest = ((λ t. not_both t g), rest m)

-- where the first stands that passes
pub record Placed {X : Type 0} (p : X → Bool) (xs : List X) : Type 0 where
  pub place : ℕ
  pub element : X
  pub found : position p xs ≡ Some place
  pub here : slice_get xs place ≡ Some element
  pub passes : p element ≡ true

record InFront {X : Type 0} (p : X → Bool) (xs : List X) : Type 0 where
  element : X
  within : nat_lt (position_or_len p xs) (length xs) ≡ true
  here : slice_get xs (position_or_len p xs) ≡ Some element
  passes : p element ≡ true

before : (n : ℕ) → nat_lt 0 (suc n) ≡ true
before n = grind (arith, nat_tests)

next : (k n : ℕ) → nat_lt (suc k) (suc n) ≡ nat_lt k n
next k n = by_test (nat_lt k n) (λ t. grind (arith, nat_tests)) (λ t. grind (arith, nat_tests))

in_front : {X : Type 0} (p : X → Bool) (xs : List X) → 1 ≤ count p xs → InFront p xs
in_front p [] h = absurd (let t : 1 ≤ 0 = h in omega arith)
in_front {X} p (x ∷ xs) h = by (p x) refl h (λ k. in_front p xs k)
  where
    by : (b : Bool) → p x ≡ b → 1 ≤ cond b (suc (count p xs)) (count p xs) → (1 ≤ count p xs → InFront p xs) → InFront p (x ∷ xs)
    by true e k rest =
        let first : position_or_len p (x ∷ xs) ≡ 0 = ap (λ (b : Bool). cond (not b) (1 + position_or_len p xs) 0) e in
        record {
          element = x;
          within = ap (λ (n : ℕ). nat_lt n (length (x ∷ xs))) first ∙ before (length xs);
          here = ap (slice_get (x ∷ xs)) first;
          passes = e;
        }
    by false e k rest =
        let r : InFront p xs = rest k in
        let first : position_or_len p (x ∷ xs) ≡ suc (position_or_len p xs) = ap (λ (b : Bool). cond (not b) (1 + position_or_len p xs) 0) e ∙ (let t : 1 + position_or_len p xs ≡ suc (position_or_len p xs) = omega arith in t) in
        record {
          element = r.element;
          within = ap (λ (n : ℕ). nat_lt n (length (x ∷ xs))) first ∙ next (position_or_len p xs) (length xs) ∙ r.within;
          here = ap (slice_get (x ∷ xs)) first ∙ r.here;
          passes = r.passes;
        }

pub placed : {X : Type 0} (p : X → Bool) (xs : List X) → 1 ≤ count p xs → Placed p xs
placed p xs h =
    let f : InFront p xs = in_front p xs h in
    record { place = position_or_len p xs; element = f.element; found = ap (λ (b : Bool). cond b (Some (position_or_len p xs)) None) f.within; here = f.here; passes = f.passes }

-- ---- lists behind one another

pub flat_append : {X Y : Type 0} (f : X → List Y) (xs ys : List X) → flat_map f (xs ++ ys) ≡ flat_map f xs ++ flat_map f ys
flat_append f [] ys = refl
flat_append f (x ∷ xs) ys = ap (λ zs. f x ++ zs) (flat_append f xs ys) ∙ sym (append_assoc (f x) (flat_map f xs) (flat_map f ys))

pub get_front : {X : Type 0} (xs ys : List X) (i : ℕ) (x : X) → IsPrefix xs ys → slice_get xs i ≡ Some x → slice_get ys i ≡ Some x
get_front {X} xs ys i x p e = subst (λ zs. slice_get zs i ≡ Some x) p.1 (by xs i e)
  where
    by : (zs : List X) (j : ℕ) → slice_get zs j ≡ Some x → slice_get (zs ++ p.0) j ≡ Some x
    by [] j h = not_some h
    by (z ∷ zs) zero h = h
    by (z ∷ zs) (suc j) h = by zs j h
