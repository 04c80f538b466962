-- Lists that are searched and changed at a place; facts of each element; lists within lists.
use Rattle.std.proofs.Common.{◌≡◌, ℕ, zero, suc, ◌+◌, ◌<◌, Bool, true, false, ◌&&◌, cond, List, [], ◌∷◌, ◌++◌, length, refl, sym, ◌∙◌, ap, subst, arith, append_assoc, append-nil}
use Rattle.std.specs.Prelude.{Option, None, Some, ◌==◌, nat_lt, not, is_none, position, slice_get, slice_set}
use Rattle.std.specs.List.{position_or_len}
use Rattle.std.proofs.lemmas.Bool.Decides.{nat_tests}
use Rattle.artery_base.specs.Words.{IsPrefix}

-- ---- cases

pub by_test : {P : Type 0} (b : Bool) → (b ≡ true → P) → (b ≡ false → P) → P
by_test true f g = f refl
by_test false f g = g refl

pub by_option : {X P : Type 0} (o : Option X) → (o ≡ None → P) → ((x : X) → o ≡ Some x → P) → P
by_option None f g = f refl
by_option (Some x) f g = g x refl

pub on_cond : {X : Type 0} (P : X → Type 0) (b : Bool) (x y : X) → (b ≡ true → P x) → (b ≡ false → P y) → P (cond b x y)
on_cond P true x y f g = f refl
on_cond P false x y f g = g refl

pub not_both : {P : Type 0} {b : Bool} → b ≡ true → b ≡ false → P
not_both h k = cc

pub eq_true : (x y : ℕ) → (x == y) ≡ true → x ≡ y
eq_true x y h = grind (arith, nat_tests)

pub eq_self : (x : ℕ) → (x == x) ≡ true
eq_self x = grind (arith, nat_tests)

pub eq_not : {P : Type 0} (x y : ℕ) → (x == y) ≡ false → x ≡ y → P
eq_not x y h e = not_both (let t : (x == y) ≡ true = subst (λ (z : ℕ). (x == z) ≡ true) e (eq_self x) in t) h

pub and_left : (a b : Bool) → (a && b) ≡ true → a ≡ true
and_left true b h = refl
and_left false b h = h

pub and_right : (a b : Bool) → (a && b) ≡ true → b ≡ true
and_right true b h = h
and_right false b h = cc

pub and_both : (a b : Bool) → a ≡ true → b ≡ true → (a && b) ≡ true
and_both a b h k = ap (λ (x : Bool). x && b) h ∙ k

pub some_same : {X : Type 0} {x y : X} → Some x ≡ Some y → x ≡ y
some_same h = cc

pub not_some : {X P : Type 0} {x : X} → None ≡ Some x → P
not_some h = cc

pub none_is : {X : Type 0} (o : Option X) → is_none o ≡ true → o ≡ None
none_is None h = refl
none_is (Some x) h = not_both h refl

-- ---- a fact of each element

abbrev pub Each : {X : Type 0} → (X → Type 0) → List X → Type 0
Each P [] = Unit {0}
Each P (x ∷ xs) = P x × Each P xs

pub each_weaker : {X : Type 0} (P Q : X → Type 0) → ((x : X) → P x → Q x) → (xs : List X) → Each P xs → Each Q xs
each_weaker P Q f [] h = tt
each_weaker P Q f (x ∷ xs) h = (f x h.0, each_weaker P Q f xs h.1)

pub each_both : {X : Type 0} (P : X → Type 0) (xs ys : List X) → Each P xs → Each P ys → Each P (xs ++ ys)
each_both P [] ys h k = k
each_both P (x ∷ xs) ys h k = (h.0, each_both P xs ys h.1 k)

pub each_back : {X : Type 0} (P : X → Type 0) (xs ys : List X) → Each P (xs ++ ys) → Each P ys
each_back P [] ys h = h
each_back P (x ∷ xs) ys h = each_back P xs ys h.1

pub each_push : {X : Type 0} (P : X → Type 0) (xs : List X) (y : X) → Each P xs → P y → Each P (xs ++ y ∷ [])
each_push P [] y h k = (k, tt)
each_push P (x ∷ xs) y h k = (h.0, each_push P xs y h.1 k)

pub each_get : {X : Type 0} (P : X → Type 0) (xs : List X) (i : ℕ) (x : X) → Each P xs → slice_get xs i ≡ Some x → P x
each_get P [] i x h e = not_some e
each_get P (y ∷ xs) zero x h e = subst P (some_same e) h.0
each_get P (y ∷ xs) (suc i) x h e = each_get P xs i x h.1 e

-- ---- elements at places

pub get_front : {X : Type 0} (xs ys : List X) (i : ℕ) (x : X) → slice_get xs i ≡ Some x → slice_get (xs ++ ys) i ≡ Some x
get_front [] ys i x h = not_some h
get_front (y ∷ xs) ys zero x h = h
get_front (y ∷ xs) ys (suc i) x h = get_front xs ys i x h

pub get_prefix : {X : Type 0} (xs ys : List X) (i : ℕ) (x : X) → IsPrefix xs ys → slice_get xs i ≡ Some x → slice_get ys i ≡ Some x
get_prefix xs ys i x p h = sym (ap (λ zs. slice_get zs i) p.1) ∙ get_front xs p.0 i x h

-- where an element was put in another's place
pub data Put {X : Type 0} (xs : List X) (i j : ℕ) (y x : X) : Type 0 where
  There : i ≡ j → x ≡ y → Put xs i j y x
  Elsewhere : (i ≡ j → ⊥) → slice_get xs j ≡ Some x → Put xs i j y x

pub get_set : {X : Type 0} (xs : List X) (i j : ℕ) (y x : X) → slice_get (slice_set xs i y) j ≡ Some x → Put xs i j y x
get_set [] i j y x h = not_some h
get_set (z ∷ xs) zero zero y x h = There refl (sym (some_same h))
get_set (z ∷ xs) zero (suc j) y x h = Elsewhere (λ e. (let f : ⊥ = omega arith in f)) h
get_set (z ∷ xs) (suc i) zero y x h = Elsewhere (λ e. (let f : ⊥ = omega arith in f)) h
get_set {X} (z ∷ xs) (suc i) (suc j) y x h = by (get_set xs i j y x h)
  where
    by : Put xs i j y x → Put (z ∷ xs) (suc i) (suc j) y x
    by (There e is) = There (ap suc e) is
    by (Elsewhere n e) = Elsewhere (λ k. n (let q : suc i ≡ suc j = k in omega arith)) e

pub set_here : {X : Type 0} (xs : List X) (i : ℕ) (x y : X) → slice_get xs i ≡ Some x → slice_get (slice_set xs i y) i ≡ Some y
set_here [] i x y h = not_some h
set_here (z ∷ xs) zero x y h = refl
set_here (z ∷ xs) (suc i) x y h = set_here xs i x y h

pub set_away : {X : Type 0} (xs : List X) (i j : ℕ) (y : X) → (i ≡ j → ⊥) → slice_get (slice_set xs i y) j ≡ slice_get xs j
set_away [] i j y n = refl
set_away (x ∷ xs) zero zero y n = absurd (n refl)
set_away (x ∷ xs) zero (suc j) y n = refl
set_away (x ∷ xs) (suc i) zero y n = refl
set_away (x ∷ xs) (suc i) (suc j) y n = set_away xs i j y (λ e. n (ap suc e))

at_front : {X : Type 0} (p : X → Bool) (ys : List X) (y : X) → slice_get ys (position_or_len p ys) ≡ Some y → p y ≡ true
at_front p [] y g = not_some g
at_front {X} p (z ∷ ys) y g = front (p z) refl g (λ f. at_front p ys y f)
  where
    front : (b : Bool) → p z ≡ b → slice_get (z ∷ ys) (cond (not b) (1 + position_or_len p ys) 0) ≡ Some y → (slice_get ys (position_or_len p ys) ≡ Some y → p y ≡ true) → p y ≡ true
    front true k f rest = subst (λ (w : X). p w ≡ true) (some_same f) k
    front false k f rest = rest (ap (slice_get (z ∷ ys)) (let e : suc (position_or_len p ys) ≡ 1 + position_or_len p ys = omega arith in e) ∙ f)

-- what stands at the place of the first that passes, passes
pub position_passes : {X : Type 0} (p : X → Bool) (xs : List X) (i : ℕ) (x : X) → position p xs ≡ Some i → slice_get xs i ≡ Some x → p x ≡ true
position_passes {X} p xs i x h e = by_cond (nat_lt (position_or_len p xs) (length xs)) h
  where
    by_cond : (b : Bool) → cond b (Some (position_or_len p xs)) None ≡ Some i → p x ≡ true
    by_cond true g = at_front p xs x (ap (slice_get xs) (some_same g) ∙ e)
    by_cond false g = not_some g

-- where none is found, none passes
passes_within : {X : Type 0} (p : X → Bool) (xs : List X) (i : ℕ) (x : X) → slice_get xs i ≡ Some x → p x ≡ true → position_or_len p xs < length xs
passes_within p [] i x h e = not_some h
passes_within {X} p (y ∷ xs) zero x h e = by (p y) (ap p (some_same h) ∙ e)
  where
    by : (b : Bool) → b ≡ true → cond (not b) (1 + position_or_len p xs) 0 < suc (length xs)
    by true k = omega arith
    by false k = not_both k refl
passes_within {X} p (y ∷ xs) (suc i) x h e = by (p y) (passes_within p xs i x h e)
  where
    by : (b : Bool) → position_or_len p xs < length xs → cond (not b) (1 + position_or_len p xs) 0 < suc (length xs)
    by true k = omega arith
    by false k = omega arith

pub none_passes : {X P : Type 0} (p : X → Bool) (xs : List X) (i : ℕ) (x : X) → position p xs ≡ None → slice_get xs i ≡ Some x → p x ≡ true → P
none_passes p xs i x n h e =
    let k : position_or_len p xs < length xs = passes_within p xs i x h e in
    let t : nat_lt (position_or_len p xs) (length xs) ≡ true = grind (arith, nat_tests) in
    not_some (sym n ∙ ap (λ (b : Bool). cond b (Some (position_or_len p xs)) None) t)

get_within : {X : Type 0} (xs : List X) (i : ℕ) → i < length xs → slice_get xs i ≡ None → ⊥
get_within [] i h e = (let f : ⊥ = omega arith in f)
get_within (x ∷ xs) zero h e = not_some (sym e)
get_within (x ∷ xs) (suc i) h e = get_within xs i (omega arith) e

-- what was found is there
pub found_there : {X P : Type 0} (p : X → Bool) (xs : List X) (i : ℕ) → position p xs ≡ Some i → slice_get xs i ≡ None → P
found_there {X} {P} p xs i h e = by (nat_lt (position_or_len p xs) (length xs)) refl h
  where
    by : (b : Bool) → nat_lt (position_or_len p xs) (length xs) ≡ b → cond b (Some (position_or_len p xs)) None ≡ Some i → P
    by true t g = (let k : position_or_len p xs < length xs = grind (arith, nat_tests) in absurd (get_within xs i (subst (λ (n : ℕ). n < length xs) (some_same g) k) e))
    by false t g = not_some g

-- ---- lists that begin others

pub prefix_self : {X : Type 0} (xs : List X) → IsPrefix xs xs
prefix_self xs = ([], append-nil xs)

pub prefix_trans : {X : Type 0} (xs ys zs : List X) → IsPrefix xs ys → IsPrefix ys zs → IsPrefix xs zs
prefix_trans xs ys zs f g = (f.0 ++ g.0, sym (append_assoc xs f.0 g.0) ∙ ap (λ l. l ++ g.0) f.1 ∙ g.1)

-- ---- a list is what is left of another

pub data Or (P Q : Type 0) : Type 0 where
  First : P → Or P Q
  Second : Q → Or P Q

-- Some elements of the second list are taken out, and the first is left.
abbrev pub Within : {X : Type 0} → List X → List X → Type 0
Within [] ys = Unit {0}
Within (x ∷ xs) [] = ⊥
Within (x ∷ xs) (y ∷ ys) = Or ((y ≡ x) × Within xs ys) (Within (x ∷ xs) ys)

pub within_more : {X : Type 0} (xs ys zs : List X) → Within xs ys → Within xs (ys ++ zs)
within_more [] ys zs h = tt
within_more (x ∷ xs) [] zs h = absurd h
within_more {X} (x ∷ xs) (y ∷ ys) zs h = by h (λ k. within_more xs ys zs k) (λ k. within_more (x ∷ xs) ys zs k)
  where
    by : Or ((y ≡ x) × Within xs ys) (Within (x ∷ xs) ys) → (Within xs ys → Within xs (ys ++ zs)) → (Within (x ∷ xs) ys → Within (x ∷ xs) (ys ++ zs)) → Or ((y ≡ x) × Within xs (ys ++ zs)) (Within (x ∷ xs) (ys ++ zs))
    by (First k) f g = First (k.0, f k.1)
    by (Second k) f g = Second (g k)

within_last : {X : Type 0} (ys : List X) (x : X) → Within (x ∷ []) (ys ++ x ∷ [])
within_last [] x = First (refl, tt)
within_last (y ∷ ys) x = Second (within_last ys x)

-- one more at the end of both
pub within_push : {X : Type 0} (xs ys : List X) (z : X) → Within xs ys → Within (xs ++ z ∷ []) (ys ++ z ∷ [])
within_push [] ys z h = within_last ys z
within_push (x ∷ xs) [] z h = absurd h
within_push {X} (x ∷ xs) (y ∷ ys) z h = by h (λ k. within_push xs ys z k) (λ k. within_push (x ∷ xs) ys z k)
  where
    by : Or ((y ≡ x) × Within xs ys) (Within (x ∷ xs) ys) → (Within xs ys → Within (xs ++ z ∷ []) (ys ++ z ∷ [])) → (Within (x ∷ xs) ys → Within (x ∷ (xs ++ z ∷ [])) (ys ++ z ∷ []))
        → Or ((y ≡ x) × Within (xs ++ z ∷ []) (ys ++ z ∷ [])) (Within (x ∷ (xs ++ z ∷ [])) (ys ++ z ∷ []))
    by (First k) f g = First (k.0, f k.1)
    by (Second k) f g = Second (g k)
