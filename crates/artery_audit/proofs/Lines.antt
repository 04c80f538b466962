-- Lists of lines: fronts, last lines, and the lines of one incarnation.
use Rattle.std.proofs.Common.{◌≡◌, ℕ, zero, suc, ◌<◌, ◌≤◌, true, false, List, [], ◌∷◌, ◌++◌, length, take, drop, refl, ap, sym, subst, ◌∙◌, arith}
use Rattle.std.proofs.lemmas.List.{append-nil}
use Rattle.std.proofs.lemmas.List.Elements.{filter-append}
use Rattle.std.specs.Prelude.{Some, None, slice_get, slice_set, filter}
use Rattle.artery_base.specs.declared.address.UniqueAddress.{UniqueAddress}
use Rattle.artery_base.specs.contracts.address.UniqueAddressEq.TheImpl.Laws.{laws-law}
use Rattle.artery_journal.specs.declared.line.Line.{Line}
use Rattle.artery_judge.specs.Lines.{same, of}
use Rattle.artery_audit.specs.declared.part.Part.{Part}
use Rattle.artery_audit.specs.Parts.{AreApart, AreParts, lines_by}
use Rattle.artery_audit.specs.Merges.{Each}

pub opened : (parts : List Part) → AreParts parts → AreApart parts
unfolding AreParts
opened parts h = h

pub closed : (parts : List Part) → AreApart parts → AreParts parts
unfolding AreParts
closed parts h = h

-- two names of one incarnation are the same as every other alike
pub same_alike : (a b : UniqueAddress) → same a b ≡ true → same a ≡ same b
same_alike a b h = λ i x. laws-law.congr a b x h i

pub same_self : (a : UniqueAddress) → same a a ≡ true
same_self a = laws-law.refl a

pub same_turned : (a b : UniqueAddress) → same a b ≡ same b a
same_turned a b = laws-law.symm a b

pub some_is : {X : Type 0} {x y : X} → Some x ≡ Some y → x ≡ y
some_is e = cc

-- the first of a list
pub head_is : {X : Type 0} {x y : X} {xs ys : List X} → x ∷ xs ≡ y ∷ ys → x ≡ y
head_is e = cc

pub tail_is : {X : Type 0} {x y : X} {xs ys : List X} → x ∷ xs ≡ y ∷ ys → xs ≡ ys
tail_is e = cc

-- one more, and then the others
pub one_more : {X : Type 0} (xs ys : List X) (x : X) → (xs ++ x ∷ []) ++ ys ≡ xs ++ x ∷ ys
one_more [] ys x = refl
one_more (z ∷ zs) ys x = ap (λ (r : List _). z ∷ r) (one_more zs ys x)

-- what holds of each line, and of one more behind them
pub each_more : (P : List Line → Line → Type 0) (lines : List Line) (line : Line) → Each P lines → P lines line → Each P (lines ++ line ∷ [])
each_more P lines line each last before after l is = by [] lines before each last is
  where
    -- `front` stands before both
    by : (front rest before : List Line) → ((b a : List Line) (x : Line) → rest ≡ b ++ x ∷ a → P (front ++ b) x) → P (front ++ rest) line → rest ++ line ∷ [] ≡ before ++ l ∷ after → P (front ++ before) l
    by front [] [] each last is = subst (P (front ++ [])) (head_is is) last
    by front [] (b ∷ bs) each last is = none bs (tail_is is)
      where
        none : (bs : List Line) → [] ≡ bs ++ l ∷ after → P (front ++ b ∷ bs) l
        none [] e = cc
        none (c ∷ cs) e = cc
    by front (r ∷ rs) [] each last is = subst (P (front ++ [])) (head_is is) (each [] rs r refl)
    by front (r ∷ rs) (b ∷ bs) each last is =
        let e : r ≡ b = head_is is in
        let deeper = by (front ++ r ∷ []) rs bs
        (λ b' a x at. subst (λ f. P f x) (sym (one_more front b' r)) (each (r ∷ b') a x (ap (λ (q : List Line). r ∷ q) at)))
        (subst (λ f. P f line) (sym (one_more front rs r)) last) (tail_is is) in
        subst (λ f. P f l) (one_more front bs r ∙ ap (λ z. front ++ z ∷ bs) e) deeper

-- the lines of an incarnation and one more
pub by_more : (u : UniqueAddress) (lines : List Line) (line : Line) → same u (of line) ≡ true → lines_by u (lines ++ line ∷ []) ≡ lines_by u lines ++ line ∷ []
by_more u lines line own = filter-append (λ l. same u (of l)) lines (line ∷ []) ∙ rw own refl

pub by_other : (u : UniqueAddress) (lines : List Line) (line : Line) → same u (of line) ≡ false → lines_by u (lines ++ line ∷ []) ≡ lines_by u lines
by_other u lines line other = filter-append (λ l. same u (of l)) lines (line ∷ []) ∙ rw other (append-nil (lines_by u lines))

pub by_alike : (u v : UniqueAddress) (lines : List Line) → same u v ≡ true → lines_by u lines ≡ lines_by v lines
by_alike u v lines h = λ i. filter (λ line. same_alike u v h i (of line)) lines

-- what stands behind a front
pub at_length : {X : Type 0} (xs ys : List X) (x : X) → slice_get (xs ++ x ∷ ys) (length xs) ≡ Some x
at_length [] ys x = refl
at_length (z ∷ zs) ys x = at_length zs ys x

pub is_front : {X : Type 0} (xs : List X) (n : ℕ) (x : X) → slice_get xs n ≡ Some x → xs ≡ take n xs ++ x ∷ drop (suc n) xs
is_front [] n x h = cc
is_front (y ∷ ys) zero x h = ap (λ z. z ∷ ys) (some_is h)
is_front (y ∷ ys) (suc n) x h = ap (λ (r : List _). y ∷ r) (is_front ys n x h)

pub past_end : {X : Type 0} (xs : List X) (n : ℕ) → slice_get xs n ≡ None → length xs ≤ n
past_end [] n h = omega arith
past_end (y ∷ ys) zero h = cc
past_end (y ∷ ys) (suc n) h = omega (arith, past_end ys n h)

pub before_end : {X : Type 0} (xs : List X) (n : ℕ) (x : X) → slice_get xs n ≡ Some x → n < length xs
before_end [] n x h = cc
before_end (y ∷ ys) zero x h = omega arith
before_end (y ∷ ys) (suc n) x h = omega (arith, before_end ys n x h)

-- writing one place
pub set_there : {X : Type 0} (xs : List X) (k : ℕ) (x y : X) → slice_get xs k ≡ Some x → slice_get (slice_set xs k y) k ≡ Some y
set_there [] k x y h = cc
set_there (z ∷ zs) zero x y h = refl
set_there (z ∷ zs) (suc k) x y h = set_there zs k x y h

pub set_elsewhere : {X : Type 0} (xs : List X) (k j : ℕ) (y : X) → (k ≡ j → ⊥) → slice_get (slice_set xs k y) j ≡ slice_get xs j
set_elsewhere [] k j y h = refl
set_elsewhere (z ∷ zs) zero zero y h = absurd (h refl)
set_elsewhere (z ∷ zs) zero (suc j) y h = refl
set_elsewhere (z ∷ zs) (suc k) zero y h = refl
set_elsewhere (z ∷ zs) (suc k) (suc j) y h = set_elsewhere zs k j y (λ e. h (ap suc e))
