-- Prefixes and subsequences, decided by going on.
use Rattle.std.proofs.Common.{◌≡◌, ℕ, zero, suc, Bool, true, false, ◌&&◌, ◌||◌, List, [], ◌∷◌, ◌++◌, length, drop, refl, ap, sym, ◌∙◌, true≢false}
use Rattle.std.specs.Prelude.{if◌then◌else◌}
use Rattle.std.specs.List.{list_any}
use Rattle.artery_base.specs.declared.message.Tell.{Tell}
use Rattle.artery_judge.specs.Lines.{Rest}
use Rattle.artery_judge.specs.Laws.{same_rest, same_tell, is_prefix, is_subsequence}
use Rattle.artery_judge.specs.Kept.{past_tell, past_tells}

first_of : (b c : Bool) → (b && c) ≡ true → b ≡ true
first_of true c h = refl
first_of false c h = h

second_of : (b c : Bool) → (b && c) ≡ true → c ≡ true
second_of true c h = h
second_of false c h = absurd (true≢false (sym h))

-- ---- prefixes

-- whether more is a prefix is whether the rest of it is one of what is left
pub prefix_on : (xs zs ys : List Rest) → is_prefix xs ys ≡ true → is_prefix (xs ++ zs) ys ≡ is_prefix zs (drop (length xs) ys)
prefix_on [] zs ys h = refl
prefix_on (x ∷ xs) zs [] h = absurd (true≢false (sym h))
prefix_on (x ∷ xs) zs (y ∷ ys) h = rw (first_of (same_rest y x) (is_prefix xs ys) h) (prefix_on xs zs ys (second_of (same_rest y x) (is_prefix xs ys) h))

pub prefix_of_more : (xs ys zs : List Rest) → is_prefix xs ys ≡ true → is_prefix xs (ys ++ zs) ≡ true
prefix_of_more [] ys zs h = refl
prefix_of_more (x ∷ xs) [] zs h = absurd (true≢false (sym h))
prefix_of_more (x ∷ xs) (y ∷ ys) zs h = rw (first_of (same_rest y x) (is_prefix xs ys) h) (prefix_of_more xs ys zs (second_of (same_rest y x) (is_prefix xs ys) h))

pub left_of_more : (xs ys zs : List Rest) → is_prefix xs ys ≡ true → drop (length xs) (ys ++ zs) ≡ drop (length xs) ys ++ zs
left_of_more [] ys zs h = refl
left_of_more (x ∷ xs) [] zs h = absurd (true≢false (sym h))
left_of_more (x ∷ xs) (y ∷ ys) zs h = left_of_more xs ys zs (second_of (same_rest y x) (is_prefix xs ys) h)

drop_none : {X : Type 0} (n : ℕ) (xs : List X) → xs ≡ [] → drop n xs ≡ []
drop_none zero xs h = h
drop_none (suc n) [] h = refl
drop_none (suc n) (x ∷ xs) h = cc

pub left_past : {X : Type 0} (xs zs ys : List X) → drop (length (xs ++ zs)) ys ≡ drop (length zs) (drop (length xs) ys)
left_past [] zs ys = refl
left_past (x ∷ xs) zs [] = sym (drop_none (length zs) [] refl)
left_past (x ∷ xs) zs (y ∷ ys) = left_past xs zs ys

-- ---- subsequences

-- without its first element it is one still
sub_less : (x : Tell) (xs ys : List Tell) → is_subsequence (x ∷ xs) ys ≡ true → is_subsequence xs ys ≡ true
sub_less x [] ys h = refl
sub_less x (z ∷ zs) [] h = absurd (true≢false (sym h))
sub_less x (z ∷ zs) (y ∷ ys) h = by (same_tell y x) (sub_less x (z ∷ zs) ys) h
  where
    later : (b c : Bool) → c ≡ true → (b || c) ≡ true
    later true c is = refl
    later false c is = is

    by : (b : Bool) → (is_subsequence (x ∷ z ∷ zs) ys ≡ true → is_subsequence (z ∷ zs) ys ≡ true) → ((b && is_subsequence (z ∷ zs) ys) || is_subsequence (x ∷ z ∷ zs) ys) ≡ true → is_subsequence (z ∷ zs) (y ∷ ys) ≡ true
    by b rest h = later (same_tell y z && is_subsequence zs ys) (is_subsequence (z ∷ zs) ys) (either b (is_subsequence (z ∷ zs) ys) (is_subsequence (x ∷ z ∷ zs) ys) rest h)
      where
        either : (b s t : Bool) → (t ≡ true → s ≡ true) → ((b && s) || t) ≡ true → s ≡ true
        either true true t f h = refl
        either true false t f h = f h
        either false s t f h = f h

-- the first place that fits is as good as any
pub sub_first : (x : Tell) (xs ys : List Tell) → is_subsequence (x ∷ xs) ys ≡ (list_any (λ t. same_tell t x) ys && is_subsequence xs (past_tell x ys))
sub_first x xs [] = refl
sub_first x xs (y ∷ ys) = by (same_tell y x) (sub_less x xs ys) (sub_first x xs ys)
  where
    either : (s t : Bool) → (t ≡ true → s ≡ true) → (s || t) ≡ s
    either true t f = refl
    either false true f = sym (f refl)
    either false false f = refl

    by : (b : Bool) → (is_subsequence (x ∷ xs) ys ≡ true → is_subsequence xs ys ≡ true) → is_subsequence (x ∷ xs) ys ≡ (list_any (λ t. same_tell t x) ys && is_subsequence xs (past_tell x ys)) → ((b && is_subsequence xs ys) || is_subsequence (x ∷ xs) ys) ≡ ((b || list_any (λ t. same_tell t x) ys) && is_subsequence xs (if b then ys else past_tell x ys))
    by true less rest = either (is_subsequence xs ys) (is_subsequence (x ∷ xs) ys) less
    by false less rest = rest

-- whether more is a subsequence is whether the rest of it is one of what is left
pub sub_on : (xs zs ys : List Tell) → is_subsequence xs ys ≡ true → is_subsequence (xs ++ zs) ys ≡ is_subsequence zs (past_tells xs ys)
sub_on [] zs ys h = refl
sub_on (x ∷ xs) zs ys h = sub_first x (xs ++ zs) ys ∙ by (list_any (λ t. same_tell t x) ys) (sym (sub_first x xs ys) ∙ h) (sub_on xs zs (past_tell x ys))
  where
    by : (b : Bool) → (b && is_subsequence xs (past_tell x ys)) ≡ true → (is_subsequence xs (past_tell x ys) ≡ true → is_subsequence (xs ++ zs) (past_tell x ys) ≡ is_subsequence zs (past_tells xs (past_tell x ys))) → (b && is_subsequence (xs ++ zs) (past_tell x ys)) ≡ is_subsequence zs (past_tells xs (past_tell x ys))
    by true h rest = rest h
    by false h rest = absurd (true≢false (sym h))

past_of_more : (x : Tell) (ys zs : List Tell) → list_any (λ t. same_tell t x) ys ≡ true → past_tell x (ys ++ zs) ≡ past_tell x ys ++ zs
past_of_more x [] zs h = absurd (true≢false (sym h))
past_of_more x (y ∷ ys) zs h = by (same_tell y x) (past_of_more x ys zs) h
  where
    by : (b : Bool) → (list_any (λ t. same_tell t x) ys ≡ true → past_tell x (ys ++ zs) ≡ past_tell x ys ++ zs) → (b || list_any (λ t. same_tell t x) ys) ≡ true → (if b then ys ++ zs else past_tell x (ys ++ zs)) ≡ (if b then ys else past_tell x ys) ++ zs
    by true rest h = refl
    by false rest h = rest h

pub sub_left_of_more : (xs ys zs : List Tell) → is_subsequence xs ys ≡ true → past_tells xs (ys ++ zs) ≡ past_tells xs ys ++ zs
sub_left_of_more [] ys zs h = refl
sub_left_of_more (x ∷ xs) ys zs h =
    let split = sym (sub_first x xs ys) ∙ h in
    rw (past_of_more x ys zs (first_of _ _ split)) (sub_left_of_more xs (past_tell x ys) zs (second_of (list_any (λ t. same_tell t x) ys) _ split))

pub sub_of_more : (xs ys zs : List Tell) → is_subsequence xs ys ≡ true → is_subsequence xs (ys ++ zs) ≡ true
sub_of_more [] ys zs h = refl
sub_of_more (x ∷ xs) [] zs h = absurd (true≢false (sym h))
sub_of_more (x ∷ xs) (y ∷ ys) zs h = by (same_tell y x) (sub_of_more xs ys zs) (sub_of_more (x ∷ xs) ys zs) h
  where
    either : (s t s' t' : Bool) → (s ≡ true → s' ≡ true) → (t ≡ true → t' ≡ true) → (s || t) ≡ true → (s' || t') ≡ true
    either true t true t' f g h = refl
    either true t false t' f g h = absurd (true≢false (sym (f refl)))
    either false t true t' f g h = refl
    either false t false t' f g h = g h

    by : (b : Bool) → (is_subsequence xs ys ≡ true → is_subsequence xs (ys ++ zs) ≡ true) → (is_subsequence (x ∷ xs) ys ≡ true → is_subsequence (x ∷ xs) (ys ++ zs) ≡ true) → ((b && is_subsequence xs ys) || is_subsequence (x ∷ xs) ys) ≡ true → ((b && is_subsequence xs (ys ++ zs)) || is_subsequence (x ∷ xs) (ys ++ zs)) ≡ true
    by true f g h = either (is_subsequence xs ys) (is_subsequence (x ∷ xs) ys) (is_subsequence xs (ys ++ zs)) (is_subsequence (x ∷ xs) (ys ++ zs)) f g h
    by false f g h = g h

pub past_after : (xs zs ys : List Tell) → past_tells (xs ++ zs) ys ≡ past_tells zs (past_tells xs ys)
past_after [] zs ys = refl
past_after (x ∷ xs) zs ys = past_after xs zs (past_tell x ys)
