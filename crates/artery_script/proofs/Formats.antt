-- Readings that read exactly what is spelled, and what is made of them.
use Rattle.std.proofs.Common.{◌≡◌, ℕ, Bool, true, false, not, cond, List, [], ◌∷◌, ◌++◌, Option, Some, None, Result, Ok, Err, refl, sym, ap, ◌∙◌, append_assoc, subst, arith}
use Rattle.std.specs.Prelude.{bytes_eq}
use Rattle.std.specs.List.{list_all, slice_split, onto_first, join_with_byte}
use Rattle.std.specs.Result.{result_ok}
use Rattle.std.proofs.lemmas.Bool.{and_parts}
use Rattle.std.proofs.lemmas.Bool.Decides.{nat_tests}
use Rattle.std.proofs.lemmas.List.{append-nil}
use Rattle.std.proofs.lemmas.List.Splits.{slice_split-cons_no, slice_split-cons_yes, join_with_byte-slice_split}
use Rattle.std.proofs.lemmas.Slice.Eq.{bytes_eq-Decides}
use Rattle.artery_base.specs.Valid.{IsToken, is_visible}
use Rattle.artery_lines.specs.Lines.{◌>>=◌, is_space, tokens_of}
use Rattle.artery_script.specs.Texts.{spaced}
use Rattle.artery_script.specs.Reading.{with_rest, field, both, made}

-- ---- no spaces

-- no byte of a field is a space
abbrev pub NoSpace : List ℕ → Type 0
NoSpace text = list_all (λ b. not (is_space b)) text ≡ true

-- nor of several
abbrev pub NoSpaces : List (List ℕ) → Type 0
NoSpaces [] = Unit {0}
NoSpaces (text ∷ texts) = NoSpace text × NoSpaces texts

pub no_spaces_both : (xs ys : List (List ℕ)) → NoSpaces xs → NoSpaces ys → NoSpaces (xs ++ ys)
no_spaces_both [] ys h e = e
no_spaces_both (x ∷ xs) ys h e = (h.0, no_spaces_both xs ys h.1 e)

all_weaker : (p q : ℕ → Bool) → ((b : ℕ) → p b ≡ true → q b ≡ true) → (xs : List ℕ) → list_all p xs ≡ true → list_all q xs ≡ true
all_weaker p q w [] h = refl
all_weaker p q w (x ∷ xs) h =
    let s = and_parts (p x) (list_all p xs) h in
    rw (w x s.0, all_weaker p q w xs s.1) refl

visible_no_space : (b : ℕ) → is_visible b ≡ true → not (is_space b) ≡ true
visible_no_space b h = grind (arith, nat_tests)

pub token_no_space : (text : List ℕ) → IsToken text → NoSpace text
token_no_space text h = all_weaker is_visible (λ b. not (is_space b)) visible_no_space text h.visible

not_is : (b : Bool) → not b ≡ true → b ≡ false
not_is true h = absurd cc
not_is false h = refl

whole_part : (p : ℕ → Bool) (text : List ℕ) → list_all (λ x. not (p x)) text ≡ true → slice_split p text ≡ text ∷ []
whole_part p [] h = refl
whole_part p (x ∷ xs) h =
    let s = and_parts (not (p x)) (list_all (λ x. not (p x)) xs) h in
    slice_split-cons_no p x xs (not_is (p x) s.0) ∙ ap (onto_first x) (whole_part p xs s.1)

first_part : (p : ℕ → Bool) (text : List ℕ) (mark : ℕ) (rest : List ℕ) → list_all (λ x. not (p x)) text ≡ true → p mark ≡ true
    → slice_split p (text ++ mark ∷ rest) ≡ text ∷ slice_split p rest
first_part p [] mark rest h m = slice_split-cons_yes p mark rest m
first_part p (x ∷ xs) mark rest h m =
    let s = and_parts (not (p x)) (list_all (λ x. not (p x)) xs) h in
    slice_split-cons_no p x (xs ++ mark ∷ rest) (not_is (p x) s.0) ∙ ap (onto_first x) (first_part p xs mark rest s.1 m)

-- fields behind one space each are cut again into these fields
pub cut_again : (text : List ℕ) (texts : List (List ℕ)) → NoSpace text → NoSpaces texts → tokens_of (text ++ spaced texts) ≡ text ∷ texts
cut_again text [] h e = ap tokens_of (append-nil text) ∙ whole_part is_space text h
cut_again text (next ∷ texts) h e =
    first_part is_space text 32 (next ++ spaced texts) h refl ∙ ap (λ ts. text ∷ ts) (cut_again next texts e.0 e.1)

joined : (text : List ℕ) (texts : List (List ℕ)) → join_with_byte 32 (text ∷ texts) ≡ text ++ spaced texts
joined text [] = sym (append-nil text)
joined text (next ∷ texts) = ap (λ xs. text ++ 32 ∷ xs) (joined next texts)

-- a text is its fields with a space between each two
pub uncut : (text first : List ℕ) (fields : List (List ℕ)) → tokens_of text ≡ first ∷ fields → text ≡ first ++ spaced fields
uncut text first fields h = sym (join_with_byte-slice_split 32 text) ∙ ap (join_with_byte 32) h ∙ joined first fields

-- ---- readings that gave something

pub some_is : {X : Type 0} (x y : X) → Some x ≡ Some y → x ≡ y
some_is x y h = cc

-- a reading behind another gave what it gave from what the other gave
pub record Steps {A B : Type 0} (o : Option A) (f : A → Option B) (b : B) : Type 0 where
  pub value : A
  pub first : o ≡ Some value
  pub then_ : f value ≡ Some b

pub steps : {A B : Type 0} (o : Option A) (f : A → Option B) (b : B) → (o >>= f) ≡ Some b → Steps o f b
steps None f b h = absurd cc
steps (Some x) f b h = record { value = x; first = refl; then_ = h }

pub found : {X E : Type 0} (r : Result X E) (x : X) → result_ok r ≡ Some x → r ≡ Ok x
found (Ok y) x h =
    let same : y ≡ x = some_is y x h in
    rw same refl
found (Err e) x h = absurd cc

pub rest_is : {X : Type 0} (ts left : List (List ℕ)) (o : Option X) (x : X) → with_rest ts o ≡ Some (x, left) → (o ≡ Some x) × (ts ≡ left)
rest_is ts left None x h = absurd cc
rest_is ts left (Some y) x h =
    let same : (y, ts) ≡ (x, left) = some_is (y, ts) (x, left) h in
    (ap (λ r. Some r.0) same, ap (λ r. r.1) same)

-- ---- formats

-- the reading of one field reads exactly the texts of the valid values
pub record IsField {X : Type 0} (told : List ℕ → Option X) (text : X → List ℕ) (Valid HasBytes : X → Type 0) : Type 0 where
  pub spelled : (t : List ℕ) (x : X) → told t ≡ Some x → Valid x × (t ≡ text x)
  pub reads : (x : X) → Valid x → HasBytes x → told (text x) ≡ Some x
  pub token : (x : X) → Valid x → HasBytes x → NoSpace (text x)

-- a reading reads exactly the fields of the valid values, and leaves the others
pub record IsFormat {X : Type 0} (read : List (List ℕ) → Option (X × List (List ℕ))) (fields : X → List (List ℕ)) (Valid HasBytes : X → Type 0) : Type 0 where
  pub spelled : (ts : List (List ℕ)) (x : X) (left : List (List ℕ)) → read ts ≡ Some (x, left) → Valid x × (ts ≡ fields x ++ left)
  pub reads : (x : X) (left : List (List ℕ)) → Valid x → HasBytes x → read (fields x ++ left) ≡ Some (x, left)
  pub tokens : (x : X) → Valid x → HasBytes x → NoSpaces (fields x)

-- always so
abbrev pub Always : {X : Type 0} → X → Type 0
Always x = Unit {0}

pub field_format : {X : Type 0} (told : List ℕ → Option X) (text : X → List ℕ) (Valid HasBytes : X → Type 0) → IsField told text Valid HasBytes
    → IsFormat (field told) (λ x. text x ∷ []) Valid HasBytes
field_format {X} told text Valid HasBytes f = record { spelled = spelled; reads = reads; tokens = λ x v b. (f.token x v b, tt) }
  where
    spelled : (ts : List (List ℕ)) (x : X) (left : List (List ℕ)) → field told ts ≡ Some (x, left) → Valid x × (ts ≡ (text x ∷ []) ++ left)
    spelled [] x left h = absurd cc
    spelled (t ∷ ts) x left h =
        let r = rest_is ts left (told t) x h in
        let s = f.spelled t x r.0 in
        (s.0, ap (λ u. u ∷ ts) s.1 ∙ ap (λ us. text x ∷ us) r.1)

    reads : (x : X) (left : List (List ℕ)) → Valid x → HasBytes x → field told ((text x ∷ []) ++ left) ≡ Some (x, left)
    reads x left v b = ap (with_rest left) (f.reads x v b)

pub both_format : {A B : Type 0} (first : List (List ℕ) → Option (A × List (List ℕ))) (second : List (List ℕ) → Option (B × List (List ℕ)))
    (fa : A → List (List ℕ)) (fb : B → List (List ℕ)) (Va Ba : A → Type 0) (Vb Bb : B → Type 0)
    → IsFormat first fa Va Ba → IsFormat second fb Vb Bb
    → IsFormat (both first second) (λ p. fa p.0 ++ fb p.1) (λ p. Va p.0 × Vb p.1) (λ p. Ba p.0 × Bb p.1)
both_format {A} {B} first second fa fb Va Ba Vb Bb f g = record { spelled = spelled; reads = reads; tokens = λ p v b. no_spaces_both (fa p.0) (fb p.1) (f.tokens p.0 v.0 b.0) (g.tokens p.1 v.1 b.1) }
  where
    spelled : (ts : List (List ℕ)) (p : A × B) (left : List (List ℕ)) → both first second ts ≡ Some (p, left) → (Va p.0 × Vb p.1) × (ts ≡ (fa p.0 ++ fb p.1) ++ left)
    spelled ts p left h =
        let a = steps (first ts) (λ a. second a.1 >>= λ b. Some ((a.0, b.0), b.1)) (p, left) h in
        let b = steps (second a.value.1) (λ b. Some ((a.value.0, b.0), b.1)) (p, left) a.then_ in
        let sa = f.spelled ts a.value.0 a.value.1 a.first in
        let sb = g.spelled a.value.1 b.value.0 b.value.1 b.first in
        let row : ts ≡ (fa a.value.0 ++ fb b.value.0) ++ b.value.1 = sa.1 ∙ ap (λ us. fa a.value.0 ++ us) sb.1 ∙ sym (append_assoc (fa a.value.0) (fb b.value.0) b.value.1) in
        subst (λ (r : (A × B) × List (List ℕ)). (Va r.0.0 × Vb r.0.1) × (ts ≡ (fa r.0.0 ++ fb r.0.1) ++ r.1))
        (some_is ((a.value.0, b.value.0), b.value.1) (p, left) b.then_)
        ((sa.0, sb.0), row)

    reads : (p : A × B) (left : List (List ℕ)) → Va p.0 × Vb p.1 → Ba p.0 × Bb p.1 → both first second ((fa p.0 ++ fb p.1) ++ left) ≡ Some (p, left)
    reads p left v b =
        ap (both first second) (append_assoc (fa p.0) (fb p.1) left)
        ∙ ap (λ o. o >>= λ a. second a.1 >>= λ b. Some ((a.0, b.0), b.1)) (f.reads p.0 (fb p.1 ++ left) v.0 b.0)
        ∙ ap (λ o. o >>= λ b. Some ((p.0, b.0), b.1)) (g.reads p.1 left v.1 b.1)

-- what is made of a value is read where the value is
pub made_reads : {A X : Type 0} (make : A → X) (read : List (List ℕ) → Option (A × List (List ℕ))) (fields : A → List (List ℕ)) (Valid HasBytes : A → Type 0)
    → IsFormat read fields Valid HasBytes → (a : A) (left : List (List ℕ)) → Valid a → HasBytes a → made make read (fields a ++ left) ≡ Some (make a, left)
made_reads make read fields Valid HasBytes f a left v b = ap (λ o. o >>= λ a. Some (make a.0, a.1)) (f.reads a left v b)

-- where something made of a value was read, the value was
pub made_spelled : {A X : Type 0} (make : A → X) (read : List (List ℕ) → Option (A × List (List ℕ))) (fields : A → List (List ℕ)) (Valid HasBytes : A → Type 0)
    (Good : X → Type 0) (all : X → List (List ℕ)) → IsFormat read fields Valid HasBytes
    → ((a : A) → Valid a → Good (make a)) → ((a : A) → all (make a) ≡ fields a)
    → (ts : List (List ℕ)) (x : X) (left : List (List ℕ)) → made make read ts ≡ Some (x, left) → Good x × (ts ≡ all x ++ left)
made_spelled {A} {X} make read fields Valid HasBytes Good all f good same ts x left h =
    let a = steps (read ts) (λ a. Some (make a.0, a.1)) (x, left) h in
    let s = f.spelled ts a.value.0 a.value.1 a.first in
    subst (λ (r : X × List (List ℕ)). Good r.0 × (ts ≡ all r.0 ++ r.1))
    (some_is (make a.value.0, a.value.1) (x, left) a.then_)
    (good a.value.0 s.0, s.1 ∙ ap (λ us. us ++ a.value.1) (sym (same a.value.0)))

-- ---- by words

pub word_is : (t w : List ℕ) → bytes_eq t w ≡ true → t ≡ w
word_is t w h = (bytes_eq-Decides t w).0 h

-- a text is this word and tells this value, or it tells what others do
pub word_row : {X : Type 0} (t w : List ℕ) (x y : X) (other : Option X) (Good : X → Type 0)
    → cond (bytes_eq t w) (Some x) other ≡ Some y → (t ≡ w → Good x) → (other ≡ Some y → Good y) → Good y
word_row {X} t w x y other Good h good more = row (bytes_eq t w) refl h
  where
    row : (b : Bool) → bytes_eq t w ≡ b → cond b (Some x) other ≡ Some y → Good y
    row true e h = subst Good (some_is x y h) (good (word_is t w e))
    row false e h = more h

-- fields begin with this word and tell a value behind it, or they tell what others do
pub verb_row : {A X : Type 0} (t w : List ℕ) (make : A → X) (read : List (List ℕ) → Option (A × List (List ℕ))) (fields : A → List (List ℕ)) (Valid HasBytes : A → Type 0)
    (Good : X → Type 0) (all : X → List (List ℕ)) (ts : List (List ℕ)) (x : X) (left : List (List ℕ)) (other : Option (X × List (List ℕ)))
    → IsFormat read fields Valid HasBytes → cond (bytes_eq t w) (made make read ts) other ≡ Some (x, left)
    → ((a : A) → Valid a → Good (make a)) → ((a : A) → all (make a) ≡ w ∷ fields a)
    → (other ≡ Some (x, left) → Good x × (t ∷ ts ≡ all x ++ left)) → Good x × (t ∷ ts ≡ all x ++ left)
verb_row {A} {X} t w make read fields Valid HasBytes Good all ts x left other f h good same more = row (bytes_eq t w) refl h
  where
    row : (b : Bool) → bytes_eq t w ≡ b → cond b (made make read ts) other ≡ Some (x, left) → Good x × (t ∷ ts ≡ all x ++ left)
    row true e h =
        let a = steps (read ts) (λ a. Some (make a.0, a.1)) (x, left) h in
        let s = f.spelled ts a.value.0 a.value.1 a.first in
        subst (λ (r : X × List (List ℕ)). Good r.0 × (t ∷ ts ≡ all r.0 ++ r.1))
        (some_is (make a.value.0, a.value.1) (x, left) a.then_)
        (good a.value.0 s.0, ap (λ u. u ∷ ts) (word_is t w e) ∙ ap (λ us. w ∷ us) s.1 ∙ ap (λ us. us ++ a.value.1) (sym (same a.value.0)))
    row false e h = more h
