-- Paths of fields are read exactly on their texts.
use Rattle.std.proofs.Common.{◌≡◌, ℕ, ◌+◌, ◌^◌, ◌<◌, ◌≤◌, Bool, true, false, not, cond, eqb, ltb, List, [], ◌∷◌, ◌++◌, length, take, drop, get_or, Option, Some, None, refl, sym, ap, ◌∙◌, append_assoc, subst, arith}
use Rattle.std.specs.Prelude.{codes, decimal, bytes_eq, position}
use Rattle.std.specs.Char.{is_ascii_digit}
use Rattle.std.specs.Int.{is_in_range}
use Rattle.std.specs.List.{list_all, prefix_len, position_or_len}
use Rattle.std.proofs.lemmas.Bool.{and_parts, eqb-true, le-ltb}
use Rattle.std.proofs.lemmas.Bool.Decides.{nat_tests}
use Rattle.std.proofs.lemmas.List.{drop_more, take-append-drop}
use Rattle.std.proofs.lemmas.List.Quantifiers.{position-Some}
use Rattle.std.proofs.Math.Seq.{take-append_seam}
use Rattle.artery_text.specs.Reading.{number_of}
use Rattle.artery_lines.specs.Lines.{◌>>=◌}
use Rattle.artery_script.proofs.Formats.{NoSpace, IsField, Always, token_no_space, some_is, steps, word_row}
use Rattle.artery_script.proofs.FieldLaws.{TextLaws, number_field, kept_field, when_true, all_weaker}
use Rattle.artery_script.proofs.ActorLaws.{position_at, behind, digits, both_no_space}
use Rattle.artery_journal.specs.declared.path.Path.{Path}
use Rattle.artery_journal.specs.declared.path.Path.TheVariants as paths
use Rattle.artery_journal.specs.Texts.{path_text}
use Rattle.artery_journal.specs.Valid.{IsNumber, IsFieldNumber, IsPath}
use Rattle.artery_journal_reading.specs.Reading.{is_dot, as_field_number, field_number_told, innermost_told, inner_told, numbers_told, path_told}
use Rattle.artery_journal_reading.proofs.WordLaws.{not_word}

-- ---- places of dots

prefix_all : (q : ℕ → Bool) (xs : List ℕ) → list_all q xs ≡ true → prefix_len q xs ≡ length xs
prefix_all q [] h = refl
prefix_all q (x ∷ xs) h =
    let p = and_parts (q x) (list_all q xs) h in
    let ih = prefix_all q xs p.1 in
    rw p.0 (omega (arith, ih))

position_all : (p : ℕ → Bool) (xs : List ℕ) → list_all (λ x. not (p x)) xs ≡ true → position p xs ≡ None
position_all p xs h =
    let stop : position_or_len p xs ≡ length xs = prefix_all (λ x. not (p x)) xs h in
    let past : ltb (length xs) (length xs) ≡ false = le-ltb (length xs) (length xs) (omega arith) in
    rw (stop, past) refl

-- a number, a dot, and what stands behind it
abbrev dotted : ℕ → List ℕ → List ℕ
dotted a rest = decimal a ++ 46 ∷ rest

parted : (t : List ℕ) (at : ℕ) → position is_dot t ≡ Some at → t ≡ take at t ++ 46 ∷ drop (at + 1) t
parted t at h =
    let s = position-Some is_dot t at 0 h in
    let dot : get_or t at 0 ≡ 46 = eqb-true _ 46 s.1 in
    sym (take-append-drop at t) ∙ ap (λ ys. take at t ++ ys) (drop_more t at 0 s.0 ∙ ap (λ y. y ∷ drop (at + 1) t) dot)

-- ---- numbers of fields

range_is : (n : ℕ) → is_in_range 1 255 n ≡ true → (1 ≤ n) × (n ≤ 255)
range_is n h = (grind (arith, nat_tests), grind (arith, nat_tests))

in_range : (n : ℕ) → 1 ≤ n → n ≤ 255 → is_in_range 1 255 n ≡ true
in_range n a b = grind (arith, nat_tests)

number_small : (n : ℕ) → IsFieldNumber n → n < 2 ^ 64
number_small n v = omega (arith, v.1)

numbered : TextLaws → IsField field_number_told decimal IsFieldNumber Always
numbered l = kept_field number_of decimal IsNumber Always as_field_number IsFieldNumber (number_field l)
    (λ x y h v. let s = when_true (is_in_range 1 255 x) x y h in (range_is x s.0, s.1))
    (λ x v. (number_small x v, ap (λ b. cond b (Some x) None) (in_range x v.0 v.1)))

digit_no_dot : (b : ℕ) → is_ascii_digit b ≡ true → not (is_dot b) ≡ true
digit_no_dot b h = grind (arith, nat_tests)

no_dot : TextLaws → (a : ℕ) → IsFieldNumber a → list_all (λ b. not (is_dot b)) (decimal a) ≡ true
no_dot l a v = all_weaker is_ascii_digit (λ b. not (is_dot b)) digit_no_dot (decimal a) (digits (decimal a) a (l.numbers_read a (number_small a v)))

-- ---- texts of paths

two : (a b : ℕ) → dotted a (decimal b) ≡ path_text (paths.Inner a b)
two a b = sym (append_assoc (decimal a) (codes ".") (decimal b))

three : (a b c : ℕ) → dotted a (dotted b (decimal c)) ≡ path_text (paths.Innermost a b c)
three a b c =
    sym (append_assoc (decimal a ++ codes "." ++ decimal b) (codes ".") (decimal c)
    ∙ append_assoc (decimal a ++ codes ".") (decimal b) (46 ∷ decimal c)
    ∙ append_assoc (decimal a) (codes ".") (decimal b ++ 46 ∷ decimal c))

-- ---- what is read is what is spelled

innermost_is : TextLaws → (a b : ℕ) (t : List ℕ) (x : Path) → IsFieldNumber a → IsFieldNumber b → innermost_told a b t ≡ Some x → IsPath x × (dotted a (dotted b t) ≡ path_text x)
innermost_is l a b t x va vb h =
    let s = steps (field_number_told t) (λ c. Some (paths.Innermost a b c)) x h in
    let n = (numbered l).spelled t s.value s.first in
    subst (λ (x : Path). IsPath x × (dotted a (dotted b t) ≡ path_text x)) (some_is (paths.Innermost a b s.value) x s.then_)
    ((va, vb, n.0), ap (λ u. dotted a (dotted b u)) n.1 ∙ three a b s.value)

inner_is : TextLaws → (a : ℕ) (t : List ℕ) (o : Option ℕ) (x : Path) → IsFieldNumber a → position is_dot t ≡ o → inner_told a t o ≡ Some x → IsPath x × (dotted a t ≡ path_text x)
inner_is l a t None x va e h =
    let s = steps (field_number_told t) (λ b. Some (paths.Inner a b)) x h in
    let n = (numbered l).spelled t s.value s.first in
    subst (λ (x : Path). IsPath x × (dotted a t ≡ path_text x)) (some_is (paths.Inner a s.value) x s.then_)
    ((va, n.0), ap (dotted a) n.1 ∙ two a s.value)
inner_is l a t (Some at) x va e h =
    let s = steps (field_number_told (take at t)) (λ b. innermost_told a b (drop (at + 1) t)) x h in
    let n = (numbered l).spelled (take at t) s.value s.first in
    let r = innermost_is l a s.value (drop (at + 1) t) x va n.0 s.then_ in
    (r.0, ap (dotted a) (parted t at e ∙ ap (λ u. u ++ 46 ∷ drop (at + 1) t) n.1) ∙ r.1)

numbers_is : TextLaws → (t : List ℕ) (o : Option ℕ) (x : Path) → position is_dot t ≡ o → numbers_told t o ≡ Some x → IsPath x × (t ≡ path_text x)
numbers_is l t None x e h =
    let s = steps (field_number_told t) (λ a. Some (paths.Field a)) x h in
    let n = (numbered l).spelled t s.value s.first in
    subst (λ (x : Path). IsPath x × (t ≡ path_text x)) (some_is (paths.Field s.value) x s.then_) (n.0, n.1)
numbers_is l t (Some at) x e h =
    let rest = drop (at + 1) t in
    let s = steps (field_number_told (take at t)) (λ a. inner_told a rest (position is_dot rest)) x h in
    let n = (numbered l).spelled (take at t) s.value s.first in
    let r = inner_is l s.value rest (position is_dot rest) x n.0 refl s.then_ in
    (r.0, parted t at e ∙ ap (λ u. u ++ 46 ∷ rest) n.1 ∙ r.1)

path_is : TextLaws → (t : List ℕ) (x : Path) → path_told t ≡ Some x → IsPath x × (t ≡ path_text x)
unfolding path_told
path_is l t x h = word_row t (codes "-") paths.Message x _ (λ x. IsPath x × (t ≡ path_text x)) h (λ e. (tt, e)) (numbers_is l t (position is_dot t) x refl)

-- ---- what is spelled is read

dot_at : TextLaws → (a : ℕ) (rest : List ℕ) → IsFieldNumber a → position is_dot (dotted a rest) ≡ Some (length (decimal a))
dot_at l a rest v = position_at is_dot (decimal a) 46 rest (no_dot l a v) refl

inner_dotted : TextLaws → (a b : ℕ) (rest : List ℕ) → IsFieldNumber b → inner_told a (dotted b rest) (position is_dot (dotted b rest)) ≡ innermost_told a b rest
inner_dotted l a b rest v =
    let left = drop (length (decimal b) + 1) (dotted b rest) in
    ap (inner_told a (dotted b rest)) (dot_at l b rest v)
    ∙ ap (λ u. field_number_told u >>= λ c. innermost_told a c left) (take-append_seam (decimal b) (46 ∷ rest))
    ∙ ap (λ o. o >>= λ c. innermost_told a c left) ((numbered l).reads b v tt)
    ∙ ap (innermost_told a b) (behind (decimal b) 46 rest)

numbers_dotted : TextLaws → (a : ℕ) (rest : List ℕ) → IsFieldNumber a → numbers_told (dotted a rest) (position is_dot (dotted a rest)) ≡ inner_told a rest (position is_dot rest)
numbers_dotted l a rest v =
    let left = drop (length (decimal a) + 1) (dotted a rest) in
    ap (numbers_told (dotted a rest)) (dot_at l a rest v)
    ∙ ap (λ u. field_number_told u >>= λ a. inner_told a left (position is_dot left)) (take-append_seam (decimal a) (46 ∷ rest))
    ∙ ap (λ o. o >>= λ a. inner_told a left (position is_dot left)) ((numbered l).reads a v tt)
    ∙ ap (λ left. inner_told a left (position is_dot left)) (behind (decimal a) 46 rest)

field_back : TextLaws → (a : ℕ) → IsFieldNumber a → numbers_told (decimal a) (position is_dot (decimal a)) ≡ Some (paths.Field a)
field_back l a v =
    ap (numbers_told (decimal a)) (position_all is_dot (decimal a) (no_dot l a v))
    ∙ ap (λ o. o >>= λ a. Some (paths.Field a)) ((numbered l).reads a v tt)

inner_back : TextLaws → (a b : ℕ) → IsFieldNumber b → inner_told a (decimal b) (position is_dot (decimal b)) ≡ Some (paths.Inner a b)
inner_back l a b v =
    ap (inner_told a (decimal b)) (position_all is_dot (decimal b) (no_dot l b v))
    ∙ ap (λ o. o >>= λ b. Some (paths.Inner a b)) ((numbered l).reads b v tt)

innermost_back : TextLaws → (a b c : ℕ) → IsFieldNumber c → innermost_told a b (decimal c) ≡ Some (paths.Innermost a b c)
innermost_back l a b c v = ap (λ o. o >>= λ c. Some (paths.Innermost a b c)) ((numbered l).reads c v tt)

no_numbers : numbers_told (codes "-") (position is_dot (codes "-")) ≡ None
no_numbers = refl

whole : (t : List ℕ) (x : Path) → numbers_told t (position is_dot t) ≡ Some x → path_told t ≡ Some x
unfolding path_told
whole t x h =
    ap (λ c. cond c (Some paths.Message) (numbers_told t (position is_dot t))) (not_word (λ t. numbers_told t (position is_dot t)) (codes "-") no_numbers t x h) ∙ h

path_back : TextLaws → (x : Path) → IsPath x → path_told (path_text x) ≡ Some x
unfolding path_told
path_back l paths.Message v = refl
path_back l (paths.Field a) v = whole (decimal a) (paths.Field a) (field_back l a v)
path_back l (paths.Inner a b) v =
    ap path_told (sym (two a b))
    ∙ whole (dotted a (decimal b)) (paths.Inner a b) (numbers_dotted l a (decimal b) v.0 ∙ inner_back l a b v.1)
path_back l (paths.Innermost a b c) v =
    ap path_told (sym (three a b c))
    ∙ whole (dotted a (dotted b (decimal c))) (paths.Innermost a b c)
    (numbers_dotted l a (dotted b (decimal c)) v.0 ∙ inner_dotted l a b (decimal c) v.1 ∙ innermost_back l a b c v.2)

number_no_space : TextLaws → (a : ℕ) → IsFieldNumber a → NoSpace (decimal a)
number_no_space l a v = token_no_space (decimal a) (l.number_tokens a (number_small a v))

path_token : TextLaws → (x : Path) → IsPath x → NoSpace (path_text x)
path_token l paths.Message v = refl
path_token l (paths.Field a) v = number_no_space l a v
path_token l (paths.Inner a b) v =
    both_no_space (decimal a ++ codes ".") (decimal b) (both_no_space (decimal a) (codes ".") (number_no_space l a v.0) refl) (number_no_space l b v.1)
path_token l (paths.Innermost a b c) v =
    both_no_space (decimal a ++ codes "." ++ decimal b ++ codes ".") (decimal c)
    (both_no_space (decimal a ++ codes "." ++ decimal b) (codes ".")
    (both_no_space (decimal a ++ codes ".") (decimal b) (both_no_space (decimal a) (codes ".") (number_no_space l a v.0) refl) (number_no_space l b v.1)) refl)
    (number_no_space l c v.2)

pub path_field : TextLaws → IsField path_told path_text IsPath Always
path_field l = record { spelled = path_is l; reads = λ x v b. path_back l x v; token = λ x v b. path_token l x v }
