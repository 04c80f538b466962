-- A text that is cut at its spaces or its line feeds.
use Rattle.std.proofs.Common.{◌≡◌, ℕ, ◌+◌, ◌<◌, Bool, true, false, not, eqb, ltb, List, [], ◌∷◌, ◌++◌, length, take, drop, Option, Some, None, Result, Err, refl, sym, ap, ◌∙◌, arith}
use Rattle.std.specs.Prelude.{position}
use Rattle.std.specs.List.{list_all, position_or_len, slice_split, onto_first}
use Rattle.std.specs.Result.{result_ok}
use Rattle.std.proofs.lemmas.Bool.{and_parts, ltb-true}
use Rattle.std.proofs.lemmas.Bool.Decides.{nat_tests}
use Rattle.std.proofs.lemmas.List.{length-drop}
use Rattle.std.proofs.lemmas.List.Splits.{slice_split_first, slice_split-cons_no, slice_split-cons_yes, length-slice_split}
use Rattle.artery_base.specs.declared.address.Address.{Address}
use Rattle.artery_text.specs.declared.fault.AddressFault.{AddressFault}
use Rattle.artery_text.specs.declared.fault.WordFault.{WordFault}
use Rattle.artery_text.specs.Reading.{Gives, Unless, address_memory, word_memory}
use Rattle.artery_lines.proofs.Firsts.{position_none, when_some, not_zero}
use Rattle.artery_lines.specs.Lines.{is_space, tokens_of, is_feed, lines_of, without_empty_end, Tells, line_fault, ◌>>=◌}

-- ---- parts

-- what stands before the first separator is the first part
pub part_at : (p : ℕ → Bool) (text : List ℕ) (at : ℕ) → position p text ≡ Some at → slice_split p text ≡ take at text ∷ slice_split p (drop (at + 1) text)
part_at p text at h =
    let w = when_some (ltb (position_or_len p text) (length text)) (position_or_len p text) at h in
    rw (← w.1) (slice_split_first p text 0 (ltb-true _ _ w.0))

not_is : (b : Bool) → not b ≡ true → b ≡ false
not_is true h = absurd cc
not_is false h = refl

-- a part that no separator is in
pub whole_part : (p : ℕ → Bool) (text : List ℕ) → list_all (λ x. not (p x)) text ≡ true → slice_split p text ≡ text ∷ []
whole_part p [] h = refl
whole_part p (x ∷ xs) h =
    let s = and_parts (not (p x)) (list_all (λ x. not (p x)) xs) h in
    slice_split-cons_no p x xs (not_is (p x) s.0) ∙ ap (onto_first x) (whole_part p xs s.1)

-- the same, with a separator behind it
pub first_part : (p : ℕ → Bool) (text : List ℕ) (mark : ℕ) (rest : List ℕ) → list_all (λ x. not (p x)) text ≡ true → p mark ≡ true
    → slice_split p (text ++ mark ∷ rest) ≡ text ∷ slice_split p rest
first_part p [] mark rest h m = slice_split-cons_yes p mark rest m
first_part p (x ∷ xs) mark rest h m =
    let s = and_parts (not (p x)) (list_all (λ x. not (p x)) xs) h in
    slice_split-cons_no p x (xs ++ mark ∷ rest) (not_is (p x) s.0) ∙ ap (onto_first x) (first_part p xs mark rest s.1 m)

-- a text without a separator is one part
pub part_none : (p : ℕ → Bool) (text : List ℕ) → position p text ≡ None → slice_split p text ≡ text ∷ []
part_none p text h = whole_part p text (position_none p text h)

-- there is at least one part
pub parts_some : (p : ℕ → Bool) (text : List ℕ) → 0 < length (slice_split p text)
parts_some p text = omega (arith, length-slice_split p text)

-- ---- tokens

-- the token before the first space
pub cut_at : (text : List ℕ) (at : ℕ) → position is_space text ≡ Some at → tokens_of text ≡ take at text ∷ tokens_of (drop (at + 1) text)
cut_at text at h = part_at is_space text at h

-- a line without a space is one token
pub cut_none : (text : List ℕ) → position is_space text ≡ None → tokens_of text ≡ text ∷ []
cut_none text h = part_none is_space text h

-- a line has at least one token
pub cuts_some : (text : List ℕ) → eqb (length (tokens_of text)) 0 ≡ false
cuts_some text =
    let some : 0 < length (tokens_of text) = parts_some is_space text in
    grind (arith, nat_tests, some)

-- ---- lines

onto_others : (line : List ℕ) (parts : List (List ℕ)) → 0 < length parts → without_empty_end (line ∷ parts) ≡ line ∷ without_empty_end parts
onto_others line [] h = absurd (omega arith)
onto_others line (next ∷ rest) h = refl

-- the line before the first line feed
pub line_at : (text : List ℕ) (at : ℕ) → position is_feed text ≡ Some at → lines_of text ≡ take at text ∷ lines_of (drop (at + 1) text)
line_at text at h =
    ap without_empty_end (part_at is_feed text at h)
    ∙ onto_others (take at text) (slice_split is_feed (drop (at + 1) text)) (parts_some is_feed (drop (at + 1) text))

-- an empty text has no line
pub no_line : (text : List ℕ) → length text ≡ 0 → lines_of text ≡ []
no_line [] h = refl
no_line (b ∷ rest) h = absurd (omega arith)

last : (text : List ℕ) → 0 < length text → without_empty_end (text ∷ []) ≡ text ∷ []
last [] h = absurd (omega arith)
last (b ∷ rest) h = rw (not_zero (length rest)) refl

-- a text without a line feed is one line
pub line_last : (text : List ℕ) → 0 < length text → position is_feed text ≡ None → lines_of text ≡ text ∷ lines_of (drop (length text) text)
line_last text some h =
    let none : lines_of (drop (length text) text) ≡ [] = no_line (drop (length text) text) (omega (arith, length-drop (length text) text)) in
    ap without_empty_end (part_none is_feed text h) ∙ last text some ∙ ap (λ (ls : List (List ℕ)). text ∷ ls) (sym none)

-- ---- faults

-- a fault of a part, as one of the line
pub told_part : {X E : Type 0} (b : Bool) (e : E) (read : Result X E) → Unless b (read ≡ Err e) → Tells (Err (line_fault b)) (result_ok read)
told_part true e read h = tt
told_part false e read h = ap result_ok h

-- the same for an address
pub tells_address : (e : AddressFault) (read : Result Address AddressFault) → Gives address_memory (Err e) read → Tells (Err (line_fault (address_memory e))) (result_ok read)
tells_address e read h = told_part (address_memory e) e read h

-- where a part is at fault, so is what is read from it
pub stays_none : {X Y : Type 0} (b : Bool) (o : Option X) (f : X → Option Y) → Tells (Err (line_fault b)) o → Tells (Err (line_fault b)) (o >>= f)
stays_none true o f h = tt
stays_none false o f h = ap (λ x. x >>= f) h

-- the same for a word or hexadecimal
pub tells_bytes : (e : WordFault) (read : Result (List ℕ) WordFault) (f : List ℕ → Option (List ℕ)) → Gives word_memory (Err e) read → Tells (Err (line_fault (word_memory e))) (result_ok read >>= f)
tells_bytes e read f h = stays_none (word_memory e) (result_ok read) f (told_part (word_memory e) e read h)
