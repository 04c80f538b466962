-- Parts that grow line by line are those of all that the lines tell.
use Rattle.std.proofs.Common.{◌≡◌, ℕ, suc, ◌+◌, ◌-◌, Bool, true, false, ◌||◌, List, [], ◌∷◌, ◌++◌, length, Result, Ok, refl, ap, sym, ◌∙◌, arith}
use Rattle.std.specs.Prelude.{Option, Some, None, option_map, slice_get}
use Rattle.std.specs.List.{list_any}
use Rattle.artery_base.specs.Words.{◌>>=◌}
use Rattle.artery_base.specs.declared.address.UniqueAddress.{UniqueAddress}
use Rattle.artery_journal.specs.declared.line.Line.{Line}
use Rattle.artery_judge.specs.Lines.{same, of}
use Rattle.artery_audit.specs.declared.part.Part.{Part}
use Rattle.artery_audit.specs.Parts.{last_is, last_part, takes, has_part, begun, lined_at, with_line}
use Rattle.artery_parts_reading.specs.declared.told.Told.{Told}
use Rattle.artery_parts_reading.specs.declared.told.Told.TheVariants as says
use Rattle.artery_parts_reading.specs.declared.fault.PartsFault.{PartsFault}
use Rattle.artery_parts_reading.specs.Lines.{told_of, is_begin, last_begun, is_the, good_behind}
use Rattle.artery_parts_reading.specs.Parts.{at_line, told_from, lines_in, parts_in, parts_told}
use Rattle.artery_parts_reading.specs.Gathering.{with_said}
use Rattle.artery_parts_reading.proofs.Turns.{parts_from}

-- ---- the last of several parts

next_place : (q : Part) (ps : List Part) (p : Part) → length (p ∷ q ∷ ps) - 1 ≡ suc (length (q ∷ ps) - 1)
next_place q ps p = omega arith

last_later : (p q : Part) (ps : List Part) → last_part (p ∷ q ∷ ps) ≡ last_part (q ∷ ps)
last_later p q ps = ap (slice_get (p ∷ q ∷ ps)) (next_place q ps p)

with_line_later : (l : Line) (p q : Part) (ps : List Part) → with_line l (p ∷ q ∷ ps) ≡ p ∷ with_line l (q ∷ ps)
with_line_later l p q ps = ap (λ k. lined_at k l (p ∷ q ∷ ps) (slice_get (p ∷ q ∷ ps) k)) (next_place q ps p) ∙ by (last_part (q ∷ ps))
  where
    by : (o : Option Part) → lined_at (suc (length (q ∷ ps) - 1)) l (p ∷ q ∷ ps) o ≡ p ∷ lined_at (length (q ∷ ps) - 1) l (q ∷ ps) o
    by None = refl
    by (Some r) = refl

-- ---- what lines have begun

none_begun : (ts : List Told) → last_begun ts ≡ None → parts_in ts ≡ []
none_begun [] h = refl
none_begun (says.Of u ∷ ts) h = cc
none_begun (says.Line l ∷ ts) h = none_begun ts h

some_begun : (ts : List Told) (v : UniqueAddress) → last_begun ts ≡ Some v → (q : Part) × (ps : List Part) × (parts_in ts ≡ q ∷ ps)
some_begun [] v h = cc
some_begun (says.Of u ∷ ts) v h = (record { of = u; lines = lines_in ts }, parts_in ts, refl)
some_begun (says.Line l ∷ ts) v h = some_begun ts v h

some_is : {X : Type 0} {x y : X} → Some x ≡ Some y → x ≡ y
some_is e = cc

last_same : (ts : List Told) → option_map (λ p. p.of) (last_part (parts_in ts)) ≡ last_begun ts
last_same [] = refl
last_same (says.Line l ∷ ts) = last_same ts
last_same (says.Of u ∷ ts) = by (last_begun ts) refl (last_same ts)
  where
    p : Part
    p = record { of = u; lines = lines_in ts }

    by : (o : Option UniqueAddress) → last_begun ts ≡ o → option_map (λ r. r.of) (last_part (parts_in ts)) ≡ last_begun ts → option_map (λ r. r.of) (last_part (p ∷ parts_in ts)) ≡ last_begun (says.Of u ∷ ts)
    by None is rest = rw (is, none_begun ts is) refl
    by (Some v) is rest =
        let q = some_begun ts v is in
        ap (λ (ps : List Part). option_map (λ r. r.of) (last_part (p ∷ ps))) q.2 ∙ ap (option_map (λ r. r.of)) (last_later p q.0 q.1)
        ∙ ap (λ (ps : List Part). option_map (λ r. r.of) (last_part ps)) (sym q.2) ∙ rest ∙ is ∙ rw is refl

last_is_the : (u : UniqueAddress) (o : Option Part) → last_is u o ≡ is_the u (option_map (λ p. p.of) o)
last_is_the u None = refl
last_is_the u (Some p) = refl

takes_same : (l : Line) (ts : List Told) → takes l (parts_in ts) ≡ is_the (of l) (last_begun ts)
takes_same l ts = last_is_the (of l) (last_part (parts_in ts)) ∙ ap (is_the (of l)) (last_same ts)

has_same : (u : UniqueAddress) (ts : List Told) → has_part u (parts_in ts) ≡ list_any (is_begin u) ts
has_same u [] = refl
has_same u (says.Of v ∷ ts) = ap (λ b. same v u || b) (has_same u ts)
has_same u (says.Line l ∷ ts) = has_same u ts

-- ---- one line more

lines_before : (ts : List Told) (u : UniqueAddress) → lines_in (ts ++ says.Of u ∷ []) ≡ lines_in ts
lines_before [] u = refl
lines_before (says.Of v ∷ ts) u = refl
lines_before (says.Line l ∷ ts) u = ap (λ (ls : List Line). l ∷ ls) (lines_before ts u)

part_more : (ts : List Told) (u : UniqueAddress) → parts_in (ts ++ says.Of u ∷ []) ≡ parts_in ts ++ begun u ∷ []
part_more [] u = refl
part_more (says.Of v ∷ ts) u = λ i. record { of = v; lines = lines_before ts u i } ∷ part_more ts u i
part_more (says.Line l ∷ ts) u = part_more ts u

lines_on : (ts : List Told) (l : Line) → last_begun ts ≡ None → lines_in (ts ++ says.Line l ∷ []) ≡ lines_in ts ++ l ∷ []
lines_on [] l h = refl
lines_on (says.Of v ∷ ts) l h = cc
lines_on (says.Line x ∷ ts) l h = ap (λ (ls : List Line). x ∷ ls) (lines_on ts l h)

lines_stay : (ts : List Told) (l : Line) (v : UniqueAddress) → last_begun ts ≡ Some v → lines_in (ts ++ says.Line l ∷ []) ≡ lines_in ts
lines_stay [] l v h = cc
lines_stay (says.Of w ∷ ts) l v h = refl
lines_stay (says.Line x ∷ ts) l v h = ap (λ (ls : List Line). x ∷ ls) (lines_stay ts l v h)

parts_stay : (ts : List Told) (l : Line) → last_begun ts ≡ None → parts_in (ts ++ says.Line l ∷ []) ≡ []
parts_stay [] l h = refl
parts_stay (says.Of w ∷ ts) l h = cc
parts_stay (says.Line x ∷ ts) l h = parts_stay ts l h

line_more : (ts : List Told) (l : Line) (v : UniqueAddress) → last_begun ts ≡ Some v → with_line l (parts_in ts) ≡ parts_in (ts ++ says.Line l ∷ [])
line_more [] l v h = cc
line_more (says.Line x ∷ ts) l v h = line_more ts l v h
line_more (says.Of u ∷ ts) l v h = by (last_begun ts) refl (line_more ts l)
  where
    p : Part
    p = record { of = u; lines = lines_in ts }

    by : (o : Option UniqueAddress) → last_begun ts ≡ o → ((w : UniqueAddress) → last_begun ts ≡ Some w → with_line l (parts_in ts) ≡ parts_in (ts ++ says.Line l ∷ [])) → with_line l (p ∷ parts_in ts) ≡ record { of = u; lines = lines_in (ts ++ says.Line l ∷ []) } ∷ parts_in (ts ++ says.Line l ∷ [])
    by None is rest = ap (λ (ps : List Part). with_line l (p ∷ ps)) (none_begun ts is) ∙ sym (λ i. record { of = u; lines = lines_on ts l is i } ∷ parts_stay ts l is i)
    by (Some w) is rest =
        let q = some_begun ts w is in
        ap (λ (ps : List Part). with_line l (p ∷ ps)) q.2 ∙ with_line_later l p q.0 q.1 ∙ ap (λ (ps : List Part). p ∷ with_line l ps) (sym q.2) ∙ ap (λ (ps : List Part). p ∷ ps) (rest w is)
        ∙ ap (λ (ls : List Line). record { of = u; lines = ls } ∷ parts_in (ts ++ says.Line l ∷ [])) (sym (lines_stay ts l w is))

-- ---- all lines

abbrev as_parts : Result (List Told) PartsFault → Result (List Part) PartsFault
as_parts told = told >>= λ ts. Ok (parts_in ts)

-- the rest of the lines, both ways
abbrev Rest : List (List ℕ) → Type 0
Rest lines = (before : List Told) (n : ℕ) → parts_from (parts_in before) n lines ≡ as_parts (told_from before n lines)

-- one line, that tells this
abbrev one_more : List Told → ℕ → List (List ℕ) → Option Told → Type 0
one_more before n lines o = (at_line n (with_said (parts_in before) o) >>= λ ps. parts_from ps (n + 1) lines) ≡ as_parts (at_line n (good_behind before o) >>= λ t. told_from (before ++ t ∷ []) (n + 1) lines)

begins_one : (before : List Told) (n : ℕ) (lines : List (List ℕ)) (u : UniqueAddress) → Rest lines → (b : Bool) → list_any (is_begin u) before ≡ b → one_more before n lines (Some (says.Of u))
begins_one before n lines u rest true is = rw (has_same u before, is) refl
begins_one before n lines u rest false is = rw (has_same u before, is) (ap (λ ps. parts_from ps (n + 1) lines) (sym (part_more before u)) ∙ rest (before ++ says.Of u ∷ []) (n + 1))

line_one : (before : List Told) (n : ℕ) (lines : List (List ℕ)) (l : Line) → Rest lines → (o : Option UniqueAddress) → last_begun before ≡ o → (b : Bool) → is_the (of l) o ≡ b → one_more before n lines (Some (says.Line l))
line_one before n lines l rest o at false is = rw (takes_same l before, at, is) refl
line_one before n lines l rest None at true is = cc
line_one before n lines l rest (Some v) at true is = rw (takes_same l before, at, is) (ap (λ ps. parts_from ps (n + 1) lines) (line_more before l v at) ∙ rest (before ++ says.Line l ∷ []) (n + 1))

one_told : (before : List Told) (n : ℕ) (lines : List (List ℕ)) (o : Option Told) → Rest lines → one_more before n lines o
one_told before n lines None rest = refl
one_told before n lines (Some (says.Of u)) rest = begins_one before n lines u rest (list_any (is_begin u) before) refl
one_told before n lines (Some (says.Line l)) rest = line_one before n lines l rest (last_begun before) refl (is_the (of l) (last_begun before)) refl

same_from : (lines : List (List ℕ)) → Rest lines
same_from [] before n = refl
same_from (line ∷ lines) before n = one_told before n lines (told_of line) (same_from lines)

pub same_parts : (lines : List (List ℕ)) → parts_from [] 1 lines ≡ parts_told lines
same_parts lines = same_from lines [] 1
