-- What a token tells, where reading it fails.
use Rattle.std.proofs.Common.{◌≡◌, ℕ, ◌≤◌, Bool, true, false, eqb, List, [], ◌∷◌, length, drop, Option, Result, Err, refl, sym, ap, subst, ◌∙◌, arith}
use Rattle.std.specs.Prelude.{slice_index}
use Rattle.std.specs.Result.{result_ok}
use Rattle.artery_text.specs.declared.fault.WordFault.{WordFault}
use Rattle.artery_text.specs.Reading.{Gives, Unless, word_memory}
use Rattle.artery_header.specs.Envelope.{NameOf}
use Rattle.artery_lines.specs.declared.fault.LineFault.{LineFault}
use Rattle.artery_lines.specs.Lines.{Tells, line_fault, ◌>>=◌}
use Rattle.artery_making.specs.declared.told.ToldName.{ToldName}
use Rattle.artery_making.specs.Made.{TellsAs, ascii_name, index_told, literal_told, name_told, told_name}

-- a fault of hexadecimal, as one of the line
pub tells_hex : (e : WordFault) (read : Result (List ℕ) WordFault) → Gives word_memory (Err e) read → Tells (Err (line_fault (word_memory e))) (result_ok read)
tells_hex e read h = by (word_memory e) h
  where
    by : (b : Bool) → Unless b (read ≡ Err e) → Tells (Err (line_fault b)) (result_ok read)
    by true h = tt
    by false h = ap result_ok h

-- the same for a word that is a literal
pub tells_literal : (e : WordFault) (read : Result (List ℕ) WordFault) → Gives word_memory (Err e) read → TellsAs told_name (Err (line_fault (word_memory e))) (result_ok read >>= ascii_name)
tells_literal e read h = by (word_memory e) h
  where
    by : (b : Bool) → Unless b (read ≡ Err e) → TellsAs told_name (Err (line_fault b)) (result_ok read >>= ascii_name)
    by true h = tt
    by false h = ap (λ (r : Result (List ℕ) WordFault). result_ok r >>= ascii_name) h

is_index : (b : ℕ) (rest : List ℕ) → eqb b 64 ≡ true → name_told (b ∷ rest) ≡ index_told rest
is_index b rest h = rw h refl

is_literal : (b : ℕ) (rest : List ℕ) → eqb b 64 ≡ false → name_told (b ∷ rest) ≡ literal_told (b ∷ rest)
is_literal b rest h = rw h refl

-- a token that begins with `@` tells a place in a table
pub tells_index : (token digits : List ℕ) (r : Result ToldName LineFault) → 1 ≤ length token → eqb (slice_index token 0) 64 ≡ true → digits ≡ drop 1 token
    → TellsAs told_name r (index_told digits) → TellsAs told_name r (name_told token)
tells_index [] digits r some h e t = absurd (omega (arith, some))
tells_index (b ∷ rest) digits r some h e t =
    let P : Option NameOf → Type 0 = TellsAs told_name r in
    subst P (ap index_told e ∙ sym (is_index b rest h)) t

-- any other token tells a literal, if anything
pub tells_name : (token : List ℕ) (r : Result ToldName LineFault) → 1 ≤ length token → eqb (slice_index token 0) 64 ≡ false
    → TellsAs told_name r (literal_told token) → TellsAs told_name r (name_told token)
tells_name [] r some h t = absurd (omega (arith, some))
tells_name (b ∷ rest) r some h t =
    let P : Option NameOf → Type 0 = TellsAs told_name r in
    subst P (sym (is_literal b rest h)) t
