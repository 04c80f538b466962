-- The frames of lines, made one after the other.
use Rattle.std.proofs.Common.{◌≡◌, ℕ, ◌+◌, Bool, true, false, List, [], ◌∷◌, ◌++◌, Option, Some, None, Result, Ok, Err, refl, sym, ap, subst, ◌∙◌, append_assoc}
use Rattle.std.specs.Prelude.{option_map}
use Rattle.std.proofs.lemmas.List.{append-nil}
use Rattle.artery_text.specs.Reading.{Gives, Unless}
use Rattle.artery_frame.specs.Stream.{preamble}
use Rattle.artery_making.specs.declared.fault.MakeFault.{MakeFault}
use Rattle.artery_making.specs.Made.{frame_told, stream_told, told_at, at_line, before_others, frames_from, stream_from, make_memory}

-- ---- the first line

begins : (n : ℕ) (o : Option (List ℕ)) (out : List ℕ) (others : Result (List ℕ) MakeFault) → told_at n o ≡ Ok out → at_line n o others ≡ before_others out others
begins n None out others h = absurd cc
begins n (Some bytes) out others h = let same : bytes ≡ out = cc in ap (λ (b : List ℕ). before_others b others) same

-- a good first line, and what the others tell
pub begun : (first : List ℕ) (whole left : List (List ℕ)) (out : List ℕ) (r : Result (List ℕ) MakeFault)
    → whole ≡ first ∷ left → told_at 1 (option_map preamble (stream_told first)) ≡ Ok out
    → Gives make_memory r (before_others out (frames_from 2 left)) → Gives make_memory r (stream_from whole)
begun first whole left out r e h g =
    let P : Result (List ℕ) MakeFault → Type 0 = λ x. Gives make_memory r x in
    subst P (sym (ap stream_from e ∙ begins 1 (option_map preamble (stream_told first)) out (frames_from 2 left) h)) g

stops : (b : Bool) (n : ℕ) (o : Option (List ℕ)) (fault : MakeFault) (others : Result (List ℕ) MakeFault) → Unless b (told_at n o ≡ Err fault) → Unless b (at_line n o others ≡ Err fault)
stops true n o fault others h = tt
stops false n None fault others h = h
stops false n (Some bytes) fault others h = absurd cc

-- a bad first line
pub not_begun : (first : List ℕ) (whole left : List (List ℕ)) (fault : MakeFault)
    → whole ≡ first ∷ left → Gives make_memory (Err fault) (told_at 1 (option_map preamble (stream_told first)))
    → Gives make_memory (Err fault) (stream_from whole)
not_begun first whole left fault e h =
    let P : Result (List ℕ) MakeFault → Type 0 = λ x. Gives make_memory (Err fault) x in
    subst P (sym (ap stream_from e)) (stops (make_memory fault) 1 (option_map preamble (stream_told first)) fault (frames_from 2 left) h)

-- ---- the others

goes : (n : ℕ) (o : Option (List ℕ)) (out new : List ℕ) (others : Result (List ℕ) MakeFault)
    → told_at n (option_map (λ bytes. out ++ bytes) o) ≡ Ok new → before_others new others ≡ before_others out (at_line n o others)
goes n None out new others h = absurd cc
goes n (Some bytes) out new (Ok others) h =
    let same : new ≡ out ++ bytes = cc in
    ap (λ (b : List ℕ). Ok (b ++ others)) same ∙ ap (λ (b : List ℕ). Ok b) (append_assoc out bytes others)
goes n (Some bytes) out new (Err fault) h = refl

-- a good line, and what the others tell
pub line_on : (out new : List ℕ) (n : ℕ) (line : List ℕ) (old left : List (List ℕ)) (total : Result (List ℕ) MakeFault)
    → old ≡ line ∷ left → told_at n (option_map (λ bytes. out ++ bytes) (frame_told line)) ≡ Ok new
    → before_others out (frames_from n old) ≡ total → before_others new (frames_from (n + 1) left) ≡ total
line_on out new n line old left total e h so_far =
    goes n (frame_told line) out new (frames_from (n + 1) left) h ∙ sym (ap (λ (ls : List (List ℕ)). before_others out (frames_from n ls)) e) ∙ so_far

fails : (b : Bool) (n : ℕ) (o : Option (List ℕ)) (out : List ℕ) (fault : MakeFault) (others total : Result (List ℕ) MakeFault)
    → Unless b (told_at n (option_map (λ bytes. out ++ bytes) o) ≡ Err fault) → before_others out (at_line n o others) ≡ total → Unless b (total ≡ Err fault)
fails true n o out fault others total h so_far = tt
fails false n None out fault others total h so_far = sym so_far ∙ h
fails false n (Some bytes) out fault others total h so_far = absurd cc

-- a bad line
pub line_fails : (out : List ℕ) (n : ℕ) (line : List ℕ) (fault : MakeFault) (old left : List (List ℕ)) (total : Result (List ℕ) MakeFault)
    → old ≡ line ∷ left → Gives make_memory (Err fault) (told_at n (option_map (λ bytes. out ++ bytes) (frame_told line)))
    → before_others out (frames_from n old) ≡ total → Gives make_memory (Err fault) total
line_fails out n line fault old left total e h so_far =
    fails (make_memory fault) n (frame_told line) out fault (frames_from (n + 1) left) total h
    (sym (ap (λ (ls : List (List ℕ)). before_others out (frames_from n ls)) e) ∙ so_far)

-- behind the last line
pub lines_end : (out : List ℕ) (n : ℕ) (old : List (List ℕ)) (total : Result (List ℕ) MakeFault)
    → old ≡ [] → before_others out (frames_from n old) ≡ total → total ≡ Ok out
lines_end out n old total e so_far =
    sym so_far ∙ ap (λ (ls : List (List ℕ)). before_others out (frames_from n ls)) e ∙ ap (λ (b : List ℕ). Ok b) (append-nil out)
