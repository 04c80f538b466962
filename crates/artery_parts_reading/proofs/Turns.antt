-- The lines of a text, read one after the other.
use Rattle.std.proofs.Common.{◌≡◌, ℕ, ◌+◌, Bool, true, false, List, [], ◌∷◌, Result, Ok, Err, sym, ap, ◌∙◌}
use Rattle.artery_base.specs.Words.{Unless, Gives, ◌>>=◌}
use Rattle.artery_audit.specs.declared.part.Part.{Part}
use Rattle.artery_parts_reading.specs.declared.fault.PartsFault.{PartsFault}
use Rattle.artery_parts_reading.specs.Parts.{parts_memory}
use Rattle.artery_parts_reading.specs.Gathering.{Gathering, with_text}

-- parts with what lines tell behind them, numbered from n on, or the first bad line
abbrev pub parts_from : List Part → ℕ → List (List ℕ) → Result (List Part) PartsFault
parts_from parts n [] = Ok parts
parts_from parts n (line ∷ lines) = with_text n line parts >>= λ ps. parts_from ps (n + 1) lines

one_line : (parts : List Part) (n : ℕ) (line : List ℕ) (old left : List (List ℕ)) (total : Result (List Part) PartsFault)
    → old ≡ line ∷ left → parts_from parts n old ≡ total → (with_text n line parts >>= λ ps. parts_from ps (n + 1) left) ≡ total
one_line parts n line old left total e so_far = sym (ap (parts_from parts n) e) ∙ so_far

pub read_on : (before after : Gathering) (n : ℕ) (line : List ℕ) (old left : List (List ℕ)) (total : Result (List Part) PartsFault)
    → old ≡ line ∷ left → with_text n line before.parts ≡ Ok after.parts → parts_from before.parts n old ≡ total → parts_from after.parts (n + 1) left ≡ total
read_on before after n line old left total e w so_far =
    sym (ap (λ (r : Result (List Part) PartsFault). r >>= λ ps. parts_from ps (n + 1) left) w) ∙ one_line before.parts n line old left total e so_far

fails : (b : Bool) (fault : PartsFault) (made total : Result (List Part) PartsFault) (go : List Part → Result (List Part) PartsFault) → Unless b (made ≡ Err fault) → (made >>= go) ≡ total → Unless b (total ≡ Err fault)
fails true fault made total go h so_far = tt
fails false fault made total go h so_far = sym so_far ∙ ap (λ (r : Result (List Part) PartsFault). r >>= go) h

pub read_fails : (parts : List Part) (n : ℕ) (line : List ℕ) (fault : PartsFault) (old left : List (List ℕ)) (total : Result (List Part) PartsFault)
    → old ≡ line ∷ left → Unless (parts_memory fault) (with_text n line parts ≡ Err fault) → parts_from parts n old ≡ total → Gives parts_memory (Err fault) total
read_fails parts n line fault old left total e h so_far =
    fails (parts_memory fault) fault (with_text n line parts) total (λ ps. parts_from ps (n + 1) left) h (one_line parts n line old left total e so_far)

pub read_end : (parts : List Part) (n : ℕ) (old : List (List ℕ)) (total : Result (List Part) PartsFault) → old ≡ [] → parts_from parts n old ≡ total → total ≡ Ok parts
read_end parts n old total e so_far = sym so_far ∙ ap (parts_from parts n) e
