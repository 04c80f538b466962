-- What is read is the line that is spelled.
use Rattle.std.proofs.Common.{◌≡◌, ℕ, List, Option, Some, Result, Ok, Err, ap, ◌∙◌, subst}
use Rattle.std.specs.Prelude.{IfOk}
use Rattle.artery_lines.specs.declared.fault.LineFault.{LineFault}
use Rattle.artery_lines.specs.Lines.{Tells}

pub found : {X : Type 0} (told : List ℕ → Option X) (spell : X → List ℕ) (Valid : X → Type 0) → ((text : List ℕ) (x : X) → told text ≡ Some x → Valid x × (text ≡ spell x))
    → (text : List ℕ) (r : Result X LineFault) → Tells r (told text) → IfOk r (λ x. Valid x × (text ≡ spell x))
found told spell Valid l text (Ok x) h = l text x h
found told spell Valid l text (Err fault) h = tt

pub only : {X : Type 0} (told : List ℕ → Option X) (spell : X → List ℕ) (Valid HasBytes : X → Type 0) → ((x : X) → Valid x → HasBytes x → told (spell x) ≡ Some x)
    → (text : List ℕ) (x : X) (r : Result X LineFault) → Tells r (told text) → Valid x → HasBytes x → text ≡ spell x → Tells r (Some x)
only told spell Valid HasBytes l text x r h v b e = subst (λ o. Tells r o) (ap told e ∙ l x v b) h
