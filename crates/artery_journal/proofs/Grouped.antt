-- What is appended in two steps.
use Rattle.std.proofs.Common.{◌≡◌, ℕ, List, ◌++◌, Result, Ok, Err, ◌∙◌, append_assoc}
use Rattle.std.specs.Prelude.{OnOk}

-- two pieces behind old bytes are one piece behind them
pub grouped : {T E : Type 0} (r : Result T E) (old first second new : List ℕ) → OnOk r (new ≡ old ++ first ++ second) → OnOk r (new ≡ old ++ (first ++ second))
grouped (Ok x) old first second new h = h ∙ append_assoc old first second
grouped (Err e) old first second new h = tt
