-- A buffer that only grows.
use Rattle.std.proofs.Common.{◌≡◌, ℕ, ◌+◌, ◌≤◌, List, ◌++◌, length, take, refl, sym, ap, ◌∙◌, arith, append_assoc, Result, Ok, Err, OnOk}
use Rattle.std.proofs.lemmas.List.{length-append, length-take, take-append-le, take-take, take_at}

-- the old bytes still stand in front
pub keeps_front : (first out more new : List ℕ) → take (length first) out ≡ first → new ≡ out ++ more → take (length first) new ≡ first
keeps_front first out more new h e =
    let long : length first ≤ length out = omega (arith, sym (ap length h) ∙ length-take (length first) out) in
    rw e (take-append-le (length first) out more long ∙ h)

-- twice
pub keeps_on : (first out more new : List ℕ) → out ≡ first ++ more → take (length out) new ≡ out → take (length first) new ≡ first
keeps_on first out more new e h =
    let len : length out ≡ length first + length more = ap length e ∙ length-append first more in
    let again : take (length first) (take (length out) new) ≡ take (length first) new = take-take (length first) (length out) new (omega arith) in
    sym again ∙ ap (take (length first)) h ∙ ap (take (length first)) e ∙ take_at first more (length first) refl

-- what was kept up to here, and from here on, was kept
pub keeps_through : (first out new : List ℕ) → take (length first) out ≡ first → take (length out) new ≡ out → take (length first) new ≡ first
keeps_through first out new h e =
    let long : length first ≤ length out = omega (arith, sym (ap length h) ∙ length-take (length first) out) in
    let again : take (length first) (take (length out) new) ≡ take (length first) new = take-take (length first) (length out) new (omega arith) in
    sym again ∙ ap (take (length first)) e ∙ h

-- two parts that were appended one after the other
pub two_parts : {T E : Type 0} (r : Result T E) (out first second mid new : List ℕ) → mid ≡ out ++ first → OnOk r (new ≡ mid ++ second) → OnOk r (new ≡ out ++ (first ++ second))
two_parts (Ok x) out first second mid new w h = h ∙ ap (λ (o : List ℕ). o ++ second) w ∙ append_assoc out first second
two_parts (Err e) out first second mid new w h = tt

-- three parts
pub three_parts : {T E : Type 0} (r : Result T E) (out first second third one two new : List ℕ) → one ≡ out ++ first → two ≡ one ++ second → OnOk r (new ≡ two ++ third)
    → OnOk r (new ≡ out ++ ((first ++ second) ++ third))
three_parts (Ok x) out first second third one two new v w h =
    h ∙ ap (λ (o : List ℕ). o ++ third) (w ∙ ap (λ (o : List ℕ). o ++ second) v ∙ append_assoc out first second) ∙ append_assoc out (first ++ second) third
three_parts (Err e) out first second third one two new v w h = tt
