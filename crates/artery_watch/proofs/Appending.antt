-- A buffer that only grows.
use Rattle.std.proofs.Common.{◌≡◌, ℕ, ◌+◌, ◌≤◌, List, ◌++◌, length, take, refl, sym, ap, ◌∙◌, arith}
use Rattle.std.proofs.lemmas.List.{length-append, length-take, take-append-le, take-take, take_at}

-- the old bytes still stand in front
pub keeps_front : (first out more new : List ℕ) → take (length first) out ≡ first → new ≡ out ++ more → take (length first) new ≡ first
keeps_front first out more new h e =
    let long : length first ≤ length out = omega (arith, sym (ap length h) ∙ length-take (length first) out) in
    rw e (take-append-le (length first) out more long ∙ h)

-- twice
pub keeps_on : (first out more new : List ℕ) → out ≡ first ++ more → take (length out) new ≡ out → take (length first) new ≡ first
keeps_on first out more new e h =
    let len : length out ≡ length first + length more = ap length e ∙ length-append first more in
    let again : take (length first) (take (length out) new) ≡ take (length first) new = take-take (length first) (length out) new (omega arith) in
    sym again ∙ ap (take (length first)) h ∙ ap (take (length first)) e ∙ take_at first more (length first) refl
