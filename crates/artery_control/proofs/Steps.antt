-- What is known where reading in steps gave a value.
use Rattle.std.proofs.Common.{◌≡◌, Bool, true, false, cond, Option, Some, None, Result, Ok, Err, refl, ap}
use Rattle.artery_control.specs.declared.fault.ControlFault.{ControlFault}
use Rattle.artery_control.specs.declared.path.Path.{Path}
use Rattle.artery_base.specs.Words.{◌>>=◌}
use Rattle.artery_control.specs.Picking.{required}

abbrev pub Read : Type 0 → Type 0
Read X = Result X ControlFault

abbrev pub ok : {X : Type 0} → X → Read X
ok x = Ok x

abbrev pub bad : {X : Type 0} → ControlFault → Read X
bad fault = Err fault

pub ok_same : {X : Type 0} (x y : X) → ok x ≡ ok y → x ≡ y
ok_same x y e = cc

pub cond_ok : {X : Type 0} (b : Bool) (x y : X) (fault : ControlFault) → cond b (ok x) (bad fault) ≡ ok y → (b ≡ true) × (x ≡ y)
cond_ok true x y fault e = (refl, ok_same x y e)
cond_ok false x y fault e = absurd cc

pub required_ok : {X : Type 0} (path : Path) (o : Option X) (x : X) → required path o ≡ Ok x → o ≡ Some x
required_ok path None x e = absurd cc
required_ok path (Some y) x e = ap (λ t. Some t) (ok_same y x e)

pub bind_ok : {A B : Type 0} (r : Read A) (f : A → Read B) (y : B) → (r >>= f) ≡ Ok y → (x : A) × (r ≡ Ok x) × (f x ≡ Ok y)
bind_ok (Ok x) f y e = (x, refl, e)
bind_ok (Err d) f y e = absurd cc

pub one_ok : {A Y : Type 0} (r : Read A) (make : A → Y) (y : Y) → (r >>= λ a. Ok (make a)) ≡ Ok y → (a : A) × (r ≡ Ok a) × (make a ≡ y)
one_ok r make y e = let s = bind_ok r (λ a. Ok (make a)) y e in (s.0, s.1, ok_same (make s.0) y s.2)

pub two_ok : {A B Y : Type 0} (r : Read A) (s : Read B) (make : A → B → Y) (y : Y) → (r >>= λ a. s >>= λ b. Ok (make a b)) ≡ Ok y
    → (a : A) × (b : B) × (r ≡ Ok a) × (s ≡ Ok b) × (make a b ≡ y)
two_ok r s make y e =
    let p = bind_ok r (λ a. s >>= λ b. Ok (make a b)) y e in
    let q = one_ok s (make p.0) y p.2 in
    (p.0, q.0, p.1, q.1, q.2)

pub three_ok : {A B C Y : Type 0} (r : Read A) (s : Read B) (t : B → Read C) (make : A → B → C → Y) (y : Y) → (r >>= λ a. s >>= λ b. t b >>= λ c. Ok (make a b c)) ≡ Ok y
    → (a : A) × (b : B) × (c : C) × (r ≡ Ok a) × (s ≡ Ok b) × (t b ≡ Ok c) × (make a b c ≡ y)
three_ok r s t make y e =
    let p = bind_ok r (λ a. s >>= λ b. t b >>= λ c. Ok (make a b c)) y e in
    let q = bind_ok s (λ b. t b >>= λ c. Ok (make p.0 b c)) y p.2 in
    let l = one_ok (t q.0) (make p.0 q.0) y q.2 in
    (p.0, q.0, l.0, p.1, q.1, l.1, l.2)

pub four_ok : {A B C D Y : Type 0} (r : Read A) (s : Read B) (t : Read C) (u : Read D) (make : A → B → C → D → Y) (y : Y)
    → (r >>= λ a. s >>= λ b. t >>= λ c. u >>= λ d. Ok (make a b c d)) ≡ Ok y
    → (a : A) × (b : B) × (c : C) × (d : D) × (r ≡ Ok a) × (s ≡ Ok b) × (t ≡ Ok c) × (u ≡ Ok d) × (make a b c d ≡ y)
four_ok r s t u make y e =
    let p = bind_ok r (λ a. s >>= λ b. t >>= λ c. u >>= λ d. Ok (make a b c d)) y e in
    let q = three_ok s t (λ c. u) (make p.0) y p.2 in
    (p.0, q.0, q.1, q.2, p.1, q.3, q.4, q.5, q.6)

pub three_then : {A B C Y : Type 0} (r : Read A) (s : Read B) (t : Read C) (next : A → B → C → Read Y) (y : Y) → (r >>= λ a. s >>= λ b. t >>= λ c. next a b c) ≡ Ok y
    → (a : A) × (b : B) × (c : C) × (r ≡ Ok a) × (s ≡ Ok b) × (t ≡ Ok c) × (next a b c ≡ Ok y)
three_then r s t next y e =
    let p = bind_ok r (λ a. s >>= λ b. t >>= λ c. next a b c) y e in
    let q = bind_ok s (λ b. t >>= λ c. next p.0 b c) y p.2 in
    let l = bind_ok t (λ c. next p.0 q.0 c) y q.2 in
    (p.0, q.0, l.0, p.1, q.1, l.1, l.2)
