-- Words that the definitions of all crates share.
use Rattle.std.specs.Prelude.{◌≡◌, Bool, true, false, List, ◌++◌, Result, Ok, Err}

-- one list begins another: the empty one and the whole one do too
abbrev pub IsPrefix : {X : Type 0} → List X → List X → Type 0
IsPrefix {X} xs ys = (rest : List X) × (xs ++ rest ≡ ys)

-- a step after a step: the second is done with what the first gave, and the first fault ends them
infixl 10 ◌>>=◌
abbrev pub ◌>>=◌ : {A B E : Type 0} → Result A E → (A → Result B E) → Result B E
(Ok x) >>= f = f x
(Err e) >>= f = Err e

-- P, unless the test holds
abbrev pub Unless : Bool → Type 0 → Type 0
Unless true P = Unit {0}
Unless false P = P

-- the result is what reading gives, unless its error says that memory ran out
abbrev pub Gives : {X E : Type 0} → (E → Bool) → Result X E → Result X E → Type 0
Gives is_memory (Ok x) read = read ≡ Ok x
Gives is_memory (Err e) read = Unless (is_memory e) (read ≡ Err e)

-- the result, its value seen by a view, is what reading gives
abbrev pub Shows : {X Y E : Type 0} → (X → Y) → Result X E → Result Y E → Type 0
Shows view (Ok x) read = read ≡ Ok (view x)
Shows view (Err e) read = read ≡ Err e
