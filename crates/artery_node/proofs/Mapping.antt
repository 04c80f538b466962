-- A list that is made of another one, element by element.
use Rattle.std.proofs.Common.{◌≡◌, ℕ, zero, suc, ◌+◌, ◌<◌, List, [], ◌∷◌, ◌++◌, length, drop, get_or, map, refl, ap, sym, ◌∙◌, arith}
use Rattle.std.proofs.lemmas.List.{append_assoc}

drop_mapped : {X Y : Type 0} (f : X → Y) (i : ℕ) (xs : List X) (x other : X) → i < length xs → x ≡ get_or xs i other → map f (drop i xs) ≡ f x ∷ map f (drop (suc i) xs)
drop_mapped f i [] x other h e = absurd (omega arith)
drop_mapped f zero (y ∷ ys) x other h e = ap (λ z. f z ∷ map f ys) (sym e)
drop_mapped f (suc i) (y ∷ ys) x other h e = drop_mapped f i ys x other (omega arith) e

-- Once the next of them is made, the rest follows it.
pub one_mapped : {X Y : Type 0} (f : X → Y) (i : ℕ) (xs : List X) (x : X) (before after : List Y) → i < length xs → x ≡ get_or xs i x → after ≡ before ++ f x ∷ [] → after ++ map f (drop (i + 1) xs) ≡ before ++ map f (drop i xs)
one_mapped f i xs x before after h e made =
    let step : i + 1 ≡ suc i = omega arith in
    rw step (ap (λ all. all ++ map f (drop (suc i) xs)) made
    ∙ append_assoc before (f x ∷ []) (map f (drop (suc i) xs))
    ∙ ap (λ all. before ++ all) (sym (drop_mapped f i xs x x h e)))
