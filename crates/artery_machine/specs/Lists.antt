-- Lists that are read and changed by name: by the first element that passes a test.
use Rattle.std.specs.Prelude.{ℕ, Bool, if◌then◌else◌, List, [], ◌∷◌, slice_get, slice_set, Option, None, Some}

-- What was found, or else another.
abbrev pub or_else : {X : Type 0} → X → Option X → X
or_else other None = other
or_else other (Some x) = x

-- The first element that passes is changed, and the others stay.
abbrev pub change_first : {X : Type 0} → (X → Bool) → (X → X) → List X → List X
change_first test change [] = []
change_first test change (x ∷ xs) = if test x then change x ∷ xs else x ∷ change_first test change xs

-- What was found at a place is changed there.
abbrev pub put_at : {X : Type 0} → ℕ → (X → X) → List X → Option X → List X
put_at place change xs None = xs
put_at place change xs (Some x) = slice_set xs place (change x)

-- The element at a place, counted from 0, is changed, where there is one.
abbrev pub change_at : {X : Type 0} → ℕ → (X → X) → List X → List X
change_at place change xs = put_at place change xs (slice_get xs place)

-- The element at a place that may be known.
abbrev pub at_place : {X : Type 0} → List X → Option ℕ → Option X
at_place xs None = None
at_place xs (Some place) = slice_get xs place
