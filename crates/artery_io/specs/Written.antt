-- What a run of writes does to the bytes that a sink holds, where those are known.
use Rattle.std.specs.Prelude.{◌≡◌, ℕ, List, ◌++◌, Option}
use Rattle.std.specs.Io.KnownBytes.{Appends}

-- the sink took the piece but for this rest of it
abbrev pub TakesAllBut : List ℕ → Option (List ℕ) → Option (List ℕ) → List ℕ → Type 0
TakesAllBut rest old new piece = (taken : List ℕ) × (taken ++ rest ≡ piece) × Appends old new taken

-- the sink took a front of the piece: nothing, a part, or all of it
abbrev pub TakesFront : Option (List ℕ) → Option (List ℕ) → List ℕ → Type 0
TakesFront old new piece = (rest : List ℕ) × TakesAllBut rest old new piece
