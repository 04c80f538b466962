-- A list of names beside none.
use Rattle.std.specs.Prelude.{◌≡◌, ℕ, Bool, true, false, ◌==◌, List, [], ◌∷◌, length}
use Rattle.std.proofs.Common.{refl}
use Rattle.artery_tables.specs.Names.{same_names}

-- names are not the same as none
pub none_same : (names : List (List ℕ)) → (length names == 0) ≡ false → same_names names [] ≡ false
none_same [] h = h
none_same (name ∷ names) h = refl
