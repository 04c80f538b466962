-- What the judge's tables find incarnations by.
use Rattle.std.specs.Prelude.{ℕ, List, [], ◌∷◌, ◌++◌, length}
use Rattle.std.specs.Hash as fed
use Rattle.artery_base.specs.declared.address.UniqueAddress.{UniqueAddress}

-- Of an incarnation the UID and the host are hashed: no two of a network share both but by mistake.
abbrev pub hashed_of : UniqueAddress → List (List ℕ)
hashed_of who = fed.u64 who.uid ++ fed.usize (length who.address.host) ++ who.address.host ∷ []
