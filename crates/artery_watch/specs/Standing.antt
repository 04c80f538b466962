-- The remote watches of an actor as they are kept: each has a place, and a number where it stands. One that was removed may keep its place for a while.
use Rattle.std.specs.Prelude.{◌≡◌, is_some, ℕ, ◌+◌, ◌≤◌, nat_lt, Option, Some, None, List, [], ◌∷◌, map, if◌then◌else◌}
use Rattle.artery_base.specs.declared.address.UniqueAddress.{UniqueAddress}
use Rattle.artery_watch.specs.Keys.{same_origin}
use Rattle.artery_watch.specs.declared.remote.RemoteWatcher.{RemoteWatcher}

-- Those that have a place.
abbrev pub Places : Type 0
Places = List (RemoteWatcher × Option ℕ)

-- Those that stand, with their numbers.
abbrev pub Numbered : Type 0
Numbered = List (RemoteWatcher × ℕ)

-- One more among others that are in the order of their numbers: it comes before the first with a higher number.
abbrev pub put : RemoteWatcher → ℕ → Numbered → Numbered
put r n [] = (r, n) ∷ []
put r n (e ∷ es) = if nat_lt n e.1 then (r, n) ∷ e ∷ es else e ∷ put r n es

-- Those that stand, in the order of their numbers.
abbrev pub in_order : Places → Numbered
in_order [] = []
in_order ((r, None) ∷ places) = in_order places
in_order ((r, Some n) ∷ places) = put r n (in_order places)

-- The remote watches that stand, of those that have a place.
abbrev pub standing : Places → List RemoteWatcher
standing places = map (λ numbered. numbered.0) (in_order places)

-- The numbers rise, from one number on and below another.
abbrev pub IsWithin : ℕ → ℕ → Numbered → Type 0
IsWithin low high [] = low ≤ high
IsWithin low high (e ∷ es) = (low ≤ e.1) × IsWithin (e.1 + 1) high es

-- There are numbers that those in a list rise within.
pub record Rises (xs : Numbered) : Type 0 where
  pub high : ℕ
  pub within : IsWithin 0 high xs

-- The number that is left of a place where an origin is forgotten: none where the remote watch came from it.
abbrev pub left : UniqueAddress → RemoteWatcher × Option ℕ → Option ℕ
left origin place = if same_origin origin place.0.origin then None else place.1

-- The places where an origin is forgotten.
abbrev pub left_of : UniqueAddress → Places → Places
left_of origin places = map (λ place. (place.0, left origin place)) places

-- One where there is a number, else none.
abbrev pub one_of : Option ℕ → ℕ
one_of None = 0
one_of (Some n) = 1

-- How many places have a number.
abbrev pub count : Places → ℕ
count [] = 0
count (place ∷ places) = one_of place.1 + count places

-- The watchers by their numbers.
abbrev pub watchers_by : Numbered → List (ℕ × List ℕ)
watchers_by xs = map (λ numbered. (numbered.1, numbered.0.watcher)) xs

-- Those that stand, in the order of their places, with their numbers.
abbrev pub listed : Places → Numbered
listed [] = []
listed ((r, None) ∷ places) = listed places
listed ((r, Some n) ∷ places) = (r, n) ∷ listed places

-- Those that stand, in the order of their places.
abbrev pub by_place : Places → List RemoteWatcher
by_place [] = []
by_place (place ∷ places) = if is_some place.1 then place.0 ∷ by_place places else by_place places

-- The numbers rise from place to place, and none is below one number.
pub record IsRising (low : ℕ) (places : Places) : Type 0 where
  pub high : ℕ
  pub within : IsWithin low high (listed places)
  pub same : in_order places ≡ listed places
