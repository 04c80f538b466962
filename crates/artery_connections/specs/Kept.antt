-- What is kept beside the connections, so that they are found: places by ends, places at which a test is passed, and a sum.
use Rattle.std.specs.Prelude.{◌≡◌, ℕ, ◌<◌, ◌≤◌, Bool, true, false, List, slice_get, Option, None, Some}
use Rattle.std.specs.BTreeMap.{is_at}
use Rattle.std.specs.Ordering.{nat_cmp}
use Rattle.std.specs.List.{list_any}
use Rattle.std.specs.Map.{lookup}
use Rattle.artery_machine.specs.Ways.{kept_ways}
use Rattle.artery_machine.specs.Connections.{Connection, place_dialed, place_inward, is_loaded, far_open, loads}
use Rattle.artery_connections.specs.declared.end.End.{End}
use Rattle.artery_connections.specs.Ends.{same_end}

-- Whether a set of places, as the list of its keys, has a place.
abbrev pub has : List ℕ → ℕ → Bool
has places place = list_any (is_at (nat_cmp place)) places

-- Whether what may stand somewhere is there and passes a test.
abbrev pub passes : {X : Type 0} → (X → Bool) → Option X → Bool
passes test None = false
passes test (Some x) = test x

-- A set has exactly the places at which the test is passed.
pub record HasPlaces {X : Type 0} (test : X → Bool) (xs : List X) (places : List ℕ) : Type 0 where
  pub each : (k : ℕ) → has places k ≡ passes test (slice_get xs k)

-- The place in a set that comes next, from one place on: None where there is none.
pub record IsFirstIn (places : List ℕ) (from at : ℕ) : Type 0 where
  pub later : from ≤ at
  pub there : has places at ≡ true
  pub first : (k : ℕ) → from ≤ k → k < at → has places k ≡ false

abbrev pub IsNextIn : List ℕ → ℕ → Option ℕ → Type 0
IsNextIn places from None = (k : ℕ) → from ≤ k → has places k ≡ false
IsNextIn places from (Some at) = IsFirstIn places from at

-- What stands for one another: the connections made, the places of the first of each dialer with a dial number and of each far side with a number, the places where bytes are on their way, where the near side is open and where the far side is, and how many bytes are on their way.
pub record IsIndexed (made : List (Connection kept_ways)) (dialed inward : List (End × ℕ)) (loaded near far : List ℕ) (undelivered : ℕ) : Type 0 where
  pub by_dial : (k : End) → lookup (same_end k) dialed ≡ place_dialed k.uid k.number made
  pub by_number : (k : End) → lookup (same_end k) inward ≡ place_inward k.uid k.number made
  pub loaded_ones : HasPlaces is_loaded made loaded
  pub near_ones : HasPlaces (λ c. c.near_open) made near
  pub far_ones : HasPlaces far_open made far
  pub sum : undelivered ≡ loads made
