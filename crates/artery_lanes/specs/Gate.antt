-- The law of a gate, and what each of its four kinds of step makes of what a seat knows.
use Rattle.std.specs.Prelude.{◌≡◌, ℕ, ◌+◌, ◌≤◌, max, true, false, List, [], ◌∷◌, replicate, slice_index, slice_set}
use mathlib.Core.Option.{some}
use lib.ListN.{get_elem?}
use Rattle.atomic_table.specs.Table.{State}
use Rattle.atomic_table.specs.Seated.{TableId}
use Rattle.artery_lanes.specs.declared.gate_view.SeatView.{SeatView}

-- The first seat is the owner's, has seen 0 at each word, and made no load.
abbrev pub owner_view : ℕ → SeatView
owner_view words = record { owns = true; seen = replicate words 0; loads = 0 }

-- The owner's step of a word raises its number there by 1.
abbrev pub stepped : ℕ → SeatView → SeatView
stepped word v = record { owns = v.owns; seen = slice_set v.seen word (slice_index v.seen word + 1); loads = v.loads }

-- A load that found n at a word: n is what was seen there, and one load more was made.
abbrev pub loaded : ℕ → ℕ → SeatView → SeatView
loaded word n v = record { owns = v.owns; seen = slice_set v.seen word n; loads = v.loads + 1 }

-- The new seat of a split is an observer's: it has seen the same, and made no load.
abbrev pub observer : SeatView → SeatView
observer v = record { owns = false; seen = v.seen; loads = 0 }

-- For each word the greater of two numbers.
abbrev pub greater : List ℕ → List ℕ → List ℕ
greater [] ys = []
greater (x ∷ xs) [] = x ∷ xs
greater (x ∷ xs) (y ∷ ys) = max x y ∷ greater xs ys

-- The seat that a join keeps has seen, at each word, the greater number of the two.
abbrev pub joined : SeatView → SeatView → SeatView
joined kept ended = record { owns = kept.owns; seen = greater kept.seen ended.seen; loads = kept.loads }

-- The seat that a join ends is spent: it has seen nothing, so the law asks nothing of it.
abbrev pub spent : SeatView
spent = record { owns = false; seen = []; loads = 0 }

-- At each word no more was seen than the word holds.
abbrev pub IsBelow : List ℕ → List ℕ → Type 0
IsBelow seen words = (word : ℕ) → slice_index seen word ≤ slice_index words word

-- No seat has seen more than the words hold, and the owner's seat has the number of each word: that of its own steps.
pub record FitsSeat (words : List ℕ) (owner id : ℕ) (v : SeatView) : Type 0 where
  pub below : IsBelow v.seen words
  pub owner_is : v.owns ≡ true → (id ≡ owner) × (v.seen ≡ words)

-- The gate law: at most one seat is the owner's, which has the number of each word, and no seat has seen more than the words hold.
abbrev pub IsLawful : State ℕ SeatView → Type 0
IsLawful s = (owner : ℕ) × ((id : ℕ) (v : SeatView) → get_elem? s.views id ≡ some v → FitsSeat s.words owner id v)

-- A seat: which gate it is of, and what it knows.
pub record SeatState : Type 0 where
  pub gate : TableId
  pub view : SeatView

-- The seat of this gate that knows this.
abbrev pub seat_of : TableId → SeatView → SeatState
seat_of g v = record { gate = g; view = v }
