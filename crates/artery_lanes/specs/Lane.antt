-- The law of a lane, and what each step makes of what its passes know.
use Rattle.std.specs.Prelude.{◌≡◌, ℕ, ◌+◌, ◌<◌, ◌≤◌, ◌==◌, if◌then◌else◌, List, [], ◌∷◌, ◌++◌, length}
use mathlib.Core.Option.{Option, some, none}
use lib.ListN.{get_elem?}
use Rattle.artery_lanes.specs.declared.entry.Entry.{Entry}
use Rattle.artery_lanes.specs.declared.entry.Item.{Item}
use Rattle.artery_lanes.specs.declared.lane_view.LaneView.{LaneView}
use Rattle.artery_lanes.specs.declared.lane_view.LaneView.TheVariants.{Sender, Taker, Spent}

-- An entry is an item with its sender and its place.
abbrev pub entry : ℕ → ℕ → Item → Entry
entry s k x = record { sender = s; k = k; item = x }

-- The entries of one sender, in order.
abbrev pub of : ℕ → List Entry → List Entry
of s [] = []
of s (e ∷ es) = if e.sender == s then e ∷ of s es else of s es

-- The items of a sender as its entries: the first bears k, and each next one a number more.
abbrev pub numbered : ℕ → ℕ → List Item → List Entry
numbered s k [] = []
numbered s k (x ∷ xs) = entry s k x ∷ numbered s (k + 1) xs

-- A sender whose pass was taken in keeps the accepted list with which that pass ended, and has no pass.
abbrev pub AllEnded : ℕ → (ℕ → Option ℕ) → (ℕ → List Item) → List (ℕ × List Item) → Type 0
AllEnded made seat accepted [] = Unit {0}
AllEnded made seat accepted (e ∷ es) = ((e.0 < made) × (seat e.0 ≡ none) × (accepted e.0 ≡ e.1)) × AllEnded made seat accepted es

-- A sender's pass is the only one of that sender, and has its accepted list; the taker's pass is the only one that takes, and has what was taken.
abbrev pub Fits : ℕ → ℕ → (ℕ → Option ℕ) → (ℕ → List Item) → List Entry → ℕ → LaneView → Type 0
Fits taker count seat accepted got id (Sender from list) = (seat from ≡ some id) × (list ≡ accepted from)
Fits taker count seat accepted got id (Taker made taken ended) = (id ≡ taker) × (made ≡ count) × (taken ≡ got) × AllEnded made seat accepted ended
Fits taker count seat accepted got id Spent = Unit {0}

-- The lane law. Each sender has one pass until that is taken in, and one pass takes. For each sender, its entries among those taken, followed by its entries in the queue, are its accepted list, and the k-th of that list bears k.
pub record IsLane (items : List Entry) (views : List LaneView) : Type 0 where
  pub taker : ℕ
  pub count : ℕ
  pub seat : ℕ → Option ℕ
  pub accepted : ℕ → List Item
  pub got : List Entry
  pub story : (s : ℕ) → of s (got ++ items) ≡ numbered s 0 (accepted s)
  pub unused : (s : ℕ) → count ≤ s → (seat s ≡ none) × (accepted s ≡ [])
  pub each : (id : ℕ) (v : LaneView) → get_elem? views id ≡ some v → Fits taker count seat accepted got id v

-- Of each ended sender, what was taken and then what is queued are its accepted list.
abbrev pub AllTold : List Entry → List Entry → List (ℕ × List Item) → Type 0
AllTold got items [] = Unit {0}
AllTold got items (e ∷ es) = (of e.0 got ++ of e.0 items ≡ numbered e.0 0 e.1) × AllTold got items es

-- What a pass knows of the entries in the queue: a sender's that something was taken of its accepted list and the rest is queued; the taker's the same of each ended sender.
abbrev pub Told : LaneView → List Entry → Type 0
Told (Sender from list) items = (got : List Entry) × (got ++ of from items ≡ numbered from 0 list)
Told (Taker made got ended) items = AllTold got items ended
Told Spent items = Unit {0}

-- An entry is the next of its sender behind those taken: the sender is one of those that were made, and the place is the number of its entries taken.
abbrev pub IsNext : ℕ → List Entry → Entry → Type 0
IsNext made got e = (e.sender < made) × (e.k ≡ length (of e.sender got))

-- A push joins the item to the sender's accepted list.
abbrev pub offers : LaneView → Entry → LaneView → Type 0
offers (Sender from list) e w = w ≡ Sender from (list ++ e.item ∷ [])
offers (Taker made got ended) e w = ⊥
offers Spent e w = ⊥

-- A pop joins the entry, which is the next of its sender, to those taken.
abbrev pub takes : LaneView → Entry → LaneView → Type 0
takes (Sender from list) e w = ⊥
takes (Taker made got ended) e w = IsNext made got e × (w ≡ Taker made (got ++ e ∷ []) ended)
takes Spent e w = ⊥

-- The taker has made one sender's pass more.
abbrev pub one_more : LaneView → LaneView
one_more (Sender from list) = Sender from list
one_more (Taker made got ended) = Taker (made + 1) got ended
one_more Spent = Spent

-- The pass that the taker makes is the next sender's, of which nothing was accepted.
abbrev pub new_sender : LaneView → LaneView
new_sender (Sender from list) = Spent
new_sender (Taker made got ended) = Sender made []
new_sender Spent = Spent

-- The taker takes in a sender's pass, with its accepted list.
abbrev pub taken_in : LaneView → LaneView → LaneView
taken_in (Sender from list) w = Sender from list
taken_in (Taker made got ended) (Sender from list) = Taker made got ((from, list) ∷ ended)
taken_in (Taker made got ended) (Taker made' got' ended') = Taker made got ended
taken_in (Taker made got ended) Spent = Taker made got ended
taken_in Spent w = Spent

-- The items that a sender's pass knows to be accepted.
abbrev pub accepted_of : LaneView → List Item
accepted_of (Sender from list) = list
accepted_of (Taker made got ended) = []
accepted_of Spent = []

-- How many senders' passes the taker's knows of.
abbrev pub made_of : LaneView → ℕ
made_of (Sender from list) = 0
made_of (Taker made got ended) = made
made_of Spent = 0

-- What was taken, as the taker's pass knows it.
abbrev pub got_of : LaneView → List Entry
got_of (Sender from list) = []
got_of (Taker made got ended) = got
got_of Spent = []

-- The ended senders, each with its accepted list, as the taker's pass knows them.
abbrev pub ended_of : LaneView → List (ℕ × List Item)
ended_of (Sender from list) = []
ended_of (Taker made got ended) = ended
ended_of Spent = []
