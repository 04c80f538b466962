-- What contracts see of a lane, a pass and a taker, and what the calls answer.
use Rattle.std.specs.Prelude.{◌≡◌, ℕ, zero, suc, ◌≤◌, nat_lt, Bool, true, false, Option, Some, None, List, [], ◌∷◌, ◌++◌, length, slice_index, slice_set}
use Rattle.artery_base.specs.Words.{IsPrefix}
use Rattle.atomic_table.specs.Seated.{TableId}
use Rattle.crossbeam_queue.specs.Fifo.{Held}
use Rattle.artery_lanes.specs.declared.entry.Entry.{Entry}
use Rattle.artery_lanes.specs.declared.entry.Item.{Item}
use Rattle.artery_lanes.specs.declared.entry.Item.TheVariants as items
use Rattle.artery_net.specs.declared.offer.Offer.{Offer}
use Rattle.artery_net.specs.declared.offer.Offer.TheVariants as offer
use Rattle.artery_net.specs.declared.feed.Fed.{Fed}
use Rattle.artery_net.specs.declared.feed.Fed.TheVariants as fed
use Rattle.artery_net.specs.Feeding.{has_finished}
use Rattle.artery_lanes.specs.declared.offered.Want.{Want}
use Rattle.artery_lanes.specs.declared.offered.Offered.{Offered}
use Rattle.artery_lanes.specs.declared.offered.Offered.TheVariants.{Accepted, Full, Closed}
use Rattle.artery_lanes.specs.Gate.{SeatState, seat_of, loaded}
use Rattle.artery_lanes.specs.Lane.{of, numbered, IsNext, Told}
use Rattle.artery_lanes.specs.declared.lane_view.LaneView.TheVariants as views

-- A lane: which queue it is, how many entries that holds at most, and its gate.
pub record LaneState : Type 0 where
  pub queue : TableId
  pub capacity : ℕ
  pub gate : TableId

-- A sender's pass: of which queue, which sender, and its accepted list.
pub record PassState : Type 0 where
  pub queue : TableId
  pub sender : ℕ
  pub accepted : List Item

-- A taker: of which queue, how many senders' passes were made, the entries taken, and the accepted list of each ended sender.
pub record TakerState : Type 0 where
  pub queue : TableId
  pub made : ℕ
  pub got : List Entry
  pub ended : List (ℕ × List Item)

-- The pass, with an item more in its accepted list.
abbrev pub with_item : Item → PassState → PassState
with_item x p = record { queue = p.queue; sender = p.sender; accepted = p.accepted ++ x ∷ [] }

-- The taker, with an entry more among those taken.
abbrev pub with_got : Entry → TakerState → TakerState
with_got e t = record { queue = t.queue; made = t.made; got = t.got ++ e ∷ []; ended = t.ended }

-- The taker, with one ended sender more.
abbrev pub with_ended : PassState → TakerState → TakerState
with_ended p t = record { queue = t.queue; made = t.made; got = t.got; ended = (p.sender, p.accepted) ∷ t.ended }

-- The pass of a sender of which nothing was accepted.
abbrev pub new_pass : TableId → ℕ → PassState
new_pass queue sender = record { queue = queue; sender = sender; accepted = [] }

-- Such a pass for each of n senders, in order.
abbrev pub new_passes : TableId → ℕ → List PassState
new_passes queue zero = []
new_passes queue (suc n) = new_passes queue n ++ new_pass queue n ∷ []

-- A taker that has taken nothing.
abbrev pub new_taker : TableId → ℕ → TakerState
new_taker queue n = record { queue = queue; made = n; got = []; ended = [] }

-- The offer that an item of this sender and place is told as.
abbrev pub told : ℕ → ℕ → Item → Offer
told s k (items.Line request) = offer.Line s k request
told s k (items.Skipped seen now) = offer.Skipped s k seen now
told s k items.Finished = offer.Finished s

-- The offer that an entry is told as.
abbrev pub offer_of : Entry → Offer
offer_of e = told e.sender e.k e.item

-- Without a want no word is loaded. With one its word is loaded once: what was found is what the seat has now seen there, and no less than before.
abbrev pub Looks : TableId → Option Want → SeatState → SeatState → Option ℕ → Type 0
Looks gate None old new seen = (new ≡ old) × (seen ≡ None)
Looks gate (Some w) old new None = ⊥
Looks gate (Some w) old new (Some n) = (new ≡ seat_of gate (loaded w.word n old.view)) × (slice_index old.view.seen w.word ≤ n)

-- Whether the number found is above a wanted one.
abbrev pub is_above : Option ℕ → Option ℕ → Bool
is_above (Some found) (Some wanted) = nat_lt wanted found
is_above (Some found) None = false
is_above None wanted = false

-- Whether the number found is above the number of the want, where it has one.
abbrev pub is_closed : Option Want → Option ℕ → Bool
is_closed None seen = false
is_closed (Some w) seen = is_above seen w.number

-- The queue was full at one moment of the call, at which the law told this of the pass.
abbrev pub WasFull : ℕ → PassState → Type 0
WasFull capacity p = Held capacity (Told (views.Sender p.sender p.accepted))

-- The queue was empty at one moment of the call, at which the law told this of the taker.
abbrev pub WasEmpty : TakerState → Type 0
WasEmpty t = Held 0 (Told (views.Taker t.made t.got t.ended))

-- An offer that found `seen` at the word of its want answers Closed exactly where that is above the wanted number, with that number and the item; Full only where the queue was full at one moment, with the item; else Accepted, with the sender's next place and the number found. Accepted joins the item to the accepted list; else that is as before.
abbrev pub Answers : LaneState → Item → Option Want → Option ℕ → PassState → PassState → Offered → Type 0
Answers lane x want seen p p' (Accepted k shown) = (is_closed want seen ≡ false) × (p' ≡ with_item x p) × (k ≡ length p.accepted) × (shown ≡ seen)
Answers lane x want seen p p' (Full y) = (is_closed want seen ≡ false) × (p' ≡ p) × (y ≡ x) × WasFull lane.capacity p
Answers lane x want seen p p' (Closed g y) = (is_closed want seen ≡ true) × (p' ≡ p) × (y ≡ x) × (seen ≡ Some g)

-- An offer looks at its want first, and then answers by what it found.
abbrev pub Offering : LaneState → Item → Option Want → PassState → SeatState → PassState → SeatState → Offered → Type 0
Offering lane x want p s p' s' answer = (seen : Option ℕ) × Looks lane.gate want s s' seen × Answers lane x want seen p p' answer

-- A take gives the next entry of some sender, which joins those taken.
abbrev pub Takes : TakerState → TakerState → Offer → Type 0
Takes t t' o = (e : Entry) × IsNext t.made t.got e × (o ≡ offer_of e) × (t' ≡ with_got e t)

-- What was taken of an ended sender begins its accepted list.
abbrev pub GotFirst : List Entry → PassState → Type 0
GotFirst got p = IsPrefix (of p.sender got) (numbered p.sender 0 p.accepted)

-- The offers that entries are told as, in order.
abbrev pub given_of : List Entry → List Offer
given_of [] = []
given_of (e ∷ es) = offer_of e ∷ given_of es

-- For each sender below a number, whether its Finished is among these offers.
abbrev pub finishing : ℕ → List Offer → List Bool
finishing zero os = []
finishing (suc n) os = finishing n os ++ has_finished n os ∷ []

-- These marks, once an item of this sender was taken: a Finished marks its sender.
abbrev pub marked : ℕ → Item → List Bool → List Bool
marked s (items.Line request) marks = marks
marked s (items.Skipped seen now) marks = marks
marked s items.Finished marks = slice_set marks s true

-- A feed over a lane answers Empty only where the queue was empty at one moment of the call.
abbrev pub EmptyOnlyAt : TakerState → Fed → Type 0
EmptyOnlyAt t (fed.Item o) = Unit {0}
EmptyOnlyAt t fed.Empty = WasEmpty t
EmptyOnlyAt t fed.Ended = Unit {0}
