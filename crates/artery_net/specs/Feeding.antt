-- What a feed's answers say of what it has given.
use Rattle.std.specs.Prelude.{◌≡◌, ℕ, zero, suc, ◌-◌, ◌<◌, ◌==◌, length, take, Bool, true, false, ◌||◌, ◌&&◌, List, [], ◌∷◌, ◌++◌}
use Rattle.artery_net.specs.declared.offer.Offer.{Offer}
use Rattle.artery_net.specs.declared.offer.Offer.TheVariants as offers
use Rattle.artery_net.specs.declared.feed.Fed.{Fed}
use Rattle.artery_net.specs.declared.feed.Fed.TheVariants.{Item, Empty, Ended}

-- The sender of an offer.
abbrev pub sender_of : Offer → ℕ
sender_of (offers.Line sender k request) = sender
sender_of (offers.Skipped sender k seen now) = sender
sender_of (offers.Finished sender) = sender

-- Whether an offer says that this sender has finished.
abbrev pub finishes : ℕ → Offer → Bool
finishes s (offers.Line sender k request) = false
finishes s (offers.Skipped sender k seen now) = false
finishes s (offers.Finished sender) = sender == s

-- Whether this sender's Finished is among these offers.
abbrev pub has_finished : ℕ → List Offer → Bool
has_finished s [] = false
has_finished s (o ∷ os) = finishes s o || has_finished s os

-- Whether the Finished of each sender below a number is among these offers.
abbrev pub all_finished : ℕ → List Offer → Bool
all_finished zero os = true
all_finished (suc n) os = has_finished n os && all_finished n os

-- A feed answers Ended exactly where each sender's Finished was given. An offer that it gives joins those given; else they stay as they are.
abbrev pub Gives : ℕ → List Offer → List Offer → Fed → Type 0
Gives senders old new (Item o) = (new ≡ old ++ o ∷ []) × (all_finished senders old ≡ false)
Gives senders old new Empty = (new ≡ old) × (all_finished senders old ≡ false)
Gives senders old new Ended = (new ≡ old) × (all_finished senders old ≡ true)

-- What may still be given: each offer is of a sender below the number of senders, of which no Finished came before it, and in the end each sender has finished. From nothing given this says that each sender's Finished stands there once, after all its other offers.
abbrev pub AreWhole : ℕ → List Offer → List Offer → Type 0
AreWhole senders given [] = all_finished senders given ≡ true
AreWhole senders given (o ∷ os) = (sender_of o < senders) × (has_finished (sender_of o) given ≡ false) × AreWhole senders (given ++ o ∷ []) os

-- A feed in memory: how many senders there are, the offers given, and those that are left.
pub record ListState : Type 0 where
  pub senders : ℕ
  pub given : List Offer
  pub left : List Offer

-- What a feed in memory answers by what is left, and what is left then: the first offer, or Ended where none is.
abbrev pub GivesFirst : List Offer → List Offer → Fed → Type 0
GivesFirst [] new answer = (answer ≡ Ended) × (new ≡ [])
GivesFirst (o ∷ os) new answer = (answer ≡ Item o) × (new ≡ os)

-- What stands in a list before the last part of it.
abbrev pub before : List Offer → List Offer → List Offer
before all left = take (length all - length left) all
