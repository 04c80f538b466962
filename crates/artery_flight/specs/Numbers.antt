-- Messages that were sent and taken in a network, by its lines.
use Rattle.std.specs.Prelude.{◌≡◌, ℕ, List, [], ◌∷◌, length, map, slice_get, Some}
use Rattle.artery_base.specs.declared.address.UniqueAddress.{UniqueAddress}
use Rattle.artery_base.specs.declared.message.SysMsg.{SysMsg}
use Rattle.artery_judge.specs.Lines.{Entry}
use Rattle.artery_judge.specs.Laws.{sent_to}
use Rattle.artery_machine.specs.declared.world.Outcome.{Outcome}
use Rattle.artery_machine.specs.declared.world.Outcome.TheVariants as outcomes
use Rattle.artery_machine.specs.Ticking.{numbers_from}

-- The lines among what came of a network, in order, each with its moment.
abbrev pub lines_in : List Outcome → List Entry
lines_in [] = []
lines_in (outcomes.Line moment line ∷ os) = (Some moment, line) ∷ lines_in os
lines_in (outcomes.Wrote uid dial bytes ∷ os) = lines_in os

-- The numbers of the messages that an incarnation told it sent to another, in the order of its lines.
abbrev pub numbers_sent : UniqueAddress → UniqueAddress → List Entry → List ℕ
numbers_sent a b lines = map (λ r. r.0) (sent_to a b lines)

-- Numbers are 1, 2, 3 and so on.
abbrev pub AreNumbered : List ℕ → Type 0
AreNumbered numbers = numbers ≡ numbers_from 1 (length numbers)

-- A message with this number is among those that one told it sent to another.
pub record WasSent (a b : UniqueAddress) (n : ℕ) (m : SysMsg) (lines : List Entry) : Type 0 where
  pub place : ℕ
  pub there : slice_get (sent_to a b lines) place ≡ Some (n, m)

-- A numbered message on a connection was told as sent, by the one that it says, to an incarnation with the UID that the connection reaches.
pub record IsSentOn (far : ℕ) (from : UniqueAddress) (n : ℕ) (m : SysMsg) (lines : List Entry) : Type 0 where
  pub to : UniqueAddress
  pub reaches : to.uid ≡ far
  pub sent : WasSent from to n m lines
