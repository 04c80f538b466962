-- A node by itself, whatever comes to it, and the lines that it tells.
use Rattle.std.specs.Prelude.{length, map, ◌≡◌, ◌≤◌, ℕ, Bool, false, List, [], ◌∷◌, ◌++◌, Some}
use Rattle.artery_base.specs.declared.address.UniqueAddress.{UniqueAddress}
use Rattle.artery_judge.specs.Lines.{Entry, deals}
use Rattle.artery_judge.specs.Laws.{taken_from, breaks_closed, breaks_watch, breaks_stopped, breaks_moment}
use Rattle.artery_machine.specs.declared.input.Input.{Input}
use Rattle.artery_machine.specs.declared.input.Input.TheVariants as inputs
use Rattle.artery_machine.specs.Deeds.{Deed, Dials, Writes, Hangs, Tells}
use Rattle.artery_machine.specs.Parts.{Parts}
use Rattle.artery_machine.specs.Node.{Node}
use Rattle.artery_machine.specs.Doing.{listed, Doing}
use Rattle.artery_machine.specs.Ticking.{numbers_from}
use Rattle.artery_machine.specs.Reacting.{starts, step}

-- ---- a node

-- The lines that deeds tell, in order, each with this moment.
abbrev pub lines_of : ℕ → List Deed → List Entry
lines_of moment [] = []
lines_of moment (Dials dial address ∷ deeds) = lines_of moment deeds
lines_of moment (Writes dial writing ∷ deeds) = lines_of moment deeds
lines_of moment (Hangs conn ∷ deeds) = lines_of moment deeds
lines_of moment (Tells line ∷ deeds) = (Some moment, line) ∷ lines_of moment deeds

-- A node, and all lines that it has told, each with its moment.
pub record Alone (P : Parts) : Type 0 where
  pub node : Node P
  pub lines : List Entry

module _ {P : Parts} where
  -- What a node made of itself, with its lines behind those before: the moment of each is the node's, once it did all.
  abbrev pub behind : List Entry → Doing P listed → Alone P
  behind before d = record { node = d.node; lines = before ++ lines_of d.node.moment d.deeds }

  -- A node that has started.
  abbrev pub begun : UniqueAddress → Alone P
  begun me = behind [] (starts me)

  -- An input comes to a node.
  abbrev pub given : Input → Alone P → Alone P
  given input a = behind a.lines (step input a.node)

  -- Inputs come to a node, one after the other.
  abbrev pub given_all : List Input → Alone P → Alone P
  given_all [] a = a
  given_all (input ∷ inputs) a = given_all inputs (given input a)

-- All lines that a node tells which starts and to which these inputs come.
abbrev pub story : Parts → UniqueAddress → List Input → List Entry
story P me inputs = (given_all inputs (begun {P = P} me)).lines

-- The moment of a node once this input came to it.
abbrev pub moment_then : Input → ℕ → ℕ
moment_then (inputs.Request request) now = now
moment_then (inputs.Accepted conn) now = now
moment_then (inputs.Dialed dial) now = now
moment_then (inputs.DialFailed dial) now = now
moment_then (inputs.Bytes conn piece) now = now
moment_then (inputs.Ended conn) now = now
moment_then (inputs.Tick moment) now = moment

-- The moments that come to a node do not fall, from this one on.
abbrev pub AreInOrder : ℕ → List Input → Type 0
AreInOrder now [] = Unit {0}
AreInOrder now (input ∷ inputs) = (now ≤ moment_then input now) × AreInOrder (moment_then input now) inputs

-- ---- laws

-- By a law a line breaks it, or not, after the lines before it.
abbrev pub Law : Type 0
Law = List Entry → Entry → Bool

-- An incarnation that was closed is not learnt, closed, sent to, told, taken from, got from or heard again.
abbrev pub close_law : Law
close_law before e = breaks_closed before (deals e.1)

-- A watch has an id of its own, and ends at most once.
abbrev pub watch_law : Law
watch_law before e = breaks_watch before e.1

-- Nothing is told after the end, and a start comes first.
abbrev pub stopped_law : Law
stopped_law before e = breaks_stopped before e.1

-- Moments do not fall.
abbrev pub moment_law : Law
moment_law before e = breaks_moment before e

-- No line of a journal breaks a law.
abbrev pub Keeps : Law → List Entry → Type 0
Keeps law lines = (before after : List Entry) (e : Entry) → lines ≡ before ++ e ∷ after → law before e ≡ false

-- ---- messages taken

-- The numbers of the messages that an incarnation took from another, in the order of its lines.
abbrev pub numbers_taken : UniqueAddress → UniqueAddress → List Entry → List ℕ
numbers_taken me other lines = map (λ r. r.0) (taken_from other me lines)

-- Numbers are 1, 2, 3 and so on.
abbrev pub AreNumbered : List ℕ → Type 0
AreNumbered numbers = numbers ≡ numbers_from 1 (length numbers)
