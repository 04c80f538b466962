-- A node that runs, and what it may take.
use Rattle.std.specs.Prelude.{◌≡◌, ℕ, ◌<◌, ◌≤◌, ◌^◌, Bool, List, ◌++◌, length}
use Rattle.artery_machine.specs.declared.effect.Effect.{Effect}
use Rattle.artery_machine.specs.declared.input.Input.{Input}
use Rattle.artery_machine.specs.declared.input.Input.TheVariants as inputs
use Rattle.artery_machine.specs.Deeds.{effects_of}
use Rattle.artery_machine.specs.Parts.{kept, whole}
use Rattle.artery_machine.specs.Node.{Node}
use Rattle.artery_machine.specs.Reacting.{step}
use Rattle.artery_laws.specs.Standing.{NodeStands}

-- A node, and whether it has stopped for want of memory.
pub record Running : Type 0 where
  pub node : Node kept
  pub stopped : Bool

-- An input is fit for a node: a piece has at most 65,536 bytes, and a moment is not below the node's and below 2^62.
abbrev pub IsFit : Node kept → Input → Type 0
IsFit n (inputs.Bytes conn piece) = length piece ≤ 65536
IsFit n (inputs.Tick now) = (n.moment ≤ now) × (now < 2 ^ 62)
IsFit n (inputs.Request request) = Unit {0}
IsFit n (inputs.Accepted conn) = Unit {0}
IsFit n (inputs.Dialed dial) = Unit {0}
IsFit n (inputs.DialFailed dial) = Unit {0}
IsFit n (inputs.Ended conn) = Unit {0}

-- For each node with whole histories that a node stands for: the effects that come are those of its step at the input, with their bytes, and what the node became stands for what that step leads to.
unfoldable pub DoesAsWhole : Input → Node kept → Node kept → List Effect → List Effect → Type 0
DoesAsWhole input old new before after =
    (w : Node whole) → NodeStands old w → (after ≡ before ++ effects_of w.me.uid (step input w).deeds) × NodeStands new (step input w).node
