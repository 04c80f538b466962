-- What a node does, with the bytes that it writes.
use Rattle.std.specs.Prelude.{ℕ, List, ◌++◌}
use Rattle.artery_machine.specs.declared.effect.Effect.{Effect}
use Rattle.artery_machine.specs.Deeds.{effects_of}
use Rattle.artery_machine.specs.Parts.{Parts}
use Rattle.artery_machine.specs.Node.{Node}
use Rattle.artery_machine.specs.Doing.{listed, in_bytes, Doing}

-- A node at work, with the effects of the node with this UID so far.
abbrev pub after_effects : {P : Parts} → ℕ → List Effect → Node P → Doing P in_bytes
after_effects uid effects n = record { node = n; deeds = record { uid = uid; effects = effects } }

-- What a node did, each deed with its bytes, behind the effects so far.
abbrev pub with_bytes_behind : {P : Parts} → ℕ → List Effect → Doing P listed → Doing P in_bytes
with_bytes_behind uid before d = after_effects uid (before ++ effects_of uid d.deeds) d.node
