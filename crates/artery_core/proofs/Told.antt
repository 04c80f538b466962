-- What a node did, with its bytes, and as a node with whole histories does it.
use Rattle.std.proofs.Common.{◌≡◌, ℕ, List, [], ◌++◌, refl, sym, ◌∙◌, ap, subst}
use Rattle.artery_machine.specs.declared.effect.Effect.{Effect}
use Rattle.artery_machine.specs.declared.input.Input.{Input}
use Rattle.artery_machine.specs.Deeds.{effects_of}
use Rattle.artery_machine.specs.Parts.{kept, whole}
use Rattle.artery_machine.specs.Node.{Node}
use Rattle.artery_machine.specs.Doing.{Doing, in_bytes}
use Rattle.artery_machine.specs.Reacting.{reacts, step}
use Rattle.artery_laws.specs.Bytes.{after_effects, with_bytes_behind}
use Rattle.artery_laws.specs.Standing.{NodeStands, DoSame}
use Rattle.artery_core.specs.Running.{DoesAsWhole}

did : (law : (input : Input) (n : Node kept) (uid : ℕ) (before : List Effect) → reacts input (after_effects uid before n) ≡ with_bytes_behind uid before (step input n))
    (input : Input) (old new : Doing kept in_bytes) → old.deeds.effects ≡ [] → old.deeds.uid ≡ old.node.me.uid → new ≡ reacts input old
    → new ≡ with_bytes_behind old.node.me.uid [] (step input old.node)
did law input old new none own is =
    is ∙ ap (λ (effects : List Effect). reacts input (after_effects old.deeds.uid effects old.node)) none
    ∙ ap (λ (uid : ℕ). reacts input (after_effects uid [] old.node)) own ∙ law input old.node old.node.me.uid []

-- What the node is by then is what its step leads to.
pub same_node : (law : (input : Input) (n : Node kept) (uid : ℕ) (before : List Effect) → reacts input (after_effects uid before n) ≡ with_bytes_behind uid before (step input n))
    (input : Input) (old new : Doing kept in_bytes) → old.deeds.effects ≡ [] → old.deeds.uid ≡ old.node.me.uid → new ≡ reacts input old
    → new.node ≡ (step input old.node).node
same_node law input old new none own is = ap (λ (d : Doing kept in_bytes). d.node) (did law input old new none own is)

-- What it did has the bytes of the step's deeds.
pub own_effects : (law : (input : Input) (n : Node kept) (uid : ℕ) (before : List Effect) → reacts input (after_effects uid before n) ≡ with_bytes_behind uid before (step input n))
    (input : Input) (old new : Doing kept in_bytes) → old.deeds.effects ≡ [] → old.deeds.uid ≡ old.node.me.uid → new ≡ reacts input old
    → new.deeds.effects ≡ effects_of old.node.me.uid (step input old.node).deeds
own_effects law input old new none own is = ap (λ (d : Doing kept in_bytes). d.deeds.effects) (did law input old new none own is)

-- What a node does at an input is what each node with whole histories does that it stands for.
pub does_as_whole : (law : (input : Input) (n : Node kept) (w : Node whole) → NodeStands n w → DoSame (step input n) (step input w))
    (input : Input) (old new : Node kept) (before after : List Effect) → new ≡ (step input old).node → after ≡ before ++ effects_of old.me.uid (step input old).deeds
    → DoesAsWhole input old new before after
unfolding DoesAsWhole
does_as_whole law input old new before after is told w h =
    let same : DoSame (step input old) (step input w) = law input old w h in (
      told
          ∙ ap (λ (n : ℕ). before ++ effects_of n (step input old).deeds) (ap (λ me. me.uid) h.me)
          ∙ ap (λ deeds. before ++ effects_of w.me.uid deeds) same.deeds,
      subst (λ x. NodeStands x (step input w).node) (sym is) same.stands,
    )
