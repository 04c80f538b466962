-- Rules that keep the facts where something is true outside.
use Rattle.std.proofs.Common.{ℕ, Bool, true, false, cond}
use Rattle.artery_base.specs.declared.address.Address.{Address}
use Rattle.artery_base.specs.declared.address.UniqueAddress.{UniqueAddress}
use Rattle.artery_machine.specs.Parts.{whole}
use Rattle.artery_machine.specs.Node.{Node}
use Rattle.artery_machine.specs.Doing.{Rule, ◌▸◌, stays}
use Rattle.artery_names.proofs.Facts.{Network, Good}
use Rattle.artery_names.proofs.Outside.{outward}
use Rattle.artery_names.proofs.Rules.{Work}
use Rattle.artery_names.proofs.Later.{Later, later_trans}
use Rattle.artery_names.proofs.Keeping.{nowhere, Kept, Keeps, kept_self}

-- What is true outside before a rule, and stays true while the node acts.
pub record Premise (nobody : UniqueAddress) (u : ℕ) : Type 1 where
  pub holds : Network → Type 0
  pub stays : (w v : Network) → Later nobody u w v → holds w → holds v

pub record KeepsIf (nobody : UniqueAddress) (u m : ℕ) (given : ℕ → ℕ) (p : Premise nobody u) (r : Rule whole (outward u m)) : Type 0 where
  pub on : (d : Work u m) → p.holds d.deeds → Good nobody u given nowhere d.node d.deeds → Kept nobody u given nowhere d.deeds (r d).node (r d).deeds

-- one after the other
pub kept_then : (nobody : UniqueAddress) (u : ℕ) (given : ℕ → ℕ) (away : Address → Bool) (w v x : Network) (n k : Node whole) → Kept nobody u given away w n v → Kept nobody u given away v k x → Kept nobody u given away w k x
kept_then nobody u given away w v x n k a b = record { good = b.good; later = later_trans nobody u w v x a.later b.later }

infixr 35 ◌▷◌
pub ◌▷◌ : {nobody : UniqueAddress} {u m : ℕ} {given : ℕ → ℕ} {p : Premise nobody u} {r s : Rule whole (outward u m)} → KeepsIf nobody u m given p r → KeepsIf nobody u m given p s → KeepsIf nobody u m given p (r ▸ s)
◌▷◌ {nobody} {u} {m} {given} {p} {r} {s} a b = record {
  on = λ d h g. (let k = a.on d h g in kept_then nobody u given nowhere d.deeds (r d).deeds (s (r d)).deeds (r d).node (s (r d)).node k (b.on (r d) (p.stays d.deeds (r d).deeds k.later h) k.good));
}

module _ {nobody : UniqueAddress} {u m : ℕ} {given : ℕ → ℕ} {p : Premise nobody u} where
  -- where nothing is needed
  pub always_keeps : (r : Rule whole (outward u m)) → Keeps nobody u m given r → KeepsIf nobody u m given p r
  always_keeps r k = record { on = λ d h g. k.on d g }

  pub stays_keeps : KeepsIf nobody u m given p stays
  stays_keeps = record { on = λ d h g. kept_self nobody u given nowhere d.node d.deeds g }

  pub if_keeps_if : (b : Bool) (r s : Rule whole (outward u m)) → KeepsIf nobody u m given p r → KeepsIf nobody u m given p s → KeepsIf nobody u m given p (cond b r s)
  if_keeps_if true r s x y = x
  if_keeps_if false r s x y = y
