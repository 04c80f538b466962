-- Rules of a node whose deeds are done outside at once: each keeps the facts.
use Rattle.std.proofs.Common.{ℕ, zero, suc, Bool, true, false, cond, List, [], ◌∷◌}
use Rattle.artery_base.specs.declared.address.Address.{Address}
use Rattle.artery_base.specs.declared.address.UniqueAddress.{UniqueAddress}
use Rattle.artery_machine.specs.Parts.{whole}
use Rattle.artery_machine.specs.Node.{Node}
use Rattle.artery_machine.specs.Doing.{Rule, ◌▸◌, stays, where_true, each, times}
use Rattle.artery_names.proofs.Lists.{First}
use Rattle.artery_names.proofs.Facts.{Network, Good}
use Rattle.artery_names.proofs.Plain.{Plainly, good_plain}
use Rattle.artery_names.proofs.Outside.{outward}
use Rattle.artery_names.proofs.Rules.{Work, Plain}
use Rattle.artery_names.proofs.Later.{Later, later_self, later_trans, at_most_same, no_more}

-- All tables are those of current incarnations.
abbrev pub nowhere : Address → Bool
nowhere a = false

-- What was made of a good node and its outside is good, and later than that outside.
pub record Kept (nobody : UniqueAddress) (u : ℕ) (given : ℕ → ℕ) (away : Address → Bool) (w : Network) (n : Node whole) (v : Network) : Type 0 where
  pub good : Good nobody u given away n v
  pub later : Later nobody u w v

pub kept_self : (nobody : UniqueAddress) (u : ℕ) (given : ℕ → ℕ) (away : Address → Bool) (n : Node whole) (w : Network) → Good nobody u given away n w → Kept nobody u given away w n w
kept_self nobody u given away n w g = record { good = g; later = later_self nobody u w }

pub plain_later : (nobody : UniqueAddress) (u : ℕ) (n : Node whole) (w : Network) (k : Node whole) (v : Network) → Plainly u n w k v → Later nobody u w v
plain_later nobody u n w k v p = record {
  conns = p.steps;
  name = λ uid. p.talk.name nobody uid;
  adopted = λ a b m. p.talk.adopted a b;
  rises = λ a b. at_most_same _ _ (p.talk.adopted a b);
  got = λ a b d m. p.talk.got a b d;
  told = λ a b d. no_more _ _ _ (p.talk.told a b d);
  spoken = λ a b d. First (p.talk.told a b d);
  going = p.going;
}

module _ {nobody : UniqueAddress} {u m : ℕ} {given : ℕ → ℕ} {away : Address → Bool} where
  pub kept_plain : (w : Network) (n : Node whole) (v : Network) (r : Rule whole (outward u m)) → Plain u m r → Kept nobody u given away w n v
      → Kept nobody u given away w (r (record { node = n; deeds = v })).node (r (record { node = n; deeds = v })).deeds
  kept_plain w n v r p k =
      let q = p.on (record { node = n; deeds = v }) in
      record {
        good = good_plain nobody u given away n _ v _ q k.good;
        later = later_trans nobody u w v _ k.later (plain_later nobody u n v _ _ q);
      }

pub record Keeps (nobody : UniqueAddress) (u m : ℕ) (given : ℕ → ℕ) (r : Rule whole (outward u m)) : Type 0 where
  pub on : (d : Work u m) → Good nobody u given nowhere d.node d.deeds → Kept nobody u given nowhere d.deeds (r d).node (r d).deeds

infixr 35 ◌▻◌
pub ◌▻◌ : {nobody : UniqueAddress} {u m : ℕ} {given : ℕ → ℕ} {r s : Rule whole (outward u m)} → Keeps nobody u m given r → Keeps nobody u m given s → Keeps nobody u m given (r ▸ s)
◌▻◌ {nobody} {u} {m} {given} {r} {s} a b = record {
  on = λ d g. (let k = a.on d g in let j = b.on (r d) k.good in record { good = j.good; later = later_trans nobody u d.deeds (r d).deeds (s (r d)).deeds k.later j.later });
}

module _ {nobody : UniqueAddress} {u m : ℕ} {given : ℕ → ℕ} where
  pub plain_keeps : (r : Rule whole (outward u m)) → Plain u m r → Keeps nobody u m given r
  plain_keeps r p = record { on = λ d g. kept_plain d.deeds d.node d.deeds r p (kept_self nobody u given nowhere d.node d.deeds g) }

  pub stays_keep : Keeps nobody u m given stays
  stays_keep = record { on = λ d g. kept_self nobody u given nowhere d.node d.deeds g }

  pub if_keeps : (b : Bool) (r s : Rule whole (outward u m)) → Keeps nobody u m given r → Keeps nobody u m given s → Keeps nobody u m given (cond b r s)
  if_keeps true r s x y = x
  if_keeps false r s x y = y

  pub where_keeps : (b : Bool) (r : Rule whole (outward u m)) → Keeps nobody u m given r → Keeps nobody u m given (where_true b r)
  where_keeps true r x = x
  where_keeps false r x = stays_keep

  pub each_keeps : {X : Type 0} (xs : List X) (r : X → Rule whole (outward u m)) → ((x : X) → Keeps nobody u m given (r x)) → Keeps nobody u m given (each xs r)
  each_keeps [] r a = stays_keep
  each_keeps (x ∷ xs) r a = a x ▻ each_keeps xs r a

  pub times_keep : (k : ℕ) (r : Rule whole (outward u m)) → Keeps nobody u m given r → Keeps nobody u m given (times k r)
  times_keep zero r a = stays_keep
  times_keep (suc k) r a = a ▻ times_keep k r a
