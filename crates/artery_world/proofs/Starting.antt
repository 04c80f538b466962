-- Incarnations that start and stop, and events that are allowed.
use Rattle.std.proofs.Common.{◌≡◌, ℕ, ◌<◌, ◌≤◌, ◌^◌, Bool, true, false, cond, List, [], ◌∷◌, ◌++◌, length, refl, sym, ◌∙◌, ap, arith}
use Rattle.std.specs.Prelude.{Option, None, Some, is_some, find, not, nat_le, nat_lt, ◌==◌, ◌||◌}
use Rattle.std.specs.List.{list_any}
use Rattle.indexmap.specs.IndexSet.{insert_key}
use Rattle.std.proofs.lemmas.Bool.Decides.{nat_tests}
use Rattle.artery_base.specs.declared.address.Address.{Address}
use Rattle.artery_base.specs.declared.address.UniqueAddress.{UniqueAddress}
use Rattle.artery_machine.specs.declared.effect.Effect.{Effect}
use Rattle.artery_machine.specs.declared.input.Input.TheVariants as inputs
use Rattle.artery_journal.specs.declared.line.Line.TheVariants as lines
use Rattle.artery_machine.specs.declared.world.Outcome.TheVariants as outcomes
use Rattle.artery_machine.specs.declared.world.Why.TheVariants as why
use Rattle.artery_machine.specs.Deeds.{effects_of}
use Rattle.artery_machine.specs.Parts.{kept}
use Rattle.artery_machine.specs.Ways.{kept_ways}
use Rattle.artery_machine.specs.declared.world.WorldLimit.TheVariants as limits
use Rattle.artery_machine.specs.Node.{Node, new_node}
use Rattle.artery_machine.specs.World.{World, Live, ◌⟫◌, ends, starts_with, stops_one, gone, by_found, comes_out, each, does, live_of, live_at, was_started, unless, first_of, has_uid, of_live, with_started}
use Rattle.artery_machine.specs.Reacting.{starts}
use Rattle.artery_world.specs.Acting.{acts}
use Rattle.artery_world.specs.Running.{IsFitFor}
use Rattle.artery_world.proofs.Coming.{acts_are_deeds, own_uid}

abbrev Net : Type 0
Net = World kept kept_ways

-- A start that nothing refuses is of a UID that was not started.
pub not_started : (uid : ℕ) (address : Address) (w : Net) → first_of (unless (not (was_started uid w)) why.UsedUid) (unless (not (is_some (live_at address w))) why.AddressLive) ≡ None → was_started uid w ≡ false
not_started uid address w h = by (was_started uid w) (not (is_some (live_at address w))) h
  where
    by : (b c : Bool) → first_of (unless (not b) why.UsedUid) (unless c why.AddressLive) ≡ None → b ≡ false
    by false c e = refl
    by true c h0 = absurd cc

-- A tick that nothing refuses is fit.
pub tick_fits : (moment : ℕ) (found : Option (Live kept)) → moment < 2 ^ 62 → of_live found (λ l. unless (nat_le l.node.moment moment) why.MomentBack) ≡ None → IsFitFor (inputs.Tick moment) found
tick_fits moment None small h0 = absurd cc
tick_fits moment (Some l) small h = (by (nat_le l.node.moment moment) refl h, small)
  where
    by : (b : Bool) → nat_le l.node.moment moment ≡ b → unless b why.MomentBack ≡ None → l.node.moment ≤ moment
    by true e k = grind (arith, nat_tests)
    by false e h0 = absurd cc

eq_flipped : (a b : ℕ) → (a == b) ≡ (b == a)
eq_flipped a b = grind (arith, nat_tests)

any_flipped : (uid : ℕ) (keys : List ℕ) → list_any (λ other. uid == other) keys ≡ list_any (λ other. other == uid) keys
any_flipped uid [] = refl
any_flipped uid (x ∷ xs) = ap (λ b. b || list_any (λ other. uid == other) xs) (eq_flipped uid x) ∙ ap (λ b. (x == uid) || b) (any_flipped uid xs)

-- A UID that was not started is put behind those that were.
started_keys : (uid : ℕ) (keys : List ℕ) → list_any (λ other. other == uid) keys ≡ false → insert_key ◌==◌ keys uid ≡ keys ++ uid ∷ []
started_keys uid keys h = ap (λ b. cond b keys (keys ++ uid ∷ [])) (any_flipped uid keys ∙ h)

-- An incarnation started.
pub started : (unique : UniqueAddress) (w u : Net) (keys : List ℕ) (node : Node kept) (effects : List Effect) (moment : ℕ)
    → length w.live < 64 → was_started unique.uid w ≡ false → keys ≡ insert_key ◌==◌ w.started unique.uid
    → node ≡ new_node unique → effects ≡ effects_of unique.uid (starts {P = kept} unique).deeds → moment ≡ node.moment
    → u ≡ each effects (acts unique.uid moment) (record w { started = keys; live = w.live ++ record { node = node; accepted = 0 } ∷ [] })
    → u ≡ starts_with unique (starts unique) w
started unique w u keys node effects moment few fresh are is told now so =
    so
    ∙ ap (λ ks. each effects (acts unique.uid moment) (record w { started = ks; live = w.live ++ record { node = node; accepted = 0 } ∷ [] })) (are ∙ started_keys unique.uid w.started fresh)
    ∙ ap (λ m. each effects (acts unique.uid m) (with_started unique node w)) (now ∙ ap (λ (n : Node kept). n.moment) is)
    ∙ ap (λ n. each effects (acts unique.uid (new_node {P = kept} unique).moment) (with_started unique n w)) is
    ∙ ap (λ es. each es (acts unique.uid (new_node {P = kept} unique).moment) (with_started unique (new_node unique) w)) told
    ∙ acts_are_deeds unique.uid (new_node {P = kept} unique).moment (starts {P = kept} unique).deeds (with_started unique (new_node unique) w)
    ∙ sym (ap (λ (b : Bool). (cond b (with_started unique (starts {P = kept} unique).node ⟫ each (starts {P = kept} unique).deeds (does unique.uid (starts {P = kept} unique).node.moment)) (ends limits.Nodes)) w) is_less)
  where
    is_less : nat_lt (length w.live) 64 ≡ true
    is_less = grind (arith, nat_tests)

-- An incarnation stopped.
pub stopped : (uid : ℕ) (w v u : Net) (l : Live kept) → find (has_uid uid) w.live ≡ Some l
    → v ≡ comes_out (outcomes.Line l.node.moment (lines.Stopped l.node.me)) w → u ≡ gone uid v → u ≡ by_found stops_one (live_of uid w) w
stopped uid w v u l found told is =
    is ∙ ap (gone uid) told
    ∙ ap (λ n. gone n (comes_out (outcomes.Line l.node.moment (lines.Stopped l.node.me)) w)) (sym (own_uid uid w.live l found))
    ∙ sym (ap (λ o. by_found stops_one o w) found)
