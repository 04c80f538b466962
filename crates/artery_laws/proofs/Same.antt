-- The same parts lie over themselves. So what was done before changes nothing of what a node does, and deeds become their bytes one by one.
use Rattle.std.proofs.Common.{◌≡◌, ℕ, List, [], ◌∷◌, ◌++◌, refl, ap, sym, ◌∙◌, append_assoc, append-nil}
use Rattle.std.specs.Prelude.{map}
use Rattle.artery_machine.specs.declared.effect.Effect.{Effect}
use Rattle.artery_machine.specs.declared.input.Input.{Input}
use Rattle.artery_machine.specs.Deeds.{Deed, effect_of, effects_of}
use Rattle.artery_machine.specs.Parts.{Parts}
use Rattle.artery_machine.specs.Node.{Node}
use Rattle.artery_machine.specs.Doing.{listed, in_bytes}
use Rattle.artery_machine.specs.Reacting.{reacts, step}
use Rattle.artery_laws.specs.Over.{Over, peer_over, inbound_over, origin_over, node_over}
use Rattle.artery_laws.specs.Bytes.{after_effects, with_bytes_behind}
use Rattle.artery_laws.proofs.Over.{SinkOver}
use Rattle.artery_laws.proofs.OverTicking.{reacts_over}

abbrev pub same : (P : Parts) → Over P P
same P = record {
  out = λ o. o;
  ins = λ i. i;
  announced = λ t. t;
  adopted = λ t. t;
  bytes = λ b. b;
  beats = λ b. b;
  nothing_sent = refl;
  acceptance = λ m o. refl;
  accepted = λ m o. refl;
  learnt = λ o. refl;
  forgotten = refl;
  acknowledgement = λ n o. refl;
  acknowledged = λ n o. refl;
  refused = λ n o. refl;
  rewound = λ o. refl;
  next = λ o. refl;
  pumped = λ o. refl;
  unacknowledged = λ o. refl;
  nothing_taken = refl;
  opened = λ v i. refl;
  taking = λ v n i. refl;
  taken = λ v n m i. refl;
  last_taken = λ v i. refl;
  nothing_announced = refl;
  counted = λ name t. refl;
  advertising = λ b t. refl;
  advertised = λ b t. refl;
  unconfirmed = λ t. refl;
  confirming = λ n t. refl;
  confirmed = λ n t. refl;
  current_number = λ t. refl;
  number_of = λ t v. refl;
  entries = λ t v i. refl;
  nothing_adopted = refl;
  adopting = λ n t. refl;
  adopts = λ n keys values t. refl;
  indices_version = λ t. refl;
  indices_index = λ t name. refl;
  nothing_came = refl;
  frames = λ piece b. refl;
  came = λ piece b. refl;
  carries = λ b. refl;
  fault = λ b. refl;
  no_beats = refl;
  asked = λ now b. refl;
  heard = λ now b. refl;
  available = λ now b. refl;
}

pub each_same : {X : Type 0} (f : X → X) → ((x : X) → f x ≡ x) → (xs : List X) → map f xs ≡ xs
each_same f e [] = refl
each_same f e (x ∷ xs) = ap (λ y. y ∷ map f xs) (e x) ∙ ap (λ ys. x ∷ ys) (each_same f e xs)

pub node_same : (P : Parts) (n : Node P) → node_over (same P) n ≡ n
node_same P n =
    ap (λ ps. record (node_over (same P) n) { peers = ps }) (each_same (peer_over (same P)) (λ p. refl) n.peers)
    ∙ ap (λ is. record (node_over (same P) n) { peers = n.peers; inbound = is }) (each_same (inbound_over (same P)) (λ i. refl) n.inbound)
    ∙ ap (λ os. record (node_over (same P) n) { peers = n.peers; inbound = n.inbound; origins = os }) (each_same (origin_over (same P)) (λ o. refl) n.origins)

-- A list of deeds becomes effects, behind those before.
abbrev pub bytes_behind : ℕ → List Effect → SinkOver listed in_bytes
bytes_behind uid before = record {
  to = λ deeds. record { uid = uid; effects = before ++ effects_of uid deeds };
  told = λ deed deeds. ap (λ es. record { uid = uid; effects = es }) (append_assoc before (effects_of uid deeds) (effect_of uid deed ∷ []) ∙ ap (λ es. before ++ es) (sym (one_more deeds deed)));
}
  where
    one_more : (deeds : List Deed) (deed : Deed) → effects_of uid (deeds ++ deed ∷ []) ≡ effects_of uid deeds ++ effect_of uid deed ∷ []
    one_more [] deed = refl
    one_more (x ∷ deeds) deed = ap (λ es. effect_of uid x ∷ es) (one_more deeds deed)

pub bytes_follow : (P : Parts) (input : Input) (n : Node P) (uid : ℕ) (before : List Effect) → reacts input (after_effects uid before n) ≡ with_bytes_behind uid before (step input n)
bytes_follow P input n uid before =
    ap (reacts input) (sym (ap (λ (m : Node P). after_effects uid (before ++ []) m) (node_same P n) ∙ ap (λ es. after_effects uid es n) (append-nil before)))
    ∙ (reacts_over (same P) (bytes_behind uid before) input).on (record { node = n; deeds = [] })
    ∙ ap (λ (m : Node P). after_effects uid (before ++ effects_of uid (step input n).deeds) m) (node_same P (step input n).node)
