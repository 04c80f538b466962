-- A peer that is changed by its address, and a peer that is made.
use Rattle.std.proofs.Common.{◌≡◌, Bool, true, false, cond, List, [], ◌∷◌, ◌++◌, refl, sym, ◌∙◌, ap, subst, rules}
use Rattle.std.specs.Prelude.{None, Some}
use Rattle.std.specs.List.{find}
use Rattle.std.specs.Cmp.Rules.{comparing}
use Rattle.artery_base.specs.declared.address.Address.{Address}
use Rattle.artery_base.specs.declared.address.UniqueAddress.{UniqueAddress}
use Rattle.artery_machine.specs.Lists.{or_else, change_first}
use Rattle.artery_machine.specs.Parts.{whole}
use Rattle.artery_machine.specs.Node.{Node, Peer, same_address, same_unique, new_peer, is_peer}
use Rattle.artery_machine.specs.Making.{with_peer_at}
use Rattle.artery_names.proofs.Lists.{by_test, not_both}
use Rattle.artery_names.proofs.Plain.{SameNode}
use Rattle.artery_names.proofs.Rules.{SamePeer, same_peer, peers_node}

pub address_is : (a b : Address) → same_address a b ≡ true → a ≡ b
address_is a b h = search (comparing, rules)

pub address_self : (a : Address) → same_address a a ≡ true
address_self a = search (comparing, rules)

pub unique_is : (a b : UniqueAddress) → same_unique a b ≡ true → a ≡ b
unique_is a b h = search (comparing, rules)

pub unique_self : (a : UniqueAddress) → same_unique a a ≡ true
unique_self a = search (comparing, rules)

-- what holds of the peer that is read at an address, once the first at another one, or that, changed
pub on_changed : (a b : Address) (g : Peer whole → Peer whole) → ((p : Peer whole) → (g p).incarnations.address ≡ p.incarnations.address) → (K : Peer whole → Type 0) (ps : List (Peer whole))
    → (b ≡ a → (p : Peer whole) → find (is_peer a) ps ≡ Some p → K (g p)) → (b ≡ a → find (is_peer a) ps ≡ None → K (new_peer b))
    → (same_address a b ≡ false → K (or_else (new_peer b) (find (is_peer b) ps))) → K (or_else (new_peer b) (find (is_peer b) (change_first (is_peer a) g ps)))
on_changed a b g s K [] here none away = by_test (same_address a b) (λ t. none (sym (address_is a b t)) refl) (λ t. away t)
on_changed a b g s K (p ∷ ps) here none away = by (is_peer a p) refl (is_peer b p) refl here none away (on_changed a b g s K ps)
  where
    Here : List (Peer whole) → Type 0
    Here qs = b ≡ a → (q : Peer whole) → find (is_peer a) qs ≡ Some q → K (g q)

    Missing : List (Peer whole) → Type 0
    Missing qs = b ≡ a → find (is_peer a) qs ≡ None → K (new_peer b)

    Away : List (Peer whole) → Type 0
    Away qs = same_address a b ≡ false → K (or_else (new_peer b) (find (is_peer b) qs))

    at_b : (q : Peer whole) → q.incarnations.address ≡ p.incarnations.address → is_peer b q ≡ is_peer b p
    at_b q e = ap (λ (x : Address). same_address x b) e

    found : (q : Peer whole) (c : Bool) → is_peer b q ≡ c → or_else (new_peer b) (find (is_peer b) (q ∷ ps)) ≡ or_else (new_peer b) (cond c (Some q) (find (is_peer b) ps))
    found q c e = ap (λ (x : Bool). or_else (new_peer b) (cond x (Some q) (find (is_peer b) ps))) e

    by : (x : Bool) → is_peer a p ≡ x → (y : Bool) → is_peer b p ≡ y → Here (p ∷ ps) → Missing (p ∷ ps) → Away (p ∷ ps) → (Here ps → Missing ps → Away ps → K (or_else (new_peer b) (find (is_peer b) (change_first (is_peer a) g ps))))
        → K (or_else (new_peer b) (find (is_peer b) (cond x (g p ∷ ps) (p ∷ change_first (is_peer a) g ps))))
    by true e true f h n w rest =
        let same : b ≡ a = sym (address_is p.incarnations.address b f) ∙ address_is p.incarnations.address a e in
        subst K (sym (found (g p) true (at_b (g p) (s p) ∙ f))) (h same p (ap (λ (x : Bool). cond x (Some p) (find (is_peer a) ps)) e))
    by true e false f h n w rest =
        let apart : same_address a b ≡ false = ap (λ (x : Address). same_address x b) (sym (address_is p.incarnations.address a e)) ∙ f in
        subst K (sym (found (g p) false (at_b (g p) (s p) ∙ f))) (subst K (found p false f) (w apart))
    by false e true f h n w rest =
        let apart : same_address a b ≡ false = by_test (same_address a b)
        (λ t. not_both (ap (λ (x : Address). same_address p.incarnations.address x) (address_is a b t) ∙ f) e) (λ t. t) in
        subst K (sym (ap (λ (x : Bool). or_else (new_peer b) (cond x (Some p) (find (is_peer b) (change_first (is_peer a) g ps)))) f)) (subst K (found p true f) (w apart))
    by false e false f h n w rest =
        let skip : find (is_peer a) (p ∷ ps) ≡ find (is_peer a) ps = ap (λ (x : Bool). cond x (Some p) (find (is_peer a) ps)) e in
        subst K (sym (ap (λ (x : Bool). or_else (new_peer b) (cond x (Some p) (find (is_peer b) (change_first (is_peer a) g ps)))) f))
        (rest (λ same q k. h same q (skip ∙ k)) (λ same k. n same (skip ∙ k)) (λ t. subst K (found p false f) (w t)))

-- a peer that is made reads as it did
pub made_peer : (a b : Address) (ps : List (Peer whole)) → SamePeer (or_else (new_peer b) (find (is_peer b) ps)) (or_else (new_peer b) (find (is_peer b) (ps ++ new_peer a ∷ [])))
made_peer a b [] = by (same_address a b) refl
  where
    by : (c : Bool) → same_address a b ≡ c → SamePeer (new_peer {P = whole} b) (or_else (new_peer b) (cond c (Some (new_peer a)) None))
    by true e = subst (λ (x : Address). SamePeer (new_peer {P = whole} b) (new_peer x)) (sym (address_is a b e)) (same_peer (new_peer b))
    by false e = same_peer (new_peer b)
made_peer a b (p ∷ ps) = by (is_peer b p) (made_peer a b ps)
  where
    by : (c : Bool) → SamePeer (or_else (new_peer b) (find (is_peer b) ps)) (or_else (new_peer b) (find (is_peer b) (ps ++ new_peer a ∷ [])))
        → SamePeer (or_else (new_peer b) (cond c (Some p) (find (is_peer b) ps))) (or_else (new_peer b) (cond c (Some p) (find (is_peer b) (ps ++ new_peer a ∷ []))))
    by true r = same_peer p
    by false r = r

pub made_node : (a : Address) (n : Node whole) → SameNode n (with_peer_at a n)
made_node a n = peers_node n (n.peers ++ new_peer a ∷ []) (λ b. made_peer a b n.peers)
