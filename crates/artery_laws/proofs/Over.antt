-- Parts that lie over others: maps of what has a whole history, under which each operation is the same. Then each rule is the same under them, wherever the deeds go.
use Rattle.std.proofs.Common.{◌≡◌, ℕ, zero, suc, Bool, true, false, cond, List, [], ◌∷◌, refl, ap, ◌∙◌}
use Rattle.std.specs.Prelude.{◌++◌, Option, Some, None, map, length}
use Rattle.std.specs.List.{find, list_any, list_all, filter}
use Rattle.std.specs.Option.{option_map}
use Rattle.artery_base.specs.declared.address.Address.{Address}
use Rattle.artery_base.specs.declared.address.UniqueAddress.{UniqueAddress}
use Rattle.artery_journal.specs.declared.line.Line.{Line}
use Rattle.artery_machine.specs.Lists.{or_else, change_first}
use Rattle.artery_machine.specs.Deeds.{Deed, Writing, Writes, Tells}
use Rattle.artery_machine.specs.Parts.{Parts}
use Rattle.artery_machine.specs.Node.{of_each, Peer, new_peer, Inbound, accepted_as, Origin, new_origin, Node, is_peer, has_peer, peer_at, dialed_as, peer_dialed, is_number, inbound_at, is_origin, has_origin, origin_at}
pub use Rattle.artery_laws.specs.Over.{Over, peer_over, inbound_over, origin_over, node_over}
use Rattle.artery_machine.specs.Doing.{Sink, Doing, Rule, ◌▸◌, stays, does, becomes, tells, tells_of, writes_on, hangs_up, peer_becomes, inbound_becomes, origin_becomes, each, times}

-- Where deeds go lies over another place.
pub record SinkOver (E F : Sink) : Type 0 where
  pub to : E.Deeds → F.Deeds
  pub told : (deed : Deed) (x : E.Deeds) → F.told deed (to x) ≡ to (E.told deed x)

-- ---- lists

module _ {S T : Type 0} (f : S → T) (p : S → Bool) (q : T → Bool) (alike : (s : S) → q (f s) ≡ p s) where
  pub find_over : (xs : List S) → find q (map f xs) ≡ option_map f (find p xs)
  find_over [] = refl
  find_over (x ∷ xs) = rw (alike x) (by (p x) (find_over xs))
    where
      by : (b : Bool) → find q (map f xs) ≡ option_map f (find p xs) → cond b (Some (f x)) (find q (map f xs)) ≡ option_map f (cond b (Some x) (find p xs))
      by true rest = refl
      by false rest = rest

  pub any_over : (xs : List S) → list_any q (map f xs) ≡ list_any p xs
  any_over [] = refl
  any_over (x ∷ xs) = rw (alike x, any_over xs) refl

  pub all_over : (xs : List S) → list_all q (map f xs) ≡ list_all p xs
  all_over [] = refl
  all_over (x ∷ xs) = rw (alike x, all_over xs) refl

  pub filter_over : (xs : List S) → filter q (map f xs) ≡ map f (filter p xs)
  filter_over [] = refl
  filter_over (x ∷ xs) = rw (alike x) (by (p x) (filter_over xs))
    where
      by : (b : Bool) → filter q (map f xs) ≡ map f (filter p xs) → cond b (f x ∷ filter q (map f xs)) (filter q (map f xs)) ≡ map f (cond b (x ∷ filter p xs) (filter p xs))
      by true rest = ap (λ ys. f x ∷ ys) rest
      by false rest = rest

  pub change_over : (g : S → S) (k : T → T) → ((s : S) → k (f s) ≡ f (g s)) → (xs : List S) → change_first q k (map f xs) ≡ map f (change_first p g xs)
  change_over g k e [] = refl
  change_over g k e (x ∷ xs) = rw (alike x) (by (p x) (change_over g k e xs))
    where
      by : (b : Bool) → change_first q k (map f xs) ≡ map f (change_first p g xs) → cond b (k (f x) ∷ map f xs) (f x ∷ change_first q k (map f xs)) ≡ map f (cond b (g x ∷ xs) (x ∷ change_first p g xs))
      by true rest = ap (λ y. y ∷ map f xs) (e x)
      by false rest = ap (λ ys. f x ∷ ys) rest

pub or_over : {S T : Type 0} (f : S → T) (s : S) (t : T) → t ≡ f s → (o : Option S) → or_else t (option_map f o) ≡ f (or_else s o)
or_over f s t e None = e
or_over f s t e (Some x) = refl

pub push_over : {S T : Type 0} (f : S → T) (xs : List S) (y : S) (z : T) → z ≡ f y → map f xs ++ z ∷ [] ≡ map f (xs ++ y ∷ [])
push_over f [] y z e = ap (λ t. t ∷ []) e
push_over f (x ∷ xs) y z e = ap (λ ys. f x ∷ ys) (push_over f xs y z e)

pub length_over : {S T : Type 0} (f : S → T) (xs : List S) → length (map f xs) ≡ length xs
length_over f [] = refl
length_over f (x ∷ xs) = ap suc (length_over f xs)

-- ---- a node

module _ {P Q : Parts} (h : Over P Q) where
  pub new_peer_over : (a : Address) → new_peer {P = Q} a ≡ (peer_over h) (new_peer a)
  new_peer_over a =
      ap (λ (o : Q.Out). record (new_peer {P = Q} a) { out = o }) h.nothing_sent
      ∙ ap (λ (t : Q.Adopted). record (new_peer {P = Q} a) { out = h.out P.nothing_sent; tables = of_each t }) h.nothing_adopted
      ∙ ap (λ (b : Q.Beats). record (new_peer {P = Q} a) { out = h.out P.nothing_sent; tables = of_each (h.adopted P.nothing_adopted); beats = b }) h.no_beats

  pub new_origin_over : (now : ℕ) (v : UniqueAddress) → new_origin {P = Q} now v ≡ (origin_over h) (new_origin now v)
  new_origin_over now v = ap (λ (t : Q.Announced). record (new_origin {P = Q} now v) { tables = of_each t }) h.nothing_announced

  pub new_inbound_over : (k : ℕ) → accepted_as {P = Q} k ≡ (inbound_over h) (accepted_as k)
  new_inbound_over k = ap (λ (b : Q.Bytes). record (accepted_as {P = Q} k) { bytes = b }) h.nothing_came

  pub has_peer_over : (a : Address) (n : Node P) → has_peer a ((node_over h) n) ≡ has_peer a n
  has_peer_over a n = any_over (peer_over h) (is_peer a) (is_peer a) (λ p. refl) n.peers

  pub peer_at_over : (a : Address) (n : Node P) → peer_at a ((node_over h) n) ≡ (peer_over h) (peer_at a n)
  peer_at_over a n = ap (or_else (new_peer a)) (find_over (peer_over h) (is_peer a) (is_peer a) (λ p. refl) n.peers)
      ∙ or_over (peer_over h) (new_peer a) (new_peer a) (new_peer_over a) (find (is_peer a) n.peers)

  pub peer_dialed_over : (x : ℕ) (n : Node P) → peer_dialed x ((node_over h) n) ≡ option_map (peer_over h) (peer_dialed x n)
  peer_dialed_over x n = find_over (peer_over h) (dialed_as x) (dialed_as x) (λ p. refl) n.peers

  pub inbound_at_over : (k : ℕ) (n : Node P) → inbound_at k ((node_over h) n) ≡ option_map (inbound_over h) (inbound_at k n)
  inbound_at_over k n = find_over (inbound_over h) (is_number k) (is_number k) (λ i. refl) n.inbound

  pub has_origin_over : (v : UniqueAddress) (n : Node P) → has_origin v ((node_over h) n) ≡ has_origin v n
  has_origin_over v n = any_over (origin_over h) (is_origin v) (is_origin v) (λ o. refl) n.origins

  pub origin_at_over : (v : UniqueAddress) (n : Node P) → origin_at v ((node_over h) n) ≡ (origin_over h) (origin_at v n)
  origin_at_over v n = ap (or_else (new_origin n.moment v)) (find_over (origin_over h) (is_origin v) (is_origin v) (λ o. refl) n.origins)
      ∙ or_over (origin_over h) (new_origin n.moment v) (new_origin n.moment v) (new_origin_over n.moment v) (find (is_origin v) n.origins)

-- A node at work, seen through the maps.
abbrev pub seen : {P Q : Parts} (h : Over P Q) {E F : Sink} (s : SinkOver E F) → Doing P E → Doing Q F
seen h s d = record { node = node_over h d.node; deeds = s.to d.deeds }

-- Two rules are the same under the maps.
pub record IsOver {P Q : Parts} (h : Over P Q) {E F : Sink} (s : SinkOver E F) (r : Rule P E) (q : Rule Q F) : Type 0 where
  pub on : (d : Doing P E) → q (seen h s d) ≡ seen h s (r d)

infixr 35 ◌▹◌
pub ◌▹◌ : {P Q : Parts} {h : Over P Q} {E F : Sink} {s : SinkOver E F} {r t : Rule P E} {q u : Rule Q F} → IsOver h s r q → IsOver h s t u → IsOver h s (r ▸ t) (q ▸ u)
◌▹◌ {P} {Q} {h} {E} {F} {s} {r} {t} {q} {u} a b = record { on = λ d. ap u (a.on d) ∙ b.on (r d) }

module _ {P Q : Parts} {h : Over P Q} {E F : Sink} {s : SinkOver E F} where
  pub stays_over : IsOver h s stays stays
  stays_over = record { on = λ d. refl }

  pub does_over : (deed : Deed) → IsOver h s (does deed) (does deed)
  does_over deed = record { on = λ d. ap (λ x. record (seen h s d) { deeds = x }) (s.told deed d.deeds) }

  pub becomes_over : (g : Node P → Node P) (k : Node Q → Node Q) → ((n : Node P) → k (node_over h n) ≡ node_over h (g n)) → IsOver h s (becomes g) (becomes k)
  becomes_over g k e = record { on = λ d. ap (λ n. record (seen h s d) { node = n }) (e d.node) }

  pub if_over : (b : Bool) (r t : Rule P E) (q u : Rule Q F) → IsOver h s r q → IsOver h s t u → IsOver h s (cond b r t) (cond b q u)
  if_over true r t q u x y = x
  if_over false r t q u x y = y

  pub times_over : (k : ℕ) (r : Rule P E) (q : Rule Q F) → IsOver h s r q → IsOver h s (times k r) (times k q)
  times_over zero r q a = stays_over
  times_over (suc k) r q a = a ▹ times_over k r q a

  pub each_over : {X : Type 0} (xs : List X) (r : X → Rule P E) (q : X → Rule Q F) → ((x : X) → IsOver h s (r x) (q x)) → IsOver h s (each xs r) (each xs q)
  each_over [] r q a = stays_over
  each_over (x ∷ xs) r q a = a x ▹ each_over xs r q a

  pub tells_over : (line : Line) → IsOver h s (tells line) (tells line)
  tells_over line = does_over (Tells line)

  pub tells_of_over : (line : UniqueAddress → Line) → IsOver h s (tells_of line) (tells_of line)
  tells_of_over line = record { on = λ d. (tells_over (line d.node.me)).on d }

  pub writes_on_over : (dial : Option ℕ) (w : Writing) → IsOver h s (writes_on dial w) (writes_on dial w)
  writes_on_over None w = stays_over
  writes_on_over (Some dial) w = does_over (Writes dial w)

  pub hangs_up_over : (dial : Option ℕ) → IsOver h s (hangs_up dial) (hangs_up dial)
  hangs_up_over None = stays_over
  hangs_up_over (Some dial) = does_over _

  pub peer_becomes_over : (a : Address) (g : Peer P → Peer P) (k : Peer Q → Peer Q) → ((p : Peer P) → k (peer_over h p) ≡ peer_over h (g p)) → IsOver h s (peer_becomes a g) (peer_becomes a k)
  peer_becomes_over a g k e = becomes_over _ _ (λ n. ap (λ ps. record (node_over h n) { peers = ps }) (change_over (peer_over h) (is_peer a) (is_peer a) (λ p. refl) g k e n.peers))

  pub inbound_becomes_over : (k : ℕ) (g : Inbound P → Inbound P) (l : Inbound Q → Inbound Q) → ((i : Inbound P) → l (inbound_over h i) ≡ inbound_over h (g i)) → IsOver h s (inbound_becomes k g) (inbound_becomes k l)
  inbound_becomes_over k g l e = becomes_over _ _ (λ n. ap (λ is. record (node_over h n) { inbound = is }) (change_over (inbound_over h) (is_number k) (is_number k) (λ i. refl) g l e n.inbound))

  pub origin_becomes_over : (v : UniqueAddress) (g : Origin P → Origin P) (l : Origin Q → Origin Q) → ((o : Origin P) → l (origin_over h o) ≡ origin_over h (g o)) → IsOver h s (origin_becomes v g) (origin_becomes v l)
  origin_becomes_over v g l e = becomes_over _ _ (λ n. ap (λ os. record (node_over h n) { origins = os }) (change_over (origin_over h) (is_origin v) (is_origin v) (λ o. refl) g l e n.origins))

  -- a rule that reads the peer at an address, or an origin
  pub at_peer_over : (a : Address) (r : Peer P → Rule P E) (q : Peer Q → Rule Q F) → ((p : Peer P) → IsOver h s (r p) (q (peer_over h p))) → IsOver h s (λ d. r (peer_at a d.node) d) (λ d. q (peer_at a d.node) d)
  at_peer_over a r q f = record { on = λ d. ap (λ p. q p (seen h s d)) (peer_at_over h a d.node) ∙ (f (peer_at a d.node)).on d }

  pub at_origin_over : (v : UniqueAddress) (r : Origin P → Rule P E) (q : Origin Q → Rule Q F) → ((o : Origin P) → IsOver h s (r o) (q (origin_over h o))) → IsOver h s (λ d. r (origin_at v d.node) d) (λ d. q (origin_at v d.node) d)
  at_origin_over v r q f = record { on = λ d. ap (λ o. q o (seen h s d)) (origin_at_over h v d.node) ∙ (f (origin_at v d.node)).on d }
