-- Rules of a node whose deeds are done outside at once, and that say nothing of ordinary messages and tables.
use Rattle.std.proofs.Common.{◌≡◌, ℕ, zero, suc, Bool, true, false, cond, List, [], ◌∷◌, refl, sym, ◌∙◌, ap, subst}
use Rattle.std.specs.Prelude.{Option, None, Some, ◌==◌}
use Rattle.std.specs.List.{find}
use Rattle.artery_base.specs.declared.address.Address.{Address}
use Rattle.artery_base.specs.declared.address.UniqueAddress.{UniqueAddress}
use Rattle.artery_assoc.specs.Peer.{PeerState}
use Rattle.artery_journal.specs.declared.line.Line.{Line}
use Rattle.artery_journal.specs.declared.words.Kind.{Kind}
use Rattle.artery_tables.specs.Story.{Story}
use Rattle.artery_machine.specs.declared.input.Conn.TheVariants.{Outward}
use Rattle.artery_machine.specs.Deeds.{Writing, Deed, Writes, Hangs, Tells}
use Rattle.artery_machine.specs.Lists.{or_else, change_first}
use Rattle.artery_machine.specs.Parts.{whole}
use Rattle.artery_machine.specs.Node.{Node, Peer, Inbound, Origin, OfKinds, of_kind, same_address, same_unique, new_peer, new_origin, is_peer, peer_at, is_number, inbound_at, is_origin}
use Rattle.artery_machine.specs.Doing.{Doing, Rule, ◌▸◌, stays, where_true, does, becomes, tells_of, writes_on, hangs_up, peer_becomes, inbound_becomes, origin_becomes, each, times}
use Rattle.artery_names.proofs.Lists.{some_same, not_some}
use Rattle.artery_names.proofs.Talks.{IsSilent}
use Rattle.artery_names.proofs.Facts.{Network, bound_in, story_of, numbers_in}
use Rattle.artery_names.proofs.Plain.{Less, Same, StillHeard, WasHeard, SameNode, same_node, Plainly, plainly_self, plainly_then}
use Rattle.artery_names.proofs.Outside.{outward, IsPlain, IsPlainDeed, told_quietly}

abbrev pub Work : ℕ → ℕ → Type 0
Work u m = Doing whole (outward u m)

-- A rule that says nothing of these.
pub record Plain (u m : ℕ) (r : Rule whole (outward u m)) : Type 0 where
  pub on : (d : Work u m) → Plainly u d.node d.deeds (r d).node (r d).deeds

infixr 35 ◌▹◌
pub ◌▹◌ : {u m : ℕ} {r s : Rule whole (outward u m)} → Plain u m r → Plain u m s → Plain u m (r ▸ s)
◌▹◌ {u} {m} {r} {s} a b = record { on = λ d. plainly_then u d.node d.deeds (r d).node (r d).deeds (s (r d)).node (s (r d)).deeds (a.on d) (b.on (r d)) }

-- ---- a node changes

pub node_changes : (u : ℕ) (n k : Node whole) (w : Network) → SameNode n k → Plainly u n w k w
node_changes u n k w s = (let p = plainly_self u n w in record { node = s; steps = p.steps; talk = p.talk; conns = p.conns; lawful = p.lawful; going = p.going })

-- what is kept of peers, inbound connections and origins
pub record SameKept (n k : Node whole) : Type 0 where
  pub me : k.me ≡ n.me
  pub peers : k.peers ≡ n.peers
  pub inbound : k.inbound ≡ n.inbound
  pub origins : k.origins ≡ n.origins

same_stories : (os : List (Origin whole)) (m now : ℕ) (v : UniqueAddress) → (or_else (new_origin {P = whole} m v) (find (is_origin v) os)).tables ≡ (or_else (new_origin {P = whole} now v) (find (is_origin v) os)).tables
same_stories os m now v = by (find (is_origin v) os)
  where
    by : (x : Option (Origin whole)) → (or_else (new_origin {P = whole} m v) x).tables ≡ (or_else (new_origin {P = whole} now v) x).tables
    by None = refl
    by (Some o) = refl

pub kept_same : (n k : Node whole) → SameKept n k → SameNode n k
kept_same n k s = record {
  me = s.me;
  numbers = ap numbers_in s.inbound;
  known = λ a. ap (λ ps. (or_else (new_peer {P = whole} a) (find (is_peer a) ps)).incarnations) s.peers;
  tables = λ a. ap (λ ps. (or_else (new_peer {P = whole} a) (find (is_peer a) ps)).tables) s.peers;
  control = λ a. Same (ap (λ ps. bound_in (or_else (new_peer {P = whole} a) (find (is_peer a) ps)).control.conn) s.peers);
  ordinary = λ a. Same (ap (λ ps. bound_in (or_else (new_peer {P = whole} a) (find (is_peer a) ps)).ordinary.conn) s.peers);
  stories = λ v kind. ap (λ os. (of_kind kind (or_else (new_origin {P = whole} k.moment v) (find (is_origin v) os)).tables).story) s.origins
      ∙ ap (λ (t : OfKinds whole.Announced). (of_kind kind t).story) (same_stories n.origins k.moment n.moment v);
  inbound = λ x j e. record { was = j; is = sym (ap (λ is. find (is_number x) is) s.inbound) ∙ e; still = record { state = refl; shown = refl; owed = Same refl } };
}

-- ---- a peer

pub record SamePeer (p q : Peer whole) : Type 0 where
  pub known : q.incarnations ≡ p.incarnations
  pub tables : q.tables ≡ p.tables
  pub control : Less (bound_in p.control.conn) (bound_in q.control.conn)
  pub ordinary : Less (bound_in p.ordinary.conn) (bound_in q.ordinary.conn)

pub same_peer : (p : Peer whole) → SamePeer p p
same_peer p = record { known = refl; tables = refl; control = Same refl; ordinary = Same refl }

pub peers_same : (a b : Address) (g : Peer whole → Peer whole) → ((p : Peer whole) → SamePeer p (g p)) → (ps : List (Peer whole))
    → SamePeer (or_else (new_peer b) (find (is_peer b) ps)) (or_else (new_peer b) (find (is_peer b) (change_first (is_peer a) g ps)))
peers_same a b g s [] = same_peer (new_peer b)
peers_same a b g s (p ∷ ps) = by (is_peer a p) (is_peer b p) refl (peers_same a b g s ps)
  where
    at_it : (c : Bool) → is_peer b p ≡ c → SamePeer (or_else (new_peer b) (cond c (Some p) (find (is_peer b) ps))) (or_else (new_peer b) (cond c (Some (g p)) (find (is_peer b) ps)))
    at_it true e = s p
    at_it false e = same_peer _

    behind : (c : Bool) → SamePeer (or_else (new_peer b) (find (is_peer b) ps)) (or_else (new_peer b) (find (is_peer b) (change_first (is_peer a) g ps)))
        → SamePeer (or_else (new_peer b) (cond c (Some p) (find (is_peer b) ps))) (or_else (new_peer b) (cond c (Some p) (find (is_peer b) (change_first (is_peer a) g ps))))
    behind true r = same_peer p
    behind false r = r

    by : (x c : Bool) → is_peer b p ≡ c → SamePeer (or_else (new_peer b) (find (is_peer b) ps)) (or_else (new_peer b) (find (is_peer b) (change_first (is_peer a) g ps)))
        → SamePeer (or_else (new_peer b) (find (is_peer b) (p ∷ ps))) (or_else (new_peer b) (find (is_peer b) (cond x (g p ∷ ps) (p ∷ change_first (is_peer a) g ps))))
    by true c e r =
        let at : is_peer b (g p) ≡ is_peer b p = ap (λ (i : PeerState). same_address i.address b) (s p).known in
        subst (λ (z : Bool). SamePeer (or_else (new_peer b) (find (is_peer b) (p ∷ ps))) (or_else (new_peer b) (cond z (Some (g p)) (find (is_peer b) ps)))) (sym at) (at_it (is_peer b p) refl)
    by false c e r = behind (is_peer b p) r

pub peers_node : (n : Node whole) (ps : List (Peer whole)) → ((b : Address) → SamePeer (peer_at b n) (or_else (new_peer b) (find (is_peer b) ps))) → SameNode n (record n { peers = ps })
peers_node n ps s = record {
  me = refl;
  numbers = refl;
  known = λ a. (s a).known;
  tables = λ a. (s a).tables;
  control = λ a. (s a).control;
  ordinary = λ a. (s a).ordinary;
  stories = λ v kind. refl;
  inbound = λ x j e. record { was = j; is = e; still = record { state = refl; shown = refl; owed = Same refl } };
}

-- ---- an inbound connection

pub record SameInbound (i j : Inbound whole) : Type 0 where
  pub number : j.number ≡ i.number
  pub still : StillHeard i j

still_heard : (j : Inbound whole) → StillHeard j j
still_heard j = record { state = refl; shown = refl; owed = Same refl }

pub inbound_same : (x y : ℕ) (f : Inbound whole → Inbound whole) → ((i : Inbound whole) → SameInbound i (f i)) → (is : List (Inbound whole)) (j : Inbound whole) → find (is_number x) (change_first (is_number y) f is) ≡ Some j → WasHeard (find (is_number x) is) j
inbound_same x y f s [] j e = not_some e
inbound_same x y f s (i ∷ is) j e = by (is_number y i) e (inbound_same x y f s is j)
  where
    at_it : (c : Bool) → cond c (Some (f i)) (find (is_number x) is) ≡ Some j → WasHeard (cond c (Some i) (find (is_number x) is)) j
    at_it true h = record { was = i; is = refl; still = subst (StillHeard i) (some_same h) (s i).still }
    at_it false h = record { was = j; is = h; still = still_heard j }

    behind : (c : Bool) → cond c (Some i) (find (is_number x) (change_first (is_number y) f is)) ≡ Some j → (find (is_number x) (change_first (is_number y) f is) ≡ Some j → WasHeard (find (is_number x) is) j) → WasHeard (cond c (Some i) (find (is_number x) is)) j
    behind true h r = record { was = i; is = refl; still = subst (StillHeard i) (some_same h) (still_heard i) }
    behind false h r = r h

    by : (b : Bool) → find (is_number x) (cond b (f i ∷ is) (i ∷ change_first (is_number y) f is)) ≡ Some j → (find (is_number x) (change_first (is_number y) f is) ≡ Some j → WasHeard (find (is_number x) is) j) → WasHeard (cond (is_number x i) (Some i) (find (is_number x) is)) j
    by true h r = at_it (is_number x i) (sym (ap (λ (n : ℕ). cond (n == x) (Some (f i)) (find (is_number x) is)) (s i).number) ∙ h)
    by false h r = behind (is_number x i) h r

pub numbers_same : (y : ℕ) (f : Inbound whole → Inbound whole) → ((i : Inbound whole) → (f i).number ≡ i.number) → (is : List (Inbound whole)) → numbers_in (change_first (is_number y) f is) ≡ numbers_in is
numbers_same y f s [] = refl
numbers_same y f s (i ∷ is) = by (is_number y i) (numbers_same y f s is)
  where
    by : (b : Bool) → numbers_in (change_first (is_number y) f is) ≡ numbers_in is → numbers_in (cond b (f i ∷ is) (i ∷ change_first (is_number y) f is)) ≡ numbers_in (i ∷ is)
    by true r = ap (λ (k : ℕ). k ∷ numbers_in is) (s i)
    by false r = ap (λ ks. i.number ∷ ks) r

pub inbound_node : (n : Node whole) (is : List (Inbound whole)) → numbers_in is ≡ numbers_in n.inbound → ((x : ℕ) (j : Inbound whole) → find (is_number x) is ≡ Some j → WasHeard (inbound_at x n) j) → SameNode n (record n { inbound = is })
inbound_node n is same s = record { me = refl; numbers = same; known = λ a. refl; tables = λ a. refl; control = λ a. Same refl; ordinary = λ a. Same refl; stories = λ v kind. refl; inbound = s }

-- ---- an origin

pub record SameOrigin (o p : Origin whole) : Type 0 where
  pub who : p.who ≡ o.who
  pub stories : (kind : Kind) → (of_kind kind p.tables).story ≡ (of_kind kind o.tables).story

pub origins_same : (v w : UniqueAddress) (m : ℕ) (f : Origin whole → Origin whole) → ((o : Origin whole) → SameOrigin o (f o)) → (os : List (Origin whole)) (kind : Kind)
    → (of_kind kind (or_else (new_origin {P = whole} m w) (find (is_origin w) (change_first (is_origin v) f os))).tables).story ≡ (of_kind kind (or_else (new_origin {P = whole} m w) (find (is_origin w) os)).tables).story
origins_same v w m f s [] kind = refl
origins_same v w m f s (o ∷ os) kind = by (is_origin v o) (origins_same v w m f s os kind)
  where
    story_in : Option (Origin whole) → Story
    story_in x = (of_kind kind (or_else (new_origin {P = whole} m w) x).tables).story

    at_it : (c : Bool) → story_in (cond c (Some (f o)) (find (is_origin w) os)) ≡ story_in (cond c (Some o) (find (is_origin w) os))
    at_it true = (s o).stories kind
    at_it false = refl

    behind : (c : Bool) → story_in (find (is_origin w) (change_first (is_origin v) f os)) ≡ story_in (find (is_origin w) os) → story_in (cond c (Some o) (find (is_origin w) (change_first (is_origin v) f os))) ≡ story_in (cond c (Some o) (find (is_origin w) os))
    behind true r = refl
    behind false r = r

    by : (b : Bool) → story_in (find (is_origin w) (change_first (is_origin v) f os)) ≡ story_in (find (is_origin w) os) → story_in (find (is_origin w) (cond b (f o ∷ os) (o ∷ change_first (is_origin v) f os))) ≡ story_in (find (is_origin w) (o ∷ os))
    by true r = ap (λ (x : UniqueAddress). story_in (cond (same_unique x w) (Some (f o)) (find (is_origin w) os))) (s o).who ∙ at_it (is_origin w o)
    by false r = behind (is_origin w o) r

pub origins_node : (n : Node whole) (os : List (Origin whole)) → ((w : UniqueAddress) (kind : Kind) → (of_kind kind (or_else (new_origin {P = whole} n.moment w) (find (is_origin w) os)).tables).story ≡ story_of kind w n) → SameNode n (record n { origins = os })
origins_node n os s = record { me = refl; numbers = refl; known = λ a. refl; tables = λ a. refl; control = λ a. Same refl; ordinary = λ a. Same refl; stories = s; inbound = λ x j e. record { was = j; is = e; still = still_heard j } }

-- ---- rules

module _ {u m : ℕ} where
  pub stays_plain : Plain u m stays
  stays_plain = record { on = λ d. plainly_self u d.node d.deeds }

  pub deed_plain : (deed : Deed) → IsPlainDeed deed → Plain u m (does deed)
  deed_plain deed p = record { on = λ d. (let q = told_quietly u m deed d.deeds p in record { node = same_node d.node; steps = q.steps; talk = q.talk; conns = q.conns; lawful = q.lawful; going = q.going }) }

  pub tells_plain : (line : UniqueAddress → Line) → ((me : UniqueAddress) → IsSilent (line me)) → Plain u m (tells_of line)
  tells_plain line s = record { on = λ d. (deed_plain (Tells (line d.node.me)) (s d.node.me)).on d }

  pub writes_plain : (x : Option ℕ) (y : Writing) → IsPlain y → Plain u m (writes_on x y)
  writes_plain None y p = stays_plain
  writes_plain (Some dial) y p = deed_plain (Writes dial y) p

  pub hangs_plain : (x : Option ℕ) → Plain u m (hangs_up x)
  hangs_plain None = stays_plain
  hangs_plain (Some dial) = deed_plain (Hangs (Outward dial)) tt

  pub becomes_plain : (f : Node whole → Node whole) → ((n : Node whole) → SameNode n (f n)) → Plain u m (becomes f)
  becomes_plain f s = record { on = λ d. node_changes u d.node (f d.node) d.deeds (s d.node) }

  pub kept_plain : (f : Node whole → Node whole) → ((n : Node whole) → SameKept n (f n)) → Plain u m (becomes f)
  kept_plain f s = becomes_plain f (λ n. kept_same n (f n) (s n))

  pub peer_plain : (a : Address) (g : Peer whole → Peer whole) → ((p : Peer whole) → SamePeer p (g p)) → Plain u m (peer_becomes a g)
  peer_plain a g s = becomes_plain _ (λ n. peers_node n (change_first (is_peer a) g n.peers) (λ b. peers_same a b g s n.peers))

  pub inbound_plain : (k : ℕ) (f : Inbound whole → Inbound whole) → ((i : Inbound whole) → SameInbound i (f i)) → Plain u m (inbound_becomes k f)
  inbound_plain k f s = becomes_plain _ (λ n. inbound_node n (change_first (is_number k) f n.inbound) (numbers_same k f (λ i. (s i).number) n.inbound) (λ x j e. inbound_same x k f s n.inbound j e))

  pub origin_plain : (v : UniqueAddress) (f : Origin whole → Origin whole) → ((o : Origin whole) → SameOrigin o (f o)) → Plain u m (origin_becomes v f)
  origin_plain v f s = becomes_plain _ (λ n. origins_node n (change_first (is_origin v) f n.origins) (λ w kind. origins_same v w n.moment f s n.origins kind))

  pub if_plain : (b : Bool) (r s : Rule whole (outward u m)) → Plain u m r → Plain u m s → Plain u m (cond b r s)
  if_plain true r s x y = x
  if_plain false r s x y = y

  pub where_plain : (b : Bool) (r : Rule whole (outward u m)) → Plain u m r → Plain u m (where_true b r)
  where_plain true r x = x
  where_plain false r x = stays_plain

  pub each_plain : {X : Type 0} (xs : List X) (r : X → Rule whole (outward u m)) → ((x : X) → Plain u m (r x)) → Plain u m (each xs r)
  each_plain [] r a = stays_plain
  each_plain (x ∷ xs) r a = a x ▹ each_plain xs r a

  pub times_plain : (k : ℕ) (r : Rule whole (outward u m)) → Plain u m r → Plain u m (times k r)
  times_plain zero r a = stays_plain
  times_plain (suc k) r a = a ▹ times_plain k r a
