-- The bytes of inbound connections, once one of them changes, comes or goes.
use Rattle.std.proofs.Common.{◌≡◌, ℕ, Bool, true, false, cond, List, [], ◌∷◌, refl, sym, ◌∙◌, ap, subst}
use Rattle.std.specs.Prelude.{None, Some, ◌==◌, not, nat_lt, find, filter}
use Rattle.artery_machine.specs.declared.input.Input.{Input}
use Rattle.artery_machine.specs.declared.input.Input.TheVariants as inputs
use Rattle.artery_machine.specs.Lists.{change_first}
use Rattle.artery_machine.specs.Parts.{whole}
use Rattle.artery_machine.specs.Node.{Node, Inbound, is_number, accepted_as, put_inbound}
use Rattle.artery_machine.specs.Reacting.{with_bytes}
use Rattle.artery_flight.proofs.Lists.{on_cond, eq_true, eq_not, some_same, not_some, Each}
use Rattle.artery_flight.proofs.Facts.{Network, Later}
use Rattle.artery_flight.proofs.Deeds.{only}
use Rattle.artery_flight.proofs.Rules.{Good, bytes_in, bytes_at}

-- ---- where bytes come from

abbrev pub FromPiece : Bool → ℕ → List ℕ → ℕ → List ℕ → Node whole → Type 0
FromPiece true k piece j bs o = (j ≡ k) × (old : List ℕ) × (bytes_at k o ≡ Some old) × (bs ≡ whole.came piece old)
FromPiece false k piece j bs o = (j ≡ k → ⊥) × (bytes_at j o ≡ Some bs)

abbrev pub FromNothing : Bool → ℕ → ℕ → List ℕ → Node whole → Type 0
FromNothing true k j bs o = (j ≡ k) × (bs ≡ [])
FromNothing false k j bs o = bytes_at j o ≡ Some bs

-- The bytes of an inbound connection, after something came to a node, are those before it; those with a piece, where it came there; or none, where the connection came.
abbrev pub BytesFrom : Input → ℕ → List ℕ → Node whole → Type 0
BytesFrom (inputs.Request request) j bs o = bytes_at j o ≡ Some bs
BytesFrom (inputs.Accepted k) j bs o = (new : Bool) × FromNothing new k j bs o
BytesFrom (inputs.Dialed dial) j bs o = bytes_at j o ≡ Some bs
BytesFrom (inputs.DialFailed dial) j bs o = bytes_at j o ≡ Some bs
BytesFrom (inputs.Bytes k piece) j bs o = (here : Bool) × FromPiece here k piece j bs o
BytesFrom (inputs.Ended side) j bs o = bytes_at j o ≡ Some bs
BytesFrom (inputs.Tick now) j bs o = bytes_at j o ≡ Some bs

-- what a node made of itself and the outside, where something came to it
pub record Reacted (u : ℕ) (input : Input) (o : Node whole) (w : Network) (n : Node whole) (v : Network) : Type 0 where
  pub good : Good u n v
  pub later : Later (only u) w v
  pub bytes : (j : ℕ) (bs : List ℕ) → bytes_at j n ≡ Some bs → BytesFrom input j bs o

-- ---- one changes

pub other_bytes : (j k : ℕ) (new : List ℕ) → (j == k) ≡ false → (is : List (Inbound whole)) → bytes_in (find (is_number j) (change_first (is_number k) (with_bytes new) is)) ≡ bytes_in (find (is_number j) is)
other_bytes j k new n [] = refl
other_bytes j k new n (i ∷ is) = by (is_number k i) (is_number j i) refl refl (other_bytes j k new n is)
  where
    by : (a b : Bool) → is_number k i ≡ a → is_number j i ≡ b → bytes_in (find (is_number j) (change_first (is_number k) (with_bytes new) is)) ≡ bytes_in (find (is_number j) is)
        → bytes_in (find (is_number j) (cond a (with_bytes new i ∷ is) (i ∷ change_first (is_number k) (with_bytes new) is))) ≡ bytes_in (cond b (Some i) (find (is_number j) is))
    by true true p q r = eq_not j k n (sym (eq_true i.number j q) ∙ eq_true i.number k p)
    by true false p q r = ap (λ (c : Bool). bytes_in (cond c (Some (with_bytes new i)) (find (is_number j) is))) q
    by false true p q r = ap (λ (c : Bool). bytes_in (cond c (Some i) (find (is_number j) (change_first (is_number k) (with_bytes new) is)))) q
    by false false p q r = ap (λ (c : Bool). bytes_in (cond c (Some i) (find (is_number j) (change_first (is_number k) (with_bytes new) is)))) q ∙ r

pub set_bytes : (k : ℕ) (new bs : List ℕ) (is : List (Inbound whole)) → bytes_in (find (is_number k) (change_first (is_number k) (with_bytes new) is)) ≡ Some bs → bs ≡ new
set_bytes k new bs [] h = not_some h
set_bytes k new bs (i ∷ is) h = by (is_number k i) refl h (λ g. set_bytes k new bs is g)
  where
    by : (a : Bool) → is_number k i ≡ a → bytes_in (find (is_number k) (cond a (with_bytes new i ∷ is) (i ∷ change_first (is_number k) (with_bytes new) is))) ≡ Some bs
        → (bytes_in (find (is_number k) (change_first (is_number k) (with_bytes new) is)) ≡ Some bs → bs ≡ new) → bs ≡ new
    by true p g rest = sym (some_same (sym (ap (λ (c : Bool). bytes_in (cond c (Some (with_bytes new i)) (find (is_number k) is))) p) ∙ g))
    by false p g rest = rest (sym (ap (λ (c : Bool). bytes_in (cond c (Some i) (find (is_number k) (change_first (is_number k) (with_bytes new) is)))) p) ∙ g)

-- ---- one goes

none_left : (k : ℕ) (is : List (Inbound whole)) (bs : List ℕ) {P : Type 0} → bytes_in (find (is_number k) (filter (λ i. not (is_number k i)) is)) ≡ Some bs → P
none_left k [] bs h = not_some h
none_left k (i ∷ is) bs {P} h = by (is_number k i) refl h (λ g. none_left k is bs g)
  where
    by : (a : Bool) → is_number k i ≡ a → bytes_in (find (is_number k) (cond (not a) (i ∷ filter (λ i. not (is_number k i)) is) (filter (λ i. not (is_number k i)) is))) ≡ Some bs
        → (bytes_in (find (is_number k) (filter (λ i. not (is_number k i)) is)) ≡ Some bs → P) → P
    by true p g rest = rest g
    by false p g rest = rest (sym (ap (λ (c : Bool). bytes_in (cond c (Some i) (find (is_number k) (filter (λ i. not (is_number k i)) is)))) p) ∙ g)

pub left_bytes : (j k : ℕ) (bs : List ℕ) (is : List (Inbound whole)) → bytes_in (find (is_number j) (filter (λ i. not (is_number k i)) is)) ≡ Some bs → bytes_in (find (is_number j) is) ≡ Some bs
left_bytes j k bs [] h = h
left_bytes j k bs (i ∷ is) h = by (is_number k i) (is_number j i) refl refl h (λ g. left_bytes j k bs is g)
  where
    by : (a b : Bool) → is_number k i ≡ a → is_number j i ≡ b → bytes_in (find (is_number j) (cond (not a) (i ∷ filter (λ i. not (is_number k i)) is) (filter (λ i. not (is_number k i)) is))) ≡ Some bs
        → (bytes_in (find (is_number j) (filter (λ i. not (is_number k i)) is)) ≡ Some bs → bytes_in (find (is_number j) is) ≡ Some bs) → bytes_in (cond b (Some i) (find (is_number j) is)) ≡ Some bs
    by true true p q g rest =
        let same : j ≡ k = sym (eq_true i.number j q) ∙ eq_true i.number k p in
        none_left k is bs (subst (λ (x : ℕ). bytes_in (find (is_number x) (filter (λ i. not (is_number k i)) is)) ≡ Some bs) same g)
    by true false p q g rest = rest g
    by false true p q g rest = sym (ap (λ (c : Bool). bytes_in (cond c (Some i) (find (is_number j) (filter (λ i. not (is_number k i)) is)))) q) ∙ g
    by false false p q g rest = rest (sym (ap (λ (c : Bool). bytes_in (cond c (Some i) (find (is_number j) (filter (λ i. not (is_number k i)) is)))) q) ∙ g)

-- ---- one comes

pub put_facts : (P : Inbound whole → Type 0) (x : Inbound whole) (is : List (Inbound whole)) → P x → Each P is → Each P (put_inbound x is)
put_facts P x [] h k = (h, tt)
put_facts P x (i ∷ is) h k =
    on_cond (Each P) (i.number == x.number) (x ∷ is) _ (λ t. (h, k.1))
    (λ t. on_cond (Each P) (nat_lt x.number i.number) (x ∷ i ∷ is) (i ∷ put_inbound x is) (λ s. (h, k)) (λ s. (k.0, put_facts P x is h k.1)))

pub put_bytes : (j k : ℕ) (bs : List ℕ) (is : List (Inbound whole)) → bytes_in (find (is_number j) (put_inbound (accepted_as k) is)) ≡ Some bs
    → (new : Bool) × (cond new ((j ≡ k) × (bs ≡ [])) (bytes_in (find (is_number j) is) ≡ Some bs))
put_bytes j k bs [] h = by (k == j) refl h
  where
    by : (a : Bool) → (k == j) ≡ a → bytes_in (cond a (Some (accepted_as {P = whole} k)) None) ≡ Some bs → (new : Bool) × (cond new ((j ≡ k) × (bs ≡ [])) (bytes_in None ≡ Some bs))
    by true p g = (true, (sym (eq_true k j p), sym (some_same g)))
    by false p g = not_some g
put_bytes j k bs (i ∷ is) h = by (i.number == k) (nat_lt k i.number) refl h (λ g. put_bytes j k bs is g)
  where
    Goal : Type 0
    Goal = (new : Bool) × (cond new ((j ≡ k) × (bs ≡ [])) (bytes_in (find (is_number j) (i ∷ is)) ≡ Some bs))

    -- the new one is the first
    first : (rest : List (Inbound whole)) → bytes_in (cond (k == j) (Some (accepted_as {P = whole} k)) (find (is_number j) rest)) ≡ Some bs → ((k == j) ≡ false → bytes_in (find (is_number j) rest) ≡ Some bs → Goal) → Goal
    first rest g else_so = at_test (k == j) refl g
      where
        at_test : (a : Bool) → (k == j) ≡ a → bytes_in (cond a (Some (accepted_as {P = whole} k)) (find (is_number j) rest)) ≡ Some bs → Goal
        at_test true p f = (true, (sym (eq_true k j p), sym (some_same f)))
        at_test false p f = else_so p f

    Rest : Type 0
    Rest = bytes_in (find (is_number j) (put_inbound (accepted_as k) is)) ≡ Some bs → (new : Bool) × (cond new ((j ≡ k) × (bs ≡ [])) (bytes_in (find (is_number j) is) ≡ Some bs))

    behind : (b : Bool) → is_number j i ≡ b → bytes_in (cond b (Some i) (find (is_number j) (put_inbound (accepted_as k) is))) ≡ Some bs → Rest → Goal
    behind true q g rest = (false, ap (λ (c : Bool). bytes_in (cond c (Some i) (find (is_number j) is))) q ∙ g)
    behind false q g rest = again (rest g)
      where
        again : (new : Bool) × (cond new ((j ≡ k) × (bs ≡ [])) (bytes_in (find (is_number j) is) ≡ Some bs)) → Goal
        again (true, f) = (true, f)
        again (false, f) = (false, ap (λ (c : Bool). bytes_in (cond c (Some i) (find (is_number j) is))) q ∙ f)

    by : (a b : Bool) → (i.number == k) ≡ a → bytes_in (find (is_number j) (cond a (accepted_as k ∷ is) (cond b (accepted_as k ∷ i ∷ is) (i ∷ put_inbound (accepted_as k) is)))) ≡ Some bs → Rest → Goal
    by true b p g rest = first is g (λ n f. (false, ap (λ (c : Bool). bytes_in (cond c (Some i) (find (is_number j) is))) (ap (λ (x : ℕ). x == j) (eq_true i.number k p) ∙ n) ∙ f))
    by false true p g rest = first (i ∷ is) g (λ n f. (false, f))
    by false false p g rest = behind (is_number j i) refl g rest
