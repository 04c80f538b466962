-- What is kept beside the connections, where one is changed at its place or one is made.
use Rattle.std.proofs.Common.{◌≡◌, ◌≢◌, ℕ, zero, suc, ◌+◌, ◌-◌, ◌<◌, ◌≤◌, Bool, true, false, cond, not, ◌&&◌, List, [], ◌∷◌, ◌++◌, length, get_or, set, take, slice_get, position, Some, refl, sym, ◌∙◌, ap, arith, length-set, length-append, length-take, length-drop}
use Rattle.std.specs.Prelude.{if◌then◌else◌, nat_lt}
use Rattle.std.specs.BTreeMap.{is_at}
use Rattle.std.specs.List.{position_or_len}
use Rattle.std.specs.Ordering.{nat_cmp}
use Rattle.std.proofs.lemmas.Bool.Decides.{nat_tests}
use Rattle.std.proofs.lemmas.Option.{slice_get_read}
use Rattle.artery_machine.specs.Lists.{change_at, put_at}
use Rattle.artery_machine.specs.Ways.{kept_ways}
use Rattle.artery_machine.specs.Connections.{Connection, is_dialed, is_inward, is_loaded, far_open, load, loads, near_ended, far_ended, with_delivered, undelivered_on}
use Rattle.artery_connections.specs.declared.end.End.{End}
use Rattle.artery_connections.specs.Change.{with_bytes, gained, taken}
use Rattle.artery_connections.specs.Kept.{has, passes, HasPlaces, IsIndexed}

-- ---- a list with one element written

-- writing the changed element at its place changes what stands there
pub set_is_change : {X : Type 0} (f : X → X) (xs : List X) (i : ℕ) (x y : X) → i < length xs → x ≡ get_or xs i x → y ≡ f x → set xs i y ≡ change_at i f xs
set_is_change f xs i x y within here is =
    ap (set xs i) is ∙ sym (ap (put_at i f xs) (slice_get_read xs (length xs) i x refl within here))

pub there : {X : Type 0} (xs : List X) (i k : ℕ) (y : X) → i < length xs → k ≡ i → slice_get (set xs i y) k ≡ Some y
there [] i k y within is = absurd (omega arith)
there (x ∷ xs) zero zero y within is = refl
there (x ∷ xs) zero (suc k) y within is = absurd (omega arith)
there (x ∷ xs) (suc i) zero y within is = absurd (omega arith)
there (x ∷ xs) (suc i) (suc k) y within is = there xs i k y (omega arith) (omega arith)

elsewhere : {X : Type 0} (xs : List X) (i k : ℕ) (y : X) → k ≢ i → slice_get (set xs i y) k ≡ slice_get xs k
elsewhere [] i k y other = refl
elsewhere (x ∷ xs) zero zero y other = absurd (omega arith)
elsewhere (x ∷ xs) zero (suc k) y other = refl
elsewhere (x ∷ xs) (suc i) zero y other = refl
elsewhere (x ∷ xs) (suc i) (suc k) y other = elsewhere xs i k y (omega arith)

pub same_place : (i k : ℕ) → is_at (nat_cmp i) k ≡ true → k ≡ i
same_place i k e = grind (arith, nat_tests)

pub other_place : (i k : ℕ) → is_at (nat_cmp i) k ≡ false → k ≢ i
other_place i k e = grind (arith, nat_tests)

-- ---- sets of places

-- A set has a place exactly if a test says so, and each other place as before.
abbrev pub HasNow : ℕ → Bool → List ℕ → List ℕ → Type 0
HasNow i b old new = (k : ℕ) → has new k ≡ cond (is_at (nat_cmp i) k) b (has old k)

-- what stood at a place passes as before
pub stays : {X : Type 0} (test : X → Bool) (xs : List X) (places : List ℕ) (i : ℕ) (x y : X) → HasPlaces test xs places → i < length xs → x ≡ get_or xs i x → test y ≡ test x → HasNow i (test y) places places
stays test xs places i x y h within here same k = by (is_at (nat_cmp i) k) refl
  where
    by : (b : Bool) → is_at (nat_cmp i) k ≡ b → has places k ≡ cond b (test y) (has places k)
    by true e = h.each k ∙ ap (λ (j : ℕ). passes test (slice_get xs j)) (same_place i k e) ∙ ap (passes test) (slice_get_read xs (length xs) i x refl within here) ∙ sym same
    by false e = refl

set_places : {X : Type 0} (test : X → Bool) (xs : List X) (old new : List ℕ) (i : ℕ) (y : X) → HasPlaces test xs old → i < length xs → HasNow i (test y) old new → HasPlaces test (set xs i y) new
set_places test xs old new i y h within now = record { each = λ k. now k ∙ by k (is_at (nat_cmp i) k) refl }
  where
    by : (k : ℕ) (b : Bool) → is_at (nat_cmp i) k ≡ b → cond b (test y) (has old k) ≡ passes test (slice_get (set xs i y) k)
    by k true e = sym (ap (passes test) (there xs i k y within (same_place i k e)))
    by k false e = h.each k ∙ sym (ap (passes test) (elsewhere xs i k y (other_place i k e)))

-- ---- the first place

first_set : {X : Type 0} (p : X → Bool) (xs : List X) (i : ℕ) (x y : X) → i < length xs → x ≡ get_or xs i x → p y ≡ p x → position_or_len p (set xs i y) ≡ position_or_len p xs
first_set p [] i x y within here same = absurd (omega arith)
first_set p (z ∷ zs) zero x y within here same = ap (λ (b : Bool). cond (not b) (1 + position_or_len p zs) 0) (same ∙ ap p here)
first_set p (z ∷ zs) (suc i) x y within here same = ap (λ (n : ℕ). cond (not (p z)) (1 + n) 0) (first_set p zs i x y (omega arith) here same)

position_set : {X : Type 0} (p : X → Bool) (xs : List X) (i : ℕ) (x y : X) → i < length xs → x ≡ get_or xs i x → p y ≡ p x → position p xs ≡ position p (set xs i y)
position_set p xs i x y within here same =
    rw (first_set p xs i x y within here same, length-set xs i y) refl

-- ---- the sum

pub load_set : (cs : List (Connection kept_ways)) (i : ℕ) (x y : Connection kept_ways) → i < length cs → x ≡ get_or cs i x → loads (set cs i y) + load x ≡ loads cs + load y
load_set [] i x y within here = absurd (omega arith)
load_set (c ∷ cs) zero x y within here = let e : load x ≡ load c = ap load here in omega arith
load_set (c ∷ cs) (suc i) x y within here = let e = load_set cs i x y (omega arith) here in omega arith

pub load_within : (cs : List (Connection kept_ways)) (i : ℕ) (x : Connection kept_ways) → i < length cs → x ≡ get_or cs i x → load x ≤ loads cs
load_within [] i x within here = absurd (omega arith)
load_within (c ∷ cs) zero x within here = let e : load x ≡ load c = ap load here in omega arith
load_within (c ∷ cs) (suc i) x within here = let e = load_within cs i x (omega arith) here in omega arith

-- ---- all that is kept

-- Two connections have the same ends.
pub record HasEndsOf (x y : Connection kept_ways) : Type 0 where
  pub dialer : y.dialer ≡ x.dialer
  pub dial : y.dial ≡ x.dial
  pub far : y.far ≡ x.far
  pub number : y.number ≡ x.number

-- one connection is changed
pub changed : (made : List (Connection kept_ways)) (dialed inward : List (End × ℕ)) (l n f l' n' f' : List ℕ) (u u' i : ℕ) (x y : Connection kept_ways)
    → IsIndexed made dialed inward l n f u → i < length made → x ≡ get_or made i x → HasEndsOf x y
    → HasNow i (is_loaded y) l l' → HasNow i y.near_open n n' → HasNow i (far_open y) f f' → u' + load x ≡ u + load y
    → IsIndexed (set made i y) dialed inward l' n' f' u'
changed made dialed inward l n f l' n' f' u u' i x y old within here ends loaded near far sums = record {
  by_dial = λ k. old.by_dial k ∙ position_set (is_dialed k.uid k.number) made i x y within here (rw (ends.dialer, ends.dial) refl);
  by_number = λ k. old.by_number k ∙ position_set (is_inward k.uid k.number) made i x y within here (rw (ends.far, ends.number) refl);
  loaded_ones = set_places is_loaded made l l' i y old.loaded_ones within loaded;
  near_ones = set_places (λ c. c.near_open) made n n' i y old.near_ones within near;
  far_ones = set_places far_open made f f' i y old.far_ones within far;
  sum = let e = load_set made i x y within here in let s = old.sum in omega arith;
}

-- its near side ends
pub near_ends : (made : List (Connection kept_ways)) (dialed inward : List (End × ℕ)) (l n f n' : List ℕ) (u i : ℕ) (x y : Connection kept_ways)
    → IsIndexed made dialed inward l n f u → i < length made → x ≡ get_or made i x → y ≡ near_ended x
    → HasNow i false n n' → IsIndexed (set made i y) dialed inward l n' f u
near_ends made dialed inward l n f n' u i x y old within here is near =
    rw is (changed made dialed inward l n f l n' f u u i x (near_ended x) old within here (record { dialer = refl; dial = refl; far = refl; number = refl })
    (stays is_loaded made l i x (near_ended x) old.loaded_ones within here refl) near (stays far_open made f i x (near_ended x) old.far_ones within here refl) refl)

-- its far side ends
pub far_ends : (made : List (Connection kept_ways)) (dialed inward : List (End × ℕ)) (l n f l' f' : List ℕ) (u i : ℕ) (x y : Connection kept_ways)
    → IsIndexed made dialed inward l n f u → i < length made → x ≡ get_or made i x → y ≡ far_ended x
    → HasNow i false f f' → HasNow i false l l' → IsIndexed (set made i y) dialed inward l' n f' (u - load x)
far_ends made dialed inward l n f l' f' u i x y old within here is far loaded =
    let fits = load_within made i x within here in
    let sum = old.sum in
    rw is (changed made dialed inward l n f l' n f' u (u - load x) i x (far_ended x) old within here (record { dialer = refl; dial = refl; far = refl; number = refl })
    loaded (stays (λ c. c.near_open) made n i x (far_ended x) old.near_ones within here refl) far (omega arith))

-- bytes are taken from it
both_loaded : (a b : ℕ) → b ≤ a → (nat_lt 0 a && nat_lt 0 b) ≡ nat_lt 0 b
both_loaded a b h = grind (arith, nat_tests)

pub takes : (made : List (Connection kept_ways)) (dialed inward : List (End × ℕ)) (l n f l' : List ℕ) (u i count : ℕ) (x y : Connection kept_ways) (taken : ℕ)
    → IsIndexed made dialed inward l n f u → i < length made → x ≡ get_or made i x → y ≡ with_delivered count x
    → HasNow i (has l i && is_loaded y) l l' → taken ≡ length (take count (undelivered_on x)) → IsIndexed (set made i y) dialed inward l' n f (u - taken)
takes made dialed inward l n f l' u i count x y taken old within here is loaded size =
    let fits = load_within made i x within here in
    let sum = old.sum in
    let first = length-take count (undelivered_on x) in
    let rest = length-drop count (undelivered_on x) in
    let was = old.loaded_ones.each i ∙ ap (passes is_loaded) (slice_get_read made (length made) i x refl within here) in
    let still = ap (λ (b : Bool). b && is_loaded (with_delivered count x)) was ∙ both_loaded (load x) (load (with_delivered count x)) (omega arith) in
    rw is (changed made dialed inward l n f l' n f u (u - taken) i x (with_delivered count x) old within here (record { dialer = refl; dial = refl; far = refl; number = refl })
    (λ k. loaded k ∙ ap (λ (b : Bool). cond (is_at (nat_cmp i) k) b (has l k)) (ap (λ (c : Connection kept_ways). has l i && is_loaded c) is ∙ still))
    (stays (λ c. c.near_open) made n i x (with_delivered count x) old.near_ones within here refl) (stays far_open made f i x (with_delivered count x) old.far_ones within here refl) (omega arith))

-- bytes are written on it
gains : (more : List ℕ) (x : Connection kept_ways) → load (with_bytes more x) ≡ load x + gained more x
gains more x = by (far_open x)
  where
    by : (b : Bool) → length (if b then undelivered_on x ++ more else undelivered_on x) ≡ load x + (if b then length more else 0)
    by true = length-append (undelivered_on x) more
    by false = omega arith

pub is_written : (made : List (Connection kept_ways)) (dialed inward : List (End × ℕ)) (l n f l' : List ℕ) (u u' i : ℕ) (more : List ℕ) (x y : Connection kept_ways)
    → IsIndexed made dialed inward l n f u → i < length made → x ≡ get_or made i x → y ≡ with_bytes more x
    → HasNow i (is_loaded y) l l' → u' ≡ u + gained more x → IsIndexed (set made i y) dialed inward l' n f u'
is_written made dialed inward l n f l' u u' i more x y old within here is loaded size =
    let sum = gains more x in
    rw is (changed made dialed inward l n f l' n f u u' i x (with_bytes more x) old within here (record { dialer = refl; dial = refl; far = refl; number = refl })
    (λ k. loaded k ∙ ap (λ (c : Connection kept_ways). cond (is_at (nat_cmp i) k) (is_loaded c) (has l k)) is)
    (stays (λ c. c.near_open) made n i x (with_bytes more x) old.near_ones within here refl) (stays far_open made f i x (with_bytes more x) old.far_ones within here refl) (omega arith))

-- or none are
pub is_same : (made : List (Connection kept_ways)) (dialed inward : List (End × ℕ)) (l n f l' : List ℕ) (u i : ℕ) (x y : Connection kept_ways)
    → IsIndexed made dialed inward l n f u → i < length made → x ≡ get_or made i x → y ≡ x
    → HasNow i (is_loaded y) l l' → IsIndexed (set made i y) dialed inward l' n f u
is_same made dialed inward l n f l' u i x y old within here is loaded =
    rw is (changed made dialed inward l n f l' n f u u i x x old within here (record { dialer = refl; dial = refl; far = refl; number = refl })
    (λ k. loaded k ∙ ap (λ (c : Connection kept_ways). cond (is_at (nat_cmp i) k) (is_loaded c) (has l k)) is)
    (stays (λ c. c.near_open) made n i x x old.near_ones within here refl) (stays far_open made f i x x old.far_ones within here refl) refl)

-- what is taken was on its way
pub part_within : (made : List (Connection kept_ways)) (i count : ℕ) (x : Connection kept_ways) → i < length made → x ≡ get_or made i x → length (take count (undelivered_on x)) ≤ loads made
part_within made i count x within here =
    let fits = load_within made i x within here in
    let first = length-take count (undelivered_on x) in
    omega arith

pub part_is : (made : List (Connection kept_ways)) (i count : ℕ) (x : Connection kept_ways) → i < length made → x ≡ get_or made i x → take count (undelivered_on x) ≡ taken count (slice_get made i)
part_is made i count x within here = sym (ap (taken count) (slice_get_read made (length made) i x refl within here))
