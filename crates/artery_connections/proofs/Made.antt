-- What is kept beside the connections, where one more is made.
use Rattle.std.proofs.Common.{◌≡◌, ◌≢◌, ℕ, zero, suc, ◌+◌, ◌<◌, ◌≤◌, Bool, true, false, cond, not, List, [], ◌∷◌, ◌++◌, length, slice_get, position, Some, None, refl, sym, ◌∙◌, ap, arith, length-append}
use Rattle.std.specs.Prelude.{Option, if◌then◌else◌, nat_lt}
use Rattle.std.specs.BTreeMap.{is_at}
use Rattle.std.specs.List.{position_or_len}
use Rattle.std.specs.Map.{lookup}
use Rattle.std.specs.Option.{option_or}
use Rattle.std.specs.Ordering.{nat_cmp}
use Rattle.std.proofs.lemmas.Bool.Decides.{nat_tests}
use Rattle.std.proofs.lemmas.Option.{slice_get_past}
use Rattle.artery_machine.specs.Ways.{kept_ways}
use Rattle.artery_machine.specs.Connections.{Connection, connected, is_dialed, is_inward, is_loaded, far_open, load, loads}
use Rattle.artery_connections.specs.declared.end.End.{End}
use Rattle.artery_connections.specs.Ends.{same_end, end_of}
use Rattle.artery_connections.specs.Kept.{has, passes, HasPlaces, IsIndexed}
use Rattle.artery_connections.proofs.Changed.{HasNow, same_place, other_place}

-- ---- places

last : {X : Type 0} (xs : List X) (x : X) (k : ℕ) → k ≡ length xs → slice_get (xs ++ x ∷ []) k ≡ Some x
last [] x zero is = refl
last [] x (suc k) is = absurd (omega arith)
last (y ∷ ys) x zero is = absurd (omega arith)
last (y ∷ ys) x (suc k) is = last ys x k (omega arith)

before : {X : Type 0} (xs : List X) (x : X) (k : ℕ) → k ≢ length xs → slice_get (xs ++ x ∷ []) k ≡ slice_get xs k
before [] x zero other = absurd (omega arith)
before [] x (suc k) other = refl
before (y ∷ ys) x zero other = refl
before (y ∷ ys) x (suc k) other = before ys x k (omega arith)

made_passes : {X : Type 0} (test : X → Bool) (xs : List X) (old new : List ℕ) (x : X) → HasPlaces test xs old → test x ≡ true → HasNow (length xs) true old new → HasPlaces test (xs ++ x ∷ []) new
made_passes test xs old new x h is now = record { each = λ k. now k ∙ by k (is_at (nat_cmp (length xs)) k) refl }
  where
    by : (k : ℕ) (b : Bool) → is_at (nat_cmp (length xs)) k ≡ b → cond b true (has old k) ≡ passes test (slice_get (xs ++ x ∷ []) k)
    by k true e = sym (ap (passes test) (last xs x k (same_place (length xs) k e)) ∙ is)
    by k false e = h.each k ∙ sym (ap (passes test) (before xs x k (other_place (length xs) k e)))

made_fails : {X : Type 0} (test : X → Bool) (xs : List X) (old : List ℕ) (x : X) → HasPlaces test xs old → test x ≡ false → HasPlaces test (xs ++ x ∷ []) old
made_fails test xs old x h is = record { each = λ k. h.each k ∙ by k (is_at (nat_cmp (length xs)) k) refl }
  where
    by : (k : ℕ) (b : Bool) → is_at (nat_cmp (length xs)) k ≡ b → passes test (slice_get xs k) ≡ passes test (slice_get (xs ++ x ∷ []) k)
    by k true e = let at = same_place (length xs) k e in ap (passes test) (slice_get_past xs k (omega arith)) ∙ sym (ap (passes test) (last xs x k at) ∙ is)
    by k false e = sym (ap (passes test) (before xs x k (other_place (length xs) k e)))

-- ---- the first place

module _ {X : Type 0} (p : X → Bool) where
  known : (xs ys : List X) → position_or_len p xs < length xs → position_or_len p (xs ++ ys) ≡ position_or_len p xs
  known [] ys h = absurd (omega arith)
  known (x ∷ xs) ys h = by (p x) (λ l. known xs ys l) h
    where
      by : (b : Bool) → (position_or_len p xs < length xs → position_or_len p (xs ++ ys) ≡ position_or_len p xs) → cond (not b) (1 + position_or_len p xs) 0 < suc (length xs) → cond (not b) (1 + position_or_len p (xs ++ ys)) 0 ≡ cond (not b) (1 + position_or_len p xs) 0
      by true rest l = refl
      by false rest l = ap (λ (n : ℕ). 1 + n) (rest (omega arith))

  unknown : (xs : List X) (x : X) → length xs ≤ position_or_len p xs → position_or_len p (xs ++ x ∷ []) ≡ length xs + cond (not (p x)) 1 0
  unknown [] x h = omega arith
  unknown (y ∷ ys) x h = by (p y) (unknown ys x) h
    where
      by : (b : Bool) → (length ys ≤ position_or_len p ys → position_or_len p (ys ++ x ∷ []) ≡ length ys + cond (not (p x)) 1 0) → suc (length ys) ≤ cond (not b) (1 + position_or_len p ys) 0 → cond (not b) (1 + position_or_len p (ys ++ x ∷ [])) 0 ≡ suc (length ys) + cond (not (p x)) 1 0
      by true rest l = absurd (omega arith)
      by false rest l = let e = rest (omega arith) in omega arith

  at_first : (n m : ℕ) → n < m → cond (nat_lt n m) (Some n) None ≡ Some n
  at_first n m h = grind (arith, nat_tests)

  not_first : (n m : ℕ) → m ≤ n → cond (nat_lt n m) (Some n) None ≡ None
  not_first n m h = grind (arith, nat_tests)

  position_made : (xs : List X) (x : X) → position p (xs ++ x ∷ []) ≡ option_or (position p xs) (if p x then Some (length xs) else None)
  position_made xs x = by (nat_lt (position_or_len p xs) (length xs)) refl
    where
      size : length (xs ++ x ∷ []) ≡ length xs + 1
      size = length-append xs (x ∷ [])

      or_last : (b : Bool) → p x ≡ b → length xs ≤ position_or_len p xs → position p (xs ++ x ∷ []) ≡ (if b then Some (length xs) else None)
      or_last true e l =
          let here : position_or_len p (xs ++ x ∷ []) ≡ length xs + 0 = unknown xs x l ∙ ap (λ (c : Bool). length xs + cond (not c) 1 0) e in
          let whole : length (xs ++ x ∷ []) ≡ length xs + 1 = size in
          at_first (position_or_len p (xs ++ x ∷ [])) (length (xs ++ x ∷ [])) (omega arith) ∙ ap Some (omega arith)
      or_last false e l =
          let here : position_or_len p (xs ++ x ∷ []) ≡ length xs + 1 = unknown xs x l ∙ ap (λ (c : Bool). length xs + cond (not c) 1 0) e in
          let whole : length (xs ++ x ∷ []) ≡ length xs + 1 = size in
          not_first (position_or_len p (xs ++ x ∷ [])) (length (xs ++ x ∷ [])) (omega arith)

      by : (b : Bool) → nat_lt (position_or_len p xs) (length xs) ≡ b → position p (xs ++ x ∷ []) ≡ option_or (cond b (Some (position_or_len p xs)) None) (if p x then Some (length xs) else None)
      by true e =
          let l : position_or_len p xs < length xs = grind (arith, nat_tests) in
          let same = known xs (x ∷ []) l in
          let whole : length (xs ++ x ∷ []) ≡ length xs + 1 = size in
          at_first (position_or_len p (xs ++ x ∷ [])) (length (xs ++ x ∷ [])) (omega arith) ∙ ap Some same
      by false e = or_last (p x) refl (grind (arith, nat_tests))

-- ---- all that is kept

made_loads : (cs : List (Connection kept_ways)) (c : Connection kept_ways) → loads (cs ++ c ∷ []) ≡ loads cs + load c
made_loads [] c = omega arith
made_loads (d ∷ ds) c = let e = made_loads ds c in omega arith

-- one connection more is made
pub made : (cs : List (Connection kept_ways)) (dialed inward dialed' inward' : List (End × ℕ)) (l n f n' f' : List ℕ) (u dialer dial far number : ℕ)
    → IsIndexed cs dialed inward l n f u
    → ((k : End) → lookup (same_end k) dialed' ≡ option_or (lookup (same_end k) dialed) (if same_end (end_of dialer dial) k then Some (length cs) else None))
    → ((k : End) → lookup (same_end k) inward' ≡ option_or (lookup (same_end k) inward) (if same_end (end_of far number) k then Some (length cs) else None))
    → HasNow (length cs) true n n' → HasNow (length cs) true f f'
    → IsIndexed (cs ++ connected dialer dial far number ∷ []) dialed' inward' l n' f' u
made cs dialed inward dialed' inward' l n f n' f' u dialer dial far number old by_dial by_number near fars =
    let c = connected {W = kept_ways} dialer dial far number in
    record {
      by_dial = λ k. by_dial k ∙ ap (λ (o : Option ℕ). option_or o (if same_end (end_of dialer dial) k then Some (length cs) else None)) (old.by_dial k) ∙ sym (position_made (is_dialed k.uid k.number) cs c);
      by_number = λ k. by_number k ∙ ap (λ (o : Option ℕ). option_or o (if same_end (end_of far number) k then Some (length cs) else None)) (old.by_number k) ∙ sym (position_made (is_inward k.uid k.number) cs c);
      loaded_ones = made_fails is_loaded cs l c old.loaded_ones refl;
      near_ones = made_passes (λ c. c.near_open) cs n n' c old.near_ones refl near;
      far_ones = made_passes far_open cs f f' c old.far_ones refl fars;
      sum = old.sum ∙ sym (made_loads cs c ∙ omega arith);
    }

-- the same, where rooms were made for it first
pub made_in_room : (cs cs' : List (Connection kept_ways)) (dialed inward room room' dialed' inward' : List (End × ℕ)) (l n f n' f' : List ℕ) (u dialer dial far number place : ℕ)
    → IsIndexed cs dialed inward l n f u → place ≡ length cs → cs' ≡ cs ++ connected dialer dial far number ∷ [] → room ≡ dialed → room' ≡ inward
    → ((k : End) → lookup (same_end k) dialed' ≡ option_or (lookup (same_end k) room) (if same_end (end_of dialer dial) k then Some place else None))
    → ((k : End) → lookup (same_end k) inward' ≡ option_or (lookup (same_end k) room') (if same_end (end_of far number) k then Some place else None))
    → HasNow place true n n' → HasNow place true f f'
    → IsIndexed cs' dialed' inward' l n' f' u
made_in_room cs cs' dialed inward room room' dialed' inward' l n f n' f' u dialer dial far number place old at all same same' by_dial by_number near fars =
    rw all (made cs dialed inward dialed' inward' l n f n' f' u dialer dial far number old
    (λ k. by_dial k ∙ ap (λ (es : List (End × ℕ)). option_or (lookup (same_end k) es) (if same_end (end_of dialer dial) k then Some place else None)) same ∙ ap (λ (j : ℕ). option_or (lookup (same_end k) dialed) (if same_end (end_of dialer dial) k then Some j else None)) at)
    (λ k. by_number k ∙ ap (λ (es : List (End × ℕ)). option_or (lookup (same_end k) es) (if same_end (end_of far number) k then Some place else None)) same' ∙ ap (λ (j : ℕ). option_or (lookup (same_end k) inward) (if same_end (end_of far number) k then Some j else None)) at)
    (λ k. near k ∙ ap (λ (j : ℕ). cond (is_at (nat_cmp j) k) true (has n k)) at)
    (λ k. fars k ∙ ap (λ (j : ℕ). cond (is_at (nat_cmp j) k) true (has f k)) at))
