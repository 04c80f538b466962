-- What the map's own words say of the origins.
use Rattle.std.proofs.Common.{◌≡◌, ℕ, ◌+◌, Bool, true, false, List, [], ◌∷◌, ◌++◌, length, refl, ap, sym, true≢false}
use Rattle.std.specs.Prelude.{Option, Some, is_some, IsSome, if◌then◌else◌, nat_le}
use Rattle.std.specs.Map.{lookup, set_value}
use Rattle.indexmap.specs.IndexMap.{insert_entry}
use Rattle.artery_base.specs.contracts.address.UniqueAddressEq.TheImpl.Laws.{laws-law}
use Rattle.artery_base.specs.declared.address.UniqueAddress.{UniqueAddress}
use Rattle.artery_delivery.specs.declared.inbound.Opened.{Opened}
use Rattle.artery_delivery.specs.declared.inbound.Opened.TheVariants.{Opened as NewlyOpened, Known, OriginsFull}
use Rattle.artery_delivery.specs.Limits.{most_origins}
use Rattle.artery_delivery.specs.Inbound.{same_origin, expected_of, opening, entries_after, with_origin, next_of, is_expected, with_taken, IsKnown, IsKnownAfter}

inserted_last : (o : UniqueAddress) (es : List (UniqueAddress × ℕ)) → is_some (expected_of o es) ≡ false → insert_entry same_origin es o 1 ≡ es ++ (o, 1) ∷ []
inserted_last o [] h = refl
inserted_last o (e ∷ es) h = by (same_origin o e.0) h (inserted_last o es)
  where
    by : (b : Bool) → is_some (if b then Some e.1 else expected_of o es) ≡ false → (is_some (expected_of o es) ≡ false → insert_entry same_origin es o 1 ≡ es ++ (o, 1) ∷ []) → (if b then (e.0, 1) ∷ es else e ∷ insert_entry same_origin es o 1) ≡ e ∷ es ++ (o, 1) ∷ []
    by true here rest = absurd (true≢false here)
    by false there rest = ap (λ (r : List (UniqueAddress × ℕ)). e ∷ r) (rest there)

new_is_absent : (known full : Bool) → (if known then Known else if full then OriginsFull else NewlyOpened) ≡ NewlyOpened → known ≡ false
new_is_absent true full h = cc
new_is_absent false full h = refl

-- a new origin is inserted as the last
pub inserts : (o : UniqueAddress) (es : List (UniqueAddress × ℕ)) → opening o es ≡ NewlyOpened → insert_entry same_origin es o 1 ≡ with_origin o es
inserts o es h = rw h (inserted_last o es (new_is_absent (is_some (expected_of o es)) (nat_le most_origins (length es)) h))

first_or_rest : (b : Bool) (v w : ℕ) (r s : Option ℕ) → IsSome (if b then Some v else r) → (IsSome r → IsSome s) → IsSome (if b then Some w else s)
first_or_rest true v w r s h f = refl
first_or_rest false v w r s h f = f h

module _ (test : UniqueAddress → Bool) where
  known_before : (es fs : List (UniqueAddress × ℕ)) → IsSome (lookup test es) → IsSome (lookup test (es ++ fs))
  known_before [] fs h = absurd (true≢false (sym h))
  known_before (e ∷ es) fs h = first_or_rest (test e.0) e.1 e.1 (lookup test es) (lookup test (es ++ fs)) h (known_before es fs)

  known_last : (es : List (UniqueAddress × ℕ)) (o : UniqueAddress) (v : ℕ) → test o ≡ true → IsSome (lookup test (es ++ (o, v) ∷ []))
  known_last [] o v h = rw h
  known_last (e ∷ es) o v h = by (test e.0) (known_last es o v h)
    where
      by : (b : Bool) → IsSome (lookup test (es ++ (o, v) ∷ [])) → IsSome (if b then Some e.1 else lookup test (es ++ (o, v) ∷ []))
      by true rest = refl
      by false rest = rest

  pub known_set : (set : UniqueAddress → Bool) (es : List (UniqueAddress × ℕ)) (w : ℕ) → IsSome (lookup test es) → IsSome (lookup test (set_value set es w))
  known_set set [] w h = h
  known_set set (e ∷ es) w h = by (set e.0) (known_set set es w)
    where
      by : (c : Bool) → (IsSome (lookup test es) → IsSome (lookup test (set_value set es w))) → IsSome (lookup test (if c then (e.0, w) ∷ es else e ∷ set_value set es w))
      by true rest = first_or_rest (test e.0) e.1 w (lookup test es) (lookup test es) h (λ k. k)
      by false rest = first_or_rest (test e.0) e.1 e.1 (lookup test es) (lookup test (set_value set es w)) h rest

known_is_known : (known full : Bool) → (if known then Known else if full then OriginsFull else NewlyOpened) ≡ Known → known ≡ true
known_is_known true full h = refl
known_is_known false true h = cc
known_is_known false false h = cc

-- an origin that is known stays so
pub stays_known_open : (o q : UniqueAddress) (es : List (UniqueAddress × ℕ)) → IsKnown q es → IsKnown q (with_origin o es)
stays_known_open o q es h = by (opening o es)
  where
    by : (answer : Opened) → IsKnown q (entries_after answer o es)
    by NewlyOpened = known_before (same_origin q) es ((o, 1) ∷ []) h
    by Known = h
    by OriginsFull = h

pub stays_known_take : (o q : UniqueAddress) (n : ℕ) (es : List (UniqueAddress × ℕ)) → IsKnown q es → IsKnown q (with_taken o n es)
stays_known_take o q n es h = by (is_expected n (next_of o es))
  where
    by : (b : Bool) → IsKnown q (if b then set_value (same_origin o) es (n + 1) else es)
    by true = known_set (same_origin q) (same_origin o) es (n + 1) h
    by false = h

-- and one that was opened or known is known
pub known_after : (o : UniqueAddress) (es : List (UniqueAddress × ℕ)) → IsKnownAfter (opening o es) o (with_origin o es)
known_after o es = by (opening o es) (known_is_known (is_some (expected_of o es)) (nat_le most_origins (length es)))
  where
    by : (answer : Opened) → (answer ≡ Known → IsKnown o es) → IsKnownAfter answer o (entries_after answer o es)
    by NewlyOpened h = known_last (same_origin o) es o 1 (laws-law.refl o)
    by Known h = h refl
    by OriginsFull h = tt

pub opened_is_known : (o : UniqueAddress) (old new : List (UniqueAddress × ℕ)) → opening o old ≡ NewlyOpened → new ≡ with_origin o old → IsKnown o new
opened_is_known o old new is left = rw (left, is) (known_last (same_origin o) old o 1 (laws-law.refl o))
