-- Which ask counts as a heartbeat.
use Rattle.std.proofs.Common.{◌≡◌, ℕ, ◌+◌, ◌<◌, ◌≤◌, Bool, true, false, List, [], ◌∷◌, ◌++◌, refl, ap, ◌∙◌, sym, arith}
use Rattle.std.specs.Prelude.{Some, nat_le, if◌then◌else◌}
use Rattle.std.specs.List.{find, AllByRecursion}
use Rattle.std.proofs.lemmas.Bool.Decides.{nat_tests}
use Rattle.artery_detector.specs.Availability.{Beat, ask, heartbeat, asks, noted, unheard_asks, first_in_time, counted_ask, CountsIn}

-- the first of some moments that is in time, with those before and after it
pub record FoundAt (limit now : ℕ) (moments : List ℕ) : Type 0 where
  pub before : List ℕ
  pub after : List ℕ
  pub place : moments ≡ before ++ now ∷ after
  pub in_time : limit ≤ now
  pub too_early : AllByRecursion (λ other. other < limit) before

in_time_is : (limit m : ℕ) → nat_le limit m ≡ true → limit ≤ m
in_time_is limit m h = grind (arith, nat_tests)

early_is : (limit m : ℕ) → nat_le limit m ≡ false → m < limit
early_is limit m h = grind (arith, nat_tests)

found_at : (limit now : ℕ) (moments : List ℕ) → find (λ m. nat_le limit m) moments ≡ Some now → FoundAt limit now moments
found_at limit now [] h = cc
found_at limit now (m ∷ moments) h = by (nat_le limit m) (in_time_is limit m) (early_is limit m) h (found_at limit now moments)
  where
    by : (b : Bool) → (b ≡ true → limit ≤ m) → (b ≡ false → m < limit) → (if b then Some m else find (λ m. nat_le limit m) moments) ≡ Some now → (find (λ m. nat_le limit m) moments ≡ Some now → FoundAt limit now moments) → FoundAt limit now (m ∷ moments)
    by true late early is rest = let same : m ≡ now = cc in record { before = []; after = moments; place = ap (λ (x : ℕ). x ∷ moments) same; in_time = rw (sym same) (late refl); too_early = tt }
    by false late early is rest = let r = rest is in record { before = m ∷ r.before; after = r.after; place = ap (λ (xs : List ℕ). m ∷ xs) r.place; in_time = r.in_time; too_early = (early refl, r.too_early) }

-- the beats up to an ask that has nothing heard before it
pub record AskedAt (now : ℕ) (moments : List ℕ) (beats : List Beat) : Type 0 where
  pub before : List Beat
  pub after : List Beat
  pub place : beats ≡ before ++ ask now ∷ after
  pub unheard : noted before ≡ []
  pub asked : asks before ≡ moments

module _ (now : ℕ) (later : List ℕ) where
  asked_at : (beats : List Beat) (moments : List ℕ) → unheard_asks beats ≡ moments ++ now ∷ later → AskedAt now moments beats
  asked_at [] [] h = cc
  asked_at [] (x ∷ moments) h = cc
  asked_at (heartbeat m ∷ beats) [] h = cc
  asked_at (heartbeat m ∷ beats) (x ∷ moments) h = cc
  asked_at (ask m ∷ beats) [] h = let same : m ≡ now = cc in record { before = []; after = beats; place = ap (λ (y : ℕ). ask y ∷ beats) same; unheard = refl; asked = refl }
  asked_at (ask m ∷ beats) (x ∷ moments) h =
      let same : m ≡ x = cc in
      let rest : unheard_asks beats ≡ moments ++ now ∷ later = cc in
      let r = asked_at beats moments rest in
      record { before = ask m ∷ r.before; after = r.after; place = ap (λ (bs : List Beat). ask m ∷ bs) r.place; unheard = r.unheard; asked = cc }

counts_of : (now : ℕ) (us : List ℕ) (beats : List Beat) → unheard_asks beats ≡ us → first_in_time us ≡ Some now → CountsIn now beats
counts_of now [] beats is h = cc
counts_of now (first ∷ others) beats is h =
    let f = found_at (first + 1000) now others h in
    let a = asked_at now f.after beats (first ∷ f.before) (is ∙ ap (λ (xs : List ℕ). first ∷ xs) f.place) in
    record { first = first; others = f.before; before = a.before; after = a.after; place = a.place; unheard = a.unheard; asked = a.asked; in_time = f.in_time; too_early = f.too_early }

pub counts_in : (now : ℕ) (beats : List Beat) → counted_ask beats ≡ Some now → CountsIn now beats
counts_in now beats h = counts_of now (unheard_asks beats) beats refl h

-- and the other way
unheard_to : (now : ℕ) (before after : List Beat) → noted before ≡ [] → unheard_asks (before ++ ask now ∷ after) ≡ asks before ++ now ∷ unheard_asks after
unheard_to now [] after h = refl
unheard_to now (ask m ∷ before) after h = ap (λ (xs : List ℕ). m ∷ xs) (unheard_to now before after h)
unheard_to now (heartbeat m ∷ before) after h = cc

late_is : (limit m : ℕ) → limit ≤ m → nat_le limit m ≡ true
late_is limit m h = grind (arith, nat_tests)

before_is : (limit m : ℕ) → m < limit → nat_le limit m ≡ false
before_is limit m h = grind (arith, nat_tests)

found_first : (limit now : ℕ) (others later : List ℕ) → limit ≤ now → AllByRecursion (λ other. other < limit) others → find (λ m. nat_le limit m) (others ++ now ∷ later) ≡ Some now
found_first limit now [] later late early = rw (late_is limit now late) refl
found_first limit now (m ∷ others) later late early = rw (before_is limit m early.0) (found_first limit now others later late early.1)

pub is_counted : (now : ℕ) (beats : List Beat) → CountsIn now beats → counted_ask beats ≡ Some now
is_counted now beats c = rw (c.place, unheard_to now c.before c.after c.unheard, c.asked) (found_first (c.first + 1000) now c.others (unheard_asks c.after) c.in_time c.too_early)
