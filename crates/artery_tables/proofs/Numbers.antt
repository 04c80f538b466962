-- The known numbers of a story and their versions.
use Rattle.std.proofs.Common.{◌≡◌, ℕ, zero, suc, ◌+◌, ◌≤◌, ◌<◌, Bool, true, false, cond, List, [], ◌∷◌, length, refl, sym, ◌∙◌, ap, subst, arith}
use Rattle.std.proofs.Math.Nat.{div-add-mod}
use Rattle.std.specs.Prelude.{◌%◌, ◌/◌, ◌*◌, ◌-◌, Option, None, Some, ◌==◌}
use Rattle.std.specs.List.{find}
use Rattle.std.proofs.lemmas.Bool.Decides.{nat_tests}
use Rattle.artery_tables.specs.Story.{Story, IsStory, IsKnown, Nothing, Announced, version_of, numbers_down, known_numbers, number_of}

none_some : {X P : Type 0} {x : X} → None ≡ Some x → P
none_some h = cc

some_same : {X : Type 0} {x y : X} → Some x ≡ Some y → x ≡ y
some_same h = cc

-- numbers from 1 on that are less than 127 apart and have one version are one
pub one_version : (s t : ℕ) → 0 < s → 0 < t → s ≤ t + 4 → t ≤ s + 4 → version_of s ≡ version_of t → s ≡ t
one_version zero t a b c d e = (let f : ⊥ = omega arith in absurd f)
one_version (suc s) zero a b c d e = (let f : ⊥ = omega arith in absurd f)
one_version (suc s) (suc t) a b c d e =
    let p : 127 * (s / 127) + s % 127 ≡ s = div-add-mod s 127 in
    let q : 127 * (t / 127) + t % 127 ≡ t = div-add-mod t 127 in
    let same : s % 127 + 1 ≡ t % 127 + 1 = e in
    omega arith

-- a number that is found among so many numbers down from one
pub record IsFound (v k s t : ℕ) : Type 0 where
  pub version : version_of t ≡ v
  pub some : 0 < t
  pub top : t ≤ s
  pub low : s < t + k

pub found_down : (v k s t : ℕ) → find (λ n. version_of n == v) (numbers_down k s) ≡ Some t → IsFound v k s t
found_down v zero s t h = none_some h
found_down v (suc k) zero t h = none_some h
found_down v (suc k) (suc s) t h = by (version_of (suc s) == v) refl h (found_down v k s t)
  where
    by : (b : Bool) → (version_of (suc s) == v) ≡ b → cond b (Some (suc s)) (find (λ n. version_of n == v) (numbers_down k s)) ≡ Some t → (find (λ n. version_of n == v) (numbers_down k s) ≡ Some t → IsFound v k s t) → IsFound v (suc k) (suc s) t
    by true e g rest =
        let is : suc s ≡ t = some_same g in
        let P : ℕ → Type 0 = λ z. version_of z ≡ v in
        let here : version_of (suc s) ≡ v = grind (arith, nat_tests) in
        record { version = subst P is here; some = omega arith; top = omega arith; low = omega arith }
    by false e g rest =
        let f : IsFound v k s t = rest g in
        let a : t ≤ s = f.top in
        let b : s < t + k = f.low in
        record { version = f.version; some = f.some; top = omega arith; low = omega arith }

some_down : (v k s t : ℕ) → version_of t ≡ v → 0 < t → t ≤ s → s < t + k → (x : ℕ) × (find (λ n. version_of n == v) (numbers_down k s) ≡ Some x)
some_down v zero s t a b c d = (let f : ⊥ = omega arith in absurd f)
some_down v (suc k) zero t a b c d = (let f : ⊥ = omega arith in absurd f)
some_down v (suc k) (suc s) t a b c d = by (version_of (suc s) == v) refl (λ n. some_down v k s t a b (let m : t ≡ suc s → ⊥ = n in omega arith) (omega arith))
  where
    by : (x : Bool) → (version_of (suc s) == v) ≡ x → ((t ≡ suc s → ⊥) → (y : ℕ) × (find (λ n. version_of n == v) (numbers_down k s) ≡ Some y)) → (y : ℕ) × (cond x (Some (suc s)) (find (λ n. version_of n == v) (numbers_down k s)) ≡ Some y)
    by true e rest = (suc s, refl)
    by false e rest = rest (λ i. let at : version_of (suc s) ≡ v = ap version_of (sym i) ∙ a in let f : ⊥ = grind (arith, nat_tests) in f)

-- the number found for a version is known and has it
pub number_found : (story : Story) (version number : ℕ) → number_of story version ≡ Some number → IsKnown story number × (version_of number ≡ version)
number_found story v n h = by (0 == v) refl h
  where
    by : (b : Bool) → (0 == v) ≡ b → cond b (Some 0) (find (λ m. version_of m == v) (numbers_down (length story.tables + 4 - story.confirmed) (length story.tables))) ≡ Some n → IsKnown story n × (version_of n ≡ v)
    by true e g =
        let is : 0 ≡ n = some_same g in
        let P : ℕ → Type 0 = λ z. IsKnown story z × (version_of z ≡ v) in
        let zero_is : 0 ≡ v = grind (arith, nat_tests) in
        subst P is (Nothing, zero_is)
    by false e g =
        let f : IsFound v (length story.tables + 4 - story.confirmed) (length story.tables) n = found_down v _ _ n g in
        let a : 0 < n = f.some in
        let b : n ≤ length story.tables = f.top in
        let c : length story.tables < n + (length story.tables + 4 - story.confirmed) = f.low in
        (Announced n (omega arith) (omega arith) (omega arith), f.version)

not_zero : (r : ℕ) → (0 == r + 1) ≡ false
not_zero r = grind (arith, nat_tests)

-- a known number is found for its version
pub known_found : (story : Story) (number : ℕ) → IsStory story → IsKnown story number → number_of story (version_of number) ≡ Some number
known_found story n i Nothing = refl
known_found story zero i (Announced z a b c) = (let f : ⊥ = omega arith in absurd f)
known_found story (suc m) i (Announced z a b c) =
    let near : length story.tables ≤ story.confirmed + 1 = i.one_open in
    let within : story.confirmed ≤ length story.tables = i.announced in
    let x = some_down (version_of (suc m)) (length story.tables + 4 - story.confirmed) (length story.tables) (suc m) refl (omega arith) c (omega arith) in
    let f : IsFound (version_of (suc m)) (length story.tables + 4 - story.confirmed) (length story.tables) x.0 = found_down _ _ _ x.0 x.1 in
    let p : 0 < x.0 = f.some in
    let q : x.0 ≤ length story.tables = f.top in
    let r : length story.tables < x.0 + (length story.tables + 4 - story.confirmed) = f.low in
    let e : (0 == version_of (suc m)) ≡ false = not_zero (m % 127) in
    ap (λ (b : Bool). cond b (Some 0) (find (λ n. version_of n == version_of (suc m)) (numbers_down (length story.tables + 4 - story.confirmed) (length story.tables)))) e ∙ x.1 ∙ ap Some (one_version x.0 (suc m) p (omega arith) (omega arith) (omega arith) f.version)
