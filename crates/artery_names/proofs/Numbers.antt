-- The number that is found by the version of a number.
use Rattle.std.proofs.Common.{◌≡◌, ℕ, zero, suc, ◌+◌, ◌≤◌, ◌<◌, length, refl, sym, arith}
use Rattle.std.proofs.Math.Nat.{div-add-mod}
use Rattle.std.specs.Prelude.{◌%◌, ◌/◌, ◌*◌, Some}
use Rattle.artery_tables.specs.Story.{Story, IsStory, IsKnown, Nothing, Announced, version_of, number_of}
use Rattle.artery_tables.proofs.Numbers.{number_found}
use Rattle.artery_names.specs.Versions.{Fits}

-- numbers from 1 on that are less than 127 apart and have one version are one
one_version : (s t : ℕ) → 0 < s → 0 < t → s < t + 127 → t < s + 127 → version_of s ≡ version_of t → s ≡ t
one_version zero t a b c d e = (let f : ⊥ = omega arith in absurd f)
one_version (suc s) zero a b c d e = (let f : ⊥ = omega arith in absurd f)
one_version (suc s) (suc t) a b c d e =
    let p : 127 * (s / 127) + s % 127 ≡ s = div-add-mod s 127 in
    let q : 127 * (t / 127) + t % 127 ≡ t = div-add-mod t 127 in
    let same : s % 127 + 1 ≡ t % 127 + 1 = e in
    omega arith

-- only number 0 has version 0
zero_version : (s : ℕ) → version_of s ≡ 0 → s ≡ 0
zero_version zero e = refl
zero_version (suc s) e = (let f : ⊥ = omega arith in absurd f)

pub number_is : (story : Story) (meant found : ℕ) → IsStory story → meant ≤ length story.tables → Fits (length story.tables) meant → number_of story (version_of meant) ≡ Some found → found ≡ meant
number_is story meant found i within fits h = by meant found within fits (number_found story (version_of meant) found h).0 (number_found story (version_of meant) found h).1
  where
    by : (s t : ℕ) → s ≤ length story.tables → Fits (length story.tables) s → IsKnown story t → version_of t ≡ version_of s → t ≡ s
    by s t w f Nothing e = sym (zero_version s (sym e))
    by zero t w f (Announced z a b c) e = zero_version t e
    by (suc s) t w f (Announced z a b c) e =
        let near : length story.tables ≤ story.confirmed + 1 = i.one_open in
        let room : length story.tables < suc s + 127 = f (omega arith) in
        one_version t (suc s) (omega arith) (omega arith) (omega arith) (omega arith) e
