-- The bytes of parts and keys are ASCII.
use Rattle.std.proofs.Common.{◌≡◌, ℕ, zero, suc, ◌<◌, ◌≤◌, Bool, true, ltb, leb, eqb, List, [], ◌∷◌, length, get_or, arith, inl, inr}
use Rattle.std.specs.Prelude.{◌&&◌, ◌||◌}
use Rattle.std.specs.List.{list_all}
use Rattle.std.specs.Str.{IsAscii}
use Rattle.std.proofs.lemmas.Bool.{and_parts, or_cases, ltb-true, leb-true, eqb-true}
use Rattle.std.specs.Int.{is_in_range}
use Rattle.artery_base.specs.Valid.{is_part_byte}
use Rattle.artery_control.specs.Parts.{is_part, is_key}

-- each byte that passes the test is below 128
all_ascii : (test : ℕ → Bool) → ((b : ℕ) → test b ≡ true → b < 128) → (text : List ℕ) → list_all test text ≡ true → (i : ℕ) → get_or text i 0 < 128
all_ascii test below [] h i = omega arith
all_ascii test below (b ∷ bs) h zero = below b (and_parts (test b) (list_all test bs) h).0
all_ascii test below (b ∷ bs) h (suc i) = all_ascii test below bs (and_parts (test b) (list_all test bs) h).1 i

within_below : (first last b : ℕ) → last < 128 → is_in_range first last b ≡ true → b < 128
within_below first last b small h =
    let most : b ≤ last = leb-true _ _ (and_parts (leb first b) (leb b last) h).1 in
    omega (arith, most, small)

part_byte_below : (b : ℕ) → is_part_byte b ≡ true → b < 128
part_byte_below b h =
    elim (or_cases (is_in_range 97 122 b || is_in_range 65 90 b || is_in_range 48 57 b || eqb b 45 || eqb b 95) (eqb b 46) h) [
      | inr dot ↦ let e : b ≡ 46 = eqb-true _ _ dot in omega (arith, e)
      | inl h1 ↦
          elim (or_cases (is_in_range 97 122 b || is_in_range 65 90 b || is_in_range 48 57 b || eqb b 45) (eqb b 95) h1) [
            | inr line ↦ let e : b ≡ 95 = eqb-true _ _ line in omega (arith, e)
            | inl h2 ↦
                elim (or_cases (is_in_range 97 122 b || is_in_range 65 90 b || is_in_range 48 57 b) (eqb b 45) h2) [
                  | inr dash ↦ let e : b ≡ 45 = eqb-true _ _ dash in omega (arith, e)
                  | inl h3 ↦
                      elim (or_cases (is_in_range 97 122 b || is_in_range 65 90 b) (is_in_range 48 57 b) h3) [
                        | inr digit ↦ within_below 48 57 b (omega arith) digit
                        | inl h4 ↦
                            elim (or_cases (is_in_range 97 122 b) (is_in_range 65 90 b) h4) [
                              | inr upper ↦ within_below 65 90 b (omega arith) upper
                              | inl lower ↦ within_below 97 122 b (omega arith) lower
                            ]
                      ]
                ]
          ]
    ]

pub part_ascii : (text : List ℕ) → is_part text ≡ true → IsAscii text
unfolding is_part
part_ascii text h = all_ascii is_part_byte part_byte_below text (and_parts (leb 1 (length text) && leb (length text) 255) (list_all is_part_byte text) h).1

pub key_ascii : (text : List ℕ) → is_key text ≡ true → IsAscii text
unfolding is_key
key_ascii text h = all_ascii (λ b. ltb b 128) (λ b t. ltb-true b 128 t) text (and_parts (leb (length text) 65535) (list_all (λ b. ltb b 128) text) h).1
