-- The digits of the crate `hex` are these.
use Rattle.std.proofs.Common.{◌≡◌, ℕ, zero, suc, ◌+◌, ◌*◌, ◌/◌, ◌%◌, ◌<◌, List, [], ◌∷◌, ◌++◌, length, slice_index, refl, sym, ap, ◌∙◌, arith}
use Rattle.std.specs.Prelude.{flat_map, ◌&&◌, Bool, true, Option, Some, None, Result, Ok, Err}
use Rattle.std.proofs.lemmas.Bool.Decides.{nat_tests}
use Rattle.std.specs.List.{list_all}
use Rattle.std.proofs.lemmas.Bool.{and_parts}
use Rattle.hex.specs.Hex.{encode_with, encode_lower, lower_digits, hex_digit_value, decode_pairs, decode_of}
use Rattle.hex.specs.Hex as kit
use Rattle.hex.specs.declared.error.FromHexError.{FromHexError}
use Rattle.hex.proofs.HexLemmas.{decode_of-even}
use Rattle.hex.proofs.Pairs.{cons_byte, decode_pairs-ok_pair}
use Rattle.artery_text.specs.Reading.{is_hex_digit, hex_value, pair_value, bad_pair, pairs_value, pairs_from}
use Rattle.artery_text.specs.Spelling.{AreBytes, hex_digit, hex_pair}
use Rattle.artery_text.proofs.HexPairs.{rest_bytes}

kit_digit : (d : ℕ) → d < 16 → slice_index lower_digits d ≡ hex_digit d
kit_digit zero h = refl
kit_digit (suc zero) h = refl
kit_digit (suc (suc zero)) h = refl
kit_digit (suc (suc (suc zero))) h = refl
kit_digit (suc (suc (suc (suc zero)))) h = refl
kit_digit (suc (suc (suc (suc (suc zero))))) h = refl
kit_digit (suc (suc (suc (suc (suc (suc zero)))))) h = refl
kit_digit (suc (suc (suc (suc (suc (suc (suc zero))))))) h = refl
kit_digit (suc (suc (suc (suc (suc (suc (suc (suc zero)))))))) h = refl
kit_digit (suc (suc (suc (suc (suc (suc (suc (suc (suc zero))))))))) h = refl
kit_digit (suc (suc (suc (suc (suc (suc (suc (suc (suc (suc zero)))))))))) h = refl
kit_digit (suc (suc (suc (suc (suc (suc (suc (suc (suc (suc (suc zero))))))))))) h = refl
kit_digit (suc (suc (suc (suc (suc (suc (suc (suc (suc (suc (suc (suc zero)))))))))))) h = refl
kit_digit (suc (suc (suc (suc (suc (suc (suc (suc (suc (suc (suc (suc (suc zero))))))))))))) h = refl
kit_digit (suc (suc (suc (suc (suc (suc (suc (suc (suc (suc (suc (suc (suc (suc zero)))))))))))))) h = refl
kit_digit (suc (suc (suc (suc (suc (suc (suc (suc (suc (suc (suc (suc (suc (suc (suc zero))))))))))))))) h = refl
kit_digit (suc (suc (suc (suc (suc (suc (suc (suc (suc (suc (suc (suc (suc (suc (suc (suc d)))))))))))))))) h = absurd (omega (arith, h))

-- the kit's digits are these
pub kit_pairs : (bytes : List ℕ) → AreBytes bytes → encode_lower bytes ≡ flat_map hex_pair bytes
unfolding encode_with
kit_pairs [] h = refl
kit_pairs (b ∷ bytes) h =
    let small : b < 256 = h 0 in
    let high = kit_digit (b / 16) (omega (arith, small)) in
    let low = kit_digit (b % 16) (omega arith) in
    rw (high, low) (ap (λ (t : List ℕ). hex_digit (b / 16) ∷ hex_digit (b % 16) ∷ t) (kit_pairs bytes (rest_bytes b bytes h)))

kit_value : (c : ℕ) → is_hex_digit c ≡ true → hex_digit_value c ≡ Some (hex_value c)
kit_value c h = grind (arith, nat_tests)

kit_pair : (a b i : ℕ) → is_hex_digit a ≡ true → is_hex_digit b ≡ true → kit.pair_value a b i ≡ Ok (pair_value a b)
kit_pair a b i ha hb =
    let whole : hex_value a * 16 + hex_value b ≡ 16 * hex_value a + hex_value b = omega arith in
    rw (kit_value a ha, kit_value b hb) (ap (λ (v : ℕ). Ok v) whole)

-- what the kit makes of pairs of lower-case digits
kit_reads_from : (i : ℕ) (text : List ℕ) → length text % 2 ≡ 0 → list_all is_hex_digit text ≡ true
    → (decode_pairs i text ≡ Ok (pairs_value text)) × (bad_pair text ≡ None)
unfolding decode_pairs
kit_reads_from i [] even h = (refl, refl)
kit_reads_from i (a ∷ []) even h = absurd (omega (arith, even))
kit_reads_from i (a ∷ b ∷ rest) even h =
    let t = and_parts (is_hex_digit a) (list_all is_hex_digit (b ∷ rest)) h in
    let u = and_parts (is_hex_digit b) (list_all is_hex_digit rest) t.1 in
    let more = kit_reads_from (i + 2) rest (omega (arith, even)) u.1 in (
      decode_pairs-ok_pair i a b (pair_value a b) rest (kit_pair a b i t.0 u.0) ∙ ap (cons_byte (pair_value a b)) more.0,
      rw (t.0, u.0, more.1) refl,
    )

abbrev read_as : List ℕ → Result (List ℕ) FromHexError
read_as x = Ok x

ok_same : (x y : List ℕ) → read_as x ≡ Ok y → x ≡ y
ok_same x y h = cc

pub kit_reads : (text bytes : List ℕ) → length text % 2 ≡ 0 → list_all is_hex_digit text ≡ true → decode_of text ≡ Ok bytes → pairs_from [] 0 text ≡ Ok bytes
kit_reads text bytes even h d =
    let r = kit_reads_from 0 text even h in
    let same : pairs_value text ≡ bytes = ok_same _ _ (sym (decode_of-even text even ∙ r.0) ∙ d) in
    rw (r.1, same) refl
