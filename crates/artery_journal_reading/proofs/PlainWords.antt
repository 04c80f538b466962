-- Words that spell themselves.
use Rattle.std.proofs.Common.{◌≡◌, ℕ, zero, suc, ◌<◌, true, false, not, eqb, List, [], ◌∷◌, length, Some, Ok, refl, sym, ap, ◌∙◌, arith}
use Rattle.std.specs.Prelude.{codes, bytes_eq, slice_index, flat_map}
use Rattle.std.specs.List.{list_all}
use Rattle.std.specs.Result.{result_ok}
use Rattle.std.proofs.lemmas.Bool.{and_parts}
use Rattle.std.proofs.lemmas.Bool.Decides.{nat_tests}
use Rattle.artery_text.specs.Spelling.{AreBytes, is_visible, is_plain, is_reserved, word_piece, word_text}
use Rattle.artery_text.specs.Reading.{word_of}
use Rattle.artery_script.specs.Reading.{word_told}

pieces_plain : (bytes : List ℕ) → list_all is_plain bytes ≡ true → flat_map word_piece bytes ≡ bytes
pieces_plain [] h = refl
pieces_plain (b ∷ bytes) h =
    let s = and_parts (is_plain b) (list_all is_plain bytes) h in
    rw s.0 (ap (λ (bs : List ℕ). b ∷ bs) (pieces_plain bytes s.1))

plain_bytes : (bytes : List ℕ) → list_all is_plain bytes ≡ true → AreBytes bytes
plain_bytes [] h k = omega arith
plain_bytes (b ∷ bytes) h zero =
    let s = and_parts (is_plain b) (list_all is_plain bytes) h in
    let t = and_parts (is_visible b) (not (eqb b 37)) s.0 in
    grind (arith, nat_tests, t.0)
plain_bytes (b ∷ bytes) h (suc k) = plain_bytes bytes (and_parts (is_plain b) (list_all is_plain bytes) h).1 k

unreserved : (b : ℕ) (bytes : List ℕ) → bytes_eq (b ∷ bytes) (codes "-") ≡ false → eqb b 64 ≡ false → is_reserved b bytes ≡ false
unreserved b [] h at = rw at (grind (arith, nat_tests, h))
unreserved b (c ∷ bytes) h at = rw at (grind (arith, nat_tests))

-- a text of plain bytes is the word for them, unless it begins with `@` or is a `-` alone
pub own_word : (text : List ℕ) → ((bytes : List ℕ) → AreBytes bytes → word_of (word_text bytes) ≡ Ok bytes)
    → bytes_eq text (codes "-") ≡ false → 0 < length text → eqb (slice_index text 0) 64 ≡ false → list_all is_plain text ≡ true → word_told text ≡ Some text
own_word [] words h some at plain = absurd (omega arith)
own_word (b ∷ bytes) words h some at plain =
    let s = and_parts (is_plain b) (list_all is_plain bytes) plain in
    let free : is_reserved b bytes ≡ false = unreserved b bytes h at in
    let spelled : word_text (b ∷ bytes) ≡ b ∷ bytes = rw (free, s.0) (ap (λ (bs : List ℕ). b ∷ bs) (pieces_plain bytes s.1)) in
    ap word_told (sym spelled) ∙ ap result_ok (words (b ∷ bytes) (plain_bytes (b ∷ bytes) plain))
