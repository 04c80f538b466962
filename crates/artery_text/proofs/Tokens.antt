-- Each spelling is one token.
use Rattle.std.proofs.Common.{◌≡◌, ℕ, suc, ◌/◌, ◌%◌, ◌^◌, ◌<◌, Bool, true, false, cond, List, [], ◌∷◌, ◌++◌, length, refl, sym, arith, subst}
use Rattle.std.specs.Prelude.{ℤ, pos, negsuc, FitsSigned, codes, decimal, flat_map}
use Rattle.std.specs.Fmt.{signed_decimal}
use Rattle.std.specs.Int.{w32}
use Rattle.std.specs.Char.{is_ascii_digit}
use Rattle.std.specs.List.{list_all}
use Rattle.std.proofs.lemmas.Bool.Decides.{nat_tests}
use Rattle.std.proofs.lemmas.Fmt.{decimal_nonempty}
use Rattle.std.proofs.lemmas.List.{length-append}
use Rattle.std.proofs.lemmas.List.Folds.{list_all-append}
use Rattle.artery_base.specs.declared.address.Address.{Address}
use Rattle.artery_base.specs.declared.address.UniqueAddress.{UniqueAddress}
use Rattle.artery_text.specs.Spelling.{AreBytes, is_visible, IsToken, hex_digit, hex_pair, hex_text, is_plain, escaped, word_piece, is_reserved, first_piece, word_text, is_part_byte, IsAddress, address_text, IsUniqueAddress, unique_text}
use Rattle.artery_text.proofs.Decimals.{decimal_digits}
use Rattle.artery_text.proofs.HexPairs.{hex_text-some, rest_bytes}
use Rattle.artery_text.proofs.Places.{all_weaker}
use Rattle.artery_text.proofs.AddressLaws.{text_regrouped}

abbrev AllVisible : List ℕ → Type 0
AllVisible xs = list_all is_visible xs ≡ true

both : (xs ys : List ℕ) → AllVisible xs → AllVisible ys → AllVisible (xs ++ ys)
both xs ys h e = rw (list_all-append is_visible xs ys, h, e) refl

digit_visible : (b : ℕ) → is_ascii_digit b ≡ true → is_visible b ≡ true
digit_visible b h = grind (arith, nat_tests)

part_visible : (b : ℕ) → is_part_byte b ≡ true → is_visible b ≡ true
part_visible b h = grind (arith, nat_tests)

plain_visible : (b : ℕ) → is_plain b ≡ true → is_visible b ≡ true
plain_visible b h = grind (arith, nat_tests)

hex_visible : (d : ℕ) → d < 16 → is_visible (hex_digit d) ≡ true
hex_visible d h = grind (arith, nat_tests)

pub decimal_token : (n : ℕ) → n < 2 ^ 64 → IsToken (decimal n)
decimal_token n h = record { some = decimal_nonempty n h; visible = all_weaker is_ascii_digit is_visible digit_visible (decimal n) (decimal_digits n h) }

pub signed_token : (z : ℤ) → FitsSigned w32 z → IsToken (signed_decimal z)
signed_token (pos n) h =
    let lt : n < 2 ^ 31 = omega arith in
    decimal_token n (omega arith)
signed_token (negsuc n) h =
    let lt : n < 2 ^ 31 = omega arith in
    record { some = omega arith; visible = (decimal_token (suc n) (omega arith)).visible }

pair_visible : (b : ℕ) → b < 256 → AllVisible (hex_pair b)
pair_visible b h = rw (hex_visible (b / 16) (omega arith), hex_visible (b % 16) (omega arith)) refl

pairs_visible : (bytes : List ℕ) → AreBytes bytes → AllVisible (flat_map hex_pair bytes)
pairs_visible [] h = refl
pairs_visible (b ∷ bytes) h = both (hex_pair b) (flat_map hex_pair bytes) (pair_visible b (h 0)) (pairs_visible bytes (rest_bytes b bytes h))

pub hex_token : (bytes : List ℕ) → AreBytes bytes → IsToken (hex_text bytes)
hex_token [] h = record { some = omega arith; visible = refl }
hex_token (b ∷ bytes) h = subst IsToken (sym (hex_text-some b bytes)) (record { some = omega arith; visible = pairs_visible (b ∷ bytes) h })

piece_visible : (b : ℕ) (t : Bool) → is_plain b ≡ t → b < 256 → AllVisible (cond t (b ∷ []) (escaped b))
piece_visible b true t h = rw (plain_visible b t) refl
piece_visible b false t h = pair_visible b h

pieces_visible : (bytes : List ℕ) → AreBytes bytes → AllVisible (flat_map word_piece bytes)
pieces_visible [] h = refl
pieces_visible (b ∷ bytes) h = both (word_piece b) (flat_map word_piece bytes) (piece_visible b (is_plain b) refl (h 0)) (pieces_visible bytes (rest_bytes b bytes h))

first_visible : (b : ℕ) (t : Bool) → b < 256 → AllVisible (cond t (escaped b) (word_piece b))
first_visible b true h = pair_visible b h
first_visible b false h = piece_visible b (is_plain b) refl h

piece_some : (b : ℕ) (t : Bool) → 0 < length (cond t (b ∷ []) (escaped b))
piece_some b true = omega arith
piece_some b false = omega arith

first_some : (b : ℕ) (t : Bool) → 0 < length (cond t (escaped b) (word_piece b))
first_some b true = omega arith
first_some b false = piece_some b (is_plain b)

pub word_token : (bytes : List ℕ) → AreBytes bytes → IsToken (word_text bytes)
word_token [] h = record { some = omega arith; visible = refl }
word_token (b ∷ bytes) h = record {
  some = omega (arith, length-append (first_piece b bytes) (flat_map word_piece bytes), first_some b (is_reserved b bytes));
  visible = both (first_piece b bytes) (flat_map word_piece bytes) (first_visible b (is_reserved b bytes) (h 0)) (pieces_visible bytes (rest_bytes b bytes h));
}

named : (xs : List ℕ) → list_all is_part_byte xs ≡ true → AllVisible xs
named xs h = all_weaker is_part_byte is_visible part_visible xs h

pub address_token : (a : Address) → IsAddress a → IsToken (address_text a)
address_token a h =
    let digits = (decimal_token a.port (omega (arith, h.port.1))).visible in
    let rest2 = a.host ++ 58 ∷ decimal a.port in
    let rest1 = a.system ++ 64 ∷ rest2 in
    let v2 : AllVisible rest2 = both a.host (58 ∷ decimal a.port) (named a.host h.host.made_of) digits in
    let v1 : AllVisible rest1 = both a.system (64 ∷ rest2) (named a.system h.system.made_of) v2 in
    let whole : AllVisible (a.protocol ++ (codes "://" ++ rest1)) = both a.protocol (codes "://" ++ rest1) (named a.protocol h.protocol.made_of) v1 in
    subst IsToken (text_regrouped a) (record { some = omega (arith, h.protocol.some, length-append a.protocol (codes "://" ++ rest1)); visible = whole })

pub unique_token : (u : UniqueAddress) → IsUniqueAddress u → IsToken (unique_text u)
unique_token u h =
    let front = address_token u.address h.address in
    let digits = (decimal_token u.uid h.uid).visible in
    record {
      some = omega (arith, front.some, length-append (address_text u.address ++ codes "#") (decimal u.uid), length-append (address_text u.address) (codes "#"));
      visible = both (address_text u.address ++ codes "#") (decimal u.uid) (both (address_text u.address) (codes "#") front.visible refl) digits;
    }
