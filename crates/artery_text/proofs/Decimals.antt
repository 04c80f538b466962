-- What a decimal text reads as.
use Rattle.std.proofs.Common.{◌≡◌, ℕ, zero, suc, ◌^◌, ◌<◌, ◌≤◌, Bool, true, false, cond, eqb, ltb, List, [], ◌∷◌, length, get_or, Option, Some, None, Result, Ok, Err, refl, sym, ap, ◌∙◌, arith, rules, inl, inr}
use Rattle.std.specs.Prelude.{decimal, ◌&&◌, IsUtf8, IfSome}
use Rattle.std.specs.Result.{result_ok}
use Rattle.std.specs.Char.{is_ascii_digit}
use Rattle.std.specs.List.{list_all}
use Rattle.std.specs.Str.Parse.{digits_value, ParsesUnsigned}
use Rattle.std.proofs.lemmas.Bool.{cases_lt, and_parts, ltb-true, lt-ltb, le-ltb}
use Rattle.std.proofs.lemmas.Fmt.{decimal_digit, decimal_nonempty, first_decimal, digits_decimal, digits_value-decimal, decimal-digits_value, IsAscii-from_digits}
use Rattle.std.proofs.lemmas.Str.{IsUtf8-from_ascii}
use Rattle.std.proofs.lemmas.Str.Parse.{IsNumeralModel, numerals_by_value, parse_digits}
use Rattle.std.proofs.lemmas.Bool.Decides.{nat_tests}
use Rattle.std.specs.Prelude.{ℤ, pos, negsuc, FitsSigned}
use Rattle.std.specs.Fmt.{signed_decimal}
use Rattle.std.specs.Int.{w32, is_in_range}
use Rattle.artery_text.specs.Reading.{is_numeral, number_of, int32_of, positive_int32, negative_int32}

abbrev AreDigits : List ℕ → Type 0
AreDigits ds = list_all is_ascii_digit ds ≡ true

own : IsNumeralModel AreDigits (digits_value 10)
own = numerals_by_value AreDigits (search rules)

-- what a numeral is
record Numeral (text : List ℕ) : Type 0 where
  digits : list_all is_ascii_digit text ≡ true
  some : 0 < length text
  first : get_or text 0 0 ≡ 48 → length text ≡ 1

if_not : (b c : Bool) → cond b false c ≡ true → (b ≡ false) × (c ≡ true)
if_not true c h = absurd cc
if_not false c h = (refl, h)

numeral_true : (text : List ℕ) → is_numeral text ≡ true → Numeral text
numeral_true text h =
    let p = if_not (eqb (length text) 0) (cond (ltb 1 (length text) && eqb (get_or text 0 0) 48) false (list_all is_ascii_digit text)) h in
    let q = if_not (ltb 1 (length text) && eqb (get_or text 0 0) 48) (list_all is_ascii_digit text) p.1 in
    record { digits = q.1; some = grind (arith, nat_tests, p.0); first = λ e. grind (arith, nat_tests, p.0, q.0) }

true_numeral : (text : List ℕ) → Numeral text → is_numeral text ≡ true
true_numeral text h =
    let some : eqb (length text) 0 ≡ false = grind (arith, nat_tests, h.some) in
    let first : (ltb 1 (length text) && eqb (get_or text 0 0) 48) ≡ false = grind (arith, nat_tests, h.first, h.some) in
    rw (some, first) h.digits

decimal_numeral : (n : ℕ) → n < 2 ^ 64 → Numeral (decimal n)
decimal_numeral n h = record {
  digits = digits_decimal own n h;
  some = decimal_nonempty n h;
  first = λ e. elim (cases_lt 0 n) [
    | inl more ↦ absurd (omega (arith, first_decimal n more h, e))
    | inr none ↦ let z : n ≡ 0 = omega arith in rw (z, decimal_digit 0 (omega arith)) refl
  ];
}

pub decimal_digits : (n : ℕ) → n < 2 ^ 64 → list_all is_ascii_digit (decimal n) ≡ true
decimal_digits n h = digits_decimal own n h

-- the number of a spelled number
pub number_of-decimal : (n : ℕ) → n < 2 ^ 64 → number_of (decimal n) ≡ Some n
number_of-decimal n h =
    rw (true_numeral (decimal n) (decimal_numeral n h), digits_value-decimal own n h, lt-ltb n (2 ^ 64) h) refl

-- a number that is read is spelled so
record Spelled (text : List ℕ) (n : ℕ) : Type 0 where
  pub small : n < 2 ^ 64
  pub same : text ≡ decimal n

when_some : {X : Type 0} (b : Bool) (m n : X) → cond b (Some m) None ≡ Some n → (b ≡ true) × (m ≡ n)
when_some true m n h = (refl, cc)
when_some false m n h = absurd cc

pub number_of-Some : (text : List ℕ) (n : ℕ) → number_of text ≡ Some n → (n < 2 ^ 64) × (text ≡ decimal n)
number_of-Some text n h =
    let w = when_some _ _ _ h in
    let p = and_parts (is_numeral text) _ w.0 in
    let num = numeral_true text p.0 in
    let small : digits_value 10 text < 2 ^ 64 = ltb-true _ _ p.1 in
    let e = decimal-digits_value own text num.digits num.some num.first small in
    (rw (← w.1) small, sym e ∙ ap decimal w.1)

pub number_found : (text : List ℕ) (result : Option ℕ) → result ≡ number_of text → IfSome result (λ n. (n < 2 ^ 64) × (text ≡ decimal n))
number_found text None h = tt
number_found text (Some n) h = number_of-Some text n (sym h)

pub number_again : (text : List ℕ) (n : ℕ) (result : Option ℕ) → result ≡ number_of text → n < 2 ^ 64 → text ≡ decimal n → result ≡ Some n
number_again text n result h small e = h ∙ ap number_of e ∙ number_of-decimal n small

pub numeral_utf8 : (text : List ℕ) → is_numeral text ≡ true → IsUtf8 text
numeral_utf8 text h = IsUtf8-from_ascii text (IsAscii-from_digits text (own.to text (numeral_true text h).digits))

cases_le : (n v : ℕ) → 0 < n → ((0 < n) × (v < 2 ^ 64) → ⊥) → 2 ^ 64 ≤ v
cases_le n v some never = elim (cases_lt v (2 ^ 64)) [
  | inl lt ↦ absurd (never (some, lt))
  | inr le ↦ le
]

-- what parsing a numeral answers
pub parsed_numeral : {E : Type 0} (text : List ℕ) (r : Result ℕ E) → is_numeral text ≡ true → ParsesUnsigned 64 10 text r → result_ok r ≡ number_of text
parsed_numeral {E = E} text (Ok n) h p =
    let num = numeral_true text h in
    let q = parse_digits own {E = E} 64 text (Ok n) p num.digits in
    rw (h, lt-ltb _ _ q.0.1, q.1) refl
parsed_numeral {E = E} text (Err e) h p =
    let num = numeral_true text h in
    let q = parse_digits own {E = E} 64 text (Err e) p num.digits in
    rw (h, le-ltb _ _ (cases_le _ _ num.some q)) refl

first_digit : (b : ℕ) (rest : List ℕ) (n : ℕ) → number_of (b ∷ rest) ≡ Some n → eqb b 45 ≡ false
first_digit b rest n h =
    let w = when_some _ _ _ h in
    let num = numeral_true (b ∷ rest) (and_parts (is_numeral (b ∷ rest)) _ w.0).0 in
    let p = and_parts (is_ascii_digit b) (list_all is_ascii_digit rest) num.digits in
    grind (arith, nat_tests, p.0)

int32_of-plain : (text : List ℕ) (n : ℕ) → number_of text ≡ Some n → int32_of text ≡ positive_int32 (Some n)
int32_of-plain [] n h = absurd cc
int32_of-plain (b ∷ rest) n h = rw (first_digit b rest n h) (ap positive_int32 h)

pub int32_of-signed : (z : ℤ) → FitsSigned w32 z → int32_of (signed_decimal z) ≡ Some z
int32_of-signed (pos n) h =
    let lt : n < 2 ^ 31 = omega arith in
    int32_of-plain (decimal n) n (number_of-decimal n (omega arith)) ∙ rw (lt-ltb n (2 ^ 31) lt) refl
int32_of-signed (negsuc n) h =
    let lt : n < 2 ^ 31 = omega arith in
    let test : is_in_range 1 (2 ^ 31) (suc n) ≡ true = grind (arith, nat_tests) in
    ap negative_int32 (number_of-decimal (suc n) (omega arith)) ∙ rw test refl

record Positive (o : Option ℕ) (z : ℤ) : Type 0 where
  n : ℕ
  read : o ≡ Some n
  same : z ≡ pos n
  small : n < 2 ^ 31

positive_found : (o : Option ℕ) (z : ℤ) → positive_int32 o ≡ Some z → Positive o z
positive_found None z h = absurd cc
positive_found (Some n) z h =
    let w = when_some (ltb n (2 ^ 31)) (pos n) z h in
    record { n = n; read = refl; same = sym w.1; small = ltb-true _ _ w.0 }

record Negative (o : Option ℕ) (z : ℤ) : Type 0 where
  n : ℕ
  read : o ≡ Some (suc n)
  same : z ≡ negsuc n
  small : n < 2 ^ 31

negative_found : (o : Option ℕ) (z : ℤ) → negative_int32 o ≡ Some z → Negative o z
negative_found None z h = absurd cc
negative_found (Some zero) z h = absurd cc
negative_found (Some (suc n)) z h =
    let w = when_some (is_in_range 1 (2 ^ 31) (suc n)) (negsuc n) z h in
    record { n = n; read = refl; same = sym w.1; small = grind (arith, nat_tests, w.0) }

negative_text : (b : ℕ) (rest : List ℕ) (n : ℕ) (z : ℤ) → b ≡ 45 → rest ≡ decimal (suc n) → z ≡ negsuc n → n < 2 ^ 31 → FitsSigned w32 z × (b ∷ rest ≡ signed_decimal z)
negative_text b rest n z minus digits e small = rw (e, minus, digits) (record { sfits = small }, refl)

positive_text : (text : List ℕ) (n : ℕ) (z : ℤ) → text ≡ decimal n → z ≡ pos n → n < 2 ^ 31 → FitsSigned w32 z × (text ≡ signed_decimal z)
positive_text text n z digits e small = rw (e, digits) (record { sfits = small }, refl)

signed_text : (b : ℕ) (rest : List ℕ) (z : ℤ) (t : Bool) → t ≡ eqb b 45 → cond t (negative_int32 (number_of rest)) (positive_int32 (number_of (b ∷ rest))) ≡ Some z → FitsSigned w32 z × (b ∷ rest ≡ signed_decimal z)
signed_text b rest z true e h =
    let f = negative_found (number_of rest) z h in
    let s = number_of-Some rest (suc f.n) f.read in
    negative_text b rest f.n z (grind (arith, nat_tests)) s.1 f.same f.small
signed_text b rest z false e h =
    let f = positive_found (number_of (b ∷ rest)) z h in
    let s = number_of-Some (b ∷ rest) f.n f.read in
    positive_text (b ∷ rest) f.n z s.1 f.same f.small

pub int32_of-Some : (text : List ℕ) (z : ℤ) → int32_of text ≡ Some z → FitsSigned w32 z × (text ≡ signed_decimal z)
int32_of-Some [] z h = absurd cc
int32_of-Some (b ∷ rest) z h = signed_text b rest z (eqb b 45) refl h

pub int32_found : (text : List ℕ) (result : Option ℤ) → result ≡ int32_of text → IfSome result (λ z. FitsSigned w32 z × (text ≡ signed_decimal z))
int32_found text None h = tt
int32_found text (Some z) h = int32_of-Some text z (sym h)

pub int32_again : (text : List ℕ) (z : ℤ) (result : Option ℤ) → result ≡ int32_of text → FitsSigned w32 z → text ≡ signed_decimal z → result ≡ Some z
int32_again text z result h small e = h ∙ ap int32_of e ∙ int32_of-signed z small
