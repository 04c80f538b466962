-- Each field of a line is read exactly on the text of its value.
use Rattle.std.proofs.Common.{◌≡◌, ℕ, suc, ◌+◌, ◌^◌, ◌<◌, ◌≤◌, Bool, true, false, not, cond, eqb, ltb, List, [], ◌∷◌, length, get_or, Option, Some, None, Ok, refl, sym, ap, ◌∙◌, subst, arith}
use Rattle.std.specs.Prelude.{ℤ, FitsSigned, codes, decimal, bytes_eq, position, nat_lt, IsAscii, IsTrue}
use Rattle.std.specs.Ordering.{int_eq}
use Rattle.std.specs.Fmt.{signed_decimal}
use Rattle.std.specs.Int.{w32, is_in_range}
use Rattle.std.specs.List.{list_all, prefix_len, position_or_len}
use Rattle.std.specs.Result.{result_ok}
use Rattle.std.proofs.lemmas.Bool.{and_parts, ltb-true, ltb-false, lt-ltb, le-ltb}
use Rattle.std.proofs.lemmas.Bool.Decides.{nat_tests}
use Rattle.std.proofs.lemmas.List.Quantifiers.{position-Some}
use Rattle.std.proofs.lemmas.Str.Ascii.{IsAscii-nil, IsAscii-cons}
use Rattle.artery_base.specs.declared.address.Address.{Address}
use Rattle.artery_base.specs.Valid.{AreBytes, IsToken, IsAddress}
use Rattle.artery_text.specs.Spelling.{address_text, word_text, hex_text, is_plain}
use Rattle.artery_text.specs.Reading.{number_of, int32_of, word_of, hex_of, ascii_of, ascii_or_fault, address_of}
use Rattle.artery_lines.specs.Lines.{◌>>=◌, is_space}
use Rattle.artery_script.specs.Limits.{moment_end, most_rounds, most_payload, most_name, most_path}
use Rattle.artery_script.specs.Texts.{dials_text}
use Rattle.artery_script.specs.Valid.{IsNumber, IsMoment, IsCount, IsRounds, IsDials, control_serializer, IsOrdinary, IsPayload, IsManifest, IsName, is_actor_path, IsPath}
use Rattle.artery_script.specs.Reading.{address_told, word_told, hex_told, ascii_told, no_longer, manifest_told, payload_told, name_told, not_control, ordinary_told, as_moment, moment_told, as_count, count_told, as_rounds, rounds_told, dials_told, actor_path_told, path_told}
use Rattle.artery_script.proofs.Formats.{NoSpace, IsField, Always, token_no_space, some_is, steps, found, word_is, word_row}

-- what is promised of the texts of the parts
pub record TextLaws : Type 0 where
  pub numbers_read : (n : ℕ) → n < 2 ^ 64 → number_of (decimal n) ≡ Some n
  pub int32s_read : (z : ℤ) → FitsSigned w32 z → int32_of (signed_decimal z) ≡ Some z
  pub hex_read : (bytes : List ℕ) → AreBytes bytes → hex_of (hex_text bytes) ≡ Ok bytes
  pub words_read : (bytes : List ℕ) → AreBytes bytes → word_of (word_text bytes) ≡ Ok bytes
  pub addresses_read : (a : Address) → IsAddress a → address_of (address_text a) ≡ Ok a
  pub numbers_spelled : (text : List ℕ) (n : ℕ) → number_of text ≡ Some n → (n < 2 ^ 64) × (text ≡ decimal n)
  pub int32s_spelled : (text : List ℕ) (z : ℤ) → int32_of text ≡ Some z → FitsSigned w32 z × (text ≡ signed_decimal z)
  pub hex_spelled : (text bytes : List ℕ) → hex_of text ≡ Ok bytes → text ≡ hex_text bytes
  pub words_spelled : (text bytes : List ℕ) → word_of text ≡ Ok bytes → text ≡ word_text bytes
  pub addresses_spelled : (text : List ℕ) (a : Address) → address_of text ≡ Ok a → IsAddress a × (text ≡ address_text a)
  pub number_tokens : (n : ℕ) → n < 2 ^ 64 → IsToken (decimal n)
  pub int32_tokens : (z : ℤ) → FitsSigned w32 z → IsToken (signed_decimal z)
  pub hex_tokens : (bytes : List ℕ) → AreBytes bytes → IsToken (hex_text bytes)
  pub word_tokens : (bytes : List ℕ) → AreBytes bytes → IsToken (word_text bytes)
  pub address_tokens : (a : Address) → IsAddress a → IsToken (address_text a)

-- ---- places

full_step : (t : Bool) (n k : ℕ) → suc n ≤ cond t (1 + k) 0 → (t ≡ true) × (n ≤ k)
full_step true n k h = (refl, omega arith)
full_step false n k h = absurd (omega arith)

full_prefix : (q : ℕ → Bool) (xs : List ℕ) → length xs ≤ prefix_len q xs → list_all q xs ≡ true
full_prefix q [] h = refl
full_prefix q (x ∷ xs) h =
    let s = full_step (q x) (length xs) (prefix_len q xs) h in
    rw (s.0, full_prefix q xs s.1) refl

no_some : (t : Bool) (n : ℕ) → cond t (Some n) None ≡ None → t ≡ false
no_some true n h = absurd cc
no_some false n h = refl

pub position_none : (p : ℕ → Bool) (xs : List ℕ) → position p xs ≡ None → list_all (λ x. not (p x)) xs ≡ true
position_none p xs h =
    full_prefix (λ x. not (p x)) xs (ltb-false _ _ (no_some (ltb (position_or_len p xs) (length xs)) (position_or_len p xs) h))

pub all_ascii : (xs : List ℕ) → list_all (λ b. not (ltb 127 b)) xs ≡ true → IsAscii xs
all_ascii [] h = IsAscii-nil
all_ascii (x ∷ xs) h =
    let s = and_parts (not (ltb 127 x)) (list_all (λ b. not (ltb 127 b)) xs) h in
    let small : x < 128 = grind (arith, nat_tests, s.0) in
    IsAscii-cons x xs small (all_ascii xs s.1)

high_not_ascii : (xs : List ℕ) (at : ℕ) → position (nat_lt 127) xs ≡ Some at → IsAscii xs → ⊥
high_not_ascii xs at h a =
    let s = position-Some (nat_lt 127) xs at 0 h in
    let small = a at in
    let high : 127 < get_or xs at 0 = ltb-true _ _ s.1 in
    absurd (omega (arith, small, high))

-- ---- ASCII

ascii_is : (w x : List ℕ) → ascii_of w ≡ Ok x → IsAscii x × (w ≡ x)
ascii_is w x h = is (position (nat_lt 127) w) refl h
  where
    is : (o : Option ℕ) → position (nat_lt 127) w ≡ o → ascii_or_fault w o ≡ Ok x → IsAscii x × (w ≡ x)
    is None e h =
        let same : w ≡ x = cc in
        (subst IsAscii same (all_ascii w (position_none (nat_lt 127) w e)), same)
    is (Some at) e h = absurd cc

pub ascii_told_is : (w x : List ℕ) → ascii_told w ≡ Some x → IsAscii x × (w ≡ x)
ascii_told_is w x h = ascii_is w x (found (ascii_of w) x h)

pub ascii_back : (w : List ℕ) → IsAscii w → ascii_told w ≡ Some w
ascii_back w a = ap result_ok (back (position (nat_lt 127) w) refl)
  where
    back : (o : Option ℕ) → position (nat_lt 127) w ≡ o → ascii_or_fault w o ≡ Ok w
    back None e = refl
    back (Some at) e = absurd (high_not_ascii w at e a)

pub ascii_bytes : (w : List ℕ) → IsAscii w → AreBytes w
ascii_bytes w a k = omega (arith, a k)

-- ---- texts of one field

pub number_field : TextLaws → IsField number_of decimal IsNumber Always
number_field l = record { spelled = l.numbers_spelled; reads = λ n v b. l.numbers_read n v; token = λ n v b. token_no_space (decimal n) (l.number_tokens n v) }

pub int32_field : TextLaws → IsField int32_of signed_decimal (λ z. FitsSigned w32 z) Always
int32_field l = record { spelled = l.int32s_spelled; reads = λ z v b. l.int32s_read z v; token = λ z v b. token_no_space (signed_decimal z) (l.int32_tokens z v) }

pub address_field : TextLaws → IsField address_told address_text IsAddress Always
address_field l = record {
  spelled = λ t x h. l.addresses_spelled t x (found (address_of t) x h);
  reads = λ x v b. ap result_ok (l.addresses_read x v);
  token = λ x v b. token_no_space (address_text x) (l.address_tokens x v);
}

pub word_field : TextLaws → IsField word_told word_text Always AreBytes
word_field l = record {
  spelled = λ t x h. (tt, l.words_spelled t x (found (word_of t) x h));
  reads = λ x v b. ap result_ok (l.words_read x b);
  token = λ x v b. token_no_space (word_text x) (l.word_tokens x b);
}

pub hex_field : TextLaws → IsField hex_told hex_text Always AreBytes
hex_field l = record {
  spelled = λ t x h. (tt, l.hex_spelled t x (found (hex_of t) x h));
  reads = λ x v b. ap result_ok (l.hex_read x b);
  token = λ x v b. token_no_space (hex_text x) (l.hex_tokens x b);
}

-- ---- fields that are tested further

-- a value that is kept where a test lets it pass
pub kept_field : {X : Type 0} (told : List ℕ → Option X) (text : X → List ℕ) (Valid HasBytes : X → Type 0) (test : X → Option X) (Good : X → Type 0)
    → IsField told text Valid HasBytes
    → ((x y : X) → test x ≡ Some y → Valid x → Good x × (x ≡ y))
    → ((x : X) → Good x → Valid x × (test x ≡ Some x))
    → IsField (λ t. told t >>= test) text Good HasBytes
kept_field {X} told text Valid HasBytes test Good f good passes = record {
  spelled = spelled;
  reads = λ x v b. ap (λ o. o >>= test) (f.reads x (passes x v).0 b) ∙ (passes x v).1;
  token = λ x v b. f.token x (passes x v).0 b;
}
  where
    spelled : (t : List ℕ) (x : X) → (told t >>= test) ≡ Some x → Good x × (t ≡ text x)
    spelled t x h =
        let s = steps (told t) test x h in
        let r = f.spelled t s.value s.first in
        let g = good s.value x s.then_ r.0 in
        (subst Good g.1 g.0, r.1 ∙ ap text g.1)

-- a value that a test lets pass where it is true
pub when_true : {X : Type 0} (b : Bool) (x y : X) → cond b (Some x) None ≡ Some y → (b ≡ true) × (x ≡ y)
when_true true x y h = (refl, some_is x y h)
when_true false x y h = absurd cc

-- or where it is false
when_false : {X : Type 0} (b : Bool) (x y : X) → cond b None (Some x) ≡ Some y → (b ≡ false) × (x ≡ y)
when_false true x y h = absurd cc
when_false false x y h = (refl, some_is x y h)

pub short_is : (most : ℕ) (x y : List ℕ) → no_longer most x ≡ Some y → (length x ≤ most) × (x ≡ y)
short_is most x y h =
    let s = when_false (ltb most (length x)) x y h in
    (ltb-false _ _ s.0, s.1)

pub short_back : (most : ℕ) (x : List ℕ) → length x ≤ most → no_longer most x ≡ Some x
short_back most x h = rw (le-ltb most (length x) h) refl

pub manifest_field : TextLaws → IsField manifest_told word_text IsManifest AreBytes
manifest_field l = kept_field word_told word_text Always AreBytes (no_longer most_name) IsManifest (word_field l)
    (λ x y h v. short_is most_name x y h) (λ x v. (tt, short_back most_name x v))

pub payload_field : TextLaws → IsField payload_told hex_text IsPayload AreBytes
payload_field l = kept_field hex_told hex_text Always AreBytes (no_longer most_payload) IsPayload (hex_field l)
    (λ x y h v. short_is most_payload x y h) (λ x v. (tt, short_back most_payload x v))

pub name_field : TextLaws → IsField name_told word_text IsName Always
name_field l = record {
  spelled = spelled;
  reads = λ x v b. ap (λ o. o >>= ascii_told) ((manifest_field l).reads x v.1 (ascii_bytes x v.0)) ∙ ascii_back x v.0;
  token = λ x v b. token_no_space (word_text x) (l.word_tokens x (ascii_bytes x v.0));
}
  where
    spelled : (t x : List ℕ) → name_told t ≡ Some x → IsName x × (t ≡ word_text x)
    spelled t x h =
        let s = steps (manifest_told t) ascii_told x h in
        let m = (manifest_field l).spelled t s.value s.first in
        let a = ascii_told_is s.value x s.then_ in
        ((a.0, subst IsManifest a.1 m.0), m.1 ∙ ap word_text a.1)

pub ordinary_field : TextLaws → IsField ordinary_told signed_decimal IsOrdinary Always
ordinary_field l = kept_field int32_of signed_decimal (λ z. FitsSigned w32 z) Always not_control IsOrdinary (int32_field l)
    (λ x y h v. let s = when_false (int_eq x control_serializer) x y h in ((v, s.0), s.1))
    (λ x v. (v.0, ap (λ b. cond b None (Some x)) v.1))

pub moment_field : TextLaws → IsField moment_told decimal IsMoment Always
moment_field l = kept_field number_of decimal IsNumber Always as_moment IsMoment (number_field l)
    (λ x y h v. let s = when_true (ltb x moment_end) x y h in (ltb-true _ _ s.0, s.1))
    (λ x v. (omega (arith, v), ap (λ b. cond b (Some x) None) (lt-ltb x moment_end v)))

not_zero : (x : ℕ) → eqb x 0 ≡ false → 1 ≤ x
not_zero x h = grind (arith, nat_tests, h)

some_zero : (x : ℕ) → 1 ≤ x → eqb x 0 ≡ false
some_zero x h = grind (arith, nat_tests, h)

pub count_field : TextLaws → IsField count_told decimal IsCount Always
count_field l = kept_field number_of decimal IsNumber Always as_count IsCount (number_field l)
    (λ x y h v. let s = when_false (eqb x 0) x y h in ((not_zero x s.0, v), s.1))
    (λ x v. (v.1, ap (λ b. cond b None (Some x)) (some_zero x v.0)))

rounds_are : (n : ℕ) → is_in_range 1 1000 n ≡ true → (1 ≤ n) × (n ≤ 1000)
rounds_are n h = (grind (arith, nat_tests), grind (arith, nat_tests))

in_range : (n : ℕ) → 1 ≤ n → n ≤ 1000 → is_in_range 1 1000 n ≡ true
in_range n a b = grind (arith, nat_tests)

pub rounds_field : TextLaws → IsField rounds_told decimal IsRounds Always
rounds_field l = kept_field number_of decimal IsNumber Always as_rounds IsRounds (number_field l)
    (λ x y h v. let s = when_true (is_in_range 1 most_rounds x) x y h in (rounds_are x s.0, s.1))
    (λ x v. (omega (arith, v.1), ap (λ b. cond b (Some x) None) (in_range x v.0 v.1)))

all_none : number_of (codes "all") ≡ None
all_none = refl

-- a number is not spelled `all`
not_all : (t : List ℕ) (n : ℕ) → number_of t ≡ Some n → bytes_eq t (codes "all") ≡ false
not_all t n h = is (bytes_eq t (codes "all")) refl
  where
    is : (b : Bool) → bytes_eq t (codes "all") ≡ b → b ≡ false
    is false e = refl
    is true e =
        let none : None ≡ Some n = sym all_none ∙ ap number_of (sym (word_is t (codes "all") e)) ∙ h in
        absurd cc

pub dials_field : TextLaws → IsField dials_told dials_text IsDials Always
dials_field l = record { spelled = spelled; reads = reads; token = token }
  where
    number : (t : List ℕ) (x : Option ℕ) → (number_of t >>= λ n. Some (Some n)) ≡ Some x → IsDials x × (t ≡ dials_text x)
    number t x h =
        let s = steps (number_of t) (λ n. Some (Some n)) x h in
        let z = l.numbers_spelled t s.value s.first in
        subst (λ (x : Option ℕ). IsDials x × (t ≡ dials_text x)) (some_is (Some s.value) x s.then_) (z.0, z.1)

    spelled : (t : List ℕ) (x : Option ℕ) → dials_told t ≡ Some x → IsDials x × (t ≡ dials_text x)
    spelled t x h = word_row t (codes "all") None x (number_of t >>= λ n. Some (Some n)) (λ x. IsDials x × (t ≡ dials_text x)) h (λ e. (tt, e)) (number t x)

    reads : (x : Option ℕ) → IsDials x → Always x → dials_told (dials_text x) ≡ Some x
    reads None v b = refl
    reads (Some n) v b =
        let back : number_of (decimal n) ≡ Some n = l.numbers_read n v in
        rw (not_all (decimal n) n back, back) refl

    token : (x : Option ℕ) → IsDials x → Always x → NoSpace (dials_text x)
    token None v b = refl
    token (Some n) v b = token_no_space (decimal n) (l.number_tokens n v)

-- ---- paths of actors

pub all_weaker : (p q : ℕ → Bool) → ((b : ℕ) → p b ≡ true → q b ≡ true) → (xs : List ℕ) → list_all p xs ≡ true → list_all q xs ≡ true
all_weaker p q w [] h = refl
all_weaker p q w (x ∷ xs) h =
    let s = and_parts (p x) (list_all p xs) h in
    rw (w x s.0, all_weaker p q w xs s.1) refl

plain_low : (b : ℕ) → is_plain b ≡ true → not (ltb 127 b) ≡ true
plain_low b h = grind (arith, nat_tests)

plain_no_space : (b : ℕ) → is_plain b ≡ true → not (is_space b) ≡ true
plain_no_space b h = grind (arith, nat_tests)

path_plain : (path : List ℕ) → is_actor_path path ≡ true → list_all is_plain path ≡ true
path_plain path h =
    let s = and_parts _ (list_all is_plain path) h in
    s.1

pub path_ascii : (path : List ℕ) → is_actor_path path ≡ true → IsAscii path
path_ascii path h = all_ascii path (all_weaker is_plain (λ b. not (ltb 127 b)) plain_low path (path_plain path h))

pub path_no_space : (path : List ℕ) → is_actor_path path ≡ true → NoSpace path
path_no_space path h = all_weaker is_plain (λ b. not (is_space b)) plain_no_space path (path_plain path h)

pub cond_some : {X : Type 0} (b : Bool) (o : Option X) (x : X) → cond b o None ≡ Some x → (b ≡ true) × (o ≡ Some x)
cond_some true o x h = (refl, h)
cond_some false o x h = absurd cc

pub actor_path_field : IsField actor_path_told (λ path. path) (λ path. IsTrue (is_actor_path path)) Always
actor_path_field = record {
  spelled = spelled;
  reads = λ path v b. ap (λ c. cond c (ascii_told path) None) v ∙ ascii_back path (path_ascii path v);
  token = λ path v b. path_no_space path v;
}
  where
    spelled : (t x : List ℕ) → actor_path_told t ≡ Some x → IsTrue (is_actor_path x) × (t ≡ x)
    spelled t x h =
        let s = cond_some (is_actor_path t) (ascii_told t) x h in
        let a = ascii_told_is t x s.1 in
        (subst (λ (xs : List ℕ). IsTrue (is_actor_path xs)) a.1 s.0, a.1)

pub path_field : IsField path_told (λ path. path) IsPath Always
path_field = kept_field actor_path_told (λ path. path) (λ path. IsTrue (is_actor_path path)) Always (no_longer most_path) IsPath actor_path_field
    (λ x y h v. let s = short_is most_path x y h in ((v, s.0), s.1)) (λ x v. (v.0, short_back most_path x v.1))
