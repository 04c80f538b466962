-- An address reads as the value whose spelling it is, and as no other.
use Rattle.std.proofs.Common.{◌≡◌, ℕ, suc, ◌+◌, ◌≤◌, Bool, true, false, not, cond, eqb, List, [], ◌∷◌, ◌++◌, length, get_or, take, drop, Option, Some, None, Result, Ok, Err, refl, sym, ap, ◌∙◌, arith, append_assoc, subst}
use Rattle.std.specs.Prelude.{codes, decimal, position, nat_eq, IfOk}
use Rattle.std.specs.List.{list_all, starts_with}
use Rattle.std.specs.Int.{is_in_range}
use Rattle.std.specs.Char.{is_ascii_digit}
use Rattle.std.specs.Option.{option_or}
use Rattle.std.proofs.lemmas.Bool.{and_parts, eqb-true}
use Rattle.std.proofs.lemmas.Bool.Decides.{nat_tests}
use Rattle.std.proofs.lemmas.List.{length-append, take-append-drop, take_at, drop_at}
use Rattle.std.proofs.lemmas.List.Quantifiers.{position-Some}
use Rattle.artery_base.specs.declared.address.Address.{Address}
use Rattle.artery_base.specs.declared.address.UniqueAddress.{UniqueAddress}
use Rattle.artery_text.specs.declared.fault.AddressFault.{AddressFault}
use Rattle.artery_text.specs.declared.fault.AddressFault.TheVariants as address_faults
use Rattle.artery_text.specs.Spelling.{is_part_byte, IsPart, IsAddress, address_text, IsUniqueAddress, unique_text}
use Rattle.artery_text.specs.Reading.{later, scheme_end, cut, Parts, parts_of, bad_length, bad_byte, bad_char, port_number, number_of, with_port, after_chars, after_lengths, address_in, address_of, last_hash, with_uid, split_uid, unique_of, Gives, address_memory, ◌>>=◌}
use Rattle.artery_text.proofs.Decimals.{number_of-decimal, number_of-Some, decimal_digits}
use Rattle.artery_text.proofs.Places.{position_at, none_position, all_weaker}
use Rattle.artery_text.proofs.AddressParts.{whole_drop, starts_is, chars_good, scheme_next, scheme_here}

bind_ok : {A B : Type 0} (r : Result A AddressFault) (f : A → Result B AddressFault) (y : B) → (r >>= f) ≡ Ok y → (x : A) × (r ≡ Ok x) × (f x ≡ Ok y)
bind_ok (Ok x) f y e = (x, refl, e)
bind_ok (Err d) f y e = absurd cc

abbrev done : {A : Type 0} → A → Result A AddressFault
done x = Ok x

ok_is : {A : Type 0} (x y : A) → done x ≡ done y → x ≡ y
ok_is x y e = cc

-- ---- from a text to its value

record Cut (len : ℕ) (text : List ℕ) (o : Option ℕ) (p : List ℕ × List ℕ) : Type 0 where
  at : ℕ
  found : o ≡ Some at
  before : take at text ≡ p.0
  after : drop (at + len) text ≡ p.1

cut_ok : (len : ℕ) (fault : AddressFault) (text : List ℕ) (o : Option ℕ) (p : List ℕ × List ℕ) → cut len fault text o ≡ Ok p → Cut len text o p
cut_ok len fault text None p h = absurd cc
cut_ok len fault text (Some at) p h =
    let e = ok_is (take at text, drop (at + len) text) p h in
    record { at = at; found = refl; before = ap (λ (q : List ℕ × List ℕ). q.0) e; after = ap (λ (q : List ℕ × List ℕ). q.1) e }

mark_cut : (m : ℕ) (text : List ℕ) (p : List ℕ × List ℕ) → Cut 1 text (position (λ b. eqb b m) text) p → text ≡ p.0 ++ m ∷ p.1
mark_cut m text p c =
    let s = position-Some (λ b. eqb b m) text c.at 0 c.found in
    let same : get_or text c.at 0 ≡ m = eqb-true (get_or text c.at 0) m s.1 in
    sym (take-append-drop c.at text) ∙ ap (λ (xs : List ℕ). take c.at text ++ xs) (whole_drop text c.at s.0)
    ∙ ap (λ (k : ℕ). take c.at text ++ k ∷ drop (c.at + 1) text) same
    ∙ ap (λ (xs : List ℕ). xs ++ m ∷ drop (c.at + 1) text) c.before ∙ ap (λ (xs : List ℕ). p.0 ++ m ∷ xs) c.after

later_some : (o : Option ℕ) (n : ℕ) → later 1 o ≡ Some n → (k : ℕ) × (o ≡ Some k) × (n ≡ k + 1)
later_some None n h = absurd cc
later_some (Some k) n h = (k, refl, cc)

some_is : (m n : ℕ) → Some m ≡ Some n → m ≡ n
some_is m n h = cc

scheme_front : (text : List ℕ) → codes "://" ≡ take 3 text → text ≡ codes "://" ++ drop 3 text
scheme_front text h = sym (take-append-drop 3 text) ∙ ap (λ (xs : List ℕ). xs ++ drop 3 text) (sym h)

shifted : (b : ℕ) (rest : List ℕ) (k n : ℕ) → n ≡ k + 1 → rest ≡ take k rest ++ (codes "://" ++ drop (k + 3) rest) → b ∷ rest ≡ take n (b ∷ rest) ++ (codes "://" ++ drop (n + 3) (b ∷ rest))
shifted b rest k n e ih =
    let e1 : n ≡ suc k = omega arith in
    let e2 : n + 3 ≡ suc (k + 3) = omega arith in
    rw (e2, e1) (ap (λ (xs : List ℕ). b ∷ xs) ih)

scheme_at : (b : ℕ) (rest : List ℕ) (n : ℕ) (t : Bool) → starts_with nat_eq (b ∷ rest) (codes "://") ≡ t
    → ((k : ℕ) → scheme_end rest ≡ Some k → rest ≡ take k rest ++ (codes "://" ++ drop (k + 3) rest))
    → scheme_end (b ∷ rest) ≡ Some n → b ∷ rest ≡ take n (b ∷ rest) ++ (codes "://" ++ drop (n + 3) (b ∷ rest))
scheme_at b rest n true t ih h =
    let z : 0 ≡ n = some_is 0 n (sym (scheme_here b rest t) ∙ h) in
    subst (λ (k : ℕ). b ∷ rest ≡ take k (b ∷ rest) ++ (codes "://" ++ drop (k + 3) (b ∷ rest))) z (scheme_front (b ∷ rest) (starts_is (b ∷ rest) t))
scheme_at b rest n false t ih h =
    let l = later_some (scheme_end rest) n (sym (scheme_next b rest t) ∙ h) in
    shifted b rest l.0 n l.2 (ih l.0 l.1)

scheme_is : (text : List ℕ) (n : ℕ) → scheme_end text ≡ Some n → text ≡ take n text ++ (codes "://" ++ drop (n + 3) text)
scheme_is [] n h = absurd cc
scheme_is (b ∷ rest) n h = scheme_at b rest n (starts_with nat_eq (b ∷ rest) (codes "://")) refl (scheme_is rest) h

scheme_cut : (text : List ℕ) (p : List ℕ × List ℕ) → Cut 3 text (scheme_end text) p → text ≡ p.0 ++ (codes "://" ++ p.1)
scheme_cut text p c =
    scheme_is text c.at c.found ∙ ap (λ (xs : List ℕ). xs ++ (codes "://" ++ drop (c.at + 3) text)) c.before ∙ ap (λ (xs : List ℕ). p.0 ++ (codes "://" ++ xs)) c.after

abbrev joined : Parts → List ℕ
joined p = p.protocol ++ (codes "://" ++ (p.system ++ 64 ∷ (p.host ++ 58 ∷ p.port)))

parts_joined : (text : List ℕ) (p : Parts) → parts_of text ≡ Ok p → text ≡ joined p
parts_joined text p h =
    let a = bind_ok (cut 3 address_faults.NoScheme text (scheme_end text)) _ p h in
    let b = bind_ok (cut 1 address_faults.NoAt a.0.1 (position (λ b. eqb b 64) a.0.1)) _ p a.2 in
    let c = bind_ok (cut 1 address_faults.NoPort b.0.1 (position (λ b. eqb b 58) b.0.1)) (λ host. Ok (record { protocol = a.0.0; system = b.0.0; host = host.0; port = host.1 })) p b.2 in
    let first = scheme_cut text a.0 (cut_ok 3 address_faults.NoScheme text (scheme_end text) a.0 a.1) in
    let second = mark_cut 64 a.0.1 b.0 (cut_ok 1 address_faults.NoAt a.0.1 (position (λ b. eqb b 64) a.0.1) b.0 b.1) in
    let third = mark_cut 58 b.0.1 c.0 (cut_ok 1 address_faults.NoPort b.0.1 (position (λ b. eqb b 58) b.0.1) c.0 c.1) in
    first ∙ ap (λ (xs : List ℕ). a.0.0 ++ (codes "://" ++ xs)) (second ∙ ap (λ (xs : List ℕ). b.0.0 ++ 64 ∷ xs) third)
    ∙ ap joined (ok_is _ p c.2)

lengths_ok : (p : Parts) (a : Address) (o : Option AddressFault) → after_lengths p o ≡ Ok a → (o ≡ None) × (after_chars p (bad_char p) ≡ Ok a)
lengths_ok p a None h = (refl, h)
lengths_ok p a (Some f) h = absurd cc

chars_ok : (p : Parts) (a : Address) (o : Option ℕ) → after_chars p o ≡ Ok a → (o ≡ None) × (with_port p (port_number (number_of p.port)) ≡ Ok a)
chars_ok p a None h = (refl, h)
chars_ok p a (Some at) h = absurd cc

abbrev made : Parts → ℕ → Address
made p n = record { protocol = p.protocol; system = p.system; host = p.host; port = n }

port_ok : (p : Parts) (a : Address) (o : Option ℕ) → with_port p o ≡ Ok a → (n : ℕ) × (o ≡ Some n) × (made p n ≡ a)
port_ok p a None h = absurd cc
port_ok p a (Some n) h = (n, refl, ok_is (made p n) a h)

range_ok : (n m : ℕ) (t : Bool) → cond t (Some n) None ≡ Some m → (t ≡ true) × (n ≡ m)
range_ok n m true h = (refl, some_is n m h)
range_ok n m false h = absurd cc

number_ok : (o : Option ℕ) (n : ℕ) → port_number o ≡ Some n → (o ≡ Some n) × (1 ≤ n) × (n ≤ 65535)
number_ok None n h = absurd cc
number_ok (Some m) n h =
    let r = range_ok m n (is_in_range 1 65535 m) h in
    let low : 1 ≤ m = grind (arith, nat_tests, r.0) in
    let high : m ≤ 65535 = grind (arith, nat_tests, r.0) in
    (ap (λ (k : ℕ). Some k) r.1, omega (arith, r.1), omega (arith, r.1))

length_ok : (t : Bool) (f : AddressFault) (o : Option AddressFault) → cond (not t) (Some f) o ≡ None → (t ≡ true) × (o ≡ None)
length_ok true f o h = (refl, h)
length_ok false f o h = absurd cc

part_ok : (xs : List ℕ) → is_in_range 1 255 (length xs) ≡ true → list_all is_part_byte xs ≡ true → IsPart xs
part_ok xs h g = record { some = grind (arith, nat_tests, h); short = grind (arith, nat_tests, h); made_of = g }

pub text_regrouped : (a : Address) → a.protocol ++ (codes "://" ++ (a.system ++ 64 ∷ (a.host ++ 58 ∷ decimal a.port))) ≡ address_text a
text_regrouped a = simp append_assoc

made_ok : (p : Parts) (n : ℕ) → bad_length p ≡ None → bad_char p ≡ None → number_of p.port ≡ Some n → 1 ≤ n → n ≤ 65535 → IsAddress (made p n) × (joined p ≡ address_text (made p n))
made_ok p n lengths chars port low high =
    let a = length_ok (is_in_range 1 255 (length p.protocol)) _ _ lengths in
    let b = length_ok (is_in_range 1 255 (length p.system)) _ _ a.1 in
    let c = length_ok (is_in_range 1 255 (length p.host)) _ _ b.1 in
    let g = chars_good p chars in
    let digits : p.port ≡ decimal n = (number_of-Some p.port n port).1 in (
      record { protocol = part_ok p.protocol a.0 g.0; system = part_ok p.system b.0 g.1; host = part_ok p.host c.0 g.2; port = (low, high) },
      ap (λ (xs : List ℕ). p.protocol ++ (codes "://" ++ (p.system ++ 64 ∷ (p.host ++ 58 ∷ xs)))) digits ∙ text_regrouped (made p n),
    )

pub address_of-Ok : (text : List ℕ) (a : Address) → address_of text ≡ Ok a → IsAddress a × (text ≡ address_text a)
address_of-Ok text a h =
    let b = bind_ok (parts_of text) address_in a h in
    let p = b.0 in
    let l = lengths_ok p a (bad_length p) b.2 in
    let c = chars_ok p a (bad_char p) l.1 in
    let w = port_ok p a (port_number (number_of p.port)) c.1 in
    let n = number_ok (number_of p.port) w.0 w.1 in
    let m = made_ok p w.0 l.0 c.0 n.0 n.1 n.2 in
    subst (λ (v : Address). IsAddress v × (text ≡ address_text v)) w.2 (m.0, parts_joined text p b.1 ∙ m.1)

pub address_found : (text : List ℕ) (result : Result Address AddressFault) → Gives address_memory result (address_of text) → IfOk result (λ a. IsAddress a × (text ≡ address_text a))
address_found text (Ok a) h = address_of-Ok text a h
address_found text (Err e) h = tt

-- ---- from a value to its text

not_when : (t : Bool) → (t ≡ true → ⊥) → not t ≡ true
not_when true h = absurd (h refl)
not_when false h = refl

true_false : (t : Bool) → t ≡ true → t ≡ false → ⊥
true_false t h e = absurd cc

no_mark : (m : ℕ) → is_part_byte m ≡ false → (b : ℕ) → is_part_byte b ≡ true → not (eqb b m) ≡ true
no_mark m h b g = not_when (eqb b m) (λ t. true_false (is_part_byte b) g (ap is_part_byte (eqb-true b m t) ∙ h))

colon_not : (x : ℕ) → is_part_byte x ≡ true → eqb 58 x ≡ false
colon_not x h = grind (arith, nat_tests)

scheme_not : (x : ℕ) (rest : List ℕ) → is_part_byte x ≡ true → starts_with nat_eq (x ∷ rest) (codes "://") ≡ false
scheme_not x rest h = rw (colon_not x h) refl

scheme_there : (xs ys : List ℕ) → list_all is_part_byte xs ≡ true → scheme_end (xs ++ (codes "://" ++ ys)) ≡ Some (length xs)
scheme_there [] ys h = refl
scheme_there (x ∷ xs) ys h =
    let s = and_parts (is_part_byte x) (list_all is_part_byte xs) h in
    let e : length xs + 1 ≡ suc (length xs) = omega arith in
    scheme_next x (xs ++ (codes "://" ++ ys)) (scheme_not x (xs ++ (codes "://" ++ ys)) s.0) ∙ ap (later 1) (scheme_there xs ys s.1) ∙ ap (λ (k : ℕ). Some k) e

cut_there : (len : ℕ) (fault : AddressFault) (xs mark ys : List ℕ) → length mark ≡ len → cut len fault (xs ++ (mark ++ ys)) (Some (length xs)) ≡ Ok (xs, ys)
cut_there len fault xs mark ys h =
    let front : take (length xs) (xs ++ (mark ++ ys)) ≡ xs = take_at xs (mark ++ ys) (length xs) refl in
    let long : length (xs ++ mark) ≡ length xs + len = omega (arith, length-append xs mark, h) in
    let back : drop (length xs + len) (xs ++ (mark ++ ys)) ≡ ys = ap (drop (length xs + len)) (sym (append_assoc xs mark ys)) ∙ drop_at (xs ++ mark) ys (length xs + len) long in
    rw (front, back) refl

bind_go : {A B : Type 0} (r : Result A AddressFault) (x : A) (f : A → Result B AddressFault) → r ≡ Ok x → (r >>= f) ≡ f x
bind_go {A = A} r x f h = ap (λ (s : Result A AddressFault). s >>= f) h

mark_there : (m : ℕ) (fault : AddressFault) (xs ys : List ℕ) → is_part_byte m ≡ false → eqb m m ≡ true → list_all is_part_byte xs ≡ true
    → cut 1 fault (xs ++ m ∷ ys) (position (λ b. eqb b m) (xs ++ m ∷ ys)) ≡ Ok (xs, ys)
mark_there m fault xs ys h e g =
    let at = position_at (λ b. eqb b m) xs m ys (all_weaker is_part_byte (λ b. not (eqb b m)) (no_mark m h) xs g) e in
    ap (cut 1 fault (xs ++ m ∷ ys)) at ∙ cut_there 1 fault xs (m ∷ []) ys refl

parts_again : (p : Parts) → list_all is_part_byte p.protocol ≡ true → list_all is_part_byte p.system ≡ true → list_all is_part_byte p.host ≡ true → parts_of (joined p) ≡ Ok p
parts_again p g0 g1 g2 =
    let rest1 = p.system ++ 64 ∷ (p.host ++ 58 ∷ p.port) in
    let rest2 = p.host ++ 58 ∷ p.port in
    let c1 : cut 3 address_faults.NoScheme (joined p) (scheme_end (joined p)) ≡ Ok (p.protocol, rest1) = ap (cut 3 address_faults.NoScheme (joined p)) (scheme_there p.protocol rest1 g0) ∙ cut_there 3 address_faults.NoScheme p.protocol (codes "://") rest1 refl in
    let c2 = mark_there 64 address_faults.NoAt p.system rest2 refl refl g1 in
    let c3 = mark_there 58 address_faults.NoPort p.host p.port refl refl g2 in
    bind_go (cut 3 address_faults.NoScheme (joined p) (scheme_end (joined p))) (p.protocol, rest1) _ c1
    ∙ bind_go (cut 1 address_faults.NoAt rest1 (position (λ b. eqb b 64) rest1)) (p.system, rest2) _ c2
    ∙ bind_go (cut 1 address_faults.NoPort rest2 (position (λ b. eqb b 58) rest2)) (p.host, p.port) (λ host. Ok (record { protocol = p.protocol; system = p.system; host = host.0; port = host.1 })) c3

in_range : (low high n : ℕ) → low ≤ n → n ≤ high → is_in_range low high n ≡ true
in_range low high n h e = grind (arith, nat_tests)

good_bytes : (from : ℕ) (part : List ℕ) → list_all is_part_byte part ≡ true → bad_byte from part ≡ None
good_bytes from part h = ap (later from) (none_position (λ b. not (is_part_byte b)) part (all_weaker is_part_byte (λ b. not (not (is_part_byte b))) (λ b e. rw e refl) part h))

address_in-made : (p : Parts) (n : ℕ) → IsAddress (made p n) → p.port ≡ decimal n → address_in p ≡ Ok (made p n)
address_in-made p n v digits =
    let l0 = in_range 1 255 (length p.protocol) v.protocol.some v.protocol.short in
    let l1 = in_range 1 255 (length p.system) v.system.some v.system.short in
    let l2 = in_range 1 255 (length p.host) v.host.some v.host.short in
    let lengths : bad_length p ≡ None = rw (l0, l1, l2) refl in
    let b0 = good_bytes 0 p.protocol v.protocol.made_of in
    let b1 = good_bytes (length p.protocol + 3) p.system v.system.made_of in
    let b2 = good_bytes (length p.protocol + 3 + length p.system + 1) p.host v.host.made_of in
    let chars : bad_char p ≡ None = rw (b0, b1, b2) refl in
    let port : port_number (number_of p.port) ≡ Some n = ap (λ (xs : List ℕ). port_number (number_of xs)) digits ∙ ap port_number (number_of-decimal n (omega (arith, v.port.1))) ∙ rw (in_range 1 65535 n v.port.0 v.port.1) refl in
    ap (after_lengths p) lengths ∙ ap (after_chars p) chars ∙ ap (with_port p) port

abbrev parts_made : Address → Parts
parts_made a = record { protocol = a.protocol; system = a.system; host = a.host; port = decimal a.port }

pub address_of-address_text : (a : Address) → IsAddress a → address_of (address_text a) ≡ Ok a
address_of-address_text a h =
    let p = parts_made a in
    ap address_of (sym (text_regrouped a))
    ∙ bind_go (parts_of (joined p)) p address_in (parts_again p h.protocol.made_of h.system.made_of h.host.made_of)
    ∙ address_in-made p a.port h refl

pub address_again : (text : List ℕ) (a : Address) (result : Result Address AddressFault) → Gives address_memory result (address_of text) → IsAddress a → text ≡ address_text a → Gives address_memory result (Ok a)
address_again text a result h valid e = subst (λ (r : Result Address AddressFault). Gives address_memory result r) (ap address_of e ∙ address_of-address_text a valid) h

-- ---- unique addresses

hash_shifted : (b : ℕ) (rest : List ℕ) (k n : ℕ) → n ≡ k + 1 → rest ≡ take k rest ++ 35 ∷ drop (k + 1) rest → b ∷ rest ≡ take n (b ∷ rest) ++ 35 ∷ drop (n + 1) (b ∷ rest)
hash_shifted b rest k n e ih =
    let e1 : n ≡ suc k = omega arith in
    let e2 : n + 1 ≡ suc (k + 1) = omega arith in
    rw (e2, e1) (ap (λ (xs : List ℕ). b ∷ xs) ih)

hash_first : (b : ℕ) (rest : List ℕ) (n : ℕ) (t : Bool) → eqb b 35 ≡ t → cond t (Some 0) None ≡ Some n → b ∷ rest ≡ take n (b ∷ rest) ++ 35 ∷ drop (n + 1) (b ∷ rest)
hash_first b rest n true t h =
    subst (λ (k : ℕ). b ∷ rest ≡ take k (b ∷ rest) ++ 35 ∷ drop (k + 1) (b ∷ rest)) (some_is 0 n h) (ap (λ (k : ℕ). k ∷ rest) (eqb-true b 35 t))
hash_first b rest n false t h = absurd cc

hash_at : (b : ℕ) (rest : List ℕ) (n : ℕ) (o : Option ℕ) → ((k : ℕ) → o ≡ Some k → rest ≡ take k rest ++ 35 ∷ drop (k + 1) rest)
    → option_or (later 1 o) (cond (eqb b 35) (Some 0) None) ≡ Some n → b ∷ rest ≡ take n (b ∷ rest) ++ 35 ∷ drop (n + 1) (b ∷ rest)
hash_at b rest n None ih h = hash_first b rest n (eqb b 35) refl h
hash_at b rest n (Some k) ih h = hash_shifted b rest k n (sym (some_is (k + 1) n h)) (ih k refl)

hash_is : (text : List ℕ) (n : ℕ) → last_hash text ≡ Some n → text ≡ take n text ++ 35 ∷ drop (n + 1) text
hash_is [] n h = absurd cc
hash_is (b ∷ rest) n h = hash_at b rest n (last_hash rest) (hash_is rest) h

split_ok : (text : List ℕ) (u : UniqueAddress) (o : Option ℕ) → split_uid text o ≡ Ok u → (at : ℕ) × (o ≡ Some at) × (with_uid (take at text) (number_of (drop (at + 1) text)) ≡ Ok u)
split_ok text u None h = absurd cc
split_ok text u (Some at) h = (at, refl, h)

uid_ok : (text : List ℕ) (u : UniqueAddress) (o : Option ℕ) → with_uid text o ≡ Ok u → (n : ℕ) × (o ≡ Some n) × ((address_of text >>= λ a. Ok (record { address = a; uid = n })) ≡ Ok u)
uid_ok text u None h = absurd cc
uid_ok text u (Some n) h = (n, refl, h)

abbrev numbered : Address → ℕ → UniqueAddress
numbered a n = record { address = a; uid = n }

pub unique_of-Ok : (text : List ℕ) (u : UniqueAddress) → unique_of text ≡ Ok u → IsUniqueAddress u × (text ≡ unique_text u)
unique_of-Ok text u h =
    let s = split_ok text u (last_hash text) h in
    let w = uid_ok (take s.0 text) u (number_of (drop (s.0 + 1) text)) s.2 in
    let b = bind_ok (address_of (take s.0 text)) (λ a. Ok (numbered a w.0)) u w.2 in
    let a = address_of-Ok (take s.0 text) b.0 b.1 in
    let d = number_of-Some (drop (s.0 + 1) text) w.0 w.1 in
    let whole : text ≡ unique_text (numbered b.0 w.0) =
    hash_is text s.0 s.1 ∙ ap (λ (xs : List ℕ). xs ++ 35 ∷ drop (s.0 + 1) text) a.1 ∙ ap (λ (xs : List ℕ). address_text b.0 ++ 35 ∷ xs) d.1
    ∙ sym (append_assoc (address_text b.0) (codes "#") (decimal w.0)) in
    subst (λ (v : UniqueAddress). IsUniqueAddress v × (text ≡ unique_text v)) (ok_is (numbered b.0 w.0) u b.2) (record { address = a.0; uid = d.0 }, whole)

hash_none : (ys : List ℕ) → list_all is_ascii_digit ys ≡ true → last_hash ys ≡ None
hash_none [] h = refl
hash_none (y ∷ ys) h =
    let s = and_parts (is_ascii_digit y) (list_all is_ascii_digit ys) h in
    let other : eqb y 35 ≡ false = grind (arith, nat_tests, s.0) in
    rw (hash_none ys s.1, other) refl

hash_there : (xs ys : List ℕ) → last_hash ys ≡ None → last_hash (xs ++ 35 ∷ ys) ≡ Some (length xs)
hash_there [] ys h = rw h refl
hash_there (x ∷ xs) ys h =
    let e : length xs + 1 ≡ suc (length xs) = omega arith in
    rw (hash_there xs ys h) (ap (λ (k : ℕ). Some k) e)

pub unique_of-unique_text : (u : UniqueAddress) → IsUniqueAddress u → unique_of (unique_text u) ≡ Ok u
unique_of-unique_text u h =
    let front = address_text u.address in
    let digits = decimal u.uid in
    let at = hash_there front digits (hash_none digits (decimal_digits u.uid h.uid)) in
    let long : length (front ++ codes "#") ≡ length front + 1 = length-append front (codes "#") in
    let before : take (length front) (front ++ 35 ∷ digits) ≡ front = take_at front (35 ∷ digits) (length front) refl in
    let after : drop (length front + 1) (front ++ 35 ∷ digits) ≡ digits = ap (drop (length front + 1)) (sym (append_assoc front (codes "#") digits)) ∙ drop_at (front ++ codes "#") digits (length front + 1) long in
    ap unique_of (append_assoc front (codes "#") digits)
    ∙ ap (split_uid (front ++ 35 ∷ digits)) at
    ∙ ap (λ (xs : List ℕ). with_uid xs (number_of (drop (length front + 1) (front ++ 35 ∷ digits)))) before
    ∙ ap (λ (xs : List ℕ). with_uid front (number_of xs)) after
    ∙ ap (with_uid front) (number_of-decimal u.uid h.uid)
    ∙ bind_go (address_of front) u.address (λ a. Ok (numbered a u.uid)) (address_of-address_text u.address h.address)

pub unique_found : (text : List ℕ) (result : Result UniqueAddress AddressFault) → Gives address_memory result (unique_of text) → IfOk result (λ u. IsUniqueAddress u × (text ≡ unique_text u))
unique_found text (Ok u) h = unique_of-Ok text u h
unique_found text (Err e) h = tt

pub unique_again : (text : List ℕ) (u : UniqueAddress) (result : Result UniqueAddress AddressFault) → Gives address_memory result (unique_of text) → IsUniqueAddress u → text ≡ unique_text u → Gives address_memory result (Ok u)
unique_again text u result h valid e = subst (λ (r : Result UniqueAddress AddressFault). Gives address_memory result r) (ap unique_of e ∙ unique_of-unique_text u valid) h
