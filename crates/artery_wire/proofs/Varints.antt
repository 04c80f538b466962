-- The varint at the front of bytes: what is read is a varint, and a varint is read.
use Rattle.std.proofs.Common.{◌≡◌, ℕ, zero, suc, ◌+◌, ◌*◌, ◌%◌, ◌^◌, ◌<◌, ◌≤◌, Bool, true, false, cond, ltb, List, [], ◌∷◌, ◌++◌, length, Result, Ok, Err, refl, sym, ap, subst, ◌∙◌, arith, inl, inr}
use Rattle.std.specs.Prelude.{◌⊎◌}
use Rattle.std.proofs.Math.Nat.{mod-add-mod}
use Rattle.std.proofs.lemmas.Nat.{mul-mod_first}
use Rattle.std.proofs.lemmas.Bool.{ltb-true, ltb-false, lt-ltb, le-ltb}
use Rattle.artery_base.specs.Words.{◌>>=◌}
use Rattle.artery_wire.specs.declared.fault.FaultKind.{FaultKind}
use Rattle.artery_wire.specs.declared.fault.FaultKind.TheVariants as kinds
use Rattle.artery_wire.specs.Record.{Continues, digits_sum, IsVarint}
use Rattle.artery_wire.specs.FirstFault.{AllContinue, IsLong, VarintFault}
use Rattle.artery_wire.specs.Reading.{with_low, digits_at, varint_at}

-- the value of a step that did not fail
pub bind_ok : {A B : Type 0} (r : Result A FaultKind) (f : A → Result B FaultKind) (y : B) → (r >>= f) ≡ Ok y → (x : A) × (r ≡ Ok x) × (f x ≡ Ok y)
bind_ok (Ok x) f y e = (x, refl, e)
bind_ok (Err d) f y e = absurd cc

-- where a step failed
pub bind_err : {A B : Type 0} (r : Result A FaultKind) (f : A → Result B FaultKind) (k : FaultKind) → (r >>= f) ≡ Err k → (r ≡ Err k) ⊎ ((x : A) × (r ≡ Ok x) × (f x ≡ Err k))
bind_err (Ok x) f k e = inr (x, refl, e)
bind_err (Err d) f k e = inl cc

pub chosen : {A : Type 0} (b : Bool) (x y z : A) → cond b x y ≡ z → ((b ≡ true) × (x ≡ z)) ⊎ ((b ≡ false) × (y ≡ z))
chosen true x y z e = inl (refl, e)
chosen false x y z e = inr (refl, e)

abbrev done : {A : Type 0} → A → Result A FaultKind
done x = Ok x

pub ok_is : {A : Type 0} (x y : A) → done x ≡ done y → x ≡ y
ok_is x y e = cc

-- ---- what is read is a varint

-- a varint of at most so many bytes at the front
pub record Digits (left : ℕ) (bytes : List ℕ) (n : ℕ) (rest : List ℕ) : Type 0 where
  pub front : List ℕ
  pub parts : bytes ≡ front ++ rest
  pub continues : Continues front
  pub short : length front ≤ left
  pub value : n ≡ digits_sum front % 2 ^ 64

continues_more : (b : ℕ) (bs : List ℕ) → 128 ≤ b → Continues bs → Continues (b ∷ bs)
continues_more b [] h c = absurd c
continues_more b (x ∷ bs) h c = (h, c)

low_is : (low sum : ℕ) → with_low low (sum % 2 ^ 64) ≡ (low + 128 * sum) % 2 ^ 64
low_is low sum =
    ap (λ (n : ℕ). (n + low) % 2 ^ 64) (mul-mod_first sum 128 (2 ^ 64))
    ∙ mod-add-mod (sum * 128) (2 ^ 64) low
    ∙ ap (λ (n : ℕ). n % 2 ^ 64) (omega arith)

pub digits_takes : (left : ℕ) (bytes : List ℕ) (n : ℕ) (rest : List ℕ) → digits_at left bytes ≡ Ok (n, rest) → Digits left bytes n rest
unfolding digits_at
digits_takes zero bytes n rest e = absurd cc
digits_takes (suc left) [] n rest e = absurd cc
digits_takes (suc left) (b ∷ bs) n rest e =
    elim (chosen (ltb b 128) (Ok (b, bs)) (digits_at left bs >>= λ high. Ok (with_low (b % 128) high.0, high.1)) (Ok (n, rest)) e) [
      | inl last ↦
          let small : b < 128 = ltb-true b 128 last.0 in
          let same = ok_is (b, bs) (n, rest) last.1 in
          let n-is : b ≡ n = ap (λ (p : ℕ × List ℕ). p.0) same in
          let rest-is : bs ≡ rest = ap (λ (p : ℕ × List ℕ). p.1) same in
          record { front = b ∷ []; parts = ap (λ (t : List ℕ). b ∷ t) rest-is; continues = small; short = omega arith; value = omega arith }
      | inr more ↦
          let big : 128 ≤ b = ltb-false b 128 more.0 in
          let step = bind_ok (digits_at left bs) (λ high. Ok (with_low (b % 128) high.0, high.1)) (n, rest) more.1 in
          let same = ok_is (with_low (b % 128) step.0.0, step.0.1) (n, rest) step.2 in
          let n-is : with_low (b % 128) step.0.0 ≡ n = ap (λ (p : ℕ × List ℕ). p.0) same in
          let rest-is : step.0.1 ≡ rest = ap (λ (p : ℕ × List ℕ). p.1) same in
          let others : Digits left bs step.0.0 step.0.1 = digits_takes left bs step.0.0 step.0.1 step.1 in
          record {
            front = b ∷ others.front;
            parts = ap (λ (t : List ℕ). b ∷ t) others.parts ∙ ap (λ (t : List ℕ). b ∷ (others.front ++ t)) rest-is;
            continues = continues_more b others.front big others.continues;
            short = omega (arith, others.short);
            value = sym n-is ∙ ap (with_low (b % 128)) others.value ∙ low_is (b % 128) (digits_sum others.front);
          }
    ]

pub record Varints (bytes : List ℕ) (n : ℕ) (rest : List ℕ) : Type 0 where
  pub front : List ℕ
  pub parts : bytes ≡ front ++ rest
  pub front_is : IsVarint n front

pub varint_takes : (bytes : List ℕ) (n : ℕ) (rest : List ℕ) → varint_at bytes ≡ Ok (n, rest) → Varints bytes n rest
unfolding varint_at
varint_takes bytes n rest e =
    let d : Digits 10 bytes n rest = digits_takes 10 bytes n rest e in
    record { front = d.front; parts = d.parts; front_is = record { continues = d.continues; ten = d.short; value = d.value } }

-- ---- a varint is read

digits_again : (left : ℕ) (front rest : List ℕ) → Continues front → length front ≤ left → digits_at left (front ++ rest) ≡ Ok (digits_sum front % 2 ^ 64, rest)
unfolding digits_at
digits_again left [] rest c short = absurd c
digits_again zero (b ∷ bs) rest c short = absurd (omega (arith, short))
digits_again (suc left) (b ∷ []) rest c short =
    let small : ltb b 128 ≡ true = lt-ltb b 128 c in
    let n-is : b ≡ (b % 128 + 128 * 0) % 2 ^ 64 = omega (arith, c) in
    rw small (ap (λ (n : ℕ). Ok (n, rest)) n-is)
digits_again (suc left) (b ∷ x ∷ bs) rest c short =
    let big : ltb b 128 ≡ false = le-ltb b 128 c.0 in
    let others : digits_at left ((x ∷ bs) ++ rest) ≡ Ok (digits_sum (x ∷ bs) % 2 ^ 64, rest) = digits_again left (x ∷ bs) rest c.1 (omega (arith, short)) in
    rw (big, others) (ap (λ (n : ℕ). Ok (n, rest)) (low_is (b % 128) (digits_sum (x ∷ bs))))

pub varint_again : (n : ℕ) (front rest : List ℕ) → IsVarint n front → varint_at (front ++ rest) ≡ Ok (n, rest)
unfolding varint_at
varint_again n front rest v = digits_again 10 front rest v.continues v.ten ∙ ap (λ (m : ℕ). Ok (m, rest)) (sym v.value)

pub varint_some : (n : ℕ) (front : List ℕ) → IsVarint n front → 0 < length front
varint_some n [] v = absurd v.continues
varint_some n (b ∷ bs) v = omega arith

-- ---- where no varint is at the front

-- so many bytes that all continue, or fewer and then the end
abbrev DigitsFault : ℕ → FaultKind → List ℕ → Type 0
DigitsFault left kinds.Varint bytes = IsLong left bytes
DigitsFault left kinds.WireType bytes = ⊥
DigitsFault left kinds.Truncated bytes = (length bytes < left) × AllContinue bytes
DigitsFault left kinds.FieldNumber bytes = ⊥

fault_more : (left : ℕ) (kind : FaultKind) (b : ℕ) (bs : List ℕ) → 128 ≤ b → DigitsFault left kind bs → DigitsFault (suc left) kind (b ∷ bs)
fault_more left kinds.Varint b bs big f =
    record { front = b ∷ f.front; rest = f.rest; parts = ap (λ (t : List ℕ). b ∷ t) f.parts; length_is = ap suc f.length_is; continue = (big, f.continue) }
fault_more left kinds.WireType b bs big f = f
fault_more left kinds.Truncated b bs big f = (omega (arith, f.0), (big, f.1))
fault_more left kinds.FieldNumber b bs big f = f

digits_fault : (left : ℕ) (bytes : List ℕ) (kind : FaultKind) → digits_at left bytes ≡ Err kind → DigitsFault left kind bytes
unfolding digits_at
digits_fault zero bytes kind e =
    let is : kinds.Varint ≡ kind = cc in
    subst (λ (k : FaultKind). DigitsFault 0 k bytes) is (record { front = []; rest = bytes; parts = refl; length_is = refl; continue = tt })
digits_fault (suc left) [] kind e =
    let is : kinds.Truncated ≡ kind = cc in
    subst (λ (k : FaultKind). DigitsFault (suc left) k []) is (omega arith, tt)
digits_fault (suc left) (b ∷ bs) kind e =
    elim (chosen (ltb b 128) (Ok (b, bs)) (digits_at left bs >>= λ high. Ok (with_low (b % 128) high.0, high.1)) (Err kind) e) [
      | inl last ↦ absurd (let f = last.1 in cc)
      | inr more ↦
          elim (bind_err (digits_at left bs) (λ high. Ok (with_low (b % 128) high.0, high.1)) kind more.1) [
            | inl below ↦ fault_more left kind b bs (ltb-false b 128 more.0) (digits_fault left bs kind below)
            | inr never ↦ absurd (let f = never.2 in cc)
          ]
    ]

pub varint_fault : (bytes : List ℕ) (kind : FaultKind) → varint_at bytes ≡ Err kind → VarintFault kind bytes
unfolding varint_at
varint_fault bytes kinds.Varint e = digits_fault 10 bytes kinds.Varint e
varint_fault bytes kinds.WireType e = digits_fault 10 bytes kinds.WireType e
varint_fault bytes kinds.Truncated e = digits_fault 10 bytes kinds.Truncated e
varint_fault bytes kinds.FieldNumber e = digits_fault 10 bytes kinds.FieldNumber e

long_again : (left : ℕ) (front rest : List ℕ) → length front ≡ left → AllContinue front → digits_at left (front ++ rest) ≡ Err kinds.Varint
unfolding digits_at
long_again zero front rest len all = refl
long_again (suc left) [] rest len all = absurd (omega (arith, len))
long_again (suc left) (b ∷ bs) rest len all =
    let big : ltb b 128 ≡ false = le-ltb b 128 all.0 in
    rw (big, long_again left bs rest (omega (arith, len)) all.1) refl

cut_again : (left : ℕ) (bytes : List ℕ) → length bytes < left → AllContinue bytes → digits_at left bytes ≡ Err kinds.Truncated
unfolding digits_at
cut_again zero bytes len all = absurd (omega (arith, len))
cut_again (suc left) [] len all = refl
cut_again (suc left) (b ∷ bs) len all =
    let big : ltb b 128 ≡ false = le-ltb b 128 all.0 in
    rw (big, cut_again left bs (omega (arith, len)) all.1) refl

pub varint_fault_again : (kind : FaultKind) (bytes : List ℕ) → VarintFault kind bytes → varint_at bytes ≡ Err kind
unfolding varint_at
varint_fault_again kinds.Varint bytes f = ap (digits_at 10) f.parts ∙ long_again 10 f.front f.rest f.length_is f.continue
varint_fault_again kinds.WireType bytes f = absurd f
varint_fault_again kinds.Truncated bytes f = cut_again 10 bytes f.0 f.1
varint_fault_again kinds.FieldNumber bytes f = absurd f
