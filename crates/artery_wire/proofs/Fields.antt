-- The field at the front of bytes: what is read is a field, and a field is read.
use Rattle.std.proofs.Common.{◌≡◌, ℕ, zero, suc, ◌+◌, ◌*◌, ◌/◌, ◌%◌, ◌<◌, ◌≤◌, true, false, cond, ltb, eqb, List, ◌++◌, length, take, drop, Result, Ok, Err, refl, sym, ap, subst, ◌∙◌, append_assoc, arith, inl, inr}
use Rattle.std.specs.Prelude.{◌⊎◌, ◌||◌}
use Rattle.std.specs.Int.{Width, w32, w64, byte_len, from_le_bytes}
use Rattle.std.proofs.lemmas.Bool.{ltb-true, ltb-false, lt-ltb, le-ltb, eqb-true, eqb-false, eq-eqb, ne_eqb, or_cases, or_parts, or_from, or_left, or_right}
use Rattle.std.proofs.lemmas.List.{take_at, drop_at, take-append-drop, length-append, length-take}
use Rattle.artery_base.specs.Words.{◌>>=◌}
use Rattle.artery_wire.specs.declared.fault.FaultKind.{FaultKind}
use Rattle.artery_wire.specs.declared.fault.FaultKind.TheVariants as kinds
use Rattle.artery_wire.specs.Record.{ValueOf, Varint, Fixed64, Bytes, Fixed32, FieldOf, IsVarint, IsPayload, IsValue, IsField, max_number}
use Rattle.artery_wire.specs.FirstFault.{PayloadFault, ValueFault, AfterKey, FieldFault}
use Rattle.artery_wire.specs.Reading.{varint_at, split_at, fixed_at, payload_at, value_at, field_at}
use Rattle.artery_wire.proofs.Varints.{bind_ok, bind_err, chosen, ok_is, Varints, varint_takes, varint_again, varint_some, varint_fault, varint_fault_again}

-- ---- so many bytes

record Splits (n : ℕ) (bytes front rest : List ℕ) : Type 0 where
  pub parts : bytes ≡ front ++ rest
  pub length_is : length front ≡ n

split_takes : (n : ℕ) (bytes front rest : List ℕ) → split_at n bytes ≡ Ok (front, rest) → Splits n bytes front rest
split_takes n bytes front rest e =
    elim (chosen (ltb (length bytes) n) (Err kinds.Truncated) (Ok (take n bytes, drop n bytes)) (Ok (front, rest)) e) [
      | inl never ↦ absurd (let f = never.1 in cc)
      | inr long ↦
          let enough : n ≤ length bytes = ltb-false _ _ long.0 in
          let same = ok_is (take n bytes, drop n bytes) (front, rest) long.1 in
          let front-is : take n bytes ≡ front = ap (λ (p : List ℕ × List ℕ). p.0) same in
          let rest-is : drop n bytes ≡ rest = ap (λ (p : List ℕ × List ℕ). p.1) same in
          record { parts = rw (← front-is, ← rest-is) (sym (take-append-drop n bytes)); length_is = rw (← front-is) (omega (arith, length-take n bytes)) }
    ]

split_again : (n : ℕ) (front rest : List ℕ) → length front ≡ n → split_at n (front ++ rest) ≡ Ok (front, rest)
split_again n front rest len =
    let long : ltb (length (front ++ rest)) n ≡ false = le-ltb _ _ (omega (arith, length-append front rest)) in
    rw (long, take_at front rest n len, drop_at front rest n len) refl

split_fault : (n : ℕ) (bytes : List ℕ) (kind : FaultKind) → split_at n bytes ≡ Err kind → (kind ≡ kinds.Truncated) × (length bytes < n)
split_fault n bytes kind e =
    elim (chosen (ltb (length bytes) n) (Err kinds.Truncated) (Ok (take n bytes, drop n bytes)) (Err kind) e) [
      | inl short ↦ let f = short.1 in (cc, ltb-true _ _ short.0)
      | inr never ↦ absurd (let f = never.1 in cc)
    ]

split_fault_again : (n : ℕ) (bytes : List ℕ) → length bytes < n → split_at n bytes ≡ Err kinds.Truncated
split_fault_again n bytes short = let s : ltb (length bytes) n ≡ true = lt-ltb _ _ short in rw s refl

-- ---- values

-- a value at the front
record Values (kind : ℕ) (bytes : List ℕ) (v : ValueOf) (rest : List ℕ) : Type 0 where
  pub front : List ℕ
  pub parts : bytes ≡ front ++ rest
  pub front_is : IsValue kind v front

abbrev number_of : Width → List ℕ × List ℕ → Result (ℕ × List ℕ) FaultKind
number_of w x = Ok (from_le_bytes w x.0, x.1)

abbrev as_fixed64 : ℕ × List ℕ → Result (ValueOf × List ℕ) FaultKind
as_fixed64 x = Ok (Fixed64 x.0, x.1)

abbrev as_fixed32 : ℕ × List ℕ → Result (ValueOf × List ℕ) FaultKind
as_fixed32 x = Ok (Fixed32 x.0, x.1)

fixed64_takes : (bytes : List ℕ) (v : ValueOf) (rest : List ℕ) → (fixed_at w64 bytes >>= as_fixed64) ≡ Ok (v, rest) → Values 1 bytes v rest
fixed64_takes bytes v rest e =
    let a = bind_ok (fixed_at w64 bytes) as_fixed64 (v, rest) e in
    let b = bind_ok (split_at (byte_len w64) bytes) (number_of w64) a.0 a.1 in
    let s : Splits 8 bytes b.0.0 b.0.1 = split_takes 8 bytes b.0.0 b.0.1 b.1 in
    let number = ok_is (from_le_bytes w64 b.0.0, b.0.1) a.0 b.2 in
    let made = ok_is (Fixed64 a.0.0, a.0.1) (v, rest) a.2 in
    let inner : Values 1 bytes (Fixed64 (from_le_bytes w64 b.0.0)) b.0.1 = record { front = b.0.0; parts = s.parts; front_is = (refl, s.length_is, refl) } in
    let outer = subst (λ (x : ℕ × List ℕ). Values 1 bytes (Fixed64 x.0) x.1) number inner in
    subst (λ (x : ValueOf × List ℕ). Values 1 bytes x.0 x.1) made outer

fixed32_takes : (bytes : List ℕ) (v : ValueOf) (rest : List ℕ) → (fixed_at w32 bytes >>= as_fixed32) ≡ Ok (v, rest) → Values 5 bytes v rest
fixed32_takes bytes v rest e =
    let a = bind_ok (fixed_at w32 bytes) as_fixed32 (v, rest) e in
    let b = bind_ok (split_at (byte_len w32) bytes) (number_of w32) a.0 a.1 in
    let s : Splits 4 bytes b.0.0 b.0.1 = split_takes 4 bytes b.0.0 b.0.1 b.1 in
    let number = ok_is (from_le_bytes w32 b.0.0, b.0.1) a.0 b.2 in
    let made = ok_is (Fixed32 a.0.0, a.0.1) (v, rest) a.2 in
    let inner : Values 5 bytes (Fixed32 (from_le_bytes w32 b.0.0)) b.0.1 = record { front = b.0.0; parts = s.parts; front_is = (refl, s.length_is, refl) } in
    let outer = subst (λ (x : ℕ × List ℕ). Values 5 bytes (Fixed32 x.0) x.1) number inner in
    subst (λ (x : ValueOf × List ℕ). Values 5 bytes x.0 x.1) made outer

record Payloads (bytes payload rest : List ℕ) : Type 0 where
  pub front : List ℕ
  pub parts : bytes ≡ front ++ rest
  pub front_is : IsPayload payload front

payload_takes : (bytes payload rest : List ℕ) → payload_at bytes ≡ Ok (payload, rest) → Payloads bytes payload rest
unfolding payload_at
payload_takes bytes payload rest e =
    let a = bind_ok (varint_at bytes) (λ size. split_at size.0 size.1) (payload, rest) e in
    let v : Varints bytes a.0.0 a.0.1 = varint_takes bytes a.0.0 a.0.1 a.1 in
    let s : Splits a.0.0 a.0.1 payload rest = split_takes a.0.0 a.0.1 payload rest a.2 in
    record {
      front = v.front ++ payload;
      parts = v.parts ∙ ap (λ (t : List ℕ). v.front ++ t) s.parts ∙ sym (append_assoc v.front payload rest);
      front_is = record { size = v.front; size_is = subst (λ (n : ℕ). IsVarint n v.front) (sym s.length_is) v.front_is; parts = refl };
    }

value_takes : (kind : ℕ) (bytes : List ℕ) (v : ValueOf) (rest : List ℕ) → value_at kind bytes ≡ Ok (v, rest) → Values kind bytes v rest
unfolding value_at
value_takes zero bytes v rest e =
    let a = bind_ok (varint_at bytes) (λ x. Ok (Varint x.0, x.1)) (v, rest) e in
    let t : Varints bytes a.0.0 a.0.1 = varint_takes bytes a.0.0 a.0.1 a.1 in
    let made = ok_is (Varint a.0.0, a.0.1) (v, rest) a.2 in
    let inner : Values 0 bytes (Varint a.0.0) a.0.1 = record { front = t.front; parts = t.parts; front_is = (refl, t.front_is) } in
    subst (λ (x : ValueOf × List ℕ). Values 0 bytes x.0 x.1) made inner
value_takes (suc zero) bytes v rest e = fixed64_takes bytes v rest e
value_takes (suc (suc zero)) bytes v rest e =
    let a = bind_ok (payload_at bytes) (λ x. Ok (Bytes x.0, x.1)) (v, rest) e in
    let t : Payloads bytes a.0.0 a.0.1 = payload_takes bytes a.0.0 a.0.1 a.1 in
    let made = ok_is (Bytes a.0.0, a.0.1) (v, rest) a.2 in
    let inner : Values 2 bytes (Bytes a.0.0) a.0.1 = record { front = t.front; parts = t.parts; front_is = (refl, t.front_is) } in
    subst (λ (x : ValueOf × List ℕ). Values 2 bytes x.0 x.1) made inner
value_takes (suc (suc (suc zero))) bytes v rest e = absurd cc
value_takes (suc (suc (suc (suc zero)))) bytes v rest e = absurd cc
value_takes (suc (suc (suc (suc (suc zero))))) bytes v rest e = fixed32_takes bytes v rest e
value_takes (suc (suc (suc (suc (suc (suc n)))))) bytes v rest e = absurd cc

value_again : (kind : ℕ) (v : ValueOf) (front rest : List ℕ) → IsValue kind v front → value_at kind (front ++ rest) ≡ Ok (v, rest)
unfolding value_at payload_at
value_again kind (Varint n) front rest is =
    subst (λ (k : ℕ). value_at k (front ++ rest) ≡ Ok (Varint n, rest)) (sym is.0) (rw (varint_again n front rest is.1) refl)
value_again kind (Fixed64 n) front rest is =
    subst (λ (k : ℕ). value_at k (front ++ rest) ≡ Ok (Fixed64 n, rest)) (sym is.0)
    (ap (λ (r : Result (List ℕ × List ℕ) FaultKind). (r >>= number_of w64) >>= as_fixed64) (split_again 8 front rest is.1)
    ∙ ap (λ (m : ℕ). Ok (Fixed64 m, rest)) (sym is.2))
value_again kind (Bytes payload) front rest is =
    let size = is.1.size in
    let grouped : front ++ rest ≡ size ++ (payload ++ rest) = ap (λ (t : List ℕ). t ++ rest) is.1.parts ∙ append_assoc size payload rest in
    let read : payload_at (front ++ rest) ≡ Ok (payload, rest) =
    ap payload_at grouped ∙ ap (λ (r : Result (ℕ × List ℕ) FaultKind). r >>= λ x. split_at x.0 x.1) (varint_again (length payload) size (payload ++ rest) is.1.size_is) ∙ split_again (length payload) payload rest refl in
    subst (λ (k : ℕ). value_at k (front ++ rest) ≡ Ok (Bytes payload, rest)) (sym is.0) (ap (λ (r : Result (List ℕ × List ℕ) FaultKind). r >>= λ x. Ok (Bytes x.0, x.1)) read)
value_again kind (Fixed32 n) front rest is =
    subst (λ (k : ℕ). value_at k (front ++ rest) ≡ Ok (Fixed32 n, rest)) (sym is.0)
    (ap (λ (r : Result (List ℕ × List ℕ) FaultKind). (r >>= number_of w32) >>= as_fixed32) (split_again 4 front rest is.1)
    ∙ ap (λ (m : ℕ). Ok (Fixed32 m, rest)) (sym is.2))

-- ---- fields

-- a field at the front
pub record Fields (bytes : List ℕ) (f : FieldOf) (rest : List ℕ) : Type 0 where
  pub front : List ℕ
  pub parts : bytes ≡ front ++ rest
  pub front_is : IsField f front

key_is : (n : ℕ) → n / 8 * 8 + n % 8 ≡ n
key_is n = omega arith

pub field_takes : (bytes : List ℕ) (f : FieldOf) (rest : List ℕ) → field_at bytes ≡ Ok (f, rest) → Fields bytes f rest
unfolding field_at
field_takes bytes f rest e =
    let a = bind_ok (varint_at bytes) (λ key. cond (eqb (key.0 / 8) 0 || ltb max_number (key.0 / 8)) (Err kinds.FieldNumber) (value_at (key.0 % 8) key.1 >>= λ x. Ok (record { number = key.0 / 8; value = x.0 }, x.1))) (f, rest) e in
    let v : Varints bytes a.0.0 a.0.1 = varint_takes bytes a.0.0 a.0.1 a.1 in
    elim (chosen (eqb (a.0.0 / 8) 0 || ltb max_number (a.0.0 / 8)) (Err kinds.FieldNumber) (value_at (a.0.0 % 8) a.0.1 >>= λ x. Ok (record { number = a.0.0 / 8; value = x.0 }, x.1)) (Ok (f, rest)) a.2) [
      | inl never ↦ absurd (let f = never.1 in cc)
      | inr fine ↦
          let tests = or_parts (eqb (a.0.0 / 8) 0) (ltb max_number (a.0.0 / 8)) fine.0 in
          let not_zero : a.0.0 / 8 ≡ 0 → ⊥ = eqb-false _ _ tests.0 in
          let small : a.0.0 / 8 ≤ max_number = ltb-false _ _ tests.1 in
          let b = bind_ok (value_at (a.0.0 % 8) a.0.1) (λ x. Ok (record { number = a.0.0 / 8; value = x.0 }, x.1)) (f, rest) fine.1 in
          let w : Values (a.0.0 % 8) a.0.1 b.0.0 b.0.1 = value_takes (a.0.0 % 8) a.0.1 b.0.0 b.0.1 b.1 in
          let g : FieldOf = record { number = a.0.0 / 8; value = b.0.0 } in
          let made = ok_is (g, b.0.1) (f, rest) b.2 in
          let inner : Fields bytes g b.0.1 = record {
            front = v.front ++ w.front;
            parts = v.parts ∙ ap (λ (t : List ℕ). v.front ++ t) w.parts ∙ sym (append_assoc v.front w.front b.0.1);
            front_is = record {
              kind = a.0.0 % 8;
              key = v.front;
              rest = w.front;
              parts = refl;
              key_is = subst (λ (n : ℕ). IsVarint n v.front) (sym (key_is a.0.0)) v.front_is;
              above = omega (arith, not_zero);
              below = small;
              value_is = w.front_is;
            };
          } in
          subst (λ (x : FieldOf × List ℕ). Fields bytes x.0 x.1) made inner
    ]

kind_small : (kind : ℕ) (v : ValueOf) (bytes : List ℕ) → IsValue kind v bytes → kind < 8
kind_small kind (Varint n) bytes is = omega (arith, is.0)
kind_small kind (Fixed64 n) bytes is = omega (arith, is.0)
kind_small kind (Bytes payload) bytes is = omega (arith, is.0)
kind_small kind (Fixed32 n) bytes is = omega (arith, is.0)

pub field_again : (f : FieldOf) (front rest : List ℕ) → IsField f front → field_at (front ++ rest) ≡ Ok (f, rest)
unfolding field_at
field_again f front rest is =
    let kind = is.kind in
    let small : kind < 8 = kind_small kind f.value is.rest is.value_is in
    let grouped : front ++ rest ≡ is.key ++ (is.rest ++ rest) = ap (λ (t : List ℕ). t ++ rest) is.parts ∙ append_assoc is.key is.rest rest in
    let number_is : (f.number * 8 + kind) / 8 ≡ f.number = omega (arith, small) in
    let kind_is : (f.number * 8 + kind) % 8 ≡ kind = omega (arith, small) in
    let fine : (eqb f.number 0 || ltb max_number f.number) ≡ false = or_from _ _ (ne_eqb _ _ (λ z. omega (arith, is.above, z))) (le-ltb _ _ is.below) in
    ap field_at grouped
    ∙ ap (λ (r : Result (ℕ × List ℕ) FaultKind). r >>= λ key. cond (eqb (key.0 / 8) 0 || ltb max_number (key.0 / 8)) (Err kinds.FieldNumber) (value_at (key.0 % 8) key.1 >>= λ x. Ok (record { number = key.0 / 8; value = x.0 }, x.1))) (varint_again (f.number * 8 + kind) is.key (is.rest ++ rest) is.key_is)
    ∙ rw (number_is, kind_is, fine, value_again kind f.value is.rest rest is.value_is) refl

pub field_some : (f : FieldOf) (front : List ℕ) → IsField f front → 0 < length front
field_some f front is = omega (arith, varint_some _ is.key is.key_is, ap length is.parts, length-append is.key is.rest)

-- ---- where no field is at the front

payload_fault : (bytes : List ℕ) (kind : FaultKind) → payload_at bytes ≡ Err kind → PayloadFault kind bytes
unfolding payload_at
payload_fault bytes kind e =
    elim (bind_err (varint_at bytes) (λ size. split_at size.0 size.1) kind e) [
      | inl key ↦ inl (varint_fault bytes kind key)
      | inr after ↦
          let v : Varints bytes after.0.0 after.0.1 = varint_takes bytes after.0.0 after.0.1 after.1 in
          let s = split_fault after.0.0 after.0.1 kind after.2 in
          inr (s.0, record { size = v.front; rest = after.0.1; number = after.0.0; parts = v.parts; size_is = v.front_is; cut = s.1 })
    ]

payload_fault_again : (kind : FaultKind) (bytes : List ℕ) → PayloadFault kind bytes → payload_at bytes ≡ Err kind
unfolding payload_at
payload_fault_again kind bytes f =
    elim f [
      | inl v ↦ rw (varint_fault_again kind bytes v) refl
      | inr cut ↦
          let s = cut.1 in
          ap payload_at s.parts
          ∙ ap (λ (r : Result (ℕ × List ℕ) FaultKind). r >>= λ x. split_at x.0 x.1) (varint_again s.number s.size s.rest s.size_is)
          ∙ split_fault_again s.number s.rest s.cut
          ∙ ap (λ (k : FaultKind). Err k) (sym cut.0)
    ]

-- the fault of a step whose value is only turned
turned_fault : {A B : Type 0} (r : Result A FaultKind) (f : A → B) (kind : FaultKind) → (r >>= λ x. Ok (f x)) ≡ Err kind → r ≡ Err kind
turned_fault (Ok x) f kind e = absurd cc
turned_fault (Err d) f kind e = cc

value_fault : (type_is : ℕ) (bytes : List ℕ) (kind : FaultKind) → value_at type_is bytes ≡ Err kind → ValueFault type_is kind bytes
unfolding value_at
value_fault zero bytes kind e = varint_fault bytes kind (turned_fault (varint_at bytes) (λ x. (Varint x.0, x.1)) kind e)
value_fault (suc zero) bytes kind e =
    split_fault 8 bytes kind (turned_fault (split_at 8 bytes) (λ x. (from_le_bytes w64 x.0, x.1)) kind (turned_fault (fixed_at w64 bytes) (λ x. (Fixed64 x.0, x.1)) kind e))
value_fault (suc (suc zero)) bytes kind e = payload_fault bytes kind (turned_fault (payload_at bytes) (λ x. (Bytes x.0, x.1)) kind e)
value_fault (suc (suc (suc zero))) bytes kind e = cc
value_fault (suc (suc (suc (suc zero)))) bytes kind e = cc
value_fault (suc (suc (suc (suc (suc zero))))) bytes kind e =
    split_fault 4 bytes kind (turned_fault (split_at 4 bytes) (λ x. (from_le_bytes w32 x.0, x.1)) kind (turned_fault (fixed_at w32 bytes) (λ x. (Fixed32 x.0, x.1)) kind e))
value_fault (suc (suc (suc (suc (suc (suc n)))))) bytes kind e = cc

value_fault_again : (type_is : ℕ) (kind : FaultKind) (bytes : List ℕ) → ValueFault type_is kind bytes → value_at type_is bytes ≡ Err kind
unfolding value_at
value_fault_again zero kind bytes f = rw (varint_fault_again kind bytes f) refl
value_fault_again (suc zero) kind bytes f =
    ap (λ (r : Result (List ℕ × List ℕ) FaultKind). (r >>= number_of w64) >>= as_fixed64) (split_fault_again 8 bytes f.1) ∙ ap (λ (k : FaultKind). Err k) (sym f.0)
value_fault_again (suc (suc zero)) kind bytes f = rw (payload_fault_again kind bytes f) refl
value_fault_again (suc (suc (suc zero))) kind bytes f = cc
value_fault_again (suc (suc (suc (suc zero)))) kind bytes f = cc
value_fault_again (suc (suc (suc (suc (suc zero))))) kind bytes f =
    ap (λ (r : Result (List ℕ × List ℕ) FaultKind). (r >>= number_of w32) >>= as_fixed32) (split_fault_again 4 bytes f.1) ∙ ap (λ (k : FaultKind). Err k) (sym f.0)
value_fault_again (suc (suc (suc (suc (suc (suc n)))))) kind bytes f = cc

abbrev after_key : ℕ × List ℕ → Result (FieldOf × List ℕ) FaultKind
after_key key = cond (eqb (key.0 / 8) 0 || ltb max_number (key.0 / 8)) (Err kinds.FieldNumber) (value_at (key.0 % 8) key.1 >>= λ x. Ok (record { number = key.0 / 8; value = x.0 }, x.1))

bad_number : (n : ℕ) → (eqb n 0 || ltb max_number n) ≡ true → (n ≡ 0) ⊎ (max_number < n)
bad_number n t =
    elim (or_cases (eqb n 0) (ltb max_number n) t) [
      | inl z ↦ inl (eqb-true _ _ z)
      | inr m ↦ inr (ltb-true _ _ m)
    ]

after_key_fault : (key : ℕ × List ℕ) (kind : FaultKind) → after_key key ≡ Err kind → AfterKey key.0 kind key.1
after_key_fault key kind e =
    elim (chosen (eqb (key.0 / 8) 0 || ltb max_number (key.0 / 8)) (Err kinds.FieldNumber) (value_at (key.0 % 8) key.1 >>= λ x. Ok (record { number = key.0 / 8; value = x.0 }, x.1)) (Err kind) e) [
      | inl bad ↦ inl (let f = bad.1 in cc, bad_number (key.0 / 8) bad.0)
      | inr fine ↦
          let tests = or_parts (eqb (key.0 / 8) 0) (ltb max_number (key.0 / 8)) fine.0 in
          let not_zero : key.0 / 8 ≡ 0 → ⊥ = eqb-false _ _ tests.0 in
          inr (omega (arith, not_zero), ltb-false _ _ tests.1, value_fault (key.0 % 8) key.1 kind (turned_fault (value_at (key.0 % 8) key.1) (λ x. (record { number = key.0 / 8; value = x.0 }, x.1)) kind fine.1))
    ]

number_is_bad : (n : ℕ) → (n ≡ 0) ⊎ (max_number < n) → (eqb n 0 || ltb max_number n) ≡ true
number_is_bad n h =
    elim h [
      | inl z ↦ or_left _ _ (eq-eqb _ _ z)
      | inr m ↦ or_right _ _ (lt-ltb _ _ m)
    ]

after_key_again : (n : ℕ) (kind : FaultKind) (rest : List ℕ) → AfterKey n kind rest → after_key (n, rest) ≡ Err kind
after_key_again n kind rest f =
    elim f [
      | inl bad ↦
          let test : (eqb (n / 8) 0 || ltb max_number (n / 8)) ≡ true = number_is_bad (n / 8) bad.1 in
          rw test (ap (λ (k : FaultKind). Err k) (sym bad.0))
      | inr fine ↦
          let test : (eqb (n / 8) 0 || ltb max_number (n / 8)) ≡ false = or_from _ _ (ne_eqb _ _ (λ z. omega (arith, fine.0, z))) (le-ltb _ _ fine.1) in
          rw (test, value_fault_again (n % 8) kind rest fine.2) refl
    ]

pub field_fault : (bytes : List ℕ) (kind : FaultKind) → field_at bytes ≡ Err kind → FieldFault kind bytes
unfolding field_at
field_fault bytes kind e =
    elim (bind_err (varint_at bytes) after_key kind e) [
      | inl key ↦ inl (varint_fault bytes kind key)
      | inr after ↦
          let v : Varints bytes after.0.0 after.0.1 = varint_takes bytes after.0.0 after.0.1 after.1 in
          inr (record { key = v.front; rest = after.0.1; number = after.0.0; parts = v.parts; key_is = v.front_is; fault = after_key_fault after.0 kind after.2 })
    ]

pub field_fault_again : (kind : FaultKind) (bytes : List ℕ) → FieldFault kind bytes → field_at bytes ≡ Err kind
unfolding field_at
field_fault_again kind bytes f =
    elim f [
      | inl v ↦ rw (varint_fault_again kind bytes v) refl
      | inr after ↦
          ap field_at after.parts
          ∙ ap (λ (r : Result (ℕ × List ℕ) FaultKind). r >>= after_key) (varint_again after.number after.key after.rest after.key_is)
          ∙ after_key_again after.number kind after.rest after.fault
    ]
