-- What was written is read, and is the shortest.
use Rattle.std.proofs.Common.{append_assoc, ◌≡◌, ℕ, zero, suc, ◌+◌, ◌*◌, ◌/◌, ◌%◌, ◌^◌, ◌<◌, ◌≤◌, List, [], ◌∷◌, ◌++◌, length, refl, sym, subst, arith, inl, inr}
use Rattle.std.specs.Int.{w32, w64, to_le_bytes}
use Rattle.std.specs.List.{AllByRecursion}
use Rattle.std.proofs.Math.Nat.{pow-suc}
use Rattle.std.proofs.lemmas.Nat.{div_below, from_le_bytes-to_le_bytes_4, from_le_bytes-to_le_bytes_8}
use Rattle.std.proofs.lemmas.Bool.{cases_lt}
use Rattle.std.proofs.lemmas.List.Concat.{flat_map-cons}
use Rattle.artery_wire.specs.Record.{ValueOf, Varint, Fixed64, Bytes, Fixed32, FieldOf, Continues, digits_sum, IsField, StandFor}
use Rattle.artery_wire.specs.Writing.{digits_within, varint_of, IsNumber, value_bytes, field_bytes, record_bytes}
use Rattle.artery_wire.specs.Laws.{FitsValue, FitsField, WrittenIsRead, VarintIsWritten, VarintIsShortest}
use Rattle.artery_wire.proofs.Appends.{digits_last, digits_more}
use Rattle.artery_wire.proofs.ReadingLaws.{fields_are_read}

-- ---- what is written of a number is a varint of it

record Written (left n : ℕ) (bytes : List ℕ) : Type 0 where
  pub continues : Continues bytes
  pub short : length bytes ≤ suc left
  pub sum : digits_sum bytes ≡ n

continues_more : (b : ℕ) (bs : List ℕ) → 128 ≤ b → Continues bs → Continues (b ∷ bs)
continues_more b [] h c = absurd c
continues_more b (x ∷ bs) h c = (h, c)

below_more : (left n : ℕ) → n < 128 ^ suc (suc left) → n / 128 < 128 ^ suc left
below_more left n small = div_below n 128 (128 ^ suc left) (omega arith) (subst (λ (k : ℕ). n < k) (pow-suc 128 (suc left)) small)

written_last : (left n : ℕ) → n < 128 → Written left n (n ∷ [])
written_last left n small = record { continues = small; short = omega arith; sum = omega (arith, small) }

written : (left n : ℕ) → n < 128 ^ suc left → Written left n (digits_within (suc left) n)
written zero n small =
    let n_small : n < 128 = omega (arith, small, pow-suc 128 0) in
    subst (λ (t : List ℕ). Written 0 n t) (sym (digits_last 0 n n_small)) (written_last 0 n n_small)
written (suc left) n small =
    elim (cases_lt n 128) [
      | inl last ↦ subst (λ (t : List ℕ). Written (suc left) n t) (sym (digits_last (suc left) n last)) (written_last (suc left) n last)
      | inr more ↦
          let w : Written left (n / 128) (digits_within (suc left) (n / 128)) = written left (n / 128) (below_more left n small) in
          subst (λ (t : List ℕ). Written (suc left) n t) (sym (digits_more (suc left) n more))
          (record { continues = continues_more (n % 128 + 128) (digits_within (suc left) (n / 128)) (omega arith) w.continues; short = omega (arith, w.short); sum = omega (arith, w.sum) })
    ]

pub varint_written : VarintIsWritten
unfolding varint_of
varint_written n small =
    let w : Written 9 n (digits_within 10 n) = written 9 n (omega (arith, small)) in
    record { continues = w.continues; ten = w.short; value = omega (arith, w.sum, small) }

-- ---- none is shorter

one_digit : (many left n : ℕ) → n < 128 → length (digits_within (suc left) n) ≤ suc many
one_digit many left n small = rw (digits_last left n small) (omega arith)

short : (many left n : ℕ) → n < 128 ^ suc many → length (digits_within (suc left) n) ≤ suc many
unfolding digits_within
short zero left n small = one_digit 0 left n (omega (arith, small, pow-suc 128 0))
short (suc many) zero n small =
    elim (cases_lt n 128) [
      | inl last ↦ one_digit (suc many) 0 n last
      | inr more ↦ rw (digits_more 0 n more) (omega arith)
    ]
short (suc many) (suc left) n small =
    elim (cases_lt n 128) [
      | inl last ↦ one_digit (suc many) (suc left) n last
      | inr more ↦
          let others : length (digits_within (suc left) (n / 128)) ≤ suc many = short many left (n / 128) (below_more many n small) in
          rw (digits_more (suc left) n more) (omega (arith, others))
    ]

sum_below : (bytes : List ℕ) → digits_sum bytes < 128 ^ length bytes
sum_below [] = omega arith
sum_below (b ∷ bs) = let others : digits_sum bs < 128 ^ length bs = sum_below bs in omega (arith, others, pow-suc 128 (length bs))

shortest : (n : ℕ) (bytes : List ℕ) → Continues bytes → n ≡ digits_sum bytes % 2 ^ 64 → length (digits_within 10 n) ≤ length bytes
shortest n [] c e = absurd c
shortest n (b ∷ bs) c e =
    let sum : digits_sum (b ∷ bs) < 128 ^ suc (length bs) = sum_below (b ∷ bs) in
    let below : n ≤ digits_sum (b ∷ bs) = omega (arith, e) in
    short (length bs) 9 n (omega (arith, sum, below))

pub varint_shortest : VarintIsShortest
unfolding varint_of
varint_shortest n bytes v = shortest n bytes v.continues v.value

-- ---- fields

value_written : (number : ℕ) (v : ValueOf) → IsNumber number → FitsValue v → IsField (record { number = number; value = v }) (value_bytes number v)
value_written number (Varint n) num fits =
    record { kind = 0; key = varint_of (number * 8 + 0); rest = varint_of n; parts = refl; key_is = varint_written (number * 8 + 0) (omega (arith, num.1)); above = num.0; below = num.1; value_is = (refl, varint_written n fits) }
value_written number (Fixed64 n) num fits =
    record { kind = 1; key = varint_of (number * 8 + 1); rest = to_le_bytes w64 n; parts = refl; key_is = varint_written (number * 8 + 1) (omega (arith, num.1)); above = num.0; below = num.1; value_is = (refl, refl, sym (from_le_bytes-to_le_bytes_8 n fits)) }
value_written number (Bytes payload) num fits =
    record {
      kind = 2;
      key = varint_of (number * 8 + 2);
      rest = varint_of (length payload) ++ payload;
      parts = append_assoc (varint_of (number * 8 + 2)) (varint_of (length payload)) payload;
      key_is = varint_written (number * 8 + 2) (omega (arith, num.1));
      above = num.0;
      below = num.1;
      value_is = (refl, record { size = varint_of (length payload); size_is = varint_written (length payload) fits; parts = refl });
    }
value_written number (Fixed32 n) num fits =
    record { kind = 5; key = varint_of (number * 8 + 5); rest = to_le_bytes w32 n; parts = refl; key_is = varint_written (number * 8 + 5) (omega (arith, num.1)); above = num.0; below = num.1; value_is = (refl, refl, sym (from_le_bytes-to_le_bytes_4 n fits)) }

pub field_written : (f : FieldOf) → FitsField f → IsField f (field_bytes f)
unfolding field_bytes
field_written f fits = value_written f.number f.value fits.number fits.value

pub record_written : (fs : List FieldOf) → AllByRecursion FitsField fs → StandFor fs (record_bytes fs)
record_written [] fits = refl
record_written (f ∷ fs) fits = (field_bytes f, record_bytes fs, flat_map-cons field_bytes f fs, field_written f fits.0, record_written fs fits.1)

pub read_again : WrittenIsRead
read_again fs fits = (fields_are_read fs (record_bytes fs)).0 (record_written fs fits)

pub ruleset written_laws = (read_again, varint_written, varint_shortest)
