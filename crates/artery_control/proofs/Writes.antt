-- Appending one field after the other.
use Rattle.std.proofs.Common.{◌≡◌, ℕ, ◌+◌, ◌≤◌, List, [], ◌∷◌, ◌++◌, length, take, refl, sym, ap, ◌∙◌, append_assoc, arith}
use Rattle.std.proofs.lemmas.List.{length-append, length-take, take-take, take_at, append-nil}
use Rattle.std.proofs.lemmas.List.Concat.{flat_map-cons}
use Rattle.artery_wire.specs.Record.{FieldOf}
use Rattle.artery_wire.specs.Writing.{BeginsWith, head_bytes, field_bytes, bytes_field, record_bytes}

pub begins_same : (old : List ℕ) → BeginsWith old old
begins_same old = ap (λ (t : List ℕ). take (length old) t) (sym (append-nil old)) ∙ take_at old [] (length old) refl

pub begins_more : (old new more : List ℕ) → new ≡ old ++ more → BeginsWith old new
begins_more old new more e = ap (λ (t : List ℕ). take (length old) t) e ∙ take_at old more (length old) refl

pub begins_then : (old middle new : List ℕ) → BeginsWith old middle → BeginsWith middle new → BeginsWith old new
begins_then old middle new a b =
    let shorter : length old ≤ length middle = omega (arith, length-take (length old) middle, ap length a) in
    sym (take-take (length old) (length middle) new shorter) ∙ ap (λ (t : List ℕ). take (length old) t) b ∙ a

-- what stands before a payload and the payload are the field
pub field_is : (k : ℕ) (payload : List ℕ) → field_bytes (bytes_field k payload) ≡ head_bytes k (length payload) ++ payload
unfolding field_bytes
field_is k payload = refl

pub field_length : (k : ℕ) (payload : List ℕ) → length (field_bytes (bytes_field k payload)) ≡ length (head_bytes k (length payload)) + length payload
field_length k payload = ap length (field_is k payload) ∙ length-append (head_bytes k (length payload)) payload

-- the bytes of two lists of fields, one after the other
pub record_then : (fs gs : List FieldOf) → record_bytes (fs ++ gs) ≡ record_bytes fs ++ record_bytes gs
record_then [] gs = refl
record_then (f ∷ fs) gs =
    flat_map-cons field_bytes f (fs ++ gs)
    ∙ ap (λ (t : List ℕ). field_bytes f ++ t) (record_then fs gs)
    ∙ sym (append_assoc (field_bytes f) (record_bytes fs) (record_bytes gs))
    ∙ ap (λ (t : List ℕ). t ++ record_bytes gs) (sym (flat_map-cons field_bytes f fs))

-- what was appended in two steps
pub two_steps : (old middle new : List ℕ) (fs gs : List FieldOf) → middle ≡ old ++ record_bytes fs → new ≡ middle ++ record_bytes gs → new ≡ old ++ record_bytes (fs ++ gs)
two_steps old middle new fs gs a b =
    b ∙ ap (λ (t : List ℕ). t ++ record_bytes gs) a ∙ append_assoc old (record_bytes fs) (record_bytes gs) ∙ ap (λ (t : List ℕ). old ++ t) (sym (record_then fs gs))

pub ruleset table_steps = (begins_more, begins_then, record_then, append_assoc)

pub ruleset numbered_steps = (begins_more, begins_then, record_then, append_assoc, append-nil)

pub ruleset write_steps = (begins_same, begins_more, begins_then, field_is, field_length, length-append, append_assoc, append-nil)
