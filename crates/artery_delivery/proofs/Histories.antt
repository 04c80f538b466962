-- The expected numbers follow the whole lists of messages taken.
use Rattle.std.proofs.Common.{◌≡◌, ℕ, ◌+◌, ◌-◌, Bool, true, false, List, [], ◌∷◌, ◌++◌, length, refl, ap, ◌∙◌, sym, arith, length-append}
use Rattle.std.specs.Prelude.{map, Option, Some, None, is_some, unwrap_or, if◌then◌else◌}
use Rattle.std.specs.Map.{lookup, set_value}
use Rattle.std.specs.Option.{option_map}
use Rattle.std.proofs.lemmas.List.{length-map, map-append}
use Rattle.std.proofs.lemmas.Bool.Decides.{nat_tests}
use Rattle.artery_base.specs.declared.message.SysMsg.{SysMsg}
use Rattle.artery_base.specs.declared.address.UniqueAddress.{UniqueAddress}
use Rattle.artery_delivery.specs.declared.inbound.Opened.{Opened}
use Rattle.artery_delivery.specs.declared.inbound.Opened.TheVariants.{Opened as NewlyOpened, Known, OriginsFull}
use Rattle.artery_delivery.specs.declared.inbound.Take.{Take}
use Rattle.artery_delivery.specs.Inbound.{same_origin, expected_of, opening, entries_after, with_origin, next_of, is_expected, taking, with_taken, taken_of, messages_from, answer_to_open, lists_after, opened, answer_to_take, taken, Stands}

-- the number expected of each origin
abbrev numbers : List (UniqueAddress × List SysMsg) → List (UniqueAddress × ℕ)
numbers all = map (λ e. (e.0, length e.1 + 1)) all

is_some_map : {X Y : Type 0} (f : X → Y) (o : Option X) → is_some (option_map f o) ≡ is_some o
is_some_map f None = refl
is_some_map f (Some x) = refl

module _ (test : UniqueAddress → Bool) where
  lookup_numbers : (all : List (UniqueAddress × List SysMsg)) → lookup test (numbers all) ≡ option_map (λ t. length t + 1) (lookup test all)
  lookup_numbers [] = refl
  lookup_numbers (e ∷ es) =
      elim (test e.0) as (λ b. (if b then Some (length e.1 + 1) else lookup test (numbers es)) ≡ option_map (λ t. length t + 1) (if b then Some e.1 else lookup test es)) [
        | true ↦ refl
        | false ↦ lookup_numbers es
      ]

  set_numbers : (all : List (UniqueAddress × List SysMsg)) (t : List SysMsg) → numbers (set_value test all t) ≡ set_value test (numbers all) (length t + 1)
  set_numbers [] t = refl
  set_numbers (e ∷ es) t =
      elim (test e.0) as (λ b. numbers (if b then (e.0, t) ∷ es else e ∷ set_value test es t) ≡ (if b then (e.0, length t + 1) ∷ numbers es else (e.0, length e.1 + 1) ∷ set_value test (numbers es) (length t + 1))) [
        | true ↦ refl
        | false ↦ ap (λ (r : List (UniqueAddress × ℕ)). (e.0, length e.1 + 1) ∷ r) (set_numbers es t)
      ]

known_is : (o : UniqueAddress) (all : List (UniqueAddress × List SysMsg)) → is_some (expected_of o (numbers all)) ≡ is_some (taken_of o all)
known_is o all = ap is_some (lookup_numbers (same_origin o) all) ∙ is_some_map (λ t. length t + 1) (taken_of o all)

expected_or_first : (t : Option (List SysMsg)) → unwrap_or (option_map (λ t. length t + 1) t) 1 ≡ length (unwrap_or t []) + 1
expected_or_first None = refl
expected_or_first (Some t) = refl

next_is : (o : UniqueAddress) (all : List (UniqueAddress × List SysMsg)) → next_of o (numbers all) ≡ length (messages_from o all) + 1
next_is o all = ap (λ (e : Option ℕ). unwrap_or e 1) (lookup_numbers (same_origin o) all) ∙ expected_or_first (taken_of o all)

pub opens_alike : (o : UniqueAddress) (entries : List (UniqueAddress × ℕ)) (all : List (UniqueAddress × List SysMsg)) → Stands entries all → opening o entries ≡ answer_to_open o all
opens_alike o entries all s = rw (s.numbers, known_is o all, length-map)

after_alike : (answer : Opened) (o : UniqueAddress) (all : List (UniqueAddress × List SysMsg)) → entries_after answer o (numbers all) ≡ numbers (lists_after answer o all)
after_alike NewlyOpened o all = sym (map-append (λ e. (e.0, length e.1 + 1)) all ((o, []) ∷ []))
after_alike Known o all = refl
after_alike OriginsFull o all = refl

pub opened_alike : (o : UniqueAddress) (entries : List (UniqueAddress × ℕ)) (all : List (UniqueAddress × List SysMsg)) → Stands entries all → Stands (with_origin o entries) (opened o all)
opened_alike o entries all s = record {
  numbers = rw (opens_alike o entries all s, s.numbers) (after_alike (answer_to_open o all) o all);
}

pub takes_alike : (o : UniqueAddress) (n : ℕ) (entries : List (UniqueAddress × ℕ)) (all : List (UniqueAddress × List SysMsg)) → Stands entries all → taking o n entries ≡ answer_to_take o n all
takes_alike o n entries all s = rw s.numbers (let e : next_of o (numbers all) ≡ length (messages_from o all) + 1 = next_is o all in grind (arith, nat_tests, e))

taken_or_stays : (o : UniqueAddress) (n : ℕ) (m : SysMsg) (all : List (UniqueAddress × List SysMsg)) (b : Bool) → (b ≡ true → n ≡ length (messages_from o all) + 1)
    → (if b then set_value (same_origin o) (numbers all) (n + 1) else numbers all) ≡ numbers (if b then set_value (same_origin o) all (messages_from o all ++ m ∷ []) else all)
taken_or_stays o n m all true at =
    let e : n + 1 ≡ length (messages_from o all ++ m ∷ []) + 1 = omega (arith, at refl, length-append (messages_from o all) (m ∷ [])) in
    ap (λ (k : ℕ). set_value (same_origin o) (numbers all) k) e ∙ sym (set_numbers (same_origin o) all (messages_from o all ++ m ∷ []))
taken_or_stays o n m all false at = refl

expected_is : (n e : ℕ) → is_expected n e ≡ true → n ≡ e
expected_is n e h = grind (arith, nat_tests)

pub taken_alike : (o : UniqueAddress) (n : ℕ) (m : SysMsg) (entries : List (UniqueAddress × ℕ)) (all : List (UniqueAddress × List SysMsg)) → Stands entries all → Stands (with_taken o n entries) (taken o n m all)
taken_alike o n m entries all s = record {
  numbers = rw (s.numbers, next_is o all) (taken_or_stays o n m all (is_expected n (length (messages_from o all) + 1)) (expected_is n (length (messages_from o all) + 1)));
}

last_alike : (o : UniqueAddress) (entries : List (UniqueAddress × ℕ)) (all : List (UniqueAddress × List SysMsg)) → Stands entries all → next_of o entries - 1 ≡ length (messages_from o all)
last_alike o entries all s = rw s.numbers (let e : next_of o (numbers all) ≡ length (messages_from o all) + 1 = next_is o all in omega (arith, e))

-- the same for what a call answered and left
pub opening_stands : (o : UniqueAddress) (old new : List (UniqueAddress × ℕ)) (answer : Opened) (all : List (UniqueAddress × List SysMsg)) → Stands old all
    → answer ≡ opening o old → new ≡ with_origin o old → (answer ≡ answer_to_open o all) × Stands new (opened o all)
opening_stands o old new answer all s is left = (is ∙ opens_alike o old all s, rw left (opened_alike o old all s))

pub taking_stands : (o : UniqueAddress) (n : ℕ) (old new : List (UniqueAddress × ℕ)) (answer : Take) (all : List (UniqueAddress × List SysMsg)) (m : SysMsg) → Stands old all
    → answer ≡ taking o n old → new ≡ with_taken o n old → (answer ≡ answer_to_take o n all) × Stands new (taken o n m all)
taking_stands o n old new answer all m s is left = (is ∙ takes_alike o n old all s, rw left (taken_alike o n m old all s))

pub last_stands : (o : UniqueAddress) (entries : List (UniqueAddress × ℕ)) (all : List (UniqueAddress × List SysMsg)) (last : ℕ) → Stands entries all
    → last ≡ next_of o entries - 1 → last ≡ length (messages_from o all)
last_stands o entries all last s is = is ∙ last_alike o entries all s
