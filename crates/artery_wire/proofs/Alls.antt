-- Items one after the other, whatever they are.
use Rattle.std.proofs.Common.{◌≡◌, ℕ, zero, suc, ◌+◌, ◌-◌, ◌<◌, ◌≤◌, List, [], ◌∷◌, ◌++◌, length, Option, Some, None, Result, Ok, Err, refl, sym, ap, subst, ◌∙◌, append_assoc, add-zero, zero-add, le_refl, arith}
use Rattle.std.proofs.lemmas.List.{length-append, append-nil}
use Rattle.artery_wire.specs.declared.fault.FaultKind.{FaultKind}
use Rattle.artery_wire.specs.declared.fault.WireFault.{WireFault}
use Rattle.artery_wire.specs.Fault.{fault_at}
use Rattle.artery_wire.specs.Record.{OneAfterOther}
use Rattle.artery_wire.specs.FirstFault.{FaultsAfter}
use Rattle.artery_wire.specs.Reading.{with_first, goes_on, all_within}

abbrev pub Reads : Type 0 → Type 0
Reads X = List ℕ → Result (X × List ℕ) FaultKind

-- what is left after an item is shorter
abbrev pub Shortens : {X : Type 0} → Reads X → Type 0
Shortens {X} one = (bytes : List ℕ) (x : X) (rest : List ℕ) → one bytes ≡ Ok (x, rest) → length rest < length bytes

at_end : {X : Type 0} (one : Reads X) (n place : ℕ) → all_within one n place [] ≡ ([], None)
unfolding all_within
at_end one zero place = refl
at_end one (suc n) place = refl

goes_on_same : {X : Type 0} (len place : ℕ) (r : Result (X × List ℕ) FaultKind) (f g : ℕ → List ℕ → List X × Option WireFault)
    → ((at : ℕ) (x : X) (rest : List ℕ) → r ≡ Ok (x, rest) → f at rest ≡ g at rest) → goes_on len place r f ≡ goes_on len place r g
goes_on_same len place (Ok x) f g h = ap (with_first x.0) (h (place + (len - length x.1)) x.0 x.1 refl)
goes_on_same len place (Err kind) f g h = refl

-- as many steps as there are bytes are enough
enough : {X : Type 0} (one : Reads X) → Shortens one → (n m place : ℕ) (bytes : List ℕ) → length bytes ≤ n → length bytes ≤ m → all_within one n place bytes ≡ all_within one m place bytes
unfolding all_within
enough one short n m place [] p q = at_end one n place ∙ sym (at_end one m place)
enough one short zero m place (b ∷ bs) p q = absurd (omega (arith, p))
enough one short (suc n) zero place (b ∷ bs) p q = absurd (omega (arith, q))
enough {X} one short (suc n) (suc m) place (b ∷ bs) p q =
    goes_on_same (length (b ∷ bs)) place (one (b ∷ bs)) (λ after rest. all_within one n after rest) (λ after rest. all_within one m after rest)
    (λ at x rest e. let less : length rest < length (b ∷ bs) = short (b ∷ bs) x rest e in enough one short n m at rest (omega (arith, p, less)) (omega (arith, q, less)))

pub left_at_end : {X : Type 0} (one : Reads X) (place : ℕ) (bytes : List ℕ) → length bytes ≡ 0 → all_within one (length bytes) place bytes ≡ ([], None)
left_at_end one place [] len = at_end one 0 place
left_at_end one place (b ∷ bs) len = absurd (omega (arith, len))

pub left_at_item : {X : Type 0} (one : Reads X) → Shortens one → (place : ℕ) (bytes : List ℕ) (x : X) (rest : List ℕ) → 0 < length bytes → one bytes ≡ Ok (x, rest)
    → all_within one (length bytes) place bytes ≡ with_first x (all_within one (length rest) (place + (length bytes - length rest)) rest)
unfolding all_within
left_at_item one short place [] x rest some e = absurd (omega (arith, some))
left_at_item one short place (b ∷ bs) x rest some e =
    let less : length rest < length (b ∷ bs) = short (b ∷ bs) x rest e in
    ap (λ r. goes_on (length (b ∷ bs)) place r (λ after left. all_within one (length bs) after left)) e
    ∙ ap (with_first x) (enough one short (length bs) (length rest) (place + (length (b ∷ bs) - length rest)) rest (omega (arith, less)) (omega arith))

pub left_at_fault : {X : Type 0} (one : Reads X) (place : ℕ) (bytes : List ℕ) (kind : FaultKind) → 0 < length bytes → one bytes ≡ Err kind
    → all_within one (length bytes) place bytes ≡ ([], Some (fault_at kind place))
unfolding all_within
left_at_fault one place [] kind some e = absurd (omega (arith, some))
left_at_fault one place (b ∷ bs) kind some e = ap (λ r. goes_on (length (b ∷ bs)) place r (λ after left. all_within one (length bs) after left)) e

-- ---- the whole list

-- one of these at the front is read, whatever follows it
abbrev pub ReadsAgain : {X : Type 0} → (X → List ℕ → Type 0) → Reads X → Type 0
ReadsAgain {X} Is one = (x : X) (front rest : List ℕ) → Is x front → one (front ++ rest) ≡ Ok (x, rest)

abbrev pub IsSome : {X : Type 0} → (X → List ℕ → Type 0) → Type 0
IsSome {X} Is = (x : X) (front : List ℕ) → Is x front → 0 < length front

abbrev in_front : {X : Type 0} → List X → List X × Option WireFault → List X × Option WireFault
in_front xs read = (xs ++ read.0, read.1)

-- what stands at the front is read first
pub stand_then : {X : Type 0} (Is : X → List ℕ → Type 0) (one : Reads X) → Shortens one → ReadsAgain Is one → IsSome Is
    → (xs : List X) (whole rest : List ℕ) (place : ℕ) → OneAfterOther Is xs whole
    → all_within one (length (whole ++ rest)) place (whole ++ rest) ≡ in_front xs (all_within one (length rest) (place + length whole) rest)
stand_then Is one short again some [] whole rest place stands =
    subst (λ (w : List ℕ). all_within one (length (w ++ rest)) place (w ++ rest) ≡ in_front [] (all_within one (length rest) (place + length w) rest)) (sym stands)
    (ap (λ (p : ℕ). all_within one (length rest) p rest) (sym (add-zero place)))
stand_then {X} Is one short again some (x ∷ xs) whole rest place (front, middle, parts, is, others) =
    let grouped : whole ++ rest ≡ front ++ (middle ++ rest) = ap (λ (t : List ℕ). t ++ rest) parts ∙ append_assoc front middle rest in
    let later : ℕ = place + (length (front ++ (middle ++ rest)) - length (middle ++ rest)) in
    let later_is : later ≡ place + length front = omega (arith, length-append front (middle ++ rest)) in
    let lengths : (place + length front) + length middle ≡ place + length whole = omega (arith, ap length parts, length-append front middle) in
    let first : all_within one (length (front ++ (middle ++ rest))) place (front ++ (middle ++ rest)) ≡ with_first x (all_within one (length (middle ++ rest)) later (middle ++ rest)) =
    left_at_item one short place (front ++ (middle ++ rest)) x (middle ++ rest) (omega (arith, some x front is, length-append front (middle ++ rest))) (again x front (middle ++ rest) is) in
    ap (λ (t : List ℕ). all_within one (length t) place t) grouped
    ∙ first
    ∙ ap (λ (p : ℕ). with_first x (all_within one (length (middle ++ rest)) p (middle ++ rest))) later_is
    ∙ ap (with_first x) (stand_then Is one short again some xs middle rest (place + length front) others)
    ∙ ap (λ (p : ℕ). with_first x (in_front xs (all_within one (length rest) p rest))) lengths

-- ---- the law, for any kind of item

-- what is needed of reading one item
pub record IsReader {X : Type 0} (Is : X → List ℕ → Type 0) (Faulty : FaultKind → List ℕ → Type 0) (one : Reads X) : Type 0 where
  pub takes : (bytes : List ℕ) (x : X) (rest : List ℕ) → one bytes ≡ Ok (x, rest) → (front : List ℕ) × (bytes ≡ front ++ rest) × Is x front
  pub again : ReadsAgain Is one
  pub some : IsSome Is
  pub shortens : Shortens one
  pub faults : (bytes : List ℕ) (kind : FaultKind) → one bytes ≡ Err kind → Faulty kind bytes
  pub faults_again : (kind : FaultKind) (bytes : List ℕ) → Faulty kind bytes → one bytes ≡ Err kind

abbrev pub all_of : {X : Type 0} → Reads X → List ℕ → List X × Option WireFault
all_of one bytes = all_within one (length bytes) 0 bytes

pub whole_read : {X : Type 0} (Is : X → List ℕ → Type 0) (Faulty : FaultKind → List ℕ → Type 0) (one : Reads X) → IsReader Is Faulty one
    → (xs : List X) (bytes : List ℕ) → OneAfterOther Is xs bytes → all_of one bytes ≡ (xs, None)
whole_read Is Faulty one reader xs bytes stands =
    ap (all_of one) (sym (append-nil bytes))
    ∙ stand_then Is one reader.shortens reader.again reader.some xs bytes [] 0 stands
    ∙ ap (in_front xs) (left_at_end one (0 + length bytes) [] refl)
    ∙ ap (λ (t : List _). (t, None)) (append-nil xs)

pub fault_read : {X : Type 0} (Is : X → List ℕ → Type 0) (Faulty : FaultKind → List ℕ → Type 0) (one : Reads X) → IsReader Is Faulty one
    → (xs : List X) (bytes : List ℕ) (fault : WireFault) → FaultsAfter Is Faulty bytes xs fault → all_of one bytes ≡ (xs, Some fault)
fault_read {X} Is Faulty one reader xs bytes fault f =
    let at_fault : all_within one (length f.rest) (0 + length f.whole) f.rest ≡ ([], Some (fault_at f.kind (0 + length f.whole))) =
    left_at_fault one (0 + length f.whole) f.rest f.kind f.some (reader.faults_again f.kind f.rest f.faulty) in
    let told : fault_at f.kind (0 + length f.whole) ≡ fault = ap (fault_at f.kind) (zero-add (length f.whole)) ∙ sym f.fault_is in
    let finished : in_front xs ([], Some (fault_at f.kind (0 + length f.whole))) ≡ (xs, Some fault) =
    ap (λ (t : List X). (t, Some (fault_at f.kind (0 + length f.whole)))) (append-nil xs) ∙ ap (λ (w : WireFault). (xs, Some w)) told in
    ap (all_of one) f.parts
    ∙ stand_then Is one reader.shortens reader.again reader.some xs f.whole f.rest 0 f.whole_is
    ∙ ap (in_front xs) at_fault
    ∙ finished

pub longest_read : {X : Type 0} (Is : X → List ℕ → Type 0) (Faulty : FaultKind → List ℕ → Type 0) (one : Reads X) → IsReader Is Faulty one
    → (xs : List X) (front rest : List ℕ) → OneAfterOther Is xs front → (others : List X) × ((all_of one (front ++ rest)).0 ≡ xs ++ others)
longest_read {X} Is Faulty one reader xs front rest stands = (
  (all_within one (length rest) (0 + length front) rest).0,
  ap (λ (read : List X × Option WireFault). read.0) (stand_then Is one reader.shortens reader.again reader.some xs front rest 0 stands),
)

-- ---- the other direction

-- the same from a place on
record FaultsFrom {X : Type 0} (Is : X → List ℕ → Type 0) (Faulty : FaultKind → List ℕ → Type 0) (place : ℕ) (bytes : List ℕ) (items : List X) (fault : WireFault) : Type 0 where
  pub whole : List ℕ
  pub rest : List ℕ
  pub parts : bytes ≡ whole ++ rest
  pub whole_is : OneAfterOther Is items whole
  pub some : 0 < length rest
  pub kind : FaultKind
  pub faulty : Faulty kind rest
  pub fault_is : fault ≡ fault_at kind (place + length whole)

-- what was read is what stands, up to the fault if there is one
abbrev IsRight : {X : Type 0} → (X → List ℕ → Type 0) → (FaultKind → List ℕ → Type 0) → ℕ → List ℕ → List X → Option WireFault → Type 0
IsRight Is Faulty place bytes xs None = OneAfterOther Is xs bytes
IsRight Is Faulty place bytes xs (Some fault) = FaultsFrom Is Faulty place bytes xs fault

right_more : {X : Type 0} (Is : X → List ℕ → Type 0) (Faulty : FaultKind → List ℕ → Type 0) (place : ℕ) (bytes front rest : List ℕ) (x : X) (xs : List X) (fault : Option WireFault)
    → bytes ≡ front ++ rest → Is x front → IsRight Is Faulty (place + (length bytes - length rest)) rest xs fault → IsRight Is Faulty place bytes (x ∷ xs) fault
right_more Is Faulty place bytes front rest x xs None parts is right = (front, rest, parts, is, right)
right_more Is Faulty place bytes front rest x xs (Some fault) parts is right =
    let moved : (place + (length bytes - length rest)) + length right.whole ≡ place + length (front ++ right.whole) =
    omega (arith, ap length parts, length-append front rest, length-append front right.whole) in
    record {
      whole = front ++ right.whole;
      rest = right.rest;
      parts = parts ∙ ap (λ (t : List ℕ). front ++ t) right.parts ∙ sym (append_assoc front right.whole right.rest);
      whole_is = (front, right.whole, refl, is, right.whole_is);
      some = right.some;
      kind = right.kind;
      faulty = right.faulty;
      fault_is = right.fault_is ∙ ap (fault_at right.kind) moved;
    }

goes_on_right : {X : Type 0} (Is : X → List ℕ → Type 0) (Faulty : FaultKind → List ℕ → Type 0) (one : Reads X) → IsReader Is Faulty one
    → (place b : ℕ) (bs : List ℕ) (r : Result (X × List ℕ) FaultKind) (others : ℕ → List ℕ → List X × Option WireFault) → one (b ∷ bs) ≡ r
    → ((at : ℕ) (x : X) (rest : List ℕ) → r ≡ Ok (x, rest) → IsRight Is Faulty at rest (others at rest).0 (others at rest).1)
    → IsRight Is Faulty place (b ∷ bs) (goes_on (length (b ∷ bs)) place r others).0 (goes_on (length (b ∷ bs)) place r others).1
goes_on_right Is Faulty one reader place b bs (Ok x) others e h =
    let t = reader.takes (b ∷ bs) x.0 x.1 e in
    let at : ℕ = place + (length (b ∷ bs) - length x.1) in
    right_more Is Faulty place (b ∷ bs) t.0 x.1 x.0 (others at x.1).0 (others at x.1).1 t.1 t.2 (h at x.0 x.1 refl)
goes_on_right Is Faulty one reader place b bs (Err kind) others e h =
    record {
      whole = [];
      rest = b ∷ bs;
      parts = refl;
      whole_is = refl;
      some = omega arith;
      kind = kind;
      faulty = reader.faults (b ∷ bs) kind e;
      fault_is = ap (fault_at kind) (sym (add-zero place));
    }

read_right : {X : Type 0} (Is : X → List ℕ → Type 0) (Faulty : FaultKind → List ℕ → Type 0) (one : Reads X) → IsReader Is Faulty one
    → (n place : ℕ) (bytes : List ℕ) → length bytes ≤ n → IsRight Is Faulty place bytes (all_within one n place bytes).0 (all_within one n place bytes).1
unfolding all_within
read_right Is Faulty one reader zero place [] le = refl
read_right Is Faulty one reader zero place (b ∷ bs) le = absurd (omega (arith, le))
read_right Is Faulty one reader (suc n) place [] le = refl
read_right Is Faulty one reader (suc n) place (b ∷ bs) le =
    goes_on_right Is Faulty one reader place b bs (one (b ∷ bs)) (λ after rest. all_within one n after rest) refl
    (λ at x rest e. let less : length rest < length (b ∷ bs) = reader.shortens (b ∷ bs) x rest e in read_right Is Faulty one reader n at rest (omega (arith, le, less)))

pub whole_stands : {X : Type 0} (Is : X → List ℕ → Type 0) (Faulty : FaultKind → List ℕ → Type 0) (one : Reads X) → IsReader Is Faulty one
    → (xs : List X) (bytes : List ℕ) → all_of one bytes ≡ (xs, None) → OneAfterOther Is xs bytes
whole_stands {X} Is Faulty one reader xs bytes e =
    subst (λ (read : List X × Option WireFault). IsRight Is Faulty 0 bytes read.0 read.1) e (read_right Is Faulty one reader (length bytes) 0 bytes (le_refl (length bytes)))

pub fault_stands : {X : Type 0} (Is : X → List ℕ → Type 0) (Faulty : FaultKind → List ℕ → Type 0) (one : Reads X) → IsReader Is Faulty one
    → (xs : List X) (bytes : List ℕ) (fault : WireFault) → all_of one bytes ≡ (xs, Some fault) → FaultsAfter Is Faulty bytes xs fault
fault_stands {X} Is Faulty one reader xs bytes fault e =
    let right : FaultsFrom Is Faulty 0 bytes xs fault =
    subst (λ (read : List X × Option WireFault). IsRight Is Faulty 0 bytes read.0 read.1) e (read_right Is Faulty one reader (length bytes) 0 bytes (le_refl (length bytes))) in
    record {
      whole = right.whole;
      rest = right.rest;
      parts = right.parts;
      whole_is = right.whole_is;
      some = right.some;
      kind = right.kind;
      faulty = right.faulty;
      fault_is = right.fault_is ∙ ap (fault_at right.kind) (zero-add (length right.whole));
    }
