-- A list is gathered piece by piece, each element of which must pass a test; it is the whole list, each element of which passes.
use Rattle.std.proofs.Common.{◌≡◌, ℕ, Bool, true, false, cond, List, [], ◌∷◌, ◌++◌, map, Option, Some, None, Result, Ok, Err, refl, sym, ap, ◌∙◌, append_assoc}
use Rattle.std.specs.Prelude.{◌&&◌}
use Rattle.std.specs.Option.{option_to_list}
use Rattle.std.specs.List.{list_all, filter_map, flat_map, cons_option}
use Rattle.std.proofs.lemmas.List.{append-nil}
use Rattle.std.proofs.lemmas.List.Folds.{list_all-append}
use Rattle.std.proofs.lemmas.List.Concat.{flat_map-cons}
use Rattle.artery_wire.specs.Record.{FieldOf}
use Rattle.artery_control.specs.declared.fault.ControlFault.{ControlFault}
use Rattle.artery_control.specs.declared.fault.ControlFault.TheVariants as faults
use Rattle.artery_control.specs.declared.path.Path.{Path}
use Rattle.artery_base.specs.Words.{◌>>=◌}
use Rattle.artery_control.specs.Outcome.{each_of, appended}
use Rattle.artery_control.specs.Picking.{bytes_in}
use Rattle.artery_control.specs.Parts.{is_key}
use Rattle.artery_control.specs.Message.{low32, is_value, repeated_in}

-- ---- the loops

-- the keys of these fields, behind others
unfoldable pub keys_from : Path → ℕ → List (List ℕ) → List FieldOf → Result (List (List ℕ)) ControlFault
keys_from path k keys [] = Ok keys
keys_from path k keys (f ∷ fs) = appended keys (each_of is_key (faults.BadText path) (option_to_list (bytes_in k f))) >>= λ more. keys_from path k more fs

-- the values of these fields, behind others
unfoldable pub values_from : Path → ℕ → List ℕ → List FieldOf → Result (List ℕ) ControlFault
values_from path k values [] = Ok values
values_from path k values (f ∷ fs) = appended values (each_of is_value (faults.Range path) (repeated_in k f)) >>= λ more. values_from path k more fs

-- these numbers as values, behind others
unfoldable pub numbers_from : Path → List ℕ → List ℕ → Result (List ℕ) ControlFault
numbers_from path values [] = Ok values
numbers_from path values (n ∷ ns) = appended values (each_of is_value (faults.Range path) (low32 n ∷ [])) >>= λ more. numbers_from path more ns

-- ---- two pieces

split_cond : {X : Type 0} (fault : ControlFault) (before a b : List X) (first second both : Bool) → both ≡ (first && second)
    → (appended before (cond first (Ok a) (Err fault)) >>= λ now. appended now (cond second (Ok b) (Err fault))) ≡ appended before (cond both (Ok (a ++ b)) (Err fault))
split_cond fault before a b false second both e = rw e refl
split_cond fault before a b true false both e = rw e refl
split_cond fault before a b true true both e = rw e (ap (λ t. Ok t) (append_assoc before a b))

split : {X : Type 0} (test : X → Bool) (fault : ControlFault) (before a b : List X)
    → (appended before (each_of test fault a) >>= λ now. appended now (each_of test fault b)) ≡ appended before (each_of test fault (a ++ b))
unfolding each_of
split test fault before a b = split_cond fault before a b (list_all test a) (list_all test b) (list_all test (a ++ b)) (list_all-append test a b)

abbrev done : {X : Type 0} → X → Result X ControlFault
done x = Ok x

none : {X : Type 0} (test : X → Bool) (fault : ControlFault) (before : List X) → done before ≡ appended before (each_of test fault [])
unfolding each_of
none test fault before = ap (λ t. Ok t) (sym (append-nil before))

-- what follows a piece may be put otherwise
then_same : {X : Type 0} (r : Result X ControlFault) (f g : X → Result X ControlFault) → ((x : X) → f x ≡ g x) → (r >>= f) ≡ (r >>= g)
then_same (Ok x) f g same = same x
then_same (Err e) f g same = refl

appended_none : {X : Type 0} (r : Result (List X) ControlFault) → appended [] r ≡ r
appended_none (Ok xs) = refl
appended_none (Err e) = refl

cons_is : {X : Type 0} (o : Option X) (xs : List X) → option_to_list o ++ xs ≡ cons_option o xs
cons_is None xs = refl
cons_is (Some x) xs = refl

-- ---- the loops are the whole lists

keys_are : (path : Path) (k : ℕ) (keys : List (List ℕ)) (fs : List FieldOf) → keys_from path k keys fs ≡ appended keys (each_of is_key (faults.BadText path) (filter_map (bytes_in k) fs))
unfolding keys_from
keys_are path k keys [] = none is_key (faults.BadText path) keys
keys_are path k keys (f ∷ fs) =
    then_same (appended keys (each_of is_key (faults.BadText path) (option_to_list (bytes_in k f)))) (λ more. keys_from path k more fs) (λ more. appended more (each_of is_key (faults.BadText path) (filter_map (bytes_in k) fs))) (λ more. keys_are path k more fs)
    ∙ split is_key (faults.BadText path) keys (option_to_list (bytes_in k f)) (filter_map (bytes_in k) fs)
    ∙ ap (λ t. appended keys (each_of is_key (faults.BadText path) t)) (cons_is (bytes_in k f) (filter_map (bytes_in k) fs))

values_are : (path : Path) (k : ℕ) (values : List ℕ) (fs : List FieldOf) → values_from path k values fs ≡ appended values (each_of is_value (faults.Range path) (flat_map (repeated_in k) fs))
unfolding values_from
values_are path k values [] = none is_value (faults.Range path) values
values_are path k values (f ∷ fs) =
    then_same (appended values (each_of is_value (faults.Range path) (repeated_in k f))) (λ more. values_from path k more fs) (λ more. appended more (each_of is_value (faults.Range path) (flat_map (repeated_in k) fs))) (λ more. values_are path k more fs)
    ∙ split is_value (faults.Range path) values (repeated_in k f) (flat_map (repeated_in k) fs)
    ∙ ap (λ t. appended values (each_of is_value (faults.Range path) t)) (sym (flat_map-cons (repeated_in k) f fs))

numbers_are : (path : Path) (values ns : List ℕ) → numbers_from path values ns ≡ appended values (each_of is_value (faults.Range path) (map low32 ns))
unfolding numbers_from
numbers_are path values [] = none is_value (faults.Range path) values
numbers_are path values (n ∷ ns) =
    then_same (appended values (each_of is_value (faults.Range path) (low32 n ∷ []))) (λ more. numbers_from path more ns) (λ more. appended more (each_of is_value (faults.Range path) (map low32 ns))) (λ more. numbers_are path more ns)
    ∙ split is_value (faults.Range path) values (low32 n ∷ []) (map low32 ns)

-- ---- where the loops begin

pub keys_begin : (path : Path) (k : ℕ) (keys : List (List ℕ)) (left fs : List FieldOf) → keys ≡ [] → left ≡ fs → keys_from path k keys left ≡ each_of is_key (faults.BadText path) (filter_map (bytes_in k) fs)
keys_begin path k keys left fs e l = rw (e, l) (keys_are path k [] fs ∙ appended_none (each_of is_key (faults.BadText path) (filter_map (bytes_in k) fs)))

pub values_begin : (path : Path) (k : ℕ) (values : List ℕ) (left fs : List FieldOf) → values ≡ [] → left ≡ fs → values_from path k values left ≡ each_of is_value (faults.Range path) (flat_map (repeated_in k) fs)
values_begin path k values left fs e l = rw (e, l) (values_are path k [] fs ∙ appended_none (each_of is_value (faults.Range path) (flat_map (repeated_in k) fs)))

pub numbers_begin : (path : Path) (values left ns : List ℕ) → left ≡ ns → numbers_from path values left ≡ appended values (each_of is_value (faults.Range path) (map low32 ns))
numbers_begin path values left ns l = rw l (numbers_are path values ns)
