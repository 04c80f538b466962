-- What stands behind the text of an address.
use Rattle.std.proofs.Common.{◌≡◌, ℕ, suc, ◌≤◌, Bool, true, false, cond, List, [], ◌∷◌, length, refl, arith}
use Rattle.std.specs.Prelude.{Some, None, drop, nat_eq, ◌&&◌}
use Rattle.std.specs.List.{starts_with}
use Rattle.artery_base.specs.declared.address.Address.{Address}
use Rattle.artery_text.specs.Spelling.{address_text}
use Rattle.artery_watch.specs.Place.{is_at, after, is_found_path}

-- A text that begins with a front is as long.
begins_long : (front text : List ℕ) → starts_with nat_eq text front ≡ true → length front ≤ length text
begins_long [] text h = grind (arith)
begins_long (b ∷ bs) [] h = cc
begins_long (b ∷ bs) (c ∷ cs) h = by (nat_eq b c) (starts_with nat_eq cs bs) (begins_long bs cs) h
  where
    by : (x y : Bool) → (y ≡ true → length bs ≤ length cs) → (x && y) ≡ true → suc (length bs) ≤ suc (length cs)
    by true true rest e = let le : length bs ≤ length cs = rest refl in grind (arith)
    by true false rest e = cc
    by false y rest e = cc

-- What is found behind a front that has a path.
found_by : (b : Bool) (front text : List ℕ) → starts_with nat_eq text front ≡ b → is_found_path (cond b (Some (drop (length front) text)) None) ≡ true → starts_with nat_eq text front ≡ true
found_by true front text e h = e
found_by false front text e h = cc

begins : (front text : List ℕ) → is_found_path (after front text) ≡ true → starts_with nat_eq text front ≡ true
begins front text h = found_by (starts_with nat_eq text front) front text refl h

-- A text at an address is at least as long as that of the address.
pub is_long : (address : Address) (text : List ℕ) → is_at address text ≡ true → length (address_text address) ≤ length text
is_long address text h = begins_long (address_text address) text (begins (address_text address) text h)

-- What stands behind it is the rest of the text.
pub is_behind : (address : Address) (text : List ℕ) → is_at address text ≡ true → after (address_text address) text ≡ Some (drop (length (address_text address)) text)
is_behind address text h = let e = begins (address_text address) text h in rw e refl
