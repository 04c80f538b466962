-- Where a text is: at an address.
use Rattle.std.specs.Prelude.{◌≡◌, ℕ, Bool, false, not, ◌&&◌, ◌==◌, nat_lt, nat_eq, if◌then◌else◌, IsTrue, List, [], ◌∷◌, ◌++◌, length, drop, Option, Some, None}
use Rattle.std.specs.Int.{is_in_range}
use Rattle.std.specs.List.{list_all, starts_with}
use Rattle.artery_base.specs.declared.address.Address.{Address}
use Rattle.artery_text.specs.Spelling.{address_text}

-- Whether a path may have this byte behind its `/`: a visible one but `%`.
abbrev pub is_path_byte : ℕ → Bool
is_path_byte b = is_in_range 33 126 b && not (b == 37)

-- A path: `/` and at least one such byte.
abbrev pub is_path : List ℕ → Bool
is_path [] = false
is_path (b ∷ bs) = b == 47 && nat_lt 0 (length bs) && list_all is_path_byte bs

-- What stands in the text behind this front, if it begins with it.
abbrev pub after : List ℕ → List ℕ → Option (List ℕ)
after front text = if starts_with nat_eq text front then Some (drop (length front) text) else None

-- Whether there is a path.
abbrev pub is_found_path : Option (List ℕ) → Bool
is_found_path None = false
is_found_path (Some path) = is_path path

-- Whether a text is at an address: whether it is the text of the address and then a path.
abbrev pub is_at : Address → List ℕ → Bool
is_at address text = is_found_path (after (address_text address) text)

-- A text is at an address exactly where it is the text of the address and then a path.
pub record IsAt (address : Address) (text : List ℕ) : Type 0 where
  pub path : List ℕ
  pub whole : text ≡ address_text address ++ path
  pub good : IsTrue (is_path path)
