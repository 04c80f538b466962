-- The texts of an address, and the keys of a table.
use Rattle.std.specs.Prelude.{ℕ, Bool, ◌&&◌, nat_le, nat_lt, List, length}
use Rattle.std.specs.List.{list_all}
use Rattle.artery_base.specs.Valid.{is_part_byte}

-- a part of an address: 1 to 255 such bytes
unfoldable pub is_part : List ℕ → Bool
is_part text = nat_le 1 (length text) && nat_le (length text) 255 && list_all is_part_byte text

-- a key of a table: at most 65,535 ASCII bytes
unfoldable pub is_key : List ℕ → Bool
is_key text = nat_le (length text) 65535 && list_all (λ b. nat_lt b 128) text
