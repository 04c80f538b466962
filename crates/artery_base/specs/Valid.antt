-- Which values have a text.
use Rattle.std.specs.Prelude.{ℕ, ◌^◌, ◌<◌, ◌≤◌, Bool, ◌||◌, ◌==◌, IsTrue, List, length, slice_index}
use Rattle.std.specs.Int.{is_in_range}
use Rattle.std.specs.List.{list_all}
use Rattle.artery_base.specs.declared.address.Address.{Address}
use Rattle.artery_base.specs.declared.address.UniqueAddress.{UniqueAddress}

-- each is a byte
abbrev pub AreBytes : List ℕ → Type 0
AreBytes bytes = (k : ℕ) → slice_index bytes k < 256

-- a visible ASCII character: neither the space that parts tokens nor the line feed that ends lines
abbrev pub is_visible : ℕ → Bool
is_visible b = is_in_range 33 126 b

-- one token of a line: not empty, each byte visible
pub record IsToken (text : List ℕ) : Type 0 where
  pub some : 0 < length text
  pub visible : IsTrue (list_all is_visible text)

-- whether a part of an address may have this byte: a letter, a digit, `-`, `_` or `.`
abbrev pub is_part_byte : ℕ → Bool
is_part_byte b = is_in_range 97 122 b || is_in_range 65 90 b || is_in_range 48 57 b || b == 45 || b == 95 || b == 46

-- a part of an address: 1 to 255 such bytes
pub record IsPart (part : List ℕ) : Type 0 where
  pub some : 1 ≤ length part
  pub short : length part ≤ 255
  pub made_of : IsTrue (list_all is_part_byte part)

-- an address that has a text
pub record IsAddress (a : Address) : Type 0 where
  pub protocol : IsPart a.protocol
  pub system : IsPart a.system
  pub host : IsPart a.host
  pub port : (1 ≤ a.port) × (a.port ≤ 65535)

-- a unique address that has a text
pub record IsUniqueAddress (u : UniqueAddress) : Type 0 where
  pub address : IsAddress u.address
  pub uid : u.uid < 2 ^ 64
