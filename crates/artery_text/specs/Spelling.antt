-- The texts of values. Each value has one spelling.
use Rattle.std.specs.Prelude.{ℕ, ◌+◌, ◌/◌, ◌%◌, ◌^◌, ◌<◌, ◌≤◌, Bool, not, ◌&&◌, ◌||◌, ◌==◌, nat_lt, if◌then◌else◌, IsTrue, List, [], ◌∷◌, ◌++◌, length, codes, decimal, slice_index, flat_map}
use Rattle.std.specs.Int.{is_in_range}
use Rattle.std.specs.List.{list_all}
use Rattle.std.specs.Fmt.{signed_decimal}
pub use Rattle.artery_base.specs.Valid.{AreBytes, is_visible, IsToken, is_part_byte, IsPart, IsAddress, IsUniqueAddress}
use Rattle.artery_base.specs.declared.address.Address.{Address}
use Rattle.artery_base.specs.declared.address.UniqueAddress.{UniqueAddress}
use Rattle.artery_base.specs.declared.message.SysMsg.{SysMsg}

-- the digit of a number below 16: `0` to `9`, then `a` to `f`
abbrev pub hex_digit : ℕ → ℕ
hex_digit d = if nat_lt d 10 then 48 + d else 87 + d

-- a byte as two digits, the high four bits first
abbrev pub hex_pair : ℕ → List ℕ
hex_pair b = hex_digit (b / 16) ∷ hex_digit (b % 16) ∷ []

-- hexadecimal: two digits a byte, and `-` for no bytes
abbrev pub hex_text : List ℕ → List ℕ
hex_text bytes = if length bytes == 0 then codes "-" else flat_map hex_pair bytes

-- whether a word has this byte as itself: visible, and no `%`
abbrev pub is_plain : ℕ → Bool
is_plain b = is_visible b && not (b == 37)

-- `%` and the byte's two digits
abbrev pub escaped : ℕ → List ℕ
escaped b = 37 ∷ hex_pair b

-- a byte within a word
abbrev pub word_piece : ℕ → List ℕ
word_piece b = if is_plain b then b ∷ [] else escaped b

-- whether this first byte is escaped although it is plain: each `@`, and a `-` that nothing follows
abbrev pub is_reserved : ℕ → List ℕ → Bool
is_reserved b bytes = b == 64 || (b == 45 && length bytes == 0)

-- the first piece of a word of b and the bytes after it
abbrev pub first_piece : ℕ → List ℕ → List ℕ
first_piece b bytes = if is_reserved b bytes then escaped b else word_piece b

-- a word: its pieces in a row, and `-` for no bytes
abbrev pub word_text : List ℕ → List ℕ
word_text [] = codes "-"
word_text (b ∷ bytes) = first_piece b bytes ++ flat_map word_piece bytes

-- an address: PROTOCOL://SYSTEM@HOST:PORT
abbrev pub address_text : Address → List ℕ
address_text a = a.protocol ++ codes "://" ++ a.system ++ codes "@" ++ a.host ++ codes ":" ++ decimal a.port

-- a unique address: ADDRESS#UID
abbrev pub unique_text : UniqueAddress → List ℕ
unique_text u = address_text u.address ++ codes "#" ++ decimal u.uid

-- a system message: its serializer, its manifest as a word, its payload in hexadecimal
abbrev pub message_text : SysMsg → List ℕ
message_text m = signed_decimal m.serializer ++ codes " " ++ word_text m.manifest ++ codes " " ++ hex_text m.payload
