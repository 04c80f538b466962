-- What a text reads as, or its first fault.
use Rattle.std.specs.Prelude.{◌≡◌, ℕ, ◌+◌, ◌-◌, ◌*◌, ◌^◌, Bool, true, false, not, ◌&&◌, ◌||◌, ◌==◌, nat_lt, if◌then◌else◌, List, [], ◌∷◌, ◌++◌, length, take, drop, codes, slice_index, bytes_eq, nat_eq, position, Option, Some, None, Result, Ok, Err, ℤ, pos, neg_ℤ}
use Rattle.std.specs.Int.{is_in_range}
use Rattle.std.specs.List.{list_all, starts_with}
use Rattle.std.specs.Option.{option_or}
use Rattle.std.specs.Char.{is_ascii_digit}
use Rattle.std.specs.Str.Parse.{digits_value}
pub use Rattle.artery_base.specs.Words.{◌>>=◌, Unless, Gives}
use Rattle.artery_base.specs.declared.address.Address.{Address}
use Rattle.artery_base.specs.declared.address.UniqueAddress.{UniqueAddress}
use Rattle.artery_text.specs.declared.fault.TextFault.{TextFault}
use Rattle.artery_text.specs.declared.fault.TextFault.TheVariants as text_faults
use Rattle.artery_text.specs.declared.fault.WordFault.{WordFault}
use Rattle.artery_text.specs.declared.fault.WordFault.TheVariants as word_faults
use Rattle.artery_text.specs.declared.fault.Part.TheVariants.{Protocol, System, Host}
use Rattle.artery_text.specs.declared.fault.AddressFault.{AddressFault}
use Rattle.artery_text.specs.declared.fault.AddressFault.TheVariants as address_faults
use Rattle.artery_text.specs.Spelling.{is_plain, is_part_byte}

-- a place counted from further left, by n bytes
abbrev pub later : ℕ → Option ℕ → Option ℕ
later n None = None
later n (Some at) = Some (at + n)

-- ---- want of memory

-- whether a fault says that memory ran out
abbrev pub text_memory : TextFault → Bool
text_memory (text_faults.NotAscii at) = false
text_memory text_faults.NoMemory = true

-- the same of a word
abbrev pub word_memory : WordFault → Bool
word_memory (word_faults.BadWord at) = false
word_memory word_faults.NoMemory = true

-- the same of an address
abbrev pub address_memory : AddressFault → Bool
address_memory address_faults.NoScheme = false
address_memory address_faults.NoAt = false
address_memory address_faults.NoPort = false
address_memory address_faults.PortRange = false
address_memory (address_faults.PartLength part len) = false
address_memory (address_faults.BadChar at) = false
address_memory address_faults.NoUid = false
address_memory address_faults.NoMemory = true

-- ---- numbers

-- decimal digits, at least one, and `0` first only where it stands alone
abbrev pub is_numeral : List ℕ → Bool
is_numeral text = if length text == 0 then false else if nat_lt 1 (length text) && slice_index text 0 == 48 then false else list_all is_ascii_digit text

-- a number below 2^64
abbrev pub number_of : List ℕ → Option ℕ
number_of text = if is_numeral text && nat_lt (digits_value 10 text) (2 ^ 64) then Some (digits_value 10 text) else None

-- an int32 from its magnitude: at most 2^31 - 1, or behind a `-` from 1 to 2^31
abbrev pub positive_int32 : Option ℕ → Option ℤ
positive_int32 None = None
positive_int32 (Some n) = if nat_lt n (2 ^ 31) then Some (pos n) else None

-- the same behind a `-`: from 1 to 2^31, told as its negative
abbrev pub negative_int32 : Option ℕ → Option ℤ
negative_int32 None = None
negative_int32 (Some n) = if is_in_range 1 (2 ^ 31) n then Some (neg_ℤ (pos n)) else None

-- an int32 is a number below 2^31, or `-` and one from 1 to 2^31
abbrev pub int32_of : List ℕ → Option ℤ
int32_of [] = None
int32_of (b ∷ rest) = if b == 45 then negative_int32 (number_of rest) else positive_int32 (number_of (b ∷ rest))

-- ---- ASCII

-- bytes that were looked through: they are ASCII, or the first that is not has this place
abbrev pub ascii_or_fault : List ℕ → Option ℕ → Result (List ℕ) TextFault
ascii_or_fault bytes None = Ok bytes
ascii_or_fault bytes (Some at) = Err (text_faults.NotAscii at)

-- the bytes themselves, or the place of the first above 127
abbrev pub ascii_of : List ℕ → Result (List ℕ) TextFault
ascii_of bytes = ascii_or_fault bytes (position (nat_lt 127) bytes)

-- ---- hexadecimal

-- whether a byte is a lower-case digit
abbrev pub is_hex_digit : ℕ → Bool
is_hex_digit c = is_in_range 48 57 c || is_in_range 97 102 c

-- the value of a digit: `0` to `9`, then `a` to `f`
abbrev pub hex_value : ℕ → ℕ
hex_value c = if nat_lt c 97 then c - 48 else c - 87

-- the byte of two digits
abbrev pub pair_value : ℕ → ℕ → ℕ
pair_value high low = 16 * hex_value high + hex_value low

-- the same, if they are two lower-case digits
abbrev pub pair_of : ℕ → ℕ → Option ℕ
pair_of high low = if is_hex_digit high && is_hex_digit low then Some (pair_value high low) else None

-- the place of the first pair that is not two lower-case digits; a lone last byte counts as a pair
abbrev pub bad_pair : List ℕ → Option ℕ
bad_pair [] = None
bad_pair (lone ∷ []) = Some 0
bad_pair (high ∷ low ∷ rest) = if is_hex_digit high && is_hex_digit low then later 2 (bad_pair rest) else Some 0

-- the bytes of the pairs
abbrev pub pairs_value : List ℕ → List ℕ
pairs_value [] = []
pairs_value (lone ∷ []) = []
pairs_value (high ∷ low ∷ rest) = pair_value high low ∷ pairs_value rest

-- bytes that a text spells, unless it has its first fault at this place
abbrev pub bytes_or_fault : List ℕ → Option ℕ → Result (List ℕ) WordFault
bytes_or_fault bytes None = Ok bytes
bytes_or_fault bytes (Some at) = Err (word_faults.BadWord at)

-- what a text of pairs reads as, behind bytes that were read and as many places from the left
abbrev pub pairs_from : List ℕ → ℕ → List ℕ → Result (List ℕ) WordFault
pairs_from bytes at text = bytes_or_fault (bytes ++ pairs_value text) (later at (bad_pair text))

-- the place of the first fault of a text in hexadecimal, other than `-`; an empty text has its fault at 0
abbrev pub bad_hex : List ℕ → Option ℕ
bad_hex text = if length text == 0 then Some 0 else bad_pair text

-- hexadecimal is `-` for no bytes, else at least one pair of digits and nothing but pairs
abbrev pub hex_of : List ℕ → Result (List ℕ) WordFault
hex_of text = if bytes_eq text (codes "-") then Ok [] else bytes_or_fault (pairs_value text) (bad_hex text)

-- ---- words

-- whether these are `%` and the two digits of a byte that is not plain
abbrev pub is_escape : ℕ → ℕ → ℕ → Bool
is_escape mark high low = mark == 37 && is_hex_digit high && is_hex_digit low && not (is_plain (pair_value high low))

-- the byte of such an escape at the front of a text
abbrev pub escape_of : List ℕ → Option ℕ
escape_of [] = None
escape_of (a ∷ []) = None
escape_of (a ∷ b ∷ []) = None
escape_of (a ∷ b ∷ c ∷ rest) = if is_escape a b c then Some (pair_value b c) else None

-- the place of the first piece that is neither a plain byte nor such an escape
abbrev pub bad_piece : List ℕ → Option ℕ
bad_piece [] = None
bad_piece (a ∷ []) = if is_plain a then None else Some 0
bad_piece (a ∷ b ∷ []) = if is_plain a then later 1 (bad_piece (b ∷ [])) else Some 0
bad_piece (a ∷ b ∷ c ∷ rest) = if is_plain a then later 1 (bad_piece (b ∷ c ∷ rest))
    else if is_escape a b c then later 3 (bad_piece rest)
    else Some 0

-- the bytes of the pieces
abbrev pub pieces_value : List ℕ → List ℕ
pieces_value [] = []
pieces_value (a ∷ []) = a ∷ []
pieces_value (a ∷ b ∷ []) = a ∷ b ∷ []
pieces_value (a ∷ b ∷ c ∷ rest) = if a == 37 then pair_value b c ∷ pieces_value rest else a ∷ pieces_value (b ∷ c ∷ rest)

-- what a text of pieces reads as, behind bytes that were read and as many places from the left
abbrev pub pieces_from : List ℕ → ℕ → List ℕ → Result (List ℕ) WordFault
pieces_from bytes at text = bytes_or_fault (bytes ++ pieces_value text) (later at (bad_piece text))

-- The place of the first piece that no word writes there, of a text other than `-`. A word begins with `%40` and never with
-- `@`, and it is `%2d` where that is all of it. An empty text has its fault at 0.
abbrev pub bad_word : List ℕ → Option ℕ
bad_word text = if length text == 0 || slice_index text 0 == 64 then Some 0
    else if bytes_eq text (codes "%2d") then None
    else if starts_with nat_eq text (codes "%40") then later 3 (bad_piece (drop 3 text))
    else bad_piece text

-- a word is `-` for no bytes, else pieces that a word writes where they stand
abbrev pub word_of : List ℕ → Result (List ℕ) WordFault
word_of text = if bytes_eq text (codes "-") then Ok [] else bytes_or_fault (pieces_value text) (bad_word text)

-- ---- addresses

-- the place of the first `://`
abbrev pub scheme_end : List ℕ → Option ℕ
scheme_end [] = None
scheme_end (b ∷ rest) = if starts_with nat_eq (b ∷ rest) (codes "://") then Some 0 else later 1 (scheme_end rest)

-- what stands before a separator of this length at this place, and what stands after it
abbrev pub cut : ℕ → AddressFault → List ℕ → Option ℕ → Result (List ℕ × List ℕ) AddressFault
cut len fault text None = Err fault
cut len fault text (Some at) = Ok (take at text, drop (at + len) text)

-- the four texts between the separators
pub record Parts : Type 0 where
  pub protocol : List ℕ
  pub system : List ℕ
  pub host : List ℕ
  pub port : List ℕ

-- a text is split at the first `://`, then at the first `@`, then at the first `:`
abbrev pub parts_of : List ℕ → Result Parts AddressFault
parts_of text = do
  scheme ← cut 3 address_faults.NoScheme text (scheme_end text)
  system ← cut 1 address_faults.NoAt scheme.1 (position (λ b. b == 64) scheme.1)
  host ← cut 1 address_faults.NoPort system.1 (position (λ b. b == 58) system.1)
  Ok (record { protocol = scheme.0; system = system.0; host = host.0; port = host.1 })

-- the first part whose length is not 1 to 255
abbrev pub bad_length : Parts → Option AddressFault
bad_length p = if not (is_in_range 1 255 (length p.protocol)) then Some (address_faults.PartLength Protocol (length p.protocol))
    else if not (is_in_range 1 255 (length p.system)) then Some (address_faults.PartLength System (length p.system))
    else if not (is_in_range 1 255 (length p.host)) then Some (address_faults.PartLength Host (length p.host))
    else None

-- the place in the whole text of the first byte of a part, which begins at this place, that no part may have
abbrev pub bad_byte : ℕ → List ℕ → Option ℕ
bad_byte from part = later from (position (λ b. not (is_part_byte b)) part)

-- the first such byte of the parts; three bytes stand before the system and one before the host
abbrev pub bad_char : Parts → Option ℕ
bad_char p = option_or (bad_byte 0 p.protocol)
    (option_or (bad_byte (length p.protocol + 3) p.system) (bad_byte (length p.protocol + 3 + length p.system + 1) p.host))

-- a port is a number from 1 to 65,535
abbrev pub port_number : Option ℕ → Option ℕ
port_number None = None
port_number (Some n) = if is_in_range 1 65535 n then Some n else None

-- the address of four parts, if its port is a number that a port may be
abbrev pub with_port : Parts → Option ℕ → Result Address AddressFault
with_port p None = Err address_faults.PortRange
with_port p (Some n) = Ok (record { protocol = p.protocol; system = p.system; host = p.host; port = n })

-- the first byte that no part may have is told; without one the port decides
abbrev pub after_chars : Parts → Option ℕ → Result Address AddressFault
after_chars p (Some at) = Err (address_faults.BadChar at)
after_chars p None = with_port p (port_number (number_of p.port))

-- the first part of a wrong length is told; without one the bytes decide
abbrev pub after_lengths : Parts → Option AddressFault → Result Address AddressFault
after_lengths p (Some fault) = Err fault
after_lengths p None = after_chars p (bad_char p)

-- lengths are tried first, then the bytes, then the port
abbrev pub address_in : Parts → Result Address AddressFault
address_in p = after_lengths p (bad_length p)

-- an address is a text with the three separators whose parts are good
abbrev pub address_of : List ℕ → Result Address AddressFault
address_of text = parts_of text >>= address_in

-- the place of the last `#`
abbrev pub last_hash : List ℕ → Option ℕ
last_hash [] = None
last_hash (b ∷ rest) = option_or (later 1 (last_hash rest)) (if b == 35 then Some 0 else None)

-- a unique address of the text before the `#`, if a number stands behind it
abbrev pub with_uid : List ℕ → Option ℕ → Result UniqueAddress AddressFault
with_uid text None = Err address_faults.NoUid
with_uid text (Some uid) = address_of text >>= λ a. Ok (record { address = a; uid = uid })

-- a unique address needs a `#`; the last one parts the address from the UID
abbrev pub split_uid : List ℕ → Option ℕ → Result UniqueAddress AddressFault
split_uid text None = Err address_faults.NoUid
split_uid text (Some at) = with_uid (take at text) (number_of (drop (at + 1) text))

-- the UID stands after the last `#`; it is tried first, then the address before it
abbrev pub unique_of : List ℕ → Result UniqueAddress AddressFault
unique_of text = split_uid text (last_hash text)
