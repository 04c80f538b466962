-- What is read from the fields of a line of a script or of a node's requests.
use Rattle.std.specs.Prelude.{◌≡◌, ℕ, ℤ, ◌+◌, Bool, true, false, ◌==◌, nat_lt, if◌then◌else◌, List, [], ◌∷◌, length, take, drop, position, codes, bytes_eq, Option, None, Some, Result, Ok, Err}
use Rattle.std.specs.Ordering.{int_eq}
use Rattle.std.specs.Int.{is_in_range}
use Rattle.std.specs.Result.{result_ok}
use Rattle.artery_base.specs.declared.address.Address.{Address}
use Rattle.artery_base.specs.declared.message.SysMsg.{SysMsg}
use Rattle.artery_base.specs.declared.message.Tell.{Tell}
use Rattle.artery_base.specs.declared.message.Request.{Request}
use Rattle.artery_base.specs.declared.message.Request.TheVariants as requests
use Rattle.artery_text.specs.Reading.{number_of, int32_of, ascii_of, hex_of, word_of, address_of}
use Rattle.artery_lines.specs.declared.fault.LineFault.{LineFault}
use Rattle.artery_lines.specs.declared.fault.LineFault.TheVariants as line_faults
use Rattle.artery_lines.specs.Lines.{◌>>=◌, tokens_of}
use Rattle.artery_script.specs.declared.event.Event.{Event}
use Rattle.artery_script.specs.declared.event.Event.TheVariants as events
use Rattle.artery_script.specs.Limits.{moment_end, most_rounds, most_payload, most_name, most_reference, most_path}
use Rattle.artery_script.specs.Valid.{control_serializer, is_actor_path}

-- ---- how fields are read

-- what was read, with the fields that are left
abbrev pub with_rest : {X : Type 0} → List (List ℕ) → Option X → Option (X × List (List ℕ))
with_rest left None = None
with_rest left (Some x) = Some (x, left)

-- the first field, read so
abbrev pub field : {X : Type 0} → (List ℕ → Option X) → List (List ℕ) → Option (X × List (List ℕ))
field told [] = None
field told (text ∷ left) = with_rest left (told text)

-- what the first reading gives, and what the second gives from the fields behind it
abbrev pub both : {A B : Type 0} → (List (List ℕ) → Option (A × List (List ℕ))) → (List (List ℕ) → Option (B × List (List ℕ))) → List (List ℕ) → Option ((A × B) × List (List ℕ))
both first second fields = first fields >>= λ a. second a.1 >>= λ b. Some ((a.0, b.0), b.1)

-- what is made of that which was read
abbrev pub made : {A B : Type 0} → (A → B) → (List (List ℕ) → Option (A × List (List ℕ))) → List (List ℕ) → Option (B × List (List ℕ))
made make read fields = read fields >>= λ a. Some (make a.0, a.1)

-- what was read, where no field is left; with a field too many the line tells nothing
abbrev pub ended : {X : Type 0} → X × List (List ℕ) → Option X
ended read = if length read.1 == 0 then Some read.0 else None

-- reading gives a value and leaves some fields, unless memory ran out
abbrev pub Reads : {X : Type 0} → Result X LineFault → List (List ℕ) → Option (X × List (List ℕ)) → Type 0
Reads (Ok x) left told = told ≡ Some (x, left)
Reads (Err line_faults.BadLine) left told = told ≡ None
Reads (Err line_faults.NoMemory) left told = Unit {0}

-- ---- one field

-- an address
abbrev pub address_told : List ℕ → Option Address
address_told text = result_ok (address_of text)

-- bytes that a field spells as a word
abbrev pub word_told : List ℕ → Option (List ℕ)
word_told text = result_ok (word_of text)

-- bytes that a field spells in hexadecimal
abbrev pub hex_told : List ℕ → Option (List ℕ)
hex_told text = result_ok (hex_of text)

-- bytes, where they are ASCII
abbrev pub ascii_told : List ℕ → Option (List ℕ)
ascii_told bytes = result_ok (ascii_of bytes)

-- bytes, where they are no more than this
abbrev pub no_longer : ℕ → List ℕ → Option (List ℕ)
no_longer most bytes = if nat_lt most (length bytes) then None else Some bytes

-- a manifest of a system message
abbrev pub manifest_told : List ℕ → Option (List ℕ)
manifest_told text = word_told text >>= no_longer most_name

-- a payload
abbrev pub payload_told : List ℕ → Option (List ℕ)
payload_told text = hex_told text >>= no_longer most_payload

-- a sender, a recipient or a manifest of an ordinary message: such a word, of ASCII bytes
abbrev pub name_told : List ℕ → Option (List ℕ)
name_told text = manifest_told text >>= ascii_told

-- a serializer other than that of control messages
abbrev pub not_control : ℤ → Option ℤ
not_control z = if int_eq z control_serializer then None else Some z

-- the serializer of an ordinary message
abbrev pub ordinary_told : List ℕ → Option ℤ
ordinary_told text = int32_of text >>= not_control

-- a number that is a moment
abbrev pub as_moment : ℕ → Option ℕ
as_moment n = if nat_lt n moment_end then Some n else None

-- a moment
abbrev pub moment_told : List ℕ → Option ℕ
moment_told text = number_of text >>= as_moment

-- a number that counts at least one
abbrev pub as_count : ℕ → Option ℕ
as_count n = if n == 0 then None else Some n

-- how many bytes arrive
abbrev pub count_told : List ℕ → Option ℕ
count_told text = number_of text >>= as_count

-- a number of rounds that one line lets pass
abbrev pub as_rounds : ℕ → Option ℕ
as_rounds n = if is_in_range 1 most_rounds n then Some n else None

-- how many rounds pass
abbrev pub rounds_told : List ℕ → Option ℕ
rounds_told text = number_of text >>= as_rounds

-- one dial's number, or `all`
abbrev pub dials_told : List ℕ → Option (Option ℕ)
dials_told text = if bytes_eq text (codes "all") then Some None else (number_of text >>= λ dial. Some (Some dial))

-- the path of an actor
abbrev pub actor_path_told : List ℕ → Option (List ℕ)
actor_path_told text = if is_actor_path text then ascii_told text else None

-- such a path, not too long
abbrev pub path_told : List ℕ → Option (List ℕ)
path_told text = actor_path_told text >>= no_longer most_path

-- whether a byte is `/`
abbrev pub is_slash : ℕ → Bool
is_slash b = b == 47

-- where the path of an actor begins behind its system's address: an address has the two slashes of its `://`, so at the third
abbrev pub path_start : List ℕ → Option ℕ
path_start text = do
  first ← position is_slash text
  second ← position is_slash (drop (first + 1) text)
  third ← position is_slash (drop (second + 1) (drop (first + 1) text))
  Some (first + second + third + 2)

-- an actor whose path begins at this place: before it stands an address
abbrev pub actor_at : List ℕ → ℕ → Option (List ℕ)
actor_at text at = address_told (take at text) >>= λ address. if is_actor_path (drop at text) then ascii_told text else None

-- an actor of a system
abbrev pub actor_told : List ℕ → Option (List ℕ)
actor_told text = path_start text >>= actor_at text

-- such an actor, not too long
abbrev pub reference_told : List ℕ → Option (List ℕ)
reference_told text = actor_told text >>= no_longer most_reference

-- ---- messages

-- a system message
abbrev pub message_in : List (List ℕ) → Option (SysMsg × List (List ℕ))
message_in = made (λ p. record { serializer = p.0; manifest = p.1.0; payload = p.1.1 }) (both (field int32_of) (both (field manifest_told) (field payload_told)))

-- an ordinary message
abbrev pub tell_in : List (List ℕ) → Option (Tell × List (List ℕ))
tell_in = made (λ p. record { sender = p.0.0; recipient = p.0.1; serializer = p.1.0; manifest = p.1.1.0; payload = p.1.1.1 })
    (both (both (field name_told) (field name_told)) (both (field ordinary_told) (both (field name_told) (field payload_told))))

-- ---- requests

-- an address and a system message for it
abbrev pub address_message : List (List ℕ) → Option ((Address × SysMsg) × List (List ℕ))
address_message = both (field address_told) message_in

-- an address and an ordinary message for it
abbrev pub address_tell : List (List ℕ) → Option ((Address × Tell) × List (List ℕ))
address_tell = both (field address_told) tell_in

-- an actor's path and another actor
abbrev pub path_reference : List (List ℕ) → Option ((List ℕ × List ℕ) × List (List ℕ))
path_reference = both (field path_told) (field reference_told)

-- a request that bears a message, by its word
abbrev pub bearing_named : List ℕ → List (List ℕ) → Option (Request × List (List ℕ))
bearing_named word fields = if bytes_eq word (codes "send") then made (λ p. requests.Send p.0 p.1) address_message fields
    else if bytes_eq word (codes "tell") then made (λ p. requests.Tell p.0 p.1) address_tell fields
    else None

-- a request, by its word
abbrev pub request_named : List ℕ → List (List ℕ) → Option (Request × List (List ℕ))
request_named word fields = if bytes_eq word (codes "pair") then made (λ a. requests.Pair a) (field address_told) fields
    else if bytes_eq word (codes "watch") then made (λ p. requests.Watch p.0 p.1) path_reference fields
    else if bytes_eq word (codes "unwatch") then made (λ p. requests.Unwatch p.0 p.1) path_reference fields
    else if bytes_eq word (codes "spawn") then made (λ p. requests.Spawn p) (field path_told) fields
    else if bytes_eq word (codes "kill") then made (λ p. requests.Kill p) (field path_told) fields
    else if bytes_eq word (codes "quarantine") then made (λ a. requests.Quarantine a) (field address_told) fields
    else bearing_named word fields

-- the word that a format begins with, and what is told behind it
abbrev pub by_word : {X : Type 0} → (List ℕ → List (List ℕ) → Option (X × List (List ℕ))) → List (List ℕ) → Option (X × List (List ℕ))
by_word named [] = None
by_word named (word ∷ fields) = named word fields

-- a request that bears a message: its word, and what it asks
abbrev pub bearing_in : List (List ℕ) → Option (Request × List (List ℕ))
bearing_in = by_word bearing_named

-- a request: its word, and what it asks
abbrev pub request_in : List (List ℕ) → Option (Request × List (List ℕ))
request_in = by_word request_named

-- a request line of a node: `same` and a request that bears a message, or a request
abbrev pub asked_named : List ℕ → List (List ℕ) → Option ((Bool × Request) × List (List ℕ))
asked_named word fields = if bytes_eq word (codes "same") then made (λ r. (true, r)) bearing_in fields
    else made (λ r. (false, r)) (request_named word) fields

-- the request that a line of a node tells, if it tells one, and whether `same` stands before it
abbrev pub asked_of : List ℕ → Option (Bool × Request)
asked_of text = by_word asked_named (tokens_of text) >>= ended

-- ---- events

-- two numbers
abbrev pub two_numbers : List (List ℕ) → Option ((ℕ × ℕ) × List (List ℕ))
two_numbers = both (field number_of) (field number_of)

-- a UID, and one dial or all
abbrev pub uid_dials : List (List ℕ) → Option ((ℕ × Option ℕ) × List (List ℕ))
uid_dials = both (field number_of) (field dials_told)

-- the near side of one connection ends, or of all
abbrev pub cut_of : ℕ → Option ℕ → Event
cut_of uid None = events.CutAll uid
cut_of uid (Some dial) = events.Cut uid dial

-- the far side of one connection ends, or of all
abbrev pub end_of : ℕ → Option ℕ → Event
end_of uid None = events.EndAll uid
end_of uid (Some dial) = events.End uid dial

-- events of dials and connections, by their word
abbrev pub connection_named : List ℕ → List (List ℕ) → Option (Event × List (List ℕ))
connection_named word fields = if bytes_eq word (codes "answer") then made (λ p. events.Answer p.0 p.1) two_numbers fields
    else if bytes_eq word (codes "fail") then made (λ p. events.Fail p.0 p.1) two_numbers fields
    else if bytes_eq word (codes "carry") then made (λ p. events.Carry p.0.0 p.0.1 p.1) (both two_numbers (field count_told)) fields
    else if bytes_eq word (codes "cut") then made (λ p. cut_of p.0 p.1) uid_dials fields
    else if bytes_eq word (codes "end") then made (λ p. end_of p.0 p.1) uid_dials fields
    else if bytes_eq word (codes "pass") then made (λ n. events.Pass n) (field rounds_told) fields
    else None

-- events of incarnations, by their word; then those above
abbrev pub event_named : List ℕ → List (List ℕ) → Option (Event × List (List ℕ))
event_named word fields = if bytes_eq word (codes "start") then made (λ p. events.Start (record { address = p.0; uid = p.1 })) (both (field address_told) (field number_of)) fields
    else if bytes_eq word (codes "stop") then made (λ n. events.Stop n) (field number_of) fields
    else if bytes_eq word (codes "at") then made (λ p. events.At p.0 p.1) (both (field number_of) request_in) fields
    else if bytes_eq word (codes "tick") then made (λ p. events.Tick p.0 p.1) (both (field number_of) (field moment_told)) fields
    else connection_named word fields

-- the event that a line of a script tells, if it tells one
abbrev pub event_of : List ℕ → Option Event
event_of text = by_word event_named (tokens_of text) >>= ended
