-- How many bytes the canonical payload of a control message has at most.
use Rattle.std.specs.Prelude.{ℕ, ◌+◌, ◌*◌, ◌≤◌, List, [], ◌∷◌, length}
use Rattle.artery_control.specs.declared.control.Control.{Control}
use Rattle.artery_control.specs.declared.control.Control.TheVariants as controls
use Rattle.artery_control.specs.Payload.{payload_of}
use Rattle.artery_control.specs.Valid.{IsValid}

-- how many bytes the keys have together
abbrev pub keys_length : List (List ℕ) → ℕ
keys_length [] = 0
keys_length (key ∷ keys) = length key + keys_length keys

-- The most bytes of a payload: a table has those of its keys, 8 more for each of them and 850; a numbered message has those of the message's manifest and payload and 850 more; any other has 1,600.
abbrev pub most_length : Control → ℕ
most_length (controls.RefsTable from origin version keys values sequence) = keys_length keys + 8 * length keys + 850
most_length (controls.ManifestsTable from origin version keys values sequence) = keys_length keys + 8 * length keys + 850
most_length (controls.Numbered n message reply_to) = length message.manifest + length message.payload + 850
most_length _ = 1600

-- the payload of a valid message has no more
abbrev pub PayloadIsShort : Type 0
PayloadIsShort = (control : Control) → IsValid control → length (payload_of control) ≤ most_length control
