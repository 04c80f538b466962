-- What was written is read again.
use Rattle.std.specs.Prelude.{◌≡◌, [], ◌∷◌, Ok}
use Rattle.artery_control.specs.declared.control.Control.{Control}
use Rattle.artery_control.specs.Message.{message_of}
use Rattle.artery_control.specs.Payload.{payload_of, letter_of}
use Rattle.artery_control.specs.Valid.{IsValid}

-- the canonical payload of a valid message is read as the message
abbrev pub WrittenIsReadAgain : Type 0
WrittenIsReadAgain = (control : Control) → IsValid control → message_of (letter_of control ∷ []) (payload_of control) ≡ Ok control
