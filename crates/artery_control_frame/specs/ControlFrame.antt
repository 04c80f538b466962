-- The envelope and the frame of a control message.
use Rattle.std.specs.Prelude.{◌≡◌, ℕ, ◌+◌, ◌^◌, ◌<◌, ◌≤◌, ℤ, pos, Bool, true, false, List, [], ◌∷◌, length, Option, Some, None, Result, Ok, Err}
use Rattle.artery_base.specs.Words.{Unless}
use Rattle.artery_frame.specs.Stream.{framed}
use Rattle.artery_header.specs.declared.fault.EncodeFault.{EncodeFault}
use Rattle.artery_header.specs.declared.fault.EncodeFault.TheVariants as faults
use Rattle.artery_header.specs.Envelope.{NameOf, Literal, EnvelopeOf, canonical, refusal, read_of}
use Rattle.artery_control.specs.declared.control.Control.{Control}
use Rattle.artery_control.specs.Message.{message_of}
use Rattle.artery_control.specs.Payload.{payload_of, letter_of}
use Rattle.artery_control.specs.Valid.{IsValid}

-- the serializer of all control messages
abbrev pub control_serializer : ℤ
control_serializer = pos 17

-- The envelope of a control message of the incarnation with this UID: serializer 17, an empty sender, an empty recipient, the letter as a literal manifest, both table versions 0, and the canonical payload.
abbrev pub control_envelope : Control → ℕ → EnvelopeOf
control_envelope control uid = record {
  uid = uid;
  refs_version = 0;
  manifests_version = 0;
  serializer = control_serializer;
  sender = Literal [];
  recipient = Literal [];
  manifest = Literal (letter_of control ∷ []);
  payload = payload_of control;
}

-- the same envelope before its payload is written
abbrev pub control_head : Control → ℕ → EnvelopeOf
control_head control uid = record (control_envelope control uid) { payload = [] }

-- the frame: the length of the envelope, and the envelope
abbrev pub control_frame : Control → ℕ → List ℕ
control_frame control uid = framed (canonical (control_envelope control uid))

-- the most bytes of a payload that a frame of 262,144 bytes has room for, beside 28 of the header, 2 for the length of each of three names, and the letter
abbrev pub most_payload : ℕ
most_payload = 262109

-- whether a fault is want of memory
abbrev pub is_memory : EncodeFault → Bool
is_memory faults.NoMemory = true
is_memory _ = false

-- the answer is Ok where the envelope is not refused, and else the refusal, want of memory aside
abbrev pub Answers : Result (Unit {0}) EncodeFault → Option EncodeFault → Type 0
Answers (Ok done) refused = refused ≡ None
Answers (Err fault) refused = Unless (is_memory fault) (refused ≡ Some fault)

-- the envelope of a control message has 35 bytes and its payload
abbrev pub EnvelopeHasLength : Type 0
EnvelopeHasLength = (control : Control) (uid : ℕ) → length (canonical (control_envelope control uid)) ≡ 35 + length (payload_of control)

-- a control message is refused no frame where its payload has room in one
abbrev pub FrameHasRoom : Type 0
FrameHasRoom = (control : Control) (uid : ℕ) → length (payload_of control) ≤ most_payload → refusal (control_envelope control uid) ≡ None

-- the bytes of the envelope are read as the envelope, and its manifest and its payload as the message
abbrev pub FrameIsRead : Type 0
FrameIsRead =
    (control : Control) (uid : ℕ) → IsValid control → uid < 2 ^ 64 → length (payload_of control) ≤ most_payload
    → (read_of (canonical (control_envelope control uid)) ≡ Ok (control_envelope control uid)) × (message_of (letter_of control ∷ []) (payload_of control) ≡ Ok control)
