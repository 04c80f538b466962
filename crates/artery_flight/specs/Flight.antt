-- What is on a connection of a network, from its first byte on.
use Rattle.std.specs.Prelude.{◌≡◌, ◌≤◌, ◌<◌, ◌^◌, ℕ, Bool, true, false, List, [], ◌∷◌, length, map, take, None, Ok, Option, Some}
use Rattle.std.specs.List.{AllByRecursion}
use Rattle.artery_base.specs.declared.address.UniqueAddress.{UniqueAddress}
use Rattle.artery_base.specs.Words.{IsPrefix}
use Rattle.artery_frame.specs.declared.stream.Stream.{Stream}
use Rattle.artery_frame.specs.Stream.{preamble, written, IsShort, reading_of}
use Rattle.artery_header.specs.Envelope.{EnvelopeOf, IsEnvelope, HasTexts, canonical, refusal, read_of}
use Rattle.artery_control.specs.declared.control.Control.{Control}
use Rattle.artery_control.specs.Message.{message_of}
use Rattle.artery_control.specs.Payload.{payload_of, letter_of}
use Rattle.artery_control.specs.Valid.{IsValid}
use Rattle.artery_control_frame.specs.ControlFrame.{control_envelope, most_payload}
use Rattle.artery_machine.specs.Deeds.{Writing, Begins, Controls, Sends, bytes_of}
use Rattle.artery_machine.specs.Ways.{Wrote, bytes_on, whole_ways}
use Rattle.artery_machine.specs.Connections.{Connection}

-- Whether something that is written is a frame, and no preamble.
abbrev pub is_frame : Writing → Bool
is_frame (Begins stream) = false
is_frame (Controls control) = true
is_frame (Sends envelope) = true

-- The frame of a message of the node with this UID: the canonical bytes of its envelope.
abbrev pub frame_of : ℕ → Writing → List ℕ
frame_of uid (Begins stream) = []
frame_of uid (Controls control) = canonical (control_envelope control uid)
frame_of uid (Sends envelope) = canonical envelope

-- A preamble was written, with its bytes.
pub record IsPreamble (w : Wrote) : Type 0 where
  pub stream : Stream
  pub writing : w.writing ≡ Begins stream
  pub bytes : w.bytes ≡ preamble stream

-- The node with this UID wrote a frame, with its bytes.
pub record IsFrameBy (uid : ℕ) (w : Wrote) : Type 0 where
  pub frame : is_frame w.writing ≡ true
  pub bytes : w.bytes ≡ bytes_of uid w.writing

-- The node with this UID wrote frames.
abbrev pub AreFramesBy : ℕ → List Wrote → Type 0
AreFramesBy uid [] = Unit {0}
AreFramesBy uid (w ∷ ws) = IsFrameBy uid w × AreFramesBy uid ws

-- The node with this UID wrote nothing, or a preamble and behind it frames.
abbrev pub IsStreamBy : ℕ → List Wrote → Type 0
IsStreamBy uid [] = Unit {0}
IsStreamBy uid (w ∷ ws) = IsPreamble w × AreFramesBy uid ws

-- What its dialer wrote on a connection is a stream, and no more of its bytes were delivered than were written.
pub record IsInFlight (c : Connection whole_ways) : Type 0 where
  pub written : IsStreamBy c.dialer c.way.all
  pub delivered : c.way.delivered ≤ length (bytes_on c.way)

-- A handshake request on a connection bears the UID of who dialed it, and the number of the dial as its nonce.
pub record IsRequestOn (c : Connection whole_ways) (v : UniqueAddress) (its_nonce : Option ℕ) : Type 0 where
  pub from : v.uid ≡ c.dialer
  pub nonce : its_nonce ≡ Some c.dial

-- The bytes that the far side of a connection had.
abbrev pub had_on : Connection whole_ways → List ℕ
had_on c = take c.way.delivered (bytes_on c.way)

-- The frames of what the node with this UID wrote.
abbrev pub frames_by : ℕ → List Wrote → List (List ℕ)
frames_by uid ws = map (λ (w : Wrote). frame_of uid w.writing) ws

-- The bytes that stand for what the node with this UID wrote: none, or the preamble and the canonical frames behind it, in order.
abbrev pub AreBytesOf : ℕ → List ℕ → List Wrote → Type 0
AreBytesOf uid bytes [] = bytes ≡ []
AreBytesOf uid bytes (w ∷ ws) = (stream : Stream) × (w.writing ≡ Begins stream) × (bytes ≡ written stream (frames_by uid ws))

-- Bytes that were had of what the node with this UID wrote: their reading has no fault, and its frames are the first of those that were written, where no frame is too long.
abbrev pub WereHadOf : ℕ → List ℕ → List Wrote → Type 0
WereHadOf uid had [] = had ≡ []
WereHadOf uid had (w ∷ ws) = AllByRecursion IsShort (frames_by uid ws) → ((reading_of had).end ≡ None) × IsPrefix (reading_of had).frames (frames_by uid ws)

-- The frame of a valid control message whose payload has room in it is read as its envelope, and that as the message.
abbrev pub ControlIsReadBack : Type 0
ControlIsReadBack =
    (control : Control) (uid : ℕ) → IsValid control → uid < 2 ^ 64 → length (payload_of control) ≤ most_payload
    → (read_of (frame_of uid (Controls control)) ≡ Ok (control_envelope control uid)) × (message_of (letter_of control ∷ []) (payload_of control) ≡ Ok control)

-- The frame of an ordinary message that is an envelope of texts and is not refused is read as its envelope.
abbrev pub OrdinaryIsReadBack : Type 0
OrdinaryIsReadBack = (envelope : EnvelopeOf) (uid : ℕ) → IsEnvelope envelope → HasTexts envelope → refusal envelope ≡ None → read_of (frame_of uid (Sends envelope)) ≡ Ok envelope
