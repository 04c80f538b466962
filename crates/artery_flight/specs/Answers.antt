-- Who dialed whom, as the nodes of a network know it: by answers to handshakes, by connections that are bound, and by inbound connections that are known.
use Rattle.std.specs.Prelude.{◌≡◌, ℕ, false, List, [], ◌∷◌, slice_get, Option, Some, Ok}
use Rattle.artery_base.specs.declared.address.UniqueAddress.{UniqueAddress}
use Rattle.artery_frame.specs.Stream.{IsShort}
use Rattle.artery_header.specs.Envelope.{read_of}
use Rattle.artery_control.specs.Message.{message_of}
use Rattle.artery_control.specs.Payload.{payload_of, letter_of}
use Rattle.artery_control_frame.specs.ControlFrame.{control_envelope}
use Rattle.artery_machine.specs.Deeds.{Writing, Begins, Controls, Sends}
use Rattle.artery_machine.specs.Verdict.{is_control_serializer}
use Rattle.artery_machine.specs.Ways.{Wrote, whole_ways}
use Rattle.artery_machine.specs.Connections.{Connection}
use Rattle.artery_flight.specs.Flight.{frame_of, had_on}

-- What the node with this UID writes is a frame that is not too long and is read back: a control message as itself, and an ordinary message as its envelope, which is not that of a control message. A preamble is no frame.
abbrev pub IsReadBack : ℕ → Writing → Type 0
IsReadBack uid (Begins stream) = Unit {0}
IsReadBack uid (Controls control) =
    IsShort (frame_of uid (Controls control)) × (read_of (frame_of uid (Controls control)) ≡ Ok (control_envelope control uid)) × (message_of (letter_of control ∷ []) (payload_of control) ≡ Ok control)
IsReadBack uid (Sends envelope) =
    IsShort (frame_of uid (Sends envelope)) × (read_of (frame_of uid (Sends envelope)) ≡ Ok envelope) × (is_control_serializer envelope.serializer ≡ false)

-- Each frame that was written on one of these connections is read back.
abbrev pub AreReadBack : List (Connection whole_ways) → Type 0
AreReadBack cs = (i j : ℕ) (c : Connection whole_ways) (x : Wrote) → slice_get cs i ≡ Some c → slice_get c.way.all j ≡ Some x → IsReadBack c.dialer x.writing

-- There is a connection with this dialer and dial number, and it reaches this incarnation.
pub record Reaches (cs : List (Connection whole_ways)) (uid dial far : ℕ) : Type 0 where
  pub place : ℕ
  pub connection : Connection whole_ways
  pub there : slice_get cs place ≡ Some connection
  pub dialer : connection.dialer ≡ uid
  pub number : connection.dial ≡ dial
  pub reaches : connection.far ≡ far

-- There is a connection that reaches this incarnation under this number, and it was dialed by that one, with the nonce as its dial number.
pub record WasDialed (cs : List (Connection whole_ways)) (uid number : ℕ) (who : UniqueAddress) (its_nonce : Option ℕ) : Type 0 where
  pub place : ℕ
  pub connection : Connection whole_ways
  pub there : slice_get cs place ≡ Some connection
  pub far : connection.far ≡ uid
  pub inward : connection.number ≡ number
  pub dialer : who.uid ≡ connection.dialer
  pub dial : its_nonce ≡ Some connection.dial

-- A handshake answer on a connection bears the UID of who dialed that; and it names the connection for which it is, by the UID of its dialer and the number of its dial, and this one reaches the one that answers.
pub record IsAnswerOn (cs : List (Connection whole_ways)) (c : Connection whole_ways) (v : UniqueAddress) (for_uid its_nonce : Option ℕ) : Type 0 where
  pub from : v.uid ≡ c.dialer
  pub uid : ℕ
  pub dial : ℕ
  pub asked : for_uid ≡ Some uid
  pub nonce : its_nonce ≡ Some dial
  pub reaches : Reaches cs uid dial v.uid

-- There is a connection that reaches this incarnation under this number, and these are the bytes that were delivered on it.
pub record WereDelivered (cs : List (Connection whole_ways)) (uid number : ℕ) (bytes : List ℕ) : Type 0 where
  pub place : ℕ
  pub connection : Connection whole_ways
  pub there : slice_get cs place ≡ Some connection
  pub far : connection.far ≡ uid
  pub inward : connection.number ≡ number
  pub had : bytes ≡ had_on connection
