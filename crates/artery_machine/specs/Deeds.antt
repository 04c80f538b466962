-- What a node does, with what it writes as values, and the bytes of each.
use Rattle.std.specs.Prelude.{ℕ, List, map}
use Rattle.artery_base.specs.declared.address.Address.{Address}
use Rattle.artery_frame.specs.declared.stream.Stream.{Stream}
use Rattle.artery_frame.specs.Stream.{preamble, framed}
use Rattle.artery_header.specs.Envelope.{EnvelopeOf, canonical}
use Rattle.artery_control.specs.declared.control.Control.{Control}
use Rattle.artery_control_frame.specs.ControlFrame.{control_frame}
use Rattle.artery_journal.specs.declared.line.Line.{Line}
use Rattle.artery_machine.specs.declared.input.Conn.{Conn}
use Rattle.artery_machine.specs.declared.effect.Effect.{Effect}
use Rattle.artery_machine.specs.declared.effect.Effect.TheVariants as effects

-- What is written on a connection: what it carries, a control message, or an ordinary message as the envelope that it is.
pub data Writing : Type 0 where
  Begins : Stream → Writing
  Controls : Control → Writing
  Sends : EnvelopeOf → Writing

-- One thing that a node does: it dials an address, writes on a connection that it dialed, hangs up, or tells a line.
pub data Deed : Type 0 where
  Dials : ℕ → Address → Deed
  Writes : ℕ → Writing → Deed
  Hangs : Conn → Deed
  Tells : Line → Deed

-- The bytes of what the node with this UID writes: the preamble, or the canonical frame.
abbrev pub bytes_of : ℕ → Writing → List ℕ
bytes_of uid (Begins stream) = preamble stream
bytes_of uid (Controls control) = control_frame control uid
bytes_of uid (Sends envelope) = framed (canonical envelope)

-- The same deed, with bytes.
abbrev pub effect_of : ℕ → Deed → Effect
effect_of uid (Dials dial address) = effects.Dial dial address
effect_of uid (Writes dial writing) = effects.Write dial (bytes_of uid writing)
effect_of uid (Hangs conn) = effects.Hang conn
effect_of uid (Tells line) = effects.Line line

-- Deeds in order, with their bytes.
abbrev pub effects_of : ℕ → List Deed → List Effect
effects_of uid deeds = map (effect_of uid) deeds
