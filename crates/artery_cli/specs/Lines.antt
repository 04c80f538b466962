-- The envelopes that a line can tell.
use Rattle.std.specs.Prelude.{◌≤◌}
use Rattle.artery_base.specs.Valid.{AreBytes}
use Rattle.artery_header.specs.Envelope.{EnvelopeOf, HasTexts, IsEnvelope}

-- its numbers fit into their fields, its literals are ASCII, and its payload consists of bytes
pub record CanBeTold (e : EnvelopeOf) : Type 0 where
  pub numbers : IsEnvelope e
  pub refs : e.refs_version ≤ 255
  pub manifests : e.manifests_version ≤ 255
  pub texts : HasTexts e
  pub payload : AreBytes e.payload
