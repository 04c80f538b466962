-- What always holds of what a frame says.
use Rattle.artery_control.specs.Valid.{IsValid}
use Rattle.artery_header.specs.Envelope.{HasTexts, envelope_of}
use Rattle.artery_verdict.specs.declared.content.Content.{Content}
use Rattle.artery_verdict.specs.declared.content.Content.TheVariants as told

-- A control message is valid, and the names in the envelope of an ordinary message are ASCII.
abbrev pub IsGood : Content → Type 0
IsGood (told.Control control) = IsValid control
IsGood (told.Ordinary envelope message) = HasTexts (envelope_of envelope)
