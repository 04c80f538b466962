use Rattle.std.proofs.Common.{◌≡◌, drop}
use Rattle.std.specs.Prelude.{◌&&◌}
use Rattle.artery_header.specs.Envelope.{is_text}
use Rattle.artery_header.proofs.numbers.is_text.Given as goal

abbrev pub invariant-loop-byte : goal.invariant-loop-byte
invariant-loop-byte l = (l.ascii && is_text (drop l.byte-index l.bytes)) ≡ is_text l.bytes
