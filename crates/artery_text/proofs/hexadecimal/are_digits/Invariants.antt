use Rattle.std.proofs.Common.{◌≡◌, drop}
use Rattle.std.specs.Prelude.{◌&&◌}
use Rattle.std.specs.List.{list_all}
use Rattle.artery_text.specs.Reading.{is_hex_digit}
use Rattle.artery_text.proofs.hexadecimal.are_digits.Given as goal

abbrev pub invariant-loop-byte : goal.invariant-loop-byte
invariant-loop-byte l = (l.digits && list_all is_hex_digit (drop l.byte-index l.text)) ≡ list_all is_hex_digit l.text
