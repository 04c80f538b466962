use Rattle.std.proofs.Common.{◌≡◌, ◌*◌, ◌++◌, take, drop}
use Rattle.artery_text.specs.Reading.{pairs_value}
use Rattle.artery_text.proofs.hexadecimal.fill_bytes.Given as goal

abbrev pub invariant-loop-at : goal.invariant-loop-at
invariant-loop-at l = take l.at l.bytes ++ pairs_value (drop (2 * l.at) l.text) ≡ pairs_value l.text
