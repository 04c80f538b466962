use Rattle.std.proofs.Common.{◌≡◌, ◌*◌, ◌++◌, take, drop}
use Rattle.std.specs.Prelude.{flat_map}
use Rattle.artery_text.specs.Spelling.{hex_pair}
use Rattle.artery_text.proofs.hexadecimal.fill_block.Given as goal

abbrev pub invariant-loop-at : goal.invariant-loop-at
invariant-loop-at l = take (2 * l.at) l.text ++ flat_map hex_pair (drop l.at l.bytes) ≡ flat_map hex_pair l.bytes
