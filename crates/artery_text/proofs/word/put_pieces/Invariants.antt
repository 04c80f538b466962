use Rattle.std.proofs.Common.{◌≡◌, ◌++◌, length, take, drop}
use Rattle.std.specs.Prelude.{flat_map}
use Rattle.artery_text.specs.Spelling.{word_piece}
use Rattle.artery_text.proofs.word.put_pieces.Given as goal

abbrev pub invariant-loop-byte : goal.invariant-loop-byte
invariant-loop-byte l = record {
  so_far : l.out ++ flat_map word_piece (drop l.byte-index l.bytes) ≡ l.fn.out ++ flat_map word_piece l.bytes;
  kept : take (length l.fn.out) l.out ≡ l.fn.out;
}
