use Rattle.std.proofs.Common.{◌≡◌, ◌+◌, length}
use Rattle.artery_text.specs.Reading.{pieces_from}
use Rattle.artery_text.proofs.word.read_pieces.Given as goal

abbrev pub invariant-loop-rest : goal.invariant-loop-rest
invariant-loop-rest l = record {
  so_far : pieces_from l.bytes l.at l.rest ≡ pieces_from l.fn.front l.fn.from l.fn.text;
  place : l.at + length l.rest ≡ l.fn.from + length l.fn.text;
}

abbrev pub decreases-loop-rest : goal.decreases-loop-rest
decreases-loop-rest l = length l.rest
