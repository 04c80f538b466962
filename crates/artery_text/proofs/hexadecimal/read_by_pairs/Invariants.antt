use Rattle.std.proofs.Common.{◌≡◌, ◌+◌, length, []}
use Rattle.artery_text.specs.Reading.{pairs_from}
use Rattle.artery_text.proofs.hexadecimal.read_by_pairs.Given as goal

abbrev pub invariant-loop-rest : goal.invariant-loop-rest
invariant-loop-rest l = record {
  so_far : pairs_from l.bytes l.at l.rest ≡ pairs_from [] 0 l.text;
  place : l.at + length l.rest ≡ length l.text;
}

abbrev pub decreases-loop-rest : goal.decreases-loop-rest
decreases-loop-rest l = length l.rest
