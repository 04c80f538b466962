use Rattle.std.proofs.Common.{arith}
use Rattle.artery_io.proofs.WrittenLemmas.{takes_more}
use Rattle.artery_io.proofs.sink.write_all.Goals as goal

pub loop-rest-preserved : goal.loop-rest-preserved
loop-rest-preserved g c = record {
  taken = takes_more _ _ _ c.loop-rest.rest.now _ _ c.in_ok-taken.taken c.loop-rest.invariant.taken c.in_ok-taken.ensures.bytes c.split_at.ensures.back;
  faults = omega (arith, c.in_ok-taken.ensures.cause.later);
}
