use Rattle.std.proofs.Common.{arith}
use Rattle.artery_wire.proofs.Appends.{varint_goes_on, begins_goes_on}
use Rattle.artery_wire.proofs.writing.append_varint.Goals as goal

pub loop-left-preserved : goal.loop-left-preserved
loop-left-preserved c =
    record {
      whole = varint_goes_on c.loop-left.out c.push.new.self _ c.loop-left.left c.in_ok-push.ensures.ok c.loop-left-test.true (omega arith) c.loop-left.invariant.whole;
      kept = begins_goes_on c.args.out.now c.loop-left.out c.push.new.self _ c.in_ok-push.ensures.ok c.loop-left.invariant.kept;
    }
