use Rattle.std.proofs.Common.{arith}
use Rattle.artery_watch.proofs.Leaving.{leave_step, count_step, size_step, count_fits}
use Rattle.artery_watch.proofs.remotes.leave.Goals as goal

pub overflow_add-standing : goal.overflow_add-standing
overflow_add-standing c =
    let fits = count_fits c.args.origin.now c.args.places.now.entries c.loop-at.places.entries c.loop-at.at c.len-at-end.result c.loop-at.standing c.leave_at-standing.result c.loop-at-test.true c.loop-at.invariant.len c.loop-at.invariant.size c.loop-at.invariant.count c.leave_at-standing.ensures.count in
    omega (arith, fits, c.len-at-end.ensures.len, c.len-at-end.ensures.small)

pub loop-at-preserved : goal.loop-at-preserved
loop-at-preserved c = record {
  entries = leave_step c.args.origin.now c.args.places.now.entries c.loop-at.places.entries c.leave_at-standing.new.places.entries c.loop-at.at c.len-at-end.result c.loop-at.invariant.entries c.loop-at-test.true c.loop-at.invariant.len c.loop-at.invariant.size c.leave_at-standing.ensures.place;
  count = count_step c.args.origin.now c.args.places.now.entries c.loop-at.places.entries c.loop-at.at c.len-at-end.result c.loop-at.standing c.leave_at-standing.result c.loop-at.invariant.entries c.loop-at-test.true c.loop-at.invariant.len c.loop-at.invariant.size c.loop-at.invariant.count c.leave_at-standing.ensures.count;
  len = c.loop-at.invariant.len;
  size = size_step c.args.origin.now c.args.places.now.entries c.loop-at.places.entries c.leave_at-standing.new.places.entries c.loop-at.at c.len-at-end.result c.loop-at-test.true c.loop-at.invariant.len c.loop-at.invariant.size c.leave_at-standing.ensures.place;
}
