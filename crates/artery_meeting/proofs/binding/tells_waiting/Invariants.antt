use Rattle.std.proofs.Common.{◌≡◌, ◌≤◌, ◌-◌, ◌+◌, drop, length}
use Rattle.artery_machine.specs.Handshaking.{tells_all_sent, tells_waiting}
use Rattle.artery_meeting.proofs.Waiting.{waiting_at}
use Rattle.artery_meeting.proofs.binding.tells_waiting.Given as goal

abbrev pub invariant-loop-told : goal.invariant-loop-told
invariant-loop-told l = record {
  all : l.waiting ≡ length (waiting_at l.fn.address l.fn.work.node);
  within : l.told ≤ l.waiting;
  node : l.work.node ≡ l.fn.work.node;
  told : tells_all_sent l.address l.uid (l.told + 1) (drop l.told (waiting_at l.address l.fn.work.node)) l.work ≡ tells_waiting l.fn.address l.fn.uid l.fn.work;
}

abbrev pub decreases-loop-told : goal.decreases-loop-told
decreases-loop-told l = l.waiting - l.told
