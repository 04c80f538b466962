use Rattle.std.proofs.Common.{◌≡◌, drop}
use Rattle.artery_machine.specs.Doing.{each}
use Rattle.artery_meeting.specs.Owing.{answers_one}
use Rattle.artery_meeting.proofs.dialing.answers_each.Given as goal

abbrev pub invariant-loop-one : goal.invariant-loop-one
invariant-loop-one l = each (drop l.one-index l.owed) (answers_one l.dial) l.work ≡ each l.fn.owed (answers_one l.fn.dial) l.fn.work
