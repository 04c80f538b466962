use Rattle.std.proofs.Common.{◌≡◌, ◌++◌, drop}
use Rattle.std.specs.Prelude.{map}
use Rattle.artery_meeting.specs.Owing.{owed_on}
use Rattle.artery_meeting.proofs.dialing.all_owed.Given as goal

abbrev pub invariant-loop-inbound : goal.invariant-loop-inbound
invariant-loop-inbound l = l.list.items ++ map (owed_on l.address) (drop l.inbound-index l.inbounds) ≡ map (owed_on l.fn.address) l.fn.inbounds
