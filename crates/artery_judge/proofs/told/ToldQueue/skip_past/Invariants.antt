use Rattle.std.proofs.Common.{◌≡◌, length}
use Rattle.std.specs.Prelude.{map}
use Rattle.artery_judge.specs.Kept.{past_tell}
use Rattle.artery_judge.proofs.told.ToldQueue.skip_past.Given as goal

abbrev pub invariant-loop-told : goal.invariant-loop-told
invariant-loop-told l = record {
  left : past_tell l.message (map (λ m. m.now) l.self-inside.messages.items) ≡ past_tell l.fn.message l.fn.self;
}

abbrev pub decreases-loop-told : goal.decreases-loop-told
decreases-loop-told l = length l.self-inside.messages.items
