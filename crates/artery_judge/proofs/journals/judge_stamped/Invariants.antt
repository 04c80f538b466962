use Rattle.std.proofs.Common.{◌≡◌, drop}
use Rattle.artery_judge.specs.Laws.{stamped}
use Rattle.artery_judge.specs.Views.{kept}
use Rattle.artery_judge.proofs.UnderWay.{IsUnderWay}
use Rattle.artery_judge.proofs.journals.judge_stamped.Given as goal

abbrev pub invariant-loop-stamped : goal.invariant-loop-stamped
invariant-loop-stamped l = record {
  under_way : IsUnderWay (kept l.judge) l.stamped-index (stamped l.lines) (stamped (drop l.stamped-index l.lines));
  count : l.count ≡ l.stamped-index;
}
