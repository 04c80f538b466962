use Rattle.std.proofs.Common.{◌≡◌, drop}
use Rattle.artery_judge.specs.Laws.{plain}
use Rattle.artery_judge.specs.Views.{kept}
use Rattle.artery_judge.proofs.UnderWay.{IsUnderWay}
use Rattle.artery_judge.proofs.journals.judge_plain.Given as goal

abbrev pub invariant-loop-line : goal.invariant-loop-line
invariant-loop-line l = record {
  under_way : IsUnderWay (kept l.judge) l.line-index (plain l.lines) (plain (drop l.line-index l.lines));
  count : l.count ≡ l.line-index;
}
