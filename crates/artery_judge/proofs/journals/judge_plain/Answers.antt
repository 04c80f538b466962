use Rattle.std.proofs.Common.{◌+◌, sym, ap, ◌∙◌}
use Rattle.std.specs.Prelude.{Ok}
use Rattle.artery_judge.specs.declared.verdict.Verdict.TheVariants.{Broken}
use Rattle.artery_judge.specs.Views.{kept}
use Rattle.artery_judge.proofs.UnderWay.{goes_on_plain, stops_plain}
use Rattle.artery_judge.proofs.journals.judge_plain.Goals as goal

pub returns-in-Some : goal.returns-in-Some
returns-in-Some c =
    ap (λ n. Broken (n + 1) c.in-Some.law) c.loop-line.invariant.count
    ∙ stops_plain (kept c.loop-line.judge) c.args.lines.now c.loop-line.line-index c.line-item.result c.in-Some.law c.loop-line.invariant.under_way c.loop-line-test.true c.line-item.is
    (λ before st. sym c.in-Some.is ∙ c.in_ok-law.ensures.law before st)

pub loop-line-preserved : goal.loop-line-preserved
loop-line-preserved c = record {
  under_way = goes_on_plain (kept c.loop-line.judge) (kept c.judge.new.self) c.args.lines.now c.loop-line.line-index c.line-item.result c.loop-line.invariant.under_way c.loop-line-test.true c.line-item.is
      (λ before st. sym c.in_default.is ∙ c.in_ok-law.ensures.law before st) (λ before st. c.in_ok-law.ensures.taken before st (ap Ok c.in_default.is));
  count = ap (λ n. n + 1) c.loop-line.invariant.count;
}
