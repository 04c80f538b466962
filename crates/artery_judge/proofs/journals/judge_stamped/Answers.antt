use Rattle.std.proofs.Common.{◌+◌, sym, ap, ◌∙◌}
use Rattle.std.specs.Prelude.{Ok}
use Rattle.artery_judge.specs.declared.verdict.Verdict.TheVariants.{Broken}
use Rattle.artery_judge.specs.Views.{kept}
use Rattle.artery_judge.proofs.UnderWay.{goes_on_stamped, stops_stamped}
use Rattle.artery_judge.proofs.journals.judge_stamped.Goals as goal

pub returns-in-Some : goal.returns-in-Some
returns-in-Some c =
    ap (λ n. Broken (n + 1) c.in-Some.law) c.loop-stamped.invariant.count
    ∙ stops_stamped (kept c.loop-stamped.judge) c.args.lines.now c.loop-stamped.stamped-index c.stamped-item.result c.in-Some.law c.loop-stamped.invariant.under_way c.loop-stamped-test.true c.stamped-item.is
    (λ before st. sym c.in-Some.is ∙ c.in_ok-law.ensures.law before st)

pub loop-stamped-preserved : goal.loop-stamped-preserved
loop-stamped-preserved c = record {
  under_way = goes_on_stamped (kept c.loop-stamped.judge) (kept c.judge.new.self) c.args.lines.now c.loop-stamped.stamped-index c.stamped-item.result c.loop-stamped.invariant.under_way c.loop-stamped-test.true c.stamped-item.is
      (λ before st. sym c.in_default.is ∙ c.in_ok-law.ensures.law before st) (λ before st. c.in_ok-law.ensures.taken before st (ap Ok c.in_default.is));
  count = ap (λ n. n + 1) c.loop-stamped.invariant.count;
}
