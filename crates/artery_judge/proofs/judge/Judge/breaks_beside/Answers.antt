use Rattle.std.proofs.Common.{◌∙◌}
use Rattle.artery_judge.specs.Views.{kept}
use Rattle.artery_judge.proofs.Standing.{found_is_broken}
use Rattle.artery_judge.proofs.judge.Judge.breaks_beside.Goals as goal

pub returns : goal.returns
returns c = λ before st. c.first.ensures ∙ found_is_broken (kept c.args.self.now) before (c.args.moment, c.args.line.now) st
