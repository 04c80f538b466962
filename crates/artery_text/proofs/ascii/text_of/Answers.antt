use Rattle.std.proofs.Common.{◌∙◌, sym}
use Rattle.artery_text.proofs.Places.{high_not_ascii}
use Rattle.artery_text.proofs.ascii.text_of.Goals as goal

pub returns-in-Some-clause-only : goal.returns-in-Some-clause-only
returns-in-Some-clause-only c h = absurd (high_not_ascii c.args.bytes.now c.in-Some.at (sym c.first_past_ascii.ensures ∙ c.in-Some.is) h)
