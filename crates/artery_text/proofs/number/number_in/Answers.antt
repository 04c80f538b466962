use Rattle.std.proofs.Common.{rules, ◌≡◌, ◌∙◌, true}
use Rattle.artery_text.specs.Reading.{is_numeral}
use Rattle.artery_text.proofs.Decimals.{numeral_utf8, parsed_numeral}
use Rattle.artery_text.proofs.number.number_in.Goals as goal

pub returns-in_default : goal.returns-in_default
returns-in_default c =
    let numeral : is_numeral c.args.text.now ≡ true = search rules in
    absurd (c.in_default.ensures.cases.0 (numeral_utf8 c.args.text.now numeral))

pub returns : goal.returns
returns c =
    let numeral : is_numeral c.args.text.now ≡ true = search rules in
    c.ok.ensures.value ∙ parsed_numeral c.args.text.now c.parse.result numeral (rw c.in-Ok.ensures.cases.0 at c.parse.ensures.value.0)
