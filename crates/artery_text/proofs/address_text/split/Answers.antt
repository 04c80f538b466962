use Rattle.std.proofs.Common.{◌≡◌, ◌∙◌, sym, None, rules, eqb}
use Rattle.std.specs.Prelude.{position}
use Rattle.artery_text.proofs.AddressParts.{split_fails, split_done}
use Rattle.artery_text.proofs.address_text.split.Goals as goal

pub returns-in_default-find-2 : goal.returns-in_default-find-2
returns-in_default-find-2 c =
    let host : position (λ b. eqb b 58) c.after-rest-2.result.now ≡ None = search rules in
    split_fails c.args.text.now c.after-rest.result.now c.after-rest-2.result.now c.in-Some.at c.in-Some-find.at
    (sym c.find_scheme.ensures.found ∙ c.in-Some.is) c.after-rest.ensures
    (sym c.find.ensures.found ∙ c.in-Some-find.is) c.after-rest-2.ensures host

pub returns : goal.returns
returns c =
    split_done c.args.text.now c.after-rest.result.now c.after-rest-2.result.now c.in-Some.at c.in-Some-find.at c.in-Some-find-2.at
    c.before-protocol.result.now c.before-system.result.now c.before-host.result.now c.after-port.result.now
    (sym c.find_scheme.ensures.found ∙ c.in-Some.is) c.after-rest.ensures
    (sym c.find.ensures.found ∙ c.in-Some-find.is) c.after-rest-2.ensures
    (sym c.find-2.ensures.found ∙ c.in-Some-find-2.is)
    c.before-protocol.ensures c.before-system.ensures c.before-host.ensures c.after-port.ensures
