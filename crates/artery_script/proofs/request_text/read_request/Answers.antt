use Rattle.artery_script.specs.Texts.{asked_text}
use Rattle.artery_script.specs.Valid.{IsAsked, RequestHasBytes}
use Rattle.artery_script.specs.Reading.{asked_of}
use Rattle.artery_script.proofs.Found.{found, only}
use Rattle.artery_script.proofs.request_text.read_request.Goals as goal

pub returns-clause-found : goal.returns-clause-found
returns-clause-found c = found asked_of asked_text IsAsked c.requests_are_spelled.ensures.read c.args.line.now c.asked_from.result c.asked_from.ensures

pub returns-clause-only : goal.returns-clause-only
returns-clause-only c a v b same = only asked_of asked_text IsAsked (λ a. RequestHasBytes a.1) c.requests_are_spelled.ensures.told c.args.line.now a c.asked_from.result c.asked_from.ensures v b same
