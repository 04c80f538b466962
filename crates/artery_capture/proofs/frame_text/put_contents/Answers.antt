use Rattle.artery_capture.proofs.Appending.{keeps_on}
use Rattle.artery_capture.proofs.frame_text.put_contents.Goals as goal

pub returns-in_err-put_names-clause-kept : goal.returns-in_err-put_names-clause-kept
returns-in_err-put_names-clause-kept c =
    let numbers = c.put_numbers.new.out in
    let spaced = keeps_on numbers c.push.new.self _ c.put_names.new.out c.in_ok-push.ensures.ok c.put_names.ensures.kept in
    keeps_on c.args.out.now numbers _ c.put_names.new.out c.in_ok-put_numbers.ensures.ok spaced
