use Rattle.artery_capture.proofs.Appending.{keeps_on}
use Rattle.artery_capture.proofs.control_text.put_adopted.Goals as goal

pub returns-clause-kept : goal.returns-clause-kept
returns-clause-kept c =
    let named = c.print_unique.new.out in
    let spaced = keeps_on named c.push.new.self _ c.put_version.new.out c.in_ok-push.ensures.ok c.put_version.ensures.kept in
    keeps_on c.args.out.now named _ c.put_version.new.out c.in_ok-print_unique.ensures.ok spaced
