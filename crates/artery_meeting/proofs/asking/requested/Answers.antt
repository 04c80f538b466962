use Rattle.artery_meeting.proofs.Found.{is_requested}
use Rattle.artery_meeting.proofs.asking.requested.Goals as goal

-- what was read is of the connection that is found
pub returns-clause-there : goal.returns-clause-there
returns-clause-there c = λ i found.
    is_requested c.args.number i c.in-Some.inbound.now c.args.v.now c.args.to.now c.args.its_nonce c.request-answer.result c.request_rule-rule.result
    c.args.work.now c.drops_or_takes.new.work found c.in-Some.ensures c.request-answer.ensures c.request_rule-rule.ensures c.in_ok-drops_or_takes.ensures
