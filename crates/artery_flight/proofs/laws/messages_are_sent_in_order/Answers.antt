use Rattle.artery_flight.proofs.Numbering.{sent_in_order}
use Rattle.artery_flight.proofs.laws.messages_are_sent_in_order.Goals as goal

pub returns : goal.returns
returns c = λ script a b. sent_in_order script a b
