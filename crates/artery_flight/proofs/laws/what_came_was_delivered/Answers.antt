use Rattle.artery_flight.proofs.Meetings.{delivered_to}
use Rattle.artery_flight.proofs.laws.what_came_was_delivered.Goals as goal

pub returns : goal.returns
returns c = λ script live r i k l n e f. delivered_to script live r i k l n e f
