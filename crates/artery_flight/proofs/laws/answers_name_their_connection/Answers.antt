use Rattle.artery_flight.proofs.Meetings.{answer_on}
use Rattle.artery_flight.proofs.laws.answers_name_their_connection.Goals as goal

pub returns : goal.returns
returns c = λ script r i j k x from for_uid its_nonce e f g. answer_on script r i j k x from for_uid its_nonce e f g
