use Rattle.artery_flight.proofs.Meetings.{known_on}
use Rattle.artery_flight.proofs.laws.known_connections_were_dialed.Goals as goal

pub returns : goal.returns
returns c = λ script live r i j l n who its_nonce e f b. known_on script live r i j l n who its_nonce e f b
