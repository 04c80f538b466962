use Rattle.artery_flight.proofs.Meetings.{bound_to}
use Rattle.artery_flight.proofs.laws.bound_connections_reach_their_uid.Goals as goal

pub returns : goal.returns
returns c = λ script live r i j l p stream k uid e f g b. bound_to script live r i j l p stream k uid e f g b
