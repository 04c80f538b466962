use Rattle.artery_flight.proofs.Flights.{request_on}
use Rattle.artery_flight.proofs.laws.requests_bear_their_dial.Goals as goal

pub returns : goal.returns
returns c = λ script i j k x from to its_nonce e f g. request_on script i j k x from to its_nonce e f g
