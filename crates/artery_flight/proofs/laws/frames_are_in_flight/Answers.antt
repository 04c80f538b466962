use Rattle.artery_flight.proofs.Flights.{in_flight, bytes_of_connection, had_of_connection}
use Rattle.artery_flight.proofs.laws.frames_are_in_flight.Goals as goal

pub returns-clause-written : goal.returns-clause-written
returns-clause-written c = λ script i k e. in_flight script i k e

pub returns-clause-bytes : goal.returns-clause-bytes
returns-clause-bytes c = λ script i k e. bytes_of_connection script i k e

pub returns-clause-had : goal.returns-clause-had
returns-clause-had c = λ script i k e. had_of_connection script c.one_reading.ensures.front i k e
