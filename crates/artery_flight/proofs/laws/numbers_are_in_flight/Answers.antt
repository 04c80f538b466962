use Rattle.artery_flight.proofs.Numbering.{sent_on}
use Rattle.artery_flight.proofs.laws.numbers_are_in_flight.Goals as goal

pub returns : goal.returns
returns c = λ script r i j k x n m from e f g. sent_on script r i j k x n m from e f g
