use Rattle.artery_flight.proofs.Flights.{run_is_single, run_counts}
use Rattle.artery_flight.proofs.laws.names_are_single.Goals as goal

pub returns-clause-single : goal.returns-clause-single
returns-clause-single c = λ script. run_is_single script

pub returns-clause-counted : goal.returns-clause-counted
returns-clause-counted c = λ script i l live e. run_counts script i l live e
