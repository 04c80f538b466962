use Rattle.artery_tables.proofs.Numbers.{number_found}
use Rattle.artery_tables.proofs.laws.known_numbers_are_found.Goals as goal

pub returns-clause-found : goal.returns-clause-found
returns-clause-found c = number_found
