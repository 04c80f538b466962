use Rattle.artery_frame.proofs.Holding.{starts_settled, fed_settled, given_settled, held_small, leaves}
use Rattle.artery_frame.proofs.laws.holding_stands.Goals as goal

pub returns-clause-start : goal.returns-clause-start
returns-clause-start c = starts_settled

pub returns-clause-fed : goal.returns-clause-fed
returns-clause-fed c = fed_settled

pub returns-clause-given : goal.returns-clause-given
returns-clause-given c = given_settled

pub returns-clause-small : goal.returns-clause-small
returns-clause-small c = held_small

pub returns-clause-less : goal.returns-clause-less
returns-clause-less c = leaves
