use Rattle.artery_frame.proofs.Stood.{starts, feeds, answers, gives, held_is, held_small, joined}
use Rattle.artery_frame.proofs.laws.keeping_stands.Goals as goal

pub returns-clause-start : goal.returns-clause-start
returns-clause-start c = starts

pub returns-clause-fed : goal.returns-clause-fed
returns-clause-fed c = feeds

pub returns-clause-answer : goal.returns-clause-answer
returns-clause-answer c = answers

pub returns-clause-given : goal.returns-clause-given
returns-clause-given c = gives

pub returns-clause-held : goal.returns-clause-held
returns-clause-held c = held_is

pub returns-clause-small : goal.returns-clause-small
returns-clause-small c = held_small

pub returns-clause-joined : goal.returns-clause-joined
returns-clause-joined c = joined
