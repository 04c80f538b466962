use Rattle.artery_detector.proofs.Beats.{asked_stands, heard_stands}
use Rattle.artery_detector.proofs.laws.keeping_stands.Goals as goal

pub returns-clause-ask : goal.returns-clause-ask
returns-clause-ask c = asked_stands

pub returns-clause-heartbeat : goal.returns-clause-heartbeat
returns-clause-heartbeat c = heard_stands
