use Rattle.artery_frame.proofs.Readings.{is_reading, only_reading, longer_reading, written_reading}
use Rattle.artery_frame.proofs.Pieces.{front_reading}
use Rattle.artery_frame.proofs.laws.one_reading.Goals as goal

pub returns-clause-reading : goal.returns-clause-reading
returns-clause-reading c = is_reading

pub returns-clause-only : goal.returns-clause-only
returns-clause-only c = only_reading

pub returns-clause-longer : goal.returns-clause-longer
returns-clause-longer c = longer_reading

pub returns-clause-written : goal.returns-clause-written
returns-clause-written c = written_reading

pub returns-clause-front : goal.returns-clause-front
returns-clause-front c = front_reading
