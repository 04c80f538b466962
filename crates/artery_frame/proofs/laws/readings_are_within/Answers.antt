use Rattle.artery_frame.proofs.Pieces.{no_frames, offset_within, offset_open}
use Rattle.artery_frame.proofs.laws.readings_are_within.Goals as goal

pub returns-clause-nameless : goal.returns-clause-nameless
returns-clause-nameless c = no_frames

pub returns-clause-within : goal.returns-clause-within
returns-clause-within c = offset_within

pub returns-clause-sound : goal.returns-clause-sound
returns-clause-sound c = offset_open
