use Rattle.artery_frame.proofs.Pieces.{first_frames, frames_with, joined_frames}
use Rattle.artery_frame.proofs.laws.pieces_join.Goals as goal

pub returns-clause-first : goal.returns-clause-first
returns-clause-first c = first_frames

pub returns-clause-whole : goal.returns-clause-whole
returns-clause-whole c = frames_with

pub returns-clause-joined : goal.returns-clause-joined
returns-clause-joined c = joined_frames
