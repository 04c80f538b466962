use Rattle.artery_laws.proofs.Cuts.{cuts}
use Rattle.artery_laws.proofs.laws.cutting_does_not_matter.Goals as goal

pub returns : goal.returns
returns c = cuts (record { longer = c.one_reading.ensures.longer; nameless = c.readings_are_within.ensures.nameless; joined = c.pieces_join.ensures.joined })
