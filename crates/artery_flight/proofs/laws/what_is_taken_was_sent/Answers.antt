use Rattle.artery_flight.proofs.Numbering.{taken_was_sent}
use Rattle.artery_flight.proofs.laws.what_is_taken_was_sent.Goals as goal

pub returns : goal.returns
returns c = λ script r before after e a b n m f g. taken_was_sent script r before after e a b n m f g
