use Rattle.artery_laws.proofs.Takes.{takes}
use Rattle.artery_laws.proofs.laws.the_expected_message_is_taken.Goals as goal

pub returns : goal.returns
returns c = λ stream n i frame v number message h. takes stream n i frame v number message h
