use Rattle.artery_machine.specs.Parts.{kept}
use Rattle.artery_laws.proofs.Same.{bytes_follow}
use Rattle.artery_laws.proofs.laws.deeds_have_their_bytes.Goals as goal

pub returns : goal.returns
returns c = bytes_follow kept
