use Rattle.std.proofs.Common.{subst, sym, ap}
use Rattle.artery_alone.specs.Alone.{Keeps}
use Rattle.artery_alone.specs.Network.{journal_of}
use Rattle.artery_names.specs.Ordinary.{ordinary_law}
use Rattle.artery_names.proofs.Ordinary.{network_ordinary}
use Rattle.artery_names.proofs.laws.a_network_keeps_the_ordinary_law.Goals as goal

pub returns-clause-kept : goal.returns-clause-kept
returns-clause-kept c = λ script r. subst (Keeps ordinary_law) (ap journal_of (sym (c.a_network_is_whole.ensures script).outcomes)) (network_ordinary script r)

pub returns-clause-whole : goal.returns-clause-whole
returns-clause-whole c = λ script r. network_ordinary script r
