use Rattle.artery_text.proofs.AddressLaws.{unique_found, unique_again}
use Rattle.artery_text.proofs.address_text.read_unique.Goals as goal

pub returns-clause-found : goal.returns-clause-found
returns-clause-found c = unique_found c.args.text.now c.unique_from.result c.unique_from.ensures

pub returns-clause-only : goal.returns-clause-only
returns-clause-only c u h e = unique_again c.args.text.now u c.unique_from.result c.unique_from.ensures h e
