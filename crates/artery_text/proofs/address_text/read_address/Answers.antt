use Rattle.artery_text.proofs.AddressLaws.{address_found, address_again}
use Rattle.artery_text.proofs.address_text.read_address.Goals as goal

pub returns-clause-found : goal.returns-clause-found
returns-clause-found c = address_found c.args.text.now c.address_from.result c.address_from.ensures

pub returns-clause-only : goal.returns-clause-only
returns-clause-only c a h e = address_again c.args.text.now a c.address_from.result c.address_from.ensures h e
