use Rattle.artery_text.proofs.HexPairs.{hex_found, hex_again}
use Rattle.artery_text.proofs.hexadecimal.read_hex.Goals as goal

pub returns-clause-found : goal.returns-clause-found
returns-clause-found c = hex_found c.args.text.now c.bytes_in.result c.bytes_in.ensures

pub returns-clause-only : goal.returns-clause-only
returns-clause-only c bytes h e = hex_again c.args.text.now bytes c.bytes_in.result c.bytes_in.ensures h e
