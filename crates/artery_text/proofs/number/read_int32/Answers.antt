use Rattle.artery_text.proofs.Decimals.{int32_found, int32_again}
use Rattle.artery_text.proofs.number.read_int32.Goals as goal

pub returns-clause-found : goal.returns-clause-found
returns-clause-found c = int32_found c.args.text.now c.int32_in.result c.int32_in.ensures

pub returns-clause-only : goal.returns-clause-only
returns-clause-only c z h e = int32_again c.args.text.now z c.int32_in.result c.int32_in.ensures h e
