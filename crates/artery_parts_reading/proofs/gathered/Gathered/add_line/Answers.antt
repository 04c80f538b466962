use Rattle.std.proofs.Common.{rules}
use Rattle.artery_parts_reading.proofs.Keeping.{goes_on}
use Rattle.artery_parts_reading.proofs.gathered.Gathered.add_line.Goals as goal

pub returns : goal.returns
returns c = goes_on c.parts_are_built.ensures.line c.args.n c.args.self.now _ c.args.line (search rules) (search rules) (search rules) (search rules)
