use Rattle.std.proofs.Common.{rules}
use Rattle.artery_parts_reading.proofs.Keeping.{begins}
use Rattle.artery_parts_reading.proofs.gathered.Gathered.add_part.Goals as goal

pub returns : goal.returns
returns c = begins c.parts_are_built.ensures.part c.args.n c.args.self.now c.begin.new.self c.args.of (search rules) (search rules) (search rules) (search rules)
