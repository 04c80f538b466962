use Rattle.artery_audit.proofs.Building.{no_parts, part_begun, line_added}
use Rattle.artery_audit.proofs.laws.parts_are_built.Goals as goal

pub returns : goal.returns
returns c = record { none = no_parts; part = part_begun; line = line_added }
