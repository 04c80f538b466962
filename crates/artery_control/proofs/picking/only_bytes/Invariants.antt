use Rattle.std.proofs.Common.{◌≡◌, ◌++◌, [], length}
use Rattle.std.specs.Option.{option_map, unwrap_or}
use Rattle.artery_control.specs.Picking.{fields_in, joined}
use Rattle.artery_control.proofs.picking.only_bytes.Given as goal

abbrev pub decreases-loop-field : goal.decreases-loop-field
decreases-loop-field l = length l.fields

abbrev pub invariant-loop-field : goal.invariant-loop-field
invariant-loop-field l = unwrap_or (option_map (λ p. p.now) l.only) [] ++ joined l.number l.fields ≡ joined l.number (fields_in l.bytes)
