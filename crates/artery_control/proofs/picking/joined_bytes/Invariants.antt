use Rattle.std.proofs.Common.{◌≡◌, ◌++◌, length}
use Rattle.artery_control.specs.Picking.{fields_in, joined}
use Rattle.artery_control.proofs.picking.joined_bytes.Given as goal

abbrev pub decreases-loop-field : goal.decreases-loop-field
decreases-loop-field l = length l.fields

abbrev pub invariant-loop-field : goal.invariant-loop-field
invariant-loop-field l = l.record ++ joined l.number l.fields ≡ joined l.number (fields_in l.bytes)
