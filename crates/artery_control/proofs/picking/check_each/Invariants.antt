use Rattle.std.proofs.Common.{◌≡◌, length}
use Rattle.artery_control.specs.Picking.{fields_in, sound_as, each_payload}
use Rattle.artery_control.proofs.picking.check_each.Given as goal

abbrev pub decreases-loop-field : goal.decreases-loop-field
decreases-loop-field l = length l.fields

abbrev pub invariant-loop-field : goal.invariant-loop-field
invariant-loop-field l = each_payload (sound_as l.form l.path) l.number l.fields ≡ each_payload (sound_as l.form l.path) l.number (fields_in l.bytes)
