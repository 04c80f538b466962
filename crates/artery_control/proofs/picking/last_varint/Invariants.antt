use Rattle.std.proofs.Common.{◌≡◌, length}
use Rattle.std.specs.Option.{option_or}
use Rattle.artery_control.specs.Picking.{varint_in, last_picked, last_number}
use Rattle.artery_control.proofs.picking.last_varint.Given as goal

abbrev pub decreases-loop-field : goal.decreases-loop-field
decreases-loop-field l = length l.fields

abbrev pub invariant-loop-field : goal.invariant-loop-field
invariant-loop-field l = option_or (last_picked (varint_in l.number) l.fields) l.last ≡ last_number l.number l.bytes
