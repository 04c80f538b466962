use Rattle.std.proofs.Common.{◌≡◌, length}
use Rattle.std.specs.Option.{option_or, option_map}
use Rattle.artery_control.specs.Picking.{bytes_in, last_picked, last_payload}
use Rattle.artery_control.proofs.picking.last_bytes.Given as goal

abbrev pub decreases-loop-field : goal.decreases-loop-field
decreases-loop-field l = length l.fields

abbrev pub invariant-loop-field : goal.invariant-loop-field
invariant-loop-field l = option_or (last_picked (bytes_in l.number) l.fields) (option_map (λ p. p.now) l.last) ≡ last_payload l.number l.bytes
