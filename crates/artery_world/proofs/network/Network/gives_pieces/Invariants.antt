use Rattle.std.proofs.Common.{◌≡◌, ◌≤◌, drop, length}
use Rattle.artery_machine.specs.declared.input.Input.TheVariants as inputs
use Rattle.artery_machine.specs.World.{each, gives, pieces}
use Rattle.artery_world.proofs.network.Network.gives_pieces.Given as goal

abbrev pub invariant-loop-left : goal.invariant-loop-left
invariant-loop-left l = record {
  rest :
      each (pieces l.left (drop l.at l.fn.bytes)) (λ piece. gives l.fn.far (inputs.Bytes l.fn.number piece)) l.self
      ≡ each (pieces l.fn.most l.fn.bytes) (λ piece. gives l.fn.far (inputs.Bytes l.fn.number piece)) l.fn.self;
  within : l.at ≤ length l.fn.bytes;
}

abbrev pub decreases-loop-left : goal.decreases-loop-left
decreases-loop-left l = l.left
