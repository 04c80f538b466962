use Rattle.std.proofs.Common.{rules, ◌∙◌}
use Rattle.artery_machine.specs.declared.input.Input.TheVariants as inputs
use Rattle.artery_machine.specs.World.{gives}
use Rattle.artery_world.proofs.Coming.{next_of_rest}
use Rattle.artery_world.proofs.network.Network.gives_pieces.Goals as goal

pub loop-left-preserved : goal.loop-left-preserved
loop-left-preserved c = record {
  rest =
      next_of_rest c.loop-left.left c.loop-left.at c.in_ok-size.size c.args.bytes.now (λ piece. gives c.args.far (inputs.Bytes c.args.number piece))
      c.loop-left.self c.gives_first.new.self (search rules) (search rules) c.in_ok-size.ensures.size c.in_ok-size.ensures.network
      ∙ c.loop-left.invariant.rest;
  within = search rules;
}
