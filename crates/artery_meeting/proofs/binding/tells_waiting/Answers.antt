use Rattle.std.proofs.Common.{◌∙◌, sym, ap, arith}
use Rattle.artery_machine.specs.Parts.{kept}
use Rattle.artery_machine.specs.Doing.{Doing, in_bytes}
use Rattle.artery_machine.specs.Handshaking.{tells_waiting}
use Rattle.artery_meeting.proofs.Waiting.{next_told}
use Rattle.artery_meeting.proofs.binding.tells_waiting.Goals as goal

-- one message more is told
pub loop-told-preserved : goal.loop-told-preserved
loop-told-preserved c = record {
  all = c.loop-told.invariant.all;
  within = omega (arith, c.loop-told-test.true);
  node = ap (λ (w : Doing kept in_bytes). w.node) c.in_ok-tells_sent.ensures ∙ c.loop-told.invariant.node;
  told = next_told c.args.address.now c.args.uid c.loop-told.told c.in-Some.message c.loop-told.work c.tells_sent.new.self
      (tells_waiting c.args.address.now c.args.uid c.args.work.now) c.args.work.now.node
      (sym c.in-Some.is ∙ c.in_ok-message.ensures) c.loop-told.invariant.node c.in_ok-tells_sent.ensures c.loop-told.invariant.told;
}
