use Rattle.std.proofs.Common.{◌≡◌, ◌-◌, ap, arith, drop, length, length-drop}
use Rattle.artery_frame.specs.Kept.{Kept}
use Rattle.artery_frame.proofs.Stood.{held_is}
use Rattle.artery_frame.proofs.deframer.Deframer.held.Goals as goal

pub returns-clause-read : goal.returns-clause-read
returns-clause-read c = λ fed given h.
    let left : length (drop c.self.inside.from c.self.inside.buffer.items) ≡ length c.args.self.now.rest = ap (λ (k : Kept). length k.rest) c.self.view_is in
    let held : c.len.result - c.self.inside.from ≡ length c.args.self.now.rest = omega (arith, left, length-drop c.self.inside.from c.self.inside.buffer.items) in
    rw held (held_is c.args.self.now fed given h)
