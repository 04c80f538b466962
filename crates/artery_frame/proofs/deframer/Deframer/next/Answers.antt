use Rattle.std.proofs.Common.{refl}
use Rattle.artery_frame.proofs.Stood.{answers_so, after_so}
use Rattle.artery_frame.proofs.Holding.{small_so}
use Rattle.artery_frame.proofs.deframer.Deframer.next.Goals as goal

pub returns : goal.returns
returns c =
    let answer = c.take_frame.ensures.answer in (
      (refl, (λ _. tt), after_so c.args.self.now _ _ c.take_frame.follows.holds-at-none answer),
      record {
        answer = answer;
        given = λ fed given h. answers_so c.args.self.now _ answer fed given h;
        small = λ n. small_so c.args.self.now _ answer c.take_frame.ensures.settled n;
        after = tt;
      },
    )
