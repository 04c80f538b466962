use Rattle.artery_cli.proofs.PlayingLemmas.{stops_one}
use Rattle.artery_cli.proofs.playing.Playing.plays_one.Goals as goal

pub returns-in-Err-clause-left : goal.returns-in-Err-clause-left
returns-in-Err-clause-left g c =
    stops_one c.args.form c.apply.result c.in_ok-fault.fault c.in-Err.stop c.args.event c.args.self.now.world c.apply.new.self _ c.apply.new.out _ _
    c.in_ok-fault.ensures.fault c.in_ok-fault.ensures.named c.apply.ensures c.clear.ensures c.in-Err.ensures.left
