use Rattle.std.proofs.Common.{◌≡◌, false, is_some}
use Rattle.artery_frame.proofs.Stood.{feeds_on}
use Rattle.artery_frame.proofs.deframer.Deframer.feed.Goals as goal

pub returns-clause-stands : goal.returns-clause-stands
returns-clause-stands c =
    let open_still : is_some c.args.self.now.fault ≡ false = cc in
    λ fed given h. feeds_on c.args.self.now c.append.new.self fed c.args.piece.now given c.in_ok-append.ensures.ok open_still h
