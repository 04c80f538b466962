use Rattle.std.proofs.Common.{◌≡◌, false, is_some, rules}
use Rattle.artery_frame.specs.Kept.{kept_fed}
use Rattle.artery_frame.proofs.Stood.{feeds_on}
use Rattle.artery_frame.proofs.deframer.Deframer.feed_room.Goals as goal

pub returns-clause-stands : goal.returns-clause-stands
returns-clause-stands c =
    let open_still : is_some c.args.self.now.fault ≡ false = cc in
    let added : c.append-added.new.self ≡ kept_fed c.args.piece.now c.args.self.now = search rules in
    λ fed given h. feeds_on c.args.self.now c.append-added.new.self fed c.args.piece.now given added open_still h
