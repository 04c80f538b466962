use Rattle.artery_capture.proofs.Showing.{nothing_shown}
use Rattle.artery_capture.proofs.capture.Capture.with_room.Goals as goal

pub returns : goal.returns
returns c = nothing_shown c.in_ok-with_room.field-0 c.in_ok-with_room.ensures.stands
