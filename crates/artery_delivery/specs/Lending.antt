-- What an Outbound is once a message that `pump` lent is given back.
use Rattle.std.specs.Prelude.{◌≡◌}
use Rattle.std.specs.Borrow.{Fml, MutBor}
use Rattle.std.specs.Io.BufRead.{Rests}
use Rattle.artery_delivery.specs.Outbound.{Outbox, State, Stands, kept_pumped, pumped}
use Rattle.artery_delivery.specs.contracts.outbound.Outbound.{the_row}

-- A pump changed the outbound from old to new: what is kept follows it, the room is as before, and so does every history.
pub record Pumps (old new : Outbox) : Type 0 where
  pub kept : new.kept ≡ kept_pumped old.kept
  pub room : new.room ≡ old.room
  pub history : (s : State) → Stands old.kept s → Stands new.kept (pumped s)

-- Once the loan ends, the outbound is as after a pump.
abbrev pub EndsPumped : MutBor Outbox → Fml
EndsPumped outbound = Rests the_row outbound (λ end. Pumps outbound.now end)
