-- The ring of an Outbound, which is made at the first reserve, and the order that its numbers keep.
use Rattle.std.specs.Prelude.{◌≡◌, ℕ, ◌+◌, ◌≤◌, false, List, [], length, Option, Some, None}
use Rattle.circular_buffer.specs.Buffer.{Buffer}
use Rattle.artery_base.specs.declared.message.SysMsg.{SysMsg}
use Rattle.artery_delivery.specs.Limits.{most_kept, last_number}
use Rattle.artery_delivery.specs.Outbound.{Outbox}

-- The messages in the ring, if there is one.
abbrev pub messages_in : Option (Buffer SysMsg) → List SysMsg
messages_in None = []
messages_in (Some ring) = ring.items

-- The places of the ring, if there is one.
abbrev pub places_in : Option (Buffer SysMsg) → ℕ
places_in None = 0
places_in (Some ring) = ring.capacity

-- Without a UID both numbers are 0; the written number is between the acknowledged one and the last one given; all messages have
-- room, of which there are at most 20,000 places; and the last number given is one that a message can have.
pub record IsInOrder (o : Outbox) : Type 0 where
  pub nothing_acknowledged : o.kept.learnt ≡ false → o.kept.acknowledged ≡ 0
  pub nothing_written : o.kept.learnt ≡ false → o.kept.written ≡ 0
  pub written_after : o.kept.acknowledged ≤ o.kept.written
  pub given_before : o.kept.written ≤ o.kept.acknowledged + length o.kept.messages
  pub in_room : length o.kept.messages ≤ o.room
  pub room_at_most : o.room ≤ most_kept
  pub fits : o.kept.acknowledged + length o.kept.messages ≤ last_number
