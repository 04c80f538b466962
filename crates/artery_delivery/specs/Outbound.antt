-- The system messages to one peer: what is kept of them, and the whole list that it stands for.
use Rattle.std.specs.Prelude.{◌≡◌, ℕ, ◌+◌, ◌-◌, ◌*◌, ◌≤◌, Bool, true, false, ◌&&◌, ◌||◌, ◌==◌, nat_lt, nat_le, max, min, List, [], ◌∷◌, ◌++◌, length, drop, slice_get, Option, None, is_some, if◌then◌else◌}
use Rattle.std.specs.Option.{option_map}
use Rattle.artery_base.specs.declared.message.SysMsg.{SysMsg}
use Rattle.artery_delivery.specs.Limits.{most_kept, window, last_number, first_room}
use Rattle.artery_delivery.specs.declared.outbound.Accept.{Accept}
use Rattle.artery_delivery.specs.declared.outbound.Accept.TheVariants.{Accepted, Waiting, Overflow}
use Rattle.artery_delivery.specs.declared.outbound.Acked.{Acked}
use Rattle.artery_delivery.specs.declared.outbound.Acked.TheVariants.{Cleared, Past}

-- What an Outbound keeps: the messages that are not acknowledged, the oldest first; whether a UID is learnt;
-- the greatest number acknowledged and the greatest number written. Without a UID both numbers are 0 and mean nothing.
pub record Kept : Type 0 where
  pub messages : List SysMsg
  pub learnt : Bool
  pub acknowledged : ℕ
  pub written : ℕ

-- An Outbound: the places that it has reserved, and what it keeps.
pub record Outbox : Type 0 where
  pub room : ℕ
  pub kept : Kept

-- Nothing is kept and no UID is learnt.
abbrev pub nothing_kept : Kept
nothing_kept = record { messages = []; learnt = false; acknowledged = 0; written = 0 }

-- The last number given: that of the newest kept message, and 0 where no UID is learnt.
abbrev pub given : Kept → ℕ
given k = if k.learnt then k.acknowledged + length k.messages else 0

-- Nothing more is accepted beside 20,000 kept messages, nor after the last number that there is.
abbrev pub is_full : Kept → Bool
is_full k = nat_le most_kept (length k.messages) || nat_le last_number (given k)

-- A message that overflows comes back; else it has the next number, or without a UID a place counted from 1.
abbrev pub acceptance : SysMsg → Kept → Accept
acceptance message k =
    if is_full k then Overflow message else if k.learnt then Accepted (given k + 1) else Waiting (length k.messages + 1)

-- An accepted message is kept as the newest.
abbrev pub kept_accepted : SysMsg → Kept → Kept
kept_accepted message k = if is_full k then k else record k { messages = k.messages ++ message ∷ [] }

-- Learning a UID numbers all waiting messages from 1.
abbrev pub kept_learnt : Kept → Kept
kept_learnt k = record k { learnt = true; acknowledged = 0; written = 0 }

-- Forgetting the UID gives up all kept messages.
abbrev pub kept_forgotten : Kept
kept_forgotten = nothing_kept

-- An acknowledgement above the last number given is Past; else it clears the kept messages up to its number.
abbrev pub acknowledgement : ℕ → Kept → Acked
acknowledgement n k = if nat_lt (given k) n then Past else Cleared (n - k.acknowledged)

-- The messages up to an acknowledged number are kept no longer, and count as written.
abbrev pub kept_acknowledged : ℕ → Kept → Kept
kept_acknowledged n k =
    if nat_lt (given k) n then k
    else record k { messages = drop (n - k.acknowledged) k.messages; acknowledged = max k.acknowledged n; written = max k.written n }

-- Rewinding begins the writing anew at the first kept message.
abbrev pub kept_rewound : Kept → Kept
kept_rewound k = record k { written = k.acknowledged }

-- A negative acknowledgement is an acknowledgement and then, unless it is Past, a rewind.
abbrev pub kept_refused : ℕ → Kept → Kept
kept_refused n k = if nat_lt (given k) n then k else kept_rewound (kept_acknowledged n k)

-- The next message to write with its number, where a UID is learnt and the number is at most the window above the acknowledged one.
abbrev pub next_to_write : Kept → Option (ℕ × SysMsg)
next_to_write k =
    if k.learnt && nat_lt k.written (k.acknowledged + window)
    then option_map (λ m. (k.written + 1, m)) (slice_get k.messages (k.written - k.acknowledged))
    else None

-- Where there is a next message, it counts as written.
abbrev pub kept_pumped : Kept → Kept
kept_pumped k = if is_some (next_to_write k) then record k { written = k.written + 1 } else k

-- The kept message at a place, counted from 1.
abbrev pub kept_message : ℕ → Kept → Option SysMsg
kept_message place k = if place == 0 then None else slice_get k.messages (place - 1)

-- The places after a reserve: as before where one is free or nothing more is accepted, else twice as many, from 16 up to 20,000.
abbrev pub room_reserved : Outbox → ℕ
room_reserved o =
    if is_full o.kept || nat_lt (length o.kept.messages) o.room then o.room else min most_kept (max first_room (2 * o.room))

-- The whole history with the current incarnation of a peer: all messages sent to it, never shortened; the greatest numbers
-- acknowledged and written; the messages that wait for a UID; and whether one is learnt.
pub record State : Type 0 where
  pub sent : List SysMsg
  pub acknowledged : ℕ
  pub written : ℕ
  pub waiting : List SysMsg
  pub learnt : Bool

-- The history before the first message.
abbrev pub nothing_sent : State
nothing_sent = record { sent = []; acknowledged = 0; written = 0; waiting = []; learnt = false }

-- The messages that are kept: those sent past the acknowledged ones where a UID is learnt, else those that wait.
abbrev pub unacknowledged : State → List SysMsg
unacknowledged s = if s.learnt then drop s.acknowledged s.sent else s.waiting

-- Nothing more is accepted beside 20,000 kept messages, nor after the last number that there is.
abbrev pub has_no_room : State → Bool
has_no_room s = nat_le most_kept (length (unacknowledged s)) || nat_le last_number (length s.sent)

-- An accepted message has its place in the list of those sent as its number; without a UID its place among those that wait.
abbrev pub answer_to : SysMsg → State → Accept
answer_to message s =
    if has_no_room s then Overflow message
    else if s.learnt then Accepted (length s.sent + 1) else Waiting (length s.waiting + 1)

-- An accepted message goes to the end of those sent, or without a UID of those that wait.
abbrev pub accepted : SysMsg → State → State
accepted message s =
    if has_no_room s then s
    else if s.learnt then record s { sent = s.sent ++ message ∷ [] } else record s { waiting = s.waiting ++ message ∷ [] }

-- Those that waited are the first ones sent to the incarnation that was learnt.
abbrev pub learnt : State → State
learnt s = record { sent = s.waiting; acknowledged = 0; written = 0; waiting = []; learnt = true }

-- With the incarnation its whole history ends.
abbrev pub forgotten : State
forgotten = nothing_sent

-- An acknowledgement is Past where its number exceeds the number of messages sent; else it clears those up to it.
abbrev pub answer_to_ack : ℕ → State → Acked
answer_to_ack n s = if nat_lt (length s.sent) n then Past else Cleared (n - s.acknowledged)

-- The acknowledged number becomes the greater of itself and n, and the written one the greater of itself and the acknowledged one.
abbrev pub acknowledged : ℕ → State → State
acknowledged n s =
    if nat_lt (length s.sent) n then s
    else let greatest : ℕ = max s.acknowledged n in record s { acknowledged = greatest; written = max s.written greatest }

-- The written number becomes the acknowledged one.
abbrev pub rewound : State → State
rewound s = record s { written = s.acknowledged }

-- A negative acknowledgement is an acknowledgement and then, unless it is Past, a rewind.
abbrev pub refused : ℕ → State → State
refused n s = if nat_lt (length s.sent) n then s else rewound (acknowledged n s)

-- The next to write is the message sent that follows the written number, where that is at most the window above the acknowledged one.
abbrev pub next_sent : State → Option (ℕ × SysMsg)
next_sent s =
    if nat_lt s.written (s.acknowledged + window)
    then option_map (λ m. (s.written + 1, m)) (slice_get s.sent s.written)
    else None

-- Where there is a next message, it counts as written.
abbrev pub pumped : State → State
pumped s = if is_some (next_sent s) then record s { written = s.written + 1 } else s

-- What is kept stands for a history: the same numbers and the messages that are not acknowledged. With a UID none waits,
-- and the acknowledged, the written and the sent ones follow in this order; without one nothing is sent.
pub record Stands (k : Kept) (s : State) : Type 0 where
  pub learnt : k.learnt ≡ s.learnt
  pub acknowledged : k.acknowledged ≡ s.acknowledged
  pub written : k.written ≡ s.written
  pub messages : k.messages ≡ unacknowledged s
  pub written_after : s.acknowledged ≤ s.written
  pub sent_before : s.written ≤ length s.sent
  pub waits_or_sent : (if s.learnt then s.waiting else s.sent) ≡ []
