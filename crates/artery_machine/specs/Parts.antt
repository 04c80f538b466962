-- What the rules ask of what has a whole history and a kept form. They know nothing else of it, so that they are the same over what a node keeps and over whole histories.
use Rattle.std.specs.Prelude.{ℕ, zero, suc, ◌+◌, ◌-◌, Bool, false, is_some, if◌then◌else◌, List, [], ◌∷◌, ◌++◌, length, Option, None, Some, Result, Ok, Err}
use Rattle.artery_base.specs.declared.message.SysMsg.{SysMsg}
use Rattle.artery_base.specs.declared.address.UniqueAddress.{UniqueAddress}
use Rattle.artery_delivery.specs.declared.outbound.Accept.{Accept}
use Rattle.artery_delivery.specs.declared.outbound.Acked.{Acked}
use Rattle.artery_delivery.specs.declared.inbound.Take.{Take}
use Rattle.artery_delivery.specs.Outbound as out
use Rattle.artery_delivery.specs.Inbound as inb
use Rattle.artery_tables.specs.declared.table.Table.{Table}
use Rattle.artery_tables.specs.declared.in_tables.Advertised.{Advertised}
use Rattle.artery_tables.specs.declared.in_tables.Confirmed.{Confirmed}
use Rattle.artery_tables.specs.declared.out_table.Adopted.{Adopted as Adopting}
use Rattle.artery_tables.specs.InTables as announced
use Rattle.artery_tables.specs.OutTable as adopted
use Rattle.artery_tables.specs.Story as story
use Rattle.artery_codec.specs.Meaning.{Entries}
use Rattle.artery_codec.specs.Writing.{Indices, held_indices, paired_indices}
use Rattle.artery_frame.specs.declared.stream.Stream.{Stream}
use Rattle.artery_frame.specs.declared.fault.FrameFault.{FrameFault}
use Rattle.artery_frame.specs.Stream.{reading_of, new_frames}
use Rattle.artery_frame.specs.Kept as fed
use Rattle.artery_detector.specs.Availability as heard
use Rattle.artery_detector.specs.Kept as beat

pub record Parts : Type 1 where
  -- the system messages to one peer
  pub Out : Type 0
  pub nothing_sent : Out
  pub acceptance : SysMsg → Out → Accept
  pub accepted : SysMsg → Out → Out
  -- a UID is learnt, unless one is
  pub learnt : Out → Out
  pub forgotten : Out
  pub acknowledgement : ℕ → Out → Acked
  pub acknowledged : ℕ → Out → Out
  pub refused : ℕ → Out → Out
  pub rewound : Out → Out
  -- the next message to write, with its number, and what is left once it is written
  pub next : Out → Option (ℕ × SysMsg)
  pub pumped : Out → Out
  -- the messages that are kept or wait, the oldest first
  pub unacknowledged : Out → List SysMsg
  -- the system messages from all origins
  pub In : Type 0
  pub nothing_taken : In
  pub opened : UniqueAddress → In → In
  pub taking : UniqueAddress → ℕ → In → Take
  pub taken : UniqueAddress → ℕ → SysMsg → In → In
  -- the number of the last message taken, 0 where none was
  pub last_taken : UniqueAddress → In → ℕ
  -- the tables of one kind that are announced to one origin
  pub Announced : Type 0
  pub nothing_announced : Announced
  pub counted : List ℕ → Announced → Announced
  pub advertising : Bool → Announced → Advertised
  pub advertised : Bool → Announced → Announced
  -- the table that is announced and not confirmed
  pub unconfirmed : Announced → Option Table
  pub confirming : ℕ → Announced → Confirmed
  pub confirmed : ℕ → Announced → Announced
  -- the number of the table confirmed last, 0 where none was
  pub current_number : Announced → ℕ
  -- the number of the known table with a version
  pub number_of : Announced → ℕ → Option ℕ
  -- what an index under a version means
  pub entries : Announced → Entries
  -- the table of one kind that was adopted from a peer
  pub Adopted : Type 0
  pub nothing_adopted : Adopted
  pub adopting : ℕ → Adopted → Adopting
  pub adopted : ℕ → List (List ℕ) → List ℕ → Adopted → Adopted
  pub indices : Adopted → Indices
  -- the bytes of an inbound connection
  pub Bytes : Type 0
  pub nothing_came : Bytes
  -- the whole frames that a piece completes, and what there is once the piece came
  pub frames : List ℕ → Bytes → List (List ℕ)
  pub came : List ℕ → Bytes → Bytes
  pub carries : Bytes → Option Stream
  pub fault : Bytes → Option FrameFault
  -- the asks and heartbeats of one peer
  pub Beats : Type 0
  pub no_beats : Beats
  pub asked : ℕ → Beats → Beats
  pub heard : ℕ → Beats → Beats
  pub available : ℕ → Beats → Bool

-- ---- whole histories

-- All bytes that came and then a piece. A stream that is broken takes nothing more.
abbrev pub came_whole : List ℕ → List ℕ → List ℕ
came_whole piece bytes = if is_some (reading_of bytes).end then bytes else bytes ++ piece

-- All bytes of an inbound connection, and all asks and heartbeats of a peer, are their own histories.
abbrev pub whole : Parts
whole = record {
  Out = out.State;
  nothing_sent = out.nothing_sent;
  acceptance = out.answer_to;
  accepted = out.accepted;
  learnt = λ s. if s.learnt then s else out.learnt s;
  forgotten = out.forgotten;
  acknowledgement = out.answer_to_ack;
  acknowledged = out.acknowledged;
  refused = out.refused;
  rewound = out.rewound;
  next = out.next_sent;
  pumped = out.pumped;
  unacknowledged = out.unacknowledged;
  In = List (UniqueAddress × List SysMsg);
  nothing_taken = [];
  opened = inb.opened;
  taking = inb.answer_to_take;
  taken = inb.taken;
  last_taken = λ origin all. length (inb.messages_from origin all);
  Announced = announced.State;
  nothing_announced = announced.nothing_used;
  counted = announced.used;
  advertising = announced.answer_to_advertise;
  advertised = announced.advertised;
  unconfirmed = λ s. announced.announced_in s.story;
  confirming = announced.answer_to_confirm;
  confirmed = announced.confirmed;
  current_number = λ s. s.story.confirmed;
  number_of = λ s. story.number_of s.story;
  entries = λ s. story.entry_of s.story;
  Adopted = adopted.State;
  nothing_adopted = adopted.nothing_adopted;
  adopting = λ number s. adopted.adopting number s.number;
  adopted = adopted.adopted;
  indices = paired_indices;
  Bytes = List ℕ;
  nothing_came = [];
  frames = λ piece bytes. new_frames bytes piece;
  came = came_whole;
  carries = λ bytes. (reading_of bytes).stream;
  fault = λ bytes. (reading_of bytes).end;
  Beats = List heard.Beat;
  no_beats = [];
  asked = λ now beats. beats ++ heard.ask now ∷ [];
  heard = λ now beats. beats ++ heard.heartbeat now ∷ [];
  available = heard.is_available;
}

-- ---- what is kept

-- The frames that an answer gave, before those that are given later.
abbrev pub given_before : List (List ℕ) → Result (Option (List ℕ)) FrameFault → List (List ℕ)
given_before later (Ok (Some frame)) = frame ∷ later
given_before later (Ok None) = []
given_before later (Err fault) = []

-- The frames that a deframer gives one after the other, at most so many.
abbrev pub frames_given : ℕ → fed.Kept → List (List ℕ)
frames_given zero k = []
frames_given (suc most) k = given_before (frames_given most (fed.kept_given k)) (fed.kept_answer k)

-- What a deframer keeps once it gave the frames that it had, at most so many.
abbrev pub frames_gone : ℕ → fed.Kept → fed.Kept
frames_gone zero k = k
frames_gone (suc most) k = frames_gone most (fed.kept_given k)

-- A frame takes four bytes at least, so no deframer gives more frames than it holds bytes; one more answer says what stands behind the last.
abbrev pub answers : fed.Kept → ℕ
answers k = length k.rest + 1

-- The frames that a piece completes, by what a deframer keeps. One that told a fault takes nothing more.
abbrev pub frames_kept : List ℕ → fed.Kept → List (List ℕ)
frames_kept piece k = if is_some k.fault then [] else frames_given (answers (fed.kept_fed piece k)) (fed.kept_fed piece k)

-- What a deframer keeps once the piece came and its frames were given.
abbrev pub came_kept : List ℕ → fed.Kept → fed.Kept
came_kept piece k = if is_some k.fault then k else frames_gone (answers (fed.kept_fed piece k)) (fed.kept_fed piece k)

-- What a program keeps: the messages that are not acknowledged, the numbers that are expected, counts of names and five tables, indices by name, bytes that are no whole frame yet, and two moments.
abbrev pub kept : Parts
kept = record {
  Out = out.Kept;
  nothing_sent = out.nothing_kept;
  acceptance = out.acceptance;
  accepted = out.kept_accepted;
  learnt = λ k. if k.learnt then k else out.kept_learnt k;
  forgotten = out.kept_forgotten;
  acknowledgement = out.acknowledgement;
  acknowledged = out.kept_acknowledged;
  refused = out.kept_refused;
  rewound = out.kept_rewound;
  next = out.next_to_write;
  pumped = out.kept_pumped;
  unacknowledged = λ k. k.messages;
  In = List (UniqueAddress × ℕ);
  nothing_taken = [];
  opened = inb.with_origin;
  taking = inb.taking;
  taken = λ origin n message entries. inb.with_taken origin n entries;
  last_taken = λ origin entries. inb.next_of origin entries - 1;
  Announced = announced.Kept;
  nothing_announced = announced.nothing_kept;
  counted = announced.kept_counted;
  advertising = announced.advertising;
  advertised = announced.kept_advertised;
  unconfirmed = λ k. k.announced;
  confirming = announced.confirming;
  confirmed = announced.kept_confirmed;
  current_number = λ k. announced.number_in k.current;
  number_of = announced.number_kept;
  entries = announced.entry_kept;
  Adopted = adopted.Held;
  nothing_adopted = adopted.nothing_held;
  adopting = λ number held. adopted.adopting number held.number;
  adopted = adopted.held_adopted;
  indices = held_indices;
  Bytes = fed.Kept;
  nothing_came = fed.nothing_kept false;
  frames = frames_kept;
  came = came_kept;
  carries = λ k. k.stream;
  fault = λ k. k.fault;
  Beats = beat.Kept;
  no_beats = beat.nothing_kept;
  asked = beat.kept_asked;
  heard = beat.kept_heard;
  available = beat.kept_available;
}
