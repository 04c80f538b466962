-- First steps of two nodes, message by message: what is done is said in full, so that the rules are seen at work.
use Rattle.std.specs.Prelude.{ℕ, ◌+◌, pos, List, [], ◌∷◌, Option, None, Some, codes}
use Rattle.artery_base.specs.declared.address.Address.{Address}
use Rattle.artery_base.specs.declared.address.UniqueAddress.{UniqueAddress}
use Rattle.artery_base.specs.declared.message.SysMsg.{SysMsg}
use Rattle.artery_base.specs.declared.message.Request.TheVariants as requests
use Rattle.artery_control.specs.declared.control.Control.{Control}
use Rattle.artery_control.specs.declared.control.Control.TheVariants as controls
use Rattle.artery_frame.specs.declared.stream.Stream.TheVariants as streams
use Rattle.artery_journal.specs.declared.line.Line.TheVariants as lines
use Rattle.artery_journal.specs.declared.words.Cause.TheVariants as causes
use Rattle.artery_machine.specs.declared.input.Conn.TheVariants.{Outward}
use Rattle.artery_machine.specs.Deeds.{Deed, Begins, Controls, Dials, Writes, Hangs, Tells}
use Rattle.artery_machine.specs.Parts.{whole}
use Rattle.artery_machine.specs.Node.{Inbound, inbound_at, incarnation, new_node}
use Rattle.artery_machine.specs.Doing.{listed, Rule, ◌▸◌, stays}
use Rattle.artery_machine.specs.Verdict.{Content}
use Rattle.artery_machine.specs.Handshaking.{dialed}
use Rattle.artery_machine.specs.Hearing.{handles}
use Rattle.artery_machine.specs.Ticking.{ticks}
use Rattle.artery_machine.specs.Reacting.{accepts, asked_for}
use Rattle.artery_script.specs.declared.event.Event.{Event}
use Rattle.artery_script.specs.declared.event.Event.TheVariants as events
use Rattle.artery_machine.specs.declared.world.Outcome.{Outcome}
use Rattle.artery_machine.specs.declared.world.Outcome.TheVariants as outcomes
use Rattle.artery_machine.specs.declared.world.WorldFault.{WorldFault}
use Rattle.artery_machine.specs.Ways.{whole_ways}
use Rattle.artery_machine.specs.Playing.{Stop, run}
use Rattle.artery_script.specs.declared.script.ScriptLine.{ScriptLine}

-- akka://A@h1:25520
abbrev pub first_address : Address
first_address = record { protocol = codes "akka"; system = codes "A"; host = codes "h1"; port = 25520 }

-- akka://B@h2:25520
abbrev pub second_address : Address
second_address = record { protocol = codes "akka"; system = codes "B"; host = codes "h2"; port = 25520 }

-- The incarnation of A with UID 1.
abbrev pub first : UniqueAddress
first = incarnation first_address 1

-- The incarnation of B with UID 2, and the one with UID 3 after it.
abbrev pub second : UniqueAddress
second = incarnation second_address 2

abbrev pub third : UniqueAddress
third = incarnation second_address 3

-- A system message: serializer 5, manifest `x`, two bytes.
abbrev pub message : SysMsg
message = record { serializer = pos 5; manifest = codes "x"; payload = 1 ∷ 2 ∷ [] }

-- A rule of the whole machine, whose deeds are listed.
abbrev pub WholeRule : Type 0
WholeRule = Rule whole listed

-- A message is handled on the inbound connection with a number.
abbrev pub handled_on : Option (Inbound whole) → Content → WholeRule
handled_on None content = stays
handled_on (Some i) content = handles i content

-- A control message comes on the inbound connection with a number.
abbrev pub says : ℕ → Control → WholeRule
says number control d = handled_on (inbound_at number d.node) (Content.Controls control) d

-- What a node that has just started does by a rule.
abbrev pub deeds_by : UniqueAddress → WholeRule → List Deed
deeds_by me rule = (rule (record { node = new_node me; deeds = [] })).deeds

-- What is written on the connection with dial number 1.
abbrev pub writes : Control → Deed
writes control = Writes 1 (Controls control)

-- ---- a handshake from the other side

-- B is asked by A, dials it, asks it, answers it, and is answered.
abbrev pub is_met : WholeRule
is_met =
    accepts 1
    ▸ says 1 (controls.HandshakeReq first second_address (Some 1))
    ▸ dialed 1
    ▸ says 1 (controls.HandshakeRsp first (Some 2) (Some 1))

-- It dials, begins with what the connection carries, asks, answers what it owes, learns who is there, and dials the ordinary connection.
abbrev pub meeting_deeds : List Deed
meeting_deeds =
    Dials 1 first_address
    ∷ Writes 1 (Begins streams.Control)
    ∷ writes (controls.HandshakeReq second first_address (Some 1))
    ∷ writes (controls.HandshakeRsp second (Some 1) (Some 1))
    ∷ Tells (lines.Learnt second first)
    ∷ Dials 2 first_address
    ∷ []

-- Then number 1 comes, and number 3, and number 1 again.
abbrev pub numbers_come : WholeRule
numbers_come =
    says 1 (controls.Numbered 1 message first)
    ▸ says 1 (controls.Numbered 3 message first)
    ▸ says 1 (controls.Numbered 1 message first)

-- The first is taken and acknowledged; the gap is told, and the messages behind number 1 are asked for; what comes again is acknowledged again.
abbrev pub numbers_deeds : List Deed
numbers_deeds =
    Tells (lines.Took second first 1 message)
    ∷ writes (controls.Ack 1 second)
    ∷ Tells (lines.Gap second first 3)
    ∷ writes (controls.Nack 1 second)
    ∷ Tells (lines.Again second first 1)
    ∷ writes (controls.Ack 1 second)
    ∷ []

-- ---- a handshake from this side

-- A sends to B, whom it does not know yet; it dials, asks, is asked, and is answered.
abbrev pub sends_first : WholeRule
sends_first =
    asked_for (requests.Send second_address message)
    ▸ dialed 1
    ▸ accepts 1
    ▸ says 1 (controls.HandshakeReq second first_address (Some 1))
    ▸ says 1 (controls.HandshakeRsp second (Some 1) (Some 1))

-- What waited is sent and written once it is known who is there.
abbrev pub sending_deeds : List Deed
sending_deeds =
    Dials 1 second_address
    ∷ Writes 1 (Begins streams.Control)
    ∷ writes (controls.HandshakeReq first second_address (Some 1))
    ∷ writes (controls.HandshakeRsp first (Some 2) (Some 1))
    ∷ Tells (lines.Learnt first second)
    ∷ Tells (lines.Sent first second 1 message)
    ∷ writes (controls.Numbered 1 message first)
    ∷ Dials 2 second_address
    ∷ []

-- Without an acknowledgement nothing is done for 999 ms.
abbrev pub waits_little : WholeRule
waits_little = ticks 999

-- After 1,000 ms the message is written again.
abbrev pub waits : WholeRule
waits = waits_little ▸ ticks 1000

abbrev pub waiting_deeds : List Deed
waiting_deeds = writes (controls.Numbered 1 message first) ∷ []

-- After six hours without any, the incarnation is closed: the line, the notice to it, and the end of the ordinary connection.
abbrev pub patience_ends : WholeRule
patience_ends = ticks 21600000

abbrev pub patience_deeds : List Deed
patience_deeds =
    Tells (lines.Closed first second causes.Undelivered)
    ∷ writes (controls.Quarantined first second)
    ∷ Hangs (Outward 2)
    ∷ []

-- With an acknowledgement nothing is kept. After five minutes without use the peer is asleep: the line, and the end of both connections. A request wakes it, with a dial first.
abbrev pub sleeps_and_wakes : WholeRule
sleeps_and_wakes =
    says 1 (controls.Ack 1 second) ▸ ticks 299999 ▸ ticks 300000 ▸ asked_for (requests.Send second_address message)

abbrev pub sleeping_deeds : List Deed
sleeping_deeds =
    Tells (lines.Idle first second)
    ∷ Hangs (Outward 2)
    ∷ Hangs (Outward 1)
    ∷ Dials 3 second_address
    ∷ Tells (lines.Sent first second 2 message)
    ∷ []

-- ---- a network

-- Two incarnations start.
abbrev pub two_start : List Event
two_start = events.Start first ∷ events.Start second ∷ []

-- Each tells so at moment 0.
abbrev pub started_outcomes : List Outcome
started_outcomes = outcomes.Line 0 (lines.Started first) ∷ outcomes.Line 0 (lines.Started second) ∷ []

-- Then a pair is asked for, at a later moment, and nobody answers the dial.
abbrev pub one_waits : List Event
one_waits = events.Tick 1 5 ∷ events.At 1 (requests.Pair second_address) ∷ events.Fail 1 1 ∷ []

-- Events with the numbers of their lines, from a first number on.
abbrev pub numbered : ℕ → List Event → List ScriptLine
numbered line [] = []
numbered line (event ∷ events) = record { line = line; event = event } ∷ numbered (line + 1) events

-- What came of a script, and where its run stopped.
abbrev pub outcomes_of : List Event → List Outcome
outcomes_of events = (run {P = whole} {W = whole_ways} (numbered 1 events)).world.outcomes

abbrev pub stop_of : List Event → Option Stop
stop_of events = (run {P = whole} {W = whole_ways} (numbered 1 events)).stop

-- A run stopped at this line, for this reason.
abbrev pub stopped_at : ℕ → WorldFault → Option Stop
stopped_at line fault = Some (record { line = line; fault = fault })
