-- What a frame does, by the number of its connection and by who is known to speak there.
use Rattle.std.specs.Prelude.{ℕ, ◌-◌, nat_lt, Bool, true, false, List, Option, None, Some}
use Rattle.std.specs.List.{find}
use Rattle.artery_base.specs.declared.address.Address.{Address}
use Rattle.artery_base.specs.declared.address.UniqueAddress.{UniqueAddress}
use Rattle.artery_base.specs.declared.message.SysMsg.{SysMsg}
use Rattle.artery_base.specs.declared.message.Tell.{Tell}
use Rattle.artery_codec.specs.Meaning.{Meaning}
use Rattle.artery_control.specs.declared.control.Control.{Control}
use Rattle.artery_control.specs.declared.control.Control.TheVariants as controls
use Rattle.artery_delivery.specs.declared.inbound.Take.{Take}
use Rattle.artery_delivery.specs.declared.inbound.Take.TheVariants.{Taken, Again, Gap}
use Rattle.artery_delivery.specs.Inbound.{next_of}
use Rattle.artery_delivery.specs.declared.outbound.Acked.{Acked}
use Rattle.artery_delivery.specs.declared.outbound.Acked.TheVariants.{Cleared, Past}
use Rattle.artery_frame.specs.declared.stream.Stream.{Stream}
use Rattle.artery_handshake.specs.declared.in_conn.InState.{InState}
use Rattle.artery_handshake.specs.declared.in_conn.InState.TheVariants.{Raw, Known}
use Rattle.artery_header.specs.Envelope.{EnvelopeOf}
use Rattle.artery_journal.specs.declared.line.Line.TheVariants as lines
use Rattle.artery_journal.specs.declared.rule.Rule.TheVariants as rules
use Rattle.artery_journal.specs.declared.words.Kind.{Kind}
use Rattle.artery_tables.specs.declared.out_table.Adopted.{Adopted as Adopting}
use Rattle.artery_tables.specs.declared.out_table.Adopted.TheVariants as adopting
use Rattle.artery_tables.specs.declared.in_tables.Confirmed.{Confirmed}
use Rattle.artery_tables.specs.declared.in_tables.Confirmed.TheVariants as confirming
use Rattle.artery_tables.specs.InTables.{Kept, nothing_kept}
use Rattle.artery_verdict.specs.Heard.{frame_heard}
use Rattle.artery_machine.specs.Parts.{kept}
use Rattle.artery_machine.specs.Node.{Node, Inbound, Origin, OfKinds, of_each, inbound_at, is_origin, speaker_in, nonce_in, origin_at}
use Rattle.artery_machine.specs.Doing.{Rule, in_bytes, ◌▸◌, tells_of, peer_becomes, inbound_becomes, origin_becomes}
use Rattle.artery_machine.specs.Making.{uses}
use Rattle.artery_machine.specs.Closing.{on_control}
use Rattle.artery_machine.specs.Sending.{pumps}
use Rattle.artery_machine.specs.Watching.{acts}
use Rattle.artery_machine.specs.Verdict.{Content, Ordinary, Controls, Verdict, Dropped, OfClosed, Says, tables_for, is_shut, judged}
use Rattle.artery_machine.specs.Handshaking.{drops, requested, answered}
use Rattle.artery_machine.specs.Hearing.{owes_ack, acknowledges, acknowledges_table, heard_back, with_shown, counts_names, controlled, drops_closed, by_speaker}

-- An acknowledgement, positive or not.
abbrev pub ack_of : Bool → ℕ → UniqueAddress → Control
ack_of true = controls.Nack
ack_of false = controls.Ack

-- The last message taken is acknowledged on the control connection to its origin, or what follows it is asked for.
abbrev pub answers : UniqueAddress → Bool → Rule kept in_bytes
answers v missing d = (origin_becomes v (owes_ack false) ▸ on_control v (ack_of missing (next_of v d.node.taken - 1) d.node.me)) d

-- What follows a numbered message, once it was taken or not: by its answer.
abbrev pub numbered_then : UniqueAddress → ℕ → SysMsg → Take → Rule kept in_bytes
numbered_then v n message Taken d = (tells_of (λ me. lines.Took me v n message) ▸ acknowledges v controls.Ack ▸ acts v message) d
numbered_then v n message (Again last) d = (tells_of (λ me. lines.Again me v n) ▸ acknowledges v controls.Ack) d
numbered_then v n message (Gap last) d = (tells_of (λ me. lines.Gap me v n) ▸ acknowledges v controls.Nack) d

-- What follows an acknowledgement of so many messages: the peer was heard of, and what may be written is.
abbrev pub cleared_then : UniqueAddress → Bool → ℕ → Rule kept in_bytes
cleared_then v again count d = (peer_becomes v.address (heard_back (nat_lt 0 count) again d.node.moment) ▸ pumps v.address) d

-- What follows an acknowledgement, once what is kept for the peer has changed or not: by its answer.
abbrev pub acked_then : ℕ → UniqueAddress → Bool → Acked → Rule kept in_bytes
acked_then conn v again Past d = drops conn rules.AckRange d
acked_then conn v again (Cleared count) d = cleared_then v again count d

-- What follows a table, once it was adopted or not: by its answer.
abbrev pub adopts_then : ℕ → UniqueAddress → Kind → ℕ → Adopting → Rule kept in_bytes
adopts_then conn v kind number adopting.Older d = drops conn rules.OldTable d
adopts_then conn v kind number adopting.Same d = acknowledges_table kind v number d
adopts_then conn v kind number adopting.Adopted d = (tells_of (λ me. lines.Adopted me v kind number) ▸ acknowledges_table kind v number) d

-- What follows the acknowledgement of a table, once that was confirmed or not: by its answer.
abbrev pub confirms_then : ℕ → Confirmed → Rule kept in_bytes
confirms_then conn confirming.Confirmed d = d
confirms_then conn confirming.NotAnnounced d = drops conn rules.OldTable d

-- A request of a handshake on a connection, where that is there.
abbrev pub requested_on : UniqueAddress → Address → Option ℕ → Option (Inbound kept) → Rule kept in_bytes
requested_on v to its_nonce None d = d
requested_on v to its_nonce (Some i) d = requested i v to its_nonce d

-- An ordinary message on a connection with this number and this nonce.
abbrev pub got_on : ℕ → Option ℕ → UniqueAddress → EnvelopeOf → Tell → Rule kept in_bytes
got_on conn its_nonce v e message d =
    (tells_of (λ me. lines.Got me v its_nonce message) ▸ inbound_becomes conn (with_shown (origin_at v d.node).tables e) ▸ counts_names v e) d

-- The ordinary message that a frame means.
abbrev pub tell_in : Meaning → Tell
tell_in m = record { sender = m.sender; recipient = m.recipient; serializer = m.serializer; manifest = m.manifest; payload = m.payload }

-- What a message of a known origin does on a connection with this number and this nonce.
abbrev pub spoken_on : ℕ → Option ℕ → UniqueAddress → Content → Rule kept in_bytes
spoken_on conn its_nonce v (Ordinary e m) = uses v.address ▸ got_on conn its_nonce v e (tell_in m)
spoken_on conn its_nonce v (Controls control) = controlled conn v control

-- The same of the origin that is known to speak there.
abbrev pub speaks : ℕ → InState → Content → Rule kept in_bytes
speaks conn state content = by_speaker (speaker_in state) (λ v. spoken_on conn (nonce_in state) v content)

-- What a message does on a connection with this number, on which this is known.
abbrev pub handles_on : ℕ → InState → Content → Rule kept in_bytes
handles_on conn state (Controls (controls.HandshakeReq from to its_nonce)) d = requested_on from to its_nonce (inbound_at conn d.node) d
handles_on conn state (Controls (controls.HandshakeRsp from for_uid its_nonce)) d = answered from for_uid its_nonce d
handles_on conn state content d = speaks conn state content d

-- What a frame does there, by what it is.
abbrev pub heard_with : ℕ → InState → Verdict → Rule kept in_bytes
heard_with conn state (Dropped rule) = drops conn rule
heard_with conn state (OfClosed content) = by_speaker (speaker_in state) (λ v. drops_closed conn v content)
heard_with conn state (Says content) = handles_on conn state content

-- A frame on a connection with this number, on which this is known.
abbrev pub heard_on : ℕ → InState → Option Stream → List ℕ → Rule kept in_bytes
heard_on conn state stream frame d =
    heard_with conn state (judged (is_shut d.node (speaker_in state)) (frame_heard state stream (tables_for state d.node) frame)) d

-- The same of a connection that may be gone.
abbrev pub heard_where : ℕ → Option InState → Option Stream → List ℕ → Rule kept in_bytes
heard_where conn None stream frame d = d
heard_where conn (Some state) stream frame d = heard_on conn state stream frame d

-- The origin that is known to speak on a connection, where the node has it.
abbrev pub origin_in : InState → Node kept → Option (Origin kept)
origin_in Raw n = None
origin_in (Known who its_nonce) n = find (is_origin who) n.origins

-- The tables that are announced to an origin, and empty ones to none.
abbrev pub tables_of : Option (Origin kept) → OfKinds Kept
tables_of None = of_each nothing_kept
tables_of (Some o) = o.tables
