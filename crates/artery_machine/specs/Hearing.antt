-- What a frame on an inbound connection does.
use Rattle.std.specs.Prelude.{ℕ, ◌==◌, nat_lt, nat_le, Bool, true, false, ◌&&◌, ◌||◌, if◌then◌else◌, List, [], ◌∷◌, Option, None, Some}
use Rattle.std.specs.Option.{option_or}
use Rattle.artery_base.specs.declared.address.UniqueAddress.{UniqueAddress}
use Rattle.artery_base.specs.declared.message.SysMsg.{SysMsg}
use Rattle.artery_base.specs.declared.message.Tell.{Tell}
use Rattle.artery_assoc.specs.Peer.{is_current}
use Rattle.artery_codec.specs.Meaning.{Meaning}
use Rattle.artery_control.specs.declared.control.Control.{Control}
use Rattle.artery_control.specs.declared.control.Control.TheVariants as controls
use Rattle.artery_delivery.specs.declared.outbound.Acked.{Acked}
use Rattle.artery_delivery.specs.declared.outbound.Acked.TheVariants.{Cleared, Past}
use Rattle.artery_delivery.specs.declared.inbound.Take.{Take}
use Rattle.artery_delivery.specs.declared.inbound.Take.TheVariants.{Taken, Again, Gap}
use Rattle.artery_frame.specs.declared.stream.Stream.{Stream}
use Rattle.artery_header.specs.Envelope.{EnvelopeOf, NameOf, Literal, Index}
use Rattle.artery_journal.specs.declared.line.Line.TheVariants as lines
use Rattle.artery_journal.specs.declared.rule.Rule.TheVariants as rules
use Rattle.artery_journal.specs.declared.words.Kind.{Kind}
use Rattle.artery_journal.specs.declared.words.Kind.TheVariants.{Refs, Manifests}
use Rattle.artery_tables.specs.declared.out_table.Adopted.{Adopted as Adopting}
use Rattle.artery_tables.specs.declared.out_table.Adopted.TheVariants as adopting
use Rattle.artery_tables.specs.declared.in_tables.Confirmed.{Confirmed}
use Rattle.artery_tables.specs.declared.in_tables.Confirmed.TheVariants as confirming
use Rattle.artery_tables.specs.Story.{version_of}
use Rattle.artery_machine.specs.Lists.{or_else}
use Rattle.artery_machine.specs.Parts.{Parts}
use Rattle.artery_machine.specs.Node.{Node, Peer, Inbound, Origin, OfKinds, of_kind, change_kind, same_unique, peer_at, origin_at, inbound_at, speaker_in, nonce_in}
use Rattle.artery_machine.specs.Making.{uses}
use Rattle.artery_machine.specs.Closing.{on_control, control_dial, quarantines}
use Rattle.artery_machine.specs.Sending.{with_out, pumps}
use Rattle.artery_machine.specs.Watching.{acts, watches_at}
use Rattle.artery_machine.specs.Verdict.{Content, Ordinary, Controls, Verdict, Dropped, OfClosed, Says, verdict}
use Rattle.artery_machine.specs.Handshaking.{drops, requested, answered}
use Rattle.artery_machine.specs.Doing.{Sink, Rule, ◌▸◌, stays, where_true, becomes, tells_of, peer_becomes, inbound_becomes, origin_becomes}

-- A sequence is written from number 128 on.
abbrev pub sequence_of : ℕ → Option ℕ
sequence_of number = if nat_le 128 number then Some number else None

-- The number of a table, or of the acknowledgement of one: its sequence, or its version where it has none.
abbrev pub table_number : ℕ → Option ℕ → ℕ
table_number version sequence = or_else version sequence

-- The acknowledgement of a table with this number.
abbrev pub table_ack : Kind → UniqueAddress → ℕ → Control
table_ack Refs me number = controls.RefsAck me (version_of number) (sequence_of number)
table_ack Manifests me number = controls.ManifestsAck me (version_of number) (sequence_of number)

-- The ordinary message that a frame means.
abbrev pub tell_of : Meaning → Tell
tell_of m = record { sender = m.sender; recipient = m.recipient; serializer = m.serializer; manifest = m.manifest; payload = m.payload }

-- The number of the known table with the version of a header is shown on a connection.
abbrev pub shown_by : (ℕ → Option ℕ) → ℕ → Option ℕ → Option ℕ
shown_by number_of version shown = option_or (number_of version) shown

-- Whether a message of a closed incarnation is answered: tables and their acknowledgements, numbered messages and theirs, and ordinary messages are.
abbrev pub is_told_closed : Content → Bool
is_told_closed (Ordinary e m) = true
is_told_closed (Controls (controls.RefsTable from origin_uid version keys values sequence)) = true
is_told_closed (Controls (controls.RefsAck from version sequence)) = true
is_told_closed (Controls (controls.ManifestsTable from origin_uid version keys values sequence)) = true
is_told_closed (Controls (controls.ManifestsAck from version sequence)) = true
is_told_closed (Controls (controls.Numbered n message reply_to)) = true
is_told_closed (Controls (controls.Ack n from)) = true
is_told_closed (Controls (controls.Nack n from)) = true
is_told_closed (Controls _) = false

module _ {P : Parts} where
  -- An acknowledgement is owed to an origin.
  abbrev pub owes_ack : Bool → Origin P → Origin P
  owes_ack owed o = record o { owes = owed }

  -- A message is taken from an origin.
  abbrev pub with_taken : UniqueAddress → ℕ → SysMsg → Node P → Node P
  with_taken v n message node = record node { taken = P.taken v n message node.taken }

  -- Patience runs from now on where messages were acknowledged, and the peer is quiet from now on then, or where they are asked for again.
  abbrev pub heard_back : Bool → Bool → ℕ → Peer P → Peer P
  heard_back some again now p =
      record p { patience = (if some then now else p.patience); quiet = (if some || again then now else p.quiet) }

  -- Whether an origin is the current incarnation at its address.
  abbrev pub is_now : UniqueAddress → Node P → Bool
  is_now v n = is_current v.uid (peer_at v.address n).incarnations

  -- The table of one kind is adopted from a peer.
  abbrev pub with_adopted : Kind → ℕ → List (List ℕ) → List ℕ → Peer P → Peer P
  with_adopted kind number keys values p = record p { tables = change_kind kind (P.adopted number keys values) p.tables }

  -- The table of one kind with this number is confirmed.
  abbrev pub with_confirmed : Kind → ℕ → Origin P → Origin P
  with_confirmed kind number o = record o { tables = change_kind kind (P.confirmed number) o.tables }

  -- A peer that was heard of.
  abbrev pub heard_at : ℕ → Peer P → Peer P
  heard_at now p = record p { beats = P.heard now p.beats }

  -- The numbers of the tables that an envelope was written by are shown on its connection.
  abbrev pub with_shown : OfKinds P.Announced → EnvelopeOf → Inbound P → Inbound P
  with_shown tables e i = record i {
    shown = record {
      refs = shown_by (P.number_of tables.refs) e.refs_version i.shown.refs;
      manifests = shown_by (P.number_of tables.manifests) e.manifests_version i.shown.manifests;
    };
  }

  -- The name of one kind that was written in full is counted, unless it is empty.
  abbrev pub with_counted : Kind → NameOf → Origin P → Origin P
  with_counted kind (Index i) o = o
  with_counted kind (Literal []) o = o
  with_counted kind (Literal (b ∷ bs)) o = record o { tables = change_kind kind (P.counted (b ∷ bs)) o.tables }

module _ {P : Parts} {E : Sink} where
  -- ---- numbered messages

  -- An acknowledgement, positive or not, of the last message taken is written on the control connection to its origin. Where that is not bound to it, a positive one is owed.
  abbrev pub acknowledges_on : UniqueAddress → (ℕ → UniqueAddress → Control) → Option ℕ → Rule P E
  acknowledges_on v ack None d = origin_becomes v (owes_ack true) d
  acknowledges_on v ack (Some dial) d =
      (origin_becomes v (owes_ack false) ▸ on_control v (ack (P.last_taken v d.node.taken) d.node.me)) d

  -- The last message taken is acknowledged, or what follows it is asked for.
  abbrev pub acknowledges : UniqueAddress → (ℕ → UniqueAddress → Control) → Rule P E
  acknowledges v ack d = acknowledges_on v ack (control_dial v d.node) d

  -- The expected message is taken, told and acknowledged, and then it acts. One that came before is told and acknowledged again. One that came too early is told, and the next one after the last taken is asked for.
  abbrev pub numbered_as : UniqueAddress → ℕ → SysMsg → Take → Rule P E
  numbered_as v n message Taken =
      becomes (with_taken v n message) ▸ tells_of (λ me. lines.Took me v n message) ▸ acknowledges v controls.Ack ▸ acts v message
  numbered_as v n message (Again last) = tells_of (λ me. lines.Again me v n) ▸ acknowledges v controls.Ack
  numbered_as v n message (Gap last) = tells_of (λ me. lines.Gap me v n) ▸ acknowledges v controls.Nack

  -- A numbered message came.
  abbrev pub numbered : UniqueAddress → ℕ → SysMsg → Rule P E
  numbered v n message d = numbered_as v n message (P.taking v n d.node.taken) d

  -- ---- acknowledgements

  -- A number past the last one sent is dropped. Else the messages up to it are kept no longer, and what may be written is.
  abbrev pub acked_as : ℕ → UniqueAddress → (P.Out → P.Out) → Bool → Acked → Rule P E
  acked_as number v change again Past d = drops number rules.AckRange d
  acked_as number v change again (Cleared count) d =
      (peer_becomes v.address (with_out change)
      ▸ peer_becomes v.address (heard_back (nat_lt 0 count) again d.node.moment)
      ▸ pumps v.address) d

  -- A rule for the current incarnation. What comes of another one is dropped.
  abbrev pub of_current : ℕ → UniqueAddress → Rule P E → Rule P E
  of_current number v rest d = (if is_now v d.node then rest else drops number rules.NotCurrent) d

  -- An acknowledgement of the messages up to a number.
  abbrev pub acked : ℕ → UniqueAddress → ℕ → Rule P E
  acked number v n d = acked_as number v (P.acknowledged n) false (P.acknowledgement n (peer_at v.address d.node).out) d

  -- The same, with the messages behind it asked for again.
  abbrev pub nacked : ℕ → UniqueAddress → ℕ → Rule P E
  nacked number v n d = acked_as number v (P.refused n) true (P.acknowledgement n (peer_at v.address d.node).out) d

  -- ---- tables

  -- The acknowledgement of a table is written on the control connection to its origin.
  abbrev pub acknowledges_table : Kind → UniqueAddress → ℕ → Rule P E
  acknowledges_table kind v number d = on_control v (table_ack kind d.node.me number) d

  -- An older table is dropped. The one that is held already is acknowledged again. A newer one is adopted, told and acknowledged.
  abbrev pub adopts_as : ℕ → UniqueAddress → Kind → ℕ → List (List ℕ) → List ℕ → Adopting → Rule P E
  adopts_as conn v kind number keys values adopting.Older = drops conn rules.OldTable
  adopts_as conn v kind number keys values adopting.Same = acknowledges_table kind v number
  adopts_as conn v kind number keys values adopting.Adopted =
      peer_becomes v.address (with_adopted kind number keys values)
      ▸ tells_of (λ me. lines.Adopted me v kind number) ▸ acknowledges_table kind v number

  -- A table of one kind came.
  abbrev pub adopts : ℕ → UniqueAddress → Kind → ℕ → List (List ℕ) → List ℕ → Rule P E
  adopts conn v kind number keys values d =
      adopts_as conn v kind number keys values (P.adopting number (of_kind kind (peer_at v.address d.node).tables)) d

  -- A table for another incarnation is dropped; so is one of an incarnation that is not current.
  abbrev pub tabled : ℕ → UniqueAddress → Kind → ℕ → ℕ → List (List ℕ) → List ℕ → Rule P E
  tabled conn v kind origin_uid number keys values d =
      (if origin_uid == d.node.me.uid then of_current conn v (adopts conn v kind number keys values) else drops conn rules.NotMe) d

  -- The acknowledgement of the table that is announced confirms it; any other one is dropped.
  abbrev pub confirms_as : ℕ → UniqueAddress → Kind → ℕ → Confirmed → Rule P E
  confirms_as conn v kind number confirming.Confirmed = origin_becomes v (with_confirmed kind number)
  confirms_as conn v kind number confirming.NotAnnounced = drops conn rules.OldTable

  -- The acknowledgement of a table came.
  abbrev pub confirms : ℕ → UniqueAddress → Kind → ℕ → Rule P E
  confirms conn v kind number d = confirms_as conn v kind number (P.confirming number (of_kind kind (origin_at v d.node).tables)) d

  -- ---- other control messages

  -- The answer to a heartbeat counts for the current incarnation, where an actor at its address is watched.
  abbrev pub hears_beat : UniqueAddress → Rule P E
  hears_beat v d = where_true (is_now v d.node && watches_at v.address d.node) (peer_becomes v.address (heard_at d.node.moment)) d

  -- A heartbeat is answered with the own UID.
  abbrev pub beats_back : UniqueAddress → Rule P E
  beats_back v d = on_control v (controls.HeartbeatRsp d.node.me.uid) d

  -- The notice that an incarnation closed this one, or another one.
  abbrev pub noticed : ℕ → UniqueAddress → UniqueAddress → Rule P E
  noticed conn v to d = (if same_unique to d.node.me then tells_of (λ me. lines.Notice me v) else drops conn rules.NotMe) d

  -- ---- ordinary messages

  -- The names of an envelope are counted: sender and recipient as references, then the manifest.
  abbrev pub counts_names : UniqueAddress → EnvelopeOf → Rule P E
  counts_names v e =
      origin_becomes v (with_counted Refs e.sender)
      ▸ origin_becomes v (with_counted Refs e.recipient)
      ▸ origin_becomes v (with_counted Manifests e.manifest)

  -- An ordinary message is told with the nonce of its connection; the tables by which it was written are shown there; and its names are counted.
  abbrev pub got : Inbound P → UniqueAddress → EnvelopeOf → Meaning → Rule P E
  got i v e m d =
      (tells_of (λ me. lines.Got me v (nonce_in i.state) (tell_of m))
      ▸ inbound_becomes i.number (with_shown (origin_at v d.node).tables e)
      ▸ counts_names v e) d

  -- ---- the kinds of control messages

  -- What a control message of a known origin does. Tables, numbered messages and heartbeats use the peer, before anything else.
  abbrev pub controlled : ℕ → UniqueAddress → Control → Rule P E
  controlled conn v (controls.Quarantined from to) = noticed conn v to
  controlled conn v (controls.Terminating from) = drops conn rules.Unused
  controlled conn v (controls.TerminatingAck from) = drops conn rules.Unused
  controlled conn v (controls.HandshakeReq from to its_nonce) = stays
  controlled conn v (controls.HandshakeRsp from for_uid its_nonce) = stays
  controlled conn v (controls.RefsTable from origin_uid version keys values sequence) =
      uses v.address ▸ tabled conn v Refs origin_uid (table_number version sequence) keys values
  controlled conn v (controls.RefsAck from version sequence) = confirms conn v Refs (table_number version sequence)
  controlled conn v (controls.ManifestsTable from origin_uid version keys values sequence) =
      uses v.address ▸ tabled conn v Manifests origin_uid (table_number version sequence) keys values
  controlled conn v (controls.ManifestsAck from version sequence) = confirms conn v Manifests (table_number version sequence)
  controlled conn v (controls.Numbered n message reply_to) = uses v.address ▸ numbered v n message
  controlled conn v (controls.Ack n from) = of_current conn v (acked conn v n)
  controlled conn v (controls.Nack n from) = of_current conn v (nacked conn v n)
  controlled conn v controls.Heartbeat = uses v.address ▸ beats_back v
  controlled conn v (controls.HeartbeatRsp uid) = hears_beat v

  -- A message of a closed incarnation is dropped. Where it is one of those above, the incarnation is told that it is closed.
  abbrev pub drops_closed : ℕ → UniqueAddress → Content → Rule P E
  drops_closed conn v content = drops conn rules.Closed ▸ where_true (is_told_closed content) (quarantines v)

  -- What a message of a known origin does.
  abbrev pub spoken : Inbound P → UniqueAddress → Content → Rule P E
  spoken i v (Ordinary e m) = uses v.address ▸ got i v e m
  spoken i v (Controls control) = controlled i.number v control

  -- A rule about the origin that speaks on a connection. Nobody speaks on one that is not known.
  abbrev pub by_speaker : Option UniqueAddress → (UniqueAddress → Rule P E) → Rule P E
  by_speaker None rest = stays
  by_speaker (Some v) rest = rest v

  -- What a message does: a handshake request, an answer to one, or what a known origin says.
  abbrev pub handles : Inbound P → Content → Rule P E
  handles i (Controls (controls.HandshakeReq from to its_nonce)) = requested i from to its_nonce
  handles i (Controls (controls.HandshakeRsp from for_uid its_nonce)) = answered from for_uid its_nonce
  handles i content = by_speaker (speaker_in i.state) (λ v. spoken i v content)

  -- A frame is dropped by the first rule for which it must be, or handled.
  abbrev pub heard_as : Inbound P → Verdict → Rule P E
  heard_as i (Dropped rule) = drops i.number rule
  heard_as i (OfClosed content) = by_speaker (speaker_in i.state) (λ v. drops_closed i.number v content)
  heard_as i (Says content) = handles i content

  -- A frame on an inbound connection, where that is still there.
  abbrev pub hears_on : Option Stream → Option (Inbound P) → List ℕ → Rule P E
  hears_on stream None frame d = d
  hears_on stream (Some i) frame d = heard_as i (verdict stream d.node i frame) d

  -- A frame came on the inbound connection with a number, on this stream.
  abbrev pub hears : ℕ → Option Stream → List ℕ → Rule P E
  hears conn stream frame d = hears_on stream (inbound_at conn d.node) frame d
