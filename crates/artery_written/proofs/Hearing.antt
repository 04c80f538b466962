-- The rules of what a frame does.
use Rattle.std.proofs.Common.{◌≡◌, ℕ, zero, suc, ◌+◌, ◌<◌, ◌≤◌, ◌^◌, Bool, true, false, cond, List, [], ◌∷◌, ◌++◌, length, refl, sym, ◌∙◌, ap, subst, arith, Result, Ok, Err}
use Rattle.std.specs.Prelude.{Option, None, Some, ◌==◌, ◌&&◌, not, nat_lt, unwrap_or}
use Rattle.std.specs.List.{AllByRecursion, find, zip}
use Rattle.std.specs.Map.{set_value}
use Rattle.std.proofs.lemmas.Bool.Decides.{nat_tests}
use Rattle.std.proofs.lemmas.List.{length-append}
use Rattle.artery_base.specs.declared.address.UniqueAddress.{UniqueAddress}
use Rattle.artery_base.specs.declared.message.SysMsg.{SysMsg}
use Rattle.artery_base.specs.Valid.{IsUniqueAddress}
use Rattle.artery_codec.specs.Meaning.{Meaning}
use Rattle.artery_control.specs.declared.control.Control.{Control}
use Rattle.artery_control.specs.declared.control.Control.TheVariants as controls
use Rattle.artery_control.specs.Valid.{IsVersion, IsTable}
use Rattle.artery_delivery.specs.Limits.{never_expected}
use Rattle.artery_delivery.specs.declared.outbound.Acked.{Acked}
use Rattle.artery_delivery.specs.declared.outbound.Acked.TheVariants.{Cleared, Past}
use Rattle.artery_delivery.specs.declared.inbound.Take.{Take}
use Rattle.artery_delivery.specs.declared.inbound.Take.TheVariants.{Taken, Again, Gap}
use Rattle.artery_delivery.specs.Outbound.{State as OutState}
use Rattle.artery_delivery.specs.Inbound.{same_origin, is_expected, messages_from, taken}
use Rattle.artery_frame.specs.declared.stream.Stream.{Stream}
use Rattle.artery_handshake.specs.declared.in_conn.InState.{InState}
use Rattle.artery_handshake.specs.declared.in_conn.InState.TheVariants.{Raw, Known}
use Rattle.artery_header.specs.Envelope.{NameOf, Literal, Index, EnvelopeOf, IsAsciiName, HasTexts}
use Rattle.artery_journal.specs.declared.line.Line.TheVariants as lines
use Rattle.artery_journal.specs.declared.rule.Rule.{Rule as DropRule}
use Rattle.artery_journal.specs.declared.rule.Rule.TheVariants as rules
use Rattle.artery_journal.specs.declared.words.Kind.{Kind}
use Rattle.artery_journal.specs.declared.words.Kind.TheVariants.{Refs, Manifests}
use Rattle.artery_tables.specs.declared.out_table.Adopted.{Adopted as Adopting}
use Rattle.artery_tables.specs.declared.out_table.Adopted.TheVariants as adopting
use Rattle.artery_tables.specs.declared.in_tables.Confirmed.{Confirmed}
use Rattle.artery_tables.specs.declared.in_tables.Confirmed.TheVariants as confirming
use Rattle.artery_tables.specs.OutTable.{State as Adopted, adopting as adopting_by, table_after, adopted}
use Rattle.artery_machine.specs.Lists.{or_else}
use Rattle.artery_machine.specs.Parts.{whole}
use Rattle.artery_machine.specs.Node.{Node, Peer, Inbound, Origin, OfKinds, is_number, of_kind, same_unique, peer_at, origin_at, inbound_at, speaker_in, nonce_in}
use Rattle.artery_machine.specs.Doing.{Rule, listed, ◌▸◌, stays, where_true, becomes, tells_of, peer_becomes, inbound_becomes, origin_becomes, each}
use Rattle.artery_machine.specs.Making.{uses}
use Rattle.artery_machine.specs.Closing.{control_dial, on_control, quarantines}
use Rattle.artery_machine.specs.Sending.{with_out, pumps}
use Rattle.artery_machine.specs.Watching.{watches_at, acts}
use Rattle.artery_machine.specs.Verdict.{Content, Controls, Ordinary, Verdict, Dropped, OfClosed, Says, content_in, is_handshake, is_shut, judged, verdict}
use Rattle.artery_machine.specs.Handshaking.{drops}
use Rattle.artery_machine.specs.Hearing.{table_ack, table_number, tell_of, is_told_closed, owes_ack, with_taken, is_now, with_shown, with_counted, acknowledges_on, acknowledges, heard_back, with_adopted, with_confirmed, heard_at, numbered_as, numbered, acked_as, of_current, acked, nacked, acknowledges_table, adopts_as, adopts, tabled, confirms_as, confirms, hears_beat, beats_back, noticed, counts_names, got, controlled, drops_closed, spoken, by_speaker, handles, heard_as, hears_on, hears}
use Rattle.artery_flight.proofs.Lists.{on_cond, eq_true, and_left, and_right, Each, each_find}
use Rattle.artery_written.proofs.Facts.{MessageFacts, ControlFacts, ContentFacts, OutFacts, PairFacts, PeerFacts, KnownFacts, InboundFacts, AnnouncedFacts, OriginFacts, TakenFacts, NodeFacts, Work, WorkFacts}
use Rattle.artery_written.proofs.Sizes.{ack_good, nack_good, back_good, table_ack_good}
use Rattle.artery_written.proofs.Tables.{used_facts, confirmed_facts}
use Rattle.artery_written.proofs.Rules.{Keeps, ◌▹◌, stays_keep, tells_keep, becomes_keep, peer_keep, inbound_keep, origin_keep, if_keeps, where_keeps, control_keeps, quarantines_keeps, uses_keep}
use Rattle.artery_written.proofs.Sending.{out_keeps, acknowledged_facts, refused_facts, pumps_keep}
use Rattle.artery_written.proofs.Watching.{acts_keep}
use Rattle.artery_written.proofs.Handshaking.{taken_facts, drops_keep, requested_keeps, answered_keeps}

-- ---- numbered messages

-- the acknowledgement, positive or not, of a number is one that may be written
abbrev IsAck : (ℕ → UniqueAddress → Control) → Type 0
IsAck ack = (n : ℕ) (me : UniqueAddress) → n < 2 ^ 64 → IsUniqueAddress me → ControlFacts (ack n me)

same_origin_facts : (owed : Bool) (o : Origin whole) → OriginFacts o → OriginFacts (owes_ack owed o)
same_origin_facts owed o q = record { who = q.who; refs = q.refs; manifests = q.manifests }

acknowledges_on_keeps : (v : UniqueAddress) (ack : ℕ → UniqueAddress → Control) (x : Option ℕ) → IsAck ack → Keeps (acknowledges_on v ack x)
acknowledges_on_keeps v ack None g = record { on = λ d f. (origin_keep v (owes_ack true) (same_origin_facts true)).on d f }
acknowledges_on_keeps v ack (Some dial) g = record {
  on = λ d f. (origin_keep v (owes_ack false) (same_origin_facts false)
      ▹ control_keeps v (ack (whole.last_taken v d.node.taken) d.node.me) (g (whole.last_taken v d.node.taken) d.node.me (taken_facts v d.node.taken f.node.taken) f.node.me)).on d f;
}

acknowledges_keep : (v : UniqueAddress) (ack : ℕ → UniqueAddress → Control) → IsAck ack → Keeps (acknowledges v ack)
acknowledges_keep v ack g = record { on = λ d f. (acknowledges_on_keeps v ack (control_dial v d.node) g).on d f }

set_taken : (v : UniqueAddress) (all : List (UniqueAddress × List SysMsg)) (ms : List SysMsg) → length ms < 2 ^ 64 → Each TakenFacts all → Each TakenFacts (set_value (same_origin v) all ms)
set_taken v [] ms k h = tt
set_taken v (e ∷ all) ms k h = on_cond (Each TakenFacts) (same_origin v e.0) ((e.0, ms) ∷ all) (e ∷ set_value (same_origin v) all ms) (λ b. (k, h.1)) (λ b. (h.0, set_taken v all ms k h.1))

below_never : (n : ℕ) → nat_lt n never_expected ≡ true → n < 2 ^ 64
below_never n h = grind (arith, nat_tests)

taken_all : (v : UniqueAddress) (n : ℕ) (m : SysMsg) (all : List (UniqueAddress × List SysMsg)) → Each TakenFacts all → Each TakenFacts (taken v n m all)
taken_all v n m all h = on_cond (Each TakenFacts) (is_expected n (length (messages_from v all) + 1)) (set_value (same_origin v) all (messages_from v all ++ m ∷ [])) all
    (λ b. set_taken v all (messages_from v all ++ m ∷ [])
    (let e : n ≡ length (messages_from v all) + 1 = eq_true n (length (messages_from v all) + 1) (and_left (n == length (messages_from v all) + 1) (nat_lt n never_expected) b) in
    let k : n < 2 ^ 64 = below_never n (and_right (n == length (messages_from v all) + 1) (nat_lt n never_expected) b) in
    let l : length (messages_from v all ++ m ∷ []) ≡ length (messages_from v all) + 1 = length-append (messages_from v all) (m ∷ []) in
    omega arith) h)
    (λ b. h)

taken_keeps : (v : UniqueAddress) (n : ℕ) (m : SysMsg) → Keeps (becomes (with_taken v n m))
taken_keeps v n m = becomes_keep (with_taken v n m)
    (λ k f. record { me = f.me; dials = f.dials; peers = f.peers; inbound = f.inbound; origins = f.origins; taken = taken_all v n m k.taken f.taken; actors = f.actors })

numbered_as_keeps : (v : UniqueAddress) (n : ℕ) (m : SysMsg) (x : Take) → IsUniqueAddress v → MessageFacts m → Keeps (numbered_as v n m x)
numbered_as_keeps v n m Taken h k = taken_keeps v n m ▹ tells_keep (λ me. lines.Took me v n m) ▹ acknowledges_keep v controls.Ack ack_good ▹ acts_keep v m h k
numbered_as_keeps v n m (Again last) h k = tells_keep (λ me. lines.Again me v n) ▹ acknowledges_keep v controls.Ack ack_good
numbered_as_keeps v n m (Gap last) h k = tells_keep (λ me. lines.Gap me v n) ▹ acknowledges_keep v controls.Nack nack_good

numbered_keeps : (v : UniqueAddress) (n : ℕ) (m : SysMsg) → IsUniqueAddress v → MessageFacts m → Keeps (numbered v n m)
numbered_keeps v n m h k = record { on = λ d f. (numbered_as_keeps v n m (whole.taking v n d.node.taken) h k).on d f }

-- ---- acknowledgements

acked_as_keeps : (number : ℕ) (v : UniqueAddress) (g : OutState → OutState) (again : Bool) (x : Acked) → IsUniqueAddress v → ((s : OutState) → OutFacts s → OutFacts (g s)) → Keeps (acked_as number v g again x)
acked_as_keeps number v g again Past h k = record { on = λ d f. (drops_keep number rules.AckRange).on d f }
acked_as_keeps number v g again (Cleared count) h k = record {
  on = λ d f. (out_keeps v.address g k
      ▹ peer_keep v.address (heard_back (nat_lt 0 count) again d.node.moment) (λ p q. record { address = q.address; current = q.current; out = q.out; held = q.held; refs = q.refs; manifests = q.manifests; control = q.control; ordinary = q.ordinary })
      ▹ pumps_keep v.address h.address).on d f;
}

current_keeps : (number : ℕ) (v : UniqueAddress) (r : Rule whole listed) → Keeps r → Keeps (of_current number v r)
current_keeps number v r k = record { on = λ d f. (if_keeps (is_now v d.node) r (drops number rules.NotCurrent) k (drops_keep number rules.NotCurrent)).on d f }

acked_keeps : (number : ℕ) (v : UniqueAddress) (n : ℕ) → IsUniqueAddress v → Keeps (acked number v n)
acked_keeps number v n h = record { on = λ d f. (acked_as_keeps number v (whole.acknowledged n) false (whole.acknowledgement n (peer_at v.address d.node).out) h (acknowledged_facts n)).on d f }

nacked_keeps : (number : ℕ) (v : UniqueAddress) (n : ℕ) → IsUniqueAddress v → Keeps (nacked number v n)
nacked_keeps number v n h = record { on = λ d f. (acked_as_keeps number v (whole.refused n) true (whole.acknowledgement n (peer_at v.address d.node).out) h (refused_facts n)).on d f }

-- ---- tables

table_ack_keeps : (kind : Kind) (v : UniqueAddress) (n : ℕ) → n < 2 ^ 64 → Keeps (acknowledges_table kind v n)
table_ack_keeps kind v n k = record { on = λ d f. (control_keeps v (table_ack kind d.node.me n) (table_ack_good kind d.node.me n f.node.me k)).on d f }

pairs_small : (keys : List (List ℕ)) (values : List ℕ) → AllByRecursion (λ n. n ≤ 65535) values → Each (λ (q : List ℕ × ℕ). q.1 ≤ 65535) (zip keys values)
pairs_small [] values h = tt
pairs_small (key ∷ keys) [] h = tt
pairs_small (key ∷ keys) (v ∷ values) h = (h.0, pairs_small keys values h.1)

after_small : (x : Adopting) (n : ℕ) (keys : List (List ℕ)) (values : List ℕ) (s : Adopted) → AllByRecursion (λ n. n ≤ 65535) values → PairFacts s → PairFacts (table_after x n keys values s)
after_small adopting.Adopted n keys values s h k = pairs_small keys values h
after_small adopting.Same n keys values s h k = k
after_small adopting.Older n keys values s h k = k

adopted_facts : (kind : Kind) (n : ℕ) (keys : List (List ℕ)) (values : List ℕ) → IsTable keys values → (p : Peer whole) → PeerFacts p → PeerFacts (with_adopted kind n keys values p)
adopted_facts Refs n keys values t p q = record {
  address = q.address;
  current = q.current;
  out = q.out;
  held = q.held;
  refs = after_small (adopting_by n p.tables.refs.number) n keys values p.tables.refs t.each_value q.refs;
  manifests = q.manifests;
  control = q.control;
  ordinary = q.ordinary;
}
adopted_facts Manifests n keys values t p q = record {
  address = q.address;
  current = q.current;
  out = q.out;
  held = q.held;
  refs = q.refs;
  manifests = after_small (adopting_by n p.tables.manifests.number) n keys values p.tables.manifests t.each_value q.manifests;
  control = q.control;
  ordinary = q.ordinary;
}

adopts_as_keeps : (number : ℕ) (v : UniqueAddress) (kind : Kind) (n : ℕ) (keys : List (List ℕ)) (values : List ℕ) (x : Adopting) → n < 2 ^ 64 → IsTable keys values → Keeps (adopts_as number v kind n keys values x)
adopts_as_keeps number v kind n keys values adopting.Older k t = drops_keep number rules.OldTable
adopts_as_keeps number v kind n keys values adopting.Same k t = table_ack_keeps kind v n k
adopts_as_keeps number v kind n keys values adopting.Adopted k t =
    peer_keep v.address (with_adopted kind n keys values) (adopted_facts kind n keys values t) ▹ tells_keep (λ me. lines.Adopted me v kind n) ▹ table_ack_keeps kind v n k

adopts_keep : (number : ℕ) (v : UniqueAddress) (kind : Kind) (n : ℕ) (keys : List (List ℕ)) (values : List ℕ) → n < 2 ^ 64 → IsTable keys values → Keeps (adopts number v kind n keys values)
adopts_keep number v kind n keys values k t = record { on = λ d f. (adopts_as_keeps number v kind n keys values (whole.adopting n (of_kind kind (peer_at v.address d.node).tables)) k t).on d f }

tabled_keeps : (number : ℕ) (v : UniqueAddress) (kind : Kind) (uid n : ℕ) (keys : List (List ℕ)) (values : List ℕ) → n < 2 ^ 64 → IsTable keys values → Keeps (tabled number v kind uid n keys values)
tabled_keeps number v kind uid n keys values k t = record {
  on = λ d f. (if_keeps (uid == d.node.me.uid) (of_current number v (adopts number v kind n keys values)) (drops number rules.NotMe) (current_keeps number v (adopts number v kind n keys values) (adopts_keep number v kind n keys values k t)) (drops_keep number rules.NotMe)).on d f;
}

confirms_as_keeps : (number : ℕ) (v : UniqueAddress) (kind : Kind) (n : ℕ) (x : Confirmed) → Keeps (confirms_as number v kind n x)
confirms_as_keeps number v kind n confirming.NotAnnounced = drops_keep number rules.OldTable
confirms_as_keeps number v kind n confirming.Confirmed = origin_keep v (with_confirmed kind n) (by kind)
  where
    by : (k : Kind) (o : Origin whole) → OriginFacts o → OriginFacts (with_confirmed k n o)
    by Refs o q = record { who = q.who; refs = confirmed_facts n o.tables.refs q.refs; manifests = q.manifests }
    by Manifests o q = record { who = q.who; refs = q.refs; manifests = confirmed_facts n o.tables.manifests q.manifests }

confirms_keep : (number : ℕ) (v : UniqueAddress) (kind : Kind) (n : ℕ) → Keeps (confirms number v kind n)
confirms_keep number v kind n = record { on = λ d f. (confirms_as_keeps number v kind n (whole.confirming n (of_kind kind (origin_at v d.node).tables))).on d f }

-- the number of a table that was read
number_small : (version : ℕ) (sequence : Option ℕ) → IsVersion version sequence → table_number version sequence < 2 ^ 64
number_small version None h = (let e : version ≤ 255 = h in let k : version < 2 ^ 64 = omega arith in k)
number_small version (Some sequence) h = h.3

-- ---- other messages

beat_keeps : (v : UniqueAddress) → Keeps (hears_beat v)
beat_keeps v = record {
  on = λ d f. (where_keeps (is_now v d.node && watches_at v.address d.node) (peer_becomes v.address (heard_at d.node.moment))
      (peer_keep v.address (heard_at d.node.moment) (λ p q. record { address = q.address; current = q.current; out = q.out; held = q.held; refs = q.refs; manifests = q.manifests; control = q.control; ordinary = q.ordinary }))).on d f;
}

back_keeps : (v : UniqueAddress) → Keeps (beats_back v)
back_keeps v = record { on = λ d f. (control_keeps v (controls.HeartbeatRsp d.node.me.uid) (back_good d.node.me.uid f.node.me.uid)).on d f }

noticed_keeps : (number : ℕ) (v to : UniqueAddress) → Keeps (noticed number v to)
noticed_keeps number v to = record { on = λ d f. (if_keeps (same_unique to d.node.me) (tells_of (λ me. lines.Notice me v)) (drops number rules.NotMe) (tells_keep (λ me. lines.Notice me v)) (drops_keep number rules.NotMe)).on d f }

counted_facts : (kind : Kind) (name : NameOf) → IsAsciiName name → (o : Origin whole) → OriginFacts o → OriginFacts (with_counted kind name o)
counted_facts kind (Index i) h o q = q
counted_facts kind (Literal []) h o q = q
counted_facts Refs (Literal (b ∷ bs)) h o q = record { who = q.who; refs = used_facts (b ∷ bs) o.tables.refs h q.refs; manifests = q.manifests }
counted_facts Manifests (Literal (b ∷ bs)) h o q = record { who = q.who; refs = q.refs; manifests = used_facts (b ∷ bs) o.tables.manifests h q.manifests }

counts_keep : (v : UniqueAddress) (e : EnvelopeOf) → HasTexts e → Keeps (counts_names v e)
counts_keep v e h =
    origin_keep v (with_counted Refs e.sender) (counted_facts Refs e.sender h.sender)
    ▹ origin_keep v (with_counted Refs e.recipient) (counted_facts Refs e.recipient h.recipient)
    ▹ origin_keep v (with_counted Manifests e.manifest) (counted_facts Manifests e.manifest h.manifest)

got_keeps : (i : Inbound whole) (v : UniqueAddress) (e : EnvelopeOf) (m : Meaning) → HasTexts e → Keeps (got i v e m)
got_keeps i v e m h = record {
  on = λ d f. (tells_keep (λ me. lines.Got me v (nonce_in i.state) (tell_of m))
      ▹ inbound_keep i.number (with_shown (origin_at v d.node).tables e) (λ j q. record { known = q.known; owed = q.owed })
      ▹ counts_keep v e h).on d f;
}

controlled_keeps : (number : ℕ) (v : UniqueAddress) (c : Control) → IsUniqueAddress v → ControlFacts c → Keeps (controlled number v c)
controlled_keeps number v (controls.Quarantined from to) h k = noticed_keeps number v to
controlled_keeps number v (controls.Terminating from) h k = drops_keep number rules.Unused
controlled_keeps number v (controls.TerminatingAck from) h k = drops_keep number rules.Unused
controlled_keeps number v (controls.HandshakeReq from to its_nonce) h k = stays_keep
controlled_keeps number v (controls.HandshakeRsp from for_uid its_nonce) h k = stays_keep
controlled_keeps number v (controls.RefsTable from uid version keys values sequence) h k = uses_keep v.address ▹ tabled_keeps number v Refs uid (table_number version sequence) keys values (number_small version sequence k.valid.2) k.valid.3
controlled_keeps number v (controls.RefsAck from version sequence) h k = confirms_keep number v Refs (table_number version sequence)
controlled_keeps number v (controls.ManifestsTable from uid version keys values sequence) h k = uses_keep v.address ▹ tabled_keeps number v Manifests uid (table_number version sequence) keys values (number_small version sequence k.valid.2) k.valid.3
controlled_keeps number v (controls.ManifestsAck from version sequence) h k = confirms_keep number v Manifests (table_number version sequence)
controlled_keeps number v (controls.Numbered n m reply_to) h k = uses_keep v.address ▹ numbered_keeps v n m h k.message
controlled_keeps number v (controls.Ack n from) h k = current_keeps number v (acked number v n) (acked_keeps number v n h)
controlled_keeps number v (controls.Nack n from) h k = current_keeps number v (nacked number v n) (nacked_keeps number v n h)
controlled_keeps number v controls.Heartbeat h k = uses_keep v.address ▹ back_keeps v
controlled_keeps number v (controls.HeartbeatRsp uid) h k = beat_keeps v

closed_keeps : (number : ℕ) (v : UniqueAddress) (c : Content) → IsUniqueAddress v → Keeps (drops_closed number v c)
closed_keeps number v c h = drops_keep number rules.Closed ▹ where_keeps (is_told_closed c) (quarantines v) (quarantines_keeps v h)

-- ---- a frame

abbrev SpeakerFacts : Option UniqueAddress → Type 0
SpeakerFacts None = Unit {0}
SpeakerFacts (Some v) = IsUniqueAddress v

speaker_facts : (i : Inbound whole) → InboundFacts i → SpeakerFacts (speaker_in i.state)
speaker_facts i f = by i.state f.known
  where
    by : (s : InState) → KnownFacts s → SpeakerFacts (speaker_in s)
    by Raw k = tt
    by (Known who its_nonce) k = k

speaker_keeps : (x : Option UniqueAddress) (r : UniqueAddress → Rule whole listed) → SpeakerFacts x → ((v : UniqueAddress) → IsUniqueAddress v → Keeps (r v)) → Keeps (by_speaker x r)
speaker_keeps None r h a = stays_keep
speaker_keeps (Some v) r h a = a v h

spoken_keeps : (i : Inbound whole) (v : UniqueAddress) (c : Content) → IsUniqueAddress v → ContentFacts c → Keeps (spoken i v c)
spoken_keeps i v (Ordinary e m) h k = uses_keep v.address ▹ got_keeps i v e m k
spoken_keeps i v (Controls c) h k = controlled_keeps i.number v c h k

by_it : (i : Inbound whole) (c : Content) → InboundFacts i → ContentFacts c → Keeps (by_speaker (speaker_in i.state) (λ v. spoken i v c))
by_it i c f k = speaker_keeps (speaker_in i.state) (λ v. spoken i v c) (speaker_facts i f) (λ v h. spoken_keeps i v c h k)

handles_keep : (i : Inbound whole) (c : Content) → InboundFacts i → ContentFacts c → Keeps (handles i c)
handles_keep i (Ordinary e m) f k = by_it i (Ordinary e m) f k
handles_keep i (Controls (controls.HandshakeReq from to its_nonce)) f k = requested_keeps i from to its_nonce k.valid.0 k.valid.2
handles_keep i (Controls (controls.HandshakeRsp from for_uid its_nonce)) f k = answered_keeps from for_uid its_nonce k.valid.0
handles_keep i (Controls (controls.Quarantined from to)) f k = by_it i (Controls (controls.Quarantined from to)) f k
handles_keep i (Controls (controls.Terminating from)) f k = by_it i (Controls (controls.Terminating from)) f k
handles_keep i (Controls (controls.TerminatingAck from)) f k = by_it i (Controls (controls.TerminatingAck from)) f k
handles_keep i (Controls (controls.RefsTable from uid version keys values sequence)) f k = by_it i (Controls (controls.RefsTable from uid version keys values sequence)) f k
handles_keep i (Controls (controls.RefsAck from version sequence)) f k = by_it i (Controls (controls.RefsAck from version sequence)) f k
handles_keep i (Controls (controls.ManifestsTable from uid version keys values sequence)) f k = by_it i (Controls (controls.ManifestsTable from uid version keys values sequence)) f k
handles_keep i (Controls (controls.ManifestsAck from version sequence)) f k = by_it i (Controls (controls.ManifestsAck from version sequence)) f k
handles_keep i (Controls (controls.Numbered n m reply_to)) f k = by_it i (Controls (controls.Numbered n m reply_to)) f k
handles_keep i (Controls (controls.Ack n from)) f k = by_it i (Controls (controls.Ack n from)) f k
handles_keep i (Controls (controls.Nack n from)) f k = by_it i (Controls (controls.Nack n from)) f k
handles_keep i (Controls controls.Heartbeat) f k = by_it i (Controls controls.Heartbeat) f k
handles_keep i (Controls (controls.HeartbeatRsp uid)) f k = by_it i (Controls (controls.HeartbeatRsp uid)) f k

-- what a frame says, to whoever hears it
pub record FrameFacts (frame : List ℕ) : Type 0 where
  pub says : (stream : Option Stream) (n : Node whole) (i : Inbound whole) (content : Content) → content_in stream n i frame ≡ Ok content → ContentFacts content

abbrev VerdictFacts : Verdict → Type 0
VerdictFacts (Dropped rule) = Unit {0}
VerdictFacts (OfClosed content) = Unit {0}
VerdictFacts (Says content) = ContentFacts content

verdict_facts : (stream : Option Stream) (n : Node whole) (i : Inbound whole) (frame : List ℕ) → FrameFacts frame → VerdictFacts (verdict stream n i frame)
verdict_facts stream n i frame f = by (content_in stream n i frame) refl
  where
    by : (r : Result Content DropRule) → content_in stream n i frame ≡ r → VerdictFacts (judged (is_shut n (speaker_in i.state)) r)
    by (Err rule) e = tt
    by (Ok content) e = on_cond VerdictFacts (is_shut n (speaker_in i.state) && not (is_handshake content)) (OfClosed content) (Says content) (λ b. tt) (λ b. f.says stream n i content e)

heard_keeps : (i : Inbound whole) (x : Verdict) → InboundFacts i → VerdictFacts x → Keeps (heard_as i x)
heard_keeps i (Dropped rule) f k = drops_keep i.number rule
heard_keeps i (OfClosed content) f k = speaker_keeps (speaker_in i.state) (λ v. drops_closed i.number v content) (speaker_facts i f) (λ v h. closed_keeps i.number v content h)
heard_keeps i (Says content) f k = handles_keep i content f k

pub hears_keep : (number : ℕ) (stream : Option Stream) (frame : List ℕ) → FrameFacts frame → Keeps (hears number stream frame)
hears_keep number stream frame g = record { on = λ d f. by d f (inbound_at number d.node) refl }
  where
    by : (d : Work) → WorkFacts d → (x : Option (Inbound whole)) → inbound_at number d.node ≡ x → WorkFacts (hears_on stream x frame d)
    by d f None e = f
    by d f (Some i) e = (heard_keeps i (verdict stream d.node i frame) (each_find InboundFacts (is_number number) d.node.inbound i f.node.inbound e) (verdict_facts stream d.node i frame g)).on d f
