-- What a frame does keeps all inbound connections with their bytes.
use Rattle.std.proofs.Common.{◌≡◌, ℕ, ◌+◌, Bool, true, false, cond, List, [], ◌∷◌, map, refl, ap, ◌∙◌}
use Rattle.std.specs.Prelude.{◌&&◌, ◌||◌, ◌==◌, not, is_some, Option, Some, None}
use Rattle.artery_base.specs.declared.address.Address.{Address}
use Rattle.artery_base.specs.declared.address.UniqueAddress.{UniqueAddress}
use Rattle.artery_base.specs.declared.message.SysMsg.{SysMsg}
use Rattle.artery_base.specs.declared.message.Tell.{Tell}
use Rattle.artery_assoc.specs.Peer.{learning}
use Rattle.artery_assoc.specs.declared.peer.Learn.{Learn}
use Rattle.artery_assoc.specs.declared.peer.Learn.TheVariants.{Learnt, Same, WasClosed, ClosedFull}
use Rattle.artery_codec.specs.Meaning.{Meaning}
use Rattle.artery_control.specs.declared.control.Control.{Control}
use Rattle.artery_control.specs.declared.control.Control.TheVariants as controls
use Rattle.artery_delivery.specs.declared.outbound.Acked.{Acked}
use Rattle.artery_delivery.specs.declared.outbound.Acked.TheVariants.{Cleared, Past}
use Rattle.artery_delivery.specs.declared.inbound.Take.{Take}
use Rattle.artery_delivery.specs.declared.inbound.Take.TheVariants.{Taken, Again, Gap}
use Rattle.artery_frame.specs.declared.stream.Stream.{Stream}
use Rattle.artery_frame.specs.declared.stream.Stream.TheVariants as streams
use Rattle.artery_header.specs.Envelope.{EnvelopeOf}
use Rattle.artery_handshake.specs.declared.out_conn.OnRsp.{OnRsp}
use Rattle.artery_handshake.specs.declared.out_conn.OnRsp.TheVariants.{Bind, Repeat, Stray}
use Rattle.artery_journal.specs.declared.line.Line.{Line}
use Rattle.artery_journal.specs.declared.line.Line.TheVariants as lines
use Rattle.artery_journal.specs.declared.rule.Rule.{Rule as DropRule}
use Rattle.artery_journal.specs.declared.rule.Rule.TheVariants as rules
use Rattle.artery_journal.specs.declared.words.Cause.TheVariants as causes
use Rattle.artery_journal.specs.declared.words.Kind.{Kind}
use Rattle.artery_journal.specs.declared.words.Kind.TheVariants.{Refs, Manifests}
use Rattle.artery_journal.specs.declared.words.Reason.TheVariants as reasons
use Rattle.artery_tables.specs.declared.out_table.Adopted.{Adopted as Adopting}
use Rattle.artery_tables.specs.declared.out_table.Adopted.TheVariants as adopting
use Rattle.artery_tables.specs.declared.in_tables.Confirmed.{Confirmed}
use Rattle.artery_tables.specs.declared.in_tables.Confirmed.TheVariants as confirming
use Rattle.artery_machine.specs.Lists.{change_first}
use Rattle.artery_machine.specs.Deeds.{Writing}
use Rattle.artery_machine.specs.Parts.{Parts}
use Rattle.artery_machine.specs.declared.link.Answer.{Answer}
use Rattle.artery_machine.specs.Node.{Peer, Inbound, Origin, of_kind, same_unique, has_peer, has_origin, peer_at, origin_at, inbound_at, is_number, conn_of, current_of, stream_dialed, dialed_as, dial_asked, speaker_in, nonce_in}
use Rattle.artery_machine.specs.Doing.{Sink, Doing, Rule, ◌▸◌, stays, where_true, becomes, tells_of, writes_on, hangs_up, peer_becomes, inbound_becomes, origin_becomes, each}
use Rattle.artery_machine.specs.Making.{makes_missing, with_peer_at, dials, uses, loses}
use Rattle.artery_machine.specs.Closing.{dial_of, control_dial, on_control, quarantines, closes_current}
use Rattle.artery_machine.specs.Sending.{pumps, tells_sent, tells_told, tells_on, tells_held, told_as}
use Rattle.artery_machine.specs.Watching.{watches_at, acts}
use Rattle.artery_machine.specs.Verdict.{Content, Ordinary, Controls, Verdict, Dropped, OfClosed, Says, verdict}
use Rattle.artery_machine.specs.Handshaking.{drops, drops_or, request_rule, requested, is_asked, known_as, with_origin, makes_origin, answers, answers_on, answer_to, writes_answer, owing, owes_no_answer, tells_all_sent, tells_waiting, writes_owed_ack, owes_no_ack, dials_ordinary, goes_on, learns_new, learns_as, learns, gives_up, binds_ordinary, binds, ordinary_dial, answered_as, takes_answer, answer_at, is_met, answered_by, answered_to, strays_unless, then_ordinary, answered_plainly, answered}
use Rattle.artery_machine.specs.Hearing.{table_number, tell_of, is_told_closed, owes_ack, with_taken, is_now, with_shown, acknowledges_on, acknowledges, numbered_as, numbered, acked_as, of_current, acked, nacked, acknowledges_table, table_ack, adopts_as, adopts, tabled, confirms_as, confirms, hears_beat, beats_back, noticed, counts_names, got, controlled, drops_closed, spoken, by_speaker, handles, heard_as, hears_on, hears}
use Rattle.artery_laws.proofs.Leaving.{Leaves, Left, hangs_leave, dials_leave, uses_leaves, on_control_leaves, quarantines_leaves, closes_current_leaves, pumps_leave, sent_leaves, acts_leave}

-- The inbound connections of a node, each with its bytes.
abbrev pub with_their_bytes : {P : Parts} → List (Inbound P) → List (ℕ × P.Bytes)
with_their_bytes is = map (λ i. (i.number, i.bytes)) is

module _ {P : Parts} {E : Sink} where
  pub record Keeps (r : Rule P E) : Type 0 where
    pub on : (d : Doing P E) → with_their_bytes (r d).node.inbound ≡ with_their_bytes d.node.inbound

infixr 35 ◌▹◌
◌▹◌ : {P : Parts} {E : Sink} {r t : Rule P E} → Keeps r → Keeps t → Keeps (r ▸ t)
◌▹◌ {P} {E} {r} {t} a b = record { on = λ d. b.on (r d) ∙ a.on d }

module _ {P : Parts} {E : Sink} where
  by_leaving : (r : Rule P E) → Leaves r → Keeps r
  by_leaving r a = record { on = λ d. ap (λ (l : Left P). with_their_bytes l.inbound) (a.on d) }

  inbound_keep : (k : ℕ) (g : Inbound P → Inbound P) → ((i : Inbound P) → (g i).number ≡ i.number) → ((i : Inbound P) → (g i).bytes ≡ i.bytes) → Keeps {P = P} {E = E} (inbound_becomes k g)
  inbound_keep k g e f = record { on = λ d. same d.node.inbound }
    where
      at_one : (b : Bool) (i : Inbound P) (is : List (Inbound P)) → with_their_bytes (change_first (is_number k) g is) ≡ with_their_bytes is
          → with_their_bytes (cond b (g i ∷ is) (i ∷ change_first (is_number k) g is)) ≡ with_their_bytes (i ∷ is)
      at_one true i is rest = ap (λ n. (n, (g i).bytes) ∷ with_their_bytes is) (e i) ∙ ap (λ b. (i.number, b) ∷ with_their_bytes is) (f i)
      at_one false i is rest = ap (λ ks. (i.number, i.bytes) ∷ ks) rest

      same : (is : List (Inbound P)) → with_their_bytes (change_first (is_number k) g is) ≡ with_their_bytes is
      same [] = refl
      same (i ∷ is) = at_one (is_number k i) i is (same is)

  stays_keep : Keeps {P = P} {E = E} stays
  stays_keep = record { on = λ d. refl }

  tells_keep : (line : UniqueAddress → Line) → Keeps {P = P} {E = E} (tells_of line)
  tells_keep line = record { on = λ d. refl }

  origin_keep : (v : UniqueAddress) (g : Origin P → Origin P) → Keeps {P = P} {E = E} (origin_becomes v g)
  origin_keep v g = record { on = λ d. refl }

  peer_keep : (a : Address) (g : Peer P → Peer P) → Keeps {P = P} {E = E} (peer_becomes a g)
  peer_keep a g = record { on = λ d. refl }

  control_keep : (v : UniqueAddress) (c : Control) → Keeps {P = P} {E = E} (on_control v c)
  control_keep v c = by_leaving (on_control v c) (on_control_leaves v c)

  uses_keep : (a : Address) → Keeps {P = P} {E = E} (uses a)
  uses_keep a = by_leaving (uses a) (uses_leaves a)

  pumps_keep : (a : Address) → Keeps {P = P} {E = E} (pumps a)
  pumps_keep a = by_leaving (pumps a) (pumps_leave a)

  dials_keep : (stream : Stream) (a : Address) → Keeps {P = P} {E = E} (dials stream a)
  dials_keep stream a = by_leaving (dials stream a) (dials_leave stream a)

  if_keeps : (b : Bool) (r t : Rule P E) → Keeps r → Keeps t → Keeps (cond b r t)
  if_keeps true r t a c = a
  if_keeps false r t a c = c

  where_keeps : (b : Bool) (r : Rule P E) → Keeps r → Keeps (where_true b r)
  where_keeps true r a = a
  where_keeps false r a = stays_keep

  each_keeps : {X : Type 0} (xs : List X) (r : X → Rule P E) → ((x : X) → Keeps (r x)) → Keeps (each xs r)
  each_keeps [] r a = stays_keep
  each_keeps (x ∷ xs) r a = a x ▹ each_keeps xs r a

  -- ---- numbered messages

  acks_keep : (v : UniqueAddress) (ack : ℕ → UniqueAddress → Control) (x : Option ℕ) → Keeps {P = P} {E = E} (acknowledges_on v ack x)
  acks_keep v ack None = record { on = λ d. refl }
  acks_keep v ack (Some dial) = record { on = λ d. (origin_keep v (owes_ack false) ▹ control_keep v (ack (P.last_taken v d.node.taken) d.node.me)).on d }

  ack_keeps : (v : UniqueAddress) (ack : ℕ → UniqueAddress → Control) → Keeps {P = P} {E = E} (acknowledges v ack)
  ack_keeps v ack = record { on = λ d. (acks_keep v ack (control_dial v d.node)).on d }

  taken_keeps : (v : UniqueAddress) (n : ℕ) (m : SysMsg) → Keeps {P = P} {E = E} (becomes (with_taken v n m))
  taken_keeps v n m = record { on = λ d. refl }

  numbered_as_keeps : (v : UniqueAddress) (n : ℕ) (m : SysMsg) (x : Take) → Keeps {P = P} {E = E} (numbered_as v n m x)
  numbered_as_keeps v n m Taken = taken_keeps v n m ▹ tells_keep (λ me. lines.Took me v n m) ▹ ack_keeps v controls.Ack ▹ by_leaving (acts v m) (acts_leave v m)
  numbered_as_keeps v n m (Again last) = tells_keep (λ me. lines.Again me v n) ▹ ack_keeps v controls.Ack
  numbered_as_keeps v n m (Gap last) = tells_keep (λ me. lines.Gap me v n) ▹ ack_keeps v controls.Nack

  numbered_keeps : (v : UniqueAddress) (n : ℕ) (m : SysMsg) → Keeps {P = P} {E = E} (numbered v n m)
  numbered_keeps v n m = record { on = λ d. (numbered_as_keeps v n m (P.taking v n d.node.taken)).on d }

  drops_keep : (k : ℕ) (rule : DropRule) → Keeps {P = P} {E = E} (drops k rule)
  drops_keep k rule = tells_keep (λ me. lines.Dropped me k rule)

  acked_as_keeps : (k : ℕ) (v : UniqueAddress) (g : P.Out → P.Out) (again : Bool) (x : Acked) → Keeps {P = P} {E = E} (acked_as k v g again x)
  acked_as_keeps k v g again Past = record { on = λ d. refl }
  acked_as_keeps k v g again (Cleared count) = record { on = λ d. (peer_keep v.address _ ▹ peer_keep v.address _ ▹ pumps_keep v.address).on d }

  current_keeps : (k : ℕ) (v : UniqueAddress) (r : Rule P E) → Keeps r → Keeps (of_current k v r)
  current_keeps k v r a = record { on = λ d. (if_keeps (is_now v d.node) _ _ a (drops_keep k rules.NotCurrent)).on d }

  acked_keeps : (k : ℕ) (v : UniqueAddress) (n : ℕ) → Keeps {P = P} {E = E} (acked k v n)
  acked_keeps k v n = record { on = λ d. (acked_as_keeps k v (P.acknowledged n) false (P.acknowledgement n (peer_at v.address d.node).out)).on d }

  nacked_keeps : (k : ℕ) (v : UniqueAddress) (n : ℕ) → Keeps {P = P} {E = E} (nacked k v n)
  nacked_keeps k v n = record { on = λ d. (acked_as_keeps k v (P.refused n) true (P.acknowledgement n (peer_at v.address d.node).out)).on d }

  -- ---- tables

  table_ack_keeps : (kind : Kind) (v : UniqueAddress) (n : ℕ) → Keeps {P = P} {E = E} (acknowledges_table kind v n)
  table_ack_keeps kind v n = record { on = λ d. (control_keep v (table_ack kind d.node.me n)).on d }

  adopts_as_keeps : (k : ℕ) (v : UniqueAddress) (kind : Kind) (n : ℕ) (keys : List (List ℕ)) (values : List ℕ) (x : Adopting) → Keeps {P = P} {E = E} (adopts_as k v kind n keys values x)
  adopts_as_keeps k v kind n keys values adopting.Older = drops_keep k rules.OldTable
  adopts_as_keeps k v kind n keys values adopting.Same = table_ack_keeps kind v n
  adopts_as_keeps k v kind n keys values adopting.Adopted = peer_keep v.address _ ▹ tells_keep (λ me. lines.Adopted me v kind n) ▹ table_ack_keeps kind v n

  adopts_keep : (k : ℕ) (v : UniqueAddress) (kind : Kind) (n : ℕ) (keys : List (List ℕ)) (values : List ℕ) → Keeps {P = P} {E = E} (adopts k v kind n keys values)
  adopts_keep k v kind n keys values = record { on = λ d. (adopts_as_keeps k v kind n keys values (P.adopting n (of_kind kind (peer_at v.address d.node).tables))).on d }

  tabled_keeps : (k : ℕ) (v : UniqueAddress) (kind : Kind) (uid n : ℕ) (keys : List (List ℕ)) (values : List ℕ) → Keeps {P = P} {E = E} (tabled k v kind uid n keys values)
  tabled_keeps k v kind uid n keys values = record { on = λ d. (if_keeps (uid == d.node.me.uid) _ _ (current_keeps k v _ (adopts_keep k v kind n keys values)) (drops_keep k rules.NotMe)).on d }

  confirms_as_keeps : (k : ℕ) (v : UniqueAddress) (kind : Kind) (n : ℕ) (x : Confirmed) → Keeps {P = P} {E = E} (confirms_as k v kind n x)
  confirms_as_keeps k v kind n confirming.Confirmed = origin_keep v _
  confirms_as_keeps k v kind n confirming.NotAnnounced = drops_keep k rules.OldTable

  confirms_keep : (k : ℕ) (v : UniqueAddress) (kind : Kind) (n : ℕ) → Keeps {P = P} {E = E} (confirms k v kind n)
  confirms_keep k v kind n = record { on = λ d. (confirms_as_keeps k v kind n (P.confirming n (of_kind kind (origin_at v d.node).tables))).on d }

  -- ---- other messages

  beat_keeps : (v : UniqueAddress) → Keeps {P = P} {E = E} (hears_beat v)
  beat_keeps v = record { on = λ d. (where_keeps (is_now v d.node && watches_at v.address d.node) _ (peer_keep v.address _)).on d }

  back_keeps : (v : UniqueAddress) → Keeps {P = P} {E = E} (beats_back v)
  back_keeps v = record { on = λ d. (control_keep v (controls.HeartbeatRsp d.node.me.uid)).on d }

  noticed_keeps : (k : ℕ) (v to : UniqueAddress) → Keeps {P = P} {E = E} (noticed k v to)
  noticed_keeps k v to = record { on = λ d. (if_keeps (same_unique to d.node.me) _ _ (tells_keep (λ me. lines.Notice me v)) (drops_keep k rules.NotMe)).on d }

  counts_keep : (v : UniqueAddress) (e : EnvelopeOf) → Keeps {P = P} {E = E} (counts_names v e)
  counts_keep v e = origin_keep v _ ▹ origin_keep v _ ▹ origin_keep v _

  got_keeps : (i : Inbound P) (v : UniqueAddress) (e : EnvelopeOf) (m : Meaning) → Keeps {P = P} {E = E} (got i v e m)
  got_keeps i v e m = record { on = λ d. (tells_keep (λ me. lines.Got me v (nonce_in i.state) (tell_of m)) ▹ inbound_keep i.number (with_shown (origin_at v d.node).tables e) (λ j. refl) (λ j. refl) ▹ counts_keep v e).on d }

  controlled_keeps : (k : ℕ) (v : UniqueAddress) (c : Control) → Keeps {P = P} {E = E} (controlled k v c)
  controlled_keeps k v (controls.Quarantined from to) = noticed_keeps k v to
  controlled_keeps k v (controls.Terminating from) = drops_keep k rules.Unused
  controlled_keeps k v (controls.TerminatingAck from) = drops_keep k rules.Unused
  controlled_keeps k v (controls.HandshakeReq from to its_nonce) = stays_keep
  controlled_keeps k v (controls.HandshakeRsp from for_uid its_nonce) = stays_keep
  controlled_keeps k v (controls.RefsTable from uid version keys values sequence) = uses_keep v.address ▹ tabled_keeps k v Refs uid (table_number version sequence) keys values
  controlled_keeps k v (controls.RefsAck from version sequence) = confirms_keep k v Refs (table_number version sequence)
  controlled_keeps k v (controls.ManifestsTable from uid version keys values sequence) = uses_keep v.address ▹ tabled_keeps k v Manifests uid (table_number version sequence) keys values
  controlled_keeps k v (controls.ManifestsAck from version sequence) = confirms_keep k v Manifests (table_number version sequence)
  controlled_keeps k v (controls.Numbered n m reply_to) = uses_keep v.address ▹ numbered_keeps v n m
  controlled_keeps k v (controls.Ack n from) = current_keeps k v _ (acked_keeps k v n)
  controlled_keeps k v (controls.Nack n from) = current_keeps k v _ (nacked_keeps k v n)
  controlled_keeps k v controls.Heartbeat = uses_keep v.address ▹ back_keeps v
  controlled_keeps k v (controls.HeartbeatRsp uid) = beat_keeps v

  closed_keeps : (k : ℕ) (v : UniqueAddress) (c : Content) → Keeps {P = P} {E = E} (drops_closed k v c)
  closed_keeps k v c = drops_keep k rules.Closed ▹ where_keeps (is_told_closed c) _ (by_leaving (quarantines v) (quarantines_leaves v))

  -- ---- requests

  missing_keeps : (a : Address) → Keeps {P = P} {E = E} (makes_missing a)
  missing_keeps a = record { on = λ d. (if_keeps (has_peer a d.node) _ _ stays_keep (made ▹ dials_keep streams.Control a)).on d }
    where
      made : Keeps {P = P} {E = E} (becomes (with_peer_at a))
      made = record { on = λ d. refl }

  origins_keep : (v : UniqueAddress) → Keeps {P = P} {E = E} (makes_origin v)
  origins_keep v = record { on = λ d. (where_keeps (not (has_origin v d.node)) _ made).on d }
    where
      made : Keeps {P = P} {E = E} (becomes (with_origin v))
      made = record { on = λ d. refl }

  answer_keeps : (x : ℕ) (o : Option Answer) → Keeps {P = P} {E = E} (writes_answer x o)
  answer_keeps x None = record { on = λ d. refl }
  answer_keeps x (Some answer) = record { on = λ d. refl }

  answers_on_keep : (k : ℕ) (answer : Answer) (x : Option ℕ) → Keeps {P = P} {E = E} (answers_on k answer x)
  answers_on_keep k answer None = inbound_keep k (owing answer) (λ i. refl) (λ i. refl)
  answers_on_keep k answer (Some x) = inbound_keep k owes_no_answer (λ i. refl) (λ i. refl) ▹ answer_keeps x (Some answer)

  answers_keep : (k : ℕ) (v : UniqueAddress) (its_nonce : Option ℕ) → Keeps {P = P} {E = E} (answers k v its_nonce)
  answers_keep k v its_nonce = record { on = λ d. (answers_on_keep k (answer_to v its_nonce) (dial_asked (conn_of streams.Control (peer_at v.address d.node)))).on d }

  asked_keeps : (k : ℕ) (v : UniqueAddress) (its_nonce : Option ℕ) → Keeps {P = P} {E = E} (is_asked k v its_nonce)
  asked_keeps k v its_nonce = missing_keeps v.address ▹ uses_keep v.address ▹ inbound_keep k (known_as v its_nonce) (λ i. refl) (λ i. refl) ▹ origins_keep v ▹ answers_keep k v its_nonce

  drops_or_keeps : (k : ℕ) (rule : Option DropRule) (r : Rule P E) → Keeps r → Keeps (drops_or k rule r)
  drops_or_keeps k None r a = a
  drops_or_keeps k (Some rule) r a = drops_keep k rule

  requested_keeps : (i : Inbound P) (v : UniqueAddress) (to : Address) (its_nonce : Option ℕ) → Keeps {P = P} {E = E} (requested i v to its_nonce)
  requested_keeps i v to its_nonce = record { on = λ d. (drops_or_keeps i.number (request_rule d.node i v to its_nonce) _ (asked_keeps i.number v its_nonce)).on d }

  -- ---- answers

  all_sent_keep : (a : Address) (uid n : ℕ) (ms : List SysMsg) → Keeps {P = P} {E = E} (tells_all_sent a uid n ms)
  all_sent_keep a uid n [] = stays_keep
  all_sent_keep a uid n (m ∷ ms) = by_leaving (tells_sent a (Some uid) n m) (sent_leaves a (Some uid) n m) ▹ all_sent_keep a uid (n + 1) ms

  waiting_keep : (a : Address) (uid : ℕ) → Keeps {P = P} {E = E} (tells_waiting a uid)
  waiting_keep a uid = record { on = λ d. (all_sent_keep a uid 1 (P.unacknowledged (peer_at a d.node).out)).on d }

  owed_keeps : (v : UniqueAddress) → Keeps {P = P} {E = E} (writes_owed_ack v)
  owed_keeps v = record { on = λ d. (where_keeps (origin_at v d.node).owes _ (origin_keep v owes_no_ack ▹ control_keep v (controls.Ack (P.last_taken v d.node.taken) d.node.me))).on d }

  ordinary_keeps : (a : Address) → Keeps {P = P} {E = E} (dials_ordinary a)
  ordinary_keeps a = record { on = λ d. (where_keeps (not (is_some (conn_of streams.Ordinary (peer_at a d.node)))) _ (dials_keep streams.Ordinary a)).on d }

  goes_on_keeps : (v : UniqueAddress) → Keeps {P = P} {E = E} (goes_on v)
  goes_on_keeps v = record { on = λ d. (peer_keep v.address _ ▹ owed_keeps v ▹ peer_keep v.address _ ▹ pumps_keep v.address ▹ ordinary_keeps v.address).on d }

  new_keeps : (v : UniqueAddress) (former : Option ℕ) → Keeps {P = P} {E = E} (learns_new v former)
  new_keeps v former = record {
    on = λ d. (by_leaving (closes_current v.address causes.Superseded former stays) (closes_current_leaves v.address causes.Superseded former stays (record { on = λ e. refl }))
        ▹ peer_keep v.address _ ▹ tells_keep (λ me. lines.Learnt me v) ▹ waiting_keep v.address v.uid ▹ goes_on_keeps v).on d;
  }

  gives_up_keeps : (stream : Stream) (a : Address) → Keeps {P = P} {E = E} (gives_up stream a)
  gives_up_keeps stream a = record { on = λ d. (by_leaving (hangs_up (dial_of (conn_of stream (peer_at a d.node)))) (hangs_leave (dial_of (conn_of stream (peer_at a d.node)))) ▹ lost).on d }
    where
      lost : Keeps {P = P} {E = E} (loses stream a)
      lost = record { on = λ d. refl }

  learns_as_keeps : (v : UniqueAddress) (x : Learn) → Keeps {P = P} {E = E} (learns_as v x)
  learns_as_keeps v WasClosed = tells_keep (λ me. lines.Barred me v)
  learns_as_keeps v ClosedFull = tells_keep (λ me. lines.Refused me reasons.ClosedUids) ▹ gives_up_keeps streams.Control v.address
  learns_as_keeps v Same = goes_on_keeps v
  learns_as_keeps v (Learnt former) = new_keeps v former

  learns_keep : (v : UniqueAddress) → Keeps {P = P} {E = E} (learns v)
  learns_keep v = record { on = λ d. (learns_as_keeps v (learning v.uid (peer_at v.address d.node).incarnations)).on d }

  told_keeps : (a : Address) (x : ℕ) (m : Tell) → Keeps {P = P} {E = E} (tells_on a x m)
  told_keeps a x m = record { on = λ d. by (current_of (peer_at a d.node)) d (told_as d.node.me.uid (peer_at a d.node) m) }
    where
      by : (uid : Option ℕ) (d : Doing P E) (w : Writing) → with_their_bytes ((tells_told a uid x m ▸ writes_on (Some x) w) d).node.inbound ≡ with_their_bytes d.node.inbound
      by None d w = refl
      by (Some uid) d w = refl

  held_keeps : (a : Address) (x : ℕ) → Keeps {P = P} {E = E} (tells_held a x)
  held_keeps a x = record { on = λ d. (peer_keep a _ ▹ all_told (peer_at a d.node).held).on d }
    where
      all_told : (ms : List Tell) → Keeps {P = P} {E = E} (each ms (tells_on a x))
      all_told ms = each_keeps ms (tells_on a x) (λ m. told_keeps a x m)

  binds_ordinary_keeps : (v : UniqueAddress) (its_nonce x : Option ℕ) → Keeps {P = P} {E = E} (binds_ordinary v its_nonce x)
  binds_ordinary_keeps v its_nonce None = tells_keep (λ me. lines.Stray me v its_nonce) ▹ gives_up_keeps streams.Ordinary v.address
  binds_ordinary_keeps v its_nonce (Some x) = held_keeps v.address x

  binds_keep : (stream : Stream) (v : UniqueAddress) (its_nonce : Option ℕ) → Keeps {P = P} {E = E} (binds stream v its_nonce)
  binds_keep streams.Control v its_nonce = record { on = λ d. (uses_keep v.address ▹ learns_keep v).on d }
  binds_keep streams.Ordinary v its_nonce = record { on = λ d. (binds_ordinary_keeps v its_nonce (ordinary_dial v (peer_at v.address d.node))).on d }

  answered_as_keeps : (stream : Stream) (v : UniqueAddress) (for its_nonce : Option ℕ) (x : OnRsp) → Keeps {P = P} {E = E} (answered_as stream v for its_nonce x)
  answered_as_keeps stream v for its_nonce (Bind uid) = record { on = λ d. (peer_keep v.address _ ▹ binds_keep stream v its_nonce).on d }
  answered_as_keeps stream v for its_nonce Repeat = record { on = λ d. refl }
  answered_as_keeps stream v for its_nonce Stray = record { on = λ d. refl }

  takes_keep : (stream : Stream) (v : UniqueAddress) (for its_nonce : Option ℕ) → Keeps {P = P} {E = E} (takes_answer stream v for its_nonce)
  takes_keep stream v for its_nonce = record { on = λ d. (answered_as_keeps stream v for its_nonce (answer_at stream d.node v for its_nonce)).on d }

  answered_by_keeps : (stream : Stream) (v : UniqueAddress) (for its_nonce : ℕ) (b : Bool) → Keeps {P = P} {E = E} (answered_by stream v for its_nonce b)
  answered_by_keeps stream v for its_nonce true = takes_keep stream v (Some for) (Some its_nonce)
  answered_by_keeps stream v for its_nonce false = tells_keep (λ me. lines.Stray me v (Some its_nonce))

  answered_to_keeps : (v : UniqueAddress) (for its_nonce : ℕ) → Keeps {P = P} {E = E} (answered_to v for its_nonce)
  answered_to_keeps v for its_nonce = record {
    on = λ d. (answered_by_keeps (stream_dialed its_nonce (peer_at v.address d.node)) v for its_nonce
        (dialed_as its_nonce (peer_at v.address d.node) && is_met (answer_at (stream_dialed its_nonce (peer_at v.address d.node)) d.node v (Some for) (Some its_nonce)))).on d;
  }

  unless_keeps : (b : Bool) (v : UniqueAddress) → Keeps {P = P} {E = E} (strays_unless b v)
  unless_keeps true v = stays_keep
  unless_keeps false v = tells_keep (λ me. lines.Stray me v None)

  then_keeps : (met : Bool) (v : UniqueAddress) (for its_nonce : Option ℕ) → Keeps {P = P} {E = E} (then_ordinary met v for its_nonce)
  then_keeps met v for its_nonce = record { on = λ d. (takes_keep streams.Ordinary v for its_nonce ▹ unless_keeps (met || is_met (answer_at streams.Ordinary d.node v for its_nonce)) v).on d }

  plainly_keeps : (v : UniqueAddress) (for its_nonce : Option ℕ) → Keeps {P = P} {E = E} (answered_plainly v for its_nonce)
  plainly_keeps v for its_nonce = record { on = λ d. (takes_keep streams.Control v for its_nonce ▹ then_keeps (is_met (answer_at streams.Control d.node v for its_nonce)) v for its_nonce).on d }

  answered_keeps : (v : UniqueAddress) (for its_nonce : Option ℕ) → Keeps {P = P} {E = E} (answered v for its_nonce)
  answered_keeps v (Some for) (Some its_nonce) = answered_to_keeps v for its_nonce
  answered_keeps v (Some for) None = plainly_keeps v (Some for) None
  answered_keeps v None its_nonce = plainly_keeps v None its_nonce

  -- ---- a frame

  speaker_keeps : (v : Option UniqueAddress) (r : UniqueAddress → Rule P E) → ((v : UniqueAddress) → Keeps (r v)) → Keeps (by_speaker v r)
  speaker_keeps None r a = stays_keep
  speaker_keeps (Some v) r a = a v

  spoken_keeps : (i : Inbound P) (v : UniqueAddress) (c : Content) → Keeps {P = P} {E = E} (spoken i v c)
  spoken_keeps i v (Ordinary e m) = uses_keep v.address ▹ got_keeps i v e m
  spoken_keeps i v (Controls c) = controlled_keeps i.number v c

  by_it : (i : Inbound P) (c : Content) → Keeps {P = P} {E = E} (by_speaker (speaker_in i.state) (λ v. spoken i v c))
  by_it i c = speaker_keeps (speaker_in i.state) _ (λ v. spoken_keeps i v c)

  handles_keep : (i : Inbound P) (c : Content) → Keeps {P = P} {E = E} (handles i c)
  handles_keep i (Ordinary e m) = by_it i (Ordinary e m)
  handles_keep i (Controls (controls.HandshakeReq from to its_nonce)) = requested_keeps i from to its_nonce
  handles_keep i (Controls (controls.HandshakeRsp from for its_nonce)) = answered_keeps from for its_nonce
  handles_keep i (Controls (controls.Quarantined from to)) = by_it i (Controls (controls.Quarantined from to))
  handles_keep i (Controls (controls.Terminating from)) = by_it i (Controls (controls.Terminating from))
  handles_keep i (Controls (controls.TerminatingAck from)) = by_it i (Controls (controls.TerminatingAck from))
  handles_keep i (Controls (controls.RefsTable from uid version keys values sequence)) = by_it i (Controls (controls.RefsTable from uid version keys values sequence))
  handles_keep i (Controls (controls.RefsAck from version sequence)) = by_it i (Controls (controls.RefsAck from version sequence))
  handles_keep i (Controls (controls.ManifestsTable from uid version keys values sequence)) = by_it i (Controls (controls.ManifestsTable from uid version keys values sequence))
  handles_keep i (Controls (controls.ManifestsAck from version sequence)) = by_it i (Controls (controls.ManifestsAck from version sequence))
  handles_keep i (Controls (controls.Numbered n m reply_to)) = by_it i (Controls (controls.Numbered n m reply_to))
  handles_keep i (Controls (controls.Ack n from)) = by_it i (Controls (controls.Ack n from))
  handles_keep i (Controls (controls.Nack n from)) = by_it i (Controls (controls.Nack n from))
  handles_keep i (Controls controls.Heartbeat) = by_it i (Controls controls.Heartbeat)
  handles_keep i (Controls (controls.HeartbeatRsp uid)) = by_it i (Controls (controls.HeartbeatRsp uid))

  heard_keeps : (i : Inbound P) (x : Verdict) → Keeps {P = P} {E = E} (heard_as i x)
  heard_keeps i (Dropped rule) = drops_keep i.number rule
  heard_keeps i (OfClosed c) = speaker_keeps (speaker_in i.state) _ (λ v. closed_keeps i.number v c)
  heard_keeps i (Says c) = handles_keep i c

  hears_on_keep : (stream : Option Stream) (i : Option (Inbound P)) (frame : List ℕ) → Keeps {P = P} {E = E} (hears_on stream i frame)
  hears_on_keep stream None frame = record { on = λ d. refl }
  hears_on_keep stream (Some i) frame = record { on = λ d. (heard_keeps i (verdict stream d.node i frame)).on d }

  pub hears_keep : (k : ℕ) (stream : Option Stream) (frame : List ℕ) → Keeps {P = P} {E = E} (hears k stream frame)
  hears_keep k stream frame = record { on = λ d. (hears_on_keep stream (inbound_at k d.node) frame).on d }

  pub all_keep : (k : ℕ) (stream : Option Stream) (frames : List (List ℕ)) → Keeps {P = P} {E = E} (each frames (hears k stream))
  all_keep k stream frames = each_keeps frames (hears k stream) (λ frame. hears_keep k stream frame)
