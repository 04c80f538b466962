-- The rules of what a frame does keep the facts.
use Rattle.std.proofs.Common.{◌≡◌, ℕ, Bool, true, false, cond, List, [], ◌∷◌, ◌++◌, refl, sym, ◌∙◌, subst}
use Rattle.std.specs.Prelude.{is_none, ◌&&◌, ◌==◌, nat_lt, Option, Some, None}
use Rattle.artery_base.specs.declared.address.Address.{Address}
use Rattle.artery_base.specs.declared.address.UniqueAddress.{UniqueAddress}
use Rattle.artery_base.specs.declared.message.SysMsg.{SysMsg}
use Rattle.artery_codec.specs.Meaning.{Meaning}
use Rattle.artery_control.specs.declared.control.Control.{Control}
use Rattle.artery_control.specs.declared.control.Control.TheVariants as controls
use Rattle.artery_delivery.specs.declared.outbound.Acked.{Acked}
use Rattle.artery_delivery.specs.declared.outbound.Acked.TheVariants.{Cleared, Past}
use Rattle.artery_delivery.specs.declared.inbound.Take.{Take}
use Rattle.artery_delivery.specs.declared.inbound.Take.TheVariants.{Taken, Again, Gap}
use Rattle.artery_frame.specs.declared.stream.Stream.{Stream}
use Rattle.artery_header.specs.Envelope.{EnvelopeOf}
use Rattle.artery_journal.specs.declared.line.Line.{Line}
use Rattle.artery_journal.specs.declared.line.Line.TheVariants as lines
use Rattle.artery_journal.specs.declared.rule.Rule.{Rule as DropRule}
use Rattle.artery_journal.specs.declared.rule.Rule.TheVariants as rules
use Rattle.artery_journal.specs.declared.words.Kind.{Kind}
use Rattle.artery_journal.specs.declared.words.Kind.TheVariants.{Refs, Manifests}
use Rattle.artery_tables.specs.declared.out_table.Adopted.{Adopted as Adopting}
use Rattle.artery_tables.specs.declared.out_table.Adopted.TheVariants as adopting
use Rattle.artery_tables.specs.declared.in_tables.Confirmed.{Confirmed}
use Rattle.artery_tables.specs.declared.in_tables.Confirmed.TheVariants as confirming
use Rattle.artery_machine.specs.Parts.{whole}
use Rattle.artery_machine.specs.Node.{Node, Peer, Inbound, Origin, OfKinds, is_number, of_kind, same_unique, peer_at, origin_at, inbound_at, speaker_in, nonce_in}
use Rattle.artery_machine.specs.Doing.{Rule, ◌▸◌, stays, where_true, becomes, tells_of, peer_becomes, inbound_becomes, origin_becomes, each}
use Rattle.artery_machine.specs.Making.{uses}
use Rattle.artery_machine.specs.Closing.{control_dial, on_control, quarantines}
use Rattle.artery_machine.specs.Sending.{with_out, pumps}
use Rattle.artery_machine.specs.Watching.{watches_at, acts}
use Rattle.artery_machine.specs.Verdict.{content_in, is_shut, Content, Ordinary, Controls, Verdict, Dropped, OfClosed, Says, verdict}
use Rattle.artery_machine.specs.Handshaking.{drops}
use Rattle.artery_machine.specs.Hearing.{table_number, tell_of, is_told_closed, owes_ack, with_taken, is_now, with_shown, acknowledges_on, acknowledges, heard_back, with_adopted, heard_at, numbered_as, numbered, acked_as, of_current, acked, nacked, acknowledges_table, table_ack, adopts_as, adopts, tabled, confirms_as, confirms, hears_beat, beats_back, noticed, counts_names, got, controlled, drops_closed, spoken, by_speaker, handles, heard_as, hears_on, hears}
use Rattle.artery_flight.proofs.Lists.{on_cond, eq_true, find_passes, Each, each_weaker}
use Rattle.artery_flight.proofs.Deeds.{outward, only}
use Rattle.artery_flight.proofs.Reading.{WasSent, named_from, sent_from, speaker_is, judged_says, Framed, Said, framed_grow, said_grow, decoded, asked_from, answered_from}
use Rattle.artery_flight.proofs.Lines.{IsPlainLine, own_more, IsNamed, IsAmong, among_more, sent_in, sent_prefix, sent_silent, numbered as numbers, named_more, named_same, name_push, took_line}
use Rattle.artery_flight.proofs.Peers.{IsSameSent, acknowledged_same, refused_same}
use Rattle.artery_flight.proofs.Facts.{Network, Conn, grow_self, stay_self, NodeFacts, Later, node_later}
use Rattle.artery_handshake.specs.declared.in_conn.InState.{InState}
use Rattle.artery_handshake.specs.declared.in_conn.InState.TheVariants.{Raw, Known}
use Rattle.artery_machine.specs.declared.world.Outcome.{Outcome}
use Rattle.artery_machine.specs.declared.world.Outcome.TheVariants as outcomes
use Rattle.artery_machine.specs.Ways.{Wrote}
use Rattle.artery_machine.specs.World.{comes_out}
use Rattle.artery_flight.proofs.Rules.{Good, Kept, Work, always, where_read, where_known, none_is, keeps_from, kept_self, Premise, Keeps, ◌▹◌, IsSamePeer}
use Rattle.artery_flight.proofs.Controlling.{IsOther, on_control_keeps}
use Rattle.artery_flight.proofs.Rules as small
use Rattle.artery_flight.proofs.Sending as sent
use Rattle.artery_flight.proofs.Watching as sent_watching
use Rattle.artery_flight.proofs.Handshaking as shaking
use Rattle.artery_flight.proofs.Answering as shaking_answering

table_other : (kind : Kind) (me : UniqueAddress) (n : ℕ) → IsOther (table_ack kind me n)
table_other Refs me n = tt
table_other Manifests me n = tt

-- A message that has no number.
abbrev pub IsUnnumbered : Control → Type 0
IsUnnumbered (controls.Numbered n message reply_to) = ⊥
IsUnnumbered _ = Unit {0}

abbrev pub IsUnnumberedContent : Content → Type 0
IsUnnumberedContent (Ordinary e m) = Unit {0}
IsUnnumberedContent (Controls c) = IsUnnumbered c

module _ {u t : ℕ} {p : Premise u} where
  stays_keep : Keeps u t p stays
  stays_keep = small.stays_keep

  tells_keep : (line : UniqueAddress → Line) → ((me : UniqueAddress) → IsPlainLine (line me)) → Keeps u t p (tells_of line)
  tells_keep line s = small.tells_keep line s

  becomes_keep : (f : Node whole → Node whole) → ((n : Node whole) → small.IsPlain n (f n)) → Keeps u t p (becomes f)
  becomes_keep f s = small.becomes_keep f s

  origin_keep : (v : UniqueAddress) (f : Origin whole → Origin whole) → Keeps u t p (origin_becomes v f)
  origin_keep v f = small.origin_keep v f

  shown_keeps : (k : ℕ) (tables : OfKinds whole.Announced) (e : EnvelopeOf) → Keeps u t p (inbound_becomes k (with_shown tables e))
  shown_keeps k tables e = small.inbound_keep k (with_shown tables e) (record { number = λ i. refl; bytes = λ i. refl }) (λ w h live i n q. record { owed = q.owed; known = q.known })

  peer_keep : (a : Address) (f : Peer whole → Peer whole) → IsSamePeer f → Keeps u t p (peer_becomes a f)
  peer_keep a f s = small.peer_keep a f s

  control_keep : (v : UniqueAddress) (c : Control) → IsOther c → Keeps u t p (on_control v c)
  control_keep v c o = on_control_keeps v c o

  out_keeps : (a : Address) (f : whole.Out → whole.Out) → IsSameSent f → Keeps u t p (peer_becomes a (with_out f))
  out_keeps a f s = sent.out_keeps a f s

  uses_keep : (a : Address) → Keeps u t p (uses a)
  uses_keep a = sent.uses_keeps a

  pumps_keep : (a : Address) → Keeps u t p (pumps a)
  pumps_keep a = sent.pumps_keep a

  acts_keep : (v : UniqueAddress) (m : SysMsg) → Keeps u t p (acts v m)
  acts_keep v m = sent_watching.acts_keep v m

  quarantines_keeps : (v : UniqueAddress) → Keeps u t p (quarantines v)
  quarantines_keeps v = sent.quarantines_keeps v

  drops_keep : (k : ℕ) (rule : DropRule) → Keeps u t p (drops k rule)
  drops_keep k rule = shaking.drops_keep k rule

  if_keeps : (b : Bool) (r s : Rule whole (outward u t)) → Keeps u t p r → Keeps u t p s → Keeps u t p (cond b r s)
  if_keeps b r s x y = small.if_keeps b r s x y

  where_keeps : (b : Bool) (r : Rule whole (outward u t)) → Keeps u t p r → Keeps u t p (where_true b r)
  where_keeps b r x = small.where_keeps b r x

  each_keeps : {X : Type 0} (xs : List X) (r : X → Rule whole (outward u t)) → ((x : X) → Keeps u t p (r x)) → Keeps u t p (each xs r)
  each_keeps xs r a = small.each_keeps xs r a

  -- ---- numbered messages

  acks_keep : (v : UniqueAddress) (ack : ℕ → UniqueAddress → Control) → ((n : ℕ) (me : UniqueAddress) → IsOther (ack n me)) → (x : Option ℕ) → Keeps u t p (acknowledges_on v ack x)
  acks_keep v ack o None = record { on = λ d h g. (origin_keep v (owes_ack true)).on d h g }
  acks_keep v ack o (Some dial) = record { on = λ d h g. (origin_keep v (owes_ack false) ▹ control_keep v (ack (whole.last_taken v d.node.taken) d.node.me) (o (whole.last_taken v d.node.taken) d.node.me)).on d h g }

  ack_keeps : (v : UniqueAddress) (ack : ℕ → UniqueAddress → Control) → ((n : ℕ) (me : UniqueAddress) → IsOther (ack n me)) → Keeps u t p (acknowledges v ack)
  ack_keeps v ack o = record { on = λ d h g. (acks_keep v ack o (control_dial v d.node)).on d h g }

  taken_keeps : (v : UniqueAddress) (n : ℕ) (m : SysMsg) → Keeps u t p (becomes (with_taken v n m))
  taken_keeps v n m = becomes_keep (with_taken v n m) (λ k. record { me = refl; dials = refl; peers = refl; inbound = refl })

  -- one that came before, or too early
  again_keeps : (v : UniqueAddress) (n : ℕ) → Keeps u t p (tells_of (λ me. lines.Again me v n) ▸ acknowledges v controls.Ack)
  again_keeps v n = tells_keep (λ me. lines.Again me v n) (λ me. (refl, refl, refl)) ▹ ack_keeps v controls.Ack (λ n me. tt)

  gap_keeps : (v : UniqueAddress) (n : ℕ) → Keeps u t p (tells_of (λ me. lines.Gap me v n) ▸ acknowledges v controls.Nack)
  gap_keeps v n = tells_keep (λ me. lines.Gap me v n) (λ me. (refl, refl, refl)) ▹ ack_keeps v controls.Nack (λ n me. tt)

  -- what follows where one was taken
  then_keeps : (v : UniqueAddress) (m : SysMsg) → Keeps u t p (acknowledges v controls.Ack ▸ acts v m)
  then_keeps v m = ack_keeps v controls.Ack (λ n me. tt) ▹ acts_keep v m

  acked_as_keeps : (k : ℕ) (v : UniqueAddress) (g : whole.Out → whole.Out) → IsSameSent g → (again : Bool) (x : Acked) → Keeps u t p (acked_as k v g again x)
  acked_as_keeps k v g s again Past = record { on = λ d h good. (drops_keep k rules.AckRange).on d h good }
  acked_as_keeps k v g s again (Cleared count) = record { on = λ d h good. (out_keeps v.address g s ▹ peer_keep v.address (heard_back (nat_lt 0 count) again d.node.moment) (record { incarnations = λ q. refl; out = λ q. refl; control = λ q. refl; ordinary = λ q. refl }) ▹ pumps_keep v.address).on d h good }

  current_keeps : (k : ℕ) (v : UniqueAddress) (r : Rule whole (outward u t)) → Keeps u t p r → Keeps u t p (of_current k v r)
  current_keeps k v r a = record { on = λ d h g. (if_keeps (is_now v d.node) _ _ a (drops_keep k rules.NotCurrent)).on d h g }

  acked_keeps : (k : ℕ) (v : UniqueAddress) (n : ℕ) → Keeps u t p (acked k v n)
  acked_keeps k v n = record { on = λ d h g. (acked_as_keeps k v (whole.acknowledged n) (acknowledged_same n) false (whole.acknowledgement n (peer_at v.address d.node).out)).on d h g }

  nacked_keeps : (k : ℕ) (v : UniqueAddress) (n : ℕ) → Keeps u t p (nacked k v n)
  nacked_keeps k v n = record { on = λ d h g. (acked_as_keeps k v (whole.refused n) (refused_same n) true (whole.acknowledgement n (peer_at v.address d.node).out)).on d h g }

  -- ---- tables

  table_ack_keeps : (kind : Kind) (v : UniqueAddress) (n : ℕ) → Keeps u t p (acknowledges_table kind v n)
  table_ack_keeps kind v n = record { on = λ d h g. (control_keep v (table_ack kind d.node.me n) (table_other kind d.node.me n)).on d h g }

  adopts_as_keeps : (k : ℕ) (v : UniqueAddress) (kind : Kind) (n : ℕ) (keys : List (List ℕ)) (values : List ℕ) (x : Adopting) → Keeps u t p (adopts_as k v kind n keys values x)
  adopts_as_keeps k v kind n keys values adopting.Older = drops_keep k rules.OldTable
  adopts_as_keeps k v kind n keys values adopting.Same = table_ack_keeps kind v n
  adopts_as_keeps k v kind n keys values adopting.Adopted = peer_keep v.address (with_adopted kind n keys values) (record { incarnations = λ q. refl; out = λ q. refl; control = λ q. refl; ordinary = λ q. refl }) ▹ tells_keep (λ me. lines.Adopted me v kind n) (λ me. (refl, refl, refl)) ▹ table_ack_keeps kind v n

  adopts_keep : (k : ℕ) (v : UniqueAddress) (kind : Kind) (n : ℕ) (keys : List (List ℕ)) (values : List ℕ) → Keeps u t p (adopts k v kind n keys values)
  adopts_keep k v kind n keys values = record { on = λ d h g. (adopts_as_keeps k v kind n keys values (whole.adopting n (of_kind kind (peer_at v.address d.node).tables))).on d h g }

  tabled_keeps : (k : ℕ) (v : UniqueAddress) (kind : Kind) (uid n : ℕ) (keys : List (List ℕ)) (values : List ℕ) → Keeps u t p (tabled k v kind uid n keys values)
  tabled_keeps k v kind uid n keys values = record { on = λ d h g. (if_keeps (uid == d.node.me.uid) _ _ (current_keeps k v _ (adopts_keep k v kind n keys values)) (drops_keep k rules.NotMe)).on d h g }

  confirms_as_keeps : (k : ℕ) (v : UniqueAddress) (kind : Kind) (n : ℕ) (x : Confirmed) → Keeps u t p (confirms_as k v kind n x)
  confirms_as_keeps k v kind n confirming.Confirmed = origin_keep v _
  confirms_as_keeps k v kind n confirming.NotAnnounced = drops_keep k rules.OldTable

  confirms_keep : (k : ℕ) (v : UniqueAddress) (kind : Kind) (n : ℕ) → Keeps u t p (confirms k v kind n)
  confirms_keep k v kind n = record { on = λ d h g. (confirms_as_keeps k v kind n (whole.confirming n (of_kind kind (origin_at v d.node).tables))).on d h g }

  -- ---- other messages

  beat_keeps : (v : UniqueAddress) → Keeps u t p (hears_beat v)
  beat_keeps v = record { on = λ d h g. (where_keeps (is_now v d.node && watches_at v.address d.node) _ (peer_keep v.address (heard_at d.node.moment) (record { incarnations = λ q. refl; out = λ q. refl; control = λ q. refl; ordinary = λ q. refl }))).on d h g }

  back_keeps : (v : UniqueAddress) → Keeps u t p (beats_back v)
  back_keeps v = record { on = λ d h g. (control_keep v (controls.HeartbeatRsp d.node.me.uid) tt).on d h g }

  noticed_keeps : (k : ℕ) (v to : UniqueAddress) → Keeps u t p (noticed k v to)
  noticed_keeps k v to = record { on = λ d h g. (if_keeps (same_unique to d.node.me) _ _ (tells_keep (λ me. lines.Notice me v) (λ me. (refl, refl, refl))) (drops_keep k rules.NotMe)).on d h g }

  counts_keep : (v : UniqueAddress) (e : EnvelopeOf) → Keeps u t p (counts_names v e)
  counts_keep v e = origin_keep v _ ▹ origin_keep v _ ▹ origin_keep v _

  got_keeps : (i : Inbound whole) (v : UniqueAddress) (e : EnvelopeOf) (m : Meaning) → Keeps u t p (got i v e m)
  got_keeps i v e m = record { on = λ d h g. (tells_keep (λ me. lines.Got me v (nonce_in i.state) (tell_of m)) (λ me. (refl, refl, refl)) ▹ shown_keeps i.number (origin_at v d.node).tables e ▹ counts_keep v e).on d h g }

  controlled_keeps : (k : ℕ) (v : UniqueAddress) (c : Control) → IsUnnumbered c → Keeps u t p (controlled k v c)
  controlled_keeps k v (controls.Quarantined from to) x = noticed_keeps k v to
  controlled_keeps k v (controls.Terminating from) x = drops_keep k rules.Unused
  controlled_keeps k v (controls.TerminatingAck from) x = drops_keep k rules.Unused
  controlled_keeps k v (controls.HandshakeReq from to its_nonce) x = stays_keep
  controlled_keeps k v (controls.HandshakeRsp from for_uid its_nonce) x = stays_keep
  controlled_keeps k v (controls.RefsTable from uid version keys values sequence) x = uses_keep v.address ▹ tabled_keeps k v Refs uid (table_number version sequence) keys values
  controlled_keeps k v (controls.RefsAck from version sequence) x = confirms_keep k v Refs (table_number version sequence)
  controlled_keeps k v (controls.ManifestsTable from uid version keys values sequence) x = uses_keep v.address ▹ tabled_keeps k v Manifests uid (table_number version sequence) keys values
  controlled_keeps k v (controls.ManifestsAck from version sequence) x = confirms_keep k v Manifests (table_number version sequence)
  controlled_keeps k v (controls.Numbered n m reply_to) x = absurd x
  controlled_keeps k v (controls.Ack n from) x = current_keeps k v _ (acked_keeps k v n)
  controlled_keeps k v (controls.Nack n from) x = current_keeps k v _ (nacked_keeps k v n)
  controlled_keeps k v controls.Heartbeat x = uses_keep v.address ▹ back_keeps v
  controlled_keeps k v (controls.HeartbeatRsp uid) x = beat_keeps v

  closed_keeps : (k : ℕ) (v : UniqueAddress) (c : Content) → Keeps u t p (drops_closed k v c)
  closed_keeps k v c = drops_keep k rules.Closed ▹ where_keeps (is_told_closed c) _ (quarantines_keeps v)

  -- ---- a frame

  speaker_keeps : (v : Option UniqueAddress) (r : UniqueAddress → Rule whole (outward u t)) → ((v : UniqueAddress) → Keeps u t p (r v)) → Keeps u t p (by_speaker v r)
  speaker_keeps None r a = stays_keep
  speaker_keeps (Some v) r a = a v

  spoken_keeps : (i : Inbound whole) (v : UniqueAddress) (c : Content) → IsUnnumberedContent c → Keeps u t p (spoken i v c)
  spoken_keeps i v (Ordinary e m) x = uses_keep v.address ▹ got_keeps i v e m
  spoken_keeps i v (Controls c) x = controlled_keeps i.number v c x

  by_it : (i : Inbound whole) (c : Content) → IsUnnumberedContent c → Keeps u t p (by_speaker (speaker_in i.state) (λ v. spoken i v c))
  by_it i c x = speaker_keeps (speaker_in i.state) _ (λ v. spoken_keeps i v c x)

-- ---- numbered messages

-- a message was told as sent to this node
abbrev pub sending : (u : ℕ) (v : UniqueAddress) (n : ℕ) (m : SysMsg) → Premise u
sending u v n m = where_known u (λ w. WasSent u v n m w.outcomes)
    (λ w x l h. (h.0, h.1, named_more h.0 w.outcomes x.outcomes l.told h.2, among_more (n, m) (sent_in v h.0 w.outcomes) (sent_in v h.0 x.outcomes) (sent_prefix v h.0 w.outcomes x.outcomes l.told) h.3))

module _ {u t : ℕ} where
  -- it is told as taken
  took_keeps : (v : UniqueAddress) (n : ℕ) (m : SysMsg) → Keeps u t (sending u v n m) (tells_of (λ me. lines.Took me v n m))
  took_keeps v n m = record {
    on = λ d h g. on_cond (λ (x : Network). Kept u d.node d.deeds d.node x) (is_none d.deeds.ended) (comes_out (outcomes.Line t (lines.Took d.node.me v n m)) d.deeds) d.deeds
        (λ s. took d h g (none_is d.deeds.ended s)) (λ s. kept_self u d.node d.deeds g);
  }
    where
      took : (d : Work u t) → (sending u v n m).holds d.deeds → Good u d.node d.deeds → d.deeds.ended ≡ None → Kept u d.node d.deeds d.node (comes_out (outcomes.Line t (lines.Took d.node.me v n m)) d.deeds)
      took d h g live =
          let w : Network = d.deeds in
          let o : Outcome = outcomes.Line t (lines.Took d.node.me v n m) in
          let f : NodeFacts u d.node w = g.node live in
          let later : Later (only u) w (comes_out (outcomes.Line t (lines.Took d.node.me v n m)) w) = record {
            conns = grow_self (only u) w.connections;
            still = stay_self w.connections;
            told = (outcomes.Line t (lines.Took d.node.me v n m) ∷ [], refl);
            sent = λ x y k. sent_silent x y w.outcomes t (lines.Took d.node.me v n m) refl;
            unnamed = λ x k. name_push x w.outcomes (outcomes.Line t (lines.Took d.node.me v n m)) k;
            pending = λ x y k. refl;
            going = λ k. k;
          } in
          record {
            good = record {
              out = record {
                conns = g.out.conns;
                once = g.out.once;
                single = g.out.single;
                numbered = g.out.numbered;
                told = record {
                  own = λ a. each_weaker _ _ (λ (c : Conn) q. each_weaker _ _ (λ (z : Wrote) s. own_more w.outcomes (w.outcomes ++ outcomes.Line t (lines.Took d.node.me v n m) ∷ []) c.far z.writing (outcomes.Line t (lines.Took d.node.me v n m) ∷ [], refl) s) c.way.all q) w.connections (g.out.told.own a);
                  sent = λ x y. (let k : (ms : List SysMsg) × (sent_in x y w.outcomes ≡ numbers 1 ms) = g.out.told.sent x y in (k.0, sent_silent x y w.outcomes t (lines.Took d.node.me v n m) refl ∙ k.1));
                  took = λ a. took_line w.outcomes t (lines.Took d.node.me v n m) (is_sent d.node.me w.outcomes f.named f.me (h live a)) (g.out.told.took a);
                };
              };
              node = λ k. node_later (only u) u d.node w (comes_out (outcomes.Line t (lines.Took d.node.me v n m)) w) later.conns later.told (λ y. sent_silent d.node.me y w.outcomes t (lines.Took d.node.me v n m) refl) (λ y. refl) f;
            };
            later = later;
            bytes = λ k. refl;
          }
        where
          is_sent : (me : UniqueAddress) (os : List Outcome) → IsNamed me os → me.uid ≡ u → WasSent u v n m os → IsAmong (n, m) (sent_in v me os)
          is_sent me os named is_u s = subst (λ (x : UniqueAddress). IsAmong (n, m) (sent_in v x os)) (named_same s.0 me os s.2 named (s.1 ∙ sym is_u)) s.3

  numbered_as_keeps : (v : UniqueAddress) (n : ℕ) (m : SysMsg) (x : Take) → Keeps u t (sending u v n m) (numbered_as v n m x)
  numbered_as_keeps v n m Taken = taken_keeps v n m ▹ took_keeps v n m ▹ then_keeps v m
  numbered_as_keeps v n m (Again last) = again_keeps v n
  numbered_as_keeps v n m (Gap last) = gap_keeps v n

  numbered_keeps : (v : UniqueAddress) (n : ℕ) (m : SysMsg) → Keeps u t (sending u v n m) (numbered v n m)
  numbered_keeps v n m = record { on = λ d h g. (numbered_as_keeps v n m (whole.taking v n d.node.taken)).on d h g }

  used_keeps : (v : UniqueAddress) (n : ℕ) (m : SysMsg) → Keeps u t (sending u v n m) (uses v.address ▸ numbered v n m)
  used_keeps v n m = uses_keep v.address ▹ numbered_keeps v n m

-- a numbered message is of the one that is known
abbrev pub IsByControl : InState → Control → Type 0
IsByControl s (controls.Numbered n m from) = (who : UniqueAddress) (its_nonce : Option ℕ) → s ≡ Known who its_nonce → from ≡ who
IsByControl s _ = Unit {0}

abbrev pub IsBy : InState → Content → Type 0
IsBy s (Ordinary e m) = Unit {0}
IsBy s (Controls c) = IsByControl s c

abbrev pub IsJudgedBy : InState → Verdict → Type 0
IsJudgedBy s (Dropped rule) = Unit {0}
IsJudgedBy s (OfClosed content) = Unit {0}
IsJudgedBy s (Says content) = IsBy s content

-- what a frame says was written on the connection with this number
abbrev pub saying : (u k : ℕ) (content : Content) → Premise u
saying u k content = where_read u (λ cs. Said u k content cs) (λ cs ds g h. said_grow (only u) u k content cs ds g h)

-- the same of a verdict that says something
abbrev pub judging : (u k : ℕ) → Verdict → Premise u
judging u k (Dropped rule) = always u
judging u k (OfClosed content) = always u
judging u k (Says content) = saying u k content

-- a frame was written there
abbrev pub framing : (u k : ℕ) (frame : List ℕ) → Premise u
framing u k frame = where_read u (λ cs. Framed u k frame cs) (λ cs ds g h. framed_grow (only u) u k frame cs ds g h)

abbrev pub framing_each : (u k : ℕ) (frames : List (List ℕ)) → Premise u
framing_each u k frames = where_read u (λ cs. Each (λ frame. Framed u k frame cs) frames) (λ cs ds g h. each_weaker _ _ (λ frame q. framed_grow (only u) u k frame cs ds g q) frames h)

judged_control : (stream : Option Stream) (n : Node whole) (i : Inbound whole) (frame : List ℕ) (c : Control) → verdict stream n i frame ≡ Says (Controls c) → IsByControl i.state c
judged_control stream n i frame (controls.Numbered k m from) v = λ who its_nonce e. speaker_is stream n i frame k m from who its_nonce (judged_says (is_shut n (speaker_in i.state)) (content_in stream n i frame) (Controls (controls.Numbered k m from)) v) e
judged_control stream n i frame (controls.HandshakeReq from to its_nonce) v = tt
judged_control stream n i frame (controls.HandshakeRsp from for_uid its_nonce) v = tt
judged_control stream n i frame (controls.Quarantined from to) v = tt
judged_control stream n i frame (controls.Terminating from) v = tt
judged_control stream n i frame (controls.TerminatingAck from) v = tt
judged_control stream n i frame (controls.RefsTable from origin_uid version keys values sequence) v = tt
judged_control stream n i frame (controls.RefsAck from version sequence) v = tt
judged_control stream n i frame (controls.ManifestsTable from origin_uid version keys values sequence) v = tt
judged_control stream n i frame (controls.ManifestsAck from version sequence) v = tt
judged_control stream n i frame (controls.Ack k from) v = tt
judged_control stream n i frame (controls.Nack k from) v = tt
judged_control stream n i frame controls.Heartbeat v = tt
judged_control stream n i frame (controls.HeartbeatRsp uid) v = tt

judged_by : (stream : Option Stream) (n : Node whole) (i : Inbound whole) (frame : List ℕ) (x : Verdict) → verdict stream n i frame ≡ x → IsJudgedBy i.state x
judged_by stream n i frame (Dropped rule) v = tt
judged_by stream n i frame (OfClosed content) v = tt
judged_by stream n i frame (Says (Ordinary e m)) v = tt
judged_by stream n i frame (Says (Controls c)) v = judged_control stream n i frame c v

module _ {u t : ℕ} where
  -- a numbered message of the one that is known
  numbered_by : (i : Inbound whole) (n : ℕ) (m : SysMsg) (from : UniqueAddress) → IsBy i.state (Controls (controls.Numbered n m from)) → (s : InState) → i.state ≡ s
      → Keeps u t (saying u i.number (Controls (controls.Numbered n m from))) (by_speaker (speaker_in s) (λ v. spoken i v (Controls (controls.Numbered n m from))))
  numbered_by i n m from f Raw e = stays_keep
  numbered_by i n m from f (Known who its_nonce) e =
      keeps_from _ (sending u who n m) _ (λ d h g live a. subst (λ (x : UniqueAddress). WasSent u x n m d.deeds.outcomes) (f who its_nonce e) (sent_from u i.number d.deeds.connections d.deeds.outcomes n m from (g.out.told.own a) (h live a))) (used_keeps who n m)

  handles_keep : (i : Inbound whole) (c : Content) → IsBy i.state c → Keeps u t (saying u i.number c) (handles i c)
  handles_keep i (Ordinary e m) f = by_it i (Ordinary e m) tt
  handles_keep i (Controls (controls.HandshakeReq from to its_nonce)) f =
      keeps_from _ (shaking.asking u i.number from.uid its_nonce) _ (λ d h g e a. asked_from u i.number d.deeds.connections from to its_nonce g.out.conns (h e a)) (shaking_answering.requested_keeps i from to its_nonce)
  handles_keep i (Controls (controls.HandshakeRsp from for its_nonce)) f =
      keeps_from _ (shaking.meeting u from for its_nonce) _ (λ d h g e a. (answered_from u i.number d.deeds.connections from for its_nonce a g.out.conns (h e a), named_from u i.number d.deeds.connections d.deeds.outcomes from for its_nonce (g.out.told.own a) (h e a))) (shaking_answering.answered_keeps from for its_nonce)
  handles_keep i (Controls (controls.Quarantined from to)) f = by_it i (Controls (controls.Quarantined from to)) tt
  handles_keep i (Controls (controls.Terminating from)) f = by_it i (Controls (controls.Terminating from)) tt
  handles_keep i (Controls (controls.TerminatingAck from)) f = by_it i (Controls (controls.TerminatingAck from)) tt
  handles_keep i (Controls (controls.RefsTable from uid version keys values sequence)) f = by_it i (Controls (controls.RefsTable from uid version keys values sequence)) tt
  handles_keep i (Controls (controls.RefsAck from version sequence)) f = by_it i (Controls (controls.RefsAck from version sequence)) tt
  handles_keep i (Controls (controls.ManifestsTable from uid version keys values sequence)) f = by_it i (Controls (controls.ManifestsTable from uid version keys values sequence)) tt
  handles_keep i (Controls (controls.ManifestsAck from version sequence)) f = by_it i (Controls (controls.ManifestsAck from version sequence)) tt
  handles_keep i (Controls (controls.Numbered n m reply_to)) f = numbered_by i n m reply_to f i.state refl
  handles_keep i (Controls (controls.Ack n from)) f = by_it i (Controls (controls.Ack n from)) tt
  handles_keep i (Controls (controls.Nack n from)) f = by_it i (Controls (controls.Nack n from)) tt
  handles_keep i (Controls controls.Heartbeat) f = by_it i (Controls controls.Heartbeat) tt
  handles_keep i (Controls (controls.HeartbeatRsp uid)) f = by_it i (Controls (controls.HeartbeatRsp uid)) tt

  heard_keeps : (i : Inbound whole) (x : Verdict) → IsJudgedBy i.state x → Keeps u t (judging u i.number x) (heard_as i x)
  heard_keeps i (Dropped rule) f = drops_keep i.number rule
  heard_keeps i (OfClosed c) f = speaker_keeps (speaker_in i.state) _ (λ v. closed_keeps i.number v c)
  heard_keeps i (Says c) f = handles_keep i c f

  pub hears_keep : (k : ℕ) (stream : Option Stream) (frame : List ℕ) → Keeps u t (framing u k frame) (hears k stream frame)
  hears_keep k stream frame = record { on = λ d h g. by d h g (inbound_at k d.node) refl }
    where
      told : (d : Work u t) (i : Inbound whole) → (framing u k frame).holds d.deeds → i.number ≡ k → (x : Verdict) → verdict stream d.node i frame ≡ x → (judging u i.number x).holds d.deeds
      told d i h n (Dropped rule) v = tt
      told d i h n (OfClosed content) v = tt
      told d i h n (Says content) v = λ e a. decoded u i.number d.deeds.connections stream d.node i frame content a (subst (λ (x : ℕ). Framed u x frame d.deeds.connections) (sym n) (h e a)) v

      by : (d : Work u t) → (framing u k frame).holds d.deeds → Good u d.node d.deeds → (o : Option (Inbound whole)) → inbound_at k d.node ≡ o → Kept u d.node d.deeds (hears_on stream o frame d).node (hears_on stream o frame d).deeds
      by d h g None e = kept_self u d.node d.deeds g
      by d h g (Some i) e = (heard_keeps i (verdict stream d.node i frame) (judged_by stream d.node i frame (verdict stream d.node i frame) refl)).on d (told d i h (eq_true i.number k (find_passes (is_number k) d.node.inbound i e)) (verdict stream d.node i frame) refl) g

  pub all_keep : (k : ℕ) (stream : Option Stream) (frames : List (List ℕ)) → Keeps u t (framing_each u k frames) (each frames (hears k stream))
  all_keep k stream [] = stays_keep
  all_keep k stream (frame ∷ frames) =
      keeps_from _ (framing u k frame) _ (λ d h g e a. (h e a).0) (hears_keep k stream frame)
      ▹ keeps_from _ (framing_each u k frames) _ (λ d h g e a. (h e a).1) (all_keep k stream frames)
