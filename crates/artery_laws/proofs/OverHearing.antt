-- The verdict on a frame, and the rules of what it does, are the same under maps of parts.
use Rattle.std.proofs.Common.{◌≡◌, ℕ, Bool, true, false, cond, List, [], ◌∷◌, refl, ap, ◌∙◌}
use Rattle.std.specs.Prelude.{nat_lt, ◌&&◌, ◌==◌, Option, Some, None, Result, Ok, Err}
use Rattle.std.specs.Option.{option_map, option_or}
use Rattle.artery_base.specs.declared.address.UniqueAddress.{UniqueAddress}
use Rattle.artery_base.specs.declared.message.SysMsg.{SysMsg}
use Rattle.artery_assoc.specs.Peer.{is_closed}
use Rattle.artery_codec.specs.Meaning.{Meaning, Entries, envelope_meaning, name_meaning, ruled}
use Rattle.artery_control.specs.declared.control.Control.{Control}
use Rattle.artery_control.specs.declared.control.Control.TheVariants as controls
use Rattle.artery_delivery.specs.declared.outbound.Acked.{Acked}
use Rattle.artery_delivery.specs.declared.outbound.Acked.TheVariants.{Cleared, Past}
use Rattle.artery_delivery.specs.declared.inbound.Take.{Take}
use Rattle.artery_delivery.specs.declared.inbound.Take.TheVariants.{Taken, Again, Gap}
use Rattle.artery_frame.specs.declared.stream.Stream.{Stream}
use Rattle.artery_header.specs.declared.envelope.Which.{Which}
use Rattle.artery_header.specs.declared.envelope.Which.TheVariants.{Sender, Recipient, Manifest}
use Rattle.artery_header.specs.Envelope.{EnvelopeOf, NameOf, Literal, Index}
use Rattle.artery_handshake.specs.declared.in_conn.InState.{InState}
use Rattle.artery_handshake.specs.declared.in_conn.InState.TheVariants.{Raw, Known}
use Rattle.artery_journal.specs.declared.line.Line.TheVariants as lines
use Rattle.artery_journal.specs.declared.rule.Rule.TheVariants as rules
use Rattle.artery_journal.specs.declared.words.Kind.{Kind}
use Rattle.artery_journal.specs.declared.words.Kind.TheVariants.{Refs, Manifests}
use Rattle.artery_tables.specs.declared.out_table.Adopted.{Adopted as Adopting}
use Rattle.artery_tables.specs.declared.out_table.Adopted.TheVariants as adopting
use Rattle.artery_tables.specs.declared.in_tables.Confirmed.{Confirmed}
use Rattle.artery_tables.specs.declared.in_tables.Confirmed.TheVariants as confirming
use Rattle.artery_machine.specs.Parts.{Parts}
use Rattle.artery_machine.specs.Node.{Peer, Node, Inbound, Origin, OfKinds, of_kind, of_each, same_unique, peer_at, origin_at, inbound_at, speaker_in, nonce_in, has_closed}
use Rattle.artery_machine.specs.Doing.{Sink, Rule, ◌▸◌, where_true, becomes, tells_of, peer_becomes, inbound_becomes, origin_becomes}
use Rattle.artery_machine.specs.Closing.{control_dial, on_control}
use Rattle.artery_machine.specs.Watching.{watches_at}
use Rattle.artery_machine.specs.Verdict.{Content, Ordinary, Controls, Verdict, Dropped, OfClosed, Says, is_uid_of, said_by, envelope_said, read_said, meaning_or_rule, tables_for, meant, content_in, is_shut, judged, verdict}
use Rattle.artery_machine.specs.Handshaking.{drops}
use Rattle.artery_header.specs.Envelope.{read_of}
use Rattle.artery_header.specs.declared.fault.HeaderFault.{HeaderFault}
use Rattle.artery_machine.specs.Hearing.{table_number, table_ack, tell_of, is_told_closed, owes_ack, with_taken, heard_back, is_now, with_adopted, with_confirmed, heard_at, with_shown, with_counted, acknowledges_on, acknowledges, numbered_as, numbered, acked_as, of_current, acked, nacked, acknowledges_table, adopts_as, adopts, tabled, confirms_as, confirms, hears_beat, noticed, counts_names, got, beats_back, controlled, drops_closed, spoken, by_speaker, handles, heard_as, hears_on, hears}
use Rattle.artery_laws.proofs.Over.{Over, SinkOver, peer_over, inbound_over, origin_over, node_over, peer_at_over, inbound_at_over, origin_at_over, seen, ◌▹◌, if_over, becomes_over, peer_becomes_over, inbound_becomes_over, origin_becomes_over}
use Rattle.artery_laws.proofs.OverSending.{Alike, stays_here, tells_here, uses_over, control_dial_over, on_control_over, quarantines_over, outs_over, pumps_over}
use Rattle.artery_laws.proofs.OverTelling.{where_over, acts_over}
use Rattle.artery_laws.proofs.OverHandshaking.{drops_over, requested_over, answered_over}

-- ---- meanings

-- Tables that hold the same.
pub record AreSame (old new : Entries) : Type 0 where
  pub entry : (version i : ℕ) → old version i ≡ new version i

pub name_same : (old new : Entries) → AreSame old new → (which : Which) (version : ℕ) (n : NameOf) → name_meaning old which version n ≡ name_meaning new which version n
name_same old new h which version (Literal text) = refl
name_same old new h which version (Index i) = ap (ruled which) (h.entry version i)

pub envelope_same : (refs refs' manifests manifests' : Entries) → AreSame refs refs' → AreSame manifests manifests' → (c : EnvelopeOf) → envelope_meaning refs manifests c ≡ envelope_meaning refs' manifests' c
unfolding envelope_meaning
envelope_same refs refs' manifests manifests' r m c =
    rw (name_same refs refs' r Sender c.refs_version c.sender, name_same refs refs' r Recipient c.refs_version c.recipient, name_same manifests manifests' m Manifest c.manifests_version c.manifest) refl

module _ {P Q : Parts} (h : Over P Q) where
  -- The tables of both kinds.
  abbrev pub tables_over : OfKinds P.Announced → OfKinds Q.Announced
  tables_over t = record { refs = h.announced t.refs; manifests = h.announced t.manifests }

  pub meant_over : (t : OfKinds P.Announced) (c : EnvelopeOf) → meant Q (tables_over t) c ≡ meant P t c
  meant_over t c = envelope_same (Q.entries (h.announced t.refs)) (P.entries t.refs) (Q.entries (h.announced t.manifests)) (P.entries t.manifests)
      (record { entry = λ v i. h.entries t.refs v i }) (record { entry = λ v i. h.entries t.manifests v i }) c

  pub tables_for_over : (state : InState) (n : Node P) → tables_for state (node_over h n) ≡ tables_over (tables_for state n)
  tables_for_over Raw n = ap of_each h.nothing_announced
  tables_for_over (Known who its_nonce) n = ap (λ (o : Origin Q). o.tables) (origin_at_over h who n)

  pub content_over : (stream : Option Stream) (n : Node P) (i : Inbound P) (frame : List ℕ) → content_in stream (node_over h n) (inbound_over h i) frame ≡ content_in stream n i frame
  content_over stream n i frame = read_over (read_of frame)
    where
      said_over : (c : EnvelopeOf) → envelope_said stream (node_over h n) (inbound_over h i) c ≡ envelope_said stream n i c
      said_over c =
          ap (λ (t : OfKinds Q.Announced). cond (is_uid_of i.state c.uid) (said_by i.state stream c (meaning_or_rule (meant Q t c))) (Err rules.Uid)) (tables_for_over i.state n)
          ∙ ap (λ m. cond (is_uid_of i.state c.uid) (said_by i.state stream c (meaning_or_rule m)) (Err rules.Uid)) (meant_over (tables_for i.state n) c)

      read_over : (read : Result EnvelopeOf HeaderFault) → read_said stream (node_over h n) (inbound_over h i) read ≡ read_said stream n i read
      read_over (Ok c) = said_over c
      read_over (Err fault) = refl

  pub has_closed_over : (v : UniqueAddress) (n : Node P) → has_closed v (node_over h n) ≡ has_closed v n
  has_closed_over v n = ap (λ (p : Peer Q). is_closed v.uid p.incarnations) (peer_at_over h v.address n)

  pub is_shut_over : (n : Node P) (v : Option UniqueAddress) → is_shut (node_over h n) v ≡ is_shut n v
  is_shut_over n None = refl
  is_shut_over n (Some v) = has_closed_over v n

  pub verdict_over : (stream : Option Stream) (n : Node P) (i : Inbound P) (frame : List ℕ) → verdict stream (node_over h n) (inbound_over h i) frame ≡ verdict stream n i frame
  verdict_over stream n i frame =
      ap (λ b. judged b (content_in stream (node_over h n) (inbound_over h i) frame)) (is_shut_over n (speaker_in i.state))
      ∙ ap (judged (is_shut n (speaker_in i.state))) (content_over stream n i frame)

  pub of_kind_over : (kind : Kind) (p : Peer P) → of_kind kind (peer_over h p).tables ≡ h.adopted (of_kind kind p.tables)
  of_kind_over Refs p = refl
  of_kind_over Manifests p = refl

  pub announced_over : (kind : Kind) (o : Origin P) → of_kind kind (origin_over h o).tables ≡ h.announced (of_kind kind o.tables)
  announced_over Refs o = refl
  announced_over Manifests o = refl

module _ {P Q : Parts} (h : Over P Q) {E F : Sink} (s : SinkOver E F) where
  -- ---- numbered messages

  pub owes_ack_over : (v : UniqueAddress) (b : Bool) → Alike h s (origin_becomes v (owes_ack b)) (origin_becomes v (owes_ack b))
  owes_ack_over v b = origin_becomes_over v (owes_ack b) (owes_ack b) (λ o. refl)

  pub acknowledges_on_over : (v : UniqueAddress) (ack : ℕ → UniqueAddress → Control) (x : Option ℕ) → Alike h s (acknowledges_on v ack x) (acknowledges_on v ack x)
  acknowledges_on_over v ack None = record { on = λ d. (owes_ack_over v true).on d }
  acknowledges_on_over v ack (Some x) = record {
    on = λ d. ap (λ n. (origin_becomes v (owes_ack false) ▸ on_control v (ack n d.node.me)) (seen h s d)) (h.last_taken v d.node.taken)
        ∙ (owes_ack_over v false ▹ on_control_over h s v (ack (P.last_taken v d.node.taken) d.node.me)).on d;
  }

  pub acknowledges_over : (v : UniqueAddress) (ack : ℕ → UniqueAddress → Control) → Alike h s (acknowledges v ack) (acknowledges v ack)
  acknowledges_over v ack = record { on = λ d. ap (λ x. acknowledges_on v ack x (seen h s d)) (control_dial_over h s v d.node) ∙ (acknowledges_on_over v ack (control_dial v d.node)).on d }

  pub with_taken_over : (v : UniqueAddress) (n : ℕ) (m : SysMsg) → Alike h s (becomes (with_taken v n m)) (becomes (with_taken v n m))
  with_taken_over v n m = becomes_over (with_taken v n m) (with_taken v n m) (λ x. ap (λ t. record (node_over h x) { taken = t }) (h.taken v n m x.taken))

  pub numbered_as_over : (v : UniqueAddress) (n : ℕ) (m : SysMsg) (x : Take) → Alike h s (numbered_as v n m x) (numbered_as v n m x)
  numbered_as_over v n m Taken = with_taken_over v n m ▹ tells_here h s (λ me. lines.Took me v n m) ▹ acknowledges_over v controls.Ack ▹ acts_over h s v m
  numbered_as_over v n m (Again last) = tells_here h s (λ me. lines.Again me v n) ▹ acknowledges_over v controls.Ack
  numbered_as_over v n m (Gap last) = tells_here h s (λ me. lines.Gap me v n) ▹ acknowledges_over v controls.Nack

  pub numbered_over : (v : UniqueAddress) (n : ℕ) (m : SysMsg) → Alike h s (numbered v n m) (numbered v n m)
  numbered_over v n m = record { on = λ d. ap (λ x. numbered_as v n m x (seen h s d)) (h.taking v n d.node.taken) ∙ (numbered_as_over v n m (P.taking v n d.node.taken)).on d }

  -- ---- acknowledgements

  pub heard_back_over : (v : UniqueAddress) (some again : Bool) (now : ℕ) → Alike h s (peer_becomes v.address (heard_back some again now)) (peer_becomes v.address (heard_back some again now))
  heard_back_over v some again now = peer_becomes_over v.address (heard_back some again now) (heard_back some again now) (λ p. refl)

  pub acked_as_over : (k : ℕ) (v : UniqueAddress) (g : P.Out → P.Out) (l : Q.Out → Q.Out) → ((o : P.Out) → l (h.out o) ≡ h.out (g o)) → (again : Bool) (x : Acked) → Alike h s (acked_as k v g again x) (acked_as k v l again x)
  acked_as_over k v g l e again Past = record { on = λ d. (drops_over h s k rules.AckRange).on d }
  acked_as_over k v g l e again (Cleared count) = record {
    on = λ d. (outs_over h s v.address g l e ▹ heard_back_over v (nat_lt 0 count) again d.node.moment ▹ pumps_over h s v.address).on d;
  }

  pub is_now_over : (v : UniqueAddress) (n : Node P) → is_now v (node_over h n) ≡ is_now v n
  is_now_over v n = rw (peer_at_over h v.address n) refl

  pub of_current_over : (k : ℕ) (v : UniqueAddress) (r : Rule P E) (q : Rule Q F) → Alike h s r q → Alike h s (of_current k v r) (of_current k v q)
  of_current_over k v r q e = record {
    on = λ d. ap (λ b. cond b q (drops k rules.NotCurrent) (seen h s d)) (is_now_over v d.node)
        ∙ (if_over (is_now v d.node) _ _ _ _ e (drops_over h s k rules.NotCurrent)).on d;
  }

  pub acked_over : (k : ℕ) (v : UniqueAddress) (n : ℕ) → Alike h s (acked k v n) (acked k v n)
  acked_over k v n = record {
    on = λ d. ap (λ (p : Peer Q). acked_as k v (Q.acknowledged n) false (Q.acknowledgement n p.out) (seen h s d)) (peer_at_over h v.address d.node)
        ∙ ap (λ x. acked_as k v (Q.acknowledged n) false x (seen h s d)) (h.acknowledgement n (peer_at v.address d.node).out)
        ∙ (acked_as_over k v (P.acknowledged n) (Q.acknowledged n) (h.acknowledged n) false (P.acknowledgement n (peer_at v.address d.node).out)).on d;
  }

  pub nacked_over : (k : ℕ) (v : UniqueAddress) (n : ℕ) → Alike h s (nacked k v n) (nacked k v n)
  nacked_over k v n = record {
    on = λ d. ap (λ (p : Peer Q). acked_as k v (Q.refused n) true (Q.acknowledgement n p.out) (seen h s d)) (peer_at_over h v.address d.node)
        ∙ ap (λ x. acked_as k v (Q.refused n) true x (seen h s d)) (h.acknowledgement n (peer_at v.address d.node).out)
        ∙ (acked_as_over k v (P.refused n) (Q.refused n) (h.refused n) true (P.acknowledgement n (peer_at v.address d.node).out)).on d;
  }

  -- ---- tables

  pub with_adopted_over : (kind : Kind) (n : ℕ) (keys : List (List ℕ)) (values : List ℕ) (p : Peer P) → with_adopted kind n keys values (peer_over h p) ≡ peer_over h (with_adopted kind n keys values p)
  with_adopted_over Refs n keys values p = ap (λ (t : Q.Adopted). record (peer_over h p) { tables = record { refs = t; manifests = h.adopted p.tables.manifests } }) (h.adopts n keys values p.tables.refs)
  with_adopted_over Manifests n keys values p = ap (λ (t : Q.Adopted). record (peer_over h p) { tables = record { refs = h.adopted p.tables.refs; manifests = t } }) (h.adopts n keys values p.tables.manifests)

  pub acknowledges_table_over : (kind : Kind) (v : UniqueAddress) (n : ℕ) → Alike h s (acknowledges_table kind v n) (acknowledges_table kind v n)
  acknowledges_table_over kind v n = record { on = λ d. (on_control_over h s v (table_ack kind d.node.me n)).on d }

  pub adopts_as_over : (k : ℕ) (v : UniqueAddress) (kind : Kind) (n : ℕ) (keys : List (List ℕ)) (values : List ℕ) (x : Adopting) → Alike h s (adopts_as k v kind n keys values x) (adopts_as k v kind n keys values x)
  adopts_as_over k v kind n keys values adopting.Older = drops_over h s k rules.OldTable
  adopts_as_over k v kind n keys values adopting.Same = acknowledges_table_over kind v n
  adopts_as_over k v kind n keys values adopting.Adopted = peer_becomes_over v.address _ _ (with_adopted_over kind n keys values) ▹ tells_here h s (λ me. lines.Adopted me v kind n) ▹ acknowledges_table_over kind v n

  pub adopts_over : (k : ℕ) (v : UniqueAddress) (kind : Kind) (n : ℕ) (keys : List (List ℕ)) (values : List ℕ) → Alike h s (adopts k v kind n keys values) (adopts k v kind n keys values)
  adopts_over k v kind n keys values = record {
    on = λ d. ap (λ (p : Peer Q). adopts_as k v kind n keys values (Q.adopting n (of_kind kind p.tables)) (seen h s d)) (peer_at_over h v.address d.node)
        ∙ ap (λ (t : Q.Adopted). adopts_as k v kind n keys values (Q.adopting n t) (seen h s d)) (of_kind_over h kind (peer_at v.address d.node))
        ∙ ap (λ x. adopts_as k v kind n keys values x (seen h s d)) (h.adopting n (of_kind kind (peer_at v.address d.node).tables))
        ∙ (adopts_as_over k v kind n keys values (P.adopting n (of_kind kind (peer_at v.address d.node).tables))).on d;
  }

  pub tabled_over : (k : ℕ) (v : UniqueAddress) (kind : Kind) (uid n : ℕ) (keys : List (List ℕ)) (values : List ℕ) → Alike h s (tabled k v kind uid n keys values) (tabled k v kind uid n keys values)
  tabled_over k v kind uid n keys values = record {
    on = λ d. (if_over (uid == d.node.me.uid) _ _ _ _ (of_current_over k v _ _ (adopts_over k v kind n keys values)) (drops_over h s k rules.NotMe)).on d;
  }

  pub with_confirmed_over : (kind : Kind) (n : ℕ) (o : Origin P) → with_confirmed kind n (origin_over h o) ≡ origin_over h (with_confirmed kind n o)
  with_confirmed_over Refs n o = ap (λ (t : Q.Announced). record (origin_over h o) { tables = record { refs = t; manifests = h.announced o.tables.manifests } }) (h.confirmed n o.tables.refs)
  with_confirmed_over Manifests n o = ap (λ (t : Q.Announced). record (origin_over h o) { tables = record { refs = h.announced o.tables.refs; manifests = t } }) (h.confirmed n o.tables.manifests)

  pub confirms_as_over : (k : ℕ) (v : UniqueAddress) (kind : Kind) (n : ℕ) (x : Confirmed) → Alike h s (confirms_as k v kind n x) (confirms_as k v kind n x)
  confirms_as_over k v kind n confirming.Confirmed = origin_becomes_over v _ _ (with_confirmed_over kind n)
  confirms_as_over k v kind n confirming.NotAnnounced = drops_over h s k rules.OldTable

  pub confirms_over : (k : ℕ) (v : UniqueAddress) (kind : Kind) (n : ℕ) → Alike h s (confirms k v kind n) (confirms k v kind n)
  confirms_over k v kind n = record {
    on = λ d. ap (λ (o : Origin Q). confirms_as k v kind n (Q.confirming n (of_kind kind o.tables)) (seen h s d)) (origin_at_over h v d.node)
        ∙ ap (λ (t : Q.Announced). confirms_as k v kind n (Q.confirming n t) (seen h s d)) (announced_over h kind (origin_at v d.node))
        ∙ ap (λ x. confirms_as k v kind n x (seen h s d)) (h.confirming n (of_kind kind (origin_at v d.node).tables))
        ∙ (confirms_as_over k v kind n (P.confirming n (of_kind kind (origin_at v d.node).tables))).on d;
  }

  -- ---- other messages

  pub hears_beat_over : (v : UniqueAddress) → Alike h s (hears_beat v) (hears_beat v)
  hears_beat_over v = record {
    on = λ d. ap (λ b. where_true (b && watches_at v.address d.node) (peer_becomes v.address (heard_at d.node.moment)) (seen h s d)) (is_now_over v d.node)
        ∙ (where_over h s (is_now v d.node && watches_at v.address d.node) _ _ (heard_over d.node.moment)).on d;
  }
    where
      heard_over : (now : ℕ) → Alike h s (peer_becomes v.address (heard_at now)) (peer_becomes v.address (heard_at now))
      heard_over now = peer_becomes_over v.address (heard_at now) (heard_at now) (λ p. ap (λ (b : Q.Beats). record (peer_over h p) { beats = b }) (h.heard now p.beats))

  pub noticed_over : (k : ℕ) (v to : UniqueAddress) → Alike h s (noticed k v to) (noticed k v to)
  noticed_over k v to = record { on = λ d. (if_over (same_unique to d.node.me) _ _ _ _ (tells_here h s (λ me. lines.Notice me v)) (drops_over h s k rules.NotMe)).on d }

  pub with_shown_over : (t : OfKinds P.Announced) (e : EnvelopeOf) (i : Inbound P) → with_shown (tables_over h t) e (inbound_over h i) ≡ inbound_over h (with_shown t e i)
  with_shown_over t e i =
      ap (λ x. record (inbound_over h i) { shown = record { refs = option_or x i.shown.refs; manifests = option_or (Q.number_of (h.announced t.manifests) e.manifests_version) i.shown.manifests } }) (h.number_of t.refs e.refs_version)
      ∙ ap (λ x. record (inbound_over h i) { shown = record { refs = option_or (P.number_of t.refs e.refs_version) i.shown.refs; manifests = option_or x i.shown.manifests } }) (h.number_of t.manifests e.manifests_version)

  pub with_counted_over : (kind : Kind) (name : NameOf) (o : Origin P) → with_counted kind name (origin_over h o) ≡ origin_over h (with_counted kind name o)
  with_counted_over kind (Index i) o = refl
  with_counted_over kind (Literal []) o = refl
  with_counted_over Refs (Literal (b ∷ bs)) o = ap (λ (t : Q.Announced). record (origin_over h o) { tables = record { refs = t; manifests = h.announced o.tables.manifests } }) (h.counted (b ∷ bs) o.tables.refs)
  with_counted_over Manifests (Literal (b ∷ bs)) o = ap (λ (t : Q.Announced). record (origin_over h o) { tables = record { refs = h.announced o.tables.refs; manifests = t } }) (h.counted (b ∷ bs) o.tables.manifests)

  pub counts_names_over : (v : UniqueAddress) (e : EnvelopeOf) → Alike h s (counts_names v e) (counts_names v e)
  counts_names_over v e = one Refs e.sender ▹ one Refs e.recipient ▹ one Manifests e.manifest
    where
      one : (kind : Kind) (name : NameOf) → Alike h s (origin_becomes v (with_counted kind name)) (origin_becomes v (with_counted kind name))
      one kind name = origin_becomes_over v _ _ (with_counted_over kind name)

  pub got_over : (i : Inbound P) (v : UniqueAddress) (e : EnvelopeOf) (m : Meaning) → Alike h s (got i v e m) (got (inbound_over h i) v e m)
  got_over i v e m = record {
    on = λ d. ap (λ (o : Origin Q). (tells_of (λ me. lines.Got me v (nonce_in i.state) (tell_of m)) ▸ inbound_becomes i.number (with_shown o.tables e) ▸ counts_names v e) (seen h s d)) (origin_at_over h v d.node)
        ∙ (tells_here h s (λ me. lines.Got me v (nonce_in i.state) (tell_of m)) ▹ inbound_becomes_over i.number _ _ (with_shown_over (origin_at v d.node).tables e) ▹ counts_names_over v e).on d;
  }

  pub beats_back_over : (v : UniqueAddress) → Alike h s (beats_back v) (beats_back v)
  beats_back_over v = record { on = λ d. (on_control_over h s v (controls.HeartbeatRsp d.node.me.uid)).on d }

  pub controlled_over : (k : ℕ) (v : UniqueAddress) (c : Control) → Alike h s (controlled k v c) (controlled k v c)
  controlled_over k v (controls.Quarantined from to) = noticed_over k v to
  controlled_over k v (controls.Terminating from) = drops_over h s k rules.Unused
  controlled_over k v (controls.TerminatingAck from) = drops_over h s k rules.Unused
  controlled_over k v (controls.HandshakeReq from to its_nonce) = stays_here h s
  controlled_over k v (controls.HandshakeRsp from for its_nonce) = stays_here h s
  controlled_over k v (controls.RefsTable from uid version keys values sequence) = uses_over h s v.address ▹ tabled_over k v Refs uid (table_number version sequence) keys values
  controlled_over k v (controls.RefsAck from version sequence) = confirms_over k v Refs (table_number version sequence)
  controlled_over k v (controls.ManifestsTable from uid version keys values sequence) = uses_over h s v.address ▹ tabled_over k v Manifests uid (table_number version sequence) keys values
  controlled_over k v (controls.ManifestsAck from version sequence) = confirms_over k v Manifests (table_number version sequence)
  controlled_over k v (controls.Numbered n m reply_to) = uses_over h s v.address ▹ numbered_over v n m
  controlled_over k v (controls.Ack n from) = of_current_over k v _ _ (acked_over k v n)
  controlled_over k v (controls.Nack n from) = of_current_over k v _ _ (nacked_over k v n)
  controlled_over k v controls.Heartbeat = uses_over h s v.address ▹ beats_back_over v
  controlled_over k v (controls.HeartbeatRsp uid) = hears_beat_over v

  pub drops_closed_over : (k : ℕ) (v : UniqueAddress) (c : Content) → Alike h s (drops_closed k v c) (drops_closed k v c)
  drops_closed_over k v c = drops_over h s k rules.Closed ▹ where_over h s (is_told_closed c) _ _ (quarantines_over h s v)

  pub spoken_over : (i : Inbound P) (v : UniqueAddress) (c : Content) → Alike h s (spoken i v c) (spoken (inbound_over h i) v c)
  spoken_over i v (Ordinary e m) = uses_over h s v.address ▹ got_over i v e m
  spoken_over i v (Controls c) = controlled_over i.number v c

  pub by_speaker_over : (v : Option UniqueAddress) (r : UniqueAddress → Rule P E) (q : UniqueAddress → Rule Q F) → ((v : UniqueAddress) → Alike h s (r v) (q v)) → Alike h s (by_speaker v r) (by_speaker v q)
  by_speaker_over None r q e = stays_here h s
  by_speaker_over (Some v) r q e = e v

  pub handles_over : (i : Inbound P) (c : Content) → Alike h s (handles i c) (handles (inbound_over h i) c)
  handles_over i (Ordinary e m) = by_speaker_over (speaker_in i.state) _ _ (λ v. spoken_over i v (Ordinary e m))
  handles_over i (Controls (controls.HandshakeReq from to its_nonce)) = requested_over h s i from to its_nonce
  handles_over i (Controls (controls.HandshakeRsp from for its_nonce)) = answered_over h s from for its_nonce
  handles_over i (Controls (controls.Quarantined from to)) = by_speaker_over (speaker_in i.state) _ _ (λ v. spoken_over i v (Controls (controls.Quarantined from to)))
  handles_over i (Controls (controls.Terminating from)) = by_speaker_over (speaker_in i.state) _ _ (λ v. spoken_over i v (Controls (controls.Terminating from)))
  handles_over i (Controls (controls.TerminatingAck from)) = by_speaker_over (speaker_in i.state) _ _ (λ v. spoken_over i v (Controls (controls.TerminatingAck from)))
  handles_over i (Controls (controls.RefsTable from uid version keys values sequence)) = by_speaker_over (speaker_in i.state) _ _ (λ v. spoken_over i v (Controls (controls.RefsTable from uid version keys values sequence)))
  handles_over i (Controls (controls.RefsAck from version sequence)) = by_speaker_over (speaker_in i.state) _ _ (λ v. spoken_over i v (Controls (controls.RefsAck from version sequence)))
  handles_over i (Controls (controls.ManifestsTable from uid version keys values sequence)) = by_speaker_over (speaker_in i.state) _ _ (λ v. spoken_over i v (Controls (controls.ManifestsTable from uid version keys values sequence)))
  handles_over i (Controls (controls.ManifestsAck from version sequence)) = by_speaker_over (speaker_in i.state) _ _ (λ v. spoken_over i v (Controls (controls.ManifestsAck from version sequence)))
  handles_over i (Controls (controls.Numbered n m reply_to)) = by_speaker_over (speaker_in i.state) _ _ (λ v. spoken_over i v (Controls (controls.Numbered n m reply_to)))
  handles_over i (Controls (controls.Ack n from)) = by_speaker_over (speaker_in i.state) _ _ (λ v. spoken_over i v (Controls (controls.Ack n from)))
  handles_over i (Controls (controls.Nack n from)) = by_speaker_over (speaker_in i.state) _ _ (λ v. spoken_over i v (Controls (controls.Nack n from)))
  handles_over i (Controls controls.Heartbeat) = by_speaker_over (speaker_in i.state) _ _ (λ v. spoken_over i v (Controls controls.Heartbeat))
  handles_over i (Controls (controls.HeartbeatRsp uid)) = by_speaker_over (speaker_in i.state) _ _ (λ v. spoken_over i v (Controls (controls.HeartbeatRsp uid)))

  pub heard_as_over : (i : Inbound P) (x : Verdict) → Alike h s (heard_as i x) (heard_as (inbound_over h i) x)
  heard_as_over i (Dropped rule) = drops_over h s i.number rule
  heard_as_over i (OfClosed c) = by_speaker_over (speaker_in i.state) _ _ (λ v. drops_closed_over i.number v c)
  heard_as_over i (Says c) = handles_over i c

  pub hears_on_over : (stream : Option Stream) (i : Option (Inbound P)) (frame : List ℕ) → Alike h s (hears_on stream i frame) (hears_on stream (option_map (inbound_over h) i) frame)
  hears_on_over stream None frame = stays_here h s
  hears_on_over stream (Some i) frame = record { on = λ d. ap (λ x. heard_as (inbound_over h i) x (seen h s d)) (verdict_over h stream d.node i frame) ∙ (heard_as_over i (verdict stream d.node i frame)).on d }

  pub hears_over : (k : ℕ) (stream : Option Stream) (frame : List ℕ) → Alike h s (hears k stream frame) (hears k stream frame)
  hears_over k stream frame = record { on = λ d. ap (λ i. hears_on stream i frame (seen h s d)) (inbound_at_over h k d.node) ∙ (hears_on_over stream (inbound_at k d.node) frame).on d }
