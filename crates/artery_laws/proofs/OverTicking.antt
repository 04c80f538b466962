-- The rules of the tick, of inbound connections and of requests, and so the step of a node, are the same under maps of parts.
use Rattle.std.proofs.Common.{◌≡◌, ℕ, ◌-◌, Bool, true, false, cond, List, [], ◌∷◌, refl, ap, ◌∙◌}
use Rattle.std.specs.Prelude.{nat_lt, nat_le, ◌&&◌, ◌==◌, not, Option, Some, None, map, length, is_some}
use Rattle.std.specs.List.{list_all}
use Rattle.std.specs.Option.{option_map}
use Rattle.artery_base.specs.declared.address.Address.{Address}
use Rattle.artery_base.specs.declared.address.UniqueAddress.{UniqueAddress}
use Rattle.artery_base.specs.declared.message.Request.{Request}
use Rattle.artery_base.specs.declared.message.Request.TheVariants as requests
use Rattle.artery_control.specs.declared.control.Control.TheVariants as controls
use Rattle.artery_frame.specs.declared.stream.Stream.{Stream}
use Rattle.artery_frame.specs.declared.stream.Stream.TheVariants as streams
use Rattle.artery_frame.specs.declared.fault.FrameFault.{FrameFault}
use Rattle.artery_handshake.specs.declared.out_conn.OutConn.{OutConn}
use Rattle.artery_handshake.specs.declared.out_conn.OnTick.{OnTick}
use Rattle.artery_handshake.specs.declared.out_conn.OnTick.TheVariants.{Nothing, AskAgain, GiveUp}
use Rattle.artery_handshake.specs.Outgoing.{answer_to_tick, conn_ticked}
use Rattle.artery_journal.specs.declared.line.Line.TheVariants as lines
use Rattle.artery_journal.specs.declared.words.Reason.TheVariants as reasons
use Rattle.artery_journal.specs.declared.words.Cause.TheVariants as causes
use Rattle.artery_journal.specs.declared.words.Kind.{Kind}
use Rattle.artery_journal.specs.declared.words.Kind.TheVariants.{Refs, Manifests}
use Rattle.artery_tables.specs.declared.table.Table.{Table}
use Rattle.artery_tables.specs.declared.in_tables.Advertised.{Advertised}
use Rattle.artery_tables.specs.declared.in_tables.Advertised.TheVariants as advertising
use Rattle.artery_machine.specs.declared.input.Conn.{Conn}
use Rattle.artery_machine.specs.declared.input.Conn.TheVariants.{Outward, Inward}
use Rattle.artery_machine.specs.declared.input.Input.{Input}
use Rattle.artery_machine.specs.declared.input.Input.TheVariants as inputs
use Rattle.artery_machine.specs.Deeds.{Hangs}
use Rattle.artery_machine.specs.Parts.{Parts}
use Rattle.artery_machine.specs.declared.link.Link.{Link}
use Rattle.artery_machine.specs.Node.{Peer, Node, Inbound, Origin, of_kind, incarnation, address_of, current_of, conn_of, link_of, with_link, peer_at, origin_at, has_closed, accepted_as, put_inbound, inbound_at, is_number}
use Rattle.artery_machine.specs.Doing.{Sink, listed, Rule, ◌▸◌, stays, where_true, does, becomes, tells_of, hangs_up, peer_becomes, inbound_becomes, origin_becomes, each}
use Rattle.artery_machine.specs.Making.{dials, link_gone}
use Rattle.artery_machine.specs.Closing.{dial_of, control_dial, closes_current, drops_ordinary}
use Rattle.artery_machine.specs.Sending.{rewinds, pumps}
use Rattle.artery_machine.specs.Watching.{watches_at}
use Rattle.artery_machine.specs.Handshaking.{quiet_now, change_conn}
use Rattle.artery_machine.specs.Hearing.{hears}
use Rattle.artery_machine.specs.Ticking.{resend_after, patience_ends_after, asleep_after, advertise_after, heartbeat_after, is_due, is_due_since, advertisement, owes_nothing, is_bound, is_lost, is_quiet, asked_at, beaten_at, is_idle, asleep_now, shows_if_by, is_settled, unconfirmed_of, with_advertised, advertised_now, is_to_advertise, at_moment, redials, due_as, tends_as, tends, tends_control, tends_ordinary, loses_patience, resends, beats_on, beats, detects_of, detects_as, detects, drops_control, tells_idle, sleeps, ticks_peer, announces, tells_advertised, advertises_as, advertises_settled, advertises, ticks_origin, ticks_peers, ticks_origins, ticks}
use Rattle.artery_machine.specs.Reacting.{most_inbound, stream_rule, with_inbound, accepts, without_inbound, ends_broken, with_bytes, comes_on, comes, ended, quarantined, asked_for, reacts, step}
use Rattle.artery_laws.proofs.Over.{Over, SinkOver, all_over, filter_over, length_over, new_inbound_over, peer_over, inbound_over, origin_over, node_over, peer_at_over, inbound_at_over, origin_at_over, seen, ◌▹◌, if_over, each_over, becomes_over, peer_becomes_over, inbound_becomes_over, origin_becomes_over}
use Rattle.artery_laws.specs.Over.{seen_through}
use Rattle.artery_laws.proofs.OverSending.{Alike, stays_here, does_here, tells_here, hangs_here, links_over, conn_over, dials_over, control_dial_over, on_control_over, drops_ordinary_over, closes_current_over, keeps_nothing_over, rewinds_over, pumps_over, sends_over, at_request_over}
use Rattle.artery_laws.proofs.OverTelling.{where_over, tells_message_over, watches_over, unwatches_over, spawns_over, kills_over}
use Rattle.artery_laws.proofs.OverHandshaking.{asks_on_over, gives_up_over, drops_over, quiet_over, dialed_over, lost_over}
use Rattle.artery_laws.proofs.OverHearing.{has_closed_over, announced_over, hears_over}

-- What an inbound connection does that is set aside with these bytes while its frames are heard, and then has those.
abbrev pub comes_with : {P : Parts} {E : Sink} → ℕ → P.Bytes → P.Bytes → List (List ℕ) → Option Stream → Option FrameFault → Rule P E
comes_with k aside after frames stream fault =
    inbound_becomes k (with_bytes aside) ▸ each frames (hears k stream) ▸ inbound_becomes k (with_bytes after) ▸ ends_broken k fault

module _ {P Q : Parts} (h : Over P Q) {E F : Sink} (s : SinkOver E F) where
  -- ---- connections

  pub link_of_over : (stream : Stream) (p : Peer P) → link_of stream (peer_over h p) ≡ link_of stream p
  link_of_over streams.Control p = refl
  link_of_over streams.Ordinary p = refl

  pub redials_over : (stream : Stream) (a : Address) (may : Bool) → Alike h s (redials stream a may) (redials stream a may)
  redials_over stream a may = record {
    on = λ d. ap (λ (p : Peer Q). where_true (may && nat_le (link_of stream p).redial d.node.moment) (dials stream a) (seen h s d)) (peer_at_over h a d.node)
        ∙ ap (λ (l : Link). where_true (may && nat_le l.redial d.node.moment) (dials stream a) (seen h s d)) (link_of_over stream (peer_at a d.node))
        ∙ (where_over h s (may && nat_le (link_of stream (peer_at a d.node)).redial d.node.moment) _ _ (dials_over h s stream a)).on d;
  }

  pub due_as_over : (stream : Stream) (a : Address) (x : ℕ) (t : OnTick) → Alike h s (due_as stream a x t) (due_as stream a x t)
  due_as_over stream a x Nothing = stays_here h s
  due_as_over stream a x AskAgain = record { on = λ d. (links_over h s stream a (change_conn (conn_ticked d.node.moment)) ▹ asks_on_over h s a x).on d }
  due_as_over stream a x GiveUp = record { on = λ d. (gives_up_over h s stream a).on d }

  pub tends_as_over : (stream : Stream) (a : Address) (may : Bool) (c : Option OutConn) → Alike h s (tends_as stream a may c) (tends_as stream a may c)
  tends_as_over stream a may None = record { on = λ d. (redials_over stream a may).on d }
  tends_as_over stream a may (Some c) = record { on = λ d. (due_as_over stream a c.dial (answer_to_tick d.node.moment c)).on d }

  pub tends_over : (stream : Stream) (a : Address) (may : Bool) → Alike h s (tends stream a may) (tends stream a may)
  tends_over stream a may = record {
    on = λ d. ap (λ (p : Peer Q). tends_as stream a may (conn_of stream p) (seen h s d)) (peer_at_over h a d.node)
        ∙ ap (λ c. tends_as stream a may c (seen h s d)) (conn_over h s stream (peer_at a d.node))
        ∙ (tends_as_over stream a may (conn_of stream (peer_at a d.node))).on d;
  }

  pub tends_control_over : (a : Address) → Alike h s (tends_control a) (tends_control a)
  tends_control_over a = record {
    on = λ d. ap (λ (p : Peer Q). tends streams.Control a (not p.asleep) (seen h s d)) (peer_at_over h a d.node)
        ∙ (tends_over streams.Control a (not (peer_at a d.node).asleep)).on d;
  }

  pub tends_ordinary_over : (a : Address) → Alike h s (tends_ordinary a) (tends_ordinary a)
  tends_ordinary_over a = record {
    on = λ d. ap (λ (p : Peer Q). tends streams.Ordinary a (is_bound p) (seen h s d)) (peer_at_over h a d.node)
        ∙ (tends_over streams.Ordinary a (is_bound (peer_at a d.node))).on d;
  }

  -- ---- messages

  pub is_lost_over : (now : ℕ) (p : Peer P) → is_lost now (peer_over h p) ≡ is_lost now p
  is_lost_over now p = ap (λ b. not b && is_due patience_ends_after p.patience now) (keeps_nothing_over h s p)

  pub loses_patience_over : (a : Address) → Alike h s (loses_patience a) (loses_patience a)
  loses_patience_over a = record {
    on = λ d. ap (λ (p : Peer Q). where_true (is_lost d.node.moment p) (closes_current a causes.Undelivered (current_of p) stays) (seen h s d)) (peer_at_over h a d.node)
        ∙ ap (λ b. where_true b (closes_current a causes.Undelivered (current_of (peer_at a d.node)) stays) (seen h s d)) (is_lost_over d.node.moment (peer_at a d.node))
        ∙ (where_over h s (is_lost d.node.moment (peer_at a d.node)) _ _ (closes_current_over h s a causes.Undelivered (current_of (peer_at a d.node)) _ _ (stays_here h s))).on d;
  }

  pub is_quiet_over : (now : ℕ) (p : Peer P) → is_quiet now (peer_over h p) ≡ is_quiet now p
  is_quiet_over now p = ap (λ b. not b && is_bound p && is_due resend_after p.quiet now) (keeps_nothing_over h s p)

  pub resends_over : (a : Address) → Alike h s (resends a) (resends a)
  resends_over a = record {
    on = λ d. ap (λ (p : Peer Q). where_true (is_quiet d.node.moment p) (rewinds a ▸ pumps a ▸ peer_becomes a (quiet_now d.node.moment)) (seen h s d)) (peer_at_over h a d.node)
        ∙ ap (λ b. where_true b (rewinds a ▸ pumps a ▸ peer_becomes a (quiet_now d.node.moment)) (seen h s d)) (is_quiet_over d.node.moment (peer_at a d.node))
        ∙ (where_over h s (is_quiet d.node.moment (peer_at a d.node)) _ _ (rewinds_over h s a ▹ pumps_over h s a ▹ quiet_over h s a d.node.moment)).on d;
  }

  -- ---- heartbeats

  pub beats_on_over : (v : UniqueAddress) (x : Option ℕ) → Alike h s (beats_on v x) (beats_on v x)
  beats_on_over v None = stays_here h s
  beats_on_over v (Some x) = record { on = λ d. (on_control_over h s v controls.Heartbeat ▹ beaten d.node.moment).on d }
    where
      beaten : (now : ℕ) → Alike h s (peer_becomes v.address (beaten_at now)) (peer_becomes v.address (beaten_at now))
      beaten now = peer_becomes_over v.address (beaten_at now) (beaten_at now) (λ p. refl)

  pub beats_over : (v : UniqueAddress) → Alike h s (beats v) (beats v)
  beats_over v = record {
    on = λ d. ap (λ (p : Peer Q). where_true (is_due_since heartbeat_after p.last_beat d.node.moment) (λ e. beats_on v (control_dial v e.node) e) (seen h s d)) (peer_at_over h v.address d.node)
        ∙ (where_over h s (is_due_since heartbeat_after (peer_at v.address d.node).last_beat d.node.moment) _ _ written).on d;
  }
    where
      written : Alike h s (λ e. beats_on v (control_dial v e.node) e) (λ e. beats_on v (control_dial v e.node) e)
      written = record { on = λ e. ap (λ x. beats_on v x (seen h s e)) (control_dial_over h s v e.node) ∙ (beats_on_over v (control_dial v e.node)).on e }

  pub detects_of_over : (a : Address) (uid : ℕ) → Alike h s (detects_of a uid) (detects_of a uid)
  detects_of_over a uid = record {
    on = λ d. ap (λ (p : Peer Q). cond (Q.available d.node.moment p.beats) (beats (incarnation a uid)) (closes_current a causes.Unreachable (Some uid) stays) (seen h s d)) (peer_at_over h a d.node)
        ∙ ap (λ b. cond b (beats (incarnation a uid)) (closes_current a causes.Unreachable (Some uid) stays) (seen h s d)) (h.available d.node.moment (peer_at a d.node).beats)
        ∙ (if_over (P.available d.node.moment (peer_at a d.node).beats) _ _ _ _ (beats_over (incarnation a uid)) (closes_current_over h s a causes.Unreachable (Some uid) _ _ (stays_here h s))).on d;
  }

  pub detects_as_over : (a : Address) (uid : Option ℕ) → Alike h s (detects_as a uid) (detects_as a uid)
  detects_as_over a None = stays_here h s
  detects_as_over a (Some uid) = record { on = λ d. (asked_over d.node.moment ▹ detects_of_over a uid).on d }
    where
      asked_over : (now : ℕ) → Alike h s (peer_becomes a (asked_at now)) (peer_becomes a (asked_at now))
      asked_over now = peer_becomes_over a (asked_at now) (asked_at now) (λ p. ap (λ (b : Q.Beats). record (peer_over h p) { beats = b }) (h.asked now p.beats))

  pub detects_over : (a : Address) → Alike h s (detects a) (detects a)
  detects_over a = record {
    on = λ d. ap (λ (p : Peer Q). where_true (watches_at a d.node) (detects_as a (current_of p)) (seen h s d)) (peer_at_over h a d.node)
        ∙ (where_over h s (watches_at a d.node) _ _ (detects_as_over a (current_of (peer_at a d.node)))).on d;
  }

  -- ---- sleep

  pub owes_nothing_over : (p : Peer P) → owes_nothing (peer_over h p) ≡ owes_nothing p
  owes_nothing_over p = ap (λ b. b && (length p.held == 0)) (keeps_nothing_over h s p)

  pub is_idle_over : (now : ℕ) (p : Peer P) → is_idle now (peer_over h p) ≡ is_idle now p
  is_idle_over now p = ap (λ b. is_bound p && b && is_due asleep_after p.used now) (owes_nothing_over p)

  pub drops_control_over : (a : Address) → Alike h s (drops_control a) (drops_control a)
  drops_control_over a = record {
    on = λ d. ap (λ (p : Peer Q). (hangs_up (dial_of (conn_of streams.Control p)) ▸ peer_becomes a (with_link streams.Control link_gone)) (seen h s d)) (peer_at_over h a d.node)
        ∙ (hangs_here h s (dial_of (conn_of streams.Control (peer_at a d.node))) ▹ links_over h s streams.Control a link_gone).on d;
  }

  pub tells_idle_over : (a : Address) (uid : Option ℕ) → Alike h s (tells_idle a uid) (tells_idle a uid)
  tells_idle_over a None = stays_here h s
  tells_idle_over a (Some uid) = tells_here h s (λ me. lines.Idle me (incarnation a uid))

  pub sleeps_over : (a : Address) → Alike h s (sleeps a) (sleeps a)
  sleeps_over a = record {
    on = λ d. ap (λ (p : Peer Q). where_true (is_idle d.node.moment p && not (watches_at a d.node)) (tells_idle a (current_of p) ▸ drops_ordinary a ▸ drops_control a ▸ peer_becomes a asleep_now) (seen h s d)) (peer_at_over h a d.node)
        ∙ ap (λ b. where_true (b && not (watches_at a d.node)) (tells_idle a (current_of (peer_at a d.node)) ▸ drops_ordinary a ▸ drops_control a ▸ peer_becomes a asleep_now) (seen h s d)) (is_idle_over d.node.moment (peer_at a d.node))
        ∙ (where_over h s (is_idle d.node.moment (peer_at a d.node) && not (watches_at a d.node)) _ _ (tells_idle_over a (current_of (peer_at a d.node)) ▹ drops_ordinary_over h s a ▹ drops_control_over a ▹ asleep_over)).on d;
  }
    where
      asleep_over : Alike h s (peer_becomes a asleep_now) (peer_becomes a asleep_now)
      asleep_over = peer_becomes_over a asleep_now asleep_now (λ p. refl)

  pub ticks_peer_over : (a : Address) → Alike h s (ticks_peer a) (ticks_peer a)
  ticks_peer_over a = tends_control_over a ▹ tends_ordinary_over a ▹ loses_patience_over a ▹ resends_over a ▹ detects_over a ▹ sleeps_over a

  -- ---- tables

  pub shows_if_by_over : (v : UniqueAddress) (kind : Kind) (least : ℕ) (i : Inbound P) → shows_if_by v kind least (inbound_over h i) ≡ shows_if_by v kind least i
  shows_if_by_over v kind least i = rw (h.carries i.bytes) refl

  pub current_number_over : (v : UniqueAddress) (kind : Kind) (n : Node P) → Q.current_number (of_kind kind (origin_at v (node_over h n)).tables) ≡ P.current_number (of_kind kind (origin_at v n).tables)
  current_number_over v kind n =
      ap (λ (o : Origin Q). Q.current_number (of_kind kind o.tables)) (origin_at_over h v n)
      ∙ ap Q.current_number (announced_over h kind (origin_at v n))
      ∙ h.current_number (of_kind kind (origin_at v n).tables)

  pub is_settled_over : (v : UniqueAddress) (kind : Kind) (n : Node P) → is_settled v kind (node_over h n) ≡ is_settled v kind n
  is_settled_over v kind n =
      ap (λ (c : ℕ). list_all (shows_if_by v kind (c - 2)) (map (inbound_over h) n.inbound)) (current_number_over v kind n)
      ∙ all_over (inbound_over h) (shows_if_by v kind (P.current_number (of_kind kind (origin_at v n).tables) - 2)) (shows_if_by v kind (P.current_number (of_kind kind (origin_at v n).tables) - 2)) (shows_if_by_over v kind _) n.inbound

  pub announces_over : (v : UniqueAddress) (kind : Kind) (t : Option Table) → Alike h s (announces v kind t) (announces v kind t)
  announces_over v kind None = stays_here h s
  announces_over v kind (Some t) = record { on = λ d. (on_control_over h s v (advertisement kind d.node.me v t)).on d }

  pub tells_advertised_over : (v : UniqueAddress) (kind : Kind) (t : Option Table) → Alike h s (tells_advertised v kind t) (tells_advertised v kind t)
  tells_advertised_over v kind None = stays_here h s
  tells_advertised_over v kind (Some t) = tells_here h s (λ me. lines.Advertised me v kind t.number (length t.names))

  pub unconfirmed_of_over : (v : UniqueAddress) (kind : Kind) (n : Node P) → unconfirmed_of v kind (node_over h n) ≡ unconfirmed_of v kind n
  unconfirmed_of_over v kind n =
      ap (λ (o : Origin Q). Q.unconfirmed (of_kind kind o.tables)) (origin_at_over h v n)
      ∙ ap Q.unconfirmed (announced_over h kind (origin_at v n))
      ∙ h.unconfirmed (of_kind kind (origin_at v n).tables)

  pub advertises_as_over : (v : UniqueAddress) (kind : Kind) (x : Advertised) → Alike h s (advertises_as v kind x) (advertises_as v kind x)
  advertises_as_over v kind advertising.New = record {
    on = λ d. ap (λ t. (tells_advertised v kind t ▸ announces v kind t) (seen h s d)) (unconfirmed_of_over v kind d.node)
        ∙ (tells_advertised_over v kind (unconfirmed_of v kind d.node) ▹ announces_over v kind (unconfirmed_of v kind d.node)).on d;
  }
  advertises_as_over v kind advertising.Again = record {
    on = λ d. ap (λ t. announces v kind t (seen h s d)) (unconfirmed_of_over v kind d.node) ∙ (announces_over v kind (unconfirmed_of v kind d.node)).on d;
  }
  advertises_as_over v kind advertising.Same = stays_here h s
  advertises_as_over v kind advertising.Spent = stays_here h s
  advertises_as_over v kind advertising.Unsettled = stays_here h s

  pub with_advertised_over : (kind : Kind) (b : Bool) (o : Origin P) → with_advertised kind b (origin_over h o) ≡ origin_over h (with_advertised kind b o)
  with_advertised_over Refs b o = ap (λ (t : Q.Announced). record (origin_over h o) { tables = record { refs = t; manifests = h.announced o.tables.manifests } }) (h.advertised b o.tables.refs)
  with_advertised_over Manifests b o = ap (λ (t : Q.Announced). record (origin_over h o) { tables = record { refs = h.announced o.tables.refs; manifests = t } }) (h.advertised b o.tables.manifests)

  pub advertises_settled_over : (v : UniqueAddress) (kind : Kind) (b : Bool) → Alike h s (advertises_settled v kind b) (advertises_settled v kind b)
  advertises_settled_over v kind b = record {
    on = λ d. ap (λ (o : Origin Q). (origin_becomes v (with_advertised kind b) ▸ advertises_as v kind (Q.advertising b (of_kind kind o.tables))) (seen h s d)) (origin_at_over h v d.node)
        ∙ ap (λ (t : Q.Announced). (origin_becomes v (with_advertised kind b) ▸ advertises_as v kind (Q.advertising b t)) (seen h s d)) (announced_over h kind (origin_at v d.node))
        ∙ ap (λ x. (origin_becomes v (with_advertised kind b) ▸ advertises_as v kind x) (seen h s d)) (h.advertising b (of_kind kind (origin_at v d.node).tables))
        ∙ (advertised_one ▹ advertises_as_over v kind (P.advertising b (of_kind kind (origin_at v d.node).tables))).on d;
  }
    where
      advertised_one : Alike h s (origin_becomes v (with_advertised kind b)) (origin_becomes v (with_advertised kind b))
      advertised_one = origin_becomes_over v _ _ (with_advertised_over kind b)

  pub advertises_over : (v : UniqueAddress) (kind : Kind) → Alike h s (advertises v kind) (advertises v kind)
  advertises_over v kind = record { on = λ d. ap (λ b. advertises_settled v kind b (seen h s d)) (is_settled_over v kind d.node) ∙ (advertises_settled_over v kind (is_settled v kind d.node)).on d }

  pub is_to_advertise_over : (v : UniqueAddress) (n : Node P) → is_to_advertise v (node_over h n) ≡ is_to_advertise v n
  is_to_advertise_over v n =
      ap (λ b. not b && is_some (control_dial v (node_over h n)) && is_due advertise_after (origin_at v (node_over h n)).advertised n.moment) (has_closed_over h v n)
      ∙ ap (λ x. not (has_closed v n) && is_some x && is_due advertise_after (origin_at v (node_over h n)).advertised n.moment) (control_dial_over h s v n)
      ∙ ap (λ (o : Origin Q). not (has_closed v n) && is_some (control_dial v n) && is_due advertise_after o.advertised n.moment) (origin_at_over h v n)

  pub ticks_origin_over : (v : UniqueAddress) → Alike h s (ticks_origin v) (ticks_origin v)
  ticks_origin_over v = record {
    on = λ d. ap (λ b. where_true b (advertises v Refs ▸ advertises v Manifests ▸ origin_becomes v (advertised_now d.node.moment)) (seen h s d)) (is_to_advertise_over v d.node)
        ∙ (where_over h s (is_to_advertise v d.node) _ _ (advertises_over v Refs ▹ advertises_over v Manifests ▹ dated d.node.moment)).on d;
  }
    where
      dated : (now : ℕ) → Alike h s (origin_becomes v (advertised_now now)) (origin_becomes v (advertised_now now))
      dated now = origin_becomes_over v (advertised_now now) (advertised_now now) (λ o. refl)

  -- ---- the tick

  pub ticks_peers_over : Alike h s ticks_peers ticks_peers
  ticks_peers_over = record { on = λ d. (all_of d.node.peers).on d }
    where
      all_of : (ps : List (Peer P)) → Alike h s (each (map address_of ps) ticks_peer) (each (map address_of (map (peer_over h) ps)) ticks_peer)
      all_of [] = stays_here h s
      all_of (p ∷ ps) = ticks_peer_over (address_of p) ▹ all_of ps

  pub ticks_origins_over : Alike h s ticks_origins ticks_origins
  ticks_origins_over = record { on = λ d. (all_of d.node.origins).on d }
    where
      all_of : (os : List (Origin P)) → Alike h s (each (map (λ o. o.who) os) ticks_origin) (each (map (λ o. o.who) (map (origin_over h) os)) ticks_origin)
      all_of [] = stays_here h s
      all_of (o ∷ os) = ticks_origin_over o.who ▹ all_of os

  pub ticks_over : (now : ℕ) → Alike h s (ticks now) (ticks now)
  ticks_over now = dated ▹ ticks_peers_over ▹ ticks_origins_over
    where
      dated : Alike h s (becomes (at_moment now)) (becomes (at_moment now))
      dated = becomes_over (at_moment now) (at_moment now) (λ n. refl)

  -- ---- inbound connections

  pub put_inbound_over : (i : Inbound P) (is : List (Inbound P)) → put_inbound (inbound_over h i) (map (inbound_over h) is) ≡ map (inbound_over h) (put_inbound i is)
  put_inbound_over i [] = refl
  put_inbound_over i (j ∷ js) = by (j.number == i.number) (nat_lt i.number j.number) (put_inbound_over i js)
    where
      by : (same before : Bool) → put_inbound (inbound_over h i) (map (inbound_over h) js) ≡ map (inbound_over h) (put_inbound i js)
          → cond same (inbound_over h i ∷ map (inbound_over h) js) (cond before (inbound_over h i ∷ inbound_over h j ∷ map (inbound_over h) js) (inbound_over h j ∷ put_inbound (inbound_over h i) (map (inbound_over h) js)))
          ≡ map (inbound_over h) (cond same (i ∷ js) (cond before (i ∷ j ∷ js) (j ∷ put_inbound i js)))
      by true before rest = refl
      by false true rest = refl
      by false false rest = ap (λ is. inbound_over h j ∷ is) rest

  pub accepts_over : (k : ℕ) → Alike h s (accepts k) (accepts k)
  accepts_over k = record {
    on = λ d. ap (λ (n : ℕ). cond (nat_lt n most_inbound) (becomes (with_inbound k)) (tells_of (λ me. lines.Refused me reasons.Connections) ▸ does (Hangs (Inward k))) (seen h s d)) (length_over (inbound_over h) d.node.inbound)
        ∙ (if_over (nat_lt (length d.node.inbound) most_inbound) _ _ _ _ accepted (tells_here h s (λ me. lines.Refused me reasons.Connections) ▹ does_here h s (Hangs (Inward k)))).on d;
  }
    where
      accepted : Alike h s (becomes (with_inbound k)) (becomes (with_inbound k))
      accepted = becomes_over (with_inbound k) (with_inbound k)
          (λ n. ap (λ (i : Inbound Q). record (node_over h n) { inbound = put_inbound i (map (inbound_over h) n.inbound) }) (new_inbound_over h k)
          ∙ ap (λ is. record (node_over h n) { inbound = is }) (put_inbound_over (accepted_as k) n.inbound))

  pub without_inbound_over : (k : ℕ) → Alike h s (becomes (without_inbound k)) (becomes (without_inbound k))
  without_inbound_over k = becomes_over (without_inbound k) (without_inbound k)
      (λ n. ap (λ is. record (node_over h n) { inbound = is }) (filter_over (inbound_over h) (λ i. not (is_number k i)) (λ i. not (is_number k i)) (λ i. refl) n.inbound))

  pub ends_broken_over : (k : ℕ) (fault : Option FrameFault) → Alike h s (ends_broken k fault) (ends_broken k fault)
  ends_broken_over k None = stays_here h s
  ends_broken_over k (Some fault) = drops_over h s k (stream_rule fault) ▹ does_here h s (Hangs (Inward k)) ▹ without_inbound_over k

  pub with_bytes_over : (k : ℕ) (b : P.Bytes) → Alike h s (inbound_becomes k (with_bytes b)) (inbound_becomes k (with_bytes (h.bytes b)))
  with_bytes_over k b = inbound_becomes_over k (with_bytes b) (with_bytes (h.bytes b)) (λ j. refl)

  pub comes_on_over : (k : ℕ) (piece : List ℕ) (i : Option (Inbound P)) → Alike h s (comes_on k piece i) (comes_on k piece (option_map (inbound_over h) i))
  comes_on_over k piece None = does_here h s (Hangs (Inward k))
  comes_on_over k piece (Some i) = record {
    on = λ d. ap (λ (b : Q.Bytes). comes_with k b (Q.came piece (h.bytes i.bytes)) (Q.frames piece (h.bytes i.bytes)) (Q.carries (Q.came piece (h.bytes i.bytes))) (Q.fault (Q.came piece (h.bytes i.bytes))) (seen h s d)) h.nothing_came
        ∙ ap (λ frames. comes_with k (h.bytes P.nothing_came) (Q.came piece (h.bytes i.bytes)) frames (Q.carries (Q.came piece (h.bytes i.bytes))) (Q.fault (Q.came piece (h.bytes i.bytes))) (seen h s d)) (h.frames piece i.bytes)
        ∙ ap (λ (b : Q.Bytes). comes_with k (h.bytes P.nothing_came) b (P.frames piece i.bytes) (Q.carries b) (Q.fault b) (seen h s d)) (h.came piece i.bytes)
        ∙ ap (λ stream. comes_with k (h.bytes P.nothing_came) (h.bytes (P.came piece i.bytes)) (P.frames piece i.bytes) stream (Q.fault (h.bytes (P.came piece i.bytes))) (seen h s d)) (h.carries (P.came piece i.bytes))
        ∙ ap (λ fault. comes_with k (h.bytes P.nothing_came) (h.bytes (P.came piece i.bytes)) (P.frames piece i.bytes) (P.carries (P.came piece i.bytes)) fault (seen h s d)) (h.fault (P.came piece i.bytes))
        ∙ (with_bytes_over k P.nothing_came ▹ heard (P.carries (P.came piece i.bytes)) (P.frames piece i.bytes) ▹ with_bytes_over k (P.came piece i.bytes) ▹ ends_broken_over k (P.fault (P.came piece i.bytes))).on d;
  }
    where
      heard : (stream : Option Stream) (frames : List (List ℕ)) → Alike h s (each frames (hears k stream)) (each frames (hears k stream))
      heard stream frames = each_over frames (hears k stream) (hears k stream) (λ frame. hears_over h s k stream frame)

  pub comes_over : (k : ℕ) (piece : List ℕ) → Alike h s (comes k piece) (comes k piece)
  comes_over k piece = record { on = λ d. ap (λ i. comes_on k piece i (seen h s d)) (inbound_at_over h k d.node) ∙ (comes_on_over k piece (inbound_at k d.node)).on d }

  pub ended_over : (c : Conn) → Alike h s (ended c) (ended c)
  ended_over (Outward x) = lost_over h s x
  ended_over (Inward k) = without_inbound_over k

  -- ---- requests

  pub quarantined_over : (a : Address) → Alike h s (quarantined a) (quarantined a)
  quarantined_over a = record {
    on = λ d. ap (λ (p : Peer Q). closes_current a causes.Quarantined (current_of p) (tells_of (λ me. lines.Refused me reasons.NotCurrent)) (seen h s d)) (peer_at_over h a d.node)
        ∙ (closes_current_over h s a causes.Quarantined (current_of (peer_at a d.node)) _ _ (tells_here h s (λ me. lines.Refused me reasons.NotCurrent))).on d;
  }

  pub asked_for_over : (r : Request) → Alike h s (asked_for r) (asked_for r)
  asked_for_over (requests.Pair a) = at_request_over h s a _ _ (stays_here h s)
  asked_for_over (requests.Send a m) = at_request_over h s a _ _ (sends_over h s a m)
  asked_for_over (requests.Tell a m) = at_request_over h s a _ _ (tells_message_over h s a m)
  asked_for_over (requests.Watch path watchee) = watches_over h s path watchee
  asked_for_over (requests.Unwatch path watchee) = unwatches_over h s path watchee
  asked_for_over (requests.Spawn path) = spawns_over h s path
  asked_for_over (requests.Kill path) = kills_over h s path
  asked_for_over (requests.Quarantine a) = quarantined_over a

  -- ---- the step

  pub reacts_over : (i : Input) → Alike h s (reacts i) (reacts i)
  reacts_over (inputs.Request r) = asked_for_over r
  reacts_over (inputs.Accepted k) = accepts_over k
  reacts_over (inputs.Dialed x) = dialed_over h s x
  reacts_over (inputs.DialFailed x) = lost_over h s x
  reacts_over (inputs.Bytes k piece) = comes_over k piece
  reacts_over (inputs.Ended c) = ended_over c
  reacts_over (inputs.Tick now) = ticks_over now

-- Deeds that are listed lie over themselves.
abbrev pub same_list : SinkOver listed listed
same_list = record { to = λ deeds. deeds; told = λ deed deeds. refl }

-- A node that lies over another does the same at each input, and lies over what that becomes.
pub step_over : {P Q : Parts} (h : Over P Q) (i : Input) (n : Node P) → step i (node_over h n) ≡ seen_through h (step i n)
step_over h i n = (reacts_over h same_list i).on (record { node = n; deeds = [] })
