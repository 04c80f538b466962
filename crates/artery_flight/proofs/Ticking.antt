-- The rules of a moment, of connections and of requests keep the facts, and so does all that comes to a node.
use Rattle.std.proofs.Common.{◌≡◌, ℕ, Bool, true, false, cond, List, [], length, map, refl, sym, ◌∙◌, ap, subst}
use Rattle.std.specs.Prelude.{nat_lt, nat_le, ◌&&◌, ◌==◌, not, find, filter, Option, Some, None}
use Rattle.artery_base.specs.declared.address.Address.{Address}
use Rattle.artery_base.specs.declared.address.UniqueAddress.{UniqueAddress}
use Rattle.artery_base.specs.declared.message.Request.{Request}
use Rattle.artery_base.specs.declared.message.Request.TheVariants as requests
use Rattle.artery_control.specs.declared.control.Control.{Control}
use Rattle.artery_control.specs.declared.control.Control.TheVariants as controls
use Rattle.artery_frame.specs.declared.stream.Stream.{Stream}
use Rattle.artery_frame.specs.declared.stream.Stream.TheVariants as streams
use Rattle.artery_frame.specs.declared.fault.FrameFault.{FrameFault}
use Rattle.artery_handshake.specs.declared.out_conn.OutConn.{OutConn}
use Rattle.artery_handshake.specs.declared.out_conn.OutState.{OutState}
use Rattle.artery_handshake.specs.declared.out_conn.OutState.TheVariants.{Dialing, Asked, Bound}
use Rattle.artery_handshake.specs.declared.out_conn.OnTick.{OnTick}
use Rattle.artery_handshake.specs.declared.out_conn.OnTick.TheVariants.{Nothing, AskAgain, GiveUp}
use Rattle.artery_handshake.specs.Outgoing.{state_after_tick, answer_to_tick, due_in, conn_ticked}
use Rattle.artery_journal.specs.declared.line.Line.{Line}
use Rattle.artery_journal.specs.declared.line.Line.TheVariants as lines
use Rattle.artery_journal.specs.declared.rule.Rule.{Rule as DropRule}
use Rattle.artery_journal.specs.declared.words.Cause.{Cause}
use Rattle.artery_journal.specs.declared.words.Cause.TheVariants as causes
use Rattle.artery_journal.specs.declared.words.Reason.TheVariants as reasons
use Rattle.artery_journal.specs.declared.words.Kind.{Kind}
use Rattle.artery_journal.specs.declared.words.Kind.TheVariants.{Refs, Manifests}
use Rattle.artery_tables.specs.declared.table.Table.{Table}
use Rattle.artery_tables.specs.declared.in_tables.Advertised.{Advertised}
use Rattle.artery_tables.specs.declared.in_tables.Advertised.TheVariants as advertising
use Rattle.artery_machine.specs.declared.input.Conn.TheVariants.{Outward, Inward}
use Rattle.artery_machine.specs.declared.input.Input.{Input}
use Rattle.artery_machine.specs.declared.input.Input.TheVariants as inputs
use Rattle.artery_machine.specs.Deeds.{Hangs}
use Rattle.artery_machine.specs.Parts.{whole}
use Rattle.artery_machine.specs.Node.{Node, Peer, Inbound, Origin, is_number, accepted_as, put_inbound, of_kind, incarnation, address_of, current_of, conn_of, with_link, peer_at, origin_at, inbound_at, link_of}
use Rattle.artery_machine.specs.Doing.{Rule, ◌▸◌, stays, where_true, does, becomes, tells_of, hangs_up, peer_becomes, inbound_becomes, origin_becomes, each}
use Rattle.artery_machine.specs.Making.{dials, link_gone}
use Rattle.artery_machine.specs.Closing.{dial_of, on_control, control_dial, closes_current, drops_ordinary}
use Rattle.artery_machine.specs.Sending.{rewinds, pumps, sends, tells_message}
use Rattle.artery_machine.specs.Watching.{watches_at}
use Rattle.artery_machine.specs.Handshaking.{quiet_now, change_conn, asks_on, gives_up, drops, lost}
use Rattle.artery_machine.specs.Hearing.{hears}
use Rattle.artery_machine.specs.Ticking.{heartbeat_after, is_due_since, advertisement, is_bound, is_lost, is_quiet, asked_at, beaten_at, is_idle, asleep_now, is_settled, unconfirmed_of, with_advertised, advertised_now, is_to_advertise, at_moment, redials, due_as, tends_as, tends, tends_control, tends_ordinary, loses_patience, resends, beats_on, beats, detects_of, detects_as, detects, drops_control, tells_idle, sleeps, ticks_peer, announces, tells_advertised, advertises_as, advertises_settled, advertises, ticks_origin, ticks_peers, ticks_origins, ticks}
use Rattle.artery_machine.specs.Reacting.{most_inbound, stream_rule, with_inbound, without_inbound, with_bytes, accepts, ends_broken, comes_on, comes, quarantined, asked_for, reacts}
use Rattle.artery_machine.specs.Lists.{change_first}
use Rattle.artery_flight.proofs.Lists.{by_test, on_cond, not_some, eq_true, eq_not, Each, each_filter, each_change}
use Rattle.artery_flight.proofs.Reading.{Framed}
use Rattle.artery_flight.proofs.Inward.{FromNothing, BytesFrom, Reacted, other_bytes, set_bytes, left_bytes, put_facts, put_bytes}
use Rattle.artery_flight.proofs.Facts.{ConnNamed, Network, Conn, AllRead, InboundFacts, NodeFacts, Later, later_self, later_trans, Speaks, IsSilent, StateFacts, OutConnFacts}
use Rattle.artery_flight.proofs.Deeds.{outward, only}
use Rattle.artery_flight.proofs.Lines.{IsPlainLine}
use Rattle.artery_flight.proofs.Peers.{View, view_at}
use Rattle.artery_flight.proofs.Telling.{same_peer_view}
use Rattle.artery_machine.specs.declared.link.Link.{Link}
use Rattle.artery_machine.specs.declared.world.Outcome.{Outcome}
use Rattle.artery_flight.proofs.Rules.{kept_then, bytes_in, bytes_at, Good, Kept, Premise, Work, Keeps, always, speaking, kept_self, ◌▹◌, IsSamePeer, changed_conn, ticked_facts, peer_facts_at, conn_facts_of}
use Rattle.artery_flight.proofs.Controlling.{IsOther, on_control_keeps}
use Rattle.artery_flight.proofs.Rules as small
use Rattle.artery_flight.proofs.Controlling as small_controlling
use Rattle.artery_flight.proofs.Sending as sent
use Rattle.artery_flight.proofs.Watching as sent_watching
use Rattle.artery_flight.proofs.Handshaking as shaking
use Rattle.artery_flight.proofs.Hearing as heard

advertisement_other : (kind : Kind) (me v : UniqueAddress) (table : Table) → IsOther (advertisement kind me v table)
advertisement_other Refs me v table = tt
advertisement_other Manifests me v table = tt

again_speaks : (u : ℕ) (cs : List Conn) (now : ℕ) (c : OutConn) → StateFacts u cs c.dial c.state → answer_to_tick now c ≡ AskAgain → Speaks u c.dial cs
again_speaks u cs now c h e = by c.state h e
  where
    by : (s : OutState) → StateFacts u cs c.dial s → due_in now s ≡ AskAgain → Speaks u c.dial cs
    by Dialing k f = not_again f
      where
        not_again : {P : Type 0} → Nothing ≡ AskAgain → P
        not_again g = cc
    by (Asked begun last) k f = k
    by (Bound uid) k f = k.0

ticked_named : (os : List Outcome) (a : Address) (now : ℕ) (l : Link) → ConnNamed os a l.conn → ConnNamed os a (change_conn (conn_ticked now) l).conn
ticked_named os a now l h = by l.conn h
  where
    by : (c : Option OutConn) → ConnNamed os a c → ConnNamed os a (change_conn (conn_ticked now) (record l { conn = c })).conn
    by None k = tt
    by (Some c) k = λ uid e. k uid (at_state (answer_to_tick now c) c.state uid e)
      where
        not_bound : {P : Type 0} {x y uid : ℕ} → Asked x y ≡ Bound uid → P
        not_bound e = cc

        at_state : (x : OnTick) (s : OutState) (uid : ℕ) → state_after_tick x now s ≡ Bound uid → s ≡ Bound uid
        at_state Nothing s uid e = e
        at_state GiveUp s uid e = e
        at_state AskAgain Dialing uid e = e
        at_state AskAgain (Asked begun last) uid e = not_bound e
        at_state AskAgain (Bound bound) uid e = e

ticked_here : {u t x : ℕ} (stream : Stream) (a : Address) (now : ℕ) → Keeps u t (speaking u x) (peer_becomes a (with_link stream (change_conn (conn_ticked now))) ▸ asks_on a x)
ticked_here {u} stream a now =
    small.link_keeps stream a (change_conn (conn_ticked now)) (λ w h e l q. changed_conn u w.connections (conn_ticked now) (ticked_facts u w.connections now) l q) (λ w h e r l q. ticked_named w.outcomes a now l q) ▹ shaking.asks_on_keeps a

-- a premise holds
record Given {u : ℕ} (p : Premise u) (w : Network) : Type 0 where
  holds : p.holds w

module _ {u t : ℕ} {p : Premise u} where
  stays_here : Keeps u t p stays
  stays_here = small.stays_keep

  tells_here : (line : UniqueAddress → Line) → ((me : UniqueAddress) → IsPlainLine (line me)) → Keeps u t p (tells_of line)
  tells_here line s = small.tells_keep line s

  hangs_here : (x : Option ℕ) → Keeps u t p (hangs_up x)
  hangs_here x = small.hangs_keep x

  dials_here : (stream : Stream) (a : Address) → Keeps u t p (dials stream a)
  dials_here stream a = small_controlling.dials_keep stream a

  gone_here : (stream : Stream) (a : Address) → Keeps u t p (peer_becomes a (with_link stream link_gone))
  gone_here stream a = small.gone_keeps stream a

  peer_here : (a : Address) (f : Peer whole → Peer whole) → IsSamePeer f → Keeps u t p (peer_becomes a f)
  peer_here a f s = small.peer_keep a f s

  origin_here : (v : UniqueAddress) (f : Origin whole → Origin whole) → Keeps u t p (origin_becomes v f)
  origin_here v f = small.origin_keep v f

  control_here : (v : UniqueAddress) (c : Control) → IsOther c → Keeps u t p (on_control v c)
  control_here v c o = on_control_keeps v c o

  if_here : (b : Bool) (r s : Rule whole (outward u t)) → Keeps u t p r → Keeps u t p s → Keeps u t p (cond b r s)
  if_here b r s x y = small.if_keeps b r s x y

  where_here : (b : Bool) (r : Rule whole (outward u t)) → Keeps u t p r → Keeps u t p (where_true b r)
  where_here b r x = small.where_keeps b r x

  each_here : {X : Type 0} (xs : List X) (r : X → Rule whole (outward u t)) → ((x : X) → Keeps u t p (r x)) → Keeps u t p (each xs r)
  each_here xs r a = small.each_keeps xs r a

  quiet_deed : (k : ℕ) → Keeps u t p (does (Hangs (Inward k)))
  quiet_deed k = small.quiet_keeps (Hangs (Inward k)) tt

  gives_up_here : (stream : Stream) (a : Address) → Keeps u t p (gives_up stream a)
  gives_up_here stream a = shaking.gives_up_keeps stream a

  closing_here : (a : Address) (x : Cause) → Keeps u t p (λ d. closes_current a x (current_of (peer_at a d.node)) stays d)
  closing_here a x = sent.closing_keeps a x stays stays_here

  drops_ordinary_here : (a : Address) → Keeps u t p (drops_ordinary a)
  drops_ordinary_here a = sent.drops_ordinary_keeps a

  drops_here : (k : ℕ) (rule : DropRule) → Keeps u t p (drops k rule)
  drops_here k rule = shaking.drops_keep k rule

  rewinds_here : (a : Address) → Keeps u t p (rewinds a)
  rewinds_here a = sent.rewinds_keep a

  pumps_here : (a : Address) → Keeps u t p (pumps a)
  pumps_here a = sent.pumps_keep a

  quiet_here : (a : Address) (now : ℕ) → Keeps u t p (peer_becomes a (quiet_now now))
  quiet_here a now = shaking.quiet_keep a now

  -- ---- connections

  redials_keep : (stream : Stream) (a : Address) (may : Bool) → Keeps u t p (redials stream a may)
  redials_keep stream a may = record { on = λ d h g. (where_here (may && nat_le (link_of stream (peer_at a d.node)).redial d.node.moment) _ (dials_here stream a)).on d h g }

  tends_keeps : (stream : Stream) (a : Address) (may : Bool) → Keeps u t p (tends stream a may)
  tends_keeps stream a may = record { on = λ d h g. by d h g (conn_of stream (peer_at a d.node)) refl }
    where
      due : (d : Work u t) → p.holds d.deeds → Good u d.node d.deeds → (c : OutConn) → conn_of stream (peer_at a d.node) ≡ Some c → (x : OnTick) → answer_to_tick d.node.moment c ≡ x
          → Kept u d.node d.deeds (due_as stream a c.dial x d).node (due_as stream a c.dial x d).deeds
      due d h g c e Nothing i = kept_self u d.node d.deeds g
      due d h g c e AskAgain i = (ticked_here {u = u} {t = t} {x = c.dial} stream a d.node.moment).on d
          (λ live. again_speaks u d.deeds.connections d.node.moment c
          (subst (λ (o : Option OutConn). OutConnFacts u d.deeds.connections o) e (conn_facts_of u d.deeds.connections stream (peer_at a d.node) (peer_facts_at u d.node d.deeds a (g.node live)))) i) g
      due d h g c e GiveUp i = (gives_up_here stream a).on d h g

      by : (d : Work u t) → p.holds d.deeds → Good u d.node d.deeds → (c : Option OutConn) → conn_of stream (peer_at a d.node) ≡ c → Kept u d.node d.deeds (tends_as stream a may c d).node (tends_as stream a may c d).deeds
      by d h g None e = (redials_keep stream a may).on d h g
      by d h g (Some c) e = due d h g c e (answer_to_tick d.node.moment c) refl

  tends_control_keeps : (a : Address) → Keeps u t p (tends_control a)
  tends_control_keeps a = record { on = λ d h g. (tends_keeps streams.Control a (not (peer_at a d.node).asleep)).on d h g }

  tends_ordinary_keeps : (a : Address) → Keeps u t p (tends_ordinary a)
  tends_ordinary_keeps a = record { on = λ d h g. (tends_keeps streams.Ordinary a (is_bound (peer_at a d.node))).on d h g }

  -- ---- messages

  loses_patience_keeps : (a : Address) → Keeps u t p (loses_patience a)
  loses_patience_keeps a = record {
    on = λ d h g. on_cond (λ (r : Rule whole (outward u t)). Kept u d.node d.deeds (r d).node (r d).deeds) (is_lost d.node.moment (peer_at a d.node)) (closes_current a causes.Undelivered (current_of (peer_at a d.node)) stays) stays
        (λ b. (closing_here a causes.Undelivered).on d h g) (λ b. kept_self u d.node d.deeds g);
  }

  resends_keeps : (a : Address) → Keeps u t p (resends a)
  resends_keeps a = record { on = λ d h g. (where_here (is_quiet d.node.moment (peer_at a d.node)) _ (rewinds_here a ▹ pumps_here a ▹ quiet_here a d.node.moment)).on d h g }

  -- ---- heartbeats

  beats_on_keep : (v : UniqueAddress) (x : Option ℕ) → Keeps u t p (beats_on v x)
  beats_on_keep v None = record { on = λ d h g. stays_here.on d h g }
  beats_on_keep v (Some x) = record { on = λ d h g. (control_here v controls.Heartbeat tt ▹ peer_here v.address (beaten_at d.node.moment) (record { incarnations = λ q. refl; out = λ q. refl; control = λ q. refl; ordinary = λ q. refl })).on d h g }

  beats_keep : (v : UniqueAddress) → Keeps u t p (beats v)
  beats_keep v = record { on = λ d h g. (where_here (is_due_since heartbeat_after (peer_at v.address d.node).last_beat d.node.moment) _ written).on d h g }
    where
      written : Keeps u t p (λ e. beats_on v (control_dial v e.node) e)
      written = record { on = λ d h g. (beats_on_keep v (control_dial v d.node)).on d h g }

  asked_here : (a : Address) (now : ℕ) → Keeps u t p (peer_becomes a (asked_at now))
  asked_here a now = peer_here a (asked_at now) (record { incarnations = λ q. refl; out = λ q. refl; control = λ q. refl; ordinary = λ q. refl })

  -- what is due for the current incarnation
  detects_of_kept : (a : Address) (uid : ℕ) (d : Work u t) → Given p d.deeds → current_of (peer_at a d.node) ≡ Some uid → Good u d.node d.deeds → Kept u d.node d.deeds (detects_of a uid d).node (detects_of a uid d).deeds
  detects_of_kept a uid d h now g = on_cond (λ (r : Rule whole (outward u t)). Kept u d.node d.deeds (r d).node (r d).deeds) (whole.available d.node.moment (peer_at a d.node).beats) (beats (incarnation a uid)) (closes_current a causes.Unreachable (Some uid) stays)
      (λ b. (beats_keep (incarnation a uid)).on d h.holds g) (λ b. sent.closes_kept p a causes.Unreachable uid d h.holds now g)

  detects_as_kept : (a : Address) (o : Option ℕ) (d : Work u t) → Given p d.deeds → current_of (peer_at a d.node) ≡ o → Good u d.node d.deeds → Kept u d.node d.deeds (detects_as a o d).node (detects_as a o d).deeds
  detects_as_kept a None d h now g = kept_self u d.node d.deeds g
  detects_as_kept a (Some uid) d h now g =
      let d1 : Work u t = peer_becomes a (asked_at d.node.moment) d in
      let k1 : Kept u d.node d.deeds d1.node d1.deeds = (asked_here a d.node.moment).on d h.holds g in
      let same : view_at a d1.node ≡ view_at a d.node = same_peer_view a a (asked_at d.node.moment) (record { incarnations = λ q. refl; out = λ q. refl; control = λ q. refl; ordinary = λ q. refl }) d.node in
      kept_then u d.node d.deeds d1.deeds (detects_of a uid d1).deeds d1.node (detects_of a uid d1).node k1 (detects_of_kept a uid d1 (record { holds = h.holds }) (ap (λ (x : View). x.incarnations.current) same ∙ now) k1.good)

  detects_keep : (a : Address) → Keeps u t p (detects a)
  detects_keep a = record {
    on = λ d h g. on_cond (λ (r : Rule whole (outward u t)). Kept u d.node d.deeds (r d).node (r d).deeds) (watches_at a d.node) (detects_as a (current_of (peer_at a d.node))) stays
        (λ b. detects_as_kept a (current_of (peer_at a d.node)) d (record { holds = h }) refl g) (λ b. kept_self u d.node d.deeds g);
  }

  -- ---- sleep

  drops_control_keeps : (a : Address) → Keeps u t p (drops_control a)
  drops_control_keeps a = record { on = λ d h g. (hangs_here (dial_of (conn_of streams.Control (peer_at a d.node))) ▹ gone_here streams.Control a).on d h g }

  tells_idle_keeps : (a : Address) (uid : Option ℕ) → Keeps u t p (tells_idle a uid)
  tells_idle_keeps a None = stays_here
  tells_idle_keeps a (Some uid) = tells_here (λ me. lines.Idle me (incarnation a uid)) (λ me. (refl, refl, refl))

  sleeps_keep : (a : Address) → Keeps u t p (sleeps a)
  sleeps_keep a = record {
    on = λ d h g. (where_here (is_idle d.node.moment (peer_at a d.node) && not (watches_at a d.node)) _
        (tells_idle_keeps a (current_of (peer_at a d.node)) ▹ drops_ordinary_here a ▹ drops_control_keeps a ▹ peer_here a asleep_now (record { incarnations = λ q. refl; out = λ q. refl; control = λ q. refl; ordinary = λ q. refl }))).on d h g;
  }

  ticks_peer_keeps : (a : Address) → Keeps u t p (ticks_peer a)
  ticks_peer_keeps a = tends_control_keeps a ▹ tends_ordinary_keeps a ▹ loses_patience_keeps a ▹ resends_keeps a ▹ detects_keep a ▹ sleeps_keep a

  -- ---- tables

  announces_keep : (v : UniqueAddress) (kind : Kind) (table : Option Table) → Keeps u t p (announces v kind table)
  announces_keep v kind None = record { on = λ d h g. stays_here.on d h g }
  announces_keep v kind (Some table) = record { on = λ d h g. (control_here v (advertisement kind d.node.me v table) (advertisement_other kind d.node.me v table)).on d h g }

  tells_advertised_keeps : (v : UniqueAddress) (kind : Kind) (table : Option Table) → Keeps u t p (tells_advertised v kind table)
  tells_advertised_keeps v kind None = stays_here
  tells_advertised_keeps v kind (Some table) = tells_here (λ me. lines.Advertised me v kind table.number (length table.names)) (λ me. (refl, refl, refl))

  advertises_as_keeps : (v : UniqueAddress) (kind : Kind) (x : Advertised) → Keeps u t p (advertises_as v kind x)
  advertises_as_keeps v kind advertising.New = record { on = λ d h g. (tells_advertised_keeps v kind (unconfirmed_of v kind d.node) ▹ announces_keep v kind (unconfirmed_of v kind d.node)).on d h g }
  advertises_as_keeps v kind advertising.Again = record { on = λ d h g. (announces_keep v kind (unconfirmed_of v kind d.node)).on d h g }
  advertises_as_keeps v kind advertising.Same = record { on = λ d h g. stays_here.on d h g }
  advertises_as_keeps v kind advertising.Spent = record { on = λ d h g. stays_here.on d h g }
  advertises_as_keeps v kind advertising.Unsettled = record { on = λ d h g. stays_here.on d h g }

  settled_keeps : (v : UniqueAddress) (kind : Kind) (b : Bool) → Keeps u t p (advertises_settled v kind b)
  settled_keeps v kind b = record { on = λ d h g. (origin_here v (with_advertised kind b) ▹ advertises_as_keeps v kind (whole.advertising b (of_kind kind (origin_at v d.node).tables))).on d h g }

  advertises_keep : (v : UniqueAddress) (kind : Kind) → Keeps u t p (advertises v kind)
  advertises_keep v kind = record { on = λ d h g. (settled_keeps v kind (is_settled v kind d.node)).on d h g }

  ticks_origin_keeps : (v : UniqueAddress) → Keeps u t p (ticks_origin v)
  ticks_origin_keeps v = record {
    on = λ d h g. (where_here (is_to_advertise v d.node) _ (advertises_keep v Refs ▹ advertises_keep v Manifests ▹ origin_here v (advertised_now d.node.moment))).on d h g;
  }

  ticks_keep : (now : ℕ) → Keeps u t p (ticks now)
  ticks_keep now = dated ▹ peers ▹ origins
    where
      dated : Keeps u t p (becomes (at_moment now))
      dated = small.becomes_keep (at_moment now) (λ n. record { me = refl; dials = refl; peers = refl; inbound = refl })

      peers : Keeps u t p ticks_peers
      peers = record { on = λ d h g. (each_here (map address_of d.node.peers) ticks_peer (λ a. ticks_peer_keeps a)).on d h g }

      origins : Keeps u t p ticks_origins
      origins = record { on = λ d h g. (each_here (map (λ o. o.who) d.node.origins) ticks_origin (λ v. ticks_origin_keeps v)).on d h g }

  -- a broken stream is dropped and hung up
  pub breaks_here : (k : ℕ) (fault : FrameFault) → Keeps u t p (drops k (stream_rule fault) ▸ does (Hangs (Inward k)))
  breaks_here k fault = drops_here k (stream_rule fault) ▹ quiet_deed k

  -- a connection that came in is refused
  pub refuses_here : (k : ℕ) → Keeps u t p (tells_of (λ me. lines.Refused me reasons.Connections) ▸ does (Hangs (Inward k)))
  refuses_here k = tells_here (λ me. lines.Refused me reasons.Connections) (λ me. (refl, refl, refl)) ▹ quiet_deed k

  lost_here : (x : ℕ) → Keeps u t p (lost x)
  lost_here x = shaking.lost_keeps x

  -- ---- requests

  quarantined_keeps : (a : Address) → Keeps u t p (quarantined a)
  quarantined_keeps a = record { on = λ d h g. (sent.closing_keeps a causes.Quarantined _ (tells_here (λ me. lines.Refused me reasons.NotCurrent) (λ me. (refl, refl, refl)))).on d h g }

  asked_for_keeps : (r : Request) → Keeps u t p (asked_for r)
  asked_for_keeps (requests.Pair a) = sent.at_request_keeps a stays stays_here
  asked_for_keeps (requests.Send a x) = sent.at_request_keeps a (sends a x) (sent.sends_keeps a x)
  asked_for_keeps (requests.Tell a x) = sent.at_request_keeps a (tells_message a x) (sent_watching.tells_message_keeps a x)
  asked_for_keeps (requests.Watch path watchee) = sent_watching.watches_keep path watchee
  asked_for_keeps (requests.Unwatch path watchee) = sent_watching.unwatches_keep path watchee
  asked_for_keeps (requests.Spawn path) = sent_watching.spawns_keep path
  asked_for_keeps (requests.Kill path) = sent_watching.kills_keep path
  asked_for_keeps (requests.Quarantine a) = quarantined_keeps a

-- ---- inbound connections

-- what was kept, and how, where an inbound connection came, went or had bytes
reacted : (u : ℕ) (input : Input) (o : Node whole) (w : Network) (n : Node whole) (v : Network) → ((j : ℕ) (bs : List ℕ) → bytes_at j o ≡ Some bs → BytesFrom input j bs o) → Kept u o w n v → Reacted u input o w n v
reacted u input o w n v f k = record { good = k.good; later = k.later; bytes = λ j bs e. f j bs (sym (k.bytes j) ∙ e) }

-- a change of the inbound connections alone
good_inbound : (u : ℕ) (n : Node whole) (is : List (Inbound whole)) (w : Network) → (w.ended ≡ None → Each (InboundFacts u w.connections) n.inbound → Each (InboundFacts u w.connections) is) → Good u n w → Good u (record n { inbound = is }) w
good_inbound u n is w f g = record { out = g.out; node = λ e. (let h : NodeFacts u n w = g.node e in record { me = h.me; fresh = h.fresh; alone = h.alone; peers = h.peers; inbound = f e h.inbound; named = h.named; bound = h.bound; sent = h.sent }) }

with_bytes_facts : (u : ℕ) (cs : List Conn) (new : List ℕ) (k : ℕ) (is : List (Inbound whole)) → Each (InboundFacts u cs) is → Each (InboundFacts u cs) (change_first (is_number k) (with_bytes new) is)
with_bytes_facts u cs new k is h = each_change (InboundFacts u cs) (is_number k) (with_bytes new) is (λ i e q. record { owed = q.owed; known = q.known }) h

accepted_kept : (u t k : ℕ) (d : Work u t) → Good u d.node d.deeds → Reacted u (inputs.Accepted k) d.node d.deeds (accepts k d).node (accepts k d).deeds
accepted_kept u t k d g = on_cond (λ (r : Rule whole (outward u t)). Reacted u (inputs.Accepted k) d.node d.deeds (r d).node (r d).deeds) (nat_lt (length d.node.inbound) most_inbound) (becomes (with_inbound k))
    (tells_of (λ me. lines.Refused me reasons.Connections) ▸ does (Hangs (Inward k)))
    (λ s. record {
      good = good_inbound u d.node (put_inbound (accepted_as k) d.node.inbound) d.deeds (λ e h. put_facts (InboundFacts u d.deeds.connections) (accepted_as k) d.node.inbound (record { owed = λ a. tt; known = λ a. tt }) h) g;
      later = later_self (only u) d.deeds;
      bytes = λ j bs e. came j bs (put_bytes j k bs d.node.inbound e);
    })
    (λ s. reacted u (inputs.Accepted k) d.node d.deeds _ _ (λ j bs e. (false, e)) ((refuses_here {u = u} {t = t} {p = always u} k).on d tt g))
  where
    came : (j : ℕ) (bs : List ℕ) → (new : Bool) × (cond new ((j ≡ k) × (bs ≡ [])) (bytes_in (find (is_number j) d.node.inbound) ≡ Some bs)) → (new : Bool) × FromNothing new k j bs d.node
    came j bs (true, f) = (true, f)
    came j bs (false, f) = (false, f)

without_kept : (u t k : ℕ) (d : Work u t) → Good u d.node d.deeds → Reacted u (inputs.Ended (Inward k)) d.node d.deeds (without_inbound k d.node) d.deeds
without_kept u t k d g = record {
  good = good_inbound u d.node (filter (λ i. not (is_number k i)) d.node.inbound) d.deeds (λ e h. each_filter (InboundFacts u d.deeds.connections) (λ i. not (is_number k i)) d.node.inbound h) g;
  later = later_self (only u) d.deeds;
  bytes = λ j bs e. left_bytes j k bs d.node.inbound e;
}

-- what follows where bytes came on a connection, and how those of others stay
record Broken (u : ℕ) (o : Node whole) (w : Network) (n : Node whole) (v : Network) : Type 0 where
  good : Good u n v
  later : Later (only u) w v
  bytes : (j : ℕ) (bs : List ℕ) → bytes_at j n ≡ Some bs → bytes_at j o ≡ Some bs

broken_kept : (u t k : ℕ) (fault : Option FrameFault) (d : Work u t) → Good u d.node d.deeds → Broken u d.node d.deeds (ends_broken k fault d).node (ends_broken k fault d).deeds
broken_kept u t k None d g = record { good = g; later = later_self (only u) d.deeds; bytes = λ j bs e. e }
broken_kept u t k (Some fault) d g =
    let r : Rule whole (outward u t) = drops k (stream_rule fault) ▸ does (Hangs (Inward k)) in
    let x : Kept u d.node d.deeds (r d).node (r d).deeds = (breaks_here {u = u} {t = t} {p = always u} k fault).on d tt g in
    let y = without_kept u t k (r d) x.good in
    record { good = y.good; later = x.later; bytes = λ j bs e. sym (x.bytes j) ∙ y.bytes j bs e }

-- the frames that a piece completes were written on the connection with this number
abbrev pub PieceIsOf : ℕ → ℕ → List ℕ → Node whole → Network → Type 0
PieceIsOf u k piece n w = w.ended ≡ None → AllRead w.connections → (bs : List ℕ) → bytes_at k n ≡ Some bs → Each (λ frame. Framed u k frame w.connections) (whole.frames piece bs)

comes_kept : (u t k : ℕ) (piece : List ℕ) (d : Work u t) → PieceIsOf u k piece d.node d.deeds → Good u d.node d.deeds → Reacted u (inputs.Bytes k piece) d.node d.deeds (comes k piece d).node (comes k piece d).deeds
comes_kept u t k piece d c g = by (inbound_at k d.node) refl
  where
    nobody_there : {i : Option (Inbound whole)} {bs : List ℕ} → i ≡ None → bytes_in i ≡ Some bs → ⊥
    nobody_there p q = not_some (sym (ap bytes_in p) ∙ q)

    at_it : (i : Inbound whole) → inbound_at k d.node ≡ Some i → Reacted u (inputs.Bytes k piece) d.node d.deeds (comes_on k piece (Some i) d).node (comes_on k piece (Some i) d).deeds
    at_it i e =
        let frames : List (List ℕ) = whole.frames piece i.bytes in
        let new : List ℕ = whole.came piece i.bytes in
        let was : bytes_at k d.node ≡ Some i.bytes = ap bytes_in e in
        let d1 : Work u t = inbound_becomes k (with_bytes whole.nothing_came) d in
        let g1 : Good u d1.node d1.deeds = good_inbound u d.node d1.node.inbound d.deeds (λ live h. with_bytes_facts u d.deeds.connections whole.nothing_came k d.node.inbound h) g in
        let d2 : Work u t = each frames (hears k (whole.carries new)) d1 in
        let k2 : Kept u d1.node d1.deeds d2.node d2.deeds = (heard.all_keep {u = u} {t = t} k (whole.carries new) frames).on d1 (λ live a. c live a i.bytes was) g1 in
        let d3 : Work u t = inbound_becomes k (with_bytes new) d2 in
        let g3 : Good u d3.node d3.deeds = good_inbound u d2.node d3.node.inbound d2.deeds (λ live h. with_bytes_facts u d2.deeds.connections new k d2.node.inbound h) k2.good in
        let d4 : Work u t = ends_broken k (whole.fault new) d3 in
        let b : Broken u d3.node d3.deeds d4.node d4.deeds = broken_kept u t k (whole.fault new) d3 g3 in
        record {
          good = b.good;
          later = later_trans (only u) d.deeds d2.deeds d4.deeds k2.later b.later;
          bytes = λ j bs h. by_test (j == k)
              (λ s. (let same : j ≡ k = eq_true j k s in
              (true, (same, i.bytes, was, set_bytes k new bs d2.node.inbound (subst (λ (x : ℕ). bytes_at x d3.node ≡ Some bs) same (b.bytes j bs h))))))
              (λ s. (false, ((λ q. eq_not j k s q), sym (other_bytes j k whole.nothing_came s d.node.inbound) ∙ sym (k2.bytes j) ∙ sym (other_bytes j k new s d2.node.inbound) ∙ b.bytes j bs h)));
        }

    by : (i : Option (Inbound whole)) → inbound_at k d.node ≡ i → Reacted u (inputs.Bytes k piece) d.node d.deeds (comes_on k piece i d).node (comes_on k piece i d).deeds
    by None e = reacted u (inputs.Bytes k piece) d.node d.deeds _ _ (λ j bs q. (false, ((λ s. nobody_there e (subst (λ (x : ℕ). bytes_at x d.node ≡ Some bs) s q)), q))) ((quiet_deed {u = u} {t = t} {p = always u} k).on d tt g)
    by (Some i) e = at_it i e

-- ---- what comes to a node

-- What must be true outside where something comes to a node: nothing was written yet on the connection of a dial that is up; and a piece completes frames that were written.
abbrev pub Comes : ℕ → Input → Node whole → Network → Type 0
Comes u (inputs.Dialed x) n w = w.ended ≡ None → IsSilent u x w.connections
Comes u (inputs.Request request) n w = Unit {0}
Comes u (inputs.Accepted k) n w = Unit {0}
Comes u (inputs.DialFailed x) n w = Unit {0}
Comes u (inputs.Bytes k piece) n w = PieceIsOf u k piece n w
Comes u (inputs.Ended c) n w = Unit {0}
Comes u (inputs.Tick now) n w = Unit {0}

pub reacts_kept : (u t : ℕ) (input : Input) (d : Work u t) → Comes u input d.node d.deeds → Good u d.node d.deeds → Reacted u input d.node d.deeds (reacts input d).node (reacts input d).deeds
reacts_kept u t (inputs.Request request) d c g = reacted u _ d.node d.deeds _ _ (λ j bs e. e) ((asked_for_keeps {u = u} {t = t} {p = always u} request).on d tt g)
reacts_kept u t (inputs.Accepted k) d c g = accepted_kept u t k d g
reacts_kept u t (inputs.Dialed x) d c g = reacted u _ d.node d.deeds _ _ (λ j bs e. e) (shaking.dialed_kept u t x d c g)
reacts_kept u t (inputs.DialFailed x) d c g = reacted u _ d.node d.deeds _ _ (λ j bs e. e) ((lost_here {u = u} {t = t} {p = always u} x).on d tt g)
reacts_kept u t (inputs.Bytes k piece) d c g = comes_kept u t k piece d c g
reacts_kept u t (inputs.Ended (Outward x)) d c g = reacted u _ d.node d.deeds _ _ (λ j bs e. e) ((lost_here {u = u} {t = t} {p = always u} x).on d tt g)
reacts_kept u t (inputs.Ended (Inward k)) d c g = without_kept u t k d g
reacts_kept u t (inputs.Tick now) d c g = reacted u _ d.node d.deeds _ _ (λ j bs e. e) ((ticks_keep {u = u} {t = t} {p = always u} now).on d tt g)
