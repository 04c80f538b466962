-- The rules of a moment, of connections and of requests, and so all that comes to a node.
use Rattle.std.proofs.Common.{◌≡◌, ℕ, ◌+◌, ◌<◌, ◌≤◌, ◌^◌, Bool, true, false, cond, List, [], ◌∷◌, length, map, refl, sym, ap, subst, arith}
use Rattle.std.specs.Prelude.{Option, None, Some, ◌==◌, ◌&&◌, not, nat_lt, nat_le}
use Rattle.std.specs.List.{filter}
use Rattle.artery_base.specs.declared.address.Address.{Address}
use Rattle.artery_base.specs.declared.address.UniqueAddress.{UniqueAddress}
use Rattle.artery_base.specs.declared.message.SysMsg.{SysMsg}
use Rattle.artery_base.specs.declared.message.Request.{Request}
use Rattle.artery_base.specs.declared.message.Request.TheVariants as requests
use Rattle.artery_base.specs.Valid.{IsAddress, IsUniqueAddress}
use Rattle.artery_script.specs.Valid.{IsMessage, IsRequest}
use Rattle.artery_control.specs.declared.control.Control.TheVariants as controls
use Rattle.artery_control.specs.Valid.{IsOptional}
use Rattle.artery_frame.specs.declared.stream.Stream.{Stream}
use Rattle.artery_frame.specs.declared.stream.Stream.TheVariants as streams
use Rattle.artery_frame.specs.declared.fault.FrameFault.{FrameFault}
use Rattle.artery_frame.specs.Stream.{new_frames}
use Rattle.artery_handshake.specs.declared.out_conn.OutConn.{OutConn}
use Rattle.artery_handshake.specs.declared.out_conn.OnTick.{OnTick}
use Rattle.artery_handshake.specs.declared.out_conn.OnTick.TheVariants.{Nothing, AskAgain, GiveUp}
use Rattle.artery_handshake.specs.Outgoing.{answer_to_tick, conn_ticked}
use Rattle.artery_journal.specs.declared.line.Line.TheVariants as lines
use Rattle.artery_journal.specs.declared.words.Cause.TheVariants as causes
use Rattle.artery_journal.specs.declared.words.Reason.TheVariants as reasons
use Rattle.artery_journal.specs.declared.words.Kind.{Kind}
use Rattle.artery_journal.specs.declared.words.Kind.TheVariants.{Refs, Manifests}
use Rattle.artery_tables.specs.declared.table.Table.{Table}
use Rattle.artery_tables.specs.declared.in_tables.Advertised.{Advertised}
use Rattle.artery_tables.specs.declared.in_tables.Advertised.TheVariants as advertising
use Rattle.artery_machine.specs.declared.input.Conn.TheVariants.{Outward, Inward}
use Rattle.artery_machine.specs.declared.input.Input.{Input}
use Rattle.artery_machine.specs.declared.input.Input.TheVariants as inputs
use Rattle.artery_machine.specs.Deeds.{Hangs}
use Rattle.artery_machine.specs.Parts.{whole}
use Rattle.artery_machine.specs.Node.{Node, Peer, Inbound, Origin, is_number, accepted_as, put_inbound, of_kind, incarnation, address_of, current_of, conn_of, link_of, with_link, peer_at, origin_at, inbound_at}
use Rattle.artery_machine.specs.Doing.{Rule, listed, ◌▸◌, stays, where_true, does, becomes, tells_of, hangs_up, peer_becomes, inbound_becomes, origin_becomes, each}
use Rattle.artery_machine.specs.Making.{dials}
use Rattle.artery_machine.specs.Closing.{dial_of, on_control, control_dial, closes_current, drops_ordinary}
use Rattle.artery_machine.specs.Sending.{rewinds, pumps, sends, tells_message}
use Rattle.artery_machine.specs.Watching.{watches_at}
use Rattle.artery_machine.specs.Handshaking.{quiet_now, change_conn, asks_on, gives_up}
use Rattle.artery_machine.specs.Hearing.{hears}
use Rattle.artery_machine.specs.Ticking.{heartbeat_after, is_due_since, advertisement, is_bound, is_lost, is_quiet, asked_at, beaten_at, is_idle, asleep_now, is_settled, unconfirmed_of, with_advertised, advertised_now, is_to_advertise, at_moment, redials, due_as, tends_as, tends, tends_control, tends_ordinary, loses_patience, resends, beats_on, beats, detects_of, detects_as, detects, drops_control, tells_idle, sleeps, ticks_peer, announces, tells_advertised, advertises_as, advertises_settled, advertises, ticks_origin, ticks_peers, ticks_origins, ticks}
use Rattle.artery_machine.specs.Reacting.{most_inbound, stream_rule, with_inbound, without_inbound, with_bytes, accepts, ends_broken, comes_on, comes, quarantined, asked_for, reacts}
use Rattle.artery_flight.proofs.Lists.{on_cond, Each, each_filter}
use Rattle.artery_flight.proofs.Rules.{bytes_in, bytes_at}
use Rattle.artery_written.proofs.Facts.{MessageFacts, ConnFacts, PeerFacts, InboundFacts, OriginFacts, NodeFacts, Work, WorkFacts}
use Rattle.artery_written.proofs.Sizes.{beat_good}
use Rattle.artery_written.proofs.Tables.{advertised_facts, AdvertFacts, advert_facts}
use Rattle.artery_written.proofs.Rules.{Keeps, ◌▹◌, stays_keep, does_keep, tells_keep, hangs_keep, becomes_keep, peer_keep, inbound_keep, origin_keep, if_keeps, where_keeps, each_keeps, peer_facts, origin_facts, conn_facts, changed_keeps, gone_keeps, control_keeps, dials_keep, at_request_keeps}
use Rattle.artery_written.proofs.Sending.{closes_current_keeps, drops_ordinary_keep, pumps_keep, rewinds_keep, sends_keep, tells_message_keeps}
use Rattle.artery_written.proofs.Watching.{watches_keeps, unwatches_keeps, spawns_keep, kills_keep}
use Rattle.artery_written.proofs.Handshaking.{asks_on_keeps, dialed_keeps, lost_keeps, gives_up_keeps, drops_keep, quiet_keeps}
use Rattle.artery_written.proofs.Hearing.{FrameFacts, hears_keep}

-- ---- connections at a moment

redials_keep : (stream : Stream) (a : Address) (may : Bool) → Keeps (redials stream a may)
redials_keep stream a may = record { on = λ d f. (where_keeps (may && nat_le (link_of stream (peer_at a d.node)).redial d.node.moment) (dials stream a) (dials_keep stream a)).on d f }

due_as_keeps : (stream : Stream) (a : Address) (dial : ℕ) (x : OnTick) → IsAddress a → dial < 2 ^ 64 → Keeps (due_as stream a dial x)
due_as_keeps stream a dial Nothing h small = record { on = λ d f. f }
due_as_keeps stream a dial AskAgain h small = record { on = λ d f. (changed_keeps stream a (conn_ticked d.node.moment) (λ c. refl) ▹ asks_on_keeps a dial h small).on d f }
due_as_keeps stream a dial GiveUp h small = record { on = λ d f. (gives_up_keeps stream a).on d f }

tends_as_keeps : (stream : Stream) (a : Address) (may : Bool) (x : Option OutConn) → IsAddress a → ConnFacts x → Keeps (tends_as stream a may x)
tends_as_keeps stream a may None h k = record { on = λ d f. (redials_keep stream a may).on d f }
tends_as_keeps stream a may (Some c) h k = record { on = λ d f. (due_as_keeps stream a c.dial (answer_to_tick d.node.moment c) h k).on d f }

tends_keep : (stream : Stream) (a : Address) (may : Bool) → IsAddress a → Keeps (tends stream a may)
tends_keep stream a may h = record { on = λ d f. (tends_as_keeps stream a may (conn_of stream (peer_at a d.node)) h (conn_facts stream (peer_at a d.node) (peer_facts a d.node h f.node))).on d f }

tends_control_keeps : (a : Address) → IsAddress a → Keeps (tends_control a)
tends_control_keeps a h = record { on = λ d f. (tends_keep streams.Control a (not (peer_at a d.node).asleep) h).on d f }

tends_ordinary_keeps : (a : Address) → IsAddress a → Keeps (tends_ordinary a)
tends_ordinary_keeps a h = record { on = λ d f. (tends_keep streams.Ordinary a (is_bound (peer_at a d.node)) h).on d f }

-- ---- messages and heartbeats

patience_keeps : (a : Address) → IsAddress a → Keeps (loses_patience a)
patience_keeps a h = record {
  on = λ d f. (where_keeps (is_lost d.node.moment (peer_at a d.node)) (closes_current a causes.Undelivered (current_of (peer_at a d.node)) stays)
      (closes_current_keeps a causes.Undelivered (current_of (peer_at a d.node)) stays h (peer_facts a d.node h f.node).current stays_keep)).on d f;
}

resends_keep : (a : Address) → IsAddress a → Keeps (resends a)
resends_keep a h = record {
  on = λ d f. (where_keeps (is_quiet d.node.moment (peer_at a d.node)) (rewinds a ▸ pumps a ▸ peer_becomes a (quiet_now d.node.moment)) (rewinds_keep a ▹ pumps_keep a h ▹ quiet_keeps a d.node.moment)).on d f;
}

beats_on_keep : (v : UniqueAddress) (x : Option ℕ) → Keeps (beats_on v x)
beats_on_keep v None = record { on = λ d f. f }
beats_on_keep v (Some dial) = record {
  on = λ d f. (control_keeps v controls.Heartbeat beat_good
      ▹ peer_keep v.address (beaten_at d.node.moment) (λ p q. record { address = q.address; current = q.current; out = q.out; held = q.held; refs = q.refs; manifests = q.manifests; control = q.control; ordinary = q.ordinary })).on d f;
}

beats_keep : (v : UniqueAddress) → Keeps (beats v)
beats_keep v = record { on = λ d f. (where_keeps (is_due_since heartbeat_after (peer_at v.address d.node).last_beat d.node.moment) (λ e. beats_on v (control_dial v e.node) e) written).on d f }
  where
    written : Keeps (λ e. beats_on v (control_dial v e.node) e)
    written = record { on = λ d f. (beats_on_keep v (control_dial v d.node)).on d f }

detects_of_keeps : (a : Address) (uid : ℕ) → IsAddress a → uid < 2 ^ 64 → Keeps (detects_of a uid)
detects_of_keeps a uid h small = record {
  on = λ d f. (if_keeps (whole.available d.node.moment (peer_at a d.node).beats) (beats (incarnation a uid)) (closes_current a causes.Unreachable (Some uid) stays)
      (beats_keep (incarnation a uid)) (closes_current_keeps a causes.Unreachable (Some uid) stays h small stays_keep)).on d f;
}

detects_as_keep : (a : Address) (x : Option ℕ) → IsAddress a → IsOptional x → Keeps (detects_as a x)
detects_as_keep a None h k = record { on = λ d f. f }
detects_as_keep a (Some uid) h k = record {
  on = λ d f. (peer_keep a (asked_at d.node.moment) (λ p q. record { address = q.address; current = q.current; out = q.out; held = q.held; refs = q.refs; manifests = q.manifests; control = q.control; ordinary = q.ordinary })
      ▹ detects_of_keeps a uid h k).on d f;
}

detects_keep : (a : Address) → IsAddress a → Keeps (detects a)
detects_keep a h = record { on = λ d f. (where_keeps (watches_at a d.node) (detects_as a (current_of (peer_at a d.node))) (detects_as_keep a (current_of (peer_at a d.node)) h (peer_facts a d.node h f.node).current)).on d f }

-- ---- sleep

drops_control_keeps : (a : Address) → Keeps (drops_control a)
drops_control_keeps a = record { on = λ d f. (hangs_keep (dial_of (conn_of streams.Control (peer_at a d.node))) ▹ gone_keeps streams.Control a).on d f }

idle_keeps : (a : Address) (x : Option ℕ) → Keeps (tells_idle a x)
idle_keeps a None = stays_keep
idle_keeps a (Some uid) = tells_keep (λ me. lines.Idle me (incarnation a uid))

sleeps_keep : (a : Address) → Keeps (sleeps a)
sleeps_keep a = record {
  on = λ d f. (where_keeps (is_idle d.node.moment (peer_at a d.node) && not (watches_at a d.node)) (tells_idle a (current_of (peer_at a d.node)) ▸ drops_ordinary a ▸ drops_control a ▸ peer_becomes a asleep_now)
      (idle_keeps a (current_of (peer_at a d.node))
      ▹ drops_ordinary_keep a
      ▹ drops_control_keeps a
      ▹ peer_keep a asleep_now (λ p q. record { address = q.address; current = q.current; out = q.out; held = q.held; refs = q.refs; manifests = q.manifests; control = q.control; ordinary = q.ordinary }))).on d f;
}

ticks_peer_keeps : (a : Address) → IsAddress a → Keeps (ticks_peer a)
ticks_peer_keeps a h = tends_control_keeps a h ▹ tends_ordinary_keeps a h ▹ patience_keeps a h ▹ resends_keep a h ▹ detects_keep a h ▹ sleeps_keep a

-- ---- tables

announces_keep : (v : UniqueAddress) (kind : Kind) (x : Option Table) → IsUniqueAddress v → AdvertFacts x → Keeps (announces v kind x)
announces_keep v kind None h k = record { on = λ d f. f }
announces_keep v kind (Some table) h k = record { on = λ d f. (control_keeps v (advertisement kind d.node.me v table) (k kind d.node.me v f.node.me h)).on d f }

tells_advertised_keeps : (v : UniqueAddress) (kind : Kind) (x : Option Table) → Keeps (tells_advertised v kind x)
tells_advertised_keeps v kind None = stays_keep
tells_advertised_keeps v kind (Some table) = tells_keep (λ me. lines.Advertised me v kind table.number (length table.names))

unconfirmed_facts : (v : UniqueAddress) (kind : Kind) (n : Node whole) → IsUniqueAddress v → NodeFacts n → AdvertFacts (unconfirmed_of v kind n)
unconfirmed_facts v Refs n h f = advert_facts (origin_at v n).tables.refs (origin_facts v n h f).refs
unconfirmed_facts v Manifests n h f = advert_facts (origin_at v n).tables.manifests (origin_facts v n h f).manifests

advertises_as_keeps : (v : UniqueAddress) (kind : Kind) (x : Advertised) → IsUniqueAddress v → Keeps (advertises_as v kind x)
advertises_as_keeps v kind advertising.New h = record { on = λ d f. (tells_advertised_keeps v kind (unconfirmed_of v kind d.node) ▹ announces_keep v kind (unconfirmed_of v kind d.node) h (unconfirmed_facts v kind d.node h f.node)).on d f }
advertises_as_keeps v kind advertising.Again h = record { on = λ d f. (announces_keep v kind (unconfirmed_of v kind d.node) h (unconfirmed_facts v kind d.node h f.node)).on d f }
advertises_as_keeps v kind advertising.Same h = record { on = λ d f. f }
advertises_as_keeps v kind advertising.Spent h = record { on = λ d f. f }
advertises_as_keeps v kind advertising.Unsettled h = record { on = λ d f. f }

advertised_origin : (kind : Kind) (settled : Bool) (o : Origin whole) → OriginFacts o → OriginFacts (with_advertised kind settled o)
advertised_origin Refs settled o q = record { who = q.who; refs = advertised_facts settled o.tables.refs q.refs; manifests = q.manifests }
advertised_origin Manifests settled o q = record { who = q.who; refs = q.refs; manifests = advertised_facts settled o.tables.manifests q.manifests }

settled_keeps : (v : UniqueAddress) (kind : Kind) (settled : Bool) → IsUniqueAddress v → Keeps (advertises_settled v kind settled)
settled_keeps v kind settled h = record { on = λ d f. (origin_keep v (with_advertised kind settled) (advertised_origin kind settled) ▹ advertises_as_keeps v kind (whole.advertising settled (of_kind kind (origin_at v d.node).tables)) h).on d f }

advertises_keep : (v : UniqueAddress) (kind : Kind) → IsUniqueAddress v → Keeps (advertises v kind)
advertises_keep v kind h = record { on = λ d f. (settled_keeps v kind (is_settled v kind d.node) h).on d f }

ticks_origin_keeps : (v : UniqueAddress) → IsUniqueAddress v → Keeps (ticks_origin v)
ticks_origin_keeps v h = record {
  on = λ d f. (where_keeps (is_to_advertise v d.node) (advertises v Refs ▸ advertises v Manifests ▸ origin_becomes v (advertised_now d.node.moment))
      (advertises_keep v Refs h ▹ advertises_keep v Manifests h ▹ origin_keep v (advertised_now d.node.moment) (λ o q. record { who = q.who; refs = q.refs; manifests = q.manifests }))).on d f;
}

-- ---- the tick

addresses : (ps : List (Peer whole)) → Each PeerFacts ps → Each IsAddress (map address_of ps)
addresses [] h = tt
addresses (p ∷ ps) h = (h.0.address, addresses ps h.1)

who_are : (os : List (Origin whole)) → Each OriginFacts os → Each IsUniqueAddress (map (λ o. o.who) os)
who_are [] h = tt
who_are (o ∷ os) h = (h.0.who, who_are os h.1)

ticks_keep : (now : ℕ) → Keeps (ticks now)
ticks_keep now = dated ▹ peers ▹ origins
  where
    dated : Keeps (becomes (at_moment now))
    dated = becomes_keep (at_moment now) (λ n f. record { me = f.me; dials = f.dials; peers = f.peers; inbound = f.inbound; origins = f.origins; taken = f.taken; actors = f.actors })

    peers : Keeps ticks_peers
    peers = record { on = λ d f. (each_keeps IsAddress (map address_of d.node.peers) ticks_peer (addresses d.node.peers f.node.peers) ticks_peer_keeps).on d f }

    origins : Keeps ticks_origins
    origins = record { on = λ d f. (each_keeps IsUniqueAddress (map (λ o. o.who) d.node.origins) ticks_origin (who_are d.node.origins f.node.origins) ticks_origin_keeps).on d f }

-- ---- inbound connections

put_facts : (i : Inbound whole) (is : List (Inbound whole)) → InboundFacts i → Each InboundFacts is → Each InboundFacts (put_inbound i is)
put_facts i [] h k = (h, tt)
put_facts i (j ∷ js) h k = on_cond (Each InboundFacts) (j.number == i.number) (i ∷ js) (cond (nat_lt i.number j.number) (i ∷ j ∷ js) (j ∷ put_inbound i js)) (λ b. (h, k.1))
    (λ b. on_cond (Each InboundFacts) (nat_lt i.number j.number) (i ∷ j ∷ js) (j ∷ put_inbound i js) (λ c. (h, k)) (λ c. (k.0, put_facts i js h k.1)))

accepts_keep : (number : ℕ) → Keeps (accepts number)
accepts_keep number = record {
  on = λ d f. (if_keeps (nat_lt (length d.node.inbound) most_inbound) (becomes (with_inbound number)) (tells_of (λ me. lines.Refused me reasons.Connections) ▸ does (Hangs (Inward number)))
      (becomes_keep (with_inbound number) (λ n q. record { me = q.me; dials = q.dials; peers = q.peers; inbound = put_facts (accepted_as number) n.inbound (record { known = tt; owed = tt }) q.inbound; origins = q.origins; taken = q.taken; actors = q.actors }))
      (tells_keep (λ me. lines.Refused me reasons.Connections) ▹ does_keep (Hangs (Inward number)) tt)).on d f;
}

without_keeps : (number : ℕ) → Keeps (becomes (without_inbound number))
without_keeps number = becomes_keep (without_inbound number)
    (λ n q. record { me = q.me; dials = q.dials; peers = q.peers; inbound = each_filter InboundFacts (λ i. not (is_number number i)) n.inbound q.inbound; origins = q.origins; taken = q.taken; actors = q.actors })

broken_keeps : (number : ℕ) (x : Option FrameFault) → Keeps (ends_broken number x)
broken_keeps number None = stays_keep
broken_keeps number (Some fault) = drops_keep number (stream_rule fault) ▹ does_keep (Hangs (Inward number)) tt ▹ without_keeps number

bytes_keep : (number : ℕ) (bytes : List ℕ) → Keeps (inbound_becomes number (with_bytes bytes))
bytes_keep number bytes = inbound_keep number (with_bytes bytes) (λ i q. record { known = q.known; owed = q.owed })

-- the frames that a piece completes have these facts
abbrev PieceFacts : List ℕ → Option (Inbound whole) → Type 0
PieceFacts piece None = Unit {0}
PieceFacts piece (Some i) = Each FrameFacts (new_frames i.bytes piece)

comes_on_keeps : (number : ℕ) (piece : List ℕ) (x : Option (Inbound whole)) → PieceFacts piece x → Keeps (comes_on number piece x)
comes_on_keeps number piece None k = does_keep (Hangs (Inward number)) tt
comes_on_keeps number piece (Some i) k =
    bytes_keep number whole.nothing_came
    ▹ each_keeps FrameFacts (whole.frames piece i.bytes) (hears number (whole.carries (whole.came piece i.bytes))) k (λ frame g. hears_keep number (whole.carries (whole.came piece i.bytes)) frame g)
    ▹ bytes_keep number (whole.came piece i.bytes)
    ▹ broken_keeps number (whole.fault (whole.came piece i.bytes))

-- ---- what comes to a node

message_facts : (m : SysMsg) → IsMessage m → MessageFacts m
message_facts m h = record { serializer = h.serializer; manifest = h.manifest; payload = (let e : length m.payload ≤ 131072 = h.payload in omega arith); begins = λ b. h.payload }

asked_keeps : (r : Request) → IsRequest r → Keeps (asked_for r)
asked_keeps (requests.Pair a) h = at_request_keeps a stays h stays_keep
asked_keeps (requests.Send a m) h = at_request_keeps a (sends a m) h.0 (sends_keep a m h.0 (message_facts m h.1))
asked_keeps (requests.Tell a m) h = at_request_keeps a (tells_message a m) h.0 (tells_message_keeps a m h.0 h.1)
asked_keeps (requests.Watch path watchee) h = watches_keeps path watchee h.0.1 h.1.1
asked_keeps (requests.Unwatch path watchee) h = unwatches_keeps path watchee h.0.1 h.1.1
asked_keeps (requests.Spawn path) h = spawns_keep path
asked_keeps (requests.Kill path) h = kills_keep path h.1
asked_keeps (requests.Quarantine a) h = record {
  on = λ d f. (closes_current_keeps a causes.Quarantined (current_of (peer_at a d.node)) (tells_of (λ me. lines.Refused me reasons.NotCurrent)) h (peer_facts a d.node h f.node).current (tells_keep (λ me. lines.Refused me reasons.NotCurrent))).on d f;
}

-- A request is one that a line can tell, and a piece completes frames with these facts.
abbrev pub InputFacts : Input → Node whole → Type 0
InputFacts (inputs.Request request) n = IsRequest request
InputFacts (inputs.Accepted number) n = Unit {0}
InputFacts (inputs.Dialed dial) n = Unit {0}
InputFacts (inputs.DialFailed dial) n = Unit {0}
InputFacts (inputs.Bytes number piece) n = (bytes : List ℕ) → bytes_at number n ≡ Some bytes → Each FrameFacts (new_frames bytes piece)
InputFacts (inputs.Ended conn) n = Unit {0}
InputFacts (inputs.Tick now) n = Unit {0}

piece_facts : (number : ℕ) (piece : List ℕ) (n : Node whole) → InputFacts (inputs.Bytes number piece) n → PieceFacts piece (inbound_at number n)
piece_facts number piece n h = by (inbound_at number n) refl
  where
    by : (x : Option (Inbound whole)) → inbound_at number n ≡ x → PieceFacts piece x
    by None e = tt
    by (Some i) e = h i.bytes (ap bytes_in e)

pub reacts_keep : (input : Input) (d : Work) → InputFacts input d.node → WorkFacts d → WorkFacts (reacts input d)
reacts_keep (inputs.Request request) d k f = (asked_keeps request k).on d f
reacts_keep (inputs.Accepted number) d k f = (accepts_keep number).on d f
reacts_keep (inputs.Dialed dial) d k f = (dialed_keeps dial).on d f
reacts_keep (inputs.DialFailed dial) d k f = (lost_keeps dial).on d f
reacts_keep (inputs.Bytes number piece) d k f = (comes_on_keeps number piece (inbound_at number d.node) (piece_facts number piece d.node k)).on d f
reacts_keep (inputs.Ended (Outward dial)) d k f = (lost_keeps dial).on d f
reacts_keep (inputs.Ended (Inward number)) d k f = (without_keeps number).on d f
reacts_keep (inputs.Tick now) d k f = (ticks_keep now).on d f
