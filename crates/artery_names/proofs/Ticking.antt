-- What is due at a moment keeps the facts: connections, messages, heartbeats, sleep, and tables.
use Rattle.std.proofs.Common.{◌≡◌, ℕ, suc, ◌+◌, ◌≤◌, Bool, true, false, ◌&&◌, cond, List, [], ◌∷◌, length, refl, sym, ◌∙◌, ap, subst, arith, map}
use Rattle.std.specs.Prelude.{Option, None, Some, nat_le, not, slice_get}
use Rattle.std.specs.List.{find}
use Rattle.std.specs.Option.{option_map}
use Rattle.artery_base.specs.declared.address.Address.{Address}
use Rattle.artery_base.specs.declared.address.UniqueAddress.{UniqueAddress}
use Rattle.artery_assoc.specs.Peer.{PeerState}
use Rattle.artery_control.specs.declared.control.Control.TheVariants as controls
use Rattle.artery_frame.specs.declared.stream.Stream.{Stream}
use Rattle.artery_frame.specs.declared.stream.Stream.TheVariants as streams
use Rattle.artery_handshake.specs.declared.out_conn.OutConn.{OutConn}
use Rattle.artery_handshake.specs.declared.out_conn.OnTick.{OnTick}
use Rattle.artery_handshake.specs.declared.out_conn.OnTick.TheVariants.{Nothing, AskAgain, GiveUp}
use Rattle.artery_handshake.specs.Outgoing.{answer_to_tick, conn_ticked}
use Rattle.artery_journal.specs.declared.line.Line.{Line}
use Rattle.artery_journal.specs.declared.line.Line.TheVariants as lines
use Rattle.artery_journal.specs.declared.words.Cause.TheVariants as causes
use Rattle.artery_journal.specs.declared.words.Kind.{Kind}
use Rattle.artery_journal.specs.declared.words.Kind.TheVariants.{Refs, Manifests}
use Rattle.artery_tables.specs.declared.in_tables.Advertised.{Advertised}
use Rattle.artery_tables.specs.declared.in_tables.Advertised.TheVariants as advertising
use Rattle.artery_tables.specs.declared.table.Table.{Table}
use Rattle.artery_tables.specs.Story.{Story, table_of, numbered}
use Rattle.artery_tables.specs.InTables.{announced_in}
use Rattle.artery_machine.specs.Deeds.{Writing, Controls}
use Rattle.artery_machine.specs.Parts.{whole}
use Rattle.artery_machine.specs.Connections.{is_dialed, is_inward}
use Rattle.artery_machine.specs.Node.{Node, Inbound, Origin, of_kind, incarnation, is_number, peer_at, address_of, current_of, conn_of, link_of, origin_at}
use Rattle.artery_machine.specs.Doing.{◌▸◌, stays, where_true, becomes, writes_on, peer_becomes, origin_becomes, each}
use Rattle.artery_machine.specs.Making.{dials}
use Rattle.artery_machine.specs.Closing.{control_dial, closes_current, drops_ordinary}
use Rattle.artery_machine.specs.Sending.{rewinds, pumps}
use Rattle.artery_machine.specs.Watching.{watches_at}
use Rattle.artery_machine.specs.Handshaking.{change_conn, quiet_now}
use Rattle.artery_machine.specs.Hearing.{table_number, sequence_of}
use Rattle.artery_machine.specs.Ticking.{numbers_from, advertisement, is_ordinary, is_due_since, heartbeat_after, is_settled, is_bound, is_lost, is_quiet, is_idle, asked_at, beaten_at, asleep_now, unconfirmed_of, with_advertised, advertised_now, is_to_advertise, at_moment, redials, due_as, tends_as, tends, tends_control, tends_ordinary, loses_patience, resends, beats_on, beats, detects_of, detects_as, detects, drops_control, tells_idle, sleeps, ticks_peer, announces, tells_advertised, advertises_as, advertises, ticks_origin, ticks_peers, ticks_origins, ticks}
use Rattle.artery_names.proofs.Lists.{some_same, not_some, Or, First, Second}
use Rattle.artery_names.proofs.Said.{carried}
use Rattle.artery_names.proofs.Talks.{name_by}
use Rattle.artery_names.proofs.Facts.{Conn, journal, IsFramed, story_of, Heard, stories_of, Good}
use Rattle.artery_names.proofs.Growing.{Grown, Along, carried_more, inward_same}
use Rattle.artery_names.proofs.Plain.{Same}
use Rattle.artery_names.proofs.Rules.{Work, Plain, ◌▹◌, kept_plain, stays_plain, where_plain, origin_plain}
use Rattle.artery_names.proofs.Later.{Later, along_grown}
use Rattle.artery_names.proofs.Keeping.{nowhere, Kept, kept_self, plain_keeps, Keeps, ◌▻◌, stays_keep, each_keeps}
use Rattle.artery_names.proofs.Making.{link_plain, ticked_less, dials_plain, gives_up_plain, control_plain, other_plain, drops_ordinary_plain, drops_control_plain, pumps_plain, rewinds_plain}
use Rattle.artery_names.proofs.Sending.{line_plain}
use Rattle.artery_names.proofs.Closing.{closes_kept, closes_current_kept}
use Rattle.artery_names.proofs.Asking.{asks_on_keeps}
use Rattle.artery_names.proofs.Writes.{May, write_kept}
use Rattle.artery_names.proofs.Settling.{CarriesOrdinary, advertised_good}
use Rattle.artery_names.proofs.Premises.{kept_then}
use Rattle.artery_names.proofs.Adopting.{number_told, bound_ends}

-- ---- peers

module _ {u m : ℕ} where
  redials_plain : (stream : Stream) (a : Address) (may : Bool) → Plain u m (redials stream a may)
  redials_plain stream a may = record { on = λ d. (where_plain (may && nat_le (link_of stream (peer_at a d.node)).redial d.node.moment) (dials stream a) (dials_plain stream a)).on d }

  resends_plain : (a : Address) → Plain u m (resends a)
  resends_plain a = record {
    on = λ d. (where_plain (is_quiet d.node.moment (peer_at a d.node)) (rewinds a ▸ pumps a ▸ peer_becomes a (quiet_now d.node.moment))
        (rewinds_plain a ▹ pumps_plain a ▹ other_plain a (quiet_now d.node.moment) (λ p. record { known = refl; tables = refl; control = Same refl; ordinary = Same refl }))).on d;
  }

  beats_on_plain : (v : UniqueAddress) (x : Option ℕ) → Plain u m (beats_on v x)
  beats_on_plain v None = record { on = λ d. stays_plain.on d }
  beats_on_plain v (Some dial) = record { on = λ d. (control_plain v controls.Heartbeat refl ▹ other_plain v.address (beaten_at d.node.moment) (λ p. record { known = refl; tables = refl; control = Same refl; ordinary = Same refl })).on d }

  beats_now_plain : (v : UniqueAddress) → Plain u m (λ e. beats_on v (control_dial v e.node) e)
  beats_now_plain v = record { on = λ e. (beats_on_plain v (control_dial v e.node)).on e }

  beats_plain : (v : UniqueAddress) → Plain u m (beats v)
  beats_plain v = record { on = λ d. (where_plain (is_due_since heartbeat_after (peer_at v.address d.node).last_beat d.node.moment) (λ e. beats_on v (control_dial v e.node) e) (beats_now_plain v)).on d }

  idle_plain : (a : Address) (x : Option ℕ) → Plain u m (tells_idle a x)
  idle_plain a None = stays_plain
  idle_plain a (Some uid) = line_plain (λ me. lines.Idle me (incarnation a uid)) (λ me. refl)

  sleeps_plain : (a : Address) → Plain u m (sleeps a)
  sleeps_plain a = record {
    on = λ d. (where_plain (is_idle d.node.moment (peer_at a d.node) && not (watches_at a d.node)) (tells_idle a (current_of (peer_at a d.node)) ▸ drops_ordinary a ▸ drops_control a ▸ peer_becomes a asleep_now)
        (idle_plain a (current_of (peer_at a d.node)) ▹ drops_ordinary_plain a ▹ drops_control_plain a ▹ other_plain a asleep_now (λ p. record { known = refl; tables = refl; control = Same refl; ordinary = Same refl }))).on d;
  }

module _ {nobody : UniqueAddress} {u m : ℕ} {given : ℕ → ℕ} where
  due_keeps : (stream : Stream) (a : Address) (dial : ℕ) (x : OnTick) → Keeps nobody u m given (due_as stream a dial x)
  due_keeps stream a dial Nothing = record { on = λ d g. kept_self nobody u given nowhere d.node d.deeds g }
  due_keeps stream a dial AskAgain = record { on = λ d g. (plain_keeps _ (link_plain stream a (change_conn (conn_ticked d.node.moment)) (ticked_less d.node.moment)) ▻ asks_on_keeps a dial).on d g }
  due_keeps stream a dial GiveUp = record { on = λ d g. (plain_keeps _ (gives_up_plain stream a)).on d g }

  tends_as_keeps : (stream : Stream) (a : Address) (may : Bool) (x : Option OutConn) → Keeps nobody u m given (tends_as stream a may x)
  tends_as_keeps stream a may None = record { on = λ d g. (plain_keeps _ (redials_plain stream a may)).on d g }
  tends_as_keeps stream a may (Some c) = record { on = λ d g. (due_keeps stream a c.dial (answer_to_tick d.node.moment c)).on d g }

  tends_keep : (stream : Stream) (a : Address) (may : Bool) → Keeps nobody u m given (tends stream a may)
  tends_keep stream a may = record { on = λ d g. (tends_as_keeps stream a may (conn_of stream (peer_at a d.node))).on d g }

  control_keeps : (a : Address) → Keeps nobody u m given (tends_control a)
  control_keeps a = record { on = λ d g. (tends_keep streams.Control a (not (peer_at a d.node).asleep)).on d g }

  ordinary_keeps : (a : Address) → Keeps nobody u m given (tends_ordinary a)
  ordinary_keeps a = record { on = λ d g. (tends_keep streams.Ordinary a (is_bound (peer_at a d.node))).on d g }

  patience_keeps : (a : Address) → Keeps nobody u m given (loses_patience a)
  patience_keeps a = record { on = λ d g. by d g (is_lost d.node.moment (peer_at a d.node)) }
    where
      by : (d : Work u m) → Good nobody u given nowhere d.node d.deeds → (b : Bool)
          → Kept nobody u given nowhere d.deeds (where_true b (closes_current a causes.Undelivered (current_of (peer_at a d.node)) stays) d).node (where_true b (closes_current a causes.Undelivered (current_of (peer_at a d.node)) stays) d).deeds
      by d g true = closes_current_kept a causes.Undelivered stays stays_keep d g
      by d g false = kept_self nobody u given nowhere d.node d.deeds g

  detects_of_kept : (a : Address) (uid : ℕ) (d : Work u m) → current_of (peer_at a d.node) ≡ Some uid → Good nobody u given nowhere d.node d.deeds
      → Kept nobody u given nowhere d.deeds (detects_of a uid d).node (detects_of a uid d).deeds
  detects_of_kept a uid d c g = by (whole.available d.node.moment (peer_at a d.node).beats)
    where
      by : (b : Bool) → Kept nobody u given nowhere d.deeds (cond b (beats (incarnation a uid)) (closes_current a causes.Unreachable (Some uid) stays) d).node (cond b (beats (incarnation a uid)) (closes_current a causes.Unreachable (Some uid) stays) d).deeds
      by true = (plain_keeps _ (beats_plain (incarnation a uid))).on d g
      by false = closes_kept a causes.Unreachable uid d c g

  detects_as_kept : (a : Address) (x : Option ℕ) (d : Work u m) → current_of (peer_at a d.node) ≡ x → Good nobody u given nowhere d.node d.deeds
      → Kept nobody u given nowhere d.deeds (detects_as a x d).node (detects_as a x d).deeds
  detects_as_kept a None d c g = kept_self nobody u given nowhere d.node d.deeds g
  detects_as_kept a (Some uid) d c g =
      kept_then nobody u given nowhere d.deeds d1.deeds (detects_of a uid d1).deeds d1.node (detects_of a uid d1).node ((plain_keeps (peer_becomes a (asked_at d.node.moment)) asked).on d g)
      (detects_of_kept a uid d1 (ap (λ (i : PeerState). i.current) ((asked.on d).node.known a) ∙ c) ((plain_keeps (peer_becomes a (asked_at d.node.moment)) asked).on d g).good)
    where
      asked : Plain u m (peer_becomes a (asked_at d.node.moment))
      asked = other_plain a (asked_at d.node.moment) (λ p. record { known = refl; tables = refl; control = Same refl; ordinary = Same refl })

      d1 : Work u m
      d1 = peer_becomes a (asked_at d.node.moment) d

  detects_keep : (a : Address) → Keeps nobody u m given (detects a)
  detects_keep a = record { on = λ d g. by d g (watches_at a d.node) }
    where
      by : (d : Work u m) → Good nobody u given nowhere d.node d.deeds → (b : Bool) → Kept nobody u given nowhere d.deeds (where_true b (detects_as a (current_of (peer_at a d.node))) d).node (where_true b (detects_as a (current_of (peer_at a d.node))) d).deeds
      by d g true = detects_as_kept a (current_of (peer_at a d.node)) d refl g
      by d g false = kept_self nobody u given nowhere d.node d.deeds g

  peer_keeps : (a : Address) → Keeps nobody u m given (ticks_peer a)
  peer_keeps a = control_keeps a ▻ ordinary_keeps a ▻ patience_keeps a ▻ plain_keeps _ (resends_plain a) ▻ detects_keep a ▻ plain_keeps _ (sleeps_plain a)

  peers_keep : Keeps nobody u m given ticks_peers
  peers_keep = record { on = λ d g. (each_keeps (map address_of d.node.peers) ticks_peer peer_keeps).on d g }

-- ---- tables

-- Each inbound connection on which something was given carries what its preamble says.
pub record Carrying (u : ℕ) (given : ℕ → ℕ) (is : List (Inbound whole)) (cs : List Conn) : Type 0 where
  pub at : (x : ℕ) (i : Inbound whole) → find (is_number x) is ≡ Some i → 1 ≤ given x → (place : ℕ) (c : Conn) → slice_get cs place ≡ Some c → is_inward u x c ≡ true
      → Or (carried c.way.all ≡ Some streams.Control) (is_ordinary (whole.carries i.bytes) ≡ true)

pub carrying_grows : (u : ℕ) (given : ℕ → ℕ) (is : List (Inbound whole)) (cs ds : List Conn) → Along Grown cs ds → Carrying u given is cs → Carrying u given is ds
carrying_grows u given is cs ds l h = record { at = λ x i f some place c e t. (let b = l.back place c e in by i b.was c b.so (h.at x i f some place b.was b.is (sym (inward_same u x b.was c b.so) ∙ t))) }
  where
    by : (i : Inbound whole) (c d : Conn) → Grown c d → Or (carried c.way.all ≡ Some streams.Control) (is_ordinary (whole.carries i.bytes) ≡ true) → Or (carried d.way.all ≡ Some streams.Control) (is_ordinary (whole.carries i.bytes) ≡ true)
    by i c d g (First e) = First (carried_more c.way.all d.way.all streams.Control g.more e)
    by i c d g (Second e) = Second e

carries_ordinary : (nobody : UniqueAddress) (u : ℕ) (given : ℕ → ℕ) (n : Node whole) (cs : List Conn) (ls : List Line) → n.me.uid ≡ u → Carrying u given n.inbound cs → CarriesOrdinary nobody given n cs ls
carries_ordinary nobody u given n cs ls is_u h = λ x i at known y apart. by y i apart (h.at x i at (y.facts.begun known) y.place y.conn y.is (subst (λ (z : ℕ). is_inward z x y.conn ≡ true) is_u y.inward))
  where
    by : {x : ℕ} {j : Inbound whole} (y : Heard nobody n.me (given x) (stories_of n) cs ls x j) (i : Inbound whole) → (carried y.conn.way.all ≡ Some streams.Control → ⊥) → Or (carried y.conn.way.all ≡ Some streams.Control) (is_ordinary (whole.carries i.bytes) ≡ true) → is_ordinary (whole.carries i.bytes) ≡ true
    by y i apart (First e) = absurd (apart e)
    by y i apart (Second e) = e

-- the table that is announced stands in the story
announced_framed : (s : Story) (kind : Kind) (table : Table) → announced_in s ≡ Some table → IsFramed s (record { kind = kind; number = table_number table.version (sequence_of table.number); keys = table.names; values = numbers_from 0 (length table.names) })
announced_framed s kind table h = by (slice_get s.tables s.confirmed) refl (sym (ap (numbered s) next) ∙ h)
  where
    next : s.confirmed + 1 ≡ suc s.confirmed
    next = omega arith

    Framed : Table → Type 0
    Framed t = IsFramed s (record { kind = kind; number = table_number t.version (sequence_of t.number); keys = t.names; values = numbers_from 0 (length t.names) })

    by : (x : Option (List (List ℕ))) → slice_get s.tables s.confirmed ≡ x → option_map (table_of (suc s.confirmed)) x ≡ Some table → Framed table
    by None e k = not_some k
    by (Some keys) e k = subst Framed (some_same k) (record { before = s.confirmed; number = number_told (suc s.confirmed) ∙ sym next; names = e; places = refl })

advertised_may : (nobody : UniqueAddress) (u k : ℕ) (v me : UniqueAddress) (table : Table) (n : Node whole) (cs : List Conn) (ls : List Line) (kind : Kind) → announced_in (story_of kind v n) ≡ Some table
    → ((i : ℕ) (c : Conn) → slice_get cs i ≡ Some c → is_dialed u k c ≡ true → name_by nobody c.far ls ≡ v) → May nobody u k (Controls (advertisement kind me v table)) n cs ls
advertised_may nobody u k v me table n cs ls Refs e f = record {
  sends = refl;
  tables = λ i c at t. (subst (λ (x : UniqueAddress). IsFramed (story_of Refs x n) (record { kind = Refs; number = table_number table.version (sequence_of table.number); keys = table.names; values = numbers_from 0 (length table.names) })) (sym (f i c at t)) (announced_framed (story_of Refs v n) Refs table e), tt);
  acks = λ i c at t. tt;
  answers = tt;
  speakers = tt;
}
advertised_may nobody u k v me table n cs ls Manifests e f = record {
  sends = refl;
  tables = λ i c at t. (subst (λ (x : UniqueAddress). IsFramed (story_of Manifests x n) (record { kind = Manifests; number = table_number table.version (sequence_of table.number); keys = table.names; values = numbers_from 0 (length table.names) })) (sym (f i c at t)) (announced_framed (story_of Manifests v n) Manifests table e), tt);
  acks = λ i c at t. tt;
  answers = tt;
  speakers = tt;
}

module _ {u m : ℕ} where
  -- the node stays where something is only written or told
  writes_same : (x : Option ℕ) (y : Writing) (d : Work u m) → (writes_on x y d).node ≡ d.node
  writes_same None y d = refl
  writes_same (Some dial) y d = refl

  announces_same : (v : UniqueAddress) (kind : Kind) (x : Option Table) (d : Work u m) → (announces v kind x d).node ≡ d.node
  announces_same v kind None d = refl
  announces_same v kind (Some table) d = writes_same (control_dial v d.node) (Controls (advertisement kind d.node.me v table)) d

  told_same : (v : UniqueAddress) (kind : Kind) (x : Option Table) (d : Work u m) → (tells_advertised v kind x d).node ≡ d.node
  told_same v kind None d = refl
  told_same v kind (Some table) d = refl

  as_same : (v : UniqueAddress) (kind : Kind) (x : Advertised) (d : Work u m) → (advertises_as v kind x d).node ≡ d.node
  as_same v kind advertising.New d = announces_same v kind (unconfirmed_of v kind d.node) (tells_advertised v kind (unconfirmed_of v kind d.node) d) ∙ told_same v kind (unconfirmed_of v kind d.node) d
  as_same v kind advertising.Again d = announces_same v kind (unconfirmed_of v kind d.node) d
  as_same v kind advertising.Same d = refl
  as_same v kind advertising.Spent d = refl
  as_same v kind advertising.Unsettled d = refl

  advertises_inbound : (v : UniqueAddress) (kind : Kind) (d : Work u m) → (advertises v kind d).node.inbound ≡ d.node.inbound
  advertises_inbound v kind d = ap (λ (n : Node whole). n.inbound) (as_same v kind (whole.advertising (is_settled v kind d.node) (of_kind kind (origin_at v d.node).tables)) (origin_becomes v (with_advertised kind (is_settled v kind d.node)) d))

  origin_inbound : (v : UniqueAddress) (d : Work u m) → (ticks_origin v d).node.inbound ≡ d.node.inbound
  origin_inbound v d = by (is_to_advertise v d.node)
    where
      by : (b : Bool) → (where_true b (advertises v Refs ▸ advertises v Manifests ▸ origin_becomes v (advertised_now d.node.moment)) d).node.inbound ≡ d.node.inbound
      by true = advertises_inbound v Manifests (advertises v Refs d) ∙ advertises_inbound v Refs d
      by false = refl

  origins_inbound : (vs : List UniqueAddress) (d : Work u m) → (each vs ticks_origin d).node.inbound ≡ d.node.inbound
  origins_inbound [] d = refl
  origins_inbound (v ∷ vs) d = origins_inbound vs (ticks_origin v d) ∙ origin_inbound v d

  advertised_plain : (v : UniqueAddress) (kind : Kind) (x : Option Table) → Plain u m (tells_advertised v kind x)
  advertised_plain v kind None = stays_plain
  advertised_plain v kind (Some table) = line_plain (λ me. lines.Advertised me v kind table.number (length table.names)) (λ me. refl)

module _ {nobody : UniqueAddress} {u m : ℕ} {given : ℕ → ℕ} where
  announces_kept : (v : UniqueAddress) (kind : Kind) (x : Option Table) (d : Work u m) → announced_in (story_of kind v d.node) ≡ x → Good nobody u given nowhere d.node d.deeds
      → Kept nobody u given nowhere d.deeds (announces v kind x d).node (announces v kind x d).deeds
  announces_kept v kind None d e g = kept_self nobody u given nowhere d.node d.deeds g
  announces_kept v kind (Some table) d e g = write_kept (control_dial v d.node) (Controls (advertisement kind d.node.me v table)) d
      (λ k s live out h. advertised_may nobody u k v d.node.me table d.node d.deeds.connections (journal d.deeds) kind e
      (λ i c at t. (bound_ends nobody u k v given d.node d.deeds.connections (journal d.deeds) h s i c at t).1)) g

  as_kept : (v : UniqueAddress) (kind : Kind) (x : Advertised) (d : Work u m) → Good nobody u given nowhere d.node d.deeds → Kept nobody u given nowhere d.deeds (advertises_as v kind x d).node (advertises_as v kind x d).deeds
  as_kept v kind advertising.New d g =
      let d1 : Work u m = tells_advertised v kind (unconfirmed_of v kind d.node) d in
      let k : Kept nobody u given nowhere d.deeds d1.node d1.deeds = (plain_keeps _ (advertised_plain v kind (unconfirmed_of v kind d.node))).on d g in
      kept_then nobody u given nowhere d.deeds d1.deeds (announces v kind (unconfirmed_of v kind d.node) d1).deeds d1.node (announces v kind (unconfirmed_of v kind d.node) d1).node k
      (announces_kept v kind (unconfirmed_of v kind d.node) d1 (ap (λ (n : Node whole). announced_in (story_of kind v n)) (told_same v kind (unconfirmed_of v kind d.node) d)) k.good)
  as_kept v kind advertising.Again d g = announces_kept v kind (unconfirmed_of v kind d.node) d refl g
  as_kept v kind advertising.Same d g = kept_self nobody u given nowhere d.node d.deeds g
  as_kept v kind advertising.Spent d g = kept_self nobody u given nowhere d.node d.deeds g
  as_kept v kind advertising.Unsettled d g = kept_self nobody u given nowhere d.node d.deeds g

  advertises_kept : (v : UniqueAddress) (kind : Kind) (d : Work u m) → (d.deeds.ended ≡ None → Carrying u given d.node.inbound d.deeds.connections) → Good nobody u given nowhere d.node d.deeds
      → Kept nobody u given nowhere d.deeds (advertises v kind d).node (advertises v kind d).deeds
  advertises_kept v kind d c g =
      as_kept v kind (whole.advertising (is_settled v kind d.node) (of_kind kind (origin_at v d.node).tables)) (origin_becomes v (with_advertised kind (is_settled v kind d.node)) d)
      (advertised_good nobody u given v kind d.node d.deeds (λ live. carries_ordinary nobody u given d.node d.deeds.connections (journal d.deeds) (g.node live).uid (c live)) g)

  carrying_then : (d e : Work u m) → e.node.inbound ≡ d.node.inbound → Later nobody u d.deeds e.deeds → (d.deeds.ended ≡ None → Carrying u given d.node.inbound d.deeds.connections) → e.deeds.ended ≡ None → Carrying u given e.node.inbound e.deeds.connections
  carrying_then d e same l c live = subst (λ is. Carrying u given is e.deeds.connections) (sym same) (carrying_grows u given d.node.inbound d.deeds.connections e.deeds.connections (along_grown u d.deeds.connections e.deeds.connections l.conns) (c (l.going live)))

  origin_kept : (v : UniqueAddress) (d : Work u m) → (d.deeds.ended ≡ None → Carrying u given d.node.inbound d.deeds.connections) → Good nobody u given nowhere d.node d.deeds
      → Kept nobody u given nowhere d.deeds (ticks_origin v d).node (ticks_origin v d).deeds
  origin_kept v d c g = by (is_to_advertise v d.node)
    where
      d1 : Work u m
      d1 = advertises v Refs d

      k1 : Kept nobody u given nowhere d.deeds d1.node d1.deeds
      k1 = advertises_kept v Refs d c g

      d2 : Work u m
      d2 = advertises v Manifests d1

      k2 : Kept nobody u given nowhere d1.deeds d2.node d2.deeds
      k2 = advertises_kept v Manifests d1 (carrying_then d d1 (advertises_inbound v Refs d) k1.later c) k1.good

      d3 : Work u m
      d3 = origin_becomes v (advertised_now d.node.moment) d2

      k3 : Kept nobody u given nowhere d2.deeds d3.node d3.deeds
      k3 = (plain_keeps (origin_becomes v (advertised_now d.node.moment)) (origin_plain v (advertised_now d.node.moment) (λ o. record { who = refl; stories = λ kind. refl }))).on d2 k2.good

      by : (b : Bool) → Kept nobody u given nowhere d.deeds (where_true b (advertises v Refs ▸ advertises v Manifests ▸ origin_becomes v (advertised_now d.node.moment)) d).node (where_true b (advertises v Refs ▸ advertises v Manifests ▸ origin_becomes v (advertised_now d.node.moment)) d).deeds
      by true = kept_then nobody u given nowhere d.deeds d1.deeds d3.deeds d1.node d3.node k1 (kept_then nobody u given nowhere d1.deeds d2.deeds d3.deeds d2.node d3.node k2 k3)
      by false = kept_self nobody u given nowhere d.node d.deeds g

  origins_kept : (vs : List UniqueAddress) (d : Work u m) → (d.deeds.ended ≡ None → Carrying u given d.node.inbound d.deeds.connections) → Good nobody u given nowhere d.node d.deeds
      → Kept nobody u given nowhere d.deeds (each vs ticks_origin d).node (each vs ticks_origin d).deeds
  origins_kept [] d c g = kept_self nobody u given nowhere d.node d.deeds g
  origins_kept (v ∷ vs) d c g =
      let d1 : Work u m = ticks_origin v d in
      let k : Kept nobody u given nowhere d.deeds d1.node d1.deeds = origin_kept v d c g in
      kept_then nobody u given nowhere d.deeds d1.deeds (each vs ticks_origin d1).deeds d1.node (each vs ticks_origin d1).node k (origins_kept vs d1 (carrying_then d d1 (origin_inbound v d) k.later c) k.good)

  -- ---- the tick

  pub ticks_kept : (now : ℕ) (d : Work u m) → (d.deeds.ended ≡ None → Carrying u given (ticks now d).node.inbound d.deeds.connections) → Good nobody u given nowhere d.node d.deeds
      → Kept nobody u given nowhere d.deeds (ticks now d).node (ticks now d).deeds
  ticks_kept now d c g = kept_then nobody u given nowhere d.deeds d1.deeds (ticks_origins d1).deeds d1.node (ticks_origins d1).node k
      (origins_kept vs d1 (λ live. subst (λ is. Carrying u given is d1.deeds.connections) (origins_inbound vs d1)
      (carrying_grows u given (ticks now d).node.inbound d.deeds.connections d1.deeds.connections (along_grown u d.deeds.connections d1.deeds.connections k.later.conns) (c (k.later.going live)))) k.good)
    where
      d1 : Work u m
      d1 = (becomes (at_moment now) ▸ ticks_peers) d

      vs : List UniqueAddress
      vs = map (λ (o : Origin whole). o.who) ((becomes (at_moment now) ▸ ticks_peers) d).node.origins

      k : Kept nobody u given nowhere d.deeds ((becomes (at_moment now) ▸ ticks_peers) d).node ((becomes (at_moment now) ▸ ticks_peers) d).deeds
      k = (plain_keeps (becomes (at_moment now)) (kept_plain (at_moment now) (λ n. record { me = refl; peers = refl; inbound = refl; origins = refl })) ▻ peers_keep).on d g
