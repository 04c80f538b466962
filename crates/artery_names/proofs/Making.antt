-- Making, dialing, writing on control, hanging up and numbered messages say nothing of ordinary messages and tables.
use Rattle.std.proofs.Common.{◌≡◌, ℕ, ◌+◌, Bool, true, false, length, refl}
use Rattle.std.specs.Prelude.{Option, None, Some, nat_lt}
use Rattle.artery_base.specs.declared.address.Address.{Address}
use Rattle.artery_base.specs.declared.address.UniqueAddress.{UniqueAddress}
use Rattle.artery_base.specs.declared.message.SysMsg.{SysMsg}
use Rattle.artery_control.specs.declared.control.Control.{Control}
use Rattle.artery_control.specs.declared.control.Control.TheVariants as controls
use Rattle.artery_frame.specs.declared.stream.Stream.{Stream}
use Rattle.artery_frame.specs.declared.stream.Stream.TheVariants as streams
use Rattle.artery_handshake.specs.declared.out_conn.OutConn.{OutConn}
use Rattle.artery_handshake.specs.declared.out_conn.OutState.{OutState}
use Rattle.artery_handshake.specs.declared.out_conn.OutState.TheVariants.{Dialing, Asked, Bound}
use Rattle.artery_handshake.specs.declared.out_conn.OnTick.{OnTick}
use Rattle.artery_handshake.specs.declared.out_conn.OnTick.TheVariants.{Nothing, AskAgain, GiveUp}
use Rattle.artery_handshake.specs.Outgoing.{state_dialed, conn_dialed, state_after_tick, answer_to_tick, conn_ticked}
use Rattle.artery_journal.specs.declared.line.Line.TheVariants as lines
use Rattle.artery_journal.specs.declared.words.Reason.TheVariants as reasons
use Rattle.artery_machine.specs.declared.link.Link.{Link}
use Rattle.artery_machine.specs.Deeds.{Controls, Dials}
use Rattle.artery_machine.specs.Parts.{whole}
use Rattle.artery_machine.specs.Node.{Peer, has_peer, peer_at, conn_of, with_link, current_of, incarnation}
use Rattle.artery_machine.specs.Doing.{Rule, ◌▸◌, stays, becomes, tells_of, peer_becomes, times}
use Rattle.artery_machine.specs.Making.{link_dialing, link_gone, link_lost, used_now, one_more_dial, dials_as, dials, last_dial, with_peer_at, makes_missing, may_have, wakes, uses, at_request, loses}
use Rattle.artery_machine.specs.Closing.{dial_of, control_dial, on_control, on_control_to, quarantines, drops_ordinary}
use Rattle.artery_machine.specs.Sending.{with_out, keeps_nothing, begins_waiting, pumps_next, pumps_one, pumps, rewinds, tells_sent}
use Rattle.artery_machine.specs.Handshaking.{change_conn, gives_up}
use Rattle.artery_machine.specs.Ticking.{drops_control}
use Rattle.artery_names.proofs.Lists.{on_cond}
use Rattle.artery_names.proofs.Facts.{bound_in, bound_as}
use Rattle.artery_names.proofs.Plain.{Less, Gone, Same}
use Rattle.artery_names.proofs.Outside.{outward}
use Rattle.artery_names.proofs.Rules.{Plain, ◌▹◌, SamePeer, same_peer, kept_plain, stays_plain, deed_plain, tells_plain, writes_plain, hangs_plain, becomes_plain, peer_plain, if_plain, times_plain}
use Rattle.artery_names.proofs.Keeping.{Keeps, ◌▻◌, plain_keeps, if_keeps}
use Rattle.artery_names.proofs.Peers.{made_node}
use Rattle.artery_names.proofs.Silence.{silent, is_plain, plain}

-- ---- links

-- A change of a connection that binds nothing.
abbrev pub IsLess : (Link → Link) → Type 0
IsLess f = (l : Link) → Less (bound_in l.conn) (bound_in (f l).conn)

pub link_same : (stream : Stream) (f : Link → Link) → IsLess f → (p : Peer whole) → SamePeer p (with_link stream f p)
link_same streams.Control f h p = record { known = refl; tables = refl; control = h p.control; ordinary = Same refl }
link_same streams.Ordinary f h p = record { known = refl; tables = refl; control = Same refl; ordinary = h p.ordinary }

abbrev IsLessConn : (OutConn → OutConn) → Type 0
IsLessConn g = (c : OutConn) → Less (bound_as c.dial c.state) (bound_as (g c).dial (g c).state)

changed_less : (g : OutConn → OutConn) → IsLessConn g → IsLess (change_conn g)
changed_less g h l = by l.conn
  where
    by : (x : Option OutConn) → Less (bound_in x) (bound_in (change_conn g (record l { conn = x })).conn)
    by None = Same refl
    by (Some c) = h c

pub dialed_less : (now : ℕ) → IsLess (change_conn (conn_dialed now))
dialed_less now = changed_less (conn_dialed now) (λ c. by c.dial c.state)
  where
    by : (d : ℕ) (s : OutState) → Less (bound_as d s) (bound_as d (state_dialed now s))
    by d Dialing = Same refl
    by d (Asked begun last) = Same refl
    by d (Bound uid) = Same refl

pub ticked_less : (now : ℕ) → IsLess (change_conn (conn_ticked now))
ticked_less now = changed_less (conn_ticked now) (λ c. by (answer_to_tick now c) c.dial c.state)
  where
    by : (x : OnTick) (d : ℕ) (s : OutState) → Less (bound_as d s) (bound_as d (state_after_tick x now s))
    by Nothing d s = Same refl
    by AskAgain d Dialing = Same refl
    by AskAgain d (Asked begun last) = Same refl
    by AskAgain d (Bound uid) = Same refl
    by GiveUp d s = Same refl

waiting_same : (now : ℕ) (p : Peer whole) → SamePeer p (begins_waiting now p)
waiting_same now p = on_cond (SamePeer p) (keeps_nothing p) (record p { quiet = now; patience = now }) p (λ e. record { known = refl; tables = refl; control = Same refl; ordinary = Same refl }) (λ e. same_peer p)

module _ {u m : ℕ} where
  pub link_plain : (stream : Stream) (a : Address) (f : Link → Link) → IsLess f → Plain u m (peer_becomes a (with_link stream f))
  link_plain stream a f h = peer_plain a (with_link stream f) (link_same stream f h)

  -- a change of a peer that leaves who is known, its tables and its connections
  pub other_plain : (a : Address) (g : Peer whole → Peer whole) → ((p : Peer whole) → SamePeer p (g p)) → Plain u m (peer_becomes a g)
  other_plain a g s = peer_plain a g s

  -- ---- dials

  dials_as_plain : (stream : Stream) (a : Address) (dial : ℕ) → Plain u m (dials_as stream a dial)
  dials_as_plain stream a dial =
      kept_plain one_more_dial (λ n. record { me = refl; peers = refl; inbound = refl; origins = refl })
      ▹ link_plain stream a (link_dialing stream dial) (λ l. Gone refl)
      ▹ deed_plain (Dials dial a) tt

  pub dials_plain : (stream : Stream) (a : Address) → Plain u m (dials stream a)
  dials_plain stream a = record { on = λ d. (if_plain (nat_lt d.node.dials last_dial) (dials_as stream a (d.node.dials + 1)) stays (dials_as_plain stream a (d.node.dials + 1)) stays_plain).on d }

  pub makes_missing_plain : (a : Address) → Plain u m (makes_missing a)
  makes_missing_plain a = record { on = λ d. (if_plain (has_peer a d.node) stays (becomes (with_peer_at a) ▸ dials streams.Control a) stays_plain (becomes_plain (with_peer_at a) (made_node a) ▹ dials_plain streams.Control a)).on d }

  pub wakes_plain : (b : Bool) (a : Address) → Plain u m (wakes b a)
  wakes_plain true a = dials_plain streams.Control a
  wakes_plain false a = stays_plain

  pub uses_plain : (a : Address) → Plain u m (uses a)
  uses_plain a = record { on = λ d. (other_plain a (used_now d.node.moment) (λ p. record { known = refl; tables = refl; control = Same refl; ordinary = Same refl }) ▹ wakes_plain (peer_at a d.node).asleep a).on d }

  pub loses_plain : (stream : Stream) (a : Address) → Plain u m (loses stream a)
  loses_plain stream a = record { on = λ d. (lost d.node.moment).on d }
    where
      lost : (now : ℕ) → Plain u m (peer_becomes a (with_link stream (link_lost now)))
      lost now = link_plain stream a (link_lost now) (λ l. Gone refl)

  pub gives_up_plain : (stream : Stream) (a : Address) → Plain u m (gives_up stream a)
  gives_up_plain stream a = record { on = λ d. (hangs_plain (dial_of (conn_of stream (peer_at a d.node))) ▹ loses_plain stream a).on d }

  -- ---- on control

  pub control_plain : (v : UniqueAddress) (c : Control) → is_plain c ≡ true → Plain u m (on_control v c)
  control_plain v c p = record { on = λ d. (writes_plain (control_dial v d.node) (Controls c) (plain c p)).on d }

  pub to_plain : (a : Address) (uid : Option ℕ) (c : Control) → is_plain c ≡ true → Plain u m (on_control_to a uid c)
  to_plain a None c p = stays_plain
  to_plain a (Some uid) c p = control_plain (incarnation a uid) c p

  pub quarantines_plain : (v : UniqueAddress) → Plain u m (quarantines v)
  quarantines_plain v = record { on = λ d. (control_plain v (controls.Quarantined d.node.me v) refl).on d }

  pub drops_ordinary_plain : (a : Address) → Plain u m (drops_ordinary a)
  drops_ordinary_plain a = record { on = λ d. (hangs_plain (dial_of (conn_of streams.Ordinary (peer_at a d.node))) ▹ link_plain streams.Ordinary a link_gone (λ l. Gone refl)).on d }

  pub drops_control_plain : (a : Address) → Plain u m (drops_control a)
  drops_control_plain a = record { on = λ d. (hangs_plain (dial_of (conn_of streams.Control (peer_at a d.node))) ▹ link_plain streams.Control a link_gone (λ l. Gone refl)).on d }

  -- ---- numbered messages

  pub out_plain : (a : Address) (f : whole.Out → whole.Out) → Plain u m (peer_becomes a (with_out f))
  out_plain a f = other_plain a (with_out f) (λ p. record { known = refl; tables = refl; control = Same refl; ordinary = Same refl })

  pub waiting_plain : (a : Address) (now : ℕ) → Plain u m (peer_becomes a (begins_waiting now))
  waiting_plain a now = other_plain a (begins_waiting now) (waiting_same now)

  pumps_next_plain : (a : Address) (x : Option (ℕ × SysMsg)) → Plain u m (pumps_next a x)
  pumps_next_plain a None = record { on = λ d. stays_plain.on d }
  pumps_next_plain a (Some x) = record { on = λ d. (out_plain a whole.pumped ▹ to_plain a (current_of (peer_at a d.node)) (controls.Numbered x.0 x.1 d.node.me) refl).on d }

  pumps_one_plain : (a : Address) → Plain u m (pumps_one a)
  pumps_one_plain a = record { on = λ d. (pumps_next_plain a (whole.next (peer_at a d.node).out)).on d }

  pub pumps_plain : (a : Address) → Plain u m (pumps a)
  pumps_plain a = record { on = λ d. (all_pumped (length (whole.unacknowledged (peer_at a d.node).out))).on d }
    where
      all_pumped : (k : ℕ) → Plain u m (times k (pumps_one a))
      all_pumped k = times_plain k (pumps_one a) (pumps_one_plain a)

  pub rewinds_plain : (a : Address) → Plain u m (rewinds a)
  rewinds_plain a = out_plain a whole.rewound

  pub tells_sent_plain : (a : Address) (uid : Option ℕ) (n : ℕ) (x : SysMsg) → Plain u m (tells_sent a uid n x)
  tells_sent_plain a None n x = stays_plain
  tells_sent_plain a (Some uid) n x = tells_plain (λ me. lines.Sent me (incarnation a uid) n x) (λ me. silent (lines.Sent me (incarnation a uid) n x) refl)

module _ {nobody : UniqueAddress} {u m : ℕ} {given : ℕ → ℕ} where
  pub at_request_keeps : (a : Address) (r : Rule whole (outward u m)) → Keeps nobody u m given r → Keeps nobody u m given (at_request a r)
  at_request_keeps a r k = record {
    on = λ d g. (if_keeps (may_have a d.node) (makes_missing a ▸ uses a ▸ r) (tells_of (λ me. lines.Refused me reasons.Peers))
        (plain_keeps (makes_missing a) (makes_missing_plain a) ▻ plain_keeps (uses a) (uses_plain a) ▻ k)
        (plain_keeps _ (tells_plain (λ me. lines.Refused me reasons.Peers) (λ me. silent (lines.Refused me reasons.Peers) refl)))).on d g;
  }
