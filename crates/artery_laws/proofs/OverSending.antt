-- The rules of making, closing and sending are the same under maps of parts.
use Rattle.std.proofs.Common.{◌≡◌, ℕ, ◌+◌, Bool, true, false, cond, List, refl, ap, ◌∙◌}
use Rattle.std.specs.Prelude.{nat_lt, ◌==◌, Option, Some, None, length}
use Rattle.artery_base.specs.declared.address.Address.{Address}
use Rattle.artery_base.specs.declared.address.UniqueAddress.{UniqueAddress}
use Rattle.artery_base.specs.declared.message.SysMsg.{SysMsg}
use Rattle.artery_control.specs.declared.control.Control.{Control}
use Rattle.artery_control.specs.declared.control.Control.TheVariants as controls
use Rattle.artery_delivery.specs.declared.outbound.Accept.{Accept}
use Rattle.artery_delivery.specs.declared.outbound.Accept.TheVariants.{Accepted, Waiting, Overflow}
use Rattle.artery_frame.specs.declared.stream.Stream.{Stream}
use Rattle.artery_frame.specs.declared.stream.Stream.TheVariants as streams
use Rattle.artery_journal.specs.declared.line.Line.TheVariants as lines
use Rattle.artery_journal.specs.declared.words.Reason.TheVariants as reasons
use Rattle.artery_journal.specs.declared.words.Cause.{Cause}
use Rattle.artery_journal.specs.declared.words.Cause.TheVariants as causes
use Rattle.artery_watch.specs.Watcher.{Kept as Watching, ids_at, kept_closed, kept_forgotten}
use Rattle.artery_journal.specs.declared.line.Line.{Line}
use Rattle.artery_machine.specs.Deeds.{Deed, Writing, Dials, Controls}
use Rattle.artery_machine.specs.Parts.{Parts}
use Rattle.artery_machine.specs.declared.link.Link.{Link}
use Rattle.artery_machine.specs.Node.{of_each, Peer, Node, peer_at, has_peer, conn_of, with_link, current_of, incarnation}
use Rattle.artery_machine.specs.Doing.{Sink, Rule, ◌▸◌, stays, does, becomes, tells_of, writes_on, hangs_up, peer_becomes, each, times}
use Rattle.artery_machine.specs.Making.{link_dialing, link_gone, link_lost, one_more_dial, dials_as, dials, last_dial, with_peer_at, makes_missing, may_have, used_now, wakes, uses, at_request, loses}
use Rattle.artery_machine.specs.Closing.{dial_of, is_told, control_dial, without_detector, with_closed, with_new_tables, on_control, on_control_to, quarantines, drops_ordinary, terminates_at, closes, closes_current}
use Rattle.artery_machine.specs.Sending.{with_out, keeps_nothing, pumps_next, pumps_one, pumps, rewinds, tells_sent, begins_waiting, sent_as, sends_now, sends}
use Rattle.artery_laws.proofs.Over.{Over, SinkOver, peer_over, node_over, has_peer_over, peer_at_over, new_peer_over, push_over, length_over, seen, IsOver, ◌▹◌, stays_over, does_over, becomes_over, if_over, times_over, each_over, tells_of_over, writes_on_over, hangs_up_over, peer_becomes_over, at_peer_over}

module _ {P Q : Parts} (h : Over P Q) {E F : Sink} (s : SinkOver E F) where
  abbrev pub Alike : Rule P E → Rule Q F → Type 0
  Alike = IsOver h s

  -- The small rules, for these maps.
  pub stays_here : Alike stays stays
  stays_here = stays_over

  pub does_here : (deed : Deed) → Alike (does deed) (does deed)
  does_here deed = does_over deed

  pub tells_here : (line : UniqueAddress → Line) → Alike (tells_of line) (tells_of line)
  tells_here line = tells_of_over line

  pub writes_here : (dial : Option ℕ) (w : Writing) → Alike (writes_on dial w) (writes_on dial w)
  writes_here dial w = writes_on_over dial w

  pub hangs_here : (dial : Option ℕ) → Alike (hangs_up dial) (hangs_up dial)
  hangs_here dial = hangs_up_over dial

  -- What is known of watches is the same, so it changes alike.
  pub watching_here : (g : Watching → Watching) → Alike (becomes (λ n. record n { watching = g n.watching })) (becomes (λ n. record n { watching = g n.watching }))
  watching_here g = becomes_over (λ n. record n { watching = g n.watching }) (λ n. record n { watching = g n.watching }) (λ n. refl)

  pub link_over : (stream : Stream) (g : Link → Link) (p : Peer P) → with_link stream g (peer_over h p) ≡ peer_over h (with_link stream g p)
  link_over streams.Control g p = refl
  link_over streams.Ordinary g p = refl

  pub conn_over : (stream : Stream) (p : Peer P) → conn_of stream (peer_over h p) ≡ conn_of stream p
  conn_over streams.Control p = refl
  conn_over streams.Ordinary p = refl

  pub links_over : (stream : Stream) (a : Address) (g : Link → Link) → Alike (peer_becomes a (with_link stream g)) (peer_becomes a (with_link stream g))
  links_over stream a g = peer_becomes_over a _ _ (link_over stream g)

  -- ---- making

  pub dials_as_over : (stream : Stream) (a : Address) (x : ℕ) → Alike (dials_as stream a x) (dials_as stream a x)
  dials_as_over stream a x = becomes_over one_more_dial one_more_dial (λ n. refl) ▹ links_over stream a (link_dialing stream x) ▹ does_over (Dials x a)

  pub dials_over : (stream : Stream) (a : Address) → Alike (dials stream a) (dials stream a)
  dials_over stream a = record { on = λ d. (if_over (nat_lt d.node.dials last_dial) _ _ _ _ (dials_as_over stream a (d.node.dials + 1)) stays_over).on d }

  pub makes_missing_over : (a : Address) → Alike (makes_missing a) (makes_missing a)
  makes_missing_over a = record {
    on = λ d. ap (λ b. cond b stays (becomes (with_peer_at a) ▸ dials streams.Control a) (seen h s d)) (has_peer_over h a d.node)
        ∙ (if_over (has_peer a d.node) _ _ _ _ stays_over
        (becomes_over (with_peer_at a) (with_peer_at a) (λ n. ap (λ ps. record (node_over h n) { peers = ps }) (push_over (peer_over h) n.peers _ _ (new_peer_over h a))) ▹ dials_over streams.Control a)).on d;
  }

  pub may_have_over : (a : Address) (n : Node P) → may_have a (node_over h n) ≡ may_have a n
  may_have_over a n = rw (has_peer_over h a n, length_over (peer_over h) n.peers) refl

  pub wakes_over : (b : Bool) (a : Address) → Alike (wakes b a) (wakes b a)
  wakes_over true a = dials_over streams.Control a
  wakes_over false a = stays_over

  pub uses_over : (a : Address) → Alike (uses a) (uses a)
  uses_over a = record {
    on = λ d. ap (λ (p : Peer Q). (peer_becomes a (used_now d.node.moment) ▸ wakes p.asleep a) (seen h s d)) (peer_at_over h a d.node)
        ∙ (peer_becomes_over a (used_now d.node.moment) (used_now d.node.moment) (λ p. refl) ▹ wakes_over (peer_at a d.node).asleep a).on d;
  }

  pub at_request_over : (a : Address) (r : Rule P E) (q : Rule Q F) → Alike r q → Alike (at_request a r) (at_request a q)
  at_request_over a r q e = record {
    on = λ d. ap (λ b. cond b (makes_missing a ▸ uses a ▸ q) (tells_of (λ me. lines.Refused me reasons.Peers)) (seen h s d)) (may_have_over a d.node)
        ∙ (if_over (may_have a d.node) _ _ _ _ (makes_missing_over a ▹ uses_over a ▹ e) (tells_of_over _)).on d;
  }

  pub loses_over : (stream : Stream) (a : Address) → Alike (loses stream a) (loses stream a)
  loses_over stream a = record { on = λ d. (links_over stream a (link_lost d.node.moment)).on d }

  -- ---- closing

  pub control_dial_over : (v : UniqueAddress) (n : Node P) → control_dial v (node_over h n) ≡ control_dial v n
  control_dial_over v n = rw (peer_at_over h v.address n) refl

  pub on_control_over : (v : UniqueAddress) (c : Control) → Alike (on_control v c) (on_control v c)
  on_control_over v c = record { on = λ d. ap (λ x. writes_on x (Controls c) (seen h s d)) (control_dial_over v d.node) ∙ (writes_here (control_dial v d.node) (Controls c)).on d }

  pub on_control_to_over : (a : Address) (uid : Option ℕ) (c : Control) → Alike (on_control_to a uid c) (on_control_to a uid c)
  on_control_to_over a None c = stays_over
  on_control_to_over a (Some uid) c = on_control_over (incarnation a uid) c

  pub quarantines_over : (v : UniqueAddress) → Alike (quarantines v) (quarantines v)
  quarantines_over v = record { on = λ d. (on_control_over v (controls.Quarantined d.node.me v)).on d }

  pub drops_ordinary_over : (a : Address) → Alike (drops_ordinary a) (drops_ordinary a)
  drops_ordinary_over a = at_peer_over a
      (λ p. hangs_up (dial_of (conn_of streams.Ordinary p)) ▸ peer_becomes a (with_link streams.Ordinary link_gone))
      (λ p. hangs_up (dial_of (conn_of streams.Ordinary p)) ▸ peer_becomes a (with_link streams.Ordinary link_gone))
      (λ p. hangs_here (dial_of (conn_of streams.Ordinary p)) ▹ links_over streams.Ordinary a link_gone)

  pub terminates_at_over : (a : Address) → Alike (terminates_at a) (terminates_at a)
  terminates_at_over a = record {
    on = λ d. (terminated_over (ids_at a d.node.watching.watches.list) ▹ watching_here (kept_closed a)).on d;
  }
    where
      terminated_over : (ids : List ℕ) → Alike (each ids (λ id. tells_of (λ me. lines.Terminated me id))) (each ids (λ id. tells_of (λ me. lines.Terminated me id)))
      terminated_over ids = each_over ids (λ id. tells_of (λ me. lines.Terminated me id)) (λ id. tells_of (λ me. lines.Terminated me id)) (λ id. tells_of_over (λ me. lines.Terminated me id))

  pub closes_over : (a : Address) (c : Cause) (uid : ℕ) → Alike (closes a c uid) (closes a c uid)
  closes_over a c uid =
      tells_of_over _
      ▹ peer_becomes_over a (with_closed uid) (with_closed uid) (λ p. ap (λ (o : Q.Out). record (peer_over h (with_closed uid p)) { out = o }) h.forgotten)
      ▹ if_over (is_told c) _ _ _ _ (quarantines_over (incarnation a uid)) stays_over
      ▹ drops_ordinary_over a
      ▹ watching_here (kept_forgotten (incarnation a uid))
      ▹ terminates_at_over a
      ▹ peer_becomes_over a without_detector without_detector (λ p. ap (λ (b : Q.Beats). record (peer_over h (without_detector p)) { beats = b }) h.no_beats)
      ▹ peer_becomes_over a with_new_tables with_new_tables (λ p. ap (λ (t : Q.Adopted). record (peer_over h p) { tables = of_each t }) h.nothing_adopted)

  pub closes_current_over : (a : Address) (c : Cause) (uid : Option ℕ) (r : Rule P E) (q : Rule Q F) → Alike r q → Alike (closes_current a c uid r) (closes_current a c uid q)
  closes_current_over a c None r q e = e
  closes_current_over a c (Some uid) r q e = closes_over a c uid

  -- ---- sending

  pub outs_over : (a : Address) (g : P.Out → P.Out) (k : Q.Out → Q.Out) → ((o : P.Out) → k (h.out o) ≡ h.out (g o)) → Alike (peer_becomes a (with_out g)) (peer_becomes a (with_out k))
  outs_over a g k e = peer_becomes_over a (with_out g) (with_out k) (λ p. ap (λ o. record (peer_over h p) { out = o }) (e p.out))

  pub keeps_nothing_over : (p : Peer P) → keeps_nothing (peer_over h p) ≡ keeps_nothing p
  keeps_nothing_over p = ap (λ (ms : List SysMsg). length ms == 0) (h.unacknowledged p.out)

  pub pumps_next_over : (a : Address) (x : Option (ℕ × SysMsg)) → Alike (pumps_next a x) (pumps_next a x)
  pumps_next_over a None = stays_over
  pumps_next_over a (Some x) = record {
    on = λ d. ap (λ (p : Peer Q). (peer_becomes a (with_out Q.pumped) ▸ on_control_to a (current_of p) (controls.Numbered x.0 x.1 d.node.me)) (seen h s d)) (peer_at_over h a d.node)
        ∙ (outs_over a P.pumped Q.pumped h.pumped ▹ on_control_to_over a (current_of (peer_at a d.node)) _).on d;
  }

  pub pumps_one_over : (a : Address) → Alike (pumps_one a) (pumps_one a)
  pumps_one_over a = record {
    on = λ d. ap (λ (p : Peer Q). pumps_next a (Q.next p.out) (seen h s d)) (peer_at_over h a d.node)
        ∙ ap (λ x. pumps_next a x (seen h s d)) (h.next (peer_at a d.node).out)
        ∙ (pumps_next_over a (P.next (peer_at a d.node).out)).on d;
  }

  pub pumps_over : (a : Address) → Alike (pumps a) (pumps a)
  pumps_over a = record {
    on = λ d. ap (λ (p : Peer Q). times (length (Q.unacknowledged p.out)) (pumps_one a) (seen h s d)) (peer_at_over h a d.node)
        ∙ ap (λ (ms : List SysMsg). times (length ms) (pumps_one a) (seen h s d)) (h.unacknowledged (peer_at a d.node).out)
        ∙ (times_over (length (P.unacknowledged (peer_at a d.node).out)) _ _ (pumps_one_over a)).on d;
  }

  pub rewinds_over : (a : Address) → Alike (rewinds a) (rewinds a)
  rewinds_over a = outs_over a P.rewound Q.rewound h.rewound

  pub tells_sent_over : (a : Address) (uid : Option ℕ) (n : ℕ) (m : SysMsg) → Alike (tells_sent a uid n m) (tells_sent a uid n m)
  tells_sent_over a None n m = stays_over
  tells_sent_over a (Some uid) n m = tells_of_over _

  pub begins_waiting_over : (now : ℕ) (p : Peer P) → begins_waiting now (peer_over h p) ≡ peer_over h (begins_waiting now p)
  begins_waiting_over now p = ap (λ b. cond b (record (peer_over h p) { quiet = now; patience = now }) (peer_over h p)) (keeps_nothing_over p) ∙ by (keeps_nothing p)
    where
      by : (b : Bool) → cond b (record (peer_over h p) { quiet = now; patience = now }) (peer_over h p) ≡ peer_over h (cond b (record p { quiet = now; patience = now }) p)
      by true = refl
      by false = refl

  pub sent_as_over : (a : Address) (m : SysMsg) (x : Accept) → Alike (sent_as a m x) (sent_as a m x)
  sent_as_over a m (Accepted n) = record {
    on = λ d. ap (λ (p : Peer Q). (peer_becomes a (begins_waiting d.node.moment) ▸ peer_becomes a (with_out (Q.accepted m)) ▸ tells_sent a (current_of p) n m ▸ pumps a) (seen h s d)) (peer_at_over h a d.node)
        ∙ (peer_becomes_over a _ _ (begins_waiting_over d.node.moment) ▹ outs_over a (P.accepted m) (Q.accepted m) (h.accepted m) ▹ tells_sent_over a (current_of (peer_at a d.node)) n m ▹ pumps_over a).on d;
  }
  sent_as_over a m (Waiting place) = record { on = λ d. (outs_over a (P.accepted m) (Q.accepted m) (h.accepted m)).on d }
  sent_as_over a m (Overflow back) = record {
    on = λ d. ap (λ (p : Peer Q). closes_current a causes.Overflow (current_of p) (tells_of (λ me. lines.Refused me reasons.Waiting)) (seen h s d)) (peer_at_over h a d.node)
        ∙ (closes_current_over a causes.Overflow (current_of (peer_at a d.node)) _ _ (tells_of_over _)).on d;
  }

  pub sends_now_over : (a : Address) (m : SysMsg) → Alike (sends_now a m) (sends_now a m)
  sends_now_over a m = record {
    on = λ d. ap (λ (p : Peer Q). sent_as a m (Q.acceptance m p.out) (seen h s d)) (peer_at_over h a d.node)
        ∙ ap (λ x. sent_as a m x (seen h s d)) (h.acceptance m (peer_at a d.node).out)
        ∙ (sent_as_over a m (P.acceptance m (peer_at a d.node).out)).on d;
  }

  pub sends_over : (a : Address) (m : SysMsg) → Alike (sends a m) (sends a m)
  sends_over a m = uses_over a ▹ sends_now_over a m
