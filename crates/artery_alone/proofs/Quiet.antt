-- Rules after which all that the laws of one node rest on is the same: they tell only lines that no law reads.
use Rattle.std.proofs.Common.{◌≡◌, ℕ, zero, suc, ◌+◌, Bool, true, false, cond, List, [], ◌∷◌, ◌++◌, length, map, refl, ap, ◌∙◌, subst}
use Rattle.std.specs.Prelude.{nat_lt, nat_le, ◌&&◌, ◌==◌, not, is_some, Option, Some, None}
use Rattle.std.specs.List.{find}
use Rattle.artery_base.specs.declared.address.Address.{Address}
use Rattle.artery_base.specs.declared.address.UniqueAddress.{UniqueAddress}
use Rattle.artery_base.specs.declared.message.SysMsg.{SysMsg}
use Rattle.artery_base.specs.declared.message.Tell.{Tell}
use Rattle.artery_assoc.specs.Peer.{PeerState}
use Rattle.artery_control.specs.declared.control.Control.{Control}
use Rattle.artery_control.specs.declared.control.Control.TheVariants as controls
use Rattle.artery_delivery.specs.declared.outbound.Acked.{Acked}
use Rattle.artery_delivery.specs.declared.outbound.Acked.TheVariants.{Cleared, Past}
use Rattle.artery_frame.specs.declared.stream.Stream.{Stream}
use Rattle.artery_frame.specs.declared.stream.Stream.TheVariants as streams
use Rattle.artery_handshake.specs.declared.in_conn.InState.{InState}
use Rattle.artery_handshake.specs.declared.in_conn.InState.TheVariants.{Raw, Known as KnownTo}
use Rattle.artery_handshake.specs.declared.out_conn.OutConn.{OutConn}
use Rattle.artery_handshake.specs.declared.out_conn.OnTick.{OnTick}
use Rattle.artery_handshake.specs.declared.out_conn.OnTick.TheVariants.{Nothing, AskAgain, GiveUp}
use Rattle.artery_handshake.specs.Outgoing.{answer_to_tick, conn_ticked, conn_dialed}
use Rattle.artery_header.specs.Envelope.{EnvelopeOf, NameOf, Literal, Index}
use Rattle.artery_journal.specs.declared.line.Line.{Line}
use Rattle.artery_journal.specs.declared.line.Line.TheVariants as lines
use Rattle.artery_journal.specs.declared.rule.Rule.{Rule as DropRule}
use Rattle.artery_journal.specs.declared.rule.Rule.TheVariants as rules
use Rattle.artery_journal.specs.declared.words.Kind.{Kind}
use Rattle.artery_journal.specs.declared.words.Kind.TheVariants.{Refs, Manifests}
use Rattle.artery_journal.specs.declared.words.Reason.{Reason}
use Rattle.artery_journal.specs.declared.words.Reason.TheVariants as reasons
use Rattle.artery_tables.specs.declared.table.Table.{Table}
use Rattle.artery_tables.specs.declared.in_tables.Advertised.{Advertised}
use Rattle.artery_tables.specs.declared.in_tables.Advertised.TheVariants as advertising
use Rattle.artery_tables.specs.declared.in_tables.Confirmed.{Confirmed}
use Rattle.artery_tables.specs.declared.in_tables.Confirmed.TheVariants as confirming
use Rattle.artery_tables.specs.declared.out_table.Adopted.{Adopted as Adopting}
use Rattle.artery_tables.specs.declared.out_table.Adopted.TheVariants as adopting
use Rattle.artery_watch.specs.declared.answers.Spawn.{Spawn}
use Rattle.artery_watch.specs.declared.answers.Spawn.TheVariants.{Spawned, Exists, Full as ActorsFull}
use Rattle.artery_watch.specs.Keys.{remote_of}
use Rattle.artery_watch.specs.Watcher.{Kept as Watching, spawning, kept_spawned, kept_remote_unwatched}
use Rattle.artery_watch.specs.declared.notice.Notice.{Notice}
use Rattle.artery_machine.specs.Lists.{or_else, change_first}
use Rattle.artery_machine.specs.Deeds.{Writing, Dials, Begins, Controls, Hangs}
use Rattle.artery_machine.specs.declared.input.Conn.TheVariants.{Inward}
use Rattle.artery_machine.specs.Parts.{Parts}
use Rattle.artery_machine.specs.declared.link.Answer.{Answer}
use Rattle.artery_machine.specs.declared.link.Link.{Link}
use Rattle.artery_machine.specs.Node.{Node, Peer, new_peer, Inbound, Origin, of_kind, same_address, same_unique, is_peer, is_number, is_origin, has_peer, peer_at, peer_dialed, origin_at, conn_of, link_of, with_link, current_of, stream_dialed, address_of, incarnation, speaker_in, dial_asked}
use Rattle.artery_machine.specs.Doing.{Doing, Rule, ◌▸◌, stays, where_true, does, becomes, tells_of, writes_on, hangs_up, peer_becomes, inbound_becomes, origin_becomes, each, times}
use Rattle.artery_machine.specs.Making.{link_gone, link_lost, dials_as, dials, last_dial, with_peer_at, makes_missing, used_now, wakes, uses, loses}
use Rattle.artery_machine.specs.Closing.{dial_of, control_dial, without_detector, on_control, on_control_to, quarantines, drops_ordinary}
use Rattle.artery_machine.specs.Sending.{with_out, pumps_next, pumps_one, pumps, rewinds, holds, with_held, most_held}
use Rattle.artery_machine.specs.Watching.{watches_at, after_last_watch, spawns_as, spawns, is_unwatched}
use Rattle.artery_machine.specs.Verdict.{Content}
use Rattle.artery_machine.specs.Handshaking.{response, change_conn, waits_for_dial, quiet_now, owes_no_answer, answer_to, owing, owes_no_ack, asks_on, writes_answer, answers_owed, answers_all, answers_after, begins, dialed_of, dialed, lost_of, lost, gives_up, answers_on, answers, drops, writes_owed_ack, dials_ordinary, goes_on, strays, strays_unless}
use Rattle.artery_machine.specs.Hearing.{owes_ack, table_ack, is_told_closed, heard_back, is_now, with_adopted, with_confirmed, with_counted, heard_at, acknowledges_on, acknowledges, acked_as, of_current, acked, nacked, acknowledges_table, adopts_as, adopts, tabled, confirms_as, confirms, hears_beat, beats_back, noticed, counts_names, drops_closed}
use Rattle.artery_machine.specs.Ticking.{heartbeat_after, is_due_since, advertisement, is_bound, is_quiet as is_still, beaten_at, is_idle, asleep_now, is_settled, unconfirmed_of, with_advertised, advertised_now, is_to_advertise, redials, due_as, tends_as, tends, tends_control, tends_ordinary, resends, beats_on, beats, drops_control, tells_idle, sleeps, announces, tells_advertised, advertises_as, advertises_settled, advertises, ticks_origin, ticks_origins}
use Rattle.artery_judge.specs.Lines.{of}
use Rattle.artery_alone.proofs.Journals.{noting, Quietly, quiet_none, quiet_both, is_quiet, quiet_line}

-- Which incarnations a peer knows: the current one, and those that are closed.
pub record Known : Type 0 where
  pub current : Option ℕ
  pub closed : List ℕ

abbrev pub known_of : PeerState → Known
known_of p = record { current = p.current; closed = p.closed }

abbrev pub known_in : {P : Parts} → Address → List (Peer P) → Known
known_in a ps = known_of (or_else (new_peer a) (find (is_peer a) ps)).incarnations

abbrev pub known_at : {P : Parts} → Address → Node P → Known
known_at a n = known_in a n.peers

-- The origins of a node, and who speaks on its inbound connections.
abbrev pub whos : {P : Parts} → List (Origin P) → List UniqueAddress
whos os = map (λ o. o.who) os

abbrev pub speakers : {P : Parts} → List (Inbound P) → List (Option UniqueAddress)
speakers is = map (λ i. speaker_in i.state) is

-- All that the laws rest on is the same.
pub record Same {P : Parts} {m : ℕ} (d e : Doing P (noting m)) : Type 0 where
  pub me : e.node.me ≡ d.node.me
  pub moment : e.node.moment ≡ d.node.moment
  pub known : (a : Address) → known_at a e.node ≡ known_at a d.node
  pub watches : e.node.watching.watches ≡ d.node.watching.watches
  pub taken : e.node.taken ≡ d.node.taken
  pub origins : whos e.node.origins ≡ whos d.node.origins
  pub speakers : speakers e.node.inbound ≡ speakers d.node.inbound
  pub lines : Quietly d.node.me m d.deeds e.deeds

pub record Quiet {P : Parts} {m : ℕ} (r : Rule P (noting m)) : Type 0 where
  pub on : (d : Doing P (noting m)) → Same d (r d)

infixr 35 ◌▹◌
pub ◌▹◌ : {P : Parts} {m : ℕ} {r t : Rule P (noting m)} → Quiet r → Quiet t → Quiet (r ▸ t)
◌▹◌ {P} {m} {r} {t} a b = record {
  on = λ d. let x : Same d (r d) = a.on d in let y : Same (r d) (t (r d)) = b.on (r d) in record {
    me = y.me ∙ x.me;
    moment = y.moment ∙ x.moment;
    known = λ a. y.known a ∙ x.known a;
    watches = y.watches ∙ x.watches;
    taken = y.taken ∙ x.taken;
    origins = y.origins ∙ x.origins;
    speakers = y.speakers ∙ x.speakers;
    lines = quiet_both d.node.me m d.deeds (r d).deeds (t (r d)).deeds x.lines (subst (λ w. Quietly w m (r d).deeds (t (r d)).deeds) x.me y.lines);
  };
}

-- ---- lists

module _ {P : Parts} where
  known_kept : (a b : Address) (g : Peer P → Peer P) → ((p : Peer P) → (g p).incarnations ≡ p.incarnations) → (ps : List (Peer P)) → known_in a (change_first (is_peer b) g ps) ≡ known_in a ps
  known_kept a b g e [] = refl
  known_kept a b g e (p ∷ ps) = by (is_peer b p) (known_kept a b g e ps)
    where
      changed : (c : Bool) → known_of (or_else (new_peer a) (cond c (Some (g p)) (find (is_peer a) ps))).incarnations ≡ known_of (or_else (new_peer a) (cond c (Some p) (find (is_peer a) ps))).incarnations
      changed true = ap known_of (e p)
      changed false = refl

      later : (c : Bool) → known_in a (change_first (is_peer b) g ps) ≡ known_in a ps
          → known_of (or_else (new_peer a) (cond c (Some p) (find (is_peer a) (change_first (is_peer b) g ps)))).incarnations ≡ known_of (or_else (new_peer a) (cond c (Some p) (find (is_peer a) ps))).incarnations
      later true rest = refl
      later false rest = rest

      by : (c : Bool) → known_in a (change_first (is_peer b) g ps) ≡ known_in a ps → known_in a (cond c (g p ∷ ps) (p ∷ change_first (is_peer b) g ps)) ≡ known_in a (p ∷ ps)
      by true rest = ap (λ (i : PeerState). known_of (or_else (new_peer a) (cond (same_address i.address a) (Some (g p)) (find (is_peer a) ps))).incarnations) (e p) ∙ changed (is_peer a p)
      by false rest = later (is_peer a p) rest

  known_more : (a b : Address) (ps : List (Peer P)) → known_in a (ps ++ new_peer b ∷ []) ≡ known_in a ps
  known_more a b [] = by (same_address b a)
    where
      by : (c : Bool) → known_of (or_else (new_peer {P = P} a) (cond c (Some (new_peer b)) None)).incarnations ≡ known_of (new_peer {P = P} a).incarnations
      by true = refl
      by false = refl
  known_more a b (p ∷ ps) = by (is_peer a p) (known_more a b ps)
    where
      by : (c : Bool) → known_in a (ps ++ new_peer b ∷ []) ≡ known_in a ps
          → known_of (or_else (new_peer a) (cond c (Some p) (find (is_peer a) (ps ++ new_peer b ∷ [])))).incarnations ≡ known_of (or_else (new_peer a) (cond c (Some p) (find (is_peer a) ps))).incarnations
      by true rest = refl
      by false rest = rest

  speakers_kept : (k : ℕ) (g : Inbound P → Inbound P) → ((i : Inbound P) → (g i).state ≡ i.state) → (is : List (Inbound P)) → speakers (change_first (is_number k) g is) ≡ speakers is
  speakers_kept k g e [] = refl
  speakers_kept k g e (i ∷ is) = by (is_number k i) (speakers_kept k g e is)
    where
      by : (c : Bool) → speakers (change_first (is_number k) g is) ≡ speakers is → speakers (cond c (g i ∷ is) (i ∷ change_first (is_number k) g is)) ≡ speakers (i ∷ is)
      by true rest = ap (λ s. speaker_in s ∷ speakers is) (e i)
      by false rest = ap (λ s. speaker_in i.state ∷ s) rest

  whos_kept : (v : UniqueAddress) (g : Origin P → Origin P) → ((o : Origin P) → (g o).who ≡ o.who) → (os : List (Origin P)) → whos (change_first (is_origin v) g os) ≡ whos os
  whos_kept v g e [] = refl
  whos_kept v g e (o ∷ os) = by (is_origin v o) (whos_kept v g e os)
    where
      by : (c : Bool) → whos (change_first (is_origin v) g os) ≡ whos os → whos (cond c (g o ∷ os) (o ∷ change_first (is_origin v) g os)) ≡ whos (o ∷ os)
      by true rest = ap (λ w. w ∷ whos os) (e o)
      by false rest = ap (λ w. o.who ∷ w) rest

  link_kept : (stream : Stream) (g : Link → Link) (p : Peer P) → (with_link stream g p).incarnations ≡ p.incarnations
  link_kept streams.Control g p = refl
  link_kept streams.Ordinary g p = refl

  counted_kept : (kind : Kind) (name : NameOf) (o : Origin P) → (with_counted kind name o).who ≡ o.who
  counted_kept kind (Index i) o = refl
  counted_kept kind (Literal []) o = refl
  counted_kept kind (Literal (b ∷ bs)) o = refl

-- ---- small rules

module _ {P : Parts} {m : ℕ} where
  pub stays_quiet : Quiet {P = P} {m = m} stays
  stays_quiet = record { on = λ d. record { me = refl; moment = refl; known = λ a. refl; watches = refl; taken = refl; origins = refl; speakers = refl; lines = quiet_none d.node.me m d.deeds } }

  pub tells_quiet : (line : UniqueAddress → Line) → ((me : UniqueAddress) → is_quiet (line me) ≡ true) → ((me : UniqueAddress) → of (line me) ≡ me) → Quiet {P = P} {m = m} (tells_of line)
  tells_quiet line h o = record { on = λ d. record { me = refl; moment = refl; known = λ a. refl; watches = refl; taken = refl; origins = refl; speakers = refl; lines = quiet_line d.node.me m d.deeds (line d.node.me) (h d.node.me) (o d.node.me) } }

  pub writes_quiet : (dial : Option ℕ) (w : Writing) → Quiet {P = P} {m = m} (writes_on dial w)
  writes_quiet None w = stays_quiet
  writes_quiet (Some dial) w = record { on = λ d. record { me = refl; moment = refl; known = λ a. refl; watches = refl; taken = refl; origins = refl; speakers = refl; lines = quiet_none d.node.me m d.deeds } }

  pub hangs_quiet : (dial : Option ℕ) → Quiet {P = P} {m = m} (hangs_up dial)
  hangs_quiet None = stays_quiet
  hangs_quiet (Some dial) = record { on = λ d. record { me = refl; moment = refl; known = λ a. refl; watches = refl; taken = refl; origins = refl; speakers = refl; lines = quiet_none d.node.me m d.deeds } }

  pub inward_quiet : (k : ℕ) → Quiet {P = P} {m = m} (does (Hangs (Inward k)))
  inward_quiet k = record { on = λ d. record { me = refl; moment = refl; known = λ a. refl; watches = refl; taken = refl; origins = refl; speakers = refl; lines = quiet_none d.node.me m d.deeds } }

  pub peer_quiet : (a : Address) (g : Peer P → Peer P) → ((p : Peer P) → (g p).incarnations ≡ p.incarnations) → Quiet {P = P} {m = m} (peer_becomes a g)
  peer_quiet a g e = record { on = λ d. record { me = refl; moment = refl; known = λ b. known_kept b a g e d.node.peers; watches = refl; taken = refl; origins = refl; speakers = refl; lines = quiet_none d.node.me m d.deeds } }

  pub inbound_quiet : (k : ℕ) (g : Inbound P → Inbound P) → ((i : Inbound P) → (g i).state ≡ i.state) → Quiet {P = P} {m = m} (inbound_becomes k g)
  inbound_quiet k g e = record { on = λ d. record { me = refl; moment = refl; known = λ a. refl; watches = refl; taken = refl; origins = refl; speakers = speakers_kept k g e d.node.inbound; lines = quiet_none d.node.me m d.deeds } }

  pub origin_quiet : (v : UniqueAddress) (g : Origin P → Origin P) → ((o : Origin P) → (g o).who ≡ o.who) → Quiet {P = P} {m = m} (origin_becomes v g)
  origin_quiet v g e = record { on = λ d. record { me = refl; moment = refl; known = λ a. refl; watches = refl; taken = refl; origins = whos_kept v g e d.node.origins; speakers = refl; lines = quiet_none d.node.me m d.deeds } }

  pub watching_quiet : (g : Watching → Watching) → ((w : Watching) → (g w).watches ≡ w.watches) → Quiet {P = P} {m = m} (becomes (λ n. record n { watching = g n.watching }))
  watching_quiet g e = record { on = λ d. record { me = refl; moment = refl; known = λ a. refl; watches = e d.node.watching; taken = refl; origins = refl; speakers = refl; lines = quiet_none d.node.me m d.deeds } }

  pub if_quiet : (b : Bool) (r t : Rule P (noting m)) → Quiet r → Quiet t → Quiet (cond b r t)
  if_quiet true r t a c = a
  if_quiet false r t a c = c

  pub where_quiet : (b : Bool) (r : Rule P (noting m)) → Quiet r → Quiet (where_true b r)
  where_quiet true r a = a
  where_quiet false r a = stays_quiet

  pub each_quiet : {X : Type 0} (xs : List X) (r : X → Rule P (noting m)) → ((x : X) → Quiet (r x)) → Quiet (each xs r)
  each_quiet [] r a = stays_quiet
  each_quiet (x ∷ xs) r a = a x ▹ each_quiet xs r a

  pub times_quiet : (k : ℕ) (r : Rule P (noting m)) → Quiet r → Quiet (times k r)
  times_quiet zero r a = stays_quiet
  times_quiet (suc k) r a = a ▹ times_quiet k r a

  -- ---- peers and dials

  pub link_quiet : (stream : Stream) (a : Address) (g : Link → Link) → Quiet {P = P} {m = m} (peer_becomes a (with_link stream g))
  link_quiet stream a g = peer_quiet a (with_link stream g) (link_kept stream g)

  dials_as_quiet : (stream : Stream) (a : Address) (x : ℕ) → Quiet {P = P} {m = m} (dials_as stream a x)
  dials_as_quiet stream a x = one_more ▹ link_quiet stream a _ ▹ dialed_deed
    where
      one_more : Quiet {P = P} {m = m} (becomes (λ n. record n { dials = n.dials + 1 }))
      one_more = record { on = λ d. record { me = refl; moment = refl; known = λ a. refl; watches = refl; taken = refl; origins = refl; speakers = refl; lines = quiet_none d.node.me m d.deeds } }

      dialed_deed : Quiet {P = P} {m = m} (does (Dials x a))
      dialed_deed = record { on = λ d. record { me = refl; moment = refl; known = λ a. refl; watches = refl; taken = refl; origins = refl; speakers = refl; lines = quiet_none d.node.me m d.deeds } }

  pub dials_quiet : (stream : Stream) (a : Address) → Quiet {P = P} {m = m} (dials stream a)
  dials_quiet stream a = record { on = λ d. (if_quiet (nat_lt d.node.dials last_dial) _ _ (dials_as_quiet stream a (d.node.dials + 1)) stays_quiet).on d }

  pub missing_quiet : (a : Address) → Quiet {P = P} {m = m} (makes_missing a)
  missing_quiet a = record { on = λ d. (if_quiet (has_peer a d.node) _ _ stays_quiet (made ▹ dials_quiet streams.Control a)).on d }
    where
      made : Quiet {P = P} {m = m} (becomes (with_peer_at a))
      made = record { on = λ d. record { me = refl; moment = refl; known = λ b. known_more b a d.node.peers; watches = refl; taken = refl; origins = refl; speakers = refl; lines = quiet_none d.node.me m d.deeds } }

  wakes_quiet : (b : Bool) (a : Address) → Quiet {P = P} {m = m} (wakes b a)
  wakes_quiet true a = dials_quiet streams.Control a
  wakes_quiet false a = stays_quiet

  pub uses_quiet : (a : Address) → Quiet {P = P} {m = m} (uses a)
  uses_quiet a = record { on = λ d. (peer_quiet a (used_now d.node.moment) (λ p. refl) ▹ wakes_quiet (peer_at a d.node).asleep a).on d }

  pub loses_quiet : (stream : Stream) (a : Address) → Quiet {P = P} {m = m} (loses stream a)
  loses_quiet stream a = record { on = λ d. (link_quiet stream a (link_lost d.node.moment)).on d }

  -- ---- writing on control

  pub control_quiet : (v : UniqueAddress) (c : Control) → Quiet {P = P} {m = m} (on_control v c)
  control_quiet v c = record { on = λ d. (writes_quiet (control_dial v d.node) (Controls c)).on d }

  control_to_quiet : (a : Address) (uid : Option ℕ) (c : Control) → Quiet {P = P} {m = m} (on_control_to a uid c)
  control_to_quiet a None c = stays_quiet
  control_to_quiet a (Some uid) c = control_quiet (incarnation a uid) c

  pub quarantines_quiet : (v : UniqueAddress) → Quiet {P = P} {m = m} (quarantines v)
  quarantines_quiet v = record { on = λ d. (control_quiet v (controls.Quarantined d.node.me v)).on d }

  pub drops_ordinary_quiet : (a : Address) → Quiet {P = P} {m = m} (drops_ordinary a)
  drops_ordinary_quiet a = record { on = λ d. (hangs_quiet (dial_of (conn_of streams.Ordinary (peer_at a d.node))) ▹ link_quiet streams.Ordinary a link_gone).on d }

  pumps_next_quiet : (a : Address) (x : Option (ℕ × SysMsg)) → Quiet {P = P} {m = m} (pumps_next a x)
  pumps_next_quiet a None = record { on = λ d. stays_quiet.on d }
  pumps_next_quiet a (Some x) = record { on = λ d. (peer_quiet a (with_out P.pumped) (λ p. refl) ▹ control_to_quiet a (current_of (peer_at a d.node)) (controls.Numbered x.0 x.1 d.node.me)).on d }

  pumps_one_quiet : (a : Address) → Quiet {P = P} {m = m} (pumps_one a)
  pumps_one_quiet a = record { on = λ d. (pumps_next_quiet a (P.next (peer_at a d.node).out)).on d }

  pub pumps_quiet : (a : Address) → Quiet {P = P} {m = m} (pumps a)
  pumps_quiet a = record { on = λ d. (times_quiet (length (P.unacknowledged (peer_at a d.node).out)) (pumps_one a) (pumps_one_quiet a)).on d }

  pub rewinds_quiet : (a : Address) → Quiet {P = P} {m = m} (rewinds a)
  rewinds_quiet a = peer_quiet a (with_out P.rewound) (λ p. refl)

  pub holds_quiet : (a : Address) (x : Tell) → Quiet {P = P} {m = m} (holds a x)
  holds_quiet a x = record { on = λ d. (if_quiet (nat_lt (length (peer_at a d.node).held) most_held) _ _ (peer_quiet a (with_held x) (λ p. refl)) (tells_quiet (λ me. lines.Refused me reasons.Held) (λ me. refl) (λ me. refl))).on d }

  pub refuses_quiet : (reason : Reason) → Quiet {P = P} {m = m} (tells_of (λ me. lines.Refused me reason))
  refuses_quiet reason = tells_quiet (λ me. lines.Refused me reason) (λ me. refl) (λ me. refl)

  pub last_watch_quiet : (a : Address) → Quiet {P = P} {m = m} (after_last_watch a)
  last_watch_quiet a = record { on = λ d. (where_quiet (not (watches_at a d.node)) _ (peer_quiet a without_detector (λ p. refl))).on d }

  spawns_as_quiet : (path : List ℕ) (x : Spawn) → Quiet {P = P} {m = m} (spawns_as path x)
  spawns_as_quiet path Spawned = watching_quiet (kept_spawned path) (λ w. refl) ▹ tells_quiet (λ me. lines.Spawned me path) (λ me. refl) (λ me. refl)
  spawns_as_quiet path Exists = refuses_quiet reasons.Exists
  spawns_as_quiet path ActorsFull = refuses_quiet reasons.Actors

  pub spawns_quiet : (path : List ℕ) → Quiet {P = P} {m = m} (spawns path)
  spawns_quiet path = record { on = λ d. (spawns_as_quiet path (spawning path d.node.watching.actors)).on d }

  pub unwatched_quiet : (v : UniqueAddress) (n : Notice) (path : List ℕ) → Quiet {P = P} {m = m} (is_unwatched v n path)
  unwatched_quiet v n path = watching_quiet (kept_remote_unwatched path (remote_of n.watcher v)) (λ w. refl)

  -- ---- the handshake

  pub asks_quiet : (a : Address) (x : ℕ) → Quiet {P = P} {m = m} (asks_on a x)
  asks_quiet a x = record { on = λ d. (writes_quiet (Some x) (Controls (controls.HandshakeReq d.node.me a (Some x)))).on d }

  answer_quiet : (x : ℕ) (o : Option Answer) → Quiet {P = P} {m = m} (writes_answer x o)
  answer_quiet x None = record { on = λ d. stays_quiet.on d }
  answer_quiet x (Some answer) = record { on = λ d. (writes_quiet (Some x) (Controls (response d.node.me answer))).on d }

  owed_answer_quiet : (a : Address) (x : ℕ) (i : Inbound P) (s : InState) → Quiet {P = P} {m = m} (answers_owed a x i s)
  owed_answer_quiet a x i Raw = stays_quiet
  owed_answer_quiet a x i (KnownTo who its_nonce) = where_quiet (same_address who.address a) _ (inbound_quiet i.number owes_no_answer (λ j. refl) ▹ answer_quiet x i.owed)

  answers_all_quiet : (a : Address) (x : ℕ) → Quiet {P = P} {m = m} (answers_all a x)
  answers_all_quiet a x = record { on = λ d. (each_quiet d.node.inbound (λ i. answers_owed a x i i.state) (λ i. owed_answer_quiet a x i i.state)).on d }

  answers_after_quiet : (stream : Stream) (a : Address) (x : ℕ) → Quiet {P = P} {m = m} (answers_after stream a x)
  answers_after_quiet streams.Control a x = answers_all_quiet a x
  answers_after_quiet streams.Ordinary a x = stays_quiet

  begins_quiet : (stream : Stream) (a : Address) (x : ℕ) → Quiet {P = P} {m = m} (begins stream a x)
  begins_quiet stream a x = record { on = λ d. (link_quiet stream a (change_conn (conn_dialed d.node.moment)) ▹ writes_quiet (Some x) (Begins stream) ▹ asks_quiet a x ▹ answers_after_quiet stream a x).on d }

  dialed_of_quiet : (x : ℕ) (p : Option (Peer P)) → Quiet {P = P} {m = m} (dialed_of x p)
  dialed_of_quiet x None = hangs_quiet (Some x)
  dialed_of_quiet x (Some p) = if_quiet (waits_for_dial (conn_of (stream_dialed x p) p)) _ _ (begins_quiet (stream_dialed x p) (address_of p) x) (hangs_quiet (Some x))

  pub dialed_quiet : (x : ℕ) → Quiet {P = P} {m = m} (dialed x)
  dialed_quiet x = record { on = λ d. (dialed_of_quiet x (peer_dialed x d.node)).on d }

  lost_of_quiet : (x : ℕ) (p : Option (Peer P)) → Quiet {P = P} {m = m} (lost_of x p)
  lost_of_quiet x None = stays_quiet
  lost_of_quiet x (Some p) = loses_quiet (stream_dialed x p) (address_of p)

  pub lost_quiet : (x : ℕ) → Quiet {P = P} {m = m} (lost x)
  lost_quiet x = record { on = λ d. (lost_of_quiet x (peer_dialed x d.node)).on d }

  pub gives_up_quiet : (stream : Stream) (a : Address) → Quiet {P = P} {m = m} (gives_up stream a)
  gives_up_quiet stream a = record { on = λ d. (hangs_quiet (dial_of (conn_of stream (peer_at a d.node))) ▹ loses_quiet stream a).on d }

  answers_on_quiet : (k : ℕ) (answer : Answer) (x : Option ℕ) → Quiet {P = P} {m = m} (answers_on k answer x)
  answers_on_quiet k answer None = inbound_quiet k (owing answer) (λ i. refl)
  answers_on_quiet k answer (Some x) = inbound_quiet k owes_no_answer (λ i. refl) ▹ answer_quiet x (Some answer)

  pub answers_quiet : (k : ℕ) (v : UniqueAddress) (its_nonce : Option ℕ) → Quiet {P = P} {m = m} (answers k v its_nonce)
  answers_quiet k v its_nonce = record { on = λ d. (answers_on_quiet k (answer_to v its_nonce) (dial_asked (conn_of streams.Control (peer_at v.address d.node)))).on d }

  pub drops_quiet : (k : ℕ) (rule : DropRule) → Quiet {P = P} {m = m} (drops k rule)
  drops_quiet k rule = tells_quiet (λ me. lines.Dropped me k rule) (λ me. refl) (λ me. refl)

  owed_ack_quiet : (v : UniqueAddress) → Quiet {P = P} {m = m} (writes_owed_ack v)
  owed_ack_quiet v = record { on = λ d. (where_quiet (origin_at v d.node).owes _ (origin_quiet v owes_no_ack (λ o. refl) ▹ control_quiet v (controls.Ack (P.last_taken v d.node.taken) d.node.me))).on d }

  ordinary_quiet : (a : Address) → Quiet {P = P} {m = m} (dials_ordinary a)
  ordinary_quiet a = record { on = λ d. (where_quiet (not (is_some (conn_of streams.Ordinary (peer_at a d.node)))) _ (dials_quiet streams.Ordinary a)).on d }

  pub goes_on_quiet : (v : UniqueAddress) → Quiet {P = P} {m = m} (goes_on v)
  goes_on_quiet v = record { on = λ d. (peer_quiet v.address (quiet_now d.node.moment) (λ p. refl) ▹ owed_ack_quiet v ▹ rewinds_quiet v.address ▹ pumps_quiet v.address ▹ ordinary_quiet v.address).on d }

  pub strays_quiet : (v : UniqueAddress) (its_nonce : Option ℕ) → Quiet {P = P} {m = m} (strays v its_nonce)
  strays_quiet v its_nonce = tells_quiet (λ me. lines.Stray me v its_nonce) (λ me. refl) (λ me. refl)

  pub unless_quiet : (b : Bool) (v : UniqueAddress) → Quiet {P = P} {m = m} (strays_unless b v)
  unless_quiet true v = stays_quiet
  unless_quiet false v = strays_quiet v None

  -- ---- what is heard

  acks_quiet : (v : UniqueAddress) (ack : ℕ → UniqueAddress → Control) (x : Option ℕ) → Quiet {P = P} {m = m} (acknowledges_on v ack x)
  acks_quiet v ack None = record { on = λ d. (origin_quiet v (owes_ack true) (λ o. refl)).on d }
  acks_quiet v ack (Some dial) = record { on = λ d. (origin_quiet v (owes_ack false) (λ o. refl) ▹ control_quiet v (ack (P.last_taken v d.node.taken) d.node.me)).on d }

  pub ack_quiet : (v : UniqueAddress) (ack : ℕ → UniqueAddress → Control) → Quiet {P = P} {m = m} (acknowledges v ack)
  ack_quiet v ack = record { on = λ d. (acks_quiet v ack (control_dial v d.node)).on d }

  acked_as_quiet : (k : ℕ) (v : UniqueAddress) (g : P.Out → P.Out) (again : Bool) (x : Acked) → Quiet {P = P} {m = m} (acked_as k v g again x)
  acked_as_quiet k v g again Past = record { on = λ d. (drops_quiet k rules.AckRange).on d }
  acked_as_quiet k v g again (Cleared count) = record { on = λ d. (peer_quiet v.address (with_out g) (λ p. refl) ▹ peer_quiet v.address (heard_back (nat_lt 0 count) again d.node.moment) (λ p. refl) ▹ pumps_quiet v.address).on d }

  pub current_quiet : (k : ℕ) (v : UniqueAddress) (r : Rule P (noting m)) → Quiet r → Quiet (of_current k v r)
  current_quiet k v r a = record { on = λ d. (if_quiet (is_now v d.node) _ _ a (drops_quiet k rules.NotCurrent)).on d }

  pub acked_quiet : (k : ℕ) (v : UniqueAddress) (n : ℕ) → Quiet {P = P} {m = m} (acked k v n)
  acked_quiet k v n = record { on = λ d. (acked_as_quiet k v (P.acknowledged n) false (P.acknowledgement n (peer_at v.address d.node).out)).on d }

  pub nacked_quiet : (k : ℕ) (v : UniqueAddress) (n : ℕ) → Quiet {P = P} {m = m} (nacked k v n)
  nacked_quiet k v n = record { on = λ d. (acked_as_quiet k v (P.refused n) true (P.acknowledgement n (peer_at v.address d.node).out)).on d }

  table_ack_quiet : (kind : Kind) (v : UniqueAddress) (n : ℕ) → Quiet {P = P} {m = m} (acknowledges_table kind v n)
  table_ack_quiet kind v n = record { on = λ d. (control_quiet v (table_ack kind d.node.me n)).on d }

  adopts_as_quiet : (k : ℕ) (v : UniqueAddress) (kind : Kind) (n : ℕ) (keys : List (List ℕ)) (values : List ℕ) (x : Adopting) → Quiet {P = P} {m = m} (adopts_as k v kind n keys values x)
  adopts_as_quiet k v kind n keys values adopting.Older = drops_quiet k rules.OldTable
  adopts_as_quiet k v kind n keys values adopting.Same = table_ack_quiet kind v n
  adopts_as_quiet k v kind n keys values adopting.Adopted = peer_quiet v.address (with_adopted kind n keys values) (λ p. refl) ▹ tells_quiet (λ me. lines.Adopted me v kind n) (λ me. refl) (λ me. refl) ▹ table_ack_quiet kind v n

  adopts_quiet : (k : ℕ) (v : UniqueAddress) (kind : Kind) (n : ℕ) (keys : List (List ℕ)) (values : List ℕ) → Quiet {P = P} {m = m} (adopts k v kind n keys values)
  adopts_quiet k v kind n keys values = record { on = λ d. (adopts_as_quiet k v kind n keys values (P.adopting n (of_kind kind (peer_at v.address d.node).tables))).on d }

  pub tabled_quiet : (k : ℕ) (v : UniqueAddress) (kind : Kind) (uid n : ℕ) (keys : List (List ℕ)) (values : List ℕ) → Quiet {P = P} {m = m} (tabled k v kind uid n keys values)
  tabled_quiet k v kind uid n keys values = record { on = λ d. (if_quiet (uid == d.node.me.uid) _ _ (current_quiet k v _ (adopts_quiet k v kind n keys values)) (drops_quiet k rules.NotMe)).on d }

  confirms_as_quiet : (k : ℕ) (v : UniqueAddress) (kind : Kind) (n : ℕ) (x : Confirmed) → Quiet {P = P} {m = m} (confirms_as k v kind n x)
  confirms_as_quiet k v kind n confirming.Confirmed = origin_quiet v (with_confirmed kind n) (λ o. refl)
  confirms_as_quiet k v kind n confirming.NotAnnounced = drops_quiet k rules.OldTable

  pub confirms_quiet : (k : ℕ) (v : UniqueAddress) (kind : Kind) (n : ℕ) → Quiet {P = P} {m = m} (confirms k v kind n)
  confirms_quiet k v kind n = record { on = λ d. (confirms_as_quiet k v kind n (P.confirming n (of_kind kind (origin_at v d.node).tables))).on d }

  pub beat_quiet : (v : UniqueAddress) → Quiet {P = P} {m = m} (hears_beat v)
  beat_quiet v = record { on = λ d. (where_quiet (is_now v d.node && watches_at v.address d.node) _ (peer_quiet v.address (heard_at d.node.moment) (λ p. refl))).on d }

  pub back_quiet : (v : UniqueAddress) → Quiet {P = P} {m = m} (beats_back v)
  back_quiet v = record { on = λ d. (control_quiet v (controls.HeartbeatRsp d.node.me.uid)).on d }

  pub noticed_quiet : (k : ℕ) (v to : UniqueAddress) → Quiet {P = P} {m = m} (noticed k v to)
  noticed_quiet k v to = record { on = λ d. (if_quiet (same_unique to d.node.me) _ _ (tells_quiet (λ me. lines.Notice me v) (λ me. refl) (λ me. refl)) (drops_quiet k rules.NotMe)).on d }

  pub counts_quiet : (v : UniqueAddress) (e : EnvelopeOf) → Quiet {P = P} {m = m} (counts_names v e)
  counts_quiet v e = origin_quiet v (with_counted Refs e.sender) (counted_kept Refs e.sender) ▹ origin_quiet v (with_counted Refs e.recipient) (counted_kept Refs e.recipient) ▹ origin_quiet v (with_counted Manifests e.manifest) (counted_kept Manifests e.manifest)

  pub closed_quiet : (k : ℕ) (v : UniqueAddress) (c : Content) → Quiet {P = P} {m = m} (drops_closed k v c)
  closed_quiet k v c = drops_quiet k rules.Closed ▹ where_quiet (is_told_closed c) _ (quarantines_quiet v)

  -- ---- the tick

  redials_quiet : (stream : Stream) (a : Address) (may : Bool) → Quiet {P = P} {m = m} (redials stream a may)
  redials_quiet stream a may = record { on = λ d. (where_quiet (may && nat_le (link_of stream (peer_at a d.node)).redial d.node.moment) _ (dials_quiet stream a)).on d }

  due_as_quiet : (stream : Stream) (a : Address) (x : ℕ) (t : OnTick) → Quiet {P = P} {m = m} (due_as stream a x t)
  due_as_quiet stream a x Nothing = record { on = λ d. stays_quiet.on d }
  due_as_quiet stream a x AskAgain = record { on = λ d. (link_quiet stream a (change_conn (conn_ticked d.node.moment)) ▹ asks_quiet a x).on d }
  due_as_quiet stream a x GiveUp = record { on = λ d. (gives_up_quiet stream a).on d }

  tends_as_quiet : (stream : Stream) (a : Address) (may : Bool) (c : Option OutConn) → Quiet {P = P} {m = m} (tends_as stream a may c)
  tends_as_quiet stream a may None = record { on = λ d. (redials_quiet stream a may).on d }
  tends_as_quiet stream a may (Some c) = record { on = λ d. (due_as_quiet stream a c.dial (answer_to_tick d.node.moment c)).on d }

  tends_quiet : (stream : Stream) (a : Address) (may : Bool) → Quiet {P = P} {m = m} (tends stream a may)
  tends_quiet stream a may = record { on = λ d. (tends_as_quiet stream a may (conn_of stream (peer_at a d.node))).on d }

  pub tends_control_quiet : (a : Address) → Quiet {P = P} {m = m} (tends_control a)
  tends_control_quiet a = record { on = λ d. (tends_quiet streams.Control a (not (peer_at a d.node).asleep)).on d }

  pub tends_ordinary_quiet : (a : Address) → Quiet {P = P} {m = m} (tends_ordinary a)
  tends_ordinary_quiet a = record { on = λ d. (tends_quiet streams.Ordinary a (is_bound (peer_at a d.node))).on d }

  pub resends_quiet : (a : Address) → Quiet {P = P} {m = m} (resends a)
  resends_quiet a = record { on = λ d. (where_quiet (is_still d.node.moment (peer_at a d.node)) _ (rewinds_quiet a ▹ pumps_quiet a ▹ peer_quiet a (quiet_now d.node.moment) (λ p. refl))).on d }

  beats_on_quiet : (v : UniqueAddress) (x : Option ℕ) → Quiet {P = P} {m = m} (beats_on v x)
  beats_on_quiet v None = record { on = λ d. stays_quiet.on d }
  beats_on_quiet v (Some x) = record { on = λ d. (control_quiet v controls.Heartbeat ▹ peer_quiet v.address (beaten_at d.node.moment) (λ p. refl)).on d }

  pub beats_quiet : (v : UniqueAddress) → Quiet {P = P} {m = m} (beats v)
  beats_quiet v = record { on = λ d. (where_quiet (is_due_since heartbeat_after (peer_at v.address d.node).last_beat d.node.moment) _ beaten).on d }
    where
      beaten : Quiet {P = P} {m = m} (λ e. beats_on v (control_dial v e.node) e)
      beaten = record { on = λ e. (beats_on_quiet v (control_dial v e.node)).on e }

  drops_control_quiet : (a : Address) → Quiet {P = P} {m = m} (drops_control a)
  drops_control_quiet a = record { on = λ d. (hangs_quiet (dial_of (conn_of streams.Control (peer_at a d.node))) ▹ link_quiet streams.Control a link_gone).on d }

  idle_quiet : (a : Address) (uid : Option ℕ) → Quiet {P = P} {m = m} (tells_idle a uid)
  idle_quiet a None = stays_quiet
  idle_quiet a (Some uid) = tells_quiet (λ me. lines.Idle me (incarnation a uid)) (λ me. refl) (λ me. refl)

  pub sleeps_quiet : (a : Address) → Quiet {P = P} {m = m} (sleeps a)
  sleeps_quiet a = record {
    on = λ d. (where_quiet (is_idle d.node.moment (peer_at a d.node) && not (watches_at a d.node)) _
        (idle_quiet a (current_of (peer_at a d.node)) ▹ drops_ordinary_quiet a ▹ drops_control_quiet a ▹ peer_quiet a asleep_now (λ p. refl))).on d;
  }

  announces_quiet : (v : UniqueAddress) (kind : Kind) (t : Option Table) → Quiet {P = P} {m = m} (announces v kind t)
  announces_quiet v kind None = record { on = λ d. stays_quiet.on d }
  announces_quiet v kind (Some t) = record { on = λ d. (control_quiet v (advertisement kind d.node.me v t)).on d }

  told_table_quiet : (v : UniqueAddress) (kind : Kind) (t : Option Table) → Quiet {P = P} {m = m} (tells_advertised v kind t)
  told_table_quiet v kind None = stays_quiet
  told_table_quiet v kind (Some t) = tells_quiet (λ me. lines.Advertised me v kind t.number (length t.names)) (λ me. refl) (λ me. refl)

  advertises_as_quiet : (v : UniqueAddress) (kind : Kind) (x : Advertised) → Quiet {P = P} {m = m} (advertises_as v kind x)
  advertises_as_quiet v kind advertising.New = record { on = λ d. (told_table_quiet v kind (unconfirmed_of v kind d.node) ▹ announces_quiet v kind (unconfirmed_of v kind d.node)).on d }
  advertises_as_quiet v kind advertising.Again = record { on = λ d. (announces_quiet v kind (unconfirmed_of v kind d.node)).on d }
  advertises_as_quiet v kind advertising.Same = record { on = λ d. stays_quiet.on d }
  advertises_as_quiet v kind advertising.Spent = record { on = λ d. stays_quiet.on d }
  advertises_as_quiet v kind advertising.Unsettled = record { on = λ d. stays_quiet.on d }

  settled_quiet : (v : UniqueAddress) (kind : Kind) (settled : Bool) → Quiet {P = P} {m = m} (advertises_settled v kind settled)
  settled_quiet v kind settled = record { on = λ d. (origin_quiet v (with_advertised kind settled) (λ o. refl) ▹ advertises_as_quiet v kind (P.advertising settled (of_kind kind (origin_at v d.node).tables))).on d }

  advertises_quiet : (v : UniqueAddress) (kind : Kind) → Quiet {P = P} {m = m} (advertises v kind)
  advertises_quiet v kind = record { on = λ d. (settled_quiet v kind (is_settled v kind d.node)).on d }

  ticks_origin_quiet : (v : UniqueAddress) → Quiet {P = P} {m = m} (ticks_origin v)
  ticks_origin_quiet v = record { on = λ d. (where_quiet (is_to_advertise v d.node) _ (advertises_quiet v Refs ▹ advertises_quiet v Manifests ▹ origin_quiet v (advertised_now d.node.moment) (λ o. refl))).on d }

  pub ticks_origins_quiet : Quiet {P = P} {m = m} ticks_origins
  ticks_origins_quiet = record { on = λ d. (each_quiet (map (λ o. o.who) d.node.origins) ticks_origin ticks_origin_quiet).on d }
