-- The rules of closing, of sending and of telling.
use Rattle.std.proofs.Common.{◌≡◌, ℕ, zero, suc, ◌+◌, ◌<◌, ◌≤◌, ◌^◌, Bool, true, false, cond, List, [], ◌∷◌, ◌++◌, length, map, refl, sym, ◌∙◌, ap, subst, arith, ℤ, pos, negsuc}
use Rattle.std.specs.Prelude.{Option, None, Some, ◌==◌, ◌||◌, nat_lt, nat_le, slice_get, is_some, max}
use Rattle.std.specs.List.{filter}
use Rattle.std.specs.Option.{option_map, option_or}
use Rattle.std.specs.Ordering.{int_eq}
use Rattle.std.proofs.lemmas.Bool.Decides.{nat_tests}
use Rattle.std.proofs.lemmas.List.{length-append}
use Rattle.artery_base.specs.declared.address.Address.{Address}
use Rattle.artery_base.specs.declared.address.UniqueAddress.{UniqueAddress}
use Rattle.artery_base.specs.declared.message.SysMsg.{SysMsg}
use Rattle.artery_base.specs.declared.message.Tell.{Tell}
use Rattle.artery_base.specs.Valid.{IsAddress, IsUniqueAddress}
use Rattle.artery_script.specs.Valid.{IsTell, control_serializer}
use Rattle.artery_assoc.specs.Peer.{PeerState, closing, peer_after_close}
use Rattle.artery_assoc.specs.declared.peer.Close.{Close}
use Rattle.artery_assoc.specs.declared.peer.Close.TheVariants.{Closed, AlreadyClosed, NotCurrent}
use Rattle.artery_codec.specs.Writing.{Indices, indexed, paired_indices, written, written_name}
use Rattle.artery_codec.proofs.Texts.{written_ascii}
use Rattle.artery_control.specs.declared.control.Control.TheVariants as controls
use Rattle.artery_control.specs.Valid.{IsOptional}
use Rattle.artery_delivery.specs.Limits.{most_kept, window, last_number}
use Rattle.artery_delivery.specs.declared.outbound.Accept.{Accept}
use Rattle.artery_delivery.specs.declared.outbound.Accept.TheVariants.{Accepted, Waiting, Overflow}
use Rattle.artery_delivery.specs.Outbound.{State, unacknowledged, has_no_room, accepted, acknowledged, rewound, refused, next_sent, pumped}
use Rattle.artery_delivery.specs.Outbound as out
use Rattle.artery_frame.specs.declared.stream.Stream.TheVariants as streams
use Rattle.artery_header.specs.declared.fault.EncodeFault.{EncodeFault}
use Rattle.artery_header.specs.Envelope.{NameOf, Literal, Index, EnvelopeOf, IsName, IsEnvelope, HasTexts, spelled_len, is_long, canonical_len, envelope_limit, literal_limit, refusal}
use Rattle.artery_journal.specs.declared.line.Line.TheVariants as lines
use Rattle.artery_journal.specs.declared.words.Reason.TheVariants as reasons
use Rattle.artery_journal.specs.declared.words.Cause.{Cause}
use Rattle.artery_journal.specs.declared.words.Cause.TheVariants as causes
use Rattle.artery_tables.specs.Names.{same_name}
use Rattle.artery_tables.specs.OutTable.{State as Adopted, last_value}
use Rattle.artery_watch.specs.declared.remote.RemoteWatcher.{RemoteWatcher}
use Rattle.artery_watch.specs.Keys.{same_origin}
use Rattle.artery_watch.specs.Watcher.{Kept as Watching, not_from, forgotten, ids_at, kept_closed, kept_forgotten}
use Rattle.artery_machine.specs.Deeds.{Sends}
use Rattle.artery_machine.specs.Parts.{whole}
use Rattle.artery_machine.specs.Node.{Node, Peer, peer_at, conn_of, current_of, current_dial, incarnation}
use Rattle.artery_machine.specs.Doing.{Rule, listed, ◌▸◌, stays, where_true, becomes, tells_of, writes_on, hangs_up, peer_becomes, each, times}
use Rattle.artery_machine.specs.Making.{uses}
use Rattle.artery_machine.specs.Closing.{dial_of, is_told, without_detector, with_closed, with_new_tables, on_control_to, quarantines, drops_ordinary, forgets_watches_of, terminates_at, closes, closes_current}
use Rattle.artery_machine.specs.Sending.{most_held, meaning_of, with_out, keeps_nothing, begins_waiting, told_as, with_held, without_held, pumps_next, pumps_one, pumps, rewinds, tells_sent, sent_as, sends_now, sends, tells_told, tells_on, holds, tells_or_holds, tells_message, tells_held}
use Rattle.artery_machine.specs.Verdict.{is_control_serializer}
use Rattle.artery_machine.specs.Watching.{watches_become}
use Rattle.artery_flight.proofs.Lists.{by_test, on_cond, not_both, not_some, some_same, eq_true, Each, each_weaker, each_push, each_get, each_filter, each_map}
use Rattle.artery_written.proofs.Facts.{MessageFacts, EnvelopeFacts, OutFacts, PairFacts, PeerFacts, WatcherFacts, ActorFacts, NodeFacts, Work, WorkFacts}
use Rattle.artery_written.proofs.Sizes.{numbered_good}
use Rattle.artery_written.proofs.Rules.{Keeps, ◌▹◌, stays_keep, tells_keep, hangs_keep, writes_keep, becomes_keep, peer_keep, if_keeps, where_keeps, each_keeps, times_keep, nothing_out, peer_facts, gone_keeps, control_to_keeps, quarantines_keeps, uses_keep}

-- ---- closing

closed_address : (x : Close) (uid : ℕ) (s : PeerState) → (peer_after_close x uid s).address ≡ s.address
closed_address Closed uid s = refl
closed_address AlreadyClosed uid s = refl
closed_address NotCurrent uid s = refl

closed_current : (x : Close) (uid : ℕ) (s : PeerState) → IsOptional s.current → IsOptional (peer_after_close x uid s).current
closed_current Closed uid s h = tt
closed_current AlreadyClosed uid s h = h
closed_current NotCurrent uid s h = h

closed_facts : (uid : ℕ) (p : Peer whole) → PeerFacts p → PeerFacts (with_closed uid p)
closed_facts uid p f = record {
  address = subst IsAddress (sym (closed_address (closing uid p.incarnations) uid p.incarnations)) f.address;
  current = closed_current (closing uid p.incarnations) uid p.incarnations f.current;
  out = nothing_out;
  held = f.held;
  refs = f.refs;
  manifests = f.manifests;
  control = f.control;
  ordinary = f.ordinary;
}

-- what is known of watches changes
pub watches_keep : (g : Watching → Watching) → ((k : Watching) → Each ActorFacts k.actors → Each ActorFacts (g k).actors) → Keeps (watches_become g)
watches_keep g k = becomes_keep (λ n. record n { watching = g n.watching })
    (λ n f. record { me = f.me; dials = f.dials; peers = f.peers; inbound = f.inbound; origins = f.origins; taken = f.taken; actors = k n.watching f.actors })

forgotten_actors : (v : UniqueAddress) (actors : List (List ℕ × List RemoteWatcher)) → Each ActorFacts actors → Each ActorFacts (forgotten v actors)
forgotten_actors v actors h = each_map ActorFacts ActorFacts (λ actor. (actor.0, not_from v actor.1)) (λ actor k. each_filter WatcherFacts _ actor.1 k) actors h

drops_ordinary_keeps : (a : Address) → Keeps (drops_ordinary a)
drops_ordinary_keeps a = record { on = λ d f. (hangs_keep (dial_of (conn_of streams.Ordinary (peer_at a d.node))) ▹ gone_keeps streams.Ordinary a).on d f }

all_terminated : (ids : List ℕ) → Keeps (each ids (λ id. tells_of (λ me. lines.Terminated me id)))
all_terminated [] = stays_keep
all_terminated (id ∷ ids) = tells_keep (λ me. lines.Terminated me id) ▹ all_terminated ids

terminates_at_keeps : (a : Address) → Keeps (terminates_at a)
terminates_at_keeps a = record { on = λ d f. (all_terminated (ids_at a d.node.watching.watches.list) ▹ watches_keep (kept_closed a) (λ k h. h)).on d f }

pub detector_keeps : (a : Address) → Keeps (peer_becomes a without_detector)
detector_keeps a = peer_keep a without_detector (λ p q. record { address = q.address; current = q.current; out = q.out; held = q.held; refs = q.refs; manifests = q.manifests; control = q.control; ordinary = q.ordinary })

closes_keep : (a : Address) (cause : Cause) (uid : ℕ) → IsAddress a → uid < 2 ^ 64 → Keeps (closes a cause uid)
closes_keep a cause uid h small =
    tells_keep (λ me. lines.Closed me (incarnation a uid) cause)
    ▹ peer_keep a (with_closed uid) (closed_facts uid)
    ▹ if_keeps (is_told cause) (quarantines (incarnation a uid)) stays (quarantines_keeps (incarnation a uid) (record { address = h; uid = small })) stays_keep
    ▹ drops_ordinary_keeps a
    ▹ watches_keep (kept_forgotten (incarnation a uid)) (λ k q. forgotten_actors (incarnation a uid) k.actors q)
    ▹ terminates_at_keeps a
    ▹ detector_keeps a
    ▹ peer_keep a with_new_tables (λ p q. record { address = q.address; current = q.current; out = q.out; held = q.held; refs = tt; manifests = tt; control = q.control; ordinary = q.ordinary })

pub closes_current_keeps : (a : Address) (cause : Cause) (x : Option ℕ) (r : Rule whole listed) → IsAddress a → IsOptional x → Keeps r → Keeps (closes_current a cause x r)
closes_current_keeps a cause None r h k other = other
closes_current_keeps a cause (Some uid) r h k other = closes_keep a cause uid h k

pub drops_ordinary_keep : (a : Address) → Keeps (drops_ordinary a)
drops_ordinary_keep a = drops_ordinary_keeps a

-- ---- the messages to a peer

pub out_keeps : (a : Address) (g : State → State) → ((s : State) → OutFacts s → OutFacts (g s)) → Keeps (peer_becomes a (with_out g))
out_keeps a g k = peer_keep a (with_out g) (λ p q. record { address = q.address; current = q.current; out = k p.out q.out; held = q.held; refs = q.refs; manifests = q.manifests; control = q.control; ordinary = q.ordinary })

pub acknowledged_facts : (n : ℕ) (s : State) → OutFacts s → OutFacts (acknowledged n s)
acknowledged_facts n s f = on_cond OutFacts (nat_lt (length s.sent) n) s (record s { acknowledged = max s.acknowledged n; written = max s.written (max s.acknowledged n) })
    (λ b. f) (λ b. record { sent = f.sent; waiting = f.waiting; many = f.many; few = f.few })

rewound_facts : (s : State) → OutFacts s → OutFacts (rewound s)
rewound_facts s f = record { sent = f.sent; waiting = f.waiting; many = f.many; few = f.few }

pub refused_facts : (n : ℕ) (s : State) → OutFacts s → OutFacts (refused n s)
refused_facts n s f = on_cond OutFacts (nat_lt (length s.sent) n) s (rewound (acknowledged n s)) (λ b. f) (λ b. rewound_facts (acknowledged n s) (acknowledged_facts n s f))

pumped_facts : (s : State) → OutFacts s → OutFacts (pumped s)
pumped_facts s f = on_cond OutFacts (is_some (next_sent s)) (record s { written = s.written + 1 }) s (λ b. record { sent = f.sent; waiting = f.waiting; many = f.many; few = f.few }) (λ b. f)

pub learnt_facts : (s : State) → OutFacts s → OutFacts (whole.learnt s)
learnt_facts s f = on_cond OutFacts s.learnt s (out.learnt s) (λ b. f) (λ b. record { sent = f.waiting; waiting = tt; many = f.few; few = omega arith })

or_false : (a b : Bool) → (a || b) ≡ false → (a ≡ false) × (b ≡ false)
or_false true b h = not_both refl h
or_false false b h = (refl, h)

below_kept : (n : ℕ) → nat_le most_kept n ≡ false → n + 1 < 2 ^ 64
below_kept n h = grind (arith, nat_tests)

below_last : (n : ℕ) → nat_le last_number n ≡ false → n + 1 < 2 ^ 64
below_last n h = grind (arith, nat_tests)

accepted_facts : (m : SysMsg) → MessageFacts m → (s : State) → OutFacts s → OutFacts (accepted m s)
accepted_facts m g s f = on_cond OutFacts (has_no_room s) s (cond s.learnt (record s { sent = s.sent ++ m ∷ [] }) (record s { waiting = s.waiting ++ m ∷ [] })) (λ b. f) (λ b. at_learnt (or_false (nat_le most_kept (length (unacknowledged s))) (nat_le last_number (length s.sent)) b))
  where
    at_learnt : (nat_le most_kept (length (unacknowledged s)) ≡ false) × (nat_le last_number (length s.sent) ≡ false) → OutFacts (cond s.learnt (record s { sent = s.sent ++ m ∷ [] }) (record s { waiting = s.waiting ++ m ∷ [] }))
    at_learnt k = on_cond OutFacts s.learnt (record s { sent = s.sent ++ m ∷ [] }) (record s { waiting = s.waiting ++ m ∷ [] })
        (λ b. record { sent = each_push MessageFacts s.sent m f.sent g; waiting = f.waiting; many = (let x : length s.sent + 1 < 2 ^ 64 = below_last (length s.sent) k.1 in let y : length (s.sent ++ m ∷ []) ≡ length s.sent + 1 = length-append s.sent (m ∷ []) in omega arith); few = f.few })
        (λ b. record {
          sent = f.sent;
          waiting = each_push MessageFacts s.waiting m f.waiting g;
          many = f.many;
          few = (let e : unacknowledged s ≡ s.waiting = ap (λ (c : Bool). cond c (unacknowledged (record s { learnt = true })) s.waiting) b in
              let x : length s.waiting + 1 < 2 ^ 64 = below_kept (length s.waiting) (subst (λ (ms : List SysMsg). nat_le most_kept (length ms) ≡ false) e k.0) in
              let y : length (s.waiting ++ m ∷ []) ≡ length s.waiting + 1 = length-append s.waiting (m ∷ []) in omega arith);
        })

inside : {X : Type 0} (xs : List X) (i : ℕ) (x : X) → slice_get xs i ≡ Some x → i < length xs
inside [] i x e = not_some e
inside (y ∷ xs) zero x e = (let k : 0 < suc (length xs) = omega arith in k)
inside (y ∷ xs) (suc i) x e = (let h : i < length xs = inside xs i x e in let k : suc i < suc (length xs) = omega arith in k)

-- the next message
abbrev NextFacts : Option (ℕ × SysMsg) → Type 0
NextFacts None = Unit {0}
NextFacts (Some x) = (x.0 < 2 ^ 64) × MessageFacts x.1

next_facts : (s : State) → OutFacts s → NextFacts (next_sent s)
next_facts s f = on_cond NextFacts (nat_lt s.written (s.acknowledged + window)) (option_map (λ m. (s.written + 1, m)) (slice_get s.sent s.written)) None (λ b. by (slice_get s.sent s.written) refl) (λ b. tt)
  where
    by : (x : Option SysMsg) → slice_get s.sent s.written ≡ x → NextFacts (option_map (λ m. (s.written + 1, m)) x)
    by None e = tt
    by (Some m) e = ((let k : s.written < length s.sent = inside s.sent s.written m e in let n : length s.sent < 2 ^ 64 = f.many in let w : s.written + 1 < 2 ^ 64 = omega arith in w), each_get MessageFacts s.sent s.written m f.sent e)

-- ---- writing

pumps_next_keeps : (a : Address) (x : Option (ℕ × SysMsg)) → NextFacts x → Keeps (pumps_next a x)
pumps_next_keeps a None k = record { on = λ d f. f }
pumps_next_keeps a (Some next) k = record {
  on = λ d f. (out_keeps a whole.pumped pumped_facts
      ▹ control_to_keeps a (current_of (peer_at a d.node)) (controls.Numbered next.0 next.1 d.node.me) (numbered_good next.0 next.1 d.node.me k.0 k.1 f.node.me)).on d f;
}

pumps_one_keeps : (a : Address) → IsAddress a → Keeps (pumps_one a)
pumps_one_keeps a h = record { on = λ d f. (pumps_next_keeps a (whole.next (peer_at a d.node).out) (next_facts (peer_at a d.node).out (peer_facts a d.node h f.node).out)).on d f }

pub pumps_keep : (a : Address) → IsAddress a → Keeps (pumps a)
pumps_keep a h = record { on = λ d f. (times_keep (length (whole.unacknowledged (peer_at a d.node).out)) (pumps_one a) (pumps_one_keeps a h)).on d f }

pub rewinds_keep : (a : Address) → Keeps (rewinds a)
rewinds_keep a = out_keeps a whole.rewound rewound_facts

-- ---- sending

pub tells_sent_keeps : (a : Address) (x : Option ℕ) (n : ℕ) (m : SysMsg) → Keeps (tells_sent a x n m)
tells_sent_keeps a None n m = stays_keep
tells_sent_keeps a (Some uid) n m = tells_keep (λ me. lines.Sent me (incarnation a uid) n m)

waiting_facts : (now : ℕ) (p : Peer whole) → PeerFacts p → PeerFacts (begins_waiting now p)
waiting_facts now p f = on_cond PeerFacts (keeps_nothing p) (record p { quiet = now; patience = now }) p
    (λ b. record { address = f.address; current = f.current; out = f.out; held = f.held; refs = f.refs; manifests = f.manifests; control = f.control; ordinary = f.ordinary }) (λ b. f)

sent_as_keeps : (a : Address) (m : SysMsg) (x : Accept) → IsAddress a → MessageFacts m → Keeps (sent_as a m x)
sent_as_keeps a m (Accepted n) h g = record {
  on = λ d f. (peer_keep a (begins_waiting d.node.moment) (waiting_facts d.node.moment) ▹ out_keeps a (whole.accepted m) (accepted_facts m g) ▹ tells_sent_keeps a (current_of (peer_at a d.node)) n m ▹ pumps_keep a h).on d f;
}
sent_as_keeps a m (Waiting place) h g = record { on = λ d f. (out_keeps a (whole.accepted m) (accepted_facts m g)).on d f }
sent_as_keeps a m (Overflow back) h g = record {
  on = λ d f. (closes_current_keeps a causes.Overflow (current_of (peer_at a d.node)) (tells_of (λ me. lines.Refused me reasons.Waiting)) h (peer_facts a d.node h f.node).current (tells_keep (λ me. lines.Refused me reasons.Waiting))).on d f;
}

sends_now_keeps : (a : Address) (m : SysMsg) → IsAddress a → MessageFacts m → Keeps (sends_now a m)
sends_now_keeps a m h g = record { on = λ d f. (sent_as_keeps a m (whole.acceptance m (peer_at a d.node).out) h g).on d f }

pub sends_keep : (a : Address) (m : SysMsg) → IsAddress a → MessageFacts m → Keeps (sends a m)
sends_keep a m h g = uses_keep a ▹ sends_now_keeps a m h g

-- ---- telling

name_fits : (table : Adopted) (name : List ℕ) → PairFacts table → IsName (written_name (paired_indices table) name)
name_fits table [] h = tt
name_fits table (b ∷ bs) h = by (last_value (b ∷ bs) table.pairs) (found table.pairs h)
  where
    AtMost : Option ℕ → Type 0
    AtMost None = Unit {0}
    AtMost (Some i) = i ≤ 65535

    here : (x : Option ℕ) (c : Bool) (i : ℕ) → AtMost x → i ≤ 65535 → AtMost (option_or x (cond c (Some i) None))
    here None true i k l = l
    here None false i k l = tt
    here (Some j) c i k l = k

    found : (ps : List (List ℕ × ℕ)) → Each (λ q. q.1 ≤ 65535) ps → AtMost (last_value (b ∷ bs) ps)
    found [] k = tt
    found (p ∷ ps) k = here (last_value (b ∷ bs) ps) (same_name (b ∷ bs) p.0) p.1 (found ps k.1) k.0

    by : (x : Option ℕ) → AtMost x → IsName (indexed (b ∷ bs) x)
    by None k = tt
    by (Some i) k = (let e : i < 65536 = omega arith in e)

name_short : (table : Indices) (name : List ℕ) → length name ≤ 4096 → (spelled_len (written_name table name) ≤ 4098) × (is_long (written_name table name) ≡ false)
name_short table [] h = (omega arith, refl)
name_short table (b ∷ bs) h = by (table.index_of (b ∷ bs))
  where
    short : (n : ℕ) → n ≤ 4096 → nat_lt literal_limit n ≡ false
    short n k = grind (arith, nat_tests)

    by : (x : Option ℕ) → (spelled_len (indexed (b ∷ bs) x) ≤ 4098) × (is_long (indexed (b ∷ bs) x) ≡ false)
    by None = ((let k : length (b ∷ bs) ≤ 4096 = h in omega arith), short (length (b ∷ bs)) h)
    by (Some i) = (omega arith, refl)

none_refused : (a b c d : Bool) (w x y z : EncodeFault) → a ≡ false → b ≡ false → c ≡ false → d ≡ false → cond a (Some w) (cond b (Some x) (cond c (Some y) (cond d (Some z) None))) ≡ None
none_refused a b c d w x y z p q r s =
    ap (λ (t : Bool). cond t (Some w) (cond b (Some x) (cond c (Some y) (cond d (Some z) None)))) p
    ∙ ap (λ (t : Bool). cond t (Some x) (cond c (Some y) (cond d (Some z) None))) q
    ∙ ap (λ (t : Bool). cond t (Some y) (cond d (Some z) None)) r
    ∙ ap (λ (t : Bool). cond t (Some z) None) s

not_refused : (e : EnvelopeOf) → is_long e.sender ≡ false → is_long e.recipient ≡ false → is_long e.manifest ≡ false → canonical_len e ≤ 262144 → refusal e ≡ None
not_refused e a b c h = none_refused (is_long e.sender) (is_long e.recipient) (is_long e.manifest) (nat_lt envelope_limit (canonical_len e)) _ _ _ _ a b c (short (canonical_len e) h)
  where
    short : (n : ℕ) → n ≤ 262144 → nat_lt envelope_limit n ≡ false
    short n k = grind (arith, nat_tests)

ordinary_is : (z : ℤ) → int_eq z control_serializer ≡ false → is_control_serializer z ≡ false
ordinary_is (pos n) h = by_test (n == 17) (λ e. not_both refl (subst (λ (k : ℕ). int_eq (pos k) control_serializer ≡ false) (eq_true n 17 e) h)) (λ e. e)
ordinary_is (negsuc n) h = refl

told_facts : (uid : ℕ) (refs manifests : Adopted) (m : Tell) → uid < 2 ^ 64 → PairFacts refs → PairFacts manifests → IsTell m → EnvelopeFacts (written (paired_indices refs) (paired_indices manifests) (meaning_of uid m))
told_facts uid refs manifests m small h k t =
    let a : (spelled_len (written_name (paired_indices refs) m.sender) ≤ 4098) × (is_long (written_name (paired_indices refs) m.sender) ≡ false) = name_short (paired_indices refs) m.sender t.sender.1 in
    let b : (spelled_len (written_name (paired_indices refs) m.recipient) ≤ 4098) × (is_long (written_name (paired_indices refs) m.recipient) ≡ false) = name_short (paired_indices refs) m.recipient t.recipient.1 in
    let c : (spelled_len (written_name (paired_indices manifests) m.manifest) ≤ 4098) × (is_long (written_name (paired_indices manifests) m.manifest) ≡ false) = name_short (paired_indices manifests) m.manifest t.manifest.1 in
    record {
      fits = record { uid = small; serializer = t.serializer.0; sender = name_fits refs m.sender h; recipient = name_fits refs m.recipient h; manifest = name_fits manifests m.manifest k };
      texts = written_ascii (paired_indices refs) (paired_indices manifests) (meaning_of uid m) (record { sender = t.sender.0; recipient = t.recipient.0; manifest = t.manifest.0 });
      room = not_refused (written (paired_indices refs) (paired_indices manifests) (meaning_of uid m)) a.1 b.1 c.1
          (let x : spelled_len (written_name (paired_indices refs) m.sender) ≤ 4098 = a.0 in
          let y : spelled_len (written_name (paired_indices refs) m.recipient) ≤ 4098 = b.0 in
          let z : spelled_len (written_name (paired_indices manifests) m.manifest) ≤ 4098 = c.0 in
          let p : length m.payload ≤ 131072 = t.payload in
          omega arith);
      ordinary = ordinary_is m.serializer t.serializer.1;
    }

tells_told_keeps : (a : Address) (x : Option ℕ) (dial : ℕ) (m : Tell) → Keeps (tells_told a x dial m)
tells_told_keeps a None dial m = stays_keep
tells_told_keeps a (Some uid) dial m = tells_keep (λ me. lines.Told me (incarnation a uid) dial m)

pub tells_on_keeps : (a : Address) (dial : ℕ) (m : Tell) → IsAddress a → IsTell m → Keeps (tells_on a dial m)
tells_on_keeps a dial m h t = record {
  on = λ d f. (tells_told_keeps a (current_of (peer_at a d.node)) dial m
      ▹ writes_keep (Some dial) (told_as d.node.me.uid (peer_at a d.node) m) (told_facts d.node.me.uid (peer_at a d.node).tables.refs (peer_at a d.node).tables.manifests m f.node.me.uid (peer_facts a d.node h f.node).refs (peer_facts a d.node h f.node).manifests t)).on d f;
}

holds_keeps : (a : Address) (m : Tell) → IsTell m → Keeps (holds a m)
holds_keeps a m t = record {
  on = λ d f. (if_keeps (nat_lt (length (peer_at a d.node).held) most_held) (peer_becomes a (with_held m)) (tells_of (λ me. lines.Refused me reasons.Held))
      (peer_keep a (with_held m) (λ p q. record { address = q.address; current = q.current; out = q.out; held = each_push IsTell p.held m q.held t; refs = q.refs; manifests = q.manifests; control = q.control; ordinary = q.ordinary }))
      (tells_keep (λ me. lines.Refused me reasons.Held))).on d f;
}

tells_or_holds_keeps : (a : Address) (m : Tell) (x : Option ℕ) → IsAddress a → IsTell m → Keeps (tells_or_holds a m x)
tells_or_holds_keeps a m (Some dial) h t = tells_on_keeps a dial m h t
tells_or_holds_keeps a m None h t = holds_keeps a m t

pub tells_message_keeps : (a : Address) (m : Tell) → IsAddress a → IsTell m → Keeps (tells_message a m)
tells_message_keeps a m h t = record { on = λ d f. (tells_or_holds_keeps a m (current_dial streams.Ordinary (peer_at a d.node)) h t).on d f }

pub tells_held_keeps : (a : Address) (dial : ℕ) → IsAddress a → Keeps (tells_held a dial)
tells_held_keeps a dial h = record {
  on = λ d f. (peer_keep a without_held (λ p q. record { address = q.address; current = q.current; out = q.out; held = tt; refs = q.refs; manifests = q.manifests; control = q.control; ordinary = q.ordinary })
      ▹ each_keeps IsTell (peer_at a d.node).held (tells_on a dial) (peer_facts a d.node h f.node).held (λ m t. tells_on_keeps a dial m h t)).on d f;
}
