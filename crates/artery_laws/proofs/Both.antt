-- What is kept beside the whole history that it stands for: parts that lie over both. So both machines do the same.
use Rattle.std.proofs.Common.{◌≡◌, ℕ, zero, suc, ◌+◌, ◌-◌, ◌≤◌, Bool, true, false, cond, List, [], ◌∷◌, ◌++◌, length, map, refl, ap, sym, ◌∙◌, subst, arith}
use Rattle.std.specs.Prelude.{Option, Some, None, slice_get, unwrap_or}
use Rattle.std.specs.Option.{option_map}
use Rattle.artery_base.specs.declared.address.UniqueAddress.{UniqueAddress}
use Rattle.artery_base.specs.declared.message.SysMsg.{SysMsg}
use Rattle.artery_delivery.specs.Outbound as out
use Rattle.artery_delivery.specs.Inbound as inb
use Rattle.artery_tables.specs.InTables as announced
use Rattle.artery_tables.specs.OutTable as adopted
use Rattle.artery_tables.specs.Story as story
use Rattle.artery_detector.specs.Availability as heard
use Rattle.artery_detector.specs.Kept as beat
use Rattle.artery_machine.specs.declared.input.Input.{Input}
use Rattle.artery_machine.specs.Parts.{Parts, kept, whole}
use Rattle.artery_machine.specs.Node.{Node, Peer, Inbound, Origin, new_node}
use Rattle.artery_laws.specs.Standing.{PeerStands, InboundStands, OriginStands, EachStands, NodeStands, DoSame}
use Rattle.artery_machine.specs.Reacting.{starts, step}
use Rattle.artery_laws.specs.Over.{Over, peer_over, inbound_over, origin_over, node_over, seen_through}
use Rattle.artery_laws.proofs.Streams.{FrameLaws, BytesStand, start_stands, piece_stands, frames_same, carries_same}
use Rattle.artery_laws.proofs.OverTicking.{step_over}

-- What the laws of the parts say, as far as it is needed here.
pub record PartLaws : Type 0 where
  pub sent_start : out.Stands out.nothing_kept out.nothing_sent
  pub sent_answer : (m : SysMsg) (k : out.Kept) (s : out.State) → out.Stands k s → out.acceptance m k ≡ out.answer_to m s
  pub sent_accept : (m : SysMsg) (k : out.Kept) (s : out.State) → out.Stands k s → out.Stands (out.kept_accepted m k) (out.accepted m s)
  pub sent_learn : (k : out.Kept) (s : out.State) → out.Stands k s → k.learnt ≡ false → out.Stands (out.kept_learnt k) (out.learnt s)
  pub sent_forget : out.Stands out.kept_forgotten out.forgotten
  pub sent_acked : (n : ℕ) (k : out.Kept) (s : out.State) → out.Stands k s → out.acknowledgement n k ≡ out.answer_to_ack n s
  pub sent_ack : (n : ℕ) (k : out.Kept) (s : out.State) → out.Stands k s → out.Stands (out.kept_acknowledged n k) (out.acknowledged n s)
  pub sent_nack : (n : ℕ) (k : out.Kept) (s : out.State) → out.Stands k s → out.Stands (out.kept_refused n k) (out.refused n s)
  pub sent_rewind : (k : out.Kept) (s : out.State) → out.Stands k s → out.Stands (out.kept_rewound k) (out.rewound s)
  pub sent_next : (k : out.Kept) (s : out.State) → out.Stands k s → out.next_to_write k ≡ out.next_sent s
  pub sent_pump : (k : out.Kept) (s : out.State) → out.Stands k s → out.Stands (out.kept_pumped k) (out.pumped s)
  pub sent_messages : (k : out.Kept) (s : out.State) → out.Stands k s → k.messages ≡ out.unacknowledged s
  pub taken_start : inb.Stands [] []
  pub taken_open : (v : UniqueAddress) (k : List (UniqueAddress × ℕ)) (all : List (UniqueAddress × List SysMsg)) → inb.Stands k all → inb.Stands (inb.with_origin v k) (inb.opened v all)
  pub taken_takes : (v : UniqueAddress) (n : ℕ) (k : List (UniqueAddress × ℕ)) (all : List (UniqueAddress × List SysMsg)) → inb.Stands k all → inb.taking v n k ≡ inb.answer_to_take v n all
  pub taken_take : (v : UniqueAddress) (n : ℕ) (m : SysMsg) (k : List (UniqueAddress × ℕ)) (all : List (UniqueAddress × List SysMsg)) → inb.Stands k all → inb.Stands (inb.with_taken v n k) (inb.taken v n m all)
  pub told_start : announced.Stands announced.nothing_kept announced.nothing_used
  pub told_count : (name : List ℕ) (k : announced.Kept) (s : announced.State) → announced.Stands k s → announced.Stands (announced.kept_counted name k) (announced.used name s)
  pub told_answer : (b : Bool) (k : announced.Kept) (s : announced.State) → announced.Stands k s → announced.advertising b k ≡ announced.answer_to_advertise b s
  pub told_advertise : (b : Bool) (k : announced.Kept) (s : announced.State) → announced.Stands k s → announced.Stands (announced.kept_advertised b k) (announced.advertised b s)
  pub told_confirms : (n : ℕ) (k : announced.Kept) (s : announced.State) → announced.Stands k s → announced.confirming n k ≡ announced.answer_to_confirm n s
  pub told_confirm : (n : ℕ) (k : announced.Kept) (s : announced.State) → announced.Stands k s → announced.Stands (announced.kept_confirmed n k) (announced.confirmed n s)
  pub told_open : (k : announced.Kept) (s : announced.State) → announced.Stands k s → k.announced ≡ announced.announced_in s.story
  pub told_number : (version : ℕ) (k : announced.Kept) (s : announced.State) → announced.Stands k s → announced.number_kept k version ≡ story.number_of s.story version
  pub told_entry : (version index : ℕ) (k : announced.Kept) (s : announced.State) → announced.Stands k s → announced.entry_kept k version index ≡ story.entry_of s.story version index
  pub held_start : adopted.Stands adopted.nothing_held adopted.nothing_adopted
  pub held_adopt : (n : ℕ) (keys : List (List ℕ)) (values : List ℕ) (k : adopted.Held) (s : adopted.State) → adopted.Stands k s → adopted.Stands (adopted.held_adopted n keys values k) (adopted.adopted n keys values s)
  pub beat_start : beat.Stands beat.nothing_kept []
  pub beat_ask : (now : ℕ) (k : beat.Kept) (beats : List heard.Beat) → beat.Stands k beats → beat.Stands (beat.kept_asked now k) (beats ++ heard.ask now ∷ [])
  pub beat_hear : (now : ℕ) (k : beat.Kept) (beats : List heard.Beat) → beat.Stands k beats → beat.Stands (beat.kept_heard now k) (beats ++ heard.heartbeat now ∷ [])
  pub beat_available : (now : ℕ) (k : beat.Kept) (beats : List heard.Beat) → beat.Stands k beats → beat.kept_available now k ≡ heard.is_available now beats
  pub frames : FrameLaws

-- Something kept, and the history that it stands for.
pub record Both {K S : Type 0} (Stands : K → S → Type 0) : Type 0 where
  pub k : K
  pub s : S
  pub stands : Stands k s

-- the number of the table that was confirmed last
pub current_same : (k : announced.Kept) (s : announced.State) → announced.Stands k s → announced.number_in k.current ≡ s.story.confirmed
current_same k s h = ap announced.number_in h.current ∙ by s.story.confirmed h.story.announced
  where
    found_in : (xs : List (List (List ℕ))) (n m : ℕ) → suc n ≤ length xs → announced.number_in (option_map (story.table_of m) (slice_get xs n)) ≡ m
    found_in [] n m l = (let t : suc n ≤ 0 = l in absurd (omega arith))
    found_in (x ∷ xs) zero m l = refl
    found_in (x ∷ xs) (suc n) m l = found_in xs n m (let t : suc (suc n) ≤ suc (length xs) = l in omega arith)

    found : (xs : List (List (List ℕ))) (n : ℕ) → suc n ≤ length xs → announced.number_in (option_map (story.table_of (suc n)) (slice_get xs n)) ≡ suc n
    found xs n l = found_in xs n (suc n) l

    by : (c : ℕ) → c ≤ length s.story.tables → announced.number_in (story.numbered s.story c) ≡ c
    by zero l = refl
    by (suc n) l = found s.story.tables n l

-- the number of the last message taken
pub last_same : (v : UniqueAddress) (k : List (UniqueAddress × ℕ)) (all : List (UniqueAddress × List SysMsg)) → inb.Stands k all → inb.next_of v k - 1 ≡ length (inb.messages_from v all)
last_same v k all h = ap (λ (es : List (UniqueAddress × ℕ)). inb.next_of v es - 1) h.numbers ∙ ap (λ x. unwrap_or x 1 - 1) (looked all) ∙ by (inb.taken_of v all)
  where
    looked : (all : List (UniqueAddress × List SysMsg)) → inb.expected_of v (map (λ e. (e.0, length e.1 + 1)) all) ≡ option_map (λ (ms : List SysMsg). length ms + 1) (inb.taken_of v all)
    looked [] = refl
    looked (e ∷ es) = at_one (inb.same_origin v e.0) (looked es)
      where
        at_one : (b : Bool) → inb.expected_of v (map (λ e. (e.0, length e.1 + 1)) es) ≡ option_map (λ (ms : List SysMsg). length ms + 1) (inb.taken_of v es)
            → cond b (Some (length e.1 + 1)) (inb.expected_of v (map (λ e. (e.0, length e.1 + 1)) es)) ≡ option_map (λ (ms : List SysMsg). length ms + 1) (cond b (Some e.1) (inb.taken_of v es))
        at_one true rest = refl
        at_one false rest = rest

    by : (x : Option (List SysMsg)) → unwrap_or (option_map (λ (ms : List SysMsg). length ms + 1) x) 1 - 1 ≡ length (unwrap_or x [])
    by None = refl
    by (Some ms) = (let e : length ms + 1 - 1 ≡ length ms = omega arith in e)

-- a UID is learnt on both sides
pub learn_both : PartLaws → (k : out.Kept) (s : out.State) → out.Stands k s → out.Stands (kept.learnt k) (whole.learnt s)
learn_both law k s h = by k.learnt refl
  where
    by : (b : Bool) → k.learnt ≡ b → out.Stands (kept.learnt k) (whole.learnt s)
    by true e = subst (λ x. out.Stands (kept.learnt k) (cond x s (out.learnt s))) (sym (sym h.learnt ∙ e)) (subst (λ x. out.Stands (cond x k (out.kept_learnt k)) s) (sym e) h)
    by false e = subst (λ x. out.Stands (kept.learnt k) (cond x s (out.learnt s))) (sym (sym h.learnt ∙ e)) (subst (λ x. out.Stands (cond x k (out.kept_learnt k)) (out.learnt s)) (sym e) (law.sent_learn k s h e))

-- lists, one by one
abbrev all_of : {K S B : Type 0} (R : K → S → Type 0) (one : (k : K) (s : S) → R k s → B) (ks : List K) (ss : List S) → EachStands R ks ss → List B
all_of R one [] [] h = []
all_of R one [] (s ∷ ss) h = []
all_of R one (k ∷ ks) [] h = []
all_of R one (k ∷ ks) (s ∷ ss) h = one k s h.0 ∷ all_of R one ks ss h.1

all_kept : {K S B : Type 0} (R : K → S → Type 0) (one : (k : K) (s : S) → R k s → B) (to : B → K) → ((k : K) (s : S) (h : R k s) → to (one k s h) ≡ k)
    → (ks : List K) (ss : List S) (h : EachStands R ks ss) → map to (all_of R one ks ss h) ≡ ks
all_kept R one to is [] [] h = refl
all_kept R one to is [] (s ∷ ss) h = absurd h
all_kept R one to is (k ∷ ks) [] h = absurd h
all_kept R one to is (k ∷ ks) (s ∷ ss) h = ap (λ x. x ∷ map to (all_of R one ks ss h.1)) (is k s h.0) ∙ ap (λ r. k ∷ r) (all_kept R one to is ks ss h.1)

all_whole : {K S B : Type 0} (R : K → S → Type 0) (one : (k : K) (s : S) → R k s → B) (to : B → S) → ((k : K) (s : S) (h : R k s) → to (one k s h) ≡ s)
    → (ks : List K) (ss : List S) (h : EachStands R ks ss) → map to (all_of R one ks ss h) ≡ ss
all_whole R one to is [] [] h = refl
all_whole R one to is [] (s ∷ ss) h = absurd h
all_whole R one to is (k ∷ ks) [] h = absurd h
all_whole R one to is (k ∷ ks) (s ∷ ss) h = ap (λ x. x ∷ map to (all_of R one ks ss h.1)) (is k s h.0) ∙ ap (λ r. s ∷ r) (all_whole R one to is ks ss h.1)

module _ (law : PartLaws) where
  abbrev pub both : Parts
  both = record {
    Out = Both out.Stands;
    nothing_sent = record { k = kept.nothing_sent; s = whole.nothing_sent; stands = law.sent_start };
    acceptance = λ m o. kept.acceptance m o.k;
    accepted = λ m o. record { k = kept.accepted m o.k; s = whole.accepted m o.s; stands = law.sent_accept m o.k o.s o.stands };
    learnt = λ o. record { k = kept.learnt o.k; s = whole.learnt o.s; stands = learn_both law o.k o.s o.stands };
    forgotten = record { k = kept.forgotten; s = whole.forgotten; stands = law.sent_forget };
    acknowledgement = λ n o. kept.acknowledgement n o.k;
    acknowledged = λ n o. record { k = kept.acknowledged n o.k; s = whole.acknowledged n o.s; stands = law.sent_ack n o.k o.s o.stands };
    refused = λ n o. record { k = kept.refused n o.k; s = whole.refused n o.s; stands = law.sent_nack n o.k o.s o.stands };
    rewound = λ o. record { k = kept.rewound o.k; s = whole.rewound o.s; stands = law.sent_rewind o.k o.s o.stands };
    next = λ o. kept.next o.k;
    pumped = λ o. record { k = kept.pumped o.k; s = whole.pumped o.s; stands = law.sent_pump o.k o.s o.stands };
    unacknowledged = λ o. kept.unacknowledged o.k;
    In = Both inb.Stands;
    nothing_taken = record { k = []; s = []; stands = law.taken_start };
    opened = λ v i. record { k = kept.opened v i.k; s = whole.opened v i.s; stands = law.taken_open v i.k i.s i.stands };
    taking = λ v n i. kept.taking v n i.k;
    taken = λ v n m i. record { k = kept.taken v n m i.k; s = whole.taken v n m i.s; stands = law.taken_take v n m i.k i.s i.stands };
    last_taken = λ v i. kept.last_taken v i.k;
    Announced = Both announced.Stands;
    nothing_announced = record { k = kept.nothing_announced; s = whole.nothing_announced; stands = law.told_start };
    counted = λ name t. record { k = kept.counted name t.k; s = whole.counted name t.s; stands = law.told_count name t.k t.s t.stands };
    advertising = λ b t. kept.advertising b t.k;
    advertised = λ b t. record { k = kept.advertised b t.k; s = whole.advertised b t.s; stands = law.told_advertise b t.k t.s t.stands };
    unconfirmed = λ t. kept.unconfirmed t.k;
    confirming = λ n t. kept.confirming n t.k;
    confirmed = λ n t. record { k = kept.confirmed n t.k; s = whole.confirmed n t.s; stands = law.told_confirm n t.k t.s t.stands };
    current_number = λ t. kept.current_number t.k;
    number_of = λ t. kept.number_of t.k;
    entries = λ t. kept.entries t.k;
    Adopted = Both adopted.Stands;
    nothing_adopted = record { k = kept.nothing_adopted; s = whole.nothing_adopted; stands = law.held_start };
    adopting = λ n t. kept.adopting n t.k;
    adopted = λ n keys values t. record { k = kept.adopted n keys values t.k; s = whole.adopted n keys values t.s; stands = law.held_adopt n keys values t.k t.s t.stands };
    indices = λ t. kept.indices t.k;
    Bytes = Both BytesStand;
    nothing_came = record { k = kept.nothing_came; s = whole.nothing_came; stands = start_stands law.frames };
    frames = λ piece b. kept.frames piece b.k;
    came = λ piece b. record { k = kept.came piece b.k; s = whole.came piece b.s; stands = piece_stands law.frames piece b.k b.s b.stands };
    carries = λ b. kept.carries b.k;
    fault = λ b. kept.fault b.k;
    Beats = Both beat.Stands;
    no_beats = record { k = kept.no_beats; s = whole.no_beats; stands = law.beat_start };
    asked = λ now b. record { k = kept.asked now b.k; s = whole.asked now b.s; stands = law.beat_ask now b.k b.s b.stands };
    heard = λ now b. record { k = kept.heard now b.k; s = whole.heard now b.s; stands = law.beat_hear now b.k b.s b.stands };
    available = λ now b. kept.available now b.k;
  }

  abbrev pub over_kept : Over both kept
  over_kept = record {
    out = λ o. o.k;
    ins = λ i. i.k;
    announced = λ t. t.k;
    adopted = λ t. t.k;
    bytes = λ b. b.k;
    beats = λ b. b.k;
    nothing_sent = refl;
    acceptance = λ m o. refl;
    accepted = λ m o. refl;
    learnt = λ o. refl;
    forgotten = refl;
    acknowledgement = λ n o. refl;
    acknowledged = λ n o. refl;
    refused = λ n o. refl;
    rewound = λ o. refl;
    next = λ o. refl;
    pumped = λ o. refl;
    unacknowledged = λ o. refl;
    nothing_taken = refl;
    opened = λ v i. refl;
    taking = λ v n i. refl;
    taken = λ v n m i. refl;
    last_taken = λ v i. refl;
    nothing_announced = refl;
    counted = λ name t. refl;
    advertising = λ b t. refl;
    advertised = λ b t. refl;
    unconfirmed = λ t. refl;
    confirming = λ n t. refl;
    confirmed = λ n t. refl;
    current_number = λ t. refl;
    number_of = λ t v. refl;
    entries = λ t v i. refl;
    nothing_adopted = refl;
    adopting = λ n t. refl;
    adopts = λ n keys values t. refl;
    indices_version = λ t. refl;
    indices_index = λ t name. refl;
    nothing_came = refl;
    frames = λ piece b. refl;
    came = λ piece b. refl;
    carries = λ b. refl;
    fault = λ b. refl;
    no_beats = refl;
    asked = λ now b. refl;
    heard = λ now b. refl;
    available = λ now b. refl;
  }

  abbrev pub over_whole : Over both whole
  over_whole = record {
    out = λ o. o.s;
    ins = λ i. i.s;
    announced = λ t. t.s;
    adopted = λ t. t.s;
    bytes = λ b. b.s;
    beats = λ b. b.s;
    nothing_sent = refl;
    acceptance = λ m o. sym (law.sent_answer m o.k o.s o.stands);
    accepted = λ m o. refl;
    learnt = λ o. refl;
    forgotten = refl;
    acknowledgement = λ n o. sym (law.sent_acked n o.k o.s o.stands);
    acknowledged = λ n o. refl;
    refused = λ n o. refl;
    rewound = λ o. refl;
    next = λ o. sym (law.sent_next o.k o.s o.stands);
    pumped = λ o. refl;
    unacknowledged = λ o. sym (law.sent_messages o.k o.s o.stands);
    nothing_taken = refl;
    opened = λ v i. refl;
    taking = λ v n i. sym (law.taken_takes v n i.k i.s i.stands);
    taken = λ v n m i. refl;
    last_taken = λ v i. sym (last_same v i.k i.s i.stands);
    nothing_announced = refl;
    counted = λ name t. refl;
    advertising = λ b t. sym (law.told_answer b t.k t.s t.stands);
    advertised = λ b t. refl;
    unconfirmed = λ t. sym (law.told_open t.k t.s t.stands);
    confirming = λ n t. sym (law.told_confirms n t.k t.s t.stands);
    confirmed = λ n t. refl;
    current_number = λ t. sym (current_same t.k t.s t.stands);
    number_of = λ t v. sym (law.told_number v t.k t.s t.stands);
    entries = λ t v i. sym (law.told_entry v i t.k t.s t.stands);
    nothing_adopted = refl;
    adopting = λ n t. ap (adopted.adopting n) (sym t.stands.number);
    adopts = λ n keys values t. refl;
    indices_version = λ t. ap story.version_of (sym t.stands.number);
    indices_index = λ t name. sym (t.stands.indices name);
    nothing_came = refl;
    frames = λ piece b. sym (frames_same law.frames piece b.k b.s b.stands);
    came = λ piece b. refl;
    carries = λ b. sym (carries_same law.frames b.k b.s b.stands);
    fault = λ b. sym b.stands.fault;
    no_beats = refl;
    asked = λ now b. refl;
    heard = λ now b. refl;
    available = λ now b. sym (law.beat_available now b.k b.s b.stands);
  }

  -- ---- a node of both stands on both sides

  peers_stand : (bs : List (Peer both)) → EachStands PeerStands (map (peer_over over_kept) bs) (map (peer_over over_whole) bs)
  peers_stand [] = tt
  peers_stand (b ∷ bs) = (
    record {
      incarnations = refl;
      out = b.out.stands;
      held = refl;
      refs = b.tables.refs.stands;
      manifests = b.tables.manifests.stands;
      control = refl;
      ordinary = refl;
      quiet = refl;
      patience = refl;
      used = refl;
      asleep = refl;
      beats = b.beats.stands;
      last_beat = refl;
    },
    peers_stand bs,
  )

  inbound_stand : (bs : List (Inbound both)) → EachStands InboundStands (map (inbound_over over_kept) bs) (map (inbound_over over_whole) bs)
  inbound_stand [] = tt
  inbound_stand (b ∷ bs) = (record { number = refl; bytes = b.bytes.stands; state = refl; owed = refl; shown = refl }, inbound_stand bs)

  origins_stand : (bs : List (Origin both)) → EachStands OriginStands (map (origin_over over_kept) bs) (map (origin_over over_whole) bs)
  origins_stand [] = tt
  origins_stand (b ∷ bs) = (record { who = refl; refs = b.tables.refs.stands; manifests = b.tables.manifests.stands; advertised = refl; owes = refl }, origins_stand bs)

  both_stand : (b : Node both) → NodeStands (node_over over_kept b) (node_over over_whole b)
  both_stand b = record {
    me = refl;
    moment = refl;
    dials = refl;
    peers = peers_stand b.peers;
    inbound = inbound_stand b.inbound;
    origins = origins_stand b.origins;
    taken = b.taken.stands;
    watching = refl;
  }

  -- ---- and where one stands for another, there is a node of both

  abbrev one_peer : (p : Peer kept) (q : Peer whole) → PeerStands p q → Peer both
  one_peer p q h = record {
    incarnations = p.incarnations;
    out = record { k = p.out; s = q.out; stands = h.out };
    held = p.held;
    tables = record { refs = record { k = p.tables.refs; s = q.tables.refs; stands = h.refs }; manifests = record { k = p.tables.manifests; s = q.tables.manifests; stands = h.manifests } };
    control = p.control;
    ordinary = p.ordinary;
    quiet = p.quiet;
    patience = p.patience;
    used = p.used;
    asleep = p.asleep;
    beats = record { k = p.beats; s = q.beats; stands = h.beats };
    last_beat = p.last_beat;
  }

  peer_is : (p : Peer kept) (q : Peer whole) (h : PeerStands p q) → peer_over over_whole (one_peer p q h) ≡ q
  peer_is p q h = rw (h.incarnations, h.held, h.control, h.ordinary, h.quiet, h.patience, h.used, h.asleep, h.last_beat) refl

  abbrev one_inbound : (p : Inbound kept) (q : Inbound whole) → InboundStands p q → Inbound both
  one_inbound p q h = record { number = p.number; bytes = record { k = p.bytes; s = q.bytes; stands = h.bytes }; state = p.state; owed = p.owed; shown = p.shown }

  inbound_is : (p : Inbound kept) (q : Inbound whole) (h : InboundStands p q) → inbound_over over_whole (one_inbound p q h) ≡ q
  inbound_is p q h = rw (h.number, h.state, h.owed, h.shown) refl

  abbrev one_origin : (p : Origin kept) (q : Origin whole) → OriginStands p q → Origin both
  one_origin p q h = record {
    who = p.who;
    tables = record { refs = record { k = p.tables.refs; s = q.tables.refs; stands = h.refs }; manifests = record { k = p.tables.manifests; s = q.tables.manifests; stands = h.manifests } };
    advertised = p.advertised;
    owes = p.owes;
  }

  origin_is : (p : Origin kept) (q : Origin whole) (h : OriginStands p q) → origin_over over_whole (one_origin p q h) ≡ q
  origin_is p q h = rw (h.who, h.advertised, h.owes) refl

  abbrev node_of : (n : Node kept) (w : Node whole) → NodeStands n w → Node both
  node_of n w h = record {
    me = n.me;
    moment = n.moment;
    dials = n.dials;
    peers = all_of PeerStands one_peer n.peers w.peers h.peers;
    inbound = all_of InboundStands one_inbound n.inbound w.inbound h.inbound;
    origins = all_of OriginStands one_origin n.origins w.origins h.origins;
    taken = record { k = n.taken; s = w.taken; stands = h.taken };
    watching = n.watching;
  }

  is_kept : (n : Node kept) (w : Node whole) (h : NodeStands n w) → node_over over_kept (node_of n w h) ≡ n
  is_kept n w h =
      ap (λ ps. record (node_over over_kept (node_of n w h)) { peers = ps }) (all_kept PeerStands one_peer (peer_over over_kept) (λ p q i. refl) n.peers w.peers h.peers)
      ∙ ap (λ is. record (node_over over_kept (node_of n w h)) { peers = n.peers; inbound = is }) (all_kept InboundStands one_inbound (inbound_over over_kept) (λ p q i. refl) n.inbound w.inbound h.inbound)
      ∙ ap (λ os. record (node_over over_kept (node_of n w h)) { peers = n.peers; inbound = n.inbound; origins = os }) (all_kept OriginStands one_origin (origin_over over_kept) (λ p q i. refl) n.origins w.origins h.origins)

  is_whole : (n : Node kept) (w : Node whole) (h : NodeStands n w) → node_over over_whole (node_of n w h) ≡ w
  is_whole n w h =
      rw (
        h.me,
        h.moment,
        h.dials,
        h.watching,
        all_whole PeerStands one_peer (peer_over over_whole) peer_is n.peers w.peers h.peers,
        all_whole InboundStands one_inbound (inbound_over over_whole) inbound_is n.inbound w.inbound h.inbound,
        all_whole OriginStands one_origin (origin_over over_whole) origin_is n.origins w.origins h.origins,
      ) refl

  -- ---- both do the same

  both_do : (i : Input) (b : Node both) → DoSame (step i (node_over over_kept b)) (step i (node_over over_whole b))
  both_do i b =
      subst (λ d. DoSame d (step i (node_over over_whole b))) (sym (step_over over_kept i b))
      (subst (λ d. DoSame (seen_through over_kept (step i b)) d) (sym (step_over over_whole i b)) (record { deeds = refl; stands = both_stand (step i b).node }))

  pub do_same : (i : Input) (n : Node kept) (w : Node whole) → NodeStands n w → DoSame (step i n) (step i w)
  do_same i n w h =
      subst (λ m. DoSame (step i m) (step i w)) (is_kept n w h) (subst (λ v. DoSame (step i (node_over over_kept (node_of n w h))) (step i v)) (is_whole n w h) (both_do i (node_of n w h)))

  start_stands_here : (me : UniqueAddress) → NodeStands (new_node me) (new_node me)
  start_stands_here me = record { me = refl; moment = refl; dials = refl; peers = tt; inbound = tt; origins = tt; taken = law.taken_start; watching = refl }

  pub starts_same : (me : UniqueAddress) → DoSame (starts me) (starts me)
  starts_same me = record { deeds = refl; stands = start_stands_here me }
