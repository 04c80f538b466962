-- What a frame says to the node that hears it, and how many frames were given to it.
use Rattle.std.proofs.Common.{◌≡◌, ℕ, zero, suc, ◌+◌, ◌≤◌, ◌<◌, Bool, true, false, cond, List, [], ◌∷◌, ◌++◌, length, take, drop, refl, sym, ◌∙◌, ap, subst, arith}
use Rattle.std.specs.Prelude.{Option, None, Some, Result, Ok, Err, ℤ, ◌==◌, ◌||◌, is_some, slice_get}
use Rattle.artery_base.specs.declared.address.UniqueAddress.{UniqueAddress}
use Rattle.artery_base.specs.declared.message.Tell.{Tell}
use Rattle.artery_codec.specs.declared.message.DropRule.{DropRule as CodecRule}
use Rattle.artery_codec.specs.Meaning.{Meaning, Entries, name_meaning, envelope_meaning}
use Rattle.artery_control.specs.declared.control.Control.{Control}
use Rattle.artery_control.specs.declared.fault.ControlFault.{ControlFault}
use Rattle.artery_control.specs.Message.{message_of}
use Rattle.artery_control_frame.specs.ControlFrame.{control_envelope}
use Rattle.artery_frame.specs.declared.stream.Stream.{Stream}
use Rattle.artery_frame.specs.declared.stream.Stream.TheVariants as streams
use Rattle.artery_handshake.specs.declared.in_conn.InState.{InState}
use Rattle.artery_header.specs.declared.envelope.Which.TheVariants.{Sender, Recipient, Manifest}
use Rattle.artery_header.specs.Envelope.{EnvelopeOf}
use Rattle.artery_journal.specs.declared.line.Line.{Line}
use Rattle.artery_journal.specs.declared.rule.Rule.{Rule}
use Rattle.artery_journal.specs.declared.rule.Rule.TheVariants as rules
use Rattle.artery_journal.specs.declared.words.Kind.{Kind}
use Rattle.artery_tables.specs.Story.{Story}
use Rattle.artery_machine.specs.Deeds.{Writing, Begins, Controls, Sends}
use Rattle.artery_machine.specs.Parts.{whole}
use Rattle.artery_machine.specs.Ways.{Wrote}
use Rattle.artery_machine.specs.Connections.{is_inward}
use Rattle.artery_machine.specs.Node.{Node, Inbound, OfKinds, of_kind, inbound_at, speaker_in}
use Rattle.artery_machine.specs.Verdict.{Content, Controls as SaysControl, Ordinary as SaysOrdinary, is_control_serializer, belongs, content_of, control_read, is_handshake, is_from, is_uid_of, unless_dropped, meaning_or_rule, meant, said_by, tables_for, envelope_said, read_said, content_in}
use Rattle.artery_flight.specs.Flight.{is_frame, frame_of}
use Rattle.artery_flight.specs.Answers.{IsReadBack}
use Rattle.artery_names.proofs.Lists.{by_test, not_both, some_same, eq_true, and_left, and_right, Each, Within, within_more}
use Rattle.artery_names.proofs.Said.{all_said, sends_said, carried}
use Rattle.artery_names.proofs.Talks.{Told, adopted_by, told_by, messages}
use Rattle.artery_names.proofs.Facts.{Network, Conn, journal, Out, IsShown, InFacts, Heard, stories_of, sent_in, NodeFacts, Good}
use Rattle.artery_names.proofs.Meant.{ok_same, not_ok, then_ok, place_within}
use Rattle.artery_names.proofs.Keeping.{nowhere}

-- ---- what an envelope says

unless_is : {X : Type 0} (b : Bool) (rule : Rule) (x y : X) → unless_dropped b rule x ≡ Ok y → (b ≡ true) × (x ≡ y)
unless_is true rule x y h = (refl, ok_same (unless_dropped true rule x) refl h)
unless_is false rule x y h = not_ok h

-- What an envelope on a stream means to a node, where it says something.
pub record MeansHere (stream : Option Stream) (n : Node whole) (i : Inbound whole) (e : EnvelopeOf) (content : Content) : Type 0 where
  pub meaning : Meaning
  pub means : envelope_meaning (whole.entries (tables_for i.state n).refs) (whole.entries (tables_for i.state n).manifests) e ≡ Ok meaning
  pub belongs : belongs stream meaning ≡ true
  pub says : content_of e meaning ≡ Ok content

meaning_is : (r : Result Meaning CodecRule) (m : Meaning) → meaning_or_rule r ≡ Ok m → r ≡ Ok m
meaning_is (Ok x) m h = ap Ok (ok_same (meaning_or_rule (Ok x)) refl h)
meaning_is (Err e) m h = not_ok h

-- the meaning, that it belongs there, and what it says
pub record SaidSo (stream : Option Stream) (e : EnvelopeOf) (meaning : Result Meaning Rule) (content : Content) : Type 0 where
  pub m : Meaning
  pub is : meaning ≡ Ok m
  pub belongs : belongs stream m ≡ true
  pub says : content_of e m ≡ Ok content

said_so : (state : InState) (stream : Option Stream) (e : EnvelopeOf) (meaning : Result Meaning Rule) (content : Content) → said_by state stream e meaning ≡ Ok content → SaidSo stream e meaning content
unfolding said_by
said_so state stream e meaning content h =
    let a = then_ok meaning _ content h in
    let b = then_ok (unless_dropped (belongs stream a.0) rules.Stream a.0) _ content a.2 in
    let c = then_ok (content_of e a.0) _ content b.2 in
    let d = then_ok (unless_dropped (is_some (speaker_in state) || is_handshake c.0) rules.NoHandshake c.0) _ content c.2 in
    let same : c.0 ≡ content = (unless_is (is_from e.uid state c.0) rules.From c.0 content d.2).1 in
    record { m = a.0; is = a.1; belongs = (unless_is (belongs stream a.0) rules.Stream a.0 b.0 b.1).0; says = c.1 ∙ ap Ok same }

means_here : (stream : Option Stream) (n : Node whole) (i : Inbound whole) (e : EnvelopeOf) (content : Content) → envelope_said stream n i e ≡ Ok content → MeansHere stream n i e content
means_here stream n i e content h = by (is_uid_of i.state e.uid) h
  where
    by : (b : Bool) → cond b (said_by i.state stream e (meaning_or_rule (meant whole (tables_for i.state n) e))) (Err rules.Uid) ≡ Ok content → MeansHere stream n i e content
    by true k = (let a : SaidSo stream e (meaning_or_rule (meant whole (tables_for i.state n) e)) content = said_so i.state stream e (meaning_or_rule (meant whole (tables_for i.state n) e)) content k in
        record { meaning = a.m; means = meaning_is (meant whole (tables_for i.state n) e) a.m a.is; belongs = a.belongs; says = a.says })
    by false k = not_ok k

serializer_stays : (refs manifests : Entries) (e : EnvelopeOf) (m : Meaning) → envelope_meaning refs manifests e ≡ Ok m → m.serializer ≡ e.serializer
unfolding envelope_meaning
serializer_stays refs manifests e m h =
    let s = then_ok (name_meaning refs Sender e.refs_version e.sender) _ m h in
    let c = then_ok (name_meaning refs Recipient e.refs_version e.recipient) _ m s.2 in
    let k = then_ok (name_meaning manifests Manifest e.manifests_version e.manifest) _ m c.2 in
    let made : record { uid = e.uid; serializer = e.serializer; sender = s.0; recipient = c.0; manifest = k.0; payload = e.payload } ≡ m = ok_same (Ok (record { uid = e.uid; serializer = e.serializer; sender = s.0; recipient = c.0; manifest = k.0; payload = e.payload })) refl k.2 in
    ap (λ (x : Meaning). x.serializer) (sym made)

-- What was written says an ordinary message: it is its envelope, which does not come on the control stream.
pub record IsOrdinary (stream : Option Stream) (n : Node whole) (i : Inbound whole) (x : Writing) (e : EnvelopeOf) (m : Meaning) : Type 0 where
  pub sends : x ≡ Sends e
  pub means : envelope_meaning (whole.entries (tables_for i.state n).refs) (whole.entries (tables_for i.state n).manifests) e ≡ Ok m
  pub apart : stream ≡ Some streams.Control → ⊥

not_ordinary : {P : Type 0} (r : Result Control ControlFault) (e : EnvelopeOf) (m : Meaning) → control_read r ≡ Ok (SaysOrdinary e m) → P
not_ordinary (Ok control) e m h = other (ok_same (control_read (Ok control)) refl h)
  where
    other : {Q : Type 0} → SaysControl control ≡ SaysOrdinary e m → Q
    other k = cc
not_ordinary (Err fault) e m h = not_ok h

both_same : {e f : EnvelopeOf} {m k : Meaning} → SaysOrdinary e m ≡ SaysOrdinary f k → (e ≡ f) × (m ≡ k)
both_same {e} {f} {m} {k} h = (first h, second h)
  where
    first : SaysOrdinary e m ≡ SaysOrdinary f k → e ≡ f
    first q = cc

    second : SaysOrdinary e m ≡ SaysOrdinary f k → m ≡ k
    second q = cc

pub ordinary_is : (stream : Option Stream) (n : Node whole) (i : Inbound whole) (uid : ℕ) (x : Writing) (e : EnvelopeOf) (m : Meaning) → is_frame x ≡ true → IsReadBack uid x → content_in stream n i (frame_of uid x) ≡ Ok (SaysOrdinary e m) → IsOrdinary stream n i x e m
ordinary_is stream n i uid (Begins s) e m f r h = not_both refl (sym f)
ordinary_is stream n i uid (Controls control) e m f r h =
    let a : MeansHere stream n i (control_envelope control uid) (SaysOrdinary e m) = means_here stream n i (control_envelope control uid) (SaysOrdinary e m) (ap (read_said stream n i) (sym r.1) ∙ h) in
    let kind : a.meaning.serializer ≡ (control_envelope control uid).serializer = serializer_stays (whole.entries (tables_for i.state n).refs) (whole.entries (tables_for i.state n).manifests) (control_envelope control uid) a.meaning a.means in
    let P : ℤ → Type 0 = λ z. cond (is_control_serializer z) (control_read (message_of a.meaning.manifest a.meaning.payload)) (Ok (SaysOrdinary (control_envelope control uid) a.meaning)) ≡ Ok (SaysOrdinary e m) in
    not_ordinary (message_of a.meaning.manifest a.meaning.payload) e m (subst P kind a.says)
ordinary_is stream n i uid (Sends envelope) e m f r h =
    let a : MeansHere stream n i envelope (SaysOrdinary e m) = means_here stream n i envelope (SaysOrdinary e m) (ap (read_said stream n i) (sym r.1) ∙ h) in
    let kind : a.meaning.serializer ≡ envelope.serializer = serializer_stays (whole.entries (tables_for i.state n).refs) (whole.entries (tables_for i.state n).manifests) envelope a.meaning a.means in
    let other : is_control_serializer a.meaning.serializer ≡ false = ap is_control_serializer kind ∙ r.2 in
    let P : Bool → Type 0 = λ b. cond b (control_read (message_of a.meaning.manifest a.meaning.payload)) (Ok (SaysOrdinary envelope a.meaning)) ≡ Ok (SaysOrdinary e m) in
    let says : Ok (SaysOrdinary envelope a.meaning) ≡ Ok (SaysOrdinary e m) = subst P other a.says in
    let same : (envelope ≡ e) × (a.meaning ≡ m) = both_same (ok_same (Ok (SaysOrdinary e m)) (sym says) refl) in
    let Q : Meaning → Type 0 = λ z. envelope_meaning (whole.entries (tables_for i.state n).refs) (whole.entries (tables_for i.state n).manifests) e ≡ Ok z in
    let R : EnvelopeOf → Type 0 = λ z. envelope_meaning (whole.entries (tables_for i.state n).refs) (whole.entries (tables_for i.state n).manifests) z ≡ Ok a.meaning in
    record {
      sends = ap Sends same.0;
      means = subst Q same.1 (subst R same.0 a.means);
      apart = λ c. not_both (ap (λ (s : Option Stream). belongs s a.meaning) (sym c) ∙ a.belongs) other;
    }

-- ---- how much was given

-- So much was given on one connection, and as before on the others.
abbrev pub then_given : (ℕ → ℕ) → ℕ → ℕ → ℕ → ℕ
then_given given k g = λ x. cond (x == k) g (given x)

take_longer : {X : Type 0} (xs : List X) (s t : ℕ) → s ≤ t → (rest : List X) × (take t xs ≡ take s xs ++ rest)
take_longer xs zero t h = (take t xs, refl)
take_longer xs (suc s) zero h = (let f : ⊥ = omega arith in absurd f)
take_longer [] (suc s) (suc t) h = ([], refl)
take_longer (x ∷ xs) (suc s) (suc t) h = (let r = take_longer xs s t (omega arith) in (r.0, ap (λ l. x ∷ l) r.1))

said_less : {X : Type 0} (says : Writing → List X) (ws : List Wrote) (g h : ℕ) → g ≤ h → length (all_said says (take g ws)) ≤ length (all_said says (take h ws))
said_less says ws zero h l = omega arith
said_less says ws (suc g) zero l = (let f : ⊥ = omega arith in absurd f)
said_less says [] (suc g) (suc h) l = omega arith
said_less says (w ∷ ws) (suc g) (suc h) l = more (all_said says (take g ws)) (all_said says (take h ws)) (says w.writing) (said_less says ws g h (omega arith))
  where
    more : {X : Type 0} (ys zs xs : List X) → length ys ≤ length zs → length (xs ++ ys) ≤ length (xs ++ zs)
    more ys zs [] k = k
    more ys zs (x ∷ xs) k = (let r : length (xs ++ ys) ≤ length (xs ++ zs) = more ys zs xs k in omega arith)

messages_append : (xs ys : List Told) → messages (xs ++ ys) ≡ messages xs ++ messages ys
messages_append [] ys = refl
messages_append (x ∷ xs) ys = ap (λ l. x.message ∷ l) (messages_append xs ys)

pub within_longer : (xs : List Tell) (ts : List Told) (s t : ℕ) → s ≤ t → Within xs (messages (take s ts)) → Within xs (messages (take t ts))
within_longer xs ts s t h k = (let r = take_longer ts s t h in
    subst (λ l. Within xs l) (sym (ap messages r.1 ∙ messages_append (take s ts) r.0)) (within_more xs (messages (take s ts)) (messages r.0) k))

each_later : (P : Told → Type 0) (ts : List Told) (s t : ℕ) → s ≤ t → Each P (drop s ts) → Each P (drop t ts)
each_later P ts zero zero h k = k
each_later P [] zero (suc t) h k = tt
each_later P (x ∷ ts) zero (suc t) h k = each_later P ts zero t (omega arith) k.1
each_later P ts (suc s) zero h k = (let f : ⊥ = omega arith in absurd f)
each_later P [] (suc s) (suc t) h k = tt
each_later P (x ∷ ts) (suc s) (suc t) h k = each_later P ts s t (omega arith) k

shown_later : (x : Option ℕ) (kind : Kind) (adopted : OfKinds ℕ) (ts : List Told) (s t : ℕ) → s ≤ t → IsShown x kind adopted (drop s ts) → IsShown x kind adopted (drop t ts)
shown_later None kind adopted ts s t h k = tt
shown_later (Some x) kind adopted ts s t h k = (k.0, each_later _ ts s t h k.1)

given_in : (me a : UniqueAddress) (g h : ℕ) (story : Kind → Story) (ls : List Line) (i : Inbound whole) (c : Conn) → g ≤ h → h ≤ length c.way.all → InFacts me a g story ls i c → InFacts me a h story ls i c
given_in me a g h story ls i c le most f =
    let less : sent_in g c ≤ sent_in h c = said_less sends_said c.way.all g h le in
    record {
      had = most;
      begun = λ k. (let x : 1 ≤ g = f.begun k in omega arith);
      state = f.state;
      owed = f.owed;
      got = within_longer _ (told_by a me c.dial ls) (sent_in g c) (sent_in h c) less f.got;
      fits = λ u kind. each_later _ (told_by a me c.dial ls) (sent_in g c) (sent_in h c) less (f.fits u kind);
      shown = λ kind. shown_later (of_kind kind i.shown) kind (adopted_by a me ls) (told_by a me c.dial ls) (sent_in g c) (sent_in h c) less (f.shown kind);
    }

pub given_good : (nobody : UniqueAddress) (u : ℕ) (given : ℕ → ℕ) (k g : ℕ) (n : Node whole) (w : Network)
    → (w.ended ≡ None → (i : Inbound whole) → inbound_at k n ≡ Some i → (h : Heard nobody n.me (given k) (stories_of n) w.connections (journal w) k i) → (given k ≤ g) × (g ≤ length h.conn.way.all))
    → Good nobody u given nowhere n w → Good nobody u (then_given given k g) nowhere n w
given_good nobody u given k g n w f good = record {
  lawful = good.lawful;
  out = good.out;
  node = λ e. (let h = good.node e in record {
    uid = h.uid;
    me = h.me;
    ordered = h.ordered;
    peers = h.peers;
    tables = h.tables;
    gone = h.gone;
    origins = h.origins;
    framed = h.framed;
    inbound = λ j i at. heard e h j i at;
    opened = h.opened;
  });
}
  where
    heard : w.ended ≡ None → NodeFacts nobody u given nowhere n w.connections (journal w) → (j : ℕ) (i : Inbound whole) → inbound_at j n ≡ Some i → Heard nobody n.me (then_given given k g j) (stories_of n) w.connections (journal w) j i
    heard e h j i at = by_test (j == k)
        (λ t. (let same : k ≡ j = sym (eq_true j k t) in
        let at_k : inbound_at k n ≡ Some i = ap (λ (z : ℕ). inbound_at z n) same ∙ at in
        let y : Heard nobody n.me (given k) (stories_of n) w.connections (journal w) k i = h.inbound k i at_k in
        let l = f e i at_k y in
        let new : Heard nobody n.me g (stories_of n) w.connections (journal w) k i = record { place = y.place; conn = y.conn; is = y.is; inward = y.inward; facts = given_in _ _ (given k) g _ (journal w) i y.conn l.0 l.1 y.facts } in
        subst (λ (b : Bool). Heard nobody n.me (cond b g (given j)) (stories_of n) w.connections (journal w) j i) (sym t) (subst (λ (z : ℕ). Heard nobody n.me g (stories_of n) w.connections (journal w) z i) same new)))
        (λ t. subst (λ (b : Bool). Heard nobody n.me (cond b g (given j)) (stories_of n) w.connections (journal w) j i) (sym t) (h.inbound j i at))

-- one connection has this number at the node
pub one_inward : (nobody : UniqueAddress) (cs : List Conn) (ls : List Line) → Out nobody cs ls → (u k i j : ℕ) (c d : Conn) → slice_get cs i ≡ Some c → slice_get cs j ≡ Some d → is_inward u k c ≡ true → is_inward u k d ≡ true → c ≡ d
one_inward nobody cs ls out u k i j c d e f p q =
    let same : i ≡ j = out.reached i j c d e f (eq_true c.far u (and_left (c.far == u) (c.number == k) p) ∙ sym (eq_true d.far u (and_left (d.far == u) (d.number == k) q)))
    (eq_true c.number k (and_right (c.far == u) (c.number == k) p) ∙ sym (eq_true d.number k (and_right (d.far == u) (d.number == k) q))) in
    some_same (sym e ∙ ap (λ (x : ℕ). slice_get cs x) same ∙ f)

-- A frame comes: it was written at a place on the connection that reaches the node under this number, and no ordinary message between those that were given and it.
pub record Comes (u k g p : ℕ) (stream : Option Stream) (frame : List ℕ) (cs : List Conn) : Type 0 where
  pub place : ℕ
  pub conn : Conn
  pub is : slice_get cs place ≡ Some conn
  pub inward : is_inward u k conn ≡ true
  pub wrote : Wrote
  pub here : slice_get conn.way.all p ≡ Some wrote
  pub framed : is_frame wrote.writing ≡ true
  pub bytes : frame_of conn.dialer wrote.writing ≡ frame
  pub carries : stream ≡ carried conn.way.all
  pub later : g ≤ p
  pub quiet : sent_in p conn ≡ sent_in g conn

-- it is given
pub comes_good : (nobody : UniqueAddress) (u : ℕ) (given : ℕ → ℕ) (k p : ℕ) (stream : Option Stream) (frame : List ℕ) (n : Node whole) (w : Network) → (w.ended ≡ None → Comes u k (given k) p stream frame w.connections)
    → Good nobody u given nowhere n w → Good nobody u (then_given given k (p + 1)) nowhere n w
comes_good nobody u given k p stream frame n w c good = given_good nobody u given k (p + 1) n w (λ e i at h.
    (let x : Comes u k (given k) p stream frame w.connections = c e in
    let same : x.conn ≡ h.conn = one_inward nobody w.connections (journal w) (good.out e) u k x.place h.place x.conn h.conn x.is h.is x.inward (subst (λ (z : ℕ). is_inward z k h.conn ≡ true) (good.node e).uid h.inward) in
    let l : p < length x.conn.way.all = place_within x.conn.way.all p x.wrote x.here in
    let most : p + 1 ≤ length x.conn.way.all = omega arith in
    ((let z : given k ≤ p = x.later in omega arith), subst (λ (z : Conn). p + 1 ≤ length z.way.all) same most))) good
