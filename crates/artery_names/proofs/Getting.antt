-- An ordinary message is got: it is the one that was told.
use Rattle.std.proofs.Common.{◌≡◌, ℕ, zero, suc, ◌+◌, ◌≤◌, ◌<◌, Bool, true, false, ◌&&◌, cond, List, [], ◌∷◌, ◌++◌, length, take, drop, refl, sym, ◌∙◌, ap, subst, arith}
use Rattle.std.specs.Prelude.{Option, None, Some, Ok, ◌==◌, is_none, slice_get}
use Rattle.artery_base.specs.Words.{IsPrefix}
use Rattle.artery_base.specs.declared.address.UniqueAddress.{UniqueAddress}
use Rattle.artery_base.specs.declared.message.Tell.{Tell}
use Rattle.artery_codec.specs.Meaning.{Meaning, envelope_meaning}
use Rattle.artery_frame.specs.declared.stream.Stream.{Stream}
use Rattle.artery_frame.specs.declared.stream.Stream.TheVariants as streams
use Rattle.artery_handshake.specs.declared.in_conn.InState.{InState}
use Rattle.artery_handshake.specs.declared.in_conn.InState.TheVariants.{Known}
use Rattle.artery_header.specs.Envelope.{EnvelopeOf}
use Rattle.artery_journal.specs.declared.line.Line.{Line}
use Rattle.artery_journal.specs.declared.line.Line.TheVariants as lines
use Rattle.artery_journal.specs.declared.words.Kind.{Kind}
use Rattle.artery_journal.specs.declared.words.Kind.TheVariants.{Refs, Manifests}
use Rattle.artery_judge.specs.Lines.{same}
use Rattle.artery_judge.specs.Laws.{is_nonce}
use Rattle.artery_tables.specs.Story.{Story, version_of, number_of, entry_of}
use Rattle.artery_machine.specs.declared.world.Outcome.TheVariants as outcomes
use Rattle.artery_machine.specs.Deeds.{Writing, Sends}
use Rattle.artery_machine.specs.Parts.{whole}
use Rattle.artery_machine.specs.Ways.{Wrote}
use Rattle.artery_machine.specs.Connections.{is_inward}
use Rattle.artery_machine.specs.Node.{Node, Inbound, Origin, OfKinds, of_kind, peer_at, origin_at, inbound_at}
use Rattle.artery_machine.specs.Doing.{tells_of}
use Rattle.artery_machine.specs.Verdict.{tables_for}
use Rattle.artery_machine.specs.Hearing.{tell_of}
use Rattle.artery_machine.specs.World.{comes_out}
use Rattle.artery_names.specs.Versions.{Fits}
use Rattle.artery_names.proofs.Lists.{by_test, none_is, on_cond, not_both, not_some, some_same, eq_true, eq_self, and_left, and_right, and_both, get_prefix, Each, each_get, First, Within, within_more}
use Rattle.artery_names.proofs.Said.{all_said, sends_said, carried}
use Rattle.artery_names.proofs.Talks.{Told, adopted_by, told_by, got_by, name_by, messages, newest_line, SameSaid}
use Rattle.artery_names.proofs.Facts.{Network, Conn, journal, sends_on, Announced, IsWritten, AreWritten, AtMost, AreRising, ConnFacts, IsLawful, Out, IsState, InFacts, Heard, stories_of, story_of, sent_in, NodeFacts, Good}
use Rattle.artery_names.proofs.Growing.{Grown, along_self, Still, still_self, Stepped, stepped_self, grown_self, inward_same, sent_same}
use Rattle.artery_names.proofs.Plain.{Same, peer_facts_plain, all_held_grow, out_plain}
use Rattle.artery_names.proofs.Rules.{Work}
use Rattle.artery_names.proofs.Later.{Later, at_most_self, no_more, in_talk}
use Rattle.artery_names.proofs.Keeping.{nowhere, Kept, kept_self}
use Rattle.artery_names.proofs.Numbers.{number_is}
use Rattle.artery_names.proofs.Meant.{Reads, message_told, announced_framed, adopted_within, place_within}
use Rattle.artery_names.proofs.Telling.{same_is, same_self}
use Rattle.artery_names.proofs.Frames.{IsOrdinary, Comes, one_inward}

-- ---- lists

next_is : (s : ℕ) → s + 1 ≡ suc s
next_is s = omega arith

take_more : (ts : List Told) (s : ℕ) (t : Told) → slice_get ts s ≡ Some t → messages (take (suc s) ts) ≡ messages (take s ts) ++ t.message ∷ []
take_more [] s t h = not_some h
take_more (x ∷ ts) zero t h = ap (λ (z : Told). z.message ∷ messages (take zero ts)) (some_same h)
take_more (x ∷ ts) (suc s) t h = ap (λ l. x.message ∷ l) (take_more ts s t h)

pub take_next : (ts : List Told) (s : ℕ) (t : Told) → slice_get ts s ≡ Some t → messages (take (s + 1) ts) ≡ messages (take s ts) ++ t.message ∷ []
take_next ts s t h = ap (λ (n : ℕ). messages (take n ts)) (next_is s) ∙ take_more ts s t h

drop_next : (P : Told → Type 0) (ts : List Told) (s : ℕ) (t : Told) → slice_get ts s ≡ Some t → Each P (drop s ts) → P t
drop_next P [] s t h k = not_some h
drop_next P (x ∷ ts) zero t h k = subst P (some_same h) k.0
drop_next P (x ∷ ts) (suc s) t h k = drop_next P ts s t h k

rising_more : (ts : List Told) (s : ℕ) (t : Told) → AreRising ts → slice_get ts s ≡ Some t → Each (λ (z : Told). AtMost t.numbers z.numbers) (drop (suc s) ts)
rising_more [] s t r h = not_some h
rising_more (x ∷ ts) zero t r h = subst (λ (y : Told). Each (λ (z : Told). AtMost y.numbers z.numbers) ts) (some_same h) r.0
rising_more (x ∷ ts) (suc s) t r h = rising_more ts s t r.1 h

pub rising_next : (ts : List Told) (s : ℕ) (t : Told) → AreRising ts → slice_get ts s ≡ Some t → Each (λ (z : Told). AtMost t.numbers z.numbers) (drop (s + 1) ts)
rising_next ts s t r h = subst (λ (n : ℕ). Each (λ (z : Told). AtMost t.numbers z.numbers) (drop n ts)) (sym (next_is s)) (rising_more ts s t r h)

written_at : (cs : List Conn) (near far : ℕ) (es : List EnvelopeOf) (ts : List Told) (s : ℕ) (e : EnvelopeOf) → AreWritten cs near far es ts → slice_get es s ≡ Some e → (t : Told) × (slice_get ts s ≡ Some t) × IsWritten cs near far e t
written_at cs near far [] ts s e w h = not_some h
written_at cs near far (d ∷ es) [] s e w h = absurd w
written_at cs near far (d ∷ es) (t ∷ ts) zero e w h = (t, refl, subst (λ (x : EnvelopeOf). IsWritten cs near far x t) (some_same h) w.0)
written_at cs near far (d ∷ es) (t ∷ ts) (suc s) e w h = written_at cs near far es ts s e w.1 h

-- an ordinary message at a place among all that was written
said_from : (ws : List Wrote) (p : ℕ) (x : Wrote) (e : EnvelopeOf) → slice_get ws p ≡ Some x → x.writing ≡ Sends e
    → (slice_get (all_said sends_said ws) (length (all_said sends_said (take p ws))) ≡ Some e) × (length (all_said sends_said (take (suc p) ws)) ≡ length (all_said sends_said (take p ws)) + 1)
said_from [] p x e h k = not_some h
said_from (w ∷ ws) zero x e h k =
    let is : w.writing ≡ Sends e = ap (λ (z : Wrote). z.writing) (some_same h) ∙ k in
    (ap (λ (z : Writing). slice_get (sends_said z ++ all_said sends_said ws) 0) is, ap (λ (z : Writing). length (sends_said z ++ [])) is)
said_from (w ∷ ws) (suc p) x e h k =
    let r = said_from ws p x e h k in (
      behind (sends_said w.writing) (all_said sends_said ws) (all_said sends_said (take p ws)) r.0,
      longer (sends_said w.writing) (all_said sends_said (take (suc p) ws)) (all_said sends_said (take p ws)) r.1,
    )
  where
    behind : (xs ys zs : List EnvelopeOf) → slice_get ys (length zs) ≡ Some e → slice_get (xs ++ ys) (length (xs ++ zs)) ≡ Some e
    behind [] ys zs q = q
    behind (y ∷ xs) ys zs q = behind xs ys zs q

    longer : (xs ys zs : List EnvelopeOf) → length ys ≡ length zs + 1 → length (xs ++ ys) ≡ length (xs ++ zs) + 1
    longer [] ys zs l = l
    longer (y ∷ xs) ys zs l = (let r : length (xs ++ ys) ≡ length (xs ++ zs) + 1 = longer xs ys zs l in omega arith)

said_at : (ws : List Wrote) (p : ℕ) (x : Wrote) (e : EnvelopeOf) → slice_get ws p ≡ Some x → x.writing ≡ Sends e
    → (slice_get (all_said sends_said ws) (length (all_said sends_said (take p ws))) ≡ Some e) × (length (all_said sends_said (take (p + 1) ws)) ≡ length (all_said sends_said (take p ws)) + 1)
said_at ws p x e h k = (let r = said_from ws p x e h k in (r.0, ap (λ (n : ℕ). length (all_said sends_said (take n ws))) (next_is p) ∙ r.1))

-- ---- the next message

-- On the connection that reaches this node under this number, who speaks told a message, as the next one of those that were given, and it means that.
pub record Next (nobody me v : UniqueAddress) (u k g p : ℕ) (e : EnvelopeOf) (m : Meaning) (its_nonce : Option ℕ) (cs : List Conn) (ls : List Line) : Type 0 where
  pub place : ℕ
  pub conn : Conn
  pub is : slice_get cs place ≡ Some conn
  pub inward : is_inward u k conn ≡ true
  pub named : v ≡ name_by nobody conn.dialer ls
  pub nonce : its_nonce ≡ Some conn.dial
  pub told : Told
  pub here : slice_get (told_by v me conn.dial ls) (sent_in g conn) ≡ Some told
  pub means : tell_of m ≡ told.message
  pub more : sent_in (p + 1) conn ≡ sent_in g conn + 1
  pub within : p + 1 ≤ length conn.way.all
  pub later : g ≤ p
  pub refs : e.refs_version ≡ version_of told.numbers.refs
  pub manifests : e.manifests_version ≡ version_of told.numbers.manifests

pub next_later : (nobody me v : UniqueAddress) (u k g p : ℕ) (e : EnvelopeOf) (m : Meaning) (its_nonce : Option ℕ) (w x : Network) → Later nobody u w x → Next nobody me v u k g p e m its_nonce w.connections (journal w) → Next nobody me v u k g p e m its_nonce x.connections (journal x)
next_later nobody me v u k g p e m its_nonce w x l h =
    let f = l.conns.forth h.place h.conn h.is in
    let s : sent_in g f.next ≡ sent_in g h.conn = sent_same g h.conn f.next f.so.grown (let a : g ≤ p = h.later in let b : p + 1 ≤ length h.conn.way.all = h.within in omega arith) in
    let t : sent_in (p + 1) f.next ≡ sent_in (p + 1) h.conn = sent_same (p + 1) h.conn f.next f.so.grown h.within in
    let more = l.told v me h.conn.dial in
    record {
      place = h.place;
      conn = f.next;
      is = f.is;
      inward = inward_same u k h.conn f.next f.so.grown ∙ h.inward;
      named = h.named ∙ sym (l.name f.next.dialer ∙ ap (λ (z : ℕ). name_by nobody z (journal w)) f.so.grown.dialer);
      nonce = h.nonce ∙ ap Some (sym f.so.grown.dial);
      told = h.told;
      here = ap (λ (z : ℕ). slice_get (told_by v me z (journal x)) (sent_in g f.next)) f.so.grown.dial ∙ ap (λ (z : ℕ). slice_get (told_by v me h.conn.dial (journal x)) z) s
          ∙ get_prefix (told_by v me h.conn.dial (journal w)) (told_by v me h.conn.dial (journal x)) (sent_in g h.conn) h.told (more.rest, sym more.is) h.here;
      means = h.means;
      more = t ∙ h.more ∙ ap (λ (z : ℕ). z + 1) (sym s);
      within = longer h.conn.way.all f.next.way.all f.so.grown.more h.within;
      later = h.later;
      refs = h.refs;
      manifests = h.manifests;
    }
  where
    back : (xs ys : List Wrote) → length xs ≤ length (xs ++ ys)
    back [] ys = omega arith
    back (y ∷ xs) ys = (let r : length xs ≤ length (xs ++ ys) = back xs ys in omega arith)

    longer : (xs ys : List Wrote) → IsPrefix xs ys → p + 1 ≤ length xs → p + 1 ≤ length ys
    longer xs ys q a = (let b : length xs ≤ length ys = subst (λ zs. length xs ≤ length zs) q.1 (back xs q.0) in omega arith)

-- what a version means is the number that was told
abbrev pub Shows : (Kind → Story) → OfKinds ℕ → Type 0
Shows story numbers = (kind : Kind) (x : ℕ) → number_of (story kind) (version_of (of_kind kind numbers)) ≡ Some x → x ≡ of_kind kind numbers

-- and still is later
pub shows_later : (nobody me v : UniqueAddress) (u k g p : ℕ) (e : EnvelopeOf) (m : Meaning) (its_nonce : Option ℕ) (story : Kind → Story) (w x : Network) → Later nobody u w x → (h : Next nobody me v u k g p e m its_nonce w.connections (journal w)) → Shows story h.told.numbers
    → (n : Next nobody me v u k g p e m its_nonce x.connections (journal x)) × Shows story n.told.numbers
unfolding next_later
shows_later nobody me v u k g p e m its_nonce story w x l h s = (next_later nobody me v u k g p e m its_nonce w x l h, s)

-- What a frame with an ordinary message says to a node that knows who speaks.
pub record Hears (nobody : UniqueAddress) (u k g p : ℕ) (n : Node whole) (v : UniqueAddress) (its_nonce : Option ℕ) (e : EnvelopeOf) (m : Meaning) (cs : List Conn) (ls : List Line) : Type 0 where
  pub next : Next nobody n.me v u k g p e m its_nonce cs ls
  pub shows : Shows (stories_of n v) next.told.numbers

module _ (nobody : UniqueAddress) (u : ℕ) (given : ℕ → ℕ) (n : Node whole) (cs : List Conn) (ls : List Line) (out : Out nobody cs ls) (h : NodeFacts nobody u given nowhere n cs ls) where
  pub hears_next : (k p : ℕ) (stream : Option Stream) (frame : List ℕ) (i : Inbound whole) (v : UniqueAddress) (its_nonce : Option ℕ) (e : EnvelopeOf) (m : Meaning) → inbound_at k n ≡ Some i → i.state ≡ Known v its_nonce → (c : Comes u k (given k) p stream frame cs)
      → IsOrdinary stream n i c.wrote.writing e m → Hears nobody u k (given k) p n v its_nonce e m cs ls
  hears_next k p stream frame i v its_nonce e m at known c o =
      let y : Heard nobody n.me (given k) (stories_of n) cs ls k i = h.inbound k i at in
      let same : y.conn ≡ c.conn = one_inward nobody cs ls out u k y.place c.place y.conn c.conn y.is c.is (subst (λ (z : ℕ). is_inward z k y.conn ≡ true) h.uid y.inward) c.inward in
      let F : Conn → Type 0 = λ z. InFacts n.me (name_by nobody z.dialer ls) (given k) (stories_of n (name_by nobody z.dialer ls)) ls i z in
      by (name_by nobody c.conn.dialer ls) refl (subst F same y.facts)
    where
      f : ConnFacts cs (name_by nobody c.conn.dialer ls) (name_by nobody c.conn.far ls) ls c.conn
      f = out.conns c.place c.conn c.is

      by : (a : UniqueAddress) → name_by nobody c.conn.dialer ls ≡ a → InFacts n.me a (given k) (stories_of n a) ls i c.conn → Hears nobody u k (given k) p n v its_nonce e m cs ls
      by a name facts =
          let far : name_by nobody c.conn.far ls ≡ n.me = ap (λ (z : ℕ). name_by nobody z ls) (eq_true c.conn.far u (and_left (c.conn.far == u) (c.conn.number == k) c.inward)) ∙ h.me in
          let is_far : c.conn.far ≡ u = eq_true c.conn.far u (and_left (c.conn.far == u) (c.conn.number == k) c.inward) in
          let near : a.uid ≡ c.conn.dialer = ap (λ (z : UniqueAddress). z.uid) (sym name) ∙ f.near in
          let named : name_by nobody a.uid ls ≡ a = ap (λ (z : ℕ). name_by nobody z ls) near ∙ name in
          let state : (v ≡ a) × (its_nonce ≡ Some c.conn.dial) = subst (IsState a c.conn.dial (told_by a n.me c.conn.dial ls)) known facts.state in
          let spot = said_at c.conn.way.all p c.wrote e c.here o.sends in
          let sent : slice_get (sends_on c.conn) (sent_in (given k) c.conn) ≡ Some e = ap (λ (z : ℕ). slice_get (sends_on c.conn) z) (sym c.quiet) ∙ spot.0 in
          let told_is : AreWritten cs c.conn.dialer c.conn.far (sends_on c.conn) (told_by a n.me c.conn.dial ls) = subst (λ (z : UniqueAddress). AreWritten cs c.conn.dialer c.conn.far (sends_on c.conn) (told_by z n.me c.conn.dial ls)) name
          (subst (λ (z : UniqueAddress). AreWritten cs c.conn.dialer c.conn.far (sends_on c.conn) (told_by (name_by nobody c.conn.dialer ls) z c.conn.dial ls)) far f.told) in
          let t = written_at cs c.conn.dialer c.conn.far (sends_on c.conn) (told_by a n.me c.conn.dial ls) (sent_in (given k) c.conn) e told_is sent in
          let below : AtMost t.0.numbers (adopted_by a n.me ls) = each_get _ (told_by a n.me c.conn.dial ls) (sent_in (given k) c.conn) t.0 (out.talks a n.me c.conn.dial).below t.1 in
          let ordinary : carried c.conn.way.all ≡ Some streams.Control → ⊥ = λ q. o.apart (c.carries ∙ q) in
          let fits : (kind : Kind) → Fits (length (story_of kind a n).tables) (of_kind kind t.0.numbers) = λ kind. drop_next (λ (z : Told). Fits (length (story_of kind a n).tables) (of_kind kind z.numbers)) (told_by a n.me c.conn.dial ls) (sent_in (given k) c.conn) t.0 t.1 (facts.fits ordinary kind) in
          let within : (kind : Kind) → of_kind kind t.0.numbers ≤ length (story_of kind a n).tables = λ kind. (let x : of_kind kind t.0.numbers ≤ of_kind kind (adopted_by a n.me ls) = below kind in
          let z : of_kind kind (adopted_by a n.me ls) ≤ length (story_of kind a n).tables = adopted_within nobody u given nowhere n cs ls h a kind named (out.adopts a n.me kind) in omega arith) in
          let reads : (kind : Kind) → Reads cs c.conn.dialer c.conn.far kind (of_kind kind t.0.numbers) (story_of kind a n) = λ kind. record {
            story = (h.origins a kind).story;
            within = within kind;
            fits = fits kind;
            framed = λ keys q. announced_framed nobody u given nowhere n cs ls h a kind (of_kind kind t.0.numbers) keys named
                (subst (λ (z : ℕ). Announced cs u z kind (of_kind kind t.0.numbers) keys) (sym near) (subst (λ (z : ℕ). Announced cs z c.conn.dialer kind (of_kind kind t.0.numbers) keys) is_far q));
          } in
          let tables : origin_at v n ≡ origin_at a n = ap (λ (z : UniqueAddress). origin_at z n) state.0 in
          let P : InState → Type 0 = λ z. envelope_meaning (whole.entries (tables_for z n).refs) (whole.entries (tables_for z n).manifests) e ≡ Ok m in
          let Q : Origin whole → Type 0 = λ z. envelope_meaning (whole.entries z.tables.refs) (whole.entries z.tables.manifests) e ≡ Ok m in
          let means : envelope_meaning (entry_of (story_of Refs a n)) (entry_of (story_of Manifests a n)) e ≡ Ok m = subst Q tables (subst P known o.means) in
          let R : UniqueAddress → Type 0 = λ z. Hears nobody u k (given k) p n z its_nonce e m cs ls in
          subst R (sym state.0) (record {
            next = record {
              place = c.place;
              conn = c.conn;
              is = c.is;
              inward = c.inward;
              named = sym name;
              nonce = state.1;
              told = t.0;
              here = t.1;
              means = message_told cs c.conn.dialer c.conn.far (story_of Refs a n) (story_of Manifests a n) e t.0 m (reads Refs) (reads Manifests) t.2 means;
              more = spot.1 ∙ ap (λ (z : ℕ). z + 1) c.quiet;
              within = (let l : p < length c.conn.way.all = place_within c.conn.way.all p c.wrote c.here in omega arith);
              later = c.later;
              refs = t.2.refs_version;
              manifests = t.2.manifests_version;
            };
            shows = λ kind x q. number_is (story_of kind a n) (of_kind kind t.0.numbers) x (h.origins a kind).story (within kind) (fits kind) q;
          })

-- ---- its line

module _ (nobody : UniqueAddress) (u m : ℕ) (given : ℕ → ℕ) (k : ℕ) (me v : UniqueAddress) (its_nonce : Option ℕ) (message : Tell) where
  abbrev line : Line
  line = lines.Got me v its_nonce message

  -- What is told fits.
  pub record Fitting (g : ℕ) (cs : List Conn) (ls : List Line) : Type 0 where
    pub place : ℕ
    pub conn : Conn
    pub is : slice_get cs place ≡ Some conn
    pub inward : is_inward u k conn ≡ true
    pub named : v ≡ name_by nobody conn.dialer ls
    pub nonce : its_nonce ≡ Some conn.dial
    pub got : Within (got_by v me conn.dial ls ++ message ∷ []) (messages (take (sent_in g conn) (told_by v me conn.dial ls)))

  same_lines : (ls : List Line) → SameSaid ls (line ∷ ls)
  same_lines ls = record { adopted = λ a b. refl; told = λ a b d. refl; name = λ x uid. refl }

  got_here : (ls : List Line) (d : ℕ) → its_nonce ≡ Some d → got_by v me d (line ∷ ls) ≡ got_by v me d ls ++ message ∷ []
  got_here ls d e =
      ap (λ (z : Option ℕ). cond (is_nonce me v d ((me, v), z)) (got_by v me d ls ++ message ∷ []) (got_by v me d ls)) e
      ∙ ap (λ (b : Bool). cond b (got_by v me d ls ++ message ∷ []) (got_by v me d ls)) (and_both (same me me && same v v) (d == d) (and_both (same me me) (same v v) (same_self me) (same_self v)) (eq_self d))

  -- on another connection nothing was got
  got_away : (ls : List Line) (a b : UniqueAddress) (d : ℕ) → (b ≡ me → a ≡ v → its_nonce ≡ Some d → ⊥) → got_by a b d (line ∷ ls) ≡ got_by a b d ls
  got_away ls a b d n = by its_nonce refl
    where
      by : (z : Option ℕ) → its_nonce ≡ z → cond (is_nonce b a d ((me, v), z)) (got_by a b d ls ++ message ∷ []) (got_by a b d ls) ≡ got_by a b d ls
      by None e = refl
      by (Some x) e = by_test (is_nonce b a d ((me, v), Some x))
          (λ t. absurd (n (same_is b me (and_left (same b me) (same a v) (and_left (same b me && same a v) (d == x) t))) (same_is a v (and_right (same b me) (same a v) (and_left (same b me && same a v) (d == x) t)))
          (e ∙ ap Some (sym (eq_true d x (and_right (same b me && same a v) (d == x) t))))))
          (λ t. ap (λ (c : Bool). cond c (got_by a b d ls ++ message ∷ []) (got_by a b d ls)) t)

  got_live : (n : Node whole) (w : Network) → n.me ≡ me → w.ended ≡ None → Fitting (given k) w.connections (journal w) → Good nobody u given nowhere n w → Kept nobody u given nowhere w n (comes_out (outcomes.Line m line) w)
  got_live n w is_me live f g = record {
    good = record {
      lawful = subst IsLawful (sym more) (subst (λ (z : Option ℕ). IsLawful (lines.Got me v z message ∷ ls)) (sym f.nonce) (lawful, g.lawful));
      out = λ e. subst (Out nobody cs) (sym more) (out_plain nobody cs cs ls (line ∷ ls) (along_self Still still_self cs) (same_lines ls) (g.out live));
      node = λ e. subst (NodeFacts nobody u given nowhere n cs) (sym more) node;
    };
    later = record {
      conns = along_self (Stepped u) (stepped_self u) cs;
      name = λ uid. ap (name_by nobody uid) more;
      adopted = λ a b z. ap (adopted_by a b) more;
      rises = λ a b. subst (λ ks. AtMost (adopted_by a b ls) (adopted_by a b ks)) (sym more) (at_most_self (adopted_by a b ls));
      got = λ a b d other. ap (got_by a b d) more ∙ got_away ls a b d (λ p q r. other (ap (λ (z : UniqueAddress). z.uid) p ∙ ap (λ (z : UniqueAddress). z.uid) (sym is_me) ∙ (g.node live).uid));
      told = λ a b d. no_more _ _ _ (ap (told_by a b d) more);
      spoken = λ a b d. First (ap (told_by a b d) more);
      going = λ e. e;
    };
  }
    where
      ls : List Line
      ls = journal w

      cs : List Conn
      cs = w.connections

      more : journal (comes_out (outcomes.Line m line) w) ≡ line ∷ journal w
      more = newest_line w.outcomes [] m line

      lawful : Within (got_by v me f.conn.dial ls ++ message ∷ []) (messages (told_by v me f.conn.dial ls))
      lawful = whole_told (got_by v me f.conn.dial ls ++ message ∷ []) (sent_in (given k) f.conn) (told_by v me f.conn.dial ls) f.got
        where
          split : (s : ℕ) (ts : List Told) → (rest : List Tell) × (messages ts ≡ messages (take s ts) ++ rest)
          split zero ts = (messages ts, refl)
          split (suc s) [] = ([], refl)
          split (suc s) (t ∷ ts) = (let r = split s ts in (r.0, ap (λ l. t.message ∷ l) r.1))

          whole_told : (xs : List Tell) (s : ℕ) (ts : List Told) → Within xs (messages (take s ts)) → Within xs (messages ts)
          whole_told xs s ts q = (let r = split s ts in subst (λ l. Within xs l) (sym r.1) (within_more xs (messages (take s ts)) r.0 q))

      node : NodeFacts nobody u given nowhere n w.connections (line ∷ journal w)
      node = (let h = g.node live in record {
        uid = h.uid;
        me = h.me;
        ordered = h.ordered;
        peers = λ a. peer_facts_plain nobody n.me cs cs ls (line ∷ ls) a (peer_at a n) (peer_at a n) (along_self Grown grown_self cs) (same_lines ls) refl (Same refl) (Same refl) (h.peers a);
        tables = λ a e. all_held_grow nobody cs cs n.me a ls (line ∷ ls) (peer_at a n).tables (peer_at a n).incarnations.current (along_self Grown grown_self cs) (λ uid c. refl) (h.tables a e);
        gone = h.gone;
        origins = h.origins;
        framed = h.framed;
        inbound = λ j i at. (let y = h.inbound j i at in record { place = y.place; conn = y.conn; is = y.is; inward = y.inward; facts = heard h j i at y });
        opened = h.opened;
      })
        where
          heard : NodeFacts nobody u given nowhere n w.connections (journal w) → (j : ℕ) (i : Inbound whole) → inbound_at j n ≡ Some i → (y : Heard nobody n.me (given j) (stories_of n) w.connections (journal w) j i)
              → InFacts n.me (name_by nobody y.conn.dialer (journal w)) (given j) (stories_of n (name_by nobody y.conn.dialer (journal w))) (line ∷ journal w) i y.conn
          heard h j i at y = by_test (j == k)
              (λ t. here (eq_true j k t))
              (λ t. in_talk n.me (name_by nobody y.conn.dialer ls) (given j) (stories_of n (name_by nobody y.conn.dialer ls)) ls (line ∷ ls) i y.conn
              (got_away ls (name_by nobody y.conn.dialer ls) n.me y.conn.dial (λ p q r. away t q (some_same (sym f.nonce ∙ r)))) (at_most_self _) (no_more _ _ _ refl) (h.origins (name_by nobody y.conn.dialer ls)) (λ p q. q) y.facts)
            where
              out : Out nobody cs ls
              out = g.out live

              away : (j == k) ≡ false → name_by nobody y.conn.dialer ls ≡ v → f.conn.dial ≡ y.conn.dial → ⊥
              away t q r =
                  let near : y.conn.dialer ≡ f.conn.dialer = sym (out.conns y.place y.conn y.is).near ∙ ap (λ (z : UniqueAddress). z.uid) (q ∙ f.named) ∙ (out.conns f.place f.conn f.is).near in
                  let same_place : y.place ≡ f.place = out.dialed y.place f.place y.conn f.conn y.is f.is near (sym r) in
                  let is : y.conn ≡ f.conn = some_same (sym y.is ∙ ap (λ (z : ℕ). slice_get cs z) same_place ∙ f.is) in
                  let number : j ≡ k = sym (eq_true y.conn.number j (and_right (y.conn.far == n.me.uid) (y.conn.number == j) y.inward)) ∙ ap (λ (z : Conn). z.number) is ∙ eq_true f.conn.number k (and_right (f.conn.far == u) (f.conn.number == k) f.inward) in
                  not_both (subst (λ (z : ℕ). (j == z) ≡ true) number (eq_self j)) t

              here : j ≡ k → InFacts n.me (name_by nobody y.conn.dialer ls) (given j) (stories_of n (name_by nobody y.conn.dialer ls)) (line ∷ ls) i y.conn
              here e =
                  let inward : is_inward u k y.conn ≡ true = subst (λ (z : ℕ). is_inward u z y.conn ≡ true) e (subst (λ (z : ℕ). is_inward z j y.conn ≡ true) h.uid y.inward) in
                  let is : f.conn ≡ y.conn = one_inward nobody cs ls out u k f.place y.place f.conn y.conn f.is y.is f.inward inward in
                  let P : Conn → Type 0 = λ z. Within (got_by v me z.dial (line ∷ ls)) (messages (take (sent_in (given k) z) (told_by v me z.dial ls))) in
                  let first : P f.conn = subst (λ l. Within l (messages (take (sent_in (given k) f.conn) (told_by v me f.conn.dial ls)))) (sym (got_here ls f.conn.dial f.nonce)) f.got in
                  let name : v ≡ name_by nobody y.conn.dialer ls = f.named ∙ ap (λ (z : Conn). name_by nobody z.dialer ls) is in
                  let Q : UniqueAddress → UniqueAddress → ℕ → Type 0 = λ a b x. Within (got_by a b y.conn.dial (line ∷ ls)) (messages (take (sent_in (given x) y.conn) (told_by a b y.conn.dial ls))) in
                  let now : Q (name_by nobody y.conn.dialer ls) n.me j = subst (λ (a : UniqueAddress). Q a n.me j) name (subst (λ (b : UniqueAddress). Q v b j) (sym is_me) (subst (λ (x : ℕ). Q v me x) (sym e) (subst P is first))) in
                  record { had = y.facts.had; begun = y.facts.begun; state = y.facts.state; owed = y.facts.owed; got = now; fits = y.facts.fits; shown = y.facts.shown }

module _ {nobody : UniqueAddress} {u m : ℕ} {given : ℕ → ℕ} where
  pub got_told : (k : ℕ) (v : UniqueAddress) (its_nonce : Option ℕ) (message : Tell) (d : Work u m) → (d.deeds.ended ≡ None → Fitting nobody u m given k d.node.me v its_nonce message (given k) d.deeds.connections (journal d.deeds)) → Good nobody u given nowhere d.node d.deeds
      → Kept nobody u given nowhere d.deeds (tells_of (λ me. lines.Got me v its_nonce message) d).node (tells_of (λ me. lines.Got me v its_nonce message) d).deeds
  got_told k v its_nonce message d f g = on_cond (λ (w : Network). Kept nobody u given nowhere d.deeds d.node w) (is_none d.deeds.ended) (comes_out (outcomes.Line m (lines.Got d.node.me v its_nonce message)) d.deeds) d.deeds
      (λ t. got_live nobody u m given k d.node.me v its_nonce message d.node d.deeds refl (none_is d.deeds.ended t) (f (none_is d.deeds.ended t)) g)
      (λ t. kept_self nobody u given nowhere d.node d.deeds g)
