-- An ordinary message is got: it is told, the tables by which it was written are shown, and its names are counted.
use Rattle.std.proofs.Common.{◌≡◌, ℕ, ◌+◌, ◌≤◌, Bool, true, cond, List, [], ◌∷◌, ◌++◌, length, take, drop, refl, sym, ◌∙◌, ap, subst}
use Rattle.std.specs.Prelude.{Option, None, Some}
use Rattle.std.specs.Option.{option_or}
use Rattle.artery_base.specs.declared.address.UniqueAddress.{UniqueAddress}
use Rattle.artery_base.specs.declared.message.Tell.{Tell}
use Rattle.artery_codec.specs.Meaning.{Meaning}
use Rattle.artery_frame.specs.declared.stream.Stream.{Stream}
use Rattle.artery_handshake.specs.declared.in_conn.InState.TheVariants.{Known}
use Rattle.artery_header.specs.Envelope.{NameOf, Literal, Index, EnvelopeOf}
use Rattle.artery_journal.specs.declared.line.Line.{Line}
use Rattle.artery_journal.specs.declared.line.Line.TheVariants as lines
use Rattle.artery_journal.specs.declared.words.Kind.{Kind}
use Rattle.artery_journal.specs.declared.words.Kind.TheVariants.{Refs, Manifests}
use Rattle.artery_tables.specs.Story.{version_of, number_of}
use Rattle.artery_machine.specs.Lists.{change_first}
use Rattle.artery_machine.specs.Parts.{whole}
use Rattle.artery_machine.specs.Connections.{is_inward}
use Rattle.artery_machine.specs.Node.{Node, Inbound, Origin, OfKinds, of_kind, is_number, origin_at, inbound_at, nonce_in}
use Rattle.artery_machine.specs.Doing.{◌▸◌, tells_of, inbound_becomes}
use Rattle.artery_machine.specs.Making.{uses}
use Rattle.artery_machine.specs.Hearing.{tell_of, with_shown, with_counted, counts_names, got}
use Rattle.artery_names.proofs.Lists.{eq_self, Each, each_weaker, each_get, Within, within_push}
use Rattle.artery_names.proofs.Talks.{Told, adopted_by, told_by, got_by, name_by, messages}
use Rattle.artery_names.proofs.Facts.{Network, Conn, journal, AtMost, TalkFacts, Out, IsShown, InFacts, Heard, stories_of, sent_in, NodeFacts, Good}
use Rattle.artery_names.proofs.Growing.{sent_same, inward_same}
use Rattle.artery_names.proofs.Plain.{Plainly}
use Rattle.artery_names.proofs.Rules.{Work, Plain, ◌▹◌, SameOrigin, origin_plain}
use Rattle.artery_names.proofs.Later.{Later, later_self, later_trans}
use Rattle.artery_names.proofs.Keeping.{nowhere, Kept, plain_keeps}
use Rattle.artery_names.proofs.Making.{uses_plain}
use Rattle.artery_names.proofs.Asking.{inbound_good}
use Rattle.artery_names.proofs.Premises.{kept_then}
use Rattle.artery_names.proofs.Frames.{IsOrdinary, then_given, Comes, comes_good, one_inward}
use Rattle.artery_names.proofs.Getting.{Next, shows_later, Shows, Hears, hears_next, Fitting, got_told, rising_next, take_next}

pub then_here : (given : ℕ → ℕ) (k g : ℕ) → then_given given k g k ≡ g
then_here given k g = ap (λ (b : Bool). cond b g (given k)) (eq_self k)

-- ---- what is told fits

module _ (nobody : UniqueAddress) (u m : ℕ) (given : ℕ → ℕ) (k p : ℕ) (n : Node whole) (v : UniqueAddress) (its_nonce : Option ℕ) (e : EnvelopeOf) (s : Meaning) where
  fitting_next : (cs : List Conn) (ls : List Line) → Out nobody cs ls → NodeFacts nobody u given nowhere n cs ls → (i : Inbound whole) → inbound_at k n ≡ Some i → Next nobody n.me v u k (given k) p e s its_nonce cs ls
      → (f : Fitting nobody u m (then_given given k (p + 1)) k n.me v its_nonce (tell_of s) (then_given given k (p + 1) k) cs ls) × (then_given given k (p + 1) k ≤ length f.conn.way.all)
  fitting_next cs ls out h i at next =
      let y : Heard nobody n.me (given k) (stories_of n) cs ls k i = h.inbound k i at in
      let same : y.conn ≡ next.conn = one_inward nobody cs ls out u k y.place next.place y.conn next.conn y.is next.is (subst (λ (z : ℕ). is_inward z k y.conn ≡ true) h.uid y.inward) next.inward in
      let P : Conn → Type 0 = λ z. Within (got_by (name_by nobody z.dialer ls) n.me z.dial ls) (messages (take (sent_in (given k) z) (told_by (name_by nobody z.dialer ls) n.me z.dial ls))) in
      let was : P next.conn = subst P same y.facts.got in
      let Q : UniqueAddress → Type 0 = λ z. Within (got_by z n.me next.conn.dial ls) (messages (take (sent_in (given k) next.conn) (told_by z n.me next.conn.dial ls))) in
      let now : Q v = subst Q (sym next.named) was in
      let ts : List Told = told_by v n.me next.conn.dial ls in
      let g : ℕ = sent_in (given k) next.conn in
      let longer : messages (take (g + 1) ts) ≡ messages (take g ts) ++ next.told.message ∷ [] = take_next ts g next.told next.here in
      let pushed : Within (got_by v n.me next.conn.dial ls ++ tell_of s ∷ []) (messages (take g ts) ++ tell_of s ∷ []) = within_push (got_by v n.me next.conn.dial ls) (messages (take g ts)) (tell_of s) now in
      let ended : messages (take g ts) ++ tell_of s ∷ [] ≡ messages (take (g + 1) ts) = ap (λ (z : Tell). messages (take g ts) ++ z ∷ []) next.means ∙ sym longer in
      let more : sent_in (then_given given k (p + 1) k) next.conn ≡ g + 1 = ap (λ (z : ℕ). sent_in z next.conn) (then_here given k (p + 1)) ∙ next.more in (
        record {
          place = next.place;
          conn = next.conn;
          is = next.is;
          inward = next.inward;
          named = next.named;
          nonce = next.nonce;
          got = subst (λ (z : ℕ). Within (got_by v n.me next.conn.dial ls ++ tell_of s ∷ []) (messages (take z ts))) (sym more) (subst (λ l. Within (got_by v n.me next.conn.dial ls ++ tell_of s ∷ []) l) ended pushed);
        },
        subst (λ (z : ℕ). z ≤ length next.conn.way.all) (sym (then_here given k (p + 1))) next.within,
      )

-- it fits after what says nothing of these
fitting_plain : (nobody : UniqueAddress) (u m : ℕ) (given : ℕ → ℕ) (k : ℕ) (me v : UniqueAddress) (its_nonce : Option ℕ) (message : Tell) (g : ℕ) (n : Node whole) (w : Network) (o : Node whole) (x : Network) → Plainly u n w o x
    → (f : Fitting nobody u m given k me v its_nonce message g w.connections (journal w)) → g ≤ length f.conn.way.all → Fitting nobody u m given k me v its_nonce message g x.connections (journal x)
fitting_plain nobody u m given k me v its_nonce message g n w o x p f le =
    let b = p.conns.forth f.place f.conn f.is in
    let s : sent_in g b.next ≡ sent_in g f.conn = sent_same g f.conn b.next b.so.grown le in
    let told : told_by v me b.next.dial (journal x) ≡ told_by v me f.conn.dial (journal w) = p.talk.told v me b.next.dial ∙ ap (λ (z : ℕ). told_by v me z (journal w)) b.so.grown.dial in
    let gots : got_by v me b.next.dial (journal x) ≡ got_by v me f.conn.dial (journal w) = p.talk.got v me b.next.dial ∙ ap (λ (z : ℕ). got_by v me z (journal w)) b.so.grown.dial in
    record {
      place = f.place;
      conn = b.next;
      is = b.is;
      inward = inward_same u k f.conn b.next b.so.grown ∙ f.inward;
      named = f.named ∙ sym (p.talk.name nobody b.next.dialer ∙ ap (λ (z : ℕ). name_by nobody z (journal w)) b.so.grown.dialer);
      nonce = f.nonce ∙ ap Some (sym b.so.grown.dial);
      got = subst (λ l. Within (l ++ message ∷ []) (messages (take (sent_in g b.next) (told_by v me b.next.dial (journal x))))) (sym gots)
          (subst (λ l. Within (got_by v me f.conn.dial (journal w) ++ message ∷ []) (messages (take (sent_in g b.next) l))) (sym told)
          (subst (λ (z : ℕ). Within (got_by v me f.conn.dial (journal w) ++ message ∷ []) (messages (take z (told_by v me f.conn.dial (journal w))))) (sym s) f.got));
    }

-- ---- what is shown

shown_next : (kind : Kind) (found old : Option ℕ) (adopted numbers : OfKinds ℕ) (later : List Told) → ((x : ℕ) → found ≡ Some x → x ≡ of_kind kind numbers) → AtMost numbers adopted → Each (λ (t : Told). AtMost numbers t.numbers) later → IsShown old kind adopted later
    → IsShown (option_or found old) kind adopted later
shown_next kind None old adopted numbers later f a b h = h
shown_next kind (Some x) old adopted numbers later f a b h =
    let is : x ≡ of_kind kind numbers = f x refl in
    (subst (λ (z : ℕ). z ≤ of_kind kind adopted) (sym is) (a kind), each_weaker _ _ (λ t q. subst (λ (z : ℕ). z ≤ of_kind kind t.numbers) (sym is) (q kind)) later b)

counted_same : (kind : Kind) (name : NameOf) (o : Origin whole) → SameOrigin o (with_counted kind name o)
counted_same kind (Index i) o = record { who = refl; stories = λ other. refl }
counted_same kind (Literal []) o = record { who = refl; stories = λ other. refl }
counted_same kind (Literal (b ∷ bs)) o = record { who = refl; stories = λ other. by kind other }
  where
    by : (x other : Kind) → (of_kind other (with_counted x (Literal (b ∷ bs)) o).tables).story ≡ (of_kind other o.tables).story
    by Refs Refs = refl
    by Refs Manifests = refl
    by Manifests Refs = refl
    by Manifests Manifests = refl

module _ {u m : ℕ} where
  counts_plain : (v : UniqueAddress) (e : EnvelopeOf) → Plain u m (counts_names v e)
  counts_plain v e =
      origin_plain v (with_counted Refs e.sender) (counted_same Refs e.sender)
      ▹ origin_plain v (with_counted Refs e.recipient) (counted_same Refs e.recipient)
      ▹ origin_plain v (with_counted Manifests e.manifest) (counted_same Manifests e.manifest)

module _ {nobody : UniqueAddress} {u : ℕ} {given : ℕ → ℕ} where
  -- the tables by which it was written are shown
  shown_good : (k p g : ℕ) (n : Node whole) (v me : UniqueAddress) (its_nonce : Option ℕ) (e : EnvelopeOf) (s : Meaning) (tables : OfKinds whole.Announced) (w : Network) → n.me ≡ me → given k ≡ p + 1
      → (w.ended ≡ None → (next : Next nobody me v u k g p e s its_nonce w.connections (journal w)) × Shows (λ kind. (of_kind kind tables).story) next.told.numbers)
      → Good nobody u given nowhere n w → Good nobody u given nowhere (record n { inbound = change_first (is_number k) (with_shown tables e) n.inbound }) w
  shown_good k p g n v me its_nonce e s tables w is_me is_given f good = inbound_good nobody u given k (with_shown tables e) (λ i. refl) (λ i q. q) n w (λ live i at y. by live i y (f live)) good
    where
      by : w.ended ≡ None → (i : Inbound whole) (y : Heard nobody n.me (given k) (stories_of n) w.connections (journal w) k i)
          → (next : Next nobody me v u k g p e s its_nonce w.connections (journal w)) × Shows (λ kind. (of_kind kind tables).story) next.told.numbers
          → InFacts n.me (name_by nobody y.conn.dialer (journal w)) (given k) (stories_of n (name_by nobody y.conn.dialer (journal w))) (journal w) (with_shown tables e i) y.conn
      by live i y (next, shows) =
          let out : Out nobody w.connections (journal w) = good.out live in
          let h : NodeFacts nobody u given nowhere n w.connections (journal w) = good.node live in
          let same : next.conn ≡ y.conn = one_inward nobody w.connections (journal w) out u k next.place y.place next.conn y.conn next.is y.is next.inward (subst (λ (z : ℕ). is_inward z k y.conn ≡ true) h.uid y.inward) in
          let name : v ≡ name_by nobody y.conn.dialer (journal w) = next.named ∙ ap (λ (z : Conn). name_by nobody z.dialer (journal w)) same in
          let ts : List Told = told_by v me next.conn.dial (journal w) in
          let talk : TalkFacts v me next.conn.dial (journal w) = out.talks v me next.conn.dial in
          let below : AtMost next.told.numbers (adopted_by v me (journal w)) = each_get (λ (t : Told). AtMost t.numbers (adopted_by v me (journal w))) ts (sent_in g next.conn) next.told talk.below next.here in
          let rising : Each (λ (z : Told). AtMost next.told.numbers z.numbers) (drop (sent_in g next.conn + 1) ts) = rising_next ts (sent_in g next.conn) next.told talk.rising next.here in
          let more : sent_in (given k) next.conn ≡ sent_in g next.conn + 1 = ap (λ (z : ℕ). sent_in z next.conn) is_given ∙ next.more in
          let later : Each (λ (z : Told). AtMost next.told.numbers z.numbers) (drop (sent_in (given k) next.conn) ts) = subst (λ (z : ℕ). Each (λ (t : Told). AtMost next.told.numbers t.numbers) (drop z ts)) (sym more) rising in
          let A : UniqueAddress → UniqueAddress → Type 0 = λ a b. AtMost next.told.numbers (adopted_by a b (journal w)) in
          let B : UniqueAddress → UniqueAddress → Conn → Type 0 = λ a b c. Each (λ (z : Told). AtMost next.told.numbers z.numbers) (drop (sent_in (given k) c) (told_by a b c.dial (journal w))) in
          let a : A (name_by nobody y.conn.dialer (journal w)) n.me = subst (λ (x : UniqueAddress). A x n.me) name (subst (λ (x : UniqueAddress). A v x) (sym is_me) below) in
          let b : B (name_by nobody y.conn.dialer (journal w)) n.me y.conn = subst (λ (x : UniqueAddress). B x n.me y.conn) name (subst (λ (x : UniqueAddress). B v x y.conn) (sym is_me) (subst (λ (x : Conn). B v me x) same later)) in
          record {
            had = y.facts.had;
            begun = y.facts.begun;
            state = y.facts.state;
            owed = y.facts.owed;
            got = y.facts.got;
            fits = y.facts.fits;
            shown = λ kind. shown kind a b (y.facts.shown kind);
          }
        where
          shown : (kind : Kind) → AtMost next.told.numbers (adopted_by (name_by nobody y.conn.dialer (journal w)) n.me (journal w))
              → Each (λ (z : Told). AtMost next.told.numbers z.numbers) (drop (sent_in (given k) y.conn) (told_by (name_by nobody y.conn.dialer (journal w)) n.me y.conn.dial (journal w)))
              → IsShown (of_kind kind i.shown) kind (adopted_by (name_by nobody y.conn.dialer (journal w)) n.me (journal w)) (drop (sent_in (given k) y.conn) (told_by (name_by nobody y.conn.dialer (journal w)) n.me y.conn.dial (journal w)))
              → IsShown (of_kind kind (with_shown tables e i).shown) kind (adopted_by (name_by nobody y.conn.dialer (journal w)) n.me (journal w)) (drop (sent_in (given k) y.conn) (told_by (name_by nobody y.conn.dialer (journal w)) n.me y.conn.dial (journal w)))
          shown Refs a b h = shown_next Refs (number_of tables.refs.story e.refs_version) i.shown.refs _ next.told.numbers _ (λ x q. shows Refs x (ap (number_of tables.refs.story) (sym next.refs) ∙ q)) a b h
          shown Manifests a b h = shown_next Manifests (number_of tables.manifests.story e.manifests_version) i.shown.manifests _ next.told.numbers _ (λ x q. shows Manifests x (ap (number_of tables.manifests.story) (sym next.manifests) ∙ q)) a b h

module _ {nobody : UniqueAddress} {u m : ℕ} {given : ℕ → ℕ} where
  -- an ordinary message of who is known to speak
  pub got_keeps : (k p : ℕ) (stream : Option Stream) (frame : List ℕ) (i : Inbound whole) (v : UniqueAddress) (its_nonce : Option ℕ) (e : EnvelopeOf) (s : Meaning) (d : Work u m) → inbound_at k d.node ≡ Some i → i.number ≡ k → i.state ≡ Known v its_nonce
      → (d.deeds.ended ≡ None → (c : Comes u k (given k) p stream frame d.deeds.connections) × IsOrdinary stream d.node i c.wrote.writing e s) → Good nobody u given nowhere d.node d.deeds
      → Kept nobody u (then_given given k (p + 1)) nowhere d.deeds ((uses v.address ▸ got i v e s) d).node ((uses v.address ▸ got i v e s) d).deeds
  got_keeps k p stream frame i v its_nonce e s d at number known c g =
      kept_then nobody u (then_given given k (p + 1)) nowhere d.deeds d1.deeds d4.deeds d1.node d4.node k1
      (kept_then nobody u (then_given given k (p + 1)) nowhere d1.deeds d2.deeds d4.deeds d2.node d4.node k2
      (kept_then nobody u (then_given given k (p + 1)) nowhere d2.deeds d3.deeds d4.deeds d3.node d4.node k3 ((plain_keeps (counts_names v e) (counts_plain v e)).on d3 k3.good)))
    where
      hears : d.deeds.ended ≡ None → Hears nobody u k (given k) p d.node v (nonce_in i.state) e s d.deeds.connections (journal d.deeds)
      hears live = (let x = c live in subst (λ (z : Option ℕ). Hears nobody u k (given k) p d.node v z e s d.deeds.connections (journal d.deeds)) (sym (ap nonce_in known))
          (hears_next nobody u given d.node d.deeds.connections (journal d.deeds) (g.out live) (g.node live) k p stream frame i v its_nonce e s at known x.0 x.1))

      now_given : Good nobody u (then_given given k (p + 1)) nowhere d.node d.deeds
      now_given = comes_good nobody u given k p stream frame d.node d.deeds (λ live. (c live).0) g

      d1 : Work u m
      d1 = uses v.address d

      plainly : Plainly u d.node d.deeds d1.node d1.deeds
      plainly = (uses_plain v.address).on d

      k1 : Kept nobody u (then_given given k (p + 1)) nowhere d.deeds d1.node d1.deeds
      k1 = (plain_keeps (uses v.address) (uses_plain v.address)).on d now_given

      fits : d1.deeds.ended ≡ None → Fitting nobody u m (then_given given k (p + 1)) k d1.node.me v (nonce_in i.state) (tell_of s) (then_given given k (p + 1) k) d1.deeds.connections (journal d1.deeds)
      fits live =
          let before : d.deeds.ended ≡ None = plainly.going live in
          let next : Next nobody d.node.me v u k (given k) p e s (nonce_in i.state) d.deeds.connections (journal d.deeds) = (hears before).next in
          let f = fitting_next nobody u m given k p d.node v (nonce_in i.state) e s d.deeds.connections (journal d.deeds) (g.out before) (g.node before) i at next in
          subst (λ (z : UniqueAddress). Fitting nobody u m (then_given given k (p + 1)) k z v (nonce_in i.state) (tell_of s) (then_given given k (p + 1) k) d1.deeds.connections (journal d1.deeds)) (sym plainly.node.me)
          (fitting_plain nobody u m (then_given given k (p + 1)) k d.node.me v (nonce_in i.state) (tell_of s) (then_given given k (p + 1) k) d.node d.deeds d1.node d1.deeds plainly f.0 f.1)

      d2 : Work u m
      d2 = tells_of (λ me. lines.Got me v (nonce_in i.state) (tell_of s)) d1

      k2 : Kept nobody u (then_given given k (p + 1)) nowhere d1.deeds d2.node d2.deeds
      k2 = got_told k v (nonce_in i.state) (tell_of s) d1 fits k1.good

      d3 : Work u m
      d3 = inbound_becomes i.number (with_shown (origin_at v d1.node).tables e) d2

      later : Later nobody u d.deeds d2.deeds
      later = later_trans nobody u d.deeds d1.deeds d2.deeds k1.later k2.later

      shows : d2.deeds.ended ≡ None → (next : Next nobody d.node.me v u k (given k) p e s (nonce_in i.state) d2.deeds.connections (journal d2.deeds)) × Shows (λ kind. (of_kind kind (origin_at v d1.node).tables).story) next.told.numbers
      shows live =
          let x = hears (later.going live) in
          shows_later nobody d.node.me v u k (given k) p e s (nonce_in i.state) (λ kind. (of_kind kind (origin_at v d1.node).tables).story) d.deeds d2.deeds later x.next
          (λ kind y q. x.shows kind y (ap (λ z. number_of z (version_of (of_kind kind x.next.told.numbers))) (sym (plainly.node.stories v kind)) ∙ q))

      k3 : Kept nobody u (then_given given k (p + 1)) nowhere d2.deeds d3.node d3.deeds
      k3 = subst (λ (z : ℕ). Kept nobody u (then_given given k (p + 1)) nowhere d2.deeds (inbound_becomes z (with_shown (origin_at v d1.node).tables e) d2).node d2.deeds) (sym number) (record {
        good = shown_good k p (given k) d2.node v d.node.me (nonce_in i.state) e s (origin_at v d1.node).tables d2.deeds plainly.node.me (then_here given k (p + 1)) shows k2.good;
        later = later_self nobody u d2.deeds;
      })

      d4 : Work u m
      d4 = counts_names v e d3
