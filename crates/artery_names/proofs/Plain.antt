-- What a node does that says nothing of ordinary messages and tables: the facts stay true.
use Rattle.std.proofs.Common.{◌≡◌, ℕ, ◌≤◌, Bool, true, false, List, [], ◌∷◌, length, take, drop, refl, sym, ◌∙◌, ap, subst, arith}
use Rattle.std.specs.Prelude.{Option, None, Some, slice_get}
use Rattle.artery_base.specs.declared.address.Address.{Address}
use Rattle.artery_base.specs.declared.address.UniqueAddress.{UniqueAddress}
use Rattle.artery_base.specs.declared.message.Tell.{Tell}
use Rattle.artery_assoc.specs.Peer.{PeerState, is_closed, is_that}
use Rattle.artery_frame.specs.declared.stream.Stream.TheVariants as streams
use Rattle.artery_handshake.specs.declared.in_conn.InState.{InState}
use Rattle.artery_header.specs.Envelope.{EnvelopeOf}
use Rattle.artery_journal.specs.declared.line.Line.{Line}
use Rattle.artery_journal.specs.declared.words.Kind.{Kind}
use Rattle.artery_tables.specs.Story.{Story}
use Rattle.artery_tables.specs.OutTable.{State as Adopted}
use Rattle.artery_machine.specs.declared.link.Answer.{Answer}
use Rattle.artery_machine.specs.Parts.{whole}
use Rattle.artery_machine.specs.Connections.{is_dialed}
use Rattle.artery_machine.specs.Node.{Node, Peer, Inbound, OfKinds, of_kind, incarnation, peer_at, inbound_at}
use Rattle.artery_machine.specs.Ticking.{numbers_from}
use Rattle.artery_names.specs.Versions.{Fits}
use Rattle.artery_names.proofs.Lists.{Each, each_weaker, Or, First, Second, Within}
use Rattle.artery_names.proofs.Said.{Tabling, Acking, Answering}
use Rattle.artery_names.proofs.Talks.{Told, adopted_by, told_by, got_by, name_by, messages, SameTalk, SameSaid, same_said, same_talk, same_then}
use Rattle.artery_names.proofs.Facts.{Network, Conn, journal, sends_on, tables_on, acks_on, answers_on, Made, AreWritten, AtMost, AreRising, TalkFacts, ConnFacts, IsLawful, IsAnnounced, Out, IsHeld, AreHeld, IsBound, bound_in, PeerFacts, StoryFacts, IsFramed, story_of, stories_of, IsShown, IsState, IsKnown, MayOwe, sent_in, InFacts, Heard, Rises, numbers_in, NodeFacts, Good}
use Rattle.artery_names.proofs.Growing.{Grown, Still, still_self, still_trans, Stepped, stepped_self, stepped_trans, dialed_same, inward_same, carried_more, sent_same, length_prefix, Along, along_self, along_trans, along_wider, announced_grows, answered_grows, made_grows, all_written_grow}

-- ---- what a node knows of these

-- The same, or nothing any more.
pub data Less {X : Type 0} (x y : Option X) : Type 0 where
  Gone : y ≡ None → Less x y
  Same : y ≡ x → Less x y

pub less_trans : {X : Type 0} (x y z : Option X) → Less x y → Less y z → Less x z
less_trans x y z f (Gone e) = Gone e
less_trans x y z (Gone e) (Same g) = Gone (g ∙ e)
less_trans x y z (Same e) (Same g) = Same (g ∙ e)

-- An inbound connection that is as it was, but that an answer may be owed no more.
pub record StillHeard (i j : Inbound whole) : Type 0 where
  pub state : j.state ≡ i.state
  pub shown : j.shown ≡ i.shown
  pub owed : Less i.owed j.owed

pub record WasHeard (x : Option (Inbound whole)) (j : Inbound whole) : Type 0 where
  pub was : Inbound whole
  pub is : x ≡ Some was
  pub still : StillHeard was j

pub record SameNode (n k : Node whole) : Type 0 where
  pub me : k.me ≡ n.me
  pub numbers : numbers_in k.inbound ≡ numbers_in n.inbound
  pub known : (a : Address) → (peer_at a k).incarnations ≡ (peer_at a n).incarnations
  pub tables : (a : Address) → (peer_at a k).tables ≡ (peer_at a n).tables
  pub control : (a : Address) → Less (bound_in (peer_at a n).control.conn) (bound_in (peer_at a k).control.conn)
  pub ordinary : (a : Address) → Less (bound_in (peer_at a n).ordinary.conn) (bound_in (peer_at a k).ordinary.conn)
  pub stories : (v : UniqueAddress) (kind : Kind) → story_of kind v k ≡ story_of kind v n
  pub inbound : (x : ℕ) (j : Inbound whole) → inbound_at x k ≡ Some j → WasHeard (inbound_at x n) j

pub same_node : (n : Node whole) → SameNode n n
same_node n = record {
  me = refl;
  numbers = refl;
  known = λ a. refl;
  tables = λ a. refl;
  control = λ a. Same refl;
  ordinary = λ a. Same refl;
  stories = λ v kind. refl;
  inbound = λ x j e. record { was = j; is = e; still = record { state = refl; shown = refl; owed = Same refl } };
}

pub same_node_then : (n k m : Node whole) → SameNode n k → SameNode k m → SameNode n m
same_node_then n k m f g = record {
  me = g.me ∙ f.me;
  numbers = g.numbers ∙ f.numbers;
  known = λ a. g.known a ∙ f.known a;
  tables = λ a. g.tables a ∙ f.tables a;
  control = λ a. less_trans _ _ _ (f.control a) (g.control a);
  ordinary = λ a. less_trans _ _ _ (f.ordinary a) (g.ordinary a);
  stories = λ v kind. g.stories v kind ∙ f.stories v kind;
  inbound = λ x j e. (let b = g.inbound x j e in let a = f.inbound x b.was b.is in
      record { was = a.was; is = a.is; still = record { state = b.still.state ∙ a.still.state; shown = b.still.shown ∙ a.still.shown; owed = less_trans _ _ _ a.still.owed b.still.owed } });
}

pub record Plainly (u : ℕ) (n : Node whole) (w : Network) (k : Node whole) (v : Network) : Type 0 where
  pub node : SameNode n k
  pub talk : SameTalk (journal w) (journal v)
  pub conns : Along Still w.connections v.connections
  pub steps : Along (Stepped u) w.connections v.connections
  pub lawful : IsLawful (journal w) → IsLawful (journal v)
  pub going : v.ended ≡ None → w.ended ≡ None

pub plainly_self : (u : ℕ) (n : Node whole) (w : Network) → Plainly u n w n w
plainly_self u n w = record { node = same_node n; talk = same_talk (journal w); conns = along_self Still still_self w.connections; steps = along_self (Stepped u) (stepped_self u) w.connections; lawful = λ h. h; going = λ h. h }

pub plainly_then : (u : ℕ) (n : Node whole) (w : Network) (k : Node whole) (v : Network) (m : Node whole) (x : Network) → Plainly u n w k v → Plainly u k v m x → Plainly u n w m x
plainly_then u n w k v m x f g = record {
  steps = along_trans (Stepped u) (stepped_trans u) w.connections v.connections x.connections f.steps g.steps;
  node = same_node_then n k m f.node g.node;
  talk = same_then _ _ _ f.talk g.talk;
  conns = along_trans Still still_trans w.connections v.connections x.connections f.conns g.conns;
  lawful = λ h. g.lawful (f.lawful h);
  going = λ h. f.going (g.going h);
}

-- ---- so the facts stay true

module _ (nobody : UniqueAddress) where
  talk_plain : (a b : UniqueAddress) (d : ℕ) (ls ks : List Line) → SameSaid ls ks → TalkFacts a b d ls → TalkFacts a b d ks
  talk_plain a b d ls ks s h = record {
    rising = subst AreRising (sym (s.told a b d)) h.rising;
    below = subst (λ (x : OfKinds ℕ). Each (λ (t : Told). AtMost t.numbers x) (told_by a b d ks)) (sym (s.adopted a b))
        (subst (λ ts. Each (λ (t : Told). AtMost t.numbers (adopted_by a b ls)) ts) (sym (s.told a b d)) h.below);
  }

  conn_plain : (cs ds : List Conn) (a b : UniqueAddress) (ls ks : List Line) (c d : Conn) → Along Grown cs ds → SameSaid ls ks → Still c d → ConnFacts cs a b ls c → ConnFacts ds a b ks d
  conn_plain cs ds a b ls ks c d l s t h =
      let told_is : told_by a b d.dial ks ≡ told_by a b c.dial ls = s.told a b d.dial ∙ ap (λ (x : ℕ). told_by a b x ls) t.grown.dial in
      record {
        near = h.near ∙ sym t.grown.dialer;
        far = h.far ∙ sym t.grown.far;
        told = subst (λ (x : ℕ). AreWritten ds x d.far (sends_on d) (told_by a b d.dial ks)) (sym t.grown.dialer)
            (subst (λ (x : ℕ). AreWritten ds c.dialer x (sends_on d) (told_by a b d.dial ks)) (sym t.grown.far)
            (subst (λ es. AreWritten ds c.dialer c.far es (told_by a b d.dial ks)) (sym t.sends)
            (subst (λ ts. AreWritten ds c.dialer c.far (sends_on c) ts) (sym told_is) (all_written_grow cs ds l c.dialer c.far (sends_on c) (told_by a b c.dial ls) h.told))));
        all = λ o. ap (λ (es : List EnvelopeOf). length es) t.sends ∙ h.all (t.grown.near o) ∙ sym (ap (λ (ts : List Told). length ts) told_is);
        acks = subst (λ (x : OfKinds ℕ). Each (λ (k : Acking). k.number ≤ of_kind k.kind x) (acks_on d)) (sym (s.adopted a b))
            (subst (λ ks. Each (λ (k : Acking). k.number ≤ of_kind k.kind (adopted_by a b ls)) ks) (sym t.acks) h.acks);
        says = subst (λ vs. Each (λ (v : UniqueAddress). v ≡ a) vs) (sym t.speakers) h.says;
        places = subst (λ ts. Each (λ (x : Tabling). x.values ≡ numbers_from 0 (length x.keys)) ts) (sym t.tables) h.places;
      }

  pub announced_more : (cs ds : List Conn) → Along Grown cs ds → (a b : UniqueAddress) (kind : Kind) (number : ℕ) → IsAnnounced nobody cs a b kind number → IsAnnounced nobody ds a b kind number
  announced_more cs ds l a b kind number (First e) = First e
  announced_more cs ds l a b kind number (Second k) = Second (k.0, announced_grows cs ds l b.uid a.uid kind number k.0 k.1)

  untold_plain : (cs ds : List Conn) (ls ks : List Line) → Along Grown cs ds → SameSaid ls ks → (a b : UniqueAddress) (d : ℕ) → Or (told_by a b d ls ≡ []) (Made cs a.uid d) → Or (told_by a b d ks ≡ []) (Made ds a.uid d)
  untold_plain cs ds ls ks l s a b d (First e) = First (s.told a b d ∙ e)
  untold_plain cs ds ls ks l s a b d (Second m) = Second (made_grows cs ds l a.uid d m)

  pub out_plain : (cs ds : List Conn) (ls ks : List Line) → Along Still cs ds → SameSaid ls ks → Out nobody cs ls → Out nobody ds ks
  out_plain cs ds ls ks l s h = record {
    adopts = λ a b kind. subst (λ (x : OfKinds ℕ). IsAnnounced nobody ds a b kind (of_kind kind x)) (sym (s.adopted a b)) (announced_more cs ds (grow l) a b kind (of_kind kind (adopted_by a b ls)) (h.adopts a b kind));
    dialed = λ i j c k e f p q. (let a = l.back i c e in let b = l.back j k f in h.dialed i j a.was b.was a.is b.is (sym a.so.grown.dialer ∙ p ∙ b.so.grown.dialer) (sym a.so.grown.dial ∙ q ∙ b.so.grown.dial));
    reached = λ i j c k e f p q. (let a = l.back i c e in let b = l.back j k f in h.reached i j a.was b.was a.is b.is (sym a.so.grown.far ∙ p ∙ b.so.grown.far) (sym a.so.grown.number ∙ q ∙ b.so.grown.number));
    untold = λ a b d. untold_plain cs ds ls ks (grow l) s a b d (h.untold a b d);
    talks = λ a b d. talk_plain a b d ls ks s (h.talks a b d);
    conns = λ i c e. (let b = l.back i c e in
        let near : name_by nobody c.dialer ks ≡ name_by nobody b.was.dialer ls = s.name nobody c.dialer ∙ ap (λ (x : ℕ). name_by nobody x ls) b.so.grown.dialer in
        let far : name_by nobody c.far ks ≡ name_by nobody b.was.far ls = s.name nobody c.far ∙ ap (λ (x : ℕ). name_by nobody x ls) b.so.grown.far in
        subst (λ (x : UniqueAddress). ConnFacts ds x (name_by nobody c.far ks) ks c) (sym near)
        (subst (λ (x : UniqueAddress). ConnFacts ds (name_by nobody b.was.dialer ls) x ks c) (sym far)
        (conn_plain cs ds (name_by nobody b.was.dialer ls) (name_by nobody b.was.far ls) ls ks b.was c (grow l) s b.so (h.conns i b.was b.is))));
  }
    where
      grow : Along Still cs ds → Along Grown cs ds
      grow k = along_wider Still Grown (λ c d t. t.grown) cs ds k

  -- ---- a peer

  pub bound_grows : (me : UniqueAddress) (cs ds : List Conn) (ls ks : List Line) (a : Address) (x : Option (ℕ × ℕ)) → Along Grown cs ds → ((uid : ℕ) → name_by nobody uid ls ≡ incarnation a uid → name_by nobody uid ks ≡ incarnation a uid)
      → IsBound nobody me cs ls a x → IsBound nobody me ds ks a x
  bound_grows me cs ds ls ks a None l s h = tt
  bound_grows me cs ds ls ks a (Some (dial, uid)) l s h = record {
    name = s uid h.name;
    far = λ i c e t. (let b = l.back i c e in b.so.far ∙ h.far i b.was b.is (sym (dialed_same me.uid dial b.was c b.so) ∙ t));
    answered = answered_grows cs ds l uid me.uid dial h.answered;
    made = made_grows cs ds l me.uid dial h.made;
  }

  pub bound_less : (me : UniqueAddress) (cs : List Conn) (ls : List Line) (a : Address) (x y : Option (ℕ × ℕ)) → Less x y → IsBound nobody me cs ls a x → IsBound nobody me cs ls a y
  bound_less me cs ls a x y (Gone e) h = subst (IsBound nobody me cs ls a) (sym e) tt
  bound_less me cs ls a x y (Same e) h = subst (IsBound nobody me cs ls a) (sym e) h

  pub peer_facts_plain : (me : UniqueAddress) (cs ds : List Conn) (ls ks : List Line) (a : Address) (p q : Peer whole) → Along Grown cs ds → SameSaid ls ks → q.incarnations ≡ p.incarnations
      → Less (bound_in p.control.conn) (bound_in q.control.conn) → Less (bound_in p.ordinary.conn) (bound_in q.ordinary.conn) → PeerFacts nobody me cs ls a p → PeerFacts nobody me ds ks a q
  peer_facts_plain me cs ds ls ks a p q l s same con ord h = record {
    alive = subst (λ (x : PeerState). (uid : ℕ) → x.current ≡ Some uid → is_closed uid x ≡ false) (sym same) h.alive;
    unspoken = λ uid t f. s.adopted me (incarnation a uid) ∙ h.unspoken uid (sym (ap (λ (x : PeerState). is_that uid x.current) same) ∙ t) (sym (ap (λ (x : PeerState). is_closed uid x) same) ∙ f);
    control = bound_less me ds ks a _ _ con (bound_grows me cs ds ls ks a (bound_in p.control.conn) l (λ uid e. s.name nobody uid ∙ e) h.control);
    ordinary = bound_less me ds ks a _ _ ord (bound_grows me cs ds ls ks a (bound_in p.ordinary.conn) l (λ uid e. s.name nobody uid ∙ e) h.ordinary);
  }

  -- ---- tables

  pub held_grows : (cs ds : List Conn) → Along Grown cs ds → (by to : ℕ) (kind : Kind) (number : ℕ) (pairs : List (List ℕ × ℕ)) → IsHeld cs by to kind number pairs → IsHeld ds by to kind number pairs
  held_grows cs ds l by to kind number [] h = tt
  held_grows cs ds l by to kind number (p ∷ ps) h = (h.0, announced_grows cs ds l by to kind number h.0 h.1, h.2)

  pub all_held_grow : (cs ds : List Conn) (me : UniqueAddress) (a : Address) (ls ks : List Line) (tables : OfKinds Adopted) (current : Option ℕ) → Along Grown cs ds
      → ((uid : ℕ) → current ≡ Some uid → adopted_by me (incarnation a uid) ks ≡ adopted_by me (incarnation a uid) ls) → AreHeld cs me a ls tables current → AreHeld ds me a ks tables current
  all_held_grow cs ds me a ls ks tables None l s h = h
  all_held_grow cs ds me a ls ks tables (Some uid) l s h = λ kind. record {
    number = (h kind).number ∙ sym (ap (λ (x : OfKinds ℕ). of_kind kind x) (s uid refl));
    held = held_grows cs ds l uid me.uid kind (of_kind kind tables).number (of_kind kind tables).pairs (h kind).held;
  }

  -- ---- inbound connections

  owed_less : (c d : Conn) (s t : InState) (x y : Option Answer) → Grown c d → t ≡ s → Less x y → MayOwe c s x → MayOwe d t y
  owed_less c d s t x y g e (Gone f) h = subst (MayOwe d t) (sym f) tt
  owed_less c d s t x y g e (Same f) h = subst (MayOwe d t) (sym f) (by x h)
    where
      by : (x : Option Answer) → MayOwe c s x → MayOwe d t x
      by None k = tt
      by (Some z) k = record { uid = k.uid ∙ ap Some (sym g.dialer); nonce = k.nonce ∙ ap Some (sym g.dial); known = subst IsKnown (sym e) k.known }

  pub in_plain : (me a : UniqueAddress) (given : ℕ) (n k : Kind → Story) (ls ks : List Line) (i j : Inbound whole) (c d : Conn) → ((kind : Kind) → k kind ≡ n kind) → SameTalk ls ks → Grown c d → StillHeard i j
      → InFacts me a given n ls i c → InFacts me a given k ks j d
  in_plain me a given n k ls ks i j c d s t g x h =
      let told_is : told_by a me d.dial ks ≡ told_by a me c.dial ls = t.told a me d.dial ∙ ap (λ (y : ℕ). told_by a me y ls) g.dial in
      let got_is : got_by a me d.dial ks ≡ got_by a me c.dial ls = t.got a me d.dial ∙ ap (λ (y : ℕ). got_by a me y ls) g.dial in
      let sent : sent_in given d ≡ sent_in given c = sent_same given c d g h.had in
      let later : drop (sent_in given d) (told_by a me d.dial ks) ≡ drop (sent_in given c) (told_by a me c.dial ls) = ap (λ (y : ℕ). drop y (told_by a me d.dial ks)) sent ∙ ap (drop (sent_in given c)) told_is in
      let before : take (sent_in given d) (told_by a me d.dial ks) ≡ take (sent_in given c) (told_by a me c.dial ls) = ap (λ (y : ℕ). take y (told_by a me d.dial ks)) sent ∙ ap (take (sent_in given c)) told_is in
      record {
        begun = λ y. h.begun (subst IsKnown x.state y);
        had = (let p : length c.way.all ≤ length d.way.all = length_prefix c.way.all d.way.all g.more in let q : given ≤ length c.way.all = h.had in omega arith);
        state = subst (λ (y : InState). IsState a d.dial (told_by a me d.dial ks) y) (sym x.state)
            (subst (λ (y : List Told). IsState a d.dial y i.state) (sym told_is) (subst (λ (y : ℕ). IsState a y (told_by a me c.dial ls) i.state) (sym g.dial) h.state));
        owed = owed_less c d i.state j.state i.owed j.owed g x.state x.owed h.owed;
        got = subst (λ (y : List Tell). Within y (messages (take (sent_in given d) (told_by a me d.dial ks)))) (sym got_is)
            (subst (λ (y : List Told). Within (got_by a me c.dial ls) (messages y)) (sym before) h.got);
        fits = λ u kind. subst (λ (y : Story). Each (λ (z : Told). Fits (length y.tables) (of_kind kind z.numbers)) (drop (sent_in given d) (told_by a me d.dial ks))) (sym (s kind))
            (subst (λ (y : List Told). Each (λ (z : Told). Fits (length (n kind).tables) (of_kind kind z.numbers)) y) (sym later) (h.fits (λ e. u (carried_more c.way.all d.way.all streams.Control g.more e)) kind));
        shown = λ kind. subst (λ (y : OfKinds (Option ℕ)). IsShown (of_kind kind y) kind (adopted_by a me ks) (drop (sent_in given d) (told_by a me d.dial ks))) (sym x.shown)
            (subst (λ (y : OfKinds ℕ). IsShown (of_kind kind i.shown) kind y (drop (sent_in given d) (told_by a me d.dial ks))) (sym (t.adopted a me))
            (subst (λ (y : List Told). IsShown (of_kind kind i.shown) kind (adopted_by a me ls) y) (sym later) (h.shown kind)));
      }

  heard_plain : (me : UniqueAddress) (given : ℕ) (n k : UniqueAddress → Kind → Story) (cs ds : List Conn) (ls ks : List Line) (x : ℕ) (i j : Inbound whole) → ((v : UniqueAddress) (kind : Kind) → k v kind ≡ n v kind) → SameTalk ls ks → Along Grown cs ds → StillHeard i j
      → Heard nobody me given n cs ls x i → Heard nobody me given k ds ks x j
  heard_plain me given n k cs ds ls ks x i j s t l y h =
      let f = l.forth h.place h.conn h.is in
      let name : name_by nobody f.next.dialer ks ≡ name_by nobody h.conn.dialer ls = t.name nobody f.next.dialer ∙ ap (λ (z : ℕ). name_by nobody z ls) f.so.dialer in
      record {
        place = h.place;
        conn = f.next;
        is = f.is;
        inward = inward_same me.uid x h.conn f.next f.so ∙ h.inward;
        facts = subst (λ (z : UniqueAddress). InFacts me z given (k z) ks j f.next) (sym name)
            (in_plain me (name_by nobody h.conn.dialer ls) given (n (name_by nobody h.conn.dialer ls)) (k (name_by nobody h.conn.dialer ls)) ls ks i j h.conn f.next (s (name_by nobody h.conn.dialer ls)) t f.so y h.facts);
      }

  -- ---- a node

  opened_plain : (u : ℕ) (n k : Node whole) (cs ds : List Conn) → SameNode n k → Along Grown cs ds → (xs : List Answering)
      → Each (λ (x : Answering). (p : ℕ) (c : Conn) → slice_get cs p ≡ Some c → is_dialed x.uid x.dial c ≡ true → (c.far ≡ u) × ((i : Inbound whole) → inbound_at c.number n ≡ Some i → IsKnown i.state)) xs
      → Each (λ (x : Answering). (p : ℕ) (c : Conn) → slice_get ds p ≡ Some c → is_dialed x.uid x.dial c ≡ true → (c.far ≡ u) × ((i : Inbound whole) → inbound_at c.number k ≡ Some i → IsKnown i.state)) xs
  opened_plain u n k cs ds s l xs h = each_weaker _ _ (λ x f p c e t.
      (let b = l.back p c e in
      let g = f p b.was b.is (sym (dialed_same x.uid x.dial b.was c b.so) ∙ t) in (
        b.so.far ∙ g.0,
        λ i z. (let y = s.inbound c.number i z in
            subst IsKnown (sym y.still.state) (g.1 y.was (sym (ap (λ (q : ℕ). inbound_at q n) b.so.number) ∙ y.is))),
      ))) xs h

  pub node_plain : (u : ℕ) (given : ℕ → ℕ) (away : Address → Bool) (n k : Node whole) (cs ds : List Conn) (ls ks : List Line) → SameNode n k → SameTalk ls ks → Along Still cs ds
      → NodeFacts nobody u given away n cs ls → NodeFacts nobody u given away k ds ks
  node_plain u given away n k cs ds ls ks s t l h = record {
    uid = ap (λ (x : UniqueAddress). x.uid) s.me ∙ h.uid;
    me = t.name nobody u ∙ h.me ∙ sym s.me;
    ordered = subst (Rises 0) (sym s.numbers) h.ordered;
    peers = λ a. subst (λ (x : UniqueAddress). PeerFacts nobody x ds ks a (peer_at a k)) (sym s.me)
        (peer_facts_plain n.me cs ds ls ks a (peer_at a n) (peer_at a k) g (same_said ls ks t) (s.known a) (s.control a) (s.ordinary a) (h.peers a));
    tables = λ a e. subst (λ (x : UniqueAddress). AreHeld ds x a ks (peer_at a k).tables (peer_at a k).incarnations.current) (sym s.me)
        (subst (λ (x : OfKinds Adopted). AreHeld ds n.me a ks x (peer_at a k).incarnations.current) (sym (s.tables a))
        (subst (λ (x : PeerState). AreHeld ds n.me a ks (peer_at a n).tables x.current) (sym (s.known a))
        (all_held_grow cs ds n.me a ls ks (peer_at a n).tables (peer_at a n).incarnations.current g (λ uid c. t.adopted n.me (incarnation a uid)) (h.tables a e))));
    gone = λ a e. ap (λ (x : PeerState). x.current) (s.known a) ∙ h.gone a e;
    origins = λ v kind. subst (λ (x : Story). StoryFacts x (of_kind kind (adopted_by v k.me ks))) (sym (s.stories v kind))
        (subst (λ (x : UniqueAddress). StoryFacts (story_of kind v n) (of_kind kind (adopted_by v x ks))) (sym s.me)
        (subst (λ (x : OfKinds ℕ). StoryFacts (story_of kind v n) (of_kind kind x)) (sym (t.adopted v n.me)) (h.origins v kind)));
    framed = λ i c e o. (let b = l.back i c e in
        let was : Each (λ (x : Tabling). IsFramed (story_of x.kind (name_by nobody b.was.far ls) n) x) (tables_on b.was) = h.framed i b.was b.is (sym b.so.grown.dialer ∙ o) in
        let far : name_by nobody c.far ks ≡ name_by nobody b.was.far ls = t.name nobody c.far ∙ ap (λ (x : ℕ). name_by nobody x ls) b.so.grown.far in
        subst (λ xs. Each (λ (x : Tabling). IsFramed (story_of x.kind (name_by nobody c.far ks) k) x) xs) (sym b.so.tables)
        (each_weaker _ _ (λ x f. subst (λ (z : UniqueAddress). IsFramed (story_of x.kind z k) x) (sym far) (subst (λ (z : Story). IsFramed z x) (sym (s.stories (name_by nobody b.was.far ls) x.kind)) f)) (tables_on b.was) was));
    inbound = λ x j e. (let b = s.inbound x j e in
        subst (λ (z : UniqueAddress). Heard nobody z (given x) (stories_of k) ds ks x j) (sym s.me)
        (heard_plain n.me (given x) (stories_of n) (stories_of k) cs ds ls ks x b.was j s.stories t g b.still (h.inbound x b.was b.is)));
    opened = λ j c e o. (let b = l.back j c e in
        subst (λ xs. Each (λ (x : Answering). (p : ℕ) (z : Conn) → slice_get ds p ≡ Some z → is_dialed x.uid x.dial z ≡ true → (z.far ≡ u) × ((i : Inbound whole) → inbound_at z.number k ≡ Some i → IsKnown i.state)) xs) (sym b.so.answers)
        (opened_plain u n k cs ds s g (answers_on b.was) (h.opened j b.was b.is (sym b.so.grown.dialer ∙ o))));
  }
    where
      g : Along Grown cs ds
      g = along_wider Still Grown (λ c d x. x.grown) cs ds l

  pub good_plain : (u : ℕ) (given : ℕ → ℕ) (away : Address → Bool) (n k : Node whole) (w v : Network) → Plainly u n w k v → Good nobody u given away n w → Good nobody u given away k v
  good_plain u given away n k w v p h = record {
    lawful = p.lawful h.lawful;
    out = λ e. out_plain w.connections v.connections (journal w) (journal v) p.conns (same_said (journal w) (journal v) p.talk) (h.out (p.going e));
    node = λ e. node_plain u given away n k w.connections v.connections (journal w) (journal v) p.node p.talk p.conns (h.node (p.going e));
  }
