-- A connection is made: the facts stay true, and nothing was told on it.
use Rattle.std.proofs.Common.{◌≡◌, ℕ, zero, suc, ◌+◌, ◌≤◌, Bool, true, List, [], ◌∷◌, ◌++◌, length, refl, sym, ap, subst, arith}
use Rattle.std.specs.Prelude.{Option, None, Some, ◌==◌, slice_get}
use Rattle.std.specs.List.{find}
use Rattle.artery_base.specs.declared.address.Address.{Address}
use Rattle.artery_base.specs.declared.address.UniqueAddress.{UniqueAddress}
use Rattle.artery_control.specs.declared.control.Control.{Control}
use Rattle.artery_control.specs.declared.control.Control.TheVariants as controls
use Rattle.artery_header.specs.Envelope.{NameOf, Literal, Index, EnvelopeOf}
use Rattle.artery_journal.specs.declared.line.Line.{Line}
use Rattle.artery_journal.specs.declared.words.Kind.{Kind}
use Rattle.artery_journal.specs.declared.words.Kind.TheVariants.{Refs, Manifests}
use Rattle.artery_tables.specs.Story.{Story}
use Rattle.artery_tables.specs.OutTable.{State as Adopted}
use Rattle.artery_machine.specs.Deeds.{Writing, Begins, Controls, Sends}
use Rattle.artery_machine.specs.Parts.{whole}
use Rattle.artery_machine.specs.Ways.{Wrote, whole_ways}
use Rattle.artery_machine.specs.Connections.{connected, is_dialed}
use Rattle.artery_machine.specs.Node.{Node, Peer, Inbound, OfKinds, of_kind, inbound_at, peer_at}
use Rattle.artery_machine.specs.World.{Live, Pending, has_uid, one_more, joins}
use Rattle.artery_flight.proofs.Lists.{each_change, count, count_here, each_find}
use Rattle.artery_flight.proofs.Grow.{AllRead, IsAnswerFor}
use Rattle.artery_flight.proofs.Facts.{IsTrue, IsTrueControl, ConnFacts as FlightFacts}
use Rattle.artery_flight.proofs.Networks.{Holds}
use Rattle.artery_flight.proofs.Joining.{Offered, joined}
use Rattle.artery_flight.proofs.Flights.{are_single}
use Rattle.artery_flight.specs.Names.{AreSingle}
use Rattle.artery_names.proofs.Lists.{not_some, some_same, eq_true, eq_self, and_left, and_right, and_both, Each, each_weaker, each_both, each_get, get_front, Or, First, Second}
use Rattle.artery_names.proofs.Said.{Tabling, Answering, all_said, answers_said, answers_of, answers_by, tables_said}
use Rattle.artery_names.proofs.Talks.{Told, adopted_by, told_by, name_by}
use Rattle.artery_names.proofs.Facts.{Network, Conn, journal, sends_on, answers_on, tables_on, Announced, Answered, Made, IsNamed, AreWritten, ConnFacts, IsAnnounced, Out, IsHeld, AreHeld, IsBound, bound_in, PeerFacts, IsFramed, story_of, stories_of, Heard, IsKnown, NodeFacts}
use Rattle.artery_names.proofs.Keeping.{nowhere}
use Rattle.artery_names.proofs.Writes.{IsOpened}
use Rattle.artery_names.proofs.Giving.{MadeJustNow}
use Rattle.artery_names.proofs.Worlds.{NodeNames, Names}

-- ---- one more connection behind the others

get_last : (cs : List Conn) (k : Conn) → slice_get (cs ++ k ∷ []) (length cs) ≡ Some k
get_last [] k = refl
get_last (c ∷ cs) k = get_last cs k

-- What stands at a place is one of those before, or the last one.
data Pushed (cs : List Conn) (k : Conn) (i : ℕ) (c : Conn) : Type 0 where
  Before : slice_get cs i ≡ Some c → Pushed cs k i c
  Last : c ≡ k → Pushed cs k i c

pushed : (cs : List Conn) (k : Conn) (i : ℕ) (c : Conn) → slice_get (cs ++ k ∷ []) i ≡ Some c → Pushed cs k i c
pushed [] k zero c e = Last (sym (some_same e))
pushed [] k (suc i) c e = not_some e
pushed (d ∷ cs) k zero c e = Before e
pushed (d ∷ cs) k (suc i) c e = by (pushed cs k i c e)
  where
    by : Pushed cs k i c → Pushed (d ∷ cs) k (suc i) c
    by (Before x) = Before x
    by (Last x) = Last x

module _ (cs : List Conn) (k : Conn) where
  announced_front : (by to : ℕ) (kind : Kind) (number : ℕ) (keys : List (List ℕ)) → Announced cs by to kind number keys → Announced (cs ++ k ∷ []) by to kind number keys
  announced_front by to kind number keys h = record { place = h.place; conn = h.conn; is = get_front cs (k ∷ []) h.place h.conn h.is; near = h.near; far = h.far; said = h.said }

  answered_front : (by uid dial : ℕ) → Answered cs by uid dial → Answered (cs ++ k ∷ []) by uid dial
  answered_front by uid dial h = record { place = h.place; conn = h.conn; is = get_front cs (k ∷ []) h.place h.conn h.is; near = h.near; said = h.said }

  made_front : (u dial : ℕ) → Made cs u dial → Made (cs ++ k ∷ []) u dial
  made_front u dial h = record { place = h.place; conn = h.conn; is = get_front cs (k ∷ []) h.place h.conn h.is; dialed = h.dialed }

  named_front : (near far : ℕ) (kind : Kind) (number : ℕ) (e : NameOf) (name : List ℕ) → IsNamed cs near far kind number e name → IsNamed (cs ++ k ∷ []) near far kind number e name
  named_front near far kind number (Literal text) name h = h
  named_front near far kind number (Index i) name h = record { keys = h.keys; table = announced_front far near kind number h.keys h.table; entry = h.entry }

  written_front : (near far : ℕ) (es : List EnvelopeOf) (ts : List Told) → AreWritten cs near far es ts → AreWritten (cs ++ k ∷ []) near far es ts
  written_front near far [] ts h = tt
  written_front near far (e ∷ es) [] h = h
  written_front near far (e ∷ es) (t ∷ ts) h = (
    record {
      refs_version = h.0.refs_version;
      manifests_version = h.0.manifests_version;
      sender = named_front near far Refs t.numbers.refs e.sender t.message.sender h.0.sender;
      recipient = named_front near far Refs t.numbers.refs e.recipient t.message.recipient h.0.recipient;
      manifest = named_front near far Manifests t.numbers.manifests e.manifest t.message.manifest h.0.manifest;
      serializer = h.0.serializer;
      payload = h.0.payload;
    },
    written_front near far es ts h.1,
  )

  conn_front : (a b : UniqueAddress) (ls : List Line) (c : Conn) → ConnFacts cs a b ls c → ConnFacts (cs ++ k ∷ []) a b ls c
  conn_front a b ls c f = record { near = f.near; far = f.far; told = written_front c.dialer c.far (sends_on c) (told_by a b c.dial ls) f.told; all = f.all; acks = f.acks; says = f.says; places = f.places }

  held_front : (by to : ℕ) (kind : Kind) (number : ℕ) (pairs : List (List ℕ × ℕ)) → IsHeld cs by to kind number pairs → IsHeld (cs ++ k ∷ []) by to kind number pairs
  held_front by to kind number [] h = tt
  held_front by to kind number (p ∷ ps) h = (h.0, announced_front by to kind number h.0 h.1, h.2)

  all_held_front : (me : UniqueAddress) (a : Address) (ls : List Line) (tables : OfKinds Adopted) (current : Option ℕ) → AreHeld cs me a ls tables current → AreHeld (cs ++ k ∷ []) me a ls tables current
  all_held_front me a ls tables None h = h
  all_held_front me a ls tables (Some uid) h = λ kind. record { number = (h kind).number; held = held_front uid me.uid kind (of_kind kind tables).number (of_kind kind tables).pairs (h kind).held }

  -- no other connection has its name
  module _ (fresh : count (is_dialed k.dialer k.dial) cs ≡ 0) where
    not_made : (u d : ℕ) → Made cs u d → is_dialed u d k ≡ true → ⊥
    not_made u d m t =
        let a : k.dialer ≡ u = eq_true k.dialer u (and_left (k.dialer == u) (k.dial == d) t) in
        let b : k.dial ≡ d = eq_true k.dial d (and_right (k.dialer == u) (k.dial == d) t) in
        let x : is_dialed k.dialer k.dial m.conn ≡ true = subst (λ (z : ℕ). is_dialed z k.dial m.conn ≡ true) (sym a) (subst (λ (z : ℕ). is_dialed u z m.conn ≡ true) (sym b) m.dialed) in
        let c : 1 ≤ count (is_dialed k.dialer k.dial) cs = count_here (is_dialed k.dialer k.dial) cs m.place m.conn m.is x in
        (let f : ⊥ = omega arith in f)

    bound_front : (nobody me : UniqueAddress) (ls : List Line) (a : Address) (x : Option (ℕ × ℕ)) → IsBound nobody me cs ls a x → IsBound nobody me (cs ++ k ∷ []) ls a x
    bound_front nobody me ls a None h = tt
    bound_front nobody me ls a (Some (dial, uid)) h = record { name = h.name; far = λ i c e t. by i c t (pushed cs k i c e); answered = answered_front uid me.uid dial h.answered; made = made_front me.uid dial h.made }
      where
        by : (i : ℕ) (c : Conn) → is_dialed me.uid dial c ≡ true → Pushed cs k i c → c.far ≡ uid
        by i c t (Before e) = h.far i c e t
        by i c t (Last e) = absurd (not_made me.uid dial h.made (subst (λ (z : Conn). is_dialed me.uid dial z ≡ true) e t))

    peer_front : (nobody me : UniqueAddress) (ls : List Line) (a : Address) (p : Peer whole) → PeerFacts nobody me cs ls a p → PeerFacts nobody me (cs ++ k ∷ []) ls a p
    peer_front nobody me ls a p h = record { alive = h.alive; unspoken = h.unspoken; control = bound_front nobody me ls a (bound_in p.control.conn) h.control; ordinary = bound_front nobody me ls a (bound_in p.ordinary.conn) h.ordinary }

    heard_front : (nobody me : UniqueAddress) (given : ℕ) (stories : UniqueAddress → Kind → Story) (ls : List Line) (x : ℕ) (i : Inbound whole) → Heard nobody me given stories cs ls x i → Heard nobody me given stories (cs ++ k ∷ []) ls x i
    heard_front nobody me given stories ls x i h = record { place = h.place; conn = h.conn; is = get_front cs (k ∷ []) h.place h.conn h.is; inward = h.inward; facts = h.facts }

    -- nothing was written on it, and no answer names it
    module _ (nothing : k.way.all ≡ []) (unnamed : (j : ℕ) (c : Conn) → slice_get cs j ≡ Some c → Each (λ (y : Answering). is_dialed y.uid y.dial k ≡ true → ⊥) (answers_on c)) where
      nothing_on : {X : Type 0} (says : Writing → List X) (P : X → Type 0) (c : Conn) → c ≡ k → Each P (all_said says c.way.all)
      nothing_on says P c e = subst (λ (z : Conn). Each P (all_said says z.way.all)) (sym e) (subst (λ ws. Each P (all_said says ws)) (sym nothing) tt)

      pub node_front : (nobody : UniqueAddress) (u : ℕ) (given : ℕ → ℕ) (n : Node whole) (ls : List Line) → NodeFacts nobody u given nowhere n cs ls → NodeFacts nobody u given nowhere n (cs ++ k ∷ []) ls
      node_front nobody u given n ls h = record {
        uid = h.uid;
        me = h.me;
        ordered = h.ordered;
        peers = λ a. peer_front nobody n.me ls a (peer_at a n) (h.peers a);
        tables = λ a e. all_held_front n.me a ls (peer_at a n).tables (peer_at a n).incarnations.current (h.tables a e);
        gone = h.gone;
        origins = h.origins;
        framed = λ i c e o. framed i c o (pushed cs k i c e);
        inbound = λ x i at. heard_front nobody n.me (given x) (stories_of n) ls x i (h.inbound x i at);
        opened = λ j c e o. opened j c o (pushed cs k j c e);
      }
        where
          framed : (i : ℕ) (c : Conn) → c.dialer ≡ u → Pushed cs k i c → Each (λ (t : Tabling). IsFramed (story_of t.kind (name_by nobody c.far ls) n) t) (tables_on c)
          framed i c o (Before e) = h.framed i c e o
          framed i c o (Last e) = nothing_on tables_said _ c e

          both : (ys : List Answering) → Each (IsOpened u n cs) ys → Each (λ (y : Answering). is_dialed y.uid y.dial k ≡ true → ⊥) ys → Each (IsOpened u n (cs ++ k ∷ [])) ys
          both [] a b = tt
          both (y ∷ ys) a b = ((λ p c e t. at_it p c t (pushed cs k p c e)), both ys a.1 b.1)
            where
              at_it : (p : ℕ) (c : Conn) → is_dialed y.uid y.dial c ≡ true → Pushed cs k p c → (c.far ≡ u) × ((i : Inbound whole) → inbound_at c.number n ≡ Some i → IsKnown i.state)
              at_it p c t (Before e) = a.0 p c e t
              at_it p c t (Last e) = absurd (b.0 (subst (λ (z : Conn). is_dialed y.uid y.dial z ≡ true) e t))

          opened : (j : ℕ) (c : Conn) → c.dialer ≡ u → Pushed cs k j c → Each (IsOpened u n (cs ++ k ∷ [])) (answers_on c)
          opened j c o (Before e) = both (answers_on c) (h.opened j c e o) (unnamed j c e)
          opened j c o (Last e) = nothing_on answers_said _ c e

-- ---- answers name connections that were made

answers_name : (k : Conn) (cs : List Conn) → count (is_dialed k.dialer k.dial) cs ≡ 0 → AllRead cs → (c : Conn) (ws : List Wrote) → Each (λ (x : Wrote). IsTrue cs c x.writing) ws → Each (λ (y : Answering). is_dialed y.uid y.dial k ≡ true → ⊥) (all_said answers_said ws)
answers_name k cs fresh read c [] h = tt
answers_name k cs fresh read c (w ∷ ws) h = each_both _ (answers_said w.writing) (all_said answers_said ws) (one w.writing h.0) (answers_name k cs fresh read c ws h.1)
  where
    away : (uid dial : ℕ) → count (is_dialed uid dial) cs ≡ 1 → is_dialed uid dial k ≡ true → ⊥
    away uid dial made t =
        let a : k.dialer ≡ uid = eq_true k.dialer uid (and_left (k.dialer == uid) (k.dial == dial) t) in
        let b : k.dial ≡ dial = eq_true k.dial dial (and_right (k.dialer == uid) (k.dial == dial) t) in
        let z : count (is_dialed uid dial) cs ≡ 0 = subst (λ (x : ℕ). count (is_dialed x dial) cs ≡ 0) a (subst (λ (x : ℕ). count (is_dialed k.dialer x) cs ≡ 0) b fresh) in
        (let f : ⊥ = omega arith in f)

    control : (x : Control) → IsTrueControl cs c x → Each (λ (y : Answering). is_dialed y.uid y.dial k ≡ true → ⊥) (answers_of x)
    control (controls.HandshakeRsp from for_uid its_nonce) t =
        let a : IsAnswerFor from.uid for_uid its_nonce cs = (t read).1 in
        subst (λ (o : Option ℕ). Each (λ (y : Answering). is_dialed y.uid y.dial k ≡ true → ⊥) (answers_by o its_nonce)) (sym a.asked)
        (subst (λ (o : Option ℕ). Each (λ (y : Answering). is_dialed y.uid y.dial k ≡ true → ⊥) (answers_by (Some a.uid) o)) (sym a.its) (away a.uid a.nonce a.reaches.made, tt))
    control (controls.HandshakeReq from to its_nonce) t = tt
    control (controls.Quarantined from to) t = tt
    control (controls.Terminating from) t = tt
    control (controls.TerminatingAck from) t = tt
    control (controls.RefsTable from origin_uid version keys values sequence) t = tt
    control (controls.RefsAck from version sequence) t = tt
    control (controls.ManifestsTable from origin_uid version keys values sequence) t = tt
    control (controls.ManifestsAck from version sequence) t = tt
    control (controls.Numbered n message reply_to) t = tt
    control (controls.Ack n from) t = tt
    control (controls.Nack n from) t = tt
    control controls.Heartbeat t = tt
    control (controls.HeartbeatRsp uid) t = tt

    one : (x : Writing) → IsTrue cs c x → Each (λ (y : Answering). is_dialed y.uid y.dial k ≡ true → ⊥) (answers_said x)
    one (Begins stream) t = tt
    one (Controls x) t = control x t
    one (Sends envelope) t = tt

-- ---- a connection is made

pub record NowJoined (nobody : UniqueAddress) (far number : ℕ) (w : Network) : Type 0 where
  pub names : Names nobody w
  pub comes : MadeJustNow nobody far number w.connections (journal w)

pub joins_names : (nobody : UniqueAddress) (p : Pending) (w : Network) (l : Live whole) (t : Live whole → Bool) → find t w.live ≡ Some l → w.ended ≡ None → Offered p w → Holds w → AllRead w.connections → Names nobody w
    → NowJoined nobody l.node.me.uid (l.accepted + 1) (joins p.dialer p.dial l.node.me.uid (l.accepted + 1) w)
joins_names nobody p w l t found live o h read names = record {
  names = record {
    lawful = names.lawful;
    out = λ e. record {
      adopts = λ a b kind. announced a b kind (of_kind kind (adopted_by a b (journal w))) (out.adopts a b kind);
      dialed = single.dialed;
      reached = single.reached;
      untold = λ a b d. untold a b d (out.untold a b d);
      talks = out.talks;
      conns = λ i c at. conns i c (pushed cs k i c at);
    };
    lives = λ e. each_change (λ (x : Live whole). NodeNames nobody (cs ++ k ∷ []) (journal w) x.node) (has_uid far) one_more w.live (λ x f n. record { given = n.given; facts = n.facts; counts = n.counts })
        (each_weaker _ _ (λ (x : Live whole) n. record { given = n.given; facts = node_front cs k o.fresh.made refl unnamed nobody x.node.me.uid n.given x.node (journal w) n.facts; counts = n.counts }) w.live (names.lives live));
    silent = λ e. names.silent live;
    named = λ e. names.named live;
  };
  comes = record {
    place = length cs;
    conn = k;
    is = get_last cs k;
    inward = and_both (far == far) (number == number) (eq_self far) (eq_self number);
    untold = nothing_told (name_by nobody far (journal w));
    unanswered = λ j c e n. unanswered j c (pushed cs k j c e);
  };
}
  where
    far : ℕ
    far = l.node.me.uid

    number : ℕ
    number = l.accepted + 1

    k : Conn
    k = connected p.dialer p.dial l.node.me.uid (l.accepted + 1)

    cs : List Conn
    cs = w.connections

    out : Out nobody w.connections (journal w)
    out = names.out live

    single : AreSingle (joins p.dialer p.dial l.node.me.uid (l.accepted + 1) w)
    single = are_single (joins p.dialer p.dial l.node.me.uid (l.accepted + 1) w) (joined p w l t found live o h).holds.out

    unnamed : (j : ℕ) (c : Conn) → slice_get w.connections j ≡ Some c → Each (λ (y : Answering). is_dialed y.uid y.dial (connected {W = whole_ways} p.dialer p.dial l.node.me.uid (l.accepted + 1)) ≡ true → ⊥) (answers_on c)
    unnamed j c e = answers_name (connected p.dialer p.dial l.node.me.uid (l.accepted + 1)) w.connections o.fresh.made read c c.way.all
        (each_get (λ (x : Conn). FlightFacts w.connections x) w.connections j c h.out.conns e).said

    unanswered : (j : ℕ) (c : Conn) → Pushed w.connections (connected p.dialer p.dial l.node.me.uid (l.accepted + 1)) j c → Each (λ (y : Answering). is_dialed y.uid y.dial (connected {W = whole_ways} p.dialer p.dial l.node.me.uid (l.accepted + 1)) ≡ true → ⊥) (answers_on c)
    unanswered j c (Before e) = unnamed j c e
    unanswered j c (Last e) = subst (λ (z : Conn). Each (λ (y : Answering). is_dialed y.uid y.dial (connected {W = whole_ways} p.dialer p.dial l.node.me.uid (l.accepted + 1)) ≡ true → ⊥) (answers_on z)) (sym e) tt

    announced : (a b : UniqueAddress) (kind : Kind) (n : ℕ) → IsAnnounced nobody w.connections a b kind n → IsAnnounced nobody (w.connections ++ connected p.dialer p.dial l.node.me.uid (l.accepted + 1) ∷ []) a b kind n
    announced a b kind n (First e) = First e
    announced a b kind n (Second x) = Second (x.0, announced_front w.connections (connected p.dialer p.dial l.node.me.uid (l.accepted + 1)) b.uid a.uid kind n x.0 x.1)

    untold : (a b : UniqueAddress) (d : ℕ) → Or (told_by a b d (journal w) ≡ []) (Made w.connections a.uid d) → Or (told_by a b d (journal w) ≡ []) (Made (w.connections ++ connected p.dialer p.dial l.node.me.uid (l.accepted + 1) ∷ []) a.uid d)
    untold a b d (First e) = First e
    untold a b d (Second m) = Second (made_front w.connections (connected p.dialer p.dial l.node.me.uid (l.accepted + 1)) a.uid d m)

    dialer_named : (name_by nobody p.dialer (journal w)).uid ≡ p.dialer
    dialer_named = names.named live p.dialer o.started

    far_named : (name_by nobody l.node.me.uid (journal w)).uid ≡ l.node.me.uid
    far_named =
        let n : NodeNames nobody w.connections (journal w) l.node = each_find (λ (x : Live whole). NodeNames nobody w.connections (journal w) x.node) t w.live l (names.lives live) found in
        ap (λ (x : UniqueAddress). x.uid) n.facts.me

    nothing_told : (b : UniqueAddress) → told_by (name_by nobody p.dialer (journal w)) b p.dial (journal w) ≡ []
    nothing_told b = by (out.untold (name_by nobody p.dialer (journal w)) b p.dial)
      where
        by : Or (told_by (name_by nobody p.dialer (journal w)) b p.dial (journal w) ≡ []) (Made w.connections (name_by nobody p.dialer (journal w)).uid p.dial) → told_by (name_by nobody p.dialer (journal w)) b p.dial (journal w) ≡ []
        by (First e) = e
        by (Second m) = absurd (not_made w.connections (connected p.dialer p.dial l.node.me.uid (l.accepted + 1)) o.fresh.made (name_by nobody p.dialer (journal w)).uid p.dial m
            (and_both (p.dialer == (name_by nobody p.dialer (journal w)).uid) (p.dial == p.dial) (subst (λ (x : ℕ). (p.dialer == x) ≡ true) (sym dialer_named) (eq_self p.dialer)) (eq_self p.dial)))

    new_conn : ConnFacts (w.connections ++ connected p.dialer p.dial l.node.me.uid (l.accepted + 1) ∷ []) (name_by nobody p.dialer (journal w)) (name_by nobody l.node.me.uid (journal w)) (journal w) (connected p.dialer p.dial l.node.me.uid (l.accepted + 1))
    new_conn = record {
      near = dialer_named;
      far = far_named;
      told = tt;
      all = λ x. sym (ap (λ ts. length ts) (nothing_told (name_by nobody l.node.me.uid (journal w))));
      acks = tt;
      says = tt;
      places = tt;
    }

    conns : (i : ℕ) (c : Conn) → Pushed w.connections (connected p.dialer p.dial l.node.me.uid (l.accepted + 1)) i c
        → ConnFacts (w.connections ++ connected p.dialer p.dial l.node.me.uid (l.accepted + 1) ∷ []) (name_by nobody c.dialer (journal w)) (name_by nobody c.far (journal w)) (journal w) c
    conns i c (Before e) = conn_front w.connections (connected p.dialer p.dial l.node.me.uid (l.accepted + 1)) (name_by nobody c.dialer (journal w)) (name_by nobody c.far (journal w)) (journal w) c (out.conns i c e)
    conns i c (Last e) = subst (λ (x : Conn). ConnFacts (w.connections ++ connected p.dialer p.dial l.node.me.uid (l.accepted + 1) ∷ []) (name_by nobody x.dialer (journal w)) (name_by nobody x.far (journal w)) (journal w) x) (sym e) new_conn
