-- A table is adopted and told at once, and acknowledged: the facts stay true.
use Rattle.std.proofs.Common.{◌≡◌, ℕ, zero, suc, ◌+◌, ◌≤◌, ◌<◌, Bool, true, false, cond, List, [], ◌∷◌, length, refl, sym, ◌∙◌, ap, subst, arith}
use Rattle.std.proofs.Math.Nat.{div-add-mod}
use Rattle.std.specs.Prelude.{Option, None, Some, ◌==◌, ◌%◌, ◌/◌, ◌*◌, nat_lt, nat_le, is_none, slice_get}
use Rattle.std.specs.List.{find, zip}
use Rattle.std.proofs.lemmas.Bool.Decides.{nat_tests}
use Rattle.artery_base.specs.declared.address.Address.{Address}
use Rattle.artery_base.specs.declared.address.UniqueAddress.{UniqueAddress}
use Rattle.artery_assoc.specs.Peer.{PeerState, is_that, is_current}
use Rattle.artery_frame.specs.declared.stream.Stream.TheVariants as streams
use Rattle.artery_handshake.specs.declared.out_conn.OutConn.{OutConn}
use Rattle.artery_handshake.specs.declared.out_conn.OutState.{OutState}
use Rattle.artery_handshake.specs.declared.out_conn.OutState.TheVariants.{Dialing, Asked, Bound}
use Rattle.artery_journal.specs.declared.line.Line.{Line}
use Rattle.artery_journal.specs.declared.line.Line.TheVariants as lines
use Rattle.artery_journal.specs.declared.rule.Rule.TheVariants as rules
use Rattle.artery_journal.specs.declared.words.Kind.{Kind}
use Rattle.artery_journal.specs.declared.words.Kind.TheVariants.{Refs, Manifests}
use Rattle.artery_judge.specs.Lines.{is_way, same}
use Rattle.artery_tables.specs.declared.out_table.Adopted.{Adopted as Adopting}
use Rattle.artery_tables.specs.declared.out_table.Adopted.TheVariants as adopting
use Rattle.artery_tables.specs.declared.in_tables.Confirmed.{Confirmed}
use Rattle.artery_tables.specs.declared.in_tables.Confirmed.TheVariants as confirming
use Rattle.artery_tables.specs.Story.{version_of}
use Rattle.artery_tables.specs.OutTable.{State as Adopted, adopting as adopts_by, table_after, adopted}
use Rattle.artery_machine.specs.declared.world.Outcome.TheVariants as outcomes
use Rattle.artery_machine.specs.Lists.{or_else, change_first}
use Rattle.artery_machine.specs.Deeds.{Controls}
use Rattle.artery_machine.specs.Parts.{whole}
use Rattle.artery_machine.specs.Connections.{is_dialed}
use Rattle.artery_machine.specs.Node.{Node, Peer, OfKinds, of_kind, change_kind, same_address, incarnation, is_peer, new_peer, peer_at, origin_at, current_of, conn_of, bound_dial, dial_to}
use Rattle.artery_machine.specs.Doing.{Rule, ◌▸◌, tells_of, peer_becomes}
use Rattle.artery_machine.specs.Closing.{control_dial}
use Rattle.artery_machine.specs.Handshaking.{drops}
use Rattle.artery_machine.specs.Hearing.{sequence_of, table_number, table_ack, with_adopted, is_now, of_current, acknowledges_table, adopts_as, adopts, tabled, confirms_as, confirms}
use Rattle.artery_machine.specs.Ticking.{numbers_from}
use Rattle.artery_machine.specs.World.{comes_out}
use Rattle.artery_names.proofs.Lists.{by_test, none_is, on_cond, not_both, not_some, some_same, eq_true, eq_self, and_left, and_right, and_both, each_weaker, First, Second}
use Rattle.artery_names.proofs.Said.{Acking}
use Rattle.artery_names.proofs.Talks.{Told, adopted_by, told_by, got_by, name_by, newest_line}
use Rattle.artery_names.proofs.Facts.{Network, Conn, journal, acks_on, Announced, AtMost, IsLawful, IsAnnounced, Out, IsHeld, Holds, AreHeld, BoundTo, IsBound, bound_as, bound_in, PeerFacts, stories_of, story_of, Heard, NodeFacts, Good}
use Rattle.artery_names.proofs.Growing.{Grown, grown_self, Stepped, stepped_self, along_self, announced_grows}
use Rattle.artery_names.proofs.Plain.{bound_grows, all_held_grow}
use Rattle.artery_names.proofs.Outside.{outward, silent_lawful}
use Rattle.artery_names.proofs.Rules.{Work}
use Rattle.artery_names.proofs.Later.{later_self, along_grown, at_most_trans, no_more, in_talk}
use Rattle.artery_names.proofs.Keeping.{nowhere, Kept}
use Rattle.artery_names.proofs.Peers.{address_self, on_changed}
use Rattle.artery_names.proofs.Telling.{same_is, same_self}
use Rattle.artery_names.proofs.Writes.{May, write_kept}
use Rattle.artery_names.proofs.Origins.{kind_changed, confirmed_good}
use Rattle.artery_names.proofs.Asking.{drops_keep}
use Rattle.artery_names.proofs.Premises.{Premise, KeepsIf, kept_then, always_keeps, if_keeps_if}

-- ---- numbers

-- the number that a version and a sequence tell
pub number_told : (n : ℕ) → table_number (version_of n) (sequence_of n) ≡ n
number_told zero = refl
number_told (suc n) = by_test (nat_le 128 (suc n))
    (λ t. ap (λ (b : Bool). table_number (version_of (suc n)) (cond b (Some (suc n)) None)) t)
    (λ t. ap (λ (b : Bool). table_number (version_of (suc n)) (cond b (Some (suc n)) None)) t ∙ low (let k : suc n < 128 = grind (arith, nat_tests) in omega arith))
  where
    low : n < 127 → n % 127 + 1 ≡ suc n
    low h = (let p : 127 * (n / 127) + n % 127 ≡ n = div-add-mod n 127 in omega arith)

adopting_same : (number held : ℕ) → adopts_by number held ≡ adopting.Same → number ≡ held
adopting_same number held h = by (number == held) refl (nat_lt number held) h
  where
    by : (b : Bool) → (number == held) ≡ b → (c : Bool) → cond b adopting.Same (cond c adopting.Older adopting.Adopted) ≡ adopting.Same → number ≡ held
    by true e c k = eq_true number held e
    by false e true k = cc
    by false e false k = cc

adopting_more : (number held : ℕ) → adopts_by number held ≡ adopting.Adopted → held < number
adopting_more number held h = by (number == held) refl (nat_lt number held) refl h
  where
    by : (b : Bool) → (number == held) ≡ b → (c : Bool) → nat_lt number held ≡ c → cond b adopting.Same (cond c adopting.Older adopting.Adopted) ≡ adopting.Adopted → held < number
    by true e c f k = cc
    by false e true f k = cc
    by false e false f k = grind (arith, nat_tests)

-- the connection with this dial number is bound to the UID
pub bound_by : (uid k : ℕ) (c : Option OutConn) → dial_to uid c ≡ Some k → bound_in c ≡ Some (k, uid)
bound_by uid k None h = not_some h
bound_by uid k (Some c) h = at_state c.dial c.state h
  where
    at_state : (x : ℕ) (s : OutState) → bound_dial uid x s ≡ Some k → bound_as x s ≡ Some (k, uid)
    at_state x Dialing q = not_some q
    at_state x (Asked begun last) q = not_some q
    at_state x (Bound to) q = at_test (to == uid) refl q
      where
        at_test : (b : Bool) → (to == uid) ≡ b → cond b (Some x) None ≡ Some k → bound_as x (Bound to) ≡ Some (k, uid)
        at_test true e r = (let P : ℕ → Option (ℕ × ℕ) = λ z. Some (x, z) in let Q : ℕ → Option (ℕ × ℕ) = λ z. Some (z, uid) in ap P (eq_true to uid e) ∙ ap Q (some_same r))
        at_test false e r = not_some r

-- ---- a table is adopted

module _ (nobody : UniqueAddress) (u : ℕ) (given : ℕ → ℕ) (v : UniqueAddress) (kind : Kind) (number : ℕ) (keys : List (List ℕ)) (values : List ℕ) (n : Node whole) (cs : List Conn) (ls : List Line)
    (out : Out nobody cs ls) (h : NodeFacts nobody u given nowhere n cs ls) (announced : Announced cs v.uid n.me.uid kind number keys) (places : values ≡ numbers_from 0 (length keys))
    (now : current_of (peer_at v.address n) ≡ Some v.uid) (new : adopts_by number (of_kind kind (peer_at v.address n).tables).number ≡ adopting.Adopted) where
  abbrev line : Line
  line = lines.Adopted n.me v kind number

  abbrev change : Peer whole → Peer whole
  change = with_adopted kind number keys values

  held : AreHeld cs n.me v.address ls (peer_at v.address n).tables (Some v.uid)
  held = subst (AreHeld cs n.me v.address ls (peer_at v.address n).tables) now (h.tables v.address refl)

  -- the numbers rise
  above : of_kind kind (adopted_by n.me v ls) ≤ number
  above =
      let a : (of_kind kind (peer_at v.address n).tables).number ≡ of_kind kind (adopted_by n.me v ls) = (held kind).number in
      let b : (of_kind kind (peer_at v.address n).tables).number < number = adopting_more number (of_kind kind (peer_at v.address n).tables).number new in omega arith

  at_it : (a b : UniqueAddress) → is_way a b (n.me, v) ≡ true → (a ≡ n.me) × (b ≡ v)
  at_it a b t = (same_is a n.me (and_left (same a n.me) (same b v) t), same_is b v (and_right (same a n.me) (same b v) t))

  pub adopted_rises : (a b : UniqueAddress) → AtMost (adopted_by a b ls) (adopted_by a b (line ∷ ls))
  adopted_rises a b other = on_cond (λ (x : OfKinds ℕ). of_kind other (adopted_by a b ls) ≤ of_kind other x) (is_way a b (n.me, v)) (change_kind kind (λ k. number) (adopted_by a b ls)) (adopted_by a b ls)
      (λ t. kind_changed (λ (x : ℕ). of_kind other (adopted_by a b ls) ≤ x) kind other (λ k. number) (adopted_by a b ls)
      (λ q. (let e = at_it a b t in
      subst (λ (x : Kind). of_kind x (adopted_by a b ls) ≤ number) q
      (subst (λ (x : UniqueAddress). of_kind kind (adopted_by x b ls) ≤ number) (sym e.0) (subst (λ (x : UniqueAddress). of_kind kind (adopted_by n.me x ls) ≤ number) (sym e.1) above))))
      (omega arith))
      (λ t. omega arith)

  pub adopted_away : (a b : UniqueAddress) → (a ≡ n.me → b ≡ v → ⊥) → adopted_by a b (line ∷ ls) ≡ adopted_by a b ls
  adopted_away a b f = by_test (is_way a b (n.me, v)) (λ t. absurd (let e = at_it a b t in f e.0 e.1)) (λ t. ap (λ (c : Bool). cond c (change_kind kind (λ k. number) (adopted_by a b ls)) (adopted_by a b ls)) t)

  pub adopted_here : adopted_by n.me v (line ∷ ls) ≡ change_kind kind (λ k. number) (adopted_by n.me v ls)
  adopted_here = ap (λ (c : Bool). cond c (change_kind kind (λ k. number) (adopted_by n.me v ls)) (adopted_by n.me v ls)) (and_both (same n.me n.me) (same v v) (same_self n.me) (same_self v))

  adopts_announced : (a b : UniqueAddress) (other : Kind) → IsAnnounced nobody cs a b other (of_kind other (adopted_by a b (line ∷ ls)))
  adopts_announced a b other = on_cond (λ (x : OfKinds ℕ). IsAnnounced nobody cs a b other (of_kind other x)) (is_way a b (n.me, v)) (change_kind kind (λ k. number) (adopted_by a b ls)) (adopted_by a b ls)
      (λ t. kind_changed (λ (x : ℕ). IsAnnounced nobody cs a b other x) kind other (λ k. number) (adopted_by a b ls)
      (λ q. (let e = at_it a b t in
      Second (
        keys,
        subst (λ (x : Kind). Announced cs b.uid a.uid x number keys) q
            (subst (λ (x : UniqueAddress). Announced cs x.uid a.uid kind number keys) (sym e.1) (subst (λ (x : UniqueAddress). Announced cs v.uid x.uid kind number keys) (sym e.0) announced)),
      )))
      (out.adopts a b other))
      (λ t. out.adopts a b other)

  pub out_adopted : Out nobody cs (line ∷ ls)
  out_adopted = record {
    adopts = adopts_announced;
    dialed = out.dialed;
    reached = out.reached;
    untold = out.untold;
    talks = λ a b d. (let t = out.talks a b d in record { rising = t.rising; below = each_weaker _ _ (λ (s : Told) k. at_most_trans s.numbers (adopted_by a b ls) (adopted_by a b (line ∷ ls)) k (adopted_rises a b)) (told_by a b d ls) t.below });
    conns = λ i c e. (let f = out.conns i c e in
        let a : UniqueAddress = name_by nobody c.dialer ls in
        let b : UniqueAddress = name_by nobody c.far ls in
        record {
          near = f.near;
          far = f.far;
          told = f.told;
          all = f.all;
          acks = each_weaker _ _ (λ (k : Acking) q. (let x : k.number ≤ of_kind k.kind (adopted_by a b ls) = q in let y : of_kind k.kind (adopted_by a b ls) ≤ of_kind k.kind (adopted_by a b (line ∷ ls)) = adopted_rises a b k.kind in omega arith)) (acks_on c) f.acks;
          says = f.says;
          places = f.places;
        });
  }

  -- ---- the peer

  is_held : (pairs : List (List ℕ × ℕ)) → pairs ≡ zip keys (numbers_from 0 (length keys)) → IsHeld cs v.uid n.me.uid kind number pairs
  is_held [] e = tt
  is_held (p ∷ ps) e = (keys, announced, e)

  held_new : Holds cs v.uid n.me.uid kind number (adopted number keys values (of_kind kind (peer_at v.address n).tables))
  held_new = subst (λ (x : Adopting). Holds cs v.uid n.me.uid kind number (table_after x number keys values (of_kind kind (peer_at v.address n).tables))) (sym new)
      (record { number = refl; held = is_held (zip keys values) (ap (zip keys) places) })

  both_held : (k other : Kind) (t : OfKinds Adopted) (numbers : OfKinds ℕ) → Holds cs v.uid n.me.uid k number (adopted number keys values (of_kind k t)) → ((o : Kind) → Holds cs v.uid n.me.uid o (of_kind o numbers) (of_kind o t))
      → Holds cs v.uid n.me.uid other (of_kind other (change_kind k (λ x. number) numbers)) (of_kind other (change_kind k (adopted number keys values) t))
  both_held Refs Refs t numbers a b = a
  both_held Refs Manifests t numbers a b = b Manifests
  both_held Manifests Refs t numbers a b = b Refs
  both_held Manifests Manifests t numbers a b = a

  held_then : AreHeld cs n.me v.address (line ∷ ls) (change (peer_at v.address n)).tables (Some v.uid)
  held_then other = subst (λ (x : OfKinds ℕ). Holds cs v.uid n.me.uid other (of_kind other x) (of_kind other (change (peer_at v.address n)).tables)) (sym adopted_here)
      (both_held kind other (peer_at v.address n).tables (adopted_by n.me v ls) held_new held)

  peer_told : (b : Address) (p : Peer whole) → ((uid : ℕ) → is_that uid p.incarnations.current ≡ false → incarnation b uid ≡ v → ⊥) → PeerFacts nobody n.me cs ls b p → PeerFacts nobody n.me cs (line ∷ ls) b p
  peer_told b p apart f = record {
    alive = f.alive;
    unspoken = λ uid t k. adopted_away n.me (incarnation b uid) (λ x y. apart uid t y) ∙ f.unspoken uid t k;
    control = bound_grows nobody n.me cs cs ls (line ∷ ls) b (bound_in p.control.conn) (along_self Grown grown_self cs) (λ uid e. e) f.control;
    ordinary = bound_grows nobody n.me cs cs ls (line ∷ ls) b (bound_in p.ordinary.conn) (along_self Grown grown_self cs) (λ uid e. e) f.ordinary;
  }

  its_address : (b : Address) (uid : ℕ) → same_address v.address b ≡ false → incarnation b uid ≡ v → ⊥
  its_address b uid t e = not_both (subst (λ (x : Address). same_address v.address x ≡ true) (sym (ap (λ (x : UniqueAddress). x.address) e)) (address_self v.address)) t

  its_uid : (p : Peer whole) → current_of p ≡ Some v.uid → (b : Address) (uid : ℕ) → is_that uid p.incarnations.current ≡ false → incarnation b uid ≡ v → ⊥
  its_uid p c b uid t e =
      let same_uid : uid ≡ v.uid = ap (λ (x : UniqueAddress). x.uid) e in
      let yes : is_that uid p.incarnations.current ≡ true = ap (λ (x : Option ℕ). is_that uid x) c ∙ subst (λ (x : ℕ). is_that x (Some v.uid) ≡ true) (sym same_uid) (eq_self v.uid) in
      not_both yes t

  missing : {P : Type 0} → find (is_peer v.address) n.peers ≡ None → P
  missing f = not_some (sym (ap (λ (x : Option (Peer whole)). current_of (or_else (new_peer {P = whole} v.address) x)) f) ∙ now)

  is_it : (p : Peer whole) → find (is_peer v.address) n.peers ≡ Some p → peer_at v.address n ≡ p
  is_it p f = ap (or_else (new_peer v.address)) f

  pub node_adopted : NodeFacts nobody u given nowhere (record n { peers = change_first (is_peer v.address) change n.peers }) cs (line ∷ ls)
  node_adopted = record {
    uid = h.uid;
    me = h.me;
    ordered = h.ordered;
    peers = λ b. on_changed v.address b change (λ p. refl) (λ (q : Peer whole). PeerFacts nobody n.me cs (line ∷ ls) b q) n.peers
        (λ e p f. (let was : PeerFacts nobody n.me cs ls v.address p = subst (PeerFacts nobody n.me cs ls v.address) (is_it p f) (h.peers v.address) in
        let c : current_of p ≡ Some v.uid = sym (ap (λ (q : Peer whole). current_of q) (is_it p f)) ∙ now in
        let x : PeerFacts nobody n.me cs (line ∷ ls) v.address p = peer_told v.address p (its_uid p c v.address) was in
        let y : PeerFacts nobody n.me cs (line ∷ ls) v.address (change p) = record { alive = x.alive; unspoken = x.unspoken; control = x.control; ordinary = x.ordinary } in
        subst (λ (a : Address). PeerFacts nobody n.me cs (line ∷ ls) a (change p)) (sym e) y))
        (λ e f. missing f)
        (λ t. peer_told b (peer_at b n) (λ uid s q. its_address b uid t q) (h.peers b));
    tables = λ b x. on_changed v.address b change (λ p. refl) (λ (q : Peer whole). AreHeld cs n.me b (line ∷ ls) q.tables q.incarnations.current) n.peers
        (λ e p f. (let c : current_of p ≡ Some v.uid = sym (ap (λ (q : Peer whole). current_of q) (is_it p f)) ∙ now in
        subst (λ (a : Address). AreHeld cs n.me a (line ∷ ls) (change p).tables p.incarnations.current) (sym e)
        (subst (λ (o : Option ℕ). AreHeld cs n.me v.address (line ∷ ls) (change p).tables o) (sym c)
        (subst (λ (q : Peer whole). AreHeld cs n.me v.address (line ∷ ls) (change q).tables (Some v.uid)) (is_it p f) held_then))))
        (λ e f. missing f)
        (λ t. all_held_grow nobody cs cs n.me b ls (line ∷ ls) (peer_at b n).tables (peer_at b n).incarnations.current (along_self Grown grown_self cs) (λ uid c. adopted_away n.me (incarnation b uid) (λ y z. its_address b uid t z)) (h.tables b refl));
    gone = λ b x. not_both x refl;
    origins = λ a other. record {
      story = (h.origins a other).story;
      below = (let x : (story_of other a n).confirmed ≤ of_kind other (adopted_by a n.me ls) = (h.origins a other).below in
          let y : of_kind other (adopted_by a n.me ls) ≤ of_kind other (adopted_by a n.me (line ∷ ls)) = adopted_rises a n.me other in omega arith);
    };
    framed = h.framed;
    inbound = λ k i at. (let y : Heard nobody n.me (given k) (stories_of n) cs ls k i = h.inbound k i at in
        let a : UniqueAddress = name_by nobody y.conn.dialer ls in
        record {
          place = y.place;
          conn = y.conn;
          is = y.is;
          inward = y.inward;
          facts = in_talk n.me a (given k) (stories_of n a) ls (line ∷ ls) i y.conn refl (adopted_rises a n.me) (no_more _ _ _ refl) (h.origins a) (λ p q. q) y.facts;
        });
    opened = h.opened;
  }

-- ---- the rules

acked_may : (nobody : UniqueAddress) (u k : ℕ) (v me : UniqueAddress) (number : ℕ) (n : Node whole) (cs : List Conn) (ls : List Line) (kind : Kind) → ((i : ℕ) (c : Conn) → slice_get cs i ≡ Some c → is_dialed u k c ≡ true
    → number ≤ of_kind kind (adopted_by (name_by nobody c.dialer ls) (name_by nobody c.far ls) ls)) → May nobody u k (Controls (table_ack kind me number)) n cs ls
acked_may nobody u k v me number n cs ls Refs f = record { sends = refl; tables = λ i c at t. tt; acks = λ i c at t. (subst (λ (x : ℕ). x ≤ of_kind Refs (adopted_by (name_by nobody c.dialer ls) (name_by nobody c.far ls) ls)) (sym (number_told number)) (f i c at t), tt); answers = tt; speakers = tt }
acked_may nobody u k v me number n cs ls Manifests f = record { sends = refl; tables = λ i c at t. tt; acks = λ i c at t. (subst (λ (x : ℕ). x ≤ of_kind Manifests (adopted_by (name_by nobody c.dialer ls) (name_by nobody c.far ls) ls)) (sym (number_told number)) (f i c at t), tt); answers = tt; speakers = tt }

-- a connection of the node that is bound to an incarnation has these ends
pub bound_ends : (nobody : UniqueAddress) (u k : ℕ) (v : UniqueAddress) (given : ℕ → ℕ) (n : Node whole) (cs : List Conn) (ls : List Line) → NodeFacts nobody u given nowhere n cs ls → control_dial v n ≡ Some k → (i : ℕ) (c : Conn) → slice_get cs i ≡ Some c → is_dialed u k c ≡ true
    → (name_by nobody c.dialer ls ≡ n.me) × (name_by nobody c.far ls ≡ v)
bound_ends nobody u k v given n cs ls h e i c at t =
    let b : BoundTo nobody n.me cs ls v.address k v.uid = subst (IsBound nobody n.me cs ls v.address) (bound_by v.uid k (conn_of streams.Control (peer_at v.address n)) e) (h.peers v.address).control in
    let near : c.dialer ≡ u = eq_true c.dialer u (and_left (c.dialer == u) (c.dial == k) t) in
    let far : c.far ≡ v.uid = b.far i c at (subst (λ (x : ℕ). is_dialed x k c ≡ true) (sym h.uid) t) in
    (ap (λ (x : ℕ). name_by nobody x ls) near ∙ h.me, ap (λ (x : ℕ). name_by nobody x ls) far ∙ b.name)

module _ {u m : ℕ} where
  abbrev adopted_then : UniqueAddress → Kind → ℕ → List (List ℕ) → List ℕ → Rule whole (outward u m)
  adopted_then v kind number keys values = peer_becomes v.address (with_adopted kind number keys values) ▸ tells_of (λ me. lines.Adopted me v kind number)

module _ {nobody : UniqueAddress} {u m : ℕ} {given : ℕ → ℕ} where
  pub acked_kept : (kind : Kind) (v : UniqueAddress) (number : ℕ) (d : Work u m) → (d.deeds.ended ≡ None → number ≤ of_kind kind (adopted_by d.node.me v (journal d.deeds))) → Good nobody u given nowhere d.node d.deeds
      → Kept nobody u given nowhere d.deeds (acknowledges_table kind v number d).node (acknowledges_table kind v number d).deeds
  acked_kept kind v number d f g = write_kept (control_dial v d.node) (Controls (table_ack kind d.node.me number)) d
      (λ k e live out h. acked_may nobody u k v d.node.me number d.node d.deeds.connections (journal d.deeds) kind (λ i c at t.
      (let x = bound_ends nobody u k v given d.node d.deeds.connections (journal d.deeds) h e i c at t in
      subst (λ (y : UniqueAddress). number ≤ of_kind kind (adopted_by y (name_by nobody c.far (journal d.deeds)) (journal d.deeds))) (sym x.0)
      (subst (λ (y : UniqueAddress). number ≤ of_kind kind (adopted_by d.node.me y (journal d.deeds))) (sym x.1) (f live))))) g

  -- it is adopted and told
  table_kept : (v : UniqueAddress) (kind : Kind) (number : ℕ) (keys : List (List ℕ)) (values : List ℕ) (d : Work u m) → (d.deeds.ended ≡ None → Announced d.deeds.connections v.uid d.node.me.uid kind number keys) → (d.deeds.ended ≡ None → values ≡ numbers_from 0 (length keys))
      → current_of (peer_at v.address d.node) ≡ Some v.uid → adopts_by number (of_kind kind (peer_at v.address d.node).tables).number ≡ adopting.Adopted → Good nobody u given nowhere d.node d.deeds
      → Kept nobody u given nowhere d.deeds (adopted_then v kind number keys values d).node (adopted_then v kind number keys values d).deeds
  table_kept v kind number keys values d a p now new g =
      on_cond (λ (w : Network). Kept nobody u given nowhere d.deeds k w) (is_none d.deeds.ended) (comes_out (outcomes.Line m l) d.deeds) d.deeds
      (λ t. live (none_is d.deeds.ended t))
      (λ t. record { good = record { lawful = g.lawful; out = g.out; node = λ e. not_both (ap is_none e) t }; later = later_self nobody u d.deeds })
    where
      l : Line
      l = lines.Adopted d.node.me v kind number

      k : Node whole
      k = record d.node { peers = change_first (is_peer v.address) (with_adopted kind number keys values) d.node.peers }

      cs : List Conn
      cs = d.deeds.connections

      ls : List Line
      ls = journal d.deeds

      w : Network
      w = comes_out (outcomes.Line m l) d.deeds

      is : journal (comes_out (outcomes.Line m l) d.deeds) ≡ l ∷ journal d.deeds
      is = newest_line d.deeds.outcomes [] m l

      live : d.deeds.ended ≡ None → Kept nobody u given nowhere d.deeds k (comes_out (outcomes.Line m l) d.deeds)
      live e =
          let o : Out nobody d.deeds.connections (journal d.deeds) = g.out e in
          let h : NodeFacts nobody u given nowhere d.node d.deeds.connections (journal d.deeds) = g.node e in
          record {
            good = record {
              lawful = subst IsLawful (sym is) (silent_lawful l (journal d.deeds) refl g.lawful);
              out = λ x. subst (Out nobody d.deeds.connections) (sym is) (out_adopted nobody u given v kind number keys values d.node d.deeds.connections (journal d.deeds) o h (a e) (p e) now new);
              node = λ x. subst (NodeFacts nobody u given nowhere k d.deeds.connections) (sym is) (node_adopted nobody u given v kind number keys values d.node d.deeds.connections (journal d.deeds) o h (a e) (p e) now new);
            };
            later = record {
              conns = along_self (Stepped u) (stepped_self u) d.deeds.connections;
              name = λ uid. ap (name_by nobody uid) is;
              adopted = λ x y z. ap (adopted_by x y) is ∙ adopted_away nobody u given v kind number keys values d.node d.deeds.connections (journal d.deeds) o h (a e) (p e) now new x y (λ q r. z (ap (λ (s : UniqueAddress). s.uid) q ∙ h.uid));
              rises = λ x y. subst (λ ks. AtMost (adopted_by x y (journal d.deeds)) (adopted_by x y ks)) (sym is) (adopted_rises nobody u given v kind number keys values d.node d.deeds.connections (journal d.deeds) o h (a e) (p e) now new x y);
              got = λ x y z q. ap (got_by x y z) is;
              told = λ x y z. no_more _ _ _ (ap (told_by x y z) is);
              spoken = λ x y z. First (ap (told_by x y z) is);
              going = λ x. x;
            };
          }

-- ---- a table came

-- This table was announced to the node by that one, with its names in their places.
abbrev pub tabling : (nobody : UniqueAddress) (u : ℕ) (v : UniqueAddress) (kind : Kind) (number : ℕ) (keys : List (List ℕ)) (values : List ℕ) → Premise nobody u
tabling nobody u v kind number keys values = record {
  holds = λ w. w.ended ≡ None → Announced w.connections v.uid u kind number keys × (values ≡ numbers_from 0 (length keys));
  stays = λ w x l h live. (let k = h (l.going live) in (announced_grows w.connections x.connections (along_grown u w.connections x.connections l.conns) v.uid u kind number keys k.0, k.1));
}

now_is : (v : UniqueAddress) (i : PeerState) → is_current v.uid i ≡ true → i.current ≡ Some v.uid
now_is v i h = by i.current h
  where
    by : (x : Option ℕ) → is_that v.uid x ≡ true → x ≡ Some v.uid
    by None k = not_both k refl
    by (Some c) k = ap Some (eq_true c v.uid k)

module _ {u m : ℕ} where
  -- the number of a table that was adopted just now
  number_now : (v : UniqueAddress) (kind : Kind) (number : ℕ) (keys : List (List ℕ)) (values : List ℕ) (d : Work u m) → d.deeds.ended ≡ None → number ≤ of_kind kind (adopted_by d.node.me v (journal (adopted_then {u = u} {m = m} v kind number keys values d).deeds))
  number_now v kind number keys values d live =
      let line : Line = lines.Adopted d.node.me v kind number in
      let goes : (adopted_then {u = u} {m = m} v kind number keys values d).deeds ≡ comes_out (outcomes.Line m (lines.Adopted d.node.me v kind number)) d.deeds = ap (λ (o : Bool). cond o (comes_out (outcomes.Line m (lines.Adopted d.node.me v kind number)) d.deeds) d.deeds) (ap is_none live) in
      let is : journal (adopted_then {u = u} {m = m} v kind number keys values d).deeds ≡ line ∷ journal d.deeds = ap journal goes ∙ newest_line d.deeds.outcomes [] m line in
      let way : is_way d.node.me v (d.node.me, v) ≡ true = and_both (same d.node.me d.node.me) (same v v) (same_self d.node.me) (same_self v) in
      let here : adopted_by d.node.me v (line ∷ journal d.deeds) ≡ change_kind kind (λ k. number) (adopted_by d.node.me v (journal d.deeds)) = ap (λ (c : Bool). cond c (change_kind kind (λ k. number) (adopted_by d.node.me v (journal d.deeds))) (adopted_by d.node.me v (journal d.deeds))) way in
      subst (λ ks. number ≤ of_kind kind (adopted_by d.node.me v ks)) (sym is) (subst (λ (x : OfKinds ℕ). number ≤ of_kind kind x) (sym here) (by kind (adopted_by d.node.me v (journal d.deeds))))
    where
      by : (k : Kind) (x : OfKinds ℕ) → number ≤ of_kind k (change_kind k (λ y. number) x)
      by Refs x = omega arith
      by Manifests x = omega arith

module _ {nobody : UniqueAddress} {u m : ℕ} {given : ℕ → ℕ} where
  -- the table that is held is acknowledged again
  again_kept : (v : UniqueAddress) (kind : Kind) (number : ℕ) (d : Work u m) → current_of (peer_at v.address d.node) ≡ Some v.uid → adopts_by number (of_kind kind (peer_at v.address d.node).tables).number ≡ adopting.Same → Good nobody u given nowhere d.node d.deeds
      → Kept nobody u given nowhere d.deeds (acknowledges_table kind v number d).node (acknowledges_table kind v number d).deeds
  again_kept v kind number d now same_one g = acked_kept kind v number d (λ live.
      (let h : NodeFacts nobody u given nowhere d.node d.deeds.connections (journal d.deeds) = g.node live in
      let held : AreHeld d.deeds.connections d.node.me v.address (journal d.deeds) (peer_at v.address d.node).tables (Some v.uid) = subst (AreHeld d.deeds.connections d.node.me v.address (journal d.deeds) (peer_at v.address d.node).tables) now (h.tables v.address refl) in
      let a : (of_kind kind (peer_at v.address d.node).tables).number ≡ of_kind kind (adopted_by d.node.me v (journal d.deeds)) = (held kind).number in
      let b : number ≡ (of_kind kind (peer_at v.address d.node).tables).number = adopting_same number (of_kind kind (peer_at v.address d.node).tables).number same_one in omega arith)) g

  adopts_kept : (conn : ℕ) (v : UniqueAddress) (kind : Kind) (number : ℕ) (keys : List (List ℕ)) (values : List ℕ) (d : Work u m) → (tabling nobody u v kind number keys values).holds d.deeds
      → current_of (peer_at v.address d.node) ≡ Some v.uid → Good nobody u given nowhere d.node d.deeds → Kept nobody u given nowhere d.deeds (adopts conn v kind number keys values d).node (adopts conn v kind number keys values d).deeds
  adopts_kept conn v kind number keys values d a now g = by (adopts_by number (of_kind kind (peer_at v.address d.node).tables).number) refl
    where
      by : (x : Adopting) → adopts_by number (of_kind kind (peer_at v.address d.node).tables).number ≡ x → Kept nobody u given nowhere d.deeds (adopts_as conn v kind number keys values x d).node (adopts_as conn v kind number keys values x d).deeds
      by adopting.Older e = (drops_keep conn rules.OldTable).on d g
      by adopting.Same e = again_kept v kind number d now e g
      by adopting.Adopted e =
          let d1 : Work u m = adopted_then v kind number keys values d in
          let k : Kept nobody u given nowhere d.deeds d1.node d1.deeds = table_kept v kind number keys values d (λ live. subst (λ (x : ℕ). Announced d.deeds.connections v.uid x kind number keys) (sym (g.node live).uid) (a live).0) (λ live. (a live).1) now e g in
          kept_then nobody u given nowhere d.deeds d1.deeds (acknowledges_table kind v number d1).deeds d1.node (acknowledges_table kind v number d1).node k
          (acked_kept kind v number d1 (λ live. number_now v kind number keys values d (k.later.going live)) k.good)

  pub tabled_keeps : (conn : ℕ) (v : UniqueAddress) (kind : Kind) (uid number : ℕ) (keys : List (List ℕ)) (values : List ℕ)
      → KeepsIf nobody u m given (tabling nobody u v kind number keys values) (tabled conn v kind uid number keys values)
  tabled_keeps conn v kind uid number keys values = record {
    on = λ d a g. (if_keeps_if (uid == d.node.me.uid) (of_current conn v (adopts conn v kind number keys values)) (drops conn rules.NotMe) current (always_keeps _ (drops_keep conn rules.NotMe))).on d a g;
  }
    where
      by : (d : Work u m) → (tabling nobody u v kind number keys values).holds d.deeds → Good nobody u given nowhere d.node d.deeds → (b : Bool) → is_now v d.node ≡ b
          → Kept nobody u given nowhere d.deeds (cond b (adopts conn v kind number keys values) (drops conn rules.NotCurrent) d).node (cond b (adopts conn v kind number keys values) (drops conn rules.NotCurrent) d).deeds
      by d a g true e = adopts_kept conn v kind number keys values d a (now_is v (peer_at v.address d.node).incarnations e) g
      by d a g false e = (drops_keep conn rules.NotCurrent).on d g

      current : KeepsIf nobody u m given (tabling nobody u v kind number keys values) (of_current conn v (adopts conn v kind number keys values))
      current = record { on = λ d a g. by d a g (is_now v d.node) refl }

  -- ---- a table is confirmed

  confirms_as_kept : (conn : ℕ) (v : UniqueAddress) (kind : Kind) (number : ℕ) (x : Confirmed) (d : Work u m) → (d.deeds.ended ≡ None → number ≤ of_kind kind (adopted_by v d.node.me (journal d.deeds))) → Good nobody u given nowhere d.node d.deeds
      → Kept nobody u given nowhere d.deeds (confirms_as conn v kind number x d).node (confirms_as conn v kind number x d).deeds
  confirms_as_kept conn v kind number confirming.Confirmed d f g = record { good = confirmed_good nobody u given v kind number d.node d.deeds f g; later = later_self nobody u d.deeds }
  confirms_as_kept conn v kind number confirming.NotAnnounced d f g = (drops_keep conn rules.OldTable).on d g

  pub confirms_kept : (conn : ℕ) (v : UniqueAddress) (kind : Kind) (number : ℕ) (d : Work u m) → (d.deeds.ended ≡ None → number ≤ of_kind kind (adopted_by v d.node.me (journal d.deeds))) → Good nobody u given nowhere d.node d.deeds
      → Kept nobody u given nowhere d.deeds (confirms conn v kind number d).node (confirms conn v kind number d).deeds
  confirms_kept conn v kind number d f g = confirms_as_kept conn v kind number (whole.confirming number (of_kind kind (origin_at v d.node).tables)) d f g
