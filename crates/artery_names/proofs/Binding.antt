-- Answers to handshakes: connections are bound, and UIDs are learnt.
use Rattle.std.proofs.Common.{◌≡◌, ℕ, ◌+◌, Bool, true, false, ◌&&◌, cond, List, [], ◌∷◌, ◌++◌, refl, sym, ◌∙◌, ap, subst, append-nil}
use Rattle.std.specs.Prelude.{Option, None, Some, ◌==◌, ◌||◌, not, is_some, is_none, option_to_list, slice_get}
use Rattle.std.specs.List.{find}
use Rattle.artery_base.specs.declared.address.Address.{Address}
use Rattle.artery_base.specs.declared.address.UniqueAddress.{UniqueAddress}
use Rattle.artery_base.specs.declared.message.SysMsg.{SysMsg}
use Rattle.artery_base.specs.declared.message.Tell.{Tell}
use Rattle.artery_assoc.specs.Peer.{PeerState, is_closed, is_that, is_current, is_full, learning, peer_after_learn, peer_learnt}
use Rattle.artery_assoc.specs.declared.peer.Learn.{Learn}
use Rattle.artery_assoc.specs.declared.peer.Learn.TheVariants.{Learnt, Same as IsSame, WasClosed, ClosedFull}
use Rattle.artery_control.specs.declared.control.Control.TheVariants as controls
use Rattle.artery_frame.specs.declared.stream.Stream.{Stream}
use Rattle.artery_frame.specs.declared.stream.Stream.TheVariants as streams
use Rattle.artery_handshake.specs.declared.out_conn.OutConn.{OutConn}
use Rattle.artery_handshake.specs.declared.out_conn.OutState.{OutState}
use Rattle.artery_handshake.specs.declared.out_conn.OutState.TheVariants.{Dialing, Asked, Bound}
use Rattle.artery_handshake.specs.declared.out_conn.OnRsp.{OnRsp}
use Rattle.artery_handshake.specs.declared.out_conn.OnRsp.TheVariants.{Bind, Repeat, Stray}
use Rattle.artery_handshake.specs.Outgoing.{is_meant, answer_in, state_after_rsp, conn_answered}
use Rattle.artery_journal.specs.declared.line.Line.{Line}
use Rattle.artery_journal.specs.declared.line.Line.TheVariants as lines
use Rattle.artery_journal.specs.declared.words.Cause.TheVariants as causes
use Rattle.artery_journal.specs.declared.words.Kind.{Kind}
use Rattle.artery_journal.specs.declared.words.Kind.TheVariants.{Refs, Manifests}
use Rattle.artery_journal.specs.declared.words.Reason.TheVariants as reasons
use Rattle.artery_machine.specs.declared.link.Link.{Link}
use Rattle.artery_machine.specs.Lists.{or_else, change_first}
use Rattle.artery_machine.specs.Parts.{whole}
use Rattle.artery_machine.specs.Connections.{is_dialed}
use Rattle.artery_machine.specs.Node.{Node, Peer, OfKinds, of_kind, of_each, incarnation, is_peer, new_peer, peer_at, current_of, conn_of, with_link, origin_at, dialed_as, stream_dialed}
use Rattle.artery_machine.specs.Doing.{◌▸◌, stays, tells_of, peer_becomes, origin_becomes, each}
use Rattle.artery_machine.specs.Making.{dials, uses}
use Rattle.artery_machine.specs.Closing.{dial_of, on_control, closes_current}
use Rattle.artery_machine.specs.Sending.{without_held, tells_told, tells_on}
use Rattle.artery_machine.specs.Handshaking.{change_conn, answer_on, is_met, quiet_now, with_learnt, owes_no_ack, ordinary_dial, answer_at, tells_all_sent, tells_waiting, writes_owed_ack, dials_ordinary, goes_on, learns_new, learns_as, learns, strays, binds_ordinary, binds, answered_as, takes_answer, answered_by, answered_to, strays_unless, then_ordinary, answered_plainly, answered}
use Rattle.artery_names.proofs.Lists.{by_test, none_is, not_both, not_some, some_same, eq_true, and_left, and_right}
use Rattle.artery_names.proofs.Talks.{adopted_by, name_by}
use Rattle.artery_names.proofs.Facts.{Network, Conn, journal, Answered, Made, Holds, AreHeld, BoundTo, IsBound, bound_as, bound_in, PeerFacts, NodeFacts, Good}
use Rattle.artery_names.proofs.Growing.{Grown, Along, answered_grows, made_grows, dialed_same}
use Rattle.artery_names.proofs.Plain.{Same}
use Rattle.artery_names.proofs.Rules.{Work, Plain, ◌▹◌, SamePeer, stays_plain, tells_plain, where_plain, origin_plain}
use Rattle.artery_names.proofs.Later.{Later, along_grown}
use Rattle.artery_names.proofs.Keeping.{nowhere, Kept, kept_self, Keeps, ◌▻◌, plain_keeps, stays_keep}
use Rattle.artery_names.proofs.Peers.{address_self, on_changed}
use Rattle.artery_names.proofs.Silence.{silent}
use Rattle.artery_names.proofs.Making.{other_plain, uses_plain, gives_up_plain, control_plain, rewinds_plain, pumps_plain, tells_sent_plain, dials_plain}
use Rattle.artery_names.proofs.Closing.{peers_change, closes_away, closes_current_kept}
use Rattle.artery_names.proofs.Talking.{Speaks, tells_on_kept}
use Rattle.artery_names.proofs.Premises.{Premise, KeepsIf, ◌▷◌, kept_then, always_keeps, stays_keeps}

-- ---- learning

module _ {u m : ℕ} where
  quiet_plain : (a : Address) (now : ℕ) → Plain u m (peer_becomes a (quiet_now now))
  quiet_plain a now = other_plain a (quiet_now now) (λ p. record { known = refl; tables = refl; control = Same refl; ordinary = Same refl })

  owed_ack_plain : (v : UniqueAddress) → Plain u m (writes_owed_ack v)
  owed_ack_plain v = record {
    on = λ d. (where_plain (origin_at v d.node).owes (origin_becomes v owes_no_ack ▸ on_control v (controls.Ack (whole.last_taken v d.node.taken) d.node.me))
        (origin_plain v owes_no_ack (λ o. record { who = refl; stories = λ kind. refl }) ▹ control_plain v (controls.Ack (whole.last_taken v d.node.taken) d.node.me) refl)).on d;
  }

  dials_ordinary_plain : (a : Address) → Plain u m (dials_ordinary a)
  dials_ordinary_plain a = record { on = λ d. (where_plain (not (is_some (conn_of streams.Ordinary (peer_at a d.node)))) (dials streams.Ordinary a) (dials_plain streams.Ordinary a)).on d }

  goes_on_plain : (v : UniqueAddress) → Plain u m (goes_on v)
  goes_on_plain v = record { on = λ d. (quiet_plain v.address d.node.moment ▹ owed_ack_plain v ▹ rewinds_plain v.address ▹ pumps_plain v.address ▹ dials_ordinary_plain v.address).on d }

  all_sent_plain : (a : Address) (uid n : ℕ) (ms : List SysMsg) → Plain u m (tells_all_sent a uid n ms)
  all_sent_plain a uid n [] = stays_plain
  all_sent_plain a uid n (x ∷ ms) = tells_sent_plain a (Some uid) n x ▹ all_sent_plain a uid (n + 1) ms

  waiting_plain : (a : Address) (uid : ℕ) → Plain u m (tells_waiting a uid)
  waiting_plain a uid = record { on = λ d. (all_sent_plain a uid 1 (whole.unacknowledged (peer_at a d.node).out)).on d }

  learnt_plain : (v : UniqueAddress) → Plain u m (tells_of (λ me. lines.Learnt me v))
  learnt_plain v = tells_plain (λ me. lines.Learnt me v) (λ me. silent (lines.Learnt me v) refl)

  strays_plain : (v : UniqueAddress) (its_nonce : Option ℕ) → Plain u m (strays v its_nonce)
  strays_plain v its_nonce = tells_plain (λ me. lines.Stray me v its_nonce) (λ me. silent (lines.Stray me v its_nonce) refl)

-- What is known of a peer once a UID was learnt, where none was current.
pub record Learns (nobody me : UniqueAddress) (cs : List Conn) (a : Address) (ls : List Line) (p : Peer whole) (i : PeerState) : Type 0 where
  pub alive : (uid : ℕ) → i.current ≡ Some uid → is_closed uid i ≡ false
  pub unspoken : (uid : ℕ) → is_that uid i.current ≡ false → is_closed uid i ≡ false → adopted_by me (incarnation a uid) ls ≡ of_each 0
  pub tables : AreHeld cs me a ls p.tables i.current

learnt_open : (uid : ℕ) (i : PeerState) (f : Option ℕ) → learning uid i ≡ Learnt f → is_closed uid i ≡ false
learnt_open uid i f h = by (is_closed uid i) refl h
  where
    not_learnt : {P : Type 0} → WasClosed ≡ Learnt f → P
    not_learnt e = cc

    by : (b : Bool) → is_closed uid i ≡ b → cond b WasClosed (cond (is_current uid i) IsSame (cond (is_full i) ClosedFull (Learnt i.current))) ≡ Learnt f → is_closed uid i ≡ false
    by true e k = not_learnt k
    by false e k = e

learnt_former : (uid : ℕ) (i : PeerState) (f : Option ℕ) → learning uid i ≡ Learnt f → f ≡ i.current
learnt_former uid i f h = by (is_closed uid i) (is_current uid i) (is_full i) h
  where
    by : (b c e : Bool) → cond b WasClosed (cond c IsSame (cond e ClosedFull (Learnt i.current))) ≡ Learnt f → f ≡ i.current
    by true c e k = cc
    by false true e k = cc
    by false false true k = cc
    by false false false k = cc

zero_held : (cs : List Conn) (me : UniqueAddress) (a : Address) (ls : List Line) (tables : OfKinds whole.Adopted) (uid : ℕ) → tables ≡ of_each (record { number = 0; pairs = [] }) → adopted_by me (incarnation a uid) ls ≡ of_each 0 → AreHeld cs me a ls tables (Some uid)
zero_held cs me a ls tables uid e z = λ kind. by kind
  where
    none : (kind : Kind) → Holds cs uid me.uid kind (of_kind kind (of_each 0)) (of_kind kind (of_each (record { number = 0; pairs = [] })))
    none Refs = record { number = refl; held = tt }
    none Manifests = record { number = refl; held = tt }

    by : (kind : Kind) → Holds cs uid me.uid kind (of_kind kind (adopted_by me (incarnation a uid) ls)) (of_kind kind tables)
    by kind = subst (λ (x : OfKinds ℕ). Holds cs uid me.uid kind (of_kind kind x) (of_kind kind tables)) (sym z)
        (subst (λ (x : OfKinds whole.Adopted). Holds cs uid me.uid kind (of_kind kind (of_each 0)) (of_kind kind x)) (sym e) (none kind))

learns_facts : (nobody me : UniqueAddress) (cs : List Conn) (ls : List Line) (a : Address) (uid : ℕ) (p : Peer whole) → p.incarnations.current ≡ None → PeerFacts nobody me cs ls a p → AreHeld cs me a ls p.tables p.incarnations.current
    → Learns nobody me cs a ls p (peer_learnt uid p.incarnations)
learns_facts nobody me cs ls a uid p none h held = by (learning uid p.incarnations) refl
  where
    i : PeerState
    i = p.incarnations

    as_was : Learns nobody me cs a ls p i
    as_was = record { alive = h.alive; unspoken = h.unspoken; tables = held }

    nothing_held : AreHeld cs me a ls p.tables None
    nothing_held = subst (AreHeld cs me a ls p.tables) none held

    no_more : (xs : List ℕ) → xs ++ option_to_list None ≡ xs
    no_more xs = append-nil xs

    new : is_closed uid p.incarnations ≡ false → Learns nobody me cs a ls p (record p.incarnations { current = Some uid })
    new apart = record {
      alive = λ x e. subst (λ (y : ℕ). is_closed y p.incarnations ≡ false) (some_same e) apart;
      unspoken = λ x e f. h.unspoken x (ap (λ (o : Option ℕ). is_that x o) none) f;
      tables = zero_held cs me a ls p.tables uid nothing_held (h.unspoken uid (ap (λ (o : Option ℕ). is_that uid o) none) apart);
    }

    by : (x : Learn) → learning uid p.incarnations ≡ x → Learns nobody me cs a ls p (peer_after_learn x uid p.incarnations)
    by IsSame e = as_was
    by WasClosed e = as_was
    by ClosedFull e = as_was
    by (Learnt f) e =
        let is_none : f ≡ None = learnt_former uid p.incarnations f e ∙ none in
        let P : List ℕ → Type 0 = λ xs. Learns nobody me cs a ls p (record p.incarnations { current = Some uid; closed = xs }) in
        subst P (sym (ap (λ (o : Option ℕ). p.incarnations.closed ++ option_to_list o) is_none ∙ no_more p.incarnations.closed)) (new (learnt_open uid p.incarnations f e))

learnt_address : (uid : ℕ) (i : PeerState) → (peer_learnt uid i).address ≡ i.address
learnt_address uid i = by (learning uid i)
  where
    by : (x : Learn) → (peer_after_learn x uid i).address ≡ i.address
    by (Learnt former) = refl
    by IsSame = refl
    by WasClosed = refl
    by ClosedFull = refl

module _ {nobody : UniqueAddress} {u : ℕ} {given : ℕ → ℕ} where
  learnt_live : (v : UniqueAddress) (now : ℕ) (n : Node whole) (w : Network) → (peer_at v.address n).incarnations.current ≡ None → Good nobody u given nowhere n w
      → Good nobody u given nowhere (record n { peers = change_first (is_peer v.address) (with_learnt now v.uid) n.peers }) w
  learnt_live v now n w none g = peers_change nobody u given nowhere nowhere n v.address (with_learnt now v.uid) w g (λ h b. (
    on_changed v.address b (with_learnt now v.uid) (λ p. learnt_address v.uid p.incarnations) (PeerFacts nobody n.me w.connections (journal w) b) n.peers
        (λ e p f. (let l = facts h b e p f in let was = there h b e p f in record { alive = l.alive; unspoken = l.unspoken; control = was.control; ordinary = was.ordinary }))
        (λ e f. missing h b e f) (λ t. h.peers b),
    λ t. on_changed v.address b (with_learnt now v.uid) (λ p. learnt_address v.uid p.incarnations) (λ q. AreHeld w.connections n.me b (journal w) q.tables q.incarnations.current) n.peers
        (λ e p f. (facts h b e p f).tables) (λ e f. refl) (λ s. h.tables b refl),
    λ t. not_both t refl,
  ))
    where
      is_it : (p : Peer whole) → find (is_peer v.address) n.peers ≡ Some p → peer_at v.address n ≡ p
      is_it p f = ap (or_else (new_peer v.address)) f

      there : NodeFacts nobody u given nowhere n w.connections (journal w) → (b : Address) → b ≡ v.address → (p : Peer whole) → find (is_peer v.address) n.peers ≡ Some p → PeerFacts nobody n.me w.connections (journal w) b p
      there h b e p f = subst (λ (x : Address). PeerFacts nobody n.me w.connections (journal w) x p) (sym e) (subst (PeerFacts nobody n.me w.connections (journal w) v.address) (is_it p f) (h.peers v.address))

      missing : NodeFacts nobody u given nowhere n w.connections (journal w) → (b : Address) → b ≡ v.address → find (is_peer v.address) n.peers ≡ None → PeerFacts nobody n.me w.connections (journal w) b (new_peer b)
      missing h b e f = subst (PeerFacts nobody n.me w.connections (journal w) b) (subst (λ (x : Address). peer_at x n ≡ new_peer x) (sym e) (ap (or_else (new_peer v.address)) f)) (h.peers b)

      facts : NodeFacts nobody u given nowhere n w.connections (journal w) → (b : Address) → b ≡ v.address → (p : Peer whole) → find (is_peer v.address) n.peers ≡ Some p → Learns nobody n.me w.connections b (journal w) p (peer_learnt v.uid p.incarnations)
      facts h b e p f =
          let now_none : p.incarnations.current ≡ None = sym (ap (λ (q : Peer whole). q.incarnations.current) (is_it p f)) ∙ none in
          let held : AreHeld w.connections n.me b (journal w) p.tables p.incarnations.current = subst (λ (x : Address). AreHeld w.connections n.me x (journal w) p.tables p.incarnations.current) (sym e)
          (subst (λ (q : Peer whole). AreHeld w.connections n.me v.address (journal w) q.tables q.incarnations.current) (is_it p f) (h.tables v.address refl)) in
          learns_facts nobody n.me w.connections (journal w) b v.uid p now_none (there h b e p f) held

  learnt_good : (v : UniqueAddress) (now : ℕ) (n : Node whole) (w : Network) → (w.ended ≡ None → (peer_at v.address n).incarnations.current ≡ None) → Good nobody u given nowhere n w
      → Good nobody u given nowhere (record n { peers = change_first (is_peer v.address) (with_learnt now v.uid) n.peers }) w
  learnt_good v now n w none g = by_test (is_none w.ended) (λ t. learnt_live v now n w (none (none_is w.ended t)) g)
      (λ t. record { lawful = g.lawful; out = g.out; node = λ e. not_both (ap is_none e) t })

module _ {nobody : UniqueAddress} {u m : ℕ} {given : ℕ → ℕ} where
  learns_new_kept : (v : UniqueAddress) (former : Option ℕ) (d : Work u m) → former ≡ current_of (peer_at v.address d.node) → Good nobody u given nowhere d.node d.deeds
      → Kept nobody u given nowhere d.deeds (learns_new v former d).node (learns_new v former d).deeds
  learns_new_kept v former d same g =
      subst (λ (o : Option ℕ). Kept nobody u given nowhere d.deeds (learns_new v o d).node (learns_new v o d).deeds) (sym same)
      (kept_then nobody u given nowhere d.deeds d1.deeds _ d1.node _ k1
      ((plain_keeps _ (learnt_plain v ▹ waiting_plain v.address v.uid ▹ goes_on_plain v)).on d2
      (learnt_good v d.node.moment d1.node d1.deeds (λ e. none_then (current_of (peer_at v.address d.node)) refl (k1.later.going e)) k1.good)))
    where
      d1 : Work u m
      d1 = closes_current v.address causes.Superseded (current_of (peer_at v.address d.node)) stays d

      d2 : Work u m
      d2 = peer_becomes v.address (with_learnt d.node.moment v.uid) d1

      k1 : Kept nobody u given nowhere d.deeds d1.node d1.deeds
      k1 = closes_current_kept v.address causes.Superseded stays stays_keep d g

      none_then : (x : Option ℕ) → current_of (peer_at v.address d.node) ≡ x → d.deeds.ended ≡ None → (peer_at v.address (closes_current v.address causes.Superseded x stays d).node).incarnations.current ≡ None
      none_then None c e = c
      none_then (Some uid) c e = ap (λ (i : PeerState). i.current) (closes_away v.address causes.Superseded uid d c (((g.node e).peers v.address).alive uid c))

  learns_as_kept : (v : UniqueAddress) (d : Work u m) (x : Learn) → learning v.uid (peer_at v.address d.node).incarnations ≡ x → Good nobody u given nowhere d.node d.deeds
      → Kept nobody u given nowhere d.deeds (learns_as v x d).node (learns_as v x d).deeds
  learns_as_kept v d WasClosed e g = (plain_keeps _ (tells_plain (λ me. lines.Barred me v) (λ me. silent (lines.Barred me v) refl))).on d g
  learns_as_kept v d ClosedFull e g = (plain_keeps _ (tells_plain (λ me. lines.Refused me reasons.ClosedUids) (λ me. silent (lines.Refused me reasons.ClosedUids) refl) ▹ gives_up_plain streams.Control v.address)).on d g
  learns_as_kept v d IsSame e g = (plain_keeps _ (goes_on_plain v)).on d g
  learns_as_kept v d (Learnt former) e g = learns_new_kept v former d (learnt_former v.uid (peer_at v.address d.node).incarnations former e) g

  learns_keep : (v : UniqueAddress) → Keeps nobody u m given (learns v)
  learns_keep v = record { on = λ d g. learns_as_kept v d (learning v.uid (peer_at v.address d.node).incarnations) refl g }

-- ---- what was held

module _ {u m : ℕ} where
  told_same : (a : Address) (dial : ℕ) (message : Tell) (d : Work u m) → (tells_on a dial message d).node ≡ d.node
  told_same a dial message d = by (current_of (peer_at a d.node))
    where
      by : (c : Option ℕ) → (tells_told a c dial message d).node ≡ d.node
      by None = refl
      by (Some uid) = refl

module _ {nobody : UniqueAddress} {u m : ℕ} {given : ℕ → ℕ} where
  all_told : (a : Address) (dial uid : ℕ) (messages : List Tell) (d : Work u m) → Speaks (peer_at a d.node) dial uid → Good nobody u given nowhere d.node d.deeds
      → Kept nobody u given nowhere d.deeds (each messages (tells_on a dial) d).node (each messages (tells_on a dial) d).deeds
  all_told a dial uid [] d s g = kept_self nobody u given nowhere d.node d.deeds g
  all_told a dial uid (x ∷ messages) d s g =
      let d1 : Work u m = tells_on a dial x d in
      let k : Kept nobody u given nowhere d.deeds d1.node d1.deeds = tells_on_kept a dial uid x d s g in
      kept_then nobody u given nowhere d.deeds d1.deeds (each messages (tells_on a dial) d1).deeds d1.node (each messages (tells_on a dial) d1).node k
      (all_told a dial uid messages d1 (subst (λ (n : Node whole). Speaks (peer_at a n) dial uid) (sym (told_same a dial x d)) s) k.good)

-- ---- answers

-- An answer that came to the node with this UID is one for a connection of its, that reaches who answers.
pub record Meant (nobody : UniqueAddress) (u : ℕ) (v : UniqueAddress) (for_uid its_nonce : Option ℕ) (cs : List Conn) (ls : List Line) : Type 0 where
  pub name : name_by nobody v.uid ls ≡ v
  pub uid : ℕ
  pub dial : ℕ
  pub asked : for_uid ≡ Some uid
  pub nonce : its_nonce ≡ Some dial
  pub far : (i : ℕ) (c : Conn) → slice_get cs i ≡ Some c → is_dialed uid dial c ≡ true → c.far ≡ v.uid
  pub answered : Answered cs v.uid uid dial
  pub made : Made cs uid dial

pub meant_later : (nobody : UniqueAddress) (u : ℕ) (v : UniqueAddress) (for_uid its_nonce : Option ℕ) (w x : Network) → Later nobody u w x → Meant nobody u v for_uid its_nonce w.connections (journal w) → Meant nobody u v for_uid its_nonce x.connections (journal x)
meant_later nobody u v for_uid its_nonce w x l h =
    let g : Along Grown w.connections x.connections = along_grown u w.connections x.connections l.conns in
    record {
      name = l.name v.uid ∙ h.name;
      uid = h.uid;
      dial = h.dial;
      asked = h.asked;
      nonce = h.nonce;
      far = λ i c e t. (let b = g.back i c e in b.so.far ∙ h.far i b.was b.is (sym (dialed_same h.uid h.dial b.was c b.so) ∙ t));
      answered = answered_grows w.connections x.connections g v.uid h.uid h.dial h.answered;
      made = made_grows w.connections x.connections g h.uid h.dial h.made;
    }

abbrev pub meeting : (nobody : UniqueAddress) (u : ℕ) (v : UniqueAddress) (for_uid its_nonce : Option ℕ) → Premise nobody u
meeting nobody u v for_uid its_nonce = record {
  holds = λ w. w.ended ≡ None → Meant nobody u v for_uid its_nonce w.connections (journal w);
  stays = λ w x l h live. meant_later nobody u v for_uid its_nonce w x l (h (l.going live));
}

-- a connection for which it is meant reaches who answers
meant_bound : (nobody me : UniqueAddress) (u : ℕ) (cs : List Conn) (ls : List Line) (v : UniqueAddress) (for_uid its_nonce : Option ℕ) (dial : ℕ) → me.uid ≡ u → Meant nobody u v for_uid its_nonce cs ls → is_meant me.uid dial for_uid its_nonce ≡ true
    → BoundTo nobody me cs ls v.address dial v.uid
meant_bound nobody me u cs ls v for_uid its_nonce dial is_u h t =
    let both : ((h.uid == me.uid) && (h.dial == dial)) ≡ true = sym (ap (λ (x : Option ℕ). is_meant me.uid dial x its_nonce) h.asked ∙ ap (λ (x : Option ℕ). is_meant me.uid dial (Some h.uid) x) h.nonce) ∙ t in
    let a : h.uid ≡ me.uid = eq_true h.uid me.uid (and_left (h.uid == me.uid) (h.dial == dial) both) in
    let b : h.dial ≡ dial = eq_true h.dial dial (and_right (h.uid == me.uid) (h.dial == dial) both) in
    record {
      name = h.name;
      far = λ i c e s. h.far i c e (subst (λ (x : ℕ). is_dialed x h.dial c ≡ true) (sym a) (subst (λ (x : ℕ). is_dialed me.uid x c ≡ true) (sym b) s));
      answered = subst (λ (x : ℕ). Answered cs v.uid x dial) a (subst (λ (x : ℕ). Answered cs v.uid h.uid x) b h.answered);
      made = subst (λ (x : ℕ). Made cs x dial) a (subst (λ (x : ℕ). Made cs h.uid x) b h.made);
    }

answered_bound : (nobody me : UniqueAddress) (u : ℕ) (cs : List Conn) (ls : List Line) (v : UniqueAddress) (for_uid its_nonce : Option ℕ) → me.uid ≡ u → Meant nobody u v for_uid its_nonce cs ls → (l : Link) → IsBound nobody me cs ls v.address (bound_in l.conn)
    → IsBound nobody me cs ls v.address (bound_in (change_conn (conn_answered me.uid v.uid for_uid its_nonce) l).conn)
answered_bound nobody me u cs ls v for_uid its_nonce is_u h l b = by l.conn b
  where
    at_state : (dial : ℕ) (s : OutState) (meant : Bool) → is_meant me.uid dial for_uid its_nonce ≡ meant → IsBound nobody me cs ls v.address (bound_as dial s) → IsBound nobody me cs ls v.address (bound_as dial (state_after_rsp (answer_in s v.uid meant) s))
    at_state dial Dialing meant e k = k
    at_state dial (Asked begun last) true e k = meant_bound nobody me u cs ls v for_uid its_nonce dial is_u h e
    at_state dial (Asked begun last) false e k = k
    at_state dial (Bound uid) meant e k = same (meant && (uid == v.uid))
      where
        same : (c : Bool) → IsBound nobody me cs ls v.address (bound_as dial (state_after_rsp (cond c Repeat Stray) (Bound uid)))
        same true = k
        same false = k

    by : (c : Option OutConn) → IsBound nobody me cs ls v.address (bound_in c) → IsBound nobody me cs ls v.address (bound_in (change_conn (conn_answered me.uid v.uid for_uid its_nonce) (record l { conn = c })).conn)
    by None k = tt
    by (Some c) k = at_state c.dial c.state (is_meant me.uid c.dial for_uid its_nonce) refl k

-- an answer that binds the ordinary connection leaves it bound
bind_speaks : (me : ℕ) (v : UniqueAddress) (for_uid its_nonce : Option ℕ) (uid dial : ℕ) (l : Link) → answer_on me v for_uid its_nonce l.conn ≡ Bind uid → dial_of (change_conn (conn_answered me v.uid for_uid its_nonce) l).conn ≡ Some dial
    → bound_in (change_conn (conn_answered me v.uid for_uid its_nonce) l).conn ≡ Some (dial, v.uid)
bind_speaks me v for_uid its_nonce uid dial l h e = by l.conn h e
  where
    not_bind : {P : Type 0} → Stray ≡ Bind uid → P
    not_bind q = cc

    repeats : {P : Type 0} → Repeat ≡ Bind uid → P
    repeats q = cc

    at_state : (x : ℕ) (s : OutState) (meant : Bool) → answer_in s v.uid meant ≡ Bind uid → x ≡ dial → bound_as x (state_after_rsp (answer_in s v.uid meant) s) ≡ Some (dial, v.uid)
    at_state x Dialing meant q r = not_bind q
    at_state x (Asked begun last) true q r = (let P : ℕ → Option (ℕ × ℕ) = λ z. Some (z, v.uid) in ap P r)
    at_state x (Asked begun last) false q r = not_bind q
    at_state x (Bound bound) meant q r = no (meant && (bound == v.uid)) q
      where
        no : (c : Bool) → cond c Repeat Stray ≡ Bind uid → bound_as x (state_after_rsp (cond (meant && (bound == v.uid)) Repeat Stray) (Bound bound)) ≡ Some (dial, v.uid)
        no true z = repeats z
        no false z = not_bind z

    by : (c : Option OutConn) → answer_on me v for_uid its_nonce c ≡ Bind uid → dial_of (change_conn (conn_answered me v.uid for_uid its_nonce) (record l { conn = c })).conn ≡ Some dial
        → bound_in (change_conn (conn_answered me v.uid for_uid its_nonce) (record l { conn = c })).conn ≡ Some (dial, v.uid)
    by None q r = not_bind q
    by (Some c) q r = at_state c.dial c.state (is_meant me c.dial for_uid its_nonce) q (some_same r)

-- the ordinary connection that has the dial number, where the UID is current
pub record Ordinary (v : UniqueAddress) (dial : ℕ) (p : Peer whole) : Type 0 where
  pub current : current_of p ≡ Some v.uid
  pub dialed : dial_of (conn_of streams.Ordinary p) ≡ Some dial

ordinary_is : (v : UniqueAddress) (dial : ℕ) (p : Peer whole) → ordinary_dial v p ≡ Some dial → Ordinary v dial p
ordinary_is v dial p h = by (current_of p) refl h
  where
    at_test : (c : ℕ) → current_of p ≡ Some c → (b : Bool) → (c == v.uid) ≡ b → cond b (dial_of (conn_of streams.Ordinary p)) None ≡ Some dial → Ordinary v dial p
    at_test c e true t k = record { current = e ∙ ap Some (eq_true c v.uid t); dialed = k }
    at_test c e false t k = not_some k

    by : (x : Option ℕ) → current_of p ≡ x → ordinary_dial v (record p { incarnations = record p.incarnations { current = x } }) ≡ Some dial → Ordinary v dial p
    by None e k = not_some k
    by (Some c) e k = at_test c e (c == v.uid) refl k

link_address : (stream : Stream) (f : Link → Link) (p : Peer whole) → (with_link stream f p).incarnations.address ≡ p.incarnations.address
link_address streams.Control f p = refl
link_address streams.Ordinary f p = refl

link_current : (stream : Stream) (f : Link → Link) (p : Peer whole) → (with_link stream f p).incarnations ≡ p.incarnations
link_current streams.Control f p = refl
link_current streams.Ordinary f p = refl

link_tables : (stream : Stream) (f : Link → Link) (p : Peer whole) → (with_link stream f p).tables ≡ p.tables
link_tables streams.Control f p = refl
link_tables streams.Ordinary f p = refl

linked_facts : (nobody me : UniqueAddress) (cs : List Conn) (ls : List Line) (a : Address) (stream : Stream) (f : Link → Link) (p : Peer whole) → ((l : Link) → IsBound nobody me cs ls a (bound_in l.conn) → IsBound nobody me cs ls a (bound_in (f l).conn))
    → PeerFacts nobody me cs ls a p → PeerFacts nobody me cs ls a (with_link stream f p)
linked_facts nobody me cs ls a streams.Control f p g h = record { alive = h.alive; unspoken = h.unspoken; control = g p.control h.control; ordinary = h.ordinary }
linked_facts nobody me cs ls a streams.Ordinary f p g h = record { alive = h.alive; unspoken = h.unspoken; control = h.control; ordinary = g p.ordinary h.ordinary }

module _ {nobody : UniqueAddress} {u : ℕ} {given : ℕ → ℕ} where
  bound_live : (stream : Stream) (v : UniqueAddress) (for_uid its_nonce : Option ℕ) (n : Node whole) (w : Network) → Meant nobody u v for_uid its_nonce w.connections (journal w) → Good nobody u given nowhere n w
      → Good nobody u given nowhere (record n { peers = change_first (is_peer v.address) (with_link stream (change_conn (conn_answered n.me.uid v.uid for_uid its_nonce))) n.peers }) w
  bound_live stream v for_uid its_nonce n w meant g = peers_change nobody u given nowhere nowhere n v.address (with_link stream f) w g (λ h b. (
    on_changed v.address b (with_link stream f) (link_address stream f) (PeerFacts nobody n.me w.connections (journal w) b) n.peers
        (λ e p q. subst (λ (x : Address). PeerFacts nobody n.me w.connections (journal w) x (with_link stream f p)) (sym e)
        (linked_facts nobody n.me w.connections (journal w) v.address stream f p (λ l k. answered_bound nobody n.me u w.connections (journal w) v for_uid its_nonce h.uid meant l k) (subst (PeerFacts nobody n.me w.connections (journal w) v.address) (is_it p q) (h.peers v.address))))
        (λ e q. subst (PeerFacts nobody n.me w.connections (journal w) b) (subst (λ (x : Address). peer_at x n ≡ new_peer x) (sym e) (ap (or_else (new_peer v.address)) q)) (h.peers b)) (λ t. h.peers b),
    λ t. on_changed v.address b (with_link stream f) (link_address stream f) (λ q. AreHeld w.connections n.me b (journal w) q.tables q.incarnations.current) n.peers
        (λ e p q. subst (λ (x : OfKinds whole.Adopted). AreHeld w.connections n.me b (journal w) x (with_link stream f p).incarnations.current) (sym (link_tables stream f p))
        (subst (λ (x : PeerState). AreHeld w.connections n.me b (journal w) p.tables x.current) (sym (link_current stream f p))
        (subst (λ (x : Address). AreHeld w.connections n.me x (journal w) p.tables p.incarnations.current) (sym e)
        (subst (λ (x : Peer whole). AreHeld w.connections n.me v.address (journal w) x.tables x.incarnations.current) (is_it p q) (h.tables v.address refl)))))
        (λ e q. refl) (λ s. h.tables b refl),
    λ t. not_both t refl,
  ))
    where
      f : Link → Link
      f = change_conn (conn_answered n.me.uid v.uid for_uid its_nonce)

      is_it : (p : Peer whole) → find (is_peer v.address) n.peers ≡ Some p → peer_at v.address n ≡ p
      is_it p q = ap (or_else (new_peer v.address)) q

  bound_good : (stream : Stream) (v : UniqueAddress) (for_uid its_nonce : Option ℕ) (n : Node whole) (w : Network) → (w.ended ≡ None → Meant nobody u v for_uid its_nonce w.connections (journal w)) → Good nobody u given nowhere n w
      → Good nobody u given nowhere (record n { peers = change_first (is_peer v.address) (with_link stream (change_conn (conn_answered n.me.uid v.uid for_uid its_nonce))) n.peers }) w
  bound_good stream v for_uid its_nonce n w meant g = by_test (is_none w.ended) (λ t. bound_live stream v for_uid its_nonce n w (meant (none_is w.ended t)) g)
      (λ t. record { lawful = g.lawful; out = g.out; node = λ e. not_both (ap is_none e) t })

module _ {nobody : UniqueAddress} {u m : ℕ} {given : ℕ → ℕ} where
  -- the ordinary connection is bound: what was held is told on it
  held_kept : (v : UniqueAddress) (its_nonce : Option ℕ) (d : Work u m) → ((dial : ℕ) → dial_of (conn_of streams.Ordinary (peer_at v.address d.node)) ≡ Some dial → bound_in (conn_of streams.Ordinary (peer_at v.address d.node)) ≡ Some (dial, v.uid))
      → Good nobody u given nowhere d.node d.deeds → Kept nobody u given nowhere d.deeds (binds streams.Ordinary v its_nonce d).node (binds streams.Ordinary v its_nonce d).deeds
  held_kept v its_nonce d b g = by (ordinary_dial v (peer_at v.address d.node)) refl
    where
      held_same : (p : Peer whole) → SamePeer p (without_held p)
      held_same p = record { known = refl; tables = refl; control = Same refl; ordinary = Same refl }

      d1 : Work u m
      d1 = peer_becomes v.address without_held d

      k1 : Kept nobody u given nowhere d.deeds d1.node d1.deeds
      k1 = (plain_keeps (peer_becomes v.address without_held) (other_plain v.address without_held held_same)).on d g

      speaks : (dial : ℕ) → Ordinary v dial (peer_at v.address d.node) → Speaks (peer_at v.address d1.node) dial v.uid
      speaks dial o = on_changed v.address v.address without_held (λ p. refl) (λ p. Speaks p dial v.uid) d.node.peers
          (λ e p q. (let is : peer_at v.address d.node ≡ p = ap (or_else (new_peer v.address)) q in
          record { current = ap (λ (x : Peer whole). current_of x) (sym is) ∙ o.current; bound = ap (λ (x : Peer whole). bound_in x.ordinary.conn) (sym is) ∙ b dial o.dialed }))
          (λ e q. not_some (sym (ap (λ (x : Option (Peer whole)). current_of (or_else (new_peer {P = whole} v.address) x)) q) ∙ o.current)) (λ t. not_both (address_self v.address) t)

      by : (x : Option ℕ) → ordinary_dial v (peer_at v.address d.node) ≡ x → Kept nobody u given nowhere d.deeds (binds_ordinary v its_nonce x d).node (binds_ordinary v its_nonce x d).deeds
      by None e = (plain_keeps _ (strays_plain v its_nonce ▹ gives_up_plain streams.Ordinary v.address)).on d g
      by (Some dial) e =
          kept_then nobody u given nowhere d.deeds d1.deeds _ d1.node _ k1
          (all_told v.address dial v.uid (peer_at v.address d.node).held d1 (speaks dial (ordinary_is v dial (peer_at v.address d.node) e)) k1.good)

  bind_kept : (stream : Stream) (v : UniqueAddress) (for_uid its_nonce : Option ℕ) (uid : ℕ) (d : Work u m) → answer_at stream d.node v for_uid its_nonce ≡ Bind uid → (meeting nobody u v for_uid its_nonce).holds d.deeds → Good nobody u given nowhere d.node d.deeds
      → Kept nobody u given nowhere d.deeds (answered_as stream v for_uid its_nonce (Bind uid) d).node (answered_as stream v for_uid its_nonce (Bind uid) d).deeds
  bind_kept streams.Control v for_uid its_nonce uid d e h g =
      (plain_keeps (uses v.address) (uses_plain v.address) ▻ learns_keep v).on
      (peer_becomes v.address (with_link streams.Control (change_conn (conn_answered d.node.me.uid v.uid for_uid its_nonce))) d) (bound_good streams.Control v for_uid its_nonce d.node d.deeds h g)
  bind_kept streams.Ordinary v for_uid its_nonce uid d e h g =
      held_kept v its_nonce d1 (λ dial. on_changed v.address v.address (with_link streams.Ordinary f) (λ p. refl) (λ p. dial_of p.ordinary.conn ≡ Some dial → bound_in p.ordinary.conn ≡ Some (dial, v.uid)) d.node.peers
      (λ s p q r. bind_speaks d.node.me.uid v for_uid its_nonce uid dial p.ordinary (sym (ap (λ (x : Option (Peer whole)). answer_on d.node.me.uid v for_uid its_nonce (or_else (new_peer {P = whole} v.address) x).ordinary.conn) q) ∙ e) r)
      (λ s q r. not_some r) (λ t. not_both (address_self v.address) t))
      (bound_good streams.Ordinary v for_uid its_nonce d.node d.deeds h g)
    where
      f : Link → Link
      f = change_conn (conn_answered d.node.me.uid v.uid for_uid its_nonce)

      d1 : Work u m
      d1 = peer_becomes v.address (with_link streams.Ordinary (change_conn (conn_answered d.node.me.uid v.uid for_uid its_nonce))) d

  takes_keep : (stream : Stream) (v : UniqueAddress) (for_uid its_nonce : Option ℕ) → KeepsIf nobody u m given (meeting nobody u v for_uid its_nonce) (takes_answer stream v for_uid its_nonce)
  takes_keep stream v for_uid its_nonce = record { on = λ d h g. by d h g (answer_at stream d.node v for_uid its_nonce) refl }
    where
      by : (d : Work u m) → (meeting nobody u v for_uid its_nonce).holds d.deeds → Good nobody u given nowhere d.node d.deeds → (x : OnRsp) → answer_at stream d.node v for_uid its_nonce ≡ x
          → Kept nobody u given nowhere d.deeds (answered_as stream v for_uid its_nonce x d).node (answered_as stream v for_uid its_nonce x d).deeds
      by d h g (Bind uid) e = bind_kept stream v for_uid its_nonce uid d e h g
      by d h g Repeat e = kept_self nobody u given nowhere d.node d.deeds g
      by d h g Stray e = kept_self nobody u given nowhere d.node d.deeds g

  strays_keep : (p : Premise nobody u) (v : UniqueAddress) (its_nonce : Option ℕ) → KeepsIf nobody u m given p (strays v its_nonce)
  strays_keep p v its_nonce = always_keeps _ (plain_keeps _ (strays_plain v its_nonce))

  by_keeps : (stream : Stream) (v : UniqueAddress) (for_uid its_nonce : ℕ) (b : Bool) → KeepsIf nobody u m given (meeting nobody u v (Some for_uid) (Some its_nonce)) (answered_by stream v for_uid its_nonce b)
  by_keeps stream v for_uid its_nonce true = takes_keep stream v (Some for_uid) (Some its_nonce)
  by_keeps stream v for_uid its_nonce false = strays_keep _ v (Some its_nonce)

  unless_keeps : (p : Premise nobody u) (b : Bool) (v : UniqueAddress) → KeepsIf nobody u m given p (strays_unless b v)
  unless_keeps p true v = stays_keeps
  unless_keeps p false v = strays_keep p v None

  then_keeps : (met : Bool) (v : UniqueAddress) (for_uid its_nonce : Option ℕ) → KeepsIf nobody u m given (meeting nobody u v for_uid its_nonce) (then_ordinary met v for_uid its_nonce)
  then_keeps met v for_uid its_nonce = record {
    on = λ d h g. (takes_keep streams.Ordinary v for_uid its_nonce ▷ unless_keeps (meeting nobody u v for_uid its_nonce) (met || is_met (answer_at streams.Ordinary d.node v for_uid its_nonce)) v).on d h g;
  }

  plainly_keeps : (v : UniqueAddress) (for_uid its_nonce : Option ℕ) → KeepsIf nobody u m given (meeting nobody u v for_uid its_nonce) (answered_plainly v for_uid its_nonce)
  plainly_keeps v for_uid its_nonce = record {
    on = λ d h g. (takes_keep streams.Control v for_uid its_nonce ▷ then_keeps (is_met (answer_at streams.Control d.node v for_uid its_nonce)) v for_uid its_nonce).on d h g;
  }

  to_keeps : (v : UniqueAddress) (for_uid its_nonce : ℕ) → KeepsIf nobody u m given (meeting nobody u v (Some for_uid) (Some its_nonce)) (answered_to v for_uid its_nonce)
  to_keeps v for_uid its_nonce = record {
    on = λ d h g. (by_keeps (stream_dialed its_nonce (peer_at v.address d.node)) v for_uid its_nonce
        (dialed_as its_nonce (peer_at v.address d.node) && is_met (answer_at (stream_dialed its_nonce (peer_at v.address d.node)) d.node v (Some for_uid) (Some its_nonce)))).on d h g;
  }

  pub answered_keeps : (v : UniqueAddress) (for_uid its_nonce : Option ℕ) → KeepsIf nobody u m given (meeting nobody u v for_uid its_nonce) (answered v for_uid its_nonce)
  answered_keeps v (Some for_uid) (Some its_nonce) = to_keeps v for_uid its_nonce
  answered_keeps v (Some for_uid) None = plainly_keeps v (Some for_uid) None
  answered_keeps v None its_nonce = plainly_keeps v None its_nonce
