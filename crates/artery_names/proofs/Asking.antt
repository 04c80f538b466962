-- Dials that are up, and handshake requests: they are asked and answered.
use Rattle.std.proofs.Common.{◌≡◌, ℕ, ◌+◌, ◌≤◌, ◌<◌, Bool, true, false, cond, List, [], ◌∷◌, ◌++◌, refl, sym, ◌∙◌, ap, subst, arith}
use Rattle.std.specs.Prelude.{Option, None, Some, ◌==◌, not, slice_get}
use Rattle.std.specs.List.{find}
use Rattle.std.proofs.lemmas.Bool.Decides.{nat_tests}
use Rattle.artery_base.specs.declared.address.Address.{Address}
use Rattle.artery_base.specs.declared.address.UniqueAddress.{UniqueAddress}
use Rattle.artery_control.specs.declared.control.Control.TheVariants as controls
use Rattle.artery_frame.specs.declared.stream.Stream.{Stream}
use Rattle.artery_frame.specs.declared.stream.Stream.TheVariants as streams
use Rattle.artery_handshake.specs.declared.in_conn.InState.{InState}
use Rattle.artery_handshake.specs.declared.in_conn.InState.TheVariants.{Raw, Known}
use Rattle.artery_handshake.specs.Incoming.{state_after_req}
use Rattle.artery_handshake.specs.Outgoing.{conn_dialed}
use Rattle.artery_journal.specs.declared.line.Line.{Line}
use Rattle.artery_journal.specs.declared.line.Line.TheVariants as lines
use Rattle.artery_journal.specs.declared.rule.Rule.{Rule as DropRule}
use Rattle.artery_journal.specs.declared.words.Kind.{Kind}
use Rattle.artery_machine.specs.declared.input.Conn.TheVariants.{Outward}
use Rattle.artery_machine.specs.declared.link.Answer.{Answer}
use Rattle.artery_machine.specs.Lists.{or_else, change_first}
use Rattle.artery_machine.specs.Deeds.{Begins, Controls, Writes, Hangs}
use Rattle.artery_machine.specs.Parts.{whole}
use Rattle.artery_machine.specs.Connections.{is_inward}
use Rattle.artery_machine.specs.Node.{Node, Peer, Inbound, Origin, of_kind, same_address, same_unique, new_origin, is_origin, has_origin, is_number, inbound_at, peer_at, address_of, conn_of, peer_dialed, stream_dialed, dial_asked}
use Rattle.artery_machine.specs.Doing.{Rule, ◌▸◌, where_true, does, becomes, inbound_becomes, each}
use Rattle.artery_machine.specs.Making.{makes_missing, uses}
use Rattle.artery_machine.specs.Handshaking.{answer_to, response, change_conn, waits_for_dial, owes_no_answer, with_origin, known_as, owing, asks_on, writes_answer, answers_owed, answers_all, answers_after, begins, dialed_of, dialed, lost_of, lost, makes_origin, answers_on, answers, is_asked, drops, drops_or, request_rule, requested}
use Rattle.artery_names.proofs.Lists.{not_some, some_same, eq_true, eq_self, eq_not, and_left, and_right, Each, each_weaker}
use Rattle.artery_names.proofs.Said.{Answering, answers_by}
use Rattle.artery_names.proofs.Talks.{told_by, name_by}
use Rattle.artery_names.proofs.Facts.{Network, Conn, journal, answers_on as answers_said_on, Out, IsState, IsKnown, IsOwed, MayOwe, InFacts, Heard, stories_of, numbers_in, Rises, NodeFacts, Good}
use Rattle.artery_names.proofs.Growing.{Grown, dialed_same, inward_same, Along}
use Rattle.artery_names.proofs.Plain.{Same, Gone, StillHeard, SameNode, same_node}
use Rattle.artery_names.proofs.Outside.{outward, begins_plain}
use Rattle.artery_names.proofs.Rules.{Work, Plain, numbers_same, deed_plain, tells_plain, where_plain, becomes_plain, inbound_plain}
use Rattle.artery_names.proofs.Later.{Later, later_self, along_grown}
use Rattle.artery_names.proofs.Keeping.{nowhere, Kept, kept_self, Keeps, ◌▻◌, plain_keeps, stays_keep, if_keeps}
use Rattle.artery_names.proofs.Silence.{silent}
use Rattle.artery_names.proofs.Making.{dialed_less, link_plain, makes_missing_plain, uses_plain, loses_plain}
use Rattle.artery_names.proofs.Writes.{IsOpened, write_kept}
use Rattle.artery_names.proofs.Premises.{Premise, KeepsIf, kept_then, always_keeps}

-- ---- an inbound connection that is found

-- What is found in a list where the one with a number was changed.
pub data Changed (x k : ℕ) (f : Inbound whole → Inbound whole) (is : List (Inbound whole)) (j : Inbound whole) : Type 0 where
  It : x ≡ k → (i : Inbound whole) → find (is_number x) is ≡ Some i → j ≡ f i → Changed x k f is j
  Other : (x ≡ k → ⊥) → find (is_number x) is ≡ Some j → Changed x k f is j

pub found_changed : (x k : ℕ) (f : Inbound whole → Inbound whole) → ((i : Inbound whole) → (f i).number ≡ i.number) → (is : List (Inbound whole)) (j : Inbound whole) → find (is_number x) (change_first (is_number k) f is) ≡ Some j → Changed x k f is j
found_changed x k f s [] j e = not_some e
found_changed x k f s (i ∷ is) j e = by (is_number k i) refl (is_number x i) refl e (λ q. found_changed x k f s is j q)
  where
    skip : (b : Bool) → is_number x i ≡ b → b ≡ false → find (is_number x) (i ∷ is) ≡ find (is_number x) is
    skip b p q = ap (λ (c : Bool). cond c (Some i) (find (is_number x) is)) (p ∙ q)

    behind : is_number x i ≡ false → Changed x k f is j → Changed x k f (i ∷ is) j
    behind n (It p z at q) = It p z (ap (λ (c : Bool). cond c (Some i) (find (is_number x) is)) n ∙ at) q
    behind n (Other p at) = Other p (ap (λ (c : Bool). cond c (Some i) (find (is_number x) is)) n ∙ at)

    by : (a : Bool) → is_number k i ≡ a → (b : Bool) → is_number x i ≡ b → find (is_number x) (cond a (f i ∷ is) (i ∷ change_first (is_number k) f is)) ≡ Some j
        → (find (is_number x) (change_first (is_number k) f is) ≡ Some j → Changed x k f is j) → Changed x k f (i ∷ is) j
    by true p true q h rest =
        let here : find (is_number x) (f i ∷ is) ≡ Some (f i) = ap (λ (n : ℕ). cond (n == x) (Some (f i)) (find (is_number x) is)) (s i) ∙ ap (λ (c : Bool). cond c (Some (f i)) (find (is_number x) is)) q in
        It (sym (eq_true i.number x q) ∙ eq_true i.number k p) i (ap (λ (c : Bool). cond c (Some i) (find (is_number x) is)) q) (some_same (sym h ∙ here))
    by true p false q h rest =
        let here : find (is_number x) (f i ∷ is) ≡ find (is_number x) is = ap (λ (n : ℕ). cond (n == x) (Some (f i)) (find (is_number x) is)) (s i) ∙ ap (λ (c : Bool). cond c (Some (f i)) (find (is_number x) is)) q in
        Other (λ z. eq_not i.number x q (eq_true i.number k p ∙ sym z)) (skip false q refl ∙ sym here ∙ h)
    by false p true q h rest =
        Other (λ z. eq_not i.number k p (eq_true i.number x q ∙ z)) (ap (λ (c : Bool). cond c (Some i) (find (is_number x) is)) q ∙ sym (ap (λ (c : Bool). cond c (Some i) (find (is_number x) (change_first (is_number k) f is))) q) ∙ h)
    by false p false q h rest = behind q (rest (sym (ap (λ (c : Bool). cond c (Some i) (find (is_number x) (change_first (is_number k) f is))) q) ∙ h))

-- each of those with rising numbers is found by its number
pub each_found : (is : List (Inbound whole)) (least : ℕ) → Rises least (numbers_in is) → Each (λ (i : Inbound whole). find (is_number i.number) is ≡ Some i) is
each_found [] least h = tt
each_found (i ∷ is) least h = (ap (λ (c : Bool). cond c (Some i) (find (is_number i.number) is)) (eq_self i.number), lift is (i.number + 1) (omega arith) h.1 (each_found is (i.number + 1) h.1))
  where
    apart : (j : Inbound whole) → i.number < j.number → (i.number == j.number) ≡ false
    apart j l = grind (arith, nat_tests)

    lift : (js : List (Inbound whole)) (l : ℕ) → i.number < l → Rises l (numbers_in js) → Each (λ (j : Inbound whole). find (is_number j.number) is ≡ Some j) js → Each (λ (j : Inbound whole). find (is_number j.number) (i ∷ is) ≡ Some j) js
    lift [] l a r e = tt
    lift (j ∷ js) l a r e = (
      ap (λ (c : Bool). cond c (Some i) (find (is_number j.number) is)) (apart j (let x : l ≤ j.number = r.0 in omega arith)) ∙ e.0,
      lift js (j.number + 1) (let x : l ≤ j.number = r.0 in omega arith) r.1 e.1,
    )

-- ---- answers that are owed

abbrev pub answers_in : Option Answer → List Answering
answers_in None = []
answers_in (Some x) = answers_by x.for_uid x.nonce

pub opened_later : (u : ℕ) (n k : Node whole) (cs ds : List Conn) → SameNode n k → Along Grown cs ds → (y : Answering) → IsOpened u n cs y → IsOpened u k ds y
opened_later u n k cs ds s l y f = λ p c e t.
    (let b = l.back p c e in
    let g = f p b.was b.is (sym (dialed_same y.uid y.dial b.was c b.so) ∙ t) in (
      b.so.far ∙ g.0,
      λ i z. (let q = s.inbound c.number i z in
          subst IsKnown (sym q.still.state) (g.1 q.was (sym (ap (λ (x : ℕ). inbound_at x n) b.so.number) ∙ q.is))),
    ))

-- the connection with this dialer and dial number is one that reaches the node, and that is known where it is there
pub opened_at : (nobody : UniqueAddress) (u k : ℕ) (n : Node whole) (cs : List Conn) (ls : List Line) → Out nobody cs ls → n.me.uid ≡ u → (place : ℕ) (c : Conn) → slice_get cs place ≡ Some c → is_inward n.me.uid k c ≡ true
    → ((i : Inbound whole) → inbound_at k n ≡ Some i → IsKnown i.state) → IsOpened u n cs (record { uid = c.dialer; dial = c.dial })
opened_at nobody u k n cs ls out is_u place c at inward known = λ p j e t.
    (let same : p ≡ place = out.dialed p place j c e at (eq_true j.dialer c.dialer (and_left (j.dialer == c.dialer) (j.dial == c.dial) t)) (eq_true j.dial c.dial (and_right (j.dialer == c.dialer) (j.dial == c.dial) t)) in
    let is : j ≡ c = some_same (sym e ∙ ap (λ (x : ℕ). slice_get cs x) same ∙ at) in (
      ap (λ (x : Conn). x.far) is ∙ eq_true c.far n.me.uid (and_left (c.far == n.me.uid) (c.number == k) inward) ∙ is_u,
      λ i z. known i (sym (ap (λ (x : ℕ). inbound_at x n) (ap (λ (x : Conn). x.number) is ∙ eq_true c.number k (and_right (c.far == n.me.uid) (c.number == k) inward))) ∙ z),
    ))

module _ (nobody : UniqueAddress) (u : ℕ) (given : ℕ → ℕ) (n : Node whole) (cs : List Conn) (ls : List Line) (out : Out nobody cs ls) (h : NodeFacts nobody u given nowhere n cs ls) where
  owed_opened : (k : ℕ) (i : Inbound whole) → inbound_at k n ≡ Some i → Each (IsOpened u n cs) (answers_in i.owed)
  owed_opened k i at = by i.owed y.facts.owed
    where
      y : Heard nobody n.me (given k) (stories_of n) cs ls k i
      y = h.inbound k i at

      by : (o : Option Answer) → MayOwe y.conn i.state o → Each (IsOpened u n cs) (answers_in o)
      by None q = tt
      by (Some x) q =
          let P : Option ℕ → Type 0 = λ z. Each (IsOpened u n cs) (answers_by z x.nonce) in
          let Q : Option ℕ → Type 0 = λ z. Each (IsOpened u n cs) (answers_by (Some y.conn.dialer) z) in
          subst P (sym q.uid) (subst Q (sym q.nonce)
          (opened_at nobody u k n cs ls out h.uid y.place y.conn y.is y.inward (λ j e. subst (λ (z : Inbound whole). IsKnown z.state) (some_same (sym at ∙ e)) q.known), tt))

  all_opened : Each (λ (i : Inbound whole). Each (IsOpened u n cs) (answers_in i.owed)) n.inbound
  all_opened = each_weaker _ _ (λ (i : Inbound whole) e. owed_opened i.number i e) n.inbound (each_found n.inbound 0 h.ordered)

quiet_still : (i : Inbound whole) → StillHeard i (owes_no_answer i)
quiet_still i = record { state = refl; shown = refl; owed = Gone refl }

origin_made : (v w : UniqueAddress) (now : ℕ) (kind : Kind) (os : List (Origin whole)) → (of_kind kind (or_else (new_origin {P = whole} now w) (find (is_origin w) (os ++ new_origin now v ∷ []))).tables).story ≡ (of_kind kind (or_else (new_origin {P = whole} now w) (find (is_origin w) os)).tables).story
origin_made v w now kind [] = by (same_unique v w)
  where
    by : (c : Bool) → (of_kind kind (or_else (new_origin {P = whole} now w) (cond c (Some (new_origin now v)) None)).tables).story ≡ (of_kind kind (new_origin {P = whole} now w).tables).story
    by true = refl
    by false = refl
origin_made v w now kind (o ∷ os) = by (is_origin w o) (origin_made v w now kind os)
  where
    by : (c : Bool) → (of_kind kind (or_else (new_origin {P = whole} now w) (find (is_origin w) (os ++ new_origin now v ∷ []))).tables).story ≡ (of_kind kind (or_else (new_origin {P = whole} now w) (find (is_origin w) os)).tables).story
        → (of_kind kind (or_else (new_origin {P = whole} now w) (cond c (Some o) (find (is_origin w) (os ++ new_origin now v ∷ [])))).tables).story ≡ (of_kind kind (or_else (new_origin {P = whole} now w) (cond c (Some o) (find (is_origin w) os))).tables).story
    by true r = refl
    by false r = r

origin_same : (v : UniqueAddress) (n : Node whole) → SameNode n (with_origin v n)
origin_same v n = record {
  me = refl;
  numbers = refl;
  known = λ a. refl;
  tables = λ a. refl;
  control = λ a. Same refl;
  ordinary = λ a. Same refl;
  stories = λ w kind. origin_made v w n.moment kind n.origins;
  inbound = λ x j e. record { was = j; is = e; still = record { state = refl; shown = refl; owed = Same refl } };
}

module _ {u m : ℕ} where
  pub owes_no_plain : (k : ℕ) → Plain u m (inbound_becomes k owes_no_answer)
  owes_no_plain k = inbound_plain k owes_no_answer (λ i. record { number = refl; still = quiet_still i })

  -- the node changes but for what is owed
  owed_same : (a : Address) (dial : ℕ) (i : Inbound whole) (s : InState) (d : Work u m) → SameNode d.node (answers_owed a dial i s d).node
  owed_same a dial i Raw d = same_node d.node
  owed_same a dial i (Known who its_nonce) d = by (same_address who.address a) i.owed
    where
      by : (b : Bool) (o : Option Answer) → SameNode d.node (where_true b (inbound_becomes i.number owes_no_answer ▸ writes_answer dial o) d).node
      by false o = same_node d.node
      by true None = ((owes_no_plain i.number).on d).node
      by true (Some x) = ((owes_no_plain i.number).on d).node

  pub makes_origin_plain : (v : UniqueAddress) → Plain u m (makes_origin v)
  makes_origin_plain v = record { on = λ d. (where_plain (not (has_origin v d.node)) (becomes (with_origin v)) (becomes_plain (with_origin v) (origin_same v))).on d }

module _ {nobody : UniqueAddress} {u m : ℕ} {given : ℕ → ℕ} where
  pub asks_on_keeps : (a : Address) (dial : ℕ) → Keeps nobody u m given (asks_on a dial)
  asks_on_keeps a dial = record {
    on = λ d g. write_kept (Some dial) (Controls (controls.HandshakeReq d.node.me a (Some dial))) d
        (λ k e live out h. record { sends = refl; tables = λ i c at t. tt; acks = λ i c at t. tt; answers = tt; speakers = (sym h.me, tt) }) g;
  }

  pub writes_answer_kept : (dial : ℕ) (o : Option Answer) (d : Work u m) → (d.deeds.ended ≡ None → Each (IsOpened u d.node d.deeds.connections) (answers_in o)) → Good nobody u given nowhere d.node d.deeds
      → Kept nobody u given nowhere d.deeds (writes_answer dial o d).node (writes_answer dial o d).deeds
  writes_answer_kept dial None d f g = kept_self nobody u given nowhere d.node d.deeds g
  writes_answer_kept dial (Some x) d f g = write_kept (Some dial) (Controls (response d.node.me x)) d
      (λ k e live out h. record { sends = refl; tables = λ i c at t. tt; acks = λ i c at t. tt; answers = f live; speakers = (sym h.me, tt) }) g

  owed_kept : (a : Address) (dial : ℕ) (i : Inbound whole) (s : InState) (d : Work u m) → (d.deeds.ended ≡ None → Each (IsOpened u d.node d.deeds.connections) (answers_in i.owed)) → Good nobody u given nowhere d.node d.deeds
      → Kept nobody u given nowhere d.deeds (answers_owed a dial i s d).node (answers_owed a dial i s d).deeds
  owed_kept a dial i Raw d f g = kept_self nobody u given nowhere d.node d.deeds g
  owed_kept a dial i (Known who its_nonce) d f g = by (same_address who.address a)
    where
      d1 : Work u m
      d1 = inbound_becomes i.number owes_no_answer d

      by : (b : Bool) → Kept nobody u given nowhere d.deeds (where_true b (inbound_becomes i.number owes_no_answer ▸ writes_answer dial i.owed) d).node (where_true b (inbound_becomes i.number owes_no_answer ▸ writes_answer dial i.owed) d).deeds
      by false = kept_self nobody u given nowhere d.node d.deeds g
      by true =
          let k : Kept nobody u given nowhere d.deeds d1.node d1.deeds = (plain_keeps _ (owes_no_plain i.number)).on d g in
          let p = (owes_no_plain {u = u} {m = m} i.number).on d in
          kept_then nobody u given nowhere d.deeds d1.deeds (writes_answer dial i.owed d1).deeds d1.node (writes_answer dial i.owed d1).node k
          (writes_answer_kept dial i.owed d1 (λ live. each_weaker (IsOpened u d.node d.deeds.connections) (IsOpened u d1.node d1.deeds.connections)
          (λ y q. opened_later u d.node d1.node d.deeds.connections d1.deeds.connections p.node (along_grown u d.deeds.connections d1.deeds.connections p.steps) y q) (answers_in i.owed) (f live)) k.good)

  all_answered : (a : Address) (dial : ℕ) (is : List (Inbound whole)) (d : Work u m) → (d.deeds.ended ≡ None → Each (λ (i : Inbound whole). Each (IsOpened u d.node d.deeds.connections) (answers_in i.owed)) is) → Good nobody u given nowhere d.node d.deeds
      → Kept nobody u given nowhere d.deeds (each is (λ i. answers_owed a dial i i.state) d).node (each is (λ i. answers_owed a dial i i.state) d).deeds
  all_answered a dial [] d f g = kept_self nobody u given nowhere d.node d.deeds g
  all_answered a dial (i ∷ is) d f g =
      let d1 : Work u m = answers_owed a dial i i.state d in
      let k : Kept nobody u given nowhere d.deeds d1.node d1.deeds = owed_kept a dial i i.state d (λ live. (f live).0) g in
      kept_then nobody u given nowhere d.deeds d1.deeds (each is (λ j. answers_owed a dial j j.state) d1).deeds d1.node (each is (λ j. answers_owed a dial j j.state) d1).node k
      (all_answered a dial is d1 (λ live. each_weaker _ _ (λ (j : Inbound whole) q. each_weaker (IsOpened u d.node d.deeds.connections) (IsOpened u d1.node d1.deeds.connections)
      (λ y z. opened_later u d.node d1.node d.deeds.connections d1.deeds.connections (owed_same a dial i i.state d) (along_grown u d.deeds.connections d1.deeds.connections k.later.conns) y z) (answers_in j.owed) q) is (f (k.later.going live)).1) k.good)

  answers_all_keeps : (a : Address) (dial : ℕ) → Keeps nobody u m given (answers_all a dial)
  answers_all_keeps a dial = record { on = λ d g. all_answered a dial d.node.inbound d (λ live. all_opened nobody u given d.node d.deeds.connections (journal d.deeds) (g.out live) (g.node live)) g }

  answers_after_keeps : (stream : Stream) (a : Address) (dial : ℕ) → Keeps nobody u m given (answers_after stream a dial)
  answers_after_keeps streams.Control a dial = answers_all_keeps a dial
  answers_after_keeps streams.Ordinary a dial = stays_keep

  begins_keep : (stream : Stream) (a : Address) (dial : ℕ) → Keeps nobody u m given (begins stream a dial)
  begins_keep stream a dial = record {
    on = λ d g. (plain_keeps _ (link_plain stream a (change_conn (conn_dialed d.node.moment)) (dialed_less d.node.moment))
        ▻ plain_keeps _ (deed_plain (Writes dial (Begins stream)) (begins_plain stream)) ▻ asks_on_keeps a dial ▻ answers_after_keeps stream a dial).on d g;
  }

  hangs_keep : (dial : ℕ) → Keeps nobody u m given (does (Hangs (Outward dial)))
  hangs_keep dial = plain_keeps _ (deed_plain (Hangs (Outward dial)) tt)

  dialed_of_keeps : (dial : ℕ) (x : Option (Peer whole)) → Keeps nobody u m given (dialed_of dial x)
  dialed_of_keeps dial None = hangs_keep dial
  dialed_of_keeps dial (Some p) = if_keeps (waits_for_dial (conn_of (stream_dialed dial p) p)) (begins (stream_dialed dial p) (address_of p) dial) (does (Hangs (Outward dial))) (begins_keep (stream_dialed dial p) (address_of p) dial) (hangs_keep dial)

  pub dialed_keeps : (dial : ℕ) → Keeps nobody u m given (dialed dial)
  dialed_keeps dial = record { on = λ d g. (dialed_of_keeps dial (peer_dialed dial d.node)).on d g }

  lost_of_keeps : (dial : ℕ) (x : Option (Peer whole)) → Keeps nobody u m given (lost_of dial x)
  lost_of_keeps dial None = stays_keep
  lost_of_keeps dial (Some p) = plain_keeps _ (loses_plain (stream_dialed dial p) (address_of p))

  pub lost_keeps : (dial : ℕ) → Keeps nobody u m given (lost dial)
  lost_keeps dial = record { on = λ d g. (lost_of_keeps dial (peer_dialed dial d.node)).on d g }

  pub drops_keep : (k : ℕ) (rule : DropRule) → Keeps nobody u m given (drops k rule)
  drops_keep k rule = plain_keeps _ (tells_plain (λ me. lines.Dropped me k rule) (λ me. silent (lines.Dropped me k rule) refl))

-- ---- requests

-- Who asks on the connection that reaches this node under this number is who dialed it, and the nonce is its dial number.
pub record AskedBy (nobody : UniqueAddress) (u k : ℕ) (v : UniqueAddress) (its_nonce : Option ℕ) (cs : List Conn) (ls : List Line) : Type 0 where
  pub place : ℕ
  pub conn : Conn
  pub is : slice_get cs place ≡ Some conn
  pub inward : is_inward u k conn ≡ true
  pub from : v ≡ name_by nobody conn.dialer ls
  pub nonce : its_nonce ≡ Some conn.dial

pub asked_later : (nobody : UniqueAddress) (u k : ℕ) (v : UniqueAddress) (its_nonce : Option ℕ) (w x : Network) → Later nobody u w x → AskedBy nobody u k v its_nonce w.connections (journal w) → AskedBy nobody u k v its_nonce x.connections (journal x)
asked_later nobody u k v its_nonce w x l a =
    let f = l.conns.forth a.place a.conn a.is in
    record {
      place = a.place;
      conn = f.next;
      is = f.is;
      inward = inward_same u k a.conn f.next f.so.grown ∙ a.inward;
      from = a.from ∙ sym (l.name f.next.dialer ∙ ap (λ (z : ℕ). name_by nobody z (journal w)) f.so.grown.dialer);
      nonce = a.nonce ∙ ap Some (sym f.so.grown.dial);
    }

abbrev pub asking : (nobody : UniqueAddress) (u k : ℕ) (v : UniqueAddress) (its_nonce : Option ℕ) → Premise nobody u
asking nobody u k v its_nonce = record {
  holds = λ w. w.ended ≡ None → AskedBy nobody u k v its_nonce w.connections (journal w);
  stays = λ w x l h live. asked_later nobody u k v its_nonce w x l (h (l.going live));
}

-- the connection that reaches the node under this number is the one on which it was asked
asked_there : (nobody : UniqueAddress) (u k : ℕ) (v : UniqueAddress) (its_nonce : Option ℕ) (n : Node whole) (given : ℕ) (cs : List Conn) (ls : List Line) (i : Inbound whole) → Out nobody cs ls → n.me.uid ≡ u → (a : AskedBy nobody u k v its_nonce cs ls)
    → (y : Heard nobody n.me given (stories_of n) cs ls k i) → a.conn ≡ y.conn
asked_there nobody u k v its_nonce n given cs ls i out is_u a y =
    let same : a.place ≡ y.place = out.reached a.place y.place a.conn y.conn a.is y.is
    (eq_true a.conn.far u (and_left (a.conn.far == u) (a.conn.number == k) a.inward) ∙ sym is_u ∙ sym (eq_true y.conn.far n.me.uid (and_left (y.conn.far == n.me.uid) (y.conn.number == k) y.inward)))
    (eq_true a.conn.number k (and_right (a.conn.far == u) (a.conn.number == k) a.inward) ∙ sym (eq_true y.conn.number k (and_right (y.conn.far == n.me.uid) (y.conn.number == k) y.inward))) in
    some_same (sym a.is ∙ ap (λ (x : ℕ). slice_get cs x) same ∙ y.is)

known_always : (v : UniqueAddress) (its_nonce : Option ℕ) (s : InState) → IsKnown (state_after_req v its_nonce s)
known_always v its_nonce Raw = tt
known_always v its_nonce (Known who n) = tt

-- ---- one inbound connection changes

module _ (nobody : UniqueAddress) (u : ℕ) (given : ℕ → ℕ) (k : ℕ) (f : Inbound whole → Inbound whole) (s : (i : Inbound whole) → (f i).number ≡ i.number) (still : (i : Inbound whole) → IsKnown i.state → IsKnown (f i).state) where
  pub inbound_good : (n : Node whole) (w : Network) → (w.ended ≡ None → (i : Inbound whole) → inbound_at k n ≡ Some i → (y : Heard nobody n.me (given k) (stories_of n) w.connections (journal w) k i)
      → InFacts n.me (name_by nobody y.conn.dialer (journal w)) (given k) (stories_of n (name_by nobody y.conn.dialer (journal w))) (journal w) (f i) y.conn)
      → Good nobody u given nowhere n w → Good nobody u given nowhere (record n { inbound = change_first (is_number k) f n.inbound }) w
  inbound_good n w t g = record {
    lawful = g.lawful;
    out = g.out;
    node = λ e. (let h = g.node e in record {
      uid = h.uid;
      me = h.me;
      ordered = subst (Rises 0) (sym (numbers_same k f s n.inbound)) h.ordered;
      peers = h.peers;
      tables = h.tables;
      gone = h.gone;
      origins = h.origins;
      framed = h.framed;
      inbound = λ x j at. heard e h x j (found_changed x k f s n.inbound j at);
      opened = λ j c at o. each_weaker _ _ (λ y q p z b r. (let v = q p z b r in (v.0, λ i d. known z.number i v.1 (found_changed z.number k f s n.inbound i d)))) (answers_said_on c) (h.opened j c at o);
    });
  }
    where
      heard : w.ended ≡ None → NodeFacts nobody u given nowhere n w.connections (journal w) → (x : ℕ) (j : Inbound whole) → Changed x k f n.inbound j → Heard nobody n.me (given x) (stories_of n) w.connections (journal w) x j
      heard e h x j (Other p at) = h.inbound x j at
      heard e h x j (It p i at q) =
          let at_k : inbound_at k n ≡ Some i = ap (λ (z : ℕ). inbound_at z n) (sym p) ∙ at in
          let y : Heard nobody n.me (given k) (stories_of n) w.connections (journal w) k i = h.inbound k i at_k in
          let P : ℕ → Type 0 = λ z. Heard nobody n.me (given z) (stories_of n) w.connections (journal w) z j in
          subst P (sym p) (record {
            place = y.place;
            conn = y.conn;
            is = y.is;
            inward = y.inward;
            facts = subst (λ (z : Inbound whole). InFacts n.me (name_by nobody y.conn.dialer (journal w)) (given k) (stories_of n (name_by nobody y.conn.dialer (journal w))) (journal w) z y.conn) (sym q) (t e i at_k y);
          })

      known : (x : ℕ) (i : Inbound whole) → ((j : Inbound whole) → inbound_at x n ≡ Some j → IsKnown j.state) → Changed x k f n.inbound i → IsKnown i.state
      known x i q (Other p at) = q i at
      known x i q (It p j at z) = subst (λ (y : Inbound whole). IsKnown y.state) (sym z) (still j (q j at))

-- the answer to the request
asked_opened : (nobody : UniqueAddress) (u k : ℕ) (v : UniqueAddress) (its_nonce : Option ℕ) (n : Node whole) (w : Network) → AskedBy nobody u k v its_nonce w.connections (journal w) → Out nobody w.connections (journal w) → n.me.uid ≡ u
    → ((j : Inbound whole) → inbound_at k n ≡ Some j → IsKnown j.state) → Each (IsOpened u n w.connections) (answers_in (Some (answer_to v its_nonce)))
asked_opened nobody u k v its_nonce n w a out is_u known =
    let P : Option ℕ → Type 0 = λ z. Each (IsOpened u n w.connections) (answers_in (Some (answer_to v z))) in
    let Q : ℕ → Type 0 = λ z. Each (IsOpened u n w.connections) (record { uid = z; dial = a.conn.dial } ∷ []) in
    let named : a.conn.dialer ≡ v.uid = sym (out.conns a.place a.conn a.is).near ∙ ap (λ (z : UniqueAddress). z.uid) (sym a.from) in
    subst P (sym a.nonce) (subst Q named (opened_at nobody u k n w.connections (journal w) out is_u a.place a.conn a.is (subst (λ (z : ℕ). is_inward z k a.conn ≡ true) (sym is_u) a.inward) known, tt))

module _ {nobody : UniqueAddress} {u m : ℕ} {given : ℕ → ℕ} where
  -- it is known who speaks
  known_kept : (k : ℕ) (v : UniqueAddress) (its_nonce : Option ℕ) → 1 ≤ given k → (d : Work u m) → (asking nobody u k v its_nonce).holds d.deeds → Good nobody u given nowhere d.node d.deeds
      → Good nobody u given nowhere (inbound_becomes k (known_as v its_nonce) d).node d.deeds
  known_kept k v its_nonce some d a g = inbound_good nobody u given k (known_as v its_nonce) (λ i. refl) (λ i q. known_always v its_nonce i.state) d.node d.deeds (λ e i at y. facts e i y y.facts) g
    where
      w : Network
      w = d.deeds

      facts : w.ended ≡ None → (i : Inbound whole) → (y : Heard nobody d.node.me (given k) (stories_of d.node) w.connections (journal w) k i)
          → InFacts d.node.me (name_by nobody y.conn.dialer (journal w)) (given k) (stories_of d.node (name_by nobody y.conn.dialer (journal w))) (journal w) i y.conn
          → InFacts d.node.me (name_by nobody y.conn.dialer (journal w)) (given k) (stories_of d.node (name_by nobody y.conn.dialer (journal w))) (journal w) (known_as v its_nonce i) y.conn
      facts e i y h = record {
        had = h.had;
        begun = λ q. some;
        state = state i.state h.state;
        owed = owed i.owed i.state h.owed;
        got = h.got;
        fits = h.fits;
        shown = h.shown;
      }
        where
          b : AskedBy nobody u k v its_nonce w.connections (journal w)
          b = a e

          same : b.conn ≡ y.conn
          same = asked_there nobody u k v its_nonce d.node (given k) w.connections (journal w) i (g.out e) (g.node e).uid b y

          state : (s : InState) → IsState (name_by nobody y.conn.dialer (journal w)) y.conn.dial (told_by (name_by nobody y.conn.dialer (journal w)) d.node.me y.conn.dial (journal w)) s
              → IsState (name_by nobody y.conn.dialer (journal w)) y.conn.dial (told_by (name_by nobody y.conn.dialer (journal w)) d.node.me y.conn.dial (journal w)) (state_after_req v its_nonce s)
          state Raw q = (b.from ∙ ap (λ (z : Conn). name_by nobody z.dialer (journal w)) same, b.nonce ∙ ap (λ (z : Conn). Some z.dial) same)
          state (Known who n) q = q

          owed : (o : Option Answer) (s : InState) → MayOwe y.conn s o → MayOwe y.conn (state_after_req v its_nonce s) o
          owed None s q = tt
          owed (Some x) s q = record { uid = q.uid; nonce = q.nonce; known = known_always v its_nonce s }

  answers_kept : (k : ℕ) (v : UniqueAddress) (its_nonce : Option ℕ) (d : Work u m) → (asking nobody u k v its_nonce).holds d.deeds → ((j : Inbound whole) → inbound_at k d.node ≡ Some j → IsKnown j.state) → Good nobody u given nowhere d.node d.deeds
      → Kept nobody u given nowhere d.deeds (answers k v its_nonce d).node (answers k v its_nonce d).deeds
  answers_kept k v its_nonce d a known g = by (dial_asked (conn_of streams.Control (peer_at v.address d.node)))
    where
      x : Answer
      x = answer_to v its_nonce

      w : Network
      w = d.deeds

      owed : w.ended ≡ None → (i : Inbound whole) → inbound_at k d.node ≡ Some i → (y : Heard nobody d.node.me (given k) (stories_of d.node) w.connections (journal w) k i) → IsOwed y.conn i.state (answer_to v its_nonce)
      owed e i at y =
          let b : AskedBy nobody u k v its_nonce w.connections (journal w) = a e in
          let same : b.conn ≡ y.conn = asked_there nobody u k v its_nonce d.node (given k) w.connections (journal w) i (g.out e) (g.node e).uid b y in
          let named : v.uid ≡ y.conn.dialer = ap (λ (z : UniqueAddress). z.uid) (b.from ∙ ap (λ (z : Conn). name_by nobody z.dialer (journal w)) same) ∙ ((g.out e).conns y.place y.conn y.is).near in
          let P : Option ℕ → Type 0 = λ z. IsOwed y.conn i.state (answer_to v z) in
          subst P (sym (b.nonce ∙ ap (λ (z : Conn). Some z.dial) same)) (record { uid = ap Some named; nonce = refl; known = known i at })

      owing_it : Kept nobody u given nowhere w (inbound_becomes k (owing (answer_to v its_nonce)) d).node w
      owing_it = record {
        good = inbound_good nobody u given k (owing (answer_to v its_nonce)) (λ i. refl) (λ i q. q) d.node w (λ e i at y. record {
          had = y.facts.had;
          begun = y.facts.begun;
          state = y.facts.state;
          owed = owed e i at y;
          got = y.facts.got;
          fits = y.facts.fits;
          shown = y.facts.shown;
        }) g;
        later = later_self nobody u w;
      }

      by : (z : Option ℕ) → Kept nobody u given nowhere d.deeds (answers_on k (answer_to v its_nonce) z d).node (answers_on k (answer_to v its_nonce) z d).deeds
      by None = owing_it
      by (Some dial) =
          let d1 : Work u m = inbound_becomes k owes_no_answer d in
          let q : Kept nobody u given nowhere d.deeds d1.node d1.deeds = (plain_keeps _ (owes_no_plain k)).on d g in
          let p = (owes_no_plain {u = u} {m = m} k).on d in
          kept_then nobody u given nowhere d.deeds d1.deeds (writes_answer dial (Some (answer_to v its_nonce)) d1).deeds d1.node (writes_answer dial (Some (answer_to v its_nonce)) d1).node q
          (writes_answer_kept dial (Some (answer_to v its_nonce)) d1 (λ e. each_weaker (IsOpened u d.node w.connections) (IsOpened u d1.node w.connections)
          (λ y z. opened_later u d.node d1.node w.connections w.connections p.node (along_grown u w.connections w.connections p.steps) y z) (answers_in (Some (answer_to v its_nonce)))
          (asked_opened nobody u k v its_nonce d.node w (a e) (g.out e) (g.node e).uid known)) q.good)

  is_asked_keeps : (k : ℕ) (v : UniqueAddress) (its_nonce : Option ℕ) → 1 ≤ given k → KeepsIf nobody u m given (asking nobody u k v its_nonce) (is_asked k v its_nonce)
  is_asked_keeps k v its_nonce some = record { on = λ d h g. asked d h g }
    where
      known_then : (n : Node whole) (j : Inbound whole) → Changed k k (known_as v its_nonce) n.inbound j → IsKnown j.state
      known_then n j (It p i at q) = subst (λ (y : Inbound whole). IsKnown y.state) (sym q) (known_always v its_nonce i.state)
      known_then n j (Other p at) = absurd (p refl)

      asked : (d : Work u m) → (asking nobody u k v its_nonce).holds d.deeds → Good nobody u given nowhere d.node d.deeds → Kept nobody u given nowhere d.deeds (is_asked k v its_nonce d).node (is_asked k v its_nonce d).deeds
      asked d h g =
          let d1 : Work u m = (makes_missing v.address ▸ uses v.address) d in
          let k1 : Kept nobody u given nowhere d.deeds d1.node d1.deeds = (plain_keeps (makes_missing v.address) (makes_missing_plain v.address) ▻ plain_keeps (uses v.address) (uses_plain v.address)).on d g in
          let h1 : (asking nobody u k v its_nonce).holds d1.deeds = (asking nobody u k v its_nonce).stays d.deeds d1.deeds k1.later h in
          let d2 : Work u m = inbound_becomes k (known_as v its_nonce) d1 in
          let g2 : Good nobody u given nowhere d2.node d2.deeds = known_kept k v its_nonce some d1 h1 k1.good in
          let d3 : Work u m = makes_origin v d2 in
          let k3 : Kept nobody u given nowhere d2.deeds d3.node d3.deeds = (plain_keeps (makes_origin v) (makes_origin_plain v)).on d2 g2 in
          let p3 = (makes_origin_plain {u = u} {m = m} v).on d2 in
          let known : (j : Inbound whole) → inbound_at k d3.node ≡ Some j → IsKnown j.state = λ j e. (let y = p3.node.inbound k j e in
          subst IsKnown (sym y.still.state) (known_then d1.node y.was (found_changed k k (known_as v its_nonce) (λ i. refl) d1.node.inbound y.was y.is))) in
          let k4 : Kept nobody u given nowhere d3.deeds (answers k v its_nonce d3).node (answers k v its_nonce d3).deeds = answers_kept k v its_nonce d3 ((asking nobody u k v its_nonce).stays d2.deeds d3.deeds k3.later h1) known k3.good in
          kept_then nobody u given nowhere d.deeds d1.deeds (answers k v its_nonce d3).deeds d1.node (answers k v its_nonce d3).node k1
          (kept_then nobody u given nowhere d1.deeds d3.deeds (answers k v its_nonce d3).deeds d3.node (answers k v its_nonce d3).node k3 k4)

  drops_or_keeps : (k : ℕ) (x : Option DropRule) (p : Premise nobody u) (r : Rule whole (outward u m)) → KeepsIf nobody u m given p r → KeepsIf nobody u m given p (drops_or k x r)
  drops_or_keeps k None p r q = q
  drops_or_keeps k (Some rule) p r q = always_keeps (drops k rule) (drops_keep k rule)

  pub requested_keeps : (i : Inbound whole) (v : UniqueAddress) (to : Address) (its_nonce : Option ℕ) → 1 ≤ given i.number → KeepsIf nobody u m given (asking nobody u i.number v its_nonce) (requested i v to its_nonce)
  requested_keeps i v to its_nonce some = record { on = λ d h g. (drops_or_keeps i.number (request_rule d.node i v to its_nonce) (asking nobody u i.number v its_nonce) (is_asked i.number v its_nonce) (is_asked_keeps i.number v its_nonce some)).on d h g }
