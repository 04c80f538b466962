-- What changes nothing by its answer.
use Rattle.std.proofs.Common.{◌≡◌, ℕ, ◌+◌, Bool, true, false, cond, List, [], ◌∷◌, refl, ap, sym, ◌∙◌, true≢false, arith}
use Rattle.std.specs.Prelude.{Option, Some, None, is_some, unwrap_or, nat_lt, ◌-◌, if◌then◌else◌}
use Rattle.std.specs.Map.{lookup, set_value}
use Rattle.std.proofs.lemmas.Bool.Decides.{nat_tests}
use Rattle.artery_base.specs.declared.address.Address.{Address}
use Rattle.artery_base.specs.declared.address.UniqueAddress.{UniqueAddress}
use Rattle.artery_delivery.specs.declared.inbound.Take.{Take}
use Rattle.artery_delivery.specs.declared.inbound.Take.TheVariants.{Taken, Again, Gap}
use Rattle.artery_delivery.specs.declared.outbound.Acked.{Acked}
use Rattle.artery_delivery.specs.declared.outbound.Acked.TheVariants.{Cleared, Past}
use Rattle.artery_delivery.specs.Inbound.{same_origin, expected_of, next_of, is_expected, taking, with_taken}
use Rattle.artery_delivery.specs.Outbound.{Kept, given, acknowledgement, kept_acknowledged, kept_rewound, kept_refused}
use Rattle.artery_header.specs.Envelope.{NameOf, Literal, Index}
use Rattle.artery_journal.specs.declared.words.Kind.{Kind}
use Rattle.artery_journal.specs.declared.words.Kind.TheVariants.{Refs, Manifests}
use Rattle.artery_tables.specs.InTables as announced
use Rattle.artery_tables.specs.OutTable as adopted
use Rattle.artery_tables.specs.declared.out_table.Adopted.{Adopted as Adopting}
use Rattle.artery_tables.specs.declared.out_table.Adopted.TheVariants as adopting
use Rattle.artery_tables.specs.declared.in_tables.Confirmed.{Confirmed}
use Rattle.artery_tables.specs.declared.in_tables.Confirmed.TheVariants as confirming
use Rattle.artery_machine.specs.Lists.{or_else, change_first}
use Rattle.artery_machine.specs.Parts.{kept}
use Rattle.artery_machine.specs.Node.{Peer, Origin, of_kind, of_each, same_unique, new_peer, is_peer, peer_at, new_origin, is_origin, origin_at}
use Rattle.artery_machine.specs.Doing.{Doing, in_bytes, becomes, peer_becomes, inbound_becomes, origin_becomes}
use Rattle.artery_machine.specs.Sending.{with_out}
use Rattle.artery_machine.specs.Hearing.{with_adopted, with_confirmed, with_counted}
use Rattle.artery_peer.specs.Showing.{with_numbers}
use Rattle.artery_node.specs.Heard.{taking_at, taken_by, cleared_by, adopted_by, confirmed_by}
use Rattle.artery_node.proofs.Places.{change_same, change_twice}

-- ---- what was taken

not_both : (n e : ℕ) → nat_lt n e ≡ true → is_expected n e ≡ true → ⊥
not_both n e l h = grind (arith, nat_tests)

again_same : (v : UniqueAddress) (n last : ℕ) (es : List (UniqueAddress × ℕ)) → taking v n es ≡ Again last → with_taken v n es ≡ es
again_same v n last es h = by (nat_lt n (next_of v es)) (is_expected n (next_of v es)) refl refl h
  where
    by : (a b : Bool) → nat_lt n (next_of v es) ≡ a → is_expected n (next_of v es) ≡ b
        → cond a (Again (next_of v es - 1)) (cond b Taken (Gap (next_of v es - 1))) ≡ Again last
        → cond b (set_value (same_origin v) es (n + 1)) es ≡ es
    by a false e f h = refl
    by true true e f h = absurd (not_both n (next_of v es) e f)
    by false true e f h = cc

gap_same : (v : UniqueAddress) (n last : ℕ) (es : List (UniqueAddress × ℕ)) → taking v n es ≡ Gap last → with_taken v n es ≡ es
gap_same v n last es h = by (nat_lt n (next_of v es)) (is_expected n (next_of v es)) h
  where
    by : (a b : Bool)
        → cond a (Again (next_of v es - 1)) (cond b Taken (Gap (next_of v es - 1))) ≡ Gap last
        → cond b (set_value (same_origin v) es (n + 1)) es ≡ es
    by a false h = refl
    by true true h = cc
    by false true h = cc

taken_same : (v : UniqueAddress) (n : ℕ) (d : Doing kept in_bytes) (x : Take) → taking v n d.node.taken ≡ x
    → becomes (λ node. record node { taken = with_taken v n node.taken }) d ≡ taken_by v n x d
taken_same v n d Taken e = refl
taken_same v n d (Again last) e = ap (λ (t : List (UniqueAddress × ℕ)). record d { node = record d.node { taken = t } }) (again_same v n last d.node.taken e)
taken_same v n d (Gap last) e = ap (λ (t : List (UniqueAddress × ℕ)). record d { node = record d.node { taken = t } }) (gap_same v n last d.node.taken e)

-- A message that was taken, or not.
pub taken_so : (v : UniqueAddress) (n : ℕ) (d w : Doing kept in_bytes)
    → w ≡ becomes (λ node. record node { taken = with_taken v n node.taken }) d → w ≡ taken_by v n (taking v n d.node.taken) d
taken_so v n d w h = h ∙ taken_same v n d (taking v n d.node.taken) refl

none_is : {X : Type 0} (o : Option X) → is_some o ≡ false → o ≡ None
none_is None h = refl
none_is (Some x) h = cc

-- Of an origin that is not known the first message is expected.
pub unknown_taking : (v : UniqueAddress) (n : ℕ) (es : List (UniqueAddress × ℕ)) (x : Take)
    → is_some (expected_of v es) ≡ false → x ≡ taking_at n 1 → x ≡ taking v n es
unknown_taking v n es x h e = e ∙ ap (λ (o : Option ℕ). taking_at n (unwrap_or o 1)) (sym (none_is (expected_of v es) h))

set_absent : {K V : Type 0} (test : K → Bool) (es : List (K × V)) (y : V) → lookup test es ≡ None → set_value test es y ≡ es
set_absent test [] y h = refl
set_absent {K} {V} test (e ∷ es) y h = by (test e.0) h (set_absent test es y)
  where
    by : (b : Bool) → cond b (Some e.1) (lookup test es) ≡ None → (lookup test es ≡ None → set_value test es y ≡ es) → cond b ((e.0, y) ∷ es) (e ∷ set_value test es y) ≡ e ∷ es
    by true here rest = absurd (true≢false (ap is_some here))
    by false there rest = ap (λ (r : List (K × V)). e ∷ r) (rest there)

unknown_same : (v : UniqueAddress) (n : ℕ) (es : List (UniqueAddress × ℕ)) → expected_of v es ≡ None → with_taken v n es ≡ es
unknown_same v n es h = by (is_expected n (next_of v es))
  where
    by : (b : Bool) → cond b (set_value (same_origin v) es (n + 1)) es ≡ es
    by true = set_absent (same_origin v) es (n + 1) h
    by false = refl

-- Of such an origin nothing is kept.
pub unknown_taken : (v : UniqueAddress) (n : ℕ) (d : Doing kept in_bytes)
    → is_some (expected_of v d.node.taken) ≡ false → d ≡ taken_by v n (taking v n d.node.taken) d
unknown_taken v n d h =
    sym (ap (λ (t : List (UniqueAddress × ℕ)). record d { node = record d.node { taken = t } }) (unknown_same v n d.node.taken (none_is (expected_of v d.node.taken) h)))
    ∙ taken_same v n d (taking v n d.node.taken) refl

-- ---- what is kept for a peer

past_else : (n : ℕ) (k x : Kept) → acknowledgement n k ≡ Past → (if nat_lt (given k) n then k else x) ≡ k
past_else n k x h = by (nat_lt (given k) n) h
  where
    by : (b : Bool) → cond b Past (Cleared (n - k.acknowledged)) ≡ Past → cond b k x ≡ k
    by true h = refl
    by false h = cc

past_acknowledged : (n : ℕ) (k : Kept) → acknowledgement n k ≡ Past → kept_acknowledged n k ≡ k
past_acknowledged n k h = past_else n k _ h

past_refused : (n : ℕ) (k : Kept) → acknowledgement n k ≡ Past → kept_refused n k ≡ k
past_refused n k h = past_else n k (kept_rewound (kept_acknowledged n k)) h

cleared_same : (a : Address) (change : Kept → Kept) (n : ℕ) (d : Doing kept in_bytes)
    → ((k : Kept) → acknowledgement n k ≡ Past → change k ≡ k)
    → (x : Acked) → acknowledgement n (peer_at a d.node).out ≡ x
    → peer_becomes a (with_out change) d ≡ cleared_by a change x d
cleared_same a change n d stays (Cleared count) e = refl
cleared_same a change n d stays Past e =
    ap (λ (ps : List (Peer kept)). record d { node = record d.node { peers = ps } })
    (change_same (is_peer a) (with_out change) d.node.peers
    (λ p found. ap (λ (k : Kept). record p { out = k }) (stays p.out (ap (λ (o : Option (Peer kept)). acknowledgement n (or_else (new_peer a) o).out) (sym found) ∙ e))))

-- Messages that were acknowledged, or not.
pub acknowledged_so : (a : Address) (n : ℕ) (d w : Doing kept in_bytes) → w ≡ peer_becomes a (with_out (kept_acknowledged n)) d
    → w ≡ cleared_by a (kept_acknowledged n) (acknowledgement n (peer_at a d.node).out) d
acknowledged_so a n d w h = h ∙ cleared_same a (kept_acknowledged n) n d (past_acknowledged n) (acknowledgement n (peer_at a d.node).out) refl

pub refused_so : (a : Address) (n : ℕ) (d w : Doing kept in_bytes) → w ≡ peer_becomes a (with_out (kept_refused n)) d
    → w ≡ cleared_by a (kept_refused n) (acknowledgement n (peer_at a d.node).out) d
refused_so a n d w h = h ∙ cleared_same a (kept_refused n) n d (past_refused n) (acknowledgement n (peer_at a d.node).out) refl

-- ---- tables

-- What is the same of both kinds is that of each.
pub of_both : {T : Type 0} (kind : Kind) (t : T) → of_kind kind (of_each t) ≡ t
of_both Refs t = refl
of_both Manifests t = refl

not_adopted : (kind : Kind) (number : ℕ) (keys : List (List ℕ)) (values : List ℕ) (p : Peer kept) (x : Adopting)
    → adopted.adopting number (of_kind kind p.tables).number ≡ x
    → adopted.held_after x number keys values (of_kind kind p.tables) ≡ of_kind kind p.tables
    → with_adopted kind number keys values p ≡ p
not_adopted Refs number keys values p x e same =
    ap (λ (t : adopted.Held). record p { tables = record p.tables { refs = t } }) (ap (λ (y : Adopting). adopted.held_after y number keys values p.tables.refs) e ∙ same)
not_adopted Manifests number keys values p x e same =
    ap (λ (t : adopted.Held). record p { tables = record p.tables { manifests = t } }) (ap (λ (y : Adopting). adopted.held_after y number keys values p.tables.manifests) e ∙ same)

adopted_same : (a : Address) (kind : Kind) (number : ℕ) (keys : List (List ℕ)) (values : List ℕ) (d : Doing kept in_bytes) (x : Adopting)
    → adopted.adopting number (of_kind kind (peer_at a d.node).tables).number ≡ x
    → peer_becomes a (with_adopted kind number keys values) d ≡ adopted_by a kind number keys values x d
adopted_same a kind number keys values d adopting.Adopted e = refl
adopted_same a kind number keys values d adopting.Same e =
    ap (λ (ps : List (Peer kept)). record d { node = record d.node { peers = ps } })
    (change_same (is_peer a) (with_adopted kind number keys values) d.node.peers
    (λ p found. not_adopted kind number keys values p adopting.Same (ap (λ (o : Option (Peer kept)). adopted.adopting number (of_kind kind (or_else (new_peer a) o).tables).number) (sym found) ∙ e) refl))
adopted_same a kind number keys values d adopting.Older e =
    ap (λ (ps : List (Peer kept)). record d { node = record d.node { peers = ps } })
    (change_same (is_peer a) (with_adopted kind number keys values) d.node.peers
    (λ p found. not_adopted kind number keys values p adopting.Older (ap (λ (o : Option (Peer kept)). adopted.adopting number (of_kind kind (or_else (new_peer a) o).tables).number) (sym found) ∙ e) refl))

-- A table that was adopted, or not.
pub adopted_so : (a : Address) (kind : Kind) (number : ℕ) (keys : List (List ℕ)) (values : List ℕ) (d w : Doing kept in_bytes)
    → w ≡ peer_becomes a (with_adopted kind number keys values) d
    → w ≡ adopted_by a kind number keys values (adopted.adopting number (of_kind kind (peer_at a d.node).tables).number) d
adopted_so a kind number keys values d w h = h ∙ adopted_same a kind number keys values d (adopted.adopting number (of_kind kind (peer_at a d.node).tables).number) refl

unconfirmed : (number : ℕ) (k : announced.Kept) → announced.confirming number k ≡ confirming.NotAnnounced → announced.kept_confirmed number k ≡ k
unconfirmed number k h = by (announced.is_number number k.announced) h
  where
    by : (b : Bool) → cond b confirming.Confirmed confirming.NotAnnounced ≡ confirming.NotAnnounced
        → cond b (record k { announced = None; current = k.announced; first_older = k.current; second_older = k.first_older; third_older = k.second_older }) k ≡ k
    by true h = cc
    by false h = refl

not_confirmed : (kind : Kind) (number : ℕ) (o : Origin kept) → announced.confirming number (of_kind kind o.tables) ≡ confirming.NotAnnounced → with_confirmed kind number o ≡ o
not_confirmed Refs number o h = ap (λ (t : announced.Kept). record o { tables = record o.tables { refs = t } }) (unconfirmed number o.tables.refs h)
not_confirmed Manifests number o h = ap (λ (t : announced.Kept). record o { tables = record o.tables { manifests = t } }) (unconfirmed number o.tables.manifests h)

confirmed_same : (v : UniqueAddress) (kind : Kind) (number : ℕ) (d : Doing kept in_bytes) (x : Confirmed)
    → announced.confirming number (of_kind kind (origin_at v d.node).tables) ≡ x
    → origin_becomes v (with_confirmed kind number) d ≡ confirmed_by v kind number x d
confirmed_same v kind number d confirming.Confirmed e = refl
confirmed_same v kind number d confirming.NotAnnounced e =
    ap (λ (os : List (Origin kept)). record d { node = record d.node { origins = os } })
    (change_same (is_origin v) (with_confirmed kind number) d.node.origins
    (λ o found. not_confirmed kind number o (ap (λ (q : Option (Origin kept)). announced.confirming number (of_kind kind (or_else (new_origin d.node.moment v) q).tables)) (sym found) ∙ e)))

-- A table that was confirmed, or not.
pub confirmed_so : (v : UniqueAddress) (kind : Kind) (number : ℕ) (d w : Doing kept in_bytes)
    → w ≡ origin_becomes v (with_confirmed kind number) d
    → w ≡ confirmed_by v kind number (announced.confirming number (of_kind kind (origin_at v d.node).tables)) d
confirmed_so v kind number d w h = h ∙ confirmed_same v kind number d (announced.confirming number (of_kind kind (origin_at v d.node).tables)) refl

-- ---- names

-- Tables are shown by their numbers.
pub shown_so : (conn : ℕ) (refs manifests r m : Option ℕ) (d w : Doing kept in_bytes)
    → refs ≡ r → manifests ≡ m → w ≡ inbound_becomes conn (with_numbers refs manifests) d → w ≡ inbound_becomes conn (with_numbers r m) d
shown_so conn refs manifests r m d w e f h =
    h ∙ ap (λ (x : Option ℕ). inbound_becomes conn (with_numbers x manifests) d) e ∙ ap (λ (y : Option ℕ). inbound_becomes conn (with_numbers r y) d) f

who_stays : (kind : Kind) (name : NameOf) (o : Origin kept) → (with_counted kind name o).who ≡ o.who
who_stays kind (Index i) o = refl
who_stays kind (Literal []) o = refl
who_stays kind (Literal (b ∷ bs)) o = refl

-- Names that are counted in one go are counted one after the other.
pub counted_so : (v : UniqueAddress) (sender recipient manifest : NameOf) (d w : Doing kept in_bytes)
    → w ≡ origin_becomes v (λ o. with_counted Manifests manifest (with_counted Refs recipient (with_counted Refs sender o))) d
    → w ≡ origin_becomes v (with_counted Manifests manifest) (origin_becomes v (with_counted Refs recipient) (origin_becomes v (with_counted Refs sender) d))
counted_so v sender recipient manifest d w h =
    h ∙ ap (λ (os : List (Origin kept)). record d { node = record d.node { origins = os } })
    (sym (ap (change_first (is_origin v) (with_counted Manifests manifest))
    (change_twice (is_origin v) (with_counted Refs sender) (with_counted Refs recipient) d.node.origins (λ o. ap (λ who. same_unique who v) (who_stays Refs sender o)))
    ∙ change_twice (is_origin v) (λ o. with_counted Refs recipient (with_counted Refs sender o)) (with_counted Manifests manifest) d.node.origins
    (λ o. ap (λ who. same_unique who v) (who_stays Refs recipient (with_counted Refs sender o) ∙ who_stays Refs sender o))))
