-- A network beside what is in flight in it: what comes to a node keeps the facts of all.
use Rattle.std.proofs.Common.{◌≡◌, ℕ, ◌≤◌, true, false, List, ◌++◌, take, drop, refl, sym, ◌∙◌, ap, subst, arith, append_assoc, take-append-drop}
use Rattle.std.specs.Prelude.{Option, None, Some, ◌==◌}
use Rattle.std.specs.List.{find, list_any}
use Rattle.artery_base.specs.Words.{IsPrefix}
use Rattle.artery_base.specs.declared.address.UniqueAddress.{UniqueAddress}
use Rattle.artery_journal.specs.declared.line.Line.{Line}
use Rattle.artery_machine.specs.declared.input.Input.{Input}
use Rattle.artery_machine.specs.declared.input.Input.TheVariants as inputs
use Rattle.artery_machine.specs.Parts.{whole}
use Rattle.artery_machine.specs.Ways.{Wrote, bytes_on}
use Rattle.artery_machine.specs.Connections.{is_inward}
use Rattle.artery_machine.specs.Node.{Node, Inbound, of_each, is_number}
use Rattle.artery_machine.specs.Doing.{Doing, listed}
use Rattle.artery_machine.specs.Reacting.{step}
use Rattle.artery_machine.specs.World.{Live, has_uid, with_node, live_of, by_found, node_becomes, each, does, follows, gives, was_started}
use Rattle.artery_flight.specs.Answers.{IsReadBack}
use Rattle.artery_flight.proofs.Lists.{each_of, each_find, each_single, count, count_found, find_passes}
use Rattle.artery_flight.proofs.Grow.{AllRead, each_front, read_before, one_placed}
use Rattle.artery_flight.proofs.Facts.{ConnFacts, Grow}
use Rattle.artery_flight.proofs.Deeds.{only}
use Rattle.artery_flight.proofs.Rules.{bytes_in, bytes_at}
use Rattle.artery_flight.proofs.Inward.{BytesFrom, Reacted}
use Rattle.artery_flight.proofs.Feeding.{Rest, IsHeard}
use Rattle.artery_flight.proofs.Networks.{LiveFacts, Going, HoldsBut}
use Rattle.artery_flight.proofs.Coming.{Gave, Arrives, Came, Leaves, deeds_leave, go_outside, step_kept, gives_came}
use Rattle.artery_names.proofs.Lists.{eq_true, eq_self, eq_not, Each, each_weaker, each_get}
use Rattle.artery_names.proofs.Talks.{adopted_by, name_by, SameTalk, same_said}
use Rattle.artery_names.proofs.Facts.{Network, Conn, journal, IsLawful, Out, NodeFacts, Good}
use Rattle.artery_names.proofs.Growing.{Grown, Still, Along, along_wider}
use Rattle.artery_names.proofs.Plain.{same_node, node_plain, out_plain}
use Rattle.artery_names.proofs.Later.{others_later}
use Rattle.artery_names.proofs.Keeping.{nowhere}
use Rattle.artery_names.proofs.Giving.{MadeJustNow}
use Rattle.artery_names.proofs.Ticking.{Carrying}
use Rattle.artery_names.proofs.Reacting.{Counts, Ready, Reacts, reacts_kept}
use Rattle.artery_names.proofs.Reacting as coming
use Rattle.artery_names.proofs.Streams.{arrives_so, carries_so}
use Rattle.artery_names.proofs.Rules.{Work}

-- ---- what holds of a network

-- The facts of a node, with how much was given to it.
pub record NodeNames (nobody : UniqueAddress) (cs : List Conn) (ls : List Line) (n : Node whole) : Type 0 where
  pub given : ℕ → ℕ
  pub facts : NodeFacts nobody n.me.uid given nowhere n cs ls
  pub counts : Counts given n

pub record Names (nobody : UniqueAddress) (w : Network) : Type 0 where
  pub lawful : IsLawful (journal w)
  pub out : w.ended ≡ None → Out nobody w.connections (journal w)
  pub lives : w.ended ≡ None → Each (λ (l : Live whole). NodeNames nobody w.connections (journal w) l.node) w.live
  pub silent : w.ended ≡ None → (y : ℕ) → was_started y w ≡ false → (a b : UniqueAddress) → a.uid ≡ y → adopted_by a b (journal w) ≡ of_each 0
  pub named : w.ended ≡ None → (y : ℕ) → was_started y w ≡ true → (name_by nobody y (journal w)).uid ≡ y

-- What is in flight, where some bytes are still to be given, and where all frames are read back the names.
pub record Both (nobody : UniqueAddress) (r : Rest) (w : Network) : Type 0 where
  pub holds : HoldsBut r w
  pub names : AllRead w.connections → Names nobody w

-- ---- what changes nothing of these

pub read_along : (cs ds : List Conn) → Along Grown cs ds → AllRead ds → AllRead cs
read_along cs ds l h = each_of (λ (c : Conn). Each (λ (x : Wrote). IsReadBack c.dialer x.writing) c.way.all) cs (λ i c e.
    (let f = l.forth i c e in
    each_front (λ (x : Wrote). IsReadBack c.dialer x.writing) c.way.all f.next.way.all f.so.more
    (subst (λ (u : ℕ). Each (λ (x : Wrote). IsReadBack u x.writing) f.next.way.all) f.so.dialer (each_get (λ (d : Conn). Each (λ (x : Wrote). IsReadBack d.dialer x.writing) d.way.all) ds i f.next h f.is))))

pub record Quiet (w v : Network) : Type 1 where
  pub conns : Along Still w.connections v.connections
  pub talk : SameTalk (journal w) (journal v)
  pub lawful : IsLawful (journal w) → IsLawful (journal v)
  pub live : (P : Live whole → Type 0) → Each P w.live → Each P v.live
  pub started : v.started ≡ w.started
  pub going : v.ended ≡ None → w.ended ≡ None

pub quiet_names : (nobody : UniqueAddress) (w v : Network) → Quiet w v → Names nobody w → Names nobody v
quiet_names nobody w v q h = record {
  lawful = q.lawful h.lawful;
  out = λ e. out_plain nobody w.connections v.connections (journal w) (journal v) q.conns (same_said (journal w) (journal v) q.talk) (h.out (q.going e));
  lives = λ e. q.live (λ (l : Live whole). NodeNames nobody v.connections (journal v) l.node) (each_weaker _ _ (λ (l : Live whole) n. record {
    given = n.given;
    facts = node_plain nobody l.node.me.uid n.given nowhere l.node l.node w.connections v.connections (journal w) (journal v) (same_node l.node) q.talk q.conns n.facts;
    counts = n.counts;
  }) w.live (h.lives (q.going e)));
  silent = λ e y s a b t. q.talk.adopted a b ∙ h.silent (q.going e) y (ap (λ us. list_any (λ other. other == y) us) (sym q.started) ∙ s) a b t;
  named = λ e y s. ap (λ (x : UniqueAddress). x.uid) (q.talk.name nobody y) ∙ h.named (q.going e) y (ap (λ us. list_any (λ other. other == y) us) (sym q.started) ∙ s);
}

pub quiet_both : (nobody : UniqueAddress) (r s : Rest) (w v : Network) → Quiet w v → HoldsBut s v → Both nobody r w → Both nobody s v
quiet_both nobody r s w v q h b = record {
  holds = h;
  names = λ all. quiet_names nobody w v q (b.names (read_along w.connections v.connections (along_wider Still Grown (λ c d x. x.grown) w.connections v.connections q.conns) all));
}

-- ---- what must be true for what comes

front_piece : (c : Conn) (bytes piece left : List ℕ) → bytes ++ (piece ++ left) ≡ take c.way.delivered (bytes_on c.way) → IsPrefix (bytes ++ piece) (bytes_on c.way)
front_piece c bytes piece left e = (
  left ++ drop c.way.delivered (bytes_on c.way),
  sym (append_assoc (bytes ++ piece) left (drop c.way.delivered (bytes_on c.way)))
      ∙ ap (λ bs. bs ++ drop c.way.delivered (bytes_on c.way)) (append_assoc bytes piece left ∙ e)
      ∙ take-append-drop c.way.delivered (bytes_on c.way),
)

front_bytes : (c : Conn) (bytes left : List ℕ) → bytes ++ left ≡ take c.way.delivered (bytes_on c.way) → IsPrefix bytes (bytes_on c.way)
front_bytes c bytes left e = (
  left ++ drop c.way.delivered (bytes_on c.way),
  sym (append_assoc bytes left (drop c.way.delivered (bytes_on c.way)))
      ∙ ap (λ bs. bs ++ drop c.way.delivered (bytes_on c.way)) e
      ∙ take-append-drop c.way.delivered (bytes_on c.way),
)

-- what is needed besides where a connection comes in
abbrev pub Besides : UniqueAddress → ℕ → Input → Network → Type 0
Besides nobody u (inputs.Accepted k) w = AllRead w.connections → MadeJustNow nobody u k w.connections (journal w)
Besides nobody u _ w = Unit {0}

abbrev pub HeardAt : ℕ → Node whole → Rest → Network → Type 0
HeardAt u n r w = (k : ℕ) (bytes : List ℕ) → bytes_at k n ≡ Some bytes → IsHeard u k bytes (r u k) w.connections

module _ (nobody : UniqueAddress) (u : ℕ) (given : ℕ → ℕ) (r s : Rest) (n : Node whole) (w : Network) (all : AllRead w.connections) (conns : Each (ConnFacts w.connections) w.connections) (heard : HeardAt u n r w) where
  bytes_ready : (k : ℕ) (piece : List ℕ) → r u k ≡ piece ++ s u k → (bytes : List ℕ) → bytes_at k n ≡ Some bytes → coming.Arrives u k piece bytes w.connections
  bytes_ready k piece e bytes b =
      let o : IsHeard u k bytes (r u k) w.connections = heard k bytes b in
      let spot = one_placed (is_inward u k) (λ (c : Conn). bytes ++ r u k ≡ take c.way.delivered (bytes_on c.way)) w.connections o in
      let c : Conn = spot.element in
      let had : bytes ++ r u k ≡ take c.way.delivered (bytes_on c.way) = each_get (λ (d : Conn). is_inward u k d ≡ true → bytes ++ r u k ≡ take d.way.delivered (bytes_on d.way)) w.connections spot.place c o.holds spot.here spot.passes in
      let f : ConnFacts w.connections c = each_get (ConnFacts w.connections) w.connections spot.place c conns spot.here in
      let read : Each (λ (x : Wrote). IsReadBack c.dialer x.writing) c.way.all = each_get (λ (d : Conn). Each (λ (x : Wrote). IsReadBack d.dialer x.writing) d.way.all) w.connections spot.place c all spot.here in
      arrives_so u k w.connections spot.place c spot.here spot.passes all f.flies.written read f.said bytes piece (s u k) (front_piece c bytes piece (s u k) (ap (λ bs. bytes ++ bs) (sym e) ∙ had))

  tick_ready : (is : List (Inbound whole)) → Counts given n → ((j : ℕ) (bytes : List ℕ) → bytes_in (find (is_number j) is) ≡ Some bytes → bytes_at j n ≡ Some bytes) → Carrying u given is w.connections
  tick_ready is counts from = record {
    at = λ x i e some place c at t.
        (let b : bytes_at x n ≡ Some i.bytes = from x i.bytes (ap bytes_in e) in
        let had : i.bytes ++ r u x ≡ take c.way.delivered (bytes_on c.way) = each_get (λ (d : Conn). is_inward u x d ≡ true → i.bytes ++ r u x ≡ take d.way.delivered (bytes_on d.way)) w.connections place c (heard x i.bytes b).holds at t in
        let f : ConnFacts w.connections c = each_get (ConnFacts w.connections) w.connections place c conns at in
        let read : Each (λ (y : Wrote). IsReadBack c.dialer y.writing) c.way.all = each_get (λ (d : Conn). Each (λ (y : Wrote). IsReadBack d.dialer y.writing) d.way.all) w.connections place c all at in
        carries_so c f.flies.written read i.bytes (front_bytes c i.bytes (r u x) had) (subst (λ (y : ℕ). 1 ≤ y) (counts x i.bytes b) some));
  }

  is_ready : (input : Input) (after : Node whole) → Counts given n → Gave u input r s → Besides nobody u input w → ((j : ℕ) (bytes : List ℕ) → bytes_at j after ≡ Some bytes → BytesFrom input j bytes n) → Ready nobody u given input n after w
  is_ready (inputs.Request request) after c g b f = tt
  is_ready (inputs.Accepted k) after c g b f = b all
  is_ready (inputs.Dialed dial) after c g b f = tt
  is_ready (inputs.DialFailed dial) after c g b f = tt
  is_ready (inputs.Bytes k piece) after c g b f = bytes_ready k piece g.0
  is_ready (inputs.Ended side) after c g b f = tt
  is_ready (inputs.Tick now) after c g b f = tick_ready after.inbound c f

-- ---- what comes to a node

outside_reacts : (nobody : UniqueAddress) (u : ℕ) (input : Input) (n : Node whole) (w : Network) (given : ℕ → ℕ) → Counts given n → Ready nobody u given input n (step input n).node w → ((j : ℕ) (bytes : List ℕ) → bytes_at j (step input n).node ≡ Some bytes → BytesFrom input j bytes n)
    → Good nobody u given nowhere n w → Reacts nobody u w (step input n).node (each (step input n).deeds (does u (step input n).node.moment) w)
outside_reacts nobody u input n w given c r f g =
    let m : ℕ = (step input n).node.moment in
    let e = go_outside u m input n w in
    subst (λ (d : Work u m). Reacts nobody u w d.node d.deeds) e
    (reacts_kept input (record { node = n; deeds = w }) c
    (subst (λ (d : Work u m). Ready nobody u given input n d.node w) (sym e) r)
    (subst (λ (d : Work u m). (j : ℕ) (bytes : List ℕ) → bytes_at j d.node ≡ Some bytes → BytesFrom input j bytes n) (sym e) f) g)

module _ (nobody : UniqueAddress) (u : ℕ) (input : Input) (r s : Rest) (w : Network) (l : Live whole) (found : live_of u w ≡ Some l) (live : w.ended ≡ None) (a : Arrives u input s w) (gave : Gave u input r s) (h : HoldsBut r w) (all : AllRead w.connections) (b : Besides nobody u input w) (names : Names nobody w) where
  is_u : l.node.me.uid ≡ u
  is_u = eq_true l.node.me.uid u (find_passes (has_uid u) w.live l found)

  abbrev done : Doing whole listed
  done = step input l.node

  abbrev w1 : Network
  w1 = node_becomes u (step input l.node).node w

  abbrev v : Network
  v = each (step input l.node).deeds (does u (step input l.node).node.moment) (node_becomes u (step input l.node).node w)

  going : Going r w
  going = h.going live

  reacted : Reacted u input l.node w1 done.node v
  reacted = step_kept u input r s w l found a gave h

  its : NodeNames nobody w.connections (journal w) l.node
  its = each_find (λ (x : Live whole). NodeNames nobody w.connections (journal w) x.node) (has_uid u) w.live l (names.lives live) found

  heard : HeardAt u l.node r w
  heard = subst (λ (x : ℕ). HeardAt x l.node r w) is_u ((each_find (LiveFacts r w) (has_uid u) w.live l (h.going live).live found).heard all)

  ready : Ready nobody u its.given input l.node done.node w1
  ready = moved input (is_ready nobody u its.given r s l.node w all h.out.conns heard input done.node its.counts gave b reacted.bytes)
    where
      moved : (i : Input) → Ready nobody u its.given i l.node done.node w → Ready nobody u its.given i l.node done.node w1
      moved (inputs.Request request) x = x
      moved (inputs.Accepted k) x = x
      moved (inputs.Dialed dial) x = x
      moved (inputs.DialFailed dial) x = x
      moved (inputs.Bytes k piece) x = x
      moved (inputs.Ended side) x = x
      moved (inputs.Tick now) x = x

  result : Reacts nobody u w1 done.node v
  result = outside_reacts nobody u input l.node w1 its.given its.counts ready reacted.bytes
      (record { lawful = names.lawful; out = names.out; node = λ e. subst (λ (x : ℕ). NodeFacts nobody x its.given nowhere l.node w.connections (journal w)) is_u its.facts })

  leaves : Leaves w1 v
  leaves = deeds_leave u (step input l.node).node.moment (step input l.node).deeds w1

  apart : (y : ℕ) → was_started y w ≡ false → y ≡ u → ⊥
  apart y t j =
      let c : 1 ≤ count (has_uid y) w.live = count_found (has_uid y) (has_uid u) w.live l found (ap (λ (x : ℕ). x == y) is_u ∙ ap (λ (x : ℕ). x == y) (sym j) ∙ eq_self y) in
      let z : count (has_uid y) w.live ≡ 0 = (going.unstarted y t).live in
      (let f : ⊥ = omega arith in f)

  pub follows_names : Names nobody v
  follows_names = record {
    lawful = result.kept.good.lawful;
    out = result.kept.good.out;
    lives = λ e. subst (λ ls. Each (λ (x : Live whole). NodeNames nobody v.connections (journal v) x.node) ls) (sym leaves.live)
        (each_single (λ (x : Live whole). NodeNames nobody w.connections (journal w) x.node) (λ (x : Live whole). NodeNames nobody v.connections (journal v) x.node) (has_uid u) (with_node done.node) w.live (going.alone u)
        (λ x i k. record {
          given = result.given;
          facts = (let f : NodeFacts nobody u result.given nowhere done.node v.connections (journal v) = result.kept.good.node e in
              subst (λ (y : ℕ). NodeFacts nobody y result.given nowhere done.node v.connections (journal v)) (sym f.uid) f);
          counts = result.counts;
        })
        (λ x i k. record {
          given = k.given;
          facts = others_later nobody u w1 v result.kept.later x.node.me.uid k.given nowhere x.node (λ j. eq_not x.node.me.uid u i j) (names.out live) k.facts;
          counts = k.counts;
        }) (names.lives live));
    silent = λ e y t x z q. (let before : was_started y w ≡ false = ap (λ us. list_any (λ other. other == y) us) (sym leaves.started) ∙ t in
        result.kept.later.adopted x z (λ o. apart y before (sym q ∙ o)) ∙ names.silent live y before x z q);
    named = λ e y t. ap (λ (x : UniqueAddress). x.uid) (result.kept.later.name y) ∙ names.named live y (ap (λ us. list_any (λ other. other == y) us) (sym leaves.started) ∙ t);
  }

-- something comes to a node, where it lives
pub gives_both : (nobody : UniqueAddress) (u : ℕ) (input : Input) (r s : Rest) (w : Network) → w.ended ≡ None → ((q : Live whole) → live_of u w ≡ Some q → Arrives u input s w) → (live_of u w ≡ None → HoldsBut s w) → Gave u input r s → Besides nobody u input w → Both nobody r w
    → Both nobody s (gives u input w)
gives_both nobody u input r s w live a absent gave b h = by (live_of u w) refl
  where
    came : Came s u w (gives u input w)
    came = gives_came u input r s w a absent gave h.holds

    by : (x : Option (Live whole)) → live_of u w ≡ x → Both nobody s (by_found (λ l. follows u (step input l.node)) x w)
    by None e = record { holds = absent e; names = h.names }
    by (Some l) e = record {
      holds = subst (λ (x : Option (Live whole)). HoldsBut s (by_found (λ l. follows u (step input l.node)) x w)) e came.holds;
      names = λ all. (let before : AllRead w.connections = read_before (only u) w.connections (follows u (step input l.node) w).connections
          (subst (λ (x : Option (Live whole)). Grow (only u) w.connections (by_found (λ l. follows u (step input l.node)) x w).connections) e came.conns) all in
          follows_names nobody u input r s w l e live (a l e) gave h.holds before b (h.names before));
    }
