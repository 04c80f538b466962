-- What the lines of one incarnation are in the journal of a network: the first of a story of a node by itself, which may have ended.
use Rattle.std.proofs.Common.{◌≡◌, ◌≤◌, ℕ, zero, suc, ◌+◌, Bool, true, false, cond, List, [], ◌∷◌, ◌++◌, length, refl, ap, sym, ◌∙◌, subst, true≢false, arith, append_assoc, append-nil}
use Rattle.std.proofs.lemmas.Bool.Decides.{nat_tests}
use Rattle.std.specs.Prelude.{◌&&◌, ◌||◌, ◌==◌, nat_lt, nat_le, not, filter, is_none, is_some, take, position, slice_get, Option, Some, None, unwrap_or}
use Rattle.std.specs.List.{find, list_any}
use Rattle.std.specs.Option.{option_map}
use Rattle.artery_base.specs.declared.address.UniqueAddress.{UniqueAddress}
use Rattle.artery_journal.specs.declared.line.Line.{Line}
use Rattle.artery_journal.specs.declared.line.Line.TheVariants as lines
use Rattle.artery_judge.specs.Lines.{Entry, same}
use Rattle.artery_script.specs.declared.event.Event.{Event}
use Rattle.artery_script.specs.declared.event.Event.TheVariants as events
use Rattle.artery_script.specs.declared.script.ScriptLine.{ScriptLine}
use Rattle.artery_machine.specs.Lists.{change_first}
use Rattle.artery_machine.specs.declared.input.Conn.TheVariants.{Outward, Inward}
use Rattle.artery_machine.specs.declared.input.Input.{Input}
use Rattle.artery_machine.specs.declared.input.Input.TheVariants as inputs
use Rattle.artery_machine.specs.declared.world.Outcome.{Outcome}
use Rattle.artery_machine.specs.declared.world.Outcome.TheVariants as outcomes
use Rattle.artery_machine.specs.declared.world.Why.{Why}
use Rattle.artery_machine.specs.declared.world.Why.TheVariants as why
use Rattle.artery_machine.specs.declared.world.WorldLimit.{WorldLimit}
use Rattle.artery_machine.specs.declared.world.WorldLimit.TheVariants as limits
use Rattle.artery_machine.specs.declared.world.WorldFault.{WorldFault}
use Rattle.artery_machine.specs.Deeds.{Deed, Writing, Dials, Writes, Hangs, Tells, bytes_of}
use Rattle.artery_machine.specs.Parts.{Parts}
use Rattle.artery_machine.specs.Ways.{Ways}
use Rattle.artery_machine.specs.Node.{Node, new_node}
use Rattle.artery_machine.specs.Reacting.{starts, step}
use Rattle.artery_machine.specs.Connections.{Connection, undelivered_on, load, is_loaded, with_delivered, near_ended, far_ended, with_writing, place_dialed, place_inward, far_open}
use Rattle.artery_machine.specs.World.{Live, Pending, World, nothing, Change, ◌⟫◌, pieces, first_of, unless, of_live, has_uid, with_node, one_more, going_on, ends, stays, by_found, each, each_place, times, live_of, live_at, connection_at, connection_becomes, by_connection, comes_out, is_too_much, writes, does, node_becomes, follows, gives, was_started, with_started, starts_with, most_nodes, stops_one, joins, connects, most_connections, answers, settled, settles, no_longer, by_pending_at, by_pending, is_pending, fails, carries, cuts, ends_far, where_it, for_each, carries_all, settles_first, settles_next, passes_once, refusal, happens, unless_refused, applies}
use Rattle.artery_machine.specs.Playing.{plays, run, goes_on, fault_of}
use Rattle.artery_alone.specs.Alone.{lines_of, story, moment_then, AreInOrder, Law, close_law, watch_law, stopped_law, moment_law, Keeps}
use Rattle.artery_alone.specs.Network.{journal_of, journal}
use Rattle.artery_alone.proofs.Names.{unique_is, unique_self, number_is, number_self}
use Rattle.artery_alone.proofs.Journals.{AllOf}
use Rattle.artery_alone.proofs.Taking.{Counting}
use Rattle.artery_alone.proofs.Own.{of_one, of_both, OfOne, keeps_by_one, close_of_one, watch_of_one, stopped_of_one, moment_of_one}
use Rattle.artery_alone.proofs.Ending.{all_before, own_all, others_none, node_after, lines_then, node_more, story_more, order_then, lines_own, mine_then, full, full_close, full_watch, full_stopped, full_moment}

-- ---- who lives

abbrev pub node_in : {P : Parts} → ℕ → List (Live P) → Option (Node P)
node_in uid ls = option_map (λ l. l.node) (find (has_uid uid) ls)

abbrev pub is_started : ℕ → List ℕ → Bool
is_started uid started = list_any (λ other. other == uid) started

some_node : {P : Parts} (x y : Node P) → Some x ≡ Some y → x ≡ y
some_node {P} x y e = ap (λ (o : Option (Node P)). unwrap_or o x) e

module _ {P : Parts} where
  node_key : (uid : ℕ) (ls : List (Live P)) (n : Node P) → node_in uid ls ≡ Some n → n.me.uid ≡ uid
  node_key uid [] n h = absurd cc
  node_key uid (l ∷ ls) n h = by (l.node.me.uid == uid) refl h (node_key uid ls n)
    where
      by : (b : Bool) → (l.node.me.uid == uid) ≡ b → option_map (λ (x : Live P). x.node) (cond b (Some l) (find (has_uid uid) ls)) ≡ Some n → (node_in uid ls ≡ Some n → n.me.uid ≡ uid) → n.me.uid ≡ uid
      by true t e rest = ap (λ (x : Node P). x.me.uid) (sym (some_node l.node n e)) ∙ number_is l.node.me.uid uid t
      by false t e rest = rest e

  node_other : (uid x : ℕ) (n : Node P) → n.me.uid ≡ uid → (uid == x) ≡ false → (ls : List (Live P)) → node_in x (change_first (has_uid uid) (with_node n) ls) ≡ node_in x ls
  node_other uid x n k f [] = refl
  node_other uid x n k f (l ∷ ls) = by (l.node.me.uid == uid) refl (node_other uid x n k f ls)
    where
      pick : Bool → Live P → List (Live P) → Option (Node P)
      pick b m ms = option_map (λ (y : Live P). y.node) (cond b (Some m) (find (has_uid x) ms))

      later : (c : Bool) → node_in x (change_first (has_uid uid) (with_node n) ls) ≡ node_in x ls
          → option_map (λ (y : Live P). y.node) (cond c (Some l) (find (has_uid x) (change_first (has_uid uid) (with_node n) ls))) ≡ option_map (λ (y : Live P). y.node) (cond c (Some l) (find (has_uid x) ls))
      later true rest = refl
      later false rest = rest

      by : (b : Bool) → (l.node.me.uid == uid) ≡ b → node_in x (change_first (has_uid uid) (with_node n) ls) ≡ node_in x ls
          → node_in x (cond b (with_node n l ∷ ls) (l ∷ change_first (has_uid uid) (with_node n) ls)) ≡ node_in x (l ∷ ls)
      by true t rest =
          ap (λ b. option_map (λ (y : Live P). y.node) (cond b (Some (with_node n l)) (find (has_uid x) ls))) (ap (λ u. u == x) k ∙ f)
          ∙ sym (ap (λ b. option_map (λ (y : Live P). y.node) (cond b (Some l) (find (has_uid x) ls))) (ap (λ u. u == x) (number_is l.node.me.uid uid t) ∙ f))
      by false t rest = later (l.node.me.uid == x) rest

  node_here : (uid : ℕ) (n k : Node P) → n.me.uid ≡ uid → (ls : List (Live P)) → node_in uid ls ≡ Some k → node_in uid (change_first (has_uid uid) (with_node n) ls) ≡ Some n
  node_here uid n k e [] h = absurd cc
  node_here uid n k e (l ∷ ls) h = by (l.node.me.uid == uid) refl h (node_here uid n k e ls)
    where
      by : (b : Bool) → (l.node.me.uid == uid) ≡ b → option_map (λ (x : Live P). x.node) (cond b (Some l) (find (has_uid uid) ls)) ≡ Some k → (node_in uid ls ≡ Some k → node_in uid (change_first (has_uid uid) (with_node n) ls) ≡ Some n)
          → node_in uid (cond b (with_node n l ∷ ls) (l ∷ change_first (has_uid uid) (with_node n) ls)) ≡ Some n
      by true t g rest = ap (λ b. option_map (λ (y : Live P). y.node) (cond b (Some (with_node n l)) (find (has_uid uid) ls))) (ap (λ u. u == uid) e ∙ number_self uid)
      by false t g rest = ap (λ b. option_map (λ (y : Live P). y.node) (cond b (Some l) (find (has_uid uid) (change_first (has_uid uid) (with_node n) ls)))) t ∙ rest g

  node_counted : (far x : ℕ) (ls : List (Live P)) → node_in x (change_first (has_uid far) one_more ls) ≡ node_in x ls
  node_counted far x [] = refl
  node_counted far x (l ∷ ls) = by (l.node.me.uid == far) (l.node.me.uid == x) (node_counted far x ls)
    where
      by : (b c : Bool) → node_in x (change_first (has_uid far) one_more ls) ≡ node_in x ls → node_in x (cond b (one_more l ∷ ls) (l ∷ change_first (has_uid far) one_more ls)) ≡ node_in x (l ∷ ls)
      by true c rest = at (l.node.me.uid == x)
        where
          at : (c : Bool) → option_map (λ (y : Live P). y.node) (cond c (Some (one_more l)) (find (has_uid x) ls)) ≡ option_map (λ (y : Live P). y.node) (cond c (Some l) (find (has_uid x) ls))
          at true = refl
          at false = refl
      by false c rest = at (l.node.me.uid == x) rest
        where
          at : (c : Bool) → node_in x (change_first (has_uid far) one_more ls) ≡ node_in x ls → option_map (λ (y : Live P). y.node) (cond c (Some l) (find (has_uid x) (change_first (has_uid far) one_more ls))) ≡ option_map (λ (y : Live P). y.node) (cond c (Some l) (find (has_uid x) ls))
          at true rest = refl
          at false rest = rest

  node_before : (x : ℕ) (new : Live P) → (new.node.me.uid == x) ≡ false → (ls : List (Live P)) → node_in x (ls ++ new ∷ []) ≡ node_in x ls
  node_before x new f [] = ap (λ b. option_map (λ (y : Live P). y.node) (cond b (Some new) None)) f
  node_before x new f (l ∷ ls) = by (l.node.me.uid == x) (node_before x new f ls)
    where
      by : (c : Bool) → node_in x (ls ++ new ∷ []) ≡ node_in x ls → option_map (λ (y : Live P). y.node) (cond c (Some l) (find (has_uid x) (ls ++ new ∷ []))) ≡ option_map (λ (y : Live P). y.node) (cond c (Some l) (find (has_uid x) ls))
      by true rest = refl
      by false rest = rest

  node_last : (x : ℕ) (new : Live P) → (new.node.me.uid == x) ≡ true → (ls : List (Live P)) → node_in x ls ≡ None → node_in x (ls ++ new ∷ []) ≡ Some new.node
  node_last x new f [] h = ap (λ b. option_map (λ (y : Live P). y.node) (cond b (Some new) None)) f
  node_last x new f (l ∷ ls) h = by (l.node.me.uid == x) h (node_last x new f ls)
    where
      by : (c : Bool) → option_map (λ (y : Live P). y.node) (cond c (Some l) (find (has_uid x) ls)) ≡ None → (node_in x ls ≡ None → node_in x (ls ++ new ∷ []) ≡ Some new.node)
          → option_map (λ (y : Live P). y.node) (cond c (Some l) (find (has_uid x) (ls ++ new ∷ []))) ≡ Some new.node
      by true e rest = absurd cc
      by false e rest = rest e

  node_left : (uid x : ℕ) → (uid == x) ≡ false → (ls : List (Live P)) → node_in x (filter (λ l. not (has_uid uid l)) ls) ≡ node_in x ls
  node_left uid x f [] = refl
  node_left uid x f (l ∷ ls) = by (l.node.me.uid == uid) refl (node_left uid x f ls)
    where
      later : (c : Bool) → node_in x (filter (λ m. not (has_uid uid m)) ls) ≡ node_in x ls → option_map (λ (y : Live P). y.node) (cond c (Some l) (find (has_uid x) (filter (λ m. not (has_uid uid m)) ls))) ≡ option_map (λ (y : Live P). y.node) (cond c (Some l) (find (has_uid x) ls))
      later true rest = refl
      later false rest = rest

      by : (b : Bool) → (l.node.me.uid == uid) ≡ b → node_in x (filter (λ m. not (has_uid uid m)) ls) ≡ node_in x ls
          → node_in x (cond (not b) (l ∷ filter (λ m. not (has_uid uid m)) ls) (filter (λ m. not (has_uid uid m)) ls)) ≡ node_in x (l ∷ ls)
      by true t rest = rest ∙ sym (ap (λ b. option_map (λ (y : Live P). y.node) (cond b (Some l) (find (has_uid x) ls))) (ap (λ u. u == x) (number_is l.node.me.uid uid t) ∙ f))
      by false t rest = later (l.node.me.uid == x) rest

  node_gone : (uid : ℕ) (ls : List (Live P)) → node_in uid (filter (λ l. not (has_uid uid l)) ls) ≡ None
  node_gone uid [] = refl
  node_gone uid (l ∷ ls) = by (l.node.me.uid == uid) refl (node_gone uid ls)
    where
      by : (b : Bool) → (l.node.me.uid == uid) ≡ b → node_in uid (filter (λ m. not (has_uid uid m)) ls) ≡ None → node_in uid (cond (not b) (l ∷ filter (λ m. not (has_uid uid m)) ls) (filter (λ m. not (has_uid uid m)) ls)) ≡ None
      by true t rest = rest
      by false t rest = ap (λ c. option_map (λ (y : Live P). y.node) (cond c (Some l) (find (has_uid uid) (filter (λ m. not (has_uid uid m)) ls)))) t ∙ rest

started_more : (x uid : ℕ) (xs : List ℕ) → is_started x (xs ++ uid ∷ []) ≡ false → (is_started x xs ≡ false) × ((uid == x) ≡ false)
started_more x uid [] h = (refl, sym (or_none (uid == x)) ∙ h)
  where
    or_none : (b : Bool) → (b || false) ≡ b
    or_none true = refl
    or_none false = refl
started_more x uid (y ∷ xs) h = by (y == x) h (started_more x uid xs)
  where
    by : (b : Bool) → (b || is_started x (xs ++ uid ∷ [])) ≡ false → (is_started x (xs ++ uid ∷ []) ≡ false → (is_started x xs ≡ false) × ((uid == x) ≡ false)) → ((b || is_started x xs) ≡ false) × ((uid == x) ≡ false)
    by true e rest = absurd (true≢false e)
    by false e rest = rest e

-- ---- lines

-- The lines of an incarnation in a journal are the first of a story of it, which may have ended.
pub record Fine (P : Parts) (a : UniqueAddress) (js : List Entry) : Type 0 where
  pub inputs : List Input
  pub over : Bool
  pub order : AreInOrder 0 inputs
  pub rest : List Entry
  pub is : of_one a js ++ rest ≡ full P a inputs over

-- They are the story of a node that lives.
pub record Lives {P : Parts} (n : Node P) (js : List Entry) : Type 0 where
  pub who : UniqueAddress
  pub mine : n.me ≡ who
  pub inputs : List Input
  pub order : AreInOrder 0 inputs
  pub node : node_after P who inputs ≡ n
  pub is : of_one who js ≡ story P who inputs

-- Each that lives has told its story, and one that was not started neither lives nor told a line.
pub record Going {P : Parts} (started : List ℕ) (live : List (Live P)) (js : List Entry) : Type 0 where
  pub lives : (uid : ℕ) (n : Node P) → node_in uid live ≡ Some n → Lives n js
  pub new : (a : UniqueAddress) → is_started a.uid started ≡ false → of_one a js ≡ []
  pub unborn : (uid : ℕ) → is_started uid started ≡ false → node_in uid live ≡ None

other_one : (a b : UniqueAddress) → (a.uid == b.uid) ≡ false → same a b ≡ false
other_one a b h = by (same a b) refl
  where
    by : (c : Bool) → same a b ≡ c → c ≡ false
    by true e = sym (number_self a.uid) ∙ ap (λ (x : UniqueAddress). a.uid == x.uid) (unique_is a b e) ∙ h
    by false e = refl

turned : (x y : ℕ) → (x == y) ≡ false → (y == x) ≡ false
turned x y h = grind (arith, nat_tests)

module _ {P : Parts} where
  fine_other : (b : UniqueAddress) (js done : List Entry) → of_one b done ≡ [] → Fine P b js → Fine P b (js ++ done)
  fine_other b js done e f = record { inputs = f.inputs; over = f.over; order = f.order; rest = f.rest; is = ap (λ x. x ++ f.rest) (of_both b js done ∙ ap (λ x. of_one b js ++ x) e ∙ append-nil (of_one b js)) ∙ f.is }

  lives_other : (n : Node P) (js done : List Entry) (v : Lives n js) → of_one v.who done ≡ [] → Lives n (js ++ done)
  lives_other n js done v e = record { who = v.who; mine = v.mine; inputs = v.inputs; order = v.order; node = v.node; is = of_both v.who js done ∙ ap (λ x. of_one v.who js ++ x) e ∙ append-nil (of_one v.who js) ∙ v.is }

-- ---- an input to one that lives

module _ {P : Parts} (tally : Counting P) (started : List ℕ) (live : List (Live P)) (js : List Entry) (g : Going started live js) (uid : ℕ) (n : Node P) (here : node_in uid live ≡ Some n)
    (input : Input) (timely : n.moment ≤ moment_then input n.moment) (done rest : List Entry) (all : lines_then input n ≡ done ++ rest) where
  lived : Lives n js
  lived = g.lives uid n here

  -- Its lines are its own.
  own_lines : AllOf lived.who (done ++ rest)
  own_lines = subst (AllOf lived.who) all (subst (λ (x : Node P). AllOf lived.who (lines_then input x)) lived.node (lines_own tally lived.who lived.inputs input))

  own_done : AllOf lived.who done
  own_done = all_before lived.who done rest own_lines

  order_is : AreInOrder 0 (lived.inputs ++ input ∷ [])
  order_is = order_then tally lived.who lived.inputs input lived.order (subst (λ (x : Node P). x.moment ≤ moment_then input x.moment) (sym lived.node) timely)

  node_is : node_after P lived.who (lived.inputs ++ input ∷ []) ≡ (step input n).node
  node_is = node_more lived.who lived.inputs input ∙ ap (λ (x : Node P). (step input x).node) lived.node

  mine_is : (step input n).node.me ≡ lived.who
  mine_is = ap (λ (x : Node P). x.me) (sym node_is) ∙ mine_then tally lived.who (lived.inputs ++ input ∷ [])

  story_is : story P lived.who (lived.inputs ++ input ∷ []) ≡ story P lived.who lived.inputs ++ (done ++ rest)
  story_is = story_more P lived.who lived.inputs input ∙ ap (λ x. story P lived.who lived.inputs ++ x) (ap (λ (x : Node P). lines_then input x) lived.node ∙ all)

  told_is : of_one lived.who (js ++ done) ≡ story P lived.who lived.inputs ++ done
  told_is = of_both lived.who js done ∙ ap (λ x. x ++ of_one lived.who done) lived.is ∙ ap (λ x. story P lived.who lived.inputs ++ x) (own_all lived.who done own_done)

  fine_then : (b : UniqueAddress) → Fine P b js → Fine P b (js ++ done)
  fine_then b f = by (same b lived.who) refl
    where
      by : (c : Bool) → same b lived.who ≡ c → Fine P b (js ++ done)
      by true e = subst (λ x. Fine P x (js ++ done)) (sym (unique_is b lived.who e)) (record {
        inputs = lived.inputs ++ input ∷ [];
        over = false;
        order = order_is;
        rest = rest;
        is = ap (λ x. x ++ rest) told_is ∙ append_assoc (story P lived.who lived.inputs) done rest ∙ sym story_is ∙ sym (append-nil (story P lived.who (lived.inputs ++ input ∷ [])));
      })
      by false e = fine_other b js done (others_none lived.who b done e own_done) f

  key_is : lived.who.uid ≡ uid
  key_is = ap (λ (x : UniqueAddress). x.uid) (sym lived.mine) ∙ node_key uid live n here

  new_key : (step input n).node.me.uid ≡ uid
  new_key = ap (λ (x : UniqueAddress). x.uid) mine_is ∙ key_is

  not_new : is_started uid started ≡ false → {X : Type 0} → X
  not_new h = absurd (true≢false (ap is_some (sym here ∙ g.unborn uid h)))

  going_then : rest ≡ [] → Going started (change_first (has_uid uid) (with_node (step input n).node) live) (js ++ done)
  going_then none = record {
    lives = λ x k e. lives_by x k (uid == x) refl e;
    new = λ b h. of_both b js done ∙ ap (λ y. y ++ of_one b done) (g.new b h) ∙ others_none lived.who b done (new_by b (same b lived.who) refl h) own_done;
    unborn = λ x h. unborn_by x (uid == x) refl h;
  }
    where
      lives_by : (x : ℕ) (k : Node P) (c : Bool) → (uid == x) ≡ c → node_in x (change_first (has_uid uid) (with_node (step input n).node) live) ≡ Some k → Lives k (js ++ done)
      lives_by x k true t e =
          let at : Some (step input n).node ≡ Some k = sym (node_here uid (step input n).node n new_key live here) ∙ ap (λ y. node_in y (change_first (has_uid uid) (with_node (step input n).node) live)) (number_is uid x t) ∙ e in
          subst (λ (y : Node P). Lives y (js ++ done)) (some_node (step input n).node k at) (record {
            who = lived.who;
            mine = mine_is;
            inputs = lived.inputs ++ input ∷ [];
            order = order_is;
            node = node_is;
            is = told_is ∙ ap (λ y. story P lived.who lived.inputs ++ y) (sym (append-nil done) ∙ ap (λ y. done ++ y) (sym none)) ∙ sym story_is;
          })
      lives_by x k false t e =
          let at : node_in x live ≡ Some k = sym (node_other uid x (step input n).node new_key t live) ∙ e in
          let v : Lives k js = g.lives x k at in
          let key : v.who.uid ≡ x = ap (λ (y : UniqueAddress). y.uid) (sym v.mine) ∙ node_key x live k at in
          let apart : (v.who.uid == lived.who.uid) ≡ false = ap (λ y. y == lived.who.uid) key ∙ ap (λ y. x == y) key_is ∙ turned uid x t in
          lives_other k js done v (others_none lived.who v.who done (other_one v.who lived.who apart) own_done)

      new_by : (b : UniqueAddress) (c : Bool) → same b lived.who ≡ c → is_started b.uid started ≡ false → c ≡ false
      new_by b true e h = not_new (ap (λ y. is_started y started) (sym key_is ∙ ap (λ (y : UniqueAddress). y.uid) (sym (unique_is b lived.who e))) ∙ h)
      new_by b false e h = refl

      unborn_by : (x : ℕ) (c : Bool) → (uid == x) ≡ c → is_started x started ≡ false → node_in x (change_first (has_uid uid) (with_node (step input n).node) live) ≡ None
      unborn_by x true t h = not_new (ap (λ y. is_started y started) (number_is uid x t) ∙ h)
      unborn_by x false t h = node_other uid x (step input n).node new_key t live ∙ g.unborn x h

-- ---- deeds that come to a network

module _ {P : Parts} {W : Ways} where
  -- A change after which the same live, with the same lines.
  pub record Still (w v : World P W) : Type 0 where
    pub node : (uid : ℕ) → node_in uid v.live ≡ node_in uid w.live
    pub started : v.started ≡ w.started
    pub journal : journal_of v.outcomes ≡ journal_of w.outcomes
    pub ended : v.ended ≡ None → w.ended ≡ None

  -- The first of these lines were told, and all of them unless the network ended.
  pub record Did (w v : World P W) (ls : List Entry) : Type 0 where
    pub done : List Entry
    pub rest : List Entry
    pub all : ls ≡ done ++ rest
    pub live : v.live ≡ w.live
    pub started : v.started ≡ w.started
    pub journal : journal_of v.outcomes ≡ journal_of w.outcomes ++ done
    pub ended : v.ended ≡ None → w.ended ≡ None
    pub whole : v.ended ≡ None → rest ≡ []

journal_line : (os : List Outcome) (m : ℕ) (line : Line) → journal_of (os ++ outcomes.Line m line ∷ []) ≡ journal_of os ++ (Some m, line) ∷ []
journal_line [] m line = refl
journal_line (outcomes.Line k l ∷ os) m line = ap (λ x. (Some k, l) ∷ x) (journal_line os m line)
journal_line (outcomes.Wrote uid dial bytes ∷ os) m line = journal_line os m line

journal_wrote : (os : List Outcome) (uid dial : ℕ) (bytes : List ℕ) → journal_of (os ++ outcomes.Wrote uid dial bytes ∷ []) ≡ journal_of os
journal_wrote [] uid dial bytes = refl
journal_wrote (outcomes.Line k l ∷ os) uid dial bytes = ap (λ x. (Some k, l) ∷ x) (journal_wrote os uid dial bytes)
journal_wrote (outcomes.Wrote u d b ∷ os) uid dial bytes = journal_wrote os uid dial bytes

-- What a deed that tells nothing leaves.
record Leaves {P : Parts} {W : Ways} (w v : World P W) : Type 0 where
  pub live : v.live ≡ w.live
  pub started : v.started ≡ w.started
  pub journal : journal_of v.outcomes ≡ journal_of w.outcomes
  pub ended : v.ended ≡ None → w.ended ≡ None

module _ {P : Parts} {W : Ways} where
  writes_leave : (uid dial : ℕ) (writing : Writing) (bytes : List ℕ) (place : ℕ) (c : Connection W) (w : World P W) → Leaves w (writes uid dial writing bytes place c w)
  writes_leave uid dial writing bytes place c w = by (not c.near_open) (is_too_much (length bytes) c w)
    where
      by : (a b : Bool) → Leaves w (cond a stays (cond b (ends limits.Undelivered) (connection_becomes (with_writing writing bytes) place ⟫ comes_out (outcomes.Wrote uid dial bytes))) w)
      by true b = record { live = refl; started = refl; journal = refl; ended = λ e. e }
      by false true = record { live = refl; started = refl; journal = refl; ended = λ e. absurd cc }
      by false false = record { live = refl; started = refl; journal = journal_wrote w.outcomes uid dial bytes; ended = λ e. e }

  -- Something that is done where a connection was found.
  found_leaves : (place : Option ℕ) (change : ℕ → Change P W) (w : World P W) → ((at : ℕ) → Leaves w (change at w)) → Leaves w (by_found change place w)
  found_leaves None change w h = record { live = refl; started = refl; journal = refl; ended = λ e. e }
  found_leaves (Some place) change w h = h place

  connection_leaves : (place : ℕ) (change : ℕ → Connection W → Change P W) (w : World P W) → ((c : Connection W) → Leaves w (change place c w)) → Leaves w (by_connection change place w)
  connection_leaves place change w h = by (connection_at place w)
    where
      by : (o : Option (Connection W)) → Leaves w (by_found (change place) o w)
      by None = record { live = refl; started = refl; journal = refl; ended = λ e. e }
      by (Some c) = h c

  -- Once a network has ended, nothing is done.
  each_over : {X : Type 0} (xs : List X) (change : X → Change P W) (w : World P W) (limit : WorldLimit) → w.ended ≡ Some limit → each xs change w ≡ w
  each_over [] change w limit e = refl
  each_over (x ∷ xs) change w limit e =
      ap (λ (o : Option WorldLimit). each xs change (cond (is_none o) (change x w) w)) e ∙ each_over xs change w limit e

  none_did : (w : World P W) (ls : List Entry) (limit : WorldLimit) → w.ended ≡ Some limit → Did w w ls
  none_did w ls limit e = record { done = []; rest = ls; all = refl; live = refl; started = refl; journal = sym (append-nil (journal_of w.outcomes)); ended = λ h. h; whole = λ h. absurd (let x : Some limit ≡ None = sym e ∙ h in cc) }

  told_first : (w v u : World P W) (m : ℕ) (line : Line) (ls : List Entry) → v.live ≡ w.live → v.started ≡ w.started → journal_of v.outcomes ≡ journal_of w.outcomes ++ (Some m, line) ∷ [] → (v.ended ≡ None → w.ended ≡ None) → Did v u ls → Did w u ((Some m, line) ∷ ls)
  told_first w v u m line ls live started is over d = record {
    done = (Some m, line) ∷ d.done;
    rest = d.rest;
    all = ap (λ x. (Some m, line) ∷ x) d.all;
    live = d.live ∙ live;
    started = d.started ∙ started;
    journal = d.journal ∙ ap (λ x. x ++ d.done) is ∙ append_assoc (journal_of w.outcomes) ((Some m, line) ∷ []) d.done;
    ended = λ h. over (d.ended h);
    whole = d.whole;
  }

  left_first : (w v u : World P W) (ls : List Entry) → Leaves w v → Did v u ls → Did w u ls
  left_first w v u ls l d = record {
    done = d.done;
    rest = d.rest;
    all = d.all;
    live = d.live ∙ l.live;
    started = d.started ∙ l.started;
    journal = d.journal ∙ ap (λ x. x ++ d.done) l.journal;
    ended = λ h. l.ended (d.ended h);
    whole = d.whole;
  }

  all_did : (uid m : ℕ) (deeds : List Deed) (w : World P W) → Did w (each deeds (does uid m) w) (lines_of m deeds)
  all_did uid m [] w = record { done = []; rest = []; all = refl; live = refl; started = refl; journal = sym (append-nil (journal_of w.outcomes)); ended = λ h. h; whole = λ h. refl }
  all_did uid m (deed ∷ deeds) w = by w.ended refl (all_did uid m deeds (does uid m deed w))
    where
      first : (x : Deed) → Did (does uid m x w) (each deeds (does uid m) (does uid m x w)) (lines_of m deeds) → Did w (each deeds (does uid m) (does uid m x w)) (lines_of m (x ∷ deeds))
      first (Dials dial address) d = left_first w (does uid m (Dials dial address) w) (each deeds (does uid m) (does uid m (Dials dial address) w)) (lines_of m deeds) (record { live = refl; started = refl; journal = refl; ended = λ e. e }) d
      first (Writes dial writing) d = left_first w (does uid m (Writes dial writing) w) (each deeds (does uid m) (does uid m (Writes dial writing) w)) (lines_of m deeds)
          (found_leaves (place_dialed uid dial w.connections) (by_connection (writes uid dial writing (bytes_of uid writing))) w
          (λ place. connection_leaves place (writes uid dial writing (bytes_of uid writing)) w (λ c. writes_leave uid dial writing (bytes_of uid writing) place c w))) d
      first (Hangs (Outward dial)) d = left_first w (does uid m (Hangs (Outward dial)) w) (each deeds (does uid m) (does uid m (Hangs (Outward dial)) w)) (lines_of m deeds)
          (found_leaves (place_dialed uid dial w.connections) (connection_becomes near_ended) w (λ place. record { live = refl; started = refl; journal = refl; ended = λ e. e })) d
      first (Hangs (Inward number)) d = left_first w (does uid m (Hangs (Inward number)) w) (each deeds (does uid m) (does uid m (Hangs (Inward number)) w)) (lines_of m deeds)
          (found_leaves (place_inward uid number w.connections) (connection_becomes far_ended) w (λ place. record { live = refl; started = refl; journal = refl; ended = λ e. e })) d
      first (Tells line) d = told_first w (does uid m (Tells line) w) (each deeds (does uid m) (does uid m (Tells line) w)) m line (lines_of m deeds) refl refl (journal_line w.outcomes m line) (λ e. e) d

      by : (o : Option WorldLimit) → w.ended ≡ o → Did (does uid m deed w) (each deeds (does uid m) (does uid m deed w)) (lines_of m deeds) → Did w (each (deed ∷ deeds) (does uid m) w) (lines_of m (deed ∷ deeds))
      by (Some limit) e d = subst (λ (v : World P W). Did w v (lines_of m (deed ∷ deeds))) (sym (each_over (deed ∷ deeds) (does uid m) w limit e)) (none_did w (lines_of m (deed ∷ deeds)) limit e)
      by None e d = subst (λ (o : Option WorldLimit). Did w (each deeds (does uid m) (cond (is_none o) (does uid m deed w) w)) (lines_of m (deed ∷ deeds))) (sym e) (first deed d)

-- ---- a network

-- The journal of a network is of stories, and each that lives has told its own, unless the network has ended.
pub record Right {P : Parts} {W : Ways} (w : World P W) : Type 0 where
  pub fine : (a : UniqueAddress) → Fine P a (journal_of w.outcomes)
  pub going : w.ended ≡ None → Going w.started w.live (journal_of w.outcomes)

-- A change that keeps this, where the network has not ended.
record Always {P : Parts} {W : Ways} (c : Change P W) : Type 0 where
  pub on : (w : World P W) → w.ended ≡ None → Right w → Right (c w)

module _ {P : Parts} {W : Ways} where
  right_still : (w v : World P W) → Still w v → Right w → Right v
  right_still w v s r = record {
    fine = λ a. subst (Fine P a) (sym s.journal) (r.fine a);
    going = λ e. let g : Going w.started w.live (journal_of w.outcomes) = r.going (s.ended e) in record {
      lives = λ uid n h. subst (Lives n) (sym s.journal) (g.lives uid n (sym (s.node uid) ∙ h));
      new = λ a h. ap (of_one a) s.journal ∙ g.new a (ap (is_started a.uid) (sym s.started) ∙ h);
      unborn = λ uid h. s.node uid ∙ g.unborn uid (ap (is_started uid) (sym s.started) ∙ h);
    };
  }

  going_right : (c : Change P W) → Always c → (w : World P W) → Right w → Right (going_on c w)
  going_right c a w r = by w.ended refl
    where
      by : (o : Option WorldLimit) → w.ended ≡ o → Right (going_on c w)
      by (Some limit) e = subst (λ (x : Option WorldLimit). Right (cond (is_none x) (c w) w)) (sym e) r
      by None e = subst (λ (x : Option WorldLimit). Right (cond (is_none x) (c w) w)) (sym e) (a.on w e r)

  each_right : {X : Type 0} (xs : List X) (c : X → Change P W) → ((x : X) → Always (c x)) → (w : World P W) → Right w → Right (each xs c w)
  each_right [] c a w r = r
  each_right (x ∷ xs) c a w r = each_right xs c a (going_on (c x) w) (going_right (c x) (a x) w r)

  places_right : (count first : ℕ) (c : ℕ → Change P W) → ((x : ℕ) → Always (c x)) → (w : World P W) → Right w → Right (each_place first count c w)
  places_right zero first c a w r = r
  places_right (suc count) first c a w r = places_right count (first + 1) c a (going_on (c first) w) (going_right (c first) (a first) w r)

  times_right : (count : ℕ) (c : Change P W) → Always c → (w : World P W) → Right w → Right (times count c w)
  times_right zero c a w r = r
  times_right (suc count) c a w r = times_right count c a (going_on c w) (going_right c a w r)

  stays_right : Always {P = P} {W = W} stays
  stays_right = record { on = λ w e r. r }

  found_right : {X : Type 0} (c : X → Change P W) (o : Option X) → ((x : X) → Always (c x)) → Always (by_found c o)
  found_right c None a = stays_right
  found_right c (Some x) a = a x

  connection_right : (c : ℕ → Connection W → Change P W) (place : ℕ) → ((at : ℕ) (x : Connection W) → Always (c at x)) → Always (by_connection c place)
  connection_right c place a = record { on = λ w e r. (found_right (c place) (connection_at place w) (a place)).on w e r }

  ends_right : (limit : WorldLimit) → Always {P = P} {W = W} (ends limit)
  ends_right limit = record { on = λ w e r. record { fine = r.fine; going = λ h. absurd (let x : Some limit ≡ None = h in cc) } }

-- ---- an input to a node of a network

timeless : (now : ℕ) → now ≤ now
timeless now = omega arith

module _ {P : Parts} {W : Ways} (tally : Counting P) where
  -- An input comes to one that lives, at no moment before its own.
  gives_timely : (uid : ℕ) (input : Input) (w : World P W) → w.ended ≡ None → ((l : Live P) → live_of uid w ≡ Some l → l.node.moment ≤ moment_then input l.node.moment) → Right w → Right (gives uid input w)
  gives_timely uid input w e timely r = by (live_of uid w) refl
    where
      given_to : (l : Live P) → live_of uid w ≡ Some l → Right (follows uid (step input l.node) w)
      given_to l h =
          let n : Node P = (step input l.node).node in
          let v : World P W = node_becomes uid n w in
          let u : World P W = each (step input l.node).deeds (does uid n.moment) v in
          let g : Going w.started w.live (journal_of w.outcomes) = r.going e in
          let here : node_in uid w.live ≡ Some l.node = ap (option_map (λ (x : Live P). x.node)) h in
          let d : Did v u (lines_of n.moment (step input l.node).deeds) = all_did uid n.moment (step input l.node).deeds v in
          record {
            fine = λ a. subst (Fine P a) (sym d.journal) (fine_then tally w.started w.live (journal_of w.outcomes) g uid l.node here input (timely l h) d.done d.rest d.all a (r.fine a));
            going = λ over.
                subst (λ (x : List Entry). Going u.started u.live x) (sym d.journal)
                (subst (λ (x : List (Live P)). Going u.started x (journal_of w.outcomes ++ d.done)) (sym d.live)
                (subst (λ (x : List ℕ). Going x (change_first (has_uid uid) (with_node n) w.live) (journal_of w.outcomes ++ d.done)) (sym d.started)
                (going_then tally w.started w.live (journal_of w.outcomes) g uid l.node here input (timely l h) d.done d.rest d.all (d.whole over))));
          }

      by : (o : Option (Live P)) → live_of uid w ≡ o → Right (by_found (λ l. follows uid (step input l.node)) o w)
      by None h = r
      by (Some l) h = given_to l h

  gives_right : (uid : ℕ) (input : Input) → ((now : ℕ) → now ≤ moment_then input now) → Always {P = P} {W = W} (gives uid input)
  gives_right uid input t = record { on = λ w e r. gives_timely uid input w e (λ l h. t l.node.moment) r }

  -- ---- dials and connections

  fails_right : (p : Pending) → Always {P = P} {W = W} (fails p)
  fails_right p = gives_right p.dialer (inputs.DialFailed p.dial) timeless

  connects_right : (uid dial far number : ℕ) → Always {P = P} {W = W} (connects uid dial far number)
  connects_right uid dial far number = record {
    on = λ w e r.
        let v : World P W = joins uid dial far number w in
        let s : Right v = right_still w v (record { node = λ x. node_counted far x w.live; started = refl; journal = refl; ended = λ h. h }) r in
        going_right (gives uid (inputs.Dialed dial)) (gives_right uid (inputs.Dialed dial) timeless) (gives far (inputs.Accepted number) v) ((gives_right far (inputs.Accepted number) timeless).on v e s);
  }

  answers_right : (p : Pending) (l : Live P) → Always {P = P} {W = W} (answers p l)
  answers_right p l = record { on = λ w e r. by (nat_lt (length w.connections) most_connections) w e r }
    where
      by : (b : Bool) (w : World P W) → w.ended ≡ None → Right w → Right (cond b (connects p.dialer p.dial l.node.me.uid (l.accepted + 1)) (ends limits.Connections) w)
      by true w e r = (connects_right p.dialer p.dial l.node.me.uid (l.accepted + 1)).on w e r
      by false w e r = (ends_right limits.Connections).on w e r

  settled_right : (p : Pending) (o : Option (Live P)) → Always {P = P} {W = W} (settled p o)
  settled_right p None = gives_right p.dialer (inputs.DialFailed p.dial) timeless
  settled_right p (Some l) = answers_right p l

  settles_right : (p : Pending) → Always {P = P} {W = W} (settles p)
  settles_right p = record { on = λ w e r. (settled_right p (live_at p.address w)).on w e r }

  pending_at_right : (c : Pending → Change P W) (place : ℕ) → ((p : Pending) → Always (c p)) → Always (by_pending_at c place)
  pending_at_right c place a = record { on = λ w e r. (found_right (λ p. no_longer place ⟫ c p) (slice_get w.pending place) (λ p. behind p)).on w e r }
    where
      behind : (p : Pending) → Always (no_longer place ⟫ c p)
      behind p = record { on = λ w e r. (a p).on (no_longer place w) e (right_still w (no_longer place w) (record { node = λ x. refl; started = refl; journal = refl; ended = λ h. h }) r) }

  pending_right : (uid dial : ℕ) (c : Pending → Change P W) → ((p : Pending) → Always (c p)) → Always (by_pending uid dial c)
  pending_right uid dial c a = record { on = λ w e r. (found_right (by_pending_at c) (position (is_pending uid dial) w.pending) (λ place. pending_at_right c place a)).on w e r }

  -- A connection changes, and then something is given.
  changed_right : (change : Connection W → Connection W) (place : ℕ) (c : Change P W) → Always c → Always (connection_becomes change place ⟫ c)
  changed_right change place c a = record { on = λ w e r. a.on (connection_becomes change place w) e (right_still w (connection_becomes change place w) (record { node = λ x. refl; started = refl; journal = refl; ended = λ h. h }) r) }

  carries_right : (count place : ℕ) (c : Connection W) → Always {P = P} {W = W} (carries count place c)
  carries_right count place c = changed_right (with_delivered count) place _ (record { on = λ w e r. each_right (pieces count (take count (undelivered_on c))) (λ piece. gives c.far (inputs.Bytes c.number piece)) (λ piece. gives_right c.far (inputs.Bytes c.number piece) timeless) w r })

  cuts_right : (place : ℕ) (c : Connection W) → Always {P = P} {W = W} (cuts place c)
  cuts_right place c = changed_right near_ended place _ (gives_right c.dialer (inputs.Ended (Outward c.dial)) timeless)

  ends_far_right : (place : ℕ) (c : Connection W) → Always {P = P} {W = W} (ends_far place c)
  ends_far_right place c = changed_right far_ended place _ (gives_right c.far (inputs.Ended (Inward c.number)) timeless)

  where_right : (test : Connection W → Bool) (c : ℕ → Connection W → Change P W) → ((at : ℕ) (x : Connection W) → Always (c at x)) → (place : ℕ) (x : Connection W) → Always (where_it test c place x)
  where_right test c a place x = by (test x)
    where
      by : (b : Bool) → Always (cond b (c place x) stays)
      by true = a place x
      by false = stays_right

  for_each_right : (test : Connection W → Bool) (c : ℕ → Connection W → Change P W) → ((at : ℕ) (x : Connection W) → Always (c at x)) → (w : World P W) → Right w → Right (for_each test c w)
  for_each_right test c a w r = places_right (length w.connections) 0 (by_connection (where_it test c)) (λ place. connection_right (where_it test c) place (where_right test c a)) w r

  carries_all_right : (place : ℕ) (c : Connection W) → Always {P = P} {W = W} (carries_all place c)
  carries_all_right place c = carries_right (load c) place c

  first_right : (ps : List Pending) → Always {P = P} {W = W} (settles_first ps)
  first_right [] = stays_right
  first_right (p ∷ rest) = record { on = λ w e r. (settles_right p).on (record w { pending = rest }) e (right_still w (record w { pending = rest }) (record { node = λ x. refl; started = refl; journal = refl; ended = λ h. h }) r) }

  next_right : Always {P = P} {W = W} settles_next
  next_right = record { on = λ w e r. (first_right w.pending).on w e r }

  passes_right : Always {P = P} {W = W} passes_once
  passes_right = record { on = λ w e r. going_right (for_each is_loaded carries_all) (record { on = λ v h s. for_each_right is_loaded carries_all carries_all_right v s }) (times (length w.pending) settles_next w) (times_right (length w.pending) settles_next next_right w r) }

-- ---- starts and stops

module _ {P : Parts} (tally : Counting P) (started : List ℕ) (live : List (Live P)) (js : List Entry) (g : Going started live js) (a : UniqueAddress) (fresh : is_started a.uid started ≡ false)
    (done rest : List Entry) (all : story P a [] ≡ done ++ rest) where
  begun_own : AllOf a (done ++ rest)
  begun_own = subst (AllOf a) all (unique_self a, tt)

  begun_done : AllOf a done
  begun_done = all_before a done rest begun_own

  begun_told : of_one a (js ++ done) ≡ done
  begun_told = of_both a js done ∙ ap (λ x. x ++ of_one a done) (g.new a fresh) ∙ own_all a done begun_done

  fine_begun : (b : UniqueAddress) → Fine P b js → Fine P b (js ++ done)
  fine_begun b f = by (same b a) refl
    where
      by : (c : Bool) → same b a ≡ c → Fine P b (js ++ done)
      by true e = subst (λ x. Fine P x (js ++ done)) (sym (unique_is b a e)) (record {
        inputs = [];
        over = false;
        order = tt;
        rest = rest;
        is = ap (λ x. x ++ rest) begun_told ∙ sym all ∙ sym (append-nil (story P a []));
      })
      by false e = fine_other b js done (others_none a b done e begun_done) f

  going_begun : rest ≡ [] → Going (started ++ a.uid ∷ []) (live ++ record { node = new_node a; accepted = 0 } ∷ []) (js ++ done)
  going_begun none = record {
    lives = λ x k e. lives_by x k (a.uid == x) refl e;
    new = λ b h. let s = started_more b.uid a.uid started h in of_both b js done ∙ ap (λ y. y ++ of_one b done) (g.new b s.0) ∙ others_none a b done (other_one b a (turned a.uid b.uid s.1)) begun_done;
    unborn = λ x h. let s = started_more x a.uid started h in node_before x (record { node = new_node a; accepted = 0 }) s.1 live ∙ g.unborn x s.0;
  }
    where
      lives_by : (x : ℕ) (k : Node P) (c : Bool) → (a.uid == x) ≡ c → node_in x (live ++ record { node = new_node a; accepted = 0 } ∷ []) ≡ Some k → Lives k (js ++ done)
      lives_by x k true t e =
          let none_lives : node_in x live ≡ None = ap (λ y. node_in y live) (sym (number_is a.uid x t)) ∙ g.unborn a.uid fresh in
          subst (λ (y : Node P). Lives y (js ++ done)) (some_node (new_node a) k (sym (node_last x (record { node = new_node a; accepted = 0 }) t live none_lives) ∙ e)) (record {
            who = a;
            mine = refl;
            inputs = [];
            order = tt;
            node = refl;
            is = begun_told ∙ sym (append-nil done) ∙ ap (λ y. done ++ y) (sym none) ∙ sym all;
          })
      lives_by x k false t e =
          let at : node_in x live ≡ Some k = sym (node_before x (record { node = new_node a; accepted = 0 }) t live) ∙ e in
          let v : Lives k js = g.lives x k at in
          let key : v.who.uid ≡ x = ap (λ (y : UniqueAddress). y.uid) (sym v.mine) ∙ node_key x live k at in
          lives_other k js done v (others_none a v.who done (other_one v.who a (ap (λ y. y == a.uid) key ∙ turned a.uid x t)) begun_done)

module _ {P : Parts} (started : List ℕ) (live : List (Live P)) (js : List Entry) (g : Going started live js) (uid : ℕ) (n : Node P) (here : node_in uid live ≡ Some n) where
  stopped_own : AllOf n.me ((Some n.moment, lines.Stopped n.me) ∷ [])
  stopped_own = (unique_self n.me, tt)

  fine_stopped : (b : UniqueAddress) → Fine P b js → Fine P b (js ++ (Some n.moment, lines.Stopped n.me) ∷ [])
  fine_stopped b f = by (same b n.me) refl
    where
      by : (c : Bool) → same b n.me ≡ c → Fine P b (js ++ (Some n.moment, lines.Stopped n.me) ∷ [])
      by true e =
          let v : Lives n js = g.lives uid n here in
          subst (λ x. Fine P x (js ++ (Some n.moment, lines.Stopped n.me) ∷ [])) (sym (unique_is b n.me e ∙ v.mine)) (record {
            inputs = v.inputs;
            over = true;
            order = v.order;
            rest = [];
            is = append-nil (of_one v.who (js ++ (Some n.moment, lines.Stopped n.me) ∷ []))
                ∙ of_both v.who js ((Some n.moment, lines.Stopped n.me) ∷ [])
                ∙ ap (λ x. x ++ of_one v.who ((Some n.moment, lines.Stopped n.me) ∷ [])) v.is
                ∙ ap (λ x. story P v.who v.inputs ++ of_one v.who ((Some n.moment, lines.Stopped x) ∷ [])) v.mine
                ∙ ap (λ x. story P v.who v.inputs ++ x) (own_all v.who ((Some n.moment, lines.Stopped v.who) ∷ []) (unique_self v.who, tt))
                ∙ ap (λ (x : Node P). story P v.who v.inputs ++ (Some x.moment, lines.Stopped v.who) ∷ []) (sym v.node);
          })
      by false e = fine_other b js ((Some n.moment, lines.Stopped n.me) ∷ []) (others_none n.me b ((Some n.moment, lines.Stopped n.me) ∷ []) e stopped_own) f

  stopped_key : n.me.uid ≡ uid
  stopped_key = node_key uid live n here

  going_stopped : Going started (filter (λ l. not (has_uid n.me.uid l)) live) (js ++ (Some n.moment, lines.Stopped n.me) ∷ [])
  going_stopped = record {
    lives = λ x k e. lives_by x k (n.me.uid == x) refl e;
    new = λ b h. of_both b js ((Some n.moment, lines.Stopped n.me) ∷ []) ∙ ap (λ y. y ++ of_one b ((Some n.moment, lines.Stopped n.me) ∷ [])) (g.new b h) ∙ others_none n.me b ((Some n.moment, lines.Stopped n.me) ∷ []) (new_by b (same b n.me) refl h) stopped_own;
    unborn = λ x h. unborn_by x (n.me.uid == x) refl h;
  }
    where
      lives_by : (x : ℕ) (k : Node P) (c : Bool) → (n.me.uid == x) ≡ c → node_in x (filter (λ l. not (has_uid n.me.uid l)) live) ≡ Some k → Lives k (js ++ (Some n.moment, lines.Stopped n.me) ∷ [])
      lives_by x k true t e =
          absurd (let z : None ≡ Some k = sym (node_gone n.me.uid live) ∙ ap (λ y. node_in y (filter (λ l. not (has_uid n.me.uid l)) live)) (number_is n.me.uid x t) ∙ e in cc)
      lives_by x k false t e =
          let at : node_in x live ≡ Some k = sym (node_left n.me.uid x t live) ∙ e in
          let v : Lives k js = g.lives x k at in
          let key : v.who.uid ≡ x = ap (λ (y : UniqueAddress). y.uid) (sym v.mine) ∙ node_key x live k at in
          lives_other k js ((Some n.moment, lines.Stopped n.me) ∷ []) v (others_none n.me v.who ((Some n.moment, lines.Stopped n.me) ∷ []) (other_one v.who n.me (ap (λ y. y == n.me.uid) key ∙ turned n.me.uid x t)) stopped_own)

      new_by : (b : UniqueAddress) (c : Bool) → same b n.me ≡ c → is_started b.uid started ≡ false → c ≡ false
      new_by b true e h = absurd (true≢false (ap is_some (sym here ∙ ap (λ y. node_in y live) (sym stopped_key ∙ ap (λ (y : UniqueAddress). y.uid) (sym (unique_is b n.me e))) ∙ g.unborn b.uid h)))
      new_by b false e h = refl

      unborn_by : (x : ℕ) (c : Bool) → (n.me.uid == x) ≡ c → is_started x started ≡ false → node_in x (filter (λ l. not (has_uid n.me.uid l)) live) ≡ None
      unborn_by x true t h = ap (λ y. node_in y (filter (λ l. not (has_uid n.me.uid l)) live)) (sym (number_is n.me.uid x t)) ∙ node_gone n.me.uid live
      unborn_by x false t h = node_left n.me.uid x t live ∙ g.unborn x h

first_none : (x y : Option Why) → first_of x y ≡ None → x ≡ None
first_none None y h = refl
first_none (Some z) y h = absurd cc

unless_none : (b : Bool) (reason : Why) → unless b reason ≡ None → b ≡ true
unless_none true reason h = refl
unless_none false reason h = absurd cc

not_true : (b : Bool) → not b ≡ true → b ≡ false
not_true true h = absurd (true≢false (sym h))
not_true false h = refl

at_least : (n k : ℕ) → nat_le n k ≡ true → n ≤ k
at_least n k h = grind (arith, nat_tests)

module _ {P : Parts} {W : Ways} (tally : Counting P) where
  starts_right : (a : UniqueAddress) (w : World P W) → w.ended ≡ None → was_started a.uid w ≡ false → Right w → Right (starts_with a (starts a) w)
  starts_right a w e fresh r = by (nat_lt (length w.live) most_nodes)
    where
      begins_here : Right ((with_started a (starts {P = P} a).node ⟫ each (starts {P = P} a).deeds (does a.uid (starts {P = P} a).node.moment)) w)
      begins_here =
          let v : World P W = with_started a (starts {P = P} a).node w in
          let u : World P W = each (starts {P = P} a).deeds (does a.uid (starts {P = P} a).node.moment) v in
          let g : Going w.started w.live (journal_of w.outcomes) = r.going e in
          let d : Did v u (story P a []) = all_did a.uid (starts {P = P} a).node.moment (starts {P = P} a).deeds v in
          record {
            fine = λ b. subst (Fine P b) (sym d.journal) (fine_begun tally w.started w.live (journal_of w.outcomes) g a fresh d.done d.rest d.all b (r.fine b));
            going = λ over.
                subst (λ (x : List Entry). Going u.started u.live x) (sym d.journal)
                (subst (λ (x : List (Live P)). Going u.started x (journal_of w.outcomes ++ d.done)) (sym d.live)
                (subst (λ (x : List ℕ). Going x (w.live ++ record { node = new_node a; accepted = 0 } ∷ []) (journal_of w.outcomes ++ d.done)) (sym d.started)
                (going_begun tally w.started w.live (journal_of w.outcomes) g a fresh d.done d.rest d.all (d.whole over))));
          }

      by : (b : Bool) → Right (cond b (with_started a (starts {P = P} a).node ⟫ each (starts {P = P} a).deeds (does a.uid (starts {P = P} a).node.moment)) (ends limits.Nodes) w)
      by true = begins_here
      by false = (ends_right limits.Nodes).on w e r

  stops_right : (uid : ℕ) (l : Live P) (w : World P W) → live_of uid w ≡ Some l → w.ended ≡ None → Right w → Right (stops_one l w)
  stops_right uid l w h e r =
      let here : node_in uid w.live ≡ Some l.node = ap (option_map (λ (x : Live P). x.node)) h in
      let g : Going w.started w.live (journal_of w.outcomes) = r.going e in
      record {
        fine = λ b. subst (Fine P b) (sym (journal_line w.outcomes l.node.moment (lines.Stopped l.node.me))) (fine_stopped w.started w.live (journal_of w.outcomes) g uid l.node here b (r.fine b));
        going = λ over. subst (λ (x : List Entry). Going w.started (filter (λ k. not (has_uid l.node.me.uid k)) w.live) x) (sym (journal_line w.outcomes l.node.moment (lines.Stopped l.node.me))) (going_stopped w.started w.live (journal_of w.outcomes) g uid l.node here);
      }

  -- ---- events

  happens_right : (event : Event) (w : World P W) → w.ended ≡ None → refusal event w ≡ None → Right w → Right (happens event w)
  happens_right (events.Start a) w e h r = starts_right a w e (not_true (was_started a.uid w) (unless_none (not (was_started a.uid w)) why.UsedUid (first_none (unless (not (was_started a.uid w)) why.UsedUid) _ h))) r
  happens_right (events.Stop uid) w e h r = by (live_of uid w) refl
    where
      by : (o : Option (Live P)) → live_of uid w ≡ o → Right (by_found stops_one o w)
      by None f = r
      by (Some l) f = stops_right uid l w f e r
  happens_right (events.At uid request) w e h r = (gives_right tally uid (inputs.Request request) timeless).on w e r
  happens_right (events.Tick uid moment) w e h r = gives_timely tally uid (inputs.Tick moment) w e (λ l f. at_least l.node.moment moment (unless_none (nat_le l.node.moment moment) why.MomentBack (sym (ap (λ (o : Option (Live P)). of_live o (λ k. unless (nat_le k.node.moment moment) why.MomentBack)) f) ∙ h))) r
  happens_right (events.Answer uid dial) w e h r = (pending_right tally uid dial settles (settles_right tally)).on w e r
  happens_right (events.Fail uid dial) w e h r = (pending_right tally uid dial fails (fails_right tally)).on w e r
  happens_right (events.Carry uid dial count) w e h r = (found_right (by_connection (carries count)) (place_dialed uid dial w.connections) (λ place. connection_right (carries count) place (carries_right tally count))).on w e r
  happens_right (events.Cut uid dial) w e h r = (found_right (by_connection cuts) (place_dialed uid dial w.connections) (λ place. connection_right cuts place (cuts_right tally))).on w e r
  happens_right (events.End uid dial) w e h r = (found_right (by_connection ends_far) (place_dialed uid dial w.connections) (λ place. connection_right ends_far place (ends_far_right tally))).on w e r
  happens_right (events.CutAll uid) w e h r = for_each_right tally (λ c. (c.dialer == uid) && c.near_open) cuts (cuts_right tally) w r
  happens_right (events.EndAll uid) w e h r = for_each_right tally (λ c. (c.dialer == uid) && far_open c) ends_far (ends_far_right tally) w r
  happens_right (events.Pass rounds) w e h r = times_right rounds passes_once (passes_right tally) w r

  applies_right : (event : Event) (w : World P W) → Right w → Right (applies event w)
  applies_right event w r = going_right (λ v. unless_refused (refusal event v) event v) (record { on = λ v e s. by v (refusal event v) refl e s }) w r
    where
      by : (v : World P W) (o : Option Why) → refusal event v ≡ o → v.ended ≡ None → Right v → Right (unless_refused o event v)
      by v None h e s = happens_right event v e h s
      by v (Some reason) h e s = s

  plays_right : (ls : List ScriptLine) (w : World P W) → Right w → Right (plays ls w).world
  plays_right [] w r = r
  plays_right (l ∷ ls) w r = by (fault_of l.event w) (applies_right l.event w r) (plays_right ls (applies l.event w))
    where
      by : (o : Option WorldFault) → Right (applies l.event w) → (Right (applies l.event w) → Right (plays ls (applies l.event w)).world) → Right (goes_on l.line (applies l.event w) o (plays ls (applies l.event w))).world
      by None s rest = rest s
      by (Some fault) s rest = s

  nothing_right : Right {P = P} {W = W} nothing
  nothing_right = record {
    fine = λ a. record { inputs = []; over = false; order = tt; rest = full P a [] false; is = refl };
    going = λ e. record { lives = λ uid n h. absurd cc; new = λ a h. refl; unborn = λ uid h. refl };
  }

pub run_right : (P : Parts) (W : Ways) → Counting P → (script : List ScriptLine) → Right (run {P = P} {W = W} script).world
run_right P W tally script = plays_right tally script nothing (nothing_right tally)

-- ---- the laws

journal_keeps : (P : Parts) (W : Ways) (tally : Counting P) (law : Law) → OfOne law → ((a : UniqueAddress) (is : List Input) (over : Bool) → AreInOrder 0 is → Keeps law (full P a is over)) → (script : List ScriptLine) → Keeps law (journal P W script)
journal_keeps P W tally law o full_law script = keeps_by_one law o (journal P W script) (λ a. let f : Fine P a (journal P W script) = (run_right P W tally script).fine a in (f.rest, subst (Keeps law) (sym f.is) (full_law a f.inputs f.over f.order)))

pub network_close : (P : Parts) (W : Ways) (tally : Counting P) (script : List ScriptLine) → Keeps close_law (journal P W script)
network_close P W tally = journal_keeps P W tally close_law close_of_one (λ a is over o. full_close P tally a is over)

pub network_watch : (P : Parts) (W : Ways) (tally : Counting P) (script : List ScriptLine) → Keeps watch_law (journal P W script)
network_watch P W tally = journal_keeps P W tally watch_law watch_of_one (λ a is over o. full_watch P tally a is over)

pub network_stopped : (P : Parts) (W : Ways) (tally : Counting P) (script : List ScriptLine) → Keeps stopped_law (journal P W script)
network_stopped P W tally = journal_keeps P W tally stopped_law stopped_of_one (λ a is over o. full_stopped P tally a is over)

pub network_moment : (P : Parts) (W : Ways) (tally : Counting P) (script : List ScriptLine) → Keeps moment_law (journal P W script)
network_moment P W tally = journal_keeps P W tally moment_law moment_of_one (λ a is over o. full_moment P tally a is over o)
