-- A network seen through maps, with outcomes that came before: each change, each event and each run is the same under them.
use Rattle.std.proofs.Common.{◌≡◌, ℕ, zero, suc, Bool, true, false, cond, List, [], ◌∷◌, ◌++◌, length, map, refl, ap, ◌∙◌, append_assoc}
use Rattle.std.specs.Prelude.{◌+◌, ◌==◌, ◌&&◌, nat_lt, nat_le, not, is_some, is_none, take, position, slice_get, slice_set, Option, Some, None}
use Rattle.std.specs.List.{filter, position_or_len}
use Rattle.std.specs.Option.{option_map}
use Rattle.artery_base.specs.declared.address.Address.{Address}
use Rattle.artery_base.specs.declared.address.UniqueAddress.{UniqueAddress}
use Rattle.artery_journal.specs.declared.line.Line.TheVariants as lines
use Rattle.artery_script.specs.declared.event.Event.{Event}
use Rattle.artery_script.specs.declared.event.Event.TheVariants as events
use Rattle.artery_script.specs.declared.script.ScriptLine.{ScriptLine}
use Rattle.artery_machine.specs.declared.input.Conn.TheVariants.{Outward, Inward}
use Rattle.artery_machine.specs.declared.input.Input.{Input}
use Rattle.artery_machine.specs.declared.input.Input.TheVariants as inputs
use Rattle.artery_machine.specs.declared.world.Outcome.{Outcome}
use Rattle.artery_machine.specs.declared.world.Outcome.TheVariants as outcomes
use Rattle.artery_machine.specs.declared.world.Why.{Why}
use Rattle.artery_machine.specs.declared.world.Why.TheVariants as why
use Rattle.artery_machine.specs.declared.world.WorldFault.{WorldFault}
use Rattle.artery_machine.specs.declared.world.WorldFault.TheVariants as faults
use Rattle.artery_machine.specs.declared.world.WorldLimit.{WorldLimit}
use Rattle.artery_machine.specs.declared.world.WorldLimit.TheVariants as limits
use Rattle.artery_machine.specs.Lists.{put_at, change_at, at_place}
use Rattle.artery_machine.specs.Deeds.{Writing, Deed, Dials, Writes, Hangs, Tells, bytes_of}
use Rattle.artery_machine.specs.Parts.{Parts}
use Rattle.artery_machine.specs.Ways.{Ways}
use Rattle.artery_machine.specs.Connections.{Connection, connected, is_dialed, is_inward, far_open, undelivered_on, is_loaded, load, loads, near_ended, far_ended, ended_with, with_writing, with_delivered, place_dialed, place_inward}
use Rattle.artery_machine.specs.Node.{Node, new_node}
use Rattle.artery_machine.specs.Doing.{listed, Doing}
use Rattle.artery_machine.specs.Reacting.{starts, step}
use Rattle.artery_machine.specs.World.{World, Live, Pending, Change, ◌⟫◌, stays, going_on, ends, each, each_place, times, has_uid, lives_at, is_pending, with_node, one_more, address_named, of_address, unless, first_of, of_pending, of_connection, of_live, live_of, live_at, pending_of, connection_at, connection_of, connection_becomes, by_found, by_connection, comes_out, is_too_much, writes, does, node_becomes, follows, gives, was_started, with_started, starts_with, gone, stops_one, joins, connects, answers, settled, settles, no_longer, by_pending_at, by_pending, fails, pieces, carries, cuts, ends_far, where_it, for_each, carries_all, settles_first, settles_next, passes_once, refusal, happens, unless_refused, applies, most_nodes, most_undelivered, most_connections}
use Rattle.artery_machine.specs.Playing.{Run, first_fault, fault_before, fault_of, goes_on, plays}
use Rattle.artery_laws.specs.Over.{Over, node_over, seen_through}
use Rattle.artery_laws.specs.OverWays.{WaysOver, live_over, connection_over, world_over, run_over}
use Rattle.artery_laws.proofs.Over.{find_over, filter_over, change_over, push_over, length_over}
use Rattle.artery_laws.proofs.OverTicking.{step_over}

-- ---- lists

cond_over : {X Y : Type 0} (f : X → Y) (b : Bool) (x y : X) → cond b (f x) (f y) ≡ f (cond b x y)
cond_over f true x y = refl
cond_over f false x y = refl

some_over : {S T : Type 0} (f : S → T) (x : Option S) → is_some (option_map f x) ≡ is_some x
some_over f None = refl
some_over f (Some x) = refl

module _ {S T : Type 0} (f : S → T) where
  map_over : (g : S → S) (k : T → T) → ((s : S) → k (f s) ≡ f (g s)) → (xs : List S) → map k (map f xs) ≡ map f (map g xs)
  map_over g k e [] = refl
  map_over g k e (x ∷ xs) = ap (λ y. y ∷ map k (map f xs)) (e x) ∙ ap (λ ys. f (g x) ∷ ys) (map_over g k e xs)

  get_over : (xs : List S) (i : ℕ) → slice_get (map f xs) i ≡ option_map f (slice_get xs i)
  get_over [] i = refl
  get_over (x ∷ xs) zero = refl
  get_over (x ∷ xs) (suc i) = get_over xs i

  set_over : (xs : List S) (i : ℕ) (y : S) → slice_set (map f xs) i (f y) ≡ map f (slice_set xs i y)
  set_over [] i y = refl
  set_over (x ∷ xs) zero y = refl
  set_over (x ∷ xs) (suc i) y = ap (λ ys. f x ∷ ys) (set_over xs i y)

  at_place_over : (xs : List S) (place : Option ℕ) → at_place (map f xs) place ≡ option_map f (at_place xs place)
  at_place_over xs None = refl
  at_place_over xs (Some place) = get_over xs place

  put_at_over : (i : ℕ) (g : S → S) (k : T → T) → ((s : S) → k (f s) ≡ f (g s)) → (xs : List S) (x : Option S) → put_at i k (map f xs) (option_map f x) ≡ map f (put_at i g xs x)
  put_at_over i g k e xs None = refl
  put_at_over i g k e xs (Some x) = ap (λ y. slice_set (map f xs) i y) (e x) ∙ set_over xs i (g x)

  change_at_over : (i : ℕ) (g : S → S) (k : T → T) → ((s : S) → k (f s) ≡ f (g s)) → (xs : List S) → change_at i k (map f xs) ≡ map f (change_at i g xs)
  change_at_over i g k e xs = ap (λ x. put_at i k (map f xs) x) (get_over xs i) ∙ put_at_over i g k e xs (slice_get xs i)

  module _ (p : S → Bool) (q : T → Bool) (alike : (s : S) → q (f s) ≡ p s) where
    before_over : (xs : List S) → position_or_len q (map f xs) ≡ position_or_len p xs
    before_over [] = refl
    before_over (x ∷ xs) = ap (λ b. cond (not b) (1 + position_or_len q (map f xs)) 0) (alike x) ∙ ap (λ n. cond (not (p x)) (1 + n) 0) (before_over xs)

    position_over : (xs : List S) → position q (map f xs) ≡ position p xs
    position_over xs =
        ap (λ n. cond (nat_lt n (length (map f xs))) (Some n) None) (before_over xs)
        ∙ ap (λ n. cond (nat_lt (position_or_len p xs) n) (Some (position_or_len p xs)) None) (length_over f xs)

-- ---- changes

module _ {W : Ways} where
  abbrev far_of : ℕ → Connection W → Connection W
  far_of uid c = cond (c.far == uid) (far_ended c) c

  abbrev near_of : ℕ → Connection W → Connection W
  near_of uid c = cond (c.dialer == uid) (near_ended c) c

-- Two changes are the same under the maps.
pub record IsSame {P Q : Parts} {V W : Ways} (h : Over P Q) (g : WaysOver V W) (before : List Outcome) (c : Change P V) (d : Change Q W) : Type 0 where
  pub on : (w : World P V) → d (world_over h g before w) ≡ world_over h g before (c w)

infixr 34 ◌▹◌
◌▹◌ : {P Q : Parts} {V W : Ways} {h : Over P Q} {g : WaysOver V W} {before : List Outcome} {c e : Change P V} {d f : Change Q W} → IsSame h g before c d → IsSame h g before e f → IsSame h g before (c ⟫ e) (d ⟫ f)
◌▹◌ {P} {Q} {V} {W} {h} {g} {before} {c} {e} {d} {f} a b = record { on = λ w. ap f (a.on w) ∙ b.on (c w) }

module _ {P Q : Parts} {V W : Ways} (h : Over P Q) (g : WaysOver V W) (before : List Outcome) where
  abbrev seen : World P V → World Q W
  seen = world_over h g before

  abbrev through : Connection V → Connection W
  through = connection_over g

  abbrev Alike : Change P V → Change Q W → Type 0
  Alike = IsSame h g before

  stays_alike : Alike stays stays
  stays_alike = record { on = λ w. refl }

  if_alike : (b : Bool) (c e : Change P V) (d f : Change Q W) → Alike c d → Alike e f → Alike (cond b c e) (cond b d f)
  if_alike true c e d f x y = x
  if_alike false c e d f x y = y

  going_alike : (c : Change P V) (d : Change Q W) → Alike c d → Alike (going_on c) (going_on d)
  going_alike c d a = record { on = λ w. ap (λ x. cond (is_none w.ended) x (seen w)) (a.on w) ∙ cond_over seen (is_none w.ended) (c w) w }

  each_alike : {X : Type 0} (xs : List X) (c : X → Change P V) (d : X → Change Q W) → ((x : X) → Alike (c x) (d x)) → Alike (each xs c) (each xs d)
  each_alike [] c d a = stays_alike
  each_alike (x ∷ xs) c d a = going_alike (c x) (d x) (a x) ▹ each_alike xs c d a

  places_alike : (first count : ℕ) (c : ℕ → Change P V) (d : ℕ → Change Q W) → ((place : ℕ) → Alike (c place) (d place)) → Alike (each_place first count c) (each_place first count d)
  places_alike first zero c d a = stays_alike
  places_alike first (suc count) c d a = going_alike (c first) (d first) (a first) ▹ places_alike (first + 1) count c d a

  times_alike : (count : ℕ) (c : Change P V) (d : Change Q W) → Alike c d → Alike (times count c) (times count d)
  times_alike zero c d a = stays_alike
  times_alike (suc count) c d a = going_alike c d a ▹ times_alike count c d a

  ends_alike : (limit : WorldLimit) → Alike (ends limit) (ends limit)
  ends_alike limit = record { on = λ w. refl }

  found_alike : {X : Type 0} (c : X → Change P V) (d : X → Change Q W) → ((x : X) → Alike (c x) (d x)) → (x : Option X) → Alike (by_found c x) (by_found d x)
  found_alike c d a None = stays_alike
  found_alike c d a (Some x) = a x

  found_over : {X Y : Type 0} (f : X → Y) (c : X → Change P V) (d : Y → Change Q W) → ((x : X) → Alike (c x) (d (f x))) → (x : Option X) → Alike (by_found c x) (by_found d (option_map f x))
  found_over f c d a None = stays_alike
  found_over f c d a (Some x) = a x

  -- ---- finding

  live_of_over : (uid : ℕ) (w : World P V) → live_of uid (seen w) ≡ option_map (live_over h) (live_of uid w)
  live_of_over uid w = find_over (live_over h) (has_uid uid) (has_uid uid) (λ l. refl) w.live

  live_at_over : (address : Address) (w : World P V) → live_at address (seen w) ≡ option_map (live_over h) (live_at address w)
  live_at_over address w = find_over (live_over h) (lives_at address) (lives_at address) (λ l. refl) w.live

  is_live_over : (address : Address) (w : World P V) → is_some (live_at address (seen w)) ≡ is_some (live_at address w)
  is_live_over address w = ap is_some (live_at_over address w) ∙ some_over (live_over h) (live_at address w)

  dialed_over : (uid dial : ℕ) (w : World P V) → place_dialed uid dial (map through w.connections) ≡ place_dialed uid dial w.connections
  dialed_over uid dial w = position_over through (is_dialed uid dial) (is_dialed uid dial) (λ c. refl) w.connections

  inward_over : (uid number : ℕ) (w : World P V) → place_inward uid number (map through w.connections) ≡ place_inward uid number w.connections
  inward_over uid number w = position_over through (is_inward uid number) (is_inward uid number) (λ c. refl) w.connections

  connection_of_over : (uid dial : ℕ) (w : World P V) → connection_of uid dial (seen w) ≡ option_map through (connection_of uid dial w)
  connection_of_over uid dial w = ap (λ x. at_place (map through w.connections) x) (dialed_over uid dial w) ∙ at_place_over through w.connections (place_dialed uid dial w.connections)

  loads_over : (cs : List (Connection V)) → loads (map through cs) ≡ loads cs
  loads_over [] = refl
  loads_over (c ∷ cs) = ap (λ bytes. length bytes + loads (map through cs)) (g.undelivered c.way) ∙ ap (λ n. load c + n) (loads_over cs)

  -- ---- deeds

  becomes_alike : (c : Connection V → Connection V) (d : Connection W → Connection W) → ((x : Connection V) → d (through x) ≡ through (c x)) → (place : ℕ) → Alike (connection_becomes c place) (connection_becomes d place)
  becomes_alike c d e place = record { on = λ w. ap (λ cs. record (seen w) { connections = cs }) (change_at_over through place c d e w.connections) }

  near_alike : (place : ℕ) → Alike (connection_becomes near_ended place) (connection_becomes near_ended place)
  near_alike place = becomes_alike near_ended near_ended (λ c. refl) place

  far_over : (c : Connection V) → far_ended (through c) ≡ through (far_ended c)
  far_over c = ap (λ x. record (through c) { way = x }) (g.ended c.way)

  far_alike : (place : ℕ) → Alike (connection_becomes far_ended place) (connection_becomes far_ended place)
  far_alike place = becomes_alike far_ended far_ended far_over place

  connection_alike : (c : ℕ → Connection V → Change P V) (d : ℕ → Connection W → Change Q W) → ((place : ℕ) (x : Connection V) → Alike (c place x) (d place (through x))) → (place : ℕ)
      → Alike (by_connection c place) (by_connection d place)
  connection_alike c d a place = record {
    on = λ w. ap (λ x. by_found (d place) x (seen w)) (get_over through w.connections place) ∙ (found_over through (c place) (d place) (a place) (connection_at place w)).on w;
  }

  comes_out_alike : (outcome : Outcome) → Alike (comes_out outcome) (comes_out outcome)
  comes_out_alike outcome = record { on = λ w. ap (λ os. record (seen w) { outcomes = os }) (append_assoc before w.outcomes (outcome ∷ [])) }

  too_much_over : (count : ℕ) (c : Connection V) (w : World P V) → is_too_much count (through c) (seen w) ≡ is_too_much count c w
  too_much_over count c w =
      ap (λ b. b && nat_lt most_undelivered (loads (map through w.connections) + count)) (g.is_open c.way)
      ∙ ap (λ n. far_open c && nat_lt most_undelivered (n + count)) (loads_over w.connections)

  written_alike : (writing : Writing) (bytes : List ℕ) (place : ℕ) → Alike (connection_becomes (with_writing writing bytes) place) (connection_becomes (with_writing writing bytes) place)
  written_alike writing bytes place = becomes_alike (with_writing writing bytes) (with_writing writing bytes) (λ c. ap (λ x. record (through c) { way = x }) (g.wrote writing bytes c.way)) place

  writes_alike : (uid dial : ℕ) (writing : Writing) (bytes : List ℕ) (place : ℕ) (c : Connection V) → Alike (writes uid dial writing bytes place c) (writes uid dial writing bytes place (through c))
  writes_alike uid dial writing bytes place c = record {
    on = λ w. ap (λ b. cond (not c.near_open) stays (cond b (ends limits.Undelivered) (connection_becomes (with_writing writing bytes) place ⟫ comes_out (outcomes.Wrote uid dial bytes))) (seen w)) (too_much_over (length bytes) c w)
        ∙ (if_alike (not c.near_open) stays _ stays _ stays_alike
        (if_alike (is_too_much (length bytes) c w) (ends limits.Undelivered) _ (ends limits.Undelivered) _ (ends_alike limits.Undelivered) (written_alike writing bytes place ▹ comes_out_alike (outcomes.Wrote uid dial bytes)))).on w;
  }

  does_alike : (uid moment : ℕ) (deed : Deed) → Alike (does uid moment deed) (does uid moment deed)
  does_alike uid moment (Dials dial address) = record { on = λ w. refl }
  does_alike uid moment (Writes dial writing) = record {
    on = λ w. ap (λ x. by_found (by_connection (writes uid dial writing (bytes_of uid writing))) x (seen w)) (dialed_over uid dial w)
        ∙ (found_alike _ _ (connection_alike (writes uid dial writing (bytes_of uid writing)) (writes uid dial writing (bytes_of uid writing)) (writes_alike uid dial writing (bytes_of uid writing))) (place_dialed uid dial w.connections)).on w;
  }
  does_alike uid moment (Hangs (Outward dial)) = record {
    on = λ w. ap (λ x. by_found (connection_becomes near_ended) x (seen w)) (dialed_over uid dial w) ∙ (found_alike _ _ near_alike (place_dialed uid dial w.connections)).on w;
  }
  does_alike uid moment (Hangs (Inward number)) = record {
    on = λ w. ap (λ x. by_found (connection_becomes far_ended) x (seen w)) (inward_over uid number w) ∙ (found_alike _ _ far_alike (place_inward uid number w.connections)).on w;
  }
  does_alike uid moment (Tells line) = record { on = λ w. (comes_out_alike (outcomes.Line moment line)).on w }

  all_done_alike : (uid moment : ℕ) (deeds : List Deed) → Alike (each deeds (does uid moment)) (each deeds (does uid moment))
  all_done_alike uid moment deeds = each_alike deeds (does uid moment) (does uid moment) (does_alike uid moment)

  node_alike : (uid : ℕ) (node : Node P) → Alike (node_becomes uid node) (node_becomes uid (node_over h node))
  node_alike uid node = record {
    on = λ w. ap (λ ls. record (seen w) { live = ls }) (change_over (live_over h) (has_uid uid) (has_uid uid) (λ l. refl) (with_node node) (with_node (node_over h node)) (λ l. refl) w.live);
  }

  follows_alike : (uid : ℕ) (done : Doing P listed) → Alike (follows uid done) (follows uid (seen_through h done))
  follows_alike uid done = node_alike uid done.node ▹ all_done_alike uid done.node.moment done.deeds

  gives_alike : (uid : ℕ) (input : Input) → Alike (gives uid input) (gives uid input)
  gives_alike uid input = record {
    on = λ w. ap (λ x. by_found (λ l. follows uid (step input l.node)) x (seen w)) (live_of_over uid w) ∙ (found_over (live_over h) _ _ reacted (live_of uid w)).on w;
  }
    where
      reacted : (l : Live P) → Alike (follows uid (step input l.node)) (follows uid (step input (node_over h l.node)))
      reacted l = record { on = λ w. ap (λ d. follows uid d (seen w)) (step_over h input l.node) ∙ (follows_alike uid (step input l.node)).on w }

  -- ---- events

  begun_over : (unique : UniqueAddress) → starts {P = Q} unique ≡ seen_through h (starts unique)
  begun_over unique = ap (λ (taken : Q.In). record (starts {P = Q} unique) { node = record (new_node {P = Q} unique) { taken = taken } }) h.nothing_taken

  started_alike : (unique : UniqueAddress) (node : Node P) → Alike (with_started unique node) (with_started unique (node_over h node))
  started_alike unique node = record {
    on = λ w. ap (λ ls. record (seen w) { started = w.started ++ unique.uid ∷ []; live = ls }) (push_over (live_over h) w.live (record { node = node; accepted = 0 }) (record { node = node_over h node; accepted = 0 }) refl);
  }

  begins_alike : (unique : UniqueAddress) (begun : Doing P listed) → Alike (starts_with unique begun) (starts_with unique (seen_through h begun))
  begins_alike unique begun = record {
    on = λ w. ap (λ n. cond (nat_lt n most_nodes) (with_started unique (node_over h begun.node) ⟫ each begun.deeds (does unique.uid begun.node.moment)) (ends limits.Nodes) (seen w)) (length_over (live_over h) w.live)
        ∙ (if_alike (nat_lt (length w.live) most_nodes) _ (ends limits.Nodes) _ (ends limits.Nodes) (started_alike unique begun.node ▹ all_done_alike unique.uid begun.node.moment begun.deeds) (ends_alike limits.Nodes)).on w;
  }

  starts_alike : (unique : UniqueAddress) → Alike (starts_with unique (starts unique)) (starts_with unique (starts unique))
  starts_alike unique = record { on = λ w. ap (λ d. starts_with unique d (seen w)) (begun_over unique) ∙ (begins_alike unique (starts unique)).on w }

  ended_over : (uid : ℕ) (c : Connection V) → ended_with uid (through c) ≡ through (ended_with uid c)
  ended_over uid c =
      ap (λ x. near_of uid (cond (c.far == uid) x (through c))) (far_over c)
      ∙ ap (near_of uid) (cond_over through (c.far == uid) (far_ended c) c)
      ∙ cond_over through ((far_of uid c).dialer == uid) (near_ended (far_of uid c)) (far_of uid c)

  gone_alike : (uid : ℕ) → Alike (gone uid) (gone uid)
  gone_alike uid = record {
    on = λ w. ap (λ ls. record (seen w) { live = ls; pending = filter (λ p. not (p.dialer == uid)) w.pending; connections = map (ended_with uid) (map through w.connections) })
        (filter_over (live_over h) (λ l. not (has_uid uid l)) (λ l. not (has_uid uid l)) (λ l. refl) w.live)
        ∙ ap (λ cs. record (seen (gone uid w)) { connections = cs }) (map_over through (ended_with uid) (ended_with uid) (ended_over uid) w.connections);
  }

  stops_alike : (l : Live P) → Alike (stops_one l) (stops_one (live_over h l))
  stops_alike l = comes_out_alike (outcomes.Line l.node.moment (lines.Stopped l.node.me)) ▹ gone_alike l.node.me.uid

  joins_alike : (uid dial far number : ℕ) → Alike (joins uid dial far number) (joins uid dial far number)
  joins_alike uid dial far number = record {
    on = λ w. ap (λ ls. record (seen w) { live = ls; connections = map through w.connections ++ connected uid dial far number ∷ [] }) (change_over (live_over h) (has_uid far) (has_uid far) (λ l. refl) one_more one_more (λ l. refl) w.live)
        ∙ ap (λ cs. record (seen (joins uid dial far number w)) { connections = cs })
        (push_over through w.connections (connected uid dial far number) (connected uid dial far number) (ap (λ (x : W.Way). record (connected {W = W} uid dial far number) { way = x }) g.nothing_written));
  }

  connects_alike : (uid dial far number : ℕ) → Alike (connects uid dial far number) (connects uid dial far number)
  connects_alike uid dial far number = joins_alike uid dial far number ▹ gives_alike far (inputs.Accepted number) ▹ going_alike _ _ (gives_alike uid (inputs.Dialed dial))

  answers_alike : (p : Pending) (l : Live P) → Alike (answers p l) (answers p (live_over h l))
  answers_alike p l = record {
    on = λ w. ap (λ n. cond (nat_lt n most_connections) (connects p.dialer p.dial l.node.me.uid (l.accepted + 1)) (ends limits.Connections) (seen w)) (length_over through w.connections)
        ∙ (if_alike (nat_lt (length w.connections) most_connections) _ (ends limits.Connections) _ (ends limits.Connections) (connects_alike p.dialer p.dial l.node.me.uid (l.accepted + 1)) (ends_alike limits.Connections)).on w;
  }

  settled_alike : (p : Pending) (x : Option (Live P)) → Alike (settled p x) (settled p (option_map (live_over h) x))
  settled_alike p None = gives_alike p.dialer (inputs.DialFailed p.dial)
  settled_alike p (Some l) = answers_alike p l

  settles_alike : (p : Pending) → Alike (settles p) (settles p)
  settles_alike p = record { on = λ w. ap (λ x. settled p x (seen w)) (live_at_over p.address w) ∙ (settled_alike p (live_at p.address w)).on w }

  longer_alike : (place : ℕ) → Alike (no_longer place) (no_longer place)
  longer_alike place = record { on = λ w. refl }

  pending_at_alike : (c : Pending → Change P V) (d : Pending → Change Q W) → ((p : Pending) → Alike (c p) (d p)) → (place : ℕ) → Alike (by_pending_at c place) (by_pending_at d place)
  pending_at_alike c d a place = record { on = λ w. (found_alike _ _ (λ p. longer_alike place ▹ a p) (slice_get w.pending place)).on w }

  pending_alike : (uid dial : ℕ) (c : Pending → Change P V) (d : Pending → Change Q W) → ((p : Pending) → Alike (c p) (d p)) → Alike (by_pending uid dial c) (by_pending uid dial d)
  pending_alike uid dial c d a = record { on = λ w. (found_alike (by_pending_at c) (by_pending_at d) (pending_at_alike c d a) (position (is_pending uid dial) w.pending)).on w }

  fails_alike : (p : Pending) → Alike (fails p) (fails p)
  fails_alike p = gives_alike p.dialer (inputs.DialFailed p.dial)

  delivered_alike : (count place : ℕ) → Alike (connection_becomes (with_delivered count) place) (connection_becomes (with_delivered count) place)
  delivered_alike count place = becomes_alike (with_delivered count) (with_delivered count) (λ c. ap (λ x. record (through c) { way = x }) (g.delivered_more count c.way)) place

  carries_alike : (count place : ℕ) (c : Connection V) → Alike (carries count place c) (carries count place (through c))
  carries_alike count place c = record {
    on = λ w. ap (λ bytes. (connection_becomes (with_delivered count) place ⟫ each (pieces count (take count bytes)) (λ piece. gives c.far (inputs.Bytes c.number piece))) (seen w)) (g.undelivered c.way)
        ∙ (delivered_alike count place ▹ given (pieces count (take count (undelivered_on c)))).on w;
  }
    where
      given : (ps : List (List ℕ)) → Alike (each ps (λ piece. gives c.far (inputs.Bytes c.number piece))) (each ps (λ piece. gives c.far (inputs.Bytes c.number piece)))
      given ps = each_alike ps _ _ (λ piece. gives_alike c.far (inputs.Bytes c.number piece))

  cuts_alike : (place : ℕ) (c : Connection V) → Alike (cuts place c) (cuts place (through c))
  cuts_alike place c = near_alike place ▹ gives_alike c.dialer (inputs.Ended (Outward c.dial))

  ends_far_alike : (place : ℕ) (c : Connection V) → Alike (ends_far place c) (ends_far place (through c))
  ends_far_alike place c = far_alike place ▹ gives_alike c.far (inputs.Ended (Inward c.number))

  where_alike : (p : Connection V → Bool) (q : Connection W → Bool) → ((x : Connection V) → q (through x) ≡ p x) → (c : ℕ → Connection V → Change P V) (d : ℕ → Connection W → Change Q W)
      → ((place : ℕ) (x : Connection V) → Alike (c place x) (d place (through x))) → (place : ℕ) (x : Connection V) → Alike (where_it p c place x) (where_it q d place (through x))
  where_alike p q e c d a place x = record {
    on = λ w. ap (λ b. cond b (d place (through x)) stays (seen w)) (e x) ∙ (if_alike (p x) (c place x) stays (d place (through x)) stays (a place x) stays_alike).on w;
  }

  for_each_alike : (p : Connection V → Bool) (q : Connection W → Bool) → ((x : Connection V) → q (through x) ≡ p x) → (c : ℕ → Connection V → Change P V) (d : ℕ → Connection W → Change Q W)
      → ((place : ℕ) (x : Connection V) → Alike (c place x) (d place (through x))) → Alike (for_each p c) (for_each q d)
  for_each_alike p q e c d a = record {
    on = λ w. ap (λ n. each_place 0 n (by_connection (where_it q d)) (seen w)) (length_over through w.connections)
        ∙ (places_alike 0 (length w.connections) _ _ (connection_alike (where_it p c) (where_it q d) (where_alike p q e c d a))).on w;
  }

  load_over : (c : Connection V) → load (through c) ≡ load c
  load_over c = ap length (g.undelivered c.way)

  carries_all_alike : (place : ℕ) (c : Connection V) → Alike (carries_all place c) (carries_all place (through c))
  carries_all_alike place c = record { on = λ w. ap (λ n. carries n place (through c) (seen w)) (load_over c) ∙ (carries_alike (load c) place c).on w }

  first_alike : (ps : List Pending) → Alike (settles_first ps) (settles_first ps)
  first_alike [] = stays_alike
  first_alike (p ∷ rest) = fewer ▹ settles_alike p
    where
      fewer : Alike (λ w. record w { pending = rest }) (λ w. record w { pending = rest })
      fewer = record { on = λ w. refl }

  next_alike : Alike settles_next settles_next
  next_alike = record { on = λ w. (first_alike w.pending).on w }

  passes_alike : Alike passes_once passes_once
  passes_alike = settled ▹ going_alike _ _ (for_each_alike is_loaded is_loaded (λ c. ap (λ n. nat_lt 0 n) (load_over c)) carries_all carries_all carries_all_alike)
    where
      settled : Alike (λ w. times (length w.pending) settles_next w) (λ w. times (length w.pending) settles_next w)
      settled = record { on = λ w. (times_alike (length w.pending) settles_next settles_next next_alike).on w }

  -- ---- what is allowed

  of_live_over : (x : Option (Live P)) (r : Live P → Option Why) (s : Live Q → Option Why) → ((l : Live P) → s (live_over h l) ≡ r l) → of_live (option_map (live_over h) x) s ≡ of_live x r
  of_live_over None r s e = refl
  of_live_over (Some l) r s e = e l

  of_connection_over : (x : Option (Connection V)) (r : Connection V → Option Why) (s : Connection W → Option Why) → ((c : Connection V) → s (through c) ≡ r c) → of_connection (option_map through x) s ≡ of_connection x r
  of_connection_over None r s e = refl
  of_connection_over (Some c) r s e = e c

  of_pending_over : (x : Option Pending) (r s : Pending → Option Why) → ((p : Pending) → s p ≡ r p) → of_pending x s ≡ of_pending x r
  of_pending_over None r s e = refl
  of_pending_over (Some p) r s e = e p

  refused_at : (uid : ℕ) (r : Live P → Option Why) (s : Live Q → Option Why) → ((l : Live P) → s (live_over h l) ≡ r l) → (w : World P V) → of_live (live_of uid (seen w)) s ≡ of_live (live_of uid w) r
  refused_at uid r s e w = ap (λ x. of_live x s) (live_of_over uid w) ∙ of_live_over (live_of uid w) r s e

  refused_on : (uid dial : ℕ) (r : Connection V → Option Why) (s : Connection W → Option Why) → ((c : Connection V) → s (through c) ≡ r c) → (w : World P V)
      → of_connection (connection_of uid dial (seen w)) s ≡ of_connection (connection_of uid dial w) r
  refused_on uid dial r s e w = ap (λ x. of_connection x s) (connection_of_over uid dial w) ∙ of_connection_over (connection_of uid dial w) r s e

  pub refusal_over : (event : Event) (w : World P V) → refusal event (seen w) ≡ refusal event w
  refusal_over (events.Start unique) w = ap (λ b. first_of (unless (not (was_started unique.uid w)) why.UsedUid) (unless (not b) why.AddressLive)) (is_live_over unique.address w)
  refusal_over (events.Stop uid) w = refused_at uid (λ l. None) (λ l. None) (λ l. refl) w
  refusal_over (events.At uid request) w = refused_at uid (λ l. of_address (address_named request) l.node.me.address) (λ l. of_address (address_named request) l.node.me.address) (λ l. refl) w
  refusal_over (events.Tick uid moment) w = refused_at uid (λ l. unless (nat_le l.node.moment moment) why.MomentBack) (λ l. unless (nat_le l.node.moment moment) why.MomentBack) (λ l. refl) w
  refusal_over (events.Answer uid dial) w = of_pending_over (pending_of uid dial w) _ _ (λ p. ap (λ b. unless b why.Nobody) (is_live_over p.address w))
  refusal_over (events.Fail uid dial) w = refl
  refusal_over (events.Carry uid dial count) w =
      refused_on uid dial (λ c. first_of (unless (far_open c) why.FarEnded) (unless (nat_le count (load c)) why.TooMany)) (λ c. first_of (unless (far_open c) why.FarEnded) (unless (nat_le count (load c)) why.TooMany))
      (λ c. ap (λ b. first_of (unless b why.FarEnded) (unless (nat_le count (load (through c))) why.TooMany)) (g.is_open c.way)
      ∙ ap (λ n. first_of (unless (far_open c) why.FarEnded) (unless (nat_le count n) why.TooMany)) (load_over c)) w
  refusal_over (events.Cut uid dial) w = refused_on uid dial (λ c. unless c.near_open why.NearEnded) (λ c. unless c.near_open why.NearEnded) (λ c. refl) w
  refusal_over (events.End uid dial) w = refused_on uid dial (λ c. unless (far_open c) why.FarEnded) (λ c. unless (far_open c) why.FarEnded) (λ c. ap (λ b. unless b why.FarEnded) (g.is_open c.way)) w
  refusal_over (events.CutAll uid) w = refl
  refusal_over (events.EndAll uid) w = refl
  refusal_over (events.Pass rounds) w = refl

  happens_alike : (event : Event) → Alike (happens event) (happens event)
  happens_alike (events.Start unique) = record { on = λ w. (starts_alike unique).on w }
  happens_alike (events.Stop uid) = record { on = λ w. ap (λ x. by_found stops_one x (seen w)) (live_of_over uid w) ∙ (found_over (live_over h) stops_one stops_one stops_alike (live_of uid w)).on w }
  happens_alike (events.At uid request) = record { on = λ w. (gives_alike uid (inputs.Request request)).on w }
  happens_alike (events.Tick uid moment) = record { on = λ w. (gives_alike uid (inputs.Tick moment)).on w }
  happens_alike (events.Answer uid dial) = record { on = λ w. (pending_alike uid dial settles settles settles_alike).on w }
  happens_alike (events.Fail uid dial) = record { on = λ w. (pending_alike uid dial fails fails fails_alike).on w }
  happens_alike (events.Carry uid dial count) = record {
    on = λ w. ap (λ x. by_found (by_connection (carries count)) x (seen w)) (dialed_over uid dial w)
        ∙ (found_alike _ _ (connection_alike (carries count) (carries count) (carries_alike count)) (place_dialed uid dial w.connections)).on w;
  }
  happens_alike (events.Cut uid dial) = record {
    on = λ w. ap (λ x. by_found (by_connection cuts) x (seen w)) (dialed_over uid dial w) ∙ (found_alike _ _ (connection_alike cuts cuts cuts_alike) (place_dialed uid dial w.connections)).on w;
  }
  happens_alike (events.End uid dial) = record {
    on = λ w. ap (λ x. by_found (by_connection ends_far) x (seen w)) (dialed_over uid dial w) ∙ (found_alike _ _ (connection_alike ends_far ends_far ends_far_alike) (place_dialed uid dial w.connections)).on w;
  }
  happens_alike (events.CutAll uid) = record { on = λ w. (for_each_alike (λ c. (c.dialer == uid) && c.near_open) (λ c. (c.dialer == uid) && c.near_open) (λ c. refl) cuts cuts cuts_alike).on w }
  happens_alike (events.EndAll uid) = record {
    on = λ w. (for_each_alike (λ c. (c.dialer == uid) && far_open c) (λ c. (c.dialer == uid) && far_open c) (λ c. ap (λ b. (c.dialer == uid) && b) (g.is_open c.way)) ends_far ends_far ends_far_alike).on w;
  }
  happens_alike (events.Pass rounds) = record { on = λ w. (times_alike rounds passes_once passes_once passes_alike).on w }

  unless_alike : (refused : Option Why) (event : Event) → Alike (unless_refused refused event) (unless_refused refused event)
  unless_alike None event = happens_alike event
  unless_alike (Some reason) event = stays_alike

  applies_alike : (event : Event) → Alike (applies event) (applies event)
  applies_alike event = going_alike _ _ (record { on = λ w. ap (λ x. unless_refused x event (seen w)) (refusal_over event w) ∙ (unless_alike (refusal event w) event).on w })

  pub applies_over : (event : Event) (w : World P V) → applies event (seen w) ≡ seen (applies event w)
  applies_over event w = (applies_alike event).on w

  -- ---- runs

  fault_of_over : (event : Event) (w : World P V) → fault_of event (seen w) ≡ fault_of event w
  fault_of_over event w =
      ap (λ x. first_fault (fault_before w.ended x) (option_map faults.Limit (applies event (seen w)).ended)) (refusal_over event w)
      ∙ ap (λ (v : World Q W). first_fault (fault_before w.ended (refusal event w)) (option_map faults.Limit v.ended)) (applies_over event w)

  goes_on_over : (line : ℕ) (w : World P V) (fault : Option WorldFault) (later : Run P V) → goes_on line (seen w) fault (run_over h g before later) ≡ run_over h g before (goes_on line w fault later)
  goes_on_over line w None later = refl
  goes_on_over line w (Some fault) later = refl

  pub plays_over : (script : List ScriptLine) (w : World P V) → plays script (seen w) ≡ run_over h g before (plays script w)
  plays_over [] w = refl
  plays_over (l ∷ ls) w =
      let after : World P V = applies l.event w in
      ap (λ v. goes_on l.line v (fault_of l.event (seen w)) (plays ls v)) (applies_over l.event w)
      ∙ ap (λ fault. goes_on l.line (seen after) fault (plays ls (seen after))) (fault_of_over l.event w)
      ∙ ap (λ r. goes_on l.line (seen after) (fault_of l.event w) r) (plays_over ls after)
      ∙ goes_on_over l.line after (fault_of l.event w) (plays ls after)
