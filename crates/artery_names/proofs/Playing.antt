-- A script is played: the facts of names stay true beside those of what is in flight.
use Rattle.std.proofs.Common.{◌≡◌, ℕ, zero, suc, ◌+◌, ◌-◌, ◌≤◌, Bool, true, false, ◌&&◌, cond, List, [], ◌∷◌, ◌++◌, length, take, drop, map, refl, sym, ◌∙◌, ap, subst, arith, take-append-drop, length-drop}
use Rattle.std.specs.Prelude.{Option, None, Some, ◌==◌, nat_lt, not, is_none, position, remove, slice_get}
use Rattle.std.specs.List.{find}
use Rattle.artery_base.specs.declared.address.UniqueAddress.{UniqueAddress}
use Rattle.artery_journal.specs.declared.line.Line.{Line}
use Rattle.artery_journal.specs.declared.line.Line.TheVariants as lines
use Rattle.artery_journal.specs.declared.words.Kind.{Kind}
use Rattle.artery_journal.specs.declared.words.Kind.TheVariants.{Refs, Manifests}
use Rattle.artery_script.specs.declared.event.Event.{Event}
use Rattle.artery_script.specs.declared.event.Event.TheVariants as events
use Rattle.artery_script.specs.declared.script.ScriptLine.{ScriptLine}
use Rattle.artery_machine.specs.declared.input.Conn.TheVariants.{Outward, Inward}
use Rattle.artery_machine.specs.declared.input.Input.TheVariants as inputs
use Rattle.artery_machine.specs.declared.world.Outcome.TheVariants as outcomes
use Rattle.artery_machine.specs.declared.world.Why.{Why}
use Rattle.artery_machine.specs.declared.world.WorldFault.{WorldFault}
use Rattle.artery_machine.specs.declared.world.WorldLimit.{WorldLimit}
use Rattle.artery_machine.specs.declared.world.WorldLimit.TheVariants as limits
use Rattle.artery_machine.specs.Parts.{whole}
use Rattle.artery_machine.specs.Ways.{whole_ways}
use Rattle.artery_machine.specs.Connections.{connected, far_open, undelivered_on, is_loaded, load, near_ended, far_ended, ended_with, with_delivered, place_dialed}
use Rattle.artery_machine.specs.Node.{of_kind, of_each}
use Rattle.artery_machine.specs.Reacting.{step}
use Rattle.artery_machine.specs.World.{Live, Pending, Change, stays, going_on, ends, by_found, each, each_place, times, ◌⟫◌, has_uid, lives_at, live_of, live_at, connection_at, connection_becomes, by_connection, comes_out, follows, gives, gone, stops_one, joins, connects, settled, settles, no_longer, by_pending_at, by_pending, is_pending, fails, pieces, piece_size, carries, cuts, ends_far, where_it, for_each, carries_all, settles_first, settles_next, passes_once, refusal, happens, unless_refused, applies, nothing, most_connections}
use Rattle.artery_machine.specs.Playing.{fault_of, goes_on, plays, run}
use Rattle.artery_flight.proofs.Lists.{each_filter}
use Rattle.artery_flight.proofs.Grow.{AllRead, read_front}
use Rattle.artery_flight.proofs.Facts.{silent_grow}
use Rattle.artery_flight.proofs.Deeds.{nobody as none_of_them, near_quiet, far_quiet, IsQuiet}
use Rattle.artery_flight.proofs.Feeding.{nothing_left, left_to}
use Rattle.artery_flight.proofs.Networks.{HoldsBut, Holds}
use Rattle.artery_flight.proofs.Starting.{becomes_holds, ends_holds, outcome_holds, gone_holds}
use Rattle.artery_flight.proofs.Joining.{Offered, Removed, removed, Joined, joined, accepted_later}
use Rattle.artery_flight.proofs.Playing.{delivered_holds, piece_holds, no_bytes, shorter, nothing_to, take_within, not_started, nothing_holds}
use Rattle.artery_names.proofs.Lists.{on_cond, none_is, not_both, not_some, some_same, eq_self, and_both, First, prefix_self}
use Rattle.artery_names.proofs.Talks.{newest_line, same_talk, silent_same, SameTalk}
use Rattle.artery_names.proofs.Facts.{Network, Conn, journal, IsLawful}
use Rattle.artery_names.proofs.Growing.{Still, still_self, still_trans, Along, along_self}
use Rattle.artery_names.proofs.Outside.{Quietly, becomes_quietly, silent_lawful}
use Rattle.artery_names.proofs.Silence.{silent}
use Rattle.artery_names.proofs.Worlds.{Names, Both, Quiet, quiet_both, gives_both}
use Rattle.artery_names.proofs.Starting.{ends_names, starts_both}
use Rattle.artery_names.proofs.Joining.{NowJoined, joins_names}

-- ---- changes that say nothing of these

-- A change of a connection that leaves what was written on it.
pub record IsStill (g : Conn → Conn) : Type 0 where
  pub still : (c : Conn) → Still c (g c)
  pub written : (c : Conn) → (g c).way.all ≡ c.way.all

near_still : IsStill near_ended
near_still = record {
  still = λ c. record { grown = record { dialer = refl; dial = refl; far = refl; number = refl; near = λ h. not_both h refl; more = prefix_self c.way.all }; sends = refl; tables = refl; acks = refl; answers = refl; speakers = refl };
  written = λ c. refl;
}

far_still : IsStill far_ended
far_still = record {
  still = λ c. record { grown = record { dialer = refl; dial = refl; far = refl; number = refl; near = λ h. h; more = prefix_self c.way.all }; sends = refl; tables = refl; acks = refl; answers = refl; speakers = refl };
  written = λ c. refl;
}

delivered_still : (n : ℕ) → IsStill (with_delivered n)
delivered_still n = record {
  still = λ c. record { grown = record { dialer = refl; dial = refl; far = refl; number = refl; near = λ h. h; more = prefix_self c.way.all }; sends = refl; tables = refl; acks = refl; answers = refl; speakers = refl };
  written = λ c. refl;
}

becomes_quiet : (g : Conn → Conn) → IsStill g → (i : ℕ) (w : Network) → Quiet w (connection_becomes g i w)
becomes_quiet g s i w =
    let q : Quietly 0 w (connection_becomes g i w) = becomes_quietly 0 g s.still (λ c. record { grown = (s.still c).grown; others = λ n. s.written c }) i w in
    record { conns = q.conns; talk = q.talk; lawful = q.lawful; live = λ P k. k; started = refl; going = q.going }

stopped_quiet : (l : Live whole) (w : Network) → Quiet w (comes_out (outcomes.Line l.node.moment (lines.Stopped l.node.me)) w)
stopped_quiet l w =
    let line : Line = lines.Stopped l.node.me in
    let is : journal (comes_out (outcomes.Line l.node.moment (lines.Stopped l.node.me)) w) ≡ line ∷ journal w = newest_line w.outcomes [] l.node.moment line in
    record {
      conns = along_self Still still_self w.connections;
      talk = subst (SameTalk (journal w)) (sym is) (silent_same line (journal w) (silent line refl));
      lawful = λ h. subst IsLawful (sym is) (silent_lawful line (journal w) refl h);
      live = λ P k. k;
      started = refl;
      going = λ e. e;
    }

map_place : (f : Conn → Conn) (cs : List Conn) (i : ℕ) (c : Conn) → slice_get cs i ≡ Some c → slice_get (map f cs) i ≡ Some (f c)
map_place f [] i c e = not_some e
map_place f (d ∷ cs) zero c e = ap (λ (x : Conn). Some (f x)) (some_same e)
map_place f (d ∷ cs) (suc i) c e = map_place f cs i c e

place_map : (f : Conn → Conn) (cs : List Conn) (i : ℕ) (d : Conn) → slice_get (map f cs) i ≡ Some d → (c : Conn) × (slice_get cs i ≡ Some c) × (d ≡ f c)
place_map f [] i d e = not_some e
place_map f (c ∷ cs) zero d e = (c, refl, sym (some_same e))
place_map f (c ∷ cs) (suc i) d e = place_map f cs i d e

along_map : (f : Conn → Conn) → ((c : Conn) → Still c (f c)) → (cs : List Conn) → Along Still cs (map f cs)
along_map f s cs = record {
  back = λ i d e. (let x = place_map f cs i d e in record { was = x.0; is = x.1; so = subst (Still x.0) (sym x.2) (s x.0) });
  forth = λ i c e. record { next = f c; is = map_place f cs i c e; so = s c };
}

ended_still : (uid : ℕ) (c : Conn) → Still c (ended_with uid c)
ended_still uid c = still_trans c far (ended_with uid c)
    (on_cond (Still c) (c.far == uid) (far_ended c) c (λ t. far_still.still c) (λ t. still_self c))
    (on_cond (Still far) (far.dialer == uid) (near_ended far) far (λ t. near_still.still far) (λ t. still_self far))
  where
    far : Conn
    far = cond (c.far == uid) (far_ended c) c

gone_quiet : (uid : ℕ) (w : Network) → Quiet w (gone uid w)
gone_quiet uid w = record {
  conns = along_map (ended_with uid) (ended_still uid) w.connections;
  talk = same_talk (journal w);
  lawful = λ h. h;
  live = λ P k. each_filter P (λ l. not (has_uid uid l)) w.live k;
  started = refl;
  going = λ e. e;
}

module _ (nobody : UniqueAddress) where
  abbrev SafeBoth : Change whole whole_ways → Type 0
  SafeBoth change = (w : Network) → w.ended ≡ None → Both nobody nothing_left w → Both nobody nothing_left (change w)

  abbrev SafeBothAt : (ℕ → Conn → Change whole whole_ways) → Type 0
  SafeBothAt c = (i : ℕ) (x : Conn) (w : Network) → slice_get w.connections i ≡ Some x → w.ended ≡ None → Both nobody nothing_left w → Both nobody nothing_left (c i x w)

  -- ---- one after the other

  going_both : (c : Change whole whole_ways) → SafeBoth c → (w : Network) → Both nobody nothing_left w → Both nobody nothing_left (going_on c w)
  going_both c a w h = on_cond (Both nobody nothing_left) (is_none w.ended) (c w) w (λ t. a w (none_is w.ended t) h) (λ t. h)

  places_both : (first n : ℕ) (c : ℕ → Change whole whole_ways) → ((place : ℕ) → SafeBoth (c place)) → (w : Network) → Both nobody nothing_left w → Both nobody nothing_left (each_place first n c w)
  places_both first zero c a w h = h
  places_both first (suc n) c a w h = places_both (first + 1) n c a (going_on (c first) w) (going_both (c first) (a first) w h)

  times_both : (n : ℕ) (c : Change whole whole_ways) → SafeBoth c → (w : Network) → Both nobody nothing_left w → Both nobody nothing_left (times n c w)
  times_both zero c a w h = h
  times_both (suc n) c a w h = times_both n c a (going_on c w) (going_both c a w h)

  found_both : {X : Type 0} (c : X → Change whole whole_ways) → ((x : X) → SafeBoth (c x)) → (x : Option X) → SafeBoth (by_found c x)
  found_both c a None w live h = h
  found_both c a (Some x) w live h = a x w live h

  at_place_both : (c : ℕ → Conn → Change whole whole_ways) → SafeBothAt c → (i : ℕ) → SafeBoth (by_connection c i)
  at_place_both c a i w live h = by (connection_at i w) refl
    where
      by : (x : Option Conn) → connection_at i w ≡ x → Both nobody nothing_left (by_found (c i) x w)
      by None e = h
      by (Some x) e = a i x w e live h

  becomes_both : (g : Conn → Conn) → IsStill g → IsQuiet g → (i : ℕ) (w : Network) → Both nobody nothing_left w → Both nobody nothing_left (connection_becomes g i w)
  becomes_both g s q i w h = quiet_both nobody nothing_left nothing_left w (connection_becomes g i w) (becomes_quiet g s i w) (becomes_holds g q i w h.holds) h

  -- ---- bytes that arrive

  left_here : (c : Conn) (bs : List ℕ) → left_to c bs c.far c.number ≡ bs
  left_here c bs = ap (λ (b : Bool). cond b bs []) (and_both (c.far == c.far) (c.number == c.number) (eq_self c.far) (eq_self c.number))

  piece_both : (c : Conn) (piece rest : List ℕ) (w : Network) → Both nobody (left_to c (piece ++ rest)) w → Both nobody (left_to c rest) (going_on (gives c.far (inputs.Bytes c.number piece)) w)
  piece_both c piece rest w h = by (is_none w.ended) refl
    where
      holds : HoldsBut (left_to c rest) (going_on (gives c.far (inputs.Bytes c.number piece)) w)
      holds = piece_holds c piece rest w h.holds

      absent : is_none w.ended ≡ true → live_of c.far w ≡ None → HoldsBut (left_to c rest) w
      absent t e =
          let P : Bool → Type 0 = λ b. HoldsBut (left_to c rest) (cond b (by_found (λ l. follows c.far (step (inputs.Bytes c.number piece) l.node)) (live_of c.far w) w) w) in
          let Q : Option (Live whole) → Type 0 = λ x. HoldsBut (left_to c rest) (by_found (λ l. follows c.far (step (inputs.Bytes c.number piece) l.node)) x w) in
          subst Q e (subst P t holds)

      by : (b : Bool) → is_none w.ended ≡ b → Both nobody (left_to c rest) (cond b (gives c.far (inputs.Bytes c.number piece) w) w)
      by true t = gives_both nobody c.far (inputs.Bytes c.number piece) (left_to c (piece ++ rest)) (left_to c rest) w (none_is w.ended t) (λ q e. tt) (absent t)
          ((left_here c (piece ++ rest) ∙ ap (λ bs. piece ++ bs) (sym (left_here c rest))), (λ f j o. ap (λ (b : Bool). cond b (piece ++ rest) []) o ∙ sym (ap (λ (b : Bool). cond b rest []) o))) tt h
      by false t =
          let P : Bool → Type 0 = λ b. HoldsBut (left_to c rest) (cond b (gives c.far (inputs.Bytes c.number piece) w) w) in
          record { holds = subst P t holds; names = h.names }

  nothing_both : (c : Conn) (bytes : List ℕ) (w : Network) → bytes ≡ [] → Both nobody (left_to c bytes) w → Both nobody nothing_left w
  nothing_both c bytes w e h = record { holds = nothing_to c bytes w e h.holds; names = h.names }

  pieces_both : (most : ℕ) (c : Conn) (bytes : List ℕ) (w : Network) → length bytes ≤ most → Both nobody (left_to c bytes) w → Both nobody nothing_left (each (pieces most bytes) (λ piece. gives c.far (inputs.Bytes c.number piece)) w)
  pieces_both zero c bytes w n h = nothing_both c bytes w (no_bytes bytes (let e : length bytes ≡ 0 = omega arith in ap (λ (x : ℕ). x == 0) e ∙ eq_self 0)) h
  pieces_both (suc most) c bytes w n h = by (length bytes == 0) refl (λ v k. pieces_both most c (drop piece_size bytes) v (let e : length (drop piece_size bytes) ≡ length bytes - piece_size = length-drop piece_size bytes in subst (λ (x : ℕ). x ≤ most) (sym e) (shorter (length bytes) piece_size most n one_at_least)) k)
    where
      one_at_least : 1 ≤ piece_size
      one_at_least = omega arith

      by : (b : Bool) → (length bytes == 0) ≡ b → ((v : Network) → Both nobody (left_to c (drop piece_size bytes)) v → Both nobody nothing_left (each (pieces most (drop piece_size bytes)) (λ piece. gives c.far (inputs.Bytes c.number piece)) v))
          → Both nobody nothing_left (each (cond b [] (take piece_size bytes ∷ pieces most (drop piece_size bytes))) (λ piece. gives c.far (inputs.Bytes c.number piece)) w)
      by true e rest = nothing_both c bytes w (no_bytes bytes e) h
      by false e rest = rest (going_on (gives c.far (inputs.Bytes c.number (take piece_size bytes))) w)
          (piece_both c (take piece_size bytes) (drop piece_size bytes) w (subst (λ bs. Both nobody (left_to c bs) w) (sym (take-append-drop piece_size bytes)) h))

  carries_both : (n : ℕ) → SafeBothAt (carries n)
  carries_both n i c w e live h = pieces_both n c (take n (undelivered_on c)) (connection_becomes (with_delivered n) i w) (take_within n (undelivered_on c))
      (quiet_both nobody nothing_left (left_to c (take n (undelivered_on c))) w (connection_becomes (with_delivered n) i w) (becomes_quiet (with_delivered n) (delivered_still n) i w) (delivered_holds n i c w e h.holds) h)

  -- ---- ends

  cuts_both : SafeBothAt cuts
  cuts_both i c w e live h =
      let v : Network = connection_becomes near_ended i w in
      let b : Both nobody nothing_left v = becomes_both near_ended near_still near_quiet i w h in
      gives_both nobody c.dialer (inputs.Ended (Outward c.dial)) nothing_left nothing_left v live (λ q x. tt) (λ x. b.holds) (λ f j. refl) tt b

  far_both : SafeBothAt ends_far
  far_both i c w e live h =
      let v : Network = connection_becomes far_ended i w in
      let b : Both nobody nothing_left v = becomes_both far_ended far_still far_quiet i w h in
      gives_both nobody c.far (inputs.Ended (Inward c.number)) nothing_left nothing_left v live (λ q x. tt) (λ x. b.holds) (λ f j. refl) tt b

  where_both : (test : Conn → Bool) (c : ℕ → Conn → Change whole whole_ways) → SafeBothAt c → SafeBothAt (where_it test c)
  where_both test c a i x w e live h = on_cond (λ (d : Change whole whole_ways). Both nobody nothing_left (d w)) (test x) (c i x) stays (λ t. a i x w e live h) (λ t. h)

  for_each_both : (test : Conn → Bool) (c : ℕ → Conn → Change whole whole_ways) → SafeBothAt c → (w : Network) → Both nobody nothing_left w → Both nobody nothing_left (for_each test c w)
  for_each_both test c a w h = places_both 0 (length w.connections) (by_connection (where_it test c)) (λ i. at_place_both (where_it test c) (where_both test c a) i) w h

  stops_both : (l : Live whole) → SafeBoth (stops_one l)
  stops_both l w live h =
      let v : Network = comes_out (outcomes.Line l.node.moment (lines.Stopped l.node.me)) w in
      let b : Both nobody nothing_left v = quiet_both nobody nothing_left nothing_left w v (stopped_quiet l w) (outcome_holds (outcomes.Line l.node.moment (lines.Stopped l.node.me)) (refl, refl, refl) w h.holds) h in
      quiet_both nobody nothing_left nothing_left v (gone l.node.me.uid v) (gone_quiet l.node.me.uid v) (gone_holds l.node.me.uid v b.holds) b

  ends_both : (limit : WorldLimit) (w : Network) → Both nobody nothing_left w → Both nobody nothing_left (ends limit w)
  ends_both limit w h = record { holds = ends_holds limit w h.holds; names = λ all. ends_names nobody limit w (h.names all) }

  -- ---- dials

  connects_both : (p : Pending) (w : Network) (l : Live whole) (t : Live whole → Bool) → find t w.live ≡ Some l → w.ended ≡ None → Offered p w → Both nobody nothing_left w → Both nobody nothing_left (connects p.dialer p.dial l.node.me.uid (l.accepted + 1) w)
  connects_both p w l t found live o h =
      let w1 : Network = joins p.dialer p.dial l.node.me.uid (l.accepted + 1) w in
      let j : Joined p l.node.me.uid (l.accepted + 1) w1 = joined p w l t found live o h.holds in
      let now : AllRead w1.connections → NowJoined nobody l.node.me.uid (l.accepted + 1) w1 = λ all.
      (let before : AllRead w.connections = read_front w.connections (connected p.dialer p.dial l.node.me.uid (l.accepted + 1)) all in joins_names nobody p w l t found live o h.holds before (h.names before)) in
      let b1 : Both nobody nothing_left w1 = record { holds = j.holds; names = λ all. (now all).names } in
      let w2 : Network = gives l.node.me.uid (inputs.Accepted (l.accepted + 1)) w1 in
      let b2 : Both nobody nothing_left w2 = gives_both nobody l.node.me.uid (inputs.Accepted (l.accepted + 1)) nothing_left nothing_left w1 live (λ q e. j.come) (λ e. j.holds) (λ f k. refl) (λ all. (now all).comes) b1 in
      on_cond (Both nobody nothing_left) (is_none w2.ended) (gives p.dialer (inputs.Dialed p.dial) w2) w2
      (λ s. gives_both nobody p.dialer (inputs.Dialed p.dial) nothing_left nothing_left w2 (none_is w2.ended s)
      (λ q i e. silent_grow none_of_them p.dialer p.dial w1.connections w2.connections (λ n. n) (accepted_later l.node.me.uid (l.accepted + 1) w1) (j.silent live)) (λ e. b2.holds) (λ f k. refl) tt b2)
      (λ s. b2)

  failed_both : (p : Pending) → SafeBoth (gives p.dialer (inputs.DialFailed p.dial))
  failed_both p w live h = gives_both nobody p.dialer (inputs.DialFailed p.dial) nothing_left nothing_left w live (λ q e. tt) (λ e. h.holds) (λ f j. refl) tt h

  settles_both : (p : Pending) (w : Network) → w.ended ≡ None → Removed p w → Both nobody nothing_left w → Both nobody nothing_left (settles p w)
  settles_both p w live r h = by (live_at p.address w) refl
    where
      by : (x : Option (Live whole)) → live_at p.address w ≡ x → Both nobody nothing_left (settled p x w)
      by None e = failed_both p w live h
      by (Some l) e = on_cond (λ (c : Change whole whole_ways). Both nobody nothing_left (c w)) (nat_lt (length w.connections) most_connections) (connects p.dialer p.dial l.node.me.uid (l.accepted + 1)) (ends limits.Connections)
          (λ t. connects_both p w l (lives_at p.address) e live (r.offered live) h)
          (λ t. ends_both limits.Connections w h)

  -- other dials are pending
  pending_both : (w : Network) (ps : List Pending) → Holds (record w { pending = ps }) → Both nobody nothing_left w → Both nobody nothing_left (record w { pending = ps })
  pending_both w ps r h = record { holds = r; names = λ all. (let n : Names nobody w = h.names all in record { lawful = n.lawful; out = n.out; lives = n.lives; silent = n.silent; named = n.named }) }

  by_pending_both : (u d : ℕ) (c : Pending → Change whole whole_ways) → ((p : Pending) (w : Network) → w.ended ≡ None → Removed p w → Both nobody nothing_left w → Both nobody nothing_left (c p w)) → SafeBoth (by_pending u d c)
  by_pending_both u d c a w live h = by (position (is_pending u d) w.pending)
    where
      at_place : (i : ℕ) (x : Option Pending) → slice_get w.pending i ≡ x → Both nobody nothing_left (by_found (λ p. no_longer i ⟫ c p) x w)
      at_place i None e = h
      at_place i (Some p) e = (let r : Removed p (no_longer i w) = removed w i p e h.holds in a p (no_longer i w) live r (pending_both w (remove w.pending i) r.holds h))

      by : (i : Option ℕ) → Both nobody nothing_left (by_found (by_pending_at c) i w)
      by None = h
      by (Some i) = at_place i (slice_get w.pending i) refl

  fails_both : (p : Pending) (w : Network) → w.ended ≡ None → Removed p w → Both nobody nothing_left w → Both nobody nothing_left (fails p w)
  fails_both p w live r h = failed_both p w live h

  next_both : SafeBoth settles_next
  next_both w live h = by w.pending refl
    where
      by : (ps : List Pending) → w.pending ≡ ps → Both nobody nothing_left (settles_first ps w)
      by [] e = h
      by (p ∷ rest) e =
          let place : slice_get w.pending 0 ≡ Some p = ap (λ ps. slice_get ps 0) e in
          let r : Removed p (no_longer 0 w) = removed w 0 p place h.holds in
          let same_one : no_longer 0 w ≡ record w { pending = rest } = ap (λ ps. record w { pending = remove ps 0 }) e in
          subst (λ (v : Network). Both nobody nothing_left (settles p v)) same_one (settles_both p (no_longer 0 w) live r (pending_both w (remove w.pending 0) r.holds h))

  all_both : SafeBothAt carries_all
  all_both i c w e live h = carries_both (load c) i c w e live h

  passes_both : SafeBoth passes_once
  passes_both w live h = going_both (for_each is_loaded carries_all) (λ v l k. for_each_both is_loaded carries_all all_both v k) (times (length w.pending) settles_next w) (times_both (length w.pending) settles_next next_both w h)

  -- ---- events

  happens_both : (event : Event) (w : Network) → refusal event w ≡ None → w.ended ≡ None → Both nobody nothing_left w → Both nobody nothing_left (happens event w)
  happens_both (events.Start v) w e live h = starts_both nobody v w (not_started v w e) live h
  happens_both (events.Stop uid) w e live h = found_both stops_one stops_both (live_of uid w) w live h
  happens_both (events.At uid request) w e live h = gives_both nobody uid (inputs.Request request) nothing_left nothing_left w live (λ q x. tt) (λ x. h.holds) (λ f j. refl) tt h
  happens_both (events.Tick uid moment) w e live h = gives_both nobody uid (inputs.Tick moment) nothing_left nothing_left w live (λ q x. tt) (λ x. h.holds) (λ f j. refl) tt h
  happens_both (events.Answer uid dial) w e live h = by_pending_both uid dial settles settles_both w live h
  happens_both (events.Fail uid dial) w e live h = by_pending_both uid dial fails fails_both w live h
  happens_both (events.Carry uid dial n) w e live h = found_both (by_connection (carries n)) (λ i. at_place_both (carries n) (carries_both n) i) (place_dialed uid dial w.connections) w live h
  happens_both (events.Cut uid dial) w e live h = found_both (by_connection cuts) (λ i. at_place_both cuts cuts_both i) (place_dialed uid dial w.connections) w live h
  happens_both (events.End uid dial) w e live h = found_both (by_connection ends_far) (λ i. at_place_both ends_far far_both i) (place_dialed uid dial w.connections) w live h
  happens_both (events.CutAll uid) w e live h = for_each_both (λ c. (c.dialer == uid) && c.near_open) cuts cuts_both w h
  happens_both (events.EndAll uid) w e live h = for_each_both (λ c. (c.dialer == uid) && far_open c) ends_far far_both w h
  happens_both (events.Pass rounds) w e live h = times_both rounds passes_once passes_both w h

  applies_both : (event : Event) (w : Network) → Both nobody nothing_left w → Both nobody nothing_left (applies event w)
  applies_both event w h = on_cond (Both nobody nothing_left) (is_none w.ended) (unless_refused (refusal event w) event w) w (λ t. by (none_is w.ended t) (refusal event w) refl) (λ t. h)
    where
      by : w.ended ≡ None → (x : Option Why) → refusal event w ≡ x → Both nobody nothing_left (unless_refused x event w)
      by live None e = happens_both event w e live h
      by live (Some reason) e = h

  nothing_named : Names nobody nothing
  nothing_named = record {
    lawful = tt;
    out = λ e. record {
      adopts = λ a b kind. First (none kind);
      dialed = λ i j c k x. not_some x;
      reached = λ i j c k x. not_some x;
      untold = λ a b d. First refl;
      talks = λ a b d. record { rising = tt; below = tt };
      conns = λ i c x. not_some x;
    };
    lives = λ e. tt;
    silent = λ e y t a b q. refl;
    named = λ e y t. not_both t refl;
  }
    where
      none : (kind : Kind) → of_kind {T = ℕ} kind (of_each 0) ≡ 0
      none Refs = refl
      none Manifests = refl

  plays_both : (script : List ScriptLine) (w : Network) → Both nobody nothing_left w → Both nobody nothing_left (plays script w).world
  plays_both [] w h = h
  plays_both (l ∷ script) w h = by (fault_of l.event w) (plays_both script (applies l.event w) (applies_both l.event w h))
    where
      by : (x : Option WorldFault) → Both nobody nothing_left (plays script (applies l.event w)).world → Both nobody nothing_left (goes_on l.line (applies l.event w) x (plays script (applies l.event w))).world
      by None later = later
      by (Some fault) later = applies_both l.event w h

  pub run_both : (script : List ScriptLine) → Both nobody nothing_left (run {P = whole} {W = whole_ways} script).world
  run_both script = plays_both script nothing (record { holds = nothing_holds; names = λ all. nothing_named })
