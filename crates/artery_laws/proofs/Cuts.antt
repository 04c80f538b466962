-- Two pieces of a stream, one after the other, do what the joined piece does.
use Rattle.std.proofs.Common.{◌≡◌, ℕ, zero, suc, Bool, true, false, cond, List, [], ◌∷◌, ◌++◌, length, drop, refl, ap, sym, ◌∙◌, subst, append_assoc}
use Rattle.std.specs.Prelude.{◌==◌, not, is_some, Option, Some, None, IfSome}
use Rattle.std.specs.List.{find, filter}
use Rattle.artery_frame.specs.declared.stream.Stream.{Stream}
use Rattle.artery_frame.specs.declared.fault.FrameFault.{FrameFault}
use Rattle.artery_frame.specs.Stream.{Reading, reading_of, new_frames, GoesOn}
use Rattle.artery_machine.specs.declared.input.Conn.TheVariants.{Inward}
use Rattle.artery_machine.specs.Lists.{change_first}
use Rattle.artery_machine.specs.Deeds.{Hangs}
use Rattle.artery_machine.specs.Parts.{whole, came_whole}
use Rattle.artery_machine.specs.Node.{Node, Inbound, is_number, inbound_at}
use Rattle.artery_machine.specs.Doing.{listed, Doing, Rule, ◌▸◌, inbound_becomes, each}
use Rattle.artery_machine.specs.Hearing.{hears}
use Rattle.artery_machine.specs.Reacting.{with_bytes, ends_broken, comes_on, comes}
use Rattle.artery_laws.specs.Taking.{at_work}
use Rattle.artery_laws.specs.Cutting.{IsJoined}
use Rattle.artery_laws.proofs.OverTicking.{comes_with}
use Rattle.artery_laws.proofs.Keeping.{with_their_bytes, all_keep}

-- What the laws of frames say, as far as it is needed here.
pub record CutLaws : Type 0 where
  pub longer : (bytes more : List ℕ) → GoesOn (reading_of bytes) (reading_of (bytes ++ more))
  pub nameless : (bytes : List ℕ) → (reading_of bytes).stream ≡ None → (reading_of bytes).frames ≡ []
  pub joined : (fed piece next : List ℕ) → new_frames fed (piece ++ next) ≡ new_frames fed piece ++ new_frames (fed ++ piece) next

-- ---- connections by their numbers

-- The bytes of the first connection with a number.
abbrev bytes_at : ℕ → List (ℕ × List ℕ) → Option (List ℕ)
bytes_at k [] = None
bytes_at k (e ∷ es) = cond (e.0 == k) (Some e.1) (bytes_at k es)

-- A connection that was found, with these bytes.
pub record IsThere (x : Option (Inbound whole)) (bytes : List ℕ) : Type 0 where
  pub found : Inbound whole
  pub there : x ≡ Some found
  pub same : found.bytes ≡ bytes

is_there : (k : ℕ) (bytes : List ℕ) (is : List (Inbound whole)) → bytes_at k (with_their_bytes is) ≡ Some bytes → IsThere (find (is_number k) is) bytes
is_there k bytes [] e = absurd cc
is_there k bytes (i ∷ is) e = by (is_number k i) e (is_there k bytes is)
  where
    by : (b : Bool) → cond b (Some i.bytes) (bytes_at k (with_their_bytes is)) ≡ Some bytes → (bytes_at k (with_their_bytes is) ≡ Some bytes → IsThere (find (is_number k) is) bytes)
        → IsThere (cond b (Some i) (find (is_number k) is)) bytes
    by true f rest = record { found = i; there = refl; same = cc }
    by false f rest = rest f

found_bytes : (k : ℕ) (i : Inbound whole) (is : List (Inbound whole)) → find (is_number k) is ≡ Some i → bytes_at k (with_their_bytes is) ≡ Some i.bytes
found_bytes k i [] e = absurd cc
found_bytes k i (j ∷ is) e = by (is_number k j) e (found_bytes k i is)
  where
    by : (b : Bool) → cond b (Some j) (find (is_number k) is) ≡ Some i → (find (is_number k) is ≡ Some i → bytes_at k (with_their_bytes is) ≡ Some i.bytes)
        → cond b (Some j.bytes) (bytes_at k (with_their_bytes is)) ≡ Some i.bytes
    by true f rest = (let s : j ≡ i = cc in ap (λ (x : Inbound whole). Some x.bytes) s)
    by false f rest = rest f

changed_bytes : (k : ℕ) (old new : List ℕ) (is : List (Inbound whole)) → bytes_at k (with_their_bytes is) ≡ Some old → bytes_at k (with_their_bytes (change_first (is_number k) (with_bytes {P = whole} new) is)) ≡ Some new
changed_bytes k old new [] e = absurd cc
changed_bytes k old new (i ∷ is) e = by (is_number k i) refl e (changed_bytes k old new is)
  where
    by : (b : Bool) → is_number k i ≡ b → cond b (Some i.bytes) (bytes_at k (with_their_bytes is)) ≡ Some old
        → (bytes_at k (with_their_bytes is) ≡ Some old → bytes_at k (with_their_bytes (change_first (is_number k) (with_bytes {P = whole} new) is)) ≡ Some new)
        → bytes_at k (with_their_bytes (cond b (with_bytes {P = whole} new i ∷ is) (i ∷ change_first (is_number k) (with_bytes {P = whole} new) is))) ≡ Some new
    by true t f rest = ap (λ b. cond b (Some new) (bytes_at k (with_their_bytes is))) t
    by false t f rest = ap (λ b. cond b (Some i.bytes) (bytes_at k (with_their_bytes (change_first (is_number k) (with_bytes {P = whole} new) is)))) t ∙ rest f

-- Bytes that are put and set aside again.
put_and_aside : (k : ℕ) (old new : List ℕ) (is : List (Inbound whole)) → bytes_at k (with_their_bytes is) ≡ Some old
    → change_first (is_number k) (with_bytes {P = whole} old) (change_first (is_number k) (with_bytes {P = whole} new) is) ≡ is
put_and_aside k old new [] e = refl
put_and_aside k old new (i ∷ is) e = by (is_number k i) refl e (put_and_aside k old new is)
  where
    by : (b : Bool) → is_number k i ≡ b → cond b (Some i.bytes) (bytes_at k (with_their_bytes is)) ≡ Some old
        → (bytes_at k (with_their_bytes is) ≡ Some old → change_first (is_number k) (with_bytes {P = whole} old) (change_first (is_number k) (with_bytes {P = whole} new) is) ≡ is)
        → change_first (is_number k) (with_bytes {P = whole} old) (cond b (with_bytes {P = whole} new i ∷ is) (i ∷ change_first (is_number k) (with_bytes {P = whole} new) is)) ≡ i ∷ is
    by true t f rest =
        (let s : i.bytes ≡ old = cc in
        ap (λ b. cond b (with_bytes {P = whole} old i ∷ is) (with_bytes {P = whole} new i ∷ change_first (is_number k) (with_bytes {P = whole} old) is)) t
        ∙ ap (λ (x : List ℕ). with_bytes {P = whole} x i ∷ is) (sym s))
    by false t f rest =
        ap (λ b. cond b (with_bytes {P = whole} old i ∷ change_first (is_number k) (with_bytes {P = whole} new) is) (i ∷ change_first (is_number k) (with_bytes {P = whole} old) (change_first (is_number k) (with_bytes {P = whole} new) is))) t
        ∙ ap (λ js. i ∷ js) (rest f)

-- A connection that is gone was as it was.
gone_alike : (k : ℕ) (new : List ℕ) (is : List (Inbound whole)) → filter (λ i. not (is_number k i)) (change_first (is_number k) (with_bytes {P = whole} new) is) ≡ filter (λ i. not (is_number k i)) is
gone_alike k new [] = refl
gone_alike k new (i ∷ is) = by (is_number k i) refl (gone_alike k new is)
  where
    by : (b : Bool) → is_number k i ≡ b → filter (λ j. not (is_number k j)) (change_first (is_number k) (with_bytes {P = whole} new) is) ≡ filter (λ j. not (is_number k j)) is
        → filter (λ j. not (is_number k j)) (cond b (with_bytes {P = whole} new i ∷ is) (i ∷ change_first (is_number k) (with_bytes {P = whole} new) is)) ≡ cond (not b) (i ∷ filter (λ j. not (is_number k j)) is) (filter (λ j. not (is_number k j)) is)
    by true t rest = ap (λ b. cond (not b) (with_bytes {P = whole} new i ∷ filter (λ j. not (is_number k j)) is) (filter (λ j. not (is_number k j)) is)) t
    by false t rest =
        ap (λ b. cond (not b) (i ∷ filter (λ j. not (is_number k j)) (change_first (is_number k) (with_bytes {P = whole} new) is)) (filter (λ j. not (is_number k j)) (change_first (is_number k) (with_bytes {P = whole} new) is))) t
        ∙ ap (λ js. i ∷ js) rest

gone_is_gone : (k : ℕ) (is : List (Inbound whole)) → find (is_number k) (filter (λ i. not (is_number k i)) is) ≡ None
gone_is_gone k [] = refl
gone_is_gone k (i ∷ is) = by (is_number k i) refl (gone_is_gone k is)
  where
    by : (b : Bool) → is_number k i ≡ b → find (is_number k) (filter (λ j. not (is_number k j)) is) ≡ None
        → find (is_number k) (cond (not b) (i ∷ filter (λ j. not (is_number k j)) is) (filter (λ j. not (is_number k j)) is)) ≡ None
    by true t rest = rest
    by false t rest = ap (λ b. cond b (Some i) (find (is_number k) (filter (λ j. not (is_number k j)) is))) t ∙ rest

each_joined : {X : Type 0} (xs ys : List X) (r : X → Rule whole listed) (d : Doing whole listed) → each (xs ++ ys) r d ≡ each ys r (each xs r d)
each_joined [] ys r d = refl
each_joined (x ∷ xs) ys r d = each_joined xs ys r (r x d)

none_dropped : {X : Type 0} (m : ℕ) (xs : List X) → xs ≡ [] → drop m xs ≡ []
none_dropped zero xs e = e
none_dropped (suc m) [] e = refl
none_dropped (suc m) (x ∷ xs) e = absurd cc

-- ---- two pieces

module _ (law : CutLaws) (k : ℕ) (first second : List ℕ) (n : Node whole) (i : Inbound whole) (at : inbound_at k n ≡ Some i) (sound : (reading_of i.bytes).end ≡ None) where
  -- the bytes behind the first piece, and behind both
  abbrev one : List ℕ
  one = i.bytes ++ first

  abbrev both : List ℕ
  both = i.bytes ++ (first ++ second)

  came_sound : (piece : List ℕ) → came_whole piece i.bytes ≡ i.bytes ++ piece
  came_sound piece = ap (λ x. cond (is_some x) i.bytes (i.bytes ++ piece)) sound

  -- what a piece does, where the connection is there
  piece_does : (piece : List ℕ) → comes k piece (at_work n) ≡ comes_with {P = whole} {E = listed} k [] (i.bytes ++ piece) (new_frames i.bytes piece) (reading_of (i.bytes ++ piece)).stream (reading_of (i.bytes ++ piece)).end (at_work n)
  piece_does piece =
      ap (λ x. comes_on k piece x (at_work n)) at
      ∙ ap (λ (b : List ℕ). comes_with {P = whole} {E = listed} k [] b (new_frames i.bytes piece) (reading_of b).stream (reading_of b).end (at_work n)) (came_sound piece)

  -- the connection is set aside, and the frames of the first piece are heard
  abbrev aside : Doing whole listed
  aside = inbound_becomes k (with_bytes {P = whole} []) (at_work n)

  abbrev heard : Option Stream → Doing whole listed
  heard stream = each (new_frames i.bytes first) (hears k stream) aside

  still_aside : (stream : Option Stream) → bytes_at k (with_their_bytes (heard stream).node.inbound) ≡ Some []
  still_aside stream =
      ap (bytes_at k) ((all_keep k stream (new_frames i.bytes first)).on aside)
      ∙ changed_bytes k i.bytes [] n.inbound (found_bytes k i n.inbound at)

  -- a stream that is known is the same with more bytes; and where none is known, no frame came
  same_stream : heard (reading_of one).stream ≡ heard (reading_of both).stream
  same_stream = by (reading_of one).stream refl
    where
      more : GoesOn (reading_of one) (reading_of both)
      more = subst (λ b. GoesOn (reading_of one) (reading_of b)) (append_assoc i.bytes first second) (law.longer one second)

      by : (x : Option Stream) → (reading_of one).stream ≡ x → heard x ≡ heard (reading_of both).stream
      by (Some stream) e = ap heard (sym (subst (λ x. IfSome x (λ s. (reading_of both).stream ≡ Some s)) e more.stream))
      by None e = ap (λ frames. each frames (hears k None) aside) nothing ∙ sym (ap (λ frames. each frames (hears k (reading_of both).stream) aside) nothing)
        where
          nothing : new_frames i.bytes first ≡ []
          nothing = none_dropped (length (reading_of i.bytes).frames) (reading_of one).frames (law.nameless one e)

  -- ---- the first piece leaves the stream sound

  abbrev after : Doing whole listed
  after = inbound_becomes k (with_bytes {P = whole} one) (heard (reading_of one).stream)

  first_does : (reading_of one).end ≡ None → comes k first (at_work n) ≡ after
  first_does none = piece_does first ∙ ap (λ x. comes_with {P = whole} {E = listed} k [] one (new_frames i.bytes first) (reading_of one).stream x (at_work n)) none

  is_there_after : IsThere (inbound_at k after.node) one
  is_there_after = is_there k one after.node.inbound (changed_bytes k [] one (heard (reading_of one).stream).node.inbound (still_aside (reading_of one).stream))

  second_came : (reading_of one).end ≡ None → came_whole second one ≡ both
  second_came none = ap (λ x. cond (is_some x) one (one ++ second)) none ∙ append_assoc i.bytes first second

  second_does : (reading_of one).end ≡ None → comes k second after ≡ comes_with {P = whole} {E = listed} k [] both (new_frames one second) (reading_of both).stream (reading_of both).end after
  second_does none =
      ap (λ x. comes_on k second x after) is_there_after.there
      ∙ ap (λ (b : List ℕ). comes_with {P = whole} {E = listed} k [] (came_whole second b) (new_frames b second) (reading_of (came_whole second b)).stream (reading_of (came_whole second b)).end after) is_there_after.same
      ∙ ap (λ (b : List ℕ). comes_with {P = whole} {E = listed} k [] b (new_frames one second) (reading_of b).stream (reading_of b).end after) (second_came none)

  -- the frames of the second piece are heard, and what came is put back
  abbrev rest : Doing whole listed → Doing whole listed
  rest d = (each (new_frames one second) (hears k (reading_of both).stream) ▸ inbound_becomes k (with_bytes {P = whole} both) ▸ ends_broken k (reading_of both).end) d

  aside_again : inbound_becomes k (with_bytes {P = whole} []) after ≡ heard (reading_of one).stream
  aside_again = ap (λ is. record (heard (reading_of one).stream) { node = record (heard (reading_of one).stream).node { inbound = is } })
      (put_and_aside k [] one (heard (reading_of one).stream).node.inbound (still_aside (reading_of one).stream))

  joined_does : comes k (first ++ second) (at_work n) ≡ rest (heard (reading_of both).stream)
  joined_does =
      piece_does (first ++ second)
      ∙ ap (λ frames. comes_with {P = whole} {E = listed} k [] both frames (reading_of both).stream (reading_of both).end (at_work n)) (law.joined i.bytes first second)
      ∙ ap (λ d. (inbound_becomes k (with_bytes {P = whole} both) ▸ ends_broken k (reading_of both).end) d) (each_joined (new_frames i.bytes first) (new_frames one second) (hears k (reading_of both).stream) aside)

  goes_on : (reading_of one).end ≡ None → (comes k first ▸ comes k second) (at_work n) ≡ comes k (first ++ second) (at_work n)
  goes_on none = ap (comes k second) (first_does none) ∙ second_does none ∙ ap rest aside_again ∙ ap rest same_stream ∙ sym joined_does

  -- ---- the first piece breaks it

  same_reading : (fault : FrameFault) → (reading_of one).end ≡ Some fault → reading_of both ≡ reading_of one
  same_reading fault broken = subst (λ b. reading_of b ≡ reading_of one) (append_assoc i.bytes first second) (subst (λ x. IfSome x (λ _. reading_of (one ++ second) ≡ reading_of one)) broken (law.longer one second).fault)

  -- the connection is gone
  abbrev gone : FrameFault → List ℕ → Doing whole listed
  gone fault bytes = (inbound_becomes k (with_bytes {P = whole} bytes) ▸ ends_broken k (Some fault)) (heard (reading_of one).stream)

  gone_same : (fault : FrameFault) (a b : List ℕ) → gone fault a ≡ gone fault b
  gone_same fault a b = ap (λ is. record (gone fault b) { node = record (gone fault b).node { inbound = is } })
      (gone_alike k a (heard (reading_of one).stream).node.inbound ∙ sym (gone_alike k b (heard (reading_of one).stream).node.inbound))

  first_breaks : (fault : FrameFault) → (reading_of one).end ≡ Some fault → comes k first (at_work n) ≡ gone fault one
  first_breaks fault broken = piece_does first ∙ ap (λ x. comes_with {P = whole} {E = listed} k [] one (new_frames i.bytes first) (reading_of one).stream x (at_work n)) broken

  joined_breaks : (fault : FrameFault) → (reading_of one).end ≡ Some fault → comes k (first ++ second) (at_work n) ≡ gone fault both
  joined_breaks fault broken =
      piece_does (first ++ second)
      ∙ ap (λ (r : Reading). comes_with {P = whole} {E = listed} k [] both (drop (length (reading_of i.bytes).frames) r.frames) r.stream r.end (at_work n)) (same_reading fault broken)
      ∙ ap (λ x. comes_with {P = whole} {E = listed} k [] both (new_frames i.bytes first) (reading_of one).stream x (at_work n)) broken

  breaks : (fault : FrameFault) → (reading_of one).end ≡ Some fault → IsJoined (Some fault) k ((comes k first ▸ comes k second) (at_work n)) (comes k (first ++ second) (at_work n))
  breaks fault broken =
      ap (comes k second) (first_breaks fault broken ∙ gone_same fault one both)
      ∙ ap (λ x. comes_on k second x (gone fault both)) (gone_is_gone k (inbound_becomes k (with_bytes {P = whole} both) (heard (reading_of one).stream)).node.inbound)
      ∙ ap (λ (d : Doing whole listed). record d { deeds = d.deeds ++ Hangs (Inward k) ∷ [] }) (sym (joined_breaks fault broken))

  by_end : (x : Option FrameFault) → (reading_of one).end ≡ x → IsJoined x k ((comes k first ▸ comes k second) (at_work n)) (comes k (first ++ second) (at_work n))
  by_end None e = goes_on e
  by_end (Some fault) e = breaks fault e

  pub cuts : IsJoined (reading_of one).end k ((comes k first ▸ comes k second) (at_work n)) (comes k (first ++ second) (at_work n))
  cuts = by_end (reading_of one).end refl
