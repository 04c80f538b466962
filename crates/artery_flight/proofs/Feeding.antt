-- The bytes that a node had of the connections that reach it.
use Rattle.std.proofs.Common.{◌≡◌, ℕ, zero, suc, ◌+◌, Bool, true, cond, List, [], ◌∷◌, ◌++◌, length, take, drop, refl, sym, ◌∙◌, ap, subst, arith, append_assoc, append-nil, take-append-drop}
use Rattle.std.specs.Prelude.{None, Some, is_some, min, slice_get, slice_set}
use Rattle.std.specs.List.{flat_map}
use Rattle.artery_base.specs.Words.{IsPrefix}
use Rattle.artery_frame.specs.Stream.{reading_of, new_frames}
use Rattle.artery_machine.specs.Parts.{came_whole}
use Rattle.artery_machine.specs.Ways.{Wrote, bytes_on}
use Rattle.artery_machine.specs.Connections.{is_inward, undelivered_on, with_delivered}
use Rattle.artery_flight.proofs.Lists.{flat_append, by_test, on_cond, not_both, Each, each_get, each_set, count, count_set, single_set}
use Rattle.artery_flight.proofs.Facts.{Conn, Grows, Grow, inward_same, Stay, AllRead, TheOne, ConnFacts}
use Rattle.artery_flight.proofs.Grow.{one_weaker, one_both, grow_count}
use Rattle.artery_flight.proofs.Reading.{HasFrame, Framed}
use Rattle.artery_flight.proofs.Streams.{take_front, each_drop, take_more, reads}

-- The bytes that were delivered to an incarnation on its connection with a number, and are still to be given.
abbrev pub Rest : Type 0
Rest = ℕ → ℕ → List ℕ

abbrev pub nothing_left : Rest
nothing_left = λ u k. []

-- Some are left on one connection alone.
abbrev pub left_to : Conn → List ℕ → Rest
left_to c bytes = λ u k. cond (is_inward u k c) bytes []

-- The bytes that came, and then those that are left, are those that were delivered.
abbrev pub IsHeard : ℕ → ℕ → List ℕ → List ℕ → List Conn → Type 0
IsHeard u k bytes left cs = TheOne (is_inward u k) (λ (c : Conn). bytes ++ left ≡ take c.way.delivered (bytes_on c.way)) cs

-- ---- they stay

same_delivered : (W : ℕ → Type 0) (cs : List Conn) (c d : Conn) → Grows W c d → d.way.delivered ≡ c.way.delivered → ConnFacts cs c → take c.way.delivered (bytes_on c.way) ≡ take d.way.delivered (bytes_on d.way)
same_delivered W cs c d g s f =
    let whole_bytes : bytes_on d.way ≡ bytes_on c.way ++ flat_map (λ (x : Wrote). x.bytes) g.more.0 = ap (flat_map (λ (x : Wrote). x.bytes)) (sym g.more.1) ∙ flat_append (λ (x : Wrote). x.bytes) c.way.all g.more.0 in
    sym (ap (λ (n : ℕ). take n (bytes_on d.way)) s ∙ ap (take c.way.delivered) whole_bytes ∙ take_front c.way.delivered (bytes_on c.way) (flat_map (λ (x : Wrote). x.bytes) g.more.0) f.flies.delivered)

pub heard_later : (W : ℕ → Type 0) (cs ds : List Conn) → Grow W cs ds → Stay cs ds → Each (ConnFacts cs) cs → (u k : ℕ) (bytes left : List ℕ) → IsHeard u k bytes left cs → IsHeard u k bytes left ds
heard_later W cs ds g s f u k bytes left o = record { made = grow_count W (is_inward u k) (inward_same W u k) cs ds g ∙ o.made; holds = by cs ds g s f o.holds }
  where
    by : (xs ys : List Conn) → Grow W xs ys → Stay xs ys → Each (ConnFacts cs) xs → Each (λ (c : Conn). is_inward u k c ≡ true → bytes ++ left ≡ take c.way.delivered (bytes_on c.way)) xs
        → Each (λ (c : Conn). is_inward u k c ≡ true → bytes ++ left ≡ take c.way.delivered (bytes_on c.way)) ys
    by [] [] g s f h = tt
    by [] (y ∷ ys) g s f h = absurd g
    by (x ∷ xs) [] g s f h = absurd g
    by (x ∷ xs) (y ∷ ys) g s f h = ((λ t. h.0 (sym (inward_same W u k x y g.0) ∙ t) ∙ same_delivered W cs x y g.0 s.0 f.0), by xs ys g.1 s.1 f.1 h.1)

pub heard_left : (u k : ℕ) (bytes left more : List ℕ) (cs : List Conn) → left ≡ more → IsHeard u k bytes left cs → IsHeard u k bytes more cs
heard_left u k bytes left more cs e o = subst (λ bs. IsHeard u k bytes bs cs) e o

-- ---- a piece comes

piece_front : (c : Conn) (bytes piece left : List ℕ) → bytes ++ (piece ++ left) ≡ take c.way.delivered (bytes_on c.way) → IsPrefix (bytes ++ piece) (bytes_on c.way)
piece_front c bytes piece left e = (
  left ++ drop c.way.delivered (bytes_on c.way),
  sym (append_assoc (bytes ++ piece) left (drop c.way.delivered (bytes_on c.way)))
      ∙ ap (λ bs. bs ++ drop c.way.delivered (bytes_on c.way)) (append_assoc bytes piece left ∙ e)
      ∙ take-append-drop c.way.delivered (bytes_on c.way),
)

bytes_front : (c : Conn) (bytes left : List ℕ) → bytes ++ left ≡ take c.way.delivered (bytes_on c.way) → IsPrefix bytes (bytes_on c.way)
bytes_front c bytes left e = (
  left ++ drop c.way.delivered (bytes_on c.way),
  sym (append_assoc bytes left (drop c.way.delivered (bytes_on c.way)))
      ∙ ap (λ bs. bs ++ drop c.way.delivered (bytes_on c.way)) e
      ∙ take-append-drop c.way.delivered (bytes_on c.way),
)

one_each : (u k : ℕ) (cs : List Conn) (frames : List (List ℕ)) → TheOne (is_inward u k) (λ (c : Conn). Each (HasFrame c) frames) cs → Each (λ frame. Framed u k frame cs) frames
one_each u k cs [] o = tt
one_each u k cs (frame ∷ frames) o = (one_weaker (is_inward u k) _ _ cs (λ c t h. h.0) o, one_each u k cs frames (one_weaker (is_inward u k) _ _ cs (λ c t h. h.1) o))

-- the frames that it completes were written
pub piece_frames : (u k : ℕ) (bytes piece left : List ℕ) (cs : List Conn) → AllRead cs → Each (ConnFacts cs) cs → IsHeard u k bytes (piece ++ left) cs → Each (λ frame. Framed u k frame cs) (new_frames bytes piece)
piece_frames u k bytes piece left cs a f o =
    one_each u k cs (new_frames bytes piece)
    (one_weaker (is_inward u k) _ _ cs
    (λ c t h. each_drop (HasFrame c) (length (reading_of bytes).frames) (reading_of (bytes ++ piece)).frames (reads c (bytes ++ piece) h.0.flies.written h.1.0 (piece_front c bytes piece left h.1.1)).frames)
    (one_both (is_inward u k) (ConnFacts cs) _ cs f (one_both (is_inward u k) _ _ cs a o)))

came_open : (bytes piece : List ℕ) → (reading_of bytes).end ≡ None → came_whole piece bytes ≡ bytes ++ piece
came_open bytes piece e = ap (λ x. cond (is_some x) bytes (bytes ++ piece)) e

-- and it is had then
pub piece_heard : (u k : ℕ) (bytes piece left : List ℕ) (cs : List Conn) → AllRead cs → Each (ConnFacts cs) cs → IsHeard u k bytes (piece ++ left) cs → IsHeard u k (came_whole piece bytes) left cs
piece_heard u k bytes piece left cs a f o = one_weaker (is_inward u k) _ _ cs
    (λ c t h. ap (λ bs. bs ++ left) (came_open bytes piece (reads c bytes h.0.flies.written h.1.0 (bytes_front c bytes (piece ++ left) h.1.1)).sound) ∙ append_assoc bytes piece left ∙ h.1.1)
    (one_both (is_inward u k) (ConnFacts cs) _ cs f (one_both (is_inward u k) _ _ cs a o))

-- ---- more is delivered

more_delivered : (n : ℕ) (c : Conn) → take (with_delivered n c).way.delivered (bytes_on c.way) ≡ take c.way.delivered (bytes_on c.way) ++ take n (undelivered_on c)
more_delivered n c = on_cond (λ (bs : List ℕ). take (c.way.delivered + min n (length bs)) (bytes_on c.way) ≡ take c.way.delivered (bytes_on c.way) ++ take n bs) c.way.is_open (drop c.way.delivered (bytes_on c.way)) []
    (λ t. take_more c.way.delivered n (bytes_on c.way))
    (λ t. ap (λ (k : ℕ). take k (bytes_on c.way)) (let e : c.way.delivered + min n 0 ≡ c.way.delivered = omega arith in e) ∙ sym (append-nil (take c.way.delivered (bytes_on c.way))) ∙ ap (λ bs. take c.way.delivered (bytes_on c.way) ++ bs) (sym (nothing n)))
  where
    none : List ℕ
    none = []

    nothing : (k : ℕ) → take k [] ≡ none
    nothing zero = refl
    nothing (suc k) = refl

pub delivered_heard : (n i : ℕ) (c : Conn) (cs : List Conn) → slice_get cs i ≡ Some c → (u k : ℕ) (bytes : List ℕ) → IsHeard u k bytes [] cs → IsHeard u k bytes (left_to c (take n (undelivered_on c)) u k) (slice_set cs i (with_delivered n c))
delivered_heard n i c cs e u k bytes o = by_test (is_inward u k c)
    (λ t. heard_left u k bytes added (left_to c added u k) _ (sym (ap (λ (b : Bool). cond b added []) t)) (record {
      made = made;
      holds = single_set (is_inward u k) Q cs i c (with_delivered n c) (let m : count (is_inward u k) cs ≡ 1 = o.made in omega arith) e t
          (ap (λ bs. bs ++ added) (sym (append-nil bytes) ∙ each_get (λ (d : Conn). is_inward u k d ≡ true → bytes ++ [] ≡ take d.way.delivered (bytes_on d.way)) cs i c o.holds e t) ∙ sym (more_delivered n c));
    }))
    (λ t. heard_left u k bytes [] (left_to c added u k) _ (sym (ap (λ (b : Bool). cond b added []) t)) (record {
      made = made;
      holds = each_set _ cs i (with_delivered n c) o.holds (λ s. not_both s t);
    }))
  where
    added : List ℕ
    added = take n (undelivered_on c)

    Q : Conn → Type 0
    Q d = bytes ++ added ≡ take d.way.delivered (bytes_on d.way)

    made : count (is_inward u k) (slice_set cs i (with_delivered n c)) ≡ 1
    made = count_set (is_inward u k) cs i c (with_delivered n c) e refl ∙ o.made
