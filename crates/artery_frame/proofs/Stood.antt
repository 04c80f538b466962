-- What a `Deframer` keeps stands for what was fed and given, through each call.
use Rattle.std.proofs.Common.{◌≡◌, ℕ, zero, suc, ◌+◌, ◌<◌, ◌≤◌, Bool, false, is_some, List, [], ◌∷◌, ◌++◌, length, take, drop, refl, sym, ap, subst, ◌∙◌, arith, inl, inr, Option, Some, None, Result, Ok, Err, length-drop, length-append, append_assoc}
use Rattle.std.proofs.lemmas.List.{drop-drop, drop-append-le, take_all, take_more}
use Rattle.std.proofs.lemmas.Option.{slice_get_past, slice_get_within, get_or_from_slice_get}
use Rattle.std.proofs.lemmas.Bool.{cases_lt}
use Rattle.std.specs.Prelude.{slice_get}
use Rattle.artery_frame.specs.declared.stream.Stream.{Stream}
use Rattle.artery_frame.specs.declared.fault.FrameFault.{FrameFault}
use Rattle.artery_frame.specs.declared.fault.FrameFault.TheVariants.{TooLong}
use Rattle.artery_frame.specs.Stream.{Reading, reading_of, reading_by, preamble_of, front_of, frames_in, span, fault_of}
use Rattle.artery_frame.specs.Kept.{Kept, told, nothing_kept, settled_by, after_preamble, kept_fed, kept_answer, answer_by, preamble_answer, kept_given, given_by, unless_broken, LeavesHeld}
use Rattle.artery_frame.specs.Standing.{Stands, StandsBy, HasEnded, given_out, next_of, after_all, with_answer, AfterNext}
use Rattle.artery_frame.proofs.Fronts.{front_says, front_fault, Says}
use Rattle.artery_frame.proofs.Frames.{AreFirst, front_next, span_within, first_stay}
use Rattle.artery_frame.proofs.Preambles.{preamble_stays, preamble_len, preamble_short, preamble_place}
use Rattle.artery_frame.proofs.Readings.{reading_at, fits_behind}
use Rattle.artery_frame.proofs.Holding.{leaves}

-- nothing says nothing
nothing_read : preamble_of [] ≡ Ok None
unfolding preamble_of
nothing_read = refl

-- a new one stands for nothing fed and nothing given
pub starts : (room : Bool) → Stands (nothing_kept room) [] []
starts room =
    let P : Reading → Type 0 = λ r. StandsBy (nothing_kept room) r [] [] in
    subst P (sym (reading_at [] (Ok None) nothing_read)) (record { stream = refl; first = refl; rest = refl; place = refl; fault = tt })

-- without an id all that was fed is left
no_id_rest : (fed : List ℕ) (stream : Option Stream) (rest : List ℕ) → stream ≡ None → rest ≡ drop (given_out stream []) fed → rest ≡ fed
no_id_rest fed stream rest s r = r ∙ ap (λ (t : Option Stream). drop (given_out t []) fed) s

no_id_yet : (fed : List ℕ) (stream : Option Stream) (rest : List ℕ) → stream ≡ None → rest ≡ drop (given_out stream []) fed
    → answer_by None stream rest ≡ preamble_answer (preamble_of fed)
no_id_yet fed stream rest s r = ap (λ (t : Option Stream). answer_by None t rest) s ∙ ap (λ (w : List ℕ). answer_by None None w) (no_id_rest fed stream rest s r)

-- what comes next, where the preamble is known
answer_from : (p : Result (Option Stream) FrameFault) (fed : List ℕ) (given : List (List ℕ)) (fault : Option FrameFault) (stream : Option Stream) (rest : List ℕ)
    → preamble_of fed ≡ p → stream ≡ (reading_by fed p).stream → AreFirst given (reading_by fed p).frames → rest ≡ drop (given_out stream given) fed
    → HasEnded fault (reading_by fed p) given → answer_by fault stream rest ≡ next_of (reading_by fed p) given
answer_from p fed given (Some fault) stream rest e s f r h =
    let past : slice_get (reading_by fed p).frames (length given) ≡ None = slice_get_past (reading_by fed p).frames (length given) (omega (arith, ap length h.0)) in
    sym (rw (past, h.1) refl)
answer_from (Ok None) fed [] None stream rest e s f r h = no_id_yet fed stream rest s r ∙ ap preamble_answer e
answer_from (Ok None) fed (g ∷ gs) None stream rest e s f r h = absurd (cc)
answer_from (Err x) fed [] None stream rest e s f r h = no_id_yet fed stream rest s r ∙ ap preamble_answer e
answer_from (Err x) fed (g ∷ gs) None stream rest e s f r h = absurd (cc)
answer_from (Ok (Some st)) fed given None stream rest e s f r h =
    let left : rest ≡ drop (span given) (drop 5 fed) = r ∙ ap (λ (t : Option Stream). drop (given_out t given) fed) s ∙ sym (drop-drop (span given) 5 fed) in
    rw (s, left) (front_next (length fed) (drop 5 fed) given (fits_behind fed 5) f)

-- the answer is what comes next
pub answers : (k : Kept) (fed : List ℕ) (given : List (List ℕ)) → Stands k fed given → kept_answer k ≡ next_of (reading_of fed) given
answers k fed given h =
    let P : Reading → Type 0 = λ r. StandsBy k r fed given in
    let w = reading_at fed (preamble_of fed) refl in
    let s : StandsBy k (reading_by fed (preamble_of fed)) fed given = subst P w h in
    answer_from (preamble_of fed) fed given k.fault k.stream k.rest refl s.stream s.first s.rest s.fault ∙ ap (λ (r : Reading). next_of r given) (sym w)

-- what a call of `next` leaves, by its parts
abbrev Leaves : Kept → Reading → List ℕ → List (List ℕ) → Result (Option (List ℕ)) FrameFault → Type 0
Leaves k r fed given answer = StandsBy (given_by k answer) r fed (with_answer given answer)

-- the next frame was given
frame_given : (k : Kept) (p : Result (Option Stream) FrameFault) (fed : List ℕ) (given : List (List ℕ)) (frame : List ℕ)
    → StandsBy k (reading_by fed p) fed given → k.fault ≡ None → slice_get (reading_by fed p).frames (length given) ≡ Some frame
    → Leaves k (reading_by fed p) fed given (Ok (Some frame))
frame_given k (Ok None) fed given frame h n e = absurd (cc)
frame_given k (Err fault) fed given frame h n e = absurd (cc)
frame_given k (Ok (Some stream)) fed given frame h n e =
    let frames = frames_in (length fed) (drop 5 fed) in
    let more : given ++ frame ∷ [] ≡ take (length given + 1) frames
    = ap (λ (fs : List (List ℕ)). fs ++ frame ∷ []) h.first ∙ sym (take_more frames (length given) frame (slice_get_within frames (length given) frame e) ∙ ap (λ (f : List ℕ). take (length given) frames ++ f ∷ []) (get_or_from_slice_get frames (length given) frame frame e)) in
    let count : length (given ++ frame ∷ []) ≡ length given + 1 = omega (arith, length-append given (frame ∷ [])) in
    let longer = span_push given frame in
    record {
      stream = h.stream;
      first = rw count more;
      rest = rw (h.rest, h.stream, drop-drop (4 + length frame) (5 + span given) fed, longer) (ap (λ (i : ℕ). drop i fed) (let i : (5 + span given) + (4 + length frame) ≡ 5 + (span given + (4 + length frame)) = omega arith in i));
      place = rw (h.place, n, longer) (omega arith);
      fault = rw n tt;
    } where
      span_push : (given : List (List ℕ)) (frame : List ℕ) → span (given ++ frame ∷ []) ≡ span given + (4 + length frame)
      span_push [] frame = omega arith
      span_push (g ∷ gs) frame = omega (arith, span_push gs frame)

-- the fault was answered
fault_given : (k : Kept) (p : Result (Option Stream) FrameFault) (fed : List ℕ) (given : List (List ℕ)) (fault : FrameFault)
    → preamble_of fed ≡ p → StandsBy k (reading_by fed p) fed given → k.fault ≡ None → given ≡ (reading_by fed p).frames → (reading_by fed p).end ≡ Some fault
    → Leaves k (reading_by fed p) fed given (Err fault)
fault_given k (Ok None) fed given fault e h n all end = absurd (cc)
fault_given k (Err x) fed given fault e h n all end =
    let same : x ≡ fault = cc in
    record { stream = h.stream; first = h.first; rest = h.rest; fault = (all, end); place = rw (← same) (preamble_place fed x e k.place) }
fault_given k (Ok (Some stream)) fed given fault e h n all end =
    let frames = frames_in (length fed) (drop 5 fed) in
    let long = by_end (front_of (drop (span frames) (drop 5 fed))) refl end in
    record {
      stream = h.stream;
      first = h.first;
      rest = h.rest;
      fault = (all, end);
      place = rw long.1 (h.place ∙ rw n (ap (λ (fs : List (List ℕ)). told (5 + span fs)) all));
    } where
      by_end : (front : Result (Option (List ℕ)) FrameFault) → front_of (drop (span (frames_in (length fed) (drop 5 fed))) (drop 5 fed)) ≡ front → fault_of front ≡ Some fault → (len : ℕ) × (fault ≡ TooLong len)
      by_end (Ok x) w m = absurd (cc)
      by_end (Err x) w m = let same : x ≡ fault = cc in let long = front_fault _ x w in (long.0, sym same ∙ long.1)

-- where the next is no frame, all were given
all_given : (frames given : List (List ℕ)) → AreFirst given frames → slice_get frames (length given) ≡ None → given ≡ frames
all_given frames given f e = f ∙ take_all (length given) frames (none_past frames (length given) e) where
  none_past : (frames : List (List ℕ)) (n : ℕ) → slice_get frames n ≡ None → length frames ≤ n
  none_past [] n e = omega arith
  none_past (x ∷ xs) zero e = absurd (cc)
  none_past (x ∷ xs) (suc n) e = omega (arith, none_past xs n e)

leaves_by : (k : Kept) (p : Result (Option Stream) FrameFault) (fed : List ℕ) (given : List (List ℕ)) → preamble_of fed ≡ p → StandsBy k (reading_by fed p) fed given → k.fault ≡ None
    → (end : Option FrameFault) (next : Option (List ℕ)) → (reading_by fed p).end ≡ end → slice_get (reading_by fed p).frames (length given) ≡ next
    → Leaves k (reading_by fed p) fed given (after_all end next)
leaves_by k p fed given e h n end (Some frame) m w = frame_given k p fed given frame h n w
leaves_by k p fed given e h n None None m w = h
leaves_by k p fed given e h n (Some fault) None m w = fault_given k p fed given fault e h n (all_given (reading_by fed p).frames given h.first w) m

-- what is kept after a call of `next`, where no fault was answered before
unbroken : (k : Kept) (fed : List ℕ) (given : List (List ℕ)) → Stands k fed given → k.fault ≡ None → Leaves k (reading_of fed) fed given (kept_answer k)
unbroken k fed given h n =
    let w = reading_at fed (preamble_of fed) refl in
    let P : Reading → Type 0 = λ r. StandsBy k r fed given in
    let Q : Reading → Type 0 = λ r. Leaves k r fed given (next_of r given) in
    let R : Result (Option (List ℕ)) FrameFault → Type 0 = λ a. Leaves k (reading_of fed) fed given a in
    subst R (sym (answers k fed given h)) (subst Q (sym w) (leaves_by k (preamble_of fed) fed given refl (subst P w h) n _ _ refl refl))

given_from : (k : Kept) (fed : List ℕ) (given : List (List ℕ)) (fault : Option FrameFault) → Stands k fed given → k.fault ≡ fault
    → StandsBy (unless_broken fault k (given_by k (kept_answer k))) (reading_of fed) fed (with_answer given (kept_answer k))
given_from k fed given None h e = unbroken k fed given h e
given_from k fed given (Some fault) h e =
    let P : Result (Option (List ℕ)) FrameFault → Type 0 = λ a. StandsBy k (reading_of fed) fed (with_answer given a) in
    subst P (sym (ap (λ (f : Option FrameFault). answer_by f k.stream k.rest) e)) h

-- what is kept after a call of `next` stands for the frames given
pub gives : (k : Kept) (fed : List ℕ) (given : List (List ℕ)) → Stands k fed given → Stands (kept_given k) fed (with_answer given (kept_answer k))
gives k fed given h = given_from k fed given k.fault h refl

-- a piece behind an id
fed_framed : (k : Kept) (fed piece : List ℕ) (given : List (List ℕ)) (stream : Stream) → preamble_of fed ≡ Ok (Some stream) → StandsBy k (reading_by fed (Ok (Some stream))) fed given → k.fault ≡ None
    → StandsBy (record k { rest = k.rest ++ piece }) (reading_by (fed ++ piece) (Ok (Some stream))) (fed ++ piece) given
fed_framed k fed piece given stream e h n =
    let five = preamble_len fed stream e in
    let cut : drop 5 (fed ++ piece) ≡ drop 5 fed ++ piece = drop-append-le 5 fed piece five in
    let within = span_within (length fed) (drop 5 fed) given h.first in
    let stay = first_stay (length fed) (length (fed ++ piece)) (drop 5 fed) piece given (rw (← cut) (fits_behind (fed ++ piece) 5)) h.first in
    let out : 5 + span given ≤ length fed = omega (arith, within, length-drop 5 fed, five) in
    record {
      stream = h.stream;
      first = rw cut stay;
      rest = rw h.stream (ap (λ (w : List ℕ). w ++ piece) (h.rest ∙ ap (λ (t : Option Stream). drop (given_out t given) fed) h.stream) ∙ sym (drop-append-le (5 + span given) fed piece out));
      place = h.place ∙ rw n refl;
      fault = rw n tt;
    }

-- a piece while no id has come
fed_first : (k : Kept) (fed : List ℕ) (given : List (List ℕ)) (p : Result (Option Stream) FrameFault) → preamble_of fed ≡ p → k.rest ≡ fed → k.fault ≡ None → given ≡ [] → k.place ≡ 0 → k.stream ≡ None
    → StandsBy (after_preamble k p) (reading_by fed p) fed given
fed_first k fed given (Ok None) e r f g z s = rw (g) (record { stream = s; first = refl; rest = r ∙ rw s refl; place = z ∙ rw f refl; fault = rw f tt })
fed_first k fed given (Err x) e r f g z s = rw (g) (record { stream = s; first = refl; rest = r ∙ rw s refl; place = z ∙ rw f refl; fault = rw f tt })
fed_first k fed given (Ok (Some stream)) e r f g z s = rw (g) (record { stream = refl; first = refl; rest = ap (drop 5) r; place = rw f refl; fault = rw f tt })

no_id_all : (given : List (List ℕ)) → given ≡ take (length given) [] → given ≡ []
no_id_all [] f = refl
no_id_all (g ∷ gs) f = absurd (cc)

fed_early : (k : Kept) (fed piece : List ℕ) (given : List (List ℕ)) → k.stream ≡ None → given ≡ [] → k.rest ≡ drop (given_out k.stream given) fed → k.place ≡ 0 → k.fault ≡ None
    → Stands (kept_fed piece k) (fed ++ piece) given
fed_early k fed piece given s g r z n =
    let rest : k.rest ++ piece ≡ fed ++ piece = ap (λ (w : List ℕ). w ++ piece) (r ∙ ap (λ (t : Option Stream). drop (given_out t given) fed) s) in
    let more : Kept = record k { rest = k.rest ++ piece } in
    let p = preamble_of (fed ++ piece) in
    let P : Reading → Type 0 = λ r. StandsBy (after_preamble more p) r (fed ++ piece) given in
    let Q : Result (Option Stream) FrameFault → Type 0 = λ q. StandsBy (after_preamble more q) (reading_of (fed ++ piece)) (fed ++ piece) given in
    let R : Option Stream → Type 0 = λ t. StandsBy (settled_by more t) (reading_of (fed ++ piece)) (fed ++ piece) given in
    subst R (sym s) (subst Q (ap preamble_of (sym rest)) (subst P (sym (reading_at (fed ++ piece) p refl)) (fed_first more (fed ++ piece) given p refl rest n g z s)))

fed_from : (k : Kept) (fed piece : List ℕ) (given : List (List ℕ)) (p : Result (Option Stream) FrameFault) → preamble_of fed ≡ p → StandsBy k (reading_by fed p) fed given → k.fault ≡ None
    → Stands (kept_fed piece k) (fed ++ piece) given
fed_from k fed piece given (Ok (Some stream)) e h n =
    let P : Reading → Type 0 = λ r. StandsBy (record k { rest = k.rest ++ piece }) r (fed ++ piece) given in
    let Q : Option Stream → Type 0 = λ t. StandsBy (settled_by (record k { rest = k.rest ++ piece }) t) (reading_of (fed ++ piece)) (fed ++ piece) given in
    subst Q (sym h.stream) (subst P (sym (reading_at (fed ++ piece) (Ok (Some stream)) (preamble_stays fed piece stream e))) (fed_framed k fed piece given stream e h n))
fed_from k fed piece given (Ok None) e h n = fed_early k fed piece given h.stream (no_id_all given h.first) h.rest (h.place ∙ rw n refl) n
fed_from k fed piece given (Err x) e h n = fed_early k fed piece given h.stream (no_id_all given h.first) h.rest (h.place ∙ rw n refl) n

-- what is kept after a piece stands for the piece too
pub feeds : (k : Kept) (fed piece : List ℕ) (given : List (List ℕ)) → Stands k fed given → k.fault ≡ None → Stands (kept_fed piece k) (fed ++ piece) given
feeds k fed piece given h n =
    let P : Reading → Type 0 = λ r. StandsBy k r fed given in
    fed_from k fed piece given (preamble_of fed) refl (subst P (reading_at fed (preamble_of fed) refl) h) n

-- where there is nothing to give, less than a frame with its length is held
small_front : (rest : List ℕ) → front_of rest ≡ Ok None → length rest < 262148
small_front rest e =
    let P : Result (Option (List ℕ)) FrameFault → Type 0 = Says rest in
    let s : Says rest (Ok None) = subst P e (front_says rest) in
    elim (cases_lt (length rest) 4) [ inl h ↦ omega arith | inr h ↦ (let t = s h in omega (arith, t.0, t.1)) ]

small_by : (fed : List ℕ) (given : List (List ℕ)) (p : Result (Option Stream) FrameFault) (fault : Option FrameFault) (stream : Option Stream) (rest : List ℕ)
    → preamble_of fed ≡ p → stream ≡ (reading_by fed p).stream → given ≡ take (length given) (reading_by fed p).frames → rest ≡ drop (given_out stream given) fed
    → answer_by fault stream rest ≡ Ok None → length rest < 262148
small_by fed given p (Some fault) stream rest e s f r a = absurd (cc)
small_by fed given p None (Some stream) rest e s f r a = small_front rest a
small_by fed given (Ok (Some stream)) None None rest e s f r a = absurd (cc)
small_by fed given (Err fault) None None rest e s f r a = absurd (let k : preamble_answer (preamble_of fed) ≡ Ok None = ap (λ (w : List ℕ). preamble_answer (preamble_of w)) (sym r) ∙ a in let m : preamble_answer (Err fault) ≡ Ok None = ap preamble_answer (sym e) ∙ k in cc)
small_by fed given (Ok None) None None rest e s f r a = rw r (let h = preamble_short fed e in omega arith)

pub held_small : (k : Kept) (fed : List ℕ) (given : List (List ℕ)) → Stands k fed given → kept_answer k ≡ Ok None → length k.rest < 262148
held_small k fed given h a =
    let P : Reading → Type 0 = λ r. StandsBy k r fed given in
    let s : StandsBy k (reading_by fed (preamble_of fed)) fed given = subst P (reading_at fed (preamble_of fed) refl) h in
    small_by fed given (preamble_of fed) k.fault k.stream k.rest refl s.stream s.first s.rest a

-- two pieces one after the other are the joined piece
abbrev of_parts : List ℕ → ℕ → Option Stream → Option FrameFault → Bool → Kept
of_parts rest place stream fault room = record { rest = rest; place = place; stream = stream; fault = fault; has_room = room }

join_by : (rest a b : List ℕ) (place : ℕ) (fault : Option FrameFault) (room : Bool) (p : Result (Option Stream) FrameFault) → preamble_of (rest ++ a) ≡ p
    → kept_fed b (after_preamble (of_parts (rest ++ a) place None fault room) p) ≡ after_preamble (of_parts (rest ++ (a ++ b)) place None fault room) (preamble_of (rest ++ (a ++ b)))
join_by rest a b place fault room (Ok None) e = ap (λ (w : List ℕ). after_preamble (of_parts w place None fault room) (preamble_of w)) (append_assoc rest a b)
join_by rest a b place fault room (Err x) e = ap (λ (w : List ℕ). after_preamble (of_parts w place None fault room) (preamble_of w)) (append_assoc rest a b)
join_by rest a b place fault room (Ok (Some s)) e =
    let stay : preamble_of (rest ++ (a ++ b)) ≡ Ok (Some s) = ap preamble_of (sym (append_assoc rest a b)) ∙ preamble_stays (rest ++ a) b s e in
    let cut : drop 5 (rest ++ a) ++ b ≡ drop 5 (rest ++ (a ++ b)) = sym (drop-append-le 5 (rest ++ a) b (preamble_len (rest ++ a) s e)) ∙ ap (drop 5) (append_assoc rest a b) in
    rw stay (ap (λ (w : List ℕ). of_parts w 5 (Some s) fault room) cut)

join_parts : (rest a b : List ℕ) (place : ℕ) (stream : Option Stream) (fault : Option FrameFault) (room : Bool)
    → kept_fed b (kept_fed a (of_parts rest place stream fault room)) ≡ kept_fed (a ++ b) (of_parts rest place stream fault room)
join_parts rest a b place (Some s) fault room = ap (λ (w : List ℕ). of_parts w place (Some s) fault room) (append_assoc rest a b)
join_parts rest a b place None fault room = join_by rest a b place fault room (preamble_of (rest ++ a)) refl

pub joined : (k : Kept) (a b : List ℕ) → kept_fed b (kept_fed a k) ≡ kept_fed (a ++ b) k
joined k a b = join_parts k.rest a b k.place k.stream k.fault k.has_room

-- what is held and what was given out are what was fed
held_by : (fed : List ℕ) (given : List (List ℕ)) (p : Result (Option Stream) FrameFault) (stream : Option Stream) (rest : List ℕ)
    → preamble_of fed ≡ p → stream ≡ (reading_by fed p).stream → given ≡ take (length given) (reading_by fed p).frames → rest ≡ drop (given_out stream given) fed
    → length rest + given_out (reading_by fed p).stream given ≡ length fed
held_by fed given (Ok None) stream rest e s f r = rw (r, s) (omega arith)
held_by fed given (Err x) stream rest e s f r = rw (r, s) (omega arith)
held_by fed given (Ok (Some st)) stream rest e s f r =
    rw (r, s) (omega (arith, span_within (length fed) (drop 5 fed) given f, length-drop 5 fed, length-drop (5 + span given) fed, preamble_len fed st e))

pub held_is : (k : Kept) (fed : List ℕ) (given : List (List ℕ)) → Stands k fed given → length k.rest + given_out (reading_of fed).stream given ≡ length fed
held_is k fed given h =
    let P : Reading → Type 0 = λ r. StandsBy k r fed given in
    let w = reading_at fed (preamble_of fed) refl in
    let s : StandsBy k (reading_by fed (preamble_of fed)) fed given = subst P w h in
    rw w (held_by fed given (preamble_of fed) k.stream k.rest refl s.stream s.first s.rest)

-- a call of `next` leaves so
pub after_next : (k new : Kept) (fed : List ℕ) (given : List (List ℕ)) → new ≡ kept_given k → Stands k fed given → Stands new fed (with_answer given (kept_answer k))
after_next k new fed given e h = let P : Kept → Type 0 = λ n. Stands n fed (with_answer given (kept_answer k)) in subst P (sym e) (gives k fed given h)

-- the same, for what a call left and answered
none_from : (o : Option FrameFault) → is_some o ≡ false → o ≡ None
none_from None e = refl
none_from (Some f) e = absurd (cc)

pub feeds_on : (k new : Kept) (fed piece : List ℕ) (given : List (List ℕ)) → new ≡ kept_fed piece k → is_some k.fault ≡ false → Stands k fed given → Stands new (fed ++ piece) given
feeds_on k new fed piece given e n h = let P : Kept → Type 0 = λ w. Stands w (fed ++ piece) given in subst P (sym e) (feeds k fed piece given h (none_from k.fault n))

pub starts_so : (new : Kept) (room : Bool) → new ≡ nothing_kept room → Stands new [] []
starts_so new room e = let P : Kept → Type 0 = λ w. Stands w [] [] in subst P (sym e) (starts room)

pub answers_so : (k : Kept) (answer : Result (Option (List ℕ)) FrameFault) → answer ≡ kept_answer k → (fed : List ℕ) (given : List (List ℕ)) → Stands k fed given → answer ≡ next_of (reading_of fed) given
answers_so k answer e fed given h = e ∙ answers k fed given h

-- a piece changes neither the room nor the fault
fed_parts : (rest piece : List ℕ) (place : ℕ) (stream : Option Stream) (fault : Option FrameFault) (room : Bool)
    → ((kept_fed piece (of_parts rest place stream fault room)).has_room ≡ room) × ((kept_fed piece (of_parts rest place stream fault room)).fault ≡ fault)
fed_parts rest piece place (Some stream) fault room = (refl, refl)
fed_parts rest piece place None fault room = by_preamble (preamble_of (rest ++ piece)) where
  by_preamble : (p : Result (Option Stream) FrameFault)
      → ((after_preamble (of_parts (rest ++ piece) place None fault room) p).has_room ≡ room) × ((after_preamble (of_parts (rest ++ piece) place None fault room) p).fault ≡ fault)
  by_preamble (Ok (Some stream)) = (refl, refl)
  by_preamble (Ok None) = (refl, refl)
  by_preamble (Err fault) = (refl, refl)

pub fed_room : (k new : Kept) (piece : List ℕ) → new ≡ kept_fed piece k → new.has_room ≡ k.has_room
fed_room k new piece e = ap (λ (w : Kept). w.has_room) e ∙ (fed_parts k.rest piece k.place k.stream k.fault k.has_room).0

pub fed_fault : (k new : Kept) (piece : List ℕ) → new ≡ kept_fed piece k → new.fault ≡ k.fault
fed_fault k new piece e = ap (λ (w : Kept). w.fault) e ∙ (fed_parts k.rest piece k.place k.stream k.fault k.has_room).1

-- nor does a call of `next` change the room
given_room_by : (k : Kept) (fault : Option FrameFault) (answer : Result (Option (List ℕ)) FrameFault) → (unless_broken fault k (given_by k answer)).has_room ≡ k.has_room
given_room_by k (Some fault) answer = refl
given_room_by k None (Ok (Some frame)) = refl
given_room_by k None (Ok None) = refl
given_room_by k None (Err fault) = refl

pub after_so : (k new : Kept) (answer : Result (Option (List ℕ)) FrameFault) → new ≡ kept_given k → answer ≡ kept_answer k → AfterNext k new answer
after_so k new answer e a = record {
  kept = e;
  room = ap (λ (w : Kept). w.has_room) e ∙ given_room_by k k.fault (kept_answer k);
  held = let P : Kept → Type 0 = λ w. LeavesHeld answer k.rest w.rest in let Q : Result (Option (List ℕ)) FrameFault → Type 0 = λ x. LeavesHeld x k.rest (kept_given k).rest in subst P (sym e) (subst Q (sym a) (leaves k));
  stands = λ fed given h. let P : Result (Option (List ℕ)) FrameFault → Type 0 = λ x. Stands new fed (with_answer given x) in subst P (sym a) (after_next k new fed given e h);
}
