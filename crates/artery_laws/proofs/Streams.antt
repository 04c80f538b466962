-- What a deframer keeps once all its frames were given stands for all bytes that came.
use Rattle.std.proofs.Common.{◌≡◌, ℕ, zero, suc, ◌+◌, ◌<◌, cond, List, [], ◌∷◌, ◌++◌, length, take, drop, refl, ap, sym, ◌∙◌, subst, arith, length-append}
use Rattle.std.specs.Prelude.{Option, Some, None, IfSome, false, is_some, slice_get, Ok, Err}
use Rattle.artery_frame.specs.declared.fault.FrameFault.{FrameFault}
use Rattle.artery_frame.specs.Stream.{Reading, preamble_of, reading_of, new_frames, GoesOn}
use Rattle.artery_frame.specs.Kept.{Kept, nothing_kept, kept_fed, kept_answer, kept_given, LeavesHeld, answer_by, unless_broken, given_by}
use Rattle.artery_frame.specs.Standing.{Stands, next_of, after_all, with_answer}
pub use Rattle.artery_laws.specs.Standing.{BytesStand}
use Rattle.artery_machine.specs.Parts.{frames_given, frames_gone, given_before, answers, frames_kept, came_kept, came_whole}

-- What the laws of frames say, as far as it is needed here.
pub record FrameLaws : Type 0 where
  pub start : Stands (nothing_kept false) [] []
  pub fed : (k : Kept) (bytes piece : List ℕ) (given : List (List ℕ)) → Stands k bytes given → k.fault ≡ None → Stands (kept_fed piece k) (bytes ++ piece) given
  pub answer : (k : Kept) (bytes : List ℕ) (given : List (List ℕ)) → Stands k bytes given → kept_answer k ≡ next_of (reading_of bytes) given
  pub given : (k : Kept) (bytes : List ℕ) (given : List (List ℕ)) → Stands k bytes given → Stands (kept_given k) bytes (with_answer given (kept_answer k))
  pub less : (k : Kept) → LeavesHeld (kept_answer k) k.rest (kept_given k).rest
  pub longer : (bytes more : List ℕ) → GoesOn (reading_of bytes) (reading_of (bytes ++ more))

-- Of no bytes there is no frame and no fault.
empty_reading : reading_of [] ≡ record { stream = None; frames = []; offset = 0; end = None }
unfolding reading_of preamble_of
empty_reading = refl

-- ---- lists

pub drop_found : {X : Type 0} (xs : List X) (i : ℕ) (x : X) → slice_get xs i ≡ Some x → drop i xs ≡ x ∷ drop (suc i) xs
drop_found [] zero x e = absurd cc
drop_found [] (suc i) x e = absurd cc
drop_found (y ∷ xs) zero x e = (let t : y ≡ x = cc in ap (λ z. z ∷ xs) t)
drop_found (y ∷ xs) (suc i) x e = drop_found xs i x e

pub take_all : {X : Type 0} (xs : List X) (i : ℕ) → slice_get xs i ≡ None → take i xs ≡ xs
take_all [] zero e = refl
take_all [] (suc i) e = refl
take_all (y ∷ xs) zero e = absurd cc
take_all (y ∷ xs) (suc i) e = ap (λ l. y ∷ l) (take_all xs i e)

pub drop_all : {X : Type 0} (xs : List X) (i : ℕ) → slice_get xs i ≡ None → drop i xs ≡ []
drop_all [] zero e = refl
drop_all [] (suc i) e = refl
drop_all (y ∷ xs) zero e = absurd cc
drop_all (y ∷ xs) (suc i) e = drop_all xs i e

-- ---- taking out

pub gone_same : (n : ℕ) (k : Kept) → kept_given k ≡ k → frames_gone n k ≡ k
gone_same zero k e = refl
gone_same (suc n) k e = ap (frames_gone n) e ∙ gone_same n k e

-- an answer that tells no frame
pub not_broken : (k : Kept) → kept_answer k ≡ Ok None → k.fault ≡ None
not_broken k e = by k.fault refl
  where
    by : (f : Option FrameFault) → k.fault ≡ f → k.fault ≡ None
    by None h = h
    by (Some fault) h = (let t : answer_by (Some fault) k.stream k.rest ≡ Ok None = ap (λ x. answer_by x k.stream k.rest) (sym h) ∙ e in absurd cc)

pub stays_open : (k : Kept) → kept_answer k ≡ Ok None → kept_given k ≡ k
stays_open k e = ap (λ f. unless_broken f k (given_by k (kept_answer k))) (not_broken k e) ∙ ap (given_by k) e

pub broken_stays : (k : Kept) (fault : FrameFault) → k.fault ≡ Some fault → kept_given k ≡ k
broken_stays k fault e = ap (λ f. unless_broken f k (given_by k (kept_answer k))) e

-- a fault that was answered is told
pub tells_fault : (k : Kept) (fault : FrameFault) → kept_answer k ≡ Err fault → (kept_given k).fault ≡ Some fault
tells_fault k fault e = by k.fault refl
  where
    by : (f : Option FrameFault) → k.fault ≡ f → (kept_given k).fault ≡ Some fault
    by None h = ap (λ (x : Kept). x.fault) (ap (λ f. unless_broken f k (given_by k (kept_answer k))) h ∙ ap (given_by k) e)
    by (Some g) h = (let t : answer_by (Some g) k.stream k.rest ≡ Err fault = ap (λ x. answer_by x k.stream k.rest) (sym h) ∙ e in let s : g ≡ fault = cc in ap (λ (x : Kept). x.fault) (broken_stays k g h) ∙ h ∙ ap Some s)

module _ (law : FrameLaws) where
  -- what is given, and what is left
  pub record TakesOut (n : ℕ) (k : Kept) (bytes : List ℕ) (given : List (List ℕ)) : Type 0 where
    pub frames : frames_given n k ≡ drop (length given) (reading_of bytes).frames
    pub left : BytesStand (frames_gone n k) bytes

  abbrev TakesAll : ℕ → Type 0
  TakesAll n = (k : Kept) (bytes : List ℕ) (given : List (List ℕ)) → Stands k bytes given → length k.rest < n → TakesOut n k bytes given

  one_more : (n : ℕ) → TakesAll n → TakesAll (suc n)
  one_more n others k bytes given h l = by (slice_get (reading_of bytes).frames (length given)) refl (reading_of bytes).end refl
    where
      all_given : slice_get (reading_of bytes).frames (length given) ≡ None → given ≡ (reading_of bytes).frames
      all_given e = h.first ∙ take_all (reading_of bytes).frames (length given) e

      found : (x : Option (List ℕ)) (end : Option FrameFault) → slice_get (reading_of bytes).frames (length given) ≡ x → (reading_of bytes).end ≡ end → kept_answer k ≡ after_all end x
      found x end e f = law.answer k bytes given h ∙ ap (λ y. after_all (reading_of bytes).end y) e ∙ ap (λ y. after_all y x) f

      by : (x : Option (List ℕ)) → slice_get (reading_of bytes).frames (length given) ≡ x → (end : Option FrameFault) → (reading_of bytes).end ≡ end → TakesOut (suc n) k bytes given
      by (Some frame) e end f =
          let a : kept_answer k ≡ Ok (Some frame) = found (Some frame) end e f in
          let held : LeavesHeld (Ok (Some frame)) k.rest (kept_given k).rest = subst (λ x. LeavesHeld x k.rest (kept_given k).rest) a (law.less k) in
          let next : Stands (kept_given k) bytes (given ++ frame ∷ []) = subst (λ x. Stands (kept_given k) bytes (with_answer given x)) a (law.given k bytes given h) in
          let rest : TakesOut n (kept_given k) bytes (given ++ frame ∷ []) = others (kept_given k) bytes (given ++ frame ∷ []) next (omega (arith, held, l)) in
          let behind : length (given ++ frame ∷ []) ≡ length given + 1 = length-append given (frame ∷ []) in
          let place : length (given ++ frame ∷ []) ≡ suc (length given) = omega (arith, behind) in
          record {
            frames = ap (given_before (frames_given n (kept_given k))) a ∙ ap (λ fs. frame ∷ fs) (rest.frames ∙ ap (λ (i : ℕ). drop i (reading_of bytes).frames) place) ∙ sym (drop_found (reading_of bytes).frames (length given) frame e);
            left = rest.left;
          }
      by None e None f =
          let a : kept_answer k ≡ Ok None = found None None e f in
          let same : frames_gone (suc n) k ≡ k = gone_same (suc n) k (stays_open k a) in
          record {
            frames = ap (given_before (frames_given n (kept_given k))) a ∙ sym (drop_all (reading_of bytes).frames (length given) e);
            left = subst (λ x. BytesStand x bytes) (sym same) (record { stands = subst (Stands k bytes) (all_given e) h; fault = not_broken k a ∙ sym f });
          }
      by None e (Some fault) f =
          let a : kept_answer k ≡ Err fault = found None (Some fault) e f in
          let told : (kept_given k).fault ≡ Some fault = tells_fault k fault a in
          let same : frames_gone n (kept_given k) ≡ kept_given k = gone_same n (kept_given k) (broken_stays (kept_given k) fault told) in
          let after : Stands (kept_given k) bytes given = subst (λ x. Stands (kept_given k) bytes (with_answer given x)) a (law.given k bytes given h) in
          record {
            frames = ap (given_before (frames_given n (kept_given k))) a ∙ sym (drop_all (reading_of bytes).frames (length given) e);
            left = subst (λ x. BytesStand x bytes) (sym same) (record { stands = subst (Stands (kept_given k) bytes) (all_given e) after; fault = told ∙ sym f });
          }

  pub takes_out : (n : ℕ) → TakesAll n
  takes_out zero k bytes given h l = absurd (omega (arith, l))
  takes_out (suc n) k bytes given h l = one_more n (takes_out n) k bytes given h l

  -- ---- a piece

  pub start_stands : BytesStand (nothing_kept false) []
  start_stands = record { stands = subst (Stands (nothing_kept false) []) (sym (ap (λ (r : Reading). r.frames) empty_reading)) law.start; fault = sym (ap (λ (r : Reading). r.end) empty_reading) }

  pub carries_same : (k : Kept) (bytes : List ℕ) → BytesStand k bytes → k.stream ≡ (reading_of bytes).stream
  carries_same k bytes h = h.stands.stream

  pub piece_stands : (piece : List ℕ) (k : Kept) (bytes : List ℕ) → BytesStand k bytes → BytesStand (came_kept piece k) (came_whole piece bytes)
  piece_stands piece k bytes h = by (reading_of bytes).end refl
    where
      by : (end : Option FrameFault) → (reading_of bytes).end ≡ end → BytesStand (came_kept piece k) (came_whole piece bytes)
      by None e =
          let f : k.fault ≡ None = h.fault ∙ e in
          let t : TakesOut (answers (kept_fed piece k)) (kept_fed piece k) (bytes ++ piece) (reading_of bytes).frames =
          takes_out (answers (kept_fed piece k)) (kept_fed piece k) (bytes ++ piece) (reading_of bytes).frames (law.fed k bytes piece (reading_of bytes).frames h.stands f) (omega arith) in
          subst (λ x. BytesStand (came_kept piece k) (cond (is_some x) bytes (bytes ++ piece))) (sym e)
          (subst (λ x. BytesStand (cond (is_some x) k (frames_gone (answers (kept_fed piece k)) (kept_fed piece k))) (bytes ++ piece)) (sym f) t.left)
      by (Some fault) e =
          subst (λ x. BytesStand (came_kept piece k) (cond (is_some x) bytes (bytes ++ piece))) (sym e)
          (subst (λ x. BytesStand (cond (is_some x) k (frames_gone (answers (kept_fed piece k)) (kept_fed piece k))) bytes) (sym (h.fault ∙ e)) h)

  pub frames_same : (piece : List ℕ) (k : Kept) (bytes : List ℕ) → BytesStand k bytes → frames_kept piece k ≡ new_frames bytes piece
  frames_same piece k bytes h = by (reading_of bytes).end refl
    where
      dropped : {X : Type 0} (xs : List X) → drop (length xs) xs ≡ []
      dropped [] = refl
      dropped (x ∷ xs) = dropped xs

      by : (end : Option FrameFault) → (reading_of bytes).end ≡ end → frames_kept piece k ≡ new_frames bytes piece
      by None e =
          let f : k.fault ≡ None = h.fault ∙ e in
          ap (λ x. cond (is_some x) [] (frames_given (answers (kept_fed piece k)) (kept_fed piece k))) f
          ∙ (takes_out (answers (kept_fed piece k)) (kept_fed piece k) (bytes ++ piece) (reading_of bytes).frames (law.fed k bytes piece (reading_of bytes).frames h.stands f) (omega arith)).frames
      by (Some fault) e =
          let same : reading_of (bytes ++ piece) ≡ reading_of bytes = broken (law.longer bytes piece) in
          ap (λ x. cond (is_some x) [] (frames_given (answers (kept_fed piece k)) (kept_fed piece k))) (h.fault ∙ e)
          ∙ sym (ap (λ (r : Reading). drop (length (reading_of bytes).frames) r.frames) same ∙ dropped (reading_of bytes).frames)
        where
          broken : GoesOn (reading_of bytes) (reading_of (bytes ++ piece)) → reading_of (bytes ++ piece) ≡ reading_of bytes
          broken g = subst (λ x. IfSome x (λ _. reading_of (bytes ++ piece) ≡ reading_of bytes)) e g.fault
