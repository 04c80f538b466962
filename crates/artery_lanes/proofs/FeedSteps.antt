-- What was taken of a lane, as the offers of a feed.
use Rattle.std.proofs.Common.{◌≡◌, ℕ, zero, suc, ◌+◌, ◌<◌, ◌≤◌, ◌||◌, ◌⊎◌, inl, inr, Bool, true, false, List, [], ◌∷◌, ◌++◌, length, replicate, slice_set, refl, ap, sym, subst, ◌∙◌, arith}
use Rattle.std.specs.List.{list_all}
use Rattle.std.proofs.lemmas.List.{set-append_left, length_push, replicate_more}
use Rattle.std.proofs.lemmas.List.Folds.{list_all-append}
use Rattle.std.proofs.Math.Seq.{set-append_seam}
use Rattle.std.proofs.Math.Nat.{eq-or-lt_of_le}
use Rattle.std.proofs.Math.Numerals.{suc-eq-add-one}
use Rattle.artery_net.specs.declared.offer.Offer.{Offer}
use Rattle.artery_net.specs.declared.offer.Offer.TheVariants as offers
use Rattle.artery_net.specs.Feeding.{has_finished, all_finished, finishes}
use Rattle.artery_lanes.specs.declared.entry.Entry.{Entry}
use Rattle.artery_lanes.specs.declared.entry.Item.{Item}
use Rattle.artery_lanes.specs.declared.entry.Item.TheVariants as items
use Rattle.artery_lanes.specs.Lane.{IsNext, takes, made_of, got_of}
use Rattle.artery_lanes.specs.declared.lane_view.LaneView.{LaneView}
use Rattle.artery_lanes.specs.declared.lane_view.LaneView.TheVariants.{Sender, Taker, Spent}
use Rattle.artery_lanes.specs.Calls.{TakerState, Takes, offer_of, given_of, finishing, marked}

-- an entry that is taken is the offer that is given last
pub given_last : (got : List Entry) (e : Entry) → given_of (got ++ e ∷ []) ≡ given_of got ++ offer_of e ∷ []
given_last [] e = refl
given_last (x ∷ got) e = ap (λ os. offer_of x ∷ os) (given_last got e)

-- so a take gives its offer
pub given_next : (t t' : TakerState) (o : Offer) → Takes t t' o → given_of t'.got ≡ given_of t.got ++ o ∷ []
given_next t t' o (e, next, is, after) = ap (λ (s : TakerState). given_of s.got) after ∙ given_last t.got e ∙ ap (λ x. given_of t.got ++ x ∷ []) (sym is)

-- whether a sender has finished, once an offer is given
finished_last : (s : ℕ) (os : List Offer) (o : Offer) → has_finished s (os ++ o ∷ []) ≡ (has_finished s os || finishes s o)
finished_last s [] o = grind arith
finished_last s (x ∷ os) o = grind (arith, finished_last s os o)

-- there is a mark for each sender
marks_len : (n : ℕ) (os : List Offer) → length (finishing n os) ≡ n
marks_len zero os = refl
marks_len (suc n) os = length_push (finishing n os) (has_finished n os) ∙ ap (λ k. k + 1) (marks_len n os) ∙ (let e : n + 1 ≡ suc n = omega arith in e)

-- so the next entry has its place
pub has_place : (made : ℕ) (got : List Entry) (e : Entry) (marks : List Bool) → marks ≡ finishing made (given_of got) → IsNext made got e → e.sender < length marks
has_place made got e marks is next = subst (λ n. e.sender < n) (sym (ap length is ∙ marks_len made (given_of got))) next.0

-- an offer that finishes nobody below a number leaves the marks
unmarked : (n : ℕ) (os : List Offer) (o : Offer) → ((s : ℕ) → s < n → finishes s o ≡ false) → finishing n (os ++ o ∷ []) ≡ finishing n os
unmarked zero os o h = refl
unmarked (suc n) os o h =
    let here : has_finished n (os ++ o ∷ []) ≡ has_finished n os = grind (arith, finished_last n os o, h n (omega arith)) in
    ap (λ marks. marks ++ has_finished n (os ++ o ∷ []) ∷ []) (unmarked n os o (λ s l. h s (omega (arith, l)))) ∙ ap (λ b. finishing n os ++ b ∷ []) here

-- a Finished marks its sender, where it does so among those before the last one
finish_by : (n s : ℕ) (os : List Offer) → (s < n → finishing n (os ++ offers.Finished s ∷ []) ≡ slice_set (finishing n os) s true) → (s ≡ n) ⊎ (s < n) → finishing (suc n) (os ++ offers.Finished s ∷ []) ≡ slice_set (finishing (suc n) os) s true
finish_by n s os more (inl e) =
    let same : finishing n (os ++ offers.Finished s ∷ []) ≡ finishing n os = unmarked n os (offers.Finished s) (λ t l. grind (arith, e, l)) in
    let here : has_finished n (os ++ offers.Finished s ∷ []) ≡ true = grind (arith, finished_last n os (offers.Finished s), e) in
    let place : s ≡ length (finishing n os) = e ∙ sym (marks_len n os) in
    ap (λ marks. marks ++ has_finished n (os ++ offers.Finished s ∷ []) ∷ []) same ∙ ap (λ b. finishing n os ++ b ∷ []) here ∙ sym (ap (λ k. slice_set (finishing n os ++ has_finished n os ∷ []) k true) place ∙ set-append_seam (finishing n os) (has_finished n os) [] true)
finish_by n s os more (inr l) =
    let here : has_finished n (os ++ offers.Finished s ∷ []) ≡ has_finished n os = grind (arith, finished_last n os (offers.Finished s), l) in
    ap (λ marks. marks ++ has_finished n (os ++ offers.Finished s ∷ []) ∷ []) (more l) ∙ ap (λ b. slice_set (finishing n os) s true ++ b ∷ []) here ∙ sym (set-append_left (finishing n os) (has_finished n os ∷ []) s true (subst (λ k. s < k) (sym (marks_len n os)) l))

-- so it does among all
finish_marks : (n s : ℕ) (os : List Offer) → s < n → finishing n (os ++ offers.Finished s ∷ []) ≡ slice_set (finishing n os) s true
finish_marks zero s os l = absurd (omega (arith, l))
finish_marks (suc n) s os l = finish_by n s os (finish_marks n s os) (eq-or-lt_of_le (let e : s ≤ n = omega (arith, l) in e))

-- the marks once an item was taken
marked_item : (made s k : ℕ) (os : List Offer) (x : Item) → s < made → marked s x (finishing made os) ≡ finishing made (os ++ offer_of (record { sender = s; k = k; item = x }) ∷ [])
marked_item made s k os (items.Line request) l = sym (unmarked made os (offers.Line s k request) (λ _ _. refl))
marked_item made s k os (items.Skipped seen now) l = sym (unmarked made os (offers.Skipped s k seen now) (λ _ _. refl))
marked_item made s k os items.Finished l = sym (finish_marks made s os l)

-- so the marks stay those of what was taken
pub marked_next : (made : ℕ) (got : List Entry) (e : Entry) (marks : List Bool) → marks ≡ finishing made (given_of got) → IsNext made got e → marked e.sender e.item marks ≡ finishing made (given_of (got ++ e ∷ []))
marked_next made got e marks is next = ap (marked e.sender e.item) is ∙ marked_item made e.sender e.k (given_of got) e.item next.0 ∙ ap (finishing made) (sym (given_last got e))

-- the entry that a pop takes has its place
pub popped_place : (v w : LaneView) (e : Entry) (marks : List Bool) → takes v e w → marks ≡ finishing (made_of v) (given_of (got_of v)) → e.sender < length marks
popped_place (Sender from list) w e marks h is = absurd h
popped_place (Taker made got ended) w e marks h is = has_place made got e marks is h.0
popped_place Spent w e marks h is = absurd h

-- and is marked
pub popped_marks : (v w : LaneView) (e : Entry) (marks after : List Bool) → takes v e w → marks ≡ finishing (made_of v) (given_of (got_of v)) → after ≡ marked e.sender e.item marks → after ≡ finishing (made_of w) (given_of (got_of w))
popped_marks (Sender from list) w e marks after h is m = absurd h
popped_marks (Taker made got ended) w e marks after h is m = m ∙ marked_next made got e marks is h.0 ∙ sym (ap (λ x. finishing (made_of x) (given_of (got_of x))) h.1)
popped_marks Spent w e marks after h is m = absurd h

-- of nobody is a Finished among no offers
pub none_finished : (n : ℕ) → replicate n false ≡ finishing n []
none_finished zero = refl
none_finished (suc n) = ap (λ k. replicate k false) (suc-eq-add-one n) ∙ sym (replicate_more n false) ∙ ap (λ marks. marks ++ false ∷ []) (none_finished n)

-- all are marked where all have finished
all_are : (n : ℕ) (os : List Offer) → list_all (λ b. b) (finishing n os) ≡ all_finished n os
all_are zero os = refl
all_are (suc n) os = grind (arith, list_all-append (λ b. b) (finishing n os) (has_finished n os ∷ []), all_are n os)

-- so the marks tell whether all have
pub ended_is : (n : ℕ) (os : List Offer) (marks : List Bool) (all : Bool) → all ≡ list_all (λ b. b) marks → marks ≡ finishing n os → all ≡ all_finished n os
ended_is n os marks all h is = h ∙ ap (list_all (λ b. b)) is ∙ all_are n os
