-- What is left of a list of offers keeps a feed from ending.
use Rattle.std.proofs.Common.{◌≡◌, ℕ, zero, suc, ◌<◌, true, false, List, [], ◌∷◌, ◌++◌, length, take, ◌-◌, length-append, append_assoc, refl, ap, sym, subst, ◌∙◌, arith}
use Rattle.std.proofs.Math.Seq.{take-append_seam}
use Rattle.artery_net.specs.declared.offer.Offer.{Offer}
use Rattle.artery_net.specs.Feeding.{has_finished, all_finished, sender_of, AreWhole, before}

-- where a sender has not finished, not all have
pub not_all : (senders s : ℕ) (os : List Offer) → s < senders → has_finished s os ≡ false → all_finished senders os ≡ false
not_all zero s os h f = absurd (omega (arith, h))
not_all (suc n) s os h f = grind (arith, f, not_all n s os)

-- what stands before a part that ends a list is the front
before_is : (front left all : List Offer) → front ++ left ≡ all → before all left ≡ front
before_is front left all e =
    let count : length (front ++ left) - length left ≡ length front = omega (arith, length-append front left) in
    subst (λ xs. before xs left ≡ front) e (ap (λ n. take n (front ++ left)) count ∙ take-append_seam front left)

-- nothing stands before the whole list
pub none_before : (all : List Offer) → before all all ≡ []
none_before all = before_is [] all all refl

-- the list is an offer behind those given, and then the rest
joined : (given left' all : List Offer) (o : Offer) → given ++ o ∷ left' ≡ all → (given ++ o ∷ []) ++ left' ≡ all
joined given left' all o h = append_assoc given (o ∷ []) left' ∙ h

-- the first offer of those left joins those given
pub given_next : (all left left' : List Offer) (o : Offer) → before all left ++ left ≡ all → left ≡ o ∷ left' → before all left' ≡ before all left ++ o ∷ []
given_next all left left' o h e = before_is (before all left ++ o ∷ []) left' all (joined (before all left) left' all o (sym (ap (λ xs. before all left ++ xs) e) ∙ h))

-- and the list is still what was given and then what is left
pub kept_next : (all left left' : List Offer) (o : Offer) → before all left ++ left ≡ all → left ≡ o ∷ left' → before all left' ++ left' ≡ all
kept_next all left left' o h e = ap (λ xs. xs ++ left') (given_next all left left' o h e) ∙ joined (before all left) left' all o (sym (ap (λ xs. before all left ++ xs) e) ∙ h)

-- what is left then may be given
pub whole_next : (senders : ℕ) (all left left' : List Offer) (o : Offer) → before all left ++ left ≡ all → AreWhole senders (before all left) left → left ≡ o ∷ left' → AreWhole senders (before all left') left'
whole_next senders all left left' o h w e = subst (λ given. AreWhole senders given left') (sym (given_next all left left' o h e)) (subst (AreWhole senders (before all left)) e w).2

-- while an offer is left, not all senders have finished
pub not_ended : (senders : ℕ) (given left left' : List Offer) (o : Offer) → AreWhole senders given left → left ≡ o ∷ left' → all_finished senders given ≡ false
not_ended senders given left left' o w e = let h : AreWhole senders given (o ∷ left') = subst (AreWhole senders given) e w in not_all senders (sender_of o) given h.0 h.1

-- where none is left, all have
pub ended : (senders : ℕ) (given left : List Offer) → AreWhole senders given left → left ≡ [] → all_finished senders given ≡ true
ended senders given left w e = subst (AreWhole senders given) e w
