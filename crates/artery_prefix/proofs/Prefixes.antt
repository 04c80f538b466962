-- The prefix law of the journal of a network.
use Rattle.std.proofs.Common.{◌≡◌, Bool, true, false, cond, List, [], ◌∷◌, ◌++◌, refl, sym, ◌∙◌, ap, subst, append_assoc}
use Rattle.std.specs.Prelude.{Option, Some, None, not}
use Rattle.artery_base.specs.declared.address.UniqueAddress.{UniqueAddress}
use Rattle.artery_judge.specs.Lines.{Entry, Way, Rest, same, is_way, says_sent, says_took, rest_if}
use Rattle.artery_judge.specs.Laws.{sent_to, taken_from, breaks_prefix}
use Rattle.artery_script.specs.declared.script.ScriptLine.{ScriptLine}
use Rattle.artery_machine.specs.declared.world.Outcome.{Outcome}
use Rattle.artery_machine.specs.declared.world.Outcome.TheVariants as outcomes
use Rattle.artery_machine.specs.Parts.{Parts, whole}
use Rattle.artery_machine.specs.Ways.{Ways, whole_ways}
use Rattle.artery_machine.specs.Playing.{run}
use Rattle.artery_alone.specs.Alone.{Keeps, numbers_taken, AreNumbered}
use Rattle.artery_alone.specs.Network.{journal_of, journal}
use Rattle.artery_alone.proofs.Taking.{Counting, whole_counting}
use Rattle.artery_flight.specs.Answers.{AreReadBack}
use Rattle.artery_flight.specs.Numbers.{lines_in}
use Rattle.artery_flight.proofs.Lists.{flat_append, and_left, and_right, and_both, Each, each_push}
use Rattle.artery_flight.proofs.Lines.{IsAmong, among_more, TookIt, TookSent}
use Rattle.artery_flight.proofs.Telling.{unique_is, unique_self}
use Rattle.artery_flight.proofs.Networks.{Holds}
use Rattle.artery_flight.proofs.Playing.{run_holds}
use Rattle.artery_flight.proofs.Meetings.{all_read}
use Rattle.artery_flight.proofs.Numbering.{sent_in_order}
use Rattle.artery_prefix.specs.Prefix.{prefix_law}
use Rattle.artery_prefix.proofs.Orders.{AreFrom, from_numbers, to_numbers, from_front, is_front}
use Rattle.artery_prefix.proofs.Taken.{taken_both, taken_in_order}

pub numbers_in_order : (P : Parts) (W : Ways) → Counting P → (script : List ScriptLine) (me other : UniqueAddress) → AreNumbered (numbers_taken me other (journal P W script))
numbers_in_order P W tally script me other = to_numbers 1 (taken_from other me (journal P W script)) (taken_in_order P W tally script me other)

journal_is : (os : List Outcome) → lines_in os ≡ journal_of os
journal_is [] = refl
journal_is (outcomes.Line moment line ∷ os) = ap (λ ls. (Some moment, line) ∷ ls) (journal_is os)
journal_is (outcomes.Wrote uid dial bytes ∷ os) = journal_is os

sent_both : (a b : UniqueAddress) (xs ys : List Entry) → sent_to a b (xs ++ ys) ≡ sent_to a b xs ++ sent_to a b ys
sent_both a b xs ys = flat_append (λ (e : Entry). rest_if (is_way a b) (says_sent e.1)) xs ys

-- ---- what was taken was sent

took_front : (xs ys : List Entry) → TookSent (xs ++ ys) → TookSent xs
took_front xs ys t before after e h = t before (after ++ ys) e (ap (λ ls. ls ++ ys) h ∙ append_assoc before (e ∷ after) ys)

each_both : (P : Rest → Type 0) (xs ys : List Rest) → Each P xs → Each P ys → Each P (xs ++ ys)
each_both P [] ys h k = k
each_both P (x ∷ xs) ys h k = (h.0, each_both P xs ys h.1 k)

each_taken : (a b : UniqueAddress) (done rest : List Entry) → TookSent (done ++ rest) → Each (λ (x : Rest). IsAmong x (sent_to a b (done ++ rest))) (taken_from a b rest)
each_taken a b done [] t = tt
each_taken a b done (e ∷ rest) t =
    each_both Among (rest_if (is_way b a) (says_took e.1)) (taken_from a b rest)
    (one (says_took e.1) (t done rest e refl))
    (subst (λ ls. Each (λ (x : Rest). IsAmong x (sent_to a b ls)) (taken_from a b rest)) (append_assoc done (e ∷ []) rest) (each_taken a b (done ++ e ∷ []) rest (subst TookSent (sym (append_assoc done (e ∷ []) rest)) t)))
  where
    Among : Rest → Type 0
    Among x = IsAmong x (sent_to a b (done ++ e ∷ rest))

    at_test : (y z : UniqueAddress) (r : Rest) (c : Bool) → is_way b a (y, z) ≡ c → IsAmong r (sent_to z y done) → Each (λ (x : Rest). IsAmong x (sent_to a b (done ++ e ∷ rest))) (cond c (r ∷ []) [])
    at_test y z r true h k =
        let p : b ≡ y = unique_is b y (and_left (same b y) (same a z) h) in
        let q : a ≡ z = unique_is a z (and_right (same b y) (same a z) h) in
        let here : IsAmong r (sent_to a b done) = subst (λ (v : UniqueAddress). IsAmong r (sent_to v b done)) (sym q) (subst (λ (v : UniqueAddress). IsAmong r (sent_to z v done)) (sym p) k) in
        (among_more r (sent_to a b done) (sent_to a b (done ++ e ∷ rest)) (sent_to a b (e ∷ rest), sym (sent_both a b done (e ∷ rest))) here, tt)
    at_test y z r false h k = tt

    one : (s : Option (Way × Rest)) → TookIt done s → Each (λ (x : Rest). IsAmong x (sent_to a b (done ++ e ∷ rest))) (rest_if (is_way b a) s)
    one None k = tt
    one (Some ((y, z), r)) k = at_test y z r (is_way b a (y, z)) refl k

-- ---- the law

pub keeps_prefix : (js : List Entry) → ((a b : UniqueAddress) → AreFrom 1 (taken_from a b js)) → ((a b : UniqueAddress) → AreFrom 1 (sent_to a b js)) → TookSent js → Keeps prefix_law js
keeps_prefix js taken sent took before after e h = by (says_took e.1) refl
  where
    by : (s : Option (Way × Rest)) → says_took e.1 ≡ s → breaks_prefix before s ≡ false
    by None k = refl
    by (Some ((b, a), r)) k =
        let it : IsAmong r (sent_to a b before) = subst (TookIt before) k (took before after e h) in
        let here : rest_if (is_way b a) (says_took e.1) ≡ r ∷ [] = ap (rest_if (is_way b a)) k ∙ ap (λ (c : Bool). cond c (r ∷ []) []) (and_both (same b b) (same a a) (unique_self b) (unique_self a)) in
        let all : taken_from a b js ≡ (taken_from a b before ++ r ∷ []) ++ taken_from a b after =
        ap (taken_from a b) h ∙ taken_both a b before (e ∷ after) ∙ ap (λ rs. taken_from a b before ++ (rs ++ taken_from a b after)) here ∙ sym (append_assoc (taken_from a b before) (r ∷ []) (taken_from a b after)) in
        let numbers : AreFrom 1 (taken_from a b before ++ r ∷ []) = from_front 1 (taken_from a b before ++ r ∷ []) (taken_from a b after) (subst (λ rs. AreFrom 1 rs) all (taken a b)) in
        let those : AreFrom 1 (sent_to a b before) = from_front 1 (sent_to a b before) (sent_to a b (e ∷ after)) (subst (λ rs. AreFrom 1 rs) (ap (sent_to a b) h ∙ sent_both a b before (e ∷ after)) (sent a b)) in
        let front : TookSent before = took_front before (e ∷ after) (subst TookSent h took) in
        let each : Each (λ (x : Rest). IsAmong x (sent_to a b before)) (taken_from a b before ++ r ∷ []) = each_push (λ (x : Rest). IsAmong x (sent_to a b before)) (taken_from a b before) r (each_taken a b [] before front) it in
        ap not (is_front 1 (taken_from a b before ++ r ∷ []) (sent_to a b before) numbers those each)

pub network_prefix : (script : List ScriptLine) → AreReadBack (run {P = whole} {W = whole_ways} script).world.connections → Keeps prefix_law (journal whole whole_ways script)
network_prefix script r =
    let h : Holds (run {P = whole} {W = whole_ways} script).world = run_holds script in
    let os : List Outcome = (run {P = whole} {W = whole_ways} script).world.outcomes in
    keeps_prefix (journal whole whole_ways script) (λ a b. taken_in_order whole whole_ways whole_counting script b a)
    (λ a b. subst (λ ls. AreFrom 1 (sent_to a b ls)) (journal_is os) (from_numbers 1 (sent_to a b (lines_in os)) (sent_in_order script a b)))
    (subst TookSent (journal_is os) (h.out.told.took (all_read (run {P = whole} {W = whole_ways} script).world.connections r)))
