-- What the judge keeps goes on standing for the lines taken.
use Rattle.std.proofs.Common.{◌≡◌, ℕ, Bool, true, false, not, ◌&&◌, ◌||◌, ◌==◌, nat_lt, List, [], ◌∷◌, ◌++◌, length, drop, refl, ap, sym, subst, ◌∙◌, true≢false, arith}
use Rattle.std.specs.Prelude.{Option, Some, None, is_some, flat_map, max, if◌then◌else◌}
use Rattle.std.specs.List.{list_any}
use Rattle.std.proofs.lemmas.Bool.Decides.{nat_tests}
use Rattle.std.proofs.lemmas.List.Folds.{list_any-append}
use Rattle.std.proofs.lemmas.List.{flat_map_more}
use Rattle.artery_base.specs.declared.message.Tell.{Tell}
use Rattle.artery_base.specs.declared.address.UniqueAddress.{UniqueAddress}
use Rattle.artery_journal.specs.declared.line.Line.{Line}
use Rattle.artery_judge.specs.declared.verdict.Law.{Law}
use Rattle.artery_judge.specs.declared.nodes.Node.{Node}
use Rattle.artery_judge.specs.Lines.{Entry, Way, Rest, same, is_way, of, says_sent, says_took, says_told, says_got, says_closed, deals, says_watched, says_unwatched, is_started, is_stopped, rest_if, rests, is_said, with_rest}
use Rattle.artery_judge.specs.Laws.{same_tell, is_prefix, is_subsequence, sent_to, taken_from, is_dial, is_nonce, told_to, got_from, breaks_prefix, breaks_closed, watches_again, ends_nothing, breaks_watch, breaks_ordinary, breaks_stopped, breaks_moment, is_above, is_watch, first_law, broken_law}
use Rattle.artery_judge.specs.Kept.{Kept, Stands, Takes, past_tell, past_tells, node_stopped, node_moment, noted, moment_or_first, finds_prefix, finds_closed, finds_again, finds_nothing, finds_watch, finds_ordinary, finds_stopped, finds_moment, found_law}
use Rattle.artery_judge.proofs.KeyTests.{same_alike}
use Rattle.artery_judge.proofs.Lists.{prefix_on, prefix_of_more, left_of_more, left_past, sub_first, sub_on, sub_left_of_more, sub_of_more, past_after}

nothing_more : {X : Type 0} (xs : List X) → xs ++ [] ≡ xs
nothing_more [] = refl
nothing_more (x ∷ xs) = ap (λ (r : List _). x ∷ r) (nothing_more xs)

with_rest_is : {X : Type 0} (xs rs : List X) → with_rest xs rs ≡ xs ++ rs
with_rest_is xs [] = sym (nothing_more xs)
with_rest_is xs (r ∷ rs) = refl

-- what a line more says is the last
rests_more : {K R : Type 0} (says : Line → Option (K × R)) (test : K → Bool) (before : List Entry) (e : Entry) → rests says test (before ++ e ∷ []) ≡ rests says test before ++ rest_if test (says e.1)
rests_more says test before e = sym (flat_map_more (λ (x : Entry). rest_if test (says x.1)) [] before e)

any_more : (test : Entry → Bool) (before : List Entry) (e : Entry) (old new : Bool) → new ≡ (test e || old) → old ≡ list_any test before → new ≡ list_any test (before ++ e ∷ [])
any_more test before e old new is was = is ∙ turned (test e) old ∙ rw was (sym (list_any-append test before (e ∷ [])))
  where
    turned : (b c : Bool) → (b || c) ≡ (c || (b || false))
    turned true true = refl
    turned true false = refl
    turned false true = refl
    turned false false = refl

-- ---- what follows from no law broken

no_prefix : (p c w o s m : Bool) → first_law p c w o s m ≡ None → p ≡ false
no_prefix true c w o s m h = cc
no_prefix false c w o s m h = refl

no_ordinary : (p c w o s m : Bool) → first_law p c w o s m ≡ None → o ≡ false
no_ordinary true c w o s m h = cc
no_ordinary false true w o s m h = cc
no_ordinary false false true o s m h = cc
no_ordinary false false false true s m h = cc
no_ordinary false false false false s m h = refl

not_false : (b : Bool) → not b ≡ false → b ≡ true
not_false true h = refl
not_false false h = absurd (true≢false h)

both : (b c : Bool) → (b && c) ≡ true → (b ≡ true) × (c ≡ true)
both true c h = (refl, h)
both false c h = absurd (true≢false (sym h))

ways_alike : (a b : UniqueAddress) (way : Way) → is_way a b way ≡ true → (is_way a b ≡ is_way way.0 way.1) × (is_way b a ≡ is_way way.1 way.0)
ways_alike a b way h =
    let s = both (same a way.0) (same b way.1) h in
    ((λ i w. same_alike a way.0 s.0 i w.0 && same_alike b way.1 s.1 i w.1), (λ i w. same_alike b way.1 s.1 i w.0 && same_alike a way.0 s.0 i w.1))

-- ---- the prefix law

still_prefix : (before : List Entry) (a b : UniqueAddress) (o : Option (Way × Rest)) → is_prefix (taken_from a b before) (sent_to a b before) ≡ true → breaks_prefix before o ≡ false → is_prefix (taken_from a b before ++ rest_if (is_way b a) o) (sent_to a b before) ≡ true
still_prefix before a b None h lawful = rw (nothing_more (taken_from a b before)) h
still_prefix before a b (Some ((y, x), r)) h lawful = by (is_way b a (y, x)) refl
  where
    own : is_prefix (taken_from x y before ++ r ∷ []) (sent_to x y before) ≡ true
    own = not_false _ lawful

    by : (c : Bool) → is_way b a (y, x) ≡ c → is_prefix (taken_from a b before ++ (if c then r ∷ [] else [])) (sent_to a b before) ≡ true
    by true is = let s = ways_alike b a (y, x) is in rw (s.0, s.1) own
    by false is = rw (nothing_more (taken_from a b before)) h

-- ---- the ordinary law

nonces_alike : (a b y x : UniqueAddress) (d n : ℕ) → is_way b a ≡ is_way y x → d ≡ n → is_nonce b a d ≡ is_nonce y x n
nonces_alike a b y x d n same_ways e = λ i key. by key i
  where
    by : (key : Way × Option ℕ) → is_nonce b a d key ≡ is_nonce y x n key
    by (way, None) = refl
    by (way, Some m) = λ i. same_ways i way && (e i == m)

still_subsequence : (before : List Entry) (a b : UniqueAddress) (d : ℕ) (o : Option ((Way × Option ℕ) × Tell)) → is_subsequence (got_from a b d before) (told_to a b d before) ≡ true → breaks_ordinary before o ≡ false
    → is_subsequence (got_from a b d before ++ rest_if (is_nonce b a d) o) (told_to a b d before) ≡ true
still_subsequence before a b d None h lawful = rw (nothing_more (got_from a b d before)) h
still_subsequence before a b d (Some ((way, None), m)) h lawful = rw (nothing_more (got_from a b d before)) h
still_subsequence before a b d (Some (((y, x), Some n), m)) h lawful = by (is_way b a (y, x) && (d == n)) refl
  where
    own : is_subsequence (got_from x y n before ++ m ∷ []) (told_to x y n before) ≡ true
    own = not_false _ lawful

    by : (c : Bool) → (is_way b a (y, x) && (d == n)) ≡ c → is_subsequence (got_from a b d before ++ (if c then m ∷ [] else [])) (told_to a b d before) ≡ true
    by true is =
        let s = both (is_way b a (y, x)) (d == n) is in
        let w = ways_alike b a (y, x) s.0 in
        let e : d ≡ n = grind (arith, nat_tests) in
        let gots : got_from a b d before ≡ got_from x y n before = ap (λ t. rests says_got t before) (nonces_alike a b y x d n w.0 e) in
        let tolds : told_to a b d before ≡ told_to x y n before = λ i. rests says_told (λ key. w.1 i key.0 && (e i == key.1)) before in
        rw (gots, tolds) own
    by false is = rw (nothing_more (got_from a b d before)) h

-- ---- the incarnations

seen_more : (c : Bool) (s : Bool) (m : ℕ) (o new : Option Node) → new ≡ (if c then Some (noted s m o) else o) → is_some new ≡ (c || is_some o)
seen_more true s m o new is = rw is refl
seen_more false s m o new is = rw is refl

stopped_more : (c : Bool) (s : Bool) (m : ℕ) (o new : Option Node) → new ≡ (if c then Some (noted s m o) else o) → node_stopped new ≡ ((c && s) || node_stopped o)
stopped_more true s m o new is = rw is (turned (node_stopped o) s)
  where
    turned : (b c : Bool) → (b || c) ≡ (c || b)
    turned true true = refl
    turned true false = refl
    turned false true = refl
    turned false false = refl
stopped_more false s m o new is = rw is refl

below_max : (x u : ℕ) (m : Option ℕ) → nat_lt x (max u (moment_or_first m)) ≡ (is_above x m || nat_lt x u)
below_max x u None = grind (arith, nat_tests)
below_max x u (Some m) = grind (arith, nat_tests)

moment_more : (x : ℕ) (c s : Bool) (m : Option ℕ) (o new : Option Node) → new ≡ (if c then Some (noted s (moment_or_first m) o) else o) → nat_lt x (node_moment new) ≡ ((c && is_above x m) || nat_lt x (node_moment o))
moment_more x true s m o new is = rw is (below_max x (node_moment o) m)
moment_more x false s m o new is = rw is refl

-- ---- what is kept finds what is broken

prefix_found : (k : Kept) (before : List Entry) → Stands k before → (o : Option (Way × Rest)) → finds_prefix k o ≡ breaks_prefix before o
prefix_found k before st None = refl
prefix_found k before st (Some ((b, a), r)) = ap not (rw (st.sent a b) (sym (prefix_on (taken_from a b before) (r ∷ []) (sent_to a b before) (st.taken a b))))

closed_found : (k : Kept) (before : List Entry) → Stands k before → (o : Option Way) → finds_closed k o ≡ breaks_closed before o
closed_found k before st None = refl
closed_found k before st (Some (a, b)) = st.closed a b

again_found : (k : Kept) (before : List Entry) → Stands k before → (o : Option (UniqueAddress × ℕ)) → finds_again k o ≡ watches_again before o
again_found k before st None = refl
again_found k before st (Some (a, id)) = st.began a id

nothing_found : (k : Kept) (before : List Entry) → Stands k before → (o : Option (UniqueAddress × ℕ)) → finds_nothing k o ≡ ends_nothing before o
nothing_found k before st None = refl
nothing_found k before st (Some (a, id)) = λ i. not (st.began a id i && not (st.ended a id i))

and_true : (b : Bool) → b ≡ (b && true)
and_true true = refl
and_true false = refl

ordinary_found : (k : Kept) (before : List Entry) → Stands k before → (o : Option ((Way × Option ℕ) × Tell)) → finds_ordinary k o ≡ breaks_ordinary before o
ordinary_found k before st None = refl
ordinary_found k before st (Some ((way, None), m)) = refl
ordinary_found k before st (Some (((b, a), Some d), m)) =
    let on = sub_on (got_from a b d before) (m ∷ []) (told_to a b d before) (st.got a b d) in
    let one = sub_first m [] (past_tells (got_from a b d before) (told_to a b d before)) in
    ap not (rw (st.told a b d) (and_true _ ∙ sym one ∙ sym on))

stopped_found : (k : Kept) (before : List Entry) → Stands k before → (line : Line) → finds_stopped k line ≡ breaks_stopped before line
stopped_found k before st line = λ i. st.stopped (of line) i || (is_started line && st.seen (of line) i)

moment_found : (k : Kept) (before : List Entry) → Stands k before → (e : Entry) → finds_moment k e ≡ breaks_moment before e
moment_found k before st (None, line) = refl
moment_found k before st (Some m, line) = st.moment (of line) m

pub found_is_broken : (k : Kept) (before : List Entry) (e : Entry) → Stands k before → found_law k e ≡ broken_law before e
found_is_broken k before e st =
    λ i. first_law (prefix_found k before st (says_took e.1) i) (closed_found k before st (deals e.1) i) (again_found k before st (says_watched e.1) i || nothing_found k before st (says_unwatched e.1) i)
    (ordinary_found k before st (says_got e.1) i) (stopped_found k before st e.1 i) (moment_found k before st e i)

-- ---- a line more

sent_left : (taken all took more q new : List Rest) → is_prefix taken all ≡ true → q ≡ drop (length taken) all → new ≡ drop (length took) (with_rest q more) → new ≡ drop (length (taken ++ took)) (all ++ more)
sent_left taken all took more q new h was is =
    is ∙ ap (drop (length took)) (with_rest_is q more ∙ ap (λ (l : List Rest). l ++ more) was ∙ sym (left_of_more taken all more h)) ∙ sym (left_past taken took (all ++ more))

told_left : (gone all got more q new : List Tell) → is_subsequence gone all ≡ true → q ≡ past_tells gone all → new ≡ past_tells got (with_rest q more) → new ≡ past_tells (gone ++ got) (all ++ more)
told_left gone all got more q new h was is =
    is ∙ ap (past_tells got) (with_rest_is q more ∙ ap (λ (l : List Tell). l ++ more) was ∙ sym (sub_left_of_more gone all more h)) ∙ sym (past_after gone got (all ++ more))

pub takes_stands : (before : List Entry) (e : Entry) (old new : Kept) → Takes e old new → Stands old before → broken_law before e ≡ None → Stands new (before ++ e ∷ [])
takes_stands before e old new tk st lawful = record {
  taken = λ a b.
      rw (rests_more says_took (is_way b a) before e, rests_more says_sent (is_way a b) before e)
      (prefix_of_more (taken_from a b before ++ rest_if (is_way b a) (says_took e.1)) (sent_to a b before) (rest_if (is_way a b) (says_sent e.1)) (still_prefix before a b (says_took e.1) (st.taken a b) (no_prefix _ _ _ _ _ _ lawful)));
  sent = λ a b.
      rw (rests_more says_took (is_way b a) before e, rests_more says_sent (is_way a b) before e)
      (sent_left (taken_from a b before) (sent_to a b before) (rest_if (is_way b a) (says_took e.1)) (rest_if (is_way a b) (says_sent e.1)) (old.sent a b) (new.sent a b) (st.taken a b) (st.sent a b) (tk.sent a b));
  got = λ a b d.
      rw (rests_more says_got (is_nonce b a d) before e, rests_more says_told (is_dial a b d) before e)
      (sub_of_more (got_from a b d before ++ rest_if (is_nonce b a d) (says_got e.1)) (told_to a b d before) (rest_if (is_dial a b d) (says_told e.1)) (still_subsequence before a b d (says_got e.1) (st.got a b d) (no_ordinary _ _ _ _ _ _ lawful)));
  told = λ a b d.
      rw (rests_more says_got (is_nonce b a d) before e, rests_more says_told (is_dial a b d) before e)
      (told_left (got_from a b d before) (told_to a b d before) (rest_if (is_nonce b a d) (says_got e.1)) (rest_if (is_dial a b d) (says_told e.1)) (old.told a b d) (new.told a b d) (st.got a b d) (st.told a b d) (tk.told a b d));
  closed = λ a b. any_more (λ x. is_said (is_way a b) (says_closed x.1)) before e _ _ (tk.closed a b) (st.closed a b);
  began = λ a id. any_more (λ x. is_said (is_watch a id) (says_watched x.1)) before e _ _ (tk.began a id) (st.began a id);
  ended = λ a id. any_more (λ x. is_said (is_watch a id) (says_unwatched x.1)) before e _ _ (tk.ended a id) (st.ended a id);
  seen = λ a. any_more (λ x. same a (of x.1)) before e _ _ (seen_more (same a (of e.1)) _ _ (old.node a) (new.node a) (tk.node a)) (st.seen a);
  stopped = λ a. any_more (λ x. same a (of x.1) && is_stopped x.1) before e _ _ (stopped_more (same a (of e.1)) _ _ (old.node a) (new.node a) (tk.node a)) (st.stopped a);
  moment = λ a m. any_more (λ x. same a (of x.1) && is_above m x.0) before e _ _ (moment_more m (same a (of e.1)) (is_stopped e.1) e.0 (old.node a) (new.node a) (tk.node a)) (st.moment a m);
}
